-- What the code knows of what changes make of records, by their numbers.
use Rattle.std.specs.Prelude.{◌≡◌, ◌≢◌, ℕ, ◌+◌, ◌-◌, ◌≤◌, ◌<◌, Bool, true, List, [], set, nat_le, slice_get}
use Rattle.std.specs.Prelude.{Option, Some, None, if◌then◌else◌}
use Rattle.std.specs.List.{AllByRecursion}
use Rattle.std.specs.Option.{option_map_or}
use Rattle.rec_journal.specs.declared.event.EditStep.{EditStep}
use Rattle.rec_diff.specs.declared.reverting.making.Among.{Among}
use Rattle.rec_diff.specs.declared.reverting.making.Pair.{Pair}
use Rattle.rec_diff.specs.declared.turn.Turn.{Turn}
use Rattle.rec_diff.specs.Making.{IsFull, StepsMake, touched}
use Rattle.rec_diff.specs.Placed.{IsPlaced, Placed, PlacedRecord, PlacedText, is_blank, size}
use Rattle.rec_diff.specs.proving.Reading.{AreMade, IsFieldOf, fields_at}

-- ---- what is noted

abbrev pub pair_of : ℕ → ℕ → Pair
pair_of one other = record { one = one; other = other }

-- the less of two numbers, where there are two
abbrev pub least : ℕ → Option ℕ → ℕ
least other None = other
least other (Some earlier) = if nat_le earlier other then earlier else other

-- with this number noted at that one, unless a less one is
abbrev pub noted : ℕ → ℕ → List (Option ℕ) → List (Option ℕ)
noted one other made = option_map_or (λ found. set made one (Some (least other found))) (slice_get made one) made

abbrev pub pair_noted : Option Pair → List (Option ℕ) → List (Option ℕ)
pair_noted None made = made
pair_noted (Some pair) made = noted pair.one pair.other made

-- it is the least number that is seen
abbrev pub IsLeast : (ℕ → Type 0) → Option ℕ → Type 0
IsLeast seen None = (k : ℕ) → seen k → ⊥
IsLeast seen (Some k) = seen k × ((j : ℕ) → seen j → k ≤ j)

abbrev pub AreLeast : (ℕ → ℕ → Type 0) → List (Option ℕ) → Type 0
AreLeast seen made = (r : ℕ) (m : Option ℕ) → slice_get made r ≡ Some m → IsLeast (seen r) m

-- the number that is made of another one
abbrev pub made_at : List (Option ℕ) → Option ℕ → Option ℕ
made_at made None = None
made_at made (Some k) = option_map_or (λ m. m) (slice_get made k) None

-- ---- records that share a field

-- the element of this number has that one in the other text, and they are fields of these records
abbrev pub IsSharedBy : PlacedText → PlacedText → ℕ → Option ℕ → ℕ → ℕ → Type 0
IsSharedBy text other i number r k = (n : ℕ) × (number ≡ Some n) × IsFieldOf text i r × IsFieldOf other n k

abbrev pub AreSharedIn : PlacedText → PlacedText → ℕ → List (Option ℕ) → ℕ → ℕ → Type 0
AreSharedIn text other count numbers r k =
    (i : ℕ) × (number : Option ℕ) × (i < count) × (slice_get numbers i ≡ Some number)
    × IsSharedBy text other i number r k

abbrev pub AreSharedBy : PlacedText → PlacedText → List (Option ℕ) → ℕ → ℕ → Type 0
AreSharedBy text other numbers r k =
    (i : ℕ) × (number : Option ℕ) × (slice_get numbers i ≡ Some number) × IsSharedBy text other i number r k

-- ---- records that take the place of others

-- with one more element, which is blank or not, and may be a field of a record
abbrev pub or_fields : Among → Option ℕ → Among
or_fields Among.Nothing None = Among.Nothing
or_fields Among.Nothing (Some k) = Among.Fields k
or_fields among owner = among

abbrev pub among_with : Among → Bool → Option ℕ → Among
among_with among blank owner = if blank then Among.Blank else or_fields among owner

abbrev pub IsBlankAt : PlacedText → ℕ → Type 0
IsBlankAt text i = (x : Placed) × (slice_get text.elements i ≡ Some x) × (is_blank x ≡ true)

-- what there is among the elements of these numbers
abbrev pub IsAmongThese : PlacedText → ℕ → ℕ → Among → Type 0
IsAmongThese text from to Among.Nothing = (i : ℕ) → from ≤ i → i < to → (IsBlankAt text i → ⊥)
    × ((k : ℕ) → IsFieldOf text i k → ⊥)
IsAmongThese text from to (Among.Fields k) = ((i : ℕ) → from ≤ i → i < to → IsBlankAt text i → ⊥)
    × ((i : ℕ) × (from ≤ i) × (i < to) × IsFieldOf text i k)
IsAmongThese text from to Among.Blank = (i : ℕ) × (from ≤ i) × (i < to) × IsBlankAt text i

-- the elements before this number end before a place, or there
abbrev pub ArePassed : PlacedText → ℕ → ℕ → Type 0
ArePassed text index at = (i : ℕ) (x : Placed) → i < index → slice_get text.elements i ≡ Some x → x.at + size x ≤ at

-- the one of this number doesn't
abbrev pub IsNext : PlacedText → ℕ → ℕ → Type 0
IsNext text index at = (x : Placed) → slice_get text.elements index ≡ Some x → at < x.at + size x

-- what there is from the element of this number on, up to a place
pub record IsAmong (text : PlacedText) (from end : ℕ) (among : Among) : Type 0 where
  pub to : ℕ
  pub before : (i : ℕ) (x : Placed) → from ≤ i → i < to → slice_get text.elements i ≡ Some x → x.at < end
  pub next : (x : Placed) → slice_get text.elements to ≡ Some x → end ≤ x.at
  pub these : IsAmongThese text from to among

-- fields of the one go and fields of the other come, by this turn, with no blank line in it
pub record IsInPlaceBy (text other : PlacedText) (t : Turn) (r k : ℕ) : Type 0 where
  pub old_lines : AllByRecursion IsFull (touched t.start.old (t.end.old - t.start.old) text.elements)
  pub new_lines : AllByRecursion IsFull (touched t.start.new (t.end.new - t.start.new) other.elements)
  pub old_fields : touched t.start.old (t.end.old - t.start.old) (fields_at text r) ≢ []
  pub new_fields : touched t.start.new (t.end.new - t.start.new) (fields_at other k) ≢ []

abbrev pub AreInPlaceIn : PlacedText → PlacedText → ℕ → List Turn → ℕ → ℕ → Type 0
AreInPlaceIn text other count turns r k =
    (i : ℕ) × (t : Turn) × (i < count) × (slice_get turns i ≡ Some t) × IsInPlaceBy text other t r k

abbrev pub AreInPlaceBy : PlacedText → PlacedText → List Turn → ℕ → ℕ → Type 0
AreInPlaceBy text other turns r k =
    (i : ℕ) × (t : Turn) × (slice_get turns i ≡ Some t) × IsInPlaceBy text other t r k

-- ---- steps

-- nothing is made by steps, to whatever text they lead
abbrev pub MakeNothing : List EditStep → List ℕ → Type 0
MakeNothing steps before = (after : List ℕ) (one other : PlacedRecord) → StepsMake steps before after one other → ⊥

-- the numbers that steps make of the records of a text
abbrev pub AreMadeBySteps : List EditStep → List ℕ → PlacedText → List ℕ → List (Option ℕ) → Type 0
AreMadeBySteps steps before text after made =
    (next : PlacedText) → IsPlaced after next → AreMade (StepsMake steps before after) text next made
