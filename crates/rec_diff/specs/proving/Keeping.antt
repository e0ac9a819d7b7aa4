-- What the code knows of four texts: those before an edit and after it, that of here, and that left without the edit.
use Rattle.std.specs.Prelude.{◌≡◌, ◌⊎◌, ℕ, ◌+◌, ◌≤◌, ◌<◌, ◌==◌, nat_le, Bool, true, false, not, ◌&&◌, ◌||◌}
use Rattle.std.specs.Prelude.{List, [], ◌∷◌, ◌++◌, Any, filter, length, set, slice_get, Option, Some, None, is_some}
use Rattle.std.specs.Prelude.{unwrap_or, if◌then◌else◌}
use Rattle.std.specs.List.{AllByRecursion}
use Rattle.rec_text.specs.declared.element.Element.{Element}
use Rattle.rec_journal.specs.declared.event.EditStep.{EditStep}
use Rattle.rec_journal.specs.Revisions.{joined_steps, step_lists}
use Rattle.rec_diff.specs.declared.reverting.edits.Edits.{Edits}
use Rattle.rec_diff.specs.declared.reverting.keeping.known.Known.{Known}
use Rattle.rec_diff.specs.declared.reverting.keeping.Readings.{Readings}
use Rattle.rec_diff.specs.declared.reverting.keeping.sides.Side.{Side}
use Rattle.rec_diff.specs.declared.reverting.spread.Spread.{Spread}
use Rattle.rec_diff.specs.declared.reverting.weaving.Woven.{Woven}
use Rattle.rec_diff.specs.declared.turn.Turn.{Turn}
use Rattle.rec_diff.specs.Changes.{Stretch}
use Rattle.rec_diff.specs.Keeping.{HasWhatIsLeft, IsChangeBy, IsCutBy, IsWhole}
use Rattle.rec_diff.specs.Making.{IsFirst, IsTakenOut, Shares, StaysAmong, StepsMake, WasAmong}
use Rattle.rec_diff.specs.Placed.{IsPlaced, Placed, PlacedRecord, PlacedText, is_field, size}
use Rattle.rec_diff.specs.proving.Making.{made_at}
use Rattle.rec_diff.specs.proving.Reading.{AreMade, AreNumbers, AreOrigins, AreSpreads, AreTurnsOf, IsReading, StaysIn}
use Rattle.rec_diff.specs.proving.Reading.{WasIn, placed, placed_of, text_of_reading, type_at}

-- the steps of later edits
abbrev pub later_steps : Edits → List EditStep
later_steps edits = joined_steps (step_lists edits.later.now)

-- ---- the turns

-- what leads from each of the four texts to the next
pub record AreLed (edits : Edits) (woven : Woven) (left : List ℕ)
    (change later ahead back : List Stretch) : Type 0 where
  pub change_turns : AreTurnsOf change edits.before.now edits.after.now woven.change.items
  pub later_turns : AreTurnsOf later edits.after.now edits.here.now woven.later.items
  pub ahead_turns : AreTurnsOf ahead edits.before.now left woven.ahead.items
  pub back_turns : AreTurnsOf back edits.here.now left woven.back.items
  pub change_is : IsChangeBy edits.steps.now edits.before.now edits.after.now change
  pub later_is : IsChangeBy (later_steps edits) edits.after.now edits.here.now later

-- the same of three of them
abbrev pub IsLed : Edits → Woven → List ℕ → Type 0
IsLed edits woven left = (change later ahead back : List Stretch) × AreLed edits woven left change later ahead back

-- ---- the texts

-- one of them doesn't read
abbrev pub DontAllRead : Edits → List ℕ → Type 0
DontAllRead edits left = (before after here rest : PlacedText) → IsPlaced edits.before.now before
    → IsPlaced edits.after.now after → IsPlaced edits.here.now here → IsPlaced left rest → ⊥

pub record AreRead (edits : Edits) (rest : List ℕ) (readings : Readings) : Type 0 where
  pub before : IsReading readings.before
  pub is_before : text_of_reading readings.before ≡ edits.before.now
  pub after : IsReading readings.after
  pub is_after : text_of_reading readings.after ≡ edits.after.now
  pub here : IsReading readings.here
  pub is_here : text_of_reading readings.here ≡ edits.here.now
  pub left : IsReading readings.left
  pub is_left : text_of_reading readings.left ≡ rest

-- ---- a text beside what is left

pub record IsSide (parts : List Stretch) (text left : PlacedText) (side : Side) : Type 0 where
  pub in_left : AreNumbers parts text left side.in_left.items
  pub of_left : AreOrigins parts text left side.of_left.items
  pub to_left : AreSpreads (StaysIn parts left) text side.to_left.items
  pub from_text : AreSpreads (WasIn parts text) left side.from_text.items

abbrev pub spread_in : List Spread → ℕ → Spread
spread_in spreads k = unwrap_or (slice_get spreads k) Spread.Nowhere

-- nothing is in any other record
abbrev pub IsWithin : Spread → ℕ → Type 0
IsWithin Spread.Nowhere k = Unit {0}
IsWithin (Spread.In j) k = j ≡ k
IsWithin Spread.Several k = ⊥

-- ---- records

-- records of these numbers lie apart in what is left as one that holds what is left of both
pub record IsPutOf (ahead back : List Stretch) (before here left : PlacedText) (old new record_left : PlacedRecord)
    : Type 0 where
  pub of_old : HasWhatIsLeft ahead before old left record_left
  pub of_new : HasWhatIsLeft back here new left record_left
  pub old_type : old.record_type ≡ record_left.record_type
  pub new_type : new.record_type ≡ record_left.record_type

-- a record of before leads to one of here by these numbers, and what is left of both is in one
abbrev pub IsPutBy : List (Option ℕ) → List Stretch → List Stretch → PlacedText → PlacedText → PlacedText
    → PlacedRecord → Type 0
IsPutBy led ahead back before here left record_left = (i j : ℕ) × (old new : PlacedRecord)
    × (slice_get led i ≡ Some (Some j)) × (slice_get before.records i ≡ Some old)
    × (slice_get here.records j ≡ Some new) × IsPutOf ahead back before here left old new record_left

-- of what is left nothing comes about that was in neither text
abbrev pub HaveNoOther : List Stretch → List Stretch → PlacedText → PlacedText → PlacedText → Type 0
HaveNoOther ahead back before here left =
    AllByRecursion (λ y. WasAmong back here.elements y ⊎ WasAmong ahead before.elements y) left.elements

-- this record of before, of which nothing is left, led to that one, which is of its type
abbrev pub IsGoneTo : PlacedText → PlacedText → List Spread → ℕ → Option ℕ → ℕ → Type 0
IsGoneTo before here to_left i new j = (new ≡ Some j) × (spread_in to_left i ≡ Spread.Nowhere)
    × (type_at before i ≡ type_at here j)

-- one of them did
abbrev pub IsOfGone : List (Option ℕ) → PlacedText → PlacedText → List Spread → ℕ → Type 0
IsOfGone led before here to_left j = (i : ℕ) × (new : Option ℕ) × (slice_get led i ≡ Some new)
    × IsGoneTo before here to_left i new j

-- one of the first of them did
abbrev pub IsOfGoneIn : ℕ → List (Option ℕ) → PlacedText → PlacedText → List Spread → ℕ → Type 0
IsOfGoneIn count led before here to_left j = (i : ℕ) × (new : Option ℕ) × (i < count) × (slice_get led i ≡ Some new)
    × IsGoneTo before here to_left i new j

-- a record holds what is left of one that is marked, from which it came
abbrev pub IsPutOfGone : List Bool → List Stretch → PlacedText → PlacedText → List Spread → ℕ → PlacedRecord → Type 0
IsPutOfGone of_gone back here left from_text k record_left = (j : ℕ) × (new : PlacedRecord)
    × (spread_in from_text k ≡ Spread.In j) × (slice_get of_gone j ≡ Some true) × (slice_get here.records j ≡ Some new)
    × HasWhatIsLeft back here new left record_left × (new.record_type ≡ record_left.record_type)

-- what leads from records of the one text to records of the other
abbrev pub AreLeading : List (Option ℕ) → PlacedText → PlacedText → Type 0
AreLeading led before here = (i j : ℕ) → slice_get led i ≡ Some (Some j) → (i < length before.records)
    × (j < length here.records)

-- with one more marked
abbrev pub marked : Option ℕ → List Bool → List Bool
marked None made = made
marked (Some j) made = set made j true

-- the elements of these indexes have these numbers, as far as there are both
abbrev pub is_number : Option ℕ → ℕ → Bool
is_number None wanted = false
is_number (Some number) wanted = number == wanted

abbrev pub all_numbered : List (Option ℕ) → List ℕ → List ℕ → Bool
all_numbered numbers [] wanted = true
all_numbered numbers (e ∷ es) [] = true
all_numbered numbers (e ∷ es) (n ∷ ns) = is_number (made_at numbers (Some e)) n && all_numbered numbers es ns

abbrev pub all_there : List (Option ℕ) → List ℕ → Bool
all_there numbers [] = true
all_there numbers (e ∷ es) = is_some (made_at numbers (Some e)) && all_there numbers es

-- the record in which all fields are, if they are
abbrev pub record_again : Spread → Bool → Option ℕ
record_again (Spread.In j) are_there = if are_there then Some j else None
record_again spread are_there = None

-- what is known of the text before the edit and of that of here, beside what is left
pub record AreBeside (known : Known) (ahead back : List Stretch) : Type 0 where
  pub before : IsReading known.readings.now.before
  pub here : IsReading known.readings.now.here
  pub left : IsReading known.readings.now.left
  pub ahead_turns : (turns : List Turn) × AreTurnsOf ahead (text_of_reading known.readings.now.before)
      (text_of_reading known.readings.now.left) turns
  pub back_turns : (turns : List Turn) × AreTurnsOf back (text_of_reading known.readings.now.here)
      (text_of_reading known.readings.now.left) turns
  pub of_before : IsSide ahead (placed_of known.readings.now.before)
      (placed_of known.readings.now.left) known.before.now
  pub of_here : IsSide back (placed_of known.readings.now.here) (placed_of known.readings.now.left) known.here.now

-- a record that is left is a whole one of here, or of before
abbrev pub IsOneWhole : List Stretch → List Stretch → PlacedText → PlacedText → PlacedRecord → Type 0
IsOneWhole ahead back before here record_left = Any (λ new. IsWhole back new record_left) here.records
    ⊎ Any (λ old. IsWhole ahead old record_left) before.records

-- with one more number, unless this is so
abbrev pub listed_unless : Bool → ℕ → List ℕ → List ℕ
listed_unless is_so number numbers = if is_so then numbers else numbers ++ number ∷ []

-- the numbers of the records that haven't P: each has it, or is listed
pub record AreThose (P : PlacedRecord → Type 0) (text : PlacedText) (numbers : List ℕ) : Type 0 where
  pub lack : (k : ℕ) → Any (◌≡◌ k) numbers → (r : PlacedRecord) × (slice_get text.records k ≡ Some r) × (P r → ⊥)
  pub rest : (k : ℕ) (r : PlacedRecord) → slice_get text.records k ≡ Some r → P r ⊎ Any (◌≡◌ k) numbers

-- those of some numbers
pub record AreOthers (P : PlacedRecord → Type 0) (text : PlacedText) (numbers others : List ℕ) : Type 0 where
  pub lack : (k : ℕ) → Any (◌≡◌ k) others
      → Any (◌≡◌ k) numbers × ((r : PlacedRecord) → slice_get text.records k ≡ Some r → P r → ⊥)
  pub rest : (k : ℕ) (r : PlacedRecord) → Any (◌≡◌ k) numbers → slice_get text.records k ≡ Some r
      → P r ⊎ Any (◌≡◌ k) others

-- ---- records that later edits kept

-- they didn't touch one of its fields
abbrev pub IsUntouched : Edits → PlacedText → PlacedRecord → PlacedRecord → Type 0
IsUntouched edits here between new = (parts : List Stretch)
    × IsCutBy (later_steps edits) edits.after.now edits.here.now parts
    × IsFirst (Shares parts between) here.records new

-- all of them are there again
abbrev pub IsAgain : List Stretch → PlacedRecord → PlacedRecord → Type 0
IsAgain later between new = AllByRecursion (StaysAmong later new.fields) between.fields

-- they made the one of the other, step by step
abbrev pub IsLedOn : Edits → PlacedRecord → PlacedRecord → Type 0
IsLedOn edits = StepsMake (later_steps edits) edits.after.now edits.here.now

-- the edit made one record of another, and this leads on to one of here; what is left has what is left of both
pub record IsPutBetween (K : PlacedRecord → PlacedRecord → Type 0) (steps : List EditStep) (before after : List ℕ)
    (ahead back : List Stretch) (text next here left : PlacedText) (record_left : PlacedRecord) : Type 0 where
  pub old : PlacedRecord
  pub is_old : Any (◌≡◌ old) text.records
  pub between : PlacedRecord
  pub is_between : Any (◌≡◌ between) next.records
  pub new : PlacedRecord
  pub is_new : Any (◌≡◌ new) here.records
  pub made : StepsMake steps before after old between
  pub kept : K between new
  pub put : IsPutOf ahead back text here left old new record_left

-- what the edit made of records before it
abbrev pub AreOwn : Edits → Readings → List (Option ℕ) → Type 0
AreOwn edits readings own = AreMade (StepsMake edits.steps.now edits.before.now edits.after.now)
    (placed_of readings.before) (placed_of readings.after) own

-- those of some records that aren't put together so
abbrev pub AreUnput : (PlacedRecord → PlacedRecord → Type 0) → Edits → Known → List ℕ → List ℕ → Type 0
AreUnput K edits known records others = (ahead back : List Stretch) → AreBeside known ahead back
    → HaveNoOther ahead back (placed_of known.readings.now.before) (placed_of known.readings.now.here)
    (placed_of known.readings.now.left)
    → AreOthers (IsPutBetween K edits.steps.now edits.before.now edits.after.now ahead back
    (placed_of known.readings.now.before) (placed_of known.readings.now.after) (placed_of known.readings.now.here)
    (placed_of known.readings.now.left)) (placed_of known.readings.now.left) records others

-- ---- what goes

-- turns one after another, the first not before this place
abbrev pub AreAfter : ℕ → List Turn → Type 0
AreAfter least [] = Unit {0}
AreAfter least (t ∷ ts) = (least ≤ t.start.old) × (t.start.old ≤ t.end.old) × AreAfter t.end.old ts

-- an element is a field, and goes with this turn, of which nothing comes
abbrev pub goes_with : Turn → Placed → Bool
goes_with t x = (t.start.new == t.end.new)
    && (is_field x && (nat_le t.start.old x.at && nat_le (x.at + size x) t.end.old))

abbrev pub GoesBy : Turn → Placed → Type 0
GoesBy t x = (t.start.new ≡ t.end.new) × (is_field x ≡ true) × (t.start.old ≤ x.at) × (x.at + size x ≤ t.end.old)

abbrev pub is_out_by : List Turn → Placed → Bool
is_out_by [] x = false
is_out_by (t ∷ ts) x = goes_with t x || is_out_by ts x

-- one of these turns only takes out
abbrev pub some_take_out : List Turn → Bool
some_take_out [] = false
some_take_out (t ∷ ts) = (t.start.new == t.end.new) || some_take_out ts

-- none of those that go so has a number
abbrev pub all_out : List Turn → List Element → List (Option ℕ) → Bool
all_out turns [] numbers = true
all_out turns (e ∷ es) [] = true
all_out turns (e ∷ es) (number ∷ numbers) =
    not (is_some number && is_out_by turns (placed e)) && all_out turns es numbers

-- no field that an edit only took out is there again
abbrev pub StayOut : Edits → List Stretch → PlacedText → PlacedText → Type 0
StayOut edits change before here = (all : List Stretch)
    × IsChangeBy (edits.steps.now ++ later_steps edits) edits.before.now edits.here.now all
    × AllByRecursion (λ x. IsTakenOut change x → StaysAmong all here.elements x → ⊥) (filter is_field before.elements)
