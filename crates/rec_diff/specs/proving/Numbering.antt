-- Which elements of a text are elements of another, as they are found beside the turns that lead there.
use Rattle.std.specs.Prelude.{◌≡◌, ℕ, ◌+◌, ◌-◌, ◌≤◌, Bool, true, false, ◌==◌, ◌&&◌, ◌||◌, nat_le, nat_lt, List, []}
use Rattle.std.specs.Prelude.{◌∷◌, length, map, Option, Some, None, if◌then◌else◌}
use Rattle.std.specs.Option.{is_some}
use Rattle.rec_text.specs.declared.element.Element.{Element}
use Rattle.rec_diff.specs.declared.turn.Place.{Place}
use Rattle.rec_diff.specs.declared.turn.Turn.{Turn}

-- ---- places

-- Where bytes of this number stand in the other text, which begin at a place of the one; none where a turn touches
-- them. The turns begin after a place of both texts.
abbrev pub place_there : Place → List Turn → ℕ → ℕ → Option ℕ
place_there place [] at size = Some (place.new + (at - place.old))
place_there place (t ∷ ts) at size =
    if nat_le t.end.old at then place_there t.end ts at size
    else if nat_le (at + size) t.start.old then Some (place.new + (at - place.old))
    else None

-- the first turn doesn't end before this place, nor there
abbrev pub IsReached : List Turn → ℕ → Type 0
IsReached [] at = Unit {0}
IsReached (t ∷ ts) at = nat_le t.end.old at ≡ false

-- the first turn begins before this place
abbrev pub is_touched_before : List Turn → ℕ → Bool
is_touched_before [] end = false
is_touched_before (t ∷ ts) end = nat_lt t.start.old end

-- the places of elements
abbrev pub places_there : Place → List Turn → List Element → List (Option ℕ)
places_there place turns elements = map (λ (e : Element). place_there place turns e.at (length e.raw.now)) elements

-- ---- numbers

-- the number of the first of these elements that isn't before the place, if it is there and as long; the first of them
-- has this number
abbrev pub number_in : ℕ → List Element → ℕ → ℕ → Option ℕ
number_in number [] at size = None
number_in number (e ∷ es) at size =
    if nat_lt e.at at then number_in (number + 1) es at size
    else if e.at == at && length e.raw.now == size then Some number
    else None

abbrev pub number_there : List Element → ℕ → Option ℕ → Option ℕ
number_there others size None = None
number_there others size (Some at) = number_in 0 others at size

-- the first of these elements isn't before this place
abbrev pub IsNotBefore : List Element → ℕ → Type 0
IsNotBefore [] at = Unit {0}
IsNotBefore (e ∷ es) at = nat_lt e.at at ≡ false

-- places are in order, the first not before this one
abbrev pub AreInOrder : ℕ → List (Option ℕ) → Type 0
AreInOrder least [] = Unit {0}
AreInOrder least (None ∷ places) = AreInOrder least places
AreInOrder least (Some at ∷ places) = (least ≤ at) × AreInOrder at places

-- the numbers of elements, by their places
abbrev pub numbers_there : List Element → List Element → List (Option ℕ) → List (Option ℕ)
numbers_there others [] places = []
numbers_there others (e ∷ es) [] = []
numbers_there others (e ∷ es) (place ∷ places) =
    number_there others (length e.raw.now) place ∷ numbers_there others es places

-- each has a number in one of two texts
abbrev pub all_known : List (Option ℕ) → List (Option ℕ) → Bool
all_known [] others = true
all_known (number ∷ numbers) [] = true
all_known (number ∷ numbers) (other ∷ others) = (is_some number || is_some other) && all_known numbers others
