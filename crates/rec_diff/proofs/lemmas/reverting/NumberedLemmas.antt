-- The numbers that elements have in another text are those of the same elements.
use Rattle.std.proofs.Common.{◌≡◌, ◌∙◌, ℕ, zero, suc, ◌+◌, ◌-◌, ◌≤◌, ◌<◌, cond, eqb, ltb, ◌&&◌, List, [], ◌∷◌, ◌++◌, length, map, take, Option, Some, None, inl, inr, refl, sym, ap, subst, arith}
use Rattle.std.specs.List.{AllByRecursion, AllZip, between, slice_get}
use Rattle.std.specs.Option.{option_map}
use Rattle.std.proofs.lemmas.Bool.{and_from, and_parts, cases_Bool, cond-false, cond-true, eq-eqb, eqb-true, le-ltb, lt-ltb}
use Rattle.std.proofs.lemmas.List.{append_assoc, drop_at, take_at}
use Rattle.std.proofs.lemmas.Option.{none-some, same_Some, slice_get-map}
use Rattle.rec_text.specs.declared.element.Element.{Element}
use Rattle.rec_text.specs.Elements.{Piece, AreElementsOf, text_of}
use Rattle.rec_text.specs.Places.{AreFrom, piece_of, pieces_of}
use Rattle.rec_diff.specs.declared.reverting.reading.Reading.{Reading}
use Rattle.rec_diff.specs.declared.turn.Turn.{Turn}
use Rattle.rec_diff.specs.Changes.{Stretch, stays, turned, new_of, after_of}
use Rattle.rec_diff.specs.Making.{IsSame}
use Rattle.rec_diff.specs.Placed.{Placed, placed_from, size}
use Rattle.rec_diff.specs.proving.Numbering.{number_in, number_there, numbers_there, place_there, places_there}
use Rattle.rec_diff.specs.proving.Reading.{AreNumbers, AreOrigins, AreTurnsOf, IsNumber, IsOrigin, IsReading, placed, placed_of, text_of_reading}
use Rattle.rec_diff.specs.proving.Weaving.{at_start}
use Rattle.rec_diff.proofs.lemmas.reverting.ListLemmas.{all_from, any_at, at_any, zip_map}
use Rattle.rec_diff.proofs.lemmas.reverting.PlacedLemmas.{element_there, element_within, has_bytes, is_element_at, one_piece, placed_elements}
use Rattle.rec_diff.proofs.lemmas.reverting.ReadingLemmas.{map_found}
use Rattle.rec_diff.proofs.lemmas.reverting.SameLemmas.{place_of_same, same_of_place}
use Rattle.rec_diff.proofs.lemmas.reverting.TurnedLemmas.{alike_after, same_turned, turned_same}

-- ---- what is found at a place

found_number : (number : ℕ) (es : List Element) (at count j : ℕ) → number_in number es at count ≡ Some j
    → (i : ℕ) × (e : Element) × (j ≡ number + i) × (slice_get es i ≡ Some e) × (e.at ≡ at) × (length e.raw.now ≡ count)
found_number number [] at count j is = absurd (none-some j is)
found_number number (e ∷ es) at count j is =
    let own = cond (eqb e.at at && eqb (length e.raw.now) count) (Some number) None in
    elim (cases_Bool (ltb e.at at)) [
      | inl h ↦
          let rest = found_number (number + 1) es at count j (sym (cond-true (ltb e.at at) (number_in (number + 1) es at count) own h) ∙ is) in
          let place = rest.2 in
          (suc rest.0, rest.1, omega (arith, place), rest.3, rest.4, rest.5)
      | inr h ↦
          let here : own ≡ Some j = sym (cond-false (ltb e.at at) (number_in (number + 1) es at count) own h) ∙ is in
          elim (cases_Bool (eqb e.at at && eqb (length e.raw.now) count)) [
            | inl k ↦
                let same = same_Some number j (sym (cond-true (eqb e.at at && eqb (length e.raw.now) count) (Some number) None k) ∙ here) in
                let parts = and_parts (eqb e.at at) (eqb (length e.raw.now) count) k in
                (0, e, omega (arith, same), refl, eqb-true e.at at parts.0, eqb-true (length e.raw.now) count parts.1)
            | inr k ↦ absurd (none-some j (sym (cond-false (eqb e.at at && eqb (length e.raw.now) count) (Some number) None k) ∙ here))
          ]
    ]

low_element : (start : ℕ) (es : List Element) (i : ℕ) (e : Element) → AreFrom start es → slice_get es i ≡ Some e → start ≤ e.at
low_element start [] i e from at = absurd (none-some e at)
low_element start (first ∷ es) zero e from at =
    let same : first.at ≡ e.at = ap (λ (x : Element). x.at) (same_Some first e at) in
    let place = from.0 in
    omega (arith, same, place)
low_element start (first ∷ es) (suc i) e from at = let low = low_element (start + length first.raw.now) es i e from.1 at in omega (arith, low)

no_number : (start number : ℕ) (es : List Element) (at count i : ℕ) (e : Element) → AreFrom start es → AllByRecursion (λ (x : Element). 0 < length x.raw.now) es
    → number_in number es at count ≡ None → slice_get es i ≡ Some e → e.at ≡ at → length e.raw.now ≡ count → ⊥
no_number start number [] at count i e from some none is place many = none-some e is
no_number start number (first ∷ es) at count zero e from some none is place many =
    let same = same_Some first e is in
    let here : first.at ≡ at = ap (λ (x : Element). x.at) same ∙ place in
    let long : length first.raw.now ≡ count = ap (λ (x : Element). length x.raw.now) same ∙ many in
    let own = cond (eqb first.at at && eqb (length first.raw.now) count) (Some number) None in
    let found : number_in number (first ∷ es) at count ≡ Some number =
    cond-false (ltb first.at at) (number_in (number + 1) es at count) own (le-ltb first.at at (omega (arith, here)))
    ∙ cond-true (eqb first.at at && eqb (length first.raw.now) count) (Some number) None
    (and_from (eqb first.at at) (eqb (length first.raw.now) count) (eq-eqb first.at at here) (eq-eqb (length first.raw.now) count long)) in
    none-some number (sym none ∙ found)
no_number start number (first ∷ es) at count (suc i) e from some none is place many =
    let low = low_element (start + length first.raw.now) es i e from.1 is in
    let first_at = from.0 in
    let first_some = some.0 in
    let own = cond (eqb first.at at && eqb (length first.raw.now) count) (Some number) None in
    no_number (start + length first.raw.now) (number + 1) es at count i e from.1 some.1
    (sym (cond-true (ltb first.at at) (number_in (number + 1) es at count) own (lt-ltb first.at at (omega (arith, low, first_at, first_some, place)))) ∙ none) is place many

-- ---- what stays stands in the other text too

after_cut : (first last : List Stretch) (bytes : List ℕ) → after_of (first ++ stays bytes ∷ last) ≡ after_of first ++ (bytes ++ after_of last)
after_cut [] last bytes = refl
after_cut (p ∷ first) last bytes = ap (λ t. new_of p ++ t) (after_cut first last bytes) ∙ sym (append_assoc (new_of p) (after_of first) (bytes ++ after_of last))

same_there : (parts : List Stretch) (x y : Placed) → IsSame parts x y → between y.at (y.at + size x) (after_of parts) ≡ x.piece.bytes
same_there parts x y same =
    let first = after_of same.first in
    let last = after_of same.last in
    let text : after_of parts ≡ first ++ (x.piece.bytes ++ last) =
    sym (alike_after (same.first ++ stays x.piece.bytes ∷ same.last) parts same.cut) ∙ after_cut same.first same.last x.piece.bytes in
    let count : y.at + size x - y.at ≡ length x.piece.bytes = omega arith in
    ap (between y.at (y.at + size x)) text ∙ ap (take (y.at + size x - y.at)) (drop_at first (x.piece.bytes ++ last) y.at same.new_at)
    ∙ take_at x.piece.bytes last (y.at + size x - y.at) (sym count)

-- ---- elements

module _ (f g : List ℕ) (parts : List Stretch) (ts : List Turn) (are : AreTurnsOf parts f g ts) (pieces others : List Piece)
    (read : AreElementsOf pieces f) (read_others : AreElementsOf others g) where
  abbrev old : List Placed
  old = placed_from 0 pieces

  abbrev new : List Placed
  new = placed_from 0 others

  within_old : (i : ℕ) (x : Placed) → slice_get old i ≡ Some x → x.at + size x ≤ length f
  within_old i x at = omega (arith, element_within pieces i x at, ap length read.joined)

  there_old : (i : ℕ) (x : Placed) → slice_get old i ≡ Some x → between x.at (x.at + size x) f ≡ x.piece.bytes
  there_old i x at = ap (between x.at (x.at + size x)) (sym read.joined) ∙ element_there pieces i x at

  there_new : (j : ℕ) (y : Placed) → slice_get new j ≡ Some y → between y.at (y.at + size y) g ≡ y.piece.bytes
  there_new j y at = ap (between y.at (y.at + size y)) (sym read_others.joined) ∙ element_there others j y at

  -- what is the same has its place there
  pub found_place : (i : ℕ) (x y : Placed) → slice_get old i ≡ Some x → IsSame parts x y → place_there at_start ts x.at (size x) ≡ Some y.at
  found_place i x y at same = place_of_same f g parts ts are.hunks are.from are.order are.in_step x y (has_bytes pieces read.well_formed i x at) same

  -- an element is the same as the one that stands at its place there and is as long
  same_at : (i j : ℕ) (x y : Placed) → slice_get old i ≡ Some x → slice_get new j ≡ Some y → place_there at_start ts x.at (size x) ≡ Some y.at → size y ≡ size x → IsSame parts x y
  same_at i j x y at other found long =
      let moved : Placed = record { at = y.at; piece = x.piece } in
      let bytes : IsSame parts x moved = same_of_place f g parts ts are.hunks are.from are.order are.in_step x moved refl (there_old i x at) (within_old i x at) found in
      let there : x.piece.bytes ≡ y.piece.bytes =
      sym (same_there parts x moved bytes) ∙ ap (between y.at (y.at + size x)) are.to ∙ ap (λ n. between y.at (y.at + n) g) (sym long) ∙ there_new j y other in
      let piece : x.piece ≡ y.piece = one_piece x.piece y.piece (is_element_at pieces read.well_formed i x at) (is_element_at others read_others.well_formed j y other) there in
      same_of_place f g parts ts are.hunks are.from are.order are.in_step x y piece (there_old i x at) (within_old i x at) found

  module _ (elements : List Element) (same : pieces_of elements ≡ others) (from : AreFrom 0 elements) where
    all_new : map placed elements ≡ new
    all_new = placed_elements 0 elements from ∙ ap (placed_from 0) same

    in_new : (j : ℕ) (e : Element) → slice_get elements j ≡ Some e → slice_get new j ≡ Some (placed e)
    in_new j e at = ap (λ l. slice_get l j) (sym all_new) ∙ slice_get-map placed elements j ∙ ap (option_map placed) at

    of_new : (j : ℕ) (y : Placed) → slice_get new j ≡ Some y → (e : Element) × (slice_get elements j ≡ Some e) × (placed e ≡ y)
    of_new j y at = map_found placed (slice_get elements j) y (sym (slice_get-map placed elements j) ∙ ap (λ l. slice_get l j) all_new ∙ at)

    all_some : AllByRecursion (λ (e : Element). 0 < length e.raw.now) elements
    all_some = all_from (λ (e : Element). 0 < length e.raw.now) elements (λ j e at. has_bytes others read_others.well_formed j (placed e) (in_new j e at))

    number_of_place : (i : ℕ) (x : Placed) (there : ℕ) (number : Option ℕ) → slice_get old i ≡ Some x → place_there at_start ts x.at (size x) ≡ Some there
        → number_in 0 elements there (size x) ≡ number → IsNumber parts new x number
    number_of_place i x there None at found none = λ stay.
        let other = any_at (IsSame parts x) new stay in
        let y = other.1 in
        let e = of_new other.0 y other.2 in
        let place : (e.0).at ≡ there =
        ap (λ (z : Placed). z.at) e.2 ∙ same_Some y.at there (sym (found_place i x y at other.3) ∙ found) in
        let long : length (e.0).raw.now ≡ size x = ap size e.2 ∙ sym (ap (λ (p : Piece). length p.bytes) (other.3).piece) in
        no_number 0 0 elements there (size x) other.0 e.0 from all_some none e.1 place long
    number_of_place i x there (Some j) at found is =
        let e = found_number 0 elements there (size x) j is in
        let index : e.0 ≡ j = (let place = e.2 in omega (arith, place)) in
        let inside : slice_get new j ≡ Some (placed e.1) = in_new j e.1 (ap (slice_get elements) (sym index) ∙ e.3) in
        (placed e.1, inside, same_at i j x (placed e.1) at inside (found ∙ ap (λ n. Some n) (sym e.4)) e.5)

    number_of : (i : ℕ) (x : Placed) (place : Option ℕ) → slice_get old i ≡ Some x → place_there at_start ts x.at (size x) ≡ place → IsNumber parts new x (number_there elements (size x) place)
    number_of i x None at none = λ stay.
        let other = any_at (IsSame parts x) new stay in
        none-some (other.1).at (sym none ∙ found_place i x other.1 at other.3)
    number_of i x (Some there) at found = number_of_place i x there (number_in 0 elements there (size x)) at found refl

    numbers_of : (es : List Element) → ((i : ℕ) (e : Element) → slice_get es i ≡ Some e → (j : ℕ) × (slice_get old j ≡ Some (placed e)))
        → AllZip (IsNumber parts new) (map placed es) (numbers_there elements es (places_there at_start ts es))
    numbers_of [] each = tt
    numbers_of (e ∷ es) each =
        let here = each 0 e refl in
        (number_of here.0 (placed e) (place_there at_start ts e.at (length e.raw.now)) here.1 refl, numbers_of es (λ i x at. each (suc i) x at))

-- ---- readings

pieces_of_placed : (elements : List Element) → pieces_of elements ≡ map (λ (x : Placed). x.piece) (map placed elements)
pieces_of_placed [] = refl
pieces_of_placed (e ∷ es) = ap (piece_of e ∷◌) (pieces_of_placed es)

placed_pieces : (at : ℕ) (pieces : List Piece) → map (λ (x : Placed). x.piece) (placed_from at pieces) ≡ pieces
placed_pieces at [] = refl
placed_pieces at (p ∷ pieces) = ap (p ∷◌) (placed_pieces (at + length p.bytes) pieces)

pieces_are : (elements : List Element) (pieces : List Piece) → map placed elements ≡ placed_from 0 pieces → pieces_of elements ≡ pieces
pieces_are elements pieces same = pieces_of_placed elements ∙ ap (map (λ (x : Placed). x.piece)) same ∙ placed_pieces 0 pieces

pub all_within : (r : Reading) (elements : List Element) (text : List ℕ) → IsReading r → map placed elements ≡ (placed_of r).elements → text ≡ text_of r.database
    → AllByRecursion (λ (e : Element). e.at + length e.raw.now ≤ length text) elements
all_within r elements text is same text_is =
    all_from (λ (e : Element). e.at + length e.raw.now ≤ length text) elements (λ i e at.
    omega (
      arith,
      element_within r.database i (placed e) (ap (λ l. slice_get l i) (sym same) ∙ slice_get-map placed elements i ∙ ap (option_map placed) at),
      ap length text_is,
    ))

pub numbers_are : (r s : Reading) (ts : List Turn) (elements others : List Element) (numbers : List (Option ℕ)) → IsReading r → IsReading s → map placed elements ≡ (placed_of r).elements
    → map placed others ≡ (placed_of s).elements → AreFrom 0 others → numbers ≡ numbers_there others elements (places_there at_start ts elements) → (parts : List Stretch)
    → AreTurnsOf parts (text_of_reading r) (text_of_reading s) ts → AreNumbers parts (placed_of r) (placed_of s) numbers
numbers_are r s ts elements others numbers is_r is_s same same_others from numbers_is parts are =
    let found =
    numbers_of (text_of_reading r) (text_of_reading s) parts ts are r.database s.database is_r.read is_s.read others (pieces_are others s.database same_others) from elements (λ i e at.
    (i, ap (λ l. slice_get l i) (sym same) ∙ slice_get-map placed elements i ∙ ap (option_map placed) at)) in
    subst (AllZip (IsNumber parts (placed_of s).elements) (placed_of r).elements) (sym numbers_is)
    (subst (λ l. AllZip (IsNumber parts (placed_of s).elements) l (numbers_there others elements (places_there at_start ts elements))) same found)

-- numbers along turned turns are origins
pub origin_of : (parts : List Stretch) (olds : List Placed) (y : Placed) (number : Option ℕ) → IsNumber (map turned parts) olds y number → IsOrigin parts olds y number
origin_of parts olds y None none = λ was.
    let old = any_at (λ (x : Placed). IsSame parts x y) olds was in
    none (at_any (IsSame (map turned parts) y) olds old.0 old.1 old.2 (same_turned parts old.1 y old.3))
origin_of parts olds y (Some i) (x, at, same) = (x, at, turned_same parts x y same)

pub origins_of : (parts : List Stretch) (r s : Reading) (numbers : List (Option ℕ)) → AreNumbers (map turned parts) (placed_of s) (placed_of r) numbers
    → AreOrigins parts (placed_of r) (placed_of s) numbers
origins_of parts r s numbers are =
    zip_map (IsNumber (map turned parts) (placed_of r).elements) (IsOrigin parts (placed_of r).elements) (origin_of parts (placed_of r).elements) (placed_of s).elements numbers are
