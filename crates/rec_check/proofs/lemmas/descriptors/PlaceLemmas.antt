-- Where the elements of a record stand in the text.
use Rattle.std.proofs.Common.{◌≡◌, ◌∙◌, ℕ, ◌+◌, ◌-◌, ◌<◌, ◌≤◌, List, length, take, drop, get_or, Some, ap, sym, arith}
use Rattle.std.proofs.lemmas.List.{length-take, length-drop, get_or-take, get_or-drop}
use Rattle.std.proofs.lemmas.Option.{slice_get_within, get_or_from_slice_get}
use Rattle.std.specs.List.{All, slice_get}
use Rattle.std.specs.declared.ops.Range.{Range}
use Rattle.rec_text.specs.declared.element.Element.{Element}
use Rattle.rec_text.specs.Elements.{Piece, text_of}
use Rattle.rec_text.specs.Places.{pieces_of, AreFrom}
use Rattle.rec_text.specs.Records.{elements_in}
use Rattle.rec_text.proofs.lemmas.elements.ElementLemmas.{AreFrom-at, elements_in-slice, length-text_of-take-le-length, text_of-take}

-- the elements of a record among all
module _ (pieces : List Piece) (all : List Element) (are : pieces_of all ≡ pieces) (fields : Range ℕ) (ordered : fields.start ≤ fields.end) where
  abbrev pub own : List Element
  own = take (fields.end - fields.start) (drop fields.start all)

  pub own_are : pieces_of own ≡ elements_in pieces fields
  own_are = elements_in-slice all fields ordered ∙ ap (λ ps. elements_in ps fields) are

  own_among_all : (i : ℕ) (d : Element) → i < length own → get_or own i d ≡ get_or all (fields.start + i) d
  own_among_all i d within =
      get_or-take (fields.end - fields.start) (drop fields.start all) i d (omega (arith, length-take (fields.end - fields.start) (drop fields.start all))) ∙ get_or-drop fields.start all i d

  module _ (places : AreFrom 0 all) where
    at_own : (i : ℕ) (d : Element) → i < length own → (get_or own i d).at ≡ length (text_of (take (fields.start + i) pieces))
    at_own i d within =
        let among : fields.start + i < length all = omega (arith, length-take (fields.end - fields.start) (drop fields.start all), length-drop fields.start all) in
        ap (λ e. e.at) (own_among_all i d within) ∙ omega (arith, AreFrom-at 0 all (fields.start + i) d places among) ∙ ap (λ ps. length (text_of (take (fields.start + i) ps))) are

    pub own_within : All (λ field. field.at ≤ length (text_of pieces)) own
    own_within i d within = omega (arith, at_own i d within, length-text_of-take-le-length (fields.start + i) pieces)

    pub text_before : (i : ℕ) (field : Element) → slice_get own i ≡ Some field → take field.at (text_of pieces) ≡ text_of (take (fields.start + i) pieces)
    text_before i field stands =
        let within : i < length own = slice_get_within own i field stands in
        let is : get_or own i field ≡ field = get_or_from_slice_get own i field field stands in
        ap (λ n. take n (text_of pieces)) (ap (λ e. e.at) (sym is) ∙ at_own i field within) ∙ text_of-take (fields.start + i) pieces
