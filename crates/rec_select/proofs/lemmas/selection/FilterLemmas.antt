-- Fields whose values contain a text.
use Rattle.std.proofs.Common.{◌≡◌, ◌∙◌, ◌⊎◌, inl, inr, ℕ, zero, suc, ◌+◌, ◌<◌, ◌≤◌, Bool, true, List, [], ◌∷◌, ◌++◌, Option, Some, None, length, take, drop, get_or, refl, ap, sym, subst, arith}
use Rattle.std.proofs.Common.{take-append-drop, length-append}
use Rattle.std.specs.Prelude.{◌↔◌, Any, IsTrue, is_some}
use Rattle.std.proofs.lemmas.Bool.{false≢true}
use Rattle.std.proofs.lemmas.List.{drop_at, take_at, drop_more, drop_all, length-map, get_or-map}
use Rattle.memchr.specs.Find.{OccursAt, FindsNeedle}
use Rattle.memchr.proofs.lemmas.MatchLemmas.{OccursAt-split, OccursAt-from_part}
use Rattle.rec_text.specs.declared.element.Element.{Element}
use Rattle.rec_text.specs.declared.element.Kind.{Kind}
use Rattle.rec_text.specs.declared.element.Kind.TheVariants.{Blank, Comment, Field}
use Rattle.rec_text.specs.Elements.{Piece}
use Rattle.rec_text.proofs.lemmas.elements.ElementLemmas.{field_test}
use Rattle.rec_text.specs.Places.{piece_of, pieces_of}
use Rattle.rec_text.specs.Records.{is_field_piece}
use Rattle.rec_text.specs.Values.{value_of}
use Rattle.rec_select.specs.Selection.{Holds}
use Rattle.rec_select.specs.proving.Filters.{HasText}

-- ---- a value holds a text where a search finds it

module _ (value text : List ℕ) where
  Holds-occurring : (at : ℕ) → OccursAt value text at → Holds value text
  Holds-occurring at occurs =
      (take at value, drop (at + length text) value, sym (take-append-drop at value) ∙ ap (λ rest. take at value ++ rest) (OccursAt-split value text at occurs))

  OccursAt-held : (prefix following : List ℕ) → value ≡ prefix ++ (text ++ following) → OccursAt value text (length prefix)
  OccursAt-held prefix following parts =
      OccursAt-from_part value text (length prefix)
      (omega (arith, ap length parts, length-append prefix (text ++ following), length-append text following))
      (ap (λ v. take (length text) (drop (length prefix) v)) parts ∙ ap (take (length text)) (drop_at prefix (text ++ following) (length prefix) refl) ∙ take_at text following (length text) refl)

  pub found_holds : (found : Option ℕ) → FindsNeedle value text 0 found → IsTrue (is_some found) ↔ Holds value text
  found_holds None nowhere = (
    λ no. absurd (false≢true no),
    λ (prefix, following, parts).
        let occurs = OccursAt-held prefix following parts in
        let fits = occurs.fits in
        absurd (nowhere (length prefix) (omega arith) (omega arith) occurs),
  )
  found_holds (Some at) found = (λ _. Holds-occurring at found.1, λ _. refl)

-- ---- one element

field_kind : (kind : Kind) (bytes : List ℕ) → is_field_piece (record { kind = kind; bytes = bytes }) ≡ true → kind ≡ Field
field_kind Blank bytes is = absurd (false≢true is)
field_kind Comment bytes is = absurd (false≢true is)
field_kind Field bytes is = refl

pub no_field : (piece : Piece) (text : List ℕ) → (piece.kind ≡ Field → ⊥) → HasText text piece → ⊥
no_field piece text other has = other (field_kind piece.kind piece.bytes has.0)

pub text_found : (piece : Piece) (value text : List ℕ) (found : Option ℕ) (answer : Bool) → piece.kind ≡ Field → value ≡ value_of piece → FindsNeedle value text 0 found → answer ≡ is_some found
    → IsTrue answer ↔ HasText text piece
text_found piece value text found answer field is finds answers =
    let holds = found_holds value text found finds in
    let P : List ℕ → Type 0 = λ v. Holds v text in (
      λ yes. (field_test piece field, subst P is (holds.0 (sym answers ∙ yes))),
      λ has. answers ∙ holds.1 (subst P (sym is) has.1),
    )

-- ---- one of many elements

module _ (P : Piece → Type 0) where
  pub Any-nil : Any P [] → ⊥
  Any-nil (k, x, within, at, holds) = omega (arith, within)

  Any-cases : (piece : Piece) (pieces : List Piece) → Any P (piece ∷ pieces) → P piece ⊎ Any P pieces
  Any-cases piece pieces (zero, x, within, at, holds) = inl (subst P (sym at) holds)
  Any-cases piece pieces (suc k, x, within, at, holds) = inr (k, x, omega (arith, within), at, holds)

  module _ (elements : List Element) (i : ℕ) (default : Element) where
    pub any_later : i < length elements → (P (piece_of (get_or elements i default)) → ⊥) → Any P (pieces_of (drop i elements)) → Any P (pieces_of (drop (i + 1) elements))
    any_later within fails some =
        let Q : List Element → Type 0 = λ es. Any P (pieces_of es) in
        elim (Any-cases (piece_of (get_or elements i default)) (pieces_of (drop (i + 1) elements)) (subst Q (drop_more elements i default within) some)) [
          | inl here ↦ absurd (fails here)
          | inr later ↦ later
        ]

    pub any_at : i < length elements → P (piece_of (get_or elements i default)) → Any P (pieces_of elements)
    any_at within holds =
        let piece : Piece = piece_of (get_or elements i default) in
        (i, piece, omega (arith, length-map elements piece_of), get_or-map piece_of elements i default piece within, holds)

  pub any_passed : (elements : List Element) (i : ℕ) → length elements ≤ i → Any P (pieces_of (drop i elements)) → ⊥
  any_passed elements i past some =
      let Q : List Element → Type 0 = λ es. Any P (pieces_of es) in
      Any-nil (subst Q (drop_all i elements past) some)
