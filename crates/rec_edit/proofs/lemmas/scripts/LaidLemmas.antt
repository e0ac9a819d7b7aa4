-- The elements that an edit makes of those of a text, and the newlines at their ends.
use Rattle.std.proofs.Common.{◌≡◌, ◌∙◌, ℕ, Bool, true, false, IsTrue, List, [], ◌∷◌, ◌++◌, not, map, refl, ap, ap₂, sym, inl, inr, if◌then◌else◌}
use Rattle.std.specs.List.{AllByRecursion}
use Rattle.std.proofs.lemmas.Bool.{cases_Bool, and_parts, not-true}
use Rattle.std.proofs.lemmas.List.{append-nil, map-append}
use Rattle.rec_text.specs.declared.element.Kind.{Kind}
use Rattle.rec_text.specs.Bytes.{is_nil, ends_newline}
use Rattle.rec_text.specs.Elements.{Piece, text_of}
use Rattle.rec_text.specs.Records.{is_blank_piece, is_field_piece}
use Rattle.rec_edit.specs.Script.{Part, closed, without_newline, opened, lacks_newline, settled, new_pieces}
use Rattle.rec_edit.proofs.lemmas.scripts.WellFormedLemmas.{without_newline-push}

-- ---- elements that end in a newline

abbrev pub Ends : Piece → Type 0
Ends piece = IsTrue (ends_newline piece.bytes)

-- without its newline and closed again it is the same
abbrev pub reopened : Piece → Piece
reopened piece = record { kind = piece.kind; bytes = without_newline piece.bytes }

-- it ends in one newline
abbrev pub Neat : Piece → Type 0
Neat piece = (prefix : List ℕ) × (piece.bytes ≡ prefix ++ 10 ∷ []) × (ends_newline prefix ≡ false)

pub closed-ends : (piece : Piece) → Ends piece → closed piece ≡ piece
closed-ends piece ends = let e : ends_newline piece.bytes ≡ true = ends in rw e refl

pub ends_newline-push : (bytes : List ℕ) → ends_newline (bytes ++ 10 ∷ []) ≡ true
ends_newline-push [] = refl
ends_newline-push (b ∷ []) = refl
ends_newline-push (b ∷ c ∷ bytes) = ends_newline-push (c ∷ bytes)

abbrev pub piece_with : Kind → List ℕ → Piece
piece_with kind bytes = record { kind = kind; bytes = bytes }

closed-open : (kind : Kind) (bytes : List ℕ) → ends_newline bytes ≡ false → closed (piece_with kind bytes) ≡ piece_with kind (bytes ++ 10 ∷ [])
closed-open kind bytes other = rw other refl

pub Ends-closed : (piece : Piece) → Ends (closed piece)
Ends-closed piece = elim (cases_Bool (ends_newline piece.bytes)) [
  | inl ends ↦ rw ends ends
  | inr other ↦ rw other (ends_newline-push piece.bytes)
]

-- a newline after bytes that end in none
pub Neat-closed : (piece : Piece) → ends_newline piece.bytes ≡ false → Neat (closed piece)
Neat-closed piece other = (piece.bytes, ap (λ p. p.bytes) (closed-open piece.kind piece.bytes other), other)

closed-reopened : (piece : Piece) → Neat piece → closed (reopened piece) ≡ piece
closed-reopened piece (prefix, is, other) =
    ap (λ bs. closed (piece_with piece.kind (without_newline bs))) is ∙ ap (λ bs. closed (piece_with piece.kind bs)) (without_newline-push prefix)
    ∙ closed-open piece.kind prefix other ∙ ap (piece_with piece.kind) (sym is)

pub closed-neat : (piece : Piece) → Neat piece → Ends piece
closed-neat piece (prefix, is, other) = ap ends_newline is ∙ ends_newline-push prefix

pub map-closed-opened : (pieces : List Piece) → AllByRecursion Neat pieces → map closed (opened pieces) ≡ pieces
map-closed-opened [] all = refl
map-closed-opened (piece ∷ []) all = ap (λ p. p ∷ []) (closed-reopened piece all.0)
map-closed-opened (piece ∷ next ∷ pieces) all = ap₂ (λ p ps. p ∷ ps) (closed-ends piece (closed-neat piece all.0)) (map-closed-opened (next ∷ pieces) all.1)

pub map-closed : (pieces : List Piece) → AllByRecursion Ends pieces → map closed pieces ≡ pieces
map-closed [] all = refl
map-closed (piece ∷ pieces) all = ap₂ (λ p ps. p ∷ ps) (closed-ends piece all.0) (map-closed pieces all.1)

-- a part whose old elements lack a newline has neat new ones
abbrev pub Reopens : Part → Type 0
Reopens part = lacks_newline (text_of part.old) ≡ true → map closed (opened part.new) ≡ map closed part.new

if_lacking : (lacks : Bool) (part : Part) → (lacks ≡ true → map closed (opened part.new) ≡ map closed part.new)
    → map closed (new_pieces ((if lacks then record { old = part.old; new = opened part.new } else part) ∷ [])) ≡ map closed (new_pieces (part ∷ []))
if_lacking true part reopens =
    ap (map closed) (append-nil (opened part.new)) ∙ reopens refl ∙ sym (ap (map closed) (append-nil part.new))
if_lacking false part reopens = refl

pub closed-settled : (parts : List Part) → AllByRecursion Reopens parts → map closed (new_pieces (settled parts)) ≡ map closed (new_pieces parts)
closed-settled [] all = refl
closed-settled (part ∷ []) all = if_lacking (lacks_newline (text_of part.old)) part all.0
closed-settled (part ∷ next ∷ parts) all =
    map-append closed part.new (new_pieces (settled (next ∷ parts)))
    ∙ ap (λ l. map closed part.new ++ l) (closed-settled (next ∷ parts) all.1)
    ∙ sym (map-append closed part.new (new_pieces (next ∷ parts)))

pub lacking : (bytes : List ℕ) → lacks_newline bytes ≡ true → ends_newline bytes ≡ false
lacking bytes lacks = not-true (ends_newline bytes) (and_parts (not (is_nil bytes)) (not (ends_newline bytes)) lacks).1

-- ---- a kept element

pub closed-blank : (piece : Piece) → is_blank_piece (closed piece) ≡ is_blank_piece piece
closed-blank piece = elim (cases_Bool (ends_newline piece.bytes)) [
  | inl ends ↦ rw ends refl
  | inr other ↦ rw other refl
]

pub closed-field : (piece : Piece) → is_field_piece (closed piece) ≡ is_field_piece piece
closed-field piece = elim (cases_Bool (ends_newline piece.bytes)) [
  | inl ends ↦ rw ends refl
  | inr other ↦ rw other refl
]
