-- Where the new elements of a script are the old ones, each part stays as it is.
use Rattle.std.proofs.Common.{◌≡◌, ◌∙◌, ℕ, suc, ◌+◌, ◌≤◌, true, false, List, [], ◌∷◌, ◌++◌, length, take, refl, sym, ap, arith, ◌⊎◌, Bool, ◌||◌, inl, inr}
use Rattle.std.specs.List.{AllByRecursion, list_any}
use Rattle.std.proofs.lemmas.Bool.{cond_both, cases_Bool, false≢true, or_parts}
use Rattle.std.proofs.lemmas.List.{length-append, take_at, append_cancel_left, append_cancel_right}
use Rattle.std.specs.Prelude.{if◌then◌else◌}
use Rattle.rec_text.specs.Elements.{Piece, text_of}
use Rattle.rec_edit.specs.Script.{Part, opened, lacks_newline, settled, old_pieces, new_pieces, is_kept, changes_from}
use Rattle.rec_edit.specs.proving.Changes.{hunks_of}
use Rattle.rec_text.specs.Records.{is_blank_piece}
use Rattle.rec_text.proofs.lemmas.ListLemmas.{bytes_eq-self}

-- ---- where the new elements of a script are the old ones, each part stays as it is: a script whose parts all grow, or all shrink, has no hunk

-- ---- the old elements of a script are those of the text

-- ---- parts that have as many elements as before, or more; or as many, or fewer

abbrev pub Grows : Part → Type 0
Grows part = length part.old ≤ length part.new

abbrev pub Shrinks : Part → Type 0
Shrinks part = length part.new ≤ length part.old

-- the part has the same elements as before
abbrev pub Stays : Part → Type 0
Stays part = part.old ≡ part.new

module _ (old new olds news : List Piece) (same : old ++ olds ≡ new ++ news) where
  same_prefix : length old ≡ length new → old ≡ new
  same_prefix sizes = sym (take_at old olds (length new) sizes) ∙ ap (take (length new)) same ∙ take_at new news (length new) refl

  pub same_rest : old ≡ new → olds ≡ news
  same_rest prefixes = append_cancel_left new olds news (ap (λ prefix. prefix ++ olds) (sym prefixes) ∙ same)

  same_sizes : length old + length olds ≡ length new + length news
  same_sizes = sym (length-append old olds) ∙ ap length same ∙ length-append new news

length-grown : (parts : List Part) → AllByRecursion Grows parts → length (old_pieces parts) ≤ length (new_pieces parts)
length-grown [] grow = omega arith
length-grown (part ∷ parts) grow =
    omega (arith, length-append part.old (old_pieces parts), length-append part.new (new_pieces parts), grow.0, length-grown parts grow.1)

length-shrunk : (parts : List Part) → AllByRecursion Shrinks parts → length (new_pieces parts) ≤ length (old_pieces parts)
length-shrunk [] shrink = omega arith
length-shrunk (part ∷ parts) shrink =
    omega (arith, length-append part.old (old_pieces parts), length-append part.new (new_pieces parts), shrink.0, length-shrunk parts shrink.1)

pub grown_parts_stay : (parts : List Part) → AllByRecursion Grows parts → old_pieces parts ≡ new_pieces parts → AllByRecursion Stays parts
grown_parts_stay [] grow same = tt
grown_parts_stay (part ∷ parts) grow same =
    let sizes : length part.old ≡ length part.new =
    omega (arith, same_sizes part.old part.new (old_pieces parts) (new_pieces parts) same, grow.0, length-grown parts grow.1) in
    let stays = same_prefix part.old part.new (old_pieces parts) (new_pieces parts) same sizes in
    (stays, grown_parts_stay parts grow.1 (same_rest part.old part.new (old_pieces parts) (new_pieces parts) same stays))

pub shrunk_parts_stay : (parts : List Part) → AllByRecursion Shrinks parts → old_pieces parts ≡ new_pieces parts → AllByRecursion Stays parts
shrunk_parts_stay [] shrink same = tt
shrunk_parts_stay (part ∷ parts) shrink same =
    let sizes : length part.old ≡ length part.new =
    omega (arith, same_sizes part.old part.new (old_pieces parts) (new_pieces parts) same, shrink.0, length-shrunk parts shrink.1) in
    let stays = same_prefix part.old part.new (old_pieces parts) (new_pieces parts) same sizes in
    (stays, shrunk_parts_stay parts shrink.1 (same_rest part.old part.new (old_pieces parts) (new_pieces parts) same stays))

-- ---- parts that stay have no hunk

kept : (part : Part) → Stays part → is_kept part ≡ true
kept part stays = ap (λ pieces. is_kept (record { old = pieces; new = part.new })) stays ∙ bytes_eq-self (text_of part.new)

changes_from-kept : (at : ℕ) (parts : List Part) → AllByRecursion Stays parts → changes_from at parts ≡ []
changes_from-kept at [] stay = refl
changes_from-kept at (part ∷ parts) stay = rw (kept part stay.0) (changes_from-kept (at + length (text_of part.old)) parts stay.1)

pub hunks_of-kept : (parts : List Part) → AllByRecursion Stays parts → hunks_of parts ≡ []
hunks_of-kept parts stay = rw (changes_from-kept 0 parts stay) refl

pub length-opened : (pieces : List Piece) → length (opened pieces) ≡ length pieces
length-opened [] = refl
length-opened (piece ∷ []) = refl
length-opened (piece ∷ next ∷ pieces) = ap suc (length-opened (next ∷ pieces))

-- what holds of the sizes of each part holds of them without a newline too
pub settled-all : (P : Part → Type 0) → ((part : Part) → P part → P (record { old = part.old; new = opened part.new }))
    → (parts : List Part) → AllByRecursion P parts → AllByRecursion P (settled parts)
settled-all P without [] all = tt
settled-all P without (part ∷ []) all =
    let open_part : Part = record { old = part.old; new = opened part.new } in
    cond_both (lacks_newline (text_of part.old)) open_part part (λ p. P p × Unit {0}) (λ _. (without part all.0, tt)) (λ _. (all.0, tt))
settled-all P without (part ∷ next ∷ parts) all = (all.0, settled-all P without (next ∷ parts) all.1)

-- ---- parts that change, a blank element between each two of them: where the new elements are the old ones, each part stays

-- ---- the elements before the first blank one

abbrev pub up_to_blank : List Piece → List Piece
up_to_blank [] = []
up_to_blank (piece ∷ pieces) = if is_blank_piece piece then [] else piece ∷ up_to_blank pieces

up_to_blank-full : (prefix rest : List Piece) → list_any is_blank_piece prefix ≡ false → up_to_blank (prefix ++ rest) ≡ prefix ++ up_to_blank rest
up_to_blank-full [] rest full = refl
up_to_blank-full (piece ∷ prefix) rest full =
    let parts = or_parts (is_blank_piece piece) (list_any is_blank_piece prefix) full in
    let other : is_blank_piece piece ≡ false = parts.0 in
    rw other (ap (λ l. piece ∷ l) (up_to_blank-full prefix rest parts.1))

up_to_blank-blank : (prefix some other : List Piece) → list_any is_blank_piece prefix ≡ true → up_to_blank (prefix ++ some) ≡ up_to_blank (prefix ++ other)
up_to_blank-blank [] some other blank = absurd (false≢true blank)
up_to_blank-blank (piece ∷ prefix) some other blank = elim (cases_Bool (is_blank_piece piece)) [
  | inl is ↦ rw is refl
  | inr full ↦ rw full (ap (λ l. piece ∷ l) (up_to_blank-blank prefix some other (rw full at blank)))
]

up_to_blank-prefix : (prefix some other : List Piece) → (list_any is_blank_piece prefix ≡ false → up_to_blank some ≡ up_to_blank other) → up_to_blank (prefix ++ some) ≡ up_to_blank (prefix ++ other)
up_to_blank-prefix prefix some other same = elim (cases_Bool (list_any is_blank_piece prefix)) [
  | inl blank ↦ up_to_blank-blank prefix some other blank
  | inr full ↦ up_to_blank-full prefix some full ∙ ap (λ l. prefix ++ l) (same full) ∙ sym (up_to_blank-full prefix other full)
]

-- ---- parts that change, apart from each other

-- none of the part's elements is blank
pub record IsFullPart (part : Part) : Type 0 where
  pub old : list_any is_blank_piece part.old ≡ false
  pub new : list_any is_blank_piece part.new ≡ false

-- Each part stays, or none of its elements is blank and a blank one stands between it and the part before it that changes; `free` says
-- that none before these changes, or that a blank element stands after that one.
abbrev pub ChangeApart : Bool → List Part → Type 0
ChangeApart free [] = Unit {0}
ChangeApart free (part ∷ parts) = (Stays part × ChangeApart (free || list_any is_blank_piece part.old) parts) ⊎ ((free ≡ true) × IsFullPart part × ChangeApart false parts)

same_up_to_blank : (parts : List Part) → ChangeApart false parts → up_to_blank (old_pieces parts) ≡ up_to_blank (new_pieces parts)
same_up_to_blank [] apart = refl
same_up_to_blank (part ∷ parts) (inl (stays, rest)) =
    up_to_blank-prefix part.old (old_pieces parts) (new_pieces parts) (λ full. same_up_to_blank parts (rw full at rest))
    ∙ ap (λ old. up_to_blank (old ++ new_pieces parts)) stays
same_up_to_blank (part ∷ parts) (inr (free, full, rest)) = absurd (false≢true free)

changed_part_stays : (part : Part) (parts : List Part) → IsFullPart part → ChangeApart false parts → part.old ++ old_pieces parts ≡ part.new ++ new_pieces parts → Stays part
changed_part_stays part parts full rest same =
    append_cancel_right part.old part.new (up_to_blank (new_pieces parts)) (
    ap (λ l. part.old ++ l) (sym (same_up_to_blank parts rest))
    ∙ sym (up_to_blank-full part.old (old_pieces parts) full.old)
    ∙ ap up_to_blank same
    ∙ up_to_blank-full part.new (new_pieces parts) full.new
    )

parts_apart_stay : (free : Bool) (parts : List Part) → ChangeApart free parts → old_pieces parts ≡ new_pieces parts → AllByRecursion Stays parts
parts_apart_stay free [] apart same = tt
parts_apart_stay free (part ∷ parts) (inl (stays, rest)) same =
    (stays, parts_apart_stay (free || list_any is_blank_piece part.old) parts rest (same_rest part.old part.new (old_pieces parts) (new_pieces parts) same stays))
parts_apart_stay free (part ∷ parts) (inr (is_free, full, rest)) same =
    let stays : Stays part = changed_part_stays part parts full rest same in
    (stays, parts_apart_stay false parts rest (same_rest part.old part.new (old_pieces parts) (new_pieces parts) same stays))

pub hunks_of-apart : (parts : List Part) → ChangeApart true parts → old_pieces parts ≡ new_pieces parts → hunks_of parts ≡ []
hunks_of-apart parts apart same = hunks_of-kept parts (parts_apart_stay true parts apart same)
