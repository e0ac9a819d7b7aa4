-- The fields of a new record.
use Rattle.std.proofs.Common.{◌≡◌, ℕ, Bool, true, false, List, [], ◌∷◌, refl, sym, subst, inl, inr, map, None, Ok}
use Rattle.std.specs.List.{AllByRecursion, list_any, list_all}
use Rattle.std.proofs.lemmas.Bool.{or_from, and_parts}
use Rattle.rec_text.specs.Elements.{Piece, has_name}
use Rattle.rec_text.specs.Records.{is_blank_piece}
use Rattle.rec_text.specs.Canonical.{is_plain_name, is_foldable}
use Rattle.rec_check.specs.Descriptors.{rec_name}
use Rattle.rec_edit.specs.Task.{Pair, NewRecord}
use Rattle.rec_edit.specs.Rules.{canonical, fields_of}
use Rattle.rec_edit.proofs.lemmas.scripts.WellFormedLemmas.{IsClosed, IsBare, canonical_is_closed, canonical_is_bare, AllByRecursion-map}
use Rattle.rec_edit.proofs.lemmas.scripts.LaidLemmas.{Neat}
use Rattle.rec_edit.proofs.lemmas.layouts.NeatLemmas.{canonical_neat}
use Rattle.rec_edit.proofs.lemmas.layouts.NameLemmas.{plain_canonical}
use Rattle.rec_edit.specs.Wording.{IsNewRecord}
use Rattle.rec_edit.proofs.lemmas.outcomes.OutcomeLemmas.{written_by}

-- the name and the value can be written
pub record CanBeWritten (pair : Pair) : Type 0 where
  pub plain : is_plain_name pair.name ≡ true
  pub foldable : is_foldable 32 pair.value ≡ true

pub pairs_can_be_written : (pairs : List Pair) → list_all is_plain_name (map (λ pair. pair.name) pairs) ≡ true → list_all (is_foldable 32) (map (λ pair. pair.value) pairs) ≡ true
    → AllByRecursion CanBeWritten pairs
pairs_can_be_written [] names values = tt
pairs_can_be_written (pair ∷ pairs) names values =
    let name = and_parts (is_plain_name pair.name) (list_all is_plain_name (map (λ pair. pair.name) pairs)) names in
    let value = and_parts (is_foldable 32 pair.value) (list_all (is_foldable 32) (map (λ pair. pair.value) pairs)) values in
    (record { plain = name.0; foldable = value.0 }, pairs_can_be_written pairs name.1 value.1)

module _ (pairs : List Pair) (written : AllByRecursion CanBeWritten pairs) where
  fields_hold : (P : Piece → Type 0) → ((pair : Pair) → CanBeWritten pair → P (canonical pair.name pair.value)) → AllByRecursion P (fields_of pairs)
  fields_hold P each = AllByRecursion-map CanBeWritten P (λ pair. canonical pair.name pair.value) each pairs written

  pub fields_closed : AllByRecursion IsClosed (fields_of pairs)
  fields_closed = fields_hold IsClosed (λ pair can. canonical_is_closed pair.name pair.value can.plain can.foldable)

  pub fields_bare : AllByRecursion IsBare (fields_of pairs)
  fields_bare = fields_hold IsBare (λ pair can. canonical_is_bare pair.name pair.value can.plain can.foldable)

  pub fields_neat : AllByRecursion Neat (fields_of pairs)
  fields_neat = fields_hold Neat (λ pair can. canonical_neat pair.name pair.value)

list_any-fails : (test : Piece → Bool) (pieces : List Piece) → AllByRecursion (λ piece. test piece ≡ false) pieces → list_any test pieces ≡ false
list_any-fails test [] all = refl
list_any-fails test (piece ∷ pieces) all = or_from (test piece) (list_any test pieces) all.0 (list_any-fails test pieces all.1)

pub fields_full : (pairs : List Pair) → AllByRecursion CanBeWritten pairs → list_any is_blank_piece (fields_of pairs) ≡ false
fields_full pairs written = list_any-fails is_blank_piece (fields_of pairs) (fields_hold pairs written (λ piece. is_blank_piece piece ≡ false) (λ pair can. refl))

pub fields_unnamed : (pairs : List Pair) → AllByRecursion CanBeWritten pairs → list_any (has_name rec_name) (fields_of pairs) ≡ false
fields_unnamed pairs written =
    list_any-fails (has_name rec_name) (fields_of pairs)
    (fields_hold pairs written (λ piece. has_name rec_name piece ≡ false) (λ pair can. plain_canonical pair.name pair.value can.plain))

pub new_record_can_be_written : (fresh : NewRecord) (pairs : List Pair) → IsNewRecord None fresh (Ok pairs) → AllByRecursion CanBeWritten pairs
new_record_can_be_written fresh pairs (inl (fault, refused, e)) = absurd (cc)
new_record_can_be_written fresh pairs (inr (given, are, same)) =
    let names : List (List ℕ) = map (λ pair. pair.name) given in
    let values : List (List ℕ) = map (λ pair. pair.value) given in
    let is = written_by names values given pairs (list_all is_plain_name names) (list_all (is_foldable 32) values) refl refl same in
    subst (AllByRecursion CanBeWritten) (sym is.same) (pairs_can_be_written given is.names_are is.values_are)
