use Rattle.std.proofs.Common.{◌≡◌, ◌∙◌, ◌++◌, ℕ, false, List, map, Err, ap, inr}
use Rattle.std.specs.Prelude.{option_to_list}
use Rattle.std.specs.List.{list_all}
use Rattle.rec_text.specs.Canonical.{is_plain_name, is_foldable}
use Rattle.rec_text.proofs.lemmas.FaultLemmas.{from_fact}
use Rattle.rec_edit.specs.Task.{Pair, fresh_by}
use Rattle.rec_edit.specs.Wording.{names_in, written_pairs, IsNewRecord}
use Rattle.rec_edit.proofs.lemmas.outcomes.WrittenLemmas.{plain_both, plain_neither, if_writable-ok, if_writable-err}
use Rattle.rec_edit.proofs.insertion.fresh.new_record.Goals as goal
use Rattle.rec_edit.proofs.insertion.fresh.new_record.Goals.{After-require_written, then-is_plain_type, else-is_plain_type}

-- the type, and the names of the fields; and their values
abbrev names : After-require_written → List (List ℕ)
names c = option_to_list c.args.record_type.now ++ names_in c.in_ok-pairs.pairs.items

abbrev values : After-require_written → List (List ℕ)
values c = map (λ pair. pair.value) c.in_ok-pairs.pairs.items

plain : (c : After-require_written) → c.if-is_plain_type.names_are_plain ≡ list_all is_plain_name (names c)
plain c =
    let some : List (List ℕ) = option_to_list c.args.record_type.now in
    let more : List (List ℕ) = names_in c.in_ok-pairs.pairs.items in
    elim c.if-is_plain_type.branch [
      | then-is_plain_type w ↦
          plain_both some more c.if-is_plain_type.names_are_plain c.is_plain_type.result w.pairs_have_plain_names-names_are_plain.result c.is_plain_type.ensures (cc) (cc)
          (w.pairs_have_plain_names-names_are_plain.ensures ∙ ap (λ (pairs : List Pair). list_all is_plain_name (names_in pairs)) w.deref.ensures.value)
      | else-is_plain_type w ↦ plain_neither some more c.if-is_plain_type.names_are_plain c.is_plain_type.result false c.is_plain_type.ensures (cc) (cc)
    ]

foldable : (c : After-require_written) → c.have_foldable_values.result ≡ list_all (is_foldable 32) (values c)
foldable c = c.have_foldable_values.ensures ∙ ap (λ (pairs : List Pair). list_all (is_foldable 32) (map (λ pair. pair.value) pairs)) c.deref-2.ensures.value

pub returns-in-Err-clause-refused : goal.returns-in-Err-clause-refused
returns-in-Err-clause-refused c =
    let at = (goal.at.returns-in-Err-clause-refused c).After-require_written in
    let fault = c.in-Err.fault in
    let pairs : List Pair = c.in_ok-pairs.pairs.items in
    let refused : Err fault ≡ written_pairs c.args.record_type.now pairs =
    if_writable-err (names at) (values at) pairs c.require_written.result (c.require_written.ensures (names at) (values at) (plain at) (foldable at)) fault c.in-Err.is in
    rw c.unwritten.ensures
    (from_fact fault (IsNewRecord c.args.record_type.now (fresh_by c.args.fresh.now) (Err fault)) (inr (pairs, c.in_ok-pairs.ensures.found, refused)))

pub returns-in-Ok-clause-found : goal.returns-in-Ok-clause-found
returns-in-Ok-clause-found c =
    let at = (goal.at.returns-in-Ok-clause-found c).After-require_written in
    let pairs : List Pair = c.in_ok-pairs.pairs.items in
    inr (
      pairs,
      c.in_ok-pairs.ensures.found,
      if_writable-ok (names at) (values at) pairs c.require_written.result (c.require_written.ensures (names at) (values at) (plain at) (foldable at)) c.in-Ok.is,
    )
