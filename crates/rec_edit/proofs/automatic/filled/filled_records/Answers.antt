use Rattle.std.proofs.Common.{◌≡◌, ◌<◌, ◌≤◌, List, None, get_or, length, refl, sym, arith}
use Rattle.std.proofs.lemmas.List.{get_or_default}
use Rattle.std.proofs.lemmas.Option.{slice_get-get_or}
use Rattle.std.proofs.lemmas.Slice.Zip.{AllZip-long}
use Rattle.rec_check.specs.declared.set.Set_.{Set_}
use Rattle.rec_check.specs.Rules.{Rules, no_rules}
use Rattle.rec_check.specs.Schemas.{IsRuled}
use Rattle.rec_check.specs.Stored.{described}
use Rattle.rec_edit.specs.proving.Filling.{filled_of}
use Rattle.rec_text.proofs.lemmas.ErrorLemmas.{kept_error}
use Rattle.rec_text.proofs.lemmas.FaultLemmas.{memory_or_weaker}
use Rattle.rec_edit.proofs.lemmas.automatic.FillLemmas.{one_set_filled, set_refused, all_sets_filled}
use Rattle.rec_edit.proofs.automatic.filled.filled_records.Goals as goal
use Rattle.rec_edit.proofs.automatic.filled.filled_records.Goals.{After-sets-place-end}

abbrev no_set : Set_
no_set = record { kind = None; head = None; members = record { start = 0; end = 0 } }

abbrev sets : After-sets-place-end → List Set_
sets c = (described c.args.file.now.schema).sets

abbrev rules : After-sets-place-end → List Rules
rules c = (described c.args.file.now.schema).rules

long : (c : After-sets-place-end) → length (sets c) ≡ length (rules c)
long c = omega (arith, AllZip-long (IsRuled c.args.file.now.pieces c.schema.ensures.together.records) (sets c) (rules c) c.schema.ensures.together.rules)

count : (c : After-sets-place-end) → length c.sets-place-end.result.now ≡ length (sets c)
count c = rw c.sets-place-end.ensures (rw c.schema.ensures.schema refl)

pub fill_set-requires : goal.fill_set-requires
fill_set-requires c =
    let at = (goal.at.fill_set-requires c).After-sets-place-end in
    omega (arith, count at, c.loop-place-test.true)

pub returns-in_err-fill_set-clause-refused : goal.returns-in_err-fill_set-clause-refused
returns-in_err-fill_set-clause-refused c =
    let at = (goal.at.returns-in_err-fill_set-clause-refused c).After-sets-place-end in
    let records = c.schema.ensures.together.records in
    let are = c.schema.ensures.together.are in
    let i = c.loop-place.place in
    let within : i < length (sets at) = omega (arith, count at) in
    let ruled : i < length (rules at) = omega (arith, long at) in
    let s = get_or (sets at) i no_set in
    let asked = get_or (rules at) i no_rules in
    let fault = c.in_err-fill_set.field-0.0 in
    rw (kept_error c.from_residual.ensures.1) (memory_or_weaker fault _ _
    (λ refused. (
      records,
      are,
      set_refused c.args.file.now.pieces records (sets at) (rules at) i (filled_of c.loop-place.filled.items) within (long at) s asked (sym (get_or_default (sets at) i no_set s within))
          (sym (get_or_default (rules at) i no_rules asked ruled))
          (c.loop-place.invariant records are) fault refused,
    ))
    (c.in_err-fill_set.ensures.refused records s asked (are, slice_get-get_or (sets at) i no_set within, slice_get-get_or (rules at) i no_rules ruled)))

pub loop-place-preserved : goal.loop-place-preserved
loop-place-preserved c = λ records are.
    let at = (goal.at.loop-place-preserved c).After-sets-place-end in
    let i = c.loop-place.place in
    let within : i < length (sets at) = omega (arith, count at) in
    let ruled : i < length (rules at) = omega (arith, long at) in
    let s = get_or (sets at) i no_set in
    let asked = get_or (rules at) i no_rules in
    one_set_filled c.args.file.now.pieces records (sets at) (rules at) i (filled_of c.loop-place.filled.items) within (long at) s asked (sym (get_or_default (sets at) i no_set s within))
    (sym (get_or_default (rules at) i no_rules asked ruled))
    (c.loop-place.invariant records are) (filled_of c.fill_set.new.filled.items)
    (c.in_ok-fill_set.ensures.filled records s asked (are, slice_get-get_or (sets at) i no_set within, slice_get-get_or (rules at) i no_rules ruled))

pub returns-clause-filled : goal.returns-clause-filled
returns-clause-filled c =
    let at = (goal.at.returns-clause-filled c).After-sets-place-end in
    let records = c.schema.ensures.together.records in
    let are = c.schema.ensures.together.are in
    let past : length (sets at) ≤ c.loop-place.place = omega (arith, count at, c.loop-place-test.false) in (
      records,
      are,
      all_sets_filled c.args.file.now.pieces records (sets at) (rules at) c.loop-place.place (filled_of c.loop-place.filled.items) past (omega (arith, long at))
          (c.loop-place.invariant records are),
    )
