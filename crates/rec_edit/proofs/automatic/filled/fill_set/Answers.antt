use Rattle.rec_check.specs.Stored.{described}
use Rattle.std.proofs.Common.{◌∙◌, ap, get_or, sym, subst, Err, OnOk, IfErr}
use Rattle.rec_text.specs.Faults.{IsMemoryOr}
use Rattle.rec_text.specs.Places.{pieces_of}
use Rattle.rec_check.specs.Automatic.{readings}
use Rattle.rec_check.specs.Counters.{AreCounters}
use Rattle.rec_check.specs.Violations.{members}
use Rattle.rec_edit.specs.Automatic.{AreFilled}
use Rattle.rec_edit.specs.proving.Filling.{filled_of, AddsFilled}
use Rattle.std.proofs.lemmas.Result.{on_ok_weaker}
use Rattle.rec_edit.proofs.lemmas.automatic.FillLemmas.{get_there, set_filled, set_refused_by}
use Rattle.rec_edit.proofs.automatic.filled.fill_set.Goals as goal

pub counters-requires-clause-schema : goal.counters-requires-clause-schema
counters-requires-clause-schema c = rw (c.database-database.ensures.elements, c.schema-schema.ensures.schema) c.database-database.ensures.together

pub counters-requires-clause-place : goal.counters-requires-clause-place
counters-requires-clause-place c = rw c.schema-schema.ensures.schema c.requires

pub members-records-requires-clause-schema : goal.members-records-requires-clause-schema
members-records-requires-clause-schema c = rw (c.database-database.ensures.elements, c.schema-schema.ensures.schema) c.database-database.ensures.together

pub members-records-requires-clause-place : goal.members-records-requires-clause-place
members-records-requires-clause-place c = rw c.schema-schema.ensures.schema c.requires

pub returns-clause-filled : goal.returns-clause-filled
returns-clause-filled c = rw (sym c.database-database.ensures.elements, sym c.schema-schema.ensures.schema) (λ records s rules is.
    let own = members records s in
    let numbers = readings c.database-database.result.now own in
    let old = filled_of c.args.filled.now.items in
    let shown = c.index-sets-place.result in
    let headed = filled_of c.fill_head.new.filled.items in
    let new = filled_of c.fill_records.new.filled.items in
    on_ok_weaker c.fill_records.result (λ adds. set_filled c.database-database.result.now records s shown rules old headed new
    (c.index-sets-place.is ∙ ap (λ l. get_or l c.args.place shown) c.sets.ensures ∙ get_there (described c.schema-schema.result.now).sets c.args.place shown s is.1)
    c.in_ok-fill_head.ensures adds)
    (subst (λ p. OnOk c.fill_records.result (AddsFilled (AreFilled p rules numbers own) headed new)) c.elements.ensures.pieces
    (subst (λ rs. OnOk c.fill_records.result (AddsFilled (AreFilled (pieces_of c.elements.result.now) rules numbers rs) headed new)) (c.members-records.ensures.members records s is.0 is.1)
    (c.fill_records.ensures.filled rules numbers (subst (AreCounters rules numbers) (sym c.deref_mut.ensures.value) (c.in_ok-counters.ensures.counters records s rules is.0 is.1 is.2))))))

pub returns-clause-refused : goal.returns-clause-refused
returns-clause-refused c = rw (sym c.database-database.ensures.elements, sym c.schema-schema.ensures.schema) (λ records s rules is.
    let own = members records s in
    let numbers = readings c.database-database.result.now own in
    set_refused_by c.database-database.result.now records s rules c.fill_records.result
    (subst (λ p. IfErr c.fill_records.result (λ fault. IsMemoryOr fault (AreFilled p rules numbers own (Err fault)))) c.elements.ensures.pieces
    (subst (λ rs. IfErr c.fill_records.result (λ fault. IsMemoryOr fault (AreFilled (pieces_of c.elements.result.now) rules numbers rs (Err fault))))
    (c.members-records.ensures.members records s is.0 is.1)
    (c.fill_records.ensures.refused rules numbers (subst (AreCounters rules numbers) (sym c.deref_mut.ensures.value) (c.in_ok-counters.ensures.counters records s rules is.0 is.1 is.2))))))
