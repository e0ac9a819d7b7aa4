use Rattle.std.proofs.Common.{◌∙◌, ap, subst}
use Rattle.rec_text.specs.Places.{pieces_of}
use Rattle.rec_check.specs.Automatic.{readings}
use Rattle.rec_text.specs.Bytes.{texts}
use Rattle.rec_check.specs.Counters.{greatest_at, HoldsGreatest}
use Rattle.rec_check.specs.Stored.{rules_stored}
use Rattle.rec_check.specs.proving.Tests.{type_in}
use Rattle.rec_check.proofs.lemmas.automatic.CountLemmas.{AreCounters-kept}
use Rattle.rec_check.proofs.automatic.counter.counters_of.Goals as goal

pub returns-clause-counters : goal.returns-clause-counters
returns-clause-counters c =
    let greatest = greatest_at c.in_ok-greatest.greatest in
    let numbers = readings (pieces_of c.args.elements.now) c.args.records.now in
    AreCounters-kept (rules_stored c.args.rules.now) (type_in c.in_ok-types.types) greatest numbers
    c.in_ok-types.ensures.types
    (texts c.in_ok-names.names.items) c.in_ok-counters_with.field-0.items c.in_ok-names.ensures
    (subst (λ names. HoldsGreatest (texts names) greatest numbers) c.deref.ensures.value c.in_ok-greatest.ensures.greatest)
    (c.in_ok-counters_with.ensures.names ∙ ap texts c.deref-2.ensures.value) c.in_ok-counters_with.ensures.each
