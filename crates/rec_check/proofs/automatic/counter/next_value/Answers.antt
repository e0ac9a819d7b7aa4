use Rattle.std.proofs.Common.{◌∙◌, None, ap, inl, sym, unwrap_or}
use Rattle.rec_text.specs.Places.{pieces_of}
use Rattle.rec_check.specs.Automatic.{readings}
use Rattle.rec_check.specs.Stored.{rules_stored}
use Rattle.rec_check.proofs.lemmas.automatic.CounterLemmas.{next_in}
use Rattle.rec_check.proofs.lemmas.automatic.CountLemmas.{among_itself}
use Rattle.rec_check.proofs.automatic.counter.next_value.Goals as goal

pub returns-then-not-branch : goal.returns-then-not-branch
returns-then-not-branch c = inl (sym c.in_ok-may_be_counter.ensures.counter ∙ c.if-not-branch.true)

pub returns : goal.returns
returns c =
    let name = c.args.name.now in
    next_in (rules_stored c.args.rules.now) name (readings (pieces_of c.args.elements.now) c.args.records.now name) _ c.number_after.result (sym c.in_ok-may_be_counter.ensures.counter
    ∙ c.if-not-branch.false)
    (c.kept.ensures ∙ ap (λ kept. unwrap_or kept None) (c.in_ok-greatest.ensures.greatest name (among_itself name))) c.number_after.ensures
