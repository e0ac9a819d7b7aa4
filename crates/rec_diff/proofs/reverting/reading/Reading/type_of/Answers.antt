use Rattle.std.proofs.Common.{◌≡◌, ◌∙◌, Option, Some, None, List, ℕ, ap, subst}
use Rattle.std.specs.List.{slice_get}
use Rattle.std.specs.Option.{MatchOption, option_and_then}
use Rattle.rec_diff.proofs.lemmas.reverting.ReadingLemmas.{at_read, no_type_at, past_read, type_at_is}
use Rattle.rec_diff.proofs.reverting.reading.Reading.type_of.Goals as goal

pub returns-in-Some : goal.returns-in-Some
returns-in-Some c =
    let r = c.args.self.now in
    let own = c.in-Some.own.now in
    subst (λ (of_type : Option (List ℕ)). MatchOption c.named_in.result (of_type ≡ None) (λ named. of_type ≡ Some named.now))
    (ap (λ types. option_and_then (slice_get types) own.record_type) c.deref-in-Some.ensures.value
    ∙ type_at_is r c.requires c.args.number own
    (at_read r.records.each.items c.deref.result.now c.args.number own c.deref.ensures.value c.in-Some.ensures.lookup.3.0 c.in-Some.ensures.lookup.1))
    c.named_in.ensures

pub returns-in-None : goal.returns-in-None
returns-in-None c =
    let r = c.args.self.now in
    no_type_at r c.requires c.args.number (past_read r.records.each.items c.deref.result.now c.args.number c.deref.ensures.value c.in-None.ensures.lookup.3)
