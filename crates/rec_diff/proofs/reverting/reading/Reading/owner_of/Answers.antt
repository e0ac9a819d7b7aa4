use Rattle.rec_diff.proofs.lemmas.reverting.ReadingLemmas.{at_read, no_owner_tells, owner_tells, past_read}
use Rattle.rec_diff.proofs.reverting.reading.Reading.owner_of.Goals as goal

pub returns-in-Some : goal.returns-in-Some
returns-in-Some c = λ k.
    let r = c.args.self.now in
    owner_tells r c.requires c.args.element k c.in-Some.owner.now
    (at_read r.records.owners.items c.deref.result.now c.args.element c.in-Some.owner.now c.deref.ensures.value c.in-Some.ensures.lookup.3.0 c.in-Some.ensures.lookup.1)

pub returns-in-None : goal.returns-in-None
returns-in-None c = λ k.
    let r = c.args.self.now in
    no_owner_tells r c.requires c.args.element k (past_read r.records.owners.items c.deref.result.now c.args.element c.deref.ensures.value c.in-None.ensures.lookup.3)
