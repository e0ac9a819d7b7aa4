use Rattle.rec_select.proofs.lemmas.printing.PutsLemmas.{HasTaken-as, HasTaken-nil, Prints-as}
use Rattle.rec_select.proofs.lemmas.printing.ExcerptLemmas.{closed_none, closed_some}
use Rattle.rec_select.proofs.excerpt.Excerpt.write.Goals as goal

pub returns-then-is_empty-clause-printed : goal.returns-then-is_empty-clause-printed
returns-then-is_empty-clause-printed g c =
    HasTaken-as (closed_none c.args.self.now _ c.raw-raw.ensures.text c.raw-raw.ensures.whole c.if-is_empty.ensures) (HasTaken-nil _)

pub returns-clause-printed : goal.returns-clause-printed
returns-clause-printed g c =
    Prints-as _ _ _ _ (closed_some c.args.self.now _ c.raw-raw.ensures.text c.raw-raw.ensures.whole c.if-is_empty.ensures) c.write_closed.result c.write_closed.ensures.printed
