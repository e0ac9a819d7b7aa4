use Rattle.rec_check.proofs.lemmas.field_types.RegexpLemmas.{pattern_in-same, pattern_in-differs}
use Rattle.rec_check.proofs.field_types.regexp.pattern_in.Goals as goal

pub returns-then-first-last : goal.returns-then-first-last
returns-then-first-last c = pattern_in-same _ _ _ _ _ c.in_ok-first.ensures.cases.0 c.in_ok-last.ensures.cases.0 c.if-first-last.true

pub returns-else-first-last : goal.returns-else-first-last
returns-else-first-last c = pattern_in-differs _ _ _ _ _ c.in_ok-first.ensures.cases.0 c.in_ok-last.ensures.cases.0 c.if-first-last.false
