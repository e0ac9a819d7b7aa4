use Rattle.rec_diff.proofs.lemmas.comparing.CutsLemmas.{longest_is_longest}
use Rattle.rec_diff.proofs.laws.longest_is_longest.Goals as goal

pub returns : goal.returns
returns c = longest_is_longest
