use Rattle.std.proofs.Common.{arith, rules, tests}
use Rattle.std.proofs.lemmas.Bool.Decides.{nat_tests}
use Rattle.std.proofs.lemmas.Iterator.{YieldsList-from_slice}
use Rattle.std.proofs.lemmas.Iterator.Search.{position_from_yields_List}
use Rattle.rec_text.specs.Bytes.{is_space}
use Rattle.rec_check.proofs.lemmas.descriptors.WordLemmas.{words-none, words-some}
use Rattle.rec_check.proofs.descriptors.words.split_word.Goals as goal

pub returns-then-is_empty : goal.returns-then-is_empty
returns-then-is_empty c = words-none c.args.text.now c.trim_start-found.result.now c.trim_start-found.ensures (grind (arith, nat_tests))

pub returns : goal.returns
returns c =
    let found = c.trim_start-found.result.now in
    let place = position_from_yields_List is_space _ _ _ c.position.ensures.ran (YieldsList-from_slice found cc) (λ x b q k. search (rules, tests)) in
    words-some c.args.text.now found c.trim_start-found.ensures c.position.result c.unwrap_or-len.result _ _ (grind (arith, nat_tests)) place c.unwrap_or-len.ensures c.split_at.ensures.front
    c.split_at.ensures.back
