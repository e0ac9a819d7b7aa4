use Rattle.std.proofs.Common.{ℕ, List, [], get_or, sym, subst, take}
use Rattle.std.specs.Borrow.{Bor}
use Rattle.std.proofs.lemmas.List.{map_more}
use Rattle.std.proofs.lemmas.Map.Text.{hash_map_updates_str}
use Rattle.rec_text.specs.Bytes.{texts}
use Rattle.rec_check.specs.Counters.{greatest_at, CountsFrom}
use Rattle.rec_check.proofs.lemmas.automatic.CountLemmas.{CountsFrom-more}
use Rattle.rec_check.proofs.automatic.counter.uncounted.Goals as goal

pub loop-name-preserved : goal.loop-name-preserved
loop-name-preserved c =
    let names = c.args.names.now in
    let i = c.loop-name.name-index in
    let nothing : Bor (List ℕ) = record { ref_ptr = (0, 0); now = [] } in
    let own = get_or names i nothing in
    subst (λ l. CountsFrom l (greatest_at c.insert.new.self)) (sym (map_more (λ one. one.now) names i nothing c.loop-name-test.true))
    (CountsFrom-more (texts (take i names)) own.now (greatest_at c.loop-name.greatest) (greatest_at c.insert.new.self) c.loop-name.invariant
    (hash_map_updates_str own.now c.loop-name.greatest c.insert.new.self _ c.in_ok-insert.ensures.updates))
