use Rattle.std.proofs.Common.{rules}
use Rattle.std.proofs.lemmas.List.Sorted.{answers_always}
use Rattle.rec_diff.specs.declared.comparing.landmarks.Line.{Line}
use Rattle.rec_diff.proofs.lemmas.comparing.LandmarkLemmas.{sorted_from, lines_moved}
use Rattle.rec_diff.proofs.comparing.landmarks.sorted_lines.Goals as goal

pub returns-clause-lines : goal.returns-clause-lines
returns-clause-lines c =
    lines_moved c.args.text.now c.in_ok-lines.lines.items c.sort_by_key.new.self.items c.in_ok-lines.ensures
    (c.sort_by_key.ensures.stable (λ (l : Line). l.text) (answers_always _ _ _ (λ f a r g h. search rules)))

pub returns-clause-sorted : goal.returns-clause-sorted
returns-clause-sorted c =
    sorted_from c.sort_by_key.new.self.items (c.in_ok-sort_by_key.ensures.sorted (λ (l : Line). l.text) (answers_always _ _ _ (λ f a r g h. search rules)))
