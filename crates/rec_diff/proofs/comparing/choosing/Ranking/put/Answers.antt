use Rattle.std.proofs.Common.{◌≡◌, ◌∙◌, ◌+◌, ◌++◌, ◌∷◌, [], length, refl, ap, ltb, arith, rules}
use Rattle.std.proofs.lemmas.List.Sorted.{IsPartitionPoint-from_clause}
use Rattle.rec_diff.proofs.lemmas.comparing.RankLemmas.{IsPut, ranking_put, tops_fall, put_over, put_after}
use Rattle.rec_diff.proofs.comparing.choosing.Ranking.put.Goals as goal
use Rattle.rec_diff.proofs.comparing.choosing.Ranking.put.Goals.{then-above-len, else-above-len+in_ok-push}

pub returns : goal.returns
returns c = λ marks are.
    let top = c.args.mark.new in
    let before = c.args.self.now in
    let count = c.partition_point-above.result in
    let searched = rw c.deref.ensures.value at c.partition_point-above.ensures in
    let put : IsPut before.tops.items count top c.if-above-len.self.tops.items = elim c.if-above-len.branch [
      | then-above-len w ↦ rw w.self-is (put_over before.tops.items count top (omega (arith, ap length c.deref.ensures.value)))
      | else-above-len+in_ok-push w ↦ rw (w.self-is, w.in_ok-push.ensures.items) (put_after before.tops.items count top searched.bound (omega (arith, ap length c.deref.ensures.value)))
    ] in
    let ranks : c.if-above-len.self.ranks ≡ before.ranks = elim c.if-above-len.branch [
      | then-above-len w ↦ rw w.self-is refl
      | else-above-len+in_ok-push w ↦ rw w.self-is refl
    ] in
    ranking_put c.args.mark marks before _ count are searched.bound
    (IsPartitionPoint-from_clause (λ t. ltb top t) before.tops.items count searched.partitioned (tops_fall marks before.tops.items top are.tops) (λ a r q k. search rules))
    put (c.in_ok-push-2.ensures.items ∙ ap (λ r. r.items ++ (count + 1) ∷ []) ranks)
