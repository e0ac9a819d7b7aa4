use Rattle.std.proofs.Common.{[], ◌∷◌}
use Rattle.rec_select.proofs.lemmas.printing.PutsLemmas.{Prints-append}
use Rattle.rec_select.proofs.info.write_next_block.Goals as goal
use Rattle.rec_select.proofs.info.write_next_block.Goals.{then-not-is_first+in_ok-put_all, else-not-is_first}

pub returns-clause-printed : goal.returns-clause-printed
returns-clause-printed g c = elim c.if-not-is_first.branch [
  | then-not-is_first+in_ok-put_all w ↦
      let put = w.in_ok-put_all.ensures in
      let block = rw w.out-is at c.write_fields.ensures.printed in
      rw w.if-not-is_first.true (Prints-append {a = 10 ∷ []} (record { whole = put.all; sound = put.kept }) _ _ _ block)
  | else-not-is_first w ↦
      let block = rw w.out-is at c.write_fields.ensures.printed in
      rw w.if-not-is_first.false block
]
