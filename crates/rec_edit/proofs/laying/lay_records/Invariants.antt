use Rattle.std.proofs.Common.{◌≡◌, ◌+◌, ◌≤◌, drop}
use Rattle.rec_edit.specs.Blocks.{changed_from, blocks_of}
use Rattle.rec_edit.specs.proving.Laying.{IsLaidBy, is_marked}
use Rattle.rec_edit.proofs.laying.lay_records.Given as goal

abbrev pub invariant-loop-index : goal.invariant-loop-index
invariant-loop-index g l = record {
  laid : IsLaidBy l.draft (is_marked l.marks) (g.C.Change.made l.change) l.database l.records l.index;
  counted : l.changed + changed_from (is_marked l.marks) (g.C.Change.made l.change) l.index (blocks_of l.database (drop l.index l.records))
      ≡ changed_from (is_marked l.marks) (g.C.Change.made l.change) 0 (blocks_of l.database l.records);
  few : l.changed ≤ l.index;
}
