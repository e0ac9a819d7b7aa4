use Rattle.std.proofs.Common.{arith}
use Rattle.rec_diff.specs.proving.Runs.{run_deeds}
use Rattle.rec_diff.proofs.lemmas.composing.RunLemmas.{meeting, CutsRun-length}
use Rattle.rec_diff.proofs.composing.merging.cross.Goals as goal

pub returns : goal.returns
returns c = record {
  deeds = meeting c.args.one.now.head c.args.other.now.head c.shorter-count.result c.cut.result.0 c.cut.result.1 c.cut-2.result.0 c.cut-2.result.1 c.met.result
      c.cut.ensures c.cut-2.ensures c.requires.kinds c.met.ensures (run_deeds c.args.one.now.rest.now) (run_deeds c.args.other.now.rest.now);
  smaller = omega (
    arith,
    c.shorter-count.ensures.some c.requires.one c.requires.other,
    CutsRun-length c.args.one.now.head c.shorter-count.result c.cut.result.0 c.cut.result.1 c.cut.ensures,
    CutsRun-length c.args.other.now.head c.shorter-count.result c.cut-2.result.0 c.cut-2.result.1 c.cut-2.ensures,
  );
}
