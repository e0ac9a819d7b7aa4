use Rattle.std.proofs.Common.{◌≡◌, take}
use Rattle.rec_select.specs.proving.Blocks.{blocks_of, separated}
use Rattle.rec_select.specs.Taken.{HasTaken}
use Rattle.rec_select.proofs.lemmas.printing.PrintingLemmas.{lead}
use Rattle.rec_select.proofs.records.write_blocks.Given as goal

abbrev pub invariant-loop-index : goal.invariant-loop-index
invariant-loop-index g l = record {
  printed :
      HasTaken g.S.Sink.contents g.S.Sink.failure_count l.fn.out l.out (separated l.separator (blocks_of l.shape l.text l.records (take l.index-index l.selected)));
  next : l.before ≡ lead l.separator (blocks_of l.shape l.text l.records (take l.index-index l.selected));
}
