-- The edit's turns that are left, as the code holds them.
use Rattle.rec_diff.specs.declared.reverting.weaving.Ahead.{Ahead}
use Rattle.rec_diff.specs.proving.Moving.{Passing, passing}

abbrev pub ahead_of : Ahead → Passing
ahead_of a = passing a.change.now a.back.now a.change_end a.back_end
