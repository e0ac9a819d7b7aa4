use Rattle.std.proofs.Common.{drop}
use Rattle.std.specs.Prelude.{Any}
use Rattle.rec_text.specs.Places.{pieces_of}
use Rattle.rec_select.specs.Selection.{HasValue}
use Rattle.rec_select.proofs.filter.any_has_value.Given as goal

-- a field that has the value stands among those that are left
abbrev pub invariant-loop-element : goal.invariant-loop-element
invariant-loop-element l = Any (HasValue l.wanted) l.fields → Any (HasValue l.wanted) (pieces_of (drop l.element-index l.element-items))
