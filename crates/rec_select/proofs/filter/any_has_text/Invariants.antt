use Rattle.std.proofs.Common.{drop}
use Rattle.std.specs.Prelude.{Any}
use Rattle.rec_text.specs.Places.{pieces_of}
use Rattle.rec_select.specs.proving.Filters.{HasText}
use Rattle.rec_select.proofs.filter.any_has_text.Given as goal

-- an element that has the text stands among those that are left
abbrev pub invariant-loop-element : goal.invariant-loop-element
invariant-loop-element l = Any (HasText l.text) l.fields → Any (HasText l.text) (pieces_of (drop l.element-index l.element-items))
