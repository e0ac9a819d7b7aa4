use Rattle.std.proofs.Common.{◌≡◌, map, drop}
use Rattle.std.specs.List.{list_all}
use Rattle.rec_text.specs.Places.{pieces_of}
use Rattle.rec_tools.specs.Batches.{is_known}
use Rattle.rec_tools.proofs.batches.are_known.Given as goal

abbrev pub invariant-loop-element : goal.invariant-loop-element
invariant-loop-element l =
    list_all (is_known (map (λ name. name.now) l.names)) (pieces_of (drop l.element-index l.own))
    ≡ list_all (is_known (map (λ name. name.now) l.names)) (pieces_of l.own)
