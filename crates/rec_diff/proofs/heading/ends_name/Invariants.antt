use Rattle.std.proofs.Common.{◌≡◌, drop}
use Rattle.std.specs.Option.{is_some}
use Rattle.rec_text.specs.Elements.{name_end}
use Rattle.rec_diff.proofs.heading.ends_name.Given as goal

abbrev pub invariant-loop-byte : goal.invariant-loop-byte
invariant-loop-byte l = is_some (name_end (drop l.byte-index l.text)) ≡ is_some (name_end l.text)
