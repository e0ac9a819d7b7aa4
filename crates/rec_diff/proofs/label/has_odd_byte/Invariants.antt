use Rattle.std.proofs.Common.{◌≡◌, not, drop}
use Rattle.std.specs.List.{list_any}
use Rattle.rec_diff.specs.Diff.{is_plain_byte}
use Rattle.rec_diff.proofs.label.has_odd_byte.Given as goal

abbrev pub invariant-loop-byte : goal.invariant-loop-byte
invariant-loop-byte l = list_any (λ b. not (is_plain_byte b)) (drop l.byte-index l.name) ≡ list_any (λ b. not (is_plain_byte b)) l.name
