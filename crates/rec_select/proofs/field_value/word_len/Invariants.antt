use Rattle.std.proofs.Common.{◌≡◌, ◌+◌, drop}
use Rattle.std.specs.List.{prefix_len}
use Rattle.rec_text.specs.Bytes.{continues_name}
use Rattle.rec_select.proofs.field_value.word_len.Given as goal

abbrev pub invariant-loop-end : goal.invariant-loop-end
invariant-loop-end l = prefix_len continues_name l.text ≡ l.end + prefix_len continues_name (drop l.end l.text)
