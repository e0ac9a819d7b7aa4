use Rattle.std.proofs.Common.{◌≡◌, ◌||◌, ℕ, List, take}
use Rattle.rec_sex.specs.proving.Choices.{has_name}
use Rattle.rec_text.specs.Bytes.{is_among}
use Rattle.rec_check.proofs.checks.names.add_names.Given as goal

abbrev pub invariant-loop-name : goal.invariant-loop-name
invariant-loop-name l = (name : List ℕ) → has_name l.names name ≡ (has_name l.fn.names name || is_among (take l.name-index l.more) name)
