use Rattle.std.proofs.Common.{◌≡◌, map}
use Rattle.rec_check.proofs.descriptors.typing.split_names.Given as goal

abbrev pub invariant-loop-name : goal.invariant-loop-name
invariant-loop-name l = l.names.items ≡ map (λ name. name.now) l.yielded
