use Rattle.std.proofs.Common.{◌≡◌, map, take}
use Rattle.rec_command.proofs.args.found.copies.Given as goal

-- the copies so far
abbrev pub invariant-loop-text : goal.invariant-loop-text
invariant-loop-text l = l.copies.items ≡ map (λ text. text.now) (take l.text-index l.texts)
