use Rattle.std.proofs.Common.{◌≡◌, ◌≤◌, true, sym, arith, rules}
use Rattle.std.proofs.Output.{has_written_of_eq}
use Rattle.std.proofs.lemmas.Bool.Decides.{nat_tests}
use Rattle.std.specs.Char.{is_control}
use Rattle.rec_disk.proofs.lemmas.Escapes.{escaped_beyond}
use Rattle.rec_disk.proofs.escaped.CharacterDisplay.fmt.Goals as goal

pub returns-else-code-lt128-clause-writes : goal.returns-else-code-lt128-clause-writes
returns-else-code-lt128-clause-writes g c = λ plain ok.
    let code = c.args.self.now.0 in
    let control : is_control code ≡ true = first_of (search rules, grind (arith, nat_tests)) in
    let large : 128 ≤ code = first_of (search rules, omega arith) in
    has_written_of_eq _ _ _ _ _ (sym (escaped_beyond code control large)) (c.write-else-code-lt128.ensures.writes plain ok)
