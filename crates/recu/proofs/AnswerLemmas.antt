-- What answers rest on.
use Rattle.std.proofs.Common.{◌≡◌, ◌⊎◌, ℕ, Bool, Option, Some, None, Result, Ok, Err, List, [], append-nil, ap, sym, subst, refl}
use Rattle.std.specs.Prelude.{IfSome, IfOk, IfErr, IsErrOf}
use Rattle.std.specs.Io.Buffered.{writer_buffer, writer_inner}
use Rattle.std.specs.Io.KnownBytes.{append_known}
use Rattle.rec_text.specs.declared.fault.Fault.{Fault}
use Rattle.rec_text.specs.declared.fault.Fault.TheVariants.{StoreFailed}
use Rattle.rec_disk.specs.declared.disk.Disk.{Ghosts as Disk}
use Rattle.rec_disk.specs.Disk.{Story}
use Rattle.rec_tools.specs.declared.request.Reply.{Reply}
use Rattle.rec_tools.specs.Asked.{Asked}
use Rattle.rec_tools.specs.Attempts.{Answer}
use Rattle.rec_files.specs.declared.output.StandardOutput.{StandardOutput}
use Rattle.rec_files.specs.OnDisk.{Places, SecureRequest, LastingRequest, TouchesOwn, RecoversRequest, IsRequestAt}
use Rattle.recu.specs.Answers.{out_of, new_out, IsReplied}

append_known-nil : (known : Option (List ℕ)) → append_known known [] ≡ known
append_known-nil None = refl
append_known-nil (Some bytes) = ap Some (append-nil bytes)

-- standard output has taken nothing when it is made
pub new_output : {W : Type 0} (contents : W → Option (List ℕ)) (output : StandardOutput W) (writer : W)
    → writer_inner output.writer ≡ writer → writer_buffer output.writer ≡ [] → output.failed ≡ 0
    → new_out (contents writer) ≡ out_of contents output
new_output contents output writer inner empty sound =
    rw (inner, empty, sound) (ap new_out (sym (append_known-nil (contents writer))))

-- all that is said of a request on a disk, where its places are known
pub request_on : {D F S : Type 0} (disk : Disk D F S) (asked : Asked) (answer : Answer) (old new : Option Story) (x : Option Places)
    → IfSome x (λ p. SecureRequest disk p asked old new)
    → IfSome x (λ p. IsErrOf answer StoreFailed ⊎ LastingRequest disk p old new)
    → IfSome x (λ p. TouchesOwn disk p old new)
    → IfSome x (λ p. RecoversRequest disk p old new)
    → IfSome x (λ p. IsRequestAt disk p asked answer old new)
request_on disk asked answer old new None any_moment lasting touches recovers = tt
request_on disk asked answer old new (Some p) any_moment lasting touches recovers = record {
  any_moment = any_moment;
  lasting = lasting;
  touches = touches;
  recovers = recovers;
}

-- the answer to a line, with its reply
pub replied : (Done : Answer → Type 0) (answer : Answer) (result : Result (Option Reply) Fault) → IfOk answer (λ reply. result ≡ Ok (Some reply))
    → IfErr answer (λ fault. result ≡ Err fault) → Done answer → IsReplied Done result
replied Done (Ok reply) result ok err done = subst (IsReplied Done) (sym ok) done
replied Done (Err fault) result ok err done = subst (IsReplied Done) (sym err) done
