-- The exit status, and the line of a fault.
use Rattle.std.specs.Prelude.{◌⊎◌, ℕ, List, [], ◌++◌, codes, Option, Some, Result, Ok, Err}
use Rattle.rec_text.specs.declared.fault.Fault.{Fault}
use Rattle.rec_text.specs.declared.fault.Fault.TheVariants.{StoreFailed}
use Rattle.rec_text.specs.Faults.{fault_text}
use Rattle.rec_select.specs.Taken.{HasTaken, HasStopped}
use Rattle.rec_tools.specs.declared.request.Reply.{Reply}
use Rattle.rec_tools.specs.declared.request.Reply.TheVariants.{Violated}

-- 1 for a fault and for violations, 0 for every other reply and for help, which is no reply
abbrev pub status_of : Result (Option Reply) Fault → ℕ
status_of (Ok (Some (Violated count))) = 1
status_of (Ok reply) = 0
status_of (Err fault) = 1

-- the line of a fault
abbrev pub fault_line : Fault → List ℕ
fault_line fault = codes "recu: " ++ fault_text fault ++ codes "\n"

-- what is said at the end: the line of a fault, and nothing after a reply or help
abbrev pub line_of : Result (Option Reply) Fault → List ℕ
line_of (Ok reply) = []
line_of (Err fault) = fault_line fault

-- A sink took the whole text, and didn't fail; or it took a prefix, and failed.
abbrev pub Says : {S : Type 0} → (S → Option (List ℕ)) → (S → ℕ) → S → S → List ℕ → Type 0
Says contents failures old new text =
    HasTaken contents failures old new text ⊎ HasStopped contents failures old new text StoreFailed
