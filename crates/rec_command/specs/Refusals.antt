-- When words are refused.
use Rattle.std.specs.Prelude.{◌≡◌, ◌≢◌, ◌⊎◌, ⊤, List, [], Result, Ok, Err}
use Rattle.clap.specs.Words.{IsAmong, Text, fault_of, kind_of}
use Rattle.clap.specs.declared.error.Error.{Error}
use Rattle.clap.specs.declared.error.kind.ErrorKind.TheVariants.{OutOfMemory as NoMemory, DisplayHelp, DisplayVersion}
use Rattle.rec_text.specs.declared.fault.Fault.{Fault}
use Rattle.rec_text.specs.declared.fault.Fault.TheVariants.{OutOfMemory as NoMemoryFault, BadUsage}
use Rattle.rec_command.specs.declared.args.CommandLine.{CommandLine}
use Rattle.rec_command.specs.declared.args.refusal.Refusal.{Refusal}
use Rattle.rec_command.specs.declared.args.refusal.Refusal.TheVariants.{OutOfMemory, Usage, Rule}
use Rattle.rec_command.specs.Usage.{usage}
use Rattle.rec_command.specs.Words.{IsAsked}

-- the refusal of an error of clap: it is kept, but where memory ran out
abbrev pub IsRefusalOf : Error → Refusal → Type 0
IsRefusalOf error OutOfMemory = kind_of error ≡ NoMemory
IsRefusalOf error (Usage own) = (own ≡ error) × (kind_of error ≢ NoMemory)
IsRefusalOf error (Rule line) = ⊥

-- the fault of a refusal: words that ask for help are refused like others
abbrev pub refusal_fault : Refusal → Fault
refusal_fault OutOfMemory = NoMemoryFault
refusal_fault _ = BadUsage

-- the words ask for help, or for the version
abbrev pub AsksForHelp : Refusal → Type 0
AsksForHelp (Usage error) = (kind_of error ≡ DisplayHelp) ⊎ (kind_of error ≡ DisplayVersion)
AsksForHelp _ = ⊥

-- what is answered has P, and a rule refuses only where nothing has it; or memory ran out
abbrev pub IsOrRefuses : {X : Type 0} → (X → Type 0) → Result X Refusal → Type 0
IsOrRefuses P (Ok answer) = P answer
IsOrRefuses P (Err OutOfMemory) = ⊤
IsOrRefuses P (Err (Usage error)) = ⊥
IsOrRefuses {X} P (Err (Rule line)) = (answer : X) → P answer → ⊥

-- What is answered to words: the line that they ask for; or memory ran out; or clap has a fault at them, which is told;
-- or clap has none, and a rule refuses them, by which they ask for no line at all.
abbrev pub IsParsed : List Text → Result CommandLine Refusal → Type 0
IsParsed words (Ok line) = IsAsked words line
IsParsed words (Err OutOfMemory) = ⊤
IsParsed words (Err (Usage error)) = IsAmong (kind_of error) (fault_of usage words)
IsParsed words (Err (Rule line)) = (fault_of usage words ≡ []) × ((asked : CommandLine) → IsAsked words asked → ⊥)
