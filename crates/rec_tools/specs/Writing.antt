-- What a whole text makes of the one here: an edit by lines, where it may stand.
use Rattle.std.specs.Prelude.{◌≡◌, ◌≢◌, ℕ, Bool, List, Option, None, Result, Ok, Err}
use Rattle.std.specs.Option.{unwrap_or}
use Rattle.rec_text.specs.declared.fault.Fault.{Fault}
use Rattle.rec_text.specs.declared.fault.Fault.TheVariants.{OtherText}
use Rattle.rec_text.specs.Steps.{Then}
use Rattle.rec_journal.specs.declared.event.Tool.{Tool}
use Rattle.rec_journal.specs.declared.event.Tool.TheVariants.{Write as ByWrite}
use Rattle.rec_diff.specs.Comparing.{step_between}
use Rattle.rec_check.specs.DescribedTexts.{IsDescribedText}
use Rattle.rec_edit.specs.declared.answer.Edited.{Edited}
use Rattle.rec_edit.specs.Outcome.{IsSoundUnlessForced}

-- the edit by a tool that makes one text the other, by lines
abbrev pub edited_by_lines : Tool → List ℕ → List ℕ → Edited
edited_by_lines tool old new = record { steps = step_between tool old new; text = new; changed = 0; chosen = None }

-- the text here is still the one that is given, if one is
abbrev pub IsStill : Option (List ℕ) → List ℕ → Result (Unit {0}) Fault → Type 0
IsStill over here (Ok x) = unwrap_or over here ≡ here
IsStill over here (Err fault) = (fault ≡ OtherText) × (unwrap_or over here ≢ here)

-- a text reads, and keeps its rules unless that is forced
abbrev pub MayStand : Bool → List ℕ → Result (Unit {0}) Fault → Type 0
MayStand force text = Then (IsDescribedText text) (λ _. IsSoundUnlessForced force text)

-- a whole text as an edit of the one here, which needn't read
abbrev pub IsWritten : Bool → Option (List ℕ) → List ℕ → List ℕ → Result (Tool × Edited) Fault → Type 0
IsWritten force over text here =
    Then (IsStill over here) (λ _.
    Then (MayStand force text) (λ _ answer.
    answer ≡ Ok (ByWrite, edited_by_lines ByWrite here text)))
