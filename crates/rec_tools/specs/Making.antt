-- What edits make of a text as they are asked for, and which of them is refused.
use Rattle.std.specs.Prelude.{◌≡◌, ◌⊎◌, ℕ, zero, suc, Bool, List, [], ◌∷◌, Option, Some, Result, Ok, Err}
use Rattle.rec_text.specs.declared.fault.Fault.{Fault}
use Rattle.rec_edit.specs.declared.answer.Edited.{Edited}
use Rattle.rec_edit.specs.Task.{Task}
use Rattle.rec_edit.specs.Batch.{IsBatchOutcome, AreRefusedAt}
use Rattle.rec_tools.specs.declared.request.EditRequest.{EditRequest}
use Rattle.rec_tools.specs.Steps.{Then}
use Rattle.rec_tools.specs.Requests.{IsTaskOf, AreTasks}

-- what edits make of a text in turn, after the words of all of them were read; or the first refusal
abbrev pub AreMade : Bool → List EditRequest → List ℕ → Result Edited Fault → Type 0
AreMade force edits text = Then (AreTasks edits) (λ tasks. IsBatchOutcome force tasks text)

-- the edits before that of an index have their tasks, and the words of that one are refused so
abbrev pub HasNoTaskAt : List EditRequest → ℕ → Fault → Type 0
HasNoTaskAt [] index fault = ⊥
HasNoTaskAt (edit ∷ edits) zero fault = IsTaskOf edit (Err fault)
HasNoTaskAt (edit ∷ edits) (suc index) fault = (task : Task) × IsTaskOf edit (Ok task) × HasNoTaskAt edits index fault

-- the words of an edit are refused so; or, where all have their tasks, one of these is, or the text after them all
abbrev pub AreRefusedSo : Bool → List EditRequest → List ℕ → Option ℕ → Fault → Type 0
AreRefusedSo force edits text place fault =
    ((index : ℕ) × HasNoTaskAt edits index fault × (place ≡ Some index))
    ⊎ ((tasks : List Task) × AreTasks edits (Ok tasks) × AreRefusedAt force tasks text place fault)
