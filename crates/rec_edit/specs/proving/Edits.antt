-- What an edit comes to.
use Rattle.std.specs.Prelude.{◌≡◌, Bool, List, Result, Ok}
use Rattle.rec_text.specs.declared.fault.Fault.{Fault}
use Rattle.rec_text.specs.Elements.{Piece}
use Rattle.rec_text.specs.Steps.{Then}
use Rattle.rec_check.specs.Schemas.{Described}
use Rattle.rec_edit.specs.declared.outcome.Patched.{Patched}
use Rattle.rec_edit.specs.Task.{Task}
use Rattle.rec_edit.specs.Script.{edited_text}
use Rattle.rec_edit.specs.Outcome.{EditScript, IsEditScript}
use Rattle.rec_edit.specs.proving.Changes.{hunks_of}

-- what the script of an edit comes to
abbrev pub edited_by : EditScript → Patched
edited_by edit = record {
  patch = hunks_of edit.script;
  text = edited_text edit.script;
  changed = edit.changed;
  chosen = edit.chosen;
}

-- what an edit makes of a text, violations aside
abbrev pub IsCarriedOut : List Piece → Described → Bool → Task → Result Patched Fault → Type 0
IsCarriedOut pieces schema force task = Then (IsEditScript pieces schema force task) (λ edit answer. answer
    ≡ Ok (edited_by edit))
