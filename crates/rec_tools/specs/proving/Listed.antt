-- A history as its steps are listed.
use Rattle.std.specs.Prelude.{List, ℕ, codes, if◌then◌else◌}
use Rattle.rec_journal.specs.declared.history.steps.Step.{Step}
use Rattle.rec_tools.specs.Printouts.{step_line}

-- the line of a step
abbrev pub line_of : Step → List ℕ
line_of step = step_line (if step.done then codes "done" else codes "undone") (step.number, step.tool)
