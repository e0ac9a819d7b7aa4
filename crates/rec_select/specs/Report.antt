-- The report of violations: one line each.
use Rattle.std.specs.Prelude.{◌≡◌, ℕ, List, ◌∷◌, [], ◌++◌, flat_map, decimal, codes, Result, Ok}
use Rattle.rec_text.specs.declared.fault.Fault.{Fault}
use Rattle.rec_text.specs.declared.violations.Violation.{Violation}
use Rattle.rec_text.specs.Ascii.{newline, space}
use Rattle.rec_text.specs.Rules.{word_of}

-- LINE: RULE NAME
abbrev pub line_with : List ℕ → List ℕ → List ℕ → List ℕ
line_with line rule name = line ++ (codes ": " ++ (rule ++ space ∷ (name ++ newline ∷ [])))

-- the line of a violation
abbrev pub report_line : Violation → List ℕ
report_line v = line_with (decimal v.line) (word_of v.rule) v.name

abbrev pub report : List Violation → List ℕ
report violations = flat_map report_line violations

-- the text that is printed; printing alone refuses nothing
abbrev pub IsReport : List Violation → Result (List ℕ) Fault → Type 0
IsReport violations answer = answer ≡ Ok (report violations)
