-- The printed text of small changes: each example computes.
use Rattle.std.specs.Prelude.{codes}
use Rattle.std.proofs.Common.{◌≡◌, ℕ, List, [], ◌∷◌, ◌++◌, refl}
use Rattle.std.specs.Fmt.{digits}
use Rattle.rec_text.specs.Ascii.{tab, del}
use Rattle.rec_diff.specs.Changes.{Stretch, stays, turns}
use Rattle.rec_diff.specs.WholeLines.{whole_lines}
use Rattle.rec_diff.specs.Diff.{diff_text, label}

-- what is printed of a change under the name `f`, with n lines around each part of it
abbrev shown_with : ℕ → List Stretch → List ℕ
shown_with context cut = diff_text (record { name = codes "f"; context = context }) (whole_lines cut)

-- ---- no lines around them

abbrev shown : List Stretch → List ℕ
shown cut = shown_with 0 cut

-- `A: 1`, `B: 2`
a_value_within_a_record : shown (stays (codes "A: 1\nB: ") ∷ turns (codes "2") (codes "4") ∷ stays (codes "\n") ∷ [])
    ≡ codes "--- f\n+++ f\n@@ -2,1 +2,1 @@ A: 1\n-B: 2\n+B: 4\n"
unfolding digits
a_value_within_a_record = refl

no_change : shown (stays (codes "A: 1\n") ∷ []) ≡ []
no_change = refl

bytes_that_stay : shown (stays (codes "A: ") ∷ turns (codes "1") (codes "1") ∷ stays (codes "\n") ∷ []) ≡ []
bytes_that_stay = refl

-- ---- at the ends

a_field_at_the_end : shown (stays (codes "A: 1\n") ∷ turns [] (codes "B: 2\n") ∷ [])
    ≡ codes "--- f\n+++ f\n@@ -1,0 +2,1 @@ A: 1\n+B: 2\n"
unfolding digits
a_field_at_the_end = refl

-- a blank line stands in no record
a_record_at_the_end : shown (stays (codes "A: 1\n") ∷ turns [] (codes "\nA: 2\n") ∷ [])
    ≡ codes "--- f\n+++ f\n@@ -1,0 +2,2 @@\n+\n+A: 2\n"
unfolding digits
a_record_at_the_end = refl

the_first_record_is_put_in : shown (turns [] (codes "A: 0\n\n") ∷ stays (codes "A: 1\n") ∷ [])
    ≡ codes "--- f\n+++ f\n@@ -0,0 +1,2 @@\n+A: 0\n+\n"
unfolding digits
the_first_record_is_put_in = refl

the_first_record_goes : shown (turns (codes "A: 0\n\n") [] ∷ stays (codes "A: 1\n") ∷ [])
    ≡ codes "--- f\n+++ f\n@@ -1,2 +0,0 @@\n-A: 0\n-\n"
unfolding digits
the_first_record_goes = refl

-- ---- a last line that no newline ends

the_last_line_gets_a_newline : shown (stays (codes "A: 1") ∷ turns [] (codes "\nB: 2\n") ∷ [])
    ≡ codes "--- f\n+++ f\n@@ -1,1 +1,2 @@\n-A: 1\n\\ No newline at end of file\n+A: 1\n+B: 2\n"
unfolding digits
the_last_line_gets_a_newline = refl

the_last_line_loses_its_newline : shown (stays (codes "A: 1\nB: 2") ∷ turns (codes "\n") [] ∷ [])
    ≡ codes "--- f\n+++ f\n@@ -2,1 +2,1 @@ A: 1\n-B: 2\n+B: 2\n\\ No newline at end of file\n"
unfolding digits
the_last_line_loses_its_newline = refl

the_last_line_has_no_newline : shown (stays (codes "A: ") ∷ turns (codes "1") (codes "2") ∷ [])
    ≡ codes "--- f\n+++ f\n@@ -1,1 +1,1 @@\n-A: 1\n\\ No newline at end of file\n+A: 2\n\\ No newline at end of file\n"
unfolding digits
the_last_line_has_no_newline = refl

-- ---- several hunks

-- the line that is put in shifts the second one, which stands in a record of its own
two_hunks :
    shown (stays (codes "A: 1\n") ∷ turns [] (codes "B: 2\n") ∷ stays (codes "\nA: 3\nB: ") ∷ turns (codes "4") (codes "5") ∷ stays (codes "\n") ∷ [])
    ≡ codes "--- f\n+++ f\n@@ -1,0 +2,1 @@ A: 1\n+B: 2\n@@ -4,1 +5,1 @@ A: 3\n-B: 4\n+B: 5\n"
unfolding digits
two_hunks = refl

neighbours_are_one_hunk :
    shown (stays (codes "A: ") ∷ turns (codes "1") (codes "2") ∷ stays (codes "\nB: ") ∷ turns (codes "3") (codes "4") ∷ stays (codes "\n") ∷ [])
    ≡ codes "--- f\n+++ f\n@@ -1,2 +1,2 @@\n-A: 1\n-B: 3\n+A: 2\n+B: 4\n"
unfolding digits
neighbours_are_one_hunk = refl

lines_that_are_the_same_at_both_ends : shown (turns (codes "A: 1\nB: 2\nC: 3\n") (codes "A: 1\nB: 4\nC: 3\n") ∷ [])
    ≡ codes "--- f\n+++ f\n@@ -2,1 +2,1 @@ A: 1\n-B: 2\n+B: 4\n"
unfolding digits
lines_that_are_the_same_at_both_ends = refl

-- ---- with lines around them

a_line_on_each_side : shown_with 1 (stays (codes "A: 1\nB: 2\nC: ") ∷ turns (codes "3") (codes "4") ∷ stays (codes "\nD: 5\nE: 6\n") ∷ [])
    ≡ codes "--- f\n+++ f\n@@ -2,3 +2,3 @@ A: 1\n B: 2\n-C: 3\n+C: 4\n D: 5\n"
unfolding digits
a_line_on_each_side = refl

as_many_lines_as_there_are : shown_with 3 (stays (codes "A: 1\nB: ") ∷ turns (codes "2") (codes "4") ∷ stays (codes "\nC: 3") ∷ [])
    ≡ codes "--- f\n+++ f\n@@ -1,3 +1,3 @@ A: 1\n A: 1\n-B: 2\n+B: 4\n C: 3\n\\ No newline at end of file\n"
unfolding digits
as_many_lines_as_there_are = refl

-- two lines between them are shown after the one and before the other
near_changes_are_one_hunk :
    shown_with 1 (turns (codes "A: 1") (codes "A: 5") ∷ stays (codes "\nB: 2\nC: 3\nD: ") ∷ turns (codes "4") (codes "6") ∷ stays (codes "\n") ∷ [])
    ≡ codes "--- f\n+++ f\n@@ -1,4 +1,4 @@\n-A: 1\n+A: 5\n B: 2\n C: 3\n-D: 4\n+D: 6\n"
unfolding digits
near_changes_are_one_hunk = refl

three_lines_between_are_too_many :
    shown_with 1 (turns (codes "A: 1") (codes "A: 5") ∷ stays (codes "\nB: 2\nC: 3\nD: 4\nE: ") ∷ turns (codes "5") (codes "6") ∷ stays (codes "\n") ∷ [])
    ≡ codes "--- f\n+++ f\n@@ -1,2 +1,2 @@\n-A: 1\n+A: 5\n B: 2\n@@ -4,2 +4,2 @@ A: 1\n D: 4\n-E: 5\n+E: 6\n"
unfolding digits
three_lines_between_are_too_many = refl

-- ---- names

name_with_a_space : label (codes "my file") ≡ codes "my file" ++ tab ∷ []
name_with_a_space = refl

name_that_begins_with_a_space : label (codes " f") ≡ codes "\" f\""
name_that_begins_with_a_space = refl

name_with_a_quote : label (codes "a\"b\\") ≡ codes "\"a\\\"b\\\\\""
name_with_a_quote = refl

name_with_control_bytes : label (tab ∷ del ∷ []) ≡ codes "\"\\011\\177\""
name_with_control_bytes = refl
