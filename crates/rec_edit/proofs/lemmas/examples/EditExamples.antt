-- Edits of records and of their fields at small texts: each example computes.
use Rattle.std.proofs.Common.{◌≡◌, ℕ, List, [], ◌∷◌, ◌++◌, refl}
use Rattle.std.specs.Prelude.{codes}
use Rattle.rec_text.specs.proving.Scanned.{runs_from, narrowed_from}
use Rattle.rec_sex.specs.declared.lists.field_list.Item.{Item}
use Rattle.rec_edit.specs.declared.request.Action.{Action}
use Rattle.rec_edit.specs.declared.request.Action.TheVariants.{Set, Add, SetAdd, Rename, Delete, Comment as CommentFields}
use Rattle.rec_edit.specs.Task.{Pair}
use Rattle.rec_edit.specs.proving.Changes.{hunks_of}
use Rattle.rec_edit.specs.Rules.{fields_of, deleted, commented, replaced, edited}
use Rattle.rec_edit.specs.Outcome.{EditScript}
use Rattle.rec_edit.proofs.lemmas.examples.WordingExamples.{over, shown, expected, hunk, pair, every, nth}

abbrev delete : List ℕ → List ℕ → EditScript
delete = over deleted

abbrev comment_out : List ℕ → List ℕ → EditScript
comment_out = over commented

abbrev replace : List Pair → List ℕ → List ℕ → EditScript
replace pairs = over (replaced (fields_of pairs))

abbrev set : List Item → Action → List ℕ → List ℕ → EditScript
set items action = over (edited action items)

abbrev one_line : List ℕ
one_line = codes "A: 1\n"

abbrev unended : List ℕ
unended = codes "A: 1"

abbrev two_fields : List ℕ
two_fields = codes "A: 1\nB: 2\n"

abbrev three_records : List ℕ
three_records = codes "A: 1\n\nB: 2\n\nC: 3\n"

abbrev commented_around : List ℕ
commented_around = codes "# head\nA: 1\n# inner\nB: 2\n# tail\n\nC: 3\n"

-- a joined line and a plus line
abbrev folded_field : List ℕ
folded_field = codes "N: a\\\nb\n+ c\n"

-- ---- delete

-- comments around a record stay, and with the one after it the blank line
delete_between_comments : shown commented_around (delete (0 ∷ []) commented_around) ≡ expected (codes "# head\n# tail\n\nC: 3\n") 1
unfolding runs_from narrowed_from
delete_between_comments = refl

delete_two : shown three_records (delete (0 ∷ 2 ∷ []) three_records) ≡ expected (codes "B: 2\n\n") 2
unfolding runs_from narrowed_from
delete_two = refl

delete_two_hunks : hunks_of (delete (0 ∷ 2 ∷ []) three_records).script ≡ hunk 0 (codes "A: 1\n\n") [] ∷ hunk 12 (codes "C: 3\n") [] ∷ []
unfolding runs_from narrowed_from
delete_two_hunks = refl

delete_middle : shown three_records (delete (1 ∷ []) three_records) ≡ expected (codes "A: 1\n\nC: 3\n") 1
unfolding runs_from narrowed_from
delete_middle = refl

delete_middle_hunks : hunks_of (delete (1 ∷ []) three_records).script ≡ hunk 6 (codes "B: 2\n\n") [] ∷ []
unfolding runs_from narrowed_from
delete_middle_hunks = refl

delete_all : shown three_records (delete (0 ∷ 1 ∷ 2 ∷ []) three_records) ≡ expected [] 3
unfolding runs_from narrowed_from
delete_all = refl

delete_all_hunks : hunks_of (delete (0 ∷ 1 ∷ 2 ∷ []) three_records).script ≡ hunk 0 three_records [] ∷ []
unfolding runs_from narrowed_from
delete_all_hunks = refl

-- two records next to each other are one hunk, and a kept blank line ends one
delete_neighbours_hunks : hunks_of (delete (0 ∷ 1 ∷ []) three_records).script ≡ hunk 0 (codes "A: 1\n\nB: 2\n\n") [] ∷ []
unfolding runs_from narrowed_from
delete_neighbours_hunks = refl

comment_neighbours_hunks : hunks_of (comment_out (0 ∷ 1 ∷ []) three_records).script ≡ hunk 0 (codes "A: 1\n") (codes "#A: 1\n") ∷ hunk 6 (codes "B: 2\n") (codes "#B: 2\n") ∷ []
unfolding runs_from narrowed_from
comment_neighbours_hunks = refl

-- a record of fields that begin with a percent sign, but has no type
delete_special : shown (codes "%x: 1\nA: 2\n\nB: 3") (delete (0 ∷ []) (codes "%x: 1\nA: 2\n\nB: 3")) ≡ expected (codes "B: 3") 1
unfolding runs_from narrowed_from
delete_special = refl

delete_none : shown three_records (delete [] three_records) ≡ expected three_records 0
unfolding runs_from narrowed_from
delete_none = refl

delete_none_hunks : hunks_of (delete [] three_records).script ≡ []
unfolding runs_from narrowed_from
delete_none_hunks = refl

-- a run of blank lines after goes, and one before stays
abbrev spaced : List ℕ
spaced = codes "\nA: 1\n \t\n\n\nB: 2\n\n \n"

delete_first_spaced : shown spaced (delete (0 ∷ []) spaced) ≡ expected (codes "\nB: 2\n\n \n") 1
unfolding runs_from narrowed_from
delete_first_spaced = refl

delete_last_spaced : shown spaced (delete (1 ∷ []) spaced) ≡ expected (codes "\nA: 1\n \t\n\n\n") 1
unfolding runs_from narrowed_from
delete_last_spaced = refl

-- a last line without newline goes, and the newline before it stays
delete_unended : shown (codes "A: 1\n\nB: 2") (delete (1 ∷ []) (codes "A: 1\n\nB: 2")) ≡ expected (codes "A: 1\n\n") 1
unfolding runs_from narrowed_from
delete_unended = refl

delete_with_unended_blank : shown (codes "A: 1\n  ") (delete (0 ∷ []) (codes "A: 1\n  ")) ≡ expected [] 1
unfolding runs_from narrowed_from
delete_with_unended_blank = refl

-- an empty line that a field joins is the field's own
delete_joined_blank : shown (codes "A: 1\\\n\n\nB: 2\n") (delete (0 ∷ []) (codes "A: 1\\\n\n\nB: 2\n")) ≡ expected (codes "B: 2\n") 1
unfolding runs_from narrowed_from
delete_joined_blank = refl

-- ---- comment out

comment_between_comments : shown commented_around (comment_out (0 ∷ []) commented_around) ≡ expected (codes "# head\n#A: 1\n## inner\n#B: 2\n# tail\n\nC: 3\n") 1
unfolding runs_from narrowed_from
comment_between_comments = refl

comment_folded : shown folded_field (comment_out (0 ∷ []) folded_field) ≡ expected (codes "#N: a\\\n#b\n#+ c\n") 1
unfolding runs_from narrowed_from
comment_folded = refl

comment_joined_comment : shown (codes "A: 1\\\n# x\n") (comment_out (0 ∷ []) (codes "A: 1\\\n# x\n")) ≡ expected (codes "#A: 1\\\n## x\n") 1
unfolding runs_from narrowed_from
comment_joined_comment = refl

comment_unended : shown (codes "A: 1\n\nN: a\\\nb") (comment_out (1 ∷ []) (codes "A: 1\n\nN: a\\\nb")) ≡ expected (codes "A: 1\n\n#N: a\\\n#b") 1
unfolding runs_from narrowed_from
comment_unended = refl

-- blank lines between stay
comment_all : shown three_records (comment_out (0 ∷ 1 ∷ 2 ∷ []) three_records) ≡ expected (codes "#A: 1\n\n#B: 2\n\n#C: 3\n") 3
unfolding runs_from narrowed_from
comment_all = refl

-- ---- set

set_joined : shown (codes "N: a\\\nb\n") (set (every (codes "N") ∷ []) (Set (codes "ab")) (0 ∷ []) (codes "N: a\\\nb\n")) ≡ expected (codes "N: ab\n") 1
unfolding runs_from narrowed_from
set_joined = refl

-- the same value changes nothing
set_same : shown one_line (set (every (codes "A") ∷ []) (Set (codes "1")) (0 ∷ []) one_line) ≡ expected one_line 0
unfolding runs_from narrowed_from
set_same = refl

set_same_hunks : hunks_of (set (every (codes "A") ∷ []) (Set (codes "1")) (0 ∷ []) one_line).script ≡ []
unfolding runs_from narrowed_from
set_same_hunks = refl

set_unended : shown unended (set (every (codes "A") ∷ []) (Set (codes "2")) (0 ∷ []) unended) ≡ expected (codes "A: 2") 1
unfolding runs_from narrowed_from
set_unended = refl

set_unended_same : hunks_of (set (every (codes "A") ∷ []) (Set (codes "1")) (0 ∷ []) unended).script ≡ []
unfolding runs_from narrowed_from
set_unended_same = refl

set_lines : shown two_fields (set (every (codes "A") ∷ []) (Set (codes "x\ny")) (0 ∷ []) two_fields) ≡ expected (codes "A: x\n+ y\nB: 2\n") 1
unfolding runs_from narrowed_from
set_lines = refl

-- an empty value has its space too
set_empty : shown (codes "A:\n") (set (every (codes "A") ∷ []) (Set []) (0 ∷ []) (codes "A:\n")) ≡ expected (codes "A: \n") 1
unfolding runs_from narrowed_from
set_empty = refl

-- bytes that are no text
set_bytes : shown (codes "N: x" ++ (255 ∷ codes "y\n")) (set (every (codes "N") ∷ []) (Set (codes "z")) (0 ∷ []) (codes "N: x" ++ (255 ∷ codes "y\n"))) ≡ expected (codes "N: z\n") 1
unfolding runs_from narrowed_from
set_bytes = refl

set_two : shown three_records (set (every (codes "A") ∷ every (codes "C") ∷ []) (Set (codes "10")) (0 ∷ 2 ∷ []) three_records) ≡ expected (codes "A: 10\n\nB: 2\n\nC: 10\n") 2
unfolding runs_from narrowed_from
set_two = refl

set_two_hunks : hunks_of (set (every (codes "A") ∷ every (codes "C") ∷ []) (Set (codes "10")) (0 ∷ 2 ∷ []) three_records).script
    ≡ hunk 0 (codes "A: 1\n") (codes "A: 10\n") ∷ hunk 12 (codes "C: 3\n") (codes "C: 10\n") ∷ []
unfolding runs_from narrowed_from
set_two_hunks = refl

-- a field with the same value is no change, and a hunk holds whole elements
set_one_of_two : shown (codes "A: 1\nA: 2\n") (set (every (codes "A") ∷ []) (Set (codes "1")) (0 ∷ []) (codes "A: 1\nA: 2\n")) ≡ expected (codes "A: 1\nA: 1\n") 1
unfolding runs_from narrowed_from
set_one_of_two = refl

set_one_of_two_hunks : hunks_of (set (every (codes "A") ∷ []) (Set (codes "1")) (0 ∷ []) (codes "A: 1\nA: 2\n")).script ≡ hunk 5 (codes "A: 2\n") (codes "A: 1\n") ∷ []
unfolding runs_from narrowed_from
set_one_of_two_hunks = refl

-- neighbours that are changed are one hunk
set_neighbours_hunks : hunks_of (set (every (codes "A") ∷ every (codes "B") ∷ []) (Set (codes "3")) (0 ∷ []) two_fields).script ≡ hunk 0 two_fields (codes "A: 3\nB: 3\n") ∷ []
unfolding runs_from narrowed_from
set_neighbours_hunks = refl

-- one of two records has the value
set_one_record_of_two : shown (codes "A: 1\n\nA: 2\n") (set (every (codes "A") ∷ []) (Set (codes "1")) (0 ∷ 1 ∷ []) (codes "A: 1\n\nA: 2\n")) ≡ expected (codes "A: 1\n\nA: 1\n") 1
unfolding runs_from narrowed_from
set_one_record_of_two = refl

-- a field that isn't there is not set
set_nothing : shown one_line (set (every (codes "B") ∷ nth (codes "A") 1 ∷ []) (Set (codes "2")) (0 ∷ []) one_line) ≡ expected one_line 0
unfolding runs_from narrowed_from
set_nothing = refl

-- ---- add

add_at_unended : shown unended (set (every (codes "B") ∷ []) (Add (codes "2")) (0 ∷ []) unended) ≡ expected (codes "A: 1\nB: 2\n") 1
unfolding runs_from narrowed_from
add_at_unended = refl

add_at_unended_hunks : hunks_of (set (every (codes "B") ∷ []) (Add (codes "2")) (0 ∷ []) unended).script ≡ hunk 0 unended (codes "A: 1\nB: 2\n") ∷ []
unfolding runs_from narrowed_from
add_at_unended_hunks = refl

-- one for each item, before the comments after the record
add_before_tail : shown commented_around (set (every (codes "D") ∷ every (codes "A") ∷ every (codes "D") ∷ []) (Add (codes "9")) (0 ∷ []) commented_around)
    ≡ expected (codes "# head\nA: 1\n# inner\nB: 2\nD: 9\nA: 9\nD: 9\n# tail\n\nC: 3\n") 1
unfolding runs_from narrowed_from
add_before_tail = refl

add_before_tail_hunks : hunks_of (set (every (codes "D") ∷ []) (Add (codes "9")) (0 ∷ []) commented_around).script ≡ hunk 25 [] (codes "D: 9\n") ∷ []
unfolding runs_from narrowed_from
add_before_tail_hunks = refl

-- ---- set or add

set_add_both : shown unended (set (every (codes "A") ∷ every (codes "C") ∷ []) (SetAdd (codes "3")) (0 ∷ []) unended) ≡ expected (codes "A: 3\nC: 3\n") 1
unfolding runs_from narrowed_from
set_add_both = refl

set_add_both_hunks : hunks_of (set (every (codes "A") ∷ every (codes "C") ∷ []) (SetAdd (codes "3")) (0 ∷ []) unended).script ≡ hunk 0 unended (codes "A: 3\nC: 3\n") ∷ []
unfolding runs_from narrowed_from
set_add_both_hunks = refl

-- the last line gets its newline, though its value stays
set_add_same_hunks : hunks_of (set (every (codes "A") ∷ every (codes "C") ∷ []) (SetAdd (codes "1")) (0 ∷ []) unended).script ≡ hunk 0 unended (codes "A: 1\nC: 1\n") ∷ []
unfolding runs_from narrowed_from
set_add_same_hunks = refl

set_add_same : shown unended (set (every (codes "A") ∷ every (codes "C") ∷ []) (SetAdd (codes "1")) (0 ∷ []) unended) ≡ expected (codes "A: 1\nC: 1\n") 1
unfolding runs_from narrowed_from
set_add_same = refl

set_add_after : shown two_fields (set (every (codes "A") ∷ every (codes "C") ∷ []) (SetAdd (codes "3")) (0 ∷ []) two_fields) ≡ expected (codes "A: 3\nB: 2\nC: 3\n") 1
unfolding runs_from narrowed_from
set_add_after = refl

-- each item picks from the record as it was
set_add_twice : shown one_line (set (every (codes "C") ∷ every (codes "C") ∷ []) (SetAdd (codes "3")) (0 ∷ []) one_line) ≡ expected (codes "A: 1\nC: 3\nC: 3\n") 1
unfolding runs_from narrowed_from
set_add_twice = refl

-- an occurrence that isn't there is added, once
set_add_seventh : shown one_line (set (nth (codes "A") 7 ∷ []) (SetAdd (codes "3")) (0 ∷ []) one_line) ≡ expected (codes "A: 1\nA: 3\n") 1
unfolding runs_from narrowed_from
set_add_seventh = refl

-- ---- rename

rename_joined : shown (codes "N: a\\\nb\n") (set (every (codes "N") ∷ []) (Rename (codes "M")) (0 ∷ []) (codes "N: a\\\nb\n")) ≡ expected (codes "M: a\\\nb\n") 1
unfolding runs_from narrowed_from
rename_joined = refl

-- all but the name stays, blanks and comments too
abbrev untidy : List ℕ
untidy = codes "A:1\nB:\tx\\\ny\n# c\nA:\n+ z"

rename_untidy : shown untidy (set (every (codes "B") ∷ nth (codes "A") 1 ∷ []) (Rename (codes "Longer")) (0 ∷ []) untidy) ≡ expected (codes "A:1\nLonger:\tx\\\ny\n# c\nLonger:\n+ z") 1
unfolding runs_from narrowed_from
rename_untidy = refl

rename_same : shown untidy (set (every (codes "A") ∷ []) (Rename (codes "A")) (0 ∷ []) untidy) ≡ expected untidy 0
unfolding runs_from narrowed_from
rename_same = refl

-- ---- delete fields and comment fields out

-- the comment and the blank line stay of a record that loses all its fields
delete_all_fields : shown (codes "A: 1\n# c\nB: 2\n\nC: 3\n") (set (every (codes "A") ∷ every (codes "B") ∷ every (codes "A") ∷ []) Delete (0 ∷ []) (codes "A: 1\n# c\nB: 2\n\nC: 3\n"))
    ≡ expected (codes "# c\n\nC: 3\n") 1
unfolding runs_from narrowed_from
delete_all_fields = refl

delete_last_field : shown (codes "A: 1\nB: 2") (set (every (codes "B") ∷ []) Delete (0 ∷ []) (codes "A: 1\nB: 2")) ≡ expected (codes "A: 1\n") 1
unfolding runs_from narrowed_from
delete_last_field = refl

-- a field joins the empty line after it
delete_field_with_joined_blank : shown (codes "A: x\\\\\n\nB: 2\n") (set (every (codes "A") ∷ []) Delete (0 ∷ []) (codes "A: x\\\\\n\nB: 2\n")) ≡ expected (codes "B: 2\n") 1
unfolding runs_from narrowed_from
delete_field_with_joined_blank = refl

comment_field : shown two_fields (set (every (codes "A") ∷ []) CommentFields (0 ∷ []) two_fields) ≡ expected (codes "#A: 1\nB: 2\n") 1
unfolding runs_from narrowed_from
comment_field = refl

-- a field that is picked twice is edited once
comment_field_twice : shown untidy (set (every (codes "A") ∷ nth (codes "A") 1 ∷ []) CommentFields (0 ∷ []) untidy) ≡ expected (codes "#A:1\nB:\tx\\\ny\n# c\n#A:\n#+ z") 1
unfolding runs_from narrowed_from
comment_field_twice = refl

-- ---- replace

abbrev inner : List ℕ
inner = codes "A: 1\n# c\nB: 2\n# t\n"

-- comments within the record go
replace_inner : shown inner (replace (pair (codes "A") (codes "9") ∷ []) (0 ∷ []) inner) ≡ expected (codes "A: 9\n# t\n") 1
unfolding runs_from narrowed_from
replace_inner = refl

-- the record is changed as one, though its first field stays
replace_as_one : hunks_of (replace (pair (codes "A") (codes "1") ∷ pair (codes "B") (codes "3") ∷ []) (0 ∷ []) two_fields).script ≡ hunk 0 two_fields (codes "A: 1\nB: 3\n") ∷ []
unfolding runs_from narrowed_from
replace_as_one = refl

replace_by_equal : shown two_fields (replace (pair (codes "A") (codes "1") ∷ pair (codes "B") (codes "2") ∷ []) (0 ∷ []) two_fields) ≡ expected two_fields 0
unfolding runs_from narrowed_from
replace_by_equal = refl

replace_by_equal_hunks : hunks_of (replace (pair (codes "A") (codes "1") ∷ pair (codes "B") (codes "2") ∷ []) (0 ∷ []) two_fields).script ≡ []
unfolding runs_from narrowed_from
replace_by_equal_hunks = refl

replace_by_equal_unended : shown (codes "A: 1\nB: 2") (replace (pair (codes "A") (codes "1") ∷ pair (codes "B") (codes "2") ∷ []) (0 ∷ []) (codes "A: 1\nB: 2")) ≡ expected (codes "A: 1\nB: 2") 0
unfolding runs_from narrowed_from
replace_by_equal_unended = refl

replace_unended : shown (codes "A: 1\nB: 2") (replace (pair (codes "C") (codes "3") ∷ pair (codes "D") (codes "4") ∷ []) (0 ∷ []) (codes "A: 1\nB: 2")) ≡ expected (codes "C: 3\nD: 4") 1
unfolding runs_from narrowed_from
replace_unended = refl

-- the same values in another spelling
replace_spelling : shown (codes "A:1\n") (replace (pair (codes "A") (codes "1") ∷ []) (0 ∷ []) (codes "A:1\n")) ≡ expected one_line 1
unfolding runs_from narrowed_from
replace_spelling = refl

-- each of two is replaced, and the blank line between stays
replace_two : shown three_records (replace (pair (codes "X") (codes "1") ∷ []) (0 ∷ 1 ∷ []) three_records) ≡ expected (codes "X: 1\n\nX: 1\n\nC: 3\n") 2
unfolding runs_from narrowed_from
replace_two = refl

replace_two_hunks : hunks_of (replace (pair (codes "X") (codes "1") ∷ []) (0 ∷ 1 ∷ []) three_records).script ≡ hunk 0 (codes "A: 1\n") (codes "X: 1\n") ∷ hunk 6 (codes "B: 2\n") (codes "X: 1\n") ∷ []
unfolding runs_from narrowed_from
replace_two_hunks = refl

-- a record of the typed set
replace_typed : shown (codes "X: 1\n\n%rec: P\n\nN: 1\n\nN: 2\n") (replace (pair (codes "N") (codes "5") ∷ []) (3 ∷ []) (codes "X: 1\n\n%rec: P\n\nN: 1\n\nN: 2\n"))
    ≡ expected (codes "X: 1\n\n%rec: P\n\nN: 1\n\nN: 5\n") 1
unfolding runs_from narrowed_from
replace_typed = refl
