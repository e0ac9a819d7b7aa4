-- The printed text of a change: a unified diff, with some of the lines that stay before and after each change.
use Rattle.std.specs.Prelude.{◌≡◌, ℕ, ◌+◌, ◌/◌, ◌%◌, Bool, true, List, [], ◌∷◌, ◌++◌, ◌==◌, ◌&&◌, ◌||◌, not}
use Rattle.std.specs.Prelude.{codes, decimal, reverse, nat_lt, Result, Ok, Err, if◌then◌else◌}
use Rattle.std.specs.List.{list_any, flat_map}
use Rattle.std.specs.Option.{is_some}
use Rattle.rec_text.specs.Ascii.{tab, newline, space, digit_0, double_quote, comma, backslash, del}
use Rattle.rec_text.specs.declared.fault.Fault.{Fault}
use Rattle.rec_text.specs.Bytes.{is_nil, is_blank, begins}
use Rattle.rec_text.specs.Elements.{colon_of}
use Rattle.rec_journal.specs.declared.patch.Hunk.{Hunk}
use Rattle.rec_diff.specs.declared.style.DiffStyle.{DiffStyle}
use Rattle.rec_diff.specs.Lines.{at_line, newlines, line_count, lines, first_lines, inner_lines, last_lines}
use Rattle.rec_diff.specs.Changes.{Stretch, stays, turns, before_of, after_of}
use Rattle.rec_diff.specs.WholeLines.{IsChange}

-- ---- the heading

-- there is no first line, or it is blank
abbrev pub begins_blank : List ℕ → Bool
begins_blank [] = true
begins_blank (b ∷ bs) = b == newline || (is_blank b && begins_blank bs)

-- what is found after a line more: the first one that begins a field; a blank one ends the record
abbrev pub found_at : List ℕ → List ℕ → List ℕ
found_at found line =
    if begins_blank line then [] else if is_nil found && is_some (colon_of line) then line else found

-- the same after the lines that end in a text; of the first of them some bytes came before, the last of them first
abbrev pub found_in : List ℕ → List ℕ → List ℕ → List ℕ
found_in found line [] = found
found_in found line (b ∷ bs) =
    if b == newline then found_in (found_at found (reverse line)) [] bs else found_in found (b ∷ line) bs

-- the first line that begins a field of the record in which a text ends
abbrev pub first_field : List ℕ → List ℕ
first_field text = found_in [] [] text

abbrev pub after_space : List ℕ → List ℕ
after_space [] = []
after_space (b ∷ bs) = space ∷ b ∷ bs

-- of lines that change after a text; a blank line stands in no record
abbrev pub heading : List ℕ → List ℕ → List ℕ
heading before shown = if begins_blank shown then [] else after_space (first_field before)

-- of a hunk of these parts after a text: that of the lines that change first, those that go, else those that come
abbrev pub heading_of : List ℕ → List Stretch → List ℕ
heading_of before [] = []
heading_of before (stays t ∷ parts) = heading_of (before ++ t) parts
heading_of before (turns old new ∷ parts) = heading before (if is_nil old then new else old)

-- ---- what is shown

-- a part of a hunk, or lines that stay and aren't shown
pub data View : Type 0 where
  shows : Stretch → View
  skips : List ℕ → View

-- lines that stay and are shown, before these views; no line is no view
abbrev pub put_shown : List ℕ → List View → List View
put_shown [] views = views
put_shown (b ∷ bs) views = shows (stays (b ∷ bs)) ∷ views

-- Lines that stay, before these views: the first ones are shown after the change before them, and the last ones before
-- the next change; where there are no more than these, all are.
abbrev pub put_stay : ℕ → ℕ → List ℕ → List View → List View
put_stay first last text views =
    if nat_lt (first + last) (line_count text)
    then put_shown (first_lines first text)
    (skips (inner_lines first last text) ∷ put_shown (last_lines last text) views)
    else put_shown text views

-- how many lines that stay are shown before these parts
abbrev pub shown_before : ℕ → List Stretch → ℕ
shown_before n [] = 0
shown_before n (first ∷ parts) = n

-- the views of parts of whole lines, with n lines around each change, and at the start this number of first lines
abbrev pub views_of : ℕ → ℕ → List Stretch → List View
views_of first n [] = []
views_of first n (stays t ∷ parts) = put_stay first (shown_before n parts) t (views_of n n parts)
views_of first n (turns old new ∷ parts) = shows (turns old new) ∷ views_of n n parts

-- ---- hunks

-- `L,N`: N lines from line L on, or after it where N is 0
abbrev pub span : ℕ → List ℕ → List ℕ
span passed part = decimal (passed + (if is_nil part then 0 else 1)) ++ comma ∷ decimal (line_count part)

-- after a line that no newline ends
abbrev pub ending : List ℕ → List ℕ
ending text = if at_line text then [] else codes "\n\\ No newline at end of file\n"

-- the lines, each after this mark
abbrev pub marked : List ℕ → List ℕ → List ℕ
marked mark text = flat_map (λ line. mark ++ line) (lines text) ++ ending text

-- the first line of a hunk, after this number of lines of each text
abbrev pub head : ℕ → ℕ → List ℕ → List ℕ → List ℕ → List ℕ
head passed_old passed_new old new heading =
    codes "@@ -" ++ (span passed_old old ++ (codes " +" ++ (span passed_new new
    ++ (codes " @@" ++ (heading ++ newline ∷ [])))))

-- the lines of a part: those that stay, or those that go and those that come
abbrev pub part_text : Stretch → List ℕ
part_text (stays t) = marked (codes " ") t
part_text (turns old new) = marked (codes "-") old ++ marked (codes "+") new

-- a hunk of these parts after these texts
abbrev pub hunk : List ℕ → List ℕ → List Stretch → List ℕ
hunk before after parts =
    head (newlines before) (newlines after) (before_of parts) (after_of parts) (heading_of before parts)
    ++ flat_map part_text parts

-- the same; of no part nothing
abbrev pub hunk_if : List ℕ → List ℕ → List Stretch → List ℕ
hunk_if before after [] = []
hunk_if before after (first ∷ parts) = hunk before after (first ∷ parts)

-- the hunks of views, after these texts and these parts of a hunk, which goes on as long as all is shown
abbrev pub hunks : List ℕ → List ℕ → List Stretch → List View → List ℕ
hunks before after parts [] = hunk_if before after parts
hunks before after parts (shows next ∷ views) = hunks before after (parts ++ next ∷ []) views
hunks before after parts (skips t ∷ views) =
    hunk_if before after parts
    ++ hunks (before ++ (before_of parts ++ t)) (after ++ (after_of parts ++ t)) [] views

-- ---- the name

abbrev pub is_plain_byte : ℕ → Bool
is_plain_byte b = nat_lt 31 b && not (b == double_quote) && not (b == backslash) && not (b == del)

-- a backslash before a quote and a backslash; three octal digits of a control byte
abbrev pub quoted_byte : ℕ → List ℕ
quoted_byte b =
    if is_plain_byte b then b ∷ []
    else if b == double_quote || b == backslash then backslash ∷ b ∷ []
    else backslash ∷ (digit_0 + (b / 64)) ∷ (digit_0 + ((b / 8) % 8)) ∷ (digit_0 + (b % 8)) ∷ []

-- it begins with a space, or has a byte that isn't plain
abbrev pub is_odd : List ℕ → Bool
is_odd name = begins (λ b. b == space) name || list_any (λ b. not (is_plain_byte b)) name

-- a name as it is, with a tab after one that has a space; an odd one in quotes
abbrev pub label : List ℕ → List ℕ
label name =
    if is_odd name then double_quote ∷ (flat_map quoted_byte name ++ double_quote ∷ [])
    else name ++ (if list_any (λ b. b == space) name then tab ∷ [] else [])

-- ---- the diff

-- the name on both sides
abbrev pub names : List ℕ → List ℕ
names name = codes "--- " ++ (label name ++ (codes "\n+++ " ++ (label name ++ newline ∷ [])))

-- the names and then hunks; of no hunk nothing
abbrev pub named : List ℕ → List ℕ → List ℕ
named name [] = []
named name (b ∷ bs) = names name ++ b ∷ bs

abbrev pub diff_text : DiffStyle → List Stretch → List ℕ
diff_text style parts = named style.name (hunks [] [] [] (views_of 0 style.context parts))

-- the text that is printed of what a patch changes; printing alone refuses nothing
abbrev pub IsChangeText : DiffStyle → List Hunk → List ℕ → List ℕ → Result (List ℕ) Fault → Type 0
IsChangeText style patch before after (Ok text) =
    (parts : List Stretch) × IsChange patch before after parts × (text ≡ diff_text style parts)
IsChangeText style patch before after (Err fault) = ⊥
