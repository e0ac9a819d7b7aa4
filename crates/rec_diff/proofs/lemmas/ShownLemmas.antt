-- What is printed of a passage.
use Rattle.std.proofs.Common.{◌≡◌, ◌∙◌, ℕ, ◌<◌, List, [], ◌∷◌, ◌++◌, length, take, drop, get_or, refl, sym, ap, ap₂, append_assoc, append-nil, arith}
use Rattle.std.specs.Prelude.{codes, if◌then◌else◌}
use Rattle.std.specs.List.{flat_map, between}
use Rattle.rec_text.specs.Bytes.{is_nil}
use Rattle.rec_diff.specs.declared.turn.Place.{Place}
use Rattle.rec_diff.specs.declared.turn.Turn.{Turn}
use Rattle.rec_diff.specs.declared.passages.Passage.{Passage}
use Rattle.rec_diff.specs.declared.passed.Passed.{Passed}
use Rattle.rec_diff.specs.Changes.{Stretch, turns}
use Rattle.rec_diff.specs.Lines.{newlines}
use Rattle.rec_diff.specs.Diff.{after_space, begins_blank, first_field, heading, heading_of, head, marked, named, names, part_text, hunks, views_of}
use Rattle.rec_diff.specs.proving.Headings.{IsPassed}
use Rattle.rec_diff.specs.proving.Turns.{AreIn}
use Rattle.rec_diff.specs.proving.Passages.{if_stays, end_from, origin, turn_part, parts_from, cut_at, parts_in, passage_text, first_heading, IsPassage, turn_lines, lines_to}
use Rattle.rec_diff.proofs.lemmas.PlaceLemmas.{take_then}
use Rattle.rec_diff.proofs.lemmas.PassageLemmas.{no_turn, if_stays-append, hunks-end}

-- ---- the lines

lines_stay : (gap : List ℕ) (ps : List Stretch) → flat_map part_text (if_stays gap ps) ≡ marked (codes " ") gap ++ flat_map part_text ps
lines_stay [] ps = refl
lines_stay (b ∷ bs) ps = refl

heading-stay : (before gap o n : List ℕ) (ps qs : List Stretch)
    → heading_of before (if_stays gap (turns o n ∷ ps) ++ qs) ≡ heading (before ++ gap) (if is_nil o then n else o)
heading-stay before [] o n ps qs = ap (λ b. heading b (if is_nil o then n else o)) (sym (append-nil before))
heading-stay before (b ∷ bs) o n ps qs = refl

-- lines that stay, with no turn, are no hunk
no_part : (n : ℕ) (t : List ℕ) → hunks [] [] [] (views_of 0 n (if_stays t [])) ≡ []
no_part n [] = refl
no_part n (b ∷ bs) = hunks-end 0 [] [] (b ∷ bs) []

module _ (before after : List ℕ) where
  lines_from : (place : Place) (ts : List Turn) (end : Place)
      → flat_map part_text (parts_from before after place ts ++ if_stays (between (end_from place ts).old end.old before) []) ≡ lines_to before after place ts end
  lines_from place [] end = lines_stay (between place.old end.old before) [] ∙ append-nil (marked (codes " ") (between place.old end.old before))
  lines_from place (t ∷ ts) end =
      let gap = between place.old t.start.old before in
      let rest = if_stays (between (end_from t.end ts).old end.old before) [] in
      ap (flat_map part_text) (if_stays-append gap (turn_part before after t ∷ parts_from before after t.end ts) rest)
      ∙ lines_stay gap (turn_part before after t ∷ (parts_from before after t.end ts ++ rest))
      ∙ sym (append_assoc (marked (codes " ") gap) (part_text (turn_part before after t)) (flat_map part_text (parts_from before after t.end ts ++ rest)))
      ∙ ap (turn_lines before after place t ++◌) (lines_from t.end ts end)

  pub lines_are : (x : Passage) → flat_map part_text (parts_in before after x) ≡ lines_to before after x.start x.turns.now x.end
  lines_are x = lines_from x.start x.turns.now x.end

  -- ---- the first line

  first_heading_is : (start : Place) (ts : List Turn) (qs : List Stretch) (field : List ℕ) → AreIn before after start.old start.new ts → 0 < length ts
      → first_field (take (get_or ts 0 no_turn).start.old before) ≡ field
      → first_heading before after ts field ≡ heading_of (take start.old before) (parts_from before after start ts ++ qs)
  first_heading_is start [] qs field are some found = absurd (omega (arith, some))
  first_heading_is start (t ∷ ts) qs field are some found =
      let old = between t.start.old t.end.old before in
      let new = between t.start.new t.end.new after in
      let shown = if is_nil old then new else old in
      sym
      (heading-stay (take start.old before) (between start.old t.start.old before) old new (parts_from before after t.end ts) qs
      ∙ ap (λ b. heading b shown) (take_then start.old t.start.old before are.0.start_old)
      ∙ ap (λ f. if begins_blank shown then [] else after_space f) found)

  pub text_is : (old new : ℕ) (x : Passage) (start first : Passed) → IsPassage before after old new x → IsPassed before after start → IsPassed before after first
      → start.place ≡ x.start → first.place ≡ (get_or x.turns.now 0 no_turn).start
      → head start.old_lines start.new_lines (between x.start.old x.end.old before) (between x.start.new x.end.new after)
      (first_heading before after x.turns.now first.field.now) ++ flat_map part_text (parts_in before after x)
      ≡ passage_text before after x
  text_is old new x start first is known found start_is first_is =
      let old_lines : start.old_lines ≡ newlines (take x.start.old before) = known.old_lines ∙ ap (λ (p : Place). newlines (take p.old before)) start_is in
      let new_lines : start.new_lines ≡ newlines (take x.start.new after) = known.new_lines ∙ ap (λ (p : Place). newlines (take p.new after)) start_is in
      let field : first_field (take (get_or x.turns.now 0 no_turn).start.old before) ≡ first.field.now =
      ap (λ (p : Place). first_field (take p.old before)) (sym first_is) ∙ found.now in
      let above = first_heading_is x.start x.turns.now (if_stays (between (end_from x.start x.turns.now).old x.end.old before) []) first.field.now is.turns is.some field in
      ap (λ f. head start.old_lines start.new_lines (between x.start.old x.end.old before) (between x.start.new x.end.new after) f ++ flat_map part_text (parts_in before after x)) above
      ∙ ap₂ (λ k m. head k m (between x.start.old x.end.old before) (between x.start.new x.end.new after) (heading_of (take x.start.old before) (parts_in before after x))
      ++ flat_map part_text (parts_in before after x)) old_lines new_lines
      ∙ ap₂ (λ s u. head (newlines (take x.start.old before)) (newlines (take x.start.new after)) s u (heading_of (take x.start.old before) (parts_in before after x))
      ++ flat_map part_text (parts_in before after x)) (sym is.old_is) (sym is.new_is)

  -- ---- all hunks

  -- of no turn nothing is printed
  pub no_hunks : (name : List ℕ) (n : ℕ) (ts : List Turn) → length ts ≡ 0 → named name (hunks [] [] [] (views_of 0 n (cut_at before after origin ts))) ≡ []
  no_hunks name n [] none = ap (named name) (no_part n (drop 0 before))
  no_hunks name n (t ∷ ts) none = absurd (omega (arith, none))

  pub some_hunks : (name : List ℕ) (xs : List Passage) → 0 < length xs → named name (flat_map (passage_text before after) xs) ≡ names name ++ flat_map (passage_text before after) xs
  some_hunks name [] some = absurd (omega (arith, some))
  some_hunks name (x ∷ xs) some = refl
