-- How far the places, the line numbers and the heading of hunks are known.
use Rattle.std.specs.Prelude.{◌≡◌, ℕ, ◌≤◌, List, [], ◌++◌, length, take}
use Rattle.rec_diff.specs.declared.passed.Passed.{Passed}
use Rattle.rec_diff.specs.Lines.{newlines}
use Rattle.rec_diff.specs.Diff.{found_in, first_field}

-- this field is found at the end of a text, after `found`; the last line of the text begins at `open`
pub record IsFoundTo (found text field : List ℕ) (open_at : ℕ) : Type 0 where
  pub fits : open_at ≤ length text
  pub now : found_in found [] text ≡ field
  pub later : (more : List ℕ) → found_in found [] (take open_at text ++ more) ≡ found_in field [] more

-- what is known of the texts before two places
pub record IsPassed (before after : List ℕ) (p : Passed) : Type 0 where
  pub old : p.place.old ≤ length before
  pub new : p.place.new ≤ length after
  pub old_lines : p.old_lines ≡ newlines (take p.place.old before)
  pub new_lines : p.new_lines ≡ newlines (take p.place.new after)
  pub line : p.line ≤ p.place.old
  pub now : first_field (take p.place.old before) ≡ p.field.now
  pub later : (more : List ℕ) → found_in [] [] (take p.line before ++ more) ≡ found_in p.field.now [] more
