-- The printed diff of an edit of several steps, and that of taking it back.
use Rattle.std.specs.Prelude.{◌≡◌, ℕ, ◌+◌, ◌-◌, List, [], ◌∷◌, length, Result, Ok, Err}
use Rattle.rec_text.specs.declared.fault.Fault.{Fault}
use Rattle.rec_journal.specs.declared.patch.Direction.{Direction}
use Rattle.rec_journal.specs.declared.patch.Direction.TheVariants.{Forward, Backward}
use Rattle.rec_journal.specs.declared.event.EditStep.{EditStep}
use Rattle.rec_journal.specs.declared.patch.Hunk.{Hunk}
use Rattle.rec_diff.specs.declared.style.DiffStyle.{DiffStyle}
use Rattle.rec_diff.specs.Composing.{ComposesAll, patches_of}
use Rattle.rec_diff.specs.Diff.{IsChangeText}

-- the hunks that lead back, from a place of the text before on and the same place of the text after: each puts its old
-- text there for its new one
abbrev pub turned_from : ℕ → ℕ → List Hunk → List Hunk
turned_from before after [] = []
turned_from before after (h ∷ hunks) =
    record { at = after + (h.at - before); old = h.new; new = h.old }
    ∷ turned_from (h.at + length h.old) (after + (h.at - before) + length h.new) hunks

abbrev pub turned_hunks : List Hunk → List Hunk
turned_hunks patch = turned_from 0 0 patch

-- what the steps do as one, from the text before to the text after
abbrev pub IsDiffBy : DiffStyle → List EditStep → List ℕ → List ℕ → List ℕ → Type 0
IsDiffBy style steps before after printed = (patch : List Hunk) × ComposesAll (patches_of steps) patch
    × IsChangeText style patch before after (Ok printed)

-- the same, from the text after back to the text before
abbrev pub IsDiffBack : DiffStyle → List EditStep → List ℕ → List ℕ → List ℕ → Type 0
IsDiffBack style steps before after printed = (patch : List Hunk) × ComposesAll (patches_of steps) patch
    × IsChangeText style (turned_hunks patch) after before (Ok printed)

-- from the text here to the text there, where the steps lead forward or are taken back
abbrev pub IsDiff : Direction → DiffStyle → List EditStep → List ℕ → List ℕ → Result (List ℕ) Fault → Type 0
IsDiff Forward style steps here there (Ok printed) = IsDiffBy style steps here there printed
IsDiff Backward style steps here there (Ok printed) = IsDiffBack style steps there here printed
IsDiff direction style steps here there (Err fault) = ⊥

-- there is one at most
abbrev pub OneDiff : Type 0
OneDiff = (direction : Direction) (style : DiffStyle) (steps : List EditStep)
    (here there one other : List ℕ) → IsDiff direction style steps here there (Ok one)
    → IsDiff direction style steps here there (Ok other) → one ≡ other
