-- How a script is carried out, part by part: what is done of it and what is left.
use Rattle.std.specs.Prelude.{◌≡◌, ℕ, ◌+◌, ◌<◌, ◌≤◌, true, IsTrue, List, ◌++◌, length}
use Rattle.std.specs.Prelude.{Option, Some, None}
use Rattle.std.specs.List.{AllByRecursion}
use Rattle.std.specs.declared.ops.Range.{Range}
use Rattle.rec_text.specs.Bytes.{ends_newline}
use Rattle.rec_text.specs.Elements.{Piece, text_of}
use Rattle.rec_text.specs.Records.{AreAscending}
use Rattle.rec_journal.specs.declared.patch.Hunk.{Hunk}
use Rattle.rec_edit.specs.declared.draft.Draft.{Draft}
use Rattle.rec_edit.specs.declared.draft.Run.{Run}
use Rattle.rec_edit.specs.Script.{Part, old_pieces, edited_text, changes_from, is_kept}
use Rattle.rec_edit.specs.proving.Changes.{joining, merged, real_changes, hunks_of}

-- ranges of indexes below the size, in order and none of them empty
pub record AreRanges (size : ℕ) (ranges : List (Range ℕ)) : Type 0 where
  pub ascending : AreAscending 0 ranges
  pub each : AllByRecursion (λ range. (range.start < range.end) × (range.end ≤ size)) ranges

-- the hunk that a run of changes is so far
abbrev pub hunk_of : Run → Hunk
hunk_of run = record { at = run.at; old = run.old.items; new = run.new.items }

-- an open run of changes, before others
abbrev pub opening : Option Run → List Hunk → List Hunk
opening None hunks = hunks
opening (Some run) hunks = joining (hunk_of run) hunks

-- no run is open, or it ends at this place or before it
abbrev pub EndsBy : Option Run → ℕ → Type 0
EndsBy None at = Unit {0}
EndsBy (Some run) at = run.at + length run.old.items ≤ at

-- of these parts, the last ones are left to do
pub record IsDraft (draft : Draft) (left whole : List Part) : Type 0 where
  pub hunks : hunks_of whole ≡ draft.hunks.items
      ++ real_changes (opening draft.run (merged (changes_from draft.at left)))
  pub text : edited_text whole ≡ draft.text.items ++ edited_text left
  pub at : length (text_of (old_pieces whole)) ≡ draft.at + length (text_of (old_pieces left))
  pub run_ends : EndsBy draft.run draft.at

-- the run that a change goes on with: changes after the open run and changes after this one are the same hunks
pub record IsRunHere (draft : Draft) (run : Run) (new : Draft) : Type 0 where
  pub hunks : (next : Hunk) (hunks : List Hunk) → next.at ≡ draft.at
      → draft.hunks.items ++ real_changes (opening draft.run (joining next hunks))
      ≡ new.hunks.items ++ real_changes (joining (hunk_of run) (joining next hunks))
  pub ends : run.at + length run.old.items ≡ draft.at
  pub text : new.text.items ≡ draft.text.items
  pub at : new.at ≡ draft.at

-- parts whose two texts are the same
abbrev pub AreKept : List Part → Type 0
AreKept parts = AllByRecursion (λ part. is_kept part ≡ true) parts

-- each ends in a newline
abbrev pub AreLines : List Piece → Type 0
AreLines pieces = AllByRecursion (λ piece. IsTrue (ends_newline piece.bytes)) pieces

-- where these parts come next, the second draft is the first one after them
abbrev pub LeadsOn : Draft → List Part → Draft → Type 0
LeadsOn draft parts new = (rest whole : List Part) → IsDraft draft (parts ++ rest) whole → IsDraft new rest whole
