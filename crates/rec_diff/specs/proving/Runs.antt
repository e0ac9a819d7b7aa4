-- Steps that are looked at, and deeds in runs of one kind, as the code holds them.
use Rattle.std.specs.Prelude.{◌≡◌, ℕ, ◌+◌, ◌<◌, List, [], ◌∷◌, ◌++◌, length, map, replicate}
use Rattle.std.specs.Borrow.{Bor}
use Rattle.std.specs.List.{flat_map}
use Rattle.rec_journal.specs.declared.event.EditStep.{EditStep}
use Rattle.rec_journal.specs.declared.patch.Hunk.{Hunk}
use Rattle.rec_diff.specs.declared.composing.run.Run.{Run}
use Rattle.rec_diff.specs.declared.composing.run.Run.TheVariants.{Kept, Removed, Added}
use Rattle.rec_diff.specs.declared.composing.merging.Ahead.{Ahead}
use Rattle.rec_diff.specs.declared.composing.merging.Meeting.{Meeting}
use Rattle.rec_diff.specs.declared.composing.turning.Turning.{Turning}
use Rattle.rec_diff.specs.Composing.{Deed, keeps, removes, adds, then_others, hunks_after}

-- the steps to which these references lead
abbrev pub steps_at : List (Bor EditStep) → List EditStep
steps_at references = map (λ one. one.now) references

-- how many bytes a run has
abbrev pub run_length : Run → ℕ
run_length (Kept count) = count
run_length (Removed bytes) = length bytes.now
run_length (Added bytes) = length bytes.now

-- the deeds of a run
abbrev pub deeds_in : Run → List Deed
deeds_in (Kept count) = replicate count keeps
deeds_in (Removed bytes) = map removes bytes.now
deeds_in (Added bytes) = map adds bytes.now

-- the deeds of runs
abbrev pub run_deeds : List Run → List Deed
run_deeds runs = flat_map deeds_in runs

-- a run cut in two, the first of them with this many bytes
abbrev pub CutsRun : Run → ℕ → Run → Run → Type 0
CutsRun (Kept count) at (Kept first) (Kept rest) = (first ≡ at) × (count ≡ at + rest)
CutsRun (Removed bytes) at (Removed first) (Removed rest) =
    (length first.now ≡ at) × (bytes.now ≡ first.now ++ rest.now)
CutsRun (Added bytes) at (Added first) (Added rest) =
    (length first.now ≡ at) × (bytes.now ≡ first.now ++ rest.now)
CutsRun _ _ _ _ = ⊥

-- the first keeps or adds bytes, the other keeps or removes them
abbrev pub CanMeet : Run → Run → Type 0
CanMeet (Removed bytes) other = ⊥
CanMeet (Kept count) (Added bytes) = ⊥
CanMeet (Added bytes) (Added others) = ⊥
CanMeet one other = Unit {0}

-- what comes of a run that keeps or adds bytes, and one of the same length that then keeps or removes them
abbrev pub met_deeds : Run → Run → List Deed
met_deeds (Kept count) other = deeds_in other
met_deeds one (Kept count) = deeds_in one
met_deeds one other = []

-- ---- two lists of runs

-- the deeds that are left
abbrev pub deeds_ahead : Ahead → List Deed
deeds_ahead ahead = deeds_in ahead.head ++ run_deeds ahead.rest.now

abbrev pub weight : List Run → ℕ
weight [] = 0
weight (run ∷ runs) = run_length run + (1 + weight runs)

-- how much is left
abbrev pub amount_left : Ahead → ℕ
amount_left ahead = run_length ahead.head + weight ahead.rest.now

-- a run, and then what is left of both
pub record Meets (one other : Ahead) (meeting : Meeting) : Type 0 where
  pub deeds : then_others (deeds_ahead one) (deeds_ahead other)
      ≡ deeds_in meeting.run ++ then_others (deeds_ahead meeting.one) (deeds_ahead meeting.other)
  pub smaller : amount_left meeting.one + amount_left meeting.other < amount_left one + amount_left other

-- ---- hunks of runs

-- how many bytes of the old text deeds go over
abbrev pub old_count : List Deed → ℕ
old_count [] = 0
old_count (keeps ∷ deeds) = 1 + old_count deeds
old_count (removes b ∷ deeds) = 1 + old_count deeds
old_count (adds b ∷ deeds) = old_count deeds

-- the hunks so far and those of more deeds
abbrev pub hunks_with : Turning → List Deed → List Hunk
hunks_with turning more = turning.hunks.items ++ hunks_after turning.at turning.removed.items turning.added.items more

-- the place that is reached in the old text
abbrev pub reached : Turning → ℕ
reached turning = turning.at + length turning.removed.items
