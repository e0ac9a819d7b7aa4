-- Hunks are turned one by one, and their places fit.
use Rattle.std.proofs.Common.{arith, ◌≡◌, ◌∙◌, ℕ, ◌+◌, ◌-◌, ◌≤◌, ◌<◌, ◌^◌, List, [], ◌∷◌, ◌++◌, length, length-append, append_assoc, append-nil, refl, sym, ap}
use Rattle.rec_journal.specs.declared.patch.Hunk.{Hunk}
use Rattle.rec_journal.specs.declared.event.EditStep.{EditStep}
use Rattle.rec_journal.specs.declared.patch.Direction.{Direction}
use Rattle.rec_journal.specs.declared.patch.Direction.TheVariants.{Forward, Backward}
use Rattle.rec_journal.specs.Direction.{Along}
use Rattle.rec_journal.specs.Patch.{Splices}
use Rattle.rec_journal.specs.Revisions.{LeadsBy}
use Rattle.rec_diff.specs.Diffs.{turned_from, turned_hunks}
use Rattle.rec_diff.specs.proving.Backs.{IsTurnedTo}

pub none_turned : (hunks : List Hunk) (here there : List ℕ) → length here < 2 ^ 64 → length there < 2 ^ 64 → Splices hunks here there → IsTurnedTo hunks [] 0 0 hunks
none_turned hunks here there here_fits there_fits splices =
    record { parts = refl; here = here; there = there; splices = splices; here_fits = omega (arith, here_fits); there_fits = omega (arith, there_fits) }

-- a hunk, turned, after these places
abbrev pub turned_hunk : ℕ → ℕ → Hunk → Hunk
turned_hunk before after h = record { at = after + (h.at - before); old = h.new; new = h.old }

module _ (hunks back : List Hunk) (before after : ℕ) (h : Hunk) (left : List Hunk) (so_far : IsTurnedTo hunks back before after (h ∷ left)) where
  abbrev kept : List ℕ
  kept = so_far.splices.0

  here_long : length so_far.here ≡ length kept + (length h.old + length so_far.splices.1)
  here_long = ap length so_far.splices.4 ∙ length-append kept (h.old ++ so_far.splices.1) ∙ ap (λ n. length kept + n) (length-append h.old so_far.splices.1)

  there_long : length so_far.there ≡ length kept + (length h.new + length so_far.splices.2)
  there_long = ap length so_far.splices.5 ∙ length-append kept (h.new ++ so_far.splices.2) ∙ ap (λ n. length kept + n) (length-append h.new so_far.splices.2)

  pub not_before : before ≤ h.at
  not_before = let at = so_far.splices.3 in omega (arith, at)

  pub here_fits : h.at + length h.old < 2 ^ 64
  here_fits = let at = so_far.splices.3 in let fits = so_far.here_fits in omega (arith, at, fits, here_long)

  pub there_fits : after + (h.at - before) + length h.new < 2 ^ 64
  there_fits = let at = so_far.splices.3 in let fits = so_far.there_fits in omega (arith, at, fits, there_long)

  pub one_turned : IsTurnedTo hunks (back ++ turned_hunk before after h ∷ []) (h.at + length h.old) (after + (h.at - before) + length h.new) left
  one_turned =
      let at = so_far.splices.3 in let here_fits = so_far.here_fits in let there_fits = so_far.there_fits in
      record {
        parts = so_far.parts ∙ sym (append_assoc back (turned_hunk before after h ∷ []) (turned_from (h.at + length h.old) (after + (h.at - before) + length h.new) left));
        here = so_far.splices.1;
        there = so_far.splices.2;
        splices = so_far.splices.6;
        here_fits = omega (arith, at, here_fits, here_long);
        there_fits = omega (arith, at, there_fits, there_long);
      }

pub all_turned : (hunks back : List Hunk) (before after : ℕ) (left : List Hunk) → IsTurnedTo hunks back before after left → left ≡ [] → back ≡ turned_hunks hunks
all_turned hunks back before after left so_far none = sym (so_far.parts ∙ ap (λ l. back ++ turned_from before after l) none ∙ append-nil back)

-- steps that lead some way lead forward
pub forward : (direction : Direction) (steps : List EditStep) (here there : List ℕ) → length here < 2 ^ 64 → length there < 2 ^ 64 → Along direction (LeadsBy steps) here there
    → (before after : List ℕ) × (length before < 2 ^ 64) × LeadsBy steps before after
forward Forward steps here there fits fits_there leads = (here, there, fits, leads)
forward Backward steps here there fits fits_there leads = (there, here, fits_there, leads)
