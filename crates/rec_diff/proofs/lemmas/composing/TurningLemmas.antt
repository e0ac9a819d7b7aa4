-- Hunks of runs, run by run.
use Rattle.std.proofs.Common.{sym, ap, ◌≡◌, ◌∙◌, ℕ, ◌+◌, ◌<◌, List, [], ◌++◌, length, map, replicate, append_assoc, arith, Result, Ok, Err, OnOk, is_ok, if◌then◌else◌}
use Rattle.std.proofs.lemmas.List.{length-append}
use Rattle.rec_journal.specs.declared.patch.Hunk.{Hunk}
use Rattle.rec_diff.specs.declared.composing.run.Run.{Run}
use Rattle.rec_diff.specs.declared.composing.run.Run.TheVariants.{Kept}
use Rattle.rec_diff.specs.declared.composing.turning.Turning.{Turning}
use Rattle.rec_diff.specs.Composing.{Deed, keeps, removes, adds, put_hunk, hunks_after}
use Rattle.rec_diff.specs.proving.Runs.{deeds_in, old_count, hunks_with, reached}
use Rattle.rec_diff.proofs.lemmas.composing.HunkLemmas.{hunks_after-kept, hunks_after-removes, hunks_after-adds, old_count-keeps, old_count-removes, old_count-adds}

-- ---- bytes are kept, which ends a hunk

module _ (before now : Turning) (count : ℕ) (ended : now.hunks.items ≡ before.hunks.items ++ put_hunk before.at before.removed.items before.added.items [])
    (place : now.at ≡ reached before + count) (removed : now.removed.items ≡ []) (added : now.added.items ≡ []) where
  kept_hunks : 0 < count → (more : List Deed) → hunks_with now more ≡ hunks_with before (replicate count keeps ++ more)
  kept_hunks some more =
      ap (λ n. now.hunks.items ++ hunks_after n now.removed.items now.added.items more) place
      ∙ ap (λ old. now.hunks.items ++ hunks_after (reached before + count) old now.added.items more) removed
      ∙ ap (λ new. now.hunks.items ++ hunks_after (reached before + count) [] new more) added
      ∙ ap (λ hunks. hunks ++ hunks_after (reached before + count) [] [] more) ended
      ∙ append_assoc before.hunks.items (put_hunk before.at before.removed.items before.added.items []) (hunks_after (reached before + count) [] [] more)
      ∙ ap (λ hunks. before.hunks.items ++ hunks) (sym (hunks_after-kept count before.at before.removed.items before.added.items more some))

  kept_place : reached now ≡ reached before + old_count (replicate count keeps)
  kept_place = let none : length now.removed.items ≡ 0 = ap length removed in omega (arith, place, old_count-keeps count)

module _ {T E : Type 0} where
  pub kept_goes_on : (r : Result T E) (before now : Turning) (run : Run) (count : ℕ) → run ≡ Kept count → 0 < count
      → OnOk r (now.hunks.items ≡ before.hunks.items ++ put_hunk before.at before.removed.items before.added.items [])
      → OnOk r (now.at ≡ reached before + count) → OnOk r (now.removed.items ≡ []) → OnOk r (now.added.items ≡ [])
      → OnOk r ((more : List Deed) → hunks_with now more ≡ hunks_with before (deeds_in run ++ more))
  kept_goes_on (Ok x) before now run count is some ended place removed added = λ more.
      kept_hunks before now count ended place removed added some more ∙ ap (λ r. hunks_with before (deeds_in r ++ more)) (sym is)
  kept_goes_on (Err x) before now run count is some ended place removed added = tt

  pub kept_reaches : (r : Result T E) (before now : Turning) (run : Run) (count : ℕ) → run ≡ Kept count
      → OnOk r (now.hunks.items ≡ before.hunks.items ++ put_hunk before.at before.removed.items before.added.items [])
      → OnOk r (now.at ≡ reached before + count) → OnOk r (now.removed.items ≡ []) → OnOk r (now.added.items ≡ [])
      → OnOk r (reached now ≡ reached before + old_count (deeds_in run))
  kept_reaches (Ok x) before now run count is ended place removed added =
      kept_place before now count ended place removed added ∙ ap (λ r. reached before + old_count (deeds_in r)) (sym is)
  kept_reaches (Err x) before now run count is ended place removed added = tt

  -- ---- bytes are removed or added

  pub removed_goes_on : (r : Result T E) (hunks : List Hunk) (at : ℕ) (old now new bytes : List ℕ) (deeds : List Deed)
      → now ≡ (if is_ok r then old ++ bytes else old) → deeds ≡ map removes bytes
      → OnOk r ((more : List Deed) → hunks ++ hunks_after at now new more ≡ hunks ++ hunks_after at old new (deeds ++ more))
  removed_goes_on (Ok x) hunks at old now new bytes deeds grown is = λ more.
      ap (λ n. hunks ++ hunks_after at n new more) grown ∙ ap (λ h. hunks ++ h) (sym (hunks_after-removes bytes at old new more))
      ∙ ap (λ d. hunks ++ hunks_after at old new (d ++ more)) (sym is)
  removed_goes_on (Err x) hunks at old now new bytes deeds grown is = tt

  pub removed_reaches : (r : Result T E) (at : ℕ) (old now bytes : List ℕ) (deeds : List Deed)
      → now ≡ (if is_ok r then old ++ bytes else old) → deeds ≡ map removes bytes → OnOk r (at + length now ≡ at + length old + old_count deeds)
  removed_reaches (Ok x) at old now bytes deeds grown is =
      let long : length now ≡ length old + length bytes = ap length grown ∙ length-append old bytes in
      let count : old_count deeds ≡ length bytes = ap old_count is ∙ old_count-removes bytes in
      omega arith
  removed_reaches (Err x) at old now bytes deeds grown is = tt

  pub added_goes_on : (r : Result T E) (hunks : List Hunk) (at : ℕ) (old new now bytes : List ℕ) (deeds : List Deed)
      → now ≡ (if is_ok r then new ++ bytes else new) → deeds ≡ map adds bytes
      → OnOk r ((more : List Deed) → hunks ++ hunks_after at old now more ≡ hunks ++ hunks_after at old new (deeds ++ more))
  added_goes_on (Ok x) hunks at old new now bytes deeds grown is = λ more.
      ap (λ n. hunks ++ hunks_after at old n more) grown ∙ ap (λ h. hunks ++ h) (sym (hunks_after-adds bytes at old new more))
      ∙ ap (λ d. hunks ++ hunks_after at old new (d ++ more)) (sym is)
  added_goes_on (Err x) hunks at old new now bytes deeds grown is = tt

  pub added_reaches : (r : Result T E) (reaches : ℕ) (bytes : List ℕ) (deeds : List Deed) → deeds ≡ map adds bytes → OnOk r (reaches ≡ reaches + old_count deeds)
  added_reaches (Ok x) reaches bytes deeds is = let count : old_count deeds ≡ 0 = ap old_count is ∙ old_count-adds bytes in omega arith
  added_reaches (Err x) reaches bytes deeds is = tt
