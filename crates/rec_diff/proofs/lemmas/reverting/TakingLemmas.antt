-- What takes an edit back, and that nothing does where what is left would not keep its places.
use Rattle.std.proofs.Common.{◌≡◌, ◌≢◌, ◌∙◌, ℕ, ◌^◌, ◌<◌, true, false, List, [], length, map, Some, Err, refl, sym, ap, ap₂, subst}
use Rattle.rec_text.specs.declared.fault.Fault.{Fault}
use Rattle.rec_text.specs.declared.fault.Fault.TheVariants.{Drifted, OutOfMemory}
use Rattle.rec_journal.specs.declared.patch.Hunk.{Hunk}
use Rattle.rec_journal.specs.Patch.{FindsOnly, IsPatch, Splices}
use Rattle.rec_journal.proofs.lemmas.patches.SplicingLemmas.{leads_to_one_text}
use Rattle.rec_diff.specs.declared.reverting.edits.Edits.{Edits}
use Rattle.rec_diff.specs.declared.reverting.standing.Back.{Back}
use Rattle.rec_diff.specs.declared.reverting.weaving.Woven.{Woven}
use Rattle.rec_diff.specs.declared.turn.Turn.{Turn}
use Rattle.rec_diff.specs.Changes.{Stretch, hunks_at}
use Rattle.rec_diff.specs.Keeping.{KeepsPlaces}
use Rattle.rec_diff.specs.Strands.{AreWoven, Strand, ahead_in, back_in, hunks_back, woven}
use Rattle.rec_diff.specs.Reverts.{NothingReverts, Reverts, as_patch}
use Rattle.rec_diff.specs.proving.Keeping.{AreLed, IsLed, later_steps}
use Rattle.rec_diff.specs.proving.Moving.{AllCanMove, AreTurnable, passing, turns_after, turns_ahead}
use Rattle.rec_diff.specs.proving.Reading.{AreTurnsOf}
use Rattle.rec_diff.specs.proving.Taking.{IsTakenBack, TakenKeeps}
use Rattle.rec_diff.specs.proving.Weaving.{AreTurnsBy, at_start, back_hunk, patch_by, stand, turns_stand}
use Rattle.rec_diff.proofs.lemmas.reverting.AlikeLemmas.{keeps_alike}
use Rattle.rec_diff.proofs.lemmas.reverting.FoundLemmas.{all_stand, found_change, found_parts, found_turns, one_change_by}
use Rattle.rec_diff.proofs.lemmas.reverting.PatchLemmas.{as_patch_is, as_patch_leads}
use Rattle.rec_diff.proofs.lemmas.reverting.RevertLemmas.{change_by, change_spaced, found_woven, strands_woven, woven_is_found}
use Rattle.rec_diff.proofs.lemmas.reverting.TakenLemmas.{AreTaken, all_alike, are_taken, back_leads, back_to}
use Rattle.rec_diff.proofs.lemmas.reverting.WeavingLemmas.{IsWoven, standing_at}

-- ---- what the code finds

pub stands_alike : (before one after other : List ℕ) (ts us os ps : List Turn) → one ≡ before → other ≡ after → us ≡ ts → ps ≡ os
    → turns_stand before after ts os at_start ≡ turns_stand one other us ps at_start
stands_alike before one after other ts us os ps a b c d =
    sym (ap₂ (λ x y. turns_stand x y us ps at_start) a b ∙ ap₂ (λ x y. turns_stand before after x y at_start) c d)

module _ (edits : Edits) (change later_ones : List Turn) (own : AreTurnsBy edits.steps.now edits.before.now edits.after.now change)
    (later : AreTurnsBy (later_steps edits) edits.after.now edits.here.now later_ones) (backs : List Back)
    (is : turns_stand edits.before.now edits.after.now change later_ones at_start ≡ Some (map back_hunk backs)) where
  abbrev hunks_here : List Hunk
  hunks_here = map back_hunk backs

  pub found : IsWoven 0 0 (hunks_back (found_parts own)) (hunks_at 0 (found_parts later)) edits.after.now hunks_here
  found =
      found_woven edits.steps.now edits.before.now edits.after.now (later_steps edits) edits.here.now own.leads later.leads hunks_here (all_stand own later backs is)

  pub found_are : AreWoven (hunks_back (found_parts own)) (hunks_at 0 (found_parts later)) edits.after.now found.strands
  found_are =
      strands_woven edits.steps.now edits.before.now edits.after.now (later_steps edits) edits.here.now own.leads later.leads hunks_here (all_stand own later backs is) found

  abbrev left_here : List ℕ
  left_here = woven false true found.strands

  module _ (old_fits : length edits.before.now < 2 ^ 63) (here_fits : length edits.here.now < 2 ^ 63) where
    pub taken_turns : AreTaken edits.before.now edits.here.now left_here change later_ones hunks_here (ahead_in found.strands) (back_in found.strands)
    taken_turns =
        are_taken edits.steps.now edits.before.now edits.after.now (later_steps edits) edits.here.now (found_parts own) (found_parts later) (found_change own) (found_change later)
        found.strands found_are old_fits here_fits change later_ones hunks_here (found_turns own) (found_turns later) found.found_is

    pub backs_turnable : AreTurnable at_start hunks_here
    backs_turnable = taken_turns.turnable

    pub later_can_move : AllCanMove later_ones (passing change (turns_after at_start hunks_here) at_start at_start)
    later_can_move = taken_turns.can

    pub is_taken : (hunks : List Hunk) (w : Woven) → hunks ≡ as_patch hunks_here → w.change.items ≡ change → w.later.items ≡ later_ones → w.back.items ≡ turns_after at_start hunks_here
        → w.ahead.items ≡ turns_ahead later_ones (passing change (turns_after at_start hunks_here) at_start at_start) → IsTakenBack edits hunks w
    is_taken hunks w hunks_is change_is later_is back_is ahead_is = record {
      parts = found_parts own;
      others = found_parts later;
      strands = found.strands;
      left = left_here;
      led = record {
        change_turns = subst (AreTurnsOf (found_parts own) edits.before.now edits.after.now) (sym change_is) (found_turns own);
        later_turns = subst (AreTurnsOf (found_parts later) edits.after.now edits.here.now) (sym later_is) (found_turns later);
        ahead_turns = subst (AreTurnsOf (ahead_in found.strands) edits.before.now left_here) (sym ahead_is) taken_turns.ahead_are;
        back_turns = subst (AreTurnsOf (back_in found.strands) edits.here.now left_here) (sym back_is) taken_turns.back_are;
        change_is = found_change own;
        later_is = found_change later;
      };
      are_woven = found_are;
      hunks_are = hunks_is ∙ ap as_patch (sym found.found_is);
    }

-- ---- what it comes to

module _ (edits : Edits) (hunks : List Hunk) (w : Woven) (taken : IsTakenBack edits hunks w) where
  pub taken_patch : IsPatch hunks
  taken_patch = subst IsPatch (sym taken.hunks_are) (as_patch_is (standing_at 0 taken.strands))

  pub taken_leads : Splices hunks edits.here.now taken.left
  taken_leads =
      let lead =
      back_leads edits.steps.now edits.before.now edits.after.now (later_steps edits) edits.here.now taken.parts taken.others taken.led.change_is taken.led.later_is taken.strands
      taken.are_woven in
      let is : woven false true taken.strands ≡ taken.left = sym (back_to taken.strands) ∙ taken.led.back_turns.to in
      subst (λ hs. Splices hs edits.here.now taken.left) (sym taken.hunks_are)
      (subst (Splices (as_patch (standing_at 0 taken.strands)) edits.here.now) is
      (as_patch_leads (standing_at 0 taken.strands) edits.here.now (woven false true taken.strands) lead))

  -- a text to which the patch leads is what is left
  pub taken_text : (text : List ℕ) → Splices hunks edits.here.now text → taken.left ≡ text
  taken_text text leads = leads_to_one_text.forward hunks edits.here.now taken.left text taken_leads leads

  pub taken_led : (text : List ℕ) → taken.left ≡ text → AreLed edits w text taken.parts taken.others (ahead_in taken.strands) (back_in taken.strands)
  taken_led text is = subst (λ t. AreLed edits w t taken.parts taken.others (ahead_in taken.strands) (back_in taken.strands)) is taken.led

  pub taken_is_led : (text : List ℕ) → taken.left ≡ text → IsLed edits w text
  taken_is_led text is = (taken.parts, taken.others, ahead_in taken.strands, back_in taken.strands, taken_led text is)

  pub taken_reverts : (hunks ≢ [] → TakenKeeps edits hunks w taken) → Reverts edits.steps.now edits.before.now edits.after.now (later_steps edits) edits.here.now hunks
  taken_reverts places = record {
    parts = taken.parts;
    change_is = taken.led.change_is;
    others = taken.others;
    later_is = taken.led.later_is;
    strands = taken.strands;
    woven = taken.are_woven;
    is = taken.hunks_are;
    places = places;
  }

  abbrev keeps_by : List Stretch → List Stretch → List Strand → Type 0
  keeps_by parts others strands = KeepsPlaces edits.steps.now (later_steps edits) parts others (ahead_in strands) (back_in strands)

  -- strands that tell both apart leave places as these do
  other_keeps : length edits.before.now < 2 ^ 63 → length edits.here.now < 2 ^ 63 → (strands : List Strand)
      → AreWoven (hunks_back taken.parts) (hunks_at 0 taken.others) edits.after.now strands → standing_at 0 strands ≡ standing_at 0 taken.strands → keeps_by taken.parts taken.others strands
      → TakenKeeps edits hunks w taken
  other_keeps old_fits here_fits strands are same keeps =
      let alike =
      all_alike edits.steps.now edits.before.now edits.after.now (later_steps edits) edits.here.now taken.parts taken.others taken.led.change_is taken.led.later_is old_fits here_fits
      w.change.items w.later.items taken.led.change_turns taken.led.later_turns strands taken.strands are taken.are_woven same in
      keeps_alike edits.steps.now (later_steps edits) taken.parts taken.others (ahead_in strands) (ahead_in taken.strands) (back_in strands) (back_in taken.strands)
      alike.ahead alike.back alike.back_text keeps

  stands_so : (strands : List Strand) → AreWoven (hunks_back taken.parts) (hunks_at 0 taken.others) edits.after.now strands
      → stand (hunks_back taken.parts) (hunks_at 0 taken.others) 0 0 ≡ Some (standing_at 0 strands)
  stands_so strands are =
      woven_is_found (hunks_back taken.parts) (hunks_at 0 taken.others) edits.after.now strands
      (change_spaced (patch_by (later_steps edits)) edits.after.now edits.here.now taken.others
      (change_by (later_steps edits) edits.after.now edits.here.now taken.others taken.led.later_is)) are

  pub nothing_taken : length edits.before.now < 2 ^ 63 → length edits.here.now < 2 ^ 63 → (hunks ≢ []) × (TakenKeeps edits hunks w taken → ⊥)
      → NothingReverts edits.steps.now edits.before.now edits.after.now (later_steps edits) edits.here.now
  nothing_taken old_fits here_fits (some, lost) = λ other reverts.
      let parts_are : reverts.parts ≡ taken.parts =
      one_change_by edits.steps.now edits.before.now edits.after.now reverts.parts taken.parts reverts.change_is taken.led.change_is in
      let others_are : reverts.others ≡ taken.others =
      one_change_by (later_steps edits) edits.after.now edits.here.now reverts.others taken.others reverts.later_is taken.led.later_is in
      let are : AreWoven (hunks_back taken.parts) (hunks_at 0 taken.others) edits.after.now reverts.strands =
      subst (λ ps. AreWoven (hunks_back ps) (hunks_at 0 taken.others) edits.after.now reverts.strands) parts_are
      (subst (λ os. AreWoven (hunks_back reverts.parts) (hunks_at 0 os) edits.after.now reverts.strands) others_are reverts.woven) in
      let both : Some (standing_at 0 reverts.strands) ≡ Some (standing_at 0 taken.strands) = sym (stands_so reverts.strands are) ∙ stands_so taken.strands taken.are_woven in
      let same : standing_at 0 reverts.strands ≡ standing_at 0 taken.strands = cc in
      let hunks_same : other ≡ hunks = reverts.is ∙ ap as_patch same ∙ sym taken.hunks_are in
      let keeps : keeps_by reverts.parts reverts.others reverts.strands = reverts.places (λ none. some (sym hunks_same ∙ none)) in
      let kept : keeps_by taken.parts taken.others reverts.strands =
      subst (λ ps. keeps_by ps taken.others reverts.strands) parts_are (subst (λ os. keeps_by reverts.parts os reverts.strands) others_are keeps) in
      lost (other_keeps old_fits here_fits reverts.strands are same kept)

-- a patch that leads somewhere is refused for memory alone
pub refused_memory : (P : List ℕ → Type 0) (fault : Fault) → (text : List ℕ) × P text → FindsOnly P (Err fault) → fault ≡ OutOfMemory
refused_memory P OutOfMemory some refused = refl
refused_memory P Drifted some refused = absurd (refused some.0 some.1)
refused_memory P _ some refused = absurd refused

pub some_hunks : (hunks given : List Hunk) → given ≡ hunks → (given ≢ []) → hunks ≢ []
some_hunks hunks given is some none = some (is ∙ none)
