-- The turns that the code weaves are those of strands that tell both changes apart.
use Rattle.std.proofs.Common.{◌≡◌, ◌∙◌, ℕ, ◌+◌, ◌^◌, ◌<◌, ◌≤◌, true, false, List, [], ◌∷◌, length, map, refl, sym, ap, subst, length-append, arith}
use Rattle.rec_journal.specs.declared.event.EditStep.{EditStep}
use Rattle.rec_journal.specs.declared.patch.Hunk.{Hunk}
use Rattle.rec_journal.specs.Patch.{Splices}
use Rattle.rec_journal.proofs.lemmas.patches.SplicingLemmas.{leads_to_one_text}
use Rattle.rec_diff.specs.declared.turn.Turn.{Turn}
use Rattle.rec_diff.specs.Changes.{Stretch, before_of, after_of, hunks_at}
use Rattle.rec_diff.specs.Keeping.{IsChangeBy}
use Rattle.rec_diff.specs.Making.{AreAlike}
use Rattle.rec_diff.specs.Strands.{AreSettled, AreWoven, Strand, ahead_in, back_in, hunks_back, later, later_part, mine, mine_part, same, woven, woven_one}
use Rattle.rec_diff.specs.proving.Moving.{AllCanMove, AreTurnable, passing, turns_after, turns_ahead, turns_at}
use Rattle.rec_diff.specs.proving.Reading.{AreTurnsOf}
use Rattle.rec_diff.specs.proving.Weaving.{AreSpaced, at_start, patch_by}
use Rattle.rec_diff.proofs.lemmas.reverting.AheadLemmas.{GoAhead, strands_ahead}
use Rattle.rec_diff.proofs.lemmas.reverting.MovingLemmas.{are_turns, same_back, turnable_hunks, turns_alike, turns_are, turns_of_hunks}
use Rattle.rec_diff.proofs.lemmas.reverting.RevertLemmas.{after_of-turned, before_is, before_of-turned, change_by, change_spaced, here_is, later_new, later_old}
use Rattle.rec_diff.proofs.lemmas.reverting.RevertLemmas.{mine_new, mine_old, parts_after, parts_before, standing_leads}
use Rattle.rec_diff.proofs.lemmas.reverting.WeavingLemmas.{backs_at, others_at, spaced_some, standing_at}

-- what is left is no longer than both texts
left_fits : (strands : List Strand) → length (woven false true strands) ≤ length (woven true true strands) + length (woven false false strands)
left_fits [] = omega arith
left_fits (same t ∷ strands) =
    omega (arith, left_fits strands, length-append t (woven false true strands), length-append t (woven true true strands), length-append t (woven false false strands))
left_fits (mine old new ∷ strands) =
    omega (arith, left_fits strands, length-append old (woven false true strands), length-append new (woven true true strands), length-append old (woven false false strands))
left_fits (later old new ∷ strands) =
    omega (arith, left_fits strands, length-append new (woven false true strands), length-append new (woven true true strands), length-append old (woven false false strands))

-- the texts of what leads to what is left
module _ (strands : List Strand) where
  pub back_from : before_of (back_in strands) ≡ woven true true strands
  back_from = before_of-turned (map (mine_part true) strands) ∙ parts_after (mine_part true) (woven_one true true) (mine_new true) strands

  pub back_to : after_of (back_in strands) ≡ woven false true strands
  back_to = after_of-turned (map (mine_part true) strands) ∙ parts_before (mine_part true) (woven_one false true) (mine_old true) strands

  pub ahead_from : before_of (ahead_in strands) ≡ woven false false strands
  ahead_from = parts_before (later_part false) (woven_one false false) (later_old false) strands

  pub ahead_to : after_of (ahead_in strands) ≡ woven false true strands
  ahead_to = parts_after (later_part false) (woven_one false true) (later_new false) strands

-- hunks of parts that have the same are the same turns
same_turns : (parts others : List Stretch) → hunks_at 0 parts ≡ hunks_at 0 others → turns_at 0 0 parts ≡ turns_at 0 0 others
same_turns parts others hunks = sym (turns_of_hunks parts (hunks_at 0 parts) refl) ∙ ap (turns_after at_start) hunks ∙ turns_of_hunks others (hunks_at 0 others) refl

-- what the turns of an edit and later ones come to
pub record AreTaken (before here left : List ℕ) (change later_ones : List Turn) (backs : List Hunk) (ahead back : List Stretch) : Type 0 where
  pub turnable : AreTurnable at_start backs
  pub can : AllCanMove later_ones (passing change (turns_after at_start backs) at_start at_start)
  pub ahead_are : AreTurnsOf ahead before left (turns_ahead later_ones (passing change (turns_after at_start backs) at_start at_start))
  pub back_are : AreTurnsOf back here left (turns_after at_start backs)

module _ (steps : List EditStep) (before after : List ℕ) (later_steps : List EditStep) (here : List ℕ) (parts others : List Stretch)
    (change_is : IsChangeBy steps before after parts) (later_is : IsChangeBy later_steps after here others) (strands : List Strand)
    (are : AreWoven (hunks_back parts) (hunks_at 0 others) after strands) where
  texts_here : woven true true strands ≡ here
  texts_here =
      here_is steps before after later_steps here parts others (change_by steps before after parts change_is) (change_by later_steps after here others later_is) strands are

  texts_before : woven false false strands ≡ before
  texts_before =
      before_is steps before after later_steps here parts others (change_by steps before after parts change_is) (change_by later_steps after here others later_is) strands are

  pub back_leads : Splices (standing_at 0 strands) here (woven false true strands)
  back_leads =
      standing_leads steps before after later_steps here parts others (change_by steps before after parts change_is) (change_by later_steps after here others later_is) strands are

  settled : AreSettled (backs_at 0 strands) (others_at 0 strands)
  settled = subst (λ hs. AreSettled hs (others_at 0 strands)) (sym are.mine_is) (subst (AreSettled (hunks_back parts)) (sym are.later_is) are.settled)

  far : AreSpaced 0 (others_at 0 strands)
  far = subst (AreSpaced 0) (sym are.later_is) (change_spaced (patch_by later_steps) after here others (change_by later_steps after here others later_is))

  module _ (old_fits : length before < 2 ^ 63) (here_fits : length here < 2 ^ 63) where
    left_small : length (woven false true strands) < 2 ^ 64
    left_small =
        let e : length (woven true true strands) ≡ length here = ap length texts_here in
        let f : length (woven false false strands) ≡ length before = ap length texts_before in
        omega (arith, old_fits, here_fits, e, f, left_fits strands)

    goes : GoAhead (turns_at 0 0 (map (later_part true) strands)) (passing (turns_at 0 0 (map (mine_part false) strands)) (turns_at 0 0 (back_in strands)) at_start at_start)
        (turns_at 0 0 (ahead_in strands))
    goes =
        let f : length (woven false false strands) ≡ length before = ap length texts_before in
        strands_ahead strands 0 0 0 0 at_start at_start (omega arith) refl (omega arith) refl settled (spaced_some 0 (others_at 0 strands) far)
        (omega (arith, old_fits, f)) (omega (arith, left_small))

    pub are_taken : (change later_ones : List Turn) (backs : List Hunk) → AreTurnsOf parts before after change → AreTurnsOf others after here later_ones → standing_at 0 strands ≡ backs
        → AreTaken before here (woven false true strands) change later_ones backs (ahead_in strands) (back_in strands)
    are_taken change later_ones backs change_are later_are stand =
        let change_turns : change ≡ turns_at 0 0 (map (mine_part false) strands) =
        turns_are parts before after change change_are ∙ sym (same_back (map (mine_part false) strands) parts are.mine_is) in
        let later_turns : later_ones ≡ turns_at 0 0 (map (later_part true) strands) =
        turns_are others after here later_ones later_are ∙ sym (same_turns (map (later_part true) strands) others are.later_is) in
        let back_turns : turns_after at_start backs ≡ turns_at 0 0 (back_in strands) = turns_of_hunks (back_in strands) backs stand in
        let e : length (before_of (back_in strands)) ≡ length here = ap length (back_from strands ∙ texts_here) in
        let f : length (after_of (back_in strands)) ≡ length (woven false true strands) = ap length (back_to strands) in
        let all : GoAhead later_ones (passing change (turns_after at_start backs) at_start at_start) (turns_at 0 0 (ahead_in strands)) =
        subst (λ ls. GoAhead ls (passing change (turns_after at_start backs) at_start at_start) (turns_at 0 0 (ahead_in strands))) (sym later_turns)
        (subst (λ cs. GoAhead (turns_at 0 0 (map (later_part true) strands)) (passing cs (turns_after at_start backs) at_start at_start) (turns_at 0 0 (ahead_in strands))) (sym change_turns)
        (subst
        (λ bs. GoAhead (turns_at 0 0 (map (later_part true) strands)) (passing (turns_at 0 0 (map (mine_part false) strands)) bs at_start at_start) (turns_at 0 0 (ahead_in strands)))
        (sym back_turns) goes)) in
        record {
          turnable = turnable_hunks (back_in strands) backs stand (omega (arith, here_fits, e)) (omega (arith, left_small, f));
          can = all.can;
          ahead_are = are_turns (ahead_in strands) before (woven false true strands) (turns_ahead later_ones (passing change (turns_after at_start backs) at_start at_start))
              (ahead_from strands ∙ texts_before) (ahead_to strands) all.turns;
          back_are = are_turns (back_in strands) here (woven false true strands) (turns_after at_start backs) (back_from strands ∙ texts_here) (back_to strands) back_turns;
        }

-- strands that tell the same changes apart are alike, and leave the same text
pub record AreAllAlike (strands others : List Strand) : Type 0 where
  pub left : woven false true strands ≡ woven false true others
  pub ahead : AreAlike (ahead_in strands) (ahead_in others)
  pub back : AreAlike (back_in strands) (back_in others)
  pub back_text : after_of (back_in strands) ≡ after_of (back_in others)

module _ (steps : List EditStep) (before after : List ℕ) (later_steps : List EditStep) (here : List ℕ) (parts others : List Stretch)
    (change_is : IsChangeBy steps before after parts) (later_is : IsChangeBy later_steps after here others) (old_fits : length before < 2 ^ 63) (here_fits : length here < 2 ^ 63)
    (change later_ones : List Turn) (change_are : AreTurnsOf parts before after change) (later_are : AreTurnsOf others after here later_ones) where
  pub all_alike : (one other : List Strand) → AreWoven (hunks_back parts) (hunks_at 0 others) after one → AreWoven (hunks_back parts) (hunks_at 0 others) after other
      → standing_at 0 one ≡ standing_at 0 other → AreAllAlike one other
  all_alike one other are also same_standing =
      let lead = back_leads steps before after later_steps here parts others change_is later_is in
      let left : woven false true one ≡ woven false true other =
      leads_to_one_text.forward (standing_at 0 one) here (woven false true one) (woven false true other) (lead one are)
      (subst (λ hs. Splices hs here (woven false true other)) (sym same_standing) (lead other also)) in
      let first = are_taken steps before after later_steps here parts others change_is later_is one are old_fits here_fits change later_ones (standing_at 0 other) change_are later_are same_standing in
      let second = are_taken steps before after later_steps here parts others change_is later_is other also old_fits here_fits change later_ones (standing_at 0 other) change_are later_are refl in
      let moved = turns_ahead later_ones (passing change (turns_after at_start (standing_at 0 other)) at_start at_start) in
      record {
        left = left;
        ahead = turns_alike (ahead_in one) (ahead_in other) before (woven false true other) moved moved refl (subst (λ t. AreTurnsOf (ahead_in one) before t moved) left first.ahead_are)
            second.ahead_are;
        back = record {
          turns = same_standing;
          text = back_from one ∙ texts_here steps before after later_steps here parts others change_is later_is one are
              ∙ sym (back_from other ∙ texts_here steps before after later_steps here parts others change_is later_is other also);
        };
        back_text = back_to one ∙ left ∙ sym (back_to other);
      }
