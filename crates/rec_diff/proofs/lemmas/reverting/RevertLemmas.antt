-- A change is taken back in one way at most, and what is left is the text without it.
use Rattle.std.proofs.Common.{◌≡◌, ◌≢◌, ◌∙◌, ℕ, ◌+◌, Bool, true, false, List, [], ◌∷◌, ◌++◌, length, map, Some, None, refl, sym, ap, ap₂, subst, arith}
use Rattle.std.specs.List.{flat_map}
use Rattle.rec_journal.specs.declared.event.EditStep.{EditStep}
use Rattle.rec_journal.specs.declared.patch.Hunk.{Hunk}
use Rattle.rec_journal.specs.Patch.{Splices}
use Rattle.rec_journal.proofs.lemmas.patches.SplicingLemmas.{leads_to_one_text}
use Rattle.rec_diff.specs.Changes.{Stretch, stays, turns, turned, old_of, new_of, before_of, after_of, hunks_at, cut_from, joined}
use Rattle.rec_diff.specs.WholeLines.{IsChange, lined_from, trimmed, whole_lines}
use Rattle.rec_diff.specs.Keeping.{IsChangeBy, KeepsPlaces}
use Rattle.rec_diff.specs.Strands.{AreSettled, AreWoven, Strand, ahead_in, back_in, hunks_back}
use Rattle.rec_diff.specs.Reverts.{IsWithout, NothingReverts, OneRevert, Reverts, RevertsLeaveTheRest, as_patch}
use Rattle.rec_diff.specs.Strands.{same, mine, later, later_part, mine_part, woven, woven_one}
use Rattle.rec_diff.specs.Reverts.{texts_of}
use Rattle.rec_diff.specs.proving.Weaving.{AreSpaced, patch_by, stand}
use Rattle.rec_diff.proofs.lemmas.ChangeLemmas.{hunks_splice}
use Rattle.rec_diff.proofs.lemmas.CutLemmas.{is_change, one_change}
use Rattle.rec_diff.proofs.lemmas.WholeLineLemmas.{changes_lead_by_lines}
use Rattle.rec_diff.proofs.lemmas.reverting.ApartLemmas.{joined_apart, spaced, turned_apart}
use Rattle.rec_diff.proofs.lemmas.reverting.WeavingLemmas.{IsWoven, backs_at, others_at, spaced_some, stand_settled, stand_woven, standing_at, woven_stand}
use Rattle.rec_diff.proofs.lemmas.reverting.PatchLemmas.{as_patch_is, as_patch_leads}

-- turned, they lead back
pub before_of-turned : (parts : List Stretch) → before_of (map turned parts) ≡ after_of parts
before_of-turned [] = refl
before_of-turned (stays t ∷ parts) = ap (t ++◌) (before_of-turned parts)
before_of-turned (turns old new ∷ parts) = ap (new ++◌) (before_of-turned parts)

pub after_of-turned : (parts : List Stretch) → after_of (map turned parts) ≡ before_of parts
after_of-turned [] = refl
after_of-turned (stays t ∷ parts) = ap (t ++◌) (after_of-turned parts)
after_of-turned (turns old new ∷ parts) = ap (old ++◌) (after_of-turned parts)

-- ---- the change of whole lines

module _ (patch : List Hunk) (before after : List ℕ) (parts : List Stretch) (is : IsChange patch before after parts) where
  pub change_from : before_of parts ≡ before
  change_from = (changes_lead_by_lines patch before after parts is).from

  pub change_to : after_of parts ≡ after
  change_to = (changes_lead_by_lines patch before after parts is).to

  pub change_leads : Splices (hunks_at 0 parts) before after
  change_leads = subst (λ t. Splices (hunks_at 0 parts) t after) change_from (subst (Splices (hunks_at 0 parts) (before_of parts)) change_to (hunks_splice parts))

  pub back_leads : Splices (hunks_back parts) after before
  back_leads =
      subst (λ t. Splices (hunks_back parts) t before) (before_of-turned parts ∙ change_to)
      (subst (Splices (hunks_back parts) (before_of (map turned parts))) (after_of-turned parts ∙ change_from) (hunks_splice (map turned parts)))

  abbrev lined : List Stretch
  lined = flat_map trimmed (joined (lined_from is.cut [] []))

  pub change_spaced : AreSpaced 0 (hunks_at 0 parts)
  change_spaced = subst (λ ps. AreSpaced 0 (hunks_at 0 ps)) (sym is.lined) (spaced false 0 0 (joined lined) (omega arith) (joined_apart lined))

  pub back_spaced : AreSpaced 0 (hunks_back parts)
  back_spaced = subst (λ ps. AreSpaced 0 (hunks_back ps)) (sym is.lined)
      (spaced false 0 0 (map turned (joined lined)) (omega arith) (turned_apart false (joined lined) (joined_apart lined)))

-- ---- the texts of strands

pub parts_before : (part : Strand → Stretch) (text : Strand → List ℕ) → ((s : Strand) → old_of (part s) ≡ text s) → (strands : List Strand)
    → before_of (map part strands) ≡ flat_map text strands
parts_before part text each [] = refl
parts_before part text each (s ∷ strands) = ap₂ (λ x y. x ++ y) (each s) (parts_before part text each strands)

pub parts_after : (part : Strand → Stretch) (text : Strand → List ℕ) → ((s : Strand) → new_of (part s) ≡ text s) → (strands : List Strand)
    → after_of (map part strands) ≡ flat_map text strands
parts_after part text each [] = refl
parts_after part text each (s ∷ strands) = ap₂ (λ x y. x ++ y) (each s) (parts_after part text each strands)

module _ (made : Bool) where
  pub mine_old : (s : Strand) → old_of (mine_part made s) ≡ woven_one false made s
  mine_old (same t) = refl
  mine_old (mine old new) = refl
  mine_old (later old new) = refl

  pub mine_new : (s : Strand) → new_of (mine_part made s) ≡ woven_one true made s
  mine_new (same t) = refl
  mine_new (mine old new) = refl
  mine_new (later old new) = refl

  pub later_old : (s : Strand) → old_of (later_part made s) ≡ woven_one made false s
  later_old (same t) = refl
  later_old (mine old new) = refl
  later_old (later old new) = refl

  pub later_new : (s : Strand) → new_of (later_part made s) ≡ woven_one made true s
  later_new (same t) = refl
  later_new (mine old new) = refl
  later_new (later old new) = refl

  mine_leads : (strands : List Strand) → Splices (hunks_at 0 (map (mine_part made) strands)) (woven false made strands) (woven true made strands)
  mine_leads strands =
      let parts = map (mine_part made) strands in
      subst (λ t. Splices (hunks_at 0 parts) t (woven true made strands)) (parts_before (mine_part made) (woven_one false made) mine_old strands)
      (subst (Splices (hunks_at 0 parts) (before_of parts)) (parts_after (mine_part made) (woven_one true made) mine_new strands) (hunks_splice parts))

  mine_leads_back : (strands : List Strand) → Splices (hunks_back (map (mine_part made) strands)) (woven true made strands) (woven false made strands)
  mine_leads_back strands =
      let parts = map (mine_part made) strands in
      subst (λ t. Splices (hunks_back parts) t (woven false made strands)) (before_of-turned parts ∙ parts_after (mine_part made) (woven_one true made) mine_new strands)
      (subst (Splices (hunks_back parts) (before_of (map turned parts))) (after_of-turned parts ∙ parts_before (mine_part made) (woven_one false made) mine_old strands)
      (hunks_splice (map turned parts)))

  later_leads : (strands : List Strand) → Splices (hunks_at 0 (map (later_part made) strands)) (woven made false strands) (woven made true strands)
  later_leads strands =
      let parts = map (later_part made) strands in
      subst (λ t. Splices (hunks_at 0 parts) t (woven made true strands)) (parts_before (later_part made) (woven_one made false) later_old strands)
      (subst (Splices (hunks_at 0 parts) (before_of parts)) (parts_after (later_part made) (woven_one made true) later_new strands) (hunks_splice parts))

-- ---- the texts that go and come

later_texts : (strands : List Strand) (m n : ℕ) → texts_of (hunks_at m (map (later_part false) strands)) ≡ texts_of (hunks_at n (map (later_part true) strands))
later_texts [] m n = refl
later_texts (same t ∷ strands) m n = later_texts strands (m + length t) (n + length t)
later_texts (mine old new ∷ strands) m n = later_texts strands (m + length old) (n + length new)
later_texts (later old new ∷ strands) m n = ap (turns old new ∷◌) (later_texts strands (m + length old) (n + length old))

mine_texts : (strands : List Strand) (m n : ℕ) → texts_of (hunks_at m (map (mine_part true) strands)) ≡ texts_of (hunks_at n (map (mine_part false) strands))
mine_texts [] m n = refl
mine_texts (same t ∷ strands) m n = mine_texts strands (m + length t) (n + length t)
mine_texts (mine old new ∷ strands) m n = ap (turns old new ∷◌) (mine_texts strands (m + length old) (n + length old))
mine_texts (later old new ∷ strands) m n = mine_texts strands (m + length new) (n + length old)

turned_texts : (parts : List Stretch) (m n : ℕ) → texts_of (hunks_at m parts) ≡ map turned (texts_of (hunks_at n (map turned parts)))
turned_texts [] m n = refl
turned_texts (stays t ∷ parts) m n = turned_texts parts (m + length t) (n + length t)
turned_texts (turns old new ∷ parts) m n = ap (turns old new ∷◌) (turned_texts parts (m + length old) (n + length new))

-- ---- there is one way

-- hunks that are told apart
pub woven_is_found : (backs others : List Hunk) (between : List ℕ) (strands : List Strand) → AreSpaced 0 others → AreWoven backs others between strands
    → stand backs others 0 0 ≡ Some (standing_at 0 strands)
woven_is_found backs others between strands far woven =
    let settled : AreSettled (backs_at 0 strands) (others_at 0 strands) =
    subst (λ hs. AreSettled hs (others_at 0 strands)) (sym woven.mine_is) (subst (AreSettled backs) (sym woven.later_is) woven.settled) in
    ap₂ (λ x y. stand x y 0 0) (sym woven.mine_is) (sym woven.later_is)
    ∙ woven_stand strands 0 0 0 0 (omega arith) refl settled (subst (λ hs. hs) refl (spaced_some 0 (others_at 0 strands) (subst (AreSpaced 0) (sym woven.later_is) far)))

-- by the composition of the steps
pub change_by : (steps : List EditStep) (before after : List ℕ) (parts : List Stretch) → IsChangeBy steps before after parts → IsChange (patch_by steps) before after parts
change_by steps before after parts is = subst (λ patch. IsChange patch before after parts) is.composed is.change

pub by_change : (steps : List EditStep) (before after : List ℕ) (parts : List Stretch) → IsChange (patch_by steps) before after parts → IsChangeBy steps before after parts
by_change steps before after parts is = record { patch = patch_by steps; composed = refl; change = is }

module _ (steps : List EditStep) (before after : List ℕ) (later_steps : List EditStep) (here : List ℕ) where
  abbrev change : List Hunk
  change = patch_by steps

  abbrev after_hunks : List Hunk
  after_hunks = patch_by later_steps

  pub reverts_stand : (hunks : List Hunk) → (reverts : Reverts steps before after later_steps here hunks)
      → stand (hunks_back reverts.parts) (hunks_at 0 reverts.others) 0 0 ≡ Some (standing_at 0 reverts.strands)
  reverts_stand hunks reverts =
      woven_is_found (hunks_back reverts.parts) (hunks_at 0 reverts.others) after reverts.strands
      (change_spaced after_hunks after here reverts.others (change_by later_steps after here reverts.others reverts.later_is)) reverts.woven

  -- it is told by any parts of whole lines, since there are no others
  pub reverts_found : (hunks : List Hunk) (parts others : List Stretch) → IsChange change before after parts → IsChange after_hunks after here others
      → (reverts : Reverts steps before after later_steps here hunks) → stand (hunks_back parts) (hunks_at 0 others) 0 0 ≡ Some (standing_at 0 reverts.strands)
  reverts_found hunks parts others change_is later_is reverts =
      ap₂ (λ x y. stand (hunks_back x) (hunks_at 0 y) 0 0) (one_change change before after parts reverts.parts change_is (change_by steps before after reverts.parts reverts.change_is))
      (one_change after_hunks after here others reverts.others later_is (change_by later_steps after here reverts.others reverts.later_is))
      ∙ reverts_stand hunks reverts

  pub one_revert_of : (one other : List Hunk) → Reverts steps before after later_steps here one → Reverts steps before after later_steps here other → one ≡ other
  one_revert_of one other reverts also =
      let first = reverts_stand one reverts in
      let second = reverts_found other reverts.parts reverts.others (change_by steps before after reverts.parts reverts.change_is)
      (change_by later_steps after here reverts.others reverts.later_is) also in
      let found : Some (standing_at 0 reverts.strands) ≡ Some (standing_at 0 also.strands) = sym first ∙ second in
      let same : standing_at 0 reverts.strands ≡ standing_at 0 also.strands = cc in
      reverts.is ∙ ap as_patch same ∙ sym also.is

  -- ---- the text without the change

  module _ (parts others : List Stretch) (change_is : IsChange change before after parts) (later_is : IsChange after_hunks after here others) (strands : List Strand)
      (are : AreWoven (hunks_back parts) (hunks_at 0 others) after strands) where
    pub here_is : woven true true strands ≡ here
    here_is =
        leads_to_one_text.forward (hunks_at 0 others) after (woven true true strands) here
        (subst (λ hs. Splices hs after (woven true true strands)) are.later_is
        (subst (λ t. Splices (others_at 0 strands) t (woven true true strands)) are.text (later_leads true strands)))
        (change_leads after_hunks after here others later_is)

    pub before_is : woven false false strands ≡ before
    before_is =
        leads_to_one_text.forward (hunks_back parts) after (woven false false strands) before
        (subst (λ hs. Splices hs after (woven false false strands)) are.mine_is
        (subst (λ t. Splices (backs_at 0 strands) t (woven false false strands)) are.text (mine_leads_back false strands)))
        (back_leads change before after parts change_is)

    pub standing_leads : Splices (standing_at 0 strands) here (woven false true strands)
    standing_leads = subst (λ t. Splices (standing_at 0 strands) t (woven false true strands)) here_is (mine_leads_back true strands)

    pub is_without : IsWithout (hunks_at 0 parts) (hunks_at 0 others) before (woven false true strands) here
    is_without = record {
      later_ones = hunks_at 0 (map (later_part false) strands);
      same_later = later_texts strands 0 0 ∙ ap texts_of are.later_is;
      later_lead = subst (λ t. Splices (hunks_at 0 (map (later_part false) strands)) t (woven false true strands)) before_is (later_leads false strands);
      mine = hunks_at 0 (map (mine_part true) strands);
      same_mine = mine_texts strands 0 0 ∙ turned_texts (map (mine_part false) strands) 0 0 ∙ ap (λ hs. map turned (texts_of hs)) are.mine_is ∙ sym (turned_texts parts 0 0);
      mine_leads = subst (Splices (hunks_at 0 (map (mine_part true) strands)) (woven false true strands)) here_is (mine_leads true strands);
    }

pub one_revert : OneRevert
one_revert steps before after later_steps here one other reverts also = one_revert_of steps before after later_steps here one other reverts also

pub reverts_leave_the_rest : RevertsLeaveTheRest
reverts_leave_the_rest steps before after later_steps here hunks reverts =
    let strands = reverts.strands in
    let change_is = change_by steps before after reverts.parts reverts.change_is in
    let later_is = change_by later_steps after here reverts.others reverts.later_is in
    let leads = standing_leads steps before after later_steps here reverts.parts reverts.others change_is later_is strands reverts.woven in
    record {
      left = woven false true strands;
      leads = subst (λ hs. Splices hs here (woven false true strands)) (sym reverts.is) (as_patch_leads (standing_at 0 strands) here (woven false true strands) leads);
      is_patch = rw reverts.is (as_patch_is (standing_at 0 strands));
      without = is_without steps before after later_steps here reverts.parts reverts.others change_is later_is strands reverts.woven;
    }

-- ---- what is found

module _ (steps : List EditStep) (before after : List ℕ) (later_steps : List EditStep) (here : List ℕ) (leads : Splices (patch_by steps) before after)
    (later_lead : Splices (patch_by later_steps) after here) where
  abbrev pub parts_of : List Stretch
  parts_of = whole_lines (cut_from 0 (patch_by steps) before)

  abbrev pub others_of : List Stretch
  others_of = whole_lines (cut_from 0 (patch_by later_steps) after)

  pub parts_are : IsChange (patch_by steps) before after parts_of
  parts_are = is_change (patch_by steps) before after leads

  pub others_are : IsChange (patch_by later_steps) after here others_of
  others_are = is_change (patch_by later_steps) after here later_lead

  pub found_woven : (found : List Hunk) → stand (hunks_back parts_of) (hunks_at 0 others_of) 0 0 ≡ Some found → IsWoven 0 0 (hunks_back parts_of) (hunks_at 0 others_of) after found
  found_woven found is =
      stand_woven (hunks_back parts_of) (hunks_at 0 others_of) 0 0 0 0 after before here (omega arith) refl (back_leads (patch_by steps) before after parts_of parts_are)
      (change_leads (patch_by later_steps) after here others_of others_are) found is

  pub strands_woven : (found : List Hunk) → stand (hunks_back parts_of) (hunks_at 0 others_of) 0 0 ≡ Some found → (w : IsWoven 0 0 (hunks_back parts_of) (hunks_at 0 others_of) after found)
      → AreWoven (hunks_back parts_of) (hunks_at 0 others_of) after w.strands
  strands_woven found is w = record {
    mine_is = w.mine_is;
    later_is = w.later_is;
    text = w.text_is;
    settled = stand_settled (hunks_back parts_of) 0 (back_spaced (patch_by steps) before after parts_of parts_are) (hunks_at 0 others_of) 0 0 0
        (change_spaced (patch_by later_steps) after here others_of others_are) found is;
  }

  -- the strands that are found
  abbrev pub found_strands : (found : List Hunk) → (is : stand (hunks_back parts_of) (hunks_at 0 others_of) 0 0 ≡ Some found) → List Strand
  found_strands found is = (found_woven found is).strands

  pub found_leads : (found : List Hunk) → stand (hunks_back parts_of) (hunks_at 0 others_of) 0 0 ≡ Some found → (left : List ℕ) × Splices found here left
  found_leads found is =
      let w = found_woven found is in (
        woven false true w.strands,
        subst (λ hs. Splices hs here (woven false true w.strands)) w.found_is
            (standing_leads steps before after later_steps here parts_of others_of parts_are others_are w.strands (strands_woven found is w)),
      )

  pub found_reverts : (found hunks : List Hunk) (is : stand (hunks_back parts_of) (hunks_at 0 others_of) 0 0 ≡ Some found) → hunks ≡ as_patch found
      → (hunks ≢ [] → KeepsPlaces steps later_steps parts_of others_of (ahead_in (found_strands found is)) (back_in (found_strands found is))) → Reverts steps before after later_steps here hunks
  found_reverts found hunks is hunks_is places =
      let w = found_woven found is in
      record {
        parts = parts_of;
        change_is = by_change steps before after parts_of parts_are;
        others = others_of;
        later_is = by_change later_steps after here others_of others_are;
        strands = w.strands;
        woven = strands_woven found is w;
        is = hunks_is ∙ ap as_patch (sym w.found_is);
        places = places;
      }

  pub none_reverts : stand (hunks_back parts_of) (hunks_at 0 others_of) 0 0 ≡ None → NothingReverts steps before after later_steps here
  none_reverts is = λ hunks reverts.
      let found : None ≡ Some (standing_at 0 reverts.strands) = sym is ∙ reverts_found steps before after later_steps here hunks parts_of others_of parts_are others_are reverts in cc

  -- hunks that take it back are these, by strands that tell both changes apart
  pub other_reverts : (found hunks other : List Hunk) → stand (hunks_back parts_of) (hunks_at 0 others_of) 0 0 ≡ Some found → hunks ≡ as_patch found
      → (reverts : Reverts steps before after later_steps here other)
      → (other ≡ hunks) × (standing_at 0 reverts.strands ≡ found)
  other_reverts found hunks other is hunks_is reverts =
      let both : Some found ≡ Some (standing_at 0 reverts.strands) = sym is ∙ reverts_found steps before after later_steps here other parts_of others_of parts_are others_are reverts in
      let same : found ≡ standing_at 0 reverts.strands = cc in
      (reverts.is ∙ ap as_patch (sym same) ∙ sym hunks_is, sym same)
