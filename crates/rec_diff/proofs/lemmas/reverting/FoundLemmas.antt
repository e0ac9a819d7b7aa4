-- What the code finds of the turns of an edit and of later ones.
use Rattle.std.proofs.Common.{◌≡◌, ◌∙◌, ℕ, ◌<◌, ◌^◌, List, [], ◌∷◌, ◌++◌, length, map, Some, None, Result, Ok, Err, IfOk, refl, sym, ap, ap₂, subst, arith}
use Rattle.rec_journal.specs.declared.event.EditStep.{EditStep}
use Rattle.rec_journal.specs.declared.patch.Hunk.{Hunk}
use Rattle.rec_journal.specs.Patch.{Splices}
use Rattle.rec_journal.specs.Revisions.{LeadsBy}
use Rattle.rec_diff.specs.declared.turn.Place.{Place}
use Rattle.rec_diff.specs.declared.turn.Turn.{Turn}
use Rattle.rec_diff.specs.declared.reverting.standing.Back.{Back}
use Rattle.rec_diff.specs.Changes.{Stretch, after_of, before_of, cut_from, hunks_at}
use Rattle.rec_diff.specs.Composing.{ComposesAll, patches_of}
use Rattle.rec_diff.specs.Keeping.{IsChangeBy, IsCutBy}
use Rattle.rec_diff.specs.Making.{AreAlike}
use Rattle.rec_diff.specs.Strands.{hunks_back}
use Rattle.rec_diff.specs.Reverts.{NothingReverts, as_patch}
use Rattle.rec_diff.specs.WholeLines.{IsChange, whole_lines}
use Rattle.rec_diff.specs.proving.Moving.{AreTurnable, turns_after}
use Rattle.rec_diff.specs.proving.Reading.{AreTurnsOf}
use Rattle.rec_diff.specs.proving.Weaving.{AreInStep, AreTurnsBy, at_start, back_hunk, patch_by, stand, turns_stand}
use Rattle.rec_diff.proofs.lemmas.CutLemmas.{CutLeads, cut_leads, is_change, one_change}
use Rattle.rec_diff.proofs.lemmas.composing.LeadingLemmas.{composes_splices}
use Rattle.rec_diff.proofs.lemmas.reverting.MovingLemmas.{are_turns, turnable_hunks, turns_of_hunks}
use Rattle.rec_diff.proofs.lemmas.reverting.PatchLemmas.{as_patch_leads}
use Rattle.rec_diff.proofs.lemmas.reverting.RevertLemmas.{by_change, change_by, change_from, change_to, found_leads, none_reverts, others_are}
use Rattle.rec_diff.proofs.lemmas.reverting.StandingLemmas.{hunks_back_are, hunks_on_are, others_in_step, stand_is}

-- ---- the parts of turns

module _ {steps : List EditStep} {before after : List ℕ} {turns : List Turn} (own : AreTurnsBy steps before after turns) where
  abbrev pub found_parts : List Stretch
  found_parts = whole_lines (cut_from 0 (patch_by steps) before)

  is_found : IsChange (patch_by steps) before after found_parts
  is_found = is_change (patch_by steps) before after own.leads

  pub found_change : IsChangeBy steps before after found_parts
  found_change = by_change steps before after found_parts is_found

  pub found_turns : AreTurnsOf found_parts before after turns
  found_turns =
      let from = change_from (patch_by steps) before after found_parts is_found in
      let to = change_to (patch_by steps) before after found_parts is_found in
      record {
        from = from;
        to = to;
        hunks = sym (hunks_on_are before after turns found_parts own.order own.are);
        order = own.order;
        in_step = others_in_step before after (record { old = length before; new = length after }) turns found_parts own.order own.are refl refl from to;
      }

-- there are no others
pub one_change_by : (steps : List EditStep) (before after : List ℕ) (parts others : List Stretch) → IsChangeBy steps before after parts → IsChangeBy steps before after others → parts ≡ others
one_change_by steps before after parts others one other =
    one_change (patch_by steps) before after parts others (change_by steps before after parts one) (change_by steps before after others other)

-- those by bytes
pub cuts_alike : (steps : List EditStep) (before after : List ℕ) (parts others : List Stretch) → IsCutBy steps before after parts → IsCutBy steps before after others → AreAlike parts others
cuts_alike steps before after parts others one other = record {
  turns = one.by_patch ∙ one.composed ∙ sym other.composed ∙ sym other.by_patch;
  text = one.from ∙ sym other.from;
}

module _ (steps : List EditStep) (hunks : List Hunk) (before after : List ℕ) (lead : LeadsBy steps before after) (composed : ComposesAll (patches_of steps) hunks) where
  abbrev cut_parts : List Stretch
  cut_parts = cut_from 0 hunks before

  cut_is : CutLeads 0 hunks before after
  cut_is = cut_leads 0 hunks before after (composes_splices steps hunks before after lead composed)

  pub cuts_turnable : length before < 2 ^ 64 → length after < 2 ^ 64 → AreTurnable at_start hunks
  cuts_turnable old new =
      let e : length (before_of cut_parts) ≡ length before = ap length cut_is.from in
      let f : length (after_of cut_parts) ≡ length after = ap length cut_is.to in
      turnable_hunks cut_parts hunks cut_is.hunks (omega (arith, old, e)) (omega (arith, new, f))

  pub cuts_found : (ts : List Turn) → ts ≡ turns_after at_start hunks → (parts : List Stretch) × IsCutBy steps before after parts × AreTurnsOf parts before after ts
  cuts_found ts is = (
    cut_parts,
    record { patch = hunks; composed = composed; by_patch = cut_is.hunks; from = cut_is.from; to = cut_is.to },
    are_turns cut_parts before after ts cut_is.from cut_is.to (is ∙ turns_of_hunks cut_parts hunks cut_is.hunks),
  )

-- what both facts of an answer come to
pub if_ok_both : {X E : Type 0} (P Q R : X → Type 0) → ((x : X) → P x → Q x → R x) → (result : Result X E) → IfOk result P → IfOk result Q → IfOk result R
if_ok_both P Q R each (Ok x) one other = each x one other
if_ok_both P Q R each (Err error) one other = tt

-- one after the other
pub lead_both : (steps others : List EditStep) (before after here : List ℕ) → LeadsBy steps before after → LeadsBy others after here → LeadsBy (steps ++ others) before here
lead_both [] others before after here same lead = subst (λ t. LeadsBy others t here) (sym same) lead
lead_both (step ∷ steps) others before after here (between, first, rest) lead = (between, first, lead_both steps others between after here rest lead)

-- ---- what is found of both

module _ {steps : List EditStep} {before after : List ℕ} {later_steps : List EditStep} {here : List ℕ} {turns others : List Turn} (own : AreTurnsBy steps before after turns)
    (later : AreTurnsBy later_steps after here others) where
  abbrev last : Place
  last = record { old = length after; new = length here }

  pub in_step : AreInStep last at_start others
  in_step =
      let is = others_are steps before after later_steps here own.leads later.leads in
      let parts = whole_lines (cut_from 0 (patch_by later_steps) after) in
      others_in_step after here last others parts later.order later.are refl refl (change_from (patch_by later_steps) after here parts is)
      (change_to (patch_by later_steps) after here parts is)

  stands : turns_stand before after turns others at_start
      ≡ stand (hunks_back (whole_lines (cut_from 0 (patch_by steps) before))) (hunks_at 0 (whole_lines (cut_from 0 (patch_by later_steps) after))) 0 0
  stands =
      stand_is before after here turns 0 0 last others at_start 0 0 own.order later.order in_step
      ∙ ap₂ (λ x y. stand x y 0 0) (hunks_back_are before after turns (whole_lines (cut_from 0 (patch_by steps) before)) own.order own.are)
      (hunks_on_are after here others (whole_lines (cut_from 0 (patch_by later_steps) after)) later.order later.are)

  pub nothing_stands : turns_stand before after turns others at_start ≡ None → NothingReverts steps before after later_steps here
  nothing_stands none = none_reverts steps before after later_steps here own.leads later.leads (sym stands ∙ none)

  module _ (backs : List Back) (is : turns_stand before after turns others at_start ≡ Some (map back_hunk backs)) where
    pub all_stand : stand (hunks_back (whole_lines (cut_from 0 (patch_by steps) before))) (hunks_at 0 (whole_lines (cut_from 0 (patch_by later_steps) after))) 0 0
        ≡ Some (map back_hunk backs)
    all_stand = sym stands ∙ is

    pub backs_lead : (left : List ℕ) × Splices (map back_hunk backs) here left
    backs_lead = found_leads steps before after later_steps here own.leads later.leads (map back_hunk backs) all_stand

    pub patch_leads : (left : List ℕ) × Splices (as_patch (map back_hunk backs)) here left
    patch_leads = (backs_lead.0, as_patch_leads (map back_hunk backs) here backs_lead.0 backs_lead.1)
