-- What another program changed stands as an edit, once it is adopted.
use Rattle.std.proofs.Common.{◌≡◌, ◌≢◌, ◌⊎◌, inl, inr, ℕ, ◌+◌, true, false, List, Ok, take, refl, sym, ap, subst, ◌∙◌}
use Rattle.std.specs.Str.{bytes_eq}
use Rattle.std.proofs.lemmas.Bool.{cases_Bool, false≢true}
use Rattle.std.proofs.lemmas.Slice.Eq.{bytes_eq-Decides}
use Rattle.rec_text.proofs.lemmas.FaultLemmas.{no_both, same_value}
use Rattle.rec_journal.specs.declared.ending.End.{End}
use Rattle.rec_journal.specs.declared.event.Revision.{Revision}
use Rattle.rec_journal.specs.declared.event.Tool.TheVariants.{Adopt as ByAdopt}
use Rattle.rec_journal.specs.declared.patch.Direction.TheVariants.{Backward}
use Rattle.rec_journal.specs.Ending.{digest_of, EndsWith}
use Rattle.rec_journal.specs.History.{Opened, Opens}
use Rattle.rec_journal.specs.Plans.{edit_to, after_edit_plan}
use Rattle.rec_journal.specs.Revisions.{Leads}
use Rattle.rec_journal.proofs.lemmas.histories.Countings.{Opens-digest, bytes_apart}
use Rattle.rec_journal.proofs.lemmas.histories.Openings.{one_opening}
use Rattle.rec_journal.proofs.lemmas.plans.EndingLemmas.{undrifted_is_end}
use Rattle.rec_tools.specs.Home.{Contents, written}
use Rattle.rec_tools.specs.Outcomes.{Outcome, Adopts}
use Rattle.rec_tools.specs.Writing.{edited_by_lines}
use Rattle.rec_tools.specs.Stands.{AreEntries, Stands}
use Rattle.rec_tools.specs.States.{State, state_after_edit}
use Rattle.rec_tools.specs.Laws.{Collide, IsChangedOutside, AdoptedIsAnEdit}
use Rattle.rec_tools.proofs.lemmas.machine.StandsLemmas.{StandsBy, stands_by}
use Rattle.rec_tools.proofs.lemmas.outcomes.OpeningLemmas.{edit_leads_back}

module _ (c : Contents) (s : State) (o p : Opened) (changed : List ℕ) (stands : Stands c s) (outside : IsChangedOutside c o changed p) where
  by : StandsBy o c s
  by = stands_by c s o stands outside.opens

  -- the history that counts is the one that stood
  pub same_history : (h : Opened) → EndsWith (take p.keep c.journal) h → h ≡ o
  same_history h ends = undrifted_is_end c.file c.journal o h outside.opens by.settled (subst (λ n. EndsWith (take n c.journal) h) outside.keep ends)

  -- with its end for the file
  module _ (h : Opened) (same : h ≡ o) (end : List ℕ) (is : end ≡ s.present) where
    past_stands : AreEntries Backward h.past s.past s.present
    past_stands =
        subst (λ (x : Opened). AreEntries Backward x.past s.past s.present) (sym same) (subst (λ t. AreEntries Backward o.past s.past t) (sym by.present) by.past)

  module _ (found : End) (outcome : Outcome) (ends : EndsWith (take p.keep c.journal) found.history) (adopts : Adopts p (record { file = changed; journal = c.journal }) found outcome) where
    same : found.history ≡ o
    same = same_history found.history ends

    -- the end that was found has the digest of the text that stood
    same_digest : digest_of found.text ≡ digest_of s.present
    same_digest = adopts.end ∙ ap (λ (x : Opened). x.digest) same ∙ Opens-digest c.file c.journal o outside.opens ∙ ap digest_of (sym by.present)

    stands_adopted : found.text ≡ s.present → Stands (written (record { file = changed; journal = c.journal }) outcome.writes)
        (state_after_edit s ByAdopt (edited_by_lines ByAdopt s.present changed).steps changed)
    stands_adopted is =
        let at_end : Contents = record { file = found.text; journal = take p.keep c.journal } in
        let made = edited_by_lines ByAdopt found.text changed in
        let edit : Revision = edit_to found.history ByAdopt changed made.steps in
        let back : Leads Backward edit changed found.text = edit_leads_back at_end found.history ByAdopt made adopts.plan (adopts.has_end.opens found.text adopts.end) adopts.planned in
        let left : Stands (record { file = changed; journal = adopts.plan.journal }) (state_after_edit s ByAdopt made.steps changed) = record {
          opened = after_edit_plan found.history (take p.keep c.journal) ByAdopt made.steps changed;
          opens = subst (λ t. Opens t adopts.plan.journal (after_edit_plan found.history (take p.keep c.journal) ByAdopt made.steps changed)) adopts.planned.planned.1 adopts.planned.safe.next;
          settled = refl;
          present = refl;
          past = (
            ap (λ (x : Opened). x.next) same ∙ sym by.next,
            refl,
            refl,
            subst (λ t. Leads Backward edit changed t) is back,
            past_stands found.history same found.text is,
          );
          future = tt;
          next = ap (λ n. n + 1) (by.next ∙ ap (λ (x : Opened). x.next) (sym same));
          made = ap (λ n. n + 1) (by.made ∙ ap (λ (x : Opened). x.made) (sym same));
        } in
        let so : Stands (record { file = changed; journal = adopts.plan.journal }) (state_after_edit s ByAdopt (edited_by_lines ByAdopt s.present changed).steps changed) =
        subst (λ t. Stands (record { file = changed; journal = adopts.plan.journal }) (state_after_edit s ByAdopt (edited_by_lines ByAdopt t changed).steps changed)) is left in
        subst (λ (x : Outcome). Stands (written (record { file = changed; journal = c.journal }) x.writes)
        (state_after_edit s ByAdopt (edited_by_lines ByAdopt s.present changed).steps changed)) (sym adopts.is) so

    adopted_or_collide : Collide ⊎ Stands (written (record { file = changed; journal = c.journal }) outcome.writes)
        (state_after_edit s ByAdopt (edited_by_lines ByAdopt s.present changed).steps changed)
    adopted_or_collide =
        elim (cases_Bool (bytes_eq found.text s.present)) [
          | inl alike ↦ inr (stands_adopted ((bytes_eq-Decides found.text s.present).0 alike))
          | inr apart ↦ inl (found.text, s.present, bytes_apart found.text s.present apart, same_digest)
        ]

pub adopted_is_an_edit : AdoptedIsAnEdit
adopted_is_an_edit c s o p changed old outcome stands outside (inl (fault, refused, e)) = absurd (no_both outcome fault e)
adopted_is_an_edit c s o p changed old outcome stands outside (inr (q, opened, inl (settled, e))) =
    let same : q ≡ p = same_value q p (one_opening changed c.journal (Ok q) (Ok p) opened outside.opens_changed) in
    absurd (false≢true (sym settled ∙ ap (λ (x : Opened). x.drifted) same ∙ outside.drifted))
adopted_is_an_edit c s o p changed old outcome stands outside (inr (q, opened, inr (drifted, (found, is, adopts)))) =
    let same : q ≡ p = same_value q p (one_opening changed c.journal (Ok q) (Ok p) opened outside.opens_changed) in
    adopted_or_collide c s o p changed stands outside found outcome (subst (λ (x : Opened). EndsWith (take x.keep c.journal) found.history) same is.0)
    (subst (λ (x : Opened). Adopts x (record { file = changed; journal = c.journal }) found outcome) same adopts)
