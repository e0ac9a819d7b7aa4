-- From each text of a state there is a way to the end of the history.
use Rattle.std.proofs.Common.{◌≡◌, ◌⊎◌, inl, inr, ℕ, Bool, true, false, Option, Some, None, List, [], ◌∷◌, ◌++◌, Ok, Err, reverse, take, refl, sym, ap, subst, ◌∙◌, if◌then◌else◌}
use Rattle.std.specs.Prelude.{option_map}
use Rattle.std.specs.Option.{option_or, unwrap_or}
use Rattle.std.specs.Str.{bytes_eq}
use Rattle.std.proofs.lemmas.Bool.{cases_Bool}
use Rattle.std.proofs.lemmas.List.{reverse-append}
use Rattle.std.proofs.lemmas.Slice.Eq.{bytes_eq-Decides}
use Rattle.rec_text.proofs.lemmas.FaultLemmas.{no_both, same_value}
use Rattle.rec_journal.specs.declared.event.Revision.{Revision}
use Rattle.rec_journal.specs.declared.patch.Direction.{Direction}
use Rattle.rec_journal.specs.declared.patch.Direction.TheVariants.{Forward, Backward}
use Rattle.rec_journal.specs.Direction.{that_way, Along}
use Rattle.rec_journal.specs.EditTexts.{LeadOver}
use Rattle.rec_journal.specs.Ending.{digest_of, EndsWith, Reach, as_far_as, reach_from, reach_apart, reach_of, IsEnd}
use Rattle.rec_journal.specs.History.{Opened}
use Rattle.rec_journal.specs.Revisions.{LeadsBy, digest_there}
use Rattle.rec_journal.proofs.lemmas.histories.Countings.{Opens-digest, bytes_apart}
use Rattle.rec_journal.proofs.lemmas.histories.Openings.{one_opening}
use Rattle.rec_journal.proofs.lemmas.patches.StepLemmas.{Leads-steps, Leads-there}
use Rattle.rec_journal.proofs.lemmas.texts.OverLemmas.{LeadOver-append}
use Rattle.rec_journal.proofs.lemmas.texts.ReachLemmas.{same_is_end, found_or_refused}
use Rattle.rec_tools.specs.Stands.{AreEntries}
use Rattle.rec_tools.specs.States.{Entry, State}
use Rattle.rec_tools.specs.Laws.{Collide, HasText, IsTextIn, AnyTextWillDo}
use Rattle.rec_tools.proofs.lemmas.machine.StandsLemmas.{stands_by}
use Rattle.rec_tools.proofs.lemmas.runs.AdoptedLemmas.{same_history}

-- ---- edits that way, and back

abbrev back : Direction → Direction
back direction = that_way direction Forward Backward

flip : (direction : Direction) (R : List ℕ → List ℕ → Type 0) (here there : List ℕ) → Along direction R here there → Along (back direction) R there here
flip Backward R here there h = h
flip Forward R here there h = h

some_or_none : {A : Type 0} (o : Option A) → (o ≡ None) ⊎ ((x : A) × (o ≡ Some x))
some_or_none None = inl refl
some_or_none (Some x) = inr (x, refl)

-- a text of this digest, from which the edits lead here
record IsFrom (direction : Direction) (far : List Revision) (d here : List ℕ) : Type 0 where
  text : List ℕ
  digest : digest_of text ≡ d
  leads : LeadOver (back direction) (reverse far) text here

at_first : (direction : Direction) (d : List ℕ) (e : Revision) (es : List Revision) (b : Bool) → bytes_eq (digest_there direction e) d ≡ b
    → as_far_as direction d (e ∷ es) ≡ (if b then Some (e ∷ []) else option_map (λ (others : List Revision). e ∷ others) (as_far_as direction d es))
at_first direction d e es b is = ap (λ (x : Bool). if x then Some (e ∷ []) else option_map (λ (others : List Revision). e ∷ others) (as_far_as direction d es)) is

no_far : (far : List Revision) → None ≡ Some far → ⊥
no_far far e = cc

from_far : (direction : Direction) (d : List ℕ) (es : List Revision) (entries : List Entry) (here : List ℕ) (far : List Revision) → AreEntries direction es entries here
    → as_far_as direction d es ≡ Some far → IsFrom direction far d here
from_far direction d [] entries here far are is = absurd (no_far far is)
from_far direction d (e ∷ es) [] here far are is = absurd are
from_far direction d (e ∷ es) (entry ∷ entries) here far are is =
    let step : Along (back direction) (LeadsBy e.steps) entry.text here = flip direction (LeadsBy e.steps) here entry.text (Leads-steps direction e here entry.text are.3) in
    elim (cases_Bool (bytes_eq (digest_there direction e) d)) [
      | inl same ↦ (
          let both : Some (e ∷ []) ≡ Some far = sym (at_first direction d e es true same) ∙ is in
          let far_is : e ∷ [] ≡ far = cc in
          record {
            text = entry.text;
            digest = Leads-there direction e here entry.text are.3 ∙ (bytes_eq-Decides (digest_there direction e) d).0 same;
            leads = subst (λ (l : List Revision). LeadOver (back direction) (reverse l) entry.text here) far_is (here, step, refl);
          }
          )
      | inr apart ↦ elim (some_or_none (as_far_as direction d es)) [
        | inl none ↦ absurd (no_far far (sym (at_first direction d e es false apart ∙ ap (option_map (λ (others : List Revision). e ∷ others)) none) ∙ is))
        | inr w ↦ (
            let both : Some (e ∷ w.0) ≡ Some far = sym (at_first direction d e es false apart ∙ ap (option_map (λ (others : List Revision). e ∷ others)) w.1) ∙ is in
            let far_is : e ∷ w.0 ≡ far = cc in
            let found = from_far direction d es entries entry.text w.0 are.4 w.1 in
            let joined : LeadOver (back direction) (reverse w.0 ++ e ∷ []) found.text here =
            LeadOver-append (back direction) (reverse w.0) (e ∷ []) found.text entry.text here found.leads (here, step, refl) in
            record {
              text = found.text;
              digest = found.digest;
              leads = subst (λ (l : List Revision). LeadOver (back direction) (reverse l) found.text here) far_is
                  (subst (λ (l : List Revision). LeadOver (back direction) l found.text here) (sym (reverse-append (e ∷ []) w.0)) joined);
            }
            )
      ]
    ]

-- a text that is there is found
is_there : (direction : Direction) (es : List Revision) (entries : List Entry) (here text : List ℕ) → AreEntries direction es entries here → HasText entries text
    → as_far_as direction (digest_of text) es ≡ None → ⊥
is_there direction [] [] here text are has none = has
is_there direction [] (entry ∷ entries) here text are has none = are
is_there direction (e ∷ es) [] here text are has none = are
is_there direction (e ∷ es) (entry ∷ entries) here text are has none =
    elim (cases_Bool (bytes_eq (digest_there direction e) (digest_of text))) [
      | inl same ↦ no_far (e ∷ []) (sym none ∙ at_first direction (digest_of text) e es true same)
      | inr apart ↦ elim has [
        | inl first ↦ bytes_apart (digest_there direction e) (digest_of text) apart (sym (Leads-there direction e here entry.text are.3) ∙ ap digest_of first)
        | inr later ↦ elim (some_or_none (as_far_as direction (digest_of text) es)) [
          | inl gone ↦ is_there direction es entries entry.text text are.4 later gone
          | inr w ↦ no_far (e ∷ w.0) (sym none ∙ at_first direction (digest_of text) e es false apart ∙ ap (option_map (λ (others : List Revision). e ∷ others)) w.1)
        ]
      ]
    ]

-- ---- the end

module _ (o : Opened) (s : State) (here : List ℕ) (digest : digest_of here ≡ o.digest) (past : AreEntries Backward o.past s.past here)
    (future : AreEntries Forward o.future s.future here) (text : List ℕ) where
  abbrev EndOrCollide : Type 0
  EndOrCollide = Collide ⊎ ((end : List ℕ) × IsEnd o text (Ok end))

  by_way : (direction : Direction) (far : List Revision) → IsFrom direction far (digest_of text) here
      → reach_of o (digest_of text) ≡ Some (record { direction = back direction; edits = reverse far }) → EndOrCollide
  by_way direction far found reach =
      elim (cases_Bool (bytes_eq found.text text)) [
        | inl same ↦ (
            let is : found.text ≡ text = (bytes_eq-Decides found.text text).0 same in
            inr (
              here,
              (
                record { direction = back direction; edits = reverse far },
                reach,
                subst (λ (t : List ℕ). LeadOver (back direction) (reverse far) t here) is found.leads,
                digest,
              ),
            )
            )
        | inr apart ↦ inl (found.text, text, bytes_apart found.text text apart, found.digest)
      ]

  abbrev reach_over : Direction → List Revision → Reach
  reach_over direction far = record { direction = back direction; edits = reverse far }

  module _ (apart : bytes_eq o.digest (digest_of text) ≡ false) where
    reach_is : reach_of o (digest_of text) ≡ reach_apart o (digest_of text)
    reach_is = ap (λ (b : Bool). if b then Some (record { direction = Forward; edits = [] }) else reach_apart o (digest_of text)) apart

    go_forward : IsTextIn s text → digest_of here ≡ digest_of s.present → as_far_as Backward (digest_of text) o.past ≡ None → EndOrCollide
    go_forward is present none =
        elim (some_or_none (as_far_as Forward (digest_of text) o.future)) [
          | inl gone ↦ absurd (elim is [
            | inl now ↦ bytes_apart o.digest (digest_of text) apart (sym digest ∙ present ∙ ap digest_of (sym now))
            | inr before_or_after ↦ elim before_or_after [
              | inl back_then ↦ is_there Backward o.past s.past here text past back_then none
              | inr later ↦ is_there Forward o.future s.future here text future later gone
            ]
          ])
          | inr w ↦ by_way Forward w.0 (from_far Forward (digest_of text) o.future s.future here w.0 future w.1)
              (reach_is ∙ ap (λ (x : Option (List Revision)). option_or (option_map (reach_over Backward) x) (reach_from Forward o (digest_of text))) none ∙ ap (option_map (reach_over Forward)) w.1)
        ]

    go_back : IsTextIn s text → digest_of here ≡ digest_of s.present → EndOrCollide
    go_back is present =
        elim (some_or_none (as_far_as Backward (digest_of text) o.past)) [
          | inl none ↦ go_forward is present none
          | inr w ↦ by_way Backward w.0 (from_far Backward (digest_of text) o.past s.past here w.0 past w.1)
              (reach_is ∙ ap (λ (x : Option (List Revision)). option_or (option_map (reach_over Backward) x) (reach_from Forward o (digest_of text))) w.1)
        ]

  pub end_or_collide : IsTextIn s text → digest_of here ≡ digest_of s.present → EndOrCollide
  end_or_collide is present =
      elim (cases_Bool (bytes_eq o.digest (digest_of text))) [
        | inl same ↦ inr (text, same_is_end o text text same refl)
        | inr apart ↦ go_back apart is present
      ]

pub any_text_will_do : AnyTextWillDo
any_text_will_do c s o p changed old fault stands outside is (inl (refusal, refused, e)) = absurd (no_both p refusal (one_opening changed c.journal (Ok p) (Err refusal) outside.opens_changed refused))
any_text_will_do c s o p changed old fault stands outside is (inr (q, opened, (drifted, (h, ends, none)))) =
    let same : q ≡ p = same_value q p (one_opening changed c.journal (Ok q) (Ok p) opened outside.opens_changed) in
    let history : h ≡ o = same_history c s o p changed stands outside h (subst (λ (x : Opened). EndsWith (take x.keep c.journal) h) same ends) in
    let by = stands_by c s o stands outside.opens in
    let refused : IsEnd o (unwrap_or old changed) (Err fault) = subst (λ (x : Opened). IsEnd x (unwrap_or old changed) (Err fault)) history none in
    elim (end_or_collide o s c.file (sym (Opens-digest c.file c.journal o outside.opens)) by.past by.future (unwrap_or old changed) is (ap digest_of (sym by.present))) [
      | inl collide ↦ collide
      | inr found ↦ absurd (found_or_refused o (unwrap_or old changed) found.0 fault found.1 refused)
    ]
