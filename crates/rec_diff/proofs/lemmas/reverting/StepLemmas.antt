-- What steps make of records, one after another.
use Rattle.std.proofs.Common.{◌≡◌, ◌∙◌, ◌⊎◌, ◌+◌, ◌<◌, ℕ, zero, suc, List, [], ◌∷◌, ◌++◌, length, get_or, map, take, drop, Option, Some, None, Result, Ok, slice_get, Any, Bor}
use Rattle.std.proofs.Common.{refl, sym, ap, subst, append_assoc, append-nil, take-append-drop}
use Rattle.std.proofs.lemmas.List.{drop_more, take_more}
use Rattle.std.proofs.lemmas.Option.{slice_get_within}
use Rattle.rec_journal.specs.declared.event.EditStep.{EditStep}
use Rattle.rec_journal.specs.declared.patch.Hunk.{Hunk}
use Rattle.rec_journal.specs.Patch.{Splices}
use Rattle.rec_journal.specs.Revisions.{LeadsBy, joined_steps, step_lists}
use Rattle.rec_journal.proofs.lemmas.patches.SplicingLemmas.{leads_to_one_text}
use Rattle.rec_diff.specs.declared.turn.Turn.{Turn}
use Rattle.rec_diff.specs.Changes.{Stretch, before_of, cut_from, hunks_at}
use Rattle.rec_diff.specs.Making.{IsInPlace, Makes, Shares, StepMakes, StepsMake}
use Rattle.rec_diff.specs.Placed.{IsPlaced, PlacedRecord, PlacedText}
use Rattle.rec_diff.specs.WholeLines.{IsChange, whole_lines}
use Rattle.rec_diff.specs.proving.Making.{AreMadeBySteps, MakeNothing, made_at}
use Rattle.rec_diff.specs.proving.Reading.{AreMade, AreTurnsOf, IsMadeOf}
use Rattle.rec_diff.proofs.lemmas.ChangeLemmas.{hunks_splice}
use Rattle.rec_diff.specs.proving.Turns.{AreIn, site_of, sites}
use Rattle.rec_diff.proofs.lemmas.CutLemmas.{is_change, one_change}
use Rattle.rec_diff.proofs.lemmas.reverting.ListLemmas.{all_from, at_first, is_at, one_at, one_first, zip_from}
use Rattle.rec_diff.proofs.lemmas.reverting.MakingLemmas.{Then, made_map, then_made}
use Rattle.rec_diff.proofs.lemmas.reverting.ReadingLemmas.{one_placed}
use Rattle.rec_diff.proofs.lemmas.reverting.RevertLemmas.{change_from, change_to}
use Rattle.rec_diff.proofs.lemmas.reverting.StandingLemmas.{hunks_on_are, others_in_step}

pub none_of : {X : Type 0} (o : Option X) → ((x : X) → o ≡ Some x → ⊥) → o ≡ None
none_of None other = refl
none_of (Some x) other = absurd (other x refl)

pub same_ok : {E : Type 0} (a b : List ℕ) → ◌≡◌ {A = Result (List ℕ) E} (Ok a) (Ok b) → a ≡ b
same_ok a b e = cc

-- ---- one step

pub change_splices : (patch_step : EditStep) (before after : List ℕ) (parts : List Stretch) → IsChange patch_step.patch before after parts → Splices patch_step.patch before after
change_splices step before after parts is =
    subst (λ h. Splices h before after) is.by_patch (subst (λ t. Splices (hunks_at 0 is.cut) t after) is.from (subst (Splices (hunks_at 0 is.cut) (before_of is.cut)) is.to (hunks_splice is.cut)))

pub step_splices : (step : EditStep) (before after : List ℕ) (one other : PlacedRecord) → StepMakes step before after one other → Splices step.patch before after
step_splices step before after one other makes = change_splices step before after makes.parts makes.change

-- a step makes what its change does
pub step_makes : (step : EditStep) (before after : List ℕ) (parts : List Stretch) (text next : PlacedText) (one other : PlacedRecord) → IsChange step.patch before after parts → IsPlaced before text
    → IsPlaced after next → StepMakes step before after one other → Makes parts text next one other
step_makes step before after parts text next one other change is is_too makes =
    let p = one_change step.patch before after makes.parts parts makes.change change in
    let t = one_placed before makes.old text makes.is_old is in
    let n = one_placed after makes.new next makes.is_new is_too in
    subst (λ x. Makes x text next one other) p (subst (λ x. Makes makes.parts x next one other) t (subst (λ x. Makes makes.parts makes.old x one other) n makes.makes))

pub one_step_makes : (step : EditStep) (before after : List ℕ) (one other another : PlacedRecord) → StepMakes step before after one other → StepMakes step before after one another → other ≡ another
one_step_makes step before after one other another makes makes_too =
    one_first (λ x. Shares makes.parts one x ⊎ IsInPlace makes.parts makes.old makes.new one x) makes.new.records other another makes.makes
    (step_makes step before after makes.parts makes.old makes.new one another makes.change makes.is_old makes.is_new makes_too)

pub step_makes_one : (step : EditStep) (before after : List ℕ) (next : PlacedText) (one other : PlacedRecord) → IsPlaced after next → StepMakes step before after one other
    → Any (◌≡◌ other) next.records
step_makes_one step before after next one other is makes =
    let (k, at) = at_first (λ x. Shares makes.parts one x ⊎ IsInPlace makes.parts makes.old makes.new one x) makes.new.records other makes.makes in
    subst (λ (x : PlacedText). Any (◌≡◌ other) x.records) (one_placed after makes.new next makes.is_new is) (is_at makes.new.records k other at)

-- the turns of a step are those of its change
pub step_turns : (hunks : List Hunk) (before after : List ℕ) (ts : List Turn) → Splices hunks before after → map (site_of before after) ts ≡ sites [] [] (whole_lines (cut_from 0 hunks before))
    → AreIn before after 0 0 ts → IsChange hunks before after (whole_lines (cut_from 0 hunks before)) × AreTurnsOf (whole_lines (cut_from 0 hunks before)) before after ts
step_turns hunks before after ts splices places order =
    let parts = whole_lines (cut_from 0 hunks before) in
    let is = is_change hunks before after splices in
    let from = change_from hunks before after parts is in
    let to = change_to hunks before after parts is in (
      is,
      record {
        from = from;
        to = to;
        hunks = sym (hunks_on_are before after ts parts order places);
        order = order;
        in_step = others_in_step before after (record { old = length before; new = length after }) ts parts order places refl refl from to;
      },
    )

pub all_of_step : (step : EditStep) (before after : List ℕ) (parts : List Stretch) (text next : PlacedText) (made : List (Option ℕ)) → IsChange step.patch before after parts → IsPlaced before text
    → IsPlaced after next → AreMade (Makes parts text next) text next made → AreMade (StepMakes step before after) text next made
all_of_step step before after parts text next made change is is_too all =
    made_map (Makes parts text next) (StepMakes step before after)
    (λ a b makes. record { parts = parts; change = change; old = text; is_old = is; new = next; is_new = is_too; makes = makes })
    (λ a b makes. step_makes step before after parts text next a b change is is_too makes) text next made all

-- ---- steps

pub steps_lead : (steps : List EditStep) (before after : List ℕ) (one other : PlacedRecord) → StepsMake steps before after one other → LeadsBy steps before after
steps_lead [] before after one other (same, is) = same
steps_lead (step ∷ steps) before after one other (between, next, makes, rest) = (between, step_splices step before between one next makes, steps_lead steps between after next other rest)

pub one_end : (steps : List EditStep) (before after other : List ℕ) → LeadsBy steps before after → LeadsBy steps before other → after ≡ other
one_end [] before after other leads leads_too = sym leads ∙ leads_too
one_end (step ∷ steps) before after other (between, splices, rest) (between_too, splices_too, rest_too) =
    let same = leads_to_one_text.forward step.patch before between between_too splices splices_too in
    one_end steps between_too after other (subst (λ t. LeadsBy steps t after) same rest) rest_too

pub leads_join : (first last : List EditStep) (before between after : List ℕ) → LeadsBy first before between → LeadsBy last between after → LeadsBy (first ++ last) before after
leads_join [] last before between after leads rest = subst (λ t. LeadsBy last t after) (sym leads) rest
leads_join (step ∷ first) last before between after (next, splices, leads) rest = (next, splices, leads_join first last next between after leads rest)

pub steps_join : (first last : List EditStep) (before between after : List ℕ) (a b c : PlacedRecord) → StepsMake first before between a b → StepsMake last between after b c
    → StepsMake (first ++ last) before after a c
steps_join [] last before between after a b c (same, is) rest = subst (λ t. StepsMake last t after a c) (sym same) (subst (λ x. StepsMake last between after x c) (sym is) rest)
steps_join (step ∷ first) last before between after a b c (text, next, makes, more) rest = (text, next, makes, steps_join first last text between after next b c more rest)

pub steps_split : (first last : List EditStep) (before after : List ℕ) (a c : PlacedRecord) → StepsMake (first ++ last) before after a c
    → (between : List ℕ) × (b : PlacedRecord) × StepsMake first before between a b × StepsMake last between after b c
steps_split [] last before after a c makes = (before, a, (refl, refl), makes)
steps_split (step ∷ first) last before after a c (text, next, makes, rest) =
    let (between, b, more, others) = steps_split first last text after next c rest in (between, b, (text, next, makes, more), others)

pub one_steps_make : (steps : List EditStep) (before after : List ℕ) (one other another : PlacedRecord) → StepsMake steps before after one other → StepsMake steps before after one another
    → other ≡ another
one_steps_make [] before after one other another (same, is) (same_too, is_too) = sym is ∙ is_too
one_steps_make (step ∷ steps) before after one other another (text, next, makes, rest) (text_too, next_too, makes_too, rest_too) =
    let t = leads_to_one_text.forward step.patch before text text_too (step_splices step before text one next makes) (step_splices step before text_too one next_too makes_too) in
    let n = one_step_makes step before text_too one next next_too (subst (λ x. StepMakes step before x one next) t makes) makes_too in
    one_steps_make steps text_too after next_too other another (subst (λ x. StepsMake steps x after next_too other) t (subst (λ x. StepsMake steps text after x other) n rest)) rest_too

pub steps_make_one : (steps : List EditStep) (before after : List ℕ) (text next : PlacedText) (one other : PlacedRecord) → IsPlaced before text → Any (◌≡◌ one) text.records → IsPlaced after next
    → StepsMake steps before after one other → Any (◌≡◌ other) next.records
steps_make_one [] before after text next one other is there is_too (same, e) =
    let t = one_placed after text next (subst (λ x. IsPlaced x text) same is) is_too in
    subst (λ (x : PlacedText). Any (◌≡◌ other) x.records) t (subst (λ x. Any (◌≡◌ x) text.records) e there)
steps_make_one (step ∷ steps) before after text next one other is there is_too (between, middle, makes, rest) =
    steps_make_one steps between after makes.new next middle other makes.is_new (step_makes_one step before between makes.new one middle makes.is_new makes) is_too rest

pub leads_split : (first last : List EditStep) (before after : List ℕ) → LeadsBy (first ++ last) before after → (between : List ℕ) × LeadsBy first before between × LeadsBy last between after
leads_split [] last before after leads = (before, refl, leads)
leads_split (step ∷ first) last before after (text, splices, leads) = let (between, one, other) = leads_split first last text after leads in (between, (text, splices, one), other)

pub nothing_longer : (first last : List EditStep) (before : List ℕ) → MakeNothing first before → MakeNothing (first ++ last) before
nothing_longer first last before none = λ after a c makes. let (between, b, more, rest) = steps_split first last before after a c makes in none between a b more

-- ---- steps of a list

module _ (steps : List EditStep) (i : ℕ) (step : EditStep) (low : i < length steps) (is : step ≡ get_or steps i step) where
  pub steps_left : drop i steps ≡ step ∷ drop (i + 1) steps
  steps_left = drop_more steps i step low ∙ ap (λ x. x ∷ drop (i + 1) steps) (sym is)

  pub steps_so_far : take (i + 1) steps ≡ take i steps ++ step ∷ []
  steps_so_far = take_more steps i step low ∙ ap (λ x. take i steps ++ x ∷ []) (sym is)

  pub all_steps : (first : List EditStep) → (first ++ take i steps) ++ step ∷ drop (i + 1) steps ≡ first ++ steps
  all_steps first = append_assoc first (take i steps) (step ∷ drop (i + 1) steps) ∙ ap (first ++◌) (ap (take i steps ++◌) (sym steps_left) ∙ take-append-drop i steps)

  pub steps_more : (first : List EditStep) → (first ++ take i steps) ++ step ∷ [] ≡ first ++ take (i + 1) steps
  steps_more first = append_assoc first (take i steps) (step ∷ []) ∙ ap (first ++◌) (sym steps_so_far)

  pub left_leads : (text next : List ℕ) → Splices step.patch text next → (after : List ℕ) × LeadsBy (drop i steps) text after → (after : List ℕ) × LeadsBy (drop (i + 1) steps) next after
  left_leads text next splices (after, leads) =
      let (between, other, rest) = subst (λ s. LeadsBy s text after) steps_left leads in
      (after, subst (λ t. LeadsBy (drop (i + 1) steps) t after) (leads_to_one_text.forward step.patch text between next other splices) rest)

-- ---- of edits

module _ (edits : List (Bor (List EditStep))) (i : ℕ) (one : Bor (List EditStep)) (low : i < length edits) (is : one ≡ get_or edits i one) where
  pub edits_left : joined_steps (step_lists (drop i edits)) ≡ one.now ++ joined_steps (step_lists (drop (i + 1) edits))
  edits_left = ap (λ l. joined_steps (step_lists l)) (drop_more edits i one low ∙ ap (λ x. x ∷ drop (i + 1) edits) (sym is))

  joined_push : (before : List (Bor (List EditStep))) → joined_steps (step_lists (before ++ one ∷ [])) ≡ joined_steps (step_lists before) ++ one.now
  joined_push [] = append-nil one.now
  joined_push (x ∷ before) = ap (x.now ++◌) (joined_push before) ∙ sym (append_assoc x.now (joined_steps (step_lists before)) one.now)

  pub edits_so_far : joined_steps (step_lists (take (i + 1) edits)) ≡ joined_steps (step_lists (take i edits)) ++ one.now
  edits_so_far = ap (λ l. joined_steps (step_lists l)) (take_more edits i one low ∙ ap (λ x. take i edits ++ x ∷ []) (sym is)) ∙ joined_push (take i edits)

  joined_parts : (k : ℕ) (all : List (Bor (List EditStep))) → joined_steps (step_lists all) ≡ joined_steps (step_lists (take k all)) ++ joined_steps (step_lists (drop k all))
  joined_parts zero all = refl
  joined_parts (suc k) [] = refl
  joined_parts (suc k) (x ∷ all) = ap (x.now ++◌) (joined_parts k all) ∙ sym (append_assoc x.now (joined_steps (step_lists (take k all))) (joined_steps (step_lists (drop k all))))

  pub all_edits : joined_steps (step_lists edits) ≡ (joined_steps (step_lists (take i edits)) ++ one.now) ++ joined_steps (step_lists (drop (i + 1) edits))
  all_edits = joined_parts (i + 1) edits ∙ ap (λ s. s ++ joined_steps (step_lists (drop (i + 1) edits))) edits_so_far

  pub edit_leads : (here : List ℕ) → (after : List ℕ) × LeadsBy (joined_steps (step_lists (drop i edits))) here after → (after : List ℕ) × LeadsBy one.now here after
  edit_leads here (after, leads) = let (between, first, rest) = leads_split one.now (joined_steps (step_lists (drop (i + 1) edits))) here after (subst (λ s. LeadsBy s here after) edits_left leads) in
      (between, first)

  pub rest_leads : (here next : List ℕ) → LeadsBy one.now here next → (after : List ℕ) × LeadsBy (joined_steps (step_lists (drop i edits))) here after
      → (after : List ℕ) × LeadsBy (joined_steps (step_lists (drop (i + 1) edits))) next after
  rest_leads here next leads_here (after, leads) =
      let (between, first, rest) = leads_split one.now (joined_steps (step_lists (drop (i + 1) edits))) here after (subst (λ s. LeadsBy s here after) edits_left leads) in
      (after, subst (λ t. LeadsBy (joined_steps (step_lists (drop (i + 1) edits))) t after) (one_end one.now here between next first leads_here) rest)

-- ---- in a loop

module _ (first : List EditStep) (start : List ℕ) (step : EditStep) (text next : List ℕ) (leads : LeadsBy first start text) (splices : Splices step.patch text next) where
  -- what steps make that end in this one
  last_made : (after : List ℕ) (a c : PlacedRecord) (rest : List EditStep) → StepsMake (first ++ step ∷ rest) start after a c
      → (b d : PlacedRecord) × StepsMake first start text a b × StepMakes step text next b d × StepsMake rest next after d c
  last_made after a c rest makes =
      let (between, b, more, (end, d, makes_it, others)) = steps_split first (step ∷ rest) start after a c makes in
      let t : between ≡ text = one_end first start between text (steps_lead first start between a b more) leads in
      let it : StepMakes step text end b d = subst (λ x. StepMakes step x end b d) t makes_it in
      let e : end ≡ next = leads_to_one_text.forward step.patch text end next (step_splices step text end b d it) splices in
      (b, d, subst (λ x. StepsMake first start x a b) t more, subst (λ x. StepMakes step text x b d) e it, subst (λ x. StepsMake rest x after d c) e others)

  pub nothing_made : (rest : List EditStep) → ((one other : PlacedRecord) → StepMakes step text next one other → ⊥) → MakeNothing (first ++ step ∷ rest) start
  nothing_made rest none = λ after a c makes. let (b, d, more, it, others) = last_made after a c rest makes in none b d it

  pub one_more_made : (own old new : PlacedText) (made by_step : List (Option ℕ)) → IsPlaced start own → IsPlaced text old → IsPlaced next new → AreMadeBySteps first start own text made
      → AreMade (StepMakes step text next) old new by_step → AreMadeBySteps (first ++ step ∷ []) start own next (map (made_at by_step) made)
  one_more_made own old new made by_step is is_old is_new all it = λ q is_q.
      subst (λ x. AreMade (StepsMake (first ++ step ∷ []) start next) own x (map (made_at by_step) made)) (one_placed next new q is_new is_q)
      (made_map (Then (StepsMake first start text) (StepMakes step text next)) (StepsMake (first ++ step ∷ []) start next)
      (λ a c (b, more, makes). steps_join first (step ∷ []) start text next a b c more (next, c, makes, (refl, refl)))
      (λ a c makes. let (b, d, more, makes_it, (same, e)) = last_made next a c [] makes in (b, more, subst (StepMakes step text next b) e makes_it))
      own new (map (made_at by_step) made)
      (then_made (StepsMake first start text) (StepMakes step text next) own old new by_step (one_steps_make first start text)
      (all_from (λ a. (b : PlacedRecord) → StepsMake first start text a b → Any (◌≡◌ b) old.records) own.records
      (λ k a at b makes. steps_make_one first start text own old a b is (is_at own.records k a at) is_old makes))
      it made (all old is_old)))

-- of each record itself
pub all_kept : (text : List ℕ) (own : PlacedText) (made : List (Option ℕ)) (count : ℕ) → IsPlaced text own → length own.records ≡ count → length made ≡ count
    → ((k : ℕ) → k < count → slice_get made k ≡ Some (Some k)) → AreMadeBySteps [] text own text made
all_kept text own made count is lengths lengths_too each = λ q is_q.
    subst (λ (x : PlacedText). AreMade (StepsMake [] text text) own x made) (one_placed text own q is is_q)
    (zip_from (IsMadeOf (StepsMake [] text text) own.records) own.records made (lengths ∙ sym lengths_too)
    (λ k r m at there.
    let low : k < count = subst (λ n. k < n) lengths_too (slice_get_within made k m there) in
    subst (IsMadeOf (StepsMake [] text text) own.records r) (one_at made k (Some k) m (each k low) there) (r, at, (refl, refl))))
