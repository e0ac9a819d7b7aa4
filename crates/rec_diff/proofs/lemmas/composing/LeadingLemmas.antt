-- Deeds lead from one text to another.
use Rattle.std.proofs.Common.{refl, sym, ap, subst, ◌≡◌, ◌∙◌, ℕ, ◌+◌, ◌-◌, ◌≤◌, List, [], ◌∷◌, ◌++◌, length, map, replicate, append_assoc, arith}
use Rattle.std.proofs.lemmas.List.{length-append}
use Rattle.rec_journal.specs.declared.patch.Hunk.{Hunk}
use Rattle.rec_journal.specs.declared.event.EditStep.{EditStep}
use Rattle.rec_journal.specs.Patch.{SplicesFrom, Splices}
use Rattle.rec_journal.specs.Revisions.{LeadsBy}
use Rattle.rec_diff.specs.Composing.{Deed, keeps, removes, adds, deeds_from, deeds_of, after_keeping, after_adding, then_others, all_deeds}
use Rattle.rec_diff.specs.Composing.{put_hunk, hunks_after, patches_of, ComposesSplices, OneComposition}
use Rattle.rec_diff.specs.proving.Runs.{old_count}

-- the deeds lead from the text before to the text after
abbrev pub Does : List Deed → List ℕ → List ℕ → Type 0
Does [] before after = before ≡ after
Does (keeps ∷ deeds) [] after = ⊥
Does (keeps ∷ deeds) (b ∷ before) [] = ⊥
Does (keeps ∷ deeds) (b ∷ before) (c ∷ after) = (b ≡ c) × Does deeds before after
Does (removes c ∷ deeds) [] after = ⊥
Does (removes c ∷ deeds) (b ∷ before) after = (b ≡ c) × Does deeds before after
Does (adds c ∷ deeds) before [] = ⊥
Does (adds c ∷ deeds) before (b ∷ after) = (b ≡ c) × Does deeds before after

-- ---- the deeds of hunks

does_keep : (kept before after : List ℕ) (deeds : List Deed) → Does deeds before after → Does (replicate (length kept) keeps ++ deeds) (kept ++ before) (kept ++ after)
does_keep [] before after deeds does = does
does_keep (b ∷ kept) before after deeds does = (refl, does_keep kept before after deeds does)

does_remove : (old before after : List ℕ) (deeds : List Deed) → Does deeds before after → Does (map removes old ++ deeds) (old ++ before) after
does_remove [] before after deeds does = does
does_remove (b ∷ old) before after deeds does = (refl, does_remove old before after deeds does)

does_add : (new before after : List ℕ) (deeds : List Deed) → Does deeds before after → Does (map adds new ++ deeds) before (new ++ after)
does_add [] before after deeds does = does
does_add (b ∷ new) before after deeds does = (refl, does_add new before after deeds does)

-- where hunks lead, their deeds do
pub splices_does : (place : ℕ) (hunks : List Hunk) (before after : List ℕ) → SplicesFrom place hunks before after → Does (deeds_from place hunks) before after
splices_does place [] before after w = w
splices_does place (hunk ∷ hunks) before after w =
    let count : hunk.at - place ≡ length w.0 = omega (arith, w.3) in
    rw (count, w.4, w.5)
    (does_keep w.0 (hunk.old ++ w.1) (hunk.new ++ w.2) (map removes hunk.old ++ (map adds hunk.new ++ deeds_from (hunk.at + length hunk.old) hunks))
    (does_remove hunk.old w.1 (hunk.new ++ w.2) (map adds hunk.new ++ deeds_from (hunk.at + length hunk.old) hunks)
    (does_add hunk.new w.1 w.2 (deeds_from (hunk.at + length hunk.old) hunks)
    (splices_does (hunk.at + length hunk.old) hunks w.1 w.2 w.6))))

-- ---- deeds, and then others

-- deeds go on by any others
abbrev GoesOn : List Deed → Type 0
GoesOn p = (q : List Deed) (f g h : List ℕ) → Does p f g → Does q g h → Does (then_others p q) f h

module _ (p : List Deed) (goes : GoesOn p) where
  goes_on_keeping : (q : List Deed) (f g h : List ℕ) → Does (keeps ∷ p) f g → Does q g h → Does (after_keeping (then_others p) q) f h
  goes_on_keeping q [] g h a b = absurd a
  goes_on_keeping q (x ∷ f) [] h a b = absurd a
  goes_on_keeping [] (x ∷ f) (y ∷ g) h a b = subst (λ (t : List ℕ). Does (keeps ∷ then_others p []) (x ∷ f) t) b (a.0, goes [] f g g a.1 refl)
  goes_on_keeping (keeps ∷ q) (x ∷ f) (y ∷ g) [] a b = absurd b
  goes_on_keeping (keeps ∷ q) (x ∷ f) (y ∷ g) (z ∷ h) a b = (a.0 ∙ b.0, goes q f g h a.1 b.1)
  goes_on_keeping (removes c ∷ q) (x ∷ f) (y ∷ g) h a b = (a.0 ∙ b.0, goes q f g h a.1 b.1)
  goes_on_keeping (adds c ∷ q) (x ∷ f) (y ∷ g) [] a b = absurd b
  goes_on_keeping (adds c ∷ q) (x ∷ f) (y ∷ g) (z ∷ h) a b = (b.0, goes_on_keeping q (x ∷ f) (y ∷ g) h a b.1)

  goes_on_adding : (c : ℕ) (q : List Deed) (f g h : List ℕ) → Does (adds c ∷ p) f g → Does q g h → Does (after_adding c (then_others p) q) f h
  goes_on_adding c q f [] h a b = absurd a
  goes_on_adding c [] f (y ∷ g) h a b = subst (λ (t : List ℕ). Does (adds c ∷ then_others p []) f t) b (a.0, goes [] f g g a.1 refl)
  goes_on_adding c (keeps ∷ q) f (y ∷ g) [] a b = absurd b
  goes_on_adding c (keeps ∷ q) f (y ∷ g) (z ∷ h) a b = (sym b.0 ∙ a.0, goes q f g h a.1 b.1)
  goes_on_adding c (removes d ∷ q) f (y ∷ g) h a b = goes q f g h a.1 b.1
  goes_on_adding c (adds d ∷ q) f (y ∷ g) [] a b = absurd b
  goes_on_adding c (adds d ∷ q) f (y ∷ g) (z ∷ h) a b = (b.0, goes_on_adding c q f (y ∷ g) h a b.1)

-- deeds lead to a text and others on from there
pub leads_on : (p : List Deed) → GoesOn p
leads_on [] q f g h a b = subst (λ (t : List ℕ). Does q t h) (sym a) b
leads_on (keeps ∷ p) q f g h a b = goes_on_keeping p (leads_on p) q f g h a b
leads_on (removes c ∷ p) q [] g h a b = absurd a
leads_on (removes c ∷ p) q (x ∷ f) g h a b = (a.0, leads_on p q f g h a.1 b)
leads_on (adds c ∷ p) q f g h a b = goes_on_adding p (leads_on p) c q f g h a b

-- where steps lead, the deeds of all do
pub steps_do : (steps : List EditStep) (before after : List ℕ) → LeadsBy steps before after → Does (all_deeds (patches_of steps)) before after
steps_do [] before after w = w
steps_do (step ∷ steps) before after w =
    leads_on (deeds_of step.patch) (all_deeds (patches_of steps)) before w.0 after (splices_does 0 step.patch before w.0 w.1) (steps_do steps w.0 after w.2)

-- deeds go over no more bytes than there are
pub old_count-le : (deeds : List Deed) (before after : List ℕ) → Does deeds before after → old_count deeds ≤ length before
old_count-le [] before after does = omega arith
old_count-le (keeps ∷ deeds) [] after does = absurd does
old_count-le (keeps ∷ deeds) (b ∷ before) [] does = absurd does
old_count-le (keeps ∷ deeds) (b ∷ before) (c ∷ after) does = let rest : old_count deeds ≤ length before = old_count-le deeds before after does.1 in omega arith
old_count-le (removes c ∷ deeds) [] after does = absurd does
old_count-le (removes c ∷ deeds) (b ∷ before) after does = let rest : old_count deeds ≤ length before = old_count-le deeds before after does.1 in omega arith
old_count-le (adds c ∷ deeds) before [] does = absurd does
old_count-le (adds c ∷ deeds) before (b ∷ after) does = old_count-le deeds before after does.1

-- ---- the hunks of deeds

-- a hunk leads on, where the others do after it; and they do where it is empty
put_hunk_leads : (place at : ℕ) (kept old new f h : List ℕ) (hunks : List Hunk) → place + length kept ≡ at → SplicesFrom (at + length old) hunks f h
    → (old ≡ [] → SplicesFrom place hunks (kept ++ f) (kept ++ h)) → SplicesFrom place (put_hunk at old new hunks) (kept ++ (old ++ f)) (kept ++ (new ++ h))
put_hunk_leads place at kept [] [] f h hunks reached rest empty = empty refl
put_hunk_leads place at kept [] (n ∷ new) f h hunks reached rest empty = (kept, f, h, reached, refl, refl, rest)
put_hunk_leads place at kept (o ∷ old) new f h hunks reached rest empty = (kept, f, h, reached, refl, refl, rest)

-- where deeds lead, their hunks do
pub does_splice : (deeds : List Deed) (place at : ℕ) (kept old new f h : List ℕ) → place + length kept ≡ at → Does deeds f h
    → SplicesFrom place (hunks_after at old new deeds) (kept ++ (old ++ f)) (kept ++ (new ++ h))
does_splice [] place at kept old new f h reached does =
    put_hunk_leads place at kept old new f h [] reached does (λ e. ap (kept ++◌) does)
does_splice (keeps ∷ deeds) place at kept old new [] h reached does = absurd does
does_splice (keeps ∷ deeds) place at kept old new (b ∷ f) [] reached does = absurd does
does_splice (keeps ∷ deeds) place at kept old new (b ∷ f) (c ∷ h) reached does =
    let hunks : List Hunk = hunks_after (at + length old + 1) [] [] deeds in
    let rest : SplicesFrom (at + length old) hunks (b ∷ f) (b ∷ h) = does_splice deeds (at + length old) (at + length old + 1) (b ∷ []) [] [] f h refl does.1 in
    subst (λ (x : ℕ). SplicesFrom place (put_hunk at old new hunks) (kept ++ (old ++ b ∷ f)) (kept ++ (new ++ x ∷ h))) does.0
    (put_hunk_leads place at kept old new (b ∷ f) (b ∷ h) hunks reached rest
    (λ e.
    let none : length old ≡ 0 = ap length e in
    let there : place + length (kept ++ b ∷ []) ≡ at + length old + 1 = omega (arith, length-append kept (b ∷ [])) in
    rw (sym (append_assoc kept (b ∷ []) f), sym (append_assoc kept (b ∷ []) h))
    (does_splice deeds place (at + length old + 1) (kept ++ b ∷ []) [] [] f h there does.1)))
does_splice (removes c ∷ deeds) place at kept old new [] h reached does = absurd does
does_splice (removes c ∷ deeds) place at kept old new (b ∷ f) h reached does =
    subst (λ (t : List ℕ). SplicesFrom place (hunks_after at (old ++ c ∷ []) new deeds) (kept ++ t) (kept ++ (new ++ h)))
    (append_assoc old (c ∷ []) f ∙ ap (λ x. old ++ x ∷ f) (sym does.0))
    (does_splice deeds place at kept (old ++ c ∷ []) new f h reached does.1)
does_splice (adds c ∷ deeds) place at kept old new f [] reached does = absurd does
does_splice (adds c ∷ deeds) place at kept old new f (b ∷ h) reached does =
    subst (λ (t : List ℕ). SplicesFrom place (hunks_after at old (new ++ c ∷ []) deeds) (kept ++ (old ++ f)) (kept ++ t))
    (append_assoc new (c ∷ []) h ∙ ap (λ x. new ++ x ∷ h) (sym does.0))
    (does_splice deeds place at kept old (new ++ c ∷ []) f h reached does.1)

-- where steps lead from one text to another, so does their composition
pub composes_splices : ComposesSplices
composes_splices = λ steps all before after leads is.
    subst (λ (hunks : List Hunk). Splices hunks before after) (sym is) (does_splice (all_deeds (patches_of steps)) 0 0 [] [] [] before after refl (steps_do steps before after leads))

pub one_composition : OneComposition
one_composition = λ patches one other is also. is ∙ sym also
