-- Moves through the edit of a number lead there on the machine: by each entry as far as that one, and no further.
use Rattle.std.proofs.Common.{◌≡◌, ◌≢◌, ◌∙◌, inl, inr, ap, ap₂, sym, subst, refl, arith, ℕ, ◌+◌, true, false, not, ◌||◌, List, [], ◌∷◌, ◌++◌, map, reverse, append_assoc, Option, Some, None}
use Rattle.std.proofs.Common.{Ok, Err}
use Rattle.std.specs.Prelude.{◌==◌}
use Rattle.std.specs.List.{AllByRecursion, list_any}
use Rattle.std.proofs.lemmas.Bool.{false≢true, lt-ltb, ltb-true, eq-eqb, ne_eqb, and_from, and_parts, or_right}
use Rattle.std.proofs.lemmas.List.{reverse-append}
use Rattle.rec_text.specs.declared.fault.Fault.{Fault}
use Rattle.rec_text.specs.declared.fault.Fault.TheVariants.{NoSuchEdit}
use Rattle.rec_journal.specs.declared.patch.Direction.{Direction}
use Rattle.rec_journal.specs.declared.patch.Direction.TheVariants.{Forward, Backward}
use Rattle.rec_journal.specs.declared.event.Revision.{Revision}
use Rattle.rec_journal.specs.declared.event.Tool.{Tool}
use Rattle.rec_journal.specs.EditTexts.{GrowWithin}
use Rattle.rec_journal.specs.Plans.{nothing_there}
use Rattle.rec_journal.proofs.lemmas.histories.Growths.{numbers_grow}
use Rattle.rec_tools.specs.Home.{Contents}
use Rattle.rec_tools.specs.Asked.{moving}
use Rattle.rec_tools.specs.Outcomes.{reply_of}
use Rattle.rec_tools.specs.Attempts.{Answer}
use Rattle.rec_tools.specs.Machine.{IsMoveStep}
use Rattle.rec_tools.specs.Stands.{Stands}
use Rattle.rec_tools.specs.States.{Entry, State, entries_on, numbers_in, state_after_move, entry_back}
use Rattle.rec_tools.specs.Through.{moved_by, comes_before, leads_on, LeadThrough, StepsAgain, entries_back, state_through, answers_of, MovesLeadThere}
use Rattle.rec_tools.proofs.lemmas.machine.StepLemmas.{numbered_alike}
use Rattle.rec_tools.proofs.lemmas.machine.StandsLemmas.{same_state}

-- ---- the order of the entries

-- each number comes before the next one that way, and the last before the first
abbrev AreAhead : Direction → Option ℕ → List ℕ → Type 0
AreAhead direction last [] = Unit {0}
AreAhead direction None (n ∷ numbers) = AreAhead direction (Some n) numbers
AreAhead direction (Some last) (n ∷ numbers) = (comes_before direction last n ≡ true) × AreAhead direction (Some n) numbers

abbrev numbers_of : List Revision → List ℕ
numbers_of edits = map (λ (e : Revision). e.number) edits

grown_after : (least end : ℕ) (earlier later : List Revision) (e : Revision) → GrowWithin least end (earlier ++ e ∷ later) → GrowWithin (e.number + 1) end later
grown_after least end [] later e h = h.1
grown_after least end (x ∷ earlier) later e h = grown_after (x.number + 1) end earlier later e h.1

grown_in : (least end : ℕ) (earlier later : List Revision) → GrowWithin least end (earlier ++ later) → (more : ℕ) × GrowWithin more end later
grown_in least end [] later h = (least, h)
grown_in least end (x ∷ earlier) later h = grown_in (x.number + 1) end earlier later h.1

ahead_on : (end : ℕ) (last : ℕ) (edits : List Revision) → GrowWithin (last + 1) end edits → AreAhead Forward (Some last) (numbers_of edits)
ahead_on end last [] h = tt
ahead_on end last (e ∷ edits) h = (lt-ltb last e.number (omega (arith, h.0)), ahead_on end e.number edits h.1)

ahead_forward : (least end : ℕ) (edits : List Revision) → GrowWithin least end edits → AreAhead Forward None (numbers_of edits)
ahead_forward least end [] h = tt
ahead_forward least end (e ∷ edits) h = ahead_on end e.number edits h.1

abbrev first_number : List Revision → Option ℕ
first_number [] = None
first_number (e ∷ edits) = Some e.number

-- one more edit before those that are ahead of it
ahead_first : (least end : ℕ) (past later : List Revision) (e : Revision) → GrowWithin least end (reverse past ++ e ∷ later)
    → AreAhead Backward (Some e.number) (numbers_of past) → AreAhead Backward (first_number later) (e.number ∷ numbers_of past)
ahead_first least end past [] e h ahead = ahead
ahead_first least end past (x ∷ later) e h ahead =
    let after_it : GrowWithin (e.number + 1) end (x ∷ later) = grown_after least end (reverse past) (x ∷ later) e h in
    (lt-ltb e.number x.number (omega (arith, after_it.0)), ahead)

ahead_backward : (least end : ℕ) (past later : List Revision) → GrowWithin least end (reverse past ++ later) → AreAhead Backward (first_number later) (numbers_of past)
ahead_backward least end [] later h = tt
ahead_backward least end (e ∷ past) later h =
    let regrouped : reverse (e ∷ past) ++ later ≡ reverse past ++ e ∷ later =
    ap (λ (l : List Revision). l ++ later) (reverse-append (e ∷ []) past) ∙ append_assoc (reverse past) (e ∷ []) later in
    let here = subst (GrowWithin least end) regrouped h in
    ahead_first least end past later e here (ahead_backward least end past (e ∷ later) here)

-- so it is with the entries of a state for which contents stand
ahead_past : (least end : ℕ) (past future : List Revision) → GrowWithin least end (reverse past ++ future) → AreAhead Backward None (numbers_of past)
ahead_past least end past future h = weaker (numbers_of past) (first_number future) (ahead_backward least end past future h) where
  weaker : (numbers : List ℕ) (last : Option ℕ) → AreAhead Backward last numbers → AreAhead Backward None numbers
  weaker [] last h = tt
  weaker (n ∷ numbers) None h = h
  weaker (n ∷ numbers) (Some last) h = h.1

ahead_of_stands : (c : Contents) (s : State) → Stands c s → (direction : Direction) → AreAhead direction None (numbers_in (entries_on direction s))
ahead_of_stands c s stands Backward =
    subst (AreAhead Backward None) (numbered_alike Backward stands.opened.past s.past c.file stands.past)
    (ahead_past 1 stands.opened.next stands.opened.past stands.opened.future (numbers_grow c.file c.journal stands.opened stands.opens))
ahead_of_stands c s stands Forward =
    let later = grown_in 1 stands.opened.next (reverse stands.opened.past) stands.opened.future (numbers_grow c.file c.journal stands.opened stands.opens) in
    subst (AreAhead Forward None) (numbered_alike Forward stands.opened.future s.future c.file stands.future)
    (ahead_forward later.0 stands.opened.next stands.opened.future later.1)

-- ---- which moves lead on

before_before : (direction : Direction) (a b c : ℕ) → comes_before direction a b ≡ true → comes_before direction b c ≡ true → comes_before direction a c ≡ true
before_before Backward a b c h k = lt-ltb c a (omega (arith, ltb-true b a h, ltb-true c b k))
before_before Forward a b c h k = lt-ltb a c (omega (arith, ltb-true a b h, ltb-true b c k))

not_before_itself : (direction : Direction) (a : ℕ) → comes_before direction a a ≡ true → ⊥
not_before_itself Backward a h = omega (arith, ltb-true a a h)
not_before_itself Forward a h = omega (arith, ltb-true a a h)

ahead_of : (direction : Direction) (last : ℕ) (nearer farther : List Entry) (entry : Entry) → AreAhead direction (Some last) (numbers_in (nearer ++ entry ∷ farther))
    → comes_before direction last entry.number ≡ true
ahead_of direction last [] farther entry h = h.0
ahead_of direction last (x ∷ nearer) farther entry h = before_before direction last x.number entry.number h.0 (ahead_of direction x.number nearer farther entry h.1)

following : (direction : Direction) (last : Option ℕ) (n : ℕ) (numbers : List ℕ) → AreAhead direction last (n ∷ numbers) → AreAhead direction (Some n) numbers
following direction None n numbers h = h
following direction (Some last) n numbers h = h.1

-- a move by an entry before that of the number does
leads : (direction : Direction) (last : Option ℕ) (x : Entry) (nearer farther : List Entry) (entry : Entry)
    → AreAhead direction last (numbers_in (x ∷ (nearer ++ entry ∷ farther))) → leads_on direction entry.number last (Some x.number) ≡ true
leads direction None x nearer farther entry h = ahead_of direction x.number nearer farther entry h
leads direction (Some last) x nearer farther entry h =
    and_from (comes_before direction last x.number) (comes_before direction x.number entry.number) h.0 (ahead_of direction x.number nearer farther entry h.1)

-- one by its own doesn't
ends : (direction : Direction) (last : Option ℕ) (number : ℕ) → leads_on direction number last (Some number) ≡ true → ⊥
ends direction None number h = not_before_itself direction number h
ends direction (Some last) number h = not_before_itself direction number (and_parts (comes_before direction last number) (comes_before direction number number) h).1

-- ---- whether the number is missing

has_it : (number : ℕ) (nearer farther : List Entry) (entry : Entry) → entry.number ≡ number → list_any (λ m. m == number) (numbers_in (nearer ++ entry ∷ farther)) ≡ true
has_it number [] farther entry is = ap (λ b. b || list_any (λ m. m == number) (numbers_in farther)) (eq-eqb entry.number number is)
has_it number (x ∷ nearer) farther entry is =
    or_right (x.number == number) (list_any (λ m. m == number) (numbers_in (nearer ++ entry ∷ farther))) (has_it number nearer farther entry is)

lacks_it : (number : ℕ) (entries : List Entry) → AllByRecursion (λ (entry : Entry). entry.number ≢ number) entries → list_any (λ m. m == number) (numbers_in entries) ≡ false
lacks_it number [] none = refl
lacks_it number (x ∷ entries) none =
    ap₂ (λ a b. a || b) (ne_eqb x.number number none.0) (lacks_it number entries none.1)

-- ---- a move

moved_by-reply : (direction : Direction) (number : ℕ) (tool : Tool) → moved_by (Ok (reply_of direction number tool)) ≡ Some number
moved_by-reply Backward number tool = refl
moved_by-reply Forward number tool = refl

entries_after : (direction : Direction) (s : State) (nearest : Entry) (others : List Entry) → entries_on direction (state_after_move direction s nearest others) ≡ others
entries_after Backward s nearest others = refl
entries_after Forward s nearest others = refl

-- where the entry of the number lies that way, the machine moves by the nearest
moves : (direction : Direction) (number : ℕ) (s t : State) (nearest : Entry) (others : List Entry) (answer : Answer)
    → entries_on direction s ≡ nearest ∷ others → list_any (λ m. m == number) (numbers_in (nearest ∷ others)) ≡ true
    → IsMoveStep direction (Some number) s (entries_on direction s) answer t
    → (answer ≡ Ok (reply_of direction nearest.number nearest.tool)) × (t ≡ state_after_move direction s nearest others)
moves direction number s t nearest others answer there has step =
    stepped (subst (λ entries. IsMoveStep direction (Some number) s entries answer t) there step) where
      stepped : IsMoveStep direction (Some number) s (nearest ∷ others) answer t
          → (answer ≡ Ok (reply_of direction nearest.number nearest.tool)) × (t ≡ state_after_move direction s nearest others)
      stepped (inl missing) = absurd (false≢true (sym (ap not has) ∙ missing.0))
      stepped (inr moved) = (moved.1, moved.2)

-- a move more of the entries that are nearer
one_nearer : (direction : Direction) (s : State) (x : Entry) (nearer farther : List Entry) (entry : Entry)
    → state_through direction (state_after_move direction s x (nearer ++ entry ∷ farther)) nearer entry farther ≡ state_through direction s (x ∷ nearer) entry farther
one_nearer Backward s x nearer farther entry =
    same_state _ _ refl refl
    (ap (λ l. l ++ entry_back s x ∷ s.future) refl ∙ sym (regrouped (entry_back s x) (entries_back x.text (nearer ++ entry ∷ [])) s.future))
    (omega arith) refl
  where
    regrouped : (y : Entry) (ys zs : List Entry) → reverse (y ∷ ys) ++ zs ≡ reverse ys ++ y ∷ zs
    regrouped y ys zs = ap (λ l. l ++ zs) (reverse-append (y ∷ []) ys) ∙ append_assoc (reverse ys) (y ∷ []) zs
one_nearer Forward s x nearer farther entry =
    same_state _ _ (sym (regrouped (entry_back s x) (entries_back x.text (nearer ++ entry ∷ [])) s.past)) refl refl (omega arith) refl
  where
    regrouped : (y : Entry) (ys zs : List Entry) → reverse (y ∷ ys) ++ zs ≡ reverse ys ++ y ∷ zs
    regrouped y ys zs = ap (λ l. l ++ zs) (reverse-append (y ∷ []) ys) ∙ append_assoc (reverse ys) (y ∷ []) zs

none_nearer : (direction : Direction) (s : State) (entry : Entry) (farther : List Entry)
    → state_after_move direction s entry farther ≡ state_through direction s [] entry farther
none_nearer Backward s entry farther = refl
none_nearer Forward s entry farther = refl

-- ---- all moves

module _ (direction : Direction) (entry : Entry) (farther : List Entry) where
  go_there : (nearer : List Entry) (last : Option ℕ) (s t : State) (answers : List Answer) → entries_on direction s ≡ nearer ++ entry ∷ farther
      → AreAhead direction last (numbers_in (nearer ++ entry ∷ farther)) → StepsAgain s (moving direction (Some entry.number)) answers t
      → LeadThrough direction entry.number last answers
      → (answers ≡ answers_of direction (nearer ++ entry ∷ [])) × (t ≡ state_through direction s nearer entry farther)
  go_there nearer last s t [] there ahead steps lead = absurd lead
  go_there [] last s t (answer ∷ []) there ahead (mid, step, e) lead =
      let moved = moves direction entry.number s mid entry farther answer there (has_it entry.number [] farther entry refl) step in
      (ap (λ (a : Answer). a ∷ []) moved.0, e ∙ moved.1 ∙ none_nearer direction s entry farther)
  go_there [] last s t (answer ∷ (next ∷ answers)) there ahead (mid, step, steps) lead =
      let moved = moves direction entry.number s mid entry farther answer there (has_it entry.number [] farther entry refl) step in
      let by : moved_by answer ≡ Some entry.number = ap moved_by moved.0 ∙ moved_by-reply direction entry.number entry.tool in
      absurd (ends direction last entry.number (subst (λ m. leads_on direction entry.number last m ≡ true) by lead.0))
  go_there (x ∷ nearer) last s t (answer ∷ []) there ahead (mid, step, e) lead =
      let moved = moves direction entry.number s mid x (nearer ++ entry ∷ farther) answer there (has_it entry.number (x ∷ nearer) farther entry refl) step in
      let by : moved_by answer ≡ Some x.number = ap moved_by moved.0 ∙ moved_by-reply direction x.number x.tool in
      absurd (false≢true (sym lead ∙ ap (leads_on direction entry.number last) by ∙ leads direction last x nearer farther entry ahead))
  go_there (x ∷ nearer) last s t (answer ∷ (next ∷ answers)) there ahead (mid, step, steps) lead =
      let moved = moves direction entry.number s mid x (nearer ++ entry ∷ farther) answer there (has_it entry.number (x ∷ nearer) farther entry refl) step in
      let by : moved_by answer ≡ Some x.number = ap moved_by moved.0 ∙ moved_by-reply direction x.number x.tool in
      let rest = go_there nearer (Some x.number) mid t (next ∷ answers)
      (ap (entries_on direction) moved.1 ∙ entries_after direction s x (nearer ++ entry ∷ farther)) (following direction last x.number _ ahead) steps
      (subst (λ m. LeadThrough direction entry.number m (next ∷ answers)) by lead.1) in (
        ap₂ (λ (a : Answer) (others : List Answer). a ∷ others) moved.0 rest.0,
        rest.1 ∙ ap (λ (u : State). state_through direction u nearer entry farther) moved.1 ∙ one_nearer direction s x nearer farther entry,
      )

-- where the number is missing, or nothing is there, the machine refuses
refuses : (direction : Direction) (number : ℕ) (s t : State) (entries : List Entry) (answer : Answer) → AllByRecursion (λ (entry : Entry). entry.number ≢ number) entries
    → IsMoveStep direction (Some number) s entries answer t → (t ≡ s) × ((fault : Fault) × (answer ≡ Err fault))
refuses direction number s t [] answer none step = (step.1, (nothing_there direction, step.0))
refuses direction number s t (x ∷ entries) answer none (inl missing) = (missing.2, (NoSuchEdit, missing.1))
refuses direction number s t (x ∷ entries) answer none (inr moved) = absurd (false≢true (sym moved.0 ∙ ap not (lacks_it number (x ∷ entries) none)))

go_nowhere : (direction : Direction) (number : ℕ) (s t : State) (answers : List Answer) → AllByRecursion (λ (entry : Entry). entry.number ≢ number) (entries_on direction s)
    → StepsAgain s (moving direction (Some number)) answers t → LeadThrough direction number None answers → (t ≡ s) × ((fault : Fault) × (answers ≡ Err fault ∷ []))
go_nowhere direction number s t [] none steps lead = absurd lead
go_nowhere direction number s t (answer ∷ []) none (mid, step, e) lead =
    let refused = refuses direction number s mid (entries_on direction s) answer none step in
    (e ∙ refused.0, (refused.1.0, ap (λ (a : Answer). a ∷ []) refused.1.1))
go_nowhere direction number s t (answer ∷ (next ∷ answers)) none (mid, step, steps) lead =
    let refused = refuses direction number s mid (entries_on direction s) answer none step in
    absurd (false≢true (subst (λ a. leads_on direction number None (moved_by a) ≡ true) refused.1.1 lead.0))

pub moves_lead_there : MovesLeadThere
moves_lead_there c direction number s t answers stands steps lead = record {
  moved = λ u through.
      let ahead = subst (λ (entries : List Entry). AreAhead direction None (numbers_in entries)) through.there (ahead_of_stands c s stands direction) in
      let there = go_there direction through.entry through.farther through.nearer None s t answers through.there ahead
      (subst (λ n. StepsAgain s (moving direction (Some n)) answers t) (sym through.numbered) steps)
      (subst (λ n. LeadThrough direction n None answers) (sym through.numbered) lead) in
      (there.0, there.1 ∙ sym through.is);
  refused = λ none. go_nowhere direction number s t answers none steps lead;
}
