-- The hunks between two texts are a patch that leads from the one to the other.
use Rattle.std.proofs.Common.{◌≡◌, ◌∙◌, ℕ, ◌+◌, ◌-◌, ◌≤◌, eqb, List, [], ◌∷◌, ◌++◌, length, take, drop, refl, sym, ap, ap₂, subst, inl, inr, arith}
use Rattle.std.specs.Prelude.{◌≢◌, flat_map, ◌&&◌}
use Rattle.std.specs.List.{between, AllByRecursion}
use Rattle.std.proofs.lemmas.Bool.{cases_Bool, cond-true, cond-false}
use Rattle.std.proofs.lemmas.List.{append-nil, length-append, take-append-drop, drop-drop, take_at, drop_all}
use Rattle.std.proofs.lemmas.Grind.{flat_map-append}
use Rattle.std.specs.Str.{bytes_eq}
use Rattle.rec_text.proofs.lemmas.ListLemmas.{bytes_eq-self}
use Rattle.rec_journal.specs.Patch.{AreApartFrom, Splices}
use Rattle.rec_diff.specs.declared.turn.Place.{Place}
use Rattle.rec_diff.specs.Changes.{Stretch, stays, turns, hunks_at, old_of, new_of, before_of, after_of, joined, put_stays}
use Rattle.rec_diff.specs.Comparing.{parts_by, landmarks, longest_from, refined, parts_between, hunks_between, HunksLeadBetween}
use Rattle.rec_diff.specs.Lines.{at_line, first_lines, lines}
use Rattle.rec_diff.specs.WholeLines.{closed, lined_stay, lined_from, same_lines, same_start, same_end, without_end, trimmed, whole_lines, IsShort, LeadsByLines}
use Rattle.rec_diff.specs.proving.Cutting.{after_line, AreCuts}
use Rattle.rec_diff.specs.proving.Passages.{origin}
use Rattle.rec_diff.proofs.lemmas.ChangeLemmas.{hunks_splice}
use Rattle.rec_diff.proofs.lemmas.CutPlaceLemmas.{AreTidy, AreTidy-joined}
use Rattle.rec_diff.proofs.lemmas.ShareLemmas.{text_of, text_of-lines}
use Rattle.rec_diff.proofs.lemmas.WholeLineLemmas.{AreSpaced, AreSpaced-joined, whole_lines_lead}
use Rattle.rec_diff.proofs.lemmas.comparing.AgainLemmas.{differ, shown_again}
use Rattle.rec_diff.proofs.lemmas.comparing.BetweenLemmas.{inner_of, parts_are}
use Rattle.rec_diff.proofs.lemmas.comparing.CutsLemmas.{marks_cut}

-- ---- the texts of the parts

piece : (whole line : List ℕ) (i j : ℕ) → i ≤ j → take (length line) (drop j whole) ≡ line
    → between i j whole ++ (line ++ drop (j + length line) whole) ≡ drop i whole
piece whole line i j order is =
    let there : i + (j - i) ≡ j = omega arith in
    let rest : line ++ drop (j + length line) whole ≡ drop j whole =
    ap₂ (λ a b. a ++ b) (sym is) (sym (drop-drop (length line) j whole)) ∙ take-append-drop (length line) (drop j whole) in
    ap (λ t. between i j whole ++ t) (rest ∙ ap (λ n. drop n whole) (sym there) ∙ sym (drop-drop (j - i) i whole)) ∙ take-append-drop (j - i) (drop i whole)

before_by : (old new : List ℕ) (from : Place) (marks : List Place) → AreCuts old new from marks → before_of (parts_by old new from marks) ≡ drop from.old old
before_by old new from [] cuts = append-nil (drop from.old old)
before_by old new from (m ∷ marks) cuts =
    ap (λ t. between from.old m.old old ++ (first_lines 1 (drop m.old old) ++ t)) (before_by old new (after_line old m) marks cuts.3)
    ∙ piece old (first_lines 1 (drop m.old old)) from.old m.old cuts.0 cuts.2.is_old

after_by : (old new : List ℕ) (from : Place) (marks : List Place) → AreCuts old new from marks → after_of (parts_by old new from marks) ≡ drop from.new new
after_by old new from [] cuts = append-nil (drop from.new new)
after_by old new from (m ∷ marks) cuts =
    ap (λ t. between from.new m.new new ++ (first_lines 1 (drop m.old old) ++ t)) (after_by old new (after_line old m) marks cuts.3)
    ∙ piece new (first_lines 1 (drop m.old old)) from.new m.new cuts.1 cuts.2.is_new

-- parts between what stays at both ends
text_by : (text : Stretch → List ℕ) (first rest part whole : List ℕ) (parts : List Stretch) → text (stays first) ≡ first → text (stays rest) ≡ rest
    → flat_map text parts ≡ part → whole ≡ first ++ (part ++ rest) → flat_map text (stays first ∷ (parts ++ stays rest ∷ [])) ≡ whole
text_by text first rest part whole parts first_is rest_is part_is is =
    ap₂ (λ a b. a ++ b) first_is (flat_map-append text parts (stays rest ∷ []) ∙ ap₂ (λ a b. a ++ b) part_is (append-nil (text (stays rest)) ∙ rest_is)) ∙ sym is

record TextsAre (old new : List ℕ) : Type 0 where
  from : before_of (parts_between old new) ≡ old
  to : after_of (parts_between old new) ≡ new

texts_are : (old new : List ℕ) → TextsAre old new
texts_are old new =
    let first = same_start old new in
    let last = same_end (drop first old) (drop first new) in
    let is = inner_of old new first last refl refl in
    let one = between first (length old - last) old in
    let two = between first (length new - last) new in
    let marks = longest_from 0 (landmarks one two) in
    let cuts = marks_cut one two in
    let parts = parts_are old new first last is marks 0 refl refl refl refl in
    let start : take first old ≡ is.inner.start = ap (take first) is.inner.before_is ∙ take_at is.inner.start _ first is.inner.count in
    record {
      from = sym (ap before_of parts)
          ∙ text_by old_of (take first old) is.inner.rest one old (parts_by one two origin marks) refl refl (before_by one two origin marks cuts)
          (is.inner.before_is ∙ ap (λ t. t ++ (one ++ is.inner.rest)) (sym start));
      to = sym (ap after_of parts)
          ∙ text_by new_of (take first old) is.inner.rest two new (parts_by one two origin marks) refl refl (after_by one two origin marks cuts)
          (is.inner.after_is ∙ ap (λ t. t ++ (two ++ is.inner.rest)) (sym start));
    }

-- ---- they are a patch

some_long : (t : List ℕ) → t ≢ [] → 1 ≤ length t
some_long [] some = absurd (some refl)
some_long (b ∷ bs) some = omega arith

are_apart : (at least : ℕ) (cs : List Stretch) → least ≤ at → AreSpaced cs → AreTidy cs → AllByRecursion IsShort cs → AreApartFrom least (hunks_at at cs)
are_apart at least [] fits spaced tidy short = tt
are_apart at least (stays t ∷ cs) fits spaced tidy short = are_apart (at + length t) least cs (omega arith) spaced.1 tidy.2 short.1
are_apart at least (turns o n ∷ []) fits spaced tidy short = (fits, differ o n short.0 tidy.0, tt)
are_apart at least (turns o n ∷ turns p q ∷ cs) fits spaced tidy short = absurd spaced.0
are_apart at least (turns o n ∷ stays t ∷ cs) fits spaced tidy short = (
  fits,
  differ o n short.0 tidy.0,
  are_apart (at + length o + length t) (at + length o + 1) cs (omega (arith, some_long t spaced.1.0)) spaced.1.1 tidy.1.2 short.1.1,
)

-- the parts that a diff shows, before those of a kind are joined
abbrev shown : List Stretch → List Stretch
shown cut = flat_map trimmed (joined (lined_from cut [] []))

-- ---- where nothing changes

abbrev IsStay : Stretch → Type 0
IsStay (stays t) = Unit {0}
IsStay (turns o n) = ⊥

closed_stays : (t : List ℕ) (cs : List Stretch) → AllByRecursion IsStay cs → AllByRecursion IsStay (closed t t cs)
closed_stays t cs stay = subst (AllByRecursion IsStay) (sym (cond-true (bytes_eq t t) _ _ (bytes_eq-self t))) (tt, stay)

lined_stays : (t line : List ℕ) (rest : List ℕ → List ℕ → List Stretch) → ((x : List ℕ) → AllByRecursion IsStay (rest x x)) → AllByRecursion IsStay (lined_stay t rest line line)
lined_stays [] line rest stay = stay line
lined_stays (b ∷ bs) line rest stay = elim (cases_Bool (eqb b 10)) [
  | inl e ↦ subst (AllByRecursion IsStay) (sym (cond-true (eqb b 10) _ _ e)) (closed_stays (line ++ b ∷ []) (lined_stay bs rest [] []) (lined_stays bs [] rest stay))
  | inr e ↦ subst (AllByRecursion IsStay) (sym (cond-false (eqb b 10) _ _ e)) (lined_stays bs (line ++ b ∷ []) rest stay)
]

end_stays : (x : List ℕ) → AllByRecursion IsStay (lined_from (turns [] [] ∷ stays [] ∷ []) x x)
end_stays x = elim (cases_Bool (at_line (x ++ []) && at_line (x ++ []))) [
  | inl e ↦ subst (AllByRecursion IsStay) (sym (cond-true (at_line (x ++ []) && at_line (x ++ [])) _ _ e)) (closed_stays (x ++ []) _ (closed_stays [] [] tt))
  | inr e ↦ subst (AllByRecursion IsStay) (sym (cond-false (at_line (x ++ []) && at_line (x ++ [])) _ _ e)) (closed_stays (x ++ []) [] tt)
]

put_stays-stay : (t : List ℕ) (cs : List Stretch) → AllByRecursion IsStay cs → AllByRecursion IsStay (put_stays t cs)
put_stays-stay [] cs stay = stay
put_stays-stay (b ∷ bs) [] stay = (tt, tt)
put_stays-stay (b ∷ bs) (stays u ∷ cs) stay = (tt, stay.1)
put_stays-stay (b ∷ bs) (turns o n ∷ cs) stay = absurd stay.0

joined_stay : (cs : List Stretch) → AllByRecursion IsStay cs → AllByRecursion IsStay (joined cs)
joined_stay [] stay = tt
joined_stay (stays t ∷ cs) stay = put_stays-stay t (joined cs) (joined_stay cs stay.1)
joined_stay (turns o n ∷ cs) stay = absurd stay.0

trimmed_stay : (cs : List Stretch) → AllByRecursion IsStay cs → AllByRecursion IsStay (flat_map trimmed cs)
trimmed_stay [] stay = tt
trimmed_stay (stays t ∷ cs) stay = (tt, trimmed_stay cs stay.1)
trimmed_stay (turns o n ∷ cs) stay = absurd stay.0

no_hunks : (at : ℕ) (cs : List Stretch) → AllByRecursion IsStay cs → hunks_at at cs ≡ []
no_hunks at [] stay = refl
no_hunks at (stays t ∷ cs) stay = no_hunks (at + length t) cs stay.1
no_hunks at (turns o n ∷ cs) stay = absurd stay.0

all_same : (ls : List (List ℕ)) → same_lines ls ls ≡ length (text_of ls)
all_same [] = refl
all_same (l ∷ ls) = cond-true (bytes_eq l l) _ _ (bytes_eq-self l) ∙ ap (λ n. length l + n) (all_same ls) ∙ sym (length-append l (text_of ls))

nothing_between : (t : List ℕ) → hunks_between t t ≡ []
nothing_between t =
    let first = same_start t t in
    let all : first ≡ length t = all_same (lines t) ∙ ap length (text_of-lines t) in
    let left : drop first t ≡ [] = drop_all first t (omega arith) in
    let parts : parts_between t t ≡ stays (take first t) ∷ turns [] [] ∷ stays [] ∷ [] =
    ap (λ d. flat_map refined (stays (take first t) ∷ without_end (same_end d d) d d)) left in
    ap (λ cs. hunks_at 0 (whole_lines cs)) parts
    ∙ no_hunks 0 (whole_lines (stays (take first t) ∷ turns [] [] ∷ stays [] ∷ []))
    (joined_stay _ (trimmed_stay _ (joined_stay _ (lined_stays (take first t) [] (lined_from (turns [] [] ∷ stays [] ∷ [])) end_stays))))

pub hunks_lead_between : HunksLeadBetween
hunks_lead_between old new =
    let cut = parts_between old new in
    let are = texts_are old new in
    let leads = whole_lines_lead cut in
    let lead = subst (λ t. LeadsByLines t new (whole_lines cut)) are.from (subst (λ t. LeadsByLines (before_of cut) t (whole_lines cut)) are.to leads) in
    record {
      parts = whole_lines cut;
      are = refl;
      shown = record {
        cut = whole_lines cut;
        by_patch = refl;
        from = lead.from;
        to = lead.to;
        lined = sym (shown_again (whole_lines cut) lead.old_lines lead.new_lines (AreSpaced-joined (shown cut)) (AreTidy-joined (shown cut)) lead.short lead.apart);
      };
      splice = subst (λ t. Splices (hunks_between old new) t new) lead.from (subst (Splices (hunks_between old new) (before_of (whole_lines cut))) lead.to (hunks_splice (whole_lines cut)));
      is_patch = are_apart 0 0 (whole_lines cut) (omega arith) (AreSpaced-joined (shown cut)) (AreTidy-joined (shown cut)) lead.short;
      none = λ same. ap (λ t. hunks_between old t) (sym same) ∙ nothing_between old;
    }
