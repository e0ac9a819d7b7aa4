-- Parts of whole lines that are as short as can be are shown as they are.
use Rattle.std.proofs.Common.{◌≡◌, ◌∙◌, ℕ, ◌-◌, true, false, eqb, List, [], ◌∷◌, ◌++◌, length, map, take, drop, refl, sym, ap, ap₂, subst, inl, inr, arith}
use Rattle.std.specs.Prelude.{◌≢◌, flat_map, reverse, ◌&&◌}
use Rattle.std.specs.List.{AllByRecursion}
use Rattle.std.specs.Str.{bytes_eq}
use Rattle.std.proofs.Math.Seq.{take-length, drop-length}
use Rattle.std.proofs.lemmas.Bool.{cases_Bool, cond-true, cond-false, false≢true, and_from, false_from_ne_true}
use Rattle.std.proofs.lemmas.List.{append_assoc, append-nil}
use Rattle.rec_text.specs.Bytes.{is_nil}
use Rattle.rec_text.proofs.lemmas.ListLemmas.{same_bytes, bytes_eq-self}
use Rattle.rec_diff.specs.Changes.{Stretch, stays, turns, old_of, new_of, joined, put_stays, put_turns}
use Rattle.rec_diff.specs.Lines.{at_line, lines}
use Rattle.rec_diff.specs.WholeLines.{closed, lined_stay, lined_from, same_lines, without_start, without_end, trimmed, whole_lines, AreLines, BeginApart, IsShort}
use Rattle.rec_diff.proofs.lemmas.CutPlaceLemmas.{AreTidy}
use Rattle.rec_diff.proofs.lemmas.PartLemmas.{put_stays-put_stays, joined-closed_same, joined-closed_apart}
use Rattle.rec_diff.proofs.lemmas.ShareLemmas.{text_of, text_of-lines}
use Rattle.rec_diff.proofs.lemmas.WholeLineLemmas.{AreSpaced}

-- ---- what turns changes something

no_lines : (ls : List (List ℕ)) → BeginApart ls ls → ls ≡ []
no_lines [] apart = refl
no_lines (l ∷ ls) apart = absurd (apart refl)

pub differ : (o n : List ℕ) → IsShort (turns o n) → (is_nil o && is_nil n) ≡ false → o ≢ n
differ o n short some same =
    let none = no_lines (lines o) (subst (λ t. BeginApart (lines o) (lines t)) (sym same) short.0) in
    let nothing : o ≡ [] = sym (text_of-lines o) ∙ ap text_of none in
    false≢true (sym some ∙ ap₂ (λ a b. is_nil a && is_nil b) nothing (sym same ∙ nothing))

put_turn : (o n : List ℕ) (cs : List Stretch) → IsShort (turns o n) → (is_nil o && is_nil n) ≡ false → joined (closed o n cs) ≡ put_turns o n (joined cs)
put_turn o n cs short some = joined-closed_apart o n cs (false_from_ne_true (bytes_eq o n) (λ same. differ o n short some (same_bytes o n same)))

-- ---- whole lines are lined up as they are

stay_last : (t line : List ℕ) → joined (lined_stay t (lined_from []) line line) ≡ put_stays (line ++ t) []
stay_last [] line = joined-closed_same line line [] (bytes_eq-self line) ∙ ap (λ x. put_stays x []) (sym (append-nil line))
stay_last (b ∷ bs) line = elim (cases_Bool (eqb b 10)) [
  | inl e ↦
      ap joined (cond-true (eqb b 10) _ _ e)
      ∙ joined-closed_same (line ++ b ∷ []) (line ++ b ∷ []) _ (bytes_eq-self (line ++ b ∷ []))
      ∙ ap (put_stays (line ++ b ∷ [])) (stay_last bs []) ∙ put_stays-put_stays (line ++ b ∷ []) bs [] ∙ ap (λ x. put_stays x []) (append_assoc line (b ∷ []) bs)
  | inr e ↦ ap joined (cond-false (eqb b 10) _ _ e) ∙ stay_last bs (line ++ b ∷ []) ∙ ap (λ x. put_stays x []) (append_assoc line (b ∷ []) bs)
]

stay_whole : (b : ℕ) (bs line : List ℕ) (rest : List ℕ → List ℕ → List Stretch) → at_line (b ∷ bs) ≡ true
    → joined (lined_stay (b ∷ bs) rest line line) ≡ put_stays (line ++ b ∷ bs) (joined (rest [] []))
stay_whole b [] line rest whole = elim (cases_Bool (eqb b 10)) [
  | inl e ↦ ap joined (cond-true (eqb b 10) _ _ e) ∙ joined-closed_same (line ++ b ∷ []) (line ++ b ∷ []) _ (bytes_eq-self (line ++ b ∷ []))
  | inr e ↦ absurd (false≢true (sym e ∙ whole))
]
stay_whole b (y ∷ ys) line rest whole = elim (cases_Bool (eqb b 10)) [
  | inl e ↦
      ap joined (cond-true (eqb b 10) _ _ e)
      ∙ joined-closed_same (line ++ b ∷ []) (line ++ b ∷ []) _ (bytes_eq-self (line ++ b ∷ []))
      ∙ ap (put_stays (line ++ b ∷ [])) (stay_whole y ys [] rest whole) ∙ put_stays-put_stays (line ++ b ∷ []) (y ∷ ys) (joined (rest [] []))
      ∙ ap (λ x. put_stays x (joined (rest [] []))) (append_assoc line (b ∷ []) (y ∷ ys))
  | inr e ↦ ap joined (cond-false (eqb b 10) _ _ e) ∙ stay_whole y ys (line ++ b ∷ []) rest whole ∙ ap (λ x. put_stays x (joined (rest [] []))) (append_assoc line (b ∷ []) (y ∷ ys))
]

turn_last : (o n : List ℕ) → IsShort (turns o n) → (is_nil o && is_nil n) ≡ false → joined (lined_from (turns o n ∷ []) [] []) ≡ put_turns o n []
turn_last o n short some = elim (cases_Bool (at_line o && at_line n)) [
  | inl e ↦ ap joined (cond-true (at_line o && at_line n) _ _ e) ∙ put_turn o n _ short some
  | inr e ↦ ap joined (cond-false (at_line o && at_line n) _ _ e) ∙ put_turn o n [] short some
]

some_first : (b : ℕ) (bs t : List ℕ) → (b ∷ bs) ++ t ≢ []
some_first b bs t none = cc

-- before what turns a line ends
ends_before : (t o n : List ℕ) (cs : List Stretch) → AreLines (map old_of (stays t ∷ turns o n ∷ cs)) → AreLines (map new_of (stays t ∷ turns o n ∷ cs))
    → (is_nil o && is_nil n) ≡ false → at_line t ≡ true
ends_before t [] [] cs old new some = absurd (false≢true (sym some))
ends_before t (x ∷ xs) n cs old new some = old.0 (some_first x xs _)
ends_before t [] (y ∷ ys) cs old new some = new.0 (some_first y ys _)

lined_again : (cs : List Stretch) → AreLines (map old_of cs) → AreLines (map new_of cs) → AreSpaced cs → AreTidy cs → AllByRecursion IsShort cs
    → joined (lined_from cs [] []) ≡ joined cs
lined_again [] old new spaced tidy short = refl
lined_again (stays t ∷ []) old new spaced tidy short = stay_last t []
lined_again (stays t ∷ stays u ∷ cs) old new spaced tidy short = absurd tidy.1
lined_again (stays [] ∷ turns o n ∷ cs) old new spaced tidy short = absurd (spaced.0 refl)
lined_again (stays (b ∷ bs) ∷ turns o n ∷ cs) old new spaced tidy short =
    stay_whole b bs [] (lined_from (turns o n ∷ cs)) (ends_before (b ∷ bs) o n cs old new tidy.2.0)
    ∙ ap (put_stays (b ∷ bs)) (lined_again (turns o n ∷ cs) old.1 new.1 spaced.1 tidy.2 short.1)
lined_again (turns o n ∷ []) old new spaced tidy short = turn_last o n short.0 tidy.0
lined_again (turns o n ∷ turns p q ∷ cs) old new spaced tidy short = absurd spaced.0
lined_again (turns o n ∷ stays [] ∷ cs) old new spaced tidy short = absurd (spaced.1.0 refl)
lined_again (turns o n ∷ stays (b ∷ bs) ∷ cs) old new spaced tidy short =
    ap joined (cond-true (at_line o && at_line n) _ _ (and_from (at_line o) (at_line n) (old.0 (some_first b bs _)) (new.0 (some_first b bs _))))
    ∙ put_turn o n _ short.0 tidy.0 ∙ ap (put_turns o n) (lined_again (stays (b ∷ bs) ∷ cs) old.1 new.1 spaced.1 tidy.1 short.1)

-- ---- and short ones aren't shortened

none_same : (xs ys : List (List ℕ)) → BeginApart xs ys → same_lines xs ys ≡ 0
none_same [] ys apart = refl
none_same (x ∷ xs) [] apart = refl
none_same (x ∷ xs) (y ∷ ys) apart = cond-false (bytes_eq x y) _ _ (false_from_ne_true (bytes_eq x y) (λ same. apart (same_bytes x y same)))

trimmed_turn : (o n : List ℕ) → IsShort (turns o n) → trimmed (turns o n) ≡ stays [] ∷ turns o n ∷ stays [] ∷ []
trimmed_turn o n short =
    let long : (t : List ℕ) → length t - 0 ≡ length t = λ t. omega arith in
    ap (λ f. without_start f o n) (none_same (lines o) (lines n) short.0)
    ∙ ap (λ l. stays [] ∷ without_end l o n) (none_same (reverse (lines o)) (reverse (lines n)) short.1)
    ∙ ap₂ (λ a b. stays [] ∷ turns (take a o) (take b n) ∷ stays (drop a o) ∷ []) (long o) (long n)
    ∙ ap₂ (λ a b. stays [] ∷ turns a b ∷ stays (drop (length o) o) ∷ []) (take-length o) (take-length n)
    ∙ ap (λ r. stays [] ∷ turns o n ∷ stays r ∷ []) (drop-length o)

trimmed_again : (cs : List Stretch) → AllByRecursion IsShort cs → joined (flat_map trimmed cs) ≡ joined cs
trimmed_again [] short = refl
trimmed_again (stays t ∷ cs) short = ap (put_stays t) (trimmed_again cs short.1)
trimmed_again (turns o n ∷ cs) short =
    ap (λ x. joined (x ++ flat_map trimmed cs)) (trimmed_turn o n short.0) ∙ ap (put_turns o n) (trimmed_again cs short.1)

pub shown_again : (cs : List Stretch) → AreLines (map old_of cs) → AreLines (map new_of cs) → AreSpaced cs → AreTidy cs → AllByRecursion IsShort cs → joined cs ≡ cs
    → whole_lines cs ≡ cs
shown_again cs old new spaced tidy short apart =
    ap (λ x. joined (flat_map trimmed x)) (lined_again cs old new spaced tidy short ∙ apart) ∙ trimmed_again cs short ∙ apart
