-- The lines of a turn: those that stay at its start and at its end, and those between.
use Rattle.std.proofs.Common.{◌≡◌, ◌∙◌, ℕ, ◌+◌, ◌-◌, true, false, eqb, List, [], ◌∷◌, ◌++◌, length, take, drop, refl, sym, ap, ap₂, subst, inl, inr, length-append, arith}
use Rattle.std.specs.Prelude.{◌≢◌, reverse}
use Rattle.std.specs.Str.{bytes_eq}
use Rattle.std.proofs.lemmas.Bool.{cases_Bool, cond-true, cond-false, false≢true}
use Rattle.std.proofs.lemmas.List.{take_at, drop_at, append-nil, reverse-append, reverse-reverse}
use Rattle.std.proofs.lemmas.Grind.{flat_map-append}
use Rattle.rec_text.proofs.lemmas.ListLemmas.{same_bytes, bytes_eq-self}
use Rattle.rec_diff.specs.Changes.{stays, turns}
use Rattle.rec_diff.specs.Lines.{at_line, lines, onto_first_line}
use Rattle.rec_diff.specs.WholeLines.{same_lines, same_start, same_end, without_end, trimmed, BeginApart, IsShort}
use Rattle.rec_diff.proofs.lemmas.LineLemmas.{lines-append}
use Rattle.rec_diff.proofs.lemmas.ShareLemmas.{text_of, text_of-lines, text_of-reverse}

-- ---- texts at whose end nothing is open

pub at_line-append : (s t : List ℕ) → at_line s ≡ true → at_line t ≡ true → at_line (s ++ t) ≡ true
at_line-append [] t one two = two
at_line-append (x ∷ []) [] one two = one
at_line-append (x ∷ []) (y ∷ ys) one two = two
at_line-append (x ∷ z ∷ zs) t one two = at_line-append (z ∷ zs) t one two

pub at_line-rest : (s t : List ℕ) → at_line (s ++ t) ≡ true → at_line t ≡ true
at_line-rest [] t ends = ends
at_line-rest (x ∷ xs) [] ends = refl
at_line-rest (x ∷ []) (y ∷ ys) ends = ends
at_line-rest (x ∷ z ∷ zs) (y ∷ ys) ends = at_line-rest (z ∷ zs) (y ∷ ys) ends

-- ---- the lines of a part of a text

-- a line, and those after it
pub record IsFirstOf (line : List ℕ) (others : List (List ℕ)) : Type 0 where
  pub alone : lines line ≡ line ∷ []
  pub later : lines (text_of others) ≡ others
  pub ends : others ≢ [] → at_line line ≡ true

pub at_line-onto : (b : ℕ) (line : List ℕ) → lines line ≡ line ∷ [] → at_line line ≡ true → at_line (b ∷ line) ≡ true
at_line-onto b [] alone ends = cc
at_line-onto b (x ∷ xs) alone ends = ends

first_onto : (b : ℕ) (bs : List ℕ) (ls : List (List ℕ)) (line : List ℕ) (others : List (List ℕ)) → lines bs ≡ ls → eqb b 10 ≡ false → onto_first_line b ls ≡ line ∷ others
    → ((first : List ℕ) (rest : List (List ℕ)) → lines bs ≡ first ∷ rest → IsFirstOf first rest) → IsFirstOf line others
first_onto b bs [] line others is plain parts later =
    let l : b ∷ [] ≡ line = cc in
    let o : [] ≡ others = cc in
    record {
      alone = subst (λ x. lines x ≡ x ∷ []) l (cond-false (eqb b 10) _ _ plain);
      later = subst (λ x. lines (text_of x) ≡ x) o refl;
      ends = λ some. absurd (some (sym o));
    }
first_onto b bs (first ∷ rest) line others is plain parts later =
    let l : b ∷ first ≡ line = cc in
    let o : rest ≡ others = cc in
    let f = later first rest is in
    record {
      alone = subst (λ x. lines x ≡ x ∷ []) l (cond-false (eqb b 10) _ _ plain ∙ ap (onto_first_line b) f.alone);
      later = subst (λ x. lines (text_of x) ≡ x) o f.later;
      ends = λ some. subst (λ x. at_line x ≡ true) l (at_line-onto b first f.alone (f.ends λ none. some (sym o ∙ none)));
    }

pub first_of : (t line : List ℕ) (others : List (List ℕ)) → lines t ≡ line ∷ others → IsFirstOf line others
first_of [] line others is = cc
first_of (b ∷ bs) line others is = elim (cases_Bool (eqb b 10)) [
  | inl e ↦
      let parts : (b ∷ []) ∷ lines bs ≡ line ∷ others = sym (cond-true (eqb b 10) _ _ e) ∙ is in
      let l : b ∷ [] ≡ line = cc in
      let o : lines bs ≡ others = cc in
      record {
        alone = subst (λ x. lines x ≡ x ∷ []) l (cond-true (eqb b 10) _ _ e);
        later = subst (λ x. lines (text_of x) ≡ x) o (ap lines (text_of-lines bs));
        ends = λ some. subst (λ x. at_line x ≡ true) l e;
      }
  | inr e ↦ first_onto b bs (lines bs) line others refl e (sym (cond-false (eqb b 10) _ _ e) ∙ is) (first_of bs)
]

-- lines of a text, and those after them
pub record AreFirstOf (some others : List (List ℕ)) : Type 0 where
  pub alone : lines (text_of some) ≡ some
  pub later : lines (text_of others) ≡ others
  pub ends : others ≢ [] → at_line (text_of some) ≡ true

some_after : (ls others : List (List ℕ)) → others ≢ [] → ls ++ others ≢ []
some_after [] others some = some
some_after (l ∷ ls) others some = λ none. cc

lines_then : (line : List ℕ) (ls : List (List ℕ)) → lines line ≡ line ∷ [] → (ls ≢ [] → at_line line ≡ true) → lines (text_of ls) ≡ ls → lines (line ++ text_of ls) ≡ line ∷ ls
lines_then line [] alone ends are = ap lines (append-nil line) ∙ alone
lines_then line (l ∷ ls) alone ends are = lines-append line (text_of (l ∷ ls)) (ends λ none. cc) ∙ ap₂ (λ x y. x ++ y) alone are

pub are_first : (some others : List (List ℕ)) (t : List ℕ) → lines t ≡ some ++ others → AreFirstOf some others
are_first [] others t is = record { alone = refl; later = ap (λ x. lines (text_of x)) (sym is) ∙ ap lines (text_of-lines t) ∙ is; ends = λ some. refl }
are_first (line ∷ ls) others t is =
    let first = first_of t line (ls ++ others) is in
    let rest = are_first ls others (text_of (ls ++ others)) first.later in
    record {
      alone = lines_then line ls first.alone (λ some. first.ends λ none. some (no_first ls others none)) rest.alone;
      later = rest.later;
      ends = λ some. at_line-append line (text_of ls) (first.ends (some_after ls others some)) (rest.ends some);
    }
  where
    no_first : (ls others : List (List ℕ)) → ls ++ others ≡ [] → ls ≡ []
    no_first [] others none = refl
    no_first (l ∷ ls) others none = cc

pub later_lines : (t : List ℕ) (some others : List (List ℕ)) → lines t ≡ some ++ others → lines (text_of others) ≡ others
later_lines t some others is = (are_first some others t is).later

pub text_of-parts : (t : List ℕ) (some others : List (List ℕ)) → lines t ≡ some ++ others → t ≡ text_of some ++ text_of others
text_of-parts t some others is = sym (text_of-lines t) ∙ ap text_of is ∙ flat_map-append (λ line. line) some others

-- where lines end after which bytes come
pub lines_end : (t : List ℕ) (some others : List (List ℕ)) (rest : List ℕ) → lines t ≡ some ++ others → (rest ≢ [] → at_line t ≡ true) → text_of others ++ rest ≢ []
    → at_line (text_of some) ≡ true
lines_end t some [] rest is ends bytes = subst (λ x. at_line x ≡ true) (text_of-parts t some [] is ∙ append-nil (text_of some)) (ends bytes)
lines_end t some (l ∷ ls) rest is ends bytes = (are_first some (l ∷ ls) t is).ends λ none. cc

-- ---- lines that are the same in both texts

-- both begin with the same lines, and then they differ
record BeginSame (xs ys : List (List ℕ)) : Type 0 where
  common : List (List ℕ)
  xs_rest : List (List ℕ)
  ys_rest : List (List ℕ)
  xs_are : xs ≡ common ++ xs_rest
  ys_are : ys ≡ common ++ ys_rest
  count : same_lines xs ys ≡ length (text_of common)
  apart : BeginApart xs_rest ys_rest

begin_same : (xs ys : List (List ℕ)) → BeginSame xs ys
begin_same [] ys = record { common = []; xs_rest = []; ys_rest = ys; xs_are = refl; ys_are = refl; count = refl; apart = tt }
begin_same (x ∷ xs) [] = record { common = []; xs_rest = x ∷ xs; ys_rest = []; xs_are = refl; ys_are = refl; count = refl; apart = tt }
begin_same (x ∷ xs) (y ∷ ys) = elim (cases_Bool (bytes_eq x y)) [
  | inl e ↦
      let later = begin_same xs ys in
      record {
        common = x ∷ later.common;
        xs_rest = later.xs_rest;
        ys_rest = later.ys_rest;
        xs_are = ap (x ∷◌) later.xs_are;
        ys_are = ap (◌∷ ys) (sym (same_bytes x y e)) ∙ ap (x ∷◌) later.ys_are;
        count = cond-true (bytes_eq x y) _ _ e ∙ ap (λ n. length x + n) later.count ∙ sym (length-append x (text_of later.common));
        apart = later.apart;
      }
  | inr e ↦
      record {
        common = [];
        xs_rest = x ∷ xs;
        ys_rest = y ∷ ys;
        xs_are = refl;
        ys_are = refl;
        count = cond-false (bytes_eq x y) _ _ e;
        apart = λ same. false≢true (sym e ∙ ap (bytes_eq x) (sym same) ∙ bytes_eq-self x);
      }
]

BeginApart-first : (xs ys more others : List (List ℕ)) → BeginApart (xs ++ more) (ys ++ others) → BeginApart xs ys
BeginApart-first [] ys more others apart = tt
BeginApart-first (x ∷ xs) [] more others apart = tt
BeginApart-first (x ∷ xs) (y ∷ ys) more others apart = apart

length-text_of-reverse : (ls : List (List ℕ)) → length (text_of (reverse ls)) ≡ length (text_of ls)
length-text_of-reverse [] = refl
length-text_of-reverse (l ∷ ls) =
    ap length (text_of-reverse l ls) ∙ length-append (text_of (reverse ls)) l ∙ ap (λ n. n + length l) (length-text_of-reverse ls)
    ∙ (let e : length (text_of ls) + length l ≡ length l + length (text_of ls) = omega arith in e) ∙ sym (length-append l (text_of ls))

first_part : (t a e : List ℕ) (n : ℕ) → t ≡ a ++ e → n ≡ length e → take (length t - n) t ≡ a
first_part t a e n is count = let long : length t ≡ length a + length e = ap length is ∙ length-append a e in
    ap (take (length t - n)) is ∙ take_at a e _ (omega arith)

last_part : (t a e : List ℕ) (n : ℕ) → t ≡ a ++ e → n ≡ length e → drop (length t - n) t ≡ e
last_part t a e n is count = let long : length t ≡ length a + length e = ap length is ∙ length-append a e in
    ap (drop (length t - n)) is ∙ drop_at a e _ (omega arith)

-- the last lines of a turn stay
record TrimsEnd (o n : List ℕ) : Type 0 where
  old : List (List ℕ)
  new : List (List ℕ)
  last : List (List ℕ)
  old_are : lines o ≡ old ++ last
  new_are : lines n ≡ new ++ last
  parts : without_end (same_end o n) o n ≡ turns (text_of old) (text_of new) ∷ stays (text_of last) ∷ []
  apart : BeginApart (reverse old) (reverse new)

turned_lines : (t : List ℕ) (common rest : List (List ℕ)) → reverse (lines t) ≡ common ++ rest → lines t ≡ reverse rest ++ reverse common
turned_lines t common rest are = sym (reverse-reverse (lines t)) ∙ ap reverse are ∙ reverse-append common rest

trims_end : (o n : List ℕ) → TrimsEnd o n
trims_end o n =
    let same = begin_same (reverse (lines o)) (reverse (lines n)) in
    let old = reverse same.xs_rest in
    let new = reverse same.ys_rest in
    let last = reverse same.common in
    let old_are : lines o ≡ old ++ last = turned_lines o same.common same.xs_rest same.xs_are in
    let new_are : lines n ≡ new ++ last = turned_lines n same.common same.ys_rest same.ys_are in
    let count : same_end o n ≡ length (text_of last) = same.count ∙ sym (length-text_of-reverse same.common) in
    let old_is = text_of-parts o old last old_are in
    let new_is = text_of-parts n new last new_are in
    record {
      old = old;
      new = new;
      last = last;
      old_are = old_are;
      new_are = new_are;
      parts =
          ap (λ x. turns x (take (length n - same_end o n) n) ∷ stays (drop (length o - same_end o n) o) ∷ []) (first_part o (text_of old) (text_of last) _ old_is count)
          ∙ ap₂ (λ x y. turns (text_of old) x ∷ stays y ∷ []) (first_part n (text_of new) (text_of last) _ new_is count) (last_part o (text_of old) (text_of last) _ old_is count);
      apart = subst (λ x. BeginApart x (reverse new)) (sym (reverse-reverse same.xs_rest)) (subst (BeginApart same.xs_rest) (sym (reverse-reverse same.ys_rest)) same.apart);
    }

-- the first lines of a turn and its last ones stay
pub record Trims (o n : List ℕ) : Type 0 where
  pub first : List (List ℕ)
  pub old : List (List ℕ)
  pub new : List (List ℕ)
  pub last : List (List ℕ)
  pub old_are : lines o ≡ first ++ (old ++ last)
  pub new_are : lines n ≡ first ++ (new ++ last)
  pub parts : trimmed (turns o n) ≡ stays (text_of first) ∷ turns (text_of old) (text_of new) ∷ stays (text_of last) ∷ []
  pub short : IsShort (turns (text_of old) (text_of new))

pub trims : (o n : List ℕ) → Trims o n
trims o n =
    let same = begin_same (lines o) (lines n) in
    let s = text_of same.xs_rest in
    let t = text_of same.ys_rest in
    let end = trims_end s t in
    let s_are : lines s ≡ same.xs_rest = (are_first same.common same.xs_rest o same.xs_are).later in
    let t_are : lines t ≡ same.ys_rest = (are_first same.common same.ys_rest n same.ys_are).later in
    let o_is = text_of-parts o same.common same.xs_rest same.xs_are in
    let n_is = text_of-parts n same.common same.ys_rest same.ys_are in
    let k : ℕ = same_start o n in
    let count : length (text_of same.common) ≡ k = sym same.count in
    let start : take k o ≡ text_of same.common = ap (take k) o_is ∙ take_at (text_of same.common) s k count in
    let o_rest : drop k o ≡ s = ap (drop k) o_is ∙ drop_at (text_of same.common) s k count in
    let n_rest : drop k n ≡ t = ap (drop k) n_is ∙ drop_at (text_of same.common) t k count in
    let old_lines : lines (text_of end.old) ≡ end.old = (are_first end.old end.last s end.old_are).alone in
    let new_lines : lines (text_of end.new) ≡ end.new = (are_first end.new end.last t end.new_are).alone in
    let start_apart : BeginApart end.old end.new =
    BeginApart-first end.old end.new end.last end.last
    (subst (λ x. BeginApart x (end.new ++ end.last)) (sym s_are ∙ end.old_are) (subst (BeginApart same.xs_rest) (sym t_are ∙ end.new_are) same.apart)) in
    let both : (P : List (List ℕ) → List (List ℕ) → Type 0) → P end.old end.new → P (lines (text_of end.old)) (lines (text_of end.new)) =
    λ P p. subst (λ x. P x (lines (text_of end.new))) (sym old_lines) (subst (P end.old) (sym new_lines) p) in
    record {
      first = same.common;
      old = end.old;
      new = end.new;
      last = end.last;
      old_are = same.xs_are ∙ ap (same.common ++◌) (sym s_are ∙ end.old_are);
      new_are = same.ys_are ∙ ap (same.common ++◌) (sym t_are ∙ end.new_are);
      parts = ap₂ (λ x y. stays x ∷ y) start (ap₂ (λ x y. without_end (same_end x y) x y) o_rest n_rest ∙ end.parts);
      short = (both BeginApart start_apart, both (λ x y. BeginApart (reverse x) (reverse y)) end.apart);
    }
