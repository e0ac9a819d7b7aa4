-- What lines that are the same in both texts are as bytes.
use Rattle.std.proofs.Common.{◌≡◌, ◌∙◌, ℕ, ◌+◌, ◌-◌, ◌≤◌, eqb, List, [], ◌∷◌, ◌++◌, length, take, drop, refl, sym, ap, ap₂, subst, inl, inr, append_assoc, length-append}
use Rattle.std.proofs.Common.{arith}
use Rattle.std.specs.Prelude.{reverse, flat_map}
use Rattle.std.specs.Str.{bytes_eq}
use Rattle.std.proofs.lemmas.Bool.{cases_Bool, cond-true, cond-false}
use Rattle.std.proofs.lemmas.List.{take_at, drop_at, append-nil, reverse-append, reverse-reverse}
use Rattle.std.proofs.lemmas.Grind.{flat_map-append}
use Rattle.rec_text.proofs.lemmas.ListLemmas.{same_bytes}
use Rattle.rec_diff.specs.Lines.{lines, onto_first_line}
use Rattle.rec_diff.specs.WholeLines.{same_lines, same_start, same_end}

abbrev pub text_of : List (List ℕ) → List ℕ
text_of ls = flat_map (λ line. line) ls

text_of-onto : (b : ℕ) (ls : List (List ℕ)) → text_of (onto_first_line b ls) ≡ b ∷ text_of ls
text_of-onto b [] = refl
text_of-onto b (l ∷ ls) = refl

pub text_of-lines : (t : List ℕ) → text_of (lines t) ≡ t
text_of-lines [] = refl
text_of-lines (b ∷ bs) = elim (cases_Bool (eqb b 10)) [
  | inl e ↦ ap text_of (cond-true (eqb b 10) _ _ e) ∙ ap (b ∷◌) (text_of-lines bs)
  | inr e ↦ ap text_of (cond-false (eqb b 10) _ _ e) ∙ text_of-onto b (lines bs) ∙ ap (b ∷◌) (text_of-lines bs)
]

-- both texts begin with the same n bytes
pub record ShareStart (n : ℕ) (s t : List ℕ) : Type 0 where
  pub common : List ℕ
  pub s_rest : List ℕ
  pub t_rest : List ℕ
  pub s_is : s ≡ common ++ s_rest
  pub t_is : t ≡ common ++ t_rest
  pub count : length common ≡ n

-- both texts end in the same n bytes
pub record ShareEnd (n : ℕ) (s t : List ℕ) : Type 0 where
  pub common : List ℕ
  pub s_rest : List ℕ
  pub t_rest : List ℕ
  pub s_is : s ≡ s_rest ++ common
  pub t_is : t ≡ t_rest ++ common
  pub count : length common ≡ n

lines_share : (xs ys : List (List ℕ)) → ShareStart (same_lines xs ys) (text_of xs) (text_of ys)
lines_share [] ys = record { common = []; s_rest = []; t_rest = text_of ys; s_is = refl; t_is = refl; count = refl }
lines_share (x ∷ xs) [] = record { common = []; s_rest = x ++ text_of xs; t_rest = []; s_is = refl; t_is = refl; count = refl }
lines_share (x ∷ xs) (y ∷ ys) = elim (cases_Bool (bytes_eq x y)) [
  | inl e ↦
      let later = lines_share xs ys in
      record {
        common = x ++ later.common;
        s_rest = later.s_rest;
        t_rest = later.t_rest;
        s_is = ap (x ++◌) later.s_is ∙ sym (append_assoc x later.common later.s_rest);
        t_is = ap (λ z. z ++ text_of ys) (sym (same_bytes x y e)) ∙ ap (x ++◌) later.t_is ∙ sym (append_assoc x later.common later.t_rest);
        count = length-append x later.common ∙ ap (λ n. length x + n) later.count ∙ sym (cond-true (bytes_eq x y) _ _ e);
      }
  | inr e ↦ record { common = []; s_rest = x ++ text_of xs; t_rest = y ++ text_of ys; s_is = refl; t_is = refl; count = sym (cond-false (bytes_eq x y) _ _ e) }
]

pub text_of-reverse : (x : List ℕ) (xs : List (List ℕ)) → text_of (reverse (x ∷ xs)) ≡ text_of (reverse xs) ++ x
text_of-reverse x xs =
    ap text_of (reverse-append (x ∷ []) xs) ∙ flat_map-append (λ line. line) (reverse xs) (x ∷ []) ∙ ap (text_of (reverse xs) ++◌) (append-nil x)

lines_share_end : (xs ys : List (List ℕ)) → ShareEnd (same_lines xs ys) (text_of (reverse xs)) (text_of (reverse ys))
lines_share_end [] ys = record { common = []; s_rest = []; t_rest = text_of (reverse ys); s_is = refl; t_is = sym (append-nil _); count = refl }
lines_share_end (x ∷ xs) [] = record { common = []; s_rest = text_of (reverse (x ∷ xs)); t_rest = []; s_is = sym (append-nil _); t_is = refl; count = refl }
lines_share_end (x ∷ xs) (y ∷ ys) = elim (cases_Bool (bytes_eq x y)) [
  | inl e ↦
      let later = lines_share_end xs ys in
      record {
        common = later.common ++ x;
        s_rest = later.s_rest;
        t_rest = later.t_rest;
        s_is = text_of-reverse x xs ∙ ap (λ z. z ++ x) later.s_is ∙ append_assoc later.s_rest later.common x;
        t_is = text_of-reverse y ys ∙ ap₂ (λ z w. z ++ w) later.t_is (sym (same_bytes x y e)) ∙ append_assoc later.t_rest later.common x;
        count =
            length-append later.common x ∙ ap (λ n. n + length x) later.count
            ∙ (let e : same_lines xs ys + length x ≡ length x + same_lines xs ys = omega arith in e) ∙ sym (cond-true (bytes_eq x y) _ _ e);
      }
  | inr e ↦
      record {
        common = [];
        s_rest = text_of (reverse (x ∷ xs));
        t_rest = text_of (reverse (y ∷ ys));
        s_is = sym (append-nil _);
        t_is = sym (append-nil _);
        count = sym (cond-false (bytes_eq x y) _ _ e);
      }
]

pub starts_share : (old new : List ℕ) → ShareStart (same_start old new) old new
starts_share old new =
    subst (λ s. ShareStart (same_start old new) s new) (text_of-lines old) (subst (ShareStart (same_start old new) (text_of (lines old))) (text_of-lines new) (lines_share (lines old) (lines new)))

back : (t : List ℕ) → text_of (reverse (reverse (lines t))) ≡ t
back t = ap text_of (reverse-reverse (lines t)) ∙ text_of-lines t

pub ends_share : (old new : List ℕ) → ShareEnd (same_end old new) old new
ends_share old new =
    subst (λ s. ShareEnd (same_end old new) s new) (back old)
    (subst (ShareEnd (same_end old new) (text_of (reverse (reverse (lines old))))) (back new) (lines_share_end (reverse (lines old)) (reverse (lines new))))

module _ {n : ℕ} {s t : List ℕ} (share : ShareStart n s t) where
  pub start_fits : n ≤ length s
  start_fits = let e : length s ≡ length share.common + length share.s_rest = ap length share.s_is ∙ length-append _ _ in let c = share.count in omega arith

  pub start_fits_new : n ≤ length t
  start_fits_new = let e : length t ≡ length share.common + length share.t_rest = ap length share.t_is ∙ length-append _ _ in let c = share.count in omega arith

  pub start_same : take n s ≡ take n t
  start_same = ap (take n) share.s_is ∙ take_at share.common share.s_rest n share.count ∙ sym (ap (take n) share.t_is ∙ take_at share.common share.t_rest n share.count)

module _ {n : ℕ} {s t : List ℕ} (share : ShareEnd n s t) where
  end_count : length s ≡ length share.s_rest + n
  end_count = ap length share.s_is ∙ length-append share.s_rest share.common ∙ ap (λ k. length share.s_rest + k) share.count

  end_count_new : length t ≡ length share.t_rest + n
  end_count_new = ap length share.t_is ∙ length-append share.t_rest share.common ∙ ap (λ k. length share.t_rest + k) share.count

  pub end_fits : n ≤ length s
  end_fits = omega (arith, end_count)

  pub end_fits_new : n ≤ length t
  end_fits_new = omega (arith, end_count_new)

  pub end_same : drop (length s - n) s ≡ drop (length t - n) t
  end_same =
      let a : length share.s_rest ≡ length s - n = omega (arith, end_count) in
      let b : length share.t_rest ≡ length t - n = omega (arith, end_count_new) in
      ap (drop (length s - n)) share.s_is ∙ drop_at share.s_rest share.common _ a ∙ sym (ap (drop (length t - n)) share.t_is ∙ drop_at share.t_rest share.common _ b)
