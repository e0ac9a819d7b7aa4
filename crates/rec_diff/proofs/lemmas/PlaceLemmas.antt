-- The bytes between two places.
use Rattle.std.proofs.Common.{◌≡◌, ◌∙◌, ℕ, ◌+◌, ◌-◌, ◌<◌, ◌≤◌, List, ◌∷◌, ◌++◌, length, take, drop, get_or, refl, sym, ap, length-append, length-drop, take-add, drop-drop, arith}
use Rattle.std.specs.List.{between}
use Rattle.std.proofs.lemmas.List.{take-take, drop-take, take_at, drop_at, drop_more}
use Rattle.std.proofs.lemmas.List.Edits.{length-between}

pub take_then : (s l : ℕ) (t : List ℕ) → s ≤ l → take s t ++ between s l t ≡ take l t
take_then s l t le = sym (take-add s (l - s) t) ∙ ap (λ k. take k t) (let e : s + (l - s) ≡ l = omega arith in e)

pub between_then : (s l h : ℕ) (t : List ℕ) → s ≤ l → l ≤ h → between s l t ++ between l h t ≡ between s h t
between_then s l h t p q =
    let count : h - s ≡ (l - s) + (h - l) = omega arith in
    let place : drop (l - s) (drop s t) ≡ drop l t = drop-drop (l - s) s t ∙ ap (λ k. drop k t) (let e : s + (l - s) ≡ l = omega arith in e) in
    sym (ap (λ k. take k (drop s t)) count ∙ take-add (l - s) (h - l) (drop s t) ∙ ap (λ u. take (l - s) (drop s t) ++ take (h - l) u) place)

-- the next one of a list
pub next_item : {X : Type 0} (xs : List X) (i : ℕ) (x d : X) → i < length xs → x ≡ get_or xs i d → drop i xs ≡ x ∷ drop (i + 1) xs
next_item xs i x d there is = drop_more xs i d there ∙ ap (λ y. y ∷ drop (i + 1) xs) (sym is)

pub between_from : (h k : ℕ) (t : List ℕ) → between h (h + k) t ≡ take k (drop h t)
between_from h k t = ap (λ n. take n (drop h t)) (let e : h + k - h ≡ k = omega arith in e)

-- a part between two places, without k bytes at its start and m at its end
module _ (s l k m : ℕ) (t : List ℕ) (order : s ≤ l) (fits : l ≤ length t) (start : k ≤ length (between s l t)) (end : m ≤ length (drop k (between s l t))) where
  part_length : length (between s l t) ≡ l - s
  part_length = length-between t s l fits

  rest_length : length (drop k (between s l t)) ≡ l - (s + k)
  rest_length = length-drop k (between s l t) ∙ ap (λ n. n - k) part_length ∙ (let e : l - s - k ≡ l - (s + k) = omega arith in e)

  pub cut_order : s + k ≤ l - m
  cut_order = omega (arith, part_length, rest_length)

  pub cut_end : l - m ≤ l
  cut_end = omega arith

  pub cut_prefix : take (s + k) t ≡ take s t ++ take k (between s l t)
  cut_prefix = take-add s k t ∙ ap (take s t ++◌) (sym (take-take k (l - s) (drop s t) (omega (arith, part_length))))

  rest_is : drop k (between s l t) ≡ take (l - (s + k)) (drop (s + k) t)
  rest_is =
      let count : l - s ≡ k + (l - (s + k)) = omega (arith, part_length) in
      ap (λ n. drop k (take n (drop s t))) count ∙ drop-take k (l - (s + k)) (drop s t) ∙ ap (take (l - (s + k))) (drop-drop k s t)

  pub cut_part : between (s + k) (l - m) t ≡ take (length (drop k (between s l t)) - m) (drop k (between s l t))
  cut_part =
      let count : l - m - (s + k) ≡ length (drop k (between s l t)) - m = omega (arith, part_length, rest_length) in
      let less : length (drop k (between s l t)) - m ≤ l - (s + k) = omega (arith, rest_length) in
      ap (λ n. take n (drop (s + k) t)) count
      ∙ sym (ap (take (length (drop k (between s l t)) - m)) rest_is ∙ take-take (length (drop k (between s l t)) - m) (l - (s + k)) (drop (s + k) t) less)

-- ---- what stands at a place

abbrev pub Stands : ℕ → List ℕ → List ℕ → Type 0
Stands place t whole = take (length t) (drop place whole) ≡ t

pub stands_first : (place : ℕ) (t u whole : List ℕ) → Stands place (t ++ u) whole → Stands place t whole
stands_first place t u whole is =
    let count : length t ≤ length (t ++ u) = omega (arith, length-append t u) in
    sym (take-take (length t) (length (t ++ u)) (drop place whole) count) ∙ ap (take (length t)) is ∙ take_at t u (length t) refl

pub stands_next : (place : ℕ) (t u whole : List ℕ) → Stands place (t ++ u) whole → Stands (place + length t) u whole
stands_next place t u whole is =
    ap (take (length u)) (sym (drop-drop (length t) place whole)) ∙ sym (drop-take (length t) (length u) (drop place whole))
    ∙ ap (λ n. drop (length t) (take n (drop place whole))) (sym (length-append t u)) ∙ ap (drop (length t)) is ∙ drop_at t u (length t) refl
