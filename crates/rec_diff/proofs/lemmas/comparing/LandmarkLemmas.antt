-- The lines of a text, sorted, and those that stand once.
use Rattle.std.proofs.Common.{◌≡◌, ◌∙◌, ℕ, zero, suc, ◌+◌, ◌-◌, ◌<◌, ◌≤◌, true, false, cond, Ordering, List, [], ◌∷◌, ◌++◌, None, Some, length, get_or, drop, map}
use Rattle.std.proofs.Common.{refl, sym, ap, ap₂, subst, inl, inr, arith}
use Rattle.std.specs.Prelude.{not, ◌&&◌}
use Rattle.std.specs.Cmp.{IsStrictWeakOrder}
use Rattle.std.specs.Cmp.Lexicographic.{slice_cmp, slice_partial_cmp, nat_list_cmp_total, texts_ties, lists_agrees}
use Rattle.std.specs.List.{filter, AllByRecursion}
use Rattle.std.specs.List.Sorted.{IsSortedBy, IsStableBy, ties, IsPartitionedBy, IsPartitionPoint}
use Rattle.std.specs.Ordering.{is_lt, is_eq, is_some_and, nat_cmp, ordering_reverse}
use Rattle.std.specs.declared.cmp.Ordering.TheVariants.{Less, Equal, Greater}
use Rattle.std.specs.Str.{bytes_eq}
use Rattle.std.proofs.lemmas.Bool.{cases_Bool, cond-true, cond-false, false≢true, false_from_ne_true}
use Rattle.std.proofs.lemmas.List.{append-nil, append_assoc, length-append, map-append}
use Rattle.std.proofs.lemmas.List.Elements.{filter-append, filter_agree}
use Rattle.std.proofs.lemmas.List.Sorted.{ranks_by, sorted_far}
use Rattle.rec_text.proofs.lemmas.ListLemmas.{bytes_eq-sym, same_bytes}
use Rattle.rec_diff.specs.declared.comparing.landmarks.Line.{Line}
use Rattle.rec_diff.specs.Comparing.{places_of, only}
use Rattle.rec_diff.specs.Lines.{lines}
use Rattle.rec_diff.specs.proving.SortedLines.{is_before, places_in, AreLinesOf, IsNoneBefore, AreSorted, begins_with}
use Rattle.rec_diff.specs.proving.Turns.{IsFirstLine}

-- ---- the order of texts

neither : (r s : Ordering) → s ≡ ordering_reverse r → (not (is_lt r) && not (is_lt s)) ≡ is_eq r
neither Less s e = refl
neither Equal s e = ap (λ x. not (is_lt x)) e
neither Greater s e = ap (λ x. not (is_lt x)) e

neither_before : (text other : List ℕ) → (not (is_before text other) && not (is_before other text)) ≡ bytes_eq text other
neither_before text other =
    neither (slice_cmp nat_cmp text other) (slice_cmp nat_cmp other text) (nat_list_cmp_total.antisymm other text) ∙ sym (texts_ties text other)

pub texts_order : IsStrictWeakOrder is_before
texts_order = ranks_by nat_list_cmp_total (λ (text : List ℕ). text)

lines_order : IsStrictWeakOrder (λ (x y : Line). is_before x.text.now y.text.now)
lines_order = ranks_by nat_list_cmp_total (λ (l : Line). l.text.now)

pub equal_from : (text other : List ℕ) → is_before text other ≡ false → is_before other text ≡ false → bytes_eq text other ≡ true
equal_from text other one two = sym (neither_before text other) ∙ ap₂ (λ x y. not x && not y) one two

pub before_apart : (text other : List ℕ) → is_before text other ≡ true → bytes_eq text other ≡ false
before_apart text other before = sym (neither_before text other) ∙ ap (λ x. not x && not (is_before other text)) before

-- what `<` answers
pub told_before : (text other : List ℕ) → is_some_and is_lt (slice_partial_cmp (λ x y. Some (nat_cmp x y)) text other) ≡ is_before text other
told_before text other = ap (is_some_and is_lt) (lists_agrees (λ x y. refl) text other)

-- ---- sorted lines

all_after : {X : Type 0} (P : X → Type 0) (xs : List X) (n : ℕ) → ((k : ℕ) (d : X) → n ≤ k → k < length xs → P (get_or xs k d)) → AllByRecursion P (drop n xs)
all_after P [] zero each = tt
all_after P [] (suc n) each = tt
all_after P (x ∷ xs) zero each = (each 0 x (omega arith) (omega arith), all_after P xs 0 (λ k d from below. each (suc k) d (omega arith) (omega arith)))
all_after P (x ∷ xs) (suc n) each = all_after P xs n (λ k d from below. each (suc k) d (omega arith) (omega arith))

pub sorted_from : (some : List Line) → IsSortedBy (λ (x y : Line). is_before x.text.now y.text.now) some → AreSorted some
sorted_from [] up = tt
sorted_from (l ∷ some) up = (
  all_after (λ (x : Line). is_before x.text.now l.text.now ≡ false) some 0
      (λ k d from below. sorted_far (λ (x y : Line). is_before x.text.now y.text.now) lines_order (l ∷ some) up 0 (suc k) d (omega arith) (omega arith)),
  sorted_from some (λ k d from below.
      let next : suc k + 1 ≡ suc (k + 1) = omega arith in
      subst (λ n. is_before (get_or (l ∷ some) n d).text.now (get_or some k d).text.now ≡ false) next (up (suc k) d (omega arith) (omega arith))),
)

sorted-drop : (n : ℕ) (some : List Line) → AreSorted some → AreSorted (drop n some)
sorted-drop zero some sorted = sorted
sorted-drop (suc n) [] sorted = tt
sorted-drop (suc n) (l ∷ some) sorted = sorted-drop n some sorted.1

pub at_each : {X : Type 0} (P : X → Type 0) (xs : List X) → AllByRecursion P xs → (k : ℕ) (d : X) → k < length xs → P (get_or xs k d)
at_each P [] all k d below = absurd (omega arith)
at_each P (x ∷ xs) all zero d below = all.0
at_each P (x ∷ xs) all (suc k) d below = at_each P xs all.1 k d (omega arith)

-- where a line comes before this text, those before it do
pub is_parted : (text : List ℕ) (some : List Line) → AreSorted some → IsPartitionedBy (λ (l : Line). is_before l.text.now text) some
is_parted text [] sorted i j d order below before = absurd (omega arith)
is_parted text (l ∷ some) sorted zero zero d order below before = before
is_parted text (l ∷ some) sorted (suc i) zero d order below before = absurd (omega arith)
is_parted text (l ∷ some) sorted (suc i) (suc j) d order below before = is_parted text some sorted.1 i j d (omega arith) (omega arith) before
is_parted text (l ∷ some) sorted zero (suc j) d order below before = elim (cases_Bool (is_before l.text.now text)) [
  | inl e ↦ e
  | inr e ↦
      let after = at_each (λ (x : Line). is_before x.text.now l.text.now ≡ false) some sorted.0 j d (omega arith) in
      absurd (false≢true (sym (texts_order.chain (get_or some j d).text.now l.text.now text after e) ∙ before))
]

places-drop : (text : List ℕ) (some : List Line) (n : ℕ) → ((k : ℕ) (d : Line) → k < n → k < length some → is_before (get_or some k d).text.now text ≡ true)
    → places_in text (drop n some) ≡ places_in text some
places-drop text some zero below = refl
places-drop text [] (suc n) below = refl
places-drop text (l ∷ some) (suc n) below =
    places-drop text some n (λ k d less fits. below (suc k) d (omega arith) (omega arith))
    ∙ ap (map (λ (x : Line). x.at)) (sym (cond-false (bytes_eq l.text.now text) _ _ (before_apart l.text.now text (below 0 l (omega arith) (omega arith)))))

-- what a search leaves
pub record IsLeft (text : List ℕ) (some rest : List Line) : Type 0 where
  pub sorted : AreSorted rest
  pub first : IsNoneBefore text rest
  pub places : places_in text rest ≡ places_in text some

pub is_left : (text : List ℕ) (some : List Line) (n : ℕ) → AreSorted some
    → IsPartitionPoint (λ (l : Line). is_before l.text.now text ≡ true) (λ (l : Line). is_before l.text.now text ≡ false) some n → IsLeft text some (drop n some)
is_left text some n sorted parts = record {
  sorted = sorted-drop n some sorted;
  first = all_after (λ (l : Line). is_before l.text.now text ≡ false) some n (λ k d from below. parts.1 k d from below);
  places = places-drop text some n (λ k d less fits. parts.0 k d (omega arith) less);
}

-- ---- a line that stands once

places_apart : (text : List ℕ) (l : Line) (some : List Line) → bytes_eq l.text.now text ≡ false → is_before l.text.now text ≡ false → IsNoneBefore l.text.now some
    → places_in text some ≡ []
places_apart text l [] other after sorted = refl
places_apart text l (m ∷ some) other after sorted =
    let apart : bytes_eq m.text.now text ≡ false = false_from_ne_true _ (λ same.
    let not_before : is_before text l.text.now ≡ false = subst (λ t. is_before t l.text.now ≡ false) (same_bytes m.text.now text same) sorted.0 in
    false≢true (sym other ∙ equal_from l.text.now text after not_before)) in
    ap (map (λ (x : Line). x.at)) (cond-false (bytes_eq m.text.now text) _ _ apart) ∙ places_apart text l some other after sorted.1

pub places_first : (text : List ℕ) (l : Line) (some : List Line) → bytes_eq l.text.now text ≡ true → places_in text (l ∷ some) ≡ l.at ∷ places_in text some
places_first text l some same = ap (map (λ (x : Line). x.at)) (cond-true (bytes_eq l.text.now text) _ _ same)

pub places_later : (text : List ℕ) (l : Line) (some : List Line) → bytes_eq l.text.now text ≡ false → places_in text (l ∷ some) ≡ places_in text some
places_later text l some other = ap (map (λ (x : Line). x.at)) (cond-false (bytes_eq l.text.now text) _ _ other)

-- the first of these is it, and the next one isn't
pub alone_first : (text : List ℕ) (l : Line) (some : List Line) → AreSorted (l ∷ some) → IsNoneBefore text (l ∷ some) → bytes_eq l.text.now text ≡ true
    → begins_with text some ≡ false → only (places_in text (l ∷ some)) ≡ Some l.at
alone_first text l [] sorted first same next = ap only (places_first text l [] same)
alone_first text l (m ∷ some) sorted first same next =
    ap only (places_first text l (m ∷ some) same
    ∙ ap (l.at ∷◌) (places_later text m some next ∙ places_apart text m some next first.1.0 sorted.1.0))

pub alone_twice : (text : List ℕ) (l : Line) (some : List Line) → bytes_eq l.text.now text ≡ true → begins_with text some ≡ true → only (places_in text (l ∷ some)) ≡ None
alone_twice text l [] same next = absurd (false≢true next)
alone_twice text l (m ∷ some) same next = ap only (places_first text l (m ∷ some) same ∙ ap (l.at ∷◌) (places_first text m some next))

pub alone_none : (text : List ℕ) (l : Line) (some : List Line) → AreSorted (l ∷ some) → IsNoneBefore text (l ∷ some) → bytes_eq l.text.now text ≡ false
    → only (places_in text (l ∷ some)) ≡ None
alone_none text l some sorted first other = ap only (places_later text l some other ∙ places_apart text l some other first.0 sorted.0)

-- ---- the lines of a text

pub places-push : (text : List ℕ) (some : List Line) (l : Line) → places_in text (some ++ l ∷ []) ≡ places_in text some ++ cond (bytes_eq l.text.now text) (l.at ∷ []) []
places-push text some l =
    ap (map (λ (x : Line). x.at)) (filter-append (λ (x : Line). bytes_eq x.text.now text) some (l ∷ []))
    ∙ map-append (λ (x : Line). x.at) (filter (λ (x : Line). bytes_eq x.text.now text) some) (filter (λ (x : Line). bytes_eq x.text.now text) (l ∷ []))
    ∙ ap (λ ats. places_in text some ++ ats) (elim (cases_Bool (bytes_eq l.text.now text)) [
      | inl e ↦ places_first text l [] e ∙ sym (cond-true (bytes_eq l.text.now text) _ _ e)
      | inr e ↦ places_later text l [] e ∙ sym (cond-false (bytes_eq l.text.now text) _ _ e)
    ])

-- these lines are read, and the rest is left
pub record AreRead (text : List ℕ) (some : List Line) (rest : List ℕ) : Type 0 where
  pub fits : length rest ≤ length text
  pub found : (line : List ℕ) → places_in line some ++ places_of line (length text - length rest) (lines rest) ≡ places_of line 0 (lines text)

pub read_none : (text : List ℕ) (some : List Line) → some ≡ [] → AreRead text some text
read_none text some none = record {
  fits = omega arith;
  found = λ line.
      let start : length text - length text ≡ 0 = omega arith in
      ap₂ (λ xs n. places_in line xs ++ places_of line n (lines text)) none start;
}

pub read_more : (text : List ℕ) (some more : List Line) (rest following : List ℕ) (l : Line) → AreRead text some rest → IsFirstLine rest l.text.now following
    → l.at ≡ length text - length rest → more ≡ some ++ l ∷ [] → AreRead text more following
read_more text some more rest following l are first at pushed =
    let long : length rest ≡ length l.text.now + length following = ap length first.whole ∙ length-append l.text.now following in
    let next : l.at + length l.text.now ≡ length text - length following = omega (arith, are.fits) in
    record {
      fits = omega (arith, are.fits);
      found = λ line.
          ap (λ xs. places_in line xs ++ places_of line (length text - length following) (lines following)) pushed
          ∙ ap (λ ats. ats ++ places_of line (length text - length following) (lines following)) (places-push line some l)
          ∙ append_assoc (places_in line some) (cond (bytes_eq l.text.now line) (l.at ∷ []) []) (places_of line (length text - length following) (lines following))
          ∙ ap (λ ats. places_in line some ++ ats) (elim (cases_Bool (bytes_eq l.text.now line)) [
            | inl e ↦ ap (λ ats. ats ++ places_of line (length text - length following) (lines following)) (cond-true (bytes_eq l.text.now line) _ _ e)
                ∙ ap (λ n. l.at ∷ places_of line n (lines following)) (sym next) ∙ sym (cond-true (bytes_eq l.text.now line) _ _ e)
            | inr e ↦ ap (λ ats. ats ++ places_of line (length text - length following) (lines following)) (cond-false (bytes_eq l.text.now line) _ _ e)
                ∙ ap (λ n. places_of line n (lines following)) (sym next) ∙ sym (cond-false (bytes_eq l.text.now line) _ _ e)
          ])
          ∙ ap₂ (λ n ls. places_in line some ++ places_of line n ls) at (sym first.lines)
          ∙ are.found line;
    }

pub all_read : (text : List ℕ) (some : List Line) (rest : List ℕ) → AreRead text some rest → rest ≡ [] → AreLinesOf text some
all_read text some rest are none = λ line.
    sym (append-nil (places_in line some))
    ∙ ap (λ ls. places_in line some ++ places_of line (length text - length rest) (lines ls)) (sym none)
    ∙ are.found line

-- ---- and sorted

pub places_moved : (some others : List Line) → IsStableBy (λ (x y : Line). is_before x.text.now y.text.now) some others
    → (line : List ℕ) → places_in line others ≡ places_in line some
places_moved some others stable = λ line.
    let l : Line = record { text = record { ref_ptr = (0, 0); now = line }; at = 0 } in
    let alike : (x : Line) → bytes_eq x.text.now line ≡ ties (λ (x y : Line). is_before x.text.now y.text.now) l x = λ x.
    bytes_eq-sym x.text.now line ∙ sym (neither_before line x.text.now) in
    ap (map (λ (x : Line). x.at)) (filter_agree _ _ alike others ∙ stable l ∙ sym (filter_agree _ _ alike some))

pub lines_moved : (text : List ℕ) (some others : List Line) → AreLinesOf text some → IsStableBy (λ (x y : Line). is_before x.text.now y.text.now) some others
    → AreLinesOf text others
lines_moved text some others are stable = λ line. places_moved some others stable line ∙ are line
