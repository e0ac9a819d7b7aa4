-- How many landmarks can follow one another, from each one on.
use Rattle.std.proofs.Common.{◌≡◌, ◌∙◌, ℕ, ◌+◌, ◌-◌, ◌<◌, ◌≤◌, true, false, leb, ltb, List, [], ◌∷◌, ◌++◌, length, get_or, set}
use Rattle.std.proofs.Common.{refl, sym, ap, ap₂, subst, inl, inr, arith, get_or-set_same, get_or-set_other, length-set}
use Rattle.std.specs.Prelude.{reverse}
use Rattle.std.specs.List.Sorted.{IsPartitionedBy, IsPartitionPoint}
use Rattle.std.proofs.lemmas.Bool.{cases_Bool, cases_eq, cases_order, cond-true, cond-false, leb-true, leb-false, ltb-true, ltb-false, lt-ltb}
use Rattle.std.proofs.lemmas.List.{get_or_default, get_or_push, get_or_append_left, length_push, reverse-append, append_assoc, length-reverse, same_from_push}
use Rattle.rec_diff.specs.declared.turn.Place.{Place}
use Rattle.rec_diff.specs.declared.comparing.choosing.Ranking.{Ranking}
use Rattle.rec_diff.specs.Comparing.{longest_from}
use Rattle.rec_diff.specs.proving.Ranks.{reach, ranks_of, AreTops, IsRanking}

-- ---- what the first one does

-- the first one is too low, or it is chosen, or more can follow without it
pub data FirstIs (least : ℕ) (m : Place) (marks : List Place) : Type 0 where
  low : m.new < least → longest_from least (m ∷ marks) ≡ longest_from least marks → FirstIs least m marks
  taken : least ≤ m.new → reach least marks ≤ reach (m.new + 1) marks + 1 → longest_from least (m ∷ marks) ≡ m ∷ longest_from (m.new + 1) marks → FirstIs least m marks
  passed : least ≤ m.new → reach (m.new + 1) marks + 1 < reach least marks → longest_from least (m ∷ marks) ≡ longest_from least marks → FirstIs least m marks

pub first_is : (least : ℕ) (m : Place) (marks : List Place) → FirstIs least m marks
first_is least m marks =
    let one = m ∷ longest_from (m.new + 1) marks in
    let other = longest_from least marks in
    elim (cases_Bool (leb least m.new)) [
      | inr e ↦ low (leb-false least m.new e) (cond-false (leb least m.new) _ _ e)
      | inl e ↦ elim (cases_Bool (ltb (length one) (length other))) [
        | inl more ↦
            passed (leb-true least m.new e) (omega (arith, ltb-true (length one) (length other) more))
            (cond-true (leb least m.new) _ _ e ∙ cond-true (ltb (length one) (length other)) _ _ more)
        | inr few ↦
            taken (leb-true least m.new e) (omega (arith, ltb-false (length one) (length other) few))
            (cond-true (leb least m.new) _ _ e ∙ cond-false (ltb (length one) (length other)) _ _ few)
      ]
    ]

pub reach-rest : (least : ℕ) (m : Place) (marks : List Place) → reach least marks ≤ reach least (m ∷ marks)
reach-rest least m marks = elim (first_is least m marks) [
  | low below is ↦ omega (arith, ap length is)
  | taken above few is ↦ omega (arith, ap length is)
  | passed above more is ↦ omega (arith, ap length is)
]

-- from a later place on as many at most
pub reach_falls : (marks : List Place) (a b : ℕ) → a ≤ b → reach b marks ≤ reach a marks
reach_falls [] a b order = omega arith
reach_falls (m ∷ marks) a b order =
    let rest = reach_falls marks a b order in
    let later = reach-rest a m marks in
    elim (first_is b m marks) [
      | low below is ↦ omega (arith, ap length is)
      | passed above more is ↦ omega (arith, ap length is)
      | taken above few is ↦ elim (first_is a m marks) [
        | low below also ↦ omega arith
        | taken more fewer also ↦ omega (arith, ap length is, ap length also)
        | passed more most also ↦ omega (arith, ap length is, ap length also)
      ]
    ]

-- ---- tops

top_at : (tops : List ℕ) (n d : ℕ) → n < length tops → get_or tops n d ≡ get_or tops n 0
top_at tops n d fits = get_or_default tops n d 0 fits

pub tops_fall : (marks : List Place) (tops : List ℕ) (place : ℕ) → AreTops marks tops → IsPartitionedBy (λ top. ltb place top) tops
tops_fall marks tops place are = λ i j d order fits above.
    let high : place < get_or tops j 0 = omega (arith, ltb-true place (get_or tops j d) above, top_at tops j d fits) in
    let reaches = are.reached (place + 1) j fits (omega arith) in
    let within = are.within (place + 1) i (omega arith) in
    lt-ltb place (get_or tops i d) (omega (arith, within.0, within.1, top_at tops i d within.0))

same_bound : (a b : ℕ) → (b < a → b < b) → (a < b → ⊥) → a ≡ b
same_bound a b one other = elim (cases_order a b) [
  | inl same ↦ same
  | inr apart ↦ elim apart [ inl less ↦ absurd (other less) | inr more ↦ omega (arith, one more) ]
]

pub count_above : (marks : List Place) (tops : List ℕ) (place count : ℕ) → AreTops marks tops → count ≤ length tops
    → IsPartitionPoint (λ top. ltb place top ≡ true) (λ top. ltb place top ≡ false) tops count → count ≡ reach (place + 1) marks
count_above marks tops place count are fits parts = same_bound count (reach (place + 1) marks)
    (λ more. are.reached (place + 1) (reach (place + 1) marks) (omega arith) (omega (arith, ltb-true place _ (parts.0 (reach (place + 1) marks) 0 (omega arith) more))))
    (λ more.
    let within = are.within (place + 1) count more in
    (omega (arith, within.1, ltb-false place _ (parts.1 count 0 (omega arith) within.0))))

-- a top is put in its place
pub record IsPut (tops : List ℕ) (n top : ℕ) (others : List ℕ) : Type 0 where
  pub here : get_or others n 0 ≡ top
  pub room : n < length others
  pub kept : (k : ℕ) → k < length tops → k < length others
  pub few : (k : ℕ) → k < length others → (k ≡ n → ⊥) → k < length tops
  pub same : (k : ℕ) → (k ≡ n → ⊥) → k < length tops → get_or others k 0 ≡ get_or tops k 0

pub put_over : (tops : List ℕ) (n top : ℕ) → n < length tops → IsPut tops n top (set tops n top)
put_over tops n top fits = record {
  here = get_or-set_same tops n top 0 fits;
  room = omega (arith, length-set tops n top);
  kept = λ k below. omega (arith, length-set tops n top);
  few = λ k below other. omega (arith, length-set tops n top);
  same = λ k other below. get_or-set_other tops n k top 0 other;
}

pub put_after : (tops : List ℕ) (n top : ℕ) → n ≤ length tops → length tops ≤ n → IsPut tops n top (tops ++ top ∷ [])
put_after tops n top fits full =
    let long = length_push tops top in
    record {
      here = get_or_push tops top 0 n (omega arith);
      room = omega arith;
      kept = λ k below. omega arith;
      few = λ k below other. omega arith;
      same = λ k other below. get_or_append_left tops (top ∷ []) 0 k below;
    }

tops_within : (m : Place) (marks : List Place) (tops others : List ℕ) (count : ℕ) → AreTops marks tops → count ≡ reach (m.new + 1) marks
    → IsPut tops count m.new others → (least n : ℕ) → n < reach least (m ∷ marks) → (n < length others) × (least ≤ get_or others n 0)
tops_within m marks tops others count are is put least n below =
    let kept : (n ≡ count → ⊥) → n < length tops → least ≤ get_or tops n 0 → (n < length others) × (least ≤ get_or others n 0) = λ other fits high.
    (put.kept n fits, omega (arith, put.same n other fits)) in
    let here : n ≡ count → least ≤ m.new → (n < length others) × (least ≤ get_or others n 0) = λ same high.
    (omega (arith, put.room), subst (λ k. least ≤ get_or others k 0) (sym same) (omega (arith, put.here))) in
    elim (first_is least m marks) [
      | low down unchanged ↦
          let few = reach_falls marks (m.new + 1) least (omega arith) in
          let inner = are.within least n (omega (arith, ap length unchanged)) in
          kept (λ same. omega (arith, ap length unchanged)) inner.0 inner.1
      | taken up few changed ↦ elim (cases_eq n count) [
        | inl same ↦ here same up
        | inr other ↦
            let inner = are.within (m.new + 1) n (omega (arith, ap length changed)) in
            kept other inner.0 (omega (arith, inner.1))
      ]
      | passed up more unchanged ↦ elim (cases_eq n count) [
        | inl same ↦ here same up
        | inr other ↦
            let inner = are.within least n (omega (arith, ap length unchanged)) in
            kept other inner.0 inner.1
      ]
    ]

tops_reached : (m : Place) (marks : List Place) (tops others : List ℕ) (count : ℕ) → AreTops marks tops → count ≡ reach (m.new + 1) marks
    → IsPut tops count m.new others → (least n : ℕ) → n < length others → least ≤ get_or others n 0 → n < reach least (m ∷ marks)
tops_reached m marks tops others count are is put least n fits high =
    let later = reach-rest least m marks in
    elim (cases_eq n count) [
      | inl same ↦
          let top : least ≤ m.new = omega (arith, subst (λ k. least ≤ get_or others k 0) same high, put.here) in
          elim (first_is least m marks) [
            | low down unchanged ↦ omega arith
            | taken up few changed ↦ omega (arith, ap length changed)
            | passed up more unchanged ↦ omega (arith, ap length unchanged)
          ]
      | inr other ↦
          let inner = put.few n fits other in
          omega (arith, are.reached least n inner (omega (arith, put.same n other inner)))
    ]

pub tops_put : (m : Place) (marks : List Place) (tops others : List ℕ) (count : ℕ) → AreTops marks tops → count ≡ reach (m.new + 1) marks
    → IsPut tops count m.new others → AreTops (m ∷ marks) others
tops_put m marks tops others count are is put = record {
  within = tops_within m marks tops others count are is put;
  reached = tops_reached m marks tops others count are is put;
}

-- ---- a ranking

pub ranking_put : (m : Place) (marks : List Place) (before after : Ranking) (count : ℕ) → IsRanking marks before → count ≤ length before.tops.items
    → IsPartitionPoint (λ top. ltb m.new top ≡ true) (λ top. ltb m.new top ≡ false) before.tops.items count
    → IsPut before.tops.items count m.new after.tops.items → after.ranks.items ≡ before.ranks.items ++ (count + 1) ∷ [] → IsRanking (m ∷ marks) after
ranking_put m marks before after count are fits parts put ranks =
    let is = count_above marks before.tops.items m.new count are.tops fits parts in
    record {
      ranks = ranks ∙ ap₂ (λ xs x. xs ++ (x + 1) ∷ []) are.ranks is ∙ sym (reverse-append ((reach (m.new + 1) marks + 1) ∷ []) (ranks_of marks));
      tops = tops_put m marks before.tops.items after.tops.items count are.tops is put;
    }

-- those after the first ones are ranked
pub record IsRankedAfter (marks first : List Place) (ranking : Ranking) : Type 0 where
  pub later : List Place
  pub split : marks ≡ first ++ later
  pub ranks : IsRanking later ranking

pub all_tops : (marks : List Place) (tops : List ℕ) → AreTops marks tops → length tops ≡ reach 0 marks
all_tops marks tops are = same_bound (length tops) (reach 0 marks)
    (λ more. are.reached 0 (reach 0 marks) more (omega arith))
    (λ more. let within = are.within 0 (length tops) more in omega (arith, within.0))

-- ---- what is chosen

-- these are chosen, and some of the rest, which is ranked, are left to choose
pub record AreChosen (marks chosen rest : List Place) (left : ℕ) (ranks : List ℕ) : Type 0 where
  pub least : ℕ
  pub whole : chosen ++ longest_from least rest ≡ longest_from 0 marks
  pub count : left ≡ reach least rest
  pub ranked : ranks ≡ reverse (ranks_of rest)

pub chosen_none : (marks : List Place) (ranking : Ranking) → IsRanking marks ranking → AreChosen marks [] marks (length ranking.tops.items) ranking.ranks.items
chosen_none marks ranking are = record {
  least = 0;
  whole = refl;
  count = all_tops marks ranking.tops.items are.tops;
  ranked = are.ranks;
}

-- the next one's rank is the last one
pub record IsNext (m : Place) (rest : List Place) (ranks : List ℕ) (rank : ℕ) : Type 0 where
  pub is : rank ≡ reach (m.new + 1) rest + 1
  pub ranked : ranks ≡ reverse (ranks_of rest)

pub next_rank : (m : Place) (rest : List Place) (all ranks : List ℕ) (rank : ℕ) → all ≡ reverse (ranks_of (m ∷ rest)) → all ≡ ranks ++ rank ∷ []
    → IsNext m rest ranks rank
next_rank m rest all ranks rank are split =
    let parts = same_from_push ranks (reverse (ranks_of rest)) rank (reach (m.new + 1) rest + 1)
    (sym split ∙ are ∙ reverse-append ((reach (m.new + 1) rest + 1) ∷ []) (ranks_of rest)) in
    record { is = parts.1; ranked = parts.0 }

pub chosen_more : (marks chosen rest : List Place) (m : Place) (left : ℕ) (all ranks : List ℕ) (rank : ℕ) → AreChosen marks chosen (m ∷ rest) left all
    → all ≡ ranks ++ rank ∷ [] → rank ≡ left → AreChosen marks (chosen ++ m ∷ []) rest (left - 1) ranks
chosen_more marks chosen rest m left all ranks rank are split same =
    let next = next_rank m rest all ranks rank are.ranked split in
    elim (first_is are.least m rest) [
      | low down unchanged ↦
          absurd (omega (arith, next.is, are.count, ap length unchanged, reach_falls rest (m.new + 1) are.least (omega arith)))
      | passed up more unchanged ↦ absurd (omega (arith, next.is, are.count, ap length unchanged))
      | taken up few changed ↦ record {
        least = m.new + 1;
        whole = append_assoc chosen (m ∷ []) (longest_from (m.new + 1) rest) ∙ ap (λ some. chosen ++ some) (sym changed) ∙ are.whole;
        count = omega (arith, next.is);
        ranked = next.ranked;
      }
    ]

pub chosen_less : (marks chosen rest : List Place) (m : Place) (left : ℕ) (all ranks : List ℕ) (rank : ℕ) → AreChosen marks chosen (m ∷ rest) left all
    → all ≡ ranks ++ rank ∷ [] → (rank ≡ left → ⊥) → AreChosen marks chosen rest left ranks
chosen_less marks chosen rest m left all ranks rank are split other =
    let next = next_rank m rest all ranks rank are.ranked split in
    let on : longest_from are.least (m ∷ rest) ≡ longest_from are.least rest → AreChosen marks chosen rest left ranks = λ unchanged. record {
      least = are.least;
      whole = ap (λ some. chosen ++ some) (sym unchanged) ∙ are.whole;
      count = are.count ∙ ap length unchanged;
      ranked = next.ranked;
    } in
    elim (first_is are.least m rest) [
      | low down unchanged ↦ on unchanged
      | passed up more unchanged ↦ on unchanged
      | taken up few changed ↦ absurd (other (omega (arith, next.is, are.count, ap length changed)))
    ]

pub some_left : (marks chosen rest : List Place) (m : Place) (left : ℕ) (ranks : List ℕ) → AreChosen marks chosen (m ∷ rest) left ranks → 0 < length ranks
some_left marks chosen rest m left ranks are = omega (arith, ap length are.ranked, length-reverse (ranks_of (m ∷ rest)))
