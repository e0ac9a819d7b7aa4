-- The longest list of landmarks in one order is one, and the earliest.
use Rattle.std.proofs.Common.{◌≡◌, ◌∙◌, ℕ, ◌+◌, ◌<◌, ◌≤◌, List, [], ◌∷◌, length, refl, sym, ap, subst, inl, inr, arith}
use Rattle.std.specs.List.{AllByRecursion}
use Rattle.rec_diff.specs.declared.turn.Place.{Place}
use Rattle.rec_diff.specs.Comparing.{longest_from, AreInOrder, IsEarlier, IsLongestOf}
use Rattle.rec_diff.specs.proving.Ranks.{reach}
use Rattle.rec_diff.proofs.lemmas.comparing.RankLemmas.{low, taken, passed, first_is, reach-rest}

-- each stands in the old text before those after it
abbrev pub AscendInOld : List Place → Type 0
AscendInOld [] = Unit {0}
AscendInOld (m ∷ marks) = AllByRecursion (λ (later : Place). m.old < later.old) marks × AscendInOld marks

in_order-later : (least : ℕ) (m : Place) (marks chosen : List Place) → AreInOrder least marks chosen → AreInOrder least (m ∷ marks) chosen
in_order-later least m marks [] are = tt
in_order-later least m marks (c ∷ chosen) are = inr are

pub in_order : (least : ℕ) (marks : List Place) → AreInOrder least marks (longest_from least marks)
in_order least [] = tt
in_order least (m ∷ marks) =
    let later = in_order-later least m marks (longest_from least marks) (in_order least marks) in
    elim (first_is least m marks) [
      | low below is ↦ subst (AreInOrder least (m ∷ marks)) (sym is) later
      | passed above more is ↦ subst (AreInOrder least (m ∷ marks)) (sym is) later
      | taken above few is ↦ subst (AreInOrder least (m ∷ marks)) (sym is) (inl (refl, above, in_order (m.new + 1) marks))
    ]

none_more : (least : ℕ) (marks others : List Place) → AreInOrder least marks others → length others ≤ reach least marks
none_more least marks [] are = omega arith
none_more least [] (o ∷ others) are = absurd are
none_more least (m ∷ marks) (o ∷ others) (inl first) =
    let rest = none_more (m.new + 1) marks others first.2 in
    elim (first_is least m marks) [
      | low below is ↦ absurd (omega (arith, first.1))
      | taken above few is ↦ omega (arith, ap length is)
      | passed above more is ↦ omega (arith, ap length is)
    ]
none_more least (m ∷ marks) (o ∷ others) (inr later) = omega (arith, none_more least marks (o ∷ others) later, reach-rest least m marks)

first_among : (P : Place → Type 0) (least : ℕ) (marks others : List Place) (o : Place) → AllByRecursion P marks → AreInOrder least marks (o ∷ others) → P o
first_among P least [] others o all are = absurd are
first_among P least (m ∷ marks) others o all (inl first) = subst P (sym first.0) all.0
first_among P least (m ∷ marks) others o all (inr later) = first_among P least marks others o all.1 later

earlier-none : (marks : List Place) → IsEarlier marks []
earlier-none [] = tt
earlier-none (m ∷ marks) = tt

earliest : (least : ℕ) (marks others : List Place) → AscendInOld marks → AreInOrder least marks others → length others ≡ reach least marks
    → IsEarlier (longest_from least marks) others
earliest least [] others up are same = tt
earliest least (m ∷ marks) [] up are same = earlier-none (longest_from least (m ∷ marks))
earliest least (m ∷ marks) (o ∷ others) up (inl first) same =
    let rest = none_more (m.new + 1) marks others first.2 in
    elim (first_is least m marks) [
      | low below is ↦ absurd (omega (arith, first.1))
      | passed above more is ↦ absurd (omega (arith, ap length is))
      | taken above few is ↦ subst (λ marks. IsEarlier marks (o ∷ others)) (sym is)
          (inr (sym first.0, earliest (m.new + 1) marks others up.1 first.2 (omega (arith, ap length is))))
    ]
earliest least (m ∷ marks) (o ∷ others) up (inr later) same =
    elim (first_is least m marks) [
      | low below is ↦ subst (λ marks. IsEarlier marks (o ∷ others)) (sym is) (earliest least marks (o ∷ others) up.1 later (same ∙ ap length is))
      | passed above more is ↦ subst (λ marks. IsEarlier marks (o ∷ others)) (sym is) (earliest least marks (o ∷ others) up.1 later (same ∙ ap length is))
      | taken above few is ↦ subst (λ marks. IsEarlier marks (o ∷ others)) (sym is)
          (inl (first_among (λ (later : Place). m.old < later.old) least marks others o up.0 later))
    ]

pub longest_of : (marks : List Place) → AscendInOld marks → IsLongestOf marks (longest_from 0 marks)
longest_of marks up = record {
  in_order = in_order 0 marks;
  most = λ others are. none_more 0 marks others are;
  earlier = λ others are same. earliest 0 marks others up are same;
}
