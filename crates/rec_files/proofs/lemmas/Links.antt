-- The path after links.
use Rattle.std.proofs.Common.{◌≡◌, ◌∙◌, ℕ, ◌+◌, ◌-◌, ◌<◌, ◌≤◌, zero, suc, List, Option, Some, None, sym, ap, subst, arith}
use Rattle.std.specs.Prelude.{MatchOption, IsSome, option_map, unwrap_or}
use Rattle.std.proofs.lemmas.Bool.{false≢true}
use Rattle.rec_disk.specs.declared.disk.Disk.{Ghosts as Disk}
use Rattle.rec_disk.specs.Disk.{State, Story, Told}
use Rattle.rec_disk.proofs.lemmas.Moments.{told_both}
use Rattle.rec_files.specs.Paths.{end_of}
use Rattle.rec_files.specs.Succeeding.{IsTold}
use Rattle.rec_files.proofs.lemmas.Steps.{told_next}

module _ (link : List ℕ → Option (List ℕ)) where
  -- the path after all links, by what was found at the first path, where from there they are fewer than n in a row
  abbrev pub After : ℕ → List ℕ → Option (List ℕ) → Option (List ℕ)
  After n path found = unwrap_or (option_map (end_of link n) found) (Some path)

  one_more : (n i : ℕ) (path : List ℕ) (found all : Option (List ℕ)) → i < n → all ≡ end_of link (n - i) path → link path ≡ found → all ≡ After (n - (i + 1)) path found
  one_more n i path found all less so_far is =
      let more : n - i ≡ suc (n - (i + 1)) = omega (arith, less) in
      so_far ∙ ap (λ n. end_of link n path) more ∙ ap (After (n - (i + 1)) path) is

  module _ (n i : ℕ) (path : List ℕ) (all : Option (List ℕ)) (o : Option Story) where
    pub looked_on : (text : List ℕ) (answer found : Option (List ℕ)) (b : Option Story) → i < n → text ≡ path → answer ≡ found → b ≡ o → Told o (λ s. all ≡ end_of link (n - i) path)
        → Told b (λ s. link text ≡ answer) → Told o (λ s. all ≡ After (n - (i + 1)) path found)
    looked_on text answer found b less of_path is same so_far answered =
        told_both (λ s. all ≡ end_of link (n - i) path) (λ s. link text ≡ answer) (λ s. all ≡ After (n - (i + 1)) path found) o
        (λ s so_far answered. one_more n i path found all less so_far (sym (ap link of_path) ∙ answered ∙ is)) so_far (told_next (λ s. link text ≡ answer) b o (sym same) answered)

    -- too many links in a row
    pub none_left : n ≤ i → Told o (λ s. all ≡ end_of link (n - i) path) → IsTold o (λ s. IsSome all) → ⊥
    none_left all_looked so_far some =
        elim o as (λ o. Told o (λ s. all ≡ end_of link (n - i) path) → IsTold o (λ s. IsSome all) → ⊥) [
          | None ↦ λ so_far. λ some. some
          | Some a ↦ λ so_far. λ some.
              let none : n - i ≡ 0 = omega (arith, all_looked) in
              false≢true (subst IsSome (so_far ∙ ap (λ n. end_of link n path) none) some)
        ] so_far some

-- The place to which a path leads is that of the path after its links, and there no link stands.
module _ {D F S : Type 0} (disk : Disk D F S) (led : (path : List ℕ) → MatchOption (disk.link path) (disk.leads path ≡ disk.place path) (λ next. disk.leads path ≡ disk.leads next)) where
  pub led_to : (n : ℕ) (path last : List ℕ) → end_of disk.link n path ≡ Some last → (disk.leads path ≡ disk.place last) × (disk.leads last ≡ disk.place last)
  led_to zero path last is = absurd cc
  led_to (suc n) path last is =
      elim (disk.link path) as (λ found. After disk.link n path found ≡ Some last → MatchOption found (disk.leads path ≡ disk.place path) (λ next. disk.leads path ≡ disk.leads next)
      → (disk.leads path ≡ disk.place last) × (disk.leads last ≡ disk.place last)) [
        | None ↦ λ is. λ led. let same : path ≡ last = cc in (led ∙ ap disk.place same, subst (λ p. disk.leads p ≡ disk.place p) same led)
        | Some next ↦ λ is. λ led. let on = led_to n next last is in (led ∙ on.0, on.1)
      ] is (led path)

  pub own_place : (n : ℕ) (path last : List ℕ) (U : State → Type 0) (A B : Type 0) (o : Option Story) → IsTold o (λ s. U s × A × (end_of disk.link n path ≡ Some last) × B)
      → IsTold o (λ s. U s × (disk.leads last ≡ disk.place last))
  own_place n path last U A B None told = absurd told
  own_place n path last U A B (Some a) told = (told.0, (led_to n path last told.2).1)
