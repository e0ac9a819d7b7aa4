-- All moments of one call after another.
use Rattle.std.proofs.Common.{◌≡◌, inl, inr, List, [], ◌∷◌, ◌++◌, Option, Some, None, Result, Ok, Err, refl, sym, ◌∙◌, ap, subst, append_assoc}
use Rattle.std.specs.List.{AllByRecursion}
use Rattle.rec_disk.specs.Disk.{State, Story, next, Goes, Told, AtAnyMoment}

all_append : {X : Type 0} (P : X → Type 0) (xs ys : List X) → AllByRecursion P xs → AllByRecursion P ys → AllByRecursion P (xs ++ ys)
all_append P [] ys first rest = rest
all_append P (x ∷ xs) ys first rest = (first.0, all_append P xs ys first.1 rest)

all_weaker : {X : Type 0} (P Q : X → Type 0) (xs : List X) → ((x : X) → P x → Q x) → AllByRecursion P xs → AllByRecursion Q xs
all_weaker P Q [] f all = tt
all_weaker P Q (x ∷ xs) f all = (f x all.0, all_weaker P Q xs f all.1)

module _ (R : State → State → Type 0) where
  -- where nothing happens
  pub at_rest : (o : Option Story) → ((s : State) → R s s) → AtAnyMoment o o R
  at_rest None itself = tt
  at_rest (Some a) itself = (itself a.now, ([], refl, tt))

  pub still : (o n : Option Story) → n ≡ o → ((s : State) → R s s) → AtAnyMoment o n R
  still o n same itself = subst (λ n. AtAnyMoment o n R) (sym same) (at_rest o itself)

  -- one call
  pub one_step : (a : Story) (t : State) → R a.now a.now → R a.now t → AtAnyMoment (Some a) (Some (next a t)) R
  one_step a t itself moved = (moved, (a.now ∷ [], refl, (itself, tt)))

  -- one run of calls after another, where the relation is one of what comes after one another
  pub and_then : (o b c : Option Story) → ((s t u : State) → R s t → R t u → R s u) → AtAnyMoment o b R → AtAnyMoment b c R → AtAnyMoment o c R
  and_then None None c through first rest = rest
  and_then None (Some b) c through first rest = absurd first
  and_then (Some a) None c through first rest = absurd first
  and_then (Some a) (Some b) None through first rest = absurd rest
  and_then (Some a) (Some b) (Some c) through first rest = (
    through a.now b.now c.now first.0 rest.0,
    (
      rest.1.0 ++ first.1.0,
      rest.1.1 ∙ ap (λ (l : List State). rest.1.0 ++ l) first.1.1 ∙ sym (append_assoc rest.1.0 first.1.0 a.past),
      all_append (R a.now) rest.1.0 first.1.0 (all_weaker (R b.now) (R a.now) rest.1.0 (λ u is. through a.now b.now u first.0 is) rest.1.2) first.1.2,
    ),
  )

pub since_then : (P : State → Type 0) (o b c : Option Story) → AtAnyMoment o b (λ s u. P u) → AtAnyMoment b c (λ s u. P u) → AtAnyMoment o c (λ s u. P u)
since_then P o b c first rest = and_then (λ s u. P u) o b c (λ s t u one other. other) first rest

-- a call makes a step or, where it fails, maybe none
pub by_step : {X E : Type 0} (R Step : State → State → Type 0) (P : State → Type 0) (o n : Option Story) (result : Result X E) → ((s : State) → R s s)
    → ((s t : State) → P s → Step s t → R s t) → Told o P → Goes o n result Step → AtAnyMoment o n R
by_step R Step P None None result itself steps told goes = tt
by_step R Step P None (Some b) result itself steps told goes = absurd goes
by_step R Step P (Some a) n (Ok _) itself steps told (t, step, is) = subst (λ n. AtAnyMoment (Some a) n R) (sym is) (one_step R a t (itself a.now) (steps a.now t told step))
by_step R Step P (Some a) n (Err _) itself steps told (inl same) = still R (Some a) n same itself
by_step R Step P (Some a) n (Err _) itself steps told (inr (t, step, is)) = subst (λ n. AtAnyMoment (Some a) n R) (sym is) (one_step R a t (itself a.now) (steps a.now t told step))

pub told_always : (P : State → Type 0) (o : Option Story) → ((s : State) → P s) → Told o P
told_always P None all = tt
told_always P (Some a) all = all a.now

pub told_both : (P Q R : State → Type 0) (o : Option Story) → ((s : State) → P s → Q s → R s) → Told o P → Told o Q → Told o R
told_both P Q R None both p q = tt
told_both P Q R (Some a) both p q = both a.now p q

pub told_so : (P Q : State → Type 0) (o : Option Story) → ((s : State) → P s → Q s) → Told o P → Told o Q
told_so P Q None so p = tt
told_so P Q (Some a) so p = so a.now p
