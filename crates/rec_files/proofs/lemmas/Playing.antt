-- What holds at any moment while steps are taken, by what each of them keeps.
use Rattle.std.proofs.Common.{◌≡◌, ◌≢◌, ◌∙◌, inl, inr, ℕ, Bool, true, false, List, [], ◌∷◌, length, take, take_all, Option, Some, None, IsSomeAnd, refl, sym, ap, subst, arith}
use Rattle.std.specs.Prelude.{Result, Ok, Err, IfOk, IfErr}
use Rattle.std.specs.Result.{is_ok}
use Rattle.std.proofs.lemmas.Bool.{false≢true}
use Rattle.rec_disk.specs.declared.disk.Disk.{Ghosts as Disk}
use Rattle.rec_disk.specs.Disk.{State, Story, next, Goes, IsWrite, Told, AtAnyMoment, wrote}
use Rattle.rec_disk.proofs.lemmas.Moments.{one_step, since_then}
use Rattle.rec_tools.specs.declared.home.Which.{Which}
use Rattle.rec_tools.specs.declared.home.Which.TheVariants.{Base, Journal}
use Rattle.rec_files.specs.declared.failure.Cause.{Cause}
use Rattle.rec_files.specs.declared.failure.Failure.{Failure}
use Rattle.rec_files.specs.declared.steps.Act.{Act}
use Rattle.rec_files.specs.declared.steps.Act.TheVariants.{Write}
use Rattle.rec_files.specs.declared.steps.Step.{Step}
use Rattle.rec_files.specs.Succeeding.{IsTold}
use Rattle.rec_files.specs.proving.Steps.{Side, Task, Numbers, side_of, number_of, other_than, Moves, Rests, Does, Acts, StepRests, StepDoes, StepNeeds, Takes, Plays, CanPlay}

abbrev pub made_of : Option ℕ → Option ℕ → Numbers
made_of file journal = record { file = file; journal = journal }

none_moves : (R : State → Type 0) (D : State → State → Type 0) (n : Option Story) → Moves None n R D → n ≡ None
none_moves R D None moves = refl
none_moves R D (Some b) moves = absurd moves

pub moves_so : (R S : State → Type 0) (D E : State → State → Type 0) (o n : Option Story) → ((s : State) → R s → S s) → ((s t : State) → D s t → E s t) → Moves o n R D → Moves o n S E
moves_so R S D E None None rests does moves = tt
moves_so R S D E None (Some b) rests does moves = absurd moves
moves_so R S D E (Some a) n rests does (inl (is, same)) = inl (rests a.now is, same)
moves_so R S D E (Some a) n rests does (inr (t, is, told)) = inr (t, does a.now t is, told)

-- ---- single acts

-- a write, by what was told of it
module _ {D F S : Type 0} (disk : Disk D F S) (side : Side) (x : Option ℕ) (n : ℕ) (ok : Bool) (made : x ≡ Some n) where
  abbrev Wrote : State → State → Type 0
  Wrote s t = IsSomeAnd x (λ n. (k : ℕ) × (t ≡ wrote s n (take k side.bytes)) × (ok ≡ true → take k side.bytes ≡ side.bytes))

  wrote_some : (s t : State) (k : ℕ) → t ≡ wrote s n (take k side.bytes) → (ok ≡ true → take k side.bytes ≡ side.bytes) → Wrote s t
  wrote_some s t k is whole = subst (λ x. IsSomeAnd x (λ n. (k : ℕ) × (t ≡ wrote s n (take k side.bytes)) × (ok ≡ true → take k side.bytes ≡ side.bytes))) (sym made) (k, is, whole)

  write_acts : {X E : Type 0} (o b : Option Story) (result : Result X E) → ok ≡ is_ok result → Goes o b result (IsWrite n side.bytes result) → Acts disk side Write ok x x o b
  write_acts None None result is goes = tt
  write_acts None (Some b) result is goes = absurd goes
  write_acts (Some a) b (Ok v) is (t, all, told) =
      let whole = take_all (length side.bytes) side.bytes (omega arith) in
      inr (t, (refl, wrote_some a.now t (length side.bytes) (all ∙ ap (λ l. wrote a.now n l) (sym whole)) (λ e. whole)), told)
  write_acts (Some a) b (Err e) is (inl same) = inl ((refl, is), same)
  write_acts (Some a) b (Err e) is (inr (t, (k, part), told)) = inr (t, (refl, wrote_some a.now t k part (λ e. absurd (false≢true (sym is ∙ e)))), told)

  pub acts_write : {X E : Type 0} (act : Act) → act ≡ Write → (o b : Option Story) (result : Result X E) → ok ≡ is_ok result → Goes o b result (IsWrite n side.bytes result)
      → Acts disk side act ok x x o b
  acts_write act acts o b result is goes = subst (λ act. Acts disk side act ok x x o b) (sym acts) (write_acts o b result is goes)

pub told_ok : {X E : Type 0} (C : E → Cause → Type 0) (which : Which) (answer : Result X E) (result : Result X Failure) → IfOk answer (λ value. result ≡ Ok value)
    → IfErr answer (λ error. (cause : Cause) × C error cause × (result ≡ Err (record { which = which; cause = cause }))) → is_ok result ≡ is_ok answer
told_ok C which (Ok v) result value failure = ap is_ok value
told_ok C which (Err e) result value (cause, converts, is) = ap is_ok is

-- ---- one of the two

both_same : (which : Which) (x y : Numbers) → number_of y (other_than which) ≡ number_of x (other_than which) → number_of y which ≡ number_of x which → y ≡ x
both_same Base x y other own = ap (λ one. made_of one y.journal) own ∙ ap (λ one. made_of x.file one) other
both_same Journal x y other own = ap (λ one. made_of one y.journal) other ∙ ap (λ one. made_of x.file one) own

module _ {D F S : Type 0} (disk : Disk D F S) (task : Task) (act : Act) (x y : Numbers) (o b : Option Story) (which : Which) where
  abbrev Of : Which → Step
  Of which = record { 0 = which; 1 = act }

  pub takes_file : (ok : Bool) → which ≡ Base → y.journal ≡ x.journal → Acts disk (side_of task Base) act ok x.file y.file o b → Takes disk task (Of which) ok x y o b
  takes_file ok is same acts = subst (λ which. Takes disk task (Of which) ok x y o b) (sym is)
      (moves_so (λ s. (y.file ≡ x.file) × Rests disk (side_of task Base) act ok x.file s) (StepRests disk task (Of Base) ok x y)
      (Does disk (side_of task Base) act ok x.file y.file) (StepDoes disk task (Of Base) ok x y) o b (λ s both. (both_same Base x y same both.0, both.1)) (λ s t does. (same, does)) acts)

  pub takes_journal : (ok : Bool) → which ≡ Journal → y.file ≡ x.file → Acts disk (side_of task Journal) act ok x.journal y.journal o b → Takes disk task (Of which) ok x y o b
  takes_journal ok is same acts = subst (λ which. Takes disk task (Of which) ok x y o b) (sym is)
      (moves_so (λ s. (y.journal ≡ x.journal) × Rests disk (side_of task Journal) act ok x.journal s) (StepRests disk task (Of Journal) ok x y)
      (Does disk (side_of task Journal) act ok x.journal y.journal) (StepDoes disk task (Of Journal) ok x y) o b
      (λ s both. (both_same Journal x y same both.0, both.1)) (λ s t does. (same, does)) acts)

  pub needs_of : (one : Which) → which ≡ one → IsTold o (StepNeeds disk task (Of which) x) → IsTold o (StepNeeds disk task (Of one) x)
  needs_of one is given = subst (λ which. IsTold o (StepNeeds disk task (Of which) x)) is given

-- what is said of the first state and of each later one
pub since_start : (R : State → State → Type 0) (a : Story) (n : Option Story) → AtAnyMoment (Some a) n (λ s u. R a.now u) → AtAnyMoment (Some a) n R
since_start R a None moments = absurd moments
since_start R a (Some b) moments = moments

module _ {D F S : Type 0} (disk : Disk D F S) (task : Task) where
  -- where no story is told
  pub none_played : (steps : List Step) (ok : Bool) (x y : Numbers) (n : Option Story) → Plays disk task steps ok x y None n → n ≡ None
  none_played [] ok x y n (fine, numbers, same) = same
  none_played (step ∷ steps) ok x y n (inl (fails, takes)) = none_moves (StepRests disk task step false x y) (StepDoes disk task step false x y) n takes
  none_played (step ∷ steps) ok x y n (inr (mid, z, takes, rest)) =
      none_played steps ok z y n (subst (λ mid. Plays disk task steps ok z y mid n) (none_moves (StepRests disk task step true x z) (StepDoes disk task step true x z) mid takes) rest)

  -- each step finds what it needs, where G is given; J holds after each, of what was made and of the state, and Q after
  -- the last
  abbrev pub Keeps : Type 0 → (J Q : Numbers → State → Type 0) → List Step → Numbers → State → Type 0
  Keeps G J Q [] x s = Q x s
  Keeps G J Q (step ∷ steps) x s = (G → StepNeeds disk task step x s) × (((y : Numbers) → StepRests disk task step true x y s → Keeps G J Q steps y s)
      × (((ok : Bool) (y : Numbers) (t : State) → StepDoes disk task step ok x y s t → J y t) × ((y : Numbers) (t : State) → StepDoes disk task step true x y s t → Keeps G J Q steps y t)))

  pub kept_play : (G : Type 0) (J Q : Numbers → State → Type 0) (steps : List Step) (x : Numbers) (s : State) → Keeps G J Q steps x s → G → CanPlay disk task steps x s
  kept_play G J Q [] x s keeps given = tt
  kept_play G J Q (step ∷ steps) x s keeps given =
      (keeps.0 given, (λ y rests. kept_play G J Q steps y s (keeps.1.0 y rests) given, λ y t does. kept_play G J Q steps y t (keeps.1.1.1 y t does) given))

  -- what is kept for one purpose is kept for a weaker one
  pub keeps_so : (G H : Type 0) (J K Q R : Numbers → State → Type 0) → (H → G) → ((y : Numbers) (t : State) → J y t → K y t) → ((y : Numbers) (t : State) → Q y t → R y t)
      → (steps : List Step) (x : Numbers) (s : State) → Keeps G J Q steps x s → Keeps H K R steps x s
  keeps_so G H J K Q R given more last [] x s keeps = last x s keeps
  keeps_so G H J K Q R given more last (step ∷ steps) x s keeps = (
    λ h. keeps.0 (given h),
    (
      λ y rests. keeps_so G H J K Q R given more last steps y s (keeps.1.0 y rests),
      (
        λ ok y t does. more y t (keeps.1.1.0 ok y t does),
        λ y t does. keeps_so G H J K Q R given more last steps y t (keeps.1.1.1 y t does),
      ),
    ),
  )

  module _ (G : Type 0) (J Q : Numbers → State → Type 0) (which : Which) (act : Act) (rest : List Step) (x : Numbers) (s : State) where
    abbrev This : Step
    This = record { 0 = which; 1 = act }

    pub stepped : (G → StepNeeds disk task This x s) → (Rests disk (side_of task which) act true (number_of x which) s → Keeps G J Q rest x s)
        → ((ok : Bool) (y : Numbers) (t : State) → StepDoes disk task This ok x y s t → J y t)
        → ((y : Numbers) (t : State) → StepDoes disk task This true x y s t → Keeps G J Q rest y t) → Keeps G J Q (This ∷ rest) x s
    stepped needs rests does after = (needs, (λ y is. subst (λ y. Keeps G J Q rest y s) (sym is.0) (rests is.1), (does, after)))

    -- a step that looks
    pub looked : (G → StepNeeds disk task This x s) → ((ok : Bool) (y : Numbers) (t : State) → StepDoes disk task This ok x y s t → ⊥) → Keeps G J Q rest x s → Keeps G J Q (This ∷ rest) x s
    looked needs never keeps = stepped needs (λ is. keeps) (λ ok y t does. absurd (never ok y t does)) (λ y t does. absurd (never true y t does))

    -- one after which the numbers are as before
    pub changed : (T : Bool → State → Type 0) → (G → StepNeeds disk task This x s)
        → ((ok : Bool) (y : Option ℕ) (t : State) → Does disk (side_of task which) act ok (number_of x which) y s t → (y ≡ number_of x which) × T ok t)
        → (Rests disk (side_of task which) act true (number_of x which) s → Keeps G J Q rest x s) → ((ok : Bool) (t : State) → T ok t → J x t)
        → ((t : State) → T true t → Keeps G J Q rest x t) → Keeps G J Q (This ∷ rest) x s
    changed T needs is rests does after =
        let same : (ok : Bool) (y : Numbers) (t : State) → StepDoes disk task This ok x y s t → x ≡ y = λ ok y t step. sym (both_same which x y step.0 (is ok (number_of y which) t step.1).0) in
        stepped needs rests (λ ok y t step. subst (λ y. J y t) (same ok y t step) (does ok t (is ok (number_of y which) t step.1).1))
        (λ y t step. subst (λ y. Keeps G J Q rest y t) (same true y t step) (after t (is true (number_of y which) t step.1).1))

  module _ (G : Type 0) (I : State → Type 0) (J Q : Numbers → State → Type 0) (so : (y : Numbers) (t : State) → J y t → I t) where
    -- at any moment, at the end, and where no step failed
    abbrev pub IsKept : Story → Option Story → Numbers → Bool → Type 0
    IsKept a n y ok = AtAnyMoment (Some a) n (λ s u. I u) × (Told n (J y) × (ok ≡ true → Told n (Q y)))

    at_first : (x : Numbers) (a : Story) → J x a.now → AtAnyMoment (Some a) (Some a) (λ s u. I u)
    at_first x a was = (so x a.now was, ([], refl, tt))

    pub kept : (steps : List Step) (ok : Bool) (x y : Numbers) (a : Story) (n : Option Story) → J x a.now → Keeps G J Q steps x a.now → Plays disk task steps ok x y (Some a) n → IsKept a n y ok
    kept [] ok x y a n was keeps (fine, numbers, same) =
        subst (λ n. IsKept a n y ok) (sym same) (subst (λ y. IsKept a (Some a) y ok) (sym numbers) (at_first x a was, (was, λ is. keeps)))
    kept (step ∷ steps) ok x y a n was keeps (inl (fails, takes)) = elim takes [
      | inl rests ↦ subst (λ n. IsKept a n y ok) (sym rests.1) (at_first x a was, (subst (λ y. J y a.now) (sym rests.0.0) was, λ is. absurd (false≢true (sym fails ∙ is))))
      | inr does ↦ let after = keeps.1.1.0 false y does.0 does.1 in
          subst (λ n. IsKept a n y ok) (sym does.2) (one_step (λ s u. I u) a does.0 (so x a.now was) (so y does.0 after), (after, λ is. absurd (false≢true (sym fails ∙ is))))
    ]
    kept (step ∷ steps) ok x y a n was keeps (inr (mid, z, takes, rest)) = elim takes [
      | inl rests ↦ kept steps ok z y a n (subst (λ z. J z a.now) (sym rests.0.0) was) (keeps.1.0 z rests.0) (subst (λ mid. Plays disk task steps ok z y mid n) rests.1 rest)
      | inr does ↦
          let after = keeps.1.1.0 true z does.0 does.1 in
          let then = kept steps ok z y (next a does.0) n after (keeps.1.1.1 z does.0 does.1) (subst (λ mid. Plays disk task steps ok z y mid n) does.2 rest) in
          (since_then I (Some a) (Some (next a does.0)) n (one_step (λ s u. I u) a does.0 (so x a.now was) (so z does.0 after)) then.0, then.1)
    ]
