-- Both are settled by the first steps of a put.
use Rattle.std.proofs.Common.{◌≡◌, ◌∙◌, ℕ, Bool, true, List, [], ◌∷◌, Some, None, refl, sym, subst}
use Rattle.rec_disk.specs.declared.disk.Disk.{Ghosts as Disk}
use Rattle.rec_disk.specs.Disk.{State, synced}
use Rattle.rec_disk.specs.Lasting.{Spares}
use Rattle.rec_disk.specs.proving.Places.{IsSettled, StaysSafe}
use Rattle.rec_disk.proofs.lemmas.Points.{set_same}
use Rattle.rec_disk.proofs.lemmas.Places.{settled_still, spares_itself, spares_then, spares-synced}
use Rattle.rec_files.specs.OnDisk.{Sites}
use Rattle.rec_tools.specs.declared.home.Which.TheVariants.{Base, Journal}
use Rattle.rec_files.specs.declared.steps.Act.TheVariants.{Settle, Sync}
use Rattle.rec_files.specs.declared.steps.Step.{Step}
use Rattle.rec_files.specs.proving.Replacing.{IsSyncing}
use Rattle.rec_files.specs.proving.Recovering.{IsSyncedIn, IsSyncedSince}
use Rattle.rec_files.specs.proving.Succeeding.{CanSettle}
use Rattle.rec_files.specs.proving.Steps.{Task, Numbers, of_file, of_journal, settling}
use Rattle.rec_files.proofs.lemmas.Steps.{settled, syncing}
use Rattle.rec_files.proofs.lemmas.Moments.{in_still, in_synced, since-synced, since-syncing, synced_itself, synced_then}
use Rattle.rec_files.proofs.lemmas.Playing.{Keeps, changed}
use Rattle.rec_files.proofs.lemmas.Promises.{Four, never_rests}

module _ {D F S : Type 0} (disk : Disk D F S) (task : Task) (s0 : State) where
  abbrev In : Sites
  In = Four disk task

  -- nothing is done but syncs
  pub record Calm (y : Numbers) (s : State) : Type 0 where
    pub all : (q : List ℕ) → Spares q s0 s
    pub since : IsSyncedSince disk.folder s0 s

  -- what stands at a place is there for good
  abbrev pub IsKeptAt : List ℕ → State → Type 0
  IsKeptAt p s = (crash : Bool) → (crash ≡ true → disk.syncs (disk.folder p) ≡ true) → IsSettled crash p s × IsSyncedIn crash disk.folder (disk.folder p) s

  abbrev pub CanSettleBoth : Type 0
  CanSettleBoth = CanSettle disk task.file s0 × CanSettle disk task.journal s0

  -- nothing is done but syncs, and both are kept
  pub record BothSettled (y : Numbers) (s : State) : Type 0 where
    pub calm : Calm y s
    pub file : IsKeptAt In.file s
    pub journal : IsKeptAt In.journal s

  abbrev pub Settles : List Step → Numbers → State → Type 0
  Settles = Keeps disk task CanSettleBoth Calm BothSettled

  pub calm_first : (y : Numbers) → Calm y s0
  calm_first y = record { all = λ q. spares_itself q s0; since = synced_itself disk.folder s0 }

  calm_then : (y z : Numbers) (s t : State) → Calm y s → ((q : List ℕ) → Spares q s t) → IsSyncedSince disk.folder s t → Calm z t
  calm_then y z s t was spares since = record { all = λ q. spares_then q s0 s t (was.all q) (spares q); since = synced_then disk.folder s0 s t was.since since }

  kept_still : (p : List ℕ) (s t : State) → IsKeptAt p s → Spares p s t → IsSyncedSince disk.folder s t → IsKeptAt p t
  kept_still p s t was same since crash can = (settled_still crash p s t same (was crash can).0, in_still disk.folder crash (disk.folder p) s t since (was crash can).1)

  -- a file is synced
  module _ (n : ℕ) (s t : State) (is : t ≡ synced s n) where
    spares_one : (q : List ℕ) → Spares q s t
    spares_one q = subst (Spares q s) (sym is) (spares-synced q s n)

    since_one : IsSyncedSince disk.folder s t
    since_one = subst (IsSyncedSince disk.folder s) (sym is) (since-synced disk.folder s n)

    safe_there : (p : List ℕ) → s.at p ≡ Some n → StaysSafe true t (t.at p)
    safe_there p at = subst (λ t. StaysSafe true t (t.at p)) (sym is) (subst (StaysSafe true (synced s n)) (sym at) (set_same s.safe n n true refl))

  safe_none : (p : List ℕ) (s : State) → s.at p ≡ None → StaysSafe true s (s.at p)
  safe_none p s none = subst (StaysSafe true s) (sym none) tt

  -- and its folder
  module _ (p : List ℕ) (s t : State) (step : IsSyncing disk.folder disk.syncs (disk.folder p) s t) where
    spares_folder : (q : List ℕ) → Spares q s t
    spares_folder q = syncing q disk.folder disk.syncs (disk.folder p) s t step

    since_folder : IsSyncedSince disk.folder s t
    since_folder = since-syncing disk.folder disk.syncs (disk.folder p) s t step

    kept_there : StaysSafe true s (s.at p) → IsKeptAt p t
    kept_there safe crash can = (settled p disk.folder disk.syncs (disk.folder p) crash s t refl can safe step, in_synced disk.folder crash disk.syncs (disk.folder p) s t can step)

  abbrev SyncsAt : List ℕ → State → Bool → State → Type 0
  SyncsAt p s ok t = IsSyncing disk.folder disk.syncs (disk.folder p) s t

  abbrev SettlesAt : List ℕ → State → Bool → State → Type 0
  SettlesAt p s ok t = (n : ℕ) × (t ≡ synced s n) × (ok ≡ true → s.at p ≡ Some n)

  synced_calm : (p : List ℕ) (y : Numbers) (s t : State) → Calm y s → IsSyncing disk.folder disk.syncs (disk.folder p) s t → Calm y t
  synced_calm p y s t was step = calm_then y y s t was (spares_folder p s t step) (since_folder p s t step)

  settled_calm : (p : List ℕ) (ok : Bool) (y : Numbers) (s t : State) → Calm y s → SettlesAt p s ok t → Calm y t
  settled_calm p ok y s t was (n, is, at) = calm_then y y s t was (spares_one n s t is) (since_one n s t is)

  journal_sync : (y : Numbers) (s : State) → Calm y s → IsKeptAt In.file s → StaysSafe true s (s.at In.journal) → Settles (of_journal Sync ∷ []) y s
  journal_sync y s was kept safe =
      changed disk task CanSettleBoth Calm BothSettled Journal Sync [] y s (SyncsAt In.journal s) (λ can. tt) (λ ok z t does. does) (λ never. never_rests _ never)
      (λ ok t step. synced_calm In.journal y s t was step)
      (λ t step. record {
        calm = synced_calm In.journal y s t was step;
        file = kept_still In.file s t kept (spares_folder In.journal s t step In.file) (since_folder In.journal s t step);
        journal = kept_there In.journal s t step safe;
      })

  journal_settle : (y : Numbers) (s : State) → Calm y s → IsKeptAt In.file s → Settles (of_journal Settle ∷ of_journal Sync ∷ []) y s
  journal_settle y s was kept =
      changed disk task CanSettleBoth Calm BothSettled Journal Settle (of_journal Sync ∷ []) y s (SettlesAt In.journal s)
      (λ can. record { at = (was.all In.journal).at ∙ can.1.at; is_regular = can.1.is_regular }) (λ ok z t does. does)
      (λ rests. journal_sync y s was kept (safe_none In.journal s (rests refl))) (λ ok t step. settled_calm In.journal ok y s t was step)
      (λ t step. journal_sync y t (settled_calm In.journal true y s t was step)
      (kept_still In.file s t kept (spares_one step.0 s t step.1 In.file) (since_one step.0 s t step.1)) (safe_there step.0 s t step.1 In.journal (step.2 refl)))

  file_sync : (y : Numbers) (s : State) → Calm y s → StaysSafe true s (s.at In.file) → Settles (of_file Sync ∷ of_journal Settle ∷ of_journal Sync ∷ []) y s
  file_sync y s was safe =
      changed disk task CanSettleBoth Calm BothSettled Base Sync (of_journal Settle ∷ of_journal Sync ∷ []) y s (SyncsAt In.file s) (λ can. tt) (λ ok z t does. does)
      (λ never. never_rests _ never) (λ ok t step. synced_calm In.file y s t was step)
      (λ t step. journal_settle y t (synced_calm In.file y s t was step) (kept_there In.file s t step safe))

  pub settling_steps : (x : Numbers) → Settles settling x s0
  settling_steps x =
      changed disk task CanSettleBoth Calm BothSettled Base Settle (of_file Sync ∷ of_journal Settle ∷ of_journal Sync ∷ []) x s0 (SettlesAt In.file s0) (λ can. can.0)
      (λ ok z t does. does) (λ rests. file_sync x s0 (calm_first x) (safe_none In.file s0 (rests refl))) (λ ok t step. settled_calm In.file ok x s0 t (calm_first x) step)
      (λ t step. file_sync x t (settled_calm In.file true x s0 t (calm_first x) step) (safe_there step.0 s0 t step.1 In.file (step.2 refl)))
