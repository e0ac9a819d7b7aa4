-- What a put does, and what it needs, by the steps that were taken.
use Rattle.std.proofs.Common.{◌≡◌, ◌≢◌, ◌⊎◌, ◌∙◌, inl, inr, ℕ, ◌≤◌, Bool, true, false, List, [], ◌∷◌, length, Option, Some, None, IfSome, refl, sym, ap, subst}
use Rattle.std.proofs.lemmas.Bool.{false≢true}
use Rattle.std.specs.Prelude.{Result, Ok, Err, option_map, unwrap_or}
use Rattle.std.specs.Result.{is_err, is_ok}
use Rattle.rec_files.specs.declared.steps.Made.{Made}
use Rattle.rec_disk.specs.declared.disk.Disk.{Ghosts as Disk}
use Rattle.rec_disk.specs.Disk.{State, Story, Told, AtAnyMoment, removed}
use Rattle.rec_disk.specs.Lasting.{MayStand, Spares}
use Rattle.rec_disk.proofs.lemmas.Moments.{since_then, told_so}
use Rattle.rec_disk.proofs.lemmas.Points.{put_same}
use Rattle.rec_disk.proofs.lemmas.Places.{spares_itself, spares_then, spares-removed}
use Rattle.rec_tools.specs.Home.{Contents}
use Rattle.rec_tools.specs.declared.home.Which.TheVariants.{Base, Journal}
use Rattle.rec_files.specs.Leftovers.{BeginsAsJournal}
use Rattle.rec_files.specs.OnDisk.{Sites, CanSync, CanSyncAll, IsNext, IsRead, or_empty, GivesRights}
use Rattle.rec_files.specs.Succeeding.{AreApart, IsTold}
use Rattle.rec_files.specs.declared.steps.Act.TheVariants.{Part, Remove, Clear}
use Rattle.rec_files.specs.declared.steps.Step.{Step}
use Rattle.rec_files.specs.proving.Replacing.{AreSpared, Between, IsSyncing, LastAs}
use Rattle.rec_files.specs.proving.Recovering.{CanTell, IsFine, IsGone, IsOwn, IsSyncedSince}
use Rattle.rec_files.specs.proving.Succeeding.{AreFree}
use Rattle.rec_files.specs.proving.Steps.{Task, Numbers, numbers, AreFound, CanReplace, Replaces, Puts, Plays, CanPlay, list_for, ready, removing, settling, both_made, of_file, of_journal}
use Rattle.rec_files.proofs.lemmas.Steps.{syncing}
use Rattle.rec_files.proofs.lemmas.Moments.{in_synced, since-syncing}
use Rattle.rec_files.proofs.lemmas.Telling.{own_now, stands_now, tell_removing_file, tell_removing_journal, tell_since}
use Rattle.rec_files.proofs.lemmas.Replacing.{between_still, read_spared, settled_last}
use Rattle.rec_files.proofs.lemmas.Recovering.{next_settled, next_spared}
use Rattle.rec_files.proofs.lemmas.Succeeding.{stands_still}
use Rattle.rec_files.proofs.lemmas.Playing.{made_of, IsKept, Keeps, changed, keeps_so, kept, kept_play, none_played, stepped}
use Rattle.rec_files.proofs.lemmas.Settling.{BothSettled, Calm, CanSettleBoth, IsKeptAt, settling_steps}
use Rattle.rec_files.proofs.lemmas.Rights.{IsOldAt, gives_first, gives_since, gives_then, old_removed, old_then, rights_still, spared_old}
use Rattle.rec_files.proofs.lemmas.Promises.{AreSeen, CanLast, CanRecover, CanSucceed, Done, Four, Playing, Promised, Two, alone_steps, at_first, both_steps}

-- ---- what stands under the working names is removed

-- C is given where what is left can be told
module _ {D F S : Type 0} (disk : Disk D F S) (task : Task) (apart : AreApart (Four disk task)) (s0 : State) (C : Bool → Type 0)
    (syncs : (crash : Bool) → C crash → CanSyncAll disk crash (Four disk task)) where
  abbrev At : Sites
  At = Four disk task

  pub record Clearing (y : Numbers) (s : State) : Type 0 where
    pub spared : (q : List ℕ) → q ≢ At.new_journal → q ≢ At.new_file → Spares q s0 s
    pub tell : (crash : Bool) → C crash → CanTell crash disk.folder At s
    pub new_file : IsOldAt At.new_file s0 s
    pub new_journal : IsOldAt At.new_journal s0 s

  -- no new file stands, or comes back
  abbrev Gone : State → Type 0
  Gone s = (crash : Bool) → C crash → IsGone crash disk.folder At s

  clearing_first : ((crash : Bool) → C crash → CanTell crash disk.folder At s0) → (y : Numbers) → Clearing y s0
  clearing_first tell y =
      record { spared = λ q a b. spares_itself q s0; tell = tell; new_file = λ n at. (at, (refl, refl)); new_journal = λ n at. (at, (refl, refl)) }

  clearing_still : (y z : Numbers) (s t : State) → Clearing y s → ((q : List ℕ) → Spares q s t) → IsSyncedSince disk.folder s t → Clearing z t
  clearing_still y z s t was spares since = record {
    spared = λ q ne_j ne_f. spares_then q s0 s t (was.spared q ne_j ne_f) (spares q);
    tell = λ crash c. tell_since crash disk.folder At (λ e. (syncs crash c e).0) s t (was.tell crash c) since;
    new_file = old_then At.new_file s0 s t was.new_file (spared_old At.new_file s t (spares At.new_file));
    new_journal = old_then At.new_journal s0 s t was.new_journal (spared_old At.new_journal s t (spares At.new_journal));
  }

  clearing_file : (y z : Numbers) (s t : State) → Clearing y s → t ≡ removed s At.new_file → Clearing z t
  clearing_file y z s t was is = record {
    spared = λ q ne_j ne_f. spares_then q s0 s t (was.spared q ne_j ne_f) (subst (Spares q s) (sym is) (spares-removed q s At.new_file ne_f));
    tell = λ crash c. tell_removing_file crash disk.folder At s t apart (was.tell crash c) (inr is);
    new_file = old_removed At.new_file s0 s t is;
    new_journal = old_then At.new_journal s0 s t was.new_journal
        (spared_old At.new_journal s t (subst (Spares At.new_journal s) (sym is) (spares-removed At.new_journal s At.new_file apart.new_pair)));
  }

  clearing_journal : (y z : Numbers) (s t : State) → Clearing y s → Gone s → t ≡ removed s At.new_journal → Clearing z t
  clearing_journal y z s t was gone is = record {
    spared = λ q ne_j ne_f. spares_then q s0 s t (was.spared q ne_j ne_f) (subst (Spares q s) (sym is) (spares-removed q s At.new_journal ne_j));
    tell = λ crash c. tell_removing_journal crash disk.folder At s t apart (was.tell crash c) (gone crash c) (inr is);
    new_file = old_then At.new_file s0 s t was.new_file
        (spared_old At.new_file s t (subst (Spares At.new_file s) (sym is) (spares-removed At.new_file s At.new_journal (λ e. apart.new_pair (sym e)))));
    new_journal = old_removed At.new_journal s0 s t is;
  }

  nothing_at : (s t : State) (w : List ℕ) → t ≡ removed s w → t.at w ≡ None
  nothing_at s t w is = ap (λ (u : State). u.at w) is ∙ put_same s.at w w None refl

  -- in two folders the file's is synced in between
  module _ (G : Type 0) (Q : Numbers → State → Type 0) (rest : List Step) (y : Numbers) (s : State) (was : Clearing y s) (none : (crash : Bool) → C crash → s.at At.new_file ≡ None)
      (then : (t : State) → Clearing y t → Gone t → ((q : List ℕ) → Spares q s t) → Keeps disk task G Clearing Q rest y t) where
    abbrev Parted : State → Type 0
    Parted t = IsSyncing disk.folder disk.syncs (disk.folder At.file) s t

    parted_clearing : (t : State) → Parted t → Clearing y t
    parted_clearing t step =
        clearing_still y y s t was (λ q. syncing q disk.folder disk.syncs (disk.folder At.file) s t step) (since-syncing disk.folder disk.syncs (disk.folder At.file) s t step)

    parted_gone : (t : State) → Parted t → Gone t
    parted_gone t step crash c =
        let at : t.at At.new_file ≡ None = (syncing At.new_file disk.folder disk.syncs (disk.folder At.file) s t step).at ∙ none crash c in
        record {
          now = at;
          left = λ ne v may. stands_now crash disk.folder At.new_file (disk.folder At.file) (λ e. (syncs crash c e).0.0) t v
              (in_synced disk.folder crash disk.syncs (disk.folder At.file) s t (λ e. (syncs crash c e).1.0) step) may ∙ at;
        }

    parted : Keeps disk task G Clearing Q (of_file Part ∷ rest) y s
    parted =
        changed disk task G Clearing Q Base Part rest y s (λ ok t. Parted t) (λ g. tt) (λ ok z t does. does)
        (λ one. then s was (λ crash c. record { now = none crash c; left = λ ne. absurd (ne (one refl)) }) (λ q. spares_itself q s)) (λ ok t step. parted_clearing t step)
        (λ t step. then t (parted_clearing t step) (parted_gone t step) (λ q. syncing q disk.folder disk.syncs (disk.folder At.file) s t step))

-- ---- what was made is removed

module _ {D F S : Type 0} (disk : Disk D F S) (task : Task) (apart : AreApart (Four disk task)) (x : Numbers) (s0 : State) where
  -- it is told, and the new file is that which was made
  pub record CanRemove (crash : Bool) : Type 0 where
    pub can : CanSyncAll disk crash (Four disk task)
    pub tell : CanTell crash disk.folder (Four disk task) s0
    pub own : IsOwn crash (Four disk task).new_file x.file s0

  abbrev pub Removing : Numbers → State → Type 0
  Removing = Clearing disk task apart s0 CanRemove (λ crash c. c.can)

  abbrev Over : Numbers → State → Type 0
  Over y s = Unit {0}

  abbrev Removes : List Step → Numbers → State → Type 0
  Removes = Keeps disk task ⊥ Removing Over

  removing_first : (y : Numbers) → Removing y s0
  removing_first = clearing_first disk task apart s0 CanRemove (λ crash c. c.can) (λ crash c. c.tell)

  journal_removed : (y : Numbers) (s : State) → Removing y s → Gone disk task apart s0 CanRemove (λ crash c. c.can) s → Removes (of_journal Remove ∷ []) y s
  journal_removed y s was gone =
      stepped disk task ⊥ Removing Over Journal Remove [] y s (λ can. can) (λ rests. tt)
      (λ ok z t does. clearing_journal disk task apart s0 CanRemove (λ crash c. c.can) y z s t was gone does.1) (λ z t does. tt)

  own_made : (made : Option ℕ) → x.file ≡ made → (crash : Bool) → CanRemove crash → IsOwn crash (Four disk task).new_file made s0
  own_made made is crash c = subst (λ own. IsOwn crash (Four disk task).new_file own s0) is c.own

  all_removed : (made : Option ℕ) → x.file ≡ made → Removes (removing made) x s0
  all_removed None is =
      journal_removed x s0 (removing_first x)
      (λ crash c.
      let none : (v : Option ℕ) → MayStand crash s0 (Four disk task).new_file v → v ≡ None = λ v may. elim (own_made None is crash c v may) [
        | inl e ↦ e
        | inr e ↦ e
      ] in
      record { now = none (s0.at (Four disk task).new_file) (inl refl); left = λ ne. none })
  all_removed (Some m) is =
      let then : (y : Numbers) (s : State) → Removing y s → ((crash : Bool) → CanRemove crash → s.at (Four disk task).new_file ≡ None) → Removes (of_file Part ∷ of_journal Remove ∷ []) y s =
      λ y s was none. parted disk task apart s0 CanRemove (λ crash c. c.can) ⊥ Over (of_journal Remove ∷ []) y s was none (λ t now gone spares. journal_removed y t now gone) in
      stepped disk task ⊥ Removing Over Base Remove (of_file Part ∷ of_journal Remove ∷ []) x s0 (λ can. can)
      (λ rests. then x s0 (removing_first x) (λ crash c. elim (own_now crash (Four disk task).new_file x.file s0 c.own) [
        | inl none ↦ none
        | inr own ↦ absurd (subst (λ v. IfSome v (λ n. s0.at (Four disk task).new_file ≢ Some n)) is (rests refl) (own ∙ is))
      ])) (λ ok z t does. clearing_file disk task apart s0 CanRemove (λ crash c. c.can) x z s0 t (removing_first x) does.1) (λ z t does.
      then z t (clearing_file disk task apart s0 CanRemove (λ crash c. c.can) x z s0 t (removing_first x) does.1)
      (λ crash c. nothing_at disk task apart s0 CanRemove (λ crash c. c.can) s0 t (Four disk task).new_file does.1))

-- ---- what was found is removed, and both are settled

module _ {D F S : Type 0} (disk : Disk D F S) (task : Task) (file : Option (List ℕ)) (apart : AreApart (Four disk task)) (x : Numbers) (s0 : State) (found : AreFound (Four disk task) x s0) where
  -- what was read before
  pub record WasRead (crash : Bool) (c : Contents) : Type 0 where
    pub can : CanSync disk crash (Two disk task)
    pub read : IsRead (Two disk task) c s0

  -- and what is left could be told
  pub record WasTold (crash : Bool) : Type 0 where
    pub can : CanSyncAll disk crash (Four disk task)
    pub begins : BeginsAsJournal task.journal_bytes
    pub short : length task.journal_bytes ≤ 1_073_741_824
    pub next : IsNext (Four disk task) task.journal_bytes file s0
    pub tell : CanTell crash disk.folder (Four disk task) s0

  abbrev pub Readying : Numbers → State → Type 0
  Readying = Clearing disk task apart s0 WasTold (λ crash c. c.can)

  pub record IsReady (y : Numbers) (s : State) : Type 0 where
    pub clearing : Readying y s
    pub free : AreFree (Four disk task) s
    pub file_kept : IsKeptAt disk task s (Four disk task).file s
    pub journal_kept : IsKeptAt disk task s (Four disk task).journal s

  abbrev Can : Type 0
  Can = CanReplace disk task file x s0

  abbrev Readies : List Step → Numbers → State → Type 0
  Readies = Keeps disk task Can Readying IsReady

  can_settle : (y : Numbers) (s : State) → Readying y s → Can → CanSettleBoth disk task s
  can_settle y s was can = (
    record { at = (was.spared (Four disk task).file apart.file_new_journal apart.file_new_file).at ∙ can.unchanged.file_stands.at; is_regular = can.is_regular },
    record { at = (was.spared (Four disk task).journal apart.journal_new_journal apart.journal_new_file).at ∙ can.unchanged.journal_stands.at; is_regular = can.unchanged.is_regular },
  )

  settled : (y : Numbers) (s : State) → Readying y s → AreFree (Four disk task) s → Readies settling y s
  settled y s was free =
      let after : (z : Numbers) (t : State) → Calm disk task s z t → Readying z t = λ z t calm. clearing_still disk task apart s0 WasTold (λ crash c. c.can) y z s t was calm.all calm.since in
      keeps_so disk task (CanSettleBoth disk task s) Can (Calm disk task s) Readying (BothSettled disk task s) IsReady (can_settle y s was) after (λ z t is. record {
        clearing = after z t is.calm;
        free = record {
          journal = (is.calm.all (Four disk task).new_journal).at ∙ free.journal;
          file = (is.calm.all (Four disk task).new_file).at ∙ free.file;
        };
        file_kept = is.file;
        journal_kept = is.journal;
      }) settling y s (settling_steps disk task s y)

  journal_cleared : (y : Numbers) (s : State) → Readying y s → Gone disk task apart s0 WasTold (λ crash c. c.can) s → s.at (Four disk task).new_file ≡ None
      → s.at (Four disk task).new_journal ≡ y.journal → Readies (of_journal Clear ∷ settling) y s
  journal_cleared y s was gone none at =
      let after : (z : Numbers) (t : State) → t ≡ removed s (Four disk task).new_journal → Readying z t = λ z t is.
      clearing_journal disk task apart s0 WasTold (λ crash c. c.can) y z s t was gone is in
      stepped disk task Can Readying IsReady Journal Clear settling y s (λ can. at) (λ rests. settled y s was (record { journal = at ∙ rests refl; file = none })) (λ ok z t does. after z t does.1)
      (λ z t does. settled z t (after z t does.1) (record {
        journal = nothing_at disk task apart s0 WasTold (λ crash c. c.can) s t (Four disk task).new_journal does.1;
        file = (subst (Spares (Four disk task).new_file s) (sym does.1) (spares-removed (Four disk task).new_file s (Four disk task).new_journal (λ e. apart.new_pair (sym e)))).at ∙ none;
      }))

  file_cleared : (rest : List Step) → ((y : Numbers) (s : State) → Readying y s → s.at (Four disk task).new_file ≡ None → s.at (Four disk task).new_journal ≡ y.journal
      → y.journal ≡ x.journal → Readies rest y s) → Readies (of_file Clear ∷ rest) x s0
  file_cleared rest then =
      let first : (y : Numbers) → Readying y s0 = clearing_first disk task apart s0 WasTold (λ crash c. c.can) (λ crash c. c.tell) in
      let after : (y : Numbers) (t : State) → t ≡ removed s0 (Four disk task).new_file → Readying y t = λ y t is.
      clearing_file disk task apart s0 WasTold (λ crash c. c.can) x y s0 t (first x) is in
      stepped disk task Can Readying IsReady Base Clear rest x s0 (λ can. found.file) (λ rests. then x s0 (first x) (found.file ∙ rests refl) found.journal refl) (λ ok y t does. after y t does.1)
      (λ y t does.
      then y t (after y t does.1) (nothing_at disk task apart s0 WasTold (λ crash c. c.can) s0 t (Four disk task).new_file does.1)
      ((subst (Spares (Four disk task).new_journal s0) (sym does.1) (spares-removed (Four disk task).new_journal s0 (Four disk task).new_file apart.new_pair)).at ∙ found.journal ∙ sym does.0)
      does.0)

  all_ready : (journal : Option ℕ) → x.journal ≡ journal → Readies (ready journal) x s0
  all_ready None is = file_cleared settling (λ y s was none at same. settled y s was (record { journal = at ∙ same ∙ is; file = none }))
  all_ready (Some n) is =
      file_cleared (of_file Part ∷ of_journal Clear ∷ settling)
      (λ y s was none at same.
      parted disk task apart s0 WasTold (λ crash c. c.can) Can IsReady (of_journal Clear ∷ settling) y s was (λ crash c. none)
      (λ t now gone spares. journal_cleared y t now gone ((spares (Four disk task).new_file).at ∙ none) ((spares (Four disk task).new_journal).at ∙ at)))

  -- ---- what holds then is what the rest begins with

  module _ (y : Numbers) (s : State) (is : IsReady y s) where
    spared_file : Spares (Four disk task).file s0 s
    spared_file = is.clearing.spared (Four disk task).file apart.file_new_journal apart.file_new_file

    spared_journal : Spares (Four disk task).journal s0 s
    spared_journal = is.clearing.spared (Four disk task).journal apart.journal_new_journal apart.journal_new_file

    ready_last : (crash : Bool) (c : Contents) → WasRead crash c → CanLast disk task file s crash c
    ready_last crash c was = record {
      can = was.can;
      last = settled_last crash (Two disk task) c s (read_spared crash (Two disk task) c s0 s was.read (spared_file, spared_journal))
          (record { file = (is.file_kept crash (λ e. (was.can e).0)).0; journal = (is.journal_kept crash (λ e. (was.can e).1)).0 });
    }

    ready_recovers : (crash : Bool) → WasTold crash → CanRecover disk task file s crash
    ready_recovers crash was =
        let of_file = is.file_kept crash (λ e. (was.can e).1.0) in
        let of_journal = is.journal_kept crash (λ e. (was.can e).1.1) in
        record {
          can = was.can;
          begins = was.begins;
          short = was.short;
          next = next_settled (Four disk task) task.journal_bytes crash file s (next_spared (Four disk task) task.journal_bytes file s0 s was.next spared_file) of_file.0;
          alone = record {
            journal = λ v may. subst (λ v. IfSome v (IsFine crash s)) (sym (stands_now crash disk.folder (Four disk task).new_journal (disk.folder (Four disk task).journal) (λ e. (was.can e).0.1) s v
                of_journal.1 may ∙ is.free.journal)) tt;
            file = λ v may. stands_now crash disk.folder (Four disk task).new_file (disk.folder (Four disk task).file) (λ e. (was.can e).0.0) s v of_file.1 may ∙ is.free.file;
          };
        }

    ready_succeeds : Can → CanSucceed disk task file s
    ready_succeeds can = record {
      short = can.short;
      file_stands = stands_still disk task.file s0 s spared_file can.unchanged.file_stands;
      journal_stands = stands_still disk task.journal s0 s spared_journal can.unchanged.journal_stands;
    }

-- ---- all of it

abbrev none_of : Numbers
none_of = record { file = None; journal = None }

pub none_made : {D F S : Type 0} (disk : Disk D F S) (made : Made D F S) → (made.file ≡ None) × (made.journal ≡ None) → ((numbers disk made).file ≡ None) × ((numbers disk made).journal ≡ None)
none_made disk made none = (ap (option_map disk.number) none.0, ap (option_map disk.number) none.1)

pub not_ok : {X E : Type 0} (result : Result X E) (failed : Bool) → failed ≡ is_err result → failed ≡ true → is_ok result ≡ false
not_ok (Ok x) failed is fails = absurd (false≢true (sym is ∙ fails))
not_ok (Err e) failed is fails = refl

is_none : (z : Numbers) → z.file ≡ None → z.journal ≡ None → z ≡ none_of
is_none z file journal = ap (λ one. made_of one z.journal) file ∙ ap (λ one. made_of None one) journal

-- by what is put as the file
steps_keep : {D F S : Type 0} (disk : Disk D F S) (task : Task) (file : Option (List ℕ)) (s0 : State) (apart : AreApart (Four disk task)) (free : AreFree (Four disk task) s0)
    → task.file_bytes ≡ or_empty file → Playing disk task file s0 apart free (list_for file) none_of s0
steps_keep disk task None s0 apart free is = alone_steps disk task s0 apart free none_of refl
steps_keep disk task (Some bytes) s0 apart free is = subst (λ b. Playing disk task (Some b) s0 apart free both_made none_of s0) is (both_steps disk task s0 apart free none_of refl)

module _ {D F S : Type 0} (disk : Disk D F S) (task : Task) (file : Option (List ℕ)) (x : Numbers) where
  -- where no story is told
  pub none_put : (ok : Bool) (n : Option Story) → Puts disk task file x ok None n → n ≡ None
  none_put ok n (y, inl (fails, plays)) = none_played disk task (ready x.journal) false x y n plays
  none_put ok n (y, inr (mid, first, (z, last, rest, over))) =
      let none = none_played disk task (ready x.journal) true x y mid first in
      let nothing = none_played disk task (list_for file) ok none_of z last (subst (λ mid. Plays disk task (list_for file) ok none_of z mid last) none rest) in
      elim over [
        | inl same ↦ same ∙ nothing
        | inr (fails, (w, done, plays)) ↦ none_played disk task (removing z.file) done z w n (subst (λ last. Plays disk task (removing z.file) done z w last n) nothing plays)
      ]

  module _ (is_file : task.file_bytes ≡ or_empty file) (apart : AreApart (Four disk task)) (a : Story) (found : AreFound (Four disk task) x a.now) where
    -- what is promised of each moment, and after the last step
    pub record IsSafe (u : State) : Type 0 where
      pub strangers : (q : List ℕ) → q ≢ (Four disk task).file → q ≢ (Four disk task).journal → q ≢ (Four disk task).new_file → q ≢ (Four disk task).new_journal → Spares q a.now u
      pub alone : file ≡ None → Spares (Four disk task).file a.now u
      pub between : (crash : Bool) (c : Contents) → WasRead disk task file apart x a.now found crash c → AreSpared (Two disk task) a.now u ⊎ Between crash (Two disk task) c task.journal_bytes file u
      pub tell : (crash : Bool) → WasTold disk task file apart x a.now found crash → CanTell crash disk.folder (Four disk task) u
      pub rights : AreSeen disk task a.now → GivesRights (Four disk task) a.now u

    abbrev pub IsLast : State → Type 0
    IsLast u = (crash : Bool) (c : Contents) → WasRead disk task file apart x a.now found crash c → LastAs crash (Two disk task) (unwrap_or file c.file) task.journal_bytes u

    abbrev pub IsSafePut : Option Story → Bool → Type 0
    IsSafePut n ok = AtAnyMoment (Some a) n (λ s u. IsSafe u) × (ok ≡ true → Told n IsLast)

    ready_safe : (y : Numbers) (t : State) → Readying disk task file apart x a.now found y t → IsSafe t
    ready_safe y t is = record {
      strangers = λ q ne_file ne_journal ne_new_file ne_new_journal. is.spared q ne_new_journal ne_new_file;
      alone = λ none. is.spared (Four disk task).file apart.file_new_journal apart.file_new_file;
      between = λ crash c was. inl (is.spared (Four disk task).file apart.file_new_journal apart.file_new_file, is.spared (Four disk task).journal apart.journal_new_journal apart.journal_new_file);
      tell = is.tell;
      rights = λ seen.
          gives_then (Four disk task) a.now t (is.spared (Four disk task).file apart.file_new_journal apart.file_new_file)
          (is.spared (Four disk task).journal apart.journal_new_journal apart.journal_new_file) is.new_file is.new_journal a.now (gives_first (Four disk task) a.now);
    }

    first_kept : (ok : Bool) (y : Numbers) (m : Option Story) → Plays disk task (ready x.journal) ok x y (Some a) m
        → IsKept disk task (CanReplace disk task file x a.now) IsSafe (Readying disk task file apart x a.now found) (IsReady disk task file apart x a.now found) ready_safe a m y ok
    first_kept ok y m plays =
        kept disk task (CanReplace disk task file x a.now) IsSafe (Readying disk task file apart x a.now found) (IsReady disk task file apart x a.now found) ready_safe (ready x.journal) ok x y a m
        (clearing_first disk task apart a.now (WasTold disk task file apart x a.now found) (λ crash c. c.can) (λ crash c. c.tell) x) (all_ready disk task file apart x a.now found x.journal refl) plays

    module _ (y : Numbers) (b : Story) (is : IsReady disk task file apart x a.now found y b.now) where
      promised_safe : (z : Numbers) (t : State) → Promised disk task file b.now z t → IsSafe t
      promised_safe z t so = record {
        strangers = λ q ne_file ne_journal ne_new_file ne_new_journal.
            spares_then q a.now b.now t (is.clearing.spared q ne_new_journal ne_new_file) (so.strangers q ne_file ne_journal ne_new_file ne_new_journal);
        alone = λ none. spares_then (Four disk task).file a.now b.now t (spared_file disk task file apart x a.now found y b.now is) (so.alone none);
        between = λ crash c was. inr (so.between crash c (ready_last disk task file apart x a.now found y b.now is crash c was));
        tell = λ crash was. so.tell crash (ready_recovers disk task file apart x a.now found y b.now is crash was);
        rights = λ seen.
            let file_kept = spared_file disk task file apart x a.now found y b.now is in
            let journal_kept = spared_journal disk task file apart x a.now found y b.now is in
            gives_since (Four disk task) a.now b.now file_kept journal_kept is.clearing.new_file is.clearing.new_journal t
            (so.rights (rights_still (Four disk task).file a.now b.now file_kept ∙ seen.0, rights_still (Four disk task).journal a.now b.now journal_kept ∙ seen.1));
      }

      -- and what was made is removed
      removing_safe : (z w : Numbers) (s t : State) → Promised disk task file b.now z s → Removing disk task apart z s w t → IsSafe t
      removing_safe z w s t so removing =
          let safe = promised_safe z s so in
          let same_file = removing.spared (Four disk task).file apart.file_new_journal apart.file_new_file in
          let same_journal = removing.spared (Four disk task).journal apart.journal_new_journal apart.journal_new_file in
          record {
            strangers = λ q ne_file ne_journal ne_new_file ne_new_journal.
                spares_then q a.now s t (safe.strangers q ne_file ne_journal ne_new_file ne_new_journal) (removing.spared q ne_new_journal ne_new_file);
            alone = λ none. spares_then (Four disk task).file a.now s t (safe.alone none) same_file;
            between = λ crash c was. inr (between_still crash (Two disk task) c task.journal_bytes file s t
                (so.between crash c (ready_last disk task file apart x a.now found y b.now is crash c was)) (same_file, same_journal));
            tell = λ crash was.
                let can = ready_recovers disk task file apart x a.now found y b.now is crash was in
                removing.tell crash (record { can = was.can; tell = so.tell crash can; own = so.own crash can });
            rights = λ seen. gives_then (Four disk task) s t same_file same_journal removing.new_file removing.new_journal a.now (safe.rights seen);
          }

      removed_safe : (z w : Numbers) (done : Bool) (p n : Option Story) → Told p (Promised disk task file b.now z) → AtAnyMoment (Some b) p (λ s u. IsSafe u)
          → Plays disk task (removing z.file) done z w p n → AtAnyMoment p n (λ s u. IsSafe u)
      removed_safe z w done None n so was plays = absurd was
      removed_safe z w done (Some d) n so was plays =
          (kept disk task ⊥ IsSafe (Removing disk task apart z d.now) (λ y s. Unit {0}) (λ w t is. removing_safe z w d.now t so is) (removing z.file) done z w d n
          (removing_first disk task apart z d.now z) (all_removed disk task apart z d.now z.file refl) plays).0

      replaced_safe : (ok : Bool) (n : Option Story) → Replaces disk task file ok (Some b) n → AtAnyMoment (Some b) n (λ s u. IsSafe u) × (ok ≡ true → Told n IsLast)
      replaced_safe ok n (z, p, plays, over) =
          let all = kept disk task (CanSucceed disk task file b.now) IsSafe (Promised disk task file b.now) (Done disk task file b.now) promised_safe (list_for file) ok none_of z b p
          (at_first disk task file b.now apart is.free none_of) (steps_keep disk task file b.now apart is.free is_file) plays in
          elim over [
            | inl same ↦ subst (λ n. AtAnyMoment (Some b) n (λ s u. IsSafe u) × (ok ≡ true → Told n IsLast)) (sym same) (
              all.0,
              λ fine. told_so (Done disk task file b.now z) IsLast p (λ t last crash c was. last crash c (ready_last disk task file apart x a.now found y b.now is crash c was)) (all.1.1 fine),
            )
            | inr (fails, (w, done, removed)) ↦ (
              since_then IsSafe (Some b) p n all.0 (removed_safe z w done p n all.1.0 all.0 removed),
              λ fine. absurd (false≢true (sym fails ∙ fine)),
            )
          ]

    then_safe : (y : Numbers) (m n : Option Story) (ok : Bool) → AtAnyMoment (Some a) m (λ s u. IsSafe u) → Told m (IsReady disk task file apart x a.now found y) → Replaces disk task file ok m n
        → IsSafePut n ok
    then_safe y None n ok was is replaces = absurd was
    then_safe y (Some b) n ok was is replaces =
        let rest = replaced_safe y b is ok n replaces in
        (since_then IsSafe (Some a) (Some b) n was rest.0, rest.1)

    pub safe_put : (ok : Bool) (n : Option Story) → Puts disk task file x ok (Some a) n → IsSafePut n ok
    safe_put ok n (y, inl (fails, plays)) = ((first_kept false y n plays).0, λ fine. absurd (false≢true (sym fails ∙ fine)))
    safe_put ok n (y, inr (m, first, rest)) = let all = first_kept true y m first in then_safe y m n ok all.0 (all.1.1 refl) rest

    second_play : (y : Numbers) (m : Option Story) → CanReplace disk task file x a.now → AtAnyMoment (Some a) m (λ s u. IsSafe u) → Told m (IsReady disk task file apart x a.now found y)
        → IsTold m (CanPlay disk task (list_for file) none_of)
    second_play y None can was is = absurd was
    second_play y (Some b) can was is =
        kept_play disk task (CanSucceed disk task file b.now) (Promised disk task file b.now) (Done disk task file b.now) (list_for file) none_of b.now
        (steps_keep disk task file b.now apart is.free is_file) (ready_succeeds disk task file apart x a.now found y b.now is can)

  -- ---- each step finds what it needs

  pub can_ready : (steps : List Step) (o : Option Story) → steps ≡ ready x.journal → IsTold o (CanReplace disk task file x) → IsTold o (CanPlay disk task steps x)
  can_ready steps None is can = absurd can
  can_ready steps (Some a) is can =
      subst (λ steps. CanPlay disk task steps x a.now) (sym is)
      (kept_play disk task (CanReplace disk task file x a.now) (Readying disk task file can.apart x a.now can.found) (IsReady disk task file can.apart x a.now can.found) (ready x.journal) x a.now
      (all_ready disk task file can.apart x a.now can.found x.journal refl) can)

  second_after : (is_file : task.file_bytes ≡ or_empty file) (y : Numbers) (o m : Option Story) → IsTold o (CanReplace disk task file x) → Plays disk task (ready x.journal) true x y o m
      → IsTold m (CanPlay disk task (list_for file) none_of)
  second_after is_file y None m can plays = absurd can
  second_after is_file y (Some a) m can plays =
      let all = first_kept is_file can.apart a can.found true y m plays in second_play is_file can.apart a can.found y m can all.0 (all.1.1 refl)

  pub can_replace : (is_file : task.file_bytes ≡ or_empty file) (steps then : List Step) (y z : Numbers) (o m : Option Story) → steps ≡ ready x.journal → then ≡ list_for file
      → (z.file ≡ None) × (z.journal ≡ None) → IsTold o (CanReplace disk task file x) → Plays disk task steps true x y o m → IsTold m (CanPlay disk task then z)
  can_replace is_file steps then y z o m is are none can plays =
      subst (λ then. IsTold m (CanPlay disk task then z)) (sym are)
      (subst (λ z. IsTold m (CanPlay disk task (list_for file) z)) (sym (is_none z none.0 none.1)) (second_after is_file y o m can (subst (λ steps. Plays disk task steps true x y o m) is plays)))

  -- ---- by what was played

  pub puts_refused : (steps : List Step) (ok : Bool) (y : Numbers) (o n : Option Story) → ok ≡ false → steps ≡ ready x.journal → Plays disk task steps false x y o n → Puts disk task file x ok o n
  puts_refused steps ok y o n fails is plays = (y, inl (fails, subst (λ steps. Plays disk task steps false x y o n) is plays))

  module _ (steps then : List Step) (ok : Bool) (y z w : Numbers) (o m p : Option Story) (is : steps ≡ ready x.journal) (first : Plays disk task steps true x y o m) (are : then ≡ list_for file)
      (none : (z.file ≡ None) × (z.journal ≡ None)) (last : Plays disk task then ok z w m p) where
    first_so : Plays disk task (ready x.journal) true x y o m
    first_so = subst (λ steps. Plays disk task steps true x y o m) is first

    last_so : Plays disk task (list_for file) ok none_of w m p
    last_so = subst (λ z. Plays disk task (list_for file) ok z w m p) (is_none z none.0 none.1) (subst (λ then. Plays disk task then ok z w m p) are last)

    pub puts_made : Puts disk task file x ok o p
    puts_made = (y, inr (m, first_so, (w, p, last_so, inl refl)))

    pub puts_removed : (removals : List Step) (done : Bool) (v : Numbers) (n : Option Story) → ok ≡ false → removals ≡ removing w.file → Plays disk task removals done w v p n
        → Puts disk task file x ok o n
    puts_removed removals done v n fails so plays =
        (y, inr (m, first_so, (w, p, last_so, inr (fails, (v, done, subst (λ removals. Plays disk task removals done w v p n) so plays)))))
