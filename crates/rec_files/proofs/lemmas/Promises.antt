-- The promises of a put, from what each of its steps keeps.
use Rattle.std.proofs.Common.{◌≡◌, ◌≢◌, ◌∙◌, inl, inr, ℕ, ◌≤◌, Bool, true, false, List, [], ◌∷◌, length, take, Option, Some, None, IfSome, IsSomeAnd, refl, sym, ap, subst}
use Rattle.std.proofs.lemmas.Bool.{false≢true}
use Rattle.std.specs.Prelude.{IsSome, unwrap_or}
use Rattle.rec_disk.specs.declared.disk.Disk.{Ghosts as Disk}
use Rattle.rec_disk.specs.Disk.{State, IsGiven, made, gave, wrote, synced, renamed}
use Rattle.rec_disk.specs.Disk.{rights_seen}
use Rattle.rec_disk.specs.declared.log.Rights.{Rights}
use Rattle.rec_disk.specs.Rights.{narrow}
use Rattle.std.specs.Prelude.{option_map}
use Rattle.std.specs.Option.{option_and_then}
use Rattle.rec_disk.specs.Lasting.{MayStand, Spares}
use Rattle.rec_disk.specs.proving.Places.{Avoids, Waits, IsUnmoved}
use Rattle.rec_disk.proofs.lemmas.Calls.{avoids_unmoved}
use Rattle.rec_disk.proofs.lemmas.Points.{set_same, set_other, put_same}
use Rattle.rec_disk.proofs.lemmas.Places.{avoids_still, spares_itself, spares_then, spares-gave, spares-made, spares-synced, spares-wrote, avoids-made, outlasts_still, waits_still}
use Rattle.rec_tools.specs.Home.{Contents}
use Rattle.rec_tools.specs.declared.home.Which.{Which}
use Rattle.rec_tools.specs.declared.home.Which.TheVariants.{Base, Journal}
use Rattle.rec_files.specs.declared.steps.Act.{Act}
use Rattle.rec_files.specs.Leftovers.{BeginsAsJournal, IsStopBetween}
use Rattle.rec_files.specs.OnDisk.{Places, Sites, sites_of, CanSync, CanSyncAll, rights_at, AreLetOf, FileGets, JournalGets, IsEmptyOr, GivesRights}
use Rattle.rec_files.specs.Succeeding.{AreApart}
use Rattle.rec_files.specs.declared.steps.Act.TheVariants.{Make, Part, Fit, Narrow, Clash, Look, Measure, Write, Keep, Place, Sync, SyncLast}
use Rattle.rec_files.specs.declared.steps.Step.{Step}
use Rattle.rec_files.specs.proving.Replacing.{BothWait, Between, HasFile, HasJournal, IsPlaced, IsPlacing, IsSyncing, LastAs, own_of}
use Rattle.rec_files.specs.proving.Recovering.{CanTell, IsAlone, IsBeside, IsOwn, IsWriting, JournalStands, NextLasts}
use Rattle.rec_files.specs.proving.Steps.{Side, Task, Numbers, side_of, number_of, at_of, new_of, Rests, Does, Needs, CanPlace, StepDoes, StepNeeds, rights_of, narrow_of}
use Rattle.rec_files.specs.proving.Steps.{of_file, of_journal, both_placed, file_written, both_written, both_made, alone_placed}
use Rattle.rec_files.specs.proving.Steps.{alone_written, alone_made}
use Rattle.rec_files.proofs.lemmas.Steps.{if_some_so, some_known, some_none, syncing, synced_after, placed_after}
use Rattle.rec_files.proofs.lemmas.Placing.{spares-placing, lasts_still, journal_placing, journal_placed, file_placing, file_placed}
use Rattle.rec_files.proofs.lemmas.Moments.{alone_making, alone_spared, in_synced}
use Rattle.rec_files.proofs.lemmas.Telling.{alone_beside, alone_placing, alone_tell, beside_tell, beside_making, beside_journal_written, beside_file_written, stands_now}
use Rattle.rec_files.proofs.lemmas.Telling.{tell_placing_journal, tell_placing_file, own_making, own_spared, own_unmoved, own_placing_file, IsReady}
use Rattle.rec_files.proofs.lemmas.Replacing.{old_between, at_journal_between}
use Rattle.rec_files.specs.Succeeding.{StandsAsSeen}
use Rattle.rec_files.specs.proving.Succeeding.{AreFree}
use Rattle.rec_files.proofs.lemmas.Succeeding.{stands_still}
use Rattle.rec_files.proofs.lemmas.Playing.{Keeps, stepped, looked, changed}
use Rattle.rec_files.proofs.lemmas.Rights.{Has, has_none, has_so, gives_first, new_there, new_then, old_new, placing_new, placing_old, spared_old, stays_so}

-- a step of writing
module _ (s : State) (n : ℕ) (bytes : List ℕ) where
  pub writing-wrote : (k : ℕ) → IsWriting n bytes s (wrote s n (take k bytes))
  writing-wrote k = record {
    at = refl;
    olds = refl;
    held = refl;
    written = inr (k, set_same s.bytes n n (take k bytes) refl);
    others = λ m ne. (set_other s.bytes n m (take k bytes) ne, λ e. set_other s.safe n m false ne ∙ e);
  }

  pub writing-synced : IsWriting n bytes s (synced s n)
  writing-synced = record {
    at = refl;
    olds = refl;
    held = refl;
    written = inl (refl, λ e. set_same s.safe n n true refl);
    others = λ m ne. (refl, λ e. set_other s.safe n m true ne ∙ e);
  }

  pub writing-gave : (rights : Rights) → IsWriting n bytes s (gave s n rights)
  writing-gave rights = record {
    at = refl;
    olds = refl;
    held = refl;
    written = inl (refl, λ e. e);
    others = λ m ne. (refl, λ e. e);
  }

pub if_some_both : {X : Type 0} (x : Option X) (P Q R : X → Type 0) → ((x : X) → P x → Q x → R x) → IfSome x P → IfSome x Q → IfSome x R
if_some_both None P Q R both p q = tt
if_some_both (Some x) P Q R both p q = both x p q

module _ {D F S : Type 0} (disk : Disk D F S) (task : Task) where
  abbrev pub Four : Sites
  Four = sites_of disk.place task.file.path task.journal.path

  abbrev pub Two : Places
  Two = own_of Four

  -- the rights of both are those that were seen
  abbrev pub AreSeen : State → Type 0
  AreSeen s = (rights_at s Four.file ≡ rights_of task.file) × (rights_at s Four.journal ≡ rights_of task.journal)

  module _ (file : Option (List ℕ)) (s0 : State) where
    -- what was there before lasts
    pub record CanLast (crash : Bool) (c : Contents) : Type 0 where
      pub can : CanSync disk crash Two
      pub last : LastAs crash Two c.file c.journal s0

    -- and nothing is left under the working names
    pub record CanRecover (crash : Bool) : Type 0 where
      pub can : CanSyncAll disk crash Four
      pub begins : BeginsAsJournal task.journal_bytes
      pub short : length task.journal_bytes ≤ 1_073_741_824
      pub next : NextLasts crash Four task.journal_bytes file s0
      pub alone : IsAlone crash Four s0

    -- what holds at any moment
    pub record Promised (y : Numbers) (s : State) : Type 0 where
      pub strangers : (q : List ℕ) → q ≢ Four.file → q ≢ Four.journal → q ≢ Four.new_file → q ≢ Four.new_journal → Spares q s0 s
      pub alone : file ≡ None → Spares Four.file s0 s
      pub between : (crash : Bool) (c : Contents) → CanLast crash c → Between crash Two c task.journal_bytes file s
      pub tell : (crash : Bool) → CanRecover crash → CanTell crash disk.folder Four s
      pub own : (crash : Bool) → CanRecover crash → IsOwn crash Four.new_file y.file s
      pub rights : AreSeen s0 → GivesRights Four s0 s

    -- and after the last step
    abbrev pub Done : Numbers → State → Type 0
    Done y s = (crash : Bool) (c : Contents) → CanLast crash c → LastAs crash Two (unwrap_or file c.file) task.journal_bytes s

    -- nothing but under the working names
    abbrev Spared : State → Type 0
    Spared s = (q : List ℕ) → q ≢ Four.new_journal → q ≢ Four.new_file → Spares q s0 s

    spared_on : (s t : State) → Spared s → ((q : List ℕ) → q ≢ Four.new_journal → q ≢ Four.new_file → Spares q s t) → Spared t
    spared_on s t spared more = λ q ne_j ne_f. spares_then q s0 s t (spared q ne_j ne_f) (more q ne_j ne_f)

    -- what was made has its rights, each of the two or not yet
    abbrev pub RightsOf : Bool → Bool → ℕ → Option ℕ → State → Type 0
    RightsOf j f n m s = Has j (JournalGets Four s0) (s.rights n) (s.bytes n) × IfSome m (λ m. Has f (FileGets Four s0) (s.rights m) (s.bytes m))

    -- the new journal was made, and then the file's new one, where there is one
    pub record AreNew (j f : Bool) (n : ℕ) (m : Option ℕ) (y : Numbers) (s : State) : Type 0 where
      pub spared : Spared s
      pub journal : s.at Four.new_journal ≡ Some n
      pub elsewhere : (q : List ℕ) → q ≢ Four.new_journal → q ≢ Four.new_file → Avoids s q n
      pub new_file : s.at Four.new_file ≡ m
      pub file_elsewhere : IfSome m (λ m. (q : List ℕ) → q ≢ Four.new_file → Avoids s q m)
      pub journal_number : y.journal ≡ Some n
      pub file_number : y.file ≡ m
      pub beside : (crash : Bool) → CanRecover crash → IsBeside crash disk.folder Four s
      pub own : (crash : Bool) → CanRecover crash → IsOwn crash Four.new_file m s
      pub rights : AreSeen s0 → RightsOf j f n m s

    module _ (apart : AreApart Four) (free : AreFree Four s0) where
      last_still : (s : State) → Spared s → (crash : Bool) (c : Contents) → CanLast crash c → LastAs crash Two c.file c.journal s
      last_still s spared crash c can =
          lasts_still crash (HasFile c.file) (HasJournal c.journal) Two s0 s (spared Four.file apart.file_new_journal apart.file_new_file)
          (spared Four.journal apart.journal_new_journal apart.journal_new_file) can.last

      unplaced : (y : Numbers) (s : State) → Spared s → ((crash : Bool) → CanRecover crash → IsBeside crash disk.folder Four s)
          → ((crash : Bool) → CanRecover crash → IsOwn crash Four.new_file y.file s) → (AreSeen s0 → GivesRights Four s0 s) → Promised y s
      unplaced y s spared beside own rights = record {
        strangers = λ q ne_file ne_journal ne_new_file ne_new_journal. spared q ne_new_journal ne_new_file;
        alone = λ none. spared Four.file apart.file_new_journal apart.file_new_file;
        between = λ crash c can. old_between crash Two c task.journal_bytes file s (last_still s spared crash c can);
        tell = λ crash can. beside_tell crash disk.folder Four s (beside crash can);
        own = own;
        rights = rights;
      }

      pub at_first : (x : Numbers) → Promised x s0
      at_first x =
          unplaced x s0 (λ q ne_j ne_f. spares_itself q s0) (λ crash can. alone_beside crash disk.folder Four s0 can.alone) (λ crash can v may. inl (can.alone.file v may))
          (λ seen. gives_first Four s0)

      new_gives : (j f : Bool) (n : ℕ) (m : Option ℕ) (y : Numbers) (s : State) → AreNew j f n m y s → AreSeen s0 → GivesRights Four s0 s
      new_gives j f n m y s is seen = record {
        file = old_new Four.file (λ r b. FileGets Four s0 r) s0 s (spared_old Four.file s0 s (is.spared Four.file apart.file_new_journal apart.file_new_file));
        journal = old_new Four.journal (λ r b. JournalGets Four s0 r) s0 s (spared_old Four.journal s0 s (is.spared Four.journal apart.journal_new_journal apart.journal_new_file));
        new_file = new_there Four.new_file (IsEmptyOr (FileGets Four s0)) s0 s m is.new_file
            (if_some_so m (λ m. Has f (FileGets Four s0) (s.rights m) (s.bytes m)) (λ m. IsEmptyOr (FileGets Four s0) (s.rights m) (s.bytes m))
            (λ m. has_so f (FileGets Four s0) (s.rights m) (s.bytes m)) (is.rights seen).1);
        new_journal = new_there Four.new_journal (IsEmptyOr (JournalGets Four s0)) s0 s (Some n) is.journal (has_so j (JournalGets Four s0) (s.rights n) (s.bytes n) (is.rights seen).0);
      }

      pub promised : (j f : Bool) (n : ℕ) (m : Option ℕ) (y : Numbers) (s : State) → AreNew j f n m y s → Promised y s
      promised j f n m y s is =
          unplaced y s is.spared is.beside (λ crash can. subst (λ own. IsOwn crash Four.new_file own s) (sym is.file_number) (is.own crash can)) (new_gives j f n m y s is)

      -- ---- the journal's is made, and its folder is synced

      alone_then : (j f : Bool) (n : ℕ) (y : Numbers) (s : State) → AreNew j f n None y s → (crash : Bool) → CanRecover crash → IsAlone crash Four s
      alone_then j f n y s is crash can = record {
        journal = (is.beside crash can).journal;
        file = λ v may. elim (is.own crash can v may) [
          | inl none ↦ none
          | inr none ↦ none
        ];
      }

      of_alone : (s : State) → ((crash : Bool) → CanRecover crash → IsAlone crash Four s)
          → ((crash : Bool) → CanRecover crash → IsBeside crash disk.folder Four s) × ((crash : Bool) → CanRecover crash → IsOwn crash Four.new_file None s)
      of_alone s alone = (λ crash can. alone_beside crash disk.folder Four s (alone crash can), λ crash can v may. inl ((alone crash can).file v may))

      pub journal_made : (f ok : Bool) (x y : Numbers) (t : State) → x.file ≡ None → StepDoes disk task (of_journal Make) ok x y s0 t → (n : ℕ) × AreNew false f n None y t
      journal_made f ok x y t start (same, (n, none, fresh, is, number)) =
          let spares : (q : List ℕ) → q ≢ Four.new_journal → Spares q s0 t = λ q ne. subst (Spares q s0) (sym is) (spares-made q s0 Four.new_journal n ne fresh) in
          let new_file = spares Four.new_file (λ e. apart.new_pair (sym e)) in
          let alone = of_alone t (λ crash can. alone_making crash Four s0 t can.alone new_file (inr (n, fresh, is))) in (
            n,
            record {
              spared = λ q ne_j ne_f. spares q ne_j;
              journal = ap (λ (u : State). u.at Four.new_journal) is ∙ put_same s0.at Four.new_journal Four.new_journal (Some n) refl;
              elsewhere = λ q ne_j ne_f. subst (λ (u : State). MayStand true u q (Some n) → ⊥) (sym is) (avoids-made q s0 Four.new_journal n ne_j fresh);
              new_file = new_file.at ∙ free.file;
              file_elsewhere = tt;
              journal_number = number;
              file_number = same ∙ start;
              beside = alone.0;
              own = alone.1;
              rights = λ seen. (has_none (JournalGets Four s0) s0 t Four.new_journal n is, tt);
            },
          )

      pub journal_synced : (f : Bool) (n : ℕ) (y : Numbers) (s t : State) → AreNew false f n None y s → IsSyncing disk.folder disk.syncs (disk.folder Four.journal) s t → AreNew false f n None y t
      journal_synced f n y s t is step =
          let spares : (q : List ℕ) → Spares q s t = λ q. syncing q disk.folder disk.syncs (disk.folder Four.journal) s t step in
          let alone = of_alone t (λ crash can. alone_spared crash Four s t (alone_then false f n y s is crash can) (spares Four.new_file) (spares Four.new_journal)) in
          let at : t.at Four.new_journal ≡ Some n = (spares Four.new_journal).at ∙ is.journal in
          record {
            spared = spared_on s t is.spared (λ q ne_j ne_f. spares q);
            journal = at;
            elsewhere = λ q ne_j ne_f. avoids_still q s t n (spares q) (is.elsewhere q ne_j ne_f);
            new_file = (spares Four.new_file).at ∙ is.new_file;
            file_elsewhere = tt;
            journal_number = is.journal_number;
            file_number = is.file_number;
            beside = alone.0;
            own = alone.1;
            rights = λ seen. (stays_so (Has false (JournalGets Four s0)) s t n (spared_old Four.new_journal s t (spares Four.new_journal) n at).1 (is.rights seen).0, tt);
          }

      abbrev pub Stands : State → Type 0
      Stands s = (crash : Bool) → CanRecover crash → JournalStands crash disk.folder Four s

      pub stands_one : (f : Bool) (n : ℕ) (x : Numbers) (s : State) → disk.folder Four.journal ≡ disk.folder Four.file → AreNew false f n None x s → Stands s
      stands_one f n x s one is crash can = record { now = subst IsSome (sym is.journal) refl; left = λ ne y may. absurd (ne (sym one)) }

      pub stands_synced : (f : Bool) (n : ℕ) (y : Numbers) (s t : State) → IsSyncing disk.folder disk.syncs (disk.folder Four.journal) s t → AreNew false f n None y t → Stands t
      stands_synced f n y s t step is crash can = record {
        now = subst IsSome (sym is.journal) refl;
        left = λ ne y may. subst IsSome (sym (stands_now crash disk.folder Four.new_journal (disk.folder Four.journal) (λ e. (can.can e).0.1) t y
            (in_synced disk.folder crash disk.syncs (disk.folder Four.journal) s t (λ e. (can.can e).1.1) step) may ∙ is.journal)) refl;
      }

      -- ---- the file's is made

      pub both_made_then : (n : ℕ) (ok : Bool) (x y : Numbers) (s t : State) → AreNew false false n None x s → Stands s → StepDoes disk task (of_file Make) ok x y s t
          → (m : ℕ) × AreNew false false n (Some m) y t
      both_made_then n ok x y s t was stands (same, (m, none, fresh, is, number)) =
          let spares : (q : List ℕ) → q ≢ Four.new_file → Spares q s t = λ q ne. subst (Spares q s) (sym is) (spares-made q s Four.new_file m ne fresh) in
          let at : t.at Four.new_file ≡ Some m = ap (λ (u : State). u.at Four.new_file) is ∙ put_same s.at Four.new_file Four.new_file (Some m) refl in
          let journal : t.at Four.new_journal ≡ Some n = (spares Four.new_journal apart.new_pair).at ∙ was.journal in (
            m,
            record {
              spared = spared_on s t was.spared (λ q ne_j ne_f. spares q ne_f);
              journal = journal;
              elsewhere = λ q ne_j ne_f. avoids_still q s t n (spares q ne_f) (was.elsewhere q ne_j ne_f);
              new_file = at;
              file_elsewhere = λ q ne. subst (λ (u : State). MayStand true u q (Some m) → ⊥) (sym is) (avoids-made q s Four.new_file m ne fresh);
              journal_number = same ∙ was.journal_number;
              file_number = number;
              beside = λ crash can. beside_making crash disk.folder Four s t apart (alone_then false false n x s was crash can) (stands crash can) (spares Four.new_journal apart.new_pair)
                  (inr (m, fresh, is));
              own = λ crash can. subst (λ own. IsOwn crash Four.new_file own t) at (own_making crash Four.new_file s t (was.own crash can) (inr (m, fresh, is)));
              rights = λ seen. (
                stays_so (Has false (JournalGets Four s0)) s t n (spared_old Four.new_journal s t (spares Four.new_journal apart.new_pair) n journal).1 (was.rights seen).0,
                has_none (FileGets Four s0) s t Four.new_file m is,
              );
            },
          )

      -- ---- what was made is written

      filling : (j f h g : Bool) (n : ℕ) (m : Option ℕ) (y : Numbers) (s t : State) → AreNew j f n m y s → IsUnmoved s t → ((q : List ℕ) → q ≢ Four.new_journal → q ≢ Four.new_file → Spares q s t)
          → ((crash : Bool) → CanRecover crash → IsBeside crash disk.folder Four t) → (AreSeen s0 → RightsOf h g n m t) → AreNew h g n m y t
      filling j f h g n m y s t was still spares beside rights = record {
        spared = spared_on s t was.spared spares;
        journal = ap (λ (at : List ℕ → Option ℕ). at Four.new_journal) still.at ∙ was.journal;
        elsewhere = λ q ne_j ne_f. avoids_unmoved q n s t still (was.elsewhere q ne_j ne_f);
        new_file = ap (λ (at : List ℕ → Option ℕ). at Four.new_file) still.at ∙ was.new_file;
        file_elsewhere = if_some_so m (λ m. (q : List ℕ) → q ≢ Four.new_file → Avoids s q m) (λ m. (q : List ℕ) → q ≢ Four.new_file → Avoids t q m)
            (λ m elsewhere q ne. avoids_unmoved q m s t still (elsewhere q ne)) was.file_elsewhere;
        journal_number = was.journal_number;
        file_number = was.file_number;
        beside = beside;
        own = λ crash can. own_unmoved crash disk.folder Four m s t (was.own crash can) still.at still.olds;
        rights = rights;
      }

      -- ---- it is given its rights

      still_new : (j f h g : Bool) (n : ℕ) (m : Option ℕ) (y : Numbers) (s : State) → AreNew j f n m y s → (AreSeen s0 → RightsOf h g n m s) → AreNew h g n m y s
      still_new j f h g n m y s was =
          filling j f h g n m y s s was (record { at = refl; olds = refl }) (λ q ne_j ne_f. spares_itself q s) was.beside

      lets_same : (j f : Bool) (n : ℕ) (m : Option ℕ) (y : Numbers) (s : State) → AreNew j f n m y s → s.lets ≡ s0.lets
      lets_same j f n m y s was = (was.spared Four.file apart.file_new_journal apart.file_new_file).lets

      gave_file : (given : Bool) (n m : ℕ) (y : Numbers) (s : State) (r : Rights) → AreNew false false n (Some m) y s → (AreSeen s0 → Has given (FileGets Four s0) r (s.bytes m))
          → AreNew false given n (Some m) y (gave s m r)
      gave_file given n m y s r was gets =
          let spares : (q : List ℕ) → q ≢ Four.new_file → Spares q s (gave s m r) = λ q ne. spares-gave q s m r (was.file_elsewhere q ne) in
          filling false false false given n (Some m) y s (gave s m r) was (record { at = refl; olds = refl }) (λ q ne_j ne_f. spares q ne_f)
          (λ crash can. beside_file_written crash disk.folder Four m [] s (gave s m r) (was.beside crash can) (spares Four.new_journal apart.new_pair) (writing-gave s m [] r)) (λ seen. (
            stays_so (Has false (JournalGets Four s0)) s (gave s m r) n (spared_old Four.new_journal s (gave s m r) (spares Four.new_journal apart.new_pair) n was.journal).1 (was.rights seen).0,
            subst (λ r. Has given (FileGets Four s0) r (s.bytes m)) (sym (set_same s.rights m m r refl)) (gets seen),
          ))

      gave_journal : (given : Bool) (n : ℕ) (m : Option ℕ) (y : Numbers) (s : State) (r : Rights) → AreNew false true n m y s → (AreSeen s0 → Has given (JournalGets Four s0) r (s.bytes n))
          → AreNew given true n m y (gave s n r)
      gave_journal given n m y s r was gets =
          filling false true given true n m y s (gave s n r) was (record { at = refl; olds = refl }) (λ q ne_j ne_f. spares-gave q s n r (was.elsewhere q ne_j ne_f))
          (λ crash can. beside_journal_written crash disk.folder Four n task.journal_bytes s (gave s n r) can.begins can.short (was.beside crash can) (writing-gave s n task.journal_bytes r))
          (λ seen. (
            subst (λ r. Has given (JournalGets Four s0) r (s.bytes n)) (sym (set_same s.rights n n r refl)) (gets seen),
            if_some_both m (λ m. (q : List ℕ) → q ≢ Four.new_file → Avoids s q m) (λ m. FileGets Four s0 (s.rights m)) (λ m. FileGets Four s0 ((gave s n r).rights m))
                (λ m elsewhere has. subst (FileGets Four s0) (sym (set_other s.rights n m r (λ e. elsewhere Four.new_journal apart.new_pair (inl (ap Some e ∙ sym was.journal))))) has)
                was.file_elsewhere (was.rights seen).1,
          ))

      pub file_fitted : (ok : Bool) (n m : ℕ) (y : Numbers) (s t : State) → AreNew false false n (Some m) y s → IsGiven m (rights_of task.file) ok s t → AreNew false ok n (Some m) y t
      file_fitted true n m y s t was (r, let_so, is) =
          subst (AreNew false true n (Some m) y) (sym is)
          (gave_file true n m y s r was (λ seen. subst (λ w. AreLetOf s0.lets w r) (sym seen.0) (subst (λ l. AreLetOf l (rights_of task.file) r) (lets_same false false n (Some m) y s was) let_so)))
      file_fitted false n m y s t was (r, mode, is) =
          subst (AreNew false false n (Some m) y) (sym is)
          (gave_file false n m y s r was (λ seen. (mode ∙ (was.rights seen).1.0, (was.rights seen).1.1)))

      wanted : AreSeen s0 → narrow_of task.file task.journal ≡ option_map (λ model. narrow model (rights_at s0 Four.journal)) (rights_at s0 Four.file)
      wanted seen =
          ap (λ older. option_map (λ model. narrow model older) (rights_of task.file)) (sym seen.1)
          ∙ ap (λ file. option_map (λ model. narrow model (rights_at s0 Four.journal)) file) (sym seen.0)

      pub journal_fitted : (ok : Bool) (n : ℕ) (m : Option ℕ) (y : Numbers) (s t : State) → AreNew false true n m y s → IsGiven n (narrow_of task.file task.journal) ok s t → AreNew ok true n m y t
      journal_fitted true n m y s t was (r, let_so, is) =
          subst (AreNew true true n m y) (sym is)
          (gave_journal true n m y s r was
          (λ seen. subst (λ w. AreLetOf s0.lets w r) (wanted seen) (subst (λ l. AreLetOf l (narrow_of task.file task.journal) r) (lets_same false true n m y s was) let_so)))
      journal_fitted false n m y s t was (r, mode, is) =
          subst (AreNew false true n m y) (sym is)
          (gave_journal false n m y s r was (λ seen. (mode ∙ (was.rights seen).0.0, (was.rights seen).0.1)))

      -- nothing is wanted where no file was read
      no_rights : task.file.look ≡ None → AreSeen s0 → rights_at s0 Four.file ≡ None
      no_rights none seen = seen.0 ∙ ap (λ look. option_and_then rights_seen look) none

      pub file_unread : (n m : ℕ) (y : Numbers) (s : State) → task.file.look ≡ None → AreNew false false n (Some m) y s → AreNew false true n (Some m) y s
      file_unread n m y s none was =
          still_new false false false true n (Some m) y s was
          (λ seen. ((was.rights seen).0, subst (λ w. AreLetOf s0.lets w (s.rights m)) (sym (no_rights none seen)) tt))

      pub journal_unread : (n : ℕ) (m : Option ℕ) (y : Numbers) (s : State) → task.file.look ≡ None → AreNew false true n m y s → AreNew true true n m y s
      journal_unread n m y s none was =
          still_new false true true true n m y s was
          (λ seen. (
            subst (λ w. AreLetOf s0.lets (option_map (λ model. narrow model (rights_at s0 Four.journal)) w) (s.rights n)) (sym (no_rights none seen)) tt,
            (was.rights seen).1,
          ))

      pub wrote_journal : (n : ℕ) (m : Option ℕ) (y : Numbers) (s t : State) (k : ℕ) → t ≡ wrote s n (take k task.journal_bytes) → AreNew true true n m y s → AreNew true true n m y t
      wrote_journal n m y s t k is was =
          subst (AreNew true true n m y) (sym is)
          (filling true true true true n m y s (wrote s n (take k task.journal_bytes)) was (record { at = refl; olds = refl })
          (λ q ne_j ne_f. spares-wrote q s n (take k task.journal_bytes) (was.elsewhere q ne_j ne_f))
          (λ crash can. beside_journal_written crash disk.folder Four n task.journal_bytes s (wrote s n (take k task.journal_bytes)) can.begins can.short (was.beside crash can)
          (writing-wrote s n task.journal_bytes k)) was.rights)

      pub kept_journal : (n : ℕ) (m : Option ℕ) (y : Numbers) (s t : State) → t ≡ synced s n → AreNew true true n m y s → AreNew true true n m y t
      kept_journal n m y s t is was =
          subst (AreNew true true n m y) (sym is)
          (filling true true true true n m y s (synced s n) was (record { at = refl; olds = refl }) (λ q ne_j ne_f. spares-synced q s n)
          (λ crash can. beside_journal_written crash disk.folder Four n task.journal_bytes s (synced s n) can.begins can.short (was.beside crash can)
          (writing-synced s n task.journal_bytes)) was.rights)

      -- the file's, while the journal's waits
      pub record FileFilling (n m : ℕ) (y : Numbers) (s : State) : Type 0 where
        pub made : AreNew true true n (Some m) y s
        pub waits : Waits s Four.new_journal task.journal_bytes

      file_filling : (n m : ℕ) (y : Numbers) (s t : State) → FileFilling n m y s → IsUnmoved s t → IsWriting m task.file_bytes s t → ((q : List ℕ) → q ≢ Four.new_file → Spares q s t)
          → t.rights ≡ s.rights → FileFilling n m y t
      file_filling n m y s t was still writing spares same = record {
        made = filling true true true true n (Some m) y s t was.made still (λ q ne_j ne_f. spares q ne_f)
            (λ crash can. beside_file_written crash disk.folder Four m task.file_bytes s t (was.made.beside crash can) (spares Four.new_journal apart.new_pair) writing)
            (λ seen. subst (λ (rights : ℕ → Rights). JournalGets Four s0 (rights n) × FileGets Four s0 (rights m)) (sym same) (was.made.rights seen));
        waits = waits_still Four.new_journal task.journal_bytes s t (spares Four.new_journal apart.new_pair) was.waits;
      }

      pub wrote_file : (n m : ℕ) (y : Numbers) (s t : State) (k : ℕ) → t ≡ wrote s m (take k task.file_bytes) → FileFilling n m y s → FileFilling n m y t
      wrote_file n m y s t k is was =
          subst (FileFilling n m y) (sym is)
          (file_filling n m y s (wrote s m (take k task.file_bytes)) was (record { at = refl; olds = refl }) (writing-wrote s m task.file_bytes k)
          (λ q ne. spares-wrote q s m (take k task.file_bytes) (was.made.file_elsewhere q ne)) refl)

      pub kept_file : (n m : ℕ) (y : Numbers) (s t : State) → t ≡ synced s m → FileFilling n m y s → FileFilling n m y t
      kept_file n m y s t is was =
          subst (FileFilling n m y) (sym is)
          (file_filling n m y s (synced s m) was (record { at = refl; olds = refl }) (writing-synced s m task.file_bytes) (λ q ne. spares-synced q s m) refl)

      -- ---- the journal waits, and is put in place

      module _ (n : ℕ) (m : Option ℕ) (x : Numbers) (r : State) (was : AreNew true true n m x r) (waits : Waits r Four.new_journal task.journal_bytes) where
        abbrev pub PlacingJournal : State → Type 0
        PlacingJournal u = IsPlacing disk.folder Four.new_journal Four.journal r u

        pub spares_journal : (u : State) → PlacingJournal u → (q : List ℕ) → q ≢ Four.new_journal → q ≢ Four.journal → Spares q r u
        spares_journal u placing q ne_new ne = spares-placing disk.folder Four.new_journal Four.journal r q u ne_new ne placing

        pub spares_new_file : (u : State) → PlacingJournal u → Spares Four.new_file r u
        spares_new_file u placing = spares_journal u placing Four.new_file (λ e. apart.new_pair (sym e)) (λ e. apart.journal_new_file (sym e))

        pub spares_file : (u : State) → PlacingJournal u → Spares Four.file r u
        spares_file u placing = spares_journal u placing Four.file apart.file_new_journal (λ e. apart.pair (sym e))

        journal_placing_gives : (u : State) → PlacingJournal u → AreSeen s0 → GivesRights Four s0 u
        journal_placing_gives u placing seen =
            let gives = new_gives true true n m x r was seen in
            record {
              file = new_then Four.file (λ r b. FileGets Four s0 r) s0 r u gives.file (spared_old Four.file r u (spares_file u placing));
              journal = placing_new disk.folder Four.new_journal Four.journal (λ r b. JournalGets Four s0 r) s0 r u (Some n) placing gives.journal was.journal (was.rights seen).0;
              new_file = new_then Four.new_file (IsEmptyOr (FileGets Four s0)) s0 r u gives.new_file (spared_old Four.new_file r u (spares_new_file u placing));
              new_journal = placing_old disk.folder Four.new_journal Four.journal (IsEmptyOr (JournalGets Four s0)) s0 r u (λ e. apart.journal_new_journal (sym e)) placing gives.new_journal;
            }

        pub journal_placing_promised : ((u : State) → PlacingJournal u → (crash : Bool) → CanRecover crash → CanTell crash disk.folder Four u) → (u : State) → PlacingJournal u → Promised x u
        journal_placing_promised tell u placing = record {
          strangers = λ q ne_file ne_journal ne_new_file ne_new_journal.
              spares_then q s0 r u (was.spared q ne_new_journal ne_new_file) (spares_journal u placing q ne_new_journal ne_journal);
          alone = λ none. spares_then Four.file s0 r u (was.spared Four.file apart.file_new_journal apart.file_new_file) (spares_file u placing);
          between = λ crash c can. at_journal_between crash Two c task.journal_bytes file u
              (journal_placing disk crash Four c task.journal_bytes task.file_bytes apart can.can r u (last_still r was.spared crash c can) waits placing);
          tell = tell u placing;
          own = λ crash can. subst (λ own. IsOwn crash Four.new_file own u) (sym was.file_number) (own_spared crash disk.folder Four m r u (was.own crash can) (spares_new_file u placing));
          rights = λ seen. journal_placing_gives u placing seen;
        }

        pub journal_last : (u : State) → IsPlaced disk.folder disk.syncs Four.new_journal Four.journal r u → (crash : Bool) (c : Contents) → CanLast crash c
            → LastAs crash Two c.file task.journal_bytes u
        journal_last u placed crash c can =
            journal_placed disk crash Four c task.journal_bytes task.file_bytes apart can.can r u (last_still r was.spared crash c can) waits placed

-- such a step was made, and it succeeded or not
pub never_rests : (T : Type 0) → true ≡ false → T
never_rests T e = absurd (false≢true (sym e))

named : (P : ℕ → Type 0) (x : Option ℕ) (n : ℕ) → x ≡ Some n → P n → IsSomeAnd x P
named P x n is holds = subst (λ x. IsSomeAnd x P) (sym is) holds

abbrev WroteTo : List ℕ → Bool → State → State → ℕ → Type 0
WroteTo bytes ok s t n = (k : ℕ) × (t ≡ wrote s n (take k bytes)) × (ok ≡ true → take k bytes ≡ bytes)

abbrev SyncedTo : State → State → ℕ → Type 0
SyncedTo s t n = t ≡ synced s n

if_itself : (m at : Option ℕ) → at ≡ m → IfSome m (λ m. at ≡ Some m)
if_itself None at is = tt
if_itself (Some m) at is = is

wrote_whole : (n k : ℕ) (bytes : List ℕ) (s t : State) → t ≡ wrote s n (take k bytes) → take k bytes ≡ bytes → t.bytes n ≡ bytes
wrote_whole n k bytes s t is whole = ap (λ (t : State). t.bytes n) is ∙ set_same s.bytes n n (take k bytes) refl ∙ whole

-- where each step is to succeed
pub record CanSucceed {D F S : Type 0} (disk : Disk D F S) (task : Task) (file : Option (List ℕ)) (s0 : State) : Type 0 where
  pub short : IfSome file (λ bytes. length bytes ≤ 1_073_741_824)
  pub file_stands : StandsAsSeen disk task.file s0
  pub journal_stands : StandsAsSeen disk task.journal s0

module _ {D F S : Type 0} (disk : Disk D F S) (task : Task) (file : Option (List ℕ)) (s0 : State) (apart : AreApart (Four disk task)) (free : AreFree (Four disk task) s0) where
  abbrev Can : Type 0
  Can = CanSucceed disk task file s0

  abbrev P : Numbers → State → Type 0
  P = Promised disk task file s0

  abbrev Q : Numbers → State → Type 0
  Q = Done disk task file s0

  abbrev pub Playing : List Step → Numbers → State → Type 0
  Playing = Keeps disk task Can P Q

  abbrev New : ℕ → Option ℕ → Numbers → State → Type 0
  New = AreNew disk task file s0 true true

  file_stands : (s : State) → Spared disk task file s0 s → Can → StandsAsSeen disk task.file s
  file_stands s spared can = stands_still disk task.file s0 s (spared (Four disk task).file apart.file_new_journal apart.file_new_file) can.file_stands

  journal_stands : (s : State) → Spared disk task file s0 s → Can → StandsAsSeen disk task.journal s
  journal_stands s spared can = stands_still disk task.journal s0 s (spared (Four disk task).journal apart.journal_new_journal apart.journal_new_file) can.journal_stands

  -- the journal's is made first, and its folder is synced
  first_steps : (f : Bool) (rest : List Step) → ((n : ℕ) (x : Numbers) (s : State) → AreNew disk task file s0 false f n None x s → Stands disk task file s0 apart free s → Playing rest x s)
      → (x : Numbers) → x.file ≡ None → Playing (of_journal Make ∷ of_journal Part ∷ rest) x s0
  first_steps f rest then x start =
      let made : (ok : Bool) (y : Numbers) (t : State) → StepDoes disk task (of_journal Make) ok x y s0 t → (n : ℕ) × AreNew disk task file s0 false f n None y t = λ ok y t does.
      journal_made disk task file s0 apart free f ok x y t start does in
      stepped disk task Can P Q Journal Make (of_journal Part ∷ rest) x s0 (λ can. free.journal) (λ never. never_rests (Playing (of_journal Part ∷ rest) x s0) never)
      (λ ok y t does. promised disk task file s0 apart free false f (made ok y t does).0 None y t (made ok y t does).1) (λ y t does.
      let (n, was) = made true y t does in
      changed disk task Can P Q Journal Part rest y t (λ ok u. IsSyncing disk.folder disk.syncs (disk.folder (Four disk task).journal) t u) (λ can. tt) (λ ok z u does. does)
      (λ one. then n y t was (stands_one disk task file s0 apart free f n y t (one refl) was))
      (λ ok u step. promised disk task file s0 apart free false f n None y u (journal_synced disk task file s0 apart free f n y t u was step)) (λ u step.
      let is = journal_synced disk task file s0 apart free f n y t u was step in
      then n y u is (stands_synced disk task file s0 apart free f n y t u step is)))

  module _ (which : Which) where
    abbrev Now : Act → Step
    Now act = record { 0 = which; 1 = act }

    abbrev Own : Side
    Own = side_of task which

    -- what was made is written and synced
    module _ (H : Numbers → State → Type 0) (n : ℕ) (number : (x : Numbers) (s : State) → H x s → number_of x which ≡ Some n) (promised : (x : Numbers) (s : State) → H x s → P x s)
        (wrote_it : (x : Numbers) (s t : State) (k : ℕ) → t ≡ wrote s n (take k Own.bytes) → H x s → H x t) (kept_it : (x : Numbers) (s t : State) → t ≡ synced s n → H x s → H x t) (rest : List Step)
        (then : (x : Numbers) (t : State) → H x t → t.bytes n ≡ Own.bytes → t.safe n ≡ true → Playing rest x t) where
      held : (x : Numbers) (s : State) → H x s → s.bytes n ≡ Own.bytes → Playing (Now Keep ∷ rest) x s
      held x s was whole =
          let after : (t : State) → IsSomeAnd (number_of x which) (SyncedTo s t) → t ≡ synced s n = λ t is. some_known (number_of x which) n (SyncedTo s t) (number x s was) is in
          changed disk task Can P Q which Keep rest x s (λ ok t. IsSomeAnd (number_of x which) (SyncedTo s t)) (λ can. subst IsSome (sym (number x s was)) refl) (λ ok y t does. does)
          (λ never. never_rests (Playing rest x s) never) (λ ok t is. promised x t (kept_it x s t (after t is) was))
          (λ t is. then x t (kept_it x s t (after t is) was) (ap (λ (t : State). t.bytes n) (after t is) ∙ whole)
          (ap (λ (t : State). t.safe n) (after t is) ∙ set_same s.safe n n true refl))

      filled : (x : Numbers) (s : State) → H x s → Playing (Now Write ∷ Now Keep ∷ rest) x s
      filled x s was =
          let after : (ok : Bool) (t : State) → IsSomeAnd (number_of x which) (WroteTo Own.bytes ok s t) → WroteTo Own.bytes ok s t n = λ ok t is.
          some_known (number_of x which) n (WroteTo Own.bytes ok s t) (number x s was) is in
          changed disk task Can P Q which Write (Now Keep ∷ rest) x s (λ ok t. IsSomeAnd (number_of x which) (WroteTo Own.bytes ok s t)) (λ can. subst IsSome (sym (number x s was)) refl)
          (λ ok y t does. does) (λ never. never_rests (Playing (Now Keep ∷ rest) x s) never) (λ ok t is. promised x t (wrote_it x s t (after ok t is).0 (after ok t is).1 was))
          (λ t is. let (k, to, whole) = after true t is in held x t (wrote_it x s t k to was) (wrote_whole n k Own.bytes s t to (whole refl)))

    -- and put in place, and its folder is synced
    module _ (sync : Act) (n : ℕ) (x : Numbers) (r : State) (number : number_of x which ≡ Some n) (can_place : Can → CanPlace disk Own n r) where
      abbrev Placing : State → Type 0
      Placing u = IsPlacing disk.folder (new_of disk Own) (at_of disk Own) r u

      abbrev Syncs : State → Bool → State → Type 0
      Syncs t ok u = IsSyncing disk.folder disk.syncs (disk.folder (at_of disk Own)) t u

      placed : ((t : State) → Needs disk Own sync (number_of x which) t)
          → ((ok : Bool) (y : Option ℕ) (t u : State) → Does disk Own sync ok (number_of x which) y t u → (y ≡ number_of x which) × Syncs t ok u)
          → ((t : State) → Rests disk Own sync true (number_of x which) t → true ≡ false) → ((u : State) → Placing u → P x u) → (rest : List Step)
          → ((u : State) → Placing u → IsPlaced disk.folder disk.syncs (new_of disk Own) (at_of disk Own) r u → Playing rest x u) → Playing (Now Place ∷ Now sync ∷ rest) x r
      placed needs is rests promised rest then =
          changed disk task Can P Q which Place (Now sync ∷ rest) x r (λ ok t. t ≡ renamed r (new_of disk Own) (at_of disk Own))
          (λ can. named (λ n. CanPlace disk Own n r) (number_of x which) n number (can_place can)) (λ ok y t does. does) (λ never. never_rests (Playing (Now sync ∷ rest) x r) never)
          (λ ok t is. promised t (inr (inl is)))
          (λ t at. changed disk task Can P Q which sync rest x t (Syncs t) (λ can. needs t) (λ ok y u does. is ok y t u does) (λ never. never_rests (Playing rest x t) (rests t never))
          (λ ok u step. promised u (synced_after disk.folder disk.syncs (new_of disk Own) (at_of disk Own) r t u at step))
          (λ u step. then u (synced_after disk.folder disk.syncs (new_of disk Own) (at_of disk Own) r t u at step)
          (placed_after disk.folder disk.syncs (new_of disk Own) (at_of disk Own) r t u at step)))

  looks : (which : Which) (act : Act) (rest : List Step) (x : Numbers) (s : State) → (Can → StepNeeds disk task (record { 0 = which; 1 = act }) x s)
      → ((ok : Bool) (y : Numbers) (t : State) → StepDoes disk task (record { 0 = which; 1 = act }) ok x y s t → ⊥) → Playing rest x s → Playing (record { 0 = which; 1 = act } ∷ rest) x s
  looks = looked disk task Can P Q

  fits_journal : (n : ℕ) (m : Option ℕ) (rest : List Step) (x : Numbers) (s : State) → AreNew disk task file s0 false true n m x s → ((t : State) → New n m x t → Playing rest x t)
      → Playing (of_journal Narrow ∷ rest) x s
  fits_journal n m rest x s was then =
      let Given : Bool → State → ℕ → Type 0 = λ ok t n. IsGiven n (narrow_of task.file task.journal) ok s t in
      let after : (ok : Bool) (t : State) → IsSomeAnd x.journal (Given ok t) → AreNew disk task file s0 ok true n m x t = λ ok t is.
      journal_fitted disk task file s0 apart free ok n m x s t was (some_known x.journal n (Given ok t) was.journal_number is) in
      changed disk task Can P Q Journal Narrow rest x s (λ ok t. IsSomeAnd x.journal (Given ok t)) (λ can. subst IsSome (sym was.journal_number) refl) (λ ok y t does. does)
      (λ none. then s (journal_unread disk task file s0 apart free n m x s (none refl) was)) (λ ok t is. promised disk task file s0 apart free ok true n m x t (after ok t is))
      (λ t is. then t (after true t is))

  looks_at_file : (n : ℕ) (m : Option ℕ) (rest : List Step) (x : Numbers) (s : State) → New n m x s → Playing rest x s → Playing (of_file Look ∷ rest) x s
  looks_at_file n m rest x s was =
      looks Base Look rest x s
      (λ can. (
        subst (λ v. IfSome v (λ m. s.at (Four disk task).new_file ≡ Some m)) (sym was.file_number) (if_itself m (s.at (Four disk task).new_file) was.new_file),
        file_stands s was.spared can,
      )) (λ ok y t never. never.1)

  journal_filled : (n : ℕ) (m : Option ℕ) (rest : List Step) → ((x : Numbers) (s : State) → New n m x s → Waits s (Four disk task).new_journal task.journal_bytes → Playing rest x s) → (x : Numbers)
      (s : State) → New n m x s → Playing (of_journal Write ∷ of_journal Keep ∷ rest) x s
  journal_filled n m rest then =
      filled Journal (New n m) n (λ y t is. is.journal_number) (promised disk task file s0 apart free true true n m) (wrote_journal disk task file s0 apart free n m)
      (kept_journal disk task file s0 apart free n m) rest (λ y t now held safe. then y t now (record { n = n; at = now.journal; is = held; safe = safe }))

  -- ---- the journal is put in place

  module _ (n : ℕ) (m : Option ℕ) (x : Numbers) (r : State) (was : New n m x r) (waits : Waits r (Four disk task).new_journal task.journal_bytes)
      (tell : (u : State) → PlacingJournal disk task file s0 apart free n m x r was waits u → (crash : Bool) → CanRecover disk task file s0 crash → CanTell crash disk.folder (Four disk task) u) where
    journal_steps : (sync : Act) → ((t : State) → Needs disk (side_of task Journal) sync x.journal t)
        → ((ok : Bool) (y : Option ℕ) (t u : State) → Does disk (side_of task Journal) sync ok x.journal y t u
        → (y ≡ x.journal) × IsSyncing disk.folder disk.syncs (disk.folder (Four disk task).journal) t u)
        → ((t : State) → Rests disk (side_of task Journal) sync true x.journal t → true ≡ false) → (rest : List Step)
        → ((u : State) → PlacingJournal disk task file s0 apart free n m x r was waits u → IsPlaced disk.folder disk.syncs (Four disk task).new_journal (Four disk task).journal r u → Playing rest x u)
        → Playing (of_journal Place ∷ record { 0 = Journal; 1 = sync } ∷ rest) x r
    journal_steps sync needs is rests =
        placed Journal sync n x r was.journal_number (λ can. (was.journal, journal_stands r was.spared can)) needs is rests
        (journal_placing_promised disk task file s0 apart free n m x r was waits tell)

-- ---- both are put in place

module _ {D F S : Type 0} (disk : Disk D F S) (task : Task) (s0 : State) (apart : AreApart (Four disk task)) (free : AreFree (Four disk task) s0) where
  abbrev At : Sites
  At = Four disk task

  abbrev File : Option (List ℕ)
  File = Some task.file_bytes

  abbrev Both : ℕ → ℕ → Numbers → State → Type 0
  Both n m = AreNew disk task File s0 true true n (Some m)

  abbrev Plays : List Step → Numbers → State → Type 0
  Plays = Playing disk task File s0 apart free

  module _ (n m : ℕ) (x : Numbers) (r : State) (was : Both n m x r) (waits : BothWait At task.journal_bytes task.file_bytes r) where
    abbrev MovedTo : State → Type 0
    MovedTo u = IsPlacing disk.folder At.new_journal At.journal r u

    ready : (crash : Bool) → CanRecover disk task File s0 crash → IsReady crash disk.folder At task.journal_bytes task.file_bytes m r
    ready crash can = record {
      beside = was.beside crash can;
      at = was.new_file;
      own = was.own crash can;
      waits = waits;
      next = outlasts_still crash (λ old. IsSomeAnd old (λ bytes. IsStopBetween bytes task.file_bytes task.journal_bytes)) At.file s0 r
          (was.spared At.file apart.file_new_journal apart.file_new_file) can.next;
    }

    tell : (u : State) → MovedTo u → (crash : Bool) → CanRecover disk task File s0 crash → CanTell crash disk.folder At u
    tell u placing crash can = tell_placing_journal crash disk.folder At (λ e. (can.can e).0) task.journal_bytes task.file_bytes m r u apart (ready crash can) placing

    -- the journal is in place
    module _ (v : State) (placing : MovedTo v) (placed_so : IsPlaced disk.folder disk.syncs At.new_journal At.journal r v) where
      last_then : (crash : Bool) (c : Contents) → CanLast disk task File s0 crash c → LastAs crash (Two disk task) c.file task.journal_bytes v
      last_then = journal_last disk task File s0 apart free n (Some m) x r was waits.journal v placed_so

      now : Promised disk task File s0 x v
      now = journal_placing_promised disk task File s0 apart free n (Some m) x r was waits.journal tell v placing

      new_file_spared : Spares At.new_file r v
      new_file_spared = spares_new_file disk task File s0 apart free n (Some m) x r was waits.journal v placing

      file_waits : Waits v At.new_file task.file_bytes
      file_waits = waits_still At.new_file task.file_bytes r v new_file_spared waits.file

      file_placed_gives : (u : State) → IsPlacing disk.folder At.new_file At.file v u → AreSeen disk task s0 → GivesRights At s0 u
      file_placed_gives u again seen =
          let gives = now.rights seen in
          let at : v.at At.new_file ≡ Some m = new_file_spared.at ∙ was.new_file in
          let has = stays_so (λ r b. FileGets At s0 r) r v m (spared_old At.new_file r v new_file_spared m at).1 (was.rights seen).1 in
          let spared : (q : List ℕ) → q ≢ At.new_file → q ≢ At.file → Spares q v u = λ q ne_new ne. spares-placing disk.folder At.new_file At.file v q u ne_new ne again in
          record {
            file = placing_new disk.folder At.new_file At.file (λ r b. FileGets At s0 r) s0 v u (Some m) again gives.file at has;
            journal = new_then At.journal (λ r b. JournalGets At s0 r) s0 v u gives.journal (spared_old At.journal v u (spared At.journal apart.journal_new_file apart.pair));
            new_file = placing_old disk.folder At.new_file At.file (IsEmptyOr (FileGets At s0)) s0 v u (λ e. apart.file_new_file (sym e)) again gives.new_file;
            new_journal = new_then At.new_journal (IsEmptyOr (JournalGets At s0)) s0 v u gives.new_journal
                (spared_old At.new_journal v u (spared At.new_journal apart.new_pair (λ e. apart.file_new_journal (sym e))));
          }

      file_placed_promised : (u : State) → IsPlacing disk.folder At.new_file At.file v u → Promised disk task File s0 x u
      file_placed_promised u again = record {
        strangers = λ q ne_file ne_journal ne_new_file ne_new_journal.
            spares_then q s0 v u (now.strangers q ne_file ne_journal ne_new_file ne_new_journal) (spares-placing disk.folder At.new_file At.file v q u ne_new_file ne_file again);
        alone = λ none. absurd (some_none task.file_bytes none);
        between = λ crash c can. inr (file_placing disk crash At c task.journal_bytes task.file_bytes apart can.can v u (last_then crash c can) file_waits again);
        tell = λ crash can. tell_placing_file crash disk.folder At (λ e. (can.can e).0) v u apart (now.tell crash can) again;
        own = λ crash can. own_placing_file crash disk.folder At (λ e. (can.can e).0) x.file v u apart (now.own crash can) again;
        rights = λ seen. file_placed_gives u again seen;
      }

      file_steps : Plays (of_file Place ∷ of_file SyncLast ∷ []) x v
      file_steps =
          placed disk task File s0 apart free Base SyncLast m x v was.file_number (λ can. (
            new_file_spared.at ∙ was.new_file,
            stands_still disk task.file r v (spares_file disk task File s0 apart free n (Some m) x r was waits.journal v placing) (file_stands disk task File s0 apart free r was.spared can),
          )) (λ t. tt) (λ ok y t u does. does) (λ t never. never) file_placed_promised []
          (λ u again for_good. λ crash c can.
          file_placed disk crash At c task.journal_bytes task.file_bytes apart can.can v u (last_then crash c can) file_waits for_good)

    place_steps : Plays both_placed x r
    place_steps =
        journal_steps disk task File s0 apart free n (Some m) x r was waits.journal tell Sync (λ t. tt) (λ ok y t u does. does) (λ t never. never) (of_file Place ∷ of_file SyncLast ∷ []) file_steps

  -- ---- both are made ready

  file_filled : (n m : ℕ) (x : Numbers) (s : State) → Both n m x s → Waits s At.new_journal task.journal_bytes → Plays file_written x s
  file_filled n m x s was waits =
      filled disk task File s0 apart free Base (FileFilling disk task File s0 apart free n m) m (λ y t is. is.made.file_number)
      (λ y t is. promised disk task File s0 apart free true true n (Some m) y t is.made) (wrote_file disk task File s0 apart free n m) (kept_file disk task File s0 apart free n m)
      (of_file Look ∷ both_placed)
      (λ y t now held safe.
      looks_at_file disk task File s0 apart free n (Some m) both_placed y t now.made
      (place_steps n m y t now.made (record { journal = now.waits; file = record { n = m; at = now.made.new_file; is = held; safe = safe } })))
      x s (record { made = was; waits = waits })

  both_filled : (n m : ℕ) (x : Numbers) (s : State) → Both n m x s → Plays both_written x s
  both_filled n m =
      journal_filled disk task File s0 apart free n (Some m) (of_file Measure ∷ file_written)
      (λ x s was waits. looks disk task File s0 apart free Base Measure file_written x s (λ can. can.short) (λ ok y t never. never.1) (file_filled n m x s was waits))

  abbrev Made : Bool → ℕ → ℕ → Numbers → State → Type 0
  Made f n m = AreNew disk task File s0 false f n (Some m)

  apart_then : (n m : ℕ) (x : Numbers) (s : State) → Made true n m x s → Plays (of_file Clash ∷ of_journal Narrow ∷ both_written) x s
  apart_then n m x s was =
      looks disk task File s0 apart free Base Clash (of_journal Narrow ∷ both_written) x s
      (λ can. named (λ m. s.at At.journal ≢ Some m) x.file m was.file_number (λ e. was.file_elsewhere At.journal apart.journal_new_file (inl (sym e)))) (λ ok y t never. never.1)
      (fits_journal disk task File s0 apart free n (Some m) both_written x s was (λ t now. both_filled n m x t now))

  fitted : (n m : ℕ) (x : Numbers) (s : State) → Made false n m x s → Plays (of_file Fit ∷ of_file Clash ∷ of_journal Narrow ∷ both_written) x s
  fitted n m x s was =
      let Given : Bool → State → ℕ → Type 0 = λ ok t m. IsGiven m (rights_of task.file) ok s t in
      let after : (ok : Bool) (t : State) → IsSomeAnd x.file (Given ok t) → Made ok n m x t = λ ok t is.
      file_fitted disk task File s0 apart free ok n m x s t was (some_known x.file m (Given ok t) was.file_number is) in
      changed disk task (CanSucceed disk task File s0) (Promised disk task File s0) (Done disk task File s0) Base Fit (of_file Clash ∷ of_journal Narrow ∷ both_written) x s
      (λ ok t. IsSomeAnd x.file (Given ok t)) (λ can. subst IsSome (sym was.file_number) refl) (λ ok y t does. does)
      (λ none. apart_then n m x s (file_unread disk task File s0 apart free n m x s (none refl) was))
      (λ ok t is. promised disk task File s0 apart free false ok n (Some m) x t (after ok t is)) (λ t is. apart_then n m x t (after true t is))

  pub both_steps : (x : Numbers) → x.file ≡ None → Plays both_made x s0
  both_steps =
      first_steps disk task File s0 apart free false (of_file Make ∷ of_file Fit ∷ of_file Clash ∷ of_journal Narrow ∷ both_written) (λ n x s was stands.
      let made : (ok : Bool) (y : Numbers) (t : State) → StepDoes disk task (of_file Make) ok x y s t → (m : ℕ) × Made false n m y t = λ ok y t does.
      both_made_then disk task File s0 apart free n ok x y s t was stands does in
      stepped disk task (CanSucceed disk task File s0) (Promised disk task File s0) (Done disk task File s0) Base Make (of_file Fit ∷ of_file Clash ∷ of_journal Narrow ∷ both_written) x s
      (λ can. was.new_file) (λ never. never_rests (Plays (of_file Fit ∷ of_file Clash ∷ of_journal Narrow ∷ both_written) x s) never)
      (λ ok y t does. promised disk task File s0 apart free false false n (Some (made ok y t does).0) y t (made ok y t does).1)
      (λ y t does. fitted n (made true y t does).0 y t (made true y t does).1))

  -- ---- or the journal alone

  abbrev PlaysAlone : List Step → Numbers → State → Type 0
  PlaysAlone = Playing disk task None s0 apart free

  alone_place : (n : ℕ) (x : Numbers) (r : State) → AreNew disk task None s0 true true n None x r → Waits r At.new_journal task.journal_bytes → PlaysAlone alone_placed x r
  alone_place n x r was waits =
      journal_steps disk task None s0 apart free n None x r was waits
      (λ u placing crash can. alone_tell crash disk.folder At u (alone_placing crash disk.folder At r u apart (alone_then disk task None s0 apart free true true n x r was crash can) placing)) SyncLast
      (λ t. tt) (λ ok y t u does. does) (λ t never. never) [] (λ u placing for_good. journal_last disk task None s0 apart free n None x r was waits u for_good)

  pub alone_steps : (x : Numbers) → x.file ≡ None → PlaysAlone alone_made x s0
  alone_steps =
      first_steps disk task None s0 apart free true (of_journal Narrow ∷ alone_written) (λ n x s was stands.
      fits_journal disk task None s0 apart free n None alone_written x s was (λ t fits. journal_filled disk task None s0 apart free n None (of_file Look ∷ alone_placed)
      (λ y t now waits. looks_at_file disk task None s0 apart free n None alone_placed y t now (alone_place n y t now waits)) x t fits))
