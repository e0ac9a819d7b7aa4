-- What is noted of what was read, and what a put finds of it.
use Rattle.std.proofs.Common.{◌≡◌, ◌≢◌, ◌⊎◌, [], inl, inr, ◌∙◌, refl, sym, ap, subst, ℕ, Bool, true, false, List, Option, Some, None, IfSome, IsSomeAnd, Result}
use Rattle.std.specs.Prelude.{option_map, string_bytes, Ok, Err, IfOk}
use Rattle.rec_text.specs.declared.fault.Fault.{Fault}
use Rattle.rec_text.specs.declared.fault.Fault.TheVariants.{StoreFailed}
use Rattle.rec_disk.specs.declared.disk.Disk.{Ghosts as Disk}
use Rattle.rec_disk.specs.Disk.{State, Story, Told}
use Rattle.rec_disk.proofs.lemmas.Moments.{told_both, told_so}
use Rattle.rec_tools.specs.Home.{got, read_call}
use Rattle.rec_tools.specs.declared.home.Which.{Which}
use Rattle.rec_tools.specs.declared.home.Which.TheVariants.{Base, Journal}
use Rattle.rec_files.specs.declared.access.Access.{Access}
use Rattle.rec_files.specs.declared.files.DiskHome.{DiskHome}
use Rattle.rec_files.specs.declared.target.Target.{Target}
use Rattle.rec_files.specs.Paths.{path_of}
use Rattle.rec_files.specs.Succeeding.{Kept, known, kept, HasSeen, IsAsSeen, IsReadFree, IsRegularAt, NotesRead, ReadsRegular, AreAsNoted, IsCareful, IsLastOf, IsStanding, let_go}
use Rattle.rec_files.specs.declared.last_put.LastPut.{LastPut}
use Rattle.rec_files.specs.proving.Replacing.{led, AreAsSeen, OnlyWhere}

if_some : (x : Option ℕ) (Q : ℕ → Type 0) → ((n : ℕ) → x ≡ Some n → Q n) → IfSome x Q
if_some None Q all = tt
if_some (Some n) Q all = all n refl

if_itself : (x : Option (List ℕ)) (Q : List ℕ → Type 0) → IfSome x (λ one. (x ≡ Some one) ⊎ Q one)
if_itself None Q = tt
if_itself (Some one) Q = inl refl

if_any : (x : Option (List ℕ)) (P : Type 0) → P → IfSome x (λ one. P)
if_any None P so = tt
if_any (Some one) P so = so

-- a look at a file or a journal
pub looks_regular : {V E D F S : Type 0} (items : V → List ℕ) (disk : Disk D F S) (kept : Kept) (which : Which) (path : List ℕ) (o : Option Story) (result : Result V E)
    → path ≡ path_of kept.file kept.journal which → (kept.journal ≢ [] → IfOk result (λ _. Told o (IsRegularAt disk path))) → IfOk result (λ bytes. ReadsRegular disk kept o (got which (items bytes)))
looks_regular items disk kept which path o (Ok bytes) at told =
    λ some. if_any kept.file (Told o (IsRegularAt disk (path_of kept.file kept.journal which))) (subst (λ p. Told o (IsRegularAt disk p)) at (told some))
looks_regular items disk kept which path o (Err error) at told = tt

-- a read that a store refused
pub fault_careful : {R D F S : Type 0} (disk : Disk D F S) (old new : DiskHome R D F S) (which : Which) (fault : Fault) → fault ≡ StoreFailed → new.access ≡ old.access
    → IsLastOf disk (string_bytes old.journal) old.last new.last (disk.story old.disk) → IsCareful disk old (read_call which (Err fault)) new
fault_careful disk old new which fault is access last =
    subst (λ fault. IsCareful disk old (read_call which (Err fault)) new) (sym is) (record { access = access; only_regular = tt; reads = λ changes. tt; puts = tt; goes_on = tt; last = last })

pub last_stays : {D F S : Type 0} (disk : Disk D F S) (journal : List ℕ) (last then : LastPut) (o : Option Story) → then ≡ last → IsLastOf disk journal last then o
last_stays disk journal last then o is =
    subst (λ then. IsLastOf disk journal last then o) (sym is) (if_itself (let_go last) (λ bytes. Told o (IsStanding disk journal bytes)))

module _ {D F S : Type 0} (disk : Disk D F S) (access : Access) (journal_path : List ℕ) (last : LastPut) where
  abbrev home : Option (List ℕ) → Option (Target D F S) → Option (Target D F S) → Kept
  home file x y = record { access = access; file = file; journal = journal_path; last = last; old_file = option_map (known disk) x; old_journal = option_map (known disk) y }

  -- ---- a read

  module _ (o : Option Story) (path : List ℕ) where
    abbrev pub Saw : Option (Target D F S) → Type 0
    Saw x = IsSomeAnd x (λ x. Told o (HasSeen (disk.leads path) (known disk x).look))

    abbrev pub Free : State → Type 0
    Free s = (n : ℕ) → s.at (disk.leads path) ≡ Some n → disk.regular n ≡ true → s.held n ≡ false

    abbrev Noted : Option (Target D F S) → List ℕ → Type 0
    Noted x path = IsSomeAnd (option_map (known disk) x) (λ one. Told o (IsReadFree disk path one.look))

    noted : (x : Option (Target D F S)) → Saw x → Told o Free → Noted x path
    noted None saw free = absurd saw
    noted (Some x) saw free =
        told_both (HasSeen (disk.leads path) (known disk x).look) Free (IsReadFree disk path (known disk x).look) o
        (λ s seen all. record { seen = seen; free = if_some (s.at (disk.leads path)) (λ n. disk.regular n ≡ true → s.held n ≡ false) all }) saw free

    pub notes_read : (which : Which) (file : Option (List ℕ)) (x y now then : Option (Target D F S)) (bytes : List ℕ) → path ≡ path_of file journal_path which
        → (which ≡ Base → Saw now) → (which ≡ Journal → Saw then) → Told o Free → (which ≡ Journal → now ≡ x) → NotesRead disk (home file x y) (home file now then) o (got which bytes)
    notes_read Base None x y now then bytes at saw_file saw_journal free kept = tt
    notes_read Base (Some f) x y now then bytes at saw_file saw_journal free kept = subst (Noted now) at (noted now (saw_file refl) free)
    notes_read Journal file x y now then bytes at saw_file saw_journal free kept =
        (ap (option_map (known disk)) (kept refl), subst (Noted then) at (noted then (saw_journal refl) free))

    pub notes_ok : {V E : Type 0} (items : V → List ℕ) (result : Result V E) (which : Which) (file : Option (List ℕ)) (x y now then : Option (Target D F S)) (told : Option Story)
        → path ≡ path_of file journal_path which → o ≡ told
        → (which ≡ Base → IfOk result (λ bytes. Saw now)) → (which ≡ Journal → IfOk result (λ bytes. Saw then)) → IfOk result (λ bytes. Told o Free) → (which ≡ Journal → now ≡ x)
        → IfOk result (λ bytes. NotesRead disk (home file x y) (home file now then) told (got which (items bytes)))
    notes_ok items (Ok bytes) which file x y now then told at same saw_file saw_journal free kept =
        subst (λ told. NotesRead disk (home file x y) (home file now then) told (got which (items bytes))) same (notes_read which file x y now then (items bytes) at saw_file saw_journal free kept)
    notes_ok items (Err error) which file x y now then told at same saw_file saw_journal free kept = tt

-- ---- a put

module _ {R D F S : Type 0} (disk : Disk D F S) (home : DiskHome R D F S) (given_file given_journal : List ℕ)
    (of_file : given_file ≡ path_of (option_map string_bytes home.file) (string_bytes home.journal) Base) (of_journal : given_journal ≡ string_bytes home.journal) where
  abbrev pub Noticed : Option (Target D F S) → Option (Target D F S) → State → Type 0
  Noticed x y s = IsSomeAnd x (λ x. IsSomeAnd y (λ y. AreAsSeen (led disk.leads given_file given_journal) (known disk x).look (known disk y).look s))

  as_noted : (x y : Option (Target D F S)) (s : State) → Noticed x y s
      → IsSomeAnd (option_map (known disk) x) (λ file. IsAsSeen (disk.leads (path_of (option_map string_bytes home.file) (string_bytes home.journal) Base)) file.look s)
      × IsSomeAnd (option_map (known disk) y) (λ journal. IsAsSeen (disk.leads (string_bytes home.journal)) journal.look s)
  as_noted None y s seen = absurd seen
  as_noted (Some x) None s seen = absurd seen
  as_noted (Some x) (Some y) s seen =
      (subst (λ p. IsAsSeen (disk.leads p) (known disk x).look s) of_file seen.0, subst (λ p. IsAsSeen (disk.leads p) (known disk y).look s) of_journal seen.1)

  abbrev Found : State → Type 0
  Found = Noticed home.both.file home.both.journal

  pub finds_noted : (o : Option Story) → Told o Found → Told o (AreAsNoted disk (kept disk home))
  finds_noted o = told_so Found (AreAsNoted disk (kept disk home)) o (as_noted home.both.file home.both.journal)

  pub only_noted : (o n last : Option Story) → last ≡ n → OnlyWhere Found o n → (last ≡ o) ⊎ Told o (AreAsNoted disk (kept disk home))
  only_noted o n last is (inl same) = inl (is ∙ same)
  only_noted o n last is (inr seen) = inr (finds_noted o seen)
