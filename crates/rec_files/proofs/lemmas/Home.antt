-- What a call of the home leaves of the contents.
use Rattle.std.proofs.Common.{◌≡◌, ◌⊎◌, inl, inr, ℕ, ◌≤◌, Bool, true, false, List, [], length, take, Option, Some, None, refl, sym, ◌∙◌, ap, subst, IfSome, arith}
use Rattle.std.proofs.lemmas.Bool.{false≢true}
use Rattle.rec_disk.specs.declared.disk.Disk.{Ghosts as Disk}
use Rattle.rec_disk.specs.Disk.{State, Story, Told}
use Rattle.rec_disk.proofs.lemmas.Places.{leaves_spared}
use Rattle.rec_disk.proofs.lemmas.Moments.{still}
use Rattle.rec_disk.proofs.lemmas.Calls.{spares_still}
use Rattle.std.specs.Prelude.{Err, IsSome, option_map, string_bytes, unwrap_or}
use Rattle.rec_text.specs.declared.fault.Fault.{Fault}
use Rattle.rec_text.specs.declared.fault.Fault.TheVariants.{StoreFailed}
use Rattle.rec_tools.specs.Home.{Contents, Write, Call, got, lacked, unread, read_call, CountsOne, put_all, put_some, written, writes_by, left_by, TellsOf, CountsFailure}
use Rattle.rec_tools.specs.declared.home.Which.{Which}
use Rattle.rec_tools.specs.declared.home.Which.TheVariants.{Base}
use Rattle.rec_files.specs.Paths.{path_of}
use Rattle.rec_files.specs.OnDisk.{Places, Shows, Holds, AreAsBefore, IsSecure, CanSync, SecurePut, LastingPut, RecoversAt}
use Rattle.rec_files.specs.OnDisk.{IsCallAt, IsHomeCall, IsReadOf, IsWhole, contents_at, contents_of, contents_on, places_by, places_of, writes_of}
use Rattle.rec_files.specs.declared.files.DiskHome.{DiskHome}
use Rattle.rec_files.specs.Succeeding.{HomeGoes, IsExcused, IsCareful}
use Rattle.rec_files.specs.proving.Replacing.{AreSpared, Between, IsPut, LastAs, led}
use Rattle.rec_files.proofs.lemmas.Holding.{last_holds, between_written, before_shows, holds_contents, leaves_now}

-- ---- from what is seen to what is left

module _ (crash : Bool) (p : Places) (c : Contents) (journal : List ℕ) where
  pub then_secure : (file : Option (List ℕ)) (s u : State) → AreSpared p s u ⊎ Between crash p c journal file u → IsSecure crash p c (writes_by journal file) s u
  then_secure file s u (inl spared) left leaves =
      inl (leaves_spared crash p.file s u left spared.0 (leaves p.file), leaves_spared crash p.journal s u left spared.1 (leaves p.journal))
  then_secure file s u (inr between) left leaves = inr (between_written crash p c journal u file between left leaves)

  pub last_written : (file : Option (List ℕ)) (u : State) → LastAs crash p (unwrap_or file c.file) journal u → Holds crash p (written c (writes_by journal file)) u
  last_written None u last = last_holds crash p (written c (writes_by journal None)) u last
  last_written (Some file) u last = last_holds crash p (written c (writes_by journal (Some file))) u last

-- where nothing is changed
pub secure_still : {D F S : Type 0} (disk : Disk D F S) (p : Places) (writes : List Write) (o n : Option Story) → n ≡ o → SecurePut disk p writes o n
secure_still disk p writes o n same crash c can read =
    still (IsSecure crash p c writes) o n same (λ s left leaves. inl (leaves p.file, leaves p.journal))

pub call_still : {D F S : Type 0} (disk : Disk D F S) (p : Places) (o n : Option Story) (call : Call) → n ≡ o → (IsWhole call → ⊥) → IsCallAt disk p o call n
call_still disk p o n call same not_whole = record {
  any_moment = secure_still disk p (writes_of call) o n same;
  lasts = λ whole. absurd (not_whole whole);
  still = λ none. same;
  alone = λ one. spares_still p.file o n same;
  touches = inl same;
  recovers = inl same;
}

-- ---- contents

abbrev Nothing : Option Contents → Type 0
Nothing None = Unit {0}
Nothing (Some c) = ⊥

none_is : (c : Contents) → None ≡ Some c → ⊥
none_is c is = subst Nothing is tt

pub no_crash : {D F S : Type 0} (disk : Disk D F S) (p : Places) → CanSync disk false p
no_crash disk p e = absurd (false≢true e)

module _ {D F S : Type 0} (disk : Disk D F S) (p : Places) (writes : List Write) where
  last_at : (a : Story) (n : Option Story) (c : Contents) → contents_at p a.now ≡ Some c → SecurePut disk p writes (Some a) n → LastingPut disk p writes (Some a) n
      → contents_on (Some p) n ≡ Some (written c writes)
  last_at a None c is secure lasting = absurd (secure false c (no_crash disk p) is)
  last_at a (Some b) c is secure lasting =
      holds_contents p (written c writes) b.now (lasting false c (no_crash disk p) is (record { at = b.now.at; bytes = b.now.bytes }) (leaves_now b.now))

  pub all_put : (o n : Option Story) (x : Option Contents) → contents_on (Some p) o ≡ x → SecurePut disk p writes o n → LastingPut disk p writes o n
      → IfSome x (λ c. TellsOf c (put_all writes) × (contents_on (Some p) n ≡ Some (left_by c (put_all writes))))
  all_put o n None is secure lasting = tt
  all_put None n (Some c) is secure lasting = absurd (none_is c is)
  all_put (Some a) n (Some c) is secure lasting = (tt, last_at a n c is secure lasting)

  -- a failure left some of them
  abbrev pub SomePut : Option Story → Option Contents → Type 0
  SomePut n x = (k : ℕ) × (k ≤ length writes) × IfSome x (λ c. TellsOf c (put_some writes k) × (contents_on (Some p) n ≡ Some (left_by c (put_some writes k))))

  some_at : (a b : Story) (c : Contents) → contents_at p a.now ≡ Some c
      → AreAsBefore false p a.now (record { at = b.now.at; bytes = b.now.bytes })
      ⊎ ((k : ℕ) × (k ≤ length writes) × Shows p (record { at = b.now.at; bytes = b.now.bytes }) (written c (take k writes)))
      → SomePut (Some b) (Some c)
  some_at a b c is (inl before) = (0, omega arith, (tt, holds_contents p c b.now (before_shows p c a.now (record { at = b.now.at; bytes = b.now.bytes }) is before)))
  some_at a b c is (inr (k, most, shows)) = (k, most, (tt, holds_contents p (written c (take k writes)) b.now shows))

  pub some_put : (o n : Option Story) (x : Option Contents) → contents_on (Some p) o ≡ x → SecurePut disk p writes o n → SomePut n x
  some_put o n None is secure = (0, omega arith, tt)
  some_put None n (Some c) is secure = absurd (none_is c is)
  some_put (Some a) None (Some c) is secure = absurd (secure false c (no_crash disk p) is)
  some_put (Some a) (Some b) (Some c) is secure =
      some_at a b c is ((secure false c (no_crash disk p) is).0 (record { at = b.now.at; bytes = b.now.bytes }) (leaves_now b.now))

-- ---- a read of the home

pub same_places : {R D F S : Type 0} (disk : Disk D F S) (old new : DiskHome R D F S) → new.file ≡ old.file → new.journal ≡ old.journal → places_of disk new ≡ places_of disk old
same_places disk old new file_is journal_is =
    ap (λ file. places_by disk.leads (option_map string_bytes file) (string_bytes new.journal)) file_is
    ∙ ap (λ journal. places_by disk.leads (option_map string_bytes old.file) (string_bytes journal)) journal_is

module _ {R D F S : Type 0} (disk : Disk D F S) (old new : DiskHome R D F S) (call : Call) where
  calls_still : (places : Option Places) → disk.story new.disk ≡ disk.story old.disk → (IsWhole call → ⊥) → IfSome places (λ p. IsCallAt disk p (disk.story old.disk) call (disk.story new.disk))
  calls_still None same not_whole = tt
  calls_still (Some p) same not_whole = call_still disk p (disk.story old.disk) (disk.story new.disk) call same not_whole

  follows_still : (x y : Option Contents) → y ≡ x → ((c : Contents) → left_by c call ≡ c) → IfSome x (λ c. TellsOf c call) → IfSome x (λ c. TellsOf c call × (y ≡ Some (left_by c call)))
  follows_still None y is leaves tells = tt
  follows_still (Some c) y is leaves tells = (tells, is ∙ ap Some (sym (leaves c)))

  -- it changes nothing
  read_still : places_of disk new ≡ places_of disk old → disk.story new.disk ≡ disk.story old.disk → (IsWhole call → ⊥) → ((c : Contents) → left_by c call ≡ c)
      → ((bytes : List ℕ) → call ≡ got Base bytes → IfSome (places_of disk old) (λ p. Told (disk.story old.disk) (λ s. IsSome (s.at p.file))))
      → CountsFailure old.failed call new.failed → IfSome (contents_of disk old) (λ c. TellsOf c call) → IsHomeCall disk old call new
  read_still at same not_whole leaves there counts tells = record {
    same = at;
    there = there;
    counts = counts;
    follows =
        follows_still (contents_of disk old) (contents_of disk new) (ap (λ places. contents_on places (disk.story new.disk)) at ∙ ap (contents_on (places_of disk old)) same) leaves tells;
    calls = calls_still (places_of disk old) same not_whole;
  }

abbrev IsGot : Call → Type 0
IsGot (got which bytes) = Unit {0}
IsGot _ = ⊥

-- what holds of a read of the file
abbrev OfFile : (Which → Type 0) → Call → Type 0
OfFile P (got which bytes) = P which
OfFile P _ = Unit {0}

if_mapped : {X Y : Type 0} (f : X → Y) (x : Option X) (P : Y → Type 0) → IfSome x (λ x. P (f x)) → IfSome (option_map f x) P
if_mapped f None P holds = tt
if_mapped f (Some x) P holds = holds

no_tells : (x : Option Contents) → IfSome x (λ c. Unit {0})
no_tells None = tt
no_tells (Some c) = tt

module _ {R D F S : Type 0} (disk : Disk D F S) (old new : DiskHome R D F S) (which : Which) (file_is : new.file ≡ old.file) (journal_is : new.journal ≡ old.journal)
    (same : disk.story new.disk ≡ disk.story old.disk) where
  file_there : (file : Option (List ℕ)) → IfSome file (λ file. Told (disk.story old.disk) (λ s. IsSome (s.at (disk.leads file))))
      → IfSome (places_by disk.leads file (string_bytes old.journal)) (λ p. Told (disk.story old.disk) (λ s. IsSome (s.at p.file)))
  file_there None there = tt
  file_there (Some f) there = there

  pub read_got : (bytes : List ℕ) → (which ≡ Base → IfSome old.file (λ file. Told (disk.story old.disk) (λ s. IsSome (s.at (disk.leads (string_bytes file)))))) → new.failed ≡ old.failed
      → IsReadOf disk old which bytes → IsHomeCall disk old (got which bytes) new
  read_got bytes there counts read =
      read_still disk old new (got which bytes) (same_places disk old new file_is journal_is) same (λ whole. whole) (λ c. refl)
      (λ more is. file_there (option_map string_bytes old.file)
      (if_mapped string_bytes old.file (λ file. Told (disk.story old.disk) (λ s. IsSome (s.at (disk.leads file)))) (there (subst (OfFile (λ which. which ≡ Base)) (sym is) refl)))) counts read

  -- and one without an answer
  pub read_lacked : new.failed ≡ old.failed → IsHomeCall disk old (lacked which) new
  read_lacked counts =
      read_still disk old new (lacked which) (same_places disk old new file_is journal_is) same (λ whole. whole) (λ c. refl) (λ more is. absurd (subst IsGot (sym is) tt)) counts
      (no_tells (contents_of disk old))

  pub read_unread : (fault : Fault) → fault ≡ StoreFailed → CountsOne old.failed new.failed → IsHomeCall disk old (read_call which (Err fault)) new
  read_unread fault is counts =
      subst (λ fault. IsHomeCall disk old (read_call which (Err fault)) new) (sym is)
      (read_still disk old new (unread which) (same_places disk old new file_is journal_is) same (λ whole. whole) (λ c. refl) (λ more is. absurd (subst IsGot (sym is) tt)) counts
      (no_tells (contents_of disk old)))

-- ---- a put of the home

-- a put writes something
some_writes : (journal : List ℕ) (file : Option (List ℕ)) → writes_by journal file ≡ [] → ⊥
some_writes journal None is = omega (arith, ap length is)
some_writes journal (Some file) is = omega (arith, ap length is)

-- and no file where that is one content
pub no_file : (journal : List ℕ) (file : Option (List ℕ)) → length (writes_by journal file) ≤ 1 → file ≡ None
no_file journal None one = refl
no_file journal (Some file) one = absurd (omega (arith, one))

-- the paths that it is given are the home's, and they and its disk's story are the new home's
module _ {R D F S : Type 0} (disk : Disk D F S) (old new : DiskHome R D F S) (file_is : new.file ≡ old.file) (journal_is : new.journal ≡ old.journal)
    (bytes : List ℕ) (file_bytes : Option (List ℕ)) (file_path journal_path : List ℕ)
    (of_file : file_path ≡ path_of (option_map string_bytes old.file) (string_bytes old.journal) Base) (of_journal : journal_path ≡ string_bytes old.journal)
    (ok : Bool) (n : Option Story) (still : disk.story new.disk ≡ n) (is : IsPut disk (led disk.leads file_path journal_path) (writes_by bytes file_bytes) ok (disk.story old.disk) n) where
  abbrev writes : List Write
  writes = writes_by bytes file_bytes

  abbrev Put : Places → Type 0
  Put p = IsPut disk p writes ok (disk.story old.disk) (disk.story new.disk)

  put_at : (f : List ℕ) → file_path ≡ f → Put (led disk.leads f (string_bytes old.journal))
  put_at f at =
      subst (λ n. IsPut disk (led disk.leads f (string_bytes old.journal)) writes ok (disk.story old.disk) n) (sym still) (subst (λ p. IsPut disk p writes ok (disk.story old.disk) n)
      (ap (λ q. led disk.leads q journal_path) at ∙ ap (λ q. led disk.leads f q) of_journal) is)

  call_at : (p : Places) (call : Call) → writes_of call ≡ writes → (IsWhole call → ok ≡ true) → Put p → IsCallAt disk p (disk.story old.disk) call (disk.story new.disk)
  call_at p call is whole put = record {
    any_moment = subst (λ writes. SecurePut disk p writes (disk.story old.disk) (disk.story new.disk)) (sym is) put.any_moment;
    lasts = λ all. subst (λ writes. LastingPut disk p writes (disk.story old.disk) (disk.story new.disk)) (sym is) (put.lasts (whole all));
    still = λ none. absurd (some_writes bytes file_bytes (sym is ∙ none));
    alone = λ one. put.alone (subst (λ writes. length writes ≤ 1) is one);
    touches = put.touches;
    recovers = subst (λ writes. RecoversAt disk p writes (disk.story old.disk) (disk.story new.disk)) (sym is) put.recovers;
  }

  abbrev At : Option (List ℕ) → Option Places
  At file = places_by disk.leads file (string_bytes old.journal)

  abbrev Follows : Option (List ℕ) → Call → Type 0
  Follows file call = IfSome (contents_on (At file) (disk.story old.disk)) (λ c. TellsOf c call × (contents_on (At file) (disk.story new.disk) ≡ Some (left_by c call)))

  abbrev IsPath : Option (List ℕ) → Type 0
  IsPath file = file_path ≡ path_of file (string_bytes old.journal) Base

  calls_at : (call : Call) → writes_of call ≡ writes → (IsWhole call → ok ≡ true) → (file : Option (List ℕ)) → IsPath file
      → IfSome (At file) (λ p. IsCallAt disk p (disk.story old.disk) call (disk.story new.disk))
  calls_at call is whole None at = tt
  calls_at call is whole (Some f) at = call_at (led disk.leads f (string_bytes old.journal)) call is whole (put_at f at)

  done_at : ok ≡ true → (file : Option (List ℕ)) → IsPath file → Follows file (put_all writes)
  done_at fine None at = tt
  done_at fine (Some f) at =
      let put = put_at f at in
      all_put disk (led disk.leads f (string_bytes old.journal)) writes (disk.story old.disk) (disk.story new.disk) _ refl put.any_moment (put.lasts fine)

  failed_at : (file : Option (List ℕ)) → IsPath file → (k : ℕ) × (k ≤ length writes) × Follows file (put_some writes k)
  failed_at None at = (0, omega arith, tt)
  failed_at (Some f) at =
      some_put disk (led disk.leads f (string_bytes old.journal)) writes (disk.story old.disk) (disk.story new.disk) _ refl (put_at f at).any_moment

  home_call : (call : Call) → writes_of call ≡ writes → (IsWhole call → ok ≡ true) → CountsFailure old.failed call new.failed
      → Follows (option_map string_bytes old.file) call → IsHomeCall disk old call new
  home_call call is whole counts follows =
      let same = same_places disk old new file_is journal_is in
      record {
        same = same;
        there = λ more read. absurd (some_writes bytes file_bytes (sym is ∙ ap writes_of read));
        counts = counts;
        follows = subst (λ p. IfSome (contents_of disk old) (λ c. TellsOf c call × (contents_on p (disk.story new.disk) ≡ Some (left_by c call)))) (sym same) follows;
        calls = calls_at call is whole (option_map string_bytes old.file) of_file;
      }

  pub put_done : ok ≡ true → CountsFailure old.failed (put_all writes) new.failed → IsHomeCall disk old (put_all writes) new
  put_done fine counts = home_call (put_all writes) refl (λ all. fine) counts (done_at fine (option_map string_bytes old.file) of_file)

  -- one that fails leaves some of them
  pub put_failed : ((k : ℕ) → CountsFailure old.failed (put_some writes k) new.failed) → ((k : ℕ) → IsExcused disk old (put_some writes k) new × IsCareful disk old (put_some writes k) new)
      → (call : Call) × ((k : ℕ) × (k ≤ length writes) × (call ≡ put_some writes k)) × HomeGoes disk old call new
  put_failed counts so =
      let some = failed_at (option_map string_bytes old.file) of_file in
      (put_some writes some.0, (some.0, some.1, refl), (home_call (put_some writes some.0) refl (λ never. absurd never) (counts some.0) some.2, so some.0))
