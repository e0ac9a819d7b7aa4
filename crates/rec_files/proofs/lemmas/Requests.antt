-- A request on a disk: its calls, and what is left at any moment of them.
use Rattle.std.proofs.Common.{◌≡◌, ◌⊎◌, inl, inr, refl, sym, ◌∙◌, ap, subst, arith, ℕ, zero, suc, ◌≤◌, Bool, false, List, [], ◌∷◌, ◌++◌, length, take, length-append, append-nil, replicate}
use Rattle.std.proofs.Common.{Option, Some, None, IfSome, IsSomeAnd, Result, Ok, Err}
use Rattle.rec_disk.specs.Disk.{State, Story, Told, AtAnyMoment}
use Rattle.rec_disk.specs.declared.disk.Disk.{Ghosts as Disk}
use Rattle.rec_files.specs.declared.files.DiskHome.{DiskHome}
use Rattle.rec_files.specs.Succeeding.{HomeGoes}
use Rattle.rec_disk.specs.Lasting.{Left, shown}
use Rattle.rec_disk.proofs.lemmas.Moments.{told_so, told_both}
use Rattle.rec_text.specs.declared.fault.Fault.{Fault}
use Rattle.rec_text.specs.declared.fault.Fault.TheVariants.{StoreFailed}
use Rattle.rec_journal.specs.History.{IsRegular}
use Rattle.rec_tools.specs.declared.home.Which.{Which}
use Rattle.rec_tools.specs.declared.home.Which.TheVariants.{Base as TheFile, Journal as TheJournal}
use Rattle.rec_tools.specs.declared.request.Request.{Request}
use Rattle.rec_tools.specs.declared.request.Request.TheVariants.{Change as Changes}
use Rattle.rec_tools.specs.Home.{Contents, Write, Call, got, lacked, unread, put_all, put_some, written, writes_by, left_by, TellsOf, TellAll, Went, content_of}
use Rattle.rec_tools.specs.Printouts.{Printed}
use Rattle.rec_tools.specs.Requests.{change_of, asked_of}
use Rattle.rec_tools.specs.Asked.{Asked, changing, reads_of}
use Rattle.rec_tools.specs.Outcomes.{Outcome, IsRequestOutcome}
use Rattle.rec_tools.specs.Attempts.{Answer, gots, puts, StopsReading, AreRead, StopsWriting, Does, Attempts, AttemptsAll}
use Rattle.rec_tools.specs.Through.{move_through, moves_through, PreviewsThrough}
use Rattle.rec_diff.specs.declared.style.DiffStyle.{DiffStyle}
use Rattle.rec_journal.specs.declared.patch.Direction.{Direction}
use Rattle.rec_tools.specs.Stands.{Stands}
use Rattle.rec_tools.specs.Answers.{IsOldOrNext}
use Rattle.rec_tools.specs.States.{State as Machine}
use Rattle.rec_tools.specs.Guarantee.{StopsAreSteps}
use Rattle.rec_files.specs.OnDisk.{Places, Shows, Holds, IsRead, IsSecure, CanSync, IsCallAt, IsWhole, writes_of, contents_on, or_empty, StandsThen, SecureRequest, LastingRequest, Sites}
use Rattle.rec_files.specs.OnDisk.{sites_of, IsNext, Recovers, RecoversBy, RecoversAt, RecoversThen, RecoversRequest, IsRequestAt, AreRequestsAt, places_of}
use Rattle.rec_files.specs.Leftovers.{IsStopBetween}
use Rattle.rec_files.proofs.lemmas.Outcomes.{Puts, puts_left}
use Rattle.rec_files.proofs.lemmas.Holding.{read_there}
use Rattle.rec_files.proofs.lemmas.Steps.{some_none}
use Rattle.rec_files.proofs.lemmas.Home.{call_still, no_crash}
use Rattle.rec_files.proofs.lemmas.Replacing.{moments_so}

-- ---- reads, and one call more

abbrev IsGot : Call → Type 0
IsGot (got which bytes) = Unit {0}
IsGot (lacked which) = ⊥
IsGot (unread which) = ⊥
IsGot (put_all writes) = ⊥
IsGot (put_some writes k) = ⊥

-- all calls but the last are reads
abbrev ReadsFirst : List Call → Type 0
ReadsFirst [] = Unit {0}
ReadsFirst (call ∷ []) = Unit {0}
ReadsFirst (call ∷ (next ∷ calls)) = IsGot call × ReadsFirst (next ∷ calls)

abbrev last_writes : List Call → List Write
last_writes [] = []
last_writes (call ∷ []) = writes_of call
last_writes (call ∷ (next ∷ calls)) = last_writes (next ∷ calls)

abbrev IsWholeLast : List Call → Type 0
IsWholeLast [] = ⊥
IsWholeLast (call ∷ []) = IsWhole call
IsWholeLast (call ∷ (next ∷ calls)) = IsWholeLast (next ∷ calls)

got_writes : (call : Call) → IsGot call → writes_of call ≡ []
got_writes (got which bytes) is = refl
got_writes (lacked which) is = absurd is
got_writes (unread which) is = absurd is
got_writes (put_all writes) is = absurd is
got_writes (put_some writes k) is = absurd is

-- what is known of calls, by their last one
pub record AreCalls (writes : List Write) (failed : Type 0) (calls : List Call) : Type 0 where
  pub reads : ReadsFirst calls
  pub writes_are : last_writes calls ≡ writes
  pub is_whole : (writes ≡ []) ⊎ (IsWholeLast calls ⊎ failed)

one_more : (writes : List Write) (failed : Type 0) (call : Call) (calls : List Call) → IsGot call → AreCalls writes failed calls → (writes ≡ []) ⊎ (calls ≡ [] → ⊥) → AreCalls writes failed
    (call ∷ calls)
one_more writes failed call [] is are (inl none) = record { reads = tt; writes_are = got_writes call is ∙ sym none; is_whole = inl none }
one_more writes failed call [] is are (inr some) = absurd (some refl)
one_more writes failed call (next ∷ calls) is are known = record { reads = (is, are.reads); writes_are = are.writes_are; is_whole = are.is_whole }

no_calls : (failed : Type 0) → AreCalls [] failed []
no_calls failed = record { reads = tt; writes_are = refl; is_whole = inl refl }

-- reads alone, and reads with one call more
gots_then : (c : Contents) (whiches : List Which) (failed : Type 0) (call : Call) → (writes_of call ≡ []) ⊎ (IsWhole call ⊎ failed)
    → AreCalls (writes_of call) failed (gots c whiches ++ (call ∷ []))
gots_then c [] failed call is = record { reads = tt; writes_are = refl; is_whole = is }
gots_then c (which ∷ whiches) failed call is =
    one_more (writes_of call) failed (got which (content_of c which)) (gots c whiches ++ (call ∷ [])) tt (gots_then c whiches failed call is) (inr (λ e. omega (
      arith,
      ap length e,
      length-append
          (gots c whiches) (call ∷ []),
    )))

gots_alone : (c : Contents) (whiches : List Which) (failed : Type 0) → AreCalls [] failed (gots c whiches)
gots_alone c [] failed = no_calls failed
gots_alone c (which ∷ whiches) failed = one_more [] failed (got which (content_of c which)) (gots c whiches) tt (gots_alone c whiches failed) (inl refl)

stopped : (whiches : List Which) (calls : List Call) (fault : Fault) (failed : Type 0) → StopsReading whiches calls fault → AreCalls [] failed calls
stopped [] [] fault failed stops = absurd stops
stopped [] (call ∷ calls) fault failed stops = absurd stops
stopped (which ∷ whiches) [] fault failed stops = absurd stops
stopped (which ∷ whiches) (call ∷ calls) fault failed (inl (is, none, given)) = subst (λ rest. AreCalls [] failed (call ∷ rest)) (sym none)
    (subst (λ call. AreCalls [] failed (call ∷ [])) (sym is) (record { reads = tt; writes_are = refl; is_whole = inl refl }))
stopped (which ∷ whiches) (call ∷ calls) fault failed (inr (inl (is, none, given))) = subst (λ rest. AreCalls [] failed (call ∷ rest)) (sym none)
    (subst (λ call. AreCalls [] failed (call ∷ [])) (sym is) (record { reads = tt; writes_are = refl; is_whole = inl refl }))
stopped (which ∷ whiches) (call ∷ calls) fault failed (inr (inr (bytes, is, stops))) =
    subst (λ call. AreCalls [] failed (call ∷ calls)) (sym is) (one_more [] failed (got which bytes) calls tt (stopped whiches calls fault failed stops) (inl refl))

-- ---- what a request does

abbrev Failed : Answer → Type 0
Failed answer = answer ≡ Err StoreFailed

module _ (c : Contents) (asked : Asked) (answer : Answer) (p : Printed) where
  pub record Writes (calls : List Call) : Type 0 where
    pub writes : List Write
    pub are : AreCalls writes (Failed answer) calls
    pub come : (writes ≡ []) ⊎ ((o : Outcome) × IsRequestOutcome c asked (Ok o) × (writes ≡ o.writes))

  read_only : (calls : List Call) → AreCalls [] (Failed answer) calls → Writes calls
  read_only calls are = record { writes = []; are = are; come = inl refl }

  read_gots : (calls : List Call) → calls ≡ gots c (reads_of asked) → Writes calls
  read_gots calls is = subst Writes (sym is) (read_only (gots c (reads_of asked)) (gots_alone c (reads_of asked) (Failed answer)))

  following_are : (o : Outcome) (following : List Call) → IsRequestOutcome c asked (Ok o) → (ws : List Write) → ws ≡ o.writes
      → ((answer ≡ Ok o.reply) × (following ≡ puts ws)) ⊎ ((answer ≡ Err StoreFailed) × StopsWriting ws following) → Writes (gots c (reads_of asked) ++ following)
  following_are o following outcome [] is (inl (answered, none)) =
      subst (λ following. Writes (gots c (reads_of asked) ++ following)) (sym none)
      (subst Writes (sym (append-nil (gots c (reads_of asked)))) (read_gots (gots c (reads_of asked)) refl))
  following_are o following outcome [] is (inr (answered, stops)) = absurd stops
  following_are o following outcome (w ∷ ws) is (inl (answered, put)) =
      subst (λ following. Writes (gots c (reads_of asked) ++ following)) (sym put)
      (record { writes = w ∷ ws; are = gots_then c (reads_of asked) (Failed answer) (put_all (w ∷ ws)) (inr (inl tt)); come = inr (o, outcome, is) })
  following_are o following outcome (w ∷ ws) is (inr (answered, (k, most, put))) =
      subst (λ following. Writes (gots c (reads_of asked) ++ following)) (sym put)
      (record { writes = w ∷ ws; are = gots_then c (reads_of asked) (Failed answer) (put_some (w ∷ ws) k) (inr (inr answered)); come = inr (o, outcome, is) })

  pub does_writes : (calls : List Call) → Does c asked answer calls p → Writes calls
  does_writes calls (inl unread_so) = read_only calls (stopped (reads_of asked) calls unread_so.fault (Failed answer) unread_so.stops)
  does_writes calls (inr (inl short)) = read_gots calls short.read
  does_writes calls (inr (inr (inl refused))) = read_gots calls refused.read
  does_writes calls (inr (inr (inr (inl stops)))) = read_gots calls stops.read
  does_writes calls (inr (inr (inr (inr done)))) = subst Writes (sym done.calls_are) (following_are done.o done.following done.outcome done.o.writes refl done.answered)

take_none : (k : ℕ) → take {A = Write} k [] ≡ []
take_none zero = refl
take_none (suc k) = refl

-- ---- what is put can be told to be left over

recovers_puts : {D F S : Type 0} (disk : Disk D F S) (sites : Sites) (journal : List ℕ) (file : Option (List ℕ)) (o n : Option Story)
    → RecoversBy disk sites (writes_by journal file) o n → Recovers disk sites journal file o n
recovers_puts disk sites journal None o n is = is
recovers_puts disk sites journal (Some bytes) o n is = is

abbrev Missing : Option (List ℕ) → Type 0
Missing None = Unit {0}
Missing (Some bytes) = ⊥

none_shown : (bytes : List ℕ) → None ≡ Some bytes → ⊥
none_shown bytes is = subst Missing is tt

some_is : (x y : List ℕ) → Some x ≡ Some y → x ≡ y
some_is x y is = ap or_empty is

next_there : (bytes : ℕ → List ℕ) (x : Option ℕ) (old new journal : List ℕ) → shown bytes x ≡ Some old → IsStopBetween old new journal → IsSomeAnd x (λ n. IsStopBetween (bytes n) new journal)
next_there bytes None old new journal is between = absurd (none_shown old is)
next_there bytes (Some n) old new journal is between = subst (λ b. IsStopBetween b new journal) (sym (some_is (bytes n) old is)) between

is_next : (place : List ℕ → List ℕ) (p : Places) (c : Contents) (path_file path_journal journal : List ℕ) (file : Option (List ℕ)) (s : State) → IsRead p c s → place path_file ≡ p.file
    → IfSome file (λ f. IsStopBetween c.file f journal) → IsNext (sites_of place path_file path_journal) journal file s
is_next place p c path_file path_journal journal None s read at between = tt
is_next place p c path_file path_journal journal (Some f) s read at between =
    next_there s.bytes (s.at (place path_file)) c.file f journal (ap (λ q. shown s.bytes (s.at q)) at ∙ (read_there p c s read).0) between

puts_recover : {D F S : Type 0} (disk : Disk D F S) (p : Places) (c : Contents) (writes : List Write) (o n : Option Story)
    → Told o (IsRead p c) → Puts c writes → RecoversAt disk p writes o n → RecoversThen disk p o n
puts_recover disk p c writes o n read puts (inl same) = inl same
puts_recover disk p c writes o n read puts (inr (file, journal, at, recovers)) =
    let sites = sites_of disk.place file journal in
    let by = recovers_puts disk sites puts.journal puts.file o n (subst (λ writes. RecoversBy disk sites writes o n) puts.are recovers) in
    inr (
      file,
      journal,
      at,
      λ crash can. by crash can puts.begins (told_both (IsRead p c) (λ s. (disk.place file ≡ p.file) × (disk.place journal ≡ p.journal)) (IsNext sites puts.journal puts.file) o
          (λ s read at. is_next disk.place p c file journal puts.journal puts.file s read at.0 puts.between) read at),
    )

-- ---- the machine

none_still : (R : State → State → Type 0) (x y : Option Story) → x ≡ None → AtAnyMoment x y R → y ≡ x
none_still R None None is all = refl
none_still R None (Some b) is all = absurd all
none_still R (Some a) y is all = absurd (some_none a is)

none_any : (R Q : State → State → Type 0) (x y : Option Story) → x ≡ None → AtAnyMoment x y R → AtAnyMoment x y Q
none_any R Q None None is all = tt
none_any R Q None (Some b) is all = absurd all
none_any R Q (Some a) y is all = absurd (some_none a is)

module _ (laws : StopsAreSteps) (request : Request) (answer : Answer) (printed : Printed) (p : Places) (crash : Bool) (c : Contents) (s : Machine) (stands : Stands c s)
    (regular : IsRegular c.journal) where
  abbrev Then : Left → Type 0
  Then left = (t : Machine) × IsOldOrNext s (asked_of request) t × ((c : Contents) × Shows p left c × Stands c t)

  as_it_was : (left : Left) → Shows p left c → Then left
  as_it_was left shows = (s, inl refl, (c, shows, stands))

  by_writes : (o : Outcome) → IsRequestOutcome c (asked_of request) (Ok o) → (ws : List Write) → o.writes ≡ ws → (left : Left) (k : ℕ) → k ≤ length ws → Shows p left (written c (take k ws))
      → Then left
  by_writes o outcome [] is left k most shows = as_it_was left (subst (λ taken. Shows p left (written c taken)) (take_none k) shows)
  by_writes o outcome (w ∷ ws) is left k most shows =
      let (t, next, stands_then, regular_then) = laws c s request o (put_some (w ∷ ws) k ∷ []) stands regular outcome (subst (λ writes. StopsWriting writes (put_some (w ∷ ws) k ∷ [])) (sym is)
      (k, most, refl)) in
      (t, next, (written c (take k (w ∷ ws)), shows, stands_then))

  by_come : (writes : List Write) → (writes ≡ []) ⊎ ((o : Outcome) × IsRequestOutcome c (asked_of request) (Ok o) × (writes ≡ o.writes)) → (left : Left) (k : ℕ) → k ≤ length writes
      → Shows p left (written c (take k writes)) → Then left
  by_come writes (inl none) left k most shows =
      as_it_was left (subst (λ taken. Shows p left (written c taken)) (ap (take k) none ∙ take_none k) shows)
  by_come writes (inr (o, outcome, is)) left k most shows = by_writes o outcome writes (sym is) left k most shows

  then_left : (calls : List Call) → Writes c (asked_of request) answer printed calls → (left : Left)
      → (k : ℕ) × (k ≤ length (last_writes calls)) × Shows p left (written c (take k (last_writes calls))) → Then left
  then_left calls known left some =
      let (k, most, shows) = subst (λ writes. (k : ℕ) × (k ≤ length writes) × Shows p left (written c (take k writes))) known.are.writes_are some in
      by_come known.writes known.come left k most shows

  then_stands : (calls : List Call) → Writes c (asked_of request) answer printed calls → (before u : State) → IsSecure crash p c (last_writes calls) before u
      → StandsThen crash p s (asked_of request) before u
  then_stands calls known before u secure left leaves =
      elim (secure left leaves) [
        | inl was ↦ inl was
        | inr some ↦ inr (then_left calls known left some)
      ]

-- calls that read both contents change nothing
reads_still : (read : Result (List ℕ × List ℕ) Fault) (calls : List Call) → AreRead read calls → AreCalls [] ⊥ calls
reads_still (Ok (file, journal)) calls e =
    subst (AreCalls [] ⊥) (sym e) (gots_alone (record { file = file; journal = journal }) (TheFile ∷ TheJournal ∷ []) ⊥)
reads_still (Err fault) calls stops = stopped (TheFile ∷ TheJournal ∷ []) calls fault ⊥ stops

-- ---- on a home on a disk

module _ {R D F S : Type 0} (disk : Disk D F S) where
  abbrev Go : DiskHome R D F S → Call → DiskHome R D F S → Type 0
  Go = HomeGoes disk

  abbrev at : DiskHome R D F S → Option Places
  at = places_of disk

  abbrev told : DiskHome R D F S → Option Story
  told home = disk.story home.disk

  -- the paths stay
  went_same : (calls : List Call) (o n : DiskHome R D F S) → Went Go o calls n → at n ≡ at o
  went_same [] o n went = ap at went
  went_same (call ∷ calls) o n (mid, goes, went) = went_same calls mid n went ∙ goes.0.same

  module _ (p : Places) where
    abbrev CallAt : DiskHome R D F S → Call → DiskHome R D F S → Type 0
    CallAt o call n = IsCallAt disk p (told o) call (told n)

    call_at : (o n : DiskHome R D F S) (call : Call) → at o ≡ Some p → Go o call n → CallAt o call n
    call_at o n call is goes = subst (λ x. IfSome x (λ p. IsCallAt disk p (told o) call (told n))) is goes.0.calls

    -- the contents are read as they are
    tell_all : (calls : List Call) (o n : DiskHome R D F S) (c : Contents) → at o ≡ Some p → contents_on (Some p) (told o) ≡ Some c → Went Go o calls n → TellAll c calls
    tell_all [] o n c is holds went = tt
    tell_all (call ∷ calls) o n c is holds (mid, goes, went) =
        let follows : TellsOf c call × (contents_on (at mid) (told mid) ≡ Some (left_by c call)) =
        subst (λ x. IfSome x (λ c. TellsOf c call × (contents_on (at mid) (told mid) ≡ Some (left_by c call)))) (ap (λ x. contents_on x (told o)) is ∙ holds) goes.0.follows in
        let still : at mid ≡ Some p = goes.0.same ∙ is in
        (follows.0, tell_all calls mid n (left_by c call) still (sym (ap (λ x. contents_on x (told mid)) still) ∙ follows.1) went)

    -- reads and one call more are as that call
    pub record IsOne (calls : List Call) (o n : DiskHome R D F S) : Type 0 where
      pub call : Call
      pub writes : writes_of call ≡ last_writes calls
      pub whole : IsWholeLast calls → IsWhole call
      pub is : CallAt o call n

    went_one : (calls : List Call) (o n : DiskHome R D F S) → at o ≡ Some p → Went Go o calls n → ReadsFirst calls → IsOne calls o n
    went_one [] o n is went reads = record {
      call = lacked TheFile;
      writes = refl;
      whole = λ never. never;
      is = call_still disk p (told o) (told n) (lacked TheFile) (ap told went) (λ never. never);
    }
    went_one (call ∷ []) o n is (mid, goes, went) reads =
        record { call = call; writes = refl; whole = λ whole. whole; is = subst (λ n. CallAt o call n) (sym went) (call_at o mid call is goes) }
    went_one (call ∷ (next ∷ calls)) o n is (mid, goes, went) reads =
        let one = went_one (next ∷ calls) mid n (goes.0.same ∙ is) went reads.1 in
        record {
          call = one.call;
          writes = one.writes;
          whole = one.whole;
          is = subst (λ x. IsCallAt disk p x one.call (told n)) ((call_at o mid call is goes).still (got_writes call reads.0)) one.is;
        }

    went_still : (calls : List Call) (o n : DiskHome R D F S) → at o ≡ Some p → Went Go o calls n → ReadsFirst calls → last_writes calls ≡ [] → told n ≡ told o
    went_still calls o n is went reads none = let one = went_one calls o n is went reads in one.is.still (one.writes ∙ none)

    module _ (laws : StopsAreSteps) (request : Request) (answer : Answer) (calls : List Call) (printed : Printed) (o n : DiskHome R D F S)
        (done : Attempts Go o n (asked_of request) answer calls printed) (e : at o ≡ Some p) where
      does_some : Writes done.1.0 (asked_of request) answer printed calls
      does_some = does_writes done.1.0 (asked_of request) answer printed calls (done.2 done.1.0 done.1.1)

      one : IsOne calls o n
      one = went_one calls o n e done.0 does_some.are.reads

      nothing_written : last_writes calls ≡ [] → told n ≡ told o
      nothing_written none = one.is.still (one.writes ∙ none)

      does_known : (c : Contents) (x : Option Story) → told o ≡ x → Told x (IsRead p c) → (x ≡ None) ⊎ Writes c (asked_of request) answer printed calls
      does_known c None is read = inl refl
      does_known c (Some a) is read =
          inr (does_writes c (asked_of request) answer printed calls (done.2 c (tell_all calls o n c e (ap (contents_on (Some p)) is ∙ read) done.0)))

      secure_calls : (crash : Bool) (c : Contents) → CanSync disk crash p → Told (told o) (IsRead p c) → AtAnyMoment (told o) (told n) (IsSecure crash p c (last_writes calls))
      secure_calls crash c can read = subst (λ writes. AtAnyMoment (told o) (told n) (IsSecure crash p c writes)) one.writes (one.is.any_moment crash c can read)

      request_secure : SecureRequest disk p (asked_of request) (told o) (told n)
      request_secure crash c s can read stands regular =
          elim (does_known c (told o) refl read) [
            | inl none ↦ none_any (IsSecure crash p c (last_writes calls)) (StandsThen crash p s (asked_of request)) (told o) (told n) none (secure_calls crash c can read)
            | inr known ↦ moments_so (IsSecure crash p c (last_writes calls)) (StandsThen crash p s (asked_of request)) (told o) (told n)
                (λ before u secure. then_stands laws request answer printed p crash c s stands regular calls known before u secure) (secure_calls crash c can read)
          ]

      request_lasts : (answer ≡ Err StoreFailed) ⊎ LastingRequest disk p (told o) (told n)
      request_lasts =
          elim does_some.are.is_whole [
            | inl none ↦ inr (inl (nothing_written (does_some.are.writes_are ∙ none)))
            | inr (inl whole) ↦ inr (inr (λ crash c can read. told_so (Holds crash p (written c (writes_of one.call))) (λ u. (d : Contents) × Holds crash p d u) (told n)
                (λ u holds. (written c (writes_of one.call), holds)) (one.is.lasts (one.whole whole) crash c can read)))
            | inr (inr failed) ↦ inl failed
          ]

      recovers_known : (c : Contents) → (known : Writes c (asked_of request) answer printed calls) → Told (told o) (IsRead p c) → IsRegular c.journal
          → (known.writes ≡ []) ⊎ ((outcome : Outcome) × IsRequestOutcome c (asked_of request) (Ok outcome) × (known.writes ≡ outcome.writes)) → RecoversThen disk p (told o) (told n)
      recovers_known c known read regular (inl none) = inl (nothing_written (known.are.writes_are ∙ none))
      recovers_known c known read regular (inr (outcome, is_outcome, is)) =
          elim (puts_left c (asked_of request) outcome regular is_outcome) [
            | inl none ↦ inl (nothing_written (known.are.writes_are ∙ is ∙ none))
            | inr puts ↦ puts_recover disk p c outcome.writes (told o) (told n) read puts
                (subst (λ writes. RecoversAt disk p writes (told o) (told n)) (one.writes ∙ known.are.writes_are ∙ is) one.is.recovers)
          ]

      request_recovers : RecoversRequest disk p (told o) (told n)
      request_recovers c read regular =
          elim (does_known c (told o) refl read) [
            | inl none ↦ inl (none_still (IsSecure false p c (last_writes calls)) (told o) (told n) none (secure_calls false c (no_crash disk p) read))
            | inr known ↦ recovers_known c known read regular known.come
          ]

      -- all of it
      request_at : IsRequestAt disk p (asked_of request) answer (told o) (told n)
      request_at = record { any_moment = request_secure; lasting = request_lasts; touches = one.is.touches; recovers = request_recovers }

  pub request_on : (laws : StopsAreSteps) (request : Request) (answer : Answer) (calls : List Call) (printed : Printed) (o n : DiskHome R D F S)
      → Attempts Go o n (asked_of request) answer calls printed → (x : Option Places) → at o ≡ x → IfSome x (λ p. IsRequestAt disk p (asked_of request) answer (told o) (told n))
  request_on laws request answer calls printed o n done None e = tt
  request_on laws request answer calls printed o n done (Some p) e = request_at p laws request answer calls printed o n done e

  -- ---- one request after another

  all_at : (laws : StopsAreSteps) (request : Request) (p : Places) (answers : List Answer) (o n : DiskHome R D F S) (calls : List Call) (printed : Printed) → at o ≡ Some p
      → AttemptsAll Go o n (replicate (length answers) request) answers calls printed → AreRequestsAt disk p (asked_of request) answers (told o) (told n)
  all_at laws request p [] o n calls printed e done = ap told done.0
  all_at laws request p (answer ∷ answers) o n calls printed e (mid, now, later, first, rest, are, parts, tried, tried_later) = (
    told mid,
    request_at p laws request answer now first o mid tried e,
    all_at laws request p answers mid n later rest (went_same now o mid tried.0 ∙ e) tried_later,
  )

  pub moves_at : (laws : StopsAreSteps) (direction : Direction) (count : ℕ) (o n : DiskHome R D F S) (x : Option Places) → at o ≡ x → (answers : List Answer) (calls : List Call) (printed : Printed)
      → AttemptsAll Go o n (moves_through direction count answers) answers calls printed
      → IfSome x (λ p. AreRequestsAt disk p (changing (change_of (move_through direction count))) answers (told o) (told n))
  moves_at laws direction count o n None e answers calls printed done = tt
  moves_at laws direction count o n (Some p) e answers calls printed done = all_at laws (Changes (move_through direction count)) p answers o n calls printed e done

  -- ---- a dry run of moves

  pub previews_still : (style : DiffStyle) (direction : Direction) (count : ℕ) (o n : DiskHome R D F S) (x : Option Places) → at o ≡ x → (answers : List Answer) (printed : Printed)
      → PreviewsThrough Go o n style direction count answers printed → IfSome x (λ p. told n ≡ told o)
  previews_still style direction count o n None e answers printed done = tt
  previews_still style direction count o n (Some p) e answers printed (read, calls, went, are, previews) =
      let known = reads_still read calls are in went_still p calls o n e went known.reads known.writes_are
