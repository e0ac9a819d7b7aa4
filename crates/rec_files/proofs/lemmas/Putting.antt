-- What a put promises, by the paths as they were given.
use Rattle.std.proofs.Common.{◌≡◌, ◌∙◌, inl, inr, ℕ, ◌≤◌, Bool, true, List, length, Option, Some, None, IfSome, refl, sym, ap, subst}
use Rattle.std.specs.Prelude.{IsSome, option_map}
use Rattle.std.specs.Option.{option_and_then}
use Rattle.rec_disk.specs.declared.disk.Disk.{Ghosts as Disk}
use Rattle.rec_disk.specs.Disk.{State, Story, Look, Told, rights_seen}
use Rattle.std.proofs.lemmas.Bool.{false≢true}
use Rattle.rec_disk.specs.Lasting.{Spares}
use Rattle.rec_disk.proofs.lemmas.Moments.{told_so}
use Rattle.rec_disk.proofs.lemmas.Calls.{spares_still}
use Rattle.rec_tools.specs.Home.{Write, written, writes_by}
use Rattle.rec_files.specs.OnDisk.{Places, AreTold, Holds, IsSecure, LastingPut, or_empty, rights_at, GivesRights}
use Rattle.rec_files.specs.Succeeding.{AreApart, CanPrepare, IsAsSeen, IsTold, Known}
use Rattle.rec_files.specs.proving.Replacing.{AreAsSeen, AreResolved, IsPut, led}
use Rattle.rec_files.specs.proving.Steps.{Task, Numbers, AreFound, CanReplace, MayBegin, Puts}
use Rattle.rec_files.proofs.lemmas.Telling.{tell_all, told_tell}
use Rattle.rec_files.proofs.lemmas.Home.{last_written, no_file, secure_still, then_secure}
use Rattle.rec_files.proofs.lemmas.Replacing.{weaker_moments}
use Rattle.rec_files.proofs.lemmas.Recovering.{recovers_by}
use Rattle.rec_files.proofs.lemmas.Succeeding.{same_told, told_with}
use Rattle.rec_files.proofs.lemmas.Playing.{since_start}
use Rattle.rec_files.proofs.lemmas.Promises.{AreSeen, Four, Two}
use Rattle.rec_files.proofs.lemmas.Played.{IsLast, IsSafe, none_put, safe_put}

-- each look, if there is one, tells what it saw
abbrev pub AreTelling : Option (Option Look) → Option (Option Look) → Type 0
AreTelling file journal = IfSome file IsSome × IfSome journal IsSome

if_some_told : {X S : Type 0} (tells : S → Option Look) (seen : X → S) → ((status : S) → IsSome (tells status)) → (old : Option X) → IfSome (option_map (λ x. tells (seen x)) old) IsSome
if_some_told tells seen law None = tt
if_some_told tells seen law (Some x) = law (seen x)

pub are_telling : {X S : Type 0} (tells : S → Option Look) (seen : X → S) → ((status : S) → IsSome (tells status)) → (file journal : Option X)
    → AreTelling (option_map (λ x. tells (seen x)) file) (option_map (λ x. tells (seen x)) journal)
are_telling tells seen law file journal = (if_some_told tells seen law file, if_some_told tells seen law journal)

seen_rights : (p : List ℕ) (look : Option (Option Look)) (s : State) → IfSome look IsSome → IsAsSeen p look s → rights_at s p ≡ option_and_then rights_seen look
seen_rights p None s tells seen = ap (option_map s.rights) seen
seen_rights p (Some None) s tells seen = absurd (false≢true tells)
seen_rights p (Some (Some look)) s tells seen = ap (option_map s.rights) seen.number ∙ sym (ap Some seen.rights)

-- nothing is changed
pub put_still : {D F S : Type 0} (disk : Disk D F S) (p : Places) (writes : List Write) (ok : Bool) (o n : Option Story) → n ≡ o
    → (ok ≡ true → LastingPut disk p writes o n) → IsPut disk p writes ok o n
put_still disk p writes ok o n same lasts = record {
  any_moment = secure_still disk p writes o n same;
  lasts = lasts;
  alone = λ one. spares_still p.file o n same;
  touches = inl same;
  recovers = inl same;
}

pub begun : {D F S : Type 0} (disk : Disk D F S) (given_file given_journal : List ℕ) (file journal : Known) (x : Numbers) (o : Option Story)
    → Told o (MayBegin disk given_file given_journal file journal x) → Told o (AreAsSeen (led disk.leads given_file given_journal) file.look journal.look)
begun disk given_file given_journal file journal x o begins =
    told_so (MayBegin disk given_file given_journal file journal x) (AreAsSeen (led disk.leads given_file given_journal) file.look journal.look) o (λ s may. may.seen) begins

module _ {D F S : Type 0} (disk : Disk D F S) (given_file given_journal : List ℕ) (task : Task) (file : Option (List ℕ)) (x : Numbers) where
  abbrev pub Begins : State → Type 0
  Begins = MayBegin disk given_file given_journal task.file task.journal x

  abbrev Given : Places
  Given = led disk.leads given_file given_journal

  abbrev Writes : List Write
  Writes = writes_by task.journal_bytes file

  pub may_begin : (o : Option Story) → Told o (AreFound (Four disk task) x) → Told o (λ s. AreApart (Four disk task))
      → Told o (λ s. AreResolved disk given_file given_journal task.file.path task.journal.path)
      → Told o (AreAsSeen (led disk.place task.file.path task.journal.path) task.file.look task.journal.look) → Told o Begins
  may_begin None found apart resolved seen = tt
  may_begin (Some a) found apart resolved seen = record {
    seen = (
      subst (λ p. IsAsSeen p task.file.look a.now) resolved.file_is seen.0,
      subst (λ p. IsAsSeen p task.journal.look a.now) resolved.journal_is seen.1,
    );
    found = found;
    apart = apart;
    resolved = resolved;
  }

  -- what it needs, where this was found
  pub may_replace : (o b : Option Story) → b ≡ o → IsTold o (λ s. IfSome file (λ bytes. length bytes ≤ 1_073_741_824) × CanPrepare disk given_file given_journal task.file task.journal s)
      → Told o Begins → IsTold b (CanReplace disk task file x)
  may_replace o b same given begins =
      same_told (CanReplace disk task file x) o b same (told_with (λ s. IfSome file (λ bytes. length bytes ≤ 1_073_741_824) × CanPrepare disk given_file given_journal task.file task.journal s) Begins
      (CanReplace disk task file x) o (λ s can may. record { short = can.0; apart = may.apart; found = may.found; unchanged = can.1.unchanged; is_regular = can.1.is_regular }) given begins)

  own_given : (s : State) → Begins s → Two disk task ≡ Given
  own_given s may = ap (λ q. led (λ r. r) q (disk.place task.journal.path)) may.resolved.file_is ∙ ap (λ q. led (λ r. r) (disk.leads given_file) q) may.resolved.journal_is

  module _ (is_file : task.file_bytes ≡ or_empty file) (ok : Bool) (short : length task.journal_bytes ≤ 1_073_741_824) where
    put_at : (a : Story) (n : Option Story) → AreTelling task.file.look task.journal.look → Begins a.now → Puts disk task file x ok (Some a) n → IsPut disk (Two disk task) Writes ok (Some a) n
    put_at a n tells may puts =
        let Safe : State → Type 0 = IsSafe disk task file x is_file may.apart a may.found in
        let safe = safe_put disk task file x is_file may.apart a may.found ok n puts in
        let as_seen = subst (λ p. AreAsSeen p task.file.look task.journal.look a.now) (sym (own_given a.now may)) may.seen in
        let seen : AreSeen disk task a.now = (
          seen_rights (Four disk task).file task.file.look a.now tells.0 as_seen.0,
          seen_rights (Four disk task).journal task.journal.look a.now tells.1 as_seen.1,
        ) in
        record {
          any_moment = λ crash c can read.
              since_start (IsSecure crash (Two disk task) c Writes) a n (weaker_moments Safe (λ u. IsSecure crash (Two disk task) c Writes a.now u) (Some a) n
              (λ u is. then_secure crash (Two disk task) c task.journal_bytes file a.now u (is.between crash c (record { can = can; read = read }))) safe.0);
          lasts = λ fine crash c can read.
              told_so (IsLast disk task file x is_file may.apart a may.found) (Holds crash (Two disk task) (written c Writes)) n
              (λ u last. last_written crash (Two disk task) c task.journal_bytes file u (last crash c (record { can = can; read = read }))) (safe.1 fine);
          alone = λ one.
              since_start (Spares (Two disk task).file) a n (weaker_moments Safe (λ u. Spares (Two disk task).file a.now u) (Some a) n (λ u is. is.alone (no_file task.journal_bytes file one)) safe.0);
          touches = inr (
            task.file.path,
            task.journal.path,
            refl,
            refl,
            may.found.left,
            λ q ne_file ne_journal ne_new_file ne_new_journal.
                since_start (Spares q) a n
                (weaker_moments Safe (λ u. Spares q a.now u) (Some a) n (λ u is. is.strangers q ne_file ne_journal ne_new_file ne_new_journal) safe.0),
            since_start (GivesRights (Four disk task)) a n (weaker_moments Safe (λ u. GivesRights (Four disk task) a.now u) (Some a) n (λ u is. is.rights seen) safe.0),
          );
          recovers = inr (
            task.file.path,
            task.journal.path,
            (refl, refl),
            recovers_by (Four disk task) task.journal_bytes disk file (Some a) n (λ crash can begins next told.
                weaker_moments Safe (AreTold crash disk.folder (Four disk task)) (Some a) n (λ u is. tell_all crash disk.folder (Four disk task) (λ e. (can e).0) u (is.tell crash (record {
                  can = can;
                  begins = begins;
                  short = short;
                  next = next;
                  tell = told_tell crash disk.folder (Four disk task) (λ e. (can e).0) a.now told;
                }))) safe.0),
          );
        }

    put_on : (o n : Option Story) → (IsSome o → AreTelling task.file.look task.journal.look) → Told o Begins → Puts disk task file x ok o n → IsPut disk Given Writes ok o n
    put_on None n telling begins puts =
        let same = none_put disk task file x ok n puts in
        put_still disk Given Writes ok None n same (λ fine crash c can read. subst (λ n. Told n (Holds crash Given (written c Writes))) (sym same) tt)
    put_on (Some a) n telling may puts =
        subst (λ p. IsPut disk p Writes ok (Some a) n) (own_given a.now may) (put_at a n (telling refl) may puts)

    pub is_put : (o b n : Option Story) → b ≡ o → (IsSome o → AreTelling task.file.look task.journal.look) → Told o Begins → Puts disk task file x ok b n → IsPut disk Given Writes ok o n
    is_put o b n same telling begins puts = put_on o n telling begins (subst (λ b. Puts disk task file x ok b n) same puts)
