-- What succeeds on a disk that works.
use Rattle.std.proofs.Common.{◌≡◌, ◌≢◌, ◌⊎◌, ◌∙◌, inl, inr, refl, ap, sym, subst, arith, ℕ, ◌+◌, ◌<◌, ◌≤◌, Bool, true, false}
use Rattle.std.proofs.Common.{List, [], length, take, length-take, Option, Some, None, IfSome, IsSomeAnd, Result}
use Rattle.std.specs.Prelude.{IsTrue, IsSome, is_some, option_map, string_bytes, Ok, Err, IfOk, MatchOption}
use Rattle.std.specs.List.{AllByRecursion}
use Rattle.std.specs.Option.{option_and_then}
use Rattle.std.proofs.lemmas.Bool.{false≢true}
use Rattle.rec_disk.specs.declared.disk.Disk.{Ghosts as Disk}
use Rattle.rec_disk.specs.Disk.{State, Story, Look, Told, IsLookAt, IsLookFor, AtAnyMoment}
use Rattle.rec_disk.specs.Lasting.{Spares}
use Rattle.rec_text.specs.declared.fault.Fault.{Fault}
use Rattle.rec_text.specs.declared.fault.Fault.TheVariants.{StoreFailed}
use Rattle.rec_tools.specs.Home.{Call, read_call, unread, writes_by}
use Rattle.rec_files.specs.declared.failure.Failure.{Failure}
use Rattle.rec_files.specs.declared.open_file.OpenFile.{OpenFile}
use Rattle.rec_files.specs.declared.target.Target.{Target}
use Rattle.rec_files.specs.declared.files.DiskHome.{DiskHome}
use Rattle.rec_files.specs.Succeeding.{FailedForMemory, IsExcused, IsTold, Known, known, kept, HasSeen, SawAnother, StandsAsSeen, IsOther, IsShort}
use Rattle.rec_files.specs.Succeeding.{HadAll, CanPut, CanCompare, CanClear, CanPrepare, CanBeRead, IsThere, IsReadable, IsRegularAt, IsUnlocked, other_for}
use Rattle.rec_tools.specs.declared.home.Which.{Which}
use Rattle.rec_tools.specs.declared.home.Which.TheVariants.{Base, Journal}
use Rattle.rec_files.specs.declared.access.Access.{Access}
use Rattle.rec_files.specs.declared.access.Access.TheVariants.{Look as Looks, Change as Changes}
use Rattle.rec_files.specs.proving.Replacing.{IsFound}
use Rattle.rec_files.specs.proving.Succeeding.{CanRead, IsLookStill, MayWrite, IsOwnJournal, IsNoted, IsLockable}
use Rattle.rec_files.specs.Leftovers.{IsLeftJournal, IsLeftText}
use Rattle.rec_disk.specs.Paths.{working_name}
use Rattle.rec_files.specs.Paths.{path_of, end_of}
use Rattle.rec_files.specs.OnDisk.{Sites, sites_of}
use Rattle.rec_files.proofs.lemmas.Steps.{some_known, some_so}
use Rattle.rec_files.proofs.lemmas.Links.{led_to}

pub still_so : (P Q : State → Type 0) (o : Option Story) → ((s : State) → P s → Q s) → IsTold o P → IsTold o Q
still_so P Q None so told = told
still_so P Q (Some a) so told = so a.now told

-- what was told of the state too
pub told_with : (P Q R : State → Type 0) (o : Option Story) → ((s : State) → P s → Q s → R s) → IsTold o P → Told o Q → IsTold o R
told_with P Q R None so told also = told
told_with P Q R (Some a) so told also = so a.now told also

-- and of a later one
pub told_after : (R : State → State → Type 0) (P Q : State → Type 0) (o n : Option Story) → ((s t : State) → P s → R s t → Q t) → IsTold o P → AtAnyMoment o n R → IsTold n Q
told_after R P Q None n so told all = absurd told
told_after R P Q (Some a) None so told all = all
told_after R P Q (Some a) (Some b) so told all = so a.now b.now told all.0

pub spared_told : (P : State → Type 0) (o n : Option Story) → IsTold o P → ((p : List ℕ) → AtAnyMoment o n (Spares p)) → IsTold n (λ s. Unit {0})
spared_told P o n told spares = told_after (Spares []) P (λ s. Unit {0}) o n (λ s t was same. tt) told (spares [])

pub told_there : (P : State → Type 0) (o b : Option Story) → b ≡ o → IsTold o P → IsTold b (λ s. Unit {0})
told_there P o b same told = subst (λ b. IsTold b (λ s. Unit {0})) (sym same) (still_so P (λ s. Unit {0}) o (λ s is. tt) told)

-- ---- files

-- what was read and still stands there can be read again
can_read : {D F S : Type 0} (disk : Disk D F S) (p : List ℕ) (old : Option (OpenFile D F S)) (s : State) → s.at p ≡ option_map (λ o. disk.number o.file) old
    → HasSeen p (option_map (λ o. disk.tells o.seen) old) s → IfSome (option_map (λ o. disk.number o.file) old) (IsShort s) → IfSome old (λ o. CanRead disk o s)
can_read disk p None s at seen short = tt
can_read disk p (Some o) s at seen short = record {
  short = short;
  same = some_so (disk.tells o.seen) (IsLookAt s p) (IsLookStill s (disk.number o.file))
      (λ look is. let same : look.number ≡ disk.number o.file = cc in (same, (is.version ∙ ap s.version same, is.rights ∙ ap s.rights same))) seen;
}

if_two : {X : Type 0} (x y : Option X) (P : Type 0) (Q : X → Type 0) → P → IfSome x Q → IfSome y Q → IfSome x (λ o. IfSome y (λ j. P × Q o × Q j))
if_two None y P Q holds one two = tt
if_two (Some o) None P Q holds one two = tt
if_two (Some o) (Some j) P Q holds one two = (holds, one, two)

-- ---- what stands under a working name

module _ {D F S : Type 0} (disk : Disk D F S) (file journal : Known) where
  pub seen_other : (name : List ℕ) (look : Option Look) (o b : Option Story) → b ≡ o → IsTold o (λ s. IfSome (s.at (disk.place name)) (λ n. (s.held n ≡ false) × IsOther disk name file journal n))
      → Told o (λ s. IsSomeAnd look (IsLookAt s (disk.place name))) → IsTold b (λ s. IsSomeAnd look (λ look. SawAnother look.number journal.look))
  seen_other name None None b same given seen = absurd given
  seen_other name (Some look) None b same given seen = absurd given
  seen_other name None (Some a) b same given seen = absurd seen
  seen_other name (Some look) (Some a) b same given seen =
      subst (λ b. IsTold b (λ s. SawAnother look.number journal.look)) (sym same)
      (subst (λ x. IfSome x (λ n. (a.now.held n ≡ false) × IsOther disk name file journal n)) seen.number given).1.not_journal

-- and the number of what was found there
module _ {D F S : Type 0} (disk : Disk D F S) (file journal : Target D F S) where
  abbrev Reads : ℕ → State → Type 0
  Reads n s = IfSome file.old (λ o. IfSome journal.old (λ j. IsShort s n × CanRead disk o s × CanRead disk j s))

  abbrev Compares : Bool → State → ℕ → Type 0
  Compares beside s n = (s.held n ≡ false) × IsOther disk (working_name file.names) (known disk file) (known disk journal) n
      × (IsTrue beside ⊎ (IsLeftText s.bytes (s.at (disk.place file.names)) n (s.at (disk.place journal.names)) × CanCompare disk (known disk file) (known disk journal) n s))

  pub found_read : (name : List ℕ) (n : ℕ) (beside : Bool) (o b : Option Story) → name ≡ working_name file.names → b ≡ o → beside ≡ false
      → IsTold o (λ s. IfSome (s.at (disk.place (working_name file.names))) (Compares beside s)) → Told o (λ s. s.at (disk.place name) ≡ Some n) → IsTold b (Reads n)
  found_read name n beside None b named same not_beside given at = absurd given
  found_read name n beside (Some a) b named same not_beside given at =
      let compared : CanCompare disk (known disk file) (known disk journal) n a.now =
      elim (subst (λ x. IfSome x (Compares beside a.now)) (sym (ap (λ w. a.now.at (disk.place w)) named) ∙ at) given).2 [
        | inl beside_it ↦ absurd (false≢true (sym not_beside ∙ beside_it))
        | inr left ↦ left.1
      ] in
      subst (λ b. IsTold b (Reads n)) (sym same) (if_two file.old journal.old (IsShort a.now n) (λ o. CanRead disk o a.now) compared.short
      (can_read disk (disk.place file.names) file.old a.now compared.file_stands.at compared.file_stands.seen compared.file_short)
      (can_read disk (disk.place journal.names) journal.old a.now compared.journal_stands.at compared.journal_stands.seen compared.journal_short))

if_both : (x : Option ℕ) (P Q R : ℕ → Type 0) → ((n : ℕ) → P n → Q n → R n) → IfSome x P → IfSome x Q → IfSome x R
if_both None P Q R so one other = tt
if_both (Some n) P Q R so one other = so n one other

pub mapped_some : {X : Type 0} (f : X → ℕ) (o : Option X) → IsSome (option_map f o) → is_some o ≡ true
mapped_some f None is = is
mapped_some f (Some x) is = refl

module _ {D F S : Type 0} (disk : Disk D F S) (file journal : Known) where
  abbrev Four : Sites
  Four = sites_of disk.place file.path journal.path

  abbrev Clearing : State → Type 0
  Clearing s = CanClear disk file journal s

  abbrev OtherJournal : ℕ → Type 0
  OtherJournal n = IsOther disk (working_name journal.path) file journal n

  abbrev OtherFile : ℕ → Type 0
  OtherFile n = IsOther disk (working_name file.path) file journal n

  abbrev Compared : State → ℕ → Type 0
  Compared s n = IsLeftText s.bytes (s.at (disk.place file.path)) n (s.at (disk.place journal.path)) × CanCompare disk file journal n s

  abbrev LeftFile : Bool → State → ℕ → Type 0
  LeftFile beside s n = (s.held n ≡ false) × OtherFile n × (IsTrue beside ⊎ Compared s n)

  pub journal_left : (s : State) → Clearing s → IfSome (s.at Four.new_journal) (λ n. (s.held n ≡ false) × IsLeftJournal (s.bytes n) × OtherJournal n)
  journal_left s clear =
      if_both (s.at Four.new_journal) (λ n. (s.held n ≡ false) × IsLeftJournal (s.bytes n)) OtherJournal (λ n. (s.held n ≡ false) × IsLeftJournal (s.bytes n) × OtherJournal n)
      (λ n left other. (left.0, left.1, other)) clear.left.journal clear.new_journal

  one_left : (s : State) (n : ℕ) (beside : Bool) → (IsSome (s.at Four.new_journal) → IsTrue beside)
      → IsSome (s.at Four.new_journal) ⊎ IsLeftText s.bytes (s.at (disk.place file.path)) n (s.at (disk.place journal.path))
      → IsSome (s.at Four.new_journal) ⊎ CanCompare disk file journal n s → IsTrue beside ⊎ Compared s n
  one_left s n beside told (inl there) other = inl (told there)
  one_left s n beside told (inr left) (inl there) = inl (told there)
  one_left s n beside told (inr left) (inr other) = inr (left, other)

  pub file_left : (s : State) (beside : Bool) → (IsSome (s.at Four.new_journal) → IsTrue beside) → Clearing s → IfSome (s.at Four.new_file) (LeftFile beside s)
  file_left s beside told clear =
      if_both (s.at Four.new_file) (λ n. (s.held n ≡ false) × (IsSome (s.at Four.new_journal) ⊎ IsLeftText s.bytes (s.at (disk.place file.path)) n (s.at (disk.place journal.path))))
      (λ n. OtherFile n × (IsSome (s.at Four.new_journal) ⊎ CanCompare disk file journal n s)) (LeftFile beside s)
      (λ n left other. (left.0, other.0, one_left s n beside told left.1 other.1)) clear.left.file clear.new_file

  -- by what was found
  module _ (P : State → ℕ → Type 0) (found : Option ℕ) where
    pub file_left_told : (beside : Bool) (o b : Option Story) → b ≡ o → (IsSome found → IsTrue beside) → IsTold o Clearing → Told o (λ s. IsFound Four.new_journal (P s) s found)
        → IsTold b (λ s. IfSome (s.at Four.new_file) (LeftFile beside s))
    file_left_told beside o b same told given left =
        subst (λ b. IsTold b (λ s. IfSome (s.at Four.new_file) (LeftFile beside s))) (sym same)
        (told_with Clearing (λ s. IsFound Four.new_journal (P s) s found) (λ s. IfSome (s.at Four.new_file) (LeftFile beside s)) o
        (λ s clear is. file_left s beside (λ there. told (subst IsSome is.at there)) clear) given left)

-- ---- what was seen is seen still where its place is spared

pub seen_still : (p : List ℕ) (look : Option (Option Look)) (s t : State) → Spares p s t → HasSeen p look s → HasSeen p look t
seen_still p None s t same seen = same.at ∙ seen
seen_still p (Some look) s t same seen =
    some_so look (IsLookAt s p) (IsLookAt t p)
    (λ l is. let at : t.at p ≡ Some l.number = same.at ∙ is.number in record {
      number = at;
      version = is.version ∙ sym (same.version l.number (inl (sym at)));
      rights = is.rights ∙ sym (same.rights l.number (inl (sym at)));
    }) seen

seen_there : {X : Type 0} (number : X → ℕ) (tells : X → Option Look) (p : List ℕ) (old : Option X) (s : State) → s.at p ≡ option_map number old
    → IfSome old (λ x. IsSomeAnd (tells x) (IsLookFor s (number x))) → HasSeen p (option_map tells old) s
seen_there number tells p None s at seen = at
seen_there number tells p (Some x) s at seen =
    some_so (tells x) (IsLookFor s (number x)) (IsLookAt s p) (λ look is. record {
      number = at ∙ sym (ap Some is.number);
      version = is.version ∙ sym (ap s.version is.number);
      rights = is.rights ∙ sym (ap s.rights is.number);
    }) seen

pub stands_still : {D F S : Type 0} (disk : Disk D F S) (known : Known) (s t : State) → Spares (disk.place known.path) s t → StandsAsSeen disk known s → StandsAsSeen disk known t
stands_still disk known s t same stands =
    record { at = same.at ∙ stands.at; seen = seen_still (disk.place known.path) known.look s t same stands.seen; led = stands.led }

-- ---- a put goes on

pub told_fact : (P : Type 0) (o : Option Story) → IsTold o (λ s. P) → P
told_fact P None told = absurd told
told_fact P (Some a) told = told

pub same_told : (P : State → Type 0) (o b : Option Story) → b ≡ o → IsTold o P → IsTold b P
same_told P o b same told = subst (λ b. IsTold b P) (sym same) told

pub may_write : {D F S : Type 0} (disk : Disk D F S) (led : (path : List ℕ) → MatchOption (disk.link path) (disk.leads path ≡ disk.place path) (λ next. disk.leads path ≡ disk.leads next))
    (file journal : Known) (given_file given_journal : List ℕ) (o : Option Story) → IsTold o (CanPrepare disk given_file given_journal file journal) → IsTold o (MayWrite disk file)
may_write disk led file journal given_file given_journal o given =
    still_so (CanPrepare disk given_file given_journal file journal) (MayWrite disk file) o (λ s can. record {
      seen = can.unchanged.file_stands.seen;
      is_regular = can.is_regular;
      straight = (led_to disk led 40 given_file file.path can.file_end).1;
    }) given

-- ---- what can be read

-- what follows of the state that a disk tells
pub of_told : (P Q : State → Type 0) (R : Type 0) (o : Option Story) → ((s : State) → P s → Q s → R) → Told o P → IsTold o Q → R
of_told P Q R None so told given = absurd given
of_told P Q R (Some a) so told given = so a.now told given

-- of a file that is short enough no more than the limit is read
pub none_too_long : (m k : ℕ) (bytes : List ℕ) (o p : Option Story) → k < length bytes → p ≡ o → Told p (λ s. bytes ≡ take (k + 1) (s.bytes m)) → IsTold o (λ s. length (s.bytes m) ≤ k) → ⊥
none_too_long m k bytes o p long same read given =
    of_told (λ s. bytes ≡ take (k + 1) (s.bytes m)) (λ s. length (s.bytes m) ≤ k) ⊥ o (λ s is short. omega (arith, long, short, ap length is, length-take (k + 1) (s.bytes m)))
    (subst (λ o. Told o (λ s. bytes ≡ take (k + 1) (s.bytes m))) same read) given

-- what was locked there stands as it was seen
pub is_noted : {D F S : Type 0} (disk : Disk D F S) (path last : List ℕ) (target : Target D F S) (s : State) → string_bytes target.given ≡ path → target.names ≡ last
    → end_of disk.link 40 path ≡ Some last → disk.leads path ≡ disk.place last → s.at (disk.leads path) ≡ (known disk target).number
    → IfSome target.old (λ opened. IsSomeAnd (disk.tells opened.seen) (IsLookFor s (disk.number opened.file))) → IsNoted disk path (known disk target) s
is_noted disk path last target s of_path is_last ends led at seen =
    let here : s.at (disk.place target.names) ≡ (known disk target).number = ap s.at (ap disk.place is_last ∙ sym led) ∙ at in
    record {
      stands = record {
        at = here;
        seen = seen_there (λ opened. disk.number opened.file) (λ opened. disk.tells opened.seen) (disk.place target.names) target.old s here seen;
        led = ap disk.leads of_path ∙ led ∙ sym (ap disk.place is_last);
      };
      ends = ends ∙ sym (ap Some is_last);
    }

pub target_noted : {D F S E : Type 0} (disk : Disk D F S) (path last text : List ℕ) (opened : OpenFile D F S) (result : Result (Target D F S) E) (o b : Option Story) → b ≡ o → text ≡ last
    → IfOk result (λ target. string_bytes target.given ≡ path) → IfOk result (λ target. target.names ≡ last) → IfOk result (λ target. target.old ≡ Some opened)
    → Told o (λ s. end_of disk.link 40 path ≡ Some last) → Told o (λ s. (disk.leads path ≡ disk.place last) × (disk.leads last ≡ disk.place last))
    → Told b (λ s. s.at (disk.leads text) ≡ Some (disk.number opened.file)) → Told b (λ s. IsSomeAnd (disk.tells opened.seen) (IsLookFor s (disk.number opened.file)))
    → IfOk result (λ target. Told o (IsNoted disk path (known disk target)))
target_noted disk path last text opened (Err error) o b same is given names old ends led at seen = tt
target_noted disk path last text opened (Ok target) None b same is given names old ends led at seen = tt
target_noted disk path last text opened (Ok target) (Some a) b same is given names old ends led at seen =
    let at_last = subst (λ b. Told b (λ s. s.at (disk.leads text) ≡ Some (disk.number opened.file))) same at in
    is_noted disk path last target a.now given names ends led.0 (ap a.now.at (led.0 ∙ sym led.1 ∙ sym (ap disk.leads is)) ∙ at_last ∙ sym (ap (option_map (λ opened. disk.number opened.file)) old))
    (subst (λ x. IfSome x (λ opened. IsSomeAnd (disk.tells opened.seen) (IsLookFor a.now (disk.number opened.file)))) (sym old)
    (subst (λ b. Told b (λ s. IsSomeAnd (disk.tells opened.seen) (IsLookFor s (disk.number opened.file)))) same seen))

-- what can be locked after links can be at the last path
pub locked_after : {D F S : Type 0} (disk : Disk D F S) (path last text : List ℕ) (L : Type 0) (U : State → ℕ → Type 0) (o b : Option Story) → b ≡ o → text ≡ last
    → IsTold o (λ s. L × IsSomeAnd (s.at (disk.leads path)) (U s)) → Told o (λ s. (disk.leads path ≡ disk.place last) × (disk.leads last ≡ disk.place last))
    → IsTold b (λ s. (disk.leads text ≡ disk.place text) × IsSomeAnd (s.at (disk.leads text)) (U s))
locked_after disk path last text L U o b same is given led =
    let Locked : List ℕ → State → Type 0 = λ p s. (disk.leads p ≡ disk.place p) × IsSomeAnd (s.at (disk.leads p)) (U s) in
    subst (λ p. IsTold b (Locked p)) (sym is)
    (same_told (Locked last) o b same (told_with (λ s. L × IsSomeAnd (s.at (disk.leads path)) (U s)) (λ s. (disk.leads path ≡ disk.place last) × (disk.leads last ≡ disk.place last)) (Locked last) o
    (λ s given led. (led.1, subst (λ p. IsSomeAnd (s.at p) (U s)) (led.0 ∙ sym led.1) given.1)) given led))

-- what holds of the file at a path holds of the one that was opened there
there_opened : (which : Which) (path : List ℕ) (P : ℕ → Type 0) (n : ℕ) → IsThere which path P (Some n) → P n
there_opened Base path P n there = there
there_opened Journal path P n there = there

module _ {D F S : Type 0} (disk : Disk D F S) (which : Which) (path p : List ℕ) (P : State → ℕ → Type 0) where
  abbrev MayRead : Option (OpenFile D F S) → State → Type 0
  MayRead old s = IfSome old (λ x. CanRead disk x s)

  pub opened_is_read : (old : Option (OpenFile D F S)) (o n : Option Story) → Told o (λ s. s.at p ≡ option_map (λ x. disk.number x.file) old)
      → IfSome old (λ x. Told o (λ s. IsSomeAnd (disk.tells x.seen) (IsLookFor s (disk.number x.file)))) → n ≡ o
      → IsTold o (λ s. IsThere which path (λ n. IsShort s n × P s n) (s.at p)) → IsTold n (MayRead old)
  opened_is_read old None n at unwritten same given = absurd given
  opened_is_read None (Some a) n at unwritten same given = subst (λ n. IsTold n (MayRead None)) (sym same) tt
  opened_is_read (Some x) (Some a) n at unwritten same given =
      subst (λ n. IsTold n (MayRead (Some x))) (sym same) (record {
        short = (there_opened which path (λ n. IsShort a.now n × P a.now n) (disk.number x.file) (subst (IsThere which path (λ n. IsShort a.now n × P a.now n)) at given)).0;
        same = some_so (disk.tells x.seen) (IsLookFor a.now (disk.number x.file)) (IsLookStill a.now (disk.number x.file)) (λ look is. (is.number, (is.version, is.rights))) unwritten;
      })

-- ---- a look

-- what could not be opened is missing, which only a journal may be, or memory ran out
pub look_failed : (which : Which) (path : List ℕ) (R : State → Type 0) (P : State → ℕ → Type 0) (p : List ℕ) (o : Option Story) (M N : Type 0)
    → IsTold o (λ s. R s × IsThere which path (P s) (s.at p)) → (IsTold o R → M ⊎ N) → (N → Told o (λ s. s.at p ≡ None)) → (which ≡ Journal → path ≢ [] → N → ⊥) → M
look_failed which path R P p None M N given failed missing taken = absurd given
look_failed Base path R P p (Some a) M N given failed missing taken =
    elim (failed given.0) [
      | inl memory ↦ memory
      | inr gone ↦ absurd (subst (λ found. IsSomeAnd found (P a.now)) (missing gone) given.1)
    ]
look_failed Journal path R P p (Some a) M N given failed missing taken =
    elim (failed given.0) [
      | inl memory ↦ memory
      | inr gone ↦ absurd (taken refl (subst (IsThere Journal path (P a.now)) (missing gone) given.1) gone)
    ]

module _ {X D F S : Type 0} (text : X → List ℕ) (disk : Disk D F S) (seen : Option (Option Look)) (journal : List ℕ) where
  -- what `look_at` asks of what stands there
  abbrev IsLooked : Which → Option X → State → ℕ → Type 0
  IsLooked which file s n = IsShort s n × (which ≡ Journal → IsOwnJournal (option_map (λ x. s.at (disk.leads (text x))) file) n)

  abbrev CanLook : Type 0 → Which → Option X → List ℕ → State → Type 0
  CanLook only which file path s = (only → IsRegularAt disk path s) × IsThere which path (IsLooked which file s) (s.at (disk.leads path))

  own : (file : Option X) (s : State) (n : ℕ) → IfSome (option_map text file) (λ p. IsSomeAnd (s.at (disk.leads p)) (λ m. m ≢ n)) → IsOwnJournal (option_map (λ x. s.at (disk.leads (text x))) file) n
  own None s n apart = tt
  own (Some x) s n apart = apart

  own_there : (file : Option X) (s : State) (p : List ℕ) (found : Option ℕ) → IsThere Journal p (CanBeRead disk s) found
      → IfSome found (λ n. IfSome (option_map text file) (λ p. IsSomeAnd (s.at (disk.leads p)) (λ m. m ≢ n))) → IsThere Journal p (IsLooked Journal file s) found
  own_there file s p None there apart = there
  own_there file s p (Some n) there apart = (there.0, λ _. own file s n apart)

  regular_there : (which : Which) (s : State) (p : List ℕ) (found : Option ℕ) → IsThere which p (CanBeRead disk s) found → IfSome found (λ n. disk.regular n ≡ true)
  regular_there Base s p None there = absurd there
  regular_there Base s p (Some n) there = there.1
  regular_there Journal s p None there = tt
  regular_there Journal s p (Some n) there = there.1

  looked : (which : Which) (file : Option X) (s : State) → IsReadable disk Looks (option_map text file) journal seen which s
      → IsThere which (path_of (option_map text file) journal which) (IsLooked which file s) (s.at (disk.leads (path_of (option_map text file) journal which)))
  looked Base file s may = some_so _ _ (IsLooked Base file s) (λ n is. (is.0, λ never. cc)) may.there
  looked Journal file s may = own_there file s _ _ may.there (may.apart refl refl)

  pub readable_looked : (only : Type 0) (which : Which) (file : Option X) (path : List ℕ) (access : Access) (o : Option Story) → path ≡ path_of (option_map text file) journal which
      → access ≡ Looks → IsTold o (IsReadable disk access (option_map text file) journal seen which) → IsTold o (CanLook only which file path)
  readable_looked only which file path access o is looks given =
      subst (λ path. IsTold o (CanLook only which file path)) (sym is)
      (still_so _ _ o (λ s may. (λ _. regular_there which s _ _ may.there, looked which file s may))
      (subst (λ access. IsTold o (IsReadable disk access (option_map text file) journal seen which)) looks given))

  -- what stands there can be locked too
  abbrev CanLock : Which → List ℕ → State → Type 0
  CanLock which path s = IsThere which path (λ n. IsShort s n × IsLockable disk path (other_for which seen) s n) (s.at (disk.leads path))

  lockable : (which : Which) (path : List ℕ) (s : State) (found : Option ℕ) → IsThere which path (CanBeRead disk s) found
      → IfSome found (λ n. IsUnlocked (other_for which seen) s n × IsSome (end_of disk.link 40 path)) → IsThere which path (λ n. IsShort s n × IsLockable disk path (other_for which seen) s n) found
  lockable Base path s None there free = absurd there
  lockable Base path s (Some n) there free = (there.0, record { few_links = free.1; is_regular = there.1; unlocked = free.0 })
  lockable Journal path s None there free = there
  lockable Journal path s (Some n) there free = (there.0, record { few_links = free.1; is_regular = there.1; unlocked = free.0 })

  pub readable_locked : (which : Which) (file : Option X) (path : List ℕ) (access : Access) (o : Option Story) → path ≡ path_of (option_map text file) journal which
      → access ≡ Changes → IsTold o (IsReadable disk access (option_map text file) journal seen which) → IsTold o (CanLock which path)
  readable_locked which file path access o is changes given =
      subst (λ path. IsTold o (CanLock which path)) (sym is)
      (still_so _ _ o (λ s may. lockable which _ s _ may.there (may.free refl)) (subst (λ access. IsTold o (IsReadable disk access (option_map text file) journal seen which)) changes given))

-- ---- a call of the home

pub seen_file : {X : Type 0} (knows : X → Known) (x : Option X) → option_and_then (λ known. known.look) (option_map knows x) ≡ option_and_then (λ x. (knows x).look) x
seen_file knows None = refl
seen_file knows (Some x) = refl

pub noted_memory : (failure : Option Failure) (one : Failure) → failure ≡ Some one → FailedForMemory one → IsSomeAnd failure FailedForMemory
noted_memory failure one is memory = subst (λ f. IsSomeAnd f FailedForMemory) (sym is) memory

pub read_excused : {R D F S : Type 0} (disk : Disk D F S) (old new : DiskHome R D F S) (which : Which) (fault : Fault) → fault ≡ StoreFailed → (disk.works old.disk → disk.works new.disk)
    → (disk.works old.disk → IsTold (disk.story old.disk) (HadAll disk (kept disk old) (unread which)) → IsSomeAnd new.failure FailedForMemory) → IsExcused disk old (read_call which (Err fault)) new
read_excused disk old new which fault is works_still memory =
    subst (λ fault. IsExcused disk old (read_call which (Err fault)) new) (sym is) (record { works_still = works_still; for_memory = memory })

-- what a put needs, by the files that were read
both_known : {X : Type 0} (knows : X → Known) (x y : Option X) (Q : Known → Known → Type 0) → IsSomeAnd (option_map knows x) (λ file. IsSomeAnd (option_map knows y) (λ journal. Q file journal))
    → IsSomeAnd x (λ x. IsSomeAnd y (λ y. Q (knows x) (knows y)))
both_known knows None y Q is = is
both_known knows (Some a) None Q is = is
both_known knows (Some a) (Some b) Q is = is

all_short : (journal : List ℕ) (file : Option (List ℕ)) → AllByRecursion (λ write. length write.bytes ≤ 1_073_741_824) (writes_by journal file)
    → (length journal ≤ 1_073_741_824) × IfSome file (λ bytes. length bytes ≤ 1_073_741_824)
all_short journal None all = (all.0, tt)
all_short journal (Some bytes) all = (all.0, all.1.0)

pub of_both : {X : Type 0} (x y : Option X) (a b : X) (L M : Type 0) (Q : X → X → State → Type 0) (o : Option Story) → x ≡ Some a → y ≡ Some b
    → IsTold o (λ s. L × M × IsSomeAnd x (λ x. IsSomeAnd y (λ y. Q x y s))) → IsTold o (λ s. M × Q a b s)
of_both x y a b L M Q o at_x at_y =
    still_so (λ s. L × M × IsSomeAnd x (λ x. IsSomeAnd y (λ y. Q x y s))) (λ s. M × Q a b s) o
    (λ s can. (can.1, some_known y b (λ y. Q a y s) at_y (some_known x a (λ x. IsSomeAnd y (λ y. Q x y s)) at_x can.2)))

module _ {R D F S : Type 0} (disk : Disk D F S) (home : DiskHome R D F S) (journal : List ℕ) (file : Option (List ℕ)) where
  abbrev pub PutNeeds : List ℕ → List ℕ → State → Type 0
  PutNeeds given_file given_journal s = (length journal ≤ 1_073_741_824) × IfSome file (λ bytes. length bytes ≤ 1_073_741_824)
      × IsSomeAnd home.both.file (λ x. IsSomeAnd home.both.journal (λ y. CanPrepare disk given_file given_journal (known disk x) (known disk y) s))

  pub put_needs : (given_file given_journal : List ℕ) (o : Option Story) → given_file ≡ path_of (kept disk home).file (kept disk home).journal Base → given_journal ≡ (kept disk home).journal
      → IsTold o (CanPut disk (kept disk home) (writes_by journal file)) → IsTold o (PutNeeds given_file given_journal)
  put_needs given_file given_journal o of_file of_journal given =
      let file_path = path_of (kept disk home).file (kept disk home).journal Base in
      subst (λ f. IsTold o (PutNeeds f given_journal)) (sym of_file) (subst (λ j. IsTold o (PutNeeds file_path j)) (sym of_journal)
      (still_so (CanPut disk (kept disk home) (writes_by journal file)) (PutNeeds file_path (kept disk home).journal) o (λ s can.
      let short = all_short journal file can.short in
      (short.0, short.1, both_known (known disk) home.both.file home.both.journal (λ f j. CanPrepare disk file_path (kept disk home).journal f j s) can.begins)) given))
