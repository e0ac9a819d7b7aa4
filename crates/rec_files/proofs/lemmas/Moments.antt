-- What may stand at a place, and what a file may hold, after a stop or a crash: what a change leaves of it.
use Rattle.std.proofs.Common.{◌≡◌, ◌≢◌, ◌⊎◌, ◌∙◌, inl, inr, refl, sym, ap, subst, arith, ℕ, zero, suc, ◌+◌, ◌≤◌, Bool, true, false}
use Rattle.std.proofs.Common.{List, [], ◌∷◌, ◌++◌, map, length, take, drop, append_assoc, take-append-drop, length-take, Option, Some, None, IfSome}
use Rattle.std.specs.Prelude.{bytes_eq}
use Rattle.std.proofs.lemmas.Bool.{false≢true, cond-true, cond-false}
use Rattle.std.proofs.lemmas.List.{take-append-le}
use Rattle.std.proofs.Math.Seq.{take-append-add}
use Rattle.std.proofs.lemmas.Slice.Eq.{bytes_eq-Decides}
use Rattle.rec_disk.specs.Disk.{State, IsFresh, made, synced, removed, kept_in, folder_synced}
use Rattle.rec_disk.specs.Lasting.{SomeOf, lost, kept, IsMoment, IsPart, MayHold, MayStand, Spares}
use Rattle.rec_disk.proofs.lemmas.Points.{set_same, set_other, put_same, eq_bytes, ne_bytes}
use Rattle.rec_disk.proofs.lemmas.Places.{by_crash, may_before, may_synced, fresh_avoids}
use Rattle.rec_files.specs.Leftovers.{BeginsAsJournal, IsLeftJournal}
use Rattle.rec_files.specs.OnDisk.{Sites}
use Rattle.rec_files.specs.proving.Replacing.{IsSyncing}
use Rattle.rec_files.specs.proving.Recovering.{IsMaking, IsWriting, IsSyncedSince, IsSyncedIn, IsFine, HasLeftJournal, IsAlone}

-- ---- a journal that is cut off

le_or : (k n : ℕ) → (k ≤ n) ⊎ ((m : ℕ) × (k ≡ n + m))
le_or zero n = inl (omega arith)
le_or (suc k) zero = inr (suc k, omega arith)
le_or (suc k) (suc n) = elim (le_or k n) [
  | inl below ↦ inl (omega (arith, below))
  | inr (m, is) ↦ inr (m, omega (arith, is))
]

begins-take : (text : List ℕ) (k : ℕ) → BeginsAsJournal text → BeginsAsJournal (take k text)
begins-take text k (header, rest, is, inr part) =
    (header, drop k text ++ rest, is, inr (part ∙ ap (λ l. l ++ rest) (sym (take-append-drop k text)) ∙ append_assoc (take k text) (drop k text) rest))
begins-take text k (header, rest, is, inl whole) = elim (le_or k (length header)) [
  | inl short ↦ (header, drop k header, is, inr (sym (take-append-drop k header) ∙ ap (λ l. l ++ drop k header) (sym (take-append-le k header rest short) ∙ ap (take k) (sym whole))))
  | inr (more, long) ↦ (header, take more rest, is, inl (ap (take k) whole ∙ ap (λ n. take n (header ++ rest)) long ∙ take-append-add header rest more))
]

left_empty : IsLeftJournal []
left_empty = inr (refl, omega arith)

part_left : (bytes : List ℕ) (k : ℕ) (part : List ℕ) → BeginsAsJournal bytes → length bytes ≤ 1_073_741_824 → IsPart (take k bytes) part → IsLeftJournal part
part_left bytes k part begins short (inl (i, is)) = subst IsLeftJournal (sym is) (inl (begins-take (take k bytes) i (begins-take bytes k begins)))
part_left bytes k part begins short (inr (zeros, fit)) = inr (zeros, omega (arith, short, fit, length-take k bytes))

-- ---- choices

pub same_or : (a b : List ℕ) → (a ≡ b) ⊎ (a ≢ b)
same_or a b = elim (bytes_eq a b) as (λ t. bytes_eq a b ≡ t → (a ≡ b) ⊎ (a ≢ b)) [
  | true ↦ λ is. inl ((bytes_eq-Decides a b).0 is)
  | false ↦ λ is. inr (λ e. false≢true (sym is ∙ (bytes_eq-Decides a b).1 e))
] refl

pub eq_or : (m n : ℕ) → (m ≡ n) ⊎ (m ≢ n)
eq_or zero zero = inl refl
eq_or zero (suc n) = inr (λ e. omega (arith, e))
eq_or (suc m) zero = inr (λ e. omega (arith, e))
eq_or (suc m) (suc n) = elim (eq_or m n) [
  | inl e ↦ inl (ap suc e)
  | inr ne ↦ inr (λ e. ne (omega (arith, e)))
]

pub if_some : (P Q : ℕ → Type 0) (x : Option ℕ) → ((n : ℕ) → P n → Q n) → IfSome x P → IfSome x Q
if_some P Q None so is = tt
if_some P Q (Some n) so is = so n is

pub none_there : (P : ℕ → Type 0) (x : Option ℕ) → x ≡ None → IfSome x P
none_there P x is = subst (λ x. IfSome x P) (sym is) tt

-- ---- moments

pub on : (m at : List ℕ → Option ℕ) (p : List ℕ) → m ≡ at → m p ≡ at p
on m at p is = ap (λ (m : List ℕ → Option ℕ). m p) is

some_at : (m : List ℕ → Option ℕ) (p : List ℕ) (olds : List (List ℕ → Option ℕ)) → SomeOf (λ old. m ≡ old) olds → SomeOf (λ old. m p ≡ old p) olds
some_at m p [] some = some
some_at m p (old ∷ olds) (inl is) = inl (ap (λ (at : List ℕ → Option ℕ). at p) is)
some_at m p (old ∷ olds) (inr later) = inr (some_at m p olds later)

old_at : (p : List ℕ) (x : Option ℕ) (olds : List (List ℕ → Option ℕ)) → SomeOf (λ old. x ≡ old p) olds → (m : List ℕ → Option ℕ) × SomeOf (λ old. m ≡ old) olds × (x ≡ m p)
old_at p x [] some = absurd some
old_at p x (old ∷ olds) (inl is) = (old, inl refl, is)
old_at p x (old ∷ olds) (inr later) = let found = old_at p x olds later in (found.0, inr found.1, found.2)

pub moment_may : (crash : Bool) (s : State) (m : List ℕ → Option ℕ) (p : List ℕ) → IsMoment crash s m → MayStand crash s p (m p)
moment_may crash s m p (inl is) = inl (ap (λ (at : List ℕ → Option ℕ). at p) is)
moment_may crash s m p (inr some) = inr (some_at m p (lost crash s) some)

pub may_moment : (crash : Bool) (s : State) (p : List ℕ) (x : Option ℕ) → MayStand crash s p x → (m : List ℕ → Option ℕ) × IsMoment crash s m × (x ≡ m p)
may_moment crash s p x (inl is) = (s.at, inl refl, is)
may_moment crash s p x (inr some) = let found = old_at p x (lost crash s) some in (found.0, inr found.1, found.2)

-- where one thing was changed
pub moment_changed : (crash : Bool) (s u : State) (m : List ℕ → Option ℕ) → u.olds ≡ s.at ∷ s.olds → IsMoment crash u m → (m ≡ u.at) ⊎ IsMoment crash s m
moment_changed crash s u m later (inl is) = inl is
moment_changed true s u m later (inr some) = inr (subst (SomeOf (λ old. m ≡ old)) later some)
moment_changed false s u m later (inr none) = absurd none

pub may_changed : (crash : Bool) (s u : State) (p : List ℕ) (x : Option ℕ) → u.olds ≡ s.at ∷ s.olds → MayStand crash u p x → (x ≡ u.at p) ⊎ MayStand crash s p x
may_changed crash s u p x later (inl is) = inl is
may_changed true s u p x later (inr some) = inr (subst (SomeOf (λ old. x ≡ old p)) later some)
may_changed false s u p x later (inr none) = absurd none

-- where nothing was moved
pub moment_unmoved : (crash : Bool) (s u : State) (m : List ℕ → Option ℕ) → u.at ≡ s.at → u.olds ≡ s.olds → IsMoment crash u m → IsMoment crash s m
moment_unmoved crash s u m at olds (inl is) = inl (is ∙ at)
moment_unmoved true s u m at olds (inr some) = inr (subst (SomeOf (λ old. m ≡ old)) olds some)
moment_unmoved false s u m at olds (inr none) = absurd none

at_on : (s u : State) (p : List ℕ) → u.at ≡ s.at → u.at p ≡ s.at p
at_on s u p same = ap (λ (at : List ℕ → Option ℕ). at p) same

pub held_on : (s u : State) (n : ℕ) → u.held ≡ s.held → u.held n ≡ s.held n
held_on s u n same = ap (λ (held : ℕ → Bool). held n) same

pub bytes_on : (s u : State) (n : ℕ) → u.bytes ≡ s.bytes → u.bytes n ≡ s.bytes n
bytes_on s u n same = ap (λ (bytes : ℕ → List ℕ). bytes n) same

pub may_unmoved : (crash : Bool) (s u : State) (p : List ℕ) (x : Option ℕ) → u.at ≡ s.at → u.olds ≡ s.olds → MayStand crash u p x → MayStand crash s p x
may_unmoved crash s u p x at olds (inl is) = inl (is ∙ at_on s u p at)
may_unmoved true s u p x at olds (inr some) = inr (subst (SomeOf (λ old. x ≡ old p)) olds some)
may_unmoved false s u p x at olds (inr none) = absurd none

-- ---- where only syncs came

module _ (folder : List ℕ → List ℕ) where
  pub synced_itself : (s : State) → IsSyncedSince folder s s
  synced_itself s = record { at = refl; held = refl; bytes = refl; safe = λ n is. is; moments = λ m is d. (m, is, λ p e. refl) }

  pub synced_then : (s t u : State) → IsSyncedSince folder s t → IsSyncedSince folder t u → IsSyncedSince folder s u
  synced_then s t u first rest = record {
    at = rest.at ∙ first.at;
    held = rest.held ∙ first.held;
    bytes = rest.bytes ∙ first.bytes;
    safe = λ n is. rest.safe n (first.safe n is);
    moments = λ m is d.
        let one = rest.moments m is d in
        let other = first.moments one.0 one.1 d in
        (other.0, other.1, λ p e. one.2 p e ∙ other.2 p e);
  }

  pub since-synced : (s : State) (n : ℕ) → IsSyncedSince folder s (synced s n)
  since-synced s n = record {
    at = refl;
    held = refl;
    bytes = refl;
    safe = λ m is. elim (eq_or m n) [
      | inl e ↦ set_same s.safe n m true e
      | inr ne ↦ set_other s.safe n m true ne ∙ is
    ];
    moments = λ m is d. (m, is, λ p e. refl);
  }

  synced_old : (s : State) (d e : List ℕ) (m : List ℕ → Option ℕ) (olds : List (List ℕ → Option ℕ)) → SomeOf (λ old. m ≡ old) (map (kept_in folder s d) olds)
      → (was : List ℕ → Option ℕ) × ((was ≡ s.at) ⊎ SomeOf (λ old. was ≡ old) olds) × ((p : List ℕ) → folder p ≡ e → m p ≡ was p)
  synced_old s d e m [] some = absurd some
  synced_old s d e m (old ∷ olds) (inr later) = let found = synced_old s d e m olds later in (
    found.0,
    elim found.1 [
      | inl is ↦ inl is
      | inr some ↦ inr (inr some)
    ],
    found.2,
  )
  synced_old s d e m (old ∷ olds) (inl is) = elim (same_or e d) [
    | inl same ↦ (s.at, inl refl, λ p at. ap (λ (m : List ℕ → Option ℕ). m p) is ∙ cond-true (bytes_eq (folder p) d) (s.at p) (old p) (eq_bytes (folder p) d (at ∙ same)))
    | inr ne ↦ (old, inr (inl refl), λ p at. ap (λ (m : List ℕ → Option ℕ). m p) is ∙ cond-false (bytes_eq (folder p) d) (s.at p) (old p) (ne_bytes (folder p) d (λ both. ne (sym at ∙ both))))
  ]

  pub since-folder_synced : (s : State) (d : List ℕ) → IsSyncedSince folder s (folder_synced folder s d)
  since-folder_synced s d = record {
    at = refl;
    held = refl;
    bytes = refl;
    safe = λ n is. is;
    moments = λ m is e. elim is [
      | inl now ↦ (m, inl now, λ p at. refl)
      | inr some ↦ synced_old s d e m s.olds some
    ];
  }

  pub since-syncing : (syncs : List ℕ → Bool) (d : List ℕ) (s u : State) → IsSyncing folder syncs d s u → IsSyncedSince folder s u
  since-syncing syncs d s u (inl is) = subst (IsSyncedSince folder s) (sym is) (since-folder_synced s d)
  since-syncing syncs d s u (inr (is, isnt)) = subst (IsSyncedSince folder s) (sym is) (synced_itself s)

  pub may_since : (crash : Bool) (s u : State) (p : List ℕ) (x : Option ℕ) → IsSyncedSince folder s u → MayStand crash u p x → MayStand crash s p x
  may_since false s u p x since (inl is) = inl (is ∙ at_on s u p since.at)
  may_since false s u p x since (inr none) = absurd none
  may_since true s u p x since may =
      let found = may_moment true u p x may in
      let was = since.moments found.0 found.1 (folder p) in
      subst (MayStand true s p) (sym (found.2 ∙ was.2 p refl)) (moment_may true s was.0 p was.1)

  -- ---- where a folder was synced

  pub in_synced : (crash : Bool) (syncs : List ℕ → Bool) (d : List ℕ) (s t : State) → (crash ≡ true → syncs d ≡ true) → IsSyncing folder syncs d s t → IsSyncedIn crash folder d t
  in_synced crash syncs d s t can (inl is) = λ p e x may.
      let there = subst (λ (t : State). MayStand crash t p x) (is ∙ ap (folder_synced folder s) (sym e)) may in
      may_synced folder s p crash x there ∙ sym (ap (λ (t : State). t.at p) is)
  in_synced true syncs d s t can (inr (is, isnt)) = absurd (false≢true (sym isnt ∙ can refl))
  in_synced false syncs d s t can (inr (is, isnt)) = λ p e x may. elim may [
    | inl now ↦ now
    | inr none ↦ absurd none
  ]

  pub in_still : (crash : Bool) (d : List ℕ) (s u : State) → IsSyncedSince folder s u → IsSyncedIn crash folder d s → IsSyncedIn crash folder d u
  in_still crash d s u since was p e x may = was p e x (may_since crash s u p x since may) ∙ sym (at_on s u p since.at)

-- ---- files

module _ (crash : Bool) where
  kept_so : (crash : Bool) (s u : State) (n : ℕ) → (s.safe n ≡ true → u.safe n ≡ true) → kept crash s n ≡ true → kept crash u n ≡ true
  kept_so true s u n so is = so is
  kept_so false s u n so is = refl

  pub kept_safe : (crash : Bool) (s : State) (n : ℕ) → s.safe n ≡ true → kept crash s n ≡ true
  kept_safe true s n safe = safe
  kept_safe false s n safe = refl

  pub hold_so : (s u : State) (n : ℕ) (bytes : List ℕ) → u.bytes n ≡ s.bytes n → (s.safe n ≡ true → u.safe n ≡ true) → MayHold crash u n bytes → MayHold crash s n bytes
  hold_so s u n bytes same safe hold = (subst (λ l. IsPart l bytes) same hold.0, λ is. hold.1 (kept_so crash s u n safe is) ∙ same)

  fine_so : (s u : State) (n : ℕ) → u.held n ≡ s.held n → u.bytes n ≡ s.bytes n → (s.safe n ≡ true → u.safe n ≡ true) → IsFine crash s n → IsFine crash u n
  fine_so s u n held same safe was = record { free = held ∙ was.free; is = λ bytes hold. was.is bytes (hold_so s u n bytes same safe hold) }

  -- ---- the new journal

  module _ (sites : Sites) where
    pub journal_spared : (s u : State) → HasLeftJournal crash sites s → Spares sites.new_journal s u → HasLeftJournal crash sites u
    journal_spared s u was same None may = tt
    journal_spared s u was same (Some n) may =
        let there = by_crash crash u sites.new_journal (Some n) may in
        fine_so s u n (same.held n there) (same.bytes n there) (same.safe n there) (was (Some n) (may_before crash sites.new_journal s u (Some n) same may))

    pub journal_since : (folder : List ℕ → List ℕ) (s u : State) → HasLeftJournal crash sites s → IsSyncedSince folder s u → HasLeftJournal crash sites u
    journal_since folder s u was since None may = tt
    journal_since folder s u was since (Some n) may =
        fine_so s u n (held_on s u n since.held) (bytes_on s u n since.bytes) (since.safe n) (was (Some n) (may_since folder crash s u sites.new_journal (Some n) since may))

    fine_made : (s : State) (n : ℕ) → IsFine crash (made s sites.new_journal n) n
    fine_made s n = record {
      free = set_same s.held n n false refl;
      is = λ bytes hold.
          subst IsLeftJournal (sym (hold.1 (kept_safe crash (made s sites.new_journal n) n (set_same s.safe n n true refl)) ∙ set_same s.bytes n n [] refl)) left_empty;
    }

    -- another file than the fresh one
    other_fresh : (s : State) (n m : ℕ) (p : List ℕ) → IsFresh s n → MayStand crash s p (Some m) → m ≢ n
    other_fresh s n m p fresh may e = fresh_avoids p s n fresh (subst (λ k. MayStand true s p (Some k)) e (by_crash crash s p (Some m) may))

    journal_made : (s : State) (n : ℕ) → HasLeftJournal crash sites s → IsFresh s n → HasLeftJournal crash sites (made s sites.new_journal n)
    journal_made s n was fresh None may = tt
    journal_made s n was fresh (Some m) may = elim (may_changed crash s (made s sites.new_journal n) sites.new_journal (Some m) refl may) [
      | inl new ↦ subst (λ x. IfSome x (IsFine crash (made s sites.new_journal n))) (sym (new ∙ put_same s.at sites.new_journal sites.new_journal (Some n) refl)) (fine_made s n)
      | inr old ↦
          let ne = other_fresh s n m sites.new_journal fresh old in
          fine_so s (made s sites.new_journal n) m (set_other s.held n m false ne) (set_other s.bytes n m [] ne) (λ is. set_other s.safe n m true ne ∙ is) (was (Some m) old)
    ]

    pub journal_removed : (s : State) → HasLeftJournal crash sites s → HasLeftJournal crash sites (removed s sites.new_journal)
    journal_removed s was x may = elim (may_changed crash s (removed s sites.new_journal) sites.new_journal x refl may) [
      | inl new ↦ none_there (IsFine crash (removed s sites.new_journal)) x (new ∙ put_same s.at sites.new_journal sites.new_journal None refl)
      | inr old ↦ if_some (IsFine crash s) (IsFine crash (removed s sites.new_journal)) x (λ n is. record { free = is.free; is = is.is }) (was x old)
    ]

    pub journal_written : (n : ℕ) (bytes : List ℕ) (s u : State) → BeginsAsJournal bytes → length bytes ≤ 1_073_741_824 → HasLeftJournal crash sites s → IsWriting n bytes s u
        → HasLeftJournal crash sites u
    journal_written n bytes s u begins short was writing None may = tt
    journal_written n bytes s u begins short was writing (Some m) may =
        let fine = was (Some m) (may_unmoved crash s u sites.new_journal (Some m) writing.at writing.olds may) in
        let free = held_on s u m writing.held in
        elim (eq_or m n) [
          | inr ne ↦ fine_so s u m free (writing.others m ne).0 (writing.others m ne).1 fine
          | inl e ↦ subst (IsFine crash u) (sym e) (elim writing.written [
            | inl same ↦ fine_so s u n (held_on s u n writing.held) same.0 same.1 (subst (IsFine crash s) e fine)
            | inr (k, part) ↦ record {
              free = held_on s u n writing.held ∙ (subst (IsFine crash s) e fine).free;
              is = λ text hold. part_left bytes k text begins short (subst (λ l. IsPart l text) part hold.0);
            }
          ])
        ]

    -- ---- with no new file beside it

    pub alone_spared : (s u : State) → IsAlone crash sites s → Spares sites.new_file s u → Spares sites.new_journal s u → IsAlone crash sites u
    alone_spared s u was same of_journal = record {
      journal = journal_spared s u was.journal of_journal;
      file = λ x may. was.file x (may_before crash sites.new_file s u x same may);
    }

    pub alone_making : (s u : State) → IsAlone crash sites s → Spares sites.new_file s u → IsMaking sites.new_journal s u → IsAlone crash sites u
    alone_making s u was same (inl is) = subst (IsAlone crash sites) (sym is) was
    alone_making s u was same (inr (n, fresh, is)) = record {
      journal = subst (HasLeftJournal crash sites) (sym is) (journal_made s n was.journal fresh);
      file = λ x may. was.file x (may_before crash sites.new_file s u x same may);
    }
