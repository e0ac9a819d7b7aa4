-- The rights of what stands at the four places.
use Rattle.std.proofs.Common.{◌≡◌, ◌≢◌, ◌∙◌, inl, inr, ℕ, Bool, true, false, List, [], Option, Some, None, IfSome, refl, sym, ap, subst}
use Rattle.std.specs.Prelude.{option_map}
use Rattle.rec_disk.specs.Disk.{State, made, put, removed, renamed}
use Rattle.rec_disk.specs.declared.log.Rights.{Rights}
use Rattle.rec_disk.specs.Rights.{narrow, own_mode}
use Rattle.rec_disk.specs.Lasting.{Spares}
use Rattle.rec_disk.proofs.lemmas.Points.{set_same, put_same, put_other}
use Rattle.rec_files.specs.OnDisk.{Sites, rights_at, AreLetOf, FileGets, JournalGets, IsNewAt, IsEmptyOr, GivesRights}
use Rattle.rec_files.specs.proving.Replacing.{IsPlacing}
use Rattle.rec_files.proofs.lemmas.Steps.{some_none}

-- what stands at a place stood there before, as it was
abbrev pub IsOldAt : List ℕ → State → State → Type 0
IsOldAt p s u = (n : ℕ) → u.at p ≡ Some n → (s.at p ≡ Some n) × ((u.rights n ≡ s.rights n) × (u.bytes n ≡ s.bytes n))

-- this holds still of a file that has the rights and the bytes that it had
pub stays_so : (N : Rights → List ℕ → Type 0) (s u : State) (n : ℕ) → (u.rights n ≡ s.rights n) × (u.bytes n ≡ s.bytes n) → N (s.rights n) (s.bytes n) → N (u.rights n) (u.bytes n)
stays_so N s u n same is = subst (λ r. N r (u.bytes n)) (sym same.0) (subst (N (s.rights n)) (sym same.1) is)

module _ (p : List ℕ) where
  pub spared_old : (s u : State) → Spares p s u → IsOldAt p s u
  spared_old s u spares n at = let may = inl (sym at) in (sym spares.at ∙ at, (spares.rights n may, spares.bytes n may))

  pub old_then : (s t u : State) → IsOldAt p s t → IsOldAt p t u → IsOldAt p s u
  old_then s t u first rest n at =
      let then = rest n at in let was = first n then.0 in (was.0, (then.1.0 ∙ was.1.0, then.1.1 ∙ was.1.1))

  pub old_removed : (s t u : State) → u ≡ removed t p → IsOldAt p s u
  old_removed s t u is n at = absurd (some_none n (sym at ∙ ap (λ (u : State). u.at p) is ∙ put_same t.at p p None refl))

  module _ (N : Rights → List ℕ → Type 0) where
    pub old_new : (s u : State) → IsOldAt p s u → IsNewAt p N s u
    old_new s u old n at = let was = old n at in inl (was.0, was.1.0)

    pub new_then : (s t u : State) → IsNewAt p N s t → IsOldAt p t u → IsNewAt p N s u
    new_then s t u new rest n at =
        let then = rest n at in
        elim (new n then.0) [
          | inl was ↦ inl (was.0, then.1.0 ∙ was.1)
          | inr is ↦ inr (stays_so N t u n then.1 is)
        ]

    pub new_since : (M : Rights → List ℕ → Type 0) → ((r : Rights) (b : List ℕ) → M r b → N r b) → (s t u : State) → IsOldAt p s t → IsNewAt p M t u → IsNewAt p N s u
    new_since M so s t u old new n at = elim (new n at) [
      | inl same ↦ let was = old n same.0 in inl (was.0, same.1 ∙ was.1.0)
      | inr is ↦ inr (so (u.rights n) (u.bytes n) is)
    ]

    -- by what stands there
    pub new_there : (s u : State) (m : Option ℕ) → u.at p ≡ m → IfSome m (λ n. N (u.rights n) (u.bytes n)) → IsNewAt p N s u
    new_there s u m at is n stands = inr (subst (λ m. IfSome m (λ n. N (u.rights n) (u.bytes n))) (sym at ∙ stands) is)

-- ---- the rights that were there

mapped : (f g : ℕ → Rights) (x : Option ℕ) → ((n : ℕ) → x ≡ Some n → g n ≡ f n) → option_map g x ≡ option_map f x
mapped f g None same = refl
mapped f g (Some n) same = ap Some (same n refl)

pub rights_still : (p : List ℕ) (s t : State) → Spares p s t → rights_at t p ≡ rights_at s p
rights_still p s t spares = mapped s.rights t.rights (t.at p) (λ n at. spares.rights n (inl (sym at))) ∙ ap (option_map s.rights) spares.at

module _ (sites : Sites) (s t : State) (file : Spares sites.file s t) (journal : Spares sites.journal s t) where
  pub file_gets : (r : Rights) → FileGets sites t r → FileGets sites s r
  file_gets r gets = subst (λ w. AreLetOf s.lets w r) (rights_still sites.file s t file) (subst (λ l. AreLetOf l (rights_at t sites.file) r) file.lets gets)

  pub journal_gets : (r : Rights) → JournalGets sites t r → JournalGets sites s r
  journal_gets r gets =
      let of : Option Rights → Option Rights → Option Rights = λ older file. option_map (λ model. narrow model older) file in
      subst (λ w. AreLetOf s.lets (of w (rights_at s sites.file)) r) (rights_still sites.journal s t journal)
      (subst (λ w. AreLetOf s.lets (of (rights_at t sites.journal) w) r) (rights_still sites.file s t file)
      (subst (λ l. AreLetOf l (of (rights_at t sites.journal) (rights_at t sites.file)) r) file.lets gets))

  empty_or : (G H : Rights → Type 0) → ((r : Rights) → G r → H r) → (r : Rights) (b : List ℕ) → IsEmptyOr G r b → IsEmptyOr H r b
  empty_or G H so r b (inl empty) = inl empty
  empty_or G H so r b (inr gets) = inr (so r gets)

  module _ (new_file : IsOldAt sites.new_file s t) (new_journal : IsOldAt sites.new_journal s t) where
    -- what comes after a state in which nothing new stands
    pub gives_since : (u : State) → GivesRights sites t u → GivesRights sites s u
    gives_since u is = record {
      file = new_since sites.file (λ r b. FileGets sites s r) (λ r b. FileGets sites t r) (λ r b. file_gets r) s t u (spared_old sites.file s t file) is.file;
      journal = new_since sites.journal (λ r b. JournalGets sites s r) (λ r b. JournalGets sites t r) (λ r b. journal_gets r) s t u (spared_old sites.journal s t journal) is.journal;
      new_file = new_since sites.new_file (IsEmptyOr (FileGets sites s)) (IsEmptyOr (FileGets sites t)) (empty_or (FileGets sites t) (FileGets sites s) file_gets) s t u new_file is.new_file;
      new_journal = new_since sites.new_journal (IsEmptyOr (JournalGets sites s)) (IsEmptyOr (JournalGets sites t)) (empty_or (JournalGets sites t) (JournalGets sites s) journal_gets) s t u
          new_journal is.new_journal;
    }

    -- or nothing new came since
    pub gives_then : (r : State) → GivesRights sites r s → GivesRights sites r t
    gives_then r is = record {
      file = new_then sites.file (λ rights b. FileGets sites r rights) r s t is.file (spared_old sites.file s t file);
      journal = new_then sites.journal (λ rights b. JournalGets sites r rights) r s t is.journal (spared_old sites.journal s t journal);
      new_file = new_then sites.new_file (IsEmptyOr (FileGets sites r)) r s t is.new_file new_file;
      new_journal = new_then sites.new_journal (IsEmptyOr (JournalGets sites r)) r s t is.new_journal new_journal;
    }

pub gives_first : (sites : Sites) (s : State) → GivesRights sites s s
gives_first sites s = record { file = λ n at. inl (at, refl); journal = λ n at. inl (at, refl); new_file = λ n at. inl (at, refl); new_journal = λ n at. inl (at, refl) }

-- ---- what was made

-- it has its rights, or is empty and its owner's alone
abbrev pub Has : Bool → (Rights → Type 0) → Rights → List ℕ → Type 0
Has true Gets rights bytes = Gets rights
Has false Gets rights bytes = (rights.mode ≡ own_mode) × (bytes ≡ [])

pub has_so : (given : Bool) (Gets : Rights → Type 0) (rights : Rights) (bytes : List ℕ) → Has given Gets rights bytes → IsEmptyOr Gets rights bytes
has_so true Gets rights bytes gets = inr gets
has_so false Gets rights bytes empty = inl empty

pub has_none : (Gets : Rights → Type 0) (s t : State) (p : List ℕ) (n : ℕ) → t ≡ made s p n → Has false Gets (t.rights n) (t.bytes n)
has_none Gets s t p n is = subst (λ (t : State). Has false Gets (t.rights n) (t.bytes n)) (sym is)
    (ap (λ (r : Rights). r.mode) (set_same s.rights n n (record (s.rights n) { mode = own_mode }) refl), set_same s.bytes n n [] refl)

-- ---- it is put in place

module _ (folder : List ℕ → List ℕ) (w q : List ℕ) (N : Rights → List ℕ → Type 0) (s r : State) where
  pub placing_new : (u : State) (m : Option ℕ) → IsPlacing folder w q r u → IsNewAt q N s r → r.at w ≡ m → IfSome m (λ n. N (r.rights n) (r.bytes n)) → IsNewAt q N s u
  placing_new u m placing was at is =
      let there : IsNewAt q N s (renamed r w q) = new_there q N s (renamed r w q) m (put_same (put r.at w None) q q (r.at w) refl ∙ at) is in
      elim placing [
        | inl still ↦ subst (IsNewAt q N s) (sym still) was
        | inr moved ↦ elim moved [
          | inl moved ↦ subst (IsNewAt q N s) (sym moved) there
          | inr moved ↦ subst (IsNewAt q N s) (sym moved) there
        ]
      ]

  pub placing_old : (u : State) → w ≢ q → IsPlacing folder w q r u → IsNewAt w N s r → IsNewAt w N s u
  placing_old u ne placing was =
      let gone : IsNewAt w N s (renamed r w q) = λ n at. absurd (some_none n (sym at ∙ put_other (put r.at w None) q w (r.at w) ne ∙ put_same r.at w w None refl)) in
      elim placing [
        | inl still ↦ subst (IsNewAt w N s) (sym still) was
        | inr moved ↦ elim moved [
          | inl moved ↦ subst (IsNewAt w N s) (sym moved) gone
          | inr moved ↦ subst (IsNewAt w N s) (sym moved) gone
        ]
      ]
