-- What may stand together in the two folders after a stop or a crash: what a change leaves of it.
use Rattle.std.proofs.Common.{◌≡◌, ◌⊎◌, ◌∙◌, inl, inr, ℕ, Bool, true, false, List, ◌∷◌, Option, refl, sym, subst}
use Rattle.rec_disk.specs.Disk.{State}
use Rattle.rec_disk.specs.Lasting.{IsMoment}
use Rattle.rec_files.specs.OnDisk.{Sites}
use Rattle.rec_files.specs.proving.Recovering.{AreTogether, IsSyncedSince}
use Rattle.rec_files.proofs.lemmas.Moments.{moment_changed, moment_unmoved, on, same_or}

-- ---- one change was made, in one folder of two, or in the one

-- what stood in the other folder, where the change isn't seen
pub record IsBefore (crash : Bool) (s : State) (E : Type 0) (j : List ℕ → Option ℕ) (p q : List ℕ) (now : List ℕ → Option ℕ) : Type 0 where
  pub was : List ℕ → Option ℕ
  pub is : IsMoment crash s was
  pub one : E → now ≡ was
  pub at_p : j p ≡ was p
  pub at_q : j q ≡ was q

module _ (crash : Bool) (s u : State) (E : Type 0) (one_or : E ⊎ (E → ⊥)) (f j : List ℕ → Option ℕ) (p q : List ℕ) (later : u.olds ≡ s.at ∷ s.olds) (one : E → f ≡ j)
    (f_is : IsMoment crash u f) (j_is : IsMoment crash u j) (same_p : u.at p ≡ s.at p) (same_q : u.at q ≡ s.at q) where
  abbrev Before : (List ℕ → Option ℕ) → Type 0
  Before = IsBefore crash s E j p q

  apart_before : (now : List ℕ → Option ℕ) → (E → ⊥) → Before now
  apart_before now ne = elim (moment_changed crash s u j later j_is) [
    | inl new ↦ record { was = s.at; is = inl refl; one = λ e. absurd (ne e); at_p = on j u.at p new ∙ same_p; at_q = on j u.at q new ∙ same_q }
    | inr old ↦ record { was = j; is = old; one = λ e. absurd (ne e); at_p = refl; at_q = refl }
  ]

  pub before : (IsMoment crash s f × Before f) ⊎ ((f ≡ u.at) × Before s.at)
  before = elim (moment_changed crash s u f later f_is) [
    | inl new ↦ inr (
      new,
      elim one_or [
        | inl e ↦ let is = sym (one e) ∙ new in record { was = s.at; is = inl refl; one = λ e. refl; at_p = on j u.at p is ∙ same_p; at_q = on j u.at q is ∙ same_q }
        | inr ne ↦ apart_before s.at ne
      ],
    )
    | inr old ↦ inl (
      old,
      elim one_or [
        | inl e ↦ record { was = j; is = subst (IsMoment crash s) (one e) old; one = one; at_p = refl; at_q = refl }
        | inr ne ↦ apart_before f ne
      ],
    )
  ]

module _ (crash : Bool) (folder : List ℕ → List ℕ) (sites : Sites) where
  abbrev So : State → (List ℕ → Option ℕ) → (List ℕ → Option ℕ) → Type 0
  So = AreTogether crash folder sites

  pub together_unmoved : (s u : State) (f j : List ℕ → Option ℕ) → u.at ≡ s.at → u.olds ≡ s.olds → So u f j → So s f j
  together_unmoved s u f j at olds so = record {
    file = moment_unmoved crash s u f at olds so.file;
    journal = moment_unmoved crash s u j at olds so.journal;
    one = so.one;
  }

  -- ---- files and folders were synced

  pub record IsSince (s : State) (f j : List ℕ → Option ℕ) : Type 0 where
    pub f_was : List ℕ → Option ℕ
    pub j_was : List ℕ → Option ℕ
    pub so : So s f_was j_was
    pub file : f sites.file ≡ f_was sites.file
    pub new_file : f sites.new_file ≡ f_was sites.new_file
    pub journal : j sites.journal ≡ j_was sites.journal
    pub new_journal : j sites.new_journal ≡ j_was sites.new_journal

  pub only_now : (s u : State) (m : List ℕ → Option ℕ) → u.at ≡ s.at → IsMoment false u m → m ≡ s.at
  only_now s u m at (inl is) = is ∙ at
  only_now s u m at (inr none) = absurd none

  stopped : (s u : State) (f j : List ℕ → Option ℕ) → u.at ≡ s.at → crash ≡ false → So u f j → IsSince s f j
  stopped s u f j at stop so =
      let was : (m : List ℕ → Option ℕ) → IsMoment crash u m → IsMoment crash s m = λ m is. inl (only_now s u m at (subst (λ c. IsMoment c u m) stop is)) in
      record {
        f_was = f;
        j_was = j;
        so = record { file = was f so.file; journal = was j so.journal; one = so.one };
        file = refl;
        new_file = refl;
        journal = refl;
        new_journal = refl;
      }

  -- the working names stand in the folders of their files, where a crash is spoken of
  module _ (beside : crash ≡ true → (folder sites.new_file ≡ folder sites.file) × (folder sites.new_journal ≡ folder sites.journal)) where
    crashed : (s u : State) (f j : List ℕ → Option ℕ) → IsSyncedSince folder s u → crash ≡ true → So u f j → IsSince s f j
    crashed s u f j since crashes so =
        let (ends_f, ends_j) = beside crashes in
        let to : (s : State) (m : List ℕ → Option ℕ) → IsMoment crash s m → IsMoment true s m = λ s m is. subst (λ c. IsMoment c s m) crashes is in
        let back : (m : List ℕ → Option ℕ) → IsMoment true s m → IsMoment crash s m = λ m is. subst (λ c. IsMoment c s m) (sym crashes) is in
        let of_f = since.moments f (to u f so.file) (folder sites.file) in
        let of_j = since.moments j (to u j so.journal) (folder sites.journal) in
        elim (same_or (folder sites.file) (folder sites.journal)) [
          | inl e ↦ record {
            f_was = of_f.0;
            j_was = of_f.0;
            so = record { file = back of_f.0 of_f.1; journal = back of_f.0 of_f.1; one = λ e. refl };
            file = of_f.2 sites.file refl;
            new_file = of_f.2 sites.new_file ends_f;
            journal = on j f sites.journal (sym (so.one e)) ∙ of_f.2 sites.journal (sym e);
            new_journal = on j f sites.new_journal (sym (so.one e)) ∙ of_f.2 sites.new_journal (ends_j ∙ sym e);
          }
          | inr ne ↦ record {
            f_was = of_f.0;
            j_was = of_j.0;
            so = record { file = back of_f.0 of_f.1; journal = back of_j.0 of_j.1; one = λ e. absurd (ne e) };
            file = of_f.2 sites.file refl;
            new_file = of_f.2 sites.new_file ends_f;
            journal = of_j.2 sites.journal refl;
            new_journal = of_j.2 sites.new_journal ends_j;
          }
        ]

    pub together_since : (s u : State) (f j : List ℕ → Option ℕ) → IsSyncedSince folder s u → So u f j → IsSince s f j
    together_since s u f j since so = elim crash as (λ c. crash ≡ c → IsSince s f j) [
      | true ↦ λ is. crashed s u f j since is so
      | false ↦ λ is. stopped s u f j since.at is so
    ] refl
