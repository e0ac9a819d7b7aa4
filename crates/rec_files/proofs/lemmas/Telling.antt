-- That what a stop or a crash may leave under the working names is told, after each of the steps.
use Rattle.std.proofs.Common.{◌≡◌, ◌≢◌, ◌⊎◌, ◌∙◌, inl, inr, ℕ, ◌≤◌, Bool, true, false, List, ◌∷◌, length, Option, Some, None, refl, sym, ap, subst, arith, take_all, IfSome, IsSomeAnd, if◌then◌else◌}
use Rattle.std.specs.Prelude.{IsSome, bytes_eq}
use Rattle.std.proofs.lemmas.Bool.{cond-true, cond-false, cond_both}
use Rattle.rec_disk.specs.Disk.{State, put, set, made, synced, renamed, removed}
use Rattle.rec_disk.specs.Lasting.{kept, IsMoment, MayHold, MayStand, LeavesInOrder, Spares}
use Rattle.rec_disk.specs.proving.Places.{IsSeen}
use Rattle.rec_disk.proofs.lemmas.Points.{set_same, set_other, put_same, put_other, eq_bytes, ne_bytes}
use Rattle.rec_disk.proofs.lemmas.Places.{may_before, spares-made, spares-removed, spares-renamed}
use Rattle.rec_files.specs.Leftovers.{BeginsAsJournal, IsLeftJournal, IsLeftText, IsStopBetween}
use Rattle.rec_files.specs.OnDisk.{Sites, AreTold}
use Rattle.rec_files.specs.Succeeding.{AreApart}
use Rattle.rec_files.specs.proving.Replacing.{BothWait, IsPlacing}
use Rattle.rec_files.specs.proving.Recovering.{IsMaking, IsRemoving, IsWriting, IsSyncedSince, IsSyncedIn, IsOwn, AreTogether}
use Rattle.rec_files.specs.proving.Recovering.{IsGone, JournalStands, IsFine, HasLeftJournal, IsAlone, IsBeside, CanTell, NextLasts}
use Rattle.rec_files.proofs.lemmas.Moments.{bytes_on, eq_or, held_on, hold_so, if_some, journal_removed, journal_since, journal_spared, journal_written, kept_safe}
use Rattle.rec_files.proofs.lemmas.Moments.{may_changed, may_moment, moment_may, may_since, may_unmoved, none_there, on, same_or, since-folder_synced}
use Rattle.rec_files.proofs.lemmas.Standing.{IsBefore, before, only_now, together_since, together_unmoved}

-- ---- what is told

-- by what stands at the four places
abbrev Text : (ℕ → Bool) → (ℕ → List ℕ) → Option ℕ → Option ℕ → Option ℕ → Option ℕ → Type 0
Text held bytes file new_file journal new_journal = IfSome new_file (λ n. (held n ≡ false) × (IsSome new_journal ⊎ IsLeftText bytes file n journal))

text_as : (held : ℕ → Bool) (bytes : ℕ → List ℕ) (file file_was new_file new_file_was journal journal_was new_journal new_journal_was : Option ℕ) → file ≡ file_was → new_file ≡ new_file_was
    → journal ≡ journal_was → new_journal ≡ new_journal_was → Text held bytes file_was new_file_was journal_was new_journal_was → Text held bytes file new_file journal new_journal
text_as held bytes file file_was new_file new_file_was journal journal_was new_journal new_journal_was a b c d text =
    subst (λ x. Text held bytes x new_file journal new_journal) (sym a)
    (subst (λ x. Text held bytes file_was x journal new_journal) (sym b)
    (subst (λ x. Text held bytes file_was new_file_was x new_journal) (sym c) (subst (λ x. Text held bytes file_was new_file_was journal_was x) (sym d) text)))

module _ (crash : Bool) (folder : List ℕ → List ℕ) (sites : Sites) where
  abbrev Moment : Type 0
  Moment = List ℕ → Option ℕ

  abbrev So : State → Moment → Moment → Type 0
  So = AreTogether crash folder sites

  abbrev Next : State → Moment → ℕ → Type 0
  Next s j n = (s.held n ≡ false) × IsSome (j sites.new_journal)

  abbrev TextAt : State → (ℕ → List ℕ) → Moment → Moment → ℕ → Type 0
  TextAt s bytes f j n = (s.held n ≡ false) × (IsSome (j sites.new_journal) ⊎ IsLeftText bytes (f sites.file) n (j sites.journal))

  abbrev E : Type 0
  E = folder sites.file ≡ folder sites.journal

  -- one change was made, at the file's places or at the journal's
  module _ (s u : State) (f j : Moment) (later : u.olds ≡ s.at ∷ s.olds) (so : So u f j) where
    abbrev AtFile : Moment → Type 0
    AtFile = IsBefore crash s E j sites.journal sites.new_journal

    abbrev AtJournal : Moment → Type 0
    AtJournal = IsBefore crash s E f sites.file sites.new_file

    at_file : u.at sites.journal ≡ s.at sites.journal → u.at sites.new_journal ≡ s.at sites.new_journal → (IsMoment crash s f × AtFile f) ⊎ ((f ≡ u.at) × AtFile s.at)
    at_file = before crash s u E (same_or (folder sites.file) (folder sites.journal)) f j sites.journal sites.new_journal later so.one so.file so.journal

    at_journal : u.at sites.file ≡ s.at sites.file → u.at sites.new_file ≡ s.at sites.new_file → (IsMoment crash s j × AtJournal j) ⊎ ((j ≡ u.at) × AtJournal s.at)
    at_journal = before crash s u E (same_or (folder sites.file) (folder sites.journal)) j f sites.file sites.new_file later (λ e. sym (so.one e)) so.journal so.file

    -- it could be told then
    module _ (held : ℕ → Bool) (bytes : ℕ → List ℕ) where
      abbrev Was : Type 0
      Was = (f j : Moment) → So s f j → IfSome (f sites.new_file) (λ n. (held n ≡ false) × (IsSome (j sites.new_journal) ⊎ IsLeftText bytes (f sites.file) n (j sites.journal)))

      was_at_file : Was → IsMoment crash s f → AtFile f → Text held bytes (f sites.file) (f sites.new_file) (j sites.journal) (j sites.new_journal)
      was_at_file was old b =
          text_as held bytes (f sites.file) (f sites.file) (f sites.new_file) (f sites.new_file) (j sites.journal) (b.was sites.journal) (j sites.new_journal) (b.was sites.new_journal) refl refl
          b.at_p b.at_q (was f b.was (record { file = old; journal = b.is; one = b.one }))

      was_at_journal : Was → IsMoment crash s j → AtJournal j → Text held bytes (f sites.file) (f sites.new_file) (j sites.journal) (j sites.new_journal)
      was_at_journal was old b =
          text_as held bytes (f sites.file) (b.was sites.file) (f sites.new_file) (b.was sites.new_file) (j sites.journal) (j sites.journal) (j sites.new_journal) (j sites.new_journal) b.at_p b.at_q
          refl refl (was b.was j (record { file = b.is; journal = old; one = λ e. sym (b.one e) }))

  pub beside_tell : (s : State) → IsBeside crash folder sites s → CanTell crash folder sites s
  beside_tell s is = record {
    journal = is.journal;
    file = λ f j so bytes holds. if_some (Next s j) (TextAt s bytes f j) (f sites.new_file) (λ n both. (both.0, inl both.1)) (is.file f j so);
  }

  pub alone_beside : (s : State) → IsAlone crash sites s → IsBeside crash folder sites s
  alone_beside s is = record {
    journal = is.journal;
    file = λ f j so. none_there (Next s j) (f sites.new_file) (is.file (f sites.new_file) (moment_may crash s f sites.new_file so.file));
  }

  pub alone_tell : (s : State) → IsAlone crash sites s → CanTell crash folder sites s
  alone_tell s is = beside_tell s (alone_beside s is)

  -- ---- both are made

  pub beside_making : (s u : State) → AreApart sites → IsAlone crash sites s → JournalStands crash folder sites s → Spares sites.new_journal s u → IsMaking sites.new_file s u
      → IsBeside crash folder sites u
  beside_making s u apart was there same (inl is) = subst (IsBeside crash folder sites) (sym is) (alone_beside s was)
  beside_making s u apart was there same (inr (n, fresh, is)) =
      let new = made s sites.new_file n in
      subst (IsBeside crash folder sites) (sym is) (record {
        journal = journal_spared crash sites s new was.journal (spares-made sites.new_journal s sites.new_file n apart.new_pair fresh);
        file = λ f j so. elim (at_file s new f j refl so (put_other s.at sites.new_file sites.journal (Some n) apart.journal_new_file)
            (put_other s.at sites.new_file sites.new_journal (Some n) apart.new_pair)) [
              | inl (old, b) ↦ none_there (Next new j) (f sites.new_file) (was.file (f sites.new_file) (moment_may crash s f sites.new_file old))
              | inr (now, b) ↦ subst (λ x. IfSome x (Next new j)) (sym (on f new.at sites.new_file now ∙ put_same s.at sites.new_file sites.new_file (Some n) refl)) (
                set_same s.held n n false refl,
                subst IsSome (sym b.at_q) (elim (same_or (folder sites.file) (folder sites.journal)) [
                  | inl e ↦ subst IsSome (on s.at b.was sites.new_journal (b.one e)) there.now
                  | inr ne ↦ there.left ne (b.was sites.new_journal) (moment_may crash s b.was sites.new_journal b.is)
                ]),
              )
            ];
      })

  -- ---- both are written

  beside_held : (s u : State) → IsBeside crash folder sites s → u.at ≡ s.at → u.olds ≡ s.olds → u.held ≡ s.held → HasLeftJournal crash sites u → IsBeside crash folder sites u
  beside_held s u was at olds held journal = record {
    journal = journal;
    file = λ f j so. if_some (Next s j) (Next u j) (f sites.new_file) (λ n both. (held_on s u n held ∙ both.0, both.1))
        (was.file f j (together_unmoved crash folder sites s u f j at olds so));
  }

  pub beside_journal_written : (n : ℕ) (bytes : List ℕ) (s u : State) → BeginsAsJournal bytes → length bytes ≤ 1_073_741_824 → IsBeside crash folder sites s → IsWriting n bytes s u
      → IsBeside crash folder sites u
  beside_journal_written n bytes s u begins short was writing =
      beside_held s u was writing.at writing.olds writing.held (journal_written crash sites n bytes s u begins short was.journal writing)

  pub beside_file_written : (m : ℕ) (bytes : List ℕ) (s u : State) → IsBeside crash folder sites s → Spares sites.new_journal s u → IsWriting m bytes s u → IsBeside crash folder sites u
  beside_file_written m bytes s u was same writing = beside_held s u was writing.at writing.olds writing.held (journal_spared crash sites s u was.journal same)

  -- ---- what is removed

  pub tell_removing_file : (s u : State) → AreApart sites → CanTell crash folder sites s → IsRemoving sites.new_file s u → CanTell crash folder sites u
  tell_removing_file s u apart was (inl is) = subst (CanTell crash folder sites) (sym is) was
  tell_removing_file s u apart was (inr is) =
      let new = removed s sites.new_file in
      subst (CanTell crash folder sites) (sym is) (record {
        journal = journal_spared crash sites s new was.journal (spares-removed sites.new_journal s sites.new_file apart.new_pair);
        file = λ f j so bytes holds. elim (at_file s new f j refl so (put_other s.at sites.new_file sites.journal None apart.journal_new_file)
            (put_other s.at sites.new_file sites.new_journal None apart.new_pair)) [
              | inl (old, b) ↦ was_at_file s new f j refl so s.held bytes (λ f j so. was.file f j so bytes holds) old b
              | inr (now, b) ↦ none_there (TextAt new bytes f j) (f sites.new_file) (on f new.at sites.new_file now ∙ put_same s.at sites.new_file sites.new_file None refl)
            ];
      })

  pub tell_removing_journal : (s u : State) → AreApart sites → CanTell crash folder sites s → IsGone crash folder sites s → IsRemoving sites.new_journal s u → CanTell crash folder sites u
  tell_removing_journal s u apart was gone (inl is) = subst (CanTell crash folder sites) (sym is) was
  tell_removing_journal s u apart was gone (inr is) =
      let new = removed s sites.new_journal in
      subst (CanTell crash folder sites) (sym is) (record {
        journal = journal_removed crash sites s was.journal;
        file = λ f j so bytes holds. elim (at_journal s new f j refl so (put_other s.at sites.new_journal sites.file None apart.file_new_journal)
            (put_other s.at sites.new_journal sites.new_file None (λ e. apart.new_pair (sym e)))) [
              | inl (old, b) ↦ was_at_journal s new f j refl so s.held bytes (λ f j so. was.file f j so bytes holds) old b
              | inr (now, b) ↦ none_there (TextAt new bytes f j) (f sites.new_file) (b.at_q ∙ elim (same_or (folder sites.file) (folder sites.journal)) [
                | inl e ↦ on b.was s.at sites.new_file (sym (b.one e)) ∙ gone.now
                | inr ne ↦ gone.left ne (b.was sites.new_file) (moment_may crash s b.was sites.new_file b.is)
              ])
            ];
      })

  -- ---- both are put in place

  renamed_away : (s : State) (w q : List ℕ) → q ≢ w → (renamed s w q).at w ≡ None
  renamed_away s w q ne = put_other (put s.at w None) q w (s.at w) (λ e. ne (sym e)) ∙ put_same s.at w w None refl

  renamed_to : (s : State) (w q : List ℕ) → (renamed s w q).at q ≡ s.at w
  renamed_to s w q = put_same (put s.at w None) q q (s.at w) refl

  renamed_other : (s : State) (w q p : List ℕ) → p ≢ w → p ≢ q → (renamed s w q).at p ≡ s.at p
  renamed_other s w q p ne_w ne_q = put_other (put s.at w None) q p (s.at w) ne_q ∙ put_other s.at w p None ne_w

  journal_moved : (s : State) → AreApart sites → HasLeftJournal crash sites s → HasLeftJournal crash sites (renamed s sites.new_journal sites.journal)
  journal_moved s apart was x may = elim (may_changed crash s (renamed s sites.new_journal sites.journal) sites.new_journal x refl may) [
    | inl new ↦ none_there (IsFine crash (renamed s sites.new_journal sites.journal)) x (new ∙ renamed_away s sites.new_journal sites.journal apart.journal_new_journal)
    | inr old ↦ if_some (IsFine crash s) (IsFine crash (renamed s sites.new_journal sites.journal)) x (λ n is. record { free = is.free; is = is.is }) (was x old)
  ]

  -- all that stands is the file's new one, or nothing does
  pub own_spared : (own : Option ℕ) (s u : State) → IsOwn crash sites.new_file own s → Spares sites.new_file s u → IsOwn crash sites.new_file own u
  own_spared own s u was same x may = was x (may_before crash sites.new_file s u x same may)

  pub own_unmoved : (own : Option ℕ) (s u : State) → IsOwn crash sites.new_file own s → u.at ≡ s.at → u.olds ≡ s.olds → IsOwn crash sites.new_file own u
  own_unmoved own s u was at olds x may = was x (may_unmoved crash s u sites.new_file x at olds may)

  -- both new files wait, and the file comes next
  pub record IsReady (journal file : List ℕ) (m : ℕ) (s : State) : Type 0 where
    pub beside : IsBeside crash folder sites s
    pub at : s.at sites.new_file ≡ Some m
    pub own : IsOwn crash sites.new_file (Some m) s
    pub waits : BothWait sites journal file s
    pub next : NextLasts crash sites journal (Some file) s

  text_next : (s : State) (bytes : ℕ → List ℕ) (journal file : List ℕ) (n j : ℕ) (x y : Option ℕ)
      → IsSeen crash (λ old. IsSomeAnd old (λ bytes. IsStopBetween bytes file journal)) s x → y ≡ Some j → bytes n ≡ file → bytes j ≡ journal
      → ((o : ℕ) → kept crash s o ≡ true → bytes o ≡ s.bytes o) → IsLeftText bytes x n y
  text_next s bytes journal file n j None y next at of_file of_journal kept = absurd next.seen
  text_next s bytes journal file n j (Some o) y next at of_file of_journal kept =
      subst (λ y. IsLeftText bytes (Some o) n y) (sym at)
      (subst (λ a. IsStopBetween a (bytes n) (bytes j)) (sym (kept o next.stays))
      (subst (λ a. IsStopBetween (s.bytes o) a (bytes j)) (sym of_file) (subst (λ b. IsStopBetween (s.bytes o) file b) (sym of_journal) next.seen)))

  journal_away : (journal file : List ℕ) (m : ℕ) (s : State) → AreApart sites → IsReady journal file m s → CanTell crash folder sites (renamed s sites.new_journal sites.journal)
  journal_away journal file m s apart ready =
      let new = renamed s sites.new_journal sites.journal in
      let of_file = ready.waits.file in
      let of_journal = ready.waits.journal in
      let whole : (bytes : ℕ → List ℕ) → ((n : ℕ) → MayHold crash new n (bytes n)) → (o : ℕ) → kept crash s o ≡ true → bytes o ≡ s.bytes o = λ bytes holds o is. (holds o).1 is in
      record {
        journal = journal_moved s apart ready.beside.journal;
        file = λ f j so bytes holds. elim (at_journal s new f j refl so (renamed_other s sites.new_journal sites.journal sites.file apart.file_new_journal (λ e. apart.pair (sym e)))
            (renamed_other s sites.new_journal sites.journal sites.new_file (λ e. apart.new_pair (sym e)) (λ e. apart.journal_new_file (sym e)))) [
              | inl (old, b) ↦ was_at_journal s new f j refl so s.held bytes (λ f j so. (beside_tell s ready.beside).file f j so bytes holds) old b
              | inr (now, b) ↦ elim (ready.own (b.was sites.new_file) (moment_may crash s b.was sites.new_file b.is)) [
                | inl none ↦ none_there (TextAt new bytes f j) (f sites.new_file) (b.at_q ∙ none)
                | inr own ↦
                    let is = own ∙ sym ready.at ∙ of_file.at in
                    let free = (subst (λ x. IfSome x (Next s s.at)) is (ready.beside.file b.was s.at (record { file = b.is; journal = inl refl; one = λ e. sym (b.one e) }))).0 in
                    subst (λ x. IfSome x (TextAt new bytes f j)) (sym (b.at_q ∙ is)) (
                      free,
                      inr (text_next s bytes journal file of_file.n of_journal.n (f sites.file) (j sites.journal)
                          (subst (IsSeen crash (λ old. IsSomeAnd old (λ bytes. IsStopBetween bytes file journal)) s) (sym b.at_p)
                          (ready.next (b.was sites.file) (moment_may crash s b.was sites.file b.is)))
                          (on j new.at sites.journal now ∙ renamed_to s sites.new_journal sites.journal ∙ of_journal.at)
                          (whole bytes holds of_file.n (kept_safe crash crash s of_file.n of_file.safe) ∙ of_file.is)
                          (whole bytes holds of_journal.n (kept_safe crash crash s of_journal.n of_journal.safe) ∙ of_journal.is)
                          (whole bytes holds)),
                    )
              ]
            ];
      }

  file_away : (s : State) → AreApart sites → CanTell crash folder sites s → CanTell crash folder sites (renamed s sites.new_file sites.file)
  file_away s apart was =
      let new = renamed s sites.new_file sites.file in
      record {
        journal = journal_spared crash sites s new was.journal (spares-renamed sites.new_journal s sites.new_file sites.file apart.new_pair (λ e. apart.file_new_journal (sym e)));
        file = λ f j so bytes holds. elim (at_file s new f j refl so (renamed_other s sites.new_file sites.file sites.journal apart.journal_new_file apart.pair)
            (renamed_other s sites.new_file sites.file sites.new_journal apart.new_pair (λ e. apart.file_new_journal (sym e)))) [
              | inl (old, b) ↦ was_at_file s new f j refl so s.held bytes (λ f j so. was.file f j so bytes holds) old b
              | inr (now, b) ↦ none_there (TextAt new bytes f j) (f sites.new_file) (on f new.at sites.new_file now ∙ renamed_away s sites.new_file sites.file apart.file_new_file)
            ];
      }

  own_away : (own : Option ℕ) (s : State) → AreApart sites → IsOwn crash sites.new_file own s → IsOwn crash sites.new_file own (renamed s sites.new_file sites.file)
  own_away own s apart was x may = elim (may_changed crash s (renamed s sites.new_file sites.file) sites.new_file x refl may) [
    | inl new ↦ inl (new ∙ renamed_away s sites.new_file sites.file apart.file_new_file)
    | inr old ↦ was x old
  ]

  alone_since : (s u : State) → IsAlone crash sites s → IsSyncedSince folder s u → IsAlone crash sites u
  alone_since s u was since = record {
    journal = journal_since crash sites folder s u was.journal since;
    file = λ x may. was.file x (may_since folder crash s u sites.new_file x since may);
  }

  pub alone_placing : (s u : State) → AreApart sites → IsAlone crash sites s → IsPlacing folder sites.new_journal sites.journal s u → IsAlone crash sites u
  alone_placing s u apart was placing =
      let new = renamed s sites.new_journal sites.journal in
      let moved : IsAlone crash sites new = record {
        journal = journal_moved s apart was.journal;
        file = λ x may. was.file x (may_before crash sites.new_file s new x
            (spares-renamed sites.new_file s sites.new_journal sites.journal (λ e. apart.new_pair (sym e)) (λ e. apart.journal_new_file (sym e))) may);
      } in
      elim placing [
        | inl is ↦ subst (IsAlone crash sites) (sym is) was
        | inr more ↦ elim more [
          | inl is ↦ subst (IsAlone crash sites) (sym is) moved
          | inr is ↦ subst (IsAlone crash sites) (sym is) (alone_since new _ moved (since-folder_synced folder new (folder sites.journal)))
        ]
      ]

  module _ (beside : crash ≡ true → (folder sites.new_file ≡ folder sites.file) × (folder sites.new_journal ≡ folder sites.journal)) where
    pub tell_since : (s u : State) → CanTell crash folder sites s → IsSyncedSince folder s u → CanTell crash folder sites u
    tell_since s u was since = record {
      journal = journal_since crash sites folder s u was.journal since;
      file = λ f j so bytes holds.
          let now = together_since crash folder sites beside s u f j since so in
          if_some (TextAt s bytes f j) (TextAt u bytes f j) (f sites.new_file) (λ n both. (held_on s u n since.held ∙ both.0, both.1))
          (text_as s.held bytes (f sites.file) (now.f_was sites.file) (f sites.new_file) (now.f_was sites.new_file) (j sites.journal) (now.j_was sites.journal) (j sites.new_journal)
          (now.j_was sites.new_journal) now.file now.new_file now.journal now.new_journal
          (was.file now.f_was now.j_was now.so bytes (λ n. hold_so crash s u n (bytes n) (bytes_on s u n since.bytes) (since.safe n) (holds n))));
    }

    own_since : (own : Option ℕ) (s u : State) → IsOwn crash sites.new_file own s → IsSyncedSince folder s u → IsOwn crash sites.new_file own u
    own_since own s u was since x may = was x (may_since folder crash s u sites.new_file x since may)

    pub tell_placing_journal : (journal file : List ℕ) (m : ℕ) (s u : State) → AreApart sites → IsReady journal file m s → IsPlacing folder sites.new_journal sites.journal s u
        → CanTell crash folder sites u
    tell_placing_journal journal file m s u apart ready placing =
        let away = journal_away journal file m s apart ready in
        elim placing [
          | inl is ↦ subst (CanTell crash folder sites) (sym is) (beside_tell s ready.beside)
          | inr more ↦ elim more [
            | inl is ↦ subst (CanTell crash folder sites) (sym is) away
            | inr is ↦ subst (CanTell crash folder sites) (sym is) (tell_since (renamed s sites.new_journal sites.journal) _ away
                (since-folder_synced folder (renamed s sites.new_journal sites.journal) (folder sites.journal)))
          ]
        ]

    pub tell_placing_file : (s u : State) → AreApart sites → CanTell crash folder sites s → IsPlacing folder sites.new_file sites.file s u → CanTell crash folder sites u
    tell_placing_file s u apart was placing =
        let away = file_away s apart was in
        elim placing [
          | inl is ↦ subst (CanTell crash folder sites) (sym is) was
          | inr more ↦ elim more [
            | inl is ↦ subst (CanTell crash folder sites) (sym is) away
            | inr is ↦ subst (CanTell crash folder sites) (sym is) (tell_since (renamed s sites.new_file sites.file) _ away
                (since-folder_synced folder (renamed s sites.new_file sites.file) (folder sites.file)))
          ]
        ]

    pub own_placing_file : (own : Option ℕ) (s u : State) → AreApart sites → IsOwn crash sites.new_file own s → IsPlacing folder sites.new_file sites.file s u
        → IsOwn crash sites.new_file own u
    own_placing_file own s u apart was placing =
        let away = own_away own s apart was in
        elim placing [
          | inl is ↦ subst (IsOwn crash sites.new_file own) (sym is) was
          | inr more ↦ elim more [
            | inl is ↦ subst (IsOwn crash sites.new_file own) (sym is) away
            | inr is ↦ subst (IsOwn crash sites.new_file own) (sym is) (own_since own (renamed s sites.new_file sites.file) _ away
                (since-folder_synced folder (renamed s sites.new_file sites.file) (folder sites.file)))
          ]
        ]

    -- ---- what is left in order

    -- of the file's folder what stands so, and else what does of the journal's
    abbrev mixed : (List ℕ → Option ℕ) → (List ℕ → Option ℕ) → List ℕ → Option ℕ
    mixed f j p = if bytes_eq (folder p) (folder sites.file) then f p else j p

    mixed_file : (f j : List ℕ → Option ℕ) (p : List ℕ) → (f ≡ j) ⊎ (folder p ≡ folder sites.file) → mixed f j p ≡ f p
    mixed_file f j p (inl same) = cond_both (bytes_eq (folder p) (folder sites.file)) (f p) (j p) (λ x. x ≡ f p) (λ _. refl) (λ _. on j f p (sym same))
    mixed_file f j p (inr e) = cond-true (bytes_eq (folder p) (folder sites.file)) (f p) (j p) (eq_bytes (folder p) (folder sites.file) e)

    mixed_same : (f j : List ℕ → Option ℕ) (p : List ℕ) → f ≡ j → mixed f j p ≡ j p
    mixed_same f j p same = cond_both (bytes_eq (folder p) (folder sites.file)) (f p) (j p) (λ x. x ≡ j p) (λ _. on f j p same) (λ _. refl)

    mixed_journal : (f j : List ℕ → Option ℕ) (p : List ℕ) → (folder sites.file ≡ folder sites.journal → f ≡ j) → (f ≡ j) ⊎ (folder p ≡ folder sites.journal) → mixed f j p ≡ j p
    mixed_journal f j p one (inl same) = mixed_same f j p same
    mixed_journal f j p one (inr e) = elim (same_or (folder sites.file) (folder sites.journal)) [
      | inl both ↦ mixed_same f j p (one both)
      | inr ne ↦ cond-false (bytes_eq (folder p) (folder sites.file)) (f p) (j p) (ne_bytes (folder p) (folder sites.file) (λ other. ne (sym other ∙ e)))
    ]

    left_of : (s : State) (f j : List ℕ → Option ℕ) (bytes : ℕ → List ℕ) → IsMoment crash s f → IsMoment crash s j → ((n : ℕ) → MayHold crash s n (bytes n))
        → LeavesInOrder crash folder s (record { at = mixed f j; bytes = bytes })
    left_of s f j bytes f_is j_is holds = record {
      at = λ d. elim (same_or d (folder sites.file)) [
        | inl e ↦ (f, f_is, λ p at. cond-true (bytes_eq (folder p) (folder sites.file)) (f p) (j p) (eq_bytes (folder p) (folder sites.file) (at ∙ e)))
        | inr ne ↦ (j, j_is, λ p at. cond-false (bytes_eq (folder p) (folder sites.file)) (f p) (j p) (ne_bytes (folder p) (folder sites.file) (λ e. ne (sym at ∙ e))))
      ];
      bytes = holds;
    }

    -- in a stop all places stand as now
    are_one : (s : State) (f j : List ℕ → Option ℕ) → crash ≡ false → IsMoment crash s f → IsMoment crash s j → f ≡ j
    are_one s f j is f_is j_is =
        only_now crash folder sites s s f refl (subst (λ c. IsMoment c s f) is f_is) ∙ sym (only_now crash folder sites s s j refl (subst (λ c. IsMoment c s j) is j_is))

    crash_or : (b : Bool) → (b ≡ true) ⊎ (b ≡ false)
    crash_or true = inl refl
    crash_or false = inr refl

    hold_now : (s : State) (n : ℕ) → MayHold crash s n (s.bytes n)
    hold_now s n = (inl (length (s.bytes n), sym (take_all (length (s.bytes n)) (s.bytes n) (omega arith))), λ is. refl)

    tell_told : (s : State) → AreTold crash folder sites s → (f j : Moment) → So s f j → (bytes : ℕ → List ℕ) → ((n : ℕ) → MayHold crash s n (bytes n))
        → IfSome (f sites.new_file) (TextAt s bytes f j)
    tell_told s told f j so bytes holds =
        let at = mixed f j in
        let same : (p d : List ℕ) → (crash ≡ true → folder p ≡ d) → (f ≡ j) ⊎ (folder p ≡ d) = λ p d in_folder. elim (crash_or crash) [
          | inl crashes ↦ inr (in_folder crashes)
          | inr stops ↦ inl (are_one s f j stops so.file so.journal)
        ] in
        text_as s.held bytes (f sites.file) (at sites.file) (f sites.new_file) (at sites.new_file) (j sites.journal) (at sites.journal) (j sites.new_journal) (at sites.new_journal)
        (sym (mixed_file f j sites.file (inr refl))) (sym (mixed_file f j sites.new_file (same sites.new_file (folder sites.file) (λ c. (beside c).0))))
        (sym (mixed_journal f j sites.journal so.one (inr refl))) (sym (mixed_journal f j sites.new_journal so.one (same sites.new_journal (folder sites.journal) (λ c. (beside c).1))))
        (told (record { at = at; bytes = bytes }) (left_of s f j bytes so.file so.journal holds)).file

    -- of one file other bytes
    other_bytes : (s : State) (n : ℕ) (text : List ℕ) → MayHold crash s n text → (m : ℕ) → MayHold crash s m (set s.bytes n text m)
    other_bytes s n text hold m = elim (eq_or m n) [
      | inl e ↦ subst (MayHold crash s m) (sym (set_same s.bytes n m text e)) (subst (λ k. MayHold crash s k text) (sym e) hold)
      | inr ne ↦ subst (MayHold crash s m) (sym (set_other s.bytes n m text ne)) (hold_now s m)
    ]

    journal_there : (s : State) → AreTold crash folder sites s → (n : ℕ) → MayStand crash s sites.new_journal (Some n) → IsFine crash s n
    journal_there s told n may =
        let (m, m_is, at) = may_moment crash s sites.new_journal (Some n) may in
        let there = mixed_file m m sites.new_journal (inl refl) ∙ sym at in
        let fine : (text : List ℕ) → MayHold crash s n text → (s.held n ≡ false) × IsLeftJournal (set s.bytes n text n) = λ text hold.
        subst (λ x. IfSome x (λ k. (s.held k ≡ false) × IsLeftJournal (set s.bytes n text k))) there
        (told (record { at = mixed m m; bytes = set s.bytes n text }) (left_of s m m (set s.bytes n text) m_is m_is (other_bytes s n text hold))).journal in
        record {
          free = (fine (s.bytes n) (hold_now s n)).0;
          is = λ text hold. subst IsLeftJournal (set_same s.bytes n n text refl) (fine text hold).1;
        }

    pub told_tell : (s : State) → AreTold crash folder sites s → CanTell crash folder sites s
    told_tell s told = record {
      journal = λ x may. elim x as (λ x. MayStand crash s sites.new_journal x → IfSome x (IsFine crash s)) [
        | None ↦ λ may. tt
        | Some n ↦ λ may. journal_there s told n may
      ] may;
      file = tell_told s told;
    }

    pub tell_all : (s : State) → CanTell crash folder sites s → AreTold crash folder sites s
    tell_all s tell left leaves =
        let (f, f_is, f_at) = leaves.at (folder sites.file) in
        let (j, j_is, j_at) = leaves.at (folder sites.journal) in
        let stands : (p d : List ℕ) → (crash ≡ true → folder p ≡ d) → left.at p ≡ (leaves.at d).0 p = λ p d in_folder. elim (crash_or crash) [
          | inl crashes ↦ (leaves.at d).2 p (in_folder crashes)
          | inr stops ↦ (leaves.at (folder p)).2 p refl
              ∙ on (leaves.at (folder p)).0 (leaves.at d).0 p (are_one s (leaves.at (folder p)).0 (leaves.at d).0 stops (leaves.at (folder p)).1 (leaves.at d).1)
        ] in
        let new_file = stands sites.new_file (folder sites.file) (λ c. (beside c).0) in
        let new_journal = stands sites.new_journal (folder sites.journal) (λ c. (beside c).1) in
        record {
          journal = if_some (IsFine crash s) (λ n. (s.held n ≡ false) × IsLeftJournal (left.bytes n)) (left.at sites.new_journal) (λ n is. (is.free, is.is (left.bytes n) (leaves.bytes n)))
              (tell.journal (left.at sites.new_journal) (subst (MayStand crash s sites.new_journal) (sym new_journal) (moment_may crash s j sites.new_journal j_is)));
          file = text_as s.held left.bytes (left.at sites.file) (f sites.file) (left.at sites.new_file) (f sites.new_file) (left.at sites.journal) (j sites.journal) (left.at sites.new_journal)
              (j sites.new_journal) (f_at sites.file refl) new_file (j_at sites.journal refl) new_journal
              (tell.file f j (record { file = f_is; journal = j_is; one = λ e. ap (λ d. (leaves.at d).0) e }) left.bytes leaves.bytes);
        }

-- ---- the file's new one

pub own_making : (crash : Bool) (w : List ℕ) (s u : State) → IsOwn crash w None s → IsMaking w s u → IsOwn crash w (u.at w) u
own_making crash w s u was (inl is) x may =
    elim (was x (subst (λ (u : State). MayStand crash u w x) is may)) [
      | inl none ↦ inl none
      | inr none ↦ inl none
    ]
own_making crash w s u was (inr (n, fresh, is)) x may =
    elim (may_changed crash s u w x (ap (λ (u : State). u.olds) is) may) [
      | inl new ↦ inr new
      | inr old ↦ elim (was x old) [
        | inl none ↦ inl none
        | inr none ↦ inl none
      ]
    ]

pub own_now : (crash : Bool) (w : List ℕ) (own : Option ℕ) (s : State) → IsOwn crash w own s → (s.at w ≡ None) ⊎ (s.at w ≡ own)
own_now crash w own s was = was (s.at w) (inl refl)

-- ---- in two folders

module _ (crash : Bool) (folder : List ℕ → List ℕ) (w d : List ℕ) (beside : crash ≡ true → folder w ≡ d) where
  stop_now : (s : State) (x : Option ℕ) → MayStand false s w x → x ≡ s.at w
  stop_now s x (inl is) = is
  stop_now s x (inr none) = absurd none

  -- what may stand there is what does
  pub stands_now : (s : State) (x : Option ℕ) → IsSyncedIn crash folder d s → MayStand crash s w x → x ≡ s.at w
  stands_now s x synced may = elim crash as (λ c. crash ≡ c → x ≡ s.at w) [
    | true ↦ λ is. synced w (beside is) x may
    | false ↦ λ is. stop_now s x (subst (λ c. MayStand c s w x) is may)
  ] refl
