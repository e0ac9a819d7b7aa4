-- What holds of a file and its journal, whatever is left, and what may stand at their places.
use Rattle.std.proofs.Common.{◌≡◌, inl, inr, ℕ, ◌≤◌, Bool, false, List, [], length, take, Option, Some, None, refl, ◌∙◌, ap, subst, arith}
use Rattle.rec_disk.specs.Disk.{State}
use Rattle.rec_disk.specs.Lasting.{Left, Leaves, LeavesAt, MayStand, shown}
use Rattle.rec_disk.proofs.lemmas.Places.{shows}
use Rattle.rec_tools.specs.Home.{Contents, written, writes_by}
use Rattle.rec_files.specs.OnDisk.{Places, Shows, Holds, AreAsBefore, IsRead, or_empty, with_file, contents_at}
use Rattle.rec_files.specs.proving.Replacing.{HasFile, HasJournal, Either, Lasts, LastAs, Between}

-- ---- whatever is left

pub last_holds : (crash : Bool) (p : Places) (c : Contents) (s : State) → LastAs crash p c.file c.journal s → Holds crash p c s
last_holds crash p c s last left leaves = record {
  file = shows crash (HasFile c.file) s p.file left last.file (leaves p.file);
  journal = shows crash (HasJournal c.journal) s p.journal left last.journal (leaves p.journal);
}

-- ---- in between, the first of the writes are made

abbrev with_new : Contents → List ℕ → Contents
with_new c journal = record { file = c.file; journal = journal }

abbrev new_both : List ℕ → List ℕ → Contents
new_both file journal = record { file = file; journal = journal }

module _ (p : Places) (c : Contents) (journal : List ℕ) (left : Left) where
  pub none_made : (file : Option (List ℕ)) → Shows p left c → (k : ℕ) × (k ≤ length (writes_by journal file)) × Shows p left (written c (take k (writes_by journal file)))
  none_made None is = (0, omega arith, is)
  none_made (Some file) is = (0, omega arith, is)

  first_made : (file : Option (List ℕ)) → Shows p left (with_new c journal) → (k : ℕ) × (k ≤ length (writes_by journal file)) × Shows p left (written c (take k (writes_by journal file)))
  first_made None is = (1, omega arith, is)
  first_made (Some file) is = (1, omega arith, is)

  both_made : (file : List ℕ) → Shows p left (new_both file journal) → (k : ℕ) × (k ≤ length (writes_by journal (Some file))) × Shows p left (written c (take k (writes_by journal (Some file))))
  both_made file is = (2, omega arith, is)

module _ (crash : Bool) (p : Places) (c : Contents) (journal : List ℕ) (s : State) where
  -- whatever is left, the first of the writes are made
  abbrev pub IsWritten : Option (List ℕ) → Type 0
  IsWritten file =
      (left : Left) → Leaves crash s left → (k : ℕ) × (k ≤ length (writes_by journal file)) × Shows p left (written c (take k (writes_by journal file)))

  at_journal : (file : Option (List ℕ)) → Lasts crash (HasFile c.file) (Either (HasJournal c.journal) (HasJournal journal)) p s → IsWritten file
  at_journal file was left leaves =
      let same : HasFile c.file (shown left.bytes (left.at p.file)) = shows crash (HasFile c.file) s p.file left was.file (leaves p.file) in
      elim (shows crash (Either (HasJournal c.journal) (HasJournal journal)) s p.journal left was.journal (leaves p.journal)) [
        | inl old ↦ none_made p c journal left file (record { file = same; journal = old })
        | inr new ↦ first_made p c journal left file (record { file = same; journal = new })
      ]

  at_file : (file : List ℕ) → Lasts crash (Either (HasFile c.file) (HasFile file)) (HasJournal journal) p s → IsWritten (Some file)
  at_file file was left leaves =
      let new_one : HasJournal journal (shown left.bytes (left.at p.journal)) = shows crash (HasJournal journal) s p.journal left was.journal (leaves p.journal) in
      elim (shows crash (Either (HasFile c.file) (HasFile file)) s p.file left was.file (leaves p.file)) [
        | inl old ↦ first_made p c journal left (Some file) (record { file = old; journal = new_one })
        | inr new ↦ both_made p c journal left file (record { file = new; journal = new_one })
      ]

  pub between_written : (file : Option (List ℕ)) → Between crash p c journal file s → IsWritten file
  between_written None was = at_journal None was
  between_written (Some file) (inl was) = at_journal (Some file) was
  between_written (Some file) (inr was) = at_file file was

-- ---- where nothing is lost

abbrev file_of : Option Contents → Option (List ℕ)
file_of None = None
file_of (Some c) = Some c.file

abbrev journal_of : List ℕ → Option Contents → List ℕ
journal_of other None = other
journal_of other (Some c) = c.journal

abbrev Nothing : Option Contents → Type 0
Nothing None = Unit {0}
Nothing (Some c) = ⊥

none_there : (c : Contents) → None ≡ Some c → ⊥
none_there c is = subst Nothing is tt

there : (x : Option (List ℕ)) (journal : List ℕ) (c : Contents) → with_file x journal ≡ Some c → (x ≡ Some c.file) × (journal ≡ c.journal)
there None journal c is = absurd (none_there c is)
there (Some bytes) journal c is = (ap file_of is, ap (journal_of []) is)

pub read_there : (p : Places) (c : Contents) (s : State) → IsRead p c s → (shown s.bytes (s.at p.file) ≡ Some c.file) × (or_empty (shown s.bytes (s.at p.journal)) ≡ c.journal)
read_there p c s read = there (shown s.bytes (s.at p.file)) (or_empty (shown s.bytes (s.at p.journal))) c read

module _ (s : State) (left : Left) where
  stands_still : (q : List ℕ) → MayStand false s q (left.at q) → left.at q ≡ s.at q
  stands_still q (inl is) = is
  stands_still q (inr none) = absurd none

  bytes_still : (q : List ℕ) (x : Option ℕ) → left.at q ≡ x → LeavesAt false s left q → shown left.bytes x ≡ shown s.bytes x
  bytes_still q None stands leaves = refl
  bytes_still q (Some n) stands leaves = ap Some (leaves.bytes n stands refl)

  shown_still : (q : List ℕ) → LeavesAt false s left q → shown left.bytes (left.at q) ≡ shown s.bytes (s.at q)
  shown_still q leaves = bytes_still q (left.at q) refl leaves ∙ ap (shown s.bytes) (stands_still q leaves.at)

pub before_shows : (p : Places) (c : Contents) (s : State) (left : Left) → IsRead p c s → AreAsBefore false p s left → Shows p left c
before_shows p c s left read before =
    let both = read_there p c s read in
    record {
      file = shown_still s left p.file before.0 ∙ both.0;
      journal = ap or_empty (shown_still s left p.journal before.1) ∙ both.1;
    }

pub leaves_now : (s : State) → Leaves false s (record { at = s.at; bytes = s.bytes })
leaves_now s q = record { at = inl refl; bytes = λ n stands safe. refl }

pub holds_contents : (p : Places) (c : Contents) (s : State) → Shows p (record { at = s.at; bytes = s.bytes }) c → contents_at p s ≡ Some c
holds_contents p c s is = ap (λ x. with_file x (or_empty (shown s.bytes (s.at p.journal)))) is.file ∙ ap (λ j. Some (record { file = c.file; journal = j })) is.journal
