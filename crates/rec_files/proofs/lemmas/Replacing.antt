-- A put, step by step, is between its old contents and its new ones.
use Rattle.std.proofs.Common.{◌≡◌, inl, inr, ℕ, Bool, List, [], ◌∷◌, Option, Some, None, ◌∙◌, ap, subst}
use Rattle.std.specs.List.{AllByRecursion}
use Rattle.rec_disk.specs.Disk.{State, Story, Told, AtAnyMoment}
use Rattle.rec_disk.specs.Lasting.{Spares, shown}
use Rattle.rec_disk.proofs.lemmas.Places.{shown_spared, outlasts_so}
use Rattle.rec_tools.specs.Home.{Contents}
use Rattle.rec_files.specs.OnDisk.{Places, IsRead, or_empty, with_file}
use Rattle.rec_files.specs.proving.Replacing.{HasFile, HasJournal, Either, Lasts, LastAs, Between}
use Rattle.rec_files.specs.proving.Replacing.{AreSpared, AreSettled}
use Rattle.rec_files.proofs.lemmas.Placing.{lasts_still}
use Rattle.rec_files.proofs.lemmas.Holding.{read_there}

-- ---- what holds at each moment

all_so : {X : Type 0} (P Q : X → Type 0) (xs : List X) → ((x : X) → P x → Q x) → AllByRecursion P xs → AllByRecursion Q xs
all_so P Q [] so all = tt
all_so P Q (x ∷ xs) so all = (so x all.0, all_so P Q xs so all.1)

pub moments_so : (R Q : State → State → Type 0) (o n : Option Story) → ((s u : State) → R s u → Q s u) → AtAnyMoment o n R → AtAnyMoment o n Q
moments_so R Q None None so all = tt
moments_so R Q None (Some b) so all = all
moments_so R Q (Some a) None so all = all
moments_so R Q (Some a) (Some b) so (now, (later, is, all)) = (so a.now b.now now, (later, is, all_so (R a.now) (Q a.now) later (so a.now) all))

pub weaker_moments : (P Q : State → Type 0) (o n : Option Story) → ((s : State) → P s → Q s) → AtAnyMoment o n (λ s u. P u) → AtAnyMoment o n (λ s u. Q u)
weaker_moments P Q o n so all = moments_so (λ s u. P u) (λ s u. Q u) o n (λ s u is. so u is) all

-- ---- what is spared lasts

module _ (crash : Bool) (p : Places) where
  either_was : (F J K : Option (List ℕ) → Type 0) (s : State) → Lasts crash F J p s → Lasts crash F (Either J K) p s
  either_was F J K s was = record { file = was.file; journal = λ x may. let is = was.journal x may in record { seen = inl is.seen; stays = is.stays } }

  pub old_between : (c : Contents) (journal : List ℕ) (file : Option (List ℕ)) (s : State) → LastAs crash p c.file c.journal s → Between crash p c journal file s
  old_between c journal None s was = either_was (HasFile c.file) (HasJournal c.journal) (HasJournal journal) s was
  old_between c journal (Some file) s was = inl (either_was (HasFile c.file) (HasJournal c.journal) (HasJournal journal) s was)

  pub at_journal_between : (c : Contents) (journal : List ℕ) (file : Option (List ℕ)) (s : State) → Lasts crash (HasFile c.file) (Either (HasJournal c.journal) (HasJournal journal)) p s
      → Between crash p c journal file s
  at_journal_between c journal None s was = was
  at_journal_between c journal (Some file) s was = inl was

  pub between_still : (c : Contents) (journal : List ℕ) (file : Option (List ℕ)) (s t : State) → Between crash p c journal file s → Spares p.file s t × Spares p.journal s t
      → Between crash p c journal file t
  between_still c journal None s t was both = lasts_still crash (HasFile c.file) (Either (HasJournal c.journal) (HasJournal journal)) p s t both.0 both.1 was
  between_still c journal (Some file) s t (inl was) both =
      inl (lasts_still crash (HasFile c.file) (Either (HasJournal c.journal) (HasJournal journal)) p s t both.0 both.1 was)
  between_still c journal (Some file) s t (inr was) both =
      inr (lasts_still crash (Either (HasFile c.file) (HasFile file)) (HasJournal journal) p s t both.0 both.1 was)

-- ---- a put, from contents that are read

-- these contents last, once they are settled
module _ (crash : Bool) (p : Places) (c : Contents) where
  pub read_spared : (s t : State) → IsRead p c s → AreSpared p s t → IsRead p c t
  read_spared s t read both =
      ap (λ x. with_file x (or_empty (shown t.bytes (t.at p.journal)))) (shown_spared p.file s t both.0)
      ∙ ap (λ j. with_file (shown s.bytes (s.at p.file)) (or_empty j)) (shown_spared p.journal s t both.1) ∙ read

  pub settled_last : (t : State) → IsRead p c t → AreSettled crash p t → LastAs crash p c.file c.journal t
  settled_last t read settled =
      let both = read_there p c t read in
      record {
        file = outlasts_so crash (λ b. b ≡ shown t.bytes (t.at p.file)) (HasFile c.file) t p.file (λ b is. is ∙ both.0) settled.file;
        journal = outlasts_so crash (λ b. b ≡ shown t.bytes (t.at p.journal)) (HasJournal c.journal) t p.journal (λ b is. ap or_empty is ∙ both.1) settled.journal;
      }

-- ---- where nothing was changed before

pub told_same : (P : State → Type 0) (o b : Option Story) → b ≡ o → Told b P → Told o P
told_same P o b same told = subst (λ b. Told b P) same told
