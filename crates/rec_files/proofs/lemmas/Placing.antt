-- What is seen of a file and its journal while they are put in place.
use Rattle.std.proofs.Common.{◌≡◌, ◌≢◌, inl, inr, ℕ, Bool, true, false, List, Option, refl, sym, ◌∙◌, subst}
use Rattle.std.proofs.lemmas.Bool.{false≢true}
use Rattle.rec_disk.specs.declared.disk.Disk.{Ghosts as Disk}
use Rattle.rec_disk.specs.Disk.{State, renamed, folder_synced}
use Rattle.rec_disk.specs.Lasting.{Spares}
use Rattle.rec_disk.specs.proving.Places.{IsSeen, Outlasts, Waits}
use Rattle.rec_disk.proofs.lemmas.Places.{spares_itself, spares_then, spares-renamed, spares-folder_synced}
use Rattle.rec_disk.proofs.lemmas.Places.{outlasts_still, outlasts-renamed, outlasts_stop, outlasts-folder_synced, seen_there, waits_seen}
use Rattle.rec_tools.specs.Home.{Contents}
use Rattle.rec_files.specs.OnDisk.{Places, Sites, CanSync}
use Rattle.rec_files.specs.Succeeding.{AreApart}
use Rattle.rec_files.specs.proving.Replacing.{IsPlacing, IsPlaced, HasFile, HasJournal, Either, Lasts, LastAs, own_of}

-- ---- one file comes to its place

module _ (folder : List ℕ → List ℕ) (w q : List ℕ) (s : State) where
  pub spares-placing : (r : List ℕ) (u : State) → r ≢ w → r ≢ q → IsPlacing folder w q s u → Spares r s u
  spares-placing r u ne_w ne_q (inl is) = subst (Spares r s) (sym is) (spares_itself r s)
  spares-placing r u ne_w ne_q (inr (inl is)) = subst (Spares r s) (sym is) (spares-renamed r s w q ne_w ne_q)
  spares-placing r u ne_w ne_q (inr (inr is)) =
      subst (Spares r s) (sym is)
      (spares_then r s (renamed s w q) (folder_synced folder (renamed s w q) (folder q)) (spares-renamed r s w q ne_w ne_q) (spares-folder_synced r (renamed s w q) folder (folder q)))

  pub spares-placed : (syncs : List ℕ → Bool) (r : List ℕ) (u : State) → r ≢ w → r ≢ q → IsPlaced folder syncs w q s u → Spares r s u
  spares-placed syncs r u ne_w ne_q (inl is) = spares-placing r u ne_w ne_q (inr (inr is))
  spares-placed syncs r u ne_w ne_q (inr (is, unsynced)) = spares-placing r u ne_w ne_q (inr (inl is))

  module _ (crash : Bool) (P Q : Option (List ℕ) → Type 0) where
    either_old : (x : State) → Outlasts crash P x q → Outlasts crash (Either P Q) x q
    either_old x was y may = let is = was y may in record { seen = inl is.seen; stays = is.stays }

    pub either-placing : (u : State) → Outlasts crash P s q → IsSeen crash Q s (s.at w) → IsPlacing folder w q s u → Outlasts crash (Either P Q) u q
    either-placing u was new (inl is) = subst (λ u. Outlasts crash (Either P Q) u q) (sym is) (either_old s was)
    either-placing u was new (inr (inl is)) = subst (λ u. Outlasts crash (Either P Q) u q) (sym is) (outlasts-renamed crash s P Q w q was new)
    either-placing u was new (inr (inr is)) =
        subst (λ u. Outlasts crash (Either P Q) u q) (sym is)
        (outlasts_still crash (Either P Q) q (renamed s w q) (folder_synced folder (renamed s w q) (folder q)) (spares-folder_synced q (renamed s w q) folder (folder q))
        (outlasts-renamed crash s P Q w q was new))

  unsynced_stop : (crash : Bool) (Q : Option (List ℕ) → Type 0) (b : Bool) → (crash ≡ true → b ≡ true) → b ≡ false → IsSeen crash Q s (s.at w) → Outlasts crash Q (renamed s w q) q
  unsynced_stop true Q b synced isnt new = absurd (false≢true (sym isnt ∙ synced refl))
  unsynced_stop false Q b synced isnt new = outlasts_stop Q (renamed s w q) q (seen_there false s Q w q new)

  pub outlasts-placed : (crash : Bool) (Q : Option (List ℕ) → Type 0) (syncs : List ℕ → Bool) (u : State) → (crash ≡ true → syncs (folder q) ≡ true) → IsSeen crash Q s (s.at w)
      → IsPlaced folder syncs w q s u → Outlasts crash Q u q
  outlasts-placed crash Q syncs u synced new (inl is) =
      subst (λ u. Outlasts crash Q u q) (sym is) (outlasts-folder_synced folder (renamed s w q) q crash Q (seen_there crash s Q w q new))
  outlasts-placed crash Q syncs u synced new (inr (is, isnt)) =
      subst (λ u. Outlasts crash Q u q) (sym is) (unsynced_stop crash Q (syncs (folder q)) synced isnt new)

-- ---- both, one after the other

pub lasts_still : (crash : Bool) (F J : Option (List ℕ) → Type 0) (p : Places) (s t : State) → Spares p.file s t → Spares p.journal s t → Lasts crash F J p s → Lasts crash F J p t
lasts_still crash F J p s t file journal was = record {
  file = outlasts_still crash F p.file s t file was.file;
  journal = outlasts_still crash J p.journal s t journal was.journal;
}

module _ {D F S : Type 0} (disk : Disk D F S) (crash : Bool) (sites : Sites) (c : Contents) (journal file : List ℕ) (apart : AreApart sites) (can : CanSync disk crash (own_of sites)) where
  abbrev p : Places
  p = own_of sites

  abbrev wf : List ℕ
  wf = sites.new_file

  abbrev wj : List ℕ
  wj = sites.new_journal

  new_journal : (s : State) → Waits s wj journal → IsSeen crash (HasJournal journal) s (s.at wj)
  new_journal s waits = waits_seen crash s wj journal (HasJournal journal) refl waits

  new_file : (s : State) → Waits s wf file → IsSeen crash (HasFile file) s (s.at wf)
  new_file s waits = waits_seen crash s wf file (HasFile file) refl waits

  pub journal_placing : (s u : State) → LastAs crash p c.file c.journal s → Waits s wj journal → IsPlacing disk.folder wj p.journal s u
      → Lasts crash (HasFile c.file) (Either (HasJournal c.journal) (HasJournal journal)) p u
  journal_placing s u was waits placing = record {
    file = outlasts_still crash (HasFile c.file) p.file s u (spares-placing disk.folder wj p.journal s p.file u apart.file_new_journal (λ e. apart.pair (sym e)) placing) was.file;
    journal = either-placing disk.folder wj p.journal s crash (HasJournal c.journal) (HasJournal journal) u was.journal (new_journal s waits) placing;
  }

  pub journal_placed : (s u : State) → LastAs crash p c.file c.journal s → Waits s wj journal → IsPlaced disk.folder disk.syncs wj p.journal s u → LastAs crash p c.file journal u
  journal_placed s u was waits placed = record {
    file = outlasts_still crash (HasFile c.file) p.file s u (spares-placed disk.folder wj p.journal s disk.syncs p.file u apart.file_new_journal (λ e. apart.pair (sym e)) placed) was.file;
    journal = outlasts-placed disk.folder wj p.journal s crash (HasJournal journal) disk.syncs u (λ e. (can e).1) (new_journal s waits) placed;
  }

  pub file_placing : (s u : State) → LastAs crash p c.file journal s → Waits s wf file → IsPlacing disk.folder wf p.file s u
      → Lasts crash (Either (HasFile c.file) (HasFile file)) (HasJournal journal) p u
  file_placing s u was waits placing = record {
    file = either-placing disk.folder wf p.file s crash (HasFile c.file) (HasFile file) u was.file (new_file s waits) placing;
    journal = outlasts_still crash (HasJournal journal) p.journal s u (spares-placing disk.folder wf p.file s p.journal u apart.journal_new_file apart.pair placing) was.journal;
  }

  pub file_placed : (s u : State) → LastAs crash p c.file journal s → Waits s wf file → IsPlaced disk.folder disk.syncs wf p.file s u → LastAs crash p file journal u
  file_placed s u was waits placed = record {
    file = outlasts-placed disk.folder wf p.file s crash (HasFile file) disk.syncs u (λ e. (can e).0) (new_file s waits) placed;
    journal = outlasts_still crash (HasJournal journal) p.journal s u (spares-placed disk.folder wf p.file s disk.syncs p.journal u apart.journal_new_file apart.pair placed) was.journal;
  }
