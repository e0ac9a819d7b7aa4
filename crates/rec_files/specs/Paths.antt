-- The paths of the contents, and what links lead to. A path is its bytes.
use Rattle.std.specs.Prelude.{◌≡◌, ◌⊎◌, ℕ, zero, suc, List, [], Option, Some, None, IsSomeAnd, option_map, unwrap_or}
use Rattle.rec_disk.specs.declared.disk.Disk.{Ghosts as Disk}
use Rattle.rec_disk.specs.Disk.{State}
use Rattle.rec_disk.specs.Paths.{journal_of}
use Rattle.rec_tools.specs.declared.home.Which.{Which}
use Rattle.rec_tools.specs.declared.home.Which.TheVariants.{Base, Journal}

-- the path of a content, by those of the file and of the journal; standard input has none
abbrev pub path_of : Option (List ℕ) → List ℕ → Which → List ℕ
path_of (Some file) journal Base = file
path_of None journal Base = []
path_of file journal Journal = journal

-- the path after all links at a path, where these are fewer than n in a row: each leads to the path of the next
abbrev pub end_of : (List ℕ → Option (List ℕ)) → ℕ → List ℕ → Option (List ℕ)
end_of link zero path = None
end_of link (suc n) path = unwrap_or (option_map (end_of link n) (link path)) (Some path)

-- two paths lead to one file
abbrev pub LeadToOne : (List ℕ → List ℕ) → List ℕ → List ℕ → State → Type 0
LeadToOne leads first second s = IsSomeAnd (s.at (leads first)) (λ n. s.at (leads second) ≡ Some n)

-- A path that leads to a file has no other journal than the file: it is the file's path, or nothing stands
-- where its own journal would, or that is the file's journal.
abbrev pub HasNoOtherJournal : {D F S : Type 0} → Disk D F S → List ℕ → List ℕ → State → Type 0
HasNoOtherJournal disk path file s = (file ≡ path)
    ⊎ ((s.at (disk.place (journal_of path)) ≡ None) ⊎ LeadToOne disk.leads (journal_of path) (journal_of file) s)

-- where no journal is given, a path is that of this file, after its links, with this journal
pub record AreDefaultPaths {D F S : Type 0} (disk : Disk D F S) (path file journal : List ℕ) (s : State) : Type 0 where
  pub file_is : end_of disk.link 40 path ≡ Some file
  pub journal_is : journal ≡ journal_of file
  pub alone : HasNoOtherJournal disk path file s
