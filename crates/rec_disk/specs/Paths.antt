-- The paths of a file and its journal, and the names under which they are written. A path is its bytes.
use Rattle.std.specs.Prelude.{◌≢◌, ℕ, List, ◌++◌, codes}

-- the name under which a file is written before it takes its place
abbrev pub working_name : List ℕ → List ℕ
working_name path = path ++ codes ".new"

-- the journal of a file, where no other one is given
abbrev pub journal_of : List ℕ → List ℕ
journal_of file = file ++ codes ".journal"

-- the two paths differ, and neither is the other's working name
pub record AreApart (file journal : List ℕ) : Type 0 where
  pub differ : journal ≢ file
  pub journal_beside : journal ≢ working_name file
  pub file_beside : file ≢ working_name journal
