-- The folder in which a path stands.
use Rattle.std.specs.Prelude.{ℕ, List, [], ◌∷◌, codes, Option, Some, None}

-- the folder in which a path stands, by the parent that it names
abbrev pub folder_in : Option (List ℕ) → List ℕ
folder_in (Some (b ∷ parent)) = b ∷ parent
folder_in (Some []) = codes "."
folder_in None = codes "."
