-- The keys that records of a set have taken.
use Rattle.std.specs.Prelude.{◌≡◌, ℕ, Bool, List, Some}
use Rattle.std.specs.Cow.{cow_slice_items}
use Rattle.std.specs.HashSet.{contains_by}
use Rattle.std.specs.Str.{bytes_eq}
use Rattle.rec_text.specs.Elements.{Piece}
use Rattle.rec_check.specs.declared.checks.key.Key.{Key}
use Rattle.rec_check.specs.Violations.{is_taken}

abbrev pub has_taken : Key → List ℕ → Bool
has_taken key value = contains_by (λ bytes. bytes_eq value (cow_slice_items bytes)) key.taken

-- the keys that these records have taken
abbrev pub IsKeyAfter : Key → List (List Piece) → Type 0
IsKeyAfter key earlier =
    (name value : List ℕ) → key.name.now ≡ Some name → has_taken key value ≡ is_taken name earlier value
