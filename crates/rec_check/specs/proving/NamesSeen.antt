-- Which of some names a record has, and how often.
use Rattle.std.specs.Prelude.{◌≡◌, ℕ, ◌+◌, Bool, nat_le, List, [], ◌∷◌, if◌then◌else◌}
use Rattle.rec_text.specs.Elements.{Piece}
use Rattle.rec_check.specs.declared.checks.names_seen.NamesSeen.{NamesSeen}
use Rattle.rec_check.specs.Violations.{occurrences}

-- at which places of a list, the first of which is this one, names stand that pass a test
abbrev pub places_from : ℕ → (List ℕ → Bool) → List (List ℕ) → List ℕ
places_from at test [] = []
places_from at test (name ∷ names) =
    if test name then at ∷ places_from (at + 1) test names else places_from (at + 1) test names

abbrev pub places_of : (List ℕ → Bool) → List (List ℕ) → List ℕ
places_of test names = places_from 0 test names

-- at least n of the fields have the name
abbrev pub occurs : ℕ → List Piece → List ℕ → Bool
occurs least fields name = nat_le least (occurrences fields name)

-- the places, among these names, of those that one of the fields has, and of those that two have
pub record AreNamesSeen (names : List (List ℕ)) (fields : List Piece) (seen : NamesSeen) : Type 0 where
  pub once : seen.once.keys ≡ places_of (occurs 1 fields) names
  pub again : seen.again.keys ≡ places_of (occurs 2 fields) names
