-- The patterns of a descriptor that are built so far, each under its text.
use Rattle.std.specs.Prelude.{◌≡◌, ℕ, List, map, Some, String}
use Rattle.std.specs.HashMap.{HashMap, get_by_text, keys}
use Rattle.std.specs.String.{string_bytes}
use Rattle.std.specs.declared.rc.Rc.{Rc}
use Rattle.regex.specs.declared.string.regex.Regex.{Regex}
use Rattle.rec_sex.specs.Patterns.{IsBuiltFrom}

module _ {Y Z S : Type 0} where
  -- the texts whose patterns are built
  abbrev pub texts_of : HashMap (String Y) (Rc Regex Z) S → List (List ℕ)
  texts_of built = map string_bytes (keys built)

  -- the pattern that a text finds is what `regex` builds of that text
  abbrev pub ArePatterns : HashMap (String Y) (Rc Regex Z) S → Type 0
  ArePatterns built = (text : List ℕ) (pattern : Rc Regex Z) → get_by_text built text ≡ Some pattern
      → IsBuiltFrom text pattern.value
