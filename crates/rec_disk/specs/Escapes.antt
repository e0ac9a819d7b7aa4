-- Paths and words, as they are told to people: nothing in them steers a terminal.
use Rattle.std.specs.Prelude.{ℕ, ◌+◌, ◌/◌, ◌%◌, List, [], ◌∷◌, chars, flat_map, if◌then◌else◌}
use Rattle.std.specs.Char.{encode_utf8, is_control}

-- a byte by a backslash and three octal digits
abbrev pub octal : ℕ → List ℕ
octal byte = 92 ∷ (48 + byte / 64 % 8) ∷ (48 + byte / 8 % 8) ∷ (48 + byte % 8) ∷ []

-- a character as it is, and a control character (U+0000 to U+001F, U+007F to U+009F) byte by byte
abbrev pub escaped_character : ℕ → List ℕ
escaped_character c = if is_control c then flat_map octal (encode_utf8 c) else encode_utf8 c

-- a text without control characters
abbrev pub escaped : List ℕ → List ℕ
escaped text = flat_map escaped_character (chars text)
