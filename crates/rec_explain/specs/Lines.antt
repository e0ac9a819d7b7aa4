-- The lines of an explanation, which people read on a terminal.
use Rattle.std.specs.Prelude.{◌≡◌, ◌⊎◌, ℕ, Bool, true, List, [], ◌∷◌, ◌++◌, ◌==◌, ◌&&◌, not, nat_le, if◌then◌else◌}
use Rattle.std.specs.List.{list_all}
use Rattle.rec_text.specs.Ascii.{newline, space, del}

-- no control character of ASCII
abbrev pub is_shown : ℕ → Bool
is_shown byte = nat_le space byte && not (byte == del)

-- a byte of lines that can be shown: their newlines, and no other control character
abbrev pub IsShown : ℕ → Type 0
IsShown byte = (byte ≡ newline) ⊎ (is_shown byte ≡ true)

-- whole lines: nothing, or the last byte is a newline
abbrev pub AreLines : List ℕ → Type 0
AreLines text = (text ≡ []) ⊎ ((before : List ℕ) × (text ≡ before ++ newline ∷ []))

-- the lines with one more, where it can be shown
abbrev pub with_line : List ℕ → List ℕ → List ℕ
with_line lines line = if list_all is_shown line then lines ++ (line ++ newline ∷ []) else lines
