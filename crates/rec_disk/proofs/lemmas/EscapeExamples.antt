-- What is told of some texts.
use Rattle.std.proofs.Common.{◌≡◌, [], ◌∷◌, ◌++◌, codes, refl}
use Rattle.std.specs.Char.{encode_utf8}
use Rattle.std.specs.Str.{chars}
use Rattle.rec_disk.specs.Escapes.{escaped}

-- plain text is as it is, with its backslashes: é and € are no control characters, and have bytes from 80 to 9F
plain_text : escaped (codes "a b\\033" ++ (195 ∷ 169 ∷ 226 ∷ 130 ∷ 172 ∷ [])) ≡ codes "a b\\033" ++ (195 ∷ 169 ∷ 226 ∷ 130 ∷ 172 ∷ [])
unfolding chars encode_utf8
plain_text = refl

-- ESC, newline, DEL, and U+0085
controls : escaped (97 ∷ 27 ∷ 91 ∷ 10 ∷ 127 ∷ 194 ∷ 133 ∷ []) ≡ codes "a\\033[\\012\\177\\302\\205"
unfolding chars encode_utf8
controls = refl
