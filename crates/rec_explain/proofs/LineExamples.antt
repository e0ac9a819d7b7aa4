-- Lines that are added to others.
use Rattle.std.specs.Prelude.{codes}
use Rattle.std.proofs.Common.{◌≡◌, refl, false, []}
use Rattle.rec_explain.specs.Lines.{is_shown, with_line}

-- a line comes last, and gets its newline
one_more : with_line (codes "A: 1\n") (codes "B: 2") ≡ codes "A: 1\nB: 2\n"
one_more = refl

-- one with a tab is left out, and so is one with a newline of its own
tab_is_left_out : with_line (codes "A: 1\n") (codes "B:\t2") ≡ codes "A: 1\n"
tab_is_left_out = refl

newline_is_left_out : with_line [] (codes "A: 1\nB: 2") ≡ []
newline_is_left_out = refl

-- letters beyond ASCII are shown, and so is a line without a byte
other_letters : with_line [] (codes "é") ≡ codes "é\n"
other_letters = refl

nothing_on_a_line : with_line (codes "^\n") [] ≡ codes "^\n\n"
nothing_on_a_line = refl

-- the byte that erases
delete_is_no_character : is_shown 127 ≡ false
delete_is_no_character = refl
