-- Patches of small texts, one after another.
use Rattle.std.specs.Prelude.{codes}
use Rattle.std.proofs.Common.{ℕ, List, [], ◌∷◌, refl}
use Rattle.rec_journal.specs.declared.patch.Hunk.{Hunk}
use Rattle.rec_diff.specs.Composing.{ComposesAll}

abbrev hunk : ℕ → List ℕ → List ℕ → Hunk
hunk at old new = record { at = at; old = old; new = new }

-- no patch does nothing
pub no_patch : ComposesAll [] []
no_patch = refl

-- `abcd`, `axyd`, `axzd`: what the first put is changed again
pub changed_again : ComposesAll ((hunk 1 (codes "bc") (codes "xy") ∷ []) ∷ (hunk 2 (codes "y") (codes "z") ∷ []) ∷ []) (hunk 1 (codes "bc") (codes "xz") ∷ [])
changed_again = refl

-- `ab`, `axb`, `ab`: what was put is removed again
pub put_and_removed : ComposesAll ((hunk 1 [] (codes "x") ∷ []) ∷ (hunk 1 (codes "x") [] ∷ []) ∷ []) []
put_and_removed = refl

-- `a`, `b`, `a`: what was removed doesn't come again, another byte is there that is the same
pub there_and_back : ComposesAll ((hunk 0 (codes "a") (codes "b") ∷ []) ∷ (hunk 0 (codes "b") (codes "a") ∷ []) ∷ []) (hunk 0 (codes "a") (codes "a") ∷ [])
there_and_back = refl

-- `ab`, `xxab`, `xxac`: a place of the text between is counted in the first
pub place_is_moved : ComposesAll ((hunk 0 [] (codes "xx") ∷ []) ∷ (hunk 3 (codes "b") (codes "c") ∷ []) ∷ []) (hunk 0 [] (codes "xx") ∷ hunk 1 (codes "b") (codes "c") ∷ [])
place_is_moved = refl

-- `abc`, `bc`, `c`: neighbours are one hunk
pub neighbours_are_one : ComposesAll ((hunk 0 (codes "a") [] ∷ []) ∷ (hunk 0 (codes "b") [] ∷ []) ∷ []) (hunk 0 (codes "ab") [] ∷ [])
neighbours_are_one = refl

-- `abcdef`, `abXef`, `aYf`, `aYfZ`: a later hunk goes over an earlier one and beyond it
pub wider_hunk : ComposesAll
    ((hunk 2 (codes "cd") (codes "X") ∷ []) ∷ (hunk 1 (codes "bXe") (codes "Y") ∷ []) ∷ (hunk 3 [] (codes "Z") ∷ []) ∷ [])
    (hunk 1 (codes "bcde") (codes "Y") ∷ hunk 6 [] (codes "Z") ∷ [])
wider_hunk = refl
