-- Lines that can be shown.
use Rattle.std.proofs.Common.{◌≡◌, refl, inl, inr, true, ℕ, zero, suc, List, [], ◌∷◌, ◌++◌, arith}
use Rattle.std.specs.List.{All, list_all}
use Rattle.std.proofs.lemmas.List.Elements.{All-append}
use Rattle.std.proofs.lemmas.List.Sums.{AllPass-from_list_all}
use Rattle.rec_explain.specs.Lines.{IsShown, is_shown}

all_shown : (line : List ℕ) → list_all is_shown line ≡ true → All IsShown line
all_shown line shown = λ k d lt. inr (AllPass-from_list_all is_shown line shown k d lt)

newline_is_shown : All IsShown (10 ∷ [])
newline_is_shown zero d lt = inl refl
newline_is_shown (suc k) d lt = absurd (omega arith)

-- a line that can be shown, and its newline, after lines that can
pub line_is_shown : (lines line : List ℕ) → All IsShown lines → list_all is_shown line ≡ true → All IsShown ((lines ++ line) ++ 10 ∷ [])
line_is_shown lines line before shown = All-append IsShown (lines ++ line) (10 ∷ []) (All-append IsShown lines line before (all_shown line shown)) newline_is_shown
