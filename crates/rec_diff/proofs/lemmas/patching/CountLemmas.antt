-- What is shown has a newline for each line.
use Rattle.std.proofs.Common.{◌≡◌, ◌⊎◌, ◌∙◌, ℕ, ◌+◌, cond, Bool, true, false, ◌&&◌, List, [], ◌∷◌}
use Rattle.std.proofs.Common.{◌++◌, length, refl, sym, ap, ap₂, inl, inr, append-nil, length-append, arith}
use Rattle.std.specs.Prelude.{◌≢◌}
use Rattle.std.specs.List.{flat_map}
use Rattle.std.proofs.lemmas.Bool.{cases_Bool, false≢true}
use Rattle.std.proofs.lemmas.Grind.{flat_map-append}
use Rattle.rec_text.specs.Bytes.{is_nil}
use Rattle.rec_diff.specs.Changes.{Stretch, old_of, new_of, before_of, after_of}
use Rattle.rec_diff.specs.Lines.{at_line, lines, line_count, newlines}
use Rattle.rec_diff.specs.Diff.{View, shows, skips}
use Rattle.rec_diff.proofs.lemmas.LineLemmas.{length-lines}
use Rattle.rec_diff.proofs.lemmas.patching.RowLemmas.{old_lines, new_lines}
use Rattle.rec_diff.proofs.lemmas.patching.HunkLemmas.{old_view, new_view, old_text, new_text, AreCounted, newlines-append}
use Rattle.rec_diff.proofs.lemmas.patching.ViewLemmas.{AreSome, EndLines}

closed_lines : (t : List ℕ) → at_line t ≡ true → newlines t ≡ length (lines t)
closed_lines t ends =
    let all = length-lines t in
    let count : line_count t ≡ newlines t + 0 = ap (λ (x : Bool). newlines t + cond x 0 1) ends in
    omega (arith, all, count)

some_text : (s t : List ℕ) → t ≢ [] → s ++ t ≢ []
some_text [] t some = some
some_text (b ∷ bs) t some = λ none. cc

some_first : (s t : List ℕ) → is_nil s ≡ false → s ++ t ≢ []
some_first [] t some = absurd (false≢true (sym some))
some_first (b ∷ bs) t some = λ none. cc

-- a part more is counted
more_counted : (f : Stretch → List ℕ) (ps : List Stretch) (p : Stretch) → newlines (flat_map f ps) ≡ length (flat_map (λ x. lines (f x)) ps) → newlines (f p) ≡ length (lines (f p))
    → newlines (flat_map f (ps ++ p ∷ [])) ≡ length (flat_map (λ x. lines (f x)) (ps ++ p ∷ []))
more_counted f ps p some one =
    ap newlines (flat_map-append f ps (p ∷ []) ∙ ap (flat_map f ps ++◌) (append-nil (f p))) ∙ newlines-append (flat_map f ps) (f p)
    ∙ ap₂ (λ x y. x + y) some one
    ∙ sym (ap length (flat_map-append (λ x. lines (f x)) ps (p ∷ []) ∙ ap (flat_map (λ x. lines (f x)) ps ++◌) (append-nil (lines (f p)))) ∙ length-append _ _)

-- the text of either side
side_some : (v : View) (vs : List View) → (is_nil (old_view v) && is_nil (new_view v)) ≡ false → (old_text (v ∷ vs) ≢ []) ⊎ (new_text (v ∷ vs) ≢ [])
side_some v vs some = elim (cases_Bool (is_nil (old_view v))) [
  | inl e ↦ inr (some_first (new_view v) (new_text vs) (ap (λ x. x && is_nil (new_view v)) (sym e) ∙ some))
  | inr e ↦ inl (some_first (old_view v) (old_text vs) e)
]

abbrev OldEnds : List View → Type 0
OldEnds vs = EndLines old_view old_of (λ p. refl) (λ t. refl) (λ t. refl) vs

abbrev NewEnds : List View → Type 0
NewEnds vs = EndLines new_view new_of (λ p. refl) (λ t. refl) (λ t. refl) vs

pub counted : (vs : List View) (ps : List Stretch) → (old_text vs ≢ [] → newlines (before_of ps) ≡ length (old_lines ps)) → (new_text vs ≢ [] → newlines (after_of ps) ≡ length (new_lines ps))
    → OldEnds vs → NewEnds vs → AreSome vs → AreCounted ps vs
counted [] ps old new old_ends new_ends some = tt
counted (shows p ∷ vs) ps old new old_ends new_ends some =
    counted vs (ps ++ p ∷ [])
    (λ bytes. more_counted old_of ps p (old (some_text (old_of p) (old_text vs) bytes)) (closed_lines (old_of p) (old_ends.0 bytes)))
    (λ bytes. more_counted new_of ps p (new (some_text (new_of p) (new_text vs) bytes)) (closed_lines (new_of p) (new_ends.0 bytes)))
    old_ends.1 new_ends.1 some.1
counted (skips t ∷ vs) ps old new old_ends new_ends some =
    let here : is_nil t ≡ false = one_nil (is_nil t) some.0 in (
      old (some_first t (old_text vs) here),
      new (some_first t (new_text vs) here),
      skip_ends t vs old_ends.0 new_ends.0 some.1,
      counted vs [] (λ bytes. refl) (λ bytes. refl) old_ends.1 new_ends.1 some.1,
    )
  where
    one_nil : (b : Bool) → (b && b) ≡ false → b ≡ false
    one_nil true e = e
    one_nil false e = refl

    skip_ends : (t : List ℕ) (vs : List View) → (old_text vs ≢ [] → at_line t ≡ true) → (new_text vs ≢ [] → at_line t ≡ true) → AreSome vs
        → vs ≢ [] → newlines t ≡ length (lines t)
    skip_ends t [] old new some others = absurd (others refl)
    skip_ends t (v ∷ vs) old new some others = closed_lines t (elim (side_some v vs some.0) [ inl bytes ↦ old bytes | inr bytes ↦ new bytes ])
