-- Hunks lead from line to line.
use Rattle.std.proofs.Common.{◌≡◌, ◌∙◌, ℕ, ◌+◌, ◌-◌, ◌<◌, ◌≤◌, ◌^◌, cond, eqb, leb, Bool, true, false, ◌&&◌, List, [], ◌∷◌}
use Rattle.std.proofs.Common.{◌++◌, length, take, drop, refl, sym, ap, ap₂, subst, inl, inr, append_assoc, append-nil, length-append, arith}
use Rattle.std.specs.Prelude.{◌≢◌, Option, Some, None, option_map}
use Rattle.std.specs.List.{flat_map}
use Rattle.std.proofs.lemmas.Bool.{cases_Bool, eq-eqb, le-leb}
use Rattle.std.proofs.lemmas.Grind.{flat_map-append}
use Rattle.std.proofs.lemmas.List.{take_at, drop_at}
use Rattle.std.proofs.lemmas.List.Sums.{sum_by-append, count_by-le-length}
use Rattle.rec_diff.specs.Changes.{Stretch, old_of, new_of, before_of, after_of}
use Rattle.rec_diff.specs.Lines.{at_line, lines, line_count, newlines, onto_first_line}
use Rattle.rec_diff.specs.Diff.{heading_of, part_text, head, hunk, hunk_if, hunks}
use Rattle.rec_diff.specs.Diff.{View, shows, skips}
use Rattle.rec_diff.specs.Patched.{after_skip, patched}
use Rattle.rec_diff.proofs.lemmas.LineLemmas.{newlines-first}
use Rattle.rec_diff.proofs.lemmas.patching.RowLemmas.{part_rows, rows-parts, SaysNothing, old_lines, new_lines, parts_lead}
use Rattle.rec_diff.proofs.lemmas.patching.HeadLemmas.{HasNoNewline-heading_of, lines-head, head_leads}

skip_lines : (p m passed made : ℕ) (skip left : List (List ℕ)) (next : List (List ℕ) → Option (List (List ℕ))) → p ≡ passed + length skip → m ≡ made + length skip
    → after_skip p m passed made (skip ++ left) next ≡ option_map (skip ++◌) (next left)
skip_lines p m passed made skip left next old new =
    let gap : p - passed ≡ length skip = omega (arith, old) in
    let all : length skip ≤ length (skip ++ left) = omega (arith, length-append skip left) in
    ap (λ g. cond (eqb m (made + g) && leb g (length (skip ++ left))) (option_map (take g (skip ++ left) ++◌) (next (drop g (skip ++ left)))) None) gap
    ∙ ap₂ (λ x y. cond (x && y) (option_map (take (length skip) (skip ++ left) ++◌) (next (drop (length skip) (skip ++ left)))) None)
    (eq-eqb m (made + length skip) new) (le-leb (length skip) (length (skip ++ left)) all)
    ∙ ap₂ (λ t d. option_map (t ++◌) (next d)) (take_at skip left (length skip) refl) (drop_at skip left (length skip) refl)

few_newlines : (t : List ℕ) → newlines t ≤ length t
few_newlines t = count_by-le-length (λ b. eqb b 10) t

few_lines : (t : List ℕ) → line_count t ≤ length t
few_lines [] = omega arith
few_lines (b ∷ bs) = elim (cases_Bool (at_line (b ∷ bs))) [
  | inl e ↦ let n = few_newlines (b ∷ bs) in subst (λ x. newlines (b ∷ bs) + cond x 0 1 ≤ length (b ∷ bs)) (sym e) (omega (arith, n))
  | inr e ↦ let n = open_newlines b bs e in subst (λ x. newlines (b ∷ bs) + cond x 0 1 ≤ length (b ∷ bs)) (sym e) (omega (arith, n))
]
  where
    one_more : (x : Bool) (n : ℕ) → cond x 1 0 + n ≤ 1 + n
    one_more true n = omega arith
    one_more false n = omega arith

    open_newlines : (b : ℕ) (bs : List ℕ) → at_line (b ∷ bs) ≡ false → newlines (b ∷ bs) + 1 ≤ length (b ∷ bs)
    open_newlines b [] e = let n : newlines (b ∷ []) ≡ 0 = ap (λ x. 0 + cond x 1 0) e in omega (arith, n)
    open_newlines b (c ∷ cs) e =
        let n = open_newlines c cs e in
        let k = one_more (eqb b 10) (newlines (c ∷ cs)) in
        omega (arith, n, k, newlines-first b (c ∷ cs))

-- the rows of a hunk, where it is the next one
module _ (b a : List ℕ) (first : Stretch) (others : List Stretch) where
  abbrev parts : List Stretch
  parts = first ∷ others

  module _ (fits_old : length b + length (before_of parts) < 2 ^ 63) (fits_new : length a + length (after_of parts) < 2 ^ 63) where
    old_first : newlines b + 1 < 2 ^ 64
    old_first = let n = few_newlines b in omega (arith, n, fits_old)

    new_first : newlines a + 1 < 2 ^ 64
    new_first = let n = few_newlines a in omega (arith, n, fits_new)

    old_few : line_count (before_of parts) < 2 ^ 64
    old_few = let n = few_lines (before_of parts) in omega (arith, n, fits_old)

    new_few : line_count (after_of parts) < 2 ^ 64
    new_few = let n = few_lines (after_of parts) in omega (arith, n, fits_new)

    abbrev row : List ℕ
    row = head (newlines b) (newlines a) (before_of parts) (after_of parts) (heading_of b parts)

    hunk_rows : (rest : List ℕ) → lines (hunk b a parts ++ rest) ≡ row ∷ (flat_map part_rows parts ++ lines rest)
    hunk_rows rest =
        ap lines (append_assoc row (flat_map part_text parts) rest)
        ∙ lines-head (newlines b) (newlines a) (before_of parts) (after_of parts) (heading_of b parts) old_first new_first old_few new_few (HasNoNewline-heading_of b parts)
        (flat_map part_text parts ++ rest)
        ∙ ap (row ∷◌) (rows-parts parts rest)

    hunk_leads : (p m : ℕ) (skip left : List (List ℕ)) (rest : List ℕ) → newlines b ≡ p + length skip → newlines a ≡ m + length skip → SaysNothing (lines rest)
        → patched p m (lines (hunk b a parts ++ rest)) (skip ++ (old_lines parts ++ left))
        ≡ option_map (skip ++◌) (option_map (new_lines parts ++◌) (patched (newlines b + length (old_lines parts)) (newlines a + length (new_lines parts)) (lines rest) left))
    hunk_leads p m skip left rest old new quiet =
        ap (λ rows. patched p m rows (skip ++ (old_lines parts ++ left))) (hunk_rows rest)
        ∙ head_leads (newlines b) (newlines a) (before_of parts) (after_of parts) (heading_of b parts) old_first new_first old_few new_few (HasNoNewline-heading_of b parts) p m
        (flat_map part_rows parts ++ lines rest) (skip ++ (old_lines parts ++ left))
        ∙ skip_lines (newlines b) (newlines a) p m skip (old_lines parts ++ left) (λ l. patched (newlines b) (newlines a) (flat_map part_rows parts ++ lines rest) l) old new
        ∙ ap (option_map (skip ++◌)) (parts_lead parts (newlines b) (newlines a) (lines rest) left quiet)

abbrev pub old_view : View → List ℕ
old_view (shows p) = old_of p
old_view (skips t) = t

abbrev pub new_view : View → List ℕ
new_view (shows p) = new_of p
new_view (skips t) = t

abbrev pub old_text : List View → List ℕ
old_text vs = flat_map old_view vs

abbrev pub new_text : List View → List ℕ
new_text vs = flat_map new_view vs

abbrev pub old_view_lines : List View → List (List ℕ)
old_view_lines vs = flat_map (λ v. lines (old_view v)) vs

abbrev pub new_view_lines : List View → List (List ℕ)
new_view_lines vs = flat_map (λ v. lines (new_view v)) vs

-- as many newlines as lines stand in what is shown before lines that aren't, and in these, where others follow
abbrev pub AreCounted : List Stretch → List View → Type 0
AreCounted ps [] = Unit {0}
AreCounted ps (shows p ∷ vs) = AreCounted (ps ++ p ∷ []) vs
AreCounted ps (skips t ∷ vs) =
    (newlines (before_of ps) ≡ length (old_lines ps)) × (newlines (after_of ps) ≡ length (new_lines ps))
    × (vs ≢ [] → newlines t ≡ length (lines t)) × AreCounted [] vs

pub newlines-append : (s t : List ℕ) → newlines (s ++ t) ≡ newlines s + newlines t
newlines-append s t = sum_by-append _ s t

-- the first row of a hunk begins with `@`
SaysNothing-onto : (ls : List (List ℕ)) → SaysNothing (onto_first_line 64 ls)
SaysNothing-onto [] = refl
SaysNothing-onto (l ∷ ls) = refl

SaysNothing-hunk_if : (b a : List ℕ) (ps : List Stretch) (rest : List ℕ) → SaysNothing (lines rest) → SaysNothing (lines (hunk_if b a ps ++ rest))
SaysNothing-hunk_if b a [] rest quiet = quiet
SaysNothing-hunk_if b a (p ∷ ps) rest quiet = SaysNothing-onto (lines (drop 1 (hunk b a (p ∷ ps) ++ rest)))

SaysNothing-hunks : (b a : List ℕ) (ps : List Stretch) (vs : List View) → SaysNothing (lines (hunks b a ps vs))
SaysNothing-hunks b a ps [] = subst (λ t. SaysNothing (lines t)) (append-nil (hunk_if b a ps)) (SaysNothing-hunk_if b a ps [] tt)
SaysNothing-hunks b a ps (shows p ∷ vs) = SaysNothing-hunks b a (ps ++ p ∷ []) vs
SaysNothing-hunks b a ps (skips t ∷ vs) =
    SaysNothing-hunk_if b a ps (hunks (b ++ (before_of ps ++ t)) (a ++ (after_of ps ++ t)) [] vs) (SaysNothing-hunks (b ++ (before_of ps ++ t)) (a ++ (after_of ps ++ t)) [] vs)

last_shown : (f : Stretch → List (List ℕ)) (ps : List Stretch) (p : Stretch) (rest : List (List ℕ)) → flat_map f (ps ++ p ∷ []) ++ rest ≡ flat_map f ps ++ (f p ++ rest)
last_shown f ps p rest =
    ap (◌++ rest) (flat_map-append f ps (p ∷ []) ∙ ap (flat_map f ps ++◌) (append-nil (f p))) ∙ append_assoc (flat_map f ps) (f p) rest

length-last_shown : (f : Stretch → List ℕ) (ps : List Stretch) (p : Stretch) → length (flat_map f (ps ++ p ∷ [])) ≡ length (flat_map f ps) + length (f p)
length-last_shown f ps p = ap length (flat_map-append f ps (p ∷ []) ∙ ap (flat_map f ps ++◌) (append-nil (f p))) ∙ length-append (flat_map f ps) (f p)

-- the rest of a text is led on, from the hunk that begins next
abbrev LeadsOn : List View → Type 0
LeadsOn vs = (b a : List ℕ) (p m : ℕ) (skip : List (List ℕ)) → newlines b ≡ p + length skip → newlines a ≡ m + length skip
    → length b + 0 + length (old_text vs) < 2 ^ 63 → length a + 0 + length (new_text vs) < 2 ^ 63
    → patched p m (lines (hunks b a [] vs)) (skip ++ old_view_lines vs) ≡ Some (skip ++ new_view_lines vs)

rest_leads : (vs : List View) (t b a o n : List ℕ) (j k : ℕ) → newlines o ≡ j → newlines n ≡ k → (vs ≢ [] → newlines t ≡ length (lines t))
    → length b + length o + (length t + length (old_text vs)) < 2 ^ 63 → length a + length n + (length t + length (new_text vs)) < 2 ^ 63 → LeadsOn vs
    → patched (newlines b + j) (newlines a + k) (lines (hunks (b ++ (o ++ t)) (a ++ (n ++ t)) [] vs)) (lines t ++ old_view_lines vs) ≡ Some (lines t ++ new_view_lines vs)
rest_leads [] t b a o n j k old new more fits_old fits_new next = refl
rest_leads (v ∷ vs) t b a o n j k old new more fits_old fits_new next =
    let count = more λ none. cc in
    let lines_old : newlines (b ++ (o ++ t)) ≡ newlines b + (newlines o + newlines t) = newlines-append b (o ++ t) ∙ ap (λ x. newlines b + x) (newlines-append o t) in
    let lines_new : newlines (a ++ (n ++ t)) ≡ newlines a + (newlines n + newlines t) = newlines-append a (n ++ t) ∙ ap (λ x. newlines a + x) (newlines-append n t) in
    let long_old : length (b ++ (o ++ t)) ≡ length b + (length o + length t) = length-append b (o ++ t) ∙ ap (λ x. length b + x) (length-append o t) in
    let long_new : length (a ++ (n ++ t)) ≡ length a + (length n + length t) = length-append a (n ++ t) ∙ ap (λ x. length a + x) (length-append n t) in
    next (b ++ (o ++ t)) (a ++ (n ++ t)) (newlines b + j) (newlines a + k) (lines t) (omega (arith, old, count, lines_old)) (omega (arith, new, count, lines_new))
    (omega (arith, long_old, fits_old)) (omega (arith, long_new, fits_new))

pub hunks_lead : (vs : List View) (b a : List ℕ) (ps : List Stretch) (p m : ℕ) (skip : List (List ℕ)) → newlines b ≡ p + length skip → newlines a ≡ m + length skip
    → length b + length (before_of ps) + length (old_text vs) < 2 ^ 63 → length a + length (after_of ps) + length (new_text vs) < 2 ^ 63 → AreCounted ps vs
    → patched p m (lines (hunks b a ps vs)) (skip ++ (old_lines ps ++ old_view_lines vs)) ≡ Some (skip ++ (new_lines ps ++ new_view_lines vs))
hunks_lead [] b a [] p m skip old new fits_old fits_new counted = refl
hunks_lead [] b a (first ∷ others) p m skip old new fits_old fits_new counted =
    ap (λ t. patched p m (lines t) (skip ++ (old_lines (first ∷ others) ++ []))) (sym (append-nil (hunk b a (first ∷ others))))
    ∙ hunk_leads b a first others (omega (arith, fits_old)) (omega (arith, fits_new)) p m skip [] [] old new tt
hunks_lead (shows q ∷ vs) b a ps p m skip old new fits_old fits_new counted =
    let count_old : length (old_text (shows q ∷ vs)) ≡ length (old_of q) + length (old_text vs) = length-append (old_of q) (old_text vs) in
    let count_new : length (new_text (shows q ∷ vs)) ≡ length (new_of q) + length (new_text vs) = length-append (new_of q) (new_text vs) in
    let last_old = length-last_shown old_of ps q in
    let last_new = length-last_shown new_of ps q in
    ap (λ l. patched p m (lines (hunks b a (ps ++ q ∷ []) vs)) (skip ++ l)) (sym (last_shown (λ x. lines (old_of x)) ps q (old_view_lines vs)))
    ∙ hunks_lead vs b a (ps ++ q ∷ []) p m skip old new (omega (arith, count_old, last_old, fits_old)) (omega (arith, count_new, last_new, fits_new)) counted
    ∙ ap (λ l. Some (skip ++ l)) (last_shown (λ x. lines (new_of x)) ps q (new_view_lines vs))
hunks_lead (skips t ∷ []) b a [] p m skip old new fits_old fits_new counted = refl
hunks_lead (skips t ∷ v ∷ vs) b a [] p m skip old new fits_old fits_new counted =
    let more = counted.2 (λ none. cc) in
    let count_old : length (old_text (skips t ∷ v ∷ vs)) ≡ length t + length (old_text (v ∷ vs)) = length-append t (old_text (v ∷ vs)) in
    let count_new : length (new_text (skips t ∷ v ∷ vs)) ≡ length t + length (new_text (v ∷ vs)) = length-append t (new_text (v ∷ vs)) in
    let long_old = length-append b t in
    let long_new = length-append a t in
    let lines_old : newlines (b ++ t) ≡ newlines b + newlines t = newlines-append b t in
    let lines_new : newlines (a ++ t) ≡ newlines a + newlines t = newlines-append a t in
    let skipped : length (skip ++ lines t) ≡ length skip + length (lines t) = length-append skip (lines t) in
    ap (λ l. patched p m (lines (hunks (b ++ t) (a ++ t) [] (v ∷ vs))) l) (sym (append_assoc skip (lines t) (old_view_lines (v ∷ vs))))
    ∙ hunks_lead (v ∷ vs) (b ++ t) (a ++ t) [] p m (skip ++ lines t) (omega (arith, old, more, lines_old, skipped)) (omega (arith, new, more, lines_new, skipped))
    (omega (arith, fits_old, count_old, long_old)) (omega (arith, fits_new, count_new, long_new)) counted.3
    ∙ ap Some (append_assoc skip (lines t) (new_view_lines (v ∷ vs)))
hunks_lead (skips t ∷ vs) b a (first ∷ others) p m skip old new fits_old fits_new counted =
    let ps = first ∷ others in
    let nb = b ++ (before_of ps ++ t) in
    let na = a ++ (after_of ps ++ t) in
    let count_old : length (old_text (skips t ∷ vs)) ≡ length t + length (old_text vs) = length-append t (old_text vs) in
    let count_new : length (new_text (skips t ∷ vs)) ≡ length t + length (new_text vs) = length-append t (new_text vs) in
    hunk_leads b a first others (omega (arith, fits_old)) (omega (arith, fits_new)) p m skip (lines t ++ old_view_lines vs) (hunks nb na [] vs) old new (SaysNothing-hunks nb na [] vs)
    ∙ ap (λ o. option_map (skip ++◌) (option_map (new_lines ps ++◌) o))
    (rest_leads vs t b a (before_of ps) (after_of ps) (length (old_lines ps)) (length (new_lines ps)) counted.0 counted.1 counted.2
    (omega (arith, fits_old, count_old)) (omega (arith, fits_new, count_new))
    (λ b a p m skip old new few_old few_new. hunks_lead vs b a [] p m skip old new few_old few_new counted.3))
