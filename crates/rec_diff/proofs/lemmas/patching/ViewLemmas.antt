-- The views of whole lines: their lines, and where these end.
use Rattle.std.proofs.Common.{◌≡◌, ◌∙◌, ℕ, ◌+◌, ◌-◌, ◌<◌, ltb, true, false, ◌&&◌, List, [], ◌∷◌}
use Rattle.std.proofs.Common.{◌++◌, length, take, drop, refl, sym, ap, ap₂, subst, inl, inr, append_assoc, arith}
use Rattle.std.specs.Prelude.{◌≢◌, map}
use Rattle.std.specs.List.{flat_map, between}
use Rattle.std.proofs.lemmas.Bool.{cases_Bool, cond-true, cond-false, ltb-true}
use Rattle.std.proofs.lemmas.Grind.{flat_map-append}
use Rattle.std.proofs.lemmas.List.{take-append-drop}
use Rattle.std.proofs.lemmas.List.Edits.{length-between}
use Rattle.std.proofs.lemmas.List.Folds.{flat_map-map}
use Rattle.rec_text.specs.Bytes.{is_nil}
use Rattle.rec_diff.specs.Changes.{Stretch, stays, turns}
use Rattle.rec_diff.specs.Lines.{at_line, lines, line_count, first_lines, inner_lines, last_lines}
use Rattle.rec_diff.specs.WholeLines.{AreLines}
use Rattle.rec_diff.specs.Diff.{View, shows, skips, put_shown, put_stay, shown_before, views_of}
use Rattle.rec_diff.proofs.lemmas.ContextLemmas.{cut_lines, from_index, up_to_index}
use Rattle.rec_diff.proofs.lemmas.CutPlaceLemmas.{AreTidy}
use Rattle.rec_diff.proofs.lemmas.LineLemmas.{length-lines}
use Rattle.rec_diff.proofs.lemmas.ShareLemmas.{text_of}
use Rattle.rec_diff.proofs.lemmas.TrimLemmas.{at_line-rest, are_first, lines_end}
use Rattle.rec_diff.proofs.lemmas.patching.HunkLemmas.{old_view, new_view}

-- no view is empty
abbrev pub AreSome : List View → Type 0
AreSome [] = Unit {0}
AreSome (v ∷ vs) = ((is_nil (old_view v) && is_nil (new_view v)) ≡ false) × AreSome vs

AreSome-put_shown : (t : List ℕ) (vs : List View) → AreSome vs → AreSome (put_shown t vs)
AreSome-put_shown [] vs some = some
AreSome-put_shown (b ∷ bs) vs some = (refl, some)

text_of-shown : (f : View → List ℕ) → ((t : List ℕ) → f (shows (stays t)) ≡ t) → (t : List ℕ) (vs : List View) → flat_map f (put_shown t vs) ≡ t ++ flat_map f vs
text_of-shown f is [] vs = refl
text_of-shown f is (b ∷ bs) vs = ap (◌++ flat_map f vs) (is (b ∷ bs))

lines_of-shown : (f : View → List ℕ) → ((t : List ℕ) → f (shows (stays t)) ≡ t) → (t : List ℕ) (vs : List View)
    → flat_map (λ v. lines (f v)) (put_shown t vs) ≡ lines t ++ flat_map (λ v. lines (f v)) vs
lines_of-shown f is [] vs = refl
lines_of-shown f is (b ∷ bs) vs = ap (λ t. lines t ++ flat_map (λ v. lines (f v)) vs) (is (b ∷ bs))

not_nil : (t : List ℕ) (some : List (List ℕ)) → lines t ≡ some → 0 < length some → is_nil t ≡ false
not_nil [] some are count = let none : 0 ≡ length some = ap length are in absurd (omega (arith, none, count))
not_nil (b ∷ bs) some are count = refl

-- the lines of the three parts of a text
module _ (n m : ℕ) (t : List ℕ) (many : n + m < line_count t) where
  abbrev ls : List (List ℕ)
  ls = lines t

  abbrev k : ℕ
  k = line_count t - m

  from_n : lines (text_of (drop n ls)) ≡ drop n ls
  from_n = (are_first (take n ls) (drop n ls) t (sym (take-append-drop n ls))).later

  parts_from_n : drop n ls ≡ between n k ls ++ drop k ls
  parts_from_n = sym (from_index n k ls (omega arith))

  lines_first : lines (first_lines n t) ≡ take n ls
  lines_first = (are_first (take n ls) (drop n ls) t (sym (take-append-drop n ls))).alone

  lines_inner : lines (inner_lines n m t) ≡ between n k ls
  lines_inner = (are_first (between n k ls) (drop k ls) (text_of (drop n ls)) (from_n ∙ parts_from_n)).alone

  lines_last : lines (last_lines m t) ≡ drop k ls
  lines_last = (are_first (take k ls) (drop k ls) t (sym (take-append-drop k ls))).later

  pub lines_of_parts : lines (first_lines n t) ++ (lines (inner_lines n m t) ++ lines (last_lines m t)) ≡ lines t
  lines_of_parts =
      ap₂ (λ x y. x ++ y) lines_first (ap₂ (λ x y. x ++ y) lines_inner lines_last ∙ from_index n k ls (omega arith)) ∙ take-append-drop n ls

  pub some_inner : is_nil (inner_lines n m t) ≡ false
  some_inner =
      let count = length-lines t in
      let some : length (between n k ls) ≡ k - n = length-between ls n k (omega (arith, count)) in
      not_nil (inner_lines n m t) (between n k ls) lines_inner (omega (arith, some))

  -- where lines end after which bytes come
  pub first_ends : (rest : List ℕ) → (rest ≢ [] → at_line t ≡ true) → inner_lines n m t ++ (last_lines m t ++ rest) ≢ [] → at_line (first_lines n t) ≡ true
  first_ends rest ends bytes =
      lines_end t (take n ls) (drop n ls) rest (sym (take-append-drop n ls)) ends
      (subst (λ x. x ++ rest ≢ []) (sym (ap text_of parts_from_n ∙ flat_map-append (λ l. l) (between n k ls) (drop k ls)))
      (subst (λ x. x ≢ []) (sym (append_assoc (inner_lines n m t) (last_lines m t) rest)) bytes))

  pub inner_ends : (rest : List ℕ) → (rest ≢ [] → at_line t ≡ true) → last_lines m t ++ rest ≢ [] → at_line (inner_lines n m t) ≡ true
  inner_ends rest ends bytes =
      let both : first_lines n t ++ inner_lines n m t ≡ text_of (take k ls) =
      sym (flat_map-append (λ l. l) (take n ls) (between n k ls)) ∙ ap text_of (up_to_index n k ls (omega arith)) in
      at_line-rest (first_lines n t) (inner_lines n m t) (ap at_line both ∙ lines_end t (take k ls) (drop k ls) rest (sym (take-append-drop k ls)) ends bytes)

  pub last_ends : at_line t ≡ true → at_line (last_lines m t) ≡ true
  last_ends ends =
      at_line-rest (first_lines n t ++ inner_lines n m t) (last_lines m t)
      (ap at_line (append_assoc (first_lines n t) (inner_lines n m t) (last_lines m t) ∙ sym (cut_lines n m t (omega arith))) ∙ ends)

-- what f and g say of views of whole lines: the one of views, the other of parts
module _ (f : View → List ℕ) (g : Stretch → List ℕ) (shown : (p : Stretch) → f (shows p) ≡ g p) (skipped : (t : List ℕ) → f (skips t) ≡ t) (kept : (t : List ℕ) → g (stays t) ≡ t) where
  shown_stay : (t : List ℕ) → f (shows (stays t)) ≡ t
  shown_stay t = shown (stays t) ∙ kept t

  text-put_stay : (n m : ℕ) (t : List ℕ) (vs : List View) → flat_map f (put_stay n m t vs) ≡ t ++ flat_map f vs
  text-put_stay n m t vs = elim (cases_Bool (ltb (n + m) (line_count t))) [
    | inl e ↦
        let many = ltb-true (n + m) (line_count t) e in
        ap (flat_map f) (cond-true (ltb (n + m) (line_count t)) _ _ e)
        ∙ text_of-shown f shown_stay (first_lines n t) (skips (inner_lines n m t) ∷ put_shown (last_lines m t) vs)
        ∙ ap₂ (λ x y. first_lines n t ++ (x ++ y)) (skipped (inner_lines n m t)) (text_of-shown f shown_stay (last_lines m t) vs)
        ∙ ap (first_lines n t ++◌) (sym (append_assoc (inner_lines n m t) (last_lines m t) (flat_map f vs)))
        ∙ sym (append_assoc (first_lines n t) (inner_lines n m t ++ last_lines m t) (flat_map f vs))
        ∙ ap (◌++ flat_map f vs) (sym (cut_lines n m t (omega (arith, many))))
    | inr e ↦ ap (flat_map f) (cond-false (ltb (n + m) (line_count t)) _ _ e) ∙ text_of-shown f shown_stay t vs
  ]

  lines-put_stay : (n m : ℕ) (t : List ℕ) (vs : List View) → flat_map (λ v. lines (f v)) (put_stay n m t vs) ≡ lines t ++ flat_map (λ v. lines (f v)) vs
  lines-put_stay n m t vs = elim (cases_Bool (ltb (n + m) (line_count t))) [
    | inl e ↦
        let many = ltb-true (n + m) (line_count t) e in
        let rest = flat_map (λ v. lines (f v)) vs in
        ap (flat_map (λ v. lines (f v))) (cond-true (ltb (n + m) (line_count t)) _ _ e)
        ∙ lines_of-shown f shown_stay (first_lines n t) (skips (inner_lines n m t) ∷ put_shown (last_lines m t) vs)
        ∙ ap₂ (λ x y. lines (first_lines n t) ++ (lines x ++ y)) (skipped (inner_lines n m t)) (lines_of-shown f shown_stay (last_lines m t) vs)
        ∙ ap (lines (first_lines n t) ++◌) (sym (append_assoc (lines (inner_lines n m t)) (lines (last_lines m t)) rest))
        ∙ sym (append_assoc (lines (first_lines n t)) (lines (inner_lines n m t) ++ lines (last_lines m t)) rest)
        ∙ ap (◌++ rest) (lines_of_parts n m t many)
    | inr e ↦ ap (flat_map (λ v. lines (f v))) (cond-false (ltb (n + m) (line_count t)) _ _ e) ∙ lines_of-shown f shown_stay t vs
  ]

  pub text-views : (first n : ℕ) (ps : List Stretch) → flat_map f (views_of first n ps) ≡ flat_map g ps
  text-views first n [] = refl
  text-views first n (stays t ∷ ps) =
      text-put_stay first (shown_before n ps) t (views_of n n ps) ∙ ap₂ (λ x y. x ++ y) (sym (kept t)) (text-views n n ps)
  text-views first n (turns o w ∷ ps) = ap₂ (λ x y. x ++ y) (shown (turns o w)) (text-views n n ps)

  pub lines-views : (first n : ℕ) (ps : List Stretch) → flat_map (λ v. lines (f v)) (views_of first n ps) ≡ flat_map (λ p. lines (g p)) ps
  lines-views first n [] = refl
  lines-views first n (stays t ∷ ps) =
      lines-put_stay first (shown_before n ps) t (views_of n n ps) ∙ ap₂ (λ x y. lines x ++ y) (sym (kept t)) (lines-views n n ps)
  lines-views first n (turns o w ∷ ps) = ap₂ (λ x y. lines x ++ y) (shown (turns o w)) (lines-views n n ps)

  -- nothing is open of a line at the end of a view, where other bytes come after it
  abbrev pub EndLines : List View → Type 0
  EndLines [] = Unit {0}
  EndLines (v ∷ vs) = (flat_map f vs ≢ [] → at_line (f v) ≡ true) × EndLines vs

  EndLines-put_shown : (t : List ℕ) (vs : List View) → (flat_map f vs ≢ [] → at_line t ≡ true) → EndLines vs → EndLines (put_shown t vs)
  EndLines-put_shown [] vs ends are = are
  EndLines-put_shown (b ∷ bs) vs ends are = (λ some. ap at_line (shown_stay (b ∷ bs)) ∙ ends some, are)

  EndLines-put_stay : (n m : ℕ) (t : List ℕ) (vs : List View) → (flat_map f vs ≢ [] → at_line t ≡ true) → EndLines vs → EndLines (put_stay n m t vs)
  EndLines-put_stay n m t vs ends are = elim (cases_Bool (ltb (n + m) (line_count t))) [
    | inl e ↦
        let many = ltb-true (n + m) (line_count t) e in
        let rest = flat_map f vs in
        let after_inner : flat_map f (put_shown (last_lines m t) vs) ≡ last_lines m t ++ rest = text_of-shown f shown_stay (last_lines m t) vs in
        let after_first : flat_map f (skips (inner_lines n m t) ∷ put_shown (last_lines m t) vs) ≡ inner_lines n m t ++ (last_lines m t ++ rest) =
        ap₂ (λ x y. x ++ y) (skipped (inner_lines n m t)) after_inner in
        subst EndLines (sym (cond-true (ltb (n + m) (line_count t)) _ _ e))
        (EndLines-put_shown (first_lines n t) (skips (inner_lines n m t) ∷ put_shown (last_lines m t) vs)
        (λ some. first_ends n m t many rest ends (subst (λ x. x ≢ []) after_first some)) (
          λ some. ap at_line (skipped (inner_lines n m t)) ∙ inner_ends n m t many rest ends (subst (λ x. x ≢ []) after_inner some),
          EndLines-put_shown (last_lines m t) vs (λ some. last_ends n m t many (ends some)) are,
        ))
    | inr e ↦ subst EndLines (sym (cond-false (ltb (n + m) (line_count t)) _ _ e)) (EndLines-put_shown t vs ends are)
  ]

  pub EndLines-views : (first n : ℕ) (ps : List Stretch) → AreLines (map g ps) → EndLines (views_of first n ps)
  EndLines-views first n [] are = tt
  EndLines-views first n (stays t ∷ ps) are =
      EndLines-put_stay first (shown_before n ps) t (views_of n n ps)
      (λ some. ap at_line (sym (kept t)) ∙ are.0 (subst (λ x. x ≢ []) (text-views n n ps ∙ sym (flat_map-map (λ x. x) g ps)) some))
      (EndLines-views n n ps are.1)
  EndLines-views first n (turns o w ∷ ps) are =
      (λ some. ap at_line (shown (turns o w)) ∙ are.0 (subst (λ x. x ≢ []) (text-views n n ps ∙ sym (flat_map-map (λ x. x) g ps)) some), EndLines-views n n ps are.1)

AreSome-put_stay : (n m : ℕ) (t : List ℕ) (vs : List View) → AreSome vs → AreSome (put_stay n m t vs)
AreSome-put_stay n m t vs some = elim (cases_Bool (ltb (n + m) (line_count t))) [
  | inl e ↦
      let inner = some_inner n m t (ltb-true (n + m) (line_count t) e) in
      subst AreSome (sym (cond-true (ltb (n + m) (line_count t)) _ _ e))
      (AreSome-put_shown (first_lines n t) _ (ap (λ x. x && x) inner, AreSome-put_shown (last_lines m t) vs some))
  | inr e ↦ subst AreSome (sym (cond-false (ltb (n + m) (line_count t)) _ _ e)) (AreSome-put_shown t vs some)
]

pub AreSome-views : (first n : ℕ) (ps : List Stretch) → AreTidy ps → AreSome (views_of first n ps)
AreSome-views first n [] tidy = tt
AreSome-views first n (stays t ∷ ps) tidy = AreSome-put_stay first (shown_before n ps) t (views_of n n ps) (AreSome-views n n ps tidy.2)
AreSome-views first n (turns o w ∷ ps) tidy = (tidy.0, AreSome-views n n ps tidy.1)
