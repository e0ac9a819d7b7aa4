-- The rows of parts, and the lines that they lead from and to.
use Rattle.std.proofs.Common.{◌≡◌, ◌⊎◌, ◌∙◌, ℕ, ◌+◌, cond, eqb, true, false, List, [], ◌∷◌}
use Rattle.std.proofs.Common.{◌++◌, length, refl, sym, ap, ap₂, subst, inl, inr, append_assoc, append-nil, length-append, arith}
use Rattle.std.specs.Prelude.{◌≢◌, codes, Option, Some, None, option_map}
use Rattle.std.specs.List.{flat_map}
use Rattle.std.specs.Option.{option_and_then}
use Rattle.std.specs.Str.{bytes_eq}
use Rattle.std.proofs.lemmas.Bool.{cases_Bool, cond-true, cond-false, false≢true}
use Rattle.std.proofs.lemmas.List.{take_at}
use Rattle.rec_text.proofs.lemmas.ListLemmas.{bytes_eq-self}
use Rattle.rec_diff.specs.Changes.{Stretch, stays, turns, old_of, new_of}
use Rattle.rec_diff.specs.Lines.{at_line, lines, onto_first_line}
use Rattle.rec_diff.specs.Diff.{ending, marked, part_text}
use Rattle.rec_diff.specs.Patched.{line_of, after_line, patched}
use Rattle.rec_diff.proofs.lemmas.LineLemmas.{at_line-last, lines-append}
use Rattle.rec_diff.proofs.lemmas.ShareLemmas.{text_of, text_of-lines}
use Rattle.rec_diff.proofs.lemmas.TrimLemmas.{at_line-onto, first_of}

abbrev no_newline : List ℕ
no_newline = codes "\\ No newline at end of file\n"

-- a line after a mark; a last one without newline gets one, and a row that says so
abbrev rows_of_line : ℕ → List ℕ → List (List ℕ)
rows_of_line mark line = cond (at_line line) ((mark ∷ line) ∷ []) ((mark ∷ (line ++ 10 ∷ [])) ∷ no_newline ∷ [])

abbrev rows_of : ℕ → List (List ℕ) → List (List ℕ)
rows_of mark ls = flat_map (rows_of_line mark) ls

abbrev pub part_rows : Stretch → List (List ℕ)
part_rows (stays t) = rows_of 32 (lines t)
part_rows (turns old new) = rows_of 45 (lines old) ++ rows_of 43 (lines new)

at_line-then : (s t : List ℕ) → at_line s ≡ true → at_line (s ++ t) ≡ at_line t
at_line-then [] t ends = refl
at_line-then (x ∷ []) [] ends = ends
at_line-then (x ∷ []) (y ∷ ys) ends = refl
at_line-then (x ∷ z ∷ zs) t ends = at_line-then (z ∷ zs) t ends

-- a line alone, after a mark
lines_marked : (mark : ℕ) (line : List ℕ) → eqb mark 10 ≡ false → lines line ≡ line ∷ [] → lines (mark ∷ line) ≡ (mark ∷ line) ∷ []
lines_marked mark line plain alone = cond-false (eqb mark 10) _ _ plain ∙ ap (onto_first_line mark) alone

onto_alone : (b : ℕ) (ls : List (List ℕ)) (rest : List ℕ) → onto_first_line b ls ≡ (b ∷ rest) ∷ [] → (ls ≡ []) × (rest ≡ []) ⊎ (ls ≡ rest ∷ [])
onto_alone b [] rest is = inl (refl, cc)
onto_alone b (l ∷ ls) rest is = inr cc

-- a last line, with the newline that it lacks
lines_closed : (line : List ℕ) → lines line ≡ line ∷ [] → at_line line ≡ false → lines (line ++ 10 ∷ []) ≡ (line ++ 10 ∷ []) ∷ []
lines_closed [] alone open_line = absurd (false≢true (sym open_line))
lines_closed (b ∷ []) alone open_line = cond-false (eqb b 10) _ _ open_line
lines_closed (b ∷ c ∷ cs) alone open_line = elim (cases_Bool (eqb b 10)) [
  | inl e ↦ let is : (b ∷ []) ∷ lines (c ∷ cs) ≡ (b ∷ c ∷ cs) ∷ [] = sym (cond-true (eqb b 10) _ _ e) ∙ alone in absurd (two_lines b c cs (lines (c ∷ cs)) is)
  | inr e ↦
      let is : onto_first_line b (lines (c ∷ cs)) ≡ (b ∷ c ∷ cs) ∷ [] = sym (cond-false (eqb b 10) _ _ e) ∙ alone in
      elim (onto_alone b (lines (c ∷ cs)) (c ∷ cs) is) [
        | inl none ↦ let gone : length (c ∷ cs) ≡ 0 = ap length none.1 in absurd (omega (arith, gone))
        | inr rest ↦ cond-false (eqb b 10) _ _ e ∙ ap (onto_first_line b) (lines_closed (c ∷ cs) rest open_line)
      ]
]
  where
    two_lines : (b c : ℕ) (cs : List ℕ) (ls : List (List ℕ)) → (b ∷ []) ∷ ls ≡ (b ∷ c ∷ cs) ∷ [] → ⊥
    two_lines b c cs ls is =
        let first : b ∷ [] ≡ b ∷ c ∷ cs = cc in
        let count : length (b ∷ []) ≡ length (b ∷ c ∷ cs) = ap length first in
        omega (arith, count)

-- marked lines are these rows
rows-marked : (mark : ℕ) → eqb mark 10 ≡ false → (ls : List (List ℕ)) (rest : List ℕ) → lines (text_of ls) ≡ ls
    → lines (flat_map (λ line. (mark ∷ []) ++ line) ls ++ (ending (text_of ls) ++ rest)) ≡ rows_of mark ls ++ lines rest
rows-marked mark plain [] rest are = refl
rows-marked mark plain (line ∷ others) rest are =
    let first = first_of (text_of (line ∷ others)) line others are in
    let marks = flat_map (λ l. (mark ∷ []) ++ l) others in
    elim (cases_Bool (at_line line)) [
      | inl e ↦
          ap (λ x. lines (((mark ∷ line) ++ marks) ++ (cond x [] (codes "\n\\ No newline at end of file\n") ++ rest))) (at_line-then line (text_of others) e)
          ∙ ap lines (append_assoc (mark ∷ line) marks (ending (text_of others) ++ rest))
          ∙ lines-append (mark ∷ line) (marks ++ (ending (text_of others) ++ rest)) (at_line-onto mark line first.alone e)
          ∙ ap₂ (λ x y. x ++ y) (lines_marked mark line plain first.alone) (rows-marked mark plain others rest first.later)
          ∙ sym (append_assoc ((mark ∷ line) ∷ []) (rows_of mark others) (lines rest))
          ∙ ap (λ x. (x ++ rows_of mark others) ++ lines rest) (sym (cond-true (at_line line) ((mark ∷ line) ∷ []) ((mark ∷ (line ++ 10 ∷ [])) ∷ no_newline ∷ []) e))
      | inr e ↦ last_marked mark plain line others rest first.alone e first.ends
    ]
  where
    last_marked : (mark : ℕ) → eqb mark 10 ≡ false → (line : List ℕ) (others : List (List ℕ)) (rest : List ℕ) → lines line ≡ line ∷ [] → at_line line ≡ false
        → (others ≢ [] → at_line line ≡ true)
        → lines (flat_map (λ l. (mark ∷ []) ++ l) (line ∷ others) ++ (ending (text_of (line ∷ others)) ++ rest)) ≡ rows_of mark (line ∷ others) ++ lines rest
    last_marked mark plain line (l ∷ ls) rest alone open_line ends = absurd (false≢true (sym open_line ∙ ends λ none. cc))
    last_marked mark plain line [] rest alone open_line ends =
        let closed : lines (mark ∷ (line ++ 10 ∷ [])) ≡ (mark ∷ (line ++ 10 ∷ [])) ∷ [] = lines_marked mark (line ++ 10 ∷ []) plain (lines_closed line alone open_line) in
        ap (λ x. lines (((mark ∷ line) ++ []) ++ (cond x [] (codes "\n\\ No newline at end of file\n") ++ rest))) (ap at_line (append-nil line) ∙ open_line)
        ∙ ap (λ x. lines (x ++ (10 ∷ (no_newline ++ rest)))) (append-nil (mark ∷ line))
        ∙ ap lines (sym (append_assoc (mark ∷ line) (10 ∷ []) (no_newline ++ rest)))
        ∙ lines-append ((mark ∷ line) ++ 10 ∷ []) (no_newline ++ rest) (at_line-last (mark ∷ line) 10)
        ∙ ap (λ x. x ++ lines (no_newline ++ rest)) closed
        ∙ ap (λ x. (x ++ []) ++ lines rest) (sym (cond-false (at_line line) ((mark ∷ line) ∷ []) ((mark ∷ (line ++ 10 ∷ [])) ∷ no_newline ∷ []) open_line))

rows-text : (mark : ℕ) → eqb mark 10 ≡ false → (t rest : List ℕ) → lines (marked (mark ∷ []) t ++ rest) ≡ rows_of mark (lines t) ++ lines rest
rows-text mark plain t rest =
    let marks = flat_map (λ line. (mark ∷ []) ++ line) (lines t) in
    ap lines (append_assoc marks (ending t) rest) ∙ ap (λ u. lines (marks ++ (ending u ++ rest))) (sym (text_of-lines t))
    ∙ rows-marked mark plain (lines t) rest (ap lines (text_of-lines t))

rows-part : (p : Stretch) (rest : List ℕ) → lines (part_text p ++ rest) ≡ part_rows p ++ lines rest
rows-part (stays t) rest = rows-text 32 refl t rest
rows-part (turns old new) rest =
    ap lines (append_assoc (marked (codes "-") old) (marked (codes "+") new) rest) ∙ rows-text 45 refl old (marked (codes "+") new ++ rest)
    ∙ ap (rows_of 45 (lines old) ++◌) (rows-text 43 refl new rest) ∙ sym (append_assoc (rows_of 45 (lines old)) (rows_of 43 (lines new)) (lines rest))

pub rows-parts : (ps : List Stretch) (rest : List ℕ) → lines (flat_map part_text ps ++ rest) ≡ flat_map part_rows ps ++ lines rest
rows-parts [] rest = refl
rows-parts (p ∷ ps) rest =
    ap lines (append_assoc (part_text p) (flat_map part_text ps) rest) ∙ rows-part p (flat_map part_text ps ++ rest)
    ∙ ap (part_rows p ++◌) (rows-parts ps rest) ∙ sym (append_assoc (part_rows p) (flat_map part_rows ps) (lines rest))

-- the first row doesn't say that the line before it has no newline
abbrev pub SaysNothing : List (List ℕ) → Type 0
SaysNothing [] = Unit {0}
SaysNothing ([] ∷ rows) = Unit {0}
SaysNothing ((b ∷ bs) ∷ rows) = eqb b 92 ≡ false

SaysNothing-line : (mark : ℕ) (line : List ℕ) (rows : List (List ℕ)) → eqb mark 92 ≡ false → SaysNothing (rows_of_line mark line ++ rows)
SaysNothing-line mark line rows plain = elim (cases_Bool (at_line line)) [
  | inl e ↦ subst (λ x. SaysNothing (cond x ((mark ∷ line) ∷ []) ((mark ∷ (line ++ 10 ∷ [])) ∷ no_newline ∷ []) ++ rows)) (sym e) plain
  | inr e ↦ subst (λ x. SaysNothing (cond x ((mark ∷ line) ∷ []) ((mark ∷ (line ++ 10 ∷ [])) ∷ no_newline ∷ []) ++ rows)) (sym e) plain
]

SaysNothing-rows : (mark : ℕ) (ls rows : List (List ℕ)) → eqb mark 92 ≡ false → SaysNothing rows → SaysNothing (rows_of mark ls ++ rows)
SaysNothing-rows mark [] rows plain quiet = quiet
SaysNothing-rows mark (l ∷ ls) rows plain quiet =
    subst SaysNothing (sym (append_assoc (rows_of_line mark l) (rows_of mark ls) rows)) (SaysNothing-line mark l (rows_of mark ls ++ rows) plain)

SaysNothing-parts : (ps : List Stretch) (rows : List (List ℕ)) → SaysNothing rows → SaysNothing (flat_map part_rows ps ++ rows)
SaysNothing-parts [] rows quiet = quiet
SaysNothing-parts (stays t ∷ ps) rows quiet =
    subst SaysNothing (sym (append_assoc (rows_of 32 (lines t)) (flat_map part_rows ps) rows)) (SaysNothing-rows 32 (lines t) _ refl (SaysNothing-parts ps rows quiet))
SaysNothing-parts (turns o n ∷ ps) rows quiet =
    subst SaysNothing (sym (append_assoc (rows_of 45 (lines o) ++ rows_of 43 (lines n)) (flat_map part_rows ps) rows ∙ append_assoc (rows_of 45 (lines o)) (rows_of 43 (lines n)) _))
    (SaysNothing-rows 45 (lines o) _ refl (SaysNothing-rows 43 (lines n) _ refl (SaysNothing-parts ps rows quiet)))

line_of-quiet : (line : List ℕ) (rows : List (List ℕ)) → SaysNothing rows → line_of line rows ≡ line
line_of-quiet line [] quiet = refl
line_of-quiet line ([] ∷ rows) quiet = refl
line_of-quiet line ((b ∷ bs) ∷ rows) quiet = cond-false (eqb b 92) _ _ quiet

line_of-closed : (line : List ℕ) (rows : List (List ℕ)) → line_of (line ++ 10 ∷ []) (no_newline ∷ rows) ≡ line
line_of-closed line rows = take_at line (10 ∷ []) _ (let count = length-append line (10 ∷ []) in omega (arith, count))

after_line-first : (line : List ℕ) (rest : List (List ℕ)) → after_line line (line ∷ rest) ≡ Some rest
after_line-first line rest = cond-true (bytes_eq line line) _ _ (bytes_eq-self line)

option_map-append : (ls ms : List (List ℕ)) (o : Option (List (List ℕ))) → option_map (ls ++◌) (option_map (ms ++◌) o) ≡ option_map ((ls ++ ms) ++◌) o
option_map-append ls ms None = refl
option_map-append ls ms (Some x) = ap Some (sym (append_assoc ls ms x))

option_map-cons : (l : List ℕ) (ms : List (List ℕ)) (o : Option (List (List ℕ))) → option_map (l ∷◌) (option_map (ms ++◌) o) ≡ option_map ((l ∷ ms) ++◌) o
option_map-cons l ms None = refl
option_map-cons l ms (Some x) = refl

option_map-none : (o : Option (List (List ℕ))) → o ≡ option_map ([] ++◌) o
option_map-none None = refl
option_map-none (Some x) = refl

-- a row, or two, of a line that comes next in the text
row_stays : (p m : ℕ) (line : List ℕ) (rows rest : List (List ℕ)) → SaysNothing rows
    → patched p m (rows_of_line 32 line ++ rows) (line ∷ rest) ≡ option_map (line ∷◌) (patched (p + 1) (m + 1) rows rest)
row_stays p m line rows rest quiet = elim (cases_Bool (at_line line)) [
  | inl e ↦
      ap (λ x. patched p m (cond x ((32 ∷ line) ∷ []) ((32 ∷ (line ++ 10 ∷ [])) ∷ no_newline ∷ []) ++ rows) (line ∷ rest)) e
      ∙ ap (λ l. option_and_then (λ r. option_map (l ∷◌) (patched (p + 1) (m + 1) rows r)) (after_line l (line ∷ rest))) (line_of-quiet line rows quiet)
      ∙ ap (option_and_then (λ r. option_map (line ∷◌) (patched (p + 1) (m + 1) rows r))) (after_line-first line rest)
  | inr e ↦
      ap (λ x. patched p m (cond x ((32 ∷ line) ∷ []) ((32 ∷ (line ++ 10 ∷ [])) ∷ no_newline ∷ []) ++ rows) (line ∷ rest)) e
      ∙ ap (λ l. option_and_then (λ r. option_map (l ∷◌) (patched (p + 1) (m + 1) (no_newline ∷ rows) r)) (after_line l (line ∷ rest))) (line_of-closed line rows)
      ∙ ap (option_and_then (λ r. option_map (line ∷◌) (patched (p + 1) (m + 1) (no_newline ∷ rows) r))) (after_line-first line rest)
]

row_goes : (p m : ℕ) (line : List ℕ) (rows rest : List (List ℕ)) → SaysNothing rows
    → patched p m (rows_of_line 45 line ++ rows) (line ∷ rest) ≡ patched (p + 1) m rows rest
row_goes p m line rows rest quiet = elim (cases_Bool (at_line line)) [
  | inl e ↦
      ap (λ x. patched p m (cond x ((45 ∷ line) ∷ []) ((45 ∷ (line ++ 10 ∷ [])) ∷ no_newline ∷ []) ++ rows) (line ∷ rest)) e
      ∙ ap (λ l. option_and_then (λ r. patched (p + 1) m rows r) (after_line l (line ∷ rest))) (line_of-quiet line rows quiet)
      ∙ ap (option_and_then (λ r. patched (p + 1) m rows r)) (after_line-first line rest)
  | inr e ↦
      ap (λ x. patched p m (cond x ((45 ∷ line) ∷ []) ((45 ∷ (line ++ 10 ∷ [])) ∷ no_newline ∷ []) ++ rows) (line ∷ rest)) e
      ∙ ap (λ l. option_and_then (λ r. patched (p + 1) m (no_newline ∷ rows) r) (after_line l (line ∷ rest))) (line_of-closed line rows)
      ∙ ap (option_and_then (λ r. patched (p + 1) m (no_newline ∷ rows) r)) (after_line-first line rest)
]

row_comes : (p m : ℕ) (line : List ℕ) (rows left : List (List ℕ)) → SaysNothing rows
    → patched p m (rows_of_line 43 line ++ rows) left ≡ option_map (line ∷◌) (patched p (m + 1) rows left)
row_comes p m line rows left quiet = elim (cases_Bool (at_line line)) [
  | inl e ↦
      ap (λ x. patched p m (cond x ((43 ∷ line) ∷ []) ((43 ∷ (line ++ 10 ∷ [])) ∷ no_newline ∷ []) ++ rows) left) e
      ∙ ap (λ l. option_map (l ∷◌) (patched p (m + 1) rows left)) (line_of-quiet line rows quiet)
  | inr e ↦
      ap (λ x. patched p m (cond x ((43 ∷ line) ∷ []) ((43 ∷ (line ++ 10 ∷ [])) ∷ no_newline ∷ []) ++ rows) left) e
      ∙ ap (λ l. option_map (l ∷◌) (patched p (m + 1) (no_newline ∷ rows) left)) (line_of-closed line rows)
]

-- from these numbers of lines on
at_lines : (p m p' m' : ℕ) (rows left : List (List ℕ)) → p ≡ p' → m ≡ m' → patched p m rows left ≡ patched p' m' rows left
at_lines p m p' m' rows left e f = ap₂ (λ x y. patched x y rows left) e f

rows_stay : (ls : List (List ℕ)) (p m : ℕ) (rows rest : List (List ℕ)) → SaysNothing rows
    → patched p m (rows_of 32 ls ++ rows) (ls ++ rest) ≡ option_map (ls ++◌) (patched (p + length ls) (m + length ls) rows rest)
rows_stay [] p m rows rest quiet = at_lines p m (p + 0) (m + 0) rows rest (omega arith) (omega arith) ∙ option_map-none _
rows_stay (l ∷ ls) p m rows rest quiet =
    ap (λ rs. patched p m rs (l ∷ (ls ++ rest))) (append_assoc (rows_of_line 32 l) (rows_of 32 ls) rows)
    ∙ row_stays p m l (rows_of 32 ls ++ rows) (ls ++ rest) (SaysNothing-rows 32 ls rows refl quiet)
    ∙ ap (option_map (l ∷◌)) (rows_stay ls (p + 1) (m + 1) rows rest quiet)
    ∙ option_map-cons l ls _
    ∙ ap (option_map ((l ∷ ls) ++◌)) (at_lines (p + 1 + length ls) (m + 1 + length ls) (p + length (l ∷ ls)) (m + length (l ∷ ls)) rows rest (omega arith) (omega arith))

rows_go : (ls : List (List ℕ)) (p m : ℕ) (rows rest : List (List ℕ)) → SaysNothing rows
    → patched p m (rows_of 45 ls ++ rows) (ls ++ rest) ≡ patched (p + length ls) m rows rest
rows_go [] p m rows rest quiet = at_lines p m (p + 0) m rows rest (omega arith) refl
rows_go (l ∷ ls) p m rows rest quiet =
    ap (λ rs. patched p m rs (l ∷ (ls ++ rest))) (append_assoc (rows_of_line 45 l) (rows_of 45 ls) rows)
    ∙ row_goes p m l (rows_of 45 ls ++ rows) (ls ++ rest) (SaysNothing-rows 45 ls rows refl quiet)
    ∙ rows_go ls (p + 1) m rows rest quiet
    ∙ at_lines (p + 1 + length ls) m (p + length (l ∷ ls)) m rows rest (omega arith) refl

rows_come : (ls : List (List ℕ)) (p m : ℕ) (rows left : List (List ℕ)) → SaysNothing rows
    → patched p m (rows_of 43 ls ++ rows) left ≡ option_map (ls ++◌) (patched p (m + length ls) rows left)
rows_come [] p m rows left quiet = at_lines p m p (m + 0) rows left refl (omega arith) ∙ option_map-none _
rows_come (l ∷ ls) p m rows left quiet =
    ap (λ rs. patched p m rs left) (append_assoc (rows_of_line 43 l) (rows_of 43 ls) rows)
    ∙ row_comes p m l (rows_of 43 ls ++ rows) left (SaysNothing-rows 43 ls rows refl quiet)
    ∙ ap (option_map (l ∷◌)) (rows_come ls p (m + 1) rows left quiet)
    ∙ option_map-cons l ls _
    ∙ ap (option_map ((l ∷ ls) ++◌)) (at_lines p (m + 1 + length ls) p (m + length (l ∷ ls)) rows left refl (omega arith))

abbrev pub old_lines : List Stretch → List (List ℕ)
old_lines ps = flat_map (λ p. lines (old_of p)) ps

abbrev pub new_lines : List Stretch → List (List ℕ)
new_lines ps = flat_map (λ p. lines (new_of p)) ps

pub parts_lead : (ps : List Stretch) (p m : ℕ) (rows rest : List (List ℕ)) → SaysNothing rows
    → patched p m (flat_map part_rows ps ++ rows) (old_lines ps ++ rest)
    ≡ option_map (new_lines ps ++◌) (patched (p + length (old_lines ps)) (m + length (new_lines ps)) rows rest)
parts_lead [] p m rows rest quiet = at_lines p m (p + 0) (m + 0) rows rest (omega arith) (omega arith) ∙ option_map-none _
parts_lead (stays t ∷ ps) p m rows rest quiet =
    let ls = lines t in
    let more_old = length-append ls (old_lines ps) in
    let more_new = length-append ls (new_lines ps) in
    ap₂ (λ rs l. patched p m rs l) (append_assoc (rows_of 32 ls) (flat_map part_rows ps) rows) (append_assoc ls (old_lines ps) rest)
    ∙ rows_stay ls p m (flat_map part_rows ps ++ rows) (old_lines ps ++ rest) (SaysNothing-parts ps rows quiet)
    ∙ ap (option_map (ls ++◌)) (parts_lead ps (p + length ls) (m + length ls) rows rest quiet)
    ∙ option_map-append ls (new_lines ps) _
    ∙ ap (option_map ((ls ++ new_lines ps) ++◌)) (at_lines _ _ (p + length (ls ++ old_lines ps)) (m + length (ls ++ new_lines ps)) rows rest (omega (arith, more_old)) (omega (arith, more_new)))
parts_lead (turns o n ∷ ps) p m rows rest quiet =
    let os = lines o in
    let ns = lines n in
    let more_old = length-append os (old_lines ps) in
    let more_new = length-append ns (new_lines ps) in
    ap₂ (λ rs l. patched p m rs l)
    (append_assoc (rows_of 45 os ++ rows_of 43 ns) (flat_map part_rows ps) rows ∙ append_assoc (rows_of 45 os) (rows_of 43 ns) (flat_map part_rows ps ++ rows))
    (append_assoc os (old_lines ps) rest)
    ∙ rows_go os p m (rows_of 43 ns ++ (flat_map part_rows ps ++ rows)) (old_lines ps ++ rest) (SaysNothing-rows 43 ns _ refl (SaysNothing-parts ps rows quiet))
    ∙ rows_come ns (p + length os) m (flat_map part_rows ps ++ rows) (old_lines ps ++ rest) (SaysNothing-parts ps rows quiet)
    ∙ ap (option_map (ns ++◌)) (parts_lead ps (p + length os) (m + length ns) rows rest quiet)
    ∙ option_map-append ns (new_lines ps) _
    ∙ ap (option_map ((ns ++ new_lines ps) ++◌)) (at_lines _ _ (p + length (os ++ old_lines ps)) (m + length (ns ++ new_lines ps)) rows rest (omega (arith, more_old)) (omega (arith, more_new)))
