-- The lines of a text.
use Rattle.std.proofs.Common.{◌≡◌, ◌∙◌, ℕ, ◌+◌, ◌<◌, ◌≤◌, Bool, true, false, cond, eqb, List, [], ◌∷◌, ◌++◌, Some, None, length, get_or, take, drop, refl, sym, ap, ap₂, subst, inl, inr}
use Rattle.std.proofs.Common.{append_assoc, length-append, length-drop, arith}
use Rattle.std.specs.Prelude.{reverse}
use Rattle.std.specs.Str.{bytes_eq}
use Rattle.std.proofs.lemmas.Bool.{cases_Bool, cond-true, cond-false, ne_eqb, false≢true}
use Rattle.std.proofs.lemmas.List.{take-append-drop, take-append-le, drop-append-le, take_at, drop_at, take_all, drop_all, take_more, get_or-drop, length_push, reverse-append}
use Rattle.std.proofs.lemmas.List.Sums.{sum_by-cons}
use Rattle.memchr.specs.Find.{IsLastByte, is_byte}
use Rattle.rec_text.specs.Bytes.{is_nil}
use Rattle.rec_text.specs.Lines.{HasNoNewline, BeginsWithLine}
use Rattle.rec_text.proofs.lemmas.ListLemmas.{is_nil-push}
use Rattle.rec_text.proofs.lemmas.elements.LogicalLineLemmas.{HasNoNewline-none}
use Rattle.rec_diff.specs.Lines.{at_line, lines, line_count, newlines, onto_first_line}
use Rattle.rec_diff.specs.WholeLines.{same_lines, same_end}
use Rattle.rec_diff.specs.proving.Turns.{IsFirstLine, IsLastLine, IsOpenFrom, BeginAlike, EndAlike}

pub at_line-last : (prefix : List ℕ) (b : ℕ) → at_line (prefix ++ b ∷ []) ≡ eqb b 10
at_line-last [] b = refl
at_line-last (x ∷ []) b = refl
at_line-last (x ∷ y ∷ ys) b = at_line-last (y ∷ ys) b

-- ---- the lines of two texts, one after the other

pub lines_line : (line rest : List ℕ) → HasNoNewline line → lines (line ++ 10 ∷ rest) ≡ (line ++ 10 ∷ []) ∷ lines rest
lines_line [] rest plain = refl
lines_line (b ∷ bs) rest plain = cond-false (eqb b 10) _ _ (ne_eqb b 10 plain.0) ∙ ap (onto_first_line b) (lines_line bs rest plain.1)

-- one line, which ends in a newline or not
lines_one : (line : List ℕ) (b : ℕ) → HasNoNewline line → lines (line ++ b ∷ []) ≡ (line ++ b ∷ []) ∷ []
lines_one [] b plain = elim (cases_Bool (eqb b 10)) [ inl e ↦ cond-true (eqb b 10) _ _ e | inr e ↦ cond-false (eqb b 10) _ _ e ]
lines_one (x ∷ xs) b plain = cond-false (eqb x 10) _ _ (ne_eqb x 10 plain.0) ∙ ap (onto_first_line x) (lines_one xs b plain.1)

lines_open : (b : ℕ) (line : List ℕ) → HasNoNewline (b ∷ line) → lines (b ∷ line) ≡ (b ∷ line) ∷ []
lines_open b [] plain = cond-false (eqb b 10) _ _ (ne_eqb b 10 plain.0)
lines_open b (c ∷ cs) plain = cond-false (eqb b 10) _ _ (ne_eqb b 10 plain.0) ∙ ap (onto_first_line b) (lines_open c cs plain.1)

onto_some : (b : ℕ) (ls : List (List ℕ)) → (first : List ℕ) × (others : List (List ℕ)) × (onto_first_line b ls ≡ first ∷ others)
onto_some b [] = (b ∷ [], [], refl)
onto_some b (l ∷ ls) = (b ∷ l, ls, refl)

lines_some : (b : ℕ) (bs : List ℕ) → (first : List ℕ) × (others : List (List ℕ)) × (lines (b ∷ bs) ≡ first ∷ others)
lines_some b bs = elim (cases_Bool (eqb b 10)) [
  | inl e ↦ (b ∷ [], lines bs, cond-true (eqb b 10) _ _ e)
  | inr e ↦ let some = onto_some b (lines bs) in (some.0, some.1, cond-false (eqb b 10) _ _ e ∙ some.2)
]

onto_first_line-append : (b : ℕ) (ls more : List (List ℕ)) (first : List ℕ) (others : List (List ℕ)) → ls ≡ first ∷ others
    → onto_first_line b (ls ++ more) ≡ onto_first_line b ls ++ more
onto_first_line-append b ls more first others some = subst (λ x. onto_first_line b (x ++ more) ≡ onto_first_line b x ++ more) (sym some) refl

byte_before : (b : ℕ) (ls others more : List (List ℕ)) → ls ≡ others ++ more → onto_first_line b (others ++ more) ≡ onto_first_line b others ++ more
    → (if_newline : Bool) → cond if_newline ((b ∷ []) ∷ ls) (onto_first_line b ls) ≡ cond if_newline ((b ∷ []) ∷ others) (onto_first_line b others) ++ more
byte_before b ls others more parts onto true = ap ((b ∷ []) ∷◌) parts
byte_before b ls others more parts onto false = ap (onto_first_line b) parts ∙ onto

pub lines-append : (text more : List ℕ) → at_line text ≡ true → lines (text ++ more) ≡ lines text ++ lines more
lines-append [] more ends = refl
lines-append (b ∷ []) more ends = cond-true (eqb b 10) _ _ ends ∙ sym (ap (λ x. x ++ lines more) (cond-true (eqb b 10) ((b ∷ []) ∷ []) (onto_first_line b []) ends))
lines-append (b ∷ c ∷ cs) more ends =
    let some = lines_some c cs in
    byte_before b (lines (c ∷ (cs ++ more))) (lines (c ∷ cs)) (lines more) (lines-append (c ∷ cs) more ends)
    (onto_first_line-append b (lines (c ∷ cs)) (lines more) some.0 some.1 some.2) (eqb b 10)

counted_onto : (b : ℕ) (ls : List (List ℕ)) (first : List ℕ) (others : List (List ℕ)) → ls ≡ first ∷ others → length (onto_first_line b ls) ≡ length ls
counted_onto b ls first others some = subst (λ x. length (onto_first_line b x) ≡ length x) (sym some) refl

pub newlines-first : (b : ℕ) (bs : List ℕ) → newlines (b ∷ bs) ≡ cond (eqb b 10) 1 0 + newlines bs
newlines-first b bs = sum_by-cons (λ x. cond (eqb x 10) 1 0) b bs

-- each line is counted
pub length-lines : (t : List ℕ) → length (lines t) ≡ line_count t
length-lines [] = refl
length-lines (b ∷ []) = elim (cases_Bool (eqb b 10)) [
  | inl e ↦
      let all : length (lines (b ∷ [])) ≡ 1 = ap length (cond-true (eqb b 10) ((b ∷ []) ∷ []) (onto_first_line b []) e) in
      let count : line_count (b ∷ []) ≡ 1 = ap (λ x. 0 + cond x 1 0 + cond x 0 1) e in
      all ∙ sym count
  | inr e ↦
      let all : length (lines (b ∷ [])) ≡ 1 = ap length (cond-false (eqb b 10) ((b ∷ []) ∷ []) (onto_first_line b []) e) in
      let count : line_count (b ∷ []) ≡ 1 = ap (λ x. 0 + cond x 1 0 + cond x 0 1) e in
      all ∙ sym count
]
length-lines (b ∷ c ∷ cs) =
    let some = lines_some c cs in
    let later = length-lines (c ∷ cs) in
    elim (cases_Bool (eqb b 10)) [
      | inl e ↦
          let all : length (lines (b ∷ c ∷ cs)) ≡ length ((b ∷ []) ∷ lines (c ∷ cs)) = ap length (cond-true (eqb b 10) _ _ e) in
          let more : newlines (b ∷ c ∷ cs) ≡ 1 + newlines (c ∷ cs) = newlines-first b (c ∷ cs) ∙ ap (λ x. cond x 1 0 + newlines (c ∷ cs)) e in
          omega (arith, all, more, later)
      | inr e ↦
          let all : length (lines (b ∷ c ∷ cs)) ≡ length (lines (c ∷ cs)) =
          ap length (cond-false (eqb b 10) _ _ e) ∙ counted_onto b (lines (c ∷ cs)) some.0 some.1 some.2 in
          let more : newlines (b ∷ c ∷ cs) ≡ 0 + newlines (c ∷ cs) = newlines-first b (c ∷ cs) ∙ ap (λ x. cond x 1 0 + newlines (c ∷ cs)) e in
          omega (arith, all, more, later)
    ]

-- ---- the first line

line_of : (text line rest : List ℕ) → BeginsWithLine text line rest → text ≡ (line ++ 10 ∷ []) ++ rest
line_of text line rest begins = begins.whole ∙ sym (append_assoc line (10 ∷ []) rest)

pub first_ended : (text line rest : List ℕ) → BeginsWithLine text line rest → IsFirstLine text (take (length line + 1) text) (drop (length line + 1) text)
first_ended text line rest begins =
    let whole = line_of text line rest begins in
    let count : length (line ++ 10 ∷ []) ≡ length line + 1 = length_push line 10 in
    let first : take (length line + 1) text ≡ line ++ 10 ∷ [] = ap (take (length line + 1)) whole ∙ take_at (line ++ 10 ∷ []) rest _ count in
    let later : drop (length line + 1) text ≡ rest = ap (drop (length line + 1)) whole ∙ drop_at (line ++ 10 ∷ []) rest _ count in
    record {
      whole = sym (take-append-drop (length line + 1) text);
      lines = ap lines begins.whole ∙ lines_line line rest begins.first ∙ ap₂ (λ l r. l ∷ lines r) (sym first) (sym later);
      some = ap is_nil first ∙ is_nil-push line 10;
    }

pub first_open : (text : List ℕ) → HasNoNewline text → is_nil text ≡ false → IsFirstLine text (take (length text) text) (drop (length text) text)
first_open [] plain some = absurd (false≢true (sym some))
first_open (b ∷ bs) plain some =
    let first : take (length (b ∷ bs)) (b ∷ bs) ≡ b ∷ bs = take_all (length (b ∷ bs)) (b ∷ bs) (omega arith) in
    let later : drop (length (b ∷ bs)) (b ∷ bs) ≡ [] = drop_all (length (b ∷ bs)) (b ∷ bs) (omega arith) in
    record {
      whole = sym (take-append-drop (length (b ∷ bs)) (b ∷ bs));
      lines = lines_open b bs plain ∙ ap₂ (λ l r. l ∷ lines r) (sym first) (sym later);
      some = ap is_nil first;
    }

-- ---- the last line

pub open_none : (s : List ℕ) → IsLastByte (is_byte 10) s None → IsOpenFrom s 0
open_none s none = record { fits = omega arith; lines = refl; open_line = HasNoNewline-none s none }

pub open_some : (s : List ℕ) (at : ℕ) → IsLastByte (is_byte 10) s (Some at) → IsOpenFrom s (at + 1)
open_some s at last =
    let fits : at < length s = last.0.high in
    record {
      fits = omega arith;
      lines = ap at_line (take_more s at 0 fits) ∙ at_line-last (take at s) (get_or s at 0) ∙ last.1;
      open_line = HasNoNewline-none (drop (at + 1) s)
          (λ k low high is. last.0.after (at + 1 + k) (omega arith) (omega (arith, length-drop (at + 1) s)) (sym (ap (λ b. eqb b 10) (get_or-drop (at + 1) s k 0)) ∙ is));
    }

pub last_ended : (text inner : List ℕ) (last place : ℕ) → text ≡ inner ++ last ∷ [] → IsOpenFrom inner place → IsLastLine text (take place text) (drop place text)
last_ended text inner last place whole opened =
    let fits : place ≤ length inner = opened.fits in
    let first : take place text ≡ take place inner = ap (take place) whole ∙ take-append-le place inner (last ∷ []) fits in
    let line : drop place text ≡ drop place inner ++ last ∷ [] = ap (drop place) whole ∙ drop-append-le place inner (last ∷ []) fits in
    record {
      whole = sym (take-append-drop place text);
      lines = ap lines (sym (take-append-drop place text))
          ∙ lines-append (take place text) (drop place text) (ap at_line first ∙ opened.lines)
          ∙ ap (λ x. lines (take place text) ++ x) (ap lines line ∙ lines_one (drop place inner) last opened.open_line ∙ ap (λ x. x ∷ []) (sym line));
      some = ap is_nil line ∙ is_nil-push (drop place inner) last;
    }

-- ---- lines that are the same in both texts

nil_length : (text : List ℕ) → is_nil text ≡ false → 1 ≤ length text
nil_length [] some = absurd (false≢true (sym some))
nil_length (b ∷ bs) some = omega arith

counted : (s n old rest line more : ℕ) → s ≡ line + more → old ≡ line + rest → s + rest ≡ old + more
counted s n old rest line more p q = omega arith

pub begin_alike : (old new line other old_rest new_rest : List ℕ) → IsFirstLine old line old_rest → IsFirstLine new other new_rest → bytes_eq line other ≡ true
    → BeginAlike old new old_rest new_rest
begin_alike old new line other old_rest new_rest one two same =
    let count : length old ≡ length line + length old_rest = ap length one.whole ∙ length-append line old_rest in
    let some : 1 ≤ length line = nil_length line one.some in
    let all : same_lines (lines old) (lines new) ≡ length line + same_lines (lines old_rest) (lines new_rest) =
    ap₂ same_lines one.lines two.lines ∙ cond-true (bytes_eq line other) _ _ same in
    record { more = omega arith; less = omega arith }

pub begin_apart : (old new line other old_rest new_rest : List ℕ) → IsFirstLine old line old_rest → IsFirstLine new other new_rest → bytes_eq line other ≡ false
    → same_lines (lines old) (lines new) ≡ 0
begin_apart old new line other old_rest new_rest one two apart = ap₂ same_lines one.lines two.lines ∙ cond-false (bytes_eq line other) _ _ apart

pub begin_none : (old new line old_rest : List ℕ) → IsFirstLine old line old_rest → new ≡ [] → same_lines (lines old) (lines new) ≡ 0
begin_none old new line old_rest one none = ap₂ same_lines one.lines (ap lines none)

reversed : (text rest line : List ℕ) → IsLastLine text rest line → reverse (lines text) ≡ line ∷ reverse (lines rest)
reversed text rest line is = ap reverse is.lines ∙ reverse-append (lines rest) (line ∷ [])

pub end_alike : (old new line other old_rest new_rest : List ℕ) → IsLastLine old old_rest line → IsLastLine new new_rest other → bytes_eq line other ≡ true
    → EndAlike old new old_rest new_rest
end_alike old new line other old_rest new_rest one two same =
    let count : length old ≡ length old_rest + length line = ap length one.whole ∙ length-append old_rest line in
    let some : 1 ≤ length line = nil_length line one.some in
    let all : same_end old new ≡ length line + same_end old_rest new_rest =
    ap₂ same_lines (reversed old old_rest line one) (reversed new new_rest other two) ∙ cond-true (bytes_eq line other) _ _ same in
    record { more = omega arith; less = omega arith }

pub end_apart : (old new line other old_rest new_rest : List ℕ) → IsLastLine old old_rest line → IsLastLine new new_rest other → bytes_eq line other ≡ false → same_end old new ≡ 0
end_apart old new line other old_rest new_rest one two apart =
    ap₂ same_lines (reversed old old_rest line one) (reversed new new_rest other two) ∙ cond-false (bytes_eq line other) _ _ apart

pub end_none : (old new line old_rest : List ℕ) → IsLastLine old old_rest line → new ≡ [] → same_end old new ≡ 0
end_none old new line old_rest one none = ap₂ same_lines (reversed old old_rest line one) (ap (λ t. reverse (lines t)) none)

pub end_nothing : (old new : List ℕ) → old ≡ [] → same_end old new ≡ 0
end_nothing old new none = ap (λ t. same_end t new) none

pub begin_nothing : (old new : List ℕ) → old ≡ [] → same_lines (lines old) (lines new) ≡ 0
begin_nothing old new none = ap (λ t. same_lines (lines t) (lines new)) none
