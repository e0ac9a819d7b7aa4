-- A value in one line is a part of that line.
use Rattle.std.proofs.Common.{◌≡◌, ◌∙◌, ◌⊎◌, inl, inr, ℕ, zero, suc, ◌+◌, ◌<◌, Bool, true, false, not, ◌==◌, ◌&&◌, List, [], ◌∷◌, ◌++◌, Option, Some, None, length, drop, take, get_or, slice_index}
use Rattle.std.proofs.Common.{refl, ap, sym, subst, arith, append-nil, append_assoc, take-append-drop}
use Rattle.std.specs.Prelude.{is_some}
use Rattle.std.specs.List.{join_with_byte}
use Rattle.std.specs.Option.{option_map_or}
use Rattle.std.proofs.lemmas.Bool.{false≢true, ne_eqb}
use Rattle.std.proofs.lemmas.Bool.Decides.{nat_tests}
use Rattle.memchr.specs.Find.{FindsNeedle, IsFirstByte, is_byte}
use Rattle.rec_text.specs.Bytes.{is_blank}
use Rattle.rec_text.specs.declared.element.Element.{Element}
use Rattle.rec_text.specs.declared.element.Kind.{Kind}
use Rattle.rec_text.specs.declared.element.Kind.TheVariants.{Blank, Comment, Field}
use Rattle.rec_text.specs.Elements.{Piece, colon_of, text_of}
use Rattle.rec_text.specs.Places.{piece_of, pieces_of}
use Rattle.rec_text.specs.Values.{body_value, logical_lines, on_first, lines_value, unfolded, without_first, value_of}
use Rattle.rec_select.specs.proving.Filters.{HasText, is_one_line}
use Rattle.rec_select.specs.Selection.{Holds}
use Rattle.rec_select.proofs.lemmas.selection.FilterLemmas.{found_holds}

-- ---- texts in texts

Holds-whole : (text : List ℕ) → Holds text text
Holds-whole text = ([], [], sym (append-nil text))

Holds-prefix : (text prefix following : List ℕ) → Holds prefix text → Holds (prefix ++ following) text
Holds-prefix text prefix following (before, after, parts) =
    (before, after ++ following, ap (λ t. t ++ following) parts ∙ simp append_assoc)

Holds-following : (text prefix following : List ℕ) → Holds following text → Holds (prefix ++ following) text
Holds-following text prefix following (before, after, parts) =
    (prefix ++ before, after, ap (λ t. prefix ++ t) parts ∙ sym (append_assoc prefix before (text ++ after)))

Holds-trans : (outer middle inner : List ℕ) → Holds outer middle → Holds middle inner → Holds outer inner
Holds-trans outer middle inner (before, after, parts) (prefix, following, inside) =
    (before ++ prefix, following ++ after, parts ∙ ap (λ t. before ++ (t ++ after)) inside ∙ simp append_assoc)

Holds-drop : (n : ℕ) (text : List ℕ) → Holds text (drop n text)
Holds-drop n text = (take n text, [], sym (ap (λ t. take n text ++ t) (append-nil (drop n text)) ∙ take-append-drop n text))

-- ---- the value in one line

line_cases : (b : ℕ) (bs : List ℕ) (newline : Bool) → (b == 10) ≡ newline → is_one_line (b ∷ bs) ≡ true → (((b == 10) ≡ true) × (bs ≡ [])) ⊎ (((b == 10) ≡ false) × (is_one_line bs ≡ true))
line_cases b [] true is line = inl (is, refl)
line_cases b (c ∷ cs) true is line = absurd (false≢true (rw is at line))
line_cases b bs false is line = inr (is, rw is at line)

is_line-drop : (n : ℕ) (text : List ℕ) → is_one_line text ≡ true → is_one_line (drop n text) ≡ true
is_line-drop zero text line = line
is_line-drop (suc n) [] line = refl
is_line-drop (suc n) (b ∷ bs) line = elim (line_cases b bs (b == 10) refl line) [
  | inl end ↦ rw end.1 (is_line-drop n [] refl)
  | inr more ↦ is_line-drop n bs more.1
]

-- nothing, or the one text
abbrev lines_of : List ℕ → List (List ℕ)
lines_of [] = []
lines_of (b ∷ bs) = (b ∷ bs) ∷ []

on_first-lines_of : (b : ℕ) (bs : List ℕ) → on_first b (lines_of bs) ≡ (b ∷ bs) ∷ []
on_first-lines_of b [] = refl
on_first-lines_of b (c ∷ cs) = refl

logical_lines_cut : (before b : ℕ) (cut : Bool) → cut ≡ (b == 10 && not (before == 92)) → logical_lines before (b ∷ []) ≡ (b ∷ []) ∷ []
logical_lines_cut before b true is = rw (← is) refl
logical_lines_cut before b false is = rw (← is) refl

logical_lines-line : (before : ℕ) (text : List ℕ) → is_one_line text ≡ true → logical_lines before text ≡ lines_of text
logical_lines-line before [] line = refl
logical_lines-line before (b ∷ bs) line = elim (line_cases b bs (b == 10) refl line) [
  | inl end ↦ rw end.1 (logical_lines_cut before b (b == 10 && not (before == 92)) refl)
  | inr more ↦ rw (more.0, logical_lines-line b bs more.1) (on_first-lines_of b bs)
]

body_value-lines_of : (body : List ℕ) → join_with_byte 10 (lines_value (lines_of body)) ≡ unfolded (without_first is_blank body)
body_value-lines_of [] = refl
body_value-lines_of (b ∷ bs) = refl

body_value-line : (body : List ℕ) → is_one_line body ≡ true → body_value body ≡ unfolded (without_first is_blank body)
body_value-line body line = ap (λ lines. join_with_byte 10 (lines_value lines)) (logical_lines-line 58 body line) ∙ body_value-lines_of body

-- a prefix of one line is left without its newline
unfolded_one : (b : ℕ) (newline : Bool) → (b == 10) ≡ newline → (rest : List ℕ) × (b ∷ [] ≡ unfolded (b ∷ []) ++ rest)
unfolded_one b true is = (b ∷ [], rw is refl)
unfolded_one b false is = ([], rw is refl)

and_right_true : (a b : Bool) → (a && b) ≡ true → b ≡ true
and_right_true true b both = both
and_right_true false b both = absurd (false≢true both)

unfolded_more : (b c : ℕ) (bs : List ℕ) (joined : Bool) → (b == 92 && c == 10) ≡ joined → is_one_line (c ∷ bs) ≡ true → (rest : List ℕ) × (c ∷ bs ≡ unfolded (c ∷ bs) ++ rest)
    → (rest : List ℕ) × (b ∷ c ∷ bs ≡ unfolded (b ∷ c ∷ bs) ++ rest)
unfolded_more b c bs true is line following = elim (line_cases c bs (c == 10) refl line) [
  | inl end ↦ (b ∷ c ∷ bs, rw (is, end.1) refl)
  | inr more ↦ absurd (false≢true (sym more.0 ∙ and_right_true (b == 92) (c == 10) is))
]
unfolded_more b c bs false is line (rest, parts) = (rest, rw is (ap (λ t. b ∷ t) parts))

no_more : (c : ℕ) (bs : List ℕ) → c ∷ bs ≡ [] → ⊥
no_more c bs is = cc

unfolded-line : (text : List ℕ) → is_one_line text ≡ true → (rest : List ℕ) × (text ≡ unfolded text ++ rest)
unfolded-line [] line = ([], refl)
unfolded-line (b ∷ []) line = unfolded_one b (b == 10) refl
unfolded-line (b ∷ c ∷ bs) line = elim (line_cases b (c ∷ bs) (b == 10) refl line) [
  | inl end ↦ absurd (no_more c bs end.1)
  | inr more ↦ unfolded_more b c bs (b == 92 && c == 10) refl more.1 (unfolded-line (c ∷ bs) more.1)
]

without_first_is : (b : ℕ) (bs : List ℕ) (blank : Bool) → is_blank b ≡ blank → (n : ℕ) × (without_first is_blank (b ∷ bs) ≡ drop n (b ∷ bs))
without_first_is b bs true is = (1, rw is refl)
without_first_is b bs false is = (0, rw is refl)

without_first-drop : (text : List ℕ) → (n : ℕ) × (without_first is_blank text ≡ drop n text)
without_first-drop [] = (0, refl)
without_first-drop (b ∷ bs) = without_first_is b bs (is_blank b) refl

body_held : (body : List ℕ) → is_one_line body ≡ true → Holds body (body_value body)
body_held body line =
    let first = without_first-drop body in
    let rest : List ℕ = drop first.0 body in
    let value : body_value body ≡ unfolded rest = body_value-line body line ∙ ap unfolded first.1 in
    let prefix = unfolded-line rest (is_line-drop first.0 body line) in
    let P : List ℕ → Type 0 = λ v. Holds body v in
    subst P (sym value) (Holds-trans body rest (unfolded rest) (Holds-drop first.0 body) ([], prefix.0, prefix.1))

field_held : (bytes : List ℕ) (colon : Option ℕ) → is_one_line bytes ≡ true → Holds bytes (option_map_or (λ c. body_value (drop (c + 1) bytes)) colon [])
field_held bytes None line = ([], bytes, refl)
field_held bytes (Some c) line = Holds-trans bytes (drop (c + 1) bytes) _ (Holds-drop (c + 1) bytes) (body_held (drop (c + 1) bytes) (is_line-drop (c + 1) bytes line))

value_held : (kind : Kind) (bytes : List ℕ) → is_one_line bytes ≡ true → Holds bytes (value_of (record { kind = kind; bytes = bytes }))
value_held Blank bytes line = ([], bytes, refl)
value_held Comment bytes line = ([], bytes, refl)
value_held Field bytes line = field_held bytes (colon_of bytes) line

-- ---- an element among others

-- the text stands in an element's value, and so, where that is one line, in the elements joined
pub held_at : (text : List ℕ) (elements : List Element) (i : ℕ) (d : Element) → i < length elements → is_one_line (get_or elements i d).raw.now ≡ true → HasText text (piece_of (get_or elements i d))
    → Holds (text_of (pieces_of elements)) text
held_at text [] i d within line has = absurd (omega arith)
held_at text (e ∷ es) zero d within line has =
    Holds-prefix text e.raw.now (text_of (pieces_of es)) (Holds-trans e.raw.now (value_of (piece_of e)) text (value_held e.kind e.raw.now line) has.1)
held_at text (e ∷ es) (suc i) d within line has = Holds-following text e.raw.now (text_of (pieces_of es)) (held_at text es i d (omega arith) line has)

-- an element in one line doesn't have a text that isn't found in the elements joined
pub not_in_line : (raw text : List ℕ) (fields : List Piece) (elements : List Element) (found : Option ℕ) → raw ≡ text_of fields → pieces_of elements ≡ fields → FindsNeedle raw text 0 found
    → false ≡ is_some found → (i : ℕ) (d : Element) → i < length elements → true ≡ is_one_line (get_or elements i d).raw.now → HasText text (piece_of (get_or elements i d)) → ⊥
not_in_line raw text fields elements found is same finds unfound i d within line has =
    let P : List ℕ → Type 0 = λ bytes. Holds bytes text in
    let held = subst P (ap text_of same ∙ sym is) (held_at text elements i d within (sym line) has) in
    false≢true (unfound ∙ (found_holds raw text found finds).1 held)

-- ---- the first newline

not_true : (b : Bool) → (b ≡ true → ⊥) → b ≡ false
not_true true fails = absurd (fails refl)
not_true false fails = refl

same_ends : (at n : ℕ) → (suc at + 1 == suc n) ≡ (at + 1 == n)
same_ends at n = grind (arith, nat_tests)

one_line_at : (text : List ℕ) (at : ℕ) → ((k : ℕ) → k < at → (slice_index text k == 10) ≡ false) → at < length text → (slice_index text at == 10) ≡ true
    → (at + 1 == length text) ≡ is_one_line text
one_line_at [] at before within here = absurd (omega arith)
one_line_at (b ∷ []) zero before within here = rw here refl
one_line_at (b ∷ c ∷ cs) zero before within here = rw here (ne_eqb (0 + 1) (length (b ∷ c ∷ cs)) (λ e. omega arith))
one_line_at (b ∷ bs) (suc at) before within here =
    let first : (b == 10) ≡ false = before 0 (omega arith) in
    let rest = one_line_at bs at (λ k less. before (suc k) (omega arith)) (omega arith) here in
    rw first (same_ends at (length bs) ∙ rest)

one_line_nowhere : (text : List ℕ) → ((k : ℕ) → k < length text → (slice_index text k == 10) ≡ false) → is_one_line text ≡ true
one_line_nowhere [] none = refl
one_line_nowhere (b ∷ bs) none =
    let first : (b == 10) ≡ false = none 0 (omega arith) in
    rw first (one_line_nowhere bs (λ k less. none (suc k) (omega arith)))

pub one_line_found : (text : List ℕ) (at : ℕ) → IsFirstByte (is_byte 10) text (Some at) → (at + 1 == length text) ≡ is_one_line text
one_line_found text at (none, here) = one_line_at text at (λ k less. not_true _ (none.before k (omega arith) less)) none.high here

pub one_line_unfound : (text : List ℕ) → IsFirstByte (is_byte 10) text None → true ≡ is_one_line text
one_line_unfound text nowhere = sym (one_line_nowhere text (λ k less. not_true _ (nowhere k (omega arith) less)))
