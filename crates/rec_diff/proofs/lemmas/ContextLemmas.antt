-- The first lines of a text, the last ones, and those between.
use Rattle.std.proofs.Common.{◌≡◌, ◌∙◌, ℕ, ◌+◌, ◌-◌, ◌≤◌, List, [], ◌∷◌, ◌++◌, length, take, drop, refl, sym, ap, append_assoc, length-append, length-drop, take-add, drop-drop, arith}
use Rattle.std.specs.List.{between}
use Rattle.std.proofs.lemmas.List.{take-append-drop, take_all, drop_all, take_at, drop_at, length-take-le}
use Rattle.std.proofs.lemmas.List.Edits.{length-between}
use Rattle.std.proofs.lemmas.Grind.{flat_map-append}
use Rattle.rec_diff.specs.Lines.{lines, line_count, first_lines, inner_lines, last_lines}
use Rattle.rec_diff.specs.proving.Turns.{IsFirstLine, IsLastLine}
use Rattle.rec_diff.proofs.lemmas.LineLemmas.{length-lines}
use Rattle.rec_diff.proofs.lemmas.ShareLemmas.{text_of, text_of-lines}

text_of-append : (some others : List (List ℕ)) → text_of (some ++ others) ≡ text_of some ++ text_of others
text_of-append some others = flat_map-append (λ line. line) some others

-- ---- all of them, and none

pub all_first : (n : ℕ) (t : List ℕ) → line_count t ≤ n → first_lines n t ≡ t
all_first n t few =
    let count = length-lines t in
    ap text_of (take_all n (lines t) (omega (arith, count))) ∙ text_of-lines t

pub all_last : (n : ℕ) (t : List ℕ) → line_count t ≤ n → last_lines n t ≡ t
all_last n t few =
    let none : line_count t - n ≡ 0 = omega arith in
    ap (λ k. text_of (drop k (lines t))) none ∙ text_of-lines t

pub no_first : (t : List ℕ) → first_lines 0 t ≡ []
no_first t = refl

pub no_last : (t : List ℕ) → last_lines 0 t ≡ []
no_last t =
    let count = length-lines t in
    ap text_of (drop_all (line_count t - 0) (lines t) (omega (arith, count)))

-- the first n lines, and the others
pub start_lines : (n : ℕ) (t : List ℕ) → t ≡ first_lines n t ++ text_of (drop n (lines t))
start_lines n t = sym (text_of-lines t) ∙ ap text_of (sym (take-append-drop n (lines t))) ∙ text_of-append (take n (lines t)) (drop n (lines t))

first_fits : (n : ℕ) (t : List ℕ) → length (first_lines n t) ≤ length t
first_fits n t =
    let rest = text_of (drop n (lines t)) in
    let whole : length t ≡ length (first_lines n t) + length rest = ap length (start_lines n t) ∙ length-append (first_lines n t) rest in
    omega (arith, whole)

last_fits : (n : ℕ) (t : List ℕ) → length (last_lines n t) ≤ length t
last_fits n t =
    let ls = lines t in
    let k = line_count t - n in
    let whole : length t ≡ length (text_of (take k ls)) + length (last_lines n t) =
    ap length (sym (text_of-lines t) ∙ ap text_of (sym (take-append-drop k ls)) ∙ text_of-append (take k ls) (drop k ls)) ∙ length-append (text_of (take k ls)) (last_lines n t) in
    omega (arith, whole)

-- of what stands between two places
module _ (n from to : ℕ) (text gap : List ℕ) (bytes : ℕ) (fits : to ≤ length text) (is : gap ≡ between from to text) where
  long : length gap ≡ to - from
  long = ap length is ∙ length-between text from to fits

  pub first_between : bytes ≡ length (first_lines n gap) → bytes ≤ to - from
  first_between count = omega (arith, long, count, first_fits n gap)

  pub last_between : bytes ≡ length (last_lines n gap) → bytes ≤ to - from
  last_between count = omega (arith, long, count, last_fits n gap)

-- a list from an index on: what stands before another, and after it
pub from_index : (n k : ℕ) (ls : List (List ℕ)) → n ≤ k → between n k ls ++ drop k ls ≡ drop n ls
from_index n k ls order =
    let place : n + (k - n) ≡ k = omega arith in
    ap (between n k ls ++◌) (sym (drop-drop (k - n) n ls ∙ ap (λ i. drop i ls) place)) ∙ take-append-drop (k - n) (drop n ls)

pub up_to_index : (n k : ℕ) (ls : List (List ℕ)) → n ≤ k → take n ls ++ between n k ls ≡ take k ls
up_to_index n k ls order = let place : n + (k - n) ≡ k = omega arith in sym (take-add n (k - n) ls) ∙ ap (λ i. take i ls) place

-- the first n lines, those between, and the last m
pub cut_lines : (n m : ℕ) (t : List ℕ) → n + m ≤ line_count t → t ≡ first_lines n t ++ (inner_lines n m t ++ last_lines m t)
cut_lines n m t many =
    let ls = lines t in
    let k = line_count t - m in
    sym (text_of-lines t) ∙ ap text_of (sym (take-append-drop n ls)) ∙ text_of-append (take n ls) (drop n ls)
    ∙ ap (text_of (take n ls) ++◌) (ap text_of (sym (from_index n k ls (omega arith))) ∙ text_of-append (between n k ls) (drop k ls))

-- ---- one line more

-- k lines are passed, and this rest stands after them
pub record ArePassed (k : ℕ) (text rest : List ℕ) : Type 0 where
  pub left : lines rest ≡ drop k (lines text)
  pub count : length rest + length (first_lines k text) ≡ length text

pub ArePassed-none : (text : List ℕ) → ArePassed 0 text text
ArePassed-none text = record { left = refl; count = omega arith }

pub ArePassed-more : {k : ℕ} {text rest : List ℕ} → (line following : List ℕ) → ArePassed k text rest → IsFirstLine rest line following → ArePassed (k + 1) text following
ArePassed-more {k} {text} {rest} line following passed first =
    let ls = lines text in
    let there : drop k ls ≡ line ∷ lines following = sym passed.left ∙ first.lines in
    let taken : take (k + 1) ls ≡ take k ls ++ (line ∷ []) = take-add k 1 ls ∙ ap (λ x. take k ls ++ take 1 x) there in
    let text_is : first_lines (k + 1) text ≡ first_lines k text ++ text_of (line ∷ []) = ap text_of taken ∙ text_of-append (take k ls) (line ∷ []) in
    let one : length (text_of (line ∷ [])) ≡ length line + 0 = length-append line [] in
    let count : length (first_lines (k + 1) text) ≡ length (first_lines k text) + length (text_of (line ∷ [])) =
    ap length text_is ∙ length-append (first_lines k text) (text_of (line ∷ [])) in
    let whole : length rest ≡ length line + length following = ap length first.whole ∙ length-append line following in
    let so_far = passed.count in
    record {
      left = sym (ap (drop 1) there) ∙ drop-drop 1 k ls;
      count = omega (arith, one, count, whole, so_far);
    }

-- there are no more lines
pub ArePassed-all : {k : ℕ} {text rest : List ℕ} → (n : ℕ) → ArePassed k text rest → rest ≡ [] → k ≤ n → length text ≡ length (first_lines n text)
ArePassed-all {k} {text} {rest} n passed none fits =
    let left : length (drop k (lines text)) ≡ 0 = ap length (sym passed.left ∙ ap lines none) in
    let count = length-lines text in
    sym (ap length (all_first n text (omega (arith, left, count, length-drop k (lines text)))))

-- k lines at the end are passed, and this stands before them
pub record ArePassedBack (k : ℕ) (text rest : List ℕ) : Type 0 where
  pub left : lines rest ≡ take (line_count text - k) (lines text)
  pub count : length rest + length (last_lines k text) ≡ length text

pub ArePassedBack-none : (text : List ℕ) → ArePassedBack 0 text text
ArePassedBack-none text =
    let count = length-lines text in
    let none : length (last_lines 0 text) ≡ 0 = ap length (no_last text) in
    record { left = sym (take_all (line_count text - 0) (lines text) (omega (arith, count))); count = omega (arith, none) }

pub ArePassedBack-more : {k : ℕ} {text rest : List ℕ} → (before line : List ℕ) → ArePassedBack k text rest → IsLastLine rest before line → ArePassedBack (k + 1) text before
ArePassedBack-more {k} {text} {rest} before line passed last =
    let ls = lines text in
    let m = line_count text - k in
    let all = length-lines text in
    let there : take m ls ≡ lines before ++ (line ∷ []) = sym passed.left ∙ last.lines in
    let fits : length (take m ls) ≡ m = length-take-le m ls (omega (arith, all)) in
    let count : length (take m ls) ≡ length (lines before) + 1 = ap length there ∙ length-append (lines before) (line ∷ []) in
    let next : line_count text - (k + 1) ≡ length (lines before) = omega (arith, fits, count) in
    let parts : ls ≡ lines before ++ ((line ∷ []) ++ drop m ls) =
    sym (take-append-drop m ls) ∙ ap (◌++ drop m ls) there ∙ append_assoc (lines before) (line ∷ []) (drop m ls) in
    let first : take (line_count text - (k + 1)) ls ≡ lines before = ap (take (line_count text - (k + 1))) parts ∙ take_at (lines before) _ _ (sym next) in
    let later : drop (line_count text - (k + 1)) ls ≡ (line ∷ []) ++ drop m ls = ap (drop (line_count text - (k + 1))) parts ∙ drop_at (lines before) _ _ (sym next) in
    let text_is : last_lines (k + 1) text ≡ text_of (line ∷ []) ++ last_lines k text = ap text_of later ∙ text_of-append (line ∷ []) (drop m ls) in
    let one : length (text_of (line ∷ [])) ≡ length line + 0 = length-append line [] in
    let more : length (last_lines (k + 1) text) ≡ length (text_of (line ∷ [])) + length (last_lines k text) =
    ap length text_is ∙ length-append (text_of (line ∷ [])) (last_lines k text) in
    let whole : length rest ≡ length before + length line = ap length last.whole ∙ length-append before line in
    let so_far = passed.count in
    record { left = sym first; count = omega (arith, one, more, whole, so_far) }

pub ArePassedBack-all : {k : ℕ} {text rest : List ℕ} → (n : ℕ) → ArePassedBack k text rest → rest ≡ [] → k ≤ n → length text ≡ length (last_lines n text)
ArePassedBack-all {k} {text} {rest} n passed none fits =
    let all = length-lines text in
    let left : length (take (line_count text - k) (lines text)) ≡ 0 = ap length (sym passed.left ∙ ap lines none) in
    let count : length (take (line_count text - k) (lines text)) ≡ line_count text - k = length-take-le (line_count text - k) (lines text) (omega (arith, all)) in
    sym (ap length (all_last n text (omega (arith, left, count))))
