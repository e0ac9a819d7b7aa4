-- The places and the lines at which elements begin.
use Rattle.std.proofs.Common.{◌≡◌, ◌∙◌, ℕ, ◌+◌, ◌-◌, ◌≤◌, ◌==◌, Bool, cond, List, ◌++◌, length, take, drop, count_by, ap, sym, arith, length-append}
use Rattle.std.proofs.Math.Seq.{take-add, drop-append_seam, take-append_seam}
use Rattle.std.proofs.lemmas.List.{take-append-drop}
use Rattle.std.proofs.lemmas.List.Sums.{sum_by-append, count_by-le-length}
use Rattle.rec_text.specs.Elements.{Piece, text_of}
use Rattle.rec_text.proofs.lemmas.elements.ElementLemmas.{text_of-append}
use Rattle.rec_check.specs.Violations.{line_at}

-- where the element of an index begins
abbrev pub place : List Piece → ℕ → ℕ
place pieces i = length (text_of (take i pieces))

-- ---- from one element to another

module _ (pieces : List Piece) (from more : ℕ) where
  between : List ℕ
  between = text_of (take more (drop from pieces))

  text_to : text_of (take (from + more) pieces) ≡ text_of (take from pieces) ++ between
  unfolding between
  text_to = ap text_of (take-add from more pieces) ∙ text_of-append (take from pieces) (take more (drop from pieces))

  text_parts : text_of pieces ≡ text_of (take from pieces) ++ (between ++ text_of (drop more (drop from pieces)))
  unfolding between
  text_parts =
      ap text_of (sym (take-append-drop from pieces)) ∙ text_of-append (take from pieces) (drop from pieces)
      ∙ ap (λ t. text_of (take from pieces) ++ t) (ap text_of (sym (take-append-drop more (drop from pieces))) ∙ text_of-append (take more (drop from pieces)) (drop more (drop from pieces)))

  place_to : place pieces (from + more) ≡ place pieces from + length between
  place_to = ap length text_to ∙ length-append (text_of (take from pieces)) between

  place_within : place pieces (from + more) ≤ length (text_of pieces)
  place_within =
      omega (
        arith,
        place_to,
        ap length text_parts,
        length-append (text_of (take from pieces)) (between ++ text_of (drop more (drop from pieces))),
        length-append between (text_of (drop more (drop from pieces))),
      )

  slice_is : take (place pieces (from + more) - place pieces from) (drop (place pieces from) (text_of pieces)) ≡ between
  slice_is =
      let size : place pieces (from + more) - place pieces from ≡ length between = omega (arith, place_to) in
      ap (λ n. take n (drop (place pieces from) (text_of pieces))) size
      ∙ ap (take (length between)) (ap (drop (place pieces from)) text_parts ∙ drop-append_seam (text_of (take from pieces)) (between ++ text_of (drop more (drop from pieces))))
      ∙ take-append_seam between (text_of (drop more (drop from pieces)))

count_by-append : (p : ℕ → Bool) (some more : List ℕ) → count_by p (some ++ more) ≡ count_by p some + count_by p more
count_by-append p some more = sum_by-append (λ x. cond (p x) 1 0) some more

-- two places and the line between them
module _ (pieces : List Piece) (text : List ℕ) (from to one other : ℕ) (whole : text ≡ text_of pieces) (forward : from ≤ to) (one_is : one ≡ place pieces from) (other_is : other
    ≡ place pieces to) where
  same_to : from + (to - from) ≡ to
  same_to = omega arith

  to_from : place pieces (from + (to - from)) ≡ other
  to_from = ap (place pieces) same_to ∙ sym other_is

  pub place_rises : one ≤ other
  place_rises = omega (arith, one_is, to_from, place_to pieces from (to - from))

  pub place_inside : other ≤ length text
  place_inside = omega (arith, to_from, place_within pieces from (to - from), ap length whole)

  pub line_from : (line count : ℕ) → line ≡ line_at pieces from → count ≡ count_by (λ b. b == 10) (take (other - one) (drop one text)) → line + count ≡ line_at pieces to
  line_from line count reached counted =
      let part : take (other - one) (drop one text) ≡ between pieces from (to - from) =
      ap (λ t. take (other - one) (drop one t)) whole ∙ ap (λ n. take (n - one) (drop one (text_of pieces))) (sym to_from)
      ∙ ap (λ n. take (place pieces (from + (to - from)) - n) (drop n (text_of pieces))) one_is ∙ slice_is pieces from (to - from) in
      let whole_to = ap (λ n. text_of (take n pieces)) (sym same_to) ∙ text_to pieces from (to - from) in
      omega (
        arith,
        reached,
        counted,
        ap (count_by (λ b. b == 10)) part,
        ap (count_by (λ b. b == 10)) whole_to,
        count_by-append (λ b. b == 10) (text_of (take from pieces)) (between pieces from (to - from)),
      )

  pub line_inside : line_at pieces to ≤ length text + 1
  line_inside = omega (arith, count_by-le-length (λ b. b == 10) (text_of (take to pieces)), place_inside, other_is)
