-- The first field of the record in which a text ends, found in one pass.
use Rattle.std.proofs.Common.{◌≡◌, ◌∙◌, ℕ, ◌+◌, ◌-◌, ◌≤◌, eqb, List, [], ◌∷◌, ◌++◌, length, take, drop, refl, sym, ap, ap₂, append_assoc, append-nil, length-append, take-add, arith}
use Rattle.std.specs.Prelude.{reverse}
use Rattle.std.specs.List.{between}
use Rattle.std.proofs.lemmas.Bool.{cond-false, ne_eqb}
use Rattle.std.proofs.lemmas.List.{take_at, take-append-drop, reverse-append, take-take}
use Rattle.std.proofs.lemmas.List.Edits.{length-between}
use Rattle.std.proofs.lemmas.List.Sums.{sum_by-append, count_by-le-length}
use Rattle.rec_text.specs.Lines.{HasNoNewline, BeginsWithLine}
use Rattle.rec_diff.specs.declared.passed.Passed.{Passed}
use Rattle.rec_diff.specs.declared.turn.Place.{Place}
use Rattle.rec_diff.specs.Lines.{newlines}
use Rattle.rec_diff.specs.Diff.{found_at, found_in, first_field}
use Rattle.rec_diff.specs.proving.Headings.{IsFoundTo, IsPassed}
use Rattle.rec_diff.proofs.lemmas.PlaceLemmas.{take_then}

reverse_on : (line : List ℕ) (b : ℕ) (bs : List ℕ) → reverse (b ∷ line) ++ bs ≡ reverse line ++ b ∷ bs
reverse_on line b bs = ap (◌++ bs) (reverse-append (b ∷ []) line) ∙ append_assoc (reverse line) (b ∷ []) bs

found_line : (found before line rest : List ℕ) → HasNoNewline line → found_in found before (line ++ 10 ∷ rest) ≡ found_in (found_at found (reverse before ++ line)) [] rest
found_line found before [] rest plain = ap (λ t. found_in (found_at found t) [] rest) (sym (append-nil (reverse before)))
found_line found before (b ∷ bs) rest plain =
    cond-false (eqb b 10) _ _ (ne_eqb b 10 plain.0) ∙ found_line found (b ∷ before) bs rest plain.1 ∙ ap (λ t. found_in (found_at found t) [] rest) (reverse_on before b bs)

found_open : (found before line : List ℕ) → HasNoNewline line → found_in found before line ≡ found
found_open found before [] plain = refl
found_open found before (b ∷ bs) plain = cond-false (eqb b 10) _ _ (ne_eqb b 10 plain.0) ∙ found_open found (b ∷ before) bs plain.1

-- the lines before the rest of a text are read
pub record HasFound (found text field rest : List ℕ) : Type 0 where
  pub done : List ℕ
  pub parts : text ≡ done ++ rest
  pub later : (more : List ℕ) → found_in found [] (done ++ more) ≡ found_in field [] more

pub HasFound-none : (found text : List ℕ) → HasFound found text found text
HasFound-none found text = record { done = []; parts = refl; later = λ more. refl }

pub HasFound-more : {found text field rest : List ℕ} → (line following next : List ℕ) → HasFound found text field rest → BeginsWithLine rest line following
    → next ≡ found_at field line → HasFound found text next following
HasFound-more {found} {text} {field} {rest} line following next so_far begins is = record {
  done = so_far.done ++ (line ++ 10 ∷ []);
  parts = so_far.parts ∙ ap (so_far.done ++◌) (begins.whole ∙ sym (append_assoc line (10 ∷ []) following)) ∙ sym (append_assoc so_far.done (line ++ 10 ∷ []) following);
  later = λ more.
      ap (found_in found []) (append_assoc so_far.done (line ++ 10 ∷ []) more ∙ ap (so_far.done ++◌) (append_assoc line (10 ∷ []) more))
      ∙ so_far.later (line ++ 10 ∷ more) ∙ found_line field [] line more begins.first ∙ ap (λ f. found_in f [] more) (sym is);
}

pub HasFound-all : {found text field rest : List ℕ} → HasFound found text field rest → HasNoNewline rest → IsFoundTo found text field (length text - length rest)
HasFound-all {found} {text} {field} {rest} so_far plain =
    let count : length text ≡ length so_far.done + length rest = ap length so_far.parts ∙ length-append so_far.done rest in
    let place : length so_far.done ≡ length text - length rest = omega arith in
    record {
      fits = omega arith;
      now = ap (found_in found []) so_far.parts ∙ so_far.later rest ∙ found_open field [] rest plain;
      later = λ more. ap (λ t. found_in found [] (t ++ more)) (ap (take (length text - length rest)) so_far.parts ∙ take_at so_far.done rest _ place) ∙ so_far.later more;
    }

pub HasFound-fits : {found text field rest : List ℕ} → HasFound found text field rest → length rest ≤ length text
HasFound-fits {found} {text} {field} {rest} so_far =
    let count : length text ≡ length so_far.done + length rest = ap length so_far.parts ∙ length-append so_far.done rest in omega arith

newlines-append : (s t : List ℕ) → newlines (s ++ t) ≡ newlines s + newlines t
newlines-append s t = sum_by-append _ s t

newlines_to : (s l n m : ℕ) (t : List ℕ) → s ≤ l → n ≡ newlines (take s t) → m ≡ newlines (between s l t) → n + m ≡ newlines (take l t)
newlines_to s l n m t order e f = ap₂ (λ x y. x + y) e f ∙ sym (newlines-append (take s t) (between s l t)) ∙ ap newlines (take_then s l t order)

module _ (before after : List ℕ) (p : Passed) (known : IsPassed before after p) (place : Place) (old : p.place.old ≤ place.old) (old_fits : place.old ≤ length before)
    (new : p.place.new ≤ place.new) (new_fits : place.new ≤ length after) (field : List ℕ) (open_at : ℕ)
    (found : IsFoundTo p.field.now (between p.line place.old before) field open_at) where
  line_order : p.line ≤ place.old
  line_order = let l = known.line in omega arith

  region : length (between p.line place.old before) ≡ place.old - p.line
  region = length-between before p.line place.old old_fits

  pub found_now : first_field (take place.old before) ≡ field
  found_now = ap first_field (sym (take_then p.line place.old before line_order)) ∙ known.later (between p.line place.old before) ∙ found.now

  pub found_fits : p.line + open_at ≤ place.old
  found_fits = let f = found.fits in let l = line_order in omega (arith, region)

  pub found_later : (more : List ℕ) → found_in [] [] (take (p.line + open_at) before ++ more) ≡ found_in field [] more
  found_later more =
      let within : open_at ≤ place.old - p.line = let f = found.fits in omega (arith, region) in
      let cut : take (p.line + open_at) before ≡ take p.line before ++ take open_at (between p.line place.old before) =
      take-add p.line open_at before ∙ ap (take p.line before ++◌) (sym (take-take open_at (place.old - p.line) (drop p.line before) within)) in
      ap (λ t. found_in [] [] (t ++ more)) cut ∙ ap (found_in [] []) (append_assoc (take p.line before) _ more)
      ∙ known.later (take open_at (between p.line place.old before) ++ more) ∙ found.later more

  pub old_lines_to : (m : ℕ) → m ≡ newlines (between p.place.old place.old before) → p.old_lines + m ≡ newlines (take place.old before)
  old_lines_to m e = newlines_to p.place.old place.old p.old_lines m before old known.old_lines e

  pub new_lines_to : (m : ℕ) → m ≡ newlines (between p.place.new place.new after) → p.new_lines + m ≡ newlines (take place.new after)
  new_lines_to m e = newlines_to p.place.new place.new p.new_lines m after new known.new_lines e

-- there are fewer newlines than bytes
pub few_newlines : (place n : ℕ) (t : List ℕ) → n ≡ newlines (take place t) → n ≤ length t
few_newlines place n t e =
    let parts : newlines t ≡ newlines (take place t) + newlines (drop place t) = ap newlines (sym (take-append-drop place t)) ∙ newlines-append (take place t) (drop place t) in
    let all : newlines t ≤ length t = count_by-le-length (λ b. eqb b 10) t in
    omega arith
