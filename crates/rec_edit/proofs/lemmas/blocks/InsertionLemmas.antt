-- Elements that are put into a text.
use Rattle.std.proofs.Common.{◌≡◌, ◌∙◌, ℕ, ◌+◌, ◌-◌, ◌<◌, ◌≤◌, List, [], ◌∷◌, ◌++◌, length, take, drop, refl, ap, ap₂, sym, subst, arith, append-nil, map}
use Rattle.std.specs.List.{AllByRecursion}
use Rattle.std.proofs.lemmas.List.{map-append, take-append-drop, take_all}
use Rattle.rec_text.specs.Bytes.{closed_text}
use Rattle.rec_text.specs.Elements.{Piece, IsElement, AreElementsOf, EndInNewlines, text_of}
use Rattle.rec_text.proofs.lemmas.ListLemmas.{AllByRecursion-append, AllByRecursion-prefix, AllByRecursion-following}
use Rattle.rec_edit.specs.declared.draft.Draft.{Draft}
use Rattle.rec_edit.specs.Script.{Part, settled, old_pieces, closed, new_pieces, edited_text}
use Rattle.rec_edit.specs.Blocks.{one, kept, put}
use Rattle.rec_edit.specs.proving.Drafts.{IsDraft, LeadsOn, AreKept, AreLines}
use Rattle.rec_edit.proofs.lemmas.scripts.ChangeLemmas.{IsSome}
use Rattle.rec_edit.proofs.lemmas.scripts.ScriptLemmas.{old_pieces-append, new_pieces-append, old_pieces-settled}
use Rattle.rec_edit.proofs.lemmas.scripts.WellFormedLemmas.{IsClosed, AreWhole}
use Rattle.rec_edit.proofs.lemmas.blocks.BlockLemmas.{same_text, closed_text-closed, AreLines-before, AreKept-kept, settled-put, old_pieces-kept, LeadsOn-append}
use Rattle.rec_edit.proofs.lemmas.blocks.LayingLemmas.{between, between-parts, length-between, length-elements, AreWhole-between}
use Rattle.rec_edit.proofs.lemmas.blocks.SettingLemmas.{old_pieces-put}
use Rattle.rec_edit.proofs.lemmas.blocks.TurnLemmas.{IsFine, AreWhole-settled, closed-new, fine_kept, new_pieces-kept}
use Rattle.rec_edit.proofs.lemmas.blocks.KindLemmas.{fine_put, new_pieces-put}
use Rattle.rec_edit.specs.Insertions.{inserted}
use Rattle.rec_edit.specs.proving.Changes.{hunks_of}
use Rattle.rec_edit.proofs.lemmas.scripts.EqualLemmas.{Grows}
use Rattle.rec_edit.proofs.lemmas.blocks.QuietLemmas.{grows_kept, grown_quiet}
use Rattle.rec_edit.proofs.lemmas.blocks.FaithfulLemmas.{some-kept, some-put, some-settled, grows_put}

-- ---- the parts

settled-after : (parts : List Part) (part : Part) (more : List Part) → settled (parts ++ part ∷ more) ≡ parts ++ settled (part ∷ more)
settled-after [] part more = refl
settled-after (first ∷ []) part more = refl
settled-after (first ∷ next ∷ parts) part more = ap (λ l. first ∷ l) (settled-after (next ∷ parts) part more)

settled-inserted : (place : ℕ) (new pieces : List Piece) → 0 < length new
    → settled (inserted (record { place = place; new = new }) pieces) ≡ kept (take place pieces) ++ (put new ++ settled (kept (drop place pieces)))
settled-inserted place [] pieces some = absurd (omega (arith, some))
settled-inserted place (piece ∷ new) pieces some =
    settled-after (kept (take place pieces)) (record { old = []; new = piece ∷ new }) (kept (drop place pieces))
    ∙ ap (λ l. kept (take place pieces) ++ l) (settled-put (piece ∷ new) (kept (drop place pieces)))

-- ---- the elements before them

kept_lines : (pieces : List Piece) → AreLines pieces → AreKept (kept pieces)
kept_lines [] lines = tt
kept_lines (piece ∷ pieces) lines = (same_text piece (closed_text piece.bytes) (closed_text-closed piece.bytes lines.0), kept_lines pieces lines.1)

one_of : (pieces : List Piece) → length pieces ≡ 1 → (piece : Piece) × (pieces ≡ piece ∷ [])
one_of [] one = absurd (omega (arith, one))
one_of (piece ∷ []) one = (piece, refl)
one_of (piece ∷ next ∷ pieces) one = absurd (omega (arith, one))

module _ (pieces : List Piece) (place : ℕ) (whole : AreElementsOf pieces (text_of pieces)) (within : place ≤ length pieces) where
  before_parts : take place pieces ≡ between pieces 0 (place - 1) ++ between pieces (place - 1) place
  before_parts = between-parts pieces 0 (place - 1) place (omega arith) (omega arith) within

  pub before_size : length (text_of (between pieces 0 (place - 1))) + length (text_of (between pieces (place - 1) place)) ≡ length (text_of (take place pieces))
  before_size = length-between pieces 0 (place - 1) place (omega arith) (omega arith) within

  pub closed_laid : (draft middle last : Draft) (before_text last_text new_text : List ℕ) → 0 < place → before_text ≡ text_of (between pieces 0 (place - 1))
      → last_text ≡ text_of (between pieces (place - 1) place)
      → new_text ≡ closed_text last_text → ((parts : List Part) → AreKept parts → before_text ≡ text_of (old_pieces parts) → LeadsOn draft parts middle)
      → ((part : Part) → last_text ≡ text_of part.old → new_text ≡ text_of part.new → LeadsOn middle (part ∷ []) last) → LeadsOn draft (kept (take place pieces)) last
  closed_laid draft middle last before_text last_text new_text some before_is last_is new_is keep change =
      let there = one_of (between pieces (place - 1) place) (omega (arith, some, length-elements pieces (place - 1) place (omega arith) within)) in
      let piece : Piece = there.0 in
      let before : List Piece = between pieces 0 (place - 1) in
      let is : take place pieces ≡ before ++ piece ∷ [] = before_parts ∙ ap (λ l. before ++ l) there.1 in
      let ends : EndInNewlines (before ++ piece ∷ []) = subst EndInNewlines is (AreWhole-between pieces 0 place whole).lines_end in
      let text : last_text ≡ text_of (piece ∷ []) = last_is ∙ ap text_of there.1 in
      subst (λ l. LeadsOn draft l last) (sym (ap kept is ∙ map-append (one (λ p. p ∷ [])) before (piece ∷ [])))
      (LeadsOn-append draft middle last (kept before) (kept (piece ∷ []))
      (keep (kept before) (kept_lines before (AreLines-before before piece [] ends)) (before_is ∙ ap text_of (sym (old_pieces-kept before))))
      (change (one (λ p. p ∷ []) piece) text (new_is ∙ ap closed_text (text ∙ append-nil piece.bytes) ∙ sym (append-nil (closed_text piece.bytes)))))

  pub text_parts : length (text_of (take place pieces)) + length (text_of (between pieces place (length pieces))) ≡ length (text_of pieces)
  text_parts = length-between pieces 0 place (length pieces) (omega arith) within (omega arith) ∙ ap (λ l. length (text_of l)) (take_all (length pieces) pieces (omega arith))

  rest_is : between pieces place (length pieces) ≡ drop place pieces
  rest_is = ap (drop place) (take_all (length pieces) pieces (omega arith))

  -- three steps: the elements before, those that are put in, and those after
  pub inserted_laid : (first second third last : Draft) (new : List Piece) (rest_text : List ℕ) → 0 < length new → rest_text ≡ text_of (between pieces place (length pieces))
      → IsDraft first (settled (inserted (record { place = place; new = new }) pieces)) (settled (inserted (record { place = place; new = new }) pieces))
      → LeadsOn first (kept (take place pieces)) second → LeadsOn second (put new) third
      → ((parts : List Part) → AreKept parts → rest_text ≡ text_of (old_pieces parts) → LeadsOn third parts last) → IsDraft last [] (settled (inserted (record { place = place; new = new }) pieces))
  inserted_laid first second third last new rest_text some rest_text_is is one two keep =
      let script : List Part = settled (inserted (record { place = place; new = new }) pieces) in
      let rest : List Part = settled (kept (drop place pieces)) in
      let whole_rest : AreWhole (drop place pieces) = subst AreWhole rest_is (AreWhole-between pieces place (length pieces) whole) in
      let three = keep rest (AreKept-kept (drop place pieces) whole_rest)
      (rest_text_is ∙ ap text_of (rest_is ∙ sym (old_pieces-kept (drop place pieces)) ∙ sym (old_pieces-settled (kept (drop place pieces))))) in
      three [] script
      (subst (λ l. IsDraft third l script) (sym (append-nil rest))
      (two rest script (one (put new ++ rest) script (subst (λ l. IsDraft first l script) (settled-inserted place new pieces some) is))))

-- ---- what holds of it

module _ (place : ℕ) (new pieces : List Piece) (lines : AllByRecursion IsClosed new) (whole : AreElementsOf pieces (text_of pieces)) where
  abbrev parts : List Part
  parts = inserted (record { place = place; new = new }) pieces

  pub old_pieces-inserted : old_pieces (settled (inserted (record { place = place; new = new }) pieces)) ≡ pieces
  old_pieces-inserted =
      old_pieces-settled parts ∙ old_pieces-append (kept (take place pieces)) (put new ++ kept (drop place pieces))
      ∙ ap₂ (λ a b. a ++ b) (old_pieces-kept (take place pieces)) (old_pieces-put new (kept (drop place pieces)) ∙ old_pieces-kept (drop place pieces)) ∙ take-append-drop place pieces

  fine : AllByRecursion IsFine (inserted (record { place = place; new = new }) pieces)
  fine =
      let elements : AllByRecursion IsElement (take place pieces ++ drop place pieces) = subst (AllByRecursion IsElement) (sym (take-append-drop place pieces)) whole.well_formed in
      AllByRecursion-append IsFine (kept (take place pieces)) (put new ++ kept (drop place pieces))
      (fine_kept (take place pieces) (AllByRecursion-prefix IsElement (take place pieces) (drop place pieces) elements))
      (AllByRecursion-append IsFine (put new) (kept (drop place pieces)) (fine_put new lines)
      (fine_kept (drop place pieces) (AllByRecursion-following IsElement (take place pieces) (drop place pieces) elements)))

  all_inserted : (P : Part → Type 0) → ((some : List Piece) → AllByRecursion P (kept some)) → AllByRecursion P (put new) → AllByRecursion P (inserted (record { place = place; new = new }) pieces)
  all_inserted P keeps puts =
      AllByRecursion-append P (kept (take place pieces)) (put new ++ kept (drop place pieces)) (keeps (take place pieces))
      (AllByRecursion-append P (put new) (kept (drop place pieces)) puts (keeps (drop place pieces)))

  pub some-inserted : AllByRecursion IsSome (settled (inserted (record { place = place; new = new }) pieces))
  some-inserted = some-settled parts (all_inserted IsSome some-kept (some-put new))

  pub inserted_is_read : AreElementsOf (new_pieces (settled (inserted (record { place = place; new = new }) pieces)))
      (edited_text (settled (inserted (record { place = place; new = new }) pieces)))
  inserted_is_read = let read = AreWhole-settled parts fine in record { joined = refl; well_formed = read.well_formed; lines_end = read.lines_end }

  pub inserted_quiet : old_pieces (settled (inserted (record { place = place; new = new }) pieces)) ≡ new_pieces (settled (inserted (record { place = place; new = new }) pieces))
      → hunks_of (settled (inserted (record { place = place; new = new }) pieces)) ≡ []
  inserted_quiet same = grown_quiet parts (all_inserted Grows grows_kept (grows_put new)) same

  -- with their newlines, the new elements are the old ones around those that are put in
  pub closed-inserted : map closed (new_pieces (settled (inserted (record { place = place; new = new }) pieces))) ≡ map closed (take place pieces) ++ (new ++ map closed (drop place pieces))
  closed-inserted =
      closed-new parts fine ∙ new_pieces-append (kept (take place pieces)) (put new ++ kept (drop place pieces))
      ∙ ap₂ (λ a b. a ++ b) (new_pieces-kept (take place pieces)) (new_pieces-put new (kept (drop place pieces)) ∙ ap (λ l. new ++ l) (new_pieces-kept (drop place pieces)))
