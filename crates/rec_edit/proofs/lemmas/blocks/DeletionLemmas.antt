-- The deletion of a record with the blank elements directly after it.
use Rattle.std.proofs.Common.{◌≡◌, ◌∙◌, ℕ, ◌+◌, ◌≤◌, List, [], ◌∷◌, ◌++◌, length, take, drop, cond, refl, ap, sym, subst, inl, inr, arith, Bool}
use Rattle.std.specs.List.{prefix_len}
use Rattle.std.specs.declared.ops.Range.{Range}
use Rattle.std.proofs.lemmas.Bool.{cases_Bool}
use Rattle.std.proofs.lemmas.List.{append_assoc, take-append-drop, take_at, drop-drop}
use Rattle.std.proofs.lemmas.List.Sums.{prefix_len-le-length}
use Rattle.rec_text.specs.declared.element.Element.{Element}
use Rattle.rec_text.specs.Elements.{Piece, text_of}
use Rattle.rec_text.specs.Places.{piece_of, pieces_of}
use Rattle.rec_text.specs.Records.{is_blank_piece}
use Rattle.rec_edit.specs.declared.draft.Draft.{Draft}
use Rattle.rec_edit.specs.Script.{Part, lacks_newline, settled, old_pieces}
use Rattle.rec_edit.specs.Blocks.{kept}
use Rattle.rec_edit.specs.Rules.{deleted}
use Rattle.rec_edit.specs.proving.Drafts.{LeadsOn, AreKept}
use Rattle.rec_edit.specs.proving.Laying.{IsPlace, block_at, span_at, TakesAll}
use Rattle.rec_edit.proofs.lemmas.scripts.WellFormedLemmas.{AreWhole}
use Rattle.rec_edit.proofs.lemmas.blocks.BlockLemmas.{AreWhole-following, AreKept-kept, LeadsOn-append, old_pieces-kept}
use Rattle.rec_edit.proofs.lemmas.scripts.ScriptLemmas.{old_pieces-settled}
use Rattle.rec_edit.proofs.lemmas.blocks.LayingLemmas.{between, between-parts, length-elements}

pub prefix_len-pieces : (test : Piece → Bool) (elements : List Element) → prefix_len (λ e. test (piece_of e)) elements ≡ prefix_len test (pieces_of elements)
prefix_len-pieces test [] = refl
prefix_len-pieces test (element ∷ elements) = ap (λ n. cond (test (piece_of element)) (1 + n) 0) (prefix_len-pieces test elements)

pub TakesAll-deleted : TakesAll (λ k. deleted)
TakesAll-deleted k block =
    let blanks : ℕ = prefix_len is_blank_piece block.gap in
    ap (λ l. (block.own ++ take blanks block.gap) ++ l) (old_pieces-kept (drop blanks block.gap))
    ∙ append_assoc block.own (take blanks block.gap) (drop blanks block.gap) ∙ ap (λ l. block.own ++ l) (take-append-drop blanks block.gap)

settled-deleted : (old rest : List Piece) → settled (record { old = old; new = [] } ∷ kept rest) ≡ record { old = old; new = [] } ∷ settled (kept rest)
settled-deleted old [] = elim (cases_Bool (lacks_newline (text_of old))) [
  | inl lacks ↦ rw lacks refl
  | inr ends ↦ rw ends refl
]
settled-deleted old (piece ∷ rest) = refl

module _ (pieces : List Piece) (own_range : Range ℕ) (end blanks : ℕ) (place : IsPlace pieces own_range end)
    (counted : blanks ≡ prefix_len is_blank_piece (block_at pieces own_range end).gap) where
  abbrev gap : List Piece
  gap = between pieces own_range.end end

  pub middle_within : own_range.end + blanks ≤ end
  middle_within = omega (arith, counted, prefix_len-le-length is_blank_piece gap, length-gap, place.ordered)
    where
      length-gap : own_range.end + length (between pieces own_range.end end) ≡ end
      length-gap = length-elements pieces own_range.end end place.ordered place.within

  gap_parts : gap ≡ between pieces own_range.end (own_range.end + blanks) ++ between pieces (own_range.end + blanks) end
  gap_parts = between-parts pieces own_range.end (own_range.end + blanks) end (omega arith) middle_within place.within

  first_blanks : between pieces own_range.end (own_range.end + blanks) ≡ take blanks gap
  first_blanks =
      let size = length-elements pieces own_range.end (own_range.end + blanks) (omega arith) (omega (arith, middle_within, place.within)) in
      sym (take_at (between pieces own_range.end (own_range.end + blanks)) (between pieces (own_range.end + blanks) end) blanks (omega (arith, size))) ∙ ap (take blanks) (sym gap_parts)

  after_blanks : between pieces (own_range.end + blanks) end ≡ drop blanks gap
  after_blanks = sym (drop-drop blanks own_range.end (take end pieces))

  old_is : between pieces own_range.start (own_range.end + blanks) ≡ between pieces own_range.start own_range.end ++ take blanks gap
  old_is =
      between-parts pieces own_range.start own_range.end (own_range.end + blanks) (omega (arith, place.some)) (omega arith) (omega (arith, middle_within, place.within))
      ∙ ap (λ l. between pieces own_range.start own_range.end ++ l) first_blanks

  -- the code takes out the one text, and keeps the other
  pub deleted_laid : (draft middle new : Draft) (taken kept_text : List ℕ) → AreWhole (span_at pieces own_range end)
      → taken ≡ text_of (between pieces own_range.start (own_range.end + blanks)) → kept_text ≡ text_of (between pieces (own_range.end + blanks) end)
      → ((part : Part) → taken ≡ text_of part.old → ◌≡◌ {A = List ℕ} [] (text_of part.new) → LeadsOn draft (part ∷ []) middle)
      → ((parts : List Part) → AreKept parts → kept_text ≡ text_of (old_pieces parts) → LeadsOn middle parts new)
      → LeadsOn draft (settled (deleted (block_at pieces own_range end))) new
  deleted_laid draft middle new taken kept_text whole taken_is kept_is change keep =
      let old : List Piece = between pieces own_range.start own_range.end ++ take blanks gap in
      let rest : List Piece = drop blanks gap in
      let part : Part = record { old = old; new = [] } in
      let made : List Piece → List Piece → List Part = λ o r. record { old = o; new = [] } ∷ kept r in
      let parts : settled (deleted (block_at pieces own_range end)) ≡ part ∷ settled (kept rest) =
      ap (λ n. settled (made (between pieces own_range.start own_range.end ++ take n gap) (drop n gap))) (sym counted) ∙ settled-deleted old rest in
      let span : span_at pieces own_range end ≡ between pieces own_range.start (own_range.end + blanks) ++ between pieces (own_range.end + blanks) end =
      between-parts pieces own_range.start (own_range.end + blanks) end (omega (arith, place.some)) middle_within place.within in
      let after : AreWhole rest = subst AreWhole after_blanks
      (AreWhole-following (between pieces own_range.start (own_range.end + blanks)) (between pieces (own_range.end + blanks) end) (subst AreWhole span whole)) in
      subst (λ l. LeadsOn draft l new) (sym parts)
      (LeadsOn-append draft middle new (part ∷ []) (settled (kept rest)) (change part (taken_is ∙ ap text_of old_is) refl)
      (keep (settled (kept rest)) (AreKept-kept rest after) (kept_is ∙ ap text_of (after_blanks ∙ sym (old_pieces-kept rest) ∙ sym (old_pieces-settled (kept rest))))))
