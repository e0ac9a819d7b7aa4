-- Where an edit makes the old text, it has no hunk.
use Rattle.std.proofs.Common.{◌≡◌, ◌∙◌, ◌⊎◌, ℕ, ◌+◌, Bool, true, false, ◌||◌, List, [], ◌∷◌, ◌++◌, length, map, refl, ap, ap₂, sym, subst, inl, inr, arith}
use Rattle.std.specs.Prelude.{flat_map}
use Rattle.std.specs.List.{AllByRecursion, list_any}
use Rattle.std.specs.declared.ops.Range.{Range}
use Rattle.std.proofs.lemmas.Bool.{cond_both}
use Rattle.std.proofs.lemmas.List.{length-append}
use Rattle.rec_text.specs.Bytes.{ends_newline}
use Rattle.rec_text.specs.Elements.{Piece, AreElementsOf, text_of}
use Rattle.rec_text.specs.Records.{AreRecords, is_blank_piece}
use Rattle.rec_text.proofs.lemmas.ListLemmas.{AllByRecursion-append}
use Rattle.rec_edit.specs.Script.{Part, opened, settled, old_pieces, new_pieces}
use Rattle.rec_edit.specs.Blocks.{Block, kept, start_of, lead_of, blocks_of, made_if, parts_from, script_of}
use Rattle.rec_edit.specs.Rules.{replaced}
use Rattle.rec_edit.specs.proving.Changes.{hunks_of}
use Rattle.rec_edit.specs.proving.Laying.{TakesAll}
use Rattle.rec_edit.proofs.lemmas.records.FitLemmas.{IsOwn, Cut-AreRecords}
use Rattle.rec_edit.proofs.lemmas.scripts.WellFormedLemmas.{AreWhole}
use Rattle.rec_edit.proofs.lemmas.scripts.ScriptLemmas.{old_pieces-append}
use Rattle.rec_edit.proofs.lemmas.scripts.EqualLemmas.{Grows, Shrinks, ChangeApart, grown_parts_stay, shrunk_parts_stay, hunks_of-apart, hunks_of-kept, length-opened, settled-all}
use Rattle.rec_edit.proofs.lemmas.blocks.BlockLemmas.{AreWhole-prefix, AreWhole-following, old_pieces-kept, settled-append, settled-kept, staying}
use Rattle.rec_edit.proofs.lemmas.blocks.LayingLemmas.{AreWhole-between, lead_first, ranges_of_records}
use Rattle.rec_edit.proofs.lemmas.blocks.ReplacementLemmas.{ended_as, settled-replaced}
use Rattle.rec_edit.proofs.lemmas.blocks.TurnLemmas.{all, AreCut, AreCut-blocks, Shut, all_parts_from, joined}

-- ---- parts that have as many elements as before, or more; or as many, or fewer

pub grows_kept : (pieces : List Piece) → AllByRecursion Grows (kept pieces)
grows_kept [] = tt
grows_kept (piece ∷ pieces) = (omega arith, grows_kept pieces)

pub shrinks_kept : (pieces : List Piece) → AllByRecursion Shrinks (kept pieces)
shrinks_kept [] = tt
shrinks_kept (piece ∷ pieces) = (omega arith, shrinks_kept pieces)

pub grown_quiet : (parts : List Part) → AllByRecursion Grows parts → old_pieces (settled parts) ≡ new_pieces (settled parts) → hunks_of (settled parts) ≡ []
grown_quiet parts grow same =
    hunks_of-kept (settled parts) (grown_parts_stay (settled parts) (settled-all Grows (λ part grows. omega (arith, length-opened part.new, grows)) parts grow) same)

shrunk_quiet : (parts : List Part) → AllByRecursion Shrinks parts → old_pieces (settled parts) ≡ new_pieces (settled parts) → hunks_of (settled parts) ≡ []
shrunk_quiet parts shrink same =
    hunks_of-kept (settled parts) (shrunk_parts_stay (settled parts) (settled-all Shrinks (λ part shrinks. omega (arith, length-opened part.new, shrinks)) parts shrink) same)

-- ---- records that are replaced as one: a blank element stands between each two of them

or_more : (a b c : Bool) → (a || (b || c)) ≡ ((a || (b || false)) || c)
or_more true b c = refl
or_more false true c = refl
or_more false false c = refl

or_none : (a : Bool) → (a || false) ≡ a
or_none true = refl
or_none false = refl

stay_apart : (free : Bool) (pieces : List Piece) (rest : List Part) → ChangeApart (free || list_any is_blank_piece pieces) rest → ChangeApart free (map staying pieces ++ rest)
stay_apart free [] rest apart = subst (λ b. ChangeApart b rest) (or_none free) apart
stay_apart free (piece ∷ pieces) rest apart =
    inl (refl, stay_apart (free || (is_blank_piece piece || false)) pieces rest (subst (λ b. ChangeApart b rest) (or_more free (is_blank_piece piece) (list_any is_blank_piece pieces)) apart))

opened-full : (pieces : List Piece) → list_any is_blank_piece (opened pieces) ≡ list_any is_blank_piece pieces
opened-full [] = refl
opened-full (piece ∷ []) = refl
opened-full (piece ∷ next ∷ pieces) = ap (λ b. is_blank_piece piece || b) (opened-full (next ∷ pieces))

kept_apart : (block : Block) (rest : List Part) → AreWhole (all block) → ChangeApart true rest → ChangeApart true (settled (kept (all block)) ++ rest)
kept_apart block rest whole apart = subst (λ l. ChangeApart true (l ++ rest)) (sym (settled-kept (all block) whole)) (stay_apart true (all block) rest apart)

replaced_apart : (new : List Piece) (block : Block) (rest : List Part) → IsOwn block.own → AreWhole (all block) → list_any is_blank_piece new ≡ false
    → ChangeApart (list_any is_blank_piece block.gap) rest
    → ChangeApart true (settled (replaced new block) ++ rest)
replaced_apart new block rest own whole full apart =
    let part : Part = record { old = block.own; new = ended_as block.own new } in
    let new_full : list_any is_blank_piece (ended_as block.own new) ≡ false =
    cond_both (ends_newline (text_of block.own)) new (opened new) (λ l. list_any is_blank_piece l ≡ false) (λ _. full) (λ _. opened-full new ∙ full) in
    subst (λ l. ChangeApart true (l ++ rest))
    (sym (settled-replaced block.own block.gap new own.some whole ∙ ap (λ l. part ∷ l) (settled-kept block.gap (AreWhole-following block.own block.gap whole))))
    (inr (refl, record { old = own.full; new = new_full }, stay_apart false block.gap rest apart))

-- elements none of which is blank stand instead of records
pub record Replaces (made : Block → List Part) : Type 0 where
  pub new : Block → List Piece
  pub is : (block : Block) → made block ≡ replaced (new block) block
  pub full : (block : Block) → list_any is_blank_piece (new block) ≡ false

module _ (chosen : ℕ → Bool) (made : Block → List Part) (takes : TakesAll (λ k. made)) (replaces : Replaces made) where
  takes_if : (here : Bool) (block : Block) → old_pieces (made_if here made block) ≡ all block
  takes_if true block = takes 0 block
  takes_if false block = old_pieces-kept (all block)

  old_from : (i : ℕ) (blocks : List Block) → old_pieces (parts_from chosen (λ k. made) i blocks) ≡ flat_map all blocks
  old_from i [] = refl
  old_from i (block ∷ blocks) =
      old_pieces-append (made_if (chosen i) made block) (parts_from chosen (λ k. made) (i + 1) blocks) ∙ ap₂ (λ a b. a ++ b) (takes_if (chosen i) block) (old_from (i + 1) blocks)

  none_left : (i : ℕ) (blocks : List Block) → AreCut blocks → old_pieces (parts_from chosen (λ k. made) i blocks) ≡ [] → parts_from chosen (λ k. made) i blocks ≡ []
  none_left i [] cut none = refl
  none_left i (block ∷ blocks) (own, gap, shut, more) none =
      let gone : all block ++ flat_map all blocks ≡ [] = sym (old_from i (block ∷ blocks)) ∙ none in
      absurd (omega (arith, own.some, ap length gone, length-append (all block) (flat_map all blocks), length-append block.own block.gap))

  shut_apart : (gap : List Piece) (i : ℕ) (blocks : List Block) → Shut blocks gap → ChangeApart true (settled (parts_from chosen (λ k. made) i blocks))
      → ChangeApart (list_any is_blank_piece gap) (settled (parts_from chosen (λ k. made) i blocks))
  shut_apart gap i [] shut apart = tt
  shut_apart gap i (block ∷ blocks) shut apart = subst (λ b. ChangeApart b (settled (parts_from chosen (λ k. made) i (block ∷ blocks)))) (sym shut) apart

  block_apart : (here : Bool) (block : Block) (rest : List Part) → IsOwn block.own → AreWhole (all block) → ChangeApart true rest → ChangeApart (list_any is_blank_piece block.gap) rest
      → ChangeApart true (settled (made_if here made block) ++ rest)
  block_apart true block rest own whole apart between =
      subst (λ l. ChangeApart true (settled l ++ rest)) (sym (replaces.is block)) (replaced_apart (replaces.new block) block rest own whole (replaces.full block) between)
  block_apart false block rest own whole apart between = kept_apart block rest whole apart

  blocks_apart : (i : ℕ) (blocks : List Block) → AreCut blocks → AreWhole (flat_map all blocks) → ChangeApart true (settled (parts_from chosen (λ k. made) i blocks))
  blocks_apart i [] cut whole = tt
  blocks_apart i (block ∷ blocks) (own, gap, shut, more) whole =
      let here : List Part = made_if (chosen i) made block in
      let rest : List Part = parts_from chosen (λ k. made) (i + 1) blocks in
      let later : ChangeApart true (settled rest) = blocks_apart (i + 1) blocks more (AreWhole-following (all block) (flat_map all blocks) whole) in
      let parts : settled (here ++ rest) ≡ settled here ++ settled rest =
      settled-append here rest (subst AreWhole (ap₂ (λ a b. a ++ b) (sym (takes_if (chosen i) block)) (sym (old_from (i + 1) blocks))) whole) (none_left (i + 1) blocks more) in
      subst (ChangeApart true) (sym parts)
      (block_apart (chosen i) block (settled rest) own (AreWhole-prefix (all block) (flat_map all blocks) whole) later (shut_apart block.gap (i + 1) blocks shut later))

  module _ (pieces : List Piece) (records : List (Range ℕ)) (elements : AreElementsOf pieces (text_of pieces)) (are : AreRecords pieces records) where
    pub replaced_quiet : old_pieces (script_of chosen (λ k. made) pieces records) ≡ new_pieces (script_of chosen (λ k. made) pieces records)
        → hunks_of (script_of chosen (λ k. made) pieces records) ≡ []
    replaced_quiet same =
        let lead : List Piece = lead_of pieces records in
        let blocks : List Block = blocks_of pieces records in
        let rest : List Part = settled (parts_from chosen (λ k. made) 0 blocks) in
        let cut = Cut-AreRecords pieces records are in
        let whole : AreWhole pieces = record { well_formed = elements.well_formed; lines_end = elements.lines_end } in
        let after : AreWhole (flat_map all blocks) = AreWhole-following lead (flat_map all blocks) (subst AreWhole (sym (joined pieces records cut)) whole) in
        let parts : script_of chosen (λ k. made) pieces records ≡ map staying lead ++ rest =
        lead_first pieces chosen (λ k. made) takes records elements (ranges_of_records pieces records are)
        ∙ ap (λ l. l ++ rest) (settled-kept lead (AreWhole-between pieces 0 (start_of pieces records) elements)) in
        hunks_of-apart (script_of chosen (λ k. made) pieces records)
        (subst (ChangeApart true) (sym parts) (stay_apart true lead rest (blocks_apart 0 blocks (AreCut-blocks pieces false 0 records cut) after))) same

-- ---- each kind of edit is quiet in one of these ways

abbrev pub IsQuiet : (Block → List Part) → Type 0
IsQuiet made = ((block : Block) → AllByRecursion Grows (made block)) ⊎ ((block : Block) → AllByRecursion Shrinks (made block)) ⊎ Replaces made

module _ (chosen : ℕ → Bool) (made : Block → List Part) (takes : TakesAll (λ k. made)) (pieces : List Piece) (records : List (Range ℕ)) (elements : AreElementsOf pieces (text_of pieces))
    (are : AreRecords pieces records) (same : old_pieces (script_of chosen (λ k. made) pieces records) ≡ new_pieces (script_of chosen (λ k. made) pieces records)) where
  every : (blocks : List Block) → AllByRecursion (λ block. Unit {0}) blocks
  every [] = tt
  every (block ∷ blocks) = (tt, every blocks)

  pub made_quiet : IsQuiet made → hunks_of (script_of chosen (λ k. made) pieces records) ≡ []
  made_quiet (inl grows) =
      let blocks : List Block = blocks_of pieces records in
      grown_quiet (kept (lead_of pieces records) ++ parts_from chosen (λ k. made) 0 blocks)
      (AllByRecursion-append Grows (kept (lead_of pieces records)) (parts_from chosen (λ k. made) 0 blocks) (grows_kept (lead_of pieces records))
      (all_parts_from Grows (λ block. Unit {0}) chosen (λ k. made) (λ k block _. grows block) (λ block _. grows_kept (all block)) 0 blocks (every blocks))) same
  made_quiet (inr (inl shrinks)) =
      let blocks : List Block = blocks_of pieces records in
      shrunk_quiet (kept (lead_of pieces records) ++ parts_from chosen (λ k. made) 0 blocks)
      (AllByRecursion-append Shrinks (kept (lead_of pieces records)) (parts_from chosen (λ k. made) 0 blocks) (shrinks_kept (lead_of pieces records))
      (all_parts_from Shrinks (λ block. Unit {0}) chosen (λ k. made) (λ k block _. shrinks block) (λ block _. shrinks_kept (all block)) 0 blocks (every blocks))) same
  made_quiet (inr (inr replaces)) = replaced_quiet chosen made takes replaces pieces records elements are same
