-- An edit carried out, record by record.
use Rattle.std.proofs.Common.{◌≡◌, ◌∙◌, ℕ, zero, suc, ◌+◌, ◌<◌, ◌≤◌, Bool, true, false, not, ◌&&◌, List, [], ◌∷◌, ◌++◌, length, cond, take, drop, Option, refl, ap, ap₂, sym, subst, arith}
use Rattle.std.proofs.lemmas.List.Sums.{sum_by-cons}
use Rattle.std.specs.List.{AllByRecursion, enumerate_from}
use Rattle.std.specs.Str.{bytes_eq}
use Rattle.std.specs.declared.ops.Range.{Range}
use Rattle.std.proofs.lemmas.List.{append_assoc, take-append-drop, drop-append-le, length-append, length-drop, length-take-le, take_all, drop_at, drop_all, take-take, append_cancel_right}
use Rattle.rec_text.specs.Elements.{Piece, AreElementsOf, text_of}
use Rattle.rec_text.specs.Records.{AreAscending, AreRecords, IsRecord, elements_in}
use Rattle.rec_text.proofs.lemmas.elements.ElementLemmas.{text_of-append}
use Rattle.rec_text.proofs.lemmas.records.RecordLemmas.{one_list_of_records}
use Rattle.rec_edit.specs.declared.draft.Draft.{Draft}
use Rattle.rec_edit.specs.declared.outcome.Patched.{Patched}
use Rattle.rec_edit.specs.proving.Edits.{edited_by}
use Rattle.rec_edit.specs.proving.Changes.{hunks_of}
use Rattle.rec_journal.specs.declared.patch.Hunk.{Hunk}
use Rattle.rec_edit.specs.Script.{Part, settled, old_pieces, new_pieces, edited_text}
use Rattle.rec_edit.specs.Blocks.{Block, start_of, lead_of, blocks_of, kept, parts_from, script_of, made_if, is_changed, changed_from, is_selected}
use Rattle.rec_edit.specs.Outcome.{EditScript, made_of}
use Rattle.rec_edit.specs.proving.Drafts.{IsDraft, LeadsOn, AreRanges}
use Rattle.rec_edit.specs.proving.Laying.{IsPlace, block_at, span_at, IsLaidBy, IsMadeOf, TakesAll, AreMarksOf, AreAllMarked, is_marked}
use Rattle.rec_edit.proofs.lemmas.scripts.ScriptLemmas.{old_pieces-append, new_pieces-append, old_pieces-settled}
use Rattle.rec_edit.proofs.lemmas.scripts.WellFormedLemmas.{AreWhole}
use Rattle.rec_edit.proofs.lemmas.layouts.NeatLemmas.{AllByRecursion-drop}
use Rattle.rec_edit.proofs.lemmas.blocks.BlockLemmas.{AreWhole-prefix, AreWhole-following, settled-append, old_pieces-kept}

-- ---- elements from an index to another

module _ (pieces : List Piece) where
  abbrev pub between : ℕ → ℕ → List Piece
  between a b = elements_in pieces (record { start = a; end = b })

  pub between-parts : (a b c : ℕ) → a ≤ b → b ≤ c → c ≤ length pieces → between a c ≡ between a b ++ between b c
  between-parts a b c low high within =
      let prefix : List Piece = take c pieces in
      ap (drop a) (sym (take-append-drop b prefix)) ∙ drop-append-le a (take b prefix) (drop b prefix) (omega (arith, length-take-le b prefix (omega (arith, length-take-le c pieces within))))
      ∙ ap (λ l. drop a l ++ drop b prefix) (take-take b c pieces high)

  pub AreWhole-between : (a b : ℕ) → AreElementsOf pieces (text_of pieces) → AreWhole (between a b)
  AreWhole-between a b are =
      let whole : AreWhole pieces = record { well_formed = are.well_formed; lines_end = are.lines_end } in
      let prefix : AreWhole (take b pieces) = AreWhole-prefix (take b pieces) (drop b pieces) (subst AreWhole (sym (take-append-drop b pieces)) whole) in
      AreWhole-following (take a (take b pieces)) (drop a (take b pieces)) (subst AreWhole (sym (take-append-drop a (take b pieces))) prefix)

  pub length-elements : (a b : ℕ) → a ≤ b → b ≤ length pieces → a + length (between a b) ≡ b
  length-elements a b low within = omega (arith, length-drop a (take b pieces), length-take-le b pieces within)

  -- the elements of a block
  pub span-parts : (own_range : Range ℕ) (end : ℕ) → IsPlace pieces own_range end → span_at pieces own_range end ≡ (block_at pieces own_range end).own ++ (block_at pieces own_range end).gap
  span-parts own_range end place = between-parts own_range.start own_range.end end (omega (arith, place.some)) place.ordered place.within

  pub length-between : (a b c : ℕ) → a ≤ b → b ≤ c → c ≤ length pieces → length (text_of (between a b)) + length (text_of (between b c)) ≡ length (text_of (between a c))
  length-between a b c low high within =
      sym (length-append (text_of (between a b)) (text_of (between b c))) ∙ ap length (sym (text_of-append (between a b) (between b c)))
      ∙ ap (λ l. length (text_of l)) (sym (between-parts a b c low high within))

-- ---- where records stand

AreAscending-drop : (i least : ℕ) (records : List (Range ℕ)) → AreAscending least records → (more : ℕ) × AreAscending more (drop i records)
AreAscending-drop zero least records ascending = (least, ascending)
AreAscending-drop (suc i) least [] ascending = (least, tt)
AreAscending-drop (suc i) least (own_range ∷ records) ascending = AreAscending-drop i own_range.end records ascending.1

module _ (pieces : List Piece) where
  abbrev IsWithin : Range ℕ → Type 0
  IsWithin range = (range.start < range.end) × (range.end ≤ length pieces)

  place_first : (least : ℕ) (own_range : Range ℕ) (records : List (Range ℕ)) → AreAscending least (own_range ∷ records) → AllByRecursion IsWithin (own_range ∷ records)
      → IsPlace pieces own_range (start_of pieces records)
  place_first least own_range [] ascending each = record { some = each.0.0; ordered = each.0.1; within = omega arith }
  place_first least own_range (next ∷ records) ascending each = record { some = each.0.0; ordered = ascending.1.0; within = omega (arith, each.1.0.0, each.1.0.1) }

  pub place_of : (records : List (Range ℕ)) (i : ℕ) (own_range : Range ℕ) (following : List (Range ℕ)) → AreRanges (length pieces) records → drop i records ≡ own_range ∷ following
      → IsPlace pieces own_range (start_of pieces following)
  place_of records i own_range following are is =
      let ascending = AreAscending-drop i 0 records are.ascending in
      place_first ascending.0 own_range following (subst (AreAscending ascending.0) is ascending.1) (subst (AllByRecursion IsWithin) is (AllByRecursion-drop IsWithin i records are.each))

  all_within : (records : List (Range ℕ)) → AllByRecursion (IsRecord pieces) records → AllByRecursion IsWithin records
  all_within [] each = tt
  all_within (own_range ∷ records) each = ((each.0.some, omega (arith, each.0.high, each.0.is_paragraph.within)), all_within records each.1)

  pub ranges_of_records : (records : List (Range ℕ)) → AreRecords pieces records → AreRanges (length pieces) records
  ranges_of_records records are = record { ascending = are.ascending; each = all_within records are.each }

  -- ---- the old elements of a script

  start-within : (least : ℕ) (records : List (Range ℕ)) → least ≤ length pieces → AreAscending least records → AllByRecursion IsWithin records
      → (least ≤ start_of pieces records) × (start_of pieces records ≤ length pieces)
  start-within least [] within ascending each = (within, omega arith)
  start-within least (own_range ∷ records) within ascending each = (ascending.0, omega (arith, each.0.0, each.0.1))

  module _ (chosen : ℕ → Bool) (made : ℕ → Block → List Part) (takes : TakesAll made) where
    takes-if : (k : ℕ) (here : Bool) (block : Block) → old_pieces (made_if here (made k) block) ≡ block.own ++ block.gap
    takes-if k true block = takes k block
    takes-if k false block = old_pieces-kept (block.own ++ block.gap)

    old_pieces-from : (i least : ℕ) (records : List (Range ℕ)) → AreAscending least records → AllByRecursion IsWithin records
        → old_pieces (parts_from chosen made i (blocks_of pieces records)) ≡ between pieces (start_of pieces records) (length pieces)
    old_pieces-from i least [] ascending each = sym (drop_all (length pieces) (take (length pieces) pieces) (omega (arith, length-take-le (length pieces) pieces (omega arith))))
    old_pieces-from i least (own_range ∷ records) ascending each =
        let place = place_first least own_range records ascending each in
        let end : ℕ = start_of pieces records in
        let block : Block = block_at pieces own_range end in
        old_pieces-append (made_if (chosen i) (made i) block) (parts_from chosen made (i + 1) (blocks_of pieces records))
        ∙ ap₂ (λ a b. a ++ b) (takes-if i (chosen i) block ∙ sym (span-parts pieces own_range end place)) (old_pieces-from (i + 1) own_range.end records ascending.1 each.1)
        ∙ sym (between-parts pieces own_range.start end (length pieces) (omega (arith, place.some, place.ordered)) place.within (omega arith))

    -- where no element is left, no part is
    none_left : (i least : ℕ) (records : List (Range ℕ)) → AreAscending least records → AllByRecursion IsWithin records
        → old_pieces (parts_from chosen made i (blocks_of pieces records)) ≡ [] → parts_from chosen made i (blocks_of pieces records) ≡ []
    none_left i least [] ascending each none = refl
    none_left i least (own_range ∷ records) ascending each none =
        let gone : between pieces own_range.start (length pieces) ≡ [] = sym (old_pieces-from i least (own_range ∷ records) ascending each) ∙ none in
        absurd (omega (arith, ap length gone, length-elements pieces own_range.start (length pieces) (omega (arith, each.0.0, each.0.1)) (omega arith), each.0.0, each.0.1))

    module _ (records : List (Range ℕ)) (whole : AreElementsOf pieces (text_of pieces)) (are : AreRanges (length pieces) records) where
      all_of : (some : List Piece) → some ≡ take (length some) some
      all_of [] = refl
      all_of (piece ∷ some) = ap (λ l. piece ∷ l) (all_of some)

      all_parts : old_pieces (kept (lead_of pieces records)) ++ old_pieces (parts_from chosen made 0 (blocks_of pieces records)) ≡ between pieces 0 (length pieces)
      all_parts =
          let start = start-within 0 records (omega arith) are.ascending are.each in
          ap₂ (λ a b. a ++ b) (old_pieces-kept (lead_of pieces records)) (old_pieces-from 0 0 records are.ascending are.each)
          ∙ sym (between-parts pieces 0 (start_of pieces records) (length pieces) (omega arith) start.1 (omega arith))

      pub old_pieces-script : old_pieces (script_of chosen made pieces records) ≡ pieces
      old_pieces-script =
          let first : List Part = kept (lead_of pieces records) in
          old_pieces-settled (first ++ parts_from chosen made 0 (blocks_of pieces records)) ∙ old_pieces-append first (parts_from chosen made 0 (blocks_of pieces records)) ∙ all_parts
          ∙ sym (all_of pieces)

      -- the lead, and then the records
      pub lead_first : script_of chosen made pieces records ≡ settled (kept (lead_of pieces records)) ++ settled (parts_from chosen made 0 (blocks_of pieces records))
      lead_first =
          settled-append (kept (lead_of pieces records)) (parts_from chosen made 0 (blocks_of pieces records)) (subst AreWhole (sym all_parts) (AreWhole-between pieces 0 (length pieces) whole))
          (none_left 0 0 records are.ascending are.each)

      -- a record, and then those after it
      module _ (i : ℕ) (own_range : Range ℕ) (following : List (Range ℕ)) (is : drop i records ≡ own_range ∷ following) where
        abbrev pub here : List Part
        here = made_if (chosen i) (made i) (block_at pieces own_range (start_of pieces following))

        abbrev pub later : List Part
        later = settled (parts_from chosen made (i + 1) (blocks_of pieces following))

        record_apart : settled (parts_from chosen made i (blocks_of pieces (drop i records))) ≡ settled here ++ later
        record_apart =
            let ascending = AreAscending-drop i 0 records are.ascending in
            let here_is = subst (AreAscending ascending.0) is ascending.1 in
            let each = subst (AllByRecursion IsWithin) is (AllByRecursion-drop IsWithin i records are.each) in
            let rest : List Part = parts_from chosen made (i + 1) (blocks_of pieces following) in
            let same : old_pieces here ++ old_pieces rest ≡ between pieces own_range.start (length pieces) =
            sym (old_pieces-append here rest) ∙ old_pieces-from i ascending.0 (own_range ∷ following) here_is each in
            ap (λ rs. settled (parts_from chosen made i (blocks_of pieces rs))) is
            ∙ settled-append here rest (subst AreWhole (sym same) (AreWhole-between pieces own_range.start (length pieces) whole)) (none_left (i + 1) own_range.end following here_is.1 each.1)

        pub laid_here : (draft : Draft) → IsLaidBy draft chosen made pieces records i → IsDraft draft (settled here ++ later) (script_of chosen made pieces records)
        laid_here draft laid = subst (λ parts. IsDraft draft parts (script_of chosen made pieces records)) record_apart laid

        pub fits_here : (draft : Draft) → IsLaidBy draft chosen made pieces records i → draft.at + length (text_of (span_at pieces own_range (start_of pieces following))) ≤ length (text_of pieces)
        fits_here draft laid =
            let now = laid_here draft laid in
            let place = place_of records i own_range following are is in
            let old : old_pieces (settled here) ≡ span_at pieces own_range (start_of pieces following) =
            old_pieces-settled here ∙ takes-if i (chosen i) (block_at pieces own_range (start_of pieces following)) ∙ sym (span-parts pieces own_range (start_of pieces following) place) in
            omega (
              arith,
              now.at,
              ap (λ l. length (text_of l)) old_pieces-script,
              ap (λ l. length (text_of l)) (old_pieces-append (settled here) later),
              ap length (text_of-append (old_pieces (settled here)) (old_pieces later)),
              length-append (text_of (old_pieces (settled here))) (text_of (old_pieces later)),
              ap (λ l. length (text_of l)) old,
            )

        laid_next : (draft new : Draft) → IsLaidBy draft chosen made pieces records i → LeadsOn draft (settled here) new → drop (i + 1) records ≡ following
            → IsLaidBy new chosen made pieces records (i + 1)
        laid_next draft new laid leads rest_is =
            subst (λ rest. IsDraft new (settled (parts_from chosen made (i + 1) (blocks_of pieces rest))) (script_of chosen made pieces records)) (sym rest_is)
            (leads later (script_of chosen made pieces records) (laid_here draft laid))

        add_assoc : (a b c : ℕ) → a + (b + c) ≡ (a + b) + c
        add_assoc a b c = omega arith

        -- how many are changed from an index on
        counted_next : (count : ℕ) (changed : Bool) → changed ≡ (chosen i && is_changed (made i (block_at pieces own_range (start_of pieces following)))) → drop (i + 1) records ≡ following
            → count + changed_from chosen made i (blocks_of pieces (drop i records))
            ≡ (count + cond changed 1 0) + changed_from chosen made (i + 1) (blocks_of pieces (drop (i + 1) records))
        counted_next count changed same rest_is =
            let more : ℕ = changed_from chosen made (i + 1) (blocks_of pieces following) in
            let test : ℕ × Block → Bool = λ (k, block). chosen k && is_changed (made k block) in
            let first = sum_by-cons (λ one. cond (test one) 1 0) (i, block_at pieces own_range (start_of pieces following)) (enumerate_from (i + 1) (blocks_of pieces following)) in
            ap (λ rs. count + changed_from chosen made i (blocks_of pieces rs)) is
            ∙ ap (λ n. count + n) (first ∙ ap (λ b. cond b 1 0 + more) (sym same))
            ∙ add_assoc count (cond changed 1 0) more
            ∙ ap (λ rs. (count + cond changed 1 0) + changed_from chosen made (i + 1) (blocks_of pieces rs)) (sym rest_is)

        -- the code's step
        pub record_laid : (marked : Bool) (end : ℕ) → marked ≡ chosen i → end ≡ start_of pieces following → (draft new : Draft) (changed : Bool) (count total : ℕ)
            → IsLaidBy draft chosen made pieces records i → LeadsOn draft (settled (made_if marked (made i) (block_at pieces own_range end))) new
            → ((rest whole : List Part) → IsDraft draft (settled (made_if marked (made i) (block_at pieces own_range end)) ++ rest) whole
            → changed ≡ (marked && is_changed (made i (block_at pieces own_range end))))
            → drop (i + 1) records ≡ following → count + changed_from chosen made i (blocks_of pieces (drop i records)) ≡ total
            → IsLaidBy new chosen made pieces records (i + 1)
            × ((count + cond changed 1 0) + changed_from chosen made (i + 1) (blocks_of pieces (drop (i + 1) records)) ≡ total)
        record_laid marked end marked_is end_is draft new changed count total laid leads tells rest_is counted =
            let Leads : Bool → ℕ → Type 0 = λ b e. LeadsOn draft (settled (made_if b (made i) (block_at pieces own_range e))) new in
            let Tells : Bool → ℕ → Type 0 = λ b e.
            (rest whole : List Part) → IsDraft draft (settled (made_if b (made i) (block_at pieces own_range e)) ++ rest) whole → changed ≡ (b && is_changed (made i (block_at pieces own_range e))) in
            let leads_here : Leads (chosen i) (start_of pieces following) = subst (λ e. Leads (chosen i) e) end_is (subst (λ b. Leads b end) marked_is leads) in
            let tells_here : Tells (chosen i) (start_of pieces following) = subst (λ e. Tells (chosen i) e) end_is (subst (λ b. Tells b end) marked_is tells) in
            let told = tells_here later (script_of chosen made pieces records) (laid_here draft laid) in
            (laid_next draft new laid leads_here rest_is, sym (counted_next count changed told rest_is) ∙ counted)

-- ---- the same records, chosen in two ways

module _ (one other : ℕ → Bool) (made : ℕ → Block → List Part) where
  parts-same : (i : ℕ) (blocks : List Block) → ((k : ℕ) → i ≤ k → k < i + length blocks → one k ≡ other k) → parts_from one made i blocks ≡ parts_from other made i blocks
  parts-same i [] same = refl
  parts-same i (block ∷ blocks) same =
      ap₂ (λ b rest. made_if b (made i) block ++ rest) (same i (omega arith) (omega arith)) (parts-same (i + 1) blocks (λ k low high. same k (omega arith) (omega arith)))

  changed-same : (i : ℕ) (blocks : List Block) → ((k : ℕ) → i ≤ k → k < i + length blocks → one k ≡ other k) → changed_from one made i blocks ≡ changed_from other made i blocks
  changed-same i [] same = refl
  changed-same i (block ∷ blocks) same =
      let test : (ℕ → Bool) → ℕ × Block → Bool = λ chosen (k, block). chosen k && is_changed (made k block) in
      sum_by-cons (λ x. cond (test one x) 1 0) (i, block) (enumerate_from (i + 1) blocks)
      ∙ ap₂ (λ b rest. cond (b && is_changed (made i block)) 1 0 + rest) (same i (omega arith) (omega arith)) (changed-same (i + 1) blocks (λ k low high. same k (omega arith) (omega arith)))
      ∙ sym (sum_by-cons (λ x. cond (test other x) 1 0) (i, block) (enumerate_from (i + 1) blocks))

  length-blocks : (pieces : List Piece) (records : List (Range ℕ)) → length (blocks_of pieces records) ≡ length records
  length-blocks pieces [] = refl
  length-blocks pieces (own_range ∷ records) = ap suc (length-blocks pieces records)

  pub made-same : (selected : Option ℕ) (pieces : List Piece) (records : List (Range ℕ)) → ((k : ℕ) → k < length records → one k ≡ other k)
      → made_of selected one made pieces records ≡ made_of selected other made pieces records
  made-same selected pieces records same =
      let blocks : List Block = blocks_of pieces records in
      let each : (k : ℕ) → 0 ≤ k → k < 0 + length blocks → one k ≡ other k = λ k low high. same k (omega (arith, length-blocks pieces records)) in
      let make : List Part → ℕ → EditScript = λ parts count. record { script = settled (kept (lead_of pieces records) ++ parts); changed = count; chosen = selected } in
      ap₂ make (parts-same 0 blocks each) (changed-same 0 blocks each)

-- what the code answers
pub patched : (chosen : ℕ → Bool) (made : ℕ → Block → List Part) (pieces : List Piece) (records : List (Range ℕ)) (edited : Patched) (selected : Option ℕ)
    → edited.patch ≡ hunks_of (script_of chosen made pieces records) → edited.text ≡ edited_text (script_of chosen made pieces records)
    → edited.changed ≡ changed_from chosen made 0 (blocks_of pieces records) → edited.chosen ≡ selected → edited ≡ edited_by (made_of selected chosen made pieces records)
patched chosen made pieces records edited selected patch text changed number =
    let make : List Hunk → List ℕ → ℕ → Option ℕ → Patched = λ p t n k. record { patch = p; text = t; changed = n; chosen = k } in
    ap (λ p. make p edited.text edited.changed edited.chosen) patch ∙ ap₂ (λ t n. make (hunks_of (script_of chosen made pieces records)) t n edited.chosen) text changed
    ∙ ap (make (hunks_of (script_of chosen made pieces records)) (edited_text (script_of chosen made pieces records)) (changed_from chosen made 0 (blocks_of pieces records))) number

module _ (pieces : List Piece) (records : List (Range ℕ)) (are : AreRecords pieces records) where
  lead_bounds : start_of pieces records ≤ length pieces
  lead_bounds = (start-within pieces 0 records (omega arith) (ranges_of_records pieces records are).ascending (ranges_of_records pieces records are).each).1

  pub lead_short : length (text_of (lead_of pieces records)) ≤ length (text_of pieces)
  lead_short =
      let sizes = length-between pieces 0 (start_of pieces records) (length pieces) (omega arith) lead_bounds (omega arith) in
      omega (arith, sizes, ap (λ l. length (text_of l)) (take_all (length pieces) pieces (omega arith)))

-- ---- the text of a block

-- what a draft has got
got : (draft new : Draft) (group rest whole : List Part) → IsDraft draft (group ++ rest) whole → IsDraft new rest whole → new.text.items ≡ draft.text.items ++ edited_text group
got draft new group rest whole before following =
    append_cancel_right new.text.items (draft.text.items ++ edited_text group) (edited_text rest)
    (sym following.text ∙ before.text ∙ ap (λ l. draft.text.items ++ text_of l) (new_pieces-append group rest)
    ∙ ap (λ t. draft.text.items ++ t) (text_of-append (new_pieces group) (new_pieces rest)) ∙ sym (append_assoc draft.text.items (edited_text group) (edited_text rest)))

-- the code compares the text of a block with what a draft has got for it
pub compared : (pieces : List Piece) (made : ℕ → Block → List Part) (k : ℕ) (own_range : Range ℕ) (end start : ℕ) (draft new : Draft) (old since : List ℕ) (rest whole : List Part)
    → TakesAll made → IsPlace pieces own_range end
    → IsDraft draft (settled (made k (block_at pieces own_range end)) ++ rest) whole → IsDraft new rest whole
    → start ≡ length draft.text.items → since ≡ drop start new.text.items → old ≡ text_of (span_at pieces own_range end)
    → not (bytes_eq old since) ≡ is_changed (made k (block_at pieces own_range end))
compared pieces made k own_range end start draft new old since rest whole takes place before following size since_is old_is =
    let group : List Part = settled (made k (block_at pieces own_range end)) in
    let text : since ≡ edited_text group =
    since_is ∙ ap (drop start) (got draft new group rest whole before following) ∙ drop_at draft.text.items (edited_text group) start (sym size) in
    let own : old ≡ text_of (old_pieces group) =
    old_is ∙ ap text_of (span-parts pieces own_range end place ∙ sym (takes k (block_at pieces own_range end)) ∙ sym (old_pieces-settled (made k (block_at pieces own_range end)))) in
    ap₂ (λ a b. not (bytes_eq a b)) own text

-- ---- the selected records

-- marks, and what they are of
pub made_as_selected : (selected : Option ℕ) (made : ℕ → Block → List Part) (pieces : List Piece) (edited : Patched) (marks shown : List Bool) (places : List ℕ) (records : List (Range ℕ))
    → AreRecords pieces records → shown ≡ marks → AreMarksOf marks places (length records) → IsMadeOf pieces selected (is_marked shown) made edited
    → IsMadeOf pieces selected (is_selected places) made edited
made_as_selected selected made pieces edited marks shown places records are same marked (others, are_too, is) =
    let one : others ≡ records = one_list_of_records pieces others records are_too are in (
      others,
      are_too,
      is ∙ ap edited_by (made-same (is_marked shown) (is_selected places) made selected pieces others
          (λ k within. ap (λ m. is_marked m k) same ∙ marked.each k (subst (λ rs. k < length rs) one within))),
    )

pub made_as_all : (selected : Option ℕ) (made : ℕ → Block → List Part) (pieces : List Piece) (edited : Patched) (marks shown : List Bool) (records : List (Range ℕ)) → AreRecords pieces records
    → shown ≡ marks
    → AreAllMarked marks (length records) → IsMadeOf pieces selected (is_marked shown) made edited → IsMadeOf pieces selected (λ k. true) made edited
made_as_all selected made pieces edited marks shown records are same marked (others, are_too, is) =
    let one : others ≡ records = one_list_of_records pieces others records are_too are in (
      others,
      are_too,
      is ∙ ap edited_by (made-same (is_marked shown) (λ k. true) made selected pieces others
          (λ k within. ap (λ m. is_marked m k) same ∙ marked.each k (subst (λ rs. k < length rs) one within))),
    )
