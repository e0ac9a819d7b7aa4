-- What an edit means for the records of a text: each block is turned into another one.
use Rattle.std.proofs.Common.{◌≡◌, ◌∙◌, ◌⊎◌, ℕ, ◌+◌, ◌≤◌, Bool, true, false, List, [], ◌∷◌, ◌++◌, length, map, drop, refl, ap, ap₂, sym, subst, inl, inr, arith, append-nil, None}
use Rattle.std.proofs.Common.{if◌then◌else◌}
use Rattle.std.specs.Prelude.{flat_map}
use Rattle.std.specs.List.{AllByRecursion, list_any, enumerate_from}
use Rattle.std.specs.declared.ops.Range.{Range}
use Rattle.std.proofs.lemmas.Bool.{cases_Bool, cond_both, false≢true}
use Rattle.std.proofs.lemmas.List.{append_assoc, map-append, take_all}
use Rattle.rec_text.specs.Bytes.{ends_newline}
use Rattle.rec_text.specs.Elements.{Piece, IsElement, AreElementsOf, text_of, has_name}
use Rattle.rec_text.specs.Records.{AreRecords, elements_in, is_blank_piece, is_field_piece}
use Rattle.rec_text.proofs.lemmas.ListLemmas.{AllByRecursion-append, AllByRecursion-prefix, AllByRecursion-following}
use Rattle.rec_edit.specs.Script.{Part, closed, opened, lacks_newline, settled, new_pieces, edited_text}
use Rattle.rec_edit.specs.Blocks.{Block, one, kept, start_of, lead_of, blocks_of, parts_from, script_of, is_selected, made_if}
use Rattle.rec_edit.specs.Effect.{between_fields, typed_records}
use Rattle.rec_edit.proofs.lemmas.scripts.ScriptLemmas.{new_pieces-append}
use Rattle.rec_edit.proofs.lemmas.scripts.LaidLemmas.{Ends, Neat, Neat-closed, map-closed, map-closed-opened, Reopens, closed-settled, lacking, closed-blank, closed-field}
use Rattle.rec_edit.proofs.lemmas.records.TypedRecordLemmas.{with_own, open_of, own_of, closes, own_of-gap, open_of-gap, open_of-none, own_of-full, own_of-map, AreTurned, IsTurned}
use Rattle.rec_edit.proofs.lemmas.records.TypedRecordLemmas.{between_fields-fails, described, none-type_of, remade-turned, same_descriptors, type_of-none}
use Rattle.rec_edit.proofs.lemmas.records.FitLemmas.{IsOwn, Cut, Cut-AreRecords, between_fields-own, records_there, list_any-closed, closed-own, own_of-records}
use Rattle.rec_edit.proofs.lemmas.scripts.WellFormedLemmas.{IsClosed, IsBare, AreWhole-nil, AreWhole-append, AreWhole-closed, AreWhole-opened, CanStandFor, AreWhole}
use Rattle.rec_edit.proofs.lemmas.layouts.NeatLemmas.{CanStandFor-kept}
use Rattle.rec_edit.proofs.lemmas.blocks.LayingLemmas.{between, between-parts}
use Rattle.rec_check.specs.Descriptors.{rec_name, type_of, types_of}
use Rattle.rec_edit.proofs.lemmas.records.ClosedLemmas.{named-closed}
use Rattle.rec_edit.proofs.lemmas.records.MemberLemmas.{NoneNamed}
use Rattle.rec_edit.proofs.lemmas.outcomes.EffectLemmas.{GivesWay, closed_owns, map-map}

-- ---- a text, cut at its records

abbrev pub all : Block → List Piece
all block = block.own ++ block.gap

-- a blank element stands there, unless no block comes after
abbrev pub Shut : List Block → List Piece → Type 0
Shut [] gap = Unit {0}
Shut (next ∷ blocks) gap = list_any is_blank_piece gap ≡ true

abbrev pub AreCut : List Block → Type 0
AreCut [] = Unit {0}
AreCut (block ∷ blocks) = IsOwn block.own × (list_any is_field_piece block.gap ≡ false) × Shut blocks block.gap × AreCut blocks

-- blocks whose own elements are those of records, if any, which stand apart
abbrev pub Fits : List Block → Type 0
Fits [] = Unit {0}
Fits (block ∷ blocks) = (list_any is_blank_piece block.own ≡ false) × (list_any is_field_piece block.gap ≡ false) × ((block.own ≡ []) ⊎ Shut blocks block.gap) × Fits blocks

own_of-fits : (blocks : List Block) → Fits blocks → own_of (flat_map all blocks) ≡ closes (map (λ block. block.own) blocks)
own_of-fits [] fits = refl
own_of-fits (block ∷ blocks) (full, none, apart, more) =
    let rest : List Piece = flat_map all blocks in
    let after : own_of (block.gap ++ rest) ≡ closes (map (λ b. b.own) blocks) = own_of-gap block.gap rest none ∙ own_of-fits blocks more in
    ap own_of (append_assoc block.own block.gap rest) ∙ elim apart [
      | inl gone ↦ ap (λ own. own_of (own ++ (block.gap ++ rest))) gone ∙ after ∙ ap (λ own. with_own (between_fields own) (closes (map (λ b. b.own) blocks))) (sym gone)
      | inr shut ↦ own_of-full block.own (block.gap ++ rest) full (no_begin block.gap blocks none shut) ∙ ap (with_own (between_fields block.own)) after
    ]
  where
    no_begin : (gap : List Piece) (others : List Block) → list_any is_field_piece gap ≡ false → Shut others gap → open_of (gap ++ flat_map all others) ≡ []
    no_begin gap [] none shut = ap open_of (append-nil gap) ∙ open_of-none gap none
    no_begin gap (next ∷ others) none shut = open_of-gap gap (flat_map all (next ∷ others)) none shut

pub own_of-blocks : (lead : List Piece) (blocks : List Block) → list_any is_field_piece lead ≡ false → Fits blocks → own_of (lead ++ flat_map all blocks) ≡ closes (map (λ block. block.own) blocks)
own_of-blocks lead blocks none fits = own_of-gap lead (flat_map all blocks) none ∙ own_of-fits blocks fits

module _ (pieces : List Piece) where
  gap_none : (apart : Bool) (n : ℕ) (records : List (Range ℕ)) → Cut pieces apart n records → list_any is_field_piece (between pieces n (start_of pieces records)) ≡ false
  gap_none apart n [] cut = ap (λ l. list_any is_field_piece (drop n l)) (take_all (length pieces) pieces (omega arith)) ∙ cut
  gap_none apart n (own_range ∷ records) cut = cut.3

  gap_shut : (n : ℕ) (records : List (Range ℕ)) → Cut pieces true n records → Shut (blocks_of pieces records) (between pieces n (start_of pieces records))
  gap_shut n [] cut = tt
  gap_shut n (own_range ∷ records) cut = cut.4 refl

  pub AreCut-blocks : (apart : Bool) (n : ℕ) (records : List (Range ℕ)) → Cut pieces apart n records → AreCut (blocks_of pieces records)
  AreCut-blocks apart n [] cut = tt
  AreCut-blocks apart n (own_range ∷ records) cut =
      (cut.5, gap_none true own_range.end records cut.6, gap_shut own_range.end records cut.6, AreCut-blocks true own_range.end records cut.6)

  -- the elements are those of the blocks
  start-of_cut : (apart : Bool) (n : ℕ) (records : List (Range ℕ)) → n ≤ length pieces → Cut pieces apart n records → (n ≤ start_of pieces records) × (start_of pieces records ≤ length pieces)
  start-of_cut apart n [] within cut = (within, omega arith)
  start-of_cut apart n (own_range ∷ records) within cut = (cut.0, omega (arith, cut.1, cut.2))

  joined-from : (apart : Bool) (n : ℕ) (records : List (Range ℕ)) → n ≤ length pieces → Cut pieces apart n records
      → between pieces n (start_of pieces records) ++ flat_map all (blocks_of pieces records) ≡ between pieces n (length pieces)
  joined-from apart n [] within cut = append-nil (between pieces n (length pieces))
  joined-from apart n (own_range ∷ records) within cut =
      let end : ℕ = start_of pieces records in
      let more = start-of_cut true own_range.end records cut.2 cut.6 in
      let rest : List Piece = flat_map all (blocks_of pieces records) in
      ap (λ l. between pieces n own_range.start ++ l) (append_assoc (elements_in pieces own_range) (between pieces own_range.end end) rest
      ∙ ap (λ l. elements_in pieces own_range ++ l) (joined-from true own_range.end records cut.2 cut.6)
      ∙ sym (between-parts pieces own_range.start own_range.end (length pieces) (omega (arith, cut.1)) cut.2 (omega arith)))
      ∙ sym (between-parts pieces n own_range.start (length pieces) cut.0 (omega (arith, cut.1, cut.2)) (omega arith))

  pub joined : (records : List (Range ℕ)) → Cut pieces false 0 records → lead_of pieces records ++ flat_map all (blocks_of pieces records) ≡ pieces
  joined records cut = joined-from false 0 records (omega arith) cut ∙ take_all (length pieces) pieces (omega arith)

-- ---- parts that are fine

-- What stands there is well formed and ends in newlines; where the old elements lack one, also without it, and closed again it
-- is the same.
pub record IsFine (part : Part) : Type 0 where
  pub lines : AllByRecursion IsClosed part.new
  pub bares : lacks_newline (text_of part.old) ≡ true → AllByRecursion IsBare part.new
  pub reopens : Reopens part

pub AreWhole-settled : (parts : List Part) → AllByRecursion IsFine parts → AreWhole (new_pieces (settled parts))
AreWhole-settled [] fine = AreWhole-nil
AreWhole-settled (part ∷ []) fine = elim (cases_Bool (lacks_newline (text_of part.old))) [
  | inl lacks ↦ rw lacks (subst AreWhole (sym (append-nil (opened part.new))) (AreWhole-opened part.new fine.0.lines (fine.0.bares lacks)))
  | inr ends ↦ rw ends (subst AreWhole (sym (append-nil part.new)) (AreWhole-closed part.new fine.0.lines))
]
AreWhole-settled (part ∷ next ∷ parts) fine = AreWhole-append part.new (new_pieces (settled (next ∷ parts))) fine.0.lines (AreWhole-settled (next ∷ parts) fine.1)

all_reopen : (parts : List Part) → AllByRecursion IsFine parts → AllByRecursion Reopens parts
all_reopen [] fine = tt
all_reopen (part ∷ parts) fine = (fine.0.reopens, all_reopen parts fine.1)

pub all_ends : (pieces : List Piece) → AllByRecursion IsClosed pieces → AllByRecursion Ends pieces
all_ends [] closeds = tt
all_ends (piece ∷ pieces) closeds = (closeds.0.ends, all_ends pieces closeds.1)

new_ends : (parts : List Part) → AllByRecursion IsFine parts → AllByRecursion Ends (new_pieces parts)
new_ends [] fine = tt
new_ends (part ∷ parts) fine = AllByRecursion-append Ends part.new (new_pieces parts) (all_ends part.new fine.0.lines) (new_ends parts fine.1)

-- with their newlines, the new elements of a script are those of its parts
pub closed-new : (parts : List Part) → AllByRecursion IsFine parts → map closed (new_pieces (settled parts)) ≡ new_pieces parts
closed-new parts fine = closed-settled parts (all_reopen parts fine) ∙ map-closed (new_pieces parts) (new_ends parts fine)

pub fine_one : (becomes : Piece → List Piece) (piece : Piece) → CanStandFor piece (becomes (closed piece)) → (ends_newline piece.bytes ≡ false → AllByRecursion Neat (becomes (closed piece)))
    → IsFine (one becomes piece)
fine_one becomes piece stands neat = record {
  lines = stands.lines;
  bares = λ lacks. stands.bares (open_piece lacks);
  reopens = λ lacks. map-closed-opened (becomes (closed piece)) (neat (open_piece lacks)) ∙ sym (map-closed (becomes (closed piece)) (all_ends (becomes (closed piece)) stands.lines));
}
  where
    open_piece : lacks_newline (text_of (piece ∷ [])) ≡ true → ends_newline piece.bytes ≡ false
    open_piece lacks = ap ends_newline (sym (append-nil piece.bytes)) ∙ lacking (text_of (piece ∷ [])) lacks

pub fine_kept : (pieces : List Piece) → AllByRecursion IsElement pieces → AllByRecursion IsFine (kept pieces)
fine_kept [] whole = tt
fine_kept (piece ∷ pieces) whole =
    (fine_one (λ p. p ∷ []) piece (CanStandFor-kept piece whole.0) (λ other. (Neat-closed piece other, tt)), fine_kept pieces whole.1)

pub new_pieces-kept : (pieces : List Piece) → new_pieces (kept pieces) ≡ map closed pieces
new_pieces-kept [] = refl
new_pieces-kept (piece ∷ pieces) = ap (λ l. closed piece ∷ l) (new_pieces-kept pieces)

-- ---- what holds of all parts

pub all_parts_from : (P : Part → Type 0) (Q : Block → Type 0) (chosen : ℕ → Bool) (made : ℕ → Block → List Part) → ((k : ℕ) (block : Block) → Q block → AllByRecursion P (made k block))
    → ((block : Block) → Q block → AllByRecursion P (kept (all block))) → (i : ℕ) (blocks : List Block) → AllByRecursion Q blocks → AllByRecursion P (parts_from chosen made i blocks)
all_parts_from P Q chosen made each stays i [] every = tt
all_parts_from P Q chosen made each stays i (block ∷ blocks) every =
    AllByRecursion-append P (made_if (chosen i) (made i) block) (parts_from chosen made (i + 1) blocks)
    (cond_both (chosen i) (made i block) (kept (all block)) (AllByRecursion P) (λ _. each i block every.0) (λ _. stays block every.0))
    (all_parts_from P Q chosen made each stays (i + 1) blocks every.1)

-- ---- blocks that are turned into others

abbrev pub WholeBlock : Block → Type 0
WholeBlock block = AllByRecursion IsElement (block.own ++ block.gap)

-- What is made of a block are the own elements that a record becomes, and a gap without fields; it has a blank element where
-- the old gap has one, unless nothing is left of the record. No record becomes a descriptor.
pub record Turns (made : Block → List Part) (turn : Block → Block) (remake : List Piece → List Piece) : Type 0 where
  pub fine : (block : Block) → WholeBlock block → AllByRecursion IsFine (made block)
  pub new : (block : Block) → WholeBlock block → new_pieces (made block) ≡ (turn block).own ++ (turn block).gap
  pub own : (block : Block) → WholeBlock block → between_fields (turn block).own ≡ between_fields (remake (map closed block.own))
  pub full : (block : Block) → IsOwn block.own → list_any is_blank_piece (turn block).own ≡ false
  pub gap : (block : Block) → list_any is_field_piece block.gap ≡ false → list_any is_field_piece (turn block).gap ≡ false
  pub apart : (block : Block) → ((turn block).own ≡ []) ⊎ (list_any is_blank_piece block.gap ≡ true → list_any is_blank_piece (turn block).gap ≡ true)
  pub still : (block : Block) → WholeBlock block → list_any (has_name rec_name) block.own ≡ false → list_any (has_name rec_name) (turn block).own ≡ false

abbrev pub closed_block : Block → Block
closed_block block = record { own = map closed block.own; gap = map closed block.gap }

module _ (chosen : ℕ → Bool) (made : ℕ → Block → List Part) (turn : ℕ → Block → Block) (remake : ℕ → List Piece → List Piece) (turns : (k : ℕ) → Turns (made k) (turn k) (remake k)) where
  abbrev pub turn_if : Bool → ℕ → Block → Block
  turn_if here k block = if here then turn k block else closed_block block

  abbrev pub turned_from : ℕ → List Block → List Block
  turned_from i blocks = map (λ (k, block). turn_if (chosen k) k block) (enumerate_from i blocks)

  new_if : (here : Bool) (k : ℕ) (block : Block) → WholeBlock block → new_pieces (made_if here (made k) block) ≡ all (turn_if here k block)
  new_if true k block whole = (turns k).new block whole
  new_if false k block whole = new_pieces-kept (block.own ++ block.gap) ∙ map-append closed block.own block.gap

  new_from : (i : ℕ) (blocks : List Block) → AllByRecursion WholeBlock blocks → new_pieces (parts_from chosen made i blocks) ≡ flat_map all (turned_from i blocks)
  new_from i [] whole = refl
  new_from i (block ∷ blocks) whole =
      new_pieces-append (made_if (chosen i) (made i) block) (parts_from chosen made (i + 1) blocks)
      ∙ ap₂ (λ a b. a ++ b) (new_if (chosen i) i block whole.0) (new_from (i + 1) blocks whole.1)

  fine_from : (i : ℕ) (blocks : List Block) → AllByRecursion WholeBlock blocks → AllByRecursion IsFine (parts_from chosen made i blocks)
  fine_from = all_parts_from IsFine WholeBlock chosen made (λ k block whole. (turns k).fine block whole) (λ block whole. fine_kept (all block) whole)

  shut_as : (gap other : List Piece) (i : ℕ) (blocks : List Block) → Shut blocks gap → (list_any is_blank_piece gap ≡ true → list_any is_blank_piece other ≡ true) → Shut (turned_from i blocks) other
  shut_as gap other i [] shut same = tt
  shut_as gap other i (block ∷ blocks) shut same = same shut

  fits_if : (here : Bool) (k : ℕ) (block : Block) (i : ℕ) (blocks : List Block) → IsOwn block.own → list_any is_field_piece block.gap ≡ false → Shut blocks block.gap → Fits (turned_from i blocks)
      → Fits (turn_if here k block ∷ turned_from i blocks)
  fits_if true k block i blocks own none shut more = (
    (turns k).full block own,
    (turns k).gap block none,
    elim ((turns k).apart block) [
      | inl gone ↦ inl gone
      | inr same ↦ inr (shut_as block.gap (turn k block).gap i blocks shut same)
    ],
    more,
  )
  fits_if false k block i blocks own none shut more = (
    list_any-closed is_blank_piece closed-blank block.own ∙ own.full,
    list_any-closed is_field_piece closed-field block.gap ∙ none,
    inr (shut_as block.gap (map closed block.gap) i blocks shut (λ blank. list_any-closed is_blank_piece closed-blank block.gap ∙ blank)),
    more,
  )

  Fits-turned : (i : ℕ) (blocks : List Block) → AreCut blocks → Fits (turned_from i blocks)
  Fits-turned i [] cut = tt
  Fits-turned i (block ∷ blocks) (own, none, shut, more) = fits_if (chosen i) i block (i + 1) blocks own none shut (Fits-turned (i + 1) blocks more)

  module _ (pieces : List Piece) (records : List (Range ℕ)) (whole : AreElementsOf pieces (text_of pieces)) (are : AreRecords pieces records) where
    cut : Cut pieces false 0 records
    cut = Cut-AreRecords pieces records are

    wholes : (some : List Block) → AllByRecursion IsElement (flat_map all some) → AllByRecursion WholeBlock some
    wholes [] elements = tt
    wholes (block ∷ some) elements = (
      AllByRecursion-prefix IsElement (all block) (flat_map all some) elements,
      wholes some (AllByRecursion-following IsElement (all block) (flat_map all some) elements),
    )

    elements : AllByRecursion IsElement (lead_of pieces records ++ flat_map all (blocks_of pieces records))
    elements = subst (AllByRecursion IsElement) (sym (joined pieces records cut)) whole.well_formed

    pub whole_blocks : AllByRecursion WholeBlock (blocks_of pieces records)
    whole_blocks = wholes (blocks_of pieces records) (AllByRecursion-following IsElement (lead_of pieces records) (flat_map all (blocks_of pieces records)) elements)

    fine : AllByRecursion IsFine (kept (lead_of pieces records) ++ parts_from chosen made 0 (blocks_of pieces records))
    fine = AllByRecursion-append IsFine (kept (lead_of pieces records)) (parts_from chosen made 0 (blocks_of pieces records))
        (fine_kept (lead_of pieces records) (AllByRecursion-prefix IsElement (lead_of pieces records) (flat_map all (blocks_of pieces records)) elements))
        (fine_from 0 (blocks_of pieces records) whole_blocks)

    -- the new elements are those of the edited text
    pub turned_is_read : AreElementsOf (new_pieces (script_of chosen made pieces records)) (edited_text (script_of chosen made pieces records))
    turned_is_read =
        let read = AreWhole-settled (kept (lead_of pieces records) ++ parts_from chosen made 0 (blocks_of pieces records)) fine in
        record { joined = refl; well_formed = read.well_formed; lines_end = read.lines_end }

    new_closed : map closed (new_pieces (script_of chosen made pieces records)) ≡ map closed (lead_of pieces records) ++ flat_map all (turned_from 0 (blocks_of pieces records))
    new_closed =
        closed-new (kept (lead_of pieces records) ++ parts_from chosen made 0 (blocks_of pieces records)) fine
        ∙ new_pieces-append (kept (lead_of pieces records)) (parts_from chosen made 0 (blocks_of pieces records))
        ∙ ap₂ (λ a b. a ++ b) (new_pieces-kept (lead_of pieces records)) (new_from 0 (blocks_of pieces records) whole_blocks)

    -- the records of the edited text
    pub owns_after : (ranges : List (Range ℕ)) → AreRecords (new_pieces (script_of chosen made pieces records)) ranges
        → closed_owns (new_pieces (script_of chosen made pieces records)) ranges ≡ closes (map (λ block. block.own) (turned_from 0 (blocks_of pieces records)))
    owns_after ranges are_new =
        let new : List Piece = new_pieces (script_of chosen made pieces records) in
        let cuts = AreCut-blocks pieces false 0 records cut in
        map-map (map closed) (elements_in new) ranges ∙ ap (map (map closed)) (own_of-records new ranges are_new) ∙ sym (own_of-map closed closed-blank closed-field new) ∙ ap own_of new_closed
        ∙ own_of-blocks (map closed (lead_of pieces records)) (turned_from 0 (blocks_of pieces records))
        (list_any-closed is_field_piece closed-field (lead_of pieces records) ∙ gap_none pieces false 0 records cut) (Fits-turned 0 (blocks_of pieces records) cuts)

-- ---- each record is what was made of it

module _ (selected : List ℕ) (made : Block → List Part) (turn : Block → Block) (remake : List Piece → List Piece) (turns : Turns made turn remake) where
  one_turned : (k : ℕ) (block : Block) (here : Bool) → is_selected selected k ≡ here → WholeBlock block → IsOwn block.own → (is_selected selected k ≡ true → type_of block.own ≡ None)
      → IsTurned selected remake k (map closed block.own) (if here then turn block else closed_block block).own
  one_turned k block true is whole own plain =
      let none : list_any (has_name rec_name) block.own ≡ false = none-type_of block.own (plain is) in
      let own_whole = AllByRecursion-prefix IsElement block.own block.gap whole in
      record {
        some = (closed-own block.own own).some;
        stays = λ leaves. absurd (false≢true (sym leaves ∙ is));
        changes = λ takes. turns.own block whole;
        plain = λ takes. type_of-none (map closed block.own) (named-closed block.own own_whole ∙ none);
        still = λ takes. type_of-none (between_fields (turn block).own) (between_fields-fails (has_name rec_name) (turn block).own (turns.still block whole none));
      }
  one_turned k block false is whole own plain = record {
    some = (closed-own block.own own).some;
    stays = λ leaves. between_fields-own (map closed block.own) (closed-own block.own own);
    changes = λ takes. absurd (false≢true (sym is ∙ takes));
    plain = λ takes. absurd (false≢true (sym is ∙ takes));
    still = λ takes. absurd (false≢true (sym is ∙ takes));
  }

  all_turned : (pieces : List Piece) (i : ℕ) (records : List (Range ℕ)) → NoneNamed selected i (types_of pieces records) → AllByRecursion WholeBlock (blocks_of pieces records)
      → AreCut (blocks_of pieces records)
      → AreTurned selected remake i (closed_owns pieces records)
      (map (λ block. block.own) (turned_from (is_selected selected) (λ k. made) (λ k. turn) (λ k. remake) (λ k. turns) i (blocks_of pieces records)))
  all_turned pieces i [] none whole are_cut = tt
  all_turned pieces i (own_range ∷ records) none whole (own, gap, shut, more) =
      let block : Block = record { own = elements_in pieces own_range; gap = elements_in pieces (record { start = own_range.end; end = start_of pieces records }) } in
      (one_turned i block (is_selected selected i) refl whole.0 own none.0, all_turned pieces (i + 1) records none.1 whole.1 more)

  pub turned_gives_way : (pieces : List Piece) (records : List (Range ℕ)) → AreElementsOf pieces (text_of pieces) → AreRecords pieces records → NoneNamed selected 0 (types_of pieces records)
      → GivesWay pieces (new_pieces (script_of (is_selected selected) (λ k. made) pieces records)) selected remake records
  turned_gives_way pieces records whole are none =
      let new : List Piece = new_pieces (script_of (is_selected selected) (λ k. made) pieces records) in
      let there = records_there new in
      let cuts = AreCut-blocks pieces false 0 records (Cut-AreRecords pieces records are) in
      let owns = owns_after (is_selected selected) (λ k. made) (λ k. turn) (λ k. remake) (λ k. turns) pieces records whole are there.0 there.1 in
      let wholes = whole_blocks (is_selected selected) (λ k. made) (λ k. turn) (λ k. remake) (λ k. turns) pieces records whole are in
      let news = map (λ (block : Block). block.own) (turned_from (is_selected selected) (λ k. made) (λ k. turn) (λ k. remake) (λ k. turns) 0 (blocks_of pieces records)) in
      let turned : AreTurned selected remake 0 (closed_owns pieces records) news = all_turned pieces 0 records none wholes cuts in
      record {
        ranges = there.0;
        are = there.1;
        remade_are = ap (typed_records None) owns ∙ sym (remade-turned selected remake (closed_owns pieces records) news turned);
        same = ap (described selected remake) owns ∙ same_descriptors selected remake 0 (closed_owns pieces records) news turned;
      }
