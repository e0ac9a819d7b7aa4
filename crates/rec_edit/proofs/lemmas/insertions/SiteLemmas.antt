-- Where a new record is put, and what stands there before and after it.
use Rattle.std.proofs.Common.{◌≡◌, ◌∙◌, ℕ, ◌+◌, ◌-◌, ◌≤◌, List, [], ◌∷◌, ◌++◌, Option, Some, None, length, map, reverse, take, drop, refl, ap, sym, inl, inr, arith, subst}
use Rattle.std.proofs.Common.{append_assoc, append-nil, Bool, Ok, ◌<◌, IsTrue}
use Rattle.std.specs.Prelude.{find, position, slice_get, option_and_then}
use Rattle.std.specs.List.{position_or_len, prefix_len}
use Rattle.std.specs.Option.{option_map_or}
use Rattle.std.specs.declared.ops.Range.{Range}
use Rattle.std.proofs.lemmas.Bool.{cases_lt, lt-ltb, cond_both}
use Rattle.std.proofs.lemmas.List.{take_rest, drop-map, take-map, length-map, length-take, length-reverse, map-append, reverse-append, length-append, length-drop}
use Rattle.std.proofs.lemmas.List.Folds.{find_at}
use Rattle.std.proofs.lemmas.List.Quantifiers.{position-Some}
use Rattle.std.proofs.lemmas.List.Sums.{position_or_len_is, prefix_len-le-length}
use Rattle.std.proofs.lemmas.Option.{slice_get_past}
use Rattle.std.specs.Fmt.{signed_decimal}
use Rattle.rec_text.specs.declared.element.Element.{Element}
use Rattle.rec_text.specs.Elements.{Piece, text_of}
use Rattle.rec_text.specs.Places.{piece_of, pieces_of}
use Rattle.rec_check.specs.declared.set.Set_.{Set_}
use Rattle.rec_check.specs.Sets.{is_of_type}
use Rattle.rec_edit.specs.Insertions.{Insertion, is_full, paragraph_start, paragraph_end, after_paragraph, before_paragraph, last_of, range_of, at_end, untyped_insertion, insertion_for}
use Rattle.rec_edit.specs.Insertions.{Numbered, numbered_fields}
use Rattle.rec_text.specs.Records.{AreRecords, is_full_at}
use Rattle.rec_edit.specs.declared.insertion.site.Gap.{Gap}
use Rattle.rec_edit.specs.declared.insertion.site.Gap.TheVariants.{Absent, Before, After}
use Rattle.rec_edit.specs.declared.insertion.site.Site.{Site}
use Rattle.rec_edit.specs.Task.{Pair, NewRecord, insert}
use Rattle.rec_edit.specs.Rules.{fields_of, canonical, empty_line}
use Rattle.rec_edit.specs.proving.Sites.{empty_line_before, empty_line_after, around, placed, heading, Begins, IsPut, IsRecordPut, AreSome}
use Rattle.rec_text.specs.Bytes.{ends_newline}
use Rattle.rec_edit.specs.declared.outcome.Patched.{Patched}
use Rattle.rec_check.specs.Descriptors.{rec_name}
use Rattle.rec_check.specs.Schemas.{Described}
use Rattle.rec_edit.specs.Wording.{IsNewRecord}
use Rattle.rec_edit.specs.proving.Given.{IsAutomaticText}
use Rattle.rec_edit.specs.proving.Edits.{IsCarriedOut, edited_by}
use Rattle.rec_text.proofs.lemmas.elements.ElementLemmas.{text_of-append}
use Rattle.rec_text.proofs.lemmas.ListLemmas.{AllByRecursion-append, AllByRecursion-slice_get}
use Rattle.rec_edit.specs.Outcome.{put_in}
use Rattle.rec_edit.specs.proving.Drafts.{AreLines, AreRanges}
use Rattle.rec_edit.proofs.lemmas.layouts.NeatLemmas.{canonical_ends}
use Rattle.rec_edit.proofs.lemmas.blocks.LayingLemmas.{ranges_of_records}
use Rattle.rec_edit.proofs.lemmas.blocks.ReplacementLemmas.{AreLines-fields}
use Rattle.rec_edit.proofs.lemmas.insertions.NewRecordLemmas.{new_record_has_fields}

-- ---- where a new record is put: beside which record, and at which end of its paragraph

-- ---- the set of a type

pub find-place : (record_type : List ℕ) (sets : List Set_) (place : ℕ) → Some place ≡ position (is_of_type record_type) sets → find (is_of_type record_type) sets ≡ slice_get sets place
find-place record_type sets place found =
    let no_set : Set_ = record { kind = None; head = None; members = record { start = 0; end = 0 } } in
    let at = position-Some (is_of_type record_type) sets place no_set (sym found) in
    let within = at.0 in
    let first : position_or_len (is_of_type record_type) sets ≡ place =
    position_or_len_is (is_of_type record_type) sets place no_set (omega arith)
    (λ k below. let early = position-Some (is_of_type record_type) sets place no_set (sym found) in early.2 k below) (λ _. at.1) in
    find_at (is_of_type record_type) sets ∙ ap (slice_get sets) first

pub find-none : (record_type : List ℕ) (sets : List Set_) → None ≡ position (is_of_type record_type) sets → find (is_of_type record_type) sets ≡ None
find-none record_type sets none =
    let at : ℕ = position_or_len (is_of_type record_type) sets in
    elim (cases_lt at (length sets)) [
      | inl within ↦ absurd (let there = lt-ltb at (length sets) within in let missing = rw there at none in cc)
      | inr past ↦ find_at (is_of_type record_type) sets ∙ slice_get_past sets at past
    ]

-- ---- the ends of a paragraph

pub map-reverse : {X Y : Type 0} (f : X → Y) (xs : List X) → map f (reverse xs) ≡ reverse (map f xs)
map-reverse f [] = refl
map-reverse f (x ∷ xs) =
    ap (map f) (reverse-append (x ∷ []) xs) ∙ map-append f (reverse xs) (x ∷ []) ∙ ap (λ l. l ++ f x ∷ []) (map-reverse f xs) ∙ sym (reverse-append (f x ∷ []) (map f xs))

module _ (elements : List Element) where
  -- those after an index that aren't blank, counted in the code's slice
  pub full_after : (end count : ℕ) → count ≡ prefix_len is_full (pieces_of (take (length elements - end) (drop end elements))) → end + count ≡ paragraph_end (pieces_of elements) end
  full_after end count counted =
      ap (λ n. end + n) (counted ∙ ap (λ e. prefix_len is_full (pieces_of e)) (take_rest elements end) ∙ ap (prefix_len is_full) (sym (drop-map piece_of end elements)))

  pub full_fits : (end count : ℕ) → count ≡ prefix_len is_full (pieces_of (take (length elements - end) (drop end elements))) → end ≤ length (pieces_of elements) → end + count ≤ length elements
  full_fits end count counted within =
      let few = prefix_len-le-length is_full (drop end (pieces_of elements)) in
      omega (arith, full_after end count counted, few, length-drop end (pieces_of elements), length-map elements piece_of)

  -- those before an index
  pub full_before : (start count : ℕ) → count ≡ prefix_len is_full (reverse (pieces_of (take start elements))) → start - count ≡ paragraph_start (pieces_of elements) start
  full_before start count counted = ap (λ n. start - n) (counted ∙ ap (λ p. prefix_len is_full (reverse p)) (sym (take-map piece_of start elements)))

  pub full_before_fits : (start count : ℕ) → count ≡ prefix_len is_full (reverse (pieces_of (take start elements))) → count ≤ start
  full_before_fits start count counted =
      let few = prefix_len-le-length is_full (reverse (pieces_of (take start elements))) in
      omega (arith, counted, few, length-reverse (pieces_of (take start elements)), length-map (take start elements) piece_of, length-take start elements)

-- ---- without a type

module _ (pieces : List Piece) (records : List (Range ℕ)) (sets : List Set_) (fields : List Piece) where
  -- after no untyped record
  abbrev pub beside_descriptor : Insertion
  beside_descriptor =
      option_map_or (before_paragraph pieces fields) (range_of records (option_and_then (λ s. s.head) (slice_get sets 1))) (at_end pieces fields)

  untyped-by : (last : Option (Range ℕ)) → range_of records (option_and_then last_of (slice_get sets 0)) ≡ last
      → untyped_insertion pieces records sets fields ≡ option_map_or (after_paragraph pieces fields) last beside_descriptor
  untyped-by None e = rw (e, untyped_insertion) refl
  untyped-by (Some last) e = rw (e, untyped_insertion) refl

  pub untyped_insertion-is : untyped_insertion pieces records sets fields
      ≡ option_map_or (after_paragraph pieces fields) (range_of records (option_and_then last_of (slice_get sets 0))) beside_descriptor
  untyped_insertion-is = untyped-by (range_of records (option_and_then last_of (slice_get sets 0))) refl

-- ---- what stands before the fields of a new record, and the text that is put in with them

-- ---- before the fields

module _ (pieces shown : List Piece) (sets : List Set_) (record_type : Option (List ℕ)) (records slice : List (Range ℕ)) (site : Site) (same : shown ≡ pieces) (all : slice ≡ records)
    (are : AreRecords pieces records) where
  -- the site, as it was found among the elements and the records that were read
  sited : (prefix : List Piece) → ((fields : List Piece) → insertion_for shown slice sets record_type fields ≡ placed site (prefix ++ fields))
      → (fields : List Piece) → insertion_for pieces records sets record_type fields ≡ placed site (prefix ++ fields)
  sited prefix is fields =
      ap (λ ps. insertion_for ps records sets record_type fields) (sym same) ∙ ap (λ rs. insertion_for shown rs sets record_type fields) (sym all) ∙ is fields

  pub Begins-heading : (old before new : List ℕ) → before ≡ old ++ text_of (empty_line_before site.gap) → new ≡ before ++ text_of (heading record_type)
      → ((fields : List Piece) → insertion_for shown slice sets record_type fields ≡ at_end shown (heading record_type ++ fields)) → ((new : List Piece) → at_end shown new ≡ placed site new)
      → Begins pieces sets record_type site old new
  Begins-heading old before new lined headed is at = record {
    records = records;
    are = are;
    prefix = heading record_type;
    grown = headed ∙ ap (λ t. t ++ text_of (heading record_type)) lined ∙ append_assoc old (text_of (empty_line_before site.gap)) (text_of (heading record_type))
        ∙ ap (λ t. old ++ t) (sym (text_of-append (empty_line_before site.gap) (heading record_type)));
    is = sited (heading record_type) (λ fields. is fields ∙ at (heading record_type ++ fields));
  }

-- ---- the whole text

around-is : (gap : Gap) (new : List Piece) → (empty_line_before gap ++ new) ++ empty_line_after gap ≡ around gap new
around-is Absent new = append-nil new
around-is Before new = append-nil (empty_line_before Before ++ new)
around-is After new = refl

pub IsRecordPut-text : (pieces : List Piece) (sets : List Set_) (record_type : Option (List ℕ)) (site : Site) (automatic : List ℕ) (pairs : List Pair) (old begun given filled whole : List ℕ)
    → Begins pieces sets record_type site old begun → old ≡ [] → given ≡ begun ++ automatic → filled ≡ given ++ text_of (fields_of pairs) → whole ≡ filled ++ text_of (empty_line_after site.gap)
    → IsRecordPut pieces sets record_type automatic pairs site.place whole
IsRecordPut-text pieces sets record_type site automatic pairs old begun given filled whole begins none gives fills ends = record {
  records = begins.records;
  are = begins.are;
  is = λ fields are.
      let before = empty_line_before site.gap in
      let following = empty_line_after site.gap in
      let prefix = begins.prefix in
      let own = fields_of pairs in
      let begun_is : begun ≡ text_of (before ++ prefix) = begins.grown ∙ ap (λ t. t ++ text_of (before ++ prefix)) none in
      let given_is : given ≡ text_of ((before ++ prefix) ++ fields) =
      gives ∙ ap (λ t. t ++ automatic) begun_is ∙ ap (λ t. text_of (before ++ prefix) ++ t) are ∙ sym (text_of-append (before ++ prefix) fields) in
      let filled_is : filled ≡ text_of (((before ++ prefix) ++ fields) ++ own) =
      fills ∙ ap (λ t. t ++ text_of own) given_is ∙ sym (text_of-append ((before ++ prefix) ++ fields) own) in
      let whole_is : whole ≡ text_of ((((before ++ prefix) ++ fields) ++ own) ++ following) =
      ends ∙ ap (λ t. t ++ text_of following) filled_is ∙ sym (text_of-append (((before ++ prefix) ++ fields) ++ own) following) in
      let order : ((before ++ prefix) ++ fields) ++ own ≡ before ++ (prefix ++ (fields ++ own)) = simp append_assoc in
      let put : IsPut site.place whole (placed site (prefix ++ (fields ++ own))) =
      record { same_place = refl; same_text = whole_is ∙ ap text_of (ap (λ l. l ++ following) order ∙ around-is site.gap (prefix ++ (fields ++ own))) } in
      subst (IsPut site.place whole) (sym (begins.is (fields ++ own))) put;
}

-- ---- the edit that puts a new record in, and its refusals

-- ---- all that is put in ends in newlines

pub AreLines-numbered : (given : List Numbered) → AreLines (numbered_fields given)
AreLines-numbered [] = tt
AreLines-numbered (one ∷ given) = (canonical_ends one.name (signed_decimal one.number), AreLines-numbered given)

-- an insertion of some lines, at a place of the text
pub record CanBePut (pieces : List Piece) (insertion : Insertion) : Type 0 where
  pub within : insertion.place ≤ length pieces
  pub some : 0 < length insertion.new
  pub lines : AreLines insertion.new

module _ (pieces : List Piece) (records : List (Range ℕ)) (ranges : AreRanges (length pieces) records) where
  by_slice : (make : Range ℕ → Insertion) (found : Option (Range ℕ)) (other : Insertion) (k : ℕ) → slice_get records k ≡ found
      → ((r : Range ℕ) → r.start < r.end → r.end ≤ length pieces → CanBePut pieces (make r)) → CanBePut pieces other → CanBePut pieces (option_map_or make found other)
  by_slice make None other k at each can = can
  by_slice make (Some r) other k at each can =
      let is = AllByRecursion-slice_get (λ range. (range.start < range.end) × (range.end ≤ length pieces)) records k r ranges.each at in
      each r is.0 is.1

  by_range : (make : Range ℕ → Insertion) (i : Option ℕ) (other : Insertion) → ((r : Range ℕ) → r.start < r.end → r.end ≤ length pieces → CanBePut pieces (make r))
      → CanBePut pieces other → CanBePut pieces (option_map_or make (range_of records i) other)
  by_range make None other each can = can
  by_range make (Some k) other each can = by_slice make (slice_get records k) other k refl each can

  at_end-can : (new : List Piece) → 0 < length new → AreLines new → CanBePut pieces (at_end pieces new)
  at_end-can new some lines = record {
    within = omega arith;
    some = cond_both (is_full_at pieces (length pieces - 1)) (empty_line ∷ new) new (λ l. 0 < length l) (λ _. omega arith) (λ _. some);
    lines = cond_both (is_full_at pieces (length pieces - 1)) (empty_line ∷ new) new AreLines (λ _. (refl, lines)) (λ _. lines);
  }

  module _ (fields : List Piece) (some : 0 < length fields) (lines : AreLines fields) where
    after-can : (r : Range ℕ) → r.start < r.end → r.end ≤ length pieces → CanBePut pieces (after_paragraph pieces fields r)
    after-can r more within = record {
      within = omega (arith, within, prefix_len-le-length is_full (drop r.end pieces), length-drop r.end pieces);
      some = omega arith;
      lines = (refl, lines);
    }

    before-can : (r : Range ℕ) → r.start < r.end → r.end ≤ length pieces → CanBePut pieces (before_paragraph pieces fields r)
    before-can r more within = record {
      within = omega (arith, more, within);
      some = omega (arith, length-append fields (empty_line ∷ []));
      lines = AllByRecursion-append (λ piece. IsTrue (ends_newline piece.bytes)) fields (empty_line ∷ []) lines (refl, tt);
    }

    pub insertion-can : (sets : List Set_) (record_type : Option (List ℕ)) → CanBePut pieces (insertion_for pieces records sets record_type fields)
    insertion-can sets None =
        subst (CanBePut pieces) (sym (untyped_insertion-is pieces records sets fields))
        (by_range (after_paragraph pieces fields) (option_and_then last_of (slice_get sets 0)) (beside_descriptor pieces records sets fields) after-can
        (by_range (before_paragraph pieces fields) (option_and_then (λ s. s.head) (slice_get sets 1)) (at_end pieces fields) before-can (at_end-can fields some lines)))
    insertion-can sets (Some record_type) =
        by_range (after_paragraph pieces fields) (option_and_then last_of (find (is_of_type record_type) sets)) (at_end pieces (canonical rec_name record_type ∷ empty_line ∷ fields)) after-can
        (at_end-can (canonical rec_name record_type ∷ empty_line ∷ fields) (omega arith) (canonical_ends rec_name record_type, (refl, lines)))

-- ---- the edit

-- at this place this text makes the insertion of a new record, which has fields
module _ (pieces : List Piece) (schema : Described) (record_type : Option (List ℕ)) (fresh : NewRecord) (auto : Bool) (pairs : List Pair) (is_new : IsNewRecord record_type fresh (Ok pairs))
    (automatic : List ℕ) (place : ℕ) (text : List ℕ) (given : IsAutomaticText pieces schema record_type auto (map (λ pair. pair.name) pairs) automatic)
    (put : IsRecordPut pieces schema.sets record_type automatic pairs place text) where
  abbrev fields : List Piece
  fields = numbered_fields given.0 ++ fields_of pairs

  abbrev insertion : Insertion
  insertion = insertion_for pieces put.records schema.sets record_type fields

  is_put : IsPut place text insertion
  is_put = put.is (numbered_fields given.0) given.2

  can : CanBePut pieces insertion
  can =
      insertion-can pieces put.records (ranges_of_records pieces put.records put.are) fields
      (omega (arith, length-append (numbered_fields given.0) (fields_of pairs), length-map pairs (λ pair. canonical pair.name pair.value), new_record_has_fields record_type fresh pairs is_new))
      (AllByRecursion-append (λ piece. IsTrue (ends_newline piece.bytes)) (numbered_fields given.0) (fields_of pairs) (AreLines-numbered given.0) (AreLines-fields pairs)) schema.sets record_type

  pub put_within : place ≤ length pieces
  put_within = omega (arith, is_put.same_place, can.within)

  pub put_some : (new : List Piece) × AreSome new text
  put_some = (insertion.new, record { some = can.some; lines = can.lines; is = is_put.same_text })

  pub insert-made : (force : Bool) (edited : Patched) → ((new : List Piece) → AreSome new text → edited ≡ edited_by (put_in (record { place = place; new = new }) pieces))
      → IsCarriedOut pieces schema force (insert record_type fresh auto) (Ok edited)
  unfolding put_some
  insert-made force edited made =
      inr (
        put_in insertion pieces,
        inr (pairs, is_new, inr (given.0, given.1, (put.records, put.are, refl))),
        ap Ok (made insertion.new put_some.1 ∙ ap (λ at. edited_by (put_in (record { place = at; new = insertion.new }) pieces)) is_put.same_place),
      )
