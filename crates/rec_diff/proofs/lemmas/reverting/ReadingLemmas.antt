-- What a reading keeps of a text, record by record.
use Rattle.std.proofs.Common.{◌≡◌, ◌∙◌, ◌↔◌, ℕ, zero, suc, ◌+◌, ◌-◌, ◌≤◌, ◌<◌, Bool, true, false, cond, List, [], ◌∷◌, ◌++◌, length, map, drop, take, replicate, get_or, Option, Some, None, Ok, inl}
use Rattle.std.proofs.Common.{inr, refl, sym, ap, subst, arith}
use Rattle.std.specs.List.{AllZip, between, filter, slice_get}
use Rattle.std.specs.Option.{option_and_then, option_map, option_map_or}
use Rattle.std.specs.declared.ops.Range.{Range}
use Rattle.std.proofs.lemmas.Bool.{cases_Bool, cases_lt, cond-true, cond-false}
use Rattle.std.proofs.lemmas.List.{append_assoc, append-nil, drop-append-le, drop-map, drop-take, drop_at, length-append, length-drop, length-map, length-replicate, length-take-le, length_push}
use Rattle.std.proofs.lemmas.List.{map_push, take-append-le, take-map, take_all, take_more}
use Rattle.std.proofs.lemmas.List.Edits.{split_between}
use Rattle.std.proofs.lemmas.Option.{none-some, same_Some, slice_get-map, slice_get_past, slice_get_read, slice_get_within}
use Rattle.rec_text.specs.declared.element.Element.{Element}
use Rattle.rec_text.specs.Elements.{Piece, AreElementsOf, text_of}
use Rattle.rec_text.specs.Places.{AreFrom, piece_of, pieces_of}
use Rattle.rec_text.specs.Records.{AreRecords, is_field_at}
use Rattle.rec_text.proofs.lemmas.FaultLemmas.{same_value}
use Rattle.rec_text.proofs.lemmas.ListLemmas.{slice_get-drop, slice_get-take}
use Rattle.rec_text.proofs.lemmas.reading.ReadingLemmas.{one_reading}
use Rattle.rec_text.proofs.lemmas.records.RecordLemmas.{one_list_of_records}
use Rattle.rec_check.specs.Descriptors.{type_after, type_of}
use Rattle.rec_diff.specs.declared.reverting.reading.Reading.{Reading}
use Rattle.rec_diff.specs.declared.reverting.reading.Record.{Record}
use Rattle.rec_diff.specs.Placed.{IsPlaced, Placed, PlacedRecord, PlacedText, is_field, placed_from, placed_text, record_of, records_from}
use Rattle.rec_diff.specs.proving.Reading.{ArePicked, AreReadSoFar, IsFieldOf, IsRead, IsReading, IsTypeAt, LiesInAt, field_number, field_numbers, fields_at, last_type, owner_in, owns_in, placed}
use Rattle.rec_diff.specs.proving.Reading.{placed_of, ranges_of, text_of_reading, type_at, type_past, with_type}
use Rattle.rec_diff.proofs.lemmas.reverting.ListLemmas.{get_within_take, slice_get-append_left, slice_get-append_right, slice_get-past_left, slice_get-push, zip_at, zip_map, zip_none, zip_push}
use Rattle.rec_diff.proofs.lemmas.reverting.PlacedLemmas.{field_at, field_of_lies, lies_of_field, placed_at, placed_elements, records_from-push, type_past-push}

-- ---- what is found by index

pub at_read : {X : Type 0} (xs items : List X) (i : ℕ) (x : X) → items ≡ xs → i < length items → x ≡ get_or items i x → slice_get xs i ≡ Some x
at_read xs items i x same within is = ap (λ l. slice_get l i) (sym same) ∙ slice_get_read items (length items) i x refl within is

pub past_read : {X : Type 0} (xs items : List X) (i : ℕ) → items ≡ xs → length items ≤ i → slice_get xs i ≡ None
past_read xs items i same past = ap (λ l. slice_get l i) (sym same) ∙ slice_get_past items i past

-- ---- the types

pub type_is : (types : List (List ℕ)) (number : Option ℕ) (is : Option (List ℕ)) → IsTypeAt types number is → option_and_then (slice_get types) number ≡ is
type_is types None is at = sym at
type_is types (Some number) is (named, at, same) = at ∙ sym same

type_longer : (types : List (List ℕ)) (named : Option (List ℕ)) (number : Option ℕ) (is : Option (List ℕ)) → IsTypeAt types number is → IsTypeAt (with_type types named) number is
type_longer types None number is at = at
type_longer types (Some named) None is at = at
type_longer types (Some named) (Some number) is (found, at, same) =
    (found, slice_get-append_left types (named ∷ []) number (slice_get_within types number found at) ∙ at, same)

abbrev named_or : Option (List ℕ) → Option (List ℕ) → Option (List ℕ)
named_or record_type None = record_type
named_or record_type (Some named) = Some named

last_type-with : (types : List (List ℕ)) (named : Option (List ℕ)) → last_type (with_type types named) ≡ named_or (last_type types) named
last_type-with types None = refl
last_type-with types (Some named) =
    ap (slice_get (types ++ named ∷ [])) (let n = length_push types named in let e : length (types ++ named ∷ []) - 1 ≡ length types = omega (arith, n) in e) ∙ slice_get-push types named

named_is : (record_type named : Option (List ℕ)) → (elim named [ None ↦ record_type | Some its ↦ Some its ]) ≡ named_or record_type named
named_is record_type None = refl
named_is record_type (Some named) = refl

type_after-named : (record_type : Option (List ℕ)) (own : List Piece) → type_after record_type own ≡ named_or record_type (type_of own)
type_after-named record_type own = named_is record_type (type_of own)

pieces_placed : (elements : List Element) → map (λ (x : Placed). x.piece) (map placed elements) ≡ pieces_of elements
pieces_placed [] = refl
pieces_placed (e ∷ es) = ap (piece_of e ∷◌) (pieces_placed es)

-- ---- the numbers of fields

pub field_numbers-append : (number : ℕ) (xs ys : List Element) → field_numbers number (xs ++ ys) ≡ field_numbers number xs ++ field_numbers (number + length xs) ys
field_numbers-append number [] ys = ap (λ n. field_numbers n ys) (let e : number ≡ number + 0 = omega arith in e)
field_numbers-append number (x ∷ xs) ys =
    ap (λ l. field_number number x ++ l)
    (field_numbers-append (number + 1) xs ys ∙ ap (λ n. field_numbers (number + 1) xs ++ field_numbers n ys) (let e : number + 1 + length xs ≡ number + suc (length xs) = omega arith in e))
    ∙ sym (append_assoc (field_number number x) (field_numbers (number + 1) xs) (field_numbers (number + suc (length xs)) ys))

pub field_numbers_more : (first : ℕ) (elements : List Element) (i number : ℕ) (d : Element) (old new start : List ℕ) → number ≡ first + i → i < length elements
    → old ≡ start ++ field_numbers first (take i elements) → new ≡ old ++ field_number number (get_or elements i d) → new ≡ start ++ field_numbers first (take (i + 1) elements)
field_numbers_more first elements i number d old new start place within so_far next =
    let e = get_or elements i d in
    let count : first + length (take i elements) ≡ number = (let n = length-take-le i elements (omega (arith, within)) in omega (arith, n, place)) in
    let more : field_numbers first (take (i + 1) elements) ≡ field_numbers first (take i elements) ++ field_number number e =
    ap (field_numbers first) (take_more elements i d within) ∙ field_numbers-append first (take i elements) (e ∷ [])
    ∙ ap (λ n. field_numbers first (take i elements) ++ (field_number n e ++ [])) count
    ∙ ap (λ l. field_numbers first (take i elements) ++ l) (append-nil (field_number number e)) in
    next ∙ ap (λ l. l ++ field_number number e) so_far ∙ append_assoc start (field_numbers first (take i elements)) (field_number number e) ∙ ap (λ l. start ++ l) (sym more)

picked_first : (all : List Placed) (number : ℕ) (x : Placed) (numbers : List ℕ) (xs : List Placed) (kept : Bool) → slice_get all number ≡ Some x → ArePicked all numbers xs
    → ArePicked all (cond kept (number ∷ []) [] ++ numbers) (cond kept (x ∷ xs) xs)
picked_first all number x numbers xs true at rest = (at, rest)
picked_first all number x numbers xs false at rest = rest

picked_from : (before : List Placed) (es : List Element) (rest : List Placed) (number : ℕ) → length before ≡ number
    → ArePicked (before ++ (map placed es ++ rest)) (field_numbers number es) (filter is_field (map placed es))
picked_from before [] rest number count = tt
picked_from before (e ∷ es) rest number count =
    let all = before ++ (placed e ∷ (map placed es ++ rest)) in
    let same : (before ++ placed e ∷ []) ++ (map placed es ++ rest) ≡ all = append_assoc before (placed e ∷ []) (map placed es ++ rest) in
    let next : ArePicked all (field_numbers (number + 1) es) (filter is_field (map placed es)) =
    subst (λ l. ArePicked l (field_numbers (number + 1) es) (filter is_field (map placed es))) same
    (picked_from (before ++ placed e ∷ []) es rest (number + 1) (let n = length_push before (placed e) in omega (arith, n, count))) in
    let at : slice_get all number ≡ Some (placed e) =
    ap (slice_get all) (let i : number ≡ length before + 0 = omega (arith, count) in i) ∙ slice_get-append_right before (placed e ∷ (map placed es ++ rest)) 0 in
    picked_first all number (placed e) (field_numbers (number + 1) es) (filter is_field (map placed es)) (is_field (placed e)) at next

own_is : (elements : List Element) (start end : ℕ) → start ≤ end → drop start (take end (map placed elements)) ≡ map placed (take (end - start) (drop start elements))
own_is elements start end order =
    ap (λ n. drop start (take n (map placed elements))) (let e : end ≡ start + (end - start) = omega (arith, order) in e)
    ∙ drop-take start (end - start) (map placed elements) ∙ ap (take (end - start)) (drop-map placed start elements) ∙ take-map placed (end - start) (drop start elements)

picked_in : (elements : List Element) (start end : ℕ) → start ≤ end → end ≤ length elements
    → ArePicked (map placed elements) (field_numbers start (take (end - start) (drop start elements))) (filter is_field (drop start (take end (map placed elements))))
picked_in elements start end order within =
    let all = map placed elements in
    let own = take (end - start) (drop start elements) in
    let part : between start end all ≡ map placed own = ap (take (end - start)) (drop-map placed start elements) ∙ take-map placed (end - start) (drop start elements) in
    let cut : all ≡ take start all ++ (map placed own ++ drop end all) = split_between all start end order ∙ ap (λ l. take start all ++ (l ++ drop end all)) part in
    let count : length (take start all) ≡ start = length-take-le start all (omega (arith, order, within, length-map elements placed)) in
    subst (λ l. ArePicked all (field_numbers start own) (filter is_field l)) (sym (own_is elements start end order))
    (subst (λ l. ArePicked l (field_numbers start own) (filter is_field (map placed own))) (sym cut) (picked_from (take start all) own (drop end all) start count))

pub map_found : {A B : Type 0} (f : A → B) (o : Option A) (y : B) → option_map f o ≡ Some y → (x : A) × (o ≡ Some x) × (f x ≡ y)
map_found f None y is = absurd (none-some y is)
map_found f (Some x) y is = (x, refl, same_Some (f x) y is)

-- ---- one more record

between_longer : (fields more : List ℕ) (i j : ℕ) → i ≤ j → j ≤ length fields → between i j (fields ++ more) ≡ between i j fields
between_longer fields more i j order within =
    ap (take (j - i)) (drop-append-le i fields more (omega (arith, order, within)))
    ∙ take-append-le (j - i) (drop i fields) more (omega (arith, order, within, length-drop i fields))

between_end : (fields more : List ℕ) (end : ℕ) → end ≡ length (fields ++ more) → between (length fields) end (fields ++ more) ≡ more
between_end fields more end is =
    ap (take (end - length fields)) (drop_at fields more (length fields) refl) ∙ take_all (end - length fields) more (omega (arith, is, length-append fields more))

read_longer : (elements : List Placed) (fields more : List ℕ) (types : List (List ℕ)) (named : Option (List ℕ)) (own : Record) (is : PlacedRecord)
    → IsRead elements fields types own is → IsRead elements (fields ++ more) (with_type types named) own is
read_longer elements fields more types named own is read = record {
  order = read.order;
  within = (let within = read.within in omega (arith, within, length-append fields more));
  picked = subst (λ l. ArePicked elements l is.fields) (sym (between_longer fields more own.fields.start own.fields.end read.order read.within)) read.picked;
  of_type = type_longer types named own.record_type is.record_type read.of_type;
}

-- the record of a number, where an element that has it is a field
owner_is : (number : ℕ) (e : Element) (k : ℕ) → owner_in number e ≡ Some k → (is_field (placed e) ≡ true) × (number ≡ k)
owner_is number e k is = elim (cases_Bool (is_field (placed e))) [
  | inl h ↦ (h, same_Some number k (sym (cond-true (is_field (placed e)) (Some number) None h) ∙ is))
  | inr h ↦ absurd (none-some k (sym (cond-false (is_field (placed e)) (Some number) None h) ∙ is))
]

get_replicate : (n i : ℕ) (k : ℕ) → slice_get (replicate n None) i ≡ Some (Some k) → ⊥
get_replicate zero i k is = none-some (Some k) is
get_replicate (suc n) zero k is = let e : None ≡ Some k = cc in none-some k e
get_replicate (suc n) (suc i) k is = get_replicate n i k is

module _ (pieces : List Piece) (elements : List Element) (same : pieces_of elements ≡ pieces) (from : AreFrom 0 elements) (range : Range ℕ) (order : range.start ≤ range.end)
    (within : range.end ≤ length pieces) where
  abbrev own_elements : List Element
  own_elements = take (range.end - range.start) (drop range.start elements)

  all_placed : map placed elements ≡ placed_from 0 pieces
  all_placed = placed_elements 0 elements from ∙ ap (placed_from 0) same

  many : range.end ≤ length elements
  many = omega (arith, within, ap length same, length-map elements piece_of)

  own_placed : drop range.start (take range.end (placed_from 0 pieces)) ≡ map placed own_elements
  own_placed = ap (λ l. drop range.start (take range.end l)) (sym all_placed) ∙ own_is elements range.start range.end order

  count_own : length own_elements ≡ range.end - range.start
  count_own = length-take-le (range.end - range.start) (drop range.start elements) (omega (arith, many, length-drop range.start elements))

  module _ (ranges : List (Range ℕ)) (owners : List (Option ℕ)) (after : length owners ≤ range.start)
      (owned : (i k : ℕ) → (slice_get owners i ≡ Some (Some k)) ↔ LiesInAt pieces ranges i k) where
    abbrev gap : List (Option ℕ)
    gap = replicate (range.start - length owners) None

    abbrev more_owners : List (Option ℕ)
    more_owners = (owners ++ gap) ++ map (owner_in (length ranges)) own_elements

    before_own : length (owners ++ gap) ≡ range.start
    before_own = omega (arith, after, length-append owners gap, length-replicate {A = Option ℕ} (range.start - length owners) None)

    own_element : (i k : ℕ) → range.start ≤ i → slice_get more_owners i ≡ Some (Some k)
        → (e : Element) × (slice_get own_elements (i - range.start) ≡ Some e) × (owner_in (length ranges) e ≡ Some k)
    own_element i k low is =
        let there : slice_get (map (owner_in (length ranges)) own_elements) (i - range.start) ≡ Some (Some k) =
        ap (slice_get (map (owner_in (length ranges)) own_elements)) (let e : i - range.start ≡ i - length (owners ++ gap) = omega (arith, before_own) in e)
        ∙ sym (slice_get-past_left (owners ++ gap) (map (owner_in (length ranges)) own_elements) i (omega (arith, low, before_own))) ∙ is in
        map_found (owner_in (length ranges)) (slice_get own_elements (i - range.start)) (Some k)
        (sym (slice_get-map (owner_in (length ranges)) own_elements (i - range.start)) ∙ there)

    own_inside : (i : ℕ) (x : Placed) → range.start ≤ i → slice_get (map placed own_elements) (i - range.start) ≡ Some x → slice_get (placed_from 0 pieces) i ≡ Some x
    own_inside i x low at =
        (get_within_take range.end i (placed_from 0 pieces) x
        (ap (slice_get (take range.end (placed_from 0 pieces))) (let e : i ≡ range.start + (i - range.start) = omega (arith, low) in e)
        ∙ sym (slice_get-drop range.start (i - range.start) (take range.end (placed_from 0 pieces)))
        ∙ ap (λ l. slice_get l (i - range.start)) own_placed ∙ at)).1

    inside_own : (i : ℕ) (x : Placed) → range.start ≤ i → i < range.end → slice_get (placed_from 0 pieces) i ≡ Some x → slice_get (map placed own_elements) (i - range.start) ≡ Some x
    inside_own i x low high at =
        sym (ap (λ l. slice_get l (i - range.start)) own_placed) ∙ slice_get-drop range.start (i - range.start) (take range.end (placed_from 0 pieces))
        ∙ ap (slice_get (take range.end (placed_from 0 pieces))) (let e : range.start + (i - range.start) ≡ i = omega (arith, low) in e)
        ∙ slice_get-take range.end i (placed_from 0 pieces) high ∙ at

    lies_own : (i k : ℕ) → range.start ≤ i → slice_get more_owners i ≡ Some (Some k) → LiesInAt pieces (ranges ++ range ∷ []) i k
    lies_own i k low is =
        let found = own_element i k low is in
        let e = found.0 in
        let at = found.1 in
        let owner = owner_is (length ranges) e k found.2 in
        let high = slice_get_within own_elements (i - range.start) e at in
        let inside : slice_get (placed_from 0 pieces) i ≡ Some (placed e) =
        own_inside i (placed e) low (slice_get-map placed own_elements (i - range.start) ∙ ap (option_map placed) at) in
        (range, ap (slice_get (ranges ++ range ∷ [])) (sym owner.1) ∙ slice_get-push ranges range, low, omega (arith, high, count_own, low, order), field_at 0 pieces i (placed e) inside ∙ owner.0)

    lies_before : (i k : ℕ) → i < range.start → slice_get more_owners i ≡ Some (Some k) → LiesInAt pieces (ranges ++ range ∷ []) i k
    lies_before i k low is =
        let here : slice_get (owners ++ gap) i ≡ Some (Some k) =
        sym (slice_get-append_left (owners ++ gap) (map (owner_in (length ranges)) own_elements) i (omega (arith, low, before_own))) ∙ is in
        elim (cases_lt i (length owners)) [
          | inl h ↦
              let lies = (owned i k).0 (sym (slice_get-append_left owners gap i h) ∙ here) in
              (lies.0, slice_get-append_left ranges (range ∷ []) k (slice_get_within ranges k lies.0 lies.1) ∙ lies.1, lies.2, lies.3, lies.4)
          | inr h ↦ absurd (get_replicate (range.start - length owners) (i - length owners) k (sym (slice_get-past_left owners gap i h) ∙ here))
        ]

    last_range : (k : ℕ) (own : Range ℕ) → slice_get (ranges ++ range ∷ []) k ≡ Some own → length ranges ≤ k → (k ≡ length ranges) × (range ≡ own)
    last_range k own is past =
        let within = slice_get_within (ranges ++ range ∷ []) k own is in
        let here : k ≡ length ranges = omega (arith, past, within, length_push ranges range) in
        (here, same_Some range own (sym (slice_get-push ranges range) ∙ ap (slice_get (ranges ++ range ∷ [])) (sym here) ∙ is))

    owner_there : (i : ℕ) → range.start ≤ i → i < range.end → is_field_at pieces i ≡ true → slice_get more_owners i ≡ Some (Some (length ranges))
    owner_there i low high field =
        let x = placed_at 0 pieces i field in
        let found = map_found placed (slice_get own_elements (i - range.start)) x.0
        (sym (slice_get-map placed own_elements (i - range.start)) ∙ inside_own i x.0 low high x.1) in
        let e = found.0 in
        let passes : is_field (placed e) ≡ true = ap is_field found.2 ∙ sym (field_at 0 pieces i x.0 x.1) ∙ field in
        slice_get-past_left (owners ++ gap) (map (owner_in (length ranges)) own_elements) i (omega (arith, low, before_own))
        ∙ ap (slice_get (map (owner_in (length ranges)) own_elements)) (let n : i - length (owners ++ gap) ≡ i - range.start = omega (arith, before_own) in n)
        ∙ slice_get-map (owner_in (length ranges)) own_elements (i - range.start)
        ∙ ap (option_map (owner_in (length ranges))) found.1
        ∙ ap (λ o. Some o) (cond-true (is_field (placed e)) (Some (length ranges)) None passes)

    owned_by : (i k : ℕ) → LiesInAt pieces (ranges ++ range ∷ []) i k → slice_get more_owners i ≡ Some (Some k)
    owned_by i k (own, is, low, high, field) = elim (cases_lt k (length ranges)) [
      | inl h ↦
          let old = (owned i k).1 (own, sym (slice_get-append_left ranges (range ∷ []) k h) ∙ is, low, high, field) in
          let inside = slice_get_within owners i (Some k) old in
          slice_get-append_left (owners ++ gap) (map (owner_in (length ranges)) own_elements) i (omega (arith, inside, length-append owners gap))
          ∙ slice_get-append_left owners gap i inside ∙ old
      | inr h ↦
          let last = last_range k own is h in
          let starts : range.start ≡ own.start = ap (λ (r : Range ℕ). r.start) last.1 in
          let ends : range.end ≡ own.end = ap (λ (r : Range ℕ). r.end) last.1 in
          owner_there i (omega (arith, low, starts)) (omega (arith, high, ends)) field ∙ ap (λ n. Some (Some n)) (sym last.0)
    ]

    owned_more : (i k : ℕ) → (slice_get more_owners i ≡ Some (Some k)) ↔ LiesInAt pieces (ranges ++ range ∷ []) i k
    owned_more i k = (λ is. elim (cases_lt i range.start) [ inl h ↦ lies_before i k h is | inr h ↦ lies_own i k h is ], owned_by i k)

  own_pieces : map (λ (x : Placed). x.piece) (drop range.start (take range.end (placed_from 0 pieces))) ≡ pieces_of own_elements
  own_pieces = ap (map (λ (x : Placed). x.piece)) own_placed ∙ pieces_placed own_elements

  -- the elements of the range are the next record's
  module _ (records : List Record) (fields : List ℕ) (owners : List (Option ℕ)) (types : List (List ℕ)) (so_far : AreReadSoFar pieces records fields owners types)
      (after : length owners ≤ range.start) (named : Option (List ℕ)) (is_named : named ≡ type_of (pieces_of own_elements)) (last : Option ℕ)
      (is_last : IsTypeAt (with_type types named) last (last_type (with_type types named))) (end : ℕ) (is_end : end ≡ length (fields ++ field_numbers range.start own_elements)) where
    abbrev next : Record
    next = record { elements = range; fields = record { start = length fields; end = end }; record_type = last }

    abbrev owns : List (List Placed)
    owns = owns_in pieces (ranges_of records)

    abbrev own_part : List Placed
    own_part = drop range.start (take range.end (placed_from 0 pieces))

    abbrev next_record : PlacedRecord
    next_record = record_of (type_past None owns) own_part

    ranges_more : ranges_of (records ++ next ∷ []) ≡ ranges_of records ++ range ∷ []
    ranges_more = map_push (λ (own : Record). own.elements) records next

    owns_more : owns_in pieces (ranges_of (records ++ next ∷ [])) ≡ owns ++ own_part ∷ []
    owns_more = ap (owns_in pieces) ranges_more ∙ map_push (λ (r : Range ℕ). drop r.start (take r.end (placed_from 0 pieces))) (ranges_of records) range

    next_type : last_type (with_type types named) ≡ next_record.record_type
    next_type =
        last_type-with types named ∙ ap (named_or (last_type types)) is_named ∙ ap (λ t. named_or t (type_of (pieces_of own_elements))) so_far.last
        ∙ ap (λ ps. named_or (type_past None owns) (type_of ps)) (sym own_pieces)
        ∙ sym (type_after-named (type_past None owns) (map (λ (x : Placed). x.piece) own_part))

    read_next : IsRead (placed_from 0 pieces) (fields ++ field_numbers range.start own_elements) (with_type types named) next next_record
    read_next = record {
      order = omega (arith, is_end, length-append fields (field_numbers range.start own_elements));
      within = omega (arith, is_end);
      picked =
          subst (λ l. ArePicked (placed_from 0 pieces) l (filter is_field own_part)) (sym (between_end fields (field_numbers range.start own_elements) end is_end))
          (subst (λ l. ArePicked l (field_numbers range.start own_elements) (filter is_field (drop range.start (take range.end l)))) all_placed
          (picked_in elements range.start range.end order many));
      of_type = subst (IsTypeAt (with_type types named) last) next_type is_last;
    }

    pub one_more : AreReadSoFar pieces (records ++ next ∷ []) (fields ++ field_numbers range.start own_elements)
        ((owners ++ replicate (range.start - length owners) None) ++ map (owner_in (length (ranges_of records))) own_elements) (with_type types named)
    one_more = record {
      each =
          subst (AllZip (IsRead (placed_from 0 pieces) (fields ++ field_numbers range.start own_elements) (with_type types named)) (records ++ next ∷ []))
          (sym (ap (records_from None) owns_more ∙ records_from-push None owns own_part))
          (zip_push (IsRead (placed_from 0 pieces) (fields ++ field_numbers range.start own_elements) (with_type types named)) records (records_from None owns) next next_record
          (zip_map (IsRead (placed_from 0 pieces) fields types) (IsRead (placed_from 0 pieces) (fields ++ field_numbers range.start own_elements) (with_type types named))
          (read_longer (placed_from 0 pieces) fields (field_numbers range.start own_elements) types named) records (records_from None owns) so_far.each) read_next);
      owned =
          subst (λ rs. (i k : ℕ) → (slice_get (more_owners (ranges_of records) owners after so_far.owned) i ≡ Some (Some k)) ↔ LiesInAt pieces rs i k) (sym ranges_more)
          (owned_more (ranges_of records) owners after so_far.owned);
      last = next_type ∙ sym (ap (type_past None) owns_more ∙ type_past-push None owns own_part);
    }

pub next_read : (elements : List Element) (range : Range ℕ) (own : List Element) (each more_each : List Record) (fields more_fields : List ℕ) (owners resized more_owners : List (Option ℕ))
    (types more_types : List (List ℕ)) (named : Option (List ℕ)) (last : Option ℕ) (number count start end : ℕ) → AreReadSoFar (pieces_of elements) each fields owners types → AreFrom 0 elements
    → range.start ≤ range.end → range.end ≤ length elements → length owners ≤ range.start → own ≡ take (range.end - range.start) (drop range.start elements)
    → named ≡ type_of (pieces_of own) → number ≡ length each → count ≡ length owners → start ≡ length fields → end ≡ length more_fields
    → resized ≡ take range.start owners ++ replicate (range.start - count) None → more_owners ≡ resized ++ map (owner_in number) own → more_fields ≡ fields ++ field_numbers range.start own
    → more_types ≡ with_type types named → IsTypeAt more_types last (last_type more_types)
    → more_each ≡ each ++ record { elements = range; fields = record { start = start; end = end }; record_type = last } ∷ []
    → AreReadSoFar (pieces_of elements) more_each more_fields more_owners more_types
next_read elements range own each more_each fields more_fields owners resized more_owners types more_types named last number count start end so_far from order within after own_is_part is_named
    is_number is_count is_start is_end resized_is owners_are fields_are types_are is_last each_are =
    let pieces = pieces_of elements in
    let part = take (range.end - range.start) (drop range.start elements) in
    let fields_all : more_fields ≡ fields ++ field_numbers range.start part = fields_are ∙ ap (λ l. fields ++ field_numbers range.start l) own_is_part in
    let named_all : named ≡ type_of (pieces_of part) = is_named ∙ ap (λ l. type_of (pieces_of l)) own_is_part in
    let last_all : IsTypeAt (with_type types named) last (last_type (with_type types named)) = subst (λ ts. IsTypeAt ts last (last_type ts)) types_are is_last in
    let gap = replicate (range.start - length owners) None in
    let resized_all : resized ≡ owners ++ gap =
    resized_is ∙ ap (λ n. take range.start owners ++ replicate (range.start - n) None) is_count ∙ ap (λ l. l ++ gap) (take_all range.start owners after) in
    let owners_all : more_owners ≡ (owners ++ gap) ++ map (owner_in (length (ranges_of each))) part =
    owners_are ∙ ap (λ l. l ++ map (owner_in number) own) resized_all ∙ ap (λ l. (owners ++ gap) ++ map (owner_in number) l) own_is_part
    ∙ ap (λ n. (owners ++ gap) ++ map (owner_in n) part) (is_number ∙ sym (length-map each (λ (r : Record). r.elements))) in
    let each_all : more_each ≡ each ++ record { elements = range; fields = record { start = length fields; end = end }; record_type = last } ∷ [] =
    each_are ∙ ap (λ n. each ++ record { elements = range; fields = record { start = n; end = end }; record_type = last } ∷ []) is_start in
    let base =
    one_more pieces elements refl from range order (omega (arith, within, length-map elements piece_of)) each fields owners types so_far after named named_all last last_all end
    (is_end ∙ ap length fields_all) in
    subst (λ ts. AreReadSoFar pieces more_each more_fields more_owners ts) (sym types_are)
    (subst (λ os. AreReadSoFar pieces more_each more_fields os (with_type types named)) (sym owners_all)
    (subst (λ fs. AreReadSoFar pieces more_each fs ((owners ++ gap) ++ map (owner_in (length (ranges_of each))) part) (with_type types named)) (sym fields_all)
    (subst (λ rs. AreReadSoFar pieces rs (fields ++ field_numbers range.start part) ((owners ++ gap) ++ map (owner_in (length (ranges_of each))) part) (with_type types named)) (sym each_all) base)))

-- ---- all records

owners_all : (owners : List (Option ℕ)) (count i k : ℕ) → (slice_get (owners ++ replicate count None) i ≡ Some (Some k)) ↔ (slice_get owners i ≡ Some (Some k))
owners_all owners count i k = (
  λ is. elim (cases_lt i (length owners)) [
    | inl h ↦ sym (slice_get-append_left owners (replicate count None) i h) ∙ is
    | inr h ↦ absurd (get_replicate count (i - length owners) k (sym (slice_get-past_left owners (replicate count None) i h) ∙ is))
  ],
  λ is. slice_get-append_left owners (replicate count None) i (slice_get_within owners i (Some k) is) ∙ is,
)

pub reading_is : (r : Reading) (owners : List (Option ℕ)) (count : ℕ) → AreReadSoFar r.database r.records.each.items r.records.fields.items owners r.records.types.items → length owners ≤ count
    → r.records.owners.items ≡ take count owners ++ replicate (count - length owners) None → AreElementsOf r.database (text_of r.database) → AreRecords r.database (ranges_of r.records.each.items)
    → IsReading r
reading_is r owners count so_far within are read records = record {
  read = read;
  are_records = records;
  records = so_far.each;
  owners = λ i k.
      let same : r.records.owners.items ≡ owners ++ replicate (count - length owners) None = are ∙ ap (λ l. l ++ replicate (count - length owners) None) (take_all count owners within) in
      let all = owners_all owners (count - length owners) i k in
      let one = so_far.owned i k in (
        λ is. field_of_lies r.database (ranges_of r.records.each.items) i k (one.0 (all.0 (ap (λ l. slice_get l i) (sym same) ∙ is))),
        λ field. ap (λ l. slice_get l i) same ∙ all.1 (one.1 (lies_of_field r.database (ranges_of r.records.each.items) i k read.well_formed field)),
      );
}

-- ---- what is read

pub is_placed_of : (r : Reading) → IsReading r → IsPlaced (text_of_reading r) (placed_of r)
is_placed_of r is = record { pieces = r.database; read = is.read; ranges = ranges_of r.records.each.items; are_records = is.are_records; is = refl }

-- a text is placed in one way
pub one_placed : (text : List ℕ) (one other : PlacedText) → IsPlaced text one → IsPlaced text other → one ≡ other
one_placed text one other is is_other =
    let pieces : is.pieces ≡ is_other.pieces = same_value is.pieces is_other.pieces (one_reading text (Ok is.pieces) (Ok is_other.pieces) is.read is_other.read) in
    let ranges : is.ranges ≡ is_other.ranges =
    one_list_of_records is_other.pieces is.ranges is_other.ranges (subst (λ ps. AreRecords ps is.ranges) pieces is.are_records) is_other.are_records in
    is.is ∙ ap (λ ps. placed_text ps is.ranges) pieces ∙ ap (placed_text is_other.pieces) ranges ∙ sym is_other.is

module _ (r : Reading) (is : IsReading r) (k : ℕ) where
  module _ (own : Record) (at : slice_get r.records.each.items k ≡ Some own) where
    read_at : (one : PlacedRecord) × (slice_get (placed_of r).records k ≡ Some one) × IsRead (placed_of r).elements r.records.fields.items r.records.types.items own one
    read_at = zip_at (IsRead (placed_of r).elements r.records.fields.items r.records.types.items) r.records.each.items (placed_of r).records k own is.records at

    pub fields_in_order : own.fields.start ≤ own.fields.end
    fields_in_order = read_at.2.order

    pub fields_within : own.fields.end ≤ length r.records.fields.items
    fields_within = read_at.2.within

    pub fields_picked : ArePicked (placed_of r).elements (between own.fields.start own.fields.end r.records.fields.items) (fields_at (placed_of r) k)
    fields_picked =
        subst (ArePicked (placed_of r).elements (between own.fields.start own.fields.end r.records.fields.items))
        (sym (ap (λ o. option_map_or (λ (one : PlacedRecord). one.fields) o []) read_at.1)) read_at.2.picked

    pub type_at_is : option_and_then (slice_get r.records.types.items) own.record_type ≡ type_at (placed_of r) k
    type_at_is =
        type_is r.records.types.items own.record_type read_at.0.record_type read_at.2.of_type ∙ sym (ap (λ o. option_map_or (λ (one : PlacedRecord). one.record_type) o None) read_at.1)

  module _ (none : slice_get r.records.each.items k ≡ None) where
    no_record : slice_get (placed_of r).records k ≡ None
    no_record = zip_none (IsRead (placed_of r).elements r.records.fields.items r.records.types.items) r.records.each.items (placed_of r).records k is.records none

    pub none_picked : ArePicked (placed_of r).elements [] (fields_at (placed_of r) k)
    none_picked =
        subst (ArePicked (placed_of r).elements []) (sym (ap (λ o. option_map_or (λ (one : PlacedRecord). one.fields) o []) no_record)) (let none : ArePicked (placed_of r).elements [] [] = tt in none)

    pub no_type_at : type_at (placed_of r) k ≡ None
    no_type_at = ap (λ o. option_map_or (λ (one : PlacedRecord). one.record_type) o None) no_record

-- the record of which an element is a field, as it is kept
pub owner_tells : (r : Reading) (is : IsReading r) (i k : ℕ) (owner : Option ℕ) → slice_get r.records.owners.items i ≡ Some owner → (owner ≡ Some k) ↔ IsFieldOf (placed_of r) i k
owner_tells r is i k owner at =
    (λ same. (is.owners i k).0 (at ∙ ap (λ o. Some o) same), λ field. same_Some owner (Some k) (sym at ∙ (is.owners i k).1 field))

pub no_owner_tells : (r : Reading) (is : IsReading r) (i k : ℕ) → slice_get r.records.owners.items i ≡ None → (◌≡◌ {A = Option ℕ} None (Some k)) ↔ IsFieldOf (placed_of r) i k
no_owner_tells r is i k none = (λ same. absurd (none-some k same), λ field. absurd (none-some (Some k) (sym none ∙ (is.owners i k).1 field)))
