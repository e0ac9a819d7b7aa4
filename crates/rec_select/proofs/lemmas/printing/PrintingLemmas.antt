-- What is printed of many records, block by block.
use Rattle.std.proofs.Common.{◌≡◌, ℕ, ◌+◌, ◌<◌, Bool, true, false, not, List, [], ◌∷◌, ◌++◌, Ok, ◌⊎◌, inl, inr, length, get_or, take, drop, map, refl, sym, ap, subst, ◌∙◌, append-nil, append_assoc}
use Rattle.std.proofs.Common.{arith}
use Rattle.std.specs.Prelude.{flat_map}
use Rattle.std.specs.List.{concat, join_with_byte, AllByRecursion}
use Rattle.std.specs.declared.ops.Range.{Range}
use Rattle.std.proofs.lemmas.List.{map-append, take-append-drop, take_more}
use Rattle.std.proofs.lemmas.List.Concat.{concat_is}
use Rattle.std.proofs.lemmas.List.Elements.{filter-append}
use Rattle.std.proofs.lemmas.Grind.{flat_map-append}
use Rattle.std.proofs.lemmas.Option.{slice_get-get_or}
use Rattle.rec_text.specs.Bytes.{is_nil}
use Rattle.rec_text.specs.Elements.{Piece}
use Rattle.rec_text.specs.Records.{AreRecords, IsRecord, elements_in}
use Rattle.rec_text.specs.proving.Scanned.{IsWithin}
use Rattle.rec_text.proofs.lemmas.ListLemmas.{AllByRecursion-weaker, join_with_byte-cons}
use Rattle.rec_text.proofs.lemmas.records.RecordLemmas.{one_list_of_records}
use Rattle.rec_select.specs.Selection.{record_at}
use Rattle.rec_select.specs.proving.Blocks.{full, led_by, separated}
use Rattle.rec_select.specs.Printing.{AreIndexes, IsPrinted, block_of, joined_blocks, printed}
use Rattle.rec_select.specs.declared.records.Shape.{Shape}
use Rattle.rec_select.specs.declared.records.Shape.TheVariants.{Blocks, Print, Values, Row, Count}

-- ---- the elements of a record

pub record_at-within : (pieces : List Piece) (records : List (Range ℕ)) (i : ℕ) (d : Range ℕ) → i < length records → elements_in pieces (get_or records i d) ≡ record_at pieces records i
record_at-within pieces records i d some = rw (slice_get-get_or records i d some) refl

-- ---- blocks one after another

pub led_by-full : (before block : List ℕ) → is_nil block ≡ false → led_by before block ≡ before ++ block
led_by-full before block e = rw e refl

-- what stands before the next block
abbrev pub lead : List ℕ → List (List ℕ) → List ℕ
lead separator [] = []
lead separator (block ∷ blocks) = separator

separated-push : (separator : List ℕ) (blocks : List (List ℕ)) (next : List ℕ) → separated separator (blocks ++ next ∷ []) ≡ separated separator blocks ++ (lead separator blocks ++ next)
separated-push separator [] next = append-nil next
separated-push separator (block ∷ blocks) next =
    ap (λ t. block ++ t) (flat_map-append (λ other. separator ++ other) blocks (next ∷ []) ∙ ap (λ t. flat_map (λ other. separator ++ other) blocks ++ t) (append-nil (separator ++ next)))
    ∙ sym (append_assoc block (flat_map (λ other. separator ++ other) blocks) (separator ++ next))

separated-append : (separator : List ℕ) (blocks more : List (List ℕ)) → (rest : List ℕ) × (separated separator (blocks ++ more) ≡ separated separator blocks ++ rest)
separated-append separator [] more = (separated separator more, refl)
separated-append separator (block ∷ blocks) more =
    let rest = flat_map (λ other. separator ++ other) more in
    (rest, ap (λ t. block ++ t) (flat_map-append (λ other. separator ++ other) blocks more) ∙ sym (append_assoc block (flat_map (λ other. separator ++ other) blocks) rest))

full-append : (xs ys : List (List ℕ)) → full (xs ++ ys) ≡ full xs ++ full ys
full-append xs ys = filter-append (λ block. not (is_nil block)) xs ys

-- one more block
separated-more : (separator : List ℕ) (blocks : List (List ℕ)) (next : List ℕ)
    → separated separator (full (blocks ++ next ∷ [])) ≡ separated separator (full blocks) ++ led_by (lead separator (full blocks)) next
separated-more separator blocks [] =
    ap (separated separator) (full-append blocks ([] ∷ []) ∙ append-nil (full blocks)) ∙ sym (append-nil (separated separator (full blocks)))
separated-more separator blocks (b ∷ bs) = ap (separated separator) (full-append blocks ((b ∷ bs) ∷ [])) ∙ separated-push separator (full blocks) (b ∷ bs)

-- ---- the blocks of the selected

module _ (separator : List ℕ) (block : ℕ → List ℕ) (selected : List ℕ) (i : ℕ) (within : i < length selected) where
  abbrev so_far : List (List ℕ)
  so_far = map block (take i selected)

  abbrev next : List ℕ
  next = block (get_or selected i 0)

  map-more : map block (take (i + 1) selected) ≡ so_far ++ next ∷ []
  map-more = ap (map block) (take_more selected i 0 within) ∙ map-append block (take i selected) (get_or selected i 0 ∷ [])

  pub separated_at : separated separator (full (map block (take (i + 1) selected))) ≡ separated separator (full so_far) ++ led_by (lead separator (full so_far)) next
  separated_at = ap (λ t. separated separator (full t)) map-more ∙ separated-more separator so_far next

  -- with the separator and the block as the code has them
  pub separated_rest : (before part : List ℕ) → before ≡ lead separator (full so_far) → part ≡ next
      → (rest : List ℕ) × (separated separator (full (map block selected)) ≡ (separated separator (full so_far) ++ led_by before part) ++ rest)
  separated_rest before part leads is =
      let done : List (List ℕ) = map block (take (i + 1) selected) in
      let left : List (List ℕ) = map block (drop (i + 1) selected) in
      let parts : map block selected ≡ done ++ left = ap (map block) (sym (take-append-drop (i + 1) selected)) ∙ map-append block (take (i + 1) selected) (drop (i + 1) selected) in
      let rest = separated-append separator (full done) (full left) in
      (rest.0, ap (λ t. separated separator (full t)) parts ∙ ap (separated separator) (full-append done left) ∙ rest.1 ∙ ap (λ t. t ++ rest.0) (rw (leads, is) separated_at))

-- ---- collapsed or not

concat-separated : (blocks : List (List ℕ)) → concat blocks ≡ separated [] blocks
concat-separated [] = refl
concat-separated (block ∷ blocks) = ap (λ t. block ++ t) (concat_is blocks)

join-separated : (blocks : List (List ℕ)) → join_with_byte 10 blocks ≡ separated (10 ∷ []) blocks
join-separated [] = refl
join-separated (block ∷ blocks) = join_with_byte-cons 10 block blocks

-- the separator, as the code makes it
abbrev pub SeparatorIs : Bool → List ℕ → Type 0
SeparatorIs collapse separator = ((collapse ≡ true) × (separator ≡ [])) ⊎ ((collapse ≡ false) × (separator ≡ 10 ∷ []))

separated-joined : (collapse : Bool) (separator : List ℕ) → SeparatorIs collapse separator → (blocks : List (List ℕ)) → separated separator (full blocks) ≡ joined_blocks collapse blocks
separated-joined collapse separator (inl (e, f)) blocks = rw (e, f) (sym (concat-separated (full blocks)))
separated-joined collapse separator (inr (e, f)) blocks = rw (e, f) (sym (join-separated (full blocks)))

printed-blocks : (pieces : List Piece) (records : List (Range ℕ)) (selected : List ℕ) (shape : Shape) (collapse : Bool) → (shape ≡ Count → ⊥)
    → printed pieces records selected shape collapse ≡ joined_blocks collapse (map (λ i. block_of shape (record_at pieces records i)) selected)
printed-blocks pieces records selected Blocks collapse other = refl
printed-blocks pieces records selected (Print items) collapse other = refl
printed-blocks pieces records selected (Values items) collapse other = refl
printed-blocks pieces records selected (Row items) collapse other = refl
printed-blocks pieces records selected Count collapse other = absurd (other refl)

pub IsPrinted-blocks : (pieces whole : List Piece) (records : List (Range ℕ)) (selected : List ℕ) (shape : Shape) (collapse : Bool) (separator : List ℕ) → whole ≡ pieces
    → (shape ≡ Count → ⊥) → SeparatorIs collapse separator → AreRecords pieces records
    → IsPrinted pieces selected shape collapse (Ok (separated separator (full (map (λ i. block_of shape (record_at whole records i)) selected))))
IsPrinted-blocks pieces whole records selected shape collapse separator same other is are =
    let block : ℕ → List ℕ = λ i. block_of shape (record_at pieces records i) in
    rw same (records, are, separated-joined collapse separator is (map block selected) ∙ sym (printed-blocks pieces records selected shape collapse other))

-- ---- the records

pub records_within : (pieces whole : List Piece) (records : List (Range ℕ)) → whole ≡ pieces → AreRecords pieces records → AllByRecursion (IsWithin (length whole)) records
records_within pieces whole records same are =
    AllByRecursion-weaker (IsRecord pieces) (IsWithin (length whole)) (λ fields is. (omega (arith, is.some), omega (arith, ap length same, is.high, is.is_paragraph.within))) records are.each

pub indexes_within : (pieces : List Piece) (selected : List ℕ) (records : List (Range ℕ)) → AreIndexes pieces selected → AreRecords pieces records → AllByRecursion (λ i. i < length records) selected
indexes_within pieces selected records (other, others, within) are =
    let P : List (Range ℕ) → Type 0 = λ list. AllByRecursion (λ i. i < length list) selected in
    subst P (one_list_of_records pieces other records others are) within
