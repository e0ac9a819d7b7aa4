-- What is printed of record sets, put to a sink part by part.
use Rattle.std.proofs.Common.{◌≡◌, ℕ, suc, Bool, true, false, cond, not, ◌==◌, if◌then◌else◌, nat_lt, ◌+◌, ◌-◌, ◌<◌, ◌≤◌, List, [], ◌∷◌, ◌++◌, Option, Some, None, Ok, Err, length, take, drop, get_or}
use Rattle.std.proofs.Common.{flat_map, map, refl, sym, ap, subst, ◌∙◌, inl, inr, append_assoc, append-nil, length-append, length-drop, drop-drop, add-one, drop-cons, arith}
use Rattle.std.specs.Iterator.{SkipsThenYields, Yields, YieldsFirst}
use Rattle.std.specs.List.{filter, filter_map, find, join_with_byte, position, position_or_len, slice_get}
use Rattle.std.specs.Option.{option_map_or}
use Rattle.std.specs.declared.ops.Range.{Range}
use Rattle.std.proofs.lemmas.Bool.{cases_Bool, false≢true}
use Rattle.std.proofs.lemmas.Bool.Decides.{nat_tests}
use Rattle.std.proofs.lemmas.List.{drop_all, length-map, length-replicate}
use Rattle.std.proofs.lemmas.List.Folds.{find_at}
use Rattle.std.proofs.lemmas.List.Quantifiers.{position-Some}
use Rattle.std.proofs.lemmas.Option.{slice_get_read, slice_get_past}
use Rattle.rec_text.specs.Bytes.{is_nil, ends_newline}
use Rattle.rec_text.specs.Elements.{Piece}
use Rattle.rec_text.specs.Records.{IsRecord, AreRecords, is_field_at, is_field_piece, elements_in}
use Rattle.rec_text.specs.declared.fault.Fault.{Fault}
use Rattle.rec_text.specs.declared.fault.Fault.TheVariants.{NoSuchType}
use Rattle.rec_text.proofs.lemmas.records.RecordLemmas.{OneListOfRecords-holds, length-records}
use Rattle.rec_check.specs.declared.set.Set_.{Set_}
use Rattle.rec_check.specs.Descriptors.{type_of}
use Rattle.rec_check.specs.Schemas.{Described, IsDescribed}
use Rattle.rec_check.specs.Sets.{AreFrom, BeginsAt, is_of_type, named_in}
use Rattle.rec_text.proofs.lemmas.ListLemmas.{AllByRecursion-slice_get, slice_get-drop, slice_get-take}
use Rattle.rec_select.specs.declared.records.Shape.TheVariants.{Blocks}
use Rattle.rec_select.specs.Printing.{block_of, printed_element, joined_blocks}
use Rattle.rec_select.specs.proving.Blocks.{gap}
use Rattle.rec_select.specs.proving.Heads.{AreHeads, HeadsFrom}
use Rattle.rec_select.specs.Selection.{record_at}
use Rattle.rec_select.specs.Info.{info, sets_for}
use Rattle.rec_select.specs.declared.info.InfoForm.TheVariants.{Descriptors}
use Rattle.rec_select.specs.Taken.{HasTaken, HasStopped}
use Rattle.rec_select.proofs.lemmas.printing.PutsLemmas.{HasTaken-nil, HasTaken-as, HasTaken-append, HasStopped-as, HasStopped-within}

-- ---- parts of a text, put one after another

-- the rest of a text is still to be put, and what stands before it was taken
pub record IsTakenTo {S : Type 0} (contents : S → Option (List ℕ)) (failures : S → ℕ) (old new : S) (text rest : List ℕ) : Type 0 where
  pub before : List ℕ
  pub parts : text ≡ before ++ rest
  pub taken : HasTaken contents failures old new before

parts_of : {text rest : List ℕ} (before part later : List ℕ) → text ≡ before ++ rest → rest ≡ part ++ later → text ≡ (before ++ part) ++ later
parts_of before part later parts more = parts ∙ ap (λ r. before ++ r) more ∙ sym (append_assoc before part later)

flat_map-drop : {X : Type 0} (f : X → List ℕ) (xs : List X) (i : ℕ) (d x : X) → i < length xs → x ≡ get_or xs i d → flat_map f (drop i xs) ≡ f x ++ flat_map f (drop (i + 1) xs)
flat_map-drop f xs i d x there is = rw (add-one, is, drop-cons xs i d)

module _ {S : Type 0} {contents : S → Option (List ℕ)} {failures : S → ℕ} where
  pub IsTakenTo-none : (text : List ℕ) (old : S) → IsTakenTo contents failures old old text text
  IsTakenTo-none text old = record { before = []; parts = refl; taken = HasTaken-nil old }

  -- a part more was taken
  pub IsTakenTo-more : {text rest : List ℕ} {old mid new : S} → (part later : List ℕ)
      → IsTakenTo contents failures old mid text rest → rest ≡ part ++ later → HasTaken contents failures mid new part → IsTakenTo contents failures old new text later
  IsTakenTo-more part later so_far more taken = record {
    before = so_far.before ++ part;
    parts = parts_of so_far.before part later so_far.parts more;
    taken = HasTaken-append so_far.taken taken;
  }

  -- a part stopped, and so did the whole
  pub IsTakenTo-stopped : {text rest : List ℕ} {old mid new : S} {fault : Fault} → (part later : List ℕ)
      → IsTakenTo contents failures old mid text rest → rest ≡ part ++ later → HasStopped contents failures mid new part fault → HasStopped contents failures old new text fault
  IsTakenTo-stopped part later so_far more stopped = HasStopped-within _ later (parts_of so_far.before part later so_far.parts more) so_far.taken stopped

  -- nothing is left
  pub IsTakenTo-all : {text rest : List ℕ} {old new : S} → IsTakenTo contents failures old new text rest → rest ≡ [] → HasTaken contents failures old new text
  IsTakenTo-all so_far none = HasTaken-as (sym (so_far.parts ∙ ap (λ r. so_far.before ++ r) none ∙ append-nil so_far.before)) so_far.taken

  -- ---- a text for each element of a list

  module _ {X : Type 0} (f : X → List ℕ) (xs : List X) (i : ℕ) (d x : X) {old mid new : S} (so_far : IsTakenTo contents failures old mid (flat_map f xs) (flat_map f (drop i xs)))
      (there : i < length xs) (is : x ≡ get_or xs i d) where
    -- the text of one element more was taken
    pub one_taken : HasTaken contents failures mid new (f x) → IsTakenTo contents failures old new (flat_map f xs) (flat_map f (drop (i + 1) xs))
    one_taken taken = IsTakenTo-more (f x) _ so_far (flat_map-drop f xs i d x there is) taken

    -- the text of one element stopped
    pub one_stopped : {fault : Fault} → HasStopped contents failures mid new (f x) fault → HasStopped contents failures old new (flat_map f xs) fault
    one_stopped stopped = IsTakenTo-stopped (f x) (flat_map f (drop (i + 1) xs)) so_far (flat_map-drop f xs i d x there is) stopped

-- ---- the sets that are printed

chosen : (b : Bool) (n i : ℕ) → cond b (Some n) None ≡ Some i → n ≡ i
chosen false n i e = cc
chosen true n i e = cc

not_chosen : (b : Bool) (n : ℕ) → cond b (Some n) None ≡ None → b ≡ false
not_chosen false n e = refl
not_chosen true n e = cc

find-position : {X : Type 0} (test : X → Bool) (xs : List X) (i : ℕ) (x : X) → position test xs ≡ Some i → x ≡ get_or xs i x → find test xs ≡ Some x
find-position test xs i x at is =
    let there = position-Some test xs i x at in
    let place : position_or_len test xs ≡ i = chosen (nat_lt (position_or_len test xs) (length xs)) _ i at in
    find_at test xs ∙ ap (slice_get xs) place ∙ slice_get_read xs (length xs) i x refl there.0 is

find-no_position : {X : Type 0} (test : X → Bool) (xs : List X) → position test xs ≡ None → find test xs ≡ None
find-no_position test xs none =
    let over : nat_lt (position_or_len test xs) (length xs) ≡ false = not_chosen _ (position_or_len test xs) none in
    find_at test xs ∙ slice_get_past xs (position_or_len test xs) (grind (arith, nat_tests))

sets_for-find : (record_type : List ℕ) (sets : List Set_) (s : Set_) → find (is_of_type record_type) sets ≡ Some s → sets_for (Some record_type) sets ≡ Ok (s ∷ [])
sets_for-find record_type sets s found = rw (found, sets_for)

sets_for-no_find : (record_type : List ℕ) (sets : List Set_) → find (is_of_type record_type) sets ≡ None → sets_for (Some record_type) sets ≡ Err NoSuchType
sets_for-no_find record_type sets none = rw (none, sets_for)

-- the set of a type stands at the first place of a set of that type
pub sets_for-found : (record_type : List ℕ) (sets : List Set_) (i : ℕ) (s : Set_) → position (is_of_type record_type) sets ≡ Some i → s ≡ get_or sets i s
    → sets_for (Some record_type) sets ≡ Ok (s ∷ [])
sets_for-found record_type sets i s at is = sets_for-find record_type sets s (find-position (is_of_type record_type) sets i s at is)

pub sets_for-missing : (record_type : List ℕ) (sets : List Set_) → position (is_of_type record_type) sets ≡ None → sets_for (Some record_type) sets ≡ Err NoSuchType
sets_for-missing record_type sets none = sets_for-no_find record_type sets (find-no_position (is_of_type record_type) sets none)

-- ---- the blocks of descriptors

-- what is printed of blocks, from the first of all or from a later one on
abbrev pub text_from : Bool → List (List ℕ) → List ℕ
text_from is_first [] = []
text_from is_first (block ∷ blocks) = if is_nil block then text_from is_first blocks else (gap is_first ++ block) ++ text_from false blocks

-- an empty line before each block
abbrev following : List (List ℕ) → List ℕ
following [] = []
following (block ∷ blocks) = 10 ∷ join_with_byte 10 (block ∷ blocks)

join_with_byte-cons : (block : List ℕ) (blocks : List (List ℕ)) → join_with_byte 10 (block ∷ blocks) ≡ block ++ following blocks
join_with_byte-cons block [] = sym (append-nil block)
join_with_byte-cons block (next ∷ blocks) = refl

text_from-false : (blocks : List (List ℕ)) → text_from false blocks ≡ following (filter (λ block. not (is_nil block)) blocks)
text_from-false [] = refl
text_from-false ([] ∷ blocks) = text_from-false blocks
text_from-false ((b ∷ bs) ∷ blocks) = ap (λ t. 10 ∷ ((b ∷ bs) ++ t)) (text_from-false blocks) ∙ ap (λ t. 10 ∷ t) (sym (join_with_byte-cons (b ∷ bs) _))

-- all blocks, joined, are what is printed from the first on
joined_blocks-text_from : (blocks : List (List ℕ)) → joined_blocks false blocks ≡ text_from true blocks
joined_blocks-text_from [] = refl
joined_blocks-text_from ([] ∷ blocks) = joined_blocks-text_from blocks
joined_blocks-text_from ((b ∷ bs) ∷ blocks) = join_with_byte-cons (b ∷ bs) _ ∙ ap (λ t. (b ∷ bs) ++ t) (sym (text_from-false blocks))

text_from-cons : (is_first : Bool) (block : List ℕ) (blocks : List (List ℕ)) → is_nil block ≡ false → text_from is_first (block ∷ blocks) ≡ (gap is_first ++ block) ++ text_from false blocks
text_from-cons is_first block blocks full = rw full refl

-- ---- a record's block is full

ended : (bytes more : List ℕ) → ends_newline bytes ≡ true → is_nil (bytes ++ more) ≡ false
ended [] more e = absurd (false≢true e)
ended (b ∷ bs) more e = refl

opened : (bytes more : List ℕ) → is_nil ((bytes ++ 10 ∷ []) ++ more) ≡ false
opened [] more = refl
opened (b ∷ bs) more = refl

closed-full : (piece : Piece) (more : List ℕ) → is_nil (printed_element piece ++ more) ≡ false
closed-full piece more = elim (cases_Bool (ends_newline piece.bytes)) [
  | inl ends ↦ rw ends (ended piece.bytes more ends)
  | inr none ↦ rw none (opened piece.bytes more)
]

block-full : (fields : List Piece) → is_field_at fields 0 ≡ true → is_nil (block_of Blocks fields) ≡ false
block-full [] e = absurd (false≢true e)
block-full (piece ∷ pieces) e = rw e (closed-full piece _)

record-full : (pieces : List Piece) (fields : Range ℕ) → IsRecord pieces fields → is_nil (block_of Blocks (elements_in pieces fields)) ≡ false
record-full pieces fields h =
    let place : fields.start + 0 ≡ fields.start = omega arith in
    let first : slice_get (elements_in pieces fields) 0 ≡ slice_get pieces fields.start =
    slice_get-drop fields.start 0 (take fields.end pieces) ∙ ap (slice_get (take fields.end pieces)) place ∙ slice_get-take fields.end fields.start pieces h.some in
    block-full (elements_in pieces fields) (ap (λ found. option_map_or is_field_piece found false) first ∙ h.first)

-- ---- one walk over the records

-- what `next` gave before the record that it gave last, and what is left over that
Yields-append : (left xs rest : List (Range ℕ)) → Yields (YieldsFirst (λ (records : List (Range ℕ)). records)) left xs rest → left ≡ xs ++ rest
Yields-append left [] rest e = e
Yields-append left (x ∷ xs) rest (later, first, more) = first ∙ ap (λ r. x ∷ r) (Yields-append later xs rest more)

at_seam : {X : Type 0} (xs : List X) (x : X) (ys : List X) → slice_get (xs ++ x ∷ ys) (length xs) ≡ Some x
at_seam [] x ys = refl
at_seam (y ∷ xs) x ys = at_seam xs x ys

after_seam : {X : Type 0} (xs : List X) (x : X) (ys : List X) → drop (suc (length xs)) (xs ++ x ∷ ys) ≡ ys
after_seam [] x ys = refl
after_seam (y ∷ xs) x ys = after_seam xs x ys

skipped_to : (left later : List (Range ℕ)) (n : ℕ) (fields : Range ℕ) → SkipsThenYields (YieldsFirst (λ (records : List (Range ℕ)). records)) left n (Some fields) later
    → (slice_get left n ≡ Some fields) × (drop (n + 1) left ≡ later)
skipped_to left later n fields (xs, (rest, all, first), count) =
    let parts : left ≡ xs ++ fields ∷ later = Yields-append left xs rest all ∙ ap (λ r. xs ++ r) first in
    let next : n + 1 ≡ suc (length xs) = omega (arith, count) in (
      ap (slice_get left) (sym count) ∙ ap (λ l. slice_get l (length xs)) parts ∙ at_seam xs fields later,
      ap (λ k. drop k left) next ∙ ap (drop (suc (length xs))) parts ∙ after_seam xs fields later,
    )

skipped_all : (left later : List (Range ℕ)) (n : ℕ) → SkipsThenYields (YieldsFirst (λ (records : List (Range ℕ)). records)) left n None later → length left ≤ n
skipped_all left later n (xs, (rest, all, none), count) =
    let parts : left ≡ xs = Yields-append left xs rest all ∙ ap (λ r. xs ++ r) none.0 ∙ append-nil xs in
    omega (arith, ap length parts, count)

-- ---- the descriptors that are printed

-- what `HeadsFrom` says of a set with this head and of those after it
abbrev HeadsAfter : ℕ → ℕ → List Set_ → Option ℕ → Type 0
HeadsAfter size at sets head = elim head [ None ↦ HeadsFrom size at sets | Some head ↦ (at ≤ head) × HeadsFrom size (head + 1) sets ]

HeadsAfter-low : (size at : ℕ) (sets : List Set_) (head : Option ℕ) → ((least : ℕ) → HeadsFrom size least sets → least ≤ size) → HeadsAfter size at sets head → at ≤ size
HeadsAfter-low size at sets None low ordered = low at ordered
HeadsAfter-low size at sets (Some head) low ordered = omega (arith, ordered.0, low (head + 1) ordered.1)

HeadsFrom-low : (size at : ℕ) (sets : List Set_) → HeadsFrom size at sets → at ≤ size
HeadsFrom-low size at [] ordered = ordered
HeadsFrom-low size at (s ∷ sets) ordered = HeadsAfter-low size at sets s.head (λ least. HeadsFrom-low size least sets) ordered

HeadsFrom-typed : (size at head : ℕ) (s : Set_) (sets : List Set_) → s.head ≡ Some head → HeadsFrom size at (s ∷ sets) → (at ≤ head) × HeadsFrom size (head + 1) sets
HeadsFrom-typed size at head s sets is ordered =
    let P : Option ℕ → Type 0 = HeadsAfter size at sets in
    subst P is ordered

drop-item : {X : Type 0} (xs : List X) (i : ℕ) (x : X) → i < length xs → x ≡ get_or xs i x → drop i xs ≡ x ∷ drop (i + 1) xs
drop-item xs i x there is = rw (add-one, drop-cons xs i x) (ap (λ y. y ∷ drop (suc i) xs) (sym is))

is_later : (n : ℕ) → (n + 1 == 0) ≡ false
is_later n = grind (arith, nat_tests)

module _ (pieces : List Piece) (all : List (Range ℕ)) where
  -- the blocks of the descriptors of sets
  abbrev pub head_blocks : List Set_ → List (List ℕ)
  head_blocks sets = map (λ i. block_of Blocks (record_at pieces all i)) (filter_map (λ s. s.head) sets)

  -- the descriptors up to some sets went out, and these sets and the records after those passed are left
  pub record AreHeadsTo {S : Type 0} (contents : S → Option (List ℕ)) (failures : S → ℕ) (old new : S) (sets : List Set_) (passed : ℕ) (left : List (Range ℕ)) (rest : List Set_) : Type 0 where
    pub taken : IsTakenTo contents failures old new (text_from true (head_blocks sets)) (text_from (passed == 0) (head_blocks rest))
    pub left_are : left ≡ drop passed all
    pub ordered : HeadsFrom (length all) passed rest

  -- the record of a set's descriptor, which is the next that is printed
  pub record IsNextHead (passed head : ℕ) (fields : Range ℕ) (later : List (Range ℕ)) (rest more : List Set_) : Type 0 where
    pub is_record : IsRecord pieces fields
    pub countable : head < length pieces
    pub text : text_from (passed == 0) (head_blocks rest) ≡ (gap (passed == 0) ++ block_of Blocks (elements_in pieces fields)) ++ text_from false (head_blocks more)
    pub later_are : later ≡ drop (head + 1) all
    pub ordered : HeadsFrom (length all) (head + 1) more

  head_blocks-typed : (s : Set_) (sets : List Set_) (head : ℕ) (fields : Range ℕ) → s.head ≡ Some head → slice_get all head ≡ Some fields
      → head_blocks (s ∷ sets) ≡ block_of Blocks (elements_in pieces fields) ∷ head_blocks sets
  head_blocks-typed s sets head fields is at = rw (is, at) refl

module _ {pieces : List Piece} {all : List (Range ℕ)} where
  -- what is left of the descriptors after some of them are those of the text
  text_from-info : (sets : List Set_) (records : List (Range ℕ)) → AreRecords pieces all → AreRecords pieces records
      → text_from true (head_blocks pieces all sets) ≡ info Descriptors pieces records sets
  text_from-info sets records are are_records =
      sym (joined_blocks-text_from (head_blocks pieces all sets)) ∙ ap (λ records. info Descriptors pieces records sets) (OneListOfRecords-holds.records pieces all records are are_records)

module _ {S : Type 0} {contents : S → Option (List ℕ)} {failures : S → ℕ} {pieces : List Piece} {all : List (Range ℕ)} where
  pub first_head : (sets : List Set_) (old : S) → AreRecords pieces all → AreHeads pieces sets → AreHeadsTo pieces all contents failures old old sets 0 all sets
  first_head sets old are (records, are_records, ordered) =
      let P : List (Range ℕ) → Type 0 = λ records. HeadsFrom (length records) 0 sets in
      record {
        taken = IsTakenTo-none (text_from true (head_blocks pieces all sets)) old;
        left_are = refl;
        ordered = subst P (OneListOfRecords-holds.records pieces records all are_records are) ordered;
      }

  module _ {sets : List Set_} {i : ℕ} {s : Set_} {old new : S} {passed : ℕ} {left : List (Range ℕ)}
      (so_far : AreHeadsTo pieces all contents failures old new sets passed left (drop i sets)) (there : i < length sets) (is : s ≡ get_or sets i s) where
    rest_are : drop i sets ≡ s ∷ drop (i + 1) sets
    rest_are = drop-item sets i s there is

    ordered_from : HeadsFrom (length all) passed (s ∷ drop (i + 1) sets)
    ordered_from =
        let P : List Set_ → Type 0 = HeadsFrom (length all) passed in
        subst P rest_are so_far.ordered

    -- the next descriptor stands at the records that are left, or after
    pub head_low : (head : ℕ) → s.head ≡ Some head → passed ≤ head
    head_low head typed = (HeadsFrom-typed (length all) passed head s (drop (i + 1) sets) typed ordered_from).0

    -- there is a record of it
    pub head_there : (head : ℕ) (later : List (Range ℕ)) → s.head ≡ Some head → SkipsThenYields (YieldsFirst (λ (records : List (Range ℕ)). records)) left (head - passed) None later → ⊥
    head_there head later typed skipped =
        let next = HeadsFrom-typed (length all) passed head s (drop (i + 1) sets) typed ordered_from in
        let few = skipped_all left later (head - passed) skipped in
        omega (arith, few, next.0, HeadsFrom-low (length all) (head + 1) (drop (i + 1) sets) next.1, length-drop passed all, ap length so_far.left_are)

    pub next_head : (head : ℕ) (fields : Range ℕ) (later : List (Range ℕ)) → AreRecords pieces all → s.head ≡ Some head
        → SkipsThenYields (YieldsFirst (λ (records : List (Range ℕ)). records)) left (head - passed) (Some fields) later
        → IsNextHead pieces all passed head fields later (drop i sets) (drop (i + 1) sets)
    next_head head fields later are typed skipped =
        let next = HeadsFrom-typed (length all) passed head s (drop (i + 1) sets) typed ordered_from in
        let met = skipped_to left later (head - passed) fields skipped in
        let place : passed + (head - passed) ≡ head = omega (arith, next.0) in
        let at : slice_get all head ≡ Some fields =
        ap (slice_get all) (sym place) ∙ sym (slice_get-drop passed (head - passed) all) ∙ ap (λ l. slice_get l (head - passed)) (sym so_far.left_are) ∙ met.0 in
        let full : IsRecord pieces fields = AllByRecursion-slice_get (IsRecord pieces) all head fields are.each at in
        record {
          is_record = full;
          countable = omega (arith, HeadsFrom-low (length all) (head + 1) (drop (i + 1) sets) next.1, length-records pieces 0 all (omega arith) are.each are.ascending);
          text = ap (text_from (passed == 0)) (ap (head_blocks pieces all) rest_are ∙ head_blocks-typed pieces all s (drop (i + 1) sets) head fields typed at)
              ∙ text_from-cons (passed == 0) (block_of Blocks (elements_in pieces fields)) (head_blocks pieces all (drop (i + 1) sets)) (record-full pieces fields full);
          later_are = sym met.1 ∙ ap (drop (head - passed + 1)) so_far.left_are ∙ drop-drop (head - passed + 1) passed all
              ∙ ap (λ n. drop n all) (let e : passed + (head - passed + 1) ≡ head + 1 = omega (arith, next.0) in e);
          ordered = next.1;
        }

  module _ {sets rest more : List Set_} {old mid : S} {passed : ℕ} {left later : List (Range ℕ)} {head : ℕ} {fields : Range ℕ}
      (so_far : AreHeadsTo pieces all contents failures old mid sets passed left rest) (next : IsNextHead pieces all passed head fields later rest more) (part same : List Piece) (is_part : part
      ≡ elements_in same fields)
      (is_same : same ≡ pieces) where
    block_is : gap (passed == 0) ++ block_of Blocks part ≡ gap (passed == 0) ++ block_of Blocks (elements_in pieces fields)
    block_is = ap (λ (pieces : List Piece). gap (passed == 0) ++ block_of Blocks pieces) (is_part ∙ ap (λ (pieces : List Piece). elements_in pieces fields) is_same)

    pub head_taken : {new : S} → HasTaken contents failures mid new (gap (passed == 0) ++ block_of Blocks part) → AreHeadsTo pieces all contents failures old new sets (head + 1) later more
    head_taken {new} taken =
        let P : Bool → Type 0 = λ is_first. IsTakenTo contents failures old new (text_from true (head_blocks pieces all sets)) (text_from is_first (head_blocks pieces all more)) in
        record {
          taken = subst P (sym (is_later head)) (IsTakenTo-more _ _ so_far.taken next.text (HasTaken-as block_is taken));
          left_are = next.later_are;
          ordered = next.ordered;
        }

    pub head_stopped : {new : S} {fault : Fault} → HasStopped contents failures mid new (gap (passed == 0) ++ block_of Blocks part) fault
        → (records : List (Range ℕ)) → AreRecords pieces all → AreRecords pieces records → HasStopped contents failures old new (info Descriptors pieces records sets) fault
    head_stopped stopped records are are_records =
        HasStopped-as (text_from-info sets records are are_records) (IsTakenTo-stopped _ _ so_far.taken next.text (HasStopped-as block_is stopped))

  pub heads_taken : {sets : List Set_} {i : ℕ} {old new : S} {passed : ℕ} {left : List (Range ℕ)} → AreHeadsTo pieces all contents failures old new sets passed left (drop i sets)
      → length sets ≤ i → (records : List (Range ℕ)) → AreRecords pieces all → AreRecords pieces records → HasTaken contents failures old new (info Descriptors pieces records sets)
  heads_taken {sets} {i} {passed = passed} so_far none records are are_records =
      HasTaken-as (text_from-info sets records are are_records) (IsTakenTo-all so_far.taken (ap (λ (rest : List Set_). text_from (passed == 0) (head_blocks pieces all rest)) (drop_all i sets none)))

-- ---- the descriptors of the sets that are printed

HeadsAfter-lower : (size low at : ℕ) (sets : List Set_) (head : Option ℕ) → low ≤ at → (HeadsFrom size at sets → HeadsFrom size low sets) → HeadsAfter size at sets head → HeadsAfter size low sets head
HeadsAfter-lower size low at sets None le lower ordered = lower ordered
HeadsAfter-lower size low at sets (Some head) le lower ordered = (omega (arith, le, ordered.0), ordered.1)

HeadsFrom-lower : (size low at : ℕ) (sets : List Set_) → low ≤ at → HeadsFrom size at sets → HeadsFrom size low sets
HeadsFrom-lower size low at [] le ordered = omega (arith, le, ordered)
HeadsFrom-lower size low at (s ∷ sets) le ordered = HeadsAfter-lower size low at sets s.head le (HeadsFrom-lower size low at sets le) ordered

-- one of the sets
HeadsAfter-one : (size at : ℕ) (sets : List Set_) (head : Option ℕ) → HeadsAfter size at sets head → HeadsAfter size 0 [] head
HeadsAfter-one size at sets None ordered = omega arith
HeadsAfter-one size at sets (Some head) ordered = (omega arith, HeadsFrom-low size (head + 1) sets ordered.1)

HeadsAfter-rest : (size at : ℕ) (sets : List Set_) (head : Option ℕ) → HeadsAfter size at sets head → (least : ℕ) × HeadsFrom size least sets
HeadsAfter-rest size at sets None ordered = (at, ordered)
HeadsAfter-rest size at sets (Some head) ordered = (head + 1, ordered.1)

HeadsFrom-find : (size at : ℕ) (test : Set_ → Bool) (sets : List Set_) (s : Set_) → HeadsFrom size at sets → find test sets ≡ Some s → HeadsFrom size 0 (s ∷ [])
HeadsFrom-find size at test [] s ordered found = cc
HeadsFrom-find size at test (x ∷ sets) s ordered found = elim (cases_Bool (test x)) [
  | inl passes ↦
      let P : Set_ → Type 0 = λ one. HeadsFrom size 0 (one ∷ []) in
      let same : x ≡ s = (let first : cond (test x) (Some x) (find test sets) ≡ Some x = rw passes refl in cc) in
      subst P same (HeadsAfter-one size at sets x.head ordered)
  | inr fails ↦
      let rest = HeadsAfter-rest size at sets x.head ordered in
      let later : find test sets ≡ Some s = rw fails at found in
      HeadsFrom-find size rest.0 test sets s rest.1 later
]

HeadsFrom-kept : (size : ℕ) (record_type : Option (List ℕ)) (sets kept : List Set_) → sets_for record_type sets ≡ Ok kept → HeadsFrom size 0 sets → HeadsFrom size 0 kept
HeadsFrom-kept size None sets kept e ordered =
    let P : List Set_ → Type 0 = HeadsFrom size 0 in
    let same : sets ≡ kept = cc in
    subst P same ordered
HeadsFrom-kept size (Some record_type) sets kept e ordered = go (find (is_of_type record_type) sets) refl where
  go : (found : Option Set_) → find (is_of_type record_type) sets ≡ found → HeadsFrom size 0 kept
  go None none = (let refused = sets_for-no_find record_type sets none in cc)
  go (Some s) found =
      let P : List Set_ → Type 0 = HeadsFrom size 0 in
      let same : s ∷ [] ≡ kept = (let chosen = sets_for-find record_type sets s found in cc) in
      subst P same (HeadsFrom-find size 0 (is_of_type record_type) sets s ordered found)

-- a set before those after it, by its type
HeadsFrom-cons : (size at : ℕ) (s : Set_) (sets : List Set_) (record_type : Option (List ℕ)) → s.kind ≡ record_type → BeginsAt at s
    → size ≡ at + (length (named_in s) + length (flat_map named_in sets))
    → (size ≡ s.members.end + length (flat_map named_in sets) → HeadsFrom size s.members.end sets) → HeadsFrom size at (s ∷ sets)
HeadsFrom-cons size at s sets None untyped place sized following =
    let begins : (s.head ≡ None) × (s.members.start ≡ at) = rw untyped at place.1 in
    let count : length (named_in s) ≡ s.members.end - s.members.start = rw untyped (length-replicate (s.members.end - s.members.start) _) in
    rw begins.0 (HeadsFrom-lower size at s.members.end sets (omega (arith, begins.1, place.0)) (following (omega (arith, sized, count, begins.1, place.0))))
HeadsFrom-cons size at s sets (Some record_type) typed place sized following =
    let begins : (s.head ≡ Some at) × (s.members.start ≡ at + 1) = rw typed at place.1 in
    let count : length (named_in s) ≡ suc (s.members.end - s.members.start) = rw typed (ap suc (length-replicate (s.members.end - s.members.start) _)) in
    rw begins.0
    (omega arith, HeadsFrom-lower size (at + 1) s.members.end sets (omega (arith, begins.1, place.0)) (following (omega (arith, sized, count, begins.1, place.0))))

HeadsFrom-sets : (size at : ℕ) (sets : List Set_) → AreFrom at sets → size ≡ at + length (flat_map named_in sets) → HeadsFrom size at sets
HeadsFrom-sets size at [] places sized = omega (arith, sized)
HeadsFrom-sets size at (s ∷ sets) places sized =
    HeadsFrom-cons size at s sets s.kind refl places.0 (omega (arith, sized, length-append (named_in s) (flat_map named_in sets))) (HeadsFrom-sets size s.members.end sets places.1)

pub AreHeads-kept : (pieces : List Piece) (described : Described) (record_type : Option (List ℕ)) (kept : List Set_) → IsDescribed pieces described → sets_for record_type described.sets ≡ Ok kept
    → AreHeads pieces kept
AreHeads-kept pieces described record_type kept h chosen =
    let sized : length h.records ≡ 0 + length (flat_map named_in described.sets) = omega (arith, ap length h.sets.joined, length-map h.records (λ own_range. type_of (elements_in pieces own_range))) in
    (h.records, h.are, HeadsFrom-kept (length h.records) record_type described.sets kept chosen (HeadsFrom-sets (length h.records) 0 described.sets h.sets.places sized))
