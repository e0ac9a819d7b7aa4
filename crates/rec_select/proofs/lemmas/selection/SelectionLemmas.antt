-- The set of a selection, its members one after another, and the one list of those that are selected.
use Rattle.std.proofs.Common.{◌≡◌, ◌∙◌, ◌⊎◌, inl, inr, ℕ, zero, suc, ◌+◌, ◌-◌, ◌<◌, ◌≤◌, Bool, true, false, cond, List, [], ◌∷◌, ◌++◌, Option, Some, None, Result, Ok, Err, length, drop, get_or, refl}
use Rattle.std.proofs.Common.{ap, sym, subst, arith}
use Rattle.std.specs.Prelude.{◌↔◌, IsTrue, AllPairs, Contains, find, position, slice_get}
use Rattle.std.specs.List.{AllByRecursion, position_or_len}
use Rattle.std.specs.Option.{option_map_or}
use Rattle.std.specs.declared.ops.Range.{Range}
use Rattle.std.proofs.lemmas.Bool.{cases_Bool, cases_lt, lt-ltb}
use Rattle.std.proofs.lemmas.List.{drop_more, length-drop, length-map}
use Rattle.std.proofs.lemmas.List.Elements.{All-from_recursion, All-get_or, Contains-append_left, Contains-get_or, Contains-push, Contains-push_cases}
use Rattle.std.proofs.lemmas.List.Folds.{find_at}
use Rattle.std.proofs.lemmas.List.Quantifiers.{all_pairs_push, position-Some}
use Rattle.std.proofs.lemmas.List.Sums.{position_or_len_is}
use Rattle.std.proofs.lemmas.Option.{slice_get-get_or, slice_get_past}
use Rattle.rec_text.specs.declared.fault.Fault.{Fault}
use Rattle.rec_text.specs.declared.fault.Fault.TheVariants.{TypeNeeded, NoSuchType}
use Rattle.rec_text.specs.Elements.{Piece}
use Rattle.rec_text.specs.Records.{AreRecords, IsRecord, elements_in}
use Rattle.rec_text.proofs.lemmas.FaultLemmas.{no_both, ok_is_no_err, same_fault, same_value}
use Rattle.rec_text.proofs.lemmas.ListLemmas.{Contains-head, Contains-later}
use Rattle.rec_text.proofs.lemmas.records.RecordLemmas.{OneListOfRecords-holds, length-records}
use Rattle.rec_check.specs.declared.set.Set_.{Set_}
use Rattle.rec_check.specs.Descriptors.{type_of}
use Rattle.rec_check.specs.Schemas.{Described, IsDescribed}
use Rattle.rec_check.specs.Sets.{is_of_type}
use Rattle.rec_check.proofs.lemmas.DescribedLemmas.{sets_within}
use Rattle.rec_select.specs.Selection.{Filter, Passes, record_at, only_set, has_members, set_without_type, set_of_type, set_for, AreSelected, OneSelection}

-- ---- the set of a type

abbrev set_or_none : Option Set_ → Result Set_ Fault
set_or_none found = elim found [ None ↦ Err NoSuchType | Some s ↦ Ok s ]

pub set_found : (record_type : List ℕ) (sets items : List Set_) (place : ℕ) (s : Set_) → Some place ≡ position (is_of_type record_type) sets → items ≡ sets → s ≡ get_or items place s
    → set_of_type record_type sets ≡ Ok s
set_found record_type sets items place s found same is =
    let at = position-Some (is_of_type record_type) sets place s (sym found) in
    let within = at.0 in
    let first : position_or_len (is_of_type record_type) sets ≡ place =
    position_or_len_is (is_of_type record_type) sets place s (omega arith)
    (λ k below. let early = position-Some (is_of_type record_type) sets place s (sym found) in early.2 k below) (λ _. at.1) in
    ap set_or_none (find_at (is_of_type record_type) sets ∙ ap (slice_get sets) first ∙ slice_get-get_or sets place s within ∙ ap (λ (l : List Set_). Some (get_or l place s)) (sym same)
    ∙ ap Some (sym is))

pub set_missing : (record_type : List ℕ) (sets : List Set_) → None ≡ position (is_of_type record_type) sets → set_of_type record_type sets ≡ Err NoSuchType
set_missing record_type sets none =
    let at : ℕ = position_or_len (is_of_type record_type) sets in
    elim (cases_lt at (length sets)) [
      | inl within ↦ absurd (let there = lt-ltb at (length sets) within in let missing = rw there at none in cc)
      | inr past ↦ ap set_or_none (find_at (is_of_type record_type) sets ∙ slice_get_past sets at past)
    ]

-- ---- one of the sets is selected from

module _ (P : Set_ → Type 0) where
  of_found : (s t : Set_) → P s → ◌≡◌ {A = Result Set_ Fault} (Ok s) (Ok t) → P t
  of_found s t holds e = subst P (same_value s t e) holds

  of_only_set : (untyped : Set_) (typed : List Set_) (s : Set_) → P untyped → AllByRecursion P typed → only_set untyped typed ≡ Ok s → P s
  of_only_set untyped [] s first all is = of_found untyped s first is
  of_only_set untyped (t ∷ []) s first all is = of_found t s all.0 is
  of_only_set untyped (t ∷ u ∷ typed) s first all is = ok_is_no_err s TypeNeeded (P s) is

  of_set_without_type : (sets : List Set_) (s : Set_) → AllByRecursion P sets → set_without_type sets ≡ Ok s → P s
  of_set_without_type [] s all is = ok_is_no_err s TypeNeeded (P s) is
  of_set_without_type (untyped ∷ typed) s all is = elim (cases_Bool (has_members untyped)) [
    | inl some ↦ of_found untyped s all.0 (rw some at is)
    | inr none ↦ of_only_set untyped typed s all.0 all.1 (rw none at is)
  ]

  of_either : (own : Bool) (t s : Set_) (later : Option Set_) → P t → (set_or_none later ≡ Ok s → P s) → set_or_none (cond own (Some t) later) ≡ Ok s → P s
  of_either true t s later here there is = of_found t s here is
  of_either false t s later here there is = there is

  of_set_of_type : (record_type : List ℕ) (sets : List Set_) (s : Set_) → AllByRecursion P sets → set_of_type record_type sets ≡ Ok s → P s
  of_set_of_type record_type [] s all is = ok_is_no_err s NoSuchType (P s) is
  of_set_of_type record_type (t ∷ sets) s all is = of_either (is_of_type record_type t) t s (find (is_of_type record_type) sets) all.0 (of_set_of_type record_type sets s all.1) is

  -- what holds of all sets holds of the one that is selected from
  pub of_set_for : (record_type : Option (List ℕ)) (sets : List Set_) (s : Set_) → AllByRecursion P sets → set_for record_type sets ≡ Ok s → P s
  of_set_for None sets s all is = of_set_without_type sets s all is
  of_set_for (Some record_type) sets s all is = of_set_of_type record_type sets s all is

-- ---- the members are records

pub members_within : (pieces : List Piece) (described : Described) (records : List (Range ℕ)) (record_type : Option (List ℕ)) (s : Set_) → IsDescribed pieces described → AreRecords pieces records
    → set_for record_type described.sets ≡ Ok s → s.members.end ≤ length records
members_within pieces described records record_type s is are found =
    let same : is.records ≡ records = OneListOfRecords-holds.records pieces is.records records is.are are in
    of_set_for (λ t. t.members.end ≤ length records) record_type described.sets s
    (sets_within 0 described.sets (length records) is.sets.places
    (omega (arith, ap length is.sets.joined, length-map is.records (λ own_range. type_of (elements_in pieces own_range)), ap length same)))
    found

-- ---- one record after another

-- the record of an index is among these members of a set, and passes
abbrev IsTaken : List Piece → Range ℕ → Filter → List (Range ℕ) → ℕ → Type 0
IsTaken pieces members wanted records i = (members.start ≤ i) × (i < members.end) × Passes wanted (record_at pieces records i) (i - members.start)

-- what stands after some records: those that are left, and the ones so far that are selected
pub record IsChosenUpTo (pieces : List Piece) (members : Range ℕ) (wanted : Filter) (count : ℕ) (rest : List (Range ℕ)) (selected : List ℕ) : Type 0 where
  pub records : List (Range ℕ)
  pub are : AreRecords pieces records
  pub counted : count ≤ length records
  pub left : rest ≡ drop count records
  pub ascending : AllPairs (λ a b. a < b) selected
  pub taken : (i : ℕ) → Contains selected i ↔ ((i < count) × IsTaken pieces members wanted records i)

Contains-nil : (i : ℕ) → Contains [] i → ⊥
Contains-nil i (k, within, at) = omega (arith, within)

ascending_nil : AllPairs (λ a b. a < b) []
ascending_nil = λ i j d lt within. absurd (omega (arith, within))

module _ (pieces : List Piece) (members : Range ℕ) (wanted : Filter) where
  pub none_chosen : (records rest : List (Range ℕ)) (count : ℕ) (selected : List ℕ) → AreRecords pieces records → count ≡ 0 → rest ≡ records → selected ≡ []
      → IsChosenUpTo pieces members wanted count rest selected
  none_chosen records rest count selected are zeroth all none = record {
    records = records;
    are = are;
    counted = omega arith;
    left = all ∙ ap (λ n. drop n records) (sym zeroth);
    ascending = subst (AllPairs (λ a b. a < b)) (sym none) ascending_nil;
    taken = λ i. (
      λ among. absurd (Contains-nil i (let P : List ℕ → Type 0 = λ l. Contains l i in subst P none among)),
      λ taken. absurd (omega (arith, taken.0)),
    );
  }

  -- no more than the elements are left
  pub countable : (count : ℕ) (rest : List (Range ℕ)) (selected : List ℕ) (top : ℕ) → IsChosenUpTo pieces members wanted count rest selected → length pieces < top → count + length rest < top
  countable count rest selected top so_far few =
      omega (arith, so_far.counted, ap length so_far.left, length-drop count so_far.records, length-records pieces 0 so_far.records (omega arith) so_far.are.each so_far.are.ascending)

  module _ (count : ℕ) (before rest : List (Range ℕ)) (fields : Range ℕ) (selected : List ℕ) (so_far : IsChosenUpTo pieces members wanted count before selected) (first : before ≡ fields ∷ rest) where
    is_left : count < length so_far.records
    is_left = omega (arith, ap length so_far.left, ap length first, length-drop count so_far.records)

    parts_at : fields ∷ rest ≡ get_or so_far.records count fields ∷ drop (count + 1) so_far.records
    parts_at = sym first ∙ so_far.left ∙ drop_more so_far.records count fields is_left

    field_at : fields ≡ get_or so_far.records count fields
    field_at = let parts = parts_at in cc

    rest_at : rest ≡ drop (count + 1) so_far.records
    rest_at = let parts = parts_at in cc

    pub is_record : IsRecord pieces fields
    is_record = subst (IsRecord pieces) (sym field_at) (All-get_or (IsRecord pieces) so_far.records count fields is_left (All-from_recursion (IsRecord pieces) so_far.records so_far.are.each))

    record_is : record_at pieces so_far.records count ≡ elements_in pieces fields
    record_is = ap (λ o. option_map_or (elements_in pieces) o []) (slice_get-get_or so_far.records count fields is_left ∙ ap Some (sym field_at))

    -- whether the part of all that is the record passes is whether the record does
    pub passes_as : (whole part : List Piece) (ready : Filter) (place : ℕ) (answer : Bool) → whole ≡ pieces → part ≡ elements_in whole fields → ready ≡ wanted → IsTrue answer ↔ Passes ready part place
        → IsTrue answer ↔ Passes wanted (elements_in pieces fields) place
    passes_as whole part ready place answer same part_is is passes =
        let P : Filter → Type 0 = λ filter. IsTrue answer ↔ Passes filter (elements_in pieces fields) place in
        let Q : List Piece → Type 0 = λ ps. IsTrue answer ↔ Passes ready ps place in
        subst P is (subst Q (part_is ∙ ap (λ ps. elements_in ps fields) same) passes)

    module _ (index next : ℕ) (here : index ≡ count) (then : next ≡ count + 1) where
      abbrev IsTakenHere : Type 0
      IsTakenHere = (members.start ≤ index) × (index < members.end) × Passes wanted (elements_in pieces fields) (index - members.start)

      taken_here : IsTaken pieces members wanted so_far.records count → IsTakenHere
      taken_here taken =
          let P : ℕ → Type 0 = λ i. (members.start ≤ i) × (i < members.end) × Passes wanted (elements_in pieces fields) (i - members.start) in
          let Q : List Piece → Type 0 = λ part. Passes wanted part (count - members.start) in
          subst P (sym here) (taken.0, taken.1, subst Q record_is taken.2)

      here_taken : IsTakenHere → IsTaken pieces members wanted so_far.records count
      here_taken taken =
          let P : ℕ → Type 0 = λ i. (members.start ≤ i) × (i < members.end) × Passes wanted (elements_in pieces fields) (i - members.start) in
          let Q : List Piece → Type 0 = λ part. Passes wanted part (count - members.start) in
          let at : (members.start ≤ count) × (count < members.end) × Passes wanted (elements_in pieces fields) (count - members.start) = subst P here taken in
          (at.0, at.1, subst Q (sym record_is) at.2)

      -- the record is taken
      pub one_taken : (more : List ℕ) → IsTakenHere → more ≡ selected ++ index ∷ [] → IsChosenUpTo pieces members wanted next rest more
      one_taken more takes more_are =
          let P : ℕ → Type 0 = λ i. IsTaken pieces members wanted so_far.records i in
          let added : more ≡ selected ++ count ∷ [] = more_are ∙ ap (λ i. selected ++ i ∷ []) here in
          let below : (k : ℕ) (d : ℕ) → k < length selected → get_or selected k d < count = λ k d within. ((so_far.taken (get_or selected k d)).0 (Contains-get_or selected k d within)).0 in
          record {
            records = so_far.records;
            are = so_far.are;
            counted = omega (arith, is_left);
            left = rest_at ∙ ap (λ n. drop n so_far.records) (sym then);
            ascending = subst (AllPairs (λ a b. a < b)) (sym added) (all_pairs_push (λ a b. a < b) selected count so_far.ascending below);
            taken = λ i. (
              λ among. elim (Contains-push_cases selected count i (let Q : List ℕ → Type 0 = λ l. Contains l i in subst Q added among)) [
                | inl old ↦ let was = (so_far.taken i).0 old in (omega (arith, was.0), was.1)
                | inr new ↦ (omega arith, subst P new (here_taken takes))
              ],
              λ is. let Q : List ℕ → Type 0 = λ l. Contains l i in subst Q (sym added) (elim (cases_lt i count) [
                | inl old ↦ Contains-append_left selected (count ∷ []) i ((so_far.taken i).1 (old, is.1))
                | inr past ↦ let R : ℕ → Type 0 = λ j. Contains (selected ++ count ∷ []) j in subst R (let e : count ≡ i = omega (arith, is.0) in e) (Contains-push selected count)
              ]),
            );
          }

      -- the record is passed over
      pub one_passed : (IsTakenHere → ⊥) → IsChosenUpTo pieces members wanted next rest selected
      one_passed passes =
          let P : ℕ → Type 0 = λ i. IsTaken pieces members wanted so_far.records i in
          record {
            records = so_far.records;
            are = so_far.are;
            counted = omega (arith, is_left);
            left = rest_at ∙ ap (λ n. drop n so_far.records) (sym then);
            ascending = so_far.ascending;
            taken = λ i. (
              λ among. let was = (so_far.taken i).0 among in (omega (arith, was.0), was.1),
              λ is. elim (cases_lt i count) [
                | inl old ↦ (so_far.taken i).1 (old, is.1)
                | inr past ↦ absurd (passes (taken_here (subst P (let e : i ≡ count = omega (arith, is.0) in e) is.1)))
              ],
            );
          }

  -- no member is left
  pub all_chosen : (s : Set_) (count : ℕ) (rest : List (Range ℕ)) (selected : List ℕ) (left : ℕ) → IsChosenUpTo pieces members wanted count rest selected → s.members ≡ members
      → ((records : List (Range ℕ)) → AreRecords pieces records → members.end ≤ length records) → count + left ≡ members.end → (0 < left → rest ≡ []) → AreSelected pieces s wanted selected
  all_chosen s count rest selected left so_far same within ends none =
      let reached : members.end ≤ count = elim (cases_lt 0 left) [
        | inl more ↦ omega (arith, within so_far.records so_far.are, ap length so_far.left, ap length (none more), length-drop count so_far.records)
        | inr over ↦ omega arith
      ] in
      let P : Range ℕ → Type 0 = λ m. (i : ℕ) → Contains selected i ↔ IsTaken pieces m wanted so_far.records i in
      record {
        records = so_far.records;
        are = so_far.are;
        ascending = so_far.ascending;
        members = subst P (sym same) (λ i. (
          λ among. ((so_far.taken i).0 among).1,
          λ is. (so_far.taken i).1 (omega (arith, is.1), is),
        ));
      }

-- ---- a selection has one answer

abbrev IsAscending : List ℕ → Type 0
IsAscending xs = AllPairs (λ a b. a < b) xs

ascending_tail : (x : ℕ) (xs : List ℕ) → IsAscending (x ∷ xs) → IsAscending xs
ascending_tail x xs ascending = λ i j d lt within. ascending (suc i) (suc j) d (omega arith) (omega arith)

ascending_head : (x : ℕ) (xs : List ℕ) (i : ℕ) → IsAscending (x ∷ xs) → Contains xs i → x < i
ascending_head x xs i ascending (k, within, at) =
    let less : x < get_or xs k i = ascending 0 (suc k) i (omega arith) (omega arith) in
    omega (arith, at)

Contains-cons : (x : ℕ) (xs : List ℕ) (i : ℕ) → Contains (x ∷ xs) i → (x ≡ i) ⊎ Contains xs i
Contains-cons x xs i (zero, within, at) = inl at
Contains-cons x xs i (suc k, within, at) = inr (k, omega arith, at)

-- the least of one list is no less than that of the other
head_le : (x y : ℕ) (xs ys : List ℕ) → IsAscending (y ∷ ys) → ((i : ℕ) → Contains (x ∷ xs) i → Contains (y ∷ ys) i) → y ≤ x
head_le x y xs ys ascending within = elim (Contains-cons y ys x (within x (Contains-head x xs))) [
  | inl same ↦ omega arith
  | inr later ↦ omega (arith, ascending_head y ys x ascending later)
]

-- what stands after the head of one list stands after that of the other
tail_within : (x y : ℕ) (xs ys : List ℕ) → x ≡ y → IsAscending (x ∷ xs) → ((i : ℕ) → Contains (x ∷ xs) i → Contains (y ∷ ys) i) → (i : ℕ) → Contains xs i → Contains ys i
tail_within x y xs ys same ascending within i among = elim (Contains-cons y ys i (within i (Contains-later x i xs among))) [
  | inl head ↦ absurd (omega (arith, ascending_head x xs i ascending among))
  | inr later ↦ later
]

ascending_same : (xs ys : List ℕ) → IsAscending xs → IsAscending ys → ((i : ℕ) → Contains xs i → Contains ys i) → ((i : ℕ) → Contains ys i → Contains xs i) → xs ≡ ys
ascending_same [] [] ascending rising there back = refl
ascending_same [] (y ∷ ys) ascending rising there back = absurd (Contains-nil y (back y (Contains-head y ys)))
ascending_same (x ∷ xs) [] ascending rising there back = absurd (Contains-nil x (there x (Contains-head x xs)))
ascending_same (x ∷ xs) (y ∷ ys) ascending rising there back =
    let same : x ≡ y = omega (arith, head_le x y xs ys rising there, head_le y x ys xs ascending back) in
    let tails : xs ≡ ys =
    ascending_same xs ys (ascending_tail x xs ascending) (ascending_tail y ys rising) (tail_within x y xs ys same ascending there) (tail_within y x ys xs (sym same) rising back) in
    ap (λ (z : ℕ). z ∷ xs) same ∙ ap (λ (zs : List ℕ). y ∷ zs) tails

selected_within : (pieces : List Piece) (s : Set_) (wanted : Filter) (selected other : List ℕ) → AreSelected pieces s wanted selected → AreSelected pieces s wanted other
    → (i : ℕ) → Contains selected i → Contains other i
selected_within pieces s wanted selected other h k i among =
    let P : List (Range ℕ) → Type 0 = λ records. IsTaken pieces s.members wanted records i in
    (k.members i).1 (subst P (OneListOfRecords-holds.records pieces h.records k.records h.are k.are) ((h.members i).0 among))

one_list_of_selected : (pieces : List Piece) (s : Set_) (wanted : Filter) (selected other : List ℕ) → AreSelected pieces s wanted selected → AreSelected pieces s wanted other → selected ≡ other
one_list_of_selected pieces s wanted selected other h k =
    ascending_same selected other h.ascending k.ascending (selected_within pieces s wanted selected other h k) (selected_within pieces s wanted other selected k h)

pub one_selection : OneSelection
one_selection pieces sets record_type wanted (Ok selected) (Ok other) (s, is, h) (t, is_too, k) =
    let P : Set_ → Type 0 = λ u. AreSelected pieces u wanted other in
    ap Ok (one_list_of_selected pieces s wanted selected other h (subst P (same_value t s (sym is_too ∙ is)) k))
one_selection pieces sets record_type wanted (Ok selected) (Err fault) (s, is, h) is_too = absurd (no_both s fault (sym is ∙ is_too))
one_selection pieces sets record_type wanted (Err fault) (Ok other) is (t, is_too, k) = absurd (no_both t fault (sym is_too ∙ is))
one_selection pieces sets record_type wanted (Err fault) (Err other) is is_too = ap Err (same_fault fault other (sym is ∙ is_too))
