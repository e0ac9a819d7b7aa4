-- What each record is given: a field of each automatic name of its set that it lacks.
use Rattle.std.proofs.Common.{◌≡◌, ◌∙◌, ℕ, ℤ, suc, ◌+◌, ◌-◌, ◌<◌, ◌≤◌, true, false, not, List, [], ◌∷◌, ◌++◌, length, length-drop, map, drop, Option, Some, None, Result, Ok, refl, ap, sym}
use Rattle.std.proofs.Common.{subst, inl, inr, arith, zero, ◌⊎◌}
use Rattle.std.specs.Prelude.{◌&&◌, find, is_some, nat_le, nat_lt, option_map, slice_get, zip, option_to_list}
use Rattle.std.specs.List.{AllByRecursion, AllZip}
use Rattle.std.specs.Option.{option_map_or}
use Rattle.std.specs.declared.ops.Range.{Range}
use Rattle.std.proofs.lemmas.Bool.{and_left, and_parts, and_right, cases_Bool, leb-true, lt-leb, ltb-true, cases_lt}
use Rattle.std.proofs.lemmas.List.{length-take}
use Rattle.std.proofs.lemmas.Option.{slice_get-map, slice_get_within}
use Rattle.rec_text.specs.declared.fault.Fault.{Fault}
use Rattle.rec_text.specs.Canonical.{is_plain_name}
use Rattle.rec_text.specs.Elements.{Piece}
use Rattle.rec_text.specs.Records.{AreRecords, elements_in}
use Rattle.rec_check.specs.declared.set.Set_.{Set_}
use Rattle.rec_check.specs.Automatic.{automatic_names, readings, IsNext}
use Rattle.rec_check.specs.Descriptors.{holds_index, type_of, types_of}
use Rattle.rec_check.specs.Rules.{Rules}
use Rattle.rec_check.specs.Schemas.{Described, IsRuled, IsSchema}
use Rattle.rec_check.specs.Sets.{AreFrom, BeginsAt}
use Rattle.rec_check.specs.Violations.{members, names_of}
use Rattle.rec_text.specs.Bytes.{is_among}
use Rattle.rec_text.proofs.lemmas.FaultLemmas.{same_value}
use Rattle.rec_edit.specs.Insertions.{Numbered, numbered_fields, fields_at}
use Rattle.rec_edit.specs.Automatic.{AreFilled, AreFilledSets, AreNumbered, lacking, numbers_in, AreFilledSet}
use Rattle.rec_edit.specs.Effect.{automatic_at}
use Rattle.rec_text.proofs.lemmas.ListLemmas.{slice_get-drop, slice_get-take, AllByRecursion-append}
use Rattle.rec_text.proofs.lemmas.records.RecordLemmas.{one_list_of_records}
use Rattle.rec_edit.proofs.lemmas.insertions.NewRecordLemmas.{GivesFields, IsFieldName, counter_is_plain, numbered_all}
use Rattle.rec_edit.proofs.lemmas.records.MemberLemmas.{Named, NameNothing, all_plain, set_with}
use Rattle.std.proofs.lemmas.Bool.Decides.{nat_tests}
use Rattle.rec_edit.proofs.lemmas.layouts.NeatLemmas.{AllByRecursion-filter}

pub some_same : {X : Type 0} (x y : X) → ◌≡◌ {A = Option X} (Some x) (Some y) → x ≡ y
some_same x y e = cc

-- ---- their names can be written

abbrev pub ArePlain : List Numbered → Type 0
ArePlain given = AllByRecursion (λ one. is_plain_name one.name ≡ true) given

nothing_plain : (head : Option ℕ) → AllByRecursion ArePlain (map (λ _. []) (option_to_list head))
nothing_plain None = tt
nothing_plain (Some place) = (tt, tt)

module _ (pieces : List Piece) (records : List (Range ℕ)) where
  filled_plain : (rules : Rules) → GivesFields rules → (numbers : List ℕ → List ℤ) (ranges : List (Range ℕ)) (filled : List (List Numbered)) → AreFilled pieces rules numbers ranges (Ok filled)
      → AllByRecursion ArePlain filled
  filled_plain rules names numbers [] filled are = subst (AllByRecursion ArePlain) (sym (same_value filled [] are)) tt
  filled_plain rules names numbers (range ∷ ranges) filled (inl (fault, refused, e)) = absurd (cc)
  filled_plain rules names numbers (range ∷ ranges) filled (inr (given, found, inl (fault, refused, e))) = absurd (cc)
  filled_plain rules names numbers (range ∷ ranges) filled (inr (given, found, inr (more, are, same))) =
      let own : List (List ℕ) = names_of (elements_in pieces range) in
      let plain : ArePlain given =
      numbered_all IsFieldName (λ name. is_plain_name name ≡ true) (λ name. IsNext rules name (numbers name)) (λ name number named next. counter_is_plain rules name named next.0)
      (lacking (automatic_names rules) own) given (AllByRecursion-filter IsFieldName (λ name. not (is_among own name)) (automatic_names rules) names) found in
      subst (AllByRecursion ArePlain) (sym (same_value filled (given ∷ more) same)) (plain, filled_plain rules names (λ name. numbers_in given name ++ numbers name) ranges more are)

  set_plain : (s : Set_) (rules : Rules) → GivesFields rules → (filled : List (List Numbered)) → AreFilledSet pieces records s rules (Ok filled) → AllByRecursion ArePlain filled
  set_plain s rules names filled (inl (fault, refused, e)) = absurd (cc)
  set_plain s rules names filled (inr (given, are, same)) =
      subst (AllByRecursion ArePlain) (sym (same_value filled (map (λ _. []) (option_to_list s.head) ++ given) same))
      (AllByRecursion-append ArePlain (map (λ _. []) (option_to_list s.head)) given (nothing_plain s.head)
      (filled_plain rules names (readings pieces (members records s)) (members records s) given are))

  pub sets_plain : (sets : List Set_) (rules : List Rules) (filled : List (List Numbered)) → AllByRecursion GivesFields rules → AreFilledSets pieces records sets rules (Ok filled)
      → AllByRecursion ArePlain filled
  sets_plain [] [] filled names are = subst (AllByRecursion ArePlain) (sym (same_value filled [] are)) tt
  sets_plain [] (one ∷ rules) filled names are = absurd are
  sets_plain (s ∷ sets) [] filled names are = absurd are
  sets_plain (s ∷ sets) (one ∷ rules) filled names (inl (fault, refused, e)) = absurd (cc)
  sets_plain (s ∷ sets) (one ∷ rules) filled names (inr (own, found, inl (fault, refused, e))) = absurd (cc)
  sets_plain (s ∷ sets) (one ∷ rules) filled names (inr (own, found, inr (more, are, same))) =
      subst (AllByRecursion ArePlain) (sym (same_value filled (own ++ more) same))
      (AllByRecursion-append ArePlain own more (set_plain s one names.0 own found) (sets_plain sets rules more names.1 are))

-- ---- what the record of an index is given

abbrev pub given_at : List (List Numbered) → ℕ → List Numbered
given_at filled k = option_map_or (λ given. given) (slice_get filled k) []

pub fields-given_at : (filled : List (List Numbered)) (k : ℕ) → fields_at filled k ≡ numbered_fields (given_at filled k)
fields-given_at [] k = refl
fields-given_at (given ∷ filled) zero = refl
fields-given_at (given ∷ filled) (suc k) = fields-given_at filled k

given_at-past : (some more : List (List Numbered)) (k : ℕ) → given_at (some ++ more) (length some + k) ≡ given_at more k
given_at-past [] more k = ap (given_at more) (let e : 0 + k ≡ k = omega arith in e)
given_at-past (given ∷ some) more k =
    let next : suc (length some) + k ≡ suc (length some + k) = omega arith in
    ap (given_at (given ∷ (some ++ more))) next ∙ given_at-past some more k

given_at-within : (some more : List (List Numbered)) (k : ℕ) → k < length some → given_at (some ++ more) k ≡ given_at some k
given_at-within [] more k within = absurd (omega (arith, within))
given_at-within (given ∷ some) more zero within = refl
given_at-within (given ∷ some) more (suc k) within = given_at-within some more k (omega (arith, within))

names-numbered : (next : List ℕ → Result ℤ Fault → Type 0) (names : List (List ℕ)) (given : List Numbered) → AreNumbered next names (Ok given) → map (λ one. one.name) given ≡ names
names-numbered next [] given are = ap (λ (g : List Numbered). map (λ one. one.name) g) (same_value given [] are)
names-numbered next (name ∷ names) given (inl (fault, refused, e)) = absurd (cc)
names-numbered next (name ∷ names) given (inr (number, found, inl (fault, refused, e))) = absurd (cc)
names-numbered next (name ∷ names) given (inr (number, found, inr (more, are, same))) =
    ap (λ (g : List Numbered). map (λ one. one.name) g) (same_value given (record { name = name; number = number } ∷ more) same)
    ∙ ap (λ rest. name ∷ rest) (names-numbered next names more are)

-- the automatic names of the record of this index, by its typed set
abbrev named_at : List Set_ → List Rules → ℕ → List (List ℕ)
named_at sets rules i = option_map_or (λ (s, rules). automatic_names rules) (find (λ (s, rules). is_some s.kind && holds_index i s.members) (zip sets rules)) []

begins_low : (at : ℕ) (record_type : Named) (head : Option ℕ) (members : Range ℕ) → BeginsAt at (set_with record_type head members) → at ≤ members.start
begins_low at None head members begins = omega (arith, begins.1.1)
begins_low at (Some record_type) head members begins = omega (arith, begins.1.1)

-- the sets from an index on have no record before it
named_at-before : (j at : ℕ) (sets : List Set_) (rules : List Rules) → AreFrom at sets → j < at → named_at sets rules j ≡ []
named_at-before j at [] rules from below = refl
named_at-before j at (s ∷ sets) [] from below = refl
named_at-before j at (s ∷ sets) (asked ∷ rules) from below =
    let low : at ≤ s.members.start = begins_low at s.kind s.head s.members from.0 in
    let starts : nat_le s.members.start j ≡ false = lt-leb s.members.start j (omega arith) in
    let outside : (is_some s.kind && holds_index j s.members) ≡ false =
    and_right (is_some s.kind) (holds_index j s.members) (and_left (nat_le s.members.start j) (nat_lt j s.members.end) starts) in
    rw outside (named_at-before j s.members.end sets rules from.1 (omega (arith, from.0.0)))

-- of a member of the set; the untyped set has no automatic name
named_at-member : (pieces : List Piece) (records : List (Range ℕ)) (j at : ℕ) (record_type : Named) (head : Option ℕ) (members : Range ℕ) (sets : List Set_) (asked : Rules) (rules : List Rules)
    → BeginsAt at (set_with record_type head members)
    → AreFrom members.end sets → IsRuled pieces records (set_with record_type head members) asked → holds_index j members ≡ true
    → named_at (set_with record_type head members ∷ sets) (asked ∷ rules) j ≡ automatic_names asked
named_at-member pieces records j at None None members sets asked rules begins from ruled holds =
    let below : j < members.end = ltb-true j members.end (and_parts (nat_le members.start j) (nat_lt j members.end) holds).1 in
    named_at-before j members.end sets rules from below ∙ sym (ap automatic_names ruled)
named_at-member pieces records j at None (Some head) members sets asked rules begins from ruled holds = let none = begins.1.0 in absurd (cc)
named_at-member pieces records j at (Some record_type) head members sets asked rules begins from ruled holds = rw holds refl

abbrev names : List Numbered → List (List ℕ)
names given = map (λ one. one.name) given

module _ (pieces : List Piece) (records : List (Range ℕ)) where
  length-filled : (rules : Rules) (numbers : List ℕ → List ℤ) (ranges : List (Range ℕ)) (filled : List (List Numbered)) → AreFilled pieces rules numbers ranges (Ok filled)
      → length filled ≡ length ranges
  length-filled rules numbers [] filled are = ap length (same_value filled [] are)
  length-filled rules numbers (range ∷ ranges) filled (inl (fault, refused, e)) = absurd (cc)
  length-filled rules numbers (range ∷ ranges) filled (inr (given, found, inl (fault, refused, e))) = absurd (cc)
  length-filled rules numbers (range ∷ ranges) filled (inr (given, found, inr (more, are, same))) =
      ap length (same_value filled (given ∷ more) same) ∙ ap suc (length-filled rules (λ name. numbers_in given name ++ numbers name) ranges more are)

  names-filled : (rules : Rules) (numbers : List ℕ → List ℤ) (ranges : List (Range ℕ)) (filled : List (List Numbered)) → AreFilled pieces rules numbers ranges (Ok filled)
      → (k : ℕ) (r : Range ℕ) → slice_get ranges k ≡ Some r → names (given_at filled k) ≡ lacking (automatic_names rules) (names_of (elements_in pieces r))
  names-filled rules numbers [] filled are k r at = absurd (cc)
  names-filled rules numbers (range ∷ ranges) filled (inl (fault, refused, e)) k r at = absurd (cc)
  names-filled rules numbers (range ∷ ranges) filled (inr (given, found, inl (fault, refused, e))) k r at = absurd (cc)
  names-filled rules numbers (range ∷ ranges) filled (inr (given, found, inr (more, are, same))) zero r at =
      ap (λ f. names (given_at f 0)) (same_value filled (given ∷ more) same)
      ∙ names-numbered (λ name. IsNext rules name (numbers name)) (lacking (automatic_names rules) (names_of (elements_in pieces range))) given found
      ∙ ap (λ (q : Range ℕ). lacking (automatic_names rules) (names_of (elements_in pieces q))) (some_same range r at)
  names-filled rules numbers (range ∷ ranges) filled (inr (given, found, inr (more, are, same))) (suc k) r at =
      ap (λ f. names (given_at f (suc k))) (same_value filled (given ∷ more) same) ∙ names-filled rules (λ name. numbers_in given name ++ numbers name) ranges more are k r at

  -- the record of a set's member
  member-there : (s : Set_) (k : ℕ) (r : Range ℕ) → s.members.start + k < s.members.end → slice_get records (s.members.start + k) ≡ Some r → slice_get (members records s) k ≡ Some r
  member-there s k r below at =
      slice_get-take (s.members.end - s.members.start) k (drop s.members.start records) (omega (arith, below)) ∙ slice_get-drop s.members.start k records ∙ at

  length-members : (s : Set_) (j : ℕ) (r : Range ℕ) → s.members.start ≤ s.members.end → s.members.end ≤ j → slice_get records j ≡ Some r → s.members.start + length (members records s) ≡ s.members.end
  length-members s j r ordered past at =
      let size = length-take (s.members.end - s.members.start) (drop s.members.start records) in
      let left = length-drop s.members.start records in
      let there = slice_get_within records j r at in
      omega (arith, size, left, there, ordered, past)

  -- of a set that begins at an index: its descriptor, its members, and those of the sets after it
  module _ (at : ℕ) (record_type : Named) (head : Option ℕ) (own_members : Range ℕ) (sets : List Set_) (asked : Rules) (rules : List Rules)
      (begins : BeginsAt at (set_with record_type head own_members)) (from : AreFrom own_members.end sets) (ruled : IsRuled pieces records (set_with record_type head own_members) asked)
      (given more : List (List Numbered))
      (are : AreFilled pieces asked (readings pieces (members records (set_with record_type head own_members))) (members records (set_with record_type head own_members)) (Ok given)) where
    abbrev own_set : Set_
    own_set = set_with record_type head own_members

    abbrev lacks : List (List ℕ) → Range ℕ → List (List ℕ)
    lacks automatic r = lacking automatic (names_of (elements_in pieces r))

    -- a member, counted from the first one
    of_member : (k : ℕ) (r : Range ℕ) → own_members.start + k < own_members.end → slice_get records (own_members.start + k) ≡ Some r
        → names (given_at (given ++ more) k) ≡ lacks (named_at (own_set ∷ sets) (asked ∷ rules) (own_members.start + k)) r
    of_member k r below there =
        let member : slice_get (members records own_set) k ≡ Some r = member-there own_set k r below there in
        let within : k < length given = omega (
          arith,
          slice_get_within (members records own_set) k r member,
          length-filled asked (readings pieces (members records own_set)) (members records own_set) given are,
        ) in
        let low : nat_le own_members.start (own_members.start + k) ≡ true = grind (arith, nat_tests) in
        let high : nat_lt (own_members.start + k) own_members.end ≡ true = grind (arith, nat_tests) in
        let holds : holds_index (own_members.start + k) own_members ≡ true = rw low high in
        ap names (given_at-within given more k within)
        ∙ names-filled asked (readings pieces (members records own_set)) (members records own_set) given are k r member
        ∙ ap (λ automatic. lacks automatic r) (sym (named_at-member pieces records (own_members.start + k) at record_type head own_members sets asked rules begins from ruled holds))

    -- one after them
    of_later : (k : ℕ) (r : Range ℕ) → own_members.end ≤ own_members.start + k → slice_get records (own_members.start + k) ≡ Some r
        → ((m : ℕ) → slice_get records (own_members.end + m) ≡ Some r → names (given_at more m) ≡ lacks (named_at sets rules (own_members.end + m)) r)
        → names (given_at (given ++ more) k) ≡ lacks (named_at (own_set ∷ sets) (asked ∷ rules) (own_members.start + k)) r
    of_later k r past there later =
        let size : own_members.start + length given ≡ own_members.end = omega (
          arith,
          length-members own_set (own_members.start + k) r (begins.0) past there,
          length-filled asked (readings pieces (members records own_set)) (members records own_set) given are,
        ) in
        let m : ℕ = k - length given in
        let split : length given + m ≡ k = omega (arith, size, past) in
        let place : own_members.end + m ≡ own_members.start + k = omega (arith, size, past) in
        let other : nat_lt (own_members.start + k) own_members.end ≡ false = grind (arith, nat_tests) in
        let outside : (is_some record_type && holds_index (own_members.start + k) own_members) ≡ false =
        and_right (is_some record_type) (holds_index (own_members.start + k) own_members)
        (and_right (nat_le own_members.start (own_members.start + k)) (nat_lt (own_members.start + k) own_members.end) other) in
        ap (λ n. names (given_at (given ++ more) n)) (sym split) ∙ ap names (given_at-past given more m)
        ∙ later m (ap (slice_get records) place ∙ there) ∙ ap (λ n. lacks (named_at sets rules n) r) place ∙ rw outside refl

    pub of_set : (k : ℕ) (r : Range ℕ) → slice_get records (own_members.start + k) ≡ Some r
        → ((m : ℕ) → slice_get records (own_members.end + m) ≡ Some r → names (given_at more m) ≡ lacks (named_at sets rules (own_members.end + m)) r)
        → names (given_at (given ++ more) k) ≡ lacks (named_at (own_set ∷ sets) (asked ∷ rules) (own_members.start + k)) r
    of_set k r there later = elim (cases_lt (own_members.start + k) own_members.end) [
      | inl below ↦ of_member k r below there
      | inr past ↦ of_later k r past there later
    ]

    -- the descriptor
    of_head : (j : ℕ) → j < own_members.start → named_at (own_set ∷ sets) (asked ∷ rules) j ≡ []
    of_head j below =
        let starts : nat_le own_members.start j ≡ false = lt-leb own_members.start j below in
        let outside : (is_some record_type && holds_index j own_members) ≡ false =
        and_right (is_some record_type) (holds_index j own_members) (and_left (nat_le own_members.start j) (nat_lt j own_members.end) starts) in
        rw outside (named_at-before j own_members.end sets rules from (omega (arith, begins.0, below)))

  names-in_set : (at : ℕ) (record_type : Named) (head : Option ℕ) (own_members : Range ℕ) (sets : List Set_) (asked : Rules) (rules : List Rules)
      → BeginsAt at (set_with record_type head own_members) → AreFrom own_members.end sets → IsRuled pieces records (set_with record_type head own_members) asked
      → (own more : List (List Numbered)) → AreFilledSet pieces records (set_with record_type head own_members) asked (Ok own)
      → (j : ℕ) (r : Range ℕ) → slice_get records (at + j) ≡ Some r
      → ((m : ℕ) → slice_get records (own_members.end + m) ≡ Some r → names (given_at more m) ≡ lacking (named_at sets rules (own_members.end + m)) (names_of (elements_in pieces r)))
      → names (given_at (own ++ more) j) ≡ lacking (named_at (set_with record_type head own_members ∷ sets) (asked ∷ rules) (at + j)) (names_of (elements_in pieces r))
  names-in_set at record_type head own_members sets asked rules begins from ruled own more (inl (fault, refused, e)) j r there later = absurd (cc)
  names-in_set at None None own_members sets asked rules begins from ruled own more (inr (given, are, same)) j r there later =
      let place : own_members.start + j ≡ at + j = omega (arith, begins.1.1) in
      ap (λ f. names (given_at (f ++ more) j)) (same_value own given same)
      ∙ of_set at None None own_members sets asked rules begins from ruled given more are j r (ap (slice_get records) place ∙ there) later
      ∙ ap (λ n. lacking (named_at (set_with None None own_members ∷ sets) (asked ∷ rules) n) (names_of (elements_in pieces r))) place
  names-in_set at None (Some h) own_members sets asked rules begins from ruled own more (inr (given, are, same)) j r there later = let none = begins.1.0 in absurd (cc)
  names-in_set at (Some named) None own_members sets asked rules begins from ruled own more (inr (given, are, same)) j r there later = let some = begins.1.0 in absurd (cc)
  names-in_set at (Some named) (Some h) own_members sets asked rules begins from ruled own more (inr (given, are, same)) zero r there later =
      ap (λ f. names (given_at (f ++ more) 0)) (same_value own ([] ∷ given) same)
      ∙ ap (λ automatic. lacking automatic (names_of (elements_in pieces r)))
      (sym (of_head at (Some named) (Some h) own_members sets asked rules begins from ruled given more are (at + 0) (omega (arith, begins.1.1))))
  names-in_set at (Some named) (Some h) own_members sets asked rules begins from ruled own more (inr (given, are, same)) (suc j) r there later =
      let place : own_members.start + j ≡ at + suc j = omega (arith, begins.1.1) in
      ap (λ f. names (given_at (f ++ more) (suc j))) (same_value own ([] ∷ given) same)
      ∙ of_set at (Some named) (Some h) own_members sets asked rules begins from ruled given more are j r (ap (slice_get records) place ∙ there) later
      ∙ ap (λ n. lacking (named_at (set_with (Some named) (Some h) own_members ∷ sets) (asked ∷ rules) n) (names_of (elements_in pieces r))) place

  names-in_sets : (at : ℕ) (sets : List Set_) (rules : List Rules) (filled : List (List Numbered)) → AreFrom at sets → AllZip (IsRuled pieces records) sets rules
      → AreFilledSets pieces records sets rules (Ok filled) → (j : ℕ) (r : Range ℕ) → slice_get records (at + j) ≡ Some r
      → names (given_at filled j) ≡ lacking (named_at sets rules (at + j)) (names_of (elements_in pieces r))
  names-in_sets at [] [] filled from ruled are j r there = ap (λ f. names (given_at f j)) (same_value filled [] are)
  names-in_sets at [] (asked ∷ rules) filled from ruled are j r there = absurd are
  names-in_sets at (s ∷ sets) [] filled from ruled are j r there = absurd are
  names-in_sets at (s ∷ sets) (asked ∷ rules) filled from ruled (inl (fault, refused, e)) j r there = absurd (cc)
  names-in_sets at (s ∷ sets) (asked ∷ rules) filled from ruled (inr (own, found, inl (fault, refused, e))) j r there = absurd (cc)
  names-in_sets at (s ∷ sets) (asked ∷ rules) filled from ruled (inr (own, found, inr (more, are, same))) j r there =
      ap (λ f. names (given_at f j)) (same_value filled (own ++ more) same)
      ∙ names-in_set at s.kind s.head s.members sets asked rules from.0 from.1 ruled.0 own more found j r there
      (λ m later. names-in_sets s.members.end sets rules more from.1 ruled.1 are m r later)

-- each record is given a field of each automatic name of its set that it lacks, and of no other name
pub names-given : (pieces : List Piece) (schema : Described) (records : List (Range ℕ)) (filled : List (List Numbered)) → IsSchema pieces (Ok schema) → AreRecords pieces records
    → AreFilledSets pieces records schema.sets schema.rules (Ok filled) → (j : ℕ) (r : Range ℕ) → slice_get records j ≡ Some r
    → map (λ one. one.name) (given_at filled j) ≡ lacking (automatic_at schema j) (names_of (elements_in pieces r))
names-given pieces schema records filled is are found j r there =
    let same : is.records ≡ records = one_list_of_records pieces is.records records is.are are in
    let ruled = subst (λ rs. AllZip (IsRuled pieces rs) schema.sets schema.rules) same is.rules in
    let place : 0 + j ≡ j = omega arith in
    names-in_sets pieces records 0 schema.sets schema.rules filled is.sets.places ruled found j r (ap (slice_get records) place ∙ there)
    ∙ ap (λ n. lacking (named_at schema.sets schema.rules n) (names_of (elements_in pieces r))) place

-- ---- a descriptor is given none

none_of : (types : List Named) (j : ℕ) (sets : List Set_) (rules : List Rules) → AllByRecursion (λ s. NameNothing types s.members) sets
    → (named_at sets rules j ≡ []) ⊎ (slice_get types j ≡ Some None)
none_of types j [] rules plain = inl refl
none_of types j (s ∷ sets) [] plain = inl refl
none_of types j (s ∷ sets) (asked ∷ rules) plain = elim (cases_Bool (is_some s.kind && holds_index j s.members)) [
  | inl holds ↦
      let both = and_parts (is_some s.kind) (holds_index j s.members) holds in
      let parts = and_parts (nat_le s.members.start j) (nat_lt j s.members.end) both.1 in
      inr (plain.0 j (leb-true s.members.start j parts.0) (ltb-true j s.members.end parts.1))
  | inr outside ↦ rw outside (none_of types j sets rules plain.1)
]

-- a record without a type, or one whose set gives nothing
pub plain_or_none : (pieces : List Piece) (schema : Described) (records : List (Range ℕ)) → IsSchema pieces (Ok schema) → AreRecords pieces records → (j : ℕ) (r : Range ℕ)
    → slice_get records j ≡ Some r → (automatic_at schema j ≡ []) ⊎ (type_of (elements_in pieces r) ≡ None)
plain_or_none pieces schema records is are j r there =
    let same : is.records ≡ records = one_list_of_records pieces is.records records is.are are in
    let plain : AllByRecursion (λ s. NameNothing (types_of pieces is.records) s.members) schema.sets =
    all_plain [] (types_of pieces is.records) schema.sets is.sets.places (sym is.sets.joined) in
    elim (none_of (types_of pieces records) j schema.sets schema.rules (subst (λ rs. AllByRecursion (λ s. NameNothing (types_of pieces rs) s.members) schema.sets) same plain)) [
      | inl none ↦ inl none
      | inr untyped ↦
          let named : slice_get (types_of pieces records) j ≡ Some (type_of (elements_in pieces r)) =
          slice_get-map (λ r. type_of (elements_in pieces r)) records j ∙ ap (λ o. option_map (λ r. type_of (elements_in pieces r)) o) there in
          let nothing : Option (List ℕ) = None in
          inr (some_same (type_of (elements_in pieces r)) nothing (sym named ∙ untyped))
    ]
