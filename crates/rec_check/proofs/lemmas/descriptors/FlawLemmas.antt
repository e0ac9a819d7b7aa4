-- The flaws of a text are those of its records.
use Rattle.std.proofs.Common.{◌≡◌, ◌∙◌, ℕ, ◌+◌, ◌-◌, ◌<◌, ◌≤◌, inl, inr, Bool, true, false, ◌&&◌, cond, List, [], ◌∷◌, ◌++◌, length, take, drop, Option, Some, None, leb, ltb, refl, ap, sym, subst}
use Rattle.std.proofs.Common.{arith}
use Rattle.std.proofs.lemmas.Bool.{cases_Bool, cases_lt, false≢true, lt-leb, le-leb, lt-ltb, le-ltb, and_left, and_right}
use Rattle.std.proofs.lemmas.List.{append-nil, drop_more, length-drop, length-take, length-take-le, take-append-drop}
use Rattle.std.proofs.lemmas.Option.{get_or_from_slice_get, slice_get_within}
use Rattle.std.specs.List.{AllByRecursion, find, filter_map, cons_option, slice_get}
use Rattle.std.specs.Option.{IfSome, is_some, option_and_then}
use Rattle.std.specs.declared.ops.Range.{Range}
use Rattle.rec_text.specs.Elements.{Piece}
use Rattle.rec_text.specs.Records.{IsRecord, AreRecords, AreAscending, LiesIn, elements_in}
use Rattle.rec_text.proofs.lemmas.ListLemmas.{AllByRecursion-following, slice_get-drop, slice_get-take}
use Rattle.rec_text.proofs.lemmas.records.RangeLemmas.{LiesIn-cases, LiesIn-here, LiesIn-low, LiesIn-there}
use Rattle.rec_check.specs.Descriptors.{DescriptorElement, Flaw, StandsAt, flaw_of, holds_index, type_of, types_named, types_of}
use Rattle.rec_check.specs.proving.Flaws.{ElementIsRead, FieldIsRead, descriptor_at, element_flaw, field_flaw, flaw_at, types_before}
use Rattle.rec_check.specs.Schemas.{FieldIsBuilt, IsReadElement}
use Rattle.rec_check.proofs.lemmas.SetLemmas.{types_among, filter_map-append}

-- ---- the record that holds an index

holds_within : (i : ℕ) (r : Range ℕ) → r.start ≤ i → i < r.end → holds_index i r ≡ true
holds_within i r low high = rw (le-leb r.start i low) (lt-ltb i r.end high)

held_within : (i : ℕ) (r : Range ℕ) → holds_index i r ≡ true → (r.start ≤ i) × (i < r.end)
held_within i r holds = elim (cases_lt i r.start) [
  | inl before ↦ absurd (false≢true (sym (and_left (leb r.start i) (ltb i r.end) (lt-leb r.start i before)) ∙ holds))
  | inr from ↦ elim (cases_lt i r.end) [
    | inl within ↦ (from, within)
    | inr past ↦ absurd (false≢true (sym (and_right (leb r.start i) (ltb i r.end) (le-ltb i r.end past)) ∙ holds))
  ]
]

find-outside : (test : Range ℕ → Bool) (i : ℕ) (records : List (Range ℕ)) → (LiesIn records i → ⊥) → find (λ r. holds_index i r && test r) records ≡ None
find-outside test i [] outside = refl
find-outside test i (r ∷ records) outside = elim (cases_Bool (holds_index i r)) [
  | inl holds ↦ let within = held_within i r holds in absurd (outside (LiesIn-here r records i within.0 within.1))
  | inr past ↦ ap (λ b. cond (b && test r) (Some r) (find (λ q. holds_index i q && test q) records)) past
      ∙ find-outside test i records (λ lies. outside (LiesIn-there r records i lies))
]

module _ (pieces : List Piece) (records : List (Range ℕ)) (i : ℕ) where
  abbrev is_descriptor : Range ℕ → Bool
  is_descriptor r = is_some (type_of (elements_in pieces r))

  abbrev flaw_in : Range ℕ → Option Flaw
  flaw_in r = field_flaw (types_before pieces records r.start) (elements_in pieces r) (i - r.start)

  abbrev IsReadIn : Range ℕ → Type 0
  IsReadIn r = FieldIsRead (types_before pieces records r.start) (elements_in pieces r) (i - r.start)

  pub flaw_at-outside : (LiesIn records i → ⊥) → flaw_at pieces records i ≡ None
  flaw_at-outside outside = ap (option_and_then flaw_in) (find-outside is_descriptor i records outside)

  pub read-outside : (LiesIn records i → ⊥) → ElementIsRead pieces records i
  read-outside outside = subst (λ o. IfSome o IsReadIn) (sym (find-outside is_descriptor i records outside)) tt

  no_flaw_in : (found : Option (Range ℕ)) → IfSome found IsReadIn → option_and_then flaw_in found ≡ None
  no_flaw_in None read = refl
  no_flaw_in (Some r) read = read.sound

  -- nothing is wrong with an element that is read
  pub flaw_at-read : ElementIsRead pieces records i → flaw_at pieces records i ≡ None
  flaw_at-read read = no_flaw_in (descriptor_at pieces records i) read

-- what is wrong with the element of this index among a record's own, if the record is a descriptor and anything is
abbrev pub own_flaw : List (List ℕ) → List Piece → ℕ → Option Flaw
own_flaw named own k = cond (is_some (type_of own)) (field_flaw named own k) None

-- ---- elements of a record and of the text

own_element : (pieces : List Piece) (fields : Range ℕ) (k : ℕ) → fields.start + k < fields.end → slice_get (elements_in pieces fields) k ≡ slice_get pieces (fields.start + k)
own_element pieces fields k within = slice_get-drop fields.start k (take fields.end pieces) ∙ slice_get-take fields.end (fields.start + k) pieces within

pub element_within : (pieces : List Piece) (fields : Range ℕ) (k : ℕ) (piece : Piece) → slice_get (elements_in pieces fields) k ≡ Some piece → fields.start + k < fields.end
element_within pieces fields k piece stands =
    let within : k < length (elements_in pieces fields) = slice_get_within (elements_in pieces fields) k piece stands in
    omega (arith, length-drop fields.start (take fields.end pieces), length-take fields.end pieces)

-- ---- records before and after one

-- none is empty
abbrev AreSome : List (Range ℕ) → Type 0
AreSome records = AllByRecursion (λ r. r.start < r.end) records

AreSome-records : (pieces : List Piece) (records : List (Range ℕ)) → AllByRecursion (IsRecord pieces) records → AreSome records
AreSome-records pieces [] each = tt
AreSome-records pieces (r ∷ records) each = (each.0.some, AreSome-records pieces records each.1)

least-le : (least : ℕ) (done : List (Range ℕ)) (fields : Range ℕ) (rest : List (Range ℕ)) → AreAscending least (done ++ fields ∷ rest) → AreSome (done ++ fields ∷ rest) → least ≤ fields.start
least-le least [] fields rest ascending some = ascending.0
least-le least (r ∷ done) fields rest ascending some = omega (arith, ascending.0, some.0, least-le r.end done fields rest ascending.1 some.1)

ascending_rest : (least : ℕ) (done : List (Range ℕ)) (fields : Range ℕ) (rest : List (Range ℕ)) → AreAscending least (done ++ fields ∷ rest) → AreAscending fields.end rest
ascending_rest least [] fields rest ascending = ascending.1
ascending_rest least (r ∷ done) fields rest ascending = ascending_rest r.end done fields rest ascending.1

find-own : (test : Range ℕ → Bool) (i least : ℕ) (done : List (Range ℕ)) (fields : Range ℕ) (rest : List (Range ℕ)) → AreAscending least (done ++ fields ∷ rest) → AreSome (done ++ fields ∷ rest)
    → fields.start ≤ i → i < fields.end → find (λ r. holds_index i r && test r) (done ++ fields ∷ rest) ≡ cond (test fields) (Some fields) None
find-own test i least [] fields rest ascending some low high =
    ap (λ b. cond (b && test fields) (Some fields) (find (λ r. holds_index i r && test r) rest)) (holds_within i fields low high)
    ∙ ap (cond (test fields) (Some fields)) (find-outside test i rest (λ lies. omega (arith, LiesIn-low fields.end rest i some.1 ascending.1 lies)))
find-own test i least (r ∷ done) fields rest ascending some low high =
    let ended : r.end ≤ i = omega (arith, least-le r.end done fields rest ascending.1 some.1) in
    ap (λ b. cond (b && test r) (Some r) (find (λ q. holds_index i q && test q) (done ++ fields ∷ rest))) (and_right (leb r.start i) (ltb i r.end) (le-ltb i r.end ended))
    ∙ find-own test i r.end done fields rest ascending.1 some.1 low high

-- a value that is there under a condition, and what follows from it
then-cond : {X Y : Type 0} (b : Bool) (x : X) (f : X → Option Y) → option_and_then f (cond b (Some x) None) ≡ cond b (f x) None
then-cond true x f = refl
then-cond false x f = refl

IfSome-cond : {X : Type 0} (b : Bool) (x : X) (P : X → Type 0) → (b ≡ true → P x) → IfSome (cond b (Some x) None) P
IfSome-cond true x P holds = holds refl
IfSome-cond false x P holds = tt

module _ (pieces : List Piece) (i : ℕ) where
  -- the type of a record that ends before the index
  abbrev ended_type : Range ℕ → Option (List ℕ)
  ended_type r = cond (leb r.end i) (type_of (elements_in pieces r)) None

  filter_map-before : (least : ℕ) (done : List (Range ℕ)) (fields : Range ℕ) (rest : List (Range ℕ)) → AreAscending least (done ++ fields ∷ rest) → AreSome (done ++ fields ∷ rest)
      → fields.start ≤ i → filter_map ended_type done ≡ types_among (types_of pieces done)
  filter_map-before least [] fields rest ascending some le = refl
  filter_map-before least (r ∷ done) fields rest ascending some le =
      let ended : r.end ≤ i = omega (arith, least-le r.end done fields rest ascending.1 some.1) in
      ap (λ b. cons_option (cond b (type_of (elements_in pieces r)) None) (filter_map ended_type done)) (le-leb r.end i ended)
      ∙ ap (cons_option (type_of (elements_in pieces r))) (filter_map-before r.end done fields rest ascending.1 some.1 le)

  filter_map-following : (least : ℕ) (rest : List (Range ℕ)) → AreAscending least rest → AreSome rest → i < least → filter_map ended_type rest ≡ []
  filter_map-following least [] ascending some lt = refl
  filter_map-following least (r ∷ rest) ascending some lt =
      ap (λ b. cons_option (cond b (type_of (elements_in pieces r)) None) (filter_map ended_type rest)) (lt-leb r.end i (omega (arith, ascending.0, some.0)))
      ∙ filter_map-following r.end rest ascending.1 some.1 (omega (arith, ascending.0, some.0))

pub types_named-among : (pieces : List Piece) (records : List (Range ℕ)) → types_among (types_of pieces records) ≡ types_named pieces records
types_named-among pieces [] = refl
types_named-among pieces (r ∷ records) = ap (cons_option (type_of (elements_in pieces r))) (types_named-among pieces records)

-- a list at one of its elements
cut_at : {X : Type 0} (xs : List X) (k : ℕ) (x : X) → slice_get xs k ≡ Some x → xs ≡ take k xs ++ x ∷ drop (k + 1) xs
cut_at xs k x here =
    let within : k < length xs = slice_get_within xs k x here in
    sym (take-append-drop k xs) ∙ ap (λ l. take k xs ++ l) (drop_more xs k x within ∙ ap (λ y. y ∷ drop (k + 1) xs) (get_or_from_slice_get xs k x x here))

pub slice_get-seam : {X : Type 0} (before : List X) (x : X) (following : List X) → slice_get (before ++ x ∷ following) (length before) ≡ Some x
slice_get-seam [] x following = refl
slice_get-seam (y ∷ before) x following = slice_get-seam before x following

-- ---- the flaws of a record, of which some records stand before and others after

module _ (pieces : List Piece) (done : List (Range ℕ)) (fields : Range ℕ) (rest : List (Range ℕ)) (are : AreRecords pieces (done ++ fields ∷ rest)) where
  abbrev all : List (Range ℕ)
  all = done ++ fields ∷ rest

  -- the types that are named before it, and its own elements
  abbrev pub named : List (List ℕ)
  named = types_among (types_of pieces done)

  abbrev pub own : List Piece
  own = elements_in pieces fields

  some : AreSome all
  some = AreSome-records pieces all are.each

  some_left : AreSome (fields ∷ rest)
  some_left = AllByRecursion-following (λ r. r.start < r.end) done (fields ∷ rest) some

  types_before-own : types_before pieces all fields.start ≡ named
  types_before-own =
      filter_map-append (ended_type pieces fields.start) done (fields ∷ rest)
      ∙ ap (λ ts. ts ++ filter_map (ended_type pieces fields.start) (fields ∷ rest)) (filter_map-before pieces fields.start 0 done fields rest are.ascending some (omega arith))
      ∙ ap (λ b. named ++ cons_option (cond b (type_of own) None) (filter_map (ended_type pieces fields.start) rest)) (lt-leb fields.end fields.start some_left.0)
      ∙ ap (λ ts. named ++ ts) (filter_map-following pieces fields.start fields.end rest (ascending_rest 0 done fields rest are.ascending) some_left.1 some_left.0)
      ∙ append-nil named

  descriptor_at-own : (i : ℕ) → fields.start ≤ i → i < fields.end → descriptor_at pieces all i ≡ cond (is_some (type_of own)) (Some fields) None
  descriptor_at-own i low high = find-own (is_descriptor pieces all i) i 0 done fields rest are.ascending some low high

  pub flaw_at-own : (i : ℕ) → fields.start ≤ i → i < fields.end → flaw_at pieces all i ≡ own_flaw named own (i - fields.start)
  flaw_at-own i low high =
      ap (option_and_then (flaw_in pieces all i)) (descriptor_at-own i low high) ∙ then-cond (is_some (type_of own)) fields (flaw_in pieces all i)
      ∙ ap (λ ts. own_flaw ts own (i - fields.start)) types_before-own

  read-own : (i : ℕ) → fields.start ≤ i → i < fields.end → (is_some (type_of own) ≡ true → FieldIsRead named own (i - fields.start)) → ElementIsRead pieces all i
  read-own i low high read =
      subst (λ o. IfSome o (IsReadIn pieces all i)) (sym (descriptor_at-own i low high))
      (IfSome-cond (is_some (type_of own)) fields (IsReadIn pieces all i) (λ is. subst (λ ts. FieldIsRead ts own (i - fields.start)) (sym types_before-own) (read is)))

  -- an element of a descriptor
  module _ (descriptor : is_some (type_of own) ≡ true) (k : ℕ) (piece : Piece) (here : slice_get own k ≡ Some piece) where
    -- with what stands before it
    abbrev pub own_descriptor_element : DescriptorElement
    own_descriptor_element = record { named = named; before = take k own; piece = piece }

    within : fields.start + k < fields.end
    within = element_within pieces fields k piece here

    back : fields.start + k - fields.start ≡ k
    back = omega arith

    descriptor_at-field : descriptor_at pieces all (fields.start + k) ≡ Some fields
    descriptor_at-field = descriptor_at-own (fields.start + k) (omega arith) within ∙ ap (λ b. cond b (Some fields) None) descriptor

    pub field_flaw-here : field_flaw named own k ≡ flaw_of own_descriptor_element
    field_flaw-here = ap (option_and_then (element_flaw named (take k own))) here

    pub flaw_at-field : flaw_at pieces all (fields.start + k) ≡ flaw_of own_descriptor_element
    flaw_at-field =
        flaw_at-own (fields.start + k) (omega arith) within ∙ ap (own_flaw named own) back ∙ ap (λ b. cond b (field_flaw named own k) None) descriptor
        ∙ field_flaw-here

    pub read-field : ElementIsRead pieces all (fields.start + k) → IsReadElement own_descriptor_element
    read-field read =
        let is_read : IsReadIn pieces all (fields.start + k) fields = subst (λ o. IfSome o (IsReadIn pieces all (fields.start + k))) descriptor_at-field read in
        let field_is_read : FieldIsRead named own k =
        subst (λ ts. FieldIsRead ts own k) types_before-own (subst (λ j. FieldIsRead (types_before pieces all fields.start) own j) back is_read) in
        record { sound = sym field_flaw-here ∙ field_is_read.sound; built = subst (λ o. IfSome o FieldIsBuilt) here field_is_read.built }

    pub stands-field : StandsAt pieces all (fields.start + k) own_descriptor_element
    stands-field = record {
      earlier = done;
      own_range = fields;
      later = rest;
      following = drop (k + 1) own;
      cut = refl;
      named = types_named-among pieces done;
      own = cut_at own k piece here;
      is_descriptor = descriptor;
      place = ap (λ n. fields.start + n) (sym (length-take-le k own (let less = slice_get_within own k piece here in omega arith)));
    }

  module _ (before : (i : ℕ) → (LiesIn (fields ∷ rest) i → ⊥) → ElementIsRead pieces all i) where
    pub read-following : (is_some (type_of own) ≡ true → (k : ℕ) → FieldIsRead named own k) → (i : ℕ) → (LiesIn rest i → ⊥) → ElementIsRead pieces all i
    read-following read i outside = elim (cases_lt i fields.start) [
      | inl early ↦ before i (λ lies. elim (LiesIn-cases fields rest i lies) [ inl here ↦ absurd (omega (arith, here.0)) | inr there ↦ outside there ])
      | inr from ↦
          elim (cases_lt i fields.end) [
            | inl within ↦ read-own i from within (λ is. read is (i - fields.start))
            | inr late ↦ before i (λ lies. elim (LiesIn-cases fields rest i lies) [ inl here ↦ absurd (omega (arith, here.1)) | inr there ↦ outside there ])
          ]
    ]

    pub read-up_to : (k : ℕ) → fields.start + k ≤ fields.end → ((j : ℕ) → j < k → FieldIsRead named own j) → (i : ℕ) → i < fields.start + k → ElementIsRead pieces all i
    read-up_to k within read i lt = elim (cases_lt i fields.start) [
      | inl early ↦
          let ascending : AreAscending fields.start (fields ∷ rest) = (omega arith, ascending_rest 0 done fields rest are.ascending) in
          before i (λ lies. absurd (omega (arith, LiesIn-low fields.start (fields ∷ rest) i some_left ascending lies)))
      | inr from ↦ read-own i from (omega arith) (λ is. read (i - fields.start) (omega arith))
    ]
