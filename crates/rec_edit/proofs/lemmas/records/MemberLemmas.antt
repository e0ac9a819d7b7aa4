-- The records that a selection takes, their ranges, and the sets that they belong to.
use Rattle.std.proofs.Common.{◌≡◌, ◌∙◌, ℕ, zero, suc, ◌<◌, ◌≤◌, true, false, ◌==◌, List, [], ◌∷◌, ◌++◌, Option, Some, None, length, refl, ap, sym, subst, arith, slice_get, ◌+◌, take}
use Rattle.std.proofs.Common.{◌-◌, Ok, replicate, inl, inr}
use Rattle.std.specs.Prelude.{flat_map, Contains, find, nat_lt}
use Rattle.std.specs.List.{AllByRecursion, list_any}
use Rattle.std.specs.Option.{option_map_or, is_some}
use Rattle.std.specs.declared.ops.Range.{Range}
use Rattle.std.proofs.lemmas.Bool.{eqb-true, cases_Bool, false≢true, cond_both, ltb-false, ltb-true}
use Rattle.std.proofs.lemmas.List.{append_assoc, length-append, length-replicate, take_at}
use Rattle.std.proofs.Math.Seq.{take-append-add}
use Rattle.std.specs.Str.{bytes_eq}
use Rattle.rec_check.specs.Descriptors.{types_of}
use Rattle.rec_text.specs.Elements.{Piece}
use Rattle.rec_text.specs.Records.{AreRecords}
use Rattle.rec_check.specs.declared.set.Set_.{Set_}
use Rattle.rec_check.specs.Schemas.{Described, IsDescribed}
use Rattle.rec_check.specs.Sets.{is_of_type, named_in, AreFrom, BeginsAt}
use Rattle.rec_select.specs.Selection.{Filter, IsSelection}
use Rattle.rec_select.proofs.lemmas.selection.SelectionLemmas.{of_set_for}
use Rattle.rec_edit.specs.Insertions.{last_of}
use Rattle.rec_text.proofs.lemmas.ListLemmas.{Contains-head, Contains-later, same_bytes}
use Rattle.rec_text.proofs.lemmas.records.RecordLemmas.{one_list_of_records}

-- ---- members name no type

abbrev pub Named : Type 0
Named = Option (List ℕ)

abbrev pub nothing : Named
nothing = None

slice_get-following : {X : Type 0} (prefix xs : List X) (i j : ℕ) → i ≡ length prefix + j → slice_get (prefix ++ xs) i ≡ slice_get xs j
slice_get-following [] xs i j e = ap (slice_get xs) (let same : i ≡ j = omega (arith, e) in same)
slice_get-following (x ∷ prefix) xs zero j e = absurd (omega (arith, e))
slice_get-following (x ∷ prefix) xs (suc i) j e = slice_get-following prefix xs i j (omega (arith, e))

replicate_at : (n j : ℕ) (more : List Named) → j < n → slice_get (replicate n nothing ++ more) j ≡ Some nothing
replicate_at zero j more below = absurd (omega arith)
replicate_at (suc n) zero more below = refl
replicate_at (suc n) (suc j) more below = replicate_at n j more (omega arith)

-- the members of a set name nothing among these types
abbrev pub NameNothing : List Named → Range ℕ → Type 0
NameNothing types members = (i : ℕ) → members.start ≤ i → i < members.end → slice_get types i ≡ Some nothing

members_plain : (prefix more types : List Named) (record_type : Named) (head : Option ℕ) (members : Range ℕ) → BeginsAt (length prefix) (record { kind = record_type; head = head; members = members })
    → types ≡ prefix ++ (named_in (record { kind = record_type; head = head; members = members }) ++ more) → NameNothing types members
members_plain prefix more types None head members begins joined i low high =
    ap (λ ts. slice_get ts i) joined
    ∙ slice_get-following prefix (replicate (members.end - members.start) nothing ++ more) i (i - members.start) (omega (arith, begins.1.1))
    ∙ replicate_at (members.end - members.start) (i - members.start) more (omega arith)
members_plain prefix more types (Some record_type) head members begins joined i low high =
    ap (λ ts. slice_get ts i) joined
    ∙ slice_get-following prefix (Some record_type ∷ replicate (members.end - members.start) nothing ++ more) i (suc (i - members.start)) (omega (arith, begins.1.1))
    ∙ replicate_at (members.end - members.start) (i - members.start) more (omega arith)

pub end_of : (at : ℕ) (record_type : Named) (head : Option ℕ) (members : Range ℕ) → BeginsAt at (record { kind = record_type; head = head; members = members })
    → members.end ≡ at + length (named_in (record { kind = record_type; head = head; members = members }))
end_of at None head members begins = omega (arith, begins.0, begins.1.1, length-replicate (members.end - members.start) nothing)
end_of at (Some record_type) head members begins = omega (arith, begins.0, begins.1.1, length-replicate (members.end - members.start) nothing)

pub all_plain : (prefix types : List Named) (sets : List Set_) → AreFrom (length prefix) sets → types ≡ prefix ++ flat_map named_in sets → AllByRecursion (λ s. NameNothing types s.members) sets
all_plain prefix types [] from joined = tt
all_plain prefix types (s ∷ sets) from joined =
    let end : s.members.end ≡ length (prefix ++ named_in s) = end_of (length prefix) s.kind s.head s.members from.0 ∙ sym (length-append prefix (named_in s)) in (
      members_plain prefix (flat_map named_in sets) types s.kind s.head s.members from.0 joined,
      all_plain (prefix ++ named_in s) types sets (subst (λ n. AreFrom n sets) end from.1) (joined ∙ sym (append_assoc prefix (named_in s) (flat_map named_in sets))),
    )

-- ---- the selection

contained : (selected : List ℕ) (i : ℕ) → list_any (λ k. k == i) selected ≡ true → Contains selected i
contained [] i e = absurd (false≢true e)
contained (k ∷ selected) i e = elim (cases_Bool (k == i)) [
  | inl here ↦ subst (λ n. Contains (k ∷ selected) n) (eqb-true k i here) (Contains-head k selected)
  | inr other ↦ Contains-later k i selected (contained selected i (rw other at e))
]

-- the types at the indexes that are selected, from this one on
abbrev pub NoneNamed : List ℕ → ℕ → List (Option (List ℕ)) → Type 0
NoneNamed selected i [] = Unit {0}
NoneNamed selected i (named ∷ types) = (list_any (λ k. k == i) selected ≡ true → named ≡ None) × NoneNamed selected (i + 1) types

some_same : (a b : Named) → ◌≡◌ {A = Option Named} (Some a) (Some b) → a ≡ b
some_same a b e = cc

none_named : (selected : List ℕ) (i : ℕ) (types : List Named) → ((j : ℕ) → j < length types → list_any (λ k. k == i + j) selected ≡ true → slice_get types j ≡ Some nothing)
    → NoneNamed selected i types
none_named selected i [] plain = tt
none_named selected i (named ∷ types) plain =
    let here : i + 0 ≡ i = omega arith in (
      λ takes. some_same named nothing (plain zero (omega arith) (ap (λ n. list_any (λ k. k == n) selected) here ∙ takes)),
      none_named selected (i + 1) types (λ j below takes.
          let there : i + suc j ≡ i + 1 + j = omega arith in
          plain (suc j) (omega arith) (ap (λ n. list_any (λ k. k == n) selected) there ∙ takes)),
    )

pub selected_plain : (pieces : List Piece) (schema : Described) (record_type : Option (List ℕ)) (wanted : Filter) (selected : List ℕ) (records : List (Range ℕ)) → IsDescribed pieces schema
    → AreRecords pieces records
    → IsSelection pieces schema.sets record_type wanted (Ok selected) → NoneNamed selected 0 (types_of pieces records)
selected_plain pieces schema record_type wanted selected records is are (s, found, taken) =
    let same : is.records ≡ records = one_list_of_records pieces is.records records is.are are in
    let types : List Named = types_of pieces is.records in
    let plain : NameNothing types s.members =
    of_set_for (λ s. NameNothing types s.members) record_type schema.sets s (all_plain [] types schema.sets is.sets.places (sym is.sets.joined)) found in
    let all : NoneNamed selected 0 types = none_named selected 0 types (λ j below takes.
    let place : 0 + j ≡ j = omega arith in
    let member = (taken.members j).0 (contained selected j (ap (λ n. list_any (λ k. k == n) selected) (sym place) ∙ takes)) in
    plain j member.0 member.1) in
    subst (λ rs. NoneNamed selected 0 (types_of pieces rs)) same all

-- ---- the sets of a text by the types of its records: where each ends, and of which type a record after its last one is

-- the type that a record after these has, where it names none
abbrev pub last_type : Named → List Named → Named
last_type record_type [] = record_type
last_type record_type (named ∷ types) = last_type (elim named as (λ n. Named) [ None ↦ record_type | Some own ↦ Some own ]) types

last_type-append : (record_type : Named) (prefix following : List Named) → last_type record_type (prefix ++ following) ≡ last_type (last_type record_type prefix) following
last_type-append record_type [] following = refl
last_type-append record_type (named ∷ prefix) following = last_type-append (elim named as (λ n. Named) [ None ↦ record_type | Some own ↦ Some own ]) prefix following

last_type-members : (record_type : Named) (n : ℕ) → last_type record_type (replicate n nothing) ≡ record_type
last_type-members record_type zero = refl
last_type-members record_type (suc n) = last_type-members record_type n

-- A set among those of records of these types, the first of this index, after a record of a type: its records end within these,
-- its last one is its descriptor or a member, and a record after that one has the set's type.
pub record IsSetOf (record_type : Named) (at : ℕ) (first : Named) (types : List Named) (s : Set_) : Type 0 where
  pub low : at ≤ s.members.end
  pub high : s.members.end ≤ at + length types
  pub some : 1 ≤ s.members.end
  pub last : last_of s ≡ Some (s.members.end - 1)
  pub following : last_type first (take (s.members.end - at) types) ≡ record_type

abbrev pub set_with : Named → Option ℕ → Range ℕ → Set_
set_with record_type head members = record { kind = record_type; head = head; members = members }

-- the types up to the end of the set
own_types : (at : ℕ) (record_type : Named) (head : Option ℕ) (members : Range ℕ) (more : List Named) → BeginsAt at (set_with record_type head members)
    → take (members.end - at) (named_in (set_with record_type head members) ++ more) ≡ named_in (set_with record_type head members)
own_types at record_type head members more begins =
    let end = end_of at record_type head members begins in
    take_at (named_in (set_with record_type head members)) more (members.end - at) (omega (arith, end))

this_set : (record_type : List ℕ) (at : ℕ) (first own : Named) (head : Option ℕ) (members : Range ℕ) (more : List Named) → option_map_or (λ named. bytes_eq named record_type) own false ≡ true
    → BeginsAt at (set_with own head members) → IsSetOf (Some record_type) at first (named_in (set_with own head members) ++ more) (set_with own head members)
this_set record_type at first None head members more is begins = absurd (false≢true is)
this_set record_type at first (Some named) head members more is begins =
    let end = end_of at (Some named) head members begins in
    let both = length-append (named_in (set_with (Some named) head members)) more in
    record {
      low = omega (arith, begins.0, begins.1.1);
      high = omega (arith, end, both);
      some = omega (arith, begins.0, begins.1.1);
      last = cond_both (nat_lt members.start members.end) (Some (members.end - 1)) head (λ (o : Option ℕ). o ≡ Some (members.end - 1)) (λ _. refl)
          (λ none. begins.1.0 ∙ ap Some (let past : members.end ≤ members.start = ltb-false members.start members.end none in omega (arith, begins.0, begins.1.1, past)));
      following = ap (last_type first) (own_types at (Some named) head members more begins) ∙ last_type-members (Some named) (members.end - members.start) ∙ ap Some (same_bytes named record_type is);
    }

-- a set of the sets after this one
later_set : (record_type : Named) (at : ℕ) (first : Named) (t s : Set_) (more : List Named) → BeginsAt at t → IsSetOf record_type t.members.end (last_type first (named_in t)) more s
    → IsSetOf record_type at first (named_in t ++ more) s
later_set record_type at first t s more begins is =
    let end = end_of at t.kind t.head t.members begins in
    let rest : s.members.end - at ≡ length (named_in t) + (s.members.end - t.members.end) = omega (arith, end, is.low) in
    record {
      low = omega (arith, end, is.low);
      high = omega (arith, end, is.high, length-append (named_in t) more);
      some = is.some;
      last = is.last;
      following = ap (λ n. last_type first (take n (named_in t ++ more))) rest ∙ ap (last_type first) (take-append-add (named_in t) more (s.members.end - t.members.end))
          ∙ last_type-append first (named_in t) (take (s.members.end - t.members.end) more) ∙ is.following;
    }

-- the set of a type
pub set_found : (record_type : List ℕ) (at : ℕ) (first : Named) (sets : List Set_) (s : Set_) → AreFrom at sets → find (is_of_type record_type) sets ≡ Some s
    → IsSetOf (Some record_type) at first (flat_map named_in sets) s
set_found record_type at first [] s from found = let no : ⊥ = cc in absurd no
set_found record_type at first (t ∷ sets) s from found = elim (cases_Bool (is_of_type record_type t)) [
  | inl is ↦
      let here = rw is at found in
      let same : t ≡ s = cc in
      subst (IsSetOf (Some record_type) at first (named_in t ++ flat_map named_in sets)) same (this_set record_type at first t.kind t.head t.members (flat_map named_in sets) is from.0)
  | inr other ↦
      later_set (Some record_type) at first t s (flat_map named_in sets) from.0 (set_found record_type t.members.end (last_type first (named_in t)) sets s from.1 (rw other at found))
]

-- where a typed set begins
pub begins_typed : (at : ℕ) (own : Named) (head : Option ℕ) (members : Range ℕ) → is_some own ≡ true → BeginsAt at (set_with own head members) → (head ≡ Some at) × (1 ≤ members.end)
begins_typed at None head members typed begins = absurd (false≢true typed)
begins_typed at (Some record_type) head members typed begins = (begins.1.0, omega (arith, begins.0, begins.1.1))

-- ---- the untyped set

-- the untyped set begins at once; without members it ends there
pub record IsUntypedSet (types : List Named) (s : Set_) : Type 0 where
  pub has_some : nat_lt s.members.start s.members.end ≡ true → IsSetOf None 0 None types s
  pub has_none : nat_lt s.members.start s.members.end ≡ false → (s.members.end ≡ 0) × (last_of s ≡ None)
  pub following : last_type None (take s.members.end types) ≡ None

pub untyped_set : (own : Named) (head : Option ℕ) (members : Range ℕ) (more : List Named) → own ≡ None → BeginsAt 0 (set_with own head members)
    → IsUntypedSet (named_in (set_with own head members) ++ more) (set_with own head members)
untyped_set (Some named) head members more none begins = let no : ⊥ = cc in absurd no
untyped_set None head members more none begins =
    let end = end_of 0 None head members begins in
    let both = length-append (named_in (set_with None head members)) more in
    let own : last_type None (take (members.end - 0) (named_in (set_with None head members) ++ more)) ≡ None =
    ap (last_type None) (own_types 0 None head members more begins) ∙ last_type-members None (members.end - members.start) in
    let zeroth : members.end - 0 ≡ members.end = omega arith in
    record {
      has_some = λ some. record {
        low = omega arith;
        high = omega (arith, end, both);
        some = (let less : members.start < members.end = ltb-true members.start members.end some in omega (arith, less));
        last = rw some refl;
        following = own;
      };
      has_none = λ past. ((let high : members.end ≤ members.start = ltb-false members.start members.end past in omega (arith, begins.1.1, high)), rw past begins.1.0);
      following = ap (λ n. last_type None (take n (named_in (set_with None head members) ++ more))) (sym zeroth) ∙ own;
    }
