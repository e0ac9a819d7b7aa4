-- The sets of the records that name some types: they grow record by record, and there is one list of them.
use Rattle.std.proofs.Common.{◌≡◌, ◌∙◌, ℕ, ◌+◌, ◌-◌, ◌≤◌, true, List, [], ◌∷◌, ◌++◌, length, get_or, set, replicate, Option, Some, None, refl, ap, sym, subst, suc, zero, arith}
use Rattle.std.proofs.lemmas.Bool.{false≢true}
use Rattle.std.proofs.lemmas.List.{append_assoc, append-nil, length-append, length-replicate, replicate_more}
use Rattle.std.proofs.lemmas.List.Concat.{flat_map-append}
use Rattle.std.specs.List.{AllByRecursion, filter_map, flat_map, cons_option}
use Rattle.std.specs.Option.{is_some}
use Rattle.rec_check.specs.declared.set.Set_.{Set_}
use Rattle.rec_check.specs.Sets.{named_in, BeginsAt, AreFrom, IsUntypedFirst, AreSets}
use Rattle.rec_check.specs.proving.Steps.{record_types, with_member, with_record}

-- what a record names, if anything
abbrev pub Named : Type 0
Named = Option (List ℕ)

abbrev pub nothing : Named
nothing = None

-- a set of these parts
abbrev pub set_of : Named → Option ℕ → ℕ → ℕ → Set_
set_of record_type head start end = record { kind = record_type; head = head; members = record { start = start; end = end } }

-- ---- one record more

-- the set with one member more, up to this record
abbrev pub longer : Set_ → ℕ → Set_
longer s index = record s { members = record s.members { end = index + 1 } }

pub with_member-set : (sets : List Set_) (n index : ℕ) (last : Set_) → length sets ≡ suc n → last ≡ get_or sets n last → with_member sets index ≡ set sets n (longer last index)
with_member-set [] n index last size is = absurd (omega arith)
with_member-set (s ∷ []) zero index last size is = ap (λ l. longer l index ∷ []) (sym is)
with_member-set (s ∷ []) (suc n) index last size is = absurd (omega arith)
with_member-set (s ∷ next ∷ sets) zero index last size is = absurd (omega arith)
with_member-set (s ∷ next ∷ sets) (suc n) index last size is = ap (λ r. s ∷ r) (with_member-set (next ∷ sets) n index last (omega arith) is)

pub with_member-none : (sets : List Set_) (index : ℕ) → length sets ≤ 0 → sets ≡ with_member sets index
with_member-none [] index none = refl
with_member-none (s ∷ sets) index none = absurd (omega arith)

-- ---- where the sets end

abbrev pub AreTyped : List Set_ → Type 0
AreTyped sets = AllByRecursion (λ typed. is_some typed.kind ≡ true) sets

abbrev end_from : ℕ → List Set_ → ℕ
end_from at [] = at
end_from at (s ∷ sets) = end_from s.members.end sets

end_of_parts : (at : ℕ) (record_type : Named) (head : Option ℕ) (start end : ℕ) → BeginsAt at (set_of record_type head start end) → end ≡ at + length (named_in (set_of record_type head start end))
end_of_parts at None head start end begins = omega (arith, begins.0, begins.1.1, length-replicate (end - start) nothing)
end_of_parts at (Some record_type) head start end begins = omega (arith, begins.0, begins.1.1, length-replicate (end - start) nothing)

end_from-length : (at : ℕ) (sets : List Set_) → AreFrom at sets → end_from at sets ≡ at + length (flat_map named_in sets)
end_from-length at [] from = omega arith
end_from-length at (s ∷ sets) from =
    omega (arith, end_from-length s.members.end sets from.1, end_of_parts at s.kind s.head s.members.start s.members.end from.0, length-append (named_in s) (flat_map named_in sets))

-- ---- the sets grow

module _ (index : ℕ) where
  -- the last set takes one member more
  longer-named : (s : Set_) → s.members.start ≤ s.members.end → s.members.end ≡ index → named_in (longer s index) ≡ named_in s ++ nothing ∷ []
  longer-named s ordered ends =
      let named : List Named = elim s.kind [ None ↦ [] | Some record_type ↦ Some record_type ∷ [] ] in
      let count : index + 1 - s.members.start ≡ (s.members.end - s.members.start) + 1 = omega arith in
      ap (λ n. named ++ replicate n nothing) count ∙ ap (λ r. named ++ r) (sym (replicate_more (s.members.end - s.members.start) nothing))
      ∙ sym (append_assoc named (replicate (s.members.end - s.members.start) nothing) (nothing ∷ []))

  with_member-named : (at : ℕ) (s : Set_) (sets : List Set_) → AreFrom at (s ∷ sets) → end_from at (s ∷ sets) ≡ index
      → flat_map named_in (with_member (s ∷ sets) index) ≡ flat_map named_in (s ∷ sets) ++ nothing ∷ []
  with_member-named at s [] from ends =
      append-nil (named_in (longer s index)) ∙ longer-named s from.0.0 ends ∙ ap (λ n. n ++ nothing ∷ []) (sym (append-nil (named_in s)))
  with_member-named at s (next ∷ sets) from ends =
      ap (λ r. named_in s ++ r) (with_member-named s.members.end next sets from.1 ends) ∙ sym (append_assoc (named_in s) (flat_map named_in (next ∷ sets)) (nothing ∷ []))

  with_member-from : (at : ℕ) (s : Set_) (sets : List Set_) → AreFrom at (s ∷ sets) → end_from at (s ∷ sets) ≡ index → AreFrom at (with_member (s ∷ sets) index)
  with_member-from at s [] from ends = ((omega (arith, from.0.0), from.0.1), tt)
  with_member-from at s (next ∷ sets) from ends = (from.0, with_member-from s.members.end next sets from.1 ends)

  with_member-typed : (sets : List Set_) → AreTyped sets → AreTyped (with_member sets index)
  with_member-typed [] typed = tt
  with_member-typed (s ∷ []) typed = (typed.0, tt)
  with_member-typed (s ∷ next ∷ sets) typed = (typed.0, with_member-typed (next ∷ sets) typed.1)

  with_member-first : (sets : List Set_) → IsUntypedFirst sets → IsUntypedFirst (with_member sets index)
  with_member-first [] first = first
  with_member-first (s ∷ []) first = (first.0, tt)
  with_member-first (s ∷ next ∷ sets) first = (first.0, with_member-typed (next ∷ sets) first.1)

  -- a descriptor begins one set more
  module _ (record_type : List ℕ) where
    begun : Set_
    begun = set_of (Some record_type) (Some index) (index + 1) (index + 1)

    begun-named : named_in begun ≡ Some record_type ∷ []
    unfolding begun
    begun-named = let count : index + 1 - (index + 1) ≡ 0 = omega arith in ap (λ n. Some record_type ∷ replicate n nothing) count

    begun-from : (at : ℕ) (sets : List Set_) → AreFrom at sets → end_from at sets ≡ index → AreFrom at (sets ++ begun ∷ [])
    unfolding begun
    begun-from at [] from ends = ((omega arith, (ap Some (sym ends), omega arith)), tt)
    begun-from at (s ∷ sets) from ends = (from.0, begun-from s.members.end sets from.1 ends)

    begun-typed : (sets : List Set_) → AreTyped sets → AreTyped (sets ++ begun ∷ [])
    unfolding begun
    begun-typed [] typed = (refl, tt)
    begun-typed (s ∷ sets) typed = (typed.0, begun-typed sets typed.1)

    begun-first : (sets : List Set_) → IsUntypedFirst sets → IsUntypedFirst (sets ++ begun ∷ [])
    begun-first [] first = absurd first
    begun-first (s ∷ sets) first = (first.0, begun-typed sets first.1)

AreSets-with_member : (types : List Named) (sets : List Set_) (index : ℕ) → index ≡ length types → AreSets types sets → AreSets (types ++ nothing ∷ []) (with_member sets index)
AreSets-with_member types [] index size are = absurd are.untyped_first
AreSets-with_member types (s ∷ sets) index size are =
    let ends : end_from 0 (s ∷ sets) ≡ index = omega (arith, end_from-length 0 (s ∷ sets) are.places, ap length are.joined) in
    record {
      joined = with_member-named index 0 s sets are.places ends ∙ ap (λ ts. ts ++ nothing ∷ []) are.joined;
      untyped_first = with_member-first index (s ∷ sets) are.untyped_first;
      places = with_member-from index 0 s sets are.places ends;
    }

AreSets-begun : (types : List Named) (sets : List Set_) (index : ℕ) (record_type : List ℕ) → index ≡ length types → AreSets types sets
    → AreSets (types ++ Some record_type ∷ []) (sets ++ begun index record_type ∷ [])
AreSets-begun types sets index record_type size are =
    let ends : end_from 0 sets ≡ index = omega (arith, end_from-length 0 sets are.places, ap length are.joined) in
    record {
      joined = flat_map-append named_in sets (begun index record_type ∷ []) ∙ ap (λ r. flat_map named_in sets ++ r) (append-nil (named_in (begun index record_type)) ∙ begun-named index record_type)
          ∙ ap (λ ts. ts ++ Some record_type ∷ []) are.joined;
      untyped_first = begun-first index record_type sets are.untyped_first;
      places = begun-from index record_type 0 sets are.places ends;
    }

pub AreSets-with_record : (types : List Named) (sets : List Set_) (index : ℕ) (record_type : Named) → index ≡ length types → AreSets types sets
    → AreSets (types ++ record_type ∷ []) (with_record sets index record_type)
unfolding begun
AreSets-with_record types sets index None size are = AreSets-with_member types sets index size are
AreSets-with_record types sets index (Some record_type) size are = AreSets-begun types sets index record_type size are

-- the untyped set alone
pub AreSets-none : AreSets [] (set_of None None 0 0 ∷ [])
AreSets-none = record { joined = refl; untyped_first = (refl, tt); places = ((omega arith, (refl, refl)), tt) }

-- ---- the types of the sets are what the records name

cons_option-append : {X : Type 0} (o : Option X) (some more : List X) → cons_option o (some ++ more) ≡ cons_option o some ++ more
cons_option-append None some more = refl
cons_option-append (Some x) some more = refl

pub filter_map-append : {X Y : Type 0} (f : X → Option Y) (some more : List X) → filter_map f (some ++ more) ≡ filter_map f some ++ filter_map f more
filter_map-append f [] more = refl
filter_map-append f (x ∷ some) more = ap (cons_option (f x)) (filter_map-append f some more) ∙ cons_option-append (f x) (filter_map f some) (filter_map f more)

-- the types among what records name
abbrev pub types_among : List Named → List (List ℕ)
types_among types = filter_map (λ t. t) types

types_among-replicate : (n : ℕ) → types_among (replicate n nothing) ≡ []
types_among-replicate zero = refl
types_among-replicate (suc n) = types_among-replicate n

types_among-parts : (record_type : Named) (n : ℕ) → types_among ((elim record_type [ None ↦ [] | Some record_type ↦ Some record_type ∷ [] ]) ++ replicate n nothing) ≡ cons_option record_type []
types_among-parts None n = types_among-replicate n
types_among-parts (Some record_type) n = ap (λ r. record_type ∷ r) (types_among-replicate n)

record_types-named : (sets : List Set_) → record_types sets ≡ types_among (flat_map named_in sets)
record_types-named [] = refl
record_types-named (s ∷ sets) =
    ap (cons_option s.kind) (record_types-named sets) ∙ cons_option-append s.kind [] (types_among (flat_map named_in sets))
    ∙ ap (λ r. r ++ types_among (flat_map named_in sets)) (sym (types_among-parts s.kind (s.members.end - s.members.start)))
    ∙ sym (filter_map-append (λ t. t) (named_in s) (flat_map named_in sets))

pub record_types-AreSets : (types : List Named) (sets : List Set_) → AreSets types sets → record_types sets ≡ types_among types
record_types-AreSets types sets are = record_types-named sets ∙ ap types_among are.joined

-- ---- one list of sets

-- no record without a type comes first
abbrev BeginsTyped : List Named → Type 0
BeginsTyped [] = Unit {0}
BeginsTyped (None ∷ types) = ⊥
BeginsTyped (Some record_type ∷ types) = Unit {0}

same_count : (n m : ℕ) (some other : List Named) → BeginsTyped some → BeginsTyped other → replicate n nothing ++ some ≡ replicate m nothing ++ other → (n ≡ m) × (some ≡ other)
same_count zero zero some other h k e = (refl, e)
same_count zero (suc m) some other h k e = absurd (subst BeginsTyped e h)
same_count (suc n) zero some other h k e = absurd (subst BeginsTyped (sym e) k)
same_count (suc n) (suc m) some other h k e =
    let rest : replicate n nothing ++ some ≡ replicate m nothing ++ other = cc in
    let same = same_count n m some other h k rest in
    (ap suc same.0, same.1)

same_parts : (at : ℕ) (record_type other : Named) (head top : Option ℕ) (start end from to : ℕ) (some more : List Named) → is_some record_type ≡ is_some other
    → BeginsAt at (set_of record_type head start end) → BeginsAt at (set_of other top from to) → BeginsTyped some → BeginsTyped more
    → named_in (set_of record_type head start end) ++ some ≡ named_in (set_of other top from to) ++ more → (set_of record_type head start end ≡ set_of other top from to) × (some ≡ more)
same_parts at None None head top start end from to some more alike begins starts h k e =
    let same = same_count (end - start) (to - from) some more h k e in
    let heads : head ≡ top = begins.1.0 ∙ sym starts.1.0 in
    let start_is : start ≡ from = omega (arith, begins.1.1, starts.1.1) in
    let end_is : end ≡ to = omega (arith, begins.0, starts.0, same.0) in
    (ap (λ p. set_of None p start end) heads ∙ ap (λ n. set_of None top n end) start_is ∙ ap (set_of None top from) end_is, same.1)
same_parts at None (Some other) head top start end from to some more alike begins starts h k e = absurd (false≢true alike)
same_parts at (Some record_type) None head top start end from to some more alike begins starts h k e = absurd (false≢true (sym alike))
same_parts at (Some record_type) (Some other) head top start end from to some more alike begins starts h k e =
    let type_is : record_type ≡ other = cc in
    let rest : replicate (end - start) nothing ++ some ≡ replicate (to - from) nothing ++ more = cc in
    let same = same_count (end - start) (to - from) some more h k rest in
    let heads : head ≡ top = begins.1.0 ∙ sym starts.1.0 in
    let start_is : start ≡ from = omega (arith, begins.1.1, starts.1.1) in
    let end_is : end ≡ to = omega (arith, begins.0, starts.0, same.0) in (
      ap (λ t. set_of (Some t) head start end) type_is ∙ ap (λ p. set_of (Some other) p start end) heads ∙ ap (λ n. set_of (Some other) top n end) start_is
          ∙ ap (set_of (Some other) top from) end_is,
      same.1,
    )

same_first : (at : ℕ) (s t : Set_) (some more : List Named) → is_some s.kind ≡ is_some t.kind → BeginsAt at s → BeginsAt at t → BeginsTyped some → BeginsTyped more
    → named_in s ++ some ≡ named_in t ++ more → (s ≡ t) × (some ≡ more)
same_first at s t some more alike begins starts h k e =
    same_parts at s.kind t.kind s.head t.head s.members.start s.members.end t.members.start t.members.end some more alike begins starts h k e

BeginsTyped-parts : (record_type : Named) (rest more : List Named) → is_some record_type ≡ true
    → BeginsTyped (((elim record_type [ None ↦ [] | Some record_type ↦ Some record_type ∷ [] ]) ++ rest) ++ more)
BeginsTyped-parts None rest more typed = absurd (false≢true typed)
BeginsTyped-parts (Some record_type) rest more typed = tt

BeginsTyped-named : (sets : List Set_) → AreTyped sets → BeginsTyped (flat_map named_in sets)
BeginsTyped-named [] typed = tt
BeginsTyped-named (s ∷ sets) typed = BeginsTyped-parts s.kind (replicate (s.members.end - s.members.start) nothing) (flat_map named_in sets) typed.0

pub some_named : (record_type : Named) (rest more : List Named) → is_some record_type ≡ true → [] ≡ ((elim record_type [ None ↦ [] | Some record_type ↦ Some record_type ∷ [] ]) ++ rest) ++ more → ⊥
some_named None rest more typed e = false≢true typed
some_named (Some record_type) rest more typed e = cc

same_typed : (at : ℕ) (sets others : List Set_) → AreTyped sets → AreTyped others → AreFrom at sets → AreFrom at others → flat_map named_in sets ≡ flat_map named_in others → sets ≡ others
same_typed at [] [] typed typed_too from starts e = refl
same_typed at [] (t ∷ others) typed typed_too from starts e =
    absurd (some_named t.kind (replicate (t.members.end - t.members.start) nothing) (flat_map named_in others) typed_too.0 e)
same_typed at (s ∷ sets) [] typed typed_too from starts e =
    absurd (some_named s.kind (replicate (s.members.end - s.members.start) nothing) (flat_map named_in sets) typed.0 (sym e))
same_typed at (s ∷ sets) (t ∷ others) typed typed_too from starts e =
    let first = same_first at s t (flat_map named_in sets) (flat_map named_in others) (typed.0
    ∙ sym typed_too.0) from.0 starts.0 (BeginsTyped-named sets typed.1) (BeginsTyped-named others typed_too.1) e in
    let begins : AreFrom s.members.end others = subst (λ n. AreFrom n others) (sym (ap (λ u. u.members.end) first.0)) starts.1 in
    ap (λ u. u ∷ sets) first.0 ∙ ap (λ us. t ∷ us) (same_typed s.members.end sets others typed.1 typed_too.1 from.1 begins first.1)

pub one_list_of_sets : (types : List Named) (sets others : List Set_) → AreSets types sets → AreSets types others → sets ≡ others
one_list_of_sets types [] others are too = absurd are.untyped_first
one_list_of_sets types (s ∷ sets) [] are too = absurd too.untyped_first
one_list_of_sets types (s ∷ sets) (t ∷ others) are too =
    let alike : is_some s.kind ≡ is_some t.kind = ap is_some (are.untyped_first.0 ∙ sym too.untyped_first.0) in
    let first = same_first 0 s t (flat_map named_in sets) (flat_map named_in others) alike are.places.0 too.places.0
    (BeginsTyped-named sets are.untyped_first.1) (BeginsTyped-named others too.untyped_first.1) (are.joined ∙ sym too.joined) in
    let begins : AreFrom s.members.end others = subst (λ n. AreFrom n others) (sym (ap (λ u. u.members.end) first.0)) too.places.1 in
    ap (λ u. u ∷ sets) first.0 ∙ ap (λ us. t ∷ us) (same_typed s.members.end sets others are.untyped_first.1 too.untyped_first.1 are.places.1 begins first.1)
