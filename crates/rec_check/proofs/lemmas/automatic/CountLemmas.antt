-- The greatest number of each name, field by field, and the counters that go on from it.
use Rattle.std.proofs.Common.{◌≡◌, ◌∙◌, inl, inr, ℕ, ℤ, ◌+◌, ◌<◌, true, false, ◌&&◌, ◌||◌, not, cond, List, [], ◌∷◌, ◌++◌, Option, Some, None, option_map, length, take, get_or, refl, ap, sym, subst}
use Rattle.std.proofs.Common.{arith, zero, suc, unwrap_or}
use Rattle.std.proofs.lemmas.Bool.{cases_Bool, or_cases, or_left, or_right}
use Rattle.std.proofs.lemmas.Iterator.Adapters.{option_map_id}
use Rattle.std.proofs.lemmas.List.{map_more, take_more, flat_map_more}
use Rattle.std.proofs.lemmas.List.Elements.{filter_map-append}
use Rattle.std.proofs.lemmas.List.Folds.{list_any-append}
use Rattle.std.proofs.lemmas.Option.{same_Some}
use Rattle.std.specs.Global.{Global}
use Rattle.std.specs.Prelude.{filter_map, IfOk, Result, Ok, Err, Contains, Vec, slice_get}
use Rattle.std.specs.List.{AllByRecursion}
use Rattle.std.specs.Str.{bytes_eq}
use Rattle.std.specs.declared.ops.Range.{Range}
use Rattle.regex.specs.Patterns.{Re}
use Rattle.rec_text.specs.declared.element.Element.{Element}
use Rattle.rec_text.specs.declared.fault.Fault.{Fault}
use Rattle.rec_text.specs.Elements.{Piece, name_of}
use Rattle.rec_text.specs.Places.{piece_of, pieces_of}
use Rattle.rec_text.specs.Records.{elements_in}
use Rattle.rec_text.specs.Values.{value_of}
use Rattle.rec_text.proofs.lemmas.ListLemmas.{same_bytes, bytes_eq-self, Contains-head, Contains-later}
use Rattle.rec_sex.specs.Integers.{int_of}
use Rattle.rec_sex.specs.Meaning.{values_of}
use Rattle.rec_check.specs.declared.automatic.counter.Counter.{Counter}
use Rattle.rec_check.specs.Automatic.{automatic_names, begins_special, may_count, readings}
use Rattle.rec_check.specs.Counters.{Counts, CountsFrom, HoldsGreatest, IsTopOf, IsCounterOf, IsKept, AreCounters, AreCountersAt, AreMembersAt, counter_names}
use Rattle.rec_check.specs.Counting.{greater, greatest_from, readings_in}
use Rattle.rec_check.specs.Rules.{Rules, field_type}
use Rattle.rec_check.specs.Schemas.{Described}
use Rattle.rec_check.specs.Types.{FieldType}
use Rattle.rec_check.specs.Violations.{members}
use Rattle.rec_text.specs.Bytes.{is_among}
use Rattle.rec_check.proofs.lemmas.automatic.CounterLemmas.{greatest_is, none_is, greatest_from-append, greatest_from-option, readings_in-named, readings_in-other}

-- ---- the greatest number of each name

one_then_more : (some more : List ℤ) (kept : Option (Option ℤ)) → option_map (λ so_far. greatest_from so_far more) (option_map (λ so_far. greatest_from so_far some) kept)
    ≡ option_map (λ so_far. greatest_from so_far (some ++ more)) kept
one_then_more some more None = refl
one_then_more some more (Some so_far) = ap Some (sym (greatest_from-append so_far some more))

module _ (old mid new : List ℕ → Option (Option ℤ)) (some more all : List ℕ → List ℤ) where
  pub Counts-then : ((name : List ℕ) → all name ≡ some name ++ more name) → Counts old mid some → Counts mid new more → Counts old new all
  Counts-then joined first next name =
      next name ∙ ap (option_map (λ so_far. greatest_from so_far (more name))) (first name) ∙ one_then_more (some name) (more name) (old name)
      ∙ ap (λ numbers. option_map (λ so_far. greatest_from so_far numbers) (old name)) (sym (joined name))

-- one field
module _ (old : List ℕ → Option (Option ℤ)) (piece : Piece) (own : List ℕ) (named : own ≡ name_of piece) where
  other_name : (name : List ℕ) → bytes_eq own name ≡ false → old name ≡ option_map (λ so_far. greatest_from so_far (readings_in name (piece ∷ []))) (old name)
  other_name name other =
      sym (ap (λ numbers. option_map (λ so_far. greatest_from so_far numbers) (old name)) (readings_in-other name piece [] (ap (λ n. bytes_eq n name) (sym named) ∙ other)) ∙ option_map_id (old name))

  pub field_uncounted : old own ≡ None → Counts old old (λ name. readings_in name (piece ∷ []))
  field_uncounted none name = elim (cases_Bool (bytes_eq own name)) [
    | inl same ↦
        let absent : old name ≡ None = ap old (sym (same_bytes own name same)) ∙ none in
        absent ∙ sym (ap (option_map (λ so_far. greatest_from so_far (readings_in name (piece ∷ [])))) absent)
    | inr other ↦ other_name name other
  ]

  pub field_counted : (new : List ℕ → Option (Option ℤ)) (so_far reading : Option ℤ) → old own ≡ Some so_far → reading ≡ int_of (value_of piece)
      → ((name : List ℕ) → new name ≡ cond (bytes_eq own name) (Some (greater so_far reading)) (old name)) → Counts old new (λ name. readings_in name (piece ∷ []))
  field_counted new so_far reading there is put name = elim (cases_Bool (bytes_eq own name)) [
    | inl same ↦
        let kept : old name ≡ Some so_far = ap old (sym (same_bytes own name same)) ∙ there in
        let numbers = readings_in-named name piece [] (ap (λ n. bytes_eq n name) (sym named) ∙ same) in
        put name ∙ ap (λ b. cond b (Some (greater so_far reading)) (old name)) same ∙ ap (λ r. Some (greater so_far r)) is ∙ ap Some (sym (greatest_from-option so_far (int_of (value_of piece)) []))
        ∙ ap (λ ns. Some (greatest_from so_far ns)) (sym numbers) ∙ sym (ap (option_map (λ s. greatest_from s (readings_in name (piece ∷ [])))) kept)
    | inr other ↦ put name ∙ ap (λ b. cond b (Some (greater so_far reading)) (old name)) other ∙ other_name name other
  ]

values_of-push : (name : List ℕ) (pieces : List Piece) (piece : Piece) → values_of name (pieces ++ piece ∷ []) ≡ values_of name pieces ++ values_of name (piece ∷ [])
values_of-push name [] piece = refl
values_of-push name (first ∷ pieces) piece = elim (cases_Bool (bytes_eq (name_of first) name)) [
  | inl named ↦ rw named (ap (λ l. value_of first ∷ l) (values_of-push name pieces piece))
  | inr other ↦ rw other (values_of-push name pieces piece)
]

-- one field more
pub readings_in-taken : (fields : List Element) (i : ℕ) (d : Element) → i < length fields → (name : List ℕ)
    → readings_in name (pieces_of (take (i + 1) fields)) ≡ readings_in name (pieces_of (take i fields)) ++ readings_in name (piece_of (get_or fields i d) ∷ [])
readings_in-taken fields i d within name =
    ap (readings_in name) (map_more piece_of fields i d within) ∙ ap (filter_map int_of) (values_of-push name (pieces_of (take i fields)) (piece_of (get_or fields i d)))
    ∙ filter_map-append int_of (values_of name (pieces_of (take i fields))) (values_of name (piece_of (get_or fields i d) ∷ []))

-- one record more
pub readings-taken : (pieces : List Piece) (records : List (Range ℕ)) (i : ℕ) (d : Range ℕ) (own : List Piece) → i < length records → own ≡ elements_in pieces (get_or records i d) → (name : List ℕ)
    → readings pieces (take (i + 1) records) name ≡ readings pieces (take i records) name ++ readings_in name own
readings-taken pieces records i d own within is name =
    ap (λ rs. readings pieces rs name) (take_more records i d within) ∙ sym (flat_map_more (λ own_range. readings_in name (elements_in pieces own_range)) [] (take i records) (get_or records i d))
    ∙ ap (λ fields. readings pieces (take i records) name ++ readings_in name fields) (sym is)

-- one name more that has no number
pub CountsFrom-more : (names : List (List ℕ)) (own : List ℕ) (old new : List ℕ → Option (Option ℤ)) → CountsFrom names old
    → ((name : List ℕ) → new name ≡ cond (bytes_eq own name) (Some None) (old name)) → CountsFrom (names ++ own ∷ []) new
CountsFrom-more names own old new so_far put name among = elim (cases_Bool (bytes_eq own name)) [
  | inl same ↦ put name ∙ ap (λ b. cond b (Some None) (old name)) same
  | inr other ↦ put name ∙ ap (λ b. cond b (Some None) (old name)) other ∙ so_far name (before name other (sym (list_any-append (bytes_eq name) names (own ∷ [])) ∙ among))
]
  where
    before : (value : List ℕ) → bytes_eq own value ≡ false → (is_among names value || (bytes_eq value own || false)) ≡ true → is_among names value ≡ true
    before value other either = elim (or_cases (is_among names value) (bytes_eq value own || false) either) [
      | inl there ↦ there
      | inr here ↦ absurd (elim (cases_Bool (bytes_eq value own)) [
        | inl same ↦ let clash : false ≡ true = sym other ∙ ap (bytes_eq own) (same_bytes value own same) ∙ bytes_eq-self own in cc
        | inr apart ↦ let clash : false ≡ true = (let e = here in rw apart at e) in cc
      ])
    ]

-- a name is the only one of its own
pub among_itself : (name : List ℕ) → is_among (name ∷ []) name ≡ true
among_itself name = or_left (bytes_eq name name) false (bytes_eq-self name)

-- ---- counters

IsTopOf-greatest : (numbers : List ℤ) (greatest : Option ℤ) → greatest_from None numbers ≡ greatest → IsTopOf greatest numbers
IsTopOf-greatest numbers None is = none_is numbers is
IsTopOf-greatest numbers (Some greatest) is = greatest_is numbers greatest is

-- ---- as they are made

IsKept-counter : (rules : Rules) (types : List ℕ → Option (FieldType Re)) (greatest : List ℕ → Option (Option ℤ)) (numbers : List ℤ) (counter : Counter)
    → ((name : List ℕ) → types name ≡ field_type rules name)
    → greatest counter.name.now ≡ Some (greatest_from None numbers) → IsKept types greatest counter → IsCounterOf rules numbers counter
IsKept-counter rules types greatest numbers counter typed held is = record {
  counts = is.counts ∙ ap (λ t. not (begins_special counter.name.now) && may_count t) (typed counter.name.now);
  greatest = IsTopOf-greatest numbers counter.greatest (sym (is.greatest_is ∙ ap (λ o. unwrap_or o None) held));
}

module _ (rules : Rules) (types : List ℕ → Option (FieldType Re)) (greatest : List ℕ → Option (Option ℤ)) (numbers : List ℕ → List ℤ) (typed : (name : List ℕ)
    → types name ≡ field_type rules name) where
  kept_counters : (names : List (List ℕ)) (counters : List Counter) → HoldsGreatest names greatest numbers → ((counter : Counter) → Contains counters counter → is_among names counter.name.now ≡ true)
      → AllByRecursion (IsKept types greatest) counters → AllByRecursion (λ counter. IsCounterOf rules (numbers counter.name.now) counter) counters
  kept_counters names [] held among kept = tt
  kept_counters names (counter ∷ counters) held among kept = (
    IsKept-counter rules types greatest (numbers counter.name.now) counter typed (held counter.name.now (among counter (Contains-head counter counters))) kept.0,
    kept_counters names counters held (λ other there. among other (Contains-later counter other counters there)) kept.1,
  )

  own_name : (counters : List Counter) (counter : Counter) → Contains counters counter → is_among (counter_names counters) counter.name.now ≡ true
  own_name [] counter (k, within, at) = absurd (omega arith)
  own_name (first ∷ counters) counter (zero, within, at) = or_left (bytes_eq counter.name.now first.name.now) (is_among (counter_names counters) counter.name.now)
      (ap (bytes_eq counter.name.now) (ap (λ (c : Counter). c.name.now) at) ∙ bytes_eq-self counter.name.now)
  own_name (first ∷ counters) counter (suc k, within, at) = or_right (bytes_eq counter.name.now first.name.now) (is_among (counter_names counters) counter.name.now)
      (own_name counters counter (k, omega arith, at))

  pub AreCounters-kept : (names : List (List ℕ)) (counters : List Counter) → names ≡ automatic_names rules → HoldsGreatest names greatest numbers → counter_names counters ≡ names
      → AllByRecursion (IsKept types greatest) counters → AreCounters rules numbers counters
  AreCounters-kept names counters named held own kept = record {
    names = own ∙ named;
    each = kept_counters names counters held (λ counter there. ap (λ ns. is_among ns counter.name.now) (sym own) ∙ own_name counters counter there) kept;
  }

-- those of the parts of a set are those of the set
pub counters_at : (pieces own : List Piece) (schema : Described) (place : ℕ) (rules : Rules) (records : List (Range ℕ)) (result : Result (Vec Counter Global) Fault) → own ≡ pieces
    → AreMembersAt pieces schema place records
    → slice_get schema.rules place ≡ Some rules → IfOk result (λ counters. AreCounters rules (readings own records) counters.items)
    → IfOk result (λ counters. AreCountersAt pieces schema place counters.items)
counters_at pieces own schema place rules records (Err fault) same members_are ruled is = tt
counters_at pieces own schema place rules records (Ok counters) same members_are ruled is = λ all s asked are is_set are_rules.
    let alike : rules ≡ asked = same_Some rules asked (sym ruled ∙ are_rules) in
    subst (λ r. AreCounters r (readings pieces (members all s)) counters.items) alike
    (subst (λ rs. AreCounters rules (readings pieces rs) counters.items) (members_are all s are is_set) (subst (λ p. AreCounters rules (readings p records) counters.items) same is))
