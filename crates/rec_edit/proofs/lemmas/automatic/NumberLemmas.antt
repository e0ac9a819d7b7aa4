-- Counters that give their next numbers one after another, and the automatic fields that a new record lacks.
use Rattle.std.proofs.Common.{◌≡◌, ◌∙◌, inl, inr, ℕ, zero, suc, ℤ, ◌+◌, ◌<◌, ◌≤◌, Bool, true, false, ◌||◌, not, cond, List, [], ◌∷◌, ◌++◌, length, take, drop, get_or, set, map, filter, Result, Ok}
use Rattle.std.proofs.Common.{Err, refl, ap, sym, subst, arith, append_assoc, append-nil, slice_get, Some}
use Rattle.std.proofs.lemmas.Bool.{cases_Bool}
use Rattle.std.proofs.lemmas.List.{drop_more, map-append, map_more, take_more, take_more_set, get_or-map, length-map, drop_all, take_all, take-map, drop-set-lt}
use Rattle.std.proofs.lemmas.List.Elements.{filter-append}
use Rattle.std.specs.List.{AllByRecursion}
use Rattle.std.specs.Borrow.{Bor}
use Rattle.std.specs.Str.{bytes_eq}
use Rattle.std.proofs.Math.Bool.{or-false}
use Rattle.std.proofs.lemmas.List.Folds.{list_any-append}
use Rattle.std.proofs.lemmas.Slice.Zip.{AllZip-long}
use Rattle.std.specs.Global.{Global}
use Rattle.std.specs.Option.{option_map_or}
use Rattle.std.specs.Prelude.{IfOk, IfErr, Vec}
use Rattle.std.specs.declared.ops.Range.{Range}
use Rattle.rec_text.specs.declared.element.Element.{Element}
use Rattle.rec_text.specs.declared.fault.Fault.{Fault}
use Rattle.rec_text.specs.Elements.{name_of, Piece}
use Rattle.rec_text.specs.Faults.{IsMemoryOr}
use Rattle.rec_text.specs.Places.{piece_of, pieces_of}
use Rattle.rec_text.specs.Records.{is_field_piece, AreRecords}
use Rattle.rec_check.specs.Violations.{names_of, members}
use Rattle.rec_edit.specs.Task.{Pair}
use Rattle.rec_check.specs.declared.automatic.counter.Counter.{Counter}
use Rattle.rec_check.specs.Automatic.{automatic_names, IsNext, IsAutomatic, readings}
use Rattle.rec_check.specs.Counters.{counter_names, IsCounterOf}
use Rattle.rec_check.specs.Rules.{Rules}
use Rattle.rec_check.specs.Words.{distinct}
use Rattle.rec_text.specs.Bytes.{is_among}
use Rattle.rec_edit.specs.Automatic.{lacking, numbers_in, AreNumbered}
use Rattle.rec_edit.specs.proving.Filling.{before, with_given, IsGiven, numbered, AreLacking, IsRefused}
use Rattle.rec_edit.specs.Insertions.{Numbered}
use Rattle.rec_check.specs.declared.set.Set_.{Set_}
use Rattle.rec_check.specs.Schemas.{Described, IsDescribed, IsRuled}
use Rattle.rec_edit.specs.declared.automatic.numbered.NumberedField.{NumberedField}
use Rattle.rec_sex.proofs.lemmas.meaning.PatternLemmas.{map-set_same}
use Rattle.rec_check.proofs.lemmas.checks.NameLemmas.{names_of-push}
use Rattle.rec_text.proofs.lemmas.ListLemmas.{same_bytes, bytes_eq-self, AllByRecursion-push, bytes_eq-sym}
use Rattle.rec_text.proofs.lemmas.FaultLemmas.{memory_or_weaker}

-- ---- counters that give their next numbers one after another

-- ---- names each of which stands once

abbrev AreApart : List (List ℕ) → Type 0
AreApart [] = Unit {0}
AreApart (name ∷ names) = (is_among names name ≡ false) × AreApart names

none_left : (p : List ℕ → Bool) (names : List (List ℕ)) (name : List ℕ) → is_among names name ≡ false → is_among (filter p names) name ≡ false
none_left p [] name none = refl
none_left p (first ∷ names) name none = elim (cases_Bool (bytes_eq name first)) [
  | inl same ↦ absurd (let clash : true ≡ false = (let e = none in rw same at e) in cc)
  | inr other ↦ elim (cases_Bool (p first)) [
    | inl passes ↦ rw (passes, other) (none_left p names name (let e = none in rw other at e))
    | inr fails ↦ rw fails (none_left p names name (let e = none in rw other at e))
  ]
]

AreApart-filter : (p : List ℕ → Bool) (names : List (List ℕ)) → AreApart names → AreApart (filter p names)
AreApart-filter p [] apart = tt
AreApart-filter p (name ∷ names) apart = elim (cases_Bool (p name)) [
  | inl passes ↦ rw passes (none_left p names name apart.0, AreApart-filter p names apart.1)
  | inr fails ↦ rw fails (AreApart-filter p names apart.1)
]

without_name : (name : List ℕ) (names : List (List ℕ)) → is_among (filter (λ other. not (bytes_eq name other)) names) name ≡ false
without_name name [] = refl
without_name name (first ∷ names) = elim (cases_Bool (bytes_eq name first)) [
  | inl same ↦ rw same (without_name name names)
  | inr other ↦ rw (other, other) (without_name name names)
]

AreApart-distinct : (names : List (List ℕ)) → AreApart (distinct names)
AreApart-distinct [] = tt
AreApart-distinct (name ∷ names) = (without_name name (distinct names), AreApart-filter (λ other. not (bytes_eq name other)) (distinct names) (AreApart-distinct names))

AreApart-later : (names : List (List ℕ)) (i : ℕ) (d : List ℕ) → AreApart names → i < length names → is_among (drop (suc i) names) (get_or names i d) ≡ false
AreApart-later [] i d apart within = absurd (omega arith)
AreApart-later (name ∷ names) zero d apart within = apart.0
AreApart-later (name ∷ names) (suc i) d apart within = AreApart-later names i d apart.1 (omega arith)

other_there : (names : List (List ℕ)) (i : ℕ) (d name : List ℕ) → is_among names name ≡ false → i < length names → bytes_eq (get_or names i d) name ≡ false
other_there [] i d name none within = absurd (omega arith)
other_there (first ∷ names) zero d name none within = elim (cases_Bool (bytes_eq name first)) [
  | inl same ↦ absurd (let clash : true ≡ false = (let e = none in rw same at e) in cc)
  | inr other ↦ bytes_eq-sym first name ∙ other
]
other_there (first ∷ names) (suc i) d name none within = elim (cases_Bool (bytes_eq name first)) [
  | inl same ↦ absurd (let clash : true ≡ false = (let e = none in rw same at e) in cc)
  | inr other ↦ other_there names i d name (let e = none in rw other at e) (omega arith)
]

AreApart-earlier : (names : List (List ℕ)) (i : ℕ) (d : List ℕ) → AreApart names → i < length names → is_among (take i names) (get_or names i d) ≡ false
AreApart-earlier [] i d apart within = absurd (omega arith)
AreApart-earlier (name ∷ names) zero d apart within = refl
AreApart-earlier (name ∷ names) (suc i) d apart within =
    let other : bytes_eq (get_or names i d) name ≡ false = other_there names i d name apart.0 (omega arith) in
    rw other (AreApart-earlier names i d apart.1 (omega arith))

-- ---- the names that a record has

is_among-push : (names : List (List ℕ)) (one value : List ℕ) → is_among (names ++ one ∷ []) value ≡ (is_among names value || bytes_eq value one)
is_among-push names one value = list_any-append (bytes_eq value) names (one ∷ []) ∙ ap (λ b. is_among names value || b) (or-false (bytes_eq value one))

-- one pair more
pub pair_named : (pairs : List Pair) (i : ℕ) (d : Pair) (name value : List ℕ) (so_far new : Bool) → i < length pairs → name ≡ (get_or pairs i d).name
    → so_far ≡ is_among (map (λ pair. pair.name) (take i pairs)) value
    → new ≡ (so_far || bytes_eq value name) → new ≡ is_among (map (λ pair. pair.name) (take (i + 1) pairs)) value
pair_named pairs i d name value so_far new within is reached put =
    put ∙ ap (λ b. b || bytes_eq value name) reached ∙ ap (λ n. is_among (map (λ (pair : Pair). pair.name) (take i pairs)) value || bytes_eq value n) is
    ∙ sym (ap (λ l. is_among l value) (map_more (λ (pair : Pair). pair.name) pairs i d within) ∙ is_among-push (map (λ (pair : Pair). pair.name) (take i pairs)) (get_or pairs i d).name value)

-- one element more: a field, or none
module _ (fields : List Element) (i : ℕ) (d : Element) (value : List ℕ) (so_far : Bool) (within : i < length fields) (reached : so_far ≡ is_among (names_of (pieces_of (take i fields))) value) where
  names_more : (b : Bool) → is_field_piece (piece_of (get_or fields i d)) ≡ b
      → names_of (pieces_of (take (i + 1) fields)) ≡ names_of (pieces_of (take i fields)) ++ cond b (name_of (piece_of (get_or fields i d)) ∷ []) []
  names_more b is =
      ap names_of (map_more piece_of fields i d within) ∙ names_of-push (pieces_of (take i fields)) (piece_of (get_or fields i d))
      ∙ ap (λ t. names_of (pieces_of (take i fields)) ++ cond t (name_of (piece_of (get_or fields i d)) ∷ []) []) is

  pub field_named : (name : List ℕ) (new : Bool) → is_field_piece (piece_of (get_or fields i d)) ≡ true → name ≡ name_of (piece_of (get_or fields i d)) → new ≡ (so_far || bytes_eq value name)
      → new ≡ is_among (names_of (pieces_of (take (i + 1) fields))) value
  field_named name new field is put =
      put ∙ ap (λ b. b || bytes_eq value name) reached ∙ ap (λ n. is_among (names_of (pieces_of (take i fields))) value || bytes_eq value n) is
      ∙ sym (ap (λ l. is_among l value) (names_more true field) ∙ is_among-push (names_of (pieces_of (take i fields))) (name_of (piece_of (get_or fields i d))) value)

  pub no_field_named : is_field_piece (piece_of (get_or fields i d)) ≡ false → so_far ≡ is_among (names_of (pieces_of (take (i + 1) fields))) value
  no_field_named none = reached ∙ sym (ap (λ l. is_among l value) (names_more false none ∙ append-nil (names_of (pieces_of (take i fields)))))

-- ---- numbers that are given

numbers_in-push : (given : List Numbered) (one : Numbered) (name : List ℕ) → numbers_in (given ++ one ∷ []) name ≡ numbers_in given name ++ cond (bytes_eq one.name name) (one.number ∷ []) []
numbers_in-push given one name =
    ap (map (λ (n : Numbered). n.number)) (filter-append (λ n. bytes_eq n.name name) given (one ∷ []))
    ∙ map-append (λ (n : Numbered). n.number) (filter (λ n. bytes_eq n.name name) given) (filter (λ n. bytes_eq n.name name) (one ∷ []))
    ∙ ap (λ l. numbers_in given name ++ l) (elim (cases_Bool (bytes_eq one.name name)) [ inl same ↦ rw same refl | inr other ↦ rw other refl ])

numbers_in-other : (given : List Numbered) (one : Numbered) (name : List ℕ) → bytes_eq one.name name ≡ false → numbers_in (given ++ one ∷ []) name ≡ numbers_in given name
numbers_in-other given one name other = numbers_in-push given one name ∙ ap (λ b. numbers_in given name ++ cond b (one.number ∷ []) []) other ∙ append-nil (numbers_in given name)

numbers_in-own : (given : List Numbered) (one : Numbered) (name : List ℕ) → bytes_eq one.name name ≡ true → numbers_in given name ≡ [] → numbers_in (given ++ one ∷ []) name ≡ one.number ∷ []
numbers_in-own given one name same none = numbers_in-push given one name ∙ ap (λ b. numbers_in given name ++ cond b (one.number ∷ []) []) same ∙ ap (λ l. l ++ one.number ∷ []) none

pub before-before : {X : Type 0} (some more : List X) (answer : Result (List X) Fault) → before some (before more answer) ≡ before (some ++ more) answer
before-before some more (Ok rest) = ap Ok (sym (append_assoc some more rest))
before-before some more (Err fault) = refl

pub before-nil : {X : Type 0} (answer : Result (List X) Fault) → before [] answer ≡ answer
before-nil (Ok more) = refl
before-nil (Err fault) = refl

-- one name more
AreNumbered-more : (next : List ℕ → Result ℤ Fault → Type 0) (name : List ℕ) (names : List (List ℕ)) (number : ℤ) (answer : Result (List Numbered) Fault) → next name (Ok number)
    → AreNumbered next names answer
    → AreNumbered next (name ∷ names) (before (record { name = name; number = number } ∷ []) answer)
AreNumbered-more next name names number (Ok more) is rest = inr (number, is, inr (more, rest, refl))
AreNumbered-more next name names number (Err fault) is rest = inr (number, is, inl (fault, rest, refl))

pub AreNumbered-weaker : (next other : List ℕ → Result ℤ Fault → Type 0) → ((name : List ℕ) (answer : Result ℤ Fault) → next name answer → other name answer)
    → (names : List (List ℕ)) (answer : Result (List Numbered) Fault)
    → AreNumbered next names answer → AreNumbered other names answer
AreNumbered-weaker next other f [] answer is = is
AreNumbered-weaker next other f (name ∷ names) answer (inl (fault, refused, e)) = inl (fault, f name (Err fault) refused, e)
AreNumbered-weaker next other f (name ∷ names) answer (inr (number, is, inl (fault, refused, e))) =
    inr (number, f name (Ok number) is, inl (fault, AreNumbered-weaker next other f names (Err fault) refused, e))
AreNumbered-weaker next other f (name ∷ names) answer (inr (number, is, inr (more, rest, e))) = inr (number, f name (Ok number) is, inr (more, AreNumbered-weaker next other f names (Ok more) rest, e))

-- ---- counter by counter

-- what is known when some counters have been asked, and those from a place on haven't
pub record IsGivenUpTo (rules : Rules) (numbers : List ℕ → List ℤ) (own : List (List ℕ)) (old now : List Counter) (place : ℕ) (given : List Numbered) : Type 0 where
  pub asked : AllByRecursion (λ counter. IsCounterOf rules (with_given given numbers counter.name.now) counter) (take place now)
  pub left : AllByRecursion (λ counter. IsCounterOf rules (numbers counter.name.now) counter) (drop place now)
  pub names : counter_names now ≡ automatic_names rules
  pub none_left : (name : List ℕ) → is_among (drop place (automatic_names rules)) name ≡ true → numbers_in given name ≡ []
  pub fields : (answer : Result (List Numbered) Fault) → AreNumbered (λ name. IsNext rules name (numbers name)) (lacking (drop place (automatic_names rules)) own) answer
      → AreNumbered (λ name. IsNext rules name (numbers name)) (lacking (automatic_names rules) own) (before given answer)

module _ (rules : Rules) (numbers : List ℕ → List ℤ) (own : List (List ℕ)) (old : List Counter) where
  module _ (now : List Counter) (i : ℕ) (given : List Numbered) (within : i < length now) (so_far : IsGivenUpTo rules numbers own old now i given) (counter : Counter) (at : counter
      ≡ get_or now i counter) where
    abbrev all : List (List ℕ)
    all = automatic_names rules

    size : length all ≡ length now
    size = ap length (sym so_far.names) ∙ length-map now (λ c. c.name.now)

    own_name : get_or all i [] ≡ counter.name.now
    own_name = ap (λ l. get_or l i []) (sym so_far.names) ∙ get_or-map (λ c. c.name.now) now i counter [] within ∙ ap (λ (c : Counter). c.name.now) (sym at)

    names_left : drop i all ≡ counter.name.now ∷ drop (i + 1) all
    names_left = drop_more all i [] (omega (arith, size)) ∙ ap (λ n. n ∷ drop (i + 1) all) own_name

    counters_left : drop i now ≡ counter ∷ drop (i + 1) now
    counters_left = drop_more now i counter within ∙ ap (λ c. c ∷ drop (i + 1) now) (sym at)

    parts : IsCounterOf rules (numbers counter.name.now) counter × AllByRecursion (λ c. IsCounterOf rules (numbers c.name.now) c) (drop (i + 1) now)
    parts = let both : AllByRecursion (λ c. IsCounterOf rules (numbers c.name.now) c) (counter ∷ drop (i + 1) now) =
        subst (AllByRecursion (λ c. IsCounterOf rules (numbers c.name.now) c)) counters_left so_far.left in both

    -- the counter, as it stood before
    pub counter_here : IsCounterOf rules (numbers counter.name.now) counter
    counter_here = parts.0

    none_given : numbers_in given counter.name.now ≡ []
    none_given = so_far.none_left counter.name.now (ap (λ l. is_among l counter.name.now) names_left ∙ here)
      where
        here : is_among (counter.name.now ∷ drop (i + 1) all) counter.name.now ≡ true
        here = rw (bytes_eq-self counter.name.now) refl

    apart : is_among (drop (i + 1) all) counter.name.now ≡ false
    apart = ap (is_among (drop (i + 1) all)) (sym own_name) ∙ ap (λ n. is_among (drop n all) (get_or all i [])) {x = i + 1} {y = suc i} (omega arith)
        ∙ AreApart-later all i [] (AreApart-distinct rules.automatic) (omega (arith, size))

    still_left : (name : List ℕ) → is_among (drop (i + 1) all) name ≡ true → is_among (drop i all) name ≡ true
    still_left name among = ap (λ l. is_among l name) names_left ∙ later
      where
        later : is_among (counter.name.now ∷ drop (i + 1) all) name ≡ true
        later = elim (cases_Bool (bytes_eq name counter.name.now)) [ inl same ↦ rw same refl | inr other ↦ rw other among ]

    lacking_left : (b : Bool) → is_among own counter.name.now ≡ b → lacking (drop i all) own ≡ cond b (lacking (drop (i + 1) all) own) (counter.name.now ∷ lacking (drop (i + 1) all) own)
    lacking_left true there = ap (λ l. lacking l own) names_left ∙ rw there refl
    lacking_left false none = ap (λ l. lacking l own) names_left ∙ rw none refl

    -- it has such a field
    pub none_lacking : is_among own counter.name.now ≡ true → IsGivenUpTo rules numbers own old now (i + 1) given
    none_lacking there = record {
      asked = subst (AllByRecursion (λ c. IsCounterOf rules (with_given given numbers c.name.now) c)) (sym (take_more now i counter within ∙ ap (λ c. take i now ++ c ∷ []) (sym at)))
          (AllByRecursion-push (λ c. IsCounterOf rules (with_given given numbers c.name.now) c) (take i now) counter so_far.asked
          (subst (λ ns. IsCounterOf rules (ns ++ numbers counter.name.now) counter) (sym none_given) parts.0));
      left = parts.1;
      names = so_far.names;
      none_left = λ name among. so_far.none_left name (still_left name among);
      fields = λ answer is. so_far.fields answer (subst (λ l. AreNumbered (λ name. IsNext rules name (numbers name)) l answer) (sym (lacking_left true there)) is);
    }

    pub refused_here : (fault : Fault) → is_among own counter.name.now ≡ false → IsNext rules counter.name.now (numbers counter.name.now) (Err fault)
        → AreNumbered (λ name. IsNext rules name (numbers name)) (lacking all own) (Err fault)
    refused_here fault none refused = so_far.fields (Err fault) (subst (λ l. AreNumbered (λ name. IsNext rules name (numbers name)) l (Err fault)) (sym (lacking_left false none))
        (inl (fault, refused, refl)))

    module _ (next : Counter) (number : ℤ) (none : is_among own counter.name.now ≡ false) (is : IsNext rules counter.name.now (numbers counter.name.now) (Ok number)) (named : next.name ≡ counter.name)
        (counted : IsCounterOf rules (number ∷ numbers counter.name.now) next) where
      abbrev one : Numbered
      one = record { name = counter.name.now; number = number }

      still_asked : (counters : List Counter) → is_among (counter_names counters) counter.name.now ≡ false
          → AllByRecursion (λ c. IsCounterOf rules (with_given given numbers c.name.now) c) counters
          → AllByRecursion (λ c. IsCounterOf rules (with_given (given ++ one ∷ []) numbers c.name.now) c) counters
      still_asked [] none_there held = tt
      still_asked (c ∷ counters) none_there held = elim (cases_Bool (bytes_eq counter.name.now c.name.now)) [
        | inl same ↦ absurd (let clash : true ≡ false = (let e = none_there in rw same at e) in cc)
        | inr other ↦ (
          subst (λ ns. IsCounterOf rules (ns ++ numbers c.name.now) c) (sym (numbers_in-other given one c.name.now other)) held.0,
          still_asked counters (let e = none_there in rw other at e) held.1,
        )
      ]

      before_it : is_among (counter_names (take i now)) counter.name.now ≡ false
      before_it =
          ap (λ l. is_among l counter.name.now) (sym (take-map (λ c. c.name.now) i now) ∙ ap (take i) so_far.names) ∙ ap (is_among (take i all)) (sym own_name)
          ∙ AreApart-earlier all i [] (AreApart-distinct rules.automatic) (omega (arith, size))

      own_numbers : numbers_in (given ++ one ∷ []) counter.name.now ≡ number ∷ []
      own_numbers = numbers_in-own given one counter.name.now (bytes_eq-self counter.name.now) none_given

      next_is : IsCounterOf rules (with_given (given ++ one ∷ []) numbers next.name.now) next
      next_is = subst (λ n. IsCounterOf rules (with_given (given ++ one ∷ []) numbers n) next) (sym (ap (λ (n : Bor (List ℕ)). n.now) named))
          (subst (λ ns. IsCounterOf rules (ns ++ numbers counter.name.now) next) (sym own_numbers) counted)

      none_after : (name : List ℕ) → is_among (drop (i + 1) all) name ≡ true → numbers_in (given ++ one ∷ []) name ≡ []
      none_after name among = elim (cases_Bool (bytes_eq counter.name.now name)) [
        | inl same ↦ absurd (let clash : false ≡ true = sym apart ∙ ap (is_among (drop (i + 1) all)) (same_bytes counter.name.now name same) ∙ among in cc)
        | inr other ↦ numbers_in-other given one name other ∙ so_far.none_left name (still_left name among)
      ]

      -- it lacks one, and gets it
      pub one_given : IsGivenUpTo rules numbers own old (set now i next) (i + 1) (given ++ one ∷ [])
      one_given = record {
        asked = subst (AllByRecursion (λ c. IsCounterOf rules (with_given (given ++ one ∷ []) numbers c.name.now) c)) (sym (take_more_set now i next within))
            (AllByRecursion-push (λ c. IsCounterOf rules (with_given (given ++ one ∷ []) numbers c.name.now) c) (take i now) next (still_asked (take i now) before_it so_far.asked) next_is);
        left = subst (AllByRecursion (λ c. IsCounterOf rules (numbers c.name.now) c)) (sym (drop-set-lt (i + 1) now i next (omega arith))) parts.1;
        names = map-set_same (λ (c : Counter). c.name.now) now i counter next within (ap (λ (n : Bor (List ℕ)). n.now) named ∙ ap (λ (c : Counter). c.name.now) at) ∙ so_far.names;
        none_left = none_after;
        fields = λ answer is_rest.
            subst (AreNumbered (λ name. IsNext rules name (numbers name)) (lacking all own)) (before-before given (one ∷ []) answer)
            (so_far.fields (before (one ∷ []) answer) (subst (λ l. AreNumbered (λ name. IsNext rules name (numbers name)) l (before (one ∷ []) answer)) (sym (lacking_left false none))
            (AreNumbered-more (λ name. IsNext rules name (numbers name)) counter.name.now (lacking (drop (i + 1) all) own) number answer is is_rest)));
      }

  -- all have been asked
  pub all_asked : (now : List Counter) (i : ℕ) (given : List Numbered) → length now ≤ i → IsGivenUpTo rules numbers own old now i given → IsGiven rules numbers own given now
  all_asked now i given past so_far =
      let long : length (automatic_names rules) ≤ i = omega (arith, ap length (sym so_far.names), length-map now (λ c. c.name.now)) in
      record {
        fields = subst (AreNumbered (λ name. IsNext rules name (numbers name)) (lacking (automatic_names rules) own)) (ap Ok (append-nil given))
            (so_far.fields (Ok []) (subst (λ l. AreNumbered (λ name. IsNext rules name (numbers name)) (lacking l own) (Ok [])) (sym (drop_all i (automatic_names rules) long)) refl));
        counters_are = record { names = so_far.names; each = subst (AllByRecursion (λ c. IsCounterOf rules (with_given given numbers c.name.now) c)) (take_all i now past) so_far.asked };
      }

-- ---- the automatic fields that a new record of the set at a place lacks

one_there : {X : Type 0} (xs : List X) (i : ℕ) → i < length xs → (x : X) × (slice_get xs i ≡ Some x)
one_there [] i within = absurd (omega arith)
one_there (x ∷ xs) zero within = (x, refl)
one_there (x ∷ xs) (suc i) within = one_there xs i (omega arith)

-- a set, and its rules
pub set_there : (schema : Described) (place : ℕ) → place < length schema.sets → (s : Set_) × (slice_get schema.sets place ≡ Some s)
set_there schema place within = one_there schema.sets place within

pub rules_there : (pieces : List Piece) (schema : Described) (place : ℕ) → IsDescribed pieces schema → place < length schema.sets → (rules : Rules) × (slice_get schema.rules place ≡ Some rules)
rules_there pieces schema place is within = one_there schema.rules place (omega (arith, AllZip-long (IsRuled pieces is.records) schema.sets schema.rules is.rules))

module _ (pieces : List Piece) (schema : Described) (place : ℕ) (records : List (Range ℕ)) (are : AreRecords pieces records) (s : Set_) (is_set : slice_get schema.sets place ≡ Some s)
    (rules : Rules) (are_rules : slice_get schema.rules place ≡ Some rules) (own : List (List ℕ)) where
  lacking_at : (answer : Result (List Numbered) Fault) → AreNumbered (λ name. IsNext rules name (readings pieces (members records s) name)) (lacking (automatic_names rules) own) answer
      → AreLacking pieces schema place own answer
  lacking_at answer is =
      subst (λ names. AreNumbered (IsAutomatic pieces schema place) (lacking names own) answer) (sym (ap (λ o. option_map_or automatic_names o []) are_rules))
      (AreNumbered-weaker (λ name. IsNext rules name (readings pieces (members records s) name)) (IsAutomatic pieces schema place)
      (λ name number next. record { records = records; are = are; s = s; rules = rules; is_set = is_set; are_rules = are_rules; next = next })
      (lacking (automatic_names rules) own) answer is)

  pub given_at : (result : Result (Vec NumberedField Global) Fault) (counters : List Counter)
      → IfOk result (λ given. IsGiven rules (readings pieces (members records s)) own (numbered given.items) counters)
      → IfOk result (λ given. AreLacking pieces schema place own (Ok (numbered given.items)))
  given_at (Ok given) counters is = lacking_at (Ok (numbered given.items)) is.fields
  given_at (Err fault) counters is = tt

  pub refused_at : (result : Result (Vec NumberedField Global) Fault) → IfErr result (λ fault. IsMemoryOr fault (IsRefused rules (readings pieces (members records s)) own fault))
      → IfErr result (λ fault. IsMemoryOr fault (AreLacking pieces schema place own (Err fault)))
  refused_at (Ok given) is = tt
  refused_at (Err fault) is = memory_or_weaker fault (IsRefused rules (readings pieces (members records s)) own fault) (AreLacking pieces schema place own (Err fault)) (lacking_at (Err fault)) is
