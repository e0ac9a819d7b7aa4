-- Records that are filled one after another, set by set: their ranges, and where their fields are put.
use Rattle.std.proofs.Common.{◌≡◌, ◌∙◌, inl, inr, ℕ, ℤ, ◌+◌, ◌<◌, ◌≤◌, List, [], ◌∷◌, ◌++◌, length, drop, get_or, Result, Ok, Err, refl, ap, sym, subst, arith, append-nil, append_assoc}
use Rattle.std.proofs.Common.{Bool, zero, suc, true, None, map}
use Rattle.std.proofs.lemmas.List.{drop_more, drop_all, map_push}
use Rattle.std.specs.declared.ops.Range.{Range}
use Rattle.rec_text.specs.declared.fault.Fault.{Fault}
use Rattle.rec_text.specs.Elements.{Piece}
use Rattle.rec_text.specs.Records.{elements_in}
use Rattle.rec_check.specs.declared.automatic.counter.Counter.{Counter}
use Rattle.rec_check.specs.declared.set.Set_.{Set_}
use Rattle.rec_check.specs.Automatic.{readings}
use Rattle.rec_check.specs.Counters.{AreCounters}
use Rattle.rec_check.specs.Rules.{Rules}
use Rattle.rec_check.specs.Violations.{members, names_of}
use Rattle.rec_edit.specs.Automatic.{AreFilled, AreFilledSets, AreFilledSet}
use Rattle.rec_edit.specs.proving.Filling.{filled_of, numbered, before, with_given, AreAllFilled, IsGiven, IsRefused, AddsFilled}
use Rattle.rec_edit.specs.Insertions.{Numbered, fields_at, filled}
use Rattle.rec_text.specs.Faults.{IsMemoryOr}
use Rattle.rec_check.specs.Schemas.{Described}
use Rattle.rec_edit.specs.declared.outcome.Patched.{Patched}
use Rattle.rec_edit.specs.proving.Edits.{IsCarriedOut}
use Rattle.rec_edit.specs.Task.{auto_fill}
use Rattle.rec_text.proofs.lemmas.FaultLemmas.{memory_or_weaker}
use Rattle.rec_edit.proofs.lemmas.automatic.NumberLemmas.{before-before, before-nil}
use Rattle.std.specs.Prelude.{IfErr, option_to_list, is_some, slice_get, false, Option, Some}
use Rattle.std.proofs.lemmas.Bool.{false≢true}
use Rattle.rec_edit.proofs.lemmas.automatic.FilledLemmas.{some_same}
use Rattle.rec_edit.specs.declared.automatic.filled.FilledRecord.{FilledRecord}
use Rattle.rec_text.proofs.lemmas.records.RecordLemmas.{one_list_of_records}
use Rattle.rec_edit.specs.Outcome.{made_of}
use Rattle.rec_edit.specs.proving.Drafts.{AreLines}
use Rattle.rec_edit.specs.proving.Laying.{IsMadeOf}
use Rattle.rec_edit.proofs.lemmas.insertions.SiteLemmas.{AreLines-numbered}

-- ---- records that are filled one after another, and set by set

-- ---- record by record

-- what is known when some records are filled, and those from a place on aren't
pub record IsFilledUpTo (pieces : List Piece) (rules : Rules) (numbers : List ℕ → List ℤ) (records : List (Range ℕ)) (place : ℕ) (old new : List (List Numbered))
    (counters : List Counter) : Type 0 where
  pub own : List (List Numbered)
  pub now : List ℕ → List ℤ
  pub counters_are : AreCounters rules now counters
  pub joined : new ≡ old ++ own
  pub left : (answer : Result (List (List Numbered)) Fault) → AreFilled pieces rules now (drop place records) answer → AreFilled pieces rules numbers records (before own answer)

module _ (pieces : List Piece) (rules : Rules) (numbers : List ℕ → List ℤ) (records : List (Range ℕ)) (old : List (List Numbered)) where
  pub none_filled : (counters : List Counter) → AreCounters rules numbers counters → IsFilledUpTo pieces rules numbers records 0 old old counters
  none_filled counters are = record {
    own = [];
    now = numbers;
    counters_are = are;
    joined = sym (append-nil old);
    left = λ answer is. subst (AreFilled pieces rules numbers records) (sym (before-nil answer)) is;
  }

  filled_next : (now : List ℕ → List ℤ) (own_range : Range ℕ) (rest : List (Range ℕ)) (given : List Numbered) (counters : List Counter) (answer : Result (List (List Numbered)) Fault)
      → IsGiven rules now (names_of (elements_in pieces own_range)) given counters → AreFilled pieces rules (with_given given now) rest answer
      → AreFilled pieces rules now (own_range ∷ rest) (before (given ∷ []) answer)
  filled_next now own_range rest given counters (Ok more) is left = inr (given, is.fields, inr (more, left, refl))
  filled_next now own_range rest given counters (Err fault) is left = inr (given, is.fields, inl (fault, left, refl))

  module _ (place : ℕ) (new : List (List Numbered)) (counters : List Counter) (own_range : Range ℕ) (names : List (List ℕ)) (within : place < length records)
      (at : get_or records place own_range ≡ own_range)
      (named : names ≡ names_of (elements_in pieces own_range)) (so_far : IsFilledUpTo pieces rules numbers records place old new counters) where
    records_left : drop place records ≡ own_range ∷ drop (place + 1) records
    records_left = drop_more records place own_range within ∙ ap (λ r. r ∷ drop (place + 1) records) at

    pub one_filled : (given : List Numbered) (next : List Counter) (more : List (List Numbered)) → IsGiven rules so_far.now names given next → more ≡ new ++ given ∷ []
        → IsFilledUpTo pieces rules numbers records (place + 1) old more next
    one_filled given next more is added =
        let gives : IsGiven rules so_far.now (names_of (elements_in pieces own_range)) given next = subst (λ ns. IsGiven rules so_far.now ns given next) named is in
        record {
          own = so_far.own ++ given ∷ [];
          now = with_given given so_far.now;
          counters_are = gives.counters_are;
          joined = added ∙ ap (λ l. l ++ given ∷ []) so_far.joined ∙ append_assoc old so_far.own (given ∷ []);
          left = λ answer left.
              subst (AreFilled pieces rules numbers records) (before-before so_far.own (given ∷ []) answer)
              (so_far.left (before (given ∷ []) answer) (subst (λ rs. AreFilled pieces rules so_far.now rs (before (given ∷ []) answer)) (sym records_left)
              (filled_next so_far.now own_range (drop (place + 1) records) given next answer gives left)));
        }

    pub one_refused : (fault : Fault) → IsRefused rules so_far.now names fault → AreFilled pieces rules numbers records (Err fault)
    one_refused fault is =
        let refused : IsRefused rules so_far.now (names_of (elements_in pieces own_range)) fault = subst (λ ns. IsRefused rules so_far.now ns fault) named is in
        so_far.left (Err fault) (subst (λ rs. AreFilled pieces rules so_far.now rs (Err fault)) (sym records_left) (inl (fault, refused, refl)))

  pub all_filled : (place : ℕ) (new : List (List Numbered)) (counters : List Counter) → length records ≤ place → IsFilledUpTo pieces rules numbers records place old new counters
      → AddsFilled (AreFilled pieces rules numbers records) old new
  all_filled place new counters past so_far = record {
    own = so_far.own;
    are = subst (AreFilled pieces rules numbers records) (ap Ok (append-nil so_far.own))
        (so_far.left (Ok []) (subst (λ rs. AreFilled pieces rules so_far.now rs (Ok [])) (sym (drop_all place records past)) refl));
    joined = so_far.joined;
  }

-- ---- set by set

-- what is known when some sets are filled, and those from a place on aren't
pub record AreFilledUpTo (pieces : List Piece) (records : List (Range ℕ)) (sets : List Set_) (rules : List Rules) (place : ℕ) (new : List (List Numbered)) : Type 0 where
  pub left : (answer : Result (List (List Numbered)) Fault) → AreFilledSets pieces records (drop place sets) (drop place rules) answer → AreFilledSets pieces records sets rules (before new answer)

module _ (pieces : List Piece) (records : List (Range ℕ)) (sets : List Set_) (rules : List Rules) where
  set_next : (s : Set_) (asked : Rules) (rest : List Set_) (more : List Rules) (own : List (List Numbered)) (answer : Result (List (List Numbered)) Fault)
      → AreFilledSet pieces records s asked (Ok own) → AreFilledSets pieces records rest more answer
      → AreFilledSets pieces records (s ∷ rest) (asked ∷ more) (before own answer)
  set_next s asked rest more own (Ok filled) are left = inr (own, are, inr (filled, left, refl))
  set_next s asked rest more own (Err fault) are left = inr (own, are, inl (fault, left, refl))

  module _ (place : ℕ) (new : List (List Numbered)) (within : place < length sets) (long : length sets ≡ length rules) (s : Set_) (asked : Rules) (is_set : get_or sets place s ≡ s)
      (are_rules : get_or rules place asked ≡ asked)
      (so_far : AreFilledUpTo pieces records sets rules place new) where
    joins : (answer : Result (List (List Numbered)) Fault) → AreFilledSets pieces records (s ∷ drop (place + 1) sets) (asked ∷ drop (place + 1) rules) answer
        → AreFilledSets pieces records sets rules (before new answer)
    joins answer is = so_far.left answer
        (subst (λ ss. AreFilledSets pieces records ss (drop place rules) answer) (sym (drop_more sets place s within ∙ ap (λ t. t ∷ drop (place + 1) sets) is_set))
        (subst (λ rs. AreFilledSets pieces records (s ∷ drop (place + 1) sets) rs answer) (sym (drop_more rules place asked (omega arith) ∙ ap (λ t. t ∷ drop (place + 1) rules) are_rules)) is))

    pub one_set_filled : (more : List (List Numbered)) → AddsFilled (AreFilledSet pieces records s asked) new more
        → AreFilledUpTo pieces records sets rules (place + 1) more
    one_set_filled more adds = record {
      left = λ answer left.
          subst (AreFilledSets pieces records sets rules) (before-before new adds.own answer ∙ ap (λ l. before l answer) (sym adds.joined))
          (joins (before adds.own answer) (set_next s asked (drop (place + 1) sets) (drop (place + 1) rules) adds.own answer adds.are left));
    }

    pub set_refused : (fault : Fault) → AreFilledSet pieces records s asked (Err fault) → AreFilledSets pieces records sets rules (Err fault)
    set_refused fault refused = joins (Err fault) (inl (fault, refused, refl))

  pub all_sets_filled : (place : ℕ) (new : List (List Numbered)) → length sets ≤ place → length rules ≤ place → AreFilledUpTo pieces records sets rules place new
      → AreFilledSets pieces records sets rules (Ok new)
  all_sets_filled place new past ruled so_far =
      subst (AreFilledSets pieces records sets rules) (ap Ok (append-nil new))
      (so_far.left (Ok []) (subst (λ ss. AreFilledSets pieces records ss (drop place rules) (Ok [])) (sym (drop_all place sets past))
      (subst (λ rs. AreFilledSets pieces records [] rs (Ok [])) (sym (drop_all place rules ruled)) refl)))

-- ---- the automatic fields of all records: their ranges, and what the edit comes to

module _ (pieces : List Piece) (schema : Described) (force : Bool) where
  pub auto_fill-refused : (fault : Fault) → IsMemoryOr fault (AreAllFilled pieces schema (Err fault)) → IsMemoryOr fault (IsCarriedOut pieces schema force auto_fill (Err fault))
  auto_fill-refused fault is =
      memory_or_weaker fault (AreAllFilled pieces schema (Err fault)) (IsCarriedOut pieces schema force auto_fill (Err fault))
      (λ refused. inl (fault, (refused.0, refused.1, inl (fault, refused.2, refl)), refl)) is

  pub auto_fill-made : (given shown : List (List Numbered)) (edited : Patched) → AreAllFilled pieces schema (Ok given) → shown ≡ given
      → IsMadeOf pieces None (λ k. true) (λ k. filled (fields_at shown k)) edited → IsCarriedOut pieces schema force auto_fill (Ok edited)
  auto_fill-made given shown edited are_filled same is =
      let (records, are, made) = subst (λ g. IsMadeOf pieces None (λ k. true) (λ k. filled (fields_at g k)) edited) same is in
      let one : records ≡ are_filled.0 = one_list_of_records pieces records are_filled.0 are are_filled.1 in
      inr (
        made_of None (λ k. true) (λ k. filled (fields_at given k)) pieces records,
        (records, are, inr (given, subst (λ rs. AreFilledSets pieces rs schema.sets schema.rules (Ok given)) (sym one) are_filled.2, refl)),
        ap Ok made,
      )

-- ---- a descriptor is given none, and then the members of its set their fields

pub AreLines-at : (given : List (List Numbered)) (k : ℕ) → AreLines (fields_at given k)
AreLines-at [] k = tt
AreLines-at (one ∷ given) zero = AreLines-numbered one
AreLines-at (one ∷ given) (suc k) = AreLines-at given k

pub get_there : {X : Type 0} (xs : List X) (i : ℕ) (d x : X) → slice_get xs i ≡ Some x → get_or xs i d ≡ x
get_there [] i d x at = absurd (cc)
get_there (y ∷ xs) zero d x at = some_same y x at
get_there (y ∷ xs) (suc i) d x at = get_there xs i d x at

-- the descriptor is given none
pub head_given : (head : Option ℕ) (old new : List FilledRecord) (one : FilledRecord) → is_some head ≡ true → new ≡ old ++ one ∷ [] → one.given.items ≡ []
    → filled_of new ≡ filled_of old ++ map (λ _. []) (option_to_list head)
head_given None old new one some same none = absurd (false≢true some)
head_given (Some place) old new one some same none =
    let given : FilledRecord → List Numbered = λ o. numbered o.given.items in
    ap filled_of same ∙ map_push given old one ∙ ap (λ l. filled_of old ++ numbered l ∷ []) none

pub no_head_given : (head : Option ℕ) (old : List FilledRecord) → is_some head ≡ false → filled_of old ≡ filled_of old ++ map (λ _. []) (option_to_list head)
no_head_given None old none = sym (append-nil (filled_of old))
no_head_given (Some place) old none = absurd (false≢true (sym none))

pub set_filled : (pieces : List Piece) (records : List (Range ℕ)) (s shown : Set_) (rules : Rules) (old headed new : List (List Numbered)) → shown ≡ s
    → headed ≡ old ++ map (λ _. []) (option_to_list shown.head)
    → AddsFilled (AreFilled pieces rules (readings pieces (members records s)) (members records s)) headed new → AddsFilled (AreFilledSet pieces records s rules) old new
set_filled pieces records s shown rules old headed new same head adds =
    let heads : Set_ → List (List Numbered) = λ one. map (λ _. []) (option_to_list one.head) in
    record {
      own = heads s ++ adds.own;
      are = inr (adds.own, adds.are, refl);
      joined = adds.joined ∙ ap (λ l. l ++ adds.own) (head ∙ ap (λ one. old ++ heads one) same) ∙ append_assoc old (heads s) adds.own;
    }

pub set_refused_by : {X : Type 0} (pieces : List Piece) (records : List (Range ℕ)) (s : Set_) (rules : Rules) (result : Result X Fault)
    → IfErr result (λ fault. IsMemoryOr fault (AreFilled pieces rules (readings pieces (members records s)) (members records s) (Err fault)))
    → IfErr result (λ fault. IsMemoryOr fault (AreFilledSet pieces records s rules (Err fault)))
set_refused_by pieces records s rules (Ok _) refused = tt
set_refused_by pieces records s rules (Err fault) refused =
    memory_or_weaker fault (AreFilled pieces rules (readings pieces (members records s)) (members records s) (Err fault)) (AreFilledSet pieces records s rules (Err fault))
    (λ is. inl (fault, is, refl)) refused
