-- What a schema says of the records of its text, and the violations of one set after another.
use Rattle.std.proofs.Common.{◌≡◌, ◌∙◌, ℕ, zero, suc, ◌+◌, ◌-◌, ◌<◌, ◌≤◌, List, [], ◌∷◌, ◌++◌, Option, Some, None, length, length-append, drop, flat_map, get_or, map, take, refl, ap, sym, subst}
use Rattle.std.proofs.Common.{arith, append_assoc}
use Rattle.std.proofs.lemmas.List.{append-nil, drop_more, get_or-map, length-map, length-replicate, length-take-le, take_all, take_more}
use Rattle.std.proofs.lemmas.List.Elements.{All-from_recursion, All-get_or}
use Rattle.std.proofs.lemmas.Option.{none-some}
use Rattle.std.specs.Global.{Global}
use Rattle.std.specs.Prelude.{IfOk, Result, Vec}
use Rattle.std.specs.List.{AllByRecursion, AllZip}
use Rattle.std.specs.declared.ops.Range.{Range}
use Rattle.rec_text.specs.declared.fault.Fault.{Fault}
use Rattle.rec_text.specs.declared.violations.Violation.{Violation}
use Rattle.rec_text.specs.Elements.{Piece}
use Rattle.rec_text.specs.Records.{AreAscending, AreRecords, IsRecord, elements_in}
use Rattle.rec_text.proofs.lemmas.ListLemmas.{AllByRecursion-weaker}
use Rattle.rec_text.proofs.lemmas.records.RecordLemmas.{OneListOfRecords-holds}
use Rattle.rec_check.specs.declared.rules.Rules.{Rules as StoredRules}
use Rattle.rec_check.specs.declared.set.Set_.{Set_}
use Rattle.rec_check.specs.Checks.{AddsOfSet}
use Rattle.rec_check.specs.Descriptors.{type_of}
use Rattle.rec_check.specs.Rules.{Rules}
use Rattle.rec_check.specs.Schemas.{Described, IsDescribed, IsRuled}
use Rattle.rec_check.specs.Sets.{named_in, AreFrom, BeginsAt}
use Rattle.rec_check.specs.Stored.{rules_stored}
use Rattle.rec_check.specs.Violations.{AreOfSet, AreOfSets, AreViolations}
use Rattle.rec_check.specs.Walking.{AreWithin, IsNextSet}

-- ---- the members are records

set_end : (at : ℕ) (record_type : Option (List ℕ)) (head : Option ℕ) (members : Range ℕ) → BeginsAt at (record { kind = record_type; head = head; members = members })
    → at + length (named_in (record { kind = record_type; head = head; members = members })) ≡ members.end
set_end at None head members begins = omega (arith, begins.0, begins.1.1, (let none : Option (List ℕ) = None in length-replicate (members.end - members.start) none))
set_end at (Some record_type) head members begins = omega (arith, begins.0, begins.1.1, (let none : Option (List ℕ) = None in length-replicate (members.end - members.start) none))

pub sets_within : (at : ℕ) (sets : List Set_) (total : ℕ) → AreFrom at sets → at + length (flat_map named_in sets) ≤ total → AllByRecursion (λ s. s.members.end ≤ total) sets
sets_within at [] total from within = tt
sets_within at (s ∷ sets) total from within =
    let ends = set_end at s.kind s.head s.members from.0 in
    let both = length-append (named_in s) (flat_map named_in sets) in
    (omega arith, sets_within s.members.end sets total from.1 (omega arith))

sets_ordered : (at : ℕ) (sets : List Set_) → AreFrom at sets → AllByRecursion (λ s. s.members.start ≤ s.members.end) sets
sets_ordered at [] from = tt
sets_ordered at (s ∷ sets) from = (from.0.0, sets_ordered s.members.end sets from.1)

AllZip-length : {A B : Type 0} (R : A → B → Type 0) (xs : List A) (ys : List B) → AllZip R xs ys → length xs ≡ length ys
AllZip-length R [] [] all = refl
AllZip-length R [] (y ∷ ys) all = absurd all
AllZip-length R (x ∷ xs) [] all = absurd all
AllZip-length R (x ∷ xs) (y ∷ ys) all = ap suc (AllZip-length R xs ys all.1)

AllZip-at : {A B : Type 0} (R : A → B → Type 0) (xs : List A) (ys : List B) (i : ℕ) (d : A) (e : B) → AllZip R xs ys → i < length xs → R (get_or xs i d) (get_or ys i e)
AllZip-at R [] ys i d e all within = absurd (omega arith)
AllZip-at R (x ∷ xs) [] i d e all within = absurd all
AllZip-at R (x ∷ xs) (y ∷ ys) zero d e all within = all.0
AllZip-at R (x ∷ xs) (y ∷ ys) (suc i) d e all within = AllZip-at R xs ys i d e all.1 (omega arith)

size_of_ruled : (pieces : List Piece) (records : List (Range ℕ)) (record_type : Option (List ℕ)) (head : Option ℕ) (members : Range ℕ) (rules : Rules)
    → IsRuled pieces records (record { kind = record_type; head = head; members = members }) rules
    → head ≡ None → rules.size ≡ None
size_of_ruled pieces records record_type None members rules ruled none = ap (λ (r : Rules). r.size) ruled
size_of_ruled pieces records record_type (Some at) members rules ruled none = absurd (none-some at (sym none))

module _ (pieces : List Piece) (sets : List Set_) (rules : List StoredRules) (is : IsDescribed pieces (record { sets = sets; rules = map rules_stored rules })) where
  pub same_length : length sets ≡ length rules
  same_length = AllZip-length (IsRuled pieces is.records) sets (map rules_stored rules) is.rules ∙ length-map rules rules_stored

  pub no_size : (i : ℕ) (d : Set_) (e : StoredRules) → i < length sets → (get_or sets i d).head ≡ None → (get_or rules i e).size ≡ None
  no_size i d e within none =
      let s : Set_ = get_or sets i d in
      let ruled : IsRuled pieces is.records s (rules_stored (get_or rules i e)) =
      subst (IsRuled pieces is.records s) (get_or-map rules_stored rules i e (rules_stored e) (omega (arith, same_length)))
      (AllZip-at (IsRuled pieces is.records) sets (map rules_stored rules) i d (rules_stored e) is.rules within) in
      size_of_ruled pieces is.records s.kind s.head s.members (rules_stored (get_or rules i e)) ruled none

  pub set_ordered : (i : ℕ) (d : Set_) → i < length sets → (get_or sets i d).members.start ≤ (get_or sets i d).members.end
  set_ordered i d within = All-get_or (λ s. s.members.start ≤ s.members.end) sets i d within (All-from_recursion (λ s. s.members.start ≤ s.members.end) sets (sets_ordered 0 sets is.sets.places))

  module _ (records : List (Range ℕ)) (are : AreRecords pieces records) where
    pub set_within : (i : ℕ) (d : Set_) → i < length sets → (get_or sets i d).members.end ≤ length records
    set_within i d within =
        let same : is.records ≡ records = OneListOfRecords-holds.records pieces is.records records is.are are in
        let total : 0 + length (flat_map named_in sets) ≤ length records =
        omega (arith, ap length is.sets.joined, length-map is.records (λ own_range. type_of (elements_in pieces own_range)), ap length same) in
        All-get_or (λ s. s.members.end ≤ length records) sets i d within (All-from_recursion (λ s. s.members.end ≤ length records) sets (sets_within 0 sets (length records) is.sets.places total))

    pub records_within : (size : ℕ) → size ≡ length pieces → AreWithin size records
    records_within size is_size =
        AllByRecursion-weaker (IsRecord pieces) (λ own_range. (own_range.start < own_range.end)
        × (own_range.end ≤ size)) (λ own_range inside. (inside.some, omega (arith, inside.high, inside.is_paragraph.within))) records are.each

-- ---- one set after another

module _ (pieces : List Piece) (records : List (Range ℕ)) where
  AreOfSets-push : (sets : List Set_) (rules : List Rules) (s : Set_) (asked : Rules) (own one : List Violation) → length sets ≡ length rules → AreOfSets pieces records sets rules own
      → AreOfSet pieces records s asked one
      → AreOfSets pieces records (sets ++ s ∷ []) (rules ++ asked ∷ []) (own ++ one)
  AreOfSets-push [] [] s asked own one long are last = (one, [], last, refl, ap (λ l. l ++ one) are ∙ sym (append-nil one))
  AreOfSets-push [] (r ∷ rules) s asked own one long are last = absurd (omega arith)
  AreOfSets-push (t ∷ sets) [] s asked own one long are last = absurd (omega arith)
  AreOfSets-push (t ∷ sets) (r ∷ rules) s asked own one long (first, rest, is, are, joined) last =
      (first, rest ++ one, is, AreOfSets-push sets rules s asked rest one (omega arith) are last, ap (λ l. l ++ one) joined ∙ append_assoc first rest one)

-- what a walk has reached before the set of a place, and the violations so far
pub record IsReported (pieces walked : List Piece) (records : List (Range ℕ)) (sets : List Set_) (rules : List Rules) (place passed : ℕ) (found : List Violation) : Type 0 where
  pub at : ℕ
  pub from : AreFrom at (drop place sets)
  pub ahead : AreAscending passed (drop at records)
  pub elements : walked ≡ pieces
  pub are : AreOfSets pieces records (take place sets) (take place rules) found

pub nothing_reported : (pieces walked : List Piece) (records : List (Range ℕ)) (described : Described) (passed : ℕ) (found : List Violation) → IsDescribed pieces described → AreRecords pieces records
    → walked ≡ pieces → passed ≡ 0 → found ≡ []
    → IsReported pieces walked records described.sets described.rules 0 passed found
nothing_reported pieces walked records described passed found is are same none nothing = record {
  at = 0;
  from = is.sets.places;
  ahead = subst (λ n. AreAscending n records) (sym none) are.ascending;
  elements = same;
  are = nothing;
}

module _ (pieces walked : List Piece) (records : List (Range ℕ)) (sets : List Set_) (rules : List Rules) (place passed : ℕ) (found : List Violation)
    (so_far : IsReported pieces walked records sets rules place passed found)
    (s : Set_) (at : s ≡ get_or sets place s) (within : place < length sets) where
  from_here : AreFrom so_far.at (s ∷ drop (place + 1) sets)
  from_here = subst (AreFrom so_far.at) (drop_more sets place s within ∙ ap (λ t. t ∷ drop (place + 1) sets) (sym at)) so_far.from

  pub next_set : s.members.end ≤ length records → IsNextSet passed records s
  next_set ends = record { at = so_far.at; begins = from_here.0; within = ends; ahead = so_far.ahead }

  pub reported_more : (asked : Rules) (reached : ℕ) (now : List Piece) (new : List Violation) → asked ≡ get_or rules place asked → length sets ≡ length rules → now ≡ walked
      → AreAscending reached (drop s.members.end records)
      → AddsOfSet walked records s asked found new → IsReported pieces now records sets rules (place + 1) reached new
  reported_more asked reached now new asked_at long same ahead added =
      let fits : place < length rules = omega arith in
      let own : AddsOfSet pieces records s asked found new = subst (λ p. AddsOfSet p records s asked found new) so_far.elements added in
      let more_sets : take (place + 1) sets ≡ take place sets ++ s ∷ [] = take_more sets place s within ∙ ap (λ t. take place sets ++ t ∷ []) (sym at) in
      let more_rules : take (place + 1) rules ≡ take place rules ++ asked ∷ [] = take_more rules place asked fits ∙ ap (λ t. take place rules ++ t ∷ []) (sym asked_at) in
      let sized : length (take place sets) ≡ length (take place rules) = omega (arith, length-take-le place sets (omega arith), length-take-le place rules (omega arith)) in
      let all : AreOfSets pieces records (take place sets ++ s ∷ []) (take place rules ++ asked ∷ []) (found ++ own.own) =
      AreOfSets-push pieces records (take place sets) (take place rules) s asked found own.own sized so_far.are own.are in
      record {
        at = s.members.end;
        from = from_here.1;
        ahead = ahead;
        elements = same ∙ so_far.elements;
        are =
            subst (AreOfSets pieces records (take (place + 1) sets) (take (place + 1) rules)) (sym own.joined)
            (subst (λ l. AreOfSets pieces records l (take (place + 1) rules) (found ++ own.own)) (sym more_sets)
            (subst (λ l. AreOfSets pieces records (take place sets ++ s ∷ []) l (found ++ own.own)) (sym more_rules) all));
      }

pub all_reported : (pieces walked : List Piece) (records : List (Range ℕ)) (sets : List Set_) (rules : List Rules) (place passed : ℕ) (found : List Violation) → AreRecords pieces records
    → length sets ≤ place → length rules ≤ place
    → IsReported pieces walked records sets rules place passed found → AreViolations pieces (record { sets = sets; rules = rules }) found
all_reported pieces walked records sets rules place passed found are past ruled so_far = (
  records,
  are,
  subst (λ l. AreOfSets pieces records l rules found) (take_all place sets past)
      (subst (λ l. AreOfSets pieces records (take place sets) l found) (take_all place rules ruled) so_far.are),
)

-- what is answered of a schema's parts is answered of the schema
pub violations_as : (pieces : List Piece) (sets own : List Set_) (rules asked : List StoredRules) (result : Result (Vec Violation Global) Fault) → sets ≡ own → rules ≡ asked
    → IfOk result (λ found. AreViolations pieces (record { sets = sets; rules = map rules_stored rules }) found.items)
    → IfOk result (λ found. AreViolations pieces (record { sets = own; rules = map rules_stored asked }) found.items)
violations_as pieces sets own rules asked result same are is =
    subst (λ l. IfOk result (λ found. AreViolations pieces (record { sets = own; rules = map rules_stored l }) found.items)) are
    (subst (λ l. IfOk result (λ found. AreViolations pieces (record { sets = l; rules = map rules_stored rules }) found.items)) same is)
