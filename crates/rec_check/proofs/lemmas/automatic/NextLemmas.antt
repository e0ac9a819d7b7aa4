-- A counter has one next number, whichever way the patterns of its set were built.
use Rattle.std.proofs.Common.{◌≡◌, ◌∙◌, ℕ, zero, suc, ℤ, pos, ◌+ℤ◌, true, false, ◌&&◌, List, [], ◌∷◌, Option, Some, None, Result, Ok, Err, refl, ap, sym, subst, inl, inr, arith}
use Rattle.std.proofs.lemmas.Int.{ints}
use Rattle.std.proofs.lemmas.List.Elements.{All-contains}
use Rattle.std.specs.Prelude.{Contains, int_lt, not, slice_get}
use Rattle.std.specs.List.{AllZip}
use Rattle.std.specs.Option.{option_map_or}
use Rattle.regex.specs.Patterns.{Re}
use Rattle.rec_text.specs.declared.fault.Fault.{Fault}
use Rattle.rec_text.specs.declared.fault.Fault.TheVariants.{AutoImpossible}
use Rattle.rec_text.specs.Elements.{Piece}
use Rattle.rec_text.proofs.lemmas.records.RecordLemmas.{OneListOfRecords-holds}
use Rattle.rec_check.specs.Automatic.{automatic_names, automatic_of, may_count, begins_special, is_counter, readings, IsGreatest, last_integer, IsNext, IsAutomatic}
use Rattle.rec_check.specs.Rules.{Rules, AreSameRules, AreSameTypes, field_type}
use Rattle.rec_check.specs.Schemas.{Described, AreSameSchemas}
use Rattle.rec_check.specs.Types.{FieldType, matching}
use Rattle.rec_check.specs.Violations.{members}
use Rattle.rec_check.specs.Words.{distinct}
use Rattle.rec_check.proofs.lemmas.automatic.CounterLemmas.{irreflexive}
use Rattle.rec_check.proofs.lemmas.laws.SameTypeLemmas.{AreSameIfAny, same_field_type}

-- ---- what counts

may_count-same_type : (one other : FieldType Re) → AreSameTypes one other → may_count (Some one) ≡ may_count (Some other)
may_count-same_type (matching pattern) (matching second) same = refl
may_count-same_type one other same = ap (λ t. may_count (Some t)) same

may_count-same : (one other : Option (FieldType Re)) → AreSameIfAny one other → may_count one ≡ may_count other
may_count-same None None same = refl
may_count-same (Some one) (Some other) same = may_count-same_type one other same
may_count-same _ _ same = absurd same

-- the same rules have the same counters
pub is_counter-same : (one other : Rules) (name : List ℕ) → AreSameRules one other → is_counter one name ≡ is_counter other name
is_counter-same one other name same =
    ap (λ counts. not (begins_special name) && counts) (may_count-same (field_type one name) (field_type other name) (same_field_type one other name same))

-- ---- the next number

one_greatest : (numbers : List ℤ) (one other : ℤ) → IsGreatest numbers one → IsGreatest numbers other → one ≡ other
one_greatest numbers one other is too =
    let under : int_lt one other ≡ false = All-contains (λ z. int_lt one z ≡ false) numbers other is.most too.among in
    let over : int_lt other one ≡ false = All-contains (λ z. int_lt other z ≡ false) numbers one too.most is.among in
    grind (arith, ints)

none_greatest : (numbers : List ℤ) (greatest : ℤ) → numbers ≡ [] → IsGreatest numbers greatest → ⊥
none_greatest numbers greatest none is = let (k, within, at) = subst (λ ns. Contains ns greatest) none is.among in omega arith

-- the last integer has none after it
not_last : (numbers : List ℤ) (greatest : ℤ) → IsGreatest numbers greatest → int_lt greatest last_integer ≡ true → IsGreatest numbers last_integer → ⊥
not_last numbers greatest is less last =
    let same : int_lt last_integer last_integer ≡ true = subst (λ z. int_lt z last_integer ≡ true) (one_greatest numbers greatest last_integer is last) less in
    let no : true ≡ false = sym same ∙ irreflexive last_integer in
    cc

-- a number of a field that counts is no refusal of it
no_refusal : (rules other : Rules) (name : List ℕ) (numbers : List ℤ) (z : ℤ) → is_counter rules name ≡ is_counter other name
    → IsNext rules name numbers (Ok z) → IsNext other name numbers (Err AutoImpossible) → ⊥
no_refusal rules other name numbers z same (counts, next) (inl not_counted) = let no : true ≡ false = sym counts ∙ same ∙ not_counted in cc
no_refusal rules other name numbers z same (counts, inl (none, is)) (inr last) = none_greatest numbers last_integer none last
no_refusal rules other name numbers z same (counts, inr (greatest, is_greatest, less, is)) (inr last) = not_last numbers greatest is_greatest less last

pub one_next : (rules other : Rules) (name : List ℕ) (numbers : List ℤ) (one second : Result ℤ Fault) → is_counter rules name ≡ is_counter other name
    → IsNext rules name numbers one → IsNext other name numbers second → one ≡ second
one_next rules other name numbers (Ok y) (Ok z) same (counts, inl (none, is)) (too, inl (none_too, is_too)) = ap Ok (is ∙ sym is_too)
one_next rules other name numbers (Ok y) (Ok z) same (counts, inl (none, is)) (too, inr (greatest, is_greatest, less, is_too)) = absurd (none_greatest numbers greatest none is_greatest)
one_next rules other name numbers (Ok y) (Ok z) same (counts, inr (greatest, is_greatest, less, is)) (too, inl (none, is_too)) = absurd (none_greatest numbers greatest none is_greatest)
one_next rules other name numbers (Ok y) (Ok z) same (counts, inr (greatest, is_greatest, less, is)) (too, inr (top, is_top, less_too, is_too)) =
    ap Ok (is ∙ ap (λ g. g +ℤ pos 1) (one_greatest numbers greatest top is_greatest is_top) ∙ sym is_too)
one_next rules other name numbers (Ok y) (Err AutoImpossible) same is too = absurd (no_refusal rules other name numbers y same is too)
one_next rules other name numbers (Err AutoImpossible) (Ok z) same is too = absurd (no_refusal other rules name numbers z (sym same) too is)
one_next rules other name numbers (Err AutoImpossible) (Err AutoImpossible) same is too = refl
one_next rules other name numbers (Ok y) (Err fault) same is too = absurd too
one_next rules other name numbers (Err AutoImpossible) (Err fault) same is too = absurd too
one_next rules other name numbers (Err fault) second same is too = absurd is

-- ---- in a set

-- what stands at one place of two lists
at_one_place : {A B : Type 0} (R : A → B → Type 0) (xs : List A) (ys : List B) (place : ℕ) (x : A) (y : B) → AllZip R xs ys → slice_get xs place ≡ Some x → slice_get ys place ≡ Some y → R x y
at_one_place R [] ys place x y all is too = absurd (let none : None ≡ Some x = is in cc)
at_one_place R (a ∷ xs) [] place x y all is too = absurd all
at_one_place R (a ∷ xs) (b ∷ ys) zero x y all is too = let first : a ≡ x = cc in let second : b ≡ y = cc in subst (λ v. R v y) first (subst (R a) second all.0)
at_one_place R (a ∷ xs) (b ∷ ys) (suc place) x y all is too = at_one_place R xs ys place x y all.1 is too

names_at-same : (rules others : List Rules) (place : ℕ) → AllZip AreSameRules rules others
    → option_map_or automatic_names (slice_get rules place) [] ≡ option_map_or automatic_names (slice_get others place) []
names_at-same [] [] place all = refl
names_at-same [] (b ∷ others) place all = absurd all
names_at-same (a ∷ rules) [] place all = absurd all
names_at-same (a ∷ rules) (b ∷ others) zero all = ap distinct all.0.automatic
names_at-same (a ∷ rules) (b ∷ others) (suc place) all = names_at-same rules others place all.1

-- two schemas of one text have the same automatic names
pub automatic_of-same : (schema same : Described) (place : ℕ) → AllZip AreSameRules schema.rules same.rules → automatic_of schema place ≡ automatic_of same place
automatic_of-same schema same place all = names_at-same schema.rules same.rules place all

pub one_automatic : (pieces : List Piece) (schema same : Described) (place : ℕ) (name : List ℕ) (one other : Result ℤ Fault) → AreSameSchemas (Ok schema) (Ok same)
    → IsAutomatic pieces schema place name one → IsAutomatic pieces same place name other → one ≡ other
one_automatic pieces schema same place name one other (sets, rules) is too =
    let records : is.records ≡ too.records = OneListOfRecords-holds.records pieces is.records too.records is.are too.are in
    let found : Some is.s ≡ Some too.s = sym is.is_set ∙ ap (λ ss. slice_get ss place) sets ∙ too.is_set in
    let one_set : is.s ≡ too.s = cc in
    let numbers : readings pieces (members is.records is.s) name ≡ readings pieces (members too.records too.s) name =
    ap (λ rs. readings pieces (members rs is.s) name) records ∙ ap (λ s. readings pieces (members too.records s) name) one_set in
    one_next is.rules too.rules name (readings pieces (members too.records too.s) name) one other
    (is_counter-same is.rules too.rules name (at_one_place AreSameRules schema.rules same.rules place is.rules too.rules rules is.are_rules too.are_rules))
    (subst (λ ns. IsNext is.rules name ns one) numbers is.next) too.next
