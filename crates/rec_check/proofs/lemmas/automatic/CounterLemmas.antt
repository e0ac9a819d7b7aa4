-- The greatest of some numbers, and the next number after it.
use Rattle.std.proofs.Common.{◌≡◌, ◌∙◌, inl, inr, ℕ, zero, suc, ◌<◌, ℤ, Bool, true, false, List, [], ◌∷◌, ◌++◌, Option, Some, None, if◌then◌else◌, Result, Ok, Err, length, get_or, map, option_map}
use Rattle.std.proofs.Common.{refl, ap, sym, subst, arith}
use Rattle.std.proofs.lemmas.Int.{ints}
use Rattle.std.proofs.lemmas.List.{length-map}
use Rattle.std.proofs.lemmas.List.Elements.{All-from_recursion}
use Rattle.std.proofs.lemmas.Option.{slice_get-get_or, slice_get-map}
use Rattle.std.proofs.lemmas.Slice.Zip.{AllZip-long}
use Rattle.std.specs.Prelude.{Contains, int_lt}
use Rattle.std.specs.List.{AllByRecursion, cons_option, slice_get}
use Rattle.std.specs.Str.{bytes_eq}
use Rattle.std.specs.declared.ops.Range.{Range}
use Rattle.rec_text.specs.declared.fault.Fault.{Fault}
use Rattle.rec_text.specs.declared.fault.Fault.TheVariants.{OutOfMemory, AutoImpossible}
use Rattle.rec_text.specs.Elements.{Piece, name_of}
use Rattle.rec_text.specs.Faults.{UnlessMemory}
use Rattle.rec_text.specs.Values.{value_of}
use Rattle.rec_sex.specs.Integers.{int_of}
use Rattle.rec_check.specs.declared.set.Set_.{Set_}
use Rattle.rec_check.specs.declared.rules.Rules.{Rules as StoredRules}
use Rattle.rec_check.specs.Automatic.{IsGreatest, IsNext, IsAutomatic, is_counter, last_integer, readings}
use Rattle.rec_check.specs.Counting.{greater, greatest_from, readings_in, IsNextNumber}
use Rattle.rec_check.specs.Counters.{AreMembersAt}
use Rattle.rec_check.specs.Rules.{Rules}
use Rattle.rec_check.specs.Schemas.{Described, IsDescribed, IsRuled}
use Rattle.rec_check.specs.Stored.{rules_stored}

-- ---- the greatest of some numbers

Contains-head : (x : ℤ) (xs : List ℤ) → Contains (x ∷ xs) x
Contains-head x xs = (0, omega arith, refl)

Contains-later : (x y : ℤ) (xs : List ℤ) → Contains xs y → Contains (x ∷ xs) y
Contains-later x y xs (k, within, at) = (suc k, omega arith, at)

-- one of some numbers, and none of them is greater
abbrev IsTop : List ℤ → ℤ → Type 0
IsTop numbers top = Contains numbers top × AllByRecursion (λ z. int_lt top z ≡ false) numbers

after_first : (x y top : ℤ) (xs : List ℤ) → Contains (x ∷ xs) top → Contains (x ∷ y ∷ xs) top
after_first x y top xs (zero, within, at) = (0, omega arith, at)
after_first x y top xs (suc k, within, at) = (suc (suc k), omega arith, at)

top_from : (so_far z top : ℤ) (numbers : List ℤ) (less : Bool) → int_lt z so_far ≡ less → IsTop ((if less then so_far else z) ∷ numbers) top → IsTop (so_far ∷ z ∷ numbers) top
top_from so_far z top numbers true less (among, all) =
    let below = all.0 in
    let under : int_lt top z ≡ false = grind (arith, ints) in
    (after_first so_far z top numbers among, (all.0, (under, all.1)))
top_from so_far z top numbers false more (among, all) =
    let below = all.0 in
    let under : int_lt top so_far ≡ false = grind (arith, ints) in
    (Contains-later so_far top (z ∷ numbers) among, (under, all))

pub irreflexive : (z : ℤ) → int_lt z z ≡ false
irreflexive z = grind (arith, ints)

top_of : (so_far : ℤ) (numbers : List ℤ) → (top : ℤ) × (greatest_from (Some so_far) numbers ≡ Some top) × IsTop (so_far ∷ numbers) top
top_of so_far [] = (so_far, refl, (Contains-head so_far [], (irreflexive so_far, tt)))
top_of so_far (z ∷ numbers) =
    let (top, is, later) = top_of (if int_lt z so_far then so_far else z) numbers in
    (top, is, top_from so_far z top numbers (int_lt z so_far) refl later)

same_top : (x y : ℤ) → Some x ≡ Some y → x ≡ y
same_top x y e = cc

-- what the scan finds is none where there is no number, and else the greatest
pub greatest_is : (numbers : List ℤ) (greatest : ℤ) → greatest_from None numbers ≡ Some greatest → IsGreatest numbers greatest
greatest_is [] greatest is = absurd (let none : None ≡ Some greatest = is in cc)
greatest_is (z ∷ numbers) greatest is =
    let top = top_of z numbers in
    let same : top.0 ≡ greatest = same_top top.0 greatest (sym top.1 ∙ is) in
    let own : IsTop (z ∷ numbers) greatest = subst (IsTop (z ∷ numbers)) same top.2 in
    record { among = own.0; most = All-from_recursion (λ x. int_lt greatest x ≡ false) (z ∷ numbers) own.1 }

pub none_is : (numbers : List ℤ) → greatest_from None numbers ≡ None → numbers ≡ []
none_is [] is = refl
none_is (z ∷ numbers) is = absurd (let top = top_of z numbers in let some : Some top.0 ≡ None = sym top.1 ∙ is in cc)

pub greatest_from-append : (so_far : Option ℤ) (some more : List ℤ) → greatest_from so_far (some ++ more) ≡ greatest_from (greatest_from so_far some) more
greatest_from-append so_far [] more = refl
greatest_from-append so_far (z ∷ some) more = greatest_from-append (greater so_far (Some z)) some more

pub greatest_from-option : (so_far reading : Option ℤ) (numbers : List ℤ) → greatest_from so_far (cons_option reading numbers) ≡ greatest_from (greater so_far reading) numbers
greatest_from-option so_far None numbers = refl
greatest_from-option so_far (Some z) numbers = refl

pub readings_in-named : (name : List ℕ) (piece : Piece) (pieces : List Piece) → bytes_eq (name_of piece) name ≡ true
    → readings_in name (piece ∷ pieces) ≡ cons_option (int_of (value_of piece)) (readings_in name pieces)
readings_in-named name piece pieces named = rw named refl

pub readings_in-other : (name : List ℕ) (piece : Piece) (pieces : List Piece) → bytes_eq (name_of piece) name ≡ false → readings_in name (piece ∷ pieces) ≡ readings_in name pieces
readings_in-other name piece pieces other = rw other refl

-- ---- the next number

next_of : (rules : Rules) (name : List ℕ) (numbers : List ℤ) (greatest : Option ℤ) (answer : Result ℤ Fault) → is_counter rules name ≡ true → greatest ≡ greatest_from None numbers
    → IsNextNumber greatest answer → IsNext rules name numbers answer
next_of rules name numbers None (Ok z) counts is following = (counts, inl (none_is numbers (sym is), following))
next_of rules name numbers (Some greatest) (Ok z) counts is following = (counts, inr (greatest, greatest_is numbers greatest (sym is), following.0, following.1))
next_of rules name numbers greatest (Err AutoImpossible) counts is following = inr (greatest_is numbers last_integer (sym is ∙ following))
next_of rules name numbers greatest (Err fault) counts is following = absurd following

unless_memory : (answer : Result ℤ Fault) (P : Result ℤ Fault → Type 0) → P answer → UnlessMemory answer P
unless_memory (Ok z) P holds = holds
unless_memory (Err OutOfMemory) P holds = tt
unless_memory (Err fault) P holds = holds

pub next_in : (rules : Rules) (name : List ℕ) (numbers : List ℤ) (greatest : Option ℤ) (answer : Result ℤ Fault) → is_counter rules name ≡ true → greatest ≡ greatest_from None numbers
    → IsNextNumber greatest answer → UnlessMemory answer (IsNext rules name numbers)
next_in rules name numbers greatest answer counts is following = unless_memory answer (IsNext rules name numbers) (next_of rules name numbers greatest answer counts is following)

-- ---- the answer

unless_memory-then : (answer : Result ℤ Fault) (P Q : Result ℤ Fault → Type 0) → (P answer → Q answer) → UnlessMemory answer P → UnlessMemory answer Q
unless_memory-then (Ok z) P Q more holds = more holds
unless_memory-then (Err OutOfMemory) P Q more holds = tt
unless_memory-then (Err fault) P Q more holds = more holds

pub place_of_rules : (pieces : List Piece) (sets : List Set_) (rules : List StoredRules) (place : ℕ) → IsDescribed pieces (record { sets = sets; rules = map rules_stored rules }) → place < length sets
    → place < length rules
place_of_rules pieces sets rules place is within =
    omega (arith, AllZip-long (IsRuled pieces is.records) sets (map rules_stored rules) is.rules, length-map rules rules_stored)

module _ (pieces : List Piece) (sets : List Set_) (rules : List StoredRules) (place : ℕ) (name : List ℕ) where
  abbrev schema : Described
  schema = record { sets = sets; rules = map rules_stored rules }

  pub automatic : (own : List Piece) (records : List (Range ℕ)) (asked : StoredRules) (answer : Result ℤ Fault) → IsDescribed pieces schema → place < length sets → own ≡ pieces
      → AreMembersAt pieces schema place records
      → asked ≡ get_or rules place asked → UnlessMemory answer (IsNext (rules_stored asked) name (readings own records name)) → UnlessMemory answer (IsAutomatic pieces schema place name)
  automatic own records asked answer is within same members_are rules_are next =
      let s : Set_ = get_or sets place (record { kind = None; head = None; members = record { start = 0; end = 0 } }) in
      let is_set : slice_get sets place ≡ Some s = slice_get-get_or sets place _ within in
      unless_memory-then answer (IsNext (rules_stored asked) name (readings own records name)) (IsAutomatic pieces schema place name) (λ counted. record {
        records = is.records;
        are = is.are;
        s = s;
        rules = rules_stored asked;
        is_set = is_set;
        are_rules = slice_get-map rules_stored rules place ∙ ap (option_map rules_stored) (slice_get-get_or rules place asked (place_of_rules pieces sets rules place is within)
            ∙ ap Some (sym rules_are));
        next = subst (λ numbers. IsNext (rules_stored asked) name numbers answer)
            (ap (λ ps. readings ps records name) same ∙ ap (λ rs. readings pieces rs name) (members_are is.records s is.are is_set)) counted;
      }) next
