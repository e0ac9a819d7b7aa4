-- The types of fields under rules that are the same.
use Rattle.std.proofs.Common.{◌≡◌, ℕ, zero, suc, List, length, Option, Some, None, refl, ap, subst, unwrap_or, arith}
use Rattle.std.proofs.lemmas.Slice.Zip.{AllZip-long}
use Rattle.std.specs.Prelude.{is_some}
use Rattle.std.specs.List.{AllZip}
use Rattle.std.specs.Option.{option_and_then}
use Rattle.std.specs.Str.{bytes_eq}
use Rattle.regex.specs.Patterns.{Re}
use Rattle.rec_check.specs.Meanings.{meaning_in, meaning_within}
use Rattle.rec_check.specs.Resolving.{is_known_kind, last_definition}
use Rattle.rec_check.specs.Rules.{Rules, AreSameDefinitions, AreSameRules, AreSameTypes, AreSameTypings, field_type, type_by, typing_for}
use Rattle.rec_check.specs.Types.{Definition, FieldType, Typing, unchecked}
use Rattle.rec_check.specs.Violations.{resolves}
use Rattle.rec_text.specs.Bytes.{is_among}
use Rattle.rec_check.proofs.lemmas.field_types.LastLemmas.{IfBoth, IfBoth-if, IfBoth-last, IfBoth-map}

abbrev SomeType : Type 0
SomeType = FieldType Re

-- no type, or the same
abbrev pub AreSameIfAny : Option (FieldType Re) → Option (FieldType Re) → Type 0
AreSameIfAny one other = IfBoth AreSameTypes one other

-- no definition, or the same
abbrev AreSameIfDefined : Option Definition → Option Definition → Type 0
AreSameIfDefined one other = IfBoth AreSameDefinitions one other

same_last : (definitions others : List Definition) (name : List ℕ) → AllZip AreSameDefinitions definitions others → AreSameIfDefined (last_definition definitions name) (last_definition others name)
same_last definitions others name same =
    IfBoth-last AreSameDefinitions (λ definition. bytes_eq definition.name name) (λ one other alike. ap (λ own. bytes_eq own name) alike.name) definitions others same

-- ---- what kinds mean

same_unwrapped : (one other : Option SomeType) → AreSameIfAny one other → AreSameTypes (unwrap_or one unchecked) (unwrap_or other unchecked)
same_unwrapped None None same = refl
same_unwrapped None (Some other) same = absurd same
same_unwrapped (Some one) None same = absurd same
same_unwrapped (Some one) (Some other) same = same

same_is_some : (one other : Option SomeType) → AreSameIfAny one other → is_some one ≡ is_some other
same_is_some None None same = refl
same_is_some None (Some other) same = absurd same
same_is_some (Some one) None same = absurd same
same_is_some (Some one) (Some other) same = refl

module _ (definitions others : List Definition) (same : AllZip AreSameDefinitions definitions others) where
  AreSameWithin : ℕ → Type 0
  AreSameWithin most = (kind : List ℕ) (one other : SomeType) → AreSameTypes one other → AreSameIfAny (meaning_within most definitions kind one) (meaning_within most others kind other)

  same_step : (most : ℕ) → AreSameWithin most → (one other : Option Definition) → AreSameIfDefined one other
      → AreSameIfAny (option_and_then (λ step. meaning_within most definitions step.kind step.value_type) one) (option_and_then (λ step. meaning_within most others step.kind step.value_type) other)
  unfolding AreSameWithin
  same_step most within None None alike = tt
  same_step most within None (Some other) alike = absurd alike
  same_step most within (Some one) None alike = absurd alike
  same_step most within (Some one) (Some other) alike =
      subst (λ k. AreSameIfAny (meaning_within most definitions one.kind one.value_type) (meaning_within most others k other.value_type)) alike.kind
      (within one.kind one.value_type other.value_type alike.value_type)

  same_within : (most : ℕ) → AreSameWithin most
  unfolding AreSameWithin
  same_within zero = λ kind one other alike. IfBoth-if AreSameTypes (is_known_kind kind) one other None None alike tt
  same_within (suc most) = λ kind one other alike.
      IfBoth-if AreSameTypes (is_known_kind kind) one other _ _ alike (same_step most (same_within most) (last_definition definitions kind) (last_definition others kind)
      (same_last definitions others kind same))

  pub same_meaning : (kind : List ℕ) (one other : SomeType) → AreSameTypes one other → AreSameIfAny (meaning_in definitions kind one) (meaning_in others kind other)
  unfolding AreSameWithin meaning_in
  same_meaning kind one other alike =
      let size : length definitions ≡ length others = omega (arith, AllZip-long AreSameDefinitions definitions others same) in
      subst (λ n. AreSameIfAny (meaning_within (length definitions) definitions kind one) (meaning_within n others kind other)) size (same_within (length definitions) kind one other alike)

  pub same_resolves : (kind : List ℕ) → resolves definitions kind ≡ resolves others kind
  same_resolves kind = same_is_some (meaning_in definitions kind unchecked) (meaning_in others kind unchecked) (same_meaning kind unchecked unchecked refl)

  same_type_by : (one other : Typing) → AreSameTypings one other → AreSameTypes (type_by (meaning_in definitions) one) (type_by (meaning_in others) other)
  same_type_by one other alike =
      let P : List ℕ → Type 0 = λ k. AreSameIfAny (meaning_in definitions one.kind one.value_type) (meaning_in others k other.value_type) in
      same_unwrapped (meaning_in definitions one.kind one.value_type) (meaning_in others other.kind other.value_type)
      (subst P alike.kind (same_meaning one.kind one.value_type other.value_type alike.value_type))

pub same_field_type : (one other : Rules) (name : List ℕ) → AreSameRules one other → AreSameIfAny (field_type one name) (field_type other name)
same_field_type one other name same =
    IfBoth-map AreSameTypings AreSameTypes (type_by (meaning_in one.definitions)) (type_by (meaning_in other.definitions)) (same_type_by one.definitions other.definitions same.definitions)
    (typing_for one.types name) (typing_for other.types name)
    (IfBoth-last AreSameTypings (λ typing. is_among typing.names name) (λ first second alike. ap (λ names. is_among names name) alike.names) one.types other.types same.types)
