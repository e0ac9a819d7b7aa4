-- What is read of a field's name with a value: each example computes.
use Rattle.std.proofs.Common.{◌≡◌, ℕ, List, Result, Ok, Err, refl, codes}
use Rattle.rec_text.specs.declared.fault.Fault.{Fault}
use Rattle.rec_text.specs.declared.fault.Fault.TheVariants.{BadName}
use Rattle.rec_select.specs.declared.field_value.FieldValue.{FieldValue}
use Rattle.rec_select.specs.FieldValues.{field_value_of}

abbrev read_as : List ℕ → List ℕ → Result FieldValue Fault
read_as name value = Ok (record { name = name; value = value })

a_value : field_value_of (codes "Name=Ann") ≡ read_as (codes "Name") (codes "Ann")
a_value = refl

-- the value goes to the end, whatever its bytes
equals_in_a_value : field_value_of (codes "A_1=b=c ") ≡ read_as (codes "A_1") (codes "b=c ")
equals_in_a_value = refl

empty_value : field_value_of (codes "%a=") ≡ read_as (codes "%a") (codes "")
empty_value = refl

-- no name comes first
nothing : field_value_of (codes "") ≡ Err BadName
nothing = refl

no_name : field_value_of (codes "=Ann") ≡ Err BadName
no_name = refl

digit_first : field_value_of (codes "1=Ann") ≡ Err BadName
digit_first = refl

-- something else than an equals sign stands after the name
name_alone : field_value_of (codes "Name") ≡ Err BadName
name_alone = refl

blank_in_a_name : field_value_of (codes "Full Name=Ann") ≡ Err BadName
blank_in_a_name = refl

index_of_a_name : field_value_of (codes "Name[0]=Ann") ≡ Err BadName
index_of_a_name = refl

percent_in_a_name : field_value_of (codes "A%=Ann") ≡ Err BadName
percent_in_a_name = refl
