-- The greatest reading of a counter's fields, number by number, and the number after it.
use Rattle.std.specs.Prelude.{◌≡◌, ℕ, ℤ, pos, ◌+ℤ◌, int_lt, true, List, [], ◌∷◌, filter_map, Option, Some, None, Result}
use Rattle.std.specs.Prelude.{Ok, Err, if◌then◌else◌}
use Rattle.rec_text.specs.declared.fault.Fault.{Fault}
use Rattle.rec_text.specs.declared.fault.Fault.TheVariants.{AutoImpossible}
use Rattle.rec_text.specs.Elements.{Piece}
use Rattle.rec_sex.specs.Integers.{int_of}
use Rattle.rec_sex.specs.Meaning.{values_of}
use Rattle.rec_check.specs.Automatic.{last_integer}

-- the integer readings of the fields of a name in one record
abbrev pub readings_in : List ℕ → List Piece → List ℤ
readings_in name fields = filter_map int_of (values_of name fields)

-- the greater of a number and the greatest so far, where there is one
abbrev pub greater : Option ℤ → Option ℤ → Option ℤ
greater so_far None = so_far
greater None (Some z) = Some z
greater (Some greatest) (Some z) = Some (if int_lt z greatest then greatest else z)

-- the greatest of these numbers and of those so far; none where there is none
abbrev pub greatest_from : Option ℤ → List ℤ → Option ℤ
greatest_from so_far [] = so_far
greatest_from so_far (z ∷ numbers) = greatest_from (greater so_far (Some z)) numbers

-- one more than the greatest, 0 where there is none; nothing stands after the last integer
abbrev pub IsNextNumber : Option ℤ → Result ℤ Fault → Type 0
IsNextNumber None (Ok z) = z ≡ pos 0
IsNextNumber (Some greatest) (Ok z) = (int_lt greatest last_integer ≡ true) × (z ≡ greatest +ℤ pos 1)
IsNextNumber greatest (Err AutoImpossible) = greatest ≡ Some last_integer
IsNextNumber greatest (Err _) = ⊥
