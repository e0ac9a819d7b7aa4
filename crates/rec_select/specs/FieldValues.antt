-- A field's name with a value, as they are written together: `Name=Ann`.
use Rattle.std.specs.Prelude.{ℕ, ◌+◌, Bool, List, [], ◌∷◌, ◌&&◌, not, take, drop, Result, Ok, Err, if◌then◌else◌}
use Rattle.std.specs.List.{prefix_len}
use Rattle.rec_text.specs.declared.fault.Fault.{Fault}
use Rattle.rec_text.specs.declared.fault.Fault.TheVariants.{BadName}
use Rattle.rec_text.specs.Ascii.{equals_sign}
use Rattle.rec_text.specs.Bytes.{begins_name, continues_name, is_nil}
use Rattle.rec_sex.specs.IndexList.{begins_with}
use Rattle.rec_select.specs.declared.field_value.FieldValue.{FieldValue}

-- how many bytes at the start of a text are a field's name, as a list of fields has it
abbrev pub name_len : List ℕ → ℕ
name_len [] = 0
name_len (b ∷ bs) = if begins_name b then 1 + prefix_len continues_name bs else 0

-- an equals sign after a name, and the value after that
abbrev pub value_after : List ℕ → List ℕ → Result FieldValue Fault
value_after name rest =
    if not (is_nil name) && begins_with equals_sign rest
    then Ok (record { name = name; value = drop 1 rest })
    else Err BadName

-- the name and the value of a text. No name has an equals sign, so the first one of the text ends it.
abbrev pub field_value_of : List ℕ → Result FieldValue Fault
field_value_of text = value_after (take (name_len text) text) (drop (name_len text) text)
