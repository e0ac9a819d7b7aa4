-- Which words break a rule of the fields of descriptors.
use Rattle.std.specs.Prelude.{◌≡◌, ℕ, false, List, None}
use Rattle.rec_text.specs.declared.reason.Broken.{Broken}
use Rattle.rec_text.specs.declared.reason.Broken.TheVariants.{TypeName, Commas, FieldName, RangeEnd, Length}
use Rattle.rec_text.specs.declared.reason.Broken.TheVariants.{EnumCommas, EnumWord}
use Rattle.rec_text.specs.Canonical.{is_field_name, is_plain_name}
use Rattle.rec_check.specs.Types.{bound_of, is_item, natural_of}

-- the word breaks the rule; the others are rules of a field as a whole
abbrev pub Breaks : Broken → List ℕ → Type 0
Breaks TypeName word = is_plain_name word ≡ false
Breaks Commas word = is_field_name word ≡ false
Breaks FieldName word = is_field_name word ≡ false
Breaks RangeEnd word = bound_of word ≡ None
Breaks Length word = natural_of word ≡ None
Breaks EnumCommas word = is_item word ≡ false
Breaks EnumWord word = is_item word ≡ false
Breaks _ word = Unit {0}
