use Rattle.std.proofs.Common.{◌≡◌, ◌++◌, drop, option_map, option_to_list}
use Rattle.rec_text.specs.Places.{piece_of, pieces_of}
use Rattle.rec_text.specs.Values.{value_of}
use Rattle.rec_sex.specs.Meaning.{values_of}
use Rattle.rec_check.proofs.checks.key.only_field.Given as goal

-- the value of the only field so far, and then those that are left
abbrev pub invariant-loop-field : goal.invariant-loop-field
invariant-loop-field l = values_of l.name (pieces_of l.fields) ≡ option_to_list (option_map (λ field. value_of (piece_of field.now)) l.only)
    ++ values_of l.name (pieces_of (drop l.field-index l.fields))
