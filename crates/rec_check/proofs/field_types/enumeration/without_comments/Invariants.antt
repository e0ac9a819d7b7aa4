use Rattle.std.proofs.Common.{◌≡◌, ◌++◌, drop}
use Rattle.std.specs.Prelude.{option_map, if◌then◌else◌}
use Rattle.rec_check.specs.Types.{without_comments, after_comment}
use Rattle.rec_check.proofs.field_types.enumeration.without_comments.Given as goal

abbrev pub invariant-loop-byte : goal.invariant-loop-byte
invariant-loop-byte l = let rest = drop l.byte-index l.text in
    option_map (λ more. l.kept.items ++ more) (if l.is_comment then after_comment rest else without_comments rest) ≡ without_comments l.text
