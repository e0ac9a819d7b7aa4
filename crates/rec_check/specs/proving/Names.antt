-- The names that a record may have.
use Rattle.std.specs.Prelude.{ℕ, Bool, true, List}
use Rattle.std.specs.Option.{option_map_or}
use Rattle.rec_sex.specs.proving.Choices.{has_name}
use Rattle.rec_check.specs.declared.checks.allowed.Allowed.{Allowed}

abbrev pub allows : Allowed → List ℕ → Bool
allows allowed name = option_map_or (λ names. has_name names name) allowed.names true
