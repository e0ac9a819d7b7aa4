-- The refusals of a request.
use Rattle.rec_text.specs.declared.fault.Fault.{Fault}
use Rattle.rec_text.specs.declared.fault.Fault.TheVariants.{BadUsage}
pub use Rattle.rec_text.specs.Steps.{Then}

-- the refusals that requests have at all: a request was read from words already
abbrev pub IsRefusal : Fault → Type 0
IsRefusal BadUsage = ⊥
IsRefusal _ = Unit {0}
