-- What a request does by calls of its home, while nothing is printed.
use Rattle.std.specs.Prelude.{List}
use Rattle.rec_tools.specs.Home.{Call, Went}
use Rattle.rec_tools.specs.Printouts.{Printed, IsSilence}
use Rattle.rec_tools.specs.Asked.{Asked}
use Rattle.rec_tools.specs.Attempts.{Answer, Attempts}

-- the calls were made, and they stand in a relation
abbrev pub ByCalls : {H : Type 0} → (H → Call → H → Type 0) → H → H → (List Call → Type 0) → Type 0
ByCalls {H} goes old new P = (calls : List Call) × Went goes old calls new × P calls

-- this was done by some calls, while nothing went out
abbrev pub DoesSilently : {H : Type 0} → (H → Call → H → Type 0) → H → H → Asked → Answer → Type 0
DoesSilently goes old new asked answer =
    (calls : List Call) × ((p : Printed) → IsSilence p → Attempts goes old new asked answer calls p)
