-- Moves through the edit of a number, on a home, and a dry run of them on a sink.
use Rattle.std.specs.Prelude.{ℕ, ◌≤◌, List, [], ◌∷◌, Option, Some, None, IfOk}
use Rattle.rec_journal.specs.declared.patch.Direction.{Direction}
use Rattle.rec_tools.specs.declared.decision.NewFile.{NewFile}
use Rattle.rec_tools.specs.declared.home.Which.TheVariants.{Base as TheFile, Journal as TheJournal}
use Rattle.rec_tools.specs.declared.through.Through.{Through}
use Rattle.rec_tools.specs.Printouts.{Printed, WentOut, IsSilence}
use Rattle.rec_diff.specs.declared.style.DiffStyle.{DiffStyle}
use Rattle.rec_tools.specs.Home.{Contents, Call}
use Rattle.rec_tools.specs.Requests.{change_of, as_diff}
use Rattle.rec_tools.specs.Asked.{AskedChange, previewing}
use Rattle.rec_tools.specs.Attempts.{Answer, AttemptsAll, Does, gots}
use Rattle.rec_tools.specs.Through.{move_through, moves_through, EndsThrough, WouldLeave, PreviewsAgain}

-- by calls of the home they were answered so, while nothing was printed, and this is told of them
abbrev pub GoesThrough : {H : Type 0} → (H → Call → H → Type 0) → Direction → ℕ → H → H → Through → Type 0
GoesThrough goes direction number old new told =
    (answers : List Answer) × EndsThrough direction number answers told
    × (calls : List Call) × (p : Printed) × IsSilence p
    × AttemptsAll goes old new (moves_through direction number answers) answers calls p

-- a file, or the new one, if there is one
abbrev pub turned : List ℕ → Option NewFile → List ℕ
turned file None = file
turned file (Some new) = new.text

-- A change was previewed on the one contents, with this answer; where it isn't refused, it would leave the
-- others. The count of failures of the sink didn't fall.
abbrev pub IsDryMove : {S : Type 0} → (S → Option (List ℕ)) → (S → ℕ) → DiffStyle → AskedChange → Contents
    → Contents → S → S → Answer → Type 0
IsDryMove told failures style change c d out now answer = (p : Printed) × WentOut told failures out now p
    × (p.before ≤ p.after)
    × Does c (previewing (as_diff style) change) answer (gots c (TheFile ∷ TheJournal ∷ [])) p
    × IfOk answer (λ reply. WouldLeave c change reply d)

-- on contents in memory, which became the last, they were previewed so, and this is told of them
abbrev pub GoesDry : {S : Type 0} → (S → Option (List ℕ)) → (S → ℕ) → DiffStyle → Direction → ℕ → Contents → Contents
    → S → S → Through → Type 0
GoesDry told failures style direction number c last out now ended =
    (answers : List Answer) × EndsThrough direction number answers ended
    × (p : Printed) × WentOut told failures out now p
    × PreviewsAgain style (change_of (move_through direction number)) c answers p last
