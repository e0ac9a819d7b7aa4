use Rattle.std.proofs.Common.{◌≡◌}
use Rattle.rec_diff.specs.Keeping.{HasWhatIsLeft}
use Rattle.rec_diff.specs.proving.Keeping.{IsPutOf}
use Rattle.rec_diff.specs.proving.Reading.{placed_of}
use Rattle.rec_diff.proofs.lemmas.reverting.KeepingLemmas.{is_not, no_fact}
use Rattle.rec_diff.proofs.reverting.keeping.known.Known.is_put_of.Goals as goal

pub returns-then-not-has_what_is_left : goal.returns-then-not-has_what_is_left
returns-then-not-has_what_is_left c = λ ahead back one other own beside at at_too its_at.
    let (ts, are) = beside.ahead_turns in
    let r = c.args.self.readings.now in
    no_fact (IsPutOf ahead back (placed_of r.before) (placed_of r.here) (placed_of r.left) one other own)
    (λ put.
    is_not c.has_what_is_left.result (HasWhatIsLeft ahead (placed_of r.before) one (placed_of r.left) own × (one.record_type ≡ own.record_type))
    (c.has_what_is_left.ensures ahead ts one own are beside.of_before at its_at) c.if-not-has_what_is_left.true (put.of_old, put.old_type))

pub returns : goal.returns
returns c = λ ahead back one other own beside at at_too its_at.
    let (ts, are) = beside.ahead_turns in
    let (us, are_too) = beside.back_turns in
    let is = c.has_what_is_left.ensures ahead ts one own are beside.of_before at its_at in
    let is_too = c.has_what_is_left-2.ensures back us other own are_too beside.of_here at_too its_at in (
      λ e. let (has, type) = is.0 c.if-not-has_what_is_left.false in let (has_too, type_too) = is_too.0 e in record { of_old = has; of_new = has_too; old_type = type; new_type = type_too },
      λ put. is_too.1 (put.of_new, put.new_type),
    )
