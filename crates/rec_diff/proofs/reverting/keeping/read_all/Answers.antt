use Rattle.std.proofs.Common.{◌≡◌}
use Rattle.std.proofs.lemmas.Option.{MatchOption-at_none}
use Rattle.rec_diff.specs.Placed.{IsPlaced, PlacedText}
use Rattle.rec_diff.specs.proving.Reading.{IsReading, text_of_reading}
use Rattle.rec_diff.proofs.lemmas.reverting.StepLemmas.{none_of}
use Rattle.rec_diff.proofs.reverting.keeping.read_all.Goals as goal

pub returns-in_default-clause-read : goal.returns-in_default-clause-read
returns-in_default-clause-read c = λ before after here rest is_before is_after is_here is_rest.
    let text = c.args.left.now in
    MatchOption-at_none ((p : PlacedText) → IsPlaced text p → ⊥) (λ r. IsReading r × (text_of_reading r ≡ text))
    (none_of c.in_ok-left.field-0 c.in_default.not-Some) c.in_ok-left.ensures.read rest is_rest

pub returns-in_default-2-clause-read : goal.returns-in_default-2-clause-read
returns-in_default-2-clause-read c = λ before after here rest is_before is_after is_here is_rest.
    let text = c.args.edits.here.now in
    MatchOption-at_none ((p : PlacedText) → IsPlaced text p → ⊥) (λ r. IsReading r × (text_of_reading r ≡ text))
    (none_of c.in_ok-here.field-0 c.in_default-2.not-Some) c.in_ok-here.ensures.read here is_here

pub returns-in_default-3-clause-read : goal.returns-in_default-3-clause-read
returns-in_default-3-clause-read c = λ before after here rest is_before is_after is_here is_rest.
    let text = c.args.edits.before.now in
    MatchOption-at_none ((p : PlacedText) → IsPlaced text p → ⊥) (λ r. IsReading r × (text_of_reading r ≡ text))
    (none_of c.in_ok-before.field-0 c.in_default-3.not-Some) c.in_ok-before.ensures.read before is_before

pub returns-in_default-4-clause-read : goal.returns-in_default-4-clause-read
returns-in_default-4-clause-read c = λ before after here rest is_before is_after is_here is_rest.
    let text = c.args.edits.after.now in
    MatchOption-at_none ((p : PlacedText) → IsPlaced text p → ⊥) (λ r. IsReading r × (text_of_reading r ≡ text))
    (none_of c.in_ok-after.field-0 c.in_default-4.not-Some) c.in_ok-after.ensures.read after is_after
