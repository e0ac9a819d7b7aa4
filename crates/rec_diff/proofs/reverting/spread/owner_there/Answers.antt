use Rattle.std.proofs.Common.{◌∙◌, ℕ, Option, Some, None, ap, refl, sym}
use Rattle.std.proofs.lemmas.Option.{none-some, same_Some}
use Rattle.rec_diff.specs.proving.Reading.{placed_of}
use Rattle.rec_diff.proofs.lemmas.reverting.ReadingLemmas.{at_read, past_read}
use Rattle.rec_diff.proofs.lemmas.reverting.SpreadLemmas.{found_owner, no_owner}
use Rattle.rec_diff.proofs.reverting.spread.owner_there.Goals as goal

pub returns-in-Some-number : goal.returns-in-Some-number
returns-in-Some-number c =
    let numbers = c.args.numbers.now in
    found_owner numbers (placed_of c.args.other.now) c.args.field c.in-Some-number.number c.owner_of.result
    (at_read numbers numbers c.args.field c.in-Some.number.now refl c.in-Some.ensures.lookup.3.0 c.in-Some.ensures.lookup.1 ∙ ap (λ (n : Option ℕ). Some n) c.in-Some-number.is) c.owner_of.ensures

pub returns-in-None-number : goal.returns-in-None-number
returns-in-None-number c =
    let numbers = c.args.numbers.now in
    no_owner numbers (placed_of c.args.other.now) c.args.field (λ j is.
    none-some j (same_Some None (Some j)
    (sym (at_read numbers numbers c.args.field c.in-Some.number.now refl c.in-Some.ensures.lookup.3.0 c.in-Some.ensures.lookup.1 ∙ ap (λ (n : Option ℕ). Some n) c.in-None-number.is) ∙ is)))

pub returns-in-None : goal.returns-in-None
returns-in-None c =
    let numbers = c.args.numbers.now in
    no_owner numbers (placed_of c.args.other.now) c.args.field
    (λ j is. none-some (Some j) (sym (past_read numbers numbers c.args.field refl c.in-None.ensures.lookup.3) ∙ is))
