use Rattle.std.proofs.Common.{◌≡◌, ◌∙◌, ◌&&◌, ℤ, ap, ap₂, sym, arith}
use Rattle.std.proofs.Math.Facts.{to_z-of_z}
use Rattle.std.proofs.lemmas.Int.{ints}
use Rattle.std.specs.Int.Signed.{le_z}
use Rattle.std.specs.Prelude.{int_lt, not}
use Rattle.rec_check.proofs.field_types.test.lies_between.Goals as goal

-- at most is not greater
le_z-not : (a b : ℤ) → le_z a b ≡ not (int_lt b a)
le_z-not a b = grind (arith, ints)

pub returns-then-least-integer : goal.returns-then-least-integer
returns-then-least-integer c =
    let least = ap₂ le_z (to_z-of_z c.ranges.least) (to_z-of_z c.ranges.integer) ∙ le_z-not c.args.least c.args.integer in
    let greatest = ap₂ le_z (to_z-of_z c.ranges.integer) (to_z-of_z c.ranges.greatest) ∙ le_z-not c.args.integer c.args.greatest in
    greatest ∙ ap (λ b. b && not (int_lt c.args.greatest c.args.integer)) (sym c.if-least-integer.true ∙ least)

pub returns-else-least-integer : goal.returns-else-least-integer
returns-else-least-integer c =
    let least = ap₂ le_z (to_z-of_z c.ranges.least) (to_z-of_z c.ranges.integer) ∙ le_z-not c.args.least c.args.integer in
    c.if-least-integer.false ∙ ap (λ b. b && not (int_lt c.args.greatest c.args.integer)) (sym c.if-least-integer.false ∙ least)
