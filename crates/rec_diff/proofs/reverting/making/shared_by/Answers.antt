use Rattle.rec_diff.specs.proving.Reading.{placed_of}
use Rattle.rec_diff.proofs.lemmas.reverting.AmongLemmas.{are_shared, no_other_field, no_own_field}
use Rattle.rec_diff.proofs.reverting.making.shared_by.Goals as goal

pub returns-in_default-owner_of : goal.returns-in_default-owner_of
returns-in_default-owner_of c =
    no_other_field (placed_of c.args.one.now) (placed_of c.args.other.now) c.args.index c.in-Some.number c.args.number c.owner_of.result c.in-Some.is c.in_default-owner_of.not-Some c.owner_of.ensures

pub returns-in_default-owner_of-2 : goal.returns-in_default-owner_of-2
returns-in_default-owner_of-2 c =
    no_own_field (placed_of c.args.one.now) (placed_of c.args.other.now) c.args.index c.args.number c.owner_of-2.result c.in_default-owner_of-2.not-Some c.owner_of-2.ensures

pub returns : goal.returns
returns c =
    are_shared (placed_of c.args.one.now) (placed_of c.args.other.now)
    c.args.index c.in-Some.number c.in-Some-owner_of-2.own c.in-Some-owner_of.another c.args.number c.owner_of-2.result c.owner_of.result
    c.in-Some.is c.in-Some-owner_of-2.is c.in-Some-owner_of.is c.owner_of-2.ensures c.owner_of.ensures
