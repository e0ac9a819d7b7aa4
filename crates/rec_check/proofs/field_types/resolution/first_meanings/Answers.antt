use Rattle.std.proofs.Common.{rules, map, arith}
use Rattle.std.proofs.lemmas.List.{length-map}
use Rattle.rec_check.specs.Stored.{definition_stored}
use Rattle.rec_check.proofs.lemmas.field_types.ResolvedLemmas.{AreRightSoFar-nil, AreRightSoFar-more, AreRightSoFar-all, slice_get-map_at}
use Rattle.rec_check.proofs.field_types.resolution.first_meanings.Goals as goal

pub loop-definition-init : goal.loop-definition-init
loop-definition-init c = AreRightSoFar-nil (map definition_stored c.args.definitions.now) _ (search rules)

pub loop-definition-preserved : goal.loop-definition-preserved
loop-definition-preserved c =
    AreRightSoFar-more (map definition_stored c.args.definitions.now) c.loop-definition.definition-index c.loop-definition.meanings.items _ (definition_stored c.definition-item.result)
    c.first_meaning.result
    c.loop-definition.invariant
    (slice_get-map_at definition_stored c.args.definitions.now c.loop-definition.definition-index c.definition-item.result c.loop-definition-test.true c.definition-item.is)
    (c.first_meaning.ensures (map definition_stored c.args.definitions.now) c.requires)
    c.in_ok-push.ensures.items

pub returns : goal.returns
returns c =
    AreRightSoFar-all (map definition_stored c.args.definitions.now) c.loop-definition.definition-index c.loop-definition.meanings.items c.loop-definition.invariant
    (omega (arith, length-map c.args.definitions.now definition_stored))
