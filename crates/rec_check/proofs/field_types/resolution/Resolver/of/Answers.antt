use Rattle.std.proofs.Common.{◌∙◌, ap, map, subst, sym, arith}
use Rattle.std.proofs.lemmas.List.{with_items_is}
use Rattle.std.specs.Vec.{with_items}
use Rattle.rec_check.specs.proving.Fitting.{place_of}
use Rattle.rec_check.specs.proving.Resolved.{AreRight, open_at}
use Rattle.rec_check.specs.Stored.{definition_stored}
use Rattle.rec_check.proofs.lemmas.field_types.ResolvedLemmas.{meaning_by-is}
use Rattle.rec_check.proofs.field_types.resolution.Resolver.of.Goals as goal

pub returns : goal.returns
returns c =
    let definitions = map definition_stored c.args.definitions.now in
    let items = with_items_is c.in_ok-meanings.meanings c.resolve_all.new.meanings (omega (arith, c.resolve_all.auto.meanings, c.deref_mut.ensures.len)) in
    let right = c.in_ok-resolve_all.ensures.right definitions (subst (λ l. AreRight definitions l) (sym c.deref_mut.ensures.value) c.in_ok-meanings.ensures) in
    meaning_by-is definitions (place_of c.in_ok-places.places) (with_items c.in_ok-meanings.meanings c.resolve_all.new.meanings).items c.in_ok-places.ensures
    (subst (λ l. AreRight definitions l) (sym items) right) (λ at. ap (λ l. open_at l at) items ∙ c.in_ok-resolve_all.ensures.settled at)
