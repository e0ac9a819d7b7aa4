use Rattle.std.proofs.Common.{◌∙◌, ap, sym, refl, arith}
use Rattle.std.proofs.lemmas.Bool.Decides.{nat_tests}
use Rattle.std.specs.List.{list_all}
use Rattle.rec_check.specs.Types.{is_item, one_of}
use Rattle.rec_check.specs.Words.{words}
use Rattle.rec_check.proofs.lemmas.field_types.KindLemmas.{enum_type-items}
use Rattle.rec_check.proofs.field_types.enumeration.enum_type.Goals as goal

pub returns : goal.returns
returns c =
    let items = c.in_ok-items.items.items in
    let are = ap (list_all is_item) (sym c.deref-else-is_empty.ensures.value) ∙ sym c.are_items.ensures ∙ c.if-not-are_items.false in (
      one_of items,
      enum_type-items c.args.text.now c.in-Some.kept.items items (rw c.in-Some.is at c.in_ok-kept.ensures) (c.in_ok-items.ensures ∙ ap words c.deref.ensures.value) (grind (arith, nat_tests)) are,
      refl,
    )
