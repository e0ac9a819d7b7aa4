use Rattle.std.proofs.Common.{◌≡◌, ◌↔◌, true, Some, slice_get, subst}
use Rattle.std.specs.List.{AllZip}
use Rattle.rec_diff.specs.Keeping.{IsWhole}
use Rattle.rec_diff.proofs.lemmas.reverting.KeepingLemmas.{else_fact, then_fact, whole_numbers, whole_of}
use Rattle.rec_diff.proofs.reverting.keeping.sides.Side.is_whole_of.Goals as goal

pub returns-then-are_numbered : goal.returns-then-are_numbered
returns-then-are_numbered c = λ parts turns old own are side at at_too.
    let mine = c.fields_of.result.now in
    let its = c.fields_of-2.result.now in
    let numbered : (c.are_numbered.result ≡ true) ↔ AllZip (λ i n. slice_get c.args.self.now.of_left.items i ≡ Some (Some n)) mine its =
    subst (λ l. (c.are_numbered.result ≡ true) ↔ AllZip (λ i n. slice_get l i ≡ Some (Some n)) mine its) c.deref.ensures.value c.are_numbered.ensures in
    then_fact c.are_numbered.result c.has_type_of.result (IsWhole parts old own) c.if-are_numbered.true
    (whole_of c.args.text.now c.args.left.now c.requires.text c.requires.left parts turns are c.args.self.now side c.args.record own at_too c.args.one old mine its c.are_numbered.result
    c.has_type_of.result at c.fields_of.ensures c.fields_of-2.ensures numbered c.has_type_of.ensures)

pub returns-else-are_numbered : goal.returns-else-are_numbered
returns-else-are_numbered c = λ parts turns old own are side at at_too.
    let mine = c.fields_of.result.now in
    let its = c.fields_of-2.result.now in
    let numbered : (c.are_numbered.result ≡ true) ↔ AllZip (λ i n. slice_get c.args.self.now.of_left.items i ≡ Some (Some n)) mine its =
    subst (λ l. (c.are_numbered.result ≡ true) ↔ AllZip (λ i n. slice_get l i ≡ Some (Some n)) mine its) c.deref.ensures.value c.are_numbered.ensures in
    else_fact c.are_numbered.result (IsWhole parts old own) c.if-are_numbered.false
    (λ whole. numbered.1
    (whole_numbers c.args.text.now c.args.left.now c.requires.text c.requires.left parts turns are c.args.self.now side c.args.record own at_too c.args.one old mine its at c.fields_of.ensures
    c.fields_of-2.ensures whole))
