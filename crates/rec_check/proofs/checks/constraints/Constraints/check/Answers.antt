use Rattle.std.proofs.Common.{refl, ap, ◌∙◌, ◌+◌, length, map, get_or, arith}
use Rattle.std.proofs.lemmas.List.{length-map, with_items_is}
use Rattle.rec_text.specs.Places.{pieces_of}
use Rattle.rec_sex.proofs.lemmas.meaning.PatternLemmas.{map-set_same}
use Rattle.rec_sex.specs.Searching.{searched}
use Rattle.rec_check.specs.proving.Constraints.{terms_in}
use Rattle.rec_check.proofs.lemmas.checks.ConstraintLemmas.{AddsUnselected-none, AddsUnselected-selected, AddsUnselected-added, AddsUnselected-all, made_within, made_at}
use Rattle.rec_check.proofs.checks.constraints.Constraints.check.Goals as goal

pub loop-i-init : goal.loop-i-init
loop-i-init c = record {
  same = ap (map searched) c.deref_mut-search-items.ensures.value;
  added = AddsUnselected-none c.args.line (pieces_of c.args.fields.now) c.args.found.now.items c.args.found.now.items (terms_in c.args.self.now) refl;
}

pub loop-i-preserved-then-branch : goal.loop-i-preserved-then-branch
loop-i-preserved-then-branch c =
    let items = c.loop-i.search-items in
    let d = c.search-item.result in
    record {
      same = map-set_same searched items c.loop-i.i d c.selects.new.self (omega arith) c.selects.ensures.same ∙ c.loop-i.invariant.same;
      added =
          AddsUnselected-selected c.args.line (pieces_of c.args.fields.now) c.args.found.now.items c.loop-i.found.items (terms_in c.args.self.now) c.loop-i.i (searched (get_or items c.loop-i.i d))
          (made_within searched items (terms_in c.args.self.now) c.loop-i.i d c.loop-i.invariant.same (omega arith))
          (made_at searched items (terms_in c.args.self.now) c.loop-i.i d c.loop-i.invariant.same (omega arith))
          c.loop-i.invariant.added c.in_ok-selects.field-0 c.in_ok-selects.ensures.selects c.if-branch.true;
    }

pub loop-i-preserved : goal.loop-i-preserved
loop-i-preserved c =
    let items = c.loop-i.search-items in
    let d = c.search-item.result in
    record {
      same = map-set_same searched items c.loop-i.i d c.selects.new.self (omega arith) c.selects.ensures.same ∙ c.loop-i.invariant.same;
      added =
          AddsUnselected-added c.args.line (pieces_of c.args.fields.now) c.args.found.now.items c.loop-i.found.items (terms_in c.args.self.now) c.loop-i.i (searched (get_or items c.loop-i.i d))
          (made_within searched items (terms_in c.args.self.now) c.loop-i.i d c.loop-i.invariant.same (omega arith))
          (made_at searched items (terms_in c.args.self.now) c.loop-i.i d c.loop-i.invariant.same (omega arith))
          c.loop-i.invariant.added c.in_ok-selects.field-0 c.in_ok-selects.ensures.selects (c.loop-i.i + 1) c.add_numbered.new.found.items c.if-branch.false refl c.in_ok-add_numbered.ensures.added;
    }

pub returns-clause-added : goal.returns-clause-added
returns-clause-added c =
    AddsUnselected-all c.args.line (pieces_of c.args.fields.now) c.args.found.now.items c.loop-i.found.items (terms_in c.args.self.now) c.loop-i.i
    (omega (arith, length-map c.loop-i.search-items searched, ap length c.loop-i.invariant.same)) c.loop-i.invariant.added

pub returns-clause-same : goal.returns-clause-same
returns-clause-same c = ap (map searched) (with_items_is c.args.self.now.searches c.loop-i.search-items (omega (arith, c.loop-i.auto.search-items, c.deref_mut-search-items.ensures.len)))
    ∙ c.loop-i.invariant.same
