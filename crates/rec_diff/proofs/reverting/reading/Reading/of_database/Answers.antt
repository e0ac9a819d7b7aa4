use Rattle.std.proofs.Common.{◌≡◌, ◌∙◌, ◌++◌, ◌-◌, ℕ, Option, None, ap, append-nil, length, replicate, subst, sym, take}
use Rattle.rec_text.specs.Records.{AreRecords}
use Rattle.rec_diff.specs.proving.Reading.{AreReadSoFar, ranges_of}
use Rattle.rec_diff.proofs.lemmas.reverting.ReadingLemmas.{reading_is}
use Rattle.rec_diff.proofs.reverting.reading.Reading.of_database.Goals as goal

pub returns-clause-read : goal.returns-clause-read
returns-clause-read c =
    let s = c.loop-range.records in
    let count = length c.elements-elements.result.now in
    let ranges : ranges_of s.each.items ≡ c.records-range-items.result =
    sym (append-nil (ranges_of s.each.items)) ∙ ap (λ l. ranges_of s.each.items ++ l) (sym c.in-None.ensures.steps.0) ∙ c.loop-range.invariant.ranges
    ∙ c.into_iter-range-iterator.ensures.into_iter_gives in
    reading_is (record { database = c.args.database; records = record { each = s.each; fields = s.fields; owners = c.resize.new.self; types = s.types } }) s.owners.items count
    (subst (λ pieces. AreReadSoFar pieces s.each.items s.fields.items s.owners.items s.types.items) c.elements-elements.ensures.pieces c.loop-range.invariant.so_far)
    c.loop-range.invariant.fit
    (c.in_ok-resize.ensures.items ∙ ap (λ n. take count s.owners.items ++ replicate {A = Option ℕ} (count - n) None) s.owners.ok.0)
    c.elements-elements.ensures.whole (subst (AreRecords c.args.database) (sym ranges) c.records-range-items.ensures)
