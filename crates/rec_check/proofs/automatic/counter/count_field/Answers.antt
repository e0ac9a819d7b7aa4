use Rattle.std.proofs.Common.{◌∙◌, Some, cond, ap, sym}
use Rattle.std.proofs.lemmas.Map.Text.{hash_map_updates_str}
use Rattle.std.specs.Str.{bytes_eq}
use Rattle.rec_text.specs.Places.{piece_of}
use Rattle.rec_check.specs.Counters.{greatest_at}
use Rattle.rec_check.proofs.lemmas.automatic.CountLemmas.{field_uncounted, field_counted}
use Rattle.rec_check.proofs.automatic.counter.count_field.Goals as goal

pub returns-in_default-clause-counts : goal.returns-in_default-clause-counts
returns-in_default-clause-counts c =
    field_uncounted (greatest_at c.args.greatest.now) (piece_of c.args.field.now) c.name-name.result.now c.name-name.ensures (sym c.get.ensures.value ∙ sym c.copied.ensures ∙ c.in_default.is)

pub returns-clause-counts : goal.returns-clause-counts
returns-clause-counts c =
    let own = c.name-name.result.now in
    field_counted (greatest_at c.args.greatest.now) (piece_of c.args.field.now) own c.name-name.ensures (greatest_at c.insert.new.self) c.in-Some.so_far c.in_ok-number.number
    (sym c.get.ensures.value ∙ sym c.copied.ensures ∙ c.in-Some.is) c.in_ok-number.ensures.reading
    (λ name. hash_map_updates_str own c.args.greatest.now c.insert.new.self _ c.in_ok-insert.ensures.updates name
    ∙ ap (λ g. cond (bytes_eq own name) (Some g) (greatest_at c.args.greatest.now name)) c.greater.ensures)
