use Rattle.std.proofs.Common.{◌∙◌, ◌||◌, ap, sym}
use Rattle.std.proofs.lemmas.Bool.{not-false}
use Rattle.std.specs.Cow.{cow_slice_items}
use Rattle.std.specs.Str.{bytes_eq}
use Rattle.rec_check.specs.proving.Keys.{has_taken}
use Rattle.rec_sex.proofs.lemmas.meaning.PlaceLemmas.{has-put}
use Rattle.rec_check.proofs.checks.key.Key.take.Goals as goal

pub returns-clause-taken : goal.returns-clause-taken
returns-clause-taken c = λ other.
    has-put cow_slice_items c.args.self.now.taken c.insert.new.self c.into_cow.result c.in_ok-is_new.is_new c.in_ok-is_new.ensures.keys
    (λ old. not-false _ (sym c.in_ok-is_new.ensures.added ∙ old)) other
    ∙ ap (λ value. has_taken c.args.self.now other || bytes_eq other value) c.into_cow.ensures
