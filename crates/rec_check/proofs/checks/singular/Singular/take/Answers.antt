use Rattle.std.proofs.Common.{◌≡◌, ◌∙◌, ◌||◌, ◌&&◌, ap, eqb, get_or, option_map, subst, sym, IfSome}
use Rattle.std.proofs.lemmas.Bool.{not-false}
use Rattle.std.specs.Cow.{cow_slice_items}
use Rattle.std.specs.Str.{bytes_eq}
use Rattle.rec_text.specs.Places.{piece_of}
use Rattle.rec_text.specs.Values.{value_of}
use Rattle.rec_check.specs.proving.Singulars.{has_seen, has_seen_at}
use Rattle.rec_text.specs.Bytes.{is_among}
use Rattle.rec_check.proofs.lemmas.checks.NameLemmas.{no_element}
use Rattle.rec_check.proofs.lemmas.checks.NamePlaceLemmas.{no_option}
use Rattle.rec_check.proofs.lemmas.checks.SingularLemmas.{seen-put, seen_more, seen_other, seen_own}
use Rattle.rec_check.proofs.checks.singular.Singular.take.Goals as goal

pub loop-field-preserved-in_default : goal.loop-field-preserved-in_default
loop-field-preserved-in_default c =
    let own = c.loop-field.self in
    let i = c.loop-field.field-index in
    let piece = piece_of (get_or c.args.fields.now i no_element) in
    let none = sym c.in_ok-item.ensures.place ∙ ap (option_map (λ one. one.0)) (no_option c.in_ok-item.field-0 c.in_default.not-Some) in
    record {
      names = c.loop-field.invariant.names;
      seen = λ name value among.
          let listed = ap (λ l. is_among l name) c.loop-field.invariant.names ∙ among in
          seen_more c.args.fields.now i no_element name value (has_seen c.args.self.now name value) (has_seen own name value) (has_seen own name value) c.loop-field-test.true
          (c.loop-field.invariant.seen name value among) (seen_other own.names piece name value listed (has_seen_at own) none);
    }

pub loop-field-preserved : goal.loop-field-preserved
loop-field-preserved c =
    let own = c.loop-field.self in
    let new = record own { seen = c.insert.new.self } in
    let i = c.loop-field.field-index in
    let piece = piece_of (get_or c.args.fields.now i no_element) in
    let item = c.in-Some.item in
    let at = sym c.in_ok-item.ensures.place ∙ ap (option_map (λ one. one.0)) c.in-Some.is in
    let value_is : cow_slice_items item.1 ≡ value_of piece = subst (λ o. IfSome o (λ one. cow_slice_items one.1 ≡ value_of piece)) c.in-Some.is c.in_ok-item.ensures.value in
    record {
      names = c.loop-field.invariant.names;
      seen = λ name value among.
          let listed = ap (λ l. is_among l name) c.loop-field.invariant.names ∙ among in
          seen_more c.args.fields.now i no_element name value (has_seen c.args.self.now name value) (has_seen own name value) (has_seen new name value) c.loop-field-test.true
          (c.loop-field.invariant.seen name value among)
          (seen_own own.names piece name value listed (has_seen_at own) (has_seen_at new) item.0 at
          (λ value place.
          seen-put (λ one. one.0) (λ one. cow_slice_items one.1) own.seen c.insert.new.self item c.in_ok-insert.field-0 c.in_ok-insert.ensures.keys
          (λ old. not-false _ (sym c.in_ok-insert.ensures.added ∙ old)) value place
          ∙ ap (λ bytes. has_seen_at own value place || (eqb place item.0 && bytes_eq value bytes)) value_is));
    }
