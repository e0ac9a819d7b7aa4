-- What the getters of the matches read: flags, and paths instead of equal ones.
use Rattle.std.proofs.Common.{◌≡◌, Bool, true, false, List, [], map, refl, ap, subst, codes, Bor, Option, Some, None, option_map}
use Rattle.std.specs.Option.{option_map_or, unwrap_or}
use Rattle.std.specs.Str.{bytes_eq}
use Rattle.std.specs.Str.Parse.{ParsesBool}
use Rattle.std.proofs.lemmas.Slice.Eq.{bytes_eq-Decides}
use Rattle.clap.specs.Words.{ReadsOne, Text}
use Rattle.rec_command.specs.declared.args.JournalPath.{JournalPath}
use Rattle.rec_command.specs.declared.args.Order.{Order}
use Rattle.rec_command.specs.Words.{IsJournal}

false_unless : (b : Bool) → (b ≡ true → ⊥) → false ≡ b
false_unless true h = absurd (h refl)
false_unless false h = refl

-- the texts of an option, none where it isn't given
pub texts_read : (given : Option (Bor (List (Bor Text)))) (none : Bor (List (Bor Text))) (texts : Option (List Text)) → none.now ≡ []
    → option_map (λ all. map (λ text. text.now) all.now) given ≡ texts → map (λ text. text.now) (unwrap_or given none).now ≡ unwrap_or texts []
texts_read None none texts empty is = subst (λ all. map (λ text. text.now) none.now ≡ unwrap_or all []) is (ap (map (λ text. text.now)) empty)
texts_read (Some given) none texts empty is = subst (λ all. map (λ text. text.now) given.now ≡ unwrap_or all []) is refl

-- what is read of a flag's text, or of none
pub flag_read : (E : Type 0) (text : Option Text) (read : Option Bool) → (text ≡ None → read ≡ None)
    → ((t : Text) → text ≡ Some t → ReadsOne (ParsesBool {E = E}) t read)
    → unwrap_or read false ≡ option_map_or (λ t. bytes_eq t (codes "true")) text false
flag_read E None read none some = rw (none refl) refl
flag_read E (Some t) (Some true) none some = rw (some t refl) refl
flag_read E (Some t) (Some false) none some = rw (some t refl) refl
flag_read E (Some t) None none some = false_unless (bytes_eq t (codes "true")) (λ same. (some t refl).1.0 ((bytes_eq-Decides t (codes "true")).0 same))

pub journal_of_same : (order : Order) (file found_file given found_given : Option Text) (journal : JournalPath) → file ≡ found_file → given ≡ found_given
    → IsJournal order file given journal → IsJournal order found_file found_given journal
journal_of_same order file found_file given found_given journal file_is given_is is =
    subst (λ path. IsJournal order path found_given journal) file_is (subst (λ path. IsJournal order file path journal) given_is is)
