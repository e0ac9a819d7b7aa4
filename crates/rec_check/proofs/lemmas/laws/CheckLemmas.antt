-- A text has one list of violations, or one refusal.
use Rattle.std.proofs.Common.{◌≡◌, ◌≢◌, ℕ, List, Result, Ok, Err, refl, ap, subst, inl, inr}
use Rattle.rec_text.specs.declared.fault.Fault.{Fault}
use Rattle.rec_text.specs.declared.fault.Fault.TheVariants.{BadPattern}
use Rattle.rec_text.specs.declared.violations.Violation.{Violation}
use Rattle.rec_text.specs.Elements.{Piece}
use Rattle.rec_text.specs.Reading.{IsReading}
use Rattle.rec_text.proofs.lemmas.reading.ReadingLemmas.{one_reading}
use Rattle.rec_check.specs.Schemas.{IsSchema}
use Rattle.rec_check.specs.Violations.{AreViolations, AreViolationsOf, OneCheck}
use Rattle.rec_check.proofs.lemmas.laws.OneReportLemmas.{not_refused, one_report}
use Rattle.rec_check.proofs.lemmas.laws.SameLemmas.{one_schema}

abbrev Read : Type 0
Read = Result (List Piece) Fault

same_pieces : (text : List ℕ) (pieces others : List Piece) → IsReading text (Ok pieces) → IsReading text (Ok others) → pieces ≡ others
same_pieces text pieces others read too =
    let same : ◌≡◌ {A = Read} (Ok pieces) (Ok others) = one_reading text (Ok pieces) (Ok others) read too in
    cc

not_both : (text : List ℕ) (pieces : List Piece) (fault : Fault) → IsReading text (Ok pieces) → IsReading text (Err fault) → ⊥
not_both text pieces fault read too =
    let same : ◌≡◌ {A = Read} (Ok pieces) (Err fault) = one_reading text (Ok pieces) (Err fault) read too in
    cc

same_faults : (text : List ℕ) (fault other : Fault) → IsReading text (Err fault) → IsReading text (Err other) → fault ≡ other
same_faults text fault other read too =
    let same : ◌≡◌ {A = Read} (Err fault) (Err other) = one_reading text (Err fault) (Err other) read too in
    cc

other_fault : {X Y : Type 0} (fault : Fault) → ◌≢◌ {A = Result X Fault} (Err fault) (Err BadPattern) → ◌≢◌ {A = Result Y Fault} (Err fault) (Err BadPattern)
other_fault {X} {Y} fault other same =
    let pattern : fault ≡ BadPattern = cc in
    let refused : ◌≡◌ {A = Result X Fault} (Err fault) (Err BadPattern) = ap Err pattern in
    other refused

-- found or refused, not both
not_found : (text : List ℕ) (found : List Violation) (fault : Fault) → AreViolationsOf text (Ok found) → AreViolationsOf text (Err fault)
    → ◌≢◌ {A = Result (List Violation) Fault} (Err fault) (Err BadPattern) → ⊥
not_found text found fault (pieces, schema, read, is, are) (inl unread) other = not_both text pieces fault read unread
not_found text found fault (pieces, schema, read, is, are) (inr (more, read_too, refused)) other =
    let there = subst (λ p. IsSchema p (Ok schema)) (same_pieces text pieces more read read_too) is in
    one_schema more (Ok schema) (Err fault) there refused (not_refused (Ok schema) schema refl) (other_fault fault other)

pub one_check : OneCheck
one_check text (Ok found) (Ok other) (pieces, schema, read, is, are) (more, same, read_too, is_too, are_too) built built_too =
    let pieces_are = same_pieces text pieces more read read_too in
    ap Ok (one_report more schema same found other (subst (λ p. IsSchema p (Ok schema)) pieces_are is) is_too (subst (λ p. AreViolations p schema found) pieces_are are) are_too)
one_check text (Ok found) (Err fault) are too built built_too = absurd (not_found text found fault are too built_too)
one_check text (Err fault) (Ok found) are too built built_too = absurd (not_found text found fault too are built)
one_check text (Err fault) (Err other) (inl unread) (inl too) built built_too = ap Err (same_faults text fault other unread too)
one_check text (Err fault) (Err other) (inl unread) (inr (pieces, read, refused)) built built_too = absurd (not_both text pieces fault read unread)
one_check text (Err fault) (Err other) (inr (pieces, read, refused)) (inl unread) built built_too = absurd (not_both text pieces other read unread)
one_check text (Err fault) (Err other) (inr (pieces, read, refused)) (inr (more, read_too, too)) built built_too =
    let there = subst (λ p. IsSchema p (Err fault)) (same_pieces text pieces more read read_too) refused in
    ap Err (one_schema more (Err fault) (Err other) there too (other_fault fault built) (other_fault other built_too))
