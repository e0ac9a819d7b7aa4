use Rattle.std.proofs.Common.{◌≡◌, ◌||◌, ℕ, List, true, take}
use Rattle.rec_text.specs.Places.{pieces_of}
use Rattle.rec_sex.specs.Meaning.{values_of}
use Rattle.rec_check.specs.proving.Singulars.{has_seen}
use Rattle.rec_text.specs.Bytes.{is_among}
use Rattle.rec_check.proofs.checks.singular.Singular.take.Given as goal

abbrev pub invariant-loop-field : goal.invariant-loop-field
invariant-loop-field l = record {
  names : l.self.names ≡ l.fn.self.names;
  seen : (name value : List ℕ) → is_among l.fn.self.names name ≡ true → has_seen l.self name value
      ≡ (has_seen l.fn.self name value || is_among (values_of name (pieces_of (take l.field-index l.fields))) value);
}
