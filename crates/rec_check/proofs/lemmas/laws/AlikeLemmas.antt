-- What a text is for a request is the same, whichever way its patterns were built.
use Rattle.std.proofs.Common.{◌≡◌, List, ℕ, Result, Ok, Err, subst, refl}
use Rattle.rec_text.specs.declared.fault.Fault.{Fault}
use Rattle.rec_text.specs.Elements.{Piece}
use Rattle.rec_text.specs.Reading.{IsReading}
use Rattle.rec_text.proofs.lemmas.StepLemmas.{HasOneBut-of, AreLike, AgreeLike, AgreeLike-value, AgreeLike-of, AgreeLike-Then}
use Rattle.rec_text.proofs.lemmas.reading.ReadingLemmas.{one_reading}
use Rattle.rec_check.specs.Schemas.{Described, IsSchema, AreSameSchemas}
use Rattle.rec_check.specs.DescribedTexts.{DescribedText, AreDescribed, IsDescribedText}
use Rattle.rec_check.proofs.lemmas.laws.SameLemmas.{one_schema}

-- the same sets, with rules that are the same
abbrev pub SameSchemas : Described → Described → Type 0
SameSchemas one other = AreSameSchemas (Ok one) (Ok other)

-- the same elements, and schemas that are the same
abbrev pub SameTexts : DescribedText → DescribedText → Type 0
SameTexts one other = (one.pieces ≡ other.pieces) × SameSchemas one.schema other.schema

schemas_like : (one other : Result Described Fault) → AreSameSchemas one other → AreLike SameSchemas one other
schemas_like (Ok one) (Ok other) same = same
schemas_like (Ok one) (Err fault) same = same
schemas_like (Err fault) (Ok other) same = same
schemas_like (Err fault) (Err other) same = same

pub AgreeLike-schema : (pieces : List Piece) → AgreeLike SameSchemas (IsSchema pieces) (IsSchema pieces)
AgreeLike-schema pieces one other is is_too built built_too = schemas_like one other (one_schema pieces one other is is_too built built_too)

AgreeLike-elements : (pieces : List Piece) → AgreeLike SameTexts (AreDescribed pieces) (AreDescribed pieces)
AgreeLike-elements pieces =
    AgreeLike-Then SameSchemas (IsSchema pieces) (IsSchema pieces) _ _ (AgreeLike-schema pieces) SameTexts
    (λ one other _ _ same. AgreeLike-value SameTexts (record { pieces = pieces; schema = one }) (record { pieces = pieces; schema = other }) (refl, same))

pub AgreeLike-described : (text : List ℕ) → AgreeLike SameTexts (IsDescribedText text) (IsDescribedText text)
AgreeLike-described text =
    AgreeLike-Then (λ some other. some ≡ other) (IsReading text) (IsReading text) AreDescribed AreDescribed
    (AgreeLike-of (IsReading text) (IsReading text) (HasOneBut-of (IsReading text) (one_reading text))) SameTexts
    (λ pieces others _ _ same. subst (λ ps. AgreeLike SameTexts (AreDescribed pieces) (AreDescribed ps)) same (AgreeLike-elements pieces))
