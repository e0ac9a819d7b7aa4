-- The elements of descriptors, where they stand.
use Rattle.std.proofs.Common.{◌≡◌, ◌∙◌, ℕ, ◌+◌, ◌<◌, true, List, ◌∷◌, ◌++◌, length, take, Some, None, ap, ap₂, sym, subst, arith}
use Rattle.std.proofs.Math.Seq.{take-append_seam}
use Rattle.std.specs.List.{slice_get}
use Rattle.std.specs.Option.{is_some}
use Rattle.std.specs.declared.ops.Range.{Range}
use Rattle.rec_text.specs.Elements.{Piece, text_of}
use Rattle.rec_text.specs.Reading.{line_after}
use Rattle.rec_text.specs.Records.{AreRecords, LiesIn, elements_in}
use Rattle.rec_check.specs.Descriptors.{DescriptorElement, Flaw, StandsAt, flaw_of, type_of, types_of}
use Rattle.rec_check.specs.proving.Flaws.{ElementIsRead, FieldIsRead, field_flaw, flaw_at}
use Rattle.rec_check.specs.Schemas.{FieldMayBeRefused, HasFlaw, IsReached, IsReadElement, SchemaMayBeRefused}
use Rattle.rec_check.proofs.lemmas.SetLemmas.{types_among}
use Rattle.rec_check.proofs.lemmas.descriptors.FlawLemmas.{field_flaw-here, flaw_at-field, own_descriptor_element, element_within, read-field, read-up_to, slice_get-seam, stands-field}
use Rattle.rec_check.proofs.lemmas.descriptors.FlawLemmas.{types_named-among}

-- ---- what is wrong with the element of an index is what is wrong with the one that stands there

module _ (pieces : List Piece) (records : List (Range ℕ)) (i : ℕ) (element : DescriptorElement) (are : AreRecords pieces records) (stands : StandsAt pieces records i element) where
  abbrev k : ℕ
  k = length element.before

  abbrev all : List (Range ℕ)
  all = stands.earlier ++ stands.own_range ∷ stands.later

  cut_are : AreRecords pieces all
  cut_are = subst (AreRecords pieces) stands.cut are

  here : slice_get (elements_in pieces stands.own_range) k ≡ Some element.piece
  here = ap (λ own. slice_get own k) stands.own ∙ slice_get-seam element.before element.piece stands.following

  same_element : own_descriptor_element pieces stands.earlier stands.own_range stands.later cut_are stands.is_descriptor k element.piece here ≡ element
  same_element =
      ap₂ (λ named before. record element { named = named; before = before })
      (types_named-among pieces stands.earlier ∙ sym stands.named)
      (ap (take k) stands.own ∙ take-append_seam element.before (element.piece ∷ stands.following))

  pub flaw_at-stands : flaw_at pieces records i ≡ flaw_of element
  flaw_at-stands =
      ap (λ rs. flaw_at pieces rs i) stands.cut ∙ ap (flaw_at pieces all) stands.place
      ∙ flaw_at-field pieces stands.earlier stands.own_range stands.later cut_are stands.is_descriptor k element.piece here
      ∙ ap flaw_of same_element

  pub read-stands : ElementIsRead pieces records i → IsReadElement element
  read-stands read =
      subst IsReadElement same_element (read-field pieces stands.earlier stands.own_range stands.later cut_are stands.is_descriptor k element.piece here
      (subst (ElementIsRead pieces all) stands.place (subst (λ rs. ElementIsRead pieces rs i) stands.cut read)))

-- ---- the first element with which anything is wrong

-- the records before a descriptor are read, and its elements before one of them
module _ (pieces : List Piece) (done : List (Range ℕ)) (fields : Range ℕ) (rest : List (Range ℕ)) (are : AreRecords pieces (done ++ fields ∷ rest))
    (before : (i : ℕ) → (LiesIn (fields ∷ rest) i → ⊥) → ElementIsRead pieces (done ++ fields ∷ rest) i) (descriptor : is_some (type_of (elements_in pieces fields)) ≡ true)
    (k : ℕ) (piece : Piece) (here : slice_get (elements_in pieces fields) k ≡ Some piece)
    (read : (j : ℕ) → j < k → FieldIsRead (types_among (types_of pieces done)) (elements_in pieces fields) j) where
  abbrev element : DescriptorElement
  element = own_descriptor_element pieces done fields rest are descriptor k piece here

  reached : IsReached pieces (fields.start + k) element
  reached =
      let within : fields.start + k < fields.end = element_within pieces fields k piece here in
      record {
        records = done ++ fields ∷ rest;
        are = are;
        stands = stands-field pieces done fields rest are descriptor k piece here;
        first = λ i other less stands. read-stands pieces (done ++ fields ∷ rest) i other are stands (read-up_to pieces done fields rest are before k (omega arith) read i less);
      }

  flaw_here : flaw_of element ≡ field_flaw (types_among (types_of pieces done)) (elements_in pieces fields) k
  flaw_here = sym (field_flaw-here pieces done fields rest are descriptor k piece here)

  pub HasFlaw-own : (flaw : Flaw) (line : ℕ) → field_flaw (types_among (types_of pieces done)) (elements_in pieces fields) k ≡ Some flaw
      → line ≡ line_after (text_of (take (fields.start + k) pieces)) → HasFlaw pieces flaw line
  HasFlaw-own flaw line met number = (fields.start + k, element, reached, flaw_here ∙ met, number)

  pub SchemaMayBeRefused-own : field_flaw (types_among (types_of pieces done)) (elements_in pieces fields) k ≡ None → FieldMayBeRefused piece → SchemaMayBeRefused pieces
  SchemaMayBeRefused-own sound refused = (fields.start + k, element, reached, flaw_here ∙ sound, refused)
