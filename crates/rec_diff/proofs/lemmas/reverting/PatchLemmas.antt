-- What takes a change back is a patch, and it leads as its hunks do.
use Rattle.std.proofs.Common.{◌≡◌, ◌∙◌, ℕ, ◌+◌, ◌≤◌, List, [], ◌∷◌, ◌++◌, length, refl, sym, ap, subst, inl, inr, append_assoc, length-append, arith}
use Rattle.std.specs.Str.{bytes_eq}
use Rattle.std.proofs.lemmas.Bool.{cases_Bool, cond-true, cond-false, false≢true}
use Rattle.rec_text.proofs.lemmas.ListLemmas.{bytes_eq-self, same_bytes}
use Rattle.rec_journal.specs.declared.patch.Hunk.{Hunk}
use Rattle.rec_journal.specs.Patch.{AreApartFrom, IsPatch, Splices, SplicesFrom}
use Rattle.rec_diff.specs.Composing.{Deed, keeps, removes, adds, deeds_of, put_hunk, hunks_after, deed_hunks}
use Rattle.rec_diff.specs.Reverts.{as_patch, changing}
use Rattle.rec_diff.specs.proving.Weaving.{AreSpaced}
use Rattle.rec_diff.proofs.lemmas.composing.LeadingLemmas.{does_splice, splices_does}

-- ---- the hunks of deeds stand apart

spaced-weaker : (least most : ℕ) (hunks : List Hunk) → least ≤ most → AreSpaced most hunks → AreSpaced least hunks
spaced-weaker least most [] fits far = tt
spaced-weaker least most (h ∷ hunks) fits far = (let place = far.0 in omega arith, far.1, far.2)

put_spaced : (least at : ℕ) (old new : List ℕ) (hunks : List Hunk) → least ≤ at → AreSpaced (at + length old + 1) hunks → AreSpaced least (put_hunk at old new hunks)
put_spaced least at [] [] hunks fits far = spaced-weaker least (at + 0 + 1) hunks (omega arith) far
put_spaced least at [] (n ∷ ns) hunks fits far = (fits, refl, far)
put_spaced least at (o ∷ os) new hunks fits far = (fits, refl, far)

deeds_spaced : (deeds : List Deed) (least at : ℕ) (old new : List ℕ) → least ≤ at → AreSpaced least (hunks_after at old new deeds)
deeds_spaced [] least at old new fits = put_spaced least at old new [] fits tt
deeds_spaced (keeps ∷ deeds) least at old new fits =
    put_spaced least at old new (hunks_after (at + length old + 1) [] [] deeds) fits (deeds_spaced deeds (at + length old + 1) (at + length old + 1) [] [] (omega arith))
deeds_spaced (removes b ∷ deeds) least at old new fits = deeds_spaced deeds least at (old ++ b ∷ []) new fits
deeds_spaced (adds b ∷ deeds) least at old new fits = deeds_spaced deeds least at old (new ++ b ∷ []) fits

-- ---- without those that change nothing

apart-weaker : (least most : ℕ) (hunks : List Hunk) → least ≤ most → AreApartFrom most hunks → AreApartFrom least hunks
apart-weaker least most [] fits apart = tt
apart-weaker least most (h ∷ hunks) fits apart = (let place = apart.0 in omega arith, apart.1, apart.2)

changing_apart : (least : ℕ) (hunks : List Hunk) → AreSpaced least hunks → AreApartFrom least (changing hunks)
changing_apart least [] far = tt
changing_apart least (h ∷ hunks) far =
    let place : least ≤ h.at = far.0 in
    let rest = changing_apart (h.at + length h.old + 1) hunks far.2 in
    elim (cases_Bool (bytes_eq h.old h.new)) [
      | inl e ↦
          subst (AreApartFrom least) (sym (cond-true (bytes_eq h.old h.new) (changing hunks) (h ∷ changing hunks) e))
          (apart-weaker least (h.at + length h.old + 1) (changing hunks) (omega arith) rest)
      | inr e ↦
          subst (AreApartFrom least) (sym (cond-false (bytes_eq h.old h.new) (changing hunks) (h ∷ changing hunks) e))
          (place, λ same. false≢true (sym e ∙ ap (bytes_eq h.old) (sym same) ∙ bytes_eq-self h.old), rest)
    ]

kept_more : (place : ℕ) (kept : List ℕ) (hunks : List Hunk) (before after : List ℕ) → SplicesFrom (place + length kept) hunks before after
    → SplicesFrom place hunks (kept ++ before) (kept ++ after)
kept_more place kept [] before after same = ap (kept ++◌) same
kept_more place kept (h ∷ hunks) before after (first, rest_before, rest_after, at, before_is, after_is, more) = (
  kept ++ first,
  rest_before,
  rest_after,
  omega (arith, at, length-append kept first),
  ap (kept ++◌) before_is ∙ sym (append_assoc kept first (h.old ++ rest_before)),
  ap (kept ++◌) after_is ∙ sym (append_assoc kept first (h.new ++ rest_after)),
  more,
)

pub changing_leads : (place : ℕ) (hunks : List Hunk) (before after : List ℕ) → SplicesFrom place hunks before after → SplicesFrom place (changing hunks) before after
changing_leads place [] before after same = same
changing_leads place (h ∷ hunks) before after (kept, rest_before, rest_after, at, before_is, after_is, more) =
    let rest = changing_leads (h.at + length h.old) hunks rest_before rest_after more in
    elim (cases_Bool (bytes_eq h.old h.new)) [
      | inl e ↦
          let same : h.old ≡ h.new = same_bytes h.old h.new e in
          let count : h.at + length h.old ≡ place + length (kept ++ h.old) = omega (arith, at, length-append kept h.old) in
          let first : before ≡ (kept ++ h.old) ++ rest_before = before_is ∙ sym (append_assoc kept h.old rest_before) in
          let second : after ≡ (kept ++ h.old) ++ rest_after = after_is ∙ ap (λ t. kept ++ (t ++ rest_after)) (sym same) ∙ sym (append_assoc kept h.old rest_after) in
          subst (λ hs. SplicesFrom place hs before after) (sym (cond-true (bytes_eq h.old h.new) (changing hunks) (h ∷ changing hunks) e))
          (subst (λ t. SplicesFrom place (changing hunks) t after) (sym first)
          (subst (SplicesFrom place (changing hunks) ((kept ++ h.old) ++ rest_before)) (sym second)
          (kept_more place (kept ++ h.old) (changing hunks) rest_before rest_after (subst (λ n. SplicesFrom n (changing hunks) rest_before rest_after) count rest))))
      | inr e ↦
          subst (λ hs. SplicesFrom place hs before after) (sym (cond-false (bytes_eq h.old h.new) (changing hunks) (h ∷ changing hunks) e))
          (kept, rest_before, rest_after, at, before_is, after_is, rest)
    ]

pub as_patch_is : (hunks : List Hunk) → IsPatch (as_patch hunks)
as_patch_is hunks = changing_apart 0 (deed_hunks (deeds_of hunks)) (deeds_spaced (deeds_of hunks) 0 0 [] [] (omega arith))

pub as_patch_leads : (hunks : List Hunk) (before after : List ℕ) → Splices hunks before after → Splices (as_patch hunks) before after
as_patch_leads hunks before after leads =
    changing_leads 0 (deed_hunks (deeds_of hunks)) before after (does_splice (deeds_of hunks) 0 0 [] [] [] before after refl (splices_does 0 hunks before after leads))
