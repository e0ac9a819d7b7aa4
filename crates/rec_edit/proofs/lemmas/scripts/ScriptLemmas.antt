-- The laws of a script: its old elements are those of the text, and its hunks are a patch to the edited text; and its draft, part by part.
use Rattle.std.proofs.Common.{◌≡◌, ◌≢◌, ◌∙◌, ℕ, ◌+◌, ◌≤◌, true, false, List, [], ◌∷◌, ◌++◌, ◌==◌, length, refl, ap, sym, subst, inl, inr, arith, append_assoc, Option, Some, None, append-nil}
use Rattle.std.specs.List.{AllByRecursion}
use Rattle.std.specs.Str.{bytes_eq}
use Rattle.std.proofs.lemmas.Bool.{cases_Bool, eqb-true, eqb-false, false≢true, eq-eqb}
use Rattle.std.proofs.lemmas.List.{length-append, nil_from_length}
use Rattle.std.specs.Option.{SomeIff, IsSome}
use Rattle.rec_text.specs.Elements.{Piece, text_of}
use Rattle.rec_journal.specs.declared.patch.Hunk.{Hunk}
use Rattle.rec_journal.specs.Patch.{AreApartFrom, IsPatch, SplicesFrom, Splices}
use Rattle.rec_edit.specs.Script.{Part, lacks_newline, settled, old_pieces, edited_text, new_pieces, is_kept, changes_from, TakesWhole}
use Rattle.rec_edit.specs.proving.Changes.{joining, merged, real_changes, hunks_of}
use Rattle.rec_edit.specs.declared.draft.Draft.{Draft}
use Rattle.rec_edit.specs.declared.draft.Run.{Run}
use Rattle.rec_edit.specs.proving.Drafts.{hunk_of, opening, EndsBy, IsDraft, IsRunHere, AreKept}
use Rattle.rec_text.proofs.lemmas.elements.ElementLemmas.{text_of-append}
use Rattle.rec_text.proofs.lemmas.ListLemmas.{same_bytes, bytes_eq-self}

-- ---- the laws of a script: its old elements are those of the text, and its hunks are a patch from the text to the edited one

-- ---- the old elements are those of the text

pub old_pieces-settled : (parts : List Part) → old_pieces (settled parts) ≡ old_pieces parts
old_pieces-settled [] = refl
old_pieces-settled (part ∷ []) = elim (cases_Bool (lacks_newline (text_of part.old))) [
  | inl lacks ↦ rw lacks refl
  | inr ends ↦ rw ends refl
]
old_pieces-settled (part ∷ next ∷ parts) = ap (λ p. part.old ++ p) (old_pieces-settled (next ∷ parts))

-- ---- hunks that take whole elements out, in order

-- From this place on: elements that are kept, those that the hunk takes out, and so on, with kept ones at the end. The text
-- after it has the text of those that are kept, and each hunk's new text.
abbrev pub Cuts : ℕ → List Hunk → List Piece → List ℕ → Type 0
Cuts place [] pieces after = text_of pieces ≡ after
Cuts place (hunk ∷ hunks) pieces after = (kept old following : List Piece) × (rest : List ℕ) × (place + length (text_of kept) ≡ hunk.at)
    × (pieces ≡ kept ++ (old ++ following)) × (hunk.old ≡ text_of old) × (after ≡ text_of kept ++ (hunk.new ++ rest))
    × Cuts (hunk.at + length hunk.old) hunks following rest

-- elements that are kept, before others
pub Cuts-keep : (place : ℕ) (kept : List Piece) (hunks : List Hunk) (pieces : List Piece) (after : List ℕ) → Cuts (place + length (text_of kept)) hunks pieces after
    → Cuts place hunks (kept ++ pieces) (text_of kept ++ after)
Cuts-keep place kept [] pieces after cuts = text_of-append kept pieces ∙ ap (λ t. text_of kept ++ t) cuts
Cuts-keep place kept (hunk ∷ hunks) pieces after (more, old, following, rest, place_is, before_is, old_is, after_is, cuts) = (
  kept ++ more,
  old,
  following,
  rest,
  let size = ap length (text_of-append kept more) in omega (arith, size, length-append (text_of kept) (text_of more)),
  ap (λ p. kept ++ p) before_is ∙ sym (append_assoc kept more (old ++ following)),
  old_is,
  ap (λ t. text_of kept ++ t) after_is ∙ sym (append_assoc (text_of kept) (text_of more) (hunk.new ++ rest)) ∙ ap (λ t. t ++ (hunk.new ++ rest)) (sym (text_of-append kept more)),
  cuts,
)

pub Cuts-changes_from : (place : ℕ) (parts : List Part) → Cuts place (changes_from place parts) (old_pieces parts) (edited_text parts)
Cuts-changes_from place [] = refl
Cuts-changes_from place (part ∷ parts) =
    let following = Cuts-changes_from (place + length (text_of part.old)) parts in
    elim (cases_Bool (is_kept part)) [
      | inl kept ↦
          let same : text_of part.old ≡ text_of part.new = same_bytes _ _ kept in
          let P : List ℕ → Type 0 = Cuts place (changes_from (place + length (text_of part.old)) parts) (part.old ++ old_pieces parts) in
          let after : text_of part.old ++ edited_text parts ≡ edited_text (part ∷ parts) = ap (λ t. t ++ edited_text parts) same ∙ sym (text_of-append part.new (new_pieces parts)) in
          rw kept (subst P after (Cuts-keep place part.old _ _ _ following))
      | inr changes ↦ rw changes ([], part.old, old_pieces parts, edited_text parts, omega arith, refl, refl, text_of-append part.new (new_pieces parts), following)
    ]

-- a hunk that begins where the one before it ends
cuts_touch : (place : ℕ) (hunk next : Hunk) (hunks : List Hunk) (pieces : List Piece) (after : List ℕ) → hunk.at + length hunk.old ≡ next.at → Cuts place (hunk ∷ next ∷ hunks) pieces after
    → Cuts place (record { at = hunk.at; old = hunk.old ++ next.old; new = hunk.new ++ next.new } ∷ hunks) pieces after
cuts_touch place hunk next hunks pieces after touch
    (kept, old, following, rest, place_is, before_is, old_is, after_is, (between, old', following', rest', place_is', before_is', old_is', after_is', cuts)) =
    let nothing : text_of between ≡ [] = nil_from_length _ (omega arith) in
    let taken : hunk.old ++ next.old ≡ text_of (old ++ (between ++ old')) =
    ap (λ t. t ++ next.old) old_is ∙ ap (λ t. text_of old ++ t) (old_is' ∙ sym (text_of-append between old' ∙ ap (λ t. t ++ text_of old') nothing)) ∙ sym (text_of-append old (between ++ old')) in
    let P : ℕ → Type 0 = λ at. Cuts at hunks following' rest' in (
      kept,
      old ++ (between ++ old'),
      following',
      rest',
      place_is,
      before_is ∙ ap (λ p. kept ++ p) (ap (λ p. old ++ p) (before_is' ∙ sym (append_assoc between old' following')) ∙ sym (append_assoc old (between ++ old') following')),
      taken,
      after_is ∙ ap (λ t. text_of kept ++ t) (ap (λ t. hunk.new ++ t) (after_is' ∙ ap (λ t. t ++ (next.new ++ rest')) nothing) ∙ sym (append_assoc hunk.new next.new rest')),
      subst P (let e : next.at + length next.old ≡ hunk.at + length (hunk.old ++ next.old) = omega (arith, length-append hunk.old next.old) in e) cuts,
    )

pub Cuts-joining : (place : ℕ) (hunk : Hunk) (hunks : List Hunk) (pieces : List Piece) (after : List ℕ) → Cuts place (hunk ∷ hunks) pieces after → Cuts place (joining hunk hunks) pieces after
Cuts-joining place hunk [] pieces after cuts = cuts
Cuts-joining place hunk (next ∷ hunks) pieces after cuts = elim (cases_Bool (hunk.at + length hunk.old == next.at)) [
  | inl touch ↦ rw touch (cuts_touch place hunk next hunks pieces after (omega (arith, eqb-true _ _ touch)) cuts)
  | inr apart ↦ rw apart cuts
]

pub Cuts-merged : (place : ℕ) (hunks : List Hunk) (pieces : List Piece) (after : List ℕ) → Cuts place hunks pieces after → Cuts place (merged hunks) pieces after
Cuts-merged place [] pieces after cuts = cuts
Cuts-merged place (hunk ∷ hunks) pieces after (kept, old, following, rest, place_is, before_is, old_is, after_is, cuts) =
    Cuts-joining place hunk (merged hunks) pieces after (kept, old, following, rest, place_is, before_is, old_is, after_is, Cuts-merged (hunk.at + length hunk.old) hunks following rest cuts)

pub Cuts-real_changes : (place : ℕ) (hunks : List Hunk) (pieces : List Piece) (after : List ℕ) → Cuts place hunks pieces after → Cuts place (real_changes hunks) pieces after
Cuts-real_changes place [] pieces after cuts = cuts
Cuts-real_changes place (hunk ∷ hunks) pieces after (kept, old, following, rest, place_is, before_is, old_is, after_is, cuts) =
    let more = Cuts-real_changes (hunk.at + length hunk.old) hunks following rest cuts in
    elim (cases_Bool (bytes_eq hunk.old hunk.new)) [
      | inl same ↦
          let old_new : hunk.new ≡ text_of old = sym (same_bytes _ _ same) ∙ old_is in
          let gone = kept ++ old in
          let gone_text : text_of gone ≡ text_of kept ++ text_of old = text_of-append kept old in
          let place' : place + length (text_of gone) ≡ hunk.at + length hunk.old = omega (arith, ap length gone_text, length-append (text_of kept) (text_of old), ap length old_is) in
          let at_place : ℕ → Type 0 = λ at. Cuts at (real_changes hunks) following rest in
          let P : List Piece → Type 0 = λ p. Cuts place (real_changes hunks) p (text_of gone ++ rest) in
          let Q : List ℕ → Type 0 = Cuts place (real_changes hunks) pieces in
          let before' : gone ++ following ≡ pieces = append_assoc kept old following ∙ sym before_is in
          let after' : text_of gone ++ rest ≡ after = ap (λ t. t ++ rest) gone_text ∙ append_assoc (text_of kept) (text_of old) rest ∙ ap (λ t. text_of kept ++ (t ++ rest)) (sym old_new)
          ∙ sym after_is in
          rw same (subst Q after' (subst P before' (Cuts-keep place gone (real_changes hunks) following rest (subst at_place (sym place') more))))
      | inr changes ↦ rw changes (kept, old, following, rest, place_is, before_is, old_is, after_is, more)
    ]

pub Cuts-hunks_of : (script : List Part) → Cuts 0 (hunks_of script) (old_pieces script) (edited_text script)
Cuts-hunks_of script =
    Cuts-real_changes 0 (merged (changes_from 0 script)) _ _ (Cuts-merged 0 (changes_from 0 script) _ _ (Cuts-changes_from 0 script))

-- ---- the two texts

splices_from_cuts : (place : ℕ) (hunks : List Hunk) (pieces : List Piece) (after : List ℕ) → Cuts place hunks pieces after → SplicesFrom place hunks (text_of pieces) after
splices_from_cuts place [] pieces after cuts = cuts
splices_from_cuts place (hunk ∷ hunks) pieces after (kept, old, following, rest, place_is, before_is, old_is, after_is, cuts) = (
  text_of kept,
  text_of following,
  rest,
  place_is,
  ap text_of before_is ∙ text_of-append kept (old ++ following) ∙ ap (λ t. text_of kept ++ t) (text_of-append old following ∙ ap (λ t. t ++ text_of following) (sym old_is)),
  after_is,
  splices_from_cuts (hunk.at + length hunk.old) hunks following rest cuts,
)

pub Splices-hunks_of : (script : List Part) → Splices (hunks_of script) (text_of (old_pieces script)) (edited_text script)
Splices-hunks_of script = splices_from_cuts 0 (hunks_of script) (old_pieces script) (edited_text script) (Cuts-hunks_of script)

pub same_where_no_hunk : (script : List Part) → hunks_of script ≡ [] → edited_text script ≡ text_of (old_pieces script)
same_where_no_hunk script none =
    let P : List Hunk → Type 0 = λ hunks. Splices hunks (text_of (old_pieces script)) (edited_text script) in
    sym (subst P none (Splices-hunks_of script))

-- ---- whole elements

takes_from_cuts : (place : ℕ) (prefix : List Piece) (hunks : List Hunk) (pieces : List Piece) (after : List ℕ) → place ≡ length (text_of prefix) → Cuts place hunks pieces after
    → AllByRecursion (TakesWhole (prefix ++ pieces)) hunks
takes_from_cuts place prefix [] pieces after place_is cuts = tt
takes_from_cuts place prefix (hunk ∷ hunks) pieces after place_is (kept, old, following, rest, at_is, before_is, old_is, after_is, cuts) =
    let kept_size : length (text_of (prefix ++ kept)) ≡ hunk.at = omega (arith, ap length (text_of-append prefix kept), length-append (text_of prefix) (text_of kept)) in
    let old_size : length (text_of ((prefix ++ kept) ++ old)) ≡ hunk.at + length hunk.old =
    omega (arith, ap length (text_of-append (prefix ++ kept) old), length-append (text_of (prefix ++ kept)) (text_of old), ap length old_is) in
    let here : prefix ++ pieces ≡ (prefix ++ kept) ++ (old ++ following) = ap (λ p. prefix ++ p) before_is ∙ sym (append_assoc prefix kept (old ++ following)) in
    let later : ((prefix ++ kept) ++ old) ++ following ≡ prefix ++ pieces = append_assoc (prefix ++ kept) old following ∙ sym here in
    let P : List Piece → Type 0 = λ p. AllByRecursion (TakesWhole p) hunks in (
      (prefix ++ kept, old, following, here, sym kept_size, old_is),
      subst P later (takes_from_cuts (hunk.at + length hunk.old) ((prefix ++ kept) ++ old) hunks following rest (sym old_size) cuts),
    )

pub TakesWhole-hunks_of : (script : List Part) → AllByRecursion (TakesWhole (old_pieces script)) (hunks_of script)
TakesWhole-hunks_of script = takes_from_cuts 0 [] (hunks_of script) (old_pieces script) (edited_text script) refl (Cuts-hunks_of script)

-- ---- the hunks are a patch

-- the hunks stand in order, the first not before this place
abbrev AreInOrder : ℕ → List Hunk → Type 0
AreInOrder least [] = Unit {0}
AreInOrder least (hunk ∷ hunks) = (least ≤ hunk.at) × AreInOrder (hunk.at + length hunk.old) hunks

-- and apart
abbrev AreSeparate : ℕ → List Hunk → Type 0
AreSeparate least [] = Unit {0}
AreSeparate least (hunk ∷ hunks) = (least ≤ hunk.at) × AreSeparate (hunk.at + length hunk.old + 1) hunks

AreInOrder-lower : (least more : ℕ) (hunks : List Hunk) → least ≤ more → AreInOrder more hunks → AreInOrder least hunks
AreInOrder-lower least more [] lower order = tt
AreInOrder-lower least more (hunk ∷ hunks) lower order = (omega (arith, order.0), order.1)

AreInOrder-changes_from : (place : ℕ) (parts : List Part) → AreInOrder place (changes_from place parts)
AreInOrder-changes_from place [] = tt
AreInOrder-changes_from place (part ∷ parts) =
    let following = AreInOrder-changes_from (place + length (text_of part.old)) parts in
    elim (cases_Bool (is_kept part)) [
      | inl kept ↦ rw kept (AreInOrder-lower place (place + length (text_of part.old)) _ (omega arith) following)
      | inr changes ↦ rw changes (omega arith, following)
    ]

AreSeparate-joining : (least : ℕ) (hunk : Hunk) (hunks : List Hunk) → least ≤ hunk.at → AreSeparate (hunk.at + length hunk.old) hunks → AreSeparate least (joining hunk hunks)
AreSeparate-joining least hunk [] low separate = (low, tt)
AreSeparate-joining least hunk (next ∷ hunks) low separate = elim (cases_Bool (hunk.at + length hunk.old == next.at)) [
  | inl touch ↦
      let same = eqb-true _ _ touch in
      let P : ℕ → Type 0 = λ at. AreSeparate at hunks in
      let reached : next.at + length next.old + 1 ≡ hunk.at + length (hunk.old ++ next.old) + 1 = omega (arith, same, length-append hunk.old next.old) in
      rw touch (low, subst P reached separate.1)
  | inr apart ↦ rw apart (low, (let past : hunk.at + length hunk.old ≢ next.at = eqb-false _ _ apart in omega (arith, separate.0, past), separate.1))
]

AreSeparate-merged : (least : ℕ) (hunks : List Hunk) → AreInOrder least hunks → AreSeparate least (merged hunks)
AreSeparate-merged least [] order = tt
AreSeparate-merged least (hunk ∷ hunks) order = AreSeparate-joining least hunk (merged hunks) order.0 (AreSeparate-merged (hunk.at + length hunk.old) hunks order.1)

AreApartFrom-real_changes : (least more : ℕ) (hunks : List Hunk) → least ≤ more → AreSeparate more hunks → AreApartFrom least (real_changes hunks)
AreApartFrom-real_changes least more [] lower separate = tt
AreApartFrom-real_changes least more (hunk ∷ hunks) lower separate = elim (cases_Bool (bytes_eq hunk.old hunk.new)) [
  | inl same ↦ rw same (AreApartFrom-real_changes least (hunk.at + length hunk.old + 1) hunks (omega (arith, separate.0)) separate.1)
  | inr changes ↦ rw changes (
    omega (arith, separate.0),
    λ same. false≢true (sym changes ∙ ap (bytes_eq hunk.old) (sym same) ∙ bytes_eq-self hunk.old),
    AreApartFrom-real_changes (hunk.at + length hunk.old + 1) (hunk.at + length hunk.old + 1) hunks (omega arith) separate.1,
  )
]

pub IsPatch-hunks_of : (script : List Part) → IsPatch (hunks_of script)
IsPatch-hunks_of script = AreApartFrom-real_changes 0 0 (merged (changes_from 0 script)) (omega arith) (AreSeparate-merged 0 (changes_from 0 script) (AreInOrder-changes_from 0 script))

-- ---- a draft of an edit, part by part

-- ---- hunks next to each other

-- a hunk that goes on with one that begins at its end
abbrev pub both : Hunk → Hunk → Hunk
both hunk next = record { at = hunk.at; old = hunk.old ++ next.old; new = hunk.new ++ next.new }

hunk_is : (at : ℕ) (old old' new new' : List ℕ) → old ≡ old' → new ≡ new' → ◌≡◌ {A = Hunk} (record { at = at; old = old; new = new }) (record { at = at; old = old'; new = new' })
hunk_is at old old' new new' e f =
    let made : List ℕ → List ℕ → Hunk = λ o n. record { at = at; old = o; new = n } in
    ap (λ o. made o new) e ∙ ap (made old') f

pub joining-joining : (hunk next : Hunk) (hunks : List Hunk) → hunk.at + length hunk.old ≡ next.at → joining hunk (joining next hunks) ≡ joining (both hunk next) hunks
joining-joining hunk next [] touch =
    let test : (hunk.at + length hunk.old == next.at) ≡ true = eq-eqb _ _ touch in rw test refl
joining-joining hunk next (third ∷ hunks) touch =
    let test : (hunk.at + length hunk.old == next.at) ≡ true = eq-eqb _ _ touch in
    let ends : hunk.at + length (hunk.old ++ next.old) ≡ next.at + length next.old = omega (arith, length-append hunk.old next.old) in
    let same : (hunk.at + length (hunk.old ++ next.old) == third.at) ≡ (next.at + length next.old == third.at) = ap (λ n. n == third.at) ends in
    elim (cases_Bool (next.at + length next.old == third.at)) [
      | inl touches ↦ rw (touches, test, same, touches) (ap (λ h. h ∷ hunks)
          (hunk_is hunk.at _ _ _ _ (sym (append_assoc hunk.old next.old third.old)) (sym (append_assoc hunk.new next.new third.new))))
      | inr apart ↦ rw (apart, test, same, apart) refl
    ]

-- ---- the run that a change goes on with

-- ---- one part

EndsBy-later : (run : Option Run) (at more : ℕ) → at ≤ more → EndsBy run at → EndsBy run more
EndsBy-later None at more later ends = tt
EndsBy-later (Some run) at more later ends = omega arith

-- the text and the place after one part
module _ (draft new : Draft) (old_bytes new_bytes : List ℕ) (part : Part) (rest whole : List Part) (old_is : old_bytes ≡ text_of part.old) (new_is : new_bytes ≡ text_of part.new)
    (text : new.text.items ≡ draft.text.items ++ new_bytes) (at : new.at ≡ draft.at + length old_bytes) (is : IsDraft draft (part ∷ rest) whole) where
  text_after_label : edited_text whole ≡ new.text.items ++ edited_text rest
  text_after_label =
      is.text ∙ ap (λ t. draft.text.items ++ t) (text_of-append part.new (new_pieces rest) ∙ ap (λ t. t ++ edited_text rest) (sym new_is))
      ∙ sym (append_assoc draft.text.items new_bytes (edited_text rest)) ∙ ap (λ t. t ++ edited_text rest) (sym text)

  at_after : length (text_of (old_pieces whole)) ≡ new.at + length (text_of (old_pieces rest))
  at_after = omega (arith, is.at, ap length (text_of-append part.old (old_pieces rest)), length-append (text_of part.old) (text_of (old_pieces rest)), ap length old_is)

  place_after : draft.at + length (text_of part.old) ≡ new.at
  place_after = omega (arith, ap length old_is)

  -- one that is changed, where the run that reaches it goes on
  pub draft_changed : (mid : Draft) (run last : Run) → IsRunHere draft run mid → bytes_eq old_bytes new_bytes ≡ false → new.hunks.items ≡ mid.hunks.items → new.run ≡ Some last
      → last.at ≡ run.at → last.old.items ≡ run.old.items ++ old_bytes → last.new.items ≡ run.new.items ++ new_bytes → IsDraft new rest whole
  draft_changed mid run last here differ hunks open_is last_at last_old last_new =
      let next : Hunk = record { at = draft.at; old = text_of part.old; new = text_of part.new } in
      let changes : is_kept part ≡ false = ap (λ t. bytes_eq t (text_of part.new)) (sym old_is) ∙ ap (bytes_eq old_bytes) (sym new_is) ∙ differ in
      let more = merged (changes_from new.at rest) in
      let left : changes_from draft.at (part ∷ rest) ≡ next ∷ changes_from new.at rest = rw changes (ap (λ n. next ∷ changes_from n rest) place_after) in
      let made : ℕ → List ℕ → List ℕ → Hunk = λ a o n. record { at = a; old = o; new = n } in
      let goes_on : both (hunk_of run) next ≡ hunk_of last =
      ap (λ a. made a (run.old.items ++ text_of part.old) (run.new.items ++ text_of part.new)) (sym last_at)
      ∙ ap (λ o. made last.at o (run.new.items ++ text_of part.new)) (ap (λ t. run.old.items ++ t) (sym old_is) ∙ sym last_old)
      ∙ ap (made last.at last.old.items) (ap (λ t. run.new.items ++ t) (sym new_is) ∙ sym last_new) in
      let ends : last.at + length last.old.items ≤ new.at = omega (arith, here.ends, ap length last_old, length-append run.old.items old_bytes) in
      record {
        hunks = is.hunks ∙ ap (λ h. draft.hunks.items ++ real_changes (opening draft.run (merged h))) left
            ∙ here.hunks next more refl
            ∙ ap (λ h. mid.hunks.items ++ real_changes h) (joining-joining (hunk_of run) next more here.ends ∙ ap (λ h. joining h more) goes_on)
            ∙ ap (λ h. h ++ real_changes (joining (hunk_of last) more)) (sym hunks)
            ∙ ap (λ r. new.hunks.items ++ real_changes (opening r more)) (sym open_is);
        text = text_after_label;
        at = at_after;
        run_ends = subst (λ (r : Option Run). EndsBy r new.at) (sym open_is) ends;
      }

-- ---- parts that are kept

text_of-kept : (parts : List Part) → AreKept parts → text_of (old_pieces parts) ≡ edited_text parts
text_of-kept [] kept = refl
text_of-kept (part ∷ parts) kept =
    text_of-append part.old (old_pieces parts) ∙ ap (λ t. t ++ text_of (old_pieces parts)) (same_bytes _ _ kept.0)
    ∙ ap (λ t. text_of part.new ++ t) (text_of-kept parts kept.1) ∙ sym (text_of-append part.new (new_pieces parts))

changes_from-kept : (at : ℕ) (parts rest : List Part) → AreKept parts → changes_from at (parts ++ rest) ≡ changes_from (at + length (text_of (old_pieces parts))) rest
changes_from-kept at [] rest kept = ap (λ n. changes_from n rest) (let e : at ≡ at + 0 = omega arith in e)
changes_from-kept at (part ∷ parts) rest kept =
    let more = changes_from-kept (at + length (text_of part.old)) parts rest kept.1 in
    let place : at + length (text_of part.old) + length (text_of (old_pieces parts)) ≡ at + length (text_of (old_pieces (part ∷ parts))) =
    omega (arith, ap length (text_of-append part.old (old_pieces parts)), length-append (text_of part.old) (text_of (old_pieces parts))) in
    let is = kept.0 in
    rw is (more ∙ ap (λ n. changes_from n rest) place)

pub old_pieces-append : (parts rest : List Part) → old_pieces (parts ++ rest) ≡ old_pieces parts ++ old_pieces rest
old_pieces-append [] rest = refl
old_pieces-append (part ∷ parts) rest = ap (λ l. part.old ++ l) (old_pieces-append parts rest) ∙ sym (append_assoc part.old (old_pieces parts) (old_pieces rest))

pub new_pieces-append : (parts rest : List Part) → new_pieces (parts ++ rest) ≡ new_pieces parts ++ new_pieces rest
new_pieces-append [] rest = refl
new_pieces-append (part ∷ parts) rest = ap (λ l. part.new ++ l) (new_pieces-append parts rest) ∙ sym (append_assoc part.new (new_pieces parts) (new_pieces rest))

pub draft_kept : (draft new : Draft) (bytes : List ℕ) (parts rest whole : List Part) → AreKept parts → bytes ≡ text_of (old_pieces parts)
    → new.text.items ≡ draft.text.items ++ bytes → new.at ≡ draft.at + length bytes → new.hunks.items ≡ draft.hunks.items → new.run ≡ draft.run
    → IsDraft draft (parts ++ rest) whole → IsDraft new rest whole
draft_kept draft new bytes parts rest whole kept bytes_are text at hunks run is =
    let place : draft.at + length (text_of (old_pieces parts)) ≡ new.at = omega (arith, ap length bytes_are) in
    let left : changes_from draft.at (parts ++ rest) ≡ changes_from new.at rest = changes_from-kept draft.at parts rest kept ∙ ap (λ n. changes_from n rest) place in
    let ends : EndsBy draft.run new.at = EndsBy-later draft.run draft.at new.at (omega arith) is.run_ends in
    record {
      hunks = is.hunks ∙ ap (λ h. draft.hunks.items ++ real_changes (opening draft.run (merged h))) left
          ∙ ap (λ h. h ++ real_changes (opening draft.run (merged (changes_from new.at rest)))) (sym hunks)
          ∙ ap (λ r. new.hunks.items ++ real_changes (opening r (merged (changes_from new.at rest)))) (sym run);
      text = is.text ∙ ap (λ l. draft.text.items ++ text_of l) (new_pieces-append parts rest)
          ∙ ap (λ t. draft.text.items ++ t) (text_of-append (new_pieces parts) (new_pieces rest))
          ∙ sym (append_assoc draft.text.items (edited_text parts) (edited_text rest))
          ∙ ap (λ t. (draft.text.items ++ t) ++ edited_text rest) (sym (text_of-kept parts kept) ∙ sym bytes_are)
          ∙ ap (λ t. t ++ edited_text rest) (sym text);
      at = omega (
        arith,
        is.at,
        ap (λ l. length (text_of l)) (old_pieces-append parts rest),
        ap length (text_of-append (old_pieces parts) (old_pieces rest)),
        length-append (text_of (old_pieces parts)) (text_of (old_pieces rest)),
        ap length bytes_are,
      );
      run_ends = subst (λ (r : Option Run). EndsBy r new.at) (sym run) ends;
    }

-- ---- the end

-- the hunks of what is done, where nothing is left
pub all_done : (draft : Draft) (hunks : List Hunk) (whole : List Part) → hunks ≡ draft.hunks.items ++ real_changes (opening draft.run []) → IsDraft draft [] whole → hunks ≡ hunks_of whole
all_done draft hunks whole made is = made ∙ sym is.hunks

pub text_done : (draft : Draft) (whole : List Part) → IsDraft draft [] whole → draft.text.items ≡ edited_text whole
text_done draft whole is = sym (append-nil draft.text.items) ∙ sym is.text

-- hunks that are a patch make one
pub patch_made : {X : Type 0} (o : Option X) (P : Type 0) (x : X) → SomeIff o P x → P → IsSome o
patch_made None P x none is = absurd (none is)
patch_made (Some y) P x some is = refl

pub patch_is : {X : Type 0} (o : Option X) (P : Type 0) (x y : X) → SomeIff o P x → o ≡ Some y → y ≡ x
patch_is None P x y some e = cc
patch_is (Some z) P x y some e = let same : z ≡ y = cc in sym same ∙ some.1
