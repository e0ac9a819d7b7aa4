-- The hunks of a script are its changes.
use Rattle.std.proofs.Common.{◌≡◌, ◌≢◌, ◌∙◌, ℕ, ◌+◌, ◌<◌, Bool, true, false, List, [], ◌∷◌, ◌++◌, ◌==◌, length, map, flat_map, refl, ap, ap₂, sym, subst, inl, inr, arith, append-nil}
use Rattle.std.specs.List.{AllByRecursion}
use Rattle.std.specs.Str.{bytes_eq}
use Rattle.std.proofs.lemmas.Bool.{cases_Bool, eq-eqb, ne_eqb}
use Rattle.std.proofs.lemmas.List.{length-append}
use Rattle.rec_text.specs.Elements.{Piece, IsElement, text_of}
use Rattle.rec_journal.specs.declared.patch.Hunk.{Hunk}
use Rattle.rec_edit.specs.Script.{Part, is_kept, old_pieces, new_pieces, edited_text, changes_from, as_one, AreInTurn, AreChangesOf}
use Rattle.rec_edit.specs.proving.Changes.{joining, merged, real_changes, hunks_of}
use Rattle.rec_text.proofs.lemmas.elements.ElementLemmas.{text_of-append}
use Rattle.rec_text.proofs.lemmas.ListLemmas.{AllByRecursion-following, AllByRecursion-prefix, bytes_eq-self, same_bytes}
use Rattle.rec_edit.proofs.lemmas.blocks.BlockLemmas.{some_text}

-- ---- the hunks of a script are its changes: the script is cut into runs of kept parts and of changed ones

-- ---- one run

abbrev size : List Part → ℕ
size run = length (text_of (old_pieces run))

abbrev hunk_at : ℕ → List Part → Hunk
hunk_at at run = record { at = at; old = text_of (old_pieces run); new = edited_text run }

abbrev hunk_by : ℕ → Part → Hunk
hunk_by at part = record { at = at; old = text_of part.old; new = text_of part.new }

size-one : (part : Part) → size (part ∷ []) ≡ length (text_of part.old)
size-one part = ap (λ pieces. length (text_of pieces)) (append-nil part.old)

size-more : (part : Part) (run : List Part) → size (part ∷ run) ≡ length (text_of part.old) + size run
size-more part run = ap length (text_of-append part.old (old_pieces run)) ∙ length-append (text_of part.old) (text_of (old_pieces run))

hunk_at-one : (at : ℕ) (part : Part) → hunk_by at part ≡ hunk_at at (part ∷ [])
hunk_at-one at part =
    let made : List Piece → List Piece → Hunk = λ old new. record { at = at; old = text_of old; new = text_of new } in
    ap₂ made (sym (append-nil part.old)) (sym (append-nil part.new))

-- the hunk of a part, with that of a run that begins at its end
abbrev with_run : ℕ → Part → List Part → Hunk
with_run at part run = record { at = at; old = text_of part.old ++ text_of (old_pieces run); new = text_of part.new ++ edited_text run }

hunk_at-more : (at : ℕ) (part : Part) (run : List Part) → with_run at part run ≡ hunk_at at (part ∷ run)
hunk_at-more at part run =
    let made : List ℕ → List ℕ → Hunk = λ old new. record { at = at; old = old; new = new } in
    ap₂ made (sym (text_of-append part.old (old_pieces run))) (sym (text_of-append part.new (new_pieces run)))

-- ---- runs in turn

-- the hunks of the changed runs, also of those whose two texts are the same
abbrev run_hunks : Bool → ℕ → List (List Part) → List Hunk
run_hunks kept at [] = []
run_hunks true at (run ∷ runs) = run_hunks false (at + size run) runs
run_hunks false at (run ∷ runs) = hunk_at at run ∷ run_hunks true (at + size run) runs

-- a part that is kept has a text
abbrev pub IsFull : Part → Type 0
IsFull part = is_kept part ≡ true → 0 < length (text_of part.old)

record IsCut (kept : Bool) (script : List Part) (runs : List (List Part)) : Type 0 where
  pub parts : flat_map (λ run. run) runs ≡ script
  pub in_turn : AreInTurn kept runs
  pub hunks : (at : ℕ) → merged (changes_from at script) ≡ run_hunks kept at runs

none_cut : (kept other : Bool) (script : List Part) → IsCut kept script [] → IsCut other script []
none_cut kept other script cut = record { parts = cut.parts; in_turn = tt; hunks = cut.hunks }

not_none : (part : Part) (run : List Part) → ◌≢◌ {A = List Part} (part ∷ run) []
not_none part run e = absurd (cc)

module _ (part : Part) (script : List Part) where
  kept_alone : (runs : List (List Part)) → is_kept part ≡ true → IsCut false script runs → IsCut true (part ∷ script) ((part ∷ []) ∷ runs)
  kept_alone runs kept cut = record {
    parts = ap (λ parts. part ∷ parts) cut.parts;
    in_turn = (not_none part [], (kept, tt), cut.in_turn);
    hunks = λ at. rw kept (cut.hunks (at + length (text_of part.old)) ∙ ap (λ n. run_hunks false (at + n) runs) (sym (size-one part)));
  }

  kept_more : (run : List Part) (runs : List (List Part)) → is_kept part ≡ true → IsCut true script (run ∷ runs) → IsCut true (part ∷ script) ((part ∷ run) ∷ runs)
  kept_more run runs kept cut = record {
    parts = ap (λ parts. part ∷ parts) cut.parts;
    in_turn = (not_none part run, (kept, cut.in_turn.1), cut.in_turn.2);
    hunks = λ at.
        let further : at + length (text_of part.old) + size run ≡ at + size (part ∷ run) = omega (arith, size-more part run) in
        rw kept (cut.hunks (at + length (text_of part.old)) ∙ ap (λ n. run_hunks false n runs) further);
  }

  changed_more : (run : List Part) (runs : List (List Part)) → is_kept part ≡ false → IsCut false script (run ∷ runs) → IsCut false (part ∷ script) ((part ∷ run) ∷ runs)
  changed_more run runs changed cut = record {
    parts = ap (λ parts. part ∷ parts) cut.parts;
    in_turn = (not_none part run, (changed, cut.in_turn.1), cut.in_turn.2);
    hunks = λ at.
        let next : ℕ = at + length (text_of part.old) in
        let further : next + size run ≡ at + size (part ∷ run) = omega (arith, size-more part run) in
        let touch : (next == next) ≡ true = eq-eqb next next refl in
        let join : joining (hunk_by at part) (hunk_at next run ∷ run_hunks true (next + size run) runs) ≡ with_run at part run ∷ run_hunks true (next + size run) runs = rw touch refl in
        rw changed (ap (joining (hunk_by at part)) (cut.hunks next) ∙ join
        ∙ ap₂ (λ hunk n. hunk ∷ run_hunks true n runs) (hunk_at-more at part run) further);
  }

  -- a changed part doesn't touch the changes after a run with a text
  apart : (at : ℕ) (run : List Part) (runs : List (List Part)) → 0 < size run
      → joining (hunk_by at part) (run_hunks true (at + length (text_of part.old)) (run ∷ runs)) ≡ hunk_by at part ∷ run_hunks true (at + length (text_of part.old)) (run ∷ runs)
  apart at run [] full = refl
  apart at run (next ∷ runs) full =
      let reached : ℕ = at + length (text_of part.old) in
      let past : (reached == reached + size run) ≡ false = ne_eqb reached (reached + size run) (λ same. omega arith) in
      rw past refl

  changed_alone : (runs : List (List Part)) → is_kept part ≡ false
      → ((at : ℕ) → joining (hunk_by at part) (run_hunks true (at + length (text_of part.old)) runs) ≡ hunk_by at part ∷ run_hunks true (at + length (text_of part.old)) runs)
      → IsCut true script runs → IsCut false (part ∷ script) ((part ∷ []) ∷ runs)
  changed_alone runs changed separate cut = record {
    parts = ap (λ parts. part ∷ parts) cut.parts;
    in_turn = (not_none part [], (changed, tt), cut.in_turn);
    hunks = λ at.
        let next : ℕ = at + length (text_of part.old) in
        rw changed (ap (joining (hunk_by at part)) (cut.hunks next) ∙ separate at
        ∙ ap₂ (λ hunk n. hunk ∷ run_hunks true (at + n) runs) (hunk_at-one at part) (sym (size-one part)));
  }

-- a run of kept parts has a text
full_run : (run more script : List Part) → run ≢ [] → run ++ more ≡ script → AllByRecursion IsFull script → AllByRecursion (λ part. is_kept part ≡ true) run → 0 < size run
full_run [] more script some same full kept = absurd (some refl)
full_run (part ∷ run) more script some same full kept =
    let here = subst (AllByRecursion IsFull) (sym same) full in
    let text : 0 < length (text_of part.old) = here.0 kept.0 in
    omega (arith, size-more part run)

abbrev HasCut : List Part → Type 0
HasCut script = (kept : Bool) × (runs : List (List Part)) × IsCut kept script runs

cut_more : (part : Part) (script : List Part) (own : Bool) → is_kept part ≡ own → AllByRecursion IsFull script → HasCut script → HasCut (part ∷ script)
cut_more part script true is full (kept, [], cut) = (true, (part ∷ []) ∷ [], kept_alone part script [] is (none_cut kept false script cut))
cut_more part script true is full (true, run ∷ runs, cut) = (true, (part ∷ run) ∷ runs, kept_more part script run runs is cut)
cut_more part script true is full (false, run ∷ runs, cut) = (true, (part ∷ []) ∷ run ∷ runs, kept_alone part script (run ∷ runs) is cut)
cut_more part script false is full (kept, [], cut) = (false, (part ∷ []) ∷ [], changed_alone part script [] is (λ at. refl) (none_cut kept true script cut))
cut_more part script false is full (true, run ∷ runs, cut) = (
  false,
  (part ∷ []) ∷ run ∷ runs,
  changed_alone part script (run ∷ runs) is
      (λ at. apart part script at run runs (full_run run (flat_map (λ run. run) runs) script cut.in_turn.0 cut.parts full cut.in_turn.1)) cut,
)
cut_more part script false is full (false, run ∷ runs, cut) = (false, (part ∷ run) ∷ runs, changed_more part script run runs is cut)

cut_of : (script : List Part) → AllByRecursion IsFull script → HasCut script
cut_of [] full = (true, [], record { parts = refl; in_turn = tt; hunks = λ at. refl })
cut_of (part ∷ script) full = cut_more part script (is_kept part) refl full.1 (cut_of script full.1)

-- ---- a hunk for each run whose two texts differ

same_text : (run : List Part) → AllByRecursion (λ part. is_kept part ≡ true) run → text_of (old_pieces run) ≡ edited_text run
same_text [] kept = refl
same_text (part ∷ run) kept =
    text_of-append part.old (old_pieces run) ∙ ap₂ (λ prefix rest. prefix ++ rest) (same_bytes (text_of part.old) (text_of part.new) kept.0) (same_text run kept.1)
    ∙ sym (text_of-append part.new (new_pieces run))

changes_from-runs : (kept : Bool) (at : ℕ) (runs : List (List Part)) → AreInTurn kept runs → real_changes (run_hunks kept at runs) ≡ changes_from at (map as_one runs)
changes_from-runs kept at [] in_turn = refl
changes_from-runs true at (run ∷ runs) in_turn =
    let same : is_kept (as_one run) ≡ true = ap (λ text. bytes_eq text (edited_text run)) (same_text run in_turn.1) ∙ bytes_eq-self (edited_text run) in
    rw same (changes_from-runs false (at + size run) runs in_turn.2)
changes_from-runs false at (run ∷ runs) in_turn =
    let more = changes_from-runs true (at + size run) runs in_turn.2 in
    elim (cases_Bool (is_kept (as_one run))) [
      | inl same ↦ rw same more
      | inr differ ↦ rw differ (ap (λ hunks. hunk_at at run ∷ hunks) more)
    ]

pub changes_of_script : (script : List Part) → AllByRecursion IsFull script → AreChangesOf script (hunks_of script)
changes_of_script script full =
    let found = cut_of script full in
    let cut = found.2 in
    record {
      runs = found.1;
      joined = cut.parts;
      first = found.0;
      in_turn = cut.in_turn;
      changes = ap real_changes (cut.hunks 0) ∙ changes_from-runs found.0 0 found.1 cut.in_turn;
    }

-- ---- the script of an edit

-- elements stand on one of its sides
abbrev pub IsSome : Part → Type 0
IsSome part = 0 < length part.old + length part.new

-- well-formed elements have a text
text_full : (pieces : List Piece) → AllByRecursion IsElement pieces → 0 < length pieces → 0 < length (text_of pieces)
text_full [] all some = absurd (omega arith)
text_full (piece ∷ pieces) all some = full_length (text_of (piece ∷ pieces)) (some_text piece pieces all.0)
  where
    full_length : (text : List ℕ) → text ≢ [] → 0 < length text
    full_length [] some = absurd (some refl)
    full_length (b ∷ text) some = omega arith

full_part : (old new : List Piece) → AllByRecursion IsElement old → AllByRecursion IsElement new → IsSome (record { old = old; new = new }) → IsFull (record { old = old; new = new })
full_part [] new old_all new_all some kept =
    let same : length (text_of []) ≡ length (text_of new) = ap length (same_bytes (text_of []) (text_of new) kept) in
    omega (arith, text_full new new_all (omega arith))
full_part (piece ∷ old) new old_all new_all some kept = text_full (piece ∷ old) old_all (omega arith)

pub full_parts : (parts : List Part) → AllByRecursion IsElement (old_pieces parts) → AllByRecursion IsElement (new_pieces parts) → AllByRecursion IsSome parts → AllByRecursion IsFull parts
full_parts [] old_all new_all some = tt
full_parts (part ∷ parts) old_all new_all some = (
  full_part part.old part.new (AllByRecursion-prefix IsElement part.old (old_pieces parts) old_all) (AllByRecursion-prefix IsElement part.new (new_pieces parts) new_all) some.0,
  full_parts parts (AllByRecursion-following IsElement part.old (old_pieces parts) old_all) (AllByRecursion-following IsElement part.new (new_pieces parts) new_all) some.1,
)
