-- From one hunk to the next, and to the end of both texts.
use Rattle.std.proofs.Common.{◌≡◌, ◌∙◌, ℕ, ◌+◌, ◌-◌, ◌<◌, ◌≤◌, zero, suc, eqb, Bool, true, false, not, List, [], ◌∷◌, length, map, take, drop, get_or, refl, sym, ap, subst}
use Rattle.std.proofs.Common.{length-drop, arith, Result, Ok, Err, OnOk}
use Rattle.std.specs.Prelude.{IfOk}
use Rattle.std.specs.List.{between}
use Rattle.std.proofs.lemmas.Bool.{false≢true}
use Rattle.std.proofs.lemmas.List.{drop_all, take_all, length-take-le}
use Rattle.rec_text.specs.Lines.{BeginsWithLine}
use Rattle.rec_journal.specs.declared.patch.Hunk.{Hunk}
use Rattle.rec_diff.specs.declared.turn.Turn.{Turn}
use Rattle.rec_diff.specs.declared.lining.Lining.{Lining}
use Rattle.rec_diff.specs.Changes.{stays, cut_from, joined}
use Rattle.rec_diff.specs.WholeLines.{lined_from, whole_lines}
use Rattle.rec_diff.specs.proving.Turns.{AreAll, Closes, IsLining, IsNext, IsOpenFrom, LeadsFrom, Reads, ReadsHunk, Turns, moved, open_new, open_old, site_of, sites, so_far}
use Rattle.rec_diff.proofs.lemmas.PlaceLemmas.{between_from, next_item}
use Rattle.rec_diff.proofs.lemmas.LiningLemmas.{in_lines, stands_both, stay_lines}
use Rattle.rec_diff.proofs.lemmas.CutLemmas.{hunk_stands, reads_hunk}

pub not_true : (b : Bool) → not b ≡ true → b ≡ false
not_true true e = absurd (false≢true e)
not_true false e = refl

pub OnOk-map : {X E : Type 0} (P Q : Type 0) → (r : Result X E) → (P → Q) → OnOk r P → OnOk r Q
OnOk-map P Q (Ok x) f p = f p
OnOk-map P Q (Err e) f p = tt

pub IfOk-map : {X E : Type 0} → (r : Result X E) → (P Q : X → Type 0) → ((x : X) → P x → Q x) → IfOk r P → IfOk r Q
IfOk-map (Ok x) P Q f p = f x p
IfOk-map (Err e) P Q f p = tt

pub some_count : (n : ℕ) → eqb n 0 ≡ false → 0 < n
some_count zero e = absurd (false≢true (sym e))
some_count (suc n) e = omega arith

module _ (before after : List ℕ) where
  -- what stays is read, where a line ends in it
  pub stay_by_lines : (l one two new : Lining) (n : ℕ) (line rest : List ℕ) (place : ℕ) → IsLining before after l → l.here.old + n ≤ length before → l.here.new + n ≤ length after
      → take n (drop l.here.old before) ≡ take n (drop l.here.new after)
      → BeginsWithLine (between l.here.old (l.here.old + n) before) line rest → IsOpenFrom rest place
      → Closes before after (moved (length line + 1) (length line + 1) l) one → Closes before after (moved place place one) two
      → new ≡ moved (length rest - place) (length rest - place) two → Reads before after l new (take n (drop l.here.old before))
  stay_by_lines l one two new n line rest place sound old fits same begins opened closes_one closes_two moved_is =
      let is = between_from l.here.old n before in
      let begins_there : BeginsWithLine (take n (drop l.here.old before)) line rest = subst (λ t. BeginsWithLine t line rest) is begins in
      let count : place ≡ length (take place rest) = sym (length-take-le place rest opened.fits) in
      let left : length rest - place ≡ length (drop place rest) = sym (length-drop place rest) in
      stay_lines before after l one two new (take n (drop l.here.old before)) line (take place rest) (drop place rest) sound (stands_both before after l n old fits same)
      (in_lines before after (take n (drop l.here.old before)) line rest place begins_there opened) closes_one
      (subst (λ k. Closes before after (moved k k one) two) count closes_two) (moved_is ∙ ap (λ k. moved k k two) left)

  -- a hunk, and what stays before it, are read
  pub read_all : (l mid new : Lining) (h : Hunk) → IsLining before after l → (later : List Hunk) → LeadsFrom before after l (h ∷ later)
      → Reads before after l mid (take (h.at - l.here.old) (drop l.here.old before))
      → Turns before after mid new (take (length h.old) (drop mid.here.old before)) (take (length h.new) (drop mid.here.new after)) → ReadsHunk before after h l new
  read_all l mid new h sound later leads one two =
      let w = hunk_stands before after l h sound later leads in
      let kept = w.0 in
      let s = w.1 in
      let same : take (h.at - l.here.old) (drop l.here.old before) ≡ kept = ap (λ n. take n (drop l.here.old before)) (sym s.count) ∙ s.kept_stands.old in
      let first : Reads before after l mid kept = subst (Reads before after l mid) same one in
      let o : take (length h.old) (drop mid.here.old before) ≡ h.old = ap (λ n. take (length h.old) (drop n before)) first.old_here ∙ s.old_stands in
      let n : take (length h.new) (drop mid.here.new after) ≡ h.new = ap (λ k. take (length h.new) (drop k after)) first.new_here ∙ s.new_stands in
      reads_hunk before after l mid new h kept s first
      (subst (λ x. Turns before after mid new x h.new) o (subst (Turns before after mid new (take (length h.old) (drop mid.here.old before))) n two))

  pub read_by : (l mid new : Lining) (h : Hunk) (o n : List ℕ) → IsLining before after l → IsNext before after h l → o ≡ h.old → n ≡ h.new
      → Reads before after l mid (take (h.at - l.here.old) (drop l.here.old before))
      → Turns before after mid new (take (length o) (drop mid.here.old before)) (take (length n) (drop mid.here.new after)) → ReadsHunk before after h l new
  read_by l mid new h o n sound next o_is n_is one two =
      read_all l mid new h sound next.later next.leads one
      (subst (λ x. Turns before after mid new (take (length x) (drop mid.here.old before)) (take (length h.new) (drop mid.here.new after))) o_is
      (subst (λ x. Turns before after mid new (take (length o) (drop mid.here.old before)) (take (length x) (drop mid.here.new after))) n_is two))

  -- the bytes before a hunk and the hunk's own are there
  pub record HunkFits (l : Lining) (h : Hunk) : Type 0 where
    pub order : l.here.old ≤ h.at
    pub stay_old : l.here.old + (h.at - l.here.old) ≤ length before
    pub stay_new : l.here.new + (h.at - l.here.old) ≤ length after
    pub same : take (h.at - l.here.old) (drop l.here.old before) ≡ take (h.at - l.here.old) (drop l.here.new after)
    pub turn_old : l.here.old + (h.at - l.here.old) + length h.old ≤ length before
    pub turn_new : l.here.new + (h.at - l.here.old) + length h.new ≤ length after
    pub kept : length (take (h.at - l.here.old) (drop l.here.old before)) ≡ h.at - l.here.old

  pub hunk_fits : (l : Lining) (h : Hunk) → IsLining before after l → (later : List Hunk) → LeadsFrom before after l (h ∷ later) → HunkFits l h
  hunk_fits l h sound later leads =
      let w = hunk_stands before after l h sound later leads in
      let s = w.1 in
      let count = s.count in
      let a = s.kept_stands.old_fits in
      let b = s.kept_stands.new_fits in
      let c = s.old_fits in
      let d = s.new_fits in
      let old_is : take (h.at - l.here.old) (drop l.here.old before) ≡ w.0 = ap (λ n. take n (drop l.here.old before)) (sym count) ∙ s.kept_stands.old in
      let new_is : take (h.at - l.here.old) (drop l.here.new after) ≡ w.0 = ap (λ n. take n (drop l.here.new after)) (sym count) ∙ s.kept_stands.new in
      record {
        order = s.order;
        stay_old = omega arith;
        stay_new = omega arith;
        same = old_is ∙ sym new_is;
        turn_old = omega arith;
        turn_new = omega arith;
        kept = ap length old_is ∙ count;
      }

  -- ---- one hunk after another

  pub is_next : (patch : List Hunk) (i : ℕ) (l : Lining) (h : Hunk) → LeadsFrom before after l (drop i patch) → i < length patch → h ≡ get_or patch i h → IsNext before after h l
  is_next patch i l h leads there is = record { later = drop (i + 1) patch; leads = subst (LeadsFrom before after l) (next_item patch i h h there is) leads }

  abbrev pub AllFound : List Hunk → List Hunk → Lining → Type 0
  AllFound patch rest l =
      so_far before after l (joined (lined_from (cut_from l.here.old rest (drop l.here.old before)) (open_old before after l) (open_new before after l)))
      ≡ sites [] [] (whole_lines (cut_from 0 patch before))

  pub next_read : (patch : List Hunk) (i : ℕ) (l new : Lining) (h : Hunk) → LeadsFrom before after l (drop i patch) → AllFound patch (drop i patch) l
      → i < length patch → h ≡ get_or patch i h → ReadsHunk before after h l new
      → IsLining before after new × LeadsFrom before after new (drop (i + 1) patch) × AllFound patch (drop (i + 1) patch) new
  next_read patch i l new h leads found there is reads = (
    reads.sound,
    reads.leads (drop (i + 1) patch) (subst (LeadsFrom before after l) (next_item patch i h h there is) leads),
    reads.found (drop (i + 1) patch)
        ∙ ap
        (λ hs. so_far before after l (joined (lined_from (cut_from l.here.old hs (drop l.here.old before)) (open_old before after l) (open_new before after l))))
        (sym (next_item patch i h h there is))
        ∙ found,
  )

  nothing_left : (patch : List Hunk) (i : ℕ) (l : Lining) → LeadsFrom before after l (drop i patch) → length patch ≤ i → drop l.here.old before ≡ drop l.here.new after
  nothing_left patch i l leads all = subst (LeadsFrom before after l) (drop_all i patch all) leads

  -- what is left is the same in both texts
  pub record RestFits (l : Lining) : Type 0 where
    pub old : l.here.old + (length before - l.here.old) ≤ length before
    pub new : l.here.new + (length before - l.here.old) ≤ length after
    pub same : take (length before - l.here.old) (drop l.here.old before) ≡ take (length before - l.here.old) (drop l.here.new after)

  pub rest_fits : (patch : List Hunk) (i : ℕ) (l : Lining) → IsLining before after l → LeadsFrom before after l (drop i patch) → length patch ≤ i → RestFits l
  rest_fits patch i l sound leads all =
      let left = nothing_left patch i l leads all in
      let count : length before - l.here.old ≡ length after - l.here.new = sym (length-drop l.here.old before) ∙ ap length left ∙ length-drop l.here.new after in
      let a = sound.here_old in
      let b = sound.here_new in
      record { old = omega arith; new = omega arith; same = ap (take (length before - l.here.old)) left }

  pub all_read : (patch : List Hunk) (i : ℕ) (l last : Lining) (ts : List Turn) → AllFound patch (drop i patch) l → length patch ≤ i
      → Reads before after l last (take (length before - l.here.old) (drop l.here.old before)) → AreAll before after last ts
      → map (site_of before after) ts ≡ sites [] [] (whole_lines (cut_from 0 patch before))
  all_read patch i l last ts found all reads are =
      let rest : take (length before - l.here.old) (drop l.here.old before) ≡ drop l.here.old before =
      take_all _ (drop l.here.old before) (omega (arith, length-drop l.here.old before)) in
      let none : drop i patch ≡ [] = drop_all i patch all in
      are.found ∙ reads.found (lined_from [])
      ∙ ap (λ t. so_far before after l (joined (lined_from (stays t ∷ []) (open_old before after l) (open_new before after l)))) rest
      ∙ ap (λ hs. so_far before after l (joined (lined_from (cut_from l.here.old hs (drop l.here.old before)) (open_old before after l) (open_new before after l)))) (sym none)
      ∙ found
