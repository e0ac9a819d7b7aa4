-- The hunks of a patch, and what stays of a text between them.
use Rattle.std.proofs.Common.{◌≡◌, ◌∙◌, ℕ, cond, eqb, ◌&&◌, ◌+◌, ◌-◌, ◌≤◌, List, [], ◌∷◌, ◌++◌, length, take, drop, refl, sym, ap, ap₂, subst, append_assoc, append-nil, length-append, length-drop}
use Rattle.std.proofs.Common.{drop-drop, arith}
use Rattle.std.specs.List.{flat_map}
use Rattle.std.proofs.lemmas.List.{take_at, drop_at}
use Rattle.std.specs.Prelude.{Ok}
use Rattle.rec_journal.specs.declared.patch.Hunk.{Hunk}
use Rattle.rec_journal.specs.Patch.{Splices, SplicesFrom}
use Rattle.rec_diff.specs.declared.lining.Lining.{Lining}
use Rattle.rec_diff.specs.Changes.{Stretch, stays, turns, cut_from, hunks_at, before_of, after_of, joined}
use Rattle.rec_diff.specs.Lines.{at_line}
use Rattle.rec_diff.specs.WholeLines.{IsChange, OneChange, lined_stay, lined_turn, lined_from, closed, trimmed, whole_lines}
use Rattle.rec_diff.specs.declared.style.DiffStyle.{DiffStyle}
use Rattle.rec_diff.specs.Diff.{IsChangeText, diff_text}
use Rattle.rec_diff.specs.proving.Turns.{IsLining, LeadsFrom, Reads, ReadsHunk, Turns, open_new, open_old, so_far}
use Rattle.rec_diff.proofs.lemmas.PlaceLemmas.{Stands}
use Rattle.rec_diff.proofs.lemmas.LiningLemmas.{StandsInBoth, lined_stay-append}

-- a hunk stands at this place of a text
pub record IsCut (place : ℕ) (h : Hunk) (text bytes kept rest : List ℕ) : Type 0 where
  pub at : place + length kept ≡ h.at
  pub parts : text ≡ kept ++ (bytes ++ rest)

module _ (place : ℕ) (h : Hunk) (text bytes kept rest : List ℕ) (cut : IsCut place h text bytes kept rest) where
  kept_count : length kept ≡ h.at - place
  kept_count = let at = cut.at in omega arith

  pub kept_is : take (h.at - place) text ≡ kept
  kept_is = ap (take (h.at - place)) cut.parts ∙ take_at kept (bytes ++ rest) _ kept_count

  pub after_kept : drop (h.at - place) text ≡ bytes ++ rest
  after_kept = ap (drop (h.at - place)) cut.parts ∙ drop_at kept (bytes ++ rest) _ kept_count

  pub rest_is : drop (h.at - place + length bytes) text ≡ rest
  rest_is = sym (drop-drop (length bytes) (h.at - place) text) ∙ ap (drop (length bytes)) after_kept ∙ drop_at bytes rest (length bytes) refl

-- the hunks of the cut are those of the patch, and it leads from the one text to the other
pub record CutLeads (place : ℕ) (patch : List Hunk) (before after : List ℕ) : Type 0 where
  pub hunks : hunks_at place (cut_from place patch before) ≡ patch
  pub from : before_of (cut_from place patch before) ≡ before
  pub to : after_of (cut_from place patch before) ≡ after

pub cut_leads : (place : ℕ) (patch : List Hunk) (before after : List ℕ) → SplicesFrom place patch before after → CutLeads place patch before after
cut_leads place [] before after same = record { hunks = refl; from = append-nil before; to = append-nil before ∙ same }
cut_leads place (h ∷ patch) before after (kept, rest_before, rest_after, at, before_is, after_is, more) =
    let cut : IsCut place h before h.old kept rest_before = record { at = at; parts = before_is } in
    let first = kept_is place h before h.old kept rest_before cut in
    let later = rest_is place h before h.old kept rest_before cut in
    let rest = cut_leads (h.at + length h.old) patch rest_before rest_after more in
    let place_is : place + length (take (h.at - place) before) ≡ h.at = ap (λ t. place + length t) first ∙ at in
    record {
      hunks =
          ap₂ (λ p cs. record { at = p; old = h.old; new = h.new } ∷ hunks_at (p + length h.old) cs) place_is (ap (cut_from (h.at + length h.old) patch) later)
          ∙ ap (h ∷◌) rest.hunks;
      from = ap₂ (λ t u. t ++ (h.old ++ before_of (cut_from (h.at + length h.old) patch u))) first later ∙ ap (λ t. kept ++ (h.old ++ t)) rest.from ∙ sym before_is;
      to = ap₂ (λ t u. t ++ (h.new ++ after_of (cut_from (h.at + length h.old) patch u))) first later ∙ ap (λ t. kept ++ (h.new ++ t)) rest.to ∙ sym after_is;
    }

-- the change that a patch makes
pub is_change : (patch : List Hunk) (before after : List ℕ) → Splices patch before after → IsChange patch before after (whole_lines (cut_from 0 patch before))
is_change patch before after splices =
    let leads = cut_leads 0 patch before after splices in
    record { cut = cut_from 0 patch before; by_patch = leads.hunks; from = leads.from; to = leads.to; lined = refl }

pub is_change_text : (style : DiffStyle) (patch : List Hunk) (before after text : List ℕ) → Splices patch before after
    → text ≡ diff_text style (whole_lines (cut_from 0 patch before)) → IsChangeText style patch before after (Ok text)
is_change_text style patch before after text splices is = (whole_lines (cut_from 0 patch before), is_change patch before after splices, is)

-- ---- a hunk is read

length_of : (text kept bytes rest : List ℕ) → text ≡ kept ++ (bytes ++ rest) → length text ≡ length kept + (length bytes + length rest)
length_of text kept bytes rest is = ap length is ∙ length-append kept (bytes ++ rest) ∙ ap (λ n. length kept + n) (length-append bytes rest)

take_count : (t : List ℕ) (n : ℕ) (text : List ℕ) → length t ≡ n → take n text ≡ t → take (length t) text ≡ t
take_count t n text count is = ap (λ k. take k text) count ∙ is

-- the places of a hunk in both texts
pub record HunkStands (before after : List ℕ) (l : Lining) (h : Hunk) (kept : List ℕ) : Type 0 where
  pub count : length kept ≡ h.at - l.here.old
  pub order : l.here.old ≤ h.at
  pub kept_stands : StandsInBoth before after l kept
  pub old_stands : Stands (l.here.old + length kept) h.old before
  pub new_stands : Stands (l.here.new + length kept) h.new after
  pub old_fits : l.here.old + length kept + length h.old ≤ length before
  pub new_fits : l.here.new + length kept + length h.new ≤ length after

stands_at : (place : ℕ) (text kept bytes rest : List ℕ) → drop place text ≡ kept ++ (bytes ++ rest) → Stands place kept text × Stands (place + length kept) bytes text
stands_at place text kept bytes rest is = (
  ap (take (length kept)) is ∙ take_at kept (bytes ++ rest) _ refl,
  ap (take (length bytes)) (sym (drop-drop (length kept) place text) ∙ ap (drop (length kept)) is ∙ drop_at kept (bytes ++ rest) _ refl) ∙ take_at bytes rest _ refl,
)

fits_at : (place : ℕ) (text kept bytes rest : List ℕ) → place ≤ length text → drop place text ≡ kept ++ (bytes ++ rest) → place + length kept + length bytes ≤ length text
fits_at place text kept bytes rest fits is = let count = length_of (drop place text) kept bytes rest is in omega (arith, length-drop place text)

pub hunk_stands : (before after : List ℕ) (l : Lining) (h : Hunk) → IsLining before after l → (hunks : List Hunk) → LeadsFrom before after l (h ∷ hunks)
    → (kept : List ℕ) × HunkStands before after l h kept
hunk_stands before after l h sound hunks (kept, rest_before, rest_after, at, before_is, after_is, more) =
    let old = stands_at l.here.old before kept h.old rest_before before_is in
    let new = stands_at l.here.new after kept h.new rest_after after_is in
    let old_fits = fits_at l.here.old before kept h.old rest_before sound.here_old before_is in
    let new_fits = fits_at l.here.new after kept h.new rest_after sound.here_new after_is in (
      kept,
      record {
        count = omega arith;
        order = omega arith;
        kept_stands = record { old = old.0; new = new.0; old_fits = omega arith; new_fits = omega arith };
        old_stands = old.1;
        new_stands = new.1;
        old_fits = old_fits;
        new_fits = new_fits;
      },
    )

pub reads_hunk : (before after : List ℕ) (l mid new : Lining) (h : Hunk) (kept : List ℕ) → HunkStands before after l h kept
    → Reads before after l mid kept → Turns before after mid new h.old h.new → ReadsHunk before after h l new
reads_hunk before after l mid new h kept stands one two =
    let place : new.here.old ≡ h.at + length h.old = two.old_here ∙ ap (λ n. n + length h.old) one.old_here ∙ place_is l h kept stands in
    record {
      sound = two.sound;
      found = λ hunks.
          two.found (lined_from (cut_from new.here.old hunks (drop new.here.old before)))
          ∙ one.found (lined_from (turns h.old h.new ∷ cut_from new.here.old hunks (drop new.here.old before)))
          ∙ ap (λ cs. so_far before after l (joined (lined_from cs (open_old before after l) (open_new before after l)))) (cut_here l new h kept stands place hunks);
      leads = λ hunks leads. next_leads l mid new h kept stands one two hunks leads;
    }
  where
    place_is : (l : Lining) (h : Hunk) (kept : List ℕ) → HunkStands before after l h kept → l.here.old + length kept + length h.old ≡ h.at + length h.old
    place_is l h kept stands = let count = stands.count in let order = stands.order in omega arith

    kept_here : (l : Lining) (h : Hunk) (kept : List ℕ) → HunkStands before after l h kept → kept ≡ take (h.at - l.here.old) (drop l.here.old before)
    kept_here l h kept stands = sym (ap (λ n. take n (drop l.here.old before)) (sym stands.count) ∙ stands.kept_stands.old)

    cut_here : (l new : Lining) (h : Hunk) (kept : List ℕ) → HunkStands before after l h kept → new.here.old ≡ h.at + length h.old → (hunks : List Hunk)
        → stays kept ∷ turns h.old h.new ∷ cut_from new.here.old hunks (drop new.here.old before) ≡ cut_from l.here.old (h ∷ hunks) (drop l.here.old before)
    cut_here l new h kept stands place hunks =
        let order = stands.order in
        let rest : drop new.here.old before ≡ drop (h.at - l.here.old + length h.old) (drop l.here.old before) =
        ap (λ n. drop n before) (place ∙ (let e : h.at + length h.old ≡ l.here.old + (h.at - l.here.old + length h.old) = omega arith in e))
        ∙ sym (drop-drop (h.at - l.here.old + length h.old) l.here.old before) in
        ap₂ (λ t cs. stays t ∷ turns h.old h.new ∷ cs) (kept_here l h kept stands) (ap₂ (λ p t. cut_from p hunks t) place rest)

    past : (s t rest text : List ℕ) → text ≡ s ++ (t ++ rest) → drop (length s + length t) text ≡ rest
    past s t rest text is =
        ap (drop (length s + length t)) (is ∙ sym (append_assoc s t rest)) ∙ drop_at (s ++ t) rest _ (length-append s t)

    next_leads : (l mid new : Lining) (h : Hunk) (kept : List ℕ) → HunkStands before after l h kept → Reads before after l mid kept → Turns before after mid new h.old h.new
        → (hunks : List Hunk) → LeadsFrom before after l (h ∷ hunks) → LeadsFrom before after new hunks
    next_leads l mid new h kept stands one two hunks (other, rest_before, rest_after, at, before_is, after_is, more) =
        let count : length other ≡ length kept = let c = stands.count in let o = stands.order in omega arith in
        let old_place : new.here.old ≡ h.at + length h.old = two.old_here ∙ ap (λ n. n + length h.old) one.old_here ∙ place_is l h kept stands in
        let new_place : new.here.new ≡ l.here.new + (length other + length h.new) =
        two.new_here ∙ ap (λ n. n + length h.new) one.new_here ∙ (let e : l.here.new + length kept + length h.new ≡ l.here.new + (length other + length h.new) = omega arith in e) in
        let old_sum : h.at + length h.old ≡ l.here.old + (length other + length h.old) = omega arith in
        let old_rest : drop new.here.old before ≡ rest_before =
        ap (λ n. drop n before) (old_place ∙ old_sum) ∙ sym (drop-drop (length other + length h.old) l.here.old before) ∙ past other h.old rest_before (drop l.here.old before) before_is in
        let new_rest : drop new.here.new after ≡ rest_after =
        ap (λ n. drop n after) new_place ∙ sym (drop-drop (length other + length h.new) l.here.new after) ∙ past other h.new rest_after (drop l.here.new after) after_is in
        subst (λ p. SplicesFrom p hunks (drop new.here.old before) (drop new.here.new after)) (sym old_place)
        (subst (λ t. SplicesFrom (h.at + length h.old) hunks t (drop new.here.new after)) (sym old_rest)
        (subst (SplicesFrom (h.at + length h.old) hunks rest_before) (sym new_rest) more))

-- ---- at the start of both texts

pub record IsAtStart (l : Lining) : Type 0 where
  pub turns : l.turns.items ≡ []
  pub start_old : l.start.old ≡ 0
  pub start_new : l.start.new ≡ 0
  pub line_old : l.line.old ≡ 0
  pub line_new : l.line.new ≡ 0
  pub here_old : l.here.old ≡ 0
  pub here_new : l.here.new ≡ 0

-- ---- there is one change

lined_stay-same : (t : List ℕ) (one other : List ℕ → List ℕ → List Stretch) → ((old new : List ℕ) → one old new ≡ other old new)
    → (old new : List ℕ) → lined_stay t one old new ≡ lined_stay t other old new
lined_stay-same [] one other same old new = same old new
lined_stay-same (b ∷ bs) one other same old new =
    ap₂ (λ x y. cond (eqb b 10) (closed (old ++ b ∷ []) (new ++ b ∷ []) x) y)
    (lined_stay-same bs one other same [] []) (lined_stay-same bs one other same (old ++ b ∷ []) (new ++ b ∷ []))

lined_turn-same : (one other : List ℕ → List ℕ → List Stretch) → ((old new : List ℕ) → one old new ≡ other old new)
    → (old new : List ℕ) → lined_turn one old new ≡ lined_turn other old new
lined_turn-same one other same old new = ap₂ (λ x y. cond (at_line old && at_line new) (closed old new x) y) (same [] []) (same old new)

from_here : (at : ℕ) (cut : List Stretch) → cut_from at (hunks_at (at + 0) cut) (before_of cut) ≡ cut_from at (hunks_at at cut) (before_of cut)
from_here at cut = ap (λ n. cut_from at (hunks_at n cut) (before_of cut)) (let e : at + 0 ≡ at = omega arith in e)

-- parts in whole lines don't tell how what stays is cut
canonical : (at : ℕ) (kept : List ℕ) (cut : List Stretch) (old new : List ℕ)
    → lined_stay kept (lined_from cut) old new ≡ lined_from (cut_from at (hunks_at (at + length kept) cut) (kept ++ before_of cut)) old new
canonical at kept [] old new = ap (λ t. lined_stay t (lined_from []) old new) (sym (append-nil kept))
canonical at kept (stays t ∷ cut) old new =
    sym (lined_stay-append kept t (lined_from cut) old new) ∙ canonical at (kept ++ t) cut old new
    ∙ ap₂ (λ n u. lined_from (cut_from at (hunks_at n cut) u) old new)
    (let e : at + length (kept ++ t) ≡ at + length kept + length t = omega (arith, length-append kept t) in e) (append_assoc kept t (before_of cut))
canonical at kept (turns o n ∷ cut) old new =
    let place = at + length kept in
    let next = place + length o in
    let text = kept ++ (o ++ before_of cut) in
    let first : take (place - at) text ≡ kept = take_at kept (o ++ before_of cut) _ (let e : length kept ≡ place - at = omega arith in e) in
    let count : length (kept ++ o) ≡ place - at + length o = omega (arith, length-append kept o) in
    let later : drop (place - at + length o) text ≡ before_of cut =
    ap (drop (place - at + length o)) (sym (append_assoc kept o (before_of cut))) ∙ drop_at (kept ++ o) (before_of cut) _ count in
    lined_stay-same kept (lined_from (turns o n ∷ cut)) (lined_from (turns o n ∷ cut_from next (hunks_at next cut) (before_of cut)))
    (λ a b. lined_turn-same (lined_from cut) (lined_from (cut_from next (hunks_at next cut) (before_of cut)))
    (λ x y. canonical next [] cut x y ∙ ap (λ cs. lined_from cs x y) (from_here next cut)) (a ++ o) (b ++ n))
    old new
    ∙ ap₂ (λ t u. lined_from (stays t ∷ turns o n ∷ cut_from next (hunks_at next cut) u) old new) (sym first) (sym later)

whole_lines-cut : (cut : List Stretch) → whole_lines cut ≡ whole_lines (cut_from 0 (hunks_at 0 cut) (before_of cut))
whole_lines-cut cut =
    ap (λ cs. joined (flat_map trimmed (joined cs))) (canonical 0 [] cut [] [] ∙ ap (λ cs. lined_from cs [] []) (from_here 0 cut))

change_is : (patch : List Hunk) (before after : List ℕ) (parts : List Stretch) → IsChange patch before after parts → parts ≡ whole_lines (cut_from 0 patch before)
change_is patch before after parts is =
    is.lined ∙ whole_lines-cut is.cut ∙ ap₂ (λ hs t. whole_lines (cut_from 0 hs t)) is.by_patch is.from

pub one_change : OneChange
one_change patch before after parts others is other = change_is patch before after parts is ∙ sym (change_is patch before after others other)
