-- Landmarks that are chosen are lines that both texts share, one after another.
use Rattle.std.proofs.Common.{◌≡◌, ◌∙◌, ℕ, ◌+◌, ◌≤◌, ◌<◌, false, eqb, List, [], ◌∷◌, ◌++◌, Option, Some, None, length, take, drop, refl, sym, ap, ap₂, subst, inl, inr, arith}
use Rattle.std.specs.Prelude.{flat_map, ◌⊎◌}
use Rattle.std.specs.List.{AllByRecursion}
use Rattle.std.specs.Str.{bytes_eq}
use Rattle.std.proofs.lemmas.Bool.{cases_Bool, cond-true, cond-false, false≢true}
use Rattle.std.proofs.lemmas.List.{append_assoc, append-nil, length-append, drop_at, take_at}
use Rattle.std.proofs.lemmas.Grind.{flat_map-append}
use Rattle.rec_text.specs.Bytes.{is_nil}
use Rattle.rec_text.proofs.lemmas.ListLemmas.{AllByRecursion-weaker, same_bytes, bytes_eq-self}
use Rattle.rec_diff.specs.declared.turn.Place.{Place}
use Rattle.rec_diff.specs.Comparing.{places_of, only, landmark, landmarks, longest_from, AreInOrder, LongestIsLongest}
use Rattle.rec_diff.specs.Lines.{first_lines, lines, onto_first_line}
use Rattle.rec_diff.specs.proving.Cutting.{IsShared, after_line, AreCuts}
use Rattle.rec_diff.specs.proving.Passages.{origin}
use Rattle.rec_diff.proofs.lemmas.ShareLemmas.{text_of}
use Rattle.rec_diff.proofs.lemmas.TrimLemmas.{later_lines, text_of-parts}
use Rattle.rec_diff.proofs.lemmas.comparing.LongestLemmas.{AscendInOld, in_order, longest_of}

-- ---- a line of a text, by its place

pub record IsLineAt (text : List ℕ) (place : ℕ) (line : List ℕ) : Type 0 where
  pub earlier : List (List ℕ)
  pub later : List (List ℕ)
  pub split : lines text ≡ earlier ++ line ∷ later
  pub count : length (text_of earlier) ≡ place

line_there : (text : List ℕ) (place : ℕ) (line : List ℕ) (there : IsLineAt text place line) → drop place text ≡ line ++ text_of there.later
line_there text place line there =
    ap (drop place) (text_of-parts text there.earlier (line ∷ there.later) there.split)
    ∙ drop_at (text_of there.earlier) (text_of (line ∷ there.later)) place there.count

first_there : (text : List ℕ) (place : ℕ) (line : List ℕ) → IsLineAt text place line → first_lines 1 (drop place text) ≡ line
first_there text place line there =
    ap (λ ls. text_of (take 1 ls)) (ap lines (line_there text place line there) ∙ later_lines text there.earlier (line ∷ there.later) there.split)
    ∙ append-nil line

fits_there : (text : List ℕ) (place : ℕ) (line : List ℕ) → IsLineAt text place line → place + length line ≤ length text
fits_there text place line there =
    omega (
      arith,
      ap length (text_of-parts text there.earlier (line ∷ there.later) there.split),
      length-append (text_of there.earlier) (line ++ text_of there.later),
      length-append line (text_of there.later),
      there.count,
    )

-- the next line begins where this one ends, or later
apart : (one some other others : List (List ℕ)) (line next : List ℕ) → one ++ line ∷ some ≡ other ++ next ∷ others
    → length (text_of one) < length (text_of other) → length (text_of one) + length line ≤ length (text_of other)
apart [] some [] others line next same order = absurd (omega arith)
apart [] some (o ∷ other) others line next same order =
    let first : line ≡ o = cc in
    omega (arith, ap length first, length-append o (text_of other))
apart (l ∷ one) some [] others line next same order = absurd (omega arith)
apart (l ∷ one) some (o ∷ other) others line next same order =
    let first : l ≡ o = cc in
    let rest : one ++ line ∷ some ≡ other ++ next ∷ others = cc in
    let l_long = length-append l (text_of one) in
    let o_long = length-append o (text_of other) in
    let same_long = ap length first in
    omega (arith, apart one some other others line next rest (omega arith))

next_line : (text : List ℕ) (place other : ℕ) (line next : List ℕ) → IsLineAt text place line → IsLineAt text other next → place < other → place + length line ≤ other
next_line text place other line next one two order =
    omega (arith, one.count, two.count, apart one.earlier one.later two.earlier two.later line next (sym one.split ∙ two.split) (omega (arith, one.count, two.count)))

-- ---- the places of a line

found_from : (text line : List ℕ) (earlier ls : List (List ℕ)) (at : ℕ) → lines text ≡ earlier ++ ls → length (text_of earlier) ≡ at
    → AllByRecursion (λ place. IsLineAt text place line) (places_of line at ls)
found_from text line earlier [] at split count = tt
found_from text line earlier (l ∷ ls) at split count =
    let more = found_from text line (earlier ++ l ∷ []) ls (at + length l) (split ∙ sym (append_assoc earlier (l ∷ []) ls))
    (ap length (flat_map-append (λ line. line) earlier (l ∷ [])) ∙ length-append (text_of earlier) (l ++ []) ∙ ap₂ (λ a t. a + length t) count (append-nil l)) in
    elim (cases_Bool (bytes_eq l line)) [
      | inl e ↦ subst (AllByRecursion (λ place. IsLineAt text place line)) (sym (cond-true (bytes_eq l line) _ _ e))
          (record { earlier = earlier; later = ls; split = split ∙ ap (λ x. earlier ++ x ∷ ls) (same_bytes l line e); count = count }, more)
      | inr e ↦ subst (AllByRecursion (λ place. IsLineAt text place line)) (sym (cond-false (bytes_eq l line) _ _ e)) more
    ]

only_is : (places : List ℕ) (place : ℕ) → only places ≡ Some place → places ≡ place ∷ []
only_is [] place is = cc
only_is (p ∷ []) place is = let same : p ≡ place = cc in ap (λ x. x ∷ []) same
only_is (p ∷ q ∷ places) place is = cc

only_there : (text line : List ℕ) (place : ℕ) → only (places_of line 0 (lines text)) ≡ Some place → IsLineAt text place line
only_there text line place is =
    (subst (AllByRecursion (λ at. IsLineAt text at line)) (only_is (places_of line 0 (lines text)) place is) (found_from text line [] (lines text) 0 refl refl)).0

-- ---- landmarks

pub record IsLandmark (old new : List ℕ) (m : Place) : Type 0 where
  pub line : List ℕ
  pub there_old : IsLineAt old m.old line
  pub there_new : IsLineAt new m.new line

abbrev landmark_of : List ℕ → List ℕ → List ℕ → List Place
landmark_of old new line = landmark (only (places_of line 0 (lines old))) (only (places_of line 0 (lines new)))

-- a landmark of a line, where there is one
pub record IsMarkOf (old new line : List ℕ) (m : Place) : Type 0 where
  pub is : landmark_of old new line ≡ m ∷ []
  pub only_old : only (places_of line 0 (lines old)) ≡ Some m.old
  pub only_new : only (places_of line 0 (lines new)) ≡ Some m.new

mark_of : (old new line : List ℕ) (o n : Option ℕ) → only (places_of line 0 (lines old)) ≡ o → only (places_of line 0 (lines new)) ≡ n
    → (landmark_of old new line ≡ []) ⊎ ((m : Place) × IsMarkOf old new line m)
mark_of old new line (Some o) (Some n) is_o is_n =
    inr (record { old = o; new = n }, record { is = ap₂ landmark is_o is_n; only_old = is_o; only_new = is_n })
mark_of old new line (Some o) None is_o is_n = inl (ap₂ landmark is_o is_n)
mark_of old new line None (Some n) is_o is_n = inl (ap₂ landmark is_o is_n)
mark_of old new line None None is_o is_n = inl (ap₂ landmark is_o is_n)

places_of-append : (line : List ℕ) (some others : List (List ℕ)) (at : ℕ)
    → places_of line at (some ++ others) ≡ places_of line at some ++ places_of line (at + length (text_of some)) others
places_of-append line [] others at = ap (λ n. places_of line n others) (let e : at ≡ at + 0 = omega arith in e)
places_of-append line (l ∷ some) others at =
    let more = places_of-append line some others (at + length l)
    ∙ ap (λ n. places_of line (at + length l) some ++ places_of line n others)
    (let e : at + length l + length (text_of some) ≡ at + length (l ++ text_of some) = omega (arith, length-append l (text_of some)) in e) in
    let rest = places_of line (at + length (l ++ text_of some)) others in
    elim (cases_Bool (bytes_eq l line)) [
      | inl e ↦ cond-true (bytes_eq l line) _ _ e ∙ ap (at ∷◌) more ∙ ap (λ ats. ats ++ rest) (sym (cond-true (bytes_eq l line) _ _ e))
      | inr e ↦ cond-false (bytes_eq l line) _ _ e ∙ more ∙ ap (λ ats. ats ++ rest) (sym (cond-false (bytes_eq l line) _ _ e))
    ]

only_one : (some others : List ℕ) (place at : ℕ) → place ∷ [] ≡ some ++ at ∷ others → place ≡ at
only_one [] others place at is = cc
only_one (s ∷ []) others place at is = cc
only_one (s ∷ t ∷ some) others place at is = cc

-- a line that stands once stands where it was met
place_here : (text line : List ℕ) (earlier later : List (List ℕ)) (at place : ℕ) → lines text ≡ earlier ++ line ∷ later → length (text_of earlier) ≡ at
    → only (places_of line 0 (lines text)) ≡ Some place → place ≡ at
place_here text line earlier later at place split count is =
    only_one (places_of line 0 earlier) (places_of line (at + length line) later) place at
    (sym (only_is (places_of line 0 (lines text)) place is) ∙ ap (places_of line 0) split ∙ places_of-append line earlier (line ∷ later) 0
    ∙ ap (λ n. places_of line 0 earlier ++ places_of line n (line ∷ later)) (let e : 0 + length (text_of earlier) ≡ at = omega (arith, count) in e)
    ∙ ap (λ ats. places_of line 0 earlier ++ ats) (cond-true (bytes_eq line line) _ _ (bytes_eq-self line)))

some_onto : (b : ℕ) (ls : List (List ℕ)) → AllByRecursion (λ line. is_nil line ≡ false) ls → AllByRecursion (λ line. is_nil line ≡ false) (onto_first_line b ls)
some_onto b [] some = (refl, tt)
some_onto b (l ∷ ls) some = (refl, some.1)

lines_some : (text : List ℕ) → AllByRecursion (λ line. is_nil line ≡ false) (lines text)
lines_some [] = tt
lines_some (b ∷ bs) = elim (cases_Bool (eqb b 10)) [
  | inl e ↦ subst (AllByRecursion (λ line. is_nil line ≡ false)) (sym (cond-true (eqb b 10) _ _ e)) (refl, lines_some bs)
  | inr e ↦ subst (AllByRecursion (λ line. is_nil line ≡ false)) (sym (cond-false (eqb b 10) _ _ e)) (some_onto b (lines bs) (lines_some bs))
]

some_long : (line : List ℕ) → is_nil line ≡ false → 0 < length line
some_long [] some = absurd (false≢true (sym some))
some_long (b ∷ bs) some = omega arith

-- the landmarks of these lines, from a place of the old text on
record AreMarks (old new : List ℕ) (at : ℕ) (marks : List Place) : Type 0 where
  later : AllByRecursion (λ (m : Place). at ≤ m.old) marks
  ascend : AscendInOld marks
  all : AllByRecursion (IsLandmark old new) marks

are_marks : (old new : List ℕ) (earlier ls : List (List ℕ)) (at : ℕ) → lines old ≡ earlier ++ ls → length (text_of earlier) ≡ at
    → AllByRecursion (λ line. is_nil line ≡ false) ls → AreMarks old new at (flat_map (landmark_of old new) ls)
are_marks old new earlier [] at split count some = record { later = tt; ascend = tt; all = tt }
are_marks old new earlier (l ∷ ls) at split count some =
    let more = are_marks old new (earlier ++ l ∷ []) ls (at + length l) (split ∙ sym (append_assoc earlier (l ∷ []) ls))
    (ap length (flat_map-append (λ line. line) earlier (l ∷ [])) ∙ length-append (text_of earlier) (l ++ []) ∙ ap₂ (λ a t. a + length t) count (append-nil l)) some.1 in
    let marks = flat_map (landmark_of old new) ls in
    elim (mark_of old new l _ _ refl refl) [
      | inl none ↦ subst (λ ms. AreMarks old new at (ms ++ marks)) (sym none)
          (record { later = AllByRecursion-weaker _ _ (λ m from. omega arith) marks more.later; ascend = more.ascend; all = more.all })
      | inr one ↦
          let m = one.0 in
          let here = place_here old l earlier ls at m.old split count one.1.only_old in
          let long = some_long l some.0 in
          subst (λ ms. AreMarks old new at (ms ++ marks)) (sym one.1.is) (record {
            later = (omega arith, AllByRecursion-weaker _ _ (λ m from. omega arith) marks more.later);
            ascend = (AllByRecursion-weaker _ _ (λ m from. omega arith) marks more.later, more.ascend);
            all = (record { line = l; there_old = only_there old l m.old one.1.only_old; there_new = only_there new l m.new one.1.only_new }, more.all);
          })
    ]

landmarks_are : (old new : List ℕ) → AreMarks old new 0 (landmarks old new)
landmarks_are old new = are_marks old new [] (lines old) 0 refl refl (lines_some old)

pub longest_is_longest : LongestIsLongest
longest_is_longest old new = longest_of (landmarks old new) (landmarks_are old new).ascend

-- ---- those that are chosen

-- each stands after the one before it, in both texts
abbrev AreRising : ℕ → ℕ → List Place → Type 0
AreRising old new [] = Unit {0}
AreRising old new (m ∷ marks) = (old ≤ m.old) × (new ≤ m.new) × AreRising (m.old + 1) (m.new + 1) marks

rising : (marks chosen : List Place) (from least : ℕ) → AllByRecursion (λ (m : Place). from ≤ m.old) marks → AscendInOld marks → AreInOrder least marks chosen
    → AreRising from least chosen
rising marks [] from least later up are = tt
rising [] (c ∷ chosen) from least later up are = absurd are
rising (m ∷ marks) (c ∷ chosen) from least later up (inl first) =
    subst (λ x. AreRising from least (x ∷ chosen)) (sym first.0)
    (later.0, first.1, rising marks chosen (m.old + 1) (m.new + 1) (AllByRecursion-weaker _ _ (λ x after. omega arith) marks up.0) up.1 first.2)
rising (m ∷ marks) (c ∷ chosen) from least later up (inr rest) = rising marks (c ∷ chosen) from least later.1 up.1 rest

all_chosen : (P : Place → Type 0) (marks chosen : List Place) (least : ℕ) → AllByRecursion P marks → AreInOrder least marks chosen → AllByRecursion P chosen
all_chosen P marks [] least all are = tt
all_chosen P [] (c ∷ chosen) least all are = absurd are
all_chosen P (m ∷ marks) (c ∷ chosen) least all (inl first) = (subst P (sym first.0) all.0, all_chosen P marks chosen (m.new + 1) all.1 first.2)
all_chosen P (m ∷ marks) (c ∷ chosen) least all (inr rest) = all_chosen P marks (c ∷ chosen) least all.1 rest

shared_by : (old new : List ℕ) (m : Place) (line first : List ℕ) → IsLineAt old m.old line → IsLineAt new m.new line → first ≡ line
    → (m.old + length first ≤ length old) × (m.new + length first ≤ length new) × (take (length first) (drop m.old old) ≡ first) × (take (length first) (drop m.new new) ≡ first)
shared_by old new m line first there_old there_new is =
    subst (λ x. (m.old + length x ≤ length old) × (m.new + length x ≤ length new) × (take (length x) (drop m.old old) ≡ x) × (take (length x) (drop m.new new) ≡ x)) (sym is) (
      fits_there old m.old line there_old,
      fits_there new m.new line there_new,
      ap (take (length line)) (line_there old m.old line there_old) ∙ take_at line _ (length line) refl,
      ap (take (length line)) (line_there new m.new line there_new) ∙ take_at line _ (length line) refl,
    )

is_shared : (old new : List ℕ) (m : Place) → IsLandmark old new m → IsShared old new m
is_shared old new m mark =
    let by = shared_by old new m mark.line (first_lines 1 (drop m.old old)) mark.there_old mark.there_new (first_there old m.old mark.line mark.there_old) in
    record { fits_old = by.0; fits_new = by.1; is_old = by.2; is_new = by.3 }

are_cuts : (old new : List ℕ) (marks : List Place) (o n : ℕ) (from : Place) → AreRising o n marks → AllByRecursion (IsLandmark old new) marks
    → ((place : ℕ) (line : List ℕ) → o ≤ place → IsLineAt old place line → from.old ≤ place)
    → ((place : ℕ) (line : List ℕ) → n ≤ place → IsLineAt new place line → from.new ≤ place)
    → from.old ≤ length old → from.new ≤ length new → AreCuts old new from marks
are_cuts old new [] o n from rise all in_old in_new fits_old fits_new = (fits_old, fits_new)
are_cuts old new (m ∷ marks) o n from rise all in_old in_new fits_old fits_new =
    let mark = all.0 in
    let shared = is_shared old new m mark in
    let long = ap length (first_there old m.old mark.line mark.there_old) in (
      in_old m.old mark.line rise.0 mark.there_old,
      in_new m.new mark.line rise.1 mark.there_new,
      shared,
      are_cuts old new marks (m.old + 1) (m.new + 1) (after_line old m) rise.2 all.1
          (λ place line later there. omega (arith, long, next_line old m.old place mark.line line mark.there_old there (omega arith)))
          (λ place line later there. omega (arith, long, next_line new m.new place mark.line line mark.there_new there (omega arith)))
          shared.fits_old shared.fits_new,
    )

pub marks_cut : (old new : List ℕ) → AreCuts old new origin (longest_from 0 (landmarks old new))
marks_cut old new =
    let are = landmarks_are old new in
    let order = in_order 0 (landmarks old new) in
    are_cuts old new (longest_from 0 (landmarks old new)) 0 0 origin
    (rising (landmarks old new) _ 0 0 are.later are.ascend order) (all_chosen (IsLandmark old new) (landmarks old new) _ 0 are.all order)
    (λ place line from there. omega arith) (λ place line from there. omega arith) (omega arith) (omega arith)
