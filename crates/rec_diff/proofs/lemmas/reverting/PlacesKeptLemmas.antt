-- That what is left keeps its places, by what the code asks of the four texts.
use Rattle.std.proofs.Common.{◌≡◌, ◌∙◌, ◌⊎◌, ◌↔◌, ◌<◌, ◌∷◌, ℕ, Bool, true, List, ◌++◌, map, length, Option, Some, None, slice_get, Any, [], inl, inr}
use Rattle.std.proofs.Common.{refl, sym, subst}
use Rattle.std.specs.List.{AllByRecursion}
use Rattle.std.proofs.lemmas.Option.{none-some, slice_get_within}
use Rattle.rec_journal.specs.declared.event.EditStep.{EditStep}
use Rattle.rec_diff.specs.declared.reverting.edits.Edits.{Edits}
use Rattle.rec_diff.specs.declared.reverting.keeping.known.Known.{Known}
use Rattle.rec_diff.specs.declared.reverting.keeping.Readings.{Readings}
use Rattle.rec_diff.specs.declared.reverting.reading.Reading.{Reading}
use Rattle.rec_diff.specs.declared.reverting.weaving.Woven.{Woven}
use Rattle.rec_diff.specs.declared.turn.Turn.{Turn}
use Rattle.rec_journal.specs.Revisions.{LeadsBy}
use Rattle.rec_diff.specs.Changes.{Stretch, before_of, after_of, cut_from}
use Rattle.rec_diff.specs.WholeLines.{whole_lines}
use Rattle.rec_diff.specs.proving.Weaving.{patch_by}
use Rattle.rec_diff.specs.Keeping.{ArePlacesKept, AreKept, IsChangeBy, IsCutBy, IsKnown, IsPutTogether, KeepsPlaces}
use Rattle.rec_diff.specs.Making.{AreAlike, IsFirst, IsSame, Shares, StaysAmong, StepsMake, WasAmong}
use Rattle.rec_diff.specs.Placed.{IsPlaced, PlacedRecord, PlacedText}
use Rattle.rec_diff.specs.proving.Keeping.{AreBeside, AreLeading, AreLed, AreOthers, AreOwn, AreRead, AreThose, AreUnput, HaveNoOther, IsAgain, IsLedOn}
use Rattle.rec_diff.specs.proving.Keeping.{IsPutBetween, IsPutBy, IsPutOf, IsUntouched, StayOut, later_steps}
use Rattle.rec_diff.specs.proving.Making.{made_at}
use Rattle.rec_diff.specs.proving.Reading.{AreMade, AreTurnsOf, IsMadeOf, IsReading, StaysIn, placed_of, text_of_reading}
use Rattle.rec_diff.proofs.lemmas.CutLemmas.{is_change}
use Rattle.rec_diff.proofs.lemmas.composing.LeadingLemmas.{composes_splices}
use Rattle.rec_diff.proofs.lemmas.reverting.ListLemmas.{all_at, all_from, all_map, any_map, at_is, is_at, one_at, one_first, there, zip_at, zip_back, zip_both}
use Rattle.rec_diff.proofs.lemmas.reverting.AlikeLemmas.{alike_back, stays_alike}
use Rattle.rec_diff.proofs.lemmas.reverting.FoundLemmas.{cuts_alike}
use Rattle.rec_diff.proofs.lemmas.reverting.KeepingLemmas.{no_others_left, none_others, others_map, others_then}
use Rattle.rec_diff.proofs.lemmas.reverting.MakingLemmas.{Then, then_made}
use Rattle.rec_diff.proofs.lemmas.reverting.RevertLemmas.{by_change}
use Rattle.rec_diff.proofs.lemmas.reverting.SharingLemmas.{fields_are}
use Rattle.rec_diff.proofs.lemmas.reverting.ReadingLemmas.{is_placed_of, one_placed}
use Rattle.rec_diff.proofs.lemmas.reverting.StepLemmas.{one_steps_make, steps_make_one}
use Rattle.rec_diff.proofs.lemmas.reverting.WithinLemmas.{first_field, kind_same, one_place, own_there, stays_one}

-- ---- steps have a change

pub change_of_steps : (steps : List EditStep) (before after : List ℕ) → LeadsBy steps before after → (parts : List Stretch) × IsChangeBy steps before after parts
change_of_steps steps before after leads =
    let parts = whole_lines (cut_from 0 (patch_by steps) before) in
    (parts, by_change steps before after parts (is_change (patch_by steps) before after (composes_splices steps (patch_by steps) before after leads refl)))

-- ---- the whole

module _ (edits : Edits) (woven : Woven) (left : List ℕ) (change later ahead back : List Stretch) (led : AreLed edits woven left change later ahead back) (readings : Readings)
    (read : AreRead edits left readings) where
  abbrev B : PlacedText
  B = placed_of readings.before

  abbrev A : PlacedText
  A = placed_of readings.after

  abbrev H : PlacedText
  H = placed_of readings.here

  abbrev L : PlacedText
  L = placed_of readings.left

  pub is_before : IsPlaced (before_of change) B
  is_before = subst (λ t. IsPlaced t B) (read.is_before ∙ sym led.change_turns.from) (is_placed_of readings.before read.before)

  pub is_after : IsPlaced (after_of change) A
  is_after = subst (λ t. IsPlaced t A) (read.is_after ∙ sym led.change_turns.to) (is_placed_of readings.after read.after)

  pub is_here : IsPlaced (after_of later) H
  is_here = subst (λ t. IsPlaced t H) (read.is_here ∙ sym led.later_turns.to) (is_placed_of readings.here read.here)

  pub is_left : IsPlaced (after_of back) L
  is_left = subst (λ t. IsPlaced t L) (read.is_left ∙ sym led.back_turns.to) (is_placed_of readings.left read.left)

  pub change_read : (turns : List Turn) → turns ≡ woven.change.items → AreTurnsOf change (text_of_reading readings.before) (text_of_reading readings.after) turns
  change_read turns is =
      subst (AreTurnsOf change (text_of_reading readings.before) (text_of_reading readings.after)) (sym is)
      (subst (λ t. AreTurnsOf change t (text_of_reading readings.after) woven.change.items) (sym read.is_before)
      (subst (λ t. AreTurnsOf change edits.before.now t woven.change.items) (sym read.is_after) led.change_turns))

  pub later_read : (turns : List Turn) → turns ≡ woven.later.items → AreTurnsOf later (text_of_reading readings.after) (text_of_reading readings.here) turns
  later_read turns is =
      subst (AreTurnsOf later (text_of_reading readings.after) (text_of_reading readings.here)) (sym is)
      (subst (λ t. AreTurnsOf later t (text_of_reading readings.here) woven.later.items) (sym read.is_after)
      (subst (λ t. AreTurnsOf later edits.after.now t woven.later.items) (sym read.is_here) led.later_turns))

  pub ahead_read : (turns : List Turn) → turns ≡ woven.ahead.items → AreTurnsOf ahead (text_of_reading readings.before) (text_of_reading readings.left) turns
  ahead_read turns is =
      subst (AreTurnsOf ahead (text_of_reading readings.before) (text_of_reading readings.left)) (sym is)
      (subst (λ t. AreTurnsOf ahead t (text_of_reading readings.left) woven.ahead.items) (sym read.is_before)
      (subst (λ t. AreTurnsOf ahead edits.before.now t woven.ahead.items) (sym read.is_left) led.ahead_turns))

  pub back_read : (turns : List Turn) → turns ≡ woven.back.items → AreTurnsOf back (text_of_reading readings.here) (text_of_reading readings.left) turns
  back_read turns is =
      subst (AreTurnsOf back (text_of_reading readings.here) (text_of_reading readings.left)) (sym is)
      (subst (λ t. AreTurnsOf back t (text_of_reading readings.left) woven.back.items) (sym read.is_here)
      (subst (λ t. AreTurnsOf back edits.here.now t woven.back.items) (sym read.is_left) led.back_turns))

  abbrev Keeps : Type 0
  Keeps = KeepsPlaces edits.steps.now (later_steps edits) change later ahead back

  abbrev Kept : Type 0
  Kept = ArePlacesKept edits.steps.now (later_steps edits) change later ahead back B A H L

  abbrev pub Elements : Type 0
  Elements = AllByRecursion (λ x. StaysAmong change A.elements x ⊎ StaysAmong ahead L.elements x) B.elements
      × AllByRecursion (λ x. WasAmong later A.elements x ⊎ StaysAmong back L.elements x) H.elements × HaveNoOther ahead back B H L

  abbrev pub Records : Type 0
  Records = AllByRecursion (IsKnown edits.steps.now (later_steps edits) change later ahead back B A H L) L.records

  keeps_to : Keeps → Kept
  keeps_to keeps =
      let b = one_placed (before_of change) keeps.before B keeps.is_before is_before in
      let a = one_placed (after_of change) keeps.after A keeps.is_after is_after in
      let h = one_placed (after_of later) keeps.here H keeps.is_here is_here in
      let l = one_placed (after_of back) keeps.left L keeps.is_left is_left in
      subst (λ x. ArePlacesKept edits.steps.now (later_steps edits) change later ahead back B A H x) l
      (subst (λ x. ArePlacesKept edits.steps.now (later_steps edits) change later ahead back B A x keeps.left) h
      (subst (λ x. ArePlacesKept edits.steps.now (later_steps edits) change later ahead back B x keeps.here keeps.left) a
      (subst (λ x. ArePlacesKept edits.steps.now (later_steps edits) change later ahead back x keeps.after keeps.here keeps.left) b keeps.keeps)))

  pub keeps_elements : Keeps → Elements
  keeps_elements keeps = let kept = keeps_to keeps in (kept.back_again, kept.still_there, kept.no_other)

  pub keeps_out : Keeps → StayOut edits change B H
  keeps_out keeps =
      let kept = keeps_to keeps in (
        kept.all,
        subst (λ t. IsChangeBy (edits.steps.now ++ later_steps edits) t edits.here.now kept.all) led.change_turns.from
            (subst (λ t. IsChangeBy (edits.steps.now ++ later_steps edits) (before_of change) t kept.all) led.later_turns.to kept.all_is),
        kept.still_out,
      )

  pub keeps_records : Keeps → Records
  keeps_records keeps = (keeps_to keeps).records

  pub keeps_from : Elements → StayOut edits change B H → Records → Keeps
  keeps_from (back_again, still_there, no_other) (all, all_is, out) records = record {
    before = B;
    is_before = is_before;
    after = A;
    is_after = is_after;
    here = H;
    is_here = is_here;
    left = L;
    is_left = is_left;
    keeps = record {
      back_again = back_again;
      still_there = still_there;
      no_other = no_other;
      records = records;
      all = all;
      all_is = subst (λ t. IsChangeBy (edits.steps.now ++ later_steps edits) t (after_of later) all) (sym led.change_turns.from)
          (subst (λ t. IsChangeBy (edits.steps.now ++ later_steps edits) edits.before.now t all) (sym led.later_turns.to) all_is);
      still_out = out;
    };
  }

-- ---- put together

module _ (K : PlacedRecord → PlacedRecord → Type 0) (steps : List EditStep) (before after : List ℕ) (ahead back : List Stretch) (B A H L : PlacedText) (is : IsPlaced before B)
    (is_too : IsPlaced after A) (own made : List (Option ℕ)) (are_own : AreMade (StepsMake steps before after) B A own) (are_made : AreMade K A H made) where
  abbrev F : PlacedRecord → PlacedRecord → Type 0
  F = StepsMake steps before after

  abbrev pub both : List (Option ℕ)
  both = map (made_at made) own

  in_after : AllByRecursion (λ a. (b : PlacedRecord) → F a b → Any (◌≡◌ b) A.records) B.records
  in_after = all_from (λ a. (b : PlacedRecord) → F a b → Any (◌≡◌ b) A.records) B.records (λ k a at b makes. steps_make_one steps before after B A a b is (is_at B.records k a at) is_too makes)

  are_both : AreMade (Then F K) B H both
  are_both = then_made F K B A H made (one_steps_make steps before after) in_after are_made own are_own

  pub both_lead : AreLeading both B H
  both_lead i j at =
      let (old, old_at, made_of) = zip_back (IsMadeOf (Then F K) H.records) B.records both i (Some j) are_both at in
      let (new, new_at, leads) = made_of in
      (slice_get_within B.records i old old_at, slice_get_within H.records j new new_at)

  pub between_by : (r : PlacedRecord) → IsPutBy both ahead back B H L r → IsPutBetween K steps before after ahead back B A H L r
  between_by r (i, j, old, new, led_at, old_at, new_at, put) =
      let (its, its_at, (between, makes, kept)) = zip_both (IsMadeOf (Then F K) H.records) B.records both i old (Some j) are_both old_at led_at in
      record {
        old = old;
        is_old = is_at B.records i old old_at;
        between = between;
        is_between = all_at (λ a. (b : PlacedRecord) → F a b → Any (◌≡◌ b) A.records) B.records i old in_after old_at between makes;
        new = new;
        is_new = is_at H.records j new new_at;
        made = makes;
        kept = subst (K between) (one_at H.records j its new its_at new_at) kept;
        put = put;
      }

  pub by_between : ((b c d : PlacedRecord) → Any (◌≡◌ b) A.records → Any (◌≡◌ c) H.records → Any (◌≡◌ d) H.records → K b c → K b d → c ≡ d) → (r : PlacedRecord)
      → IsPutBetween K steps before after ahead back B A H L r → IsPutBy both ahead back B H L r
  by_between one_leads r p =
      let (i, old_at) = at_is B.records p.old p.is_old in
      let (m, led_at, is_made) = zip_at (IsMadeOf (Then F K) H.records) B.records both i p.old are_both old_at in
      by i old_at m led_at is_made
    where
      by : (i : ℕ) → slice_get B.records i ≡ Some p.old → (m : Option ℕ) → slice_get both i ≡ Some m → IsMadeOf (Then F K) H.records p.old m → IsPutBy both ahead back B H L r
      by i old_at None led_at none =
          absurd (let (j, new_at) = at_is H.records p.new p.is_new in all_at (λ its. Then F K p.old its → ⊥) H.records j p.new none new_at (p.between, p.made, p.kept))
      by i old_at (Some j) led_at (its, its_at, (between, makes, kept)) =
          let b : between ≡ p.between = one_steps_make steps before after p.old between p.between makes p.made in
          let e : p.new ≡ its = one_leads p.between p.new its p.is_between p.is_new (is_at H.records j its its_at) p.kept (subst (λ x. K x its) b kept) in
          (i, j, p.old, its, led_at, old_at, its_at, subst (λ x. IsPutOf ahead back B H L p.old x r) e p.put)

  pub others_between : ((b c d : PlacedRecord) → Any (◌≡◌ b) A.records → Any (◌≡◌ c) H.records → Any (◌≡◌ d) H.records → K b c → K b d → c ≡ d) → (records others : List ℕ)
      → AreOthers (IsPutBy both ahead back B H L) L records others → AreOthers (IsPutBetween K steps before after ahead back B A H L) L records others
  others_between one_leads records others = others_map (IsPutBy both ahead back B H L) (IsPutBetween K steps before after ahead back B A H L) L records others between_by (by_between one_leads)

-- ---- a record leads to one alone

pub first_alike : {p q : List Stretch} → AreAlike p q → (one : PlacedRecord) (records : List PlacedRecord) (new : PlacedRecord) → IsFirst (Shares p one) records new
    → IsFirst (Shares q one) records new
first_alike {p} {q} a one records new first = record {
  before = first.before;
  rest = first.rest;
  cut = first.cut;
  others = all_map (λ other. Shares p one other → ⊥) (λ other. Shares q one other → ⊥) first.before (λ other none shares. none (shares_alike (alike_back a) other shares)) first.others;
  is = shares_alike a new first.is;
}
  where
    shares_alike : {p q : List Stretch} → AreAlike p q → (other : PlacedRecord) → Shares p one other → Shares q one other
    shares_alike {p} {q} a other = any_map (StaysAmong p other.fields) (StaysAmong q other.fields) one.fields (stays_alike a other.fields)

pub one_untouched : (edits : Edits) (H : PlacedText) (b c d : PlacedRecord) → IsUntouched edits H b c → IsUntouched edits H b d → c ≡ d
one_untouched edits H b c d (parts, is, first) (others, are, other) =
    one_first (Shares parts b) H.records c d first (first_alike (cuts_alike (later_steps edits) edits.after.now edits.here.now others parts are is) b H.records d other)

module _ (text other : Reading) (is : IsReading text) (is_too : IsReading other) (parts : List Stretch) (ts : List Turn)
    (are : AreTurnsOf parts (text_of_reading text) (text_of_reading other) ts) where
  pub one_again : (b c d : PlacedRecord) → Any (◌≡◌ b) (placed_of text).records → Any (◌≡◌ c) (placed_of other).records → Any (◌≡◌ d) (placed_of other).records → IsAgain parts b c
      → IsAgain parts b d → c ≡ d
  one_again b c d b_in c_in d_in again again_too =
      let T = placed_of text in
      let E = placed_of other in
      let (i, b_at) = at_is T.records b b_in in
      let (j, c_at) = at_is E.records c c_in in
      let (k, d_at) = at_is E.records d d_in in
      let (x, x_in) = first_field text is i b b_at in
      let (a, x_at) = at_is b.fields x x_in in
      let (n, there, field) = own_there text other is is_too (IsSame parts) (stays_one text other is is_too parts ts are) (kind_same parts) i b b_at a x x_at in
      let one : StaysIn parts E x j = subst (λ l. StaysAmong parts l x) (sym (fields_are E j c c_at)) (all_at (StaysAmong parts c.fields) b.fields a x again x_at) in
      let another : StaysIn parts E x k = subst (λ l. StaysAmong parts l x) (sym (fields_are E k d d_at)) (all_at (StaysAmong parts d.fields) b.fields a x again_too x_at) in
      let e : j ≡ k = one_place text other is is_too (IsSame parts) (stays_one text other is is_too parts ts are) (kind_same parts) n x j k there one another in
      one_at E.records k c d (subst (λ m. slice_get E.records m ≡ Some c) e c_at) d_at

pub later_of_read : (edits : Edits) (left : List ℕ) (readings : Readings) → AreRead edits left readings → (later : List Stretch) (ts : List Turn) → AreTurnsOf later edits.after.now edits.here.now ts
    → AreTurnsOf later (text_of_reading readings.after) (text_of_reading readings.here) ts
later_of_read edits left readings read later ts are =
    subst (λ t. AreTurnsOf later t (text_of_reading readings.here) ts) (sym read.is_after) (subst (λ t. AreTurnsOf later edits.after.now t ts) (sym read.is_here) are)

-- ---- the three ways

module _ (edits : Edits) (change later ahead back : List Stretch) (B A H L : PlacedText) (from : before_of change ≡ edits.before.now) (to : after_of change ≡ edits.after.now)
    (ends : after_of later ≡ edits.here.now) (r : PlacedRecord) where
  abbrev Together : Type 0
  Together = IsPutTogether edits.steps.now (later_steps edits) change later ahead back B A H L r

  abbrev Between : (PlacedRecord → PlacedRecord → Type 0) → Type 0
  Between K = IsPutBetween K edits.steps.now edits.before.now edits.after.now ahead back B A H L r

  between : (K : PlacedRecord → PlacedRecord → Type 0) (p : Together) → K p.between p.new → Between K
  between K p kept = record {
    old = p.old;
    is_old = p.is_old;
    between = p.between;
    is_between = p.is_between;
    new = p.new;
    is_new = p.is_new;
    made = subst (λ t. StepsMake edits.steps.now t edits.after.now p.old p.between) from (subst (λ t. StepsMake edits.steps.now (before_of change) t p.old p.between) to p.made);
    kept = kept;
    put = record { of_old = p.of_old; of_new = p.of_new; old_type = p.old_type; new_type = p.new_type };
  }

  pub ways : Together → (Between (IsUntouched edits H) ⊎ Between (IsAgain later)) ⊎ Between (IsLedOn edits)
  ways p = elim p.kept [
    | inl (parts, cut, first) ↦
        inl (inl (between (IsUntouched edits H) p (
          parts,
          subst (λ t. IsCutBy (later_steps edits) t edits.here.now parts) to
              (subst (λ t. IsCutBy (later_steps edits) (after_of change) t parts) ends cut),
          first,
        )))
    | inr rest ↦ elim rest [
      | inl again ↦ inl (inr (between (IsAgain later) p again))
      | inr led ↦
          inr (between (IsLedOn edits) p
          (subst (λ t. StepsMake (later_steps edits) t edits.here.now p.between p.new) to (subst (λ t. StepsMake (later_steps edits) (after_of change) t p.between p.new) ends led)))
    ]
  ]

  together : (K : PlacedRecord → PlacedRecord → Type 0) → ((b n : PlacedRecord) → K b n → AreKept edits.steps.now (later_steps edits) change later ahead back B A H L b n) → Between K → Together
  together K kept p = record {
    old = p.old;
    is_old = p.is_old;
    between = p.between;
    is_between = p.is_between;
    new = p.new;
    is_new = p.is_new;
    made = subst (λ t. StepsMake edits.steps.now t (after_of change) p.old p.between) (sym from) (subst (λ t. StepsMake edits.steps.now edits.before.now t p.old p.between) (sym to) p.made);
    kept = kept p.between p.new p.kept;
    of_old = p.put.of_old;
    of_new = p.put.of_new;
    old_type = p.put.old_type;
    new_type = p.put.new_type;
  }

  pub by_untouched : Between (IsUntouched edits H) → Together
  by_untouched =
      together (IsUntouched edits H)
      (λ b n (parts, cut, first). inl (
        parts,
        subst (λ t. IsCutBy (later_steps edits) t (after_of later) parts) (sym to)
            (subst (λ t. IsCutBy (later_steps edits) edits.after.now t parts) (sym ends) cut),
        first,
      ))

  pub by_again : Between (IsAgain later) → Together
  by_again = together (IsAgain later) (λ b n again. inr (inl again))

  pub by_led : Between (IsLedOn edits) → Together
  by_led =
      together (IsLedOn edits)
      (λ b n led. inr (inr (subst (λ t. StepsMake (later_steps edits) t (after_of later) b n) (sym to) (subst (λ t. StepsMake (later_steps edits) edits.after.now t b n) (sym ends) led))))

-- ---- those that aren't put together in one of these ways

module _ (K : PlacedRecord → PlacedRecord → Type 0) (edits : Edits) (known : Known) (own next led : List (Option ℕ)) (left : List ℕ) (read : AreRead edits left known.readings.now)
    (are_own : AreOwn edits known.readings.now own) (are_next : AreMade K (placed_of known.readings.now.after) (placed_of known.readings.now.here) next) (is_led : led ≡ map (made_at next) own) where
  abbrev P : PlacedText
  P = placed_of known.readings.now.before

  abbrev Q : PlacedText
  Q = placed_of known.readings.now.after

  abbrev R : PlacedText
  R = placed_of known.readings.now.here

  abbrev S : PlacedText
  S = placed_of known.readings.now.left

  p_is : IsPlaced edits.before.now P
  p_is = subst (λ t. IsPlaced t P) read.is_before (is_placed_of known.readings.now.before read.before)

  q_is : IsPlaced edits.after.now Q
  q_is = subst (λ t. IsPlaced t Q) read.is_after (is_placed_of known.readings.now.after read.after)

  pub led_leads : AreLeading led P R
  led_leads = subst (λ l. AreLeading l P R) (sym is_led) (both_lead K edits.steps.now edits.before.now edits.after.now [] [] P Q R S p_is q_is own next are_own are_next)

  pub unput : ((b c d : PlacedRecord) → Any (◌≡◌ b) Q.records → Any (◌≡◌ c) R.records → Any (◌≡◌ d) R.records → K b c → K b d → c ≡ d) → (records others : List ℕ)
      → ((ahead back : List Stretch) → AreBeside known ahead back → HaveNoOther ahead back P R S → AreOthers (IsPutBy led ahead back P R S) S records others) → AreUnput K edits known records others
  unput one_leads records others are = λ ahead back beside no_other.
      others_between K edits.steps.now edits.before.now edits.after.now ahead back P Q R S p_is q_is own next are_own are_next one_leads records others
      (subst (λ l. AreOthers (IsPutBy l ahead back P R S) S records others) is_led (are ahead back beside no_other))

-- ---- all are put together

module _ (edits : Edits) (known : Known) (woven : Woven) (left : List ℕ) (change later ahead back : List Stretch) (led : AreLed edits woven left change later ahead back)
    (beside : AreBeside known ahead back)
    (no_other : HaveNoOther ahead back (placed_of known.readings.now.before) (placed_of known.readings.now.here) (placed_of known.readings.now.left)) (records : List ℕ)
    (within : (k : ℕ) → Any (◌≡◌ k) records → k < length (placed_of known.readings.now.left).records) where
  abbrev U : PlacedText
  U = placed_of known.readings.now.before

  abbrev V : PlacedText
  V = placed_of known.readings.now.after

  abbrev W : PlacedText
  W = placed_of known.readings.now.here

  abbrev X : PlacedText
  X = placed_of known.readings.now.left

  abbrev IsPut : PlacedRecord → Type 0
  IsPut = IsPutTogether edits.steps.now (later_steps edits) change later ahead back U V W X

  abbrev By : (PlacedRecord → PlacedRecord → Type 0) → PlacedRecord → Type 0
  By K = IsPutBetween K edits.steps.now edits.before.now edits.after.now ahead back U V W X

  abbrev pub AllPut : Type 0
  AllPut = (k : ℕ) (own : PlacedRecord) → Any (◌≡◌ k) records → slice_get X.records k ≡ Some own → IsPut own

  from : before_of change ≡ edits.before.now
  from = led.change_turns.from

  to : after_of change ≡ edits.after.now
  to = led.change_turns.to

  ends : after_of later ≡ edits.here.now
  ends = led.later_turns.to

  of_untouched : (own : PlacedRecord) → By (IsUntouched edits W) own → IsPut own
  of_untouched own = by_untouched edits change later ahead back U V W X from to ends own

  of_two : (own : PlacedRecord) → By (IsUntouched edits W) own ⊎ By (IsAgain later) own → IsPut own
  of_two own (inl p) = of_untouched own p
  of_two own (inr p) = by_again edits change later ahead back U V W X from to ends own p

  of_three : (own : PlacedRecord) → (By (IsUntouched edits W) own ⊎ By (IsAgain later) own) ⊎ By (IsLedOn edits) own → IsPut own
  of_three own (inl p) = of_two own p
  of_three own (inr p) = by_led edits change later ahead back U V W X from to ends own p

  pub put_none : records ≡ [] → AllPut
  put_none none k own any at = absurd (let (i, there) = at_is [] k (subst (Any (◌≡◌ k)) none any) in none-some k there)

  pub put_of_none : ((one other : PlacedRecord) → StepsMake edits.steps.now edits.before.now edits.after.now one other → ⊥) → (records ≡ [] → ⊥) → AllPut → ⊥
  put_of_none none some all = by records refl
    where
      by : (l : List ℕ) → records ≡ l → ⊥
      by [] e = some e
      by (n ∷ l) e =
          let any : Any (◌≡◌ n) records = subst (Any (◌≡◌ n)) (sym e) (is_at (n ∷ l) 0 n refl) in
          let (own, at) = there X.records n (within n any) in
          let put = all n own any at in
          none put.old put.between
          (subst (λ t. StepsMake edits.steps.now t edits.after.now put.old put.between) from (subst (λ t. StepsMake edits.steps.now (before_of change) t put.old put.between) to put.made))

  pub put_untouched : (touched : List ℕ) → AreUnput (IsUntouched edits W) edits known records touched → touched ≡ [] → AllPut
  put_untouched touched first none =
      let are = subst (AreOthers (By (IsUntouched edits W)) X records) none (first ahead back beside no_other) in
      λ k own any at. of_untouched own (none_others (By (IsUntouched edits W)) X records are k own any at)

  pub put_again : (touched gone : List ℕ) → AreUnput (IsUntouched edits W) edits known records touched → AreUnput (IsAgain later) edits known touched gone → gone ≡ [] → AllPut
  put_again touched gone first second none =
      let two = others_then (By (IsUntouched edits W)) (By (IsAgain later)) X records touched gone (first ahead back beside no_other) (second ahead back beside no_other) in
      let are = subst (AreOthers (λ r. By (IsUntouched edits W) r ⊎ By (IsAgain later) r) X records) none two in
      λ k own any at. of_two own (none_others (λ r. By (IsUntouched edits W) r ⊎ By (IsAgain later) r) X records are k own any at)

  pub put_last : (touched gone others : List ℕ) → AreUnput (IsUntouched edits W) edits known records touched → AreUnput (IsAgain later) edits known touched gone
      → AreUnput (IsLedOn edits) edits known gone others → (b : Bool) → (b ≡ true) ↔ (others ≡ []) → (b ≡ true) ↔ AllPut
  put_last touched gone others first second third b is =
      let two = others_then (By (IsUntouched edits W)) (By (IsAgain later)) X records touched gone (first ahead back beside no_other) (second ahead back beside no_other) in
      let three = others_then (λ r. By (IsUntouched edits W) r ⊎ By (IsAgain later) r) (By (IsLedOn edits)) X records gone others two (third ahead back beside no_other) in
      let T = λ (r : PlacedRecord). (By (IsUntouched edits W) r ⊎ By (IsAgain later) r) ⊎ By (IsLedOn edits) r in (
        λ e. let are = subst (AreOthers T X records) (is.0 e) three in λ k own any at. of_three own (none_others T X records are k own any at),
        λ all. is.1 (no_others_left T X records others within three (λ k own any at. ways edits change later ahead back U V W X from to ends own (all k own any at))),
      )

-- those that aren't put together are of the given ones
pub unput_within : (K : PlacedRecord → PlacedRecord → Type 0) (edits : Edits) (known : Known) (ahead back : List Stretch) → AreBeside known ahead back
    → HaveNoOther ahead back (placed_of known.readings.now.before) (placed_of known.readings.now.here) (placed_of known.readings.now.left) → (records others : List ℕ)
    → AreUnput K edits known records others → ((k : ℕ) → Any (◌≡◌ k) records → k < length (placed_of known.readings.now.left).records) → (k : ℕ) → Any (◌≡◌ k) others
    → k < length (placed_of known.readings.now.left).records
unput_within K edits known ahead back beside no_other records others unput within k any = let (listed, none) = (unput ahead back beside no_other).lack k any in within k listed

-- ---- all are known

-- a record that is listed is put together, and each other one is whole
pub known_by : (H V T : PlacedRecord → Type 0) (text : PlacedText) (numbers : List ℕ) → AreThose (λ r. H r ⊎ V r) text numbers → (b : Bool)
    → (b ≡ true) ↔ ((k : ℕ) (own : PlacedRecord) → Any (◌≡◌ k) numbers → slice_get text.records k ≡ Some own → T own) → (b ≡ true) ↔ AllByRecursion (λ r. H r ⊎ (V r ⊎ T r)) text.records
known_by H V T text numbers are b is = (
  λ e. all_from (λ r. H r ⊎ (V r ⊎ T r)) text.records (λ k r at. elim (are.rest k r at) [
    | inl whole ↦ elim whole [ inl h ↦ inl h | inr v ↦ inr (inl v) ]
    | inr any ↦ inr (inr (is.0 e k r any at))
  ]),
  λ all. is.1 (λ k own any at.
      let (q, q_at, lacks) = are.lack k any in
      let none : H own ⊎ V own → ⊥ = subst (λ r. H r ⊎ V r → ⊥) (one_at text.records k q own q_at at) lacks in
      elim (all_at (λ r. H r ⊎ (V r ⊎ T r)) text.records k own all at) [
        | inl h ↦ absurd (none (inl h))
        | inr rest ↦ elim rest [ inl v ↦ absurd (none (inr v)) | inr t ↦ t ]
      ]),
)
