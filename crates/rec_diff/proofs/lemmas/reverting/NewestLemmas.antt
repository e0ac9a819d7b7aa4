-- The newest edit is taken back wherever its texts read.
use Rattle.std.proofs.Common.{◌≡◌, ◌∙◌, ◌⊎◌, ℕ, ◌+◌, ◌≤◌, ◌<◌, ◌==◌, Bool, true, false, List, [], ◌∷◌, ◌++◌, length, map, filter, Some, slice_get, inl, inr, refl, sym, ap, subst}
use Rattle.std.proofs.Common.{append-nil, length-append, arith}
use Rattle.std.specs.List.{AllByRecursion, flat_map}
use Rattle.std.specs.Str.{bytes_eq}
use Rattle.std.proofs.lemmas.Bool.{cases_Bool, cond-true, cond-false}
use Rattle.rec_text.specs.Ascii.{newline}
use Rattle.rec_text.proofs.lemmas.ListLemmas.{bytes_eq-self}
use Rattle.rec_journal.specs.declared.event.EditStep.{EditStep}
use Rattle.rec_journal.specs.declared.patch.Hunk.{Hunk}
use Rattle.rec_journal.specs.Patch.{Splices}
use Rattle.rec_journal.specs.Revisions.{LeadsBy}
use Rattle.rec_diff.specs.Changes.{Stretch, stays, turns, turned, before_of, after_of, hunks_at, cut_from, joined, put_stays}
use Rattle.rec_diff.specs.Keeping.{ArePlacesKept, IsChangeBy, IsKnown, IsWhole, KeepsPlaces}
use Rattle.rec_diff.specs.Making.{IsSame, IsTakenOut, StaysAmong, WasAmong}
use Rattle.rec_diff.specs.Placed.{IsPlaced, Placed, PlacedRecord, PlacedText, is_field, placed_text, size}
use Rattle.rec_diff.specs.Reverts.{NewestReverts, Reverts, hunks_without}
use Rattle.rec_diff.specs.Strands.{AreSettled, AreWoven, DontMeet, Strand, same, mine, ahead_in, back_in, hunks_back, later_part, mine_part, woven}
use Rattle.rec_diff.specs.WholeLines.{IsChange, closed, lined_from, lined_stay, trimmed, whole_lines}
use Rattle.rec_diff.specs.proving.Weaving.{patch_by}
use Rattle.rec_diff.proofs.lemmas.CutLemmas.{is_change}
use Rattle.rec_diff.proofs.lemmas.composing.LeadingLemmas.{composes_splices}
use Rattle.rec_diff.proofs.lemmas.reverting.ListLemmas.{all_from, any_at, at_any, is_at, kept_at, one_at, zip_from}
use Rattle.rec_diff.proofs.lemmas.reverting.PatchLemmas.{as_patch_leads}
use Rattle.rec_diff.proofs.lemmas.reverting.PlacedLemmas.{element_cut}
use Rattle.rec_diff.proofs.lemmas.reverting.RevertLemmas.{after_of-turned, back_leads, by_change, change_from, change_to}
use Rattle.rec_diff.proofs.lemmas.reverting.FieldLemmas.{element_of, element_some}

-- ---- what goes isn't the same

-- a hunk ends before these bytes, or begins after them
abbrev IsOutside : ℕ → ℕ → Hunk → Type 0
IsOutside low high h = (h.at + length h.old ≤ low) ⊎ (high ≤ h.at)

after_all : (low high at : ℕ) (parts : List Stretch) → high ≤ at → AllByRecursion (IsOutside low high) (hunks_at at parts)
after_all low high at [] fits = tt
after_all low high at (stays t ∷ parts) fits = after_all low high (at + length t) parts (omega (arith, fits))
after_all low high at (turns old new ∷ parts) fits = (inr fits, after_all low high (at + length old) parts (omega (arith, fits)))

outside : (first last : List Stretch) (bytes : List ℕ) (at low high : ℕ) → low ≡ at + length (before_of first) → high ≡ low + length bytes
    → AllByRecursion (IsOutside low high) (hunks_at at (first ++ stays bytes ∷ last))
outside [] last bytes at low high begins ends = after_all low high (at + length bytes) last (omega (arith, begins, ends))
outside (stays t ∷ first) last bytes at low high begins ends =
    outside first last bytes (at + length t) low high (omega (arith, begins, length-append t (before_of first))) ends
outside (turns old new ∷ first) last bytes at low high begins ends = (
  inl (omega (arith, begins, length-append old (before_of first))),
  outside first last bytes (at + length old) low high (omega (arith, begins, length-append old (before_of first))) ends,
)

hunk_there : (P : Hunk → Type 0) (first last : List Stretch) (old new : List ℕ) (at place : ℕ) → place ≡ at + length (before_of first)
    → AllByRecursion P (hunks_at at (first ++ turns old new ∷ last)) → P (record { at = place; old = old; new = new })
hunk_there P [] last old new at place is all = subst (λ (n : ℕ). P (record { at = n; old = old; new = new })) (let e : at ≡ place = omega (arith, is) in e) all.0
hunk_there P (stays t ∷ first) last old new at place is all = hunk_there P first last old new (at + length t) place (omega (arith, is, length-append t (before_of first))) all
hunk_there P (turns a b ∷ first) last old new at place is all = hunk_there P first last old new (at + length a) place (omega (arith, is, length-append a (before_of first))) all.1

pub goes_and_stays : (parts : List Stretch) (x y : Placed) → 0 < size x → IsTakenOut parts x → IsSame parts x y → ⊥
goes_and_stays parts x y some out is =
    let low = length (before_of out.first) in
    let old_at = is.old_at in
    let begins = out.begins in
    let ends = out.ends in
    let all : AllByRecursion (IsOutside x.at (x.at + size x)) (hunks_at 0 (out.first ++ turns out.old [] ∷ out.last)) =
    subst (AllByRecursion (IsOutside x.at (x.at + size x))) (is.cut.turns ∙ sym out.cut.turns)
    (outside is.first is.last x.piece.bytes 0 x.at (x.at + size x) (omega (arith, old_at)) (omega arith)) in
    elim (hunk_there (IsOutside x.at (x.at + size x)) out.first out.last out.old [] 0 low (omega arith) all) [
      | inl before ↦ omega (arith, some, before, begins, ends)
      | inr later ↦ omega (arith, some, later, begins, ends)
    ]

-- ---- where nothing turns, all is the same

module _ (text : List ℕ) (p : PlacedText) (is : IsPlaced text p) (parts : List Stretch) (nothing : hunks_at 0 parts ≡ []) (from : before_of parts ≡ text) where
  same_in : (i : ℕ) (x : Placed) → slice_get (placed_text is.pieces is.ranges).elements i ≡ Some x → IsSame parts x x
  same_in i x at =
      let (first, last, cut, place) = element_cut 0 is.pieces i x at in
      let count : length (first ++ []) ≡ x.at = omega (arith, place, ap length (append-nil first)) in
      record {
        piece = refl;
        first = stays first ∷ [];
        last = stays last ∷ [];
        cut = record { turns = sym nothing; text = ap (λ t. first ++ (x.piece.bytes ++ t)) (append-nil last) ∙ sym cut ∙ is.read.joined ∙ sym from };
        old_at = count;
        new_at = count;
      }

  same_as_it_is : (i : ℕ) (x : Placed) → slice_get p.elements i ≡ Some x → IsSame parts x x
  same_as_it_is = subst (λ (q : PlacedText). (i : ℕ) (x : Placed) → slice_get q.elements i ≡ Some x → IsSame parts x x) (sym is.is) same_in

  whole_as_it_is : (k : ℕ) (own : PlacedRecord) → slice_get p.records k ≡ Some own → IsWhole parts own own
  whole_as_it_is k own at = record {
    fields =
        zip_from (IsSame parts) own.fields own.fields refl (λ j x y x_at y_at.
        let (i, there) = element_of text p is k own x at (is_at own.fields j x x_at) in
        subst (IsSame parts x) (one_at own.fields j x y x_at y_at) (same_as_it_is i x there));
    types = refl;
  }

-- ---- a change in which nothing turns

abbrev DontTurn : List Stretch → Type 0
DontTurn [] = Unit {0}
DontTurn (stays t ∷ parts) = DontTurn parts
DontTurn (turns old new ∷ parts) = ⊥

no_hunks : (parts : List Stretch) (at : ℕ) → DontTurn parts → hunks_at at parts ≡ []
no_hunks [] at none = refl
no_hunks (stays t ∷ parts) at none = no_hunks parts (at + length t) none
no_hunks (turns old new ∷ parts) at none = absurd none

close_alike : (t : List ℕ) (parts : List Stretch) → DontTurn parts → DontTurn (closed t t parts)
close_alike t parts none = subst DontTurn (sym (cond-true (bytes_eq t t) (stays t ∷ parts) (turns t t ∷ parts) (bytes_eq-self t))) none

stay_alike : (t : List ℕ) (rest : List ℕ → List ℕ → List Stretch) → ((u : List ℕ) → DontTurn (rest u u)) → (u : List ℕ) → DontTurn (lined_stay t rest u u)
stay_alike [] rest none u = none u
stay_alike (b ∷ bs) rest none u = elim (cases_Bool (b == newline)) [
  | inl e ↦
      subst DontTurn (sym (cond-true (b == newline) (closed (u ++ b ∷ []) (u ++ b ∷ []) (lined_stay bs rest [] [])) (lined_stay bs rest (u ++ b ∷ []) (u ++ b ∷ [])) e))
      (close_alike (u ++ b ∷ []) (lined_stay bs rest [] []) (stay_alike bs rest none []))
  | inr e ↦
      subst DontTurn (sym (cond-false (b == newline) (closed (u ++ b ∷ []) (u ++ b ∷ []) (lined_stay bs rest [] [])) (lined_stay bs rest (u ++ b ∷ []) (u ++ b ∷ [])) e))
      (stay_alike bs rest none (u ++ b ∷ []))
]

put_alike : (t : List ℕ) (parts : List Stretch) → DontTurn parts → DontTurn (put_stays t parts)
put_alike [] parts none = none
put_alike (b ∷ bs) [] none = tt
put_alike (b ∷ bs) (stays u ∷ parts) none = none
put_alike (b ∷ bs) (turns old new ∷ parts) none = absurd none

joined_alike : (parts : List Stretch) → DontTurn parts → DontTurn (joined parts)
joined_alike [] none = tt
joined_alike (stays t ∷ parts) none = put_alike t (joined parts) (joined_alike parts none)
joined_alike (turns old new ∷ parts) none = absurd none

trimmed_alike : (parts : List Stretch) → DontTurn parts → DontTurn (flat_map trimmed parts)
trimmed_alike [] none = tt
trimmed_alike (stays t ∷ parts) none = trimmed_alike parts none
trimmed_alike (turns old new ∷ parts) none = absurd none

whole_alike : (text : List ℕ) → DontTurn (whole_lines (stays text ∷ []))
whole_alike text =
    let lined : DontTurn (lined_from (stays text ∷ []) [] []) = stay_alike text (lined_from []) (λ u. close_alike u [] tt) [] in
    joined_alike (flat_map trimmed (joined (lined_from (stays text ∷ []) [] [])))
    (trimmed_alike (joined (lined_from (stays text ∷ []) [] [])) (joined_alike (lined_from (stays text ∷ []) [] []) lined))

-- ---- the strands of an edit alone

abbrev strand_of : Stretch → Strand
strand_of (stays t) = same t
strand_of (turns old new) = mine old new

mine_are : (made : Bool) (parts : List Stretch) → map (mine_part made) (map strand_of parts) ≡ parts
mine_are made [] = refl
mine_are made (stays t ∷ parts) = ap (stays t ∷◌) (mine_are made parts)
mine_are made (turns old new ∷ parts) = ap (turns old new ∷◌) (mine_are made parts)

later_turn_not : (made : Bool) (parts : List Stretch) → DontTurn (map (later_part made) (map strand_of parts))
later_turn_not made [] = tt
later_turn_not made (stays t ∷ parts) = later_turn_not made parts
later_turn_not made (turns old new ∷ parts) = later_turn_not made parts

between_is : (parts : List Stretch) → woven true false (map strand_of parts) ≡ after_of parts
between_is [] = refl
between_is (stays t ∷ parts) = ap (t ++◌) (between_is parts)
between_is (turns old new ∷ parts) = ap (new ++◌) (between_is parts)

ahead_from : (parts : List Stretch) → before_of (ahead_in (map strand_of parts)) ≡ before_of parts
ahead_from [] = refl
ahead_from (stays t ∷ parts) = ap (t ++◌) (ahead_from parts)
ahead_from (turns old new ∷ parts) = ap (old ++◌) (ahead_from parts)

no_meeting : (backs others : List Hunk) → others ≡ [] → AreSettled backs others
no_meeting [] others none = tt
no_meeting (back ∷ backs) others none = (subst (AllByRecursion (DontMeet back)) (sym none) tt, no_meeting backs others none)

-- ---- the law

module _ (steps : List EditStep) (before after : List ℕ) (leads : LeadsBy steps before after) where
  abbrev parts : List Stretch
  parts = whole_lines (cut_from 0 (patch_by steps) before)

  abbrev others : List Stretch
  others = whole_lines (cut_from 0 [] after)

  abbrev strands : List Strand
  strands = map strand_of parts

  change_is : IsChange (patch_by steps) before after parts
  change_is = is_change (patch_by steps) before after (composes_splices steps (patch_by steps) before after leads refl)

  later_is : IsChange [] after after others
  later_is = is_change [] after after refl

  from : before_of parts ≡ before
  from = change_from (patch_by steps) before after parts change_is

  to : after_of parts ≡ after
  to = change_to (patch_by steps) before after parts change_is

  no_others : hunks_at 0 others ≡ []
  no_others = no_hunks others 0 (whole_alike after)

  backs : back_in strands ≡ map turned parts
  backs = ap (map turned) (mine_are true parts)

  are_woven : AreWoven (hunks_back parts) (hunks_at 0 others) after strands
  are_woven = record {
    mine_is = ap hunks_back (mine_are false parts);
    later_is = no_hunks (map (later_part true) strands) 0 (later_turn_not true parts) ∙ sym no_others;
    text = between_is parts ∙ to;
    settled = no_meeting (hunks_back parts) (hunks_at 0 others) no_others;
  }

  back_to : Splices (hunks_without strands) after before
  back_to =
      as_patch_leads (hunks_back (map (mine_part true) strands)) after before
      (subst (λ (ps : List Stretch). Splices (hunks_back ps) after before) (sym (mine_are true parts)) (back_leads (patch_by steps) before after parts change_is))

  module _ (old new : PlacedText) (is_old : IsPlaced before old) (is_new : IsPlaced after new) where
    as_before : (i : ℕ) (x : Placed) → slice_get old.elements i ≡ Some x → IsSame (ahead_in strands) x x
    as_before = same_as_it_is before old is_old (ahead_in strands) (no_hunks (ahead_in strands) 0 (later_turn_not false parts)) (ahead_from parts ∙ from)

    as_after : (i : ℕ) (x : Placed) → slice_get new.elements i ≡ Some x → IsSame others x x
    as_after = same_as_it_is after new is_new others no_others (change_from [] after after others later_is)

    stay_out : AllByRecursion (λ x. IsTakenOut parts x → StaysAmong parts new.elements x → ⊥) (filter is_field old.elements)
    stay_out =
        all_from (λ x. IsTakenOut parts x → StaysAmong parts new.elements x → ⊥) (filter is_field old.elements) (λ k x at out again.
        let (i, there, passes) = kept_at is_field old.elements k x at in
        let (j, y, y_at, is_same) = any_at (IsSame parts x) new.elements again in
        goes_and_stays parts x y (element_some before old is_old i x there) out is_same)

    known : AllByRecursion (IsKnown steps [] parts others (ahead_in strands) (back_in strands) old new new old) old.records
    known =
        all_from (IsKnown steps [] parts others (ahead_in strands) (back_in strands) old new new old) old.records (λ k own at.
        inr (inl (at_any (λ one. IsWhole (ahead_in strands) one own) old.records k own at
        (whole_as_it_is before old is_old (ahead_in strands) (no_hunks (ahead_in strands) 0 (later_turn_not false parts)) (ahead_from parts ∙ from) k own at))))

    all_is : IsChangeBy (steps ++ []) (before_of parts) (after_of others) parts
    all_is =
        subst (λ (all : List EditStep). IsChangeBy all (before_of parts) (after_of others) parts) (sym (append-nil steps))
        (subst (λ (t : List ℕ). IsChangeBy steps t (after_of others) parts) (sym from)
        (subst (λ (t : List ℕ). IsChangeBy steps before t parts) (sym (change_to [] after after others later_is)) (by_change steps before after parts change_is)))

    kept : ArePlacesKept steps [] parts others (ahead_in strands) (back_in strands) old new new old
    kept = record {
      back_again =
          all_from (λ x. StaysAmong parts new.elements x ⊎ StaysAmong (ahead_in strands) old.elements x) old.elements
          (λ i x at. inr (at_any (IsSame (ahead_in strands) x) old.elements i x at (as_before i x at)));
      still_there =
          all_from (λ x. WasAmong others new.elements x ⊎ StaysAmong (back_in strands) old.elements x) new.elements
          (λ i x at. inl (at_any (λ w. IsSame others w x) new.elements i x at (as_after i x at)));
      no_other =
          all_from (λ y. WasAmong (back_in strands) new.elements y ⊎ WasAmong (ahead_in strands) old.elements y) old.elements
          (λ i x at. inr (at_any (λ w. IsSame (ahead_in strands) w x) old.elements i x at (as_before i x at)));
      records = known;
      all = parts;
      all_is = all_is;
      still_out = stay_out;
    }

    keeps : KeepsPlaces steps [] parts others (ahead_in strands) (back_in strands)
    keeps = record {
      before = old;
      is_before = subst (λ (t : List ℕ). IsPlaced t old) (sym from) is_old;
      after = new;
      is_after = subst (λ (t : List ℕ). IsPlaced t new) (sym to) is_new;
      here = new;
      is_here = subst (λ (t : List ℕ). IsPlaced t new) (sym (change_to [] after after others later_is)) is_new;
      left = old;
      is_left = subst (λ (t : List ℕ). IsPlaced t old) (sym (ap after_of backs ∙ after_of-turned parts ∙ from)) is_old;
      keeps = kept;
    }

    reverts : Reverts steps before after [] after (hunks_without strands)
    reverts = record {
      parts = parts;
      change_is = by_change steps before after parts change_is;
      others = others;
      later_is = by_change [] after after others later_is;
      strands = strands;
      woven = are_woven;
      is = refl;
      places = λ some. keeps;
    }

pub newest_reverts : NewestReverts
newest_reverts steps before after leads old new is_old is_new =
    (hunks_without (strands steps before after leads), reverts steps before after leads old new is_old is_new, back_to steps before after leads)
