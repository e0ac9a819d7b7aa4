-- What of the records a walk has before it.
use Rattle.std.proofs.Common.{◌≡◌, ◌∙◌, ℕ, zero, suc, ◌+◌, ◌-◌, ◌<◌, ◌≤◌, List, [], ◌∷◌, ◌++◌, Option, Some, None, length, drop, take, get_or, ap, sym, subst, arith}
use Rattle.std.proofs.lemmas.List.{drop-drop, drop_more, get_or_default, take-append-drop}
use Rattle.std.proofs.lemmas.List.Elements.{All-drop, All-from_recursion, All-get_or, All-take, recursion_from_All}
use Rattle.std.specs.declared.ops.Range.{Range}
use Rattle.rec_text.specs.Records.{AreAscending}
use Rattle.rec_text.proofs.lemmas.records.RangeLemmas.{AreAscending-from}
use Rattle.std.proofs.lemmas.Option.{none-some, same_Some}
use Rattle.rec_check.specs.declared.set.Set_.{Set_}
use Rattle.rec_check.specs.Sets.{BeginsAt}
use Rattle.rec_check.specs.Violations.{members}
use Rattle.rec_check.specs.Walking.{AreWithin, IsNextSet}

-- a record that stands there
abbrev IsInside : ℕ → Range ℕ → Type 0
IsInside size own_range = (own_range.start < own_range.end) × (own_range.end ≤ size)

pub inside_at : (size : ℕ) (records : List (Range ℕ)) (i : ℕ) (own_range : Range ℕ) → AreWithin size records → i < length records → own_range ≡ get_or records i own_range → IsInside size own_range
inside_at size records i own_range within here at = subst (IsInside size) (sym at) (All-get_or (IsInside size) records i own_range here (All-from_recursion (IsInside size) records within))

-- one record after another, and what follows them
module _ (records : List (Range ℕ)) (i : ℕ) (own_range : Range ℕ) (here : i < length records) (at : own_range ≡ get_or records i own_range) where
  rest_is : drop i records ≡ own_range ∷ drop (i + 1) records
  rest_is = drop_more records i own_range here ∙ ap (λ r. r ∷ drop (i + 1) records) (sym at)

  pub next_starts : (passed : ℕ) → AreAscending passed (drop i records) → passed ≤ own_range.start
  next_starts passed ahead = let whole : AreAscending passed (own_range ∷ drop (i + 1) records) = subst (AreAscending passed) rest_is ahead in whole.0

  pub ahead_more : (passed reached : ℕ) (rest : List (Range ℕ)) → reached ≤ own_range.end → AreAscending passed (drop i records ++ rest) → AreAscending reached (drop (i + 1) records ++ rest)
  ahead_more passed reached rest low ahead =
      let whole : AreAscending passed (own_range ∷ (drop (i + 1) records ++ rest)) = subst (λ l. AreAscending passed (l ++ rest)) rest_is ahead in
      AreAscending-from reached own_range.end (drop (i + 1) records ++ rest) low whole.1

  pub here_more : (passed reached : ℕ) → reached ≤ own_range.end → AreAscending passed (drop i records) → AreAscending reached (drop (i + 1) records)
  here_more passed reached low ahead =
      let whole : AreAscending passed (own_range ∷ drop (i + 1) records) = subst (AreAscending passed) rest_is ahead in
      AreAscending-from reached own_range.end (drop (i + 1) records) low whole.1

-- ---- one set after another

-- a walk that has reached no farther than a record has what follows before it
ahead_past : (records : List (Range ℕ)) (size i passed reached : ℕ) → AreWithin size records → i < length records → AreAscending passed (drop i records)
    → ((own_range : Range ℕ) → own_range ≡ get_or records i own_range → passed ≤ own_range.start → reached ≤ own_range.start) → AreAscending reached (drop (i + 1) records)
ahead_past records size i passed reached within here ahead low =
    let d : Range ℕ = record { start = 0; end = 0 } in
    let own_range : Range ℕ = get_or records i d in
    let at : own_range ≡ get_or records i own_range = get_or_default records i d own_range here in
    let inside = inside_at size records i own_range within here at in
    let starts = low own_range at (next_starts records i own_range here at passed ahead) in
    here_more records i own_range here at passed reached (omega (arith, starts, inside.0)) ahead

ahead_of_parts : (records : List (Range ℕ)) (size at passed : ℕ) (record_type : Option (List ℕ)) (head : Option ℕ) (members : Range ℕ) → AreWithin size records → members.end ≤ length records
    → BeginsAt at (record { kind = record_type; head = head; members = members }) → AreAscending passed (drop at records) → AreAscending passed (drop members.start records)
ahead_of_parts records size at passed None head members within ends begins ahead = subst (λ n. AreAscending passed (drop n records)) (sym begins.1.1) ahead
ahead_of_parts records size at passed (Some record_type) head members within ends begins ahead =
    subst (λ n. AreAscending passed (drop n records)) (sym begins.1.1) (ahead_past records size at passed passed within (omega (arith, begins.0, begins.1.1)) ahead (λ own_range is low. low))

pub ahead_of_members : (records : List (Range ℕ)) (size passed : ℕ) (s : Set_) → AreWithin size records → IsNextSet passed records s → AreAscending passed (drop s.members.start records)
ahead_of_members records size passed s within next = ahead_of_parts records size next.at passed s.kind s.head s.members within next.within next.begins next.ahead

-- the descriptor, where there is one
head_of_parts : (at : ℕ) (record_type : Option (List ℕ)) (head : ℕ) (members : Range ℕ) → BeginsAt at (record { kind = record_type; head = Some head; members = members })
    → (head ≡ at) × (members.start ≡ at + 1)
head_of_parts at None head members begins = absurd (none-some head (sym begins.1.0))
head_of_parts at (Some record_type) head members begins = (same_Some head at begins.1.0, begins.1.1)

module _ (records : List (Range ℕ)) (size passed head : ℕ) (s : Set_) (next : IsNextSet passed records s) (is_head : s.head ≡ Some head) where
  pub head_is : (head ≡ next.at) × (s.members.start ≡ next.at + 1)
  head_is = head_of_parts next.at s.kind head s.members (subst (λ h. BeginsAt next.at (record s { head = h })) is_head next.begins)

  pub head_inside : head < length records
  head_inside = omega (arith, head_is.0, head_is.1, next.begins.0, next.within)

  pub ahead_of_head : AreAscending passed (drop head records)
  ahead_of_head = subst (λ n. AreAscending passed (drop n records)) (sym head_is.0) next.ahead

  pub ahead_after_head : (reached : ℕ) (d : Range ℕ) → AreWithin size records → reached ≡ (get_or records head d).start → AreAscending reached (drop s.members.start records)
  ahead_after_head reached d within is =
      let then_is : head + 1 ≡ s.members.start = omega (arith, head_is.0, head_is.1) in
      subst (λ n. AreAscending reached (drop n records)) then_is
      (ahead_past records size head passed reached within head_inside ahead_of_head
      (λ own_range at low. omega (arith, is, ap (λ (r : Range ℕ). r.start) (at ∙ get_or_default records head own_range d head_inside))))

-- ---- the members of a set

ahead_prefix : (passed n : ℕ) (records : List (Range ℕ)) → AreAscending passed records → AreAscending passed (take n records)
ahead_prefix passed zero records ahead = tt
ahead_prefix passed (suc n) [] ahead = tt
ahead_prefix passed (suc n) (own_range ∷ records) ahead = (ahead.0, ahead_prefix own_range.end n records ahead.1)

module _ (records : List (Range ℕ)) (s : Set_) where
  pub ahead_of_part : (passed : ℕ) → AreAscending passed (drop s.members.start records) → AreAscending passed (members records s)
  ahead_of_part passed ahead = ahead_prefix passed (s.members.end - s.members.start) (drop s.members.start records) ahead

  pub part_within : (size same : ℕ) → AreWithin size records → same ≡ size → AreWithin same (members records s)
  part_within size same within is =
      subst (λ n. AreWithin n (members records s)) (sym is)
      (recursion_from_All (IsInside size) (members records s)
      (All-take (IsInside size) (s.members.end - s.members.start) (drop s.members.start records)
      (All-drop (IsInside size) s.members.start records (All-from_recursion (IsInside size) records within))))

  pub part_and_rest : (passed : ℕ) → s.members.start ≤ s.members.end → AreAscending passed (drop s.members.start records) → AreAscending passed (members records s ++ drop s.members.end records)
  part_and_rest passed ordered ahead =
      let size : ℕ = s.members.end - s.members.start in
      let end : s.members.start + size ≡ s.members.end = omega arith in
      let whole : drop s.members.start records ≡ members records s ++ drop s.members.end records =
      sym (take-append-drop size (drop s.members.start records)) ∙ ap (λ l. members records s ++ l) (drop-drop size s.members.start records ∙ ap (λ n. drop n records) end) in
      subst (AreAscending passed) whole ahead
