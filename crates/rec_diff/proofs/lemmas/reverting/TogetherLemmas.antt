-- What goes with a turn, what is there again, and what is put together, as the definitions say it.
use Rattle.std.proofs.Common.{◌≡◌, ◌∙◌, ◌⊎◌, ◌↔◌, ℕ, zero, suc, ◌+◌, ◌≤◌, ◌<◌, Bool, true, false, not, leb, eqb, ◌&&◌, ◌||◌, List, [], ◌∷◌, ◌++◌, length, map, filter, Option, Some}
use Rattle.std.proofs.Common.{None, is_some, slice_get, inl, inr, refl, sym, ap, ap₂, subst, arith}
use Rattle.std.specs.List.{AllByRecursion, AllZip}
use Rattle.std.specs.Option.{option_map_or}
use Rattle.std.proofs.lemmas.Bool.{and_from, and_parts, cases_Bool, eqb-true, false≢true, le-leb, leb-false, leb-true, or_cases}
use Rattle.std.proofs.lemmas.Option.{none-some, same_Some}
use Rattle.rec_text.specs.declared.element.Element.{Element}
use Rattle.rec_diff.specs.declared.reverting.reading.Reading.{Reading}
use Rattle.rec_diff.specs.declared.reverting.spread.Spread.{Spread}
use Rattle.rec_diff.specs.declared.reverting.spread.Spread.TheVariants.{Nowhere, In, Several}
use Rattle.rec_diff.specs.declared.turn.Turn.{Turn}
use Rattle.rec_diff.specs.Changes.{Stretch, turns, before_of, after_of}
use Rattle.rec_diff.specs.Making.{AreAlike, IsSame, IsTakenOut, StaysAmong}
use Rattle.rec_diff.specs.Placed.{Placed, PlacedRecord, PlacedText, is_field, size}
use Rattle.rec_diff.specs.proving.Keeping.{AreAfter, GoesBy, all_out, all_there, goes_with, is_out_by, record_again, some_take_out}
use Rattle.rec_diff.specs.proving.Making.{made_at}
use Rattle.rec_diff.specs.proving.Moving.{turn_at}
use Rattle.rec_diff.specs.proving.Numbering.{IsReached}
use Rattle.rec_diff.specs.proving.Reading.{AreNumbers, ArePicked, AreTurnsOf, IsMadeOf, IsNumber, IsReading, IsSpread, StaysIn, fields_at, placed, placed_of, text_of_reading}
use Rattle.rec_diff.specs.proving.Turns.{AreIn}
use Rattle.rec_diff.proofs.lemmas.reverting.KeepingLemmas.{eqb_same, made_some}
use Rattle.rec_diff.proofs.lemmas.reverting.ListLemmas.{all_at, all_from, any_at, at_any, at_kept_too, is_at, kept_at, one_at, zip_at, zip_back}
use Rattle.rec_diff.proofs.lemmas.reverting.MovingLemmas.{turns_are}
use Rattle.rec_diff.proofs.lemmas.reverting.SharingLemmas.{at_cut, cut_at, fields_are, record_there}
use Rattle.rec_diff.proofs.lemmas.reverting.TurnedLemmas.{alike_after}
use Rattle.rec_diff.proofs.lemmas.reverting.WithinLemmas.{all_in, among_all, in_all, kind_same, stays_one}

-- ---- turns in order

pub turns_in_order : (f g : List ℕ) (old new : ℕ) (ts : List Turn) → AreIn f g old new ts → AreAfter old ts
turns_in_order f g old new [] are = tt
turns_in_order f g old new (t ∷ ts) are = (are.0.start_old, are.0.order_old, turns_in_order f g t.end.old t.end.new ts are.1)

-- ---- what goes with a turn

module _ (t : Turn) (x : Placed) where
  pub goes_parts : goes_with t x ≡ true → (t.start.new ≡ t.end.new) × (is_field x ≡ true) × (t.start.old ≤ x.at) × (x.at + size x ≤ t.end.old)
  goes_parts e =
      let (a, rest) = and_parts (eqb t.start.new t.end.new) (is_field x && (leb t.start.old x.at && leb (x.at + size x) t.end.old)) e in
      let (b, more) = and_parts (is_field x) (leb t.start.old x.at && leb (x.at + size x) t.end.old) rest in
      let (c, d) = and_parts (leb t.start.old x.at) (leb (x.at + size x) t.end.old) more in
      (eqb-true t.start.new t.end.new a, b, leb-true t.start.old x.at c, leb-true (x.at + size x) t.end.old d)

  pub goes_from : t.start.new ≡ t.end.new → is_field x ≡ true → t.start.old ≤ x.at → x.at + size x ≤ t.end.old → goes_with t x ≡ true
  goes_from a b c d =
      and_from (eqb t.start.new t.end.new) (is_field x && (leb t.start.old x.at && leb (x.at + size x) t.end.old)) (eqb_same t.start.new t.end.new a)
      (and_from (is_field x) (leb t.start.old x.at && leb (x.at + size x) t.end.old) b
      (and_from (leb t.start.old x.at) (leb (x.at + size x) t.end.old) (le-leb t.start.old x.at c) (le-leb (x.at + size x) t.end.old d)))

  -- not with one that ends before it
  pub goes_before : (at : ℕ) → t.end.old ≤ at → at ≤ x.at → 0 < size x → goes_with t x ≡ false
  goes_before at ends low some = elim (cases_Bool (goes_with t x)) [ inl e ↦ absurd (let (a, b, c, d) = goes_parts e in omega (arith, d, ends, low, some)) | inr e ↦ e ]

-- with none of turns that begin after it
none_after : (least : ℕ) (ts : List Turn) (x : Placed) → AreAfter least ts → x.at < least → is_out_by ts x ≡ false
none_after least [] x are low = refl
none_after least (t ∷ ts) x are low =
    let begins = are.0 in
    let order = are.1 in
    let first : goes_with t x ≡ false = elim (cases_Bool (goes_with t x)) [ inl e ↦ absurd (let (a, b, c, d) = goes_parts t x e in omega (arith, c, begins, low)) | inr e ↦ e ] in
    ap₂ (λ a b. a || b) first (none_after t.end.old ts x are.2 (omega (arith, order, begins, low)))

-- the first turn that doesn't end before it tells
pub first_tells : (least : ℕ) (t : Turn) (ts : List Turn) (x : Placed) → AreAfter least (t ∷ ts) → x.at < t.end.old → is_out_by (t ∷ ts) x ≡ goes_with t x
first_tells least t ts x are reached = ap (λ b. goes_with t x || b) (none_after t.end.old ts x are.2 reached) ∙ or_false (goes_with t x)
  where
    or_false : (b : Bool) → (b || false) ≡ b
    or_false true = refl
    or_false false = refl

pub passed_tells : (t : Turn) (ts : List Turn) (x : Placed) (at : ℕ) → t.end.old ≤ at → at ≤ x.at → 0 < size x → is_out_by (t ∷ ts) x ≡ is_out_by ts x
passed_tells t ts x at ends low some = ap (λ b. b || is_out_by ts x) (goes_before t x at ends low some)

pub taken_first : (least : ℕ) (all ts : List Turn) (t : Turn) (x : Placed) (b : Bool) → all ≡ t ∷ ts → AreAfter least all → IsReached all x.at → (b ≡ true) ↔ GoesBy t x → b ≡ is_out_by all x
taken_first least all ts t x b is are reached told =
    let order = subst (AreAfter least) is are in
    let more : x.at < t.end.old = not_reached t.end.old x.at (subst (λ l. IsReached l x.at) is reached) in
    same_tests b (goes_with t x) (λ e. let (a, f, c, d) = told.0 e in goes_from t x a f c d) (λ e. told.1 (goes_parts t x e))
    ∙ (sym (first_tells least t ts x order more) ∙ ap (λ l. is_out_by l x) (sym is))
  where
    not_reached : (a b : ℕ) → leb a b ≡ false → b < a
    not_reached a b e = leb-false a b e

    same_tests : (a b : Bool) → (a ≡ true → b ≡ true) → (b ≡ true → a ≡ true) → a ≡ b
    same_tests true b on back = sym (on refl)
    same_tests false true on back = back refl
    same_tests false false on back = refl

pub none_taken : (all : List Turn) (x : Placed) → all ≡ [] → false ≡ is_out_by all x
none_taken all x is = ap (λ l. is_out_by l x) (sym is)

pub out_at_end : (ts : List Turn) (es : List Element) (ns : List (Option ℕ)) → (es ≡ []) ⊎ (ns ≡ []) → all_out ts es ns ≡ true
out_at_end ts [] ns ends = refl
out_at_end ts (e ∷ es) [] ends = refl
out_at_end ts (e ∷ es) (n ∷ ns) ends = absurd (elim ends [ inl is ↦ cc | inr is ↦ cc ])

-- some turn does
out_at : (ts : List Turn) (x : Placed) → is_out_by ts x ≡ true → (i : ℕ) × (t : Turn) × (slice_get ts i ≡ Some t) × (goes_with t x ≡ true)
out_at [] x e = absurd (false≢true e)
out_at (t ∷ ts) x e = elim (or_cases (goes_with t x) (is_out_by ts x) e) [
  | inl a ↦ (zero, t, refl, a)
  | inr b ↦ let (i, u, at, goes) = out_at ts x b in (suc i, u, at, goes)
]

at_out : (ts : List Turn) (i : ℕ) (t : Turn) (x : Placed) → slice_get ts i ≡ Some t → goes_with t x ≡ true → is_out_by ts x ≡ true
at_out [] i t x at goes = absurd (none-some t at)
at_out (u ∷ ts) zero t x at goes = ap (λ b. b || is_out_by ts x) (subst (λ w. goes_with w x ≡ true) (sym (same_Some u t at)) goes)
at_out (u ∷ ts) (suc i) t x at goes = ap (λ b. goes_with u x || b) (at_out ts i t x at goes) ∙ or_true (goes_with u x)
  where
    or_true : (b : Bool) → (b || true) ≡ true
    or_true true = refl
    or_true false = refl

none_of_length : (xs : List ℕ) → length xs ≡ 0 → xs ≡ []
none_of_length [] is = refl
none_of_length (x ∷ xs) is = absurd (omega (arith, is))

pub no_turns : (ts : List Turn) → length ts ≡ 0 → ts ≡ []
no_turns [] is = refl
no_turns (t ∷ ts) is = absurd (omega (arith, is))

pub none_out : (ts : List Turn) (x : Placed) → some_take_out ts ≡ false → is_out_by ts x ≡ false
none_out [] x none = refl
none_out (t ∷ ts) x none =
    let (first, rest) = or_none (eqb t.start.new t.end.new) (some_take_out ts) none in
    ap₂ (λ a b. (a && (is_field x && (leb t.start.old x.at && leb (x.at + size x) t.end.old))) || b) first (none_out ts x rest)
  where
    or_none : (a b : Bool) → (a || b) ≡ false → (a ≡ false) × (b ≡ false)
    or_none false b e = (refl, e)
    or_none true b e = absurd (false≢true (sym e))

-- parts that are alike have the same turns
pub alike_turns : (p q : List Stretch) (f g : List ℕ) (ts : List Turn) → AreAlike p q → AreTurnsOf q f g ts → AreTurnsOf p f g ts
alike_turns p q f g ts alike are = record {
  from = alike.text ∙ are.from;
  to = alike_after p q alike ∙ are.to;
  hunks = alike.turns ∙ are.hunks;
  order = are.order;
  in_step = are.in_step;
}

module _ (parts : List Stretch) (f g : List ℕ) (ts : List Turn) (are : AreTurnsOf parts f g ts) (x : Placed) where
  pub taken_by : is_out_by ts x ≡ true → IsTakenOut parts x
  taken_by e =
      let (i, t, at, goes) = out_at ts x e in
      let (gone, field, low, high) = goes_parts t x goes in
      let c = cut_at parts 0 0 i t (ap (λ l. slice_get l i) (sym (turns_are parts f g ts are)) ∙ at) in
      let old_at : t.start.old ≡ 0 + length (before_of c.first) = ap (λ (t : Turn). t.start.old) c.is in
      let old_end : t.end.old ≡ 0 + length (before_of c.first) + length c.old = ap (λ (t : Turn). t.end.old) c.is in
      let new_at : t.start.new ≡ 0 + length (after_of c.first) = ap (λ (t : Turn). t.start.new) c.is in
      let new_end : t.end.new ≡ 0 + length (after_of c.first) + length c.new = ap (λ (t : Turn). t.end.new) c.is in
      let none : c.new ≡ [] = none_of_length c.new (omega (arith, gone, new_at, new_end)) in
      let cut : parts ≡ c.first ++ turns c.old [] ∷ c.last = c.cut ∙ ap (λ n. c.first ++ turns c.old n ∷ c.last) none in
      record {
        first = c.first;
        old = c.old;
        last = c.last;
        cut = subst (λ p. AreAlike p parts) cut (record { turns = refl; text = refl });
        begins = omega (arith, low, old_at);
        ends = omega (arith, high, old_end);
      }

  pub by_taken : is_field x ≡ true → IsTakenOut parts x → is_out_by ts x ≡ true
  by_taken field is =
      let others = is.first ++ turns is.old [] ∷ is.last in
      let are_too : AreTurnsOf others f g ts = record {
        from = is.cut.text ∙ are.from;
        to = alike_after others parts is.cut ∙ are.to;
        hunks = is.cut.turns ∙ are.hunks;
        order = are.order;
        in_step = are.in_step;
      } in
      let (i, at) = at_cut is.first is.last is.old [] 0 0 in
      let begins = is.begins in
      let ends = is.ends in
      at_out ts i (turn_at (0 + length (before_of is.first)) (0 + length (after_of is.first)) (length is.old) 0) x (ap (λ l. slice_get l i) (turns_are others f g ts are_too) ∙ at)
      (goes_from (turn_at (0 + length (before_of is.first)) (0 + length (after_of is.first)) (length is.old) 0) x (omega arith) field (omega (arith, begins)) (omega (arith, ends)))

pub out_field : (ts : List Turn) (x : Placed) → is_out_by ts x ≡ true → is_field x ≡ true
out_field ts x e = let (i, t, at, goes) = out_at ts x e in let (gone, field, low, high) = goes_parts t x goes in field

-- no field that goes is there again
module _ (change all : List Stretch) (f g : List ℕ) (ts : List Turn) (are : AreTurnsOf change f g ts) (elements others : List Placed) where
  pub stay_from : AllByRecursion (λ x. is_out_by ts x ≡ true → StaysAmong all others x → ⊥) elements
      → AllByRecursion (λ x. IsTakenOut change x → StaysAmong all others x → ⊥) (filter is_field elements)
  stay_from each =
      all_from (λ x. IsTakenOut change x → StaysAmong all others x → ⊥) (filter is_field elements)
      (λ k x at taken there.
      let (i, its, field) = kept_at is_field elements k x at in
      all_at (λ x. is_out_by ts x ≡ true → StaysAmong all others x → ⊥) elements i x each its (by_taken change f g ts are x field taken) there)

  pub stay_to : AllByRecursion (λ x. IsTakenOut change x → StaysAmong all others x → ⊥) (filter is_field elements) → AllByRecursion (λ x. is_out_by ts x ≡ true → StaysAmong all others x → ⊥) elements
  stay_to each =
      all_from (λ x. is_out_by ts x ≡ true → StaysAmong all others x → ⊥) elements
      (λ i x at out there.
      let (k, its) = at_kept_too is_field elements i x at (out_field ts x out) in
      all_at (λ x. IsTakenOut change x → StaysAmong all others x → ⊥) (filter is_field elements) k x each its (taken_by change f g ts are x out) there)

-- ---- none of those that go has a number

module _ (parts : List Stretch) (others : List Placed) (ts : List Turn) where
  pub out_all : (es : List Element) (numbers : List (Option ℕ)) → AllZip (IsNumber parts others) (map placed es) numbers → all_out ts es numbers ≡ true
      → AllByRecursion (λ x. is_out_by ts x ≡ true → StaysAmong parts others x → ⊥) (map placed es)
  out_all [] numbers are all = tt
  out_all (e ∷ es) [] are all = absurd are
  out_all (e ∷ es) (m ∷ numbers) are all =
      let (first, rest) = and_parts (not (is_some m && is_out_by ts (placed e))) (all_out ts es numbers) all in (by m are.0 first, out_all es numbers are.1 rest)
    where
      by : (m : Option ℕ) → IsNumber parts others (placed e) m → not (is_some m && is_out_by ts (placed e)) ≡ true → is_out_by ts (placed e) ≡ true → StaysAmong parts others (placed e) → ⊥
      by None is none out there = is there
      by (Some j) is none out there = false≢true (sym (ap not out) ∙ none)

  pub all_are_out : (es : List Element) (numbers : List (Option ℕ)) → AllZip (IsNumber parts others) (map placed es) numbers
      → AllByRecursion (λ x. is_out_by ts x ≡ true → StaysAmong parts others x → ⊥) (map placed es) → all_out ts es numbers ≡ true
  all_are_out [] numbers are each = refl
  all_are_out (e ∷ es) [] are each = absurd are
  all_are_out (e ∷ es) (m ∷ numbers) are each =
      and_from (not (is_some m && is_out_by ts (placed e))) (all_out ts es numbers) (by m are.0 each.0 (is_out_by ts (placed e)) refl) (all_are_out es numbers are.1 each.1)
    where
      by : (m : Option ℕ) → IsNumber parts others (placed e) m → (is_out_by ts (placed e) ≡ true → StaysAmong parts others (placed e) → ⊥) → (b : Bool) → is_out_by ts (placed e) ≡ b
          → not (is_some m && is_out_by ts (placed e)) ≡ true
      by None is none b told = refl
      by (Some j) (y, at, same) none true told = absurd (none told (at_any (IsSame parts (placed e)) others j y at same))
      by (Some j) is none false told = ap not told

-- ---- what is there again

module _ (numbers : List (Option ℕ)) (parts : List Stretch) (text other : PlacedText) (numbered : AreNumbers parts text other numbers) where
  there_all : (fields : List ℕ) (xs : List Placed) → ArePicked text.elements fields xs → all_there numbers fields ≡ true → AllByRecursion (StaysAmong parts other.elements) xs
  there_all [] [] picked all = tt
  there_all [] (x ∷ xs) picked all = absurd picked
  there_all (i ∷ fields) [] picked all = absurd picked
  there_all (i ∷ fields) (x ∷ xs) picked all =
      let (first, rest) = and_parts (is_some (made_at numbers (Some i))) (all_there numbers fields) all in (by (made_at numbers (Some i)) refl first, there_all fields xs picked.1 rest)
    where
      by : (m : Option ℕ) → made_at numbers (Some i) ≡ m → is_some (made_at numbers (Some i)) ≡ true → StaysAmong parts other.elements x
      by None none some = absurd (false≢true (sym (ap is_some none) ∙ some))
      by (Some j) is some =
          let (y, y_at, is_number) = zip_back (IsNumber parts other.elements) text.elements numbers i (Some j) numbered (made_some numbers i j is) in
          let (z, z_at, same) = is_number in
          at_any (IsSame parts x) other.elements j z z_at (subst (λ w. IsSame parts w z) (one_at text.elements i y x y_at picked.0) same)

  all_are_there : (fields : List ℕ) (xs : List Placed) → ArePicked text.elements fields xs → AllByRecursion (StaysAmong parts other.elements) xs → all_there numbers fields ≡ true
  all_are_there [] [] picked all = refl
  all_are_there [] (x ∷ xs) picked all = absurd picked
  all_are_there (i ∷ fields) [] picked all = absurd picked
  all_are_there (i ∷ fields) (x ∷ xs) picked all =
      let (m, there, is_number) = zip_at (IsNumber parts other.elements) text.elements numbers i x numbered picked.0 in
      and_from (is_some (made_at numbers (Some i))) (all_there numbers fields)
      (ap (λ o. is_some (option_map_or (λ (n : Option ℕ). n) o None)) there ∙ by m is_number) (all_are_there fields xs picked.1 all.1)
    where
      by : (m : Option ℕ) → IsNumber parts other.elements x m → is_some m ≡ true
      by None none = absurd (none all.0)
      by (Some j) is = refl

module _ (one other : Reading) (is : IsReading one) (is_too : IsReading other) (parts : List Stretch) (ts : List Turn) (are : AreTurnsOf parts (text_of_reading one) (text_of_reading other) ts)
    (numbers : List (Option ℕ)) (numbered : AreNumbers parts (placed_of one) (placed_of other) numbers) where
  abbrev Again : PlacedRecord → PlacedRecord → Type 0
  Again own its = AllByRecursion (StaysAmong parts its.fields) own.fields

  pub is_again : (r : ℕ) (own : PlacedRecord) (fields : List ℕ) (s : Spread) → slice_get (placed_of one).records r ≡ Some own → ArePicked (placed_of one).elements fields (fields_at (placed_of one) r)
      → IsSpread (StaysIn parts (placed_of other)) own.fields s → IsMadeOf Again (placed_of other).records own (record_again s (all_there numbers fields))
  is_again r own fields s at picked spread = by s spread (all_there numbers fields) refl
    where
      own_picked : ArePicked (placed_of one).elements fields own.fields
      own_picked = subst (ArePicked (placed_of one).elements fields) (fields_are (placed_of one) r own at) picked

      all_of : (k : ℕ) (its : PlacedRecord) → slice_get (placed_of other).records k ≡ Some its → (s : Spread) → IsSpread (StaysIn parts (placed_of other)) own.fields s → Again own its → s ≡ In k
      all_of k its its_at s spread all = all_in one other is is_too (IsSame parts) (stays_one one other is is_too parts ts are) (kind_same parts) r own at k its its_at s spread all

      by : (s : Spread) → IsSpread (StaysIn parts (placed_of other)) own.fields s → (b : Bool) → all_there numbers fields ≡ b → IsMadeOf Again (placed_of other).records own (record_again s b)
      by Nowhere spread b e = all_from (λ its. Again own its → ⊥) (placed_of other).records (λ k its its_at all. let none : Nowhere ≡ In k = all_of k its its_at Nowhere spread all in cc)
      by Several spread b e = all_from (λ its. Again own its → ⊥) (placed_of other).records (λ k its its_at all. let none : Several ≡ In k = all_of k its its_at Several spread all in cc)
      by (In k) spread true e =
          let (a, x, x_at, stays) = any_at (λ x. StaysIn parts (placed_of other) x k) own.fields spread.0 in
          let (b, y, y_at, same) = any_at (IsSame parts x) (fields_at (placed_of other) k) stays in
          let (its, its_at) = record_there (placed_of other) k y (is_at (fields_at (placed_of other) k) b y y_at) in (
            its,
            its_at,
            in_all one other is is_too (IsSame parts) (stays_one one other is is_too parts ts are) (kind_same parts) r own at k its its_at spread
                (there_all numbers parts (placed_of one) (placed_of other) numbered fields own.fields own_picked e),
          )
      by (In k) spread false e =
          all_from (λ its. Again own its → ⊥) (placed_of other).records
          (λ j its its_at all.
          false≢true (sym e
          ∙ all_are_there numbers parts (placed_of one) (placed_of other) numbered fields own.fields own_picked
          (all_from (StaysAmong parts (placed_of other).elements) own.fields
          (λ a x x_at. among_all one other is is_too (IsSame parts) (stays_one one other is is_too parts ts are) (kind_same parts) x j
          (subst (λ l. StaysAmong parts l x) (sym (fields_are (placed_of other) j its its_at)) (all_at (StaysAmong parts its.fields) own.fields a x all x_at))))))
