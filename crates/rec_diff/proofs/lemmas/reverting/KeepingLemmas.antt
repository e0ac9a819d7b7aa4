-- What the code asks of four texts, and what it comes to.
use Rattle.std.proofs.Common.{◌≡◌, ◌≢◌, ◌∙◌, ◌⊎◌, ◌↔◌, ℕ, suc, ◌+◌, ◌<◌, Bool, true, false, not, ◌&&◌, eqb, List, [], ◌∷◌, ◌++◌, length, set, Option, Some, None, slice_get}
use Rattle.std.proofs.Common.{unwrap_or, Any, inl, inr, refl, sym, ap, subst, length-append, length-set, arith}
use Rattle.std.specs.List.{AllByRecursion, AllZip}
use Rattle.std.specs.Option.{option_map_or}
use Rattle.std.proofs.lemmas.Bool.{and_from, and_parts, cases_Bool, cases_eq, cases_lt, eqb-false, eqb-true, false≢true}
use Rattle.std.proofs.lemmas.Option.{none-some, same_Some, slice_get_within}
use Rattle.rec_diff.specs.declared.reverting.reading.Reading.{Reading}
use Rattle.rec_diff.specs.declared.reverting.keeping.sides.Side.{Side}
use Rattle.rec_diff.specs.declared.reverting.spread.Spread.{Spread}
use Rattle.rec_diff.specs.declared.reverting.spread.Spread.TheVariants.{Nowhere, In, Several}
use Rattle.rec_diff.specs.declared.turn.Turn.{Turn}
use Rattle.rec_diff.specs.Changes.{Stretch}
use Rattle.rec_diff.specs.Keeping.{HasWhatIsLeft, IsWhole}
use Rattle.rec_diff.specs.Making.{IsSame, StaysAmong, WasAmong}
use Rattle.rec_diff.specs.Placed.{Placed, PlacedRecord, PlacedText}
use Rattle.rec_diff.specs.proving.Keeping.{AreLeading, AreOthers, AreThose, HaveNoOther, IsGoneTo, IsOfGone, IsOfGoneIn, IsPutBy, IsPutOf, IsPutOfGone, IsSide}
use Rattle.rec_diff.specs.proving.Keeping.{IsWithin, all_numbered, is_number, listed_unless, marked, spread_in}
use Rattle.rec_diff.specs.proving.Making.{made_at}
use Rattle.rec_diff.specs.proving.Numbering.{all_known}
use Rattle.rec_diff.specs.proving.Reading.{ArePicked, AreSpreads, AreTurnsOf, IsNumber, IsOrigin, IsReading, IsSpread, StaysIn, WasIn, fields_at, placed_of, text_of_reading, type_at}
use Rattle.rec_diff.proofs.lemmas.reverting.ListLemmas.{all_at, any_at, at_any, at_is, at_push, before_push, is_at, one_at, set_at, set_other, there, zip_at, zip_back, zip_both, zip_from, zip_length}
use Rattle.rec_diff.proofs.lemmas.reverting.SharingLemmas.{fields_are, record_there}
use Rattle.rec_diff.proofs.lemmas.reverting.WithinLemmas.{first_field, has_left, in_one, left_from, left_within, once_there, own_there, was_kind, was_one, whole_from}

-- ---- tests that are facts

pub both_are : (a b : Bool) (P Q : Type 0) → (a ≡ true) ↔ P → (b ≡ true) ↔ Q → ((a && b) ≡ true) ↔ (P × Q)
both_are a b P Q is is_too = (λ e. let (x, y) = and_parts a b e in (is.0 x, is_too.0 y), λ (p, q). and_from a b (is.1 p) (is_too.1 q))

-- the one is true, and the other tells; or it isn't
pub then_fact : (a b : Bool) (R : Type 0) → a ≡ true → ((a && b) ≡ true) ↔ R → (b ≡ true) ↔ R
then_fact a b R e is = (λ f. is.0 (and_from a b e f), λ r. (and_parts a b (is.1 r)).1)

pub else_fact : (a : Bool) (R : Type 0) → a ≡ false → (R → a ≡ true) → (a ≡ true) ↔ R
else_fact a R e needs = (λ f. absurd (false≢true (sym e ∙ f)), needs)

pub is_not : (a : Bool) (P : Type 0) → (a ≡ true) ↔ P → a ≡ false → P → ⊥
is_not a P is e p = false≢true (sym e ∙ is.1 p)

pub not_is : (a : Bool) (P : Type 0) → (a ≡ true) ↔ P → (not a ≡ true) ↔ (P → ⊥)
not_is true P is = (λ e. absurd (false≢true e), λ none. absurd (none (is.0 refl)))
not_is false P is = (λ e p. false≢true (is.1 p), λ none. refl)

pub no_fact : (P : Type 0) → (P → ⊥) → (false ≡ true) ↔ P
no_fact P none = (λ e. absurd (false≢true e), λ p. absurd (none p))

pub on_facts : (a : Bool) (P Q : Type 0) → (P → Q) → (Q → P) → (a ≡ true) ↔ P → (a ≡ true) ↔ Q
on_facts a P Q on back is = (λ e. on (is.0 e), λ q. is.1 (back q))

-- ---- each element has a number in one of two texts

module _ (R S : Placed → Option ℕ → Type 0) (P Q : Placed → Type 0) (one : (x : Placed) (j : ℕ) → R x (Some j) → P x) (no_one : (x : Placed) → R x None → P x → ⊥)
    (other : (x : Placed) (j : ℕ) → S x (Some j) → Q x) (no_other : (x : Placed) → S x None → Q x → ⊥) where
  pub known_all : (xs : List Placed) (ms ns : List (Option ℕ)) → AllZip R xs ms → AllZip S xs ns → all_known ms ns ≡ true → AllByRecursion (λ x. P x ⊎ Q x) xs
  known_all [] ms ns all all_too known = tt
  known_all (x ∷ xs) [] ns all all_too known = absurd all
  known_all (x ∷ xs) (m ∷ ms) [] all all_too known = absurd all_too
  known_all (x ∷ xs) (Some j ∷ ms) (n ∷ ns) all all_too known = (inl (one x j all.0), known_all xs ms ns all.1 all_too.1 known)
  known_all (x ∷ xs) (None ∷ ms) (Some j ∷ ns) all all_too known = (inr (other x j all_too.0), known_all xs ms ns all.1 all_too.1 known)
  known_all (x ∷ xs) (None ∷ ms) (None ∷ ns) all all_too known = absurd (false≢true known)

  pub all_are_known : (xs : List Placed) (ms ns : List (Option ℕ)) → AllZip R xs ms → AllZip S xs ns → AllByRecursion (λ x. P x ⊎ Q x) xs → all_known ms ns ≡ true
  all_are_known [] [] ns all all_too each = refl
  all_are_known [] (m ∷ ms) ns all all_too each = absurd all
  all_are_known (x ∷ xs) [] ns all all_too each = absurd all
  all_are_known (x ∷ xs) (m ∷ ms) [] all all_too each = absurd all_too
  all_are_known (x ∷ xs) (Some j ∷ ms) (n ∷ ns) all all_too each = all_are_known xs ms ns all.1 all_too.1 each.1
  all_are_known (x ∷ xs) (None ∷ ms) (Some j ∷ ns) all all_too each = all_are_known xs ms ns all.1 all_too.1 each.1
  all_are_known (x ∷ xs) (None ∷ ms) (None ∷ ns) all all_too each = absurd (elim each.0 [ inl p ↦ no_one x all.0 p | inr q ↦ no_other x all_too.0 q ])

-- ---- numbers

pub eqb_same : (m n : ℕ) → m ≡ n → eqb m n ≡ true
eqb_same m n is = elim (cases_Bool (eqb m n)) [ inl e ↦ e | inr e ↦ absurd (eqb-false m n e is) ]

is_number_at : (o : Option (Option ℕ)) (n : ℕ) → (is_number (option_map_or (λ (m : Option ℕ). m) o None) n ≡ true) ↔ (o ≡ Some (Some n))
is_number_at None n = (λ e. absurd (false≢true e), λ e. absurd (none-some (Some n) e))
is_number_at (Some None) n = (λ e. absurd (false≢true e), λ e. absurd (none-some n (same_Some None (Some n) e)))
is_number_at (Some (Some m)) n = (λ e. ap (λ k. Some (Some k)) (eqb-true m n e), λ e. let is : m ≡ n = same_Some m n (same_Some (Some m) (Some n) e) in eqb_same m n is)

module _ (numbers : List (Option ℕ)) where
  pub numbered_all : (es ns : List ℕ) → length es ≡ length ns → all_numbered numbers es ns ≡ true → AllZip (λ i n. slice_get numbers i ≡ Some (Some n)) es ns
  numbered_all [] [] same all = tt
  numbered_all [] (n ∷ ns) same all = absurd (omega (arith, same))
  numbered_all (e ∷ es) [] same all = absurd (omega (arith, same))
  numbered_all (e ∷ es) (n ∷ ns) same all =
      let (first, rest) = and_parts (is_number (made_at numbers (Some e)) n) (all_numbered numbers es ns) all in
      ((is_number_at (slice_get numbers e) n).0 first, numbered_all es ns (omega (arith, same)) rest)

  pub all_are_numbered : (es ns : List ℕ) → AllZip (λ i n. slice_get numbers i ≡ Some (Some n)) es ns → (length es ≡ length ns) × (all_numbered numbers es ns ≡ true)
  all_are_numbered [] [] all = (refl, refl)
  all_are_numbered [] (n ∷ ns) all = absurd all
  all_are_numbered (e ∷ es) [] all = absurd all
  all_are_numbered (e ∷ es) (n ∷ ns) all =
      let (same, rest) = all_are_numbered es ns all.1 in
      (ap suc same, and_from (is_number (made_at numbers (Some e)) n) (all_numbered numbers es ns) ((is_number_at (slice_get numbers e) n).1 all.0) rest)

-- ---- spreads

pub spread_of : (is_in : Placed → ℕ → Type 0) (text : PlacedText) (spreads : List Spread) (k : ℕ) (r : PlacedRecord) → AreSpreads is_in text spreads → slice_get text.records k ≡ Some r
    → IsSpread is_in r.fields (spread_in spreads k)
spread_of is_in text spreads k r are at =
    let (s, there, is) = zip_at (λ (r : PlacedRecord) s. IsSpread is_in r.fields s) text.records spreads k r are at in
    subst (IsSpread is_in r.fields) (sym (ap (λ o. unwrap_or o Nowhere) there)) is

type_is : (t : PlacedText) (k : ℕ) (r : PlacedRecord) → slice_get t.records k ≡ Some r → type_at t k ≡ r.record_type
type_is t k r at = ap (λ o. option_map_or (λ (r : PlacedRecord). r.record_type) o None) at

-- ---- a record beside what is left

module _ (text left : Reading) (is : IsReading text) (is_left : IsReading left) (parts : List Stretch) (ts : List Turn) (are : AreTurnsOf parts (text_of_reading text) (text_of_reading left) ts)
    (side : Side) (beside : IsSide parts (placed_of text) (placed_of left) side) where
  abbrev T : PlacedText
  T = placed_of text

  abbrev L : PlacedText
  L = placed_of left

  module _ (r k : ℕ) (old own : PlacedRecord) (at : slice_get T.records r ≡ Some old) (at_too : slice_get L.records k ≡ Some own) where
    to_spread : IsSpread (StaysIn parts L) old.fields (spread_in side.to_left.items r)
    to_spread = spread_of (StaysIn parts L) T side.to_left.items r old beside.to_left at

    from_spread : IsSpread (WasIn parts T) own.fields (spread_in side.from_text.items k)
    from_spread = spread_of (WasIn parts T) L side.from_text.items k own beside.from_text at_too

    pub left_is : IsWithin (spread_in side.to_left.items r) k → IsWithin (spread_in side.from_text.items k) r → HasWhatIsLeft parts T old L own
    left_is within within_too =
        has_left text left is is_left parts ts are r k old own at at_too (spread_in side.to_left.items r) (spread_in side.from_text.items k) to_spread from_spread within within_too

    pub is_left_to : HasWhatIsLeft parts T old L own → IsWithin (spread_in side.to_left.items r) k
    is_left_to has = left_within text left is is_left parts ts are r k old own at at_too (spread_in side.to_left.items r) to_spread has

    pub is_left_from : HasWhatIsLeft parts T old L own → IsWithin (spread_in side.from_text.items k) r
    is_left_from has = left_from text left is is_left parts ts are r k old own at at_too (spread_in side.from_text.items k) from_spread has

    pub whole_is_from : AllZip (IsSame parts) old.fields own.fields → spread_in side.from_text.items k ≡ In r
    whole_is_from all = whole_from text left is is_left parts ts are r k old own at at_too (spread_in side.from_text.items k) from_spread all

    -- the same fields, by their numbers
    module _ (mine its : List ℕ) (picked : ArePicked L.elements mine own.fields) (picked_too : ArePicked T.elements its old.fields) where
      pub whole_by : AllZip (λ i n. slice_get side.of_left.items i ≡ Some (Some n)) mine its → AllZip (IsSame parts) old.fields own.fields
      whole_by numbered =
          zip_from (IsSame parts) old.fields own.fields
          (sym (zip_length (λ n x. slice_get T.elements n ≡ Some x) its old.fields picked_too)
          ∙ (sym (zip_length (λ i n. slice_get side.of_left.items i ≡ Some (Some n)) mine its numbered) ∙ zip_length (λ i x. slice_get L.elements i ≡ Some x) mine own.fields picked))
          (λ j x y x_at y_at.
          let (n, n_at, n_is) = zip_back (λ n x. slice_get T.elements n ≡ Some x) its old.fields j x picked_too x_at in
          let (i, i_at, i_is) = zip_back (λ i x. slice_get L.elements i ≡ Some x) mine own.fields j y picked y_at in
          let number = zip_both (λ i n. slice_get side.of_left.items i ≡ Some (Some n)) mine its j i n numbered i_at n_at in
          let (z, z_at, same) = zip_both (IsOrigin parts T.elements) L.elements side.of_left.items i y (Some n) beside.of_left i_is number in
          subst (λ w. IsSame parts w y) (one_at T.elements n z x z_at n_is) same)

      one_number : (i n : ℕ) (x y : Placed) (m : Option ℕ) → slice_get L.elements i ≡ Some y → slice_get T.elements n ≡ Some x → IsSame parts x y → slice_get side.of_left.items i ≡ Some m
          → IsOrigin parts T.elements y m → slice_get side.of_left.items i ≡ Some (Some n)
      one_number i n x y None y_at x_at same there none = absurd (none (at_any (λ x. IsSame parts x y) T.elements n x x_at same))
      one_number i n x y (Some m) y_at x_at same there (z, z_at, same_too) =
          let e : z ≡ x = was_one text left is is_left parts ts are i y z x y_at same_too same in
          there ∙ ap (λ k. Some (Some k)) (once_there text is m n x (subst (λ w. slice_get T.elements m ≡ Some w) e z_at) x_at)

      pub by_whole : AllZip (IsSame parts) old.fields own.fields → AllZip (λ i n. slice_get side.of_left.items i ≡ Some (Some n)) mine its
      by_whole whole =
          zip_from (λ i n. slice_get side.of_left.items i ≡ Some (Some n)) mine its
          (zip_length (λ i x. slice_get L.elements i ≡ Some x) mine own.fields picked
          ∙ (sym (zip_length (IsSame parts) old.fields own.fields whole) ∙ sym (zip_length (λ n x. slice_get T.elements n ≡ Some x) its old.fields picked_too)))
          (λ j i n i_at n_at.
          let (y, y_at, y_is) = zip_at (λ i x. slice_get L.elements i ≡ Some x) mine own.fields j i picked i_at in
          let (x, x_at, x_is) = zip_at (λ n x. slice_get T.elements n ≡ Some x) its old.fields j n picked_too n_at in
          let (m, there, is_origin) = zip_at (IsOrigin parts T.elements) L.elements side.of_left.items i y beside.of_left y_is in
          one_number i n x y m y_is x_is (zip_both (IsSame parts) old.fields own.fields j x y whole x_at y_at) there is_origin)

  module _ (r k : ℕ) (old own : PlacedRecord) (at : slice_get T.records r ≡ Some old) (at_too : slice_get L.records k ≡ Some own) where
    abbrev Has : Type 0
    Has = HasWhatIsLeft parts T old L own × (old.record_type ≡ own.record_type)

    -- a record has what is left of one, or not
    pub has_not_to : (a : Bool) → (a ≡ true) ↔ IsWithin (spread_in side.to_left.items r) k → a ≡ false → (false ≡ true) ↔ Has
    has_not_to a is_a e = no_fact Has (λ (has, type). is_not a (IsWithin (spread_in side.to_left.items r) k) is_a e (is_left_to r k old own at at_too has))

    pub has_not_from : (a : Bool) → (a ≡ true) ↔ IsWithin (spread_in side.from_text.items k) r → a ≡ false → (false ≡ true) ↔ Has
    has_not_from a is_a e = no_fact Has (λ (has, type). is_not a (IsWithin (spread_in side.from_text.items k) r) is_a e (is_left_from r k old own at at_too has))

    pub has_if : (c : Bool) → IsWithin (spread_in side.to_left.items r) k → IsWithin (spread_in side.from_text.items k) r → (c ≡ true) ↔ (type_at T r ≡ type_at L k) → (c ≡ true) ↔ Has
    has_if c within within_too is_c = (
      λ e. (left_is r k old own at at_too within within_too, sym (type_is T r old at) ∙ (is_c.0 e ∙ type_is L k own at_too)),
      λ (has, type). is_c.1 (type_is T r old at ∙ (type ∙ sym (type_is L k own at_too))),
    )

in_same : (i j : ℕ) → In i ≡ In j → i ≡ j
in_same i j e = cc

-- ---- put together

pub made_some : (led : List (Option ℕ)) (i j : ℕ) → made_at led (Some i) ≡ Some j → slice_get led i ≡ Some (Some j)
made_some led i j is = by (slice_get led i) refl is
  where
    by : (o : Option (Option ℕ)) → slice_get led i ≡ o → option_map_or (λ (m : Option ℕ). m) (slice_get led i) None ≡ Some j → slice_get led i ≡ Some (Some j)
    by None at is = absurd (none-some j (sym (ap (λ o. option_map_or (λ (m : Option ℕ). m) o None) at) ∙ is))
    by (Some m) at is = at ∙ ap Some (sym (ap (λ o. option_map_or (λ (m : Option ℕ). m) o None) at) ∙ is)

some_made : (led : List (Option ℕ)) (i j : ℕ) → slice_get led i ≡ Some (Some j) → made_at led (Some i) ≡ Some j
some_made led i j at = ap (λ o. option_map_or (λ (m : Option ℕ). m) o None) at

module _ (before here left : Reading) (is_before : IsReading before) (is_here : IsReading here) (is_left : IsReading left) (ahead back : List Stretch) (ts us : List Turn)
    (are : AreTurnsOf ahead (text_of_reading before) (text_of_reading left) ts) (are_too : AreTurnsOf back (text_of_reading here) (text_of_reading left) us) (one other : Side)
    (beside : IsSide ahead (placed_of before) (placed_of left) one) (beside_too : IsSide back (placed_of here) (placed_of left) other) (led : List (Option ℕ))
    (leading : AreLeading led (placed_of before) (placed_of here)) (k : ℕ) (own : PlacedRecord) (at : slice_get (placed_of left).records k ≡ Some own) where
  abbrev B : PlacedText
  B = placed_of before

  abbrev H : PlacedText
  H = placed_of here

  abbrev E : PlacedText
  E = placed_of left

  abbrev PutBy : Type 0
  PutBy = IsPutBy led ahead back B H E own

  from_before : IsSpread (WasIn ahead B) own.fields (spread_in one.from_text.items k)
  from_before = spread_of (WasIn ahead B) E one.from_text.items k own beside.from_text at

  from_here : IsSpread (WasIn back H) own.fields (spread_in other.from_text.items k)
  from_here = spread_of (WasIn back H) E other.from_text.items k own beside_too.from_text at

  old_from : (i : ℕ) (old : PlacedRecord) → slice_get B.records i ≡ Some old → HasWhatIsLeft ahead B old E own → IsWithin (spread_in one.from_text.items k) i
  old_from i old old_at has = is_left_from before left is_before is_left ahead ts are one beside i k old own old_at at has

  old_to : (i : ℕ) (old : PlacedRecord) → slice_get B.records i ≡ Some old → HasWhatIsLeft ahead B old E own → IsWithin (spread_in one.to_left.items i) k
  old_to i old old_at has = is_left_to before left is_before is_left ahead ts are one beside i k old own old_at at has

  new_from : (j : ℕ) (new : PlacedRecord) → slice_get H.records j ≡ Some new → HasWhatIsLeft back H new E own → IsWithin (spread_in other.from_text.items k) j
  new_from j new new_at has = is_left_from here left is_here is_left back us are_too other beside_too j k new own new_at at has

  -- the record from which one came is there
  came_from : (parts : List Stretch) (text : PlacedText) (i : ℕ) → IsSpread (WasIn parts text) own.fields (In i) → (r : PlacedRecord) × (slice_get text.records i ≡ Some r)
  came_from parts text i (some, each) =
      let (a, y, y_at, was) = any_at (λ y. WasIn parts text y i) own.fields some in
      let (b, x, x_at, same) = any_at (λ x. IsSame parts x y) (fields_at text i) was in
      record_there text i x (is_at (fields_at text i) b x x_at)

  pub put_by_one : (i j : ℕ) (b : Bool) → spread_in one.from_text.items k ≡ In i → made_at led (Some i) ≡ Some j
      → ((old new : PlacedRecord) → slice_get B.records i ≡ Some old → slice_get H.records j ≡ Some new → (b ≡ true) ↔ IsPutOf ahead back B H E old new own) → (b ≡ true) ↔ PutBy
  put_by_one i j b from made is =
      let (old, old_at) = came_from ahead B i (subst (IsSpread (WasIn ahead B) own.fields) from from_before) in
      let led_at = made_some led i j made in
      let (new, new_at) = there H.records j (leading i j led_at).1 in (
        λ e. (i, j, old, new, led_at, old_at, new_at, (is old new old_at new_at).0 e),
        λ (a, c, one_old, one_new, a_led, a_at, c_at, put).
            let same : i ≡ a = subst (λ s. IsWithin s a) from (old_from a one_old a_at put.of_old) in
            let same_too : c ≡ j = same_Some c j (sym (some_made led a c a_led) ∙ (ap (λ n. made_at led (Some n)) (sym same) ∙ made)) in
            (is one_old one_new (ap (slice_get B.records) same ∙ a_at) (ap (slice_get H.records) (sym same_too) ∙ c_at)).1 put,
      )

  pub put_by_none : (i : ℕ) → spread_in one.from_text.items k ≡ In i → made_at led (Some i) ≡ None → (false ≡ true) ↔ PutBy
  put_by_none i from none =
      no_fact PutBy
      (λ (a, c, one_old, one_new, a_led, a_at, c_at, put).
      let same : i ≡ a = subst (λ s. IsWithin s a) from (old_from a one_old a_at put.of_old) in none-some c (sym none ∙ (ap (λ n. made_at led (Some n)) same ∙ some_made led a c a_led)))

  pub put_by_several : spread_in one.from_text.items k ≡ Several → (false ≡ true) ↔ PutBy
  put_by_several from = no_fact PutBy (λ (a, c, one_old, one_new, a_led, a_at, c_at, put). subst (λ s. IsWithin s a) from (old_from a one_old a_at put.of_old))

  module _ (of_gone : List Bool) (are_of_gone : (j : ℕ) → j < length H.records → (slice_get of_gone j ≡ Some true) ↔ IsOfGone led B H one.to_left.items j) (no_other : HaveNoOther ahead back B H E)
      (from : spread_in one.from_text.items k ≡ Nowhere) where
    nothing_from : AllByRecursion (λ y. (i : ℕ) → WasIn ahead B y i → ⊥) own.fields
    nothing_from = subst (IsSpread (WasIn ahead B) own.fields) from from_before

    on_gone : IsPutOfGone of_gone back H E other.from_text.items k own → PutBy
    on_gone (j, new, from_new, mark, new_at, has, type) =
        let (i, to, led_at, (is, gone, types)) = (are_of_gone j (slice_get_within H.records j new new_at)).0 mark in
        let led_to : slice_get led i ≡ Some (Some j) = led_at ∙ ap Some is in
        let (old, old_at) = there B.records i (leading i j led_to).0 in
        let same : old.record_type ≡ new.record_type = sym (type_is B i old old_at) ∙ (types ∙ type_is H j new new_at) in (
          i,
          j,
          old,
          new,
          led_to,
          old_at,
          new_at,
          record {
            of_old =
                left_is before left is_before is_left ahead ts are one beside i k old own old_at at (subst (λ s. IsWithin s k) (sym gone) tt) (subst (λ s. IsWithin s i) (sym from) tt);
            of_new = has;
            old_type = same ∙ type;
            new_type = type;
          },
        )

    -- nothing of a record stays in one that has nothing of this text
    none_stays : (i : ℕ) (old : PlacedRecord) → slice_get B.records i ≡ Some old → IsWithin (spread_in one.to_left.items i) k → spread_in one.to_left.items i ≡ Nowhere
    none_stays i old old_at within = by (spread_in one.to_left.items i) (spread_of (StaysIn ahead E) B one.to_left.items i old beside.to_left old_at) within
      where
        by : (s : Spread) → IsSpread (StaysIn ahead E) old.fields s → IsWithin s k → s ≡ Nowhere
        by Nowhere is within = refl
        by (In m) (some, each) within =
            absurd (let (a, x, x_at, stays) = any_at (λ x. StaysIn ahead E x m) old.fields some in
            let (b, y, y_at, same) = any_at (IsSame ahead x) (fields_at E m) stays in
            let y_own : slice_get own.fields b ≡ Some y = ap (λ l. slice_get l b) (sym (ap (fields_at E) within ∙ fields_are E k own at)) ∙ y_at in
            all_at (λ y. (i : ℕ) → WasIn ahead B y i → ⊥) own.fields b y nothing_from y_own i
            (at_any (λ x. IsSame ahead x y) (fields_at B i) a x (ap (λ l. slice_get l a) (fields_are B i old old_at) ∙ x_at) same))
        by Several is within = absurd within

    -- it has something of the other one
    some_from : spread_in other.from_text.items k ≢ Nowhere
    some_from none =
        let (x, any) = first_field left is_left k own at in
        let (a, x_at) = at_is own.fields x any in
        let (n, x_there, field) = own_there left here is_left is_here (λ y x. IsSame back x y) (was_one here left is_here is_left back us are_too)
        (was_kind here left is_here is_left back us are_too) k own at a x x_at in
        elim (all_at (λ y. WasAmong back H.elements y ⊎ WasAmong ahead B.elements y) E.elements n x no_other x_there) [
          | inl was ↦
              let (i, lies) = in_one left here is_left is_here (λ y x. IsSame back x y) (was_one here left is_here is_left back us are_too)
              (was_kind here left is_here is_left back us are_too) x field was in
              all_at (λ y. (i : ℕ) → WasIn back H y i → ⊥) own.fields a x (subst (IsSpread (WasIn back H) own.fields) none from_here) x_at i lies
          | inr was ↦
              let (i, lies) = in_one left before is_left is_before (λ y x. IsSame ahead x y) (was_one before left is_before is_left ahead ts are)
              (was_kind before left is_before is_left ahead ts are) x field was in
              all_at (λ y. (i : ℕ) → WasIn ahead B y i → ⊥) own.fields a x nothing_from x_at i lies
        ]

    in_this : (j : ℕ) → IsWithin (spread_in other.from_text.items k) j → spread_in other.from_text.items k ≡ In j
    in_this j within = by (spread_in other.from_text.items k) some_from within
      where
        by : (s : Spread) → (s ≢ Nowhere) → IsWithin s j → s ≡ In j
        by Nowhere some within = absurd (some refl)
        by (In m) some within = ap In within
        by Several some within = absurd within

    back_gone : PutBy → IsPutOfGone of_gone back H E other.from_text.items k own
    back_gone (i, j, old, new, led_at, old_at, new_at, put) = (
      j,
      new,
      in_this j (new_from j new new_at put.of_new),
      (are_of_gone j (slice_get_within H.records j new new_at)).1
          (i, Some j, led_at, (refl, none_stays i old old_at (old_to i old old_at put.of_old), type_is B i old old_at ∙ (put.old_type ∙ (sym put.new_type ∙ sym (type_is H j new new_at))))),
      new_at,
      put.of_new,
      put.new_type,
    )

    pub put_by_gone : (b : Bool) → (b ≡ true) ↔ IsPutOfGone of_gone back H E other.from_text.items k own → (b ≡ true) ↔ PutBy
    put_by_gone b is = on_facts b (IsPutOfGone of_gone back H E other.from_text.items k own) PutBy on_gone back_gone is

module _ (here left : Reading) (back : List Stretch) (other : Side) (beside_too : IsSide back (placed_of here) (placed_of left) other) (of_gone : List Bool) (k : ℕ) (own : PlacedRecord)
    (at : slice_get (placed_of left).records k ≡ Some own) where
  pub put_of_gone : (i : ℕ) (b : Bool) → spread_in other.from_text.items k ≡ In i → slice_get of_gone i ≡ Some true
      → ((new : PlacedRecord) → slice_get (placed_of here).records i ≡ Some new → (b ≡ true) ↔ (HasWhatIsLeft back (placed_of here) new (placed_of left) own × (new.record_type ≡ own.record_type)))
      → (b ≡ true) ↔ IsPutOfGone of_gone back (placed_of here) (placed_of left) other.from_text.items k own
  put_of_gone i b from mark told =
      let (some, each) = subst (IsSpread (WasIn back (placed_of here)) own.fields) from
      (spread_of (WasIn back (placed_of here)) (placed_of left) other.from_text.items k own beside_too.from_text at) in
      let (a, y, y_at, was) = any_at (λ y. WasIn back (placed_of here) y i) own.fields some in
      let (c, x, x_at, same) = any_at (λ x. IsSame back x y) (fields_at (placed_of here) i) was in
      let (new, new_at) = record_there (placed_of here) i x (is_at (fields_at (placed_of here) i) c x x_at) in (
        λ e. let (has, type) = (told new new_at).0 e in (i, new, from, mark, new_at, has, type),
        λ (j, its, its_from, its_mark, its_at, has, type).
            let e : i ≡ j = in_same i j (sym from ∙ its_from) in
            (told its (ap (slice_get (placed_of here).records) e ∙ its_at)).1 (has, type),
      )

-- ---- a whole record

module _ (text left : Reading) (is : IsReading text) (is_left : IsReading left) (parts : List Stretch) (ts : List Turn) (are : AreTurnsOf parts (text_of_reading text) (text_of_reading left) ts)
    (side : Side) (beside : IsSide parts (placed_of text) (placed_of left) side) (k : ℕ) (own : PlacedRecord) (at : slice_get (placed_of left).records k ≡ Some own) where
  abbrev AnyWhole : Type 0
  AnyWhole = Any (λ one. IsWhole parts one own) (placed_of text).records

  from_is : (j : ℕ) (old : PlacedRecord) → slice_get (placed_of text).records j ≡ Some old → IsWhole parts old own → spread_in side.from_text.items k ≡ In j
  from_is j old old_at whole = whole_is_from text left is is_left parts ts are side beside j k old own old_at at whole.fields

  pub whole_in : (i : ℕ) (b : Bool) → spread_in side.from_text.items k ≡ In i → ((old : PlacedRecord) → slice_get (placed_of text).records i ≡ Some old → (b ≡ true) ↔ IsWhole parts old own)
      → (b ≡ true) ↔ AnyWhole
  whole_in i b from told =
      let (some, each) = subst (IsSpread (WasIn parts (placed_of text)) own.fields) from (spread_of (WasIn parts (placed_of text)) (placed_of left) side.from_text.items k own beside.from_text at) in
      let (a, y, y_at, was) = any_at (λ y. WasIn parts (placed_of text) y i) own.fields some in
      let (c, x, x_at, same) = any_at (λ x. IsSame parts x y) (fields_at (placed_of text) i) was in
      let (old, old_at) = record_there (placed_of text) i x (is_at (fields_at (placed_of text) i) c x x_at) in (
        λ e. at_any (λ one. IsWhole parts one own) (placed_of text).records i old old_at ((told old old_at).0 e),
        λ any.
            let (j, other, other_at, whole) = any_at (λ one. IsWhole parts one own) (placed_of text).records any in
            let e : i ≡ j = in_same i j (sym from ∙ from_is j other other_at whole) in
            (told other (ap (slice_get (placed_of text).records) e ∙ other_at)).1 whole,
      )

  pub whole_no : ((i : ℕ) → spread_in side.from_text.items k ≡ In i → ⊥) → (false ≡ true) ↔ AnyWhole
  whole_no none =
      no_fact AnyWhole
      (λ any. let (j, other, other_at, whole) = any_at (λ one. IsWhole parts one own) (placed_of text).records any in none j (from_is j other other_at whole))

  pub whole_of : (i : ℕ) (old : PlacedRecord) (mine its : List ℕ) (a b : Bool) → slice_get (placed_of text).records i ≡ Some old
      → ArePicked (placed_of left).elements mine (fields_at (placed_of left) k)
      → ArePicked (placed_of text).elements its (fields_at (placed_of text) i) → (a ≡ true) ↔ AllZip (λ i n. slice_get side.of_left.items i ≡ Some (Some n)) mine its
      → (b ≡ true) ↔ (type_at (placed_of text) i ≡ type_at (placed_of left) k) → ((a && b) ≡ true) ↔ IsWhole parts old own
  whole_of i old mine its a b old_at picked picked_too is_a is_b =
      let mine_picked = subst (ArePicked (placed_of left).elements mine) (fields_are (placed_of left) k own at) picked in
      let its_picked = subst (ArePicked (placed_of text).elements its) (fields_are (placed_of text) i old old_at) picked_too in (
        λ e.
            let (x, y) = and_parts a b e in record {
              fields = whole_by text left is is_left parts ts are side beside i k old own old_at at mine its mine_picked its_picked (is_a.0 x);
              types = sym (type_is (placed_of text) i old old_at) ∙ (is_b.0 y ∙ type_is (placed_of left) k own at);
            },
        λ whole.
            and_from a b (is_a.1 (by_whole text left is is_left parts ts are side beside i k old own old_at at mine its mine_picked its_picked whole.fields))
            (is_b.1 (type_is (placed_of text) i old old_at ∙ (whole.types ∙ sym (type_is (placed_of left) k own at)))),
      )

  pub whole_numbers : (i : ℕ) (old : PlacedRecord) (mine its : List ℕ) → slice_get (placed_of text).records i ≡ Some old → ArePicked (placed_of left).elements mine (fields_at (placed_of left) k)
      → ArePicked (placed_of text).elements its (fields_at (placed_of text) i) → IsWhole parts old own → AllZip (λ i n. slice_get side.of_left.items i ≡ Some (Some n)) mine its
  whole_numbers i old mine its old_at picked picked_too whole =
      by_whole text left is is_left parts ts are side beside i k old own old_at at mine its (subst (ArePicked (placed_of left).elements mine) (fields_are (placed_of left) k own at) picked)
      (subst (ArePicked (placed_of text).elements its) (fields_are (placed_of text) i old old_at) picked_too) whole.fields

-- ---- numbers that are listed

pub any_push : (xs : List ℕ) (n k : ℕ) → Any (◌≡◌ k) (xs ++ n ∷ []) ↔ (Any (◌≡◌ k) xs ⊎ (k ≡ n))
any_push xs n k = (
  λ any.
      let (i, at) = at_is (xs ++ n ∷ []) k any in
      elim (cases_lt i (length xs)) [
        | inl low ↦ inl (is_at xs i k (sym (before_push xs i n low) ∙ at))
        | inr high ↦
            let within : i < length (xs ++ n ∷ []) = slice_get_within (xs ++ n ∷ []) i k at in
            let last : i ≡ length xs = omega (arith, high, within, length-append xs (n ∷ [])) in
            inr (same_Some k n (sym at ∙ at_push xs i n last))
      ],
  λ any. elim any [
    | inl before ↦ let (i, at) = at_is xs k before in is_at (xs ++ n ∷ []) i k (before_push xs i n (slice_get_within xs i k at) ∙ at)
    | inr e ↦ is_at (xs ++ n ∷ []) (length xs) k (at_push xs (length xs) n refl ∙ ap Some (sym e))
  ],
)

-- the numbers of the first records that haven't P
pub record AreThoseIn (P : PlacedRecord → Type 0) (text : PlacedText) (count : ℕ) (numbers : List ℕ) : Type 0 where
  pub lack : (k : ℕ) → Any (◌≡◌ k) numbers → (r : PlacedRecord) × (slice_get text.records k ≡ Some r) × (P r → ⊥)
  pub rest : (k : ℕ) (r : PlacedRecord) → k < count → slice_get text.records k ≡ Some r → P r ⊎ Any (◌≡◌ k) numbers

module _ (P : PlacedRecord → Type 0) (text : PlacedText) where
  pub no_those : AreThoseIn P text 0 []
  no_those = record { lack = λ k any. absurd (let (i, at) = at_is [] k any in none-some k at); rest = λ k r low at. absurd (omega (arith, low)) }

  those_more : (i : ℕ) (numbers : List ℕ) (r : PlacedRecord) → slice_get text.records i ≡ Some r → (P r → ⊥) → AreThoseIn P text i numbers → AreThoseIn P text (i + 1) (numbers ++ i ∷ [])
  those_more i numbers r at lacks are = record {
    lack = λ k any. elim ((any_push numbers i k).0 any) [ inl before ↦ are.lack k before | inr e ↦ (r, ap (slice_get text.records) e ∙ at, lacks) ];
    rest = λ k q low q_at. elim (cases_lt k i) [
      | inl e ↦ elim (are.rest k q e q_at) [ inl has ↦ inl has | inr any ↦ inr ((any_push numbers i k).1 (inl any)) ]
      | inr e ↦ inr ((any_push numbers i k).1 (inr (omega (arith, low, e))))
    ];
  }

  those_same : (i : ℕ) (numbers : List ℕ) (r : PlacedRecord) → slice_get text.records i ≡ Some r → P r → AreThoseIn P text i numbers → AreThoseIn P text (i + 1) numbers
  those_same i numbers r at has are = record {
    lack = are.lack;
    rest = λ k q low q_at. elim (cases_lt k i) [
      | inl e ↦ are.rest k q e q_at
      | inr e ↦
          let same : i ≡ k = omega (arith, low, e) in
          inl (subst P (one_at text.records k r q (ap (slice_get text.records) (sym same) ∙ at) q_at) has)
    ];
  }

  pub those_step : (i : ℕ) (numbers : List ℕ) (r : PlacedRecord) (b : Bool) → slice_get text.records i ≡ Some r → (b ≡ true) ↔ P r → AreThoseIn P text i numbers
      → AreThoseIn P text (i + 1) (listed_unless b i numbers)
  those_step i numbers r true at is are = those_same i numbers r at (is.0 refl) are
  those_step i numbers r false at is are = those_more i numbers r at (λ x. false≢true (is.1 x)) are

  pub all_those : (numbers : List ℕ) → AreThoseIn P text (length text.records) numbers → AreThose P text numbers
  all_those numbers are = record { lack = are.lack; rest = λ k r at. are.rest k r (slice_get_within text.records k r at) at }

  -- ---- those of some numbers

  pub no_others : AreOthers P text [] []
  no_others = record { lack = λ k any. absurd (let (i, at) = at_is [] k any in none-some k at); rest = λ k r any at. inr any }

  others_more : (numbers others : List ℕ) (n : ℕ) (r : PlacedRecord) → slice_get text.records n ≡ Some r → (P r → ⊥) → AreOthers P text numbers others
      → AreOthers P text (numbers ++ n ∷ []) (others ++ n ∷ [])
  others_more numbers others n r at lacks are = record {
    lack = λ k any. elim ((any_push others n k).0 any) [
      | inl before ↦ let (listed, none) = are.lack k before in ((any_push numbers n k).1 (inl listed), none)
      | inr e ↦ (
        (any_push numbers n k).1 (inr e),
        λ q q_at has. lacks (subst P (one_at text.records n q r (ap (slice_get text.records) (sym e) ∙ q_at) at) has),
      )
    ];
    rest = λ k q any q_at. elim ((any_push numbers n k).0 any) [
      | inl before ↦ elim (are.rest k q before q_at) [ inl has ↦ inl has | inr other ↦ inr ((any_push others n k).1 (inl other)) ]
      | inr e ↦ inr ((any_push others n k).1 (inr e))
    ];
  }

  others_same : (numbers others : List ℕ) (n : ℕ) (r : PlacedRecord) → slice_get text.records n ≡ Some r → P r → AreOthers P text numbers others → AreOthers P text (numbers ++ n ∷ []) others
  others_same numbers others n r at has are = record {
    lack = λ k any. let (listed, none) = are.lack k any in ((any_push numbers n k).1 (inl listed), none);
    rest = λ k q any q_at. elim ((any_push numbers n k).0 any) [
      | inl before ↦ are.rest k q before q_at
      | inr e ↦ inl (subst P (one_at text.records n r q at (ap (slice_get text.records) (sym e) ∙ q_at)) has)
    ];
  }

  pub others_step : (numbers others : List ℕ) (n : ℕ) (r : PlacedRecord) (b : Bool) → slice_get text.records n ≡ Some r → (b ≡ true) ↔ P r → AreOthers P text numbers others
      → AreOthers P text (numbers ++ n ∷ []) (listed_unless b n others)
  others_step numbers others n r true at is are = others_same numbers others n r at (is.0 refl) are
  others_step numbers others n r false at is are = others_more numbers others n r at (λ x. false≢true (is.1 x)) are

  -- where it holds of no record, all are others
  pub all_others : (numbers : List ℕ) → ((r : PlacedRecord) → P r → ⊥) → AreOthers P text numbers numbers
  all_others numbers none = record { lack = λ k any. (any, λ r at. none r); rest = λ k r any at. inr any }

  -- it holds of all where there are no others
  pub none_others : (numbers : List ℕ) → AreOthers P text numbers [] → (k : ℕ) (r : PlacedRecord) → Any (◌≡◌ k) numbers → slice_get text.records k ≡ Some r → P r
  none_others numbers are k r any at = elim (are.rest k r any at) [ inl has ↦ has | inr other ↦ absurd (let (i, there) = at_is [] k other in none-some k there) ]

  pub no_others_left : (numbers others : List ℕ) → ((k : ℕ) → Any (◌≡◌ k) numbers → k < length text.records) → AreOthers P text numbers others
      → ((k : ℕ) (r : PlacedRecord) → Any (◌≡◌ k) numbers → slice_get text.records k ≡ Some r → P r) → others ≡ []
  no_others_left numbers [] within are all = refl
  no_others_left numbers (n ∷ others) within are all =
      absurd (let (listed, none) = are.lack n (is_at (n ∷ others) 0 n refl) in let (r, at) = there text.records n (within n listed) in none r at (all n r listed at))

pub others_map : (P Q : PlacedRecord → Type 0) (text : PlacedText) (numbers others : List ℕ) → ((r : PlacedRecord) → P r → Q r) → ((r : PlacedRecord) → Q r → P r) → AreOthers P text numbers others
    → AreOthers Q text numbers others
others_map P Q text numbers others on back are = record {
  lack = λ k any. let (listed, none) = are.lack k any in (listed, λ r at has. none r at (back r has));
  rest = λ k r any at. elim (are.rest k r any at) [ inl has ↦ inl (on r has) | inr other ↦ inr other ];
}

pub others_then : (P Q : PlacedRecord → Type 0) (text : PlacedText) (numbers others last : List ℕ) → AreOthers P text numbers others → AreOthers Q text others last
    → AreOthers (λ r. P r ⊎ Q r) text numbers last
others_then P Q text numbers others last are next = record {
  lack = λ k any.
      let (other, none_too) = next.lack k any in
      let (listed, none) = are.lack k other in
      (listed, λ r at has. elim has [ inl p ↦ none r at p | inr q ↦ none_too r at q ]);
  rest = λ k r any at. elim (are.rest k r any at) [ inl p ↦ inl (inl p) | inr other ↦ elim (next.rest k r other at) [ inl q ↦ inl (inr q) | inr left ↦ inr left ] ];
}

-- ---- what is marked

mark_at : (made : List Bool) (n j : ℕ) → j < length made → (slice_get (set made n true) j ≡ Some true) ↔ ((slice_get made j ≡ Some true) ⊎ (n ≡ j))
mark_at made n j low = (
  λ at. elim (cases_eq n j) [ inl e ↦ inr e | inr other ↦ inl (sym (set_other made n j true other) ∙ at) ],
  λ seen. elim (cases_eq n j) [
    | inl e ↦ let (b, at) = there made j low in ap (slice_get (set made n true)) (sym e) ∙ set_at made n b true (ap (slice_get made) e ∙ at)
    | inr other ↦ elim seen [ inl at ↦ set_other made n j true other ∙ at | inr e ↦ absurd (other e) ]
  ],
)

pub marked_at : (made : List Bool) (one : Option ℕ) (j : ℕ) → j < length made → (slice_get (marked one made) j ≡ Some true) ↔ ((slice_get made j ≡ Some true) ⊎ (one ≡ Some j))
marked_at made None j low = (λ at. inl at, λ seen. elim seen [ inl at ↦ at | inr e ↦ absurd (none-some j e) ])
marked_at made (Some n) j low = (
  λ at. elim ((mark_at made n j low).0 at) [ inl seen ↦ inl seen | inr e ↦ inr (ap Some e) ],
  λ seen. (mark_at made n j low).1 (elim seen [ inl at ↦ inl at | inr e ↦ inr (same_Some n j e) ]),
)

pub length-marked : (made : List Bool) (one : Option ℕ) → length (marked one made) ≡ length made
length-marked made None = refl
length-marked made (Some n) = length-set made n true

module _ (led : List (Option ℕ)) (before here : PlacedText) (to_left : List Spread) where
  pub gone_more : (i j : ℕ) (new : Option ℕ) (made : List Bool) (one : Option ℕ) → slice_get led i ≡ Some new → j < length made → (one ≡ Some j) ↔ IsGoneTo before here to_left i new j
      → (slice_get made j ≡ Some true) ↔ IsOfGoneIn i led before here to_left j → (slice_get (marked one made) j ≡ Some true) ↔ IsOfGoneIn (i + 1) led before here to_left j
  gone_more i j new made one at low is are = (
    λ mark. elim ((marked_at made one j low).0 mark) [
      | inl seen ↦ let (n, m, small, n_at, gone) = are.0 seen in (n, m, omega (arith, small), n_at, gone)
      | inr e ↦ (i, new, omega arith, at, is.0 e)
    ],
    λ (n, m, small, n_at, gone). (marked_at made one j low).1 (elim (cases_lt n i) [
      | inl e ↦ inl (are.1 (n, m, e, n_at, gone))
      | inr e ↦
          let same : n ≡ i = omega (arith, small, e) in
          let its : m ≡ new = one_at led i m new (ap (slice_get led) (sym same) ∙ n_at) at in
          inr (is.1 (subst (λ x. IsGoneTo before here to_left i x j) its (subst (λ x. IsGoneTo before here to_left x m j) same gone)))
    ]),
  )

  pub all_gone : (j : ℕ) (made : List Bool) → (slice_get made j ≡ Some true) ↔ IsOfGoneIn (length led) led before here to_left j → (slice_get made j ≡ Some true) ↔ IsOfGone led before here to_left j
  all_gone j made are = (
    λ mark. let (n, m, small, n_at, gone) = are.0 mark in (n, m, n_at, gone),
    λ (n, m, n_at, gone). are.1 (n, m, slice_get_within led n m n_at, n_at, gone),
  )

pub numbered_at_end : (numbers : List (Option ℕ)) (es ns : List ℕ) → (es ≡ []) ⊎ (ns ≡ []) → all_numbered numbers es ns ≡ true
numbered_at_end numbers [] ns ends = refl
numbered_at_end numbers (e ∷ es) [] ends = refl
numbered_at_end numbers (e ∷ es) (n ∷ ns) ends = absurd (elim ends [ inl is ↦ cc | inr is ↦ cc ])

-- ---- numbers that tell

number_told : (parts : List Stretch) (others : List Placed) (x : Placed) (j : ℕ) → IsNumber parts others x (Some j) → StaysAmong parts others x
number_told parts others x j (y, at, same) = at_any (IsSame parts x) others j y at same

origin_told : (parts : List Stretch) (others : List Placed) (y : Placed) (i : ℕ) → IsOrigin parts others y (Some i) → WasAmong parts others y
origin_told parts others y i (x, at, same) = at_any (λ x. IsSame parts x y) others i x at same

pub numbers_known : (p q : List Stretch) (one other xs : List Placed) (ms ns : List (Option ℕ)) → AllZip (IsNumber p one) xs ms → AllZip (IsNumber q other) xs ns
    → (all_known ms ns ≡ true) ↔ AllByRecursion (λ x. StaysAmong p one x ⊎ StaysAmong q other x) xs
numbers_known p q one other xs ms ns are are_too = (
  known_all (IsNumber p one) (IsNumber q other) (StaysAmong p one) (StaysAmong q other) (number_told p one) (λ x none. none) (number_told q other) (λ x none. none) xs ms ns are are_too,
  all_are_known (IsNumber p one) (IsNumber q other) (StaysAmong p one) (StaysAmong q other) (number_told p one) (λ x none. none) (number_told q other) (λ x none. none) xs ms ns are are_too,
)

pub origins_known : (p q : List Stretch) (one other xs : List Placed) (ms ns : List (Option ℕ)) → AllZip (IsOrigin p one) xs ms → AllZip (IsNumber q other) xs ns
    → (all_known ms ns ≡ true) ↔ AllByRecursion (λ x. WasAmong p one x ⊎ StaysAmong q other x) xs
origins_known p q one other xs ms ns are are_too = (
  known_all (IsOrigin p one) (IsNumber q other) (WasAmong p one) (StaysAmong q other) (origin_told p one) (λ x none. none) (number_told q other) (λ x none. none) xs ms ns are are_too,
  all_are_known (IsOrigin p one) (IsNumber q other) (WasAmong p one) (StaysAmong q other) (origin_told p one) (λ x none. none) (number_told q other) (λ x none. none) xs ms ns are are_too,
)

pub both_origins_known : (p q : List Stretch) (one other xs : List Placed) (ms ns : List (Option ℕ)) → AllZip (IsOrigin p one) xs ms → AllZip (IsOrigin q other) xs ns
    → (all_known ms ns ≡ true) ↔ AllByRecursion (λ x. WasAmong p one x ⊎ WasAmong q other x) xs
both_origins_known p q one other xs ms ns are are_too = (
  known_all (IsOrigin p one) (IsOrigin q other) (WasAmong p one) (WasAmong q other) (origin_told p one) (λ x none. none) (origin_told q other) (λ x none. none) xs ms ns are are_too,
  all_are_known (IsOrigin p one) (IsOrigin q other) (WasAmong p one) (WasAmong q other) (origin_told p one) (λ x none. none) (origin_told q other) (λ x none. none) xs ms ns are are_too,
)
