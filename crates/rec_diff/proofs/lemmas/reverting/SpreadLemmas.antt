-- In which records of another text the fields of a record are.
use Rattle.std.proofs.Common.{◌≡◌, ◌∙◌, ◌↔◌, ℕ, ◌+◌, ◌<◌, Bool, true, false, cond, eqb, List, [], ◌∷◌, ◌++◌, length, map, take, get_or, Option, Some, None, refl, sym, ap, subst}
use Rattle.std.specs.List.{AllByRecursion, AllZip, Any, slice_get}
use Rattle.std.specs.Option.{option_map_or}
use Rattle.std.proofs.lemmas.Bool.{eqb-true, eqb-false}
use Rattle.std.proofs.lemmas.List.{take_more}
use Rattle.std.proofs.lemmas.List.Quantifiers.{Any-push}
use Rattle.std.proofs.lemmas.Option.{none-some, same_Some, slice_get-get_or, slice_get_within}
use Rattle.rec_text.proofs.lemmas.ListLemmas.{AllByRecursion-push}
use Rattle.rec_diff.specs.declared.reverting.reading.Reading.{Reading}
use Rattle.rec_diff.specs.declared.reverting.spread.Spread.{Spread}
use Rattle.rec_diff.specs.declared.reverting.spread.Spread.TheVariants.{Nowhere, In, Several}
use Rattle.rec_diff.specs.declared.turn.Turn.{Turn}
use Rattle.rec_diff.specs.Changes.{Stretch, turned}
use Rattle.rec_diff.specs.Making.{IsSame}
use Rattle.rec_diff.specs.Placed.{Placed, PlacedRecord, PlacedText}
use Rattle.rec_diff.specs.proving.Reading.{AreNumbers, AreOrigins, ArePicked, AreSpreads, AreSpreadsBy, AreTurnsOf, IsFieldOf, IsFoundIn, IsNumber, IsOrigin, IsReading, IsSpread, IsSpreadBy, StaysIn}
use Rattle.rec_diff.specs.proving.Reading.{WasIn, fields_at, placed_of, ranges_of, spread_with, text_of_reading}
use Rattle.rec_diff.specs.proving.Weaving.{turn_turned}
use Rattle.rec_diff.proofs.lemmas.reverting.ListLemmas.{all_map, any_at, at_any, slice_get-append_left, zip_at, zip_map, zip_push}
use Rattle.rec_diff.proofs.lemmas.reverting.PlacedLemmas.{field_is_there, one_index}
use Rattle.rec_diff.proofs.lemmas.reverting.NumberedLemmas.{found_place}
use Rattle.rec_diff.proofs.lemmas.reverting.TurnedLemmas.{same_turned, turned_same, turns_turned}

-- ---- one more field

any_more : {X : Type 0} (P : X → Type 0) (xs : List X) (x : X) → Any P xs → Any P (xs ++ x ∷ [])
any_more P xs x any =
    let found = any_at P xs any in
    at_any P (xs ++ x ∷ []) found.0 found.1 (slice_get-append_left xs (x ∷ []) found.0 (slice_get_within xs found.0 found.1 found.2) ∙ found.2) found.3

module _ {X : Type 0} (is_in : X → ℕ → Type 0) where
  none_more : (xs : List X) (x : X) (s : Spread) → IsSpread is_in xs s → ((k : ℕ) → is_in x k → ⊥) → IsSpread is_in (xs ++ x ∷ []) s
  none_more xs x Nowhere all none = AllByRecursion-push (λ y. (k : ℕ) → is_in y k → ⊥) xs x all none
  none_more xs x (In k) (any, all) none =
      (any_more (λ y. is_in y k) xs x any, AllByRecursion-push (λ y. (j : ℕ) → is_in y j → j ≡ k) xs x all (λ j has. absurd (none j has)))
  none_more xs x Several (k, j, apart, one, other) none = (k, j, apart, any_more (λ y. is_in y k) xs x one, any_more (λ y. is_in y j) xs x other)

  in_more : (xs : List X) (x : X) (j r : ℕ) (same : Bool) → eqb j r ≡ same → IsSpread is_in xs (In j) → is_in x r → ((k : ℕ) → is_in x k → k ≡ r)
      → IsSpread is_in (xs ++ x ∷ []) (cond same (In r) Several)
  in_more xs x j r true same (any, all) has only =
      let e : j ≡ r = eqb-true j r same in (
        Any-push (λ y. is_in y r) xs x has,
        AllByRecursion-push (λ y. (i : ℕ) → is_in y i → i ≡ r) xs x (all_map (λ y. (i : ℕ) → is_in y i → i ≡ j) (λ y. (i : ℕ) → is_in y i → i ≡ r) xs (λ y each i its. each i its ∙ e) all) only,
      )
  in_more xs x j r false same (any, all) has only = (j, r, eqb-false j r same, any_more (λ y. is_in y j) xs x any, Any-push (λ y. is_in y r) xs x has)

  some_more : (xs : List X) (x : X) (s : Spread) (r : ℕ) → IsSpread is_in xs s → is_in x r → ((k : ℕ) → is_in x k → k ≡ r) → IsSpread is_in (xs ++ x ∷ []) (spread_with s (Some r))
  some_more xs x Nowhere r all has only = (
    Any-push (λ y. is_in y r) xs x has,
    AllByRecursion-push (λ y. (j : ℕ) → is_in y j → j ≡ r) xs x
        (all_map (λ y. (k : ℕ) → is_in y k → ⊥) (λ y. (j : ℕ) → is_in y j → j ≡ r) xs (λ y none j its. absurd (none j its)) all) only,
  )
  some_more xs x (In j) r is has only = in_more xs x j r (eqb j r) refl is has only
  some_more xs x Several r (k, j, apart, one, other) has only = (k, j, apart, any_more (λ y. is_in y k) xs x one, any_more (λ y. is_in y j) xs x other)

  -- where it is known in which record a field is, if in any
  pub spread_more : (xs : List X) (x : X) (s : Spread) (owner : Option ℕ) → IsSpread is_in xs s → ((k : ℕ) → (owner ≡ Some k) ↔ is_in x k) → IsSpread is_in (xs ++ x ∷ []) (spread_with s owner)
  spread_more xs x s None is tells = none_more xs x s is (λ k has. none-some k ((tells k).1 has))
  spread_more xs x s (Some r) is tells = some_more xs x s r is ((tells r).0 refl) (λ k has. sym (same_Some r k ((tells k).1 has)))

  pub spread_step : (xs : List X) (i : ℕ) (d : X) (s t : Spread) (owner : Option ℕ) → i < length xs → IsSpread is_in (take i xs) s → ((k : ℕ) → (owner ≡ Some k) ↔ is_in (get_or xs i d) k)
      → t ≡ spread_with s owner → IsSpread is_in (take (i + 1) xs) t
  spread_step xs i d s t owner within is tells next =
      subst (IsSpread is_in (take (i + 1) xs)) (sym next)
      (subst (λ l. IsSpread is_in l (spread_with s owner)) (sym (take_more xs i d within)) (spread_more (take i xs) (get_or xs i d) s owner is tells))

-- ---- the same of fields that are found otherwise

module _ {X Y : Type 0} (R : X → Y → Type 0) (is_in : X → ℕ → Type 0) (stays_in : Y → ℕ → Type 0) (tells : (x : X) (y : Y) → R x y → (k : ℕ) → is_in x k ↔ stays_in y k) where
  any_there : (k : ℕ) (xs : List X) (ys : List Y) → AllZip R xs ys → Any (λ x. is_in x k) xs → Any (λ y. stays_in y k) ys
  any_there k xs ys all any =
      let found = any_at (λ x. is_in x k) xs any in
      let other = zip_at R xs ys found.0 found.1 all found.2 in
      at_any (λ y. stays_in y k) ys found.0 other.0 other.1 ((tells found.1 other.0 other.2 k).0 found.3)

  all_there : (P : X → Type 0) (Q : Y → Type 0) → ((x : X) (y : Y) → R x y → P x → Q y) → (xs : List X) (ys : List Y) → AllZip R xs ys → AllByRecursion P xs → AllByRecursion Q ys
  all_there P Q each [] [] zip all = tt
  all_there P Q each [] (y ∷ ys) zip all = absurd zip
  all_there P Q each (x ∷ xs) [] zip all = absurd zip
  all_there P Q each (x ∷ xs) (y ∷ ys) zip all = (each x y zip.0 all.0, all_there P Q each xs ys zip.1 all.1)

  pub spread_there : (xs : List X) (ys : List Y) (s : Spread) → AllZip R xs ys → IsSpread is_in xs s → IsSpread stays_in ys s
  spread_there xs ys Nowhere zip all =
      all_there (λ x. (k : ℕ) → is_in x k → ⊥) (λ y. (k : ℕ) → stays_in y k → ⊥) (λ x y r none k has. none k ((tells x y r k).1 has)) xs ys zip all
  spread_there xs ys (In k) zip (any, all) = (
    any_there k xs ys zip any,
    all_there (λ x. (j : ℕ) → is_in x j → j ≡ k) (λ y. (j : ℕ) → stays_in y j → j ≡ k) (λ x y r each j has. each j ((tells x y r j).1 has)) xs ys zip all,
  )
  spread_there xs ys Several zip (k, j, apart, one, other) = (k, j, apart, any_there k xs ys zip one, any_there j xs ys zip other)

-- ---- by the numbers of elements

module _ (one other : Reading) (is : IsReading one) (is_other : IsReading other) (numbers : List (Option ℕ)) where
  module _ (parts : List Stretch) (ts : List Turn) (are : AreTurnsOf parts (text_of_reading one) (text_of_reading other) ts) (all : AreNumbers parts (placed_of one) (placed_of other) numbers) where
    number_at : (i : ℕ) (x : Placed) → slice_get (placed_of one).elements i ≡ Some x → (n : Option ℕ) × (slice_get numbers i ≡ Some n) × IsNumber parts (placed_of other).elements x n
    number_at i x at = zip_at (IsNumber parts (placed_of other).elements) (placed_of one).elements numbers i x all at

    one_element : (i j m : ℕ) (x y z : Placed) → slice_get (placed_of one).elements i ≡ Some x → slice_get (placed_of other).elements j ≡ Some y → slice_get (placed_of other).elements m ≡ Some z
        → IsSame parts x y → IsSame parts x z → y ≡ z
    one_element i j m x y z at y_at z_at same same_too =
        let place = found_place (text_of_reading one) (text_of_reading other) parts ts are one.database other.database is.read is_other.read i x y at same in
        let place_too = found_place (text_of_reading one) (text_of_reading other) parts ts are one.database other.database is.read is_other.read i x z at same_too in
        let index : j ≡ m = one_index other.database is_other.read.well_formed j m y z y_at z_at (same_Some y.at z.at (sym place ∙ place_too)) in
        same_Some y z (sym y_at ∙ ap (slice_get (placed_of other).elements) index ∙ z_at)

    stays_found : (i k : ℕ) (x : Placed) → slice_get (placed_of one).elements i ≡ Some x → IsFoundIn numbers (placed_of other) i k → StaysIn parts (placed_of other) x k
    stays_found i k x at (j, number, (y, y_at, in_record)) =
        let found = number_at i x at in
        let its : IsNumber parts (placed_of other).elements x (Some j) =
        subst (IsNumber parts (placed_of other).elements x) (same_Some found.0 (Some j) (sym found.1 ∙ number)) found.2 in
        let same : IsSame parts x y = subst (IsSame parts x) (same_Some its.0 y (sym its.1 ∙ y_at)) its.2 in
        let place = any_at (λ z. y ≡ z) (fields_at (placed_of other) k) in_record in
        at_any (IsSame parts x) (fields_at (placed_of other) k) place.0 place.1 place.2 (subst (IsSame parts x) place.3 same)

    found_by : (i k m n : ℕ) (x z : Placed) (number : Option ℕ) → slice_get (placed_of one).elements i ≡ Some x → slice_get numbers i ≡ Some number → IsNumber parts (placed_of other).elements x number
        → slice_get (fields_at (placed_of other) k) n ≡ Some z → slice_get (placed_of other).elements m ≡ Some z → IsSame parts x z → IsFoundIn numbers (placed_of other) i k
    found_by i k m n x z None at number none z_in z_at same = absurd (none (at_any (IsSame parts x) (placed_of other).elements m z z_at same))
    found_by i k m n x z (Some j) at number (y, y_at, its) z_in z_at same =
        let e : y ≡ z = one_element i j m x y z at y_at z_at its same in
        (j, number, (y, y_at, at_any (λ w. y ≡ w) (fields_at (placed_of other) k) n z z_in e))

    found_stays : (i k : ℕ) (x : Placed) → slice_get (placed_of one).elements i ≡ Some x → StaysIn parts (placed_of other) x k → IsFoundIn numbers (placed_of other) i k
    found_stays i k x at stays =
        let field = any_at (IsSame parts x) (fields_at (placed_of other) k) stays in
        let element = field_is_there other.database (ranges_of other.records.each.items) k field.0 field.1 field.2 in
        let number = number_at i x at in
        found_by i k element.0 field.0 x field.1 number.0 at number.1 number.2 field.2 element.1 field.3

    pub stay_spread : (fields : List Placed) (s : Spread) → IsSpreadBy numbers (placed_of one) (placed_of other) fields s → IsSpread (StaysIn parts (placed_of other)) fields s
    stay_spread fields s (own, picked, spread) =
        spread_there (λ i x. slice_get (placed_of one).elements i ≡ Some x) (IsFoundIn numbers (placed_of other)) (StaysIn parts (placed_of other))
        (λ i x at k. (stays_found i k x at, found_stays i k x at)) own fields s picked spread

    pub stay_spreads : (spreads : List Spread) → AreSpreadsBy numbers (placed_of one) (placed_of other) (placed_of one).records spreads
        → AreSpreads (StaysIn parts (placed_of other)) (placed_of one) spreads
    stay_spreads spreads are_by =
        zip_map (λ (r : PlacedRecord) s. IsSpreadBy numbers (placed_of one) (placed_of other) r.fields s) (λ (r : PlacedRecord) s. IsSpread (StaysIn parts (placed_of other)) r.fields s)
        (λ r s by. stay_spread r.fields s by) (placed_of one).records spreads are_by

  module _ (parts : List Stretch) (ts : List Turn) (are : AreTurnsOf parts (text_of_reading other) (text_of_reading one) ts) (all : AreOrigins parts (placed_of other) (placed_of one) numbers) where
    number_back : (x : Placed) (n : Option ℕ) → IsOrigin parts (placed_of other).elements x n → IsNumber (map turned parts) (placed_of other).elements x n
    number_back x None none = λ stays.
        let found = any_at (IsSame (map turned parts) x) (placed_of other).elements stays in
        none (at_any (λ y. IsSame parts y x) (placed_of other).elements found.0 found.1 found.2 (turned_same parts found.1 x found.3))
    number_back x (Some j) (y, at, same) = (y, at, same_turned parts y x same)

    stays_was : (x : Placed) (k : ℕ) → StaysIn (map turned parts) (placed_of other) x k → WasIn parts (placed_of other) x k
    stays_was x k stays =
        let found = any_at (IsSame (map turned parts) x) (fields_at (placed_of other) k) stays in
        at_any (λ y. IsSame parts y x) (fields_at (placed_of other) k) found.0 found.1 found.2 (turned_same parts found.1 x found.3)

    was_stays : (x : Placed) (k : ℕ) → WasIn parts (placed_of other) x k → StaysIn (map turned parts) (placed_of other) x k
    was_stays x k was =
        let found = any_at (λ y. IsSame parts y x) (fields_at (placed_of other) k) was in
        at_any (IsSame (map turned parts) x) (fields_at (placed_of other) k) found.0 found.1 found.2 (same_turned parts found.1 x found.3)

    same_zip : (fields : List Placed) → AllZip (λ (x : Placed) y. x ≡ y) fields fields
    same_zip [] = tt
    same_zip (x ∷ fields) = (refl, same_zip fields)

    was_spread : (fields : List Placed) (s : Spread) → IsSpread (StaysIn (map turned parts) (placed_of other)) fields s → IsSpread (WasIn parts (placed_of other)) fields s
    was_spread fields s spread =
        spread_there (λ (x : Placed) y. x ≡ y) (StaysIn (map turned parts) (placed_of other)) (WasIn parts (placed_of other))
        (λ x y same k. (
          λ stays. stays_was y k (subst (λ z. StaysIn (map turned parts) (placed_of other) z k) same stays),
          λ was. subst (λ z. StaysIn (map turned parts) (placed_of other) z k) (sym same) (was_stays y k was),
        ))
        fields fields s (same_zip fields) spread

    pub were_spreads : (spreads : List Spread) → AreSpreadsBy numbers (placed_of one) (placed_of other) (placed_of one).records spreads
        → AreSpreads (WasIn parts (placed_of other)) (placed_of one) spreads
    were_spreads spreads are_by =
        zip_map (λ (r : PlacedRecord) s. IsSpread (StaysIn (map turned parts) (placed_of other)) r.fields s) (λ (r : PlacedRecord) s. IsSpread (WasIn parts (placed_of other)) r.fields s)
        (λ r s spread. was_spread r.fields s spread) (placed_of one).records spreads
        (stay_spreads (map turned parts) (map turn_turned ts) (turns_turned parts (text_of_reading other) (text_of_reading one) ts are)
        (zip_map (IsOrigin parts (placed_of other).elements) (IsNumber (map turned parts) (placed_of other).elements) number_back (placed_of one).elements numbers all) spreads are_by)

-- ---- record by record

pub next_spread : (one other : PlacedText) (numbers : List (Option ℕ)) (k : ℕ) (own : List ℕ) (s : Spread) (spreads : List Spread) → k < length one.records
    → AreSpreadsBy numbers one other (take k one.records) spreads → ArePicked one.elements own (fields_at one k) → IsSpread (IsFoundIn numbers other) own s
    → AreSpreadsBy numbers one other (take (k + 1) one.records) (spreads ++ s ∷ [])
next_spread one other numbers k own s spreads within so_far picked spread =
    let R = λ (r : PlacedRecord) (t : Spread). IsSpreadBy numbers one other r.fields t in
    let d : PlacedRecord = record { fields = []; record_type = None } in
    let r = get_or one.records k d in
    let fields : fields_at one k ≡ r.fields = ap (λ o. option_map_or (λ (x : PlacedRecord). x.fields) o []) (slice_get-get_or one.records k d within) in
    subst (λ l. AllZip R l (spreads ++ s ∷ [])) (sym (take_more one.records k d within))
    (zip_push R (take k one.records) spreads r s so_far (own, subst (ArePicked one.elements own) fields picked, spread))

pub found_owner : (numbers : List (Option ℕ)) (other : PlacedText) (field number : ℕ) (owner : Option ℕ) → slice_get numbers field ≡ Some (Some number)
    → ((k : ℕ) → (owner ≡ Some k) ↔ IsFieldOf other number k) → (k : ℕ) → (owner ≡ Some k) ↔ IsFoundIn numbers other field k
found_owner numbers other field number owner at tells k = (
  λ is. (number, at, (tells k).0 is),
  λ found.
      let same : number ≡ found.0 = same_Some number found.0 (same_Some (Some number) (Some found.0) (sym at ∙ found.1)) in
      (tells k).1 (subst (λ n. IsFieldOf other n k) (sym same) found.2),
)

pub no_owner : (numbers : List (Option ℕ)) (other : PlacedText) (field : ℕ) → ((j : ℕ) → slice_get numbers field ≡ Some (Some j) → ⊥) → (k : ℕ)
    → (◌≡◌ {A = Option ℕ} None (Some k)) ↔ IsFoundIn numbers other field k
no_owner numbers other field none k = (λ is. absurd (none-some k is), λ found. absurd (none found.0 found.1))
