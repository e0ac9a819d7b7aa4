-- What is made of records: the least numbers that are seen, and one relation after another.
use Rattle.std.proofs.Common.{◌≡◌, ◌∙◌, ◌⊎◌, ℕ, zero, suc, leb, List, [], ◌∷◌, length, set, map, Option, Some, None, slice_get, Any, inl, inr}
use Rattle.std.proofs.Common.{refl, sym, ap, subst, arith}
use Rattle.std.specs.Option.{option_map_or}
use Rattle.std.specs.List.{AllByRecursion, AllZip}
use Rattle.std.proofs.lemmas.Bool.{cases_Bool, cases_eq, cond-true, cond-false, leb-true, leb-false}
use Rattle.std.proofs.lemmas.Option.{none-some, same_Some}
use Rattle.rec_diff.specs.declared.reverting.making.Pair.{Pair}
use Rattle.rec_diff.specs.Making.{IsFirst}
use Rattle.rec_diff.specs.Placed.{PlacedRecord, PlacedText}
use Rattle.rec_diff.specs.proving.Making.{AreLeast, IsLeast, least, made_at, pair_noted, pair_of}
use Rattle.rec_diff.specs.proving.Reading.{AreMade, IsMadeOf}
use Rattle.rec_diff.proofs.lemmas.reverting.ListLemmas.{all_from, all_at, at_is, first_from, set_at, set_other, zip_at, zip_from}

-- ---- the least that is seen

pub is_least_map : (P Q : ℕ → Type 0) (m : Option ℕ) → ((k : ℕ) → P k → Q k) → ((k : ℕ) → Q k → P k) → IsLeast P m → IsLeast Q m
is_least_map P Q None on back none = λ k seen. none k (back k seen)
is_least_map P Q (Some k) on back (seen, low) = (on k seen, λ j also. low j (back j also))

pub are_least_map : (P Q : ℕ → ℕ → Type 0) (made : List (Option ℕ)) → ((r k : ℕ) → P r k → Q r k) → ((r k : ℕ) → Q r k → P r k) → AreLeast P made → AreLeast Q made
are_least_map P Q made on back all = λ r m at. is_least_map (P r) (Q r) m (on r) (back r) (all r m at)

is_least_with : (P Q : ℕ → Type 0) (k : ℕ) (found : Option ℕ) → ((j : ℕ) → P j → Q j) → Q k → ((j : ℕ) → Q j → P j ⊎ (j ≡ k)) → IsLeast P found → IsLeast Q (Some (least k found))
is_least_with P Q k None on here back none = (here, λ j seen. elim (back j seen) [ inl p ↦ absurd (none j p) | inr e ↦ omega (arith, e) ])
is_least_with P Q k (Some i) on here back (seen, low) = elim (cases_Bool (leb i k)) [
  | inl e ↦
      let is : least k (Some i) ≡ i = cond-true (leb i k) i k e in
      let fits = leb-true i k e in
      subst (λ n. IsLeast Q (Some n)) (sym is) (on i seen, λ j also. elim (back j also) [ inl p ↦ low j p | inr e ↦ omega (arith, e, fits) ])
  | inr e ↦
      let is : least k (Some i) ≡ k = cond-false (leb i k) i k e in
      let more = leb-false i k e in
      subst (λ n. IsLeast Q (Some n)) (sym is) (here, λ j also. elim (back j also) [ inl p ↦ let l = low j p in omega (arith, l, more) | inr e ↦ omega (arith, e) ])
]

-- one that is noted is seen
noted_least : (P : ℕ → ℕ → Type 0) (p : Pair) (made : List (Option ℕ)) (found : Option (Option ℕ)) → slice_get made p.one ≡ found → AreLeast P made
    → AreLeast (λ r k. P r k ⊎ (Some p ≡ Some (pair_of r k))) (option_map_or (λ m. set made p.one (Some (least p.other m))) found made)
noted_least P p made None at all = λ r m there.
    is_least_map (P r) (λ k. P r k ⊎ (Some p ≡ Some (pair_of r k))) m (λ k seen. inl seen)
    (λ k seen. elim seen [ inl s ↦ s | inr e ↦ absurd (let is : p.one ≡ r = cc in none-some m (sym at ∙ ap (slice_get made) is ∙ there)) ])
    (all r m there)
noted_least P p made (Some found) at all = λ r m there. elim (cases_eq p.one r) [
  | inl e ↦
      let is : m ≡ Some (least p.other found) = same_Some m (Some (least p.other found))
      (sym there ∙ ap (slice_get (set made p.one (Some (least p.other found)))) (sym e) ∙ set_at made p.one found (Some (least p.other found)) at) in
      subst (IsLeast (λ k. P r k ⊎ (Some p ≡ Some (pair_of r k)))) (sym is)
      (is_least_with (P r) (λ k. P r k ⊎ (Some p ≡ Some (pair_of r k))) p.other found (λ j seen. inl seen) (inr (ap (λ n. Some (pair_of n p.other)) e))
      (λ j seen. elim seen [ inl s ↦ inl s | inr same ↦ inr (let is : p.other ≡ j = cc in sym is) ])
      (all r found (ap (slice_get made) (sym e) ∙ at)))
  | inr other ↦
      is_least_map (P r) (λ k. P r k ⊎ (Some p ≡ Some (pair_of r k))) m (λ k seen. inl seen)
      (λ k seen. elim seen [ inl s ↦ s | inr same ↦ absurd (other (let is : p.one ≡ r = cc in is)) ])
      (all r m (sym (set_other made p.one r (Some (least p.other found)) other) ∙ there))
]

pub pair_least : (P : ℕ → ℕ → Type 0) (pair : Option Pair) (made : List (Option ℕ)) → AreLeast P made
    → AreLeast (λ r k. P r k ⊎ (pair ≡ Some (pair_of r k))) (pair_noted pair made)
pair_least P None made all = λ r m there.
    is_least_map (P r) (λ k. P r k ⊎ (None ≡ Some (pair_of r k))) m (λ k seen. inl seen) (λ k seen. elim seen [ inl s ↦ s | inr e ↦ absurd (none-some (pair_of r k) e) ]) (all r m there)
pair_least P (Some p) made all = noted_least P p made (slice_get made p.one) refl all

length_set_of : (made : List (Option ℕ)) (k : ℕ) (v : Option ℕ) → length (set made k v) ≡ length made
length_set_of [] k v = refl
length_set_of (m ∷ made) zero v = refl
length_set_of (m ∷ made) (suc k) v = ap suc (length_set_of made k v)

noted_length : (k : ℕ) (other : ℕ) (made : List (Option ℕ)) (found : Option (Option ℕ)) → length (option_map_or (λ m. set made k (Some (least other m))) found made) ≡ length made
noted_length k other made None = refl
noted_length k other made (Some found) = length_set_of made k (Some (least other found))

pub pair_length : (pair : Option Pair) (made : List (Option ℕ)) → length (pair_noted pair made) ≡ length made
pair_length None made = refl
pair_length (Some p) made = noted_length p.one p.other made (slice_get made p.one)

-- ---- as a relation

-- the least number is that of the first one
is_first_made : (P : PlacedRecord → Type 0) (others : List PlacedRecord) (seen : ℕ → Type 0) (m : Option ℕ) → ((k : ℕ) (its : PlacedRecord) → slice_get others k ≡ Some its → seen k → P its)
    → ((k : ℕ) (its : PlacedRecord) → slice_get others k ≡ Some its → P its → seen k) → ((k : ℕ) → seen k → (its : PlacedRecord) × (slice_get others k ≡ Some its)) → IsLeast seen m
    → IsMadeOf (λ (one : PlacedRecord). IsFirst P others) others (record { fields = []; record_type = None }) m
is_first_made P others seen None on back within none = all_from (λ its. IsFirst P others its → ⊥) others (λ k its at first. none k (back k its at first.is))
is_first_made P others seen (Some k) on back within (is, low) =
    let (its, at) = within k is in
    (its, at, first_from P others k its at (on k its at is) (λ i y small there holds. let l = low i (back i y there holds) in omega (arith, l, small)))

made_of_first : (P : PlacedRecord → Type 0) (others : List PlacedRecord) (one other : PlacedRecord) (m : Option ℕ) → IsMadeOf (λ (r : PlacedRecord). IsFirst P others) others other m
    → IsMadeOf (λ (r : PlacedRecord). IsFirst P others) others one m
made_of_first P others one other None made = made
made_of_first P others one other (Some k) made = made

module _ (P : PlacedRecord → PlacedRecord → Type 0) (text other : PlacedText) (seen : ℕ → ℕ → Type 0) (made : List (Option ℕ)) where
  pub made_first : length made ≡ length text.records
      → ((r k : ℕ) (one its : PlacedRecord) → slice_get text.records r ≡ Some one → slice_get other.records k ≡ Some its → seen r k → P one its)
      → ((r k : ℕ) (one its : PlacedRecord) → slice_get text.records r ≡ Some one → slice_get other.records k ≡ Some its → P one its → seen r k)
      → ((r k : ℕ) → seen r k → (its : PlacedRecord) × (slice_get other.records k ≡ Some its)) → AreLeast seen made
      → AreMade (λ one. IsFirst (P one) other.records) text other made
  made_first lengths on back within all =
      zip_from (IsMadeOf (λ one. IsFirst (P one) other.records) other.records) text.records made (sym lengths)
      (λ r one m at there. of_one one m (is_first_made (P one) other.records (seen r) m (λ k its its_at. on r k one its at its_at) (λ k its its_at. back r k one its at its_at) (within r)
      (all r m there)))
    where
      of_one : (one : PlacedRecord) (m : Option ℕ) → IsMadeOf (λ (r : PlacedRecord). IsFirst (P one) other.records) other.records (record { fields = []; record_type = None }) m
          → IsMadeOf (λ one. IsFirst (P one) other.records) other.records one m
      of_one one None made = made
      of_one one (Some k) made = made

-- ---- relations that are the same, and one after another

module _ (F G : PlacedRecord → PlacedRecord → Type 0) (on : (a b : PlacedRecord) → F a b → G a b) (back : (a b : PlacedRecord) → G a b → F a b) where
  made_of_map : (others : List PlacedRecord) (one : PlacedRecord) (m : Option ℕ) → IsMadeOf F others one m → IsMadeOf G others one m
  made_of_map others one None none = all_from (λ its. G one its → ⊥) others (λ k its at is. all_at (λ its. F one its → ⊥) others k its none at (back one its is))
  made_of_map others one (Some k) (its, at, is) = (its, at, on one its is)

  pub made_map : (text other : PlacedText) (made : List (Option ℕ)) → AreMade F text other made → AreMade G text other made
  made_map text other made all = each text.records made all
    where
      each : (records : List PlacedRecord) (made : List (Option ℕ)) → AllZip (IsMadeOf F other.records) records made → AllZip (IsMadeOf G other.records) records made
      each [] [] all = tt
      each [] (m ∷ made) all = absurd all
      each (r ∷ records) [] all = absurd all
      each (r ∷ records) (m ∷ made) all = (made_of_map other.records r m all.0, each records made all.1)

-- the one leads on to a record of the text between, to which the other leads from there
abbrev pub Then : (PlacedRecord → PlacedRecord → Type 0) → (PlacedRecord → PlacedRecord → Type 0) → PlacedRecord → PlacedRecord → Type 0
Then F G one other = (next : PlacedRecord) × F one next × G next other

module _ (F G : PlacedRecord → PlacedRecord → Type 0) (text between other : PlacedText) (next : List (Option ℕ)) (one_leads : (a b c : PlacedRecord) → F a b → F a c → b ≡ c)
    (leads_in : AllByRecursion (λ a. (b : PlacedRecord) → F a b → Any (◌≡◌ b) between.records) text.records) (then : AreMade G between other next) where
  next_made : (a b : PlacedRecord) (m : Option ℕ) → F a b → IsMadeOf G other.records b m → IsMadeOf (Then F G) other.records a m
  next_made a b None leads none =
      all_from (λ its. Then F G a its → ⊥) other.records
      (λ k its at (c, first, last). all_at (λ its. G b its → ⊥) other.records k its none at (subst (λ x. G x its) (one_leads a c b first leads) last))
  next_made a b (Some k) leads (its, at, is) = (its, at, (b, leads, is))

  then_made_of : (a : PlacedRecord) (m : Option ℕ) → ((b : PlacedRecord) → F a b → Any (◌≡◌ b) between.records) → IsMadeOf F between.records a m → IsMadeOf (Then F G) other.records a (made_at next m)
  then_made_of a None inside none =
      all_from (λ its. Then F G a its → ⊥) other.records
      (λ k its at (b, first, last). let (i, there) = at_is between.records b (inside b first) in all_at (λ b. F a b → ⊥) between.records i b none there first)
  then_made_of a (Some k) inside (b, at, leads) =
      let (m, there, is) = zip_at (IsMadeOf G other.records) between.records next k b then at in
      subst (IsMadeOf (Then F G) other.records a) (sym (ap (λ o. option_map_or (λ (n : Option ℕ). n) o None) there)) (next_made a b m leads is)

  pub then_made : (made : List (Option ℕ)) → AreMade F text between made → AreMade (Then F G) text other (map (made_at next) made)
  then_made made all = each text.records made leads_in all
    where
      each : (records : List PlacedRecord) (made : List (Option ℕ)) → AllByRecursion (λ a. (b : PlacedRecord) → F a b → Any (◌≡◌ b) between.records) records
          → AllZip (IsMadeOf F between.records) records made → AllZip (IsMadeOf (Then F G) other.records) records (map (made_at next) made)
      each [] [] inside all = tt
      each [] (m ∷ made) inside all = absurd all
      each (r ∷ records) [] inside all = absurd all
      each (r ∷ records) (m ∷ made) inside all = (then_made_of r m inside.0 all.0, each records made inside.1 all.1)
