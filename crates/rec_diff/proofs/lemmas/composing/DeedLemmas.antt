-- Deeds, and then others.
use Rattle.std.proofs.Common.{refl, sym, ap, ◌≡◌, ◌∙◌, ℕ, zero, suc, ◌<◌, List, [], ◌∷◌, ◌++◌, length, map, replicate, arith}
use Rattle.rec_journal.specs.declared.patch.Hunk.{Hunk}
use Rattle.rec_diff.specs.Composing.{Deed, keeps, removes, adds, after_keeping, after_adding, then_others, deeds_of, all_deeds}

-- others that do nothing
pub then_others-nil : (p : List Deed) → then_others p [] ≡ p
then_others-nil [] = refl
then_others-nil (keeps ∷ p) = ap (keeps ∷◌) (then_others-nil p)
then_others-nil (removes b ∷ p) = ap (removes b ∷◌) (then_others-nil p)
then_others-nil (adds b ∷ p) = ap (adds b ∷◌) (then_others-nil p)

-- ---- three lists of deeds

-- the first deeds let what others add come first
abbrev LetsAdd : List Deed → Type 0
LetsAdd x = (c : ℕ) (d : List Deed) → then_others x (adds c ∷ d) ≡ adds c ∷ then_others x d

-- the first deeds and then these, and then any: as the first, and then these and any
abbrev GoOn : List Deed → List Deed → Type 0
GoOn x q = (r : List Deed) → then_others (then_others x q) r ≡ then_others x (then_others q r)

go_on_adding : (x : List Deed) → LetsAdd x → (b : ℕ) (q : List Deed) → GoOn x q
    → (r : List Deed) → after_adding b (then_others (then_others x q)) r ≡ then_others x (after_adding b (then_others q) r)
go_on_adding x lets b q goes [] = ap (adds b ∷◌) (goes []) ∙ sym (lets b (then_others q []))
go_on_adding x lets b q goes (keeps ∷ r) = ap (adds b ∷◌) (goes r) ∙ sym (lets b (then_others q r))
go_on_adding x lets b q goes (removes c ∷ r) = goes r
go_on_adding x lets b q goes (adds c ∷ r) = ap (adds c ∷◌) (go_on_adding x lets b q goes r) ∙ sym (lets c (after_adding b (then_others q) r))

lets_add : (x : List Deed) → LetsAdd x → (b : ℕ) (q : List Deed) → GoOn x q → (r : List Deed)
    → then_others (then_others x (adds b ∷ q)) r ≡ then_others x (then_others (adds b ∷ q) r)
lets_add x lets b q goes r = ap (λ d. then_others d r) (lets b q) ∙ go_on_adding x lets b q goes r

module _ (p : List Deed) (goes : (q : List Deed) → GoOn p q) where
  kept_lets_add : LetsAdd (keeps ∷ p)
  kept_lets_add c d = refl

  kept_keeping : (q r : List Deed) → after_keeping (then_others (then_others p q)) r ≡ then_others (keeps ∷ p) (after_keeping (then_others q) r)
  kept_keeping q [] = ap (keeps ∷◌) (goes q [])
  kept_keeping q (keeps ∷ r) = ap (keeps ∷◌) (goes q r)
  kept_keeping q (removes c ∷ r) = ap (removes c ∷◌) (goes q r)
  kept_keeping q (adds c ∷ r) = ap (adds c ∷◌) (kept_keeping q r)

  kept_goes_on : (q : List Deed) → GoOn (keeps ∷ p) q
  kept_goes_on [] r = ap (λ d. then_others (keeps ∷ d) r) (then_others-nil p)
  kept_goes_on (keeps ∷ q) r = kept_keeping q r
  kept_goes_on (removes c ∷ q) r = ap (removes c ∷◌) (goes q r)
  kept_goes_on (adds c ∷ q) r = go_on_adding (keeps ∷ p) kept_lets_add c q (kept_goes_on q) r

  module _ (a : ℕ) where
    added_lets_add : LetsAdd (adds a ∷ p)
    added_lets_add c d = refl

    added_keeping : (q r : List Deed) → after_adding a (then_others (then_others p q)) r ≡ then_others (adds a ∷ p) (after_keeping (then_others q) r)
    added_keeping q [] = ap (adds a ∷◌) (goes q [])
    added_keeping q (keeps ∷ r) = ap (adds a ∷◌) (goes q r)
    added_keeping q (removes c ∷ r) = goes q r
    added_keeping q (adds c ∷ r) = ap (adds c ∷◌) (added_keeping q r)

    added_goes_on : (q : List Deed) → GoOn (adds a ∷ p) q
    added_goes_on [] r = ap (λ d. then_others (adds a ∷ d) r) (then_others-nil p)
    added_goes_on (keeps ∷ q) r = added_keeping q r
    added_goes_on (removes c ∷ q) r = goes q r
    added_goes_on (adds c ∷ q) r = go_on_adding (adds a ∷ p) added_lets_add c q (added_goes_on q) r

-- it doesn't matter which two are taken first
pub then_others_assoc : (p q r : List Deed) → then_others (then_others p q) r ≡ then_others p (then_others q r)
then_others_assoc [] q r = refl
then_others_assoc (keeps ∷ p) q r = kept_goes_on p (then_others_assoc p) q r
then_others_assoc (removes b ∷ p) q r = ap (removes b ∷◌) (then_others_assoc p q r)
then_others_assoc (adds b ∷ p) q r = added_goes_on p (then_others_assoc p) b q r

-- the deeds of earlier patches and later ones
pub all_deeds-append : (earlier later : List (List Hunk)) → all_deeds (earlier ++ later) ≡ then_others (all_deeds earlier) (all_deeds later)
all_deeds-append [] later = refl
all_deeds-append (patch ∷ earlier) later =
    ap (then_others (deeds_of patch)) (all_deeds-append earlier later) ∙ sym (then_others_assoc (deeds_of patch) (all_deeds earlier) (all_deeds later))

-- ---- several of a kind in a row

pub removed_first : (bytes : List ℕ) (p q : List Deed) → then_others (map removes bytes ++ p) q ≡ map removes bytes ++ then_others p q
removed_first [] p q = refl
removed_first (b ∷ bytes) p q = ap (removes b ∷◌) (removed_first bytes p q)

pub added_first : (x : List Deed) → LetsAdd x → (bytes : List ℕ) (q : List Deed) → then_others x (map adds bytes ++ q) ≡ map adds bytes ++ then_others x q
added_first x lets [] q = refl
added_first x lets (b ∷ bytes) q = lets b (map adds bytes ++ q) ∙ ap (adds b ∷◌) (added_first x lets bytes q)

pub kept_lets : (p : List Deed) → LetsAdd (keeps ∷ p)
kept_lets p c d = refl

pub added_lets : (a : ℕ) (p : List Deed) → LetsAdd (adds a ∷ p)
added_lets a p c d = refl

pub kept_kept : (count : ℕ) (p q : List Deed) → then_others (replicate count keeps ++ p) (replicate count keeps ++ q) ≡ replicate count keeps ++ then_others p q
kept_kept zero p q = refl
kept_kept (suc count) p q = ap (keeps ∷◌) (kept_kept count p q)

pub kept_removed : (bytes : List ℕ) (p q : List Deed) → then_others (replicate (length bytes) keeps ++ p) (map removes bytes ++ q) ≡ map removes bytes ++ then_others p q
kept_removed [] p q = refl
kept_removed (b ∷ bytes) p q = ap (removes b ∷◌) (kept_removed bytes p q)

pub added_kept : (bytes : List ℕ) (p q : List Deed) → then_others (map adds bytes ++ p) (replicate (length bytes) keeps ++ q) ≡ map adds bytes ++ then_others p q
added_kept [] p q = refl
added_kept (b ∷ bytes) p q = ap (adds b ∷◌) (added_kept bytes p q)

pub added_removed : (added removed : List ℕ) (p q : List Deed) → length added ≡ length removed → then_others (map adds added ++ p) (map removes removed ++ q) ≡ then_others p q
added_removed [] [] p q same = refl
added_removed [] (c ∷ removed) p q same = let none : 0 < 0 = omega (arith, same) in absurd (omega arith)
added_removed (b ∷ added) [] p q same = let none : 0 < 0 = omega (arith, same) in absurd (omega arith)
added_removed (b ∷ added) (c ∷ removed) p q same = added_removed added removed p q (omega (arith, same))
