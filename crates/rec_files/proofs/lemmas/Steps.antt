-- What several calls leave, one after another.
use Rattle.std.proofs.Common.{◌≡◌, ◌≢◌, inl, inr, refl, sym, ◌∙◌, ap, subst, arith, ℕ, ◌≤◌, ◌+◌, Bool, true, false}
use Rattle.std.proofs.Common.{List, length, take, length-take, take_all, Option, Some, None, IfSome, IsSomeAnd, Result, Ok, Err, OnOk, IfOk}
use Rattle.std.proofs.lemmas.Bool.{false≢true}
use Rattle.rec_disk.specs.Disk.{State, Story, Told, renamed, folder_synced}
use Rattle.rec_disk.specs.Lasting.{Spares}
use Rattle.rec_disk.specs.proving.Places.{StaysSafe, IsSettled}
use Rattle.rec_disk.proofs.lemmas.Places.{spares_itself, spares-folder_synced, settled-synced, settled_stop}
use Rattle.rec_disk.proofs.lemmas.Moments.{told_so}
use Rattle.rec_files.specs.proving.Replacing.{IsSyncing, IsPlacing, IsPlaced}

pub on_ok : {X E : Type 0} (result : Result X E) (P : Type 0) → P → OnOk result P
on_ok (Ok x) P holds = holds
on_ok (Err e) P holds = tt

pub if_ok_so : {X E : Type 0} (result : Result X E) (P Q : X → Type 0) → ((x : X) → P x → Q x) → IfOk result P → IfOk result Q
if_ok_so (Ok x) P Q so holds = so x holds
if_ok_so (Err e) P Q so holds = tt

pub if_some_so : {X : Type 0} (x : Option X) (P Q : X → Type 0) → ((x : X) → P x → Q x) → IfSome x P → IfSome x Q
if_some_so None P Q so holds = tt
if_some_so (Some x) P Q so holds = so x holds

abbrev IsThere : {X : Type 0} → Option X → Type 0
IsThere None = ⊥
IsThere (Some a) = Unit {0}

pub some_none : {X : Type 0} (a : X) → Some a ≡ None → ⊥
some_none a is = subst IsThere is tt

pub some_known : {X : Type 0} (o : Option X) (x : X) (P : X → Type 0) → o ≡ Some x → IsSomeAnd o P → P x
some_known o x P is holds = subst (λ o. IsSomeAnd o P) is holds

pub some_so : {X : Type 0} (o : Option X) (P Q : X → Type 0) → ((x : X) → P x → Q x) → IsSomeAnd o P → IsSomeAnd o Q
some_so None P Q so holds = holds
some_so (Some x) P Q so holds = so x holds

-- where nothing was changed
pub told_next : (P : State → Type 0) (o b : Option Story) → b ≡ o → Told o P → Told b P
told_next P o b same told = subst (λ o. Told o P) (sym same) told

-- ---- what was read

short_take : (xs : List ℕ) (k : ℕ) → length (take (k + 1) xs) ≤ k → length xs ≤ k + 1
short_take xs k short = omega (arith, length-take (k + 1) xs)

-- what is shorter than the limit is all there is
pub whole_read : (m k : ℕ) (bytes : List ℕ) (o : Option Story) → length bytes ≤ k → Told o (λ s. bytes ≡ take (k + 1) (s.bytes m)) → Told o (λ s. bytes ≡ s.bytes m)
whole_read m k bytes o short told =
    told_so (λ s. bytes ≡ take (k + 1) (s.bytes m)) (λ s. bytes ≡ s.bytes m) o
    (λ s is. is ∙ take_all (k + 1) (s.bytes m) (short_take (s.bytes m) k (subst (λ l. length l ≤ k) is short))) told

-- ---- folders

module _ (p : List ℕ) (folder : List ℕ → List ℕ) (syncs : List ℕ → Bool) (d : List ℕ) where
  pub syncing : (s t : State) → IsSyncing folder syncs d s t → Spares p s t
  syncing s t (inl is) = subst (Spares p s) (sym is) (spares-folder_synced p s folder d)
  syncing s t (inr (is, unsynced)) = subst (Spares p s) (sym is) (spares_itself p s)

  pub settled : (crash : Bool) (s t : State) → folder p ≡ d → (crash ≡ true → syncs d ≡ true) → StaysSafe true s (s.at p) → IsSyncing folder syncs d s t → IsSettled crash p t
  settled crash s t is synced safe (inl made) =
      subst (IsSettled crash p) (ap (folder_synced folder s) is ∙ sym made) (settled-synced folder crash p s safe)
  settled true s t is synced safe (inr (same, isnt)) = absurd (false≢true (sym isnt ∙ synced refl))
  settled false s t is synced safe (inr (same, isnt)) = settled_stop p t

-- ---- a rename and a sync of its folder

abbrev Renamed : List ℕ → List ℕ → State → State → Type 0
Renamed w q s t = t ≡ renamed s w q

module _ (folder : List ℕ → List ℕ) (syncs : List ℕ → Bool) (w q : List ℕ) where
  pub synced_after : (s t u : State) → Renamed w q s t → IsSyncing folder syncs (folder q) t u → IsPlacing folder w q s u
  synced_after s t u is (inl synced) = inr (inr (synced ∙ ap (λ (v : State). folder_synced folder v (folder q)) is))
  synced_after s t u is (inr (same, unsynced)) = inr (inl (same ∙ is))

  pub placed_after : (s t u : State) → Renamed w q s t → IsSyncing folder syncs (folder q) t u → IsPlaced folder syncs w q s u
  placed_after s t u is (inl synced) = inl (synced ∙ ap (λ (v : State). folder_synced folder v (folder q)) is)
  placed_after s t u is (inr (same, unsynced)) = inr (same ∙ is, unsynced)
