-- What each change spares at a place, and what outlasts it.
use Rattle.std.proofs.Common.{◌≡◌, ◌≢◌, ◌⊎◌, inl, inr, ℕ, suc, Bool, true, false, List, [], ◌∷◌, map, Option, Some, None, refl, sym, ◌∙◌, ap, subst}
use Rattle.std.specs.Prelude.{bytes_eq, if◌then◌else◌}
use Rattle.std.proofs.lemmas.Bool.{cond-true, cond_both}
use Rattle.std.specs.List.{AllByRecursion}
use Rattle.rec_disk.specs.Disk.{State, IsFresh, put, made, gave, wrote, synced, renamed, removed, kept_in, folder_synced}
use Rattle.rec_disk.specs.declared.log.Rights.{Rights}
use Rattle.rec_disk.specs.Rights.{own_mode}
use Rattle.rec_disk.specs.Lasting.{SomeOf, MayStand, Left, LeavesAt, shown, Spares}
use Rattle.rec_disk.specs.proving.Places.{StaysSafe, IsSeen, Outlasts, IsSettled, Avoids, Waits}
use Rattle.rec_disk.proofs.lemmas.Points.{set_other, set_kept, put_same, put_other, eq_bytes}

-- ---- what may stand

-- what a stop may leave, a crash may leave too
pub by_crash : (crash : Bool) (s : State) (p : List ℕ) (x : Option ℕ) → MayStand crash s p x → MayStand true s p x
by_crash true s p x may = may
by_crash false s p x (inl is) = inl is
by_crash false s p x (inr none) = absurd none

-- ---- sparing

pub spares_itself : (p : List ℕ) (s : State) → Spares p s s
spares_itself p s =
    record { at = refl; may = λ x may. may; bytes = λ n may. refl; version = λ n may. refl; held = λ n may. refl; safe = λ n may e. e; rights = λ n may. refl; lets = refl }

pub spares_then : (p : List ℕ) (s t u : State) → Spares p s t → Spares p t u → Spares p s u
spares_then p s t u first rest = record {
  at = rest.at ∙ first.at;
  may = λ x may. first.may x (rest.may x may);
  bytes = λ n may. rest.bytes n may ∙ first.bytes n (rest.may (Some n) may);
  version = λ n may. rest.version n may ∙ first.version n (rest.may (Some n) may);
  held = λ n may. rest.held n may ∙ first.held n (rest.may (Some n) may);
  safe = λ n may e. rest.safe n may (first.safe n (rest.may (Some n) may) e);
  rights = λ n may. rest.rights n may ∙ first.rights n (rest.may (Some n) may);
  lets = rest.lets ∙ first.lets;
}

pub avoids_still : (p : List ℕ) (s t : State) (n : ℕ) → Spares p s t → Avoids s p n → Avoids t p n
avoids_still p s t n spares avoids = λ may. avoids (spares.may (Some n) may)

stop_safe : (s : State) (x : Option ℕ) → StaysSafe false s x
stop_safe s None = tt
stop_safe s (Some n) = refl

crash_safe : (crash : Bool) (s : State) (x : Option ℕ) → StaysSafe true s x → StaysSafe crash s x
crash_safe true s x safe = safe
crash_safe false s x safe = stop_safe s x

stays_safe : (crash : Bool) (p : List ℕ) (s t : State) (x : Option ℕ) → Spares p s t → MayStand true t p x → StaysSafe crash s x → StaysSafe crash t x
stays_safe crash p s t None spares may stays = tt
stays_safe true p s t (Some n) spares may stays = spares.safe n may stays
stays_safe false p s t (Some n) spares may stays = refl

shown_same : (p : List ℕ) (s t : State) (x : Option ℕ) → Spares p s t → MayStand true t p x → shown s.bytes x ≡ shown t.bytes x
shown_same p s t None spares may = refl
shown_same p s t (Some n) spares may = ap Some (sym (spares.bytes n may))

pub may_before : (crash : Bool) (p : List ℕ) (s t : State) (x : Option ℕ) → Spares p s t → MayStand crash t p x → MayStand crash s p x
may_before true p s t x spares may = spares.may x may
may_before false p s t x spares (inl is) = inl (is ∙ spares.at)
may_before false p s t x spares (inr none) = absurd none

pub outlasts_still : (crash : Bool) (P : Option (List ℕ) → Type 0) (p : List ℕ) (s t : State) → Spares p s t → Outlasts crash P s p → Outlasts crash P t p
outlasts_still crash P p s t spares was x may =
    let still : IsSeen crash P s x = was x (may_before crash p s t x spares may) in
    record {
      seen = subst P (shown_same p s t x spares (by_crash crash t p x may)) still.seen;
      stays = stays_safe crash p s t x spares (by_crash crash t p x may) still.stays;
    }

pub waits_still : (p bytes : List ℕ) (s t : State) → Spares p s t → Waits s p bytes → Waits t p bytes
waits_still p bytes s t spares was =
    let at : t.at p ≡ Some was.n = spares.at ∙ was.at in
    record { n = was.n; at = at; is = spares.bytes was.n (inl (sym at)) ∙ was.is; safe = spares.safe was.n (inl (sym at)) was.safe }

-- ---- what each change spares

module _ (p : List ℕ) (s : State) where
  fresh_in : (n : ℕ) (olds : List (List ℕ → Option ℕ)) → AllByRecursion (λ old. (q : List ℕ) → old q ≢ Some n) olds → SomeOf (λ old. Some n ≡ old p) olds → ⊥
  fresh_in n [] all some = some
  fresh_in n (old ∷ olds) all (inl is) = all.0 p (sym is)
  fresh_in n (old ∷ olds) all (inr later) = fresh_in n olds all.1 later

  pub fresh_avoids : (n : ℕ) → IsFresh s n → Avoids s p n
  fresh_avoids n fresh (inl is) = fresh.now p (sym is)
  fresh_avoids n fresh (inr some) = fresh_in n s.olds fresh.before some

  -- another file stands there
  other_file : (n m : ℕ) → Avoids s p n → MayStand true s p (Some m) → m ≢ n
  other_file n m avoids may e = avoids (subst (λ k. MayStand true s p (Some k)) e may)

  pub spares-wrote : (n : ℕ) (bytes : List ℕ) → Avoids s p n → Spares p s (wrote s n bytes)
  spares-wrote n bytes avoids = record {
    at = refl;
    may = λ x may. may;
    bytes = λ m may. set_other s.bytes n m bytes (other_file n m avoids may);
    version = λ m may. set_other s.version n m (suc (s.version n)) (other_file n m avoids may);
    held = λ m may. refl;
    safe = λ m may e. set_other s.safe n m false (other_file n m avoids may) ∙ e;
    rights = λ m may. refl;
    lets = refl;
  }

  pub spares-synced : (n : ℕ) → Spares p s (synced s n)
  spares-synced n = record {
    at = refl;
    may = λ x may. may;
    bytes = λ m may. refl;
    version = λ m may. refl;
    held = λ m may. refl;
    safe = λ m may e. set_kept s.safe n m true refl e;
    rights = λ m may. refl;
    lets = refl;
  }

  pub spares-gave : (n : ℕ) (rights : Rights) → Avoids s p n → Spares p s (gave s n rights)
  spares-gave n rights avoids = record {
    at = refl;
    may = λ x may. may;
    bytes = λ m may. refl;
    version = λ m may. refl;
    held = λ m may. refl;
    safe = λ m may e. e;
    rights = λ m may. set_other s.rights n m rights (other_file n m avoids may);
    lets = refl;
  }

  -- where what stands there stays, what may stand is what might before
  moved_may : (at : List ℕ → Option ℕ) (x : Option ℕ) → at p ≡ s.at p → (x ≡ at p) ⊎ ((x ≡ s.at p) ⊎ SomeOf (λ old. x ≡ old p) s.olds) → MayStand true s p x
  moved_may at x same (inl is) = inl (is ∙ same)
  moved_may at x same (inr before) = before

  pub spares-made : (q : List ℕ) (n : ℕ) → p ≢ q → IsFresh s n → Spares p s (made s q n)
  spares-made q n ne fresh =
      let same : put s.at q (Some n) p ≡ s.at p = put_other s.at q p (Some n) ne in
      let before : (x : Option ℕ) → MayStand true (made s q n) p x → MayStand true s p x = λ x may. moved_may (put s.at q (Some n)) x same may in
      record {
        at = same;
        may = before;
        bytes = λ m may. set_other s.bytes n m [] (other_file n m (fresh_avoids n fresh) (before (Some m) may));
        version = λ m may. refl;
        held = λ m may. set_other s.held n m false (other_file n m (fresh_avoids n fresh) (before (Some m) may));
        safe = λ m may e. set_other s.safe n m true (other_file n m (fresh_avoids n fresh) (before (Some m) may)) ∙ e;
        rights = λ m may. set_other s.rights n m (record (s.rights n) { mode = own_mode }) (other_file n m (fresh_avoids n fresh) (before (Some m) may));
        lets = refl;
      }

  pub avoids-made : (q : List ℕ) (n : ℕ) → p ≢ q → IsFresh s n → Avoids (made s q n) p n
  avoids-made q n ne fresh = avoids_still p s (made s q n) n (spares-made q n ne fresh) (fresh_avoids n fresh)

  pub spares-removed : (q : List ℕ) → p ≢ q → Spares p s (removed s q)
  spares-removed q ne = record {
    at = put_other s.at q p None ne;
    may = λ x may. moved_may (put s.at q None) x (put_other s.at q p None ne) may;
    bytes = λ m may. refl;
    version = λ m may. refl;
    held = λ m may. refl;
    safe = λ m may e. e;
    rights = λ m may. refl;
    lets = refl;
  }

  pub spares-renamed : (from to : List ℕ) → p ≢ from → p ≢ to → Spares p s (renamed s from to)
  spares-renamed from to ne_from ne_to =
      let same : put (put s.at from None) to (s.at from) p ≡ s.at p = put_other (put s.at from None) to p (s.at from) ne_to ∙ put_other s.at from p None ne_from in
      record {
        at = same;
        may = λ x may. moved_may (put (put s.at from None) to (s.at from)) x same may;
        bytes = λ m may. refl;
        version = λ m may. refl;
        held = λ m may. refl;
        safe = λ m may e. e;
        rights = λ m may. refl;
        lets = refl;
      }

  module _ (folder : List ℕ → List ℕ) (d : List ℕ) where
    synced_olds : (x : Option ℕ) (olds : List (List ℕ → Option ℕ)) → SomeOf (λ old. x ≡ old p) (map (kept_in folder s d) olds) → (x ≡ s.at p) ⊎ SomeOf (λ old. x ≡ old p) olds
    synced_olds x [] some = absurd some
    synced_olds x (old ∷ olds) (inl is) =
        cond_both (bytes_eq (folder p) d) (s.at p) (old p) (λ y. x ≡ y → (x ≡ s.at p) ⊎ SomeOf (λ old. x ≡ old p) (old ∷ olds)) (λ _. λ e. inl e) (λ _. λ e. inr (inl e)) is
    synced_olds x (old ∷ olds) (inr later) =
        elim (synced_olds x olds later) [
          | inl is ↦ inl is
          | inr some ↦ inr (inr some)
        ]

    synced_may : (x : Option ℕ) → MayStand true (folder_synced folder s d) p x → MayStand true s p x
    synced_may x (inl is) = inl is
    synced_may x (inr some) = synced_olds x s.olds some

    pub spares-folder_synced : Spares p s (folder_synced folder s d)
    spares-folder_synced =
        record { at = refl; may = synced_may; bytes = λ m may. refl; version = λ m may. refl; held = λ m may. refl; safe = λ m may e. e; rights = λ m may. refl; lets = refl }

-- ---- one file stands instead of another

module _ (crash : Bool) (s : State) where
  may_renamed : (crash : Bool) (from to : List ℕ) (x : Option ℕ) → MayStand crash (renamed s from to) to x → (x ≡ s.at from) ⊎ MayStand crash s to x
  may_renamed crash from to x (inl is) = inl (is ∙ put_same (put s.at from None) to to (s.at from) refl)
  may_renamed true from to x (inr before) = inr before
  may_renamed false from to x (inr none) = absurd none

  -- the bytes of no file change by a rename
  pub seen_renamed : (P : Option (List ℕ) → Type 0) (from to : List ℕ) (x : Option ℕ) → IsSeen crash P s x → IsSeen crash P (renamed s from to) x
  seen_renamed P from to None was = record { seen = was.seen; stays = tt }
  seen_renamed P from to (Some n) was = record { seen = was.seen; stays = was.stays }

  seen_either : (P Q : Option (List ℕ) → Type 0) (x : Option ℕ) → IsSeen crash P s x ⊎ IsSeen crash Q s x → IsSeen crash (λ y. P y ⊎ Q y) s x
  seen_either P Q x (inl is) = record { seen = inl is.seen; stays = is.stays }
  seen_either P Q x (inr is) = record { seen = inr is.seen; stays = is.stays }

  -- then either is seen
  pub outlasts-renamed : (P Q : Option (List ℕ) → Type 0) (from to : List ℕ) → Outlasts crash P s to → IsSeen crash Q s (s.at from) → Outlasts crash (λ y. P y ⊎ Q y) (renamed s from to) to
  outlasts-renamed P Q from to was new x may =
      seen_renamed (λ y. P y ⊎ Q y) from to x
      (elim (may_renamed crash from to x may) [
        | inl is ↦ seen_either P Q x (inr (subst (IsSeen crash Q s) (sym is) new))
        | inr before ↦ seen_either P Q x (inl (was x before))
      ])

-- and the new one stands there
pub seen_there : (crash : Bool) (s : State) (P : Option (List ℕ) → Type 0) (from to : List ℕ) → IsSeen crash P s (s.at from) → IsSeen crash P (renamed s from to) ((renamed s from to).at to)
seen_there crash s P from to new =
    subst (IsSeen crash P (renamed s from to)) (sym (put_same (put s.at from None) to to (s.at from) refl)) (seen_renamed crash s P from to (s.at from) new)

kept_true : (crash safe : Bool) → safe ≡ true → (if crash then safe else true) ≡ true
kept_true true safe e = e
kept_true false safe e = refl

-- a file that waits is seen
pub waits_seen : (crash : Bool) (s : State) (p bytes : List ℕ) (P : Option (List ℕ) → Type 0) → P (Some bytes) → Waits s p bytes → IsSeen crash P s (s.at p)
waits_seen crash s p bytes P holds waits =
    subst (IsSeen crash P s) (sym waits.at) (record {
      seen = subst (λ b. P (Some b)) (sym waits.is) holds;
      stays = kept_true crash (s.safe waits.n) waits.safe;
    })

-- ---- what stands at a place outlasts

-- a stop
pub outlasts_stop : (P : Option (List ℕ) → Type 0) (s : State) (p : List ℕ) → IsSeen false P s (s.at p) → Outlasts false P s p
outlasts_stop P s p now x (inl is) = subst (IsSeen false P s) (sym is) now
outlasts_stop P s p now x (inr none) = absurd none

module _ (folder : List ℕ → List ℕ) (s : State) (p : List ℕ) where
  only_now : (x : Option ℕ) (olds : List (List ℕ → Option ℕ)) → SomeOf (λ old. x ≡ old p) (map (kept_in folder s (folder p)) olds) → x ≡ s.at p
  only_now x [] some = absurd some
  only_now x (old ∷ olds) (inl is) = is ∙ cond-true (bytes_eq (folder p) (folder p)) (s.at p) (old p) (eq_bytes (folder p) (folder p) refl)
  only_now x (old ∷ olds) (inr later) = only_now x olds later

  pub may_synced : (crash : Bool) (x : Option ℕ) → MayStand crash (folder_synced folder s (folder p)) p x → x ≡ s.at p
  may_synced true x (inl is) = is
  may_synced false x (inl is) = is
  may_synced true x (inr some) = only_now x s.olds some
  may_synced false x (inr none) = absurd none

  seen_synced : (crash : Bool) (P : Option (List ℕ) → Type 0) (x : Option ℕ) → IsSeen crash P s x → IsSeen crash P (folder_synced folder s (folder p)) x
  seen_synced crash P None was = record { seen = was.seen; stays = tt }
  seen_synced crash P (Some n) was = record { seen = was.seen; stays = was.stays }

  -- a crash, once the folder is synced
  pub outlasts-folder_synced : (crash : Bool) (P : Option (List ℕ) → Type 0) → IsSeen crash P s (s.at p) → Outlasts crash P (folder_synced folder s (folder p)) p
  outlasts-folder_synced crash P now x may = seen_synced crash P x (subst (IsSeen crash P s) (sym (may_synced crash x may)) now)

-- ---- what is seen of what is left

seen_left : (crash : Bool) (P : Option (List ℕ) → Type 0) (s : State) (p : List ℕ) (left : Left) (x : Option ℕ) → left.at p ≡ x → LeavesAt crash s left p → IsSeen crash P s x
    → P (shown left.bytes x)
seen_left crash P s p left None stands leaves is = is.seen
seen_left crash P s p left (Some n) stands leaves is = subst (λ b. P (Some b)) (sym (leaves.bytes n stands is.stays)) is.seen

pub shows : (crash : Bool) (P : Option (List ℕ) → Type 0) (s : State) (p : List ℕ) (left : Left) → Outlasts crash P s p → LeavesAt crash s left p → P (shown left.bytes (left.at p))
shows crash P s p left was leaves = seen_left crash P s p left (left.at p) refl leaves (was (left.at p) leaves.at)

-- ---- what is spared

-- what may be left there might have been left before
pub leaves_spared : (crash : Bool) (p : List ℕ) (s t : State) (left : Left) → Spares p s t → LeavesAt crash t left p → LeavesAt crash s left p
leaves_spared crash p s t left spares leaves = record {
  at = may_before crash p s t (left.at p) spares leaves.at;
  bytes = λ n stands safe.
      let may = by_crash crash t p (Some n) (subst (MayStand crash t p) stands leaves.at) in
      leaves.bytes n stands (stays_safe crash p s t (Some n) spares may safe) ∙ spares.bytes n may;
}

-- ---- a file that was read is made to last

pub shown_spared : (p : List ℕ) (s t : State) → Spares p s t → shown t.bytes (t.at p) ≡ shown s.bytes (s.at p)
shown_spared p s t spares = sym (shown_same p s t (t.at p) spares (inl refl)) ∙ ap (shown s.bytes) spares.at

pub outlasts_so : (crash : Bool) (P Q : Option (List ℕ) → Type 0) (s : State) (p : List ℕ) → ((b : Option (List ℕ)) → P b → Q b) → Outlasts crash P s p → Outlasts crash Q s p
outlasts_so crash P Q s p so was x may = let is = was x may in record { seen = so (shown s.bytes x) is.seen; stays = is.stays }

pub settled_still : (crash : Bool) (p : List ℕ) (s t : State) → Spares p s t → IsSettled crash p s → IsSettled crash p t
settled_still crash p s t spares settled =
    outlasts_so crash (λ b. b ≡ shown s.bytes (s.at p)) (λ b. b ≡ shown t.bytes (t.at p)) t p (λ b is. is ∙ sym (shown_spared p s t spares))
    (outlasts_still crash (λ b. b ≡ shown s.bytes (s.at p)) p s t spares settled)

-- by a sync of the file and of its folder
pub settled-synced : (folder : List ℕ → List ℕ) (crash : Bool) (p : List ℕ) (s : State) → StaysSafe true s (s.at p) → IsSettled crash p (folder_synced folder s (folder p))
settled-synced folder crash p s safe = outlasts-folder_synced folder s p crash (λ y. y ≡ shown s.bytes (s.at p)) (record { seen = refl; stays = crash_safe crash s (s.at p) safe })

-- or of the file alone, where nothing crashes
pub settled_stop : (p : List ℕ) (s : State) → IsSettled false p s
settled_stop p s = outlasts_stop (λ y. y ≡ shown s.bytes (s.at p)) s p (record { seen = refl; stays = stop_safe s (s.at p) })
