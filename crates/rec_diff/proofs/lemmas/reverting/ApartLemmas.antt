-- Parts that are joined are apart, and so are their hunks.
use Rattle.std.proofs.Common.{◌≡◌, ℕ, ◌+◌, ◌≤◌, Bool, true, false, cond, ◌&&◌, List, [], ◌∷◌, length, map, refl, sym, subst, inl, inr, arith}
use Rattle.std.proofs.lemmas.Bool.{cases_Bool, false≢true}
use Rattle.rec_text.specs.Bytes.{is_nil}
use Rattle.rec_diff.specs.Changes.{Stretch, stays, turns, turned, hunks_at, put_stays, put_turns, joined}
use Rattle.rec_diff.specs.proving.Weaving.{AreSpaced}
use Rattle.rec_diff.proofs.lemmas.PartLemmas.{on_turns, some_turns, some-append}

-- no part is empty, and no turn follows another; the flag tells whether one came just before
abbrev pub AreApart : Bool → List Stretch → Type 0
AreApart after_turn [] = Unit {0}
AreApart after_turn (stays [] ∷ parts) = ⊥
AreApart after_turn (stays (b ∷ bs) ∷ parts) = AreApart false parts
AreApart true (turns old new ∷ parts) = ⊥
AreApart false (turns old new ∷ parts) = ((is_nil old && is_nil new) ≡ false) × AreApart true parts

put_stays_apart : (t : List ℕ) (parts : List Stretch) → AreApart false parts → AreApart false (put_stays t parts)
put_stays_apart [] parts apart = apart
put_stays_apart (b ∷ bs) [] apart = tt
put_stays_apart (b ∷ bs) (stays [] ∷ parts) apart = absurd apart
put_stays_apart (b ∷ bs) (stays (c ∷ cs) ∷ parts) apart = apart
put_stays_apart (b ∷ bs) (turns old new ∷ parts) apart = apart

on_turns_apart : (old new : List ℕ) (parts : List Stretch) → (is_nil old && is_nil new) ≡ false → AreApart false parts → AreApart false (on_turns old new parts)
on_turns_apart old new [] some apart = (some, tt)
on_turns_apart old new (stays [] ∷ parts) some apart = absurd apart
on_turns_apart old new (stays (c ∷ cs) ∷ parts) some apart = (some, apart)
on_turns_apart old new (turns o n ∷ parts) some apart = (some-append old new o n some, apart.1)

none_at_all : (old new : List ℕ) → (is_nil old && is_nil new) ≡ true → (old ≡ []) × (new ≡ [])
none_at_all [] [] none = (refl, refl)
none_at_all [] (n ∷ ns) none = absurd (false≢true none)
none_at_all (o ∷ os) new none = absurd (false≢true none)

put_turns_apart : (old new : List ℕ) (parts : List Stretch) → AreApart false parts → AreApart false (put_turns old new parts)
put_turns_apart old new parts apart = elim (cases_Bool (is_nil old && is_nil new)) [
  | inl none ↦
      let both = none_at_all old new none in
      subst (λ o. AreApart false (put_turns o new parts)) (sym both.0) (subst (λ n. AreApart false (put_turns [] n parts)) (sym both.1) apart)
  | inr some ↦ subst (AreApart false) (sym (some_turns old new parts some)) (on_turns_apart old new parts some apart)
]

pub joined_apart : (parts : List Stretch) → AreApart false (joined parts)
joined_apart [] = tt
joined_apart (stays t ∷ parts) = put_stays_apart t (joined parts) (joined_apart parts)
joined_apart (turns old new ∷ parts) = put_turns_apart old new (joined parts) (joined_apart parts)

some_turned : (old new : List ℕ) → (is_nil old && is_nil new) ≡ false → (is_nil new && is_nil old) ≡ false
some_turned [] [] some = some
some_turned [] (n ∷ ns) some = refl
some_turned (o ∷ os) [] some = refl
some_turned (o ∷ os) (n ∷ ns) some = refl

pub turned_apart : (after_turn : Bool) (parts : List Stretch) → AreApart after_turn parts → AreApart after_turn (map turned parts)
turned_apart after_turn [] apart = tt
turned_apart after_turn (stays [] ∷ parts) apart = absurd apart
turned_apart after_turn (stays (b ∷ bs) ∷ parts) apart = turned_apart false parts apart
turned_apart true (turns old new ∷ parts) apart = absurd apart
turned_apart false (turns old new ∷ parts) apart = (some_turned old new apart.0, turned_apart true parts apart.1)

-- their hunks stand apart, and each is of something
pub spaced : (after_turn : Bool) (least at : ℕ) (parts : List Stretch) → least ≤ at + cond after_turn 1 0 → AreApart after_turn parts → AreSpaced least (hunks_at at parts)
spaced after_turn least at [] far apart = tt
spaced after_turn least at (stays [] ∷ parts) far apart = absurd apart
spaced true least at (stays (b ∷ bs) ∷ parts) far apart = spaced false least (at + length (b ∷ bs)) parts (omega arith) apart
spaced false least at (stays (b ∷ bs) ∷ parts) far apart = spaced false least (at + length (b ∷ bs)) parts (omega arith) apart
spaced true least at (turns old new ∷ parts) far apart = absurd apart
spaced false least at (turns old new ∷ parts) far apart =
    (omega arith, apart.0, spaced true (at + length old + 1) (at + length old) parts (omega arith) apart.1)
