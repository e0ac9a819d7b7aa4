-- The turns of parts are those by their places.
use Rattle.std.proofs.Common.{◌≡◌, ◌∙◌, ℕ, ◌+◌, ◌-◌, ◌^◌, ◌<◌, ◌≤◌, List, [], ◌∷◌, ◌++◌, length, map, take, drop, refl, sym, ap, ap₂, subst, drop-drop, length-append, arith}
use Rattle.std.specs.List.{between}
use Rattle.std.proofs.lemmas.List.{take_at, drop_at}
use Rattle.std.proofs.lemmas.List.Edits.{length-between}
use Rattle.rec_journal.specs.declared.patch.Hunk.{Hunk}
use Rattle.rec_diff.specs.declared.turn.Place.{Place}
use Rattle.rec_diff.specs.declared.turn.Turn.{Turn}
use Rattle.rec_diff.specs.Changes.{Stretch, stays, turns, turned, before_of, after_of, hunks_at}
use Rattle.rec_diff.specs.Making.{AreAlike}
use Rattle.rec_diff.specs.Strands.{hunks_back}
use Rattle.rec_diff.specs.proving.Moving.{AreTurnable, turn_after, turn_at, turns_after, turns_at}
use Rattle.rec_diff.specs.proving.Reading.{AreTurnsOf}
use Rattle.rec_diff.specs.proving.Turns.{AreIn}
use Rattle.rec_diff.specs.proving.Weaving.{AreInStep, at_start, hunk_on, turn_turned}
use Rattle.rec_diff.proofs.lemmas.PlaceLemmas.{between_from}

abbrev pub head_at : List Hunk → ℕ
head_at [] = 0
head_at (h ∷ hunks) = h.at

abbrev pub head_old : List Hunk → List ℕ
head_old [] = []
head_old (h ∷ hunks) = h.old

abbrev pub head_new : List Hunk → List ℕ
head_new [] = []
head_new (h ∷ hunks) = h.new

abbrev pub rest_of : List Hunk → List Hunk
rest_of [] = []
rest_of (h ∷ hunks) = hunks

-- ---- turns of parts have their places

turn_is : (t : Turn) (old new goes comes : ℕ) → t.start.old ≡ old → t.start.new ≡ new → t.end.old ≡ old + goes → t.end.new ≡ new + comes → t ≡ turn_at old new goes comes
turn_is t old new goes comes a b c d =
    let first : t.start ≡ record { old = old; new = new } = ap₂ (λ (x y : ℕ). let p : Place = record { old = x; new = y } in p) a b in
    let last : t.end ≡ record { old = old + goes; new = new + comes } = ap₂ (λ (x y : ℕ). let p : Place = record { old = x; new = y } in p) c d in
    ap₂ (λ (x y : Place). let u : Turn = record { start = x; end = y } in u) first last

module _ (f g : List ℕ) (last : Place) where
  turns_have : (parts : List Stretch) (o n : ℕ) (place : Place) (ts : List Turn) → AreIn f g place.old place.new ts → AreInStep last place ts → place.old ≤ o → place.new + (o - place.old) ≡ n
      → hunks_at o parts ≡ map (hunk_on f g) ts → ts ≡ turns_at o n parts
  turns_have [] o n place [] are step low at hunks = refl
  turns_have [] o n place (t ∷ ts) are step low at hunks = absurd (let e : [] ≡ hunk_on f g t ∷ map (hunk_on f g) ts = hunks in cc)
  turns_have (stays u ∷ parts) o n place ts are step low at hunks =
      turns_have parts (o + length u) (n + length u) place ts are step (omega (arith, low)) (omega (arith, low, at)) hunks
  turns_have (turns a b ∷ parts) o n place [] are step low at hunks =
      absurd (let e : record { at = o; old = a; new = b } ∷ hunks_at (o + length a) parts ≡ [] = hunks in cc)
  turns_have (turns a b ∷ parts) o n place (t ∷ ts) are step low at hunks =
      let is = are.0 in
      let order = is.order_old in
      let order_new = is.order_new in
      let instep = step.1 in
      let begins : o ≡ t.start.old = ap head_at hunks in
      let count : length a ≡ t.end.old - t.start.old = ap (λ hs. length (head_old hs)) hunks ∙ length-between f t.start.old t.end.old is.end_old in
      let more : length b ≡ t.end.new - t.start.new = ap (λ hs. length (head_new hs)) hunks ∙ length-between g t.start.new t.end.new is.end_new in
      let there : t.start.new ≡ n = omega (arith, begins, instep, at) in
      let one = turn_is t o n (length a) (length b) (sym begins) there (omega (arith, begins, count, order)) (omega (arith, there, more, order_new)) in
      let rest = turns_have parts (o + length a) (n + length b) t.end ts are.1 step.4 (omega (arith, begins, count, order))
      (omega (arith, begins, count, order, there, more, order_new)) (ap rest_of hunks) in
      ap₂ (λ x xs. x ∷ xs) one rest

pub turns_are : (parts : List Stretch) (before after : List ℕ) (ts : List Turn) → AreTurnsOf parts before after ts → ts ≡ turns_at 0 0 parts
turns_are parts before after ts are =
    turns_have before after (record { old = length before; new = length after }) parts 0 0 at_start ts are.order are.in_step (omega arith) refl are.hunks

-- ---- and those with these places are turns of the parts

part_at : (o : ℕ) (a rest f : List ℕ) → drop o f ≡ a ++ rest → between o (o + length a) f ≡ a
part_at o a rest f is = between_from o (length a) f ∙ ap (take (length a)) is ∙ take_at a rest (length a) refl

rest_at : (o : ℕ) (a rest f : List ℕ) → drop o f ≡ a ++ rest → drop (o + length a) f ≡ rest
rest_at o a rest f is = sym (drop-drop (length a) o f) ∙ ap (drop (length a)) is ∙ drop_at a rest (length a) refl

module _ (f g : List ℕ) where
  places_hunks : (parts : List Stretch) (o n : ℕ) → drop o f ≡ before_of parts → drop n g ≡ after_of parts → hunks_at o parts ≡ map (hunk_on f g) (turns_at o n parts)
  places_hunks [] o n old new = refl
  places_hunks (stays t ∷ parts) o n old new =
      places_hunks parts (o + length t) (n + length t) (rest_at o t (before_of parts) f old) (rest_at n t (after_of parts) g new)
  places_hunks (turns a b ∷ parts) o n old new =
      ap₂ (λ x y. record { at = o; old = x; new = y } ∷ hunks_at (o + length a) parts) (sym (part_at o a (before_of parts) f old)) (sym (part_at n b (after_of parts) g new))
      ∙ ap (hunk_on f g (turn_at o n (length a) (length b)) ∷◌)
      (places_hunks parts (o + length a) (n + length b) (rest_at o a (before_of parts) f old) (rest_at n b (after_of parts) g new))

  places_in : (parts : List Stretch) (o n p q : ℕ) → p ≤ o → q ≤ n → o + length (before_of parts) ≡ length f → n + length (after_of parts) ≡ length g → AreIn f g p q (turns_at o n parts)
  places_in [] o n p q low low_new old new = tt
  places_in (stays t ∷ parts) o n p q low low_new old new =
      places_in parts (o + length t) (n + length t) p q (omega (arith, low)) (omega (arith, low_new)) (omega (arith, old, length-append t (before_of parts)))
      (omega (arith, new, length-append t (after_of parts)))
  places_in (turns a b ∷ parts) o n p q low low_new old new =
      let m = length-append a (before_of parts) in
      let k = length-append b (after_of parts) in (
        record {
          start_old = low;
          order_old = omega arith;
          end_old = omega (arith, old, m);
          start_new = low_new;
          order_new = omega arith;
          end_new = omega (arith, new, k);
        },
        places_in parts (o + length a) (n + length b) (o + length a) (n + length b) (omega arith) (omega arith) (omega (arith, old, m)) (omega (arith, new, k)),
      )

places_in_step : (last : Place) (parts : List Stretch) (o n : ℕ) (place : Place) → place.old ≤ o → n ≡ place.new + (o - place.old) → o + length (before_of parts) ≡ last.old
    → n + length (after_of parts) ≡ last.new → AreInStep last place (turns_at o n parts)
places_in_step last [] o n place low at old new = (omega (arith, low, old), omega (arith, low, at, old, new))
places_in_step last (stays t ∷ parts) o n place low at old new =
    places_in_step last parts (o + length t) (n + length t) place (omega (arith, low)) (omega (arith, low, at)) (omega (arith, old, length-append t (before_of parts)))
    (omega (arith, new, length-append t (after_of parts)))
places_in_step last (turns a b ∷ parts) o n place low at old new = (
  low,
  at,
  omega arith,
  omega arith,
  places_in_step last parts (o + length a) (n + length b) (record { old = o + length a; new = n + length b }) (omega arith) (omega arith)
      (omega (arith, old, length-append a (before_of parts))) (omega (arith, new, length-append b (after_of parts))),
)

pub are_turns : (parts : List Stretch) (before after : List ℕ) (ts : List Turn) → before_of parts ≡ before → after_of parts ≡ after → ts ≡ turns_at 0 0 parts → AreTurnsOf parts before after ts
are_turns parts before after ts from to is =
    let e : length (before_of parts) ≡ length before = ap length from in
    let f : length (after_of parts) ≡ length after = ap length to in
    record {
      from = from;
      to = to;
      hunks = places_hunks before after parts 0 0 (sym from) (sym to) ∙ ap (map (hunk_on before after)) (sym is);
      order = subst (AreIn before after 0 0) (sym is) (places_in before after parts 0 0 0 0 (omega arith) (omega arith) (omega (arith, e)) (omega (arith, f)));
      in_step = subst (AreInStep (record { old = length before; new = length after }) at_start) (sym is)
          (places_in_step (record { old = length before; new = length after }) parts 0 0 at_start (omega arith) refl (omega (arith, e)) (omega (arith, f)));
    }

-- two of the same turns are alike
pub turns_alike : (parts others : List Stretch) (before after : List ℕ) (ts us : List Turn) → ts ≡ us → AreTurnsOf parts before after ts → AreTurnsOf others before after us → AreAlike parts others
turns_alike parts others before after ts us same are also = record {
  turns = are.hunks ∙ ap (map (hunk_on before after)) same ∙ sym also.hunks;
  text = are.from ∙ sym also.from;
}

-- ---- the turns that hunks are

after_place : (parts : List Stretch) (o n : ℕ) (place : Place) → place.old ≤ o → place.new + (o - place.old) ≡ n → turns_after place (hunks_at o parts) ≡ turns_at o n parts
after_place [] o n place low at = refl
after_place (stays t ∷ parts) o n place low at = after_place parts (o + length t) (n + length t) place (omega (arith, low)) (omega (arith, low, at))
after_place (turns a b ∷ parts) o n place low at =
    ap (λ k. turn_at o k (length a) (length b) ∷ turns_after (record { old = o + length a; new = k + length b }) (hunks_at (o + length a) parts)) at
    ∙ ap (turn_at o n (length a) (length b) ∷◌)
    (after_place parts (o + length a) (n + length b) (record { old = o + length a; new = n + length b }) (omega arith) (omega arith))

-- hunks of parts are their turns
pub turns_of_hunks : (parts : List Stretch) (hunks : List Hunk) → hunks_at 0 parts ≡ hunks → turns_after at_start hunks ≡ turns_at 0 0 parts
turns_of_hunks parts hunks is = ap (turns_after at_start) (sym is) ∙ after_place parts 0 0 at_start (omega arith) refl

turnable : (parts : List Stretch) (o n : ℕ) (place : Place) → place.old ≤ o → place.new + (o - place.old) ≡ n → o + length (before_of parts) < 2 ^ 64 → n + length (after_of parts) < 2 ^ 64
    → AreTurnable place (hunks_at o parts)
turnable [] o n place low at old new = tt
turnable (stays t ∷ parts) o n place low at old new =
    turnable parts (o + length t) (n + length t) place (omega (arith, low)) (omega (arith, low, at)) (omega (arith, old, length-append t (before_of parts)))
    (omega (arith, new, length-append t (after_of parts)))
turnable (turns a b ∷ parts) o n place low at old new =
    let m = length-append a (before_of parts) in
    let k = length-append b (after_of parts) in (
      low,
      omega (arith, old, m),
      omega (arith, at, new, k),
      turnable parts (o + length a) (n + length b) (turn_after place o (length a) (length b)).end (omega arith) (omega (arith, at)) (omega (arith, old, m)) (omega (arith, new, k)),
    )

pub turnable_hunks : (parts : List Stretch) (hunks : List Hunk) → hunks_at 0 parts ≡ hunks → length (before_of parts) < 2 ^ 64 → length (after_of parts) < 2 ^ 64 → AreTurnable at_start hunks
turnable_hunks parts hunks is old new = subst (AreTurnable at_start) is (turnable parts 0 0 at_start (omega arith) refl (omega (arith, old)) (omega (arith, new)))

-- ---- turned

pub places_turned : (parts : List Stretch) (o n : ℕ) → map turn_turned (turns_at o n parts) ≡ turns_at n o (map turned parts)
places_turned [] o n = refl
places_turned (stays t ∷ parts) o n = places_turned parts (o + length t) (n + length t)
places_turned (turns a b ∷ parts) o n = ap (turn_at n o (length b) (length a) ∷◌) (places_turned parts (o + length a) (n + length b))

turned_twice : (ts : List Turn) → map turn_turned (map turn_turned ts) ≡ ts
turned_twice [] = refl
turned_twice (t ∷ ts) = ap (t ∷◌) (turned_twice ts)

-- parts that the same hunks take back have the same turns
pub same_back : (parts others : List Stretch) → hunks_back parts ≡ hunks_back others → turns_at 0 0 parts ≡ turns_at 0 0 others
same_back parts others same =
    let back : turns_at 0 0 (map turned parts) ≡ turns_at 0 0 (map turned others) =
    sym (turns_of_hunks (map turned parts) (hunks_back parts) refl) ∙ ap (turns_after at_start) same ∙ turns_of_hunks (map turned others) (hunks_back others) refl in
    let twice : map turn_turned (turns_at 0 0 parts) ≡ map turn_turned (turns_at 0 0 others) = places_turned parts 0 0 ∙ back ∙ sym (places_turned others 0 0) in
    sym (turned_twice (turns_at 0 0 parts)) ∙ ap (map turn_turned) twice ∙ turned_twice (turns_at 0 0 others)
