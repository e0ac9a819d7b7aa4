-- Turns and parts, the other way.
use Rattle.std.proofs.Common.{◌≡◌, ◌∙◌, ℕ, ◌+◌, List, [], ◌∷◌, ◌++◌, length, map, refl, sym, ap, subst, arith}
use Rattle.std.proofs.lemmas.List.{map-append}
use Rattle.rec_journal.specs.Patch.{Splices}
use Rattle.rec_journal.proofs.lemmas.patches.SplicingLemmas.{leads_to_one_text}
use Rattle.rec_diff.specs.declared.turn.Turn.{Turn}
use Rattle.rec_diff.specs.Changes.{Stretch, stays, turns, turned, before_of, after_of, hunks_at}
use Rattle.rec_diff.specs.Making.{AreAlike, IsSame}
use Rattle.rec_diff.specs.Placed.{Placed}
use Rattle.rec_diff.specs.proving.Reading.{AreTurnsOf}
use Rattle.rec_diff.specs.proving.Weaving.{turn_turned}
use Rattle.rec_diff.proofs.lemmas.ChangeLemmas.{hunks_splice}
use Rattle.rec_diff.proofs.lemmas.reverting.MovingLemmas.{are_turns, head_at, head_new, head_old, places_turned, rest_of, turns_are}
use Rattle.rec_diff.proofs.lemmas.reverting.RevertLemmas.{after_of-turned, before_of-turned}

pub turned-turned : (parts : List Stretch) → map turned (map turned parts) ≡ parts
turned-turned [] = refl
turned-turned (stays t ∷ parts) = ap (stays t ∷◌) (turned-turned parts)
turned-turned (turns old new ∷ parts) = ap (turns old new ∷◌) (turned-turned parts)

-- ---- parts with the same turns of the same text, turned

no_hunks : (q : List Stretch) (m k : ℕ) → [] ≡ hunks_at m q → [] ≡ hunks_at k (map turned q)
no_hunks [] m k none = refl
no_hunks (stays t ∷ q) m k none = no_hunks q (m + length t) (k + length t) none
no_hunks (turns old new ∷ q) m k none = absurd (let e : [] ≡ record { at = m; old = old; new = new } ∷ hunks_at (m + length old) q = none in cc)

pub turned_hunks : (p q : List Stretch) (o n m k : ℕ) → n + m ≡ k + o → hunks_at o p ≡ hunks_at m q → hunks_at n (map turned p) ≡ hunks_at k (map turned q)
turned_hunks [] q o n m k apart same = no_hunks q m k same
turned_hunks (stays t ∷ p) q o n m k apart same = turned_hunks p q (o + length t) (n + length t) m k (omega (arith, apart)) same
turned_hunks (turns a b ∷ p) [] o n m k apart same = absurd (let e : record { at = o; old = a; new = b } ∷ hunks_at (o + length a) p ≡ [] = same in cc)
turned_hunks (turns a b ∷ p) (stays u ∷ q) o n m k apart same = turned_hunks (turns a b ∷ p) q o n (m + length u) (k + length u) (omega (arith, apart)) same
turned_hunks (turns a b ∷ p) (turns c d ∷ q) o n m k apart same =
    let at : o ≡ m = ap head_at same in
    let olds : a ≡ c = ap head_old same in
    let news : b ≡ d = ap head_new same in
    let count : length a ≡ length c = ap length olds in
    let more : length b ≡ length d = ap length news in
    let there : n ≡ k = omega (arith, apart, at) in
    let rest = turned_hunks p q (o + length a) (n + length b) (m + length c) (k + length d) (omega (arith, apart, at, count, more)) (ap rest_of same) in
    ap (λ x. record { at = x; old = b; new = a } ∷ hunks_at (n + length b) (map turned p)) there
    ∙ ap (λ x. record { at = k; old = x; new = a } ∷ hunks_at (n + length b) (map turned p)) news
    ∙ ap (λ x. record { at = k; old = d; new = x } ∷ hunks_at (n + length b) (map turned p)) olds
    ∙ ap (record { at = k; old = d; new = c } ∷◌) rest

pub alike_after : (p q : List Stretch) → AreAlike p q → after_of p ≡ after_of q
alike_after p q a =
    leads_to_one_text.forward (hunks_at 0 p) (before_of p) (after_of p) (after_of q) (hunks_splice p)
    (subst (λ hs. Splices hs (before_of p) (after_of q)) (sym a.turns) (subst (λ t. Splices (hunks_at 0 q) t (after_of q)) (sym a.text) (hunks_splice q)))

pub turned_alike : (p q : List Stretch) → AreAlike p q → AreAlike (map turned p) (map turned q)
turned_alike p q a = record {
  turns = turned_hunks p q 0 0 0 0 refl a.turns;
  text = before_of-turned p ∙ alike_after p q a ∙ sym (before_of-turned q);
}

-- ---- an element is the same, either way

pub same_turned : (parts : List Stretch) (x y : Placed) → IsSame parts x y → IsSame (map turned parts) y x
same_turned parts x y same =
    let cut : AreAlike (map turned (same.first ++ stays x.piece.bytes ∷ same.last)) (map turned parts) =
    turned_alike (same.first ++ stays x.piece.bytes ∷ same.last) parts same.cut in
    let cut_is : map turned (same.first ++ stays x.piece.bytes ∷ same.last) ≡ map turned same.first ++ stays y.piece.bytes ∷ map turned same.last =
    map-append turned same.first (stays x.piece.bytes ∷ same.last) ∙ ap (λ p. map turned same.first ++ stays p.bytes ∷ map turned same.last) same.piece in
    record {
      piece = sym same.piece;
      first = map turned same.first;
      last = map turned same.last;
      cut = subst (λ ps. AreAlike ps (map turned parts)) cut_is cut;
      old_at = ap length (before_of-turned same.first) ∙ same.new_at;
      new_at = ap length (after_of-turned same.first) ∙ same.old_at;
    }

pub turned_same : (parts : List Stretch) (x y : Placed) → IsSame (map turned parts) y x → IsSame parts x y
turned_same parts x y same = subst (λ ps. IsSame ps x y) (turned-turned parts) (same_turned (map turned parts) y x same)

-- ---- turns

-- turns, turned, are those of the parts, turned
pub turns_turned : (parts : List Stretch) (before after : List ℕ) (ts : List Turn) → AreTurnsOf parts before after ts → AreTurnsOf (map turned parts) after before (map turn_turned ts)
turns_turned parts before after ts are =
    are_turns (map turned parts) after before (map turn_turned ts) (before_of-turned parts ∙ are.to) (after_of-turned parts ∙ are.from)
    (ap (map turn_turned) (turns_are parts before after ts are) ∙ places_turned parts 0 0)
