-- Later turns stand without the edit where strands say.
use Rattle.std.proofs.Common.{◌≡◌, ◌≢◌, ◌∙◌, ℕ, ◌+◌, ◌-◌, ◌^◌, ◌<◌, ◌≤◌, true, false, leb, ◌&&◌, List, [], ◌∷◌, length, map, refl, sym, ap, ap₂, subst, length-append, arith}
use Rattle.std.specs.List.{AllByRecursion}
use Rattle.std.proofs.lemmas.Bool.{cond-true, cond-false, false≢true, le-leb, lt-leb}
use Rattle.rec_text.specs.Bytes.{is_nil}
use Rattle.rec_journal.specs.declared.patch.Hunk.{Hunk}
use Rattle.rec_diff.specs.declared.turn.Place.{Place}
use Rattle.rec_diff.specs.declared.turn.Turn.{Turn}
use Rattle.rec_diff.specs.Changes.{Stretch, stays, turns}
use Rattle.rec_diff.specs.Strands.{AreSettled, DontMeet, Strand, ahead_in, back_in, later, later_part, mine, mine_part, same, woven}
use Rattle.rec_diff.specs.proving.Moving.{AllCanMove, CanMove, Passing, moved_turn, passed, passed_turns, passing, turn_at, turns_ahead, turns_at}
use Rattle.rec_diff.specs.proving.Numbering.{IsReached}
use Rattle.rec_diff.proofs.lemmas.reverting.WeavingLemmas.{AreSome, backs_at, others_at, settled_tail}

-- later turns are moved to these
pub record GoAhead (others : List Turn) (p : Passing) (found : List Turn) : Type 0 where
  pub turns : turns_ahead others p ≡ found
  pub can : AllCanMove others p

-- ---- past a pair of turns, or not

go_past : (others : List Turn) (t u : Turn) (ts us : List Turn) (c b : Place) (found : List Turn) → IsReached others t.start.new → GoAhead others (passing ts us t.end u.end) found
    → GoAhead others (passing (t ∷ ts) (u ∷ us) c b) found
go_past [] t u ts us c b found after goes = record { turns = goes.turns; can = tt }
go_past (o ∷ others) t u ts us c b found after goes =
    let next : passed o (passing (t ∷ ts) (u ∷ us) c b) ≡ passed o (passing ts us t.end u.end) =
    cond-false (leb o.end.old t.start.new) (passing (t ∷ ts) (u ∷ us) c b) (passed_turns o ts us t.end u.end) after in
    record {
      turns = ap (λ p. moved_turn p o ∷ turns_ahead others p) next ∙ goes.turns;
      can = subst (λ p. CanMove p o × AllCanMove others p) (sym next) goes.can;
    }

-- the first turn begins at this place of the new text, or after it
abbrev StartsFrom : ℕ → List Turn → Type 0
StartsFrom least [] = Unit {0}
StartsFrom least (t ∷ ts) = least ≤ t.start.new

starts_from : (parts : List Stretch) (o n least : ℕ) → least ≤ n → StartsFrom least (turns_at o n parts)
starts_from [] o n least low = tt
starts_from (stays t ∷ parts) o n least low = starts_from parts (o + length t) (n + length t) least (omega (arith, low))
starts_from (turns a b ∷ parts) o n least low = low

stays_before : (o : Turn) (change back : List Turn) (c b : Place) → StartsFrom o.end.old change → passed o (passing change back c b) ≡ passing change back c b
stays_before o [] back c b far = refl
stays_before o (t ∷ ts) [] c b far = refl
stays_before o (t ∷ ts) (u ∷ us) c b far =
    cond-true (leb o.end.old t.start.new) (passing (t ∷ ts) (u ∷ us) c b) (passed_turns o ts us t.end u.end) (le-leb o.end.old t.start.new far)

go_on : (o : Turn) (others change back : List Turn) (c b : Place) (moved : Turn) (found : List Turn) → StartsFrom o.end.old change → moved_turn (passing change back c b) o ≡ moved
    → CanMove (passing change back c b) o → GoAhead others (passing change back c b) found → GoAhead (o ∷ others) (passing change back c b) (moved ∷ found)
go_on o others change back c b moved found far is can goes =
    let next = stays_before o change back c b far in
    record {
      turns = ap (λ p. moved_turn p o ∷ turns_ahead others p) next ∙ ap₂ (λ x xs. x ∷ xs) is goes.turns;
      can = subst (λ p. CanMove p o × AllCanMove others p) (sym next) (can, goes.can);
    }

-- ---- a later turn doesn't end before one of the edit's that comes before it

ends_after : (new old out come : List ℕ) (m at : ℕ) → m + length new ≤ at → (is_nil out && is_nil come) ≡ false
    → DontMeet (record { at = m; old = new; new = old }) (record { at = at; old = out; new = come }) → leb (at + length out) m ≡ false
ends_after (x ∷ xs) old out come m at low some settled = lt-leb (at + length out) m (omega (arith, low))
ends_after [] old (o ∷ os) come m at low some settled = lt-leb (at + length (o ∷ os)) m (omega (arith, low))
ends_after [] old [] [] m at low some settled = absurd (false≢true (sym some))
ends_after [] old [] (c ∷ cs) m at low some settled =
    let both = settled refl (λ (e : c ∷ cs ≡ []). cc) in
    let no : at ≢ m = both.0 in
    lt-leb (at + 0) m (omega (arith, no, low))

later_reached : (strands : List Strand) (new old : List ℕ) (m at h : ℕ) → m + length new ≤ at → AllByRecursion (DontMeet (record { at = m; old = new; new = old })) (others_at at strands)
    → AreSome (others_at at strands) → IsReached (turns_at at h (map (later_part true) strands)) m
later_reached [] new old m at h low settled some = tt
later_reached (same t ∷ strands) new old m at h low settled some =
    later_reached strands new old m (at + length t) (h + length t) (omega (arith, low)) settled some
later_reached (mine o n ∷ strands) new old m at h low settled some =
    later_reached strands new old m (at + length n) (h + length n) (omega (arith, low)) settled some
later_reached (later out come ∷ strands) new old m at h low settled some = ends_after new old out come m at low some.0 settled.0

-- ---- strands tell where

abbrev pub turns_before : List Strand → ℕ → ℕ → List Turn
turns_before strands f m = turns_at f m (map (mine_part false) strands)

pub strands_ahead : (strands : List Strand) (f m h l : ℕ) (c b : Place) → c.new ≤ m → c.old + (m - c.new) ≡ f → b.old ≤ h → b.new + (h - b.old) ≡ l
    → AreSettled (backs_at m strands) (others_at m strands) → AreSome (others_at m strands) → f + length (woven false false strands) < 2 ^ 64 → l + length (woven false true strands) < 2 ^ 64
    → GoAhead (turns_at m h (map (later_part true) strands)) (passing (turns_at f m (map (mine_part false) strands)) (turns_at h l (back_in strands)) c b) (turns_at f l (ahead_in strands))
strands_ahead [] f m h l c b low there low_here left settled some old new = record { turns = refl; can = tt }
strands_ahead (same t ∷ strands) f m h l c b low there low_here left settled some old new =
    strands_ahead strands (f + length t) (m + length t) (h + length t) (l + length t) c b (omega (arith, low)) (omega (arith, low, there)) (omega (arith, low_here))
    (omega (arith, low_here, left)) settled some (omega (arith, old, length-append t (woven false false strands))) (omega (arith, new, length-append t (woven false true strands)))
strands_ahead (mine out come ∷ strands) f m h l c b low there low_here left settled some old new =
    let t = turn_at f m (length out) (length come) in
    let u = turn_at h l (length come) (length out) in
    let rest = strands_ahead strands (f + length out) (m + length come) (h + length come) (l + length out) t.end u.end (omega arith) (omega arith) (omega arith) (omega arith) settled.1 some
    (omega (arith, old, length-append out (woven false false strands))) (omega (arith, new, length-append out (woven false true strands))) in
    go_past (turns_at (m + length come) (h + length come) (map (later_part true) strands)) t u (turns_at (f + length out) (m + length come) (map (mine_part false) strands))
    (turns_at (h + length come) (l + length out) (back_in strands)) c b (turns_at (f + length out) (l + length out) (ahead_in strands))
    (later_reached strands come out m (m + length come) (h + length come) (omega arith) settled.0 some) rest
strands_ahead (later out come ∷ strands) f m h l c b low there low_here left settled some old new =
    let o = turn_at m h (length out) (length come) in
    let others = turns_at (m + length out) (h + length come) (map (later_part true) strands) in
    let change = turns_at (f + length out) (m + length out) (map (mine_part false) strands) in
    let back = turns_at (h + length come) (l + length come) (back_in strands) in
    let kept = length-append out (woven false false strands) in
    let put = length-append come (woven false true strands) in
    let next : Hunk = record { at = m; old = out; new = come } in
    let goes : m + length out - m ≡ length out = omega arith in
    let comes : h + length come - h ≡ length come = omega arith in
    let moved : moved_turn (passing change back c b) o ≡ turn_at f l (length out) (length come) =
    ap₂ (λ x y. turn_at (c.old + (m - c.new)) (b.new + (h - b.old)) x y) goes comes ∙ ap₂ (λ x y. turn_at x y (length out) (length come)) there left in
    let can : CanMove (passing change back c b) o = record {
      change = low;
      back = low_here;
      order_old = omega arith;
      order_new = omega arith;
      old_fits = omega (arith, there, goes, old, kept);
      new_fits = omega (arith, left, comes, new, put);
    } in
    let rest = strands_ahead strands (f + length out) (m + length out) (h + length come) (l + length come) c b (omega (arith, low)) (omega (arith, low, there)) (omega (arith, low_here))
    (omega (arith, low_here, left)) (settled_tail (backs_at (m + length out) strands) next (others_at (m + length out) strands) settled) some.1
    (omega (arith, old, kept)) (omega (arith, new, put)) in
    go_on o others change back c b (turn_at f l (length out) (length come)) (turns_at (f + length out) (l + length come) (ahead_in strands))
    (starts_from (map (mine_part false) strands) (f + length out) (m + length out) (m + length out) (omega arith)) moved can rest
