-- Parts that are put before others, and where their turns stand.
use Rattle.std.proofs.Common.{◌≡◌, ◌∙◌, ℕ, ◌-◌, true, false, ◌&&◌, List, [], ◌∷◌, ◌++◌, length, take, drop, refl, sym, ap, ap₂, append_assoc, append-nil}
use Rattle.std.specs.List.{flat_map}
use Rattle.std.specs.Str.{bytes_eq}
use Rattle.std.proofs.lemmas.Bool.{cond-true, cond-false, false≢true}
use Rattle.std.proofs.lemmas.List.{take-append-drop}
use Rattle.rec_text.specs.Bytes.{is_nil}
use Rattle.rec_diff.specs.Changes.{Stretch, stays, turns, put_stays, put_turns, joined}
use Rattle.rec_diff.specs.WholeLines.{closed, trimmed, same_start, same_end}
use Rattle.rec_diff.specs.proving.Turns.{site_if, sites, sites_from, turn_sites}
use Rattle.rec_diff.proofs.lemmas.ShareLemmas.{starts_share, ends_share, start_same, end_same}

-- ---- one part after another

pub put_stays-put_stays : (a b : List ℕ) (cs : List Stretch) → put_stays a (put_stays b cs) ≡ put_stays (a ++ b) cs
put_stays-put_stays [] b cs = refl
put_stays-put_stays (x ∷ xs) [] cs = ap (λ t. put_stays t cs) (sym (append-nil (x ∷ xs)))
put_stays-put_stays (x ∷ xs) (y ∷ ys) [] = refl
put_stays-put_stays (x ∷ xs) (y ∷ ys) (stays u ∷ cs) = ap (λ t. stays (x ∷ t) ∷ cs) (sym (append_assoc xs (y ∷ ys) u))
put_stays-put_stays (x ∷ xs) (y ∷ ys) (turns o n ∷ cs) = refl

-- what turns, before other parts
abbrev pub on_turns : List ℕ → List ℕ → List Stretch → List Stretch
on_turns a b [] = turns a b ∷ []
on_turns a b (stays u ∷ cs) = turns a b ∷ stays u ∷ cs
on_turns a b (turns o n ∷ cs) = turns (a ++ o) (b ++ n) ∷ cs

pub some_turns : (a b : List ℕ) (cs : List Stretch) → (is_nil a && is_nil b) ≡ false → put_turns a b cs ≡ on_turns a b cs
some_turns [] [] cs some = absurd (false≢true (sym some))
some_turns [] (y ∷ ys) [] some = refl
some_turns [] (y ∷ ys) (stays u ∷ cs) some = refl
some_turns [] (y ∷ ys) (turns o n ∷ cs) some = refl
some_turns (x ∷ xs) b [] some = refl
some_turns (x ∷ xs) b (stays u ∷ cs) some = refl
some_turns (x ∷ xs) b (turns o n ∷ cs) some = refl

on_turns-on_turns : (a b o n : List ℕ) (cs : List Stretch) → on_turns a b (on_turns o n cs) ≡ on_turns (a ++ o) (b ++ n) cs
on_turns-on_turns a b o n [] = refl
on_turns-on_turns a b o n (stays u ∷ cs) = refl
on_turns-on_turns a b o n (turns p q ∷ cs) = ap₂ (λ x y. turns x y ∷ cs) (sym (append_assoc a o p)) (sym (append_assoc b n q))

pub some-append : (a b o n : List ℕ) → (is_nil a && is_nil b) ≡ false → (is_nil (a ++ o) && is_nil (b ++ n)) ≡ false
some-append [] [] o n some = absurd (false≢true (sym some))
some-append [] (y ∷ ys) [] n some = refl
some-append [] (y ∷ ys) (z ∷ zs) n some = refl
some-append (x ∷ xs) b o n some = refl

pub put_turns-put_turns : (a b o n : List ℕ) (cs : List Stretch) → put_turns a b (put_turns o n cs) ≡ put_turns (a ++ o) (b ++ n) cs
put_turns-put_turns [] [] o n cs = refl
put_turns-put_turns [] (y ∷ ys) [] [] cs = ap (λ t. put_turns [] t cs) (sym (append-nil (y ∷ ys)))
put_turns-put_turns [] (y ∷ ys) [] (z ∷ zs) cs =
    some_turns [] (y ∷ ys) (put_turns [] (z ∷ zs) cs) refl ∙ ap (on_turns [] (y ∷ ys)) (some_turns [] (z ∷ zs) cs refl)
    ∙ on_turns-on_turns [] (y ∷ ys) [] (z ∷ zs) cs ∙ sym (some_turns [] (y ∷ (ys ++ z ∷ zs)) cs refl)
put_turns-put_turns [] (y ∷ ys) (z ∷ zs) n cs =
    some_turns [] (y ∷ ys) (put_turns (z ∷ zs) n cs) refl ∙ ap (on_turns [] (y ∷ ys)) (some_turns (z ∷ zs) n cs refl)
    ∙ on_turns-on_turns [] (y ∷ ys) (z ∷ zs) n cs ∙ sym (some_turns (z ∷ zs) (y ∷ (ys ++ n)) cs refl)
put_turns-put_turns (x ∷ xs) b [] [] cs = ap₂ (λ s t. put_turns s t cs) (sym (append-nil (x ∷ xs))) (sym (append-nil b))
put_turns-put_turns (x ∷ xs) b [] (z ∷ zs) cs =
    some_turns (x ∷ xs) b (put_turns [] (z ∷ zs) cs) refl ∙ ap (on_turns (x ∷ xs) b) (some_turns [] (z ∷ zs) cs refl)
    ∙ on_turns-on_turns (x ∷ xs) b [] (z ∷ zs) cs ∙ sym (some_turns ((x ∷ xs) ++ []) (b ++ z ∷ zs) cs refl)
put_turns-put_turns (x ∷ xs) b (z ∷ zs) n cs =
    some_turns (x ∷ xs) b (put_turns (z ∷ zs) n cs) refl ∙ ap (on_turns (x ∷ xs) b) (some_turns (z ∷ zs) n cs refl)
    ∙ on_turns-on_turns (x ∷ xs) b (z ∷ zs) n cs ∙ sym (some_turns ((x ∷ xs) ++ z ∷ zs) (b ++ n) cs refl)

-- ---- the places of turns

pub sites-put_stays : (f g t : List ℕ) (cs : List Stretch) → sites f g (put_stays t cs) ≡ sites (f ++ t) (g ++ t) cs
sites-put_stays f g [] cs = ap₂ (λ x y. sites x y cs) (sym (append-nil f)) (sym (append-nil g))
sites-put_stays f g (b ∷ bs) [] = refl
sites-put_stays f g (b ∷ bs) (stays u ∷ cs) = ap₂ (λ x y. sites x y cs) (sym (append_assoc f (b ∷ bs) u)) (sym (append_assoc g (b ∷ bs) u))
sites-put_stays f g (b ∷ bs) (turns o n ∷ cs) = refl

-- no turn comes first
abbrev pub NotTurns : List Stretch → Type 0
NotTurns [] = Unit {0}
NotTurns (stays u ∷ cs) = Unit {0}
NotTurns (turns o n ∷ cs) = ⊥

pub NotTurns-put_stays : (t : List ℕ) (cs : List Stretch) → NotTurns cs → NotTurns (put_stays t cs)
NotTurns-put_stays [] cs h = h
NotTurns-put_stays (b ∷ bs) [] h = tt
NotTurns-put_stays (b ∷ bs) (stays u ∷ cs) h = tt
NotTurns-put_stays (b ∷ bs) (turns o n ∷ cs) h = tt

pub stays_first : (b : ℕ) (bs : List ℕ) (cs : List Stretch) → NotTurns (put_stays (b ∷ bs) cs)
stays_first b bs [] = tt
stays_first b bs (stays u ∷ cs) = tt
stays_first b bs (turns o n ∷ cs) = tt

sites-put_turns : (f g o n : List ℕ) (cs : List Stretch) → NotTurns cs → sites f g (put_turns o n cs) ≡ site_if f g o n ++ sites (f ++ o) (g ++ n) cs
sites-put_turns f g [] [] cs h = ap₂ (λ x y. sites x y cs) (sym (append-nil f)) (sym (append-nil g))
sites-put_turns f g [] (y ∷ ys) [] h = refl
sites-put_turns f g [] (y ∷ ys) (stays u ∷ cs) h = refl
sites-put_turns f g (x ∷ xs) n [] h = refl
sites-put_turns f g (x ∷ xs) n (stays u ∷ cs) h = refl
sites-put_turns f g [] (y ∷ ys) (turns p q ∷ cs) h = absurd h
sites-put_turns f g (x ∷ xs) n (turns p q ∷ cs) h = absurd h

pub sites_from-put_stays : (f g t : List ℕ) (cs : List Stretch) → sites_from f g (put_stays t cs) ≡ sites_from (f ++ t) (g ++ t) cs
sites_from-put_stays f g [] cs = ap₂ (λ x y. sites_from x y cs) (sym (append-nil f)) (sym (append-nil g))
sites_from-put_stays f g (b ∷ bs) [] = refl
sites_from-put_stays f g (b ∷ bs) (stays u ∷ cs) =
    let later = joined (flat_map trimmed cs) in
    sites-put_stays f g (b ∷ bs ++ u) later
    ∙ ap₂ (λ x y. sites x y later) (sym (append_assoc f (b ∷ bs) u)) (sym (append_assoc g (b ∷ bs) u))
    ∙ sym (sites-put_stays (f ++ b ∷ bs) (g ++ b ∷ bs) u later)
sites_from-put_stays f g (b ∷ bs) (turns o n ∷ cs) = sites-put_stays f g (b ∷ bs) (joined (flat_map trimmed (turns o n ∷ cs)))

-- a turn between what stays of it
around : (f g a o n b : List ℕ) (cs : List Stretch) → NotTurns cs
    → sites f g (put_stays a (put_turns o n (put_stays b cs))) ≡ site_if (f ++ a) (g ++ a) o n ++ sites (f ++ (a ++ (o ++ b))) (g ++ (a ++ (n ++ b))) cs
around f g a o n b cs h =
    let four : (s t u w : List ℕ) → ((s ++ t) ++ u) ++ w ≡ s ++ (t ++ (u ++ w)) = λ s t u w. append_assoc (s ++ t) u w ∙ append_assoc s t (u ++ w) in
    sites-put_stays f g a (put_turns o n (put_stays b cs))
    ∙ sites-put_turns (f ++ a) (g ++ a) o n (put_stays b cs) (NotTurns-put_stays b cs h)
    ∙ ap (site_if (f ++ a) (g ++ a) o n ++◌)
    (sites-put_stays ((f ++ a) ++ o) ((g ++ a) ++ n) b cs ∙ ap₂ (λ x y. sites x y cs) (four f a o b) (four g a n b))

-- the parts of a turn: what stays at its start, what goes and what comes, and what stays at its end
module _ (o n : List ℕ) where
  abbrev pub first : ℕ
  first = same_start o n

  abbrev pub last : ℕ
  last = same_end (drop first o) (drop first n)

  abbrev pub gone : List ℕ
  gone = take (length (drop first o) - last) (drop first o)

  abbrev pub come : List ℕ
  come = take (length (drop first n) - last) (drop first n)

  abbrev end_part : List ℕ
  end_part = drop (length (drop first o) - last) (drop first o)

  old_parts : take first o ++ (gone ++ end_part) ≡ o
  old_parts = ap (take first o ++◌) (take-append-drop (length (drop first o) - last) (drop first o)) ∙ take-append-drop first o

  new_parts : take first o ++ (come ++ end_part) ≡ n
  new_parts =
      ap₂ (λ x y. x ++ (come ++ y)) (start_same (starts_share o n)) (end_same (ends_share (drop first o) (drop first n)))
      ∙ ap (take first n ++◌) (take-append-drop (length (drop first n) - last) (drop first n)) ∙ take-append-drop first n

  sites_from-turns : (f g : List ℕ) (cs : List Stretch) → NotTurns (joined (flat_map trimmed cs))
      → sites_from f g (turns o n ∷ cs) ≡ site_if (f ++ take first o) (g ++ take first o) gone come ++ sites_from (f ++ o) (g ++ n) cs
  sites_from-turns f g cs h =
      around f g (take first o) gone come end_part (joined (flat_map trimmed cs)) h
      ∙ ap (site_if (f ++ take first o) (g ++ take first o) gone come ++◌) (ap₂ (λ x y. sites (f ++ x) (g ++ y) (joined (flat_map trimmed cs))) old_parts new_parts)

  -- where it stands
  pub turn_sites_is : (f g : List ℕ) → turn_sites f g o n ≡ site_if (f ++ take first o) (g ++ take first o) gone come
  turn_sites_is f g = around f g (take first o) gone come end_part [] tt ∙ append-nil _

  sites_from-turn_sites : (f g : List ℕ) (cs : List Stretch) → NotTurns (joined (flat_map trimmed cs)) → sites_from f g (turns o n ∷ cs) ≡ turn_sites f g o n ++ sites_from (f ++ o) (g ++ n) cs
  sites_from-turn_sites f g cs h = sites_from-turns f g cs h ∙ ap (◌++ sites_from (f ++ o) (g ++ n) cs) (sym (turn_sites_is f g))

pub sites_from-put_turns : (f g o n : List ℕ) (cs : List Stretch) → NotTurns cs → NotTurns (joined (flat_map trimmed cs))
    → sites_from f g (put_turns o n cs) ≡ turn_sites f g o n ++ sites_from (f ++ o) (g ++ n) cs
sites_from-put_turns f g [] [] cs h later = ap₂ (λ x y. sites_from x y cs) (sym (append-nil f)) (sym (append-nil g))
sites_from-put_turns f g [] (y ∷ ys) [] h later = sites_from-turn_sites [] (y ∷ ys) f g [] later
sites_from-put_turns f g [] (y ∷ ys) (stays u ∷ cs) h later = sites_from-turn_sites [] (y ∷ ys) f g (stays u ∷ cs) later
sites_from-put_turns f g (x ∷ xs) n [] h later = sites_from-turn_sites (x ∷ xs) n f g [] later
sites_from-put_turns f g (x ∷ xs) n (stays u ∷ cs) h later = sites_from-turn_sites (x ∷ xs) n f g (stays u ∷ cs) later
sites_from-put_turns f g [] (y ∷ ys) (turns p q ∷ cs) h later = absurd h
sites_from-put_turns f g (x ∷ xs) n (turns p q ∷ cs) h later = absurd h

trimmed_stays_first : (b : ℕ) (bs : List ℕ) (cs : List Stretch) → NotTurns (joined (flat_map trimmed (put_stays (b ∷ bs) cs)))
trimmed_stays_first b bs [] = tt
trimmed_stays_first b bs (stays u ∷ cs) = stays_first b (bs ++ u) (joined (flat_map trimmed cs))
trimmed_stays_first b bs (turns o n ∷ cs) = stays_first b bs (joined (flat_map trimmed (turns o n ∷ cs)))

-- a turn, and then what stays
pub sites_turn_stays : (f g o n : List ℕ) (b : ℕ) (bs : List ℕ) (cs : List Stretch)
    → sites_from f g (put_turns o n (put_stays (b ∷ bs) cs)) ≡ turn_sites f g o n ++ sites_from ((f ++ o) ++ b ∷ bs) ((g ++ n) ++ b ∷ bs) cs
sites_turn_stays f g o n b bs cs =
    sites_from-put_turns f g o n (put_stays (b ∷ bs) cs) (stays_first b bs cs) (trimmed_stays_first b bs cs)
    ∙ ap (turn_sites f g o n ++◌) (sites_from-put_stays (f ++ o) (g ++ n) (b ∷ bs) cs)

-- a turn at the end
pub sites_turn_end : (f g o n : List ℕ) → sites_from f g (put_turns o n []) ≡ turn_sites f g o n
sites_turn_end f g o n = sites_from-put_turns f g o n [] tt tt ∙ append-nil _

-- ---- closed lines

pub joined-closed_same : (o n : List ℕ) (cs : List Stretch) → bytes_eq o n ≡ true → joined (closed o n cs) ≡ put_stays o (joined cs)
joined-closed_same o n cs same = ap joined (cond-true (bytes_eq o n) _ _ same)

pub joined-closed_apart : (o n : List ℕ) (cs : List Stretch) → bytes_eq o n ≡ false → joined (closed o n cs) ≡ put_turns o n (joined cs)
joined-closed_apart o n cs apart = ap joined (cond-false (bytes_eq o n) _ _ apart)
