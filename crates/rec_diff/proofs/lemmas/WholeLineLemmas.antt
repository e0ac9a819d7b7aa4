-- Parts in whole lines lead from text to text, by whole lines, and are as short as can be.
use Rattle.std.proofs.Common.{◌≡◌, ◌∙◌, ℕ, Bool, true, false, eqb, ◌&&◌, List, [], ◌∷◌, ◌++◌, refl, sym, ap, ap₂, subst, append_assoc}
use Rattle.std.specs.Prelude.{◌≢◌, map}
use Rattle.std.specs.List.{flat_map, AllByRecursion}
use Rattle.std.specs.Str.{bytes_eq}
use Rattle.std.proofs.lemmas.Bool.{cond_both, and_parts}
use Rattle.std.proofs.lemmas.List.{append-nil}
use Rattle.std.proofs.lemmas.Grind.{flat_map-append}
use Rattle.std.proofs.lemmas.List.Folds.{flat_map-map}
use Rattle.rec_text.proofs.lemmas.ListLemmas.{same_bytes}
use Rattle.rec_diff.specs.Changes.{Stretch, stays, turns, old_of, new_of, before_of, after_of, put_stays, put_turns, joined}
use Rattle.rec_diff.specs.Lines.{at_line, lines}
use Rattle.rec_diff.specs.WholeLines.{closed, lined_stay, lined_from, trimmed, whole_lines, AreLines, IsShort, LeadsByLines, ChangesLeadByLines}
use Rattle.rec_diff.proofs.lemmas.LineLemmas.{at_line-last}
use Rattle.rec_diff.proofs.lemmas.ShareLemmas.{text_of, text_of-lines}
use Rattle.rec_diff.proofs.lemmas.PartLemmas.{put_stays-put_stays, put_turns-put_turns, NotTurns, NotTurns-put_stays, stays_first}
use Rattle.rec_diff.proofs.lemmas.TrimLemmas.{Trims, trims, at_line-append, at_line-rest, lines_end, later_lines}

-- ---- one of both texts

-- the old one or the new one
abbrev side : {A : Type 0} → Bool → A → A → A
side true old new = old
side false old new = new

abbrev side_of : Bool → Stretch → List ℕ
side_of b (stays t) = t
side_of b (turns old new) = side b old new

abbrev all_of : Bool → List Stretch → List ℕ
all_of b cs = flat_map (side_of b) cs

side-alike : (b : Bool) (t : List ℕ) → side b t t ≡ t
side-alike true t = refl
side-alike false t = refl

side-append : (b : Bool) (o n p q : List ℕ) → side b (o ++ p) (n ++ q) ≡ side b o n ++ side b p q
side-append true o n p q = refl
side-append false o n p q = refl

side_then : (b : Bool) (o n p q rest : List ℕ) → side b (o ++ p) (n ++ q) ++ rest ≡ side b o n ++ (side b p q ++ rest)
side_then b o n p q rest = ap (◌++ rest) (side-append b o n p q) ∙ append_assoc (side b o n) (side b p q) rest

side_none : (b : Bool) (rest : List ℕ) → side b [] [] ++ rest ≡ rest
side_none b rest = ap (◌++ rest) (side-alike b [])

all_of-put_stays : (b : Bool) (t : List ℕ) (cs : List Stretch) → all_of b (put_stays t cs) ≡ t ++ all_of b cs
all_of-put_stays b [] cs = refl
all_of-put_stays b (x ∷ xs) [] = refl
all_of-put_stays b (x ∷ xs) (stays u ∷ cs) = ap (x ∷◌) (append_assoc xs u (all_of b cs))
all_of-put_stays b (x ∷ xs) (turns o n ∷ cs) = refl

all_of-put_turns : (b : Bool) (o n : List ℕ) (cs : List Stretch) → all_of b (put_turns o n cs) ≡ side b o n ++ all_of b cs
all_of-put_turns b [] [] cs = sym (side_none b (all_of b cs))
all_of-put_turns b [] (y ∷ ys) [] = refl
all_of-put_turns b [] (y ∷ ys) (stays u ∷ cs) = refl
all_of-put_turns b [] (y ∷ ys) (turns p q ∷ cs) = side_then b [] (y ∷ ys) p q (all_of b cs)
all_of-put_turns b (x ∷ xs) n [] = refl
all_of-put_turns b (x ∷ xs) n (stays u ∷ cs) = refl
all_of-put_turns b (x ∷ xs) n (turns p q ∷ cs) = side_then b (x ∷ xs) n p q (all_of b cs)

all_of-joined : (b : Bool) (cs : List Stretch) → all_of b (joined cs) ≡ all_of b cs
all_of-joined b [] = refl
all_of-joined b (stays t ∷ cs) = all_of-put_stays b t (joined cs) ∙ ap (t ++◌) (all_of-joined b cs)
all_of-joined b (turns o n ∷ cs) = all_of-put_turns b o n (joined cs) ∙ ap (side b o n ++◌) (all_of-joined b cs)

all_of-closed : (b : Bool) (o n : List ℕ) (cs : List Stretch) → all_of b (closed o n cs) ≡ side b o n ++ all_of b cs
all_of-closed b o n cs = cond_both (bytes_eq o n) _ _ (λ x. all_of b x ≡ side b o n ++ all_of b cs)
    (λ same. ap (◌++ all_of b cs) (sym (ap (side b o) (sym (same_bytes o n same)) ∙ side-alike b o)))
    (λ apart. refl)

-- what goes on after a text leaves what is open before it
abbrev Leaves : Bool → List ℕ → (List ℕ → List ℕ → List Stretch) → Type 0
Leaves b tail rest = (old new : List ℕ) → all_of b (rest old new) ≡ side b old new ++ tail

all_of-lined_stay : (b : Bool) (t tail : List ℕ) (rest : List ℕ → List ℕ → List Stretch) → Leaves b tail rest → Leaves b (t ++ tail) (lined_stay t rest)
all_of-lined_stay b [] tail rest leaves old new = leaves old new
all_of-lined_stay b (x ∷ xs) tail rest leaves old new =
    let one : side b (old ++ x ∷ []) (new ++ x ∷ []) ++ (xs ++ tail) ≡ side b old new ++ (x ∷ (xs ++ tail)) =
    side_then b old new (x ∷ []) (x ∷ []) (xs ++ tail) ∙ ap (λ y. side b old new ++ (y ++ (xs ++ tail))) (side-alike b (x ∷ [])) in
    cond_both (eqb x 10) _ _ (λ y. all_of b y ≡ side b old new ++ (x ∷ (xs ++ tail)))
    (λ ends.
    all_of-closed b (old ++ x ∷ []) (new ++ x ∷ []) (lined_stay xs rest [] [])
    ∙ ap (side b (old ++ x ∷ []) (new ++ x ∷ []) ++◌) (all_of-lined_stay b xs tail rest leaves [] [] ∙ side_none b (xs ++ tail)) ∙ one)
    (λ open_line. all_of-lined_stay b xs tail rest leaves (old ++ x ∷ []) (new ++ x ∷ []) ∙ one)

all_of-lined_from : (b : Bool) (cs : List Stretch) → Leaves b (all_of b cs) (lined_from cs)
all_of-lined_from b [] old new = all_of-closed b old new []
all_of-lined_from b (stays t ∷ cs) old new = all_of-lined_stay b t (all_of b cs) (lined_from cs) (all_of-lined_from b cs) old new
all_of-lined_from b (turns o n ∷ cs) old new =
    cond_both (at_line (old ++ o) && at_line (new ++ n)) _ _ (λ y. all_of b y ≡ side b old new ++ (side b o n ++ all_of b cs))
    (λ ends.
    all_of-closed b (old ++ o) (new ++ n) (lined_from cs [] [])
    ∙ ap (side b (old ++ o) (new ++ n) ++◌) (all_of-lined_from b cs [] [] ∙ side_none b (all_of b cs)) ∙ side_then b old new o n (all_of b cs))
    (λ open_line. all_of-lined_from b cs (old ++ o) (new ++ n) ∙ side_then b old new o n (all_of b cs))

module _ (b : Bool) (o n : List ℕ) (t : Trims o n) where
  lines_are : lines (side b o n) ≡ t.first ++ (side b t.old t.new ++ t.last)
  lines_are = elim b as (λ b. lines (side b o n) ≡ t.first ++ (side b t.old t.new ++ t.last)) [ true ↦ t.old_are | false ↦ t.new_are ]

  text_between : text_of (side b t.old t.new) ≡ side b (text_of t.old) (text_of t.new)
  text_between = elim b as (λ b. text_of (side b t.old t.new) ≡ side b (text_of t.old) (text_of t.new)) [ true ↦ refl | false ↦ refl ]

  trimmed_text : side b o n ≡ text_of t.first ++ (side b (text_of t.old) (text_of t.new) ++ text_of t.last)
  trimmed_text =
      sym (text_of-lines (side b o n)) ∙ ap text_of lines_are ∙ flat_map-append (λ line. line) t.first (side b t.old t.new ++ t.last)
      ∙ ap (text_of t.first ++◌) (flat_map-append (λ line. line) (side b t.old t.new) t.last ∙ ap (◌++ text_of t.last) text_between)

-- the lines after the first ones
rest_lines : (b : Bool) (o n : List ℕ) (t : Trims o n) → lines (text_of (side b t.old t.new ++ t.last)) ≡ side b t.old t.new ++ t.last
rest_lines b o n t = later_lines (side b o n) t.first (side b t.old t.new ++ t.last) (lines_are b o n t)

all_of-trimmed : (b : Bool) (c : Stretch) → all_of b (trimmed c) ≡ side_of b c
all_of-trimmed b (stays t) = append-nil t
all_of-trimmed b (turns o n) =
    let t = trims o n in
    ap (all_of b) t.parts ∙ ap (λ x. text_of t.first ++ (side b (text_of t.old) (text_of t.new) ++ x)) (append-nil (text_of t.last)) ∙ sym (trimmed_text b o n t)

all_of-all_trimmed : (b : Bool) (cs : List Stretch) → all_of b (flat_map trimmed cs) ≡ all_of b cs
all_of-all_trimmed b [] = refl
all_of-all_trimmed b (c ∷ cs) = flat_map-append (side_of b) (trimmed c) (flat_map trimmed cs) ∙ ap₂ (λ x y. x ++ y) (all_of-trimmed b c) (all_of-all_trimmed b cs)

all_of-whole_lines : (b : Bool) (cs : List Stretch) → all_of b (whole_lines cs) ≡ all_of b cs
all_of-whole_lines b cs =
    all_of-joined b (flat_map trimmed (joined (lined_from cs [] []))) ∙ all_of-all_trimmed b (joined (lined_from cs [] []))
    ∙ all_of-joined b (lined_from cs [] []) ∙ all_of-lined_from b cs [] [] ∙ side_none b (all_of b cs)

-- ---- neighbours of a kind are one

joined-put_stays : (t : List ℕ) (cs : List Stretch) → joined (put_stays t cs) ≡ put_stays t (joined cs)
joined-put_stays [] cs = refl
joined-put_stays (x ∷ xs) [] = refl
joined-put_stays (x ∷ xs) (stays u ∷ cs) = sym (put_stays-put_stays (x ∷ xs) u (joined cs))
joined-put_stays (x ∷ xs) (turns o n ∷ cs) = refl

joined-put_turns : (o n : List ℕ) (cs : List Stretch) → joined (put_turns o n cs) ≡ put_turns o n (joined cs)
joined-put_turns [] [] cs = refl
joined-put_turns [] (y ∷ ys) [] = refl
joined-put_turns [] (y ∷ ys) (stays u ∷ cs) = refl
joined-put_turns [] (y ∷ ys) (turns p q ∷ cs) = sym (put_turns-put_turns [] (y ∷ ys) p q (joined cs))
joined-put_turns (x ∷ xs) n [] = refl
joined-put_turns (x ∷ xs) n (stays u ∷ cs) = refl
joined-put_turns (x ∷ xs) n (turns p q ∷ cs) = sym (put_turns-put_turns (x ∷ xs) n p q (joined cs))

joined-joined : (cs : List Stretch) → joined (joined cs) ≡ joined cs
joined-joined [] = refl
joined-joined (stays t ∷ cs) = joined-put_stays t (joined cs) ∙ ap (put_stays t) (joined-joined cs)
joined-joined (turns o n ∷ cs) = joined-put_turns o n (joined cs) ∙ ap (put_turns o n) (joined-joined cs)

-- ---- turns are short

-- after a turn something stays
abbrev pub AreSpaced : List Stretch → Type 0
AreSpaced [] = Unit {0}
AreSpaced (stays t ∷ cs) = (t ≢ []) × AreSpaced cs
AreSpaced (turns o n ∷ cs) = NotTurns cs × AreSpaced cs

AreSpaced-put_stays : (t : List ℕ) (cs : List Stretch) → AreSpaced cs → AreSpaced (put_stays t cs)
AreSpaced-put_stays [] cs spaced = spaced
AreSpaced-put_stays (x ∷ xs) [] spaced = (λ none. cc, tt)
AreSpaced-put_stays (x ∷ xs) (stays u ∷ cs) spaced = (λ none. cc, spaced.1)
AreSpaced-put_stays (x ∷ xs) (turns o n ∷ cs) spaced = (λ none. cc, spaced)

AreSpaced-put_turns : (o n : List ℕ) (cs : List Stretch) → AreSpaced cs → AreSpaced (put_turns o n cs)
AreSpaced-put_turns [] [] cs spaced = spaced
AreSpaced-put_turns [] (y ∷ ys) [] spaced = (tt, tt)
AreSpaced-put_turns [] (y ∷ ys) (stays u ∷ cs) spaced = (tt, spaced)
AreSpaced-put_turns [] (y ∷ ys) (turns p q ∷ cs) spaced = spaced
AreSpaced-put_turns (x ∷ xs) n [] spaced = (tt, tt)
AreSpaced-put_turns (x ∷ xs) n (stays u ∷ cs) spaced = (tt, spaced)
AreSpaced-put_turns (x ∷ xs) n (turns p q ∷ cs) spaced = spaced

pub AreSpaced-joined : (cs : List Stretch) → AreSpaced (joined cs)
AreSpaced-joined [] = tt
AreSpaced-joined (stays t ∷ cs) = AreSpaced-put_stays t (joined cs) (AreSpaced-joined cs)
AreSpaced-joined (turns o n ∷ cs) = AreSpaced-put_turns o n (joined cs) (AreSpaced-joined cs)

abbrev AreShort : List Stretch → Type 0
AreShort cs = AllByRecursion IsShort cs

AreShort-put_stays : (t : List ℕ) (cs : List Stretch) → AreShort cs → AreShort (put_stays t cs)
AreShort-put_stays [] cs short = short
AreShort-put_stays (x ∷ xs) [] short = (tt, tt)
AreShort-put_stays (x ∷ xs) (stays u ∷ cs) short = (tt, short.1)
AreShort-put_stays (x ∷ xs) (turns o n ∷ cs) short = (tt, short)

AreShort-put_turns : (o n : List ℕ) (cs : List Stretch) → IsShort (turns o n) → NotTurns cs → AreShort cs → AreShort (put_turns o n cs)
AreShort-put_turns [] [] cs here next short = short
AreShort-put_turns [] (y ∷ ys) [] here next short = (here, tt)
AreShort-put_turns [] (y ∷ ys) (stays u ∷ cs) here next short = (here, short)
AreShort-put_turns [] (y ∷ ys) (turns p q ∷ cs) here next short = absurd next
AreShort-put_turns (x ∷ xs) n [] here next short = (here, tt)
AreShort-put_turns (x ∷ xs) n (stays u ∷ cs) here next short = (here, short)
AreShort-put_turns (x ∷ xs) n (turns p q ∷ cs) here next short = absurd next

some_stays_first : (t : List ℕ) (cs : List Stretch) → t ≢ [] → NotTurns (put_stays t cs)
some_stays_first [] cs some = absurd (some refl)
some_stays_first (x ∷ xs) cs some = stays_first x xs cs

NotTurns-trimmed : (cs : List Stretch) → AreSpaced cs → NotTurns cs → NotTurns (joined (flat_map trimmed cs))
NotTurns-trimmed [] spaced next = tt
NotTurns-trimmed (stays t ∷ cs) spaced next = some_stays_first t (joined (flat_map trimmed cs)) spaced.0
NotTurns-trimmed (turns o n ∷ cs) spaced next = absurd next

AreShort-trimmed : (cs : List Stretch) → AreSpaced cs → AreShort (joined (flat_map trimmed cs))
AreShort-trimmed [] spaced = tt
AreShort-trimmed (stays t ∷ cs) spaced = AreShort-put_stays t (joined (flat_map trimmed cs)) (AreShort-trimmed cs spaced.1)
AreShort-trimmed (turns o n ∷ cs) spaced =
    let t = trims o n in
    let rest = joined (flat_map trimmed cs) in
    let next = NotTurns-put_stays (text_of t.last) rest (NotTurns-trimmed cs spaced.1 spaced.0) in
    let after = AreShort-put_stays (text_of t.last) rest (AreShort-trimmed cs spaced.1) in
    subst (λ x. AreShort (joined (x ++ flat_map trimmed cs))) (sym t.parts)
    (AreShort-put_stays (text_of t.first) _ (AreShort-put_turns (text_of t.old) (text_of t.new) _ t.short next after))

-- ---- whole lines

-- a part after which bytes come ends a line
abbrev AreWhole : Bool → List Stretch → Type 0
AreWhole b [] = Unit {0}
AreWhole b (c ∷ cs) = (all_of b cs ≢ [] → at_line (side_of b c) ≡ true) × AreWhole b cs

some_later : (t rest : List ℕ) → rest ≢ [] → t ++ rest ≢ []
some_later [] rest some = some
some_later (x ∷ xs) rest some = λ none. cc

AreWhole-put_stays : (b : Bool) (t : List ℕ) (cs : List Stretch) → (all_of b cs ≢ [] → at_line t ≡ true) → AreWhole b cs → AreWhole b (put_stays t cs)
AreWhole-put_stays b [] cs ends whole = whole
AreWhole-put_stays b (x ∷ xs) [] ends whole = (ends, tt)
AreWhole-put_stays b (x ∷ xs) (stays u ∷ cs) ends whole = (λ some. at_line-append (x ∷ xs) u (ends (some_later u (all_of b cs) some)) (whole.0 some), whole.1)
AreWhole-put_stays b (x ∷ xs) (turns o n ∷ cs) ends whole = (ends, whole)

one_turn : (b : Bool) (o n p q : List ℕ) (cs : List Stretch) → (side b p q ++ all_of b cs ≢ [] → at_line (side b o n) ≡ true) → (all_of b cs ≢ [] → at_line (side b p q) ≡ true)
    → all_of b cs ≢ [] → at_line (side b (o ++ p) (n ++ q)) ≡ true
one_turn b o n p q cs ends next some =
    ap at_line (side-append b o n p q) ∙ at_line-append (side b o n) (side b p q) (ends (some_later (side b p q) (all_of b cs) some)) (next some)

AreWhole-put_turns : (b : Bool) (o n : List ℕ) (cs : List Stretch) → (all_of b cs ≢ [] → at_line (side b o n) ≡ true) → AreWhole b cs → AreWhole b (put_turns o n cs)
AreWhole-put_turns b [] [] cs ends whole = whole
AreWhole-put_turns b [] (y ∷ ys) [] ends whole = (ends, tt)
AreWhole-put_turns b [] (y ∷ ys) (stays u ∷ cs) ends whole = (ends, whole)
AreWhole-put_turns b [] (y ∷ ys) (turns p q ∷ cs) ends whole = (one_turn b [] (y ∷ ys) p q cs ends whole.0, whole.1)
AreWhole-put_turns b (x ∷ xs) n [] ends whole = (ends, tt)
AreWhole-put_turns b (x ∷ xs) n (stays u ∷ cs) ends whole = (ends, whole)
AreWhole-put_turns b (x ∷ xs) n (turns p q ∷ cs) ends whole = (one_turn b (x ∷ xs) n p q cs ends whole.0, whole.1)

AreWhole-joined : (b : Bool) (cs : List Stretch) → AreWhole b cs → AreWhole b (joined cs)
AreWhole-joined b [] whole = tt
AreWhole-joined b (stays t ∷ cs) whole =
    AreWhole-put_stays b t (joined cs) (λ some. whole.0 λ none. some (all_of-joined b cs ∙ none)) (AreWhole-joined b cs whole.1)
AreWhole-joined b (turns o n ∷ cs) whole =
    AreWhole-put_turns b o n (joined cs) (λ some. whole.0 λ none. some (all_of-joined b cs ∙ none)) (AreWhole-joined b cs whole.1)

at_line-side : (b : Bool) (o n : List ℕ) → at_line o ≡ true → at_line n ≡ true → at_line (side b o n) ≡ true
at_line-side true o n old_ends new_ends = old_ends
at_line-side false o n old_ends new_ends = new_ends

AreWhole-closed : (b : Bool) (o n : List ℕ) (cs : List Stretch) → (all_of b cs ≢ [] → at_line o ≡ true) → (all_of b cs ≢ [] → at_line n ≡ true) → AreWhole b cs → AreWhole b (closed o n cs)
AreWhole-closed b o n cs old_ends new_ends whole =
    cond_both (bytes_eq o n) _ _ (AreWhole b) (λ same. (old_ends, whole)) (λ apart. (λ some. at_line-side b o n (old_ends some) (new_ends some), whole))

AreWhole-lined_stay : (b : Bool) (t : List ℕ) (rest : List ℕ → List ℕ → List Stretch) → ((old new : List ℕ) → AreWhole b (rest old new))
    → (old new : List ℕ) → AreWhole b (lined_stay t rest old new)
AreWhole-lined_stay b [] rest whole old new = whole old new
AreWhole-lined_stay b (x ∷ xs) rest whole old new =
    cond_both (eqb x 10) _ _ (AreWhole b)
    (λ ends.
    AreWhole-closed b (old ++ x ∷ []) (new ++ x ∷ []) (lined_stay xs rest [] []) (λ some. at_line-last old x ∙ ends) (λ some. at_line-last new x ∙ ends)
    (AreWhole-lined_stay b xs rest whole [] []))
    (λ open_line. AreWhole-lined_stay b xs rest whole (old ++ x ∷ []) (new ++ x ∷ []))

AreWhole-lined_from : (b : Bool) (cs : List Stretch) (old new : List ℕ) → AreWhole b (lined_from cs old new)
AreWhole-lined_from b [] old new = AreWhole-closed b old new [] (λ some. absurd (some refl)) (λ some. absurd (some refl)) tt
AreWhole-lined_from b (stays t ∷ cs) old new = AreWhole-lined_stay b t (lined_from cs) (AreWhole-lined_from b cs) old new
AreWhole-lined_from b (turns o n ∷ cs) old new =
    cond_both (at_line (old ++ o) && at_line (new ++ n)) _ _ (AreWhole b)
    (λ ends.
    let both = and_parts (at_line (old ++ o)) (at_line (new ++ n)) ends in
    AreWhole-closed b (old ++ o) (new ++ n) (lined_from cs [] []) (λ some. both.0) (λ some. both.1) (AreWhole-lined_from b cs [] []))
    (λ open_line. AreWhole-lined_from b cs (old ++ o) (new ++ n))

-- what is left of a turn, and what stays of it, before other parts
module _ (b : Bool) (o n : List ℕ) (cs : List Stretch) (ends : all_of b cs ≢ [] → at_line (side b o n) ≡ true) (whole : AreWhole b cs) (t : Trims o n) where
  trimmed_whole : AreWhole b (stays (text_of t.first) ∷ turns (text_of t.old) (text_of t.new) ∷ stays (text_of t.last) ∷ cs)
  trimmed_whole =
      let middle = side b (text_of t.old) (text_of t.new) in
      let after_first : all_of b cs ≢ [] → at_line (middle ++ text_of t.last) ≡ true =
      λ some. at_line-rest (text_of t.first) (middle ++ text_of t.last) (subst (λ x. at_line x ≡ true) (trimmed_text b o n t) (ends some)) in
      let rest_text : text_of (side b t.old t.new ++ t.last) ≡ middle ++ text_of t.last =
      flat_map-append (λ line. line) (side b t.old t.new) t.last ∙ ap (◌++ text_of t.last) (text_between b o n t) in (
        λ some. lines_end (side b o n) t.first (side b t.old t.new ++ t.last) (all_of b cs) (lines_are b o n t) ends
            (λ none. some (sym (append_assoc middle (text_of t.last) (all_of b cs)) ∙ ap (◌++ all_of b cs) (sym rest_text) ∙ none)),
        (
          λ some. ap at_line (sym (text_between b o n t))
              ∙ lines_end (text_of (side b t.old t.new ++ t.last)) (side b t.old t.new) t.last (all_of b cs) (rest_lines b o n t) (λ bytes. ap at_line rest_text ∙ after_first bytes) some,
          (λ some. at_line-rest middle (text_of t.last) (after_first some), whole),
        ),
      )

AreWhole-trimmed : (b : Bool) (cs : List Stretch) → AreWhole b cs → AreWhole b (flat_map trimmed cs)
AreWhole-trimmed b [] whole = tt
AreWhole-trimmed b (stays t ∷ cs) whole = (λ some. whole.0 λ none. some (all_of-all_trimmed b cs ∙ none), AreWhole-trimmed b cs whole.1)
AreWhole-trimmed b (turns o n ∷ cs) whole =
    let t = trims o n in
    subst (λ x. AreWhole b (x ++ flat_map trimmed cs)) (sym t.parts)
    (trimmed_whole b o n (flat_map trimmed cs) (λ some. whole.0 λ none. some (all_of-all_trimmed b cs ∙ none)) (AreWhole-trimmed b cs whole.1) t)

AreWhole-whole_lines : (b : Bool) (cs : List Stretch) → AreWhole b (whole_lines cs)
AreWhole-whole_lines b cs =
    AreWhole-joined b (flat_map trimmed (joined (lined_from cs [] [])))
    (AreWhole-trimmed b (joined (lined_from cs [] [])) (AreWhole-joined b (lined_from cs [] []) (AreWhole-lined_from b cs [] [])))

-- ---- the law

flat_map-same : {A : Type 0} (f g : Stretch → List A) → ((c : Stretch) → f c ≡ g c) → (cs : List Stretch) → flat_map f cs ≡ flat_map g cs
flat_map-same f g same [] = refl
flat_map-same f g same (c ∷ cs) = ap₂ (λ x y. x ++ y) (same c) (flat_map-same f g same cs)

old_side : (c : Stretch) → side_of true c ≡ old_of c
old_side (stays t) = refl
old_side (turns o n) = refl

new_side : (c : Stretch) → side_of false c ≡ new_of c
new_side (stays t) = refl
new_side (turns o n) = refl

-- the text of parts in whole lines, and the lines that they are
module _ (b : Bool) (text : Stretch → List ℕ) (same : (c : Stretch) → side_of b c ≡ text c) where
  same_text : (cut : List Stretch) → flat_map text (whole_lines cut) ≡ flat_map text cut
  same_text cut = sym (flat_map-same (side_of b) text same (whole_lines cut)) ∙ all_of-whole_lines b cut ∙ flat_map-same (side_of b) text same cut

  are_lines : (cs : List Stretch) → AreWhole b cs → AreLines (map text cs)
  are_lines [] whole = tt
  are_lines (c ∷ cs) whole = (
    λ some. ap at_line (sym (same c)) ∙ whole.0 λ none. some (flat_map-map (λ t. t) text cs ∙ sym (flat_map-same (side_of b) text same cs) ∙ none),
    are_lines cs whole.1,
  )

pub whole_lines_lead : (cut : List Stretch) → LeadsByLines (before_of cut) (after_of cut) (whole_lines cut)
whole_lines_lead cut = record {
  from = same_text true old_of old_side cut;
  to = same_text false new_of new_side cut;
  old_lines = are_lines true old_of old_side (whole_lines cut) (AreWhole-whole_lines true cut);
  new_lines = are_lines false new_of new_side (whole_lines cut) (AreWhole-whole_lines false cut);
  apart = joined-joined (flat_map trimmed (joined (lined_from cut [] [])));
  short = AreShort-trimmed (joined (lined_from cut [] [])) (AreSpaced-joined (lined_from cut [] []));
}

pub changes_lead_by_lines : ChangesLeadByLines
changes_lead_by_lines patch before after parts is =
    subst (LeadsByLines before after) (sym is.lined)
    (subst (λ t. LeadsByLines t after (whole_lines is.cut)) is.from
    (subst (λ t. LeadsByLines (before_of is.cut) t (whole_lines is.cut)) is.to (whole_lines_lead is.cut)))
