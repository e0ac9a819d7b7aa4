-- Runs of deeds.
use Rattle.std.proofs.Common.{refl, sym, ap, subst, ◌≡◌, ◌∙◌, ℕ, zero, suc, ◌+◌, ◌-◌, ◌<◌, ◌≤◌, List, [], ◌∷◌, ◌++◌, length, map, replicate, get_or, drop, arith, append_assoc}
use Rattle.std.proofs.lemmas.List.{length-append, replicate-append-replicate, map-append, append-nil, drop_more}
use Rattle.std.proofs.lemmas.Grind.{flat_map-append}
use Rattle.rec_journal.specs.declared.patch.Hunk.{Hunk}
use Rattle.rec_journal.specs.Patch.{AreApartFrom}
use Rattle.rec_diff.specs.declared.composing.run.Run.{Run}
use Rattle.rec_diff.specs.declared.composing.run.Run.TheVariants.{Kept, Removed, Added}
use Rattle.rec_diff.specs.Composing.{Deed, keeps, removes, adds, deeds_from, then_others}
use Rattle.rec_diff.specs.declared.composing.merging.Ahead.{Ahead}
use Rattle.rec_diff.specs.proving.Runs.{run_length, deeds_in, run_deeds, CutsRun, CanMeet, met_deeds, weight, amount_left, deeds_ahead}
use Rattle.rec_diff.proofs.lemmas.PlaceLemmas.{next_item}
use Rattle.rec_diff.proofs.lemmas.composing.DeedLemmas.{then_others-nil, removed_first, added_first, kept_lets, added_lets, kept_kept, kept_removed, added_kept, added_removed}

-- an empty run does nothing
pub deeds_in-empty : (run : Run) → run_length run ≡ 0 → deeds_in run ≡ []
deeds_in-empty (Kept count) none = ap (λ n. replicate n keeps) none
deeds_in-empty (Removed bytes) none = no_bytes bytes.now removes none
  where
    no_bytes : (bytes : List ℕ) (deed : ℕ → Deed) → length bytes ≡ 0 → map deed bytes ≡ []
    no_bytes [] deed none = refl
    no_bytes (b ∷ bytes) deed none = absurd (omega (arith, none))
deeds_in-empty (Added bytes) none = no_bytes bytes.now adds none
  where
    no_bytes : (bytes : List ℕ) (deed : ℕ → Deed) → length bytes ≡ 0 → map deed bytes ≡ []
    no_bytes [] deed none = refl
    no_bytes (b ∷ bytes) deed none = absurd (omega (arith, none))

-- one run more
pub run_deeds-push : (runs : List Run) (run : Run) → run_deeds (runs ++ run ∷ []) ≡ run_deeds runs ++ deeds_in run
run_deeds-push runs run = flat_map-append deeds_in runs (run ∷ []) ∙ ap (run_deeds runs ++◌) (append-nil (deeds_in run))

-- the deeds that are left begin with those of the run at this place
pub run_deeds-drop : (runs : List Run) (i : ℕ) (run : Run) → i < length runs → run ≡ get_or runs i run → run_deeds (drop i runs) ≡ deeds_in run ++ run_deeds (drop (i + 1) runs)
run_deeds-drop runs i run below is = ap run_deeds (next_item runs i run run below is)

pub run_deeds-drop_at : (runs : List Run) (i : ℕ) (default : Run) → i < length runs → run_deeds (drop i runs) ≡ deeds_in (get_or runs i default) ++ run_deeds (drop (i + 1) runs)
run_deeds-drop_at runs i default below = ap run_deeds (drop_more runs i default below)

-- one run goes over from what is left to what is done
pub one_goes_over : (done run then left more all : List Deed) → done ++ left ≡ all → left ≡ run ++ more → then ≡ done ++ run → then ++ more ≡ all
one_goes_over done run then left more all whole begins grown =
    ap (λ d. d ++ more) grown ∙ append_assoc done run more ∙ ap (λ d. done ++ d) (sym begins) ∙ whole

-- ---- hunks

-- what a hunk does, after bytes that are kept
abbrev pub hunk_deeds : ℕ → Hunk → List Deed
hunk_deeds kept hunk = replicate kept keeps ++ (map removes hunk.old ++ map adds hunk.new)

pub deeds_from-drop : (hunks : List Hunk) (i place : ℕ) (hunk : Hunk) → i < length hunks → hunk ≡ get_or hunks i hunk
    → deeds_from place (drop i hunks) ≡ hunk_deeds (hunk.at - place) hunk ++ deeds_from (hunk.at + length hunk.old) (drop (i + 1) hunks)
deeds_from-drop hunks i place hunk below is =
    let rest : List Deed = deeds_from (hunk.at + length hunk.old) (drop (i + 1) hunks) in
    ap (deeds_from place) (next_item hunks i hunk hunk below is)
    ∙ ap (λ d. replicate (hunk.at - place) keeps ++ d) (sym (append_assoc (map removes hunk.old) (map adds hunk.new) rest))
    ∙ sym (append_assoc (replicate (hunk.at - place) keeps) (map removes hunk.old ++ map adds hunk.new) rest)

apart_sooner : (hunks : List Hunk) (least : ℕ) → AreApartFrom (least + 1) hunks → AreApartFrom least hunks
apart_sooner [] least apart = tt
apart_sooner (hunk ∷ hunks) least apart = let first : least + 1 ≤ hunk.at = apart.0 in (omega arith, apart.1, apart.2)

pub apart-drop : (hunks : List Hunk) (i place : ℕ) (hunk : Hunk) → i < length hunks → hunk ≡ get_or hunks i hunk → AreApartFrom place (drop i hunks)
    → (place ≤ hunk.at) × AreApartFrom (hunk.at + length hunk.old) (drop (i + 1) hunks)
apart-drop hunks i place hunk below is apart =
    let begins : drop i hunks ≡ hunk ∷ drop (i + 1) hunks = next_item hunks i hunk hunk below is in
    let all : AreApartFrom place (hunk ∷ drop (i + 1) hunks) = subst (AreApartFrom place) begins apart in
    (all.0, apart_sooner (drop (i + 1) hunks) (hunk.at + length hunk.old) all.2)

-- ---- a cut

pub CutsRun-deeds : (run : Run) (at : ℕ) (first rest : Run) → CutsRun run at first rest → deeds_in run ≡ deeds_in first ++ deeds_in rest
CutsRun-deeds (Kept count) at (Kept first) (Kept rest) cut =
    ap (λ n. replicate n keeps) (cut.1 ∙ ap (λ n. n + rest) (sym cut.0)) ∙ sym (replicate-append-replicate first rest keeps)
CutsRun-deeds (Removed bytes) at (Removed first) (Removed rest) cut = ap (map removes) cut.1 ∙ map-append removes first.now rest.now
CutsRun-deeds (Added bytes) at (Added first) (Added rest) cut = ap (map adds) cut.1 ∙ map-append adds first.now rest.now
CutsRun-deeds _ at _ _ cut = absurd cut

pub CutsRun-length : (run : Run) (at : ℕ) (first rest : Run) → CutsRun run at first rest → run_length run ≡ at + run_length rest
CutsRun-length (Kept count) at (Kept first) (Kept rest) cut = cut.1
CutsRun-length (Removed bytes) at (Removed first) (Removed rest) cut = ap length cut.1 ∙ length-append first.now rest.now ∙ ap (λ n. n + length rest.now) cut.0
CutsRun-length (Added bytes) at (Added first) (Added rest) cut = ap length cut.1 ∙ length-append first.now rest.now ∙ ap (λ n. n + length rest.now) cut.0
CutsRun-length _ at _ _ cut = absurd cut

-- ---- what is left

pub length-le-weight : (runs : List Run) → length runs ≤ weight runs
length-le-weight [] = omega arith
length-le-weight (run ∷ runs) = let rest : length runs ≤ weight runs = length-le-weight runs in omega arith

no_runs : (runs : List Run) → weight runs ≡ 0 → run_deeds runs ≡ []
no_runs [] none = refl
no_runs (run ∷ runs) none = absurd (omega (arith, none))

pub deeds_ahead-done : (ahead : Ahead) → amount_left ahead ≡ 0 → deeds_ahead ahead ≡ []
deeds_ahead-done ahead done =
    let head : run_length ahead.head ≡ 0 = omega (arith, done) in
    let rest : weight ahead.rest.now ≡ 0 = omega (arith, done) in
    ap (λ d. d ++ run_deeds ahead.rest.now) (deeds_in-empty ahead.head head) ∙ no_runs ahead.rest.now rest

-- the first is done
pub none_first : (p q : List Deed) → p ≡ [] → then_others p q ≡ p ++ q
none_first p q none = ap (λ d. then_others d q) none ∙ ap (λ d. d ++ q) (sym none)

-- the other is done
pub none_then : (p q : List Deed) → q ≡ [] → then_others p q ≡ p ++ q
none_then p q none = ap (then_others p) none ∙ then_others-nil p ∙ sym (append-nil p) ∙ ap (λ d. p ++ d) (sym none)

-- ---- two runs

-- runs of one length meet
met_goes_on : (one other : Run) → CanMeet one other → run_length one ≡ run_length other → (p q : List Deed)
    → then_others (deeds_in one ++ p) (deeds_in other ++ q) ≡ met_deeds one other ++ then_others p q
met_goes_on (Kept count) (Kept others) can same p q =
    ap (λ n. then_others (replicate n keeps ++ p) (replicate others keeps ++ q)) same ∙ kept_kept others p q
met_goes_on (Kept count) (Removed bytes) can same p q =
    ap (λ n. then_others (replicate n keeps ++ p) (map removes bytes.now ++ q)) same ∙ kept_removed bytes.now p q
met_goes_on (Added bytes) (Kept count) can same p q =
    ap (λ n. then_others (map adds bytes.now ++ p) (replicate n keeps ++ q)) (sym same) ∙ added_kept bytes.now p q
met_goes_on (Added bytes) (Removed others) can same p q = added_removed bytes.now others.now p q same
met_goes_on _ _ can same p q = absurd can

-- the first part of a run meets what the run can meet
first_can_meet : (one other : Run) (at : ℕ) (first rest : Run) → CutsRun one at first rest → CanMeet one other → CanMeet first other
first_can_meet (Removed bytes) other at first rest cut can = absurd can
first_can_meet (Kept count) (Added bytes) at first rest cut can = absurd can
first_can_meet (Added bytes) (Added others) at first rest cut can = absurd can
first_can_meet (Kept count) (Kept others) at (Kept first) (Kept rest) cut can = tt
first_can_meet (Kept count) (Removed others) at (Kept first) (Kept rest) cut can = tt
first_can_meet (Added bytes) (Kept others) at (Added first) (Added rest) cut can = tt
first_can_meet (Added bytes) (Removed others) at (Added first) (Added rest) cut can = tt
first_can_meet _ _ at _ _ cut can = absurd cut

-- and so does the first part of the other
second_can_meet : (one other : Run) (at : ℕ) (second rest : Run) → CutsRun other at second rest → CanMeet one other → CanMeet one second
second_can_meet (Removed bytes) other at second rest cut can = absurd can
second_can_meet (Kept count) (Added bytes) at second rest cut can = absurd can
second_can_meet (Added bytes) (Added others) at second rest cut can = absurd can
second_can_meet (Kept count) (Kept others) at (Kept second) (Kept rest) cut can = tt
second_can_meet (Kept count) (Removed others) at (Removed second) (Removed rest) cut can = tt
second_can_meet (Added bytes) (Kept others) at (Kept second) (Kept rest) cut can = tt
second_can_meet (Added bytes) (Removed others) at (Removed second) (Removed rest) cut can = tt
second_can_meet _ _ at _ _ cut can = absurd cut

first_length : (run : Run) (at : ℕ) (first rest : Run) → CutsRun run at first rest → run_length first ≡ at
first_length (Kept count) at (Kept first) (Kept rest) cut = cut.0
first_length (Removed bytes) at (Removed first) (Removed rest) cut = cut.0
first_length (Added bytes) at (Added first) (Added rest) cut = cut.0
first_length _ at _ _ cut = absurd cut

-- two runs are cut alike, and their first parts meet
pub meeting : (one other : Run) (at : ℕ) (first first_rest second second_rest run : Run) → CutsRun one at first first_rest → CutsRun other at second second_rest → CanMeet one other
    → deeds_in run ≡ met_deeds first second → (p q : List Deed)
    → then_others (deeds_in one ++ p) (deeds_in other ++ q) ≡ deeds_in run ++ then_others (deeds_in first_rest ++ p) (deeds_in second_rest ++ q)
meeting one other at first first_rest second second_rest run cut other_cut can is p q =
    let can_too : CanMeet first second = second_can_meet first other at second second_rest other_cut (first_can_meet one other at first first_rest cut can) in
    let alike : run_length first ≡ run_length second = first_length one at first first_rest cut ∙ sym (first_length other at second second_rest other_cut) in
    ap (λ d. then_others (d ++ p) (deeds_in other ++ q)) (CutsRun-deeds one at first first_rest cut)
    ∙ ap (λ d. then_others (deeds_in first ++ deeds_in first_rest ++ p) (d ++ q)) (CutsRun-deeds other at second second_rest other_cut)
    ∙ ap (λ d. then_others d (deeds_in second ++ deeds_in second_rest ++ q)) (append_assoc (deeds_in first) (deeds_in first_rest) p)
    ∙ ap (then_others (deeds_in first ++ (deeds_in first_rest ++ p))) (append_assoc (deeds_in second) (deeds_in second_rest) q)
    ∙ met_goes_on first second can_too alike (deeds_in first_rest ++ p) (deeds_in second_rest ++ q)
    ∙ ap (λ d. d ++ then_others (deeds_in first_rest ++ p) (deeds_in second_rest ++ q)) (sym is)

-- a run that removes bytes comes first
pub removing : (one : Run) (bytes : List ℕ) → deeds_in one ≡ map removes bytes → (p q : List Deed) → then_others (deeds_in one ++ p) q ≡ deeds_in one ++ then_others p q
removing one bytes is p q = ap (λ d. then_others (d ++ p) q) is ∙ removed_first bytes p q ∙ ap (λ d. d ++ then_others p q) (sym is)

added_after_kept : (count : ℕ) → 0 < count → (bytes : List ℕ) (p q : List Deed)
    → then_others (replicate count keeps ++ p) (map adds bytes ++ q) ≡ map adds bytes ++ then_others (replicate count keeps ++ p) q
added_after_kept zero some bytes p q = absurd (omega arith)
added_after_kept (suc count) some bytes p q = added_first (keeps ∷ replicate count keeps ++ p) (kept_lets (replicate count keeps ++ p)) bytes q

added_after_added : (added : List ℕ) → 0 < length added → (bytes : List ℕ) (p q : List Deed)
    → then_others (map adds added ++ p) (map adds bytes ++ q) ≡ map adds bytes ++ then_others (map adds added ++ p) q
added_after_added [] some bytes p q = absurd (omega arith)
added_after_added (b ∷ added) some bytes p q = added_first (adds b ∷ map adds added ++ p) (added_lets b (map adds added ++ p)) bytes q

-- it removes none
abbrev pub KeepsOrAdds : Run → Type 0
KeepsOrAdds (Removed bytes) = ⊥
KeepsOrAdds run = Unit {0}

-- what the others add comes before a run that keeps or adds bytes
pub adding : (one : Run) → KeepsOrAdds one → 0 < run_length one → (bytes : List ℕ) (p q : List Deed)
    → then_others (deeds_in one ++ p) (map adds bytes ++ q) ≡ map adds bytes ++ then_others (deeds_in one ++ p) q
adding (Kept count) kind some bytes p q = added_after_kept count some bytes p q
adding (Added added) kind some bytes p q = added_after_added added.now some bytes p q
adding (Removed removed) kind some bytes p q = absurd kind

pub keeps_or_adds : (run : Run) → ((bytes : _) → run ≡ Removed bytes → ⊥) → KeepsOrAdds run
keeps_or_adds (Kept count) not = tt
keeps_or_adds (Added bytes) not = tt
keeps_or_adds (Removed bytes) not = not bytes refl

pub can_meet : (one other : Run) → KeepsOrAdds one → ((bytes : _) → other ≡ Added bytes → ⊥) → CanMeet one other
can_meet (Kept count) (Kept others) kind not = tt
can_meet (Kept count) (Removed others) kind not = tt
can_meet (Kept count) (Added others) kind not = not others refl
can_meet (Added bytes) (Kept others) kind not = tt
can_meet (Added bytes) (Removed others) kind not = tt
can_meet (Added bytes) (Added others) kind not = not others refl
can_meet (Removed bytes) other kind not = absurd kind
