-- A script is cut into runs of kept parts and of changed ones in one way, so it has one list of changes.
use Rattle.std.proofs.Common.{◌≡◌, ◌∙◌, Bool, true, false, List, [], ◌∷◌, ◌++◌, map, flat_map, refl, ap, ap₂, sym, subst}
use Rattle.std.specs.Prelude.{not}
use Rattle.std.specs.List.{AllByRecursion}
use Rattle.std.proofs.lemmas.Bool.{false≢true}
use Rattle.rec_journal.specs.declared.patch.Hunk.{Hunk}
use Rattle.rec_edit.specs.Script.{Part, is_kept, changes_from, as_one, AreInTurn, AreChangesOf}

abbrev AreKept : Bool → List Part → Type 0
AreKept kept parts = AllByRecursion (λ part. is_kept part ≡ kept) parts

-- the first of these parts, where there is one, isn't as the parts of the run before them
abbrev BeginsOther : Bool → List Part → Type 0
BeginsOther kept parts = (part : Part) (rest : List Part) → parts ≡ part ∷ rest → is_kept part ≡ not kept

both_ways : (kept own : Bool) → own ≡ kept → own ≡ not kept → ⊥
both_ways true own is other = false≢true (sym other ∙ is)
both_ways false own is other = false≢true (sym is ∙ other)

begins_other : (kept : Bool) (runs : List (List Part)) → AreInTurn (not kept) runs → BeginsOther kept (flat_map (λ run. run) runs)
begins_other kept [] in_turn = λ part rest e. absurd (cc)
begins_other kept ([] ∷ runs) in_turn = absurd (in_turn.0 refl)
begins_other kept ((first ∷ run) ∷ runs) in_turn = λ part rest e. let same : first ≡ part = cc in subst (λ p. is_kept p ≡ not kept) same in_turn.1.0

-- runs before parts that aren't as theirs
same_run : (kept : Bool) (run other rest later : List Part) → AreKept kept run → AreKept kept other → BeginsOther kept rest → BeginsOther kept later
    → run ++ rest ≡ other ++ later → (run ≡ other) × (rest ≡ later)
same_run kept [] [] rest later all too ends ends_too e = (refl, e)
same_run kept [] (part ∷ other) rest later all too ends ends_too e = absurd (both_ways kept (is_kept part) too.0 (ends part (other ++ later) e))
same_run kept (part ∷ run) [] rest later all too ends ends_too e = absurd (both_ways kept (is_kept part) all.0 (ends_too part (run ++ rest) (sym e)))
same_run kept (part ∷ run) (next ∷ other) rest later all too ends ends_too e =
    let same : part ≡ next = cc in
    let tails : run ++ rest ≡ other ++ later = cc in
    let more = same_run kept run other rest later all.1 too.1 ends ends_too tails in
    (ap₂ (λ (p : Part) (ps : List Part). p ∷ ps) same more.0, more.1)

one_cut : (kept other : Bool) (runs others : List (List Part)) → AreInTurn kept runs → AreInTurn other others
    → flat_map (λ run. run) runs ≡ flat_map (λ run. run) others → runs ≡ others
one_cut kept other [] [] in_turn too e = refl
one_cut kept other [] ([] ∷ others) in_turn too e = absurd (too.0 refl)
one_cut kept other [] ((part ∷ run) ∷ others) in_turn too e = absurd (cc)
one_cut kept other ([] ∷ runs) others in_turn too e = absurd (in_turn.0 refl)
one_cut kept other ((part ∷ run) ∷ runs) [] in_turn too e = absurd (cc)
one_cut kept other ((part ∷ run) ∷ runs) ([] ∷ others) in_turn too e = absurd (too.0 refl)
one_cut kept other ((part ∷ run) ∷ runs) ((next ∷ later) ∷ others) in_turn too e =
    let first : part ≡ next = cc in
    let same : other ≡ kept = sym too.1.0 ∙ ap is_kept (sym first) ∙ in_turn.1.0 in
    let again : AreInTurn kept ((next ∷ later) ∷ others) = subst (λ b. AreInTurn b ((next ∷ later) ∷ others)) same too in
    let parts =
    same_run kept (part ∷ run) (next ∷ later) (flat_map (λ run. run) runs) (flat_map (λ run. run) others) in_turn.1 again.1
    (begins_other kept runs in_turn.2) (begins_other kept others again.2) e in
    ap₂ (λ (r : List Part) (rs : List (List Part)). r ∷ rs) parts.0 (one_cut (not kept) (not kept) runs others in_turn.2 again.2 parts.1)

pub one_list_of_changes : (script : List Part) (one other : List Hunk) → AreChangesOf script one → AreChangesOf script other → one ≡ other
one_list_of_changes script one other a b =
    a.changes ∙ ap (λ runs. changes_from 0 (map as_one runs)) (one_cut a.first b.first a.runs b.runs a.in_turn b.in_turn (a.joined ∙ sym b.joined)) ∙ sym b.changes
