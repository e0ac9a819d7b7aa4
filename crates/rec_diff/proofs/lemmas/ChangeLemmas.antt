-- The hunks of parts lead from the text before to the text after.
use Rattle.std.proofs.Common.{refl, sym, arith, ◌≡◌, ℕ, ◌+◌, List, [], ◌∷◌, ◌++◌, length}
use native.Mathlib.Numerals.{unary_clauses}
use Rattle.std.proofs.lemmas.List.{length-append, append_assoc}
use Rattle.rec_journal.specs.Patch.{SplicesFrom}
use Rattle.rec_diff.specs.Changes.{HunksSplice, Stretch, stays, turns, before_of, after_of, hunks_at}

place_after : (place : ℕ) (kept t : List ℕ) → place + length kept + length t ≡ place + length (kept ++ t)
place_after place kept t = rw (length-append kept t) (omega arith)

nothing_kept : (place : ℕ) (parts : List Stretch) → SplicesFrom place (hunks_at (place + 0) parts) (before_of parts) (after_of parts)
    → SplicesFrom place (hunks_at place parts) (before_of parts) (after_of parts)
nothing_kept place parts h = simp unary_clauses at h

splice_from : (place : ℕ) (kept : List ℕ) (parts : List Stretch)
    → SplicesFrom place (hunks_at (place + length kept) parts) (kept ++ before_of parts) (kept ++ after_of parts)
splice_from place kept [] = refl
splice_from place kept (stays t ∷ parts) =
    rw (place_after place kept t, sym (append_assoc kept t (before_of parts)), sym (append_assoc kept t (after_of parts)))
    (splice_from place (kept ++ t) parts)
splice_from place kept (turns old new ∷ parts) =
    (kept, before_of parts, after_of parts, refl, refl, refl, nothing_kept (place + length kept + length old) parts (splice_from (place + length kept + length old) [] parts))

pub hunks_splice : HunksSplice
hunks_splice parts = nothing_kept 0 parts (splice_from 0 [] parts)
