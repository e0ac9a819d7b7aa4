-- The hunks of deeds.
use Rattle.std.proofs.Common.{refl, sym, ap, ◌≡◌, ◌≢◌, ◌∙◌, ℕ, zero, suc, ◌+◌, ◌-◌, ◌<◌, ◌≤◌, List, [], ◌∷◌, ◌++◌, length, map, replicate, append_assoc, arith}
use Rattle.std.proofs.lemmas.List.{append-nil}
use Rattle.rec_journal.specs.declared.patch.Hunk.{Hunk}
use Rattle.rec_journal.specs.Patch.{AreApartFrom}
use Rattle.rec_diff.specs.Composing.{Deed, keeps, removes, adds, deeds_from, deeds_of, put_hunk, hunks_after, deed_hunks, ComposesItself}
use Rattle.rec_diff.specs.proving.Runs.{old_count}
use Rattle.rec_diff.proofs.lemmas.composing.DeedLemmas.{then_others-nil}

-- a hunk, and others after it
pub put_hunk-append : (at : ℕ) (old new : List ℕ) (hunks : List Hunk) → put_hunk at old new hunks ≡ put_hunk at old new [] ++ hunks
put_hunk-append at [] [] hunks = refl
put_hunk-append at [] (n ∷ new) hunks = refl
put_hunk-append at (o ∷ old) new hunks = refl

-- it changes something
put_hunk-changed : (at : ℕ) (old new : List ℕ) (hunks : List Hunk) → old ≢ new → put_hunk at old new hunks ≡ record { at = at; old = old; new = new } ∷ hunks
put_hunk-changed at [] [] hunks differ = absurd (differ refl)
put_hunk-changed at [] (n ∷ new) hunks differ = refl
put_hunk-changed at (o ∷ old) new hunks differ = refl

-- ---- several deeds of a kind

pub hunks_after-removes : (bytes : List ℕ) (at : ℕ) (old new : List ℕ) (more : List Deed) → hunks_after at old new (map removes bytes ++ more) ≡ hunks_after at (old ++ bytes) new more
hunks_after-removes [] at old new more = ap (λ o. hunks_after at o new more) (sym (append-nil old))
hunks_after-removes (b ∷ bytes) at old new more =
    hunks_after-removes bytes at (old ++ b ∷ []) new more ∙ ap (λ o. hunks_after at o new more) (append_assoc old (b ∷ []) bytes)

pub hunks_after-adds : (bytes : List ℕ) (at : ℕ) (old new : List ℕ) (more : List Deed) → hunks_after at old new (map adds bytes ++ more) ≡ hunks_after at old (new ++ bytes) more
hunks_after-adds [] at old new more = ap (λ n. hunks_after at old n more) (sym (append-nil new))
hunks_after-adds (b ∷ bytes) at old new more =
    hunks_after-adds bytes at old (new ++ b ∷ []) more ∙ ap (λ n. hunks_after at old n more) (append_assoc new (b ∷ []) bytes)

pub hunks_after-keeps : (count at : ℕ) (more : List Deed) → hunks_after at [] [] (replicate count keeps ++ more) ≡ hunks_after (at + count) [] [] more
hunks_after-keeps zero at more = let same : at ≡ at + 0 = omega arith in ap (λ n. hunks_after n [] [] more) same
hunks_after-keeps (suc count) at more =
    let same : at + 0 + 1 + count ≡ at + suc count = omega arith in
    hunks_after-keeps count (at + 0 + 1) more ∙ ap (λ n. hunks_after n [] [] more) same

-- the hunk so far ends where a byte is kept
pub hunks_after-kept : (count at : ℕ) (old new : List ℕ) (more : List Deed) → 0 < count
    → hunks_after at old new (replicate count keeps ++ more) ≡ put_hunk at old new [] ++ hunks_after (at + length old + count) [] [] more
hunks_after-kept zero at old new more some = absurd (omega arith)
hunks_after-kept (suc count) at old new more some =
    let same : at + length old + 1 + count ≡ at + length old + suc count = omega arith in
    ap (put_hunk at old new) (hunks_after-keeps count (at + length old + 1) more ∙ ap (λ n. hunks_after n [] [] more) same)
    ∙ put_hunk-append at old new (hunks_after (at + length old + suc count) [] [] more)

-- ---- how many bytes deeds go over

pub old_count-append : (one other : List Deed) → old_count (one ++ other) ≡ old_count one + old_count other
old_count-append [] other = omega arith
old_count-append (keeps ∷ one) other = let rest = old_count-append one other in omega (arith, rest)
old_count-append (removes b ∷ one) other = let rest = old_count-append one other in omega (arith, rest)
old_count-append (adds b ∷ one) other = old_count-append one other

pub old_count-keeps : (count : ℕ) → old_count (replicate count keeps) ≡ count
old_count-keeps zero = refl
old_count-keeps (suc count) = let rest = old_count-keeps count in omega (arith, rest)

pub old_count-removes : (bytes : List ℕ) → old_count (map removes bytes) ≡ length bytes
old_count-removes [] = refl
old_count-removes (b ∷ bytes) = let rest = old_count-removes bytes in omega (arith, rest)

pub old_count-adds : (bytes : List ℕ) → old_count (map adds bytes) ≡ 0
old_count-adds [] = refl
old_count-adds (b ∷ bytes) = old_count-adds bytes

-- ---- the hunks of a patch's own deeds

-- after a hunk a byte is kept, since the next one is apart
ends_before : (hunks : List Hunk) (at : ℕ) (old new : List ℕ) → AreApartFrom (at + length old + 1) hunks
    → hunks_after (at + length old + 1) [] [] (deeds_from (at + length old + 1) hunks) ≡ hunks
    → hunks_after at old new (deeds_from (at + length old) hunks) ≡ put_hunk at old new hunks
ends_before [] at old new apart rest = refl
ends_before (hunk ∷ hunks) at old new apart rest =
    let least : at + length old + 1 ≤ hunk.at = apart.0 in
    let one_more : hunk.at - (at + length old) ≡ suc (hunk.at - (at + length old + 1)) = omega arith in
    let tail : List Deed = map removes hunk.old ++ (map adds hunk.new ++ deeds_from (hunk.at + length hunk.old) hunks) in
    ap (λ n. hunks_after at old new (replicate n keeps ++ tail)) one_more ∙ ap (put_hunk at old new) rest

hunks_after-deeds_from : (hunks : List Hunk) (place : ℕ) → AreApartFrom place hunks → hunks_after place [] [] (deeds_from place hunks) ≡ hunks
hunks_after-deeds_from [] place apart = refl
hunks_after-deeds_from (hunk ∷ hunks) place apart =
    let least : place ≤ hunk.at = apart.0 in
    let there : place + (hunk.at - place) ≡ hunk.at = omega arith in
    let rest : List Deed = deeds_from (hunk.at + length hunk.old) hunks in
    hunks_after-keeps (hunk.at - place) place (map removes hunk.old ++ (map adds hunk.new ++ rest))
    ∙ ap (λ n. hunks_after n [] [] (map removes hunk.old ++ (map adds hunk.new ++ rest))) there
    ∙ hunks_after-removes hunk.old hunk.at [] [] (map adds hunk.new ++ rest)
    ∙ hunks_after-adds hunk.new hunk.at hunk.old [] rest
    ∙ ends_before hunks hunk.at hunk.old hunk.new apart.2 (hunks_after-deeds_from hunks (hunk.at + length hunk.old + 1) apart.2)
    ∙ put_hunk-changed hunk.at hunk.old hunk.new hunks apart.1

-- a patch alone is its composition
pub composes_itself : ComposesItself
composes_itself = λ patch apart. sym (ap deed_hunks (then_others-nil (deeds_of patch)) ∙ hunks_after-deeds_from patch 0 apart)
