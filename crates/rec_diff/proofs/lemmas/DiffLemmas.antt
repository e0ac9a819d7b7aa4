-- The printed diff of an edit: steps make one, and where they lead there is one.
use Rattle.std.proofs.Common.{arith, ◌≡◌, inl, inr, ◌∙◌, ℕ, ◌+◌, ◌-◌, ◌<◌, ◌^◌, List, [], ◌∷◌, length, Option, Result, Ok, Err, refl, sym, ap, subst}
use Rattle.rec_text.specs.declared.fault.Fault.{Fault}
use Rattle.rec_text.specs.declared.fault.Fault.TheVariants.{OutOfMemory, StoreFailed}
use Rattle.rec_journal.specs.declared.patch.Direction.{Direction}
use Rattle.rec_journal.specs.declared.patch.Direction.TheVariants.{Forward, Backward}
use Rattle.rec_journal.specs.declared.patch.Hunk.{Hunk}
use Rattle.rec_journal.specs.declared.event.EditStep.{EditStep}
use Rattle.rec_journal.specs.Direction.{that_way, Along}
use Rattle.rec_journal.specs.Patch.{Splices, SplicesFrom}
use Rattle.rec_journal.specs.Revisions.{LeadsBy}
use Rattle.rec_select.specs.Taken.{PrintsAndCounts, Puts}
use Rattle.rec_diff.specs.declared.style.DiffStyle.{DiffStyle}
use Rattle.rec_diff.specs.Changes.{cut_from}
use Rattle.rec_diff.specs.Composing.{ComposesAll, patches_of, all_deeds, deed_hunks}
use Rattle.rec_diff.specs.Diff.{IsChangeText, diff_text}
use Rattle.rec_diff.specs.Diffs.{turned_from, turned_hunks, IsDiff, OneDiff}
use Rattle.rec_diff.specs.WholeLines.{whole_lines}
use Rattle.rec_diff.proofs.lemmas.CutLemmas.{is_change, one_change}
use Rattle.rec_diff.proofs.lemmas.composing.LeadingLemmas.{composes_splices}

-- a diff is never refused
pub no_refused_diff : (direction : Direction) (style : DiffStyle) (steps : List EditStep) (here there : List ℕ) (fault : Fault) → IsDiff direction style steps here there (Err fault) → ⊥
no_refused_diff Forward style steps here there fault h = h
no_refused_diff Backward style steps here there fault h = h

-- ---- there is one

one_change_text : (style : DiffStyle) (patch : List Hunk) (before after one other : List ℕ) → IsChangeText style patch before after (Ok one) → IsChangeText style patch before after (Ok other)
    → one ≡ other
one_change_text style patch before after one other (parts, is, e) (others, is_too, k) = e ∙ ap (diff_text style) (one_change patch before after parts others is is_too) ∙ sym k

pub one_diff : OneDiff
one_diff Forward style steps here there one other (patch, composed, is) (also, composed_too, is_too) =
    one_change_text style also here there one other (subst (λ p. IsChangeText style p here there (Ok one)) (composed ∙ sym composed_too) is) is_too
one_diff Backward style steps here there one other (patch, composed, is) (also, composed_too, is_too) =
    one_change_text style (turned_hunks also) here there one other
    (subst (λ p. IsChangeText style (turned_hunks p) here there (Ok one)) (composed ∙ sym composed_too) is) is_too

-- ---- back

-- the turned hunks lead back
pub turned_splices : (before after : ℕ) (hunks : List Hunk) (here there : List ℕ) → SplicesFrom before hunks here there → SplicesFrom after (turned_from before after hunks) there here
turned_splices before after [] here there same = sym same
turned_splices before after (h ∷ hunks) here there (kept, rest_here, rest_there, at, here_is, there_is, more) =
    let moved : after + length kept ≡ after + (h.at - before) = omega (arith, at) in (
      kept,
      rest_there,
      rest_here,
      moved,
      there_is,
      here_is,
      turned_splices (h.at + length h.old) (after + (h.at - before) + length h.new) hunks rest_here rest_there more,
    )

-- the patch that steps make leads as they do
pub composed_leads : (direction : Direction) (steps : List EditStep) (patch : List Hunk) (here there : List ℕ) → length here < 2 ^ 64 → length there < 2 ^ 64
    → Along direction (LeadsBy steps) here there → ComposesAll (patches_of steps) patch
    → (before after : List ℕ) × (length before < 2 ^ 64) × (length after < 2 ^ 64) × Splices patch before after
composed_leads Forward steps patch here there fits fits_there leads composed = (here, there, fits, fits_there, composes_splices steps patch here there leads composed)
composed_leads Backward steps patch here there fits fits_there leads composed = (there, here, fits_there, fits, composes_splices steps patch there here leads composed)

-- its hunks that way lead from the text here to the text there
pub on_leads : (direction : Direction) (steps : List EditStep) (patch on : List Hunk) (here there : List ℕ) → Along direction (LeadsBy steps) here there → ComposesAll (patches_of steps) patch
    → on ≡ that_way direction (turned_hunks patch) patch → Splices on here there
on_leads Forward steps patch on here there leads composed same = subst (λ hunks. Splices hunks here there) (sym same) (composes_splices steps patch here there leads composed)
on_leads Backward steps patch on here there leads composed same =
    subst (λ hunks. Splices hunks here there) (sym same) (turned_splices 0 0 patch there here (composes_splices steps patch there here leads composed))

-- ---- where steps lead, there is one

change_text : (style : DiffStyle) (patch : List Hunk) (before after : List ℕ) → Splices patch before after → (text : List ℕ) × IsChangeText style patch before after (Ok text)
change_text style patch before after splices = let parts = whole_lines (cut_from 0 patch before) in (diff_text style parts, (parts, is_change patch before after splices, refl))

pub some_diff : (direction : Direction) (style : DiffStyle) (steps : List EditStep) (here there : List ℕ) → Along direction (LeadsBy steps) here there
    → (printed : List ℕ) × IsDiff direction style steps here there (Ok printed)
some_diff Forward style steps here there leads =
    let patch = deed_hunks (all_deeds (patches_of steps)) in
    let text = change_text style patch here there (composes_splices steps patch here there leads refl) in
    (text.0, (patch, refl, text.1))
some_diff Backward style steps here there leads =
    let patch = deed_hunks (all_deeds (patches_of steps)) in
    let text = change_text style (turned_hunks patch) here there (turned_splices 0 0 patch there here (composes_splices steps patch there here leads refl)) in
    (text.0, (patch, refl, text.1))

-- ---- what is written

diff_on : (direction : Direction) (style : DiffStyle) (steps : List EditStep) (patch on : List Hunk) (here there : List ℕ) → ComposesAll (patches_of steps) patch
    → on ≡ that_way direction (turned_hunks patch) patch → (r : Result (List ℕ) Fault) → IsChangeText style on here there r → IsDiff direction style steps here there r
diff_on Forward style steps patch on here there composed same (Ok printed) is = (patch, composed, subst (λ hunks. IsChangeText style hunks here there (Ok printed)) same is)
diff_on Backward style steps patch on here there composed same (Ok printed) is = (patch, composed, subst (λ hunks. IsChangeText style hunks here there (Ok printed)) same is)
diff_on direction style steps patch on here there composed same (Err fault) is = absurd is

puts_weaker : {X : Type 0} (P Q : Result (List ℕ) Fault → Type 0) → ((r : Result (List ℕ) Fault) → P r → Q r) → (old new : Option (List ℕ)) (result : Result X Fault)
    → Puts P old new result → Puts Q old new result
puts_weaker P Q f old new (Ok done) h = (h.0, f _ h.1, h.2)
puts_weaker P Q f old new (Err OutOfMemory) (inl kept) = inl kept
puts_weaker P Q f old new (Err OutOfMemory) (inr h) = inr (h.0, f _ h.1, h.2)
puts_weaker P Q f old new (Err StoreFailed) h = (h.0, f _ h.1, h.2)
puts_weaker P Q f old new (Err _) h = (f _ h.0, h.1)

pub written : {S X : Type 0} {contents : S → Option (List ℕ)} {failures : S → ℕ} {old new : S} (direction : Direction) (style : DiffStyle) (steps : List EditStep) (patch on : List Hunk)
    (here there : List ℕ) → ComposesAll (patches_of steps) patch → on ≡ that_way direction (turned_hunks patch) patch → (result : Result X Fault)
    → PrintsAndCounts contents failures old new (Puts (IsChangeText style on here there)) result → PrintsAndCounts contents failures old new (Puts (IsDiff direction style steps here there)) result
written {contents = contents} {old = old} {new = new} direction style steps patch on here there composed same result h = record {
  printed = puts_weaker (IsChangeText style on here there) (IsDiff direction style steps here there) (diff_on direction style steps patch on here there composed same)
      (contents old) (contents new) result h.printed;
  counted = h.counted;
  told = h.told;
  store_failed = h.store_failed;
}
