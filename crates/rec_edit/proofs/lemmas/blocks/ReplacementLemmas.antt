-- A record that is replaced as one, and one in which fields are put first: their parts, as they are carried out.
use Rattle.std.proofs.Common.{◌≡◌, ◌≢◌, ◌∙◌, ℕ, ◌-◌, ◌<◌, Bool, true, false, List, [], ◌∷◌, ◌++◌, length, take, refl, ap, sym, subst, inl, inr, arith, if◌then◌else◌}
use Rattle.std.specs.List.{AllByRecursion}
use Rattle.std.proofs.lemmas.Bool.{cases_Bool, false≢true}
use Rattle.rec_text.specs.Bytes.{ends_newline}
use Rattle.rec_text.specs.Elements.{Piece, IsElement, text_of}
use Rattle.rec_edit.specs.Task.{Pair}
use Rattle.rec_edit.specs.declared.draft.Draft.{Draft}
use Rattle.rec_edit.specs.Script.{Part, opened, lacks_newline, settled, old_pieces}
use Rattle.rec_edit.specs.Blocks.{Block, kept}
use Rattle.rec_edit.specs.Rules.{canonical, comments_of, fields_of, replaced}
use Rattle.rec_edit.specs.proving.Drafts.{LeadsOn, AreLines, AreKept}
use Rattle.rec_edit.specs.proving.Laying.{TakesAll}
use Rattle.rec_edit.proofs.lemmas.layouts.NeatLemmas.{canonical_neat, commented_neat, all_end}
use Rattle.rec_edit.proofs.lemmas.scripts.LaidLemmas.{closed-neat, piece_with}
use Rattle.rec_edit.proofs.lemmas.blocks.BlockLemmas.{some_text, AreWhole-prefix, AreWhole-following, AreKept-kept, AreLines-before, lacks-open, lacks-ends, settled-cons, old_pieces-kept}
use Rattle.rec_edit.proofs.lemmas.blocks.BlockLemmas.{LeadsOn-append, lines_end as text_ends}
use Rattle.rec_edit.proofs.lemmas.scripts.WellFormedLemmas.{AreWhole}
use Rattle.rec_edit.proofs.lemmas.scripts.ScriptLemmas.{old_pieces-settled}
use Rattle.rec_edit.proofs.lemmas.blocks.SettingLemmas.{text_of-opened}
use Rattle.rec_text.specs.declared.element.Kind.TheVariants.{Field}

pub TakesAll-replaced : (new : ℕ → Block → List Piece) → TakesAll (λ k block. replaced (new k block) block)
TakesAll-replaced new k block = ap (λ l. block.own ++ l) (old_pieces-kept block.gap)

-- what stands there, without the newline where the old elements lack one
abbrev pub ended_as : List Piece → List Piece → List Piece
ended_as own new = if ends_newline (text_of own) then new else opened new

pub settled-replaced : (own gap new : List Piece) → 0 < length own → AreWhole (own ++ gap)
    → settled (record { old = own; new = new } ∷ kept gap) ≡ record { old = own; new = ended_as own new } ∷ settled (kept gap)
settled-replaced own gap new some whole = elim (cases_Bool (ends_newline (text_of own))) [
  | inl ends ↦
      settled-cons (record { old = own; new = new }) (kept gap) (lacks-ends (text_of own) ends)
      ∙ ap (λ n. record { old = own; new = n } ∷ settled (kept gap)) (sym (chosen (ends_newline (text_of own)) ends))
  | inr other ↦ last gap whole other
]
  where
    chosen : (b : Bool) → b ≡ true → (if b then new else opened new) ≡ new
    chosen true is = refl
    chosen false is = absurd (false≢true is)

    is_some : (pieces : List Piece) → 0 < length pieces → AllByRecursion IsElement pieces → text_of pieces ≢ []
    is_some [] more elements = absurd (omega arith)
    is_some (piece ∷ pieces) more elements = some_text piece pieces elements.0

    last : (rest : List Piece) → AreWhole (own ++ rest) → ends_newline (text_of own) ≡ false
        → settled (record { old = own; new = new } ∷ kept rest) ≡ record { old = own; new = ended_as own new } ∷ settled (kept rest)
    last [] are other =
        let lacks : lacks_newline (text_of own) ≡ true = lacks-open (text_of own) (is_some own some (AreWhole-prefix own [] are).well_formed) other in
        rw (lacks, other) refl
    last (piece ∷ rest) are other =
        absurd (false≢true (sym other ∙ lines_end own some (AreLines-before own piece rest are.lines_end)))
      where
        lines_end : (pieces : List Piece) → 0 < length pieces → AreLines pieces → ends_newline (text_of pieces) ≡ true
        lines_end [] more lines = absurd (omega arith)
        lines_end (first ∷ pieces) more lines = text_ends first pieces lines

-- the code changes the record's text, and keeps what stands after it
pub replaced_laid : (own gap new : List Piece) (draft middle last : Draft) (old text written kept_text : List ℕ) → 0 < length own → AreWhole (own ++ gap) → AreLines new
    → old ≡ text_of own → text ≡ text_of new → written ≡ (if ends_newline old then text else take (length text - 1) text) → kept_text ≡ text_of gap
    → ((part : Part) → old ≡ text_of part.old → written ≡ text_of part.new → LeadsOn draft (part ∷ []) middle)
    → ((parts : List Part) → AreKept parts → kept_text ≡ text_of (old_pieces parts) → LeadsOn middle parts last)
    → LeadsOn draft (settled (replaced new (record { own = own; gap = gap }))) last
replaced_laid own gap new draft middle last old text written kept_text some whole lines old_is text_is written_is kept_is change keep =
    let part : Part = record { old = own; new = ended_as own new } in
    let new_is : written ≡ text_of (ended_as own new) = written_is ∙ ap (λ o. if ends_newline o then text else take (length text - 1) text) old_is ∙ written_as (ends_newline (text_of own)) in
    subst (λ l. LeadsOn draft l last) (sym (settled-replaced own gap new some whole))
    (LeadsOn-append draft middle last (part ∷ []) (settled (kept gap)) (change part old_is new_is)
    (keep (settled (kept gap)) (AreKept-kept gap (AreWhole-following own gap whole)) (kept_is ∙ ap text_of (sym (old_pieces-kept gap) ∙ sym (old_pieces-settled (kept gap))))))
  where
    written_as : (b : Bool) → (if b then text else take (length text - 1) text) ≡ text_of (if b then new else opened new)
    written_as true = text_is
    written_as false = text_of-opened new text (take (length text - 1) text) (length text) lines text_is refl refl

-- ---- lines

pub AreLines-fields : (pairs : List Pair) → AreLines (fields_of pairs)
AreLines-fields [] = tt
AreLines-fields (pair ∷ pairs) = (closed-neat (canonical pair.name pair.value) (canonical_neat pair.name pair.value), AreLines-fields pairs)

pub AreLines-comments : (text : List ℕ) → ends_newline text ≡ true → AreLines (comments_of text)
AreLines-comments text ends = all_end (comments_of text) (commented_neat (piece_with Field text) ends)
