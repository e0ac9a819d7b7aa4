-- What holds of each kind of edit of selected records.
use Rattle.std.proofs.Common.{◌≡◌, ℕ, ◌+◌, false, List, [], ◌∷◌, ◌++◌, length, map, take, drop, refl, sym, subst, arith, ◌∙◌, ◌≤◌, ◌<◌, Bool, true, Some, Ok, inl, inr}
use Rattle.std.specs.List.{AllByRecursion, enumerate_from, prefix_len}
use Rattle.std.specs.declared.ops.Range.{Range}
use Rattle.std.proofs.lemmas.Bool.{cond_both, false≢true}
use Rattle.std.proofs.lemmas.List.{length-append}
use Rattle.rec_text.specs.Elements.{Piece, AreElementsOf, text_of}
use Rattle.rec_text.specs.Records.{AreRecords, is_blank_piece}
use Rattle.rec_text.proofs.lemmas.ListLemmas.{AllByRecursion-append}
use Rattle.rec_edit.specs.Script.{Part, opened, lacks_newline, settled, closed, old_pieces, new_pieces, edited_text}
use Rattle.rec_edit.specs.Blocks.{Block, one, kept, put, lead_of, blocks_of, parts_from, script_of, is_selected}
use Rattle.rec_edit.specs.Rules.{becomes_if, is_picked, added, deleted, edited, physical_lines, comments_of, fields_of, picked_becomes, replaced, commented}
use Rattle.rec_edit.specs.proving.Laying.{TakesAll}
use Rattle.rec_edit.proofs.lemmas.scripts.ChangeLemmas.{IsSome}
use Rattle.rec_edit.proofs.lemmas.records.FitLemmas.{IsOwn, Cut-AreRecords}
use Rattle.rec_edit.proofs.lemmas.blocks.LayingLemmas.{ranges_of_records, old_pieces-script}
use Rattle.rec_edit.proofs.lemmas.blocks.DeletionLemmas.{TakesAll-deleted}
use Rattle.rec_edit.proofs.lemmas.blocks.SettingLemmas.{TakesAll-edited}
use Rattle.rec_edit.proofs.lemmas.blocks.TurnLemmas.{Turns, AreCut, AreCut-blocks, all, all_parts_from, turned_is_read, turned_gives_way}
use Rattle.rec_edit.proofs.lemmas.blocks.KindLemmas.{turn_deleted, Turns-deleted, turn_edited, Turns-edited, Turns-commented, Turns-replaced}
use Rattle.rec_text.specs.Bytes.{ends_newline, closed_text}
use Rattle.rec_text.proofs.lemmas.FaultLemmas.{same_value}
use Rattle.rec_sex.specs.declared.lists.field_list.Item.{Item}
use Rattle.rec_check.specs.Descriptors.{types_of}
use Rattle.rec_check.specs.Schemas.{Described, IsSchema}
use Rattle.rec_edit.specs.declared.request.Action.{Action}
use Rattle.rec_edit.specs.declared.request.Action.TheVariants.{Set, Add, SetAdd, Rename, Delete, Comment as CommentFields}
use Rattle.rec_edit.specs.Task.{Pair, Wanted, NewRecord, Task, replace, delete, comment_out, set}
use Rattle.rec_edit.specs.Outcome.{AreChosen, AreRemovable, EditScript, IsEditScript, IsMade, made_of}
use Rattle.rec_edit.specs.Effect.{with_fields, TypedRecord, AreRecordsAfter, remade}
use Rattle.rec_edit.specs.proving.Changes.{hunks_of}
use Rattle.rec_edit.proofs.lemmas.records.MemberLemmas.{NoneNamed, selected_plain}
use Rattle.rec_edit.proofs.lemmas.scripts.WellFormedLemmas.{length-comments}
use Rattle.rec_edit.proofs.lemmas.scripts.LaidLemmas.{Ends-closed}
use Rattle.rec_edit.proofs.lemmas.scripts.EqualLemmas.{Grows, Shrinks, length-opened}
use Rattle.rec_edit.proofs.lemmas.layouts.NameLemmas.{comments_fail}
use Rattle.rec_edit.proofs.lemmas.layouts.NewFieldLemmas.{CanBeWritten, fields_full, new_record_can_be_written}
use Rattle.rec_edit.proofs.lemmas.outcomes.OutcomeLemmas.{AreWritten, AreItemsFor-written, one_list_of_elements}
use Rattle.rec_edit.proofs.lemmas.outcomes.EffectLemmas.{IsDone, done_keeps_sets, effect_of_done}
use Rattle.rec_edit.proofs.lemmas.outcomes.AnswerLemmas.{IsFaithful}
use Rattle.rec_edit.proofs.lemmas.blocks.ReplacementLemmas.{TakesAll-replaced}
use Rattle.rec_edit.proofs.lemmas.blocks.QuietLemmas.{IsQuiet, grows_kept, shrinks_kept, made_quiet}

-- ---- each part has elements

pub some-settled : (parts : List Part) → AllByRecursion IsSome parts → AllByRecursion IsSome (settled parts)
some-settled [] some = tt
some-settled (part ∷ []) some =
    cond_both (lacks_newline (text_of part.old)) (record { old = part.old; new = opened part.new }) part (λ p. AllByRecursion IsSome (p ∷ []))
    (λ lacks. (omega (arith, some.0, length-opened part.new), tt)) (λ ends. some)
some-settled (part ∷ next ∷ parts) some = (some.0, some-settled (next ∷ parts) some.1)

pub some-kept : (pieces : List Piece) → AllByRecursion IsSome (kept pieces)
some-kept [] = tt
some-kept (piece ∷ pieces) = (omega arith, some-kept pieces)

pub some-put : (new : List Piece) → AllByRecursion IsSome (put new)
some-put [] = tt
some-put (piece ∷ new) = (omega arith, tt)

-- ---- a kind of edit

-- What it makes of a record: a turned record, whose parts have all elements of the block; none of them is empty, and where nothing
-- is changed they make no hunk.
pub record IsKind (made : Block → List Part) (turn : Block → Block) (remake : List Piece → List Piece) : Type 0 where
  pub turns : Turns made turn remake
  pub takes : TakesAll (λ k. made)
  pub some : (block : Block) → IsOwn block.own → AllByRecursion IsSome (made block)
  pub quiet : IsQuiet made

pub IsKind-deleted : IsKind deleted turn_deleted (λ own. [])
IsKind-deleted = record {
  turns = Turns-deleted;
  takes = TakesAll-deleted;
  some = λ block own. (
    omega (arith, own.some, length-append block.own (take (prefix_len is_blank_piece block.gap) block.gap)),
    some-kept (drop (prefix_len is_blank_piece block.gap) block.gap),
  );
  quiet = inr (inl (λ block. (omega arith, shrinks_kept (drop (prefix_len is_blank_piece block.gap) block.gap))));
}

some-one : (new : List Piece) (block : Block) → IsOwn block.own → AllByRecursion IsSome (replaced new block)
some-one new block own = (omega (arith, own.some), some-kept block.gap)

pub IsKind-commented : IsKind commented (λ block. record { own = comments_of (closed_text (text_of block.own)); gap = map closed block.gap }) (λ own. [])
IsKind-commented = record {
  turns = Turns-commented;
  takes = TakesAll-replaced (λ k block. comments_of (closed_text (text_of block.own)));
  some = λ block own. some-one (comments_of (closed_text (text_of block.own))) block own;
  quiet = inr (inr (record {
    new = λ block. comments_of (closed_text (text_of block.own));
    is = λ block. refl;
    full = λ block. comments_fail is_blank_piece (λ line. refl) (physical_lines (closed_text (text_of block.own)));
  }));
}

pub IsKind-replaced : (pairs : List Pair) → AllByRecursion CanBeWritten pairs
    → IsKind (replaced (fields_of pairs)) (λ block. record { own = fields_of pairs; gap = map closed block.gap }) (λ own. fields_of pairs)
IsKind-replaced pairs written = record {
  turns = Turns-replaced pairs written;
  takes = TakesAll-replaced (λ k block. fields_of pairs);
  some = λ block own. some-one (fields_of pairs) block own;
  quiet = inr (inr (record { new = λ block. fields_of pairs; is = λ block. refl; full = λ block. fields_full pairs written }));
}

module _ (action : Action) (items : List Item) where
  all_edited : (P : Part → Type 0) → ((own : List Piece) → AllByRecursion P (put (added action items own))) → ((pieces : List Piece) → AllByRecursion P (kept pieces))
      → ((picked : Bool) (piece : Piece) → P (one (becomes_if picked action) piece)) → (block : Block) → AllByRecursion P (edited action items block)
  all_edited P puts keeps each block =
      AllByRecursion-append P (map (λ (k, piece). one (becomes_if (is_picked items block.own k) action) piece) (enumerate_from 0 block.own)) (put (added action items block.own) ++ kept block.gap)
      (each_one 0 block.own)
      (AllByRecursion-append P (put (added action items block.own)) (kept block.gap) (puts block.own) (keeps block.gap))
    where
      each_one : (i : ℕ) (pieces : List Piece) → AllByRecursion P (map (λ (k, piece). one (becomes_if (is_picked items block.own k) action) piece) (enumerate_from i pieces))
      each_one i [] = tt
      each_one i (piece ∷ pieces) = (each (is_picked items block.own i) piece, each_one (i + 1) pieces)

pub grows_put : (new : List Piece) → AllByRecursion Grows (put new)
grows_put [] = tt
grows_put (piece ∷ new) = (omega arith, tt)

some_ended : (bytes : List ℕ) → ends_newline bytes ≡ true → 0 < length bytes
some_ended [] ends = absurd (false≢true ends)
some_ended (b ∷ bytes) ends = omega arith

-- a field that is edited becomes at least one element, unless it is deleted
picked_grows : (action : Action) (items : List Item) → ((piece : Piece) → 1 ≤ length (picked_becomes action (closed piece))) → IsQuiet (edited action items)
picked_grows action items some =
    inl (all_edited action items Grows (λ own. grows_put (added action items own)) grows_kept each)
  where
    each : (picked : Bool) (piece : Piece) → Grows (one (becomes_if picked action) piece)
    each true piece = some piece
    each false piece = omega arith

deleted_shrink : (items : List Item) → IsQuiet (edited Delete items)
deleted_shrink items = inr (inl (all_edited Delete items Shrinks (λ own. tt) shrinks_kept each))
  where
    each : (picked : Bool) (piece : Piece) → Shrinks (one (becomes_if picked Delete) piece)
    each true piece = omega arith
    each false piece = omega arith

edited_quiet : (action : Action) (items : List Item) → IsQuiet (edited action items)
edited_quiet (Set value) items = picked_grows (Set value) items (λ piece. omega arith)
edited_quiet (Add value) items = picked_grows (Add value) items (λ piece. omega arith)
edited_quiet (SetAdd value) items = picked_grows (SetAdd value) items (λ piece. omega arith)
edited_quiet (Rename name) items = picked_grows (Rename name) items (λ piece. omega arith)
edited_quiet Delete items = deleted_shrink items
edited_quiet CommentFields items = picked_grows CommentFields items (λ piece. length-comments (closed piece).bytes (some_ended (closed piece).bytes (Ends-closed piece)))

pub IsKind-edited : (action : Action) (items : List Item) → AreWritten action items → IsKind (edited action items) (turn_edited action items) (with_fields action items)
IsKind-edited action items written = record {
  turns = Turns-edited action items written;
  takes = TakesAll-edited action items;
  some = λ block own. all_edited action items IsSome (λ own. some-put (added action items own)) some-kept (λ picked piece. omega arith) block;
  quiet = edited_quiet action items;
}

-- ---- what holds of its steps

module _ (pieces : List Piece) (schema : Described) (elements : AreElementsOf pieces (text_of pieces)) (is : IsSchema pieces (Ok schema)) where
  -- where nothing is changed there is no hunk
  pub unchanged_by : (script : List Part) → old_pieces script ≡ pieces → AreElementsOf (new_pieces script) (edited_text script)
      → (old_pieces script ≡ new_pieces script → hunks_of script ≡ []) → edited_text script ≡ text_of pieces → hunks_of script ≡ []
  unchanged_by script old read quiet same =
      quiet (old ∙ sym (one_list_of_elements (text_of pieces) (new_pieces script) pieces (subst (AreElementsOf (new_pieces script)) same read) elements))

  module _ (task : Task) (made : Block → List Part) (turn : Block → Block) (remake : List Piece → List Piece) (kind : IsKind made turn remake) (selected : List ℕ)
      (leads : (before after : List TypedRecord) → after ≡ remade selected remake before → AreRecordsAfter pieces schema task before after) where
    made_is_faithful : (records : List (Range ℕ)) → AreRecords pieces records → NoneNamed selected 0 (types_of pieces records)
        → IsFaithful pieces schema task (made_of (Some (length selected)) (is_selected selected) (λ k. made) pieces records)
    made_is_faithful records are none =
        let chosen : ℕ → Bool = is_selected selected in
        let script : List Part = script_of chosen (λ k. made) pieces records in
        let blocks : List Block = blocks_of pieces records in
        let old : old_pieces script ≡ pieces = old_pieces-script pieces chosen (λ k. made) kind.takes records elements (ranges_of_records pieces records are) in
        let read = turned_is_read chosen (λ k. made) (λ k. turn) (λ k. remake) (λ k. kind.turns) pieces records elements are in
        let done : IsDone pieces schema task script = record {
          records = records;
          are = are;
          selected = selected;
          made = remake;
          gives = turned_gives_way selected made turn remake kind.turns pieces records elements are none;
          leads = leads;
        } in
        let kept_sets = done_keeps_sets pieces schema task script done read is elements in
        record {
          old = old;
          some = some-settled (kept (lead_of pieces records) ++ parts_from chosen (λ k. made) 0 blocks)
              (AllByRecursion-append IsSome (kept (lead_of pieces records)) (parts_from chosen (λ k. made) 0 blocks) (some-kept (lead_of pieces records))
              (all_parts_from IsSome (λ block. IsOwn block.own) chosen (λ k. made) (λ k block own. kind.some block own) (λ block own. some-kept (all block)) 0 blocks
              (all_own blocks (AreCut-blocks pieces false 0 records (Cut-AreRecords pieces records are)))));
          read = read;
          unchanged = unchanged_by script old read (λ same. made_quiet chosen made kind.takes pieces records elements are same kind.quiet);
          sound = (kept_sets.0, kept_sets.1);
          effect = effect_of_done pieces schema task script done read;
        }
      where
        all_own : (blocks : List Block) → AreCut blocks → AllByRecursion (λ block. IsOwn block.own) blocks
        all_own [] cut = tt
        all_own (block ∷ blocks) (own, none, shut, more) = (own, all_own blocks more)

    faithful_kind : (wanted : Wanted) (edit : EditScript) → AreChosen pieces schema.sets wanted (Ok selected) → IsMade pieces made selected (Ok edit) → IsFaithful pieces schema task edit
    faithful_kind wanted edit selects (records, are, same) =
        subst (IsFaithful pieces schema task) (sym (same_value edit (made_of (Some (length selected)) (is_selected selected) (λ k. made) pieces records) same))
        (made_is_faithful records are (selected_plain pieces schema wanted.record_type wanted.filter selected records is are selects))

  removable_chosen : (wanted : Wanted) (force : Bool) (selected : List ℕ) → AreRemovable pieces schema.sets wanted force (Ok selected) → AreChosen pieces schema.sets wanted (Ok selected)
  removable_chosen wanted force selected (inl (fault, refused, e)) = absurd (cc)
  removable_chosen wanted force selected (inr (found, are, inl (fault, refused, e))) = absurd (cc)
  removable_chosen wanted force selected (inr (found, are, inr (unit, allowed, same))) =
      subst (λ s. AreChosen pieces schema.sets wanted (Ok s)) (sym (same_value selected found same)) are

  pub faithful_delete : (force : Bool) (wanted : Wanted) (edit : EditScript) → IsEditScript pieces schema force (delete wanted) (Ok edit) → IsFaithful pieces schema (delete wanted) edit
  faithful_delete force wanted edit (inl (fault, refused, e)) = absurd (cc)
  faithful_delete force wanted edit (inr (selected, are, made)) =
      let chosen = removable_chosen wanted force selected are in
      faithful_kind (delete wanted) deleted turn_deleted (λ own. []) IsKind-deleted selected (λ before after same. (selected, chosen, same)) wanted edit chosen made

  pub faithful_comment_out : (force : Bool) (wanted : Wanted) (edit : EditScript) → IsEditScript pieces schema force (comment_out wanted) (Ok edit)
      → IsFaithful pieces schema (comment_out wanted) edit
  faithful_comment_out force wanted edit (inl (fault, refused, e)) = absurd (cc)
  faithful_comment_out force wanted edit (inr (selected, are, made)) =
      let chosen = removable_chosen wanted force selected are in
      faithful_kind (comment_out wanted) commented (λ block. record { own = comments_of (closed_text (text_of block.own)); gap = map closed block.gap }) (λ own. []) IsKind-commented selected
      (λ before after same. (selected, chosen, same)) wanted edit chosen made

  pub faithful_replace : (force : Bool) (wanted : Wanted) (fresh : NewRecord) (edit : EditScript) → IsEditScript pieces schema force (replace wanted fresh) (Ok edit)
      → IsFaithful pieces schema (replace wanted fresh) edit
  faithful_replace force wanted fresh edit (inl (fault, refused, e)) = absurd (cc)
  faithful_replace force wanted fresh edit (inr (pairs, pairs_are, inl (fault, refused, e))) = absurd (cc)
  faithful_replace force wanted fresh edit (inr (pairs, pairs_are, inr (selected, chosen, made))) =
      faithful_kind (replace wanted fresh) (replaced (fields_of pairs)) (λ block. record { own = fields_of pairs; gap = map closed block.gap }) (λ own. fields_of pairs)
      (IsKind-replaced pairs (new_record_can_be_written fresh pairs pairs_are)) selected (λ before after same. (selected, pairs, chosen, pairs_are, same)) wanted edit chosen made

  pub faithful_set : (force : Bool) (wanted : Wanted) (list : List ℕ) (action : Action) (edit : EditScript) → IsEditScript pieces schema force (set wanted list action) (Ok edit)
      → IsFaithful pieces schema (set wanted list action) edit
  faithful_set force wanted list action edit (inl (fault, refused, e)) = absurd (cc)
  faithful_set force wanted list action edit (inr (items, items_are, inl (fault, refused, e))) = absurd (cc)
  faithful_set force wanted list action edit (inr (items, items_are, inr (selected, chosen, made))) =
      faithful_kind (set wanted list action) (edited action items) (turn_edited action items) (with_fields action items) (IsKind-edited action items (AreItemsFor-written action list items items_are))
      selected (λ before after same. (selected, items, chosen, items_are, same)) wanted edit chosen made
