-- What is made of a record by each kind of edit.
use Rattle.std.proofs.Common.{◌≡◌, ◌∙◌, ℕ, zero, suc, ◌+◌, Bool, true, false, ◌==◌, List, [], ◌∷◌, ◌++◌, map, filter, drop, refl, ap, ap₂, sym, inl, inr, arith, Some}
use Rattle.std.proofs.Common.{if◌then◌else◌}
use Rattle.std.specs.Prelude.{flat_map, reverse}
use Rattle.std.specs.List.{AllByRecursion, list_any, list_all, enumerate_from, slice_get, prefix_len}
use Rattle.std.proofs.lemmas.Bool.{false≢true, and_parts, or_parts, eqb-true, cases_Bool}
use Rattle.std.proofs.lemmas.List.{append_assoc}
use Rattle.rec_text.specs.Canonical.{canonical, is_plain_name}
use Rattle.rec_text.specs.Elements.{Piece, IsElement, has_name, text_of}
use Rattle.rec_text.specs.Records.{is_blank_piece, is_field_piece}
use Rattle.rec_text.specs.declared.element.Kind.TheVariants.{Comment, Field}
use Rattle.rec_text.proofs.lemmas.ListLemmas.{AllByRecursion-append, AllByRecursion-prefix, AllByRecursion-following}
use Rattle.rec_sex.specs.declared.lists.field_list.Item.{Item}
use Rattle.rec_sex.specs.Lists.{picks}
use Rattle.rec_edit.specs.declared.request.Action.{Action}
use Rattle.rec_edit.specs.declared.request.Action.TheVariants.{Set, Add, SetAdd, Rename, Delete, Comment as CommentFields}
use Rattle.rec_edit.specs.Script.{Part, closed, new_pieces}
use Rattle.rec_edit.specs.Blocks.{Block, one, kept, put}
use Rattle.rec_edit.specs.Rules.{physical_lines, renamed, picked_becomes, picks_none, added, becomes_if, is_picked, deleted, edited, comments_of, fields_of, replaced, commented}
use Rattle.rec_edit.specs.Effect.{with_fields, from_field, between_fields}
use Rattle.rec_edit.proofs.lemmas.outcomes.OutcomeLemmas.{AreWritten}
use Rattle.rec_edit.specs.Wording.{names_of_action}
use Rattle.rec_edit.proofs.lemmas.scripts.ScriptLemmas.{new_pieces-append}
use Rattle.rec_edit.proofs.lemmas.scripts.LaidLemmas.{Neat-closed, closed-blank, closed-field, Neat, map-closed, map-closed-opened, piece_with, ends_newline-push}
use Rattle.rec_edit.proofs.lemmas.layouts.NeatLemmas.{AllByRecursion-drop}
use Rattle.rec_edit.proofs.lemmas.layouts.NeatLemmas.{IsPlainAction, picked_neat, IsPlainAt, picks_are_plain, found, CanStandFor-kept, picked_can_stand, added_are_closed, commented_neat}
use Rattle.rec_edit.proofs.lemmas.records.ClosedLemmas.{picks-closed}
use Rattle.rec_edit.proofs.lemmas.scripts.WellFormedLemmas.{name_of-closed}
use Rattle.rec_edit.proofs.lemmas.records.FitLemmas.{list_any-closed, append_fails}
use Rattle.rec_edit.proofs.lemmas.scripts.WellFormedLemmas.{IsClosed, IsBare, commented_are_closed, commented_are_bare}
use Rattle.rec_edit.proofs.lemmas.blocks.TurnLemmas.{IsFine, fine_one, fine_kept, new_pieces-kept, Turns, all_ends}
use Rattle.std.specs.Str.{bytes_eq}
use Rattle.rec_check.specs.Descriptors.{rec_name}
use Rattle.rec_edit.proofs.lemmas.layouts.NameLemmas.{alone_fails, added_fails, comments_fail, picked_other, plain_canonical}
use Rattle.rec_text.specs.Bytes.{ends_newline, closed_text}
use Rattle.rec_edit.specs.Task.{Pair}
use Rattle.rec_edit.proofs.lemmas.layouts.NewFieldLemmas.{CanBeWritten, fields_closed, fields_bare, fields_neat, fields_full, fields_unnamed}

-- ---- deletion

drop-fails : (test : Piece → Bool) (n : ℕ) (pieces : List Piece) → list_any test pieces ≡ false → list_any test (drop n pieces) ≡ false
drop-fails test zero pieces none = none
drop-fails test (suc n) [] none = refl
drop-fails test (suc n) (piece ∷ pieces) none = drop-fails test n pieces (or_parts (test piece) (list_any test pieces) none).1

abbrev pub turn_deleted : Block → Block
turn_deleted block = record { own = []; gap = map closed (drop (prefix_len is_blank_piece block.gap) block.gap) }

pub Turns-deleted : Turns deleted turn_deleted (λ own. [])
Turns-deleted = record {
  fine = λ block whole. (
    record { lines = tt; bares = λ lacks. tt; reopens = λ lacks. refl },
    fine_kept (drop (prefix_len is_blank_piece block.gap) block.gap)
        (AllByRecursion-drop IsElement (prefix_len is_blank_piece block.gap) block.gap (AllByRecursion-following IsElement block.own block.gap whole)),
  );
  new = λ block whole. new_pieces-kept (drop (prefix_len is_blank_piece block.gap) block.gap);
  own = λ block whole. refl;
  full = λ block own. refl;
  gap = λ block none. list_any-closed is_field_piece closed-field (drop (prefix_len is_blank_piece block.gap) block.gap)
      ∙ drop-fails is_field_piece (prefix_len is_blank_piece block.gap) block.gap none;
  apart = λ block. inl refl;
  still = λ block whole none. refl;
}

-- ---- fields: what stands there is no blank element

picked_full : (action : Action) (piece : Piece) → is_blank_piece piece ≡ false → list_any is_blank_piece (picked_becomes action piece) ≡ false
picked_full (Set value) piece full = refl
picked_full (Add value) piece full = alone_fails is_blank_piece piece full
picked_full (SetAdd value) piece full = refl
picked_full (Rename name) piece full = alone_fails is_blank_piece (renamed name piece) full
picked_full Delete piece full = refl
picked_full CommentFields piece full = comments_fail is_blank_piece (λ line. refl) (physical_lines piece.bytes)

becomes_full : (picked : Bool) (action : Action) (piece : Piece) → is_blank_piece piece ≡ false → list_any is_blank_piece (becomes_if picked action piece) ≡ false
becomes_full true action piece full = picked_full action piece full
becomes_full false action piece full = alone_fails is_blank_piece piece full

canonicals_full : (value : List ℕ) (items : List Item) → list_any is_blank_piece (map (λ item. canonical item.name value) items) ≡ false
canonicals_full value [] = refl
canonicals_full value (item ∷ items) = canonicals_full value items

added_full : (action : Action) (items : List Item) (own : List Piece) → list_any is_blank_piece (added action items own) ≡ false
added_full (Set value) items own = refl
added_full (Add value) items own = canonicals_full value items
added_full (SetAdd value) items own = canonicals_full value (filter (picks_none own) items)
added_full (Rename name) items own = refl
added_full Delete items own = refl
added_full CommentFields items own = refl

-- ---- a list picks the same with and without the newline at the end

picks_none-closed : (own : List Piece) (items : List Item) → AllByRecursion IsElement own → filter (picks_none (map closed own)) items ≡ filter (picks_none own) items
picks_none-closed own [] every = refl
picks_none-closed own (item ∷ items) every =
    ap₂ (λ (ps : List ℕ) (l : List Item). if elim ps as (λ x. Bool) [ [] ↦ true | place ∷ places ↦ false ] then item ∷ l else l) (picks-closed (item ∷ []) own every)
    (picks_none-closed own items every)

added-closed : (action : Action) (items : List Item) (own : List Piece) → AllByRecursion IsElement own → added action items (map closed own) ≡ added action items own
added-closed (Set value) items own every = refl
added-closed (Add value) items own every = refl
added-closed (SetAdd value) items own every = ap (map (λ item. canonical item.name value)) (picks_none-closed own items every)
added-closed (Rename name) items own every = refl
added-closed Delete items own every = refl
added-closed CommentFields items own every = refl

-- ---- the edit of fields

pub new_pieces-put : (new : List Piece) (parts : List Part) → new_pieces (put new ++ parts) ≡ new ++ new_pieces parts
new_pieces-put [] parts = refl
new_pieces-put (piece ∷ new) parts = refl

pub fine_put : (new : List Piece) → AllByRecursion IsClosed new → AllByRecursion IsFine (put new)
fine_put [] closeds = tt
fine_put (piece ∷ new) closeds = (record { lines = closeds; bares = λ lacks. absurd (false≢true lacks); reopens = λ lacks. absurd (false≢true lacks) }, tt)

module _ (action : Action) (items : List Item) where
  abbrev pub turn_edited : Block → Block
  turn_edited block = record { own = with_fields action items (map closed block.own); gap = map closed block.gap }

  new_pieces-ones : (places : List ℕ) (i : ℕ) (own : List Piece)
      → new_pieces (map (λ (k, piece). one (becomes_if (list_any (λ place. place == k) places) action) piece) (enumerate_from i own))
      ≡ flat_map (λ (k, piece). becomes_if (list_any (λ place. place == k) places) action piece) (enumerate_from i (map closed own))
  new_pieces-ones places i [] = refl
  new_pieces-ones places i (piece ∷ own) = ap (λ l. becomes_if (list_any (λ place. place == i) places) action (closed piece) ++ l) (new_pieces-ones places (i + 1) own)

  new_is : (block : Block) → AllByRecursion IsElement (block.own ++ block.gap) → new_pieces (edited action items block) ≡ (turn_edited block).own ++ (turn_edited block).gap
  new_is block whole =
      let own_whole = AllByRecursion-prefix IsElement block.own block.gap whole in
      let ones : List Part = map (λ (k, piece). one (becomes_if (is_picked items block.own k) action) piece) (enumerate_from 0 block.own) in
      let fields : List Piece = flat_map (λ (k, piece). becomes_if (is_picked items (map closed block.own) k) action piece) (enumerate_from 0 (map closed block.own)) in
      new_pieces-append ones (put (added action items block.own) ++ kept block.gap)
      ∙ ap₂ (λ a b. a ++ b)
      (new_pieces-ones (picks items block.own) 0 block.own
      ∙ ap (λ ps. flat_map (λ (k, piece). becomes_if (list_any (λ place. place == k) ps) action piece) (enumerate_from 0 (map closed block.own))) (sym (picks-closed items block.own own_whole)))
      (new_pieces-put (added action items block.own) (kept block.gap) ∙ ap₂ (λ a b. a ++ b) (sym (added-closed action items block.own own_whole)) (new_pieces-kept block.gap))
      ∙ sym (append_assoc fields (added action items (map closed block.own)) (map closed block.gap))

  becoming_full : (places : List ℕ) (i : ℕ) (own : List Piece) → list_any is_blank_piece own ≡ false
      → list_any is_blank_piece (flat_map (λ (k, piece). becomes_if (list_any (λ place. place == k) places) action piece) (enumerate_from i own)) ≡ false
  becoming_full places i [] none = refl
  becoming_full places i (piece ∷ own) none =
      let parts = or_parts (is_blank_piece piece) (list_any is_blank_piece own) none in
      append_fails is_blank_piece (becomes_if (list_any (λ place. place == i) places) action piece)
      (flat_map (λ (k, piece). becomes_if (list_any (λ place. place == k) places) action piece) (enumerate_from (i + 1) own))
      (becomes_full (list_any (λ place. place == i) places) action piece parts.0) (becoming_full places (i + 1) own parts.1)

  module _ (written : AreWritten action items) where
    plain_action : (a : Action) → list_all is_plain_name (names_of_action a) ≡ true → IsPlainAction a
    plain_action (Set value) names = tt
    plain_action (Add value) names = tt
    plain_action (SetAdd value) names = tt
    plain_action (Rename name) names = (and_parts (is_plain_name name) true names).0
    plain_action Delete names = tt
    plain_action CommentFields names = tt

    becomes_other : (picked : Bool) (piece : Piece) → IsElement piece → has_name rec_name piece ≡ false → list_any (has_name rec_name) (becomes_if picked action (closed piece)) ≡ false
    becomes_other true piece whole other = picked_other action piece (plain_action action written.names) whole other
    becomes_other false piece whole other = alone_fails (has_name rec_name) (closed piece) (ap (λ name. bytes_eq name rec_name) (name_of-closed piece whole) ∙ other)

    fields_other : (places : List ℕ) (i : ℕ) (own : List Piece) → AllByRecursion IsElement own → list_any (has_name rec_name) own ≡ false
        → list_any (has_name rec_name) (flat_map (λ (k, piece). becomes_if (list_any (λ place. place == k) places) action piece) (enumerate_from i (map closed own))) ≡ false
    fields_other places i [] whole none = refl
    fields_other places i (piece ∷ own) whole none =
        let parts = or_parts (has_name rec_name piece) (list_any (has_name rec_name) own) none in
        append_fails (has_name rec_name) (becomes_if (list_any (λ place. place == i) places) action (closed piece))
        (flat_map (λ (k, piece). becomes_if (list_any (λ place. place == k) places) action piece) (enumerate_from (i + 1) (map closed own)))
        (becomes_other (list_any (λ place. place == i) places) piece whole.0 parts.0) (fields_other places (i + 1) own whole.1 parts.1)

    fine_field : (own : List Piece) (i : ℕ) (piece : Piece) → IsElement piece → slice_get own i ≡ Some piece → IsFine (one (becomes_if (is_picked items own i) action) piece)
    fine_field own i piece whole at = by_mark (is_picked items own i) refl
      where
        by_mark : (picked : Bool) → is_picked items own i ≡ picked → IsFine (one (becomes_if picked action) piece)
        by_mark true is =
            let one_place = found (IsPlainAt own) (λ place. place == i) (picks items own) (picks_are_plain items own written.plain) is in
            let plain = one_place.1 piece (ap (slice_get own) (eqb-true one_place.0 i one_place.2) ∙ at) in
            fine_one (picked_becomes action) piece (picked_can_stand piece whole action plain written.names written.values)
            (λ other. picked_neat action (closed piece) (plain_action action written.names) (Neat-closed piece other))
        by_mark false is = fine_one (λ p. p ∷ []) piece (CanStandFor-kept piece whole) (λ other. (Neat-closed piece other, tt))

    fine_fields : (own : List Piece) (i : ℕ) (rest : List Piece) → AllByRecursion IsElement rest → ((k : ℕ) (piece : Piece) → slice_get rest k ≡ Some piece → slice_get own (i + k) ≡ Some piece)
        → AllByRecursion IsFine (map (λ (k, piece). one (becomes_if (is_picked items own k) action) piece) (enumerate_from i rest))
    fine_fields own i [] whole at = tt
    fine_fields own i (piece ∷ rest) whole at =
        let here : i + 0 ≡ i = omega arith in (
          fine_field own i piece whole.0 (ap (slice_get own) (sym here) ∙ at 0 piece refl),
          fine_fields own (i + 1) rest whole.1 (λ k p is. let next : i + 1 + k ≡ i + suc k = omega arith in ap (slice_get own) next ∙ at (suc k) p is),
        )

    pub Turns-edited : Turns (edited action items) turn_edited (with_fields action items)
    Turns-edited = record {
      fine = λ block whole.
          AllByRecursion-append IsFine (map (λ (k, piece). one (becomes_if (is_picked items block.own k) action) piece) (enumerate_from 0 block.own))
          (put (added action items block.own) ++ kept block.gap)
          (fine_fields block.own 0 block.own (AllByRecursion-prefix IsElement block.own block.gap whole) (λ k piece is. let same : 0 + k ≡ k = omega arith in ap (slice_get block.own) same ∙ is))
          (AllByRecursion-append IsFine (put (added action items block.own)) (kept block.gap)
          (fine_put (added action items block.own) (added_are_closed action items block.own written.plain written.values))
          (fine_kept block.gap (AllByRecursion-following IsElement block.own block.gap whole)));
      new = new_is;
      own = λ block whole. refl;
      full = λ block own.
          append_fails is_blank_piece (flat_map (λ (k, piece). becomes_if (is_picked items (map closed block.own) k) action piece) (enumerate_from 0 (map closed block.own)))
          (added action items (map closed block.own))
          (becoming_full (picks items (map closed block.own)) 0 (map closed block.own) (list_any-closed is_blank_piece closed-blank block.own ∙ own.full))
          (added_full action items (map closed block.own));
      gap = λ block none. list_any-closed is_field_piece closed-field block.gap ∙ none;
      apart = λ block. inr (λ blank. list_any-closed is_blank_piece closed-blank block.gap ∙ blank);
      still = λ block whole none.
          append_fails (has_name rec_name) (flat_map (λ (k, piece). becomes_if (is_picked items (map closed block.own) k) action piece) (enumerate_from 0 (map closed block.own)))
          (added action items (map closed block.own))
          (fields_other (picks items (map closed block.own)) 0 block.own (AllByRecursion-prefix IsElement block.own block.gap whole) none)
          (added_fails (has_name rec_name) action items (map closed block.own) written.plain (λ name value plain. plain_canonical name value plain));
    }

-- ---- a record as one

-- what a record is replaced by
pub record IsWritten (new : List Piece) : Type 0 where
  pub lines : AllByRecursion IsClosed new
  pub bares : AllByRecursion IsBare new
  pub neat : AllByRecursion Neat new
  pub full : list_any is_blank_piece new ≡ false
  pub other : list_any (has_name rec_name) new ≡ false

module _ (new : Block → List Piece) (written : (block : Block) → IsWritten (new block)) (remake : List Piece → List Piece) where
  Turns-one : ((block : Block) → between_fields (new block) ≡ between_fields (remake (map closed block.own)))
      → Turns (λ block. replaced (new block) block) (λ block. record { own = new block; gap = map closed block.gap }) remake
  Turns-one is = record {
    fine = λ block whole. (
      record {
        lines = (written block).lines;
        bares = λ lacks. (written block).bares;
        reopens = λ lacks. map-closed-opened (new block) (written block).neat ∙ sym (map-closed (new block) (all_ends (new block) (written block).lines));
      },
      fine_kept block.gap (AllByRecursion-following IsElement block.own block.gap whole),
    );
    new = λ block whole. ap (λ l. new block ++ l) (new_pieces-kept block.gap);
    own = λ block whole. is block;
    full = λ block own. (written block).full;
    gap = λ block none. list_any-closed is_field_piece closed-field block.gap ∙ none;
    apart = λ block. inr (λ blank. list_any-closed is_blank_piece closed-blank block.gap ∙ blank);
    still = λ block whole none. (written block).other;
  }

-- ---- comments

from_field-comments : (lines : List (List ℕ)) → from_field (map (λ line. record { kind = Comment; bytes = 35 ∷ line }) lines) ≡ []
from_field-comments [] = refl
from_field-comments (line ∷ lines) = from_field-comments lines

pub closed_ends : (text : List ℕ) → ends_newline (closed_text text) ≡ true
closed_ends text = elim (cases_Bool (ends_newline text)) [
  | inl ends ↦ rw ends ends
  | inr other ↦ rw other (ends_newline-push text)
]

comments_written : (text : List ℕ) → IsWritten (comments_of (closed_text text))
comments_written text =
    let piece : Piece = piece_with Field (closed_text text) in
    record {
      lines = commented_are_closed piece (closed_ends text);
      bares = commented_are_bare piece (closed_ends text);
      neat = commented_neat piece (closed_ends text);
      full = comments_fail is_blank_piece (λ line. refl) (physical_lines (closed_text text));
      other = comments_fail (has_name rec_name) (λ line. refl) (physical_lines (closed_text text));
    }

pub Turns-commented : Turns commented (λ block. record { own = comments_of (closed_text (text_of block.own)); gap = map closed block.gap }) (λ own. [])
Turns-commented =
    Turns-one (λ block. comments_of (closed_text (text_of block.own))) (λ block. comments_written (text_of block.own)) (λ own. [])
    (λ block. ap (λ l. reverse (from_field (reverse l))) (from_field-comments (physical_lines (closed_text (text_of block.own)))))

-- ---- fields

pub fields_written : (pairs : List Pair) → AllByRecursion CanBeWritten pairs → IsWritten (fields_of pairs)
fields_written pairs written = record {
  lines = fields_closed pairs written;
  bares = fields_bare pairs written;
  neat = fields_neat pairs written;
  full = fields_full pairs written;
  other = fields_unnamed pairs written;
}

pub Turns-replaced : (pairs : List Pair) → AllByRecursion CanBeWritten pairs
    → Turns (replaced (fields_of pairs)) (λ block. record { own = fields_of pairs; gap = map closed block.gap }) (λ own. fields_of pairs)
Turns-replaced pairs written = Turns-one (λ block. fields_of pairs) (λ block. fields_written pairs written) (λ own. fields_of pairs) (λ block. refl)
