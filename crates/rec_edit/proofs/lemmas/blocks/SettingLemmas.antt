-- The edit of fields of a record: its parts, as they are carried out.
use Rattle.std.proofs.Common.{◌≡◌, ◌∙◌, ℕ, zero, suc, ◌+◌, ◌-◌, ◌<◌, ◌≤◌, Bool, true, false, not, ◌&&◌, ◌==◌, List, [], ◌∷◌, ◌++◌, length, get_or, map, take, drop, refl, ap, ap₂, sym, subst}
use Rattle.std.proofs.Common.{inl, inr, arith, append-nil}
use Rattle.std.specs.List.{enumerate_from}
use Rattle.std.specs.Prelude.{if◌then◌else◌}
use Rattle.std.proofs.lemmas.Bool.{cases_Bool, eqb-true, ne_eqb, false≢true}
use Rattle.std.proofs.lemmas.List.{append_assoc, drop_all, drop_more, take_at, length-append, length-map}
use Rattle.rec_text.specs.Bytes.{ends_newline}
use Rattle.rec_text.specs.Elements.{Piece, IsElement, text_of}
use Rattle.rec_text.specs.declared.element.Element.{Element}
use Rattle.rec_text.specs.Places.{piece_of, pieces_of}
use Rattle.rec_sex.specs.declared.lists.field_list.Item.{Item}
use Rattle.rec_edit.specs.declared.request.Action.{Action}
use Rattle.rec_edit.specs.declared.draft.Draft.{Draft}
use Rattle.rec_edit.specs.Script.{Part, closed, opened, without_newline, lacks_newline, settled, old_pieces}
use Rattle.rec_edit.specs.Blocks.{one, kept, put}
use Rattle.rec_edit.specs.Rules.{becomes_if, is_picked, added, edited}
use Rattle.rec_edit.specs.proving.Drafts.{IsDraft, LeadsOn, AreLines}
use Rattle.rec_edit.specs.proving.Laying.{TakesAll, settled_if, own_parts}
use Rattle.rec_edit.proofs.lemmas.scripts.ScriptLemmas.{old_pieces-append}
use Rattle.rec_edit.proofs.lemmas.scripts.LaidLemmas.{Ends-closed}
use Rattle.rec_edit.proofs.lemmas.layouts.NeatLemmas.{picked_ends, added_neat, all_end}
use Rattle.rec_edit.proofs.lemmas.scripts.WellFormedLemmas.{AreWhole}
use Rattle.rec_edit.proofs.lemmas.blocks.BlockLemmas.{AreWhole-following, element_some, lacks-ends, lacks-open, settled-cons, settled-put, old_pieces-kept, LeadsOn-append}

-- ---- the old elements

old_pieces-ones : (f : ℕ → Piece → List Piece) (i : ℕ) (pieces : List Piece) → old_pieces (map (λ (k, piece). one (f k) piece) (enumerate_from i pieces)) ≡ pieces
old_pieces-ones f i [] = refl
old_pieces-ones f i (piece ∷ pieces) = ap (λ l. piece ∷ l) (old_pieces-ones f (i + 1) pieces)

pub old_pieces-put : (new : List Piece) (parts : List Part) → old_pieces (put new ++ parts) ≡ old_pieces parts
old_pieces-put [] parts = refl
old_pieces-put (piece ∷ new) parts = refl

pub TakesAll-edited : (action : Action) (items : List Item) → TakesAll (λ k. edited action items)
TakesAll-edited action items k block =
    let ones : List Part = map (λ (k, piece). one (becomes_if (is_picked items block.own k) action) piece) (enumerate_from 0 block.own) in
    old_pieces-append ones (put (added action items block.own) ++ kept block.gap)
    ∙ ap₂ (λ a b. a ++ b) (old_pieces-ones (λ k. becomes_if (is_picked items block.own k) action) 0 block.own)
    (old_pieces-put (added action items block.own) (kept block.gap) ∙ old_pieces-kept block.gap)

-- ---- the parts are settled

-- something is put after them
abbrev pub is_more : List Piece → Bool
is_more [] = false
is_more (piece ∷ new) = true

module _ (becomes : Piece → List Piece) (piece : Piece) where
  ended_first : (more : Bool) (parts : List Part) → ends_newline piece.bytes ≡ true
      → settled (one becomes piece ∷ parts) ≡ record { old = piece ∷ []; new = settled_if more becomes piece } ∷ settled parts
  ended_first more parts ends =
      let bytes : ends_newline (text_of (piece ∷ [])) ≡ true = ap ends_newline (append-nil piece.bytes) ∙ ends in
      let same : settled_if more becomes piece ≡ becomes (closed piece) = plain more (ends_newline piece.bytes) ends in
      settled-cons (one becomes piece) parts (lacks-ends (text_of (piece ∷ [])) bytes) ∙ ap (λ n. record { old = piece ∷ []; new = n } ∷ settled parts) (sym same)
    where
      plain : (m e : Bool) → e ≡ true → (if not m && not e then opened (becomes (closed piece)) else becomes (closed piece)) ≡ becomes (closed piece)
      plain true e is = refl
      plain false e is = rw is refl

  -- the last element of the text, which may lack its newline
  last_first : (new : List Piece) → IsElement piece
      → settled (one becomes piece ∷ (put new ++ [])) ≡ record { old = piece ∷ []; new = settled_if (is_more new) becomes piece } ∷ (put new ++ [])
  last_first new is = elim (cases_Bool (ends_newline piece.bytes)) [
    | inl ends ↦ ended_first (is_more new) (put new ++ []) ends ∙ ap (λ l. record { old = piece ∷ []; new = settled_if (is_more new) becomes piece } ∷ l) (settled-put new [])
    | inr other ↦ open_first new other
  ]
    where
      open_first : (new : List Piece) → ends_newline piece.bytes ≡ false
          → settled (one becomes piece ∷ (put new ++ [])) ≡ record { old = piece ∷ []; new = settled_if (is_more new) becomes piece } ∷ (put new ++ [])
      open_first [] other =
          let bytes : ends_newline (text_of (piece ∷ [])) ≡ false = ap ends_newline (append-nil piece.bytes) ∙ other in
          let lacks : lacks_newline (text_of (piece ∷ [])) ≡ true = lacks-open (text_of (piece ∷ [])) (λ none. element_some piece.kind piece.bytes is (sym (append-nil piece.bytes) ∙ none)) bytes in
          rw lacks (rw other refl)
      open_first (next ∷ new) other = refl

-- these marks are those of the test from an index on
abbrev pub AreMarksFrom : (ℕ → Bool) → ℕ → List Bool → List Piece → Type 0
AreMarksFrom test i [] [] = Unit {0}
AreMarksFrom test i [] (piece ∷ pieces) = ⊥
AreMarksFrom test i (marked ∷ marks) [] = ⊥
AreMarksFrom test i (marked ∷ marks) (piece ∷ pieces) = (marked ≡ test i) × AreMarksFrom test (i + 1) marks pieces

module _ (action : Action) (test : ℕ → Bool) (new : List Piece) where
  abbrev ones_from : ℕ → List Piece → List Part
  ones_from i pieces = map (λ (k, piece). one (becomes_if (test k) action) piece) (enumerate_from i pieces)

  marked_part : (more marked other : Bool) (piece : Piece) (parts : List Part) → marked ≡ other
      → ◌≡◌ {A = List Part} (record { old = piece ∷ []; new = settled_if more (becomes_if other action) piece } ∷ parts)
      (record { old = piece ∷ []; new = settled_if more (becomes_if marked action) piece } ∷ parts)
  marked_part more marked other piece parts same = ap (λ b. record { old = piece ∷ []; new = settled_if more (becomes_if b action) piece } ∷ parts) (sym same)

  pub settled-fields : (i : ℕ) (marks : List Bool) (pieces gap : List Piece) → AreMarksFrom test i marks pieces → AreWhole (pieces ++ gap)
      → settled (ones_from i pieces ++ (put new ++ kept gap)) ≡ own_parts (is_more new) action marks pieces ++ (put new ++ settled (kept gap))
  settled-fields i [] [] gap marked are = settled-put new (kept gap)
  settled-fields i [] (piece ∷ pieces) gap marked are = absurd marked
  settled-fields i (mark ∷ marks) [] gap marked are = absurd marked
  settled-fields i (mark ∷ []) (piece ∷ []) [] marked are =
      last_first (becomes_if (test i) action) piece new are.well_formed.0 ∙ marked_part (is_more new) mark (test i) piece (put new ++ []) marked.0
  settled-fields i (mark ∷ next ∷ marks) (piece ∷ []) [] marked are = absurd marked.1
  settled-fields i (mark ∷ []) (piece ∷ []) (other ∷ gap) marked are =
      ended_first (becomes_if (test i) action) piece (is_more new) (put new ++ kept (other ∷ gap)) are.lines_end.0
      ∙ marked_part (is_more new) mark (test i) piece (settled (put new ++ kept (other ∷ gap))) marked.0
      ∙ ap (λ l. record { old = piece ∷ []; new = settled_if (is_more new) (becomes_if mark action) piece } ∷ l) (settled-put new (kept (other ∷ gap)))
  settled-fields i (mark ∷ next ∷ marks) (piece ∷ []) (other ∷ gap) marked are = absurd marked.1
  settled-fields i (mark ∷ marks) (piece ∷ other ∷ pieces) gap marked are =
      let rest : List Part = ones_from (i + 1) (other ∷ pieces) ++ (put new ++ kept gap) in
      ended_first (becomes_if (test i) action) piece (is_more new) rest are.lines_end.0
      ∙ marked_part (is_more new) mark (test i) piece (settled rest) marked.0
      ∙ ap (λ l. record { old = piece ∷ []; new = settled_if (is_more new) (becomes_if mark action) piece } ∷ l)
      (settled-fields (i + 1) marks (other ∷ pieces) gap marked.1 (AreWhole-following (piece ∷ []) ((other ∷ pieces) ++ gap) are))

-- ---- marks

-- marks that are found one by one
pub marks_from : (test : ℕ → Bool) (i : ℕ) (marks : List Bool) (pieces : List Piece) → length marks ≡ length pieces → ((k : ℕ) → k < length pieces → get_or marks k false ≡ test (i + k))
    → AreMarksFrom test i marks pieces
marks_from test i [] [] size each = tt
marks_from test i [] (piece ∷ pieces) size each = absurd (omega (arith, size))
marks_from test i (marked ∷ marks) [] size each = absurd (omega (arith, size))
marks_from test i (marked ∷ marks) (piece ∷ pieces) size each = (
  each 0 (omega arith) ∙ ap test (let e : i + 0 ≡ i = omega arith in e),
  marks_from test (i + 1) marks pieces (omega (arith, size)) (λ k within. each (suc k) (omega arith) ∙ ap test (let e : i + suc k ≡ i + 1 + k = omega arith in e)),
)

-- ---- lines

pub AreLines-becomes : (picked : Bool) (action : Action) (piece : Piece) → AreLines (becomes_if picked action (closed piece))
AreLines-becomes true action piece = picked_ends action (closed piece) (Ends-closed piece)
AreLines-becomes false action piece = (Ends-closed piece, tt)

pub AreLines-added : (action : Action) (items : List Item) (own : List Piece) → AreLines (added action items own)
AreLines-added action items own = all_end (added action items own) (added_neat action items own)

-- elements with newlines have a byte where there are any
pub is_more-text : (new : List Piece) (size : ℕ) → AreLines new → size ≡ length (text_of new) → not (size == 0) ≡ is_more new
is_more-text [] size lines is = ap (λ n. not (n == 0)) is
is_more-text (piece ∷ new) size lines is = some_bytes piece.bytes lines.0 (is ∙ length-append piece.bytes (text_of new))
  where
    some_bytes : (bytes : List ℕ) → ends_newline bytes ≡ true → size ≡ length bytes + length (text_of new) → not (size == 0) ≡ true
    some_bytes [] ends total = absurd (cc)
    some_bytes (b ∷ bytes) ends total = ap not (ne_eqb size 0 (λ same. omega (arith, total, same)))

-- ---- without its newline

without_newline-parts : (bytes : List ℕ) → ends_newline bytes ≡ true → bytes ≡ without_newline bytes ++ 10 ∷ []
without_newline-parts [] ends = absurd (false≢true ends)
without_newline-parts (b ∷ []) ends = rw ends (ap (λ n. n ∷ []) (eqb-true b 10 ends))
without_newline-parts (b ∷ c ∷ bs) ends = ap (λ t. b ∷ t) (without_newline-parts (c ∷ bs) ends)

opened_parts : (piece : Piece) (pieces : List Piece) → AreLines (piece ∷ pieces) → text_of (piece ∷ pieces) ≡ text_of (opened (piece ∷ pieces)) ++ 10 ∷ []
opened_parts piece [] lines = append-nil piece.bytes ∙ without_newline-parts piece.bytes lines.0 ∙ ap (λ t. t ++ 10 ∷ []) (sym (append-nil (without_newline piece.bytes)))
opened_parts piece (next ∷ pieces) lines =
    ap (λ t. piece.bytes ++ t) (opened_parts next pieces lines.1) ∙ sym (append_assoc piece.bytes (text_of (opened (next ∷ pieces))) (10 ∷ []))

take-nil : (n : ℕ) → ◌≡◌ {A = List ℕ} (take n []) []
take-nil zero = refl
take-nil (suc n) = refl

pub text_of-opened : (pieces : List Piece) (text popped : List ℕ) (size : ℕ) → AreLines pieces → text ≡ text_of pieces → size ≡ length text → popped ≡ take (size - 1) text
    → popped ≡ text_of (opened pieces)
text_of-opened [] text popped size lines is sized pop = pop ∙ ap (take (size - 1)) is ∙ take-nil (size - 1)
text_of-opened (piece ∷ pieces) text popped size lines is sized pop =
    let parts = is ∙ opened_parts piece pieces lines in
    let prefix = text_of (opened (piece ∷ pieces)) in
    let short : length prefix ≡ size - 1 = omega (arith, ap length parts, length-append prefix (10 ∷ [])) in
    pop ∙ ap (take (size - 1)) parts ∙ take_at prefix (10 ∷ []) (size - 1) short

-- the code takes the newline off what it wrote
pub popped_settled : (more picked : Bool) (action : Action) (piece : Piece) (empty written popped : List ℕ) (size : ℕ) → more ≡ false → ends_newline piece.bytes ≡ false → empty ≡ []
    → written ≡ empty ++ text_of (becomes_if picked action (closed piece)) → size ≡ length written → popped ≡ take (size - 1) written
    → popped ≡ text_of (settled_if more (becomes_if picked action) piece)
popped_settled more picked action piece empty written popped size last other none is sized pop =
    text_of-opened (becomes_if picked action (closed piece)) written popped size (AreLines-becomes picked action piece)
    (is ∙ ap (λ t. t ++ text_of (becomes_if picked action (closed piece))) none) sized pop
    ∙ ap text_of (sym (settled_open more (ends_newline piece.bytes) last other))
  where
    settled_open : (m e : Bool) → m ≡ false → e ≡ false
        → (if not m && not e then opened (becomes_if picked action (closed piece)) else becomes_if picked action (closed piece)) ≡ opened (becomes_if picked action (closed piece))
    settled_open true e m_is e_is = absurd (false≢true (sym m_is))
    settled_open false true m_is e_is = absurd (false≢true (sym e_is))
    settled_open false false m_is e_is = refl

-- ---- element by element

-- where these parts come next, the second draft is the first one with these left
abbrev pub LeadsTo : Draft → List Part → Draft → List Part → Type 0
LeadsTo draft parts new left = (rest whole : List Part) → IsDraft draft (parts ++ rest) whole → IsDraft new (left ++ rest) whole

pub drop-pieces_of : (elements : List Element) (i : ℕ) (d : Element) → i < length elements → drop i (pieces_of elements) ≡ piece_of (get_or elements i d) ∷ drop (i + 1) (pieces_of elements)
drop-pieces_of [] i d within = absurd (omega arith)
drop-pieces_of (element ∷ elements) zero d within = refl
drop-pieces_of (element ∷ elements) (suc i) d within =
    drop-pieces_of elements i d (omega arith) ∙ ap (λ n. piece_of (get_or elements i d) ∷ drop n (pieces_of (element ∷ elements))) (let e : suc (i + 1) ≡ suc i + 1 = omega arith in e)

module _ (more : Bool) (action : Action) (marks : List Bool) (elements : List Element) (i : ℕ) (d : Element) (within : i < length elements) (size : length marks ≡ length elements) where
  left_parts : own_parts more action (drop i marks) (drop i (pieces_of elements))
      ≡ record { old = piece_of (get_or elements i d) ∷ []; new = settled_if more (becomes_if (get_or marks i false) action) (piece_of (get_or elements i d)) }
      ∷ own_parts more action (drop (i + 1) marks) (drop (i + 1) (pieces_of elements))
  left_parts =
      ap₂ (own_parts more action) (drop_more marks i false (omega arith)) (drop-pieces_of elements i d within)

  pub field_laid : (first draft new : Draft) (parts : List Part) (old text : List ℕ)
      → LeadsTo first parts draft (own_parts more action (drop i marks) (drop i (pieces_of elements)))
      → old ≡ (get_or elements i d).raw.now → text ≡ text_of (settled_if more (becomes_if (get_or marks i false) action) (piece_of (get_or elements i d)))
      → ((part : Part) → old ≡ text_of part.old → text ≡ text_of part.new → LeadsOn draft (part ∷ []) new)
      → LeadsTo first parts new (own_parts more action (drop (i + 1) marks) (drop (i + 1) (pieces_of elements)))
  field_laid first draft new parts old text leads old_is text_is change = λ rest whole is.
      let part : Part = record { old = piece_of (get_or elements i d) ∷ []; new = settled_if more (becomes_if (get_or marks i false) action) (piece_of (get_or elements i d)) } in
      let following : List Part = own_parts more action (drop (i + 1) marks) (drop (i + 1) (pieces_of elements)) in
      change part (old_is ∙ sym (append-nil (get_or elements i d).raw.now)) text_is (following ++ rest) whole
      (subst (λ l. IsDraft draft (l ++ rest) whole) left_parts (leads rest whole is))

  pub field_size : (at : ℕ) (total : ℕ) → at + length (text_of (drop i (pieces_of elements))) ≡ total
      → at + length (get_or elements i d).raw.now + length (text_of (drop (i + 1) (pieces_of elements))) ≡ total
  field_size at total is =
      let parts = ap (λ l. length (text_of l)) (drop-pieces_of elements i d within) in
      omega (arith, is, parts, length-append (get_or elements i d).raw.now (text_of (drop (i + 1) (pieces_of elements))))

own_parts-nil : (more : Bool) (action : Action) (marks : List Bool) → own_parts more action marks [] ≡ []
own_parts-nil more action [] = refl
own_parts-nil more action (mark ∷ marks) = refl

-- after the last one
pub fields_done : (more : Bool) (action : Action) (marks : List Bool) (elements : List Element) (i : ℕ) (first draft : Draft) (parts : List Part) → length elements ≤ i
    → LeadsTo first parts draft (own_parts more action (drop i marks) (drop i (pieces_of elements))) → LeadsOn first parts draft
fields_done more action marks elements i first draft parts past leads = λ rest whole is.
    let none : own_parts more action (drop i marks) (drop i (pieces_of elements)) ≡ [] =
    ap (own_parts more action (drop i marks)) (drop_all i (pieces_of elements) (omega (arith, length-map elements piece_of))) ∙ own_parts-nil more action (drop i marks) in
    subst (λ left. IsDraft draft (left ++ rest) whole) none (leads rest whole is)

-- ---- a record

pub fields_laid : (action : Action) (items : List Item) (own gap : List Piece) (marks : List Bool) (more : Bool) (draft first second new : Draft) → AreWhole (own ++ gap)
    → length marks ≡ length own → ((k : ℕ) → k < length own → get_or marks k false ≡ is_picked items own k) → more ≡ is_more (added action items own)
    → LeadsOn draft (own_parts more action marks own) first → LeadsOn first (put (added action items own)) second → LeadsOn second (settled (kept gap)) new
    → LeadsOn draft (settled (edited action items (record { own = own; gap = gap }))) new
fields_laid action items own gap marks more draft first second new whole size each more_is one two three =
    let fields : List Piece = added action items own in
    let parts = settled-fields action (is_picked items own) fields 0 marks own gap (marks_from (is_picked items own) 0 marks own size
    (λ k within. each k within ∙ ap (is_picked items own) (let e : k ≡ 0 + k = omega arith in e))) whole in
    let one_is : LeadsOn draft (own_parts (is_more fields) action marks own) first = subst (λ b. LeadsOn draft (own_parts b action marks own) first) more_is one in
    subst (λ l. LeadsOn draft l new) (sym parts)
    (LeadsOn-append draft first new (own_parts (is_more fields) action marks own) (put fields ++ settled (kept gap)) one_is
    (LeadsOn-append first second new (put fields) (settled (kept gap)) two three))
