-- What an edit makes of a record and of the elements after it, up to the next record.
use Rattle.std.specs.Prelude.{ℕ, ◌==◌, Bool, true, false, List, [], ◌∷◌, ◌++◌, length, map, filter, take, drop}
use Rattle.std.specs.Prelude.{if◌then◌else◌}
use Rattle.std.specs.List.{list_any, prefix_len, enumerate_from}
use Rattle.rec_text.specs.declared.element.Kind.TheVariants.{Blank, Comment}
use Rattle.rec_text.specs.Ascii.{newline, hash}
use Rattle.rec_text.specs.Bytes.{closed_text}
pub use Rattle.rec_text.specs.Canonical.{canonical}
use Rattle.rec_text.specs.Elements.{Piece, name_of, text_of}
use Rattle.rec_text.specs.Records.{is_blank_piece}
use Rattle.rec_text.specs.Values.{on_first}
use Rattle.rec_sex.specs.declared.lists.field_list.Item.{Item}
use Rattle.rec_sex.specs.Lists.{picks}
use Rattle.rec_edit.specs.declared.request.Action.{Action}
use Rattle.rec_edit.specs.declared.request.Action.TheVariants.{Set, Add, SetAdd, Rename, Delete}
use Rattle.rec_edit.specs.declared.request.Action.TheVariants.{Comment as CommentFields}
use Rattle.rec_edit.specs.Task.{Pair}
use Rattle.rec_edit.specs.Script.{Part}
use Rattle.rec_edit.specs.Blocks.{Block, one, kept, put}

-- ---- elements that recu writes

-- the canonical fields of a new record
abbrev pub fields_of : List Pair → List Piece
fields_of pairs = map (λ pair. canonical pair.name pair.value) pairs

abbrev pub empty_line : Piece
empty_line = record { kind = Blank; bytes = newline ∷ [] }

-- the physical lines of a text, each with its newline
abbrev pub physical_lines : List ℕ → List (List ℕ)
physical_lines [] = []
physical_lines (b ∷ bs) = if b == newline then (b ∷ []) ∷ physical_lines bs else on_first b (physical_lines bs)

-- a comment for each physical line of a text: `#` stands before it
abbrev pub comments_of : List ℕ → List Piece
comments_of text = map (λ line. record { kind = Comment; bytes = hash ∷ line }) (physical_lines text)

-- another name, and all else as it stands
abbrev pub renamed : List ℕ → Piece → Piece
renamed name piece = record { kind = piece.kind; bytes = name ++ drop (length (name_of piece)) piece.bytes }

-- ---- a record as one: replaced, commented out, deleted

-- new elements stand instead of the record's own ones
abbrev pub replaced : List Piece → Block → List Part
replaced new block = record { old = block.own; new = new } ∷ kept block.gap

-- each physical line of its own elements becomes a comment
abbrev pub commented : Block → List Part
commented block = replaced (comments_of (closed_text (text_of block.own))) block

-- its own elements go, with the blank elements directly after them
abbrev pub deleted : Block → List Part
deleted block =
    let blanks : ℕ = prefix_len is_blank_piece block.gap in
    record { old = block.own ++ take blanks block.gap; new = [] } ∷ kept (drop blanks block.gap)

-- ---- its fields: set, added, renamed, deleted, commented out

-- what a picked field becomes
abbrev pub picked_becomes : Action → Piece → List Piece
picked_becomes (Set value) field = canonical (name_of field) value ∷ []
picked_becomes (Add value) field = field ∷ []
picked_becomes (SetAdd value) field = canonical (name_of field) value ∷ []
picked_becomes (Rename name) field = renamed name field ∷ []
picked_becomes Delete field = []
picked_becomes CommentFields field = comments_of field.bytes

abbrev pub picks_none : List Piece → Item → Bool
picks_none own item = elim (picks (item ∷ []) own) [ [] ↦ true | place ∷ places ↦ false ]

-- the fields that a record with these elements gets after its last one
abbrev pub added : Action → List Item → List Piece → List Piece
added (Set value) items own = []
added (Add value) items own = map (λ item. canonical item.name value) items
added (SetAdd value) items own = map (λ item. canonical item.name value) (filter (picks_none own) items)
added (Rename name) items own = []
added Delete items own = []
added CommentFields items own = []

-- what an element becomes, which may be picked
abbrev pub becomes_if : Bool → Action → Piece → List Piece
becomes_if picked action piece = if picked then picked_becomes action piece else piece ∷ []

-- the list picks the element of this place
abbrev pub is_picked : List Item → List Piece → ℕ → Bool
is_picked items own i = list_any (λ place. place == i) (picks items own)

-- each of its own elements becomes something; after the last one stand the fields that are added
abbrev pub edited : Action → List Item → Block → List Part
edited action items block =
    map (λ (i, piece). one (becomes_if (is_picked items block.own i) action) piece) (enumerate_from 0 block.own)
    ++ (put (added action items block.own) ++ kept block.gap)
