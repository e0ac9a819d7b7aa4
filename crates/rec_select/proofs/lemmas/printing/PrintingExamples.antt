-- The definitions at small records: each example computes.
use Rattle.std.specs.Prelude.{codes}
use Rattle.std.proofs.Common.{◌≡◌, ℕ, true, false, List, [], ◌∷◌, ◌++◌, Some, None, refl}
use Rattle.std.specs.Fmt.{digits}
use Rattle.rec_text.specs.declared.element.Kind.TheVariants.{Comment, Field}
use Rattle.rec_text.specs.Elements.{Piece}
use Rattle.rec_sex.specs.declared.lists.field_list.Item.{Item}
use Rattle.rec_select.specs.declared.records.Shape.TheVariants.{Blocks, Print, Values, Row, Count}
use Rattle.rec_select.specs.Printing.{block_of, joined_blocks, number_line}

-- `A: 1`, a comment, and `B: 2`, after which no newline stands
abbrev sample : List Piece
sample =
    record { kind = Field; bytes = codes "A: 1\n" } ∷ record { kind = Comment; bytes = codes "# c\n" } ∷ record { kind = Field; bytes = codes "B: 2" } ∷ []

-- B, then A twice
abbrev list : List Item
list =
    record { name = codes "B"; occurrences = None } ∷ record { name = codes "A"; occurrences = Some (record { first = 0; last = 0 }) }
    ∷ record { name = codes "A"; occurrences = None } ∷ []

-- a field that isn't there, and an occurrence that isn't
abbrev absent : List Item
absent = record { name = codes "Z"; occurrences = None } ∷ record { name = codes "A"; occurrences = Some (record { first = 1; last = 2 }) } ∷ []

comments_are_left_out : block_of Blocks sample ≡ codes "A: 1\nB: 2\n"
comments_are_left_out = refl

picked_fields_stand_in_the_order_of_the_list : block_of (Print list) sample ≡ codes "B: 2\nA: 1\nA: 1\n"
picked_fields_stand_in_the_order_of_the_list = refl

values_stand_in_lines : block_of (Values list) sample ≡ codes "2\n1\n1\n"
values_stand_in_lines = refl

values_stand_in_a_row : block_of (Row list) sample ≡ codes "2 1 1\n"
values_stand_in_a_row = refl

count_has_no_block : block_of Count sample ≡ []
count_has_no_block = refl

nothing_is_picked : block_of (Print absent) sample ++ block_of (Values absent) sample ++ block_of (Row absent) sample ≡ []
nothing_is_picked = refl

-- ---- blocks

abbrev blocks : List (List ℕ)
blocks = codes "A: 1\n" ∷ [] ∷ codes "B: 2\nC: 3\n" ∷ codes "D: 4\n" ∷ []

blocks_stand_apart : joined_blocks false blocks ≡ codes "A: 1\n\nB: 2\nC: 3\n\nD: 4\n"
blocks_stand_apart = refl

collapsed_blocks : joined_blocks true blocks ≡ codes "A: 1\nB: 2\nC: 3\nD: 4\n"
collapsed_blocks = refl

empty_blocks_at_the_ends : joined_blocks false ([] ∷ codes "A: 1\n" ∷ [] ∷ []) ≡ codes "A: 1\n"
empty_blocks_at_the_ends = refl

no_block : joined_blocks false ([] ∷ [] ∷ []) ≡ []
no_block = refl

numbers : number_line 0 ++ number_line 27 ≡ codes "0\n27\n"
unfolding digits
numbers = refl
