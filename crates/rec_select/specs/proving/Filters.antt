-- Filters in memory, and what they stand for.
use Rattle.std.specs.Prelude.{◌≡◌, ℕ, Bool, true, List}
use Rattle.rec_text.specs.Elements.{Piece, is_line}
use Rattle.rec_text.specs.Records.{is_field_piece}
use Rattle.rec_text.specs.Values.{value_of}
use Rattle.rec_sex.specs.Searching.{searched}
use Rattle.rec_select.specs.declared.filter.Filter.{Filter as Ready}
use Rattle.rec_select.specs.declared.filter.Filter.TheVariants.{All, Expr, Index, Quick, Where}
use Rattle.rec_select.specs.Selection.{Filter, all, by_expression, at_places, with_text, with_value, Holds}

-- the filter that one in memory stands for
abbrev pub stands_for : Ready → Filter
stands_for All = all
stands_for (Expr search) = by_expression (searched search)
stands_for (Index list) = at_places list.now
stands_for (Quick text) = with_text text
stands_for (Where wanted) = with_value wanted.now

-- no newline stands in the text but at its end
abbrev pub is_one_line : List ℕ → Bool
is_one_line = is_line (λ _. true)

-- the element is a field whose value contains the text
abbrev pub HasText : List ℕ → Piece → Type 0
HasText text piece = (is_field_piece piece ≡ true) × Holds (value_of piece) text
