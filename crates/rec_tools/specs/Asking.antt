-- How records are asked for, and what the texts of a request mean: the filter and the shape that are asked for.
use Rattle.std.specs.Prelude.{◌≡◌, ℕ, List, Option, Some, None, Result, Ok, Err}
use Rattle.rec_text.specs.declared.fault.Fault.{Fault}
use Rattle.rec_text.specs.declared.fault.Fault.TheVariants.{BadExpression, BadPattern}
use Rattle.rec_sex.specs.declared.lists.field_list.Item.{Item}
use Rattle.rec_sex.specs.declared.lists.index_list.Span.{Span}
use Rattle.rec_sex.specs.Expressions.{IsExpression, ExpressionMayBeRefused}
use Rattle.rec_sex.specs.Grammar.{Term, fault_of}
use Rattle.rec_sex.specs.IndexList.{IsIndexList}
use Rattle.rec_sex.specs.Lists.{IsFieldList}
use Rattle.rec_select.specs.declared.records.Shape.{Shape}
use Rattle.rec_select.specs.declared.records.Shape.TheVariants.{Blocks as AllFields, Print as PrintedFields}
use Rattle.rec_select.specs.declared.records.Shape.TheVariants.{Values as PickedValues, Row as PickedRow}
use Rattle.rec_select.specs.declared.records.Shape.TheVariants.{Count as NumberAlone}
use Rattle.rec_select.specs.declared.field_value.FieldValue.{FieldValue}
use Rattle.rec_select.specs.FieldValues.{field_value_of}
use Rattle.rec_select.specs.Selection.{Filter, all, by_expression, at_places, with_text, with_value}
use Rattle.rec_tools.specs.declared.request.Ask.{Ask}
use Rattle.rec_tools.specs.declared.request.Ask.TheVariants.{All, Expr, Index, Quick, Where}
use Rattle.rec_tools.specs.declared.request.Form.{Form}
use Rattle.rec_tools.specs.declared.request.Form.TheVariants.{Blocks, Print, Values, Row, Count}

-- ---- the options that select records

-- the texts of an expression, of a list of numbers, of a text to find quickly, and of a field's name with its value,
-- where these records are asked for: one of them is given, or none
abbrev pub selection_for : Ask → Option (List ℕ) × Option (List ℕ) × Option (List ℕ) × Option (List ℕ)
selection_for All = (None, None, None, None)
selection_for (Expr text) = (Some text, None, None, None)
selection_for (Index list) = (None, Some list, None, None)
selection_for (Quick text) = (None, None, Some text, None)
selection_for (Where text) = (None, None, None, Some text)

-- ---- the filter that is asked for

-- The expression of a text, or its leftmost fault. A text after a `~` that `regex` may refuse as a pattern may be
-- refused.
abbrev pub IsExpressionFilter : List ℕ → Result Filter Fault → Type 0
IsExpressionFilter text (Ok wanted) = (term : Term) × IsExpression text term × (wanted ≡ by_expression term)
IsExpressionFilter text (Err (BadExpression place)) = fault_of text ≡ Some place
IsExpressionFilter text (Err BadPattern) = (fault_of text ≡ None) × ExpressionMayBeRefused text
IsExpressionFilter text (Err _) = ⊥

abbrev pub IsIndexFilter : List ℕ → Result Filter Fault → Type 0
IsIndexFilter text (Ok wanted) = (spans : List Span) × IsIndexList text (Ok spans) × (wanted ≡ at_places spans)
IsIndexFilter text (Err fault) = IsIndexList text (Err fault)

abbrev pub IsValueFilter : List ℕ → Result Filter Fault → Type 0
IsValueFilter text (Ok wanted) =
    (named : FieldValue) × (field_value_of text ≡ Ok named) × (wanted ≡ with_value named)
IsValueFilter text (Err fault) = field_value_of text ≡ Err fault

abbrev pub IsFilter : Ask → Result Filter Fault → Type 0
IsFilter All answer = answer ≡ Ok all
IsFilter (Expr text) answer = IsExpressionFilter text answer
IsFilter (Index list) answer = IsIndexFilter list answer
IsFilter (Quick text) answer = answer ≡ Ok (with_text text)
IsFilter (Where text) answer = IsValueFilter text answer

-- ---- the shape that is asked for

abbrev pub IsListed : (List Item → Shape) → List ℕ → Result Shape Fault → Type 0
IsListed shape_of text (Ok shape) = (items : List Item) × IsFieldList text (Ok items) × (shape ≡ shape_of items)
IsListed shape_of text (Err fault) = IsFieldList text (Err fault)

abbrev pub IsShape : Form → Result Shape Fault → Type 0
IsShape Blocks answer = answer ≡ Ok AllFields
IsShape (Print list) answer = IsListed PrintedFields list answer
IsShape (Values list) answer = IsListed PickedValues list answer
IsShape (Row list) answer = IsListed PickedRow list answer
IsShape Count answer = answer ≡ Ok NumberAlone
