use Rattle.std.proofs.Common.{ap, ◌∙◌, ◌==◌, not}
use Rattle.std.specs.List.{list_any}
use Rattle.rec_text.specs.Records.{is_field_piece}
use Rattle.rec_select.specs.Printing.{printed_element, value_line}
use Rattle.rec_select.proofs.lemmas.printing.BlockLemmas.{is_nil-fields, is_nil-flat_map, is_nil-closed, is_nil-value_line}
use Rattle.rec_select.proofs.block.Block.is_empty.Goals as goal

pub returns-in-Fields : goal.returns-in-Fields
returns-in-Fields c =
    let fields = c.in-Fields.fields in
    rw c.in-Fields.is (ap not (c.has_field.ensures ∙ ap (list_any is_field_piece) c.elements.ensures) ∙ is_nil-fields fields)

pub returns-in-Elements : goal.returns-in-Elements
returns-in-Elements c =
    let elements = c.in-Elements.elements in
    rw c.in-Elements.is (c.is_empty.ensures ∙ ap (λ n. n == 0) elements.ok.0 ∙ is_nil-flat_map printed_element is_nil-closed elements.items)

pub returns-in-Values : goal.returns-in-Values
returns-in-Values c =
    let elements = c.in-Values.elements in
    rw c.in-Values.is (c.is_empty-in-Values.ensures ∙ ap (λ n. n == 0) elements.ok.0 ∙ is_nil-flat_map value_line is_nil-value_line elements.items)
