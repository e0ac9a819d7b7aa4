use Rattle.std.proofs.Common.{◌∙◌, ◌++◌, ap}
use Rattle.rec_text.specs.Bytes.{closed_text}
use Rattle.rec_text.specs.Elements.{text_of}
use Rattle.rec_edit.specs.Rules.{comments_of}
use Rattle.rec_edit.specs.proving.Laying.{block_at}
use Rattle.rec_edit.proofs.lemmas.blocks.KindLemmas.{closed_ends}
use Rattle.rec_edit.proofs.lemmas.blocks.ReplacementLemmas.{AreLines-comments}
use Rattle.rec_edit.proofs.changes.replacement.CommentingChange.lay.Goals as goal

pub returns : goal.returns
returns c =
    let text = text_of (block_at c.args.database.now c.args.own.now c.args.end).own in
    c.lay_replaced.ensures (comments_of (closed_text text)) (AreLines-comments (closed_text text) (closed_ends text))
    (c.deref.ensures.value ∙ c.in_ok-append_comments.ensures ∙ ap (λ t. t ++ text_of (comments_of (closed_text c.text_in.result.now))) c.new-new.ensures.items
    ∙ ap (λ t. text_of (comments_of (closed_text t))) c.text_in.ensures)
