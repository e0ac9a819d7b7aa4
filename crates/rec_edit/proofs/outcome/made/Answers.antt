use Rattle.rec_edit.proofs.outcome.made.Goals as goal

pub returns-in-Insert : goal.returns-in-Insert
returns-in-Insert c = rw c.in-Insert.is (c.insert.ensures c.args.force)

pub returns-in-Replace : goal.returns-in-Replace
returns-in-Replace c = rw c.in-Replace.is (c.replace.ensures c.args.force)

pub returns-in-AutoFill : goal.returns-in-AutoFill
returns-in-AutoFill c = rw c.in-AutoFill.is (c.auto_fill.ensures c.args.force)

pub returns-in-Delete : goal.returns-in-Delete
returns-in-Delete c = rw c.in-Delete.is c.delete.ensures

pub returns-in-CommentOut : goal.returns-in-CommentOut
returns-in-CommentOut c = rw c.in-CommentOut.is c.comment_out.ensures

pub returns-in-Set : goal.returns-in-Set
returns-in-Set c = rw c.in-Set.is (c.set.ensures c.args.force)
