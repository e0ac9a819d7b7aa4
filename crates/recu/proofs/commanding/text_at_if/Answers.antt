use Rattle.recu.proofs.commanding.text_at_if.Goals as goal

pub returns-in_ok-text_at-in-Some-clause-text : goal.returns-in_ok-text_at-in-Some-clause-text
returns-in_ok-text_at-in-Some-clause-text g c = rw c.in-Some.is (rw c.as_str.ensures.value at c.in_ok-text_at-in-Some.ensures.text)
