use Rattle.rec_tools.proofs.lemmas.runs.AdoptedLemmas as adoptions
use Rattle.rec_tools.proofs.lemmas.runs.AnyTextLemmas as texts
use Rattle.rec_tools.proofs.lemmas.runs.ShowAfterLemmas as previews
use Rattle.rec_tools.proofs.laws.adopted_is_an_edit.Goals as goal

pub returns-clause-edit : goal.returns-clause-edit
returns-clause-edit c = adoptions.adopted_is_an_edit

pub returns-clause-any_text : goal.returns-clause-any_text
returns-clause-any_text c = texts.any_text_will_do

pub returns-clause-shown : goal.returns-clause-shown
returns-clause-shown c = previews.adoption_is_shown_after
