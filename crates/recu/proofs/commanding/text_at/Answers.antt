use Rattle.std.proofs.Common.{Result, Ok, Err, IfOk}
use Rattle.recu.proofs.commanding.text_at.Goals as goal

-- what holds of a good result under a premise holds of its value under the premise
under_premise : {X E A : Type 0} (P : X → Type 0) (result : Result X E) → (A → IfOk result P) → IfOk result (λ x. A → P x)
under_premise P (Ok x) holds = holds
under_premise P (Err e) holds = tt

pub returns-clause-text : goal.returns-clause-text
returns-clause-text g c = under_premise _ c.whole_text.result c.whole_text.ensures.text
