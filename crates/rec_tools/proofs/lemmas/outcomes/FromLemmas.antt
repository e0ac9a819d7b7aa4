-- What comes of a change leads from the file, unless that was another program's and is adopted.
use Rattle.std.proofs.Common.{◌≡◌, ◌⊎◌, inl, inr, true, None, Result, Ok, ap}
use Rattle.rec_text.specs.declared.fault.Fault.{Fault}
use Rattle.rec_text.proofs.lemmas.FaultLemmas.{no_both}
use Rattle.rec_journal.specs.declared.event.Tool.{Tool}
use Rattle.rec_journal.specs.History.{Opened, Opens}
use Rattle.rec_edit.specs.declared.answer.Edited.{Edited}
use Rattle.rec_tools.specs.declared.request.Reply.{Reply}
use Rattle.rec_tools.specs.declared.request.Reply.TheVariants.{Adopted}
use Rattle.rec_tools.specs.Home.{Contents}
use Rattle.rec_tools.specs.Asked.{AskedChange, editing, moving, reverting, forgetting, adopting, writing, Reading}
use Rattle.rec_tools.specs.Reverting.{IsRevertOf}
use Rattle.rec_tools.specs.Outcomes.{Outcome, IsChangeOutcome, IsPutOn, IsPutBy, edit_reply, revert_reply, write_reply}

-- the file had drifted, and is adopted
pub record IsAdopted (c : Contents) (outcome : Outcome) : Type 0 where
  pub opened : Opened
  pub opens : Opens c.file c.journal opened
  pub drifted : opened.drifted ≡ true
  pub reply : outcome.reply ≡ Adopted opened.next

-- what is put instead of a file that reads is put in place
pub put_on : {X : Type 0} (Reads : Reading X) (c : Contents) (MakesOf : Opened → Result (Tool × Edited) Fault → Type 0) (reply_for : Opened → Tool → Edited → Reply) (outcome : Outcome)
    → IsPutBy Reads MakesOf reply_for c (Ok outcome) → IsPutOn MakesOf reply_for c (Ok outcome)
put_on Reads c MakesOf reply_for outcome (inl (fault, refused, e)) = absurd (no_both outcome fault e)
put_on Reads c MakesOf reply_for outcome (inr (text, is, put)) = put

from_put : (c : Contents) (MakesOf : Opened → Result (Tool × Edited) Fault → Type 0) (reply_for : Opened → Tool → Edited → Reply) (outcome : Outcome)
    → IsPutOn MakesOf reply_for c (Ok outcome) → outcome.from ≡ None
from_put c MakesOf reply_for outcome (inl (fault, refused, e)) = absurd (no_both outcome fault e)
from_put c MakesOf reply_for outcome (inr (o, opens, inl (fault, refused, e))) = absurd (no_both outcome fault e)
from_put c MakesOf reply_for outcome (inr (o, opens, inr (told, made, inl (same, e)))) = ap (λ (x : Outcome). x.from) e
from_put c MakesOf reply_for outcome (inr (o, opens, inr (told, made, inr (differs, (plan, planned, e))))) = ap (λ (x : Outcome). x.from) e

pub from_file : (c : Contents) (change : AskedChange) (outcome : Outcome) → IsChangeOutcome c change (Ok outcome) → (outcome.from ≡ None) ⊎ IsAdopted c outcome
from_file c (editing Reads Makes) outcome is =
    inl (from_put c (λ _. Makes c.file) (λ o. edit_reply o.next o.dropped) outcome (put_on Reads c (λ _. Makes c.file) (λ o. edit_reply o.next o.dropped) outcome is))
from_file c (reverting Reads number Reverts) outcome is =
    inl (from_put c (λ o. IsRevertOf number Reverts o c.file) (λ o. revert_reply number o.next) outcome
    (put_on Reads c (λ o. IsRevertOf number Reverts o c.file) (λ o. revert_reply number o.next) outcome is))
from_file c (writing Makes) outcome is = inl (from_put c (λ _. Makes c.file) (λ o. write_reply o.next o.dropped) outcome is)
from_file c (moving direction through) outcome (inl (fault, refused, e)) = absurd (no_both outcome fault e)
from_file c (moving direction through) outcome (inr (o, opens, (settled, here, m))) = inl (ap (λ (x : Outcome). x.from) m.is)
from_file c (forgetting n dropping) outcome (inl (fault, refused, e)) = absurd (no_both outcome fault e)
from_file c (forgetting n dropping) outcome (inr (o, opens, (settled, inl (few, e)))) = inl (ap (λ (x : Outcome). x.from) e)
from_file c (forgetting n dropping) outcome (inr (o, opens, (settled, inr (more, f)))) = inl (ap (λ (x : Outcome). x.from) f.is)
from_file c (adopting old) outcome (inl (fault, refused, e)) = absurd (no_both outcome fault e)
from_file c (adopting old) outcome (inr (o, opens, inl (settled, e))) = inl (ap (λ (x : Outcome). x.from) e)
from_file c (adopting old) outcome (inr (o, opens, inr (drifted, (found, is, adopts)))) =
    inr (record { opened = o; opens = opens; drifted = drifted; reply = ap (λ (x : Outcome). x.reply) adopts.is })
