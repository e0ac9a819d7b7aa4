use Rattle.std.proofs.Common.{refl}
use Rattle.rec_journal.proofs.lemmas.texts.StandingLemmas.{LeadOn-joined}
use Rattle.rec_tools.proofs.reverting.patch_back.Goals as goal

pub revert-requires-clause-later : goal.revert-requires-clause-later
revert-requires-clause-later c =
    rw (c.deref.ensures.value, c.in_ok-later.ensures, c.after.ensures, c.texts-texts.ensures)
    (LeadOn-joined c.args.standing.now.later c.args.standing.now.made.after c.args.file.now c.requires.later)

pub returns-clause-found : goal.returns-clause-found
returns-clause-found c = (
  refl,
  rw (c.deref.ensures.value, c.in_ok-later.ensures, c.steps.ensures, c.before-2.ensures, c.after.ensures, c.texts-texts.ensures, c.in-None.is) at c.in_ok-back.ensures.patch,
)
