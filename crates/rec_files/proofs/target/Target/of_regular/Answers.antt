use Rattle.std.specs.Prelude.{option_map, string_bytes}
use Rattle.std.proofs.Common.{◌≡◌, ◌∙◌, sym, ap, arith, Some}
use Rattle.std.proofs.lemmas.Grind.{common_steps}
use Rattle.rec_disk.specs.Disk.{IsMemory}
use Rattle.rec_disk.proofs.lemmas.Moments.{told_both}
use Rattle.rec_files.proofs.lemmas.Steps.{if_ok_so, told_next}
use Rattle.rec_files.proofs.lemmas.Succeeding.{locked_after, target_noted}
use Rattle.rec_files.proofs.target.Target.of_regular.Goals as goal

pub returns-clause-old : goal.returns-clause-old
returns-clause-old g c =
    if_ok_so c.at.result _ _
    (λ target is. told_both _ (λ s. s.at (g.D.Disk.leads c.as_str.result.now) ≡ Some (g.D.Disk.number c.in_ok-old.old.file)) _ _
    (λ s led at. sym (ap s.at (ap g.D.Disk.leads c.as_str.ensures.value ∙ led.1 ∙ sym led.0)) ∙ at ∙ sym (ap (option_map _) is)) c.in_ok-path.ensures.led
    (told_next (λ s. s.at (g.D.Disk.leads c.as_str.result.now) ≡ Some (g.D.Disk.number c.in_ok-old.old.file)) _ _ (sym c.in_ok-path.ensures.same) c.in_ok-old.ensures.opened))
    c.at.ensures.old

pub returns-in_err-old-clause-succeeds : goal.returns-in_err-old-clause-succeeds
returns-in_err-old-clause-succeeds g c = λ works.
    let locked = c.in_err-old.ensures.succeeds (c.in_ok-path.ensures.succeeds works).0 in (
      locked.0,
      λ given.
          let memory : IsMemory c.in_err-old.field-0.0 =
          locked.1 (locked_after g.D.Disk c.args.given.now (string_bytes c.in_ok-path.path) c.as_str.result.now _ _ _ _ c.in_ok-path.ensures.same c.as_str.ensures.value given
          c.in_ok-path.ensures.led) in
          grind (arith, common_steps),
    )

pub returns-clause-noted : goal.returns-clause-noted
returns-clause-noted g c =
    target_noted g.D.Disk c.args.given.now (string_bytes c.in_ok-path.path) c.as_str.result.now c.in_ok-old.old c.at.result _ _
    c.in_ok-path.ensures.same c.as_str.ensures.value c.at.ensures.given c.at.ensures.names c.at.ensures.old c.in_ok-path.ensures.last c.in_ok-path.ensures.led c.in_ok-old.ensures.opened
    c.in_ok-old.ensures.seen
