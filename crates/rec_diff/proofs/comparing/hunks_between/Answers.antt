use Rattle.std.proofs.Common.{◌≡◌, ◌∙◌, [], map, ap}
use Rattle.rec_diff.specs.Comparing.{hunks_between, parts_between}
use Rattle.rec_diff.specs.WholeLines.{whole_lines}
use Rattle.rec_diff.specs.proving.Cutting.{hunk_at}
use Rattle.rec_diff.specs.proving.Turns.{site_of}
use Rattle.rec_diff.proofs.lemmas.RestLemmas.{IfOk-map}
use Rattle.rec_diff.proofs.lemmas.comparing.BetweenLemmas.{hunks-sites}
use Rattle.rec_diff.proofs.comparing.hunks_between.Goals as goal

pub returns : goal.returns
returns c =
    let old = c.args.old.now in
    let new = c.args.new.now in
    IfOk-map c.hunks_by.result (λ hunks. hunks.items ≡ map hunk_at (map (site_of old new) c.deref.result.now)) (λ hunks. hunks.items ≡ hunks_between old new)
    (λ hunks is. is ∙ ap (λ ts. map hunk_at (map (site_of old new) ts)) c.deref.ensures.value ∙ ap (map hunk_at) c.in_ok-turns.ensures.places
    ∙ hunks-sites [] [] (whole_lines (parts_between old new)))
    c.hunks_by.ensures
