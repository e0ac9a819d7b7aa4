use Rattle.std.proofs.Common.{refl}
use Rattle.rec_files.specs.OnDisk.{places_of}
use Rattle.rec_files.proofs.lemmas.Requests.{previews_still}
use Rattle.rec_files.proofs.running.preview_through.Goals as goal

pub returns-clause-still : goal.returns-clause-still
returns-clause-still g c =
    let (answers, ends, printed, out, done) = c.preview_through.ensures.attempts in
    previews_still g.D.Disk c.args.style.now c.args.direction c.args.number c.args.home.now c.preview_through.new.home (places_of g.D.Disk c.args.home.now) refl answers printed done
