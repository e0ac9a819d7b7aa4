use Rattle.rec_diff.proofs.lemmas.HeadingLemmas.{found_now, found_fits, found_later, old_lines_to, new_lines_to}
use Rattle.rec_diff.proofs.passed.Passed.on_to.Goals as goal

pub returns-clause-known : goal.returns-clause-known
returns-clause-known c =
    let p = c.args.self in
    let r = c.requires in
    let found = c.find-found.ensures in
    record {
      old = r.old.1;
      new = r.new.1;
      old_lines = old_lines_to _ _ p r.known c.args.place r.old.0 r.old.1 r.new.0 r.new.1 _ _ found c.newlines.result c.newlines.ensures.count;
      new_lines = new_lines_to _ _ p r.known c.args.place r.old.0 r.old.1 r.new.0 r.new.1 _ _ found c.newlines-2.result c.newlines-2.ensures.count;
      line = found_fits _ _ p r.known c.args.place r.old.0 r.old.1 r.new.0 r.new.1 _ _ found;
      now = found_now _ _ p r.known c.args.place r.old.0 r.old.1 r.new.0 r.new.1 _ _ found;
      later = found_later _ _ p r.known c.args.place r.old.0 r.old.1 r.new.0 r.new.1 _ _ found;
    }
