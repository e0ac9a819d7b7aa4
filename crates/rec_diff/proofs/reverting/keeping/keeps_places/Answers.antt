use Rattle.std.proofs.Common.{subst}
use Rattle.std.proofs.lemmas.Option.{MatchOption-at_none, MatchOption-at_some}
use Rattle.rec_diff.specs.Keeping.{KeepsPlaces}
use Rattle.rec_diff.specs.Placed.{IsPlaced}
use Rattle.rec_diff.specs.proving.Keeping.{AreRead, DontAllRead, StayOut, later_steps}
use Rattle.rec_diff.specs.proving.Reading.{placed_of}
use Rattle.rec_diff.proofs.lemmas.reverting.KeepingLemmas.{is_not, no_fact}
use Rattle.rec_diff.proofs.lemmas.reverting.PlacesKeptLemmas as kept
use Rattle.rec_diff.proofs.lemmas.reverting.PlacesKeptLemmas.{ahead_read, back_read}
use Rattle.rec_diff.proofs.lemmas.reverting.StepLemmas.{none_of}
use Rattle.rec_diff.proofs.reverting.keeping.keeps_places.Goals as goal

pub returns-in_default-clause-keeps : goal.returns-in_default-clause-keeps
returns-in_default-clause-keeps c = λ change later ahead back led.
    let edits = c.args.edits in
    let left = c.args.left.now in
    let none = MatchOption-at_none (DontAllRead edits left) (λ rs. AreRead edits left rs) (none_of c.in_ok-readings.field-0 c.in_default.not-Some) c.in_ok-readings.ensures.read in
    no_fact (KeepsPlaces edits.steps.now (later_steps edits) change later ahead back)
    (λ keeps.
    none keeps.before keeps.after keeps.here keeps.left (subst (λ t. IsPlaced t keeps.before) led.change_turns.from keeps.is_before)
    (subst (λ t. IsPlaced t keeps.after) led.change_turns.to keeps.is_after)
    (subst (λ t. IsPlaced t keeps.here) led.later_turns.to keeps.is_here) (subst (λ t. IsPlaced t keeps.left) led.back_turns.to keeps.is_left))

pub keeps_elements-requires-clause-beside : goal.keeps_elements-requires-clause-beside
keeps_elements-requires-clause-beside c =
    let edits = c.args.edits in
    let woven = c.args.woven.now in
    let left = c.args.left.now in
    let r = c.in-Some.readings in
    let read : AreRead edits left r = MatchOption-at_some (DontAllRead edits left) (λ rs. AreRead edits left rs) r c.in-Some.is c.in_ok-readings.ensures.read in
    let (change, later, ahead, back, led) = c.requires.led in
    let turned = ahead_read edits woven left change later ahead back led r read c.deref.result.now c.deref.ensures.value in
    let turned_too = back_read edits woven left change later ahead back led r read c.deref-2.result.now c.deref-2.ensures.value in (
      ahead,
      back,
      record {
        before = read.before;
        here = read.here;
        left = read.left;
        ahead_turns = (c.deref.result.now, turned);
        back_turns = (c.deref-2.result.now, turned_too);
        of_before = c.in_ok-before.ensures ahead turned;
        of_here = c.in_ok-here.ensures back turned_too;
      },
    )

pub keeps_records-requires-clause-beside : goal.keeps_records-requires-clause-beside
keeps_records-requires-clause-beside c =
    let edits = c.args.edits in
    let woven = c.args.woven.now in
    let left = c.args.left.now in
    let r = c.in-Some.readings in
    let read : AreRead edits left r = MatchOption-at_some (DontAllRead edits left) (λ rs. AreRead edits left rs) r c.in-Some.is c.in_ok-readings.ensures.read in
    let (change, later, ahead, back, led) = c.requires.led in
    let turned = ahead_read edits woven left change later ahead back led r read c.deref.result.now c.deref.ensures.value in
    let turned_too = back_read edits woven left change later ahead back led r read c.deref-2.result.now c.deref-2.ensures.value in (
      ahead,
      back,
      record {
        before = read.before;
        here = read.here;
        left = read.left;
        ahead_turns = (c.deref.result.now, turned);
        back_turns = (c.deref-2.result.now, turned_too);
        of_before = c.in_ok-before.ensures ahead turned;
        of_here = c.in_ok-here.ensures back turned_too;
      },
    )

pub keeps_records-requires-clause-no_other : goal.keeps_records-requires-clause-no_other
keeps_records-requires-clause-no_other c =
    let edits = c.args.edits in
    let woven = c.args.woven.now in
    let left = c.args.left.now in
    let r = c.in-Some.readings in
    let read : AreRead edits left r = MatchOption-at_some (DontAllRead edits left) (λ rs. AreRead edits left rs) r c.in-Some.is c.in_ok-readings.ensures.read in
    let (change, later, ahead, back, led) = c.requires.led in
    let turned = ahead_read edits woven left change later ahead back led r read c.deref.result.now c.deref.ensures.value in
    let turned_too = back_read edits woven left change later ahead back led r read c.deref-2.result.now c.deref-2.ensures.value in (
      ahead,
      back,
      record {
        before = read.before;
        here = read.here;
        left = read.left;
        ahead_turns = (c.deref.result.now, turned);
        back_turns = (c.deref-2.result.now, turned_too);
        of_before = c.in_ok-before.ensures ahead turned;
        of_here = c.in_ok-here.ensures back turned_too;
      },
      ((c.in_ok-keeps_elements.ensures edits left change later ahead back led read record {
        before = read.before;
        here = read.here;
        left = read.left;
        ahead_turns = (c.deref.result.now, turned);
        back_turns = (c.deref-2.result.now, turned_too);
        of_before = c.in_ok-before.ensures ahead turned;
        of_here = c.in_ok-here.ensures back turned_too;
      }).0 c.if-not-branch.false).2,
    )

pub returns-then-not-branch-clause-keeps : goal.returns-then-not-branch-clause-keeps
returns-then-not-branch-clause-keeps c = λ change later ahead back led.
    let edits = c.args.edits in
    let woven = c.args.woven.now in
    let left = c.args.left.now in
    let r = c.in-Some.readings in
    let read : AreRead edits left r = MatchOption-at_some (DontAllRead edits left) (λ rs. AreRead edits left rs) r c.in-Some.is c.in_ok-readings.ensures.read in
    let turned = ahead_read edits woven left change later ahead back led r read c.deref.result.now c.deref.ensures.value in
    let turned_too = back_read edits woven left change later ahead back led r read c.deref-2.result.now c.deref-2.ensures.value in
    no_fact (KeepsPlaces edits.steps.now (later_steps edits) change later ahead back)
    (λ keeps. is_not c.in_ok-keeps_elements.field-0 (kept.Elements edits woven left change later ahead back led r read)
    (c.in_ok-keeps_elements.ensures edits left change later ahead back led read record {
      before = read.before;
      here = read.here;
      left = read.left;
      ahead_turns = (c.deref.result.now, turned);
      back_turns = (c.deref-2.result.now, turned_too);
      of_before = c.in_ok-before.ensures ahead turned;
      of_here = c.in_ok-here.ensures back turned_too;
    }) c.if-not-branch.true (kept.keeps_elements edits woven left change later ahead back led r read keeps))

pub returns-then-not-branch-2-clause-keeps : goal.returns-then-not-branch-2-clause-keeps
returns-then-not-branch-2-clause-keeps c = λ change later ahead back led.
    let edits = c.args.edits in
    let woven = c.args.woven.now in
    let left = c.args.left.now in
    let r = c.in-Some.readings in
    let read : AreRead edits left r = MatchOption-at_some (DontAllRead edits left) (λ rs. AreRead edits left rs) r c.in-Some.is c.in_ok-readings.ensures.read in
    no_fact (KeepsPlaces edits.steps.now (later_steps edits) change later ahead back)
    (λ keeps. is_not c.in_ok-stay_out.field-0 (StayOut edits change (placed_of r.before) (placed_of r.here)) (c.in_ok-stay_out.ensures left change later ahead back led read) c.if-not-branch-2.true
    (kept.keeps_out edits woven left change later ahead back led r read keeps))

pub returns-clause-keeps : goal.returns-clause-keeps
returns-clause-keeps c = λ change later ahead back led.
    let edits = c.args.edits in
    let woven = c.args.woven.now in
    let left = c.args.left.now in
    let r = c.in-Some.readings in
    let read : AreRead edits left r = MatchOption-at_some (DontAllRead edits left) (λ rs. AreRead edits left rs) r c.in-Some.is c.in_ok-readings.ensures.read in
    let turned = ahead_read edits woven left change later ahead back led r read c.deref.result.now c.deref.ensures.value in
    let turned_too = back_read edits woven left change later ahead back led r read c.deref-2.result.now c.deref-2.ensures.value in
    let elements = (c.in_ok-keeps_elements.ensures edits left change later ahead back led read record {
      before = read.before;
      here = read.here;
      left = read.left;
      ahead_turns = (c.deref.result.now, turned);
      back_turns = (c.deref-2.result.now, turned_too);
      of_before = c.in_ok-before.ensures ahead turned;
      of_here = c.in_ok-here.ensures back turned_too;
    }).0 c.if-not-branch.false in
    let out = (c.in_ok-stay_out.ensures left change later ahead back led read).0 c.if-not-branch-2.false in
    let records = c.in_ok-keeps_records.ensures.records left change later ahead back led read record {
      before = read.before;
      here = read.here;
      left = read.left;
      ahead_turns = (c.deref.result.now, turned);
      back_turns = (c.deref-2.result.now, turned_too);
      of_before = c.in_ok-before.ensures ahead turned;
      of_here = c.in_ok-here.ensures back turned_too;
    } elements.2 in (
      λ e. kept.keeps_from edits woven left change later ahead back led r read elements out (records.0 e),
      λ keeps. records.1 (kept.keeps_records edits woven left change later ahead back led r read keeps),
    )
