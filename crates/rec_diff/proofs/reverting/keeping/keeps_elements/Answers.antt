use Rattle.std.proofs.Common.{◌≡◌, ◌∙◌, ◌⊎◌, ◌↔◌, true, ap₂, subst, sym}
use Rattle.std.specs.List.{AllByRecursion}
use Rattle.rec_diff.specs.Making.{StaysAmong, WasAmong}
use Rattle.rec_diff.specs.proving.Keeping.{HaveNoOther}
use Rattle.rec_diff.specs.proving.Numbering.{all_known}
use Rattle.rec_diff.specs.proving.Reading.{placed_of}
use Rattle.rec_diff.proofs.lemmas.reverting.KeepingLemmas.{both_origins_known, is_not, no_fact, numbers_known, origins_known}
use Rattle.rec_diff.proofs.lemmas.reverting.PlacesKeptLemmas.{change_read, later_read}
use Rattle.rec_diff.proofs.reverting.keeping.keeps_elements.Goals as goal

pub returns-then-not-are_known : goal.returns-then-not-are_known
returns-then-not-are_known c = λ edits left change later ahead back led read beside.
    let r = c.args.known.readings.now in
    let known = c.args.known in
    let woven = c.args.woven.now in
    let kept = c.in_ok-kept.ensures change (change_read edits woven left change later ahead back led r read c.deref.result.now c.deref.ensures.value) in
    let was = c.in_ok-was.ensures later (later_read edits woven left change later ahead back led r read c.deref-2.result.now c.deref-2.ensures.value) in
    let One = AllByRecursion (λ x. StaysAmong change (placed_of r.after).elements x ⊎ StaysAmong ahead (placed_of r.left).elements x) (placed_of r.before).elements in
    let Two = AllByRecursion (λ x. WasAmong later (placed_of r.after).elements x ⊎ StaysAmong back (placed_of r.left).elements x) (placed_of r.here).elements in
    let Three = HaveNoOther ahead back (placed_of r.before) (placed_of r.here) (placed_of r.left) in
    let first : (c.are_known.result ≡ true) ↔ One =
    subst (λ b. (b ≡ true) ↔ One) (sym (c.are_known.ensures ∙ ap₂ all_known c.deref-3.ensures.value c.deref-4.ensures.value))
    (numbers_known change ahead (placed_of r.after).elements (placed_of r.left).elements
    (placed_of r.before).elements c.in_ok-kept.kept.items known.before.now.in_left.items kept beside.of_before.in_left) in
    no_fact (One × Two × Three) (λ (one, two, three). is_not c.are_known.result One first c.if-not-are_known.true one)

pub returns-then-not-are_known-2 : goal.returns-then-not-are_known-2
returns-then-not-are_known-2 c = λ edits left change later ahead back led read beside.
    let r = c.args.known.readings.now in
    let known = c.args.known in
    let woven = c.args.woven.now in
    let kept = c.in_ok-kept.ensures change (change_read edits woven left change later ahead back led r read c.deref.result.now c.deref.ensures.value) in
    let was = c.in_ok-was.ensures later (later_read edits woven left change later ahead back led r read c.deref-2.result.now c.deref-2.ensures.value) in
    let One = AllByRecursion (λ x. StaysAmong change (placed_of r.after).elements x ⊎ StaysAmong ahead (placed_of r.left).elements x) (placed_of r.before).elements in
    let Two = AllByRecursion (λ x. WasAmong later (placed_of r.after).elements x ⊎ StaysAmong back (placed_of r.left).elements x) (placed_of r.here).elements in
    let Three = HaveNoOther ahead back (placed_of r.before) (placed_of r.here) (placed_of r.left) in
    let first : (c.are_known.result ≡ true) ↔ One =
    subst (λ b. (b ≡ true) ↔ One) (sym (c.are_known.ensures ∙ ap₂ all_known c.deref-3.ensures.value c.deref-4.ensures.value))
    (numbers_known change ahead (placed_of r.after).elements (placed_of r.left).elements
    (placed_of r.before).elements c.in_ok-kept.kept.items known.before.now.in_left.items kept beside.of_before.in_left) in
    let second : (c.are_known-2.result ≡ true) ↔ Two =
    subst (λ b. (b ≡ true) ↔ Two) (sym (c.are_known-2.ensures ∙ ap₂ all_known c.deref-5.ensures.value c.deref-6.ensures.value))
    (origins_known later back (placed_of r.after).elements (placed_of r.left).elements (placed_of r.here).elements c.in_ok-was.was'.items known.here.now.in_left.items was beside.of_here.in_left) in
    no_fact (One × Two × Three) (λ (one, two, three). is_not c.are_known-2.result Two second c.if-not-are_known-2.true two)

pub returns : goal.returns
returns c = λ edits left change later ahead back led read beside.
    let r = c.args.known.readings.now in
    let known = c.args.known in
    let woven = c.args.woven.now in
    let kept = c.in_ok-kept.ensures change (change_read edits woven left change later ahead back led r read c.deref.result.now c.deref.ensures.value) in
    let was = c.in_ok-was.ensures later (later_read edits woven left change later ahead back led r read c.deref-2.result.now c.deref-2.ensures.value) in
    let One = AllByRecursion (λ x. StaysAmong change (placed_of r.after).elements x ⊎ StaysAmong ahead (placed_of r.left).elements x) (placed_of r.before).elements in
    let Two = AllByRecursion (λ x. WasAmong later (placed_of r.after).elements x ⊎ StaysAmong back (placed_of r.left).elements x) (placed_of r.here).elements in
    let Three = HaveNoOther ahead back (placed_of r.before) (placed_of r.here) (placed_of r.left) in
    let first : (c.are_known.result ≡ true) ↔ One =
    subst (λ b. (b ≡ true) ↔ One) (sym (c.are_known.ensures ∙ ap₂ all_known c.deref-3.ensures.value c.deref-4.ensures.value))
    (numbers_known change ahead (placed_of r.after).elements (placed_of r.left).elements
    (placed_of r.before).elements c.in_ok-kept.kept.items known.before.now.in_left.items kept beside.of_before.in_left) in
    let second : (c.are_known-2.result ≡ true) ↔ Two =
    subst (λ b. (b ≡ true) ↔ Two) (sym (c.are_known-2.ensures ∙ ap₂ all_known c.deref-5.ensures.value c.deref-6.ensures.value))
    (origins_known later back (placed_of r.after).elements (placed_of r.left).elements (placed_of r.here).elements c.in_ok-was.was'.items known.here.now.in_left.items was beside.of_here.in_left) in
    let third : (c.are_known-3.result ≡ true) ↔ Three =
    subst (λ b. (b ≡ true) ↔ Three) (sym (c.are_known-3.ensures ∙ ap₂ all_known c.deref-7.ensures.value c.deref-8.ensures.value))
    (both_origins_known back ahead (placed_of r.here).elements (placed_of r.before).elements
    (placed_of r.left).elements known.here.now.of_left.items known.before.now.of_left.items beside.of_here.of_left beside.of_before.of_left) in
    (λ e. (first.0 c.if-not-are_known.false, second.0 c.if-not-are_known-2.false, third.0 e), λ (one, two, three). third.1 three)
