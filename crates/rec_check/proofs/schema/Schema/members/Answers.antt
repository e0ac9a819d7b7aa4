use Rattle.std.proofs.Common.{◌≡◌, ◌∙◌, ◌≤◌, length, ap, refl, subst, sym}
use Rattle.std.proofs.lemmas.Option.{same_Some, slice_get-get_or}
use Rattle.rec_text.specs.Records.{AreRecords}
use Rattle.rec_text.proofs.lemmas.records.RecordLemmas.{OneListOfRecords-holds}
use Rattle.rec_check.specs.declared.set.Set_.{Set_}
use Rattle.rec_check.specs.Violations.{members}
use Rattle.rec_check.specs.Walking.{AreWithin}
use Rattle.rec_check.proofs.lemmas.checks.AheadLemmas.{part_within}
use Rattle.rec_check.proofs.lemmas.DescribedLemmas.{records_within, set_ordered, set_within}
use Rattle.rec_check.proofs.schema.Schema.members.Goals as goal
use Rattle.rec_check.proofs.schema.Schema.members.Goals.{After-index}

are_records : (c : After-index) → AreRecords c.args.database.now c.as_slice.result.now
are_records c = subst (AreRecords c.args.database.now) (sym c.as_slice.ensures) c.records.ensures

pub members_of-requires-clause-ordered : goal.members_of-requires-clause-ordered
members_of-requires-clause-ordered c =
    subst (λ (s : Set_). s.members.start ≤ s.members.end) (sym c.index.ensures)
    (set_ordered c.args.database.now c.args.self.now.sets.items c.args.self.now.rules.items c.requires.schema c.args.set c.index.result.now c.requires.place)

pub members_of-requires-clause-within : goal.members_of-requires-clause-within
members_of-requires-clause-within c =
    let at = goal.at.members_of-requires-clause-within c in
    subst (λ (s : Set_). s.members.end ≤ length c.as_slice.result.now) (sym c.index.ensures)
    (set_within c.args.database.now c.args.self.now.sets.items c.args.self.now.rules.items c.requires.schema c.as_slice.result.now
    (are_records at.After-index) c.args.set c.index.result.now c.requires.place)

pub returns-clause-members : goal.returns-clause-members
returns-clause-members c = λ records s are is_set.
    let at = goal.at.returns-clause-members c in
    let same : c.as_slice.result.now ≡ records = OneListOfRecords-holds.records c.args.database.now c.as_slice.result.now records (are_records at.After-index) are in
    let own : c.index.result.now ≡ s = c.index.ensures ∙ same_Some _ s (sym (slice_get-get_or c.args.self.now.sets.items c.args.set c.index.result.now c.requires.place) ∙ is_set) in
    c.members_of.ensures ∙ ap (λ rs. members rs c.index.result.now) same ∙ ap (members records) own

pub returns-clause-within : goal.returns-clause-within
returns-clause-within c =
    let at = goal.at.returns-clause-within c in
    let size = length c.args.database.now in
    subst (AreWithin size) (sym c.members_of.ensures)
    (part_within c.as_slice.result.now c.index.result.now size size
    (records_within c.args.database.now c.args.self.now.sets.items c.args.self.now.rules.items c.requires.schema c.as_slice.result.now (are_records at.After-index) size refl) refl)
