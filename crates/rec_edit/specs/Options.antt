-- The options that an action and a new record are given by, on a command line and in the text of a batch.
use Rattle.std.specs.Prelude.{ℕ, Bool, true, false, List, [], map, Option, Some, None}
use Rattle.rec_edit.specs.declared.request.Action.{Action}
use Rattle.rec_edit.specs.declared.request.Action.TheVariants.{Set, Add, SetAdd, Rename, Delete, Comment}
use Rattle.rec_edit.specs.declared.request.NewRecord.{NewRecord}
use Rattle.rec_edit.specs.declared.request.NewRecord.TheVariants.{Pairs, Text}

-- the values to set, to add, and to set or else add, the new name, and whether fields are deleted or become comments:
-- one of them is given
abbrev pub action_for : Action → Option (List ℕ) × Option (List ℕ) × Option (List ℕ) × Option (List ℕ) × Bool × Bool
action_for (Set value) = (Some value, None, None, None, false, false)
action_for (Add value) = (None, Some value, None, None, false, false)
action_for (SetAdd value) = (None, None, Some value, None, false, false)
action_for (Rename name) = (None, None, None, Some name, false, false)
action_for Delete = (None, None, None, None, true, false)
action_for Comment = (None, None, None, None, false, true)

-- names and values, which belong together place by place, or else a text
abbrev pub new_record_for : NewRecord → List (List ℕ) × List (List ℕ) × Option (List ℕ)
new_record_for (Pairs pairs) = (map (λ pair. pair.name) pairs.items, map (λ pair. pair.value) pairs.items, None)
new_record_for (Text text) = ([], [], Some text)
