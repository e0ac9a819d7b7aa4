use Rattle.std.proofs.Common.{◌≡◌, ◌++◌, length}
use Rattle.std.specs.List.{list_all}
use Rattle.rec_text.specs.Canonical.{is_field_name}
use Rattle.rec_check.specs.Words.{words}
use Rattle.rec_check.proofs.descriptors.descriptor.add_names.Given as goal

abbrev pub invariant-loop-name : goal.invariant-loop-name
invariant-loop-name l = record {
  names : l.names.items ++ words l.rest ≡ l.initial.names.items ++ words l.value;
  sound : list_all is_field_name (words l.rest) ≡ list_all is_field_name (words l.value);
}

abbrev pub decreases-loop-name : goal.decreases-loop-name
decreases-loop-name l = length (words l.rest)
