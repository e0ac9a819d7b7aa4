use Rattle.std.proofs.Common.{◌≡◌, take}
use Rattle.std.specs.List.{AllByRecursion}
use Rattle.rec_text.specs.Bytes.{texts}
use Rattle.rec_check.specs.Counters.{greatest_at, counter_names, IsKept}
use Rattle.rec_check.specs.proving.Tests.{type_in}
use Rattle.rec_check.proofs.automatic.counter.counters_with.Given as goal

abbrev pub invariant-loop-name : goal.invariant-loop-name
invariant-loop-name l = record {
  names : counter_names l.counters.items ≡ texts (take l.name-index l.names);
  each : AllByRecursion (IsKept (type_in l.types) (greatest_at l.greatest)) l.counters.items;
}
