use Rattle.std.proofs.Common.{◌≡◌, ◌++◌, map, drop}
use Rattle.whole_keys.specs.Views.{view_key}
use Rattle.whole_names.specs.Keys.{a_record}
use Rattle.whole_keys.proofs.keys.put_records.Given as goal

abbrev pub invariant-loop-one : goal.invariant-loop-one
invariant-loop-one l =
    map view_key l.keys ++ map a_record (drop l.one-index l.completed) ≡ map view_key l.fn.keys ++ map a_record l.completed
