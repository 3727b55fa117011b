use Rattle.std.proofs.Common.{◌≡◌, ◌++◌, map, option_map, drop}
use Rattle.cx_core.specs.Views.{view_record}
use Rattle.cx_renumber.specs.Numbers.{record_there}
use Rattle.cx_renumber.specs.Views.{view_counts}
use Rattle.cx_link.proofs.joined.add_records.Given as goal

abbrev pub invariant-loop-one : goal.invariant-loop-one
invariant-loop-one l = map (option_map view_record) l.all ++ map (option_map (record_there (view_counts l.before))) (map (option_map view_record) (drop l.one-index l.records))
    ≡ map (option_map view_record) l.initial.all ++ map (option_map (record_there (view_counts l.before))) (map (option_map view_record) l.records)
