use Rattle.std.proofs.Common.{◌≡◌, map, drop}
use Rattle.cx_core.specs.Views.{view_function}
use Rattle.whole_keys.specs.Kept.{entry_key, is_entry_of, put_where}
use Rattle.whole_keys.specs.Views.{view_key}
use Rattle.whole_keys.proofs.keys.put_entries.Given as goal

abbrev pub invariant-loop-one : goal.invariant-loop-one
invariant-loop-one l =
    put_where (is_entry_of l.unit) entry_key (map view_function (drop l.one-index l.functions)) (map view_key l.keys)
    ≡ put_where (is_entry_of l.unit) entry_key (map view_function l.functions) (map view_key l.fn.keys)
