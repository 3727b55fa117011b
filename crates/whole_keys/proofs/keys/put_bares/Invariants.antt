use Rattle.std.proofs.Common.{◌≡◌, ◌++◌, map, drop}
use Rattle.cx_core.specs.Views.{view_outer}
use Rattle.whole_keys.specs.Kept.{function_key, put_where}
use Rattle.whole_keys.specs.Views.{view_key}
use Rattle.whole_names.specs.Keys.{is_bare_too}
use Rattle.whole_keys.proofs.keys.put_bares.Given as goal

abbrev pub invariant-loop-one : goal.invariant-loop-one
invariant-loop-one l =
    put_where (is_bare_too l.called) function_key (map view_outer (drop l.one-index l.externals)) (map view_key l.keys)
    ≡ put_where (is_bare_too l.called) function_key (map view_outer l.externals) (map view_key l.fn.keys)
