use Rattle.std.proofs.Common.{◌≡◌, [], map, drop}
use Rattle.cx_core.specs.Views.{view_outer}
use Rattle.whole_keys.specs.Kept.{number_of, put_where}
use Rattle.whole_names.specs.Keys.{is_outer_named}
use Rattle.whole_keys.proofs.keys.numbers_named.Given as goal

abbrev pub invariant-loop-one : goal.invariant-loop-one
invariant-loop-one l =
    put_where (is_outer_named l.name) number_of (map view_outer (drop l.one-index l.externals)) l.numbers
    ≡ put_where (is_outer_named l.name) number_of (map view_outer l.externals) []
