use Rattle.std.proofs.Common.{◌≡◌, map, drop}
use Rattle.cx_core.specs.Compatible.{are_kept_by_promotions}
use Rattle.cx_core.specs.Views.{view_type, types_of}
use Rattle.cx_core.proofs.meets.are_kept_by_promotions.Given as goal

abbrev pub invariant-loop-param : goal.invariant-loop-param
invariant-loop-param l = are_kept_by_promotions (types_of (map view_type (drop l.param-index l.params))) ≡ are_kept_by_promotions (types_of (map view_type l.params))
