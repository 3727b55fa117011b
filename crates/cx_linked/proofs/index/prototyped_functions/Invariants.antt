use Rattle.std.proofs.Common.{map}
use Rattle.cx_core.specs.Views.{view_outer}
use Rattle.cx_linked.specs.Found.{view_found}
use Rattle.cx_linked.specs.Named.{is_external_prototype, name_of_outer, is_named}
use Rattle.cx_linked.proofs.FirstPlaces.{IsNoted}
use Rattle.cx_linked.proofs.index.prototyped_functions.Given as goal

abbrev pub invariant-loop-place : goal.invariant-loop-place
invariant-loop-place l = IsNoted l.index (is_named is_external_prototype name_of_outer) (map (view_found view_outer) l.all) l.place
