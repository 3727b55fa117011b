use Rattle.std.proofs.Common.{map}
use Rattle.cx_core.specs.Views.{view_function}
use Rattle.cx_linked.specs.Found.{view_found}
use Rattle.cx_linked.specs.Named.{is_external_function, name_of_function, is_named}
use Rattle.cx_linked.proofs.FirstPlaces.{IsNoted}
use Rattle.cx_linked.proofs.index.defined_functions.Given as goal

abbrev pub invariant-loop-place : goal.invariant-loop-place
invariant-loop-place l = IsNoted l.index (is_named is_external_function name_of_function) (map (view_found view_function) l.all) l.place
