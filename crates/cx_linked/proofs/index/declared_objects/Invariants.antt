use Rattle.std.proofs.Common.{map}
use Rattle.cx_core.specs.Views.{view_object}
use Rattle.cx_linked.specs.Found.{view_found}
use Rattle.cx_linked.specs.Named.{declares_object, name_of_object, is_named}
use Rattle.cx_linked.proofs.FirstPlaces.{IsNoted}
use Rattle.cx_linked.proofs.index.declared_objects.Given as goal

abbrev pub invariant-loop-place : goal.invariant-loop-place
invariant-loop-place l = IsNoted l.index (is_named declares_object name_of_object) (map (view_found view_object) l.all) l.place
