use Rattle.std.proofs.Common.{◌≡◌, map, drop}
use Rattle.cx_core.specs.Typing.{object_with}
use Rattle.cx_core.specs.Views.{view_object}
use Rattle.whole_temporaries.proofs.types.object_numbered.Given as goal

abbrev pub invariant-loop-one : goal.invariant-loop-one
invariant-loop-one l = object_with l.number (map view_object (drop l.one-index l.objects)) ≡ object_with l.number (map view_object l.objects)
