use Rattle.std.proofs.Common.{◌≡◌, map, drop}
use Rattle.cx_core.specs.Views.{view_object}
use Rattle.whole_keys.specs.Behind.{calls_behind_objects}
use Rattle.whole_keys.specs.Views.{view_call}
use Rattle.whole_keys.proofs.body_calls.objects_behind.Given as goal

abbrev pub invariant-loop-one : goal.invariant-loop-one
invariant-loop-one l =
    calls_behind_objects l.unit (map view_object (drop l.one-index l.objects)) (map view_call l.calls) ≡ calls_behind_objects l.unit (map view_object l.objects) (map view_call l.fn.calls)
