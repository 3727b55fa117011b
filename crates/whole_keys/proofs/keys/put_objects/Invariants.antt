use Rattle.std.proofs.Common.{◌≡◌, ◌++◌, map, drop}
use Rattle.cx_core.specs.Views.{view_object}
use Rattle.whole_keys.specs.Kept.{object_key, put_where}
use Rattle.whole_keys.specs.Kinds.{is_static}
use Rattle.whole_keys.specs.Views.{view_key}
use Rattle.whole_keys.proofs.keys.put_objects.Given as goal

abbrev pub invariant-loop-one : goal.invariant-loop-one
invariant-loop-one l =
    put_where (is_static l.kind l.unit) object_key (map view_object (drop l.one-index l.objects)) (map view_key l.keys)
    ≡ put_where (is_static l.kind l.unit) object_key (map view_object l.objects) (map view_key l.fn.keys)
