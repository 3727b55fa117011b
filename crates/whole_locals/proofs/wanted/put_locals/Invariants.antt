use Rattle.std.proofs.Common.{◌≡◌, map, drop}
use Rattle.cx_core.specs.Views.{view_object}
use Rattle.whole_keys.specs.Kept.{put_where}
use Rattle.whole_locals.specs.Wanted.{is_wanted, view_wanted}
use Rattle.whole_names.specs.FunctionNames.{wanted_object}
use Rattle.whole_locals.proofs.wanted.put_locals.Given as goal

abbrev pub invariant-loop-one : goal.invariant-loop-one
invariant-loop-one l =
    put_where (is_wanted l.blocks l.params l.has_name) wanted_object (map view_object (drop l.one-index l.objects)) (map view_wanted l.wanted)
    ≡ put_where (is_wanted l.blocks l.params l.has_name) wanted_object (map view_object l.objects) (map view_wanted l.fn.wanted)
