use Rattle.std.proofs.Common.{◌∙◌, map}
use Rattle.cx_core.specs.Views.{view_key, view_mention, view_object, view_outer}
use Rattle.cx_scope.specs.Views.{view_scope}
use Rattle.cx_unit_ends.proofs.UnitLaws.{objects_taken}
use Rattle.cx_unit_ends.proofs.unit.unit_by.Goals as goal

pub returns : goal.returns
returns c =
    c.unit_with.ensures
    ∙ objects_taken (view_scope c.args.scope) (view_scope c.take_objects.new.scope) (map view_object c.in_ok-objects.objects) (map view_outer c.args.externals) (map view_mention c.args.mentions) (map view_key c.args.keys)
    c.in_ok-objects.ensures.scope c.in_ok-objects.ensures.objects
