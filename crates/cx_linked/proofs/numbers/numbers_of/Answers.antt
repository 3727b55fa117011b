use Rattle.std.proofs.Common.{map, ap, ◌∙◌}
use Rattle.cx_core.specs.Views.{view_object, view_outer, view_unit}
use Rattle.cx_linked.specs.Named.{function_number_among, object_number_among, units_of}
use Rattle.cx_linked.proofs.Tables.{numbers_are}
use Rattle.cx_renumber.specs.Views.{view_counts}
use Rattle.cx_linked.proofs.numbers.numbers_of.Goals as goal

pub returns : goal.returns
returns c = λ unit is.
    numbers_are (units_of c.args.named.now) (view_unit c.args.one.now) unit (view_counts c.args.before) c.in_ok-objects.objects c.in_ok-functions.functions is
    (λ n. c.in_ok-objects.ensures n ∙ ap (λ objects. object_number_among (units_of c.args.named.now) c.args.before.objects (map view_object objects) n) c.as_slice.ensures)
    (λ n. c.in_ok-functions.ensures n ∙ ap (λ externals. function_number_among (units_of c.args.named.now) c.args.before.functions (map view_outer externals) n) c.as_slice-2.ensures)
