use Rattle.std.proofs.Common.{ap, ◌∙◌, map, reverse}
use Rattle.cx_core.specs.Views.{view_object}
use Rattle.cx_scope.specs.Views.{view_made, view_thing}
use Rattle.cx_unit_ends.proofs.Merging.{all_merged}
use Rattle.cx_unit_ends.specs.Ends as ends
use Rattle.cx_unit_ends.proofs.order.all_objects.Goals as goal

pub returns : goal.returns
returns c =
    ap (map view_object) c.of.ensures
    ∙ all_merged c.args.unit (map view_thing c.args.things.now) c.args.objects.items (map view_made c.args.literals)
    c.put_literals.new.held.items c.in_ok-done.done.items c.requires
    (c.in_ok-put_literals.ensures
    ∙ ap (λ held. ends.ordered_onto (map (ends.made_object c.args.unit) (map view_made c.args.literals)) (reverse (map view_object held))) c.new-held.ensures.items)
    c.in_ok-done.ensures
