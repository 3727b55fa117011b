use Rattle.std.proofs.Common.{rules, ◌≡◌, ap, ◌∙◌, ◌++◌, ◌∷◌, [], map, reverse}
use Rattle.cx_core.specs.Views.{view_object}
use Rattle.cx_scope.specs.Views.{view_made}
use Rattle.cx_unit_ends.proofs.Ordering.{put_last}
use Rattle.cx_unit_ends.specs.Ends as ends
use Rattle.cx_unit_ends.proofs.order.put_literals.Goals as goal

pub loop-one-preserved : goal.loop-one-preserved
loop-one-preserved c =
    let left : c.loop-one.literals ≡ c.pop.new.self ++ c.in-Some.one ∷ [] = search rules in
    put_last view_made (ends.made_object c.args.unit) c.loop-one.literals c.pop.new.self c.in-Some.one (reverse (map view_object c.loop-one.held.items)) (reverse (map view_object c.put_object.new.held.items)) _
    left (c.in_ok-put_object.ensures ∙ ap (λ one. ends.put_object one (reverse (map view_object c.loop-one.held.items))) c.made_object.ensures) c.loop-one.invariant
