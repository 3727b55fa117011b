use Rattle.std.proofs.Common.{rules, ◌≡◌, ◌++◌, ◌∷◌, [], ap, sym, ◌∙◌, map, reverse}
use Rattle.std.proofs.lemmas.List.{reverse-append}
use Rattle.cx_core.specs.Views.{view_object}
use Rattle.cx_scope.specs.Views.{view_thing}
use Rattle.cx_unit_ends.specs.Ends as ends
use Rattle.cx_unit_ends.specs.Merged.{merged}
use Rattle.cx_unit_ends.proofs.order.put_objects.Goals as goal

pub loop-one-preserved : goal.loop-one-preserved
loop-one-preserved c =
    let left : c.loop-one.left.items ≡ c.pop.new.self.items ++ c.in-Some.one ∷ [] = search rules in
    c.in_ok-put_finished.ensures (map (ends.final_object (map view_thing c.args.things.now)) (map view_object (reverse c.pop.new.self.items)))
    ∙ ap (λ all. map view_object c.loop-one.done.items ++ merged (map (ends.final_object (map view_thing c.args.things.now)) (map view_object all)) (reverse (map view_object c.loop-one.held.items)))
    (sym (ap reverse left ∙ reverse-append c.pop.new.self.items (c.in-Some.one ∷ [])))
    ∙ c.loop-one.invariant
