use Rattle.std.proofs.Common.{rules, ◌≡◌, ◌++◌, ◌∷◌, [], map}
use Rattle.build_flow_reached.proofs.Fronts.{join_last}
use Rattle.rs_tree.specs.Views.{stmt_view}
use Rattle.build_flow_reached.proofs.behind.join.Goals as goal

pub loop-body-preserved : goal.loop-body-preserved
loop-body-preserved c =
    let left : c.loop-body.bodies ≡ c.pop.new.self ++ c.in-Some.body ∷ [] = search rules in
    join_last c.loop-body.bodies c.pop.new.self c.in-Some.body c.loop-body.made c.append.new.self (map stmt_view c.args.rest) _ left c.in_ok-append.ensures.ok c.loop-body.invariant
