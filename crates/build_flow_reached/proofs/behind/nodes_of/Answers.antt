use Rattle.std.proofs.Common.{rules, ◌≡◌, ◌++◌, ◌∷◌, []}
use Rattle.build_flow_reached.proofs.Fronts.{put_last}
use Rattle.build_flow_reached.specs.Views.{behind_view, is_reached_in, number_of}
use Rattle.build_flow_reached.proofs.behind.nodes_of.Goals as goal

pub loop-instr-preserved : goal.loop-instr-preserved
loop-instr-preserved c =
    let left : c.loop-instr.code ≡ c.pop.new.self ++ c.in-Some.instr ∷ [] = search rules in
    put_last (number_of c.args.places.now) (is_reached_in c.args.places.now) c.loop-instr.code c.pop.new.self c.in-Some.instr (behind_view c.loop-instr.behind) (behind_view c.put_in_front.new.self) _
    left c.in_ok-put_in_front.ensures c.loop-instr.invariant
