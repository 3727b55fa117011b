use Rattle.std.proofs.Common.{◌≡◌, ◌++◌, map, drop}
use Rattle.build_flow_code.specs.Bodies.{body_of}
use Rattle.build_flow_nodes.specs.Parts.{all_cleared}
use Rattle.rs_tree.specs.Views.{stmt_view}
use Rattle.build_flow_code.proofs.parts.all_cleared.Given as goal

abbrev pub invariant-loop-number : goal.invariant-loop-number
invariant-loop-number l = map stmt_view l.made ++ all_cleared (body_of l.of) (drop l.number-index l.numbers) ≡ all_cleared (body_of l.of) l.numbers
