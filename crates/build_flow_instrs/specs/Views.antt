-- Which linear code values of the declared types are.
use Rattle.std.specs.Prelude.{map, option_map}
use Rattle.build_flow_instrs.specs.declared.instrs.Instr.{Instr}
use Rattle.build_flow_instrs.specs.declared.instrs.Instr.TheVariants as instr
use Rattle.build_flow_instrs.specs.declared.instrs.PlacedBranch.{PlacedBranch}
use Rattle.build_flow_instrs.specs.declared.instrs.PlacedBranch.TheVariants as branch
use Rattle.build_flow_instrs.specs.declared.instrs.PlacedCase.{PlacedCase}
use Rattle.build_flow_instrs.specs.declared.places.FlowPlace.{FlowPlace}
use Rattle.build_flow_instrs.specs.declared.places.FlowPlace.TheVariants as place
use Rattle.build_flow_linear.specs.Linear as line
use Rattle.build_flow_nodes.specs.Builder.{statement_at}
use Rattle.build_flow_nodes.specs.Points as spec
use Rattle.cx_mean.specs.BodyGraph.{at_test, at_third, at_end}
use Rattle.rs_tree.specs.Views.{expr_view, stmt_view}

abbrev pub place_view : FlowPlace → spec.FlowPlace
place_view (place.Statement path) = statement_at path
place_view (place.Test path) = spec.at_part (at_test path)
place_view (place.Third path) = spec.at_part (at_third path)
place_view place.End = spec.at_part at_end
place_view (place.Edge choice target) = spec.on_edge choice target

abbrev pub case_view : PlacedCase → spec.PlacedCase
case_view one = record { value = one.value; to = place_view one.to }

abbrev pub branch_view : PlacedBranch → spec.PlacedBranch
branch_view (branch.Goes to) = spec.goes (place_view to)
branch_view (branch.Tests test if_true if_false) = spec.tests (expr_view test) (place_view if_true) (place_view if_false)
branch_view (branch.Chooses on by cases other) =
    spec.chooses (record { on = expr_view on; by = by; cases = map case_view cases; other = place_view other })
branch_view (branch.Returns value) = spec.returns (option_map expr_view value)

abbrev pub instr_view : Instr → line.Instr
instr_view (instr.Marks place) = line.marks (place_view place)
instr_view (instr.Does body) = line.does (map stmt_view body)
instr_view (instr.Leaves branch) = line.leaves (branch_view branch)
