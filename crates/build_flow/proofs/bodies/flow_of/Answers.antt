use Rattle.std.proofs.Common.{map}
use Rattle.build_flow.proofs.Linear.{made_closed, made_flow, made_reached, places_differ}
use Rattle.build_flow_code.specs.Bodies.{body_of}
use Rattle.build_flow_instrs.specs.Views.{instr_view}
use Rattle.cx_core.specs.Views.{view_stmt}
use Rattle.build_flow.proofs.bodies.flow_of.Goals as goal

pub flow_of_code-requires : goal.flow_of_code-requires
flow_of_code-requires c = places_differ (body_of c.args.of.now) (view_stmt c.args.body.now) (map instr_view c.in_ok-code.code) c.in_ok-code.ensures

pub returns-clause-flow : goal.returns-clause-flow
returns-clause-flow c =
    made_flow (body_of c.args.of.now) (view_stmt c.args.body.now) (map instr_view c.in_ok-code.code) c.in_ok-code.ensures c.flow_of_code.result c.flow_of_code.ensures

pub returns-clause-closed : goal.returns-clause-closed
returns-clause-closed c =
    made_closed (body_of c.args.of.now) (view_stmt c.args.body.now) (map instr_view c.in_ok-code.code) c.in_ok-code.ensures c.flow_of_code.result c.flow_of_code.ensures

pub returns-clause-reached : goal.returns-clause-reached
returns-clause-reached c =
    made_reached (body_of c.args.of.now) (view_stmt c.args.body.now) (map instr_view c.in_ok-code.code) c.in_ok-code.ensures c.flow_of_code.result c.flow_of_code.ensures
