use Rattle.rs_forms.proofs.Formed.{by_call, by_form, by_nested, by_side, by_stmt_form}
use Rattle.rs_bodies.proofs.Called.{arg_stops, arg_unheld, args_begin, args_go, body_runs, callee_out, callee_refused, callee_runs, found_runs, frame_runs, frame_stops, locals_end, no_args, no_callee, no_target, no_unit_taken, target_gives, target_refused, target_runs, target_stops, unit_taken}
use Rattle.rs_forms.proofs.Quickly.{side_runs}
use Rattle.rs_forms.proofs.Remaining.{all_left}
use Rattle.rs_bodies.proofs.Turned.{arms_run, block_does, gives_same, listed, stmt_goes, stmt_leaves, stmt_stops, stmts_end, turns_end, turns_go, turns_out, turns_stop}
use Rattle.rs_machine.proofs.Pieces.{stops_first, then_does}
use Rattle.rs_machine.specs.Does.{no_memory, stops}
use Rattle.rs_machine.proofs.Rules.{false_does, found_fails, found_gives, memory_here, pure_does, pure_is, true_does}
use Rattle.rs_mean.specs.Laws.{bodies_of}
use Rattle.rs_scene.specs.Calls.{pointed_view}
use Rattle.rs_scene.specs.Flows.{flow_view}
use Rattle.rs_scene.specs.Scenes.{frame_view, held_local}
use Rattle.rs_text.specs.Tree.{stmts}
use Rattle.rs_tree.specs.Views.{function_view, module_view, stmt_view}
use Rattle.rs_value.specs.Views.{typed_view}
use Rattle.std.proofs.Common.{map, option_map, sym, ◌∙◌}
use Rattle.rs_bodies.proofs.+knot.Goals as goal

pub calls::args_into-returns-in_default : goal.calls::args_into-returns-in_default
calls::args_into-returns-in_default g t c = no_args (frame_view c.args.scene) (map typed_view c.args.values.now) c.args.list.now _ c.in_default.ensures.cases

pub calls::args_into-returns-in-Err : goal.calls::args_into-returns-in-Err
calls::args_into-returns-in-Err g t c = arg_stops (frame_view c.args.scene) (map typed_view c.args.values.now) c.args.list.now c.in-Some.others.now c.in-Some.first.now c.in-Some.ensures.cases.0 c.in-Err.ensures

pub calls::args_into-returns : goal.calls::args_into-returns
calls::args_into-returns g t c = args_go (frame_view c.args.scene) c.args.values.now c.push.new.self c.in-Ok.value c.args.list.now c.in-Some.others.now c.in-Some.first.now c.in-Some.ensures.cases.0 c.in_default-push.ensures.ok c.in-Ok.ensures c.args_into.ensures

pub calls::args-returns-in-Err : goal.calls::args-returns-in-Err
calls::args-returns-in-Err g t c = args_begin (frame_view c.args.scene) c.args.list.now c.as_slice.result.now c.new-values.result c.as_slice.ensures c.new-values.ensures c.in-Err.ensures

pub calls::args-returns : goal.calls::args-returns
calls::args-returns g t c = args_begin (frame_view c.args.scene) c.args.list.now c.as_slice.result.now c.new-values.result c.as_slice.ensures c.new-values.ensures c.in_default.ensures

pub calls::body-returns-in-Err : goal.calls::body-returns-in-Err
calls::body-returns-in-Err g t c = stops_first _ (body_runs _ _ _ c.as_slice.ensures c.in-Err.ensures)

pub calls::body-returns : goal.calls::body-returns
calls::body-returns g t c = then_does _ (body_runs _ _ _ c.as_slice.ensures c.in-Ok.ensures) (then_does _ (locals_end (map held_local c.args.locals.now) _ _ _ _ _ _ c.end_locals.ensures.limit c.end_locals.ensures.blocks) (pure_is _ _ c.given_by.ensures _))

pub calls::call_found-returns-in_default : goal.calls::call_found-returns-in_default
calls::call_found-returns-in_default g t c = no_callee (bodies_of (map module_view c.args.scene.modules.now)) (map typed_view c.args.list.now) c.args.callee _ c.in_default.is

pub calls::call_found-returns-then-not-accepts : goal.calls::call_found-returns-then-not-accepts
calls::call_found-returns-then-not-accepts g t c = callee_refused (bodies_of (map module_view c.args.scene.modules.now)) (map typed_view c.args.list.now) c.args.callee c.in-Some.callee c.in-Some.is _ (sym c.accepts.ensures ∙ c.if-not-accepts.true)

pub calls::call_found-returns-then-not-take_unit : goal.calls::call_found-returns-then-not-take_unit
calls::call_found-returns-then-not-take_unit g t c = callee_out (bodies_of (map module_view c.args.scene.modules.now)) (map typed_view c.args.list.now) c.args.callee c.in-Some.callee c.in-Some.is (sym c.accepts.ensures ∙ c.if-not-accepts.false) (no_unit_taken _ _ _ _ _ _ c.if-not-take_unit.ensures)

pub calls::call_found-returns : goal.calls::call_found-returns
calls::call_found-returns g t c = callee_runs (bodies_of (map module_view c.args.scene.modules.now)) (map typed_view c.args.list.now) c.args.callee c.in-Some.callee c.in-Some.is (sym c.accepts.ensures ∙ c.if-not-accepts.false) (unit_taken _ _ _ _ _ c.if-not-take_unit.ensures) c.run_callee.ensures

pub calls::call_pointed-returns-in_default : goal.calls::call_pointed-returns-in_default
calls::call_pointed-returns-in_default g t c = no_target (bodies_of (map module_view c.args.scene.modules.now)) (pointed_view c.args.pointed).params (pointed_view c.args.pointed).result (map typed_view c.args.list.now) c.args.pointed.fun _ c.in_default.is

pub calls::call_pointed-returns-then-not-called_as : goal.calls::call_pointed-returns-then-not-called_as
calls::call_pointed-returns-then-not-called_as g t c = target_refused (bodies_of (map module_view c.args.scene.modules.now)) (pointed_view c.args.pointed).params (pointed_view c.args.pointed).result (map typed_view c.args.list.now) c.args.pointed.fun c.in-Some.fun c.in-Some.is _ (sym c.called_as.ensures ∙ c.if-not-called_as.true)

pub calls::call_pointed-returns-in-Err : goal.calls::call_pointed-returns-in-Err
calls::call_pointed-returns-in-Err g t c = target_stops (bodies_of (map module_view c.args.scene.modules.now)) (pointed_view c.args.pointed).params (pointed_view c.args.pointed).result (map typed_view c.args.list.now) c.args.pointed.fun c.in-Some.fun c.in-Some.is (sym c.called_as.ensures ∙ c.if-not-called_as.false) c.in-Err.ensures

pub calls::call_pointed-returns : goal.calls::call_pointed-returns
calls::call_pointed-returns g t c = target_gives (bodies_of (map module_view c.args.scene.modules.now)) (pointed_view c.args.pointed).params (pointed_view c.args.pointed).result (map typed_view c.args.list.now) c.args.pointed.fun c.in-Some.fun c.in-Some.is (option_map typed_view c.in-Ok.value) _ (sym c.called_as.ensures ∙ c.if-not-called_as.false) c.retyped.ensures c.in-Ok.ensures

pub calls::called-returns-in-Err : goal.calls::called-returns-in-Err
calls::called-returns-in-Err g t c = stops_first _ c.in-Err.ensures

pub calls::called-returns : goal.calls::called-returns
calls::called-returns g t c = then_does _ c.in-Ok.ensures (found_runs (bodies_of (map module_view c.args.scene.modules.now)) c.in-Ok.values c.as_slice.result.now c.callee_at-callee.result _ c.as_slice.ensures c.callee_at-callee.ensures c.call_found.ensures)

pub calls::called_by-returns-in-Err : goal.calls::called_by-returns-in-Err
calls::called_by-returns-in-Err g t c = stops_first _ c.in-Err.ensures

pub calls::called_by-returns-in-Err-unwrapped : goal.calls::called_by-returns-in-Err-unwrapped
calls::called_by-returns-in-Err-unwrapped g t c = then_does _ c.in-Ok.ensures (stops_first _ (c.in-Err-unwrapped.ensures _))

pub calls::called_by-returns-in-Err-args : goal.calls::called_by-returns-in-Err-args
calls::called_by-returns-in-Err-args g t c = then_does _ c.in-Ok.ensures (then_does _ (c.in-Ok-unwrapped.ensures _) (stops_first _ c.in-Err-args.ensures))

pub calls::called_by-returns : goal.calls::called_by-returns
calls::called_by-returns g t c = then_does _ c.in-Ok.ensures (then_does _ (c.in-Ok-unwrapped.ensures _) (then_does _ c.in-Ok-args.ensures (target_runs (bodies_of (map module_view c.args.scene.modules.now)) (pointed_view c.in-Ok-unwrapped.pointed).params (pointed_view c.in-Ok-unwrapped.pointed).result (pointed_view c.in-Ok-unwrapped.pointed).fun c.in-Ok-args.values c.as_slice.result.now c.as_slice.ensures c.call_pointed.ensures)))

pub calls::function-returns-in-Err : goal.calls::function-returns-in-Err
calls::function-returns-in-Err g t c = frame_stops (map module_view c.args.scene.modules.now) (function_view c.args.fun.now) (map typed_view c.args.list.now) (c.in-Err.ensures _ _)

pub calls::function-returns : goal.calls::function-returns
calls::function-returns g t c = frame_runs (map module_view c.args.scene.modules.now) (function_view c.args.fun.now) (map typed_view c.args.list.now) c.in-Ok.locals c.as_slice.result.now c.as_slice.ensures (c.in-Ok.ensures _ _) c.body.ensures

pub stmts::block-returns-in-Err : goal.stmts::block-returns-in-Err
stmts::block-returns-in-Err g t c = stops_first _ (listed (frame_view c.args.scene) c.args.body.now c.as_slice.result.now c.as_slice.ensures c.in-Err.ensures)

pub stmts::block-returns : goal.stmts::block-returns
stmts::block-returns g t c = then_does _ (listed (frame_view c.args.scene) c.args.body.now c.as_slice.result.now c.as_slice.ensures c.in-Ok.ensures) (gives_same (block_does c.args.label.now (flow_view c.in-Ok.flow) _) c.after_block.ensures)

pub stmts::branch-returns-in-Err : goal.stmts::branch-returns-in-Err
stmts::branch-returns-in-Err g t c = stops_first _ c.in-Err.ensures

pub stmts::branch-returns-in-Err-test_of : goal.stmts::branch-returns-in-Err-test_of
stmts::branch-returns-in-Err-test_of g t c = then_does _ c.in-Ok.ensures (stops_first _ (found_fails _ _ _ c.in-Err-test_of.ensures))

pub stmts::branch-returns : goal.stmts::branch-returns
stmts::branch-returns g t c = then_does _ c.in-Ok.ensures (then_does _ (found_gives _ _ _ c.in-Ok-test_of.ensures) (side_runs (frame_view c.args.scene) c.in-Ok-test_of.test c.args.if_true.now c.args.if_false.now c.side_of-list.result.now c.side_of-list.ensures c.stmts.ensures))

pub stmts::matched-returns-in-Err : goal.stmts::matched-returns-in-Err
stmts::matched-returns-in-Err g t c = stops_first _ c.in-Err.ensures

pub stmts::matched-returns : goal.stmts::matched-returns
stmts::matched-returns g t c = then_does _ c.in-Ok.ensures (arms_run (frame_view c.args.scene) c.args.cases.now c.as_slice.result.now c.args.other.now c.as_slice-2.result.now c.chosen-body.result.now (typed_view c.in-Ok.operand) c.as_slice.ensures c.as_slice-2.ensures c.chosen-body.ensures c.stmts.ensures)

pub stmts::stmts-returns-in-Err : goal.stmts::stmts-returns-in-Err
stmts::stmts-returns-in-Err g t c = stmt_stops (frame_view c.args.scene) c.args.list.now c.loop-one.one-index c.one-item.result c.loop-one-test.true c.one-item.is c.loop-one.invariant.follows c.in-Err.ensures

pub stmts::stmts-returns-then-not-is_normal : goal.stmts::stmts-returns-then-not-is_normal
stmts::stmts-returns-then-not-is_normal g t c = stmt_leaves (frame_view c.args.scene) c.args.list.now c.loop-one.one-index c.one-item.result c.loop-one-test.true c.one-item.is c.loop-one.invariant.follows (flow_view c.in-Ok.flow) (sym c.is_normal.ensures ∙ c.if-not-is_normal.true) c.in-Ok.ensures

pub stmts::stmts-loop-one-preserved : goal.stmts::stmts-loop-one-preserved
stmts::stmts-loop-one-preserved g t c = record { follows = stmt_goes (frame_view c.args.scene) c.args.list.now c.loop-one.one-index c.one-item.result c.loop-one-test.true c.one-item.is c.loop-one.invariant.follows (flow_view c.in-Ok.flow) (sym c.is_normal.ensures ∙ c.if-not-is_normal.false) c.in-Ok.ensures }

pub stmts::stmts-returns : goal.stmts::stmts-returns
stmts::stmts-returns g t c = stmts_end (frame_view c.args.scene) c.args.list.now c.loop-one.one-index c.loop-one-test.false c.loop-one.invariant.follows

pub stmts::turns-returns-then-not-take_unit : goal.stmts::turns-returns-then-not-take_unit
stmts::turns-returns-then-not-take_unit g t c = turns_out (map module_view c.args.scene.modules.now) (map held_local c.args.scene.locals.now) c.args.label.now (stmts (map stmt_view c.args.body.now)) _ c.loop-turn.invariant.follows (no_unit_taken _ _ _ _ _ _ c.if-not-take_unit.ensures)

pub stmts::turns-returns-in-Err : goal.stmts::turns-returns-in-Err
stmts::turns-returns-in-Err g t c = turns_stop (map module_view c.args.scene.modules.now) (map held_local c.args.scene.locals.now) c.args.label.now (stmts (map stmt_view c.args.body.now)) _ _ c.loop-turn.invariant.follows (unit_taken _ _ _ _ _ c.if-not-take_unit.ensures) (listed (frame_view c.args.scene) c.args.body.now c.as_slice.result.now c.as_slice.ensures c.in-Err.ensures)

pub stmts::turns-returns-in-Done : goal.stmts::turns-returns-in-Done
stmts::turns-returns-in-Done g t c = turns_end (map module_view c.args.scene.modules.now) (map held_local c.args.scene.locals.now) c.args.label.now (stmts (map stmt_view c.args.body.now)) _ (flow_view c.in-Ok.flow) (flow_view c.in-Done.flow) c.in-Done.ensures c.loop-turn.invariant.follows (unit_taken _ _ _ _ _ c.if-not-take_unit.ensures) (listed (frame_view c.args.scene) c.args.body.now c.as_slice.result.now c.as_slice.ensures c.in-Ok.ensures)

pub stmts::turns-loop-turn-preserved : goal.stmts::turns-loop-turn-preserved
stmts::turns-loop-turn-preserved g t c = record { follows = turns_go (map module_view c.args.scene.modules.now) (map held_local c.args.scene.locals.now) c.args.label.now (stmts (map stmt_view c.args.body.now)) _ (flow_view c.in-Ok.flow) c.in_default.ensures c.loop-turn.invariant.follows (unit_taken _ _ _ _ _ c.if-not-take_unit.ensures) (listed (frame_view c.args.scene) c.args.body.now c.as_slice.result.now c.as_slice.ensures c.in-Ok.ensures) }

pub stmts::assign_value-returns-in-Some : goal.stmts::assign_value-returns-in-Some
stmts::assign_value-returns-in-Some g t c = then_does _ (c.in-Some.ensures _) (c.store_in.ensures _ _)

pub stmts::assign_value-returns-in-Err : goal.stmts::assign_value-returns-in-Err
stmts::assign_value-returns-in-Err g t c = stops_first _ c.in-Err.ensures

pub stmts::assign_value-returns : goal.stmts::assign_value-returns
stmts::assign_value-returns g t c = then_does _ c.in-Ok.ensures (c.store_in-2.ensures _ _)

pub stmts::assign-returns-in-Some : goal.stmts::assign-returns-in-Some
stmts::assign-returns-in-Some g t c = then_does _ (c.in-Some.ensures _ _ _) c.assign_value.ensures

pub stmts::assign-returns-in-Err : goal.stmts::assign-returns-in-Err
stmts::assign-returns-in-Err g t c = stops_first _ c.in-Err.ensures

pub stmts::assign-returns : goal.stmts::assign-returns
stmts::assign-returns g t c = then_does _ c.in-Ok.ensures c.assign_value-2.ensures

pub stmts::copied-returns-in-Err : goal.stmts::copied-returns-in-Err
stmts::copied-returns-in-Err g t c = stops_first _ c.in-Err.ensures

pub stmts::copied-returns-in-Err-expr : goal.stmts::copied-returns-in-Err-expr
stmts::copied-returns-in-Err-expr g t c = then_does _ c.in-Ok.ensures (stops_first _ c.in-Err-expr.ensures)

pub stmts::copied-returns-in-Err-expr-2 : goal.stmts::copied-returns-in-Err-expr-2
stmts::copied-returns-in-Err-expr-2 g t c = then_does _ c.in-Ok.ensures (then_does _ c.in-Ok-expr.ensures (stops_first _ c.in-Err-expr-2.ensures))

pub stmts::copied-returns-in-Ok-copy_bytes : goal.stmts::copied-returns-in-Ok-copy_bytes
stmts::copied-returns-in-Ok-copy_bytes g t c = then_does _ c.in-Ok.ensures (then_does _ c.in-Ok-expr.ensures (then_does _ c.in-Ok-expr-2.ensures (then_does _ (c.in-Ok-copy_bytes.ensures _ _) (pure_does _ _))))

pub stmts::copied-returns-in-Err-copy_bytes : goal.stmts::copied-returns-in-Err-copy_bytes
stmts::copied-returns-in-Err-copy_bytes g t c = then_does _ c.in-Ok.ensures (then_does _ c.in-Ok-expr.ensures (then_does _ c.in-Ok-expr-2.ensures (stops_first _ (c.in-Err-copy_bytes.ensures _ _))))

pub stmts::dropped_value-returns-in-Err : goal.stmts::dropped_value-returns-in-Err
stmts::dropped_value-returns-in-Err g t c = stops_first _ c.in-Err.ensures

pub stmts::dropped_value-returns : goal.stmts::dropped_value-returns
stmts::dropped_value-returns g t c = then_does _ c.in-Ok.ensures (pure_does _ _)

pub stmts::returned-returns-in-Err : goal.stmts::returned-returns-in-Err
stmts::returned-returns-in-Err g t c = stops_first _ c.in-Err.ensures

pub stmts::returned-returns : goal.stmts::returned-returns
stmts::returned-returns g t c = then_does _ c.in-Ok.ensures (pure_does _ _)

pub places::deref-returns-in-Err : goal.places::deref-returns-in-Err
places::deref-returns-in-Err g t c = stops_first _ c.in-Err.ensures

pub places::deref-returns : goal.places::deref-returns
places::deref-returns g t c = then_does _ c.in-Ok.ensures (c.target_spot.ensures _ _ _)

pub places::field-returns-in-Err : goal.places::field-returns-in-Err
places::field-returns-in-Err g t c = stops_first _ c.in-Err.ensures

pub places::field-returns : goal.places::field-returns
places::field-returns g t c = then_does _ c.in-Ok.ensures (c.field_spot.ensures _ _ _)

pub exprs::expr-returns-in-Alone : goal.exprs::expr-returns-in-Alone
exprs::expr-returns-in-Alone g t c = by_form (frame_view c.args.scene) c.args.tree.now c.form_of.result _ c.form_of.ensures c.in-Alone.is (c.plain_value.ensures _)

pub exprs::expr-returns-in-Place : goal.exprs::expr-returns-in-Place
exprs::expr-returns-in-Place g t c = by_form (frame_view c.args.scene) c.args.tree.now c.form_of.result _ c.form_of.ensures c.in-Place.is c.placed.ensures

pub exprs::expr-returns-in-Call : goal.exprs::expr-returns-in-Call
exprs::expr-returns-in-Call g t c = by_form (frame_view c.args.scene) c.args.tree.now c.form_of.result _ c.form_of.ensures c.in-Call.is c.call_value.ensures

pub exprs::expr-returns-in-One : goal.exprs::expr-returns-in-One
exprs::expr-returns-in-One g t c = by_form (frame_view c.args.scene) c.args.tree.now c.form_of.result _ c.form_of.ensures c.in-One.is c.one.ensures

pub exprs::expr-returns-in-Two : goal.exprs::expr-returns-in-Two
exprs::expr-returns-in-Two g t c = by_form (frame_view c.args.scene) c.args.tree.now c.form_of.result _ c.form_of.ensures c.in-Two.is c.two.ensures

pub exprs::expr-returns-in-Test : goal.exprs::expr-returns-in-Test
exprs::expr-returns-in-Test g t c = by_form (frame_view c.args.scene) c.args.tree.now c.form_of.result _ c.form_of.ensures c.in-Test.is c.tested.ensures

pub exprs::placed-returns-in-Err : goal.exprs::placed-returns-in-Err
exprs::placed-returns-in-Err g t c = stops_first _ c.in-Err.ensures

pub exprs::placed-returns : goal.exprs::placed-returns
exprs::placed-returns g t c = then_does _ c.in-Ok.ensures (c.used_value.ensures _ _ _)

pub exprs::call_value-returns-in-Err : goal.exprs::call_value-returns-in-Err
exprs::call_value-returns-in-Err g t c = stops_first _ c.in-Err.ensures

pub exprs::call_value-returns : goal.exprs::call_value-returns
exprs::call_value-returns g t c = then_does _ c.in-Ok.ensures (c.the_value.ensures _)

pub exprs::one-returns-in-Err : goal.exprs::one-returns-in-Err
exprs::one-returns-in-Err g t c = stops_first _ c.in-Err.ensures

pub exprs::one-returns : goal.exprs::one-returns
exprs::one-returns g t c = then_does _ c.in-Ok.ensures (c.unary_value.ensures _)

pub exprs::two-returns-in-Err : goal.exprs::two-returns-in-Err
exprs::two-returns-in-Err g t c = stops_first _ c.in-Err.ensures

pub exprs::two-returns-in-Err-expr : goal.exprs::two-returns-in-Err-expr
exprs::two-returns-in-Err-expr g t c = then_does _ c.in-Ok.ensures (stops_first _ c.in-Err-expr.ensures)

pub exprs::two-returns : goal.exprs::two-returns
exprs::two-returns g t c = then_does _ c.in-Ok.ensures (then_does _ c.in-Ok-expr.ensures (c.pair_value.ensures _ _ _))

pub exprs::side-returns-in-Known : goal.exprs::side-returns-in-Known
exprs::side-returns-in-Known g t c = by_side (frame_view c.args.scene) c.args.which _ c.in-Known.is (c.truth_value.ensures _)

pub exprs::side-returns-in-Operand : goal.exprs::side-returns-in-Operand
exprs::side-returns-in-Operand g t c = by_side (frame_view c.args.scene) c.args.which _ c.in-Operand.is c.expr.ensures

pub exprs::tested-returns-in-Err : goal.exprs::tested-returns-in-Err
exprs::tested-returns-in-Err g t c = stops_first _ c.in-Err.ensures

pub exprs::tested-returns-in-Err-test_of : goal.exprs::tested-returns-in-Err-test_of
exprs::tested-returns-in-Err-test_of g t c = then_does _ c.in-Ok.ensures (stops_first _ (found_fails _ _ _ c.in-Err-test_of.ensures))

pub exprs::tested-returns-then-test : goal.exprs::tested-returns-then-test
exprs::tested-returns-then-test g t c = then_does _ c.in-Ok.ensures (then_does _ (found_gives _ _ _ c.in-Ok-test_of.ensures) (true_does _ _ _ c.if-test.true c.side.ensures))

pub exprs::tested-returns : goal.exprs::tested-returns
exprs::tested-returns g t c = then_does _ c.in-Ok.ensures (then_does _ (found_gives _ _ _ c.in-Ok-test_of.ensures) (false_does _ _ _ c.if-test.false c.side-2.ensures))

pub calls::call-returns-in-Named : goal.calls::call-returns-in-Named
calls::call-returns-in-Named g t c = by_call (frame_view c.args.scene) c.args.form _ c.in-Named.is c.called.ensures

pub calls::call-returns-in-Pointed : goal.calls::call-returns-in-Pointed
calls::call-returns-in-Pointed g t c = by_call (frame_view c.args.scene) c.args.form _ c.in-Pointed.is c.called_by.ensures

pub stmts::stmt-returns-in-Nothing : goal.stmts::stmt-returns-in-Nothing
stmts::stmt-returns-in-Nothing g t c = c.in-Nothing.ensures _ _

pub stmts::stmt-returns-in-Inner : goal.stmts::stmt-returns-in-Inner
stmts::stmt-returns-in-Inner g t c = c.in-Inner.ensures _ _ _ _ c.stmts.ensures

pub stmts::stmt-returns-in-Halted : goal.stmts::stmt-returns-in-Halted
stmts::stmt-returns-in-Halted g t c = c.in-Halted.ensures _ _

pub stmts::stmt-returns-in-Everything : goal.stmts::stmt-returns-in-Everything
stmts::stmt-returns-in-Everything g t c = all_left _ _ _ _ _ _ _ c.in-Everything.ensures c.whole_stmt.ensures

pub stmts::whole_stmt-returns-in-Leaves : goal.stmts::whole_stmt-returns-in-Leaves
stmts::whole_stmt-returns-in-Leaves g t c = by_stmt_form (frame_view c.args.scene) c.args.tree.now c.stmt_form.result _ c.stmt_form.ensures c.in-Leaves.is (c.leaves.ensures _)

pub stmts::whole_stmt-returns-in-Assign : goal.stmts::whole_stmt-returns-in-Assign
stmts::whole_stmt-returns-in-Assign g t c = by_stmt_form (frame_view c.args.scene) c.args.tree.now c.stmt_form.result _ c.stmt_form.ensures c.in-Assign.is c.assign.ensures

pub stmts::whole_stmt-returns-in-Call : goal.stmts::whole_stmt-returns-in-Call
stmts::whole_stmt-returns-in-Call g t c = by_stmt_form (frame_view c.args.scene) c.args.tree.now c.stmt_form.result _ c.stmt_form.ensures c.in-Call.is c.dropped_call.ensures

pub stmts::whole_stmt-returns-in-Value : goal.stmts::whole_stmt-returns-in-Value
stmts::whole_stmt-returns-in-Value g t c = by_stmt_form (frame_view c.args.scene) c.args.tree.now c.stmt_form.result _ c.stmt_form.ensures c.in-Value.is c.dropped_value.ensures

pub stmts::whole_stmt-returns-in-Copy : goal.stmts::whole_stmt-returns-in-Copy
stmts::whole_stmt-returns-in-Copy g t c = by_stmt_form (frame_view c.args.scene) c.args.tree.now c.stmt_form.result _ c.stmt_form.ensures c.in-Copy.is c.copied.ensures

pub stmts::whole_stmt-returns-in-Return : goal.stmts::whole_stmt-returns-in-Return
stmts::whole_stmt-returns-in-Return g t c = by_stmt_form (frame_view c.args.scene) c.args.tree.now c.stmt_form.result _ c.stmt_form.ensures c.in-Return.is c.returned.ensures

pub stmts::whole_stmt-returns-in-Within : goal.stmts::whole_stmt-returns-in-Within
stmts::whole_stmt-returns-in-Within g t c = by_stmt_form (frame_view c.args.scene) c.args.tree.now c.stmt_form.result _ c.stmt_form.ensures c.in-Within.is c.nested.ensures

pub stmts::nested-returns-in-If : goal.stmts::nested-returns-in-If
stmts::nested-returns-in-If g t c = by_nested (frame_view c.args.scene) c.args.form _ c.in-If.is c.branch-machine.ensures

pub stmts::nested-returns-in-Loop : goal.stmts::nested-returns-in-Loop
stmts::nested-returns-in-Loop g t c = by_nested (frame_view c.args.scene) c.args.form _ c.in-Loop.is c.turns.ensures

pub stmts::nested-returns-in-Block : goal.stmts::nested-returns-in-Block
stmts::nested-returns-in-Block g t c = by_nested (frame_view c.args.scene) c.args.form _ c.in-Block.is c.block.ensures

pub stmts::nested-returns-in-Match : goal.stmts::nested-returns-in-Match
stmts::nested-returns-in-Match g t c = by_nested (frame_view c.args.scene) c.args.form _ c.in-Match.is c.matched.ensures

pub stmts::dropped_call-returns-in-Err : goal.stmts::dropped_call-returns-in-Err
stmts::dropped_call-returns-in-Err g t c = stops_first _ c.in-Err.ensures

pub stmts::dropped_call-returns : goal.stmts::dropped_call-returns
stmts::dropped_call-returns g t c = then_does _ c.in-Ok.ensures (pure_does _ _)

pub calls::args-returns-then-room-eq0 : goal.calls::args-returns-then-room-eq0
calls::args-returns-then-room-eq0 g t c = memory_here

pub calls::args_into-returns-then-room-eq0 : goal.calls::args_into-returns-then-room-eq0
calls::args_into-returns-then-room-eq0 g t c = memory_here

pub calls::body-returns-then-room-eq0 : goal.calls::body-returns-then-room-eq0
calls::body-returns-then-room-eq0 g t c = memory_here

pub calls::call-returns-then-room-eq0 : goal.calls::call-returns-then-room-eq0
calls::call-returns-then-room-eq0 g t c = memory_here

pub calls::call_found-returns-then-room-eq0 : goal.calls::call_found-returns-then-room-eq0
calls::call_found-returns-then-room-eq0 g t c = memory_here

pub calls::call_pointed-returns-then-room-eq0 : goal.calls::call_pointed-returns-then-room-eq0
calls::call_pointed-returns-then-room-eq0 g t c = memory_here

pub calls::called-returns-then-room-eq0 : goal.calls::called-returns-then-room-eq0
calls::called-returns-then-room-eq0 g t c = memory_here

pub calls::called_by-returns-then-room-eq0 : goal.calls::called_by-returns-then-room-eq0
calls::called_by-returns-then-room-eq0 g t c = memory_here

pub calls::function-returns-then-room-eq0 : goal.calls::function-returns-then-room-eq0
calls::function-returns-then-room-eq0 g t c = memory_here

pub calls::run_callee-returns-then-room-eq0 : goal.calls::run_callee-returns-then-room-eq0
calls::run_callee-returns-then-room-eq0 g t c = memory_here

pub exprs::call_value-returns-then-room-eq0 : goal.exprs::call_value-returns-then-room-eq0
exprs::call_value-returns-then-room-eq0 g t c = memory_here

pub exprs::expr-returns-then-room-eq0 : goal.exprs::expr-returns-then-room-eq0
exprs::expr-returns-then-room-eq0 g t c = memory_here

pub exprs::one-returns-then-room-eq0 : goal.exprs::one-returns-then-room-eq0
exprs::one-returns-then-room-eq0 g t c = memory_here

pub exprs::placed-returns-then-room-eq0 : goal.exprs::placed-returns-then-room-eq0
exprs::placed-returns-then-room-eq0 g t c = memory_here

pub exprs::side-returns-then-room-eq0 : goal.exprs::side-returns-then-room-eq0
exprs::side-returns-then-room-eq0 g t c = memory_here

pub exprs::tested-returns-then-room-eq0 : goal.exprs::tested-returns-then-room-eq0
exprs::tested-returns-then-room-eq0 g t c = memory_here

pub exprs::two-returns-then-room-eq0 : goal.exprs::two-returns-then-room-eq0
exprs::two-returns-then-room-eq0 g t c = memory_here

pub places::deref-returns-then-room-eq0 : goal.places::deref-returns-then-room-eq0
places::deref-returns-then-room-eq0 g t c = memory_here

pub places::field-returns-then-room-eq0 : goal.places::field-returns-then-room-eq0
places::field-returns-then-room-eq0 g t c = memory_here

pub places::place-returns-then-room-eq0 : goal.places::place-returns-then-room-eq0
places::place-returns-then-room-eq0 g t c = memory_here

pub stmts::assign-returns-then-room-eq0 : goal.stmts::assign-returns-then-room-eq0
stmts::assign-returns-then-room-eq0 g t c = memory_here

pub stmts::assign_value-returns-then-room-eq0 : goal.stmts::assign_value-returns-then-room-eq0
stmts::assign_value-returns-then-room-eq0 g t c = memory_here

pub stmts::block-returns-then-room-eq0 : goal.stmts::block-returns-then-room-eq0
stmts::block-returns-then-room-eq0 g t c = memory_here

pub stmts::branch-returns-then-room-eq0 : goal.stmts::branch-returns-then-room-eq0
stmts::branch-returns-then-room-eq0 g t c = memory_here

pub stmts::copied-returns-then-room-eq0 : goal.stmts::copied-returns-then-room-eq0
stmts::copied-returns-then-room-eq0 g t c = memory_here

pub stmts::dropped_call-returns-then-room-eq0 : goal.stmts::dropped_call-returns-then-room-eq0
stmts::dropped_call-returns-then-room-eq0 g t c = memory_here

pub stmts::dropped_value-returns-then-room-eq0 : goal.stmts::dropped_value-returns-then-room-eq0
stmts::dropped_value-returns-then-room-eq0 g t c = memory_here

pub stmts::matched-returns-then-room-eq0 : goal.stmts::matched-returns-then-room-eq0
stmts::matched-returns-then-room-eq0 g t c = memory_here

pub stmts::nested-returns-then-room-eq0 : goal.stmts::nested-returns-then-room-eq0
stmts::nested-returns-then-room-eq0 g t c = memory_here

pub stmts::returned-returns-then-room-eq0 : goal.stmts::returned-returns-then-room-eq0
stmts::returned-returns-then-room-eq0 g t c = memory_here

pub stmts::stmt-returns-then-room-eq0 : goal.stmts::stmt-returns-then-room-eq0
stmts::stmt-returns-then-room-eq0 g t c = memory_here

pub stmts::stmts-returns-then-room-eq0 : goal.stmts::stmts-returns-then-room-eq0
stmts::stmts-returns-then-room-eq0 g t c = memory_here

pub stmts::turns-returns-then-room-eq0 : goal.stmts::turns-returns-then-room-eq0
stmts::turns-returns-then-room-eq0 g t c = memory_here

pub stmts::whole_stmt-returns-then-room-eq0 : goal.stmts::whole_stmt-returns-then-room-eq0
stmts::whole_stmt-returns-then-room-eq0 g t c = memory_here

pub calls::args_into-returns-in-Err-push : goal.calls::args_into-returns-in-Err-push
calls::args_into-returns-in-Err-push g t c = arg_unheld (frame_view c.args.scene) c.args.values.now c.in-Ok.value c.args.list.now c.in-Some.others.now c.in-Some.first.now c.in-Some.ensures.cases.0 c.in-Ok.ensures

pub stmts::turns-returns : goal.stmts::turns-returns
stmts::turns-returns g t c = c.loop-turn.invariant.follows.by (stops no_memory) _ memory_here
