use Rattle.std.proofs.Common.{map, drop, ◌+◌}
use Rattle.rs_scene.specs.Scenes.{frame_view, held_local}
use Rattle.rs_machine.specs.States.{state}
use Rattle.rs_tree.specs.Views.{module_view, stmt_view}
use Rattle.rs_mean.specs.Run.{run_stmts}
use Rattle.rs_text.specs.Tree.{stmts}
use Rattle.rs_bodies.proofs.Turned.{Follows, Turns}
use Rattle.rs_bodies.proofs.+knot.Given as goal

-- what the statements that are left do from here, all of them do from the start
abbrev pub invariant-stmts::stmts-loop-one : goal.invariant-stmts::stmts-loop-one
invariant-stmts::stmts-loop-one g l = record {
  follows : Follows (run_stmts (frame_view l.scene) (stmts (map stmt_view l.list))) (run_stmts (frame_view l.scene) (stmts (map stmt_view (drop l.one-index l.list))))
      (state l.fn.machine (g.S.Store.memory l.fn.store) (g.S.Store.limit l.fn.store) (g.H.Host.state l.fn.host)) (state l.machine (g.S.Store.memory l.store) (g.S.Store.limit l.store) (g.H.Host.state l.host));
}

-- what the loop does from here, it does from the start
abbrev pub invariant-stmts::turns-loop-turn : goal.invariant-stmts::turns-loop-turn
invariant-stmts::turns-loop-turn g l = record {
  follows : Follows (Turns (map module_view l.scene.modules.now) (map held_local l.scene.locals.now) l.label (stmts (map stmt_view l.body)))
      (Turns (map module_view l.scene.modules.now) (map held_local l.scene.locals.now) l.label (stmts (map stmt_view l.body)))
      (state l.fn.machine (g.S.Store.memory l.fn.store) (g.S.Store.limit l.fn.store) (g.H.Host.state l.fn.host)) (state l.machine (g.S.Store.memory l.store) (g.S.Store.limit l.store) (g.H.Host.state l.host));
}

abbrev pub decreases-calls::args : goal.decreases-calls::args
decreases-calls::args g l = l.room + l.room

abbrev pub decreases-calls::args_into : goal.decreases-calls::args_into
decreases-calls::args_into g l = l.room + l.room

abbrev pub decreases-calls::body : goal.decreases-calls::body
decreases-calls::body g l = l.room + l.room

abbrev pub decreases-calls::call_found : goal.decreases-calls::call_found
decreases-calls::call_found g l = l.room + l.room

abbrev pub decreases-calls::call_pointed : goal.decreases-calls::call_pointed
decreases-calls::call_pointed g l = l.room + l.room

abbrev pub decreases-calls::called : goal.decreases-calls::called
decreases-calls::called g l = l.room + l.room

abbrev pub decreases-calls::called_by : goal.decreases-calls::called_by
decreases-calls::called_by g l = l.room + l.room

abbrev pub decreases-calls::function : goal.decreases-calls::function
decreases-calls::function g l = l.room + l.room

abbrev pub decreases-calls::run_callee : goal.decreases-calls::run_callee
decreases-calls::run_callee g l = l.room + l.room

abbrev pub decreases-places::deref : goal.decreases-places::deref
decreases-places::deref g l = l.room + l.room

abbrev pub decreases-places::field : goal.decreases-places::field
decreases-places::field g l = l.room + l.room

abbrev pub decreases-places::place : goal.decreases-places::place
decreases-places::place g l = l.room + l.room

abbrev pub decreases-stmts::assign : goal.decreases-stmts::assign
decreases-stmts::assign g l = l.room + l.room

abbrev pub decreases-stmts::block : goal.decreases-stmts::block
decreases-stmts::block g l = l.room + l.room

abbrev pub decreases-stmts::branch : goal.decreases-stmts::branch
decreases-stmts::branch g l = l.room + l.room

abbrev pub decreases-stmts::copied : goal.decreases-stmts::copied
decreases-stmts::copied g l = l.room + l.room

abbrev pub decreases-stmts::dropped_value : goal.decreases-stmts::dropped_value
decreases-stmts::dropped_value g l = l.room + l.room

abbrev pub decreases-stmts::matched : goal.decreases-stmts::matched
decreases-stmts::matched g l = l.room + l.room

abbrev pub decreases-stmts::returned : goal.decreases-stmts::returned
decreases-stmts::returned g l = l.room + l.room

abbrev pub decreases-stmts::stmts : goal.decreases-stmts::stmts
decreases-stmts::stmts g l = l.room + l.room

abbrev pub decreases-stmts::turns : goal.decreases-stmts::turns
decreases-stmts::turns g l = l.room + l.room

abbrev pub decreases-exprs::expr : goal.decreases-exprs::expr
decreases-exprs::expr g l = l.room + l.room

abbrev pub decreases-exprs::placed : goal.decreases-exprs::placed
decreases-exprs::placed g l = l.room + l.room

abbrev pub decreases-exprs::call_value : goal.decreases-exprs::call_value
decreases-exprs::call_value g l = l.room + l.room

abbrev pub decreases-exprs::one : goal.decreases-exprs::one
decreases-exprs::one g l = l.room + l.room

abbrev pub decreases-exprs::two : goal.decreases-exprs::two
decreases-exprs::two g l = l.room + l.room

abbrev pub decreases-exprs::side : goal.decreases-exprs::side
decreases-exprs::side g l = l.room + l.room

abbrev pub decreases-exprs::tested : goal.decreases-exprs::tested
decreases-exprs::tested g l = l.room + l.room

abbrev pub decreases-calls::call : goal.decreases-calls::call
decreases-calls::call g l = l.room + l.room

abbrev pub decreases-stmts::stmt : goal.decreases-stmts::stmt
decreases-stmts::stmt g l = l.room + l.room + 1

abbrev pub decreases-stmts::nested : goal.decreases-stmts::nested
decreases-stmts::nested g l = l.room + l.room

abbrev pub decreases-stmts::dropped_call : goal.decreases-stmts::dropped_call
decreases-stmts::dropped_call g l = l.room + l.room

abbrev pub decreases-stmts::assign_value : goal.decreases-stmts::assign_value
decreases-stmts::assign_value g l = l.room + l.room

abbrev pub decreases-stmts::whole_stmt : goal.decreases-stmts::whole_stmt
decreases-stmts::whole_stmt g l = l.room + l.room
