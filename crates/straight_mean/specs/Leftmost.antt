-- The leftmost run as functions of trees: evaluation from the left by recursion on an expression, then
-- statements, bodies and programs. It is what the steps give under the empty order (Laws.antt), in the form
-- that a translator's proof follows.
use Rattle.std.specs.Prelude.{ℕ, ℤ, pos, List, [], ◌∷◌, Option, Some, None, Result, Ok, Err}
use Rattle.cr_base.specs.declared.refusal.Place.{Place}
use Rattle.cr_base.specs.declared.rule.URule.{URule}
use Rattle.cr_runs.specs.Runs.{Ran, came, halted, bad, out, bind, tick}
use Rattle.straight_core.specs.Linked.{main_of}
use Rattle.straight_core.specs.Trees.{CTy, CExpr, expr, CForm, whole, object, load, convert, unary, binary, assign, call, CExprs, no_exprs, more_exprs, place_of, CStmt, stmt, CStmtForm, block, expression, returns, CStmts, no_stmts, more_stmts, CObject, CFun, CProgram}
use Rattle.straight_mean.specs.Nodes.{Done, load_step, assign_step, unary_step, binary_step, convert_step, call_step}
use Rattle.straight_mean.specs.Operands.{COperand, Frame, constant, lvalue, CWorld, CFault}
use Rattle.straight_mean.specs.Run.{CSeen, going, ended, undefined_by, first_world}
use Rattle.straight_mean.specs.State.{StaticPut, statics_in, puts_in, with_object, with_static, put_step, value_of_put, status_of}
use Rattle.ext_calls.specs.Outside.{Outside}

-- a piece of a run of C
abbrev pub CRan : Type 0 → Type 0
CRan A = Ran CFault CWorld A

-- ---- expressions

abbrev pub from_done : Place → CWorld → ℕ → Result Done URule → CRan COperand
from_done place world left (Ok one) = came one.operand one.world left
from_done place world left (Err rule) = bad (record { rule = rule; place = place }) world

-- the one step of a node at a place
abbrev pub c_node : Place → CWorld → Result Done URule → ℕ → CRan COperand
c_node place world outcome = tick world (λ left. from_done place world left outcome)

abbrev mutual
  -- the value of an expression, with its marks, within so many steps
  pub c_value : CProgram → Frame → CExpr → CWorld → ℕ → CRan COperand
  c_value program frame (expr type place form) world steps = c_form program frame type place form world steps

  pub c_form : CProgram → Frame → CTy → Place → CForm → CWorld → ℕ → CRan COperand
  c_form program frame type place (whole value) world steps = came (constant type value) world steps
  c_form program frame type place (object number) world steps = came (lvalue frame type number) world steps
  c_form program frame type place (load from) world steps =
      bind (c_value program frame from world steps) (λ at world.
      c_node place world (load_step type at world))
  c_form program frame type place (convert value) world steps =
      bind (c_value program frame value world steps) (λ one world.
      c_node place world (convert_step type one world))
  c_form program frame type place (unary op value) world steps =
      bind (c_value program frame value world steps) (λ one world.
      c_node place world (unary_step op type one world))
  c_form program frame type place (binary op left right) world steps =
      bind (c_value program frame left world steps) (λ one world steps.
      bind (c_value program frame right world steps) (λ other world.
      c_node place world (binary_step op type one other world)))
  c_form program frame type place (assign target value) world steps =
      bind (c_value program frame target world steps) (λ at world steps.
      bind (c_value program frame value world steps) (λ new world.
      c_node place world (assign_step type at new world)))
  c_form program frame type place (call callee args) world steps =
      bind (c_values program frame args world steps) (λ operands world.
      c_node place world (call_step program callee type operands world))

  -- the values of expressions, from the left
  pub c_values : CProgram → Frame → CExprs → CWorld → ℕ → CRan (List COperand)
  c_values program frame no_exprs world steps = came [] world steps
  c_values program frame (more_exprs first others) world steps =
      bind (c_value program frame first world steps) (λ one world steps.
      bind (c_values program frame others world steps) (λ more world.
      came (one ∷ more) world))

-- ---- statements

-- how a statement came to its end: what follows it is next, or the function gives a value back
pub data CFlow : Type 0 where
  goes_on : CFlow
  -- the end of the function is next, without a value
  goes_out : CFlow
  -- the function gave back what an operand gives
  gave : COperand → CFlow

-- what follows a statement: the others, where no return was reached
abbrev pub c_then : CFlow → (CWorld → ℕ → CRan CFlow) → CWorld → ℕ → CRan CFlow
c_then goes_on others world steps = others world steps
c_then goes_out others world steps = came goes_out world steps
c_then (gave one) others world steps = came (gave one) world steps

abbrev mutual
  -- a statement, from where it is reached on
  pub c_stmt : CProgram → Frame → CStmt → CWorld → ℕ → CRan CFlow
  c_stmt program frame (stmt place objects form) world steps =
      tick world (λ left. c_stmt_form program frame form world left) steps

  pub c_stmt_form : CProgram → Frame → CStmtForm → CWorld → ℕ → CRan CFlow
  c_stmt_form program frame (block stmts) world steps = c_stmts program frame stmts world steps
  c_stmt_form program frame (expression value) world steps =
      bind (c_value program frame value world steps) (λ one world. came goes_on world)
  c_stmt_form program frame (returns (Some value)) world steps =
      bind (c_value program frame value world steps) (λ one world. tick world (came (gave one) world))
  c_stmt_form program frame (returns None) world steps = came goes_out world steps

  -- statements in order
  pub c_stmts : CProgram → Frame → CStmts → CWorld → ℕ → CRan CFlow
  c_stmts program frame no_stmts world steps = came goes_on world steps
  c_stmts program frame (more_stmts first others) world steps =
      bind (c_stmt program frame first world steps) (λ flow world.
      c_then flow (λ world steps. c_stmts program frame others world steps) world)

-- ---- programs

-- the status with which `main` ends after its body: 0 at its end (5.1.2.2.3)
abbrev pub c_end : CFlow → CWorld → ℕ → CRan ℤ
c_end goes_on world = tick world (came (pos 0) world)
c_end goes_out world = tick world (came (pos 0) world)
c_end (gave one) world = came (status_of one) world

-- the call of `main`, and its run
abbrev pub c_called : CProgram → Frame → Option CFun → CWorld → ℕ → CRan ℤ
c_called program frame None world steps = out world
c_called program frame (Some one) world steps =
    tick world (λ left. bind (c_stmt program frame one.body world left) c_end) steps

-- the store of a put, and what follows it
abbrev pub c_stored : CWorld → Place → Result CWorld URule → (CWorld → ℕ → CRan ℤ) → ℕ → CRan ℤ
c_stored world place (Ok next) others left = others next left
c_stored world place (Err rule) others left = bad (record { rule = rule; place = place }) world

-- the values of static objects are stored, and then `main` is called
abbrev pub c_puts : CProgram → Frame → List StaticPut → CWorld → ℕ → CRan ℤ
c_puts program frame [] world steps = c_called program frame (main_of program.functions) world steps
c_puts program frame (one ∷ more) world steps =
    bind (c_value program frame (value_of_put one.stored) world steps) (λ operand world.
    tick world (c_stored world (place_of (value_of_put one.stored)) (put_step frame one operand world)
    (λ world left. c_puts program frame more world left)))

-- static objects begin their lives, and then their values are stored
abbrev pub c_begins : CProgram → Frame → List CObject → CWorld → ℕ → CRan ℤ
c_begins program frame [] world steps = c_puts program frame (puts_in program.objects) world steps
c_begins program frame (one ∷ more) world steps =
    tick world (λ left. c_begins program (with_object frame one world) more (with_static one world) left) steps

-- a whole run, with the status that it ends with
abbrev pub c_program : CProgram → Outside → ℕ → CRan ℤ
c_program program answers steps = c_begins program [] (statics_in program.objects) (first_world answers) steps

-- what is seen of a run
abbrev pub c_shown : CRan ℤ → CSeen
c_shown (came status world left) = record { events = world.events; progress = ended status }
c_shown (halted status world) = record { events = world.events; progress = ended status }
c_shown (bad fault world) = record { events = world.events; progress = undefined_by fault }
c_shown (out world) = record { events = world.events; progress = going }

-- what is seen of the leftmost run after so many steps
abbrev pub c_leftmost : CProgram → Outside → ℕ → CSeen
c_leftmost program answers steps = c_shown (c_program program answers steps)
