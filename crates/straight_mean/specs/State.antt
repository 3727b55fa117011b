-- The states of a running program and its steps (ISO C99, 5.1.2, 6.2.4 and 6.8).
use Rattle.std.specs.Prelude.{ℕ, ◌+◌, ℤ, pos, List, [], ◌∷◌, ◌++◌, length, map, replicate, Option, Some, None, Result, Ok, Err}
use Rattle.cr_base.specs.declared.refusal.Place.{Place}
use Rattle.cr_base.specs.declared.rule.URule.{URule}
use Rattle.straight_core.specs.declared.ty.Spot.{Spot}
use Rattle.straight_core.specs.Linked.{main_of, size_of_type}
use Rattle.straight_core.specs.Trees.{CTy, CExpr, place_of, CStmt, stmt, CStmtForm, block, expression, returns, CStmts, no_stmts, more_stmts, CPut, put, CObject, CFun, CProgram}
use Rattle.straight_mean.specs.Nodes.{accessed, scalar_type, scalar_in, designated_place}
use Rattle.straight_mean.specs.Operands.{CValue, scalar, designates, missing, designated, COperand, Frame, CWorld, CFault}
use Rattle.straight_mean.specs.Work.{Work, finished, unfinished, WorkForm, begin, ready, step_at, Stepped, stepped, faulted, choose}
use Rattle.mem_bytes.specs.Access.{and_then, after_put}
use Rattle.mem_bytes.specs.declared.value.Value.TheVariants.{Whole as Number}
use Rattle.mem_bytes.specs.Memory.{Block, byte_cell}

-- ---- static objects

-- a put of a static object, with that object's number
pub record StaticPut : Type 0 where
  pub object : ℕ
  pub stored : CPut

-- an object in front of others, where it is static and defined
abbrev pub statics_first : CObject → Option (List CPut) → List CObject → List CObject
statics_first one None more = more
statics_first one (Some puts) more = one ∷ more

-- the static objects of a list that are defined
abbrev pub statics_in : List CObject → List CObject
statics_in [] = []
statics_in (one ∷ more) = statics_first one one.puts (statics_in more)

abbrev puts_of : ℕ → Option (List CPut) → List StaticPut
puts_of object None = []
puts_of object (Some puts) = map (λ one. record { object = object; stored = one }) puts

-- all that is stored in static objects before the program begins, in order
abbrev pub puts_in : List CObject → List StaticPut
puts_in [] = []
puts_in (one ∷ more) = puts_of one.object one.puts ++ puts_in more

-- the block of a static object when its life begins: all its bytes are 0 (6.7.8p10)
abbrev pub zeroed : CTy → Block
zeroed type = record { align = size_of_type type; cells = replicate (size_of_type type) (byte_cell 0) }

-- the objects in scope with one more, whose block is the next
abbrev pub with_object : Frame → CObject → CWorld → Frame
with_object frame one world = frame ++ record { object = one.object; block = length world.memory } ∷ []

-- the world after a static object's life began (6.2.4p3)
abbrev pub with_static : CObject → CWorld → CWorld
with_static one world = record world { memory = world.memory ++ Some (zeroed one.type) ∷ [] }

-- the place of a part of an object
abbrev pub part_of_object : CValue → Spot → CValue
part_of_object (designates at) spot = designates (record { block = at.block; offset = at.offset + spot.byte })
part_of_object (scalar value) spot = missing
part_of_object missing spot = missing

-- the world after a value was stored at a place
abbrev pub stored_at : CTy → CValue → COperand → CWorld → Result CWorld URule
stored_at type target value world =
    and_then (scalar_type type) (λ kind.
    and_then (designated_place target) (λ at.
    and_then (scalar_in value) (λ new.
    and_then (accessed (after_put world.memory at kind new)) (λ memory.
    Ok (record world { memory = memory })))))

-- the world after a put of an object was stored
abbrev pub stored_put : CValue → CPut → COperand → CWorld → Result CWorld URule
stored_put target (put spot type value) operand world =
    stored_at type (part_of_object target spot) operand world

-- the world after the value of a put was stored in its part of its object (6.7.8p10)
abbrev pub put_step : Frame → StaticPut → COperand → CWorld → Result CWorld URule
put_step frame one operand world = stored_put (designated frame one.object) one.stored operand world

-- the value of a put
abbrev pub value_of_put : CPut → CExpr
value_of_put (put spot type value) = value

-- ---- where a run stands

-- what is done with the value of a full expression
pub data Purpose : Type 0 where
  -- it is stored in a static object, and then those that follow
  to_store : StaticPut → List StaticPut → Purpose
  -- it is dropped (6.8.3), and the statements that are left follow
  to_drop : List CStmts → Purpose
  -- the function gives it back (6.8.6.4)
  to_return : Purpose

-- Where a run stands: what its next step is. A place in a body is what is left of it: the statements that
-- are left of each open block, the innermost first.
pub data CControl : Type 0 where
  -- the life of a static object begins; others follow
  begins : CObject → List CObject → CControl
  -- an unfinished full expression takes a step
  evaluates : (type : CTy) → (place : Place) → WorkForm → Purpose → CControl
  -- a value is stored in a static object; other puts follow
  stores : StaticPut → COperand → List StaticPut → CControl
  -- `main` is called (5.1.2.2.1)
  calls_main : CControl
  -- a statement is reached; others are left
  reaches : CStmt → List CStmts → CControl
  -- the end of the body of `main` is reached (5.1.2.2.3)
  leaves : CControl
  -- `main` gives back what an operand gives (6.8.6.4)
  gives : COperand → CControl
  -- the program has ended with a status
  has_ended : (status : ℤ) → CControl
  -- a step was undefined
  is_undefined : CFault → CControl

-- a state: where the run stands, the objects in scope, the world, and the numbers of the order that are left
pub record CState : Type 0 where
  pub control : CControl
  pub frame : Frame
  pub world : CWorld
  pub order : List ℕ

-- ---- what comes next

-- the next statement of those that are left, or the end of the body
abbrev pub reaching_of : CStmts → List CStmts → CControl → CControl
reaching_of no_stmts levels end = end
reaching_of (more_stmts first others) levels end = reaches first (others ∷ levels)

abbrev pub reaching : List CStmts → CControl
reaching [] = leaves
reaching (stmts ∷ levels) = reaching_of stmts levels (reaching levels)

-- what follows a full expression that is finished
abbrev pub fulfilled : Purpose → COperand → CControl
fulfilled (to_store one more) operand = stores one operand more
fulfilled (to_drop levels) operand = reaching levels
fulfilled to_return operand = gives operand

-- a full expression goes on, or is finished
abbrev pub evaluating : Work → Purpose → CControl
evaluating (finished operand) purpose = fulfilled purpose operand
evaluating (unfinished type place form) purpose = evaluates type place form purpose

-- the next put, or the call of `main`
abbrev pub putting : Frame → List StaticPut → CControl
putting frame [] = calls_main
putting frame (one ∷ more) = evaluating (begin frame (value_of_put one.stored)) (to_store one more)

-- the next static object, or the first put
abbrev pub beginning : Frame → List CObject → List StaticPut → CControl
beginning frame [] puts = putting frame puts
beginning frame (one ∷ more) puts = begins one more

-- what a statement does once it is reached
abbrev pub entering : Frame → List CStmts → CStmtForm → CControl
entering frame levels (block stmts) = reaching (stmts ∷ levels)
entering frame levels (expression value) = evaluating (begin frame value) (to_drop levels)
entering frame levels (returns (Some value)) = evaluating (begin frame value) to_return
entering frame levels (returns None) = leaves

abbrev pub entering_stmt : Frame → List CStmts → CStmt → CControl
entering_stmt frame levels (stmt place objects form) = entering frame levels form

abbrev status_in : CValue → ℤ
status_in (scalar (Number status)) = status
status_in _ = pos 0

-- the status with which the program ends where `main` gives back what an operand gives
abbrev pub status_of : COperand → ℤ
status_of operand = status_in operand.value

-- ---- steps

abbrev pub at_control : CState → CControl → CState
at_control state control = record state { control = control }

-- the state after a step of a full expression
abbrev pub after_step : Purpose → Frame → List ℕ → CWorld → Stepped → CState
after_step purpose frame order world (stepped work next) =
    record { control = evaluating work purpose; frame = frame; world = next; order = order }
after_step purpose frame order world (faulted fault) =
    record { control = is_undefined fault; frame = frame; world = world; order = order }

-- one step of an unfinished full expression, at the ready node that the order takes
abbrev pub expression_step : CProgram → Work → Purpose → CState → CState
expression_step program work purpose state =
    let choice = choose state.order (ready work) in
    after_step purpose state.frame choice.order state.world (step_at program choice.path work state.world)

-- the state after a static object's life began
abbrev pub after_begin : CProgram → CObject → List CObject → CState → CState
after_begin program one more state =
    let frame = with_object state.frame one state.world in
    record {
      control = beginning frame more (puts_in program.objects);
      frame = frame;
      world = with_static one state.world;
      order = state.order;
    }

-- the state after the store of a put
abbrev pub after_store : StaticPut → List StaticPut → CState → Result CWorld URule → CState
after_store one more state (Ok world) =
    record { control = putting state.frame more; frame = state.frame; world = world; order = state.order }
after_store one more state (Err rule) =
    at_control state (is_undefined (record { rule = rule; place = place_of (value_of_put one.stored) }))

-- the call of `main`; a linked program has one
abbrev pub calling : Option CFun → CControl
calling None = calls_main
calling (Some one) = reaching (more_stmts one.body no_stmts ∷ [])

abbrev pub step_of : CProgram → CState → CControl → CState
step_of program state (begins one more) = after_begin program one more state
step_of program state (evaluates type place form purpose) =
    expression_step program (unfinished type place form) purpose state
step_of program state (stores one operand more) =
    after_store one more state (put_step state.frame one operand state.world)
step_of program state calls_main = at_control state (calling (main_of program.functions))
step_of program state (reaches first levels) = at_control state (entering_stmt state.frame levels first)
step_of program state leaves = at_control state (has_ended (pos 0))
step_of program state (gives operand) = at_control state (has_ended (status_of operand))
step_of program state (has_ended status) = state
step_of program state (is_undefined fault) = state

-- one step. A run that has ended, or whose last step was undefined, stays as it is.
abbrev pub c_step : CProgram → CState → CState
c_step program state = step_of program state state.control
