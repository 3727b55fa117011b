-- The states of a running program, as the engine holds them.
use Rattle.std.specs.Prelude.{◌≡◌, List, map, reverse, Option, Some, None, option_map, Bool}
use Rattle.cr_world.specs.World.{World}
use Rattle.cx_core.specs.Views.{view_function, view_object}
use Rattle.cx_mean.specs.Moves.{CPurpose, drops_it, turns_on, calls_main, CStand, next_of, turning_on}
use Rattle.cx_mean.specs.State.{CCaller, CControl, begins_static, moves, evaluates, uses, takes, CState, evaluating, statics_in, control_of}
use Rattle.cx_mean.specs.Operands.{COperand, CValue}
use Rattle.cx_mean.specs.Work.{CWork, finished, is_finished, resumed}
use Rattle.mem_bytes.specs.Memory.{Blocks}
use Rattle.cx_machine.specs.declared.machine.Caller.{Caller}
use Rattle.cx_machine.specs.declared.machine.Control.{Control}
use Rattle.cx_machine.specs.declared.machine.Control.TheVariants as control
use Rattle.cx_machine.specs.declared.machine.Machine.{Machine}
use Rattle.cx_moves.specs.declared.moves.Purpose.{Purpose}
use Rattle.cx_moves.specs.Sites.{view_move, view_purpose, view_site}
use Rattle.cx_work.specs.declared.work.Work.{Work}
use Rattle.cx_work.specs.Views.{view_finished, view_work}

abbrev pub view_caller : Caller → CCaller
view_caller one = record { work = view_work one.work; purpose = view_purpose (view_site one.site) one.purpose }

-- a full expression takes a step, or its value is used
abbrev pub values_in : Option Work → CPurpose → CControl
values_in None purpose = moves calls_main
values_in (Some work) purpose = evaluating (view_work work) purpose

abbrev pub control_in : Machine → Control → CControl
control_in machine (control.Begins one others) = begins_static (view_object one.now) (statics_in (map view_object others.now))
control_in machine (control.Moves move) = moves (view_move machine.site move)
control_in machine (control.Values purpose) = values_in machine.work (view_purpose (view_site machine.site) purpose)
control_in machine (control.Takes callee params) =
    takes (record { callee = view_function callee.now; params = params.now; args = reverse (map view_finished machine.args); frame = machine.site.params })

abbrev pub view_control : Machine → CControl
view_control machine = control_in machine machine.control

-- the functions that wait, which are held the outermost first
abbrev pub callers_of : List Caller → List CCaller
callers_of callers = reverse (map view_caller callers)

abbrev pub view_machine : Machine → World → CState
view_machine machine world = record {
  control = view_control machine;
  statics = machine.statics;
  callers = callers_of machine.callers;
  world = world;
  order = machine.order.now;
}

-- ---- changes

-- the run stands somewhere else in the function that runs
pub record IsAt (old new : Machine) (next : CControl) : Type 0 where
  pub control : view_control new ≡ next
  pub statics : new.statics ≡ old.statics
  pub callers : callers_of new.callers ≡ callers_of old.callers
  pub order : new.order.now ≡ old.order.now

-- what is next, and the memory in which it is
pub record CNext : Type 0 where
  pub control : CControl
  pub blocks : Blocks

abbrev pub next_at : CStand → CNext
next_at one = record { control = control_of one.move; blocks = one.blocks }

-- the run goes on there
pub record GoesTo (old new : Machine) (next : CNext) (left : Blocks) : Type 0 where
  pub at : IsAt old new next.control
  pub memory : next.blocks ≡ left

-- a full expression goes on; where its last step was taken and its value is dropped, what follows is next at once
abbrev pub finished_next : COperand → CPurpose → Blocks → CNext
finished_next operand (drops_it site) blocks = next_at (next_of site blocks)
finished_next operand (turns_on site) blocks = next_at (turning_on site blocks)
finished_next operand purpose blocks = record { control = uses operand purpose; blocks = blocks }

abbrev pub going_next : CWork → CPurpose → Blocks → CNext
going_next (finished operand) purpose blocks = finished_next operand purpose blocks
going_next work purpose blocks = record { control = evaluates work purpose; blocks = blocks }

-- what follows a full expression that is held, of which more or less is left
abbrev pub work_next : Option Work → CPurpose → Blocks → CNext
work_next None purpose blocks = record { control = moves calls_main; blocks = blocks }
work_next (Some work) purpose blocks = going_next (view_work work) purpose blocks

-- whether it is finished
abbrev pub is_over : Option Work → Option Bool
is_over work = option_map (λ one. is_finished (view_work one)) work

-- a caller is taken up with a value
pub record TakesUp (old new : Machine) (caller : Caller) (value : CValue) (purpose : Purpose) : Type 0 where
  pub work : option_map view_work new.work ≡ Some (resumed value (view_work caller.work))
  pub purpose_is : view_purpose (view_site new.site) purpose ≡ view_purpose (view_site caller.site) caller.purpose
  pub statics : new.statics ≡ old.statics
  pub callers : new.callers ≡ old.callers
  pub order : new.order.now ≡ old.order.now
