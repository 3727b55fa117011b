-- Choices by values, and the objects in scope of a full expression.
use Rattle.std.specs.Prelude.{ℤ, Bool, true, false, ◌++◌, Result, Ok}
use Rattle.cx_core.specs.Trees.{ty, void}
use Rattle.cx_mean.specs.Moves.{CStand, slots_in, next_of, turning_on, choosing, switching}
use Rattle.cx_mean.specs.Nodes.{truth_of_value}
use Rattle.cx_mean.specs.Operands.{CWhy, CValue, COperand, at_once, Frame, scalar_value}
use Rattle.cx_mean.specs.Paths.{CLevel, CSite}
use Rattle.cx_mean.specs.State.{CState, at_stand}
use Rattle.cx_mean.specs.Values.{number_in}
use Rattle.cr_world.specs.World.{blocks_of}
use Rattle.cx_machine.specs.Machines.{CNext, next_at}
use Rattle.cx_machine.specs.declared.machine.Machine.{Machine}
use Rattle.cx_moves.specs.declared.moves.Behind.{Behind}
use Rattle.cx_moves.specs.declared.moves.Behind.TheVariants as behind
use Rattle.cx_moves.specs.declared.moves.Purpose.{Purpose}
use Rattle.cx_moves.specs.declared.moves.Purpose.TheVariants as purpose
use Rattle.cx_moves.specs.declared.scope.Scope.{Scope}
use Rattle.cx_moves.specs.Sites.{levels_of}
use Rattle.mem_bytes.specs.Access.{and_then}
use Rattle.mem_bytes.specs.Memory.{Blocks}

-- the objects that a scope has
abbrev pub frame_of : Scope → Frame
frame_of one = slots_in (levels_of one.levels.now) ++ one.params.now ++ one.statics.now

-- what is done behind the last put of an object goes on in a body
abbrev pub is_in_body : Behind → Bool
is_in_body behind.Body = true
is_in_body (behind.Statics objects) = false

-- the objects in scope: those of the function that runs, if one does, and the static ones
abbrev pub scope_frame : Machine → Bool → Frame
scope_frame machine true = slots_in (levels_of machine.site.levels) ++ machine.site.params ++ machine.statics
scope_frame machine false = machine.statics

-- a full expression stands in a body
abbrev pub stands_in_body : Purpose → Bool
stands_in_body (purpose.Puts one) = is_in_body one.behind
stands_in_body purpose.Drops = true
stands_in_body purpose.Turns = true
stands_in_body (purpose.Gives place) = true
stands_in_body (purpose.Chooses place) = true

-- an operand that gives a value, of which nothing else is used
abbrev pub used : CValue → COperand
used value = at_once (ty void false) value

abbrev pub number_of_value : CValue → Result ℤ CWhy
number_of_value value = and_then (scalar_value value) number_in

-- a `switch` goes on by a value
abbrev pub switched_by : CValue → CLevel → CSite → Blocks → Result CStand CWhy
switched_by value level site blocks = and_then (number_of_value value) (λ number. Ok (switching level.form number level site.levels site.bottom blocks))

-- an `if` or a loop goes on by one
abbrev pub tested_by : CValue → CLevel → CSite → Blocks → Result CStand CWhy
tested_by value level site blocks = and_then (truth_of_value blocks value) (λ holds. Ok (choosing level.form holds level site.levels site.bottom blocks))

-- what is next where the value of a full expression is dropped: the next turn of a loop, or what follows
abbrev pub dropped_next : Bool → CSite → Blocks → CNext
dropped_next true site blocks = next_at (turning_on site blocks)
dropped_next false site blocks = next_at (next_of site blocks)

abbrev pub dropped_state : Bool → CState → CSite → CState
dropped_state true state site = at_stand state state.world (turning_on site (blocks_of state.world))
dropped_state false state site = at_stand state state.world (next_of site (blocks_of state.world))
