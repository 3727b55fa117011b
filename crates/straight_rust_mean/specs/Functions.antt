-- Calls: the blocks of a function's parameters and locals, and the calls of external functions (the Rust Reference,
-- "Functions", "External blocks").
use Rattle.std.specs.Prelude.{ℕ, zero, suc, ◌+◌, Bool, true, false, ◌&&◌, ℤ, pos, List, [], ◌∷◌, ◌++◌, map, length, replicate, slice_set, Option, Some, None}
use Rattle.cr_base.specs.Scalar.{converted}
use Rattle.ext_calls.specs.declared.call.Arg.{Arg}
use Rattle.ext_calls.specs.declared.call.Arg.TheVariants.{Whole as Number}
use Rattle.ext_calls.specs.declared.call.Call.{Call}
use Rattle.ext_calls.specs.Host.{first_answer}
use Rattle.ext_calls.specs.Outside.{others}
use Rattle.mem_bytes.specs.declared.cell.Cell.{Cell}
use Rattle.mem_bytes.specs.declared.value.Value.{Value}
use Rattle.mem_bytes.specs.declared.value.Value.TheVariants.{Whole, Null, Object, Code}
use Rattle.mem_bytes.specs.Coding.{scalar_size, cells_of}
use Rattle.mem_bytes.specs.Memory.{Block, Blocks, byte_cell}
use Rattle.cr_runs.specs.Runs.{came}
use Rattle.straight_rust_mean.specs.Scalars.{scalar_of, same_type}
use Rattle.straight_rust_mean.specs.Typing.{symbol_of}
use Rattle.straight_rust_mean.specs.World.{World, Run}
use Rattle.straight_rust_tree.specs.Tree.{Ty, LocalTree, OuterTree, FunctionTree}

-- a value and its type
pub record Typed : Type 0 where
  pub ty : Ty
  pub value : Value

-- ---- blocks

abbrev pub type_size : Ty → ℕ
type_size ty = scalar_size (scalar_of ty)

-- the live block of an object of a type
abbrev pub block_of : Ty → List Cell → Option Block
block_of ty cells = Some (record { align = type_size ty; cells = cells })

-- an object that begins as zero bytes
abbrev pub zeroed : Ty → Option Block
zeroed ty = block_of ty (replicate (type_size ty) (byte_cell 0))

-- an object that begins with a value
abbrev pub holding : Ty → Value → Option Block
holding ty value = block_of ty (cells_of (scalar_of ty) value)

-- the blocks of parameters, which begin with the arguments
abbrev pub param_blocks : List LocalTree → List Typed → Blocks
param_blocks [] args = []
param_blocks (param ∷ params) [] = []
param_blocks (param ∷ params) (arg ∷ args) = holding param.ty arg.value ∷ param_blocks params args

-- the blocks of a function: its parameters, then its locals
abbrev pub frame_blocks : FunctionTree → List Typed → Blocks
frame_blocks fun args = param_blocks fun.params args ++ map (λ local. zeroed local.ty) fun.locals

-- the world with the blocks of a called function
abbrev pub entered : FunctionTree → List Typed → World → World
entered fun args world = record world { memory = world.memory ++ frame_blocks fun args }

-- a memory in which so many blocks from a number on have ended
abbrev pub ended_from : ℕ → ℕ → Blocks → Blocks
ended_from zero first memory = memory
ended_from (suc count) first memory = ended_from count (first + 1) (slice_set memory first None)

-- the world when a function returns that it entered with so many blocks
abbrev pub left : ℕ → FunctionTree → World → World
left first fun world = record world { memory = ended_from (length (fun.params ++ fun.locals)) first world.memory }

-- ---- arguments

-- arguments are those of a signature: their number, and their types as far as there are parameters
abbrev pub accepts : List Ty → Bool → List Typed → Bool
accepts [] variadic [] = true
accepts [] variadic (arg ∷ args) = variadic
accepts (ty ∷ tys) variadic [] = false
accepts (ty ∷ tys) variadic (arg ∷ args) = same_type ty arg.ty && accepts tys variadic args

-- ---- external functions

-- the number of a value of an integer type or `bool`
abbrev pub number_or_zero : Value → ℤ
number_or_zero (Whole n) = n
number_or_zero Null = pos 0
number_or_zero (Object at) = pos 0
number_or_zero (Code f) = pos 0

-- an argument as the outside sees it
abbrev pub arg_of : Typed → Arg
arg_of arg = Number (scalar_of arg.ty) (number_or_zero arg.value)

-- the event of a call
abbrev pub event_of : OuterTree → List Typed → Call
event_of fun args = record { name = symbol_of fun; args = map arg_of args }

-- what an answer gives: it is converted to the result type, and dropped where there is none
abbrev pub answered : Option Ty → ℤ → Option Typed
answered None answer = None
answered (Some ty) answer = Some (record { ty = ty; value = Whole (converted (scalar_of ty) answer) })

-- a call of an external function: one event, and one answer, which is 0 past the end of the outside
abbrev pub outer_call : OuterTree → List Typed → Run (Option Typed)
outer_call fun args = λ world units.
    came (answered fun.result (first_answer world.answers))
    (record world { events = world.events ++ event_of fun args ∷ []; answers = others world.answers }) units
