-- Calls (ISO C99, 6.5.2.2): what is called with what, when that is undefined, and what a call of a function does that no unit
-- defines.
use Rattle.std.specs.Prelude.{ℕ, Bool, true, false, ◌==◌, if◌then◌else◌, ℤ, List, [], ◌∷◌, length, Option, Some, None, Result, Ok, Err}
use Rattle.cr_base.specs.declared.refusal.Place.{Place}
use Rattle.cr_base.specs.declared.rule.URule.TheVariants.{U13, U14}
use Rattle.cr_base.specs.declared.scalar.Scalar.{Scalar}
use Rattle.cr_base.specs.declared.scalar.Scalar.TheVariants.{Truth, Whole, Object, Code}
use Rattle.cr_base.specs.Scalar.{converted}
use Rattle.cx_core.specs.Trees.{CTy, CTyForm, void, basic, enum_type, pointer, array, record_type, function, form_of_type, CForm, call, call_by, CFun, COuter, CProgram}
use Rattle.cx_core.specs.Typing.{function_with, outer_with}
use Rattle.cr_world.specs.Held.{HeldFault}
use Rattle.cr_world.specs.Known.{KnownFunction, known_named, Known, Effect, gives, gives_nothing, ends_program, wants_block, fails, effect}
use Rattle.cr_world.specs.Texts.{text_of}
use Rattle.cr_world.specs.World.{World, Got, blocks_of, with_held, answered, granted}
use Rattle.cx_mean.specs.Marks.{Marks, at_sequence_point}
use Rattle.cx_mean.specs.Operands.{CWhy, breaks, stuck, needed, why_held, CStop, stops, CValue, scalar, cells, names, designates, designates_bits, missing, COperand, scalar_value, united_operands}
use Rattle.cx_mean.specs.Settings.{CSetting, are_compatible, scalar_in_type}
use Rattle.cx_mean.specs.Values.{number_in}
use Rattle.ext_calls.specs.declared.call.Arg.{Arg}
use Rattle.ext_calls.specs.declared.call.Arg.TheVariants.{Whole as WholeArg, Text as TextArg}
use Rattle.mem_bytes.specs.Access.{and_then}
use Rattle.mem_bytes.specs.declared.value.Value.{Value}
use Rattle.mem_bytes.specs.declared.value.Value.TheVariants.{Whole as Number, Null, Object as Pointer, Code as Function}
use Rattle.mem_bytes.specs.Memory.{Blocks}

-- ---- what is called

-- the function itself: one that a unit defines, or one that none does
pub data CCallee : Type 0 where
  defined : CFun → CCallee
  external : COuter → CCallee

-- a call: the function, the place of the node and the type that it has, and the arguments
pub record CCalled : Type 0 where
  pub callee : CCallee
  pub place : Place
  pub type : CTy
  pub args : List COperand

abbrev pub callee_of : Option CFun → Option COuter → Result CCallee CWhy
callee_of (Some one) outer = Ok (defined one)
callee_of None (Some outer) = Ok (external outer)
callee_of None None = Err stuck

-- the function with a number
abbrev pub callee_numbered : CProgram → ℕ → Result CCallee CWhy
callee_numbered program number = callee_of (function_with number program.functions) (outer_with number program.externals)

abbrev pub type_of_callee : CCallee → CTy
type_of_callee (defined one) = one.type
type_of_callee (external one) = one.type

-- ---- U13 and U14 (6.5.2.2p6, p9)

abbrev pub is_missing : CValue → Bool
is_missing missing = true
is_missing (scalar value) = false
is_missing (cells held from) = false
is_missing (names number) = false
is_missing (designates to) = false
is_missing (designates_bits at bit width) = false

-- each argument has a value
abbrev pub all_given : List COperand → Result (List COperand) CWhy
all_given [] = Ok []
all_given (first ∷ others) =
    and_then (all_given others) (λ rest. if is_missing first.value then Err (breaks U14) else Ok (first ∷ rest))

-- as many arguments as a defined function has parameters
abbrev pub counted : CCallee → ℕ → Result CCallee CWhy
counted (defined one) count = if length one.params == count then Ok (defined one) else Err (breaks U13)
counted (external one) count = Ok (external one)

abbrev pub points_to : CTyForm → Option CTy
points_to (pointer to) = Some to
points_to void = None
points_to (basic which) = None
points_to (enum_type number) = None
points_to (array element length) = None
points_to (record_type number) = None
points_to (function result params variadic) = None

-- a function is called by a pointer whose type is compatible with its own
abbrev pub by_type : CSetting → CCallee → CTy → Result CCallee CWhy
by_type setting callee visible =
    if are_compatible setting visible (type_of_callee callee) then Ok callee else Err (breaks U13)

abbrev pub by_pointer : CSetting → CTy → ℕ → Result CCallee CWhy
by_pointer setting type number =
    and_then (callee_numbered setting.program number) (λ callee.
    and_then (needed (points_to (form_of_type type))) (by_type setting callee))

-- the function to which a pointer of a type points; a null pointer isn't called
abbrev pub callee_by : CSetting → CTy → Value → Result CCallee CWhy
callee_by setting type (Function number) = by_pointer setting type number
callee_by setting type Null = Err (breaks U13)
callee_by setting type (Pointer at) = Err stuck
callee_by setting type (Number number) = Err stuck

-- ---- the step of a call

-- a call, and the accesses before it: there is a sequence point between them (6.5.2.2p10)
pub record CCalling : Type 0 where
  pub called : CCalled
  pub marks : Marks

abbrev pub called_with : CTy → Place → Marks → List COperand → CCallee → Result CCalling CWhy
called_with type place marks args callee =
    and_then (counted callee (length args)) (λ one.
    and_then (all_given args) (λ all.
    Ok (record {
      called = record { callee = one; place = place; type = type; args = all };
      marks = at_sequence_point marks;
    })))

abbrev pub called_by : CSetting → CTy → Place → Marks → List COperand → Result CCalling CWhy
called_by setting type place marks [] = Err stuck
called_by setting type place marks (first ∷ args) =
    and_then (scalar_value first.value) (λ value.
    and_then (callee_by setting first.type value) (called_with type place marks args))

abbrev pub called_as : CSetting → CTy → Place → CForm → Marks → List COperand → Result CCalling CWhy
called_as setting type place (call number args) marks operands =
    and_then (callee_numbered setting.program number) (called_with type place marks operands)
called_as setting type place (call_by callee args) marks operands = called_by setting type place marks operands
called_as setting type place form marks operands = Err stuck

-- the step of a call whose operands are finished
abbrev pub node_calling : CSetting → CTy → Place → CForm → List COperand → Result CCalling CWhy
node_calling setting type place form operands =
    and_then (united_operands operands) (λ marks. called_as setting type place form marks operands)

-- ---- calls of functions that no unit defines

-- an argument as the outside sees it: a number with the scalar of its type, or a text
abbrev pub number_argument : Scalar → Value → Result Arg CWhy
number_argument kind value = and_then (number_in value) (λ number. Ok (WholeArg kind number))

abbrev pub text_argument : Result (List ℕ) HeldFault → Result Arg CWhy
text_argument (Ok text) = Ok (TextArg text)
text_argument (Err fault) = Err (why_held fault)

abbrev pub argument_of : Blocks → Option Scalar → Value → Result Arg CWhy
argument_of blocks (Some Truth) value = number_argument Truth value
argument_of blocks (Some (Whole width signed)) value = number_argument (Whole width signed) value
argument_of blocks (Some Object) value = text_argument (text_of blocks value)
argument_of blocks (Some Code) value = Err stuck
argument_of blocks None value = Err stuck

abbrev pub arguments : CSetting → Blocks → List COperand → Result (List Arg) CWhy
arguments setting blocks [] = Ok []
arguments setting blocks (first ∷ others) =
    and_then (scalar_value first.value) (λ value.
    and_then (argument_of blocks (scalar_in_type setting first.type) value) (λ arg.
    and_then (arguments setting blocks others) (λ rest. Ok (arg ∷ rest))))

abbrev pub values_of : List COperand → Result (List Value) CWhy
values_of [] = Ok []
values_of (first ∷ others) =
    and_then (scalar_value first.value) (λ value. and_then (values_of others) (λ rest. Ok (value ∷ rest)))

-- what an answer gives: it is converted to the result type, and dropped where that is `void`
abbrev pub answer_as : Option Scalar → ℤ → CValue
answer_as None answer = missing
answer_as (Some kind) answer = scalar (Number (converted kind answer))

-- how a call of a function ends that no unit defines: it gives a value, or the program ends
pub data CReturn : Type 0 where
  returns_value : CValue → World → CReturn
  ends_with : ℤ → World → CReturn

abbrev pub COutcome : Type 0
COutcome = Result CReturn CStop

abbrev pub wrong_at : {A : Type 0} → Place → Result A CWhy → Result A CStop
wrong_at place (Ok value) = Ok value
wrong_at place (Err why) = Err (stops why place)

abbrev pub with_answer : Option Scalar → Result (Got ℤ) CStop → COutcome
with_answer kind outcome = and_then outcome (λ one. Ok (returns_value (answer_as kind one.value) one.world))

abbrev pub with_block : Result (Got Value) CStop → COutcome
with_block outcome = and_then outcome (λ one. Ok (returns_value (scalar one.value) one.world))

-- a function whose effect isn't known: the texts among its arguments are read at the call
abbrev pub opaque_call : CSetting → CCalled → COuter → World → COutcome
opaque_call setting one callee world =
    and_then (wrong_at one.place (arguments setting (blocks_of world) one.args)) (λ args.
    with_answer (scalar_in_type setting one.type) (answered (record { name = callee.name; args = args }) world))

abbrev pub by_effect : Place → World → Effect → COutcome
by_effect place world (gives value held) = Ok (returns_value (scalar value) (with_held held world))
by_effect place world (gives_nothing held) = Ok (returns_value missing (with_held held world))
by_effect place world (ends_program status) = Ok (ends_with status world)
by_effect place world (wants_block is_zero size) = with_block (granted is_zero size world)
by_effect place world (fails fault) = Err (stops (why_held fault) place)

abbrev pub known_call : CCalled → Known → World → COutcome
known_call one does world =
    and_then (wrong_at one.place (values_of one.args)) (λ args. by_effect one.place world (effect does args world.held))

abbrev pub call_by_table : CSetting → CCalled → COuter → World → Option KnownFunction → COutcome
call_by_table setting one callee world (Some known) = known_call one known.does world
call_by_table setting one callee world None = opaque_call setting one callee world

-- a call of a function that no unit defines
abbrev pub external_call : CSetting → CCalled → COuter → World → COutcome
external_call setting one callee world = call_by_table setting one callee world (known_named callee.name)
