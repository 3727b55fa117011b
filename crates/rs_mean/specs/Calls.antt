-- Accesses to places, lives of parameters and locals, and calls of external functions (the Rust Reference, "Place expressions",
-- "Functions" and "External blocks").
use Rattle.std.specs.Prelude.{ℕ, ◌+◌, Bool, true, false, ◌&&◌, ℤ, pos, List, [], ◌∷◌, map, Option, Some, None, Result, Ok, Err}
use Rattle.cr_base.specs.Scalar.{converted}
use Rattle.cr_base.specs.declared.layout.Laid.{Laid}
use Rattle.cr_base.specs.declared.scalar.Scalar.{Scalar}
use Rattle.cr_base.specs.declared.scalar.Scalar.TheVariants as scalar
use Rattle.cr_world.specs.Held.{Held, with_blocks, without_block}
use Rattle.cr_world.specs.Known.{KnownFunction, known_named, Effect, gives, gives_nothing, ends_program, wants_block, fails as effect_fails, effect, copying}
use Rattle.cr_world.specs.Texts.{text_of}
use Rattle.ext_calls.specs.declared.call.Arg.{Arg}
use Rattle.ext_calls.specs.declared.call.Arg.TheVariants.{Whole as Number, Text}
use Rattle.ext_calls.specs.declared.call.Call.{Call}
use Rattle.mem_bytes.specs.Access.{value_at, after_put, is_record_aligned}
use Rattle.mem_bytes.specs.Memory.{Block, Blocks, live_block}
use Rattle.mem_bytes.specs.declared.fault.Fault.{Fault}
use Rattle.mem_bytes.specs.declared.fault.Fault.TheVariants as fault
use Rattle.mem_bytes.specs.declared.value.Ptr.{Ptr}
use Rattle.mem_bytes.specs.declared.value.Value.{Value}
use Rattle.mem_bytes.specs.declared.value.Value.TheVariants.{Whole, Null, Object, Code as Function}
use Rattle.rs_text.specs.declared.integer.IntegerTy.TheVariants.{I8}
use Rattle.rs_text.specs.Tree.{Ty, Integer, Boolean, Pointer, LocalTree, OuterTree, ModuleTree}
use Rattle.rs_mean.specs.declared.cause.Cause.{Cause}
use Rattle.rs_mean.specs.declared.cause.Cause.TheVariants as cause
use Rattle.rs_mean.specs.Layout.{laid_of}
use Rattle.rs_mean.specs.Lookups.{LocalBlock, OwnStatic, symbol_of}
use Rattle.rs_mean.specs.Scalars.{scalar_of, integer_scalar, alike}
use Rattle.rs_mean.specs.Values.{Typed, typed}
use Rattle.rs_mean.specs.World.{Run, pure, fails, ends, seq, local, looks, Did, tells, grants, begins, cause_of, cause_of_held, or_cause, then_try}

-- ---- places

-- a place: a pointer, which may be null, to a value of a type, and whether its base is aligned, which is what the last `*` on the way to
-- it points to (the Rust Reference, "Behavior considered undefined": places that are based on a misaligned pointer)
pub record Spot : Type 0 where
  pub ty : Ty
  pub at : Value
  pub is_based : Bool

abbrev pub based : Bool → Ty → Value → Spot
based is_based ty at = record { ty = ty; at = at; is_based = is_based }

-- a place whose base is aligned, or that has none
abbrev pub spot : Ty → Value → Spot
spot ty at = based true ty at

abbrev pub in_block : ℕ → ℕ → Option Block → Bool
in_block align offset None = true
in_block align offset (Some block) = is_record_aligned align block offset

-- a value of a layout may stand where a pointer points to, by its alignment; where there is no live object the access itself is at fault
abbrev pub may_stand : Blocks → Option Laid → Value → Bool
may_stand blocks (Some laid) (Object at) = in_block laid.align at.offset (live_block blocks at.block)
may_stand blocks laid at = true

-- what an access finds, whose place has a base that is aligned or isn't: a base that isn't is found where a place that isn't aligned itself
-- would be, behind a dead object and a place outside of it
abbrev pub on_base : {A : Type 0} → (is_based : Bool) → Result A Fault → Result A Fault
on_base true found = found
on_base false (Err fault.Dead) = Err fault.Dead
on_base false (Err fault.Outside) = Err fault.Outside
on_base false _ = Err fault.Misaligned

abbrev pub loaded_at : Blocks → (is_based : Bool) → Scalar → Value → Result Value Cause
loaded_at blocks is_based scalar (Object at) = or_cause cause_of (on_base is_based (value_at blocks at scalar))
loaded_at blocks is_based scalar Null = Err cause.Outside
loaded_at blocks is_based scalar (Whole number) = Err cause.WrongCall
loaded_at blocks is_based scalar (Function number) = Err cause.WrongCall

abbrev pub loaded_as : Blocks → (is_based : Bool) → Option Scalar → Value → Result Value Cause
loaded_as blocks is_based (Some scalar) at = loaded_at blocks is_based scalar at
loaded_as blocks is_based None at = Err cause.WrongCall

abbrev pub with_type : Ty → Result Value Cause → Result Typed Cause
with_type ty (Ok value) = Ok (typed ty value)
with_type ty (Err why) = Err why

-- the value that a place holds
abbrev pub load : Spot → Run Typed
load place = looks (λ held. with_type place.ty (loaded_as held.blocks place.is_based (scalar_of place.ty) place.at))

abbrev pub in_memory : {A : Type 0} → A → Held → Result Blocks Cause → Result (Did A) Cause
in_memory value held (Ok blocks) = Ok (record { value = value; held = with_blocks blocks held })
in_memory value held (Err why) = Err why

abbrev pub stored_at : Blocks → (is_based : Bool) → Scalar → Value → Value → Result Blocks Cause
stored_at blocks is_based scalar (Object at) value = or_cause cause_of (on_base is_based (after_put blocks at scalar value))
stored_at blocks is_based scalar Null value = Err cause.Outside
stored_at blocks is_based scalar (Whole number) value = Err cause.WrongCall
stored_at blocks is_based scalar (Function number) value = Err cause.WrongCall

abbrev pub stored_as : Blocks → (is_based : Bool) → Option Scalar → Value → Value → Result Blocks Cause
stored_as blocks is_based (Some scalar) at value = stored_at blocks is_based scalar at value
stored_as blocks is_based None at value = Err cause.WrongCall

-- a value is stored at a place
abbrev pub store : Spot → Value → Run (Unit {0})
store place value = local (λ held. in_memory tt held (stored_as held.blocks place.is_based (scalar_of place.ty) place.at value))

-- ---- lives of parameters, locals and static objects

abbrev pub begins_laid : Option Laid → Run Ptr
begins_laid (Some one) = begins one.size one.align
begins_laid None = fails cause.WrongCall

-- the life of an object of a type begins, with bytes that are 0
abbrev pub begins_object : List ModuleTree → Ty → Run Ptr
begins_object modules ty = begins_laid (laid_of modules ty)

abbrev pub local_block : LocalTree → Ptr → LocalBlock
local_block one at = record { name = one.name; ty = one.ty; block = at.block }

-- parameters begin, from the left, each with its argument
abbrev pub begin_params : List ModuleTree → List LocalTree → List Typed → Run (List LocalBlock)
begin_params modules [] args = pure []
begin_params modules (param ∷ params) [] = pure []
begin_params modules (param ∷ params) (arg ∷ args) =
    seq (begins_object modules param.ty) (λ at.
    seq (store (spot param.ty (Object at)) arg.value) (λ _.
    seq (begin_params modules params args) (λ others. pure (local_block param at ∷ others))))

-- locals begin, in their order, as zero bytes
abbrev pub begin_locals : List ModuleTree → List LocalTree → Run (List LocalBlock)
begin_locals modules [] = pure []
begin_locals modules (one ∷ locals) =
    seq (begins_object modules one.ty) (λ at.
    seq (begin_locals modules locals) (λ others. pure (local_block one at ∷ others)))

abbrev pub without_blocks : List LocalBlock → Blocks → Blocks
without_blocks [] blocks = blocks
without_blocks (one ∷ others) blocks = without_blocks others (without_block one.block blocks)

-- parameters and locals end
abbrev pub end_locals : List LocalBlock → Run (Unit {0})
end_locals locals = local (λ held. Ok (record { value = tt; held = with_blocks (without_blocks locals held.blocks) held }))

-- literals are stored side by side, from a byte of a block on
abbrev pub store_literals : ℕ → ℕ → List ℤ → Run (Unit {0})
store_literals block byte [] = pure tt
store_literals block byte (value ∷ values) =
    seq (store (spot (Integer I8) (Object (record { block = block; offset = byte }))) (Whole (converted (integer_scalar I8) value)))
    (λ _. store_literals block (byte + 1) values)

abbrev pub literals_of : Option (List ℤ) → List ℤ
literals_of None = []
literals_of (Some values) = values

-- static objects begin, in the crate's order
abbrev pub begin_statics : List ModuleTree → List OwnStatic → Run (Unit {0})
begin_statics modules [] = pure tt
begin_statics modules (one ∷ others) =
    seq (begins_object modules one.object.ty) (λ at.
    seq (store_literals at.block 0 (literals_of one.object.values)) (λ _. begin_statics modules others))

-- ---- arguments

-- arguments are those of a signature: their number, and their types as far as there are parameters
abbrev pub accepts : List Ty → Bool → List Typed → Bool
accepts [] variadic [] = true
accepts [] variadic (arg ∷ args) = variadic
accepts (ty ∷ tys) variadic [] = false
accepts (ty ∷ tys) variadic (arg ∷ args) = alike ty arg.ty && accepts tys variadic args

abbrev pub value_in : Typed → Value
value_in arg = arg.value

-- ---- known functions

abbrev pub given : Option Ty → Value → Option Typed
given None value = None
given (Some ty) value = Some (typed ty value)

abbrev pub kept_as : Held → Run (Unit {0})
kept_as held = local (λ _. Ok (record { value = tt; held = held }))

abbrev pub takes_effect : Option Ty → Effect → Run (Option Typed)
takes_effect result (gives value held) = seq (kept_as held) (λ _. pure (given result value))
takes_effect result (gives_nothing held) = seq (kept_as held) (λ _. pure None)
takes_effect result (ends_program status) = ends status
takes_effect result (wants_block is_zero size) = seq (grants is_zero size) (λ value. pure (given result value))
takes_effect result (effect_fails why) = fails (cause_of_held why)

-- what is held, for a piece that depends on it
abbrev pub held_now : Run Held
held_now = looks (λ held. Ok held)

-- a call of a function of the library whose meaning is known
abbrev pub known_call : KnownFunction → Option Ty → List Typed → Run (Option Typed)
known_call one result args =
    seq held_now (λ held. takes_effect result (effect one.does (map value_in args) held))

-- ---- other external functions

abbrev pub argued : Scalar → Value → Result Arg Cause
argued scalar (Whole number) = Ok (Number scalar number)
argued scalar value = Err cause.WrongCall

abbrev pub as_text : Result (List ℕ) Cause → Result Arg Cause
as_text (Ok text) = Ok (Text text)
as_text (Err why) = Err why

abbrev pub argument_by : Blocks → Ty → Value → Result Arg Cause
argument_by blocks (Integer ty) value = argued (integer_scalar ty) value
argument_by blocks Boolean value = argued scalar.Truth value
argument_by blocks (Pointer target) value = as_text (or_cause cause_of_held (text_of blocks value))
argument_by blocks _ value = Err cause.WrongCall

-- the arguments as the outside sees them, from the left: a number with its type, a pointer as the text that stands there
abbrev pub arguments_of : Blocks → List Typed → Result (List Arg) Cause
arguments_of blocks [] = Ok []
arguments_of blocks (arg ∷ args) =
    then_try (argument_by blocks arg.ty arg.value) (λ first.
    then_try (arguments_of blocks args) (λ others. Ok (first ∷ others)))

-- the event of a call
abbrev pub event_in : List ℕ → Result (List Arg) Cause → Result Call Cause
event_in name (Ok args) = Ok (record { name = name; args = args })
event_in name (Err why) = Err why

-- what an answer gives: it is converted to the result type, and dropped where there is none
abbrev pub answer_as : Option Ty → ℤ → Run (Option Typed)
answer_as None answer = pure None
answer_as (Some (Integer ty)) answer = pure (Some (typed (Integer ty) (Whole (converted (integer_scalar ty) answer))))
answer_as (Some Boolean) answer = pure (Some (typed Boolean (Whole (converted scalar.Truth answer))))
answer_as (Some ty) answer = fails cause.WrongCall

-- a call of another function: one event, with texts as they stand now, and one answer
abbrev pub opaque_call : OuterTree → List Typed → Run (Option Typed)
opaque_call fun args =
    seq (looks (λ held. event_in (symbol_of fun) (arguments_of held.blocks args))) (λ call.
    seq (tells call) (answer_as fun.result))

abbrev pub outer_by : Option KnownFunction → OuterTree → List Typed → Run (Option Typed)
outer_by (Some one) fun args = known_call one fun.result args
outer_by None fun args = opaque_call fun args

-- a call of an external function
abbrev pub outer_call : OuterTree → List Typed → Run (Option Typed)
outer_call fun args = outer_by (known_named (symbol_of fun)) fun args

-- ---- copies

abbrev pub copies_as : Effect → Result (Did (Unit {0})) Cause
copies_as (gives value held) = Ok (record { value = tt; held = held })
copies_as (gives_nothing held) = Ok (record { value = tt; held = held })
copies_as (ends_program status) = Err cause.WrongCall
copies_as (wants_block is_zero size) = Err cause.WrongCall
copies_as (effect_fails why) = Err (cause_of_held why)

abbrev pub copy_of : Value → Value → Value → Held → Result (Did (Unit {0})) Cause
copy_of from to (Whole (pos count)) held = copies_as (copying true to from count held)
copy_of from to _ held = Err cause.WrongCall

-- `core::ptr::copy` of bytes, which may overlap; a copy of none asks for nothing
abbrev pub copies : Typed → Typed → Typed → Run (Unit {0})
copies from to count = local (copy_of from.value to.value count.value)
