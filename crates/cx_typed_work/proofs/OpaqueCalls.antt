-- Calls of functions whose effect isn't known by typed programs (ISO C99, 6.5.2.2 and 7.1.1): they are given numbers and texts, and
-- answer with a number or nothing.
use Rattle.std.proofs.Common.{◌≡◌, ◌⊎◌, inl, inr, ℕ, zero, suc, Bool, ℤ, All, List, [], ◌∷◌, map, Option, Some, Result, Ok, Err, refl, sym, ap, subst, arith}
use Rattle.cr_base.specs.Scalar.{IsInteger, converted}
use Rattle.cr_base.specs.declared.scalar.Scalar.{Scalar}
use Rattle.cr_base.specs.declared.scalar.Scalar.TheVariants.{Truth, Whole, Object, Code}
use Rattle.cr_world.specs.Held.{HeldFault, access}
use Rattle.cr_world.specs.Texts.{text_at, text_of}
use Rattle.cr_world.specs.World.{World, Terms, open_ended, trail_of, answer_at_end, answer_from, blocks_of}
use Rattle.cx_core.specs.Conversions.{scalar_of, scalar_of_basic, IsIntegerType}
use Rattle.cx_core.specs.Externals.{IsOpaqueResult, IsOpaqueParam, IsOpaque, IsCharacterForm, IsOpaqueTrailing}
use Rattle.cx_core.specs.Trees.{CTy, ty, CTyForm, void, basic, enum_type, pointer, array, record_type, function, unlisted, listed, CTys, no_types, more_types, types_in, form_of_type, unqualified, CTypes, COuter, CProgram}
use Rattle.cx_mean.specs.Calls.{CCalled, arguments, argument_of, number_argument, text_argument, answer_as, with_answer, opaque_call}
use Rattle.cx_mean.specs.Operands.{CValue, scalar, cells, names, designates, designates_bits, missing, COperand, scalar_value}
use Rattle.cx_mean.specs.Settings.{setting_of, scalar_in_type}
use Rattle.ext_calls.specs.declared.call.Arg.{Arg}
use Rattle.ext_calls.specs.declared.call.Call.{Call}
use Rattle.mem_bytes.specs.Coding.{IsValueOf}
use Rattle.mem_bytes.specs.declared.fault.Fault.{Fault}
use Rattle.mem_bytes.specs.declared.value.Value.{Value}
use Rattle.mem_bytes.specs.declared.value.Value.TheVariants.{Whole as Number, Null, Object as Pointer, Code as Function}
use Rattle.mem_bytes.specs.Memory.{Blocks}
use Rattle.cx_typed_values.proofs.Ranges.{converted_in_range}
use Rattle.cx_typed_values.proofs.ScalarKinds.{promoted_kind, basic_integer, integer_kind}
use Rattle.cx_typed_values.specs.Outcomes.{Comes}
use Rattle.cx_typed_work.specs.ExternalCalls.{CallLeaves}
use Rattle.cx_typed_work.proofs.KnownCalls.{leaves_and}
use Rattle.cx_typed_work.proofs.KnownMemories.{held_stays}
use Rattle.cx_typed_work.proofs.Outcomes.{comes_and}
use Rattle.cx_typed_work.proofs.Stores.{record_no_scalar}
use Rattle.cx_typed_work.specs.Calls.{AreTaken, IsCalledAs, trailing_types_of, IsReturned}
use Rattle.cx_typed_work.specs.Operands.{IsValueOfType}
use Rattle.cx_typed_work.specs.Scenes.{IsTypedMemory}

-- ---- types of arguments

-- an argument is a number, or a pointer to an object
record IsOutward (types : CTypes) (type : CTy) : Type 0 where
  kind : Scalar
  kind_is : scalar_of types (form_of_type type) ≡ Some kind
  outward : IsInteger kind ⊎ (kind ≡ Object)

integer_outward : (types : CTypes) (type : CTy) → IsIntegerType types type → IsOutward types type
integer_outward types type is = let one = integer_kind types type is in record { kind = scalar_of_basic one.which; kind_is = one.kind_is; outward = inl (basic_integer one.which) }

param_outward : (types : CTypes) (type : CTy) → IsOpaqueParam types type → IsOutward types type
param_outward types type (inl text) = record { kind = Object; kind_is = ap (scalar_of types) text; outward = inr refl }
param_outward types type (inr integer) = integer_outward types type integer

-- a pointer to a character type leads to an object
text_outward : (types : CTypes) (to : CTy) (is_const : Bool) → IsCharacterForm (form_of_type to) → IsOutward types (ty (pointer to) is_const)
text_outward types (ty (basic which) of_const) is_const is = record { kind = Object; kind_is = refl; outward = inr refl }
text_outward types (ty void of_const) is_const is = absurd is
text_outward types (ty (enum_type number) of_const) is_const is = absurd is
text_outward types (ty (pointer to) of_const) is_const is = absurd is
text_outward types (ty (array element count) of_const) is_const is = absurd is
text_outward types (ty (record_type number) of_const) is_const is = absurd is
text_outward types (ty (function result params variadic) of_const) is_const is = absurd is

trailing_outward : (types : CTypes) (type : CTy) → IsOpaqueTrailing type → IsOutward types type
trailing_outward types type (inl promoted) = let one = promoted_kind types type promoted in record { kind = Whole one.width one.signed; kind_is = one.kind_is; outward = inl one.is_one }
trailing_outward types (ty (pointer to) is_const) (inr text) = text_outward types to is_const text
trailing_outward types (ty void is_const) (inr text) = absurd text
trailing_outward types (ty (basic which) is_const) (inr text) = absurd text
trailing_outward types (ty (enum_type number) is_const) (inr text) = absurd text
trailing_outward types (ty (array element count) is_const) (inr text) = absurd text
trailing_outward types (ty (record_type number) is_const) (inr text) = absurd text
trailing_outward types (ty (function result params variadic) is_const) (inr text) = absurd text

-- arguments that the outside may see
abbrev AreOutward : CProgram → List COperand → Type 0
AreOutward program [] = Unit {0}
AreOutward program (first ∷ others) = IsOutward program.types first.type × IsValueOfType program first.type first.value × AreOutward program others

-- the first of a list, and the others
first_of : {A : Type 0} (Holds : A → Type 0) (first : A) (others : List A) → All Holds (first ∷ others) → Holds first
first_of Holds first others all = all zero first (omega arith)

others_of : {A : Type 0} (Holds : A → Type 0) (first : A) (others : List A) → All Holds (first ∷ others) → All Holds others
others_of Holds first others all = λ k d p. all (suc k) d (omega (arith, p))

taken_outward : (program : CProgram) (result : CTy) (params : CTys) (variadic : Bool) (args : List COperand) → All (IsOpaqueParam program.types) (map unqualified (types_in params))
    → All IsOpaqueTrailing (trailing_types_of (function result (listed params) variadic) args) → AreTaken program params variadic args → AreOutward program args
taken_outward program result no_types variadic [] listed_are trailing are = tt
taken_outward program result no_types variadic (first ∷ others) listed_are trailing are = (
  trailing_outward program.types first.type (first_of IsOpaqueTrailing first.type (trailing_types_of (function result (listed no_types) variadic) others) trailing),
  are.2,
  taken_outward program result no_types variadic others listed_are (others_of IsOpaqueTrailing first.type (trailing_types_of (function result (listed no_types) variadic) others) trailing) are.3,
)
taken_outward program result (more_types param params) variadic [] listed_are trailing are = absurd are
taken_outward program result (more_types param params) variadic (first ∷ others) listed_are trailing are = (
  subst (IsOutward program.types) (sym are.0) (param_outward program.types (unqualified param) (first_of (IsOpaqueParam program.types) (unqualified param) (map unqualified (types_in params)) listed_are)),
  are.1,
  taken_outward program result params variadic others (others_of (IsOpaqueParam program.types) (unqualified param) (map unqualified (types_in params)) listed_are) trailing are.2,
)

-- ---- what the outside sees of them

number_comes : (kind : Scalar) (value : Value) → IsInteger kind → IsValueOf kind value → Comes (λ (_ : Arg). Unit {0}) (number_argument kind value)
number_comes Truth (Number number) is of_kind = tt
number_comes Truth Null is of_kind = absurd of_kind
number_comes Truth (Pointer at) is of_kind = absurd of_kind
number_comes Truth (Function number) is of_kind = absurd of_kind
number_comes (Whole width signed) (Number number) is of_kind = tt
number_comes (Whole width signed) Null is of_kind = absurd of_kind
number_comes (Whole width signed) (Pointer at) is of_kind = absurd of_kind
number_comes (Whole width signed) (Function number) is of_kind = absurd of_kind
number_comes Object value is of_kind = absurd is
number_comes Code value is of_kind = absurd is

abbrev found_text : Result (List ℕ) Fault → Result (List ℕ) HeldFault
found_text (Ok text) = Ok text
found_text (Err fault) = Err (access fault)

text_found : (found : Result (List ℕ) Fault) → Comes (λ (_ : Arg). Unit {0}) (text_argument (found_text found))
text_found (Ok text) = tt
text_found (Err fault) = tt

text_comes : (blocks : Blocks) (value : Value) → IsValueOf Object value → Comes (λ (_ : Arg). Unit {0}) (text_argument (text_of blocks value))
text_comes blocks (Pointer at) of_kind = text_found (text_at blocks at)
text_comes blocks Null of_kind = tt
text_comes blocks (Number number) of_kind = absurd of_kind
text_comes blocks (Function number) of_kind = absurd of_kind

argument_comes : (blocks : Blocks) (kind : Scalar) (value : Value) → IsInteger kind ⊎ (kind ≡ Object) → IsValueOf kind value → Comes (λ (_ : Arg). Unit {0}) (argument_of blocks (Some kind) value)
argument_comes blocks Truth value (inl is) of_kind = number_comes Truth value is of_kind
argument_comes blocks (Whole width signed) value (inl is) of_kind = number_comes (Whole width signed) value is of_kind
argument_comes blocks Object value (inl is) of_kind = absurd is
argument_comes blocks Code value (inl is) of_kind = absurd is
argument_comes blocks Object value (inr is) of_kind = text_comes blocks value of_kind
argument_comes blocks Truth value (inr is) of_kind = cc (is)
argument_comes blocks (Whole width signed) value (inr is) of_kind = cc (is)
argument_comes blocks Code value (inr is) of_kind = cc (is)

-- the value of an argument is a scalar
value_outward : (program : CProgram) (type : CTy) (value : CValue) (one : IsOutward program.types type) → IsValueOfType program type value → Comes (IsValueOf one.kind) (scalar_value value)
value_outward program type (scalar value) one is = let same : is.kind ≡ one.kind = cc (is.kind_is, one.kind_is) in subst (λ k. IsValueOf k value) same is.of_kind
value_outward program type (cells held from) one is = absurd (record_no_scalar program.types (form_of_type type) one.kind is.is_record one.kind_is)
value_outward program type (names number) one is = absurd is
value_outward program type (designates to) one is = absurd is
value_outward program type (designates_bits at bit width) one is = absurd is
value_outward program type missing one is = absurd is

arguments_come : (program : CProgram) (blocks : Blocks) (args : List COperand) → AreOutward program args → Comes (λ (_ : List Arg). Unit {0}) (arguments (setting_of program) blocks args)
arguments_come program blocks [] are = tt
arguments_come program blocks (first ∷ others) are =
    comes_and (IsValueOf are.0.kind) (λ (_ : List Arg). Unit {0}) (scalar_value first.value) _ (value_outward program first.type first.value are.0 are.1) (λ value of_kind.
    comes_and (λ (_ : Arg). Unit {0}) (λ (_ : List Arg). Unit {0}) (argument_of blocks (scalar_in_type (setting_of program) first.type) value) _
    (subst (λ found. Comes (λ (_ : Arg). Unit {0}) (argument_of blocks found value)) (sym are.0.kind_is) (argument_comes blocks are.0.kind value are.0.outward of_kind)) (λ arg _.
    comes_and (λ (_ : List Arg). Unit {0}) (λ (_ : List Arg). Unit {0}) (arguments (setting_of program) blocks others) _ (arguments_come program blocks others are.2) (λ rest _. tt)))

-- ---- what it gives

-- the answer is a value of the result type, or none where that is `void`
answer_given : (program : CProgram) (type : CTy) (answer : ℤ) → IsOpaqueResult program.types type → IsReturned program type (answer_as (scalar_of program.types (form_of_type type)) answer)
answer_given program (ty void is_const) answer (inl none) = inr tt
answer_given program (ty (basic which) is_const) answer (inl none) = cc (none)
answer_given program (ty (enum_type number) is_const) answer (inl none) = cc (none)
answer_given program (ty (pointer to) is_const) answer (inl none) = cc (none)
answer_given program (ty (array element count) is_const) answer (inl none) = cc (none)
answer_given program (ty (record_type number) is_const) answer (inl none) = cc (none)
answer_given program (ty (function result params variadic) is_const) answer (inl none) = cc (none)
answer_given program type answer (inr integer) =
    let one = integer_kind program.types type integer in
    subst (λ found. IsReturned program type (answer_as found answer)) (sym one.kind_is)
    (inl (record { kind = scalar_of_basic one.which; kind_is = one.kind_is; of_kind = of_integer (scalar_of_basic one.which) answer (basic_integer one.which); leads = tt }))
  where
    of_integer : (kind : Scalar) (number : ℤ) → IsInteger kind → IsValueOf kind (Number (converted kind number))
    of_integer Truth number is = converted_in_range Truth number is
    of_integer (Whole width signed) number is = converted_in_range (Whole width signed) number is
    of_integer Object number is = absurd is
    of_integer Code number is = absurd is

answer_leaves : (program : CProgram) (type : CTy) (kind : Option Scalar) (call : Call) (world : World) (terms : Terms) (answers : List ℤ) → world.terms ≡ terms → ((answer : ℤ) → IsReturned program type (answer_as kind answer))
    → IsTypedMemory program world.held.blocks → CallLeaves program type world.held (with_answer kind (answer_from answers call world))
answer_leaves program type kind call world open_ended [] e given memory =
    subst (λ t. CallLeaves program type world.held (with_answer kind (answer_at_end t call world))) (sym e) (given _, memory, held_stays world.held)
answer_leaves program type kind call world (trail_of limit) [] e given memory =
    subst (λ t. CallLeaves program type world.held (with_answer kind (answer_at_end t call world))) (sym e) tt
answer_leaves program type kind call world terms (answer ∷ left) e given memory = (given answer, memory, held_stays world.held)

-- the result type without its qualifier
result_stays : (types : CTypes) (result : CTy) → IsOpaqueResult types result → IsOpaqueResult types (unqualified result)
result_stays types (ty form is_const) is = is

-- a call of an opaque type
record IsOpaqueCall (program : CProgram) (type : CTy) (args : List COperand) : Type 0 where
  result_is : IsOpaqueResult program.types type
  outward : AreOutward program args

opaque_of : (program : CProgram) (form : CTyForm) (type : CTy) (args : List COperand) → IsOpaque program.types form → All IsOpaqueTrailing (trailing_types_of form args) → IsCalledAs program form type args → IsOpaqueCall program type args
opaque_of program (function result (listed params) variadic) type args opaque trailing is = record {
  result_is = subst (IsOpaqueResult program.types) (sym is.0) (result_stays program.types result opaque.0);
  outward = taken_outward program result params variadic args opaque.1 trailing is.2;
}
opaque_of program (function result unlisted variadic) type args opaque trailing is = record {
  result_is = subst (IsOpaqueResult program.types) (sym is.0) (result_stays program.types result opaque.0);
  outward = subst (AreOutward program) (sym is.2) tt;
}
opaque_of program void type args opaque trailing is = absurd is
opaque_of program (basic which) type args opaque trailing is = absurd is
opaque_of program (enum_type number) type args opaque trailing is = absurd is
opaque_of program (pointer to) type args opaque trailing is = absurd is
opaque_of program (array element count) type args opaque trailing is = absurd is
opaque_of program (record_type number) type args opaque trailing is = absurd is

pub opaque_leaves : (program : CProgram) (called : CCalled) (callee : COuter) (world : World) (form : CTyForm) → IsOpaque program.types form → All IsOpaqueTrailing (trailing_types_of form called.args)
    → IsCalledAs program form called.type called.args → IsTypedMemory program world.held.blocks → CallLeaves program called.type world.held (opaque_call (setting_of program) called callee world)
opaque_leaves program called callee world form opaque trailing is memory =
    let one = opaque_of program form called.type called.args opaque trailing is in
    leaves_and program called.type world.held (λ (_ : List Arg). Unit {0}) called.place (arguments (setting_of program) (blocks_of world) called.args) _ (arguments_come program (blocks_of world) called.args one.outward) (λ args _.
    answer_leaves program called.type (scalar_in_type (setting_of program) called.type) _ world world.terms world.answers refl (λ answer. answer_given program called.type answer one.result_is) memory)
