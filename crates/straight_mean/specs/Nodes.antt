-- The one step of a node whose operands are finished (ISO C99, 6.5): what it gives, or the rule by which it
-- is undefined. Conflicts of its operands come first, then that of its own access, then what the access
-- or the operator finds.
use Rattle.std.specs.Prelude.{ℕ, ℤ, ◌+ℤ◌, ◌-ℤ◌, ◌*ℤ◌, neg_ℤ, int_le, int_lt, true, false, ◌&&◌, if◌then◌else◌, List, [], ◌∷◌, ◌++◌, map, Option, Some, None, Result, Ok, Err}
use Rattle.cr_base.specs.Scalar.{least, above, wrapped, converted}
use Rattle.cr_base.specs.declared.rule.URule.{URule}
use Rattle.cr_base.specs.declared.rule.URule.TheVariants.{U2, U13, U14}
use Rattle.cr_base.specs.declared.scalar.Scalar.{Scalar}
use Rattle.cr_base.specs.declared.scalar.Scalar.TheVariants.{Truth, Whole, Object, Code}
use Rattle.straight_core.specs.declared.expr.Op1.{Op1}
use Rattle.straight_core.specs.declared.expr.Op1.TheVariants.{Minus}
use Rattle.straight_core.specs.declared.expr.Op2.{Op2}
use Rattle.straight_core.specs.declared.expr.Op2.TheVariants.{Add, Subtract, Multiply}
use Rattle.straight_core.specs.Trees.{CTy, CTyForm, void, int, function, form_of_type, COuter, CProgram}
use Rattle.straight_core.specs.Typing.{scalar_of, outer_with}
use Rattle.straight_mean.specs.Marks.{Marks, bits_at, united, sequenced_after, with_read, with_write, at_sequence_point}
use Rattle.straight_mean.specs.Operands.{CValue, scalar, designates, missing, COperand, CWorld, rule_of}
use Rattle.ext_calls.specs.Host.{first_answer}
use Rattle.ext_calls.specs.Outside.{others}
use Rattle.ext_calls.specs.declared.call.Arg.{Arg}
use Rattle.ext_calls.specs.declared.call.Arg.TheVariants.{Whole as WholeArg}
use Rattle.mem_bytes.specs.Access.{and_then, value_at, after_put}
use Rattle.mem_bytes.specs.declared.fault.Fault.{Fault}
use Rattle.mem_bytes.specs.declared.value.Ptr.{Ptr}
use Rattle.mem_bytes.specs.declared.value.Value.{Value}
use Rattle.mem_bytes.specs.declared.value.Value.TheVariants.{Whole as Number}

-- what a step of a node leaves: the finished operand that the node became, and the world
pub record Done : Type 0 where
  pub operand : COperand
  pub world : CWorld

abbrev pub done : CTy → CValue → Marks → CWorld → Done
done type value marks world = record {
  operand = record { type = type; value = value; marks = marks };
  world = world;
}

-- the outcome of an access to memory; a fault is the rule that says so
abbrev pub accessed : {A : Type 0} → Result A Fault → Result A URule
accessed (Ok value) = Ok value
accessed (Err fault) = Err (rule_of fault)

abbrev needed : Option Scalar → Result Scalar URule
needed None = Err U14
needed (Some found) = Ok found

-- the scalar type of a node; a node without one has no value
abbrev pub scalar_type : CTy → Result Scalar URule
scalar_type type = needed (scalar_of (form_of_type type))

abbrev scalar_value : CValue → Result Value URule
scalar_value (scalar value) = Ok value
scalar_value (designates at) = Err U14
scalar_value missing = Err U14

-- the scalar value that an operand gives; U14 where it gives none
abbrev pub scalar_in : COperand → Result Value URule
scalar_in operand = scalar_value operand.value

abbrev number_value : Value → Result ℤ URule
number_value (Number number) = Ok number
number_value _ = Err U14

-- the number that an operand of integer type gives; U14 where it gives none
abbrev pub number_in : COperand → Result ℤ URule
number_in operand = and_then (scalar_in operand) number_value

-- the place that an lvalue designates; U14 where there is none
abbrev pub designated_place : CValue → Result Ptr URule
designated_place (designates at) = Ok at
designated_place (scalar value) = Err U14
designated_place missing = Err U14

-- the place of the object that an operand designates; U14 where it designates none
abbrev pub place_in : COperand → Result Ptr URule
place_in operand = designated_place operand.value

-- ---- loads and stores

-- the value that an object holds (6.3.2.1p2)
abbrev pub load_step : CTy → COperand → CWorld → Result Done URule
load_step type from world =
    and_then (scalar_type type) (λ kind.
    and_then (place_in from) (λ at.
    and_then (sequenced_after from.marks (bits_at at kind)) (λ range.
    and_then (accessed (value_at world.memory at kind)) (λ value.
    Ok (done type (scalar value) (with_read range from.marks) world)))))

-- a value is stored in an object (6.5.16.1p2), and is what the assignment gives (6.5.16p3)
abbrev pub assign_step : CTy → COperand → COperand → CWorld → Result Done URule
assign_step type target value world =
    and_then (united (target.marks ∷ value.marks ∷ [])) (λ marks.
    and_then (scalar_type type) (λ kind.
    and_then (place_in target) (λ at.
    and_then (scalar_in value) (λ new.
    and_then (sequenced_after marks (bits_at at kind)) (λ range.
    and_then (accessed (after_put world.memory at kind new)) (λ memory.
    Ok (done type (scalar new) (with_write range marks) (record world { memory = memory }))))))))

-- ---- operators

abbrev signed_result : Scalar → ℤ → Result ℤ URule
signed_result kind value =
    if int_le (least kind) value && int_lt value (above kind) then Ok value else Err U2

-- what an arithmetic operator gives in a type: U2 where the type is signed and doesn't represent the
-- number (6.5p5); an unsigned one reduces it (6.2.5p9)
abbrev pub in_type : Scalar → ℤ → Result ℤ URule
in_type (Whole width true) value = signed_result (Whole width true) value
in_type (Whole width false) value = Ok (wrapped (Whole width false) value)
in_type Truth value = Err U14
in_type Object value = Err U14
in_type Code value = Err U14

-- the number that an operator gives, before it is seen whether its type represents it
abbrev pub number_of_unary : Op1 → ℤ → ℤ
number_of_unary Minus value = neg_ℤ value

abbrev pub number_of_binary : Op2 → ℤ → ℤ → ℤ
number_of_binary Add left right = left +ℤ right
number_of_binary Subtract left right = left -ℤ right
number_of_binary Multiply left right = left *ℤ right

-- an operator with one operand (6.5.3.3)
abbrev pub unary_step : Op1 → CTy → COperand → CWorld → Result Done URule
unary_step op type operand world =
    and_then (scalar_type type) (λ kind.
    and_then (number_in operand) (λ value.
    and_then (in_type kind (number_of_unary op value)) (λ result.
    Ok (done type (scalar (Number result)) operand.marks world))))

-- an operator with two operands (6.5.5, 6.5.6)
abbrev pub binary_step : Op2 → CTy → COperand → COperand → CWorld → Result Done URule
binary_step op type left right world =
    and_then (united (left.marks ∷ right.marks ∷ [])) (λ marks.
    and_then (scalar_type type) (λ kind.
    and_then (number_in left) (λ one.
    and_then (number_in right) (λ other.
    and_then (in_type kind (number_of_binary op one other)) (λ result.
    Ok (done type (scalar (Number result)) marks world))))))

-- ---- conversions

-- what a conversion to a type gives
abbrev pub converted_to : CTyForm → COperand → Result CValue URule
converted_to void operand = Ok missing
converted_to int operand =
    and_then (number_in operand) (λ value. Ok (scalar (Number (converted (Whole 32 true) value))))
converted_to (function result params variadic) operand = Err U14

-- a conversion (6.3); one to `void` takes no value (6.3.2.2)
abbrev pub convert_step : CTy → COperand → CWorld → Result Done URule
convert_step type operand world =
    and_then (converted_to (form_of_type type) operand) (λ value. Ok (done type value operand.marks world))

-- ---- calls

-- an argument as the outside sees it: a number with the scalar of its type
abbrev pub argument : COperand → Result Arg URule
argument operand =
    and_then (scalar_type operand.type) (λ kind.
    and_then (number_in operand) (λ value.
    Ok (WholeArg kind value)))

abbrev pub arguments : List COperand → Result (List Arg) URule
arguments [] = Ok []
arguments (first ∷ more) =
    and_then (argument first) (λ arg.
    and_then (arguments more) (λ args.
    Ok (arg ∷ args)))

-- what an answer gives: it is converted to the result type, and dropped where that is `void`
abbrev pub answered : CTyForm → ℤ → CValue
answered void answer = missing
answered int answer = scalar (Number (converted (Whole 32 true) answer))
answered (function result params variadic) answer = missing

-- the world after an opaque call: it is one more event, and one answer was taken
abbrev pub after_call : COuter → List Arg → CWorld → CWorld
after_call callee args world = record {
  memory = world.memory;
  events = world.events ++ record { name = callee.name; args = args } ∷ [];
  answers = others world.answers;
}

-- a call of a function, where there is one
abbrev pub called : CTy → List COperand → Marks → CWorld → Option COuter → Result Done URule
called type operands marks world None = Err U13
called type operands marks world (Some callee) =
    and_then (arguments operands) (λ args.
    Ok (done type (answered (form_of_type type) (first_answer world.answers)) (at_sequence_point marks)
    (after_call callee args world)))

-- a call of a function whose effect isn't known (6.5.2.2). There is a sequence point before it (p10).
abbrev pub call_step : CProgram → ℕ → CTy → List COperand → CWorld → Result Done URule
call_step program callee type operands world =
    and_then (united (map (λ one. one.marks) operands)) (λ marks.
    called type operands marks world (outer_with callee program.externals))
