-- What a typed expression may give: a value of its type, or a step that C leaves undefined.
use Rattle.std.specs.Prelude.{◌≡◌, ◌≢◌, ℕ, ℤ, true, Some, IsSome}
use Rattle.cr_base.specs.Scalar.{IsInRange}
use Rattle.cr_base.specs.declared.rule.URule.{URule}
use Rattle.cr_base.specs.declared.rule.URule.TheVariants.{U13, U14}
use Rattle.cr_base.specs.declared.scalar.Scalar.TheVariants.{Whole}
use Rattle.cr_runs.specs.Runs.{came, halted, bad, out}
use Rattle.straight_core.specs.Linked.{IsLinked}
use Rattle.straight_core.specs.Trees.{CTy, CTyForm, void, int, function, form_of_type, CExpr, type_of, CObject, CProgram}
use Rattle.straight_core.specs.Typing.{IsTyped, object_with}
use Rattle.straight_mean.specs.Leftmost.{CRan, c_value}
use Rattle.straight_mean.specs.Operands.{CValue, scalar, designates, missing, designated, COperand, Frame, CWorld}
use Rattle.mem_bytes.specs.declared.value.Ptr.{Ptr}
use Rattle.mem_bytes.specs.declared.value.Value.{Value}
use Rattle.mem_bytes.specs.declared.value.Value.TheVariants.{Whole as Number}

-- a value of type `int`
pub record IsInt (value : Value) : Type 0 where
  pub number : ℤ
  pub is : value ≡ Number number
  pub in_range : IsInRange (Whole 32 true) number

-- what gives a value of type `int`
pub record GivesInt (given : CValue) : Type 0 where
  pub value : Value
  pub is : given ≡ scalar value
  pub is_int : IsInt value

-- what gives a value of a type; `void` has none
abbrev pub IsGiven : CTyForm → CValue → Type 0
IsGiven int given = GivesInt given
IsGiven void given = given ≡ missing
IsGiven (function result params variadic) given = ⊥

-- an operand of a type
pub record IsOperandOf (type : CTy) (operand : COperand) : Type 0 where
  pub type_is : operand.type ≡ type
  pub gives : IsGiven (form_of_type type) operand.value

-- a rule that a typed expression may break: it calls functions by their types, and takes no value where
-- none is
pub record IsProper (rule : URule) : Type 0 where
  pub no_bad_call : rule ≢ U13
  pub no_missing_value : rule ≢ U14

-- each object that a program defines, and so each that an lvalue may name, is in scope
abbrev pub AreInScope : CProgram → Frame → Type 0
AreInScope program frame =
    (number : ℕ) (one : CObject) → object_with number program.objects ≡ Some one → IsSome one.puts →
    (at : Ptr) × (designated frame number ≡ designates at)

-- a piece comes to a result with a property, or to a step that is undefined by a proper rule, or to no end
abbrev pub IsSound : {A : Type 0} → (A → Type 0) → CRan A → Type 0
IsSound P (came value world left) = P value
IsSound P (halted status world) = Unit {0}
IsSound P (bad fault world) = IsProper fault.rule
IsSound P (out world) = Unit {0}

-- a typed expression of a linked program gives an operand of its type
abbrev pub TypedIsSound : Type 0
TypedIsSound =
    (program : CProgram) (frame : Frame) (e : CExpr) (world : CWorld) (steps : ℕ) →
    IsLinked program → AreInScope program frame → IsTyped program e →
    IsSound (IsOperandOf (type_of e)) (c_value program frame e world steps)
