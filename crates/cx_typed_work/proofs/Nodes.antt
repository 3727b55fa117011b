-- What the step of a node gives whose operands are typed, where it stores nothing: operators, conversions, addresses and what pointers
-- point to.
use Rattle.std.proofs.Common.{◌≡◌, ◌⊎◌, inl, inr, ℕ, Bool, true, false, true≢false, if◌then◌else◌, IsTrue, List, [], ◌∷◌, map, Option, Some, None, IsSome, Result, Ok, Err, refl, sym, ap, subst, ◌∙◌}
use Rattle.cr_base.specs.declared.rule.URule.TheVariants.{U1, U14}
use Rattle.cr_base.specs.declared.scalar.Scalar.{Scalar}
use Rattle.cr_base.specs.declared.scalar.Scalar.TheVariants.{Truth, Whole, Object, Code}
use Rattle.cx_core.specs.Conversions.{scalar_of, scalar_of_pointer, IsScalarType}
use Rattle.cx_core.specs.declared.expr.Op1.{Op1}
use Rattle.cx_core.specs.declared.expr.Op2.{Op2}
use Rattle.cx_core.specs.Trees.{CTy, ty, CTyForm, void, basic, enum_type, pointer, array, record_type, function, form_of_type, CTypes, CProgram, CExpr, expr, CForm, deref, address, convert, unary, binary, type_of}
use Rattle.cx_core.specs.Typing.{CHome, types_of_home, IsTyped, IsLvalue, IsDerefOf, IsUnaryOf, IsBinaryOf, IsConversion, is_bit_field}
use Rattle.cx_core.specs.ValidTypes.{IsObjectForm}
use Rattle.cx_mean.specs.Marks.{Marks, conflict, both}
use Rattle.cx_mean.specs.Nodes.{CDone, done, gives_value, pointed_to, deref_value}
use Rattle.cx_mean.specs.Operands.{CWhy, breaks, stuck, CValue, scalar, cells, names, designates, designates_bits, missing, COperand, united, united_operands, scalar_value}
use Rattle.cx_mean.specs.Settings.{setting_of}
use Rattle.cx_mean.specs.Values.{CTyped, unary_value, binary_value}
use Rattle.mem_bytes.specs.Access.{and_then}
use Rattle.mem_bytes.specs.Coding.{IsValueOf}
use Rattle.mem_bytes.specs.declared.value.Value.{Value}
use Rattle.mem_bytes.specs.declared.value.Value.TheVariants.{Whole as Number, Null, Object as Pointer, Code as Function}
use Rattle.mem_bytes.specs.Memory.{Blocks}
use Rattle.cx_typed_values.specs.Outcomes.{Comes}
use Rattle.cx_typed_work.proofs.Given.{value_given, place_given}
use Rattle.cx_typed_work.proofs.Memories.{shapes_stay}
use Rattle.cx_typed_work.proofs.Outcomes.{comes_and, comes_else}
use Rattle.cx_typed_work.proofs.Stores.{record_no_scalar}
use Rattle.cx_typed_work.specs.Operands.{IsScalarIn, IsValueOfType, IsMissing, IsGiven, IsObjectPointer, IsPlaceOf, IsGivenBy}
use Rattle.cx_typed_work.specs.Scenes.{IsLeading, IsScene, IsTypedMemory, AreSameShapes}

-- what a step of a node gives is what its expression gives, in a typed memory with the same live blocks
pub record IsDoneOf (home : CHome) (node : CExpr) (before : Blocks) (one : CDone) : Type 0 where
  pub given : IsGivenBy home node one.value
  pub memory : IsTypedMemory home.program one.blocks
  pub shapes : AreSameShapes before one.blocks

pub gives_comes : (home : CHome) (node : CExpr) (marks : Marks) (blocks : Blocks) (outcome : Result CValue CWhy) → IsTypedMemory home.program blocks → Comes (IsGivenBy home node) outcome
    → Comes (IsDoneOf home node blocks) (gives_value marks blocks outcome)
gives_comes home node marks blocks outcome memory comes =
    comes_and (IsGivenBy home node) (IsDoneOf home node blocks) outcome _ comes (λ value is. record { given = is; memory = memory; shapes = shapes_stay blocks })

-- the accesses of operands are united, or conflict
marks_united : (all : List Marks) → Comes (λ (_ : Marks). Unit {0}) (united all)
marks_united [] = tt
marks_united (first ∷ others) =
    comes_and (λ (_ : Marks). Unit {0}) (λ (_ : Marks). Unit {0}) (united others) _ (marks_united others) (λ rest _. comes_else (λ (_ : Marks). Unit {0}) (conflict first rest) U1 (both first rest) tt)

pub operands_united : (operands : List COperand) → Comes (λ (_ : Marks). Unit {0}) (united_operands operands)
operands_united operands = marks_united (map (λ one. one.marks) operands)

-- ---- scalar operands

scalar_kind_of : (types : CTypes) (type : CTy) (found : Option Scalar) → scalar_of types (form_of_type type) ≡ found → IsSome found → (kind : Scalar) × (scalar_of types (form_of_type type) ≡ Some kind)
scalar_kind_of types type None e some = cc
scalar_kind_of types type (Some kind) e some = (kind, e)

-- the scalar value of an expression of scalar type, or none
pub scalar_comes : (program : CProgram) (node : CExpr) (value : CValue) → IsScalarType program.types (type_of node) → IsGiven program node value → Comes (IsScalarIn program (type_of node)) (scalar_value value)
scalar_comes program node (scalar value) is (inl given) = given
scalar_comes program node (scalar value) is (inr given) = absurd given.1
scalar_comes program node (cells held from) is (inl given) =
    let kind = scalar_kind_of program.types (type_of node) (scalar_of program.types (form_of_type (type_of node))) refl is in
    absurd (record_no_scalar program.types (form_of_type (type_of node)) kind.0 given.is_record kind.1)
scalar_comes program node (cells held from) is (inr given) = absurd given.1
scalar_comes program node missing is (inl given) = absurd given
scalar_comes program node missing is (inr given) = tt
scalar_comes program node (names number) is (inl given) = absurd given
scalar_comes program node (names number) is (inr given) = absurd given.1
scalar_comes program node (designates to) is (inl given) = absurd given
scalar_comes program node (designates to) is (inr given) = absurd given.1
scalar_comes program node (designates_bits at bit width) is (inl given) = absurd given
scalar_comes program node (designates_bits at bit width) is (inr given) = absurd given.1

-- ---- what a pointer points to (6.5.3.2p4)

pub object_kind : (to : CTy) → IsObjectForm (form_of_type to) → scalar_of_pointer to ≡ Object
object_kind (ty void is_const) is = absurd is
object_kind (ty (basic which) is_const) is = refl
object_kind (ty (enum_type number) is_const) is = refl
object_kind (ty (pointer to) is_const) is = refl
object_kind (ty (array element length) is_const) is = refl
object_kind (ty (record_type number) is_const) is = refl
object_kind (ty (function result params variadic) is_const) is = absurd is

-- a pointer to an object type is null or leads to an object
object_pointer : (program : CProgram) (to pointer_type : CTy) (value : Value) → pointer_type ≡ ty (pointer to) false → IsObjectForm (form_of_type to) → IsScalarIn program pointer_type value → IsObjectPointer value
object_pointer program to pointer_type value e is given =
    let same : scalar_of program.types (form_of_type pointer_type) ≡ Some (scalar_of_pointer to) = ap (λ (t : CTy). scalar_of program.types (form_of_type t)) e in
    let kind : given.kind ≡ Object = cc (given.kind_is, same, object_kind to is) in
    by value (subst (λ k. IsValueOf k value) kind given.of_kind) given.leads
  where
    by : (one : Value) → IsValueOf Object one → IsLeading program one → IsObjectPointer one
    by (Pointer at) of_kind near = near
    by Null of_kind near = tt
    by (Number number) of_kind near = absurd of_kind
    by (Function number) of_kind near = absurd of_kind

pub pointed_comes : (node : CExpr) (to : Value) → is_bit_field node ≡ false → IsObjectPointer to → Comes (IsPlaceOf node) (pointed_to to)
pointed_comes node (Pointer at) plain is = (plain, is)
pointed_comes node Null plain is = (plain, is)
pointed_comes node (Number number) plain is = absurd is
pointed_comes node (Function number) plain is = absurd is

pub deref_comes : (home : CHome) (type : CTy) (place : _) (from : CExpr) (value : CValue) → IsLvalue home (expr type place (deref from)) → IsGivenBy home from value
    → Comes (IsGivenBy home (expr type place (deref from))) (deref_value value)
deref_comes home type place from value is given =
    let pointer_is : type_of from ≡ ty (pointer type) false = is.2.1.pointer_is in
    comes_and (IsScalarIn home.program (type_of from)) (IsGivenBy home (expr type place (deref from))) (scalar_value value) _
    (scalar_comes home.program from value (subst (λ t. IsScalarType (types_of_home home) t) (sym pointer_is) refl) (value_given home from value is.2.0 given)) (λ to fits.
    comes_as_place to (object_pointer home.program type (type_of from) to pointer_is is.2.1.object fits))
  where
    comes_as_place : (to : Value) → IsObjectPointer to → Comes (IsGivenBy home (expr type place (deref from))) (pointed_to to)
    comes_as_place (Pointer at) fits = inl (is, (refl, fits))
    comes_as_place Null fits = inl (is, (refl, fits))
    comes_as_place (Number number) fits = absurd fits
    comes_as_place (Function number) fits = absurd fits
