-- Operators with one operand over values.
use Rattle.std.proofs.Common.{◌≡◌, ℕ, Bool, true, false, not, IsTrue, ℤ, Option, Some, None, Result, Ok, Err, refl, sym, ap, subst, ◌∙◌}
use Rattle.std.proofs.Common.{rules}
use Rattle.cr_base.specs.Scalar.{IsInRange}
use Rattle.cr_base.specs.declared.rule.URule.TheVariants.{U12}
use Rattle.cr_base.specs.declared.scalar.Scalar.{Scalar}
use Rattle.cr_base.specs.declared.scalar.Scalar.TheVariants.{Truth, Whole, Object, Code}
use Rattle.cx_core.specs.Conversions.{scalar_of}
use Rattle.cx_core.specs.declared.expr.Op1.{Op1}
use Rattle.cx_core.specs.declared.expr.Op1.TheVariants.{Plus, Minus, Complement, Not}
use Rattle.cx_core.specs.Trees.{CTy, form_of_type, CTypes, CProgram}
use Rattle.cx_core.specs.Typing.{IsUnaryOf, IsPromotedOf, int_type}
use Rattle.cx_mean.specs.Operands.{by_pointers}
use Rattle.cx_mean.specs.Settings.{setting_of}
use Rattle.cx_mean.specs.Values.{is_true, number_in, unary_value}
use Rattle.cx_numbers.specs.Numbers.{CWhy, breaks, stuck, number_of_unary, number_of_truth}
use Rattle.mem_bytes.specs.Access.{and_then}
use Rattle.mem_bytes.specs.Coding.{IsValueOf}
use Rattle.mem_bytes.specs.declared.pointer.PointerFault.{PointerFault}
use Rattle.mem_bytes.specs.declared.value.Ptr.{Ptr}
use Rattle.mem_bytes.specs.declared.value.Value.{Value}
use Rattle.mem_bytes.specs.declared.value.Value.TheVariants.{Whole as Number, Null, Object as Pointer, Code as Function}
use Rattle.mem_bytes.specs.Memory.{Block, Blocks, live_block}
use Rattle.mem_bytes.specs.Pointers.{live_size, usable}
use Rattle.cx_typed_values.specs.Numbers.{int_kind, kind_of_unary}
use Rattle.cx_typed_values.specs.Outcomes.{Comes}
use Rattle.cx_typed_values.specs.Values.{IsScalarOf, UnaryOperatorsGiveValues}
use Rattle.cx_typed_values.proofs.ScalarKinds.{IsWholeKind, promoted_kind, IsNumber, number_of_kind, same_kind}
use Rattle.cx_typed_values.proofs.Operators.{unary_comes, truth_comes}

-- ---- truths

tested : (holds : Value → Bool) (found : Option Block) (at : Ptr) → Comes (λ (_ : Bool). Unit {0}) (and_then (by_pointers U12 (and_then (live_size found) (λ _. Ok (Pointer at)))) (λ one. Ok (holds one)))
tested holds None at = tt
tested holds (Some block) at = tt

pub truth_of_value : (blocks : Blocks) (value : Value) → Comes (λ (_ : Bool). Unit {0}) (is_true blocks value)
truth_of_value blocks (Number number) = tt
truth_of_value blocks Null = tt
truth_of_value blocks (Pointer at) = tested _ (live_block blocks at.block) at
truth_of_value blocks (Function number) = tt

-- ---- operators

-- a number of the kind of a type
pub whole_value : (types : CTypes) (type : CTy) (width : ℕ) (signed : Bool) (number : ℤ) → scalar_of types (form_of_type type) ≡ Some (Whole width signed)
    → IsInRange (Whole width signed) number → IsScalarOf types type (Number number)
whole_value types type width signed number kind inside = record { kind = Whole width signed; kind_is = kind; of_kind = inside; near = tt }

not_comes : (types : CTypes) (found : Result Bool CWhy) → Comes (λ (_ : Bool). Unit {0}) found
    → Comes (IsScalarOf types int_type) (and_then (and_then found (λ truth. Ok (number_of_truth (not truth)))) (λ number. Ok (Number number)))
not_comes types (Ok truth) comes = whole_value types int_type 32 true (number_of_truth (not truth)) refl (truth_comes (not truth))
not_comes types (Err (breaks rule)) comes = tt
not_comes types (Err stuck) comes = comes

pub arithmetic_comes : (types : CTypes) (type : CTy) (width : ℕ) (signed : Bool) (found : Result ℤ CWhy) → scalar_of types (form_of_type type) ≡ Some (Whole width signed)
    → Comes (IsInRange (Whole width signed)) found → Comes (IsScalarOf types type) (and_then found (λ number. Ok (Number number)))
arithmetic_comes types type width signed (Ok number) kind comes = whole_value types type width signed number kind comes
arithmetic_comes types type width signed (Err (breaks rule)) kind comes = tt
arithmetic_comes types type width signed (Err stuck) kind comes = comes

-- what an arithmetic operator gives in a kind, where there is one
abbrev arithmetic_of : Op1 → Option Scalar → Blocks → Value → Result ℤ CWhy
arithmetic_of op None blocks value = Err stuck
arithmetic_of op (Some kind) blocks value = and_then (number_in value) (number_of_unary op kind)

plain_by : (types : CTypes) (type : CTy) (op : Op1) (width : ℕ) (signed : Bool) (number : ℤ) (found : Option Scalar) (blocks : Blocks) (value : Value)
    → scalar_of types (form_of_type type) ≡ Some (Whole width signed) → found ≡ Some (Whole width signed) → value ≡ Number number
    → Comes (IsInRange (Whole width signed)) (number_of_unary op (Whole width signed) number)
    → Comes (IsScalarOf types type) (and_then (arithmetic_of op found blocks value) (λ given. Ok (Number given)))
plain_by types type op width signed number found blocks value kind e is comes =
    subst (λ (o : Option Scalar). Comes (IsScalarOf types type) (and_then (arithmetic_of op o blocks value) (λ given. Ok (Number given)))) (sym e)
    (subst (λ (one : Value). Comes (IsScalarOf types type) (and_then (arithmetic_of op (Some (Whole width signed)) blocks one) (λ given. Ok (Number given)))) (sym is)
    (arithmetic_comes types type width signed (number_of_unary op (Whole width signed) number) kind comes))

-- the operand of an arithmetic operator, in its promoted type
record IsPlain (types : CTypes) (type : CTy) (value : Value) : Type 0 where
  kind : IsWholeKind types type
  number : IsNumber (Whole kind.width kind.signed) value

plain_operand : (types : CTypes) (type operand : CTy) (value : Value) → IsPromotedOf type operand → IsScalarOf types operand value → IsPlain types type value
plain_operand types type operand value is given =
    let kind = promoted_kind types type is.promoted in
    let same : given.kind ≡ Whole kind.width kind.signed =
    same_kind given.kind (Whole kind.width kind.signed) (sym given.kind_is ∙ ap (λ t. scalar_of types (form_of_type t)) is.value_is ∙ kind.kind_is) in
    record { kind = kind; number = number_of_kind (Whole kind.width kind.signed) value kind.is_one (subst (λ k. IsValueOf k value) same given.of_kind) }

pub unary_values : UnaryOperatorsGiveValues
unary_values program Plus type operand blocks value is given =
    let one = plain_operand program.types type operand value is given in
    plain_by program.types type Plus one.kind.width one.kind.signed one.number.number (scalar_of program.types (form_of_type type)) blocks value one.kind.kind_is one.kind.kind_is one.number.is
    (unary_comes Plus one.kind.width one.kind.signed one.number.number one.kind.is_one one.number.in_range)
unary_values program Minus type operand blocks value is given =
    let one = plain_operand program.types type operand value is given in
    plain_by program.types type Minus one.kind.width one.kind.signed one.number.number (scalar_of program.types (form_of_type type)) blocks value one.kind.kind_is one.kind.kind_is one.number.is
    (unary_comes Minus one.kind.width one.kind.signed one.number.number one.kind.is_one one.number.in_range)
unary_values program Complement type operand blocks value is given =
    let one = plain_operand program.types type operand value is given in
    plain_by program.types type Complement one.kind.width one.kind.signed one.number.number (scalar_of program.types (form_of_type type)) blocks value one.kind.kind_is one.kind.kind_is one.number.is
    (unary_comes Complement one.kind.width one.kind.signed one.number.number one.kind.is_one one.number.in_range)
unary_values program Not type operand blocks value is given =
    subst (λ t. Comes (IsScalarOf program.types t) (and_then (and_then (is_true blocks value) (λ truth. Ok (number_of_truth (not truth)))) (λ number. Ok (Number number))))
    (sym is.type_is) (not_comes program.types (is_true blocks value) (truth_of_value blocks value))
