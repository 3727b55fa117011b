-- Typed operands: what is known of an operand by the types of its unit alone, and in a program that holds it (ISO C99, 6.3.2, 6.5).
use Rattle.std.specs.Prelude.{◌≡◌, ℕ, true, false, List}
use Rattle.cx_core.specs.Conversions.{IsIntegerType}
use Rattle.cx_core.specs.Trees.{CTy, ty, void, pointer, function, form_of_type, is_const_type, CTypes, CExpr, expr, deref, type_of}
use Rattle.cx_core.specs.Typing.{CHome, IsTyped, IsLvalue, is_bit_field}
use Rattle.cx_core.specs.ValidTypes.{IsTypeIn, IsObjectForm, IsResultForm}
use Rattle.cx_rules.specs.declared.kinds.OperandKind.{OperandKind}
use Rattle.cx_rules.specs.declared.kinds.OperandKind.TheVariants.{Value, Place, Function, VoidPlace}
use Rattle.cx_rules.specs.Operands.{COperand}
use Rattle.cx_typed.specs.Growth.{IsSettled}

-- a type that may stand in a unit, and names no enumerated type whose list hasn't ended
pub record IsKnownType (opens : List ℕ) (types : CTypes) (unit : ℕ) (type : CTy) : Type 0 where
  pub type_in : IsTypeIn types unit type
  pub settled : IsSettled opens type

-- the type of a value: unqualified, no array and no function (6.3.2.1p2 to p4)
pub record IsValueType (opens : List ℕ) (types : CTypes) (unit : ℕ) (type : CTy) : Type 0 where
  pub known : IsKnownType opens types unit type
  pub plain : is_const_type type ≡ false
  pub form : IsResultForm (form_of_type type)

-- the pointer that an lvalue follows points to its type (6.5.3.2p4)
abbrev pub IsFollowed : CExpr → Type 0
IsFollowed (expr type place (deref from)) = type_of from ≡ ty (pointer type) false
IsFollowed _ = Unit {0}

-- the type of an lvalue (6.3.2.1p1); a bit-field has an integer type
pub record IsPlaceType (opens : List ℕ) (types : CTypes) (unit : ℕ) (core : CExpr) : Type 0 where
  pub known : IsKnownType opens types unit (type_of core)
  pub object : IsObjectForm (form_of_type (type_of core))
  pub bits : is_bit_field core ≡ true → IsIntegerType types (type_of core)
  pub followed : IsFollowed core

-- a pointer to a function, and one to `void`
abbrev pub IsCodePointer : CTy → Type 0
IsCodePointer (ty (pointer (ty (function result params variadic) to_const)) is_const) = is_const ≡ false
IsCodePointer _ = ⊥

abbrev pub IsVoidPointer : CTy → Type 0
IsVoidPointer (ty (pointer (ty void to_const)) is_const) = is_const ≡ false
IsVoidPointer _ = ⊥

pub record IsPointerType (opens : List ℕ) (types : CTypes) (unit : ℕ) (IsTarget : CTy → Type 0) (type : CTy) : Type 0 where
  pub known : IsKnownType opens types unit type
  pub target : IsTarget type

abbrev pub IsOperandTypeBy : OperandKind → List ℕ → CTypes → ℕ → CExpr → Type 0
IsOperandTypeBy Value opens types unit core = IsValueType opens types unit (type_of core)
IsOperandTypeBy Place opens types unit core = IsPlaceType opens types unit core
IsOperandTypeBy Function opens types unit core = IsPointerType opens types unit IsCodePointer (type_of core)
IsOperandTypeBy VoidPlace opens types unit core = IsPointerType opens types unit IsVoidPointer (type_of core)

-- what is known of an operand by the types of its unit
abbrev pub IsOperandType : List ℕ → CTypes → ℕ → COperand → Type 0
IsOperandType opens types unit operand = IsOperandTypeBy operand.kind opens types unit operand.core

abbrev pub IsTypedBy : OperandKind → CHome → CExpr → Type 0
IsTypedBy Value home core = IsTyped home core
IsTypedBy Place home core = IsLvalue home core
IsTypedBy Function home core = IsTyped home core
IsTypedBy VoidPlace home core = IsTyped home core

-- it is typed in a program
abbrev pub IsTypedOperand : CHome → COperand → Type 0
IsTypedOperand home operand = IsTypedBy operand.kind home operand.core
