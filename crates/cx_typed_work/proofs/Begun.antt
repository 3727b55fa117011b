-- What is begun of a typed expression is typed.
use Rattle.std.proofs.Common.{◌≡◌, ◌⊎◌, inl, inr, ℕ, ℤ, Bool, true, false, IsTrue, Option, Some, None, IfSome, IsSome, refl, sym, ap, subst}
use Rattle.cr_base.specs.Scalar.{IsInRange}
use Rattle.cr_base.specs.declared.refusal.Place.{Place}
use Rattle.cr_base.specs.declared.scalar.Scalar.{Scalar}
use Rattle.cr_base.specs.declared.scalar.Scalar.TheVariants as scalar_kind
use Rattle.cx_core.specs.Conversions.{scalar_of, scalar_of_basic, scalar_of_pointer}
use Rattle.cx_core.specs.declared.ty.Basic.{Basic}
use Rattle.cx_core.specs.declared.ty.Basic.TheVariants as basics
use Rattle.cx_core.specs.Trees.{CTy, ty, CTyForm, void, basic, enum_type, pointer, array, record_type, function, form_of_type, CTypes, CProgram, CFun, COuter, uses, CExpr, expr, CForm, whole, null, object, code, load, deref, member, address, convert, unary, binary, and, or, cond, assign, assign_by, step, call, call_by, comma, literal, CExprs, no_exprs, more_exprs}
use Rattle.cx_core.specs.Typing.{CHome, types_of_home, IsTyped, IsTypedForm, IsLvalue, IsLvalueForm, AreTyped, IsMentioned, IsPointer, CCallee, function_with, outer_with, callee_with, IsPointerToCode, IsCodeOf}
use Rattle.cx_mean.specs.Operands.{CValue, scalar, names, at_once}
use Rattle.cx_mean.specs.Work.{finished, begun, begun_form, all_begun}
use Rattle.mem_bytes.specs.Coding.{IsValueOf}
use Rattle.mem_bytes.specs.declared.value.Value.{Value}
use Rattle.mem_bytes.specs.declared.value.Value.TheVariants.{Whole as Number, Null, Object as Pointer, Code as Function}
use Rattle.cx_typed_work.specs.Operands.{IsScalarIn, IsGiven, IsOperandOf}
use Rattle.cx_typed_work.specs.Works.{IsWorkOf, AreWorksOf, IsTypedNode, IsTypedWork}
use Rattle.cx_typed_values.proofs.ScalarKinds.{IsIntegerKind, integer_kind}

-- ---- constants

number_of_basic : (which : Basic) (number : ℤ) → IsInRange (scalar_of_basic which) number → IsValueOf (scalar_of_basic which) (Number number)
number_of_basic basics.Truth number inside = inside
number_of_basic basics.Char number inside = inside
number_of_basic basics.SignedChar number inside = inside
number_of_basic basics.UnsignedChar number inside = inside
number_of_basic basics.Short number inside = inside
number_of_basic basics.UnsignedShort number inside = inside
number_of_basic basics.Int number inside = inside
number_of_basic basics.Unsigned number inside = inside
number_of_basic basics.Long number inside = inside
number_of_basic basics.UnsignedLong number inside = inside
number_of_basic basics.LongLong number inside = inside
number_of_basic basics.UnsignedLongLong number inside = inside

number_given : (program : CProgram) (type : CTy) (number : ℤ) (kind : IsIntegerKind program.types type)
    → IfSome (scalar_of program.types (form_of_type type)) (λ found. IsInRange found number) → IsScalarIn program type (Number number)
number_given program type number kind inside = record {
  kind = scalar_of_basic kind.which;
  kind_is = kind.kind_is;
  of_kind = number_of_basic kind.which number (subst (λ found. IfSome found (λ one. IsInRange one number)) kind.kind_is inside);
  leads = tt;
}

null_of_kind : (to : CTy) → IsValueOf (scalar_of_pointer to) Null
null_of_kind (ty void is_const) = tt
null_of_kind (ty (basic which) is_const) = tt
null_of_kind (ty (enum_type number) is_const) = tt
null_of_kind (ty (pointer to) is_const) = tt
null_of_kind (ty (array element length) is_const) = tt
null_of_kind (ty (record_type number) is_const) = tt
null_of_kind (ty (function result params variadic) is_const) = tt

null_given : (program : CProgram) (type : CTy) → IsPointer type → IsScalarIn program type Null
null_given program (ty (pointer to) is_const) is = record { kind = scalar_of_pointer to; kind_is = refl; of_kind = null_of_kind to; leads = tt }
null_given program (ty void is_const) is = absurd is
null_given program (ty (basic which) is_const) is = absurd is
null_given program (ty (enum_type number) is_const) is = absurd is
null_given program (ty (array element length) is_const) is = absurd is
null_given program (ty (record_type number) is_const) is = absurd is
null_given program (ty (function result params variadic) is_const) is = absurd is

kind_of_code : (home : CHome) (visible : CTy) (found : Option CCallee) → IsSome found → IfSome found (IsPointerToCode home visible)
    → scalar_of_pointer visible ≡ scalar_kind.Code
kind_of_code home (ty (function result params variadic) is_const) found some is = refl
kind_of_code home (ty void is_const) None some is = cc
kind_of_code home (ty void is_const) (Some callee) some is = absurd is.is_function
kind_of_code home (ty (basic which) is_const) None some is = cc
kind_of_code home (ty (basic which) is_const) (Some callee) some is = absurd is.is_function
kind_of_code home (ty (enum_type number) is_const) None some is = cc
kind_of_code home (ty (enum_type number) is_const) (Some callee) some is = absurd is.is_function
kind_of_code home (ty (pointer to) is_const) None some is = cc
kind_of_code home (ty (pointer to) is_const) (Some callee) some is = absurd is.is_function
kind_of_code home (ty (array element length) is_const) None some is = cc
kind_of_code home (ty (array element length) is_const) (Some callee) some is = absurd is.is_function
kind_of_code home (ty (record_type number) is_const) None some is = cc
kind_of_code home (ty (record_type number) is_const) (Some callee) some is = absurd is.is_function

abbrev callee_of_two : Option CFun → Option COuter → Option CCallee
callee_of_two (Some one) outer = Some (record { type = one.type; outer = None })
callee_of_two None (Some one) = Some (record { type = one.type; outer = Some one })
callee_of_two None None = None

-- a function that is used otherwise than in a call by name is defined, where all units are there
code_is_there : (home : CHome) (visible : CTy) (one : Option CFun) (outer : Option COuter) → home.mentions ≡ None
    → IsSome (callee_of_two one outer) → IfSome (callee_of_two one outer) (IsPointerToCode home visible) → IsSome one
code_is_there home visible (Some one) outer none some is = refl
code_is_there home visible None (Some outer) none some is = absurd (subst (λ mentions. IsMentioned mentions outer.name outer.linkage visible uses) none is.usable)
code_is_there home visible None None none some is = cc

code_given : (home : CHome) (type : CTy) (number : ℕ) → home.mentions ≡ None → IsCodeOf home number type → IsScalarIn home.program type (Function number)
code_given home (ty (pointer visible) is_const) number none is = record {
  kind = scalar_kind.Code;
  kind_is = ap Some (kind_of_code home visible (callee_with number home.program) is.1.0 is.1.1);
  of_kind = tt;
  leads = code_is_there home visible (function_with number home.program.functions) (outer_with number home.program.externals) none is.1.0 is.1.1;
}
code_given home (ty void is_const) number none is = absurd is
code_given home (ty (basic which) is_const) number none is = absurd is
code_given home (ty (enum_type tag) is_const) number none is = absurd is
code_given home (ty (array element length) is_const) number none is = absurd is
code_given home (ty (record_type tag) is_const) number none is = absurd is
code_given home (ty (function result params variadic) is_const) number none is = absurd is

-- ---- trees

typed_of : (home : CHome) (node : CExpr) → IsTyped home node → IsTypedNode home node
typed_of home node is = inl is

lvalue_of : (home : CHome) (node : CExpr) → IsLvalue home node → IsTypedNode home node
lvalue_of home node is = inr is

mutual
  pub begun_typed : (home : CHome) (node : CExpr) → home.mentions ≡ None → IsTypedNode home node → IsWorkOf home node (begun node)
  begun_typed home (expr type place (whole value)) none (inl is) =
      record { type_is = refl; given = inr (is, inl (number_given home.program type value (integer_kind (types_of_home home) type is.1.integer) is.1.in_range)) }
  begun_typed home (expr type place (whole value)) none (inr is) = absurd is.2
  begun_typed home (expr type place null) none (inl is) =
      record { type_is = refl; given = inr (is, inl (null_given home.program type is.1)) }
  begun_typed home (expr type place null) none (inr is) = absurd is.2
  begun_typed home (expr type place (object number)) none (inl is) = absurd is.1
  begun_typed home (expr type place (object number)) none (inr is) = record { type_is = refl; given = inl (is, refl) }
  begun_typed home (expr type place (code number)) none (inl is) =
      record { type_is = refl; given = inr (is, inl (code_given home type number none is.1)) }
  begun_typed home (expr type place (code number)) none (inr is) = absurd is.2
  begun_typed home (expr type place (load from)) none (inl is) = (refl, (begun_typed home from none (inr is.1.0), tt))
  begun_typed home (expr type place (load from)) none (inr is) = absurd is.2
  begun_typed home (expr type place (deref from)) none (inl is) = absurd is.1
  begun_typed home (expr type place (deref from)) none (inr is) = (refl, (begun_typed home from none (inl is.2.0), tt))
  begun_typed home (expr type place (member of spot)) none (inl is) = (refl, (begun_typed home of none (inl is.1.0), tt))
  begun_typed home (expr type place (member of spot)) none (inr is) = (refl, (begun_typed home of none (inr is.2.0), tt))
  begun_typed home (expr type place (address of)) none (inl is) = (refl, (begun_typed home of none (inr is.1.0), tt))
  begun_typed home (expr type place (address of)) none (inr is) = absurd is.2
  begun_typed home (expr type place (convert value)) none (inl is) = (refl, (begun_typed home value none (inl is.1.0), tt))
  begun_typed home (expr type place (convert value)) none (inr is) = absurd is.2
  begun_typed home (expr type place (unary op value)) none (inl is) = (refl, (begun_typed home value none (inl is.1.0), tt))
  begun_typed home (expr type place (unary op value)) none (inr is) = absurd is.2
  begun_typed home (expr type place (binary op left right)) none (inl is) =
      (refl, (begun_typed home left none (inl is.1.0), (begun_typed home right none (inl is.1.1), tt)))
  begun_typed home (expr type place (binary op left right)) none (inr is) = absurd is.2
  begun_typed home (expr type place (and left right)) none (inl is) = (refl, begun_typed home left none (inl is.1.0))
  begun_typed home (expr type place (and left right)) none (inr is) = absurd is.2
  begun_typed home (expr type place (or left right)) none (inl is) = (refl, begun_typed home left none (inl is.1.0))
  begun_typed home (expr type place (or left right)) none (inr is) = absurd is.2
  begun_typed home (expr type place (cond test first second)) none (inl is) = (refl, begun_typed home test none (inl is.1.0))
  begun_typed home (expr type place (cond test first second)) none (inr is) = absurd is.2
  begun_typed home (expr type place (assign target value)) none (inl is) =
      (refl, (begun_typed home target none (inr is.1.0), (begun_typed home value none (inl is.1.1), tt)))
  begun_typed home (expr type place (assign target value)) none (inr is) = absurd is.2
  begun_typed home (expr type place (assign_by op computes target value)) none (inl is) =
      (refl, (begun_typed home target none (inr is.1.0), (begun_typed home value none (inl is.1.1), tt)))
  begun_typed home (expr type place (assign_by op computes target value)) none (inr is) = absurd is.2
  begun_typed home (expr type place (step up post on)) none (inl is) = (refl, (begun_typed home on none (inr is.1.0), tt))
  begun_typed home (expr type place (step up post on)) none (inr is) = absurd is.2
  begun_typed home (expr type place (call callee args)) none (inl is) = (refl, all_begun_typed home args none is.1.0)
  begun_typed home (expr type place (call callee args)) none (inr is) = absurd is.2
  begun_typed home (expr type place (call_by callee args)) none (inl is) =
      (refl, (begun_typed home callee none (inl is.1.0), all_begun_typed home args none is.1.1))
  begun_typed home (expr type place (call_by callee args)) none (inr is) = absurd is.2
  begun_typed home (expr type place (comma first second)) none (inl is) = (refl, begun_typed home first none (inl is.1.0))
  begun_typed home (expr type place (comma first second)) none (inr is) = absurd is.2
  begun_typed home (expr type place (literal number puts)) none (inl is) = absurd is.1
  begun_typed home (expr type place (literal number puts)) none (inr is) = (refl, tt)

  all_begun_typed : (home : CHome) (args : CExprs) → home.mentions ≡ None → AreTyped home args → AreWorksOf home args (all_begun args)
  all_begun_typed home no_exprs none are = tt
  all_begun_typed home (more_exprs first others) none are = (begun_typed home first none (inl are.0), all_begun_typed home others none are.1)

pub typed_work_begun : (home : CHome) (node : CExpr) → home.mentions ≡ None → IsTypedNode home node → IsTypedWork home node (begun node)
typed_work_begun home node none is = record { typed = is; left = begun_typed home node none is }
