-- The types of the crate for those of C's operands.
use Rattle.std.proofs.Common.{◌≡◌, ℕ, Bool, true, false, if◌then◌else◌, Option, Some, None, option_map, slice_get, refl, sym, ap, subst, ◌∙◌}
use Rattle.cr_base.specs.declared.scalar.Scalar.{Scalar}
use Rattle.cr_base.specs.declared.scalar.Scalar.TheVariants as scalars
use Rattle.cx_core.specs.Conversions.{scalar_of as c_scalar_of, scalar_of_basic, basic_of_enum, scalar_of_pointer, IsPromoted, IsIntegerType}
use Rattle.cx_core.specs.declared.expr.Op1.{Op1}
use Rattle.cx_core.specs.declared.expr.Op1.TheVariants as op1
use Rattle.cx_core.specs.declared.ty.Basic.{Basic}
use Rattle.cx_core.specs.declared.ty.Basic.TheVariants as basics
use Rattle.cx_core.specs.Trees.{CTy, ty, void, basic, enum_type, pointer, array, record_type, function, form_of_type, CProgram}
use Rattle.cx_core.specs.Typing.{IsConversion, IsUnaryOf}
use Rattle.cx_mean.specs.Settings.{scalar_in_type}
use Rattle.cx_typed_values.proofs.ScalarKinds.{integer_kind}
use Rattle.cx_typed_work.specs.Operands.{IsScalarIn}
use Rattle.lift_calls.specs.Programs.{setting_in}
use Rattle.lift_does.proofs.Around.{Around}
use Rattle.lift_exprs.specs.Names.{Names, type_in}
use Rattle.lift_forms.specs.LawsTyping.{unary_result, converts}
use Rattle.lift_forms_laws.proofs.Constants.{kinds}
use Rattle.lift_forms_laws.specs.Gives.{IsOf}
use Rattle.mem_bytes.specs.declared.value.Value.{Value}
use Rattle.rs_mean.specs.Scalars.{scalar_of, is_scalar, is_integer}
use Rattle.rs_mean.specs.Typing.{is_bits, is_pointer, is_code}
use Rattle.rs_text.specs.declared.integer.IntegerTy.{IntegerTy}
use Rattle.rs_text.specs.declared.integer.IntegerTy.TheVariants.{I8, I16, I32, I64, U32, U64}
use Rattle.rs_text.specs.Tree.{Ty, Integer, Boolean, Void, Pointer, Array, Code, Record}

-- ---- scalar types of the crate

pub is_scalar_type : (ty : Ty) (kind : Scalar) → scalar_of ty ≡ Some kind → is_scalar ty ≡ true
is_scalar_type (Integer which) kind e = refl
is_scalar_type Boolean kind e = refl
is_scalar_type (Pointer target) kind e = refl
is_scalar_type (Code params result) kind e = refl
is_scalar_type Void kind e = cc (e)
is_scalar_type (Array element size) kind e = cc (e)
is_scalar_type (Record m x) kind e = cc (e)

-- a kind of numbers
abbrev pub IsNumberKind : Scalar → Type 0
IsNumberKind scalars.Truth = Unit {0}
IsNumberKind (scalars.Whole width signed) = Unit {0}
IsNumberKind scalars.Object = ⊥
IsNumberKind scalars.Code = ⊥

pub some_kind : (one other : Scalar) → Some one ≡ Some other → one ≡ other
some_kind one other e = cc (e)

bits_of_kind : (ty : Ty) (kind : Scalar) → scalar_of ty ≡ Some kind → IsNumberKind kind → is_bits ty ≡ true
bits_of_kind (Integer which) kind e is = refl
bits_of_kind Boolean kind e is = refl
bits_of_kind (Pointer target) kind e is = absurd (subst IsNumberKind (sym (some_kind scalars.Object kind e)) is)
bits_of_kind (Code params result) kind e is = absurd (subst IsNumberKind (sym (some_kind scalars.Code kind e)) is)
bits_of_kind Void kind e is = cc (e)
bits_of_kind (Array element size) kind e is = cc (e)
bits_of_kind (Record m x) kind e is = cc (e)

pub pointer_of_kind : (ty : Ty) → scalar_of ty ≡ Some scalars.Object → is_pointer ty ≡ true
pointer_of_kind (Integer I8) e = cc (e)
pointer_of_kind (Integer I16) e = cc (e)
pointer_of_kind (Integer I32) e = cc (e)
pointer_of_kind (Integer I64) e = cc (e)
pointer_of_kind (Integer _) e = cc (e)
pointer_of_kind Boolean e = cc (e)
pointer_of_kind (Pointer target) e = refl
pointer_of_kind (Code params result) e = cc (e)
pointer_of_kind Void e = cc (e)
pointer_of_kind (Array element size) e = cc (e)
pointer_of_kind (Record m x) e = cc (e)

pub code_of_kind : (ty : Ty) → scalar_of ty ≡ Some scalars.Code → is_code ty ≡ true
code_of_kind (Integer I8) e = cc (e)
code_of_kind (Integer I16) e = cc (e)
code_of_kind (Integer I32) e = cc (e)
code_of_kind (Integer I64) e = cc (e)
code_of_kind (Integer _) e = cc (e)
code_of_kind Boolean e = cc (e)
code_of_kind (Pointer target) e = cc (e)
code_of_kind (Code params result) e = refl
code_of_kind Void e = cc (e)
code_of_kind (Array element size) e = cc (e)
code_of_kind (Record m x) e = cc (e)

-- a value of any scalar type is converted to one of a kind
to_numbers : (from to : Ty) (kind other : Scalar) → scalar_of from ≡ Some kind → scalar_of to ≡ Some other → IsNumberKind kind → IsNumberKind other → converts from to ≡ true
to_numbers from (Integer which) kind other e f is too = bits_of_kind from kind e is
to_numbers from Boolean kind other e f is too = is_scalar_type from kind e
to_numbers from (Pointer target) kind other e f is too = absurd (subst IsNumberKind (sym (some_kind scalars.Object other f)) too)
to_numbers from (Code params result) kind other e f is too = absurd (subst IsNumberKind (sym (some_kind scalars.Code other f)) too)
to_numbers from Void kind other e f is too = cc (f)
to_numbers from (Array element size) kind other e f is too = cc (f)
to_numbers from (Record m x) kind other e f is too = cc (f)

to_truth : (from to : Ty) (kind : Scalar) → scalar_of from ≡ Some kind → to ≡ Boolean → converts from to ≡ true
to_truth from to kind e f = rw f (is_scalar_type from kind e)

to_object : (from to : Ty) → scalar_of from ≡ Some scalars.Object → scalar_of to ≡ Some scalars.Object → converts from to ≡ true
to_object from (Pointer target) e f = pointer_of_kind from e
to_object from (Integer I8) e f = cc (f)
to_object from (Integer _) e f = cc (f)
to_object from Boolean e f = cc (f)
to_object from (Code params result) e f = cc (f)
to_object from Void e f = cc (f)
to_object from (Array element size) e f = cc (f)
to_object from (Record m x) e f = cc (f)

to_code : (from to : Ty) → scalar_of from ≡ Some scalars.Code → scalar_of to ≡ Some scalars.Code → converts from to ≡ true
to_code from (Code params result) e f = code_of_kind from e
to_code from (Integer I8) e f = cc (f)
to_code from (Integer _) e f = cc (f)
to_code from Boolean e f = cc (f)
to_code from (Pointer target) e f = cc (f)
to_code from Void e f = cc (f)
to_code from (Array element size) e f = cc (f)
to_code from (Record m x) e f = cc (f)

-- ---- C's types

pub basic_kind : (which : Basic) → IsNumberKind (scalar_of_basic which)
basic_kind basics.Truth = tt
basic_kind basics.Char = tt
basic_kind basics.SignedChar = tt
basic_kind basics.UnsignedChar = tt
basic_kind basics.Short = tt
basic_kind basics.UnsignedShort = tt
basic_kind basics.Int = tt
basic_kind basics.Unsigned = tt
basic_kind basics.Long = tt
basic_kind basics.UnsignedLong = tt
basic_kind basics.LongLong = tt
basic_kind basics.UnsignedLongLong = tt

-- a promoted type is an integer type of the crate
pub record IsInteger (names : Names) (type : CTy) : Type 0 where
  pub which : IntegerTy
  pub is : type_in names type ≡ Integer which

pub promoted_integer : (names : Names) (type : CTy) → IsPromoted type → IsInteger names type
promoted_integer names (ty (basic basics.Int) is_const) is = record { which = I32; is = refl }
promoted_integer names (ty (basic basics.Unsigned) is_const) is = record { which = U32; is = refl }
promoted_integer names (ty (basic basics.Long) is_const) is = record { which = I64; is = refl }
promoted_integer names (ty (basic basics.UnsignedLong) is_const) is = record { which = U64; is = refl }
promoted_integer names (ty (basic basics.LongLong) is_const) is = record { which = I64; is = refl }
promoted_integer names (ty (basic basics.UnsignedLongLong) is_const) is = record { which = U64; is = refl }
promoted_integer names (ty (basic basics.Truth) is_const) is = cc (is.0)
promoted_integer names (ty (basic basics.Char) is_const) is = cc (is.0)
promoted_integer names (ty (basic basics.SignedChar) is_const) is = cc (is.0)
promoted_integer names (ty (basic basics.UnsignedChar) is_const) is = cc (is.0)
promoted_integer names (ty (basic basics.Short) is_const) is = cc (is.0)
promoted_integer names (ty (basic basics.UnsignedShort) is_const) is = cc (is.0)
promoted_integer names (ty void is_const) is = cc (is.0)
promoted_integer names (ty (enum_type number) is_const) is = cc (is.0)
promoted_integer names (ty (pointer to) is_const) is = cc (is.0)
promoted_integer names (ty (array element length) is_const) is = cc (is.0)
promoted_integer names (ty (record_type number) is_const) is = cc (is.0)
promoted_integer names (ty (function result params variadic) is_const) is = cc (is.0)

module _ (x : Around) where
  -- in the program that the crate is written for
  scalar_there : (type : CTy) (kind : Scalar) → c_scalar_of x.home.program.types (form_of_type type) ≡ Some kind → scalar_in_type (setting_in x.s) type ≡ Some kind
  scalar_there type kind e = subst (λ (program : CProgram). c_scalar_of program.types (form_of_type type) ≡ Some kind) x.means.program e

  pub kind_there : (type : CTy) (kind : Scalar) → c_scalar_of x.home.program.types (form_of_type type) ≡ Some kind → scalar_of (type_in x.names type) ≡ Some kind
  kind_there type kind e = x.means.scalars type kind (scalar_there type kind e)

  pub kinds_agree : (type : CTy) (kind : Scalar) → c_scalar_of x.home.program.types (form_of_type type) ≡ Some kind → scalar_in_type (setting_in x.s) type ≡ scalar_of (type_in x.names type)
  kinds_agree type kind e = scalar_there type kind e ∙ sym (kind_there type kind e)

  -- a value of a type is one of its type in the crate
  pub value_there : (type : CTy) (value : Value) → IsScalarIn x.home.program type value → IsOf (type_in x.names type) value
  value_there type value is = kinds (type_in x.names type) is.kind value (kind_there type is.kind is.kind_is) is.of_kind

  -- ---- conversions

  pub integer_number : (type : CTy) → IsIntegerType x.home.program.types type → (kind : Scalar) × (scalar_of (type_in x.names type) ≡ Some kind) × IsNumberKind kind
  integer_number type is =
      let one = integer_kind x.home.program.types type is in
      (scalar_of_basic one.which, kind_there type (scalar_of_basic one.which) one.kind_is, basic_kind one.which)

  to_integer : (from type : CTy) (kind : Scalar) → scalar_of (type_in x.names type) ≡ Some kind → IsNumberKind kind → IsIntegerType x.home.program.types from → converts (type_in x.names from) (type_in x.names type) ≡ true
  to_integer from type kind e number is =
      let one = integer_number from is in
      to_numbers (type_in x.names from) (type_in x.names type) one.0 kind one.1 e one.2 number

  enum_number : (number : ℕ) (kind : Scalar) → c_scalar_of x.home.program.types (enum_type number) ≡ Some kind → IsNumberKind kind
  enum_number number kind e = by (slice_get x.home.program.types.enums number) e
    where
      by : (found : Option Bool) → option_map (λ is_int. scalar_of_basic (basic_of_enum is_int)) found ≡ Some kind → IsNumberKind kind
      by (Some true) same = subst IsNumberKind (some_kind (scalar_of_basic basics.Int) kind same) tt
      by (Some false) same = subst IsNumberKind (some_kind (scalar_of_basic basics.Unsigned) kind same) tt
      by None same = cc (same)

  to_pointer : (from to : CTy) (is_const : Bool) (kind : Scalar) → c_scalar_of x.home.program.types (form_of_type from) ≡ Some kind → kind ≡ scalar_of_pointer to → converts (type_in x.names from) (type_in x.names (ty (pointer to) is_const)) ≡ true
  to_pointer from (ty (function result params variadic) const) is_const kind e same =
      to_code (type_in x.names from) (type_in x.names (ty (pointer (ty (function result params variadic) const)) is_const)) (kind_there from kind e ∙ ap Some same) (kind_there (ty (pointer (ty (function result params variadic) const)) is_const) scalars.Code refl)
  to_pointer from (ty void const) is_const kind e same = to_object (type_in x.names from) (type_in x.names (ty (pointer (ty void const)) is_const)) (kind_there from kind e ∙ ap Some same) refl
  to_pointer from (ty (basic which) const) is_const kind e same = to_object (type_in x.names from) (type_in x.names (ty (pointer (ty (basic which) const)) is_const)) (kind_there from kind e ∙ ap Some same) refl
  to_pointer from (ty (enum_type number) const) is_const kind e same = to_object (type_in x.names from) (type_in x.names (ty (pointer (ty (enum_type number) const)) is_const)) (kind_there from kind e ∙ ap Some same) refl
  to_pointer from (ty (pointer of) const) is_const kind e same = to_object (type_in x.names from) (type_in x.names (ty (pointer (ty (pointer of) const)) is_const)) (kind_there from kind e ∙ ap Some same) refl
  to_pointer from (ty (array element length) const) is_const kind e same = to_object (type_in x.names from) (type_in x.names (ty (pointer (ty (array element length) const)) is_const)) (kind_there from kind e ∙ ap Some same) refl
  to_pointer from (ty (record_type number) const) is_const kind e same = to_object (type_in x.names from) (type_in x.names (ty (pointer (ty (record_type number) const)) is_const)) (kind_there from kind e ∙ ap Some same) refl

  pub conversion_there : (from to : CTy) (kind : Scalar) (value : Value) → IsConversion x.home.program.types from to → c_scalar_of x.home.program.types (form_of_type to) ≡ Some kind → IsScalarIn x.home.program from value →
      converts (type_in x.names from) (type_in x.names to) ≡ true
  conversion_there from (ty void is_const) kind value is e of = cc (e)
  conversion_there from (ty (basic basics.Truth) is_const) kind value is e of = to_truth (type_in x.names from) Boolean of.kind (kind_there from of.kind of.kind_is) refl
  conversion_there from (ty (basic basics.Char) is_const) kind value is e of = to_integer from (ty (basic basics.Char) is_const) (scalar_of_basic basics.Char) refl tt is.allowed
  conversion_there from (ty (basic basics.SignedChar) is_const) kind value is e of = to_integer from (ty (basic basics.SignedChar) is_const) (scalar_of_basic basics.SignedChar) refl tt is.allowed
  conversion_there from (ty (basic basics.UnsignedChar) is_const) kind value is e of = to_integer from (ty (basic basics.UnsignedChar) is_const) (scalar_of_basic basics.UnsignedChar) refl tt is.allowed
  conversion_there from (ty (basic basics.Short) is_const) kind value is e of = to_integer from (ty (basic basics.Short) is_const) (scalar_of_basic basics.Short) refl tt is.allowed
  conversion_there from (ty (basic basics.UnsignedShort) is_const) kind value is e of = to_integer from (ty (basic basics.UnsignedShort) is_const) (scalar_of_basic basics.UnsignedShort) refl tt is.allowed
  conversion_there from (ty (basic basics.Int) is_const) kind value is e of = to_integer from (ty (basic basics.Int) is_const) (scalar_of_basic basics.Int) refl tt is.allowed
  conversion_there from (ty (basic basics.Unsigned) is_const) kind value is e of = to_integer from (ty (basic basics.Unsigned) is_const) (scalar_of_basic basics.Unsigned) refl tt is.allowed
  conversion_there from (ty (basic basics.Long) is_const) kind value is e of = to_integer from (ty (basic basics.Long) is_const) (scalar_of_basic basics.Long) refl tt is.allowed
  conversion_there from (ty (basic basics.UnsignedLong) is_const) kind value is e of = to_integer from (ty (basic basics.UnsignedLong) is_const) (scalar_of_basic basics.UnsignedLong) refl tt is.allowed
  conversion_there from (ty (basic basics.LongLong) is_const) kind value is e of = to_integer from (ty (basic basics.LongLong) is_const) (scalar_of_basic basics.LongLong) refl tt is.allowed
  conversion_there from (ty (basic basics.UnsignedLongLong) is_const) kind value is e of = to_integer from (ty (basic basics.UnsignedLongLong) is_const) (scalar_of_basic basics.UnsignedLongLong) refl tt is.allowed
  conversion_there from (ty (enum_type number) is_const) kind value is e of = to_integer from (ty (enum_type number) is_const) kind (kind_there (ty (enum_type number) is_const) kind e) (enum_number number kind e) is.allowed
  conversion_there from (ty (pointer to) is_const) kind value is e of = to_pointer from to is_const (scalar_of_pointer to) is.allowed.1 refl
  conversion_there from (ty (array element length) is_const) kind value is e of = cc (e)
  conversion_there from (ty (record_type number) is_const) kind value is e of = cc (e)
  conversion_there from (ty (function result params variadic) is_const) kind value is e of = cc (e)

  -- ---- operators with one operand

  promoted_result : (type of : CTy) → IsPromoted type → of ≡ type → (if is_integer (type_in x.names of) then Some (type_in x.names of) else None) ≡ Some (type_in x.names type)
  promoted_result type of is same =
      let one = promoted_integer x.names type is in
      rw (same, one.is) refl

  integer_type : (ty : Ty) (which : IntegerTy) → ty ≡ Integer which → is_integer ty ≡ true
  integer_type one which e = rw e refl

  pub unary_there : (op : Op1) (type of : CTy) (value : Value) → IsUnaryOf x.home.program.types op type of → IsScalarIn x.home.program of value → unary_result op (type_in x.names of) ≡ Some (type_in x.names type)
  unary_there op1.Not type of value is given =
      rw (is_scalar_type (type_in x.names of) given.kind (kind_there of given.kind given.kind_is)) (ap (λ (t : CTy). Some (type_in x.names t)) (sym is.type_is))
  unary_there op1.Plus type of value is given = promoted_result type of is.promoted is.value_is
  unary_there op1.Minus type of value is given = promoted_result type of is.promoted is.value_is
  unary_there op1.Complement type of value is given = promoted_result type of is.promoted is.value_is
