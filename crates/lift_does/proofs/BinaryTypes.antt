-- The types of the crate for those of operators with two operands (ISO C99, 6.5.5 to 6.5.12).
use Rattle.std.proofs.Common.{◌≡◌, ◌⊎◌, inl, inr, Bool, true, false, if◌then◌else◌, List, Option, Some, None, refl, sym, ap, subst, ◌∙◌}
use Rattle.std.specs.Prelude.{IsSome}
use Rattle.cr_base.specs.declared.layout.Laid.{Laid}
use Rattle.cr_base.specs.declared.scalar.Scalar.{Scalar}
use Rattle.cr_base.specs.declared.scalar.Scalar.TheVariants as scalars
use Rattle.cr_world.specs.World.{World}
use Rattle.cx_core.specs.Conversions.{scalar_of as c_scalar_of, scalar_of_basic, scalar_of_pointer, IsPromoted}
use Rattle.cx_core.specs.declared.expr.Op2.{Op2}
use Rattle.cx_core.specs.declared.expr.Op2.TheVariants as op2
use Rattle.cx_core.specs.declared.ty.Basic.TheVariants as basics
use Rattle.cx_core.specs.Layouts.{extent, layouts_of}
use Rattle.cx_core.specs.Trees.{CTy, ty, void, basic, enum_type, pointer, array, record_type, function, form_of_type, CTypes, CProgram}
use Rattle.cx_core.specs.Typing.{IsBinaryOf, AreCommon, IsElementPointer, IsMoved, PointAlike, IsDifference, IsShift, AreNumbers, AreOrdered, AreEqual, int_type}
use Rattle.cx_core.specs.ValidTypes.{IsObjectForm, IsComplete}
use Rattle.cx_mean.specs.Settings.{extent_in}
use Rattle.cx_typed_sizes.proofs.Bytes.{complete_has_byte}
use Rattle.cx_typed_values.proofs.PointerValues.{same_pointers}
use Rattle.lift_calls.specs.Programs.{setting_in}
use Rattle.lift_does.proofs.Around.{Around, At}
use Rattle.lift_does.proofs.Binary.{BinaryThere}
use Rattle.lift_does.proofs.Places.{pointer_type, pointed_is}
use Rattle.lift_does.proofs.Types.{IsNumberKind, some_kind, promoted_integer, kind_there, kinds_agree, integer_number, pointer_of_kind, code_of_kind}
use Rattle.lift_exprs.specs.Names.{type_in, pointed_type}
use Rattle.lift_forms.proofs.SameTypes.{same_integer_itself}
use Rattle.lift_forms.specs.LawsTyping.{numbers_result, moved_result, pointers_result, functions_result, binary_result}
use Rattle.lift_forms.specs.Operators.{is_comparison}
use Rattle.lift_forms_laws.specs.LawsMeaning.{ElementsAgree, Differing, Elements}
use Rattle.lift_stands.specs.Stands.{Images}
use Rattle.rs_mean.specs.Layout.{laid_of}
use Rattle.rs_mean.specs.Scalars.{scalar_of}
use Rattle.rs_mean.specs.Typing.{is_target, is_code}
use Rattle.rs_text.specs.declared.integer.IntegerTy.{IntegerTy}
use Rattle.rs_text.specs.declared.integer.IntegerTy.TheVariants.{I32, I64}
use Rattle.rs_text.specs.Tree.{Ty, Integer, Boolean, Void, Pointer, Array, Code, Record, Tys, OptionTy, ModuleTree}

-- ---- numbers

pub promoted_kind : (types : CTypes) (type : CTy) → IsPromoted type → (kind : Scalar) × (c_scalar_of types (form_of_type type) ≡ Some kind)
promoted_kind types (ty (basic basics.Int) is_const) is = (scalar_of_basic basics.Int, refl)
promoted_kind types (ty (basic basics.Unsigned) is_const) is = (scalar_of_basic basics.Unsigned, refl)
promoted_kind types (ty (basic basics.Long) is_const) is = (scalar_of_basic basics.Long, refl)
promoted_kind types (ty (basic basics.UnsignedLong) is_const) is = (scalar_of_basic basics.UnsignedLong, refl)
promoted_kind types (ty (basic basics.LongLong) is_const) is = (scalar_of_basic basics.LongLong, refl)
promoted_kind types (ty (basic basics.UnsignedLongLong) is_const) is = (scalar_of_basic basics.UnsignedLongLong, refl)
promoted_kind types (ty (basic basics.Truth) is_const) is = cc (is.0)
promoted_kind types (ty (basic basics.Char) is_const) is = cc (is.0)
promoted_kind types (ty (basic basics.SignedChar) is_const) is = cc (is.0)
promoted_kind types (ty (basic basics.UnsignedChar) is_const) is = cc (is.0)
promoted_kind types (ty (basic basics.Short) is_const) is = cc (is.0)
promoted_kind types (ty (basic basics.UnsignedShort) is_const) is = cc (is.0)
promoted_kind types (ty void is_const) is = cc (is.0)
promoted_kind types (ty (enum_type number) is_const) is = cc (is.0)
promoted_kind types (ty (pointer to) is_const) is = cc (is.0)
promoted_kind types (ty (array element length) is_const) is = cc (is.0)
promoted_kind types (ty (record_type number) is_const) is = cc (is.0)
promoted_kind types (ty (function result params variadic) is_const) is = cc (is.0)

numbers_same : (op : Op2) (which : IntegerTy) → numbers_result op which which ≡ Some (if is_comparison op then Integer I32 else Integer which)
numbers_same op2.Multiply which = rw (same_integer_itself which) refl
numbers_same op2.Divide which = rw (same_integer_itself which) refl
numbers_same op2.Remainder which = rw (same_integer_itself which) refl
numbers_same op2.Add which = rw (same_integer_itself which) refl
numbers_same op2.Subtract which = rw (same_integer_itself which) refl
numbers_same op2.ShiftLeft which = refl
numbers_same op2.ShiftRight which = refl
numbers_same op2.Less which = rw (same_integer_itself which) refl
numbers_same op2.Greater which = rw (same_integer_itself which) refl
numbers_same op2.LessOrEqual which = rw (same_integer_itself which) refl
numbers_same op2.GreaterOrEqual which = rw (same_integer_itself which) refl
numbers_same op2.Equal which = rw (same_integer_itself which) refl
numbers_same op2.NotEqual which = rw (same_integer_itself which) refl
numbers_same op2.BitAnd which = rw (same_integer_itself which) refl
numbers_same op2.BitXor which = rw (same_integer_itself which) refl
numbers_same op2.BitOr which = rw (same_integer_itself which) refl

-- ---- elements

pub object_form : (types : CTypes) (to : CTy) → IsComplete types to → IsObjectForm (form_of_type to)
object_form types (ty (basic which) is_const) is = tt
object_form types (ty (enum_type number) is_const) is = tt
object_form types (ty (pointer to) is_const) is = tt
object_form types (ty (array element length) is_const) is = tt
object_form types (ty (record_type number) is_const) is = tt
object_form types (ty void is_const) is = cc is
object_form types (ty (function result params variadic) is_const) is = cc is

laid_target : (modules : List ModuleTree) (one : Ty) (laid : Laid) → laid_of modules one ≡ Some laid → is_target one ≡ true
laid_target modules (Integer which) laid e = refl
laid_target modules Boolean laid e = refl
laid_target modules (Pointer target) laid e = refl
laid_target modules (Code params result) laid e = refl
laid_target modules (Array element size) laid e = refl
laid_target modules (Record m y) laid e = refl
laid_target modules Void laid e = cc (e)

some_laid : (found : Option Laid) → IsSome found → (laid : Laid) × (found ≡ Some laid)
some_laid (Some laid) is = (laid, refl)
some_laid None is = cc is

pub record IsCodeType (one : Ty) : Type 0 where
  pub params : Tys
  pub result : OptionTy
  pub is : one ≡ Code params result

code_type : (one : Ty) → is_code one ≡ true → IsCodeType one
code_type (Code params result) e = record { params = params; result = result; is = refl }
code_type (Integer which) e = cc (e)
code_type Boolean e = cc (e)
code_type (Pointer target) e = cc (e)
code_type Void e = cc (e)
code_type (Array element size) e = cc (e)
code_type (Record m y) e = cc (e)

module _ (x : Around) (images : Images) (c_world world : World) (here : At x images c_world world) where
  by_types : (op : Op2) (type left right : CTy) (one other gives : Ty) (kind : Scalar) → type_in x.names left ≡ one → type_in x.names right ≡ other → type_in x.names type ≡ gives → binary_result op one other ≡ Some gives →
      c_scalar_of x.home.program.types (form_of_type type) ≡ Some kind → Elements (setting_in x.s) x.frame op one other left right → BinaryThere x op type left right
  by_types op type left right one other gives kind left_is right_is type_is result_is kind_is elements_are = record {
    result = ap (λ (t : Ty). binary_result op t (type_in x.names right)) left_is ∙ (ap (λ (t : Ty). binary_result op one t) right_is ∙ (result_is ∙ ap Some (sym type_is)));
    kind = kinds_agree x type kind kind_is;
    elements = subst (λ (t : Ty). Elements (setting_in x.s) x.frame op t (type_in x.names right) left right) (sym left_is) (subst (λ (t : Ty). Elements (setting_in x.s) x.frame op one t left right) (sym right_is) elements_are);
  }

  int_kind : (type : CTy) → type ≡ int_type → c_scalar_of x.home.program.types (form_of_type type) ≡ Some (scalar_of_basic basics.Int)
  int_kind type is = ap (λ (t : CTy). c_scalar_of x.home.program.types (form_of_type t)) is

  common_there : (op : Op2) (type left right : CTy) → is_comparison op ≡ false → AreCommon type left right → BinaryThere x op type left right
  common_there op type left right plainly is =
      let one = promoted_integer x.names type is.promoted in
      let kind = promoted_kind x.home.program.types type is.promoted in
      by_types op type left right (Integer one.which) (Integer one.which) (Integer one.which) kind.0 (ap (type_in x.names) is.left_is ∙ one.is) (ap (type_in x.names) is.right_is ∙ one.is) one.is
      (numbers_same op one.which ∙ ap (λ (b : Bool). Some (if b then Integer I32 else Integer one.which)) plainly) kind.1 tt

  numbers_there : (op : Op2) (type left right : CTy) → is_comparison op ≡ true → AreNumbers type left right → BinaryThere x op type left right
  numbers_there op type left right compares is =
      let one = promoted_integer x.names left is.promoted in
      by_types op type left right (Integer one.which) (Integer one.which) (Integer I32) (scalar_of_basic basics.Int) one.is (ap (type_in x.names) is.right_is ∙ one.is) (ap (type_in x.names) is.type_is)
      (numbers_same op one.which ∙ ap (λ (b : Bool). Some (if b then Integer I32 else Integer one.which)) compares) (int_kind type is.type_is) tt

  shift_there : (op : Op2) (type left right : CTy) → ((one other : IntegerTy) → numbers_result op one other ≡ Some (Integer one)) → IsShift type left right → BinaryThere x op type left right
  shift_there op type left right shifts is =
      let one = promoted_integer x.names type is.promoted in
      let other = promoted_integer x.names right is.right_promoted in
      let kind = promoted_kind x.home.program.types type is.promoted in
      by_types op type left right (Integer one.which) (Integer other.which) (Integer one.which) kind.0 (ap (type_in x.names) is.left_is ∙ one.is) other.is one.is (shifts one.which other.which) kind.1 tt

  -- ---- pointers to elements

  pub record PointsThere (type : CTy) : Type 0 where
    pub to : CTy
    pub there : type_in x.names type ≡ Pointer (type_in x.names to)
    pub target : is_target (type_in x.names to) ≡ true
    pub agree : ElementsAgree (setting_in x.s) x.frame type (type_in x.names to)
    pub kind_is : c_scalar_of x.home.program.types (form_of_type type) ≡ Some scalars.Object

  object_scalar : (to : CTy) → IsObjectForm (form_of_type to) → scalar_of_pointer to ≡ scalars.Object
  object_scalar (ty (basic which) is_const) is = refl
  object_scalar (ty (enum_type number) is_const) is = refl
  object_scalar (ty (pointer to) is_const) is = refl
  object_scalar (ty (array element length) is_const) is = refl
  object_scalar (ty (record_type number) is_const) is = refl
  object_scalar (ty void is_const) is = absurd is
  object_scalar (ty (function result params variadic) is_const) is = absurd is

  pub points_there : (type : CTy) → IsElementPointer x.home.program.types type → PointsThere type
  points_there (ty (pointer to) is_const) is =
      let form_is = object_form x.home.program.types to is.1 in
      let own = some_laid (extent (layouts_of x.home.program.types) to) is.1 in
      let found : extent_in (setting_in x.s) to ≡ Some own.0 = subst (λ (program : CProgram). extent (layouts_of program.types) to ≡ Some own.0) x.means.program own.1 in
      let there : laid_of x.frame.modules (type_in x.names to) ≡ Some own.0 = rw (here.frames.modules) (x.means.laid to own.0 found) in
      record {
        to = to;
        there = subst (λ (c : Bool). type_in x.names (ty (pointer to) c) ≡ Pointer (type_in x.names to)) (sym is.0) (pointer_type x.names to form_is);
        target = laid_target x.frame.modules (type_in x.names to) own.0 there;
        agree = record {
          laid = own.0;
          found = there;
          points = record { extent = own.0; found = found; same_size = refl };
          some = complete_has_byte x.home.program.types to own.0 here.typed.scene.linked.types own.1;
        };
        kind_is = ap Some (object_scalar to form_is);
      }
  points_there (ty void is_const) is = absurd is
  points_there (ty (basic which) is_const) is = absurd is
  points_there (ty (enum_type number) is_const) is = absurd is
  points_there (ty (array element length) is_const) is = absurd is
  points_there (ty (record_type number) is_const) is = absurd is
  points_there (ty (function result params variadic) is_const) is = absurd is

  -- a count is a number
  moves_right : (op : Op2) (type left right : CTy) (by : Ty) (kind : Scalar) → type_in x.names right ≡ by → scalar_of by ≡ Some kind → IsNumberKind kind → type ≡ left → (points : PointsThere left) →
      moved_result op (type_in x.names points.to) ≡ Some (Pointer (type_in x.names points.to)) → BinaryThere x op type left right
  moves_right op type left right (Integer which) kind right_is e is same points result_is =
      by_types op type left right (Pointer (type_in x.names points.to)) (Integer which) (Pointer (type_in x.names points.to)) scalars.Object points.there right_is (ap (type_in x.names) same ∙ points.there) result_is
      (ap (λ (t : CTy). c_scalar_of x.home.program.types (form_of_type t)) same ∙ points.kind_is) points.agree
  moves_right op type left right Boolean kind right_is e is same points result_is =
      by_types op type left right (Pointer (type_in x.names points.to)) Boolean (Pointer (type_in x.names points.to)) scalars.Object points.there right_is (ap (type_in x.names) same ∙ points.there) result_is
      (ap (λ (t : CTy). c_scalar_of x.home.program.types (form_of_type t)) same ∙ points.kind_is) points.agree
  moves_right op type left right (Pointer target) kind right_is e is same points result_is = absurd (subst IsNumberKind (sym (some_kind scalars.Object kind e)) is)
  moves_right op type left right (Code params result) kind right_is e is same points result_is = absurd (subst IsNumberKind (sym (some_kind scalars.Code kind e)) is)
  moves_right op type left right Void kind right_is e is same points result_is = cc (e)
  moves_right op type left right (Array element size) kind right_is e is same points result_is = cc (e)
  moves_right op type left right (Record m y) kind right_is e is same points result_is = cc (e)

  moves_left : (type left right : CTy) (by : Ty) (kind : Scalar) → type_in x.names left ≡ by → scalar_of by ≡ Some kind → IsNumberKind kind → type ≡ right → PointsThere right → BinaryThere x op2.Add type left right
  moves_left type left right (Integer which) kind left_is e is same points =
      by_types op2.Add type left right (Integer which) (Pointer (type_in x.names points.to)) (Pointer (type_in x.names points.to)) scalars.Object left_is points.there (ap (type_in x.names) same ∙ points.there) (rw (points.target) refl)
      (ap (λ (t : CTy). c_scalar_of x.home.program.types (form_of_type t)) same ∙ points.kind_is) points.agree
  moves_left type left right Boolean kind left_is e is same points =
      by_types op2.Add type left right Boolean (Pointer (type_in x.names points.to)) (Pointer (type_in x.names points.to)) scalars.Object left_is points.there (ap (type_in x.names) same ∙ points.there) (rw (points.target) refl)
      (ap (λ (t : CTy). c_scalar_of x.home.program.types (form_of_type t)) same ∙ points.kind_is) points.agree
  moves_left type left right (Pointer target) kind left_is e is same points = absurd (subst IsNumberKind (sym (some_kind scalars.Object kind e)) is)
  moves_left type left right (Code params result) kind left_is e is same points = absurd (subst IsNumberKind (sym (some_kind scalars.Code kind e)) is)
  moves_left type left right Void kind left_is e is same points = cc (e)
  moves_left type left right (Array element size) kind left_is e is same points = cc (e)
  moves_left type left right (Record m y) kind left_is e is same points = cc (e)

  moved_right : (op : Op2) (type left right : CTy) → ((target : Ty) → is_target target ≡ true → moved_result op target ≡ Some (Pointer target)) → IsMoved x.home.program.types type left right → BinaryThere x op type left right
  moved_right op type left right moves is =
      let points = points_there left is.elements in
      let by = integer_number x right is.integer in
      moves_right op type left right (type_in x.names right) by.0 refl by.1 by.2 is.type_is points (moves (type_in x.names points.to) points.target)

  moved_left : (type left right : CTy) → IsMoved x.home.program.types type right left → BinaryThere x op2.Add type left right
  moved_left type left right is =
      let by = integer_number x left is.integer in
      moves_left type left right (type_in x.names left) by.0 refl by.1 by.2 is.type_is (points_there right is.elements)

  difference_there : (type left right : CTy) → IsDifference x.home.program.types type left right → BinaryThere x op2.Subtract type left right
  difference_there type left right is =
      let one = points_there left is.left_elements in
      let other = points_there right is.right_elements in
      by_types op2.Subtract type left right (Pointer (type_in x.names one.to)) (Pointer (type_in x.names other.to)) (Integer I64) (scalar_of_basic basics.Long) one.there other.there (ap (type_in x.names) is.type_is)
      (rw (one.target) refl) (ap (λ (t : CTy). c_scalar_of x.home.program.types (form_of_type t)) is.type_is) one.agree

  -- ---- comparisons of pointers

  compared_types : (op : Op2) (target : Ty) → is_comparison op ≡ true → pointers_result op target ≡ Some (Integer I32)
  compared_types op2.Multiply target e = cc (e)
  compared_types op2.Divide target e = cc (e)
  compared_types op2.Remainder target e = cc (e)
  compared_types op2.Add target e = cc (e)
  compared_types op2.Subtract target e = cc (e)
  compared_types op2.ShiftLeft target e = cc (e)
  compared_types op2.ShiftRight target e = cc (e)
  compared_types op2.Less target e = refl
  compared_types op2.Greater target e = refl
  compared_types op2.LessOrEqual target e = refl
  compared_types op2.GreaterOrEqual target e = refl
  compared_types op2.Equal target e = refl
  compared_types op2.NotEqual target e = refl
  compared_types op2.BitAnd target e = cc (e)
  compared_types op2.BitXor target e = cc (e)
  compared_types op2.BitOr target e = cc (e)

  no_difference : (op : Op2) (type : CTy) (target : Ty) → is_comparison op ≡ true → Differing (setting_in x.s) x.frame op type target
  no_difference op2.Multiply type target e = tt
  no_difference op2.Divide type target e = tt
  no_difference op2.Remainder type target e = tt
  no_difference op2.Add type target e = tt
  no_difference op2.Subtract type target e = cc (e)
  no_difference op2.ShiftLeft type target e = tt
  no_difference op2.ShiftRight type target e = tt
  no_difference op2.Less type target e = tt
  no_difference op2.Greater type target e = tt
  no_difference op2.LessOrEqual type target e = tt
  no_difference op2.GreaterOrEqual type target e = tt
  no_difference op2.Equal type target e = tt
  no_difference op2.NotEqual type target e = tt
  no_difference op2.BitAnd type target e = tt
  no_difference op2.BitXor type target e = tt
  no_difference op2.BitOr type target e = tt

  -- two pointers of one kind
  pub record AreOfKind (left right : CTy) : Type 0 where
    pub kind : Scalar
    pub left_is : scalar_of (type_in x.names left) ≡ Some kind
    pub right_is : scalar_of (type_in x.names right) ≡ Some kind
    pub pointers : (kind ≡ scalars.Object) ⊎ (kind ≡ scalars.Code)

  pointer_kinds : (to : CTy) → (scalar_of_pointer to ≡ scalars.Object) ⊎ (scalar_of_pointer to ≡ scalars.Code)
  pointer_kinds (ty (function result params variadic) is_const) = inr refl
  pointer_kinds (ty void is_const) = inl refl
  pointer_kinds (ty (basic which) is_const) = inl refl
  pointer_kinds (ty (enum_type number) is_const) = inl refl
  pointer_kinds (ty (pointer of) is_const) = inl refl
  pointer_kinds (ty (array element length) is_const) = inl refl
  pointer_kinds (ty (record_type number) is_const) = inl refl

  alike_kinds : (left right : CTy) → PointAlike x.home.program.types left right → AreOfKind left right
  alike_kinds (ty (pointer left) left_const) (ty (pointer right) right_const) are = record {
    kind = scalar_of_pointer left;
    left_is = kind_there x (ty (pointer left) left_const) (scalar_of_pointer left) refl;
    right_is = kind_there x (ty (pointer right) right_const) (scalar_of_pointer right) refl ∙ ap Some (sym (same_pointers x.home.program.types left right are));
    pointers = pointer_kinds left;
  }
  alike_kinds left right are = absurd are

  objects_compared : (op : Op2) (type left right : CTy) → is_comparison op ≡ true → type ≡ int_type → scalar_of (type_in x.names left) ≡ Some scalars.Object → scalar_of (type_in x.names right) ≡ Some scalars.Object → BinaryThere x op type left right
  objects_compared op type left right compares type_is one other =
      let left_there = pointed_is (type_in x.names left) (pointer_of_kind (type_in x.names left) one) in
      let right_there = pointed_is (type_in x.names right) (pointer_of_kind (type_in x.names right) other) in
      by_types op type left right (Pointer (pointed_type (type_in x.names left))) (Pointer (pointed_type (type_in x.names right))) (Integer I32) (scalar_of_basic basics.Int) left_there right_there (ap (type_in x.names) type_is)
      (compared_types op (pointed_type (type_in x.names left)) compares) (int_kind type type_is) (no_difference op left (pointed_type (type_in x.names left)) compares)

  codes_compared : (op : Op2) (type left right : CTy) → functions_result op ≡ Some (Integer I32) → type ≡ int_type → scalar_of (type_in x.names left) ≡ Some scalars.Code → scalar_of (type_in x.names right) ≡ Some scalars.Code → BinaryThere x op type left right
  codes_compared op type left right compares type_is one other =
      let left_there = code_type (type_in x.names left) (code_of_kind (type_in x.names left) one) in
      let right_there = code_type (type_in x.names right) (code_of_kind (type_in x.names right) other) in
      by_types op type left right (Code left_there.params left_there.result) (Code right_there.params right_there.result) (Integer I32) (scalar_of_basic basics.Int) left_there.is right_there.is (ap (type_in x.names) type_is)
      compares (int_kind type type_is) tt

  ordered_there : (op : Op2) (type left right : CTy) → is_comparison op ≡ true → AreOrdered x.home.program.types type left right → BinaryThere x op type left right
  ordered_there op type left right compares is =
      let kinds_are = alike_kinds left right is.alike in
      let left_is = kind_there x left scalars.Object is.objects in
      let same = some_kind kinds_are.kind scalars.Object (sym kinds_are.left_is ∙ left_is) in
      objects_compared op type left right compares is.type_is left_is (kinds_are.right_is ∙ ap Some same)

  equal_there : (op : Op2) (type left right : CTy) → is_comparison op ≡ true → functions_result op ≡ Some (Integer I32) → AreEqual x.home.program.types type left right → BinaryThere x op type left right
  equal_there op type left right compares too is =
      let are = alike_kinds left right is.alike in
      by_kind are.kind are.left_is are.right_is are.pointers
    where
      by_kind : (kind : Scalar) → scalar_of (type_in x.names left) ≡ Some kind → scalar_of (type_in x.names right) ≡ Some kind → (kind ≡ scalars.Object) ⊎ (kind ≡ scalars.Code) → BinaryThere x op type left right
      by_kind kind one other (inl same) = objects_compared op type left right compares is.type_is (one ∙ ap Some same) (other ∙ ap Some same)
      by_kind kind one other (inr same) = codes_compared op type left right too is.type_is (one ∙ ap Some same) (other ∙ ap Some same)

  -- ---- each operator

  add_moves : (target : Ty) → is_target target ≡ true → moved_result op2.Add target ≡ Some (Pointer target)
  add_moves target e = rw (e) refl

  subtract_moves : (target : Ty) → is_target target ≡ true → moved_result op2.Subtract target ≡ Some (Pointer target)
  subtract_moves target e = rw (e) refl

  pub binary_there : (op : Op2) (type left right : CTy) → IsBinaryOf x.home.program.types op type left right → BinaryThere x op type left right
  binary_there op2.Multiply type left right is = common_there op2.Multiply type left right refl is
  binary_there op2.Divide type left right is = common_there op2.Divide type left right refl is
  binary_there op2.Remainder type left right is = common_there op2.Remainder type left right refl is
  binary_there op2.BitAnd type left right is = common_there op2.BitAnd type left right refl is
  binary_there op2.BitXor type left right is = common_there op2.BitXor type left right refl is
  binary_there op2.BitOr type left right is = common_there op2.BitOr type left right refl is
  binary_there op2.Add type left right (inl is) = common_there op2.Add type left right refl is
  binary_there op2.Add type left right (inr (inl is)) = moved_right op2.Add type left right add_moves is
  binary_there op2.Add type left right (inr (inr is)) = moved_left type left right is
  binary_there op2.Subtract type left right (inl is) = common_there op2.Subtract type left right refl is
  binary_there op2.Subtract type left right (inr (inl is)) = moved_right op2.Subtract type left right subtract_moves is
  binary_there op2.Subtract type left right (inr (inr is)) = difference_there type left right is
  binary_there op2.ShiftLeft type left right is = shift_there op2.ShiftLeft type left right (λ one other. refl) is
  binary_there op2.ShiftRight type left right is = shift_there op2.ShiftRight type left right (λ one other. refl) is
  binary_there op2.Less type left right (inl is) = numbers_there op2.Less type left right refl is
  binary_there op2.Less type left right (inr is) = ordered_there op2.Less type left right refl is
  binary_there op2.Greater type left right (inl is) = numbers_there op2.Greater type left right refl is
  binary_there op2.Greater type left right (inr is) = ordered_there op2.Greater type left right refl is
  binary_there op2.LessOrEqual type left right (inl is) = numbers_there op2.LessOrEqual type left right refl is
  binary_there op2.LessOrEqual type left right (inr is) = ordered_there op2.LessOrEqual type left right refl is
  binary_there op2.GreaterOrEqual type left right (inl is) = numbers_there op2.GreaterOrEqual type left right refl is
  binary_there op2.GreaterOrEqual type left right (inr is) = ordered_there op2.GreaterOrEqual type left right refl is
  binary_there op2.Equal type left right (inl is) = numbers_there op2.Equal type left right refl is
  binary_there op2.Equal type left right (inr is) = equal_there op2.Equal type left right refl refl is
  binary_there op2.NotEqual type left right (inl is) = numbers_there op2.NotEqual type left right refl is
  binary_there op2.NotEqual type left right (inr is) = equal_there op2.NotEqual type left right refl refl is
