-- The types of structures and unions that expressions give are complete (ISO C99, 6.2.5p20).
use Rattle.std.proofs.Common.{◌≡◌, ◌⊎◌, inl, inr, ℕ, Bool, true, false, ◌||◌, Option, Some, None, IsSome, refl, sym, ap, subst, ◌∙◌}
use Rattle.std.specs.Prelude.{IfSome, IsTrue}
use Rattle.cr_base.specs.declared.layout.Laid.{Laid}
use Rattle.cr_base.specs.declared.scalar.Scalar.{Scalar}
use Rattle.cx_core.specs.Conversions.{scalar_of as c_scalar_of, promoted, IsPromoted, IsIntegerType}
use Rattle.cx_core.specs.declared.expr.Op2.{Op2}
use Rattle.cx_core.specs.declared.expr.Op2.TheVariants as op2
use Rattle.cx_core.specs.Trees.{CTy, ty, CTyForm, void, basic, enum_type, pointer, array, record_type, function, form_of_type, unqualified, CExpr, expr, whole, null, object, code, load, deref, member, address, convert, unary, binary, and, or, cond, assign, assign_by, step, call, call_by, comma, literal, CExprs, type_of, CTypes, CProgram}
use Rattle.cx_core.specs.Typing.{CHome, types_of_home, CCallee, callee_with, IsTyped, IsCallOf, IsCalleeOf, IsCallBy, IsResult, IsElementPointer, IsShift, AreJoined, IsComputedIn, IsAssignByOf, width_of}
use Rattle.cx_core.specs.ValidTypes.{IsComplete}
use Rattle.cx_mean.specs.Settings.{extent_in}
use Rattle.cx_typed_work.specs.Operands.{may_lack}
use Rattle.lift_calls.specs.Programs.{setting_in}
use Rattle.lift_does.proofs.Around.{Around}
use Rattle.lift_held.specs.Held.{is_record}

-- a scalar type is no structure or union
pub scalar_no_record : (types : CTypes) (type : CTy) (kind : Scalar) → c_scalar_of types (form_of_type type) ≡ Some kind → is_record type ≡ false
scalar_no_record types (ty (record_type number) is_const) kind e = cc (e)
scalar_no_record types (ty void is_const) kind e = refl
scalar_no_record types (ty (basic which) is_const) kind e = refl
scalar_no_record types (ty (enum_type number) is_const) kind e = refl
scalar_no_record types (ty (pointer to) is_const) kind e = refl
scalar_no_record types (ty (array element length) is_const) kind e = refl
scalar_no_record types (ty (function result params variadic) is_const) kind e = refl

pub record_no_void : (type : CTy) → is_record type ≡ true → form_of_type type ≡ void → ⊥
record_no_void (ty (record_type number) is_const) e f = cc (f)
record_no_void (ty void is_const) e f = cc (e)
record_no_void (ty (basic which) is_const) e f = cc (e)
record_no_void (ty (enum_type number) is_const) e f = cc (e)
record_no_void (ty (pointer to) is_const) e f = cc (e)
record_no_void (ty (array element length) is_const) e f = cc (e)
record_no_void (ty (function result params variadic) is_const) e f = cc (e)

module _ (types : CTypes) where
  plain_complete : (form : CTyForm) (is_const : Bool) → IsComplete types (ty form is_const) → IsComplete types (ty form false)
  plain_complete form is_const is = is

  result_complete : (type result : CTy) → type ≡ unqualified result → IsResult types result → is_record type ≡ true → IsComplete types type
  result_complete type (ty void is_const) same is of_record = absurd (record_no_void type of_record (ap form_of_type same))
  result_complete type (ty (basic which) is_const) same is of_record = subst (IsComplete types) (sym same) (plain_complete (basic which) is_const is)
  result_complete type (ty (enum_type number) is_const) same is of_record = subst (IsComplete types) (sym same) (plain_complete (enum_type number) is_const is)
  result_complete type (ty (pointer to) is_const) same is of_record = subst (IsComplete types) (sym same) (plain_complete (pointer to) is_const is)
  result_complete type (ty (array element length) is_const) same is of_record = subst (IsComplete types) (sym same) (plain_complete (array element length) is_const is)
  result_complete type (ty (record_type number) is_const) same is of_record = subst (IsComplete types) (sym same) (plain_complete (record_type number) is_const is)
  result_complete type (ty (function result params variadic) is_const) same is of_record = subst (IsComplete types) (sym same) (plain_complete (function result params variadic) is_const is)

  call_complete : (type : CTy) (args : CExprs) (form : CTyForm) → IsCallOf types type args form → is_record type ≡ true → IsComplete types type
  call_complete type args (function result params variadic) is of_record = result_complete type result is.0 is.1 of_record
  call_complete type args void is of_record = absurd is
  call_complete type args (basic which) is of_record = absurd is
  call_complete type args (enum_type number) is of_record = absurd is
  call_complete type args (pointer to) is of_record = absurd is
  call_complete type args (array element length) is of_record = absurd is
  call_complete type args (record_type number) is of_record = absurd is

  pointer_complete : (type : CTy) (args : CExprs) (pointer_type : CTy) → IsCallBy types type args pointer_type → is_record type ≡ true → IsComplete types type
  pointer_complete type args (ty (pointer to) is_const) is of_record = call_complete type args (form_of_type to) is of_record
  pointer_complete type args (ty void is_const) is of_record = absurd is
  pointer_complete type args (ty (basic which) is_const) is of_record = absurd is
  pointer_complete type args (ty (enum_type number) is_const) is of_record = absurd is
  pointer_complete type args (ty (array element length) is_const) is of_record = absurd is
  pointer_complete type args (ty (record_type number) is_const) is of_record = absurd is
  pointer_complete type args (ty (function result params variadic) is_const) is of_record = absurd is

callee_complete : (home : CHome) (type : CTy) (args : CExprs) (found : Option CCallee) → IsSome found → IfSome found (IsCalleeOf home type args) → is_record type ≡ true → IsComplete (types_of_home home) type
callee_complete home type args None there is of_record = cc (there)
callee_complete home type args (Some callee) there is of_record = call_complete (types_of_home home) type args (form_of_type is.visible) is.call of_record

-- where a value may be missing
pub lack_complete : (home : CHome) (e : CExpr) → IsTyped home e → IsTrue (may_lack e) → is_record (type_of e) ≡ true → IsComplete (types_of_home home) (type_of e)
lack_complete home (expr type place (call callee args)) typed lacks of_record = callee_complete home type args (callee_with callee home.program) typed.1.1.0 typed.1.1.1 of_record
lack_complete home (expr type place (call_by callee args)) typed lacks of_record = pointer_complete (types_of_home home) type args (type_of callee) typed.1.2 of_record
lack_complete home (expr (ty (record_type number) is_const) place (convert value)) typed lacks of_record = cc (lacks)
lack_complete home (expr (ty void is_const) place (convert value)) typed lacks of_record = cc (of_record)
lack_complete home (expr (ty (basic which) is_const) place (convert value)) typed lacks of_record = cc (of_record)
lack_complete home (expr (ty (enum_type number) is_const) place (convert value)) typed lacks of_record = cc (of_record)
lack_complete home (expr (ty (pointer to) is_const) place (convert value)) typed lacks of_record = cc (of_record)
lack_complete home (expr (ty (array element length) is_const) place (convert value)) typed lacks of_record = cc (of_record)
lack_complete home (expr (ty (function result params variadic) is_const) place (convert value)) typed lacks of_record = cc (of_record)
lack_complete home (expr type place (cond test first second)) typed lacks of_record =
    by (may_lack first) lacks
    (λ it. subst (IsComplete (types_of_home home)) typed.1.3.first_is (lack_complete home first typed.1.1 it (subst (λ (t : CTy). is_record t ≡ true) (sym typed.1.3.first_is) of_record)))
    (λ it. subst (IsComplete (types_of_home home)) typed.1.3.second_is (lack_complete home second typed.1.2 it (subst (λ (t : CTy). is_record t ≡ true) (sym typed.1.3.second_is) of_record)))
  where
    by : (one : Bool) → IsTrue (one || may_lack second) → (IsTrue one → IsComplete (types_of_home home) type) → (IsTrue (may_lack second) → IsComplete (types_of_home home) type) → IsComplete (types_of_home home) type
    by true it left right = left refl
    by false it left right = right it
lack_complete home (expr type place (comma first second)) typed lacks of_record =
    subst (IsComplete (types_of_home home)) (sym typed.1.2) (lack_complete home second typed.1.1 lacks (subst (λ (t : CTy). is_record t ≡ true) typed.1.2 of_record))
lack_complete home (expr type place (whole value)) typed lacks of_record = cc (lacks)
lack_complete home (expr type place null) typed lacks of_record = cc (lacks)
lack_complete home (expr type place (object number)) typed lacks of_record = cc (lacks)
lack_complete home (expr type place (code number)) typed lacks of_record = cc (lacks)
lack_complete home (expr type place (load from)) typed lacks of_record = cc (lacks)
lack_complete home (expr type place (deref from)) typed lacks of_record = cc (lacks)
lack_complete home (expr type place (member of spot)) typed lacks of_record = cc (lacks)
lack_complete home (expr type place (address of)) typed lacks of_record = cc (lacks)
lack_complete home (expr type place (unary op value)) typed lacks of_record = cc (lacks)
lack_complete home (expr type place (binary op left right)) typed lacks of_record = cc (lacks)
lack_complete home (expr type place (and left right)) typed lacks of_record = cc (lacks)
lack_complete home (expr type place (or left right)) typed lacks of_record = cc (lacks)
lack_complete home (expr type place (assign target value)) typed lacks of_record = cc (lacks)
lack_complete home (expr type place (assign_by op computes target value)) typed lacks of_record = cc (lacks)
lack_complete home (expr type place (step up post on)) typed lacks of_record = cc (lacks)
lack_complete home (expr type place (literal number puts)) typed lacks of_record = cc (lacks)

some_is : {A : Type 0} (found : Option A) → IsSome found → (one : A) × (found ≡ Some one)
some_is (Some one) is = (one, refl)
some_is None is = cc (is)

module _ (x : Around) where
  pub extent_there : (type : CTy) → IsComplete (types_of_home x.home) type → (laid : Laid) × (extent_in (setting_in x.s) type ≡ Some laid)
  extent_there type is = some_is (extent_in (setting_in x.s) type) (subst (λ (program : CProgram). IsComplete program.types type) x.means.program is)

-- ---- what computes is no structure or union

joined_clash : (number : ℕ) (computes value : CTy) → AreJoined computes (ty (record_type number) false) value → ⊥
joined_clash number computes value is = let odd = subst IsPromoted (sym is.common) is.promoted in cc (odd.0)

shift_clash : (number : ℕ) (computes value : CTy) → IsShift computes (ty (record_type number) false) value → ⊥
shift_clash number computes value is = let odd = subst IsPromoted (sym is.left_is) is.promoted in cc (odd.0)

computed_clash : (types : CTypes) (op : Op2) (number : ℕ) (computes value : CTy) → IsComputedIn types op computes (ty (record_type number) false) value → ⊥
computed_clash types op2.Multiply number computes value is = joined_clash number computes value is
computed_clash types op2.Divide number computes value is = joined_clash number computes value is
computed_clash types op2.Remainder number computes value is = joined_clash number computes value is
computed_clash types op2.Add number computes value (inl is) = joined_clash number computes value is
computed_clash types op2.Add number computes value (inr is) = is.elements
computed_clash types op2.Subtract number computes value (inl is) = joined_clash number computes value is
computed_clash types op2.Subtract number computes value (inr is) = is.elements
computed_clash types op2.ShiftLeft number computes value is = shift_clash number computes value is
computed_clash types op2.ShiftRight number computes value is = shift_clash number computes value is
computed_clash types op2.BitAnd number computes value is = joined_clash number computes value is
computed_clash types op2.BitXor number computes value is = joined_clash number computes value is
computed_clash types op2.BitOr number computes value is = joined_clash number computes value is
computed_clash types op2.Less number computes value is = is
computed_clash types op2.Greater number computes value is = is
computed_clash types op2.LessOrEqual number computes value is = is
computed_clash types op2.GreaterOrEqual number computes value is = is
computed_clash types op2.Equal number computes value is = is
computed_clash types op2.NotEqual number computes value is = is

computed_no_record : (types : CTypes) (op : Op2) (computes target : CTy) (width : Option ℕ) (value : CTy) → IsComputedIn types op computes (promoted types target width) value → is_record target ≡ false
computed_no_record types op computes (ty (record_type number) is_const) width value is = absurd (computed_clash types op number computes value is)
computed_no_record types op computes (ty void is_const) width value is = refl
computed_no_record types op computes (ty (basic which) is_const) width value is = refl
computed_no_record types op computes (ty (enum_type number) is_const) width value is = refl
computed_no_record types op computes (ty (pointer to) is_const) width value is = refl
computed_no_record types op computes (ty (array element length) is_const) width value is = refl
computed_no_record types op computes (ty (function result params variadic) is_const) width value is = refl

unqualified_record : (type : CTy) → is_record (unqualified type) ≡ is_record type
unqualified_record (ty form is_const) = refl

pub assign_by_no_record : (types : CTypes) (op : Op2) (type computes : CTy) (target : CExpr) (value : CTy) → IsAssignByOf types op type computes target value → is_record type ≡ false
assign_by_no_record types op type computes target value is =
    ap is_record is.type_is ∙ (unqualified_record (type_of target) ∙ computed_no_record types op computes (type_of target) (width_of target) value is.computed)

pub step_no_record : (types : CTypes) (type : CTy) → IsIntegerType types type ⊎ IsElementPointer types type → is_record type ≡ false
step_no_record types (ty (record_type number) is_const) (inl is) = cc (is)
step_no_record types (ty (record_type number) is_const) (inr is) = absurd is
step_no_record types (ty void is_const) is = refl
step_no_record types (ty (basic which) is_const) is = refl
step_no_record types (ty (enum_type number) is_const) is = refl
step_no_record types (ty (pointer to) is_const) is = refl
step_no_record types (ty (array element length) is_const) is = refl
step_no_record types (ty (function result params variadic) is_const) is = refl
