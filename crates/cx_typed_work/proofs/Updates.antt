-- Steps of `op=`, `++` and `--`: the load, the operator, the conversion back and the store (ISO C99, 6.5.2.4, 6.5.3.1, 6.5.16.2).
use Rattle.std.proofs.Common.{◌≡◌, ◌⊎◌, inl, inr, Bool, true, false, if◌then◌else◌, Some, None, pos, Result, Ok, refl, sym, subst, rules}
use Rattle.std.proofs.lemmas.Int.{ints}
use Rattle.cr_base.specs.declared.refusal.Place.{Place}
use Rattle.cx_core.specs.Conversions.{scalar_of_basic, promoted, IsIntegerType, IsPromoted}
use Rattle.cx_core.specs.declared.expr.Op2.{Op2}
use Rattle.cx_core.specs.declared.expr.Op2.TheVariants.{Add, Subtract}
use Rattle.cx_core.specs.declared.ty.Basic.{Basic}
use Rattle.cx_core.specs.declared.ty.Basic.TheVariants as basics
use Rattle.cx_core.specs.Trees.{CTy, ty, basic, unqualified, CTypes, CProgram, CExpr, expr, CForm, null, assign_by, step, type_of}
use Rattle.cx_core.specs.Typing.{CHome, IsTyped, IsLvalue, IsElementPointer, IsConversion, IsBinaryOf, int_type, width_of}
use Rattle.cx_core.specs.ValidTypes.{IsTypeIn, IsModifiable, AreTypes}
use Rattle.cx_mean.specs.Accesses.{loaded, stored}
use Rattle.cx_mean.specs.Marks.{Marks}
use Rattle.cx_mean.specs.Nodes.{done, update_computed, update_converted, update_value, update_stored}
use Rattle.cx_mean.specs.Operands.{CWhy, CValue, scalar, cells, names, designates, designates_bits, missing, Frame, scalar_value}
use Rattle.cx_mean.specs.Settings.{CSetting, setting_of}
use Rattle.cx_mean.specs.Values.{CTyped, binary_value, converted_value}
use Rattle.cx_mean.specs.Work.{CUpdate, CStage}
use Rattle.mem_bytes.specs.Access.{and_then}
use Rattle.mem_bytes.specs.Coding.{IsValueOf}
use Rattle.mem_bytes.specs.declared.value.Value.{Value}
use Rattle.mem_bytes.specs.declared.value.Value.TheVariants.{Whole as Number, Null, Object as Pointer, Code as Function}
use Rattle.mem_bytes.specs.Memory.{Blocks}
use Rattle.cx_typed_values.proofs.BinaryValues.{binary_values}
use Rattle.cx_typed_values.specs.Outcomes.{Comes}
use Rattle.cx_typed_values.specs.Values.{IsScalarOf, AreObjects}
use Rattle.cx_typed_work.proofs.Accesses.{IsLoadedOf}
use Rattle.cx_typed_work.proofs.Computing.{IsRun, assigned_run, assigned_binary, to_computes, to_target, computes_in, stepped_run, promoted_basic_type}
use Rattle.cx_typed_work.proofs.Lvalues.{load_from_lvalue, store_to_lvalue}
use Rattle.cx_typed_work.proofs.Nodes.{IsDoneOf}
use Rattle.cx_typed_work.proofs.Operators.{IsConvertedIn, converted_comes, scalar_out, scalar_in}
use Rattle.cx_typed_work.proofs.Outcomes.{comes_and, comes_as}
use Rattle.cx_typed_work.proofs.Stores.{IsStoredOf, IsStorable}
use Rattle.cx_typed_work.proofs.Twos.{binary_no_code}
use Rattle.cx_typed_work.specs.Operands.{IsScalarIn, IsValueOfType, IsPlaceOf}
use Rattle.cx_typed_work.specs.Scenes.{IsScene}
use Rattle.cx_typed_work.specs.Works.{CChanges, changes_of, IsRightOf, IsUpdateOf}

-- ---- conversions of scalar values

scalar_after : (program : CProgram) (type : CTy) (value : CValue) → IsConvertedIn program type value → Comes (IsScalarIn program type) (scalar_value value)
scalar_after program type (scalar value) is = is
scalar_after program type missing is = tt
scalar_after program type (cells held from) is = absurd is
scalar_after program type (names number) is = absurd is
scalar_after program type (designates to) is = absurd is
scalar_after program type (designates_bits at bit width) is = absurd is

value_converted : (home : CHome) (place : Place) (from type : CTy) (blocks : Blocks) (old : Value) → AreTypes home.program.types → IsTypeIn home.program.types home.unit type → IsConversion home.program.types from type
    → IsScalarIn home.program from old → Comes (IsConvertedIn home.program type) (converted_value (setting_of home.program) type blocks (scalar old))
value_converted home place from (ty form is_const) blocks old types there conversion given =
    converted_comes home.program home.unit blocks (expr from place null) form is_const (scalar old) types there conversion (inl given)

-- ---- what is changed

-- what a typed `op=`, `++` or `--` changes: a modifiable lvalue, by an operator that takes its value and the operand
pub record IsChanging (home : CHome) (type : CTy) (change : CChanges) : Type 0 where
  pub target_is : IsLvalue home change.target
  pub target_in : IsTypeIn home.program.types home.unit (unqualified (type_of change.target))
  pub modifiable : IsModifiable home.program.types (type_of change.target)
  pub type_is : type ≡ unqualified (type_of change.target)
  pub run : IsRun home.program.types (type_of change.target) change.computes
  pub operator : (blocks : Blocks) (left : Value) (right : CTyped) → AreObjects blocks → IsScalarIn home.program change.computes left → IsRightOf home.program change.right right
      → Comes (IsScalarIn home.program change.computes) (binary_value (setting_of home.program) change.op change.computes blocks (record { type = change.computes; value = left }) right)

lvalue_type_in : (home : CHome) (node : CExpr) → IsLvalue home node → IsTypeIn home.program.types home.unit (type_of node)
lvalue_type_in home (expr type place form) is = is.0

-- the operator over scalar values
operator_comes : (program : CProgram) (op : Op2) (type right_type : CTy) (blocks : Blocks) (left right : Value) → AreObjects blocks → IsBinaryOf program.types op type type right_type → IsScalarIn program type left → IsScalarOf program.types right_type right
    → Comes (IsScalarIn program type) (binary_value (setting_of program) op type blocks (record { type = type; value = left }) (record { type = right_type; value = right }))
operator_comes program op type right_type blocks left right objects is first second =
    comes_as (IsScalarOf program.types type) (IsScalarIn program type) _
    (binary_values program op type type right_type blocks left right objects is (scalar_out program type left first) second)
    (λ new good. scalar_in program type new (binary_no_code program.types op type type right_type is) good)

-- of a compound assignment
pub assign_changing : (home : CHome) (type : CTy) (place : Place) (op : Op2) (computes : CTy) (target value : CExpr) → IsTyped home (expr type place (assign_by op computes target value))
    → IsChanging home type (record { target = target; op = op; computes = computes; right = Some (type_of value); is_postfix = false })
assign_changing home type place op computes target value is = record {
  target_is = is.1.0;
  target_in = subst (IsTypeIn home.program.types home.unit) is.1.2.type_is is.0;
  modifiable = is.1.2.modifiable;
  type_is = is.1.2.type_is;
  run = assigned_run home.program.types op (type_of target) computes (type_of value) (width_of target) is.1.2.computed;
  operator = λ blocks left right objects first second.
      subst (λ r. Comes (IsScalarIn home.program computes) (binary_value (setting_of home.program) op computes blocks (record { type = computes; value = left }) (record { type = r; value = right.value }))) (sym second.0)
      (operator_comes home.program op computes (type_of value) blocks left right.value objects
      (assigned_binary home.program.types op computes (promoted home.program.types (type_of target) (width_of target)) (type_of value) is.1.2.computed) first
      (scalar_out home.program (type_of value) right.value second.1));
}

-- ---- the 1 of `++` and `--`

one_of_kind : (which : Basic) → IsValueOf (scalar_of_basic which) (Number (pos 1))
one_of_kind basics.Truth = search (rules, ints)
one_of_kind basics.Char = search (rules, ints)
one_of_kind basics.SignedChar = search (rules, ints)
one_of_kind basics.UnsignedChar = search (rules, ints)
one_of_kind basics.Short = search (rules, ints)
one_of_kind basics.UnsignedShort = search (rules, ints)
one_of_kind basics.Int = search (rules, ints)
one_of_kind basics.Unsigned = search (rules, ints)
one_of_kind basics.Long = search (rules, ints)
one_of_kind basics.UnsignedLong = search (rules, ints)
one_of_kind basics.LongLong = search (rules, ints)
one_of_kind basics.UnsignedLongLong = search (rules, ints)

one_of_basic : (types : CTypes) (which : Basic) → IsScalarOf types (ty (basic which) false) (Number (pos 1))
one_of_basic types which = record { kind = scalar_of_basic which; kind_is = refl; of_kind = one_of_kind which; near = tt }

one_of_promoted : (types : CTypes) (type : CTy) → IsPromoted type → IsScalarOf types type (Number (pos 1))
one_of_promoted types type is = let one = promoted_basic_type type is in subst (λ t. IsScalarOf types t (Number (pos 1))) (sym one.same) (one_of_basic types one.which)

-- the type of a number on the right says nothing
right_type_free : (setting : CSetting) (op : Op2) (type : CTy) (blocks : Blocks) (left : Value) (number : _) (one other : CTy)
    → binary_value setting op type blocks (record { type = type; value = left }) (record { type = one; value = Number number })
    ≡ binary_value setting op type blocks (record { type = type; value = left }) (record { type = other; value = Number number })
right_type_free setting op type blocks (Number n) number one other = refl
right_type_free setting op type blocks Null number one other = refl
right_type_free setting op type blocks (Pointer at) number one other = refl
right_type_free setting op type blocks (Function n) number one other = refl

-- an operator that moves a value by 1
record IsByOne (types : CTypes) (op : Op2) (type : CTy) : Type 0 where
  of_number : IsPromoted type → IsBinaryOf types op type type type
  of_pointer : IsElementPointer types type → IsBinaryOf types op type type int_type

up_by_one : (types : CTypes) (type : CTy) → IsByOne types Add type
up_by_one types type = record {
  of_number = λ is. inl (record { promoted = is; left_is = refl; right_is = refl });
  of_pointer = λ is. inr (inl (record { elements = is; integer = refl; type_is = refl }));
}

down_by_one : (types : CTypes) (type : CTy) → IsByOne types Subtract type
down_by_one types type = record {
  of_number = λ is. inl (record { promoted = is; left_is = refl; right_is = refl });
  of_pointer = λ is. inr (inl (record { elements = is; integer = refl; type_is = refl }));
}

one_comes : (program : CProgram) (op : Op2) (target type right_type : CTy) (blocks : Blocks) (left : Value) → AreObjects blocks → IsByOne program.types op type → IsRun program.types target type → IsScalarIn program type left
    → Comes (IsScalarIn program type) (binary_value (setting_of program) op type blocks (record { type = type; value = left }) (record { type = right_type; value = Number (pos 1) }))
one_comes program op target type right_type blocks left objects by_one (inl run) first =
    subst (Comes (IsScalarIn program type)) (right_type_free (setting_of program) op type blocks left (pos 1) type right_type)
    (operator_comes program op type type blocks left (Number (pos 1)) objects (by_one.of_number run.promoted_is) first (one_of_promoted program.types type run.promoted_is))
one_comes program op target type right_type blocks left objects by_one (inr run) first =
    subst (Comes (IsScalarIn program type)) (right_type_free (setting_of program) op type blocks left (pos 1) int_type right_type)
    (operator_comes program op type int_type blocks left (Number (pos 1)) objects (by_one.of_pointer run.elements) first (one_of_basic program.types basics.Int))

-- of `++` and `--`
pub step_changing : (home : CHome) (type : CTy) (place : Place) (up post : Bool) (on : CExpr) → IsTyped home (expr type place (step up post on)) → (change : CChanges)
    → changes_of home (expr type place (step up post on)) ≡ Some change → IsChanging home type change
step_changing home type place up post on is change e =
    let width = width_of on in
    let run : IsRun home.program.types (type_of on) (promoted home.program.types (type_of on) width) =
    stepped_run home.program.types (type_of on) width (subst (λ t. IsIntegerType home.program.types t ⊎ IsElementPointer home.program.types t) is.1.1.type_is is.1.1.stepped) in
    by up (some_change up e) run
  where
    change_by_one : Bool → CChanges
    change_by_one way = record { target = on; op = if way then Add else Subtract; computes = promoted home.program.types (type_of on) (width_of on); right = None; is_postfix = post }

    some_change : (way : Bool) → changes_of home (expr type place (step way post on)) ≡ Some change → change_by_one way ≡ change
    some_change true same = cc (same)
    some_change false same = cc (same)

    changing : (op : Op2) → IsByOne home.program.types op (promoted home.program.types (type_of on) (width_of on)) → IsRun home.program.types (type_of on) (promoted home.program.types (type_of on) (width_of on))
        → IsChanging home type (record { target = on; op = op; computes = promoted home.program.types (type_of on) (width_of on); right = None; is_postfix = post })
    changing op by_one run = record {
      target_is = is.1.0;
      target_in = subst (IsTypeIn home.program.types home.unit) is.1.1.type_is is.0;
      modifiable = is.1.1.modifiable;
      type_is = is.1.1.type_is;
      run = run;
      operator = λ blocks left right objects first second.
          subst (λ v. Comes (IsScalarIn home.program (promoted home.program.types (type_of on) (width_of on)))
          (binary_value (setting_of home.program) op (promoted home.program.types (type_of on) (width_of on)) blocks (record { type = promoted home.program.types (type_of on) (width_of on); value = left }) (record { type = right.type; value = v })))
          (sym second)
          (one_comes home.program op (type_of on) (promoted home.program.types (type_of on) (width_of on)) right.type blocks left objects by_one run first);
    }

    by : (way : Bool) → change_by_one way ≡ change → IsRun home.program.types (type_of on) (promoted home.program.types (type_of on) (width_of on)) → IsChanging home type change
    by true same run = subst (IsChanging home type) same (changing Add (up_by_one home.program.types _) run)
    by false same run = subst (IsChanging home type) same (changing Subtract (down_by_one home.program.types _) run)

-- ---- the stages

-- what an operator computes with a converted left operand
abbrev computing : CProgram → Op2 → CTy → Blocks → Value → CTyped → Result Value CWhy
computing program op computes blocks old right =
    and_then (converted_value (setting_of program) computes blocks (scalar old)) (λ value.
    and_then (scalar_value value) (λ left. binary_value (setting_of program) op computes blocks (record { type = computes; value = left }) right))

pub computed_comes : (home : CHome) (node : CExpr) (type : CTy) (place : Place) (blocks : Blocks) (update : CUpdate) (stage : CStage) (is : IsUpdateOf home node update stage) → AreTypes home.program.types → AreObjects blocks
    → IsChanging home type is.change → Comes (IsScalarIn home.program is.change.computes) (update_computed (setting_of home.program) blocks update)
computed_comes home node type place blocks update stage is types objects changing =
    let change = is.change in
    let target = type_of change.target in
    let Goal = IsScalarIn home.program change.computes in
    subst (λ o. Comes Goal (computing home.program o update.computes blocks update.old update.right)) (sym is.op_is)
    (subst (λ c. Comes Goal (computing home.program change.op c blocks update.old update.right)) (sym is.computes_is)
    (comes_and (IsConvertedIn home.program change.computes) Goal (converted_value (setting_of home.program) change.computes blocks (scalar update.old)) _
    (value_converted home place (unqualified target) change.computes blocks update.old types
    (computes_in home.program.types home.unit target change.computes changing.run (lvalue_type_in home change.target changing.target_is)) (to_computes home.program.types target change.computes changing.run) is.old)
    (λ value fits. comes_and Goal Goal (scalar_value value) _ (scalar_after home.program change.computes value fits) (λ left good. changing.operator blocks left update.right objects good is.right))))

pub converted_back : (home : CHome) (node : CExpr) (type : CTy) (place : Place) (blocks : Blocks) (update : CUpdate) (stage : CStage) (new : Value) (is : IsUpdateOf home node update stage) → AreTypes home.program.types
    → IsChanging home type is.change → IsScalarIn home.program is.change.computes new
    → Comes (IsScalarIn home.program (unqualified (type_of is.change.target))) (update_converted (setting_of home.program) blocks update new)
converted_back home node type place blocks update stage new is types changing fits =
    let change = is.change in
    let target = type_of change.target in
    let Goal = IsScalarIn home.program (unqualified target) in
    subst (λ t. Comes Goal (and_then (converted_value (setting_of home.program) t blocks (scalar new)) scalar_value)) (sym is.target_type_is)
    (comes_and (IsConvertedIn home.program (unqualified target)) Goal (converted_value (setting_of home.program) (unqualified target) blocks (scalar new)) scalar_value
    (value_converted home place change.computes (unqualified target) blocks new types changing.target_in (to_target home.program.types target change.computes changing.run) fits)
    (λ value good. scalar_after home.program (unqualified target) value good))

-- the store to a modifiable lvalue
store_comes : (home : CHome) (frame : Frame) (blocks : Blocks) (target : CExpr) (value new : CValue) (marks : Marks) → IsScene home frame blocks → IsLvalue home target → IsPlaceOf target value
    → IsModifiable home.program.types (type_of target) → IsStorable home.program (unqualified (type_of target)) new
    → Comes (IsStoredOf home.program (unqualified (type_of target)) blocks) (stored (setting_of home.program) frame blocks (unqualified (type_of target)) value new marks)
store_comes home frame blocks (expr (ty form is_const) there node) value new marks scene is place modifiable fits =
    store_to_lvalue home frame blocks form is_const there node value new marks scene is place modifiable.complete modifiable.no_array fits

pub load_comes : (home : CHome) (frame : Frame) (blocks : Blocks) (target : CExpr) (value : CValue) (marks : Marks) → IsScene home frame blocks → IsLvalue home target → IsPlaceOf target value
    → IsModifiable home.program.types (type_of target)
    → Comes (IsLoadedOf home.program (unqualified (type_of target))) (loaded (setting_of home.program) frame blocks (unqualified (type_of target)) value marks)
load_comes home frame blocks (expr (ty form is_const) there node) value marks scene is place modifiable =
    load_from_lvalue home frame blocks form is_const there node value marks scene is place modifiable.complete modifiable.no_array

update_gives : (program : CProgram) (type : CTy) (post : Bool) (old : Value) (new : CValue) → IsScalarIn program type old → IsValueOfType program type new → IsValueOfType program type (update_value post old new)
update_gives program type true old new first second = first
update_gives program type false old new first second = second

pub stored_back : (home : CHome) (frame : Frame) (blocks : Blocks) (type : CTy) (place : Place) (form : CForm) (update : CUpdate) (stage : CStage) (marks : Marks) (new : Value) (is : IsUpdateOf home (expr type place form) update stage)
    → IsScene home frame blocks → IsTyped home (expr type place form) → IsChanging home type is.change → IsScalarIn home.program (unqualified (type_of is.change.target)) new
    → Comes (IsDoneOf home (expr type place form) blocks) (update_stored (setting_of home.program) frame blocks update marks new)
stored_back home frame blocks type place form update stage marks new is scene typed changing fits =
    let target = is.change.target in
    let plain = unqualified (type_of target) in
    let node = expr type place form in
    subst (λ t. Comes (IsDoneOf home node blocks)
    (and_then (stored (setting_of home.program) frame blocks t update.target (scalar new) marks) (λ one. Ok (done (update_value update.is_postfix update.old one.value) one.marks one.blocks)))) (sym is.target_type_is)
    (comes_and (IsStoredOf home.program plain blocks) (IsDoneOf home node blocks) (stored (setting_of home.program) frame blocks plain update.target (scalar new) marks) _
    (store_comes home frame blocks target update.target (scalar new) marks scene changing.target_is is.target changing.modifiable (inl fits)) (λ one good.
    record {
      given = inr (
        typed,
        inl (subst (λ t. IsValueOfType home.program t (update_value update.is_postfix update.old one.value)) (sym changing.type_is)
            (update_gives home.program plain update.is_postfix update.old one.value is.old good.given)),
      );
      memory = good.memory;
      shapes = good.shapes;
    }))
