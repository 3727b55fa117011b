-- What types of objects are accessed as, and what a load of one gives.
use Rattle.std.proofs.Common.{◌≡◌, ◌⊎◌, inl, inr, ℕ, zero, suc, ◌<◌, Bool, true, false, IsTrue, List, [], ◌∷◌, length, option_map, slice_get, Option, Some, None, IfSome, IsSome, Result, Ok, Err, refl, sym, ap, subst, ◌∙◌, arith}
use Rattle.std.specs.List.{list_any}
use Rattle.cr_base.specs.Scalar.{IsInteger}
use Rattle.cr_base.specs.declared.layout.Laid.{Laid}
use Rattle.cr_base.specs.declared.rule.URule.TheVariants.{U1, U6}
use Rattle.cr_base.specs.declared.scalar.Scalar.{Scalar}
use Rattle.cr_base.specs.declared.scalar.Scalar.TheVariants.{Truth, Whole, Object, Code}
use Rattle.cx_core.specs.Conversions.{scalar_of, scalar_of_basic, scalar_of_pointer, basic_of_enum}
use Rattle.cx_core.specs.declared.ty.Basic.{Basic}
use Rattle.cx_core.specs.Layouts.{extent, layouts_of}
use Rattle.cx_core.specs.Trees.{CTy, ty, CTyForm, void, basic, enum_type, pointer, array, record_type, function, form_of_type, unqualified, CTypes, CProgram}
use Rattle.cx_core.specs.ValidTypes.{IsTypeIn, IsComplete, IsResultForm, AreTypes}
use Rattle.cx_mean.specs.Accesses.{CKind, of_scalar, of_record, scalar_kind, record_kind, kind_of, object_at, CLoaded, loaded_scalar, loaded_record, loaded_kind, loaded_from}
use Rattle.cx_mean.specs.Marks.{Marks, Range, any_overlap, bits_of_bytes, with_read}
use Rattle.cx_mean.specs.Operands.{CWhy, breaks, stuck, accessed, sequenced_after, CValue, scalar, cells}
use Rattle.cx_mean.specs.Settings.{setting_of, extent_in}
use Rattle.cx_mean.proofs.KeptNodes.{IfGiven}
use Rattle.mem_bytes.specs.Access.{and_then, part_at, value_at, record_at}
use Rattle.mem_bytes.specs.Coding.{IsScalar, scalar_size}
use Rattle.mem_bytes.specs.declared.cell.Cell.{Cell}
use Rattle.mem_bytes.specs.declared.fault.Fault.{Fault}
use Rattle.mem_bytes.specs.declared.value.Ptr.{Ptr}
use Rattle.mem_bytes.specs.declared.value.Value.{Value}
use Rattle.mem_bytes.specs.declared.value.Value.TheVariants.{Whole as Number, Null, Object as Pointer, Code as Function}
use Rattle.mem_bytes.specs.Memory.{Blocks}
use Rattle.cx_typed_values.proofs.ScalarKinds.{basic_integer}
use Rattle.cx_typed_values.specs.Outcomes.{Comes}
use Rattle.cx_typed_work.proofs.Loads.{IsKindValue, value_typed, AreRecordCells, record_typed}
use Rattle.cx_typed_work.proofs.Outcomes.{comes_and, comes_else, comes_accessed}
use Rattle.cx_typed_work.specs.Operands.{IsRecordForm, IsValueOfType, IsObjectPointer}
use Rattle.cx_typed_work.specs.Scenes.{IsTypedMemory}

-- ---- kinds of types

-- a scalar type, as it is accessed
pub record IsScalarAccess (program : CProgram) (type : CTy) : Type 0 where
  pub kind : Scalar
  pub kind_is : scalar_of program.types (form_of_type type) ≡ Some kind
  pub is_scalar : IsScalar kind
  pub access : kind_of (setting_of program) type ≡ Ok (of_scalar kind)

-- a structure or union
pub record IsRecordAccess (program : CProgram) (type : CTy) : Type 0 where
  pub laid : Laid
  pub laid_is : extent_in (setting_of program) type ≡ Some laid
  pub is_record : IsRecordForm (form_of_type type)
  pub access : kind_of (setting_of program) type ≡ Ok (of_record laid)

abbrev pub IsAccess : CProgram → CTy → Type 0
IsAccess program type = IsScalarAccess program type ⊎ IsRecordAccess program type

integer_scalar : (kind : Scalar) → IsInteger kind → IsScalar kind
integer_scalar Truth is = tt
integer_scalar (Whole width signed) is = is
integer_scalar Object is = tt
integer_scalar Code is = tt

pointer_scalar : (to : CTy) → IsScalar (scalar_of_pointer to)
pointer_scalar (ty void is_const) = tt
pointer_scalar (ty (basic which) is_const) = tt
pointer_scalar (ty (enum_type number) is_const) = tt
pointer_scalar (ty (pointer to) is_const) = tt
pointer_scalar (ty (array element length) is_const) = tt
pointer_scalar (ty (record_type number) is_const) = tt
pointer_scalar (ty (function result params variadic) is_const) = tt

-- lists of one length have an entry at the same places
pub beside : {A B : Type 0} (ones : List A) (others : List B) (number : ℕ) (one : A) → length ones ≡ length others → slice_get ones number ≡ Some one → IsSome (slice_get others number)
beside [] others number one same e = cc
beside (first ∷ ones) [] number one same e = absurd (omega (arith, same))
beside (first ∷ ones) (other ∷ others) zero one same e = refl
beside (first ∷ ones) (other ∷ others) (suc number) one same e = beside ones others number one (omega (arith, same)) e

enum_access : (program : CProgram) (number : ℕ) (is_const : Bool) (found : Option Bool) → slice_get program.types.enums number ≡ found → IsSome found → IsScalarAccess program (ty (enum_type number) is_const)
enum_access program number is_const None e some = cc
enum_access program number is_const (Some is_int) e some =
    let kind : option_map (λ (int : Bool). scalar_of_basic (basic_of_enum int)) (slice_get program.types.enums number) ≡ Some (scalar_of_basic (basic_of_enum is_int)) =
    ap (option_map (λ (int : Bool). scalar_of_basic (basic_of_enum int))) e in
    record { kind = scalar_of_basic (basic_of_enum is_int); kind_is = kind; is_scalar = integer_scalar _ (basic_integer (basic_of_enum is_int)); access = ap scalar_kind kind }

record_access : (program : CProgram) (number : ℕ) (is_const : Bool) (found : Option Laid) → extent_in (setting_of program) (ty (record_type number) is_const) ≡ found → IsSome found
    → IsRecordAccess program (ty (record_type number) is_const)
record_access program number is_const None e some = cc
record_access program number is_const (Some laid) e some = record { laid = laid; laid_is = e; is_record = tt; access = ap record_kind e }

-- a complete type that is no array is a scalar, a structure or a union
pub access_of : (program : CProgram) (unit : ℕ) (form : CTyForm) (is_const : Bool) → AreTypes program.types → IsTypeIn program.types unit (ty form is_const) → IsComplete program.types (ty form is_const)
    → IsResultForm form → IsAccess program (ty form is_const)
access_of program unit void is_const types type_in complete is = cc
access_of program unit (basic which) is_const types type_in complete is =
    inl (record { kind = scalar_of_basic which; kind_is = refl; is_scalar = integer_scalar _ (basic_integer which); access = refl })
access_of program unit (enum_type number) is_const types type_in complete is =
    inl (enum_access program number is_const (slice_get program.types.enums number) refl (beside program.types.enum_units program.types.enums number unit types.enum_units type_in))
access_of program unit (pointer to) is_const types type_in complete is =
    inl (record { kind = scalar_of_pointer to; kind_is = refl; is_scalar = pointer_scalar to; access = refl })
access_of program unit (array element length) is_const types type_in complete is = absurd is
access_of program unit (record_type number) is_const types type_in complete is =
    inr (record_access program number is_const (extent_in (setting_of program) (ty (record_type number) is_const)) refl complete)
access_of program unit (function result params variadic) is_const types type_in complete is = absurd is

-- ---- loads

abbrev pub IsLoadedOf : CProgram → CTy → CLoaded → Type 0
IsLoadedOf program type one = IsValueOfType program type one.value

comes_given : {A : Type 0} (P : A → Type 0) (found : Result A Fault) → IfGiven P found → Comes P (accessed found)
comes_given P (Ok value) is = is
comes_given P (Err fault) is = tt

comes_any : {A : Type 0} (found : Result A Fault) → Comes (λ (_ : A). Unit {0}) (accessed found)
comes_any (Ok value) = tt
comes_any (Err fault) = tt

pub sequenced_comes : (marks : Marks) (range : Range) → Comes (λ (_ : Range). Unit {0}) (sequenced_after marks range)
sequenced_comes marks range = comes_else (λ (_ : Range). Unit {0}) (any_overlap marks.still (range ∷ [])) U1 range tt

scalar_loaded : (program : CProgram) (type : CTy) (blocks : Blocks) (at : Ptr) (marks : Marks) (one : IsScalarAccess program type) → IsTypedMemory program blocks
    → Comes (IsLoadedOf program type) (loaded_scalar blocks at marks one.kind)
scalar_loaded program type blocks at marks one memory =
    comes_and (λ _. Unit {0}) (IsLoadedOf program type) (accessed (part_at blocks at (scalar_size one.kind))) _ (comes_any _) (λ _ _.
    comes_and (λ _. Unit {0}) (IsLoadedOf program type) (sequenced_after marks (bits_of_bytes at (scalar_size one.kind))) _ (sequenced_comes marks _) (λ range _.
    comes_and (IsKindValue program one.kind) (IsLoadedOf program type) (accessed (value_at blocks at one.kind)) _ (comes_given (IsKindValue program one.kind) _ (value_typed program blocks at one.kind one.is_scalar memory)) (λ value is.
    record { kind = one.kind; kind_is = one.kind_is; of_kind = is.of_kind; leads = is.leads })))

record_loaded : (program : CProgram) (type : CTy) (blocks : Blocks) (at : Ptr) (marks : Marks) (one : IsRecordAccess program type) → IsTypedMemory program blocks
    → Comes (IsLoadedOf program type) (loaded_record blocks at marks one.laid)
record_loaded program type blocks at marks one memory =
    comes_and (λ _. Unit {0}) (IsLoadedOf program type) (accessed (part_at blocks at one.laid.size)) _ (comes_any _) (λ _ _.
    comes_and (λ _. Unit {0}) (IsLoadedOf program type) (sequenced_after marks (bits_of_bytes at one.laid.size)) _ (sequenced_comes marks _) (λ range _.
    comes_and (AreRecordCells program one.laid.size) (IsLoadedOf program type) (accessed (record_at blocks at one.laid.size one.laid.align)) _ (comes_given (AreRecordCells program one.laid.size) _ (record_typed program blocks at one.laid.size one.laid.align memory)) (λ held is.
    record { is_record = one.is_record; laid = one.laid; laid_is = one.laid_is; all = is.all; typed = is.typed })))

pub object_comes : (to : Value) → IsObjectPointer to → Comes (λ (_ : Ptr). Unit {0}) (object_at to)
object_comes (Pointer at) is = tt
object_comes Null is = tt
object_comes (Number number) is = is
object_comes (Function number) is = is

kind_loaded_comes : (program : CProgram) (type : CTy) (blocks : Blocks) (at : Ptr) (marks : Marks) (kind : CKind) → kind_of (setting_of program) type ≡ Ok kind → IsAccess program type → IsTypedMemory program blocks
    → Comes (IsLoadedOf program type) (loaded_kind blocks at marks kind)
kind_loaded_comes program type blocks at marks kind e (inl one) memory =
    let same : of_scalar one.kind ≡ kind = cc (one.access, e) in
    subst (λ k. Comes (IsLoadedOf program type) (loaded_kind blocks at marks k)) same (scalar_loaded program type blocks at marks one memory)
kind_loaded_comes program type blocks at marks kind e (inr one) memory =
    let same : of_record one.laid ≡ kind = cc (one.access, e) in
    subst (λ k. Comes (IsLoadedOf program type) (loaded_kind blocks at marks k)) same (record_loaded program type blocks at marks one memory)

-- the kind of an accessed type is there
pub kind_comes : (program : CProgram) (type : CTy) → IsAccess program type → Comes (λ (kind : CKind). kind_of (setting_of program) type ≡ Ok kind) (kind_of (setting_of program) type)
kind_comes program type (inl one) = subst (λ found. Comes (λ (kind : CKind). found ≡ Ok kind) found) (sym one.access) refl
kind_comes program type (inr one) = subst (λ found. Comes (λ (kind : CKind). found ≡ Ok kind) found) (sym one.access) refl

-- a load of an object that isn't a bit-field gives a value of its type
pub load_comes : (program : CProgram) (type : CTy) (blocks : Blocks) (marks : Marks) (place : Result Value CWhy) → IsAccess program type → IsTypedMemory program blocks → Comes IsObjectPointer place
    → Comes (IsLoadedOf program type) (loaded_from (setting_of program) blocks type marks place)
load_comes program type blocks marks place access memory there =
    comes_and (λ kind. kind_of (setting_of program) type ≡ Ok kind) (IsLoadedOf program type) (kind_of (setting_of program) type) _ (kind_comes program type access) (λ kind e.
    comes_and IsObjectPointer (IsLoadedOf program type) place _ there (λ to is.
    comes_and (λ _. Unit {0}) (IsLoadedOf program type) (object_at to) _ (object_comes to is) (λ at _. kind_loaded_comes program type blocks at marks kind e access memory)))
