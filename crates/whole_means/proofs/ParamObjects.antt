-- The parameters of a function of C: objects of types that are accessed as scalars, or as structures and unions (ISO C99, 6.7.5.3 and 6.9.1p7).
use Rattle.std.proofs.Common.{◌≡◌, ℕ, Bool, true, false, List, [], ◌∷◌, Option, Some, None, Ok, IsSome, IfSome, refl, sym, ap, subst, inl, inr}
use Rattle.cr_base.specs.declared.layout.Laid.{Laid}
use Rattle.cr_base.specs.declared.scalar.Scalar.{Scalar}
use Rattle.cx_core.specs.Conversions.{scalar_of}
use Rattle.cx_core.specs.Layouts.{extent, layouts_of}
use Rattle.cx_core.specs.Linked.{home_of}
use Rattle.cx_core.specs.Statements.{AreParams, AreParamsOf, IsDefinitionOf, IsParamObject}
use Rattle.cx_core.specs.Trees.{CFun, CObject, CTy, ty, CTyForm, void, basic, enum_type, pointer, array, record_type, function, CParams, unlisted, listed, CTys, no_types, more_types, CProgram, form_of_type, unqualified}
use Rattle.cx_core.specs.Typing.{object_with}
use Rattle.cx_core.specs.ValidTypes.{AreParamsIn, AreTypes, AreTypesIn, IsComplete, IsParamForm, IsResultForm, IsTypeIn}
use Rattle.cx_mean.specs.Accesses.{kind_of, of_record, of_scalar, record_kind, scalar_kind}
use Rattle.cx_mean.specs.Settings.{setting_of}
use Rattle.cx_typed_work.proofs.Accesses.{IsAccess, IsScalarAccess, access_of}
use Rattle.mem_bytes.specs.Coding.{IsScalar}
use Rattle.whole_names.specs.FunctionNames.{is_record}

-- ---- parameters

pub record IsParamOf (program : CProgram) (number : ℕ) : Type 0 where
  pub one : CObject
  pub object_is : object_with number program.objects ≡ Some one
  pub laid : Laid
  pub laid_is : extent (layouts_of program.types) one.type ≡ Some laid
  pub form : IsParamForm (form_of_type one.type)

abbrev pub AreAllParams : CProgram → List ℕ → Type 0
AreAllParams program [] = Unit {0}
AreAllParams program (number ∷ numbers) = IsParamOf program number × AreAllParams program numbers

same_form : (one other : CTy) → unqualified one ≡ unqualified other → form_of_type other ≡ form_of_type one
same_form (ty form is_const) (ty other also) same = ap form_of_type (sym same)

module _ (program : CProgram) (unit : ℕ) where
  param_laid : (number : ℕ) (o : CObject) (laid : Option Laid) → object_with number program.objects ≡ Some o → extent (layouts_of program.types) o.type ≡ laid → IsSome laid → IsParamForm (form_of_type o.type) →
      IsParamOf program number
  param_laid number o None found is some form = absurd cc
  param_laid number o (Some laid) found is some form = record { one = o; object_is = found; laid = laid; laid_is = is; form = form }

  one_param : (number : ℕ) (type : CTy) (found : Option CObject) → object_with number program.objects ≡ found → IsSome found → IfSome found (IsParamObject (home_of program None unit) type) →
      IsParamForm (form_of_type type) → IsParamOf program number
  one_param number type None e is param form = absurd cc
  one_param number type (Some o) e is param form =
      param_laid number o (extent (layouts_of program.types) o.type) e refl param.object.complete (subst IsParamForm (same_form o.type type param.type_is) form)

  params_here : (numbers : List ℕ) (all : CTys) → AreParams (home_of program None unit) numbers all → AreTypesIn program.types unit all → AreAllParams program numbers
  params_here [] all are types = tt
  params_here (number ∷ numbers) no_types are types = absurd are
  params_here (number ∷ numbers) (more_types first others) are types =
      (one_param number first (object_with number program.objects) refl are.0 are.1 types.1, params_here numbers others are.2 types.2)

  list_here : (variadic : Bool) (numbers : List ℕ) (params : CParams) → AreParamsOf (home_of program None unit) numbers params → AreParamsIn program.types unit variadic params → AreAllParams program numbers
  list_here variadic numbers unlisted are types = subst (λ (ns : List ℕ). AreAllParams program ns) (sym are) tt
  list_here variadic numbers (listed all) are types = params_here numbers all are types.1

  -- those of a definition
  pub all_params : (fun : CFun) (type : CTy) → IsTypeIn program.types unit type → IsDefinitionOf (home_of program None unit) fun (form_of_type type) → AreAllParams program fun.params
  all_params fun (ty (function result params variadic) is_const) type_in definition = list_here variadic fun.params params definition.params_are type_in.2
  all_params fun (ty void is_const) type_in definition = absurd definition
  all_params fun (ty (basic which) is_const) type_in definition = absurd definition
  all_params fun (ty (enum_type number) is_const) type_in definition = absurd definition
  all_params fun (ty (pointer to) is_const) type_in definition = absurd definition
  all_params fun (ty (array element length) is_const) type_in definition = absurd definition
  all_params fun (ty (record_type number) is_const) type_in definition = absurd definition

-- ---- kinds

-- a scalar type, as it is accessed without qualifiers
pub record HasKind (program : CProgram) (type : CTy) : Type 0 where
  pub kind : Scalar
  pub scalar : IsScalar kind
  pub is : scalar_of program.types (form_of_type type) ≡ Some kind
  pub plain_is : scalar_of program.types (form_of_type (unqualified type)) ≡ Some kind
  pub kind_is : kind_of (setting_of program) (unqualified type) ≡ Ok (of_scalar kind)

module _ (program : CProgram) where
  scalar_access : (form : CTyForm) (is_const : Bool) → is_record form ≡ false → IsAccess program (ty form is_const) → IsScalarAccess program (ty form is_const)
  scalar_access form is_const plain (inl one) = one
  scalar_access (record_type number) is_const plain (inr one) = absurd cc
  scalar_access void is_const plain (inr one) = absurd one.is_record
  scalar_access (basic which) is_const plain (inr one) = absurd one.is_record
  scalar_access (enum_type number) is_const plain (inr one) = absurd one.is_record
  scalar_access (pointer to) is_const plain (inr one) = absurd one.is_record
  scalar_access (array element length) is_const plain (inr one) = absurd one.is_record
  scalar_access (function result params variadic) is_const plain (inr one) = absurd one.is_record

  accessed_so : (form : CTyForm) (kind : Scalar) → scalar_of program.types form ≡ Some kind → kind_of (setting_of program) (ty form false) ≡ Ok (of_scalar kind)
  accessed_so (basic which) kind is = ap scalar_kind is
  accessed_so (enum_type number) kind is = ap scalar_kind is
  accessed_so (pointer to) kind is = ap scalar_kind is
  accessed_so void kind is = absurd cc
  accessed_so (array element length) kind is = absurd cc
  accessed_so (record_type number) kind is = absurd cc
  accessed_so (function result params variadic) kind is = absurd cc

  result_form : (form : CTyForm) → IsParamForm form → IsResultForm form
  result_form (basic which) is = tt
  result_form (enum_type number) is = tt
  result_form (pointer to) is = tt
  result_form (record_type number) is = tt
  result_form void is = absurd is
  result_form (array element length) is = absurd is
  result_form (function result params variadic) is = absurd is

  -- a parameter that is no structure or union is a scalar
  pub has_kind : (unit : ℕ) (type : CTy) → AreTypes program.types → IsTypeIn program.types unit type → IsComplete program.types type → IsParamForm (form_of_type type) → is_record (form_of_type type) ≡ false →
      HasKind program type
  has_kind unit (ty form is_const) types type_in complete is plain =
      let access = scalar_access form is_const plain (access_of program unit form is_const types type_in complete (result_form form is)) in
      record { kind = access.kind; scalar = access.is_scalar; is = access.kind_is; plain_is = access.kind_is; kind_is = accessed_so form access.kind access.kind_is }

  -- and one that is one is accessed whole
  pub record_kind_is : (type : CTy) (laid : Laid) → is_record (form_of_type type) ≡ true → extent (layouts_of program.types) type ≡ Some laid → kind_of (setting_of program) (unqualified type) ≡ Ok (of_record laid)
  record_kind_is (ty (record_type number) is_const) laid is found = ap record_kind found
  record_kind_is (ty void is_const) laid is found = absurd cc
  record_kind_is (ty (basic which) is_const) laid is found = absurd cc
  record_kind_is (ty (enum_type number) is_const) laid is found = absurd cc
  record_kind_is (ty (pointer to) is_const) laid is found = absurd cc
  record_kind_is (ty (array element length) is_const) laid is found = absurd cc
  record_kind_is (ty (function result params variadic) is_const) laid is found = absurd cc
