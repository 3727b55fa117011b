-- The types of a written crate are types of the subset (ISO C99, 6.2.5, 6.7.5; the Rust Reference, "Type system").
use Rattle.std.proofs.Common.{arith, ◌≡◌, ℕ, zero, suc, ◌*◌, ◌≤◌, ◌<◌, ◌^◌, nat_le, nat_lt, Bool, true, false, ◌||◌, if◌then◌else◌, List, [], Option, Some, None, IsSome, is_some, refl, sym, ap, subst, ◌∙◌, slice_get, get_or, length}
use Rattle.std.proofs.lemmas.Bool.{and_from, and_parts}
use Rattle.std.proofs.lemmas.Bool.Decides.{nat_tests}
use Rattle.std.proofs.lemmas.Option.{slice_get-get_or, slice_get_within}
use Rattle.std.specs.List.{list_all}
use Rattle.std.specs.Option.{option_and_then, option_flatten}
use Rattle.cr_base.specs.declared.layout.Laid.{Laid}
use Rattle.cr_base.specs.Layout.{most_bytes}
use Rattle.cx_core.specs.declared.ty.Basic.{Basic}
use Rattle.cx_core.specs.declared.ty.Basic.TheVariants.{Truth}
use Rattle.cx_core.specs.Layouts.{CRow, elements, extent, layouts_of, row_at, whole_extent, within_most}
use Rattle.cx_core.specs.Trees.{CTy, ty, CTyForm, void, basic, enum_type, pointer, array, record_type, function, CParams, unlisted, listed, CTys, no_types, more_types, CRecord, CProgram, form_of_type}
use Rattle.cx_core.specs.ValidTypes.{AreParamsIn, AreTypes, AreTypesIn, IsArrayOf, IsComplete, IsParamForm, IsTypeIn}
use Rattle.cx_typed_sizes.proofs.Bytes.{complete_has_byte}
use Rattle.rs_items.specs.Types.{TypeNames, array_or_void, basic_type, code_type, is_record, passed, record_or_void, rust_params, rust_pointer, rust_type, rust_types}
use Rattle.rs_text.specs.Names.{is_identifier, is_module_name, is_plain_identifier}
use Rattle.rs_text.specs.Tree.{Ty, Integer, Boolean, Void, Pointer, Array, Code, Record, Tys, no_tys, more_tys, no_ty, some_ty, option_ty}
use Rattle.rs_text.specs.Valid.{is_length, is_void, valid_path, valid_result, valid_target, valid_ty, valid_tys}
use Rattle.whole_items.specs.Items.{tys_in, value_type}
use Rattle.whole_means.proofs.Lists.{among_at}
use Rattle.whole_means.proofs.Rows.{completed_by}
use Rattle.whole_means.proofs.Things.{record_named}
use Rattle.whole_means.specs.Written.{IsNamed}
use Rattle.whole_names.specs.Keys.{a_record}
use Rattle.whole_names.specs.Kept.{NamedProgram, module_of, name_in, path_if, record_unit, types_of, unit_or}
use Rattle.whole_names.specs.ModuleNames.{name_or}
use Rattle.whole_valid.proofs.Names.{all_of, name_identifier, test_of}
use Rattle.whole_valid.specs.Given.{HasModuleNames, HasWords}

-- ---- lengths of arrays

pub some_of : {A : Type 0} (found : Option A) → IsSome found → (x : A) × (found ≡ Some x)
some_of None is = absurd cc
some_of (Some x) is = (x, refl)

within_same : (laid one : Laid) → within_most laid ≡ Some one → (laid ≡ one) × (laid.size ≤ most_bytes)
within_same laid one is = by_test (nat_le laid.size most_bytes) refl
  where
    by_test : (t : Bool) → nat_le laid.size most_bytes ≡ t → (laid ≡ one) × (laid.size ≤ most_bytes)
    by_test true e = let same : Some laid ≡ Some one = sym (ap (λ t. if t then Some laid else None) e) ∙ is in (cc (same), grind (arith, nat_tests, e))
    by_test false e = absurd (let h : None ≡ Some one = sym (ap (λ t. if t then Some laid else None) e) ∙ is in cc)

grows : (count size : ℕ) → 0 < size → count ≤ count * size
grows zero size some = omega arith
grows (suc count) size some = let less = grows count size some in omega (arith, some, less)

short_by : (count : ℕ) (found : Option Laid) → ((inner : Laid) → found ≡ Some inner → 0 < inner.size) → IsSome (option_and_then within_most (elements count found)) → count ≤ most_bytes
short_by zero found some is = omega arith
short_by (suc count) None some is = absurd cc
short_by (suc count) (Some inner) some is =
    let one = some_of (within_most (record { size = suc count * inner.size; align = inner.align })) is in
    let low = (within_same (record { size = suc count * inner.size; align = inner.align }) one.0 one.1).1 in
    let grown = grows (suc count) inner.size (some inner refl) in
    omega (arith, low, grown)

some_same : {A : Type 0} (x y : A) → Some x ≡ Some y → x ≡ y
some_same x y same = cc (same)

whole_filled : (found : Option Laid) (laid inner : Laid) → option_and_then within_most found ≡ Some laid → found ≡ Some inner → 0 < laid.size → 0 < inner.size
whole_filled None laid inner is there some = absurd cc
whole_filled (Some one) laid inner is there some =
    let same = (within_same one laid is).0 in
    subst (λ (l : Laid). 0 < l.size) (sym same ∙ some_same one inner there) some

-- no array that is complete has more elements than an object has bytes
pub array_short : (types_in : Rattle.cx_core.specs.Trees.CTypes) → AreTypes types_in → (element : CTy) (count : ℕ) → IsComplete types_in element → IsComplete types_in (ty (array element (Some count)) false) →
    count ≤ most_bytes
array_short types_in are element count complete also =
    let one = some_of (extent (layouts_of types_in) element) complete in
    let some = complete_has_byte types_in element one.0 are one.1 in
    short_by count (whole_extent (layouts_of types_in) element) (λ inner there. whole_filled (whole_extent (layouts_of types_in) element) one.0 inner one.1 there some) also

length_short : (count : ℕ) → count ≤ most_bytes → nat_lt count (2 ^ 64) ≡ true
length_short count low = grind (arith, nat_tests, low)

-- ---- types that aren't `void`

basic_plain : (which : Basic) → is_void (basic_type which) ≡ false
basic_plain Truth = refl
basic_plain _ = refl

basic_valid : (which : Basic) → valid_ty (basic_type which) ≡ true
basic_valid Truth = refl
basic_valid _ = refl

target_from : (t : Ty) → valid_ty t ≡ true → valid_target t ≡ true
target_from Void valid = refl
target_from (Integer which) valid = valid
target_from Boolean valid = valid
target_from (Pointer target) valid = valid
target_from (Array element size) valid = valid
target_from (Code params result) valid = valid
target_from (Record m x) valid = valid

pub valid_from : (t : Ty) → valid_target t ≡ true → is_void t ≡ false → valid_ty t ≡ true
valid_from t valid plain = sym (ap (λ v. v || valid_ty t) plain) ∙ valid

module _ (whole : NamedProgram) (is : IsNamed whole) (words : HasWords whole.program) (modules : HasModuleNames whole.module_names) where
  abbrev program : CProgram
  program = whole.program

  abbrev names : TypeNames
  names = types_of whole

  plain_module : (x : List ℕ) → is_module_name x ≡ true → is_plain_identifier x ≡ true
  plain_module x named = (and_parts (is_plain_identifier x) _ named).0

  pub module_plain : (unit : ℕ) → unit < length whole.module_names → is_plain_identifier (module_of whole unit) ≡ true
  module_plain unit low =
      let there = slice_get-get_or whole.module_names unit [] low in
      let name : List ℕ = get_or whole.module_names unit [] in
      let named = test_of is_module_name whole.module_names name modules.named (among_at whole.module_names unit name there) in
      ap (λ found. is_plain_identifier (name_or [] found)) there ∙ plain_module name named

  completed_path : (number unit : ℕ) (one : CRecord) → slice_get program.types.records number ≡ Some (Some one) → slice_get program.types.record_units number ≡ Some unit →
      valid_path (module_of whole unit) (name_in whole unit (a_record number)) ≡ true
  completed_path number unit one there here =
      and_from (is_plain_identifier (module_of whole unit)) (is_identifier (name_in whole unit (a_record number)))
      (module_plain unit (all_of (λ n. n < length whole.module_names) program.types.record_units unit is.records_here (among_at program.types.record_units number unit here)))
      (name_identifier whole is words unit (a_record number) (record_named whole is number unit one there here))

  record_target : (number : ℕ) (found : Option (Option CRecord)) → slice_get program.types.records number ≡ found →
      valid_target (record_or_void (path_if (is_some (option_flatten found)) (record { home = module_of whole (record_unit whole number); name = name_in whole (record_unit whole number) (a_record number) }))) ≡ true
  record_target number None e = refl
  record_target number (Some None) e = refl
  record_target number (Some (Some one)) e =
      let within = slice_get_within program.types.records number (Some one) e in
      let same = is.linked.types.record_units in
      let here = slice_get-get_or program.types.record_units number 0 (omega (arith, within, same)) in
      let unit : ℕ = get_or program.types.record_units number 0 in
      let unit_is : record_unit whole number ≡ unit = ap (unit_or 0) here in
      ap (λ n. valid_path (module_of whole n) (name_in whole n (a_record number))) unit_is ∙ completed_path number unit one e here

  pub record_valid : (number : ℕ) → valid_target (record_or_void (names.records number)) ≡ true
  record_valid number = record_target number (slice_get program.types.records number) refl

  -- what a type is that is no `void`
  pointer_plain : (to : CTy) → is_void (rust_pointer names to) ≡ false
  pointer_plain (ty void is_const) = refl
  pointer_plain (ty (basic which) is_const) = refl
  pointer_plain (ty (enum_type number) is_const) = refl
  pointer_plain (ty (pointer to) is_const) = refl
  pointer_plain (ty (array element size) is_const) = refl
  pointer_plain (ty (record_type number) is_const) = refl
  pointer_plain (ty (function result params variadic) is_const) = refl

  record_plain : (number : ℕ) (row : Option CRow) → row_at (layouts_of program.types) number ≡ row → IsSome row → is_void (record_or_void (names.records number)) ≡ false
  record_plain number None e some = absurd cc
  record_plain number (Some row) e some =
      let done = completed_by program.types number row is.linked.types e in
      ap (λ t. is_void (record_or_void (path_if t (record { home = module_of whole (record_unit whole number); name = name_in whole (record_unit whole number) (a_record number) }))))
      (ap (λ found. is_some (option_flatten found)) done.one_is)

  some_row : (row : Option CRow) → IsSome (option_and_then within_most (Rattle.std.specs.Prelude.option_map (λ (row : CRow). row.laid) row)) → IsSome row
  some_row None some = absurd cc
  some_row (Some row) some = refl

  pub complete_plain : (type : CTy) → IsComplete program.types type → is_void (rust_type names type) ≡ false
  complete_plain (ty void is_const) complete = absurd cc
  complete_plain (ty (basic which) is_const) complete = basic_plain which
  complete_plain (ty (enum_type number) is_const) complete = refl
  complete_plain (ty (pointer to) is_const) complete = pointer_plain to
  complete_plain (ty (array element None) is_const) complete = absurd cc
  complete_plain (ty (array element (Some count)) is_const) complete = refl
  complete_plain (ty (record_type number) is_const) complete = record_plain number (row_at (layouts_of program.types) number) refl (some_row (row_at (layouts_of program.types) number) complete)
  complete_plain (ty (function result params variadic) is_const) complete = absurd cc

  pub param_plain : (type : CTy) → IsParamForm (form_of_type type) → is_record type ≡ false → is_void (rust_type names type) ≡ false
  param_plain (ty void is_const) form plain = absurd form
  param_plain (ty (basic which) is_const) form plain = basic_plain which
  param_plain (ty (enum_type number) is_const) form plain = refl
  param_plain (ty (pointer to) is_const) form plain = pointer_plain to
  param_plain (ty (array element count) is_const) form plain = absurd form
  param_plain (ty (record_type number) is_const) form plain = absurd cc
  param_plain (ty (function result params variadic) is_const) form plain = absurd form

  -- ---- validity

  passed_valid : (as_pointer : Bool) (given : Ty) → valid_target given ≡ true → (as_pointer ≡ false → is_void given ≡ false) → valid_ty (passed as_pointer given) ≡ true
  passed_valid true given valid plain = valid
  passed_valid false given valid plain = valid_from given valid (plain refl)

  result_by : (given : Ty) (t : Bool) → is_void given ≡ t → valid_target given ≡ true → valid_result (if t then no_ty else some_ty given) ≡ true
  result_by given true e valid = refl
  result_by given false e valid = valid_from given valid e

  code_valid : (gives : Bool) (given : Ty) (params : Tys) → valid_target given ≡ true → valid_tys params ≡ true → valid_ty (code_type gives given params) ≡ true
  code_valid true given params valid all = and_from (valid_tys (more_tys (Pointer given) params)) true (and_from (valid_ty (Pointer given)) (valid_tys params) valid all) refl
  code_valid false given params valid all =
      and_from (valid_tys params) (valid_result (if is_void given then no_ty else some_ty given)) all (result_by given (is_void given) refl valid)

  array_valid : (unit : ℕ) (is_const : Bool) (element : CTy) (count : Option ℕ) → valid_target (rust_type names element) ≡ true → IsArrayOf program.types is_const element count →
      valid_target (array_or_void count (rust_type names element)) ≡ true
  array_valid unit is_const element None valid of = refl
  array_valid unit is_const element (Some count) valid of =
      and_from (valid_ty (rust_type names element)) (is_length count) (valid_from (rust_type names element) valid (complete_plain element of.complete))
      (length_short count (array_short program.types is.linked.types element count of.complete of.length.1))

  mutual
    pub target_valid : (unit : ℕ) (type : CTy) → IsTypeIn program.types unit type → valid_target (rust_type names type) ≡ true
    target_valid unit (ty void is_const) here = refl
    target_valid unit (ty (basic which) is_const) here = target_from (basic_type which) (basic_valid which)
    target_valid unit (ty (enum_type number) is_const) here = refl
    target_valid unit (ty (pointer to) is_const) here = target_from (rust_pointer names to) (pointer_valid unit to here)
    target_valid unit (ty (array element count) is_const) here = array_valid unit is_const element count (target_valid unit element here.0) here.1
    target_valid unit (ty (record_type number) is_const) here = record_valid number
    target_valid unit (ty (function result params variadic) is_const) here = refl

    pub pointer_valid : (unit : ℕ) (to : CTy) → IsTypeIn program.types unit to → valid_ty (rust_pointer names to) ≡ true
    pointer_valid unit (ty void is_const) here = refl
    pointer_valid unit (ty (basic which) is_const) here = target_from (basic_type which) (basic_valid which)
    pointer_valid unit (ty (enum_type number) is_const) here = refl
    pointer_valid unit (ty (pointer to) is_const) here = target_from (rust_pointer names to) (pointer_valid unit to here)
    pointer_valid unit (ty (array element count) is_const) here = array_valid unit is_const element count (target_valid unit element here.0) here.1
    pointer_valid unit (ty (record_type number) is_const) here = record_valid number
    pointer_valid unit (ty (function result params variadic) is_const) here =
        code_valid (is_record result) (rust_type names result) (rust_params names params) (target_valid unit result here.0) (params_valid unit variadic params here.2)

    pub params_valid : (unit : ℕ) (variadic : Bool) (params : CParams) → AreParamsIn program.types unit variadic params → valid_tys (rust_params names params) ≡ true
    params_valid unit variadic unlisted here = refl
    params_valid unit variadic (listed list) here = types_valid unit list here.1

    pub types_valid : (unit : ℕ) (list : CTys) → AreTypesIn program.types unit list → valid_tys (rust_types names list) ≡ true
    types_valid unit no_types here = refl
    types_valid unit (more_types first others) here =
        and_from (valid_ty (passed (is_record first) (rust_type names first))) (valid_tys (rust_types names others))
        (passed_valid (is_record first) (rust_type names first) (target_valid unit first here.0) (param_plain first here.1)) (types_valid unit others here.2)

  -- ---- lists and results

  pub complete_valid : (unit : ℕ) (type : CTy) → IsTypeIn program.types unit type → IsComplete program.types type → valid_ty (rust_type names type) ≡ true
  complete_valid unit type here complete = valid_from (rust_type names type) (target_valid unit type here) (complete_plain type complete)

pub listed_valid : (list : Tys) → valid_tys list ≡ true → list_all valid_ty (tys_in list) ≡ true
listed_valid no_tys valid = refl
listed_valid (more_tys first others) valid =
    let parts = and_parts (valid_ty first) (valid_tys others) valid in
    and_from (valid_ty first) (list_all valid_ty (tys_in others)) parts.0 (listed_valid others parts.1)

pub value_valid : (t : Ty) → valid_target t ≡ true → valid_result (option_ty (value_type t)) ≡ true
value_valid Void valid = refl
value_valid (Integer which) valid = valid
value_valid Boolean valid = valid
value_valid (Pointer target) valid = valid
value_valid (Array element size) valid = valid
value_valid (Code params result) valid = valid
value_valid (Record m x) valid = valid
