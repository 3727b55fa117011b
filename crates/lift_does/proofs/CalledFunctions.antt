-- A function that the program defines, where it is called: its item takes what is passed, and gives what C's function gives (ISO C99, 6.5.2.2p2 to p6, 6.9.1).
use Rattle.std.proofs.Common.{◌≡◌, ℕ, zero, suc, Bool, true, false, if◌then◌else◌, ◌==◌, List, [], ◌∷◌, length, map, Option, Some, None, option_map, refl, sym, ap, subst, ◌∙◌, arith}
use Rattle.std.proofs.lemmas.Bool.{and_parts}
use Rattle.std.proofs.lemmas.Bool.Decides.{nat_tests}
use Rattle.std.specs.Bool.{beq}
use Rattle.std.specs.Prelude.{slice_get, IsSome}
use Rattle.cr_base.specs.declared.layout.Laid.{Laid}
use Rattle.cr_base.specs.declared.scalar.Scalar.{Scalar}
use Rattle.cx_core.specs.Compatible.{AreCompatible, forms_agree, lists_agree, agree, in_pairs}
use Rattle.cx_core.specs.Conversions.{scalar_of_basic, basic_of_enum, scalar_of as c_scalar_of}
use Rattle.cx_core.specs.Layouts.{CLayouts, extent, layouts_of}
use Rattle.cx_core.specs.Linked.{IsLinked, IsTypedFunction}
use Rattle.cx_core.specs.Statements.{AreParams, AreParamsOf}
use Rattle.cx_core.specs.Trees.{CProgram, CTypes, CTy, ty, CTyForm, void, basic, enum_type, pointer, array, record_type, function, form_of_type, unqualified, CParams, unlisted, listed, CTys, no_types, more_types, CExprs, no_exprs, more_exprs, CFun}
use Rattle.cx_core.specs.Typing.{CHome, IsResult, AreArguments, AreArgumentsOf}
use Rattle.cx_core.specs.ValidTypes.{IsComplete, IsTypeIn, IsFormIn, IsResultForm, AreTypes}
use Rattle.cx_typed_runs.proofs.Scenes.{all_of}
use Rattle.cx_typed_runs.specs.Sites.{IsRunning}
use Rattle.cx_typed_work.proofs.AlikeRecords.{alike_laid}
use Rattle.cx_typed_work.proofs.AlikeValues.{forms_meet, alike_kind}
use Rattle.cx_mean.specs.Settings.{extent_in}
use Rattle.lift_calls.specs.Calls.{result_laid}
use Rattle.lift_calls.specs.Programs.{setting_in}
use Rattle.lift_does.proofs.ArgumentsRun.{ParamsFit}
use Rattle.lift_does.proofs.Around.{Around}
use Rattle.lift_does.proofs.CallEnds.{IsPassed}
use Rattle.lift_does.proofs.Params.{params_fit, records_alike}
use Rattle.lift_does.specs.Agree.{FunctionMeans}
use Rattle.lift_exprs.specs.Calls.{Argument, count_of, are_enough}
use Rattle.lift_exprs.specs.Lifted.{lifted_args}
use Rattle.lift_exprs.specs.Names.{Names, KeptFunction, type_in, params_of, result_of}
use Rattle.lift_held.specs.Held.{is_void_form, is_void, is_record}
use Rattle.rs_items.specs.Types.{is_record as is_passed, rust_type, rust_types, rust_params, rust_pointer_form, with_result, result_type, code_type}
use Rattle.rs_mean.specs.Scalars.{scalar_of}
use Rattle.rs_text.specs.Tree.{Ty, Integer, Boolean, Void, Pointer, Array, Code, Record, Tys, no_tys, more_tys, tys, OptionTy, no_ty, some_ty, option_ty, LocalTree}
use Rattle.rs_text.specs.Valid.{is_void as is_void_type}

-- ---- results

both_there : {A B : Type 0} (xs : List A) (ys : List B) (n : ℕ) (one : A) → length xs ≡ length ys → slice_get xs n ≡ Some one → (other : B) × (slice_get ys n ≡ Some other)
both_there [] ys n one same e = cc (e)
both_there (first ∷ xs) [] n one same e = cc (same)
both_there (first ∷ xs) (second ∷ ys) zero one same e = (second, refl)
both_there (first ∷ xs) (second ∷ ys) (suc n) one same e = let less : length xs ≡ length ys = omega (arith, same) in both_there xs ys n one less e

enum_kind : (types : CTypes) (number unit : ℕ) → AreTypes types → slice_get types.enum_units number ≡ Some unit → (kind : Scalar) × (c_scalar_of types (enum_type number) ≡ Some kind)
enum_kind types number unit are is =
    let found = both_there types.enum_units types.enums number unit are.enum_units is in
    (scalar_of_basic (basic_of_enum found.0), ap (option_map (λ (is_int : Bool). scalar_of_basic (basic_of_enum is_int))) found.1)

-- the result of a function is no array: `void`, a structure or union, or a scalar
pub result_kind : (types : CTypes) (unit : ℕ) (result : CTy) → AreTypes types → IsTypeIn types unit result → IsResultForm (form_of_type result) → is_void result ≡ false → is_record result ≡ false → (kind : Scalar) × (c_scalar_of types (form_of_type result) ≡ Some kind)
result_kind types unit (ty (basic which) is_const) are is form some plain = (_, refl)
result_kind types unit (ty (pointer to) is_const) are is form some plain = (_, refl)
result_kind types unit (ty (enum_type number) is_const) are is form some plain = enum_kind types number unit are is
result_kind types unit (ty void is_const) are is form some plain = cc (some)
result_kind types unit (ty (record_type number) is_const) are is form some plain = cc (plain)
result_kind types unit (ty (array element count) is_const) are is form some plain = absurd form
result_kind types unit (ty (function result params variadic) is_const) are is form some plain = absurd form

pub void_none : (given : Ty) (kind : Scalar) → scalar_of given ≡ Some kind → is_void_type given ≡ false
void_none (Integer which) kind e = refl
void_none Boolean kind e = refl
void_none (Pointer target) kind e = refl
void_none (Code params result) kind e = refl
void_none Void kind e = cc (e)
void_none (Array element size) kind e = cc (e)
void_none (Record m x) kind e = cc (e)

-- two words for one test
pub passed_record : (type : CTy) → is_passed type ≡ is_record type
passed_record (ty void is_const) = refl
passed_record (ty (basic which) is_const) = refl
passed_record (ty (enum_type number) is_const) = refl
passed_record (ty (pointer to) is_const) = refl
passed_record (ty (array element count) is_const) = refl
passed_record (ty (record_type number) is_const) = refl
passed_record (ty (function result params variadic) is_const) = refl

same_some : {A : Type 0} (one other : A) → Some one ≡ Some other → one ≡ other
same_some one other e = cc (e)

pub option_same : (one other : Option Ty) → option_ty one ≡ option_ty other → one ≡ other
option_same None None e = refl
option_same (Some one) (Some other) e = let same : one ≡ other = cc (e) in ap Some same
option_same None (Some other) e = cc (e)
option_same (Some one) None e = cc (e)

-- ---- compatible functions

pub record_same : (types : CTypes) (first second : CTy) → AreCompatible types first second → is_record first ≡ is_record second
record_same types (ty first one) (ty second other) by =
    records_alike types (in_pairs by.pairs) first second one other (forms_meet types (in_pairs by.pairs) (ty first one) (ty second other) by.meet) ∙ passed_record (ty second other)

pub unqualified_record : (type : CTy) → is_record (unqualified type) ≡ is_record type
unqualified_record (ty form is_const) = refl

pub unqualified_form : (type : CTy) → form_of_type (unqualified type) ≡ form_of_type type
unqualified_form (ty form is_const) = refl

void_alike : (types : CTypes) (counts : ℕ → ℕ → Bool) (first : CTyForm) → forms_agree types counts first void ≡ true → is_void_form first ≡ true
void_alike types counts void e = refl
void_alike types counts (basic which) e = cc (e)
void_alike types counts (enum_type number) e = cc (e)
void_alike types counts (pointer to) e = cc (e)
void_alike types counts (array element count) e = cc (e)
void_alike types counts (record_type number) e = cc (e)
void_alike types counts (function result params variadic) e = cc (e)

some_alike : (types : CTypes) (counts : ℕ → ℕ → Bool) (first second : CTyForm) → forms_agree types counts first second ≡ true → is_void_form first ≡ false → is_void_form second ≡ false
some_alike types counts first void e some = let clash : true ≡ false = sym (void_alike types counts first e) ∙ some in cc (clash)
some_alike types counts first (basic which) e some = refl
some_alike types counts first (enum_type number) e some = refl
some_alike types counts first (pointer to) e some = refl
some_alike types counts first (array element count) e some = refl
some_alike types counts first (record_type number) e some = refl
some_alike types counts first (function result params variadic) e some = refl

pub some_same : (types : CTypes) (first second : CTy) → AreCompatible types first second → is_void first ≡ false → is_void second ≡ false
some_same types first second by some = some_alike types (in_pairs by.pairs) (form_of_type first) (form_of_type second) (forms_meet types (in_pairs by.pairs) first second by.meet) some

-- ---- counts

abbrev pub args_count : CExprs → ℕ
args_count no_exprs = 0
args_count (more_exprs first others) = suc (args_count others)

pub none_left : (args : CExprs) → args_count args ≡ 0 → args ≡ no_exprs
none_left no_exprs e = refl
none_left (more_exprs first others) e = cc (e)

pub list_count : (names_of : Names) (args : CExprs) (next : ℕ) → length (lifted_args names_of args next).list ≡ args_count args
list_count names_of no_exprs next = refl
list_count names_of (more_exprs first others) next = ap suc (list_count names_of others _)

pub same_count : (n : ℕ) → (n == n) ≡ true
same_count n = grind (arith, nat_tests)

pub empty_is : (list : List ℕ) → length list ≡ 0 → list ≡ []
empty_is [] e = refl
empty_is (one ∷ others) e = cc (e)

pub none_held : (home : CHome) (list : List ℕ) (params : CTys) → list ≡ [] → AreParams home list params → params ≡ no_types
none_held home [] no_types e are = refl
none_held home [] (more_types first others) e are = absurd are
none_held home (one ∷ list) params e are = cc (e)

module _ (x : Around) where
  pub fits_count : (args : CExprs) (params : Tys) → ParamsFit x args params → count_of params ≡ args_count args
  fits_count no_exprs no_tys fit = refl
  fits_count no_exprs (more_tys param params) fit = absurd fit
  fits_count (more_exprs first others) no_tys fit = absurd fit
  fits_count (more_exprs first others) (more_tys param params) fit = ap suc (fits_count others params fit.1)

  pub fits_enough : (args : CExprs) (next : ℕ) (params : Tys) → ParamsFit x args params → are_enough params (lifted_args x.names args next).list ≡ true
  fits_enough args next params fit =
      ap (λ (n : ℕ). n == length (lifted_args x.names args next).list) (fits_count args params fit ∙ sym (list_count x.names args next)) ∙ same_count (length (lifted_args x.names args next).list)

  -- and with one more in front of both
  pub fits_one_more : (args : CExprs) (next : ℕ) (params : Tys) (param : Ty) (first : Argument) → ParamsFit x args params → are_enough (more_tys param params) (first ∷ (lifted_args x.names args next).list) ≡ true
  fits_one_more args next params param first fit =
      ap (λ (n : ℕ). suc n == suc (length (lifted_args x.names args next).list)) (fits_count args params fit ∙ sym (list_count x.names args next)) ∙ same_count (suc (length (lifted_args x.names args next).list))

  -- ---- parameters

  lists_fit : (visible own given result : CTy) (given_params params : CTys) (given_variadic variadic : Bool) (args : CExprs) → AreCompatible x.home.program.types visible own → form_of_type visible ≡ function given (listed given_params) given_variadic →
      form_of_type own ≡ function result (listed params) variadic → variadic ≡ false → AreArguments x.home.program.types given_params given_variadic args → ParamsFit x args (rust_types x.names.types params)
  lists_fit visible own given result given_params params given_variadic variadic args by is own_is fixed typed =
      let types = x.home.program.types in
      let meets : forms_agree types (in_pairs by.pairs) (function given (listed given_params) given_variadic) (function result (listed params) variadic) ≡ true =
      subst (λ (f : CTyForm). forms_agree types (in_pairs by.pairs) f (function result (listed params) variadic) ≡ true) is
      (subst (λ (f : CTyForm). forms_agree types (in_pairs by.pairs) (form_of_type visible) f ≡ true) own_is (forms_meet types (in_pairs by.pairs) visible own by.meet)) in
      let behind = (and_parts (agree types (in_pairs by.pairs) given result) _ meets).1 in
      let parts = and_parts (beq given_variadic variadic) (lists_agree types (in_pairs by.pairs) given_params params) behind in
      params_fit x visible own by given_params params args parts.1 (subst (λ (more : Bool). AreArguments types given_params more args) (same_flag given_variadic variadic parts.0 ∙ fixed) typed)
    where
      same_flag : (a b : Bool) → beq a b ≡ true → a ≡ b
      same_flag true true same = refl
      same_flag true false same = sym same
      same_flag false true same = same
      same_flag false false same = refl

  -- the item's parameters fit the arguments, as many as the function has
  pub all_fit : (home : CHome) (numbers : List ℕ) (visible own given result : CTy) (given_params params : CParams) (given_variadic variadic : Bool) (args : CExprs) → AreCompatible x.home.program.types visible own → form_of_type visible ≡ function given given_params given_variadic →
      form_of_type own ≡ function result params variadic → variadic ≡ false → AreArgumentsOf x.home.program.types given_params given_variadic args → AreParamsOf home numbers params → length numbers ≡ args_count args → ParamsFit x args (rust_params x.names.types params)
  all_fit home numbers visible own given result unlisted unlisted given_variadic variadic args by is own_is fixed typed are count = subst (λ (all : CExprs). ParamsFit x all no_tys) (sym typed) tt
  all_fit home numbers visible own given result unlisted (listed params) given_variadic variadic args by is own_is fixed typed are count =
      let none : params ≡ no_types = none_held home numbers params (empty_is numbers (count ∙ ap args_count typed)) are in
      subst (λ (all : CExprs). ParamsFit x all (rust_types x.names.types params)) (sym typed) (subst (λ (list : CTys). ParamsFit x no_exprs (rust_types x.names.types list)) (sym none) tt)
  all_fit home numbers visible own given result (listed given_params) unlisted given_variadic variadic args by is own_is fixed typed are count =
      let none : args ≡ no_exprs = none_left args (sym count ∙ ap length are) in
      subst (λ (all : CExprs). ParamsFit x all no_tys) (sym none) tt
  all_fit home numbers visible own given result (listed given_params) (listed params) given_variadic variadic args by is own_is fixed typed are count =
      lists_fit visible own given result given_params params given_variadic variadic args by is own_is fixed typed

  -- ---- the item

  pub pointer_is : (type result : CTy) (params : CParams) (variadic : Bool) → form_of_type type ≡ function result params variadic →
      type_in x.names (ty (pointer type) false) ≡ code_type (is_passed result) (rust_type x.names.types result) (rust_params x.names.types params)
  pointer_is (ty form is_const) result params variadic e = ap (rust_pointer_form x.names.types) e

  module _ (number : ℕ) (one : CFun) (kept : KeptFunction) (means : FunctionMeans x.s number kept) (kept_ty : kept.ty ≡ type_in x.names (ty (pointer one.type) false)) (linked : IsLinked x.home.program)
      (result : CTy) (running : IsRunning x.home.program one result) where
    abbrev Given : Ty
    Given = rust_type x.names.types result

    abbrev pub all_params : Tys
    all_params = with_result (is_passed result) Given (rust_params x.names.types running.params)

    pub item_is : Code (tys (map (λ (one : LocalTree). one.ty) means.tree.params)) (option_ty means.tree.result) ≡ code_type (is_passed result) Given (rust_params x.names.types running.params)
    item_is = sym means.ty_is ∙ kept_ty ∙ pointer_is one.type result running.params running.variadic running.type_is

    pub code_parts : (params others : Tys) (back other : OptionTy) → Code params back ≡ Code others other → (params ≡ others) × (back ≡ other)
    code_parts params others back other e = (cc (e), cc (e))

    pub item_params : tys (map (λ (one : LocalTree). one.ty) means.tree.params) ≡ all_params
    item_params = (code_parts _ _ _ _ item_is).0

    pub kept_params : params_of kept.ty ≡ all_params
    kept_params = ap params_of (kept_ty ∙ pointer_is one.type result running.params running.variadic running.type_is)

    pub kept_result : result_of kept.ty ≡ option_ty means.tree.result
    kept_result = ap result_of means.ty_is

    pub function_typed : IsTypeIn x.home.program.types one.unit result × IsResultForm (form_of_type result)
    function_typed = by one.type running.type_is (all_of (IsTypedFunction x.home.program None) x.home.program.functions one linked.functions running.defined).type_in
      where
        by : (type : CTy) → form_of_type type ≡ function result running.params running.variadic → IsTypeIn x.home.program.types one.unit type → IsTypeIn x.home.program.types one.unit result × IsResultForm (form_of_type result)
        by (ty form is_const) e is = let parts = subst (IsFormIn x.home.program.types one.unit is_const) e is in (parts.0, parts.1)

    -- a scalar that it gives goes to a temporary
    pub item_passed : (type : CTy) → AreCompatible x.home.program.types type (unqualified result) → is_void type ≡ false → is_record type ≡ false → IsPassed means.tree.result (type_in x.names type)
    item_passed type by some plain =
        let types = x.home.program.types in
        let no_void : is_void result ≡ false = ap is_void_form (sym (unqualified_form result)) ∙ some_same types type (unqualified result) by some in
        let no_record : is_record result ≡ false = sym (unqualified_record result) ∙ sym (record_same types type (unqualified result) by) ∙ plain in
        let kind = result_kind types one.unit result linked.types function_typed.0 function_typed.1 no_void no_record in
        let given_kind : scalar_of Given ≡ Some kind.0 = x.means.scalars result kind.0 (subst (λ (program : CProgram). c_scalar_of program.types (form_of_type result) ≡ Some kind.0) x.means.program kind.1) in
        let own_kind : c_scalar_of types (form_of_type type) ≡ Some kind.0 = alike_kind types type (unqualified result) by ∙ (ap (c_scalar_of types) (unqualified_form result) ∙ kind.1) in
        let back : option_ty means.tree.result ≡ some_ty Given =
        (code_parts _ _ _ _ item_is).1 ∙ ap (λ (b : Bool). result_type b Given) (passed_record result ∙ no_record) ∙ ap (λ (v : Bool). if v then no_ty else some_ty Given) (void_none Given kind.0 given_kind) in
        record {
          from = Given;
          own_is = option_same means.tree.result (Some Given) back;
          kind = kind.0;
          from_kind = given_kind;
          kind_is = x.means.scalars type kind.0 (subst (λ (program : CProgram). c_scalar_of program.types (form_of_type type) ≡ Some kind.0) x.means.program own_kind);
        }

    -- the layout of a structure or union that it gives
    laid_as : result_laid x.s one ≡ result_laid x.s (record one { type = ty (function result running.params running.variadic) false })
    laid_as = ap (λ (form : CTyForm). result_laid x.s (record one { type = ty form false })) running.type_is

    laid_of : (given : CTy) → is_record given ≡ true → result_laid x.s (record one { type = ty (function given running.params running.variadic) false }) ≡ extent_in (setting_in x.s) given
    laid_of (ty (record_type number) is_const) e = refl
    laid_of (ty void is_const) e = cc (e)
    laid_of (ty (basic which) is_const) e = cc (e)
    laid_of (ty (enum_type number) is_const) e = cc (e)
    laid_of (ty (pointer to) is_const) e = cc (e)
    laid_of (ty (array element count) is_const) e = cc (e)
    laid_of (ty (function back params variadic) is_const) e = cc (e)

    no_laid : (given : CTy) → is_record given ≡ false → result_laid x.s (record one { type = ty (function given running.params running.variadic) false }) ≡ None
    no_laid (ty (record_type number) is_const) e = cc (e)
    no_laid (ty void is_const) e = refl
    no_laid (ty (basic which) is_const) e = refl
    no_laid (ty (enum_type number) is_const) e = refl
    no_laid (ty (pointer to) is_const) e = refl
    no_laid (ty (array element count) is_const) e = refl
    no_laid (ty (function back params variadic) is_const) e = refl

    pub no_result_laid : (type : CTy) → AreCompatible x.home.program.types type (unqualified result) → is_record type ≡ false → result_laid x.s one ≡ None
    no_result_laid type by plain = laid_as ∙ no_laid result (sym (unqualified_record result) ∙ sym (record_same x.home.program.types type (unqualified result) by) ∙ plain)

    pub of_record : (type : CTy) → AreCompatible x.home.program.types type (unqualified result) → (test : Bool) → is_record type ≡ test → is_passed result ≡ test
    of_record type by test is = passed_record result ∙ sym (unqualified_record result) ∙ sym (record_same x.home.program.types type (unqualified result) by) ∙ is

    result_complete : (given : CTy) → is_record given ≡ true → IsResult x.home.program.types given → IsComplete x.home.program.types given
    result_complete (ty (record_type number) is_const) e is = is
    result_complete (ty void is_const) e is = cc (e)
    result_complete (ty (basic which) is_const) e is = cc (e)
    result_complete (ty (enum_type number) is_const) e is = cc (e)
    result_complete (ty (pointer to) is_const) e is = cc (e)
    result_complete (ty (array element count) is_const) e is = cc (e)
    result_complete (ty (function back params variadic) is_const) e is = cc (e)

    some_found : {A : Type 0} (found : Option A) → IsSome found → (one : A) × (found ≡ Some one)
    some_found (Some one) is = (one, refl)
    some_found None is = cc (is)

    unqualified_extent : (layouts : CLayouts) (given : CTy) → extent layouts (unqualified given) ≡ extent layouts given
    unqualified_extent layouts (ty form is_const) = refl

    pub result_laid_is : (type : CTy) (laid : Laid) → AreCompatible x.home.program.types type (unqualified result) → is_record type ≡ true → extent_in (setting_in x.s) type ≡ Some laid → IsResult x.home.program.types result → result_laid x.s one ≡ Some laid
    result_laid_is type laid by of_it laid_is is =
        let types = x.home.program.types in
        let no_plain : is_record result ≡ true = sym (unqualified_record result) ∙ sym (record_same types type (unqualified result) by) ∙ of_it in
        let found = some_found (extent (layouts_of types) result) (result_complete result no_plain is) in
        let own_laid : extent (layouts_of types) type ≡ Some laid = subst (λ (program : CProgram). extent (layouts_of program.types) type ≡ Some laid) (sym x.means.program) laid_is in
        let same : laid ≡ found.0 = alike_laid types type (unqualified result) laid found.0 linked.types by own_laid (unqualified_extent (layouts_of types) result ∙ found.1) in
        laid_as ∙ laid_of result no_plain ∙ subst (λ (program : CProgram). extent (layouts_of program.types) result ≡ Some found.0) x.means.program found.1 ∙ ap Some (sym same)
