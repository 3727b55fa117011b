-- The types of functions that definitions define (ISO C99, 6.7.5.3, 6.9.1).
use Rattle.std.proofs.Common.{◌≡◌, ℕ, nat_le, Bool, true, false, not, ◌&&◌, if◌then◌else◌, List, [], ◌∷◌, Option, None, Some, is_some, option_map, refl, sym, ap, ◌∙◌, subst}
use Rattle.std.specs.Prelude.{IsSome}
use Rattle.std.specs.Option.{option_and_then}
use Rattle.cr_base.specs.declared.layout.Laid.{Laid}
use Rattle.cr_base.specs.declared.layout.Piece.{Piece}
use Rattle.cr_base.specs.Layout.{most_bytes, laid_of, laid_record}
use Rattle.cx_core.specs.Layouts.{CRow, row_at, row_of_pieces, pieces_of, passes, completed_count, layouts_of, within_most}
use Rattle.cx_core.specs.Trees.{CTy, ty, CTyForm, void, basic, enum_type, pointer, array, record_type, function, CParams, unlisted, listed, no_types, form_of_type, is_const_type, CTypes}
use Rattle.cx_core.specs.ValidTypes.{IsComplete, IsObjectForm, IsResultForm, IsParamForm, AreTypesIn, AreParamsIn}
use Rattle.cx_layout.proofs.Builds.{layouts_are}
use Rattle.cx_rules.specs.Declare.{own_params}
use Rattle.cx_rules.specs.Rules.{is_function_step, any_incomplete, params_incomplete, result_incomplete, parts_incomplete}
use Rattle.cx_rules.specs.Shapes.{CParam, CStep, to_pointer, to_array, to_function, param_types, step_on, derived, last_step}
use Rattle.cx_rules.specs.Types.{is_void, is_incomplete, has_size, defined_params, defined_type}
use Rattle.cx_typed.proofs.Listed.{basic_complete}
use Rattle.cx_typed.proofs.Members.{row_is}
use Rattle.cx_typed.proofs.Placed.{then_found, map_found, row_with}
use Rattle.cx_typed.proofs.Promoted.{neither, not_not}
use Rattle.cx_typed.specs.Growth.{AreSettled, AreSettledParams}
use Rattle.cx_typed.specs.Operands.{IsKnownType}
use Rattle.cx_typed_files.proofs.ParamAccounts.{AreKnownOnes}

-- ---- the parameters that its type lists

abbrev pub AreParamsAs : CParams → List CParam → Type 0
AreParamsAs unlisted params = params ≡ []
AreParamsAs (listed types) params = types ≡ param_types params

pub record IsCode (written : CTy) (params : List CParam) : Type 0 where
  pub result : CTy
  pub list : CParams
  pub variadic : Bool
  pub written_is : written ≡ ty (function result list variadic) false
  pub listed_as : AreParamsAs list params

pub code_of : (from : CTy) (steps : List CStep) → is_function_step (last_step steps) ≡ true → IsCode (derived from steps) (own_params steps)
code_of from [] is = absurd cc
code_of from (to_pointer is_const is_restrict ∷ []) is = absurd cc
code_of from (to_array length ∷ []) is = absurd cc
code_of from (to_function None variadic within ∷ []) is = record { result = from; list = unlisted; variadic = variadic; written_is = refl; listed_as = refl }
code_of from (to_function (Some params) variadic within ∷ []) is = record { result = from; list = listed (param_types params); variadic = variadic; written_is = refl; listed_as = refl }
code_of from (step ∷ next ∷ steps) is = code_of (step_on from step) (next ∷ steps) is

-- the type of a definition, by the one that its declarator says
defined_as : (list : CParams) (params : List CParam) → AreParamsAs list params → AreParamsAs (defined_params list) params
defined_as unlisted params same = sym (ap param_types same)
defined_as (listed types) params same = same

pub defined_code : (written : CTy) (params : List CParam) → IsCode written params → IsCode (defined_type written) params
defined_code written params code = record {
  result = code.result;
  list = defined_params code.list;
  variadic = code.variadic;
  written_is = ap defined_type code.written_is;
  listed_as = defined_as code.list params code.listed_as;
}

defined_in : (types : CTypes) (unit : ℕ) (variadic : Bool) (list : CParams) → AreParamsIn types unit variadic list → AreParamsIn types unit variadic (defined_params list)
defined_in types unit variadic unlisted held = (held, tt)
defined_in types unit variadic (listed all) held = held

defined_settled : (opens : List ℕ) (list : CParams) → AreSettledParams opens list → AreSettledParams opens (defined_params list)
defined_settled opens unlisted held = tt
defined_settled opens (listed all) held = held

pub defined_known : (opens : List ℕ) (types : CTypes) (unit : ℕ) (written : CTy) → IsKnownType opens types unit written → IsKnownType opens types unit (defined_type written)
defined_known opens types unit (ty (function result list variadic) is_const) known = record {
  type_in = (known.type_in.0, known.type_in.1, defined_in types unit variadic list known.type_in.2);
  settled = (known.settled.0, defined_settled opens list known.settled.1);
}
defined_known opens types unit (ty void is_const) known = known
defined_known opens types unit (ty (basic which) is_const) known = known
defined_known opens types unit (ty (enum_type number) is_const) known = known
defined_known opens types unit (ty (pointer to) is_const) known = known
defined_known opens types unit (ty (array element length) is_const) known = known
defined_known opens types unit (ty (record_type number) is_const) known = known

param_object_form : (form : CTyForm) → IsParamForm form → IsObjectForm form
param_object_form void held = absurd held
param_object_form (array element length) held = absurd held
param_object_form (function result params variadic) held = absurd held
param_object_form (basic which) held = tt
param_object_form (enum_type number) held = tt
param_object_form (pointer to) held = tt
param_object_form (record_type number) held = tt

pub ones_of : (opens : List ℕ) (types : CTypes) (unit : ℕ) (params : List CParam) → AreTypesIn types unit (param_types params) → AreSettled opens (param_types params) → AreKnownOnes opens types unit params
ones_of opens types unit [] there settled = tt
ones_of opens types unit (one ∷ others) there settled =
    ((record { type_in = there.0; settled = settled.0 }, param_object_form (form_of_type one.type) there.1), ones_of opens types unit others there.2 settled.1)

pub ones_by : (opens : List ℕ) (types : CTypes) (unit : ℕ) (written : CTy) (params : List CParam) → IsCode written params → IsKnownType opens types unit written → AreKnownOnes opens types unit params
ones_by opens types unit written params code known = by_list code.list code.listed_as (subst (IsKnownType opens types unit) code.written_is known)
  where
    by_list : (list : CParams) → AreParamsAs list params → IsKnownType opens types unit (ty (function code.result list code.variadic) false) → AreKnownOnes opens types unit params
    by_list unlisted same held = subst (AreKnownOnes opens types unit) (sym same) tt
    by_list (listed all) same held =
        ones_of opens types unit params (subst (AreTypesIn types unit) same held.type_in.2.1) (subst (AreSettled opens) same held.settled.1)

-- ---- complete types

small_laid : (is_union : Bool) (pieces : List Piece) (test : Bool) (laid : Laid) → nat_le (laid_of is_union pieces).size most_bytes ≡ test → (if test then Some (laid_of is_union pieces) else None) ≡ Some laid
    → nat_le laid.size most_bytes ≡ true
small_laid is_union pieces true laid e is = subst (λ l. nat_le l.size most_bytes ≡ true) (let same : laid_of is_union pieces ≡ laid = cc in same) e
small_laid is_union pieces false laid e is = absurd cc

small_row : (types : CTypes) (number : ℕ) (row : CRow) → row_at (layouts_of types) number ≡ Some row → nat_le row.laid.size most_bytes ≡ true
small_row types number row is =
    let found = row_is types (completed_count types.records) number row (sym (ap (λ all. row_at all number) (layouts_are types)) ∙ is) in
    let pieces = then_found (row_of_pieces found.one.is_union) (pieces_of (passes found.passed types) found.one.members) row found.row_is in
    let laid = map_found (row_with found.one.is_union pieces.0) (laid_record found.one.is_union pieces.0) row pieces.2 in
    subst (λ r. nat_le r.laid.size most_bytes ≡ true) laid.2 (small_laid found.one.is_union pieces.0 (nat_le (laid_of found.one.is_union pieces.0).size most_bytes) laid.0 refl laid.1)

within_some : (laid : Laid) → nat_le laid.size most_bytes ≡ true → IsSome (within_most laid)
within_some laid small = by_test (nat_le laid.size most_bytes) small
  where
    by_test : (test : Bool) → test ≡ true → IsSome (if test then Some laid else None)
    by_test true e = refl
    by_test false e = absurd cc

row_complete : (types : CTypes) (number : ℕ) (is_const : Bool) (found : Option CRow) → row_at (layouts_of types) number ≡ found → IsSome (option_map (λ r. r.laid) found) → IsComplete types (ty (record_type number) is_const)
row_complete types number is_const None e is = absurd cc
row_complete types number is_const (Some row) e is =
    ap (λ one. is_some (option_and_then within_most (option_map (λ r. r.laid) one))) e ∙ within_some row.laid (small_row types number row e)

record_complete : (types : CTypes) (number : ℕ) (is_const : Bool) → has_size types (ty (record_type number) is_const) ≡ true → IsComplete types (ty (record_type number) is_const)
record_complete types number is_const sized =
    row_complete types number is_const (row_at (layouts_of types) number) refl sized

pub result_complete : (types : CTypes) (type : CTy) → IsResultForm (form_of_type type) → is_void type ≡ false → is_incomplete types type ≡ false → IsComplete types type
result_complete types (ty void is_const) form some sized = absurd cc
result_complete types (ty (array element length) is_const) form some sized = absurd form
result_complete types (ty (function result params variadic) is_const) form some sized = absurd form
result_complete types (ty (basic which) is_const) form some sized = basic_complete types which is_const
result_complete types (ty (enum_type number) is_const) form some sized = refl
result_complete types (ty (pointer to) is_const) form some sized = refl
result_complete types (ty (record_type number) is_const) form some sized = record_complete types number is_const (not_not sized)

and_not : (nothing constant refused : Bool) → (not (nothing && constant) && refused) ≡ false → nothing ≡ false → refused ≡ false
and_not true constant refused is some = absurd cc
and_not false constant refused is some = is

pub result_is : (types : CTypes) (result : CTy) → IsResultForm (form_of_type result) → result_incomplete types result ≡ false → is_void result ≡ false → IsComplete types result
result_is types result form fine some = result_complete types result form some (and_not (is_void result) (not (is_const_type result)) (is_incomplete types result) fine some)

param_result : (form : CTyForm) → IsParamForm form → IsResultForm form
param_result void held = absurd held
param_result (array element length) held = absurd held
param_result (function result params variadic) held = absurd held
param_result (basic which) held = tt
param_result (enum_type number) held = tt
param_result (pointer to) held = tt
param_result (record_type number) held = tt

param_not_void : (type : CTy) → IsParamForm (form_of_type type) → is_void type ≡ false
param_not_void (ty void is_const) held = absurd held
param_not_void (ty (array element length) is_const) held = absurd held
param_not_void (ty (function result params variadic) is_const) held = absurd held
param_not_void (ty (basic which) is_const) held = refl
param_not_void (ty (enum_type number) is_const) held = refl
param_not_void (ty (pointer to) is_const) held = refl
param_not_void (ty (record_type number) is_const) held = refl

-- the types of all parameters are complete
abbrev pub AreCompleteOnes : CTypes → List CParam → Type 0
AreCompleteOnes types [] = Unit {0}
AreCompleteOnes types (one ∷ others) = IsComplete types one.type × AreCompleteOnes types others

complete_ones : (types : CTypes) (unit : ℕ) (params : List CParam) → AreTypesIn types unit (param_types params) → any_incomplete types (param_types params) ≡ false → AreCompleteOnes types params
complete_ones types unit [] there fine = tt
complete_ones types unit (one ∷ others) there fine =
    let parts = neither {a = is_incomplete types one.type} fine in
    (result_complete types one.type (param_result (form_of_type one.type) there.1) (param_not_void one.type there.1) parts.0, complete_ones types unit others there.2 parts.1)

pub complete_by : (opens : List ℕ) (types : CTypes) (unit : ℕ) (written : CTy) (params : List CParam) (code : IsCode written params) → IsKnownType opens types unit written → parts_incomplete types (form_of_type written) ≡ false
    → (result_incomplete types code.result ≡ false) × AreCompleteOnes types params
complete_by opens types unit written params code known fine =
    let parts = neither {a = result_incomplete types code.result} (subst (λ t. parts_incomplete types (form_of_type t) ≡ false) code.written_is fine) in
    (parts.0, by_list code.list code.listed_as (subst (IsKnownType opens types unit) code.written_is known) parts.1)
  where
    by_list : (list : CParams) → AreParamsAs list params → IsKnownType opens types unit (ty (function code.result list code.variadic) false) → params_incomplete types list ≡ false → AreCompleteOnes types params
    by_list unlisted same held none = subst (AreCompleteOnes types) (sym same) tt
    by_list (listed all) same held none =
        complete_ones types unit params (subst (AreTypesIn types unit) same held.type_in.2.1) (subst (λ all. any_incomplete types all ≡ false) same none)
