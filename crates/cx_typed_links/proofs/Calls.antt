-- A call of a type in a unit is one of the renumbered type in the program (ISO C99, 6.5.2.2).
use Rattle.std.proofs.Common.{◌≡◌, ℕ, Bool, length, Option, None, Some, refl, sym, ap, ◌∙◌, subst}
use Rattle.cx_core.specs.declared.ty.Basic.{Basic}
use Rattle.cx_core.specs.Conversions.{basic_of, IsPromoted}
use Rattle.cx_core.specs.Trees.{CTy, ty, CTyForm, void, basic, enum_type, pointer, array, record_type, function, CParams, unlisted, listed, CTys, no_types, more_types, form_of_type, CExpr, expr, CExprs, no_exprs, more_exprs, type_of, CTypes}
use Rattle.cx_core.specs.Typing.{IsTrailing, AreArguments, AreArgumentsOf, IsResult, IsCallOf, IsCallBy}
use Rattle.cx_core.specs.ValidTypes.{IsTypeIn, IsObjectForm}
use Rattle.cx_renumber.specs.Numbers.{CNumbers, type_there, form_there, params_there, types_there, expr_there, exprs_there}
use Rattle.cx_typed_links.proofs.Sizes.{complete_there}
use Rattle.cx_typed_links.proofs.Types.{unqualified_there, of_object_there, is_promoted_there, basic_same}
use Rattle.cx_typed_links.specs.Embedding.{AreUnitTypes}

-- the type of a renumbered expression
pub type_of_there : (numbers : CNumbers) (of : CExpr) → type_of (expr_there numbers of) ≡ type_there numbers.before (type_of of)
type_of_there numbers (expr type place form) = refl

-- the arguments have types of the unit
abbrev pub HaveTypesIn : CTypes → ℕ → CExprs → Type 0
HaveTypesIn types unit no_exprs = Unit {0}
HaveTypesIn types unit (more_exprs first others) = IsTypeIn types unit (type_of first) × HaveTypesIn types unit others

module _ (unit : ℕ) (numbers : CNumbers) (one whole : CTypes) (in_unit : AreUnitTypes unit numbers.before one whole) where
  abbrev moved : CTy → CTy
  moved type = type_there numbers.before type

  pub result_there : (type : CTy) → IsResult one type → IsResult whole (moved type)
  result_there (ty void is_const) held = held
  result_there (ty (basic which) is_const) held = complete_there numbers.before one whole in_unit.inside (ty (basic which) is_const) held
  result_there (ty (enum_type number) is_const) held = complete_there numbers.before one whole in_unit.inside (ty (enum_type number) is_const) held
  result_there (ty (pointer to) is_const) held = complete_there numbers.before one whole in_unit.inside (ty (pointer to) is_const) held
  result_there (ty (array element length) is_const) held =
      complete_there numbers.before one whole in_unit.inside (ty (array element length) is_const) held
  result_there (ty (record_type number) is_const) held = complete_there numbers.before one whole in_unit.inside (ty (record_type number) is_const) held
  result_there (ty (function result params variadic) is_const) held =
      complete_there numbers.before one whole in_unit.inside (ty (function result params variadic) is_const) held

  abbrev IsTrailingOf : CTy → Option Basic → Type 0
  IsTrailingOf type (Some which) = IsPromoted type
  IsTrailingOf type None = IsObjectForm (form_of_type type)

  trailing_as_there : (type : CTy) (found : Option Basic) → IsTrailingOf type found → IsTrailingOf (moved type) found
  trailing_as_there type (Some which) held = is_promoted_there numbers.before type held
  trailing_as_there type None held = of_object_there numbers.before type held

  trailing_there : (type : CTy) → IsTypeIn one unit type → IsTrailing one type → IsTrailing whole (moved type)
  trailing_there type known held =
      subst (IsTrailingOf (moved type)) (sym (basic_same numbers.before one whole in_unit.inside in_unit.types.enum_units unit type known))
      (trailing_as_there type (basic_of one (form_of_type type)) held)

  pub arguments_there : (params : CTys) (variadic : Bool) (args : CExprs) → HaveTypesIn one unit args → AreArguments one params variadic args
      → AreArguments whole (types_there numbers.before params) variadic (exprs_there numbers args)
  arguments_there no_types variadic no_exprs known held = held
  arguments_there no_types variadic (more_exprs (expr type place form) others) known held =
      (held.0, trailing_there type known.0 held.1, arguments_there no_types variadic others known.1 held.2)
  arguments_there (more_types param params) variadic no_exprs known held = held
  arguments_there (more_types param params) variadic (more_exprs (expr type place form) others) known held =
      (ap moved held.0 ∙ unqualified_there numbers.before param, arguments_there params variadic others known.1 held.1)

  arguments_of_there : (params : CParams) (variadic : Bool) (args : CExprs) → HaveTypesIn one unit args → AreArgumentsOf one params variadic args
      → AreArgumentsOf whole (params_there numbers.before params) variadic (exprs_there numbers args)
  arguments_of_there unlisted variadic args known held = ap (exprs_there numbers) held
  arguments_of_there (listed params) variadic args known held = arguments_there params variadic args known held

  pub call_of_there : (type : CTy) (args : CExprs) (form : CTyForm) → HaveTypesIn one unit args → IsCallOf one type args form
      → IsCallOf whole (moved type) (exprs_there numbers args) (form_there numbers.before form)
  call_of_there type args (function result params variadic) known held = (
    ap moved held.0 ∙ unqualified_there numbers.before result,
    result_there result held.1,
    arguments_of_there params variadic args known held.2,
  )
  call_of_there type args form known held = absurd held

  pub call_as_there : (type : CTy) (args : CExprs) (of : CTy) → HaveTypesIn one unit args → IsCallOf one type args (form_of_type of)
      → IsCallOf whole (moved type) (exprs_there numbers args) (form_of_type (moved of))
  call_as_there type args (ty form is_const) known held = call_of_there type args form known held

  pub call_by_there : (type : CTy) (args : CExprs) (callee : CTy) → HaveTypesIn one unit args → IsCallBy one type args callee
      → IsCallBy whole (moved type) (exprs_there numbers args) (moved callee)
  call_by_there type args (ty (pointer to) is_const) known held = call_as_there type args to known held
  call_by_there type args (ty form is_const) known held = absurd held
