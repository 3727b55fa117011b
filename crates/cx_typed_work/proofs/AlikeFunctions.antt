-- Compatible function types have compatible results and parameters (ISO C99, 6.7.5.3p15).
use Rattle.std.proofs.Common.{◌≡◌, ℕ, suc, Bool, true, false, length, refl, sym, ap, ◌∙◌}
use Rattle.std.proofs.lemmas.Bool.{and_parts}
use Rattle.std.specs.Bool.{beq}
use Rattle.cx_core.specs.Compatible.{agree, forms_agree, params_agree, lists_agree, in_pairs, AreCompatible}
use Rattle.cx_core.specs.Trees.{CTy, ty, CTyForm, function, CParams, listed, CTys, no_types, more_types, types_in, form_of_type, unqualified, CTypes}
use Rattle.cx_typed_work.proofs.AlikeValues.{forms_meet}

-- lists of one length, whose types in one place have compatible unqualified versions
abbrev pub AreListsAlike : CTypes → CTys → CTys → Type 0
AreListsAlike types no_types no_types = Unit {0}
AreListsAlike types no_types (more_types second seconds) = ⊥
AreListsAlike types (more_types first firsts) no_types = ⊥
AreListsAlike types (more_types first firsts) (more_types second seconds) =
    AreCompatible types (unqualified first) (unqualified second) × AreListsAlike types firsts seconds

pub lists_same_length : (types : CTypes) (firsts seconds : CTys) → AreListsAlike types firsts seconds → length (types_in firsts) ≡ length (types_in seconds)
lists_same_length types no_types no_types alike = refl
lists_same_length types no_types (more_types second seconds) alike = absurd alike
lists_same_length types (more_types first firsts) no_types alike = absurd alike
lists_same_length types (more_types first firsts) (more_types second seconds) alike = ap suc (lists_same_length types firsts seconds alike.1)

module _ (types : CTypes) (counts : ℕ → ℕ → Bool) (compatible : (a b : CTy) → agree types counts a b ≡ true → AreCompatible types a b) where
  lists_alike : (firsts seconds : CTys) → lists_agree types counts firsts seconds ≡ true → AreListsAlike types firsts seconds
  lists_alike no_types no_types agrees = tt
  lists_alike no_types (more_types second seconds) agrees = absurd cc
  lists_alike (more_types (ty first first_const) firsts) no_types agrees = absurd cc
  lists_alike (more_types (ty first first_const) firsts) (more_types (ty second second_const) seconds) agrees =
      let parts = and_parts (forms_agree types counts first second) (lists_agree types counts firsts seconds) agrees in
      (compatible (ty first false) (ty second false) parts.0, lists_alike firsts seconds parts.1)

same_flag : (a b : Bool) → beq a b ≡ true → a ≡ b
same_flag true true same = refl
same_flag true false same = sym same
same_flag false true same = same
same_flag false false same = refl

functions_meet : (types : CTypes) (visible type : CTy) (form other : CTyForm) (by : AreCompatible types visible type) → form_of_type visible ≡ form → form_of_type type ≡ other → forms_agree types (in_pairs by.pairs) form other ≡ true
functions_meet types visible type form other by is other_is =
    ap (λ f. forms_agree types (in_pairs by.pairs) f other) (sym is)
    ∙ ap (λ f. forms_agree types (in_pairs by.pairs) (form_of_type visible) f) (sym other_is)
    ∙ forms_meet types (in_pairs by.pairs) visible type by.meet

-- the results of compatible function types are compatible
pub results_alike : (types : CTypes) (visible type result other_result : CTy) (params other_params : CParams) (variadic other_variadic : Bool) → AreCompatible types visible type
    → form_of_type visible ≡ function result params variadic → form_of_type type ≡ function other_result other_params other_variadic → AreCompatible types result other_result
results_alike types visible type result other_result params other_params variadic other_variadic by is other_is =
    let meets = functions_meet types visible type (function result params variadic) (function other_result other_params other_variadic) by is other_is in
    record { pairs = by.pairs; good = by.good; meet = (and_parts (agree types (in_pairs by.pairs) result other_result) (params_agree types (in_pairs by.pairs) params variadic other_params other_variadic) meets).0 }

-- their parameter lists, where both have one, are alike, and further arguments may follow in both or in none
pub params_alike : (types : CTypes) (visible type result other_result : CTy) (params other_params : CTys) (variadic other_variadic : Bool) → AreCompatible types visible type
    → form_of_type visible ≡ function result (listed params) variadic → form_of_type type ≡ function other_result (listed other_params) other_variadic
    → (variadic ≡ other_variadic) × AreListsAlike types params other_params
params_alike types visible type result other_result params other_params variadic other_variadic by is other_is =
    let meets = functions_meet types visible type (function result (listed params) variadic) (function other_result (listed other_params) other_variadic) by is other_is in
    let behind = (and_parts (agree types (in_pairs by.pairs) result other_result) (params_agree types (in_pairs by.pairs) (listed params) variadic (listed other_params) other_variadic) meets).1 in
    let parts = and_parts (beq variadic other_variadic) (lists_agree types (in_pairs by.pairs) params other_params) behind in (
      same_flag variadic other_variadic parts.0,
      lists_alike types (in_pairs by.pairs) (λ a b agrees. record { pairs = by.pairs; good = by.good; meet = agrees }) params other_params parts.1,
    )
