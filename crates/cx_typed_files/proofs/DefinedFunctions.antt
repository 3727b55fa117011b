-- A function whose definition breaks no rule is typed (ISO C99, 6.9.1).
use Rattle.std.proofs.Common.{◌≡◌, ℕ, zero, suc, true, false, List, [], ◌∷◌, ◌++◌, map, length, None, Some, slice_get, bytes_eq, refl, sym, ap, ◌∙◌, subst}
use Rattle.std.specs.Prelude.{IsSome, IfSome}
use Rattle.cr_base.specs.declared.refusal.Place.{Place as TextPlace}
use Rattle.cx_core.specs.Linked.{home_of, IsTypedFunction}
use Rattle.std.specs.List.{Contains, IsDistinct}
use Rattle.cx_core.specs.Conversions.{IsPromoted}
use Rattle.cx_core.specs.Statements.{CBody, with_objects, labels_in, IsBlock, IsTypedStmt, IsParamObject, AreParams, AreParamsOf, IsDefinition, IsDefinitionOf, body_of}
use Rattle.cx_core.specs.Trees.{CTy, ty, void, basic, enum_type, pointer, array, record_type, function, CParams, unlisted, listed, CTys, form_of_type, CTypes, CFun, stmt, block}
use Rattle.cx_core.specs.Typing.{CHome, object_with, IsResult}
use Rattle.cx_core.specs.ValidTypes.{IsTypeIn, IsComplete}
use Rattle.cx_rules.specs.Declare.{is_linked}
use Rattle.cx_rules.specs.Rules.{result_incomplete}
use Rattle.cx_rules.specs.Scope.{CScope}
use Rattle.cx_rules.specs.Shapes.{CParam, param_types}
use Rattle.cx_rules.specs.Types.{is_void}
use Rattle.cx_rules.specs.UnitWalk.{CWhere, CMeant, stmts_of}
use Rattle.cx_typed.proofs.Growing.{type_stays, complete_stays}
use Rattle.cx_typed.proofs.Scopes.{grows_on}
use Rattle.cx_typed.specs.Growth.{Grows}
use Rattle.cx_typed.specs.Operands.{IsKnownType}
use Rattle.cx_typed_files.proofs.FunctionTypes.{AreParamsAs, IsCode, AreCompleteOnes, result_is}
use Rattle.cx_typed_files.proofs.Heads.{param_object}
use Rattle.cx_typed_units.proofs.Blocks.{contains_behind, contains_first, contains_later, are_front, are_itself}
use Rattle.cx_typed_units.specs.Statements.{StandsIn, AreItems}
use Rattle.cx_typed_units.specs.Stretches.{IsMadeThere, Backs, IsHeldAt}

param_in : (params : List CParam) (index : ℕ) (one : CParam) → slice_get params index ≡ Some one → Contains (map (λ param. param.object) params) one.object
param_in [] index one is = absurd cc
param_in (first ∷ others) zero one is = let e : first ≡ one = cc in subst (λ (x : CParam). Contains (map (λ param. param.object) (first ∷ others)) x.object) e (contains_first (map (λ param. param.object) others) first.object)
param_in (first ∷ others) (suc index) one is = contains_later (map (λ param. param.object) others) first.object one.object (param_in others index one is)

result_void : (types : CTypes) (result : CTy) → (is_void result ≡ false → IsComplete types result) → IsResult types result
result_void types (ty void is_const) complete = tt
result_void types (ty (basic which) is_const) complete = complete refl
result_void types (ty (enum_type number) is_const) complete = complete refl
result_void types (ty (pointer to) is_const) complete = complete refl
result_void types (ty (array element length) is_const) complete = complete refl
result_void types (ty (record_type number) is_const) complete = complete refl
result_void types (ty (function result params variadic) is_const) complete = complete refl

module _ (opens : List ℕ) (behind inside inner : CScope) (params : List CParam) (written : CTy) (code : IsCode written params) (known : IsKnownType opens inside.types inside.unit written) (fixed : code.variadic ≡ false)
    (result_fine : result_incomplete inside.types code.result ≡ false) (complete : AreCompleteOnes inside.types params) (where_is : CWhere) (result_same : where_is.result ≡ code.result) (loop_same : where_is.in_loop ≡ false)
    (switch_same : where_is.in_switch ≡ None) (labels : List (List ℕ)) (labels_same : where_is.labels ≡ labels) (all : CMeant) (items : AreItems opens where_is labels inside all inner) (place : TextPlace) (fun : CFun)
    (params_are : fun.params ≡ map (λ param. param.object) params) (body_is : fun.body ≡ stmt place all.objects (block (stmts_of all.stmts))) (type_is : fun.type ≡ written) (linked : is_linked fun.linkage ≡ true)
    (unit_is : fun.unit ≡ inside.unit) (same_unit : behind.unit ≡ inside.unit) where
  module _ (home : CHome) (backs : Backs home opens inside inner) (there : (index : ℕ) (one : CParam) → slice_get params index ≡ Some one → object_with one.object home.program.objects ≡ Some (param_object behind one))
      (held : (scope : List ℕ) → ((index : ℕ) (one : CParam) → slice_get params index ≡ Some one → Contains scope one.object) → IsHeldAt (record home { scope = scope }) inside.declared) where
    abbrev own_home : CHome
    own_home = home_of home.program home.mentions fun.unit

    home_unit : home.unit ≡ fun.unit
    home_unit = backs.unit_is ∙ sym unit_is

    types_grow : Grows opens inside.types home.program.types
    types_grow = grows_on opens inside.types inner.types home.program.types items.leads.declares.grows backs.grows

    params_by : (ones : List CParam) (types : CTys) → types ≡ param_types ones → AreCompleteOnes inside.types ones
        → ((index : ℕ) (one : CParam) → slice_get ones index ≡ Some one → object_with one.object home.program.objects ≡ Some (param_object behind one)) → AreParams own_home (map (λ param. param.object) ones) types
    params_by [] types same done each = subst (AreParams own_home []) (sym same) tt
    params_by (one ∷ others) types same done each =
        subst (AreParams own_home (one.object ∷ map (λ param. param.object) others)) (sym same) (
          subst IsSome (sym (each zero one refl)) refl,
          subst (λ x. IfSome x (IsParamObject own_home one.type)) (sym (each zero one refl)) (record {
            object = record { no_linkage = refl; not_static = refl; here = same_unit ∙ sym unit_is; complete = complete_stays opens inside.types home.program.types types_grow one.type done.0 };
            type_is = refl;
          }),
          params_by others (param_types others) refl done.1 (λ index x is. each (suc index) x is),
        )

    params_of_list : (list : CParams) → AreParamsAs list params → AreParamsOf own_home fun.params list
    params_of_list unlisted same = params_are ∙ ap (map (λ param. param.object)) same
    params_of_list (listed types) same = subst (λ numbers. AreParams own_home numbers types) (sym params_are) (params_by params types same complete there)

    known_code : IsKnownType opens inside.types inside.unit (ty (function code.result code.list code.variadic) false)
    known_code = subst (IsKnownType opens inside.types inside.unit) code.written_is known

    result_whole : IsResult home.program.types code.result
    result_whole =
        result_void home.program.types code.result
        (λ some. complete_stays opens inside.types home.program.types types_grow code.result (result_is inside.types code.result known_code.type_in.1 result_fine some))

    abbrev own_body : CBody
    own_body = body_of own_home code.result fun

    stands : StandsIn where_is (with_objects all.objects own_body)
    stands = record {
      result_is = sym result_same;
      labels_are = ap labels_in body_is ∙ (items.labels_are ∙ sym labels_same);
      in_loop_is = sym loop_same;
      in_switch_is = sym switch_same;
      switchable = subst (λ found. IfSome found IsPromoted) (sym switch_same) tt;
    }

    own_backs : (scope : List ℕ) → Backs (record own_home { scope = scope }) opens inside inner
    own_backs scope = record {
      unit_is = unit_is;
      grows = backs.grows;
      told = backs.told;
      told_is = backs.told_is;
      mentions = backs.mentions;
      literals = λ number one from is. subst (λ unit. IsMadeThere home.program unit one) home_unit (backs.literals number one from is);
      objects = backs.objects;
      things = backs.things;
      statics = backs.statics;
    }

    inner_scope : (index : ℕ) (one : CParam) → slice_get params index ≡ Some one → Contains (all.objects ++ fun.params) one.object
    inner_scope index one is = subst (λ numbers. Contains (all.objects ++ numbers) one.object) (sym params_are) (contains_behind all.objects (map (λ param. param.object) params) one.object (param_in params index one is))

    held_own : IsHeldAt (record own_home { scope = all.objects ++ fun.params }) inside.declared
    held_own = subst (λ unit. IsHeldAt (record { program = home.program; mentions = home.mentions; unit = unit; scope = all.objects ++ fun.params }) inside.declared) home_unit (held (all.objects ++ fun.params) inner_scope)

    body_typed : IsTypedStmt own_body [] (stmt place all.objects (block (stmts_of all.stmts)))
    body_typed = (
      items.blocks (record own_home { scope = fun.params }) (own_backs fun.params),
      items.typed (with_objects all.objects own_body) all.objects stands (own_backs (all.objects ++ fun.params)) held_own (are_front all.objects fun.params) (are_itself all.objects),
    )

    defined : IsDefinition own_home fun code.result code.list code.variadic
    defined = record {
      fixed = fixed;
      result_complete = result_whole;
      params_are = params_of_list code.list code.listed_as;
      labels_differ = subst (λ s. IsDistinct bytes_eq (labels_in s)) (sym body_is) (items.adds (subst (λ found. IfSome found IsPromoted) (sym switch_same) tt)).labels_added.differ;
      is_block = subst IsBlock (sym body_is) tt;
      body = subst (IsTypedStmt own_body []) (sym body_is) body_typed;
    }

    pub function_typed : IsTypedFunction home.program home.mentions fun
    function_typed = record {
      type_in = subst (λ unit. IsTypeIn home.program.types unit fun.type) (sym unit_is)
          (subst (IsTypeIn home.program.types inside.unit) (sym type_is) (type_stays opens inside.types home.program.types types_grow inside.unit written known.type_in));
      linked = linked;
      definition = subst (λ t. IsDefinitionOf own_home fun (form_of_type t)) (sym (type_is ∙ code.written_is)) defined;
    }
