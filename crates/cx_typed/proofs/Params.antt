-- The walk over parameters, which are a scope (ISO C99, 6.2.1p4, 6.7.5.3).
use Rattle.std.proofs.Common.{◌≡◌, ℕ, ◌-◌, ◌+◌, Bool, true, false, not, ◌&&◌, if◌then◌else◌, List, [], ◌∷◌, ◌++◌, length, drop, Option, None, Some, is_none, bytes_eq, refl, sym, ap, ◌∙◌, subst, append_assoc, length-append, arith}
use Rattle.cx_core.specs.declared.program.Linkage.TheVariants.{Nothing}
use Rattle.cx_core.specs.Trees.{CTy, ty, void, basic, enum_type, pointer, array, record_type, function, CTys, no_types, more_types, form_of_type, is_const_type, CTypes}
use Rattle.cx_core.specs.ValidTypes.{IsTypeIn, IsObjectForm, IsParamForm, MayVary}
use Rattle.cx_rules.proofs.NodesAgree.{s_params_begin, s_params_end}
use Rattle.cx_rules.specs.Nodes.{param_node}
use Rattle.cx_rules.specs.Pieces.{is_single, param_as, param_list, with_param}
use Rattle.cx_rules.specs.Rules.{is_empty}
use Rattle.cx_rules.specs.Scope.{CMeant, an_object, CDeclared, CScope, entered, left, ordinary, tag}
use Rattle.cx_rules.specs.Shapes.{CSpecs, CParam, CShape, adjusted, no_specs_yet, param_types, base_type}
use Rattle.cx_rules.specs.Types.{is_void}
use Rattle.cx_tree.specs.Trees.{SpecTrees, DeclaratorTree, Function, ParamTree, Param, ParamTrees, no_params, more_params}
use Rattle.cx_typed.proofs.Declarators.{shape_on}
use Rattle.cx_typed.proofs.DeclaredForms.{object_declared}
use Rattle.cx_typed.proofs.Derived.{derived_known}
use Rattle.cx_typed.proofs.Goes.{go_gives, go_becomes, go_here_then, go_chain, go_settled, go_changed}
use Rattle.cx_typed.proofs.Growing.{type_stays}
use Rattle.cx_typed.proofs.Numbered.{numbers_by}
use Rattle.cx_typed.proofs.Scopes.{grows_not, grows_on, passes_on}
use Rattle.cx_typed.proofs.Specified.{specified}
use Rattle.cx_typed.proofs.Tags.{meant_stays, tag_stays}
use Rattle.cx_typed.proofs.Walked.{type_on}
use Rattle.cx_typed.specs.Declarators.{IsShape, ShapeGoes}
use Rattle.cx_typed.specs.Names.{IsKnownMeant, IsKnownTag}
use Rattle.cx_typed.specs.Operands.{IsKnownType}
use Rattle.cx_typed.specs.Params.{Declares, IsKnownParam, IsParam, HasParams, AreParams, ParamGoes, ParamsGo, ParamFormsGo}
use Rattle.cx_typed.specs.Scopes.{Passes}
use Rattle.cx_typed.specs.Specifiers.{AreSpecs, SpecsGo}
use Rattle.cx_typed.specs.Unbroken.{IsUnbroken}
use Rattle.cx_typed.specs.Walked.{IsGood, Ends, IsTypeName}

-- ---- what is declared

module _ (opens : List ℕ) where
  passes_declare : (before after : CScope) → Passes opens before after → after.literals ≡ before.literals → Declares opens before after
  passes_declare before after passes same = record {
    unit_is = passes.unit_is;
    grows = passes.grows;
    mentions = passes.mentions;
    literals = passes.literals;
    front = passes.front;
    declared_is = passes.declared_is;
    rest_is = passes.rest_is;
    numbers = passes.numbers;
    makes_none = same;
  }

  nothing_more : (scope : CScope) → Declares opens scope scope
  nothing_more scope = record {
    unit_is = refl;
    grows = grows_not opens scope.types;
    mentions = λ number x is. is;
    literals = λ number x is. is;
    front = [];
    declared_is = refl;
    rest_is = refl;
    numbers = numbers_by scope scope (omega arith) refl;
    makes_none = refl;
  }

  declares_on : (before middle after : CScope) → Declares opens before middle → Declares opens middle after → Declares opens before after
  declares_on before middle after one other = record {
    unit_is = other.unit_is ∙ one.unit_is;
    grows = grows_on opens before.types middle.types after.types one.grows other.grows;
    mentions = λ number x is. other.mentions number x (one.mentions number x is);
    literals = λ number x is. other.literals number x (one.literals number x is);
    front = other.front ++ one.front;
    declared_is = other.declared_is ∙ (ap (λ declared. other.front ++ declared) one.declared_is ∙ sym (append_assoc other.front one.front before.declared));
    rest_is = other.rest_is ∙ one.rest_is;
    numbers = numbers_by before after (let a = one.numbers.grows in let b = other.numbers.grows in omega (arith, a, b)) (other.makes_none ∙ one.makes_none);
    makes_none = other.makes_none ∙ one.makes_none;
  }

-- ---- leaving the scope of parameters

behind_front : (front behind : List CDeclared) → drop (length (front ++ behind) - length behind) (front ++ behind) ≡ behind
behind_front front behind = dropped front behind (length (front ++ behind) - length behind) (count front behind)
  where
    count : (front behind : List CDeclared) → length (front ++ behind) - length behind ≡ length front
    count front behind = let h : length (front ++ behind) ≡ length front + length behind = length-append front behind in omega (arith, h)

    dropped : (front behind : List CDeclared) (n : ℕ) → n ≡ length front → drop n (front ++ behind) ≡ behind
    dropped [] behind n is = ap (λ count. drop count behind) is
    dropped (first ∷ front) behind n is = ap (λ count. drop count (first ∷ (front ++ behind))) is ∙ dropped front behind (length front) refl

module _ (opens : List ℕ) (before : CScope) (good : IsGood opens before) (after : CScope) (declares : Declares opens before after) (after_good : IsGood opens after) where
  abbrev back : CScope
  back = left (length before.declared) before.begins after

  back_declared : back.declared ≡ before.declared
  back_declared = ap (λ declared. drop (length declared - length before.declared) declared) declares.declared_is ∙ behind_front declares.front before.declared

  back_passes : Passes opens before back
  back_passes = record {
    unit_is = declares.unit_is;
    grows = declares.grows;
    declared = λ name meant thing is. ap (ordinary name) (sym back_declared) ∙ is;
    mentions = declares.mentions;
    literals = declares.literals;
    front = [];
    declared_is = back_declared;
    begins_is = refl;
    rest_is = declares.rest_is;
    numbers = numbers_by before back declares.numbers.grows declares.makes_none;
  }

  back_good : IsGood opens back
  back_good = record {
    sound = after_good.sound;
    known = λ name meant is.
        subst (λ unit. IsKnownMeant opens after.types unit meant) (sym declares.unit_is)
        (meant_stays opens before.types after.types declares.grows before.unit meant (good.known name meant (ap (ordinary name) (sym back_declared) ∙ is)));
    tags = λ name one is.
        subst (λ unit. IsKnownTag opens after.types unit name one) (sym declares.unit_is)
        (tag_stays opens before.types after.types declares.grows before.unit name one (good.tags name one (ap (tag name) (sym back_declared) ∙ is)));
  }

-- ---- a parameter

module _ (opens : List ℕ) (types : CTypes) (unit : ℕ) where
  adjusted_known : (type : CTy) → is_void type ≡ false → IsKnownType opens types unit type → IsKnownType opens types unit (adjusted type) × IsParamForm (form_of_type (adjusted type))
  adjusted_known (ty (array element length) is_const) some known = (record { type_in = known.type_in.0; settled = known.settled }, tt)
  adjusted_known (ty (function result params variadic) is_const) some known = (record { type_in = known.type_in; settled = known.settled }, tt)
  adjusted_known (ty void is_const) some known = absurd cc
  adjusted_known (ty (basic which) is_const) some known = (known, tt)
  adjusted_known (ty (enum_type number) is_const) some known = (known, tt)
  adjusted_known (ty (pointer to) is_const) some known = (known, tt)
  adjusted_known (ty (record_type number) is_const) some known = (known, tt)

object_form : (type : CTy) → IsParamForm (form_of_type type) → IsObjectForm (form_of_type type)
object_form (ty (array element length) is_const) form = absurd form
object_form (ty (function result params variadic) is_const) form = absurd form
object_form (ty void is_const) form = absurd form
object_form (ty (basic which) is_const) form = tt
object_form (ty (enum_type number) is_const) form = tt
object_form (ty (pointer to) is_const) form = tt
object_form (ty (record_type number) is_const) form = tt

module _ (opens : List ℕ) (scope : CScope) (good : IsGood opens scope) where
  name_known : (name other : List ℕ) (one : CParam) (meant : CMeant) → IsKnownParam opens scope.types scope.unit one → (test : Bool)
      → (if test then Some (an_object one.object one.type one.is_register Nothing) else ordinary other scope.declared) ≡ Some meant → IsKnownMeant opens scope.types scope.unit meant
  name_known name other one meant known true is =
      let e : an_object one.object one.type one.is_register Nothing ≡ meant = cc in
      subst (IsKnownMeant opens scope.types scope.unit) e (known.known, object_declared Nothing (form_of_type one.type) (object_form one.type known.form))
  name_known name other one meant known false is = good.known other meant is

  declared_good : (name : Option (List ℕ)) (one : CParam) → one.name ≡ name → IsKnownParam opens scope.types scope.unit one → IsGood opens (with_param (Some (record one { name = name })) scope)
  declared_good None one is known = record { sound = good.sound; known = good.known; tags = good.tags }
  declared_good (Some name) one is known = record {
    sound = good.sound;
    known = λ other meant found. name_known name other one meant known (bytes_eq name other) found;
    tags = good.tags;
  }

nothing_said : (is_nothing is_only rest : Bool) → (is_nothing && not (is_only && rest)) ≡ false → is_nothing ≡ true → is_only ≡ false → ⊥
nothing_said true false rest fine is only = absurd cc
nothing_said true true rest fine is only = absurd cc
nothing_said false is_only rest fine is only = absurd cc

module _ (opens : List ℕ) (before scope : CScope) (good : IsGood opens scope) (declares : Declares opens before scope) where
  param_declares : (name : Option (List ℕ)) (one : CParam) → Declares opens before (with_param (Some (record one { name = name })) scope)
  param_declares None one = declares_on opens before scope (with_param (Some (record one { name = None })) scope) declares (record {
    unit_is = refl;
    grows = grows_not opens scope.types;
    mentions = λ number x is. is;
    literals = λ number x is. is;
    front = [];
    declared_is = refl;
    rest_is = refl;
    numbers = numbers_by scope (with_param (Some (record one { name = None })) scope) (omega arith) refl;
    makes_none = refl;
  })
  param_declares (Some name) one = declares_on opens before scope (with_param (Some (record one { name = Some name })) scope) declares (record {
    unit_is = refl;
    grows = grows_not opens scope.types;
    mentions = λ number x is. is;
    literals = λ number x is. is;
    front = record { name = name; meant = an_object one.object one.type one.is_register Nothing } ∷ [];
    declared_is = refl;
    rest_is = refl;
    numbers = numbers_by scope (with_param (Some (record one { name = Some name })) scope) (omega arith) refl;
    makes_none = refl;
  })

  param_kept : (name : Option (List ℕ)) (one : CParam) → IsKnownParam opens scope.types scope.unit one
      → IsKnownParam opens (with_param (Some (record one { name = name })) scope).types (with_param (Some (record one { name = name })) scope).unit one
  param_kept None one known = record { known = known.known; form = known.form }
  param_kept (Some name) one known = record { known = known.known; form = known.form }

  param_is : (is_only : Bool) (specs : CSpecs) (name : Option (List ℕ)) (type : CTy) → IsKnownType opens scope.types scope.unit type → IsUnbroken scope scope.types (param_node is_only specs name type)
      → (test : Bool) → is_void type ≡ test
      → IsParam opens is_only before (if test then None else Some (param_as scope specs name type)) (with_param (if test then None else Some (param_as scope specs name type)) scope)
  param_is is_only specs name type known unbroken true is = record {
    good = good;
    declares = declares;
    known = tt;
    there = λ only. absurd (nothing_said (is_void type) is_only (is_none name && (is_empty specs.storage && not (is_const_type type))) unbroken.k7 is only);
  }
  param_is is_only specs name type known unbroken false is =
      let made = adjusted_known opens scope.types scope.unit type is known in
      let held : IsKnownParam opens scope.types scope.unit (param_as scope specs name type) = record { known = made.0; form = made.1 } in
      record {
        good = declared_good opens scope good name (param_as scope specs name type) refl held;
        declares = param_declares name (param_as scope specs name type);
        known = param_kept name (param_as scope specs name type) held;
        there = λ only. tt;
      }

pub param_goes : (specs : SpecTrees) (declarator : DeclaratorTree) (lines : List ℕ) → SpecsGo specs → ShapeGoes declarator → ParamGoes (Param specs declarator lines)
param_goes specs declarator lines first second opens is_only scope good =
    go_chain _ _ _ _ scope (AreSpecs opens scope) _ (first opens false no_specs_yet scope good tt) (λ all middle held.
    go_chain _ _ _ _ middle (λ done last. AreSpecs opens scope all last) _ (go_here_then _ _ middle _ (go_settled _ middle _ _ _ middle (λ done last. AreSpecs opens scope all last) (λ unbroken. held))) (λ done last seen.
    go_chain _ _ _ _ last (IsShape opens last) _ (second opens last seen.good) (λ shape later behind.
    go_chain _ _ _ _ later (IsTypeName opens scope) _ (go_here_then _ _ later _ (go_settled _ later _ _ _ later (IsTypeName opens scope) (λ unbroken. record {
      good = behind.good;
      passes = passes_on opens scope last later seen.passes behind.passes;
      makes_none = behind.makes_none ∙ seen.makes_none;
      known =
          derived_known opens later later.types later.unit (base_type all) shape.steps
          (type_on opens last later (base_type all) behind.passes (specified opens last.types last.unit all seen.known)) behind.known unbroken;
    }))) (λ type after typed.
    go_here_then _ _ after _ (go_changed _ after _ _ _ _ after _ (λ unbroken.
    param_is opens scope after typed.good (passes_declare opens scope after typed.passes typed.makes_none) is_only all shape.name type typed.known unbroken (is_void type) refl))))))

-- ---- all parameters

pub no_params_go : ParamsGo no_params
no_params_go opens is_only scope good = go_gives [] scope _ (record {
  good = good;
  declares = nothing_more opens scope;
  types_in = tt;
  settled = tt;
  there = λ only has. absurd has;
})

module _ (opens : List ℕ) (is_only : Bool) (first : ParamTree) (others : ParamTrees) (before middle after : CScope) where
  both_are : (found : Option CParam) (more : List CParam) → IsParam opens is_only before found middle → AreParams opens false others middle more after
      → AreParams opens is_only (more_params first others) before (param_list found more) after
  both_are None more one behind = record {
    good = behind.good;
    declares = declares_on opens before middle after one.declares behind.declares;
    types_in = behind.types_in;
    settled = behind.settled;
    there = λ only has. absurd (let h : true ≡ false = one.there only in cc);
  }
  both_are (Some param) more one behind = record {
    good = behind.good;
    declares = declares_on opens before middle after one.declares behind.declares;
    types_in = (
      subst (λ unit. IsTypeIn after.types unit param.type) (sym behind.declares.unit_is)
          (type_stays opens middle.types after.types behind.declares.grows middle.unit param.type one.known.known.type_in),
      one.known.form,
      behind.types_in,
    );
    settled = (one.known.known.settled, behind.settled);
    there = λ only has. tt;
  }

pub more_params_go : (first : ParamTree) (others : ParamTrees) → ParamGoes first → ParamsGo others → ParamsGo (more_params first others)
more_params_go first others one more opens is_only scope good =
    go_chain _ _ _ _ scope (IsParam opens is_only scope) _ (one opens is_only scope good) (λ found middle held.
    go_chain _ _ _ _ middle (AreParams opens false others middle) _ (more opens false middle held.good) (λ params after behind.
    go_gives _ after _ (both_are opens is_only first others scope middle after found params held behind)))

-- ---- functions

record IsBegun (opens : List ℕ) (middle value last : CScope) : Type 0 where
  good : IsGood opens last
  declares : Declares opens middle last
  value_is : value ≡ middle

begins : (opens : List ℕ) (scope : CScope) → IsGood opens scope → Ends s_params_begin scope (IsBegun opens scope)
begins opens scope good =
    go_here_then _ _ scope _ (go_chain _ _ _ _ scope (λ done last. last ≡ entered scope) _ (go_becomes (entered scope) scope (λ done last. last ≡ entered scope) refl) (λ done last is.
    go_gives scope last _ (subst (IsBegun opens scope scope) (sym is) (record {
      good = record { sound = good.sound; known = good.known; tags = good.tags };
      declares = record {
        unit_is = refl;
        grows = grows_not opens scope.types;
        mentions = λ number x is. is;
        literals = λ number x is. is;
        front = [];
        declared_is = refl;
        rest_is = refl;
        numbers = numbers_by scope (entered scope) (omega arith) refl;
        makes_none = refl;
      };
      value_is = refl;
    }))))

single_not : (params : ParamTrees) → is_single params true ≡ false
single_not no_params = refl
single_not (more_params first no_params) = refl
single_not (more_params first (more_params second others)) = refl

varies_not : (types : CTys) → MayVary types false
varies_not no_types = refl
varies_not (more_types first others) = tt

module _ (opens : List ℕ) (trees : ParamTrees) (scope middle last inner : CScope) (shape : CShape) (held : IsShape opens scope shape middle) (begun : Declares opens middle last) (params : List CParam) where
  varies : (variadic : Bool) → (variadic ≡ true → HasParams trees) → AreParams opens (is_single trees variadic) trees last params inner → MayVary (param_types params) variadic
  varies true has are = are.there (single_not trees) (has refl)
  varies false has are = varies_not (param_types params)

  ends_as : (variadic : Bool) → (variadic ≡ true → HasParams trees) → AreParams opens (is_single trees variadic) trees last params inner → Ends (s_params_end middle params variadic shape) inner (IsShape opens scope)
  ends_as variadic has are =
      let declares = declares_on opens middle last inner begun are.declares in
      let new = back opens middle held.good inner declares are.good in
      let passes = back_passes opens middle held.good inner declares are.good in
      go_here_then _ _ inner _ (go_chain _ _ _ _ inner (λ done after. after ≡ new) _ (go_becomes new inner (λ done after. after ≡ new) refl) (λ done after is.
      go_gives _ after _ (subst (IsShape opens scope _) (sym is) (record {
        good = back_good opens middle held.good inner declares are.good;
        passes = passes_on opens scope middle new held.passes passes;
        makes_none = declares.makes_none ∙ held.makes_none;
        known = ((varies variadic has are, are.types_in, are.settled), shape_on opens middle new shape.steps passes held.known);
      }))))

pub function_goes : (of : DeclaratorTree) (params : ParamTrees) (variadic : Bool) (lines : List ℕ) → (variadic ≡ true → HasParams params) → ShapeGoes of → ParamsGo params
    → ShapeGoes (Function of params variadic lines)
function_goes of params variadic lines has first second opens scope good =
    go_chain _ _ _ _ scope (IsShape opens scope) _ (first opens scope good) (λ shape middle held.
    go_chain _ _ _ _ middle (IsBegun opens middle) _ (begins opens middle held.good) (λ value last begun.
    go_chain _ _ _ _ last (AreParams opens (is_single params variadic) params last) _ (second opens (is_single params variadic) last begun.good) (λ list inner are.
    subst (λ one. Ends (s_params_end one list variadic shape) inner (IsShape opens scope)) (sym begun.value_is)
    (ends_as opens params scope middle last inner shape held begun.declares list variadic has are))))

pub params_go : ParamFormsGo
params_go = record { param = param_goes; none = no_params_go; more = more_params_go; function = function_goes }
