-- What parameters give where the walk over them finds no broken node (ISO C99, 6.7.5.3).
use Rattle.std.specs.Prelude.{◌≡◌, ℕ, Bool, true, false, List, [], ◌++◌, Option, IfSome, slice_get}
use Rattle.cx_core.specs.Trees.{CTypes, form_of_type}
use Rattle.cx_core.specs.ValidTypes.{MayVary, AreTypesIn, IsParamForm}
use Rattle.cx_rules.specs.Pieces.{param_list}
use Rattle.cx_rules.specs.Readings.{Seen, seen_gives, seen_chain, seen_here, seen_becomes, seen_look}
use Rattle.cx_rules.specs.Scope.{CDeclared, CScope}
use Rattle.cx_rules.specs.Shapes.{CParam, param_types}
use Rattle.cx_rules.specs.Walk as walk
use Rattle.cx_tree.specs.Trees.{SpecTrees, DeclaratorTree, Function, ParamTree, Param, ParamTrees, no_params, more_params}
use Rattle.cx_typed.specs.Declarators.{ShapeGoes}
use Rattle.cx_typed.specs.Growth.{Gives, Grows, AreSettled}
use Rattle.cx_typed.specs.Operands.{IsKnownType}
use Rattle.cx_typed.specs.Scopes.{rest_of, TakesNumbers}
use Rattle.cx_typed.specs.Specifiers.{SpecsGo}
use Rattle.cx_typed.specs.Walked.{IsGood, Ends}

-- as `Passes`, but parameters may be declared, too
pub record Declares (opens : List ℕ) (before after : CScope) : Type 0 where
  pub unit_is : after.unit ≡ before.unit
  pub grows : Grows opens before.types after.types
  pub mentions : (number : ℕ) → Gives (slice_get before.mentions number) (slice_get after.mentions number)
  pub literals : (number : ℕ) → Gives (slice_get before.literals number) (slice_get after.literals number)
  pub front : List CDeclared
  pub declared_is : after.declared ≡ front ++ before.declared
  pub rest_is : rest_of after ≡ rest_of before
  pub numbers : TakesNumbers before after
  pub makes_none : after.literals ≡ before.literals

pub record IsKnownParam (opens : List ℕ) (types : CTypes) (unit : ℕ) (one : CParam) : Type 0 where
  pub known : IsKnownType opens types unit one.type
  pub form : IsParamForm (form_of_type one.type)

-- a parameter, or `void`, which says that there is none
pub record IsParam (opens : List ℕ) (is_only : Bool) (before : CScope) (found : Option CParam) (after : CScope) : Type 0 where
  pub good : IsGood opens after
  pub declares : Declares opens before after
  pub known : IfSome found (IsKnownParam opens after.types after.unit)
  pub there : is_only ≡ false → MayVary (param_types (param_list found [])) true

abbrev pub HasParams : ParamTrees → Type 0
HasParams no_params = ⊥
HasParams (more_params first others) = Unit {0}

pub record AreParams (opens : List ℕ) (is_only : Bool) (trees : ParamTrees) (before : CScope) (params : List CParam) (after : CScope) : Type 0 where
  pub good : IsGood opens after
  pub declares : Declares opens before after
  pub types_in : AreTypesIn after.types after.unit (param_types params)
  pub settled : AreSettled opens (param_types params)
  pub there : is_only ≡ false → HasParams trees → MayVary (param_types params) true

abbrev pub ParamGoes : ParamTree → Type 0
ParamGoes tree = (opens : List ℕ) (is_only : Bool) (scope : CScope) → IsGood opens scope
    → Ends (walk.param_walk Seen seen_gives seen_chain seen_here seen_becomes seen_look is_only tree) scope (IsParam opens is_only scope)

abbrev pub ParamsGo : ParamTrees → Type 0
ParamsGo trees = (opens : List ℕ) (is_only : Bool) (scope : CScope) → IsGood opens scope
    → Ends (walk.params_walk Seen seen_gives seen_chain seen_here seen_becomes seen_look is_only trees) scope (AreParams opens is_only trees scope)

pub record ParamFormsGo : Type 0 where
  pub param : (specs : SpecTrees) (declarator : DeclaratorTree) (lines : List ℕ) → SpecsGo specs → ShapeGoes declarator → ParamGoes (Param specs declarator lines)
  pub none : ParamsGo no_params
  pub more : (first : ParamTree) (others : ParamTrees) → ParamGoes first → ParamsGo others → ParamsGo (more_params first others)
  -- further arguments follow at least one parameter (6.7.5p1)
  pub function : (of : DeclaratorTree) (params : ParamTrees) (variadic : Bool) (lines : List ℕ) → (variadic ≡ true → HasParams params) → ShapeGoes of → ParamsGo params
      → ShapeGoes (Function of params variadic lines)
