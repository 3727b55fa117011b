-- What specifiers give where the walk over them finds no broken node (ISO C99, 6.7.2, 6.7.7).
use Rattle.std.specs.Prelude.{◌≡◌, ℕ, Bool, List, [], ◌∷◌, Option}
use Rattle.cx_core.specs.Trees.{CTy, CTypes}
use Rattle.cx_lex.specs.declared.token.Keyword.{Keyword}
use Rattle.cx_rules.specs.Readings.{Seen, seen_gives, seen_chain, seen_here, seen_becomes, seen_look}
use Rattle.cx_rules.specs.Scope.{CScope}
use Rattle.cx_rules.specs.Shapes.{CSpecs}
use Rattle.cx_rules.specs.Walk as walk
use Rattle.cx_tree.specs.Trees.{SpecTree, Key, Typedef, Record, Enum, no_members, no_enumerator_list, SpecTrees, no_specs, more_specs}
use Rattle.cx_typed.specs.Operands.{IsKnownType}
use Rattle.cx_typed.specs.Scopes.{Passes}
use Rattle.cx_typed.specs.Walked.{IsGood, Ends}

abbrev pub AreKnownTypes : List ℕ → CTypes → ℕ → List CTy → Type 0
AreKnownTypes opens types unit [] = Unit {0}
AreKnownTypes opens types unit (type ∷ others) = IsKnownType opens types unit type × AreKnownTypes opens types unit others

-- the types that specifiers name are known
pub record AreSpecs (opens : List ℕ) (before : CScope) (specs : CSpecs) (after : CScope) : Type 0 where
  pub good : IsGood opens after
  pub passes : Passes opens before after
  pub makes_none : after.literals ≡ before.literals
  pub known : AreKnownTypes opens after.types after.unit specs.types

abbrev pub SpecGoes : SpecTree → Type 0
SpecGoes tree = (opens : List ℕ) (alone : Bool) (specs : CSpecs) (scope : CScope) → IsGood opens scope → AreKnownTypes opens scope.types scope.unit specs.types
    → Ends (walk.spec_walk Seen seen_gives seen_chain seen_here seen_becomes seen_look alone specs tree) scope (AreSpecs opens scope)

abbrev pub SpecsGo : SpecTrees → Type 0
SpecsGo trees = (opens : List ℕ) (alone : Bool) (specs : CSpecs) (scope : CScope) → IsGood opens scope → AreKnownTypes opens scope.types scope.unit specs.types
    → Ends (walk.specs_walk Seen seen_gives seen_chain seen_here seen_becomes seen_look alone specs trees) scope (AreSpecs opens scope)

-- keywords, `typedef` names, structures and unions without members, and enumerated types that are declared before
pub record SpecFormsGo : Type 0 where
  pub key : (word : Keyword) (lines : List ℕ) → SpecGoes (Key word lines)
  pub typedef : (name lines : List ℕ) → SpecGoes (Typedef name lines)
  pub record_use : (is_union : Bool) (name : Option (List ℕ)) (lines : List ℕ) → SpecGoes (Record is_union name no_members lines)
  pub enum_use : (name : Option (List ℕ)) (last_comma : Bool) (lines : List ℕ) → SpecGoes (Enum name no_enumerator_list last_comma lines)
  pub none : SpecsGo no_specs
  pub more : (first : SpecTree) (others : SpecTrees) → SpecGoes first → SpecsGo others → SpecsGo (more_specs first others)
