-- What lists of enumerators give where the walk over them finds no broken node (ISO C99, 6.7.2.2).
use Rattle.std.specs.Prelude.{◌≡◌, ℕ, ℤ, Bool, List, Option}
use Rattle.cx_rules.specs.Readings.{Seen, seen_gives, seen_chain, seen_here, seen_becomes, seen_look}
use Rattle.cx_rules.specs.Scope.{CScope}
use Rattle.cx_rules.specs.Walk as walk
use Rattle.cx_tree.specs.Trees.{OptionExprTree, Enum, some_enumerator_list, EnumeratorTree, Enumerator, EnumeratorTrees, no_enumerators, more_enumerators}
use Rattle.cx_typed.specs.Completed.{OptionGoes}
use Rattle.cx_typed.specs.Scopes.{Passes}
use Rattle.cx_typed.specs.Specifiers.{SpecGoes}
use Rattle.cx_typed.specs.Walked.{IsGood, Ends}

-- each enumerator is known from its end on
pub record AreEnumerators (opens : List ℕ) (before after : CScope) : Type 0 where
  pub good : IsGood opens after
  pub passes : Passes opens before after
  pub makes_none : after.literals ≡ before.literals

abbrev pub EnumeratorGoes : EnumeratorTree → Type 0
EnumeratorGoes tree = (opens : List ℕ) (next : ℤ) (scope : CScope) → IsGood opens scope
    → Ends (walk.enumerator_walk Seen seen_gives seen_chain seen_here seen_becomes seen_look next tree) scope (λ value after. AreEnumerators opens scope after)

abbrev pub EnumeratorsGo : EnumeratorTrees → Type 0
EnumeratorsGo trees = (opens : List ℕ) (next : ℤ) (negative : Bool) (scope : CScope) → IsGood opens scope
    → Ends (walk.enumerators_walk Seen seen_gives seen_chain seen_here seen_becomes seen_look next negative trees) scope (λ found after. AreEnumerators opens scope after)

pub record EnumeratorFormsGo : Type 0 where
  pub enumerator : (name : List ℕ) (value : OptionExprTree) (lines : List ℕ) → OptionGoes value → EnumeratorGoes (Enumerator name value lines)
  pub none : EnumeratorsGo no_enumerators
  pub more : (first : EnumeratorTree) (others : EnumeratorTrees) → EnumeratorGoes first → EnumeratorsGo others → EnumeratorsGo (more_enumerators first others)
  -- an enumerated type with its list: it is settled behind it
  pub enum_list : (name : Option (List ℕ)) (list : EnumeratorTrees) (last_comma : Bool) (lines : List ℕ) → EnumeratorsGo list
      → SpecGoes (Enum name (some_enumerator_list list) last_comma lines)
