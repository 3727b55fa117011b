-- What is known between the external declarations of a unit (ISO C99, 6.9).
use Rattle.std.specs.Prelude.{◌≡◌, ℕ, false, List, [], None}
use Rattle.cx_core.specs.Linked.{block_objects}
use Rattle.cx_core.specs.Typing.{CHome}
use Rattle.cx_rules.specs.declared.kinds.SpecsPlace.TheVariants.{File}
use Rattle.cx_rules.specs.Readings.{Seen, seen_gives, seen_chain, seen_here, seen_becomes, seen_look}
use Rattle.cx_rules.specs.Scope.{CScope, no_labels, new_scope}
use Rattle.cx_rules.specs.UnitWalk as unit
use Rattle.cx_tree.specs.Trees.{DeclTree}
use Rattle.cx_typed.specs.Walked.{IsGood, Ends}
use Rattle.cx_typed_units.specs.Account.{account_of, IsAccounted}
use Rattle.cx_typed_units.specs.Once.{AreOnce}
use Rattle.cx_typed_units.specs.Spelled.{IsSpelledDecl}
use Rattle.cx_typed_units.specs.Stretches.{IsOrderly, AreCovered, Backs, IsHeldAt, AreTypedUpTo}

pub record IsAtFileScope (opens : List ℕ) (scope : CScope) : Type 0 where
  pub good : IsGood opens scope
  pub orderly : IsOrderly opens scope
  pub accounted : IsAccounted opens None (account_of scope)
  pub typed : AreTypedUpTo opens scope
  pub covered : AreCovered opens scope
  pub outside : scope.in_function ≡ false
  pub no_label : scope.body ≡ no_labels
  -- each object of a block is that of one block, and of one function (6.2.4p5)
  pub blocks : AreOnce 0 scope.next_object (block_objects scope.functions)
  -- what is declared is held, whichever block holds the place
  pub held : (home : CHome) → Backs home opens (new_scope scope.unit) scope → IsHeldAt home scope.declared

-- a unit begins so
abbrev pub UnitsBeginAtFileScope : Type 0
UnitsBeginAtFileScope = (unit : ℕ) → IsAtFileScope [] (new_scope unit)

-- and a declaration that breaks no rule leaves it so (6.7)
abbrev pub FileDeclarationsGo : Type 0
FileDeclarationsGo = (decl : DeclTree) → IsSpelledDecl decl → (opens : List ℕ) (scope : CScope) → IsAtFileScope opens scope
    → Ends (unit.decl_walk Seen seen_gives seen_chain seen_here seen_becomes seen_look File decl) scope (λ meant after. IsAtFileScope opens after × (after.unit ≡ scope.unit))
