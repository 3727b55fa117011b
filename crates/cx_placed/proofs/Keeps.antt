-- A scope that stands in some units, and the walks that keep it there and give what stands there.
use Rattle.std.proofs.Common.{ℕ, Bool, true, false, List}
use Rattle.std.specs.Prelude.{IfSome}
use Rattle.cx_core.specs.Trees.{CObject, CFun}
use Rattle.cx_placed.specs.Places.{ObjectStandsIn, FunctionStandsIn, PutsStandIn}
use Rattle.cx_placed.proofs.Lists.{Each}
use Rattle.cx_rules.specs.Nodes.{CNode, CPlaced}
use Rattle.cx_rules.specs.Pieces.{Done}
use Rattle.cx_rules.specs.Readings.{Seen, seen_gives, seen_chain, seen_here, seen_becomes, seen_look}
use Rattle.cx_rules.specs.Scope.{CMade, CScope}
use Rattle.cx_rules.specs.Walk as walk

-- what is stored in the object of a literal before the program begins
abbrev pub MadeStandsIn : (ℕ → Type 0) → CMade → Type 0
MadeStandsIn Among made = IfSome made.fixed (PutsStandIn Among)

-- the unit of a scope is among these, and the places of all that it holds are
pub record Holds (Among : ℕ → Type 0) (unit : ℕ) (literals : List CMade) (objects : List CObject) (functions : List CFun) : Type 0 where
  pub own : Among unit
  pub literals_stand : Each (MadeStandsIn Among) literals
  pub objects_stand : Each (ObjectStandsIn Among) objects
  pub functions_stand : Each (FunctionStandsIn Among) functions

abbrev pub ScopeStands : (ℕ → Type 0) → CScope → Type 0
ScopeStands Among scope = Holds Among scope.unit scope.literals scope.objects scope.functions

-- nothing is asked of a value that holds no tree
abbrev pub Anything : (A : Type 0) → A → Type 0
Anything A value = Unit {0}

-- from a scope that stands there a walk comes to one that does, and gives a value of which this holds
pub record Keeps (Among : ℕ → Type 0) (A : Type 0) (P : A → Type 0) (seen : Seen A) : Type 0 where
  pub scope_stands : (scope : CScope) → ScopeStands Among scope → ScopeStands Among (seen scope).scope
  pub meaning_stands : (scope : CScope) → ScopeStands Among scope → P (seen scope).meaning

module _ {Among : ℕ → Type 0} where
  pub on_gives : (A : Type 0) (P : A → Type 0) (value : A) → P value → Keeps Among A P (seen_gives A value)
  unfolding seen_gives
  on_gives A P value held = record { scope_stands = λ scope stands. stands; meaning_stands = λ scope stands. held }

  pub on_chain : (A B : Type 0) (P : A → Type 0) (Q : B → Type 0) (seen : Seen A) (next : A → Seen B) → Keeps Among A P seen
      → ((value : A) → P value → Keeps Among B Q (next value)) → Keeps Among B Q (seen_chain A B seen next)
  unfolding seen_chain
  on_chain A B P Q seen next first second = record {
    scope_stands = λ scope stands. (second (seen scope).meaning (first.meaning_stands scope stands)).scope_stands (seen scope).scope (first.scope_stands scope stands);
    meaning_stands = λ scope stands. (second (seen scope).meaning (first.meaning_stands scope stands)).meaning_stands (seen scope).scope (first.scope_stands scope stands);
  }

  pub on_here : Keeps Among CScope (ScopeStands Among) seen_here
  unfolding seen_here
  on_here = record { scope_stands = λ scope stands. stands; meaning_stands = λ scope stands. stands }

  pub on_becomes : (new : CScope) → ScopeStands Among new → Keeps Among Done (Anything Done) (seen_becomes new)
  unfolding seen_becomes
  on_becomes new held = record { scope_stands = λ scope stands. held; meaning_stands = λ scope stands. tt }

  pub on_look : (placed : CPlaced) → Keeps Among Done (Anything Done) (seen_look placed)
  unfolding seen_look
  on_look placed = record { scope_stands = λ scope stands. stands; meaning_stands = λ scope stands. tt }

  pub on_either : (A : Type 0) (P : A → Type 0) (test : Bool) (one other : Seen A) → Keeps Among A P one → Keeps Among A P other
      → Keeps Among A P (walk.either Seen seen_gives seen_chain seen_here seen_becomes seen_look test one other)
  on_either A P true one other first second = first
  on_either A P false one other first second = second

  pub on_settled : (A : Type 0) (P : A → Type 0) (scope : CScope) (line : ℕ) (node : CNode) (meaning : A) → P meaning
      → Keeps Among A P (walk.settled Seen seen_gives seen_chain seen_here seen_becomes seen_look scope line node meaning)
  on_settled A P scope line node meaning held = on_chain _ _ _ _ _ _ (on_look _) (λ _ _. on_gives _ _ _ held)

  pub on_changed : (A : Type 0) (P : A → Type 0) (scope : CScope) (line : ℕ) (node : CNode) (after : CScope) (meaning : A) → ScopeStands Among after → P meaning
      → Keeps Among A P (walk.changed Seen seen_gives seen_chain seen_here seen_becomes seen_look scope line node after meaning)
  on_changed A P scope line node after meaning stands held =
      on_chain _ _ _ _ _ _ (on_look _) (λ _ _. on_chain _ _ _ _ _ _ (on_becomes _ stands) (λ _ _. on_gives _ _ _ held))
