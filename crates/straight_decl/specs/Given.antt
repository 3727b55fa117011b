-- What the functions of this crate answer, beside what is meant.
use Rattle.std.specs.Prelude.{◌≡◌, ℕ, ⊤, List, [], ◌∷◌, ◌++◌, Option, Some, None, Result, Ok, Err}
use Rattle.cr_base.specs.declared.refusal.Refusal.{Refusal}
use Rattle.cr_base.specs.declared.refusal.Stop.{Stop}
use Rattle.cr_base.specs.declared.refusal.Stop.TheVariants.{Refused, Memory}
use Rattle.cr_base.specs.declared.rule.Rule.TheVariants.{N1}
use Rattle.straight_decl.specs.declared.scope.Scope.{Scope as Declared}
use Rattle.straight_core.specs.Trees.{CObject}
use Rattle.straight_decl.specs.CoreOf.{Scope, with_object}

-- the refusal of a unit that isn't typed yet
abbrev pub not_built : ℕ → Refusal
not_built unit = record { rule = N1; unit = unit; line = 1 }

-- why nothing was found: there is nothing, or memory was wanting
abbrev pub Stops : {Y : Type 0} → ℕ → Stop → Option Y → Type 0
Stops unit Memory meant = ⊤
Stops unit (Refused refusal) meant = (meant ≡ None) × (refusal ≡ not_built unit)

-- what was found, seen by a view, is what is meant
abbrev pub Gives : {X Y : Type 0} → (X → Y) → ℕ → Result X Stop → Option Y → Type 0
Gives view unit (Ok found) meant = meant ≡ Some (view found)
Gives view unit (Err stop) meant = Stops unit stop meant

-- the declarations of a scope
abbrev pub scope_of : Declared → Scope
scope_of scope = record { objects = scope.objects; has_putchar = scope.has_putchar }

-- one object more was declared, where there is one
pub record Declares (declared : Option CObject) (before after : Scope) (objects more : List CObject) : Type 0 where
  pub one : CObject
  pub is : declared ≡ Some one
  pub scope : after ≡ with_object before one
  pub objects_are : more ≡ objects ++ one ∷ []
