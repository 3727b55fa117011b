-- What `parse` answers, and the law of what tokens derive.
use Rattle.std.specs.Prelude.{◌≡◌, ℕ, ⊤, List, Result, Ok, Err}
use Rattle.cr_base.specs.declared.refusal.Stop.{Stop}
use Rattle.cr_base.specs.declared.refusal.Stop.TheVariants.{Refused, Memory}
use Rattle.cr_base.specs.declared.rule.Rule.TheVariants.{S1}
use Rattle.cx_lex.specs.declared.token.Token.{Token}
use Rattle.cx_tree.specs.declared.unit.Unit.{Unit as UnitValue}
use Rattle.cx_tree.specs.Derives.{Derives}
use Rattle.cx_tree.specs.Trees.{UnitTree}
use Rattle.cx_tree.specs.Views.{unit_view}

-- the result is this tree, unless memory ran out
abbrev pub IsUnlessMemory : Result UnitValue Stop → UnitTree → Type 0
IsUnlessMemory (Ok unit) tree = unit_view unit ≡ tree
IsUnlessMemory (Err (Refused refusal)) tree = ⊥
IsUnlessMemory (Err Memory) tree = ⊤

-- a refusal says by S1, of that unit, that the tokens derive no tree; want of memory says nothing
abbrev pub IsNotDerived : List Token → ℕ → Stop → Type 0
IsNotDerived tokens unit (Refused refusal) = (refusal.rule ≡ S1) × (refusal.unit ≡ unit) × ((tree : UnitTree) → Derives tokens tree → ⊥)
IsNotDerived tokens unit Memory = ⊤

-- two trees that the same tokens derive are equal
abbrev pub OneTree : Type 0
OneTree = (tokens : List Token) (a b : UnitTree) → Derives tokens a → Derives tokens b → a ≡ b
