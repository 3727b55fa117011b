-- The types of declarators that break no rule are known (ISO C99, 6.7.5).
use Rattle.std.specs.Prelude.{◌≡◌, ℕ, ◌<◌, Bool, false, List, [], ◌∷◌, Option, None, Some, IfSome}
use Rattle.cx_core.specs.Trees.{CTy, CTypes}
use Rattle.cx_core.specs.ValidTypes.{MayVary, AreTypesIn}
use Rattle.cx_rules.specs.Nodes.{derives_node}
use Rattle.cx_rules.specs.Scope.{CScope}
use Rattle.cx_rules.specs.Shapes.{CParam, CStep, to_pointer, to_array, to_function, param_types, derived}
use Rattle.cx_typed.specs.Growth.{AreSettled}
use Rattle.cx_typed.specs.Operands.{IsKnownType}
use Rattle.cx_typed.specs.Unbroken.{IsUnbroken}

-- known types of parameters; further arguments follow at least one (6.7.5p1, 6.7.5.3)
abbrev pub AreKnownParams : List ℕ → CTypes → ℕ → Bool → Option (List CParam) → Type 0
AreKnownParams opens types unit variadic None = variadic ≡ false
AreKnownParams opens types unit variadic (Some params) =
    MayVary (param_types params) variadic × AreTypesIn types unit (param_types params) × AreSettled opens (param_types params)

-- an array that has a length has one element or more (6.7.5.2p1)
abbrev pub IsKnownStep : List ℕ → CTypes → ℕ → CStep → Type 0
IsKnownStep opens types unit (to_pointer is_const is_restrict) = Unit {0}
IsKnownStep opens types unit (to_array length) = IfSome length (λ count. 0 < count)
IsKnownStep opens types unit (to_function params variadic within) = AreKnownParams opens types unit variadic params

abbrev pub AreKnownSteps : List ℕ → CTypes → ℕ → List CStep → Type 0
AreKnownSteps opens types unit [] = Unit {0}
AreKnownSteps opens types unit (step ∷ steps) = IsKnownStep opens types unit step × AreKnownSteps opens types unit steps

-- so a type that is derived from a known one is
abbrev pub DerivedTypesAreKnown : Type 0
DerivedTypesAreKnown = (opens : List ℕ) (scope : CScope) (types : CTypes) (unit : ℕ) (from : CTy) (steps : List CStep) → IsKnownType opens types unit from
    → AreKnownSteps opens types unit steps → IsUnbroken scope types (derives_node from steps) → IsKnownType opens types unit (derived from steps)
