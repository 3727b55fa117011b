-- Which of the pairs of 6.5.15p3 the second and third operand of `?:` are, and the type that they have together (ISO C99, 6.5.15p5, p6).
use Rattle.std.specs.Prelude.{Bool, true, false, Option, None, Some}
use Rattle.cx_core.specs.Trees.{CTy, CTypes}
use Rattle.cx_pairs.specs.declared.choosing.Choice.{Choice}
use Rattle.cx_pairs.specs.declared.choosing.Choice.TheVariants.{Integers, Voids, First, Second, Targets, VoidTargets, Nothing}
use Rattle.cx_rules.specs.Meanings.{pointer_to_both, unqualified_composite}
use Rattle.cx_rules.specs.Operands.{COperand, value_type, common_of}
use Rattle.cx_rules.specs.Types.{target_of, void_type}

-- the type of two operands together
abbrev pub choice_as : CTypes → COperand → COperand → Choice → Option CTy
choice_as types first second Integers = Some (common_of types first second)
choice_as types first second Voids = Some void_type
choice_as types first second First = Some (value_type first)
choice_as types first second Second = Some (value_type second)
choice_as types first second Targets =
    pointer_to_both unqualified_composite (target_of (value_type first)) (target_of (value_type second))
choice_as types first second VoidTargets =
    pointer_to_both (λ _ _. void_type) (target_of (value_type first)) (target_of (value_type second))
choice_as types first second Nothing = None

-- they are no such pair
abbrev pub is_no_choice : Choice → Bool
is_no_choice Nothing = true
is_no_choice _ = false
