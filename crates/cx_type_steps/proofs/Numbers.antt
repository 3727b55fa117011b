-- What is written as a number.
use Rattle.std.proofs.Common.{◌≡◌, refl, ℕ, ℤ, pos, negsuc, List, Option, Some, None, option_map}
use Rattle.cx_core.specs.Trees.{CTypes}
use Rattle.cx_rules.specs.Nodes.{enumerator_node}
use Rattle.cx_rules.specs.Operands.{COperand, value_of, constant_of}
use Rattle.cx_rules.specs.Pieces.{width_written}
use Rattle.cx_rules.specs.Readings.{Check, check_gives, check_chain, check_here, check_becomes, check_look}
use Rattle.cx_rules.specs.Scope.{CScope, an_enumerator, with_declared}
use Rattle.cx_rules.specs.Walk as walk
use Rattle.cx_type_steps.specs.Steps as steps
use Rattle.cx_type_steps.specs.Written.{natural_of, value_given}

pub width_is : (types : CTypes) (operand : COperand) (found : Option ℤ) → found ≡ constant_of types (value_of operand) → option_map natural_of found ≡ width_written types (Some operand)
width_is types operand None e = rw (← e) refl
width_is types operand (Some (pos n)) e = rw (← e) refl
width_is types operand (Some (negsuc n)) e = rw (← e) refl

pub enumerator_is : (name : List ℕ) (line : ℕ) (next : ℤ) (written : Option COperand) (scope : CScope) →
    steps.enumerator_seen name line next written scope ≡
    walk.changed Check check_gives check_chain check_here check_becomes check_look scope line (enumerator_node name written (value_given scope.types next written))
    (with_declared name (an_enumerator (value_given scope.types next written)) scope) (value_given scope.types next written) scope
unfolding check_chain check_here
enumerator_is name line next None scope = refl
enumerator_is name line next (Some written) scope = refl
