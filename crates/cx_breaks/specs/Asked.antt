-- What rules ask of operands, each by a word that proofs open only where it is answered. Named by the contracts of parts alone.
use Rattle.std.specs.Prelude.{ℕ, Bool, false, not, ◌||◌, List, [], ◌∷◌, Option, option_map, is_none}
use Rattle.cx_core.specs.declared.expr.Op2.{Op2}
use Rattle.cx_core.specs.Trees.{CTy, CTyForm, CTypes, form_of_type, type_of}
use Rattle.cx_pairs.specs.Callees.{callee_form}
use Rattle.cx_rules.specs.declared.kinds.Pairing.{Pairing}
use Rattle.cx_rules.specs.Meanings.{CFoundMember, callee_type, choice_type, find_member}
use Rattle.cx_rules.specs.Operands.{COperand, gives_nothing, holds_nothing, is_null_constant, is_place, is_register_array, value_of, value_type}
use Rattle.cx_rules.specs.Pairs.{is_assignable, pairing}
use Rattle.cx_rules.specs.Rules.{args_unassignable, has_address, has_no_size, is_modifiable, is_record_operand, lacks_member_behind, not_callable, not_listed}
use Rattle.cx_rules.specs.Types.{target_of}

-- ---- values

-- its value can't be taken: it gives nothing, or it is an lvalue that holds no value
unfoldable pub lacks_value : CTypes → COperand → Bool
lacks_value types one = gives_nothing one || holds_nothing types one

unfoldable pub lacks_object : CTypes → COperand → Bool
lacks_object types one = holds_nothing types one

-- an array whose address can't be taken
unfoldable pub is_fixed : COperand → Bool
is_fixed one = is_register_array one

unfoldable pub type_taken : COperand → CTy
type_taken one = value_type one

unfoldable pub is_null : CTypes → COperand → Bool
is_null types one = is_null_constant types (value_of one)

-- ---- two operands

unfoldable pub pairing_taken : CTypes → Op2 → COperand → COperand → Pairing
pairing_taken types op left right = pairing types op (value_of left) (value_of right)

-- a value may be assigned to an lvalue
unfoldable pub may_be_stored : CTypes → COperand → COperand → Bool
may_be_stored types target value = is_assignable types (type_of target.core) (value_of value)

unfoldable pub is_unchosen : CTypes → COperand → COperand → Bool
is_unchosen types first second = is_none (choice_type types first second)

-- ---- what an operand is

unfoldable pub names_object : COperand → Bool
names_object one = is_place one

unfoldable pub may_change : CTypes → COperand → Bool
may_change types one = is_modifiable types one

unfoldable pub has_place : COperand → Bool
has_place one = has_address one

unfoldable pub is_sizeless : CTypes → COperand → Bool
is_sizeless types one = has_no_size types one

unfoldable pub is_no_pointee : COperand → Bool
is_no_pointee one = is_record_operand one

unfoldable pub member_named : CTypes → COperand → List ℕ → Option CFoundMember
member_named types of name = find_member types (type_of of.core) name

-- what stands behind `->` is no member of what the pointer points to
unfoldable pub lacks_behind : CTypes → COperand → List ℕ → Bool
lacks_behind types of name = lacks_member_behind types (target_of (value_type of)) name

-- ---- calls

-- the function type of what is called, where that is a function
unfoldable pub called_as : COperand → Option CTyForm
called_as callee = callee_form (option_map form_of_type (callee_type callee))

-- it has no parameter list
unfoldable pub lacks_list : Option CTyForm → Bool
lacks_list form = not_listed form

unfoldable pub cannot_be_called : CTypes → ℕ → Option CTyForm → Bool
cannot_be_called types count form = not_callable types count form

unfoldable pub takes_no_such : CTypes → List COperand → Option CTyForm → Bool
takes_no_such types args form = args_unassignable types args form

unfoldable pub may_be_given : CTypes → CTy → COperand → Bool
may_be_given types param arg = is_assignable types param (value_of arg)

-- some argument may not be assigned to its parameter
abbrev pub some_unfit : CTypes → List CTy → List COperand → Bool
some_unfit types [] args = false
some_unfit types (param ∷ params) [] = false
some_unfit types (param ∷ params) (arg ∷ args) = not (may_be_given types param arg) || some_unfit types params args
