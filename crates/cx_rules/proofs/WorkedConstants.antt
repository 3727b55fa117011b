-- Worked integer constant expressions with operators that such an expression has only where they aren't evaluated (ISO C99, 6.6p3).
use Rattle.std.proofs.Common.{◌≡◌, ℕ, pos, true, false, Option, None, Some, refl}
use Rattle.cr_base.specs.declared.refusal.Place.{Place}
use Rattle.cx_core.specs.Trees.{CTypes, no_types_yet, CExpr, expr, CForm, whole, object, load, or, cond, step, comma}
use Rattle.cx_rules.specs.Operands.{constant_of}
use Rattle.cx_rules.specs.Types.{int_type}

here : Place
here = record { unit = 0; line = 1 }

abbrev of_form : CForm → CExpr
of_form form = expr int_type here form

abbrev number : ℕ → CExpr
number value = of_form (whole (pos value))

-- `(2, 3)`
abbrev two_three : CExpr
two_three = of_form (comma (number 2) (number 3))

-- `(2, 3)` is evaluated
evaluated_comma : constant_of no_types_yet two_three ≡ None
unfolding constant_of
evaluated_comma = refl

-- `1 ? 0 : (2, 3)` isn't
comma_beside_a_choice : constant_of no_types_yet (of_form (cond (number 1) (number 0) two_three)) ≡ Some (pos 0)
unfolding constant_of
comma_beside_a_choice = refl

-- `0 ? 0 : (2, 3)` is
chosen_comma : constant_of no_types_yet (of_form (cond (number 0) (number 0) two_three)) ≡ None
unfolding constant_of
chosen_comma = refl

-- `1 || (2, 3)`
comma_behind_a_truth : constant_of no_types_yet (of_form (or (number 1) two_three)) ≡ Some (pos 1)
unfolding constant_of
comma_behind_a_truth = refl

-- `1 || (x, 3)` and `1 || x++`: an object is no operand of such an expression, and a step is none of its operators
comma_of_an_object : constant_of no_types_yet (of_form (or (number 1) (of_form (comma (of_form (load (of_form (object 0)))) (number 3))))) ≡ None
unfolding constant_of
comma_of_an_object = refl

step_that_is_not_evaluated : constant_of no_types_yet (of_form (or (number 1) (of_form (step true true (of_form (object 0)))))) ≡ None
unfolding constant_of
step_that_is_not_evaluated = refl
