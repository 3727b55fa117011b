-- Which form a value of the declared type is.
use Rattle.lift_forms_code.specs.declared.given.RGiven.{RGiven}
use Rattle.lift_forms_code.specs.declared.given.RGiven.TheVariants as made
use Rattle.lift_forms.specs.Given.{Given, nothing, truth, value, place}
use Rattle.lift_forms.specs.Operators.{Operand}
use Rattle.rs_tree.specs.declared.ty.RTy.{RTy}
use Rattle.rs_tree.specs.Views.{ty_view, place_view, expr_view}

abbrev pub given_view : RGiven → Given
given_view made.Nothing = nothing
given_view (made.Truth e) = truth (expr_view e)
given_view (made.Value e) = value (expr_view e)
given_view (made.Place p) = place (place_view p)

-- what is given as an operand of a type
abbrev pub operand_view : RTy → RGiven → Operand
operand_view ty given = record { ty = ty_view ty; given = given_view given }
