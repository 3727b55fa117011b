-- Arguments and callees one by one. Named by the contracts of parts alone.
use Rattle.std.specs.Prelude.{ℕ, Bool, true, false, List, [], ◌∷◌, Option, None, Some}
use Rattle.cx_core.specs.Trees.{CTy, CTypes, CExpr, expr, CForm, code, CExprs, call, call_by}
use Rattle.cx_rules.specs.Meanings.{trailing_value}
use Rattle.cx_rules.specs.Operands.{COperand, fitted, value_of}

-- the value of an argument, as a parameter takes it where there is one
abbrev pub arg_for : CTypes → Option CTy → COperand → CExpr
arg_for types None arg = trailing_value types arg
arg_for types (Some param) arg = fitted types param (value_of arg)

-- the values of arguments from the left
abbrev pub values_for : CTypes → List CTy → List COperand → List CExpr
values_for types params [] = []
values_for types [] (arg ∷ args) = trailing_value types arg ∷ values_for types [] args
values_for types (param ∷ params) (arg ∷ args) = fitted types param (value_of arg) ∷ values_for types params args

-- the number of the function that a form names
abbrev number_in_form : CForm → Option ℕ
number_in_form (code number) = Some number
number_in_form _ = None

abbrev pub called_number : Bool → CExpr → Option ℕ
called_number true (expr type place form) = number_in_form form
called_number false callee = None

-- a call of a function by its number, or by what points to it
abbrev pub call_with : Option ℕ → CExpr → CExprs → CForm
call_with None callee args = call_by callee args
call_with (Some number) callee args = call number args
