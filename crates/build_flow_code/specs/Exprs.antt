-- What is written for conditions and for values that a function gives back, of operands that are given.
use Rattle.std.specs.Prelude.{[], ◌∷◌, ◌++◌, if◌then◌else◌, Some, None}
use Rattle.build_flow_nodes.specs.Parts.{BodyNames, Return}
use Rattle.cx_core.specs.Trees.{CExpr, type_of}
use Rattle.lift_exprs.specs.Lifted.{operand_of}
use Rattle.lift_exprs.specs.Names.{Names}
use Rattle.lift_exprs.specs.Written.{address_of_given, copied}
use Rattle.lift_forms.specs.Given.{Given}
use Rattle.lift_forms.specs.Operators.{given_value, test_of}
use Rattle.lift_held.specs.Held.{is_record}
use Rattle.lift_stores.specs.Views.{Text}
use Rattle.rs_text.specs.Tree.{Expr, Local, Read, Stmt}

abbrev pub tested : Names → CExpr → Given → Expr
tested names e given = test_of (operand_of names e given)

-- a structure or union is written to where the result's parameter points
abbrev pub copied_out : BodyNames → CExpr → Given → Stmt
copied_out of e given = copied (address_of_given given) (Read (Local of.result)) (of.names.size_of (type_of e))

-- a value is given back
abbrev pub given_as : BodyNames → CExpr → Text → Return
given_as of e one =
    if is_record (type_of e) then record { body = one.body ++ copied_out of e one.given ∷ []; value = None } else record { body = one.body; value = Some (given_value one.given) }
