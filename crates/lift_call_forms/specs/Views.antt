-- What a value of the declared types says of calls and their arguments.
use Rattle.lift_call_forms.specs.declared.arguments.Argument.{Argument}
use Rattle.lift_call_forms.specs.declared.callees.Callee.{Callee}
use Rattle.lift_call_forms.specs.declared.called.Called.{Called}
use Rattle.lift_call_forms.specs.declared.called.Called.TheVariants as called
use Rattle.lift_exprs.specs.Calls as spec
use Rattle.lift_exprs.specs.Names.{KeptFunction, Names}
use Rattle.lift_forms.specs.Given.{value}
use Rattle.rs_tree.specs.Views.{ty_view, expr_view}

abbrev pub argument_view : Argument → spec.Argument
argument_view one = record { ty = ty_view one.ty; passed = expr_view one.passed }

abbrev pub callee_view : Callee → KeptFunction
callee_view one = record { home = one.path.home; name = one.path.name; ty = ty_view one.ty; symbol = one.symbol }

abbrev pub called_view : Names → Called → spec.Called
called_view names (called.ByName number) = spec.called_by_name names number
called_view names (called.ByPointer ty pointer) = spec.called_by_pointer (record { ty = ty_view ty; given = value (expr_view pointer) })
