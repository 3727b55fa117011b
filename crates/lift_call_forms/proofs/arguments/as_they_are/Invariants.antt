use Rattle.std.proofs.Common.{◌≡◌, ◌++◌, map}
use Rattle.lift_call_forms.specs.Views.{argument_view}
use Rattle.lift_exprs.specs.Calls as spec
use Rattle.rs_tree.specs.Views.{expr_view}
use Rattle.lift_call_forms.proofs.arguments.as_they_are.Given as goal

abbrev pub invariant-loop-one : goal.invariant-loop-one
invariant-loop-one l =
    map expr_view l.made ++ spec.as_they_are (map argument_view l.one-iterator.rest.items) ≡ spec.as_they_are (map argument_view l.fn.args)
