use Rattle.std.proofs.Common.{◌≡◌, ◌++◌, map, length}
use Rattle.lift_call_forms.specs.Passed.{passed_from}
use Rattle.lift_call_forms.specs.Views.{argument_view}
use Rattle.rs_tree.specs.Views.{ty_view, expr_view}
use Rattle.lift_call_forms.proofs.arguments.passed_in.Given as goal

abbrev pub invariant-loop-one : goal.invariant-loop-one
invariant-loop-one l =
    map expr_view l.made ++ passed_from (map ty_view l.params) (length l.made) (map argument_view l.one-iterator.rest.items)
    ≡ passed_from (map ty_view l.params) 0 (map argument_view l.fn.args)
