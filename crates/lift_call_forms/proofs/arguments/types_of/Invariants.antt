use Rattle.std.proofs.Common.{◌≡◌, ◌++◌, map, drop}
use Rattle.lift_call_forms.specs.Views.{argument_view}
use Rattle.lift_exprs.specs.Calls as spec
use Rattle.rs_tree.specs.Views.{ty_view}
use Rattle.lift_call_forms.proofs.arguments.types_of.Given as goal

abbrev pub invariant-loop-one : goal.invariant-loop-one
invariant-loop-one l =
    map ty_view l.made ++ map (λ (one : spec.Argument). one.ty) (map argument_view (drop l.one-index l.args))
    ≡ map (λ (one : spec.Argument). one.ty) (map argument_view l.args)
