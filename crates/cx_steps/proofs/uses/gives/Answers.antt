use Rattle.std.proofs.Common.{◌≡◌, refl, sym, subst, Ok}
use Rattle.cx_mean.specs.State.{value_given}
use Rattle.cx_moves.specs.Sites.{view_site}
use Rattle.cx_steps.proofs.Going.{gives_by}
use Rattle.cx_work.specs.declared.operand.Finished.{Finished}
use Rattle.cx_work.specs.Views.{view_finished}
use Rattle.cx_steps.proofs.uses.gives.Goals as goal

pub returns-in-Scalar-clause-steps : goal.returns-in-Scalar-clause-steps
returns-in-Scalar-clause-steps g c =
    gives_by c.args.machine.now c.args.place (view_site c.args.machine.now.site) (view_finished c.args.value) c.returns.result _ _ _ _ _
    (subst (λ (one : Finished). value_given (view_finished one) ≡ Ok (view_finished one)) (sym c.in-Scalar.is) refl) c.returns.ensures.steps

pub returns-in-Cells-clause-steps : goal.returns-in-Cells-clause-steps
returns-in-Cells-clause-steps g c =
    gives_by c.args.machine.now c.args.place (view_site c.args.machine.now.site) (view_finished c.args.value) c.returns-in-Cells.result _ _ _ _ _
    (subst (λ (one : Finished). value_given (view_finished one) ≡ Ok (view_finished one)) (sym c.in-Cells.is) refl) c.returns-in-Cells.ensures.steps
