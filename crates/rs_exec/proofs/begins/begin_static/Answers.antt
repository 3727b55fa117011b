use Rattle.std.proofs.Common.{◌∙◌, ap, map}
use Rattle.rs_mean.specs.Layout.{laid_of}
use Rattle.rs_tree.specs.declared.ty.RTy.{RTy}
use Rattle.rs_tree.specs.Views.{module_view, ty_view}
use Rattle.rs_machine.proofs.Pieces.{then_does, stops_first}
use Rattle.rs_exec.proofs.Started.{laid_first, literals_are}
use Rattle.rs_exec.proofs.begins.begin_static.Goals as goal

pub returns-in-Err : goal.returns-in-Err
returns-in-Err g c = λ kept host.
    laid_first (map module_view c.args.modules.now) c.laid_of.result (ty_view c.args.object.now.ty) _
    (c.laid_of.ensures.laid ∙ ap (λ (ty : RTy). laid_of (map module_view c.args.modules.now) (ty_view ty)) c.get.ensures) (stops_first _ (c.in-Err.ensures kept host))

pub returns : goal.returns
returns g c = λ kept host.
    laid_first (map module_view c.args.modules.now) c.laid_of.result (ty_view c.args.object.now.ty) _
    (c.laid_of.ensures.laid ∙ ap (λ (ty : RTy). laid_of (map module_view c.args.modules.now) (ty_view ty)) c.get.ensures)
    (then_does _ (c.in-Ok.ensures kept host) (literals_are _ _ _ c.literals_of.ensures (c.store_literals.ensures kept host)))
