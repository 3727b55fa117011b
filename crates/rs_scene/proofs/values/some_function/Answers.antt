use Rattle.std.proofs.Common.{◌∙◌, ap, subst, ℕ, List, Option, map, option_map}
use Rattle.rs_mean.specs.Lookups.{OwnFunction, number_from}
use Rattle.rs_mean.specs.Run.{function_value}
use Rattle.rs_machine.specs.Does.{Stays, end_of}
use Rattle.rs_machine.proofs.Outgoing.{settled_end}
use Rattle.rs_text.specs.Tree.{tys, option_ty}
use Rattle.rs_tree.specs.Views.{ty_view}
use Rattle.rs_value.specs.Views.{typed_view}
use Rattle.rs_scene.proofs.values.some_function.Goals as goal

pub returns : goal.returns
returns c =
    let is = c.in-Ok.ensures ∙ ap (λ (list : List OwnFunction). number_from 0 c.args.path.now.home c.args.path.now.name list) c.requires.functions in
    subst (λ (number : Option ℕ). Stays (function_value (tys (map ty_view c.args.params.now)) (option_ty (option_map ty_view c.args.given.now)) number) (end_of typed_view c.settle.result)) is
    (settled_end _ _ _ c.function_value.ensures c.settle.ensures)
