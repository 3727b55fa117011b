use Rattle.std.proofs.Common.{◌∙◌, ap, map, option_map, List, Option}
use Rattle.std.specs.Option.{option_copied}
use Rattle.rs_text.specs.Tree.{tys, option_ty}
use Rattle.rs_tree.specs.declared.item.Local.{Local}
use Rattle.rs_tree.specs.declared.ty.RTy.{RTy}
use Rattle.rs_tree.specs.Views.{local_view, ty_view}
use Rattle.rs_scene.specs.Calls.{are_alike}
use Rattle.rs_scene.proofs.signatures.called_as.Goals as goal

pub returns : goal.returns
returns c =
    c.are_alike.ensures
    ∙ ap (λ (list : List Local). are_alike (map (λ param. param.ty) (map local_view list)) (tys (map ty_view c.args.pointed.params.now)) (option_map ty_view (option_copied c.result_ty.result))
    (option_ty (option_map ty_view (option_copied c.args.pointed.given)))) c.as_slice.ensures
    ∙ ap (λ (given : Option RTy). are_alike (map (λ param. param.ty) (map local_view c.args.fun.now.params)) (tys (map ty_view c.args.pointed.params.now)) (option_map ty_view given)
    (option_ty (option_map ty_view (option_copied c.args.pointed.given)))) c.result_ty.ensures
