use Rattle.std.proofs.Common.{sym, ap, ◌∙◌, map, option_map, Some}
use Rattle.rs_text.specs.Tree.{StaticTree}
use Rattle.rs_tree.specs.declared.ty.RTy.{RTy}
use Rattle.rs_tree.specs.Views.{module_view, ty_view}
use Rattle.rs_layout.proofs.Found.{static_is_found}
use Rattle.rs_layout.proofs.lookup.static_type.Goals as goal

pub returns-in-Some : goal.returns-in-Some
returns-in-Some c = ap (λ (ty : RTy). Some (ty_view ty)) c.get.ensures
    ∙ ap (option_map (λ (object : StaticTree). object.ty)) c.in-Some.ensures
    ∙ sym (static_is_found (map module_view c.args.modules.now) c.args.path.now.home c.args.path.now.name)

pub returns-in-None : goal.returns-in-None
returns-in-None c = ap (option_map (λ (object : StaticTree). object.ty)) c.in-None.ensures
    ∙ sym (static_is_found (map module_view c.args.modules.now) c.args.path.now.home c.args.path.now.name)
