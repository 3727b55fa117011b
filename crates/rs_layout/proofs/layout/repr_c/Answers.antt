use Rattle.std.proofs.Common.{◌≡◌, List, map, ap, sym, subst, ◌∙◌, is_some}
use Rattle.rs_mean.specs.Layout.{laid_of}
use Rattle.rs_tree.specs.declared.item.Module.{Module}
use Rattle.rs_tree.specs.Views.{crate_view, module_view, ty_view}
use Rattle.rs_layout.specs.Layouts.{ModulesAreAligned}
use Rattle.rs_layout.proofs.LayoutsAligned.{crate_aligned}
use Rattle.rs_layout.proofs.LayoutsTyped.{type_in_none}
use Rattle.rs_layout.proofs.layout.repr_c.Goals as goal

pub laid_of-requires : goal.laid_of-requires
laid_of-requires c =
    subst (λ (list : List Module). ModulesAreAligned (map module_view list)) (sym c.as_slice.ensures)
    (crate_aligned (crate_view c.args.whole.now) c.requires.valid)

pub returns-clause-none : goal.returns-clause-none
returns-clause-none c =
    let modules = map module_view c.args.whole.now.modules in
    let laid : c.laid_of.result ≡ laid_of modules (ty_view c.args.ty.now) =
    c.laid_of.ensures.laid ∙ ap (λ (list : List Module). laid_of (map module_view list) (ty_view c.args.ty.now)) c.as_slice.ensures in (
      λ none. type_in_none (crate_view c.args.whole.now) c.requires.typed (ty_view c.args.ty.now) c.requires.ty (ap (λ found. is_some found) (sym laid) ∙ none),
      λ void. ap (λ found. is_some found) (laid ∙ ap (laid_of modules) void),
    )
