use Rattle.std.proofs.Common.{ap, ◌∙◌, map}
use Rattle.rs_mean.specs.Layout.{laid_at}
use Rattle.rs_tree.specs.Views.{module_view, ty_view}
use Rattle.rs_layout.specs.Layouts.{array_laid}
use Rattle.rs_layout.proofs.Layouts.{laid_without, laid_of_record, laid_of_none}
use Rattle.rs_layout.proofs.layout.laid_of.Goals as goal

pub returns-in_default-clause-laid : goal.returns-in_default-clause-laid
returns-in_default-clause-laid c =
    c.plain_laid.ensures.laid ∙ laid_without (laid_at (map module_view c.args.modules.now)) (ty_view c.args.ty.now) c.in_default.ensures

pub returns-in-Some-laid_at-clause-laid : goal.returns-in-Some-laid_at-clause-laid
returns-in-Some-laid_at-clause-laid c =
    c.array_laid.ensures.laid
    ∙ ap (array_laid (ty_view c.args.ty.now)) c.in-Some-laid_at.ensures.laid
    ∙ laid_of_record (laid_at (map module_view c.args.modules.now)) (ty_view c.args.ty.now) c.in-Some.path.now c.in-Some.ensures

pub returns-in-None-clause-laid : goal.returns-in-None-clause-laid
returns-in-None-clause-laid c =
    laid_of_none (laid_at (map module_view c.args.modules.now)) (ty_view c.args.ty.now) c.in-Some.path.now c.in-Some.ensures c.in-None.ensures.laid
