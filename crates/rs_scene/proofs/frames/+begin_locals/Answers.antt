use Rattle.std.proofs.Common.{◌∙◌, ap, refl, map}
use Rattle.rs_mean.specs.Layout.{laid_of}
use Rattle.rs_tree.specs.declared.ty.RTy.{RTy}
use Rattle.rs_tree.specs.Views.{module_view, ty_view}
use Rattle.rs_scene.specs.Scenes.{held_local}
use Rattle.rs_scene.proofs.Begun.{no_locals, locals_stop, locals_go}
use Rattle.rs_scene.proofs.frames.+begin_locals.Goals as goal

pub returns-in_default : goal.returns-in_default
returns-in_default g t c = λ kept host. no_locals (map module_view c.args.modules.now) (map held_local c.args.begun.now) c.args.locals.now _ c.in_default.ensures.cases

pub returns-in-Err : goal.returns-in-Err
returns-in-Err g t c = λ kept host.
    locals_stop (map module_view c.args.modules.now) (map held_local c.args.begun.now) c.args.locals.now c.in-Some.others.now c.in-Some.one.now c.laid_of.result
    c.in-Some.ensures.cases.0 (c.laid_of.ensures.laid ∙ ap (λ (ty : RTy). laid_of (map module_view c.args.modules.now) (ty_view ty)) c.get.ensures) (c.in-Err.ensures kept host)

pub returns : goal.returns
returns g t c = λ kept host.
    locals_go (map module_view c.args.modules.now) c.args.begun.now c.push.new.self (record { of = c.in-Some.one; block = c.in-Ok.block }) c.args.locals.now c.in-Some.others.now c.in-Some.one.now
    c.laid_of.result c.in-Ok.block c.in-Some.ensures.cases.0 (c.laid_of.ensures.laid ∙ ap (λ (ty : RTy). laid_of (map module_view c.args.modules.now) (ty_view ty)) c.get.ensures) c.in_default-push.ensures.ok refl (c.in-Ok.ensures kept host) (c.begin_locals.ensures kept host)
