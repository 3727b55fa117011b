use Rattle.std.proofs.Common.{◌∙◌, ap, refl, map}
use Rattle.rs_mean.specs.Layout.{laid_of}
use Rattle.rs_tree.specs.declared.ty.RTy.{RTy}
use Rattle.rs_tree.specs.Views.{module_view, ty_view}
use Rattle.rs_scene.specs.Scenes.{held_local}
use Rattle.rs_scene.proofs.Begun.{no_params_begin, no_args_begin, params_stop, stores_stop, params_go}
use Rattle.rs_scene.proofs.frames.+begin_params.Goals as goal

pub returns-in_default : goal.returns-in_default
returns-in_default g t c = λ kept host. no_params_begin (map module_view c.args.modules.now) (map held_local c.args.begun.now) c.args.params.now _ _ c.in_default.ensures.cases

pub returns-in_default-split_first : goal.returns-in_default-split_first
returns-in_default-split_first g t c = λ kept host.
    no_args_begin (map module_view c.args.modules.now) (map held_local c.args.begun.now) c.args.params.now c.in-Some.others.now c.in-Some.param.now c.args.list.now _
    c.in-Some.ensures.cases.0 c.in_default-split_first.ensures.cases

pub returns-in-Err : goal.returns-in-Err
returns-in-Err g t c = λ kept host.
    params_stop (map module_view c.args.modules.now) c.args.begun.now c.args.params.now c.in-Some.others.now c.in-Some.param.now c.args.list.now c.in-Some-split_first.others_given.now c.in-Some-split_first.arg.now c.laid_of.result
    c.in-Some.ensures.cases.0 c.in-Some-split_first.ensures.cases.0 (c.laid_of.ensures.laid ∙ ap (λ (ty : RTy). laid_of (map module_view c.args.modules.now) (ty_view ty)) c.get.ensures)
    (c.in-Err.ensures kept host)

pub returns-in-Err-store_at : goal.returns-in-Err-store_at
returns-in-Err-store_at g t c = λ kept host.
    stores_stop (map module_view c.args.modules.now) c.args.begun.now c.args.params.now c.in-Some.others.now c.in-Some.param.now c.args.list.now c.in-Some-split_first.others_given.now c.in-Some-split_first.arg.now c.laid_of.result
    c.in-Some.ensures.cases.0 c.in-Some-split_first.ensures.cases.0 (c.laid_of.ensures.laid ∙ ap (λ (ty : RTy). laid_of (map module_view c.args.modules.now) (ty_view ty)) c.get.ensures)
    c.in-Ok.block c.get-2.result.now c.get-2.ensures (c.in-Ok.ensures kept host) (c.in-Err-store_at.ensures kept host)

pub returns : goal.returns
returns g t c = λ kept host.
    params_go (map module_view c.args.modules.now) c.args.begun.now c.args.params.now c.in-Some.others.now c.in-Some.param.now c.args.list.now c.in-Some-split_first.others_given.now c.in-Some-split_first.arg.now c.laid_of.result
    c.in-Some.ensures.cases.0 c.in-Some-split_first.ensures.cases.0 (c.laid_of.ensures.laid ∙ ap (λ (ty : RTy). laid_of (map module_view c.args.modules.now) (ty_view ty)) c.get.ensures)
    c.push.new.self (record { of = c.in-Some.param; block = c.in-Ok.block }) c.in-Ok.block c.get-2.result.now c.get-2.ensures c.in_default-push.ensures.ok refl (c.in-Ok.ensures kept host) (c.in_default-store_at.ensures kept host)
    (c.begin_params.ensures kept host)
