use Rattle.std.proofs.Common.{◌∙◌, ap, subst, map, List, OnErr}
use Rattle.rs_mean.specs.Lookups.{functions_of, statics_of}
use Rattle.rs_text.specs.Tree.{ModuleTree}
use Rattle.rs_tree.specs.declared.item.Module.{Module}
use Rattle.rs_tree.specs.Views.{crate_view, module_view}
use Rattle.rs_scene.specs.Scenes.{held_function, held_static}
use Rattle.rs_scene.specs.declared.scene.HeldFunction.{HeldFunction}
use Rattle.rs_scene.specs.declared.scene.HeldStatic.{HeldStatic}
use Rattle.rs_exec.specs.declared.outcome.RRun.{RRun}
use Rattle.rs_exec.specs.Exec.{IsShort}
use Rattle.rs_exec.proofs.Outcomes.{is_run_by}
use Rattle.rs_exec.proofs.Short.{none_short}
use Rattle.rs_exec.proofs.Started.{whole_scene, if_ok}
use Rattle.rs_exec.proofs.run.run_rust.Goals as goal

pub returns-in-Err-clause-short : goal.returns-in-Err-clause-short
returns-in-Err-clause-short g c = none_short (crate_view c.args.whole.now) c.args.steps (g.S.Store.limit c.args.store.now) (g.H.Host.state c.args.host.now)

pub returns-in-Err-functions_of-clause-short : goal.returns-in-Err-functions_of-clause-short
returns-in-Err-functions_of-clause-short g c = none_short (crate_view c.args.whole.now) c.args.steps (g.S.Store.limit c.args.store.now) (g.H.Host.state c.args.host.now)

pub run_scene-requires-clause-scene : goal.run_scene-requires-clause-scene
run_scene-requires-clause-scene g c =
    let modules = ap (λ (list : List Module). map module_view list) c.as_slice-modules.ensures in
    whole_scene (crate_view c.args.whole.now) _ c.requires.valid modules
    (ap (λ (list : List HeldStatic). map held_static list) c.as_slice.ensures ∙ c.in-Ok.ensures ∙ ap (λ (list : List ModuleTree). statics_of list) modules)
    (ap (λ (list : List HeldFunction). map held_function list) c.as_slice-2.ensures ∙ c.in-Ok-functions_of.ensures ∙ ap (λ (list : List ModuleTree). functions_of list) modules)

pub returns-clause-outcome : goal.returns-clause-outcome
returns-clause-outcome g c =
    if_ok c.run_scene.result (λ (run : RRun) runs.
    (is_run_by _ (map module_view c.args.whole.now.modules) c.args.whole.now.entry c.args.steps _ _ _ run (ap (λ (list : List Module). map module_view list) c.as_slice-modules.ensures) runs).progress)
    c.run_scene.ensures.run

pub returns-clause-trail : goal.returns-clause-trail
returns-clause-trail g c =
    if_ok c.run_scene.result (λ (run : RRun) runs.
    (is_run_by _ (map module_view c.args.whole.now.modules) c.args.whole.now.entry c.args.steps _ _ _ run (ap (λ (list : List Module). map module_view list) c.as_slice-modules.ensures) runs).answers)
    c.run_scene.ensures.run

pub returns-clause-taken : goal.returns-clause-taken
returns-clause-taken g c =
    if_ok c.run_scene.result (λ (run : RRun) runs.
    (is_run_by _ (map module_view c.args.whole.now.modules) c.args.whole.now.entry c.args.steps _ _ _ run (ap (λ (list : List Module). map module_view list) c.as_slice-modules.ensures) runs).units)
    c.run_scene.ensures.run

pub returns-clause-told : goal.returns-clause-told
returns-clause-told g c =
    if_ok c.run_scene.result (λ (run : RRun) runs.
    (is_run_by _ (map module_view c.args.whole.now.modules) c.args.whole.now.entry c.args.steps _ _ _ run (ap (λ (list : List Module). map module_view list) c.as_slice-modules.ensures) runs).told)
    c.run_scene.ensures.run

pub returns-clause-given : goal.returns-clause-given
returns-clause-given g c =
    if_ok c.run_scene.result (λ (run : RRun) runs.
    (is_run_by _ (map module_view c.args.whole.now.modules) c.args.whole.now.entry c.args.steps _ _ _ run (ap (λ (list : List Module). map module_view list) c.as_slice-modules.ensures) runs).given)
    c.run_scene.ensures.run

pub returns-clause-takes : goal.returns-clause-takes
returns-clause-takes g c =
    if_ok c.run_scene.result (λ (run : RRun) runs.
    (is_run_by _ (map module_view c.args.whole.now.modules) c.args.whole.now.entry c.args.steps _ _ _ run (ap (λ (list : List Module). map module_view list) c.as_slice-modules.ensures) runs).takes)
    c.run_scene.ensures.run

pub returns-clause-asks : goal.returns-clause-asks
returns-clause-asks g c =
    if_ok c.run_scene.result (λ (run : RRun) runs.
    (is_run_by _ (map module_view c.args.whole.now.modules) c.args.whole.now.entry c.args.steps _ _ _ run (ap (λ (list : List Module). map module_view list) c.as_slice-modules.ensures) runs).asks)
    c.run_scene.ensures.run

pub returns-clause-short : goal.returns-clause-short
returns-clause-short g c =
    subst (λ (list : List ModuleTree). OnErr c.run_scene.result (IsShort (record { modules = list; entry = c.args.whole.now.entry }) (g.S.Store.limit c.args.store.now) c.args.steps (g.H.Host.state c.args.host.now) (g.H.Host.state c.run_scene.new.host)))
    (ap (λ (list : List Module). map module_view list) c.as_slice-modules.ensures) c.run_scene.ensures.short
