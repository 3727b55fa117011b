use Rattle.std.proofs.Common.{◌∙◌, sym, ap, List, ℕ, Option}
use Rattle.cr_world.specs.Known.{KnownFunction, known_named}
use Rattle.cx_access.specs.Views.{view_setting}
use Rattle.cx_core.specs.Views.{view_outer}
use Rattle.cx_work.specs.Views.{view_called}
use Rattle.cx_mean.specs.Calls.{call_by_table, external_call, opaque_call}
use Rattle.cx_outside.proofs.Opaque.{by_known, by_opaque}
use Rattle.cx_outside.proofs.Wanting.{call_alone, host_alone, wants_same}
use Rattle.cx_outside.proofs.calls.external_call.Goals as goal

pub returns-in-Some-clause-calls : goal.returns-in-Some-clause-calls
returns-in-Some-clause-calls g c =
    by_known (view_setting c.args.setting.now) (view_called c.args.called.now) (view_outer c.args.outer.now) c.in-Some.which _ _ c.known_call.result
    (c.in-Some.ensures ∙ ap (λ (name : List ℕ). known_named name) c.bytes.ensures) (c.known_call.ensures.calls (g.H.Host.state c.args.host.now))

pub returns-in-None-clause-calls : goal.returns-in-None-clause-calls
returns-in-None-clause-calls g c =
    by_opaque (view_setting c.args.setting.now) (view_called c.args.called.now) (view_outer c.args.outer.now) _ _ c.opaque_call.result
    (c.in-None.ensures ∙ ap (λ (name : List ℕ). known_named name) c.bytes.ensures) (c.opaque_call.ensures.calls (g.S.Store.limit c.args.store.now))

pub returns-in-Some-clause-wants : goal.returns-in-Some-clause-wants
returns-in-Some-clause-wants g c = call_alone _ c.known_call.result _ _ (host_alone _)

pub returns-in-None-clause-wants : goal.returns-in-None-clause-wants
returns-in-None-clause-wants g c =
    let setting = view_setting c.args.setting.now in
    let called = view_called c.args.called.now in
    let outer = view_outer c.args.outer.now in
    wants_same (external_call setting called outer) (opaque_call setting called outer) c.opaque_call.result _ _
    (λ world. ap (λ (one : Option KnownFunction). call_by_table setting called outer world one) (sym (c.in-None.ensures ∙ ap (λ (name : List ℕ). known_named name) c.bytes.ensures)))
    (c.opaque_call.ensures.wants (g.S.Store.limit c.args.store.now))
