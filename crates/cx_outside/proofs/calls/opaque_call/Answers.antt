use Rattle.std.proofs.Common.{rules, ◌≡◌, ◌∙◌, inl, sym, Err, ap, List, ℕ, ℤ, map, Option, to_z, of_z}
use Rattle.std.specs.Int.{w128}
use Rattle.cr_base.specs.declared.scalar.Scalar.{Scalar}
use Rattle.cx_access.specs.Views.{view_setting}
use Rattle.cx_core.specs.Views.{view_outer}
use Rattle.cx_mean.specs.Calls.{arguments, answer_as, opaque_call}
use Rattle.cx_mean.specs.Settings.{scalar_in_type}
use Rattle.cx_work.specs.declared.operand.Operand.{Operand}
use Rattle.cx_work.specs.Views.{view_called, view_operand, view_finished}
use Rattle.ext_calls.specs.declared.call.Call.{Call}
use Rattle.cx_outside.specs.States.{around}
use Rattle.cx_outside.proofs.Opaque.{answer_lacks, answer_gives, asks_call}
use Rattle.cx_outside.proofs.Wanting.{asking_wants, call_alone, host_alone}
use Rattle.cx_outside.proofs.calls.opaque_call.Goals as goal

pub returns-in-Err-tell-clause-calls : goal.returns-in-Err-tell-clause-calls
returns-in-Err-tell-clause-calls g c = λ limit.
    let blocks = g.S.Store.memory c.args.store.now in
    let one : Call = record { name = c.args.outer.now.name; args = c.in-Ok.args } in
    answer_lacks (view_setting c.args.setting.now) (view_called c.args.called.now) (view_outer c.args.outer.now)
    (around c.args.kept.now blocks limit (g.H.Host.state c.args.host.now)) c.in-Ok.args c.in-Ok-call_of.call
    (ap (λ (list : List Operand). arguments (view_setting c.args.setting.now) blocks (map view_operand list)) (sym c.as_slice.ensures) ∙ c.in-Ok.ensures)
    (c.in-Ok-call_of.ensures ∙ ap (λ (name : List ℕ). record one { name = name }) c.bytes.ensures)
    c.in-Err-tell.lack _ (c.in-Err-tell.ensures.steps blocks limit)

pub returns-clause-calls : goal.returns-clause-calls
returns-clause-calls g c = λ limit.
    let blocks = g.S.Store.memory c.args.store.now in
    let one : Call = record { name = c.args.outer.now.name; args = c.in-Ok.args } in
    let setting = view_setting c.args.setting.now in
    let number : to_z w128 (of_z w128 c.from-answer.result) ≡ c.in-Ok-tell.answer = search rules in
    answer_gives setting (view_called c.args.called.now) (view_outer c.args.outer.now)
    (around c.args.kept.now blocks limit (g.H.Host.state c.args.host.now)) c.in-Ok.args c.in-Ok-call_of.call
    (ap (λ (list : List Operand). arguments setting blocks (map view_operand list)) (sym c.as_slice.ensures) ∙ c.in-Ok.ensures)
    (c.in-Ok-call_of.ensures ∙ ap (λ (name : List ℕ). record one { name = name }) c.bytes.ensures)
    c.in-Ok-tell.answer (view_finished c.answer_as.result) _ (c.in-Ok-tell.ensures.steps blocks limit)
    (c.answer_as.ensures
    ∙ ap (λ (kind : Option Scalar). answer_as kind (to_z w128 (of_z w128 c.from-answer.result))) c.scalar_of.ensures.scalar
    ∙ ap (λ (answer : ℤ). answer_as (scalar_in_type setting (view_called c.args.called.now).type) answer) number)

pub returns-in-Err-clause-wants : goal.returns-in-Err-clause-wants
returns-in-Err-clause-wants g c = λ limit.
    let at = around c.args.kept.now (g.S.Store.memory c.args.store.now) limit (g.H.Host.state c.args.host.now) in
    call_alone (opaque_call (view_setting c.args.setting.now) (view_called c.args.called.now) (view_outer c.args.outer.now)) (Err c.halt_of.result) at at (host_alone (g.H.Host.state c.args.host.now))

pub returns-in-Err-call_of-clause-wants : goal.returns-in-Err-call_of-clause-wants
returns-in-Err-call_of-clause-wants g c = λ limit. inl (host_alone _)

pub returns-in-Err-tell-clause-wants : goal.returns-in-Err-tell-clause-wants
returns-in-Err-tell-clause-wants g c = λ limit.
    let blocks = g.S.Store.memory c.args.store.now in
    let one : Call = record { name = c.args.outer.now.name; args = c.in-Ok.args } in
    let setting = view_setting c.args.setting.now in
    let called = view_called c.args.called.now in
    let outer = view_outer c.args.outer.now in
    let before = around c.args.kept.now blocks limit (g.H.Host.state c.args.host.now) in
    asking_wants (opaque_call setting called outer) (scalar_in_type setting called.type) c.in-Ok-call_of.call c.in-Err-tell.lack before _
    (asks_call setting called outer before c.in-Ok.args c.in-Ok-call_of.call
    (ap (λ (list : List Operand). arguments setting blocks (map view_operand list)) (sym c.as_slice.ensures) ∙ c.in-Ok.ensures)
    (c.in-Ok-call_of.ensures ∙ ap (λ (name : List ℕ). record one { name = name }) c.bytes.ensures))
    (c.in-Err-tell.ensures.wants blocks limit)
