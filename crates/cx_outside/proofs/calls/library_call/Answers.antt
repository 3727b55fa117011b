use Rattle.std.proofs.Common.{rules, ◌≡◌, to_z, of_z}
use Rattle.std.specs.Int.{w128}
use Rattle.cx_outside.specs.Effects.{library_view}
use Rattle.cx_outside.specs.States.{around}
use Rattle.cx_outside.proofs.Effect.{effect_gives, effect_gives_nothing, effect_ends_by, effect_fails, around_same, effect_wants}
use Rattle.cx_outside.proofs.calls.library_call.Goals as goal

pub returns-in-Err-clause-calls : goal.returns-in-Err-clause-calls
returns-in-Err-clause-calls g c = λ host.
    effect_fails (library_view c.args.which).does c.args.place c.args.values.now c.args.kept.now c.effect_of.new.kept _ _ _ _ host
    c.effect_of.ensures.kept c.effect_of.ensures.limit c.in-Err.trouble _ c.in-Err.ensures.effect c.halt_of.ensures

pub returns-in-Gives-clause-calls : goal.returns-in-Gives-clause-calls
returns-in-Gives-clause-calls g c = λ host.
    let is = rw c.in-Gives.is at c.in-Ok.ensures.effect in
    effect_gives (library_view c.args.which).does c.args.place c.args.values.now c.args.kept.now c.effect_of.new.kept _ _ _ _ host
    c.effect_of.ensures.kept c.effect_of.ensures.limit c.in-Gives.value is

pub returns-in-Nothing-clause-calls : goal.returns-in-Nothing-clause-calls
returns-in-Nothing-clause-calls g c = λ host.
    let is = rw c.in-Nothing.is at c.in-Ok.ensures.effect in
    effect_gives_nothing (library_view c.args.which).does c.args.place c.args.values.now c.args.kept.now c.effect_of.new.kept _ _ _ _ host
    c.effect_of.ensures.kept c.effect_of.ensures.limit is

pub returns-in-Ends-clause-calls : goal.returns-in-Ends-clause-calls
returns-in-Ends-clause-calls g c = λ host.
    let is = rw c.in-Ends.is at c.in-Ok.ensures.effect in
    let same : to_z w128 (of_z w128 c.in-Ends.status) ≡ c.in-Ends.status = search rules in
    effect_ends_by (library_view c.args.which).does c.args.place c.args.values.now c.args.kept.now c.effect_of.new.kept _ _ _ _ host
    c.effect_of.ensures.kept c.effect_of.ensures.limit c.in-Ends.status c.ends.result is.0 (rw same at c.ends.ensures)

pub returns-in-Wants-clause-calls : goal.returns-in-Wants-clause-calls
returns-in-Wants-clause-calls g c = λ host.
    let is = rw c.in-Wants.is at c.in-Ok.ensures.effect in
    let old = c.args.kept.now in
    let mid = c.effect_of.new.kept in
    let before = g.S.Store.memory c.args.store.now in
    let between = g.S.Store.memory c.effect_of.new.store in
    let limit = g.S.Store.limit c.args.store.now in
    let next = g.S.Store.limit c.effect_of.new.store in
    let does = (library_view c.args.which).does in
    let same = around_same does c.args.place c.args.values.now old mid before between limit next host c.effect_of.ensures.kept c.effect_of.ensures.limit is.1 in
    effect_wants does c.args.place c.args.values.now c.in-Wants.is_zero c.in-Wants.size
    (around old before limit host) (around c.grant.new.kept (g.S.Store.memory c.grant.new.store) (g.S.Store.limit c.grant.new.store) host) is.0
    c.grant.result c.given.result (rw same at (c.grant.ensures.steps host)) c.given.ensures
