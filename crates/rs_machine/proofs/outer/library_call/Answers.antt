use Rattle.std.proofs.Common.{rules, ◌≡◌, map, option_map, to_z, of_z}
use Rattle.std.specs.Int.{w128}
use Rattle.std.specs.Option.{option_copied}
use Rattle.cr_world.specs.Known.{effect}
use Rattle.rs_tree.specs.Views.{ty_view}
use Rattle.rs_machine.specs.Does.{stopped_by}
use Rattle.rs_machine.specs.Effects.{held_of, library_view, value_in}
use Rattle.rs_machine.proofs.Outgoing.{known_by, effect_stops, effect_gives_value, effect_gives_none, effect_ends, effect_wants}
use Rattle.rs_machine.proofs.outer.library_call.Goals as goal

pub returns-in-Err : goal.returns-in-Err
returns-in-Err g c = λ host.
    let ty = option_map ty_view (option_copied c.args.ty) in
    let old = c.args.machine.now in
    let new = c.effect_of.new.machine in
    let before = g.S.Store.memory c.args.store.now in
    let after = g.S.Store.memory c.effect_of.new.store in
    let limit = g.S.Store.limit c.args.store.now in
    let later = g.S.Store.limit c.effect_of.new.store in
    let one = effect (library_view c.args.which).does (map value_in c.args.list.now) (held_of old before) in
    known_by (library_view c.args.which) ty c.args.list.now
    (effect_stops old new before after limit later host c.effect_of.ensures.kept c.effect_of.ensures.limit ty one c.in-Err.trouble (stopped_by c.halt_of.result) c.in-Err.ensures.effect c.halt_of.ensures)

pub returns-in-Gives : goal.returns-in-Gives
returns-in-Gives g c = λ host.
    let ty = option_map ty_view (option_copied c.args.ty) in
    let old = c.args.machine.now in
    let new = c.effect_of.new.machine in
    let before = g.S.Store.memory c.args.store.now in
    let after = g.S.Store.memory c.effect_of.new.store in
    let limit = g.S.Store.limit c.args.store.now in
    let later = g.S.Store.limit c.effect_of.new.store in
    let one = effect (library_view c.args.which).does (map value_in c.args.list.now) (held_of old before) in
    let is = rw c.in-Gives.is at c.in-Ok.ensures.effect in
    known_by (library_view c.args.which) ty c.args.list.now
    (effect_gives_value old new before after limit later host c.effect_of.ensures.kept c.effect_of.ensures.limit ty one c.in-Gives.value _ is c.given.ensures)

pub returns-in-Nothing : goal.returns-in-Nothing
returns-in-Nothing g c = λ host.
    let ty = option_map ty_view (option_copied c.args.ty) in
    let old = c.args.machine.now in
    let new = c.effect_of.new.machine in
    let before = g.S.Store.memory c.args.store.now in
    let after = g.S.Store.memory c.effect_of.new.store in
    let limit = g.S.Store.limit c.args.store.now in
    let later = g.S.Store.limit c.effect_of.new.store in
    let one = effect (library_view c.args.which).does (map value_in c.args.list.now) (held_of old before) in
    let is = rw c.in-Nothing.is at c.in-Ok.ensures.effect in
    known_by (library_view c.args.which) ty c.args.list.now
    (effect_gives_none old new before after limit later host c.effect_of.ensures.kept c.effect_of.ensures.limit ty one is)

pub returns-in-Ends : goal.returns-in-Ends
returns-in-Ends g c = λ host.
    let ty = option_map ty_view (option_copied c.args.ty) in
    let old = c.args.machine.now in
    let new = c.effect_of.new.machine in
    let before = g.S.Store.memory c.args.store.now in
    let after = g.S.Store.memory c.effect_of.new.store in
    let limit = g.S.Store.limit c.args.store.now in
    let later = g.S.Store.limit c.effect_of.new.store in
    let one = effect (library_view c.args.which).does (map value_in c.args.list.now) (held_of old before) in
    let is = rw c.in-Ends.is at c.in-Ok.ensures.effect in
    let same : to_z w128 (of_z w128 c.in-Ends.status) ≡ c.in-Ends.status = search rules in
    known_by (library_view c.args.which) ty c.args.list.now
    (effect_ends old new before after limit later host c.effect_of.ensures.kept c.effect_of.ensures.limit ty one c.in-Ends.status (stopped_by c.ended.result) is.0 is.1 (rw same at c.ended.ensures))

pub returns-in-Wants : goal.returns-in-Wants
returns-in-Wants g c = λ host.
    let ty = option_map ty_view (option_copied c.args.ty) in
    let old = c.args.machine.now in
    let new = c.effect_of.new.machine in
    let before = g.S.Store.memory c.args.store.now in
    let after = g.S.Store.memory c.effect_of.new.store in
    let limit = g.S.Store.limit c.args.store.now in
    let later = g.S.Store.limit c.effect_of.new.store in
    let one = effect (library_view c.args.which).does (map value_in c.args.list.now) (held_of old before) in
    let is = rw c.in-Wants.is at c.in-Ok.ensures.effect in
    known_by (library_view c.args.which) ty c.args.list.now
    (effect_wants old new before after limit later host c.effect_of.ensures.kept c.effect_of.ensures.limit ty one c.in-Wants.is_zero c.in-Wants.size is.0 is.1 (c.granted.ensures host))
