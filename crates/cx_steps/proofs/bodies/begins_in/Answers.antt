use Rattle.std.proofs.Common.{refl}
use Rattle.cx_access.specs.Views.{view_setting}
use Rattle.cx_core.specs.Views.{view_type}
use Rattle.cx_mean.specs.Moves.{beginning}
use Rattle.cx_mean.specs.State.{slot, with_slot}
use Rattle.cx_moves.specs.Sites.{view_goal, view_level, view_site}
use Rattle.cx_outside.proofs.Wanting.{host_alone}
use Rattle.cx_steps.proofs.Begun.{block_begun, block_lacks}
use Rattle.cx_steps.proofs.bodies.begins_in.Goals as goal

pub returns-in-Err-clause-steps : goal.returns-in-Err-clause-steps
returns-in-Err-clause-steps g c = λ kept host.
    block_lacks (view_setting c.args.setting.now) c.args.machine.now
    (record { object = c.args.object; others = c.args.others.now; level = view_level c.args.level; outer = view_site c.args.machine.now.site; goal = view_goal c.args.machine.now.site.way c.args.goal })
    (view_type c.in-Some.shape.ty.now) c.in-Some.shape.laid c.in-Some.ensures c.in-Err.lack _ _ _ (host_alone host) (c.in-Err.ensures.steps kept host)

pub returns-in-Ok-has_begun-clause-steps : goal.returns-in-Ok-has_begun-clause-steps
returns-in-Ok-has_begun-clause-steps g c = λ kept host.
    block_begun (view_setting c.args.setting.now) c.args.machine.now
    (record { object = c.args.object; others = c.args.others.now; level = view_level c.args.level; outer = view_site c.args.machine.now.site; goal = view_goal c.args.machine.now.site.way c.args.goal })
    (view_type c.in-Some.shape.ty.now) c.in-Some.shape.laid c.in-Some.ensures c.has_begun.new.machine c.in-Ok.at kept
    (g.S.Store.memory c.args.store.now) (g.S.Store.memory c.begin.new.store) (g.S.Store.memory c.has_begun.new.store) _ _ _ host
    (beginning (view_setting c.args.setting.now) c.args.others.now (view_goal c.args.machine.now.site.way c.args.goal) (with_slot (slot c.args.object c.in-Ok.at) (view_level c.args.level))
    (view_site c.args.machine.now.site) (g.S.Store.memory c.begin.new.store))
    c.in-Ok-has_begun.ensures.limit refl c.in-Ok-has_begun.ensures.next (c.in-Ok.ensures.steps kept host)
