use Rattle.std.proofs.Common.{ap, List}
use Rattle.cx_access.specs.Views.{view_setting}
use Rattle.cx_moves.specs.declared.ways.Opened.{Opened}
use Rattle.cx_moves.specs.Sites.{view_goal, view_level}
use Rattle.cx_steps.proofs.Going.{begins_from}
use Rattle.cx_steps.proofs.bodies.begins.Goals as goal

pub returns-in-Some-clause-steps : goal.returns-in-Some-clause-steps
returns-in-Some-clause-steps g c =
    begins_from (view_setting c.args.setting.now) c.args.machine.now c.innermost.new.site (view_level c.in-Some.level) c.args.object c.args.others.now
    (view_goal c.args.machine.now.site.way c.args.goal) (view_goal c.innermost.new.site.way c.args.goal) c.begins_in.result _ _ _ _ _
    c.in-Some.ensures.site (ap (λ (way : List Opened). view_goal way c.args.goal) c.in-Some.ensures.way) c.begins_in.ensures.steps
