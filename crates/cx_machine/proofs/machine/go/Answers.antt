use Rattle.std.proofs.Common.{refl}
use Rattle.cx_moves.specs.Sites.{view_goal, view_site}
use Rattle.cx_machine.proofs.Going.{begins_is}
use Rattle.cx_machine.proofs.machine.go.Goals as goal

pub returns-in-Begins : goal.returns-in-Begins
returns-in-Begins c =
    rw c.in-Begins.is
    (record {
      control = begins_is c.in-Begins.object c.in-Begins.others.now (view_goal c.args.machine.now.site.way c.in-Begins.goal) (view_site c.args.machine.now.site);
      statics = refl;
      callers = refl;
      order = refl;
    })
