use Rattle.cx_init.specs.Views.{view_target}
use Rattle.cx_kinds.specs.Known.{types_in}
use Rattle.cx_place.specs.Views.{view_placing}
use Rattle.cx_place.proofs.Entries.{placed_more}
use Rattle.cx_place.proofs.lists.+placing.Goals as goal

pub entries_placed-loop-entry-preserved : goal.entries_placed-loop-entry-preserved
entries_placed-loop-entry-preserved t c =
    placed_more (types_in c.args.known) (view_target c.args.target.now) c.loop-entry.yielded c.in-Some.entry (view_placing c.args.placing.now) (view_placing c.loop-entry.placing) (view_placing c.entry_placed.new.placing) c.loop-entry.invariant c.in_ok-entry_placed.ensures
