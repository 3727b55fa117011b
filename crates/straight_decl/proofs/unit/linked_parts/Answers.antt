use Rattle.std.proofs.Common.{map}
use Rattle.straight_core.specs.Views.{view_program}
use Rattle.straight_tree.specs.Views.{external_view}
use Rattle.straight_decl.specs.CoreOf.{parted}
use Rattle.straight_decl.proofs.Whole.{parted_linked, found_linked}
use Rattle.straight_decl.proofs.unit.linked_parts.Goals as goal

pub returns-clause-linked : goal.returns-clause-linked
returns-clause-linked c =
    found_linked view_program c.args.unit c.core_parts.result (parted c.args.unit c.args.has_putchar (map external_view c.args.parts.now) (external_view c.args.last.now)) c.core_parts.ensures.value
    (parted_linked c.args.unit c.args.has_putchar (map external_view c.args.parts.now) (external_view c.args.last.now))
