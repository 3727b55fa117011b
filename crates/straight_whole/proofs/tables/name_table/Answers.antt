use Rattle.std.proofs.Common.{rules, []}
use Rattle.straight_core.specs.Views.{view_stmt}
use Rattle.straight_lift.specs.Coded.{names_of}
use Rattle.straight_whole.proofs.Naming.{table_is}
use Rattle.straight_whole.proofs.tables.name_table.Goals as goal

pub returns : goal.returns
returns c =
    table_is c.args.program.now c.args.home (view_stmt c.args.body.now)
    (names_of (record { home = c.args.home; objects = c.in_ok-known_objects.field-0; functions = c.in_ok-known_outers.field-0; temporaries = [] }))
    c.in_ok-count.field-0 c.in_ok-known_objects.field-0 c.in_ok-known_outers.field-0 c.in_ok-taken.taken c.in_ok-table.field-0
    (search rules) (search rules) (search rules) (search rules) (search rules)
