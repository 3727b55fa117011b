use Rattle.std.proofs.Common.{rules}
use Rattle.straight_core.specs.Views.{view_stmt}
use Rattle.straight_whole.proofs.Made.{items_made}
use Rattle.straight_whole.proofs.translation.items_of.Goals as goal

pub returns : goal.returns
returns c =
    items_made c.args.program.now c.externals.result.now c.args.names.now (view_stmt c.args.body.now) c.in_ok-items.items c.in_ok-extern_block.field-0 c.append.new.self c.push.new.self c.push-2.new.self c.in_ok-outers.outers
    c.in_ok-main_function.field-0 c.in_ok-initialiser.field-0
    (search rules) (search rules) (search rules) (search rules) (search rules) (search rules) (search rules) (search rules) (search rules)
