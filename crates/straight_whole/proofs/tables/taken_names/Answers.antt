use Rattle.std.proofs.Common.{rules}
use Rattle.straight_whole.proofs.Naming.{taken_is}
use Rattle.straight_whole.proofs.tables.taken_names.Goals as goal

pub returns : goal.returns
returns c =
    taken_is c.args.program.now c.in_ok-taken.taken c.in_ok-outer_names.field-0 c.append.new.self c.push.new.self c.push-2.new.self c.in_ok-own_name.field-0 c.in_ok-own_name-2.field-0
    (search rules) (search rules) (search rules) (search rules) (search rules) (search rules) (search rules)
