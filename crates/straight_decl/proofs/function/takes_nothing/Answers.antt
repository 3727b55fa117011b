use Rattle.straight_decl.specs.CoreOf.{is_void}
use Rattle.straight_decl.proofs.Lists.{not_one_param}
use Rattle.straight_decl.proofs.function.takes_nothing.Goals as goal

pub returns-in-len2-up : goal.returns-in-len2-up
returns-in-len2-up c = not_one_param is_void c.args.list.now c.in-len2-up.len_at_least
