use Rattle.std.proofs.Common.{rules, ◌∙◌}
use Rattle.cx_init.proofs.Ascents.{ends_by}
use Rattle.cx_init.proofs.values.ends_before.Goals as goal

pub returns-in-Some : goal.returns-in-Some
returns-in-Some c = c.stands_behind.ensures
    ∙ ends_by c.args.stored.now c.in-Some.field-0-1.now c.in-Some.last.now c.as_slice.result.now c.args.later.now (search rules) c.as_slice.ensures
