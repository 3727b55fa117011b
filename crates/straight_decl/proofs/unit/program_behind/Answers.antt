use Rattle.std.proofs.Common.{sym, subst}
use Rattle.straight_core.specs.Views.{view_program}
use Rattle.straight_decl.specs.Given.{Gives}
use Rattle.straight_decl.proofs.Lists.{behind_is}
use Rattle.straight_decl.proofs.unit.program_behind.Goals as goal

pub returns : goal.returns
returns c =
    subst (Gives view_program c.args.unit c.program_from.result)
    (sym (behind_is c.args.unit c.args.has_putchar c.args.parts.now c.in-Some.firsts.now c.in-Some.last.now c.in-Some.ensures.cases.0))
    c.program_from.ensures
