use Rattle.std.proofs.Common.{map, sym, subst}
use Rattle.straight_core.specs.Views.{view_stmt}
use Rattle.straight_decl.specs.Given.{Gives, scope_of}
use Rattle.straight_decl.proofs.Lists.{body_is}
use Rattle.straight_decl.proofs.function.core_body.Goals as goal

pub returns : goal.returns
returns c =
    subst (Gives (λ stmts. map view_stmt stmts) c.args.unit c.core_stmts.result)
    (sym (body_is c.args.unit (scope_of c.args.scope.now) c.args.list.now c.in-Some.firsts.now c.in-Some.last.now c.in-Some.ensures.cases.0))
    c.core_stmts.ensures
