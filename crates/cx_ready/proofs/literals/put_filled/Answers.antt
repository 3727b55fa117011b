use Rattle.std.proofs.Common.{rules, ◌≡◌, sym, subst, List, ◌∷◌}
use Rattle.cx_core.specs.declared.expr.Put.{Put}
use Rattle.cx_core.specs.Views.{view_expr, view_puts}
use Rattle.cx_ready.specs.Nodes.{IsLoaded}
use Rattle.cx_mean.specs.Work.{filled}
use Rattle.cx_work.specs.Views.{view_work}
use Rattle.cx_ready.proofs.literals.put_filled.Goals as goal

pub returns : goal.returns
returns c =
    let are : c.args.puts.now ≡ c.in-Some.put.now ∷ c.in-Some.others.now = search rules in
    subst (λ (puts : List Put). IsLoaded c.put_fills.result (view_work c.put_fills.new.work) (filled (view_expr c.args.node.now) c.args.number c.args.marks (view_puts puts))) (sym are)
    (c.put_fills.ensures c.args.number)
