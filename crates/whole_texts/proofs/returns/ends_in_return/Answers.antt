use Rattle.std.proofs.Common.{◌∙◌, List, ap, map, sym}
use Rattle.rs_text.specs.Tree.{stmts}
use Rattle.rs_tree.specs.Views.{stmt_view}
use Rattle.rs_tree.specs.declared.stmt.RStmt.{RStmt}
use Rattle.whole_bodies.specs.Bodies as spec
use Rattle.whole_texts.proofs.Ended.{last_return}
use Rattle.whole_texts.proofs.returns.ends_in_return.Goals as goal

pub returns-in-Some : goal.returns-in-Some
returns-in-Some c =
    c.is_return.ensures
    ∙ sym (ap (λ (list : List RStmt). spec.ends_in_return (stmts (map stmt_view list))) c.in-Some.ensures.cases.0 ∙ last_return c.in-Some.field-0-1.now c.in-Some.last.now)
