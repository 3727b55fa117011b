use Rattle.std.proofs.Common.{◌≡◌, ◌∙◌, ℕ, List, [], ap, map, subst}
use Rattle.std.specs.Prelude.{IfOk}
use Rattle.emit_stmts.specs.Copies.{stmts_copy}
use Rattle.emit_stmts.specs.declared.labels.Labels.TheVariants.{ByDepth}
use Rattle.emit_texts.proofs.Texts.{by_depth}
use Rattle.rs_text.specs.Tree.{Stmts, stmts}
use Rattle.rs_tree.specs.Views.{stmt_view}
use Rattle.emit_texts.proofs.bodies.numbered.Goals as goal

pub returns : goal.returns
returns c =
    subst (λ (ss : Stmts). IfOk c.copy_stmts.result (λ made. stmts (map stmt_view made) ≡ ss))
    (ap (λ (around : List (List ℕ)). stmts_copy (ByDepth around) (stmts (map stmt_view c.args.draft.now))) c.new.ensures ∙ by_depth [] (stmts (map stmt_view c.args.draft.now)))
    c.copy_stmts.ensures
