use Rattle.std.proofs.Common.{◌∙◌, map, ap}
use Rattle.rs_mean.specs.Laws.{behind}
use Rattle.rs_text.specs.Tree.{stmts}
use Rattle.rs_tree.specs.Views.{stmt_view}
use Rattle.emit_texts.proofs.Texts.{as_they_are, stmts_append}
use Rattle.emit_texts.proofs.nodes.behind_body.Goals as goal

pub returns : goal.returns
returns c = ap (λ list. stmts (map stmt_view list)) c.in_ok-append.ensures.ok ∙ stmts_append stmt_view c.in_ok-made.made c.args.rest
    ∙ ap (λ ss. behind ss (stmts (map stmt_view c.args.rest))) (c.in_ok-made.ensures ∙ as_they_are (stmts (map stmt_view c.args.body.now)))
