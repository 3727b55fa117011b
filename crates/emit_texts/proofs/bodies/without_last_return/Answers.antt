use Rattle.std.proofs.Common.{◌∙◌, map, ap, sym}
use Rattle.rs_text.specs.Tree.{stmts}
use Rattle.rs_tree.specs.Views.{stmt_view}
use Rattle.emit_texts.proofs.Texts.{last_dropped, last_kept}
use Rattle.emit_texts.proofs.bodies.without_last_return.Goals as goal

pub returns-then-is_plain_return : goal.returns-then-is_plain_return
returns-then-is_plain_return c = last_dropped stmt_view c.args.ss c.pop.new.self c.in-Some.last c.in-Some.ensures (sym c.is_plain_return.ensures ∙ c.if-is_plain_return.true)

pub returns : goal.returns
returns c = ap (λ list. stmts (map stmt_view list)) c.in_ok-push.ensures.ok
    ∙ last_kept stmt_view c.args.ss c.pop.new.self c.in-Some.last c.in-Some.ensures (sym c.is_plain_return.ensures ∙ c.if-is_plain_return.false)
