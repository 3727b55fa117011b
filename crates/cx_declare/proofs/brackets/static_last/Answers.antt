use Rattle.std.proofs.Common.{rules}
use Rattle.cx_declare.proofs.Lengths.{static_last_is}
use Rattle.cx_expr.specs.Knot.{readers}
use Rattle.cx_tree.specs.declared.declarator.Brackets.TheFolds.{fold_out-Brackets, fold-roll-Brackets}
use Rattle.cx_tree.specs.declared.declarator.Brackets.TheViews.{the_lemmas}
use Rattle.cx_declare.proofs.brackets.static_last.Goals as goal

pub returns-clause-reads : goal.returns-clause-reads
returns-clause-reads g c =
    static_last_is (readers c.args.depth) _ _ _ _ _ _ _ _ _ _ _ _ c.in_ok-key.ensures c.in_ok-size.ensures.reads c.in_ok-mark.ensures c.in_ok-push.ensures.ok c.in_ok-push-2.ensures.ok
    (first_of (simp fold_out-Brackets, search (rules, the_lemmas, fold_out-Brackets, fold-roll-Brackets)))
