use Rattle.std.proofs.Common.{◌≡◌, ◌++◌, map, drop}
use Rattle.cx_lex.specs.declared.token.Punct.TheVariants.{RightParenthesis}
use Rattle.straight_tree.specs.Tokens.{behind_commas, exprs_tokens}
use Rattle.straight_tree.specs.Views.{exprs, expr_view}
use Rattle.straight_tree.proofs.tokens.exprs.+expr_tokens.Given as goal

abbrev pub invariant-put_args-loop-arg : goal.invariant-put_args-loop-arg
invariant-put_args-loop-arg l = l.out ++ behind_commas RightParenthesis (exprs_tokens (exprs (map expr_view (drop l.arg-index l.others)))) l.ahead ≡ l.initial.out ++ behind_commas RightParenthesis (exprs_tokens (exprs (map expr_view l.others))) l.initial.ahead
