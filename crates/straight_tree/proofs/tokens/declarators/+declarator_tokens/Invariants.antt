use Rattle.std.proofs.Common.{◌≡◌, ◌++◌, map, drop}
use Rattle.cx_lex.specs.declared.token.Punct.TheVariants.{RightParenthesis}
use Rattle.straight_tree.specs.Tokens.{behind_commas, params_tokens}
use Rattle.straight_tree.specs.Views.{params, param_view}
use Rattle.straight_tree.proofs.tokens.declarators.+declarator_tokens.Given as goal

abbrev pub invariant-put_params-loop-param : goal.invariant-put_params-loop-param
invariant-put_params-loop-param l = l.out ++ behind_commas RightParenthesis (params_tokens (params (map param_view (drop l.param-index l.others)))) l.ahead ≡ l.initial.out ++ behind_commas RightParenthesis (params_tokens (params (map param_view l.others))) l.initial.ahead
