use Rattle.std.proofs.Common.{◌≡◌, ◌++◌, map, drop}
use Rattle.cx_lex.specs.declared.token.Punct.TheVariants.{Semicolon}
use Rattle.straight_tree.specs.Tokens.{behind_commas, init_declarators_tokens}
use Rattle.straight_tree.specs.Views.{init_declarator_view}
use Rattle.straight_tree.proofs.tokens.declarations.put_init_declarators.Given as goal

abbrev pub invariant-loop-declarator : goal.invariant-loop-declarator
invariant-loop-declarator l = l.out ++ behind_commas Semicolon (init_declarators_tokens (map init_declarator_view (drop l.declarator-index l.others))) l.ahead ≡ l.initial.out ++ behind_commas Semicolon (init_declarators_tokens (map init_declarator_view l.others)) l.initial.ahead
