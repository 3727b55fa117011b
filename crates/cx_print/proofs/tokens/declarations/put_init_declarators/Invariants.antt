use Rattle.std.proofs.Common.{map, drop}
use Rattle.cx_print.specs.Printing.{Appends, grown}
use Rattle.cx_lex.specs.declared.token.Punct.TheVariants.{Semicolon}
use Rattle.cx_tree.specs.Tokens.{behind_commas, ended, init_declarators_tokens}
use Rattle.cx_tree.specs.Views.{init_declarator_view}
use Rattle.cx_print.proofs.tokens.declarations.put_init_declarators.Given as goal

abbrev pub invariant-loop-declarator : goal.invariant-loop-declarator
invariant-loop-declarator l = Appends l.initial.out (grown l.out (behind_commas (ended Semicolon) (init_declarators_tokens (map init_declarator_view (drop l.declarator-index l.others))) l.ahead)) (behind_commas (ended Semicolon) (init_declarators_tokens (map init_declarator_view l.others)) l.initial.ahead)
