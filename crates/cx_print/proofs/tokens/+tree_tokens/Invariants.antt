use Rattle.std.proofs.Common.{map, drop}
use Rattle.cx_lex.specs.declared.token.Punct.TheVariants.{RightParenthesis, Semicolon}
use Rattle.cx_print.specs.Printing.{Appends, grown}
use Rattle.cx_tree.specs.Tokens as tokens
use Rattle.cx_tree.specs.Views.{designator_view, designators, entry_view, entries, enumerator_view, enumerators, expr_view, exprs, member_decl_view, member_decls, member_declarator_view, member_declarators, param_view, params, spec_view, specs}
use Rattle.cx_print.proofs.tokens.+tree_tokens.Given as goal

abbrev pub invariant-declarators::put_params-loop-param : goal.invariant-declarators::put_params-loop-param
invariant-declarators::put_params-loop-param l = Appends l.initial.out (grown l.out (tokens.behind_commas (tokens.parenthesis l.fn.variadic) (tokens.params_tokens (params (map param_view (drop l.param-index l.others)))) l.ahead)) (tokens.behind_commas (tokens.parenthesis l.fn.variadic) (tokens.params_tokens (params (map param_view l.others))) l.initial.ahead)

abbrev pub invariant-exprs::put_args-loop-arg : goal.invariant-exprs::put_args-loop-arg
invariant-exprs::put_args-loop-arg l = Appends l.initial.out (grown l.out (tokens.behind_commas (tokens.ended RightParenthesis) (tokens.exprs_tokens (exprs (map expr_view (drop l.arg-index l.others)))) l.ahead)) (tokens.behind_commas (tokens.ended RightParenthesis) (tokens.exprs_tokens (exprs (map expr_view l.others))) l.initial.ahead)

abbrev pub invariant-initialisers::put_designation-loop-designator : goal.invariant-initialisers::put_designation-loop-designator
invariant-initialisers::put_designation-loop-designator l = Appends l.initial.out (grown l.out (tokens.designators_tokens (designators (map designator_view (drop l.designator-index l.others))))) (tokens.designators_tokens (designators (map designator_view l.others)))

abbrev pub invariant-initialisers::put_list-loop-entry : goal.invariant-initialisers::put_list-loop-entry
invariant-initialisers::put_list-loop-entry l = Appends l.initial.out (grown l.out (tokens.behind_commas (tokens.brace l.last_comma) (tokens.entries_tokens (entries (map entry_view (drop l.entry-index l.others)))) l.ahead)) (tokens.behind_commas (tokens.brace l.last_comma) (tokens.entries_tokens (entries (map entry_view l.others))) l.initial.ahead)

abbrev pub invariant-specifiers::put_enumerators-loop-enumerator : goal.invariant-specifiers::put_enumerators-loop-enumerator
invariant-specifiers::put_enumerators-loop-enumerator l = Appends l.initial.out (grown l.out (tokens.behind_commas (tokens.brace l.fn.last_comma) (tokens.enumerators_tokens (enumerators (map enumerator_view (drop l.enumerator-index l.others)))) l.ahead)) (tokens.behind_commas (tokens.brace l.fn.last_comma) (tokens.enumerators_tokens (enumerators (map enumerator_view l.others))) l.initial.ahead)

abbrev pub invariant-specifiers::put_member_declarators-loop-declarator : goal.invariant-specifiers::put_member_declarators-loop-declarator
invariant-specifiers::put_member_declarators-loop-declarator l = Appends l.initial.out (grown l.out (tokens.behind_commas (tokens.ended Semicolon) (tokens.member_declarators_tokens (member_declarators (map member_declarator_view (drop l.declarator-index l.others)))) l.ahead)) (tokens.behind_commas (tokens.ended Semicolon) (tokens.member_declarators_tokens (member_declarators (map member_declarator_view l.others))) l.initial.ahead)

abbrev pub invariant-specifiers::put_members-loop-decl : goal.invariant-specifiers::put_members-loop-decl
invariant-specifiers::put_members-loop-decl l = Appends l.initial.out (grown l.out (tokens.member_decls_tokens (member_decls (map member_decl_view (drop l.decl-index l.decl-items))))) (tokens.member_decls_tokens (member_decls (map member_decl_view l.decl-items)))

abbrev pub invariant-specifiers::put_specs-loop-spec : goal.invariant-specifiers::put_specs-loop-spec
invariant-specifiers::put_specs-loop-spec l = Appends l.initial.out (grown l.out (tokens.specs_tokens (specs (map spec_view (drop l.spec-index l.spec-items))))) (tokens.specs_tokens (specs (map spec_view l.spec-items)))
