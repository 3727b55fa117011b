use Rattle.std.proofs.Common.{rules, ◌∙◌, ap, Err}
use Rattle.rs_parse.proofs.OutlineLaws.{main_not_refused}
use Rattle.rs_parse.proofs.outline.printed_tokens.Goals as goal

pub unreachable-requires : goal.unreachable-requires
unreachable-requires c =
    main_not_refused c.args.outline.now c.as_slice-2.result.now c.lex.result c.in-Err-NotTokens.field-0-0 c.requires.names c.requires.entry (search rules) c.lex.ensures
    (c.in-Err-NotTokens.is ∙ ap Err c.in-Err-NotTokens.field-0-is)
