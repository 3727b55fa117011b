use Rattle.std.proofs.Common.{rules, ◌∙◌, ap, Err}
use Rattle.rs_parse.proofs.ModuleRead.{not_refused}
use Rattle.rs_parse.proofs.module.printed_tokens.Goals as goal

pub unreachable-requires : goal.unreachable-requires
unreachable-requires c =
    not_refused c.as_slice-2.result.now c.lex.result c.args.module.now c.in-Err-NotTokens.field-0-0 c.requires (search rules) c.lex.ensures (c.in-Err-NotTokens.is ∙ ap Err c.in-Err-NotTokens.field-0-is)
