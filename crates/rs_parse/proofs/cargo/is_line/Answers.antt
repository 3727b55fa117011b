use Rattle.std.proofs.Common.{rules, ◌∙◌, sym, ap}
use Rattle.rs_lex.specs.Closed.{closed_in}
use Rattle.rs_lex.specs.Views.{tokens_view}
use Rattle.rs_parse.proofs.CargoLaws.{line_same, lexed_some}
use Rattle.rs_parse.proofs.cargo.is_line.Goals as goal

pub returns : goal.returns
returns c =
    (search rules)
    ∙ line_same c.args.text.now c.args.line.now (tokens_view c.in-Ok.tokens) (tokens_view c.in-Ok-lex.printed) c.requires
    (lexed_some _ c.lex.result c.in-Ok.tokens c.lex.ensures c.in-Ok.is)
    (ap closed_in (sym c.bytes.ensures) ∙ lexed_some _ c.lex-2.result c.in-Ok-lex.printed c.lex-2.ensures c.in-Ok-lex.is)
