use Rattle.rs_parse.proofs.CargoLaws.{is_no_token, lexed_some}
use Rattle.rs_parse.proofs.cargo.is_empty.Goals as goal

pub returns-in-Ok : goal.returns-in-Ok
returns-in-Ok c = is_no_token c.args.text.now c.is_empty.result c.in-Ok.tokens (lexed_some _ c.lex.result c.in-Ok.tokens c.lex.ensures c.in-Ok.is) c.is_empty.ensures
