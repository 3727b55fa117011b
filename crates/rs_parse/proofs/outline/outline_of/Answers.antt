use Rattle.std.proofs.Common.{rules, refl}
use Rattle.rs_lex.specs.Views.{tokens_view}
use Rattle.rs_tree.specs.Views.{crate_view}
use Rattle.rs_parse.proofs.CargoLaws.{lexed_some}
use Rattle.rs_parse.proofs.OutlineLaws.{found, refused}
use Rattle.rs_parse.proofs.outline.outline_of.Goals as goal

pub returns-in-None : goal.returns-in-None
returns-in-None c =
    found c.args.text.now (tokens_view c.in-Ok.tokens) (crate_view c.in_ok-outline.outline) (lexed_some _ c.lex.result c.in-Ok.tokens c.lex.ensures c.in-Ok.is) (search rules) (search rules)

pub returns : goal.returns
returns c = (
  refl,
  λ names entry is.
      refused c.args.text.now (tokens_view c.in-Ok.tokens) (crate_view c.in_ok-outline.outline) names entry (lexed_some _ c.lex.result c.in-Ok.tokens c.lex.ensures c.in-Ok.is) (search rules) (search rules) is,
)
