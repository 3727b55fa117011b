use Rattle.std.proofs.Common.{rules}
use Rattle.straight_whole.proofs.Made.{crate_made}
use Rattle.straight_whole.proofs.translation.translate.Goals as goal

pub returns : goal.returns
returns c = record {
  right = crate_made c.args.program.now c.args.name c.in_ok-home.home c.requires c.functions.result.now c.in-Some.main.now c.in_ok-names.names c.in_ok-items.items c.push.new.self
      (search rules) (search rules) (search rules) (search rules) (search rules) (search rules);
}
