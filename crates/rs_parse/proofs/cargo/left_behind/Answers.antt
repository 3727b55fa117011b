use Rattle.rs_parse.proofs.CargoLaws.{first_still}
use Rattle.rs_parse.proofs.cargo.left_behind.Goals as goal

pub is_line-requires : goal.is_line-requires
is_line-requires c = first_still c.args.lines.now c.line-item.result c.in-len1-up.len_at_least c.line-item.is c.requires
