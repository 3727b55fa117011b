use Rattle.std.proofs.Common.{◌≡◌, ◌++◌, codes, rules}
use Rattle.rs_print.proofs.Blanks.{four_more}
use Rattle.rs_print.proofs.bytes.indentation.Goals as goal

pub loop-level-preserved : goal.loop-level-preserved
loop-level-preserved c =
    let written : c.extend_from_slice.new.self.items ≡ c.loop-level.bytes.items ++ codes "    " = search rules in
    four_more c.args.bytes.now.items c.loop-level.bytes.items c.extend_from_slice.new.self.items c.loop-level._level
    c.loop-level.invariant written
