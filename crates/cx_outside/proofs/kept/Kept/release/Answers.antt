use Rattle.std.proofs.Common.{sym}
use Rattle.cx_outside.proofs.Heap.{is_released}
use Rattle.cx_outside.proofs.kept.Kept.release.Goals as goal

pub returns : goal.returns
returns c = rw (sym c.self.view_is) (is_released c.remove.result c.args.block c.self.inside.trail c.self.inside.heap.keys c.remove.new.self.keys c.remove.ensures.test c.remove.ensures.keys c.remove.ensures.unchanged)
