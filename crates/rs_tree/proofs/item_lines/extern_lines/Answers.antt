use Rattle.std.proofs.Common.{refl}
use Rattle.rs_tree.proofs.Growing.{then}
use Rattle.rs_tree.proofs.item_lines.extern_lines.Goals as goal

pub returns : goal.returns
returns c = then _ _ _ _ _ _ c.fixed.ensures (then _ _ _ _ _ _ c.all_outer_lines.ensures c.fixed-2.ensures refl) refl
