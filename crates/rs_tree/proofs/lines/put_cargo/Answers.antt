use Rattle.std.proofs.Common.{refl}
use Rattle.rs_text.specs.Lines.{cargo_lines}
use Rattle.rs_tree.proofs.Growing.{then}
use Rattle.rs_tree.proofs.lines.put_cargo.Goals as goal

pub returns : goal.returns
unfolding cargo_lines
returns c = then _ _ _ _ _ _ c.fixed.ensures (then _ _ _ _ _ _ c.fixed-2.ensures (then _ _ _ _ _ _ c.fixed-3.ensures c.fixed-4.ensures refl) refl) refl
