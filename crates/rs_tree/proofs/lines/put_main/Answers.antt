use Rattle.std.proofs.Common.{refl}
use Rattle.rs_tree.proofs.Growing.{then}
use Rattle.rs_tree.proofs.lines.put_main.Goals as goal

pub returns : goal.returns
returns c = then _ _ _ _ _ _ c.allow_line.ensures (then _ _ _ _ _ _ c.declaration_lines.ensures (then _ _ _ _ _ _ c.fixed.ensures (then _ _ _ _ _ _ c.fixed-2.ensures (then _ _ _ _ _ _ c.initialiser_lines.ensures (then _ _ _ _ _ _ c.exit_line.ensures (then _ _ _ _ _ _ c.fixed-3.ensures c.fixed-4.ensures refl) refl) refl) refl) refl) refl) refl
