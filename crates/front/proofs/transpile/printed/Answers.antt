use Rattle.straight_print.proofs.Printable.{printable}
use Rattle.straight_rust_tree.specs.View.{crate_view}
use Rattle.front.proofs.transpile.printed.Goals as goal

pub print-requires : goal.print-requires
print-requires c = printable (crate_view c.in_ok-whole.whole) c.in_ok-whole.ensures.right.well_typed.valid
