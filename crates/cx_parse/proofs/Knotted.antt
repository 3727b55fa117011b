-- The readers of each depth are complete.
use Rattle.std.proofs.Common.{ℕ}
use Rattle.cx_expr.specs.Below.{Below}
use Rattle.cx_expr.specs.Knot.{readers}
use Rattle.cx_parse.proofs.ReadsExprs.{expr_from_reads, literal_from_reads}
use Rattle.cx_parse.proofs.ReadsInits.{list_from_reads, entry_from_reads, designator_from_reads}
use Rattle.cx_parse.proofs.ReadsKnot.{ExprsRead, readers_read}
use Rattle.cx_parse.proofs.Stood.{AllRead}

exprs_read : (below : Below) (most : ℕ) → AllRead below most → ExprsRead below most
exprs_read below most reads = record {
  expr = expr_from_reads below most reads;
  literal = literal_from_reads below most reads;
  list = list_from_reads below most reads;
  entry = entry_from_reads below most reads;
  designator = designator_from_reads below most reads;
}

pub all_read : (depth : ℕ) → AllRead (readers depth) depth
all_read depth = readers_read exprs_read depth
