use Rattle.std.proofs.Common.{◌≡◌, [], map, drop}
use Rattle.cx_core.specs.Trees.{block}
use Rattle.cx_core.specs.Views.{stmts_of, view_stmt}
use Rattle.cx_mean.specs.Paths.{way_in}
use Rattle.cx_moves.specs.Ways.{view_target}
use Rattle.cx_moves.proofs.ways.+ways.Given as goal

-- nothing was found so far, and what is left leads where all of them lead
abbrev pub invariant-way_among-loop-stmt : goal.invariant-way_among-loop-stmt
invariant-way_among-loop-stmt l = record {
  none : l.way ≡ [];
  count : l.index ≡ l.stmt-index;
  left : way_in (view_target l.target) (block (stmts_of (map view_stmt (drop l.stmt-index l.stmts))))
      ≡ way_in (view_target l.target) (block (stmts_of (map view_stmt l.stmts)));
}
