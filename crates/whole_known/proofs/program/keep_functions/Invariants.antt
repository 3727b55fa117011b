use Rattle.std.proofs.Common.{◌≤◌, length, map, drop}
use Rattle.cx_core.specs.Views.{view_function}
use Rattle.rs_items.specs.Known.{view_names}
use Rattle.whole_given.specs.Whole.{named}
use Rattle.whole_known.specs.Stages.{HasTypes, KnowsMore, functions_put}
use Rattle.whole_known.proofs.program.keep_functions.Given as goal

-- what stands behind those that are left is known
abbrev pub invariant-loop-left : goal.invariant-loop-left
invariant-loop-left l = record {
  within : l.left ≤ length l.functions;
  types : HasTypes (named l.whole) (view_names l.names).known;
  known : KnowsMore (view_names l.fn.names) (view_names l.names) (functions_put (named l.whole) (map view_function (drop l.left l.functions)) (view_names l.fn.names).known);
}

abbrev pub decreases-loop-left : goal.decreases-loop-left
decreases-loop-left l = l.left
