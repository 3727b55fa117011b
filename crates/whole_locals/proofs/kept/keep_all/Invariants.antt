use Rattle.std.proofs.Common.{◌≤◌, length, map, drop}
use Rattle.rs_items.specs.Known.{view_names}
use Rattle.rs_tree.specs.Views.{ty_view}
use Rattle.whole_given.specs.Whole.{named}
use Rattle.whole_known.specs.Stages.{HasTypes, KnowsMore}
use Rattle.whole_locals.specs.Functions.{locals_put}
use Rattle.whole_locals.specs.Names.{view_local}
use Rattle.whole_locals.proofs.kept.keep_all.Given as goal

-- what stands behind those that are left is known
abbrev pub invariant-loop-left : goal.invariant-loop-left
invariant-loop-left l = record {
  within : l.left ≤ length l.locals;
  types : HasTypes (named l.whole) (view_names l.names).known;
  known : KnowsMore (view_names l.fn.names) (view_names l.names)
      (locals_put (named l.whole) l.unit (map ty_view l.temporaries) (map view_local (drop l.left l.locals)) (view_names l.fn.names).known);
}

abbrev pub decreases-loop-left : goal.decreases-loop-left
decreases-loop-left l = l.left
