use Rattle.std.proofs.Common.{◌≡◌, ◌≤◌, length, map, drop}
use Rattle.cx_core.specs.BitFields.{has_bit_fields}
use Rattle.cx_core.specs.Views.{view_outer}
use Rattle.rs_items.specs.Known.{view_names}
use Rattle.whole_given.specs.Whole.{named}
use Rattle.whole_known.specs.Stages.{HasTypes, KnowsMore, outers_put}
use Rattle.whole_known.proofs.externals.keep_outers.Given as goal

-- what stands behind those that are left is known
abbrev pub invariant-loop-left : goal.invariant-loop-left
invariant-loop-left l = record {
  within : l.left ≤ length l.externals;
  types : HasTypes (named l.whole) (view_names l.names).known;
  bits : (view_names l.names).has_bits ≡ has_bit_fields (named l.whole).program.types;
  known : KnowsMore (view_names l.fn.names) (view_names l.names) (outers_put (named l.whole) l.unit (map view_outer (drop l.left l.externals)) (view_names l.fn.names).known);
}

abbrev pub decreases-loop-left : goal.decreases-loop-left
decreases-loop-left l = l.left
