use Rattle.std.proofs.Common.{◌≡◌, map, drop}
use Rattle.rs_items.specs.Known.{view_names}
use Rattle.rs_items.specs.declared.known.Named.{Named}
use Rattle.whole_given.specs.Whole.{named}
use Rattle.whole_known.specs.Stages.{HasTypes, KeepsRest}
use Rattle.whole_locals.specs.Functions.{items_put}
use Rattle.whole_locals.specs.Names.{view_local}
use Rattle.whole_locals.proofs.left.restore_all.Given as goal

-- what is left is known behind what is known
abbrev pub invariant-loop-one : goal.invariant-loop-one
invariant-loop-one l = record {
  types : HasTypes (named l.whole) (view_names l.names).known;
  known : (one : Named) → items_put (named l.whole) (map view_local (drop l.one-index l.locals)) (view_names l.names).known one
      ≡ items_put (named l.whole) (map view_local l.locals) (view_names l.fn.names).known one;
  rest : KeepsRest (view_names l.fn.names) (view_names l.names);
}
