use Rattle.std.proofs.Common.{◌≡◌, ℕ, map, drop}
use Rattle.rs_items.specs.Known.{view_names}
use Rattle.rs_items.specs.declared.known.Named.{Named}
use Rattle.whole_given.specs.Whole.{named}
use Rattle.whole_keys.specs.Views.{view_key}
use Rattle.whole_known.specs.Stages.{HasTypes, KeepsRest, bares_put}
use Rattle.whole_known.proofs.externals.keep_bares.Given as goal

-- what is left is known behind what is known
abbrev pub invariant-loop-one : goal.invariant-loop-one
invariant-loop-one l = record {
  types : HasTypes (named l.whole) (view_names l.names).known;
  known : (one : Named) → bares_put (named l.whole) l.unit (map view_key (drop l.one-index l.keys)) (view_names l.names).known one
      ≡ bares_put (named l.whole) l.unit (map view_key l.keys) (view_names l.fn.names).known one;
  rest : KeepsRest (view_names l.fn.names) (view_names l.names);
}
