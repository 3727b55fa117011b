use Rattle.std.proofs.Common.{◌≡◌, ℕ, List, map, drop}
use Rattle.rs_items.specs.Known.{view_names}
use Rattle.whole_given.specs.Whole.{named}
use Rattle.whole_keys.specs.Views.{view_key}
use Rattle.whole_known.specs.Modules.{TakesNames, names_taken}
use Rattle.whole_known.proofs.externals.take_names.Given as goal

-- with what is left these are all
abbrev pub invariant-loop-one : goal.invariant-loop-one
invariant-loop-one l = record {
  taken : TakesNames (view_names l.fn.names) (view_names l.names) (view_names l.names).taken.module_names;
  all : names_taken (named l.whole).program (view_names l.names).taken.module_names (map view_key (drop l.one-index l.keys))
      ≡ names_taken (named l.whole).program (view_names l.fn.names).taken.module_names (map view_key l.keys);
}
