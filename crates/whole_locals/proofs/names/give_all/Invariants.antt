use Rattle.std.proofs.Common.{◌≡◌, map, drop}
use Rattle.rs_items.specs.Known.{view_names}
use Rattle.whole_locals.specs.Names.{TakesOwn, made_behind, own_behind, view_local}
use Rattle.whole_locals.specs.Wanted.{view_wanted}
use Rattle.whole_locals.proofs.names.give_all.Given as goal

-- with what is left these are all
abbrev pub invariant-loop-one : goal.invariant-loop-one
invariant-loop-one l = record {
  taken : TakesOwn (view_names l.fn.names) (view_names l.names) (view_names l.names).taken.own_names;
  own : own_behind (view_names l.fn.names).taken.module_names (view_names l.names).taken.own_names (map view_wanted (drop l.one-index l.wanted))
      ≡ own_behind (view_names l.fn.names).taken.module_names (view_names l.fn.names).taken.own_names (map view_wanted l.wanted);
  made : made_behind (view_names l.fn.names).taken.module_names (view_names l.names).taken.own_names (map view_local l.made) (map view_wanted (drop l.one-index l.wanted))
      ≡ made_behind (view_names l.fn.names).taken.module_names (view_names l.fn.names).taken.own_names (map view_local l.fn.made) (map view_wanted l.wanted);
}
