use Rattle.std.proofs.Common.{◌≡◌, map, drop}
use Rattle.rs_tree.specs.Views.{outer_view}
use Rattle.rs_layout.specs.Found.{outer_named}
use Rattle.rs_layout.proofs.lookup.outer_named.Given as goal

-- the function stands among those that are left
abbrev pub invariant-loop-one : goal.invariant-loop-one
invariant-loop-one l = outer_named l.name (map outer_view (drop l.one-index l.outers)) ≡ outer_named l.name (map outer_view l.outers)
