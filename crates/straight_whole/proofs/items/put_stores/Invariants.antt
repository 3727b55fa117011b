use Rattle.std.proofs.Common.{◌≡◌, ◌++◌, map, drop}
use Rattle.straight_core.specs.Views.{view_put}
use Rattle.straight_lift.specs.Coded.{names_of}
use Rattle.straight_rust_tree.specs.View.{stmt_view}
use Rattle.straight_whole.specs.CrateOf.{store_in}
use Rattle.straight_whole.proofs.items.put_stores.Given as goal

abbrev pub invariant-loop-put : goal.invariant-loop-put
invariant-loop-put l = map stmt_view l.made ++ map (store_in (names_of l.names) l.object) (map view_put (drop l.put-index l.puts)) ≡ map (store_in (names_of l.names) l.object) (map view_put l.puts)
