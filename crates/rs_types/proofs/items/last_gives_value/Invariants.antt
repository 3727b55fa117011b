use Rattle.std.proofs.Common.{◌≡◌, map, drop, false}
use Rattle.rs_tree.specs.Views.{stmt_view}
use Rattle.rs_types.specs.Bodies.{ends_from}
use Rattle.rs_types.proofs.items.last_gives_value.Given as goal

-- what is left answers for all
abbrev pub invariant-loop-stmt : goal.invariant-loop-stmt
invariant-loop-stmt l = ends_from l.ends (map stmt_view (drop l.stmt-index l.body)) ≡ ends_from false (map stmt_view l.body)
