use Rattle.std.proofs.Common.{◌≡◌, map, drop}
use Rattle.std.specs.List.{list_all}
use Rattle.rs_text.specs.Valid.{valid_local}
use Rattle.rs_tree.specs.Views.{local_view}
use Rattle.rs_valid.proofs.items.are_valid_locals.Given as goal

-- what is left is valid where all is
abbrev pub invariant-loop-local : goal.invariant-loop-local
invariant-loop-local l = list_all valid_local (map local_view (drop l.local-index l.local-items)) ≡ list_all valid_local (map local_view l.local-items)
