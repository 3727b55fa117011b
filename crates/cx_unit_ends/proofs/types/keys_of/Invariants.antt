use Rattle.std.proofs.Common.{◌≡◌, ◌++◌, map, drop}
use Rattle.cx_core.specs.Views.{view_key}
use Rattle.cx_scope.specs.Views.{view_thing}
use Rattle.cx_unit_ends.specs.Ends as ends
use Rattle.cx_unit_ends.proofs.types.keys_of.Given as goal

-- the keys so far, and those of what is left
abbrev pub invariant-loop-one : goal.invariant-loop-one
invariant-loop-one l = map view_key l.keys ++ map ends.key_of (map view_thing (drop l.one-index l.things)) ≡ map ends.key_of (map view_thing l.things)
