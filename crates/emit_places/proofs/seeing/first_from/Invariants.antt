use Rattle.std.proofs.Common.{◌≡◌, drop}
use Rattle.emit_rules.specs.Sorting.{first_from}
use Rattle.emit_places.specs.Places.{table_of}
use Rattle.emit_places.proofs.seeing.first_from.Given as goal

abbrev pub invariant-loop-node : goal.invariant-loop-node
invariant-loop-node l = first_from (table_of l.table) l.first (drop l.node-index l.entries) ≡ first_from (table_of l.table) l.number l.entries
