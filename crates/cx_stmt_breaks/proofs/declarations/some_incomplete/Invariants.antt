use Rattle.std.proofs.Common.{◌≡◌, map, drop}
use Rattle.std.specs.List.{list_any}
use Rattle.cx_core.specs.Views.{view_type}
use Rattle.cx_kinds.specs.Known.{types_in}
use Rattle.cx_rules.specs.Types.{is_incomplete}
use Rattle.cx_stmt_breaks.proofs.declarations.some_incomplete.Given as goal

abbrev pub invariant-loop-t : goal.invariant-loop-t
invariant-loop-t l = list_any (is_incomplete (types_in l.known)) (map view_type (drop l.t-index l.list)) ≡ list_any (is_incomplete (types_in l.known)) (map view_type l.list)
