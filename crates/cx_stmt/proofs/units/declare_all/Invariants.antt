use Rattle.std.proofs.Common.{◌≡◌, ◌++◌, map, drop}
use Rattle.cx_cursor.specs.Scopes.{bound}
use Rattle.cx_stmt.proofs.units.declare_all.Given as goal

abbrev pub invariant-loop-index : goal.invariant-loop-index
invariant-loop-index l =
    (l.cursor.tokens ≡ l.initial.cursor.tokens)
    × (l.cursor.names ++ map bound (drop l.index l.declared) ≡ l.initial.cursor.names ++ map bound l.declared)
