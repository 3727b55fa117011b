use Rattle.std.proofs.Common.{◌≡◌, ◌++◌, map, drop}
use Rattle.cx_cursor.specs.Scopes.{bindings, bound}
use Rattle.cx_cursor.proofs.scope.bounds_of.Given as goal

abbrev pub invariant-loop-index : goal.invariant-loop-index
invariant-loop-index l = map bound l.list ++ drop l.index (bindings l.declared) ≡ drop l.fn.count (bindings l.declared)
