use Rattle.std.proofs.Common.{◌≡◌, ◌++◌, map, drop}
use Rattle.cx_contents.specs.Contents.{block_literals}
use Rattle.cx_scope.specs.Views.{view_made}
use Rattle.cx_contents.proofs.literals.block_literals.Given as goal

-- the objects so far, and those of the literals that are left
abbrev pub invariant-loop-one : goal.invariant-loop-one
invariant-loop-one l = l.objects ++ block_literals (map view_made (drop l.one-index l.literals)) ≡ block_literals (map view_made l.literals)
