use Rattle.std.proofs.Common.{◌≡◌, map, reverse, length}
use Rattle.cx_contents.specs.Contents.{declares_object}
use Rattle.cx_scope.specs.Names.{newest}
use Rattle.cx_scope.specs.Views.{view_declared}
use Rattle.cx_contents.proofs.names.searched_object.Given as goal

-- what is found among those that are left is what is found among all
abbrev pub invariant-loop-last : goal.invariant-loop-last
invariant-loop-last l = newest (declares_object l.name) (reverse (map view_declared l.left)) ≡ newest (declares_object l.name) (reverse (map view_declared l.declared))

abbrev pub decreases-loop-last : goal.decreases-loop-last
decreases-loop-last l = length l.left
