use Rattle.std.proofs.Common.{◌≡◌, take, length}
use Rattle.cx_scope.proofs.lists.shorten.Given as goal

abbrev pub invariant-loop-list : goal.invariant-loop-list
invariant-loop-list T l = take l.count l.list ≡ take l.count l.initial.list

abbrev pub decreases-loop-list : goal.decreases-loop-list
decreases-loop-list T l = length l.list
