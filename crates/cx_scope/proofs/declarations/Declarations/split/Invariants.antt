use Rattle.std.proofs.Common.{◌≡◌, ◌++◌, take, drop, reverse, length}
use Rattle.cx_scope.proofs.declarations.Declarations.split.Given as goal

-- what was taken off, and then what is still to be taken off
abbrev pub invariant-loop-self : goal.invariant-loop-self
invariant-loop-self l = record {
  taken : l.newest ++ reverse (drop l.count l.self) ≡ reverse (drop l.count l.initial.self);
  left : take l.count l.self ≡ take l.count l.initial.self;
}

abbrev pub decreases-loop-self : goal.decreases-loop-self
decreases-loop-self l = length l.self
