use Rattle.std.proofs.Common.{◌≡◌, drop}
use Rattle.cx_init.specs.Ascending.{ascend, paths_of}
use Rattle.cx_init.proofs.values.ascend.Given as goal

-- those that are left answer for all
abbrev pub invariant-loop-index : goal.invariant-loop-index
invariant-loop-index l = ascend (paths_of (drop l.index l.stored)) ≡ ascend (paths_of l.stored)
