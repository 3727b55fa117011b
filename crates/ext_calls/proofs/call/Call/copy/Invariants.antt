use Rattle.std.proofs.Common.{◌≡◌, take}
use Rattle.ext_calls.proofs.call.Call.copy.Given as goal

-- the arguments up to this one are copied
abbrev pub invariant-loop-arg : goal.invariant-loop-arg
invariant-loop-arg l = l.args ≡ take l.arg-index l.self.args
