use Rattle.std.proofs.Common.{◌≡◌, ◌++◌, Ok, map, drop}
use Rattle.cx_mean.specs.Calls.{values_of}
use Rattle.cx_work.specs.Views.{view_operand}
use Rattle.mem_bytes.specs.Access.{and_then}
use Rattle.cx_outside.proofs.texts.values_into.Given as goal

-- the values so far, and then those that are left, are all
abbrev pub invariant-loop-one : goal.invariant-loop-one
invariant-loop-one l = and_then (values_of (map view_operand (drop l.one-index l.list))) (λ others. Ok (l.into ++ others))
    ≡ and_then (values_of (map view_operand l.list)) (λ others. Ok (l.fn.into ++ others))
