use Rattle.std.proofs.Common.{◌≡◌, ◌++◌, Ok, map, drop}
use Rattle.cx_access.specs.Views.{view_setting}
use Rattle.cx_mean.specs.Calls.{arguments}
use Rattle.cx_work.specs.Views.{view_operand}
use Rattle.mem_bytes.specs.Access.{and_then}
use Rattle.cx_outside.proofs.texts.arguments_into.Given as goal

-- the arguments so far, and then those that are left, are all
abbrev pub invariant-loop-one : goal.invariant-loop-one
invariant-loop-one g l = and_then (arguments (view_setting l.setting) (g.S.Store.memory l.store) (map view_operand (drop l.one-index l.list))) (λ others. Ok (l.into ++ others))
    ≡ and_then (arguments (view_setting l.setting) (g.S.Store.memory l.store) (map view_operand l.list)) (λ others. Ok (l.fn.into ++ others))
