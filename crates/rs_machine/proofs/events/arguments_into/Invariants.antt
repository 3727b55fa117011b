use Rattle.std.proofs.Common.{◌≡◌, ◌++◌, Ok, map, drop}
use Rattle.rs_mean.specs.Calls.{arguments_of}
use Rattle.rs_mean.specs.World.{then_try}
use Rattle.rs_value.specs.Views.{typed_view}
use Rattle.rs_machine.proofs.events.arguments_into.Given as goal

-- the arguments so far, and then those that are left, are all
abbrev pub invariant-loop-one : goal.invariant-loop-one
invariant-loop-one g l = then_try (arguments_of (g.S.Store.memory l.store) (map typed_view (drop l.one-index l.list))) (λ others. Ok (l.into ++ others))
    ≡ then_try (arguments_of (g.S.Store.memory l.store) (map typed_view l.list)) (λ others. Ok (l.fn.into ++ others))
