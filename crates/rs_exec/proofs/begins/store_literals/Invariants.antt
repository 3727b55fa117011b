use Rattle.std.proofs.Common.{drop}
use Rattle.ext_calls.specs.Host.{HostState}
use Rattle.rs_mean.specs.Calls.{store_literals}
use Rattle.rs_machine.specs.States.{Kept, state}
use Rattle.rs_bodies.proofs.Turned.{Follows}
use Rattle.rs_exec.proofs.begins.store_literals.Given as goal

-- what storing the literals that are left does from here, storing all does from the start
abbrev pub invariant-loop-literal : goal.invariant-loop-literal
invariant-loop-literal g l = record {
  follows : (kept : Kept) (host : HostState) → Follows (store_literals l.block 0 l.literals) (store_literals l.block l.offset (drop l.literal-index l.literals))
      (state kept (g.S.Store.memory l.fn.store) (g.S.Store.limit l.fn.store) host) (state kept (g.S.Store.memory l.store) (g.S.Store.limit l.store) host);
}
