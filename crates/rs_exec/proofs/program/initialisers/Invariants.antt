use Rattle.std.proofs.Common.{map, drop}
use Rattle.rs_mean.specs.Laws.{bodies_of}
use Rattle.rs_tree.specs.Views.{module_view}
use Rattle.rs_machine.specs.States.{state}
use Rattle.rs_exec.proofs.Started.{Initialisers}
use Rattle.rs_bodies.proofs.Turned.{Follows}
use Rattle.rs_exec.proofs.program.initialisers.Given as goal

-- what the initialisers that are left do from here, all do from the start
abbrev pub invariant-loop-unit : goal.invariant-loop-unit
invariant-loop-unit g l = record {
  follows : Follows (Initialisers (bodies_of (map module_view l.scene.modules.now)) l.modules l.modules) (Initialisers (bodies_of (map module_view l.scene.modules.now)) l.modules (drop l.unit-index l.modules))
      (state l.fn.machine (g.S.Store.memory l.fn.store) (g.S.Store.limit l.fn.store) (g.H.Host.state l.fn.host)) (state l.machine (g.S.Store.memory l.store) (g.S.Store.limit l.store) (g.H.Host.state l.host));
}
