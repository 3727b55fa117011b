use Rattle.std.proofs.Common.{map, drop}
use Rattle.ext_calls.specs.Host.{HostState}
use Rattle.rs_tree.specs.Views.{module_view}
use Rattle.rs_machine.specs.States.{Kept, state}
use Rattle.rs_exec.proofs.Started.{Statics}
use Rattle.rs_bodies.proofs.Turned.{Follows}
use Rattle.rs_exec.proofs.begins.begin_statics.Given as goal

-- what beginning the objects that are left does from here, beginning all does from the start
abbrev pub invariant-loop-one : goal.invariant-loop-one
invariant-loop-one g l = record {
  follows : (kept : Kept) (host : HostState) → Follows (Statics (map module_view l.modules) l.statics l.statics) (Statics (map module_view l.modules) l.statics (drop l.one-index l.statics))
      (state kept (g.S.Store.memory l.fn.store) (g.S.Store.limit l.fn.store) host) (state kept (g.S.Store.memory l.store) (g.S.Store.limit l.store) host);
}
