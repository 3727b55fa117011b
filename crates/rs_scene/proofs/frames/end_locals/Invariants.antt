use Rattle.std.proofs.Common.{◌≡◌, map, drop}
use Rattle.rs_scene.specs.Frames.{without_blocks}
use Rattle.rs_scene.specs.Scenes.{held_local}
use Rattle.rs_scene.proofs.frames.end_locals.Given as goal

-- what is left to end, ended now, is all of them ended at first
abbrev pub invariant-loop-one : goal.invariant-loop-one
invariant-loop-one g l = record {
  blocks : without_blocks (map held_local (drop l.one-index l.locals)) (g.S.Store.memory l.store) ≡ without_blocks (map held_local l.locals) (g.S.Store.memory l.fn.store);
  limit : g.S.Store.limit l.store ≡ g.S.Store.limit l.fn.store;
}
