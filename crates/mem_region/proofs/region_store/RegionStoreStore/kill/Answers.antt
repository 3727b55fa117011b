use Rattle.std.proofs.Common.{refl, subst, arith}
use Rattle.mem_region.specs.Layout.{NoneHas, HasAt}
use Rattle.mem_region.proofs.Copying.{TakenOut, kill_dead, kill_made, whole_killed, dead_within}
use Rattle.mem_region.proofs.region_store.RegionStoreStore.kill.Goals as goal

pub returns-in_default-clause-outcome : goal.returns-in_default-clause-outcome
returns-in_default-clause-outcome c =
    (kill_dead c.self.inside c.args.self.now c.args.block c.self.invariant c.self.view_is (subst (λ table. NoneHas table c.args.block) c.deref.ensures.value c.in_default.ensures), refl)

pub close_gap-requires : goal.close_gap-requires
close_gap-requires c =
    let at = subst (λ table. HasAt table c.args.block c.in-Some.index) c.deref.ensures.value c.in-Some.ensures in
    omega (arith, dead_within c.self.inside c.in-Some.index c.take_out-dead.result c.self.invariant at.within c.take_out-dead.ensures.dead)

taken_out : (c : goal.After-close_gap) → TakenOut c.self.inside c.args.block c.in-Some.index c.take_out-dead.result c.take_out-dead.new.table c.close_gap.new.held
taken_out c = record {
  at = subst (λ table. HasAt table c.args.block c.in-Some.index) c.deref.ensures.value c.in-Some.ensures;
  read = c.take_out-dead.ensures.dead;
  rest = c.take_out-dead.ensures.rest;
  closed = c.close_gap.ensures.cells;
  table_room = c.take_out-dead.ensures.room;
  cells_room = c.close_gap.ensures.room;
}

pub invariant_of-self : goal.invariant_of-self
invariant_of-self c = whole_killed c.self.inside c.args.block _ _ _ _ c.self.invariant (taken_out c)

pub returns-clause-outcome : goal.returns-clause-outcome
returns-clause-outcome c = kill_made c.self.inside c.args.self.now c.args.block _ _ _ _ c.self.invariant c.self.view_is (taken_out c)
