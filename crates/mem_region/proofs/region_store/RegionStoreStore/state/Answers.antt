use Rattle.mem_region.proofs.Writes.{state_none, state_live, state_dead}
use Rattle.mem_region.proofs.region_store.RegionStoreStore.state.Goals as goal

pub returns-then-block-self : goal.returns-then-block-self
returns-then-block-self c =
    state_none c.self.inside c.args.self.now c.args.block c.self.invariant c.self.view_is c.if-block-self.true

pub returns-in-Ok : goal.returns-in-Ok
returns-in-Ok c =
    state_live c.self.inside c.args.self.now c.deref.result.now c.args.block c.in-Ok.live c.self.invariant c.self.view_is c.deref.ensures.value c.in-Ok.ensures.value

pub returns-in-Err : goal.returns-in-Err
returns-in-Err c =
    state_dead c.self.inside c.args.self.now c.deref.result.now c.args.block _ c.self.invariant c.self.view_is c.deref.ensures.value c.if-block-self.false c.in-Err.ensures.value
