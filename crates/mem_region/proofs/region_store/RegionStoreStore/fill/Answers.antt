use Rattle.std.proofs.Common.{replicate, refl}
use Rattle.std.proofs.lemmas.Result.{err_from_is_err_and}
use Rattle.mem_bytes.specs.Memory.{byte_cell}
use Rattle.std.proofs.lemmas.List.{length-replicate}
use Rattle.mem_region.proofs.Calls.{place_within}
use Rattle.mem_region.proofs.Changing.{whole_changed}
use Rattle.mem_region.proofs.Writes.{fill_fault, fill_done}
use Rattle.mem_region.proofs.region_store.RegionStoreStore.fill.Goals as goal

pub returns-in_err-start-clause-outcome : goal.returns-in_err-start-clause-outcome
returns-in_err-start-clause-outcome c =
    let p = err_from_is_err_and c.from_residual.result c.from_residual.ensures.1 in
    rw (p.1, p.2) (fill_fault c.self.inside c.args.self.now c.deref.result.now c.args.at c.args.byte c.args.count c.in_err-start.field-0.0 c.self.invariant c.self.view_is c.deref.ensures.value c.in_err-start.ensures, refl)

pub set_bytes-requires : goal.set_bytes-requires
set_bytes-requires c =
    place_within c.self.inside c.deref.result.now c.args.at c.args.count c.in_ok-start.start c.self.invariant c.deref.ensures.value c.in_ok-start.ensures

pub invariant_of-self : goal.invariant_of-self
invariant_of-self c =
    whole_changed c.self.inside c.in_ok-start.start (replicate c.args.count (byte_cell c.args.byte)) c.set_bytes.new.held c.self.invariant
    (rw length-replicate (place_within c.self.inside c.deref.result.now c.args.at c.args.count c.in_ok-start.start c.self.invariant c.deref.ensures.value c.in_ok-start.ensures))
    c.set_bytes.ensures

pub returns-clause-outcome : goal.returns-clause-outcome
returns-clause-outcome c =
    fill_done c.self.inside c.args.self.now c.deref.result.now c.args.at c.args.byte c.args.count c.in_ok-start.start c.set_bytes.new.held c.self.invariant c.self.view_is c.deref.ensures.value c.in_ok-start.ensures c.set_bytes.ensures
