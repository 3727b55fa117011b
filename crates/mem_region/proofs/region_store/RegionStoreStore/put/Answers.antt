use Rattle.std.proofs.Common.{take, ap, refl, arith, rules}
use Rattle.std.proofs.lemmas.Result.{err_from_is_err_and}
use Rattle.mem_region.proofs.Calls.{put_fault, put_done, scalar_place_within, few_within}
use Rattle.mem_region.proofs.Changing.{whole_changed}
use Rattle.mem_region.proofs.region_store.RegionStoreStore.put.Goals as goal

pub returns-in_err-start-clause-outcome : goal.returns-in_err-start-clause-outcome
returns-in_err-start-clause-outcome c =
    let p = err_from_is_err_and c.from_residual.result c.from_residual.ensures.1 in
    rw (p.1, p.2) (put_fault c.self.inside c.args.self.now c.deref.result.now c.args.at c.args.scalar c.args.value c.in_err-start.field-0.0 c.self.invariant c.self.view_is c.deref.ensures.value c.in_err-start.ensures, refl)

pub write-requires-clause-within : goal.write-requires-clause-within
write-requires-clause-within c =
    few_within c.encode-cells.result c.scalar_size.result _ c.in_ok-start.start _ c.scalar_size.ensures.size (scalar_place_within c.self.inside c.deref.result.now c.args.at c.args.scalar c.in_ok-start.start c.self.invariant c.deref.ensures.value c.in_ok-start.ensures)

pub invariant_of-self : goal.invariant_of-self
invariant_of-self c =
    whole_changed c.self.inside c.in_ok-start.start (take c.scalar_size.result c.encode-cells.result) c.write.new.held c.self.invariant
    (few_within c.encode-cells.result c.scalar_size.result _ c.in_ok-start.start _ c.scalar_size.ensures.size (scalar_place_within c.self.inside c.deref.result.now c.args.at c.args.scalar c.in_ok-start.start c.self.invariant c.deref.ensures.value c.in_ok-start.ensures))
    c.write.ensures

pub returns-clause-outcome : goal.returns-clause-outcome
returns-clause-outcome c =
    put_done c.self.inside c.args.self.now c.deref.result.now c.args.at c.args.scalar c.args.value c.in_ok-start.start c.encode-cells.result (take c.scalar_size.result c.encode-cells.result) c.write.new.held c.self.invariant c.self.view_is c.deref.ensures.value c.in_ok-start.ensures (omega (arith, c.scalar_size.ensures.size, c.scalar_size.ensures.small)) (search rules) c.encode-cells.ensures.cells (ap (λ n. take n c.encode-cells.result) c.scalar_size.ensures.size) c.write.ensures
