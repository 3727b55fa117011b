use Rattle.std.proofs.Common.{length, ap, arith}
use Rattle.std.proofs.lemmas.Result.{err_from_is_err_and}
use Rattle.mem_region.proofs.Calls.{load_fault, load_value, scalar_place_within}
use Rattle.mem_region.proofs.region_store.RegionStoreStore.load.Goals as goal

pub returns-in_err-start-clause-value : goal.returns-in_err-start-clause-value
returns-in_err-start-clause-value c =
    let p = err_from_is_err_and c.from_residual.result c.from_residual.ensures.1 in
    rw (p.1, p.2) (load_fault c.self.inside c.args.self.now c.deref.result.now c.args.at c.args.scalar c.in_err-start.field-0.0 c.self.invariant c.self.view_is c.deref.ensures.value c.in_err-start.ensures)

pub read-cells-requires-clause-within : goal.read-cells-requires-clause-within
read-cells-requires-clause-within c =
    omega (arith, scalar_place_within c.self.inside c.deref.result.now c.args.at c.args.scalar c.in_ok-start.start c.self.invariant c.deref.ensures.value c.in_ok-start.ensures, ap length c.deref-2.ensures.value, c.scalar_size.ensures.size)

pub returns-clause-value : goal.returns-clause-value
returns-clause-value c =
    load_value c.self.inside c.args.self.now c.deref.result.now c.deref-2.result.now c.args.at c.args.scalar c.scalar_size.result c.in_ok-start.start c.read-cells.result _ c.decode.result c.self.invariant c.self.view_is c.deref.ensures.value c.in_ok-start.ensures c.deref-2.ensures.value c.scalar_size.ensures.size c.read-cells.ensures c.decode.ensures.value
