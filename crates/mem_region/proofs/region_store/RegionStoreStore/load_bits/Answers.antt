use Rattle.std.proofs.Common.{length, ap, arith, refl}
use Rattle.std.proofs.lemmas.Result.{err_from_is_err_and}
use Rattle.mem_region.proofs.Written.{touched_few}
use Rattle.mem_region.proofs.Calls.{load_bits_fault, load_bits_value, place_within}
use Rattle.mem_region.proofs.region_store.RegionStoreStore.load_bits.Goals as goal

pub returns-in_err-start : goal.returns-in_err-start
returns-in_err-start c =
    let p = err_from_is_err_and c.from_residual.result c.from_residual.ensures.1 in
    rw (p.1, p.2) (load_bits_fault c.self.inside c.args.self.now c.deref.result.now c.args.at c.args.bit c.args.width c.bytes_touched-count.result c.in_err-start.field-0.0 c.self.invariant c.self.view_is c.deref.ensures.value c.bytes_touched-count.ensures c.in_err-start.ensures)

pub read-cells-requires-clause-few : goal.read-cells-requires-clause-few
read-cells-requires-clause-few c =
    touched_few c.args.bit c.args.width c.bytes_touched-count.result c.requires c.bytes_touched-count.ensures

pub read-cells-requires-clause-within : goal.read-cells-requires-clause-within
read-cells-requires-clause-within c =
    omega (arith, place_within c.self.inside c.deref.result.now c.args.at c.bytes_touched-count.result c.in_ok-start.start c.self.invariant c.deref.ensures.value c.in_ok-start.ensures, ap length c.deref-2.ensures.value)

pub returns : goal.returns
returns c =
    load_bits_value c.self.inside c.args.self.now c.deref.result.now c.deref-2.result.now c.args.at c.args.bit c.args.width c.bytes_touched-count.result c.in_ok-start.start c.read-cells.result _ _ c.field_in.result c.self.invariant c.self.view_is c.deref.ensures.value c.bytes_touched-count.ensures c.in_ok-start.ensures c.deref-2.ensures.value c.read-cells.ensures refl c.field_in.ensures
