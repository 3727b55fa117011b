use Rattle.std.proofs.Common.{length, take, ap, arith, refl, rules}
use Rattle.std.proofs.lemmas.Result.{err_from_is_err_and}
use Rattle.mem_region.proofs.Written.{touched_few}
use Rattle.mem_region.proofs.Calls.{place_within, few_within}
use Rattle.mem_region.proofs.Changing.{whole_changed}
use Rattle.mem_region.proofs.Writes.{put_bits_fault, put_bits_mixed, put_bits_done}
use Rattle.mem_region.proofs.region_store.RegionStoreStore.put_bits.Goals as goal

pub returns-in_err-start-clause-outcome : goal.returns-in_err-start-clause-outcome
returns-in_err-start-clause-outcome c =
    let p = err_from_is_err_and c.from_residual.result c.from_residual.ensures.1 in
    rw (p.1, p.2) (put_bits_fault c.self.inside c.args.self.now c.deref.result.now c.args.at c.args.bit c.args.width c.args.field c.bytes_touched-count.result c.in_err-start.field-0.0 c.self.invariant c.self.view_is c.deref.ensures.value c.bytes_touched-count.ensures c.in_err-start.ensures, refl)

pub with_field-requires-clause-within : goal.with_field-requires-clause-within
with_field-requires-clause-within c =
    omega (arith, place_within c.self.inside c.deref.result.now c.args.at c.bytes_touched-count.result c.in_ok-start.start c.self.invariant c.deref.ensures.value c.in_ok-start.ensures, ap length c.deref-2.ensures.value, c.bytes_touched-count.ensures)

pub returns-in_err-cells-clause-outcome : goal.returns-in_err-cells-clause-outcome
returns-in_err-cells-clause-outcome c =
    let p = err_from_is_err_and c.from_residual-in_err-cells.result c.from_residual-in_err-cells.ensures.1 in
    rw (p.1, p.2) (put_bits_mixed c.self.inside c.args.self.now c.deref.result.now c.deref-2.result.now c.args.at c.args.bit c.args.width c.args.field c.bytes_touched-count.result c.in_ok-start.start c.in_err-cells.field-0.0 c.self.invariant c.self.view_is c.deref.ensures.value c.bytes_touched-count.ensures c.in_ok-start.ensures c.deref-2.ensures.value c.in_err-cells.ensures.cells, refl)

pub write-requires-clause-within : goal.write-requires-clause-within
write-requires-clause-within c =
    few_within c.in_ok-cells.cells c.bytes_touched-count.result _ c.in_ok-start.start _ refl (place_within c.self.inside c.deref.result.now c.args.at c.bytes_touched-count.result c.in_ok-start.start c.self.invariant c.deref.ensures.value c.in_ok-start.ensures)

pub invariant_of-self : goal.invariant_of-self
invariant_of-self c =
    whole_changed c.self.inside c.in_ok-start.start (take c.bytes_touched-count.result c.in_ok-cells.cells) c.write.new.held c.self.invariant
    (few_within c.in_ok-cells.cells c.bytes_touched-count.result _ c.in_ok-start.start _ refl (place_within c.self.inside c.deref.result.now c.args.at c.bytes_touched-count.result c.in_ok-start.start c.self.invariant c.deref.ensures.value c.in_ok-start.ensures))
    c.write.ensures

pub returns-clause-outcome : goal.returns-clause-outcome
returns-clause-outcome c =
    put_bits_done c.self.inside c.args.self.now c.deref.result.now c.deref-2.result.now c.args.at c.args.bit c.args.width c.args.field c.bytes_touched-count.result c.in_ok-start.start c.in_ok-cells.cells (take c.bytes_touched-count.result c.in_ok-cells.cells) c.write.new.held c.self.invariant c.self.view_is c.deref.ensures.value c.bytes_touched-count.ensures c.in_ok-start.ensures c.deref-2.ensures.value (touched_few c.args.bit c.args.width c.bytes_touched-count.result c.requires.place c.bytes_touched-count.ensures) (search rules) c.in_ok-cells.ensures.cells refl c.write.ensures
