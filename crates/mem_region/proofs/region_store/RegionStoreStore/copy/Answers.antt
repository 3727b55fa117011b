use Rattle.std.proofs.Common.{take, drop, refl}
use Rattle.std.proofs.lemmas.Result.{err_from_is_err_and}
use Rattle.std.proofs.lemmas.Bool.{ne_eqb}
use Rattle.mem_region.proofs.Changing.{whole_changed}
use Rattle.mem_region.proofs.Copying.{copy_fault, copy_changed, copy_within_from, copy_within_to, copy_part}
use Rattle.mem_region.proofs.Reading.{cells_in}
use Rattle.mem_region.proofs.region_store.RegionStoreStore.copy.Goals as goal

pub returns-in_err-places-clause-outcome : goal.returns-in_err-places-clause-outcome
returns-in_err-places-clause-outcome c =
    let p = err_from_is_err_and c.from_residual.result c.from_residual.ensures.1 in
    rw (p.1, p.2) (copy_fault c.self.inside c.args.self.now c.deref.result.now c.args.from c.args.to c.args.count c.in_err-places.field-0.0 c.self.invariant c.self.view_is c.deref.ensures.value (ne_eqb c.args.count 0 c.if-count-eq0.false) c.in_err-places.ensures, refl)

pub copy-requires-clause-from : goal.copy-requires-clause-from
copy-requires-clause-from c =
    copy_within_from c.self.inside c.deref.result.now c.args.from c.args.to c.args.count c.in_ok-places.places c.self.invariant c.deref.ensures.value c.in_ok-places.ensures

pub copy-requires-clause-to : goal.copy-requires-clause-to
copy-requires-clause-to c =
    copy_within_to c.self.inside c.deref.result.now c.args.from c.args.to c.args.count c.in_ok-places.places c.self.invariant c.deref.ensures.value c.in_ok-places.ensures

pub invariant_of-self : goal.invariant_of-self
invariant_of-self c =
    whole_changed c.self.inside c.in_ok-places.places.to (take c.args.count (drop c.in_ok-places.places.from (cells_in c.self.inside))) c.copy.new.held c.self.invariant
    (copy_part c.self.inside c.deref.result.now c.args.from c.args.to c.args.count c.in_ok-places.places c.self.invariant c.deref.ensures.value c.in_ok-places.ensures)
    c.copy.ensures

pub returns-clause-outcome : goal.returns-clause-outcome
returns-clause-outcome c =
    copy_changed c.self.inside c.args.self.now c.deref.result.now c.args.from c.args.to c.args.count c.in_ok-places.places c.copy.new.held c.self.invariant c.self.view_is c.deref.ensures.value (ne_eqb c.args.count 0 c.if-count-eq0.false) c.in_ok-places.ensures c.copy.ensures
