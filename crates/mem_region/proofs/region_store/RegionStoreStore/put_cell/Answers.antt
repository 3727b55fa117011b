use Rattle.std.proofs.Common.{[], ◌∷◌, refl}
use Rattle.std.proofs.lemmas.Result.{err_from_is_err_and}
use Rattle.mem_region.proofs.Calls.{place_within}
use Rattle.mem_region.proofs.Changing.{whole_changed}
use Rattle.mem_region.proofs.Writes.{put_cell_fault, put_cell_done}
use Rattle.mem_region.proofs.region_store.RegionStoreStore.put_cell.Goals as goal

pub returns-in_err-start-clause-outcome : goal.returns-in_err-start-clause-outcome
returns-in_err-start-clause-outcome c =
    let p = err_from_is_err_and c.from_residual.result c.from_residual.ensures.1 in
    rw (p.1, p.2) (put_cell_fault c.self.inside c.args.self.now c.deref.result.now c.args.at c.args.cell c.in_err-start.field-0.0 c.self.invariant c.self.view_is c.deref.ensures.value c.in_err-start.ensures, refl)

pub write-requires-clause-within : goal.write-requires-clause-within
write-requires-clause-within c =
    place_within c.self.inside c.deref.result.now c.args.at 1 c.in_ok-start.start c.self.invariant c.deref.ensures.value c.in_ok-start.ensures

pub invariant_of-self : goal.invariant_of-self
invariant_of-self c =
    whole_changed c.self.inside c.in_ok-start.start (c.args.cell ∷ []) c.write.new.held c.self.invariant
    (place_within c.self.inside c.deref.result.now c.args.at 1 c.in_ok-start.start c.self.invariant c.deref.ensures.value c.in_ok-start.ensures)
    c.write.ensures

pub returns-clause-outcome : goal.returns-clause-outcome
returns-clause-outcome c =
    put_cell_done c.self.inside c.args.self.now c.deref.result.now c.args.at c.args.cell c.in_ok-start.start c.write.new.held c.self.invariant c.self.view_is c.deref.ensures.value c.in_ok-start.ensures c.write.ensures
