use Rattle.std.proofs.Common.{ap, arith, ◌∙◌}
use Rattle.std.proofs.lemmas.Result.{err_from_is_err_and}
use Rattle.mem_region.specs.Packed.{cell_of}
use Rattle.mem_region.proofs.Calls.{cell_fault, cell_value, place_within}
use Rattle.mem_region.proofs.region_store.RegionStoreStore.cell.Goals as goal

pub returns-in_err-start-clause-value : goal.returns-in_err-start-clause-value
returns-in_err-start-clause-value c =
    let p = err_from_is_err_and c.from_residual.result c.from_residual.ensures.1 in
    rw (p.1, p.2) (cell_fault c.self.inside c.args.self.now c.deref.result.now c.args.at c.in_err-start.field-0.0 c.self.invariant c.self.view_is c.deref.ensures.value c.in_err-start.ensures)

pub index-requires : goal.index-requires
index-requires c =
    omega (arith, place_within c.self.inside c.deref.result.now c.args.at 1 c.in_ok-start.start c.self.invariant c.deref.ensures.value c.in_ok-start.ensures, c.self.inside.cells.ok.0)

pub returns-clause-value : goal.returns-clause-value
returns-clause-value c =
    cell_value c.self.inside c.args.self.now c.deref.result.now c.args.at c.in_ok-start.start c.index.result.now c.cell.result c.self.invariant c.self.view_is c.deref.ensures.value c.in_ok-start.ensures (c.cell.ensures.value ∙ ap cell_of c.index.ensures)
