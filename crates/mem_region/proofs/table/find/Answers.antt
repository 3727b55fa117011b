use Rattle.mem_region.proofs.Searched.{has, found_has, found_none}
use Rattle.mem_region.proofs.table.find.Goals as goal

pub returns-in-Some : goal.returns-in-Some
returns-in-Some c =
    let table = c.args.table.now in
    record {
      value = found_has table c.args.number c.in-Some.index _ c.requires c.in-Some.ensures;
      fits = (has table c.args.number c.in-Some.index _ c.requires c.in-Some.ensures).fits;
    }

pub returns-in-None-clause-value : goal.returns-in-None-clause-value
returns-in-None-clause-value c = found_none c.args.table.now c.args.number c.in-None.ensures
