use Rattle.rs_types.proofs.Walks.{shown_modules, shown_unit}
use Rattle.rs_types.proofs.checked.first_ill.Goals as goal

pub first_ill_item-requires-clause-modules : goal.first_ill_item-requires-clause-modules
first_ill_item-requires-clause-modules c = shown_modules c.args.whole.now c.as_slice-modules.result.now c.as_slice-modules.ensures c.requires

pub first_ill_item-requires-clause-items : goal.first_ill_item-requires-clause-items
first_ill_item-requires-clause-items c =
    shown_unit c.args.whole.now c.as_slice-modules.result.now c.loop-unit.unit c.index-modules-unit.result c.as_slice-modules.ensures c.loop-unit-test.true c.index-modules-unit.is c.requires
