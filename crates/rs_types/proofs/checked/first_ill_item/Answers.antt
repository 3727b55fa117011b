use Rattle.rs_types.proofs.Walks.{shown_front, shown_item}
use Rattle.rs_types.proofs.checked.first_ill_item.Goals as goal

pub item_stands-requires-clause-earlier : goal.item_stands-requires-clause-earlier
item_stands-requires-clause-earlier c = shown_front c.args.unit.now.items c.as_slice-items.result.now c.loop-index.index c.as_slice-items.ensures c.requires.items

pub item_stands-requires-clause-item : goal.item_stands-requires-clause-item
item_stands-requires-clause-item c =
    shown_item c.args.unit.now.items c.as_slice-items.result.now c.loop-index.index c.index-items-index.result c.as_slice-items.ensures c.loop-index-test.true c.index-items-index.is c.requires.items
