use Rattle.lift_stands_lives.proofs.Vacant.{vacant_on, vacant_begins, vacant_dies, vacant_new, vacant_left}
use Rattle.lift_stands_lives.proofs.laws.vacant_stays.Goals as goal

pub returns : goal.returns
returns c = record { on = vacant_on; begins = vacant_begins; dies = vacant_dies; new = vacant_new; left = vacant_left }
