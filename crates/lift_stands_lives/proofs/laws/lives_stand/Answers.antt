use Rattle.lift_stands_lives.proofs.Lives.{aside, slot, beside, onto, both, fewer, dies, both_die}
use Rattle.lift_stands_lives.proofs.Rooms.{room_below, fresh_below}
use Rattle.lift_stands_lives.proofs.laws.lives_stand.Goals as goal

pub returns : goal.returns
returns c = record {
  room = room_below;
  fresh = fresh_below;
  aside = aside;
  slot = slot;
  beside = beside;
  onto = onto;
  both = both;
  fewer = fewer;
  dies = dies;
  both_die = both_die;
}
