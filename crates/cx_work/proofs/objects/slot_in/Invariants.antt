use Rattle.std.proofs.Common.{◌≡◌, drop}
use Rattle.cx_mean.specs.Operands.{slot_of}
use Rattle.cx_work.proofs.objects.slot_in.Given as goal

abbrev pub invariant-loop-slot : goal.invariant-loop-slot
invariant-loop-slot l = slot_of (drop l.slot-index l.slots) l.object ≡ slot_of l.slots l.object
