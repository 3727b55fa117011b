use Rattle.std.proofs.Common.{◌≡◌, ◌≤◌, length, take}
use Rattle.rs_items_modules.specs.Modules.{up_to_last}
use Rattle.rs_items_modules.proofs.stems.up_to_last.Given as goal

-- what is left in front answers for all
abbrev pub invariant-loop-end : goal.invariant-loop-end
invariant-loop-end l = record { within : l.end ≤ length l.bytes; same : up_to_last l.wanted l.bytes ≡ up_to_last l.wanted (take l.end l.bytes) }

abbrev pub decreases-loop-end : goal.decreases-loop-end
decreases-loop-end l = l.end
