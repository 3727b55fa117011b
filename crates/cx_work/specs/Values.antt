-- What a finished expression gives.
use Rattle.std.specs.Prelude.{Option, Some, None}
use Rattle.cx_mean.specs.Operands.{CValue}
use Rattle.cx_mean.specs.Work.{CWork, finished, needs, chooses, tests, carries, updates, fills, waits}

-- the value of a tree; none where it isn't finished
abbrev pub value_in : CWork → Option CValue
value_in (finished operand) = Some operand.value
value_in (needs node operands) = None
value_in (chooses node first) = None
value_in (tests node marks second) = None
value_in (carries node marks part) = None
value_in (updates node update stage marks) = None
value_in (fills node marks one others value) = None
value_in (waits node marks) = None
