-- What functions of a typed program give and leave when they are called (ISO C99, 6.5.2.2, 6.8.6.4 and 6.9.1p12).
use Rattle.std.specs.Prelude.{[]}
use Rattle.cx_core.specs.Linked.{IsLinked}
use Rattle.cx_core.specs.Trees.{CProgram}
use Rattle.cx_mean.specs.Operands.{Frame}
use Rattle.cx_mean.specs.Settings.{setting_of}
use Rattle.cx_mean_laws.specs.Laws.{calls_of}
use Rattle.cx_typed_leftmost.specs.Laws.{CallsAreTyped}
use Rattle.cx_typed_runs.specs.States.{AreBegun}

-- each call that comes to its end gives a value of its type, or none, in a typed memory in which what lived before lives on
abbrev pub CallsEndTyped : CProgram → Frame → Type 0
CallsEndTyped program statics = IsLinked program → AreBegun program [] statics → CallsAreTyped program statics (calls_of (setting_of program) statics)

abbrev pub AllCallsEndTyped : Type 0
AllCallsEndTyped = (program : CProgram) (statics : Frame) → CallsEndTyped program statics
