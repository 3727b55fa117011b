-- What is found by a step, or why nothing is.
use Rattle.std.specs.Prelude.{◌≡◌, Option, Some, None, Result, Ok, Err}
use Rattle.cx_access.specs.declared.trouble.Trouble.{Trouble}
use Rattle.cx_access.specs.declared.trouble.Trouble.TheVariants.{Undefined, Memory}
use Rattle.cx_mean.specs.Operands.{CWhy, breaks, rule_of}
use Rattle.mem_bytes.specs.declared.fault.Fault.{Fault}

-- a result is the one of the meaning; want of memory may come in the place of any
abbrev pub Finds : {A B : Type 0} → (A → B) → Result A Trouble → Result B CWhy → Type 0
Finds view (Ok value) found = found ≡ Ok (view value)
Finds view (Err (Undefined rule)) found = found ≡ Err (breaks rule)
Finds view (Err Memory) found = Unit {0}

-- the fault of an access
abbrev pub fault_in : {A : Type 0} → Result A Fault → Option Fault
fault_in (Ok value) = None
fault_in (Err fault) = Some fault

-- what is found where an access has no fault
abbrev pub unless : {A : Type 0} → Option Fault → Result A CWhy → Result A CWhy
unless None found = found
unless (Some fault) found = Err (breaks (rule_of fault))
