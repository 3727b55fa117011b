-- Arguments that are stored in their parameters.
use Rattle.std.specs.Prelude.{◌≡◌, ℕ, List, [], ◌∷◌, ◌++◌, map, reverse, Result, Ok, Err}
use Rattle.cx_access.specs.declared.trouble.Trouble.{Trouble}
use Rattle.cx_access.specs.declared.trouble.Trouble.TheVariants as trouble
use Rattle.cx_core.specs.Trees.{CTy, unqualified, CFun}
use Rattle.cx_machine.specs.declared.machine.Machine.{Machine}
use Rattle.cx_machine.specs.declared.stop.Stop.{Stop}
use Rattle.cx_machine.specs.declared.stop.Stop.TheVariants as stop
use Rattle.cx_machine.specs.Machines.{IsAt}
use Rattle.cx_mean.specs.Accesses.{CStored, stored}
use Rattle.cx_mean.specs.Marks.{no_marks}
use Rattle.cx_mean.specs.Operands.{CWhy, breaks, CValue, designates}
use Rattle.cx_mean.specs.Settings.{CSetting}
use Rattle.cx_mean.specs.State.{place_of_body, slot, taking}
use Rattle.cx_outside.specs.declared.outside.Lack.TheVariants as lack
use Rattle.cx_work.specs.Views.{view_finished}
use Rattle.mem_bytes.specs.declared.value.Ptr.{Ptr}
use Rattle.mem_bytes.specs.declared.value.Value.TheVariants.{Object as Pointer}
use Rattle.mem_bytes.specs.Memory.{Blocks}

-- a value was stored, of which only the memory behind it matters
abbrev pub IsStored : Result CStored CWhy → Blocks → Type 0
IsStored (Ok one) later = one.blocks ≡ later
IsStored (Err why) later = ⊥

-- want of memory may come in the place of any outcome
abbrev pub Stores : Result (Unit {0}) Trouble → (later : Blocks) → Result CStored CWhy → Type 0
Stores (Ok _) later found = IsStored found later
Stores (Err (trouble.Undefined rule)) later found = found ≡ Err (breaks rule)
Stores (Err trouble.Memory) later found = Unit {0}

-- the store of an argument in its parameter, whose life has begun at a place
abbrev pub argument_at : CSetting → Blocks → CTy → Ptr → CValue → Result CStored CWhy
argument_at setting blocks type at value = stored setting [] blocks (unqualified type) (designates (Pointer at)) value no_marks

-- the other parameters begin then, or the body is reached
abbrev pub TakesOthers : (old new : Machine) → CFun → (number : ℕ) → (others : List ℕ) → Ptr → Type 0
TakesOthers old new callee number others at =
    IsAt old new (taking callee others (reverse (map view_finished old.args)) (old.site.params ++ slot number at ∷ []))

abbrev pub Argues : Result (Unit {0}) Stop → (found : Result CStored CWhy) → (old new : Machine) → CFun → (number : ℕ) → (others : List ℕ) → Ptr → (later : Blocks) → Type 0
Argues (Ok _) found old new callee number others at later = IsStored found later × TakesOthers old new callee number others at
Argues (Err (stop.Undefined rule place)) found old new callee number others at later = (found ≡ Err (breaks rule)) × (place ≡ place_of_body callee.body)
Argues (Err (stop.Ended status)) found old new callee number others at later = ⊥
Argues (Err (stop.Lacks why)) found old new callee number others at later = why ≡ lack.Memory
