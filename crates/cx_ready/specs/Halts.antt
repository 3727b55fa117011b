-- What is wrong at a node.
use Rattle.cr_base.specs.declared.refusal.Place.{Place}
use Rattle.cx_access.specs.declared.trouble.Trouble.{Trouble}
use Rattle.cx_access.specs.declared.trouble.Trouble.TheVariants as trouble
use Rattle.cx_ready.specs.declared.halt.Halt.{Halt}
use Rattle.cx_ready.specs.declared.halt.Halt.TheVariants as halt

abbrev pub halted : Trouble → Place → Halt
halted (trouble.Undefined rule) place = halt.Undefined rule place
halted trouble.Memory place = halt.Memory
