-- What is told of operations on pointers.
use Rattle.cr_base.specs.declared.rule.URule.{URule}
use Rattle.cr_base.specs.declared.rule.URule.TheVariants.{U5}
use Rattle.cx_access.specs.declared.trouble.Trouble.{Trouble}
use Rattle.cx_access.specs.declared.trouble.Trouble.TheVariants.{Undefined, Memory}
use Rattle.mem_bytes.specs.declared.pointer.PointerFault.{PointerFault}
use Rattle.mem_bytes.specs.declared.pointer.PointerFault.TheVariants.{ToDead, LeavesObject, NotWithinOne, NoPointer}
use Rattle.mem_bytes.specs.declared.value.Value.{Value}
use Rattle.mem_bytes.specs.declared.value.Value.TheVariants.{Whole as Number, Null, Object as Pointer, Code as Function}

abbrev pub told_of : URule → PointerFault → Trouble
told_of rule ToDead = Undefined U5
told_of rule LeavesObject = Undefined rule
told_of rule NotWithinOne = Undefined rule
told_of rule NoPointer = Memory

abbrev pub IsNumber : Value → Type 0
IsNumber (Number number) = Unit {0}
IsNumber Null = ⊥
IsNumber (Pointer at) = ⊥
IsNumber (Function number) = ⊥
