-- Which fault of a shelf an error of the system is.
use Rattle.std.specs.declared.io.ErrorKind.{ErrorKind}
use Rattle.std.specs.declared.io.ErrorKind.TheVariants.{OutOfMemory}
use Rattle.shelf.specs.declared.fault.ShelfFault.{ShelfFault}
use Rattle.shelf.specs.declared.fault.ShelfFault.TheVariants.{Failed, Memory}

-- the system's want of memory is want of memory, and every other error is a failed call
abbrev pub fault_of : ErrorKind → ShelfFault
fault_of OutOfMemory = Memory
fault_of _ = Failed
