-- What an operation does on two numbers.
use Rattle.std.specs.Prelude.{List}
use Rattle.mem_bytes.specs.declared.value.Value.TheVariants.{Whole}
use Rattle.rs_forms.specs.Forms.{pair_run}
use Rattle.rs_forms.specs.declared.quick.Numbers.{Numbers}
use Rattle.rs_forms.specs.declared.quick.Operands.{Operands}
use Rattle.rs_mean.specs.Values.{Typed, typed}
use Rattle.rs_mean.specs.World.{Run}
use Rattle.rs_text.specs.Tree.{Integer, ModuleTree}

abbrev pub operands_run : List ModuleTree → Operands → Numbers → Run Typed
operands_run modules all numbers = pair_run modules all.operation (typed (Integer all.left) (Whole numbers.left)) (typed (Integer all.right) (Whole numbers.right))
