-- Where static objects and functions are as a program begins: the static objects of C have the first blocks, in the program's order, and so have those of the crate (ISO C99, 6.2.4p3; the Rust
-- Reference, "Static items").
use Rattle.std.specs.Prelude.{ℕ, zero, suc, ◌≤◌, List, [], ◌∷◌, length, map}
use Rattle.cx_core.specs.BitFields.{has_bit_fields}
use Rattle.cx_core.specs.Trees.{CObject, CProgram}
use Rattle.cx_core.specs.Typing.{function_with}
use Rattle.cx_mean.specs.Operands.{Frame as CFrame}
use Rattle.cx_mean.specs.State.{statics_in}
use Rattle.lift_stands.specs.Stands.{Images}
use Rattle.rs_text.specs.Tree.{ModuleTree}
use Rattle.whole_means.specs.Settings.{function_image, function_path}
use Rattle.whole_names.specs.Kept.{NamedProgram}

-- objects in blocks from one on
abbrev pub slots_from : List CObject → (block : ℕ) → CFrame
slots_from [] block = []
slots_from (one ∷ others) block = record { object = one.object; block = block } ∷ slots_from others (suc block)

abbrev pub first_statics : CProgram → CFrame
first_statics program = slots_from (statics_in program.objects) 0

-- so many numbers from one on
abbrev pub numbers_from : (from count : ℕ) → List ℕ
numbers_from from zero = []
numbers_from from (suc count) = from ∷ numbers_from (suc from) count

-- each static block is its own image, and each function has that of its item
abbrev pub first_images : NamedProgram → List ModuleTree → Images
first_images whole modules = record {
  blocks = numbers_from 0 (length (statics_in whole.program.objects));
  functions = λ number. function_image modules (function_path whole (function_with number whole.program.functions));
  in_bytes = has_bit_fields whole.program.types;
}

-- numbers that don't go down, from one on
abbrev pub AscendFrom : ℕ → List ℕ → Type 0
AscendFrom least [] = Unit {0}
AscendFrom least (number ∷ others) = (least ≤ number) × AscendFrom number others

-- the objects of a program stand unit by unit
abbrev pub StandUnitByUnit : CProgram → Type 0
StandUnitByUnit program = AscendFrom 0 (map (λ (one : CObject). one.unit) program.objects)
