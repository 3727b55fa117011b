-- A program and the crate that is written for it, with what its functions and static objects have become (ISO C99, 6.2.4p3 and 6.9.1; the Rust Reference, "Functions" and "Static items").
use Rattle.std.specs.Prelude.{ℕ, List, Option, None, Some, is_some}
use Rattle.cx_core.specs.Trees.{CObject, CFun}
use Rattle.cx_core.specs.Typing.{function_with, object_with}
use Rattle.cx_mean.specs.Operands.{Frame as CFrame}
use Rattle.lift_calls.specs.Programs.{Setting}
use Rattle.rs_mean.specs.Lookups.{function_number}
use Rattle.rs_text.specs.Tree.{ModuleTree}
use Rattle.rs_tree.specs.declared.ty.RPath.{RPath}
use Rattle.whole_bodies.specs.Bodies.{ShapeOf}
use Rattle.whole_bodies.specs.Crates.{crate_of}
use Rattle.whole_names.specs.Keys.{a_function, an_object}
use Rattle.whole_names.specs.Kept.{NamedProgram, module_of, name_in, path_if}

-- ---- items

abbrev pub function_path : NamedProgram → Option CFun → Option RPath
function_path whole None = None
function_path whole (Some one) = Some (record { home = module_of whole one.unit; name = name_in whole one.unit (a_function one.function) })

-- a static object is an item of the module of its unit
abbrev pub object_path : NamedProgram → Option CObject → Option RPath
object_path whole None = None
object_path whole (Some one) = path_if (is_some one.puts) (record { home = module_of whole one.unit; name = name_in whole one.unit (an_object one.object) })

-- ---- settings

abbrev pub setting_with : NamedProgram → List ModuleTree → (statics : CFrame) → Setting
setting_with whole modules statics = record {
  program = whole.program;
  statics = statics;
  modules = modules;
  functions = λ number. function_path whole (function_with number whole.program.functions);
  objects = λ number. object_path whole (object_with number whole.program.objects);
}

-- the modules of the crate that is written
abbrev pub modules_of : NamedProgram → ShapeOf → List ModuleTree
modules_of whole shape = (crate_of whole.program whole.module_names shape).modules

abbrev pub setting_of : NamedProgram → ShapeOf → (statics : CFrame) → Setting
setting_of whole shape statics = setting_with whole (modules_of whole shape) statics

-- the image of each function is the number of its item
abbrev pub function_image : List ModuleTree → Option RPath → Option ℕ
function_image modules None = None
function_image modules (Some path) = function_number modules path.home path.name
