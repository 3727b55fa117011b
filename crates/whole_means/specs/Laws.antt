-- Laws of what the names of a written crate mean (ISO C99, 6.2.1 and 6.2.5; the Rust Reference, "Paths" and "Type layout").
use Rattle.std.specs.Prelude.{◌≡◌, ℕ, ◌<◌, true, false, List, ◌++◌, length, Some, None}
use Rattle.std.specs.List.{Contains}
use Rattle.lift_exprs.specs.Calls.{is_malloc}
use Rattle.cx_core.specs.Trees.{CExprs, no_exprs, CFun, COuter, form_of_type}
use Rattle.cx_core.specs.Trees as core
use Rattle.cx_core.specs.Typing.{CHome, function_with, outer_with}
use Rattle.cx_mean.specs.Operands.{Frame as CFrame}
use Rattle.lift_calls.specs.Frames.{NamesApart}
use Rattle.lift_calls.specs.Programs.{ProgramAgrees}
use Rattle.lift_calls_entry.specs.Entry.{EntryMeans}
use Rattle.lift_does.specs.Agree.{AreKeptFrom, NamesMean}
use Rattle.lift_does.specs.Outers.{OuterItem, TakesAll, is_variadic}
use Rattle.lift_exprs.specs.Names.{params_of}
use Rattle.lift_forms.specs.Places.{Kept}
use Rattle.rs_text.specs.Tree.{Ty, FunctionTree}
use Rattle.whole_bodies.specs.Bodies.{ShapeOf, copies_of_passed, written_body}
use Rattle.build_flow_nodes.specs.Parts.{temporaries_in_stmt}
use Rattle.whole_bodies.specs.Names.{held_in_body, locals_of, names_in}
use Rattle.whole_items.specs.Items.{function_tree, is_declared}
use Rattle.whole_means.specs.Beginning.{StandUnitByUnit, first_images, first_statics}
use Rattle.whole_means.specs.FunctionNames.{HasFewNames, kept_names}
use Rattle.whole_means.specs.Layouts.{AreLaid}
use Rattle.whole_means.specs.Settings.{modules_of, setting_of}
use Rattle.whole_means.specs.Written.{IsNamed}
use Rattle.whole_names.specs.Keys.{calls_of, is_bare_too, order_of}
use Rattle.whole_names.specs.Kept.{LocalNames, NamedProgram, code_type}

-- the names with which a function is written mean what they say, where these are those that it keeps
abbrev pub NamesMeanInCrate : Type 0
NamesMeanInCrate =
    (whole : NamedProgram) (shape : ShapeOf) (statics : CFrame) (fun : CFun) (home : CHome) → IsNamed whole → home.program ≡ whole.program →
    NamesMean (setting_of whole shape statics) home (names_in whole fun.unit (locals_of whole fun)) (kept_names whole fun)

-- what the names of a function are
pub record NamesOfBodies : Type 0 where
  -- an object that is kept has this name in the function's text
  pub objects : (whole : NamedProgram) (fun : CFun) (number : ℕ) (it : Kept) → (kept_names whole fun).objects number ≡ Some it → (names_in whole fun.unit (locals_of whole fun)).objects number ≡ Some it
  -- no two names are one
  pub apart : (whole : NamedProgram) (fun : CFun) → IsNamed whole → HasFewNames whole fun → NamesApart (kept_names whole fun)
  -- each stretch of the temporaries of its body is kept
  pub temporaries : (whole : NamedProgram) (fun : CFun) (front part behind : List Ty) → temporaries_in_stmt (names_in whole fun.unit (locals_of whole fun)) fun.body ≡ front ++ (part ++ behind) →
      AreKeptFrom (names_in whole fun.unit (locals_of whole fun)) (kept_names whole fun) (length front) part

-- a program agrees with its crate as it begins
pub record ProgramsAgree : Type 0 where
  pub agrees : (whole : NamedProgram) (shape : ShapeOf) → IsNamed whole → StandUnitByUnit whole.program →
      ProgramAgrees (setting_of whole shape (first_statics whole.program)) (first_images whole (modules_of whole shape))
  -- no two functions have one image
  pub functions_apart : (whole : NamedProgram) (shape : ShapeOf) → IsNamed whole → (one other place : ℕ) → (first_images whole (modules_of whole shape)).functions one ≡ Some place →
      (first_images whole (modules_of whole shape)).functions other ≡ Some place → one ≡ other

-- ---- entries

-- the function of the crate that is written for one of C
abbrev pub tree_of : NamedProgram → ShapeOf → CFun → FunctionTree
tree_of whole shape fun = function_tree whole fun (written_body whole shape fun)

-- what a function is entered with, where its held temporaries have layouts
abbrev pub EntriesMeanInCrate : Type 0
EntriesMeanInCrate = (whole : NamedProgram) (shape : ShapeOf) (statics : CFrame) (fun : CFun) → IsNamed whole → Contains whole.program.functions fun → HasFewNames whole fun →
    AreLaid (modules_of whole shape) (held_in_body whole fun) →
    EntryMeans (setting_of whole shape statics) fun (tree_of whole shape fun) (kept_names whole fun) (copies_of_passed whole fun)

-- ---- external functions

-- a unit that calls an external function declares it, with its own symbol and type; `malloc` in a program with a bit-field member aside
abbrev pub OutersMean : Type 0
OutersMean =
    (whole : NamedProgram) (shape : ShapeOf) (statics : CFrame) (unit : ℕ) (own : LocalNames) (number : ℕ) (one : COuter) (args : CExprs) → IsNamed whole → unit < length whole.module_names →
    outer_with number whole.program.externals ≡ Some one → function_with number whole.program.functions ≡ None → Contains (order_of whole.program unit).things (core.a_function number) →
    is_declared whole unit one ≡ true → TakesAll (params_of (code_type whole one.type)) (is_variadic (form_of_type one.type)) args →
    is_malloc (names_in whole unit own) one.name ≡ false → OuterItem (setting_of whole shape statics) (names_in whole unit own) number args

-- a unit that calls an external function without arguments, though it has parameters elsewhere, declares it once more without parameters
abbrev pub BaresMean : Type 0
BaresMean =
    (whole : NamedProgram) (shape : ShapeOf) (statics : CFrame) (unit : ℕ) (own : LocalNames) (number : ℕ) (one : COuter) → IsNamed whole → unit < length whole.module_names →
    outer_with number whole.program.externals ≡ Some one → function_with number whole.program.functions ≡ None → is_bare_too (calls_of whole.program unit) one ≡ true →
    is_malloc (names_in whole unit own) one.name ≡ false → OuterItem (setting_of whole shape statics) (names_in whole unit own) number no_exprs
