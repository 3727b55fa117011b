-- What a whole C program and the crate that is written for it have, and when they agree on functions and static objects (ISO C99, 6.2.4p3 and 6.9.1; the Rust
-- Reference, "Functions" and "Static items").
use Rattle.std.specs.Prelude.{◌≡◌, ℕ, List, Option, Some, None}
use Rattle.cr_world.specs.World.{World, blocks_of}
use Rattle.cx_core.specs.BitFields.{has_bit_fields}
use Rattle.cx_core.specs.Trees.{CFun, CProgram}
use Rattle.cx_core.specs.Typing.{function_with as c_function_with}
use Rattle.cx_mean.specs.Leftmost.{CCalls, CGoes}
use Rattle.cx_mean.specs.Operands.{Frame as CFrame, slot_of}
use Rattle.cx_mean.specs.Settings.{CSetting, setting_of}
use Rattle.cx_mean_laws.specs.Laws.{goes_of, calls_of}
use Rattle.cx_typed_runs.specs.Sites.{AreOwned}
use Rattle.cx_typed_work.specs.Scenes.{IsTypedMemory}
use Rattle.lift_stands.specs.Stands.{Images, image_of}
use Rattle.mem_bytes.specs.declared.value.Ptr.{Ptr}
use Rattle.rs_mean.specs.Laws.{bodies_of}
use Rattle.rs_mean.specs.Lookups.{own, callee_at, function_number, function_with, Home, static_home}
use Rattle.rs_mean.specs.Run.{Bodies}
use Rattle.rs_text.specs.Tree.{FunctionTree, ModuleTree}
use Rattle.rs_tree.specs.declared.ty.RPath.{RPath}

-- ---- a program and its crate

pub record Setting : Type 0 where
  pub program : CProgram
  -- the static objects of C, with their blocks
  pub statics : CFrame
  -- the crate
  pub modules : List ModuleTree
  -- the item that a function of C is that the program defines, and that a static object is, by its number
  pub functions : ℕ → Option RPath
  pub objects : ℕ → Option RPath

abbrev pub setting_in : Setting → CSetting
setting_in s = setting_of s.program

-- how functions run that C calls, and how one goes on from a move
abbrev pub c_calls : Setting → CCalls
c_calls s = calls_of (setting_in s) s.statics

abbrev pub c_goes : Setting → CGoes
c_goes s = goes_of (setting_in s) s.statics

-- how bodies run that the crate calls
abbrev pub crate_bodies : Setting → Bodies
crate_bodies s = bodies_of s.modules

-- a function of C and the tree at its path in the crate
pub record IsWritten (s : Setting) (one : CFun) (tree : FunctionTree) : Type 0 where
  pub number : ℕ
  pub defined : c_function_with number s.program.functions ≡ Some one
  pub path : RPath
  pub path_is : s.functions number ≡ Some path
  pub tree_is : callee_at s.modules path.home path.name ≡ Some (own tree)

-- ---- when they agree

-- the function of the crate for one of C: its path leads to its tree, both by name and by number, and the number is the image of C's function
pub record FunctionAgrees (s : Setting) (images : Images) (number : ℕ) : Type 0 where
  pub path : RPath
  pub path_is : s.functions number ≡ Some path
  pub tree : FunctionTree
  pub tree_is : callee_at s.modules path.home path.name ≡ Some (own tree)
  pub place : ℕ
  pub place_is : function_number s.modules path.home path.name ≡ Some place
  pub at_place : function_with s.modules place ≡ Some tree
  pub image : images.functions number ≡ Some place

-- the static object of the crate for one of C: its block is the image of C's
pub record StaticAgrees (s : Setting) (images : Images) (number : ℕ) (at : Ptr) : Type 0 where
  pub path : RPath
  pub path_is : s.objects number ≡ Some path
  pub home : Home
  pub home_is : static_home s.modules path.home path.name ≡ Some home
  pub image : image_of images at.block ≡ Some home.block

pub record ProgramAgrees (s : Setting) (images : Images) : Type 0 where
  pub functions : (number : ℕ) (one : CFun) → c_function_with number s.program.functions ≡ Some one → FunctionAgrees s images number
  -- no other function has an image
  pub others : (number : ℕ) → c_function_with number s.program.functions ≡ None → images.functions number ≡ None
  pub statics : (number : ℕ) (at : Ptr) → slot_of s.statics number ≡ Some at → StaticAgrees s images number at
  -- where it has a bit-field member the crate holds bytes, whose bits are all set
  pub bytes : images.in_bytes ≡ has_bit_fields s.program.types

-- ---- C alone

-- what holds where a typed program runs: no object is larger than the profile allows, no pointer leads further, and each object in scope lives in a block of
-- its own
pub record IsTypedScope (program : CProgram) (frame : CFrame) (world : World) : Type 0 where
  pub memory : IsTypedMemory program (blocks_of world)
  pub owned : AreOwned program world.held frame
