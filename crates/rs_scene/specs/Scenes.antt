-- What stands around a place of a body, for the engine and for the meaning.
use Rattle.std.specs.Prelude.{◌≡◌, map}
use Rattle.rs_mean.specs.Laws.{bodies_of}
use Rattle.rs_mean.specs.Lookups.{LocalBlock, OwnFunction, OwnStatic, Home, functions_of, statics_of}
use Rattle.rs_mean.specs.Run.{Frame}
use Rattle.rs_tree.specs.Views.{function_view, module_view, static_view, ty_view}
use Rattle.rs_layout.specs.Layouts.{ModulesAreAligned}
use Rattle.rs_scene.specs.declared.scene.HeldFunction.{HeldFunction}
use Rattle.rs_scene.specs.declared.scene.HeldHome.{HeldHome}
use Rattle.rs_scene.specs.declared.scene.HeldLocal.{HeldLocal}
use Rattle.rs_scene.specs.declared.scene.HeldStatic.{HeldStatic}
use Rattle.rs_scene.specs.declared.scene.Scene.{Scene}

abbrev pub held_local : HeldLocal → LocalBlock
held_local one = record { name = one.of.now.name; ty = ty_view one.of.now.ty; block = one.block }

abbrev pub held_static : HeldStatic → OwnStatic
held_static one = record { home = one.home.now; object = static_view one.object.now }

abbrev pub held_function : HeldFunction → OwnFunction
held_function one = record { home = one.home.now; fun = function_view one.fun.now }

abbrev pub home_view : HeldHome → Home
home_view home = record { block = home.block; ty = ty_view home.ty.now }

abbrev pub frame_view : Scene → Frame
frame_view scene = record {
  modules = map module_view scene.modules.now;
  locals = map held_local scene.locals.now;
  bodies = bodies_of (map module_view scene.modules.now);
}

-- what a scene holds of a crate
pub record IsScene (scene : Scene) : Type 0 where
  pub aligned : ModulesAreAligned (map module_view scene.modules.now)
  pub statics : map held_static scene.statics.now ≡ statics_of (map module_view scene.modules.now)
  pub functions : map held_function scene.functions.now ≡ functions_of (map module_view scene.modules.now)
