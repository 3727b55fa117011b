-- Static objects that begin.
use Rattle.std.specs.Prelude.{◌≡◌, List, [], ◌∷◌, map, Option, Some, None}
use Rattle.cr_world.specs.World.{World}
use Rattle.cx_core.specs.Trees.{CObject}
use Rattle.cx_core.specs.Views.{view_object}
use Rattle.cx_mean.specs.Settings.{CSetting}
use Rattle.cx_mean.specs.State.{CState, after_static, static_begins, statics_in}
use Rattle.cx_machine.specs.declared.statics.First.{First}

-- the first of some defined objects
abbrev pub IsFirst : Option First → List CObject → Type 0
IsFirst None objects = objects ≡ []
IsFirst (Some first) objects = objects ≡ view_object first.one.now ∷ statics_in (map view_object first.others.now)

-- the step in which one begins
abbrev pub static_step : CSetting → CState → CObject → List CObject → World → CState
static_step setting state one others world = after_static setting state one others (static_begins setting one world)
