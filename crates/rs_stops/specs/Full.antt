-- A run of a crate is full where an object goes past the limit of the store that it runs over. Where that has no limit, no run is.
use Rattle.std.specs.Prelude.{ℕ, None}
use Rattle.cr_world.specs.World.{Outside, trail_of, wrong, full, asks, astray}
use Rattle.rs_mean.specs.Run.{RProgress, going, ended, stopped, rs_run_on}
use Rattle.rs_text.specs.Tree.{CrateTree}

-- what a run comes to whose objects all have room
abbrev pub HasRoom : RProgress → Type 0
HasRoom (stopped (full need left)) = ⊥
HasRoom going = Unit {0}
HasRoom (ended status) = Unit {0}
HasRoom (stopped (wrong cause)) = Unit {0}
HasRoom (stopped (asks call)) = Unit {0}
HasRoom (stopped astray) = Unit {0}

-- Law: a run of any crate under a trail of answers, over a store without limit, is never full, within whatever budget
abbrev pub UnlimitedRunsAreNeverFull : Type 0
UnlimitedRunsAreNeverFull = (whole : CrateTree) (trail : Outside) (units : ℕ) → HasRoom (rs_run_on (trail_of None) whole trail units).progress
