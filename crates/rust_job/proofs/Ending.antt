-- Ends that the run of a crate may have: it isn't undefined in C, and no object lacks room.
use Rattle.std.proofs.Common.{◌≡◌, ℕ, Bool, true, false, true≢false, List}
use Rattle.cr_world.specs.World.{wrong, full as is_full, asks, astray as goes_astray}
use Rattle.ext_calls.specs.Host.{HostState}
use Rattle.rs_exec.specs.Exec.{outside_of}
use Rattle.rs_mean.specs.Run.{RProgress}
use Rattle.rs_mean.specs.Run as r
use Rattle.rs_stops.proofs.Unlimited.{unlimited_runs_are_never_full}
use Rattle.rs_stops.specs.Full.{HasRoom}
use Rattle.run_ends.specs.Runs.{full}
use Rattle.run_ends.specs.declared.end.End.{End}
use Rattle.run_ends.specs.declared.end.End.TheVariants as end
use Rattle.shelf.specs.declared.file.File.{File}
use Rattle.rust_job.specs.Ends.{MayEnd, is_undefined}
use Rattle.rust_job.specs.Meaning.{AreRun, progress_of}

not_full : (come : RProgress) (need left : ℕ) → HasRoom come → progress_of come ≡ full need left → ⊥
not_full r.going need left room is = cc (is)
not_full (r.ended status) need left room is = cc (is)
not_full (r.stopped (wrong cause)) need left room is = cc (is)
not_full (r.stopped (is_full more less)) need left room is = room
not_full (r.stopped (asks call)) need left room is = cc (is)
not_full (r.stopped goes_astray) need left room is = cc (is)

pub may_end : (files : List File) (units : ℕ) (host later : HostState) (end_is : End) → AreRun files units host later end_is → is_undefined end_is ≡ false → MayEnd end_is
may_end files units host later (end.Ended status) are right = tt
may_end files units host later (end.Undefined rule unit line) are right = absurd (true≢false right)
may_end files units host later (end.Wrong cause) are right = tt
may_end files units host later end.StepsUsed are right = tt
may_end files units host later (end.StoreFull need left) are right =
    not_full _ need left (unlimited_runs_are_never_full are.whole (outside_of are.run.trail) units) are.run.comes
may_end files units host later (end.CallRefused name) are right = tt
may_end files units host later end.HostFailed are right = tt
