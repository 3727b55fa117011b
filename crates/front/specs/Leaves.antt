-- What a job, or none, leaves of the shelf and of the host, by how it ended.
use Rattle.std.specs.Prelude.{◌≡◌, Option, Some, None}
use Rattle.ext_calls.specs.Host.{HostState}
use Rattle.front.specs.Job.{Job, transpile, too_many, run_c, run_rust}
use Rattle.front.specs.Report.{Ending}
use Rattle.front.specs.Runs.{RunsUnits, RunsCrate}
use Rattle.front.specs.Transpile.{IsNoJob, IsTooMany, IsTranspiled}
use Rattle.shelf.specs.Shelf.{ShelfState}

-- what a job that runs nothing leaves of the shelf
abbrev pub LeavesShelf : Option Job → Ending → ShelfState → ShelfState → Type 0
LeavesShelf None ending before after = IsNoJob ending before after
LeavesShelf (Some (transpile directory names)) ending before after = IsTranspiled directory names ending before after
LeavesShelf (Some too_many) ending before after = IsTooMany ending before after
LeavesShelf (Some (run_c steps order names)) ending before after = ⊥
LeavesShelf (Some (run_rust steps directory)) ending before after = ⊥

-- a job that runs nothing makes no call at the host
abbrev pub Leaves : Option Job → Ending → ShelfState → ShelfState → HostState → HostState → Type 0
Leaves None ending before after host later = IsNoJob ending before after × (later ≡ host)
Leaves (Some (transpile directory names)) ending before after host later = IsTranspiled directory names ending before after × (later ≡ host)
Leaves (Some too_many) ending before after host later = IsTooMany ending before after × (later ≡ host)
Leaves (Some (run_c steps order names)) ending before after host later = RunsUnits steps order names ending before after host later
Leaves (Some (run_rust steps directory)) ending before after host later = RunsCrate steps directory ending before after host later
