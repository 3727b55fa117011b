-- What the jobs that run a program leave, from what their steps leave.
use Rattle.std.proofs.Common.{◌≡◌, ℕ, ◌<◌, ◌⊎◌, true, false, true≢false, List, map, length, Option, Some, inl, inr, refl, sym, subst}
use Rattle.c_job.specs.Ends as c_ends
use Rattle.c_job.specs.Meaning as units
use Rattle.cr_base.specs.declared.refusal.Stop.{Stop}
use Rattle.cr_base.specs.declared.refusal.Stop.TheVariants as stop
use Rattle.cx_units.specs.Sources.{AreOf, StopsUnits}
use Rattle.cx_units.specs.declared.source.Source.{Source}
use Rattle.ext_calls.specs.Host.{HostState}
use Rattle.front.specs.CrateEnds.{EndsGot, IsTaleOf, unread_ending}
use Rattle.front.specs.CrateFiles.{AreGotIn, IsGotWhole, StopsCrate}
use Rattle.front.specs.Crates.{AreHeldIn, path_of}
use Rattle.front.specs.Files.{units_of}
use Rattle.front.specs.Job.{run_c, run_rust}
use Rattle.front.specs.Refusals.{BreaksProfile, bytes_of}
use Rattle.front.specs.Report.{Ending, done, refused, usage, cannot_read, cannot_write, memory, told, not_rust, ill_typed}
use Rattle.front.specs.Runs.{AreGotOf, IsToldOf, JobMeans, MayCome, RanShort, RunsCrate, RunsUnits, WasWanting}
use Rattle.front.specs.Sources.{AreGot, EndsStopped, IsWithin}
use Rattle.front.specs.declared.unread.Unread.{Unread}
use Rattle.front.specs.declared.unread.Unread.TheVariants.{NotRead, NotMain, Memory}
use Rattle.front.proofs.SourceLaws.{where_map}
use Rattle.rs_text.specs.Text.{main_path}
use Rattle.run_ends.specs.Runs.{HasFailed, IsRun, Meaning}
use Rattle.run_ends.specs.Told.{IsPlacedIn, Tale, name_at, tale_of}
use Rattle.run_ends.specs.declared.end.End.{End}
use Rattle.run_ends.specs.declared.end.End.TheVariants as end
use Rattle.rust_job.specs.Ends as rust_ends
use Rattle.rust_job.specs.Meaning as crate
use Rattle.shelf.specs.declared.file.File.{File}
use Rattle.shelf.specs.Shelf.{ShelfState}

-- ---- units

-- an undefined step of a run of units stands in one of them
pub placed_units : (count many : ℕ) (by : End) → count ≡ many → c_ends.MayEnd count by → IsPlacedIn many by
placed_units count many (end.Ended code) same may = tt
placed_units count many (end.Undefined rule unit line) same may = subst (λ n. unit < n) same may
placed_units count many (end.Wrong cause) same may = tt
placed_units count many end.StepsUsed same may = tt
placed_units count many (end.StoreFull need left) same may = tt
placed_units count many (end.CallRefused name) same may = tt
placed_units count many end.HostFailed same may = tt

-- a run of a crate has none
pub placed_crate : (by : End) → rust_ends.MayEnd by → IsPlacedIn 0 by
placed_crate (end.Ended code) may = tt
placed_crate (end.Undefined rule unit line) may = absurd may
placed_crate (end.Wrong cause) may = tt
placed_crate end.StepsUsed may = tt
placed_crate (end.StoreFull need left) may = tt
placed_crate (end.CallRefused name) may = tt
placed_crate end.HostFailed may = tt

-- the units that are held, with what was got of them
abbrev HeldUnits : List (List ℕ) → List Source → (List ℕ → Option (List ℕ)) → Type 0
HeldUnits names sources held = (units : List File) × (units_of held names ≡ Some units) × AreOf sources (bytes_of units)

pub units_ran : (steps : ℕ) (order : List ℕ) (names : List (List ℕ)) (sources : List Source) (by : End) (tale : Tale) (s t : ShelfState) (u v : HostState) → AreGot names sources s t
    → ((list : List (List ℕ)) → AreOf sources list → units.AreRun list order steps u v by) → c_ends.MayEnd (length sources) by → HasFailed u v by → tale ≡ tale_of names steps by → IsToldOf (run_c steps order names) tale s t u v
units_ran steps order names sources by tale s t u v got ran right failed is = record {
  end = by;
  tale_is = is;
  came = record {
    kept = got.kept;
    unfailed = got.unfailed;
    may_come = subst (λ n. c_ends.MayEnd n by) got.count right;
    failed = failed;
    run = where_map (HeldUnits names sources) (λ held. (meaning : Meaning) × JobMeans held (run_c steps order names) meaning × IsRun meaning u v by) s.held (λ held told has.
        let one = ran (bytes_of has.0) has.2 in (
          units.meaning_of one.cores order steps,
          record { units = has.0; here = has.1; cores = one.cores; unbroken = one.unbroken; meaning_is = refl },
          one.run,
        )) got.held;
  };
}

-- memory was wanting in the run of the units that are held
units_wanted : (steps : ℕ) (order : List ℕ) (names : List (List ℕ)) (sources : List Source) (s t : ShelfState) (u v : HostState) → AreGot names sources s t
    → units.MayWant sources order steps stop.Memory u v → RanShort (run_c steps order names) s t u v
units_wanted steps order names sources s t u v got (inl same) = record { kept = got.kept; asked = inl same }
units_wanted steps order names sources s t u v got (inr wants) = record {
  kept = got.kept;
  asked = inr (where_map (HeldUnits names sources) (λ held. WasWanting held (run_c steps order names) u v) s.held (λ held told has.
      let one = wants (bytes_of has.0) has.2 in record {
        steps = one.wants.steps;
        within = one.wants.within;
        meaning = units.meaning_of one.cores order one.wants.steps;
        means = record { units = has.0; here = has.1; cores = one.cores; unbroken = one.unbroken; meaning_is = refl };
        trail = one.wants.trail;
        tied = one.wants.tied;
      }) got.held);
}

pub units_stop : (steps : ℕ) (order : List ℕ) (names : List (List ℕ)) (sources : List Source) (why : Stop) (ending : Ending) (s t : ShelfState) (u v : HostState) → AreGot names sources s t → StopsUnits sources why
    → units.UnlessMemory why (v ≡ u) → units.MayWant sources order steps why u v → EndsStopped names why ending → RunsUnits steps order names ending s t u v
units_stop steps order names sources stop.Memory ending s t u v got stops same wants ends =
    subst (λ (how : Ending). RunsUnits steps order names how s t u v) (sym ends) (units_wanted steps order names sources s t u v got wants)
units_stop steps order names sources (stop.Refused refusal) ending s t u v got stops same wants ends =
    subst (λ (how : Ending). RunsUnits steps order names how s t u v) (sym ends.2) (record {
      kept = got.kept;
      unfailed = got.unfailed;
      uncalled = same;
      named = ends.1;
      broken = where_map (HeldUnits names sources) (λ held. (list : List File) × (units_of held names ≡ Some list) × BreaksProfile list refusal) s.held
          (λ held told has. (has.0, has.1, stops.1 (bytes_of has.0) has.2)) got.held;
    })

-- no run had begun
pub units_unasked : (steps : ℕ) (order : List ℕ) (names : List (List ℕ)) (s t : ShelfState) (u : HostState) → t.held ≡ s.held → RunsUnits steps order names memory s t u u
units_unasked steps order names s t u kept = record { kept = kept; asked = inl refl }

pub within_units : (names : List (List ℕ)) (sources : List Source) (count : ℕ) (why : Stop) → length sources ≡ count → StopsUnits sources why → IsWithin count why
within_units names sources count stop.Memory same stops = tt
within_units names sources count (stop.Refused refusal) same stops = subst (λ (n : ℕ). refusal.unit < n) same stops.0

-- ---- crates

crate_ran : (directory : List ℕ) (files : List File) (steps : ℕ) (tale : Tale) (s t : ShelfState) (u v : HostState) → IsGotWhole directory files s t → IsTaleOf files steps tale u v → IsToldOf (run_rust steps directory) tale s t u v
crate_ran directory files steps tale s t u v got of = record {
  end = of.end;
  tale_is = of.tale_is;
  came = record {
    kept = got.got.kept;
    unfailed = got.got.unfailed;
    may_come = of.right;
    failed = of.failed;
    run = where_map (λ held. AreHeldIn held directory files) (λ held. (meaning : Meaning) × JobMeans held (run_rust steps directory) meaning × IsRun meaning u v of.end) s.held (λ held told here. (
      crate.meaning_of of.run.whole steps,
      record { files = files; here = here; all = got.all; whole = of.run.whole; read = of.run.read; typed = of.run.typed; meaning_is = refl },
      of.run.run,
    )) got.got.here;
  };
}

-- memory was wanting in the run of a crate
crate_wanted : (directory : List ℕ) (files : List File) (steps : ℕ) (s t : ShelfState) (u v : HostState) → IsGotWhole directory files s t → (v ≡ u) ⊎ crate.AreWanting files steps u v → RanShort (run_rust steps directory) s t u v
crate_wanted directory files steps s t u v got (inl same) = record { kept = got.got.kept; asked = inl same }
crate_wanted directory files steps s t u v got (inr wants) = record {
  kept = got.got.kept;
  asked = inr (where_map (λ held. AreHeldIn held directory files) (λ held. WasWanting held (run_rust steps directory) u v) s.held (λ held told here. record {
    steps = wants.wants.steps;
    within = wants.wants.within;
    meaning = crate.meaning_of wants.whole wants.wants.steps;
    means = record { files = files; here = here; all = got.all; whole = wants.whole; read = wants.read; typed = wants.typed; meaning_is = refl };
    trail = wants.wants.trail;
    tied = wants.wants.tied;
  }) got.got.here);
}

got_of : (directory : List ℕ) (files : List File) (s t : ShelfState) (u v : HostState) → AreGotIn directory files s t → v ≡ u → AreGotOf directory files s t u v
got_of directory files s t u v got same = record { kept = got.kept; unfailed = got.unfailed; uncalled = same; here = got.here }

pub got_leaves : (directory : List ℕ) (files : List File) (steps : ℕ) (ending : Ending) (s t : ShelfState) (u v : HostState) → IsGotWhole directory files s t → EndsGot directory files steps ending u v → RunsCrate steps directory ending s t u v
got_leaves directory files steps done s t u v got ends = absurd ends
got_leaves directory files steps (refused file refusal) s t u v got ends = absurd ends
got_leaves directory files steps usage s t u v got ends = absurd ends
got_leaves directory files steps (cannot_read name) s t u v got ends = absurd ends
got_leaves directory files steps (cannot_write name) s t u v got ends = absurd ends
got_leaves directory files steps memory s t u v got ends = crate_wanted directory files steps s t u v got ends
got_leaves directory files steps (told tale) s t u v got ends = crate_ran directory files steps tale s t u v got ends
got_leaves directory files steps (not_rust name line) s t u v got ends =
    (files, name_at (map path_of files) ends.0, got_of directory files s t u v got.got ends.3, inr (got.all, ends.0, ends.1, refl), ends.2)
got_leaves directory files steps (ill_typed name item) s t u v got ends = (files, got_of directory files s t u v got.got ends.1, (got.all, ends.0))

unread_leaves : (directory : List ℕ) (steps : ℕ) (why : Unread) (s t : ShelfState) (u : HostState) → StopsCrate directory why s t → RunsCrate steps directory (unread_ending why) s t u u
unread_leaves directory steps (NotRead name) s t u stops = record {
  kept = stops.kept;
  uncalled = refl;
  why = stops.why;
  path = stops.path;
  name_is = stops.name_is;
  files = stops.files;
  next = stops.next;
  here = stops.here;
}
unread_leaves directory steps (NotMain name line) s t u stops = (stops.0, main_path, got_of directory stops.0 s t u u stops.1 refl, inl (stops.2, refl), stops.3)
unread_leaves directory steps Memory s t u stops = record { kept = stops; asked = inl refl }

pub ungot_leaves : (directory : List ℕ) (steps : ℕ) (why : Unread) (ending : Ending) (s t : ShelfState) (u : HostState) → StopsCrate directory why s t → ending ≡ unread_ending why → RunsCrate steps directory ending s t u u
ungot_leaves directory steps why ending s t u stops is = subst (λ (how : Ending). RunsCrate steps directory how s t u u) (sym is) (unread_leaves directory steps why s t u stops)
