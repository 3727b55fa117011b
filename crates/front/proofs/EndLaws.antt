-- What the statuses of runs say, from how the job ended and how that was told; and what want of memory says.
use Rattle.std.proofs.Common.{◌≡◌, ◌≢◌, ◌-◌, ℕ, ◌⊎◌, inl, inr, List, [], Option, Some, None, sym, subst, ◌∙◌, arith}
use Rattle.cr_base.specs.declared.rule.URule.{URule}
use Rattle.ext_calls.specs.Host.{HostState}
use Rattle.rs_mean.specs.declared.cause.Cause.{Cause}
use Rattle.run_ends.specs.Told.{name_at, undefined_report, steps_report}
use Rattle.run_ends.specs.Told as tale
use Rattle.run_ends.specs.declared.end.End.{End}
use Rattle.run_ends.specs.declared.end.End.TheVariants as end
use Rattle.shelf.specs.Shelf.{ShelfState}
use Rattle.shelf.specs.Sink.{SinkState, Appended}
use Rattle.front.specs.Job.{Job, transpile, too_many, run_c, run_rust}
use Rattle.front.specs.Leaves.{Leaves}
use Rattle.front.specs.Report.{Ending, done, refused, usage, cannot_read, cannot_write, memory, told, not_rust, ill_typed, IsTold, ReportsMemory, status_of, not_rust_report, ill_typed_report}
use Rattle.front.specs.Run.{ForCrate, ForRun, ForUnits}
use Rattle.front.specs.Runs.{CameTo, MayCome, IsIllTyped, IsNotRust, IsToldOf, names_of, steps_of}
use Rattle.front.proofs.TaleLaws.{came_undefined, came_wrong, came_used, used_are, came_full, came_failed, came_refused}
use Rattle.front.proofs.RunLaws.{Telling, whole, failed, short, other, own_report, telling_of}

zero_ten : ◌≢◌ {A = ℕ} 0 10
zero_ten e = omega arith

told_undefined : (job : Job) (file : List ℕ) (line : ℕ) (rule : URule) (s t : ShelfState) (u v : HostState) (a b : SinkState) → IsToldOf job (tale.undefined file line rule) s t u v → Appended (undefined_report file line rule) a.written b.written
    → (by : URule) × (unit : ℕ) × (at : ℕ) × CameTo job (end.Undefined by unit at) s t u v × Appended (undefined_report (name_at (names_of job) unit) at by) a.written b.written
told_undefined job file line rule s t u v a b of report =
    let came = came_undefined (names_of job) (steps_of job) of.end file line rule of.tale_is in (
      rule,
      came.unit,
      line,
      subst (λ (by : End). CameTo job by s t u v) came.end_is of.came,
      subst (λ (name : List ℕ). Appended (undefined_report name line rule) a.written b.written) came.file_is report,
    )

told_used : (job : Job) (used : ℕ) (s t : ShelfState) (u v : HostState) (a b : SinkState) → IsToldOf job (tale.steps_used used) s t u v → Appended (steps_report used) a.written b.written
    → CameTo job end.StepsUsed s t u v × Appended (steps_report (steps_of job)) a.written b.written
told_used job used s t u v a b of report =
    let came = came_used (names_of job) (steps_of job) of.end used of.tale_is in (
      subst (λ (by : End). CameTo job by s t u v) came of.came,
      subst (λ (n : ℕ). Appended (steps_report n) a.written b.written) (used_are (names_of job) (steps_of job) used (subst (λ (by : End). tale.steps_used used ≡ tale.tale_of (names_of job) (steps_of job) by) came of.tale_is)) report,
    )

-- a run of a crate isn't undefined, and a run of units isn't wrong
no_undefined : {P : Type 0} (given : ℕ) (directory file : List ℕ) (line : ℕ) (rule : URule) (s t : ShelfState) (u v : HostState) → IsToldOf (run_rust given directory) (tale.undefined file line rule) s t u v → P
no_undefined given directory file line rule s t u v of =
    let came = came_undefined [] given of.end file line rule of.tale_is in
    absurd (subst (λ (by : End). MayCome (run_rust given directory) by) came.end_is of.came.may_come)

no_wrong : {P : Type 0} (given : ℕ) (order : List ℕ) (names : List (List ℕ)) (cause : Cause) (s t : ShelfState) (u v : HostState) → IsToldOf (run_c given order names) (tale.wrong cause) s t u v → P
no_wrong given order names cause s t u v of =
    absurd (subst (λ (by : End). MayCome (run_c given order names) by) (came_wrong names given of.end cause of.tale_is) of.came.may_come)

-- status 5
pub when_5 : (job : Option Job) (ending : Ending) (s t : ShelfState) (u v : HostState) (a b : SinkState) (r : ℕ) → Leaves job ending s t u v → IsTold ending a b r → r ≡ 5 → ForUnits job (λ one. (rule : URule) × (unit : ℕ) × (line : ℕ) × CameTo one (end.Undefined rule unit line) s t u v × Appended (undefined_report (name_at (names_of one) unit) line rule) a.written b.written)
when_5 job done s t u v a b r leaves is now = other done a b r 5 now (λ (x : 5 ≡ 4). omega arith) (λ (x : 5 ≡ 10). omega arith) (λ (x : 5 ≡ 0). omega arith) is
when_5 job (refused file refusal) s t u v a b r leaves is now = other (refused file refusal) a b r 5 now (λ (x : 5 ≡ 4). omega arith) (λ (x : 5 ≡ 10). omega arith) (λ (x : 5 ≡ 1). omega arith) is
when_5 job usage s t u v a b r leaves is now = other usage a b r 5 now (λ (x : 5 ≡ 4). omega arith) (λ (x : 5 ≡ 10). omega arith) (λ (x : 5 ≡ 2). omega arith) is
when_5 job (cannot_read name) s t u v a b r leaves is now = other (cannot_read name) a b r 5 now (λ (x : 5 ≡ 4). omega arith) (λ (x : 5 ≡ 10). omega arith) (λ (x : 5 ≡ 3). omega arith) is
when_5 job (cannot_write name) s t u v a b r leaves is now = other (cannot_write name) a b r 5 now (λ (x : 5 ≡ 4). omega arith) (λ (x : 5 ≡ 10). omega arith) (λ (x : 5 ≡ 4). omega arith) is
when_5 job memory s t u v a b r leaves is now = other memory a b r 5 now (λ (x : 5 ≡ 4). omega arith) (λ (x : 5 ≡ 10). omega arith) (λ (x : 5 ≡ 10). omega arith) is
when_5 job (told (tale.ended code)) s t u v a b r leaves is now = other (told (tale.ended code)) a b r 5 now (λ (x : 5 ≡ 4). omega arith) (λ (x : 5 ≡ 10). omega arith) (λ (x : 5 ≡ 0). omega arith) is
when_5 None (told (tale.undefined file line rule)) s t u v a b r leaves is now = absurd leaves.0
when_5 (Some (transpile directory names)) (told (tale.undefined file line rule)) s t u v a b r leaves is now = absurd leaves.0
when_5 (Some too_many) (told (tale.undefined file line rule)) s t u v a b r leaves is now = absurd leaves.0
when_5 (Some (run_c given order names)) (told (tale.undefined file line rule)) s t u v a b r leaves is now = told_undefined (run_c given order names) file line rule s t u v a b leaves (own_report (told (tale.undefined file line rule)) a b r 5 now (λ (x : 5 ≡ 4). omega arith) (λ (x : 5 ≡ 10). omega arith) is)
when_5 (Some (run_rust given directory)) (told (tale.undefined file line rule)) s t u v a b r leaves is now = no_undefined given directory file line rule s t u v leaves
when_5 job (told (tale.wrong cause)) s t u v a b r leaves is now = other (told (tale.wrong cause)) a b r 5 now (λ (x : 5 ≡ 4). omega arith) (λ (x : 5 ≡ 10). omega arith) (λ (x : 5 ≡ 6). omega arith) is
when_5 job (told (tale.steps_used steps)) s t u v a b r leaves is now = other (told (tale.steps_used steps)) a b r 5 now (λ (x : 5 ≡ 4). omega arith) (λ (x : 5 ≡ 10). omega arith) (λ (x : 5 ≡ 7). omega arith) is
when_5 job (told (tale.store_full need left)) s t u v a b r leaves is now = other (told (tale.store_full need left)) a b r 5 now (λ (x : 5 ≡ 4). omega arith) (λ (x : 5 ≡ 10). omega arith) (λ (x : 5 ≡ 8). omega arith) is
when_5 job (told tale.host_failed) s t u v a b r leaves is now = other (told tale.host_failed) a b r 5 now (λ (x : 5 ≡ 4). omega arith) (λ (x : 5 ≡ 10). omega arith) (λ (x : 5 ≡ 9). omega arith) is
when_5 job (told (tale.call_refused name)) s t u v a b r leaves is now = other (told (tale.call_refused name)) a b r 5 now (λ (x : 5 ≡ 4). omega arith) (λ (x : 5 ≡ 10). omega arith) (λ (x : 5 ≡ 13). omega arith) is
when_5 job (not_rust name line) s t u v a b r leaves is now = other (not_rust name line) a b r 5 now (λ (x : 5 ≡ 4). omega arith) (λ (x : 5 ≡ 10). omega arith) (λ (x : 5 ≡ 11). omega arith) is
when_5 job (ill_typed name item) s t u v a b r leaves is now = other (ill_typed name item) a b r 5 now (λ (x : 5 ≡ 4). omega arith) (λ (x : 5 ≡ 10). omega arith) (λ (x : 5 ≡ 11). omega arith) is

-- status 6
pub when_6 : (job : Option Job) (ending : Ending) (s t : ShelfState) (u v : HostState) (a b : SinkState) (r : ℕ) → Leaves job ending s t u v → IsTold ending a b r → r ≡ 6 → ForCrate job (λ one directory. (cause : Cause) × CameTo one (end.Wrong cause) s t u v × Appended (tale.wrong_report cause) a.written b.written)
when_6 job done s t u v a b r leaves is now = other done a b r 6 now (λ (x : 6 ≡ 4). omega arith) (λ (x : 6 ≡ 10). omega arith) (λ (x : 6 ≡ 0). omega arith) is
when_6 job (refused file refusal) s t u v a b r leaves is now = other (refused file refusal) a b r 6 now (λ (x : 6 ≡ 4). omega arith) (λ (x : 6 ≡ 10). omega arith) (λ (x : 6 ≡ 1). omega arith) is
when_6 job usage s t u v a b r leaves is now = other usage a b r 6 now (λ (x : 6 ≡ 4). omega arith) (λ (x : 6 ≡ 10). omega arith) (λ (x : 6 ≡ 2). omega arith) is
when_6 job (cannot_read name) s t u v a b r leaves is now = other (cannot_read name) a b r 6 now (λ (x : 6 ≡ 4). omega arith) (λ (x : 6 ≡ 10). omega arith) (λ (x : 6 ≡ 3). omega arith) is
when_6 job (cannot_write name) s t u v a b r leaves is now = other (cannot_write name) a b r 6 now (λ (x : 6 ≡ 4). omega arith) (λ (x : 6 ≡ 10). omega arith) (λ (x : 6 ≡ 4). omega arith) is
when_6 job memory s t u v a b r leaves is now = other memory a b r 6 now (λ (x : 6 ≡ 4). omega arith) (λ (x : 6 ≡ 10). omega arith) (λ (x : 6 ≡ 10). omega arith) is
when_6 job (told (tale.ended code)) s t u v a b r leaves is now = other (told (tale.ended code)) a b r 6 now (λ (x : 6 ≡ 4). omega arith) (λ (x : 6 ≡ 10). omega arith) (λ (x : 6 ≡ 0). omega arith) is
when_6 job (told (tale.undefined file line rule)) s t u v a b r leaves is now = other (told (tale.undefined file line rule)) a b r 6 now (λ (x : 6 ≡ 4). omega arith) (λ (x : 6 ≡ 10). omega arith) (λ (x : 6 ≡ 5). omega arith) is
when_6 None (told (tale.wrong cause)) s t u v a b r leaves is now = absurd leaves.0
when_6 (Some (transpile directory names)) (told (tale.wrong cause)) s t u v a b r leaves is now = absurd leaves.0
when_6 (Some too_many) (told (tale.wrong cause)) s t u v a b r leaves is now = absurd leaves.0
when_6 (Some (run_c given order names)) (told (tale.wrong cause)) s t u v a b r leaves is now = no_wrong given order names cause s t u v leaves
when_6 (Some (run_rust given directory)) (told (tale.wrong cause)) s t u v a b r leaves is now = (cause, subst (λ (by : End). CameTo (run_rust given directory) by s t u v) (came_wrong [] given leaves.end cause leaves.tale_is) leaves.came, own_report (told (tale.wrong cause)) a b r 6 now (λ (x : 6 ≡ 4). omega arith) (λ (x : 6 ≡ 10). omega arith) is)
when_6 job (told (tale.steps_used steps)) s t u v a b r leaves is now = other (told (tale.steps_used steps)) a b r 6 now (λ (x : 6 ≡ 4). omega arith) (λ (x : 6 ≡ 10). omega arith) (λ (x : 6 ≡ 7). omega arith) is
when_6 job (told (tale.store_full need left)) s t u v a b r leaves is now = other (told (tale.store_full need left)) a b r 6 now (λ (x : 6 ≡ 4). omega arith) (λ (x : 6 ≡ 10). omega arith) (λ (x : 6 ≡ 8). omega arith) is
when_6 job (told tale.host_failed) s t u v a b r leaves is now = other (told tale.host_failed) a b r 6 now (λ (x : 6 ≡ 4). omega arith) (λ (x : 6 ≡ 10). omega arith) (λ (x : 6 ≡ 9). omega arith) is
when_6 job (told (tale.call_refused name)) s t u v a b r leaves is now = other (told (tale.call_refused name)) a b r 6 now (λ (x : 6 ≡ 4). omega arith) (λ (x : 6 ≡ 10). omega arith) (λ (x : 6 ≡ 13). omega arith) is
when_6 job (not_rust name line) s t u v a b r leaves is now = other (not_rust name line) a b r 6 now (λ (x : 6 ≡ 4). omega arith) (λ (x : 6 ≡ 10). omega arith) (λ (x : 6 ≡ 11). omega arith) is
when_6 job (ill_typed name item) s t u v a b r leaves is now = other (ill_typed name item) a b r 6 now (λ (x : 6 ≡ 4). omega arith) (λ (x : 6 ≡ 10). omega arith) (λ (x : 6 ≡ 11). omega arith) is

-- status 7
pub when_7 : (job : Option Job) (ending : Ending) (s t : ShelfState) (u v : HostState) (a b : SinkState) (r : ℕ) → Leaves job ending s t u v → IsTold ending a b r → r ≡ 7 → ForRun job (λ one. CameTo one end.StepsUsed s t u v × Appended (steps_report (steps_of one)) a.written b.written)
when_7 job done s t u v a b r leaves is now = other done a b r 7 now (λ (x : 7 ≡ 4). omega arith) (λ (x : 7 ≡ 10). omega arith) (λ (x : 7 ≡ 0). omega arith) is
when_7 job (refused file refusal) s t u v a b r leaves is now = other (refused file refusal) a b r 7 now (λ (x : 7 ≡ 4). omega arith) (λ (x : 7 ≡ 10). omega arith) (λ (x : 7 ≡ 1). omega arith) is
when_7 job usage s t u v a b r leaves is now = other usage a b r 7 now (λ (x : 7 ≡ 4). omega arith) (λ (x : 7 ≡ 10). omega arith) (λ (x : 7 ≡ 2). omega arith) is
when_7 job (cannot_read name) s t u v a b r leaves is now = other (cannot_read name) a b r 7 now (λ (x : 7 ≡ 4). omega arith) (λ (x : 7 ≡ 10). omega arith) (λ (x : 7 ≡ 3). omega arith) is
when_7 job (cannot_write name) s t u v a b r leaves is now = other (cannot_write name) a b r 7 now (λ (x : 7 ≡ 4). omega arith) (λ (x : 7 ≡ 10). omega arith) (λ (x : 7 ≡ 4). omega arith) is
when_7 job memory s t u v a b r leaves is now = other memory a b r 7 now (λ (x : 7 ≡ 4). omega arith) (λ (x : 7 ≡ 10). omega arith) (λ (x : 7 ≡ 10). omega arith) is
when_7 job (told (tale.ended code)) s t u v a b r leaves is now = other (told (tale.ended code)) a b r 7 now (λ (x : 7 ≡ 4). omega arith) (λ (x : 7 ≡ 10). omega arith) (λ (x : 7 ≡ 0). omega arith) is
when_7 job (told (tale.undefined file line rule)) s t u v a b r leaves is now = other (told (tale.undefined file line rule)) a b r 7 now (λ (x : 7 ≡ 4). omega arith) (λ (x : 7 ≡ 10). omega arith) (λ (x : 7 ≡ 5). omega arith) is
when_7 job (told (tale.wrong cause)) s t u v a b r leaves is now = other (told (tale.wrong cause)) a b r 7 now (λ (x : 7 ≡ 4). omega arith) (λ (x : 7 ≡ 10). omega arith) (λ (x : 7 ≡ 6). omega arith) is
when_7 None (told (tale.steps_used steps)) s t u v a b r leaves is now = absurd leaves.0
when_7 (Some (transpile directory names)) (told (tale.steps_used steps)) s t u v a b r leaves is now = absurd leaves.0
when_7 (Some too_many) (told (tale.steps_used steps)) s t u v a b r leaves is now = absurd leaves.0
when_7 (Some (run_c given order names)) (told (tale.steps_used steps)) s t u v a b r leaves is now = told_used (run_c given order names) steps s t u v a b leaves (own_report (told (tale.steps_used steps)) a b r 7 now (λ (x : 7 ≡ 4). omega arith) (λ (x : 7 ≡ 10). omega arith) is)
when_7 (Some (run_rust given directory)) (told (tale.steps_used steps)) s t u v a b r leaves is now = told_used (run_rust given directory) steps s t u v a b leaves (own_report (told (tale.steps_used steps)) a b r 7 now (λ (x : 7 ≡ 4). omega arith) (λ (x : 7 ≡ 10). omega arith) is)
when_7 job (told (tale.store_full need left)) s t u v a b r leaves is now = other (told (tale.store_full need left)) a b r 7 now (λ (x : 7 ≡ 4). omega arith) (λ (x : 7 ≡ 10). omega arith) (λ (x : 7 ≡ 8). omega arith) is
when_7 job (told tale.host_failed) s t u v a b r leaves is now = other (told tale.host_failed) a b r 7 now (λ (x : 7 ≡ 4). omega arith) (λ (x : 7 ≡ 10). omega arith) (λ (x : 7 ≡ 9). omega arith) is
when_7 job (told (tale.call_refused name)) s t u v a b r leaves is now = other (told (tale.call_refused name)) a b r 7 now (λ (x : 7 ≡ 4). omega arith) (λ (x : 7 ≡ 10). omega arith) (λ (x : 7 ≡ 13). omega arith) is
when_7 job (not_rust name line) s t u v a b r leaves is now = other (not_rust name line) a b r 7 now (λ (x : 7 ≡ 4). omega arith) (λ (x : 7 ≡ 10). omega arith) (λ (x : 7 ≡ 11). omega arith) is
when_7 job (ill_typed name item) s t u v a b r leaves is now = other (ill_typed name item) a b r 7 now (λ (x : 7 ≡ 4). omega arith) (λ (x : 7 ≡ 10). omega arith) (λ (x : 7 ≡ 11). omega arith) is

-- status 8
when_8 : (job : Option Job) (ending : Ending) (s t : ShelfState) (u v : HostState) (a b : SinkState) (r : ℕ) → Leaves job ending s t u v → IsTold ending a b r → r ≡ 8 → ForRun job (λ one. (need : ℕ) × (left : ℕ) × CameTo one (end.StoreFull need left) s t u v × Appended (tale.full_report need left) a.written b.written)
when_8 job done s t u v a b r leaves is now = other done a b r 8 now (λ (x : 8 ≡ 4). omega arith) (λ (x : 8 ≡ 10). omega arith) (λ (x : 8 ≡ 0). omega arith) is
when_8 job (refused file refusal) s t u v a b r leaves is now = other (refused file refusal) a b r 8 now (λ (x : 8 ≡ 4). omega arith) (λ (x : 8 ≡ 10). omega arith) (λ (x : 8 ≡ 1). omega arith) is
when_8 job usage s t u v a b r leaves is now = other usage a b r 8 now (λ (x : 8 ≡ 4). omega arith) (λ (x : 8 ≡ 10). omega arith) (λ (x : 8 ≡ 2). omega arith) is
when_8 job (cannot_read name) s t u v a b r leaves is now = other (cannot_read name) a b r 8 now (λ (x : 8 ≡ 4). omega arith) (λ (x : 8 ≡ 10). omega arith) (λ (x : 8 ≡ 3). omega arith) is
when_8 job (cannot_write name) s t u v a b r leaves is now = other (cannot_write name) a b r 8 now (λ (x : 8 ≡ 4). omega arith) (λ (x : 8 ≡ 10). omega arith) (λ (x : 8 ≡ 4). omega arith) is
when_8 job memory s t u v a b r leaves is now = other memory a b r 8 now (λ (x : 8 ≡ 4). omega arith) (λ (x : 8 ≡ 10). omega arith) (λ (x : 8 ≡ 10). omega arith) is
when_8 job (told (tale.ended code)) s t u v a b r leaves is now = other (told (tale.ended code)) a b r 8 now (λ (x : 8 ≡ 4). omega arith) (λ (x : 8 ≡ 10). omega arith) (λ (x : 8 ≡ 0). omega arith) is
when_8 job (told (tale.undefined file line rule)) s t u v a b r leaves is now = other (told (tale.undefined file line rule)) a b r 8 now (λ (x : 8 ≡ 4). omega arith) (λ (x : 8 ≡ 10). omega arith) (λ (x : 8 ≡ 5). omega arith) is
when_8 job (told (tale.wrong cause)) s t u v a b r leaves is now = other (told (tale.wrong cause)) a b r 8 now (λ (x : 8 ≡ 4). omega arith) (λ (x : 8 ≡ 10). omega arith) (λ (x : 8 ≡ 6). omega arith) is
when_8 job (told (tale.steps_used steps)) s t u v a b r leaves is now = other (told (tale.steps_used steps)) a b r 8 now (λ (x : 8 ≡ 4). omega arith) (λ (x : 8 ≡ 10). omega arith) (λ (x : 8 ≡ 7). omega arith) is
when_8 None (told (tale.store_full need left)) s t u v a b r leaves is now = absurd leaves.0
when_8 (Some (transpile directory names)) (told (tale.store_full need left)) s t u v a b r leaves is now = absurd leaves.0
when_8 (Some too_many) (told (tale.store_full need left)) s t u v a b r leaves is now = absurd leaves.0
when_8 (Some (run_c given order names)) (told (tale.store_full need left)) s t u v a b r leaves is now = (need, left, subst (λ (by : End). CameTo (run_c given order names) by s t u v) (came_full names given leaves.end need left leaves.tale_is) leaves.came, own_report (told (tale.store_full need left)) a b r 8 now (λ (x : 8 ≡ 4). omega arith) (λ (x : 8 ≡ 10). omega arith) is)
when_8 (Some (run_rust given directory)) (told (tale.store_full need left)) s t u v a b r leaves is now = (need, left, subst (λ (by : End). CameTo (run_rust given directory) by s t u v) (came_full [] given leaves.end need left leaves.tale_is) leaves.came, own_report (told (tale.store_full need left)) a b r 8 now (λ (x : 8 ≡ 4). omega arith) (λ (x : 8 ≡ 10). omega arith) is)
when_8 job (told tale.host_failed) s t u v a b r leaves is now = other (told tale.host_failed) a b r 8 now (λ (x : 8 ≡ 4). omega arith) (λ (x : 8 ≡ 10). omega arith) (λ (x : 8 ≡ 9). omega arith) is
when_8 job (told (tale.call_refused name)) s t u v a b r leaves is now = other (told (tale.call_refused name)) a b r 8 now (λ (x : 8 ≡ 4). omega arith) (λ (x : 8 ≡ 10). omega arith) (λ (x : 8 ≡ 13). omega arith) is
when_8 job (not_rust name line) s t u v a b r leaves is now = other (not_rust name line) a b r 8 now (λ (x : 8 ≡ 4). omega arith) (λ (x : 8 ≡ 10). omega arith) (λ (x : 8 ≡ 11). omega arith) is
when_8 job (ill_typed name item) s t u v a b r leaves is now = other (ill_typed name item) a b r 8 now (λ (x : 8 ≡ 4). omega arith) (λ (x : 8 ≡ 10). omega arith) (λ (x : 8 ≡ 11). omega arith) is

-- no run has it, since the store has no limit
lacks_room : (job : Option Job) (s t : ShelfState) (u v : HostState) (a b : SinkState)
    → ForRun job (λ one. (need : ℕ) × (left : ℕ) × CameTo one (end.StoreFull need left) s t u v × Appended (tale.full_report need left) a.written b.written) → ⊥
lacks_room None s t u v a b has = has
lacks_room (Some (transpile directory names)) s t u v a b has = has
lacks_room (Some too_many) s t u v a b has = has
lacks_room (Some (run_c given order names)) s t u v a b has = has.2.may_come
lacks_room (Some (run_rust given directory)) s t u v a b has = has.2.may_come

pub never_8 : (job : Option Job) (ending : Ending) (s t : ShelfState) (u v : HostState) (a b : SinkState) (r : ℕ) → Leaves job ending s t u v → IsTold ending a b r → r ≢ 8
never_8 job ending s t u v a b r leaves is now = lacks_room job s t u v a b (when_8 job ending s t u v a b r leaves is now)

-- status 9
pub when_9 : (job : Option Job) (ending : Ending) (s t : ShelfState) (u v : HostState) (a b : SinkState) (r : ℕ) → Leaves job ending s t u v → IsTold ending a b r → r ≡ 9 → ForRun job (λ one. CameTo one end.HostFailed s t u v × Appended tale.failed_report a.written b.written)
when_9 job done s t u v a b r leaves is now = other done a b r 9 now (λ (x : 9 ≡ 4). omega arith) (λ (x : 9 ≡ 10). omega arith) (λ (x : 9 ≡ 0). omega arith) is
when_9 job (refused file refusal) s t u v a b r leaves is now = other (refused file refusal) a b r 9 now (λ (x : 9 ≡ 4). omega arith) (λ (x : 9 ≡ 10). omega arith) (λ (x : 9 ≡ 1). omega arith) is
when_9 job usage s t u v a b r leaves is now = other usage a b r 9 now (λ (x : 9 ≡ 4). omega arith) (λ (x : 9 ≡ 10). omega arith) (λ (x : 9 ≡ 2). omega arith) is
when_9 job (cannot_read name) s t u v a b r leaves is now = other (cannot_read name) a b r 9 now (λ (x : 9 ≡ 4). omega arith) (λ (x : 9 ≡ 10). omega arith) (λ (x : 9 ≡ 3). omega arith) is
when_9 job (cannot_write name) s t u v a b r leaves is now = other (cannot_write name) a b r 9 now (λ (x : 9 ≡ 4). omega arith) (λ (x : 9 ≡ 10). omega arith) (λ (x : 9 ≡ 4). omega arith) is
when_9 job memory s t u v a b r leaves is now = other memory a b r 9 now (λ (x : 9 ≡ 4). omega arith) (λ (x : 9 ≡ 10). omega arith) (λ (x : 9 ≡ 10). omega arith) is
when_9 job (told (tale.ended code)) s t u v a b r leaves is now = other (told (tale.ended code)) a b r 9 now (λ (x : 9 ≡ 4). omega arith) (λ (x : 9 ≡ 10). omega arith) (λ (x : 9 ≡ 0). omega arith) is
when_9 job (told (tale.undefined file line rule)) s t u v a b r leaves is now = other (told (tale.undefined file line rule)) a b r 9 now (λ (x : 9 ≡ 4). omega arith) (λ (x : 9 ≡ 10). omega arith) (λ (x : 9 ≡ 5). omega arith) is
when_9 job (told (tale.wrong cause)) s t u v a b r leaves is now = other (told (tale.wrong cause)) a b r 9 now (λ (x : 9 ≡ 4). omega arith) (λ (x : 9 ≡ 10). omega arith) (λ (x : 9 ≡ 6). omega arith) is
when_9 job (told (tale.steps_used steps)) s t u v a b r leaves is now = other (told (tale.steps_used steps)) a b r 9 now (λ (x : 9 ≡ 4). omega arith) (λ (x : 9 ≡ 10). omega arith) (λ (x : 9 ≡ 7). omega arith) is
when_9 job (told (tale.store_full need left)) s t u v a b r leaves is now = other (told (tale.store_full need left)) a b r 9 now (λ (x : 9 ≡ 4). omega arith) (λ (x : 9 ≡ 10). omega arith) (λ (x : 9 ≡ 8). omega arith) is
when_9 None (told tale.host_failed) s t u v a b r leaves is now = absurd leaves.0
when_9 (Some (transpile directory names)) (told tale.host_failed) s t u v a b r leaves is now = absurd leaves.0
when_9 (Some too_many) (told tale.host_failed) s t u v a b r leaves is now = absurd leaves.0
when_9 (Some (run_c given order names)) (told tale.host_failed) s t u v a b r leaves is now = (subst (λ (by : End). CameTo (run_c given order names) by s t u v) (came_failed names given leaves.end leaves.tale_is) leaves.came, own_report (told tale.host_failed) a b r 9 now (λ (x : 9 ≡ 4). omega arith) (λ (x : 9 ≡ 10). omega arith) is)
when_9 (Some (run_rust given directory)) (told tale.host_failed) s t u v a b r leaves is now = (subst (λ (by : End). CameTo (run_rust given directory) by s t u v) (came_failed [] given leaves.end leaves.tale_is) leaves.came, own_report (told tale.host_failed) a b r 9 now (λ (x : 9 ≡ 4). omega arith) (λ (x : 9 ≡ 10). omega arith) is)
when_9 job (told (tale.call_refused name)) s t u v a b r leaves is now = other (told (tale.call_refused name)) a b r 9 now (λ (x : 9 ≡ 4). omega arith) (λ (x : 9 ≡ 10). omega arith) (λ (x : 9 ≡ 13). omega arith) is
when_9 job (not_rust name line) s t u v a b r leaves is now = other (not_rust name line) a b r 9 now (λ (x : 9 ≡ 4). omega arith) (λ (x : 9 ≡ 10). omega arith) (λ (x : 9 ≡ 11). omega arith) is
when_9 job (ill_typed name item) s t u v a b r leaves is now = other (ill_typed name item) a b r 9 now (λ (x : 9 ≡ 4). omega arith) (λ (x : 9 ≡ 10). omega arith) (λ (x : 9 ≡ 11). omega arith) is

-- status 13
pub when_13 : (job : Option Job) (ending : Ending) (s t : ShelfState) (u v : HostState) (a b : SinkState) (r : ℕ) → Leaves job ending s t u v → IsTold ending a b r → r ≡ 13 → ForRun job (λ one. (name : List ℕ) × CameTo one (end.CallRefused name) s t u v × Appended (tale.refused_report name) a.written b.written)
when_13 job done s t u v a b r leaves is now = other done a b r 13 now (λ (x : 13 ≡ 4). omega arith) (λ (x : 13 ≡ 10). omega arith) (λ (x : 13 ≡ 0). omega arith) is
when_13 job (refused file refusal) s t u v a b r leaves is now = other (refused file refusal) a b r 13 now (λ (x : 13 ≡ 4). omega arith) (λ (x : 13 ≡ 10). omega arith) (λ (x : 13 ≡ 1). omega arith) is
when_13 job usage s t u v a b r leaves is now = other usage a b r 13 now (λ (x : 13 ≡ 4). omega arith) (λ (x : 13 ≡ 10). omega arith) (λ (x : 13 ≡ 2). omega arith) is
when_13 job (cannot_read name) s t u v a b r leaves is now = other (cannot_read name) a b r 13 now (λ (x : 13 ≡ 4). omega arith) (λ (x : 13 ≡ 10). omega arith) (λ (x : 13 ≡ 3). omega arith) is
when_13 job (cannot_write name) s t u v a b r leaves is now = other (cannot_write name) a b r 13 now (λ (x : 13 ≡ 4). omega arith) (λ (x : 13 ≡ 10). omega arith) (λ (x : 13 ≡ 4). omega arith) is
when_13 job memory s t u v a b r leaves is now = other memory a b r 13 now (λ (x : 13 ≡ 4). omega arith) (λ (x : 13 ≡ 10). omega arith) (λ (x : 13 ≡ 10). omega arith) is
when_13 job (told (tale.ended code)) s t u v a b r leaves is now = other (told (tale.ended code)) a b r 13 now (λ (x : 13 ≡ 4). omega arith) (λ (x : 13 ≡ 10). omega arith) (λ (x : 13 ≡ 0). omega arith) is
when_13 job (told (tale.undefined file line rule)) s t u v a b r leaves is now = other (told (tale.undefined file line rule)) a b r 13 now (λ (x : 13 ≡ 4). omega arith) (λ (x : 13 ≡ 10). omega arith) (λ (x : 13 ≡ 5). omega arith) is
when_13 job (told (tale.wrong cause)) s t u v a b r leaves is now = other (told (tale.wrong cause)) a b r 13 now (λ (x : 13 ≡ 4). omega arith) (λ (x : 13 ≡ 10). omega arith) (λ (x : 13 ≡ 6). omega arith) is
when_13 job (told (tale.steps_used steps)) s t u v a b r leaves is now = other (told (tale.steps_used steps)) a b r 13 now (λ (x : 13 ≡ 4). omega arith) (λ (x : 13 ≡ 10). omega arith) (λ (x : 13 ≡ 7). omega arith) is
when_13 job (told (tale.store_full need left)) s t u v a b r leaves is now = other (told (tale.store_full need left)) a b r 13 now (λ (x : 13 ≡ 4). omega arith) (λ (x : 13 ≡ 10). omega arith) (λ (x : 13 ≡ 8). omega arith) is
when_13 job (told tale.host_failed) s t u v a b r leaves is now = other (told tale.host_failed) a b r 13 now (λ (x : 13 ≡ 4). omega arith) (λ (x : 13 ≡ 10). omega arith) (λ (x : 13 ≡ 9). omega arith) is
when_13 None (told (tale.call_refused name)) s t u v a b r leaves is now = absurd leaves.0
when_13 (Some (transpile directory names)) (told (tale.call_refused name)) s t u v a b r leaves is now = absurd leaves.0
when_13 (Some too_many) (told (tale.call_refused name)) s t u v a b r leaves is now = absurd leaves.0
when_13 (Some (run_c given order names)) (told (tale.call_refused name)) s t u v a b r leaves is now = (name, subst (λ (by : End). CameTo (run_c given order names) by s t u v) (came_refused names given leaves.end name leaves.tale_is) leaves.came, own_report (told (tale.call_refused name)) a b r 13 now (λ (x : 13 ≡ 4). omega arith) (λ (x : 13 ≡ 10). omega arith) is)
when_13 (Some (run_rust given directory)) (told (tale.call_refused name)) s t u v a b r leaves is now = (name, subst (λ (by : End). CameTo (run_rust given directory) by s t u v) (came_refused [] given leaves.end name leaves.tale_is) leaves.came, own_report (told (tale.call_refused name)) a b r 13 now (λ (x : 13 ≡ 4). omega arith) (λ (x : 13 ≡ 10). omega arith) is)
when_13 job (not_rust name line) s t u v a b r leaves is now = other (not_rust name line) a b r 13 now (λ (x : 13 ≡ 4). omega arith) (λ (x : 13 ≡ 10). omega arith) (λ (x : 13 ≡ 11). omega arith) is
when_13 job (ill_typed name item) s t u v a b r leaves is now = other (ill_typed name item) a b r 13 now (λ (x : 13 ≡ 4). omega arith) (λ (x : 13 ≡ 10). omega arith) (λ (x : 13 ≡ 11). omega arith) is

-- status 11
pub when_11 : (job : Option Job) (ending : Ending) (s t : ShelfState) (u v : HostState) (a b : SinkState) (r : ℕ) → Leaves job ending s t u v → IsTold ending a b r → r ≡ 11 → ForCrate job (λ one directory. ((name : List ℕ) × (line : ℕ) × IsNotRust directory name s t u v × Appended (not_rust_report name line) a.written b.written)
    ⊎ ((name : List ℕ) × (item : ℕ) × IsIllTyped directory name item s t u v × Appended (ill_typed_report name item) a.written b.written))
when_11 job done s t u v a b r leaves is now = other done a b r 11 now (λ (x : 11 ≡ 4). omega arith) (λ (x : 11 ≡ 10). omega arith) (λ (x : 11 ≡ 0). omega arith) is
when_11 job (refused file refusal) s t u v a b r leaves is now = other (refused file refusal) a b r 11 now (λ (x : 11 ≡ 4). omega arith) (λ (x : 11 ≡ 10). omega arith) (λ (x : 11 ≡ 1). omega arith) is
when_11 job usage s t u v a b r leaves is now = other usage a b r 11 now (λ (x : 11 ≡ 4). omega arith) (λ (x : 11 ≡ 10). omega arith) (λ (x : 11 ≡ 2). omega arith) is
when_11 job (cannot_read name) s t u v a b r leaves is now = other (cannot_read name) a b r 11 now (λ (x : 11 ≡ 4). omega arith) (λ (x : 11 ≡ 10). omega arith) (λ (x : 11 ≡ 3). omega arith) is
when_11 job (cannot_write name) s t u v a b r leaves is now = other (cannot_write name) a b r 11 now (λ (x : 11 ≡ 4). omega arith) (λ (x : 11 ≡ 10). omega arith) (λ (x : 11 ≡ 4). omega arith) is
when_11 job memory s t u v a b r leaves is now = other memory a b r 11 now (λ (x : 11 ≡ 4). omega arith) (λ (x : 11 ≡ 10). omega arith) (λ (x : 11 ≡ 10). omega arith) is
when_11 job (told (tale.ended code)) s t u v a b r leaves is now = other (told (tale.ended code)) a b r 11 now (λ (x : 11 ≡ 4). omega arith) (λ (x : 11 ≡ 10). omega arith) (λ (x : 11 ≡ 0). omega arith) is
when_11 job (told (tale.undefined file line rule)) s t u v a b r leaves is now = other (told (tale.undefined file line rule)) a b r 11 now (λ (x : 11 ≡ 4). omega arith) (λ (x : 11 ≡ 10). omega arith) (λ (x : 11 ≡ 5). omega arith) is
when_11 job (told (tale.wrong cause)) s t u v a b r leaves is now = other (told (tale.wrong cause)) a b r 11 now (λ (x : 11 ≡ 4). omega arith) (λ (x : 11 ≡ 10). omega arith) (λ (x : 11 ≡ 6). omega arith) is
when_11 job (told (tale.steps_used steps)) s t u v a b r leaves is now = other (told (tale.steps_used steps)) a b r 11 now (λ (x : 11 ≡ 4). omega arith) (λ (x : 11 ≡ 10). omega arith) (λ (x : 11 ≡ 7). omega arith) is
when_11 job (told (tale.store_full need left)) s t u v a b r leaves is now = other (told (tale.store_full need left)) a b r 11 now (λ (x : 11 ≡ 4). omega arith) (λ (x : 11 ≡ 10). omega arith) (λ (x : 11 ≡ 8). omega arith) is
when_11 job (told tale.host_failed) s t u v a b r leaves is now = other (told tale.host_failed) a b r 11 now (λ (x : 11 ≡ 4). omega arith) (λ (x : 11 ≡ 10). omega arith) (λ (x : 11 ≡ 9). omega arith) is
when_11 job (told (tale.call_refused name)) s t u v a b r leaves is now = other (told (tale.call_refused name)) a b r 11 now (λ (x : 11 ≡ 4). omega arith) (λ (x : 11 ≡ 10). omega arith) (λ (x : 11 ≡ 13). omega arith) is
when_11 None (not_rust name line) s t u v a b r leaves is now = absurd leaves.0
when_11 (Some (transpile directory names)) (not_rust name line) s t u v a b r leaves is now = absurd leaves.0
when_11 (Some too_many) (not_rust name line) s t u v a b r leaves is now = absurd leaves.0
when_11 (Some (run_c given order names)) (not_rust name line) s t u v a b r leaves is now = absurd leaves
when_11 (Some (run_rust given directory)) (not_rust name line) s t u v a b r leaves is now = inl (name, line, leaves, own_report (not_rust name line) a b r 11 now (λ (x : 11 ≡ 4). omega arith) (λ (x : 11 ≡ 10). omega arith) is)
when_11 None (ill_typed name item) s t u v a b r leaves is now = absurd leaves.0
when_11 (Some (transpile directory names)) (ill_typed name item) s t u v a b r leaves is now = absurd leaves.0
when_11 (Some too_many) (ill_typed name item) s t u v a b r leaves is now = absurd leaves.0
when_11 (Some (run_c given order names)) (ill_typed name item) s t u v a b r leaves is now = absurd leaves
when_11 (Some (run_rust given directory)) (ill_typed name item) s t u v a b r leaves is now = inr (name, item, leaves, own_report (ill_typed name item) a b r 11 now (λ (x : 11 ≡ 4). omega arith) (λ (x : 11 ≡ 10). omega arith) is)

-- status 10
ten_of : (ending : Ending) (a b : SinkState) (r : ℕ) → 10 ≢ status_of ending → r ≡ 10 → Telling ending a b r → ReportsMemory a b
ten_of ending a b r own is (whole x y) = absurd (own (sym is ∙ x))
ten_of ending a b r own is (failed x y) = absurd (four_not_ten (sym x ∙ is))
  where
    four_not_ten : ◌≢◌ {A = ℕ} 4 10
    four_not_ten e = omega arith
ten_of ending a b r own is (short x y) = y

pub when_10 : (ending : Ending) (a b : SinkState) (r : ℕ) → IsTold ending a b r → r ≡ 10 → ReportsMemory a b
when_10 done a b r is now = absurd (zero_ten (sym is.0 ∙ now))
when_10 (refused file refusal) a b r is now = ten_of (refused file refusal) a b r (λ (x : 10 ≡ 1). omega arith) now (telling_of (refused file refusal) a b r is)
when_10 usage a b r is now = ten_of usage a b r (λ (x : 10 ≡ 2). omega arith) now (telling_of usage a b r is)
when_10 (cannot_read name) a b r is now = ten_of (cannot_read name) a b r (λ (x : 10 ≡ 3). omega arith) now (telling_of (cannot_read name) a b r is)
when_10 (cannot_write name) a b r is now = ten_of (cannot_write name) a b r (λ (x : 10 ≡ 4). omega arith) now (telling_of (cannot_write name) a b r is)
when_10 memory a b r is now = is.1
when_10 (told (tale.ended code)) a b r is now = ten_of (told (tale.ended code)) a b r (λ (x : 10 ≡ 0). omega arith) now (telling_of (told (tale.ended code)) a b r is)
when_10 (told (tale.undefined file line rule)) a b r is now = ten_of (told (tale.undefined file line rule)) a b r (λ (x : 10 ≡ 5). omega arith) now (telling_of (told (tale.undefined file line rule)) a b r is)
when_10 (told (tale.wrong cause)) a b r is now = ten_of (told (tale.wrong cause)) a b r (λ (x : 10 ≡ 6). omega arith) now (telling_of (told (tale.wrong cause)) a b r is)
when_10 (told (tale.steps_used steps)) a b r is now = ten_of (told (tale.steps_used steps)) a b r (λ (x : 10 ≡ 7). omega arith) now (telling_of (told (tale.steps_used steps)) a b r is)
when_10 (told (tale.store_full need left)) a b r is now = ten_of (told (tale.store_full need left)) a b r (λ (x : 10 ≡ 8). omega arith) now (telling_of (told (tale.store_full need left)) a b r is)
when_10 (told tale.host_failed) a b r is now = ten_of (told tale.host_failed) a b r (λ (x : 10 ≡ 9). omega arith) now (telling_of (told tale.host_failed) a b r is)
when_10 (told (tale.call_refused name)) a b r is now = ten_of (told (tale.call_refused name)) a b r (λ (x : 10 ≡ 13). omega arith) now (telling_of (told (tale.call_refused name)) a b r is)
when_10 (not_rust name line) a b r is now = ten_of (not_rust name line) a b r (λ (x : 10 ≡ 11). omega arith) now (telling_of (not_rust name line) a b r is)
when_10 (ill_typed name item) a b r is now = ten_of (ill_typed name item) a b r (λ (x : 10 ≡ 11). omega arith) now (telling_of (ill_typed name item) a b r is)
