-- What each status of the top call says, from how the job ended and how that was told.
use Rattle.std.proofs.Common.{◌≡◌, ◌≢◌, ◌-◌, ℕ, ℤ, ◌⊎◌, inl, inr, true, false, true≢false, List, Option, Some, None, refl, sym, ap, subst, ◌∙◌, arith}
use Rattle.cr_base.specs.declared.refusal.Refusal.{Refusal}
use Rattle.cr_base.specs.declared.rule.Rule.TheVariants.{M2}
use Rattle.cx_links.specs.Rules.{nowhere}
use Rattle.ext_calls.specs.Host.{HostState}
use Rattle.run_ends.specs.Told as tale
use Rattle.run_ends.specs.declared.end.End.{End}
use Rattle.run_ends.specs.declared.end.End.TheVariants as end
use Rattle.shelf.specs.Shelf.{ShelfState}
use Rattle.shelf.specs.Sink.{SinkState, Appended}
use Rattle.front.specs.Job.{Job, transpile, too_many, run_c, run_rust, is_run}
use Rattle.front.specs.Leaves.{Leaves}
use Rattle.front.specs.Report.{Ending, done, refused, usage, cannot_read, cannot_write, memory, told, not_rust, ill_typed, IsTold, IsReported, WriteFailed, ReportsMemory, report_of, status_of, program_report, refusal_report, usage_report, unread_report, unwritten_report}
use Rattle.front.specs.Run.{is_status, ForJob, ForRun, IsUnreadOf, NoWriteFailed, RefusedIn}
use Rattle.front.specs.Runs.{CameTo, IsToldOf, names_of, steps_of}
use Rattle.front.specs.Transpile.{IsDone, IsUnwritten}
use Rattle.front.proofs.TaleLaws.{came_ended}

four_ten : ◌≢◌ {A = ℕ} 4 10
four_ten e = omega arith

zero_four : ◌≢◌ {A = ℕ} 0 4
zero_four e = omega arith

-- ---- the statuses

reported_status : (ending : Ending) (a b : SinkState) (r : ℕ) → is_status (status_of ending) ≡ true → IsReported ending a b r → is_status r ≡ true
reported_status ending a b r own said = elim said [
  | inl w ↦ ap is_status w.0 ∙ own
  | inr other ↦ elim other [ inl f ↦ ap is_status f.0 | inr m ↦ ap is_status m.0 ]
]

pub statuses : (ending : Ending) (a b : SinkState) (r : ℕ) → IsTold ending a b r → is_status r ≡ true
statuses done a b r is = ap is_status is.0
statuses (refused file refusal) a b r is = reported_status (refused file refusal) a b r refl is
statuses usage a b r is = reported_status usage a b r refl is
statuses (cannot_read name) a b r is = reported_status (cannot_read name) a b r refl is
statuses (cannot_write name) a b r is = reported_status (cannot_write name) a b r refl is
statuses memory a b r is = ap is_status is.0
statuses (told (tale.ended code)) a b r is = reported_status (told (tale.ended code)) a b r refl is
statuses (told (tale.undefined file line rule)) a b r is = reported_status (told (tale.undefined file line rule)) a b r refl is
statuses (told (tale.wrong cause)) a b r is = reported_status (told (tale.wrong cause)) a b r refl is
statuses (told (tale.steps_used steps)) a b r is = reported_status (told (tale.steps_used steps)) a b r refl is
statuses (told (tale.store_full need left)) a b r is = reported_status (told (tale.store_full need left)) a b r refl is
statuses (told tale.host_failed) a b r is = reported_status (told tale.host_failed) a b r refl is
statuses (told (tale.call_refused name)) a b r is = reported_status (told (tale.call_refused name)) a b r refl is
statuses (not_rust name line) a b r is = reported_status (not_rust name line) a b r refl is
statuses (ill_typed name item) a b r is = reported_status (ill_typed name item) a b r refl is

-- an ending that was reported with its own status, with 4, or with 10
pub data Telling (ending : Ending) (a b : SinkState) (r : ℕ) : Type 0 where
  whole : r ≡ status_of ending → Appended (report_of ending) a.written b.written → Telling ending a b r
  failed : r ≡ 4 → WriteFailed (report_of ending) a b → Telling ending a b r
  short : r ≡ 10 → ReportsMemory a b → Telling ending a b r

pub telling_of : (ending : Ending) (a b : SinkState) (r : ℕ) → IsReported ending a b r → Telling ending a b r
telling_of ending a b r said = elim said [
  | inl w ↦ whole w.0 (let done = w.1 in done.appended)
  | inr other ↦ elim other [ inl f ↦ failed f.0 f.1 | inr m ↦ short m.0 m.1 ]
]

-- an ending that has a report, told with another status than 4 and 10
none_reported : (ending : Ending) (a b : SinkState) (r : ℕ) → IsReported ending a b r → NoWriteFailed a b r
none_reported ending a b r said four ten = elim said [
  | inl w ↦ (let done = w.1 in done.still)
  | inr other ↦ elim other [ inl f ↦ absurd (four f.0) | inr m ↦ absurd (ten m.0) ]
]

pub none_failed : (ending : Ending) (a b : SinkState) (r : ℕ) → IsTold ending a b r → NoWriteFailed a b r
none_failed done a b r is four ten = ap (λ (s : SinkState). s.faults) is.1
none_failed (refused file refusal) a b r is four ten = none_reported (refused file refusal) a b r is four ten
none_failed usage a b r is four ten = none_reported usage a b r is four ten
none_failed (cannot_read name) a b r is four ten = none_reported (cannot_read name) a b r is four ten
none_failed (cannot_write name) a b r is four ten = none_reported (cannot_write name) a b r is four ten
none_failed memory a b r is four ten = absurd (ten is.0)
none_failed (told of) a b r is four ten = none_reported (told of) a b r is four ten
none_failed (not_rust name line) a b r is four ten = none_reported (not_rust name line) a b r is four ten
none_failed (ill_typed name item) a b r is four ten = none_reported (ill_typed name item) a b r is four ten

-- a status that stands alone: it is the ending's own, or the told one is 4 or 10
only : {P : Type 0} (ending : Ending) (a b : SinkState) (r s : ℕ) → r ≡ s → s ≢ 4 → s ≢ 10 → s ≢ status_of ending → Telling ending a b r → P
only ending a b r s e four ten own (whole x y) = absurd (own (sym e ∙ x))
only ending a b r s e four ten own (failed x y) = absurd (four (sym e ∙ x))
only ending a b r s e four ten own (short x y) = absurd (ten (sym e ∙ x))

-- an ending whose status is another
pub other : {P : Type 0} (ending : Ending) (a b : SinkState) (r k : ℕ) → r ≡ k → k ≢ 4 → k ≢ 10 → k ≢ status_of ending → IsTold ending a b r → P
other done a b r k e four ten own is = absurd (own (sym e ∙ is.0))
other (refused file refusal) a b r k e four ten own is = only (refused file refusal) a b r k e four ten own (telling_of (refused file refusal) a b r is)
other usage a b r k e four ten own is = only usage a b r k e four ten own (telling_of usage a b r is)
other (cannot_read name) a b r k e four ten own is = only (cannot_read name) a b r k e four ten own (telling_of (cannot_read name) a b r is)
other (cannot_write name) a b r k e four ten own is = only (cannot_write name) a b r k e four ten own (telling_of (cannot_write name) a b r is)
other memory a b r k e four ten own is = absurd (ten (sym e ∙ is.0))
other (told of) a b r k e four ten own is = only (told of) a b r k e four ten own (telling_of (told of) a b r is)
other (not_rust name line) a b r k e four ten own is = only (not_rust name line) a b r k e four ten own (telling_of (not_rust name line) a b r is)
other (ill_typed name item) a b r k e four ten own is = only (ill_typed name item) a b r k e four ten own (telling_of (ill_typed name item) a b r is)

-- an ending that was reported with its own status
pub own_report : (ending : Ending) (a b : SinkState) (r k : ℕ) → r ≡ k → k ≢ 4 → k ≢ 10 → IsReported ending a b r → Appended (report_of ending) a.written b.written
own_report ending a b r k e four ten is = own_of (telling_of ending a b r is)
  where
    own_of : Telling ending a b r → Appended (report_of ending) a.written b.written
    own_of (whole x y) = y
    own_of (failed x y) = absurd (four (sym e ∙ x))
    own_of (short x y) = absurd (ten (sym e ∙ x))

-- status 0 of a job that runs nothing
pub when_0 : (job : Option Job) (ending : Ending) (s t : ShelfState) (u v : HostState) (a b : SinkState) (r : ℕ) → Leaves job ending s t u v → IsTold ending a b r → is_run job ≡ false → r ≡ 0 → ForJob job (λ directory names. IsDone directory names s t) × (b ≡ a)
when_0 None done s t u v a b r leaves is runs now = absurd leaves.0
when_0 (Some (transpile directory names)) done s t u v a b r leaves is runs now = (leaves.0, is.1)
when_0 (Some too_many) done s t u v a b r leaves is runs now = absurd leaves.0
when_0 (Some (run_c given order names)) done s t u v a b r leaves is runs now = absurd leaves
when_0 (Some (run_rust given directory)) done s t u v a b r leaves is runs now = absurd leaves
when_0 job (refused file refusal) s t u v a b r leaves is runs now = other (refused file refusal) a b r 0 now (λ (x : 0 ≡ 4). omega arith) (λ (x : 0 ≡ 10). omega arith) (λ (x : 0 ≡ 1). omega arith) is
when_0 job usage s t u v a b r leaves is runs now = other usage a b r 0 now (λ (x : 0 ≡ 4). omega arith) (λ (x : 0 ≡ 10). omega arith) (λ (x : 0 ≡ 2). omega arith) is
when_0 job (cannot_read name) s t u v a b r leaves is runs now = other (cannot_read name) a b r 0 now (λ (x : 0 ≡ 4). omega arith) (λ (x : 0 ≡ 10). omega arith) (λ (x : 0 ≡ 3). omega arith) is
when_0 job (cannot_write name) s t u v a b r leaves is runs now = other (cannot_write name) a b r 0 now (λ (x : 0 ≡ 4). omega arith) (λ (x : 0 ≡ 10). omega arith) (λ (x : 0 ≡ 4). omega arith) is
when_0 job memory s t u v a b r leaves is runs now = other memory a b r 0 now (λ (x : 0 ≡ 4). omega arith) (λ (x : 0 ≡ 10). omega arith) (λ (x : 0 ≡ 10). omega arith) is
when_0 None (told (tale.ended code)) s t u v a b r leaves is runs now = absurd leaves.0
when_0 (Some (transpile directory names)) (told (tale.ended code)) s t u v a b r leaves is runs now = absurd leaves.0
when_0 (Some too_many) (told (tale.ended code)) s t u v a b r leaves is runs now = absurd leaves.0
when_0 (Some (run_c given order names)) (told (tale.ended code)) s t u v a b r leaves is runs now = absurd (true≢false runs)
when_0 (Some (run_rust given directory)) (told (tale.ended code)) s t u v a b r leaves is runs now = absurd (true≢false runs)
when_0 job (told (tale.undefined file line rule)) s t u v a b r leaves is runs now = other (told (tale.undefined file line rule)) a b r 0 now (λ (x : 0 ≡ 4). omega arith) (λ (x : 0 ≡ 10). omega arith) (λ (x : 0 ≡ 5). omega arith) is
when_0 job (told (tale.wrong cause)) s t u v a b r leaves is runs now = other (told (tale.wrong cause)) a b r 0 now (λ (x : 0 ≡ 4). omega arith) (λ (x : 0 ≡ 10). omega arith) (λ (x : 0 ≡ 6). omega arith) is
when_0 job (told (tale.steps_used steps)) s t u v a b r leaves is runs now = other (told (tale.steps_used steps)) a b r 0 now (λ (x : 0 ≡ 4). omega arith) (λ (x : 0 ≡ 10). omega arith) (λ (x : 0 ≡ 7). omega arith) is
when_0 job (told (tale.store_full need left)) s t u v a b r leaves is runs now = other (told (tale.store_full need left)) a b r 0 now (λ (x : 0 ≡ 4). omega arith) (λ (x : 0 ≡ 10). omega arith) (λ (x : 0 ≡ 8). omega arith) is
when_0 job (told tale.host_failed) s t u v a b r leaves is runs now = other (told tale.host_failed) a b r 0 now (λ (x : 0 ≡ 4). omega arith) (λ (x : 0 ≡ 10). omega arith) (λ (x : 0 ≡ 9). omega arith) is
when_0 job (told (tale.call_refused name)) s t u v a b r leaves is runs now = other (told (tale.call_refused name)) a b r 0 now (λ (x : 0 ≡ 4). omega arith) (λ (x : 0 ≡ 10). omega arith) (λ (x : 0 ≡ 13). omega arith) is
when_0 job (not_rust name line) s t u v a b r leaves is runs now = other (not_rust name line) a b r 0 now (λ (x : 0 ≡ 4). omega arith) (λ (x : 0 ≡ 10). omega arith) (λ (x : 0 ≡ 11). omega arith) is
when_0 job (ill_typed name item) s t u v a b r leaves is runs now = other (ill_typed name item) a b r 0 now (λ (x : 0 ≡ 4). omega arith) (λ (x : 0 ≡ 10). omega arith) (λ (x : 0 ≡ 11). omega arith) is

-- what was reported of a run that came to an end
told_ended : (job : Job) (code : ℤ) (s t : ShelfState) (u v : HostState) (a b : SinkState) → IsToldOf job (tale.ended code) s t u v → Appended (tale.ended_report code) a.written b.written
    → (status : ℤ) × CameTo job (end.Ended status) s t u v × Appended (tale.ended_report status) a.written b.written
told_ended job code s t u v a b of report =
    (code, subst (λ (by : End). CameTo job by s t u v) (came_ended (names_of job) (steps_of job) of.end code of.tale_is) of.came, report)

-- status 0 of a job that runs a program
pub when_0_run : (job : Option Job) (ending : Ending) (s t : ShelfState) (u v : HostState) (a b : SinkState) (r : ℕ) → Leaves job ending s t u v → IsTold ending a b r → is_run job ≡ true → r ≡ 0 → ForRun job (λ one. (status : ℤ) × CameTo one (end.Ended status) s t u v × Appended (tale.ended_report status) a.written b.written)
when_0_run None done s t u v a b r leaves is runs now = absurd leaves.0
when_0_run (Some (transpile directory names)) done s t u v a b r leaves is runs now = absurd (true≢false (sym runs))
when_0_run (Some too_many) done s t u v a b r leaves is runs now = absurd leaves.0
when_0_run (Some (run_c given order names)) done s t u v a b r leaves is runs now = absurd leaves
when_0_run (Some (run_rust given directory)) done s t u v a b r leaves is runs now = absurd leaves
when_0_run job (refused file refusal) s t u v a b r leaves is runs now = other (refused file refusal) a b r 0 now (λ (x : 0 ≡ 4). omega arith) (λ (x : 0 ≡ 10). omega arith) (λ (x : 0 ≡ 1). omega arith) is
when_0_run job usage s t u v a b r leaves is runs now = other usage a b r 0 now (λ (x : 0 ≡ 4). omega arith) (λ (x : 0 ≡ 10). omega arith) (λ (x : 0 ≡ 2). omega arith) is
when_0_run job (cannot_read name) s t u v a b r leaves is runs now = other (cannot_read name) a b r 0 now (λ (x : 0 ≡ 4). omega arith) (λ (x : 0 ≡ 10). omega arith) (λ (x : 0 ≡ 3). omega arith) is
when_0_run job (cannot_write name) s t u v a b r leaves is runs now = other (cannot_write name) a b r 0 now (λ (x : 0 ≡ 4). omega arith) (λ (x : 0 ≡ 10). omega arith) (λ (x : 0 ≡ 4). omega arith) is
when_0_run job memory s t u v a b r leaves is runs now = other memory a b r 0 now (λ (x : 0 ≡ 4). omega arith) (λ (x : 0 ≡ 10). omega arith) (λ (x : 0 ≡ 10). omega arith) is
when_0_run None (told (tale.ended code)) s t u v a b r leaves is runs now = absurd leaves.0
when_0_run (Some (transpile directory names)) (told (tale.ended code)) s t u v a b r leaves is runs now = absurd leaves.0
when_0_run (Some too_many) (told (tale.ended code)) s t u v a b r leaves is runs now = absurd leaves.0
when_0_run (Some (run_c given order names)) (told (tale.ended code)) s t u v a b r leaves is runs now = told_ended (run_c given order names) code s t u v a b leaves (own_report (told (tale.ended code)) a b r 0 now (λ (x : 0 ≡ 4). omega arith) (λ (x : 0 ≡ 10). omega arith) is)
when_0_run (Some (run_rust given directory)) (told (tale.ended code)) s t u v a b r leaves is runs now = told_ended (run_rust given directory) code s t u v a b leaves (own_report (told (tale.ended code)) a b r 0 now (λ (x : 0 ≡ 4). omega arith) (λ (x : 0 ≡ 10). omega arith) is)
when_0_run job (told (tale.undefined file line rule)) s t u v a b r leaves is runs now = other (told (tale.undefined file line rule)) a b r 0 now (λ (x : 0 ≡ 4). omega arith) (λ (x : 0 ≡ 10). omega arith) (λ (x : 0 ≡ 5). omega arith) is
when_0_run job (told (tale.wrong cause)) s t u v a b r leaves is runs now = other (told (tale.wrong cause)) a b r 0 now (λ (x : 0 ≡ 4). omega arith) (λ (x : 0 ≡ 10). omega arith) (λ (x : 0 ≡ 6). omega arith) is
when_0_run job (told (tale.steps_used steps)) s t u v a b r leaves is runs now = other (told (tale.steps_used steps)) a b r 0 now (λ (x : 0 ≡ 4). omega arith) (λ (x : 0 ≡ 10). omega arith) (λ (x : 0 ≡ 7). omega arith) is
when_0_run job (told (tale.store_full need left)) s t u v a b r leaves is runs now = other (told (tale.store_full need left)) a b r 0 now (λ (x : 0 ≡ 4). omega arith) (λ (x : 0 ≡ 10). omega arith) (λ (x : 0 ≡ 8). omega arith) is
when_0_run job (told tale.host_failed) s t u v a b r leaves is runs now = other (told tale.host_failed) a b r 0 now (λ (x : 0 ≡ 4). omega arith) (λ (x : 0 ≡ 10). omega arith) (λ (x : 0 ≡ 9). omega arith) is
when_0_run job (told (tale.call_refused name)) s t u v a b r leaves is runs now = other (told (tale.call_refused name)) a b r 0 now (λ (x : 0 ≡ 4). omega arith) (λ (x : 0 ≡ 10). omega arith) (λ (x : 0 ≡ 13). omega arith) is
when_0_run job (not_rust name line) s t u v a b r leaves is runs now = other (not_rust name line) a b r 0 now (λ (x : 0 ≡ 4). omega arith) (λ (x : 0 ≡ 10). omega arith) (λ (x : 0 ≡ 11). omega arith) is
when_0_run job (ill_typed name item) s t u v a b r leaves is runs now = other (ill_typed name item) a b r 0 now (λ (x : 0 ≡ 4). omega arith) (λ (x : 0 ≡ 10). omega arith) (λ (x : 0 ≡ 11). omega arith) is

many_refused : (file : List ℕ) (refusal : Refusal) (s t : ShelfState) (a b : SinkState) → (refusal ≡ nowhere M2) × (t ≡ s)
    → Appended (refusal_report file refusal) a.written b.written → (t ≡ s) × Appended (program_report M2) a.written b.written
many_refused file refusal s t a b leaves report = (leaves.1, subst (λ (by : Refusal). Appended (refusal_report file by) a.written b.written) leaves.0 report)

-- status 1
pub when_1 : (job : Option Job) (ending : Ending) (s t : ShelfState) (u v : HostState) (a b : SinkState) (r : ℕ) → Leaves job ending s t u v → IsTold ending a b r → r ≡ 1 → RefusedIn job s t a b u v
when_1 job done s t u v a b r leaves is now = other done a b r 1 now (λ (x : 1 ≡ 4). omega arith) (λ (x : 1 ≡ 10). omega arith) (λ (x : 1 ≡ 0). omega arith) is
when_1 None (refused file refusal) s t u v a b r leaves is now = absurd leaves.0
when_1 (Some (transpile directory names)) (refused file refusal) s t u v a b r leaves is now = (file, refusal, leaves.0, own_report (refused file refusal) a b r 1 now (λ (x : 1 ≡ 4). omega arith) (λ (x : 1 ≡ 10). omega arith) is)
when_1 (Some too_many) (refused file refusal) s t u v a b r leaves is now = many_refused file refusal s t a b leaves.0 (own_report (refused file refusal) a b r 1 now (λ (x : 1 ≡ 4). omega arith) (λ (x : 1 ≡ 10). omega arith) is)
when_1 (Some (run_c given order names)) (refused file refusal) s t u v a b r leaves is now = (file, refusal, leaves, own_report (refused file refusal) a b r 1 now (λ (x : 1 ≡ 4). omega arith) (λ (x : 1 ≡ 10). omega arith) is)
when_1 (Some (run_rust given directory)) (refused file refusal) s t u v a b r leaves is now = absurd leaves
when_1 job usage s t u v a b r leaves is now = other usage a b r 1 now (λ (x : 1 ≡ 4). omega arith) (λ (x : 1 ≡ 10). omega arith) (λ (x : 1 ≡ 2). omega arith) is
when_1 job (cannot_read name) s t u v a b r leaves is now = other (cannot_read name) a b r 1 now (λ (x : 1 ≡ 4). omega arith) (λ (x : 1 ≡ 10). omega arith) (λ (x : 1 ≡ 3). omega arith) is
when_1 job (cannot_write name) s t u v a b r leaves is now = other (cannot_write name) a b r 1 now (λ (x : 1 ≡ 4). omega arith) (λ (x : 1 ≡ 10). omega arith) (λ (x : 1 ≡ 4). omega arith) is
when_1 job memory s t u v a b r leaves is now = other memory a b r 1 now (λ (x : 1 ≡ 4). omega arith) (λ (x : 1 ≡ 10). omega arith) (λ (x : 1 ≡ 10). omega arith) is
when_1 job (told (tale.ended code)) s t u v a b r leaves is now = other (told (tale.ended code)) a b r 1 now (λ (x : 1 ≡ 4). omega arith) (λ (x : 1 ≡ 10). omega arith) (λ (x : 1 ≡ 0). omega arith) is
when_1 job (told (tale.undefined file line rule)) s t u v a b r leaves is now = other (told (tale.undefined file line rule)) a b r 1 now (λ (x : 1 ≡ 4). omega arith) (λ (x : 1 ≡ 10). omega arith) (λ (x : 1 ≡ 5). omega arith) is
when_1 job (told (tale.wrong cause)) s t u v a b r leaves is now = other (told (tale.wrong cause)) a b r 1 now (λ (x : 1 ≡ 4). omega arith) (λ (x : 1 ≡ 10). omega arith) (λ (x : 1 ≡ 6). omega arith) is
when_1 job (told (tale.steps_used steps)) s t u v a b r leaves is now = other (told (tale.steps_used steps)) a b r 1 now (λ (x : 1 ≡ 4). omega arith) (λ (x : 1 ≡ 10). omega arith) (λ (x : 1 ≡ 7). omega arith) is
when_1 job (told (tale.store_full need left)) s t u v a b r leaves is now = other (told (tale.store_full need left)) a b r 1 now (λ (x : 1 ≡ 4). omega arith) (λ (x : 1 ≡ 10). omega arith) (λ (x : 1 ≡ 8). omega arith) is
when_1 job (told tale.host_failed) s t u v a b r leaves is now = other (told tale.host_failed) a b r 1 now (λ (x : 1 ≡ 4). omega arith) (λ (x : 1 ≡ 10). omega arith) (λ (x : 1 ≡ 9). omega arith) is
when_1 job (told (tale.call_refused name)) s t u v a b r leaves is now = other (told (tale.call_refused name)) a b r 1 now (λ (x : 1 ≡ 4). omega arith) (λ (x : 1 ≡ 10). omega arith) (λ (x : 1 ≡ 13). omega arith) is
when_1 job (not_rust name line) s t u v a b r leaves is now = other (not_rust name line) a b r 1 now (λ (x : 1 ≡ 4). omega arith) (λ (x : 1 ≡ 10). omega arith) (λ (x : 1 ≡ 11). omega arith) is
when_1 job (ill_typed name item) s t u v a b r leaves is now = other (ill_typed name item) a b r 1 now (λ (x : 1 ≡ 4). omega arith) (λ (x : 1 ≡ 10). omega arith) (λ (x : 1 ≡ 11). omega arith) is

-- status 2
pub when_2 : (job : Option Job) (ending : Ending) (s t : ShelfState) (u v : HostState) (a b : SinkState) (r : ℕ) → Leaves job ending s t u v → IsTold ending a b r → r ≡ 2 → (job ≡ None) × (t ≡ s) × Appended usage_report a.written b.written
when_2 job done s t u v a b r leaves is now = other done a b r 2 now (λ (x : 2 ≡ 4). omega arith) (λ (x : 2 ≡ 10). omega arith) (λ (x : 2 ≡ 0). omega arith) is
when_2 job (refused file refusal) s t u v a b r leaves is now = other (refused file refusal) a b r 2 now (λ (x : 2 ≡ 4). omega arith) (λ (x : 2 ≡ 10). omega arith) (λ (x : 2 ≡ 1). omega arith) is
when_2 None usage s t u v a b r leaves is now = (refl, leaves.0, own_report usage a b r 2 now (λ (x : 2 ≡ 4). omega arith) (λ (x : 2 ≡ 10). omega arith) is)
when_2 (Some (transpile directory names)) usage s t u v a b r leaves is now = absurd leaves.0
when_2 (Some too_many) usage s t u v a b r leaves is now = absurd leaves.0
when_2 (Some (run_c given order names)) usage s t u v a b r leaves is now = absurd leaves
when_2 (Some (run_rust given directory)) usage s t u v a b r leaves is now = absurd leaves
when_2 job (cannot_read name) s t u v a b r leaves is now = other (cannot_read name) a b r 2 now (λ (x : 2 ≡ 4). omega arith) (λ (x : 2 ≡ 10). omega arith) (λ (x : 2 ≡ 3). omega arith) is
when_2 job (cannot_write name) s t u v a b r leaves is now = other (cannot_write name) a b r 2 now (λ (x : 2 ≡ 4). omega arith) (λ (x : 2 ≡ 10). omega arith) (λ (x : 2 ≡ 4). omega arith) is
when_2 job memory s t u v a b r leaves is now = other memory a b r 2 now (λ (x : 2 ≡ 4). omega arith) (λ (x : 2 ≡ 10). omega arith) (λ (x : 2 ≡ 10). omega arith) is
when_2 job (told (tale.ended code)) s t u v a b r leaves is now = other (told (tale.ended code)) a b r 2 now (λ (x : 2 ≡ 4). omega arith) (λ (x : 2 ≡ 10). omega arith) (λ (x : 2 ≡ 0). omega arith) is
when_2 job (told (tale.undefined file line rule)) s t u v a b r leaves is now = other (told (tale.undefined file line rule)) a b r 2 now (λ (x : 2 ≡ 4). omega arith) (λ (x : 2 ≡ 10). omega arith) (λ (x : 2 ≡ 5). omega arith) is
when_2 job (told (tale.wrong cause)) s t u v a b r leaves is now = other (told (tale.wrong cause)) a b r 2 now (λ (x : 2 ≡ 4). omega arith) (λ (x : 2 ≡ 10). omega arith) (λ (x : 2 ≡ 6). omega arith) is
when_2 job (told (tale.steps_used steps)) s t u v a b r leaves is now = other (told (tale.steps_used steps)) a b r 2 now (λ (x : 2 ≡ 4). omega arith) (λ (x : 2 ≡ 10). omega arith) (λ (x : 2 ≡ 7). omega arith) is
when_2 job (told (tale.store_full need left)) s t u v a b r leaves is now = other (told (tale.store_full need left)) a b r 2 now (λ (x : 2 ≡ 4). omega arith) (λ (x : 2 ≡ 10). omega arith) (λ (x : 2 ≡ 8). omega arith) is
when_2 job (told tale.host_failed) s t u v a b r leaves is now = other (told tale.host_failed) a b r 2 now (λ (x : 2 ≡ 4). omega arith) (λ (x : 2 ≡ 10). omega arith) (λ (x : 2 ≡ 9). omega arith) is
when_2 job (told (tale.call_refused name)) s t u v a b r leaves is now = other (told (tale.call_refused name)) a b r 2 now (λ (x : 2 ≡ 4). omega arith) (λ (x : 2 ≡ 10). omega arith) (λ (x : 2 ≡ 13). omega arith) is
when_2 job (not_rust name line) s t u v a b r leaves is now = other (not_rust name line) a b r 2 now (λ (x : 2 ≡ 4). omega arith) (λ (x : 2 ≡ 10). omega arith) (λ (x : 2 ≡ 11). omega arith) is
when_2 job (ill_typed name item) s t u v a b r leaves is now = other (ill_typed name item) a b r 2 now (λ (x : 2 ≡ 4). omega arith) (λ (x : 2 ≡ 10). omega arith) (λ (x : 2 ≡ 11). omega arith) is

-- status 3
pub when_3 : (job : Option Job) (ending : Ending) (s t : ShelfState) (u v : HostState) (a b : SinkState) (r : ℕ) → Leaves job ending s t u v → IsTold ending a b r → r ≡ 3 → (name : List ℕ) × IsUnreadOf job name s t u v × Appended (unread_report name) a.written b.written
when_3 job done s t u v a b r leaves is now = other done a b r 3 now (λ (x : 3 ≡ 4). omega arith) (λ (x : 3 ≡ 10). omega arith) (λ (x : 3 ≡ 0). omega arith) is
when_3 job (refused file refusal) s t u v a b r leaves is now = other (refused file refusal) a b r 3 now (λ (x : 3 ≡ 4). omega arith) (λ (x : 3 ≡ 10). omega arith) (λ (x : 3 ≡ 1). omega arith) is
when_3 job usage s t u v a b r leaves is now = other usage a b r 3 now (λ (x : 3 ≡ 4). omega arith) (λ (x : 3 ≡ 10). omega arith) (λ (x : 3 ≡ 2). omega arith) is
when_3 None (cannot_read name) s t u v a b r leaves is now = absurd leaves.0
when_3 (Some (transpile directory names)) (cannot_read name) s t u v a b r leaves is now = (name, leaves.0, own_report (cannot_read name) a b r 3 now (λ (x : 3 ≡ 4). omega arith) (λ (x : 3 ≡ 10). omega arith) is)
when_3 (Some too_many) (cannot_read name) s t u v a b r leaves is now = absurd leaves.0
when_3 (Some (run_c given order names)) (cannot_read name) s t u v a b r leaves is now = (name, leaves, own_report (cannot_read name) a b r 3 now (λ (x : 3 ≡ 4). omega arith) (λ (x : 3 ≡ 10). omega arith) is)
when_3 (Some (run_rust given directory)) (cannot_read name) s t u v a b r leaves is now = (name, leaves, own_report (cannot_read name) a b r 3 now (λ (x : 3 ≡ 4). omega arith) (λ (x : 3 ≡ 10). omega arith) is)
when_3 job (cannot_write name) s t u v a b r leaves is now = other (cannot_write name) a b r 3 now (λ (x : 3 ≡ 4). omega arith) (λ (x : 3 ≡ 10). omega arith) (λ (x : 3 ≡ 4). omega arith) is
when_3 job memory s t u v a b r leaves is now = other memory a b r 3 now (λ (x : 3 ≡ 4). omega arith) (λ (x : 3 ≡ 10). omega arith) (λ (x : 3 ≡ 10). omega arith) is
when_3 job (told (tale.ended code)) s t u v a b r leaves is now = other (told (tale.ended code)) a b r 3 now (λ (x : 3 ≡ 4). omega arith) (λ (x : 3 ≡ 10). omega arith) (λ (x : 3 ≡ 0). omega arith) is
when_3 job (told (tale.undefined file line rule)) s t u v a b r leaves is now = other (told (tale.undefined file line rule)) a b r 3 now (λ (x : 3 ≡ 4). omega arith) (λ (x : 3 ≡ 10). omega arith) (λ (x : 3 ≡ 5). omega arith) is
when_3 job (told (tale.wrong cause)) s t u v a b r leaves is now = other (told (tale.wrong cause)) a b r 3 now (λ (x : 3 ≡ 4). omega arith) (λ (x : 3 ≡ 10). omega arith) (λ (x : 3 ≡ 6). omega arith) is
when_3 job (told (tale.steps_used steps)) s t u v a b r leaves is now = other (told (tale.steps_used steps)) a b r 3 now (λ (x : 3 ≡ 4). omega arith) (λ (x : 3 ≡ 10). omega arith) (λ (x : 3 ≡ 7). omega arith) is
when_3 job (told (tale.store_full need left)) s t u v a b r leaves is now = other (told (tale.store_full need left)) a b r 3 now (λ (x : 3 ≡ 4). omega arith) (λ (x : 3 ≡ 10). omega arith) (λ (x : 3 ≡ 8). omega arith) is
when_3 job (told tale.host_failed) s t u v a b r leaves is now = other (told tale.host_failed) a b r 3 now (λ (x : 3 ≡ 4). omega arith) (λ (x : 3 ≡ 10). omega arith) (λ (x : 3 ≡ 9). omega arith) is
when_3 job (told (tale.call_refused name)) s t u v a b r leaves is now = other (told (tale.call_refused name)) a b r 3 now (λ (x : 3 ≡ 4). omega arith) (λ (x : 3 ≡ 10). omega arith) (λ (x : 3 ≡ 13). omega arith) is
when_3 job (not_rust name line) s t u v a b r leaves is now = other (not_rust name line) a b r 3 now (λ (x : 3 ≡ 4). omega arith) (λ (x : 3 ≡ 10). omega arith) (λ (x : 3 ≡ 11). omega arith) is
when_3 job (ill_typed name item) s t u v a b r leaves is now = other (ill_typed name item) a b r 3 now (λ (x : 3 ≡ 4). omega arith) (λ (x : 3 ≡ 10). omega arith) (λ (x : 3 ≡ 11). omega arith) is

-- status 4
abbrev pub Four : Option Job → ShelfState → ShelfState → HostState → HostState → SinkState → SinkState → Type 0
Four job s t u v a b =
    ForJob job (λ directory names. (name : List ℕ) × IsUnwritten directory names name s t × Appended (unwritten_report name) a.written b.written)
    ⊎ ((ending : Ending) × Leaves job ending s t u v × WriteFailed (report_of ending) a b)

four_failed : (job : Option Job) (ending : Ending) (s t : ShelfState) (u v : HostState) (a b : SinkState) (r : ℕ) → Leaves job ending s t u v → r ≡ 4 → 4 ≢ status_of ending → Telling ending a b r → Four job s t u v a b
four_failed job ending s t u v a b r leaves is own (whole x y) = absurd (own (sym is ∙ x))
four_failed job ending s t u v a b r leaves is own (failed x y) = inr (ending, leaves, y)
four_failed job ending s t u v a b r leaves is own (short x y) = absurd (four_ten (sym is ∙ x))

four_written : (directory : List ℕ) (names : List (List ℕ)) (name : List ℕ) (s t : ShelfState) (u v : HostState) (a b : SinkState) (r : ℕ) → Leaves (Some (transpile directory names)) (cannot_write name) s t u v → r ≡ 4
    → Telling (cannot_write name) a b r → Four (Some (transpile directory names)) s t u v a b
four_written directory names name s t u v a b r leaves is (whole x y) = inl (name, leaves.0, y)
four_written directory names name s t u v a b r leaves is (failed x y) = inr (cannot_write name, leaves, y)
four_written directory names name s t u v a b r leaves is (short x y) = absurd (four_ten (sym is ∙ x))

pub when_4 : (job : Option Job) (ending : Ending) (s t : ShelfState) (u v : HostState) (a b : SinkState) (r : ℕ) → Leaves job ending s t u v → IsTold ending a b r → r ≡ 4 → Four job s t u v a b
when_4 job done s t u v a b r leaves is now = absurd (zero_four (sym is.0 ∙ now))
when_4 job (refused file refusal) s t u v a b r leaves is now = four_failed job (refused file refusal) s t u v a b r leaves now (λ (x : 4 ≡ 1). omega arith) (telling_of (refused file refusal) a b r is)
when_4 job usage s t u v a b r leaves is now = four_failed job usage s t u v a b r leaves now (λ (x : 4 ≡ 2). omega arith) (telling_of usage a b r is)
when_4 job (cannot_read name) s t u v a b r leaves is now = four_failed job (cannot_read name) s t u v a b r leaves now (λ (x : 4 ≡ 3). omega arith) (telling_of (cannot_read name) a b r is)
when_4 None (cannot_write name) s t u v a b r leaves is now = absurd leaves.0
when_4 (Some (transpile directory names)) (cannot_write name) s t u v a b r leaves is now = four_written directory names name s t u v a b r leaves now (telling_of (cannot_write name) a b r is)
when_4 (Some too_many) (cannot_write name) s t u v a b r leaves is now = absurd leaves.0
when_4 (Some (run_c given order names)) (cannot_write name) s t u v a b r leaves is now = absurd leaves
when_4 (Some (run_rust given directory)) (cannot_write name) s t u v a b r leaves is now = absurd leaves
when_4 job memory s t u v a b r leaves is now = absurd (four_ten (sym now ∙ is.0))
when_4 job (told (tale.ended code)) s t u v a b r leaves is now = four_failed job (told (tale.ended code)) s t u v a b r leaves now (λ (x : 4 ≡ 0). omega arith) (telling_of (told (tale.ended code)) a b r is)
when_4 job (told (tale.undefined file line rule)) s t u v a b r leaves is now = four_failed job (told (tale.undefined file line rule)) s t u v a b r leaves now (λ (x : 4 ≡ 5). omega arith) (telling_of (told (tale.undefined file line rule)) a b r is)
when_4 job (told (tale.wrong cause)) s t u v a b r leaves is now = four_failed job (told (tale.wrong cause)) s t u v a b r leaves now (λ (x : 4 ≡ 6). omega arith) (telling_of (told (tale.wrong cause)) a b r is)
when_4 job (told (tale.steps_used steps)) s t u v a b r leaves is now = four_failed job (told (tale.steps_used steps)) s t u v a b r leaves now (λ (x : 4 ≡ 7). omega arith) (telling_of (told (tale.steps_used steps)) a b r is)
when_4 job (told (tale.store_full need left)) s t u v a b r leaves is now = four_failed job (told (tale.store_full need left)) s t u v a b r leaves now (λ (x : 4 ≡ 8). omega arith) (telling_of (told (tale.store_full need left)) a b r is)
when_4 job (told tale.host_failed) s t u v a b r leaves is now = four_failed job (told tale.host_failed) s t u v a b r leaves now (λ (x : 4 ≡ 9). omega arith) (telling_of (told tale.host_failed) a b r is)
when_4 job (told (tale.call_refused name)) s t u v a b r leaves is now = four_failed job (told (tale.call_refused name)) s t u v a b r leaves now (λ (x : 4 ≡ 13). omega arith) (telling_of (told (tale.call_refused name)) a b r is)
when_4 job (not_rust name line) s t u v a b r leaves is now = four_failed job (not_rust name line) s t u v a b r leaves now (λ (x : 4 ≡ 11). omega arith) (telling_of (not_rust name line) a b r is)
when_4 job (ill_typed name item) s t u v a b r leaves is now = four_failed job (ill_typed name item) s t u v a b r leaves now (λ (x : 4 ≡ 11). omega arith) (telling_of (ill_typed name item) a b r is)
