-- What the top call answers, and what it leaves: one word for each status, one for each cause.
use Rattle.std.specs.Prelude.{◌≡◌, ◌≢◌, ℕ, ◌==◌, ◌<◌, ◌||◌, ℤ, Bool, false, true, if◌then◌else◌, ◌⊎◌, List, [], length, Option, Some, None, bytes_eq}
use Rattle.std.specs.List.{list_any}
use Rattle.cr_base.specs.Count.{Rose}
use Rattle.cr_base.specs.declared.refusal.Refusal.{Refusal}
use Rattle.cr_base.specs.declared.rule.Rule.TheVariants.{M2}
use Rattle.cr_base.specs.declared.rule.URule.{URule}
use Rattle.ext_calls.specs.declared.call.Call.{Call}
use Rattle.ext_calls.specs.Host.{HostState}
use Rattle.rs_mean.specs.declared.cause.Cause.{Cause}
use Rattle.run_ends.specs.declared.end.End.TheVariants.{Ended, Undefined, Wrong, StepsUsed, CallRefused, HostFailed}
use Rattle.run_ends.specs.Runs.{Meaning, MayAnswer, Progress}
use Rattle.run_ends.specs.Runs as progress
use Rattle.run_ends.specs.Told.{name_at, ended_report, undefined_report, wrong_report, steps_report, failed_report, refused_report}
use Rattle.shelf.specs.declared.file.File.{File}
use Rattle.shelf.specs.Shelf.{ShelfState}
use Rattle.shelf.specs.Sink.{SinkState, Appended}
use Rattle.straight_core.specs.Trees.{CProgram}
use Rattle.front.specs.Crates.{AreHeldIn, IllTypedBy, IsNext, NotRustBy, most_file_bytes}
use Rattle.front.specs.Files.{Held, WhereTold, name_in, units_of, written_names}
use Rattle.front.specs.Job.{Job, transpile, too_many, run_c, run_rust, job_of}
use Rattle.front.specs.Leaves.{Leaves}
use Rattle.front.specs.Refusals.{BreaksProfile, FirstBroken, CoreOf}
use Rattle.front.specs.Report.{Ending, IsTold, WriteFailed, ReportsMemory, report_of, program_report, refusal_report, usage_report, unread_report, unwritten_report, not_rust_report, ill_typed_report}
use Rattle.front.specs.Runs.{CameTo, IsIllTyped, IsNotRust, IsRefusedRun, IsUnreadFile, JobMeans, names_of, steps_of}
use Rattle.front.specs.Transpile.{IsDone, IsRefused, IsUnread, IsUnwritten}

-- the exit statuses
abbrev pub is_status : ℕ → Bool
is_status status =
    status == 0 || status == 1 || status == 2 || status == 3 || status == 4 || status == 5 || status == 6 || status == 7 || status == 8
    || status == 9 || status == 10 || status == 11 || status == 13

-- ---- jobs

-- the words are the job to translate one to 64 units, and P holds of its directory and its files
abbrev pub ForJob : Option Job → (List ℕ → List (List ℕ) → Type 0) → Type 0
ForJob None P = ⊥
ForJob (Some (transpile directory names)) P = P directory names
ForJob (Some too_many) P = ⊥
ForJob (Some (run_c steps order names)) P = ⊥
ForJob (Some (run_rust steps directory)) P = ⊥

-- the words are the job to run a program, and P holds of it
abbrev pub ForRun : Option Job → (Job → Type 0) → Type 0
ForRun None P = ⊥
ForRun (Some (transpile directory names)) P = ⊥
ForRun (Some too_many) P = ⊥
ForRun (Some (run_c steps order names)) P = P (run_c steps order names)
ForRun (Some (run_rust steps directory)) P = P (run_rust steps directory)

-- the words are the job to run one to 64 units, and P holds of the job
abbrev pub ForUnits : Option Job → (Job → Type 0) → Type 0
ForUnits None P = ⊥
ForUnits (Some (transpile directory names)) P = ⊥
ForUnits (Some too_many) P = ⊥
ForUnits (Some (run_c steps order names)) P = P (run_c steps order names)
ForUnits (Some (run_rust steps directory)) P = ⊥

-- the words are the job to run the crate under a directory, and P holds of the job and of the directory
abbrev pub ForCrate : Option Job → (Job → List ℕ → Type 0) → Type 0
ForCrate None P = ⊥
ForCrate (Some (transpile directory names)) P = ⊥
ForCrate (Some too_many) P = ⊥
ForCrate (Some (run_c steps order names)) P = ⊥
ForCrate (Some (run_rust steps directory)) P = P (run_rust steps directory) directory

-- the job came to an ending: the shelf and the host are left as this ending says, and it was told
abbrev pub Ran : List (List ℕ) → ShelfState → ShelfState → SinkState → SinkState → HostState → HostState → ℕ → Type 0
Ran words before after unwritten written host later status =
    (ending : Ending) × Leaves (job_of words) ending before after host later × IsTold ending unwritten written status

-- ---- what each status says

-- status 0 of a job that runs nothing: the files of a right translation were put, every other name holds what it held, and nothing was
-- reported
abbrev pub Translated : List (List ℕ) → ShelfState → ShelfState → SinkState → SinkState → Type 0
Translated words before after unwritten written =
    ForJob (job_of words) (λ directory names. IsDone directory names before after) × (written ≡ unwritten)

-- status 0 of a job that runs a program: the run ended with the status that is reported
abbrev pub EndedRun : List (List ℕ) → ShelfState → ShelfState → SinkState → SinkState → HostState → HostState → Type 0
EndedRun words before after unwritten written host later = ForRun (job_of words) (λ job.
    (status : ℤ) × CameTo job (Ended status) before after host later × Appended (ended_report status) unwritten.written written.written)

-- what is reported where units are refused, and what stays
abbrev pub RefusedIn : Option Job → ShelfState → ShelfState → SinkState → SinkState → HostState → HostState → Type 0
RefusedIn None before after unwritten written host later = ⊥
RefusedIn (Some (transpile directory names)) before after unwritten written host later =
    (file : List ℕ) × (refusal : Refusal) × IsRefused names file refusal before after
    × Appended (refusal_report file refusal) unwritten.written written.written
RefusedIn (Some too_many) before after unwritten written host later =
    (after ≡ before) × Appended (program_report M2) unwritten.written written.written
RefusedIn (Some (run_c steps order names)) before after unwritten written host later =
    (file : List ℕ) × (refusal : Refusal) × IsRefusedRun names file refusal before after host later
    × Appended (refusal_report file refusal) unwritten.written written.written
RefusedIn (Some (run_rust steps directory)) before after unwritten written host later = ⊥

-- status 1: the report names the first rule that the units break, or M2 where there are more than 64, and none is got then; nothing was
-- put
abbrev pub RefusedUnits : List (List ℕ) → ShelfState → ShelfState → SinkState → SinkState → HostState → HostState → Type 0
RefusedUnits words before after unwritten written host later = RefusedIn (job_of words) before after unwritten written host later

-- status 2: the words are no job, and nothing was done
abbrev pub RefusedWords : List (List ℕ) → ShelfState → ShelfState → SinkState → SinkState → Type 0
RefusedWords words before after unwritten written =
    (job_of words ≡ None) × (after ≡ before) × Appended usage_report unwritten.written written.written

-- a file of a job couldn't be read
abbrev pub IsUnreadOf : Option Job → (name : List ℕ) → ShelfState → ShelfState → HostState → HostState → Type 0
IsUnreadOf None name before after host later = ⊥
IsUnreadOf (Some (transpile directory names)) name before after host later = IsUnread names name before after
IsUnreadOf (Some too_many) name before after host later = ⊥
IsUnreadOf (Some (run_c steps order names)) name before after host later = IsUnread names name before after × (later ≡ host)
IsUnreadOf (Some (run_rust steps directory)) name before after host later = IsUnreadFile directory name before after host later

-- status 3: the shelf's count of faults rose in a `get` of the reported file, or that is a file of a crate and too large; nothing was put
abbrev pub CannotRead : List (List ℕ) → ShelfState → ShelfState → SinkState → SinkState → HostState → HostState → Type 0
CannotRead words before after unwritten written host later =
    (name : List ℕ) × IsUnreadOf (job_of words) name before after host later × Appended (unread_report name) unwritten.written written.written

-- a write of the report failed: a part of the report of the ending was written
abbrev pub Unreported : List (List ℕ) → ShelfState → ShelfState → SinkState → SinkState → HostState → HostState → Type 0
Unreported words before after unwritten written host later =
    (ending : Ending) × Leaves (job_of words) ending before after host later × WriteFailed (report_of ending) unwritten written

-- status 4: the shelf's count of faults rose in a `put` of the reported file, or a write of the report failed
abbrev pub CannotWrite : List (List ℕ) → ShelfState → ShelfState → SinkState → SinkState → HostState → HostState → Type 0
CannotWrite words before after unwritten written host later =
    ForJob (job_of words) (λ directory names. (name : List ℕ) × IsUnwritten directory names name before after
    × Appended (unwritten_report name) unwritten.written written.written)
    ⊎ Unreported words before after unwritten written host later

-- status 5: the run of units is undefined by the reported rule, at the reported line of a unit
abbrev pub UndefinedRun : List (List ℕ) → ShelfState → ShelfState → SinkState → SinkState → HostState → HostState → Type 0
UndefinedRun words before after unwritten written host later = ForUnits (job_of words) (λ job.
    (rule : URule) × (unit : ℕ) × (line : ℕ) × CameTo job (Undefined rule unit line) before after host later
    × Appended (undefined_report (name_at (names_of job) unit) line rule) unwritten.written written.written)

-- status 6: the run of a crate is wrong by the reported cause
abbrev pub WrongRun : List (List ℕ) → ShelfState → ShelfState → SinkState → SinkState → HostState → HostState → Type 0
WrongRun words before after unwritten written host later = ForCrate (job_of words) (λ job directory.
    (cause : Cause) × CameTo job (Wrong cause) before after host later × Appended (wrong_report cause) unwritten.written written.written)

-- status 7: the run goes on after the steps or units that it was given, which are reported
abbrev pub StepsWereUsed : List (List ℕ) → ShelfState → ShelfState → SinkState → SinkState → HostState → HostState → Type 0
StepsWereUsed words before after unwritten written host later = ForRun (job_of words) (λ job.
    CameTo job StepsUsed before after host later × Appended (steps_report (steps_of job)) unwritten.written written.written)

-- status 9: the host's count of faults rose at one more call that it takes
abbrev pub HostHasFailed : List (List ℕ) → ShelfState → ShelfState → SinkState → SinkState → HostState → HostState → Type 0
HostHasFailed words before after unwritten written host later = ForRun (job_of words) (λ job.
    CameTo job HostFailed before after host later × Appended failed_report unwritten.written written.written)

-- status 10: memory ran out, and the shelf is left as some ending says
abbrev pub OutOfMemory : List (List ℕ) → ShelfState → ShelfState → SinkState → SinkState → HostState → HostState → Type 0
OutOfMemory words before after unwritten written host later =
    ((ending : Ending) × Leaves (job_of words) ending before after host later) × ReportsMemory unwritten written

-- status 11: the files of a crate are none of the subset, or it isn't well typed
abbrev pub NotCrate : List (List ℕ) → ShelfState → ShelfState → SinkState → SinkState → HostState → HostState → Type 0
NotCrate words before after unwritten written host later = ForCrate (job_of words) (λ job directory.
    ((name : List ℕ) × (line : ℕ) × IsNotRust directory name before after host later
    × Appended (not_rust_report name line) unwritten.written written.written)
    ⊎ ((name : List ℕ) × (item : ℕ) × IsIllTyped directory name item before after host later
    × Appended (ill_typed_report name item) unwritten.written written.written))

-- status 13: the run comes to a call that the host doesn't take, whose function is reported
abbrev pub CallWasRefused : List (List ℕ) → ShelfState → ShelfState → SinkState → SinkState → HostState → HostState → Type 0
CallWasRefused words before after unwritten written host later = ForRun (job_of words) (λ job.
    (name : List ℕ) × CameTo job (CallRefused name) before after host later × Appended (refused_report name) unwritten.written written.written)

-- a status other than 4 and 10 says that no write of the report failed
abbrev pub NoWriteFailed : SinkState → SinkState → ℕ → Type 0
NoWriteFailed unwritten written status = (status ≢ 4) → (status ≢ 10) → written.faults ≡ unwritten.faults

-- ---- when each status comes

-- what every status yields to: want of memory, and a failed write of the report
abbrev pub Yields : SinkState → SinkState → ℕ → Type 0
Yields unwritten written status = (status ≡ 10) ⊎ ((status ≡ 4) × Rose unwritten.faults written.faults)

-- the same, and a `get` that failed
abbrev pub YieldsToGet : ShelfState → ShelfState → SinkState → SinkState → ℕ → Type 0
YieldsToGet before after unwritten written status = Yields unwritten written status ⊎ ((status ≡ 3) × Rose before.faults after.faults)

-- the same, and a call at which the host failed
abbrev pub YieldsToRun : ShelfState → ShelfState → SinkState → SinkState → HostState → HostState → ℕ → Type 0
YieldsToRun before after unwritten written host later status =
    YieldsToGet before after unwritten written status ⊎ ((status ≡ 9) × Rose host.faults later.faults)

-- the shelf tells what it holds, and P holds of that
abbrev pub Holds : ShelfState → ((List ℕ → Option (List ℕ)) → Type 0) → Type 0
Holds before P = (held : List ℕ → Option (List ℕ)) × (before.held ≡ Some held) × P held

-- the shelf tells what it holds, the words are the job to translate, and these are the units that it holds for the job's files
abbrev pub HoldsUnits : List (List ℕ) → ShelfState → List File → Type 0
HoldsUnits words before units = ForJob (job_of words) (λ directory names.
    (held : List ℕ → Option (List ℕ)) × (before.held ≡ Some held) × (units_of held names ≡ Some units))

-- the units that are held for a job break a rule; N1 stops translations alone
abbrev pub BreaksIn : Option Job → ShelfState → Type 0
BreaksIn None before = ⊥
BreaksIn (Some (transpile directory names)) before = Holds before (λ held.
    (units : List File) × (refusal : Refusal) × (units_of held names ≡ Some units) × FirstBroken units refusal)
BreaksIn (Some too_many) before = ⊥
BreaksIn (Some (run_c steps order names)) before = Holds before (λ held.
    (units : List File) × (refusal : Refusal) × (units_of held names ≡ Some units) × BreaksProfile units refusal)
BreaksIn (Some (run_rust steps directory)) before = ⊥

-- the units that are held break a rule
abbrev pub BreaksRule : List (List ℕ) → ShelfState → Type 0
BreaksRule words before = BreaksIn (job_of words) before

-- the units that are held break no rule, and are translated
abbrev pub BreaksNone : List (List ℕ) → ShelfState → Type 0
BreaksNone words before = (units : List File) × (program : CProgram) × HoldsUnits words before units × CoreOf units program

-- a file has more bytes than a file of a crate may have
abbrev pub IsTooLarge : Option (List ℕ) → Type 0
IsTooLarge None = ⊥
IsTooLarge (Some bytes) = most_file_bytes < length bytes

-- behind files that are held, the next file of a crate isn't held, or is too large
abbrev pub LacksNext : (List ℕ → Option (List ℕ)) → (directory : List ℕ) → Type 0
LacksNext held directory = (files : List File) × (path : List ℕ) × AreHeldIn held directory files × IsNext files path
    × ((held (name_in directory path) ≡ None) ⊎ IsTooLarge (held (name_in directory path)))

-- a file of the crate under the directory of the words' job is too large, behind files that are held
abbrev pub ReadsTooLarge : List (List ℕ) → ShelfState → Type 0
ReadsTooLarge words before = ForCrate (job_of words) (λ job directory. Holds before (λ held.
    (files : List File) × (path : List ℕ) × AreHeldIn held directory files × IsNext files path × IsTooLarge (held (name_in directory path))))

-- one of the files of a job isn't held, or is a file of a crate and too large
abbrev pub LacksIn : Option Job → ShelfState → Type 0
LacksIn None before = ⊥
LacksIn (Some (transpile directory names)) before = Holds before (λ held. units_of held names ≡ None)
LacksIn (Some too_many) before = ⊥
LacksIn (Some (run_c steps order names)) before = Holds before (λ held. units_of held names ≡ None)
LacksIn (Some (run_rust steps directory)) before = Holds before (λ held. LacksNext held directory)

-- one of the files of the words' job isn't held, or is too large
abbrev pub LacksFile : List (List ℕ) → ShelfState → Type 0
LacksFile words before = LacksIn (job_of words) before

-- the files that are held under the directory of the words' job are no crate of the subset, or a crate that isn't well typed
abbrev pub HoldsNoCrate : List (List ℕ) → ShelfState → Type 0
HoldsNoCrate words before = ForCrate (job_of words) (λ job directory. Holds before (λ held.
    (files : List File) × AreHeldIn held directory files
    × (((path : List ℕ) × NotRustBy files path) ⊎ ((name : List ℕ) × (item : ℕ) × IllTypedBy files name item))))

-- the status of a run that comes so far, where a host takes these calls. That of a run that goes astray says nothing: it is the one to which
-- every clause yields.
abbrev pub status_at : (takes : Call → Bool) → Progress → ℕ
status_at takes progress.going = 7
status_at takes (progress.ended status) = 0
status_at takes (progress.undefined rule unit line) = 5
status_at takes (progress.wrong cause) = 6
status_at takes (progress.full need left) = 8
status_at takes (progress.asks_for call) = if takes call then 9 else 13
status_at takes progress.astray = 10

-- a run comes to a status under every trail that a host may answer, up to one more call that the host takes. A trail with another answer to
-- an allocation than the store's, or with none, leads astray: no run is answered so, and nothing is asked of it.
abbrev pub AlwaysComesTo : Meaning → HostState → (status : ℕ) → Type 0
AlwaysComesTo meaning host status = (trail : List ℤ) → MayAnswer host (meaning trail) → ((meaning trail).progress ≡ progress.astray → ⊥) →
    (status_at host.takes (meaning trail).progress ≡ status) ⊎ (status_at host.takes (meaning trail).progress ≡ 9)

-- the words are the job to run a program, which is held, and its run always comes to a status
abbrev pub ComesTo : List (List ℕ) → ShelfState → HostState → (status : ℕ) → Type 0
ComesTo words before host status = ForRun (job_of words) (λ job. Holds before (λ held.
    (meaning : Meaning) × JobMeans held job meaning × AlwaysComesTo meaning host status))

-- ---- what stays

-- the names that a job writes
abbrev pub names_written : Option Job → List (List ℕ)
names_written None = []
names_written (Some (transpile directory names)) = written_names directory names
names_written (Some too_many) = []
names_written (Some (run_c steps order names)) = []
names_written (Some (run_rust steps directory)) = []

-- the job is to translate or run more than 64 units
abbrev pub is_too_many : Option Job → Bool
is_too_many (Some too_many) = true
is_too_many (Some (transpile directory names)) = false
is_too_many (Some (run_c steps order names)) = false
is_too_many (Some (run_rust steps directory)) = false
is_too_many None = false

-- what is held under a name, where that is told
abbrev pub held_under : List ℕ → Held → Option (List ℕ)
held_under asked None = None
held_under asked (Some held) = held asked

-- where the shelf tells what it holds, every name that the job doesn't write holds what it held
abbrev pub KeepsOthers : List (List ℕ) → ShelfState → ShelfState → Type 0
KeepsOthers words before after = WhereTold before.held (λ held.
    (asked : List ℕ) → list_any (λ name. bytes_eq name asked) (names_written (job_of words)) ≡ false →
    held_under asked after.held ≡ held asked)
