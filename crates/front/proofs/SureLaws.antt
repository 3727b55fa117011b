-- The top call over what never fails.
use Rattle.std.proofs.Common.{◌≡◌, ◌≤◌, ◌<◌, ◌+◌, ◌-◌, ◌^◌, min, ℕ, inl, inr, true, false, true≢false, List, length, Option, Some, None, sym, subst, ◌∙◌, arith}
use Rattle.cr_base.specs.Count.{Rose}
use Rattle.ext_calls.specs.declared.call.Call.{Call}
use Rattle.ext_calls.specs.Host.{HostState}
use Rattle.run_ends.specs.Runs.{IsRun, Meaning}
use Rattle.run_ends.specs.Told.{failed_report, refused_report}
use Rattle.run_ends.specs.declared.end.End.TheVariants.{CallRefused, HostFailed}
use Rattle.shelf.specs.Shelf.{ShelfState}
use Rattle.shelf.specs.Sink.{SinkState, Appended}
use Rattle.front.specs.Crates.{AreHeldIn, IsNext, most_file_bytes}
use Rattle.front.specs.Job.{Job, transpile, too_many, run_c, run_rust, job_of}
use Rattle.front.specs.Report.{unwritten_report}
use Rattle.front.specs.Run.{CannotWrite, ForCrate, ForJob, ForRun, Holds, IsTooLarge, IsUnreadOf}
use Rattle.front.specs.Runs.{CameTo, IsUnreadFile, JobMeans}
use Rattle.front.specs.Files.{name_in}
use Rattle.front.specs.Transpile.{IsUnwritten}
use Rattle.front.proofs.MeaningLaws.{told_by}
use Rattle.shelf.specs.declared.file.File.{File}

-- a count that is 0 before and after didn't rise
never_rose : {P : Type 0} (before now : ℕ) → before ≡ 0 → now ≡ 0 → Rose before now → P
never_rose before now e d rose =
    let least : 1 ≤ 0 = subst (λ (n : ℕ). min (0 + 1) (2 ^ 64 - 1) ≤ n) d (subst (λ (n : ℕ). min (n + 1) (2 ^ 64 - 1) ≤ now) e rose) in
    absurd (no_less least)
  where
    no_less : 1 ≤ 0 → ⊥
    no_less least = omega (arith, least)

-- a file that is too large, behind files that are held
abbrev pub LargeIn : Option Job → ShelfState → Type 0
LargeIn job s = ForCrate job (λ one directory. Holds s (λ held.
    (files : List File) × (path : List ℕ) × AreHeldIn held directory files × IsNext files path × IsTooLarge (held (name_in directory path))))

large_file : (directory name : List ℕ) (s t : ShelfState) (u v : HostState) (held : List ℕ → Option (List ℕ)) → s.held ≡ Some held → s.faults ≡ 0 → t.faults ≡ 0 → IsUnreadFile directory name s t u v
    → Holds s (λ held. (files : List File) × (path : List ℕ) × AreHeldIn held directory files × IsNext files path × IsTooLarge (held (name_in directory path)))
large_file directory name s t u v held told e d unread = elim unread.why [
  | inl faulty ↦ never_rose s.faults t.faults e d faulty.0
  | inr large ↦
      let more = told_by (λ held. (bytes : List ℕ) × (held name ≡ Some bytes) × (most_file_bytes < length bytes)) s.held held told large.1 in
      let here = told_by (λ held. AreHeldIn held directory unread.files) s.held held told unread.here in
      (held, told, (unread.files, unread.path, here, unread.next, subst (λ (n : List ℕ). IsTooLarge (held n)) unread.name_is (subst IsTooLarge (sym more.1) more.2)))
]

pub only_large : (job : Option Job) (name : List ℕ) (s t : ShelfState) (u v : HostState) (held : List ℕ → Option (List ℕ)) → s.held ≡ Some held → s.faults ≡ 0 → t.faults ≡ 0 → IsUnreadOf job name s t u v → LargeIn job s
only_large None name s t u v held told e d unread = absurd unread
only_large (Some (transpile directory names)) name s t u v held told e d unread = never_rose s.faults t.faults e d unread.rose
only_large (Some too_many) name s t u v held told e d unread = absurd unread
only_large (Some (run_c steps order names)) name s t u v held told e d unread = never_rose s.faults t.faults e d unread.0.rose
only_large (Some (run_rust steps directory)) name s t u v held told e d unread = large_file directory name s t u v held told e d unread

unwritten_never : (job : Option Job) (s t : ShelfState) (a b : SinkState) → s.faults ≡ 0 → t.faults ≡ 0 →
    ForJob job (λ directory names. (name : List ℕ) × IsUnwritten directory names name s t × Appended (unwritten_report name) a.written b.written) → ⊥
unwritten_never None s t a b e d why = why
unwritten_never (Some (transpile directory names)) s t a b e d why = never_rose s.faults t.faults e d why.1.rose
unwritten_never (Some too_many) s t a b e d why = why
unwritten_never (Some (run_c steps order names)) s t a b e d why = why
unwritten_never (Some (run_rust steps directory)) s t a b e d why = why

pub never_4 : (words : List (List ℕ)) (s t : ShelfState) (u v : HostState) (a b : SinkState) → s.faults ≡ 0 → t.faults ≡ 0 → a.faults ≡ 0 → b.faults ≡ 0 → CannotWrite words s t a b u v → ⊥
never_4 words s t u v a b e d x y why = elim why [
  | inl unwritten ↦ unwritten_never (job_of words) s t a b e d unwritten
  | inr told ↦ never_rose a.faults b.faults x y told.2.rose
]

pub never_9 : (job : Option Job) (s t : ShelfState) (u v : HostState) (a b : Option (List ℕ)) → u.faults ≡ 0 → v.faults ≡ 0 → ForRun job (λ one. CameTo one HostFailed s t u v × Appended failed_report a b) → ⊥
never_9 None s t u v a b e d why = why
never_9 (Some (transpile directory names)) s t u v a b e d why = why
never_9 (Some too_many) s t u v a b e d why = why
never_9 (Some (run_c steps order names)) s t u v a b e d why = never_rose u.faults v.faults e d why.0.failed
never_9 (Some (run_rust steps directory)) s t u v a b e d why = never_rose u.faults v.faults e d why.0.failed

-- a call that is taken isn't refused
refused_run : (job : Job) (name : List ℕ) (s t : ShelfState) (u v : HostState) (held : List ℕ → Option (List ℕ)) → s.held ≡ Some held → ((call : Call) → u.takes call ≡ true) → CameTo job (CallRefused name) s t u v → ⊥
refused_run job name s t u v held told takes came =
    let ran = told_by (λ held. (meaning : Meaning) × JobMeans held job meaning × IsRun meaning u v (CallRefused name)) s.held held told came.run in
    true≢false (sym (takes ran.2.comes.0) ∙ ran.2.comes.3)

pub never_13 : (job : Option Job) (s t : ShelfState) (u v : HostState) (a b : Option (List ℕ)) (held : List ℕ → Option (List ℕ)) → s.held ≡ Some held → ((call : Call) → u.takes call ≡ true)
    → ForRun job (λ one. (name : List ℕ) × CameTo one (CallRefused name) s t u v × Appended (refused_report name) a b) → ⊥
never_13 None s t u v a b held told takes why = why
never_13 (Some (transpile directory names)) s t u v a b held told takes why = why
never_13 (Some too_many) s t u v a b held told takes why = why
never_13 (Some (run_c steps order names)) s t u v a b held told takes why = refused_run (run_c steps order names) why.0 s t u v held told takes why.1
never_13 (Some (run_rust steps directory)) s t u v a b held told takes why = refused_run (run_rust steps directory) why.0 s t u v held told takes why.1
