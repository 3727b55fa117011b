-- What a job runs has one meaning, and an end is where that comes to.
use Rattle.std.proofs.Common.{◌≡◌, ◌∙◌, ℕ, ◌⊎◌, inl, inr, Bool, true, false, if◌then◌else◌, List, [], ◌∷◌, drop, Option, Some, option_map, sym, ap, subst, ℤ}
use Rattle.c_job.specs.Meaning as units
use Rattle.cr_base.specs.Count.{Rose}
use Rattle.cx_core.specs.Trees.{CUnit}
use Rattle.cx_units.proofs.Units.{one_meaning}
use Rattle.cx_units.specs.Broken.{AreUnbroken}
use Rattle.ext_calls.specs.declared.call.Call.{Call}
use Rattle.ext_calls.specs.declared.call.Made.{Made}
use Rattle.ext_calls.specs.Host.{HostState}
use Rattle.rs_text.specs.Tree.{CrateTree}
use Rattle.run_ends.specs.Runs.{AreFirst, AreGiven, HasFailed, IsEnd, IsRun, IsTied, MayAnswer, Meaning, Progress, Shown}
use Rattle.run_ends.specs.Runs as progress
use Rattle.run_ends.specs.declared.end.End.{End}
use Rattle.run_ends.specs.declared.end.End.TheVariants as end
use Rattle.rust_job.specs.Meaning as crate
use Rattle.shelf.specs.declared.file.File.{File}
use Rattle.front.proofs.CrateLaws.{one_held}
use Rattle.front.specs.Files.{Held, WhereTold, units_of}
use Rattle.front.specs.Job.{Job, transpile, too_many, run_c, run_rust}
use Rattle.front.specs.Refusals.{bytes_of}
use Rattle.front.specs.Run.{AlwaysComesTo, status_at}
use Rattle.front.specs.Runs.{CrateMeans, JobMeans, UnitsMean}

-- what is known where the shelf tells what it holds
pub told_by : (P : (List ℕ → Option (List ℕ)) → Type 0) (h : Held) (held : List ℕ → Option (List ℕ)) → h ≡ Some held → WhereTold h P → P held
told_by P h held e known = subst (λ (x : Held). WhereTold x P) e known

same_units : (held : List ℕ → Option (List ℕ)) (names : List (List ℕ)) (units others : List File) → units_of held names ≡ Some units → units_of held names ≡ Some others → units ≡ others
same_units held names units others e d = cc

units_same : (held : List ℕ → Option (List ℕ)) (given : ℕ) (order : List ℕ) (names : List (List ℕ)) (one other : Meaning) → UnitsMean held given order names one → UnitsMean held given order names other → one ≡ other
units_same held given order names one other a b =
    let same = same_units held names a.units b.units a.here b.here in
    let cores = one_meaning (bytes_of b.units) a.cores b.cores (subst (λ (list : List File). AreUnbroken (bytes_of list) a.cores) same a.unbroken) b.unbroken in
    a.meaning_is ∙ ap (λ (list : List CUnit). units.meaning_of list order given) cores ∙ sym b.meaning_is

crates_same : (held : List ℕ → Option (List ℕ)) (given : ℕ) (directory : List ℕ) (one other : Meaning) → CrateMeans held given directory one → CrateMeans held given directory other → one ≡ other
crates_same held given directory one other a b =
    let same = one_held held directory a.files b.files a.whole b.whole a.here b.here a.all b.all a.read b.read in
    a.meaning_is ∙ ap (λ (whole : CrateTree). crate.meaning_of whole given) same ∙ sym b.meaning_is

pub same_meaning : (held : List ℕ → Option (List ℕ)) (job : Job) (one other : Meaning) → JobMeans held job one → JobMeans held job other → one ≡ other
same_meaning held (transpile directory names) one other a b = absurd a
same_meaning held too_many one other a b = absurd a
same_meaning held (run_c given order names) one other a b = units_same held given order names one other a b
same_meaning held (run_rust given directory) one other a b = crates_same held given directory one other a b

-- ---- the status of an end

abbrev pub end_status : End → ℕ
end_status (end.Ended code) = 0
end_status (end.Undefined rule unit line) = 5
end_status (end.Wrong cause) = 6
end_status end.StepsUsed = 7
end_status (end.StoreFull need left) = 8
end_status (end.CallRefused name) = 13
end_status end.HostFailed = 9

asked : (takes : Call → Bool) (call : Call) (is : Bool) → takes call ≡ is → status_at takes (progress.asks_for call) ≡ (if is then 9 else 13)
asked takes call is e = ap (λ (b : Bool). if b then 9 else 13) e

status_is : (takes : Call → Bool) (by : End) (come : Progress) → IsEnd takes by come → status_at takes come ≡ end_status by
status_is takes (end.Ended code) come is = ap (status_at takes) is
status_is takes (end.Undefined rule unit line) come is = ap (status_at takes) is
status_is takes (end.Wrong cause) come is = ap (status_at takes) is
status_is takes end.StepsUsed come is = ap (status_at takes) is
status_is takes (end.StoreFull need left) come is = ap (status_at takes) is
status_is takes (end.CallRefused name) come is = ap (status_at takes) is.1 ∙ asked takes is.0 false is.3
status_is takes end.HostFailed come is = ap (status_at takes) is.1 ∙ asked takes is.0 true is.2

first_of : (made : List Made) (before after : Option (List ℤ)) → AreGiven made before after → AreFirst made before
first_of [] before after given = tt
first_of (one ∷ others) before after given = (given.0, first_of others (option_map (drop 1) before) after given.1)

-- an answer of the host
may_answer : (shown : Shown) (u v : HostState) → IsTied shown u v → MayAnswer u shown
may_answer shown u v tied = record { taken = tied.taken; given = first_of shown.made u.left v.left tied.given; takes = tied.takes }

nine_failed : (by : End) (u v : HostState) → end_status by ≡ 9 → HasFailed u v by → Rose u.faults v.faults
nine_failed (end.Ended code) u v e failed = cc
nine_failed (end.Undefined rule unit line) u v e failed = cc
nine_failed (end.Wrong cause) u v e failed = cc
nine_failed end.StepsUsed u v e failed = cc
nine_failed (end.StoreFull need left) u v e failed = cc
nine_failed (end.CallRefused name) u v e failed = cc
nine_failed end.HostFailed u v e failed = failed

-- what a run came to isn't astray
not_astray : (takes : Call → Bool) (by : End) (come : Progress) → IsEnd takes by come → come ≡ progress.astray → ⊥
not_astray takes (end.Ended code) come is e = let h : progress.ended code ≡ progress.astray = sym is ∙ e in cc (h)
not_astray takes (end.Undefined rule unit line) come is e = let h : progress.undefined rule unit line ≡ progress.astray = sym is ∙ e in cc (h)
not_astray takes (end.Wrong cause) come is e = let h : progress.wrong cause ≡ progress.astray = sym is ∙ e in cc (h)
not_astray takes end.StepsUsed come is e = let h : progress.going ≡ progress.astray = sym is ∙ e in cc (h)
not_astray takes (end.StoreFull need left) come is e = let h : progress.full need left ≡ progress.astray = sym is ∙ e in cc (h)
not_astray takes (end.CallRefused name) come is e = let h : progress.asks_for is.0 ≡ progress.astray = sym is.1 ∙ e in cc (h)
not_astray takes end.HostFailed come is e = let h : progress.asks_for is.0 ≡ progress.astray = sym is.1 ∙ e in cc (h)

-- a run comes to the status to which it always comes, or the host failed
pub come_to_status : (meaning : Meaning) (u v : HostState) (by : End) (k : ℕ) → IsRun meaning u v by → HasFailed u v by → AlwaysComesTo meaning u k → (end_status by ≡ k) ⊎ ((end_status by ≡ 9) × Rose u.faults v.faults)
come_to_status meaning u v by k run failed always =
    let status = status_is u.takes by (meaning run.trail).progress run.comes in
    elim (always run.trail (may_answer (meaning run.trail) u v run.tied) (not_astray u.takes by (meaning run.trail).progress run.comes)) [
      | inl is ↦ inl (sym status ∙ is)
      | inr nine ↦ inr (sym status ∙ nine, nine_failed by u v (sym status ∙ nine) failed)
    ]
