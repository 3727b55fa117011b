-- When each status of the top call comes, from how the job ended and how that was told.
use Rattle.std.proofs.Common.{◌≡◌, ◌≢◌, ◌<◌, ◌-◌, ℕ, ◌⊎◌, inl, inr, true, false, true≢false, List, take, length, Option, Some, None, refl, sym, ap, subst, ◌∙◌}
use Rattle.cr_base.specs.Count.{Rose}
use Rattle.cr_base.specs.declared.refusal.Refusal.{Refusal}
use Rattle.cx_units.proofs.Units.{unbroken_breaks_none}
use Rattle.cx_units.specs.Broken.{AreUnbroken}
use Rattle.ext_calls.specs.Host.{HostState}
use Rattle.run_ends.specs.Runs.{IsRun, Meaning}
use Rattle.run_ends.specs.Told.{Tale, tale_of}
use Rattle.run_ends.specs.Told as tale
use Rattle.run_ends.specs.declared.end.End.{End}
use Rattle.run_ends.specs.declared.end.End.TheVariants as end
use Rattle.shelf.specs.declared.file.File.{File}
use Rattle.shelf.specs.Shelf.{ShelfState, without_file}
use Rattle.shelf.specs.Sink.{SinkState}
use Rattle.straight_core.specs.Trees.{CProgram}
use Rattle.straight_rust_tree.specs.Text.{text_of}
use Rattle.straight_rust_tree.specs.Tree.{CrateTree}
use Rattle.std.specs.Option.{is_none}
use Rattle.rs_mean.specs.Typing.{ItemPlace, first_ill, well_typed}
use Rattle.rs_text.specs.Reads.{ReadsAs}
use Rattle.rs_text.specs.Tree.{CrateTree as RustTree}
use Rattle.front.specs.Crates.{AreHeldIn, IllTypedBy, NotRustBy, most_file_bytes}
use Rattle.front.specs.Files.{Held, WhereTold, units_of, files_in, with_files}
use Rattle.front.specs.Job.{Job, transpile, too_many, run_c, run_rust}
use Rattle.front.specs.Leaves.{Leaves}
use Rattle.front.specs.Refusals.{BreaksProfile, FirstBroken, CoreOf, bytes_of}
use Rattle.front.specs.Report.{Ending, done, refused, usage, cannot_read, cannot_write, memory, told, not_rust, ill_typed, IsTold, IsReported, status_of}
use Rattle.front.specs.Run.{AlwaysComesTo, BreaksIn, ForCrate, ForJob, ForRun, Holds, IsTooLarge, LacksIn, LacksNext, Yields, YieldsToGet, YieldsToRun, is_too_many}
use Rattle.front.specs.Runs.{CrateMeans, IsToldOf, IsUnreadFile, JobMeans, UnitsMean, names_of, steps_of}
use Rattle.front.specs.Transpile.{Translates}
use Rattle.front.proofs.Causes.{translated_break_none}
use Rattle.front.proofs.CrateLaws.{all_lacks, all_same, not_main_all, not_main_lacks, one_held}
use Rattle.front.proofs.MeaningLaws.{come_to_status, end_status, same_meaning, told_by}
use Rattle.front.proofs.RunLaws.{Telling, whole, failed, short, telling_of}

-- an ending's own status, or what that yields to
own_or_yields : (ending : Ending) (a b : SinkState) (r : ℕ) → IsReported ending a b r → (r ≡ status_of ending) ⊎ Yields a b r
own_or_yields ending a b r is = yields_of (telling_of ending a b r is)
  where
    yields_of : Telling ending a b r → (r ≡ status_of ending) ⊎ Yields a b r
    yields_of (whole x y) = inl x
    yields_of (failed x y) = inr (inr (x, y.rose))
    yields_of (short x y) = inr (inl x)

-- an ending that was told
any_or_yields : (ending : Ending) (a b : SinkState) (r : ℕ) → IsTold ending a b r → (r ≡ status_of ending) ⊎ Yields a b r
any_or_yields done a b r is = inl is.0
any_or_yields (refused file refusal) a b r is = own_or_yields (refused file refusal) a b r is
any_or_yields usage a b r is = own_or_yields usage a b r is
any_or_yields (cannot_read name) a b r is = own_or_yields (cannot_read name) a b r is
any_or_yields (cannot_write name) a b r is = own_or_yields (cannot_write name) a b r is
any_or_yields memory a b r is = inl is.0
any_or_yields (told of) a b r is = own_or_yields (told of) a b r is
any_or_yields (not_rust name line) a b r is = own_or_yields (not_rust name line) a b r is
any_or_yields (ill_typed name item) a b r is = own_or_yields (ill_typed name item) a b r is

-- the same, where a `get` may have failed
to_get : (k : ℕ) (s t : ShelfState) (a b : SinkState) (r : ℕ) → (r ≡ k) ⊎ Yields a b r → (r ≡ k) ⊎ YieldsToGet s t a b r
to_get k s t a b r own = elim own [ inl is ↦ inl is | inr yields ↦ inr (inl yields) ]

failed_get : (k : ℕ) (s t : ShelfState) (a b : SinkState) (r : ℕ) → Rose s.faults t.faults → (r ≡ 3) ⊎ Yields a b r → (r ≡ k) ⊎ YieldsToGet s t a b r
failed_get k s t a b r rose own = elim own [ inl is ↦ inr (inr (is, rose)) | inr yields ↦ inr (inl yields) ]

to_run : (k : ℕ) (s t : ShelfState) (u v : HostState) (a b : SinkState) (r : ℕ) → (r ≡ k) ⊎ YieldsToGet s t a b r → (r ≡ k) ⊎ YieldsToRun s t a b u v r
to_run k s t u v a b r own = elim own [ inl is ↦ inl is | inr yields ↦ inr (inl yields) ]

-- ---- the words alone

pub no_job_told : (job : Option Job) (ending : Ending) (s t : ShelfState) (u v : HostState) (a b : SinkState) (r : ℕ) → Leaves job ending s t u v → IsTold ending a b r → job ≡ None → (r ≡ 2) ⊎ Yields a b r
no_job_told (Some job) ending s t u v a b r leaves is e = cc
no_job_told None done s t u v a b r leaves is e = absurd leaves.0
no_job_told None (refused file refusal) s t u v a b r leaves is e = absurd leaves.0
no_job_told None usage s t u v a b r leaves is e = own_or_yields usage a b r is
no_job_told None (cannot_read name) s t u v a b r leaves is e = absurd leaves.0
no_job_told None (cannot_write name) s t u v a b r leaves is e = absurd leaves.0
no_job_told None memory s t u v a b r leaves is e = inr (inl is.0)
no_job_told None (told of) s t u v a b r leaves is e = absurd leaves.0
no_job_told None (not_rust name line) s t u v a b r leaves is e = absurd leaves.0
no_job_told None (ill_typed name item) s t u v a b r leaves is e = absurd leaves.0

-- more units than a program may have
pub when_too_many : (job : Option Job) (ending : Ending) (s t : ShelfState) (u v : HostState) (a b : SinkState) (r : ℕ) → Leaves job ending s t u v → IsTold ending a b r → is_too_many job ≡ true → (r ≡ 1) ⊎ Yields a b r
when_too_many None ending s t u v a b r leaves is e = absurd (true≢false (sym e))
when_too_many (Some (transpile directory names)) ending s t u v a b r leaves is e = absurd (true≢false (sym e))
when_too_many (Some (run_c given order names)) ending s t u v a b r leaves is e = absurd (true≢false (sym e))
when_too_many (Some (run_rust given directory)) ending s t u v a b r leaves is e = absurd (true≢false (sym e))
when_too_many (Some too_many) done s t u v a b r leaves is e = absurd leaves.0
when_too_many (Some too_many) (refused file refusal) s t u v a b r leaves is e = own_or_yields (refused file refusal) a b r is
when_too_many (Some too_many) usage s t u v a b r leaves is e = absurd leaves.0
when_too_many (Some too_many) (cannot_read name) s t u v a b r leaves is e = absurd leaves.0
when_too_many (Some too_many) (cannot_write name) s t u v a b r leaves is e = absurd leaves.0
when_too_many (Some too_many) memory s t u v a b r leaves is e = inr (inl is.0)
when_too_many (Some too_many) (told of) s t u v a b r leaves is e = absurd leaves.0
when_too_many (Some too_many) (not_rust name line) s t u v a b r leaves is e = absurd leaves.0
when_too_many (Some too_many) (ill_typed name item) s t u v a b r leaves is e = absurd leaves.0

-- ---- units

-- the units that one shelf holds are the same, however they are told
same_units : (held : List ℕ → Option (List ℕ)) (names : List (List ℕ)) (units others : List File) → units_of held names ≡ Some units → units_of held names ≡ Some others → others ≡ units
same_units held names units others e d = cc

-- a right translation of the units that are held, and no others
abbrev translation : List ℕ → List (List ℕ) → (List File → Type 0) → (List ℕ → Option (List ℕ)) → Type 0
translation directory names P held = (units : List File) × (crate : CrateTree) × (units_of held names ≡ Some units) × Translates units crate × P (files_in directory (text_of crate))

translated_unbroken : (directory : List ℕ) (names : List (List ℕ)) (P : List File → Type 0) (h : Held) (held : List ℕ → Option (List ℕ)) (units : List File) (refusal : Refusal) → h ≡ Some held → units_of held names ≡ Some units → FirstBroken units refusal → WhereTold h (translation directory names P) → ⊥
translated_unbroken directory names P h held units refusal e found broken said =
    let made = told_by (translation directory names P) h held e said in
    let same = same_units held names units made.0 found made.2 in
    let Breaks : List File → Type 0 = λ fs. FirstBroken fs refusal in
    translated_break_none made.0 made.3.program refusal made.3.core (subst Breaks (sym same) broken)

-- units that were run break no rule
run_unbroken : {P : Type 0} (given : ℕ) (order : List ℕ) (names : List (List ℕ)) (of : Tale) (s t : ShelfState) (u v : HostState) (held : List ℕ → Option (List ℕ)) (units : List File) (refusal : Refusal) → s.held ≡ Some held → units_of held names ≡ Some units
    → BreaksProfile units refusal → IsToldOf (run_c given order names) of s t u v → P
run_unbroken given order names of s t u v held units refusal e found broken said =
    let ran = told_by (λ held. (meaning : Meaning) × JobMeans held (run_c given order names) meaning × IsRun meaning u v said.end) s.held held e said.came.run in
    let same = same_units held names units ran.1.units found ran.1.here in
    absurd (unbroken_breaks_none (bytes_of units) ran.1.cores refusal (subst (λ (list : List File). AreUnbroken (bytes_of list) ran.1.cores) same ran.1.unbroken) broken)

pub when_broken : (job : Option Job) (ending : Ending) (s t : ShelfState) (u v : HostState) (a b : SinkState) (r : ℕ) → Leaves job ending s t u v → IsTold ending a b r → BreaksIn job s → (r ≡ 1) ⊎ YieldsToGet s t a b r
when_broken None ending s t u v a b r leaves is breaks = absurd breaks
when_broken (Some too_many) ending s t u v a b r leaves is breaks = absurd breaks
when_broken (Some (run_rust given directory)) ending s t u v a b r leaves is breaks = absurd breaks
when_broken (Some (transpile directory names)) done s t u v a b r leaves is breaks = absurd (translated_unbroken directory names (λ files. t.held ≡ with_files files s.held) s.held breaks.0 breaks.2.0 breaks.2.1 breaks.1 breaks.2.2 breaks.2.3 leaves.0)
when_broken (Some (transpile directory names)) (refused file refusal) s t u v a b r leaves is breaks = to_get 1 s t a b r (own_or_yields (refused file refusal) a b r is)
when_broken (Some (transpile directory names)) usage s t u v a b r leaves is breaks = absurd leaves.0
when_broken (Some (transpile directory names)) (cannot_read name) s t u v a b r leaves is breaks = failed_get 1 s t a b r leaves.0.rose (own_or_yields (cannot_read name) a b r is)
when_broken (Some (transpile directory names)) (cannot_write name) s t u v a b r leaves is breaks =
    let k = leaves.0.left.0 in
    absurd (translated_unbroken directory names (λ files. without_file name t.held ≡ without_file name (with_files (take k files) s.held)) s.held breaks.0 breaks.2.0 breaks.2.1 breaks.1 breaks.2.2 breaks.2.3 leaves.0.left.1.left)
when_broken (Some (transpile directory names)) memory s t u v a b r leaves is breaks = inr (inl (inl is.0))
when_broken (Some (transpile directory names)) (told of) s t u v a b r leaves is breaks = absurd leaves.0
when_broken (Some (transpile directory names)) (not_rust name line) s t u v a b r leaves is breaks = absurd leaves.0
when_broken (Some (transpile directory names)) (ill_typed name item) s t u v a b r leaves is breaks = absurd leaves.0
when_broken (Some (run_c given order names)) done s t u v a b r leaves is breaks = absurd leaves
when_broken (Some (run_c given order names)) (refused file refusal) s t u v a b r leaves is breaks = to_get 1 s t a b r (own_or_yields (refused file refusal) a b r is)
when_broken (Some (run_c given order names)) usage s t u v a b r leaves is breaks = absurd leaves
when_broken (Some (run_c given order names)) (cannot_read name) s t u v a b r leaves is breaks = failed_get 1 s t a b r leaves.0.rose (own_or_yields (cannot_read name) a b r is)
when_broken (Some (run_c given order names)) (cannot_write name) s t u v a b r leaves is breaks = absurd leaves
when_broken (Some (run_c given order names)) memory s t u v a b r leaves is breaks = inr (inl (inl is.0))
when_broken (Some (run_c given order names)) (told of) s t u v a b r leaves is breaks = run_unbroken given order names of s t u v breaks.0 breaks.2.0 breaks.2.1 breaks.1 breaks.2.2 breaks.2.3 leaves
when_broken (Some (run_c given order names)) (not_rust name line) s t u v a b r leaves is breaks = absurd leaves
when_broken (Some (run_c given order names)) (ill_typed name item) s t u v a b r leaves is breaks = absurd leaves

-- ---- files that aren't held

none_some : (held : List ℕ → Option (List ℕ)) (names : List (List ℕ)) (units : List File) → units_of held names ≡ None → units_of held names ≡ Some units → ⊥
none_some held names units e d = cc

missing_translated : (directory : List ℕ) (names : List (List ℕ)) (P : List File → Type 0) (h : Held) (held : List ℕ → Option (List ℕ)) → h ≡ Some held → units_of held names ≡ None → WhereTold h (translation directory names P) → ⊥
missing_translated directory names P h held e lacking said =
    let made = told_by (translation directory names P) h held e said in
    none_some held names made.0 lacking made.2

abbrev Refusing : List (List ℕ) → Refusal → (List File → Refusal → Type 0) → (List ℕ → Option (List ℕ)) → Type 0
Refusing names cause Breaks held = (units : List File) × (units_of held names ≡ Some units) × Breaks units cause

missing_refused : {P : Type 0} (names : List (List ℕ)) (cause : Refusal) (Breaks : List File → Refusal → Type 0) (h : Held) (held : List ℕ → Option (List ℕ)) → h ≡ Some held → units_of held names ≡ None → WhereTold h (Refusing names cause Breaks) → P
missing_refused names cause Breaks h held e lacking said =
    let made = told_by (Refusing names cause Breaks) h held e said in
    absurd (none_some held names made.0 lacking made.1)

missing_run : {P : Type 0} (given : ℕ) (order : List ℕ) (names : List (List ℕ)) (of : Tale) (s t : ShelfState) (u v : HostState) (held : List ℕ → Option (List ℕ)) → s.held ≡ Some held → units_of held names ≡ None
    → IsToldOf (run_c given order names) of s t u v → P
missing_run given order names of s t u v held e lacking said =
    let ran = told_by (λ held. (meaning : Meaning) × JobMeans held (run_c given order names) meaning × IsRun meaning u v said.end) s.held held e said.came.run in
    absurd (none_some held names ran.1.units lacking ran.1.here)

-- the files of a crate that was run are all held
abbrev RanCrate : ℕ → List ℕ → HostState → HostState → End → (List ℕ → Option (List ℕ)) → Type 0
RanCrate given directory u v by held = (meaning : Meaning) × JobMeans held (run_rust given directory) meaning × IsRun meaning u v by

lacking_run : {P : Type 0} (given : ℕ) (directory : List ℕ) (of : Tale) (s t : ShelfState) (u v : HostState) (held : List ℕ → Option (List ℕ)) → s.held ≡ Some held → LacksNext held directory → IsToldOf (run_rust given directory) of s t u v → P
lacking_run given directory of s t u v held e lacks said =
    let ran = told_by (RanCrate given directory u v said.end) s.held held e said.came.run in
    all_lacks held directory ran.1.files ran.1.here ran.1.all lacks

lacking_not_rust : {P : Type 0} (directory : List ℕ) (held : List ℕ → Option (List ℕ)) (files : List File) (path : List ℕ) → AreHeldIn held directory files → NotRustBy files path → LacksNext held directory → P
lacking_not_rust directory held files path here by lacks = elim by [
  | inl main ↦ not_main_lacks held directory files here main.0 lacks
  | inr none ↦ all_lacks held directory files here none.0 lacks
]

pub when_missing : (job : Option Job) (ending : Ending) (s t : ShelfState) (u v : HostState) (a b : SinkState) (r : ℕ) → Leaves job ending s t u v → IsTold ending a b r → LacksIn job s → (r ≡ 3) ⊎ Yields a b r
when_missing None ending s t u v a b r leaves is lacks = absurd lacks
when_missing (Some too_many) ending s t u v a b r leaves is lacks = absurd lacks
when_missing (Some (transpile directory names)) done s t u v a b r leaves is lacks = absurd (missing_translated directory names (λ files. t.held ≡ with_files files s.held) s.held lacks.0 lacks.1 lacks.2 leaves.0)
when_missing (Some (transpile directory names)) (refused file refusal) s t u v a b r leaves is lacks = missing_refused names refusal FirstBroken s.held lacks.0 lacks.1 lacks.2 leaves.0.broken
when_missing (Some (transpile directory names)) usage s t u v a b r leaves is lacks = absurd leaves.0
when_missing (Some (transpile directory names)) (cannot_read name) s t u v a b r leaves is lacks = own_or_yields (cannot_read name) a b r is
when_missing (Some (transpile directory names)) (cannot_write name) s t u v a b r leaves is lacks =
    let k = leaves.0.left.0 in
    absurd (missing_translated directory names (λ files. without_file name t.held ≡ without_file name (with_files (take k files) s.held)) s.held lacks.0 lacks.1 lacks.2 leaves.0.left.1.left)
when_missing (Some (transpile directory names)) memory s t u v a b r leaves is lacks = inr (inl is.0)
when_missing (Some (transpile directory names)) (told of) s t u v a b r leaves is lacks = absurd leaves.0
when_missing (Some (transpile directory names)) (not_rust name line) s t u v a b r leaves is lacks = absurd leaves.0
when_missing (Some (transpile directory names)) (ill_typed name item) s t u v a b r leaves is lacks = absurd leaves.0
when_missing (Some (run_c given order names)) done s t u v a b r leaves is lacks = absurd leaves
when_missing (Some (run_c given order names)) (refused file refusal) s t u v a b r leaves is lacks = missing_refused names refusal BreaksProfile s.held lacks.0 lacks.1 lacks.2 leaves.broken
when_missing (Some (run_c given order names)) usage s t u v a b r leaves is lacks = absurd leaves
when_missing (Some (run_c given order names)) (cannot_read name) s t u v a b r leaves is lacks = own_or_yields (cannot_read name) a b r is
when_missing (Some (run_c given order names)) (cannot_write name) s t u v a b r leaves is lacks = absurd leaves
when_missing (Some (run_c given order names)) memory s t u v a b r leaves is lacks = inr (inl is.0)
when_missing (Some (run_c given order names)) (told of) s t u v a b r leaves is lacks = missing_run given order names of s t u v lacks.0 lacks.1 lacks.2 leaves
when_missing (Some (run_c given order names)) (not_rust name line) s t u v a b r leaves is lacks = absurd leaves
when_missing (Some (run_c given order names)) (ill_typed name item) s t u v a b r leaves is lacks = absurd leaves
when_missing (Some (run_rust given directory)) done s t u v a b r leaves is lacks = absurd leaves
when_missing (Some (run_rust given directory)) (refused file refusal) s t u v a b r leaves is lacks = absurd leaves
when_missing (Some (run_rust given directory)) usage s t u v a b r leaves is lacks = absurd leaves
when_missing (Some (run_rust given directory)) (cannot_read name) s t u v a b r leaves is lacks = own_or_yields (cannot_read name) a b r is
when_missing (Some (run_rust given directory)) (cannot_write name) s t u v a b r leaves is lacks = absurd leaves
when_missing (Some (run_rust given directory)) memory s t u v a b r leaves is lacks = inr (inl is.0)
when_missing (Some (run_rust given directory)) (told of) s t u v a b r leaves is lacks = lacking_run given directory of s t u v lacks.0 lacks.1 lacks.2 leaves
when_missing (Some (run_rust given directory)) (not_rust name line) s t u v a b r leaves is lacks = lacking_not_rust directory lacks.0 leaves.0 leaves.1 (told_by (λ held. AreHeldIn held directory leaves.0) s.held lacks.0 lacks.1 leaves.2.here) leaves.3 lacks.2
when_missing (Some (run_rust given directory)) (ill_typed name item) s t u v a b r leaves is lacks = all_lacks lacks.0 directory leaves.0 (told_by (λ held. AreHeldIn held directory leaves.0) s.held lacks.0 lacks.1 leaves.1.here) leaves.2.0 lacks.2

-- ---- files that are no crate

-- why the files of a directory are no well-typed crate
abbrev pub NoCrateBy : List File → Type 0
NoCrateBy files = ((path : List ℕ) × NotRustBy files path) ⊎ ((name : List ℕ) × (item : ℕ) × IllTypedBy files name item)

-- a file couldn't be read where all are held: a `get` failed
unread_rose : (held : List ℕ → Option (List ℕ)) (directory name : List ℕ) (s t : ShelfState) (u v : HostState) → s.held ≡ Some held → (LacksNext held directory → ⊥) → IsUnreadFile directory name s t u v → Rose s.faults t.faults
unread_rose held directory name s t u v e never unread = elim unread.why [
  | inl faulty ↦ faulty.0
  | inr large ↦
      let more = told_by (λ held. (bytes : List ℕ) × (held name ≡ Some bytes) × (most_file_bytes < length bytes)) s.held held e large.1 in
      let here = told_by (λ held. AreHeldIn held directory unread.files) s.held held e unread.here in
      absurd (never (unread.files, unread.path, here, unread.next, inr (subst (λ (n : List ℕ). IsTooLarge (held n)) unread.name_is (subst IsTooLarge (sym more.1) more.2))))
]

ill_typed_not : {P : Type 0} (tree : RustTree) (place : ItemPlace) → well_typed tree ≡ true → first_ill tree ≡ Some place → P
ill_typed_not tree place typed ill = absurd (true≢false (sym typed ∙ ap is_none ill))

run_no_crate : {P : Type 0} (given : ℕ) (directory : List ℕ) (of : Tale) (s t : ShelfState) (u v : HostState) (held : List ℕ → Option (List ℕ)) (files : List File) → s.held ≡ Some held → AreHeldIn held directory files → NoCrateBy files
    → IsToldOf (run_rust given directory) of s t u v → P
run_no_crate given directory of s t u v held files e here by said =
    let ran = told_by (RanCrate given directory u v said.end) s.held held e said.came.run in
    elim by [
      | inl way ↦ elim way.1 [
        | inl main ↦ not_main_all held directory files ran.1.files here ran.1.here main.0 ran.1.all
        | inr none ↦
            let same = all_same held directory ran.1.files files ran.1.here here ran.1.all none.0 in
            absurd (none.2.none ran.1.whole (subst (λ (list : List File). ReadsAs list ran.1.whole) same ran.1.read))
      ]
      | inr ill ↦
          let same = one_held held directory files ran.1.files ill.2.1.whole ran.1.whole here ran.1.here ill.2.0 ran.1.all ill.2.1.read ran.1.read in
          ill_typed_not ran.1.whole ill.2.1.ill.place ran.1.typed (subst (λ (one : RustTree). first_ill one ≡ Some ill.2.1.ill.place) same ill.2.1.ill.first)
    ]

never_lacks : (held : List ℕ → Option (List ℕ)) (directory : List ℕ) (files : List File) → AreHeldIn held directory files → NoCrateBy files → LacksNext held directory → ⊥
never_lacks held directory files here by lacks = elim by [
  | inl way ↦ lacking_not_rust directory held files way.0 here way.1 lacks
  | inr ill ↦ all_lacks held directory files here ill.2.0 lacks
]

pub when_no_crate : (job : Option Job) (ending : Ending) (s t : ShelfState) (u v : HostState) (a b : SinkState) (r : ℕ) → Leaves job ending s t u v → IsTold ending a b r
    → ForCrate job (λ one directory. Holds s (λ held. (files : List File) × AreHeldIn held directory files × NoCrateBy files)) → (r ≡ 11) ⊎ YieldsToGet s t a b r
when_no_crate None ending s t u v a b r leaves is holds = absurd holds
when_no_crate (Some (transpile directory names)) ending s t u v a b r leaves is holds = absurd holds
when_no_crate (Some too_many) ending s t u v a b r leaves is holds = absurd holds
when_no_crate (Some (run_c given order names)) ending s t u v a b r leaves is holds = absurd holds
when_no_crate (Some (run_rust given directory)) done s t u v a b r leaves is holds = absurd leaves
when_no_crate (Some (run_rust given directory)) (refused file refusal) s t u v a b r leaves is holds = absurd leaves
when_no_crate (Some (run_rust given directory)) usage s t u v a b r leaves is holds = absurd leaves
when_no_crate (Some (run_rust given directory)) (cannot_read name) s t u v a b r leaves is holds = failed_get 11 s t a b r (unread_rose holds.0 directory name s t u v holds.1 (never_lacks holds.0 directory holds.2.0 holds.2.1 holds.2.2) leaves) (own_or_yields (cannot_read name) a b r is)
when_no_crate (Some (run_rust given directory)) (cannot_write name) s t u v a b r leaves is holds = absurd leaves
when_no_crate (Some (run_rust given directory)) memory s t u v a b r leaves is holds = inr (inl (inl is.0))
when_no_crate (Some (run_rust given directory)) (told of) s t u v a b r leaves is holds = run_no_crate given directory of s t u v holds.0 holds.2.0 holds.1 holds.2.1 holds.2.2 leaves
when_no_crate (Some (run_rust given directory)) (not_rust name line) s t u v a b r leaves is holds = to_get 11 s t a b r (own_or_yields (not_rust name line) a b r is)
when_no_crate (Some (run_rust given directory)) (ill_typed name item) s t u v a b r leaves is holds = to_get 11 s t a b r (own_or_yields (ill_typed name item) a b r is)

-- ---- runs

-- the run of a job comes to the status that it always comes to, or the host failed
abbrev Coming : Job → ShelfState → HostState → ℕ → Type 0
Coming job s u k = Holds s (λ held. (meaning : Meaning) × JobMeans held job meaning × AlwaysComesTo meaning u k)

status_told : (names : List (List ℕ)) (steps : ℕ) (by : End) → tale.status_of (tale_of names steps by) ≡ end_status by
status_told names steps (end.Ended code) = refl
status_told names steps (end.Undefined rule unit line) = refl
status_told names steps (end.Wrong cause) = refl
status_told names steps end.StepsUsed = refl
status_told names steps (end.StoreFull need left) = refl
status_told names steps (end.CallRefused name) = refl
status_told names steps end.HostFailed = refl

run_comes : (job : Job) (of : Tale) (s t : ShelfState) (u v : HostState) (a b : SinkState) (r k : ℕ) → IsToldOf job of s t u v → IsTold (told of) a b r → Coming job s u k → (r ≡ k) ⊎ YieldsToRun s t a b u v r
run_comes job of s t u v a b r k leaves is comes =
    let ran = told_by (λ held. (meaning : Meaning) × JobMeans held job meaning × IsRun meaning u v leaves.end) s.held comes.0 comes.1 leaves.came.run in
    let same = same_meaning comes.0 job ran.0 comes.2.0 ran.1 comes.2.1 in
    let run = subst (λ (meaning : Meaning). IsRun meaning u v leaves.end) same ran.2 in
    elim (own_or_yields (told of) a b r is) [
      | inl own ↦ elim (come_to_status comes.2.0 u v leaves.end k run leaves.came.failed comes.2.2) [
        | inl status ↦ inl (own ∙ ap tale.status_of leaves.tale_is ∙ status_told (names_of job) (steps_of job) leaves.end ∙ status)
        | inr nine ↦ inr (inr (own ∙ ap tale.status_of leaves.tale_is ∙ status_told (names_of job) (steps_of job) leaves.end ∙ nine.0, nine.1))
      ]
      | inr yields ↦ inr (inl (inl yields))
    ]

-- units that are run and refused
refused_comes : {P : Type 0} (given : ℕ) (order : List ℕ) (names : List (List ℕ)) (cause : Refusal) (h : Held) (held : List ℕ → Option (List ℕ)) (meaning : Meaning) → h ≡ Some held → UnitsMean held given order names meaning
    → WhereTold h (Refusing names cause BreaksProfile) → P
refused_comes given order names cause h held meaning e means broken =
    let made = told_by (Refusing names cause BreaksProfile) h held e broken in
    let same = same_units held names made.0 means.units made.1 means.here in
    absurd (unbroken_breaks_none (bytes_of made.0) means.cores cause (subst (λ (list : List File). AreUnbroken (bytes_of list) means.cores) same means.unbroken) made.2)

crate_by : {P : Type 0} (held : List ℕ → Option (List ℕ)) (given : ℕ) (directory : List ℕ) (files : List File) (meaning : Meaning) → AreHeldIn held directory files → NoCrateBy files → CrateMeans held given directory meaning → P
crate_by held given directory files meaning here by means = elim by [
  | inl way ↦ elim way.1 [
    | inl main ↦ not_main_all held directory files means.files here means.here main.0 means.all
    | inr none ↦
        let same = all_same held directory means.files files means.here here means.all none.0 in
        absurd (none.2.none means.whole (subst (λ (list : List File). ReadsAs list means.whole) same means.read))
  ]
  | inr ill ↦
      let same = one_held held directory files means.files ill.2.1.whole means.whole here means.here ill.2.0 means.all ill.2.1.read means.read in
      ill_typed_not means.whole ill.2.1.ill.place means.typed (subst (λ (one : RustTree). first_ill one ≡ Some ill.2.1.ill.place) same ill.2.1.ill.first)
]

pub when_comes : (job : Option Job) (ending : Ending) (s t : ShelfState) (u v : HostState) (a b : SinkState) (r k : ℕ) → Leaves job ending s t u v → IsTold ending a b r → ForRun job (λ one. Coming one s u k) → (r ≡ k) ⊎ YieldsToRun s t a b u v r
when_comes None ending s t u v a b r k leaves is comes = absurd comes
when_comes (Some (transpile directory names)) ending s t u v a b r k leaves is comes = absurd comes
when_comes (Some too_many) ending s t u v a b r k leaves is comes = absurd comes
when_comes (Some (run_c given order names)) done s t u v a b r k leaves is comes = absurd leaves
when_comes (Some (run_c given order names)) (refused file refusal) s t u v a b r k leaves is comes = refused_comes given order names refusal s.held comes.0 comes.2.0 comes.1 comes.2.1 leaves.broken
when_comes (Some (run_c given order names)) usage s t u v a b r k leaves is comes = absurd leaves
when_comes (Some (run_c given order names)) (cannot_read name) s t u v a b r k leaves is comes = to_run k s t u v a b r (failed_get k s t a b r leaves.0.rose (own_or_yields (cannot_read name) a b r is))
when_comes (Some (run_c given order names)) (cannot_write name) s t u v a b r k leaves is comes = absurd leaves
when_comes (Some (run_c given order names)) memory s t u v a b r k leaves is comes = inr (inl (inl (inl is.0)))
when_comes (Some (run_c given order names)) (told of) s t u v a b r k leaves is comes = run_comes (run_c given order names) of s t u v a b r k leaves is comes
when_comes (Some (run_c given order names)) (not_rust name line) s t u v a b r k leaves is comes = absurd leaves
when_comes (Some (run_c given order names)) (ill_typed name item) s t u v a b r k leaves is comes = absurd leaves
when_comes (Some (run_rust given directory)) done s t u v a b r k leaves is comes = absurd leaves
when_comes (Some (run_rust given directory)) (refused file refusal) s t u v a b r k leaves is comes = absurd leaves
when_comes (Some (run_rust given directory)) usage s t u v a b r k leaves is comes = absurd leaves
when_comes (Some (run_rust given directory)) (cannot_read name) s t u v a b r k leaves is comes = to_run k s t u v a b r (failed_get k s t a b r (unread_rose comes.0 directory name s t u v comes.1 (all_lacks comes.0 directory comes.2.1.files comes.2.1.here comes.2.1.all) leaves) (own_or_yields (cannot_read name) a b r is))
when_comes (Some (run_rust given directory)) (cannot_write name) s t u v a b r k leaves is comes = absurd leaves
when_comes (Some (run_rust given directory)) memory s t u v a b r k leaves is comes = inr (inl (inl (inl is.0)))
when_comes (Some (run_rust given directory)) (told of) s t u v a b r k leaves is comes = run_comes (run_rust given directory) of s t u v a b r k leaves is comes
when_comes (Some (run_rust given directory)) (not_rust name line) s t u v a b r k leaves is comes = crate_by comes.0 given directory leaves.0 comes.2.0 (told_by (λ held. AreHeldIn held directory leaves.0) s.held comes.0 comes.1 leaves.2.here) (inl (leaves.1, leaves.3)) comes.2.1
when_comes (Some (run_rust given directory)) (ill_typed name item) s t u v a b r k leaves is comes = crate_by comes.0 given directory leaves.0 comes.2.0 (told_by (λ held. AreHeldIn held directory leaves.0) s.held comes.0 comes.1 leaves.1.here) (inr (name, item, leaves.2)) comes.2.1

-- ---- units that break no rule and are translated

pub when_sound : (job : Option Job) (ending : Ending) (s t : ShelfState) (u v : HostState) (a b : SinkState) (r : ℕ) → Leaves job ending s t u v → IsTold ending a b r → (units : List File) (program : CProgram)
    → ForJob job (λ directory names. (held : List ℕ → Option (List ℕ)) × (s.held ≡ Some held) × (units_of held names ≡ Some units)) → CoreOf units program → (r ≡ 0) ⊎ ((r ≡ 10) ⊎ Rose s.faults t.faults)
when_sound None ending s t u v a b r leaves is units program holds core = absurd holds
when_sound (Some too_many) ending s t u v a b r leaves is units program holds core = absurd holds
when_sound (Some (run_c given order names)) ending s t u v a b r leaves is units program holds core = absurd holds
when_sound (Some (run_rust given directory)) ending s t u v a b r leaves is units program holds core = absurd holds
when_sound (Some (transpile directory names)) done s t u v a b r leaves is units program holds core = inl is.0
when_sound (Some (transpile directory names)) (refused file refusal) s t u v a b r leaves is units program holds core =
    let refusing = told_by (Refusing names refusal FirstBroken) s.held holds.0 holds.1 leaves.0.broken in
    let same = same_units holds.0 names units refusing.0 holds.2 refusing.1 in
    let Breaks : List File → Type 0 = λ fs. FirstBroken fs refusal in
    absurd (translated_break_none units program refusal core (subst Breaks same refusing.2))
when_sound (Some (transpile directory names)) usage s t u v a b r leaves is units program holds core = absurd leaves.0
when_sound (Some (transpile directory names)) (cannot_read name) s t u v a b r leaves is units program holds core = inr (inr leaves.0.rose)
when_sound (Some (transpile directory names)) (cannot_write name) s t u v a b r leaves is units program holds core = inr (inr leaves.0.rose)
when_sound (Some (transpile directory names)) memory s t u v a b r leaves is units program holds core = inr (inl is.0)
when_sound (Some (transpile directory names)) (told of) s t u v a b r leaves is units program holds core = absurd leaves.0
when_sound (Some (transpile directory names)) (not_rust name line) s t u v a b r leaves is units program holds core = absurd leaves.0
when_sound (Some (transpile directory names)) (ill_typed name item) s t u v a b r leaves is units program holds core = absurd leaves.0
