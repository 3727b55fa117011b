-- What stays as it was: names that a job doesn't write, and the host where nothing is run.
use Rattle.std.proofs.Common.{◌≡◌, inl, inr, true, false, true≢false, [], Option, Some, None, ap}
use Rattle.ext_calls.specs.Host.{HostState}
use Rattle.shelf.specs.Shelf.{ShelfState}
use Rattle.front.specs.Files.{WhereTold, written_names}
use Rattle.front.specs.Job.{Job, transpile, too_many, run_c, run_rust, is_run}
use Rattle.front.specs.Leaves.{Leaves}
use Rattle.front.specs.Report.{Ending, done, refused, usage, cannot_read, cannot_write, memory, told, not_rust, ill_typed}
use Rattle.front.specs.Run.{names_written}
use Rattle.front.proofs.OthersLaws.{Keeps, keeps_done, keeps_left, keeps_same}

pub keeps_others : (job : Option Job) (ending : Ending) (s t : ShelfState) (u v : HostState) → Leaves job ending s t u v → WhereTold s.held (Keeps (names_written job) t.held)
keeps_others None done s t u v leaves = absurd leaves.0
keeps_others None (refused file refusal) s t u v leaves = absurd leaves.0
keeps_others None usage s t u v leaves = keeps_same [] s.held t.held (ap (λ (state : ShelfState). state.held) leaves.0)
keeps_others None (cannot_read name) s t u v leaves = absurd leaves.0
keeps_others None (cannot_write name) s t u v leaves = absurd leaves.0
keeps_others None memory s t u v leaves = keeps_same [] s.held t.held (ap (λ (state : ShelfState). state.held) leaves.0)
keeps_others None (told of) s t u v leaves = absurd leaves.0
keeps_others None (not_rust name line) s t u v leaves = absurd leaves.0
keeps_others None (ill_typed name item) s t u v leaves = absurd leaves.0
keeps_others (Some (transpile directory names)) done s t u v leaves = keeps_done directory names s t leaves.0
keeps_others (Some (transpile directory names)) (refused file refusal) s t u v leaves = keeps_same (written_names directory names) s.held t.held leaves.0.kept
keeps_others (Some (transpile directory names)) usage s t u v leaves = absurd leaves.0
keeps_others (Some (transpile directory names)) (cannot_read name) s t u v leaves = keeps_same (written_names directory names) s.held t.held leaves.0.kept
keeps_others (Some (transpile directory names)) (cannot_write name) s t u v leaves = keeps_left directory names leaves.0.left.0 name s t leaves.0.left.1
keeps_others (Some (transpile directory names)) memory s t u v leaves = elim leaves.0 [
  | inl kept ↦ keeps_same (written_names directory names) s.held t.held kept
  | inr left ↦ keeps_left directory names left.0 left.1 s t left.2
]
keeps_others (Some (transpile directory names)) (told of) s t u v leaves = absurd leaves.0
keeps_others (Some (transpile directory names)) (not_rust name line) s t u v leaves = absurd leaves.0
keeps_others (Some (transpile directory names)) (ill_typed name item) s t u v leaves = absurd leaves.0
keeps_others (Some too_many) done s t u v leaves = absurd leaves.0
keeps_others (Some too_many) (refused file refusal) s t u v leaves = keeps_same [] s.held t.held (ap (λ (state : ShelfState). state.held) leaves.0.1)
keeps_others (Some too_many) usage s t u v leaves = absurd leaves.0
keeps_others (Some too_many) (cannot_read name) s t u v leaves = absurd leaves.0
keeps_others (Some too_many) (cannot_write name) s t u v leaves = absurd leaves.0
keeps_others (Some too_many) memory s t u v leaves = keeps_same [] s.held t.held (ap (λ (state : ShelfState). state.held) leaves.0)
keeps_others (Some too_many) (told of) s t u v leaves = absurd leaves.0
keeps_others (Some too_many) (not_rust name line) s t u v leaves = absurd leaves.0
keeps_others (Some too_many) (ill_typed name item) s t u v leaves = absurd leaves.0
keeps_others (Some (run_c steps order names)) done s t u v leaves = absurd leaves
keeps_others (Some (run_c steps order names)) (refused file refusal) s t u v leaves = keeps_same [] s.held t.held leaves.kept
keeps_others (Some (run_c steps order names)) usage s t u v leaves = absurd leaves
keeps_others (Some (run_c steps order names)) (cannot_read name) s t u v leaves = keeps_same [] s.held t.held leaves.0.kept
keeps_others (Some (run_c steps order names)) (cannot_write name) s t u v leaves = absurd leaves
keeps_others (Some (run_c steps order names)) memory s t u v leaves = keeps_same [] s.held t.held leaves.kept
keeps_others (Some (run_c steps order names)) (told of) s t u v leaves = keeps_same [] s.held t.held leaves.came.kept
keeps_others (Some (run_c steps order names)) (not_rust name line) s t u v leaves = absurd leaves
keeps_others (Some (run_c steps order names)) (ill_typed name item) s t u v leaves = absurd leaves
keeps_others (Some (run_rust steps directory)) done s t u v leaves = absurd leaves
keeps_others (Some (run_rust steps directory)) (refused file refusal) s t u v leaves = absurd leaves
keeps_others (Some (run_rust steps directory)) usage s t u v leaves = absurd leaves
keeps_others (Some (run_rust steps directory)) (cannot_read name) s t u v leaves = keeps_same [] s.held t.held leaves.kept
keeps_others (Some (run_rust steps directory)) (cannot_write name) s t u v leaves = absurd leaves
keeps_others (Some (run_rust steps directory)) memory s t u v leaves = keeps_same [] s.held t.held leaves.kept
keeps_others (Some (run_rust steps directory)) (told of) s t u v leaves = keeps_same [] s.held t.held leaves.came.kept
keeps_others (Some (run_rust steps directory)) (not_rust name line) s t u v leaves = keeps_same [] s.held t.held leaves.2.kept
keeps_others (Some (run_rust steps directory)) (ill_typed name item) s t u v leaves = keeps_same [] s.held t.held leaves.1.kept

-- a job that runs nothing makes no call
pub uncalled : (job : Option Job) (ending : Ending) (s t : ShelfState) (u v : HostState) → Leaves job ending s t u v → is_run job ≡ false → v ≡ u
uncalled None ending s t u v leaves e = leaves.1
uncalled (Some (transpile directory names)) ending s t u v leaves e = leaves.1
uncalled (Some too_many) ending s t u v leaves e = leaves.1
uncalled (Some (run_c steps order names)) ending s t u v leaves e = absurd (true≢false e)
uncalled (Some (run_rust steps directory)) ending s t u v leaves e = absurd (true≢false e)
