-- What `clap` answers to words, in the words of a job.
use Rattle.std.proofs.lemmas.Bool.Decides.{nat_tests}
use Rattle.std.proofs.Common.{arith, ◌≡◌, ◌∙◌, ◌≢◌, Bool, true, false, refl, sym, ap, subst, List, [], ◌∷◌, Option, None, Result, Ok, Err, IfOk, inl, inr, not, ◌&&◌, if◌then◌else◌}
use Rattle.std.specs.Option.{option_map}
use Rattle.clap.proofs.OnLiterals.{clap_on_literals}
use Rattle.clap.specs.Faults.{fault_of, is_simple_and_free}
use Rattle.clap.specs.Kinds.{Kinds, HasKind, IsAmong, FailsBy}
use Rattle.clap.specs.Simple.{App, HasMatchesOf, is_simple, subcommand_of, subcommand_rows_of}
use Rattle.clap.specs.Values.{kind_of}
use Rattle.clap.specs.Walk.{Text}
use Rattle.clap.specs.declared.error.Error.{Error}
use Rattle.clap.specs.declared.error.kind.ErrorKind.{ErrorKind}
use Rattle.clap.specs.declared.error.kind.ErrorKind.TheVariants.{OutOfMemory}
use Rattle.clap.specs.declared.parser.matches.ArgMatches.{ArgMatches}
use Rattle.cr_base.specs.declared.memory.Memory.{Memory}
use Rattle.jobs.specs.Asked.{asked_of}
use Rattle.jobs.specs.Command.{command}
use Rattle.jobs.specs.Job.{Job, job_of, job_in, has_end, is_taken, finds_none}
use Rattle.jobs.specs.declared.job.Job.{Job as HeldJob}

-- the command is one of which `clap` gives the matches and the kinds of errors
simple : is_simple_and_free command ≡ true
unfolding clap_on_literals
simple = refl

simple_alone : is_simple command ≡ true
unfolding clap_on_literals
simple_alone = refl

abbrev chosen : Bool → Bool → Option Job → Option Job
chosen ends taken job = if not ends && taken then job else None

pub taken_job : (app : App) (words : List Text) (matches : ArgMatches) (r : Result (Option HeldJob) Memory) → app ≡ command → has_end words ≡ false
    → (is_simple_and_free app ≡ true → FailsBy {T = ArgMatches} (fault_of app words) (Ok matches)) → HasMatchesOf app words matches
    → IfOk r (λ job. option_map asked_of job ≡ job_in (subcommand_rows_of matches))
    → IfOk r (λ job. option_map asked_of job ≡ job_of words)
taken_job app words matches r is ends fails has read =
    let none : fault_of command words ≡ [] = subst (λ (a : App). fault_of a words ≡ []) is (fails (ap is_simple_and_free is ∙ simple)) in
    let rows : subcommand_rows_of matches ≡ subcommand_of command words = subst (λ (a : App). subcommand_rows_of matches ≡ subcommand_of a words) is (has (ap is_simple is ∙ simple_alone)).1 in
    let same : job_in (subcommand_rows_of matches) ≡ job_of words =
    ap job_in rows
    ∙ sym (ap (λ (kinds : Kinds). chosen false (finds_none kinds) (job_in (subcommand_of command words))) none)
    ∙ sym (ap (λ (b : Bool). chosen b (is_taken words) (job_in (subcommand_of command words))) ends) in
    subst (λ (meant : Option Job). IfOk r (λ job. option_map asked_of job ≡ meant)) same read

among_some : (kind : ErrorKind) (kinds : Kinds) → IsAmong kind kinds → finds_none kinds ≡ false
among_some kind [] is = absurd is
among_some kind (first ∷ others) is = grind (arith, nat_tests)

no_job : (app : App) (words : List Text) (error : Error) → app ≡ command
    → HasKind (fault_of app words) error → kind_of error ≢ OutOfMemory → None ≡ job_of words
no_job app words error is has not_memory = elim has [
  | inl memory ↦ absurd (not_memory memory)
  | inr among ↦
      let some : is_taken words ≡ false = among_some (kind_of error) (fault_of command words) (subst (λ (a : App). IsAmong (kind_of error) (fault_of a words)) is among) in
      never (has_end words) (job_in (subcommand_of command words)) ∙ sym (ap (λ (b : Bool). chosen (has_end words) b (job_in (subcommand_of command words))) some)
]
  where
    never : (b : Bool) (job : Option Job) → None ≡ chosen b false job
    never true job = refl
    never false job = refl

pub untaken_job : (app : App) (words : List Text) (error : Error) (r : Result (Option HeldJob) Memory) → app ≡ command
    → (is_simple_and_free app ≡ true → HasKind (fault_of app words) error)
    → IfOk r (λ job. (job ≡ None) × (kind_of error ≢ OutOfMemory))
    → IfOk r (λ job. option_map asked_of job ≡ job_of words)
untaken_job app words error (Ok job) is fails none =
    ap (option_map asked_of) none.0 ∙ no_job app words error is (fails (ap is_simple_and_free is ∙ simple)) none.1
untaken_job app words error (Err memory) is fails none = tt
