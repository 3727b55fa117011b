-- Want of memory where files are run.
use Rattle.std.proofs.Common.{◌≡◌, inl, inr, refl, ℕ, true, List}
use Rattle.ext_calls.specs.Host.{HostState}
use Rattle.rs_mean.specs.Typing.{well_typed}
use Rattle.rs_text.specs.Reads.{ReadsAs}
use Rattle.rs_text.specs.Tree.{CrateTree}
use Rattle.run_ends.specs.Runs.{IsWanting}
use Rattle.rust_job.specs.declared.fault.CrateFault.{CrateFault}
use Rattle.rust_job.specs.declared.fault.CrateFault.TheVariants.{NotRust, IllTyped, Memory}
use Rattle.rust_job.specs.Meaning.{MayWant, meaning_of}
use Rattle.shelf.specs.declared.file.File.{File}

-- no run had begun
pub never_begun : (files : List File) (units : ℕ) (why : CrateFault) (host : HostState) → MayWant files units why host host
never_begun files units (NotRust file line) host = tt
never_begun files units (IllTyped name item) host = tt
never_begun files units Memory host = inl refl

pub may_want : (files : List File) (units : ℕ) (whole : CrateTree) (host later : HostState) → ReadsAs files whole → well_typed whole ≡ true → IsWanting (meaning_of whole) units host later →
    MayWant files units Memory host later
may_want files units whole host later read typed wants = inr (record { whole = whole; read = read; typed = typed; wants = wants })
