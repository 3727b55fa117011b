use Rattle.std.proofs.Common.{◌≡◌, drop, bytes_eq}
use Rattle.std.specs.List.{list_any}
use Rattle.rs_valid.specs.Lists.{names_of}
use Rattle.rs_valid.proofs.crates.have_name.Given as goal

-- what is left answers for all
abbrev pub invariant-loop-module : goal.invariant-loop-module
invariant-loop-module l = list_any (λ other. bytes_eq other l.name) (names_of (drop l.module-index l.modules)) ≡ list_any (λ other. bytes_eq other l.name) (names_of l.modules)
