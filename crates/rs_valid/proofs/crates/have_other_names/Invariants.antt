use Rattle.std.proofs.Common.{◌≡◌, length}
use Rattle.rs_text.specs.Valid.{all_differ}
use Rattle.rs_valid.specs.Lists.{names_of}
use Rattle.rs_valid.proofs.crates.have_other_names.Given as goal

-- what is left answers for all
abbrev pub invariant-loop-rest : goal.invariant-loop-rest
invariant-loop-rest l = all_differ (names_of l.rest) ≡ all_differ (names_of l.modules)

abbrev pub decreases-loop-rest : goal.decreases-loop-rest
decreases-loop-rest l = length l.rest
