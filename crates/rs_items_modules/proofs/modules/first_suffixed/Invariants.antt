use Rattle.std.proofs.Common.{suc}
use Rattle.rs_items_modules.specs.Modules.{module_candidate}
use Rattle.rs_items_sets.specs.Names.{AreGone}
use Rattle.rs_items_modules.proofs.modules.first_suffixed.Given as goal

-- the candidates so far are gone
abbrev pub invariant-loop-number : goal.invariant-loop-number
invariant-loop-number l = AreGone l.taken (module_candidate l.word) (suc l.number)
