use Rattle.std.proofs.Common.{◌≡◌, drop}
use Rattle.rs_text.specs.Names.{is_among}
use Rattle.rs_items_modules.proofs.modules.is_taken.Given as goal

-- what is left answers for all
abbrev pub invariant-loop-one : goal.invariant-loop-one
invariant-loop-one l = is_among l.taken l.name ≡ is_among (drop l.one-index l.taken) l.name
