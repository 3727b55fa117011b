use Rattle.std.proofs.Common.{◌≡◌, drop}
use Rattle.whole_items.specs.Items.{is_param}
use Rattle.whole_functions.proofs.locals.is_param.Given as goal

-- what is left answers for all
abbrev pub invariant-loop-one : goal.invariant-loop-one
invariant-loop-one l = is_param l.params l.number ≡ is_param (drop l.one-index l.params) l.number
