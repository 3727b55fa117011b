use Rattle.std.proofs.Common.{map}
use Rattle.cx_core.specs.Views.{view_mention}
use Rattle.cx_link.specs.Chains.{kind_of}
use Rattle.cx_link.proofs.Chains.{IsChained}
use Rattle.cx_link.proofs.chain.chain_of.Given as goal

abbrev pub invariant-loop-at : goal.invariant-loop-at
invariant-loop-at l = IsChained l.last l.earlier (kind_of l.kind) (map view_mention l.all) l.at
