use Rattle.std.proofs.Common.{◌≡◌, ◌++◌, map, drop}
use Rattle.straight_tree.specs.Tokens.{joined, externals_tokens}
use Rattle.straight_tree.specs.Views.{external_view}
use Rattle.straight_tree.proofs.tokens.put_externals.Given as goal

abbrev pub invariant-loop-part : goal.invariant-loop-part
invariant-loop-part l = l.out ++ joined (externals_tokens (map external_view (drop l.part-index l.parts))) ≡ l.fn.out ++ joined (externals_tokens (map external_view l.parts))
