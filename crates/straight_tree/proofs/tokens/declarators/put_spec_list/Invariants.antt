use Rattle.std.proofs.Common.{◌≡◌, ◌++◌, map, drop}
use Rattle.straight_tree.specs.Tokens.{spec_list_tokens}
use Rattle.straight_tree.specs.Views.{spec_view, specs_list}
use Rattle.straight_tree.proofs.tokens.declarators.put_spec_list.Given as goal

abbrev pub invariant-loop-spec : goal.invariant-loop-spec
invariant-loop-spec l = l.out ++ spec_list_tokens (specs_list (map spec_view (drop l.spec-index l.list))) l.ahead ≡ l.fn.out ++ spec_list_tokens (specs_list (map spec_view l.list)) l.fn.lines
