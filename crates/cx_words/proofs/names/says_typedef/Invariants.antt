use Rattle.std.proofs.Common.{◌≡◌, ◌||◌, map, drop}
use Rattle.cx_tree.specs.Names.{says_typedef}
use Rattle.cx_tree.specs.Views.{spec_view, specs}
use Rattle.cx_words.proofs.names.says_typedef.Given as goal

abbrev pub invariant-loop-spec : goal.invariant-loop-spec
invariant-loop-spec l = (l.found || says_typedef (specs (map spec_view (drop l.spec-index l.specs)))) ≡ says_typedef (specs (map spec_view l.specs))
