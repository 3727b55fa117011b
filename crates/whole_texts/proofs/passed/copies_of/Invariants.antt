use Rattle.std.proofs.Common.{◌≡◌, ◌++◌, drop, map}
use Rattle.build_flow_code.specs.Bodies.{body_of}
use Rattle.rs_tree.specs.Views.{stmt_view}
use Rattle.whole_texts.specs.Texts.{copies_of}
use Rattle.whole_texts.specs.Views.{passed_view}
use Rattle.whole_texts.proofs.passed.copies_of.Given as goal

abbrev pub invariant-loop-one : goal.invariant-loop-one
invariant-loop-one l =
    map stmt_view l.made ++ copies_of (body_of l.of).names (map passed_view (drop l.one-index l.passed)) ≡ copies_of (body_of l.of).names (map passed_view l.passed)
