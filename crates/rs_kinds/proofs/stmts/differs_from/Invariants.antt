use Rattle.std.proofs.Common.{◌≡◌, map, drop}
use Rattle.rs_mean.specs.Typing.{arm_differs}
use Rattle.rs_text.specs.Tree.{arms}
use Rattle.rs_tree.specs.Views.{arm_view}
use Rattle.rs_kinds.proofs.stmts.differs_from.Given as goal

-- the value differs from all just where it differs from those that are left
abbrev pub invariant-loop-arm : goal.invariant-loop-arm
invariant-loop-arm l = arm_differs l.value (arms (map arm_view (drop l.arm-index l.others))) ≡ arm_differs l.value (arms (map arm_view l.others))
