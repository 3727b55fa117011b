use Rattle.std.proofs.Common.{◌≡◌, ◌-◌, ◌^◌, min, max, map, drop}
use Rattle.cx_tree.specs.Depth.{init_declarators_depth}
use Rattle.cx_tree.specs.Views.{init_declarator_view}
use Rattle.cx_print.proofs.depths.init_declarators_depth.Given as goal

abbrev pub invariant-loop-declarator : goal.invariant-loop-declarator
invariant-loop-declarator l = max l.deepest (min (init_declarators_depth (map init_declarator_view (drop l.declarator-index l.list))) (2 ^ 64 - 1)) ≡ min (init_declarators_depth (map init_declarator_view l.list)) (2 ^ 64 - 1)
