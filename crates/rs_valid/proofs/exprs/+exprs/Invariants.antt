use Rattle.std.proofs.Common.{◌≡◌, map, drop}
use Rattle.rs_text.specs.Tree.{exprs}
use Rattle.rs_text.specs.Valid.{valid_exprs}
use Rattle.rs_tree.specs.Views.{expr_view}
use Rattle.rs_valid.proofs.exprs.+exprs.Given as goal

-- what is left is valid where all is
abbrev pub invariant-are_valid_exprs-loop-arg : goal.invariant-are_valid_exprs-loop-arg
invariant-are_valid_exprs-loop-arg l = valid_exprs (exprs (map expr_view (drop l.arg-index l.arg-items))) ≡ valid_exprs (exprs (map expr_view l.arg-items))
