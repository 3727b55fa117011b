-- One parameter alone.
use Rattle.std.proofs.Common.{arith, ◌≡◌, refl, ◌≤◌, ◌<◌, Bool, true, false, not, List, [], ◌∷◌, length, map}
use Rattle.cx_rules.specs.Pieces.{is_single}
use Rattle.cx_tree.specs.Views.{param_view, params as param_trees}
use Rattle.cx_tree.specs.declared.declarator.Param.{Param}

pub single : (list : List Param) (variadic : Bool) → 1 ≤ length list → length list < 2 → not variadic ≡ is_single (param_trees (map param_view list)) variadic
single [] variadic least below = absurd (omega arith)
single (one ∷ []) true least below = refl
single (one ∷ []) false least below = refl
single (one ∷ other ∷ list) variadic least below = absurd (omega arith)

pub several : (list : List Param) (variadic : Bool) → 2 ≤ length list → false ≡ is_single (param_trees (map param_view list)) variadic
several [] variadic least = absurd (omega arith)
several (one ∷ []) variadic least = absurd (omega arith)
several (one ∷ other ∷ list) true least = refl
several (one ∷ other ∷ list) false least = refl
