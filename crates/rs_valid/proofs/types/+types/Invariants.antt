use Rattle.std.proofs.Common.{◌≡◌, map, drop}
use Rattle.rs_text.specs.Tree.{tys}
use Rattle.rs_text.specs.Valid.{valid_tys}
use Rattle.rs_tree.specs.Views.{ty_view}
use Rattle.rs_valid.proofs.types.+types.Given as goal

-- what is left is valid where all is
abbrev pub invariant-are_valid_tys-loop-ty : goal.invariant-are_valid_tys-loop-ty
invariant-are_valid_tys-loop-ty l = valid_tys (tys (map ty_view (drop l.ty-index l.ty-items))) ≡ valid_tys (tys (map ty_view l.ty-items))
