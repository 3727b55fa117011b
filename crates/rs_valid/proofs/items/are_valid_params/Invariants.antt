use Rattle.std.proofs.Common.{◌≡◌, map, drop}
use Rattle.std.specs.List.{list_all}
use Rattle.rs_text.specs.Valid.{valid_ty}
use Rattle.rs_tree.specs.Views.{ty_view}
use Rattle.rs_valid.proofs.items.are_valid_params.Given as goal

-- what is left is valid where all is
abbrev pub invariant-loop-ty : goal.invariant-loop-ty
invariant-loop-ty l = list_all valid_ty (map ty_view (drop l.ty-index l.ty-items)) ≡ list_all valid_ty (map ty_view l.ty-items)
