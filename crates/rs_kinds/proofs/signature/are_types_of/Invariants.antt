use Rattle.std.proofs.Common.{◌≡◌, map, drop}
use Rattle.rs_mean.specs.Scalars.{same_types}
use Rattle.rs_text.specs.Tree.{tys, LocalTree}
use Rattle.rs_tree.specs.Views.{ty_view, local_view}
use Rattle.rs_kinds.proofs.signature.are_types_of.Given as goal

-- the types that are left are equal just where all are
abbrev pub invariant-loop-ty : goal.invariant-loop-ty
invariant-loop-ty l =
    same_types (tys (map ty_view (drop l.ty-index l.types))) (tys (map (λ (param : LocalTree). param.ty) (map local_view l.left)))
    ≡ same_types (tys (map ty_view l.types)) (tys (map (λ (param : LocalTree). param.ty) (map local_view l.params)))
