use Rattle.std.proofs.Common.{◌≡◌, map, drop}
use Rattle.rs_mean.specs.Scalars.{same_types}
use Rattle.rs_text.specs.Tree.{tys}
use Rattle.rs_tree.specs.Views.{ty_view}
use Rattle.rs_same.proofs.same.+same.Given as goal

-- the types that are left are equal just where all are
abbrev pub invariant-same_types-loop-one : goal.invariant-same_types-loop-one
invariant-same_types-loop-one l =
    same_types (tys (map ty_view (drop l.one-index l.ones))) (tys (map ty_view l.left))
    ≡ same_types (tys (map ty_view l.ones)) (tys (map ty_view l.others))
