use Rattle.std.proofs.Common.{◌≡◌, ◌++◌, map, drop}
use Rattle.cx_core.specs.Views.{view_type}
use Rattle.cx_shapes.proofs.derivation.param_types.Given as goal

-- the types that were copied, and those of the parameters that are left
abbrev pub invariant-loop-one : goal.invariant-loop-one
invariant-loop-one l =
    map view_type l.types ++ map (λ one. view_type one.ty) (drop l.one-index l.params) ≡ map (λ one. view_type one.ty) l.params
