use Rattle.std.proofs.Common.{ap, sym, ◌∙◌, ◌++◌, map}
use Rattle.std.proofs.lemmas.List.{append-nil, drop_all}
use Rattle.cx_core.specs.Views.{view_type}
use Rattle.cx_shapes.proofs.ParamTypes.{types_of_params}
use Rattle.cx_shapes.proofs.derivation.param_types.Goals as goal

pub returns : goal.returns
returns c =
    types_of_params _ c.args.params.now (sym (append-nil (map view_type c.loop-one.types))
    ∙ ap (λ left. map view_type c.loop-one.types ++ map (λ one. view_type one.ty) left) (sym (drop_all c.loop-one.one-index c.args.params.now c.loop-one-test.false))
    ∙ c.loop-one.invariant)
