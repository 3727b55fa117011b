use Rattle.std.proofs.Common.{◌≡◌, map, drop}
use Rattle.rs_mean.specs.Typing.{args_fit}
use Rattle.rs_text.specs.Tree.{exprs}
use Rattle.rs_tree.specs.Views.{expr_view}
use Rattle.rs_kinds.specs.Scopes.{scope_view}
use Rattle.rs_kinds.specs.Signatures.{params_view}
use Rattle.rs_kinds.proofs.exprs.+exprs.Given as goal

-- all arguments fit just where those that are left fit the parameters that are left
abbrev pub invariant-args_fit-loop-arg : goal.invariant-args_fit-loop-arg
invariant-args_fit-loop-arg l =
    args_fit (scope_view l.scope) (params_view l.left) l.signature.variadic (exprs (map expr_view (drop l.arg-index l.args)))
    ≡ args_fit (scope_view l.scope) (params_view l.signature.params) l.signature.variadic (exprs (map expr_view l.args))
