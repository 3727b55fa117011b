use Rattle.std.proofs.Common.{◌≡◌, map, drop}
use Rattle.cx_core.specs.Views.{view_function}
use Rattle.rs_tree.specs.Views.{local_view}
use Rattle.whole_functions.specs.Locals.{params_behind}
use Rattle.whole_given.specs.Whole.{named}
use Rattle.whole_locals.specs.Names.{view_local}
use Rattle.whole_functions.proofs.locals.put_params.Given as goal

abbrev pub invariant-loop-one : goal.invariant-loop-one
invariant-loop-one l =
    params_behind (named l.whole) (view_function l.fun) (map view_local (drop l.one-index l.keys)) (map local_view l.params)
    ≡ params_behind (named l.whole) (view_function l.fun) (map view_local l.keys) (map local_view l.fn.params)
