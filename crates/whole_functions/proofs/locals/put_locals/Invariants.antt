use Rattle.std.proofs.Common.{◌≡◌, map, drop}
use Rattle.cx_core.specs.Views.{view_function}
use Rattle.rs_tree.specs.Views.{local_view, ty_view}
use Rattle.whole_functions.specs.Locals.{locals_behind}
use Rattle.whole_given.specs.Whole.{named}
use Rattle.whole_locals.specs.Names.{view_local}
use Rattle.whole_functions.proofs.locals.put_locals.Given as goal

abbrev pub invariant-loop-one : goal.invariant-loop-one
invariant-loop-one l =
    locals_behind (named l.whole) (view_function l.fun) (map ty_view l.temporaries) (map view_local (drop l.one-index l.keys)) (map local_view l.locals)
    ≡ locals_behind (named l.whole) (view_function l.fun) (map ty_view l.temporaries) (map view_local l.keys) (map local_view l.fn.locals)
