use Rattle.std.proofs.Common.{List, ap, map}
use Rattle.cx_core.specs.Views.{view_function}
use Rattle.rs_tree.specs.Views.{local_view, ty_view}
use Rattle.rs_tree.specs.declared.item.Local.{Local}
use Rattle.whole_functions.proofs.Listed.{locals_are}
use Rattle.whole_given.specs.Whole.{named}
use Rattle.whole_locals.specs.Names.{view_local}
use Rattle.whole_functions.proofs.functions.locals_of.Goals as goal

pub returns : goal.returns
returns c =
    locals_are (named c.args.whole.now) (view_function c.args.fun.now) (map ty_view c.args.temporaries.now) c.args.has_dispatch (map view_local c.args.keys.now)
    (map local_view c.new-locals.result) (map local_view c.put_locals.new.locals) (map local_view c.put_dispatch.new.locals)
    (ap (λ (list : List Local). map local_view list) c.new-locals.ensures) c.in_ok-put_locals.ensures c.in_ok-put_dispatch.ensures
