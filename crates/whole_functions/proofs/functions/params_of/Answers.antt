use Rattle.std.proofs.Common.{List, ap, map}
use Rattle.cx_core.specs.Views.{view_function}
use Rattle.rs_tree.specs.Views.{local_view}
use Rattle.rs_tree.specs.declared.item.Local.{Local}
use Rattle.whole_functions.proofs.Listed.{params_are}
use Rattle.whole_given.specs.Whole.{named}
use Rattle.whole_locals.specs.Names.{view_local}
use Rattle.whole_functions.proofs.functions.params_of.Goals as goal

pub returns : goal.returns
returns c =
    params_are (named c.args.whole.now) (view_function c.args.fun.now) (map view_local c.args.keys.now) (map local_view c.new-params.result) (map local_view c.put_params.new.params)
    (ap (λ (list : List Local). map local_view list) c.new-params.ensures) c.in_ok-put_params.ensures
