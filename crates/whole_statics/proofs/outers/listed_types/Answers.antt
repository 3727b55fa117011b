use Rattle.std.proofs.Common.{◌≡◌, List, IfOk, map, subst}
use Rattle.cx_core.specs.Views as core
use Rattle.cx_core.specs.Views.{view_type}
use Rattle.rs_text.specs.Tree.{Ty}
use Rattle.rs_tree.specs.Views.{ty_view}
use Rattle.whole_given.specs.Whole.{named}
use Rattle.whole_names.specs.Kept.{types_of}
use Rattle.whole_statics.proofs.Declared.{types_are}
use Rattle.whole_statics.proofs.outers.listed_types.Goals as goal

pub returns : goal.returns
returns c =
    subst (λ (list : List Ty). IfOk c.param_types.result (λ made. map ty_view made ≡ list)) (types_are (types_of (named c.args.whole.now)) (core.types_of (map view_type c.args.types.now)))
    c.param_types.ensures
