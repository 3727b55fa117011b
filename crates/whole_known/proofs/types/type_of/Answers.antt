use Rattle.std.proofs.Common.{◌≡◌, IfOk, subst}
use Rattle.cx_core.specs.Views.{view_type}
use Rattle.rs_items.specs.Known.{view_names}
use Rattle.rs_items.specs.Types.{TypeNames, rust_type}
use Rattle.whole_given.specs.Whole.{named}
use Rattle.rs_tree.specs.Views.{ty_view}
use Rattle.whole_known.proofs.Alike.{types_alike}
use Rattle.whole_known.proofs.types.type_of.Goals as goal

pub returns : goal.returns
returns c =
    subst (λ (types : TypeNames). IfOk c.rust_type.result (λ made. ty_view made ≡ rust_type types (view_type c.args.ty.now))) (types_alike (named c.args._whole.now) (view_names c.args.names.now).known c.requires) c.rust_type.ensures
