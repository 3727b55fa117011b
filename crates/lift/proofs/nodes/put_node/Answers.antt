use Rattle.std.proofs.Common.{◌≡◌, IfOk, subst}
use Rattle.cx_core.specs.Views.{view_type}
use Rattle.lift.specs.Texts.{names_of}
use Rattle.lift_exprs.specs.Objects.{part_target}
use Rattle.lift_exprs.specs.Stores.{stored_value, stores}
use Rattle.lift_forms.specs.Given.{nothing}
use Rattle.lift_stores.specs.Names.{lift_names}
use Rattle.lift_stores.specs.Texts.{then_does}
use Rattle.lift_stores.specs.Views.{text_view}
use Rattle.rs_items.specs.Known.{view_names}
use Rattle.rs_text.specs.Tree.{Place}
use Rattle.lift.proofs.nodes.put_node.Goals as goal

pub returns : goal.returns
unfolding names_of
returns c =
    subst (λ (p : Place). IfOk c.put_in.result (λ made. text_view made ≡ then_does
    (stores (part_target (lift_names (view_names c.args.names.now)) (view_type c.args.filled.now) p c.args.spot (view_type c.args.ty.now))
    (stored_value (part_target (lift_names (view_names c.args.names.now)) (view_type c.args.filled.now) p c.args.spot (view_type c.args.ty.now)) (text_view c.args.one).given))
    nothing (text_view c.args.one))) c.in_ok-place.ensures c.put_in.ensures
