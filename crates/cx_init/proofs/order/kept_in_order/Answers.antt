use Rattle.std.proofs.Common.{◌≡◌, ap, ◌∙◌, sym, subst, IfOk, map, length}
use Rattle.std.proofs.lemmas.List.{length-map}
use Rattle.cx_core.specs.Views.{view_type}
use Rattle.cx_init.proofs.Ordering.{flags_length, kept_is}
use Rattle.cx_init.proofs.Rising.{risen}
use Rattle.cx_init.specs.Orders.{all_rise, kept_flags, chosen}
use Rattle.cx_init.specs.Views.{view_stored}
use Rattle.cx_kinds.specs.Known.{types_in}
use Rattle.cx_rules.specs.Initial.{in_order}
use Rattle.cx_init.proofs.order.kept_in_order.Goals as goal

pub returns-then-all_rise : goal.returns-then-all_rise
returns-then-all_rise c = risen (types_in c.args.known) (view_type c.args.t.now) (map view_stored c.args.stored)
    (ap (λ held. all_rise (types_in c.args.known) (view_type c.args.t.now) (map view_stored held)) (sym c.as_slice.ensures) ∙ sym c.all_rise.ensures ∙ c.if-all_rise.true)

pub chosen_in_order-requires : goal.chosen_in_order-requires
chosen_in_order-requires c = ap length c.in_ok-flags.ensures ∙ flags_length (types_in c.args.known) (view_type c.args.t.now) (map view_stored c.as_slice-2.result.now)
    ∙ length-map c.as_slice-2.result.now view_stored ∙ ap length c.as_slice-2.ensures

pub returns : goal.returns
returns c = subst (λ kept. IfOk c.chosen_in_order.result (λ made. map view_stored made ≡ in_order kept))
    (ap (λ flags. chosen flags (map view_stored c.args.stored)) (c.in_ok-flags.ensures ∙ ap (λ held. kept_flags (types_in c.args.known) (view_type c.args.t.now) (map view_stored held)) c.as_slice-2.ensures)
    ∙ kept_is (types_in c.args.known) (view_type c.args.t.now) (map view_stored c.args.stored))
    c.chosen_in_order.ensures
