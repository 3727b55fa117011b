use Rattle.std.proofs.Common.{rules, ◌≡◌, map, refl, ap, sym, ◌∙◌}
use Rattle.cx_core.specs.Trees.{CTypes}
use Rattle.cx_core.specs.Views.{view_order, view_types}
use Rattle.cx_links.specs.Program.{linked, types_of_all}
use Rattle.cx_linked.specs.Linking.{units_in}
use Rattle.cx_linked.specs.Named.{all_orders, with_things}
use Rattle.cx_linked.proofs.Gathered.{program_is}
use Rattle.cx_linked.proofs.program.parts_with.Goals as goal

pub returns : goal.returns
returns c =
    let units = units_in c.args.linking.now in
    c.in_ok-add_things.ensures
    ∙ ap (λ (types : CTypes). with_things units types (map view_order c.in_ok-orders.orders)) (c.in_ok-types.ensures ∙ ap types_of_all (sym c.requires.units))
    ∙ ap (with_things units (types_of_all units)) c.in_ok-orders.ensures
    ∙ program_is units (with_things units (types_of_all units) (all_orders units)) refl refl refl refl refl
    ∙ ap linked c.requires.units
