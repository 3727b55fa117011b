use Rattle.std.proofs.Common.{option_map, ap, sym, ◌∙◌}
use Rattle.std.specs.Option.{option_copied}
use Rattle.cx_core.specs.Views.{view_object}
use Rattle.cx_linked.specs.Found.{view_found}
use Rattle.cx_linked.specs.Linking.{units_in}
use Rattle.cx_linked.proofs.Gathered.{object_at_unit}
use Rattle.cx_linked.proofs.parts.Linking.put_named.Goals as goal

pub put_object-requires-clause-at : goal.put_object-requires-clause-at
put_object-requires-clause-at c =
    object_at_unit (units_in c.args.self.now) c.args.name.now (view_found view_object c.in-Some.found.now)
    (sym (ap (λ o. option_map (view_found view_object) (option_copied o)) (sym c.in-Some.is) ∙ c.object_of_name.ensures))
