use Rattle.std.proofs.Common.{option_map, ap, sym, ◌∙◌}
use Rattle.std.specs.Option.{option_copied}
use Rattle.cx_core.specs.Views.{view_outer}
use Rattle.cx_links.specs.Program.{declared_function, first_unit, or_other}
use Rattle.cx_linked.specs.Found.{view_found}
use Rattle.cx_linked.specs.Named.{units_of}
use Rattle.cx_linked.proofs.FirstPlaces.{outer_is, prototype_is}
use Rattle.cx_linked.proofs.named.Named.outer_of_name.Goals as goal

pub returns-in-Some : goal.returns-in-Some
returns-in-Some c =
    ap (λ found. or_other found (first_unit (declared_function c.args.name.now) 0 (units_of c.args.self.now)))
    (ap (λ o. option_map (view_found view_outer) (option_copied o)) (sym c.in-Some.is)
    ∙ prototype_is c.args.self.now (units_of c.args.self.now) c.requires.known c.args.name.now (option_copied c.found_by.result) c.found_by.ensures)

pub returns-in-None : goal.returns-in-None
returns-in-None c =
    outer_is c.args.self.now (units_of c.args.self.now) c.requires.known c.args.name.now (option_copied c.found_by-in-None.result) c.found_by-in-None.ensures
    ∙ ap (λ found. or_other found (first_unit (declared_function c.args.name.now) 0 (units_of c.args.self.now)))
    (ap (λ o. option_map (view_found view_outer) (option_copied o)) (sym c.in-None.is)
    ∙ prototype_is c.args.self.now (units_of c.args.self.now) c.requires.known c.args.name.now (option_copied c.found_by.result) c.found_by.ensures)
