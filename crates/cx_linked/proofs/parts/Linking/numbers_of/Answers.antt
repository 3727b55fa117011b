use Rattle.std.proofs.Common.{rules, ◌≡◌, map, option_map, Some, slice_get, ap, ◌∙◌}
use Rattle.std.proofs.lemmas.Option.{slice_get-map}
use Rattle.cx_core.specs.Views.{view_unit}
use Rattle.cx_linked.specs.Linking.{units_in}
use Rattle.cx_linked.proofs.Gathered.{numbers_kept}
use Rattle.cx_renumber.specs.Views.{view_numbers}
use Rattle.cx_linked.proofs.parts.Linking.numbers_of.Goals as goal

pub returns-in-Some : goal.returns-in-Some
returns-in-Some g c =
    let got : slice_get c.args.self.now.numbers c.args.found.now.unit ≡ Some c.in-Some.numbers.now = search rules in
    numbers_kept (units_in c.args.self.now) (map view_numbers c.args.self.now.numbers) c.args.found.now.unit (view_unit c.args.found.now.home.now) _ c.requires.known.numbers c.requires.at
    (slice_get-map view_numbers c.args.self.now.numbers c.args.found.now.unit ∙ ap (option_map view_numbers) got)
