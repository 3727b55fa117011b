use Rattle.std.proofs.Common.{rules, ◌≡◌, map, option_map, Some, slice_get, ap, ◌∙◌}
use Rattle.std.proofs.lemmas.Option.{slice_get-map}
use Rattle.cx_linked.specs.Named.{units_of}
use Rattle.cx_linked.proofs.Gathered.{before_kept}
use Rattle.cx_renumber.specs.Views.{view_counts}
use Rattle.cx_linked.proofs.named.Named.before_of.Goals as goal

pub returns-in-Some : goal.returns-in-Some
returns-in-Some c =
    let got : slice_get c.args.self.now.before c.args.unit ≡ Some c.in-Some.before.now = search rules in
    before_kept (units_of c.args.self.now) (map view_counts c.args.self.now.before) c.args.unit _ c.requires.known.before
    (slice_get-map view_counts c.args.self.now.before c.args.unit ∙ ap (option_map view_counts) got)
