use Rattle.std.proofs.Common.{rules, ◌≡◌, option_map, Some, slice_get, length, refl, ap, ◌∙◌}
use Rattle.std.proofs.lemmas.Option.{slice_get-map, slice_get_read}
use Rattle.cx_core.specs.Views.{view_function}
use Rattle.cx_linked.specs.Found.{view_found}
use Rattle.cx_linked.specs.Linking.{units_in}
use Rattle.cx_linked.specs.Named.{function_renumbered}
use Rattle.cx_linked.proofs.Gathered.{map_goes}
use Rattle.cx_linked.proofs.parts.Linking.functions.Goals as goal

pub add_function-requires-clause-at : goal.add_function-requires-clause-at
add_function-requires-clause-at c =
    let there : slice_get c.args.all.now c.loop-place.place ≡ Some c.index-all-place.result =
    slice_get_read c.args.all.now (length c.args.all.now) c.loop-place.place c.index-all-place.result refl (search rules) c.index-all-place.is in
    c.requires.at c.loop-place.place (view_found view_function c.index-all-place.result) (slice_get-map (view_found view_function) c.args.all.now c.loop-place.place ∙ ap (option_map (view_found view_function)) there)

pub loop-place-preserved : goal.loop-place-preserved
loop-place-preserved c =
    let there : slice_get c.args.all.now c.loop-place.place ≡ Some c.index-all-place.result =
    slice_get_read c.args.all.now (length c.args.all.now) c.loop-place.place c.index-all-place.result refl (search rules) c.index-all-place.is in
    map_goes (view_found view_function) (function_renumbered (units_in c.args.self.now)) _ _ _ c.loop-place.place _ c.args.all.now c.index-all-place.result there (search rules) (search rules) c.loop-place.invariant
