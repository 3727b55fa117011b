use Rattle.std.proofs.Common.{rules, ◌≡◌, map, option_map, Some, slice_get, slice_index_or, ap, ◌∙◌}
use Rattle.std.proofs.lemmas.Option.{slice_get-map, slice_get-get_or}
use Rattle.cx_core.specs.Views.{view_outer}
use Rattle.cx_linked.specs.Found.{view_found}
use Rattle.cx_linked.specs.Named.{is_external_prototype, name_of_outer}
use Rattle.cx_linked.proofs.FirstPlaces.{index_counts}
use Rattle.cx_linked.proofs.index.prototyped_functions.Goals as goal

pub loop-place-preserved : goal.loop-place-preserved
loop-place-preserved c =
    let one = slice_index_or c.args.all.now c.loop-place.place c.index-all-place.result in
    let there : slice_get c.args.all.now c.loop-place.place ≡ Some one =
    slice_get-get_or c.args.all.now c.loop-place.place c.index-all-place.result (search rules) in
    let is : slice_get (map (view_found view_outer) c.args.all.now) c.loop-place.place ≡ Some (view_found view_outer one) =
    slice_get-map (view_found view_outer) c.args.all.now c.loop-place.place ∙ ap (option_map (view_found view_outer)) there in
    index_counts c.loop-place.index c.note_counted.new.self is_external_prototype name_of_outer (map (view_found view_outer) c.args.all.now) c.loop-place.place _ (view_found view_outer one) c.is_prototype.result
    c.loop-place.invariant is (search rules) c.is_prototype.ensures c.in_ok-note_counted.ensures
