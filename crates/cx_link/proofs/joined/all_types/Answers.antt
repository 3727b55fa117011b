use Rattle.std.proofs.Common.{rules, ◌≡◌, ◌+◌, ◌++◌, suc, map, drop, option_map, Some, slice_get, length, refl, ap, sym, subst, ◌∙◌}
use Rattle.std.proofs.lemmas.List.{drop-map}
use Rattle.std.proofs.lemmas.Option.{slice_get-map, slice_get_read}
use Rattle.cx_core.specs.Views.{view_types, view_unit}
use Rattle.cx_links.specs.Program.{counts_before, own_types, types_from, types_of_all, types_with}
use Rattle.cx_renumber.specs.Numbers.{counts_of, together}
use Rattle.cx_renumber.specs.Views.{view_counts}
use Rattle.cx_link.proofs.Joining.{counts_next, types_next}
use Rattle.cx_link.proofs.joined.all_types.Goals as goal

pub loop-one-preserved : goal.loop-one-preserved
loop-one-preserved c =
    let there : slice_get c.args.units.now c.loop-one.one-index ≡ Some c.one-item.result = slice_get_read c.args.units.now (length c.args.units.now) c.loop-one.one-index c.one-item.result refl (search rules) c.one-item.is in
    let is : slice_get (map view_unit c.args.units.now) c.loop-one.one-index ≡ Some (view_unit c.one-item.result) = slice_get-map view_unit c.args.units.now c.loop-one.one-index ∙ ap (option_map view_unit) there in
    let next : suc c.loop-one.one-index ≡ c.loop-one.one-index + 1 = search rules in
    let counts : view_counts c.in_ok-before.before ≡ together (view_counts c.loop-one.before) (counts_of (view_unit c.one-item.result)) = search rules in
    let before : view_counts c.in_ok-before.before ≡ counts_before (c.loop-one.one-index + 1) (map view_unit c.args.units.now) =
    counts ∙ ap (λ known. together known (counts_of (view_unit c.one-item.result))) c.loop-one.invariant.0 ∙ sym (counts_next (map view_unit c.args.units.now) c.loop-one.one-index (view_unit c.one-item.result) is) ∙ ap (λ n. counts_before n (map view_unit c.args.units.now)) next in
    let left : types_with (view_types c.loop-one.all) (types_from (map view_unit c.args.units.now) c.loop-one.one-index (drop c.loop-one.one-index (map view_unit c.args.units.now))) ≡ types_of_all (map view_unit c.args.units.now) =
    ap (λ others. types_with (view_types c.loop-one.all) (types_from (map view_unit c.args.units.now) c.loop-one.one-index others)) (drop-map view_unit c.loop-one.one-index c.args.units.now) ∙ c.loop-one.invariant.1 in
    let added : view_types c.add_types.new.all ≡ types_with (view_types c.loop-one.all) (own_types (counts_before c.loop-one.one-index (map view_unit c.args.units.now)) (view_unit c.one-item.result).types) =
    subst (λ known. view_types c.add_types.new.all ≡ types_with (view_types c.loop-one.all) (own_types known (view_unit c.one-item.result).types)) c.loop-one.invariant.0 (search rules) in (
      before,
      subst (λ n. types_with (view_types c.add_types.new.all) (types_from (map view_unit c.args.units.now) n (map view_unit (drop n c.args.units.now))) ≡ types_of_all (map view_unit c.args.units.now)) next
          (ap (λ others. types_with (view_types c.add_types.new.all) (types_from (map view_unit c.args.units.now) (suc c.loop-one.one-index) others)) (sym (drop-map view_unit (suc c.loop-one.one-index) c.args.units.now))
          ∙ ap (λ front. types_with front (types_from (map view_unit c.args.units.now) (suc c.loop-one.one-index) (drop (suc c.loop-one.one-index) (map view_unit c.args.units.now)))) added
          ∙ types_next (view_types c.loop-one.all) (types_of_all (map view_unit c.args.units.now)) (map view_unit c.args.units.now) c.loop-one.one-index (view_unit c.one-item.result) is left),
    )
