use Rattle.std.proofs.Common.{rules, ◌≡◌, ◌+◌, ◌++◌, [], ◌∷◌, suc, map, option_map, Some, slice_get, length, refl, ap, sym, ◌∙◌}
use Rattle.std.proofs.lemmas.Option.{slice_get-map, slice_get_read}
use Rattle.cx_core.specs.Views.{view_unit}
use Rattle.cx_links.specs.Program.{counts_before}
use Rattle.cx_link.proofs.Joining.{counts_next}
use Rattle.cx_linked.specs.Named.{before_alone}
use Rattle.cx_linked.proofs.Gathered.{each_goes, map_append}
use Rattle.cx_renumber.specs.Numbers.{counts_of, together}
use Rattle.cx_renumber.specs.Views.{view_counts}
use Rattle.cx_linked.proofs.named.all_before.Goals as goal

pub loop-one-preserved : goal.loop-one-preserved
loop-one-preserved c =
    let there : slice_get c.args.units.now c.loop-one.one-index ≡ Some c.one-item.result = slice_get_read c.args.units.now (length c.args.units.now) c.loop-one.one-index c.one-item.result refl (search rules) c.one-item.is in
    let is : slice_get (map view_unit c.args.units.now) c.loop-one.one-index ≡ Some (view_unit c.one-item.result) = slice_get-map view_unit c.args.units.now c.loop-one.one-index ∙ ap (option_map view_unit) there in
    let next : suc c.loop-one.one-index ≡ c.loop-one.one-index + 1 = search rules in
    let counts : view_counts c.in_ok-before.before ≡ together (view_counts c.loop-one.before) (counts_of (view_unit c.one-item.result)) = search rules in
    let pushed : c.loop-one.all ++ c.loop-one.before ∷ [] ≡ c.push.new.self = search rules in
    let added : map view_counts c.push.new.self ≡ map view_counts c.loop-one.all ++ view_counts c.loop-one.before ∷ [] =
    ap (map view_counts) (sym pushed) ∙ map_append view_counts c.loop-one.all (c.loop-one.before ∷ []) in (
      counts ∙ ap (λ known. together known (counts_of (view_unit c.one-item.result))) c.loop-one.invariant.0 ∙ sym (counts_next (map view_unit c.args.units.now) c.loop-one.one-index (view_unit c.one-item.result) is) ∙ ap (λ n. counts_before n (map view_unit c.args.units.now)) next,
      each_goes view_unit (before_alone (map view_unit c.args.units.now)) _ _ _ c.loop-one.one-index _ c.args.units.now c.one-item.result there (sym next) (added ∙ ap (λ known. map view_counts c.loop-one.all ++ known ∷ []) c.loop-one.invariant.0) c.loop-one.invariant.1,
    )
