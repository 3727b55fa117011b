use Rattle.std.proofs.Common.{rules, ◌≡◌, ◌+◌, ◌++◌, suc, map, drop, option_map, Some, slice_get, length, refl, ap, sym, subst, ◌∙◌}
use Rattle.std.proofs.lemmas.List.{drop-map}
use Rattle.std.proofs.lemmas.Option.{slice_get-map, slice_get_read}
use Rattle.cx_core.specs.Views.{view_mention, view_unit}
use Rattle.cx_links.specs.Program.{all_mentions, counts_before, mentions_from}
use Rattle.cx_renumber.specs.Numbers.{counts_of, mention_there, together}
use Rattle.cx_renumber.specs.Views.{view_counts}
use Rattle.cx_link.proofs.Joining.{counts_next, mentions_next}
use Rattle.cx_link.proofs.joined.all_mentions.Goals as goal

pub loop-number-preserved : goal.loop-number-preserved
loop-number-preserved c =
    let there : slice_get c.args.units.now c.loop-number.number ≡ Some c.index-units-number.result = slice_get_read c.args.units.now (length c.args.units.now) c.loop-number.number c.index-units-number.result refl (search rules) c.index-units-number.is in
    let is : slice_get (map view_unit c.args.units.now) c.loop-number.number ≡ Some (view_unit c.index-units-number.result) = slice_get-map view_unit c.args.units.now c.loop-number.number ∙ ap (option_map view_unit) there in
    let next : suc c.loop-number.number ≡ c.loop-number.number + 1 = search rules in
    let counts : view_counts c.in_ok-before.before ≡ together (view_counts c.loop-number.before) (counts_of (view_unit c.index-units-number.result)) = search rules in
    let before : view_counts c.in_ok-before.before ≡ counts_before (c.loop-number.number + 1) (map view_unit c.args.units.now) =
    counts ∙ ap (λ known. together known (counts_of (view_unit c.index-units-number.result))) c.loop-number.invariant.0 ∙ sym (counts_next (map view_unit c.args.units.now) c.loop-number.number (view_unit c.index-units-number.result) is) ∙ ap (λ n. counts_before n (map view_unit c.args.units.now)) next in
    let left : map view_mention c.loop-number.all ++ mentions_from c.loop-number.number (map view_unit c.args.units.now) (drop c.loop-number.number (map view_unit c.args.units.now)) ≡ all_mentions (map view_unit c.args.units.now) =
    ap (λ others. map view_mention c.loop-number.all ++ mentions_from c.loop-number.number (map view_unit c.args.units.now) others) (drop-map view_unit c.loop-number.number c.args.units.now) ∙ c.loop-number.invariant.1 in
    let added : map view_mention c.add_mentions.new.all ≡ map view_mention c.loop-number.all ++ map (mention_there (counts_before c.loop-number.number (map view_unit c.args.units.now)) c.loop-number.number) (view_unit c.index-units-number.result).mentions =
    subst (λ known. map view_mention c.add_mentions.new.all ≡ map view_mention c.loop-number.all ++ map (mention_there known c.loop-number.number) (view_unit c.index-units-number.result).mentions) c.loop-number.invariant.0 (search rules) in (
      before,
      subst (λ n. map view_mention c.add_mentions.new.all ++ mentions_from n (map view_unit c.args.units.now) (map view_unit (drop n c.args.units.now)) ≡ all_mentions (map view_unit c.args.units.now)) next
          (ap (λ others. map view_mention c.add_mentions.new.all ++ mentions_from (suc c.loop-number.number) (map view_unit c.args.units.now) others) (sym (drop-map view_unit (suc c.loop-number.number) c.args.units.now))
          ∙ ap (λ front. front ++ mentions_from (suc c.loop-number.number) (map view_unit c.args.units.now) (drop (suc c.loop-number.number) (map view_unit c.args.units.now))) added
          ∙ mentions_next (map view_mention c.loop-number.all) (all_mentions (map view_unit c.args.units.now)) (map view_unit c.args.units.now) c.loop-number.number (view_unit c.index-units-number.result) is left),
    )
