use Rattle.std.proofs.Common.{rules, ◌≡◌, [], ◌∷◌, ◌++◌, map, ap, ◌∙◌}
use Rattle.cx_core.specs.Views.{view_outer}
use Rattle.cx_linked.proofs.Gathered.{map_append}
use Rattle.cx_renumber.specs.Numbers.{outer_there}
use Rattle.cx_linked.proofs.parts.Linking.put_outer.Goals as goal

pub returns : goal.returns
returns c =
    let made : c.push.new.self ≡ c.args.made.now ++ c.in_ok-outer_there.field-0 ∷ [] = search rules in
    ap (map view_outer) made
    ∙ map_append view_outer c.args.made.now (c.in_ok-outer_there.field-0 ∷ [])
    ∙ ap (λ one. map view_outer c.args.made.now ++ one ∷ []) (c.in_ok-outer_there.ensures ∙ ap (λ numbers. outer_there numbers (view_outer c.args.found.now.thing.now)) c.in_ok-numbers.ensures)
