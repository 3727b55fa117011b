use Rattle.std.proofs.Common.{rules, ◌≡◌, [], ◌∷◌, ◌++◌, map, ap, ◌∙◌}
use Rattle.cx_core.specs.Views.{view_object}
use Rattle.cx_linked.proofs.Gathered.{map_append}
use Rattle.cx_renumber.specs.Numbers.{object_there}
use Rattle.cx_linked.proofs.parts.Linking.put_object.Goals as goal

pub returns : goal.returns
returns c =
    let made : c.push.new.self ≡ c.args.made.now ++ c.in_ok-object_there.field-0 ∷ [] = search rules in
    ap (map view_object) made
    ∙ map_append view_object c.args.made.now (c.in_ok-object_there.field-0 ∷ [])
    ∙ ap (λ one. map view_object c.args.made.now ++ one ∷ []) (c.in_ok-object_there.ensures ∙ ap (λ numbers. object_there numbers (view_object c.args.found.now.thing.now)) c.in_ok-numbers.ensures)
