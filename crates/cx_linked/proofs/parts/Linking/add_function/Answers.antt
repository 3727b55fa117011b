use Rattle.std.proofs.Common.{rules, ◌≡◌, [], ◌∷◌, ◌++◌, map, ap, ◌∙◌}
use Rattle.cx_core.specs.Views.{view_function}
use Rattle.cx_linked.proofs.Gathered.{map_append}
use Rattle.cx_renumber.specs.Numbers.{function_there}
use Rattle.cx_linked.proofs.parts.Linking.add_function.Goals as goal

pub returns : goal.returns
returns c =
    let made : c.push.new.self ≡ c.args.made.now ++ c.in_ok-function_there.field-0 ∷ [] = search rules in
    ap (map view_function) made
    ∙ map_append view_function c.args.made.now (c.in_ok-function_there.field-0 ∷ [])
    ∙ ap (λ one. map view_function c.args.made.now ++ one ∷ []) (c.in_ok-function_there.ensures ∙ ap (λ numbers. function_there numbers (view_function c.args.found.now.thing.now)) c.in_ok-numbers.ensures)
