use Rattle.std.proofs.Common.{◌∙◌, ℕ, not, List, ◌++◌, [], ◌∷◌, map, ap, refl}
use Rattle.std.specs.List.{filter}
use Rattle.emit_nests.specs.Views.{nest_view}
use Rattle.emit_rules.specs.Nests.{nest_nodes}
use Rattle.emit_rules.specs.Sorting.{Inner, nest_of}
use Rattle.reloop.specs.Graphs.{is_in}
use Rattle.emit_sorting.proofs.Filled.{map_append}
use Rattle.emit_sorting.proofs.Held.{behind_more}
use Rattle.emit_places.specs.Sorted.{inner_view}
use Rattle.emit_sorting.proofs.filling.behind_nodes.Goals as goal

pub loop-nest-preserved : goal.loop-nest-preserved
loop-nest-preserved c =
    behind_more (map nest_view c.loop-nest.made) (map nest_view c.put_held.new.made) c.args.nests.now c.args.nests.now c.loop-nest.nest-index c.nest-item.result (map inner_view c.loop-nest.left) (map inner_view c.in_ok-left-2.left) _
    refl c.nest-item.is c.loop-nest-test.true (c.in_ok-put_held.ensures
    ∙ ap (λ (nodes : List ℕ). map nest_view c.push.new.self ++ map nest_of (filter (λ (inner : Inner). is_in inner.node nodes) (map inner_view c.as_slice-in-loop-nest.result.now))) (c.as_slice.ensures ∙ c.in_ok-nodes.ensures)
    ∙ ap (λ list. map nest_view c.push.new.self ++ map nest_of (filter (λ (inner : Inner). is_in inner.node (nest_nodes (nest_view c.nest-item.result))) (map inner_view list))) c.as_slice-in-loop-nest.ensures
    ∙ ap (λ list. list ++ map nest_of (filter (λ (inner : Inner). is_in inner.node (nest_nodes (nest_view c.nest-item.result))) (map inner_view c.loop-nest.left)))
    (ap (map nest_view) c.in_ok-push.ensures.ok ∙ map_append nest_view c.loop-nest.made (c.into_inner.result ∷ [])
    ∙ ap (λ nest. map nest_view c.loop-nest.made ++ nest ∷ []) (ap nest_view c.into_inner.ensures ∙ c.in_ok-copy_nest.ensures)))
    (c.in_ok-left-2.ensures
    ∙ ap (λ (nodes : List ℕ). filter (λ (inner : Inner). not (is_in inner.node nodes)) (map inner_view c.loop-nest.left)) (c.as_slice-in-loop-nest-2.ensures ∙ c.in_ok-nodes.ensures))
    c.loop-nest.invariant
