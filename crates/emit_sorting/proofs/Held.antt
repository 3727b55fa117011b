-- What stands behind nodes of a list that is gone through.
use Rattle.std.proofs.Common.{◌≡◌, ◌∙◌, ℕ, ◌+◌, ◌<◌, not, List, [], ◌∷◌, ◌++◌, length, get_or, drop, map, ap, sym, append_assoc}
use Rattle.std.specs.List.{filter}
use Rattle.emit_nests.specs.Views.{nest_view}
use Rattle.emit_nests.specs.declared.nests.Nest as made
use Rattle.emit_places.proofs.Later.{next_of}
use Rattle.emit_rules.specs.Nests.{Nest, nest_nodes}
use Rattle.emit_rules.specs.Sorting.{Inner, behind_nodes, nest_of}
use Rattle.reloop.specs.Graphs.{is_in}

module _ (front grown : List Nest) (nests items : List made.Nest) (k : ℕ) (nest : made.Nest) (inside left_inside : List Inner) (whole : List Nest) where
  pub behind_more : items ≡ nests → nest ≡ get_or items k nest → k < length items →
      grown ≡ (front ++ nest_view nest ∷ []) ++ map nest_of (filter (λ (inner : Inner). is_in inner.node (nest_nodes (nest_view nest))) inside) →
      left_inside ≡ filter (λ (inner : Inner). not (is_in inner.node (nest_nodes (nest_view nest)))) inside →
      front ++ behind_nodes (map nest_view (drop k nests)) inside ≡ whole → grown ++ behind_nodes (map nest_view (drop (k + 1) nests)) left_inside ≡ whole
  behind_more same is within more less was =
      ap (λ list. list ++ behind_nodes others left_inside) more ∙ ap (λ list. ((front ++ nest_view nest ∷ []) ++ held) ++ behind_nodes others list) less
      ∙ append_assoc (front ++ nest_view nest ∷ []) held rest ∙ append_assoc front (nest_view nest ∷ []) (held ++ rest)
      ∙ ap (λ list. front ++ behind_nodes (map nest_view list) inside) (sym left) ∙ was
    where
      others : List Nest
      others = map nest_view (drop (k + 1) nests)

      held : List Nest
      held = map nest_of (filter (λ (inner : Inner). is_in inner.node (nest_nodes (nest_view nest))) inside)

      rest : List Nest
      rest = behind_nodes (map nest_view (drop (k + 1) nests)) (filter (λ (inner : Inner). not (is_in inner.node (nest_nodes (nest_view nest)))) inside)

      left : drop k nests ≡ nest ∷ drop (k + 1) nests
      left = ap (drop k) (sym same) ∙ next_of items k nest nest is within ∙ ap (λ list. nest ∷ drop (k + 1) list) same
