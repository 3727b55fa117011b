-- Pieces of a chain, the last first, and in their order.
use Rattle.std.proofs.Common.{◌≡◌, ◌∙◌, List, [], ◌∷◌, ◌++◌, length, map, refl, ap, sym, arith}
use Rattle.std.proofs.lemmas.List.{reverse-append}
use Rattle.std.specs.Prelude.{reverse}
use Rattle.emit_nests.specs.Views.{nest_view}
use Rattle.emit_rules.specs.Chains.{Piece, in_front}
use Rattle.emit_rules.specs.Nests.{Nest, Chain, no_nests, more_nests, chain}
use Rattle.emit_sorting.specs.Chained.{piece_view}
use Rattle.emit_sorting.specs.declared.chaining.Piece as made

pub pushed : {A : Type 0} (list : List A) (x : A) → reverse (list ++ x ∷ []) ≡ x ∷ reverse list
pushed list x = reverse-append list (x ∷ [])

map_append : {A B : Type 0} (f : A → B) (a b : List A) → map f (a ++ b) ≡ map f a ++ map f b
map_append f [] b = refl
map_append f (x ∷ a) b = ap (λ rest. f x ∷ rest) (map_append f a b)

in_front_append : (a b : List Piece) (others : Chain) → in_front (a ++ b) others ≡ in_front b (in_front a others)
in_front_append [] b others = refl
in_front_append (piece ∷ a) b others = in_front_append a b (more_nests piece.nest others)

chain_then : List Nest → Chain → Chain
chain_then [] others = others
chain_then (nest ∷ nests) others = more_nests nest (chain_then nests others)

chain_whole : (nests : List Nest) → chain_then nests no_nests ≡ chain nests
unfolding chain_then
chain_whole [] = refl
chain_whole (nest ∷ nests) = ap (more_nests nest) (chain_whole nests)

in_order : (pieces : List made.Piece) (others : Chain) → in_front (map piece_view (reverse pieces)) others ≡ chain_then (map (λ (piece : Piece). piece.nest) (map piece_view pieces)) others
unfolding chain_then
in_order [] others = refl
in_order (piece ∷ pieces) others =
    ap (λ list. in_front (map piece_view list) others) (reverse-append (piece ∷ []) pieces) ∙ ap (λ list. in_front list others) (map_append piece_view (reverse pieces) (piece ∷ []))
    ∙ in_front_append (map piece_view (reverse pieces)) (piece_view piece ∷ []) others ∙ ap (more_nests (nest_view piece.nest)) (in_order pieces others)

pub chained_whole : (pieces : List made.Piece) (nests : List Nest) → nests ≡ map (λ (piece : Piece). piece.nest) (map piece_view pieces) → chain nests ≡ in_front (map piece_view (reverse pieces)) no_nests
chained_whole pieces nests is = ap chain is ∙ sym (in_order pieces no_nests ∙ chain_whole (map (λ (piece : Piece). piece.nest) (map piece_view pieces)))

-- nothing is left behind those that were made
pub none_after : (nests : List Nest) (left : List made.Piece) (whole : List Nest) → length left ≡ 0 → nests ++ map (λ (piece : Piece). piece.nest) (map piece_view left) ≡ whole → nests ≡ whole
none_after nests [] whole none was = sym (append_none nests) ∙ was
  where
    append_none : (list : List Nest) → list ++ [] ≡ list
    append_none [] = refl
    append_none (x ∷ list) = ap (λ rest. x ∷ rest) (append_none list)
none_after nests (piece ∷ left) whole none was = absurd (omega (arith, none))
