-- A list of nests as a chain, in which each is left for the beginning of the next one alone: nests that lead further stand in a group with those between.
use Rattle.std.specs.Prelude.{ℕ, suc, nat_lt, List, [], ◌∷◌, if◌then◌else◌}
use Rattle.emit_rules.specs.Nests.{Nest, group, Chain, no_nests, more_nests, chain}

-- a nest of a list, and the number of the first nest of the list that leads to it
pub record Ranked : Type 0 where
  pub nest : Nest
  pub from : ℕ

-- nests of a list as one, from the one of a number on
pub record Piece : Type 0 where
  pub start : ℕ
  pub nest : Nest

-- pieces, the last first, of which those in front of these nests that begin behind a nest of the list are one with the piece in which that is
abbrev pub gathered : (from : ℕ) → List Nest → List Piece → List Piece
gathered from nests [] = record { start = 0; nest = group (chain nests) } ∷ []
gathered from nests (piece ∷ pieces) =
    if nat_lt from piece.start then gathered from (piece.nest ∷ nests) pieces
    else record { start = piece.start; nest = group (chain (piece.nest ∷ nests)) } ∷ pieces

-- the same of all pieces: those to which control goes on from this nest of the list are one
abbrev pub joined : (from : ℕ) → List Piece → List Piece
joined from [] = []
joined from (piece ∷ pieces) = if nat_lt from piece.start then gathered from (piece.nest ∷ []) pieces else piece ∷ pieces

-- pieces, the last first, in front of a chain
abbrev pub in_front : List Piece → Chain → Chain
in_front [] others = others
in_front (piece ∷ pieces) others = in_front pieces (more_nests piece.nest others)

-- the nests of a list behind pieces, the first by its number
abbrev pub chained_from : ℕ → List Ranked → List Piece → Chain
chained_from number [] pieces = in_front pieces no_nests
chained_from number (ranked ∷ others) pieces =
    chained_from (suc number) others (record { start = number; nest = ranked.nest } ∷ joined ranked.from pieces)

abbrev pub chained : List Ranked → Chain
chained nests = chained_from 0 nests []
