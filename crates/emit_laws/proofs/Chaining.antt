-- A list of nests as a chain covers where each nest is left for later ones alone that say so.
use Rattle.std.proofs.Common.{◌≡◌, ◌∙◌, ℕ, suc, ◌≤◌, nat_lt, Bool, true, false, ◌&&◌, ◌||◌, List, [], ◌∷◌, if◌then◌else◌, arith, refl, sym, ap}
use Rattle.std.proofs.lemmas.Bool.{le-ltb, ltb-false, ltb-true, lt-ltb}
use Rattle.std.specs.Prelude.{⊤}
use Rattle.reloop.specs.Graphs.{is_in}
use Rattle.reloop.proofs.Sets.{or_left, or_right}
use Rattle.flow.specs.Flows.{FlowTree}
use Rattle.emit_rules.specs.Chains.{Ranked, Piece, gathered, joined, in_front, chained_from, chained}
use Rattle.emit_rules.specs.Nests.{Nest, group, Chain, no_nests, more_nests, chain, nest_entries, chain_entries}
use Rattle.emit_laws.specs.Covers.{Nodes, with_nodes, either_of, CoversNest, CoversChain}
use Rattle.emit_laws.proofs.Closing.{and_left, and_right, and_both}
use Rattle.emit_laws.proofs.Covering.{either_by, nest_more}

-- the entries of nests to which control goes from in front of a limit
abbrev pub entered_from : ℕ → List Ranked → Nodes
entered_from limit [] node = false
entered_from limit (ranked ∷ others) node = (nat_lt ranked.from limit && is_in node (nest_entries ranked.nest)) || entered_from limit others node

less_then : (a limit more : ℕ) (b : Bool) → limit ≤ more → (nat_lt a limit && b) ≡ true → (nat_lt a more && b) ≡ true
less_then a limit more b is both = and_both (nat_lt a more) b (lt-ltb a more (let less = ltb-true a limit (and_left (nat_lt a limit) b both) in omega (arith, less, is))) (and_right (nat_lt a limit) b both)

-- what is entered from in front of a limit is from in front of a greater one
entered_more : (limit more : ℕ) (nests : List Ranked) (node : ℕ) → limit ≤ more → entered_from limit nests node ≡ true → entered_from more nests node ≡ true
entered_more limit more [] node is there = there
entered_more limit more (ranked ∷ others) node is there =
    either_by (nat_lt ranked.from limit && is_in node (nest_entries ranked.nest)) (entered_from limit others node)
    (λ one. or_left (nat_lt ranked.from more && is_in node (nest_entries ranked.nest)) (entered_from more others node) (less_then ranked.from limit more (is_in node (nest_entries ranked.nest)) is one))
    (λ rest. or_right (nat_lt ranked.from more && is_in node (nest_entries ranked.nest)) (entered_from more others node) (entered_more limit more others node is rest)) there

module _ (flow : FlowTree) (ahead known : Nodes) where
  -- what is ahead of a nest of a list, in front of others
  abbrev pub ahead_of : (limit : ℕ) → List Ranked → Nodes
  ahead_of limit others = either_of (entered_from limit others) ahead

  -- each nest of a list covers with the later ones ahead to which it may lead, the first with this number
  abbrev pub RankedCover : ℕ → List Ranked → Type 0
  RankedCover number [] = ⊤
  RankedCover number (ranked ∷ others) = CoversNest flow chain_entries (ahead_of (suc number) others) known ranked.nest × RankedCover (suc number) others

  -- pieces cover, the last first: each with the entries of the next one ahead, and of later nests to which one of its own may lead
  abbrev PiecesCover : (after : List ℕ) → (limit : ℕ) → List Ranked → List Piece → Type 0
  PiecesCover after limit others [] = ⊤
  PiecesCover after limit others (piece ∷ pieces) =
      (piece.start ≤ limit) × CoversNest flow chain_entries (with_nodes after (ahead_of limit others)) known piece.nest × PiecesCover (nest_entries piece.nest) piece.start others pieces

  -- pieces in front of where a nest is entered from don't lead to it
  not_entered : (ranked : Ranked) (others : List Ranked) (limit node : ℕ) → limit ≤ ranked.from → entered_from limit (ranked ∷ others) node ≡ entered_from limit others node
  not_entered ranked others limit node is =
      ap (λ (before : Bool). (before && is_in node (nest_entries ranked.nest)) || entered_from limit others node) (le-ltb ranked.from limit is)

  pieces_skip : (ranked : Ranked) (others : List Ranked) (after : List ℕ) (limit : ℕ) (pieces : List Piece) → limit ≤ ranked.from → PiecesCover after limit (ranked ∷ others) pieces → PiecesCover after limit others pieces
  pieces_skip ranked others after limit [] is cover = tt
  pieces_skip ranked others after limit (piece ∷ pieces) is cover = (
    cover.0,
    nest_more flow chain_entries piece.nest (with_nodes after (ahead_of limit (ranked ∷ others))) (with_nodes after (ahead_of limit others)) known
        (λ node there. sym (ap (λ (one : Bool). is_in node after || (one || ahead node)) (not_entered ranked others limit node is)) ∙ there) cover.1,
    pieces_skip ranked others (nest_entries piece.nest) piece.start pieces (let start = cover.0 in omega (arith, start, is)) cover.2,
  )

  -- what is entered in front of a nest and others is this nest or one of them
  this_or_later : (ranked : Ranked) (others : List Ranked) (limit number node : ℕ) → limit ≤ number → ahead_of limit (ranked ∷ others) node ≡ true →
      with_nodes (nest_entries ranked.nest) (ahead_of number others) node ≡ true
  this_or_later ranked others limit number node is there =
      either_by (entered_from limit (ranked ∷ others) node) (ahead node)
      (either_by (nat_lt ranked.from limit && is_in node (nest_entries ranked.nest)) (entered_from limit others node)
      (λ one. or_left (is_in node (nest_entries ranked.nest)) (ahead_of number others node) (and_right (nat_lt ranked.from limit) (is_in node (nest_entries ranked.nest)) one))
      (λ rest. or_right (is_in node (nest_entries ranked.nest)) (ahead_of number others node) (or_left (entered_from number others node) (ahead node) (entered_more limit number others node is rest))))
      (λ out. or_right (is_in node (nest_entries ranked.nest)) (ahead_of number others node) (or_right (entered_from number others node) (ahead node) out)) there

  gathered_cover : (ranked : Ranked) (others : List Ranked) (number : ℕ) (first : Nest) (nests : List Nest) (limit : ℕ) (pieces : List Piece) → limit ≤ number →
      CoversChain flow chain_entries (with_nodes (nest_entries ranked.nest) (ahead_of number others)) known (chain (first ∷ nests)) →
      PiecesCover (nest_entries first) limit (ranked ∷ others) pieces → PiecesCover (nest_entries ranked.nest) number others (gathered ranked.from (first ∷ nests) pieces)
  gathered_cover ranked others number first nests limit [] is covers cover = (omega arith, covers, tt)
  gathered_cover ranked others number first nests limit (piece ∷ pieces) is covers cover =
      by_start (nat_lt ranked.from piece.start) refl (gathered_cover ranked others number piece.nest (first ∷ nests) piece.start pieces (let start = cover.0 in omega (arith, start, is)) both cover.2)
    where
      both : CoversChain flow chain_entries (with_nodes (nest_entries ranked.nest) (ahead_of number others)) known (chain (piece.nest ∷ first ∷ nests))
      both = (
        nest_more flow chain_entries piece.nest (with_nodes (nest_entries first) (ahead_of limit (ranked ∷ others)))
            (with_nodes (nest_entries first) (with_nodes (nest_entries ranked.nest) (ahead_of number others))) known
            (λ node. either_by (is_in node (nest_entries first)) (ahead_of limit (ranked ∷ others) node)
            (or_left (is_in node (nest_entries first)) (with_nodes (nest_entries ranked.nest) (ahead_of number others) node))
            (λ there. or_right (is_in node (nest_entries first)) (with_nodes (nest_entries ranked.nest) (ahead_of number others) node) (this_or_later ranked others limit number node is there))) cover.1,
        covers,
      )

      by_start : (behind : Bool) → nat_lt ranked.from piece.start ≡ behind → PiecesCover (nest_entries ranked.nest) number others (gathered ranked.from (piece.nest ∷ first ∷ nests) pieces) →
          PiecesCover (nest_entries ranked.nest) number others
          (if behind then gathered ranked.from (piece.nest ∷ first ∷ nests) pieces else record { start = piece.start; nest = group (chain (piece.nest ∷ first ∷ nests)) } ∷ pieces)
      by_start true same rest = rest
      by_start false same rest = (
        let start = cover.0 in omega (arith, start, is),
        both,
        pieces_skip ranked others (nest_entries piece.nest) piece.start pieces (ltb-false ranked.from piece.start same) cover.2,
      )

  joined_cover : (ranked : Ranked) (others : List Ranked) (number : ℕ) (pieces : List Piece) → PiecesCover [] number (ranked ∷ others) pieces →
      PiecesCover (nest_entries ranked.nest) number others (joined ranked.from pieces)
  joined_cover ranked others number [] cover = tt
  joined_cover ranked others number (piece ∷ pieces) cover = by_start (nat_lt ranked.from piece.start) refl
    where
      last_covers : CoversNest flow chain_entries (with_nodes (nest_entries ranked.nest) (ahead_of number others)) known piece.nest
      last_covers =
          nest_more flow chain_entries piece.nest (with_nodes [] (ahead_of number (ranked ∷ others))) (with_nodes (nest_entries ranked.nest) (ahead_of number others)) known
          (λ node there. this_or_later ranked others number number node (omega arith) there) cover.1

      by_start : (behind : Bool) → nat_lt ranked.from piece.start ≡ behind → PiecesCover (nest_entries ranked.nest) number others
          (if behind then gathered ranked.from (piece.nest ∷ []) pieces else piece ∷ pieces)
      by_start true same = gathered_cover ranked others number piece.nest [] piece.start pieces cover.0 (last_covers, tt) cover.2
      by_start false same = (cover.0, last_covers, pieces_skip ranked others (nest_entries piece.nest) piece.start pieces (ltb-false ranked.from piece.start same) cover.2)

  front_covers : (limit : ℕ) (pieces : List Piece) (others : Chain) → PiecesCover (chain_entries others) limit [] pieces → CoversChain flow chain_entries ahead known others →
      CoversChain flow chain_entries ahead known (in_front pieces others)
  front_covers limit [] others cover covers = covers
  front_covers limit (piece ∷ pieces) others cover covers = front_covers piece.start pieces (more_nests piece.nest others) cover.2 (cover.1, covers)

  chained_from_covers : (number : ℕ) (nests : List Ranked) (pieces : List Piece) → PiecesCover [] number nests pieces → RankedCover number nests →
      CoversChain flow chain_entries ahead known (chained_from number nests pieces)
  chained_from_covers number [] pieces cover covers = front_covers number pieces no_nests cover tt
  chained_from_covers number (ranked ∷ others) pieces cover covers =
      chained_from_covers (suc number) others (record { start = number; nest = ranked.nest } ∷ joined ranked.from pieces)
      (omega arith, covers.0, joined_cover ranked others number pieces cover) covers.1

  pub chained_covers : (nests : List Ranked) → RankedCover 0 nests → CoversChain flow chain_entries ahead known (chained nests)
  chained_covers nests covers = chained_from_covers 0 nests [] tt covers

-- ---- where a chain is entered

-- where the first of pieces is entered, or what stands behind them, if there are none
abbrev front_entries : List Piece → List ℕ → List ℕ
front_entries [] entries = entries
front_entries (piece ∷ pieces) entries = front_entries pieces (nest_entries piece.nest)

in_front_entries : (pieces : List Piece) (others : Chain) → chain_entries (in_front pieces others) ≡ front_entries pieces (chain_entries others)
in_front_entries [] others = refl
in_front_entries (piece ∷ pieces) others = in_front_entries pieces (more_nests piece.nest others)

gathered_entries : (from : ℕ) (first : Nest) (nests : List Nest) (pieces : List Piece) (entries : List ℕ) → front_entries (gathered from (first ∷ nests) pieces) entries ≡ front_entries pieces (nest_entries first)
gathered_entries from first nests [] entries = refl
gathered_entries from first nests (piece ∷ pieces) entries = by_start (nat_lt from piece.start) (gathered_entries from piece.nest (first ∷ nests) pieces entries)
  where
    by_start : (behind : Bool) → front_entries (gathered from (piece.nest ∷ first ∷ nests) pieces) entries ≡ front_entries pieces (nest_entries piece.nest) →
        front_entries (if behind then gathered from (piece.nest ∷ first ∷ nests) pieces else record { start = piece.start; nest = group (chain (piece.nest ∷ first ∷ nests)) } ∷ pieces) entries
        ≡ front_entries pieces (nest_entries piece.nest)
    by_start true rest = rest
    by_start false rest = refl

joined_entries : (from : ℕ) (pieces : List Piece) (entries : List ℕ) → front_entries (joined from pieces) entries ≡ front_entries pieces entries
joined_entries from [] entries = refl
joined_entries from (piece ∷ pieces) entries = by_start (nat_lt from piece.start)
  where
    by_start : (behind : Bool) → front_entries (if behind then gathered from (piece.nest ∷ []) pieces else piece ∷ pieces) entries ≡ front_entries pieces (nest_entries piece.nest)
    by_start true = gathered_entries from piece.nest [] pieces entries
    by_start false = refl

-- with a first piece it doesn't matter what stands behind
chained_from_entries : (number : ℕ) (nests : List Ranked) (piece : Piece) (pieces : List Piece) → chain_entries (chained_from number nests (piece ∷ pieces)) ≡ front_entries pieces (nest_entries piece.nest)
chained_from_entries number [] piece pieces = in_front_entries (piece ∷ pieces) no_nests
chained_from_entries number (ranked ∷ others) piece pieces =
    chained_from_entries (suc number) others (record { start = number; nest = ranked.nest }) (joined ranked.from (piece ∷ pieces)) ∙ joined_entries ranked.from (piece ∷ pieces) (nest_entries ranked.nest)

-- a chain is entered where its first nest is
pub chained_entries : (ranked : Ranked) (others : List Ranked) → chain_entries (chained (ranked ∷ others)) ≡ nest_entries ranked.nest
chained_entries ranked others = chained_from_entries 1 others (record { start = 0; nest = ranked.nest }) []
