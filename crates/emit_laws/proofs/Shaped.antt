-- What is in the nests of a shape: choices of heads only where it has a dispatch, and loops only where it goes round.
use Rattle.std.proofs.Common.{◌≡◌, ◌∙◌, ◌⊎◌, inl, inr, ℕ, suc, ◌+◌, ◌<◌, ◌==◌, nat_lt, Bool, true, false, ◌&&◌, List, [], ◌∷◌, ◌++◌, map, length, arith, refl, sym, ap, subst}
use Rattle.std.proofs.lemmas.Bool.{ltb-false, ltb-true}
use Rattle.std.specs.Prelude.{⊤}
use Rattle.reloop.specs.Fits.{IsEntryAmong, Lands, LandsAmong, Enters, HasForm, HaveForm, IsFit}
use Rattle.reloop.specs.Graphs.{FlowGraph, is_in, IsIn}
use Rattle.reloop.specs.Shapes.{ShapeTree, simple, blocks, loop, dispatch, ShapeTrees, no_shapes, more_shapes, nodes_in, nodes_among, entries_of, has_dispatch, have_dispatch, goes_round, go_round}
use Rattle.reloop.proofs.Sets.{either, or_left, or_right, same_number}
use Rattle.flow.specs.Flows.{NodeTree, FlowTree, node_targets, targets_of, graph_of}
use Rattle.emit_rules.specs.Nests.{Nest, single, choice, group, repeated, dispatched, Chain, no_nests, more_nests, Chains, no_chains, more_chains, flat, all_flat}
use Rattle.emit_rules.specs.Sorting.{most_depth, nests_of}
use Rattle.emit_laws.proofs.Closing.{and_left, and_right, and_both}
use Rattle.emit_laws.proofs.Covering.{in_left, in_right, in_first}
use Rattle.emit_laws.proofs.Every.{EveryNest, EveryChain, EveryChains}
use Rattle.emit_laws.proofs.Fitting.{has_edge, flat_listed}
use Rattle.emit_laws.proofs.Kept.{nests_weigh}
use Rattle.emit_laws.proofs.Weights.{nest_weight, chain_weight, chains_weight, weigh_chain, sort_keeps}

-- ---- what nests of shapes weigh

weigh_append : (weigh : Nest → ℕ) (first second : List Nest) → nests_weigh weigh (first ++ second) ≡ nests_weigh weigh first + nests_weigh weigh second
weigh_append weigh [] second = omega arith
weigh_append weigh (nest ∷ others) second = let rest = weigh_append weigh others second in omega (arith, rest)

module _ (of_node : ℕ → ℕ) (of_choice : List ℕ → ℕ) (of_loop : ℕ) (of_dispatch : List ℕ → ℕ) where
  abbrev mutual
    -- what is counted of a shape
    pub shape_weight : ShapeTree → ℕ
    shape_weight (simple node) = of_node node
    shape_weight (blocks members) = shapes_weight members
    shape_weight (loop head body) = of_loop + shape_weight body
    shape_weight (dispatch heads body) = of_dispatch heads + (of_choice heads + shape_weight body)

    pub shapes_weight : ShapeTrees → ℕ
    shapes_weight no_shapes = 0
    shapes_weight (more_shapes member others) = shape_weight member + shapes_weight others

  abbrev weight : Nest → ℕ
  weight = nest_weight of_node of_choice of_loop of_dispatch

  mutual
    flat_weigh : (shape : ShapeTree) → nests_weigh weight (flat shape) ≡ shape_weight shape
    flat_weigh (simple node) = omega arith
    flat_weigh (blocks members) = all_flat_weigh members
    flat_weigh (loop head body) = let own = weigh_chain of_node of_choice of_loop of_dispatch (flat body) in let all = flat_weigh body in omega (arith, own, all)
    flat_weigh (dispatch heads body) = let own = weigh_chain of_node of_choice of_loop of_dispatch (flat body) in let all = flat_weigh body in omega (arith, own, all)

    all_flat_weigh : (members : ShapeTrees) → nests_weigh weight (all_flat members) ≡ shapes_weight members
    all_flat_weigh no_shapes = refl
    all_flat_weigh (more_shapes member others) =
        let both = weigh_append weight (flat member) (all_flat others) in
        let one = flat_weigh member in let rest = all_flat_weigh others in omega (arith, both, one, rest)

  -- what is counted of the nests of a shape is counted of the shape
  pub nests_weight : (flow : FlowTree) (shape : ShapeTree) → IsFit (graph_of flow) shape → chain_weight of_node of_choice of_loop of_dispatch (nests_of flow shape) ≡ shape_weight shape
  nests_weight flow shape fits =
      let kept = (sort_keeps of_node of_choice of_loop of_dispatch flow most_depth).keeps true (λ node. false) (λ node. false) [] (flat shape) (flat_listed flow shape fits) in
      let all = flat_weigh shape in omega (arith, kept, all)

-- ---- the nodes of a shape

module _ (graph : FlowGraph) where
  mutual
    -- a shape is entered at its nodes
    entry_in : (shape : ShapeTree) → HasForm graph shape → (node : ℕ) → IsIn node (entries_of shape) → IsIn node (nodes_in shape)
    entry_in (simple one) form node there = there
    entry_in (blocks no_shapes) form node there = there
    entry_in (blocks (more_shapes member others)) form node there = in_left node (nodes_in member) (nodes_among others) (entry_in member (form.1).0 node there)
    entry_in (loop head body) form node there = entry_in body form.1 node (subst (λ (list : List ℕ). IsIn node list) (sym (form.0).entered) there)
    entry_in (dispatch heads body) form node there = head_in heads body form.0 form.1 node there

    head_in : (heads : List ℕ) (body : ShapeTree) → Enters heads body → HasForm graph body → (node : ℕ) → IsIn node heads → IsIn node (nodes_in body)
    head_in heads (simple one) enters form node there = elim enters [ ]
    head_in heads (blocks members) enters form node there = among_in members form.1 node (enters node there)
    head_in heads (loop one body) enters form node there = elim enters [ ]
    head_in heads (dispatch others body) enters form node there = elim enters [ ]

    among_in : (members : ShapeTrees) → HaveForm graph members → (node : ℕ) → IsEntryAmong node members → IsIn node (nodes_among members)
    among_in no_shapes form node there = elim there [ ]
    among_in (more_shapes member others) form node (inl here) = in_left node (nodes_in member) (nodes_among others) (entry_in member form.0 node here)
    among_in (more_shapes member others) form node (inr later) = in_right node (nodes_in member) (nodes_among others) (among_in others form.1 node later)

  mutual
    -- what lands in a shape comes to one of its nodes
    lands_to : (from to : ℕ) (shape : ShapeTree) → HasForm graph shape → Lands from to shape → IsIn to (nodes_in shape)
    lands_to from to (simple node) form lands = elim lands [ ]
    lands_to from to (blocks members) form lands = lands_to_one from to members form.1 lands
    lands_to from to (loop head body) form (inl round) =
        entry_in body form.1 to (subst (λ (list : List ℕ). IsIn to list) (sym (form.0).entered) (subst (λ (one : ℕ). IsIn to (one ∷ [])) round.1 (in_first to [])))
    lands_to from to (loop head body) form (inr lands) = lands_to from to body form.1 lands
    lands_to from to (dispatch heads body) form (inl round) = head_in heads body form.0 form.1 to round.1
    lands_to from to (dispatch heads body) form (inr lands) = lands_to from to body form.1 lands

    lands_to_one : (from to : ℕ) (members : ShapeTrees) → HaveForm graph members → LandsAmong from to members → IsIn to (nodes_among members)
    lands_to_one from to no_shapes form lands = elim lands [ ]
    lands_to_one from to (more_shapes member others) form (inl goes) = in_right to (nodes_in member) (nodes_among others) (among_in others form.1 to goes.1)
    lands_to_one from to (more_shapes member others) form (inr (inl lands)) = in_left to (nodes_in member) (nodes_among others) (lands_to from to member form.0 lands)
    lands_to_one from to (more_shapes member others) form (inr (inr lands)) = in_right to (nodes_in member) (nodes_among others) (lands_to_one from to others form.1 lands)

-- ---- what is asked of nests

-- 0 of what is good
abbrev bad : Bool → ℕ
bad true = 0
bad false = 1

none_bad : (good : Bool) → bad good ≡ 0 → good ≡ true
none_bad true is = refl
none_bad false is = absurd (omega (arith, is))

good_none : (good : Bool) → good ≡ true → bad good ≡ 0
good_none true is = refl
good_none false is = absurd cc

module _ (good_choice : List ℕ → Bool) (good_loop : Bool) where
  abbrev no_node : ℕ → ℕ
  no_node node = 0

  abbrev bad_choice : List ℕ → ℕ
  bad_choice heads = bad (good_choice heads)

  abbrev bad_dispatch : List ℕ → ℕ
  bad_dispatch heads = bad (good_choice heads) + bad good_loop

  module _ (OfChoice : List ℕ → Type 0) (OfLoop : Type 0) (choice_is : (heads : List ℕ) → good_choice heads ≡ true → OfChoice heads) (loop_is : good_loop ≡ true → OfLoop) where
    mutual
      nest_asked : (nest : Nest) → nest_weight no_node bad_choice (bad good_loop) bad_dispatch nest ≡ 0 → EveryNest (λ node. ⊤) OfChoice OfLoop nest
      nest_asked (single node arms) none = (tt, chains_asked arms (omega (arith, none)))
      nest_asked (choice heads arms) none = (choice_is heads (none_bad (good_choice heads) (omega (arith, none))), chains_asked arms (omega (arith, none)))
      nest_asked (group members) none = chain_asked members none
      nest_asked (repeated head body) none = (loop_is (none_bad good_loop (omega (arith, none))), chain_asked body (omega (arith, none)))
      nest_asked (dispatched heads body) none =
          (choice_is heads (none_bad (good_choice heads) (omega (arith, none))), loop_is (none_bad good_loop (omega (arith, none))), chain_asked body (omega (arith, none)))

      chain_asked : (nests : Chain) → chain_weight no_node bad_choice (bad good_loop) bad_dispatch nests ≡ 0 → EveryChain (λ node. ⊤) OfChoice OfLoop nests
      chain_asked no_nests none = tt
      chain_asked (more_nests nest others) none = (nest_asked nest (omega (arith, none)), chain_asked others (omega (arith, none)))

      chains_asked : (arms : Chains) → chains_weight no_node bad_choice (bad good_loop) bad_dispatch arms ≡ 0 → EveryChains (λ node. ⊤) OfChoice OfLoop arms
      chains_asked no_chains none = tt
      chains_asked (more_chains first others) none = (chain_asked first (omega (arith, none)), chains_asked others (omega (arith, none)))

  abbrev mutual
    -- so it is in a shape
    ShapeAsked : ShapeTree → Type 0
    ShapeAsked (simple node) = ⊤
    ShapeAsked (blocks members) = ShapesAsked members
    ShapeAsked (loop head body) = (good_loop ≡ true) × ShapeAsked body
    ShapeAsked (dispatch heads body) = (good_choice heads ≡ true) × (good_loop ≡ true) × ShapeAsked body

    ShapesAsked : ShapeTrees → Type 0
    ShapesAsked no_shapes = ⊤
    ShapesAsked (more_shapes member others) = ShapeAsked member × ShapesAsked others

  mutual
    shape_none : (shape : ShapeTree) → ShapeAsked shape → shape_weight no_node bad_choice (bad good_loop) bad_dispatch shape ≡ 0
    shape_none (simple node) asked = refl
    shape_none (blocks members) asked = shapes_none members asked
    shape_none (loop head body) asked = let own = good_none good_loop asked.0 in let rest = shape_none body asked.1 in omega (arith, own, rest)
    shape_none (dispatch heads body) asked =
        let own = good_none (good_choice heads) asked.0 in let other = good_none good_loop asked.1 in let rest = shape_none body asked.2 in omega (arith, own, other, rest)

    shapes_none : (members : ShapeTrees) → ShapesAsked members → shapes_weight no_node bad_choice (bad good_loop) bad_dispatch members ≡ 0
    shapes_none no_shapes asked = refl
    shapes_none (more_shapes member others) asked = let one = shape_none member asked.0 in let rest = shapes_none others asked.1 in omega (arith, one, rest)

-- ---- the nests of a shape that fits

-- all are less
abbrev all_less : ℕ → List ℕ → Bool
all_less limit [] = true
all_less limit (node ∷ others) = nat_lt node limit && all_less limit others

is_less : (limit : ℕ) (nodes : List ℕ) → all_less limit nodes ≡ true → (node : ℕ) → IsIn node nodes → node < limit
is_less limit [] less node there = absurd cc
is_less limit (one ∷ others) less node there =
    by_side (either (node == one) (is_in node others) there) (is_less limit others (and_right (nat_lt one limit) (all_less limit others) less) node)
  where
    by_side : ((node == one) ≡ true) ⊎ IsIn node others → (IsIn node others → node < limit) → node < limit
    by_side (inl same) rest = let is = same_number node one same in let own = ltb-true one limit (and_left (nat_lt one limit) (all_less limit others) less) in omega (arith, is, own)
    by_side (inr later) rest = rest later

are_less : (limit : ℕ) (nodes : List ℕ) → ((node : ℕ) → IsIn node nodes → node < limit) → all_less limit nodes ≡ true
are_less limit [] less = refl
are_less limit (node ∷ others) less =
    and_both (nat_lt node limit) (all_less limit others) (less_is (nat_lt node limit) refl) (are_less limit others (λ one there. less one (or_right (one == node) (is_in one others) there)))
  where
    less_is : (test : Bool) → nat_lt node limit ≡ test → test ≡ true
    less_is true is = refl
    less_is false is = absurd (let no = ltb-false node limit is in let own = less node (in_first node others) in omega (arith, no, own))

module _ (flow : FlowTree) (shape : ShapeTree) (fits : IsFit (graph_of flow) shape) where
  abbrev limit : ℕ
  limit = length flow.nodes

  abbrev good_choice_in : List ℕ → Bool
  good_choice_in heads = has_dispatch shape && all_less limit heads

  abbrev pub OfChoiceIn : List ℕ → Type 0
  OfChoiceIn heads = (has_dispatch shape ≡ true) × ((node : ℕ) → IsIn node heads → node < limit)

  length_map : (nodes : List NodeTree) → length (map node_targets nodes) ≡ length nodes
  length_map [] = refl
  length_map (node ∷ nodes) = ap suc (length_map nodes)

  pub node_less : (node : ℕ) → IsIn node (nodes_in shape) → node < limit
  node_less node there = let less = fits.nodes.only node there in let same = length_map flow.nodes in omega (arith, less, same)

  -- the entry and all targets are nodes
  pub entry_less : flow.entry < limit
  entry_less = node_less flow.entry (entry_in (graph_of flow) shape fits.form flow.entry fits.entered)

  pub target_less : (number to : ℕ) → IsIn to (targets_of flow number) → to < limit
  target_less number to there = node_less to (lands_to (graph_of flow) number to shape fits.form (fits.edges number to (has_edge flow number to there)))

  mutual
    asked_in : (part : ShapeTree) → HasForm (graph_of flow) part → ((node : ℕ) → IsIn node (nodes_in part) → node < limit) → (has_dispatch part ≡ true → has_dispatch shape ≡ true) →
        (goes_round part ≡ true → goes_round shape ≡ true) → ShapeAsked good_choice_in (goes_round shape) part
    asked_in (simple node) form less has rounds = tt
    asked_in (blocks members) form less has rounds = asked_among members form.1 less has rounds
    asked_in (loop head body) form less has rounds = (rounds refl, asked_in body form.1 less has (λ is. rounds refl))
    asked_in (dispatch heads body) form less has rounds = (
      and_both (has_dispatch shape) (all_less limit heads) (has refl) (are_less limit heads (λ node there. less node (head_in (graph_of flow) heads body form.0 form.1 node there))),
      rounds refl,
      asked_in body form.1 less (λ is. has refl) (λ is. rounds refl),
    )

    asked_among : (members : ShapeTrees) → HaveForm (graph_of flow) members → ((node : ℕ) → IsIn node (nodes_among members) → node < limit) → (have_dispatch members ≡ true → has_dispatch shape ≡ true) →
        (go_round members ≡ true → goes_round shape ≡ true) → ShapesAsked good_choice_in (goes_round shape) members
    asked_among no_shapes form less has rounds = tt
    asked_among (more_shapes member others) form less has rounds = (
      asked_in member form.0 (λ node there. less node (in_left node (nodes_in member) (nodes_among others) there)) (λ is. has (or_left (has_dispatch member) (have_dispatch others) is))
          (λ is. rounds (or_left (goes_round member) (go_round others) is)),
      asked_among others form.1 (λ node there. less node (in_right node (nodes_in member) (nodes_among others) there)) (λ is. has (or_right (has_dispatch member) (have_dispatch others) is))
          (λ is. rounds (or_right (goes_round member) (go_round others) is)),
    )

  -- a choice stands in the nests only where the shape has a dispatch, and its heads are nodes; and a loop only where the shape goes round
  pub nests_asked : EveryChain (λ node. ⊤) OfChoiceIn (goes_round shape ≡ true) (nests_of flow shape)
  nests_asked =
      chain_asked good_choice_in (goes_round shape) OfChoiceIn (goes_round shape ≡ true)
      (λ heads good. (and_left (has_dispatch shape) (all_less limit heads) good, is_less limit heads (and_right (has_dispatch shape) (all_less limit heads) good)))
      (λ is. is) (nests_of flow shape)
      (nests_weight (no_node good_choice_in (goes_round shape)) (bad_choice good_choice_in (goes_round shape)) (bad (goes_round shape)) (bad_dispatch good_choice_in (goes_round shape)) flow shape fits
      ∙ shape_none good_choice_in (goes_round shape) shape (asked_in shape fits.form node_less (λ is. is) (λ is. is)))
