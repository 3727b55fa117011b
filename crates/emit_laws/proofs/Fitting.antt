-- The nests of a shape that fits cover the flow.
use Rattle.std.proofs.Common.{◌≡◌, ◌∙◌, ◌⊎◌, inl, inr, ℕ, zero, suc, ◌≤◌, ◌<◌, Bool, true, false, ◌||◌, List, [], ◌∷◌, ◌++◌, map, length, get_or, slice_get, is_some, arith, refl, sym, ap, subst}
use Rattle.std.proofs.lemmas.List.{append_assoc, append-nil}
use Rattle.reloop.specs.Fits.{times, count_of, IsEntryAmong, Lands, LandsAmong, Enters, HasForm, HaveForm, IsFit}
use Rattle.reloop.specs.Graphs.{FlowGraph, is_in, IsIn, IsNode, HasEdge}
use Rattle.reloop.specs.Shapes.{ShapeTree, simple, blocks, loop, dispatch, ShapeTrees, no_shapes, more_shapes, nodes_in, nodes_among, entries_of, first_entries}
use Rattle.reloop.proofs.Sets.{or_left, or_right, times_append, in_some, in_none}
use Rattle.flow.specs.Flows.{NodeTree, FlowTree, node_targets, node_at, targets_in, targets_of, graph_of}
use Rattle.emit_rules.specs.Nests.{Nest, single, choice, repeated, dispatched, more_nests, no_chains, chain, flat, all_flat, nest_nodes, chain_nodes, nest_entries, chain_entries}
use Rattle.emit_rules.specs.Sorting.{all_entries, most_depth, sorted_within, nests_of}
use Rattle.emit_laws.specs.Covers.{Nodes, nowhere, with_nodes, either_of, all_entries_in, CoversNest, CoversChain, Covers}
use Rattle.emit_laws.proofs.Arms.{ChainPlain, OwnPlain, IsLater, later_plain, IsListed}
use Rattle.emit_laws.proofs.Behind.{times_in, AreOnce, all_nodes, entries_append, entries_front}
use Rattle.emit_laws.proofs.Covering.{either_by, in_left, in_right, in_first, nest_more}
use Rattle.emit_laws.proofs.Kept.{AllNests, nests_weigh}
use Rattle.emit_laws.proofs.Leveling.{sorts_well}
use Rattle.emit_laws.proofs.Placing.{ListCovers}

-- ---- flows and their graphs

got_node : (nodes : List NodeTree) (number : ℕ) → targets_in (slice_get nodes number) ≡ get_or (map node_targets nodes) number []
got_node [] number = refl
got_node (node ∷ nodes) zero = refl
got_node (node ∷ nodes) (suc number) = got_node nodes number

is_there : (nodes : List NodeTree) (number : ℕ) → number < length (map node_targets nodes) → is_some (slice_get nodes number) ≡ true
is_there [] number less = absurd (omega (arith, less))
is_there (node ∷ nodes) zero less = refl
is_there (node ∷ nodes) (suc number) less = is_there nodes number (omega (arith, less))

pub has_edge : (flow : FlowTree) (from to : ℕ) → IsIn to (targets_of flow from) → HasEdge (graph_of flow) from to
has_edge flow from to there = subst (λ (targets : List ℕ). IsIn to targets) (got_node flow.nodes from) there

-- ---- lists of nests

nodes_append : (first second : List Nest) → all_nodes (first ++ second) ≡ all_nodes first ++ all_nodes second
nodes_append [] second = refl
nodes_append (nest ∷ others) second = ap (λ (nodes : List ℕ). nest_nodes nest ++ nodes) (nodes_append others second) ∙ sym (append_assoc (nest_nodes nest) (all_nodes others) (all_nodes second))

chain_is : (nests : List Nest) → chain_nodes (chain nests) ≡ all_nodes nests
chain_is [] = refl
chain_is (nest ∷ others) = ap (λ (nodes : List ℕ). nest_nodes nest ++ nodes) (chain_is others)

entries_chain : (nests : List Nest) → all_entries_in (chain nests) ≡ all_entries nests
entries_chain [] = refl
entries_chain (nest ∷ others) = ap (λ (entries : List ℕ). nest_entries nest ++ entries) (entries_chain others)

weigh_is : (node : ℕ) (nests : List Nest) → nests_weigh (times_in node) nests ≡ times node (all_nodes nests)
weigh_is node [] = refl
weigh_is node (nest ∷ others) = let rest = weigh_is node others in let both = times_append node (nest_nodes nest) (all_nodes others) in omega (arith, rest, both)

own_chain : (nests : List Nest) → AllNests IsLater nests → OwnPlain (chain nests)
own_chain [] all = tt
own_chain (nest ∷ others) all = ((all.0).0, (all.0).1, own_chain others all.1)

later_append : (first second : List Nest) → AllNests IsLater first → AllNests IsLater second → AllNests IsLater (first ++ second)
later_append [] second one other = other
later_append (nest ∷ others) second one other = (one.0, later_append others second one.1 other)

mutual
  -- the nests of a shape have its nodes
  flat_nodes : (shape : ShapeTree) → all_nodes (flat shape) ≡ nodes_in shape
  flat_nodes (simple node) = refl
  flat_nodes (blocks members) = all_flat_nodes members
  flat_nodes (loop head body) = append-nil (chain_nodes (chain (flat body))) ∙ chain_is (flat body) ∙ flat_nodes body
  flat_nodes (dispatch heads body) = append-nil (chain_nodes (chain (flat body))) ∙ chain_is (flat body) ∙ flat_nodes body

  all_flat_nodes : (members : ShapeTrees) → all_nodes (all_flat members) ≡ nodes_among members
  all_flat_nodes no_shapes = refl
  all_flat_nodes (more_shapes member others) =
      nodes_append (flat member) (all_flat others) ∙ ap (λ (nodes : List ℕ). nodes ++ all_nodes (all_flat others)) (flat_nodes member) ∙ ap (λ (nodes : List ℕ). nodes_in member ++ nodes) (all_flat_nodes others)

-- ---- shapes in form

module _ (graph : FlowGraph) where
  -- nests of a shape in form: some, each of which may stand behind others
  record IsSome (nests : List Nest) (entries : List ℕ) : Type 0 where
    later : AllNests IsLater nests
    first : Nest
    others : List Nest
    is : nests ≡ first ∷ others
    enters : nest_entries first ≡ entries

  some_plain : (nests : List Nest) (entries : List ℕ) → IsSome nests entries → ChainPlain (chain nests)
  some_plain [] entries some = absurd (let is = some.is in cc)
  some_plain (nest ∷ others) entries some = let later = some.later in ((later.0).1, own_chain others later.1)

  some_entries : (nests : List Nest) (entries : List ℕ) → IsSome nests entries → chain_entries (chain nests) ≡ entries
  some_entries nests entries some = ap (λ (list : List Nest). chain_entries (chain list)) some.is ∙ some.enters

  one_some : (nest : Nest) (entries : List ℕ) → IsLater nest → nest_entries nest ≡ entries → IsSome (nest ∷ []) entries
  one_some nest entries later enters = record { later = (later, tt); first = nest; others = []; is = refl; enters = enters }

  mutual
    flat_some : (shape : ShapeTree) → HasForm graph shape → IsSome (flat shape) (entries_of shape)
    flat_some (simple node) form = one_some (single node no_chains) (node ∷ []) (tt, tt) refl
    flat_some (blocks members) form = all_some members form.0 form.1
    flat_some (loop head body) form = one_some (repeated head (chain (flat body))) (head ∷ []) (tt, some_plain (flat body) (entries_of body) (flat_some body form.1)) refl
    flat_some (dispatch heads body) form =
        one_some (dispatched heads (more_nests (choice heads no_chains) (chain (flat body)))) heads (tt, (tt, own_chain (flat body) (flat_some body form.1).later)) refl

    all_some : (members : ShapeTrees) → 0 < count_of members → HaveForm graph members → IsSome (all_flat members) (first_entries members)
    all_some no_shapes some form = absurd (omega (arith, some))
    all_some (more_shapes member others) some form =
        let one = flat_some member form.0 in
        record {
          later = later_append (flat member) (all_flat others) one.later (all_later others form.1);
          first = one.first;
          others = one.others ++ all_flat others;
          is = ap (λ (nests : List Nest). nests ++ all_flat others) one.is;
          enters = one.enters;
        }

    all_later : (members : ShapeTrees) → HaveForm graph members → AllNests IsLater (all_flat members)
    all_later no_shapes form = tt
    all_later (more_shapes member others) form = later_append (flat member) (all_flat others) (flat_some member form.0).later (all_later others form.1)

-- ---- shapes that fit

-- what lands in a shape begins there
mutual
  lands_in : (from to : ℕ) (shape : ShapeTree) → Lands from to shape → IsIn from (nodes_in shape)
  lands_in from to (simple node) lands = elim lands [ ]
  lands_in from to (blocks members) lands = lands_among from to members lands
  lands_in from to (loop head body) (inl round) = round.0
  lands_in from to (loop head body) (inr lands) = lands_in from to body lands
  lands_in from to (dispatch heads body) (inl round) = round.0
  lands_in from to (dispatch heads body) (inr lands) = lands_in from to body lands

  lands_among : (from to : ℕ) (members : ShapeTrees) → LandsAmong from to members → IsIn from (nodes_among members)
  lands_among from to no_shapes lands = elim lands [ ]
  lands_among from to (more_shapes member others) (inl goes) = in_left from (nodes_in member) (nodes_among others) goes.0
  lands_among from to (more_shapes member others) (inr (inl lands)) = in_left from (nodes_in member) (nodes_among others) (lands_in from to member lands)
  lands_among from to (more_shapes member others) (inr (inr lands)) = in_right from (nodes_in member) (nodes_among others) (lands_among from to others lands)

module _ (flow : FlowTree) where
  abbrev graph : FlowGraph
  graph = graph_of flow

  abbrev FlatCovers : Nodes → Nodes → List Nest → Type 0
  FlatCovers = ListCovers flow all_entries_in true

  -- the entries of the nests of a shape in form
  entries_there : (shape : ShapeTree) → HasForm graph shape → (node : ℕ) → IsIn node (entries_of shape) → IsIn node (all_entries (flat shape))
  entries_there shape form node there =
      let some = flat_some graph shape form in
      subst (λ (nests : List Nest). IsIn node (all_entries nests)) (sym some.is)
      (in_left node (nest_entries some.first) (all_entries some.others) (subst (λ (entries : List ℕ). IsIn node entries) (sym some.enters) there))

  entry_there : (members : ShapeTrees) → HaveForm graph members → (node : ℕ) → IsEntryAmong node members → IsIn node (all_entries (all_flat members))
  entry_there no_shapes form node there = elim there [ ]
  entry_there (more_shapes member others) form node (inl here) = entries_front (flat member) (all_flat others) node (entries_there member form.0 node here)
  entry_there (more_shapes member others) form node (inr later) = entries_append (flat member) (all_flat others) node (entry_there others form.1 node later)

  heads_there : (heads : List ℕ) (body : ShapeTree) → Enters heads body → HasForm graph body → (head : ℕ) → IsIn head heads → IsIn head (all_entries (flat body))
  heads_there heads (simple node) enters form head there = elim enters [ ]
  heads_there heads (blocks members) enters form head there = entry_there members form.1 head (enters head there)
  heads_there heads (loop one body) enters form head there = elim enters [ ]
  heads_there heads (dispatch others body) enters form head there = elim enters [ ]

  -- two lists of which the second is ahead of the first
  append_covers : (ahead known : Nodes) (first second : List Nest) → FlatCovers (with_nodes (all_entries second) ahead) known first → FlatCovers ahead known second → FlatCovers ahead known (first ++ second)
  append_covers ahead known [] second one other = other
  append_covers ahead known (nest ∷ others) second one other = (
    one.0,
    nest_more flow all_entries_in nest (with_nodes (all_entries others) (with_nodes (all_entries second) ahead)) (with_nodes (all_entries (others ++ second)) ahead) known
        (λ node. either_by (is_in node (all_entries others)) (is_in node (all_entries second) || ahead node)
        (λ there. or_left (is_in node (all_entries (others ++ second))) (ahead node) (entries_front others second node there))
        (either_by (is_in node (all_entries second)) (ahead node) (λ there. or_left (is_in node (all_entries (others ++ second))) (ahead node) (entries_append others second node there))
        (or_right (is_in node (all_entries (others ++ second))) (ahead node)))) one.1,
    append_covers ahead known others second one.2 other,
  )

  chain_covers : (ahead known : Nodes) (nests : List Nest) → FlatCovers ahead known nests → CoversChain flow all_entries_in ahead known (chain nests)
  chain_covers ahead known [] covers = tt
  chain_covers ahead known (nest ∷ others) covers = (
    subst (λ (entries : List ℕ). CoversNest flow all_entries_in (with_nodes entries ahead) known nest) (sym (entries_chain others)) covers.1,
    chain_covers ahead known others covers.2,
  )

  -- each edge from a node of a shape lands in it, or goes to a node that is ahead or known
  abbrev EdgesGo : (nodes : List ℕ) → (Lands : ℕ → ℕ → Type 0) → Nodes → Nodes → Type 0
  EdgesGo nodes Lands ahead known = (from to : ℕ) → IsIn from nodes → HasEdge graph from to → Lands from to ⊎ (either_of ahead known to ≡ true)

  -- each node stands once, and is one of the graph
  abbrev StandOnce : List ℕ → Type 0
  StandOnce nodes = (node : ℕ) → (times node nodes ≤ 1) × (IsIn node nodes → IsNode graph node)

  once_left : (first second : List ℕ) → StandOnce (first ++ second) → StandOnce first
  once_left first second once node = (
    let all = (once node).0 in let both = times_append node first second in omega (arith, all, both),
    λ there. (once node).1 (in_left node first second there),
  )

  once_right : (first second : List ℕ) → StandOnce (first ++ second) → StandOnce second
  once_right first second once node = (
    let all = (once node).0 in let both = times_append node first second in omega (arith, all, both),
    λ there. (once node).1 (in_right node first second there),
  )

  never_both : (first second : List ℕ) → StandOnce (first ++ second) → (node : ℕ) → IsIn node first → IsIn node second → ⊥
  never_both first second once node one other =
      let all = (once node).0 in
      let both = times_append node first second in
      let here = in_some node first one in
      let there = in_some node second other in omega (arith, all, both, here, there)

  mutual
    flat_covers : (shape : ShapeTree) → HasForm graph shape → StandOnce (nodes_in shape) → (ahead known : Nodes) → EdgesGo (nodes_in shape) (λ from to. Lands from to shape) ahead known →
        FlatCovers ahead known (flat shape)
    flat_covers (simple node) form once ahead known edges = (tt, (there, goes, tt), tt)
      where
        there : is_some (node_at flow node) ≡ true
        there = is_there flow.nodes node ((once node).1 (in_first node []))

        goes : (to : ℕ) → IsIn to (targets_of flow node) → either_of (with_nodes [] ahead) known to ≡ true
        goes to is = by_side (edges node to (in_first node []) (has_edge flow node to is))
          where
            by_side : Lands node to (simple node) ⊎ (either_of ahead known to ≡ true) → either_of (with_nodes [] ahead) known to ≡ true
            by_side (inl none) = elim none [ ]
            by_side (inr is) = is
    flat_covers (blocks members) form once ahead known edges = all_cover members form.1 once ahead known edges
    flat_covers (loop head body) form once ahead known edges = (tt, (enters, chain_covers nowhere inside (flat body) (flat_covers body form.1 once nowhere inside edges_inside)), tt)
      where
        inside : Nodes
        inside = with_nodes (head ∷ []) (either_of (with_nodes [] ahead) known)

        enters : is_in head (chain_entries (chain (flat body))) ≡ true
        enters = subst (λ (entries : List ℕ). IsIn head entries) (sym (some_entries graph (flat body) (entries_of body) (flat_some graph body form.1) ∙ (form.0).entered)) (in_first head [])

        edges_inside : EdgesGo (nodes_in body) (λ from to. Lands from to body) nowhere (with_nodes (head ∷ []) (either_of (with_nodes [] ahead) known))
        edges_inside from to there edge = by_side (edges from to there edge)
          where
            by_side : Lands from to (loop head body) ⊎ (either_of ahead known to ≡ true) → Lands from to body ⊎ (either_of nowhere (with_nodes (head ∷ []) (either_of (with_nodes [] ahead) known)) to ≡ true)
            by_side (inl (inl round)) =
                inr (or_left (is_in to (head ∷ [])) (ahead to || known to) (subst (λ (one : ℕ). IsIn one (head ∷ [])) (sym round.1) (in_first head [])))
            by_side (inl (inr lands)) = inl lands
            by_side (inr is) = inr (or_right (is_in to (head ∷ [])) (ahead to || known to) is)
    flat_covers (dispatch heads body) form once ahead known edges =
        (tt, (λ head there. there, (chosen, chain_covers nowhere inside (flat body) (flat_covers body form.1 once nowhere inside edges_inside))), tt)
      where
        inside : Nodes
        inside = with_nodes heads (either_of (with_nodes [] ahead) known)

        chosen : (head : ℕ) → IsIn head heads → with_nodes (all_entries_in (chain (flat body))) nowhere head ≡ true
        chosen head there =
            or_left (is_in head (all_entries_in (chain (flat body)))) false
            (subst (λ (entries : List ℕ). IsIn head entries) (sym (entries_chain (flat body))) (heads_there heads body form.0 form.1 head there))

        edges_inside : EdgesGo (nodes_in body) (λ from to. Lands from to body) nowhere (with_nodes heads (either_of (with_nodes [] ahead) known))
        edges_inside from to there edge = by_side (edges from to there edge)
          where
            by_side : Lands from to (dispatch heads body) ⊎ (either_of ahead known to ≡ true) → Lands from to body ⊎ (either_of nowhere (with_nodes heads (either_of (with_nodes [] ahead) known)) to ≡ true)
            by_side (inl (inl round)) = inr (or_left (is_in to heads) (ahead to || known to) round.1)
            by_side (inl (inr lands)) = inl lands
            by_side (inr is) = inr (or_right (is_in to heads) (ahead to || known to) is)

    all_cover : (members : ShapeTrees) → HaveForm graph members → StandOnce (nodes_among members) → (ahead known : Nodes) → EdgesGo (nodes_among members) (λ from to. LandsAmong from to members) ahead known →
        FlatCovers ahead known (all_flat members)
    all_cover no_shapes form once ahead known edges = tt
    all_cover (more_shapes member others) form once ahead known edges =
        append_covers ahead known (flat member) (all_flat others)
        (flat_covers member form.0 (once_left (nodes_in member) (nodes_among others) once) (with_nodes (all_entries (all_flat others)) ahead) known edges_first)
        (all_cover others form.1 (once_right (nodes_in member) (nodes_among others) once) ahead known edges_later)
      where
        edges_first : EdgesGo (nodes_in member) (λ from to. Lands from to member) (with_nodes (all_entries (all_flat others)) ahead) known
        edges_first from to there edge = by_side (edges from to (in_left from (nodes_in member) (nodes_among others) there) edge)
          where
            by_side : LandsAmong from to (more_shapes member others) ⊎ (either_of ahead known to ≡ true) →
                Lands from to member ⊎ (either_of (with_nodes (all_entries (all_flat others)) ahead) known to ≡ true)
            by_side (inl (inl goes)) = inr (or_left (is_in to (all_entries (all_flat others)) || ahead to) (known to) (or_left (is_in to (all_entries (all_flat others))) (ahead to) (entry_there others form.1 to goes.1)))
            by_side (inl (inr (inl lands))) = inl lands
            by_side (inl (inr (inr lands))) = absurd (never_both (nodes_in member) (nodes_among others) once from there (lands_among from to others lands))
            by_side (inr is) = inr (either_by (ahead to) (known to) (λ there. or_left (is_in to (all_entries (all_flat others)) || ahead to) (known to) (or_right (is_in to (all_entries (all_flat others))) (ahead to) there))
                (or_right (is_in to (all_entries (all_flat others)) || ahead to) (known to)) is)

        edges_later : EdgesGo (nodes_among others) (λ from to. LandsAmong from to others) ahead known
        edges_later from to there edge = by_side (edges from to (in_right from (nodes_in member) (nodes_among others) there) edge)
          where
            by_side : LandsAmong from to (more_shapes member others) ⊎ (either_of ahead known to ≡ true) → LandsAmong from to others ⊎ (either_of ahead known to ≡ true)
            by_side (inl (inl goes)) = absurd (never_both (nodes_in member) (nodes_among others) once from goes.0 there)
            by_side (inl (inr (inl lands))) = absurd (never_both (nodes_in member) (nodes_among others) once from (lands_in from to member lands) there)
            by_side (inl (inr (inr lands))) = inl lands
            by_side (inr is) = inr is

  -- ---- the nests of a shape

  module _ (shape : ShapeTree) (fits : IsFit graph shape) where
    stand_once : StandOnce (nodes_in shape)
    stand_once node = (by_test (is_in node (nodes_in shape)) refl, λ there. fits.nodes.only node there)
      where
        by_test : (test : Bool) → is_in node (nodes_in shape) ≡ test → times node (nodes_in shape) ≤ 1
        by_test true is = let one = fits.nodes.each node (fits.nodes.only node is) in omega (arith, one)
        by_test false is = let none = in_none node (nodes_in shape) is in omega (arith, none)

    once_flat : AreOnce (flat shape)
    once_flat node =
        let weight = weigh_is node (flat shape) in
        let same : times node (all_nodes (flat shape)) ≡ times node (nodes_in shape) = ap (times node) (flat_nodes shape) in
        let most = (stand_once node).0 in omega (arith, weight, same, most)

    pub flat_listed : IsListed flow true nowhere nowhere (flat shape)
    flat_listed = record {
      plain = later_plain (flat shape) (flat_some graph shape fits.form).later;
      covers = flat_covers shape fits.form stand_once nowhere nowhere (λ from to there edge. inl (fits.edges from to edge));
      once = once_flat;
    }

    pub nests_cover : Covers flow (nests_of flow shape)
    nests_cover = (sorts_well flow most_depth).covers true nowhere nowhere [] (flat shape) flat_listed

    pub nests_enter : IsIn flow.entry (chain_entries (nests_of flow shape))
    nests_enter =
        let some = flat_some graph shape fits.form in
        let plain = later_plain (some.first ∷ some.others) (subst (AllNests IsLater) some.is some.later) in
        let entries : chain_entries (nests_of flow shape) ≡ entries_of shape =
        ap (λ (nests : List Nest). chain_entries (sorted_within flow most_depth [] nests)) some.is
        ∙ (sorts_well flow most_depth).entries [] some.first some.others plain ∙ some.enters in
        subst (λ (list : List ℕ). IsIn flow.entry list) (sym entries) fits.entered
