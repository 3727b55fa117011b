-- Nests cover with other nodes ahead and known, as far as they go to these.
use Rattle.std.proofs.Common.{◌≡◌, ◌∙◌, ℕ, ◌==◌, Bool, true, false, ◌||◌, List, [], ◌∷◌, ◌++◌, refl}
use Rattle.reloop.specs.Graphs.{is_in, IsIn}
use Rattle.reloop.proofs.Sets.{or_left, or_right, in_append, equal_itself}
use Rattle.flow.specs.Flows.{FlowTree, targets_of}
use Rattle.emit_rules.specs.Nests.{Nest, single, choice, group, repeated, dispatched, Chain, no_nests, more_nests, Chains, no_chains, more_chains, nest_nodes, chain_nodes, chains_nodes}
use Rattle.emit_laws.specs.Covers.{Nodes, nowhere, with_nodes, either_of, CoversNest, CoversChain, CoverArms}

-- one set of nodes is in another, as far as they are of a kind
abbrev pub IsWithin : (ℕ → Type 0) → Nodes → Nodes → Type 0
IsWithin OfKind some others = (node : ℕ) → OfKind node → some node ≡ true → others node ≡ true

pub in_left : (node : ℕ) (first second : List ℕ) → IsIn node first → IsIn node (first ++ second)
in_left node first second there = in_append node first second ∙ or_left (is_in node first) (is_in node second) there

pub in_right : (node : ℕ) (first second : List ℕ) → IsIn node second → IsIn node (first ++ second)
in_right node first second there = in_append node first second ∙ or_right (is_in node first) (is_in node second) there

pub in_first : (node : ℕ) (others : List ℕ) → IsIn node (node ∷ others)
in_first node others = or_left (node == node) (is_in node others) (equal_itself node)

-- what is in one of two sets is in one of two others
pub either_by : {C : Type 0} (a b : Bool) → (a ≡ true → C) → (b ≡ true → C) → (a || b) ≡ true → C
either_by true b one other is = one refl
either_by false b one other is = other is

-- with others in front
still_either : (e a k m f : Bool) → ((a || k) ≡ true → (m || f) ≡ true) → ((e || a) || k) ≡ true → ((e || m) || f) ≡ true
still_either true a k m f grows is = refl
still_either false a k m f grows is = grows is

abbrev mutual
  -- the heads of the choices that are come to before a loop begins
  pub nest_heads : Nest → List ℕ
  nest_heads (single node arms) = chains_heads arms
  nest_heads (choice heads arms) = heads ++ chains_heads arms
  nest_heads (group members) = chain_heads members
  nest_heads (repeated head body) = []
  nest_heads (dispatched heads body) = []

  pub chain_heads : Chain → List ℕ
  chain_heads no_nests = []
  chain_heads (more_nests first others) = nest_heads first ++ chain_heads others

  pub chains_heads : Chains → List ℕ
  chains_heads no_chains = []
  chains_heads (more_chains first others) = chain_heads first ++ chains_heads others

module _ (flow : FlowTree) where
  -- some nodes go to a node
  pub record GoTo (nodes : List ℕ) (to : ℕ) : Type 0 where
    pub node : ℕ
    pub there : IsIn node nodes
    pub goes : IsIn to (targets_of flow node)

  go_left : (first second : List ℕ) (to : ℕ) → GoTo first to → GoTo (first ++ second) to
  go_left first second to going = record { node = going.node; there = in_left going.node first second going.there; goes = going.goes }

  go_right : (first second : List ℕ) (to : ℕ) → GoTo second to → GoTo (first ++ second) to
  go_right first second to going = record { node = going.node; there = in_right going.node first second going.there; goes = going.goes }

  module _ (behind : Chain → List ℕ) where
    -- the sets of nodes before and behind
    abbrev Grows : List ℕ → List ℕ → (ahead known more further : Nodes) → Type 0
    Grows nodes heads ahead known more further = IsWithin (GoTo nodes) (either_of ahead known) (either_of more further) × IsWithin (λ node. IsIn node heads) ahead more

    -- with nodes ahead, too
    grows_with : (nodes heads entered : List ℕ) (ahead known more further : Nodes) → Grows nodes heads ahead known more further →
        Grows nodes heads (with_nodes entered ahead) known (with_nodes entered more) further
    grows_with nodes heads entered ahead known more further grows = (
      λ to going is. still_either (is_in to entered) (ahead to) (known to) (more to) (further to) (grows.0 to going) is,
      λ to head is. either_by (is_in to entered) (ahead to) (or_left (is_in to entered) (more to)) (λ there. or_right (is_in to entered) (more to) (grows.1 to head there)) is,
    )

    -- what there is within a loop
    grows_within : (nodes heads : List ℕ) (ahead known more further : Nodes) → IsWithin (GoTo nodes) (either_of ahead known) (either_of more further) →
        Grows nodes [] nowhere (with_nodes heads (either_of ahead known)) nowhere (with_nodes heads (either_of more further))
    grows_within nodes heads ahead known more further grows = (
      λ to going is. either_by (is_in to heads) (ahead to || known to) (or_left (is_in to heads) (more to || further to)) (λ there. or_right (is_in to heads) (more to || further to) (grows to going there)) is,
      λ to none. absurd cc,
    )

    -- less of the nodes and heads
    grows_left : (first second heads more_heads : List ℕ) (ahead known more further : Nodes) → Grows (first ++ second) (heads ++ more_heads) ahead known more further → Grows first heads ahead known more further
    grows_left first second heads more_heads ahead known more further grows =
        (λ to going. grows.0 to (go_left first second to going), λ to there. grows.1 to (in_left to heads more_heads there))

    grows_right : (first second heads more_heads : List ℕ) (ahead known more further : Nodes) → Grows (first ++ second) (heads ++ more_heads) ahead known more further → Grows second more_heads ahead known more further
    grows_right first second heads more_heads ahead known more further grows =
        (λ to going. grows.0 to (go_right first second to going), λ to there. grows.1 to (in_right to heads more_heads there))

    chain_within : (body : Chain) (heads : List ℕ) (ahead known more further : Nodes) → IsWithin (GoTo (chain_nodes body)) (either_of ahead known) (either_of more further) →
        ((one other some rest : Nodes) → Grows (chain_nodes body) (chain_heads body) one other some rest → CoversChain flow behind one other body → CoversChain flow behind some rest body) →
        CoversChain flow behind nowhere (with_nodes heads (either_of ahead known)) body → CoversChain flow behind nowhere (with_nodes heads (either_of more further)) body
    chain_within body heads ahead known more further grows covered covers =
        covered nowhere (with_nodes heads (either_of ahead known)) nowhere (with_nodes heads (either_of more further))
        ((grows_within (chain_nodes body) heads ahead known more further grows).0, λ to there none. absurd cc) covers

    mutual
      pub nest_grows : (nest : Nest) (ahead known more further : Nodes) → Grows (nest_nodes nest) (nest_heads nest) ahead known more further → CoversNest flow behind ahead known nest →
          CoversNest flow behind more further nest
      nest_grows (single node arms) ahead known more further grows covers = (
        covers.0,
        arms_grow arms (targets_of flow node) (either_of ahead known) (either_of more further) ahead known more further
            (λ to there. grows.0 to (record { node = node; there = in_first node (chains_nodes arms); goes = there }))
            ((λ to going. grows.0 to (go_right (node ∷ []) (chains_nodes arms) to going)), grows.1) covers.1,
        covers.2,
      )
      nest_grows (choice heads arms) ahead known more further grows covers =
          arms_grow arms heads ahead more ahead known more further (λ to there. grows.1 to (in_left to heads (chains_heads arms) there))
          (grows.0, λ to there. grows.1 to (in_right to heads (chains_heads arms) there)) covers
      nest_grows (group members) ahead known more further grows covers = chain_grows members ahead known more further grows covers
      nest_grows (repeated head body) ahead known more further grows covers =
          (covers.0, chain_within body (head ∷ []) ahead known more further grows.0 (chain_grows body) covers.1)
      nest_grows (dispatched heads body) ahead known more further grows covers = (covers.0, chain_within body heads ahead known more further grows.0 (chain_grows body) covers.1)

      pub chain_grows : (nests : Chain) (ahead known more further : Nodes) → Grows (chain_nodes nests) (chain_heads nests) ahead known more further → CoversChain flow behind ahead known nests →
          CoversChain flow behind more further nests
      chain_grows no_nests ahead known more further grows covers = tt
      chain_grows (more_nests first others) ahead known more further grows covers = (
        nest_grows first (with_nodes (behind others) ahead) known (with_nodes (behind others) more) further
            (grows_with (nest_nodes first) (nest_heads first) (behind others) ahead known more further
            (grows_left (nest_nodes first) (chain_nodes others) (nest_heads first) (chain_heads others) ahead known more further grows)) covers.0,
        chain_grows others ahead known more further (grows_right (nest_nodes first) (chain_nodes others) (nest_heads first) (chain_heads others) ahead known more further grows) covers.1,
      )

      arms_grow : (arms : Chains) (targets : List ℕ) (ways others ahead known more further : Nodes) → IsWithin (λ to. IsIn to targets) ways others →
          Grows (chains_nodes arms) (chains_heads arms) ahead known more further → CoverArms flow behind ways ahead known arms targets → CoverArms flow behind others more further arms targets
      arms_grow no_chains targets ways others ahead known more further within grows covers = λ to there. within to there (covers to there)
      arms_grow (more_chains inner rest) [] ways others ahead known more further within grows covers = covers
      arms_grow (more_chains inner rest) (target ∷ targets) ways others ahead known more further within grows covers = (
        λ held. chain_grows inner ahead known more further (grows_left (chain_nodes inner) (chains_nodes rest) (chain_heads inner) (chains_heads rest) ahead known more further grows) (covers.0 held),
        λ none. let without = covers.1 none in (without.0, within target (in_first target targets) without.1),
        arms_grow rest targets ways others ahead known more further (λ to there. within to (or_right (to == target) (is_in to targets) there))
            (grows_right (chain_nodes inner) (chains_nodes rest) (chain_heads inner) (chains_heads rest) ahead known more further grows) covers.2,
      )

    -- with more nodes ahead
    pub nest_more : (nest : Nest) (ahead more known : Nodes) → ((node : ℕ) → ahead node ≡ true → more node ≡ true) → CoversNest flow behind ahead known nest → CoversNest flow behind more known nest
    nest_more nest ahead more known within covers =
        nest_grows nest ahead known more known
        ((λ to going is. either_by (ahead to) (known to) (λ there. or_left (more to) (known to) (within to there)) (or_right (more to) (known to)) is), λ to head is. within to is) covers
