-- Nests: how the nodes of a flow stand in one another in the text that is written from them.
use Rattle.std.specs.Prelude.{ℕ, Bool, true, false, List, [], ◌∷◌, ◌++◌}
use Rattle.reloop.specs.Shapes.{ShapeTree, simple, blocks, loop, dispatch, ShapeTrees, no_shapes, more_shapes}

mutual
  pub data Nest : Type 0 where
    -- a node, and what stands in each arm of its branch; an arm that isn't there is empty
    single : (node : ℕ) → (arms : Chains) → Nest
    -- the choice of a head by `current_block`, and what stands in its arms
    choice : (heads : List ℕ) → (arms : Chains) → Nest
    -- several as one
    group : (members : Chain) → Nest
    -- a loop, which is entered at its head
    repeated : (head : ℕ) → (body : Chain) → Nest
    -- a loop that is entered at several heads; its body begins with the choice of one
    dispatched : (heads : List ℕ) → (body : Chain) → Nest

  -- nests in order, of which each can be left for the beginning of the next one
  pub data Chain : Type 0 where
    no_nests : Chain
    more_nests : Nest → Chain → Chain

  pub data Chains : Type 0 where
    no_chains : Chains
    more_chains : Chain → Chains → Chains

abbrev pub chain : List Nest → Chain
chain [] = no_nests
chain (nest ∷ others) = more_nests nest (chain others)

abbrev pub listed : Chain → List Nest
listed no_nests = []
listed (more_nests nest others) = nest ∷ listed others

abbrev mutual
  -- the nodes at which a nest is entered
  pub nest_entries : Nest → List ℕ
  nest_entries (single node arms) = node ∷ []
  nest_entries (choice heads arms) = heads
  nest_entries (group members) = chain_entries members
  nest_entries (repeated head body) = head ∷ []
  nest_entries (dispatched heads body) = heads

  pub chain_entries : Chain → List ℕ
  chain_entries no_nests = []
  chain_entries (more_nests first others) = nest_entries first

abbrev mutual
  -- a nest is entered by `current_block`, which says at which node
  pub nest_is_told : Nest → Bool
  nest_is_told (single node arms) = false
  nest_is_told (choice heads arms) = true
  nest_is_told (group members) = chain_is_told members
  nest_is_told (repeated head body) = chain_is_told body
  nest_is_told (dispatched heads body) = true

  pub chain_is_told : Chain → Bool
  chain_is_told no_nests = false
  chain_is_told (more_nests first others) = nest_is_told first

abbrev mutual
  -- the nodes in a nest, in its order
  pub nest_nodes : Nest → List ℕ
  nest_nodes (single node arms) = node ∷ chains_nodes arms
  nest_nodes (choice heads arms) = chains_nodes arms
  nest_nodes (group members) = chain_nodes members
  nest_nodes (repeated head body) = chain_nodes body
  nest_nodes (dispatched heads body) = chain_nodes body

  pub chain_nodes : Chain → List ℕ
  chain_nodes no_nests = []
  chain_nodes (more_nests nest others) = nest_nodes nest ++ chain_nodes others

  pub chains_nodes : Chains → List ℕ
  chains_nodes no_chains = []
  chains_nodes (more_chains first others) = chain_nodes first ++ chains_nodes others

abbrev mutual
  -- the nests of a shape, in its order, before any stands in an arm of another: one list for each loop and each dispatch
  pub flat : ShapeTree → List Nest
  flat (simple node) = single node no_chains ∷ []
  flat (blocks members) = all_flat members
  flat (loop head body) = repeated head (chain (flat body)) ∷ []
  flat (dispatch heads body) = dispatched heads (more_nests (choice heads no_chains) (chain (flat body))) ∷ []

  pub all_flat : ShapeTrees → List Nest
  all_flat no_shapes = []
  all_flat (more_shapes member others) = flat member ++ all_flat others
