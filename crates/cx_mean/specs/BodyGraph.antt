-- The graph of a function's body (ISO C99, 6.8): between which of its parts a run may go next, whatever its expressions give; and
-- functions without jumps but structured ones.
use Rattle.std.specs.Prelude.{ℕ, suc, Bool, true, false, ◌&&◌, not, if◌then◌else◌, List, [], ◌∷◌, ◌++◌, map, Option, Some, None, bytes_eq}
use Rattle.cx_core.specs.Trees.{CExpr, CStmt, stmt, CStmtForm, label, case, default, block, expression, if_then, switch, while, do_while, for_loop, goto, continue, break, returns, begin, COtherwise, no_else, else_do, CStmts, no_stmts, more_stmts, CFun}
use Rattle.cx_mean.specs.Paths.{CTarget, named, case_of, default_case}

-- ---- nodes

-- the way to a statement from the body: the numbers of the parts from 0 on, the innermost first
abbrev pub CPath : Type 0
CPath = List ℕ

pub data CNode : Type 0 where
  -- a statement or a declaration
  at_statement : CPath → CNode
  -- the controlling expression of one, also the second of a `for` where it is missing
  at_test : CPath → CNode
  -- the third expression of a `for`
  at_third : CPath → CNode
  -- the end of the body
  at_end : CNode

pub record CEdge : Type 0 where
  pub from : CNode
  pub to : CNode

abbrev pub edge : CNode → CNode → CEdge
edge from to = record { from = from; to = to }

abbrev pub count_of : CStmts → ℕ
count_of no_stmts = 0
count_of (more_stmts first others) = suc (count_of others)

-- the body of a `for` is numbered behind its first part
abbrev pub body_path : CStmts → CPath → CPath
body_path first path = count_of first ∷ path

abbrev pub third_node : Option CExpr → CPath → List CNode
third_node None path = []
third_node (Some next) path = at_third path ∷ []

abbrev mutual
  -- the nodes of a statement
  pub nodes_of : CStmt → CPath → List CNode
  nodes_of (stmt place objects form) path = at_statement path ∷ nodes_of_form form path

  pub nodes_of_form : CStmtForm → CPath → List CNode
  nodes_of_form (label name body) path = nodes_of body (0 ∷ path)
  nodes_of_form (case value body) path = nodes_of body (0 ∷ path)
  nodes_of_form (default body) path = nodes_of body (0 ∷ path)
  nodes_of_form (block stmts) path = nodes_of_list stmts 0 path
  nodes_of_form (if_then test body otherwise) path = at_test path ∷ nodes_of body (0 ∷ path) ++ nodes_of_else otherwise path
  nodes_of_form (switch value body) path = at_test path ∷ nodes_of body (0 ∷ path)
  nodes_of_form (while test body) path = at_test path ∷ nodes_of body (0 ∷ path)
  nodes_of_form (do_while body test) path = at_test path ∷ nodes_of body (0 ∷ path)
  nodes_of_form (for_loop first test next body) path =
      at_test path ∷ third_node next path ++ nodes_of_list first 0 path ++ nodes_of body (body_path first path)
  nodes_of_form (expression value) path = []
  nodes_of_form (goto name) path = []
  nodes_of_form continue path = []
  nodes_of_form break path = []
  nodes_of_form (returns value) path = []
  nodes_of_form (begin number puts) path = []

  pub nodes_of_else : COtherwise → CPath → List CNode
  nodes_of_else no_else path = []
  nodes_of_else (else_do body) path = nodes_of body (1 ∷ path)

  pub nodes_of_list : CStmts → ℕ → CPath → List CNode
  nodes_of_list no_stmts number path = []
  nodes_of_list (more_stmts first others) number path = nodes_of first (number ∷ path) ++ nodes_of_list others (suc number) path

-- ---- labels

-- a labelled statement
pub record CLabelled : Type 0 where
  pub target : CTarget
  pub path : CPath

abbrev pub labelled : CTarget → CPath → CLabelled
labelled target path = record { target = target; path = path }

abbrev pub unless : Bool → List CLabelled → List CLabelled
unless true found = []
unless false found = found

abbrev mutual
  -- the labelled statements in a statement; those of an inner `switch` may be left out
  pub labels_of : (own : Bool) → CStmt → CPath → List CLabelled
  labels_of own (stmt place objects form) path = labels_of_form own form path

  pub labels_of_form : Bool → CStmtForm → CPath → List CLabelled
  labels_of_form own (label name body) path = labelled (named name) path ∷ labels_of own body (0 ∷ path)
  labels_of_form own (case value body) path = labelled (case_of value) path ∷ labels_of own body (0 ∷ path)
  labels_of_form own (default body) path = labelled default_case path ∷ labels_of own body (0 ∷ path)
  labels_of_form own (block stmts) path = labels_of_list own stmts 0 path
  labels_of_form own (if_then test body otherwise) path = labels_of own body (0 ∷ path) ++ labels_of_else own otherwise path
  labels_of_form own (switch value body) path = unless own (labels_of own body (0 ∷ path))
  labels_of_form own (while test body) path = labels_of own body (0 ∷ path)
  labels_of_form own (do_while body test) path = labels_of own body (0 ∷ path)
  labels_of_form own (for_loop first test next body) path = labels_of own body (body_path first path)
  labels_of_form own (expression value) path = []
  labels_of_form own (goto name) path = []
  labels_of_form own continue path = []
  labels_of_form own break path = []
  labels_of_form own (returns value) path = []
  labels_of_form own (begin number puts) path = []

  pub labels_of_else : Bool → COtherwise → CPath → List CLabelled
  labels_of_else own no_else path = []
  labels_of_else own (else_do body) path = labels_of own body (1 ∷ path)

  pub labels_of_list : Bool → CStmts → ℕ → CPath → List CLabelled
  labels_of_list own no_stmts number path = []
  labels_of_list own (more_stmts first others) number path =
      labels_of own first (number ∷ path) ++ labels_of_list own others (suc number) path

abbrev pub is_named : List ℕ → CTarget → Bool
is_named name (named own) = bytes_eq name own
is_named name (case_of value) = false
is_named name default_case = false

abbrev pub is_case : CTarget → Bool
is_case (named name) = false
is_case (case_of value) = true
is_case default_case = true

abbrev pub is_default : CTarget → Bool
is_default (named name) = false
is_default (case_of value) = false
is_default default_case = true

-- the statements with a target that passes a test
abbrev pub nodes_where : (CTarget → Bool) → List CLabelled → List CNode
nodes_where test [] = []
nodes_where test (one ∷ others) =
    if test one.target then at_statement one.path ∷ nodes_where test others else nodes_where test others

abbrev pub or_else : List CNode → CNode → List CNode
or_else [] other = other ∷ []
or_else (first ∷ others) other = []

-- ---- edges

-- where jumps lead: `break` and `continue`, where there is such a statement around, and `goto`
pub record CJumps : Type 0 where
  pub breaks : List CNode
  pub continues : List CNode
  pub labels : List CLabelled

abbrev pub in_switch : CNode → CJumps → CJumps
in_switch next jumps = record jumps { breaks = next ∷ [] }

abbrev pub in_loop : (next again : CNode) → CJumps → CJumps
in_loop next again jumps = record jumps { breaks = next ∷ []; continues = again ∷ [] }

abbrev pub edges_to : CNode → List CNode → List CEdge
edges_to from tos = map (edge from) tos

-- the first of statements, or what follows
abbrev pub first_or : CStmts → ℕ → CPath → CNode → CNode
first_or no_stmts number path next = next
first_or (more_stmts first others) number path next = at_statement (number ∷ path)

abbrev pub else_or : COtherwise → CPath → CNode → CNode
else_or no_else path next = next
else_or (else_do body) path next = at_statement (1 ∷ path)

-- a missing condition has the body alone
abbrev pub test_ways : Option CExpr → CNode → CNode → List CNode
test_ways None body next = body ∷ []
test_ways (Some test) body next = body ∷ next ∷ []

-- the end of a turn of a `for`
abbrev pub turn_node : Option CExpr → CPath → CNode
turn_node None path = at_test path
turn_node (Some next) path = at_third path

abbrev pub third_edges : Option CExpr → CPath → List CEdge
third_edges None path = []
third_edges (Some next) path = edge (at_third path) (at_test path) ∷ []

-- a `switch` goes to each of its labels, and without `default` to what follows it
abbrev pub switch_ways : List CLabelled → CNode → List CNode
switch_ways labels next = nodes_where is_case labels ++ or_else (nodes_where is_default labels) next

abbrev mutual
  -- the edges of a statement, behind which this node follows
  pub edges_of : CJumps → CStmt → CPath → (next : CNode) → List CEdge
  edges_of jumps (stmt place objects form) path next = edges_of_form jumps form path next

  pub edges_of_form : CJumps → CStmtForm → CPath → CNode → List CEdge
  edges_of_form jumps (label name body) path next =
      edge (at_statement path) (at_statement (0 ∷ path)) ∷ edges_of jumps body (0 ∷ path) next
  edges_of_form jumps (case value body) path next =
      edge (at_statement path) (at_statement (0 ∷ path)) ∷ edges_of jumps body (0 ∷ path) next
  edges_of_form jumps (default body) path next =
      edge (at_statement path) (at_statement (0 ∷ path)) ∷ edges_of jumps body (0 ∷ path) next
  edges_of_form jumps (block stmts) path next =
      edge (at_statement path) (first_or stmts 0 path next) ∷ edges_of_list jumps stmts 0 path next
  edges_of_form jumps (expression value) path next = edge (at_statement path) next ∷ []
  edges_of_form jumps (if_then test body otherwise) path next =
      edge (at_statement path) (at_test path) ∷ edge (at_test path) (at_statement (0 ∷ path))
      ∷ edge (at_test path) (else_or otherwise path next) ∷ edges_of jumps body (0 ∷ path) next
      ++ edges_of_else jumps otherwise path next
  edges_of_form jumps (switch value body) path next =
      edge (at_statement path) (at_test path) ∷ edges_to (at_test path) (switch_ways (labels_of true body (0 ∷ path)) next)
      ++ edges_of (in_switch next jumps) body (0 ∷ path) next
  edges_of_form jumps (while test body) path next =
      edge (at_statement path) (at_test path) ∷ edge (at_test path) (at_statement (0 ∷ path)) ∷ edge (at_test path) next
      ∷ edges_of (in_loop next (at_test path) jumps) body (0 ∷ path) (at_test path)
  edges_of_form jumps (do_while body test) path next =
      edge (at_statement path) (at_statement (0 ∷ path)) ∷ edge (at_test path) (at_statement (0 ∷ path)) ∷ edge (at_test path) next
      ∷ edges_of (in_loop next (at_test path) jumps) body (0 ∷ path) (at_test path)
  edges_of_form jumps (for_loop first test third body) path next =
      edge (at_statement path) (first_or first 0 path (at_test path))
      ∷ edges_to (at_test path) (test_ways test (at_statement (body_path first path)) next)
      ++ third_edges third path
      ++ edges_of_list jumps first 0 path (at_test path)
      ++ edges_of (in_loop next (turn_node third path) jumps) body (body_path first path) (turn_node third path)
  edges_of_form jumps (goto name) path next = edges_to (at_statement path) (nodes_where (is_named name) jumps.labels)
  edges_of_form jumps continue path next = edges_to (at_statement path) jumps.continues
  edges_of_form jumps break path next = edges_to (at_statement path) jumps.breaks
  edges_of_form jumps (returns value) path next = edge (at_statement path) at_end ∷ []
  edges_of_form jumps (begin number puts) path next = edge (at_statement path) next ∷ []

  pub edges_of_else : CJumps → COtherwise → CPath → CNode → List CEdge
  edges_of_else jumps no_else path next = []
  edges_of_else jumps (else_do body) path next = edges_of jumps body (1 ∷ path) next

  pub edges_of_list : CJumps → CStmts → ℕ → CPath → CNode → List CEdge
  edges_of_list jumps no_stmts number path next = []
  edges_of_list jumps (more_stmts first others) number path next =
      edges_of jumps first (number ∷ path) (first_or others (suc number) path next)
      ++ edges_of_list jumps others (suc number) path next

-- ---- the graph

pub record CBodyGraph : Type 0 where
  pub nodes : List CNode
  pub edges : List CEdge
  pub entry : CNode

abbrev pub jumps_in : CStmt → CJumps
jumps_in body = record { breaks = []; continues = []; labels = labels_of false body [] }

-- the graph of a body: a node for each statement and declaration, one for each controlling expression and each third
-- expression of a `for`, and one for the end
abbrev pub body_graph : CStmt → CBodyGraph
body_graph body = record {
  nodes = nodes_of body [] ++ at_end ∷ [];
  edges = edges_of (jumps_in body) body [] at_end;
  entry = at_statement [];
}

-- ---- plain functions

abbrev mutual
  -- no `goto`, and no `case` or `default` inside a loop inside its `switch`; there may be such a loop around
  pub is_plain_stmt : (in_loop : Bool) → CStmt → Bool
  is_plain_stmt in_loop (stmt place objects form) = is_plain_form in_loop form

  pub is_plain_form : Bool → CStmtForm → Bool
  is_plain_form in_loop (label name body) = is_plain_stmt in_loop body
  is_plain_form in_loop (case value body) = not in_loop && is_plain_stmt in_loop body
  is_plain_form in_loop (default body) = not in_loop && is_plain_stmt in_loop body
  is_plain_form in_loop (block stmts) = are_plain in_loop stmts
  is_plain_form in_loop (if_then test body otherwise) = is_plain_stmt in_loop body && is_plain_else in_loop otherwise
  is_plain_form in_loop (switch value body) = is_plain_stmt false body
  is_plain_form in_loop (while test body) = is_plain_stmt true body
  is_plain_form in_loop (do_while body test) = is_plain_stmt true body
  is_plain_form in_loop (for_loop first test next body) = are_plain in_loop first && is_plain_stmt true body
  is_plain_form in_loop (goto name) = false
  is_plain_form in_loop (expression value) = true
  is_plain_form in_loop continue = true
  is_plain_form in_loop break = true
  is_plain_form in_loop (returns value) = true
  is_plain_form in_loop (begin number puts) = true

  pub is_plain_else : Bool → COtherwise → Bool
  is_plain_else in_loop no_else = true
  is_plain_else in_loop (else_do body) = is_plain_stmt in_loop body

  pub are_plain : Bool → CStmts → Bool
  are_plain in_loop no_stmts = true
  are_plain in_loop (more_stmts first others) = is_plain_stmt in_loop first && are_plain in_loop others

abbrev pub is_plain : CFun → Bool
is_plain one = is_plain_stmt false one.body
