-- A body in the order of its text (ISO C99, 6.8): places, statements of Rust, and branches. From a place on, the statements up to the next branch are what is done there.
use Rattle.std.specs.Prelude.{ℕ, suc, ◌+◌, Bool, true, false, if◌then◌else◌, List, [], ◌∷◌, ◌++◌, flat_map, Option, Some, None}
use Rattle.build_flow_nodes.specs.Builder.{statement_at, first_place, else_place, head_of, turn_place, switch_point, goto_point}
use Rattle.build_flow_nodes.specs.Labels.{Label, labels_in, labels_of_switch, label_where, is_labelled, has_continue}
use Rattle.build_flow_nodes.specs.Parts.{BodyNames, count_in_test, count_in_option, count_in_condition, count_in_stmt, count_in_stmts, begun, declared, effect_of_option, condition, operand_of, given, at_end_of}
use Rattle.build_flow_nodes.specs.Points.{FlowPlace, at_part, on_edge, PlacedBranch, goes, tests, returns as gives_back, Point, behind, Placed, placed}
use Rattle.cx_core.specs.Trees.{CExpr, CStmt, stmt, CStmtForm, label, case, default, block, expression, if_then, switch, while, do_while, for_loop, goto, continue, break, returns, begin, COtherwise, no_else, else_do, CStmts, no_stmts, more_stmts}
use Rattle.cx_mean.specs.BodyGraph.{CPath, at_test, at_third, at_end, body_path, is_named}
use Rattle.cx_mean.specs.Paths.{CTarget, named, case_of, default_case}
use Rattle.rs_text.specs.Tree.{Stmt}

pub data Instr : Type 0 where
  -- control may come here from elsewhere
  marks : FlowPlace → Instr
  does : List Stmt → Instr
  -- control goes on elsewhere, and not to what stands next
  leaves : PlacedBranch → Instr

-- ---- what linear code says

-- what is done from its begin on, where this stands behind it
abbrev pub read : Point → List Instr → Point
read last [] = last
read last (marks place ∷ others) = read last others
read last (does body ∷ others) = behind body (read last others)
read last (leaves branch ∷ others) = record { body = []; last = branch }

-- what is done from each of its places on, in its order
abbrev pub places_in : Point → List Instr → List Placed
places_in last [] = []
places_in last (marks place ∷ others) = placed place (read last others) ∷ places_in last others
places_in last (does body ∷ others) = places_in last others
places_in last (leaves branch ∷ others) = places_in last others

-- ---- what is around

pub record Around : Type 0 where
  -- the place of what follows, and where `break` and `continue` go
  pub place : FlowPlace
  pub breaks : FlowPlace
  pub continues : FlowPlace
  -- the labels of all open statements, those inside of the innermost first
  pub labels : List Label

-- an open statement's own labels are reached first
abbrev pub inside : CStmtForm → CPath → Around → Around
inside form path around = record around { labels = labels_in false form path [] ++ around.labels }

abbrev pub before : FlowPlace → Around → Around
before place around = record around { place = place }

abbrev pub in_switch : Around → Around
in_switch around = record around { breaks = around.place }

-- in the first part of a `for`, behind which its head follows: a `break` or a `continue` there would be the loop's own
abbrev pub in_firsts : (head turn : FlowPlace) → Around → Around
in_firsts head turn around = record around { place = head; breaks = around.place; continues = turn }

-- in a loop whose turn ends at a place
abbrev pub in_loop : FlowPlace → Around → Around
in_loop place around = record around { place = place; breaks = around.place; continues = place }

-- ---- parts

abbrev pub jumps : FlowPlace → List Instr
jumps to = leaves (goes to) ∷ []

-- what a point does, and then it leaves
abbrev pub all_of : Point → List Instr → List Instr
all_of point others = does point.body ∷ leaves point.last ∷ others

abbrev pub test_code : BodyNames → CExpr → ℕ → (if_true if_false : FlowPlace) → List Instr → List Instr
test_code of test number if_true if_false others =
    let one = condition of test number in
    does one.written.body ∷ leaves (tests one.test if_true if_false) ∷ others

-- a labelled statement is reached at its own place alone
abbrev pub entry_code : CStmtForm → CPath → List Instr → List Instr
entry_code form path others = if is_labelled form then leaves (goes (statement_at path)) ∷ others else others

-- the end of a turn stands behind the body, unless a `continue` goes there too
abbrev pub turn_end : Bool → FlowPlace → List Instr → List Instr
turn_end true place others = leaves (goes place) ∷ others
turn_end false place others = others

-- the way from a `switch` to a label behind which objects begin
abbrev pub edge_code : CPath → Label → List Stmt → List Instr
edge_code choice one [] = []
edge_code choice one (first ∷ others) = marks (on_edge choice one.path) ∷ does (first ∷ others) ∷ leaves (goes (statement_at one.path)) ∷ []

abbrev pub edge_of_label : BodyNames → CPath → CTarget → Label → List Instr
edge_of_label of choice (named name) one = []
edge_of_label of choice (case_of value) one = edge_code choice one (begun of one.objects)
edge_of_label of choice default_case one = edge_code choice one (begun of one.objects)

abbrev pub edges_code : BodyNames → CPath → List Label → List Instr
edges_code of path labels = flat_map (λ (it : Label). edge_of_label of path it.target it) labels

abbrev pub third_code : BodyNames → CStmt → Option CExpr → ℕ → (head : FlowPlace) → CPath → List Instr
third_code of body None number head path = leaves (goes head) ∷ []
third_code of body (Some next) number head path =
    turn_end (has_continue body) (at_part (at_third path))
    (marks (at_part (at_third path)) ∷ does (effect_of_option of (Some next) number) ∷ leaves (goes head) ∷ [])

abbrev pub condition_code : BodyNames → Option CExpr → ℕ → CPath → (if_true if_false : FlowPlace) → List Instr → List Instr
condition_code of None number path if_true if_false others = others
condition_code of (Some test) number path if_true if_false others = marks (at_part (at_test path)) ∷ test_code of test number if_true if_false others

-- ---- statements

abbrev mutual
  pub code : BodyNames → Around → CPath → (number : ℕ) → CStmt → List Instr
  code of around path number (stmt place objects form) =
      entry_code form path (marks (statement_at path) ∷ does (begun of objects) ∷ form_code of (inside form path around) path number form)

  -- an open statement
  pub form_code : BodyNames → Around → CPath → ℕ → CStmtForm → List Instr
  form_code of around path number (label name body) = code of around (0 ∷ path) number body
  form_code of around path number (case value body) = code of around (0 ∷ path) number body
  form_code of around path number (default body) = code of around (0 ∷ path) number body
  form_code of around path number (block stmts) = list_code of around path 0 number stmts
  form_code of around path number (expression value) = does (effect_of_option of value number) ∷ []
  form_code of around path number (begin object puts) = does (declared of object puts number) ∷ []
  form_code of around path number (if_then test body otherwise) =
      test_code of test number (statement_at (0 ∷ path)) (else_place otherwise path around.place)
      (code of around (0 ∷ path) (number + count_in_test of.names test) body
      ++ (leaves (goes around.place) ∷ else_code of around path (number + count_in_test of.names test + count_in_stmt of.names body) otherwise))
  form_code of around path number (switch value body) =
      all_of (switch_point of path (operand_of of value number) (labels_of_switch body path) around.place)
      (edges_code of path (labels_of_switch body path)
      ++ (code of (in_switch around) (0 ∷ path) (number + count_in_test of.names value) body ++ jumps around.place))
  form_code of around path number (while test body) =
      leaves (goes (at_part (at_test path)))
      ∷ marks (at_part (at_test path))
      ∷ test_code of test number (statement_at (0 ∷ path)) around.place
      (code of (in_loop (at_part (at_test path)) around) (0 ∷ path) (number + count_in_test of.names test) body ++ jumps (at_part (at_test path)))
  form_code of around path number (do_while body test) =
      leaves (goes (statement_at (0 ∷ path)))
      ∷ (code of (in_loop (at_part (at_test path)) around) (0 ∷ path) number body
      ++ turn_end (has_continue body) (at_part (at_test path))
      (marks (at_part (at_test path)) ∷ test_code of test (number + count_in_stmt of.names body) (statement_at (0 ∷ path)) around.place []))
  form_code of around path number (for_loop first test next body) =
      list_code of (in_firsts (head_of test first path) (turn_place next (head_of test first path) path) around) path 0 number first
      ++ (leaves (goes (head_of test first path))
      ∷ condition_code of test (number + count_in_stmts of.names first) path (statement_at (body_path first path)) around.place
      (code of (in_loop (turn_place next (head_of test first path) path) around) (body_path first path)
      (number + count_in_stmts of.names first + count_in_condition of.names test + count_in_option of.names next) body
      ++ third_code of body next (number + count_in_stmts of.names first + count_in_condition of.names test) (head_of test first path) path))
  form_code of around path number (goto name) = all_of (goto_point of (label_where (is_named name) around.labels) around.place) []
  form_code of around path number continue = jumps around.continues
  form_code of around path number break = jumps around.breaks
  form_code of around path number (returns value) =
      let one = given of value number in
      does one.body ∷ leaves (gives_back one.value) ∷ []

  pub else_code : BodyNames → Around → CPath → ℕ → COtherwise → List Instr
  else_code of around path number no_else = []
  else_code of around path number (else_do body) = code of around (1 ∷ path) number body ++ jumps around.place

  -- statements of a list, from one of a number on
  pub list_code : BodyNames → Around → CPath → (index number : ℕ) → CStmts → List Instr
  list_code of around path index number no_stmts = []
  list_code of around path index number (more_stmts first others) =
      code of (before (first_place others (suc index) path around.place) around) (index ∷ path) number first
      ++ list_code of around path (suc index) (number + count_in_stmt of.names first) others

-- ---- a whole body

abbrev pub outside : Around
outside = record { place = at_part at_end; breaks = at_part at_end; continues = at_part at_end; labels = [] }

abbrev pub body_code : BodyNames → CStmt → List Instr
body_code of body = code of outside [] 0 body ++ (marks (at_part at_end) ∷ leaves (gives_back (at_end_of of)) ∷ [])
