-- The flow of a body (ISO C99, 6.8). A branch goes straight to the place of what follows: no node joins ways, none is written twice, and none is skipped. What follows a statement that comes to
-- its end stands behind it, unless control comes there from elsewhere too.
use Rattle.std.specs.Prelude.{ℕ, suc, ◌+◌, Bool, true, false, if◌then◌else◌, List, [], ◌∷◌, ◌++◌, flat_map, Option, Some, None}
use Rattle.build_flow_nodes.specs.Parts.{BodyNames, count_in_test, count_in_option, count_in_condition, count_in_stmt, count_in_stmts, begun, declared, effect_of_option, condition, operand_of, Operand, Return, given, at_end_of}
use Rattle.build_flow_nodes.specs.Points.{FlowPlace, at_part, on_edge, PlacedCase, goes, tests, chooses, returns as gives_back, Point, jump, behind, Placed, placed}
use Rattle.cx_core.specs.Trees.{CExpr, CStmt, stmt, CStmtForm, label, case, default, block, expression, if_then, switch, while, do_while, for_loop, goto, continue, break, returns, begin, COtherwise, no_else, else_do, CStmts, no_stmts, more_stmts}
use Rattle.cx_mean.specs.BodyGraph.{CPath, at_statement, at_test, at_third, at_end, body_path}
use Rattle.cx_mean.specs.Paths.{CTarget, named, case_of, default_case}
use Rattle.lift_exprs.specs.Lifted.{Condition}
use Rattle.rs_text.specs.Tree.{Stmt}
use Rattle.build_flow_nodes.specs.Labels.{Label, labels_in, labels_of_switch, label_where, is_labelled, has_continue}
use Rattle.cx_mean.specs.BodyGraph.{is_named, is_default}

-- ---- what is around

pub record Context : Type 0 where
  -- what follows: inlined, and by its place
  pub next : Point
  pub place : FlowPlace
  -- where `break` and `continue` go
  pub breaks : FlowPlace
  pub continues : FlowPlace
  -- the labels of all open statements, those inside of the innermost first
  pub labels : List Label

-- an open statement's own labels are reached first
abbrev pub inside : CStmtForm → CPath → Context → Context
inside form path ctx = record ctx { labels = labels_in false form path [] ++ ctx.labels }

-- what follows is reached by its place alone
abbrev pub apart : Context → Context
apart ctx = record ctx { next = jump ctx.place }

-- in a list, before others
abbrev pub before : Point → FlowPlace → Context → Context
before next place ctx = record ctx { next = next; place = place }

abbrev pub in_switch : Context → Context
in_switch ctx = record ctx { next = jump ctx.place; breaks = ctx.place }

-- in a loop whose turn ends so, at a place
abbrev pub in_loop : Point → FlowPlace → Context → Context
in_loop turn place ctx = record ctx { next = turn; place = place; breaks = ctx.place; continues = place }

-- ---- places

abbrev pub statement_at : CPath → FlowPlace
statement_at path = at_part (at_statement path)

abbrev pub first_place : CStmts → ℕ → CPath → FlowPlace → FlowPlace
first_place no_stmts number path place = place
first_place (more_stmts first others) number path place = statement_at (number ∷ path)

abbrev pub else_place : COtherwise → CPath → FlowPlace → FlowPlace
else_place no_else path place = place
else_place (else_do body) path place = statement_at (1 ∷ path)

-- the head of a `for`: its condition, or its body where it has none
abbrev pub head_of : Option CExpr → CStmts → CPath → FlowPlace
head_of None first path = statement_at (body_path first path)
head_of (Some test) first path = at_part (at_test path)

-- the end of a turn of a `for`
abbrev pub turn_place : Option CExpr → FlowPlace → CPath → FlowPlace
turn_place None head path = head
turn_place (Some next) head path = at_part (at_third path)

-- in the first part of a `for`, behind which its head follows; the loop is open there, so that a `break` or a `continue` would be its own
abbrev pub in_firsts : CStmts → Option CExpr → Option CExpr → CPath → Context → Context
in_firsts first test next path ctx = record ctx {
  next = jump (head_of test first path);
  place = head_of test first path;
  breaks = ctx.place;
  continues = turn_place next (head_of test first path) path;
}

-- ---- points

abbrev pub test_point : Condition → (if_true if_false : FlowPlace) → Point
test_point one if_true if_false = record { body = one.written.body; last = tests one.test if_true if_false }

abbrev pub return_point : Return → Point
return_point one = record { body = one.body; last = gives_back one.value }

-- where a `switch` goes for a label: to the statement, or to what begins the objects on its way
abbrev pub edge_place : List Stmt → CPath → CPath → FlowPlace
edge_place [] choice target = statement_at target
edge_place (one ∷ others) choice target = on_edge choice target

abbrev pub label_place : BodyNames → CPath → Label → FlowPlace
label_place of choice one = edge_place (begun of one.objects) choice one.path

abbrev pub case_in : BodyNames → CPath → CTarget → Label → List PlacedCase
case_in of choice (case_of value) one = record { value = value; to = label_place of choice one } ∷ []
case_in of choice (named name) one = []
case_in of choice default_case one = []

abbrev pub default_or : BodyNames → CPath → Option Label → FlowPlace → FlowPlace
default_or of choice None place = place
default_or of choice (Some one) place = label_place of choice one

abbrev pub switch_point : BodyNames → CPath → Operand → List Label → FlowPlace → Point
switch_point of path one labels place = record {
  body = one.body;
  last = chooses (record {
    on = one.value;
    by = one.by;
    cases = flat_map (λ (it : Label). case_in of path it.target it) labels;
    other = default_or of path (label_where is_default labels) place;
  });
}

-- a jump to a label: the objects on its way begin
abbrev pub goto_point : BodyNames → Option Label → FlowPlace → Point
goto_point of None place = jump place
goto_point of (Some one) place = behind (begun of one.objects) (jump (statement_at one.path))

-- the third expression of a `for`, and then its head
abbrev pub third_point : BodyNames → Option CExpr → ℕ → FlowPlace → Point
third_point of next number head = behind (effect_of_option of next number) (jump head)

-- the end of a turn stands behind the body, unless a `continue` goes there too
abbrev pub turn_or_jump : Bool → FlowPlace → Point → Point
turn_or_jump true place turn = jump place
turn_or_jump false place turn = turn

abbrev pub turn_point : BodyNames → CStmt → Option CExpr → ℕ → FlowPlace → CPath → Point
turn_point of body None number head path = jump head
turn_point of body (Some next) number head path = turn_or_jump (has_continue body) (at_part (at_third path)) (third_point of (Some next) number head)

abbrev mutual
  -- what a statement does, from its begin on, and what follows: a labelled one is reached at its own place
  pub point : BodyNames → Context → CPath → (number : ℕ) → CStmt → Point
  point of ctx path number (stmt place objects form) =
      if is_labelled form then jump (statement_at path) else behind (begun of objects) (form_point of (inside form path ctx) path number form)

  -- what an open statement does
  pub form_point : BodyNames → Context → CPath → ℕ → CStmtForm → Point
  form_point of ctx path number (label name body) = point of ctx (0 ∷ path) number body
  form_point of ctx path number (case value body) = point of ctx (0 ∷ path) number body
  form_point of ctx path number (default body) = point of ctx (0 ∷ path) number body
  form_point of ctx path number (block stmts) = list_point of ctx path 0 number stmts
  form_point of ctx path number (expression value) = behind (effect_of_option of value number) ctx.next
  form_point of ctx path number (begin object puts) = behind (declared of object puts number) ctx.next
  form_point of ctx path number (if_then test body otherwise) =
      test_point (condition of test number) (statement_at (0 ∷ path)) (else_place otherwise path ctx.place)
  form_point of ctx path number (switch value body) = switch_point of path (operand_of of value number) (labels_of_switch body path) ctx.place
  form_point of ctx path number (while test body) = jump (at_part (at_test path))
  form_point of ctx path number (do_while body test) = jump (statement_at (0 ∷ path))
  form_point of ctx path number (for_loop first test next body) =
      list_point of (in_firsts first test next path ctx) path 0 number first
  form_point of ctx path number (goto name) = goto_point of (label_where (is_named name) ctx.labels) ctx.place
  form_point of ctx path number continue = jump ctx.continues
  form_point of ctx path number break = jump ctx.breaks
  form_point of ctx path number (returns value) = return_point (given of value number)

  -- statements of a list, from one of a number on
  pub list_point : BodyNames → Context → CPath → (index number : ℕ) → CStmts → Point
  list_point of ctx path index number no_stmts = ctx.next
  list_point of ctx path index number (more_stmts first others) =
      point of
      (before (list_point of ctx path (suc index) (number + count_in_stmt of.names first) others) (first_place others (suc index) path ctx.place) ctx)
      (index ∷ path) number first

-- what a statement does at its own place
abbrev pub own_point : BodyNames → Context → CPath → (number : ℕ) → CStmt → Point
own_point of ctx path number (stmt place objects form) = behind (begun of objects) (form_point of (inside form path ctx) path number form)

-- ---- what stands at each place

abbrev pub edge_at : CPath → Label → List Stmt → List Placed
edge_at choice one [] = []
edge_at choice one (first ∷ others) = placed (on_edge choice one.path) (record { body = first ∷ others; last = goes (statement_at one.path) }) ∷ []

abbrev pub edges_of_switch : BodyNames → CPath → CTarget → Label → List Placed
edges_of_switch of choice (named name) one = []
edges_of_switch of choice (case_of value) one = edge_at choice one (begun of one.objects)
edges_of_switch of choice default_case one = edge_at choice one (begun of one.objects)

abbrev pub test_at : BodyNames → Option CExpr → ℕ → CPath → (if_true if_false : FlowPlace) → List Placed
test_at of None number path if_true if_false = []
test_at of (Some test) number path if_true if_false = placed (at_part (at_test path)) (test_point (condition of test number) if_true if_false) ∷ []

abbrev pub third_at : BodyNames → Option CExpr → ℕ → FlowPlace → CPath → List Placed
third_at of None number head path = []
third_at of (Some next) number head path = placed (at_part (at_third path)) (third_point of (Some next) number head) ∷ []

-- a `for` behind its first part, whose body's points are told
abbrev pub for_points : BodyNames → Context → CPath → ℕ → CStmts → Option CExpr → Option CExpr → CStmt → (Context → ℕ → List Placed) → List Placed
for_points of ctx path number first test next body points =
    test_at of test number path (statement_at (body_path first path)) ctx.place
    ++ (points
    (in_loop (turn_point of body next (number + count_in_condition of.names test) (head_of test first path) path) (turn_place next (head_of test first path) path) ctx)
    (number + count_in_condition of.names test + count_in_option of.names next)
    ++ third_at of next (number + count_in_condition of.names test) (head_of test first path) path)

abbrev mutual
  -- in the order of the text
  pub points_of : BodyNames → Context → CPath → (number : ℕ) → CStmt → List Placed
  points_of of ctx path number (stmt place objects form) =
      placed (statement_at path) (own_point of ctx path number (stmt place objects form)) ∷ points_in of (inside form path ctx) path number form

  pub points_in : BodyNames → Context → CPath → ℕ → CStmtForm → List Placed
  points_in of ctx path number (label name body) = points_of of ctx (0 ∷ path) number body
  points_in of ctx path number (case value body) = points_of of ctx (0 ∷ path) number body
  points_in of ctx path number (default body) = points_of of ctx (0 ∷ path) number body
  points_in of ctx path number (block stmts) = points_among of ctx path 0 number stmts
  points_in of ctx path number (expression value) = []
  points_in of ctx path number (begin object puts) = []
  points_in of ctx path number (if_then test body otherwise) =
      points_of of (apart ctx) (0 ∷ path) (number + count_in_test of.names test) body
      ++ points_in_else of (apart ctx) path (number + count_in_test of.names test + count_in_stmt of.names body) otherwise
  points_in of ctx path number (switch value body) =
      flat_map (λ (it : Label). edges_of_switch of path it.target it) (labels_of_switch body path)
      ++ points_of of (in_switch ctx) (0 ∷ path) (number + count_in_test of.names value) body
  points_in of ctx path number (while test body) =
      test_at of (Some test) number path (statement_at (0 ∷ path)) ctx.place
      ++ points_of of (in_loop (jump (at_part (at_test path))) (at_part (at_test path)) ctx) (0 ∷ path) (number + count_in_test of.names test) body
  points_in of ctx path number (do_while body test) =
      points_of of
      (in_loop
      (turn_or_jump (has_continue body) (at_part (at_test path))
      (test_point (condition of test (number + count_in_stmt of.names body)) (statement_at (0 ∷ path)) ctx.place))
      (at_part (at_test path)) ctx) (0 ∷ path) number body
      ++ test_at of (Some test) (number + count_in_stmt of.names body) path (statement_at (0 ∷ path)) ctx.place
  points_in of ctx path number (for_loop first test next body) =
      points_among of (in_firsts first test next path ctx) path 0 number first
      ++ for_points of ctx path (number + count_in_stmts of.names first) first test next body
      (λ around from. points_of of around (body_path first path) from body)
  points_in of ctx path number (goto name) = []
  points_in of ctx path number continue = []
  points_in of ctx path number break = []
  points_in of ctx path number (returns value) = []

  pub points_in_else : BodyNames → Context → CPath → ℕ → COtherwise → List Placed
  points_in_else of ctx path number no_else = []
  points_in_else of ctx path number (else_do body) = points_of of ctx (1 ∷ path) number body

  pub points_among : BodyNames → Context → CPath → (index number : ℕ) → CStmts → List Placed
  points_among of ctx path index number no_stmts = []
  points_among of ctx path index number (more_stmts first others) =
      points_of of
      (before (list_point of ctx path (suc index) (number + count_in_stmt of.names first) others) (first_place others (suc index) path ctx.place) ctx)
      (index ∷ path) number first
      ++ points_among of ctx path (suc index) (number + count_in_stmt of.names first) others

-- ---- a whole body

-- the end of the body
abbrev pub end_point : BodyNames → Point
end_point of = record { body = []; last = gives_back (at_end_of of) }

abbrev pub top : BodyNames → Context
top of = record { next = end_point of; place = at_part at_end; breaks = at_part at_end; continues = at_part at_end; labels = [] }

abbrev pub points_in_body : BodyNames → CStmt → List Placed
points_in_body of body = points_of of (top of) [] 0 body ++ (placed (at_part at_end) (end_point of) ∷ [])
