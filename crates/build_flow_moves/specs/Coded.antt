-- The points of a body beside the places at which a run of it stands: open statements with what is around them, and the ways of jumps (ISO C99, 6.8).
use Rattle.std.specs.Prelude.{◌≡◌, ℕ, zero, suc, ◌+◌, List, [], ◌∷◌, ◌++◌, Option, Some, None}
use Rattle.cx_core.specs.Trees.{CExpr, place_of, CStmt, stmt, CStmtForm, label, case, default, block, expression, if_then, switch, while, do_while, for_loop, goto, continue, break, returns, begin, COtherwise, no_else, else_do, CStmts, no_stmts, more_stmts}
use Rattle.cr_base.specs.declared.refusal.Place.{Place}
use Rattle.cx_mean.specs.BodyGraph.{CPath, at_test, at_third, at_end, body_path}
use Rattle.cx_mean.specs.Moves.{chooses_by, turns_on, CMove, values, reaches, leaves, goes_nowhere, following, slots_in}
use Rattle.cx_mean.specs.Operands.{Frame as CFrame}
use Rattle.cx_mean.specs.Paths.{CRest, nothing_left, statements_left, firsts_left, turn_left, CLevel, CSite, site_at, CWay, arrives, opens}
use Rattle.build_flow_nodes.specs.Builder.{Context, inside, apart, before, in_firsts, in_switch, in_loop, statement_at, first_place, head_of, turn_place, test_point, turn_or_jump, turn_point, list_point, points_of, points_in, points_among, top}
use Rattle.build_flow_nodes.specs.Labels.{has_continue}
use Rattle.build_flow_nodes.specs.Parts.{begun, count_in_test, count_in_option, count_in_condition, count_in_stmt, count_in_stmts, condition}
use Rattle.build_flow_nodes.specs.Points.{FlowPlace, at_part, on_edge, goes, Point, jump, Placed}
use Rattle.rs_text.specs.Tree.{Stmt}
use Rattle.build_flow_moves.specs.Parts.{Stage, objects_in, StmtDone, FormDone, StmtsDone, BeginsDone}

module _ (a : Stage) (at : FlowPlace → Option Point) where
  -- ---- points that stand at their places

  abbrev pub AllThere : List Placed → Type 0
  AllThere [] = Unit {0}
  AllThere (one ∷ others) = (at one.place ≡ Some one.point) × AllThere others

  -- the points of a statement are there, and its parts are done
  pub record StmtThere (ctx : Context) (path : CPath) (number : ℕ) (scope : List ℕ) (s : CStmt) : Type 0 where
    pub there : AllThere (points_of a.of ctx path number s)
    pub done : StmtDone a scope number s

  -- of an open statement
  pub record FormThere (around : Context) (path : CPath) (number : ℕ) (scope : List ℕ) (form : CStmtForm) : Type 0 where
    pub there : AllThere (points_in a.of around path number form)
    pub done : FormDone a scope number form

  -- of those of a list from one on
  pub record StmtsThere (around : Context) (path : CPath) (index number : ℕ) (scope : List ℕ) (ss : CStmts) : Type 0 where
    pub there : AllThere (points_among a.of around path index number ss)
    pub done : StmtsDone a scope number ss

  -- ---- open statements

  -- what is around a part of a statement: of one that has nothing left behind it
  abbrev pub LeavesNothing : Context → CStmtForm → Context → Type 0
  LeavesNothing around (label name body) inner = inner ≡ around
  LeavesNothing around (case value body) inner = inner ≡ around
  LeavesNothing around (default body) inner = inner ≡ around
  LeavesNothing around (if_then test body otherwise) inner = inner ≡ apart around
  LeavesNothing around (switch value body) inner = inner ≡ in_switch around
  LeavesNothing around form inner = ⊥

  -- statements follow in a list, behind which this follows
  pub record LeavesStmts (around : Context) (path : CPath) (scope : List ℕ) (others : CStmts) (inner : Context) : Type 0 where
    pub index : ℕ
    pub number : ℕ
    pub there : StmtsThere around path index number scope others
    pub is : inner ≡ before (list_point a.of around path index number others) (first_place others index path around.place) around

  abbrev pub LeavesInBlock : Context → CPath → List ℕ → CStmtForm → CStmts → Context → Type 0
  LeavesInBlock around path scope (block all) others inner = LeavesStmts around path scope others inner
  LeavesInBlock around path scope form others inner = ⊥

  abbrev pub LeavesInFirsts : Context → CPath → List ℕ → CStmtForm → CStmts → Context → Type 0
  LeavesInFirsts around path scope (for_loop first test next body) others inner = LeavesStmts (in_firsts first test next path around) path scope others inner
  LeavesInFirsts around path scope form others inner = ⊥

  -- the turn of a loop ends
  abbrev pub LeavesTurn : Context → CPath → (number : ℕ) → CStmtForm → Context → Type 0
  LeavesTurn around path number (while test body) inner = inner ≡ in_loop (jump (at_part (at_test path))) (at_part (at_test path)) around
  LeavesTurn around path number (do_while body test) inner =
      inner ≡ in_loop (turn_or_jump (has_continue body) (at_part (at_test path))
      (test_point (condition a.of test (number + count_in_stmt a.of.names body)) (statement_at (0 ∷ path)) around.place)) (at_part (at_test path)) around
  LeavesTurn around path number (for_loop first test next body) inner =
      inner ≡ in_loop (turn_point a.of body next (number + count_in_stmts a.of.names first + count_in_condition a.of.names test) (head_of test first path) path)
      (turn_place next (head_of test first path) path) around
  LeavesTurn around path number form inner = ⊥

  abbrev pub RestCoded : Context → CPath → ℕ → List ℕ → CStmtForm → CRest → Context → Type 0
  RestCoded around path number scope form nothing_left inner = LeavesNothing around form inner
  RestCoded around path number scope form (statements_left others) inner = LeavesInBlock around path scope form others inner
  RestCoded around path number scope form (firsts_left others) inner = LeavesInFirsts around path scope form others inner
  RestCoded around path number scope form turn_left inner = LeavesTurn around path number form inner

  abbrev mutual
    -- a run stands in open statements, around which this is
    pub SiteCoded : List CLevel → Context → Type 0
    SiteCoded [] ctx = ctx ≡ top a.of
    SiteCoded (level ∷ outer) ctx =
        (around : Context) × (path : CPath) × (number : ℕ) × SiteCoded outer around
        × FormThere (inside level.form path around) path number (objects_in (slots_in (level ∷ outer))) level.form
        × RestCoded (inside level.form path around) path number (objects_in (slots_in (level ∷ outer))) level.form level.rest ctx

  -- an open statement at a path
  pub record OpenCoded (level : CLevel) (outer : List CLevel) (path : CPath) (around : Context) (number : ℕ) : Type 0 where
    pub site : SiteCoded outer around
    pub there : FormThere (inside level.form path around) path number (objects_in (slots_in (level ∷ outer))) level.form

  -- ---- ways of jumps

  -- the way to a statement at a path, on which these objects begin, from what is around
  abbrev pub WayCoded : CWay → Context → List ℕ → (target : CPath) → (objects : List ℕ) → Type 0
  WayCoded (arrives s) ctx scope target objects = (number : ℕ) × StmtThere ctx target number scope s × (objects ≡ [])
  WayCoded (opens own form rest way) ctx scope target objects =
      (path : CPath) × (number : ℕ) × (inner : Context) × (others : List ℕ)
      × BeginsDone a [] own scope × FormThere (inside form path ctx) path number (own ++ scope) form
      × RestCoded (inside form path ctx) path number (own ++ scope) form rest inner × WayCoded way inner (own ++ scope) target others × (objects ≡ own ++ others)

  -- ---- moves at places

  -- a loop has this condition
  abbrev pub HasTest : CStmtForm → CExpr → Type 0
  HasTest (while test body) e = test ≡ e
  HasTest (do_while body test) e = test ≡ e
  HasTest (for_loop first test next body) e = test ≡ Some e
  HasTest form e = ⊥

  abbrev pub HasThird : CStmtForm → CExpr → Type 0
  HasThird (for_loop first test next body) e = next ≡ Some e
  HasThird form e = ⊥

  -- a run of C makes this move where that of the crate stands at a place, and these are the objects of its open statements
  pub data AtPlace : FlowPlace → CMove → CFrame → Type 0 where
    reaches_it : (path : CPath) (ctx : Context) (number : ℕ) (levels : List CLevel) (s : CStmt) → SiteCoded levels ctx →
        StmtThere ctx path number (objects_in (slots_in levels)) s → AtPlace (statement_at path) (reaches s (site_at levels a.bottom)) (slots_in levels)
    tests_it : (path : CPath) (around : Context) (number : ℕ) (level : CLevel) (outer : List CLevel) (e : CExpr) → OpenCoded level outer path around number →
        HasTest level.form e → AtPlace (at_part (at_test path)) (values e (chooses_by (place_of e) (site_at (level ∷ outer) a.bottom))) (slots_in (level ∷ outer))
    turns_it : (path : CPath) (around : Context) (number : ℕ) (level : CLevel) (outer : List CLevel) (e : CExpr) → OpenCoded level outer path around number →
        HasThird level.form e → AtPlace (at_part (at_third path)) (values e (turns_on (site_at (level ∷ outer) a.bottom))) (slots_in (level ∷ outer))
    ends_it : AtPlace (at_part at_end) (leaves a.bottom.at_end (site_at [] a.bottom)) []
    -- on the way from a `switch` to a label, where objects begin
    on_the_way : (choice target : CPath) (ctx : Context) (levels : List CLevel) (way : CWay) (objects : List ℕ) (first : Stmt) (rest : List Stmt) → SiteCoded levels ctx →
        WayCoded way ctx (objects_in (slots_in levels)) target objects → begun a.of objects ≡ first ∷ rest →
        at (on_edge choice target) ≡ Some (record { body = first ∷ rest; last = goes (statement_at target) }) → AtPlace (on_edge choice target) (following way (site_at levels a.bottom)) (slots_in levels)
    -- a run that is stuck is owed nothing
    stuck_there : (place : FlowPlace) (where_it_is : Place) (slots : CFrame) → AtPlace place (goes_nowhere where_it_is) slots
