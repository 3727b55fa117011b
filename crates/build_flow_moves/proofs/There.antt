-- The parts of statements whose points are there.
use Rattle.std.proofs.Common.{◌≡◌, ℕ, ℤ, suc, ◌+◌, List, [], ◌∷◌, ◌++◌, flat_map, Option, Some, None}
use Rattle.build_flow_nodes.specs.Builder.{Context, inside, apart, before, in_firsts, in_switch, in_loop, statement_at, first_place, else_place, head_of, turn_place, test_point, third_point, switch_point, turn_or_jump, turn_point, list_point, own_point, edges_of_switch, points_of, points_in, points_in_else, points_among, test_at, third_at}
use Rattle.build_flow_nodes.specs.Labels.{Label, has_continue, labels_of_switch}
use Rattle.build_flow_nodes.specs.Parts.{count_in_test, count_in_option, count_in_condition, count_in_stmt, count_in_stmts, condition}
use Rattle.build_flow_nodes.specs.Points.{FlowPlace, at_part, Point, jump, Placed}
use Rattle.cr_base.specs.declared.refusal.Place.{Place}
use Rattle.cx_core.specs.Trees.{CExpr, CStmt, stmt, CStmtForm, label, case, default, block, if_then, switch, while, do_while, for_loop, COtherwise, no_else, else_do, CStmts, no_stmts, more_stmts}
use Rattle.cx_mean.specs.BodyGraph.{CPath, at_test, at_third, body_path}
use Rattle.build_flow_moves.specs.Coded.{AllThere, StmtThere, FormThere, StmtsThere}
use Rattle.build_flow_moves.specs.Parts.{Stage, BeginsDone}

module _ (a : Stage) (at : FlowPlace → Option Point) where
  pub all_left : (first others : List Placed) → AllThere a at (first ++ others) → AllThere a at first
  all_left [] others all = tt
  all_left (one ∷ first) others all = (all.0, all_left first others all.1)

  pub all_right : (first others : List Placed) → AllThere a at (first ++ others) → AllThere a at others
  all_right [] others all = all
  all_right (one ∷ first) others all = all_right first others all.1

  module _ (ctx : Context) (path : CPath) (number : ℕ) (scope : List ℕ) where
    -- ---- statements

    pub own_there : (place : Place) (objects : List ℕ) (form : CStmtForm) → StmtThere a at ctx path number scope (stmt place objects form) →
        at (statement_at path) ≡ Some (own_point a.of ctx path number (stmt place objects form))
    own_there place objects form s = s.there.0

    pub form_there : (place : Place) (objects : List ℕ) (form : CStmtForm) → StmtThere a at ctx path number scope (stmt place objects form) →
        FormThere a at (inside form path ctx) path number (objects ++ scope) form
    form_there place objects form s = record { there = s.there.1; done = s.done.1 }

    pub begins_done : (place : Place) (objects : List ℕ) (form : CStmtForm) → StmtThere a at ctx path number scope (stmt place objects form) → BeginsDone a [] objects scope
    begins_done place objects form s = s.done.0

    -- ---- lists

    pub stmts_first : (index : ℕ) (first : CStmt) (others : CStmts) → StmtsThere a at ctx path index number scope (more_stmts first others) →
        StmtThere a at (before (list_point a.of ctx path (suc index) (number + count_in_stmt a.of.names first) others) (first_place others (suc index) path ctx.place) ctx)
        (index ∷ path) number scope first
    stmts_first index first others s = record { there = all_left _ _ s.there; done = s.done.0 }

    pub stmts_others : (index : ℕ) (first : CStmt) (others : CStmts) → StmtsThere a at ctx path index number scope (more_stmts first others) →
        StmtsThere a at ctx path (suc index) (number + count_in_stmt a.of.names first) scope others
    stmts_others index first others s =
        record {
          there =
              all_right
              (points_of a.of (before (list_point a.of ctx path (suc index) (number + count_in_stmt a.of.names first) others) (first_place others (suc index) path ctx.place) ctx)
              (index ∷ path) number first) _ s.there;
          done = s.done.1;
        }

    -- ---- open statements

    pub label_body : (name : List ℕ) (body : CStmt) → FormThere a at ctx path number scope (label name body) → StmtThere a at ctx (0 ∷ path) number scope body
    label_body name body f = record { there = f.there; done = f.done }

    pub case_body : (value : ℤ) (body : CStmt) → FormThere a at ctx path number scope (case value body) → StmtThere a at ctx (0 ∷ path) number scope body
    case_body value body f = record { there = f.there; done = f.done }

    pub default_body : (body : CStmt) → FormThere a at ctx path number scope (default body) → StmtThere a at ctx (0 ∷ path) number scope body
    default_body body f = record { there = f.there; done = f.done }

    pub block_stmts : (ss : CStmts) → FormThere a at ctx path number scope (block ss) → StmtsThere a at ctx path 0 number scope ss
    block_stmts ss f = record { there = f.there; done = f.done }

    pub if_body : (test : CExpr) (body : CStmt) (otherwise : COtherwise) → FormThere a at ctx path number scope (if_then test body otherwise) →
        StmtThere a at (apart ctx) (0 ∷ path) (number + count_in_test a.of.names test) scope body
    if_body test body otherwise f = record { there = all_left _ _ f.there; done = f.done.1 }

    pub else_body : (test : CExpr) (body otherwise : CStmt) → FormThere a at ctx path number scope (if_then test body (else_do otherwise)) →
        StmtThere a at (apart ctx) (1 ∷ path) (number + count_in_test a.of.names test + count_in_stmt a.of.names body) scope otherwise
    else_body test body otherwise f = record { there = all_right (points_of a.of (apart ctx) (0 ∷ path) (number + count_in_test a.of.names test) body) _ f.there; done = f.done.2 }

    pub switch_body : (value : CExpr) (body : CStmt) → FormThere a at ctx path number scope (switch value body) →
        StmtThere a at (in_switch ctx) (0 ∷ path) (number + count_in_test a.of.names value) scope body
    switch_body value body f = record { there = all_right (flat_map (λ (it : Label). edges_of_switch a.of path it.target it) (labels_of_switch body path)) _ f.there; done = f.done.1 }

    pub while_test : (test : CExpr) (body : CStmt) → FormThere a at ctx path number scope (while test body) →
        at (at_part (at_test path)) ≡ Some (test_point (condition a.of test number) (statement_at (0 ∷ path)) ctx.place)
    while_test test body f = f.there.0

    pub while_body : (test : CExpr) (body : CStmt) → FormThere a at ctx path number scope (while test body) →
        StmtThere a at (in_loop (jump (at_part (at_test path))) (at_part (at_test path)) ctx) (0 ∷ path) (number + count_in_test a.of.names test) scope body
    while_body test body f = record { there = f.there.1; done = f.done.1 }

    abbrev pub in_do : CStmt → CExpr → Context
    in_do body test =
        in_loop (turn_or_jump (has_continue body) (at_part (at_test path)) (test_point (condition a.of test (number + count_in_stmt a.of.names body)) (statement_at (0 ∷ path)) ctx.place))
        (at_part (at_test path)) ctx

    pub do_body : (body : CStmt) (test : CExpr) → FormThere a at ctx path number scope (do_while body test) → StmtThere a at (in_do body test) (0 ∷ path) number scope body
    do_body body test f = record { there = all_left _ _ f.there; done = f.done.0 }

    pub do_test : (body : CStmt) (test : CExpr) → FormThere a at ctx path number scope (do_while body test) →
        at (at_part (at_test path)) ≡ Some (test_point (condition a.of test (number + count_in_stmt a.of.names body)) (statement_at (0 ∷ path)) ctx.place)
    do_test body test f = (all_right (points_of a.of (in_do body test) (0 ∷ path) number body) _ f.there).0

    pub for_firsts : (first : CStmts) (test next : Option CExpr) (body : CStmt) → FormThere a at ctx path number scope (for_loop first test next body) →
        StmtsThere a at (in_firsts first test next path ctx) path 0 number scope first
    for_firsts first test next body f = record { there = all_left _ _ f.there; done = f.done.0 }

    abbrev pub in_for : CStmts → Option CExpr → Option CExpr → CStmt → Context
    in_for first test next body =
        in_loop (turn_point a.of body next (number + count_in_stmts a.of.names first + count_in_condition a.of.names test) (head_of test first path) path)
        (turn_place next (head_of test first path) path) ctx

    abbrev firsts_points : CStmts → Option CExpr → Option CExpr → List Placed
    firsts_points first test next = points_among a.of (in_firsts first test next path ctx) path 0 number first

    abbrev tests_points : CStmts → Option CExpr → List Placed
    tests_points first test = test_at a.of test (number + count_in_stmts a.of.names first) path (statement_at (body_path first path)) ctx.place

    abbrev pub body_number : CStmts → Option CExpr → Option CExpr → ℕ
    body_number first test next = number + count_in_stmts a.of.names first + count_in_condition a.of.names test + count_in_option a.of.names next

    pub for_body : (first : CStmts) (test next : Option CExpr) (body : CStmt) → FormThere a at ctx path number scope (for_loop first test next body) →
        StmtThere a at (in_for first test next body) (body_path first path) (body_number first test next) scope body
    for_body first test next body f =
        record { there = all_left _ _ (all_right (tests_points first test) _ (all_right (firsts_points first test next) _ f.there)); done = f.done.3 }

    pub for_test : (first : CStmts) (test : CExpr) (next : Option CExpr) (body : CStmt) → FormThere a at ctx path number scope (for_loop first (Some test) next body) →
        at (at_part (at_test path)) ≡ Some (test_point (condition a.of test (number + count_in_stmts a.of.names first)) (statement_at (body_path first path)) ctx.place)
    for_test first test next body f = (all_left (tests_points first (Some test)) _ (all_right (firsts_points first (Some test) next) _ f.there)).0

    pub for_third : (first : CStmts) (test : Option CExpr) (next : CExpr) (body : CStmt) → FormThere a at ctx path number scope (for_loop first test (Some next) body) →
        at (at_part (at_third path))
        ≡ Some (third_point a.of (Some next) (number + count_in_stmts a.of.names first + count_in_condition a.of.names test) (head_of test first path))
    for_third first test next body f =
        (all_right (points_of a.of (in_for first test (Some next) body) (body_path first path) (body_number first test (Some next)) body) _
        (all_right (tests_points first test) _ (all_right (firsts_points first test (Some next)) _ f.there))).0
