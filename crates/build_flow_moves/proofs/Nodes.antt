-- What is at a place of a body is owed wherever a run of C stands there.
use Rattle.std.proofs.Common.{◌≡◌, ◌∙◌, ◌⊎◌, inl, inr, ℕ, suc, pred, ◌+◌, ◌≤◌, Bool, true, false, List, [], ◌∷◌, ◌++◌, Option, Some, None, if◌then◌else◌, refl, sym, ap, subst}
use Rattle.std.proofs.lemmas.List.{append-nil}
use Rattle.build_flow_nodes.specs.Builder.{Context, inside, apart, in_firsts, statement_at, head_of, turn_place, test_point, third_point, turn_or_jump, turn_point, end_point, own_point}
use Rattle.build_flow_nodes.specs.Labels.{has_continue}
use Rattle.build_flow_nodes.specs.Parts.{count_in_test, count_in_stmt, count_in_stmts, count_in_condition, begun, condition}
use Rattle.build_flow_nodes.specs.Points.{FlowPlace, at_part, on_edge, goes, Point, jump, behind}
use Rattle.cr_base.specs.declared.refusal.Place.{Place}
use Rattle.cr_runs_rules.proofs.Rules.{goes_at_a_step}
use Rattle.cr_runs_rules.specs.Steps.{Waits}
use Rattle.cr_runs.specs.Owes.{GoesOn}
use Rattle.cr_world.specs.World.{World, blocks_of, events_of}
use Rattle.cx_core.specs.Trees.{CExpr, place_of, CStmt, stmt, CStmtForm, label, case, default, block, if_then, switch, while, do_while, for_loop, CStmts, no_stmts, more_stmts}
use Rattle.cx_mean.specs.BodyGraph.{CPath, at_test, at_third, at_end, body_path}
use Rattle.cx_mean.specs.Leftmost.{c_stand}
use Rattle.cx_mean.specs.Moves.{chooses_by, turns_on, CMove, values, reaches, leaves, goes_nowhere, slots_in, following, turning, choosing}
use Rattle.cx_mean.specs.Operands.{stuck, stops, Frame as CFrame}
use Rattle.cx_mean.specs.Paths.{CRest, nothing_left, statements_left, firsts_left, turn_left, CLevel, site_at}
use Rattle.rs_text.specs.Tree.{Stmt}
use Rattle.build_flow_moves.specs.Coded.{StmtThere, FormThere, RestCoded, HasTest, HasThird, AtPlace, reaches_it, tests_it, turns_it, ends_it, on_the_way, stuck_there}
use Rattle.build_flow_moves.specs.Parts.{Stage, objects_in}
use Rattle.build_flow_moves.proofs.Course.{Course, OwedTo, IsAimed, point_run, jump_runs, owed_by, owed_as, nothing_owed}
use Rattle.build_flow_moves.proofs.Doing.{leave_owed}
use Rattle.build_flow_moves.proofs.Going.{Coded, level_of, left_behind, dies, while_turns, do_turns, for_turns, for_turn_ends, place_owed}
use Rattle.build_flow_moves.proofs.Jumping.{way_point, edge_owed}
use Rattle.build_flow_moves.proofs.Steps.{Within, within, NextOwed, dropped_owed, test_owed}
use Rattle.build_flow_moves.proofs.Stmts.{by_test, ended, next_named, open_owed, form_owed, list_owed, firsts_owed}
use Rattle.build_flow_moves.proofs.There.{own_there, while_test, while_body, do_test, do_body, in_do, for_test, for_third, for_body, in_for, body_number}

module _ (a : Stage) (c : Course a) where
  -- ---- conditions of loops, and third expressions

  module _ (slots : CFrame) (rest : CRest) (outer : List CLevel) (around : Context) (path : CPath) (number : ℕ) (site : Coded a c outer around) (m : ℕ) (near : Within a c m)
      (c_world world : World) (here : a.Here (slots ++ slots_in outer) c_world world) where
    abbrev Open : CStmtForm → Type 0
    Open form = FormThere a c.at (inside form path around) path number (objects_in (slots ++ slots_in outer)) form

    abbrev scope : List ℕ
    scope = objects_in (slots ++ slots_in outer)

    -- the condition of a loop
    abbrev ChoiceOwed : CStmtForm → CExpr → Point → Type 0
    ChoiceOwed form e point = IsAimed a c point → OwedTo a c m (a.goes (values e (chooses_by (place_of e) (site_at (level_of slots form rest ∷ outer) a.bottom))) c_world) (point_run a c point) world

    abbrev Chooses : CStmtForm → CPath → Type 0
    Chooses form body =
        (holds : Bool) (less : ℕ) → less ≤ c.most → (c_end end : World) → a.Here (slots ++ slots_in outer) c_end end →
        c.Allowed (if holds then statement_at body else around.place) → OwedTo a c less (c_stand a.goes (choosing form holds (level_of slots form rest) outer a.bottom (blocks_of c_end)) c_end) (c.next (if holds then statement_at body else around.place)) end

    while_chooses : (test : CExpr) (body : CStmt) → Open (while test body) → Chooses (while test body) (0 ∷ path)
    while_chooses test body there true less few c_end end here_now =
        c.go less (statement_at (0 ∷ path)) _ _ c_end end few
        (reaches_it (0 ∷ path) _ (number + count_in_test a.of.names test) (level_of slots (while test body) turn_left ∷ outer) body (around, path, number, site, there, refl)
        (while_body a c.at (inside (while test body) path around) path number scope test body there)) here_now
    while_chooses test body there false less few c_end end here_now = place_owed a c less few outer around (left_behind a c slots c_end) end site (dies a c slots outer c_end end here_now)

    do_chooses : (body : CStmt) (test : CExpr) → Open (do_while body test) → Chooses (do_while body test) (0 ∷ path)
    do_chooses body test there true less few c_end end here_now =
        c.go less (statement_at (0 ∷ path)) _ _ c_end end few
        (reaches_it (0 ∷ path) _ number (level_of slots (do_while body test) turn_left ∷ outer) body (around, path, number, site, there, refl)
        (do_body a c.at (inside (do_while body test) path around) path number scope body test there)) here_now
    do_chooses body test there false less few c_end end here_now = place_owed a c less few outer around (left_behind a c slots c_end) end site (dies a c slots outer c_end end here_now)

    for_chooses : (first : CStmts) (test next : Option CExpr) (body : CStmt) → Open (for_loop first test next body) → Chooses (for_loop first test next body) (body_path first path)
    for_chooses first test next body there true less few c_end end here_now =
        c.go less (statement_at (body_path first path)) _ _ c_end end few
        (reaches_it (body_path first path) _ (body_number a c.at (inside (for_loop first test next body) path around) path number scope first test next)
        (level_of slots (for_loop first test next body) turn_left ∷ outer) body (around, path, number, site, there, refl)
        (for_body a c.at (inside (for_loop first test next body) path around) path number scope first test next body there)) here_now
    for_chooses first test next body there false less few c_end end here_now = place_owed a c less few outer around (left_behind a c slots c_end) end site (dies a c slots outer c_end end here_now)

    pub do_test_owed : (body : CStmt) (test : CExpr) → Open (do_while body test) →
        ChoiceOwed (do_while body test) test (test_point (condition a.of test (number + count_in_stmt a.of.names body)) (statement_at (0 ∷ path)) around.place)
    do_test_owed body test there ok =
        test_owed a c test (number + count_in_stmt a.of.names body) (level_of slots (do_while body test) rest) outer refl there.done.1 (statement_at (0 ∷ path)) around.place m near c_world world here
        (λ holds less fewer c_end end here_now. do_chooses body test there holds less fewer c_end end here_now (by_test a c holds (statement_at (0 ∷ path)) around.place ok))

    same_point : (place : FlowPlace) (one other : Point) → c.at place ≡ Some one → c.at place ≡ Some other → one ≡ other
    same_point place one other is is_too = cc

    test_node : (form : CStmtForm) (e : CExpr) → Open form → HasTest a c.at form e → (point : Point) → c.at (at_part (at_test path)) ≡ Some point → ChoiceOwed form e point
    test_node (while test body) e there is point found =
        subst (λ (x : CExpr). ChoiceOwed (while test body) x point) is
        (subst (λ (p : Point). ChoiceOwed (while test body) test p)
        (same_point (at_part (at_test path)) _ point (while_test a c.at (inside (while test body) path around) path number scope test body there) found)
        (λ ok_while. test_owed a c test number (level_of slots (while test body) rest) outer refl there.done.0 (statement_at (0 ∷ path)) around.place m near c_world world here
        (λ holds less fewer c_end end here_now. while_chooses test body there holds less fewer c_end end here_now (by_test a c holds (statement_at (0 ∷ path)) around.place ok_while))))
    test_node (do_while body test) e there is point found =
        subst (λ (x : CExpr). ChoiceOwed (do_while body test) x point) is
        (subst (λ (p : Point). ChoiceOwed (do_while body test) test p)
        (same_point (at_part (at_test path)) _ point (do_test a c.at (inside (do_while body test) path around) path number scope body test there) found) (do_test_owed body test there))
    test_node (for_loop first (Some test) next body) e there is point found =
        subst (λ (x : CExpr). ChoiceOwed (for_loop first (Some test) next body) x point) (cc)
        (subst (λ (p : Point). ChoiceOwed (for_loop first (Some test) next body) test p)
        (same_point (at_part (at_test path)) _ point (for_test a c.at (inside (for_loop first (Some test) next body) path around) path number scope first test next body there) found)
        (λ ok_for. test_owed a c test (number + count_in_stmts a.of.names first) (level_of slots (for_loop first (Some test) next body) rest) outer refl there.done.1 (statement_at (body_path first path)) around.place
        m near c_world world here
        (λ holds less fewer c_end end here_now. for_chooses first (Some test) next body there holds less fewer c_end end here_now (by_test a c holds (statement_at (body_path first path)) around.place ok_for))))
    test_node (for_loop first None next body) e there is point found = absurd cc
    test_node form e there is point found = elim is [ ]

    -- the third expression of a `for`
    abbrev TurnOwed : CStmtForm → CExpr → Point → Type 0
    TurnOwed form e point = IsAimed a c point → OwedTo a c m (a.goes (values e (turns_on (site_at (level_of slots form rest ∷ outer) a.bottom))) c_world) (point_run a c point) world

    pub third_owed : (first : CStmts) (test : Option CExpr) (next : CExpr) (body : CStmt) → Open (for_loop first test (Some next) body) →
        TurnOwed (for_loop first test (Some next) body) next
        (third_point a.of (Some next) (number + count_in_stmts a.of.names first + count_in_condition a.of.names test) (head_of test first path))
    third_owed first test next body there ok =
        dropped_owed a c next (number + count_in_stmts a.of.names first + count_in_condition a.of.names test) (slots ++ slots_in outer) there.done.2 m near c_world world here
        (turns_on (site_at (level_of slots (for_loop first test (Some next) body) rest ∷ outer) a.bottom))
        (λ blocks. turning (level_of slots (for_loop first test (Some next) body) rest) outer a.bottom blocks) (jump (head_of test first path))
        (λ k. a.unfolds (values next (turns_on (site_at (level_of slots (for_loop first test (Some next) body) rest ∷ outer) a.bottom))) c_world k)
        (λ less few c_end end here_now.
        owed_by a c less _ (point_run a c (jump (head_of test first path))) (c.next (head_of test first path)) end end (jump_runs a c (head_of test first path) end)
        (for_turns a c less few slots rest outer around path number c_end end site here_now first test (Some next) body there ok.0))

    third_node : (form : CStmtForm) (e : CExpr) → Open form → HasThird a c.at form e → (point : Point) → c.at (at_part (at_third path)) ≡ Some point → TurnOwed form e point
    third_node (for_loop first test (Some next) body) e there is point found =
        subst (λ (x : CExpr). TurnOwed (for_loop first test (Some next) body) x point) (cc)
        (subst (λ (p : Point). TurnOwed (for_loop first test (Some next) body) next p)
        (same_point (at_part (at_third path)) _ point (for_third a c.at (inside (for_loop first test (Some next) body) path around) path number scope first test next body there) found)
        (third_owed first test next body there))
    third_node (for_loop first test None body) e there is point found = absurd cc
    third_node form e there is point found = elim is [ ]

  -- ---- what follows

  next_as : (levels : List CLevel) (one other : Point) → one ≡ other → NextOwed a c levels other → NextOwed a c levels one
  next_as levels one other is owed = subst (λ (p : Point). NextOwed a c levels p) (sym is) owed

  turn_by : (continues : Bool) (levels : List CLevel) (place : FlowPlace) (turn : Point) → NextOwed a c levels (jump place) → NextOwed a c levels turn → NextOwed a c levels (turn_or_jump continues place turn)
  turn_by true levels place turn named owed = named
  turn_by false levels place turn named owed = owed

  next_by : (slots : CFrame) (form : CStmtForm) (rest : CRest) (outer : List CLevel) (around : Context) (path : CPath) (number : ℕ) (ctx : Context) → Coded a c outer around → NextOwed a c outer around.next →
      FormThere a c.at (inside form path around) path number (objects_in (slots ++ slots_in outer)) form →
      RestCoded a c.at (inside form path around) path number (objects_in (slots ++ slots_in outer)) form rest ctx → NextOwed a c (level_of slots form rest ∷ outer) ctx.next
  next_by slots (label name body) nothing_left outer around path number ctx site behind_it there rest = next_as (level_of slots (label name body) nothing_left ∷ outer) ctx.next around.next (ap (λ (x : Context). x.next) rest) (ended a c slots (label name body) outer around.next behind_it)
  next_by slots (case value body) nothing_left outer around path number ctx site behind_it there rest = next_as (level_of slots (case value body) nothing_left ∷ outer) ctx.next around.next (ap (λ (x : Context). x.next) rest) (ended a c slots (case value body) outer around.next behind_it)
  next_by slots (default body) nothing_left outer around path number ctx site behind_it there rest = next_as (level_of slots (default body) nothing_left ∷ outer) ctx.next around.next (ap (λ (x : Context). x.next) rest) (ended a c slots (default body) outer around.next behind_it)
  next_by slots (if_then test body otherwise) nothing_left outer around path number ctx site behind_it there rest =
      next_as (level_of slots (if_then test body otherwise) nothing_left ∷ outer) ctx.next (jump around.place) (ap (λ (x : Context). x.next) rest) (ended a c slots (if_then test body otherwise) outer (jump around.place) (next_named a c outer around site))
  next_by slots (switch value body) nothing_left outer around path number ctx site behind_it there rest =
      next_as (level_of slots (switch value body) nothing_left ∷ outer) ctx.next (jump around.place) (ap (λ (x : Context). x.next) rest) (ended a c slots (switch value body) outer (jump around.place) (next_named a c outer around site))
  next_by slots form nothing_left outer around path number ctx site behind_it there rest = elim rest [ ]
  next_by slots (block all) (statements_left others) outer around path number ctx site behind_it there rest =
      next_as (level_of slots (block all) (statements_left others) ∷ outer) ctx.next _ (ap (λ (x : Context). x.next) rest.is) (list_owed a c others all slots around path number rest.index rest.number outer site there rest.there behind_it)
  next_by slots form (statements_left others) outer around path number ctx site behind_it there rest = elim rest [ ]
  next_by slots (for_loop first test next body) (firsts_left others) outer around path number ctx site behind_it there rest =
      next_as (level_of slots (for_loop first test next body) (firsts_left others) ∷ outer) ctx.next _ (ap (λ (x : Context). x.next) rest.is) (firsts_owed a c others first test next body slots around path number rest.index rest.number outer site there rest.there)
  next_by slots form (firsts_left others) outer around path number ctx site behind_it there rest = elim rest [ ]
  next_by slots (while test body) turn_left outer around path number ctx site behind_it there rest =
      next_as (level_of slots (while test body) turn_left ∷ outer) ctx.next (jump (at_part (at_test path))) (ap (λ (x : Context). x.next) rest)
      (λ less few c_world world here ok.
      owed_by a c less _ (point_run a c (jump (at_part (at_test path)))) (c.next (at_part (at_test path))) world world (jump_runs a c (at_part (at_test path)) world)
      (while_turns a c less few slots turn_left outer around path number c_world world site here test body there ok.0))
  next_by slots (do_while body test) turn_left outer around path number ctx site behind_it there rest =
      next_as (level_of slots (do_while body test) turn_left ∷ outer) ctx.next _ (ap (λ (x : Context). x.next) rest)
      (turn_by (has_continue body) (level_of slots (do_while body test) turn_left ∷ outer) (at_part (at_test path))
      (test_point (condition a.of test (number + count_in_stmt a.of.names body)) (statement_at (0 ∷ path)) around.place)
      (λ less few c_world world here ok.
      owed_by a c less _ (point_run a c (jump (at_part (at_test path)))) (c.next (at_part (at_test path))) world world (jump_runs a c (at_part (at_test path)) world)
      (do_turns a c less few slots turn_left outer around path number c_world world site here body test there ok.0))
      (λ less few c_world world here. do_test_owed slots turn_left outer around path number site less (within a c less few) c_world world here body test there))
  next_by slots (for_loop first test None body) turn_left outer around path number ctx site behind_it there rest =
      next_as (level_of slots (for_loop first test None body) turn_left ∷ outer) ctx.next (jump (head_of test first path)) (ap (λ (x : Context). x.next) rest)
      (λ less few c_world world here ok.
      owed_by a c less _ (point_run a c (jump (head_of test first path))) (c.next (head_of test first path)) world world (jump_runs a c (head_of test first path) world)
      (for_turn_ends a c less few slots turn_left outer around path number c_world world site here first test None body there ok.0))
  next_by slots (for_loop first test (Some next) body) turn_left outer around path number ctx site behind_it there rest =
      next_as (level_of slots (for_loop first test (Some next) body) turn_left ∷ outer) ctx.next _ (ap (λ (x : Context). x.next) rest)
      (turn_by (has_continue body) (level_of slots (for_loop first test (Some next) body) turn_left ∷ outer) (at_part (at_third path))
      (third_point a.of (Some next) (number + count_in_stmts a.of.names first + count_in_condition a.of.names test) (head_of test first path))
      (λ less few c_world world here ok.
      owed_by a c less _ (point_run a c (jump (at_part (at_third path)))) (c.next (at_part (at_third path))) world world (jump_runs a c (at_part (at_third path)) world)
      (for_turn_ends a c less few slots turn_left outer around path number c_world world site here first test (Some next) body there ok.0))
      (λ less few c_world world here. third_owed slots turn_left outer around path number site less (within a c less few) c_world world here first test next body there))
  next_by slots form turn_left outer around path number ctx site behind_it there rest = elim rest [ ]

  pub next_owed : (levels : List CLevel) (ctx : Context) → Coded a c levels ctx → NextOwed a c levels ctx.next
  next_owed [] ctx coded =
      next_as [] ctx.next (end_point a.of) (ap (λ (x : Context). x.next) coded)
      (λ less few c_world world here ok. leave_owed a c a.bottom.at_end _ [] less (within a c less few) c_world world here (c.always.ends c_world world here))
  next_owed (level ∷ outer) ctx coded = next_by level.slots level.form level.rest outer coded.0 coded.1 coded.2 ctx coded.3 (next_owed outer coded.0 coded.3) coded.4 coded.5

  -- ---- places

  own_is : (path : CPath) (one point : Point) → c.at (statement_at path) ≡ Some one → c.at (statement_at path) ≡ Some point → one ≡ point
  own_is path one point is found = cc

  stmt_node : (s : CStmt) (path : CPath) (ctx : Context) (number : ℕ) (levels : List CLevel) → Coded a c levels ctx → StmtThere a c.at ctx path number (objects_in (slots_in levels)) s →
      (point : Point) → c.at (statement_at path) ≡ Some point → (m : ℕ) → Within a c m → (c_world world : World) → a.Here (slots_in levels) c_world world →
      IsAimed a c point → OwedTo a c m (a.goes (reaches s (site_at levels a.bottom)) c_world) (point_run a c point) world
  stmt_node (stmt place objects form) path ctx number levels coded there point found m near c_world world here =
      subst (λ (p : Point). IsAimed a c p → OwedTo a c m (a.goes (reaches (stmt place objects form) (site_at levels a.bottom)) c_world) (point_run a c p) world)
      (own_is path (own_point a.of ctx path number (stmt place objects form)) point (own_there a c.at ctx path number (objects_in (slots_in levels)) place objects form there) found)
      (open_owed a c place objects form (form_owed a c form) ctx path number levels coded there (next_owed levels ctx coded) m near c_world world here)

  end_is : (point : Point) → c.at (at_part at_end) ≡ Some point → end_point a.of ≡ point
  end_is point found = let own = c.end_there in cc

  abbrev with_body : List Stmt → CPath → Point
  with_body ss target = record { body = ss; last = goes (statement_at target) }

  abbrev edge_to : Stmt → List Stmt → CPath → Point
  edge_to first rest target = with_body (first ∷ rest) target

  edge_is : (place : FlowPlace) (target : CPath) (objects : List ℕ) (first : Stmt) (rest : List Stmt) → begun a.of objects ≡ first ∷ rest → (point : Point) →
      c.at place ≡ Some (record { body = first ∷ rest; last = goes (statement_at target) }) → c.at place ≡ Some point → way_point a c objects target ≡ point
  edge_is place target objects first rest some point there found =
      let same : edge_to first rest target ≡ point = cc in
      ap (λ (ss : List Stmt). behind ss (jump (statement_at target))) some
      ∙ ap (λ (ss : List Stmt). with_body ss target) (append-nil (first ∷ rest)) ∙ same

  pub node_owed : (place : FlowPlace) (move : CMove) (slots : CFrame) → AtPlace a c.at place move slots → (point : Point) → c.at place ≡ Some point → (m : ℕ) → Within a c m → (c_world world : World) →
      a.Here slots c_world world → IsAimed a c point → OwedTo a c m (a.goes move c_world) (point_run a c point) world
  node_owed place move slots (reaches_it path ctx number levels s coded there) point found m near c_world world here ok = stmt_node s path ctx number levels coded there point found m near c_world world here ok
  node_owed place move slots (tests_it path around number level outer e opened has) point found m near c_world world here ok =
      test_node level.slots level.rest outer around path number opened.site m near c_world world here level.form e opened.there has point found ok
  node_owed place move slots (turns_it path around number level outer e opened has) point found m near c_world world here ok =
      third_node level.slots level.rest outer around path number opened.site m near c_world world here level.form e opened.there has point found ok
  node_owed place move slots ends_it point found m near c_world world here ok =
      subst (λ (p : Point). OwedTo a c m (a.goes (leaves a.bottom.at_end (site_at [] a.bottom)) c_world) (point_run a c p) world) (end_is point found)
      (leave_owed a c a.bottom.at_end _ [] m near c_world world here (c.always.ends c_world world here))
  node_owed place move slots (on_the_way choice target ctx levels way objects first rest coded ways some there) point found m near c_world world here ok =
      let same = edge_is (on_edge choice target) target objects first rest some point there found in
      let aim : c.Allowed (statement_at target) = (subst (λ (p : Point). IsAimed a c p) (sym same) ok).0 in
      subst (λ (p : Point). OwedTo a c m (a.goes (following way (site_at levels a.bottom)) c_world) (point_run a c p) world)
      same
      (edge_owed a c way m near levels ctx objects target first rest coded ways some c_world world here aim)
  node_owed place move slots (stuck_there spot where_it_is frame) point found m near c_world world here ok =
      nothing_owed a c m (stops stuck where_it_is) c_world (a.goes (goes_nowhere where_it_is) c_world) (point_run a c point) world (λ k. a.unfolds (goes_nowhere where_it_is) c_world k)
