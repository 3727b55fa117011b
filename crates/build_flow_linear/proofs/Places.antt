-- Linear code says of each place of a body what is done there.
use Rattle.std.proofs.Common.{◌≡◌, ℕ, suc, ◌+◌, Bool, true, false, if◌then◌else◌, List, [], ◌∷◌, ◌++◌, flat_map, Option, Some, None, append_assoc, refl, sym, ap, ◌∙◌}
use Rattle.std.proofs.lemmas.List.{append-nil}
use Rattle.build_flow_nodes.specs.Builder.{Context, statement_at, first_place, else_place, head_of, turn_place, switch_point, goto_point, point, form_point, list_point, points_of, points_in, points_in_else, points_among, points_in_body, end_point, test_point, turn_point, turn_or_jump, test_at, third_at, edge_at, edges_of_switch, return_point}
use Rattle.build_flow_nodes.specs.Labels.{Label, labels_of_switch, label_where, is_labelled, has_continue}
use Rattle.build_flow_nodes.specs.Parts.{BodyNames, count_in_test, count_in_option, count_in_condition, count_in_stmt, count_in_stmts, begun, condition, operand_of, given, at_end_of}
use Rattle.build_flow_nodes.specs.Points.{FlowPlace, at_part, on_edge, goes, returns as gives_back, Point, jump, behind, Placed, placed}
use Rattle.cx_core.specs.Trees.{CExpr, CStmt, stmt, CStmtForm, label, case, default, block, expression, if_then, switch, while, do_while, for_loop, goto, continue, break, returns, begin, COtherwise, no_else, else_do, CStmts, no_stmts, more_stmts}
use Rattle.cx_mean.specs.BodyGraph.{CPath, at_test, at_third, at_end, body_path, is_named}
use Rattle.cx_mean.specs.Paths.{CTarget, named, case_of, default_case}
use Rattle.rs_text.specs.Tree.{Stmt}
use Rattle.build_flow_linear.specs.Linear as line
use Rattle.build_flow_linear.specs.Linear.{Instr, marks, does, leaves, read, places_in, Around, code, form_code, list_code, else_code, body_code}

-- what follows is inlined
abbrev with_next : Point → Around → Context
with_next next around = record { next = next; place = around.place; breaks = around.breaks; continues = around.continues; labels = around.labels }

abbrev with_body : Point → List Stmt → Point
with_body one body = record one { body = body }

module _ (of : BodyNames) (last : Point) where
  -- ---- points

  -- a point that leaves
  all_read : (one : Point) → behind one.body (record { body = []; last = one.last }) ≡ one
  all_read one = ap (with_body one) (append-nil one.body)

  entry_read : (is_it : Bool) (to : FlowPlace) (here rest : List Instr) →
      read last ((if is_it then leaves (goes to) ∷ here else here) ++ rest) ≡ (if is_it then jump to else read last (here ++ rest))
  entry_read true to here rest = refl
  entry_read false to here rest = refl

  -- a `for` behind its first part
  abbrev for_code : Around → CPath → ℕ → CStmts → Option CExpr → Option CExpr → CStmt → List Instr
  for_code around path here first test next body =
      let head = head_of test first path in
      let behind_test = here + count_in_condition of.names test in
      leaves (goes head)
      ∷ line.condition_code of test here path (statement_at (body_path first path)) around.place
      (code of (line.in_loop (turn_place next head path) around) (body_path first path) (behind_test + count_in_option of.names next) body
      ++ line.third_code of body next behind_test head path)

  mutual
    reads : (around : Around) (path : CPath) (number : ℕ) (s : CStmt) (rest : List Instr) →
        read last (code of around path number s ++ rest) ≡ point of (with_next (read last rest) around) path number s
    reads around path number (stmt place objects form) rest =
        entry_read (is_labelled form) (statement_at path) (marks (statement_at path) ∷ does (begun of objects) ∷ form_code of (line.inside form path around) path number form) rest
        ∙ ap (λ one. if is_labelled form then jump (statement_at path) else behind (begun of objects) one)
        (form_reads (line.inside form path around) path number form rest)

    form_reads : (around : Around) (path : CPath) (number : ℕ) (form : CStmtForm) (rest : List Instr) →
        read last (form_code of around path number form ++ rest) ≡ form_point of (with_next (read last rest) around) path number form
    form_reads around path number (label name body) rest = reads around (0 ∷ path) number body rest
    form_reads around path number (case value body) rest = reads around (0 ∷ path) number body rest
    form_reads around path number (default body) rest = reads around (0 ∷ path) number body rest
    form_reads around path number (block stmts) rest = list_reads around path 0 number stmts rest
    form_reads around path number (expression value) rest = refl
    form_reads around path number (begin object puts) rest = refl
    form_reads around path number (if_then test body otherwise) rest =
        all_read (test_point (condition of test number) (statement_at (0 ∷ path)) (else_place otherwise path around.place))
    form_reads around path number (switch value body) rest =
        all_read (switch_point of path (operand_of of value number) (labels_of_switch body path) around.place)
    form_reads around path number (while test body) rest = refl
    form_reads around path number (do_while body test) rest = refl
    form_reads around path number (for_loop first test next body) rest =
        let head = head_of test first path in
        let here = number + count_in_stmts of.names first in
        let behind_it = for_code around path here first test next body in
        let firsts = line.in_firsts head (turn_place next head path) around in
        ap (read last) (append_assoc (list_code of firsts path 0 number first) behind_it rest)
        ∙ list_reads firsts path 0 number first (behind_it ++ rest)
    form_reads around path number (goto name) rest = all_read (goto_point of (label_where (is_named name) around.labels) around.place)
    form_reads around path number continue rest = refl
    form_reads around path number break rest = refl
    form_reads around path number (returns value) rest = all_read (return_point (given of value number))

    list_reads : (around : Around) (path : CPath) (index number : ℕ) (stmts : CStmts) (rest : List Instr) →
        read last (list_code of around path index number stmts ++ rest) ≡ list_point of (with_next (read last rest) around) path index number stmts
    list_reads around path index number no_stmts rest = refl
    list_reads around path index number (more_stmts first others) rest =
        let here = line.before (first_place others (suc index) path around.place) around in
        let behind_it = list_code of around path (suc index) (number + count_in_stmt of.names first) others in
        ap (read last) (append_assoc (code of here (index ∷ path) number first) behind_it rest)
        ∙ reads here (index ∷ path) number first (behind_it ++ rest)
        ∙ ap (λ next. point of (with_next next here) (index ∷ path) number first)
        (list_reads around path (suc index) (number + count_in_stmt of.names first) others rest)

  -- ---- places

  entry_places : (is_it : Bool) (to : FlowPlace) (here rest : List Instr) →
      places_in last ((if is_it then leaves (goes to) ∷ here else here) ++ rest) ≡ places_in last (here ++ rest)
  entry_places true to here rest = refl
  entry_places false to here rest = refl

  -- one piece behind another
  both : (one other : List Instr) (rest : List Instr) (first second : List Placed) → places_in last (one ++ (other ++ rest)) ≡ first ++ places_in last (other ++ rest) →
      places_in last (other ++ rest) ≡ second ++ places_in last rest → places_in last ((one ++ other) ++ rest) ≡ (first ++ second) ++ places_in last rest
  both one other rest first second e f =
      ap (places_in last) (append_assoc one other rest) ∙ e ∙ ap (λ more. first ++ more) f ∙ sym (append_assoc first second (places_in last rest))

  turn_ends : (has : Bool) (to : FlowPlace) (here rest : List Instr) → places_in last (line.turn_end has to here ++ rest) ≡ places_in last (here ++ rest)
  turn_ends true to here rest = refl
  turn_ends false to here rest = refl

  turn_read : (has : Bool) (to : FlowPlace) (here rest : List Instr) → read last (line.turn_end has to here ++ rest) ≡ turn_or_jump has to (read last (here ++ rest))
  turn_read true to here rest = refl
  turn_read false to here rest = refl

  edge_places : (choice : CPath) (one : Label) (body : List Stmt) (rest : List Instr) →
      places_in last (line.edge_code choice one body ++ rest) ≡ edge_at choice one body ++ places_in last rest
  edge_places choice one [] rest = refl
  edge_places choice one (first ∷ others) rest =
      ap (λ whole. placed (on_edge choice one.path) whole ∷ places_in last rest) (all_read (record { body = first ∷ others; last = goes (statement_at one.path) }))

  label_places : (path : CPath) (target : CTarget) (one : Label) (rest : List Instr) →
      places_in last (line.edge_of_label of path target one ++ rest) ≡ edges_of_switch of path target one ++ places_in last rest
  label_places path (named name) one rest = refl
  label_places path (case_of value) one rest = edge_places path one (begun of one.objects) rest
  label_places path default_case one rest = edge_places path one (begun of one.objects) rest

  edges_places : (path : CPath) (labels : List Label) (rest : List Instr) →
      places_in last (line.edges_code of path labels ++ rest) ≡ flat_map (λ (it : Label). edges_of_switch of path it.target it) labels ++ places_in last rest
  edges_places path [] rest = refl
  edges_places path (one ∷ others) rest =
      both (line.edge_of_label of path one.target one) (line.edges_code of path others) rest (edges_of_switch of path one.target one)
      (flat_map (λ (it : Label). edges_of_switch of path it.target it) others) (label_places path one.target one _) (edges_places path others rest)

  -- a condition at its own place
  test_places : (test : CExpr) (number : ℕ) (path : CPath) (if_true if_false : FlowPlace) (others : List Instr) →
      places_in last (marks (at_part (at_test path)) ∷ line.test_code of test number if_true if_false others)
      ≡ test_at of (Some test) number path if_true if_false ++ places_in last others
  test_places test number path if_true if_false others =
      ap (λ whole. placed (at_part (at_test path)) whole ∷ places_in last others) (all_read (test_point (condition of test number) if_true if_false))

  condition_places : (test : Option CExpr) (number : ℕ) (path : CPath) (if_true if_false : FlowPlace) (others rest : List Instr) →
      places_in last (line.condition_code of test number path if_true if_false others ++ rest)
      ≡ test_at of test number path if_true if_false ++ places_in last (others ++ rest)
  condition_places None number path if_true if_false others rest = refl
  condition_places (Some test) number path if_true if_false others rest = test_places test number path if_true if_false (others ++ rest)

  third_read : (body : CStmt) (next : Option CExpr) (number : ℕ) (head : FlowPlace) (path : CPath) (rest : List Instr) →
      read last (line.third_code of body next number head path ++ rest) ≡ turn_point of body next number head path
  third_read body None number head path rest = refl
  third_read body (Some next) number head path rest = turn_read (has_continue body) (at_part (at_third path)) _ rest

  third_places : (body : CStmt) (next : Option CExpr) (number : ℕ) (head : FlowPlace) (path : CPath) (rest : List Instr) →
      places_in last (line.third_code of body next number head path ++ rest) ≡ third_at of next number head path ++ places_in last rest
  third_places body None number head path rest = refl
  third_places body (Some next) number head path rest = turn_ends (has_continue body) (at_part (at_third path)) _ rest

  mutual
    places : (around : Around) (path : CPath) (number : ℕ) (s : CStmt) (rest : List Instr) →
        places_in last (code of around path number s ++ rest) ≡ points_of of (with_next (read last rest) around) path number s ++ places_in last rest
    places around path number (stmt place objects form) rest =
        let inner = line.inside form path around in
        entry_places (is_labelled form) (statement_at path) (marks (statement_at path) ∷ does (begun of objects) ∷ form_code of inner path number form) rest
        ∙ ap (λ one. placed (statement_at path) (behind (begun of objects) one) ∷ places_in last (form_code of inner path number form ++ rest))
        (form_reads inner path number form rest)
        ∙ ap (λ more. placed (statement_at path) (behind (begun of objects) (form_point of (with_next (read last rest) inner) path number form)) ∷ more)
        (form_places inner path number form rest)

    form_places : (around : Around) (path : CPath) (number : ℕ) (form : CStmtForm) (rest : List Instr) →
        places_in last (form_code of around path number form ++ rest) ≡ points_in of (with_next (read last rest) around) path number form ++ places_in last rest
    form_places around path number (label name body) rest = places around (0 ∷ path) number body rest
    form_places around path number (case value body) rest = places around (0 ∷ path) number body rest
    form_places around path number (default body) rest = places around (0 ∷ path) number body rest
    form_places around path number (block stmts) rest = list_places around path 0 number stmts rest
    form_places around path number (expression value) rest = refl
    form_places around path number (begin object puts) rest = refl
    form_places around path number (if_then test body otherwise) rest =
        let first = number + count_in_test of.names test in
        both (code of around (0 ∷ path) first body) (leaves (goes around.place) ∷ else_code of around path (first + count_in_stmt of.names body) otherwise) rest
        (points_of of (with_next (jump around.place) around) (0 ∷ path) first body)
        (points_in_else of (with_next (jump around.place) around) path (first + count_in_stmt of.names body) otherwise)
        (places around (0 ∷ path) first body _) (else_places around path (first + count_in_stmt of.names body) otherwise rest)
    form_places around path number (switch value body) rest =
        let labels = labels_of_switch body path in
        let first = number + count_in_test of.names value in
        let inner = line.in_switch around in
        both (line.edges_code of path labels) (code of inner (0 ∷ path) first body ++ line.jumps around.place) rest
        (flat_map (λ (it : Label). edges_of_switch of path it.target it) labels) (points_of of (with_next (jump around.place) inner) (0 ∷ path) first body)
        (edges_places path labels _)
        (ap (places_in last) (append_assoc (code of inner (0 ∷ path) first body) (line.jumps around.place) rest)
        ∙ places inner (0 ∷ path) first body (line.jumps around.place ++ rest))
    form_places around path number (while test body) rest =
        let first = number + count_in_test of.names test in
        let turn = at_part (at_test path) in
        let inner = line.in_loop turn around in
        test_places test number path (statement_at (0 ∷ path)) around.place ((code of inner (0 ∷ path) first body ++ line.jumps turn) ++ rest)
        ∙ ap (λ more. test_at of (Some test) number path (statement_at (0 ∷ path)) around.place ++ more)
        (ap (places_in last) (append_assoc (code of inner (0 ∷ path) first body) (line.jumps turn) rest)
        ∙ places inner (0 ∷ path) first body (line.jumps turn ++ rest))
    form_places around path number (do_while body test) rest =
        let behind_it = number + count_in_stmt of.names body in
        let turn = at_part (at_test path) in
        let inner = line.in_loop turn around in
        let tail = marks turn ∷ line.test_code of test behind_it (statement_at (0 ∷ path)) around.place [] in
        ap (places_in last) (append_assoc (code of inner (0 ∷ path) number body) (line.turn_end (has_continue body) turn tail) rest)
        ∙ places inner (0 ∷ path) number body (line.turn_end (has_continue body) turn tail ++ rest)
        ∙ ap (λ next. points_of of (with_next next inner) (0 ∷ path) number body ++ places_in last (line.turn_end (has_continue body) turn tail ++ rest))
        (turn_read (has_continue body) turn tail rest
        ∙ ap (turn_or_jump (has_continue body) turn) (all_read (test_point (condition of test behind_it) (statement_at (0 ∷ path)) around.place)))
        ∙ ap (λ more. points_of of (with_next (turn_or_jump (has_continue body) turn (test_point (condition of test behind_it) (statement_at (0 ∷ path)) around.place)) inner)
        (0 ∷ path) number body ++ more)
        (turn_ends (has_continue body) turn tail rest ∙ test_places test behind_it path (statement_at (0 ∷ path)) around.place rest)
        ∙ sym (append_assoc (points_of of (with_next (turn_or_jump (has_continue body) turn (test_point (condition of test behind_it) (statement_at (0 ∷ path)) around.place)) inner) (0 ∷ path) number body)
        (test_at of (Some test) behind_it path (statement_at (0 ∷ path)) around.place) (places_in last rest))
    form_places around path number (for_loop first test next body) rest =
        let head = head_of test first path in
        let here = number + count_in_stmts of.names first in
        let behind_test = here + count_in_condition of.names test in
        let inside_it = behind_test + count_in_option of.names next in
        let inner = line.in_loop (turn_place next head path) around in
        let firsts = line.in_firsts head (turn_place next head path) around in
        let tail = line.third_code of body next behind_test head path in
        let all = code of inner (body_path first path) inside_it body ++ tail in
        let turn = turn_point of body next behind_test head path in
        let body_points = points_of of (with_next turn inner) (body_path first path) inside_it body in
        both (list_code of firsts path 0 number first)
        (leaves (goes head) ∷ line.condition_code of test here path (statement_at (body_path first path)) around.place all) rest
        (points_among of (with_next (jump head) firsts) path 0 number first)
        (test_at of test here path (statement_at (body_path first path)) around.place ++ (body_points ++ third_at of next behind_test head path))
        (list_places firsts path 0 number first _)
        (condition_places test here path (statement_at (body_path first path)) around.place all rest
        ∙ ap (λ more. test_at of test here path (statement_at (body_path first path)) around.place ++ more)
        (both (code of inner (body_path first path) inside_it body) tail rest body_points (third_at of next behind_test head path)
        (places inner (body_path first path) inside_it body (tail ++ rest)
        ∙ ap (λ one. points_of of (with_next one inner) (body_path first path) inside_it body ++ places_in last (tail ++ rest)) (third_read body next behind_test head path rest))
        (third_places body next behind_test head path rest))
        ∙ sym (append_assoc (test_at of test here path (statement_at (body_path first path)) around.place) (body_points ++ third_at of next behind_test head path)
        (places_in last rest)))
    form_places around path number (goto name) rest = refl
    form_places around path number continue rest = refl
    form_places around path number break rest = refl
    form_places around path number (returns value) rest = refl

    else_places : (around : Around) (path : CPath) (number : ℕ) (otherwise : COtherwise) (rest : List Instr) →
        places_in last (else_code of around path number otherwise ++ rest)
        ≡ points_in_else of (with_next (jump around.place) around) path number otherwise ++ places_in last rest
    else_places around path number no_else rest = refl
    else_places around path number (else_do body) rest =
        ap (places_in last) (append_assoc (code of around (1 ∷ path) number body) (line.jumps around.place) rest)
        ∙ places around (1 ∷ path) number body (line.jumps around.place ++ rest)

    list_places : (around : Around) (path : CPath) (index number : ℕ) (stmts : CStmts) (rest : List Instr) →
        places_in last (list_code of around path index number stmts ++ rest)
        ≡ points_among of (with_next (read last rest) around) path index number stmts ++ places_in last rest
    list_places around path index number no_stmts rest = refl
    list_places around path index number (more_stmts first others) rest =
        let here = line.before (first_place others (suc index) path around.place) around in
        let next = number + count_in_stmt of.names first in
        let behind_it = list_code of around path (suc index) next others in
        both (code of here (index ∷ path) number first) behind_it rest
        (points_of of (with_next (list_point of (with_next (read last rest) around) path (suc index) next others) here) (index ∷ path) number first)
        (points_among of (with_next (read last rest) around) path (suc index) next others)
        (places here (index ∷ path) number first (behind_it ++ rest)
        ∙ ap (λ one. points_of of (with_next one here) (index ∷ path) number first ++ places_in last (behind_it ++ rest))
        (list_reads around path (suc index) next others rest))
        (list_places around path (suc index) next others rest)

-- the whole body
pub body_places : (of : BodyNames) (last : Point) (body : CStmt) → places_in last (body_code of body) ≡ points_in_body of body
body_places of last body = places of last line.outside [] 0 body (marks (at_part at_end) ∷ leaves (gives_back (at_end_of of)) ∷ [])
