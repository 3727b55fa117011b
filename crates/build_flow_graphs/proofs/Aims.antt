-- Each place to which control may go is a place of the body.
use Rattle.std.proofs.Common.{◌≡◌, ℕ, suc, ◌+◌, Bool, true, false, if◌then◌else◌, List, [], ◌∷◌, ◌++◌, map, flat_map, Option, Some, None, refl, subst}
use Rattle.build_flow_linear.specs.Linear as line
use Rattle.build_flow_linear.specs.Linear.{Instr, marks, does, leaves, Around, code, form_code, list_code, else_code, body_code, jumps}
use Rattle.build_flow_nodes.specs.Builder.{statement_at, first_place, else_place, head_of, turn_place, edge_place, case_in, default_or, switch_point, goto_point}
use Rattle.build_flow_nodes.specs.Flows.{branch_places}
use Rattle.build_flow_nodes.specs.Labels.{Label, own_label, labels_from, labels_in, labels_in_else, labels_among, labels_of_switch, label_where, is_labelled, has_continue, unless}
use Rattle.build_flow_nodes.specs.Parts.{BodyNames, count_in_test, count_in_option, count_in_condition, count_in_stmt, count_in_stmts, begun, at_end_of, effect_of_option, operand_of}
use Rattle.build_flow_nodes.specs.Points.{FlowPlace, at_part, on_edge, PlacedCase, goes, returns as gives_back}
use Rattle.cx_core.specs.Trees.{CExpr, CStmt, stmt, CStmtForm, label, case, default, block, expression, if_then, switch, while, do_while, for_loop, goto, continue, break, returns, begin, COtherwise, no_else, else_do, CStmts, no_stmts, more_stmts}
use Rattle.cx_mean.specs.BodyGraph.{CPath, at_test, at_third, at_end, body_path, is_default, is_named}
use Rattle.cx_mean.specs.Paths.{CTarget, named, case_of, default_case}
use Rattle.rs_text.specs.Tree.{Stmt}

-- something holds of each place of a list
abbrev pub All : (FlowPlace → Type 0) → List FlowPlace → Type 0
All M [] = Unit {0}
All M (place ∷ others) = M place × All M others

module _ (M : FlowPlace → Type 0) where
  -- of each place that is marked
  abbrev pub AllMarked : List Instr → Type 0
  AllMarked [] = Unit {0}
  AllMarked (marks place ∷ others) = M place × AllMarked others
  AllMarked (does body ∷ others) = AllMarked others
  AllMarked (leaves branch ∷ others) = AllMarked others

  -- of each place to which control may go
  abbrev pub AllAimed : List Instr → Type 0
  AllAimed [] = Unit {0}
  AllAimed (marks place ∷ others) = AllAimed others
  AllAimed (does body ∷ others) = AllAimed others
  AllAimed (leaves branch ∷ others) = All M (branch_places branch) × AllAimed others

  marked_parts : (first others : List Instr) → AllMarked (first ++ others) → AllMarked first × AllMarked others
  marked_parts [] others are = (tt, are)
  marked_parts (marks place ∷ first) others are = let more = marked_parts first others are.1 in ((are.0, more.0), more.1)
  marked_parts (does body ∷ first) others are = marked_parts first others are
  marked_parts (leaves branch ∷ first) others are = marked_parts first others are

  aimed_both : (first others : List Instr) → AllAimed first → AllAimed others → AllAimed (first ++ others)
  aimed_both [] others one other = other
  aimed_both (marks place ∷ first) others one other = aimed_both first others one other
  aimed_both (does body ∷ first) others one other = aimed_both first others one other
  aimed_both (leaves branch ∷ first) others one other = (one.0, aimed_both first others one.1 other)

  all_both : (first others : List FlowPlace) → All M first → All M others → All M (first ++ others)
  all_both [] others one other = other
  all_both (place ∷ first) others one other = (one.0, all_both first others one.1 other)

  -- ---- labels

  abbrev LabelsIn : List Label → Type 0
  LabelsIn [] = Unit {0}
  LabelsIn (one ∷ others) = M (statement_at one.path) × LabelsIn others

  labels_both : (first others : List Label) → LabelsIn first → LabelsIn others → LabelsIn (first ++ others)
  labels_both [] others one other = other
  labels_both (it ∷ first) others one other = (one.0, labels_both first others one.1 other)

  own_in : (form : CStmtForm) (path : CPath) (entered : List ℕ) → M (statement_at path) → LabelsIn (own_label form path entered)
  own_in (label name body) path entered here = (here, tt)
  own_in (case value body) path entered here = (here, tt)
  own_in (default body) path entered here = (here, tt)
  own_in (block ss) path entered here = tt
  own_in (expression value) path entered here = tt
  own_in (if_then test body otherwise) path entered here = tt
  own_in (switch value body) path entered here = tt
  own_in (while test body) path entered here = tt
  own_in (do_while body test) path entered here = tt
  own_in (for_loop first test next body) path entered here = tt
  own_in (goto name) path entered here = tt
  own_in continue path entered here = tt
  own_in break path entered here = tt
  own_in (returns value) path entered here = tt
  own_in (begin number puts) path entered here = tt

  unless_in : (own : Bool) (labels : List Label) → LabelsIn labels → LabelsIn (unless own labels)
  unless_in true labels are = tt
  unless_in false labels are = are

  entered : (is : Bool) (to : FlowPlace) (others : List Instr) → AllMarked (if is then leaves (goes to) ∷ others else others) → AllMarked others
  entered true to others are = are
  entered false to others are = are

  module _ (of : BodyNames) where
    -- the marks of the parts of a statement
    own_marked : (s : CStmt) (around : Around) (path : CPath) (number : ℕ) → AllMarked (code of around path number s) → M (statement_at path)
    own_marked (stmt place objects form) around path number are =
        (entered (is_labelled form) (statement_at path) (marks (statement_at path) ∷ does (begun of objects) ∷ form_code of (line.inside form path around) path number form) are).0

    condition_marked : (test : Option CExpr) (number : ℕ) (path : CPath) (if_true if_false : FlowPlace) (others : List Instr) → AllMarked (line.condition_code of test number path if_true if_false others) → AllMarked others
    condition_marked None number path if_true if_false others are = are
    condition_marked (Some test) number path if_true if_false others are = are.1

    else_there : (otherwise : COtherwise) (around : Around) (path : CPath) (number : ℕ) → M around.place → AllMarked (else_code of around path number otherwise) → M (else_place otherwise path around.place)
    else_there no_else around path number there are = there
    else_there (else_do body) around path number there are = own_marked body around (1 ∷ path) number (marked_parts (code of around (1 ∷ path) number body) (jumps around.place) are).0

    next_there : (ss : CStmts) (around : Around) (path : CPath) (index number : ℕ) → M around.place → AllMarked (list_code of around path index number ss) → M (first_place ss index path around.place)
    next_there no_stmts around path index number there are = there
    next_there (more_stmts first others) around path index number there are =
        own_marked first (line.before (first_place others (suc index) path around.place) around) (index ∷ path) number
        (marked_parts (code of (line.before (first_place others (suc index) path around.place) around) (index ∷ path) number first) (list_code of around path (suc index) (number + count_in_stmt of.names first) others) are).0

    -- a `for`: its first part, its condition with what stands behind, its body and its third expression
    module _ (first : CStmts) (test next : Option CExpr) (body : CStmt) (path : CPath) (around : Around) (number : ℕ) where
      abbrev for_head : FlowPlace
      for_head = head_of test first path

      abbrev for_inner : List Instr
      for_inner =
          code of (line.in_loop (turn_place next for_head path) around) (body_path first path)
          (number + count_in_stmts of.names first + count_in_condition of.names test + count_in_option of.names next) body

      abbrev for_third : List Instr
      for_third = line.third_code of body next (number + count_in_stmts of.names first + count_in_condition of.names test) for_head path

      abbrev for_rest : List Instr
      for_rest = line.condition_code of test (number + count_in_stmts of.names first) path (statement_at (body_path first path)) around.place (for_inner ++ for_third)

      for_parts : AllMarked (form_code of around path number (for_loop first test next body)) →
          AllMarked (list_code of (line.in_firsts for_head (turn_place next for_head path) around) path 0 number first) × (AllMarked for_rest × (AllMarked for_inner × AllMarked for_third))
      for_parts are =
          let parts = marked_parts (list_code of (line.in_firsts for_head (turn_place next for_head path) around) path 0 number first) (leaves (goes for_head) ∷ for_rest) are in
          (parts.0, (parts.1, marked_parts for_inner for_third (condition_marked test (number + count_in_stmts of.names first) path (statement_at (body_path first path)) around.place (for_inner ++ for_third) parts.1)))

    mutual
      labels_marked : (own : Bool) (s : CStmt) (path : CPath) (objects : List ℕ) (around : Around) (number : ℕ) → AllMarked (code of around path number s) → LabelsIn (labels_from own s path objects)
      labels_marked own (stmt place begins form) path objects around number are =
          let here = entered (is_labelled form) (statement_at path) (marks (statement_at path) ∷ does (begun of begins) ∷ form_code of (line.inside form path around) path number form) are in
          labels_both (own_label form path objects) (labels_in own form path (objects ++ begins)) (own_in form path objects here.0)
          (inner_marked own form path (objects ++ begins) (line.inside form path around) number here.1)

      inner_marked : (own : Bool) (form : CStmtForm) (path : CPath) (objects : List ℕ) (around : Around) (number : ℕ) → AllMarked (form_code of around path number form) → LabelsIn (labels_in own form path objects)
      inner_marked own (label name body) path objects around number are = labels_marked own body (0 ∷ path) objects around number are
      inner_marked own (case value body) path objects around number are = labels_marked own body (0 ∷ path) objects around number are
      inner_marked own (default body) path objects around number are = labels_marked own body (0 ∷ path) objects around number are
      inner_marked own (block ss) path objects around number are = list_marked own ss 0 path objects around number are
      inner_marked own (expression value) path objects around number are = tt
      inner_marked own (begin object puts) path objects around number are = tt
      inner_marked own (if_then test body otherwise) path objects around number are =
          let parts = marked_parts (code of around (0 ∷ path) (number + count_in_test of.names test) body)
          (leaves (goes around.place) ∷ else_code of around path (number + count_in_test of.names test + count_in_stmt of.names body) otherwise) are in
          labels_both (labels_from own body (0 ∷ path) objects) (labels_in_else own otherwise path objects)
          (labels_marked own body (0 ∷ path) objects around (number + count_in_test of.names test) parts.0)
          (else_marked own otherwise path objects around (number + count_in_test of.names test + count_in_stmt of.names body) parts.1)
      inner_marked own (switch value body) path objects around number are =
          let parts = marked_parts (line.edges_code of path (labels_of_switch body path)) (code of (line.in_switch around) (0 ∷ path) (number + count_in_test of.names value) body ++ jumps around.place) are in
          let inside = marked_parts (code of (line.in_switch around) (0 ∷ path) (number + count_in_test of.names value) body) (jumps around.place) parts.1 in
          unless_in own (labels_from own body (0 ∷ path) objects) (labels_marked own body (0 ∷ path) objects (line.in_switch around) (number + count_in_test of.names value) inside.0)
      inner_marked own (while test body) path objects around number are =
          let parts = marked_parts (code of (line.in_loop (at_part (at_test path)) around) (0 ∷ path) (number + count_in_test of.names test) body) (jumps (at_part (at_test path))) are.1 in
          labels_marked own body (0 ∷ path) objects (line.in_loop (at_part (at_test path)) around) (number + count_in_test of.names test) parts.0
      inner_marked own (do_while body test) path objects around number are =
          let parts = marked_parts (code of (line.in_loop (at_part (at_test path)) around) (0 ∷ path) number body)
          (line.turn_end (has_continue body) (at_part (at_test path)) (marks (at_part (at_test path)) ∷ line.test_code of test (number + count_in_stmt of.names body) (statement_at (0 ∷ path)) around.place [])) are in
          labels_marked own body (0 ∷ path) objects (line.in_loop (at_part (at_test path)) around) number parts.0
      inner_marked own (for_loop first test next body) path objects around number are =
          let parts = for_parts first test next body path around number are in
          labels_marked own body (body_path first path) objects (line.in_loop (turn_place next (head_of test first path) path) around)
          (number + count_in_stmts of.names first + count_in_condition of.names test + count_in_option of.names next) parts.1.1.0
      inner_marked own (goto name) path objects around number are = tt
      inner_marked own continue path objects around number are = tt
      inner_marked own break path objects around number are = tt
      inner_marked own (returns value) path objects around number are = tt

      else_marked : (own : Bool) (otherwise : COtherwise) (path : CPath) (objects : List ℕ) (around : Around) (number : ℕ) → AllMarked (else_code of around path number otherwise) → LabelsIn (labels_in_else own otherwise path objects)
      else_marked own no_else path objects around number are = tt
      else_marked own (else_do body) path objects around number are =
          labels_marked own body (1 ∷ path) objects around number (marked_parts (code of around (1 ∷ path) number body) (jumps around.place) are).0

      list_marked : (own : Bool) (ss : CStmts) (index : ℕ) (path : CPath) (objects : List ℕ) (around : Around) (number : ℕ) → AllMarked (list_code of around path index number ss) → LabelsIn (labels_among own ss index path objects)
      list_marked own no_stmts index path objects around number are = tt
      list_marked own (more_stmts first others) index path objects around number are =
          let here = line.before (first_place others (suc index) path around.place) around in
          let parts = marked_parts (code of here (index ∷ path) number first) (list_code of around path (suc index) (number + count_in_stmt of.names first) others) are in
          labels_both (labels_from own first (index ∷ path) objects) (labels_among own others (suc index) path objects)
          (labels_marked own first (index ∷ path) objects here number parts.0) (list_marked own others (suc index) path objects around (number + count_in_stmt of.names first) parts.1)

    -- ---- what is around

    record AroundIn (around : Around) : Type 0 where
      place : M around.place
      breaks : M around.breaks
      continues : M around.continues
      labels : LabelsIn around.labels

    label_found : (test : CTarget → Bool) (labels : List Label) (place : FlowPlace) → LabelsIn labels → M place → All M (branch_places (goto_point of (label_where test labels) place).last)
    label_found test [] place are there = (there, tt)
    label_found test (one ∷ others) place are there = by (test one.target) (label_found test others place are.1 there)
      where
        by : (is : Bool) → All M (branch_places (goto_point of (label_where test others) place).last) → All M (branch_places (goto_point of (if is then Some one else label_where test others) place).last)
        by true more = (are.0, tt)
        by false more = more

    -- ---- a `switch`

    edge_marked : (choice target : CPath) (body : List Stmt) (one : Label) → one.path ≡ target → AllMarked (line.edge_code choice one body) → M (statement_at target) → M (edge_place body choice target)
    edge_marked choice target [] one same are there = there
    edge_marked choice target (first ∷ others) one same are there = subst (λ (to : CPath). M (on_edge choice to)) same are.0

    edges_parts : (path : CPath) (one : Label) (others : List Label) → AllMarked (line.edges_code of path (one ∷ others)) → AllMarked (line.edge_of_label of path one.target one) × AllMarked (line.edges_code of path others)
    edges_parts path one others are = marked_parts (line.edge_of_label of path one.target one) (line.edges_code of path others) are

    case_in_marked : (path : CPath) (target : CTarget) (one : Label) → AllMarked (line.edge_of_label of path target one) → M (statement_at one.path) → All M (map (λ (it : PlacedCase). it.to) (case_in of path target one))
    case_in_marked path (named name) one are there = tt
    case_in_marked path (case_of value) one are there = (edge_marked path one.path (begun of one.objects) one refl are there, tt)
    case_in_marked path default_case one are there = tt

    cases_marked : (path : CPath) (labels : List Label) → AllMarked (line.edges_code of path labels) → LabelsIn labels →
        All M (map (λ (it : PlacedCase). it.to) (flat_map (λ (it : Label). case_in of path it.target it) labels))
    cases_marked path [] are in_them = tt
    cases_marked path (one ∷ others) are in_them =
        let parts = edges_parts path one others are in
        joined (case_in of path one.target one) (flat_map (λ (it : Label). case_in of path it.target it) others)
        (case_in_marked path one.target one parts.0 in_them.0) (cases_marked path others parts.1 in_them.1)
      where
        joined : (first second : List PlacedCase) → All M (map (λ (it : PlacedCase). it.to) first) → All M (map (λ (it : PlacedCase). it.to) second) → All M (map (λ (it : PlacedCase). it.to) (first ++ second))
        joined [] second f s = s
        joined (it ∷ first) second f s = (f.0, joined first second f.1 s)

    default_marked : (path : CPath) (labels : List Label) (place : FlowPlace) → AllMarked (line.edges_code of path labels) → LabelsIn labels → M place → M (default_or of path (label_where is_default labels) place)
    default_marked path [] place are in_them there = there
    default_marked path (one ∷ others) place are in_them there =
        let parts = edges_parts path one others are in
        by one.target parts.0 (default_marked path others place parts.1 in_them.1 there)
      where
        by : (target : CTarget) → AllMarked (line.edge_of_label of path target one) → M (default_or of path (label_where is_default others) place) →
            M (default_or of path (if is_default target then Some one else label_where is_default others) place)
        by (named name) edges more = more
        by (case_of value) edges more = more
        by default_case edges more = edge_marked path one.path (begun of one.objects) one refl edges in_them.0

    edge_aimed : (path : CPath) (one : Label) (body : List Stmt) → M (statement_at one.path) → AllAimed (line.edge_code path one body)
    edge_aimed path one [] there = tt
    edge_aimed path one (first ∷ others) there = ((there, tt), tt)

    edges_aimed : (path : CPath) (labels : List Label) → LabelsIn labels → AllAimed (line.edges_code of path labels)
    edges_aimed path [] in_them = tt
    edges_aimed path (one ∷ others) in_them = aimed_both (line.edge_of_label of path one.target one) (line.edges_code of path others) (by one.target) (edges_aimed path others in_them.1)
      where
        by : (target : CTarget) → AllAimed (line.edge_of_label of path target one)
        by (named name) = tt
        by (case_of value) = edge_aimed path one (begun of one.objects) in_them.0
        by default_case = edge_aimed path one (begun of one.objects) in_them.0

    switch_aimed : (path : CPath) (value : CExpr) (number : ℕ) (labels : List Label) (place : FlowPlace) → AllMarked (line.edges_code of path labels) → LabelsIn labels → M place →
        All M (branch_places (switch_point of path (operand_of of value number) labels place).last)
    switch_aimed path value number labels place are in_them there =
        all_both (map (λ (it : PlacedCase). it.to) (flat_map (λ (it : Label). case_in of path it.target it) labels)) (default_or of path (label_where is_default labels) place ∷ [])
        (cases_marked path labels are in_them) (default_marked path labels place are in_them there, tt)

    -- ---- turns of loops

    turn_marked : (has : Bool) (to : FlowPlace) (others : List Instr) → AllMarked (line.turn_end has to others) → AllMarked others
    turn_marked true to others are = are
    turn_marked false to others are = are

    turn_aimed : (has : Bool) (to : FlowPlace) (others : List Instr) → M to → AllAimed others → AllAimed (line.turn_end has to others)
    turn_aimed true to others there are = ((there, tt), are)
    turn_aimed false to others there are = are

    head_marked : (first : CStmts) (test : Option CExpr) (number : ℕ) (path : CPath) (if_false : FlowPlace) (others : List Instr) →
        AllMarked (line.condition_code of test number path (statement_at (body_path first path)) if_false others) → M (statement_at (body_path first path)) → M (head_of test first path)
    head_marked first None number path if_false others are there = there
    head_marked first (Some test) number path if_false others are there = are.0

    third_marked : (body : CStmt) (next : Option CExpr) (number : ℕ) (head : FlowPlace) (path : CPath) → AllMarked (line.third_code of body next number head path) → M head → M (turn_place next head path)
    third_marked body None number head path are there = there
    third_marked body (Some next) number head path are there =
        (turn_marked (has_continue body) (at_part (at_third path)) (marks (at_part (at_third path)) ∷ does (effect_of_option of (Some next) number) ∷ leaves (goes head) ∷ []) are).0

    third_aimed : (body : CStmt) (next : Option CExpr) (number : ℕ) (head : FlowPlace) (path : CPath) → M head → M (turn_place next head path) → AllAimed (line.third_code of body next number head path)
    third_aimed body None number head path there turn = ((there, tt), tt)
    third_aimed body (Some next) number head path there turn =
        turn_aimed (has_continue body) (at_part (at_third path)) (marks (at_part (at_third path)) ∷ does (effect_of_option of (Some next) number) ∷ leaves (goes head) ∷ []) turn ((there, tt), tt)

    condition_aimed : (test : Option CExpr) (number : ℕ) (path : CPath) (if_true if_false : FlowPlace) (others : List Instr) → M if_true → M if_false → AllAimed others →
        AllAimed (line.condition_code of test number path if_true if_false others)
    condition_aimed None number path if_true if_false others yes_there no_there are = are
    condition_aimed (Some test) number path if_true if_false others yes_there no_there are = ((yes_there, (no_there, tt)), are)

    -- ---- statements

    mutual
      aimed : (s : CStmt) (around : Around) (path : CPath) (number : ℕ) → AroundIn around → AllMarked (code of around path number s) → AllAimed (code of around path number s)
      aimed (stmt place objects form) around path number in_it are =
          let others = marks (statement_at path) ∷ does (begun of objects) ∷ form_code of (line.inside form path around) path number form in
          let here = entered (is_labelled form) (statement_at path) others are in
          entry (is_labelled form) others here.0
          (form_aimed form (line.inside form path around) path number
          (record {
            place = in_it.place;
            breaks = in_it.breaks;
            continues = in_it.continues;
            labels = labels_both (labels_in false form path []) around.labels (inner_marked false form path [] (line.inside form path around) number here.1) in_it.labels;
          }) here.1)
        where
          entry : (is : Bool) (others : List Instr) → M (statement_at path) → AllAimed others → AllAimed (if is then leaves (goes (statement_at path)) ∷ others else others)
          entry true others there all = ((there, tt), all)
          entry false others there all = all

      form_aimed : (form : CStmtForm) (around : Around) (path : CPath) (number : ℕ) → AroundIn around → AllMarked (form_code of around path number form) → AllAimed (form_code of around path number form)
      form_aimed (label name body) around path number in_it are = aimed body around (0 ∷ path) number in_it are
      form_aimed (case value body) around path number in_it are = aimed body around (0 ∷ path) number in_it are
      form_aimed (default body) around path number in_it are = aimed body around (0 ∷ path) number in_it are
      form_aimed (block ss) around path number in_it are = list_aimed ss around path 0 number in_it are
      form_aimed (expression value) around path number in_it are = tt
      form_aimed (begin object puts) around path number in_it are = tt
      form_aimed (if_then test body otherwise) around path number in_it are =
          let here = number + count_in_test of.names test in
          let behind = here + count_in_stmt of.names body in
          let parts = marked_parts (code of around (0 ∷ path) here body) (leaves (goes around.place) ∷ else_code of around path behind otherwise) are in (
            (own_marked body around (0 ∷ path) here parts.0, (else_there otherwise around path behind in_it.place parts.1, tt)),
            aimed_both (code of around (0 ∷ path) here body) (leaves (goes around.place) ∷ else_code of around path behind otherwise)
                (aimed body around (0 ∷ path) here in_it parts.0) ((in_it.place, tt), else_aimed otherwise around path behind in_it parts.1),
          )
      form_aimed (switch value body) around path number in_it are =
          let labels = labels_of_switch body path in
          let here = number + count_in_test of.names value in
          let inner = code of (line.in_switch around) (0 ∷ path) here body in
          let parts = marked_parts (line.edges_code of path labels) (inner ++ jumps around.place) are in
          let inside = marked_parts inner (jumps around.place) parts.1 in
          let in_them = labels_marked true body (0 ∷ path) [] (line.in_switch around) here inside.0 in (
            switch_aimed path value number labels around.place parts.0 in_them in_it.place,
            aimed_both (line.edges_code of path labels) (inner ++ jumps around.place) (edges_aimed path labels in_them)
                (aimed_both inner (jumps around.place)
                (aimed body (line.in_switch around) (0 ∷ path) here (record { place = in_it.place; breaks = in_it.place; continues = in_it.continues; labels = in_it.labels }) inside.0)
                ((in_it.place, tt), tt)),
          )
      form_aimed (while test body) around path number in_it are =
          let head = at_part (at_test path) in
          let here = number + count_in_test of.names test in
          let inner = code of (line.in_loop head around) (0 ∷ path) here body in
          let parts = marked_parts inner (jumps head) are.1 in (
            (are.0, tt),
            (
              (own_marked body (line.in_loop head around) (0 ∷ path) here parts.0, (in_it.place, tt)),
              aimed_both inner (jumps head)
                  (aimed body (line.in_loop head around) (0 ∷ path) here (record { place = are.0; breaks = in_it.place; continues = are.0; labels = in_it.labels }) parts.0)
                  ((are.0, tt), tt),
            ),
          )
      form_aimed (do_while body test) around path number in_it are =
          let turn = at_part (at_test path) in
          let inner = code of (line.in_loop turn around) (0 ∷ path) number body in
          let tested = marks turn ∷ line.test_code of test (number + count_in_stmt of.names body) (statement_at (0 ∷ path)) around.place [] in
          let parts = marked_parts inner (line.turn_end (has_continue body) turn tested) are in
          let there = (turn_marked (has_continue body) turn tested parts.1).0 in
          let own = own_marked body (line.in_loop turn around) (0 ∷ path) number parts.0 in (
            (own, tt),
            aimed_both inner (line.turn_end (has_continue body) turn tested)
                (aimed body (line.in_loop turn around) (0 ∷ path) number (record { place = there; breaks = in_it.place; continues = there; labels = in_it.labels }) parts.0)
                (turn_aimed (has_continue body) turn tested there ((own, (in_it.place, tt)), tt)),
          )
      form_aimed (for_loop first test next body) around path number in_it are =
          let here = number + count_in_stmts of.names first in
          let behind = here + count_in_condition of.names test in
          let head = head_of test first path in
          let turn = turn_place next head path in
          let inner = code of (line.in_loop turn around) (body_path first path) (behind + count_in_option of.names next) body in
          let third = line.third_code of body next behind head path in
          let firsts = line.in_firsts head turn around in
          let parts = for_parts first test next body path around number are in
          let own = own_marked body (line.in_loop turn around) (body_path first path) (behind + count_in_option of.names next) parts.1.1.0 in
          let head_there = head_marked first test here path around.place (inner ++ third) parts.1.0 own in
          let turn_there = third_marked body next behind head path parts.1.1.1 head_there in
          aimed_both (list_code of firsts path 0 number first) (leaves (goes head) ∷ line.condition_code of test here path (statement_at (body_path first path)) around.place (inner ++ third))
          (list_aimed first firsts path 0 number (record { place = head_there; breaks = in_it.place; continues = turn_there; labels = in_it.labels }) parts.0) (
            (head_there, tt),
            condition_aimed test here path (statement_at (body_path first path)) around.place (inner ++ third) own in_it.place
                (aimed_both inner third
                (aimed body (line.in_loop turn around) (body_path first path) (behind + count_in_option of.names next)
                (record { place = turn_there; breaks = in_it.place; continues = turn_there; labels = in_it.labels }) parts.1.1.0)
                (third_aimed body next behind head path head_there turn_there)),
          )
      form_aimed (goto name) around path number in_it are = (label_found (is_named name) around.labels around.place in_it.labels in_it.place, tt)
      form_aimed continue around path number in_it are = ((in_it.continues, tt), tt)
      form_aimed break around path number in_it are = ((in_it.breaks, tt), tt)
      form_aimed (returns value) around path number in_it are = (tt, tt)

      else_aimed : (otherwise : COtherwise) (around : Around) (path : CPath) (number : ℕ) → AroundIn around → AllMarked (else_code of around path number otherwise) → AllAimed (else_code of around path number otherwise)
      else_aimed no_else around path number in_it are = tt
      else_aimed (else_do body) around path number in_it are =
          let parts = marked_parts (code of around (1 ∷ path) number body) (jumps around.place) are in
          aimed_both (code of around (1 ∷ path) number body) (jumps around.place) (aimed body around (1 ∷ path) number in_it parts.0) ((in_it.place, tt), tt)

      list_aimed : (ss : CStmts) (around : Around) (path : CPath) (index number : ℕ) → AroundIn around → AllMarked (list_code of around path index number ss) → AllAimed (list_code of around path index number ss)
      list_aimed no_stmts around path index number in_it are = tt
      list_aimed (more_stmts first others) around path index number in_it are =
          let next = first_place others (suc index) path around.place in
          let rest = list_code of around path (suc index) (number + count_in_stmt of.names first) others in
          let parts = marked_parts (code of (line.before next around) (index ∷ path) number first) rest are in
          aimed_both (code of (line.before next around) (index ∷ path) number first) rest
          (aimed first (line.before next around) (index ∷ path) number
          (record { place = next_there others around path (suc index) (number + count_in_stmt of.names first) in_it.place parts.1; breaks = in_it.breaks; continues = in_it.continues; labels = in_it.labels }) parts.0)
          (list_aimed others around path (suc index) (number + count_in_stmt of.names first) in_it parts.1)

    -- ---- a whole body

    pub body_aimed : (body : CStmt) → AllMarked (body_code of body) → AllAimed (body_code of body)
    body_aimed body are =
        let parts = marked_parts (code of line.outside [] 0 body) (marks (at_part at_end) ∷ leaves (gives_back (at_end_of of)) ∷ []) are in
        aimed_both (code of line.outside [] 0 body) (marks (at_part at_end) ∷ leaves (gives_back (at_end_of of)) ∷ [])
        (aimed body line.outside [] 0 (record { place = parts.1.0; breaks = parts.1.0; continues = parts.1.0; labels = tt }) parts.0) (tt, tt)
