-- Each place of a body has one point.
use Rattle.std.proofs.Common.{◌≡◌, ◌∙◌, ◌⊎◌, inl, inr, ℕ, suc, ◌+◌, ◌<◌, ◌≤◌, Bool, true, false, List, [], ◌∷◌, ◌++◌, flat_map, Option, Some, None, refl, sym, ap, subst, arith, append_assoc}
use Rattle.build_flow_nodes.specs.Builder.{Context, inside, apart, before, in_firsts, in_switch, in_loop, statement_at, first_place, head_of, turn_place, test_point, turn_or_jump, turn_point, list_point, own_point, end_point, edge_at, edges_of_switch, test_at, third_at, points_of, points_in, points_in_else, points_among, top, points_in_body}
use Rattle.build_flow_nodes.specs.Labels.{Label, own_label, labels_from, labels_in, labels_in_else, labels_among, labels_of_switch, unless, has_continue}
use Rattle.build_flow_nodes.specs.Parts.{BodyNames, begun, condition, count_in_test, count_in_option, count_in_condition, count_in_stmt, count_in_stmts}
use Rattle.build_flow_nodes.specs.Points.{FlowPlace, at_part, on_edge, Point, jump, Placed, placed}
use Rattle.cr_base.specs.declared.refusal.Place.{Place}
use Rattle.cx_core.specs.Trees.{CExpr, CStmt, stmt, CStmtForm, label, case, default, block, expression, if_then, switch, while, do_while, for_loop, goto, continue, break, returns, begin, COtherwise, no_else, else_do, CStmts, no_stmts, more_stmts}
use Rattle.cx_mean.specs.BodyGraph.{CPath, at_statement, at_test, at_third, at_end, count_of, body_path}
use Rattle.cx_mean.specs.Paths.{CTarget, named, case_of, default_case}
use Rattle.rs_text.specs.Tree.{Stmt}
use Rattle.build_flow_numbers.proofs.Distinct.{AllPlaces, AreDistinct, places_both, places_as, distinct_both}
use Rattle.build_flow_numbers.proofs.Places.{path_of, Through, not_itself, one_part}

-- ---- where places stand

-- at a path or through it, and not at the end of the body
pub record In (path : CPath) (place : FlowPlace) : Type 0 where
  pub through : Through path (path_of place)
  pub not_end : place ≡ at_part at_end → ⊥

-- in a part of a statement with a number from one on and below another
pub record InParts (from to : ℕ) (path : CPath) (place : FlowPlace) : Type 0 where
  pub number : ℕ
  pub least : from ≤ number
  pub below : number < to
  pub within : In (number ∷ path) place

-- a part of an open statement that is no statement
pub data IsOwn (path : CPath) : FlowPlace → Type 0 where
  own_test : IsOwn path (at_part (at_test path))
  own_third : IsOwn path (at_part (at_third path))
  own_edge : (target : CPath) → IsOwn path (on_edge path target)

pub data InForm (path : CPath) (place : FlowPlace) : Type 0 where
  its_own : IsOwn path place → InForm path place
  in_part : (number : ℕ) → In (number ∷ path) place → InForm path place

at_its_path : (path : CPath) (place : FlowPlace) → IsOwn path place → path_of place ≡ path
at_its_path path place own_test = refl
at_its_path path place own_third = refl
at_its_path path place (own_edge target) = refl

own_not_end : (path : CPath) (place : FlowPlace) → IsOwn path place → place ≡ at_part at_end → ⊥
own_not_end path place own_test is = cc
own_not_end path place own_third is = cc
own_not_end path place (own_edge target) is = cc

in_own : (path : CPath) (place : FlowPlace) → IsOwn path place → In path place
in_own path place own = record { through = ([], at_its_path path place own); not_end = own_not_end path place own }

in_deeper : (path : CPath) (number : ℕ) (place : FlowPlace) → In (number ∷ path) place → In path place
in_deeper path number place within =
    record { through = (within.through.0 ++ number ∷ [], within.through.1 ∙ sym (append_assoc within.through.0 (number ∷ []) path)); not_end = within.not_end }

in_form : (path : CPath) (place : FlowPlace) → InForm path place → In path place
in_form path place (its_own own) = in_own path place own
in_form path place (in_part number within) = in_deeper path number place within

not_own_part : (path : CPath) (number : ℕ) (place : FlowPlace) → IsOwn path place → In (number ∷ path) place → ⊥
not_own_part path number place own within = not_itself path (path_of place) number (at_its_path path place own) within.through

-- a statement's own place is none of those inside
not_stmt_own : (path : CPath) (place : FlowPlace) → IsOwn path place → statement_at path ≡ place → ⊥
not_stmt_own path place own_test is = cc
not_stmt_own path place own_third is = cc
not_stmt_own path place (own_edge target) is = cc

not_stmt : (path : CPath) (place : FlowPlace) → InForm path place → statement_at path ≡ place → ⊥
not_stmt path place (its_own own) is = not_stmt_own path place own is
not_stmt path place (in_part number within) is = not_itself path (path_of place) number (ap path_of (sym is)) within.through

apart_parts : (path : CPath) (one other : ℕ) (place : FlowPlace) → (one ≡ other → ⊥) → In (one ∷ path) place → In (other ∷ path) place → ⊥
apart_parts path one other place differ first second = differ (one_part path (path_of place) one other first.through second.through)

-- ---- labels

abbrev label_place : Label → FlowPlace
label_place one = statement_at one.path

abbrev AllLabels : (FlowPlace → Type 0) → List Label → Type 0
AllLabels = AllPlaces label_place

abbrev AreApart : List Label → Type 0
AreApart = AreDistinct label_place

module _ (own : Bool) where
  own_in : (form : CStmtForm) (path : CPath) (entered : List ℕ) → AllLabels (λ place. place ≡ statement_at path) (own_label form path entered)
  own_in (label name body) path entered = (refl, tt)
  own_in (case value body) path entered = (refl, tt)
  own_in (default body) path entered = (refl, tt)
  own_in form path entered = tt

  own_apart : (form : CStmtForm) (path : CPath) (entered : List ℕ) → AreApart (own_label form path entered)
  own_apart (label name body) path entered = (tt, tt)
  own_apart (case value body) path entered = (tt, tt)
  own_apart (default body) path entered = (tt, tt)
  own_apart form path entered = tt

  at_stmt : (path : CPath) (place : FlowPlace) → place ≡ statement_at path → In path place
  at_stmt path place is = record { through = ([], ap path_of is); not_end = λ ends. let no : statement_at path ≡ at_part at_end = sym is ∙ ends in cc }

  abbrev Part : ℕ → CPath → FlowPlace → Type 0
  Part number path place = InParts number (suc number) path place

  part_of : (number : ℕ) (path : CPath) (place : FlowPlace) → In (number ∷ path) place → Part number path place
  part_of number path place within = record { number = number; least = omega arith; below = omega arith; within = within }

  in_parts_form : (from to : ℕ) (path : CPath) (place : FlowPlace) → InParts from to path place → InForm path place
  in_parts_form from to path place it = in_part it.number it.within

  parts_apart : (from between more to : ℕ) → between ≤ more → (path : CPath) (place : FlowPlace) → InParts from between path place → InParts more to path place → ⊥
  parts_apart from between more to few path place first second =
      apart_parts path first.number second.number place (λ same. let low = first.below in let high = second.least in absurd (omega (arith, same, low, high, few))) first.within second.within

  parts_more : (from to least most : ℕ) → least ≤ from → to ≤ most → (path : CPath) (place : FlowPlace) → InParts from to path place → InParts least most path place
  parts_more from to least most few more path place it =
      record { number = it.number; least = let low = it.least in omega (arith, low, few); below = let high = it.below in omega (arith, high, more); within = it.within }

  labels_part : (number : ℕ) (path : CPath) (labels : List Label) → AllLabels (In (number ∷ path)) labels → AllLabels (InForm path) labels
  labels_part number path labels all = places_as label_place (In (number ∷ path)) (InForm path) (λ it within. in_part number within) labels all

  mutual
    labels_within : (s : CStmt) (path : CPath) (entered : List ℕ) → AllLabels (In path) (labels_from own s path entered)
    labels_within (stmt place objects form) path entered =
        places_both label_place (In path) (own_label form path entered) (labels_in own form path (entered ++ objects))
        (places_as label_place (λ place. place ≡ statement_at path) (In path) (at_stmt path) (own_label form path entered) (own_in form path entered))
        (places_as label_place (InForm path) (In path) (in_form path) (labels_in own form path (entered ++ objects)) (labels_inside form path (entered ++ objects)))

    labels_inside : (form : CStmtForm) (path : CPath) (entered : List ℕ) → AllLabels (InForm path) (labels_in own form path entered)
    labels_inside (label name body) path entered = labels_part 0 path (labels_from own body (0 ∷ path) entered) (labels_within body (0 ∷ path) entered)
    labels_inside (case value body) path entered = labels_part 0 path (labels_from own body (0 ∷ path) entered) (labels_within body (0 ∷ path) entered)
    labels_inside (default body) path entered = labels_part 0 path (labels_from own body (0 ∷ path) entered) (labels_within body (0 ∷ path) entered)
    labels_inside (block ss) path entered = places_as label_place (InParts 0 (0 + count_of ss) path) (InForm path) (in_parts_form 0 (0 + count_of ss) path) (labels_among own ss 0 path entered) (labels_list ss 0 path entered)
    labels_inside (if_then test body no_else) path entered = places_both label_place (InForm path) (labels_from own body (0 ∷ path) entered) [] (labels_part 0 path (labels_from own body (0 ∷ path) entered) (labels_within body (0 ∷ path) entered)) tt
    labels_inside (if_then test body (else_do other)) path entered =
        places_both label_place (InForm path) (labels_from own body (0 ∷ path) entered) (labels_from own other (1 ∷ path) entered) (labels_part 0 path (labels_from own body (0 ∷ path) entered) (labels_within body (0 ∷ path) entered)) (labels_part 1 path (labels_from own other (1 ∷ path) entered) (labels_within other (1 ∷ path) entered))
    labels_inside (switch value body) path entered = unless_in own (labels_from own body (0 ∷ path) entered) (labels_part 0 path (labels_from own body (0 ∷ path) entered) (labels_within body (0 ∷ path) entered))
      where
        unless_in : (it : Bool) (labels : List Label) → AllLabels (InForm path) labels → AllLabels (InForm path) (unless it labels)
        unless_in true labels all = tt
        unless_in false labels all = all
    labels_inside (while test body) path entered = labels_part 0 path (labels_from own body (0 ∷ path) entered) (labels_within body (0 ∷ path) entered)
    labels_inside (do_while body test) path entered = labels_part 0 path (labels_from own body (0 ∷ path) entered) (labels_within body (0 ∷ path) entered)
    labels_inside (for_loop first test next body) path entered = labels_part (count_of first) path (labels_from own body (count_of first ∷ path) entered) (labels_within body (count_of first ∷ path) entered)
    labels_inside (expression value) path entered = tt
    labels_inside (goto name) path entered = tt
    labels_inside continue path entered = tt
    labels_inside break path entered = tt
    labels_inside (returns value) path entered = tt
    labels_inside (begin object puts) path entered = tt

    labels_list : (ss : CStmts) (index : ℕ) (path : CPath) (entered : List ℕ) → AllLabels (InParts index (index + count_of ss) path) (labels_among own ss index path entered)
    labels_list no_stmts index path entered = tt
    labels_list (more_stmts first others) index path entered =
        places_both label_place (InParts index (index + suc (count_of others)) path) (labels_from own first (index ∷ path) entered) (labels_among own others (suc index) path entered)
        (places_as label_place (In (index ∷ path)) (InParts index (index + suc (count_of others)) path)
        (λ place within. record { number = index; least = omega arith; below = omega arith; within = within }) (labels_from own first (index ∷ path) entered) (labels_within first (index ∷ path) entered))
        (places_as label_place (InParts (suc index) (suc index + count_of others) path) (InParts index (index + suc (count_of others)) path)
        (parts_more (suc index) (suc index + count_of others) index (index + suc (count_of others)) (omega arith) (omega arith) path) (labels_among own others (suc index) path entered)
        (labels_list others (suc index) path entered))

  own_and_inside : (form : CStmtForm) (path : CPath) (place : FlowPlace) → place ≡ statement_at path → InForm path place → ⊥
  own_and_inside form path place is within = not_stmt path place within (sym is)

  two_parts : (first second : List Label) (path : CPath) → AllLabels (In (0 ∷ path)) first → AllLabels (In (1 ∷ path)) second → AreApart first → AreApart second → AreApart (first ++ second)
  two_parts first second path one other first_is second_is =
      distinct_both label_place (In (0 ∷ path)) (In (1 ∷ path)) (λ place here there. apart_parts path 0 1 place (λ same. absurd (omega (arith, same))) here there) first second one other first_is second_is

  unless_apart : (it : Bool) (labels : List Label) → AreApart labels → AreApart (unless it labels)
  unless_apart true labels apart = tt
  unless_apart false labels apart = apart

  mutual
    pub labels_apart : (s : CStmt) (path : CPath) (entered : List ℕ) → AreApart (labels_from own s path entered)
    labels_apart (stmt place objects form) path entered =
        distinct_both label_place (λ it. it ≡ statement_at path) (InForm path) (own_and_inside form path) (own_label form path entered) (labels_in own form path (entered ++ objects))
        (own_in form path entered) (labels_inside form path (entered ++ objects)) (own_apart form path entered) (inside_apart form path (entered ++ objects))

    inside_apart : (form : CStmtForm) (path : CPath) (entered : List ℕ) → AreApart (labels_in own form path entered)
    inside_apart (label name body) path entered = labels_apart body (0 ∷ path) entered
    inside_apart (case value body) path entered = labels_apart body (0 ∷ path) entered
    inside_apart (default body) path entered = labels_apart body (0 ∷ path) entered
    inside_apart (block ss) path entered = list_apart ss 0 path entered
    inside_apart (if_then test body no_else) path entered =
        two_parts (labels_from own body (0 ∷ path) entered) [] path (labels_within body (0 ∷ path) entered) tt (labels_apart body (0 ∷ path) entered) tt
    inside_apart (if_then test body (else_do other)) path entered =
        two_parts (labels_from own body (0 ∷ path) entered) (labels_from own other (1 ∷ path) entered) path (labels_within body (0 ∷ path) entered) (labels_within other (1 ∷ path) entered)
        (labels_apart body (0 ∷ path) entered) (labels_apart other (1 ∷ path) entered)
    inside_apart (switch value body) path entered = unless_apart own (labels_from own body (0 ∷ path) entered) (labels_apart body (0 ∷ path) entered)
    inside_apart (while test body) path entered = labels_apart body (0 ∷ path) entered
    inside_apart (do_while body test) path entered = labels_apart body (0 ∷ path) entered
    inside_apart (for_loop first test next body) path entered = labels_apart body (body_path first path) entered
    inside_apart (expression value) path entered = tt
    inside_apart (goto name) path entered = tt
    inside_apart continue path entered = tt
    inside_apart break path entered = tt
    inside_apart (returns value) path entered = tt
    inside_apart (begin object puts) path entered = tt

    list_apart : (ss : CStmts) (index : ℕ) (path : CPath) (entered : List ℕ) → AreApart (labels_among own ss index path entered)
    list_apart no_stmts index path entered = tt
    list_apart (more_stmts first others) index path entered =
        distinct_both label_place (Part index path) (InParts (suc index) (suc index + count_of others) path) (parts_apart index (suc index) (suc index) (suc index + count_of others) (omega arith) path)
        (labels_from own first (index ∷ path) entered) (labels_among own others (suc index) path entered)
        (places_as label_place (In (index ∷ path)) (Part index path) (part_of index path) (labels_from own first (index ∷ path) entered) (labels_within first (index ∷ path) entered))
        (labels_list others (suc index) path entered) (labels_apart first (index ∷ path) entered) (list_apart others (suc index) path entered)

-- ---- edges of a `switch`

abbrev point_place : Placed → FlowPlace
point_place one = one.place

abbrev AllAt : (FlowPlace → Type 0) → List Placed → Type 0
AllAt = AllPlaces point_place

abbrev AreOnce : List Placed → Type 0
AreOnce = AreDistinct point_place

module _ (of : BodyNames) (choice : CPath) where
  abbrev IsEdge : FlowPlace → FlowPlace → Type 0
  IsEdge target place = (to : CPath) × (place ≡ on_edge choice to) × (target ≡ statement_at to)

  edge_is : (one : Label) (ss : List Stmt) → AllAt (IsEdge (statement_at one.path)) (edge_at choice one ss)
  edge_is one [] = tt
  edge_is one (first ∷ others) = ((one.path, refl, refl), tt)

  edge_once : (one : Label) (ss : List Stmt) → AreOnce (edge_at choice one ss)
  edge_once one [] = tt
  edge_once one (first ∷ others) = (tt, tt)

  own_edges : (target : CTarget) (one : Label) → AllAt (IsEdge (statement_at one.path)) (edges_of_switch of choice target one) × AreOnce (edges_of_switch of choice target one)
  own_edges (named name) one = (tt, tt)
  own_edges (case_of value) one = (edge_is one (begun of one.objects), edge_once one (begun of one.objects))
  own_edges default_case one = (edge_is one (begun of one.objects), edge_once one (begun of one.objects))

  abbrev edges : List Label → List Placed
  edges labels = flat_map (λ (it : Label). edges_of_switch of choice it.target it) labels

  -- edges to these labels
  abbrev ToOneOf : (FlowPlace → Type 0) → FlowPlace → Type 0
  ToOneOf P place = (to : CPath) × (place ≡ on_edge choice to) × P (statement_at to)

  edges_to : (P : FlowPlace → Type 0) (labels : List Label) → AllLabels P labels → AllAt (ToOneOf P) (edges labels)
  edges_to P [] all = tt
  edges_to P (one ∷ labels) all =
      places_both point_place (ToOneOf P) (edges_of_switch of choice one.target one) (edges labels)
      (places_as point_place (IsEdge (statement_at one.path)) (ToOneOf P) (λ place is. (is.0, is.1, subst P is.2 all.0)) (edges_of_switch of choice one.target one) (own_edges one.target one).0)
      (edges_to P labels all.1)

  edges_own : (labels : List Label) → AllAt (IsOwn choice) (edges labels)
  edges_own labels =
      places_as point_place (ToOneOf (λ place. Unit {0})) (IsOwn choice) (λ place is. subst (IsOwn choice) (sym is.1) (own_edge is.0)) (edges labels)
      (edges_to (λ place. Unit {0}) labels (any_labels labels))
    where
      any_labels : (list : List Label) → AllLabels (λ place. Unit {0}) list
      any_labels [] = tt
      any_labels (one ∷ list) = (tt, any_labels list)

  edges_once : (labels : List Label) → AreApart labels → AreOnce (edges labels)
  edges_once [] apart = tt
  edges_once (one ∷ labels) apart =
      distinct_both point_place (IsEdge (statement_at one.path)) (ToOneOf (λ place. statement_at one.path ≡ place → ⊥))
      (λ place here there. there.2 (let same : on_edge choice here.0 ≡ on_edge choice there.0 = sym here.1 ∙ there.1 in let paths : here.0 ≡ there.0 = cc in here.2 ∙ ap statement_at paths))
      (edges_of_switch of choice one.target one) (edges labels) (own_edges one.target one).0 (edges_to (λ place. statement_at one.path ≡ place → ⊥) labels apart.0) (own_edges one.target one).1
      (edges_once labels apart.1)

-- ---- points

module _ (of : BodyNames) where
  -- in a part, or the statement's own
  part_form : (number : ℕ) (path : CPath) (list : List Placed) → AllAt (In (number ∷ path)) list → AllAt (InForm path) list
  part_form number path list all = places_as point_place (In (number ∷ path)) (InForm path) (λ it within. in_part number within) list all

  own_form : (path : CPath) (list : List Placed) → AllAt (IsOwn path) list → AllAt (InForm path) list
  own_form path list all = places_as point_place (IsOwn path) (InForm path) (λ it own. its_own own) list all

  test_own : (test : Option CExpr) (number : ℕ) (path : CPath) (if_true if_false : FlowPlace) → AllAt (λ place. place ≡ at_part (at_test path)) (test_at of test number path if_true if_false)
  test_own None number path if_true if_false = tt
  test_own (Some e) number path if_true if_false = (refl, tt)

  test_once : (test : Option CExpr) (number : ℕ) (path : CPath) (if_true if_false : FlowPlace) → AreOnce (test_at of test number path if_true if_false)
  test_once None number path if_true if_false = tt
  test_once (Some e) number path if_true if_false = (tt, tt)

  third_own : (next : Option CExpr) (number : ℕ) (head : FlowPlace) (path : CPath) → AllAt (λ place. place ≡ at_part (at_third path)) (third_at of next number head path)
  third_own None number head path = tt
  third_own (Some e) number head path = (refl, tt)

  third_once : (next : Option CExpr) (number : ℕ) (head : FlowPlace) (path : CPath) → AreOnce (third_at of next number head path)
  third_once None number head path = tt
  third_once (Some e) number head path = (tt, tt)

  is_test : (path : CPath) (place : FlowPlace) → place ≡ at_part (at_test path) → IsOwn path place
  is_test path place is = subst (IsOwn path) (sym is) own_test

  is_third : (path : CPath) (place : FlowPlace) → place ≡ at_part (at_third path) → IsOwn path place
  is_third path place is = subst (IsOwn path) (sym is) own_third

  abbrev do_context : CStmt → CExpr → Context → CPath → ℕ → Context
  do_context body test ctx path number =
      in_loop (turn_or_jump (has_continue body) (at_part (at_test path)) (test_point (condition of test (number + count_in_stmt of.names body)) (statement_at (0 ∷ path)) ctx.place)) (at_part (at_test path)) ctx

  abbrev for_context : CStmts → Option CExpr → Option CExpr → CStmt → Context → CPath → ℕ → Context
  for_context first test next body ctx path number =
      in_loop (turn_point of body next (number + count_in_stmts of.names first + count_in_condition of.names test) (head_of test first path) path) (turn_place next (head_of test first path) path) ctx

  abbrev body_number : CStmts → Option CExpr → Option CExpr → ℕ → ℕ
  body_number first test next number = number + count_in_stmts of.names first + count_in_condition of.names test + count_in_option of.names next

  abbrev for_test : CStmts → Option CExpr → Context → CPath → ℕ → List Placed
  for_test first test ctx path number = test_at of test (number + count_in_stmts of.names first) path (statement_at (body_path first path)) ctx.place

  abbrev for_body : CStmts → Option CExpr → Option CExpr → CStmt → Context → CPath → ℕ → List Placed
  for_body first test next body ctx path number = points_of of (for_context first test next body ctx path number) (body_path first path) (body_number first test next number) body

  abbrev for_third : CStmts → Option CExpr → Option CExpr → Context → CPath → ℕ → List Placed
  for_third first test next ctx path number = third_at of next (number + count_in_stmts of.names first + count_in_condition of.names test) (head_of test first path) path

  abbrev for_rest : CStmts → Option CExpr → Option CExpr → CStmt → Context → CPath → ℕ → List Placed
  for_rest first test next body ctx path number = for_test first test ctx path number ++ (for_body first test next body ctx path number ++ for_third first test next ctx path number)

  abbrev list_context : CStmt → CStmts → Context → CPath → (index number : ℕ) → Context
  list_context first others ctx path index number =
      before (list_point of ctx path (suc index) (number + count_in_stmt of.names first) others) (first_place others (suc index) path ctx.place) ctx

  abbrev first_parts : CStmts → CPath → FlowPlace → Type 0
  first_parts first path place = InParts 0 (0 + count_of first) path place

  mutual
    points_within : (s : CStmt) (ctx : Context) (path : CPath) (number : ℕ) → AllAt (In path) (points_of of ctx path number s)
    points_within (stmt place objects form) ctx path number =
        (record { through = ([], refl); not_end = λ is. cc }, places_as point_place (InForm path) (In path) (in_form path) (points_in of (inside form path ctx) path number form) (points_inside form (inside form path ctx) path number))

    points_inside : (form : CStmtForm) (ctx : Context) (path : CPath) (number : ℕ) → AllAt (InForm path) (points_in of ctx path number form)
    points_inside (label name body) ctx path number = part_form 0 path (points_of of ctx (0 ∷ path) number body) (points_within body ctx (0 ∷ path) number)
    points_inside (case value body) ctx path number = part_form 0 path (points_of of ctx (0 ∷ path) number body) (points_within body ctx (0 ∷ path) number)
    points_inside (default body) ctx path number = part_form 0 path (points_of of ctx (0 ∷ path) number body) (points_within body ctx (0 ∷ path) number)
    points_inside (block ss) ctx path number =
        places_as point_place (first_parts ss path) (InForm path) (λ place it. in_part it.number it.within) (points_among of ctx path 0 number ss) (points_list ss ctx path 0 number)
    points_inside (expression value) ctx path number = tt
    points_inside (begin object puts) ctx path number = tt
    points_inside (if_then test body no_else) ctx path number =
        places_both point_place (InForm path) (points_of of (apart ctx) (0 ∷ path) (number + count_in_test of.names test) body) []
        (part_form 0 path (points_of of (apart ctx) (0 ∷ path) (number + count_in_test of.names test) body) (points_within body (apart ctx) (0 ∷ path) (number + count_in_test of.names test))) tt
    points_inside (if_then test body (else_do other)) ctx path number =
        places_both point_place (InForm path) (points_of of (apart ctx) (0 ∷ path) (number + count_in_test of.names test) body)
        (points_of of (apart ctx) (1 ∷ path) (number + count_in_test of.names test + count_in_stmt of.names body) other)
        (part_form 0 path (points_of of (apart ctx) (0 ∷ path) (number + count_in_test of.names test) body) (points_within body (apart ctx) (0 ∷ path) (number + count_in_test of.names test)))
        (part_form 1 path (points_of of (apart ctx) (1 ∷ path) (number + count_in_test of.names test + count_in_stmt of.names body) other)
        (points_within other (apart ctx) (1 ∷ path) (number + count_in_test of.names test + count_in_stmt of.names body)))
    points_inside (switch value body) ctx path number =
        places_both point_place (InForm path) (edges of path (labels_of_switch body path)) (points_of of (in_switch ctx) (0 ∷ path) (number + count_in_test of.names value) body)
        (own_form path (edges of path (labels_of_switch body path)) (edges_own of path (labels_of_switch body path)))
        (part_form 0 path (points_of of (in_switch ctx) (0 ∷ path) (number + count_in_test of.names value) body) (points_within body (in_switch ctx) (0 ∷ path) (number + count_in_test of.names value)))
    points_inside (while test body) ctx path number =
        (its_own own_test, part_form 0 path _ (points_within body (in_loop (jump (at_part (at_test path))) (at_part (at_test path)) ctx) (0 ∷ path) (number + count_in_test of.names test)))
    points_inside (do_while body test) ctx path number =
        places_both point_place (InForm path) (points_of of (do_context body test ctx path number) (0 ∷ path) number body)
        (test_at of (Some test) (number + count_in_stmt of.names body) path (statement_at (0 ∷ path)) ctx.place)
        (part_form 0 path (points_of of (do_context body test ctx path number) (0 ∷ path) number body) (points_within body (do_context body test ctx path number) (0 ∷ path) number)) (its_own own_test, tt)
    points_inside (for_loop first test next body) ctx path number =
        places_both point_place (InForm path) (points_among of (in_firsts first test next path ctx) path 0 number first) (for_rest first test next body ctx path number)
        (places_as point_place (first_parts first path) (InForm path) (λ place it. in_part it.number it.within) (points_among of (in_firsts first test next path ctx) path 0 number first)
        (points_list first (in_firsts first test next path ctx) path 0 number))
        (places_both point_place (InForm path) (for_test first test ctx path number) (for_body first test next body ctx path number ++ for_third first test next ctx path number)
        (own_form path (for_test first test ctx path number)
        (places_as point_place (λ place. place ≡ at_part (at_test path)) (IsOwn path) (is_test path) (for_test first test ctx path number) (test_own test (number + count_in_stmts of.names first) path (statement_at (body_path first path)) ctx.place)))
        (places_both point_place (InForm path) (for_body first test next body ctx path number) (for_third first test next ctx path number)
        (part_form (count_of first) path (for_body first test next body ctx path number) (points_within body (for_context first test next body ctx path number) (body_path first path) (body_number first test next number)))
        (own_form path (for_third first test next ctx path number)
        (places_as point_place (λ place. place ≡ at_part (at_third path)) (IsOwn path) (is_third path) (for_third first test next ctx path number)
        (third_own next (number + count_in_stmts of.names first + count_in_condition of.names test) (head_of test first path) path)))))
    points_inside (goto name) ctx path number = tt
    points_inside continue ctx path number = tt
    points_inside break ctx path number = tt
    points_inside (returns value) ctx path number = tt

    points_list : (ss : CStmts) (ctx : Context) (path : CPath) (index number : ℕ) → AllAt (InParts index (index + count_of ss) path) (points_among of ctx path index number ss)
    points_list no_stmts ctx path index number = tt
    points_list (more_stmts first others) ctx path index number =
        places_both point_place (InParts index (index + suc (count_of others)) path) (points_of of (list_context first others ctx path index number) (index ∷ path) number first)
        (points_among of ctx path (suc index) (number + count_in_stmt of.names first) others)
        (places_as point_place (In (index ∷ path)) (InParts index (index + suc (count_of others)) path)
        (λ place within. record { number = index; least = omega arith; below = omega arith; within = within }) (points_of of (list_context first others ctx path index number) (index ∷ path) number first)
        (points_within first (list_context first others ctx path index number) (index ∷ path) number))
        (places_as point_place (InParts (suc index) (suc index + count_of others) path) (InParts index (index + suc (count_of others)) path)
        (parts_more true (suc index) (suc index + count_of others) index (index + suc (count_of others)) (omega arith) (omega arith) path)
        (points_among of ctx path (suc index) (number + count_in_stmt of.names first) others) (points_list others ctx path (suc index) (number + count_in_stmt of.names first)))

  own_stmt : (path : CPath) (place : FlowPlace) → InForm path place → statement_at path ≡ place → ⊥
  own_stmt path place within is = not_stmt path place within is

  -- the statement's own beside those of a part
  own_first : (path : CPath) (number : ℕ) (first others : List Placed) → AllAt (IsOwn path) first → AllAt (In (number ∷ path)) others → AreOnce first → AreOnce others → AreOnce (first ++ others)
  own_first path number first others one other first_is others_are =
      distinct_both point_place (IsOwn path) (In (number ∷ path)) (λ place own within. not_own_part path number place own within) first others one other first_is others_are

  own_last : (path : CPath) (number : ℕ) (first others : List Placed) → AllAt (In (number ∷ path)) first → AllAt (IsOwn path) others → AreOnce first → AreOnce others → AreOnce (first ++ others)
  own_last path number first others one other first_is others_are =
      distinct_both point_place (In (number ∷ path)) (IsOwn path) (λ place within own. not_own_part path number place own within) first others one other first_is others_are

  own_tests : (test : Option CExpr) (number : ℕ) (path : CPath) (if_true if_false : FlowPlace) → AllAt (IsOwn path) (test_at of test number path if_true if_false)
  own_tests test number path if_true if_false =
      places_as point_place (λ place. place ≡ at_part (at_test path)) (IsOwn path) (is_test path) (test_at of test number path if_true if_false) (test_own test number path if_true if_false)

  -- behind the first part of a `for`
  data InRest (path : CPath) (number : ℕ) (place : FlowPlace) : Type 0 where
    rest_own : IsOwn path place → InRest path number place
    rest_part : In (number ∷ path) place → InRest path number place

  first_not_rest : (first : CStmts) (path : CPath) (place : FlowPlace) → first_parts first path place → InRest path (count_of first) place → ⊥
  first_not_rest first path place it (rest_own own) = not_own_part path it.number place own it.within
  first_not_rest first path place it (rest_part within) = apart_parts path it.number (count_of first) place (λ same. let low = it.below in absurd (omega (arith, same, low))) it.within within

  -- the test isn't the third expression, and neither is in the body
  test_not_rest : (path : CPath) (number : ℕ) (place : FlowPlace) → place ≡ at_part (at_test path) → (In (number ∷ path) place) ⊎ (place ≡ at_part (at_third path)) → ⊥
  test_not_rest path number place is (inl within) = not_own_part path number place (is_test path place is) within
  test_not_rest path number place is (inr other) = let no : at_part (at_test path) ≡ at_part (at_third path) = sym is ∙ other in cc

  body_not_third : (path : CPath) (number : ℕ) (place : FlowPlace) → In (number ∷ path) place → place ≡ at_part (at_third path) → ⊥
  body_not_third path number place within is = not_own_part path number place (is_third path place is) within

  module _ (first : CStmts) (test next : Option CExpr) (body : CStmt) (ctx : Context) (path : CPath) (number : ℕ) where
    abbrev the_body : List Placed
    the_body = for_body first test next body ctx path number

    abbrev the_third : List Placed
    the_third = for_third first test next ctx path number

    third_is : AllAt (λ place. place ≡ at_part (at_third path)) the_third
    third_is = third_own next (number + count_in_stmts of.names first + count_in_condition of.names test) (head_of test first path) path

    rest_places : AllAt (In (body_path first path)) the_body → AllAt (InRest path (count_of first)) (for_rest first test next body ctx path number)
    rest_places within =
        places_both point_place (InRest path (count_of first)) (for_test first test ctx path number) (the_body ++ the_third)
        (places_as point_place (IsOwn path) (InRest path (count_of first)) (λ place own. rest_own own) (for_test first test ctx path number)
        (own_tests test (number + count_in_stmts of.names first) path (statement_at (body_path first path)) ctx.place))
        (places_both point_place (InRest path (count_of first)) the_body the_third
        (places_as point_place (In (body_path first path)) (InRest path (count_of first)) (λ place it. rest_part it) the_body within)
        (places_as point_place (λ place. place ≡ at_part (at_third path)) (InRest path (count_of first)) (λ place is. rest_own (is_third path place is)) the_third third_is))

    rest_once : AllAt (In (body_path first path)) the_body → AreOnce the_body → AreOnce (for_rest first test next body ctx path number)
    rest_once within once =
        distinct_both point_place (λ place. place ≡ at_part (at_test path)) (λ place. (In (body_path first path) place) ⊎ (place ≡ at_part (at_third path))) (test_not_rest path (count_of first))
        (for_test first test ctx path number) (the_body ++ the_third)
        (test_own test (number + count_in_stmts of.names first) path (statement_at (body_path first path)) ctx.place)
        (places_both point_place (λ place. (In (body_path first path) place) ⊎ (place ≡ at_part (at_third path))) the_body the_third
        (places_as point_place (In (body_path first path)) (λ place. (In (body_path first path) place) ⊎ (place ≡ at_part (at_third path))) (λ place it. inl it) the_body within)
        (places_as point_place (λ place. place ≡ at_part (at_third path)) (λ place. (In (body_path first path) place) ⊎ (place ≡ at_part (at_third path))) (λ place it. inr it) the_third third_is))
        (test_once test (number + count_in_stmts of.names first) path (statement_at (body_path first path)) ctx.place)
        (distinct_both point_place (In (body_path first path)) (λ place. place ≡ at_part (at_third path)) (body_not_third path (count_of first)) the_body the_third within third_is once
        (third_once next (number + count_in_stmts of.names first + count_in_condition of.names test) (head_of test first path) path))

  mutual
    pub points_once : (s : CStmt) (ctx : Context) (path : CPath) (number : ℕ) → AreOnce (points_of of ctx path number s)
    points_once (stmt place objects form) ctx path number = (
      places_as point_place (InForm path) (λ it. statement_at path ≡ it → ⊥) (own_stmt path) (points_in of (inside form path ctx) path number form) (points_inside form (inside form path ctx) path number),
      inside_once form (inside form path ctx) path number,
    )

    inside_once : (form : CStmtForm) (ctx : Context) (path : CPath) (number : ℕ) → AreOnce (points_in of ctx path number form)
    inside_once (label name body) ctx path number = points_once body ctx (0 ∷ path) number
    inside_once (case value body) ctx path number = points_once body ctx (0 ∷ path) number
    inside_once (default body) ctx path number = points_once body ctx (0 ∷ path) number
    inside_once (block ss) ctx path number = list_once ss ctx path 0 number
    inside_once (expression value) ctx path number = tt
    inside_once (begin object puts) ctx path number = tt
    inside_once (if_then test body no_else) ctx path number =
        distinct_both point_place (In (0 ∷ path)) (λ place. ⊥) (λ place here there. there) (points_of of (apart ctx) (0 ∷ path) (number + count_in_test of.names test) body) []
        (points_within body (apart ctx) (0 ∷ path) (number + count_in_test of.names test)) tt (points_once body (apart ctx) (0 ∷ path) (number + count_in_test of.names test)) tt
    inside_once (if_then test body (else_do other)) ctx path number =
        distinct_both point_place (In (0 ∷ path)) (In (1 ∷ path)) (λ place here there. apart_parts path 0 1 place (λ same. absurd (omega (arith, same))) here there)
        (points_of of (apart ctx) (0 ∷ path) (number + count_in_test of.names test) body)
        (points_of of (apart ctx) (1 ∷ path) (number + count_in_test of.names test + count_in_stmt of.names body) other)
        (points_within body (apart ctx) (0 ∷ path) (number + count_in_test of.names test)) (points_within other (apart ctx) (1 ∷ path) (number + count_in_test of.names test + count_in_stmt of.names body))
        (points_once body (apart ctx) (0 ∷ path) (number + count_in_test of.names test)) (points_once other (apart ctx) (1 ∷ path) (number + count_in_test of.names test + count_in_stmt of.names body))
    inside_once (switch value body) ctx path number =
        own_first path 0 (edges of path (labels_of_switch body path)) (points_of of (in_switch ctx) (0 ∷ path) (number + count_in_test of.names value) body) (edges_own of path (labels_of_switch body path))
        (points_within body (in_switch ctx) (0 ∷ path) (number + count_in_test of.names value)) (edges_once of path (labels_of_switch body path) (labels_apart true body (0 ∷ path) []))
        (points_once body (in_switch ctx) (0 ∷ path) (number + count_in_test of.names value))
    inside_once (while test body) ctx path number =
        own_first path 0 (test_at of (Some test) number path (statement_at (0 ∷ path)) ctx.place)
        (points_of of (in_loop (jump (at_part (at_test path))) (at_part (at_test path)) ctx) (0 ∷ path) (number + count_in_test of.names test) body) (own_test, tt)
        (points_within body (in_loop (jump (at_part (at_test path))) (at_part (at_test path)) ctx) (0 ∷ path) (number + count_in_test of.names test)) (tt, tt)
        (points_once body (in_loop (jump (at_part (at_test path))) (at_part (at_test path)) ctx) (0 ∷ path) (number + count_in_test of.names test))
    inside_once (do_while body test) ctx path number =
        own_last path 0 (points_of of (do_context body test ctx path number) (0 ∷ path) number body)
        (test_at of (Some test) (number + count_in_stmt of.names body) path (statement_at (0 ∷ path)) ctx.place)
        (points_within body (do_context body test ctx path number) (0 ∷ path) number) (own_test, tt) (points_once body (do_context body test ctx path number) (0 ∷ path) number) (tt, tt)
    inside_once (for_loop first test next body) ctx path number =
        distinct_both point_place (first_parts first path) (InRest path (count_of first)) (first_not_rest first path) (points_among of (in_firsts first test next path ctx) path 0 number first)
        (for_rest first test next body ctx path number) (points_list first (in_firsts first test next path ctx) path 0 number)
        (rest_places first test next body ctx path number (points_within body (for_context first test next body ctx path number) (body_path first path) (body_number first test next number)))
        (list_once first (in_firsts first test next path ctx) path 0 number)
        (rest_once first test next body ctx path number (points_within body (for_context first test next body ctx path number) (body_path first path) (body_number first test next number))
        (points_once body (for_context first test next body ctx path number) (body_path first path) (body_number first test next number)))
    inside_once (goto name) ctx path number = tt
    inside_once continue ctx path number = tt
    inside_once break ctx path number = tt
    inside_once (returns value) ctx path number = tt

    list_once : (ss : CStmts) (ctx : Context) (path : CPath) (index number : ℕ) → AreOnce (points_among of ctx path index number ss)
    list_once no_stmts ctx path index number = tt
    list_once (more_stmts first others) ctx path index number =
        distinct_both point_place (Part true index path) (InParts (suc index) (suc index + count_of others) path)
        (parts_apart true index (suc index) (suc index) (suc index + count_of others) (omega arith) path)
        (points_of of (list_context first others ctx path index number) (index ∷ path) number first) (points_among of ctx path (suc index) (number + count_in_stmt of.names first) others)
        (places_as point_place (In (index ∷ path)) (Part true index path) (part_of true index path) (points_of of (list_context first others ctx path index number) (index ∷ path) number first)
        (points_within first (list_context first others ctx path index number) (index ∷ path) number))
        (points_list others ctx path (suc index) (number + count_in_stmt of.names first))
        (points_once first (list_context first others ctx path index number) (index ∷ path) number) (list_once others ctx path (suc index) (number + count_in_stmt of.names first))

  -- ---- a whole body

  pub body_once : (body : CStmt) → AreOnce (points_in_body of body)
  body_once body =
      distinct_both point_place (In []) (λ place. place ≡ at_part at_end) (λ place within is. within.not_end is) (points_of of (top of) [] 0 body) (placed (at_part at_end) (end_point of) ∷ [])
      (points_within body (top of) [] 0) (refl, tt) (points_once body (top of) [] 0) (tt, tt)
