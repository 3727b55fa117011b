-- What stands in the text of a flow and its shape, by what the shape has.
use Rattle.std.proofs.Common.{◌≡◌, ◌∙◌, ℕ, zero, suc, ◌+◌, ◌<◌, ◌≤◌, ◌==◌, nat_lt, Bool, true, false, ◌||◌, List, [], ◌∷◌, ◌++◌, map, length, Option, Some, None, slice_get, if◌then◌else◌, arith, refl, sym, ap, subst}
use Rattle.std.proofs.lemmas.Bool.{ltb-false, ltb-true}
use Rattle.std.specs.Prelude.{⊤}
use Rattle.reloop.specs.Fits.{times, IsFit}
use Rattle.reloop.specs.Graphs.{is_in, IsIn, IsNode}
use Rattle.reloop.specs.Shapes.{ShapeTree, simple, blocks, loop, dispatch, ShapeTrees, no_shapes, more_shapes, nodes_in, nodes_among, has_dispatch, have_dispatch, goes_round, go_round}
use Rattle.reloop.proofs.Sets.{or_left, or_right, same_number, equal_itself, not_both}
use Rattle.rs_text.specs.declared.operator.Operator.{Operator}
use Rattle.rs_text.specs.declared.operator.Operator.TheVariants.{Add, Sub, Mul, Div, Rem, BitAnd, BitOr, BitXor, Shl, Shr, Equal, NotEqual, Less, LessEqual, Greater, GreaterEqual}
use Rattle.rs_text.specs.Tree.{Expr, Literal, Truth, NoFunction, Read, Call, CallBy, Wrapped, WrappingNeg, Offset, OffsetFrom, IsNull, IsNone, AddressOf, NullPointer, SomeFunction, Transmute, Neg, Not, Cast, Binary, And, Or, Choose, Stmt, Assign, Eval, CopyBytes, If, Loop, Block, Break, Continue, Match, Return}
use Rattle.flow.specs.Flows.{BranchTree, go, if_test, switch, gives, NodeTree, FlowTree, node_targets, node_at, graph_of}
use Rattle.emit_rules.specs.Bodies.{draft_of, emitted}
use Rattle.emit_rules.specs.Labels.{numbered_stmt, numbered}
use Rattle.emit_rules.specs.Sorting.{nests_of}
use Rattle.emit_rules.specs.Texts.{opposite, compared_by, negated}
use Rattle.emit_laws.specs.Counts.{one_if, count_of, is_loop, is_match, expr_uses, stmt_uses}
use Rattle.emit_laws.specs.LawsShape.{BodiesWithout, rounds_of, rounds_among, branch_switches, switches, block_name, branch_uses, IsUnused, TextShaped}
use Rattle.emit_laws.proofs.Counting.{BranchIs, FoundIs, found_count, KindOf, count_numbered, count_last, draft_counts, of_number}
use Rattle.emit_laws.proofs.Every.{chain_with}
use Rattle.emit_laws.proofs.Fitting.{nests_cover}
use Rattle.emit_laws.proofs.Keeping.{ChainAsked}
use Rattle.emit_laws.proofs.Shaped.{shape_weight, shapes_weight, nests_weight, OfChoiceIn, node_less, nests_asked}
use Rattle.emit_laws.proofs.Told.{draft_uses}

-- ---- sums over the nodes of a shape

abbrev sum : (ℕ → ℕ) → List ℕ → ℕ
sum f [] = 0
sum f (node ∷ nodes) = f node + sum f nodes

sum_append : (f : ℕ → ℕ) (first second : List ℕ) → sum f (first ++ second) ≡ sum f first + sum f second
sum_append f [] second = omega arith
sum_append f (node ∷ nodes) second = let rest = sum_append f nodes second in omega (arith, rest)

no_sum : (f : ℕ → ℕ) → ((node : ℕ) → f node ≡ 0) → (nodes : List ℕ) → sum f nodes ≡ 0
no_sum f none [] = refl
no_sum f none (node ∷ nodes) = let one = none node in let rest = no_sum f none nodes in omega (arith, one, rest)

module _ (of_node : ℕ → ℕ) (of_choice : List ℕ → ℕ) (of_loop : ℕ) (of_dispatch : List ℕ → ℕ) where
  abbrev other_weight : ShapeTree → ℕ
  other_weight = shape_weight (λ node. 0) of_choice of_loop of_dispatch

  abbrev others_weight : ShapeTrees → ℕ
  others_weight = shapes_weight (λ node. 0) of_choice of_loop of_dispatch

  mutual
    shape_split : (shape : ShapeTree) → shape_weight of_node of_choice of_loop of_dispatch shape ≡ sum of_node (nodes_in shape) + other_weight shape
    shape_split (simple node) = omega arith
    shape_split (blocks members) = shapes_split members
    shape_split (loop head body) = let rest = shape_split body in omega (arith, rest)
    shape_split (dispatch heads body) = let rest = shape_split body in omega (arith, rest)

    shapes_split : (members : ShapeTrees) → shapes_weight of_node of_choice of_loop of_dispatch members ≡ sum of_node (nodes_among members) + others_weight members
    shapes_split no_shapes = refl
    shapes_split (more_shapes member others) =
        let one = shape_split member in let rest = shapes_split others in let both = sum_append of_node (nodes_in member) (nodes_among others) in omega (arith, one, rest, both)

mutual
  rounds_weight : (shape : ShapeTree) → shape_weight (λ node. 0) (λ heads. 0) 1 (λ heads. 1) shape ≡ rounds_of shape
  rounds_weight (simple node) = refl
  rounds_weight (blocks members) = all_rounds_weight members
  rounds_weight (loop head body) = let rest = rounds_weight body in omega (arith, rest)
  rounds_weight (dispatch heads body) = let rest = rounds_weight body in omega (arith, rest)

  all_rounds_weight : (members : ShapeTrees) → shapes_weight (λ node. 0) (λ heads. 0) 1 (λ heads. 1) members ≡ rounds_among members
  all_rounds_weight no_shapes = refl
  all_rounds_weight (more_shapes member others) = let one = rounds_weight member in let rest = all_rounds_weight others in omega (arith, one, rest)

mutual
  nothing_weight : (shape : ShapeTree) → shape_weight (λ node. 0) (λ heads. 0) 0 (λ heads. 0) shape ≡ 0
  nothing_weight (simple node) = refl
  nothing_weight (blocks members) = nothings_weight members
  nothing_weight (loop head body) = let rest = nothing_weight body in omega (arith, rest)
  nothing_weight (dispatch heads body) = let rest = nothing_weight body in omega (arith, rest)

  nothings_weight : (members : ShapeTrees) → shapes_weight (λ node. 0) (λ heads. 0) 0 (λ heads. 0) members ≡ 0
  nothings_weight no_shapes = refl
  nothings_weight (more_shapes member others) = let one = nothing_weight member in let rest = nothings_weight others in omega (arith, one, rest)

by_either : (A : Type 0) (a b : Bool) → (a || b) ≡ true → (a ≡ true → A) → (b ≡ true → A) → A
by_either A true b is one other = one refl
by_either A false b is one other = other is

mutual
  dispatch_weight : (shape : ShapeTree) → has_dispatch shape ≡ true → 0 < shape_weight (λ node. 0) (λ heads. 1) 0 (λ heads. 0) shape
  dispatch_weight (simple node) is = absurd cc
  dispatch_weight (blocks members) is = dispatches_weight members is
  dispatch_weight (loop head body) is = let rest = dispatch_weight body is in omega (arith, rest)
  dispatch_weight (dispatch heads body) is = omega arith

  dispatches_weight : (members : ShapeTrees) → have_dispatch members ≡ true → 0 < shapes_weight (λ node. 0) (λ heads. 1) 0 (λ heads. 0) members
  dispatches_weight no_shapes is = absurd cc
  dispatches_weight (more_shapes member others) is =
      by_either (0 < shapes_weight (λ node. 0) (λ heads. 1) 0 (λ heads. 0) (more_shapes member others)) (has_dispatch member) (have_dispatch others) is
      (λ one. let some = dispatch_weight member one in omega (arith, some)) (λ later. let some = dispatches_weight others later in omega (arith, some))

-- ---- a shape that doesn't go round

or_none_left : (a b : Bool) → (a || b) ≡ false → a ≡ false
or_none_left true b is = is
or_none_left false b is = refl

or_none_right : (a b : Bool) → (a || b) ≡ false → b ≡ false
or_none_right true b is = absurd cc
or_none_right false b is = is

mutual
  straight_rounds : (shape : ShapeTree) → goes_round shape ≡ false → (rounds_of shape ≡ 0) × (has_dispatch shape ≡ false)
  straight_rounds (simple node) is = (refl, refl)
  straight_rounds (blocks members) is = straight_among members is
  straight_rounds (loop head body) is = absurd cc
  straight_rounds (dispatch heads body) is = absurd cc

  straight_among : (members : ShapeTrees) → go_round members ≡ false → (rounds_among members ≡ 0) × (have_dispatch members ≡ false)
  straight_among no_shapes is = (refl, refl)
  straight_among (more_shapes member others) is =
      let one = straight_rounds member (or_none_left (goes_round member) (go_round others) is) in
      let rest = straight_among others (or_none_right (goes_round member) (go_round others) is) in
      (let first = one.0 in let second = rest.0 in omega (arith, first, second), ap (λ (test : Bool). test || have_dispatch others) one.1 ∙ rest.1)

-- ---- each node once

module _ (f : ℕ → ℕ) where
  -- so many times
  abbrev added : ℕ → ℕ → ℕ
  added zero value = 0
  added (suc count) value = value + added count value

  -- of the nodes below a number, as often as they stand in a list
  abbrev below : ℕ → List ℕ → ℕ
  below zero nodes = 0
  below (suc number) nodes = added (times number nodes) (f number) + below number nodes

  none_below : (number : ℕ) → below number [] ≡ 0
  none_below zero = refl
  none_below (suc number) = let rest = none_below number in omega (arith, rest)

  same_below : (number node : ℕ) (nodes : List ℕ) → number ≤ node → below number (node ∷ nodes) ≡ below number nodes
  same_below zero node nodes less = refl
  same_below (suc number) node nodes less = by_test (number == node) refl (same_below number node nodes (omega (arith, less)))
    where
      by_test : (test : Bool) → (number == node) ≡ test → below number (node ∷ nodes) ≡ below number nodes →
          added (if test then suc (times number nodes) else times number nodes) (f number) + below number (node ∷ nodes) ≡ added (times number nodes) (f number) + below number nodes
      by_test true is rest = absurd (let same = same_number number node is in omega (arith, same, less))
      by_test false is rest = omega (arith, rest)

  one_below : (number node : ℕ) (nodes : List ℕ) → node < number → below number (node ∷ nodes) ≡ f node + below number nodes
  one_below zero node nodes less = absurd (omega (arith, less))
  one_below (suc number) node nodes less = by_test (number == node) refl (λ smaller. one_below number node nodes smaller)
    where
      smaller : (number == node) ≡ false → node < number
      smaller is = by_order (nat_lt node number) refl
        where
          by_order : (test : Bool) → nat_lt node number ≡ test → node < number
          by_order true is_less = ltb-true node number is_less
          by_order false no_less =
              let same : number ≡ node = (let more = ltb-false node number no_less in omega (arith, more, less)) in
              absurd (not_both (number == node) (subst (λ (one : ℕ). (number == one) ≡ true) same (equal_itself number)) is)

      by_test : (test : Bool) → (number == node) ≡ test → (node < number → below number (node ∷ nodes) ≡ f node + below number nodes) →
          added (if test then suc (times number nodes) else times number nodes) (f number) + below number (node ∷ nodes) ≡ f node + (added (times number nodes) (f number) + below number nodes)
      by_test true is rest =
          let same = same_number number node is in
          let value : f number ≡ f node = ap f same in
          let others = same_below number node nodes (omega (arith, same)) in omega (arith, value, others)
      by_test false is rest = let all = rest (smaller is) in omega (arith, all)

  sum_below : (number : ℕ) (nodes : List ℕ) → ((node : ℕ) → IsIn node nodes → node < number) → sum f nodes ≡ below number nodes
  sum_below number [] less = sym (none_below number)
  sum_below number (node ∷ nodes) less =
      let rest = sum_below number nodes (λ one there. less one (or_right (one == node) (is_in one nodes) there)) in
      let one = one_below number node nodes (less node (or_left (node == node) (is_in node nodes) (equal_itself node))) in omega (arith, rest, one)

  -- of each node below a number
  abbrev each : ℕ → ℕ
  each zero = 0
  each (suc number) = f number + each number

  each_once : (number : ℕ) (nodes : List ℕ) → ((node : ℕ) → node < number → times node nodes ≡ 1) → below number nodes ≡ each number
  each_once zero nodes once = refl
  each_once (suc number) nodes once =
      let rest = each_once number nodes (λ node less. once node (omega (arith, less))) in
      let one : added (times number nodes) (f number) ≡ f number + 0 = ap (λ (count : ℕ). added count (f number)) (once number (omega arith)) in omega (arith, rest, one)

each_front : (f : ℕ → ℕ) (number : ℕ) → each f (suc number) ≡ f 0 + each (λ node. f (suc node)) number
each_front f zero = refl
each_front f (suc number) = let rest = each_front f number in omega (arith, rest)

abbrev sum_nodes : (NodeTree → ℕ) → List NodeTree → ℕ
sum_nodes of_node [] = 0
sum_nodes of_node (node ∷ nodes) = of_node node + sum_nodes of_node nodes

each_node : (of_found : Option NodeTree → ℕ) (of_node : NodeTree → ℕ) → ((node : NodeTree) → of_found (Some node) ≡ of_node node) → (nodes : List NodeTree) →
    each (λ number. of_found (slice_get nodes number)) (length nodes) ≡ sum_nodes of_node nodes
each_node of_found of_node same [] = refl
each_node of_found of_node same (node ∷ nodes) =
    let front = each_front (λ number. of_found (slice_get (node ∷ nodes) number)) (length nodes) in
    let rest = each_node of_found of_node same nodes in let own = same node in omega (arith, front, rest, own)

-- ---- the text of a flow and its shape

not_false_true : (test : Bool) → test ≡ true → test ≡ false → ⊥
not_false_true true is none = cc
not_false_true false is none = cc

module _ (flow : FlowTree) (shape : ShapeTree) (fits : IsFit (graph_of flow) shape) where
  -- without a dispatch there is no choice
  none_asked : has_dispatch shape ≡ false → ChainAsked flow (λ around ss. ⊤) (λ node. ⊤) ⊥ ⊤ (nests_of flow shape)
  none_asked none =
      chain_with (λ node. ⊤) (λ node. ⊤) (OfChoiceIn flow shape fits) (λ heads. ⊥ × ((node : ℕ) → IsIn node heads → ⊤)) (goes_round shape ≡ true) ⊤ (λ node is. tt)
      (λ heads has. (not_false_true (has_dispatch shape) has.0 none, λ node there. tt)) (λ is. tt) (nests_of flow shape) (nests_asked flow shape fits)

  module _ (is : Stmt → Bool) (named : (around : List (List ℕ)) (s : Stmt) → is (numbered_stmt around s) ≡ is s) (bare : is (Return None) ≡ false) where
    emitted_count : count_of is (emitted flow shape) ≡ count_of is (draft_of flow (nests_of flow shape))
    emitted_count = count_last is bare (numbered [] (draft_of flow (nests_of flow shape))) ∙ count_numbered is named [] (draft_of flow (nests_of flow shape))

    module _ (round : Bool) (kind : KindOf is round) (of_branch : BranchTree → ℕ) (nodes : (number : ℕ) → FoundIs is of_branch (node_at flow number)) where
      abbrev number_count : ℕ → ℕ
      number_count = of_number flow is round kind of_branch nodes

      exact : has_dispatch shape ≡ false → count_of is (emitted flow shape) ≡ sum number_count (nodes_in shape) + shape_weight (λ node. 0) (λ heads. 0) (one_if round) (λ heads. one_if round) shape
      exact none =
          emitted_count ∙ draft_counts flow is round kind of_branch nodes (nests_of flow shape) (none_asked none) (nests_cover flow shape fits)
          ∙ nests_weight number_count (λ heads. 0) (one_if round) (λ heads. one_if round) flow shape fits ∙ shape_split number_count (λ heads. 0) (one_if round) (λ heads. one_if round) shape

-- ---- kinds of statements

loop_kind : KindOf is_loop true
loop_kind = record { loops = λ label body. refl; blocks = λ label body. refl; breaks = λ label. refl; continues = λ label. refl }

match_kind : KindOf is_match false
match_kind = record { loops = λ label body. refl; blocks = λ label body. refl; breaks = λ label. refl; continues = λ label. refl }

uses_kind : KindOf (stmt_uses block_name) false
uses_kind = record { loops = λ label body. refl; blocks = λ label body. refl; breaks = λ label. refl; continues = λ label. refl }

loop_named : (around : List (List ℕ)) (s : Stmt) → is_loop (numbered_stmt around s) ≡ is_loop s
loop_named around (Assign p e) = refl
loop_named around (Eval e) = refl
loop_named around (CopyBytes source target count) = refl
loop_named around (If condition if_true if_false) = refl
loop_named around (Loop None body) = refl
loop_named around (Loop (Some label) body) = refl
loop_named around (Block label body) = refl
loop_named around (Break label) = refl
loop_named around (Continue label) = refl
loop_named around (Match e cases other) = refl
loop_named around (Return value) = refl

match_named : (around : List (List ℕ)) (s : Stmt) → is_match (numbered_stmt around s) ≡ is_match s
match_named around (Assign p e) = refl
match_named around (Eval e) = refl
match_named around (CopyBytes source target count) = refl
match_named around (If condition if_true if_false) = refl
match_named around (Loop None body) = refl
match_named around (Loop (Some label) body) = refl
match_named around (Block label body) = refl
match_named around (Break label) = refl
match_named around (Continue label) = refl
match_named around (Match e cases other) = refl
match_named around (Return value) = refl

uses_named : (around : List (List ℕ)) (s : Stmt) → stmt_uses block_name (numbered_stmt around s) ≡ stmt_uses block_name s
uses_named around (Assign p e) = refl
uses_named around (Eval e) = refl
uses_named around (CopyBytes source target count) = refl
uses_named around (If condition if_true if_false) = refl
uses_named around (Loop None body) = refl
uses_named around (Loop (Some label) body) = refl
uses_named around (Block label body) = refl
uses_named around (Break label) = refl
uses_named around (Continue label) = refl
uses_named around (Match e cases other) = refl
uses_named around (Return None) = refl
uses_named around (Return (Some value)) = refl

-- ---- the nodes

-- of what is found, where it holds of each node
of_found : (A : NodeTree → Type 0) (flow : FlowTree) → ((number : ℕ) (node : NodeTree) → node_at flow number ≡ Some node → A node) → (Of : Option NodeTree → Type 0) → Of None →
    ((node : NodeTree) → A node → Of (Some node)) → (number : ℕ) → Of (node_at flow number)
of_found A flow holds Of none some number = by_found (node_at flow number) refl
  where
    by_found : (found : Option NodeTree) → node_at flow number ≡ found → Of found
    by_found None is = none
    by_found (Some node) is = some node (holds number node is)

loop_branch : (last : BranchTree) → BranchIs is_loop (λ one. 0) last
loop_branch (go to) = refl
loop_branch (if_test test if_true if_false) = ((λ a b. refl, λ a b. refl), refl)
loop_branch (switch choices) = λ cases other. refl
loop_branch (gives value) = refl

loop_nodes : (flow : FlowTree) → BodiesWithout is_loop flow → (number : ℕ) → FoundIs is_loop (λ one. 0) (node_at flow number)
loop_nodes flow none = of_found (λ node. count_of is_loop node.body ≡ 0) flow none (FoundIs is_loop (λ one. 0)) tt (λ node is. (is, loop_branch node.last))

match_branch : (last : BranchTree) → BranchIs is_match branch_switches last
match_branch (go to) = refl
match_branch (if_test test if_true if_false) = ((λ a b. refl, λ a b. refl), refl)
match_branch (switch choices) = λ cases other. refl
match_branch (gives value) = refl

match_nodes : (flow : FlowTree) → BodiesWithout is_match flow → (number : ℕ) → FoundIs is_match branch_switches (node_at flow number)
match_nodes flow none = of_found (λ node. count_of is_match node.body ≡ 0) flow none (FoundIs is_match branch_switches) tt (λ node is. (is, match_branch node.last))

compared_unused : (x : List ℕ) (left right : Expr) (operator : Operator) → expr_uses x (compared_by left right operator (opposite operator)) ≡ expr_uses x (Binary left operator right)
compared_unused x left right Equal = refl
compared_unused x left right NotEqual = refl
compared_unused x left right Less = refl
compared_unused x left right LessEqual = refl
compared_unused x left right Greater = refl
compared_unused x left right GreaterEqual = refl
compared_unused x left right Add = refl
compared_unused x left right Sub = refl
compared_unused x left right Mul = refl
compared_unused x left right Div = refl
compared_unused x left right Rem = refl
compared_unused x left right BitAnd = refl
compared_unused x left right BitOr = refl
compared_unused x left right BitXor = refl
compared_unused x left right Shl = refl
compared_unused x left right Shr = refl

negated_unused : (x : List ℕ) (e : Expr) → expr_uses x (negated e) ≡ expr_uses x e
negated_unused x (Not e) = refl
negated_unused x (Binary left operator right) = compared_unused x left right operator
negated_unused x (Literal value ty) = refl
negated_unused x (Truth value) = refl
negated_unused x NoFunction = refl
negated_unused x (Read p) = refl
negated_unused x (Call m y args) = refl
negated_unused x (CallBy e args) = refl
negated_unused x (Wrapped e op arg) = refl
negated_unused x (WrappingNeg e) = refl
negated_unused x (Offset e arg) = refl
negated_unused x (OffsetFrom e arg) = refl
negated_unused x (IsNull e) = refl
negated_unused x (IsNone e) = refl
negated_unused x (AddressOf p) = refl
negated_unused x (NullPointer ty) = refl
negated_unused x (SomeFunction m y params result) = refl
negated_unused x (Transmute from to e) = refl
negated_unused x (Neg e) = refl
negated_unused x (Cast e ty) = refl
negated_unused x (And left right) = refl
negated_unused x (Or left right) = refl
negated_unused x (Choose condition if_true if_false) = refl

uses_branch : (last : BranchTree) → branch_uses block_name last ≡ false → BranchIs (stmt_uses block_name) (λ one. 0) last
uses_branch (go to) unused = refl
uses_branch (if_test test if_true if_false) unused = ((λ a b. unused, λ a b. negated_unused block_name test ∙ unused), refl)
uses_branch (switch choices) unused = λ cases other. ap one_if unused
uses_branch (gives None) unused = refl
uses_branch (gives (Some value)) unused = ap one_if unused

uses_nodes : (flow : FlowTree) → IsUnused flow → (number : ℕ) → FoundIs (stmt_uses block_name) (λ one. 0) (node_at flow number)
uses_nodes flow unused =
    of_found (λ node. (count_of (stmt_uses block_name) node.body ≡ 0) × (branch_uses block_name node.last ≡ false)) flow (λ number node is. (unused.bodies number node is, unused.branches number node is))
    (FoundIs (stmt_uses block_name) (λ one. 0)) tt (λ node both. (both.0, uses_branch node.last both.1))

-- nodes that count for nothing
no_count : (is : Stmt → Bool) (found : Option NodeTree) → found_count is (λ one. 0) found ≡ 0
no_count is None = refl
no_count is (Some node) = refl

-- ---- the law

module _ (flow : FlowTree) (shape : ShapeTree) (fits : IsFit (graph_of flow) shape) where
  block_told : has_dispatch shape ≡ true → 0 < count_of (stmt_uses block_name) (emitted flow shape)
  block_told has =
      let same = emitted_count flow shape fits (stmt_uses block_name) uses_named refl in
      let weight = nests_weight (λ node. 0) (λ heads. 1) 0 (λ heads. 0) flow shape fits in
      let some = dispatch_weight shape has in
      let named = draft_uses flow (nests_of flow shape) (nests_cover flow shape fits) (omega (arith, weight, some)) in omega (arith, same, named)

  block_untold : IsUnused flow → has_dispatch shape ≡ false → count_of (stmt_uses block_name) (emitted flow shape) ≡ 0
  block_untold unused none =
      let all = exact flow shape fits (stmt_uses block_name) uses_named refl false uses_kind (λ one. 0) (uses_nodes flow unused) none in
      let nodes = no_sum (of_number flow (stmt_uses block_name) false uses_kind (λ one. 0) (uses_nodes flow unused)) (λ node. no_count (stmt_uses block_name) (node_at flow node)) (nodes_in shape) in
      let rest = nothing_weight shape in omega (arith, all, nodes, rest)

  all_loops : BodiesWithout is_loop flow → has_dispatch shape ≡ false → count_of is_loop (emitted flow shape) ≡ rounds_of shape
  all_loops without none =
      let all = exact flow shape fits is_loop loop_named refl true loop_kind (λ one. 0) (loop_nodes flow without) none in
      let nodes = no_sum (of_number flow is_loop true loop_kind (λ one. 0) (loop_nodes flow without)) (λ node. no_count is_loop (node_at flow node)) (nodes_in shape) in
      let rest = rounds_weight shape in omega (arith, all, nodes, rest)

  all_matches : BodiesWithout is_match flow → has_dispatch shape ≡ false → count_of is_match (emitted flow shape) ≡ switches flow.nodes
  all_matches without none =
      let of_node = of_number flow is_match false match_kind branch_switches (match_nodes flow without) in
      let all = exact flow shape fits is_match match_named refl false match_kind branch_switches (match_nodes flow without) none in
      let nodes = sum_below of_node (length flow.nodes) (nodes_in shape) (node_less flow shape fits) in
      let once = each_once of_node (length flow.nodes) (nodes_in shape) (λ node less. fits.nodes.each node (is_node node less)) in
      let found = each_node (found_count is_match branch_switches) (λ node. branch_switches node.last) (λ node. refl) flow.nodes in
      let same = sum_switches flow.nodes in
      let rest = nothing_weight shape in omega (arith, all, nodes, once, found, same, rest)
    where
      length_map : (nodes : List NodeTree) → length (map node_targets nodes) ≡ length nodes
      length_map [] = refl
      length_map (node ∷ nodes) = ap suc (length_map nodes)

      is_node : (node : ℕ) → node < length flow.nodes → IsNode (graph_of flow) node
      is_node node less = let same = length_map flow.nodes in omega (arith, less, same)

      sum_switches : (nodes : List NodeTree) → sum_nodes (λ node. branch_switches node.last) nodes ≡ switches nodes
      sum_switches [] = refl
      sum_switches (node ∷ nodes) = ap (λ (rest : ℕ). branch_switches node.last + rest) (sum_switches nodes)

  no_loops : BodiesWithout is_loop flow → goes_round shape ≡ false → count_of is_loop (emitted flow shape) ≡ 0
  no_loops without straight = let none = straight_rounds shape straight in all_loops without none.1 ∙ none.0

pub text_shaped : TextShaped
text_shaped = record { told = block_told; untold = block_untold; loops = all_loops; matches = all_matches; straight = no_loops }
