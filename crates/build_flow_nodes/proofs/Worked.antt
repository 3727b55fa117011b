-- Worked examples: bodies of C as flows (ISO C99, 6.8). Nodes are numbered in the order of the text.
use Rattle.std.specs.Prelude.{◌≡◌, ℕ, pos, negsuc, true, false, List, [], ◌∷◌, Some, None, codes, refl}
use Rattle.std.specs.Fmt.{digits}
use Rattle.build_flow_nodes.specs.Example.{stands, list, all, all_with, empty, does, when, when_else, choose, at_value, at_others, labelled, go_to, as_long, do_as_long, turns, leave, go_on, return, return_of, declare, declare_as, x_be, f, x_be_f, s, make, giving_int, giving_nothing, beside_bits, node, flow, goes_at, by_n, whole, read, holds, stores, x_is, t_is_f}
use Rattle.build_flow_nodes.specs.Flows.{flow_of}
use Rattle.cx_core.specs.declared.expr.Op2.TheVariants as op2
use Rattle.cx_core.specs.Trees.{CExpr, CStmt, stmt, case, for_loop}
use Rattle.flow.specs.Flows.{go, if_test, switch, gives}
use Rattle.lift_held.specs.Example.{at, int, long, member_at, number, converted, value_of, two, set, step_behind, statement, c, d, i, n, x, y}
use Rattle.rs_text.specs.declared.integer.IntegerTy.TheVariants.{I32, I64}
use Rattle.rs_text.specs.declared.operator.Operator.TheVariants.{Add, Sub, Equal, Less, Greater}
use Rattle.rs_text.specs.Tree.{Integer, Expr, Binary, Cast, Stmt}

-- ---- parts of bodies

abbrev pub c_holds : CExpr
c_holds = value_of c

abbrev pub d_holds : CExpr
d_holds = value_of d

abbrev pub n_value : CExpr
n_value = value_of n

abbrev pub x_value : CExpr
x_value = value_of x

abbrev pub is : CExpr → ℕ → CExpr
is of value = two op2.Equal int (value_of of) (number (pos value))

-- `i < n`, `n > 0` and `x > 3`
abbrev pub i_below_n : CExpr
i_below_n = two op2.Less int (value_of i) (value_of n)

abbrev pub above : CExpr → ℕ → CExpr
above of value = two op2.Greater int (value_of of) (number (pos value))

-- `x = x + e;`
abbrev pub x_more : CExpr → CStmt
x_more by = does (set x (two op2.Add int (value_of x) by))

-- `i = 0;`, `i++` as the third expression of a `for`, whose value isn't used (6.8.5.3p1), and `n--;`
abbrev pub i_be_0 : CStmt
i_be_0 = does (set i (number (pos 0)))

abbrev pub i_up : CExpr
i_up = statement (step_behind true i)

abbrev pub n_down : CStmt
n_down = does (step_behind false n)

abbrev pub return_x : CStmt
return_x = return_of x_value

-- ---- parts of nodes

abbrev pub r_x : Expr
r_x = read (codes "x")

abbrev pub r_n : Expr
r_n = read (codes "n")

abbrev pub r_y : Expr
r_y = read (codes "y")

abbrev pub y_is : ℕ → Stmt
y_is value = stores (codes "y") (whole value)

abbrev pub i_less_n : Expr
i_less_n = Binary (read (codes "i")) Less r_n

abbrev pub equals : List ℕ → ℕ → Expr
equals name value = Binary (read name) Equal (whole value)

abbrev pub greater : List ℕ → ℕ → Expr
greater name value = Binary (read name) Greater (whole value)

abbrev pub i_is_0 : Stmt
i_is_0 = stores (codes "i") (whole 0)

abbrev pub i_more : Stmt
i_more = stores (codes "i") (Binary (read (codes "i")) Add (whole 1))

abbrev pub n_less : Stmt
n_less = stores (codes "n") (Binary r_n Sub (whole 1))

abbrev pub x_adds : Expr → Stmt
x_adds e = stores (codes "x") (Binary r_x Add e)

-- ---- `return 0;`

zero_alone : flow_of giving_int (all (return_of (number (pos 0)) ∷ [])) ≡ flow (node [] (gives (Some (whole 0))) ∷ [])
zero_alone = refl

-- ---- `x = 1; return x;`

abbrev pub straight : CStmt
straight = all (x_be 1 ∷ return_x ∷ [])

straight_flows : flow_of giving_int straight ≡ flow (node (x_is 1 ∷ []) (gives (Some r_x)) ∷ [])
straight_flows = refl

-- ---- `if (c) x = 1; else x = 2; return x;`

abbrev pub sides : CStmt
sides = all (when_else c_holds (x_be 1) (x_be 2) ∷ return_x ∷ [])

sides_flows : flow_of giving_int sides
    ≡ flow (node [] (if_test (holds (codes "c")) 1 2) ∷ node (x_is 1 ∷ []) (go 3) ∷ node (x_is 2 ∷ []) (go 3) ∷ node [] (gives (Some r_x)) ∷ [])
sides_flows = refl

-- ---- `while (n) n--; return n;`

abbrev pub counted : CStmt
counted = all (as_long n_value n_down ∷ return_of n_value ∷ [])

counted_flows : flow_of giving_int counted
    ≡ flow (node [] (go 1) ∷ node [] (if_test (holds (codes "n")) 2 3) ∷ node (n_less ∷ []) (go 1) ∷ node [] (gives (Some r_n)) ∷ [])
counted_flows = refl

-- ---- `for (i = 0; i < n; i++) { if (i == 3) continue; if (i == 7) break; x = x + i; } return x;`

abbrev pub jumping : CStmt
jumping = all (turns (i_be_0 ∷ []) (Some i_below_n) (Some i_up) (all (when (is i 3) go_on ∷ when (is i 7) leave ∷ x_more (value_of i) ∷ [])) ∷ return_x ∷ [])

jumping_flows : flow_of giving_int jumping
    ≡ flow (
    node (i_is_0 ∷ []) (go 1)
    ∷ node [] (if_test i_less_n 2 8)
    ∷ node [] (if_test (equals (codes "i") 3) 3 4)
    ∷ node [] (go 7)
    ∷ node [] (if_test (equals (codes "i") 7) 5 6)
    ∷ node [] (go 8)
    ∷ node (x_adds (read (codes "i")) ∷ []) (go 7)
    ∷ node (i_more ∷ []) (go 1)
    ∷ node [] (gives (Some r_x)) ∷ [])
jumping_flows = refl

-- ---- `for (i = 0; i < n; i++) x = x + i; return x;`: the third expression stands behind the body

added_flows : flow_of giving_int (all (turns (i_be_0 ∷ []) (Some i_below_n) (Some i_up) (x_more (value_of i)) ∷ return_x ∷ []))
    ≡ flow (node (i_is_0 ∷ []) (go 1) ∷ node [] (if_test i_less_n 2 3) ∷ node (x_adds (read (codes "i")) ∷ i_more ∷ []) (go 1) ∷ node [] (gives (Some r_x)) ∷ [])
added_flows = refl

-- ---- `for (;;) { x = x + 1; if (x > 3) break; } return x;`, and `for (;;) ;`, which isn't left

for_ever_flows : flow_of giving_int (all (turns [] None None (all (x_more (number (pos 1)) ∷ when (above x 3) leave ∷ [])) ∷ return_x ∷ []))
    ≡ flow (node [] (go 1) ∷ node (x_adds (whole 1) ∷ []) (if_test (greater (codes "x") 3) 2 1) ∷ node [] (go 3) ∷ node [] (gives (Some r_x)) ∷ [])
for_ever_flows = refl

spinning_flows : flow_of giving_int (all (turns [] None None empty ∷ return_x ∷ [])) ≡ flow (node [] (go 1) ∷ node [] (go 1) ∷ [])
spinning_flows = refl

-- ---- `do { n--; if (n == 2) continue; x = x + n; } while (n > 0); return x;`

abbrev pub done_once : CStmt
done_once = all (do_as_long (all (n_down ∷ when (is n 2) go_on ∷ x_more n_value ∷ [])) (above n 0) ∷ return_x ∷ [])

done_once_flows : flow_of giving_int done_once
    ≡ flow (
    node [] (go 1)
    ∷ node (n_less ∷ []) (if_test (equals (codes "n") 2) 2 3)
    ∷ node [] (go 4)
    ∷ node (x_adds r_n ∷ []) (go 4)
    ∷ node [] (if_test (greater (codes "n") 0) 1 5)
    ∷ node [] (gives (Some r_x)) ∷ [])
done_once_flows = refl

-- ---- `do { while (c) continue; x = 1; } while (d); return x;`: a `continue` is of the innermost loop (6.8.6.2)

inner_continue_flows : flow_of giving_int (all (do_as_long (all (as_long c_holds go_on ∷ x_be 1 ∷ [])) d_holds ∷ return_x ∷ []))
    ≡ flow (
    node [] (go 1)
    ∷ node [] (go 2)
    ∷ node [] (if_test (holds (codes "c")) 3 4)
    ∷ node [] (go 2)
    ∷ node (x_is 1 ∷ []) (if_test (holds (codes "d")) 1 5)
    ∷ node [] (gives (Some r_x)) ∷ [])
inner_continue_flows = refl

-- ---- `do { x = 1; break; } while (c); return x;`: the condition isn't reached

never_again_flows : flow_of giving_int (all (do_as_long (all (x_be 1 ∷ leave ∷ [])) c_holds ∷ return_x ∷ []))
    ≡ flow (node [] (go 1) ∷ node (x_is 1 ∷ []) (go 2) ∷ node [] (gives (Some r_x)) ∷ [])
never_again_flows = refl

-- ---- `switch (n) { case 1: x = 1; break; case 2: x = 2; default: x = 3; } return x;`

abbrev pub fall_through : CStmt
fall_through =
    all (choose n_value (all (at_value 1 (x_be 1) ∷ leave ∷ at_value 2 (x_be 2) ∷ at_others (x_be 3) ∷ [])) ∷ return_x ∷ [])

fall_through_flows : flow_of giving_int fall_through
    ≡ flow (
    node [] (switch (by_n (goes_at 1 1 ∷ goes_at 2 2 ∷ []) 3))
    ∷ node (x_is 1 ∷ []) (go 4)
    ∷ node (x_is 2 ∷ []) (go 3)
    ∷ node (x_is 3 ∷ []) (go 4)
    ∷ node [] (gives (Some r_x)) ∷ [])
fall_through_flows = refl

-- ---- `switch (n) { case 1: case 2: x = 1; break; default: ; } return x;`: a statement with two labels, and nothing at the third

two_labels_flows : flow_of giving_int (all (choose n_value (all (at_value 1 (at_value 2 (x_be 1)) ∷ leave ∷ at_others empty ∷ [])) ∷ return_x ∷ []))
    ≡ flow (
    node [] (switch (by_n (goes_at 1 1 ∷ goes_at 2 2 ∷ []) 3))
    ∷ node [] (go 2)
    ∷ node (x_is 1 ∷ []) (go 4)
    ∷ node [] (go 4)
    ∷ node [] (gives (Some r_x)) ∷ [])
two_labels_flows = refl

-- ---- `while (c) { if (d) goto out; x = 1; } x = 2; out: return x;`

abbrev pub left_far : CStmt
left_far = all (as_long c_holds (all (when d_holds (go_to (codes "out")) ∷ x_be 1 ∷ [])) ∷ x_be 2 ∷ labelled (codes "out") return_x ∷ [])

left_far_flows : flow_of giving_int left_far
    ≡ flow (
    node [] (go 1)
    ∷ node [] (if_test (holds (codes "c")) 2 5)
    ∷ node [] (if_test (holds (codes "d")) 3 4)
    ∷ node [] (go 6)
    ∷ node (x_is 1 ∷ []) (go 1)
    ∷ node (x_is 2 ∷ []) (go 6)
    ∷ node [] (gives (Some r_x)) ∷ [])
left_far_flows = refl

-- ---- `if (c) goto l; { int y = 5; l: x = y; } return x;`: a jump into a block past a declaration (6.2.4p5, 6.8.6.1)

abbrev pub entered : CStmt
entered = all (when c_holds (go_to (codes "l")) ∷ all_with (7 ∷ []) (declare_as 7 (number (pos 5)) ∷ labelled (codes "l") (does (set x (value_of y))) ∷ []) ∷ return_x ∷ [])

entered_flows : flow_of giving_int entered
    ≡ flow (
    node [] (if_test (holds (codes "c")) 1 2)
    ∷ node [] (go 3)
    ∷ node (stores (codes "y") (whole 5) ∷ []) (go 3)
    ∷ node (stores (codes "x") (read (codes "y")) ∷ []) (gives (Some r_x)) ∷ [])
entered_flows = refl

-- in a program with a bit-field member y is zero where its life begins, by the jump too, and where the declaration is reached
entered_beside_bits : flow_of beside_bits entered
    ≡ flow (
    node [] (if_test (holds (codes "c")) 1 2)
    ∷ node (stores (codes "y") (whole 0) ∷ []) (go 3)
    ∷ node (stores (codes "y") (whole 0) ∷ stores (codes "y") (whole 0) ∷ stores (codes "y") (whole 5) ∷ []) (go 3)
    ∷ node (stores (codes "x") (read (codes "y")) ∷ []) (gives (Some r_x)) ∷ [])
entered_beside_bits = refl

-- ---- `{ int y; l: y = 1; if (c) goto l; x = y; } return x;`: the block isn't entered again, so y lives on

abbrev pub backwards : CStmt
backwards =
    all (all_with (7 ∷ []) (declare 7 ∷ labelled (codes "l") (does (set y (number (pos 1)))) ∷ when c_holds (go_to (codes "l")) ∷ does (set x (value_of y)) ∷ []) ∷ return_x ∷ [])

backwards_beside_bits : flow_of beside_bits backwards
    ≡ flow (
    node (stores (codes "y") (whole 0) ∷ stores (codes "y") (whole 0) ∷ []) (go 1)
    ∷ node (stores (codes "y") (whole 1) ∷ []) (if_test (holds (codes "c")) 2 3)
    ∷ node [] (go 1)
    ∷ node (stores (codes "x") (read (codes "y")) ∷ []) (gives (Some r_x)) ∷ [])
backwards_beside_bits = refl

-- ---- `switch (n) { int y; case 1: y = 1; x = y; } return x;`: y lives in the body of the `switch`

abbrev pub chosen_into : CStmt
chosen_into = all (choose n_value (all_with (7 ∷ []) (declare 7 ∷ at_value 1 (does (set y (number (pos 1)))) ∷ does (set x (value_of y)) ∷ [])) ∷ return_x ∷ [])

chosen_into_flows : flow_of giving_int chosen_into
    ≡ flow (
    node [] (switch (by_n (goes_at 1 1 ∷ []) 2))
    ∷ node (stores (codes "y") (whole 1) ∷ stores (codes "x") (read (codes "y")) ∷ []) (go 2)
    ∷ node [] (gives (Some r_x)) ∷ [])
chosen_into_flows = refl

chosen_into_beside_bits : flow_of beside_bits chosen_into
    ≡ flow (
    node [] (switch (by_n (goes_at 1 1 ∷ []) 3))
    ∷ node (stores (codes "y") (whole 0) ∷ []) (go 2)
    ∷ node (stores (codes "y") (whole 1) ∷ stores (codes "x") (read (codes "y")) ∷ []) (go 3)
    ∷ node [] (gives (Some r_x)) ∷ [])
chosen_into_beside_bits = refl

-- ---- `return 1; while (c) x = 2;`: what stands behind isn't reached

behind_return : flow_of giving_int (all (return_of (number (pos 1)) ∷ as_long c_holds (x_be 2) ∷ [])) ≡ flow (node [] (gives (Some (whole 1))) ∷ [])
behind_return = refl

-- ---- `if (c) goto l; return 1; x = 2; l: x = 3; return x;`

labelled_behind_return : flow_of giving_int
    (all (when c_holds (go_to (codes "l")) ∷ return_of (number (pos 1)) ∷ x_be 2 ∷ labelled (codes "l") (x_be 3) ∷ return_x ∷ []))
    ≡ flow (
    node [] (if_test (holds (codes "c")) 1 2)
    ∷ node [] (go 3)
    ∷ node [] (gives (Some (whole 1)))
    ∷ node (x_is 3 ∷ []) (gives (Some r_x)) ∷ [])
labelled_behind_return = refl

-- ---- `switch (n) { case 1: x = 1; break; case 2: x = 2; } return x;`, without `default` (6.8.4.2p5)

no_default : flow_of giving_int (all (choose n_value (all (at_value 1 (x_be 1) ∷ leave ∷ at_value 2 (x_be 2) ∷ [])) ∷ return_x ∷ []))
    ≡ flow (
    node [] (switch (by_n (goes_at 1 1 ∷ goes_at 2 2 ∷ []) 3))
    ∷ node (x_is 1 ∷ []) (go 3)
    ∷ node (x_is 2 ∷ []) (go 3)
    ∷ node [] (gives (Some r_x)) ∷ [])
no_default = refl

-- ---- `switch (n) { x = 1; } return x;`: without labels its body isn't reached

no_labels : flow_of giving_int (all (choose n_value (all (x_be 1 ∷ [])) ∷ return_x ∷ []))
    ≡ flow (node [] (switch (by_n [] 1)) ∷ node [] (gives (Some r_x)) ∷ [])
no_labels = refl

-- ---- `switch (n) { default: switch (i) { case 1: x = 1; } break; case 2: x = 2; } return x;`: a label is of the innermost `switch` (6.8.4.2p2)

inner_switch : flow_of giving_int
    (all (choose n_value (all (at_others (choose (value_of i) (all (at_value 1 (x_be 1) ∷ []))) ∷ leave ∷ at_value 2 (x_be 2) ∷ [])) ∷ return_x ∷ []))
    ≡ flow (
    node [] (switch (by_n (goes_at 2 4 ∷ []) 1))
    ∷ node [] (switch (record { on = read (codes "i"); by = I32; cases = goes_at 1 2 ∷ []; other = 3 }))
    ∷ node (x_is 1 ∷ []) (go 3)
    ∷ node [] (go 5)
    ∷ node (x_is 2 ∷ []) (go 5)
    ∷ node [] (gives (Some r_x)) ∷ [])
inner_switch = refl

-- ---- `for (i = 0; i < n; i++) { switch (n) { case 1: continue; case 2: break; default: x = 1; } x = 2; } return x;`: `continue` leaves the `switch` for the loop, `break` doesn't

in_loop : flow_of giving_int
    (all (
    turns (i_be_0 ∷ []) (Some i_below_n) (Some i_up)
    (all (choose n_value (all (at_value 1 go_on ∷ at_value 2 leave ∷ at_others (x_be 1) ∷ [])) ∷ x_be 2 ∷ []))
    ∷ return_x ∷ []))
    ≡ flow (
    node (i_is_0 ∷ []) (go 1)
    ∷ node [] (if_test i_less_n 2 8)
    ∷ node [] (switch (by_n (goes_at 1 3 ∷ goes_at 2 4 ∷ []) 5))
    ∷ node [] (go 7)
    ∷ node [] (go 6)
    ∷ node (x_is 1 ∷ []) (go 6)
    ∷ node (x_is 2 ∷ []) (go 7)
    ∷ node (i_more ∷ []) (go 1)
    ∷ node [] (gives (Some r_x)) ∷ [])
in_loop = refl

-- ---- Duff's device: `switch (n) { case 0: do { x = 1; case 3: x = 2; } while (i < n); } return x;`

abbrev pub duff : CStmt
duff = all (choose n_value (all (at_value 0 (do_as_long (all (x_be 1 ∷ at_value 3 (x_be 2) ∷ [])) i_below_n) ∷ [])) ∷ return_x ∷ [])

duff_flows : flow_of giving_int duff
    ≡ flow (
    node [] (switch (by_n (goes_at 0 1 ∷ goes_at 3 3 ∷ []) 4))
    ∷ node [] (go 2)
    ∷ node (x_is 1 ∷ []) (go 3)
    ∷ node (x_is 2 ∷ []) (if_test i_less_n 2 4)
    ∷ node [] (gives (Some r_x)) ∷ [])
duff_flows = refl

-- ---- bodies that come to their end: `x = 1;`, `{}` and `if (c) x = 1;` (6.9.1p12)

void_ends : flow_of giving_nothing (all (x_be 1 ∷ [])) ≡ flow (node (x_is 1 ∷ []) (gives None) ∷ [])
void_ends = refl

int_ends : flow_of giving_int (all (x_be 1 ∷ [])) ≡ flow (node (x_is 1 ∷ []) (gives (Some (whole 0))) ∷ [])
int_ends = refl

nothing_done : flow_of giving_nothing (all []) ≡ flow (node [] (gives None) ∷ [])
nothing_done = refl

abbrev pub maybe : CStmt
maybe = all (when c_holds (x_be 1) ∷ [])

maybe_ends : flow_of giving_nothing maybe ≡ flow (node [] (if_test (holds (codes "c")) 1 2) ∷ node (x_is 1 ∷ []) (go 2) ∷ node [] (gives None) ∷ [])
maybe_ends = refl

-- ---- `if (c) return s; return make();`, a structure: its bytes are written to where the caller says

abbrev pub given_record : CStmt
given_record = all (when c_holds (return_of (value_of s)) ∷ return_of make ∷ [])

-- ---- `if (c) x = 1; else if (d) x = 2; return x;`

abbrev pub second_test : CStmt
second_test = all (when_else c_holds (x_be 1) (when d_holds (x_be 2)) ∷ return_x ∷ [])

second_test_flows : flow_of giving_int second_test
    ≡ flow (
    node [] (if_test (holds (codes "c")) 1 2)
    ∷ node (x_is 1 ∷ []) (go 4)
    ∷ node [] (if_test (holds (codes "d")) 3 4)
    ∷ node (x_is 2 ∷ []) (go 4)
    ∷ node [] (gives (Some r_x)) ∷ [])
second_test_flows = refl

-- ---- `while (c) if (d) x = 1; else break; return x;`

left_by_else : flow_of giving_int (all (as_long c_holds (when_else d_holds (x_be 1) leave) ∷ return_x ∷ []))
    ≡ flow (
    node [] (go 1)
    ∷ node [] (if_test (holds (codes "c")) 2 5)
    ∷ node [] (if_test (holds (codes "d")) 3 4)
    ∷ node (x_is 1 ∷ []) (go 1)
    ∷ node [] (go 5)
    ∷ node [] (gives (Some r_x)) ∷ [])
left_by_else = refl

-- ---- `{ ; { x = 1; } { } } ; x = 2; return x;`: blocks alone make no nodes

blocks_alone : flow_of giving_int (all (all (empty ∷ all (x_be 1 ∷ []) ∷ all [] ∷ []) ∷ empty ∷ x_be 2 ∷ return_x ∷ []))
    ≡ flow (node (x_is 1 ∷ x_is 2 ∷ []) (gives (Some r_x)) ∷ [])
blocks_alone = refl

-- ---- `while (c) { while (d) x = 1; } return x;`: the end of the inner loop is the end of a turn of the outer one

loop_in_loop : flow_of giving_int (all (as_long c_holds (all (as_long d_holds (x_be 1) ∷ [])) ∷ return_x ∷ []))
    ≡ flow (
    node [] (go 1)
    ∷ node [] (if_test (holds (codes "c")) 2 5)
    ∷ node [] (go 3)
    ∷ node [] (if_test (holds (codes "d")) 4 1)
    ∷ node (x_is 1 ∷ []) (go 3)
    ∷ node [] (gives (Some r_x)) ∷ [])
loop_in_loop = refl

-- ---- `for (i = 0; i < n; i++) { while (c) { if (d) break; continue; } x = 1; } return x;`: jumps of the inner loop alone, so the third expression stands behind the body

jumps_within : flow_of giving_int
    (all (
    turns (i_be_0 ∷ []) (Some i_below_n) (Some i_up) (all (as_long c_holds (all (when d_holds leave ∷ go_on ∷ [])) ∷ x_be 1 ∷ [])) ∷ return_x ∷ []))
    ≡ flow (
    node (i_is_0 ∷ []) (go 1)
    ∷ node [] (if_test i_less_n 2 8)
    ∷ node [] (go 3)
    ∷ node [] (if_test (holds (codes "c")) 4 7)
    ∷ node [] (if_test (holds (codes "d")) 5 6)
    ∷ node [] (go 7)
    ∷ node [] (go 3)
    ∷ node (x_is 1 ∷ i_more ∷ []) (go 1)
    ∷ node [] (gives (Some r_x)) ∷ [])
jumps_within = refl

-- ---- `l: n--; if (n) goto l; return n;`

abbrev pub again : CStmt
again = all (labelled (codes "l") n_down ∷ when n_value (go_to (codes "l")) ∷ return_of n_value ∷ [])

again_flows : flow_of giving_int again
    ≡ flow (
    node [] (go 1)
    ∷ node (n_less ∷ []) (if_test (holds (codes "n")) 2 3)
    ∷ node [] (go 1)
    ∷ node [] (gives (Some r_n)) ∷ [])
again_flows = refl

-- ---- `while (c) { if (d) goto l; x = 1; l: ; } return x;`: a label at the end of a turn

abbrev pub turn_end : CStmt
turn_end = all (as_long c_holds (all (when d_holds (go_to (codes "l")) ∷ x_be 1 ∷ labelled (codes "l") empty ∷ [])) ∷ return_x ∷ [])

turn_end_flows : flow_of giving_int turn_end
    ≡ flow (
    node [] (go 1)
    ∷ node [] (if_test (holds (codes "c")) 2 6)
    ∷ node [] (if_test (holds (codes "d")) 3 4)
    ∷ node [] (go 5)
    ∷ node (x_is 1 ∷ []) (go 5)
    ∷ node [] (go 1)
    ∷ node [] (gives (Some r_x)) ∷ [])
turn_end_flows = refl

-- ---- `goto l; while (c) { x = 1; l: x = 2; } return x;`: a loop that is entered inside

abbrev pub entered_inside : CStmt
entered_inside = all (go_to (codes "l") ∷ as_long c_holds (all (x_be 1 ∷ labelled (codes "l") (x_be 2) ∷ [])) ∷ return_x ∷ [])

entered_inside_flows : flow_of giving_int entered_inside
    ≡ flow (
    node [] (go 3)
    ∷ node [] (if_test (holds (codes "c")) 2 4)
    ∷ node (x_is 1 ∷ []) (go 3)
    ∷ node (x_is 2 ∷ []) (go 1)
    ∷ node [] (gives (Some r_x)) ∷ [])
entered_inside_flows = refl

-- ---- `if (c) { l: x = 1; } else { x = 2; goto l; } return x;`: from one side of an `if` to the other

across : flow_of giving_int (all (when_else c_holds (all (labelled (codes "l") (x_be 1) ∷ [])) (all (x_be 2 ∷ go_to (codes "l") ∷ [])) ∷ return_x ∷ []))
    ≡ flow (
    node [] (if_test (holds (codes "c")) 1 3)
    ∷ node [] (go 2)
    ∷ node (x_is 1 ∷ []) (go 4)
    ∷ node (x_is 2 ∷ []) (go 2)
    ∷ node [] (gives (Some r_x)) ∷ [])
across = refl

-- ---- `x = 1; l: x = 2; return x;`, a label to which nothing jumps

abbrev pub unused_label : CStmt
unused_label = all (x_be 1 ∷ labelled (codes "l") (x_be 2) ∷ return_x ∷ [])

unused_label_flows : flow_of giving_int unused_label ≡ flow (node (x_is 1 ∷ []) (go 1) ∷ node (x_is 2 ∷ []) (gives (Some r_x)) ∷ [])
unused_label_flows = refl

-- ---- `goto l; m: x = 1; l: return x; goto m;`: a label to which only what isn't reached jumps

unreached_jump : flow_of giving_int (all (go_to (codes "l") ∷ labelled (codes "m") (x_be 1) ∷ labelled (codes "l") return_x ∷ go_to (codes "m") ∷ []))
    ≡ flow (node [] (go 1) ∷ node [] (gives (Some r_x)) ∷ [])
unreached_jump = refl

-- ---- `switch (n) { case 1: x = 1; break; default: x = 3; case 2: x = 2; } return x;`, with `default` in front of another label

abbrev pub default_between : CStmt
default_between = all (choose n_value (all (at_value 1 (x_be 1) ∷ leave ∷ at_others (x_be 3) ∷ at_value 2 (x_be 2) ∷ [])) ∷ return_x ∷ [])

default_between_flows : flow_of giving_int default_between
    ≡ flow (
    node [] (switch (by_n (goes_at 1 1 ∷ goes_at 2 3 ∷ []) 2))
    ∷ node (x_is 1 ∷ []) (go 4)
    ∷ node (x_is 3 ∷ []) (go 3)
    ∷ node (x_is 2 ∷ []) (go 4)
    ∷ node [] (gives (Some r_x)) ∷ [])
default_between_flows = refl

-- ---- `switch (n) { case 1: if (c) { case 2: x = 1; } x = 2; } return x;`: a label deeper in the body

deeper_case : flow_of giving_int (all (choose n_value (all (at_value 1 (when c_holds (all (at_value 2 (x_be 1) ∷ []))) ∷ x_be 2 ∷ [])) ∷ return_x ∷ []))
    ≡ flow (
    node [] (switch (by_n (goes_at 1 1 ∷ goes_at 2 3 ∷ []) 5))
    ∷ node [] (if_test (holds (codes "c")) 2 4)
    ∷ node [] (go 3)
    ∷ node (x_is 1 ∷ []) (go 4)
    ∷ node (x_is 2 ∷ []) (go 5)
    ∷ node [] (gives (Some r_x)) ∷ [])
deeper_case = refl

-- ---- `switch ((long) f()) case -1: x = 1; return x;`: the operand is evaluated once, and has its own type

wide_operand : flow_of giving_int (all (choose (converted long f) (stands (case (negsuc 0) (x_be 1))) ∷ return_x ∷ []))
    ≡ flow (
    node (t_is_f (codes "t") ∷ [])
    (switch (record { on = Cast (read (codes "t")) (Integer I64); by = I64; cases = record { value = negsuc 0; to = 1 } ∷ []; other = 2 }))
    ∷ node (x_is 1 ∷ []) (go 2)
    ∷ node [] (gives (Some r_x)) ∷ [])
unfolding digits
wide_operand = refl

-- ---- `do { if (d) x = 1; } while (c); return x;`: the condition is reached from both sides of the `if`

tested_by_both : flow_of giving_int (all (do_as_long (all (when d_holds (x_be 1) ∷ [])) c_holds ∷ return_x ∷ []))
    ≡ flow (
    node [] (go 1)
    ∷ node [] (if_test (holds (codes "d")) 2 3)
    ∷ node (x_is 1 ∷ []) (go 3)
    ∷ node [] (if_test (holds (codes "c")) 1 4)
    ∷ node [] (gives (Some r_x)) ∷ [])
tested_by_both = refl

-- ---- `for (; i < n; ) { if (c) continue; x = 1; } return x;`: without a third expression `continue` goes to the condition

no_third : flow_of giving_int (all (turns [] (Some i_below_n) None (all (when c_holds go_on ∷ x_be 1 ∷ [])) ∷ return_x ∷ []))
    ≡ flow (
    node [] (go 1)
    ∷ node [] (if_test i_less_n 2 5)
    ∷ node [] (if_test (holds (codes "c")) 3 4)
    ∷ node [] (go 1)
    ∷ node (x_is 1 ∷ []) (go 1)
    ∷ node [] (gives (Some r_x)) ∷ [])
no_third = refl

-- ---- `switch (n) { case 0: while (c) { x = 1; break; case 1: continue; } x = 2; } return x;`: in the loop both jumps are the loop's

case_in_loop : flow_of giving_int
    (all (
    choose n_value (all (at_value 0 (as_long c_holds (all (x_be 1 ∷ leave ∷ at_value 1 go_on ∷ []))) ∷ x_be 2 ∷ []))
    ∷ return_x ∷ []))
    ≡ flow (
    node [] (switch (by_n (goes_at 0 1 ∷ goes_at 1 4 ∷ []) 6))
    ∷ node [] (go 2)
    ∷ node [] (if_test (holds (codes "c")) 3 5)
    ∷ node (x_is 1 ∷ []) (go 5)
    ∷ node [] (go 2)
    ∷ node (x_is 2 ∷ []) (go 6)
    ∷ node [] (gives (Some r_x)) ∷ [])
case_in_loop = refl

-- ---- `goto l; switch (n) { case 1: x = 1; l: x = 2; break; } return x;`: the operand and its label aren't reached

past_operand : flow_of giving_int
    (all (go_to (codes "l") ∷ choose n_value (all (at_value 1 (x_be 1) ∷ labelled (codes "l") (x_be 2) ∷ leave ∷ [])) ∷ return_x ∷ []))
    ≡ flow (node [] (go 1) ∷ node (x_is 2 ∷ []) (go 2) ∷ node [] (gives (Some r_x)) ∷ [])
past_operand = refl

-- ---- `if (c) return; x = 1;`, in a function without a result

abbrev pub early : CStmt
early = all (when c_holds return ∷ x_be 1 ∷ [])

early_flows : flow_of giving_nothing early
    ≡ flow (node [] (if_test (holds (codes "c")) 1 2) ∷ node [] (gives None) ∷ node (x_is 1 ∷ []) (gives None) ∷ [])
early_flows = refl

-- ---- `while (c) { if (d) return; x = 1; }`, in a function without a result

abbrev pub left_by_return : CStmt
left_by_return = all (as_long c_holds (all (when d_holds return ∷ x_be 1 ∷ [])) ∷ [])

left_by_return_flows : flow_of giving_nothing left_by_return
    ≡ flow (
    node [] (go 1)
    ∷ node [] (if_test (holds (codes "c")) 2 5)
    ∷ node [] (if_test (holds (codes "d")) 3 4)
    ∷ node [] (gives None)
    ∷ node (x_is 1 ∷ []) (go 1)
    ∷ node [] (gives None) ∷ [])
left_by_return_flows = refl

-- ---- `for (int y = 0; y < n; y++) x = x + y; return x;`: y lives as long as the loop (6.8.5p5)

abbrev pub own_counter : CStmt
own_counter =
    all (stmt at (7 ∷ []) (for_loop (list (declare_as 7 (number (pos 0)) ∷ [])) (Some (two op2.Less int (value_of y) n_value)) (Some (statement (step_behind true y))) (x_more (value_of y)))
    ∷ return_x ∷ [])

own_counter_flows : flow_of giving_int own_counter
    ≡ flow (
    node (y_is 0 ∷ []) (go 1)
    ∷ node [] (if_test (Binary r_y Less r_n) 2 3)
    ∷ node (x_adds r_y ∷ stores (codes "y") (Binary r_y Add (whole 1)) ∷ []) (go 1)
    ∷ node [] (gives (Some r_x)) ∷ [])
own_counter_flows = refl

own_counter_beside_bits : flow_of beside_bits own_counter
    ≡ flow (
    node (y_is 0 ∷ y_is 0 ∷ y_is 0 ∷ []) (go 1)
    ∷ node [] (if_test (Binary r_y Less r_n) 2 3)
    ∷ node (x_adds r_y ∷ stores (codes "y") (Binary r_y Add (whole 1)) ∷ []) (go 1)
    ∷ node [] (gives (Some r_x)) ∷ [])
own_counter_beside_bits = refl

-- ---- `while (c) { int y; y = 1; x = y; } return x;`: y's life begins in each turn (6.2.4p5)

each_turn_beside_bits : flow_of beside_bits (all (as_long c_holds (all_with (7 ∷ []) (declare 7 ∷ does (set y (number (pos 1))) ∷ does (set x (value_of y)) ∷ [])) ∷ return_x ∷ []))
    ≡ flow (
    node [] (go 1)
    ∷ node [] (if_test (holds (codes "c")) 2 3)
    ∷ node (y_is 0 ∷ y_is 0 ∷ y_is 1 ∷ stores (codes "x") r_y ∷ []) (go 1)
    ∷ node [] (gives (Some r_x)) ∷ [])
each_turn_beside_bits = refl

-- ---- `{ int a; { int b; l: x = 1; } { int d; if (c) goto l; } } return x;`: of two blocks around the label one is entered by the jump

abbrev pub one_block : CStmt
one_block =
    all (
    all_with (0 ∷ [])
    (declare 0
    ∷ all_with (1 ∷ []) (declare 1 ∷ labelled (codes "l") (x_be 1) ∷ [])
    ∷ all_with (3 ∷ []) (declare 3 ∷ when c_holds (go_to (codes "l")) ∷ []) ∷ [])
    ∷ return_x ∷ [])

one_block_beside_bits : flow_of beside_bits one_block
    ≡ flow (
    node (stores (codes "a") (whole 0) ∷ stores (codes "a") (whole 0) ∷ stores (codes "b") (whole 0) ∷ stores (codes "b") (whole 0) ∷ []) (go 1)
    ∷ node (x_is 1 ∷ stores (codes "d") (whole 0) ∷ stores (codes "d") (whole 0) ∷ []) (if_test (holds (codes "c")) 2 3)
    ∷ node (stores (codes "b") (whole 0) ∷ []) (go 1)
    ∷ node [] (gives (Some r_x)) ∷ [])
one_block_beside_bits = refl

-- ---- `switch (n) { int a; { int b; case 1: case 2: x = 1; } default: ; } return x;`: the objects of both blocks begin on the way to each label that lies in both

two_blocks_beside_bits : flow_of beside_bits
    (all (
    choose n_value (all_with (0 ∷ []) (declare 0 ∷ all_with (1 ∷ []) (declare 1 ∷ at_value 1 (at_value 2 (x_be 1)) ∷ []) ∷ at_others empty ∷ []))
    ∷ return_x ∷ []))
    ≡ flow (
    node [] (switch (by_n (goes_at 1 1 ∷ goes_at 2 2 ∷ []) 3))
    ∷ node (stores (codes "a") (whole 0) ∷ stores (codes "b") (whole 0) ∷ []) (go 4)
    ∷ node (stores (codes "a") (whole 0) ∷ stores (codes "b") (whole 0) ∷ []) (go 5)
    ∷ node (stores (codes "a") (whole 0) ∷ []) (go 6)
    ∷ node [] (go 5)
    ∷ node (x_is 1 ∷ []) (go 6)
    ∷ node [] (go 7)
    ∷ node [] (gives (Some r_x)) ∷ [])
two_blocks_beside_bits = refl

-- ---- `struct node s; if (c) goto l; s.v = 1; l: return x;`, and `struct node s = { 1 }; return x;`

abbrev pub record_declared : CStmt
record_declared =
    all_with (9 ∷ [])
    (declare 9 ∷ when c_holds (go_to (codes "l")) ∷ does (set (member_at int s 0) (number (pos 1))) ∷ labelled (codes "l") return_x ∷ [])

abbrev pub record_filled : CStmt
record_filled = all_with (9 ∷ []) (declare_as 9 (number (pos 1)) ∷ return_x ∷ [])

-- ---- temporaries have numbers in the order of the text

-- `for (x = f(); f(); x = f()) x = f(); return f();`
turns_of_calls : flow_of giving_int (all (turns (x_be_f ∷ []) (Some f) (Some (statement (set x f))) x_be_f ∷ return_of f ∷ []))
    ≡ flow (
    node (t_is_f (codes "t") ∷ stores (codes "x") (read (codes "t")) ∷ []) (go 1)
    ∷ node (t_is_f (codes "t_0") ∷ []) (if_test (holds (codes "t_0")) 2 3)
    ∷ node (t_is_f (codes "t_2") ∷ stores (codes "x") (read (codes "t_2")) ∷ t_is_f (codes "t_1") ∷ stores (codes "x") (read (codes "t_1")) ∷ []) (go 1)
    ∷ node (t_is_f (codes "t_3") ∷ []) (gives (Some (read (codes "t_3")))) ∷ [])
unfolding digits
turns_of_calls = refl

-- `do x = f(); while (f()); if (f()) x = f(); else x = f(); return x;`
others_of_calls : flow_of giving_int (all (do_as_long x_be_f f ∷ when_else f x_be_f x_be_f ∷ return_x ∷ []))
    ≡ flow (
    node [] (go 1)
    ∷ node (t_is_f (codes "t") ∷ stores (codes "x") (read (codes "t")) ∷ t_is_f (codes "t_0") ∷ []) (if_test (holds (codes "t_0")) 1 2)
    ∷ node (t_is_f (codes "t_1") ∷ []) (if_test (holds (codes "t_1")) 3 4)
    ∷ node (t_is_f (codes "t_2") ∷ stores (codes "x") (read (codes "t_2")) ∷ []) (go 5)
    ∷ node (t_is_f (codes "t_3") ∷ stores (codes "x") (read (codes "t_3")) ∷ []) (go 5)
    ∷ node [] (gives (Some r_x)) ∷ [])
unfolding digits
others_of_calls = refl

-- `goto l; x = f(); l: return f();`: what isn't reached keeps its numbers
skipped_call : flow_of giving_int (all (go_to (codes "l") ∷ x_be_f ∷ labelled (codes "l") (return_of f) ∷ []))
    ≡ flow (node [] (go 1) ∷ node (t_is_f (codes "t_0") ∷ []) (gives (Some (read (codes "t_0")))) ∷ [])
unfolding digits
skipped_call = refl

-- `int y = f(); while (f()) x = f(); switch (f()) { case 1: x = f(); } return f();`
calls_everywhere : flow_of giving_int
    (all_with (7 ∷ []) (declare_as 7 f ∷ as_long f x_be_f ∷ choose f (all (at_value 1 x_be_f ∷ [])) ∷ return_of f ∷ []))
    ≡ flow (
    node (t_is_f (codes "t") ∷ stores (codes "y") (read (codes "t")) ∷ []) (go 1)
    ∷ node (t_is_f (codes "t_0") ∷ []) (if_test (holds (codes "t_0")) 2 3)
    ∷ node (t_is_f (codes "t_1") ∷ stores (codes "x") (read (codes "t_1")) ∷ []) (go 1)
    ∷ node (t_is_f (codes "t_2") ∷ []) (switch (record { on = read (codes "t_2"); by = I32; cases = goes_at 1 4 ∷ []; other = 5 }))
    ∷ node (t_is_f (codes "t_3") ∷ stores (codes "x") (read (codes "t_3")) ∷ []) (go 5)
    ∷ node (t_is_f (codes "t_4") ∷ []) (gives (Some (read (codes "t_4")))) ∷ [])
unfolding digits
calls_everywhere = refl
