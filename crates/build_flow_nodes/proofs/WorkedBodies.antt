-- Worked examples: the flows of some bodies, with the text of each node's statements and of what its branch asks.
use Rattle.std.specs.Prelude.{◌≡◌, ℕ, ℤ, pos, ◌==◌, true, false, if◌then◌else◌, List, [], ◌∷◌, map, Option, Some, None, codes, option_map, refl}
use Rattle.std.specs.Fmt.{digits}
use Rattle.build_flow_nodes.specs.Flows.{flow_of}
use Rattle.build_flow_nodes.specs.Parts.{BodyNames}
use Rattle.cx_core.specs.declared.expr.Op2.TheVariants as op2
use Rattle.cx_core.specs.Trees.{CTy, CExpr, no_puts, more_puts, put, CStmt, stmt, CStmtForm, label, case, default, block, expression, if_then, switch, while, do_while, for_loop, goto, continue, break, returns, begin, no_else, else_do, CStmts, no_stmts, more_stmts}
use Rattle.flow.specs.Flows.{NodeTree, BranchTree, go, if_test, switch as choose, gives, CaseTree}
use Rattle.lift_exprs.specs.ExampleNames.{names, bit_names, p, k, g}
use Rattle.lift_exprs.specs.Names.{Names}
use Rattle.lift_held.specs.Example.{at, int, struct, target, member_at, value_of, number, two, chosen, set, set_by, step_behind, step_before, call_of, statement, a, b, c, d, i, n, x, y}
use Rattle.rs_text.specs.Lines.{address_of as begins_address, null_of as begins_null, transmute_of, expr_text, stmts_lines}
use Rattle.rs_text.specs.Names.{keywords, path_words}

-- ---- what is written

abbrev type_of_object : ℕ → CTy
type_of_object number = if number == 14 then struct 1 else int

-- in a function that gives an `int`
abbrev in_body : Names → CTy → BodyNames
in_body names result = record { names = names; type_of_object = type_of_object; zeros = λ number. codes "zeros"; result_type = result; result = codes "ret" }

-- a branch, with the text of what it asks
data Shown : Type 0 where
  goes : ℕ → Shown
  tests : List ℕ → (if_true if_false : ℕ) → Shown
  chooses : List ℕ → List CaseTree → (other : ℕ) → Shown
  returned : Option (List ℕ) → Shown

record ShownNode : Type 0 where
  pub lines : List (List ℕ)
  pub last : Shown

abbrev shown_branch : BranchTree → Shown
shown_branch (go to) = goes to
shown_branch (if_test test if_true if_false) = tests (expr_text test) if_true if_false
shown_branch (choose one) = chooses (expr_text one.on) one.cases one.other
shown_branch (gives value) = returned (option_map expr_text value)

abbrev shown_node : NodeTree → ShownNode
shown_node one = record { lines = map (λ line. line.text) (stmts_lines 0 one.body); last = shown_branch one.last }

abbrev flow : CStmt → List ShownNode
flow body = map shown_node (flow_of (in_body names int) body).nodes

-- in a program with a bit-field member
abbrev bit_flow : CStmt → List ShownNode
bit_flow body = map shown_node (flow_of (in_body bit_names int) body).nodes

-- in a function that gives a structure
abbrev record_flow : CStmt → List ShownNode
record_flow body = map shown_node (flow_of (in_body names (struct 0)) body).nodes

abbrev node : List (List ℕ) → Shown → ShownNode
node lines last = record { lines = lines; last = last }

abbrev at_value : ℤ → ℕ → CaseTree
at_value value to = record { value = value; to = to }

-- ---- statements

abbrev plain : CStmtForm → CStmt
plain form = stmt at [] form

abbrev listed : List CStmt → CStmts
listed [] = no_stmts
listed (first ∷ others) = more_stmts first (listed others)

-- a block of these objects
abbrev block_of : List ℕ → List CStmt → CStmt
block_of objects list = stmt at objects (block (listed list))

abbrev does : CExpr → CStmt
does e = plain (expression (Some (statement e)))

abbrev gives_back : CExpr → CStmt
gives_back e = plain (returns (Some e))

abbrev declared : ℕ → CExpr → CStmt
declared object e = plain (begin object (Some (more_puts (put (record { byte = 0; bit = 0; width = 0 }) int e) no_puts)))

abbrev undone : ℕ → CStmt
undone object = plain (begin object None)

abbrev where_true : CExpr → CStmt → CStmt
where_true test body = plain (if_then test body no_else)

abbrev letter : ℕ → CStmt
letter byte = does (call_of int 5 (number (pos byte) ∷ []))

abbrev is_less : CExpr → ℕ → CExpr
is_less one other = two op2.Less int (value_of one) (number (pos other))

-- ---- flows

-- `return 42;`
abbrev returned_at_once_body : CStmt
returned_at_once_body =
    block_of ([]) (gives_back (number (pos 42)) ∷ [])

returned_at_once : flow returned_at_once_body
    ≡ node [] (returned (Some (codes "42i32"))) ∷ []
unfolding digits begins_address begins_null transmute_of keywords path_words
returned_at_once = refl

-- `for (;;) putchar('a');`
abbrev without_parts_body : CStmt
without_parts_body =
    block_of ([]) (plain (for_loop no_stmts None None (letter 97)) ∷ [])

without_parts : flow without_parts_body
    ≡ node [] (goes 1)
    ∷ node (codes "crate::m::putchar(97i32);" ∷ []) (goes 1) ∷ []
unfolding digits begins_address begins_null transmute_of keywords path_words
without_parts = refl

-- `int n = 0; if (n) goto b; a: putchar('a'); b: putchar('b'); n = n + 1; if (n < 3) goto a; return n;`
abbrev two_entries_body : CStmt
two_entries_body =
    block_of (5 ∷ []) (declared 5 (number (pos 0)) ∷ where_true (value_of n) (plain (goto (codes "b"))) ∷ plain (label (codes "a") (letter 97)) ∷ plain (label (codes "b") (letter 98)) ∷ does (set n (two op2.Add int (value_of n) (number (pos 1)))) ∷ where_true (is_less n 3) (plain (goto (codes "a"))) ∷ gives_back (value_of n) ∷ [])

two_entries : flow two_entries_body
    ≡ node (codes "n = 0i32;" ∷ []) (tests (codes "n != 0i32") 1 2)
    ∷ node [] (goes 3)
    ∷ node (codes "crate::m::putchar(97i32);" ∷ []) (goes 3)
    ∷ node (codes "crate::m::putchar(98i32);" ∷ codes "n = n + 1i32;" ∷ []) (tests (codes "n < 3i32") 4 5)
    ∷ node [] (goes 2)
    ∷ node [] (returned (Some (codes "n"))) ∷ []
unfolding digits begins_address begins_null transmute_of keywords path_words
two_entries = refl

-- `int i, b, n = 0; for (i = 0; i < 4; i++) { if (i == 2) continue; for (b = 0; ; b++) { if (b > i) break; n += b; } } return n;`
abbrev nest_body : CStmt
nest_body =
    block_of (4 ∷ 1 ∷ 5 ∷ []) (undone 4 ∷ undone 1 ∷ declared 5 (number (pos 0)) ∷ plain (for_loop (listed (does (set i (number (pos 0))) ∷ [])) (Some (is_less i 4)) (Some (statement (step_behind true i))) (block_of ([]) (where_true (two op2.Equal int (value_of i) (number (pos 2))) (plain continue) ∷ plain (for_loop (listed (does (set b (number (pos 0))) ∷ [])) None (Some (statement (step_behind true b))) (block_of ([]) (where_true (two op2.Greater int (value_of b) (value_of i)) (plain break) ∷ does (set_by op2.Add int n (value_of b)) ∷ []))) ∷ []))) ∷ gives_back (value_of n) ∷ [])

nest : flow nest_body
    ≡ node (codes "n = 0i32;" ∷ codes "i = 0i32;" ∷ []) (goes 1)
    ∷ node [] (tests (codes "i < 4i32") 2 9)
    ∷ node [] (tests (codes "i == 2i32") 3 4)
    ∷ node [] (goes 8)
    ∷ node (codes "b = 0i32;" ∷ []) (goes 5)
    ∷ node [] (tests (codes "b > i") 6 7)
    ∷ node [] (goes 8)
    ∷ node (codes "n = n + b;" ∷ codes "b = b + 1i32;" ∷ []) (goes 5)
    ∷ node (codes "i = i + 1i32;" ∷ []) (goes 1)
    ∷ node [] (returned (Some (codes "n"))) ∷ []
unfolding digits begins_address begins_null transmute_of keywords path_words
nest = refl

-- `for (; i < 4; ) i++; return i;`
abbrev test_alone_body : CStmt
test_alone_body =
    block_of ([]) (plain (for_loop no_stmts (Some (is_less i 4)) None (does (step_behind true i))) ∷ gives_back (value_of i) ∷ [])

test_alone : flow test_alone_body
    ≡ node [] (goes 1)
    ∷ node [] (tests (codes "i < 4i32") 2 3)
    ∷ node (codes "i = i + 1i32;" ∷ []) (goes 1)
    ∷ node [] (returned (Some (codes "i"))) ∷ []
unfolding digits begins_address begins_null transmute_of keywords path_words
test_alone = refl

-- `do { if (a) continue; b++; } while (c); return b;`
abbrev gone_on_with_body : CStmt
gone_on_with_body =
    block_of ([]) (plain (do_while (block_of ([]) (where_true (value_of a) (plain continue) ∷ does (step_behind true b) ∷ [])) (value_of c)) ∷ gives_back (value_of b) ∷ [])

gone_on_with : flow gone_on_with_body
    ≡ node [] (goes 1)
    ∷ node [] (tests (codes "a != 0i32") 2 3)
    ∷ node [] (goes 4)
    ∷ node (codes "b = b + 1i32;" ∷ []) (goes 4)
    ∷ node [] (tests (codes "c != 0i32") 1 5)
    ∷ node [] (returned (Some (codes "b"))) ∷ []
unfolding digits begins_address begins_null transmute_of keywords path_words
gone_on_with = refl

-- `do b++; while (c); return b;`
abbrev done_first_body : CStmt
done_first_body =
    block_of ([]) (plain (do_while (does (step_behind true b)) (value_of c)) ∷ gives_back (value_of b) ∷ [])

done_first : flow done_first_body
    ≡ node [] (goes 1)
    ∷ node (codes "b = b + 1i32;" ∷ []) (tests (codes "c != 0i32") 1 2)
    ∷ node [] (returned (Some (codes "b"))) ∷ []
unfolding digits begins_address begins_null transmute_of keywords path_words
done_first = refl

-- `switch (c % 4) { case 0: do { putchar(1); case 3: putchar(3); case 2: putchar(2); case 1: putchar(4); } while (--n > 0); } return 0;`
abbrev device_body : CStmt
device_body =
    block_of ([]) (plain (switch (two op2.Remainder int (value_of c) (number (pos 4))) (block_of ([]) (plain (case (pos 0) (plain (do_while (block_of ([]) (letter 1 ∷ plain (case (pos 3) (letter 3)) ∷ plain (case (pos 2) (letter 2)) ∷ plain (case (pos 1) (letter 4)) ∷ [])) (two op2.Greater int (step_before false n) (number (pos 0)))))) ∷ []))) ∷ gives_back (number (pos 0)) ∷ [])

device : flow device_body
    ≡ node [] (chooses (codes "c % 4i32") (at_value (pos 0) 1 ∷ at_value (pos 3) 3 ∷ at_value (pos 2) 4 ∷ at_value (pos 1) 5 ∷ []) 6)
    ∷ node [] (goes 2)
    ∷ node (codes "crate::m::putchar(1i32);" ∷ []) (goes 3)
    ∷ node (codes "crate::m::putchar(3i32);" ∷ []) (goes 4)
    ∷ node (codes "crate::m::putchar(2i32);" ∷ []) (goes 5)
    ∷ node (codes "crate::m::putchar(4i32);" ∷ codes "t = n - 1i32;" ∷ codes "n = t;" ∷ []) (tests (codes "t > 0i32") 2 6)
    ∷ node [] (returned (Some (codes "0i32"))) ∷ []
unfolding digits begins_address begins_null transmute_of keywords path_words
device = refl

-- `while (a) { switch (b) { case 1: continue; case 2: break; default: c++; } d++; } return d;`
abbrev choice_in_loop_body : CStmt
choice_in_loop_body =
    block_of ([]) (plain (while (value_of a) (block_of ([]) (plain (switch (value_of b) (block_of ([]) (plain (case (pos 1) (plain continue)) ∷ plain (case (pos 2) (plain break)) ∷ plain (default (does (step_behind true c))) ∷ []))) ∷ does (step_behind true d) ∷ []))) ∷ gives_back (value_of d) ∷ [])

choice_in_loop : flow choice_in_loop_body
    ≡ node [] (goes 1)
    ∷ node [] (tests (codes "a != 0i32") 2 7)
    ∷ node [] (chooses (codes "b") (at_value (pos 1) 3 ∷ at_value (pos 2) 4 ∷ []) 5)
    ∷ node [] (goes 1)
    ∷ node [] (goes 6)
    ∷ node (codes "c = c + 1i32;" ∷ []) (goes 6)
    ∷ node (codes "d = d + 1i32;" ∷ []) (goes 1)
    ∷ node [] (returned (Some (codes "d"))) ∷ []
unfolding digits begins_address begins_null transmute_of keywords path_words
choice_in_loop = refl

-- `switch (b) { case 1: while (a) a--; } return a;`
abbrev loop_in_choice_body : CStmt
loop_in_choice_body =
    block_of ([]) (plain (switch (value_of b) (block_of ([]) (plain (case (pos 1) (plain (while (value_of a) (does (step_behind false a))))) ∷ []))) ∷ gives_back (value_of a) ∷ [])

loop_in_choice : flow loop_in_choice_body
    ≡ node [] (chooses (codes "b") (at_value (pos 1) 1 ∷ []) 4)
    ∷ node [] (goes 2)
    ∷ node [] (tests (codes "a != 0i32") 3 4)
    ∷ node (codes "a = a - 1i32;" ∷ []) (goes 2)
    ∷ node [] (returned (Some (codes "a"))) ∷ []
unfolding digits begins_address begins_null transmute_of keywords path_words
loop_in_choice = refl

-- `return a; b++;`
abbrev not_reached_body : CStmt
not_reached_body =
    block_of ([]) (gives_back (value_of a) ∷ does (step_behind true b) ∷ [])

not_reached : flow not_reached_body
    ≡ node [] (returned (Some (codes "a"))) ∷ []
unfolding digits begins_address begins_null transmute_of keywords path_words
not_reached = refl

-- `if (a) x = 1; else x = 2; return x;`
abbrev both_ways_body : CStmt
both_ways_body =
    block_of ([]) (plain (if_then (value_of a) (does (set x (number (pos 1)))) (else_do (does (set x (number (pos 2)))))) ∷ gives_back (value_of x) ∷ [])

both_ways : flow both_ways_body
    ≡ node [] (tests (codes "a != 0i32") 1 2)
    ∷ node (codes "x = 1i32;" ∷ []) (goes 3)
    ∷ node (codes "x = 2i32;" ∷ []) (goes 3)
    ∷ node [] (returned (Some (codes "x"))) ∷ []
unfolding digits begins_address begins_null transmute_of keywords path_words
both_ways = refl

-- `goto in; { int a = 1; { int b = 2; in: c++; } } return c;`
abbrev into_blocks_body : CStmt
into_blocks_body =
    block_of ([]) (plain (goto (codes "in")) ∷ block_of (0 ∷ []) (declared 0 (number (pos 1)) ∷ block_of (1 ∷ []) (declared 1 (number (pos 2)) ∷ plain (label (codes "in") (does (step_behind true c))) ∷ []) ∷ []) ∷ gives_back (value_of c) ∷ [])

into_blocks : flow into_blocks_body
    ≡ node [] (goes 1)
    ∷ node (codes "c = c + 1i32;" ∷ []) (returned (Some (codes "c"))) ∷ []
unfolding digits begins_address begins_null transmute_of keywords path_words
into_blocks = refl

-- `goto in; { int a = 1; { int b = 2; in: c++; } } return c;`
abbrev into_blocks_beside_fields_body : CStmt
into_blocks_beside_fields_body =
    block_of ([]) (plain (goto (codes "in")) ∷ block_of (0 ∷ []) (declared 0 (number (pos 1)) ∷ block_of (1 ∷ []) (declared 1 (number (pos 2)) ∷ plain (label (codes "in") (does (step_behind true c))) ∷ []) ∷ []) ∷ gives_back (value_of c) ∷ [])

into_blocks_beside_fields : bit_flow into_blocks_beside_fields_body
    ≡ node (codes "a = 0i32;" ∷ codes "b = 0i32;" ∷ []) (goes 1)
    ∷ node (codes "c = c + 1i32;" ∷ []) (returned (Some (codes "c"))) ∷ []
unfolding digits begins_address begins_null transmute_of keywords path_words
into_blocks_beside_fields = refl

-- `int n = 0; goto in; { int y; again: n = n + y; goto out; in: y = 4; goto again; } out: return n;`
abbrev back_in_block_body : CStmt
back_in_block_body =
    block_of (5 ∷ []) (declared 5 (number (pos 0)) ∷ plain (goto (codes "in")) ∷ block_of (7 ∷ []) (undone 7 ∷ plain (label (codes "again") (does (set n (two op2.Add int (value_of n) (value_of y))))) ∷ plain (goto (codes "out")) ∷ plain (label (codes "in") (does (set y (number (pos 4))))) ∷ plain (goto (codes "again")) ∷ []) ∷ plain (label (codes "out") (gives_back (value_of n))) ∷ [])

back_in_block : flow back_in_block_body
    ≡ node (codes "n = 0i32;" ∷ []) (goes 2)
    ∷ node (codes "n = n + y;" ∷ []) (goes 3)
    ∷ node (codes "y = 4i32;" ∷ []) (goes 1)
    ∷ node [] (returned (Some (codes "n"))) ∷ []
unfolding digits begins_address begins_null transmute_of keywords path_words
back_in_block = refl

-- `int n = 0; goto in; { int y; again: n = n + y; goto out; in: y = 4; goto again; } out: return n;`
abbrev back_in_block_beside_fields_body : CStmt
back_in_block_beside_fields_body =
    block_of (5 ∷ []) (declared 5 (number (pos 0)) ∷ plain (goto (codes "in")) ∷ block_of (7 ∷ []) (undone 7 ∷ plain (label (codes "again") (does (set n (two op2.Add int (value_of n) (value_of y))))) ∷ plain (goto (codes "out")) ∷ plain (label (codes "in") (does (set y (number (pos 4))))) ∷ plain (goto (codes "again")) ∷ []) ∷ plain (label (codes "out") (gives_back (value_of n))) ∷ [])

back_in_block_beside_fields : bit_flow back_in_block_beside_fields_body
    ≡ node (codes "n = 0i32;" ∷ codes "n = 0i32;" ∷ codes "n = 0i32;" ∷ codes "y = 0i32;" ∷ []) (goes 2)
    ∷ node (codes "n = n + y;" ∷ []) (goes 3)
    ∷ node (codes "y = 4i32;" ∷ []) (goes 1)
    ∷ node [] (returned (Some (codes "n"))) ∷ []
unfolding digits begins_address begins_null transmute_of keywords path_words
back_in_block_beside_fields = refl

-- `struct flags k = { a }; return k.v;`
abbrev cleared_body : CStmt
cleared_body =
    block_of (14 ∷ []) (declared 14 (value_of a) ∷ gives_back (value_of (member_at int k 0)) ∷ [])

cleared : flow cleared_body
    ≡ node (codes "core::ptr::copy(core::ptr::addr_of_mut!(zeros) as *mut u8, core::ptr::addr_of_mut!(k) as *mut u8, 8usize);" ∷ codes "k.v = a;" ∷ []) (returned (Some (codes "k.v"))) ∷ []
unfolding digits begins_address begins_null transmute_of keywords path_words
cleared = refl

-- `struct flags k = { a }; return k.v;`
abbrev cleared_twice_body : CStmt
cleared_twice_body =
    block_of (14 ∷ []) (declared 14 (value_of a) ∷ gives_back (value_of (member_at int k 0)) ∷ [])

cleared_twice : bit_flow cleared_twice_body
    ≡ node (codes "core::ptr::copy(core::ptr::addr_of_mut!(zeros) as *mut u8, core::ptr::addr_of_mut!(k) as *mut u8, 8usize);" ∷ codes "core::ptr::copy(core::ptr::addr_of_mut!(zeros) as *mut u8, core::ptr::addr_of_mut!(k) as *mut u8, 8usize);" ∷ codes "k.v = a;" ∷ []) (returned (Some (codes "k.v"))) ∷ []
unfolding digits begins_address begins_null transmute_of keywords path_words
cleared_twice = refl

-- `switch (c) { case 1: ; struct flags k; k.v = a; default: ; } return 0; of a program with bit-fields`
abbrev switch_into_block_body : CStmt
switch_into_block_body =
    block_of ([]) (plain (switch (value_of c) (block_of (14 ∷ []) (plain (case (pos 1) (plain (expression None))) ∷ undone 14 ∷ does (set (member_at int k 0) (value_of a)) ∷ plain (default (plain (expression None))) ∷ []))) ∷ gives_back (number (pos 0)) ∷ [])

switch_into_block : bit_flow switch_into_block_body
    ≡ node [] (chooses (codes "c") (at_value (pos 1) 1 ∷ []) 2)
    ∷ node (codes "core::ptr::copy(core::ptr::addr_of_mut!(zeros) as *mut u8, core::ptr::addr_of_mut!(k) as *mut u8, 8usize);" ∷ []) (goes 3)
    ∷ node (codes "core::ptr::copy(core::ptr::addr_of_mut!(zeros) as *mut u8, core::ptr::addr_of_mut!(k) as *mut u8, 8usize);" ∷ []) (goes 4)
    ∷ node (codes "core::ptr::copy(core::ptr::addr_of_mut!(zeros) as *mut u8, core::ptr::addr_of_mut!(k) as *mut u8, 8usize);" ∷ codes "k.v = a;" ∷ []) (goes 4)
    ∷ node [] (goes 5)
    ∷ node [] (returned (Some (codes "0i32"))) ∷ []
unfolding digits begins_address begins_null transmute_of keywords path_words
switch_into_block = refl

-- `return n ? n + g(n - 1) : 0;`
abbrev called_again_body : CStmt
called_again_body =
    block_of ([]) (gives_back (chosen int (value_of n) (two op2.Add int (value_of n) (g (two op2.Subtract int (value_of n) (number (pos 1))))) (number (pos 0))) ∷ [])

called_again : flow called_again_body
    ≡ node (codes "if n != 0i32 {" ∷ codes "t = n;" ∷ codes "t_0 = crate::m::g(n - 1i32);" ∷ codes "t_1 = t + t_0;" ∷ codes "} else {" ∷ codes "t_1 = 0i32;" ∷ codes "}" ∷ []) (returned (Some (codes "t_1"))) ∷ []
unfolding digits begins_address begins_null transmute_of keywords path_words
called_again = refl

-- `return *p; of a function that gives a structure`
abbrev record_given_body : CStmt
record_given_body =
    block_of ([]) (gives_back (value_of (target (struct 0) (value_of p))) ∷ [])

record_given : record_flow record_given_body
    ≡ node (codes "core::ptr::copy(p as *mut u8, ret as *mut u8, 16usize);" ∷ []) (returned None) ∷ []
unfolding digits begins_address begins_null transmute_of keywords path_words
record_given = refl
