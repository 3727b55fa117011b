-- Worked runs: each statement, the ways into and out of blocks, and the lives of their objects.
use Rattle.std.proofs.Common.{◌≡◌, ℕ, pos, List, [], ◌∷◌, Some, None, codes, refl}
use Rattle.cr_base.specs.declared.rule.URule.TheVariants.{U5, U7}
use Rattle.cx_core.specs.declared.expr.Op2.TheVariants.{Multiply, Add, Less, Equal}
use Rattle.cx_core.specs.Layouts.{layouts_of}
use Rattle.cx_core.specs.Trees.{CExpr, CObject, CProgram, CStmt, CStmtForm, literal, label, case, default, expression, switch, while, do_while, for_loop, goto, continue, break}
use Rattle.cr_world.specs.Known.{known_table}
use Rattle.cx_mean.proofs.Programs.{Both, runs_with, int_t, to, n, var, var_as, val, get, set, post_up, two, addr, star, conv, void_t, does, with_objects, stmts, run, skip, give, decl, decl_to, in_block, when, when_else, static, local, put_at, puts, node, program, with_locals, putchar, printed, silent, runs, seen, ends, breaks_at}
use Rattle.cx_mean.specs.Run.{going, ended}

-- `x1` counts; it is static, as `x2` is
x1 : CObject
x1 = static 1 int_t []

x2 : CObject
x2 = static 2 int_t []

x3 : CObject
x3 = static 3 (to int_t) []

with_statics : List CStmt → Both
with_statics list = runs (program (x1 ∷ x2 ∷ x3 ∷ []) list) 300

-- `x1 = x1 * 10 + k;`
adds : ℕ → CStmt
adds k = run (set (var 1) (two Add (two Multiply (val 1) (n 10)) (n k)))

-- ---- selection

-- `if (1) x1 = 1; if (0) x1 = 2; if (0) x1 = 3; else x1 = 4;` step by step in digits
ifs : with_statics (when (n 1) (adds 1) ∷ when (n 0) (adds 2) ∷ when_else (n 0) (adds 3) (adds 4) ∷ when_else (n 5) (adds 5) (adds 6) ∷ give (val 1) ∷ [])
    ≡ ends (pos 145)
unfolding layouts_of x1 x2 x3 with_statics adds
ifs = refl

-- `switch (k) { case 1: ..1; case 2: ..2; break; default: ..3; case 7: ..4; }`, with cases that fall through
switches : ℕ → CStmt
switches k = does (switch (n k) (in_block [] (
    does (case (pos 1) (adds 1)) ∷ does (case (pos 2) (adds 2)) ∷ does break ∷ does (default (adds 3)) ∷ does (case (pos 7) (adds 4)) ∷ [])))

chosen : ℕ → Both
chosen k = with_statics (switches k ∷ give (val 1) ∷ [])

case_one : chosen 1 ≡ ends (pos 12)
unfolding layouts_of x1 x2 x3 with_statics adds switches chosen
case_one = refl

case_two : chosen 2 ≡ ends (pos 2)
unfolding layouts_of x1 x2 x3 with_statics adds switches chosen
case_two = refl

case_default : chosen 9 ≡ ends (pos 34)
unfolding layouts_of x1 x2 x3 with_statics adds switches chosen
case_default = refl

case_seven : chosen 7 ≡ ends (pos 4)
unfolding layouts_of x1 x2 x3 with_statics adds switches chosen
case_seven = refl

-- no case, no default: nothing of the body; `case` and `default` of an inner `switch` aren't those of the outer one
no_case : with_statics (does (switch (n 5) (does (case (pos 1) (adds 1)))) ∷ give (val 1) ∷ []) ≡ ends (pos 0)
unfolding layouts_of x1 x2 x3 with_statics adds
no_case = refl

inner_switch : with_statics (
    does (switch (n 5) (in_block [] (
    does (case (pos 1) (does (switch (n 6) (in_block [] (does (case (pos 5) (adds 1)) ∷ does (default (adds 2)) ∷ [])))))
    ∷ does (case (pos 4) (adds 3)) ∷ [])))
    ∷ give (val 1) ∷ []) ≡ ends (pos 0)
unfolding layouts_of x1 x2 x3 with_statics adds
inner_switch = refl

-- a `case` under another one, and inside a loop inside its `switch`: a second turn begins at the loop's body
case_under_case : with_statics (
    does (switch (n 2) (does (case (pos 1) (does (case (pos 2) (adds 7)))))) ∷ give (val 1) ∷ []) ≡ ends (pos 7)
unfolding layouts_of x1 x2 x3 with_statics adds
case_under_case = refl

case_in_loop : with_statics (
    does (switch (n 2) (does (do_while (in_block [] (does (case (pos 1) (adds 1)) ∷ does (case (pos 2) (adds 2)) ∷ []))
    (two Less (post_up (var 2)) (n 1)))))
    ∷ give (val 1) ∷ []) ≡ ends (pos 212)
unfolding layouts_of x1 x2 x3 with_statics adds
case_in_loop = refl

-- `break` of a `switch` in a loop leaves the `switch`, and `continue` in it goes on with the loop
switch_in_loop : with_statics (
    does (while (two Less (post_up (var 2)) (n 3)) (in_block [] (
    does (switch (val 2) (in_block [] (does (case (pos 1) (does break)) ∷ does (case (pos 2) (does continue)) ∷ adds 5 ∷ [])))
    ∷ adds 1 ∷ [])))
    ∷ give (val 1) ∷ []) ≡ ends (pos 11)
unfolding layouts_of x1 x2 x3 with_statics adds
switch_in_loop = refl

-- ---- iteration

whiles : with_statics (does (while (two Less (val 2) (n 3)) (in_block [] (adds 1 ∷ run (post_up (var 2)) ∷ []))) ∷ give (val 1) ∷ [])
    ≡ ends (pos 111)
unfolding layouts_of x1 x2 x3 with_statics adds
whiles = refl

while_not : with_statics (does (while (n 0) (adds 1)) ∷ give (val 1) ∷ []) ≡ ends (pos 0)
unfolding layouts_of x1 x2 x3 with_statics adds
while_not = refl

do_once : with_statics (does (do_while (adds 1) (n 0)) ∷ give (val 1) ∷ []) ≡ ends (pos 1)
unfolding layouts_of x1 x2 x3 with_statics adds
do_once = refl

do_twice : with_statics (does (do_while (adds 1) (two Less (post_up (var 2)) (n 1))) ∷ give (val 1) ∷ []) ≡ ends (pos 11)
unfolding layouts_of x1 x2 x3 with_statics adds
do_twice = refl

-- `for (x2 = 0; x2 < 3; x2++) ..1`, and with a `continue`, which goes to the third expression
fors : with_statics (does (for_loop (stmts (run (set (var 2) (n 0)) ∷ [])) (Some (two Less (val 2) (n 3))) (Some (conv void_t (post_up (var 2)))) (adds 1))
    ∷ give (val 1) ∷ []) ≡ ends (pos 111)
unfolding layouts_of x1 x2 x3 with_statics adds
fors = refl

for_continue : with_statics (does (for_loop (stmts []) (Some (two Less (val 2) (n 3))) (Some (conv void_t (post_up (var 2))))
    (in_block [] (when (two Equal (val 2) (n 1)) (does continue) ∷ adds 1 ∷ [])))
    ∷ give (val 1) ∷ []) ≡ ends (pos 11)
unfolding layouts_of x1 x2 x3 with_statics adds
for_continue = refl

-- `for (;;) { if (x2++ == 2) break; ..1 }`
for_ever : with_statics (does (for_loop (stmts []) None None
    (in_block [] (when (two Equal (post_up (var 2)) (n 2)) (does break) ∷ adds 1 ∷ [])))
    ∷ give (val 1) ∷ []) ≡ ends (pos 11)
unfolding layouts_of x1 x2 x3 with_statics adds
for_ever = refl

-- `for (;;) putchar('a');` goes on, and its events grow
prints_ever : runs (program [] (does (for_loop (stmts []) None None (run (putchar (n 97)))) ∷ [])) 10 ≡ seen (printed 97 ∷ printed 97 ∷ []) going
unfolding layouts_of known_table
prints_ever = refl

-- `for (;;) ;` goes on, too
loops_ever : runs (program [] (does (for_loop (stmts []) None None skip) ∷ [])) 500 ≡ seen [] going
unfolding layouts_of
loops_ever = refl

-- `continue` in `while` and `do` goes to the condition
while_continue : with_statics (does (while (two Less (post_up (var 2)) (n 3))
    (in_block [] (when (two Equal (val 2) (n 2)) (does continue) ∷ adds 1 ∷ [])))
    ∷ give (val 1) ∷ []) ≡ ends (pos 11)
unfolding layouts_of x1 x2 x3 with_statics adds
while_continue = refl

do_continue : with_statics (does (do_while (in_block [] (adds 1 ∷ does continue ∷ adds 2 ∷ [])) (two Less (post_up (var 2)) (n 2)))
    ∷ give (val 1) ∷ []) ≡ ends (pos 111)
unfolding layouts_of x1 x2 x3 with_statics adds
do_continue = refl

-- `break` leaves the innermost loop alone
inner_break : with_statics (does (while (two Less (post_up (var 2)) (n 2)) (in_block [] (
    does (for_loop (stmts []) None None (does break)) ∷ adds 1 ∷ []))) ∷ give (val 1) ∷ []) ≡ ends (pos 11)
unfolding layouts_of x1 x2 x3 with_statics adds
inner_break = refl

-- ---- return

return_inside : with_statics (does (while (n 1) (in_block [] (does (switch (n 1) (does (default (give (n 6))))) ∷ []))) ∷ []) ≡ ends (pos 6)
unfolding layouts_of x1 x2 x3 with_statics
return_inside = refl

-- ---- labels and `goto`

here : List ℕ
here = codes "a"

there : List ℕ
there = codes "b"

-- `int n = 0; if (n) goto b; a: putchar('a'); b: putchar('b'); n = n + 1; if (n < 3) goto a; return n;`
row_nine : CProgram
row_nine = with_locals (local 1 int_t ∷ []) (1 ∷ []) (
    decl_to 1 (n 0) ∷ when (val 1) (does (goto there))
    ∷ does (label here (run (putchar (n 97)))) ∷ does (label there (run (putchar (n 98))))
    ∷ run (set (var 1) (two Add (val 1) (n 1))) ∷ when (two Less (val 1) (n 3)) (does (goto here)) ∷ give (val 1) ∷ [])

goto_back : runs_with row_nine silent 200
    ≡ seen (printed 97 ∷ printed 98 ∷ printed 97 ∷ printed 98 ∷ printed 97 ∷ printed 98 ∷ []) (ended (pos 3))
unfolding layouts_of known_table row_nine here there
goto_back = refl

-- `int n = 0; goto in; { int y; again: n = n + y; goto out; in: y = 4; goto again; } out: return n;`
into_block : CProgram
into_block = with_locals (local 1 int_t ∷ local 2 int_t ∷ []) (1 ∷ []) (
    decl_to 1 (n 0) ∷ does (goto (codes "in"))
    ∷ in_block (2 ∷ []) (
    decl 2 ∷ does (label (codes "again") (run (set (var 1) (two Add (val 1) (val 2)))))
    ∷ does (goto (codes "out"))
    ∷ does (label (codes "in") (run (set (var 2) (n 4))))
    ∷ does (goto (codes "again")) ∷ [])
    ∷ does (label (codes "out") (give (val 1))) ∷ [])

jumps_into_block : runs_with into_block silent 200 ≡ ends (pos 4)
unfolding layouts_of into_block
jumps_into_block = refl

-- a jump into a block begins its objects, with all bits unset: `goto in; { int x4 = 3; in: return x4; }`
begun_by_jump : runs (program (local 4 int_t ∷ []) (
    does (goto (codes "in")) ∷ in_block (4 ∷ []) (decl_to 4 (n 3) ∷ does (label (codes "in") (give (val 4))) ∷ []) ∷ [])) 60 ≡ breaks_at 1 U7
unfolding layouts_of
begun_by_jump = refl

-- a jump backward past a declaration unsets the object: `a: ; int x4; if (x2) return x4; x4 = 5; x2 = 1; goto a;`
unset_again : runs (with_locals (local 4 int_t ∷ x2 ∷ []) (4 ∷ []) (
    does (label here skip) ∷ decl 4 ∷ when (val 2) (give (val 4)) ∷ run (set (var 4) (n 5)) ∷ run (set (var 2) (n 1))
    ∷ does (goto here) ∷ [])) 100 ≡ breaks_at 1 U7
unfolding layouts_of x2 here
unset_again = refl

-- one that stays in the block and passes no declaration keeps it: `int x4 = 5; a: if (x2) return x4; x2 = 1; goto a;`
kept_by_jump : runs (with_locals (local 4 int_t ∷ x2 ∷ []) (4 ∷ []) (
    decl_to 4 (n 5) ∷ does (label here (when (val 2) (give (val 4)))) ∷ run (set (var 2) (n 1)) ∷ does (goto here) ∷ [])) 100 ≡ ends (pos 5)
unfolding layouts_of x2 here
kept_by_jump = refl

-- a jump out of two blocks and a loop: both objects die
out_of_blocks : runs (program (x3 ∷ local 4 int_t ∷ []) (
    does (while (n 1) (in_block (4 ∷ []) (
    decl_to 4 (n 1) ∷ run (set (var_as (to int_t) 3) (addr (var 4))) ∷ in_block [] (does (goto (codes "out")) ∷ []) ∷ [])))
    ∷ does (label (codes "out") (give (get (star int_t (get (var_as (to int_t) 3)))))) ∷ [])) 100 ≡ breaks_at 1 U5
unfolding layouts_of x3
out_of_blocks = refl

-- from outside into the body of a `while`, whose condition is looked at behind that turn; into an `else`; into a `for`, whose
-- first part isn't done
into_while : with_statics (does (goto here) ∷ does (while (two Less (val 2) (n 2)) (in_block [] (
    adds 1 ∷ does (label here (adds 2)) ∷ run (post_up (var 2)) ∷ []))) ∷ give (val 1) ∷ []) ≡ ends (pos 212)
unfolding layouts_of x1 x2 x3 with_statics adds here
into_while = refl

into_else : with_statics (does (goto here) ∷ when_else (n 1) (adds 1) (does (label here (adds 2))) ∷ give (val 1) ∷ []) ≡ ends (pos 2)
unfolding layouts_of x1 x2 x3 with_statics adds here
into_else = refl

into_then : with_statics (does (goto here) ∷ when_else (n 0) (does (label here (adds 1))) (adds 2) ∷ give (val 1) ∷ []) ≡ ends (pos 1)
unfolding layouts_of x1 x2 x3 with_statics adds here
into_then = refl

into_for : with_statics (does (goto here) ∷ does (for_loop (stmts (run (set (var 2) (n 7)) ∷ [])) (Some (two Less (val 2) (n 2))) (Some (conv void_t (post_up (var 2))))
    (does (label here (adds 2)))) ∷ give (val 1) ∷ []) ≡ ends (pos 22)
unfolding layouts_of x1 x2 x3 with_statics adds here
into_for = refl

into_do : with_statics (does (goto here) ∷ does (do_while (in_block [] (adds 1 ∷ does (label here (adds 2)) ∷ [])) (two Less (post_up (var 2)) (n 1)))
    ∷ give (val 1) ∷ []) ≡ ends (pos 212)
unfolding layouts_of x1 x2 x3 with_statics adds here
into_do = refl

into_switch : with_statics (does (goto here) ∷ does (switch (n 1) (in_block [] (does (case (pos 1) (adds 1)) ∷ does (label here (adds 2)) ∷ does break ∷ adds 3 ∷ [])))
    ∷ give (val 1) ∷ []) ≡ ends (pos 2)
unfolding layouts_of x1 x2 x3 with_statics adds here
into_switch = refl

-- a `switch` into a block begins its objects: `switch (1) { int x4; case 1: x4 = 3; x1 = x4; }`
switch_begins : runs (program (x1 ∷ local 4 int_t ∷ []) (
    does (switch (n 1) (in_block (4 ∷ []) (decl 4 ∷ does (case (pos 1) (run (set (var 4) (n 3)))) ∷ run (set (var 1) (val 4)) ∷ [])))
    ∷ give (val 1) ∷ [])) 60 ≡ ends (pos 3)
unfolding layouts_of x1
switch_begins = refl

-- ---- lives of objects

-- the body of a loop is left at the end of each turn: its object is another one in the next turn, and the old one is dead:
-- `while (x1++ < 2) { int x4; if (x3) return *x3; x3 = &x4; x4 = 1; }`
each_turn : runs (program (x1 ∷ x3 ∷ local 4 int_t ∷ []) (
    does (while (two Less (post_up (var 1)) (n 2)) (in_block (4 ∷ []) (
    decl 4 ∷ when (get (var_as (to int_t) 3)) (give (n 8)) ∷ run (set (var_as (to int_t) 3) (addr (var 4))) ∷ run (set (var 4) (n 1)) ∷ [])))
    ∷ [])) 200 ≡ breaks_at 1 U5
unfolding layouts_of x1 x3
each_turn = refl

-- what a turn stored isn't there in the next: `do { int x4; if (x1) return x4; x4 = 3; x1 = 1; } while (1);` without initialiser
unset_each_turn : runs (program (x1 ∷ local 4 int_t ∷ []) (
    does (do_while (in_block (4 ∷ []) (when (val 1) (give (val 4)) ∷ run (set (var 4) (n 3)) ∷ run (set (var 1) (n 1)) ∷ [])) (n 1)) ∷ [])) 200
    ≡ breaks_at 1 U7
unfolding layouts_of x1
unset_each_turn = refl

-- `continue` and `break` leave it, too
dead_after : CStmtForm → Both
dead_after jump = runs (program (x1 ∷ x3 ∷ local 4 int_t ∷ []) (
    does (while (two Less (post_up (var 1)) (n 1)) (in_block (4 ∷ []) (run (set (var_as (to int_t) 3) (addr (var 4))) ∷ does jump ∷ [])))
    ∷ when (get (var_as (to int_t) 3)) skip ∷ [])) 200

left_by_continue : dead_after continue ≡ breaks_at 1 U5
unfolding layouts_of x1 x3 dead_after
left_by_continue = refl

left_by_break : dead_after break ≡ breaks_at 1 U5
unfolding layouts_of x1 x3 dead_after
left_by_break = refl

-- an object lives until its block is left: `{ int x4 = 6; x3 = &x4; return *x3; }`
lives_in_block : runs (program (x3 ∷ local 4 int_t ∷ []) (
    in_block (4 ∷ []) (decl_to 4 (n 6) ∷ run (set (var_as (to int_t) 3) (addr (var 4))) ∷ give (get (star int_t (get (var_as (to int_t) 3)))) ∷ []) ∷ [])) 60
    ≡ ends (pos 6)
unfolding layouts_of x3
lives_in_block = refl

-- the object of a `for` lives for all its turns: `for (int x4 = 0; x4 < 3; x4++) x1 = x1 + x4;`
for_object : runs (program (x1 ∷ local 4 int_t ∷ []) (
    with_objects (4 ∷ []) (for_loop (stmts (decl_to 4 (n 0) ∷ [])) (Some (two Less (val 4) (n 3))) (Some (conv void_t (post_up (var 4))))
    (run (set (var 1) (two Add (val 1) (val 4)))))
    ∷ give (val 1) ∷ [])) 200 ≡ ends (pos 3)
unfolding layouts_of x1
for_object = refl

-- and it is dead behind the loop: `for (int x4 = 0; x4 < 1; x4++) x3 = &x4; if (x3) ;`
for_object_dies : runs (program (x3 ∷ local 4 int_t ∷ []) (
    with_objects (4 ∷ []) (for_loop (stmts (decl_to 4 (n 0) ∷ [])) (Some (two Less (val 4) (n 1))) (Some (conv void_t (post_up (var 4))))
    (run (set (var_as (to int_t) 3) (addr (var 4)))))
    ∷ when (get (var_as (to int_t) 3)) skip ∷ [])) 200 ≡ breaks_at 1 U5
unfolding layouts_of x3
for_object_dies = refl

-- a substatement is a block of its own (6.8.4p3, 6.8.5p5): `if (1) x3 = &(int){ 3 }; if (x3) ;`
three_literal : CExpr
three_literal = node int_t (literal 4 (puts (put_at 0 (n 3) ∷ [])))

substatement_object_dies : runs (program (x3 ∷ local 4 int_t ∷ []) (
    when (n 1) (with_objects (4 ∷ []) (expression (Some (conv void_t (set (var_as (to int_t) 3) (addr three_literal))))))
    ∷ when (get (var_as (to int_t) 3)) skip ∷ [])) 200 ≡ breaks_at 1 U5
unfolding layouts_of x3 three_literal
substatement_object_dies = refl

-- `int x4 = (x4 = 1);` is defined: the end of the initialiser is the end of a full expression
initialised_by_itself : runs (with_locals (local 4 int_t ∷ []) (4 ∷ []) (decl_to 4 (set (var 4) (n 1)) ∷ give (val 4) ∷ [])) 60 ≡ ends (pos 1)
unfolding layouts_of
initialised_by_itself = refl
