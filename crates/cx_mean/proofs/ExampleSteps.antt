-- Worked runs: which steps a run takes, static objects, and orders of evaluation.
use Rattle.std.proofs.Common.{◌≡◌, pos, negsuc, [], ◌∷◌, codes, refl}
use Rattle.cx_core.specs.declared.expr.Op2.TheVariants.{Add, Subtract}
use Rattle.cx_core.specs.Layouts.{layouts_of}
use Rattle.cr_world.specs.Known.{known_table}
use Rattle.cx_core.specs.Trees.{CProgram}
use Rattle.cx_mean.proofs.Programs.{runs_with, ordered, int_t, n, var, val, set, set_by, two, both_true, calls, run, give, skip, in_block, putchar, program, program_of, main_fun, fun, taking, static, local, put_at, answers, silent, runs, seen, ends, printed}
use Rattle.cx_core.specs.Trees.{no_types_yet}
use Rattle.cx_mean.specs.Run.{going, ended}

-- ---- steps

-- `return 42;` ends after four steps: the call, the block, the statement, the return
still_going : runs (program [] (give (n 42) ∷ [])) 3 ≡ seen [] going
unfolding layouts_of
still_going = refl

after_four : runs (program [] (give (n 42) ∷ [])) 4 ≡ ends (pos 42)
unfolding layouts_of
after_four = refl

-- the end of `main` gives 0: the call, the block, the end
empty_main : runs (program [] []) 3 ≡ ends (pos 0)
unfolding layouts_of
empty_main = refl

empty_main_before : runs (program [] []) 2 ≡ seen [] going
unfolding layouts_of
empty_main_before = refl

-- `;` takes one step
null_statement : runs (program [] (skip ∷ skip ∷ [])) 5 ≡ ends (pos 0)
unfolding layouts_of
null_statement = refl

null_statement_before : runs (program [] (skip ∷ skip ∷ [])) 4 ≡ seen [] going
unfolding layouts_of
null_statement_before = refl

-- `int x1 = 60; int main(void) { x1 = x1 + putchar(x1 + 5); return x1 - 125; }`, answered by 65: it ends after sixteen steps
letter_a : CProgram
letter_a = program (static 1 int_t (put_at 0 (n 60) ∷ []) ∷ [])
    (run (set (var 1) (two Add (val 1) (putchar (two Add (val 1) (n 5))))) ∷ give (two Subtract (val 1) (n 125)) ∷ [])

letter_ends : runs_with letter_a (answers (pos 65 ∷ [])) 16 ≡ seen (printed 65 ∷ []) (ended (pos 0))
unfolding layouts_of known_table letter_a
letter_ends = refl

letter_before : runs_with letter_a (answers (pos 65 ∷ [])) 15 ≡ seen (printed 65 ∷ []) going
unfolding layouts_of known_table letter_a
letter_before = refl

-- the event is there after nine steps, and not after eight
letter_nine : runs_with letter_a (answers (pos 65 ∷ [])) 9 ≡ seen (printed 65 ∷ []) going
unfolding layouts_of known_table letter_a
letter_nine = refl

letter_eight : runs_with letter_a (answers (pos 65 ∷ [])) 8 ≡ seen [] going
unfolding layouts_of known_table letter_a
letter_eight = refl

-- past the end of the answers a call is answered by 0
letter_unanswered : runs_with letter_a silent 16 ≡ seen (printed 65 ∷ []) (ended (negsuc 64))
unfolding layouts_of known_table letter_a
letter_unanswered = refl

-- an answer is converted to the result type
converted_answer : runs_with (program [] (give (putchar (n 1)) ∷ [])) (answers (pos 4294967297 ∷ [])) 9
    ≡ seen (printed 1 ∷ []) (ended (pos 1))
unfolding layouts_of known_table
converted_answer = refl

-- ---- static objects begin in order, zeroed, and their puts are stored in that order

-- `int x1; int x2 = 5; int main(void) { return x1 + x2; }`: two lives, one store, three steps, two loads, the sum, the return
two_statics : CProgram
two_statics = program (static 1 int_t [] ∷ static 2 int_t (put_at 0 (n 5) ∷ []) ∷ []) (give (two Add (val 1) (val 2)) ∷ [])

statics_sum : runs two_statics 10 ≡ ends (pos 5)
unfolding layouts_of two_statics
statics_sum = refl

statics_before : runs two_statics 9 ≡ seen [] going
unfolding layouts_of two_statics
statics_before = refl

-- ---- orders

-- `return putchar(1) + putchar(2);`
two_calls : CProgram
two_calls = program [] (give (two Add (putchar (n 1)) (putchar (n 2))) ∷ [])

calls_from_left : runs_with two_calls silent 20 ≡ seen (printed 1 ∷ printed 2 ∷ []) (ended (pos 0))
unfolding layouts_of known_table two_calls
calls_from_left = refl

calls_from_right : ordered two_calls (1 ∷ []) silent 20 ≡ seen (printed 2 ∷ printed 1 ∷ []) (ended (pos 0))
unfolding layouts_of known_table two_calls
calls_from_right = refl

-- numbers count modulo the number of ready nodes
calls_modulo : ordered two_calls (6 ∷ []) silent 20 ≡ seen (printed 1 ∷ printed 2 ∷ []) (ended (pos 0))
unfolding layouts_of known_table two_calls
calls_modulo = refl

calls_modulo_odd : ordered two_calls (7 ∷ []) silent 20 ≡ seen (printed 2 ∷ printed 1 ∷ []) (ended (pos 0))
unfolding layouts_of known_table two_calls
calls_modulo_odd = refl

-- `return putchar(putchar(1) + 1) + putchar(2);`: a step with one ready node takes no number of the order
nested_calls : CProgram
nested_calls = program [] (give (two Add (putchar (two Add (putchar (n 1)) (n 1))) (putchar (n 2))) ∷ [])

nested_from_left : runs_with nested_calls (answers (pos 4 ∷ [])) 20 ≡ seen (printed 1 ∷ printed 5 ∷ printed 2 ∷ []) (ended (pos 0))
unfolding layouts_of known_table nested_calls
nested_from_left = refl

nested_mixed : ordered nested_calls (0 ∷ 1 ∷ []) (answers (pos 4 ∷ [])) 20
    ≡ seen (printed 1 ∷ printed 2 ∷ printed 5 ∷ []) (ended (pos 0))
unfolding layouts_of known_table nested_calls
nested_mixed = refl

-- `putchar(9); return putchar(1) + putchar(2);` under the order 1: the steps before with one ready node take no number
numbers_kept : ordered (program [] (run (putchar (n 9)) ∷ give (two Add (putchar (n 1)) (putchar (n 2))) ∷ [])) (1 ∷ []) silent 40
    ≡ seen (printed 9 ∷ printed 2 ∷ printed 1 ∷ []) (ended (pos 0))
unfolding layouts_of known_table
numbers_kept = refl

-- the first operand of `&&` takes its steps in any order, and the second one waits for its value (6.5.13p4):
-- `return (putchar(1) + putchar(2)) && putchar(3);`, answered by 0, 4 and 0
choice_waits : ordered (program [] (give (both_true (two Add (putchar (n 1)) (putchar (n 2))) (putchar (n 3))) ∷ [])) (1 ∷ [])
    (answers (pos 0 ∷ pos 4 ∷ [])) 40
    ≡ seen (printed 2 ∷ printed 1 ∷ printed 3 ∷ []) (ended (pos 0))
unfolding layouts_of known_table
choice_waits = refl

-- three arguments: the third, then of the two left the second
-- `return f(putchar(1), putchar(2), putchar(3));` with `int f(int, int, int) { return 7; }`
three_calls : CProgram
three_calls = program_of no_types_yet (local 1 int_t ∷ local 2 int_t ∷ local 3 int_t ∷ [])
    (main_fun [] (give (calls 1 (putchar (n 1) ∷ putchar (n 2) ∷ putchar (n 3) ∷ [])) ∷ [])
    ∷ fun 1 (codes "f") (taking int_t (int_t ∷ int_t ∷ int_t ∷ [])) (1 ∷ 2 ∷ 3 ∷ []) (in_block [] (give (n 7) ∷ [])) ∷ [])

three_in_order : ordered three_calls (2 ∷ 1 ∷ []) silent 30 ≡ seen (printed 3 ∷ printed 2 ∷ printed 1 ∷ []) (ended (pos 7))
unfolding layouts_of known_table three_calls
three_in_order = refl

-- `int x1 = 1; int f(void) { x1 = 5; return 10; } int main(void) { return x1 + f(); }`: 11, and 15 where the call goes first
reads_and_calls : CProgram
reads_and_calls = program_of no_types_yet (static 1 int_t (put_at 0 (n 1) ∷ []) ∷ [])
    (main_fun [] (give (two Add (val 1) (calls 1 [])) ∷ [])
    ∷ fun 1 (codes "f") (taking int_t []) [] (in_block [] (run (set (var 1) (n 5)) ∷ give (n 10) ∷ [])) ∷ [])

read_first : runs_with reads_and_calls silent 40 ≡ ends (pos 11)
unfolding layouts_of known_table reads_and_calls
read_first = refl

call_first : ordered reads_and_calls (1 ∷ []) silent 40 ≡ ends (pos 15)
unfolding layouts_of known_table reads_and_calls
call_first = refl

-- `x1 += 10` is a load, a computation, a conversion and a store; a called body may run between two of them:
-- `int x1 = 1, x2; int f(void) { x1 = 100; return 1; } int main(void) { x2 = (x1 += 10) + f(); return x1; }`
between_steps : CProgram
between_steps = program_of no_types_yet (static 1 int_t (put_at 0 (n 1) ∷ []) ∷ static 2 int_t [] ∷ [])
    (main_fun [] (run (set (var 2) (two Add (set_by Add int_t (var 1) (n 10)) (calls 1 []))) ∷ give (val 1) ∷ [])
    ∷ fun 1 (codes "f") (taking int_t []) [] (in_block [] (run (set (var 1) (n 100)) ∷ give (n 1) ∷ [])) ∷ [])

update_then_call : runs_with between_steps silent 60 ≡ ends (pos 100)
unfolding layouts_of known_table between_steps
update_then_call = refl

call_after_load : ordered between_steps (0 ∷ 1 ∷ []) silent 60 ≡ ends (pos 11)
unfolding layouts_of known_table between_steps
call_after_load = refl

call_before_store : ordered between_steps (0 ∷ 0 ∷ 0 ∷ 1 ∷ []) silent 60 ≡ ends (pos 11)
unfolding layouts_of known_table between_steps
call_before_store = refl

call_before_load : ordered between_steps (1 ∷ []) silent 60 ≡ ends (pos 110)
unfolding layouts_of known_table between_steps
call_before_load = refl
