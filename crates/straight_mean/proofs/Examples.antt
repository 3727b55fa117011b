-- Worked examples: what is seen of small programs.
use Rattle.std.proofs.Common.{◌≡◌, ℕ, pos, negsuc, true, false, List, [], ◌∷◌, ◌++◌, Option, Some, None, Ok, codes, refl}
use Rattle.cr_base.specs.declared.refusal.Place.{Place}
use Rattle.cr_base.specs.declared.rule.URule.TheVariants.{U1, U2}
use Rattle.cr_base.specs.declared.scalar.Scalar.TheVariants.{Whole}
use Rattle.straight_core.specs.declared.expr.Op1.TheVariants.{Minus}
use Rattle.straight_core.specs.declared.expr.Op2.{Op2}
use Rattle.straight_core.specs.declared.expr.Op2.TheVariants.{Add, Subtract, Multiply}
use Rattle.straight_core.specs.declared.program.Linkage.TheVariants.{External}
use Rattle.straight_core.specs.Trees.{CTy, ty, void, int, function, listed, no_types, more_types, CExpr, expr, whole, object, load, convert, unary, binary, assign, call, no_exprs, more_exprs, CStmt, stmt, block, expression, returns, CStmts, no_stmts, more_stmts, put, CObject, CProgram}
use Rattle.cr_runs.specs.Runs.{came, halted, bad, out, state_of}
use Rattle.straight_mean.specs.Leftmost.{CRan, c_value, c_leftmost}
use Rattle.straight_mean.specs.Marks.{Marks, Range, bits_at, any_overlap}
use Rattle.straight_mean.specs.Operands.{COperand, Frame, CWorld}
use Rattle.straight_mean.specs.Run.{CSeen, CProgress, going, ended, undefined, c_run}
use Rattle.straight_mean.specs.State.{zeroed}
use Rattle.straight_mean.specs.Unwritten.{Avoids, bits_of_bytes}
use Rattle.ext_calls.specs.declared.call.Call.{Call}
use Rattle.ext_calls.specs.declared.call.Arg.TheVariants.{Whole as WholeArg}
use Rattle.mem_bytes.specs.Access.{value_at}
use Rattle.mem_bytes.specs.Memory.{Blocks}
use Rattle.mem_bytes.specs.declared.value.Ptr.{Ptr}
use Rattle.mem_bytes.specs.declared.value.Value.TheVariants.{Whole as Number}

-- ---- programs

abbrev int_type : CTy
int_type = ty int false

-- the line of a unit
abbrev at : ℕ → Place
at line = record { unit = 0; line = line }

-- at a line: a constant, the value of the object with a number, and operators
abbrev number : ℕ → ℕ → CExpr
number line n = expr int_type (at line) (whole (pos n))

abbrev place : ℕ → ℕ → CExpr
place line k = expr int_type (at line) (object k)

abbrev read : ℕ → ℕ → CExpr
read line k = expr int_type (at line) (load (place line k))

abbrev two : Op2 → ℕ → CExpr → CExpr → CExpr
two op line left right = expr int_type (at line) (binary op left right)

abbrev minus : ℕ → CExpr → CExpr
minus line value = expr int_type (at line) (unary Minus value)

abbrev set : ℕ → ℕ → CExpr → CExpr
set line k value = expr int_type (at line) (assign (place line k) value)

-- `putchar(value)`
abbrev putchar : ℕ → CExpr → CExpr
putchar line value = expr int_type (at line) (call 1 (more_exprs value no_exprs))

-- `value;` and `return value;`
abbrev runs : ℕ → CExpr → CStmt
runs line value = stmt (at line) [] (expression (expr (ty void false) (at line) (convert value)))

abbrev gives_back : ℕ → CExpr → CStmt
gives_back line value = stmt (at line) [] (returns (Some value))

abbrev one_stmt : CStmt → CStmts
one_stmt first = more_stmts first no_stmts

-- the static object with a number, which begins with a value
abbrev static_int : ℕ → ℕ → CObject
static_int k n = record {
  object = k;
  unit = 0;
  name = Some (codes "x" ++ k ∷ []);
  is_text = false;
  type = int_type;
  linkage = External;
  puts = Some (put (record { byte = 0; bit = 0; width = 0 }) int_type (number 1 n) ∷ []);
}

-- the same object without initialiser
abbrev static_zero : ℕ → CObject
static_zero k = record (static_int k 0) { puts = Some [] }

-- `int putchar(int);`, these objects, and `int main(void)` with these statements
abbrev program : List CObject → CStmts → CProgram
program objects stmts = record {
  types = record { records = []; enums = []; record_units = []; enum_units = [] };
  objects = objects;
  functions = record {
    function = 0;
    name = codes "main";
    unit = 0;
    linkage = External;
    type = ty (function int_type (listed no_types) false) false;
    params = [];
    body = stmt (at 2) [] (block stmts);
  } ∷ [];
  externals = record {
    function = 1;
    name = codes "putchar";
    type = ty (function int_type (listed (more_types int_type no_types)) false) false;
  } ∷ [];
}

-- the event of `putchar(n)`
abbrev printed : ℕ → Call
printed n = record { name = codes "putchar"; args = WholeArg (Whole 32 true) (pos n) ∷ [] }

abbrev seen : List Call → CProgress → CSeen
seen events progress = record { events = events; progress = progress }

-- ---- steps

-- `return 42;` ends after four steps: the call, the block, the statement, the return
abbrev answer : CProgram
answer = program [] (one_stmt (gives_back 3 (number 3 42)))

still_going : c_run answer [] [] 3 ≡ seen [] going
still_going = refl

after_four : c_run answer [] [] 4 ≡ seen [] (ended (pos 42))
after_four = refl

stays_ended : c_run answer (7 ∷ []) (pos 5 ∷ []) 30 ≡ seen [] (ended (pos 42))
stays_ended = refl

-- the end of `main` gives 0, after the call, the block, and the end
empty_body : c_run (program [] no_stmts) [] [] 3 ≡ seen [] (ended (pos 0))
empty_body = refl

empty_body_going : c_run (program [] no_stmts) [] [] 2 ≡ seen [] going
empty_body_going = refl

-- `int x = 7; .. return x;`: the life of `x` begins, 7 is stored, the call, the block, the statement, the
-- load, the return
abbrev seven : CProgram
seven = program (static_int 0 7 ∷ []) (one_stmt (gives_back 3 (read 3 0)))

seven_going : c_run seven [] [] 6 ≡ seen [] going
seven_going = refl

seven_ends : c_run seven [] [] 7 ≡ seen [] (ended (pos 7))
seven_ends = refl

-- without an initialiser it is 0
zero_ends : c_run (program (static_zero 0 ∷ []) (one_stmt (gives_back 3 (read 3 0)))) [] [] 6 ≡ seen [] (ended (pos 0))
zero_ends = refl

-- ---- calls of the outside

-- `int x = 60; .. x = x + putchar(x + 5); return x - 125;`
abbrev adds_answer : CProgram
adds_answer = program (static_int 0 60 ∷ [])
    (more_stmts (runs 3 (set 3 0 (two Add 3 (read 3 0) (putchar 3 (two Add 3 (read 3 0) (number 3 5))))))
    (one_stmt (gives_back 4 (two Subtract 4 (read 4 0) (number 4 125)))))

-- the event comes by the ninth step: two for `x`, the call, the block, the statement, the two loads, the
-- inner sum, the call
adds_answer_before : c_run adds_answer [] (pos 65 ∷ []) 8 ≡ seen [] going
adds_answer_before = refl

adds_answer_event : c_run adds_answer [] (pos 65 ∷ []) 9 ≡ seen (printed 65 ∷ []) going
adds_answer_event = refl

-- then the outer sum, the store, the conversion to `void`, the statement, the load, the difference, the return
adds_answer_late : c_run adds_answer [] (pos 65 ∷ []) 15 ≡ seen (printed 65 ∷ []) going
adds_answer_late = refl

adds_answer_status : c_run adds_answer [] (pos 65 ∷ []) 16 ≡ seen (printed 65 ∷ []) (ended (pos 0))
adds_answer_status = refl

adds_answer_ends : c_run adds_answer [] (pos 65 ∷ []) 40 ≡ seen (printed 65 ∷ []) (ended (pos 0))
adds_answer_ends = refl

-- past the end of the answers a call is answered by 0
adds_zero_ends : c_run adds_answer [] [] 40 ≡ seen (printed 65 ∷ []) (ended (negsuc 64))
adds_zero_ends = refl

-- an answer is converted to `int`: 2^32 + 3 is 3
converts_answer : c_run (program [] (one_stmt (gives_back 3 (putchar 3 (number 3 1))))) [] (pos 4294967299 ∷ []) 9 ≡ seen (printed 1 ∷ []) (ended (pos 3))
converts_answer = refl

-- ---- overflow

-- `2147483647 + 1` is undefined at its line, and doesn't wrap
overflows : c_run (program [] (one_stmt (gives_back 5 (two Add 6 (number 6 2147483647) (number 6 1))))) [] [] 9 ≡ seen [] (undefined U2 0 6)
overflows = refl

-- it is so after the step of the sum, the fourth
overflows_before : c_run (program [] (one_stmt (gives_back 5 (two Add 6 (number 6 2147483647) (number 6 1))))) [] [] 3 ≡ seen [] going
overflows_before = refl

-- the least `int` is one
least_int : c_run (program [] (one_stmt (gives_back 5 (two Subtract 5 (minus 5 (number 5 2147483647)) (number 5 1))))) [] [] 9 ≡ seen [] (ended (negsuc 2147483647))
least_int = refl

-- and its negation isn't
least_negated : c_run (program [] (one_stmt (gives_back 5 (minus 7 (two Subtract 5 (minus 5 (number 5 2147483647)) (number 5 1)))))) [] [] 9 ≡ seen [] (undefined U2 0 7)
least_negated = refl

product_overflows : c_run (program [] (one_stmt (gives_back 5 (two Multiply 5 (number 5 65536) (number 5 32768))))) [] [] 9 ≡ seen [] (undefined U2 0 5)
product_overflows = refl

-- ---- conflicts

-- `return x + (x = 1);` reads and writes `x` without a sequence point between
abbrev reads_and_writes : CProgram
reads_and_writes = program (static_zero 0 ∷ []) (one_stmt (gives_back 8 (two Add 9 (read 9 0) (set 9 0 (number 9 1)))))

conflict_found : c_run reads_and_writes [] [] 20 ≡ seen [] (undefined U1 0 9)
conflict_found = refl

-- also where the order takes the assignment first
conflict_found_later : c_run reads_and_writes (1 ∷ []) [] 20 ≡ seen [] (undefined U1 0 9)
conflict_found_later = refl

-- `return (x = 1) + (x = 1);` writes twice
two_writes : c_run (program (static_zero 0 ∷ []) (one_stmt (gives_back 8 (two Add 9 (set 9 0 (number 9 1)) (set 9 0 (number 9 1)))))) [] [] 20 ≡ seen [] (undefined U1 0 9)
two_writes = refl

-- `return x + x;` reads twice, and that is no conflict
two_reads : c_run (program (static_int 0 4 ∷ []) (one_stmt (gives_back 8 (two Add 9 (read 9 0) (read 9 0))))) [] [] 20 ≡ seen [] (ended (pos 8))
two_reads = refl

-- `return x + (y = 1);` names two objects
two_objects : c_run (program (static_int 0 4 ∷ static_int 1 5 ∷ []) (one_stmt (gives_back 8 (two Add 9 (read 9 0) (set 9 1 (number 9 1)))))) [] [] 20 ≡ seen [] (ended (pos 5))
two_objects = refl

-- `x = x + 1` reads before it writes
reads_first : c_run (program (static_int 0 4 ∷ []) (more_stmts (runs 3 (set 3 0 (two Add 3 (read 3 0) (number 3 1)))) (one_stmt (gives_back 4 (read 4 0))))) [] [] 30 ≡ seen [] (ended (pos 5))
reads_first = refl

-- `x = (x = 1)`: the outer store overlaps the inner one, which no sequence point follows
stored_twice : c_run (program (static_int 0 4 ∷ []) (one_stmt (runs 3 (set 4 0 (set 3 0 (number 3 1)))))) [] [] 30 ≡ seen [] (undefined U1 0 4)
stored_twice = refl

-- `x = putchar(x = 1)`: before the call is a sequence point, so the outer store is fine
call_between : c_run (program (static_int 0 4 ∷ []) (more_stmts (runs 3 (set 3 0 (putchar 3 (set 3 0 (number 3 1))))) (one_stmt (gives_back 4 (read 4 0))))) [] (pos 9 ∷ []) 40 ≡ seen (printed 1 ∷ []) (ended (pos 9))
call_between = refl

-- `return putchar(x = 1) + x;`: the write in the argument and the read have no sequence point between,
-- since the call isn't between them
write_under_call : c_run (program (static_int 0 4 ∷ []) (one_stmt (gives_back 8 (two Add 9 (putchar 9 (set 9 0 (number 9 1))) (read 9 0))))) [] [] 40 ≡ seen (printed 1 ∷ []) (undefined U1 0 9)
write_under_call = refl

-- a full expression's end is a sequence point: `x = 1; return x;`
next_statement : c_run (program (static_int 0 4 ∷ []) (more_stmts (runs 3 (set 3 0 (number 3 1))) (one_stmt (gives_back 4 (read 4 0))))) [] [] 40 ≡ seen [] (ended (pos 1))
next_statement = refl

-- ---- orders

-- `return putchar(1) + putchar(2);`
abbrev two_calls : CProgram
two_calls = program [] (one_stmt (gives_back 3 (two Add 3 (putchar 3 (number 3 1)) (putchar 3 (number 3 2)))))

left_first : c_run two_calls [] [] 9 ≡ seen (printed 1 ∷ printed 2 ∷ []) (ended (pos 0))
left_first = refl

right_first : c_run two_calls (1 ∷ []) [] 9 ≡ seen (printed 2 ∷ printed 1 ∷ []) (ended (pos 0))
right_first = refl

-- numbers count modulo the count of the ready nodes, which are two here
number_modulo : c_run two_calls (6 ∷ []) [] 9 ≡ seen (printed 1 ∷ printed 2 ∷ []) (ended (pos 0))
number_modulo = refl

number_modulo_odd : c_run two_calls (7 ∷ []) [] 9 ≡ seen (printed 2 ∷ printed 1 ∷ []) (ended (pos 0))
number_modulo_odd = refl

-- the answers come in the order of the calls
answers_by_order : c_run two_calls (1 ∷ []) (pos 10 ∷ pos 3 ∷ []) 9 ≡ seen (printed 2 ∷ printed 1 ∷ []) (ended (pos 13))
answers_by_order = refl

-- A step with one ready node takes no number: in `putchar(1); return putchar(2) + putchar(3);` the number
-- is there for the sum.
number_kept : c_run (program [] (more_stmts (runs 3 (putchar 3 (number 3 1))) (one_stmt (gives_back 4 (two Add 4 (putchar 4 (number 4 2)) (putchar 4 (number 4 3))))))) (1 ∷ []) [] 30 ≡ seen (printed 1 ∷ printed 3 ∷ printed 2 ∷ []) (ended (pos 0))
number_kept = refl

-- A node isn't ready before its operands: in `putchar(putchar(1) + 1) + putchar(2)` the inner call and the
-- right one are, and the third call after the first of them. With the order 0, 0 the left operand is
-- finished first; with 1 the right call comes first.
abbrev nested_calls : CProgram
nested_calls = program [] (one_stmt (gives_back 3 (two Add 3 (putchar 3 (two Add 3 (putchar 3 (number 3 1)) (number 3 1))) (putchar 3 (number 3 2)))))

operands_first : c_run nested_calls [] (pos 4 ∷ []) 12 ≡ seen (printed 1 ∷ printed 5 ∷ printed 2 ∷ []) (ended (pos 0))
operands_first = refl

between_operands : c_run nested_calls (0 ∷ 1 ∷ []) (pos 4 ∷ []) 12 ≡ seen (printed 1 ∷ printed 2 ∷ printed 5 ∷ []) (ended (pos 0))
between_operands = refl

-- an order may choose whether a step is undefined first: the sum that overflows is left, and the call right
order_before_fault : c_run (program [] (one_stmt (gives_back 3 (two Add 3 (two Add 4 (number 4 2147483647) (number 4 1)) (putchar 3 (number 3 2)))))) (1 ∷ []) [] 12 ≡ seen (printed 2 ∷ []) (undefined U2 0 4)
order_before_fault = refl

leftmost_before_call : c_run (program [] (one_stmt (gives_back 3 (two Add 3 (two Add 4 (number 4 2147483647) (number 4 1)) (putchar 3 (number 3 2)))))) [] [] 12 ≡ seen [] (undefined U2 0 4)
leftmost_before_call = refl

-- ---- blocks

-- `{ { return 5; } return 6; }`: a block inside is one more statement that is reached
nested_block : c_run (program [] (more_stmts (stmt (at 3) [] (block (one_stmt (gives_back 3 (number 3 5))))) (one_stmt (gives_back 4 (number 4 6))))) [] [] 5 ≡ seen [] (ended (pos 5))
nested_block = refl

-- `{ { } return 6; }`: the end of a block takes no step
empty_block : c_run (program [] (more_stmts (stmt (at 3) [] (block no_stmts)) (one_stmt (gives_back 4 (number 4 6))))) [] [] 5 ≡ seen [] (ended (pos 6))
empty_block = refl

-- ---- the leftmost run as a function of trees

leftmost_ends : c_leftmost adds_answer (pos 65 ∷ []) 40 ≡ seen (printed 65 ∷ []) (ended (pos 0))
leftmost_ends = refl

leftmost_conflict : c_leftmost reads_and_writes [] 20 ≡ seen [] (undefined U1 0 9)
leftmost_conflict = refl

-- ---- what isn't written

-- two objects of type `int` with the value 0, in blocks 0 and 1
abbrev two_slots : Frame
two_slots = record { object = 0; block = 0 } ∷ record { object = 1; block = 1 } ∷ []

abbrev two_zeroes : CWorld
two_zeroes = record { memory = Some (zeroed int_type) ∷ Some (zeroed int_type) ∷ []; events = []; answers = [] }

abbrev start_of : ℕ → Ptr
start_of number = record { block = number; offset = 0 }

-- the bits of the first object
abbrev first_bits : Range
first_bits = record { block = 0; from = 0; to = 32 }

-- after `x0 = 7`, with one step, the operand and the memory
abbrev after_store : CRan COperand
after_store = c_value (program [] no_stmts) two_slots (set 9 0 (number 9 7)) two_zeroes 1

abbrev memory_after : Blocks
memory_after = (state_of after_store).memory

abbrev marks_after : CRan COperand → Option Marks
marks_after (came operand world left) = Some operand.marks
marks_after (halted status world) = None
marks_after (bad fault world) = None
marks_after (out world) = None

-- it wrote the bits of the first object
store_writes : marks_after after_store ≡ Some (record { reads = []; writes = first_bits ∷ []; still = first_bits ∷ [] })
store_writes = refl

-- these avoid the bits of the second object, and not a byte of the first
beside_the_first : Avoids (first_bits ∷ []) (bits_at (start_of 1) (Whole 32 true))
beside_the_first = refl

inside_the_first : any_overlap (first_bits ∷ []) (bits_of_bytes (record { block = 0; offset = 3 }) 1 ∷ []) ≡ true
inside_the_first = refl

behind_the_first : Avoids (first_bits ∷ []) (bits_of_bytes (record { block = 0; offset = 4 }) 1)
behind_the_first = refl

-- and what is loaded from the second is what it was, while the first has another value
second_stays : value_at memory_after (start_of 1) (Whole 32 true) ≡ value_at two_zeroes.memory (start_of 1) (Whole 32 true)
second_stays = refl

first_is_seven : value_at memory_after (start_of 0) (Whole 32 true) ≡ Ok (Number (pos 7))
first_is_seven = refl
