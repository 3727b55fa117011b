-- Worked runs: calls of functions, what they give, and functions of the library.
use Rattle.std.proofs.Common.{◌≡◌, ℕ, suc, pos, negsuc, true, List, [], ◌∷◌, Some, None, codes, refl}
use Rattle.cr_base.specs.declared.rule.URule.TheVariants.{U5, U6, U7, U9}
use Rattle.cr_base.specs.declared.scalar.Scalar.TheVariants.{Whole}
use Rattle.cx_core.specs.Conversions.{same_basic}
use Rattle.cx_core.specs.declared.expr.Op2.TheVariants.{Multiply, Add, Subtract, Equal, NotEqual}
use Rattle.cx_core.specs.declared.program.Linkage.TheVariants.{Nothing}
use Rattle.cx_core.specs.Layouts.{layouts_of}
use Rattle.cx_core.specs.Trees.{CExpr, CObject, CProgram, CPut, no_types_yet, while, returns}
use Rattle.cr_world.specs.Known.{known_table}
use Rattle.cr_world.specs.World.{Outside}
use Rattle.cx_core.specs.declared.ty.Basic.TheVariants.{Short}
use Rattle.cx_mean.proofs.Programs.{Both, plain, runs_with, trailed, int_t, char_t, size_t, void_t, to, to_void, array_of, to_const_char, n, number, number_as, var, var_as, val, val_as, get, set, post_up, two, two_as, conv, addr, first_of, star, null_as, fun_pointer, taking, choose, sequence, calls, calls_as, calls_by, put_at, puts, does, run, run_void, give, when, decl, decl_to, in_block, static, local, fun, main_fun, program, program_of, with_locals, putchar, printed, answers, silent, runs, seen, ends, breaks_at}
use Rattle.cx_mean.specs.Run.{going, ended, is_full, asks_for, is_astray}
use Rattle.ext_calls.specs.declared.call.Arg.TheVariants.{Whole as WholeArg, Text as TextArg}
use Rattle.ext_calls.specs.declared.call.Call.{Call}
use Rattle.mem_bytes.specs.Counted.{Limit}

-- ---- functions that units define

-- `int f(int n) { return n ? n + f(n - 1) : 0; } int main(void) { return f(6); }`
sums : ℕ → CProgram
sums k = program_of no_types_yet (local 1 int_t ∷ [])
    (main_fun [] (give (calls 1 (n k ∷ [])) ∷ [])
    ∷ fun 1 (codes "f") (taking int_t (int_t ∷ [])) (1 ∷ [])
    (in_block [] (give (choose (val 1) (two Add (val 1) (calls 1 (two Subtract (val 1) (n 1) ∷ []))) (n 0)) ∷ [])) ∷ [])

recursion : runs_with (sums 6) silent 200 ≡ ends (pos 21)
unfolding layouts_of sums
recursion = refl

-- the same of 100 gives 5050
deep_recursion : runs_with (sums 100) silent 2000 ≡ ends (pos 5050)
unfolding layouts_of sums
deep_recursion = refl

-- a call takes these steps: the call itself, the life of each parameter, the body; `int f(int x1) { return 0; }`
params_begin : CProgram
params_begin = program_of no_types_yet (local 1 int_t ∷ local 2 int_t ∷ [])
    (main_fun [] (give (calls 1 (n 4 ∷ n 5 ∷ [])) ∷ [])
    ∷ fun 1 (codes "f") (taking int_t (int_t ∷ int_t ∷ [])) (1 ∷ 2 ∷ []) (in_block [] (give (two Subtract (val 1) (val 2)) ∷ [])) ∷ [])

-- `main`, its block, `return`; the call, two lives; the block, `return`, two loads, the difference, the return; the return
thirteen_steps : runs_with params_begin silent 13 ≡ ends (negsuc 0)
unfolding layouts_of params_begin
thirteen_steps = refl

twelve_steps : runs_with params_begin silent 12 ≡ seen [] going
unfolding layouts_of params_begin
twelve_steps = refl

-- a parameter is an object of its own, and dies at the return: `int *f(int x1) { return &x1; } .. *f(3)`
dead_param : runs (program_of no_types_yet (local 1 int_t ∷ [])
    (main_fun [] (give (get (star int_t (calls_as (to int_t) 1 (n 3 ∷ [])))) ∷ [])
    ∷ fun 1 (codes "f") (taking (to int_t) (int_t ∷ [])) (1 ∷ []) (in_block [] (give (addr (var 1)) ∷ [])) ∷ [])) 60 ≡ breaks_at 1 U5
unfolding layouts_of
dead_param = refl

-- and so is an object of its block, out of which `return` leads
dead_local : runs (program_of no_types_yet (local 1 int_t ∷ [])
    (main_fun [] (give (get (star int_t (calls_as (to int_t) 1 []))) ∷ [])
    ∷ fun 1 (codes "f") (taking (to int_t) []) [] (in_block (1 ∷ []) (decl_to 1 (n 3) ∷ give (addr (var 1)) ∷ [])) ∷ [])) 60 ≡ breaks_at 1 U5
unfolding layouts_of
dead_local = refl

-- a function with result `void`: its end, and `return;`: `int x1; void f(void) { x1 = 2; return; } void g(void) { x1 = x1 + 3; }`
void_functions : runs (program_of no_types_yet (static 1 int_t [] ∷ [])
    (main_fun [] (run_void (calls_as void_t 1 []) ∷ run_void (calls_as void_t 2 []) ∷ give (val 1) ∷ [])
    ∷ fun 1 (codes "f") (taking void_t []) [] (in_block [] (run (set (var 1) (n 2)) ∷ does (returns None) ∷ run (set (var 1) (n 9)) ∷ []))
    ∷ fun 2 (codes "g") (taking void_t []) [] (in_block [] (run (set (var 1) (two Add (val 1) (n 3))) ∷ [])) ∷ [])) 80 ≡ ends (pos 5)
unfolding layouts_of
void_functions = refl

-- by a pointer, which is evaluated as the arguments are: `int (*x3)(int) = f; .. x3(4) + (*x3)(5)`
pointer_calls : runs (program_of no_types_yet (local 1 int_t ∷ static 3 (to (taking int_t (int_t ∷ []))) (put_at 0 (fun_pointer (taking int_t (int_t ∷ [])) 1) ∷ []) ∷ [])
    (main_fun [] (give (two Add (calls_by int_t (val_as (to (taking int_t (int_t ∷ []))) 3) (n 4 ∷ [])) (calls_by int_t (fun_pointer (taking int_t (int_t ∷ [])) 1) (n 5 ∷ []))) ∷ [])
    ∷ fun 1 (codes "f") (taking int_t (int_t ∷ [])) (1 ∷ []) (in_block [] (give (two Multiply (val 1) (n 10)) ∷ [])) ∷ [])) 80 ≡ ends (pos 90)
unfolding layouts_of same_basic
pointer_calls = refl

-- `main` may be called, and its end gives 0 there, too: `int x1; int main(void) { if (x1++ == 0) return main() + 7; }`
main_called : runs (program (static 1 int_t [] ∷ []) (when (two Equal (post_up (var 1)) (n 0)) (give (two Add (calls 0 []) (n 7))) ∷ [])) 60 ≡ ends (pos 7)
unfolding layouts_of
main_called = refl

-- accesses inside a called function are no conflict with those of its caller: `x1 = f() + x1`, where `f` stores in `x1`
called_accesses : runs (program_of no_types_yet (static 1 int_t (put_at 0 (n 1) ∷ []) ∷ [])
    (main_fun [] (run (set (var 1) (two Add (calls 1 []) (val 1))) ∷ give (val 1) ∷ [])
    ∷ fun 1 (codes "f") (taking int_t []) [] (in_block [] (run (set (var 1) (n 5)) ∷ give (n 10) ∷ [])) ∷ [])) 80 ≡ ends (pos 15)
unfolding layouts_of
called_accesses = refl

-- ---- texts and answers

-- `printf("%d %s\n", 'A', "x")`: texts are read at the call
chars_from : ℕ → List ℕ → List CPut
chars_from k [] = []
chars_from k (first ∷ others) = put_at k (number_as char_t (pos first)) ∷ chars_from (suc k) others

text_object : ℕ → List ℕ → CObject
text_object k bytes = record {
  object = k;
  unit = 0;
  name = None;
  is_text = true;
  type = array_of 4 char_t;
  linkage = Nothing;
  puts = Some (puts (chars_from 0 bytes));
}

row_twelve : runs_with (program (text_object 1 (37 ∷ 115 ∷ 10 ∷ 0 ∷ []) ∷ text_object 2 (120 ∷ 0 ∷ 0 ∷ 0 ∷ []) ∷ [])
    (give (calls 101 (conv to_const_char (first_of char_t (var_as (array_of 4 char_t) 1)) ∷ n 65 ∷ first_of char_t (var_as (array_of 4 char_t) 2) ∷ [])) ∷ [])) (answers (pos 5 ∷ [])) 60
    ≡ seen (record { name = codes "printf"; args = TextArg (37 ∷ 115 ∷ 10 ∷ []) ∷ WholeArg (Whole 32 true) (pos 65) ∷ TextArg (120 ∷ []) ∷ [] } ∷ []) (ended (pos 5))
unfolding layouts_of known_table text_object chars_from
row_twelve = refl

-- no zero byte in the object, an unset byte, null, and bytes of a pointer
bad_text : List CObject → CExpr → Both
bad_text objects value = runs (with_locals (local 7 (array_of 2 char_t) ∷ objects) (7 ∷ []) (run (calls 101 (conv to_const_char value ∷ [])) ∷ [])) 60

text_without_end : bad_text (static 1 (array_of 2 char_t) (put_at 0 (number_as char_t (pos 97)) ∷ put_at 1 (number_as char_t (pos 98)) ∷ []) ∷ [])
    (first_of char_t (var_as (array_of 2 char_t) 1)) ≡ breaks_at 1 U6
unfolding layouts_of known_table bad_text
text_without_end = refl

text_unset : bad_text [] (first_of char_t (var_as (array_of 2 char_t) 7)) ≡ breaks_at 1 U7
unfolding layouts_of known_table bad_text
text_unset = refl

text_null : bad_text [] (null_as (to char_t)) ≡ breaks_at 1 U6
unfolding layouts_of known_table bad_text
text_null = refl

text_of_pointer : bad_text (static 1 to_void (put_at 0 (conv to_void (addr (var_as to_void 1))) ∷ []) ∷ []) (conv (to char_t) (addr (var_as to_void 1))) ≡ breaks_at 1 U9
unfolding layouts_of known_table bad_text
text_of_pointer = refl

got : Call
got = record { name = codes "getchar"; args = [] }

-- `while ((x1 = getchar()) != -1) putchar(x1);` over 104, 105 and -1
row_twenty_eight : runs_with (with_locals (local 1 int_t ∷ []) (1 ∷ []) (
    decl 1 ∷ does (while (two NotEqual (set (var 1) (calls 102 [])) (number (negsuc 0))) (run (putchar (val 1)))) ∷ give (n 0) ∷ [])) (answers (pos 104 ∷ pos 0 ∷ pos 105 ∷ pos 0 ∷ negsuc 0 ∷ [])) 200
    ≡ seen (got ∷ printed 104 ∷ got ∷ printed 105 ∷ got ∷ []) (ended (pos 0))
unfolding layouts_of known_table got
row_twenty_eight = refl

-- ---- functions whose meaning is known

-- `char *x1;`
bytes : CObject
bytes = static 1 (to char_t) []

x1 : CExpr
x1 = val_as (to char_t) 1

size : ℕ → CExpr
size k = number_as size_t (pos k)

malloc : ℕ → CExpr
malloc k = conv (to char_t) (calls_as to_void 103 (size k ∷ []))

calloc : ℕ → ℕ → CExpr
calloc k l = conv (to char_t) (calls_as to_void 104 (size k ∷ size l ∷ []))

-- `x1 = E; if (!x1) return 99; return F;`
after : CExpr → CExpr → Outside → Both
after given value outside = runs_with (program (bytes ∷ []) (
    run (set (var_as (to char_t) 1) given) ∷ when (two Equal x1 (null_as (to char_t))) (give (n 99)) ∷ give value ∷ [])) outside 80

-- `x1[k]`
byte_of : ℕ → CExpr
byte_of k = star char_t (two_as (to char_t) Add x1 (n k))

char : ℕ → CExpr
char k = number_as char_t (pos k)

malloc_stores : after (malloc 4) (sequence (set (byte_of 3) (char 5)) (conv int_t (get (byte_of 3)))) silent ≡ ends (pos 5)
unfolding layouts_of known_table bytes x1 size malloc after byte_of char
malloc_stores = refl

malloc_unset : after (malloc 4) (conv int_t (get (byte_of 0))) silent ≡ breaks_at 1 U7
unfolding layouts_of known_table bytes x1 size malloc after byte_of
malloc_unset = refl

malloc_outside : after (malloc 4) (conv int_t (get (byte_of 4))) silent ≡ breaks_at 1 U6
unfolding layouts_of known_table bytes x1 size malloc after byte_of
malloc_outside = refl

-- the outside may refuse; an answer other than 0 doesn't
malloc_refused : after (malloc 4) (n 1) (answers (pos 0 ∷ [])) ≡ ends (pos 99)
unfolding layouts_of known_table bytes x1 size malloc after
malloc_refused = refl

malloc_granted : after (malloc 4) (n 1) (answers (negsuc 6 ∷ [])) ≡ ends (pos 1)
unfolding layouts_of known_table bytes x1 size malloc after
malloc_granted = refl

-- past the most bytes it gives null and takes no answer: the answer 7 is that of `getchar`
malloc_large : runs_with (program (bytes ∷ []) (run (set (var_as (to char_t) 1) (malloc 16777217)) ∷ when (two NotEqual x1 (null_as (to char_t))) (give (n 98)) ∷ give (calls 102 []) ∷ [])) (answers (pos 7 ∷ [])) 80 ≡ seen (got ∷ []) (ended (pos 7))
unfolding layouts_of known_table bytes x1 size malloc got
malloc_large = refl

calloc_zero : after (calloc 2 3) (conv int_t (get (byte_of 5))) silent ≡ ends (pos 0)
unfolding layouts_of known_table bytes x1 size calloc after byte_of
calloc_zero = refl

calloc_refused : after (calloc 2 3) (n 1) (answers (pos 0 ∷ [])) ≡ ends (pos 99)
unfolding layouts_of known_table bytes x1 size calloc after
calloc_refused = refl

-- the product isn't taken modulo 2^64
calloc_large : after (calloc 4294967296 4294967296) (n 1) (answers (pos 7 ∷ [])) ≡ ends (pos 99)
unfolding layouts_of known_table bytes x1 size calloc after
calloc_large = refl

-- `memset(x1, 258, 2)` sets bytes modulo 256; `memcpy(x1 + 2, x1, 2)`, `memmove(x1 + 1, x1, 2)`; they give their first argument
fills : CExpr → ℕ → ℕ → CExpr
fills target value count = conv (to char_t) (calls_as to_void 108 (conv to_void target ∷ n value ∷ size count ∷ []))

moves : ℕ → CExpr → CExpr → ℕ → CExpr
moves which target source count = conv (to char_t) (calls_as to_void which (conv to_void target ∷ conv to_void source ∷ size count ∷ []))

-- `memset` of what is freed
fills_raw : ℕ → CExpr
fills_raw count = calls_as to_void 108 (val_as to_void 1 ∷ n 0 ∷ size count ∷ [])

plus : ℕ → CExpr
plus k = two_as (to char_t) Add x1 (n k)

memset_sets : after (malloc 4) (sequence (fills x1 258 2) (conv int_t (get (byte_of 1)))) silent ≡ ends (pos 2)
unfolding layouts_of known_table bytes x1 size malloc after byte_of fills
memset_sets = refl

-- both bytes, as one number: 2 * 256 + 2
memset_bytes : after (malloc 4) (sequence (fills x1 258 2) (conv int_t (get (star (plain Short) (conv (to (plain Short)) x1))))) silent ≡ ends (pos 514)
unfolding layouts_of known_table bytes x1 size malloc after fills
memset_bytes = refl

memset_beside : after (malloc 4) (sequence (fills x1 258 2) (conv int_t (get (byte_of 2)))) silent ≡ breaks_at 1 U7
unfolding layouts_of known_table bytes x1 size malloc after byte_of fills
memset_beside = refl

memset_gives : after (malloc 4) (conv int_t (get (star char_t (fills x1 7 1)))) silent ≡ ends (pos 7)
unfolding layouts_of known_table bytes x1 size malloc after fills
memset_gives = refl

memset_outside : after (malloc 4) (sequence (fills x1 0 5) (n 1)) silent ≡ breaks_at 1 U6
unfolding layouts_of known_table bytes x1 size malloc after fills
memset_outside = refl

-- for no bytes the place has to live, and not be null; a copy of no bytes asks for nothing
memset_null : after (malloc 4) (sequence (fills (null_as (to char_t)) 0 0) (n 1)) silent ≡ breaks_at 1 U6
unfolding layouts_of known_table bytes x1 size malloc after fills
memset_null = refl

memset_dead : after (malloc 4) (sequence (calls_as void_t 105 (conv to_void x1 ∷ [])) (sequence (fills_raw 0) (n 1))) silent ≡ breaks_at 1 U5
unfolding layouts_of known_table bytes x1 size malloc after fills_raw
memset_dead = refl

memcpy_copies : after (calloc 4 1) (sequence (set (byte_of 0) (char 6)) (sequence (moves 106 (plus 2) x1 2) (conv int_t (get (byte_of 2))))) silent ≡ ends (pos 6)
unfolding layouts_of known_table bytes x1 size calloc after byte_of char moves plus
memcpy_copies = refl

memcpy_null : after (calloc 4 1) (sequence (moves 106 (null_as (to char_t)) x1 2) (n 1)) silent ≡ breaks_at 1 U6
unfolding layouts_of known_table bytes x1 size calloc after moves
memcpy_null = refl

memcpy_nothing : after (calloc 4 1) (sequence (moves 106 (null_as (to char_t)) (null_as (to char_t)) 0) (n 1)) silent ≡ ends (pos 1)
unfolding layouts_of known_table bytes x1 size calloc after moves
memcpy_nothing = refl

memmove_overlaps : after (calloc 4 1) (sequence (set (byte_of 0) (char 6)) (sequence (set (byte_of 1) (char 7)) (sequence (moves 107 (plus 1) x1 2) (conv int_t (get (byte_of 2)))))) silent
    ≡ ends (pos 7)
unfolding layouts_of known_table bytes x1 size calloc after byte_of char moves plus
memmove_overlaps = refl

-- a copy takes unset bytes along
copies_unset : after (malloc 4) (sequence (moves 106 (plus 2) x1 2) (n 1)) silent ≡ ends (pos 1)
unfolding layouts_of known_table bytes x1 size malloc after moves plus
copies_unset = refl

-- `exit(5)` inside a function, and `abort()`: nothing follows
exits : runs (program_of no_types_yet [] (main_fun [] (run_void (calls_as void_t 1 []) ∷ run (putchar (n 1)) ∷ give (n 1) ∷ [])
    ∷ fun 1 (codes "f") (taking void_t []) [] (in_block [] (run_void (calls_as void_t 109 (n 5 ∷ [])) ∷ [])) ∷ [])) 60 ≡ ends (pos 5)
unfolding layouts_of known_table
exits = refl

aborts : runs (program [] (run_void (calls_as void_t 110 []) ∷ run (putchar (n 1)) ∷ [])) 60 ≡ ends (pos 134)
unfolding layouts_of known_table
aborts = refl

-- ---- under a trail

two_allocations : CProgram
two_allocations = program (bytes ∷ []) (
    run (set (var_as (to char_t) 1) (malloc 4)) ∷ run (set (var_as (to char_t) 1) (malloc 8))
    ∷ when (two Equal x1 (null_as (to char_t))) (give (n 99)) ∷ give (putchar (n 1)) ∷ [])

limit_of : ℕ → ℕ → Limit
limit_of most blocks = record { bytes = most; blocks = blocks }

-- a store without limit grants both; the call is answered by the trail
trail_granted : trailed two_allocations None (pos 1 ∷ pos 1 ∷ pos 7 ∷ []) 60 ≡ seen (printed 1 ∷ []) (ended (pos 7))
unfolding layouts_of known_table bytes x1 size malloc two_allocations
trail_granted = refl

-- 8 bytes of `x1` and 4 leave 4 of 16: the second is refused, and the trail says so
trail_refused : trailed two_allocations (Some (limit_of 16 9)) (pos 1 ∷ pos 0 ∷ pos 7 ∷ []) 60 ≡ ends (pos 99)
unfolding layouts_of known_table bytes x1 size malloc two_allocations limit_of
trail_refused = refl

-- one that says otherwise is none of this store
trail_astray : trailed two_allocations (Some (limit_of 16 9)) (pos 1 ∷ pos 1 ∷ pos 7 ∷ []) 60 ≡ seen [] is_astray
unfolding layouts_of known_table bytes x1 size malloc two_allocations limit_of
trail_astray = refl

-- as many blocks as there may be
trail_blocks : trailed two_allocations (Some (limit_of 64 2)) (pos 1 ∷ pos 0 ∷ []) 60 ≡ ends (pos 99)
unfolding layouts_of known_table bytes x1 size malloc two_allocations limit_of
trail_blocks = refl

-- the call has no answer there
trail_asks : trailed two_allocations None (pos 1 ∷ pos 1 ∷ []) 60 ≡ seen [] (asks_for (printed 1))
unfolding layouts_of known_table bytes x1 size malloc two_allocations
trail_asks = refl

-- `char big[100];` in a store of 64 bytes
row_twenty_three : trailed (program (static 2 (array_of 100 char_t) [] ∷ []) (give (n 0) ∷ [])) (Some (limit_of 64 9)) [] 60
    ≡ seen [] (is_full 100 64)
unfolding layouts_of limit_of
row_twenty_three = refl

-- an object of a block, and a parameter
full_block : trailed (with_locals (local 2 int_t ∷ local 3 int_t ∷ []) (2 ∷ 3 ∷ []) (give (n 0) ∷ [])) (Some (limit_of 7 9)) [] 60
    ≡ seen [] (is_full 4 3)
unfolding layouts_of limit_of
full_block = refl

full_param : trailed (sums 2) (Some (limit_of 9 9)) [] 200 ≡ seen [] (is_full 4 1)
unfolding layouts_of limit_of sums
full_param = refl
