-- Worked runs: undefined calls, missing values, what is freed, and bytes that overlap (U13 to U16).
use Rattle.std.proofs.Common.{◌≡◌, ℕ, pos, List, [], ◌∷◌, codes, refl}
use Rattle.cr_base.specs.declared.rule.URule.TheVariants.{U5, U6, U13, U14, U15, U16}
use Rattle.cx_core.specs.declared.expr.Op2.TheVariants.{Add}
use Rattle.cx_core.specs.Conversions.{same_basic}
use Rattle.cx_core.specs.Layouts.{layouts_of}
use Rattle.cx_core.specs.Trees.{CExpr, CObject, CTy, CProgram, CStmt, stmt, block, call, expr, no_types_yet}
use Rattle.cr_world.specs.Known.{known_table}
use Rattle.cx_mean.proofs.Programs.{Both, at, exprs, stmts, int_t, char_t, size_t, void_t, to, array_of, to_void, n, number_as, var, var_as, val, val_as, get, set, two, two_as, conv, addr, first_of, star, null_as, fun_pointer, taking, taking_unlisted, both_true, sequence, calls, calls_as, calls_by, run, run_void, give, when, decl_to, skip, program, program_of, main_fun, fun, in_block, static, local, put_at, runs, ends, breaks_at}

x1 : CObject
x1 = static 1 int_t (put_at 0 (n 1) ∷ [])

x3 : CObject
x3 = static 3 (array_of 2 int_t) []

x8 : CObject
x8 = static 8 (array_of 8 char_t) []

-- ---- U13: calls

-- `int f(int x9) { return 0; }` is function 1; `char g(void) { return 0; }` is function 2
with_functions : List CStmt → CProgram
with_functions list = program_of no_types_yet (local 9 int_t ∷ [])
    (main_fun [] list
    ∷ fun 1 (codes "f") (taking int_t (int_t ∷ [])) (9 ∷ []) (in_block [] (give (n 0) ∷ []))
    ∷ fun 2 (codes "g") (taking char_t []) [] (in_block [] (give (number_as char_t (pos 5)) ∷ [])) ∷ [])

function_type : CTy
function_type = taking int_t []

u13 : CExpr → Both
u13 value = runs (with_functions (give value ∷ [])) 40

-- null; `int (*)()` called without arguments; a pointer to another type
null_call : u13 (calls_by int_t (null_as (to function_type)) []) ≡ breaks_at 1 U13
unfolding layouts_of same_basic with_functions function_type u13
null_call = refl

row_d : u13 (calls_by int_t (fun_pointer (taking_unlisted int_t) 1) []) ≡ breaks_at 1 U13
unfolding layouts_of same_basic with_functions u13
row_d = refl

other_type : u13 (calls_by int_t (conv (to function_type) (fun_pointer (taking char_t []) 2)) []) ≡ breaks_at 1 U13
unfolding layouts_of same_basic with_functions function_type u13
other_type = refl

-- by name, through a type without parameter list
wrong_count : u13 (calls 1 []) ≡ breaks_at 1 U13
unfolding layouts_of same_basic with_functions u13
wrong_count = refl

-- its own type, and one that is compatible with it
right_calls : u13 (calls_by char_t (fun_pointer (taking char_t []) 2) []) ≡ ends (pos 5)
unfolding layouts_of same_basic with_functions u13
right_calls = refl

compatible_call : u13 (calls_by char_t (conv (to (taking_unlisted char_t)) (fun_pointer (taking char_t []) 2)) []) ≡ ends (pos 5)
unfolding layouts_of same_basic with_functions u13
compatible_call = refl

-- ---- U14: missing values: `int f(int x9) { if (x9) return 7; }`

may_give : List CStmt → Both
may_give list = runs (program_of no_types_yet (local 9 int_t ∷ local 8 int_t ∷ [])
    (main_fun (8 ∷ []) list
    ∷ fun 1 (codes "f") (taking int_t (int_t ∷ [])) (9 ∷ []) (in_block [] (when (val 9) (give (n 7)) ∷ [])) ∷ [])) 60

f : ℕ → CExpr
f k = calls 1 (n k ∷ [])

missing_used : may_give (give (two Add (f 0) (n 1)) ∷ []) ≡ breaks_at 1 U14
unfolding layouts_of may_give f
missing_used = refl

missing_returned : may_give (give (f 0) ∷ []) ≡ breaks_at 1 U14
unfolding layouts_of may_give f
missing_returned = refl

missing_passed : may_give (run (calls 1 (f 0 ∷ [])) ∷ []) ≡ breaks_at 1 U14
unfolding layouts_of may_give f
missing_passed = refl

-- at the call, which stands on line 1; the body of `g` stands on line 7
missing_passed_on : runs (program_of no_types_yet (local 8 int_t ∷ local 9 int_t ∷ [])
    (main_fun [] (run (calls 2 (f 0 ∷ [])) ∷ [])
    ∷ fun 1 (codes "f") (taking int_t (int_t ∷ [])) (9 ∷ []) (in_block [] [])
    ∷ fun 2 (codes "g") (taking int_t (int_t ∷ [])) (8 ∷ []) (stmt (at 7) [] (block (stmts (give (n 1) ∷ [])))) ∷ [])) 60 ≡ breaks_at 1 U14
unfolding layouts_of f
missing_passed_on = refl

missing_stored : may_give (decl_to 8 (f 0) ∷ []) ≡ breaks_at 1 U14
unfolding layouts_of may_give f
missing_stored = refl

missing_assigned : may_give (run (set (var 8) (f 0)) ∷ []) ≡ breaks_at 1 U14
unfolding layouts_of may_give f
missing_assigned = refl

missing_tested : may_give (when (f 0) skip ∷ []) ≡ breaks_at 1 U14
unfolding layouts_of may_give f
missing_tested = refl

-- a condition without a value (6.9.1p12) is undefined at its own line, which is the second one: `if (` and `f(0)) ;`
missing_tested_below : may_give (when (expr int_t (at 2) (call 1 (exprs (n 0 ∷ [])))) skip ∷ []) ≡ breaks_at 2 U14
unfolding layouts_of may_give
missing_tested_below = refl

missing_chosen : may_give (give (both_true (n 1) (f 0)) ∷ []) ≡ breaks_at 1 U14
unfolding layouts_of may_give f
missing_chosen = refl

missing_converted : may_give (give (conv int_t (conv char_t (f 0))) ∷ []) ≡ breaks_at 1 U14
unfolding layouts_of may_give f
missing_converted = refl

-- dropped it is nothing wrong, and where `return` was reached neither
missing_dropped : may_give (run (f 0) ∷ give (sequence (conv void_t (f 0)) (n 3)) ∷ []) ≡ ends (pos 3)
unfolding layouts_of may_give f
missing_dropped = refl

not_missing : may_give (give (two Add (f 1) (n 1)) ∷ []) ≡ ends (pos 8)
unfolding layouts_of may_give f
not_missing = refl

-- ---- U15: what is freed

free : CExpr → CExpr
free value = calls_as void_t 105 (value ∷ [])

allocated : CExpr
allocated = calls_as to_void 103 (number_as size_t (pos 8) ∷ [])

-- `void *x9;`
frees : List CStmt → Both
frees list = runs (program (x1 ∷ x3 ∷ static 9 to_void [] ∷ []) (run (set (var_as to_void 9) allocated) ∷ list)) 60

x9 : CExpr
x9 = val_as to_void 9

object_freed : frees (run_void (free (conv to_void (addr (var 1)))) ∷ []) ≡ breaks_at 1 U15
unfolding layouts_of known_table x1 x3 free allocated frees
object_freed = refl

middle_freed : frees (run_void (free (conv to_void (two_as (to char_t) Add (conv (to char_t) x9) (n 1)))) ∷ []) ≡ breaks_at 1 U15
unfolding layouts_of known_table x1 x3 free allocated frees x9
middle_freed = refl

freed_twice : frees (run_void (free x9) ∷ run_void (free x9) ∷ []) ≡ breaks_at 1 U15
unfolding layouts_of known_table x1 x3 free allocated frees x9
freed_twice = refl

freed_once : frees (run_void (free x9) ∷ run_void (free (null_as to_void)) ∷ []) ≡ ends (pos 0)
unfolding layouts_of known_table x1 x3 free allocated frees x9
freed_once = refl

-- an access after that is U5
freed_accessed : frees (run_void (free x9) ∷ run (conv int_t (get (star char_t (conv (to char_t) x9)))) ∷ []) ≡ breaks_at 1 U5
unfolding layouts_of known_table x1 x3 free allocated frees x9
freed_accessed = refl

-- ---- U16: bytes that overlap; that of records is in ExampleRecords.antt

p8 : ℕ → CExpr
p8 k = conv to_void (two_as (to char_t) Add (first_of char_t (var_as (array_of 8 char_t) 8)) (n k))

copies : ℕ → ℕ → ℕ → ℕ → Both
copies which target source count =
    runs (program (x8 ∷ []) (run (calls_as to_void which (p8 target ∷ p8 source ∷ number_as size_t (pos count) ∷ [])) ∷ [])) 60

overlapping : copies 106 1 0 2 ≡ breaks_at 1 U16
unfolding layouts_of known_table x8 p8 copies
overlapping = refl

same_bytes : copies 106 1 1 1 ≡ breaks_at 1 U16
unfolding layouts_of known_table x8 p8 copies
same_bytes = refl

beside : copies 106 2 0 2 ≡ ends (pos 0)
unfolding layouts_of known_table x8 p8 copies
beside = refl

moved : copies 107 1 0 2 ≡ ends (pos 0)
unfolding layouts_of known_table x8 p8 copies
moved = refl

nothing_copied : copies 106 1 1 0 ≡ ends (pos 0)
unfolding layouts_of known_table x8 p8 copies
nothing_copied = refl

outside_copied : copies 107 1 0 8 ≡ breaks_at 1 U6
unfolding layouts_of known_table x8 p8 copies
outside_copied = refl
