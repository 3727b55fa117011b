-- Worked runs: undefined steps, by each rule (U1 to U12).
use Rattle.std.proofs.Common.{◌≡◌, ℕ, pos, negsuc, List, [], ◌∷◌, refl}
use Rattle.cr_base.specs.declared.rule.URule.TheVariants.{U1, U2, U3, U4, U5, U6, U7, U8, U9, U10, U11, U12}
use Rattle.cx_core.specs.declared.expr.Op1.TheVariants.{Minus, Not}
use Rattle.cx_core.specs.declared.expr.Op2.TheVariants.{Multiply, Divide, Remainder, Add, Subtract, ShiftLeft, ShiftRight, Less, Greater, LessOrEqual, GreaterOrEqual, Equal, NotEqual}
use Rattle.cx_core.specs.declared.ty.Basic.TheVariants.{Truth, Short}
use Rattle.cx_core.specs.Layouts.{layouts_of}
use Rattle.cx_core.specs.Trees.{CExpr, expr, binary, CObject, CTy}
use Rattle.cr_world.specs.Known.{known_table}
use Rattle.cx_mean.proofs.Programs.{Both, at, plain, int_t, char_t, unsigned_t, long_t, void_t, to, array_of, to_void, n, number, number_as, var, var_as, val, val_as, get, set, set_by, post_up, pre_down, two, two_as, one_as, conv, addr, first_of, star, null_as, both_true, either_true, choose, sequence, run, give, when, decl, skip, program, with_locals, in_block, static, local, put_at, runs, ends, gives, all_end, all_break, breaks_at, putchar, seen, printed}
use Rattle.cx_mean.specs.Run.{ended, undefined}

-- each of these values breaks a rule
x1 : CObject
x1 = static 1 int_t (put_at 0 (n 1) ∷ [])

x2 : CObject
x2 = static 2 int_t []

-- ---- U1: conflicts

u1 : List CExpr
u1 =
    -- `x1 = x1++ + 1`
    set (var 1) (two Add (post_up (var 1)) (n 1))
    -- `x1 + (x1 = 1)`, and the other way round
    ∷ two Add (val 1) (set (var 1) (n 1)) ∷ two Add (set (var 1) (n 1)) (val 1)
    -- what either operand of an operand read counts: `(x2 + x1) + (x1 = 1)`, `(x1 + x2) + (x1 = 1)`
    ∷ two Add (two Add (val 2) (val 1)) (set (var 1) (n 1)) ∷ two Add (two Add (val 1) (val 2)) (set (var 1) (n 1))
    -- and what one wrote: `((x2 = 1) + (x1 = 1)) + x1`
    ∷ two Add (two Add (set (var 2) (n 1)) (set (var 1) (n 1))) (val 1)
    -- `(x1 = 1) + (x1 = 2)`, `x1++ + x1++`
    ∷ two Add (set (var 1) (n 1)) (set (var 1) (n 2)) ∷ two Add (post_up (var 1)) (post_up (var 1))
    -- `x1 = (x1 = 1)`, `x1 += x1++`
    ∷ set (var 1) (set (var 1) (n 1)) ∷ set_by Add int_t (var 1) (post_up (var 1))
    -- what an operand of `+=` wrote counts behind it: `(x1 += (x2 = 1)) + x2`
    ∷ two Add (set_by Add int_t (var 1) (set (var 2) (n 1))) (val 2)
    -- a sequence point inside one operand is none between two: `(x1++, 5) + x1`
    ∷ two Add (sequence (post_up (var 1)) (n 5)) (val 1) ∷ two Add (val 1) (both_true (n 1) (set (var 1) (n 1)))
    ∷ two Add (val 1) (both_true (set (var 1) (n 1)) (n 1)) ∷ two Add (val 1) (either_true (set (var 1) (n 0)) (n 1))
    ∷ two Add (val 1) (choose (set (var 1) (n 1)) (n 2) (n 3)) ∷ two Add (val 1) (choose (n 1) (set (var 1) (n 2)) (n 3)) ∷ []

conflicts : gives (x1 ∷ x2 ∷ []) u1 ≡ all_break U1 u1
unfolding layouts_of known_table u1 x1 x2
conflicts = refl

-- the arguments of a call: `putchar(x1 = 1) + x1`
conflict_of_argument : gives (x1 ∷ []) (two Add (putchar (set (var 1) (n 1))) (val 1) ∷ [])
    ≡ seen (printed 1 ∷ []) (undefined U1 0 1) ∷ []
unfolding layouts_of known_table x1
conflict_of_argument = refl

-- an access through a pointer counts, too: `*&x1 + (x1 = 2)`; and one of a part: with `int x3[2]`, `x3[0] + (x3[0] = 1)`
x3 : CObject
x3 = static 3 (array_of 2 int_t) []

element : ℕ → CExpr
element k = star int_t (two_as (to int_t) Add (first_of int_t (var_as (array_of 2 int_t) 3)) (n k))

conflicts_of_parts : gives (x1 ∷ x3 ∷ []) (
    two Add (get (star int_t (addr (var 1)))) (set (var 1) (n 2)) ∷ two Add (get (element 0)) (set (element 0) (n 1))
    -- `x3[x3[0] = 0]`: a load of what its own operand wrote; `x3[x3[1] = 0]` reads another element
    ∷ get (star int_t (two_as (to int_t) Add (first_of int_t (var_as (array_of 2 int_t) 3)) (set (element 0) (n 0))))
    ∷ get (star int_t (two_as (to int_t) Add (first_of int_t (var_as (array_of 2 int_t) 3)) (set (element 1) (n 0)))) ∷ [])
    ≡ breaks_at 1 U1 ∷ breaks_at 1 U1 ∷ breaks_at 1 U1 ∷ ends (pos 0) ∷ []
unfolding layouts_of x1 x3 element
conflicts_of_parts = refl

-- no conflict: other elements, two reads, an assignment from itself, an argument before its call
no_conflict : gives (x1 ∷ x2 ∷ x3 ∷ []) (
    two Add (get (element 0)) (set (element 1) (n 1)) ∷ two Add (val 1) (val 1) ∷ set (var 1) (two Add (val 1) (n 1))
    ∷ set (var 1) (putchar (set (var 1) (n 9))) ∷ sequence (set (var 1) (n 3)) (two Add (val 1) (val 1)) ∷ [])
    ≡ ends (pos 1) ∷ ends (pos 2) ∷ ends (pos 2) ∷ seen (printed 9 ∷ []) (ended (pos 0)) ∷ ends (pos 6) ∷ []
unfolding layouts_of known_table x1 x2 x3 element
no_conflict = refl

-- ---- U2: overflow

most : CExpr
most = n 2147483647

lowest : CExpr
lowest = two Subtract (number (negsuc 2147483646)) (n 1)

u2 : List CExpr
u2 = two Add most (n 1) ∷ two Subtract lowest (n 1) ∷ two Multiply (n 65536) (n 32768) ∷ one_as int_t Minus lowest
    ∷ sequence (set (var 2) most) (post_up (var 2)) ∷ sequence (set (var 2) lowest) (pre_down (var 2))
    ∷ sequence (set (var 2) most) (set_by Add int_t (var 2) (n 1))
    ∷ conv int_t (two_as long_t Add (number_as long_t (pos 9223372036854775807)) (number_as long_t (pos 1))) ∷ []

overflows : gives (x1 ∷ x2 ∷ []) u2 ≡ all_break U2 u2
unfolding layouts_of x1 x2 u2 most lowest
overflows = refl

-- ---- U3: division

u3 : List CExpr
u3 = two Divide (n 1) (n 0) ∷ two Remainder (n 1) (n 0) ∷ two Divide lowest (number (negsuc 0)) ∷ two Remainder lowest (number (negsuc 0))
    ∷ conv int_t (two_as unsigned_t Divide (number_as unsigned_t (pos 1)) (number_as unsigned_t (pos 0)))
    ∷ set_by Divide int_t (var 1) (n 0) ∷ []

divisions : gives (x1 ∷ []) u3 ≡ all_break U3 u3
unfolding layouts_of x1 u3 lowest
divisions = refl

-- a step is undefined at the line of its own node, which isn't that of the statement: `return 1 +`, and `1 / 0;` on line 2 (6.5.5p5)
own_line : runs (program [] (give (two Add (n 1) (expr int_t (at 2) (binary Divide (n 1) (n 0)))) ∷ [])) 40 ≡ breaks_at 2 U3
unfolding layouts_of
own_line = refl

-- ---- U4: shifts

u4 : List CExpr
u4 = two ShiftLeft (n 1) (n 32) ∷ two ShiftLeft (n 1) (number (negsuc 0)) ∷ two ShiftLeft (number (negsuc 0)) (n 1)
    ∷ two ShiftLeft (n 1) (n 31) ∷ two ShiftRight (n 1) (n 32) ∷ two ShiftRight (n 1) (number (negsuc 0))
    ∷ conv int_t (two_as long_t ShiftLeft (number_as long_t (pos 1)) (n 63))
    ∷ conv int_t (two_as unsigned_t ShiftLeft (number_as unsigned_t (pos 1)) (n 32)) ∷ set_by ShiftLeft int_t (var 1) (n 40) ∷ []

bad_shifts : gives (x1 ∷ []) u4 ≡ all_break U4 u4
unfolding layouts_of x1 u4
bad_shifts = refl

-- ---- U5: dead objects: `int *x4; int main(void) { { int x5; x4 = &x5; } return E; }`

x4 : CObject
x4 = static 4 (to int_t) []

p4 : CExpr
p4 = get (var_as (to int_t) 4)

after_block : CExpr → Both
after_block value =
    runs (program (x1 ∷ x4 ∷ local 5 int_t ∷ []) (in_block (5 ∷ []) (run (set (var_as (to int_t) 4) (addr (var 5))) ∷ []) ∷ give value ∷ [])) 60

with_dead : List CExpr → List Both
with_dead [] = []
with_dead (first ∷ others) = after_block first ∷ with_dead others

u5 : List CExpr
u5 = get (star int_t p4) ∷ set (star int_t p4) (n 1) ∷ get (star int_t (two_as (to int_t) Add p4 (n 0)))
    ∷ conv int_t (two_as long_t Subtract p4 p4) ∷ two Equal p4 p4 ∷ two NotEqual p4 (null_as (to int_t)) ∷ two Less p4 p4
    ∷ one_as int_t Not p4 ∷ both_true p4 (n 1) ∷ choose p4 (n 1) (n 2) ∷ conv int_t (conv (plain Truth) p4)
    ∷ sequence (conv void_t (conv to_void p4)) (n 1) ∷ sequence (conv void_t (conv (to int_t) p4)) (n 1)
    ∷ get (star int_t (conv (to int_t) (conv to_void p4))) ∷ sequence (post_up (var_as (to int_t) 4)) (n 1) ∷ []

dead_objects : with_dead u5 ≡ all_break U5 u5
unfolding layouts_of x1 x4 p4 after_block with_dead u5
dead_objects = refl

-- a copy of such a pointer, its address and its conversion to `void` aren't undefined
dead_kept : with_dead (sequence (set (var_as (to int_t) 4) p4) (n 3) ∷ sequence (conv void_t p4) (n 4) ∷ sequence (addr (star int_t p4)) (n 5) ∷ [])
    ≡ all_end (pos 3 ∷ pos 4 ∷ pos 5 ∷ [])
unfolding layouts_of x1 x4 p4 after_block with_dead
dead_kept = refl

-- a condition by it
dead_condition : runs (program (x1 ∷ x4 ∷ local 5 int_t ∷ [])
    (in_block (5 ∷ []) (run (set (var_as (to int_t) 4) (addr (var 5))) ∷ []) ∷ when p4 skip ∷ [])) 60 ≡ breaks_at 1 U5
unfolding layouts_of x1 x4 p4
dead_condition = refl

-- ---- U6: outside an object

null_int : CExpr
null_int = null_as (to int_t)

past : CExpr
past = two_as (to int_t) Add (addr (var 1)) (n 1)

u6 : List CExpr
u6 = get (star int_t null_int) ∷ set (star int_t null_int) (n 1) ∷ get (star int_t past) ∷ set (star int_t past) (n 1)
    ∷ post_up (star int_t null_int)
    -- a `long` where an `int` is
    ∷ conv int_t (get (star long_t (conv (to long_t) (addr (var 1))))) ∷ []

outside_objects : gives (x1 ∷ []) u6 ≡ all_break U6 u6
unfolding layouts_of x1 u6 null_int past
outside_objects = refl

-- ---- U7: unset bits

own : CExpr → Both
own value = runs (with_locals (local 1 int_t ∷ local 2 (array_of 2 int_t) ∷ []) (1 ∷ 2 ∷ []) (decl 1 ∷ decl 2 ∷ give value ∷ [])) 60

unset_read : own (val 1) ≡ breaks_at 1 U7
unfolding layouts_of own
unset_read = refl

unset_update : own (post_up (var 1)) ≡ breaks_at 1 U7
unfolding layouts_of own
unset_update = refl

-- one byte of four was set: `*(char *)&x1 = 1`
partly_unset : own (sequence (set (star char_t (conv (to char_t) (addr (var 1)))) (number_as char_t (pos 1))) (val 1)) ≡ breaks_at 1 U7
unfolding layouts_of own
partly_unset = refl

-- ---- U8: a `_Bool` byte: `_Bool x6; *(char *)&x6 = 2, x6`

x6 : CObject
x6 = static 6 (plain Truth) []

as_char : CTy → ℕ → CExpr
as_char type k = star char_t (conv (to char_t) (addr (var_as type k)))

bad_truth : gives (x6 ∷ []) (
    sequence (set (as_char (plain Truth) 6) (number_as char_t (pos 2))) (conv int_t (val_as (plain Truth) 6))
    ∷ sequence (set (as_char (plain Truth) 6) (number_as char_t (pos 1))) (conv int_t (val_as (plain Truth) 6)) ∷ [])
    ≡ breaks_at 1 U8 ∷ ends (pos 1) ∷ []
unfolding layouts_of x6 as_char
bad_truth = refl

-- ---- U9: bytes of a pointer: `int *x7 = &x1; *(long *)&x7`, `*(char *)&x7`; a byte of it stored elsewhere

x7 : CObject
x7 = static 7 (to int_t) (put_at 0 (addr (var 1)) ∷ [])

pointer_bytes : gives (x1 ∷ x7 ∷ []) (
    conv int_t (get (star long_t (conv (to long_t) (addr (var_as (to int_t) 7)))))
    ∷ conv int_t (get (as_char (to int_t) 7))
    ∷ sequence (set (as_char (to int_t) 7) (number_as char_t (pos 0))) (get (star int_t (get (var_as (to int_t) 7))))
    ∷ get (star int_t (get (var_as (to int_t) 7))) ∷ [])
    ≡ breaks_at 1 U9 ∷ breaks_at 1 U9 ∷ breaks_at 1 U9 ∷ ends (pos 1) ∷ []
unfolding layouts_of x1 x7 as_char
pointer_bytes = refl

-- ---- U10: misaligned: `*(int *)((char *)x3 + 1)`, and an `int` in an array of `char`

x8 : CObject
x8 = static 8 (array_of 8 char_t) []

misaligned : gives (x3 ∷ x8 ∷ []) (
    get (star int_t (conv (to int_t) (two_as (to char_t) Add (conv (to char_t) (first_of int_t (var_as (array_of 2 int_t) 3))) (n 1))))
    ∷ get (star int_t (conv (to int_t) (first_of char_t (var_as (array_of 8 char_t) 8))))
    ∷ conv int_t (get (star (plain Short) (conv (to (plain Short)) (two_as (to char_t) Add (conv (to char_t) (first_of int_t (var_as (array_of 2 int_t) 3))) (n 2)))))
    ∷ [])
    ≡ breaks_at 1 U10 ∷ breaks_at 1 U10 ∷ ends (pos 0) ∷ []
unfolding layouts_of x3 x8
misaligned = refl

-- ---- U11: pointer arithmetic

p3 : ℕ → CExpr
p3 k = two_as (to int_t) Add (first_of int_t (var_as (array_of 2 int_t) 3)) (n k)

differ : CExpr → CExpr → CExpr
differ left right = conv int_t (two_as long_t Subtract left right)

u11 : List CExpr
u11 = differ (p3 3) (p3 0) ∷ differ (two_as (to int_t) Subtract (p3 0) (n 1)) (p3 0)
    ∷ two Equal (two_as (to int_t) Add null_int (n 0)) null_int ∷ two Equal (two_as (to int_t) Add (n 0) null_int) null_int
    ∷ two Equal (two_as (to int_t) Subtract null_int (n 1)) null_int
    -- a difference over two objects, with null, and that is no whole multiple
    ∷ differ (p3 0) (addr (var 1)) ∷ differ null_int null_int ∷ differ (p3 0) null_int
    ∷ differ (conv (to int_t) (two_as (to char_t) Add (conv (to char_t) (p3 0)) (n 2))) (p3 0)
    ∷ two Equal (set_by Add (to int_t) (var_as (to int_t) 7) (n 2)) null_int ∷ []

pointer_arithmetic : gives (x1 ∷ x3 ∷ x7 ∷ []) u11 ≡ all_break U11 u11
unfolding layouts_of x1 x3 x7 p3 differ u11 null_int
pointer_arithmetic = refl

-- ---- U12: comparisons

u12 : List CExpr
u12 = two Less (p3 0) (addr (var 1)) ∷ two Greater (addr (var 1)) (p3 0) ∷ two LessOrEqual null_int null_int
    ∷ two GreaterOrEqual (p3 0) null_int ∷ two Less null_int (p3 0)
    -- one past an end with another object
    ∷ two Equal (p3 2) (addr (var 1)) ∷ two NotEqual (addr (var 1)) (p3 2) ∷ two Equal (p3 2) past ∷ []

comparisons : gives (x1 ∷ x3 ∷ []) u12 ≡ all_break U12 u12
unfolding layouts_of x1 x3 p3 u12 null_int past
comparisons = refl
