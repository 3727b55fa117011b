-- Worked runs: each operator with each kind of operand, and conversions.
use Rattle.std.proofs.Common.{◌≡◌, ℕ, ℤ, pos, negsuc, [], ◌∷◌, refl}
use Rattle.cx_core.specs.declared.expr.Op1.TheVariants.{Plus, Minus, Complement, Not}
use Rattle.cx_core.specs.declared.expr.Op2.{Op2}
use Rattle.cx_core.specs.declared.expr.Op2.TheVariants.{Multiply, Divide, Remainder, Add, Subtract, ShiftLeft, ShiftRight, Less, Greater, LessOrEqual, GreaterOrEqual, Equal, NotEqual, BitAnd, BitXor, BitOr}
use Rattle.cx_core.specs.declared.ty.Basic.TheVariants.{Truth, SignedChar, UnsignedChar, Short, UnsignedShort}
use Rattle.cx_core.specs.Layouts.{layouts_of}
use Rattle.cx_core.specs.Trees.{CExpr, CObject, CTy}
use Rattle.cx_mean.proofs.Programs.{plain, int_t, char_t, unsigned_t, long_t, size_t, to, array_of, to_void, n, number, number_as, var, var_as, val, val_as, get, set, set_by, post_up, post_down, pre_up, pre_down, two, two_as, one_as, conv, addr, first_of, star, null_as, fun_pointer, taking, both_true, either_true, choose, sequence, static, put_at, gives, all_end}

-- ---- numbers of type `int`

arithmetic : gives [] (
    two Multiply (n 7) (n 6) ∷ two Divide (n 7) (n 2) ∷ two Divide (number (negsuc 6)) (n 2)
    ∷ two Remainder (number (negsuc 6)) (n 2) ∷ two Remainder (n 7) (number (negsuc 1))
    ∷ two Add (n 2147483646) (n 1) ∷ two Subtract (n 5) (n 8) ∷ [])
    ≡ all_end (pos 42 ∷ pos 3 ∷ negsuc 2 ∷ negsuc 0 ∷ pos 1 ∷ pos 2147483647 ∷ negsuc 2 ∷ [])
unfolding layouts_of
arithmetic = refl

shifts : gives [] (
    two ShiftLeft (n 1) (n 4) ∷ two ShiftLeft (n 1) (n 30) ∷ two ShiftRight (n 17) (n 2)
    ∷ two ShiftRight (number (negsuc 16)) (n 2) ∷ two ShiftRight (number (negsuc 0)) (n 31) ∷ [])
    ≡ all_end (pos 16 ∷ pos 1073741824 ∷ pos 4 ∷ negsuc 4 ∷ negsuc 0 ∷ [])
unfolding layouts_of
shifts = refl

comparisons : gives [] (
    two Less (n 3) (n 4) ∷ two Less (n 4) (n 4) ∷ two Greater (n 4) (n 3) ∷ two Greater (n 3) (n 3)
    ∷ two LessOrEqual (n 3) (n 3) ∷ two LessOrEqual (n 4) (n 3) ∷ two GreaterOrEqual (n 3) (n 3)
    ∷ two GreaterOrEqual (number (negsuc 0)) (n 0) ∷ two Equal (n 3) (n 3) ∷ two Equal (n 3) (n 4)
    ∷ two NotEqual (n 3) (n 4) ∷ two NotEqual (n 3) (n 3) ∷ [])
    ≡ all_end (pos 1 ∷ pos 0 ∷ pos 1 ∷ pos 0 ∷ pos 1 ∷ pos 0 ∷ pos 1 ∷ pos 0 ∷ pos 1 ∷ pos 0 ∷ pos 1 ∷ pos 0 ∷ [])
unfolding layouts_of
comparisons = refl

bit_operators : gives [] (
    two BitAnd (n 12) (n 10) ∷ two BitXor (n 12) (n 10) ∷ two BitOr (n 12) (n 10)
    ∷ two BitAnd (number (negsuc 7)) (n 12) ∷ two BitOr (number (negsuc 7)) (n 3) ∷ two BitXor (number (negsuc 7)) (n 3) ∷ [])
    ≡ all_end (pos 8 ∷ pos 6 ∷ pos 14 ∷ pos 8 ∷ negsuc 4 ∷ negsuc 4 ∷ [])
unfolding layouts_of
bit_operators = refl

one_operand : gives [] (
    one_as int_t Plus (n 5) ∷ one_as int_t Minus (n 5) ∷ one_as int_t Complement (n 5)
    ∷ one_as int_t Not (n 5) ∷ one_as int_t Not (n 0) ∷ [])
    ≡ all_end (pos 5 ∷ negsuc 4 ∷ negsuc 5 ∷ pos 0 ∷ pos 1 ∷ [])
unfolding layouts_of
one_operand = refl

-- ---- unsigned numbers are reduced (6.2.5p9)

u : ℕ → CExpr
u value = number_as unsigned_t (pos value)

is_u : CExpr → ℕ → CExpr
is_u value expected = two Equal value (u expected)

of_u : Op2 → ℕ → ℕ → CExpr
of_u op left right = two_as unsigned_t op (u left) (u right)

unsigned_numbers : gives [] (
    is_u (of_u Subtract 0 1) 4294967295 ∷ is_u (of_u Add 4294967295 1) 0 ∷ is_u (of_u Multiply 4294967295 2) 4294967294
    ∷ is_u (of_u Divide 4294967295 2) 2147483647 ∷ is_u (of_u Remainder 4294967295 10) 5
    ∷ is_u (of_u ShiftLeft 3 31) 2147483648 ∷ is_u (of_u ShiftRight 4294967295 31) 1
    ∷ is_u (one_as unsigned_t Minus (u 1)) 4294967295 ∷ is_u (one_as unsigned_t Complement (u 0)) 4294967295
    ∷ is_u (one_as unsigned_t Plus (u 7)) 7 ∷ two Less (u 3) (u 4294967295) ∷ is_u (of_u BitAnd 4294967295 240) 240
    ∷ is_u (of_u BitXor 255 240) 15 ∷ is_u (of_u BitOr 255 256) 511 ∷ [])
    ≡ all_end (pos 1 ∷ pos 1 ∷ pos 1 ∷ pos 1 ∷ pos 1 ∷ pos 1 ∷ pos 1 ∷ pos 1 ∷ pos 1 ∷ pos 1 ∷ pos 1 ∷ pos 1 ∷ pos 1 ∷ pos 1 ∷ [])
unfolding layouts_of u is_u of_u
unsigned_numbers = refl

-- `(unsigned)-1 + 1u == 0` gives 1
row_four : gives [] (two Equal (two_as unsigned_t Add (conv unsigned_t (number (negsuc 0))) (u 1)) (conv unsigned_t (n 0)) ∷ [])
    ≡ all_end (pos 1 ∷ [])
unfolding layouts_of u
row_four = refl

-- ---- numbers of 64 bits

l : ℤ → CExpr
l value = number_as long_t value

ul : ℕ → CExpr
ul value = number_as size_t (pos value)

wide_numbers : gives [] (
    two Equal (two_as long_t Multiply (l (pos 4294967296)) (l (pos 1073741824))) (l (pos 4611686018427387904))
    ∷ two Equal (two_as size_t Multiply (ul 4294967296) (ul 4294967297)) (ul 4294967296)
    ∷ two Equal (two_as size_t Subtract (ul 0) (ul 1)) (ul 18446744073709551615)
    ∷ two Equal (two_as long_t ShiftLeft (l (pos 1)) (n 62)) (l (pos 4611686018427387904))
    ∷ two Less (l (negsuc 9223372036854775807)) (l (pos 0)) ∷ [])
    ≡ all_end (pos 1 ∷ pos 1 ∷ pos 1 ∷ pos 1 ∷ pos 1 ∷ [])
unfolding layouts_of l ul
wide_numbers = refl

-- ---- conversions (6.3.1.2, 6.3.1.3)

conversions : gives [] (
    conv int_t (conv char_t (n 200)) ∷ conv int_t (conv (plain UnsignedChar) (number (negsuc 0)))
    ∷ conv int_t (conv (plain Truth) (n 5)) ∷ conv int_t (conv (plain Truth) (n 0))
    ∷ conv int_t (conv (plain Short) (n 40000)) ∷ conv int_t (conv (plain UnsignedShort) (number (negsuc 0)))
    ∷ two Equal (conv long_t (number (negsuc 0))) (l (negsuc 0))
    ∷ two Equal (conv long_t (u 4294967295)) (l (pos 4294967295))
    ∷ conv int_t (l (pos 4294967301)) ∷ conv int_t (conv (plain SignedChar) (n 128)) ∷ [])
    ≡ all_end (negsuc 55 ∷ pos 255 ∷ pos 1 ∷ pos 0 ∷ negsuc 25535 ∷ pos 65535 ∷ pos 1 ∷ pos 1 ∷ pos 5 ∷ negsuc 127 ∷ [])
unfolding layouts_of l u
conversions = refl

-- ---- pointers: `int x1[5] = { 10, 20, 30, 40, 50 };`

five : CObject
five = static 1 (array_of 5 int_t) (put_at 0 (n 10) ∷ put_at 4 (n 20) ∷ put_at 8 (n 30) ∷ put_at 12 (n 40) ∷ put_at 16 (n 50) ∷ [])

-- `x1 + k`
a : ℕ → CExpr
a k = two_as (to int_t) Add (first_of int_t (var_as (array_of 5 int_t) 1)) (n k)

differs : CExpr → CExpr → CExpr
differs left right = conv int_t (two_as long_t Subtract left right)

pointer_arithmetic : gives (five ∷ []) (
    get (star int_t (a 2)) ∷ get (star int_t (two_as (to int_t) Add (n 3) (a 1)))
    ∷ get (star int_t (two_as (to int_t) Subtract (a 5) (n 1))) ∷ get (star int_t (two_as (to int_t) Add (a 4) (number (negsuc 3))))
    ∷ differs (a 3) (a 1) ∷ differs (a 1) (a 3) ∷ differs (a 5) (a 0) ∷ [])
    ≡ all_end (pos 30 ∷ pos 50 ∷ pos 50 ∷ pos 10 ∷ pos 2 ∷ negsuc 1 ∷ pos 5 ∷ [])
unfolding layouts_of five a differs
pointer_arithmetic = refl

pointer_orders : gives (five ∷ []) (
    two Less (a 1) (a 3) ∷ two Less (a 3) (a 3) ∷ two Greater (a 5) (a 4) ∷ two LessOrEqual (a 5) (a 5)
    ∷ two LessOrEqual (a 2) (a 1) ∷ two GreaterOrEqual (a 0) (a 1) ∷ two GreaterOrEqual (a 1) (a 1) ∷ two Greater (a 1) (a 1) ∷ [])
    ≡ all_end (pos 1 ∷ pos 0 ∷ pos 1 ∷ pos 1 ∷ pos 0 ∷ pos 0 ∷ pos 1 ∷ pos 0 ∷ [])
unfolding layouts_of five a
pointer_orders = refl

null_int : CExpr
null_int = null_as (to int_t)

-- pointers to functions
f_type : CTy
f_type = taking int_t []

main_pointer : CExpr
main_pointer = fun_pointer f_type 0

pointer_equalities : gives (five ∷ static 2 int_t [] ∷ []) (
    two Equal (a 2) (a 2) ∷ two Equal (a 2) (a 3) ∷ two NotEqual (a 2) (a 3) ∷ two Equal (a 5) (a 5)
    ∷ two Equal (a 0) null_int ∷ two NotEqual (a 5) null_int ∷ two Equal null_int null_int
    ∷ two Equal (a 0) (addr (var 2)) ∷ two NotEqual (addr (var 2)) (a 4)
    ∷ two Equal main_pointer main_pointer ∷ two Equal main_pointer (null_as (to f_type))
    ∷ two NotEqual main_pointer (fun_pointer f_type 1) ∷ [])
    ≡ all_end (pos 1 ∷ pos 0 ∷ pos 1 ∷ pos 1 ∷ pos 0 ∷ pos 1 ∷ pos 1 ∷ pos 0 ∷ pos 1 ∷ pos 1 ∷ pos 0 ∷ pos 1 ∷ [])
unfolding layouts_of five a null_int main_pointer f_type
pointer_equalities = refl

-- tests of pointers, and their conversions
pointer_tests : gives (five ∷ []) (
    one_as int_t Not (a 0) ∷ one_as int_t Not null_int ∷ one_as int_t Not main_pointer
    ∷ conv int_t (conv (plain Truth) (a 5)) ∷ conv int_t (conv (plain Truth) null_int) ∷ conv int_t (conv (plain Truth) main_pointer)
    ∷ both_true (a 0) null_int ∷ either_true null_int (a 1) ∷ choose (a 0) (n 7) (n 8) ∷ choose null_int (n 7) (n 8)
    ∷ get (star int_t (conv (to int_t) (conv to_void (a 1))))
    ∷ conv int_t (get (star char_t (conv (to char_t) (a 3))))
    ∷ two Equal (conv (to char_t) null_int) (null_as (to char_t)) ∷ [])
    ≡ all_end (pos 0 ∷ pos 1 ∷ pos 0 ∷ pos 1 ∷ pos 0 ∷ pos 1 ∷ pos 0 ∷ pos 1 ∷ pos 7 ∷ pos 8 ∷ pos 20 ∷ pos 40 ∷ pos 1 ∷ [])
unfolding layouts_of five a null_int main_pointer f_type
pointer_tests = refl

-- `*` alone is never wrong, and `&*p` is `p`: also of null, and of one past an end
addresses : gives (five ∷ []) (
    two Equal (addr (star int_t null_int)) null_int ∷ differs (addr (star int_t (a 5))) (a 4) ∷ get (star int_t (addr (star int_t (a 2)))) ∷ [])
    ≡ all_end (pos 1 ∷ pos 1 ∷ pos 30 ∷ [])
unfolding layouts_of five a null_int differs
addresses = refl

-- ---- `&&`, `||`, `?:` and the comma; `x2` tells which parts were evaluated

x2 : CObject
x2 = static 2 int_t []

logical : gives (x2 ∷ []) (
    both_true (n 2) (n 3) ∷ both_true (n 0) (two Divide (n 1) (n 0)) ∷ both_true (n 1) (n 0)
    ∷ either_true (n 0) (n 5) ∷ either_true (n 2) (two Divide (n 1) (n 0)) ∷ either_true (n 0) (n 0)
    ∷ choose (n 1) (n 4) (two Divide (n 1) (n 0)) ∷ choose (n 0) (two Divide (n 1) (n 0)) (n 5)
    ∷ sequence (set (var 2) (n 6)) (two Add (val 2) (n 1)) ∷ [])
    ≡ all_end (pos 1 ∷ pos 0 ∷ pos 0 ∷ pos 1 ∷ pos 1 ∷ pos 0 ∷ pos 4 ∷ pos 5 ∷ pos 7 ∷ [])
unfolding layouts_of x2
logical = refl

-- `x++ && x++`: the value of an assignment before a sequence point isn't in conflict with one behind it
sequenced_parts : gives (x2 ∷ []) (
    sequence (both_true (pre_up (var 2)) (pre_up (var 2))) (val 2)
    ∷ sequence (either_true (post_up (var 2)) (post_up (var 2))) (val 2)
    ∷ sequence (choose (pre_up (var 2)) (set (var 2) (n 8)) (n 0)) (val 2)
    ∷ set (var 2) (sequence (post_up (var 2)) (n 5)) ∷ [])
    ≡ all_end (pos 2 ∷ pos 2 ∷ pos 8 ∷ pos 5 ∷ [])
unfolding layouts_of x2
sequenced_parts = refl

-- ---- assignments: `x2 = 6` and each `op=`, `++` and `--`

starts : ℕ → CObject
starts value = static 2 int_t (put_at 0 (n value) ∷ [])

assignments : gives (starts 6 ∷ []) (
    set (var 2) (n 9) ∷ set_by Multiply int_t (var 2) (n 7) ∷ set_by Divide int_t (var 2) (n 4) ∷ set_by Remainder int_t (var 2) (n 4)
    ∷ set_by Add int_t (var 2) (n 4) ∷ set_by Subtract int_t (var 2) (n 4) ∷ set_by ShiftLeft int_t (var 2) (n 4)
    ∷ set_by ShiftRight int_t (var 2) (n 1) ∷ set_by BitAnd int_t (var 2) (n 3) ∷ set_by BitXor int_t (var 2) (n 3) ∷ set_by BitOr int_t (var 2) (n 1)
    ∷ post_up (var 2) ∷ post_down (var 2) ∷ pre_up (var 2) ∷ pre_down (var 2)
    ∷ sequence (post_up (var 2)) (val 2) ∷ sequence (post_down (var 2)) (val 2)
    ∷ sequence (set_by Add int_t (var 2) (n 4)) (val 2) ∷ [])
    ≡ all_end (pos 9 ∷ pos 42 ∷ pos 1 ∷ pos 2 ∷ pos 10 ∷ pos 2 ∷ pos 96 ∷ pos 3 ∷ pos 2 ∷ pos 5 ∷ pos 7
    ∷ pos 6 ∷ pos 6 ∷ pos 7 ∷ pos 5 ∷ pos 7 ∷ pos 5 ∷ pos 10 ∷ [])
unfolding layouts_of starts
assignments = refl

-- the operator computes in a type of its own, and the result is converted: `char x3 = 127; x3++` holds -128; with `_Bool x4`,
-- `x4++` holds 1; `x3 += 200` computes in `int`; `unsigned char x5 = 250; x5 += 10` holds 4
x3 : CObject
x3 = static 3 char_t (put_at 0 (number_as char_t (pos 127)) ∷ [])

x4 : CObject
x4 = static 4 (plain Truth) []

x5 : CObject
x5 = static 5 (plain UnsignedChar) (put_at 0 (number_as (plain UnsignedChar) (pos 250)) ∷ [])

in_other_types : gives (x3 ∷ x4 ∷ x5 ∷ []) (
    sequence (post_up (var_as char_t 3)) (conv int_t (val_as char_t 3)) ∷ conv int_t (post_up (var_as char_t 3))
    ∷ conv int_t (pre_up (var_as char_t 3)) ∷ conv int_t (set_by Add int_t (var_as char_t 3) (n 200))
    ∷ sequence (post_up (var_as (plain Truth) 4)) (conv int_t (val_as (plain Truth) 4))
    ∷ conv int_t (pre_up (var_as (plain Truth) 4)) ∷ conv int_t (set_by Add int_t (var_as (plain UnsignedChar) 5) (n 10)) ∷ [])
    ≡ all_end (negsuc 127 ∷ pos 127 ∷ negsuc 127 ∷ pos 71 ∷ pos 1 ∷ pos 1 ∷ pos 4 ∷ [])
unfolding layouts_of x3 x4 x5
in_other_types = refl

-- pointers: `int *x6 = x1 + 1;`, `x6++`, `--x6`, `x6 += 2`
x6 : CObject
x6 = static 6 (to int_t) (put_at 0 (a 1) ∷ [])

p6 : CExpr
p6 = var_as (to int_t) 6

pointer_updates : gives (five ∷ x6 ∷ []) (
    get (star int_t (post_up p6)) ∷ get (star int_t (pre_up p6)) ∷ get (star int_t (pre_down p6))
    ∷ get (star int_t (set_by Add (to int_t) p6 (n 2))) ∷ get (star int_t (set_by Subtract (to int_t) p6 (n 1)))
    ∷ sequence (post_down p6) (get (star int_t (get p6))) ∷ [])
    ≡ all_end (pos 20 ∷ pos 30 ∷ pos 10 ∷ pos 40 ∷ pos 10 ∷ pos 10 ∷ [])
unfolding layouts_of five a x6 p6
pointer_updates = refl
