-- Worked runs: structures, unions, bit-fields, initialisers and compound literals.
use Rattle.std.proofs.Common.{◌≡◌, ℕ, pos, negsuc, true, false, List, [], ◌∷◌, Some, codes, refl}
use Rattle.cr_base.specs.declared.rule.URule.TheVariants.{U1, U5, U6, U7, U9, U10, U11, U14, U16}
use Rattle.cx_core.specs.declared.expr.Op2.TheVariants.{Multiply, Add, Subtract, Less, Equal}
use Rattle.cx_core.specs.declared.ty.Basic.TheVariants.{Truth}
use Rattle.cx_core.specs.Layouts.{layouts_of}
use Rattle.cx_core.specs.Trees.{CExpr, CObject, CPut, CStmt, CTy, CTypes, literal, label, goto, for_loop}
use Rattle.cr_world.specs.Known.{known_table}
use Rattle.cx_mean.proofs.Programs.{Both, plain, int_t, char_t, unsigned_t, size_t, void_t, to, to_void, array_of, record_t, one_record, named_member, bits_member, n, number_as, var, var_as, val, val_as, get, set, set_by, post_up, pre_up, two, two_as, conv, addr, first_of, star, null_as, dot, byte, bits, node, choose, sequence, calls_as, calls, putchar, printed, put_at, put_bits, puts, run, give, when, skip, does, stmts, decl, decl_as, decl_to, in_block, static, local, fun, main_fun, taking, program_of, runs, ordered, silent, seen, ends, breaks_at}
use Rattle.cx_mean.specs.Run.{ended}

-- `struct s { int x; int y; };` is record 0
pair : CTypes
pair = one_record false (named_member (codes "x") int_t ∷ named_member (codes "y") int_t ∷ [])

s : CTy
s = record_t 0

-- a program with this record, of `main` with these objects of its block
with_pair : List CObject → List ℕ → List CStmt → Both
with_pair objects own list = runs (program_of pair objects (main_fun own list ∷ [])) 200

x_of : CExpr → CExpr
x_of of = dot int_t of (byte 0)

y_of : CExpr → CExpr
y_of of = dot int_t of (byte 4)

v : ℕ → CExpr
v k = var_as s k

-- ---- values of records

-- `struct s x1, x2; x1.x = 3; x1.y = 4; x2 = x1; x1.x = 9; return x2.x * 10 + x2.y;`
assigned : with_pair (local 1 s ∷ local 2 s ∷ []) (1 ∷ 2 ∷ []) (
    decl 1 ∷ decl 2 ∷ run (set (x_of (v 1)) (n 3)) ∷ run (set (y_of (v 1)) (n 4)) ∷ run (set (v 2) (get (v 1))) ∷ run (set (x_of (v 1)) (n 9))
    ∷ give (two Add (two Multiply (get (x_of (v 2))) (n 10)) (get (y_of (v 2)))) ∷ []) ≡ ends (pos 34)
unfolding layouts_of pair s with_pair x_of y_of v
assigned = refl

-- unset members are copied, and U7 where they are read
copied_unset : with_pair (local 1 s ∷ local 2 s ∷ []) (1 ∷ 2 ∷ []) (
    decl 1 ∷ decl 2 ∷ run (set (x_of (v 1)) (n 3)) ∷ run (set (v 2) (get (v 1))) ∷ give (get (y_of (v 2))) ∷ []) ≡ breaks_at 1 U7
unfolding layouts_of pair s with_pair x_of y_of v
copied_unset = refl

-- a member of a value: `(x1 = x2).y`, and of one that is chosen
member_of_value : with_pair (static 1 s [] ∷ static 2 s (put_at 0 (n 5) ∷ put_at 4 (n 6) ∷ []) ∷ []) [] (
    give (dot int_t (set (v 1) (get (v 2))) (byte 4)) ∷ []) ≡ ends (pos 6)
unfolding layouts_of pair s with_pair v
member_of_value = refl

member_of_choice : with_pair (static 1 s [] ∷ static 2 s (put_at 0 (n 5) ∷ put_at 4 (n 6) ∷ []) ∷ []) [] (
    give (dot int_t (choose (n 0) (get (v 1)) (get (v 2))) (byte 0)) ∷ []) ≡ ends (pos 5)
unfolding layouts_of pair s with_pair v
member_of_choice = refl

member_unset : with_pair (local 1 s ∷ []) (1 ∷ []) (decl 1 ∷ give (dot int_t (choose (n 1) (get (v 1)) (get (v 1))) (byte 0)) ∷ []) ≡ breaks_at 1 U7
unfolding layouts_of pair s with_pair v
member_unset = refl

-- `struct p f(int a) { struct p r; r.x = a; return r; } .. struct p q = f(7), s; s = q; return s.x;`
row_thirty : CExpr → Both
row_thirty value = runs (program_of pair (local 1 int_t ∷ local 2 s ∷ local 3 s ∷ local 4 s ∷ [])
    (main_fun (3 ∷ 4 ∷ []) (decl_as 3 (put_at 0 (calls_as s 1 (n 7 ∷ [])) ∷ []) ∷ decl 4 ∷ run (set (v 4) (get (v 3))) ∷ give value ∷ [])
    ∷ fun 1 (codes "f") (taking s (int_t ∷ [])) (1 ∷ []) (in_block (2 ∷ []) (decl 2 ∷ run (set (x_of (v 2)) (val 1)) ∷ give (get (v 2)) ∷ [])) ∷ [])) 200

given_back : row_thirty (get (x_of (v 4))) ≡ ends (pos 7)
unfolding layouts_of pair s row_thirty x_of y_of v
given_back = refl

given_unset : row_thirty (get (y_of (v 4))) ≡ breaks_at 1 U7
unfolding layouts_of pair s row_thirty x_of y_of v
given_unset = refl

-- a parameter of record type is a copy: `int g(struct s x1) { x1.x = 0; return x1.y; } .. g(x2) + x2.x`; `f().x` of a missing value
by_value : runs (program_of pair (local 1 s ∷ static 2 s (put_at 0 (n 5) ∷ put_at 4 (n 60) ∷ []) ∷ [])
    (main_fun [] (give (two Add (calls 1 (get (v 2) ∷ [])) (get (x_of (v 2)))) ∷ [])
    ∷ fun 1 (codes "g") (taking int_t (s ∷ [])) (1 ∷ []) (in_block [] (run (set (x_of (v 1)) (n 0)) ∷ give (get (y_of (v 1))) ∷ [])) ∷ [])) 100 ≡ ends (pos 65)
unfolding layouts_of pair s x_of y_of v
by_value = refl

missing_record : runs (program_of pair [] (main_fun [] (give (dot int_t (calls_as s 1 []) (byte 0)) ∷ [])
    ∷ fun 1 (codes "f") (taking s []) [] (in_block [] []) ∷ [])) 100 ≡ breaks_at 1 U14
unfolding layouts_of pair s
missing_record = refl

missing_assigned : runs (program_of pair (static 2 s [] ∷ []) (main_fun [] (run (set (v 2) (calls_as s 1 [])) ∷ [])
    ∷ fun 1 (codes "f") (taking s []) [] (in_block [] []) ∷ [])) 100 ≡ breaks_at 1 U14
unfolding layouts_of pair s v
missing_assigned = refl

-- ---- members of lvalues

arrow : CExpr → CExpr
arrow pointed = y_of (star s pointed)

p : CExpr
p = val_as (to s) 3

through_pointer : with_pair (static 1 s (put_at 4 (n 8) ∷ []) ∷ static 3 (to s) (put_at 0 (addr (v 1)) ∷ []) ∷ []) [] (give (get (arrow p)) ∷ []) ≡ ends (pos 8)
unfolding layouts_of pair s with_pair y_of v arrow p
through_pointer = refl

through_null : with_pair (static 3 (to s) [] ∷ []) [] (give (get (arrow p)) ∷ []) ≡ breaks_at 1 U6
unfolding layouts_of pair s with_pair y_of arrow p
through_null = refl

-- its address alone, too
address_through_null : with_pair (static 3 (to s) [] ∷ []) [] (run (addr (arrow p)) ∷ []) ≡ breaks_at 1 U6
unfolding layouts_of pair s with_pair y_of arrow p
address_through_null = refl

through_dead : with_pair (static 3 (to s) [] ∷ local 4 s ∷ []) [] (
    in_block (4 ∷ []) (run (set (var_as (to s) 3) (addr (v 4))) ∷ []) ∷ run (addr (arrow p)) ∷ []) ≡ breaks_at 1 U5
unfolding layouts_of pair s with_pair y_of arrow p v
through_dead = refl

-- past the object: `&(&x1 + 1)->y`; `&(&x1 + 1)->x` is one past its end
past_member : with_pair (static 1 s [] ∷ []) [] (run (addr (arrow (two_as (to s) Add (addr (v 1)) (n 1)))) ∷ []) ≡ breaks_at 1 U11
unfolding layouts_of pair s with_pair y_of arrow v
past_member = refl

at_the_end : with_pair (static 1 s [] ∷ []) [] (run (addr (x_of (star s (two_as (to s) Add (addr (v 1)) (n 1))))) ∷ []) ≡ ends (pos 0)
unfolding layouts_of pair s with_pair x_of v
at_the_end = refl

-- a record through a misaligned pointer, and one that leaves its object
at_byte : ℕ → CExpr
at_byte k = star s (conv (to s) (two_as (to char_t) Add (conv (to char_t) (first_of s (var_as (array_of 2 s) 1))) (n k)))

misaligned_record : with_pair (static 1 (array_of 2 s) [] ∷ static 2 s [] ∷ []) [] (run (set (v 2) (get (at_byte 2))) ∷ []) ≡ breaks_at 1 U10
unfolding layouts_of pair s with_pair v at_byte
misaligned_record = refl

outside_record : with_pair (static 1 (array_of 2 s) [] ∷ static 2 s [] ∷ []) [] (run (set (at_byte 12) (get (v 2))) ∷ []) ≡ breaks_at 1 U6
unfolding layouts_of pair s with_pair v at_byte
outside_record = refl

-- ---- U16, and conflicts of records

-- an assignment between objects that overlap inexactly; exactly, and beside each other, it is defined
overlapping : with_pair (static 1 (array_of 2 s) [] ∷ []) [] (run (set (at_byte 4) (get (at_byte 0))) ∷ []) ≡ breaks_at 1 U16
unfolding layouts_of pair s with_pair at_byte
overlapping = refl

exactly : with_pair (static 1 (array_of 2 s) [] ∷ []) [] (run (set (at_byte 4) (get (at_byte 4))) ∷ run (set (at_byte 8) (get (at_byte 0))) ∷ []) ≡ ends (pos 0)
unfolding layouts_of pair s with_pair at_byte
exactly = refl

-- also of one that was chosen: `b = c ? a : a`, with the member of a larger value read elsewhere
overlapping_choice : with_pair (static 1 (array_of 2 s) [] ∷ []) [] (run (set (at_byte 4) (choose (n 1) (get (at_byte 0)) (get (at_byte 8)))) ∷ []) ≡ breaks_at 1 U16
unfolding layouts_of pair s with_pair at_byte
overlapping_choice = refl

-- what a function gave back, or an assignment, isn't read from an object any more: `struct s f(void) { return x1[0]; } .. at_4 = f();`
given_back_apart : runs (program_of pair (static 1 (array_of 2 s) [] ∷ static 2 s [] ∷ []) (main_fun [] (
    run (set (at_byte 4) (calls_as s 1 [])) ∷ run (set (at_byte 4) (set (v 2) (get (at_byte 0)))) ∷ [])
    ∷ fun 1 (codes "f") (taking s []) [] (in_block [] (give (get (at_byte 0)) ∷ [])) ∷ [])) 100 ≡ ends (pos 0)
unfolding layouts_of pair s v at_byte
given_back_apart = refl

-- a part and the whole conflict: `(x2 = x1).x + (x2.y = 1)`; two members don't: `(x2.x = 1) + (x2.y = 2)`
part_and_whole : with_pair (static 1 s [] ∷ static 2 s [] ∷ []) [] (give (two Add (dot int_t (set (v 2) (get (v 1))) (byte 0)) (set (y_of (v 2)) (n 1))) ∷ []) ≡ breaks_at 1 U1
unfolding layouts_of pair s with_pair y_of v
part_and_whole = refl

-- so do a read of the whole and a write of a part: `(x1 = x2).x + (x2.x = 1)`
whole_and_part : with_pair (static 1 s [] ∷ static 2 s [] ∷ []) [] (give (two Add (dot int_t (set (v 1) (get (v 2))) (byte 0)) (set (x_of (v 2)) (n 1))) ∷ []) ≡ breaks_at 1 U1
unfolding layouts_of pair s with_pair x_of v
whole_and_part = refl

two_members : with_pair (static 2 s [] ∷ []) [] (give (two Add (set (x_of (v 2)) (n 1)) (set (y_of (v 2)) (n 2))) ∷ []) ≡ ends (pos 3)
unfolding layouts_of pair s with_pair x_of y_of v
two_members = refl

-- a member of a value is read where it stands: with `struct t { struct s a, b, c; } o;`, the value `(1 ? o : o).b` overlaps the bytes from 12 on, and
-- not those from 16 on
triple : CTypes
triple = record {
  records = Some (record { number = 0; tag = Some (codes "s"); is_union = false; members = named_member (codes "x") int_t ∷ named_member (codes "y") int_t ∷ [] })
      ∷ Some (record { number = 1; tag = Some (codes "t"); is_union = false; members = named_member (codes "a") (record_t 0) ∷ named_member (codes "b") (record_t 0) ∷ named_member (codes "c") (record_t 0) ∷ [] }) ∷ [];
  record_tags = record { tag = Some (codes "s"); is_union = false } ∷ record { tag = Some (codes "t"); is_union = false } ∷ [];
  record_units = 0 ∷ 0 ∷ [];
  enums = [];
  enum_units = [];
}

o : CExpr
o = var_as (record_t 1) 1

member_stored_at : ℕ → Both
member_stored_at k = runs (program_of triple (static 1 (record_t 1) [] ∷ []) (main_fun [] (
    run (set (star (record_t 0) (conv (to (record_t 0)) (two_as (to char_t) Add (conv (to char_t) (addr o)) (n k)))) (dot (record_t 0) (choose (n 1) (get o) (get o)) (byte 8))) ∷ []) ∷ [])) 60

member_overlaps : member_stored_at 12 ≡ breaks_at 1 U16
unfolding layouts_of triple o member_stored_at
member_overlaps = refl

member_apart : member_stored_at 16 ≡ ends (pos 0)
unfolding layouts_of triple o member_stored_at
member_apart = refl

-- ---- bit-fields: `struct s { unsigned a : 3; unsigned b : 5; int c : 3; _Bool d : 1; };`

fields : CTypes
fields = one_record false (bits_member (codes "a") unsigned_t 3 ∷ bits_member (codes "b") unsigned_t 5
    ∷ bits_member (codes "c") int_t 3 ∷ bits_member (codes "d") (plain Truth) 1 ∷ [])

a_of : CExpr → CExpr
a_of of = dot unsigned_t of (bits 0 0 3)

b_of : CExpr → CExpr
b_of of = dot unsigned_t of (bits 0 3 5)

c_of : CExpr → CExpr
c_of of = dot int_t of (bits 1 0 3)

d_of : CExpr → CExpr
d_of of = dot (plain Truth) of (bits 1 3 1)

u : ℕ → CExpr
u k = number_as unsigned_t (pos k)

with_fields : List CObject → List ℕ → List CStmt → Both
with_fields objects own list = runs (program_of fields objects (main_fun own list ∷ [])) 200

-- `struct s *p = malloc(sizeof *p); if (!p) return 99; p->a = 9; p->b = 1; return p->a * 10 + p->b;`
row_twenty_four : with_fields (local 3 (to s) ∷ []) (3 ∷ []) (
    decl_to 3 (conv (to s) (calls_as to_void 103 (number_as size_t (pos 4) ∷ [])))
    ∷ when (two Equal p (null_as (to s))) (give (n 99))
    ∷ run (set (a_of (star s p)) (u 9)) ∷ run (set (b_of (star s p)) (u 1))
    ∷ give (two Add (two Multiply (conv int_t (get (a_of (star s p)))) (n 10)) (conv int_t (get (b_of (star s p))))) ∷ []) ≡ ends (pos 11)
unfolding layouts_of known_table fields s with_fields a_of b_of p u
row_twenty_four = refl

-- the value of an assignment is what the field then holds; a signed one has negative values
field_values : with_fields (static 1 s [] ∷ []) [] (
    give (two Add (conv int_t (set (a_of (v 1)) (u 13))) (two Multiply (n 100) (set (c_of (v 1)) (n 5)))) ∷ []) ≡ ends (negsuc 294)
unfolding layouts_of fields s with_fields a_of c_of v u
field_values = refl

truth_field : with_fields (static 1 s [] ∷ []) [] (
    run (set (d_of (v 1)) (conv (plain Truth) (n 6))) ∷ give (conv int_t (get (d_of (v 1)))) ∷ []) ≡ ends (pos 1)
unfolding layouts_of fields s with_fields d_of v
truth_field = refl

-- `++` wraps in its bits: `a` of 7 becomes 0; the fields beside it stay
field_steps : with_fields (static 1 s (put_bits 0 0 3 (u 7) ∷ put_bits 0 3 5 (u 9) ∷ []) ∷ []) [] (
    run (post_up (a_of (v 1))) ∷ give (two Add (two Multiply (conv int_t (get (a_of (v 1)))) (n 100)) (conv int_t (get (b_of (v 1))))) ∷ []) ≡ ends (pos 9)
unfolding layouts_of fields s with_fields a_of b_of v u
field_steps = refl

-- `a += 9` computes in `int`, and holds 12 modulo 8; its value is what it holds; `c -= 5` of 0 holds 3
field_updates : with_fields (static 1 s (put_bits 0 0 3 (u 3) ∷ []) ∷ []) [] (
    give (two Add (two Multiply (conv int_t (set_by Add int_t (a_of (v 1)) (n 9))) (n 10)) (set_by Subtract int_t (c_of (v 1)) (n 5))) ∷ []) ≡ ends (pos 43)
unfolding layouts_of fields s with_fields a_of c_of v u
field_updates = refl

-- a field of which no bit was set, beside one that was
field_unset : with_fields (local 1 s ∷ []) (1 ∷ []) (
    decl 1 ∷ run (set (a_of (v 1)) (u 1)) ∷ give (conv int_t (get (b_of (v 1)))) ∷ []) ≡ breaks_at 1 U7
unfolding layouts_of fields s with_fields a_of b_of v u
field_unset = refl

field_set : with_fields (local 1 s ∷ []) (1 ∷ []) (
    decl 1 ∷ run (set (a_of (v 1)) (u 1)) ∷ give (conv int_t (get (a_of (v 1)))) ∷ []) ≡ ends (pos 1)
unfolding layouts_of fields s with_fields a_of b_of v u
field_set = refl

-- fields of one byte are no conflict, and one field with itself is
fields_apart : with_fields (static 1 s [] ∷ []) [] (
    give (two Add (conv int_t (set (a_of (v 1)) (u 1))) (conv int_t (set (b_of (v 1)) (u 2)))) ∷ []) ≡ ends (pos 3)
unfolding layouts_of fields s with_fields a_of b_of v u
fields_apart = refl

field_conflict : with_fields (static 1 s [] ∷ []) [] (
    give (two Add (conv int_t (set (a_of (v 1)) (u 1))) (conv int_t (get (a_of (v 1))))) ∷ []) ≡ breaks_at 1 U1
unfolding layouts_of fields s with_fields a_of v u
field_conflict = refl

-- a field of a value: `(x1 = x2).b`; one that is unset is U7
field_of_value : with_fields (static 1 s [] ∷ static 2 s (put_bits 0 3 5 (u 21) ∷ []) ∷ []) [] (
    give (conv int_t (dot unsigned_t (set (v 1) (get (v 2))) (bits 0 3 5))) ∷ []) ≡ ends (pos 21)
unfolding layouts_of fields s with_fields v u
field_of_value = refl

-- a field over the bytes of a pointer: `union u { int *p; struct { unsigned a : 3; } s; };`
mixed : CTypes
mixed = one_record true (named_member (codes "p") (to int_t) ∷ bits_member (codes "a") unsigned_t 3 ∷ [])

field_over_pointer : runs (program_of mixed (static 1 s [] ∷ static 2 int_t [] ∷ []) (main_fun [] (
    run (set (dot (to int_t) (v 1) (byte 0)) (addr (var 2))) ∷ run (set (a_of (v 1)) (u 1)) ∷ []) ∷ [])) 60 ≡ breaks_at 1 U9
unfolding layouts_of mixed s a_of v u
field_over_pointer = refl

field_of_pointer : runs (program_of mixed (static 1 s [] ∷ static 2 int_t [] ∷ []) (main_fun [] (
    run (set (dot (to int_t) (v 1) (byte 0)) (addr (var 2))) ∷ give (conv int_t (get (a_of (v 1)))) ∷ []) ∷ [])) 60 ≡ breaks_at 1 U9
unfolding layouts_of mixed s a_of v u
field_of_pointer = refl

-- `for (i = 0; i < 2; i++) { union u x; x.s.a = 3; r += x.s.a; x.p = &y; r += *x.p; } return r;`: each turn has a new object
fresh_each_turn : runs (program_of mixed (static 2 int_t (put_at 0 (n 5) ∷ []) ∷ static 3 int_t [] ∷ static 4 int_t [] ∷ local 1 s ∷ []) (main_fun [] (
    does (for_loop (stmts (run (set (var 3) (n 0)) ∷ [])) (Some (two Less (val 3) (n 2))) (Some (conv void_t (post_up (var 3)))) (in_block (1 ∷ []) (
    decl 1 ∷ run (set (a_of (v 1)) (u 3)) ∷ run (set_by Add int_t (var 4) (conv int_t (get (a_of (v 1)))))
    ∷ run (set (dot (to int_t) (v 1) (byte 0)) (addr (var 2)))
    ∷ run (set_by Add int_t (var 4) (get (star int_t (get (dot (to int_t) (v 1) (byte 0)))))) ∷ [])))
    ∷ give (val 4) ∷ []) ∷ [])) 300 ≡ ends (pos 16)
unfolding layouts_of mixed s a_of v u
fresh_each_turn = refl

-- ---- unions: `union u { int i; char c[4]; } x1, x2; x1.i = 258; (x2 = x1, x2.c[1] * 10 + x2.c[0])`
union : CTypes
union = one_record true (named_member (codes "i") int_t ∷ named_member (codes "c") (array_of 4 char_t) ∷ [])

char_at : ℕ → CExpr
char_at k = conv int_t (get (star char_t (two_as (to char_t) Add (first_of char_t (dot (array_of 4 char_t) (v 2) (byte 0))) (n k))))

bytes_of_union : runs (program_of union (static 1 s [] ∷ static 2 s [] ∷ []) (main_fun [] (
    run (set (x_of (v 1)) (n 258)) ∷ give (sequence (set (v 2) (get (v 1))) (two Add (two Multiply (char_at 1) (n 10)) (char_at 0))) ∷ []) ∷ [])) 100 ≡ ends (pos 12)
unfolding layouts_of union s x_of v char_at
bytes_of_union = refl

-- ---- initialisers

-- `struct s x1 = { .y = 4 };`: the bits that no put covers are 0, also where an earlier life left others
initialised : with_pair (local 1 s ∷ []) (1 ∷ []) (decl_as 1 (put_at 4 (n 4) ∷ []) ∷ give (two Add (two Multiply (get (x_of (v 1))) (n 10)) (get (y_of (v 1)))) ∷ []) ≡ ends (pos 4)
unfolding layouts_of pair s with_pair x_of y_of v
initialised = refl

-- what a put covers is unset until it is stored: `struct s x1 = { 1, x1.y };`, and set behind it: `struct s x1 = { 1, x1.x };`
unset_in_puts : with_pair (local 1 s ∷ []) (1 ∷ []) (decl_as 1 (put_at 0 (n 1) ∷ put_at 4 (get (y_of (v 1))) ∷ []) ∷ []) ≡ breaks_at 1 U7
unfolding layouts_of pair s with_pair y_of v
unset_in_puts = refl

set_in_puts : with_pair (local 1 s ∷ []) (1 ∷ []) (decl_as 1 (put_at 0 (n 1) ∷ put_at 4 (get (x_of (v 1))) ∷ []) ∷ give (get (y_of (v 1))) ∷ []) ≡ ends (pos 1)
unfolding layouts_of pair s with_pair x_of y_of v
set_in_puts = refl

-- uncovered bits of a bit-field's byte are 0, and covered ones unset
initialised_fields : with_fields (local 1 s ∷ []) (1 ∷ []) (decl_as 1 (put_bits 0 0 3 (u 5) ∷ []) ∷ give (two Add (conv int_t (get (a_of (v 1)))) (conv int_t (get (b_of (v 1))))) ∷ []) ≡ ends (pos 5)
unfolding layouts_of fields s with_fields a_of b_of v u
initialised_fields = refl

unset_field_in_puts : with_fields (local 1 s ∷ []) (1 ∷ []) (decl_as 1 (put_bits 0 0 3 (get (b_of (v 1))) ∷ put_bits 0 3 5 (u 1) ∷ []) ∷ []) ≡ breaks_at 1 U7
unfolding layouts_of fields s with_fields a_of b_of v u
unset_field_in_puts = refl

-- a declaration that is reached again makes the object anew: `a: ; struct s x1 = { .y = x3++ }; if (x3 < 2) { x1.x = 7; goto a; }
-- return x1.x * 10 + x1.y;`
initialised_again : with_pair (static 3 int_t [] ∷ local 1 s ∷ []) (1 ∷ []) (
    does (label (codes "a") skip) ∷ decl_as 1 (put_at 4 (post_up (var 3)) ∷ [])
    ∷ when (two Less (val 3) (n 2)) (in_block [] (run (set (x_of (v 1)) (n 7)) ∷ does (goto (codes "a")) ∷ []))
    ∷ give (two Add (two Multiply (get (x_of (v 1))) (n 10)) (get (y_of (v 1)))) ∷ []) ≡ ends (pos 1)
unfolding layouts_of pair s with_pair x_of y_of v
initialised_again = refl

-- a put of a whole record: `struct s x1 = x2;`
whole_put : with_pair (static 2 s (put_at 0 (n 5) ∷ put_at 4 (n 6) ∷ []) ∷ local 1 s ∷ []) (1 ∷ []) (decl_as 1 (put_at 0 (get (v 2)) ∷ []) ∷ give (get (y_of (v 1))) ∷ []) ≡ ends (pos 6)
unfolding layouts_of pair s with_pair y_of v
whole_put = refl

-- ---- compound literals: `(struct s){ E, F }` with object 1

lit : List CPut → CExpr
lit list = node s (literal 1 (puts list))

literal_value : with_pair (local 1 s ∷ []) (1 ∷ []) (give (get (y_of (lit (put_at 0 (n 1) ∷ put_at 4 (n 2) ∷ [])))) ∷ []) ≡ ends (pos 2)
unfolding layouts_of pair s with_pair y_of lit
literal_value = refl

literal_zero : with_pair (local 1 s ∷ []) (1 ∷ []) (give (get (y_of (lit (put_at 0 (n 1) ∷ [])))) ∷ []) ≡ ends (pos 0)
unfolding layouts_of pair s with_pair y_of lit
literal_zero = refl

-- there is a sequence point behind its first write, also where no put follows
literal_no_puts : with_pair (local 1 s ∷ []) (1 ∷ []) (give (get (y_of (lit []))) ∷ []) ≡ ends (pos 0)
unfolding layouts_of pair s with_pair y_of lit
literal_no_puts = refl

-- its address: `(&(struct s){ 3 })->x`
literal_address : with_pair (local 1 s ∷ []) (1 ∷ []) (give (get (x_of (star s (addr (lit (put_at 0 (n 3) ∷ [])))))) ∷ []) ≡ ends (pos 3)
unfolding layouts_of pair s with_pair x_of lit
literal_address = refl

-- each put before the next: `(struct s){ x2 = 4, x2 + 1 }.y`; with the order of their events, under any order
literal_sequence : with_pair (static 2 int_t [] ∷ local 1 s ∷ []) (1 ∷ []) (
    give (get (y_of (lit (put_at 0 (set (var 2) (n 4)) ∷ put_at 4 (two Add (val 2) (n 1)) ∷ [])))) ∷ []) ≡ ends (pos 5)
unfolding layouts_of pair s with_pair y_of lit
literal_sequence = refl

literal_order : ordered (program_of pair (local 1 s ∷ []) (main_fun (1 ∷ []) (give (get (y_of (lit (put_at 0 (putchar (n 1)) ∷ put_at 4 (putchar (n 2)) ∷ [])))) ∷ []) ∷ []))
    (1 ∷ 1 ∷ 1 ∷ []) silent 60 ≡ seen (printed 1 ∷ printed 2 ∷ []) (ended (pos 0))
unfolding layouts_of known_table pair s y_of lit
literal_order = refl

-- the literal's first write is one to its whole object: a value read of it by a sibling is in conflict
-- `(struct s){ 1, 2 }.y + p->x`, where `p` points to the literal's object from an earlier evaluation
literal_conflict : with_pair (static 3 (to s) [] ∷ local 1 s ∷ []) (1 ∷ []) (
    run (set (var_as (to s) 3) (addr (lit (put_at 0 (n 1) ∷ [])))) ∷ give (two Add (get (y_of (lit (put_at 4 (n 2) ∷ [])))) (get (x_of (star s p)))) ∷ []) ≡ breaks_at 1 U1
unfolding layouts_of pair s with_pair x_of y_of lit p
literal_conflict = refl

-- the store of a put is seen against what its value wrote still: `(struct s){ p->x = 3 }`, where `p` points there
literal_own_conflict : with_pair (static 3 (to s) [] ∷ local 1 s ∷ []) (1 ∷ []) (
    run (set (var_as (to s) 3) (addr (lit (put_at 0 (n 1) ∷ [])))) ∷ run (addr (lit (put_at 0 (set (x_of (star s p)) (n 3)) ∷ []))) ∷ []) ≡ breaks_at 1 U1
unfolding layouts_of pair s with_pair x_of y_of lit p
literal_own_conflict = refl

-- a literal in a loop is one object: what was stored there is stored anew each time
literal_again : with_pair (static 3 int_t [] ∷ static 4 int_t [] ∷ local 1 s ∷ []) (1 ∷ []) (
    does (for_loop (stmts []) (Some (two Less (val 3) (n 3))) (Some (conv void_t (post_up (var 3))))
    (run (set_by Add int_t (var 4) (pre_up (x_of (lit (put_at 0 (val 3) ∷ [])))))))
    ∷ give (val 4) ∷ []) ≡ ends (pos 6)
unfolding layouts_of pair s with_pair x_of lit
literal_again = refl
