-- Worked runs: members of structures and unions at misaligned places (U10; ISO C99, 6.3.2.3p7, 6.5.3.2p4).
use Rattle.std.proofs.Common.{◌≡◌, ℕ, pos, true, false, List, [], ◌∷◌, Some, codes, refl}
use Rattle.cr_base.specs.declared.rule.URule.TheVariants.{U5, U6, U10, U11}
use Rattle.cx_core.specs.declared.expr.Op2.TheVariants.{Add}
use Rattle.cx_core.specs.Layouts.{layouts_of}
use Rattle.cx_core.specs.Trees.{CExpr, CMember, CObject, CRecord, CTypes}
use Rattle.cr_world.specs.Known.{known_table}
use Rattle.cx_mean.proofs.Programs.{Both, int_t, char_t, unsigned_t, long_t, size_t, to, to_void, array_of, record_t, named_member, bits_member, n, number_as, var_as, val_as, get, set, two_as, conv, addr, first_of, star, null_as, dot, byte, bits, choose, calls_as, run, give, in_block, static, local, main_fun, program_of, runs, ends, breaks_at}

-- `struct r { int x; long y; }` is record 0, `struct c { char a, b; }` 1, `union u { char a; int i; }` 2, `struct o { char a; union u in; }` 3,
-- `struct f { int x; unsigned a : 3; }` 4
record_of : ℕ → List ℕ → List CMember → CRecord
record_of number tag members = record { number = number; tag = Some tag; is_union = false; members = members }

records : CTypes
records = record {
  records = Some (record_of 0 (codes "r") (named_member (codes "x") int_t ∷ named_member (codes "y") long_t ∷ []))
      ∷ Some (record_of 1 (codes "c") (named_member (codes "a") char_t ∷ named_member (codes "b") char_t ∷ []))
      ∷ Some (record { number = 2; tag = Some (codes "u"); is_union = true; members = named_member (codes "a") char_t ∷ named_member (codes "i") int_t ∷ [] })
      ∷ Some (record_of 3 (codes "o") (named_member (codes "a") char_t ∷ named_member (codes "in") (record_t 2) ∷ []))
      ∷ Some (record_of 4 (codes "f") (named_member (codes "x") int_t ∷ bits_member (codes "a") unsigned_t 3 ∷ [])) ∷ [];
  record_tags = record { tag = Some (codes "r"); is_union = false } ∷ record { tag = Some (codes "c"); is_union = false }
      ∷ record { tag = Some (codes "u"); is_union = true } ∷ record { tag = Some (codes "o"); is_union = false }
      ∷ record { tag = Some (codes "f"); is_union = false } ∷ [];
  record_units = 0 ∷ 0 ∷ 0 ∷ 0 ∷ 0 ∷ [];
  enums = [];
  enum_units = [];
}

-- the objects `long v[4]` and `char b[32]`
v : CExpr
v = var_as (array_of 4 long_t) 1

objects : List CObject
objects = static 1 (array_of 4 long_t) [] ∷ static 2 (array_of 32 char_t) [] ∷ []

-- `*(struct .. *)((char *)v + k)`, and the same in `b`
at_byte : ℕ → ℕ → CExpr
at_byte number k = star (record_t number) (conv (to (record_t number)) (two_as (to char_t) Add (conv (to char_t) (first_of long_t v)) (n k)))

at_letter : ℕ → ℕ → CExpr
at_letter number k = star (record_t number) (conv (to (record_t number)) (two_as (to char_t) Add (first_of char_t (var_as (array_of 32 char_t) 2)) (n k)))

does_one : CExpr → Both
does_one value = runs (program_of records objects (main_fun [] (run value ∷ []) ∷ [])) 80

does_all : List CExpr → List Both
does_all [] = []
does_all (first ∷ others) = does_one first ∷ does_all others

all_misaligned : List CExpr → List Both
all_misaligned [] = []
all_misaligned (first ∷ others) = breaks_at 1 U10 ∷ all_misaligned others

all_run : List CExpr → List Both
all_run [] = []
all_run (first ∷ others) = ends (pos 0) ∷ all_run others

-- ---- structures

x_of : CExpr → CExpr
x_of of = dot int_t of (byte 0)

-- `p->x = 3`, where an `int` might stand but no `struct r`; `p->x`; `&p->y`; a `char` where no structure with an `int` may stand; a bit-field
misaligned : List CExpr
misaligned = set (x_of (at_byte 0 4)) (n 3) ∷ get (x_of (at_byte 0 4)) ∷ addr (dot long_t (at_byte 0 4) (byte 8))
    ∷ get (dot char_t (at_byte 3 2) (byte 0)) ∷ set (dot unsigned_t (at_byte 4 2) (bits 4 0 3)) (number_as unsigned_t (pos 1))
    -- the alignment of the block counts, too: `((struct r *)b)->x`
    ∷ get (x_of (at_letter 0 0)) ∷ []

misaligned_members : does_all misaligned ≡ all_misaligned misaligned
unfolding layouts_of records record_of v objects at_byte at_letter does_one does_all all_misaligned x_of misaligned
misaligned_members = refl

-- the same at places where the structures may stand, and a structure of `char`s at any
aligned : List CExpr
aligned = set (x_of (at_byte 0 8)) (n 3) ∷ get (x_of (at_byte 0 16)) ∷ addr (dot long_t (at_byte 0 8) (byte 8))
    ∷ get (dot char_t (at_byte 3 4) (byte 0)) ∷ set (dot unsigned_t (at_byte 4 4) (bits 4 0 3)) (number_as unsigned_t (pos 1))
    ∷ set (dot char_t (at_byte 1 3) (byte 1)) (number_as char_t (pos 3)) ∷ get (dot char_t (at_letter 1 1) (byte 0)) ∷ []

aligned_members : does_all aligned ≡ all_run aligned
unfolding layouts_of records record_of v objects at_byte at_letter does_one does_all all_run x_of aligned
aligned_members = refl

-- ---- members of members, and unions

inner : CExpr → CExpr
inner of = dot (record_t 2) of (byte 4)

i_of : CExpr → CExpr
i_of of = dot int_t of (byte 0)

a_of : CExpr → CExpr
a_of of = dot char_t of (byte 0)

-- `p->in.i` and `p->in.a` of a misaligned `struct o`; of a misaligned union, whichever member
misaligned_inner : List CExpr
misaligned_inner = get (i_of (inner (at_byte 3 2))) ∷ addr (a_of (inner (at_byte 3 1))) ∷ get (i_of (at_byte 2 6)) ∷ get (a_of (at_byte 2 5)) ∷ []

misaligned_nested : does_all misaligned_inner ≡ all_misaligned misaligned_inner
unfolding layouts_of records record_of v objects at_byte does_one does_all all_misaligned inner i_of a_of misaligned_inner
misaligned_nested = refl

aligned_inner : List CExpr
aligned_inner = get (i_of (inner (at_byte 3 4))) ∷ addr (a_of (inner (at_byte 3 12))) ∷ get (i_of (at_byte 2 4)) ∷ get (a_of (at_byte 2 12)) ∷ []

aligned_nested : does_all aligned_inner ≡ all_run aligned_inner
unfolding layouts_of records record_of v objects at_byte does_one does_all all_run inner i_of a_of aligned_inner
aligned_nested = refl

-- ---- blocks of `calloc`: `struct r *p = (struct r *)((char *)calloc(2, 16) + k); return p->x;`

in_allocated : ℕ → Both
in_allocated k = runs (program_of records (static 3 (to (record_t 0)) [] ∷ []) (main_fun [] (
    run (set (var_as (to (record_t 0)) 3) (conv (to (record_t 0)) (two_as (to char_t) Add
    (conv (to char_t) (calls_as to_void 104 (number_as size_t (pos 2) ∷ number_as size_t (pos 16) ∷ []))) (n k))))
    ∷ give (get (x_of (star (record_t 0) (val_as (to (record_t 0)) 3)))) ∷ []) ∷ [])) 100

allocated : in_allocated 16 ≡ ends (pos 0)
unfolding layouts_of known_table records record_of x_of in_allocated
allocated = refl

allocated_misaligned : in_allocated 12 ≡ breaks_at 1 U10
unfolding layouts_of known_table records record_of x_of in_allocated
allocated_misaligned = refl

-- ---- what is found first: a null pointer, a dead object, a member outside; only then the alignment

through_null : does_one (addr (x_of (star (record_t 0) (null_as (to (record_t 0)))))) ≡ breaks_at 1 U6
unfolding layouts_of records record_of v objects does_one x_of
through_null = refl

-- `&p->y` past the end of `v`
past_the_end : does_one (addr (dot long_t (at_byte 0 28) (byte 8))) ≡ breaks_at 1 U11
unfolding layouts_of records record_of v objects at_byte does_one
past_the_end = refl

-- `struct r *p; int main(void) { { char c[16]; p = (struct r *)c; } &p->x; }`
through_dead : runs (program_of records (static 3 (to (record_t 0)) [] ∷ local 4 (array_of 16 char_t) ∷ []) (main_fun [] (
    in_block (4 ∷ []) (run (set (var_as (to (record_t 0)) 3) (conv (to (record_t 0)) (first_of char_t (var_as (array_of 16 char_t) 4)))) ∷ [])
    ∷ run (addr (x_of (star (record_t 0) (val_as (to (record_t 0)) 3)))) ∷ []) ∷ [])) 80 ≡ breaks_at 1 U5
unfolding layouts_of records record_of x_of
through_dead = refl

-- ---- a member of a value has no place: `(1 ? s : s).x`

of_value : runs (program_of records (static 3 (record_t 0) [] ∷ []) (main_fun [] (
    give (dot int_t (choose (n 1) (get (var_as (record_t 0) 3)) (get (var_as (record_t 0) 3))) (byte 0)) ∷ []) ∷ [])) 60 ≡ ends (pos 0)
unfolding layouts_of records record_of
of_value = refl
