-- Worked runs: calls by pointers between two units, and enumerated types.
use Rattle.std.proofs.Common.{◌≡◌, ℕ, pos, false, List, [], ◌∷◌, Option, Some, codes, refl}
use Rattle.cr_base.specs.declared.rule.URule.TheVariants.{U13}
use Rattle.cx_core.specs.Conversions.{same_basic}
use Rattle.cx_core.specs.declared.expr.Op2.TheVariants.{Add}
use Rattle.cx_core.specs.Layouts.{layouts_of}
use Rattle.cx_core.specs.Trees.{CMember, CRecord, CTy, ty, enum_type, CTypes}
use Rattle.cx_mean.proofs.Programs.{Both, int_t, unsigned_t, to, record_t, named_member, n, var_as, val_as, get, two, conv, addr, star, dot, byte, calls_by, fun_pointer, taking, put_at, give, in_block, static, local, fun, main_fun, program_of, post_up, sequence, runs, ends, breaks_at}
use Rattle.cx_mean.specs.Settings.{compatible_records}

-- `struct s { int x; }` in unit 0, and a structure of the same tag with these members in unit 1
record_with : ℕ → List CMember → Option CRecord
record_with number members = Some (record { number = number; tag = Some (codes "s"); is_union = false; members = members })

two_units : List CMember → CTypes
two_units members = record {
  records = record_with 0 (named_member (codes "x") int_t ∷ []) ∷ record_with 1 members ∷ [];
  record_tags = record { tag = Some (codes "s"); is_union = false } ∷ record { tag = Some (codes "s"); is_union = false } ∷ [];
  record_units = 0 ∷ 1 ∷ [];
  enums = [];
  enum_units = [];
}

s_type : CTy
s_type = record_t 0

g_type : ℕ → CTy
g_type number = taking int_t (to (record_t number) ∷ [])

-- unit 1: `int g(struct s *x2) { return x2->x; }`; unit 0: `struct s x1 = { 6 }; int (*p)(struct s *) = g; .. p(&x1)`
called_between : List CMember → Both
called_between members = runs (program_of (two_units members) (static 1 s_type (put_at 0 (n 6) ∷ []) ∷ local 2 (to (record_t 1)) ∷ [])
    (main_fun [] (give (calls_by int_t (fun_pointer (g_type 0) 1) (addr (var_as s_type 1) ∷ [])) ∷ [])
    ∷ fun 1 (codes "g") (g_type 1) (2 ∷ []) (in_block [] (give (get (dot int_t (star (record_t 1) (val_as (to (record_t 1)) 2)) (byte 0))) ∷ [])) ∷ [])) 60

compatible_units : called_between (named_member (codes "x") int_t ∷ []) ≡ ends (pos 6)
unfolding layouts_of same_basic record_with two_units s_type g_type called_between
compatible_units = refl

other_name : called_between (named_member (codes "y") int_t ∷ []) ≡ breaks_at 1 U13
unfolding layouts_of same_basic record_with two_units s_type g_type called_between
other_name = refl

other_type : called_between (named_member (codes "x") unsigned_t ∷ []) ≡ breaks_at 1 U13
unfolding layouts_of same_basic record_with two_units s_type g_type called_between
other_type = refl

-- both pairs count, in both orders; with another member none does
pairs : compatible_records (two_units (named_member (codes "x") int_t ∷ []))
    ≡ record { first = 1; second = 0 } ∷ record { first = 0; second = 1 } ∷ []
unfolding same_basic two_units record_with
pairs = refl

no_pairs : compatible_records (two_units (named_member (codes "y") int_t ∷ [])) ≡ []
unfolding same_basic two_units record_with
no_pairs = refl

-- a list: `struct s { struct s *next; }` in each unit, which hold each other
linked : CTypes
linked = record {
  records = record_with 0 (named_member (codes "next") (to (record_t 0)) ∷ []) ∷ record_with 1 (named_member (codes "next") (to (record_t 1)) ∷ []) ∷ [];
  record_tags = record { tag = Some (codes "s"); is_union = false } ∷ record { tag = Some (codes "s"); is_union = false } ∷ [];
  record_units = 0 ∷ 1 ∷ [];
  enums = [];
  enum_units = [];
}

linked_pairs : compatible_records linked ≡ record { first = 1; second = 0 } ∷ record { first = 0; second = 1 } ∷ []
unfolding same_basic linked record_with
linked_pairs = refl

-- `enum e { a, b } x1 = b; x1++; return x1 + 1;`, where `enum e` is `unsigned int`
with_enum : CTypes
with_enum = record { records = []; record_tags = []; record_units = []; enums = false ∷ []; enum_units = 0 ∷ [] }

enum_t : CTy
enum_t = ty (enum_type 0) false

enum_object : runs (program_of with_enum (static 1 enum_t (put_at 0 (conv enum_t (n 1)) ∷ []) ∷ [])
    (main_fun [] (give (two Add (sequence (post_up (var_as enum_t 1)) (conv int_t (val_as enum_t 1))) (n 1)) ∷ []) ∷ [])) 60 ≡ ends (pos 3)
unfolding layouts_of with_enum enum_t
enum_object = refl
