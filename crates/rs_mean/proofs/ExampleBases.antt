-- Worked runs, which the check computes: places that are based on a misaligned pointer, and `!` of a truth value.
use Rattle.std.specs.Prelude.{◌≡◌, ℕ, ℤ, pos, negsuc, true, false, List, [], ◌∷◌, ◌++◌, Some, None, Ok, codes}
use Rattle.std.proofs.Common.{refl}
use Rattle.cr_world.specs.Known.{known_table}
use Rattle.cr_world.specs.World.{wrong}
use Rattle.mem_bytes.specs.declared.value.Value.TheVariants.{Whole}
use Rattle.rs_text.specs.declared.attribute.Attribute.TheVariants.{Mangled}
use Rattle.rs_text.specs.declared.integer.IntegerTy.TheVariants.{I8, I32, I64, U64, Isize}
use Rattle.rs_text.specs.Tree.{Ty, Integer, Boolean, Void, Pointer, Array, Record, Place, Local, Deref, Field, Expr, Literal, Read, Call as Calls, Offset, AddressOf, Cast, exprs, Stmt, Assign, Return, stmts, FieldTree, LocalTree, ItemTree, RecordItem, ExternItem, FunctionItem, CrateTree}
use Rattle.rs_mean.specs.declared.cause.Cause.{Cause}
use Rattle.rs_mean.specs.declared.cause.Cause.TheVariants as cause
use Rattle.rs_mean.specs.Run.{RSeen, ended, stopped, rs_run}
use Rattle.rs_mean.specs.Values.{typed, truth, not_of}
use Rattle.rs_mean.specs.World.{pure, fails, ends, seq, takes_unit, local, tells, grants, begins, rounds}

-- ---- crates of one module, with three `i64` in `v`, a pointer to a record, and these statements

-- `r` has an `i32` and an `i64`, `o` an `r` and an `i8`, `u` is the union of an `i8` and an `i64`, `b` has two `i8`
abbrev field_named : List ℕ → Ty → FieldTree
field_named name ty = record { name = name; ty = ty }

abbrev records : List ItemTree
records =
    RecordItem (record { align = None; is_union = false; name = codes "r"; fields = field_named (codes "x") (Integer I32) ∷ field_named (codes "y") (Integer I64) ∷ [] })
    ∷ RecordItem (record { align = None; is_union = false; name = codes "o"; fields = field_named (codes "z") (Integer I8) ∷ field_named (codes "i") (Record (codes "a") (codes "r")) ∷ [] })
    ∷ RecordItem (record { align = None; is_union = true; name = codes "u"; fields = field_named (codes "c") (Integer I8) ∷ field_named (codes "l") (Integer I64) ∷ [] })
    ∷ RecordItem (record { align = None; is_union = false; name = codes "b"; fields = field_named (codes "c") (Integer I8) ∷ field_named (codes "d") (Integer I8) ∷ [] })
    ∷ ExternItem (record { link_name = None; name = codes "calloc"; params = Integer U64 ∷ Integer U64 ∷ []; variadic = false; result = Some (Pointer Void) } ∷ []) ∷ []

abbrev to_record : List ℕ → Ty
to_record x = Pointer (Record (codes "a") x)

abbrev local_of : List ℕ → Ty → LocalTree
local_of name ty = record { name = name; ty = ty }

abbrev with_body : List ℕ → List Stmt → CrateTree
with_body x body = record {
  modules = record {
    name = codes "a";
    items = records ++ FunctionItem (record {
      attribute = Mangled;
      name = codes "main_0";
      params = [];
      result = Some (Integer I32);
      locals = local_of (codes "v") (Array (Integer I64) 3) ∷ local_of (codes "p") (to_record x) ∷ [];
      body = stmts body;
    }) ∷ FunctionItem (record { attribute = Mangled; name = codes "run_static_initializers"; params = []; result = None; locals = []; body = stmts [] }) ∷ [];
  } ∷ [];
  entry = 0;
}

-- `p = (e as *mut i8).offset(byte) as *mut x;`
abbrev points_into : Expr → ℕ → List ℕ → Stmt
points_into e byte x =
    Assign (Local (codes "p")) (Cast (Offset (Cast e (Pointer (Integer I8))) (Literal (pos byte) Isize)) (to_record x))

abbrev pointed : Place
pointed = Deref (Read (Local (codes "p")))

abbrev into_v : Expr
into_v = AddressOf (Local (codes "v"))

abbrev a_block : Expr
a_block = Calls (codes "a") (codes "calloc") (exprs (Literal (pos 24) U64 ∷ Literal (pos 1) U64 ∷ []))

-- `(*p).x = 3i32;`
abbrev stores_x : Stmt
stores_x = Assign (Field pointed (codes "x")) (Literal (pos 3) I32)

abbrev gives_zero : Stmt
gives_zero = Return (Some (Literal (pos 0) I32))

abbrev seen : List ℕ → List Stmt → RSeen
seen x body = rs_run (with_body x body) (record { answers = [] }) 20

abbrev is_wrong : Cause → RSeen
is_wrong why = record { events = []; progress = stopped (wrong why) }

abbrev gives : ℤ → RSeen
gives status = record { events = []; progress = ended status }

-- ---- places

-- a store of a field of a record that isn't aligned, though the field is
stores_misaligned : seen (codes "r") (points_into into_v 4 (codes "r") ∷ stores_x ∷ gives_zero ∷ []) ≡ is_wrong cause.Misaligned
unfolding pure fails ends seq takes_unit local tells grants begins rounds known_table
stores_misaligned = refl

-- and a load
loads_misaligned : seen (codes "r") (points_into into_v 4 (codes "r") ∷ Return (Some (Read (Field pointed (codes "x")))) ∷ []) ≡ is_wrong cause.Misaligned
unfolding pure fails ends seq takes_unit local tells grants begins rounds known_table
loads_misaligned = refl

-- the address of the field is no access, and what it points to is aligned: the store and the load through it have a meaning
through_the_field :
    seen (codes "r") (
    points_into into_v 4 (codes "r") ∷ Assign (Deref (AddressOf (Field pointed (codes "x")))) (Literal (pos 3) I32)
    ∷ Return (Some (Read (Deref (AddressOf (Field pointed (codes "x")))))) ∷ []) ≡ gives (pos 3)
unfolding pure fails ends seq takes_unit local tells grants begins rounds known_table
through_the_field = refl

-- at a multiple of 8 both are aligned
stores_aligned : seen (codes "r") (points_into into_v 8 (codes "r") ∷ stores_x ∷ Return (Some (Read (Field pointed (codes "x")))) ∷ []) ≡ gives (pos 3)
unfolding pure fails ends seq takes_unit local tells grants begins rounds known_table
stores_aligned = refl

-- a place that leaves the object is found first, as for any access
stores_outside : seen (codes "r") (points_into into_v 22 (codes "r") ∷ stores_x ∷ gives_zero ∷ []) ≡ is_wrong cause.Outside
unfolding pure fails ends seq takes_unit local tells grants begins rounds known_table
stores_outside = refl

-- a field of a field has the base of the whole
stores_nested :
    seen (codes "o") (points_into into_v 4 (codes "o") ∷ Assign (Field (Field pointed (codes "i")) (codes "x")) (Literal (pos 3) I32) ∷ gives_zero ∷ [])
    ≡ is_wrong cause.Misaligned
unfolding pure fails ends seq takes_unit local tells grants begins rounds known_table
stores_nested = refl

-- a byte in front of a record that isn't aligned isn't one that may be read
stores_byte_of_record :
    seen (codes "o") (points_into into_v 1 (codes "o") ∷ Assign (Field pointed (codes "z")) (Literal (pos 3) I8) ∷ gives_zero ∷ []) ≡ is_wrong cause.Misaligned
unfolding pure fails ends seq takes_unit local tells grants begins rounds known_table
stores_byte_of_record = refl

-- a record of bytes stands anywhere
stores_odd :
    seen (codes "b") (
    points_into into_v 1 (codes "b") ∷ Assign (Field pointed (codes "d")) (Literal (pos 3) I8)
    ∷ Return (Some (Cast (Read (Field pointed (codes "d"))) (Integer I32))) ∷ []) ≡ gives (pos 3)
unfolding pure fails ends seq takes_unit local tells grants begins rounds known_table
stores_odd = refl

-- a byte of a union that isn't aligned
stores_union :
    seen (codes "u") (points_into into_v 1 (codes "u") ∷ Assign (Field pointed (codes "c")) (Literal (pos 3) I8) ∷ gives_zero ∷ []) ≡ is_wrong cause.Misaligned
unfolding pure fails ends seq takes_unit local tells grants begins rounds known_table
stores_union = refl

-- a block of `calloc` is aligned to 16 bytes
stores_in_block :
    seen (codes "r") (points_into a_block 8 (codes "r") ∷ stores_x ∷ Return (Some (Read (Field pointed (codes "x")))) ∷ [])
    ≡ gives (pos 3)
unfolding pure fails ends seq takes_unit local tells grants begins rounds known_table
stores_in_block = refl

stores_misaligned_in_block :
    seen (codes "r") (points_into a_block 4 (codes "r") ∷ stores_x ∷ gives_zero ∷ []) ≡ is_wrong cause.Misaligned
unfolding pure fails ends seq takes_unit local tells grants begins rounds known_table
stores_misaligned_in_block = refl

-- ---- `!` of a truth value goes by cases

not_of_none : not_of (typed Boolean (Whole (pos 0))) ≡ Ok (truth true)
not_of_none = refl

not_of_one : not_of (typed Boolean (Whole (pos 1))) ≡ Ok (truth false)
not_of_one = refl

not_of_two : not_of (typed Boolean (Whole (pos 2))) ≡ Ok (truth false)
not_of_two = refl

not_of_less : not_of (typed Boolean (Whole (negsuc 0))) ≡ Ok (truth false)
not_of_less = refl
