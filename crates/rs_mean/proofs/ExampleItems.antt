-- Worked crates, of which the check computes the first item that is at fault: types written at uses, records of another module, and the
-- functions that `main.rs` calls.
use Rattle.std.specs.Prelude.{◌≡◌, ℕ, pos, false, List, [], ◌∷◌, Option, Some, None, codes}
use Rattle.std.proofs.Common.{refl}
use Rattle.cr_world.specs.Known.{known_table}
use Rattle.rs_text.specs.declared.attribute.Attribute.TheVariants.{Mangled}
use Rattle.rs_text.specs.declared.integer.IntegerTy.TheVariants.{I32, I64}
use Rattle.rs_text.specs.Tree.{Ty, Integer, Pointer, Array, Record, no_ty, Local, Deref, Field, Literal, Read, SomeFunction, IsNone, Cast, Stmt, Assign, Return, stmts, tys, FieldTree, LocalTree, ItemTree, RecordItem, StaticItem, ExternItem, FunctionItem, ModuleTree, CrateTree}
use Rattle.rs_mean.specs.Typing.{ItemPlace, first_ill}

abbrev field_named : List ℕ → Ty → FieldTree
field_named name ty = record { name = name; ty = ty }

abbrev local_of : List ℕ → Ty → LocalTree
local_of name ty = record { name = name; ty = ty }

abbrev struct : List ℕ → List FieldTree → ItemTree
struct name fields = RecordItem (record { align = None; is_union = false; name = name; fields = fields })

abbrev static_of : List ℕ → Ty → ItemTree
static_of name ty = StaticItem (record { attribute = Mangled; name = name; ty = ty; values = None })

abbrev function : List ℕ → List LocalTree → Option Ty → List LocalTree → List Stmt → ItemTree
function name params result locals body =
    FunctionItem (record { attribute = Mangled; name = name; params = params; result = result; locals = locals; body = stmts body })

abbrev outer_of : List ℕ → List Ty → Option Ty → ItemTree
outer_of name params result = ExternItem (record { link_name = None; name = name; params = params; variadic = false; result = result } ∷ [])

abbrev unit_of : List ℕ → List ItemTree → ModuleTree
unit_of name items = record { name = name; items = items }

abbrev whole : List ModuleTree → CrateTree
whole modules = record { modules = modules; entry = 0 }

abbrev at : ℕ → ℕ → Option ItemPlace
at m i = Some (record { mod_number = m; item_number = i })

abbrev gives_zero : Stmt
gives_zero = Return (Some (Literal (pos 0) I32))

-- ---- types that are written where a function is named

abbrev pointed_none : Ty
pointed_none = Pointer (Record (codes "a") (codes "none"))

abbrev names_g : ItemTree
names_g =
    function (codes "f") [] (Some (Integer I32)) []
    (Return (Some (Cast (IsNone (SomeFunction (codes "a") (codes "g") (tys (pointed_none ∷ [])) no_ty)) (Integer I32))) ∷ [])

abbrev g_of : Ty → ItemTree
g_of ty = function (codes "g") (local_of (codes "q") ty ∷ []) None [] []

-- they are asked for there, as those of casts are, in front of the function itself
written_type_is_asked : first_ill (whole (unit_of (codes "a") (names_g ∷ g_of pointed_none ∷ []) ∷ [])) ≡ at 0 0
unfolding known_table
written_type_is_asked = refl

written_type_stands : first_ill (whole (unit_of (codes "a") (struct (codes "none") (field_named (codes "x") (Integer I32) ∷ []) ∷ names_g ∷ g_of pointed_none ∷ []) ∷ [])) ≡ None
unfolding known_table
written_type_stands = refl

-- ---- records of another module

abbrev b_record : List ℕ → Ty
b_record x = Record (codes "b") x

abbrev uses_b : List ItemTree
uses_b =
    static_of (codes "n") (b_record (codes "s")) ∷ static_of (codes "k") (Array (b_record (codes "s")) 2)
    ∷ function (codes "main_0") [] (Some (Integer I32)) (local_of (codes "p") (Pointer (b_record (codes "s"))) ∷ local_of (codes "l") (b_record (codes "s")) ∷ [])
    (Assign (Field (Deref (Read (Local (codes "p")))) (codes "i")) (Literal (pos 1) I32) ∷ gives_zero ∷ []) ∷ []

abbrev later_record : ItemTree
later_record = struct (codes "t") (field_named (codes "x") (Integer I64) ∷ [])

-- `t` stands behind `s`, which holds one: `s` is at fault, wherever it has the field
held_before : first_ill (whole (unit_of (codes "a") uses_b ∷ unit_of (codes "b") (struct (codes "s") (field_named (codes "h") (b_record (codes "t")) ∷ field_named (codes "i") (Integer I32) ∷ []) ∷ later_record ∷ []) ∷ []))
    ≡ at 1 0
unfolding known_table
held_before = refl

held_behind : first_ill (whole (unit_of (codes "a") uses_b ∷ unit_of (codes "b") (struct (codes "s") (field_named (codes "i") (Integer I32) ∷ field_named (codes "h") (b_record (codes "t")) ∷ []) ∷ later_record ∷ []) ∷ []))
    ≡ at 1 0
unfolding known_table
held_behind = refl

held_earlier : first_ill (whole (unit_of (codes "a") uses_b ∷ unit_of (codes "b") (later_record ∷ struct (codes "s") (field_named (codes "h") (b_record (codes "t")) ∷ field_named (codes "i") (Integer I32) ∷ []) ∷ []) ∷ []))
    ≡ None
unfolding known_table
held_earlier = refl

-- an array of a record of another module that is too large is at fault itself
array_too_large : first_ill (whole (unit_of (codes "a") (static_of (codes "k") (Array (b_record (codes "t")) 16777216) ∷ []) ∷ unit_of (codes "b") (later_record ∷ []) ∷ [])) ≡ at 0 0
unfolding known_table
array_too_large = refl

-- ---- the functions that `main.rs` calls, without a body

outer_main : first_ill (whole (unit_of (codes "a") (outer_of (codes "main_0") [] (Some (Integer I32)) ∷ []) ∷ [])) ≡ None
unfolding known_table
outer_main = refl

outer_main_with_parameter : first_ill (whole (unit_of (codes "a") (outer_of (codes "main_0") (Integer I32 ∷ []) (Some (Integer I32)) ∷ []) ∷ [])) ≡ at 0 0
unfolding known_table
outer_main_with_parameter = refl

outer_main_of_another_result : first_ill (whole (unit_of (codes "a") (outer_of (codes "main_0") [] (Some (Integer I64)) ∷ []) ∷ [])) ≡ at 0 0
unfolding known_table
outer_main_of_another_result = refl

outer_initialiser : first_ill (whole (unit_of (codes "a") (outer_of (codes "run_static_initializers") [] (Some (Integer I32)) ∷ []) ∷ [])) ≡ at 0 0
unfolding known_table
outer_initialiser = refl
