-- Worked crates for each case of typing, beside its bounds: well typed, or the first item that breaks a case, which the check computes.
-- `rustc` takes each that is well typed; of the others it takes some, since the subset is narrower.
use Rattle.std.specs.Prelude.{◌≡◌, pos, negsuc, true, false, [], ◌∷◌, Some, None, codes}
use Rattle.std.proofs.Common.{refl}
use Rattle.cr_world.specs.Known.{known_table}
use Rattle.rs_text.specs.declared.attribute.Attribute.TheVariants.{Mangled}
use Rattle.rs_text.specs.declared.integer.IntegerTy.TheVariants.{I8, I16, I32, I64, U8, U16, U32, U64, Isize, Usize}
use Rattle.rs_text.specs.Tree.{Integer, Void, Pointer, Array, Code, Record, no_ty, some_ty, Local, Static, Field, Literal, NoFunction, Read, Call as Calls, IsNull, IsNone, NullPointer, SomeFunction, Transmute, Cast, exprs, Assign, Eval, Break, Return, stmts, tys, RecordItem, StaticItem, ExternItem, FunctionItem}
use Rattle.rs_mean.specs.Typing.{first_ill}

-- ---- names

outer_name_twice : first_ill (record { modules = record { name = codes "a"; items = ExternItem (record { link_name = None; name = codes "putchar"; params = Integer I32 ∷ []; variadic = false; result = Some (Integer I32) } ∷ record { link_name = None; name = codes "putchar"; params = Integer I32 ∷ []; variadic = false; result = Some (Integer I32) } ∷ []) ∷ FunctionItem (record { attribute = Mangled; name = codes "main_0"; params = []; result = Some (Integer I32); locals = []; body = stmts (Return (Some (Literal (pos 0) I32)) ∷ []) }) ∷ FunctionItem (record { attribute = Mangled; name = codes "run_static_initializers"; params = []; result = None; locals = []; body = stmts ([]) }) ∷ [] } ∷ []; entry = 0 }) ≡ Some (record { mod_number = 0; item_number = 0 })
unfolding known_table
outer_name_twice = refl

outer_named_as_static : first_ill (record { modules = record { name = codes "a"; items = StaticItem (record { attribute = Mangled; name = codes "putchar"; ty = Integer I32; values = None }) ∷ ExternItem (record { link_name = None; name = codes "putchar"; params = Integer I32 ∷ []; variadic = false; result = Some (Integer I32) } ∷ []) ∷ FunctionItem (record { attribute = Mangled; name = codes "main_0"; params = []; result = Some (Integer I32); locals = []; body = stmts (Return (Some (Literal (pos 0) I32)) ∷ []) }) ∷ FunctionItem (record { attribute = Mangled; name = codes "run_static_initializers"; params = []; result = None; locals = []; body = stmts ([]) }) ∷ [] } ∷ []; entry = 0 }) ≡ Some (record { mod_number = 0; item_number = 1 })
unfolding known_table
outer_named_as_static = refl

function_named_as_outer : first_ill (record { modules = record { name = codes "a"; items = ExternItem (record { link_name = None; name = codes "putchar"; params = Integer I32 ∷ []; variadic = false; result = Some (Integer I32) } ∷ []) ∷ FunctionItem (record { attribute = Mangled; name = codes "putchar"; params = []; result = None; locals = []; body = stmts ([]) }) ∷ FunctionItem (record { attribute = Mangled; name = codes "main_0"; params = []; result = Some (Integer I32); locals = []; body = stmts (Return (Some (Literal (pos 0) I32)) ∷ []) }) ∷ FunctionItem (record { attribute = Mangled; name = codes "run_static_initializers"; params = []; result = None; locals = []; body = stmts ([]) }) ∷ [] } ∷ []; entry = 0 }) ≡ Some (record { mod_number = 0; item_number = 1 })
unfolding known_table
function_named_as_outer = refl

function_named_as_record : first_ill (record { modules = record { name = codes "a"; items = RecordItem (record { align = None; is_union = false; name = codes "s"; fields = record { name = codes "c"; ty = Integer I8 } ∷ record { name = codes "n"; ty = Integer I32 } ∷ [] }) ∷ FunctionItem (record { attribute = Mangled; name = codes "s"; params = []; result = None; locals = []; body = stmts ([]) }) ∷ FunctionItem (record { attribute = Mangled; name = codes "main_0"; params = []; result = Some (Integer I32); locals = []; body = stmts (Return (Some (Literal (pos 0) I32)) ∷ []) }) ∷ FunctionItem (record { attribute = Mangled; name = codes "run_static_initializers"; params = []; result = None; locals = []; body = stmts ([]) }) ∷ [] } ∷ []; entry = 0 }) ≡ Some (record { mod_number = 0; item_number = 1 })
unfolding known_table
function_named_as_record = refl

local_named_as_parameter : first_ill (record { modules = record { name = codes "a"; items = FunctionItem (record { attribute = Mangled; name = codes "f"; params = record { name = codes "x"; ty = Integer I32 } ∷ []; result = None; locals = record { name = codes "x"; ty = Integer I32 } ∷ []; body = stmts ([]) }) ∷ FunctionItem (record { attribute = Mangled; name = codes "main_0"; params = []; result = Some (Integer I32); locals = []; body = stmts (Return (Some (Literal (pos 0) I32)) ∷ []) }) ∷ FunctionItem (record { attribute = Mangled; name = codes "run_static_initializers"; params = []; result = None; locals = []; body = stmts ([]) }) ∷ [] } ∷ []; entry = 0 }) ≡ Some (record { mod_number = 0; item_number = 0 })
unfolding known_table
local_named_as_parameter = refl

parameter_named_as_later_item : first_ill (record { modules = record { name = codes "a"; items = FunctionItem (record { attribute = Mangled; name = codes "f"; params = record { name = codes "g"; ty = Integer I32 } ∷ []; result = None; locals = []; body = stmts ([]) }) ∷ FunctionItem (record { attribute = Mangled; name = codes "g"; params = []; result = None; locals = []; body = stmts ([]) }) ∷ FunctionItem (record { attribute = Mangled; name = codes "main_0"; params = []; result = Some (Integer I32); locals = []; body = stmts (Return (Some (Literal (pos 0) I32)) ∷ []) }) ∷ FunctionItem (record { attribute = Mangled; name = codes "run_static_initializers"; params = []; result = None; locals = []; body = stmts ([]) }) ∷ [] } ∷ []; entry = 0 }) ≡ Some (record { mod_number = 0; item_number = 0 })
unfolding known_table
parameter_named_as_later_item = refl

local_named_as_outer : first_ill (record { modules = record { name = codes "a"; items = ExternItem (record { link_name = None; name = codes "putchar"; params = Integer I32 ∷ []; variadic = false; result = Some (Integer I32) } ∷ []) ∷ FunctionItem (record { attribute = Mangled; name = codes "main_0"; params = []; result = Some (Integer I32); locals = record { name = codes "putchar"; ty = Integer I32 } ∷ []; body = stmts (Return (Some (Literal (pos 0) I32)) ∷ []) }) ∷ FunctionItem (record { attribute = Mangled; name = codes "run_static_initializers"; params = []; result = None; locals = []; body = stmts ([]) }) ∷ [] } ∷ []; entry = 0 }) ≡ Some (record { mod_number = 0; item_number = 1 })
unfolding known_table
local_named_as_outer = refl

same_names_in_modules : first_ill (record { modules = record { name = codes "a"; items = StaticItem (record { attribute = Mangled; name = codes "x"; ty = Integer I32; values = None }) ∷ FunctionItem (record { attribute = Mangled; name = codes "main_0"; params = []; result = Some (Integer I32); locals = []; body = stmts (Return (Some (Literal (pos 0) I32)) ∷ []) }) ∷ FunctionItem (record { attribute = Mangled; name = codes "run_static_initializers"; params = []; result = None; locals = []; body = stmts ([]) }) ∷ [] } ∷ record { name = codes "b"; items = StaticItem (record { attribute = Mangled; name = codes "x"; ty = Integer I32; values = None }) ∷ FunctionItem (record { attribute = Mangled; name = codes "f"; params = record { name = codes "a"; ty = Integer I32 } ∷ []; result = None; locals = []; body = stmts ([]) }) ∷ FunctionItem (record { attribute = Mangled; name = codes "run_static_initializers"; params = []; result = None; locals = []; body = stmts ([]) }) ∷ [] } ∷ []; entry = 0 }) ≡ None
unfolding known_table
same_names_in_modules = refl

second_module : first_ill (record { modules = record { name = codes "a"; items = FunctionItem (record { attribute = Mangled; name = codes "main_0"; params = []; result = Some (Integer I32); locals = []; body = stmts (Return (Some (Literal (pos 0) I32)) ∷ []) }) ∷ FunctionItem (record { attribute = Mangled; name = codes "run_static_initializers"; params = []; result = None; locals = []; body = stmts ([]) }) ∷ [] } ∷ record { name = codes "b"; items = FunctionItem (record { attribute = Mangled; name = codes "f"; params = []; result = None; locals = []; body = stmts (Break (codes "l") ∷ []) }) ∷ FunctionItem (record { attribute = Mangled; name = codes "run_static_initializers"; params = []; result = None; locals = []; body = stmts ([]) }) ∷ [] } ∷ []; entry = 0 }) ≡ Some (record { mod_number = 1; item_number = 0 })
unfolding known_table
second_module = refl

first_of_two : first_ill (record { modules = record { name = codes "a"; items = FunctionItem (record { attribute = Mangled; name = codes "f"; params = []; result = None; locals = []; body = stmts (Break (codes "l") ∷ []) }) ∷ FunctionItem (record { attribute = Mangled; name = codes "g"; params = []; result = None; locals = []; body = stmts (Break (codes "l") ∷ []) }) ∷ FunctionItem (record { attribute = Mangled; name = codes "main_0"; params = []; result = Some (Integer I32); locals = []; body = stmts (Return (Some (Literal (pos 0) I32)) ∷ []) }) ∷ FunctionItem (record { attribute = Mangled; name = codes "run_static_initializers"; params = []; result = None; locals = []; body = stmts ([]) }) ∷ [] } ∷ []; entry = 0 }) ≡ Some (record { mod_number = 0; item_number = 0 })
unfolding known_table
first_of_two = refl

path_to_module : first_ill (record { modules = record { name = codes "a"; items = FunctionItem (record { attribute = Mangled; name = codes "main_0"; params = []; result = Some (Integer I32); locals = record { name = codes "q"; ty = Record (codes "b") (codes "s") } ∷ record { name = codes "f"; ty = Code (tys ([])) (no_ty) } ∷ []; body = stmts (Assign (Field (Local (codes "q")) (codes "n")) (Read (Static (codes "b") (codes "x"))) ∷ Assign (Local (codes "f")) (SomeFunction (codes "b") (codes "f") (tys ([])) (no_ty)) ∷ Eval (Calls (codes "b") (codes "f") (exprs ([]))) ∷ Return (Some (Literal (pos 0) I32)) ∷ []) }) ∷ FunctionItem (record { attribute = Mangled; name = codes "run_static_initializers"; params = []; result = None; locals = []; body = stmts ([]) }) ∷ [] } ∷ record { name = codes "b"; items = RecordItem (record { align = None; is_union = false; name = codes "s"; fields = record { name = codes "c"; ty = Integer I8 } ∷ record { name = codes "n"; ty = Integer I32 } ∷ [] }) ∷ StaticItem (record { attribute = Mangled; name = codes "x"; ty = Integer I32; values = None }) ∷ FunctionItem (record { attribute = Mangled; name = codes "f"; params = []; result = None; locals = []; body = stmts ([]) }) ∷ FunctionItem (record { attribute = Mangled; name = codes "run_static_initializers"; params = []; result = None; locals = []; body = stmts ([]) }) ∷ [] } ∷ []; entry = 0 }) ≡ None
unfolding known_table
path_to_module = refl

static_as_local : first_ill (record { modules = record { name = codes "a"; items = StaticItem (record { attribute = Mangled; name = codes "s"; ty = Integer I32; values = None }) ∷ FunctionItem (record { attribute = Mangled; name = codes "main_0"; params = []; result = Some (Integer I32); locals = []; body = stmts (Return (Some (Read (Local (codes "s")))) ∷ []) }) ∷ FunctionItem (record { attribute = Mangled; name = codes "run_static_initializers"; params = []; result = None; locals = []; body = stmts ([]) }) ∷ [] } ∷ []; entry = 0 }) ≡ Some (record { mod_number = 0; item_number = 1 })
unfolding known_table
static_as_local = refl

function_as_static : first_ill (record { modules = record { name = codes "a"; items = FunctionItem (record { attribute = Mangled; name = codes "f"; params = []; result = None; locals = []; body = stmts ([]) }) ∷ FunctionItem (record { attribute = Mangled; name = codes "main_0"; params = []; result = Some (Integer I32); locals = []; body = stmts (Return (Some (Read (Static (codes "a") (codes "f")))) ∷ []) }) ∷ FunctionItem (record { attribute = Mangled; name = codes "run_static_initializers"; params = []; result = None; locals = []; body = stmts ([]) }) ∷ [] } ∷ []; entry = 0 }) ≡ Some (record { mod_number = 0; item_number = 1 })
unfolding known_table
function_as_static = refl

-- ---- types

field_of_another_module : first_ill (record { modules = record { name = codes "a"; items = RecordItem (record { align = None; is_union = false; name = codes "s"; fields = record { name = codes "t"; ty = Record (codes "b") (codes "t") } ∷ [] }) ∷ FunctionItem (record { attribute = Mangled; name = codes "main_0"; params = []; result = Some (Integer I32); locals = []; body = stmts (Return (Some (Literal (pos 0) I32)) ∷ []) }) ∷ FunctionItem (record { attribute = Mangled; name = codes "run_static_initializers"; params = []; result = None; locals = []; body = stmts ([]) }) ∷ [] } ∷ record { name = codes "b"; items = RecordItem (record { align = None; is_union = false; name = codes "t"; fields = record { name = codes "c"; ty = Integer I8 } ∷ record { name = codes "n"; ty = Integer I32 } ∷ [] }) ∷ FunctionItem (record { attribute = Mangled; name = codes "run_static_initializers"; params = []; result = None; locals = []; body = stmts ([]) }) ∷ [] } ∷ []; entry = 0 }) ≡ Some (record { mod_number = 0; item_number = 0 })
unfolding known_table
field_of_another_module = refl

array_field_of_later : first_ill (record { modules = record { name = codes "a"; items = RecordItem (record { align = None; is_union = false; name = codes "s"; fields = record { name = codes "t"; ty = Array (Record (codes "a") (codes "t")) 2 } ∷ [] }) ∷ RecordItem (record { align = None; is_union = false; name = codes "t"; fields = record { name = codes "c"; ty = Integer I8 } ∷ record { name = codes "n"; ty = Integer I32 } ∷ [] }) ∷ FunctionItem (record { attribute = Mangled; name = codes "main_0"; params = []; result = Some (Integer I32); locals = []; body = stmts (Return (Some (Literal (pos 0) I32)) ∷ []) }) ∷ FunctionItem (record { attribute = Mangled; name = codes "run_static_initializers"; params = []; result = None; locals = []; body = stmts ([]) }) ∷ [] } ∷ []; entry = 0 }) ≡ Some (record { mod_number = 0; item_number = 0 })
unfolding known_table
array_field_of_later = refl

array_field_of_earlier : first_ill (record { modules = record { name = codes "a"; items = RecordItem (record { align = None; is_union = false; name = codes "t"; fields = record { name = codes "c"; ty = Integer I8 } ∷ record { name = codes "n"; ty = Integer I32 } ∷ [] }) ∷ RecordItem (record { align = None; is_union = false; name = codes "s"; fields = record { name = codes "t"; ty = Array (Record (codes "a") (codes "t")) 2 } ∷ [] }) ∷ FunctionItem (record { attribute = Mangled; name = codes "main_0"; params = []; result = Some (Integer I32); locals = []; body = stmts (Return (Some (Literal (pos 0) I32)) ∷ []) }) ∷ FunctionItem (record { attribute = Mangled; name = codes "run_static_initializers"; params = []; result = None; locals = []; body = stmts ([]) }) ∷ [] } ∷ []; entry = 0 }) ≡ None
unfolding known_table
array_field_of_earlier = refl

array_of_itself : first_ill (record { modules = record { name = codes "a"; items = RecordItem (record { align = None; is_union = false; name = codes "s"; fields = record { name = codes "t"; ty = Array (Record (codes "a") (codes "s")) 2 } ∷ [] }) ∷ FunctionItem (record { attribute = Mangled; name = codes "main_0"; params = []; result = Some (Integer I32); locals = []; body = stmts (Return (Some (Literal (pos 0) I32)) ∷ []) }) ∷ FunctionItem (record { attribute = Mangled; name = codes "run_static_initializers"; params = []; result = None; locals = []; body = stmts ([]) }) ∷ [] } ∷ []; entry = 0 }) ≡ Some (record { mod_number = 0; item_number = 0 })
unfolding known_table
array_of_itself = refl

points_to_itself : first_ill (record { modules = record { name = codes "a"; items = RecordItem (record { align = None; is_union = false; name = codes "s"; fields = record { name = codes "t"; ty = Pointer (Record (codes "a") (codes "s")) } ∷ record { name = codes "f"; ty = Code (tys (Pointer (Record (codes "a") (codes "s")) ∷ [])) (some_ty (Pointer (Record (codes "a") (codes "s")))) } ∷ [] }) ∷ FunctionItem (record { attribute = Mangled; name = codes "main_0"; params = []; result = Some (Integer I32); locals = []; body = stmts (Return (Some (Literal (pos 0) I32)) ∷ []) }) ∷ FunctionItem (record { attribute = Mangled; name = codes "run_static_initializers"; params = []; result = None; locals = []; body = stmts ([]) }) ∷ [] } ∷ []; entry = 0 }) ≡ None
unfolding known_table
points_to_itself = refl

union_of_itself : first_ill (record { modules = record { name = codes "a"; items = RecordItem (record { align = None; is_union = true; name = codes "s"; fields = record { name = codes "t"; ty = Record (codes "a") (codes "s") } ∷ [] }) ∷ FunctionItem (record { attribute = Mangled; name = codes "main_0"; params = []; result = Some (Integer I32); locals = []; body = stmts (Return (Some (Literal (pos 0) I32)) ∷ []) }) ∷ FunctionItem (record { attribute = Mangled; name = codes "run_static_initializers"; params = []; result = None; locals = []; body = stmts ([]) }) ∷ [] } ∷ []; entry = 0 }) ≡ Some (record { mod_number = 0; item_number = 0 })
unfolding known_table
union_of_itself = refl

union_without_field : first_ill (record { modules = record { name = codes "a"; items = RecordItem (record { align = None; is_union = true; name = codes "s"; fields = [] }) ∷ FunctionItem (record { attribute = Mangled; name = codes "main_0"; params = []; result = Some (Integer I32); locals = []; body = stmts (Return (Some (Literal (pos 0) I32)) ∷ []) }) ∷ FunctionItem (record { attribute = Mangled; name = codes "run_static_initializers"; params = []; result = None; locals = []; body = stmts ([]) }) ∷ [] } ∷ []; entry = 0 }) ≡ Some (record { mod_number = 0; item_number = 0 })
unfolding known_table
union_without_field = refl

record_raised_too_large : first_ill (record { modules = record { name = codes "a"; items = RecordItem (record { align = None; is_union = false; name = codes "s"; fields = record { name = codes "c"; ty = Array (Integer U8) 16777215 } ∷ record { name = codes "d"; ty = Integer U8 } ∷ [] }) ∷ RecordItem (record { align = None; is_union = false; name = codes "t"; fields = record { name = codes "s"; ty = Record (codes "a") (codes "s") } ∷ record { name = codes "c"; ty = Integer U8 } ∷ [] }) ∷ FunctionItem (record { attribute = Mangled; name = codes "main_0"; params = []; result = Some (Integer I32); locals = []; body = stmts (Return (Some (Literal (pos 0) I32)) ∷ []) }) ∷ FunctionItem (record { attribute = Mangled; name = codes "run_static_initializers"; params = []; result = None; locals = []; body = stmts ([]) }) ∷ [] } ∷ []; entry = 0 }) ≡ Some (record { mod_number = 0; item_number = 1 })
unfolding known_table
record_raised_too_large = refl

record_largest : first_ill (record { modules = record { name = codes "a"; items = RecordItem (record { align = None; is_union = false; name = codes "s"; fields = record { name = codes "c"; ty = Array (Integer U8) 16777215 } ∷ record { name = codes "d"; ty = Integer U8 } ∷ [] }) ∷ FunctionItem (record { attribute = Mangled; name = codes "main_0"; params = []; result = Some (Integer I32); locals = []; body = stmts (Return (Some (Literal (pos 0) I32)) ∷ []) }) ∷ FunctionItem (record { attribute = Mangled; name = codes "run_static_initializers"; params = []; result = None; locals = []; body = stmts ([]) }) ∷ [] } ∷ []; entry = 0 }) ≡ None
unfolding known_table
record_largest = refl

record_rounded_too_large : first_ill (record { modules = record { name = codes "a"; items = RecordItem (record { align = None; is_union = false; name = codes "s"; fields = record { name = codes "c"; ty = Array (Integer U8) 16777215 } ∷ record { name = codes "n"; ty = Integer U8 } ∷ [] }) ∷ RecordItem (record { align = None; is_union = false; name = codes "t"; fields = record { name = codes "n"; ty = Integer I32 } ∷ record { name = codes "c"; ty = Array (Integer U8) 16777209 } ∷ record { name = codes "d"; ty = Integer I32 } ∷ [] }) ∷ FunctionItem (record { attribute = Mangled; name = codes "main_0"; params = []; result = Some (Integer I32); locals = []; body = stmts (Return (Some (Literal (pos 0) I32)) ∷ []) }) ∷ FunctionItem (record { attribute = Mangled; name = codes "run_static_initializers"; params = []; result = None; locals = []; body = stmts ([]) }) ∷ [] } ∷ []; entry = 0 }) ≡ Some (record { mod_number = 0; item_number = 1 })
unfolding known_table
record_rounded_too_large = refl

local_too_large : first_ill (record { modules = record { name = codes "a"; items = FunctionItem (record { attribute = Mangled; name = codes "main_0"; params = []; result = Some (Integer I32); locals = record { name = codes "x"; ty = Array (Integer I32) 4194305 } ∷ []; body = stmts (Return (Some (Literal (pos 0) I32)) ∷ []) }) ∷ FunctionItem (record { attribute = Mangled; name = codes "run_static_initializers"; params = []; result = None; locals = []; body = stmts ([]) }) ∷ [] } ∷ []; entry = 0 }) ≡ Some (record { mod_number = 0; item_number = 0 })
unfolding known_table
local_too_large = refl

local_largest : first_ill (record { modules = record { name = codes "a"; items = FunctionItem (record { attribute = Mangled; name = codes "main_0"; params = []; result = Some (Integer I32); locals = record { name = codes "x"; ty = Array (Integer I32) 4194304 } ∷ []; body = stmts (Return (Some (Literal (pos 0) I32)) ∷ []) }) ∷ FunctionItem (record { attribute = Mangled; name = codes "run_static_initializers"; params = []; result = None; locals = []; body = stmts ([]) }) ∷ [] } ∷ []; entry = 0 }) ≡ None
unfolding known_table
local_largest = refl

array_too_large_in_all : first_ill (record { modules = record { name = codes "a"; items = FunctionItem (record { attribute = Mangled; name = codes "main_0"; params = []; result = Some (Integer I32); locals = record { name = codes "x"; ty = Array (Array (Integer I32) 4096) 1025 } ∷ []; body = stmts (Return (Some (Literal (pos 0) I32)) ∷ []) }) ∷ FunctionItem (record { attribute = Mangled; name = codes "run_static_initializers"; params = []; result = None; locals = []; body = stmts ([]) }) ∷ [] } ∷ []; entry = 0 }) ≡ Some (record { mod_number = 0; item_number = 0 })
unfolding known_table
array_too_large_in_all = refl

length_of_none_pointed : first_ill (record { modules = record { name = codes "a"; items = FunctionItem (record { attribute = Mangled; name = codes "main_0"; params = []; result = Some (Integer I32); locals = record { name = codes "p"; ty = Pointer (Array (Integer I32) 0) } ∷ []; body = stmts (Return (Some (Literal (pos 0) I32)) ∷ []) }) ∷ FunctionItem (record { attribute = Mangled; name = codes "run_static_initializers"; params = []; result = None; locals = []; body = stmts ([]) }) ∷ [] } ∷ []; entry = 0 }) ≡ Some (record { mod_number = 0; item_number = 0 })
unfolding known_table
length_of_none_pointed = refl

static_of_no_record : first_ill (record { modules = record { name = codes "a"; items = StaticItem (record { attribute = Mangled; name = codes "x"; ty = Record (codes "a") (codes "s"); values = None }) ∷ FunctionItem (record { attribute = Mangled; name = codes "main_0"; params = []; result = Some (Integer I32); locals = []; body = stmts (Return (Some (Literal (pos 0) I32)) ∷ []) }) ∷ FunctionItem (record { attribute = Mangled; name = codes "run_static_initializers"; params = []; result = None; locals = []; body = stmts ([]) }) ∷ [] } ∷ []; entry = 0 }) ≡ Some (record { mod_number = 0; item_number = 0 })
unfolding known_table
static_of_no_record = refl

local_of_no_record : first_ill (record { modules = record { name = codes "a"; items = FunctionItem (record { attribute = Mangled; name = codes "main_0"; params = []; result = Some (Integer I32); locals = record { name = codes "x"; ty = Pointer (Pointer (Record (codes "a") (codes "s"))) } ∷ []; body = stmts (Return (Some (Literal (pos 0) I32)) ∷ []) }) ∷ FunctionItem (record { attribute = Mangled; name = codes "run_static_initializers"; params = []; result = None; locals = []; body = stmts ([]) }) ∷ [] } ∷ []; entry = 0 }) ≡ Some (record { mod_number = 0; item_number = 0 })
unfolding known_table
local_of_no_record = refl

parameter_of_no_record : first_ill (record { modules = record { name = codes "a"; items = FunctionItem (record { attribute = Mangled; name = codes "f"; params = record { name = codes "p"; ty = Pointer (Record (codes "a") (codes "s")) } ∷ []; result = None; locals = []; body = stmts ([]) }) ∷ FunctionItem (record { attribute = Mangled; name = codes "main_0"; params = []; result = Some (Integer I32); locals = []; body = stmts (Return (Some (Literal (pos 0) I32)) ∷ []) }) ∷ FunctionItem (record { attribute = Mangled; name = codes "run_static_initializers"; params = []; result = None; locals = []; body = stmts ([]) }) ∷ [] } ∷ []; entry = 0 }) ≡ Some (record { mod_number = 0; item_number = 0 })
unfolding known_table
parameter_of_no_record = refl

result_of_no_record : first_ill (record { modules = record { name = codes "a"; items = FunctionItem (record { attribute = Mangled; name = codes "f"; params = []; result = Some (Pointer (Record (codes "a") (codes "s"))); locals = []; body = stmts (Return (Some (NullPointer (Record (codes "a") (codes "s")))) ∷ []) }) ∷ FunctionItem (record { attribute = Mangled; name = codes "main_0"; params = []; result = Some (Integer I32); locals = []; body = stmts (Return (Some (Literal (pos 0) I32)) ∷ []) }) ∷ FunctionItem (record { attribute = Mangled; name = codes "run_static_initializers"; params = []; result = None; locals = []; body = stmts ([]) }) ∷ [] } ∷ []; entry = 0 }) ≡ Some (record { mod_number = 0; item_number = 0 })
unfolding known_table
result_of_no_record = refl

function_type_of_no_record : first_ill (record { modules = record { name = codes "a"; items = FunctionItem (record { attribute = Mangled; name = codes "main_0"; params = []; result = Some (Integer I32); locals = record { name = codes "f"; ty = Code (tys (Pointer (Record (codes "a") (codes "s")) ∷ [])) (no_ty) } ∷ []; body = stmts (Return (Some (Literal (pos 0) I32)) ∷ []) }) ∷ FunctionItem (record { attribute = Mangled; name = codes "run_static_initializers"; params = []; result = None; locals = []; body = stmts ([]) }) ∷ [] } ∷ []; entry = 0 }) ≡ Some (record { mod_number = 0; item_number = 0 })
unfolding known_table
function_type_of_no_record = refl

function_result_of_no_record : first_ill (record { modules = record { name = codes "a"; items = FunctionItem (record { attribute = Mangled; name = codes "main_0"; params = []; result = Some (Integer I32); locals = record { name = codes "f"; ty = Code (tys ([])) (some_ty (Pointer (Record (codes "a") (codes "s")))) } ∷ []; body = stmts (Return (Some (Literal (pos 0) I32)) ∷ []) }) ∷ FunctionItem (record { attribute = Mangled; name = codes "run_static_initializers"; params = []; result = None; locals = []; body = stmts ([]) }) ∷ [] } ∷ []; entry = 0 }) ≡ Some (record { mod_number = 0; item_number = 0 })
unfolding known_table
function_result_of_no_record = refl

function_type_of_record : first_ill (record { modules = record { name = codes "a"; items = RecordItem (record { align = None; is_union = false; name = codes "s"; fields = record { name = codes "c"; ty = Integer I8 } ∷ record { name = codes "n"; ty = Integer I32 } ∷ [] }) ∷ FunctionItem (record { attribute = Mangled; name = codes "main_0"; params = []; result = Some (Integer I32); locals = record { name = codes "f"; ty = Code (tys (Record (codes "a") (codes "s") ∷ [])) (no_ty) } ∷ []; body = stmts (Return (Some (Literal (pos 0) I32)) ∷ []) }) ∷ FunctionItem (record { attribute = Mangled; name = codes "run_static_initializers"; params = []; result = None; locals = []; body = stmts ([]) }) ∷ [] } ∷ []; entry = 0 }) ≡ Some (record { mod_number = 0; item_number = 1 })
unfolding known_table
function_type_of_record = refl

function_result_is_array : first_ill (record { modules = record { name = codes "a"; items = FunctionItem (record { attribute = Mangled; name = codes "main_0"; params = []; result = Some (Integer I32); locals = record { name = codes "f"; ty = Code (tys ([])) (some_ty (Array (Integer I32) 2)) } ∷ []; body = stmts (Return (Some (Literal (pos 0) I32)) ∷ []) }) ∷ FunctionItem (record { attribute = Mangled; name = codes "run_static_initializers"; params = []; result = None; locals = []; body = stmts ([]) }) ∷ [] } ∷ []; entry = 0 }) ≡ Some (record { mod_number = 0; item_number = 0 })
unfolding known_table
function_result_is_array = refl

array_parameter : first_ill (record { modules = record { name = codes "a"; items = FunctionItem (record { attribute = Mangled; name = codes "f"; params = record { name = codes "x"; ty = Array (Integer I32) 2 } ∷ []; result = None; locals = []; body = stmts ([]) }) ∷ FunctionItem (record { attribute = Mangled; name = codes "main_0"; params = []; result = Some (Integer I32); locals = []; body = stmts (Return (Some (Literal (pos 0) I32)) ∷ []) }) ∷ FunctionItem (record { attribute = Mangled; name = codes "run_static_initializers"; params = []; result = None; locals = []; body = stmts ([]) }) ∷ [] } ∷ []; entry = 0 }) ≡ Some (record { mod_number = 0; item_number = 0 })
unfolding known_table
array_parameter = refl

record_result : first_ill (record { modules = record { name = codes "a"; items = RecordItem (record { align = None; is_union = false; name = codes "s"; fields = record { name = codes "c"; ty = Integer I8 } ∷ record { name = codes "n"; ty = Integer I32 } ∷ [] }) ∷ FunctionItem (record { attribute = Mangled; name = codes "f"; params = []; result = Some (Record (codes "a") (codes "s")); locals = record { name = codes "x"; ty = Record (codes "a") (codes "s") } ∷ []; body = stmts (Return (Some (Read (Local (codes "x")))) ∷ []) }) ∷ FunctionItem (record { attribute = Mangled; name = codes "main_0"; params = []; result = Some (Integer I32); locals = []; body = stmts (Return (Some (Literal (pos 0) I32)) ∷ []) }) ∷ FunctionItem (record { attribute = Mangled; name = codes "run_static_initializers"; params = []; result = None; locals = []; body = stmts ([]) }) ∷ [] } ∷ []; entry = 0 }) ≡ Some (record { mod_number = 0; item_number = 1 })
unfolding known_table
record_result = refl

null_of_no_record : first_ill (record { modules = record { name = codes "a"; items = FunctionItem (record { attribute = Mangled; name = codes "main_0"; params = []; result = Some (Integer I32); locals = []; body = stmts (Return (Some (Cast (IsNull (NullPointer (Record (codes "a") (codes "s")))) (Integer I32))) ∷ []) }) ∷ FunctionItem (record { attribute = Mangled; name = codes "run_static_initializers"; params = []; result = None; locals = []; body = stmts ([]) }) ∷ [] } ∷ []; entry = 0 }) ≡ Some (record { mod_number = 0; item_number = 0 })
unfolding known_table
null_of_no_record = refl

null_of_void : first_ill (record { modules = record { name = codes "a"; items = FunctionItem (record { attribute = Mangled; name = codes "main_0"; params = []; result = Some (Integer I32); locals = []; body = stmts (Return (Some (Cast (IsNull (NullPointer (Void))) (Integer I32))) ∷ []) }) ∷ FunctionItem (record { attribute = Mangled; name = codes "run_static_initializers"; params = []; result = None; locals = []; body = stmts ([]) }) ∷ [] } ∷ []; entry = 0 }) ≡ None
unfolding known_table
null_of_void = refl

cast_to_no_record : first_ill (record { modules = record { name = codes "a"; items = FunctionItem (record { attribute = Mangled; name = codes "main_0"; params = []; result = Some (Integer I32); locals = record { name = codes "p"; ty = Pointer (Integer I32) } ∷ []; body = stmts (Return (Some (Cast (IsNull (Cast (Read (Local (codes "p"))) (Pointer (Record (codes "a") (codes "s"))))) (Integer I32))) ∷ []) }) ∷ FunctionItem (record { attribute = Mangled; name = codes "run_static_initializers"; params = []; result = None; locals = []; body = stmts ([]) }) ∷ [] } ∷ []; entry = 0 }) ≡ Some (record { mod_number = 0; item_number = 0 })
unfolding known_table
cast_to_no_record = refl

transmute_from_no_record : first_ill (record { modules = record { name = codes "a"; items = FunctionItem (record { attribute = Mangled; name = codes "main_0"; params = []; result = Some (Integer I32); locals = []; body = stmts (Return (Some (Cast (IsNone (Transmute (Code (tys (Pointer (Record (codes "a") (codes "s")) ∷ [])) (no_ty)) (Code (tys ([])) (no_ty)) (NoFunction))) (Integer I32))) ∷ []) }) ∷ FunctionItem (record { attribute = Mangled; name = codes "run_static_initializers"; params = []; result = None; locals = []; body = stmts ([]) }) ∷ [] } ∷ []; entry = 0 }) ≡ Some (record { mod_number = 0; item_number = 0 })
unfolding known_table
transmute_from_no_record = refl

transmute_to_no_record : first_ill (record { modules = record { name = codes "a"; items = FunctionItem (record { attribute = Mangled; name = codes "main_0"; params = []; result = Some (Integer I32); locals = []; body = stmts (Return (Some (Cast (IsNone (Transmute (Code (tys ([])) (no_ty)) (Code (tys (Pointer (Record (codes "a") (codes "s")) ∷ [])) (no_ty)) (NoFunction))) (Integer I32))) ∷ []) }) ∷ FunctionItem (record { attribute = Mangled; name = codes "run_static_initializers"; params = []; result = None; locals = []; body = stmts ([]) }) ∷ [] } ∷ []; entry = 0 }) ≡ Some (record { mod_number = 0; item_number = 0 })
unfolding known_table
transmute_to_no_record = refl

-- ---- literals

least_i8 : first_ill (record { modules = record { name = codes "a"; items = FunctionItem (record { attribute = Mangled; name = codes "main_0"; params = []; result = Some (Integer I32); locals = []; body = stmts (Return (Some (Cast (Literal (negsuc 127) I8) (Integer I32))) ∷ []) }) ∷ FunctionItem (record { attribute = Mangled; name = codes "run_static_initializers"; params = []; result = None; locals = []; body = stmts ([]) }) ∷ [] } ∷ []; entry = 0 }) ≡ None
unfolding known_table
least_i8 = refl

greatest_i8 : first_ill (record { modules = record { name = codes "a"; items = FunctionItem (record { attribute = Mangled; name = codes "main_0"; params = []; result = Some (Integer I32); locals = []; body = stmts (Return (Some (Cast (Literal (pos 127) I8) (Integer I32))) ∷ []) }) ∷ FunctionItem (record { attribute = Mangled; name = codes "run_static_initializers"; params = []; result = None; locals = []; body = stmts ([]) }) ∷ [] } ∷ []; entry = 0 }) ≡ None
unfolding known_table
greatest_i8 = refl

below_i8 : first_ill (record { modules = record { name = codes "a"; items = FunctionItem (record { attribute = Mangled; name = codes "main_0"; params = []; result = Some (Integer I32); locals = []; body = stmts (Return (Some (Cast (Literal (negsuc 128) I8) (Integer I32))) ∷ []) }) ∷ FunctionItem (record { attribute = Mangled; name = codes "run_static_initializers"; params = []; result = None; locals = []; body = stmts ([]) }) ∷ [] } ∷ []; entry = 0 }) ≡ Some (record { mod_number = 0; item_number = 0 })
unfolding known_table
below_i8 = refl

above_i8 : first_ill (record { modules = record { name = codes "a"; items = FunctionItem (record { attribute = Mangled; name = codes "main_0"; params = []; result = Some (Integer I32); locals = []; body = stmts (Return (Some (Cast (Literal (pos 128) I8) (Integer I32))) ∷ []) }) ∷ FunctionItem (record { attribute = Mangled; name = codes "run_static_initializers"; params = []; result = None; locals = []; body = stmts ([]) }) ∷ [] } ∷ []; entry = 0 }) ≡ Some (record { mod_number = 0; item_number = 0 })
unfolding known_table
above_i8 = refl

least_u8 : first_ill (record { modules = record { name = codes "a"; items = FunctionItem (record { attribute = Mangled; name = codes "main_0"; params = []; result = Some (Integer I32); locals = []; body = stmts (Return (Some (Cast (Literal (pos 0) U8) (Integer I32))) ∷ []) }) ∷ FunctionItem (record { attribute = Mangled; name = codes "run_static_initializers"; params = []; result = None; locals = []; body = stmts ([]) }) ∷ [] } ∷ []; entry = 0 }) ≡ None
unfolding known_table
least_u8 = refl

greatest_u8 : first_ill (record { modules = record { name = codes "a"; items = FunctionItem (record { attribute = Mangled; name = codes "main_0"; params = []; result = Some (Integer I32); locals = []; body = stmts (Return (Some (Cast (Literal (pos 255) U8) (Integer I32))) ∷ []) }) ∷ FunctionItem (record { attribute = Mangled; name = codes "run_static_initializers"; params = []; result = None; locals = []; body = stmts ([]) }) ∷ [] } ∷ []; entry = 0 }) ≡ None
unfolding known_table
greatest_u8 = refl

below_u8 : first_ill (record { modules = record { name = codes "a"; items = FunctionItem (record { attribute = Mangled; name = codes "main_0"; params = []; result = Some (Integer I32); locals = []; body = stmts (Return (Some (Cast (Literal (negsuc 0) U8) (Integer I32))) ∷ []) }) ∷ FunctionItem (record { attribute = Mangled; name = codes "run_static_initializers"; params = []; result = None; locals = []; body = stmts ([]) }) ∷ [] } ∷ []; entry = 0 }) ≡ Some (record { mod_number = 0; item_number = 0 })
unfolding known_table
below_u8 = refl

above_u8 : first_ill (record { modules = record { name = codes "a"; items = FunctionItem (record { attribute = Mangled; name = codes "main_0"; params = []; result = Some (Integer I32); locals = []; body = stmts (Return (Some (Cast (Literal (pos 256) U8) (Integer I32))) ∷ []) }) ∷ FunctionItem (record { attribute = Mangled; name = codes "run_static_initializers"; params = []; result = None; locals = []; body = stmts ([]) }) ∷ [] } ∷ []; entry = 0 }) ≡ Some (record { mod_number = 0; item_number = 0 })
unfolding known_table
above_u8 = refl

least_i16 : first_ill (record { modules = record { name = codes "a"; items = FunctionItem (record { attribute = Mangled; name = codes "main_0"; params = []; result = Some (Integer I32); locals = []; body = stmts (Return (Some (Cast (Literal (negsuc 32767) I16) (Integer I32))) ∷ []) }) ∷ FunctionItem (record { attribute = Mangled; name = codes "run_static_initializers"; params = []; result = None; locals = []; body = stmts ([]) }) ∷ [] } ∷ []; entry = 0 }) ≡ None
unfolding known_table
least_i16 = refl

greatest_i16 : first_ill (record { modules = record { name = codes "a"; items = FunctionItem (record { attribute = Mangled; name = codes "main_0"; params = []; result = Some (Integer I32); locals = []; body = stmts (Return (Some (Cast (Literal (pos 32767) I16) (Integer I32))) ∷ []) }) ∷ FunctionItem (record { attribute = Mangled; name = codes "run_static_initializers"; params = []; result = None; locals = []; body = stmts ([]) }) ∷ [] } ∷ []; entry = 0 }) ≡ None
unfolding known_table
greatest_i16 = refl

below_i16 : first_ill (record { modules = record { name = codes "a"; items = FunctionItem (record { attribute = Mangled; name = codes "main_0"; params = []; result = Some (Integer I32); locals = []; body = stmts (Return (Some (Cast (Literal (negsuc 32768) I16) (Integer I32))) ∷ []) }) ∷ FunctionItem (record { attribute = Mangled; name = codes "run_static_initializers"; params = []; result = None; locals = []; body = stmts ([]) }) ∷ [] } ∷ []; entry = 0 }) ≡ Some (record { mod_number = 0; item_number = 0 })
unfolding known_table
below_i16 = refl

above_i16 : first_ill (record { modules = record { name = codes "a"; items = FunctionItem (record { attribute = Mangled; name = codes "main_0"; params = []; result = Some (Integer I32); locals = []; body = stmts (Return (Some (Cast (Literal (pos 32768) I16) (Integer I32))) ∷ []) }) ∷ FunctionItem (record { attribute = Mangled; name = codes "run_static_initializers"; params = []; result = None; locals = []; body = stmts ([]) }) ∷ [] } ∷ []; entry = 0 }) ≡ Some (record { mod_number = 0; item_number = 0 })
unfolding known_table
above_i16 = refl

least_u16 : first_ill (record { modules = record { name = codes "a"; items = FunctionItem (record { attribute = Mangled; name = codes "main_0"; params = []; result = Some (Integer I32); locals = []; body = stmts (Return (Some (Cast (Literal (pos 0) U16) (Integer I32))) ∷ []) }) ∷ FunctionItem (record { attribute = Mangled; name = codes "run_static_initializers"; params = []; result = None; locals = []; body = stmts ([]) }) ∷ [] } ∷ []; entry = 0 }) ≡ None
unfolding known_table
least_u16 = refl

greatest_u16 : first_ill (record { modules = record { name = codes "a"; items = FunctionItem (record { attribute = Mangled; name = codes "main_0"; params = []; result = Some (Integer I32); locals = []; body = stmts (Return (Some (Cast (Literal (pos 65535) U16) (Integer I32))) ∷ []) }) ∷ FunctionItem (record { attribute = Mangled; name = codes "run_static_initializers"; params = []; result = None; locals = []; body = stmts ([]) }) ∷ [] } ∷ []; entry = 0 }) ≡ None
unfolding known_table
greatest_u16 = refl

below_u16 : first_ill (record { modules = record { name = codes "a"; items = FunctionItem (record { attribute = Mangled; name = codes "main_0"; params = []; result = Some (Integer I32); locals = []; body = stmts (Return (Some (Cast (Literal (negsuc 0) U16) (Integer I32))) ∷ []) }) ∷ FunctionItem (record { attribute = Mangled; name = codes "run_static_initializers"; params = []; result = None; locals = []; body = stmts ([]) }) ∷ [] } ∷ []; entry = 0 }) ≡ Some (record { mod_number = 0; item_number = 0 })
unfolding known_table
below_u16 = refl

above_u16 : first_ill (record { modules = record { name = codes "a"; items = FunctionItem (record { attribute = Mangled; name = codes "main_0"; params = []; result = Some (Integer I32); locals = []; body = stmts (Return (Some (Cast (Literal (pos 65536) U16) (Integer I32))) ∷ []) }) ∷ FunctionItem (record { attribute = Mangled; name = codes "run_static_initializers"; params = []; result = None; locals = []; body = stmts ([]) }) ∷ [] } ∷ []; entry = 0 }) ≡ Some (record { mod_number = 0; item_number = 0 })
unfolding known_table
above_u16 = refl

least_i32 : first_ill (record { modules = record { name = codes "a"; items = FunctionItem (record { attribute = Mangled; name = codes "main_0"; params = []; result = Some (Integer I32); locals = []; body = stmts (Return (Some (Cast (Literal (negsuc 2147483647) I32) (Integer I32))) ∷ []) }) ∷ FunctionItem (record { attribute = Mangled; name = codes "run_static_initializers"; params = []; result = None; locals = []; body = stmts ([]) }) ∷ [] } ∷ []; entry = 0 }) ≡ None
unfolding known_table
least_i32 = refl

greatest_i32 : first_ill (record { modules = record { name = codes "a"; items = FunctionItem (record { attribute = Mangled; name = codes "main_0"; params = []; result = Some (Integer I32); locals = []; body = stmts (Return (Some (Cast (Literal (pos 2147483647) I32) (Integer I32))) ∷ []) }) ∷ FunctionItem (record { attribute = Mangled; name = codes "run_static_initializers"; params = []; result = None; locals = []; body = stmts ([]) }) ∷ [] } ∷ []; entry = 0 }) ≡ None
unfolding known_table
greatest_i32 = refl

below_i32 : first_ill (record { modules = record { name = codes "a"; items = FunctionItem (record { attribute = Mangled; name = codes "main_0"; params = []; result = Some (Integer I32); locals = []; body = stmts (Return (Some (Cast (Literal (negsuc 2147483648) I32) (Integer I32))) ∷ []) }) ∷ FunctionItem (record { attribute = Mangled; name = codes "run_static_initializers"; params = []; result = None; locals = []; body = stmts ([]) }) ∷ [] } ∷ []; entry = 0 }) ≡ Some (record { mod_number = 0; item_number = 0 })
unfolding known_table
below_i32 = refl

above_i32 : first_ill (record { modules = record { name = codes "a"; items = FunctionItem (record { attribute = Mangled; name = codes "main_0"; params = []; result = Some (Integer I32); locals = []; body = stmts (Return (Some (Cast (Literal (pos 2147483648) I32) (Integer I32))) ∷ []) }) ∷ FunctionItem (record { attribute = Mangled; name = codes "run_static_initializers"; params = []; result = None; locals = []; body = stmts ([]) }) ∷ [] } ∷ []; entry = 0 }) ≡ Some (record { mod_number = 0; item_number = 0 })
unfolding known_table
above_i32 = refl

least_u32 : first_ill (record { modules = record { name = codes "a"; items = FunctionItem (record { attribute = Mangled; name = codes "main_0"; params = []; result = Some (Integer I32); locals = []; body = stmts (Return (Some (Cast (Literal (pos 0) U32) (Integer I32))) ∷ []) }) ∷ FunctionItem (record { attribute = Mangled; name = codes "run_static_initializers"; params = []; result = None; locals = []; body = stmts ([]) }) ∷ [] } ∷ []; entry = 0 }) ≡ None
unfolding known_table
least_u32 = refl

greatest_u32 : first_ill (record { modules = record { name = codes "a"; items = FunctionItem (record { attribute = Mangled; name = codes "main_0"; params = []; result = Some (Integer I32); locals = []; body = stmts (Return (Some (Cast (Literal (pos 4294967295) U32) (Integer I32))) ∷ []) }) ∷ FunctionItem (record { attribute = Mangled; name = codes "run_static_initializers"; params = []; result = None; locals = []; body = stmts ([]) }) ∷ [] } ∷ []; entry = 0 }) ≡ None
unfolding known_table
greatest_u32 = refl

below_u32 : first_ill (record { modules = record { name = codes "a"; items = FunctionItem (record { attribute = Mangled; name = codes "main_0"; params = []; result = Some (Integer I32); locals = []; body = stmts (Return (Some (Cast (Literal (negsuc 0) U32) (Integer I32))) ∷ []) }) ∷ FunctionItem (record { attribute = Mangled; name = codes "run_static_initializers"; params = []; result = None; locals = []; body = stmts ([]) }) ∷ [] } ∷ []; entry = 0 }) ≡ Some (record { mod_number = 0; item_number = 0 })
unfolding known_table
below_u32 = refl

above_u32 : first_ill (record { modules = record { name = codes "a"; items = FunctionItem (record { attribute = Mangled; name = codes "main_0"; params = []; result = Some (Integer I32); locals = []; body = stmts (Return (Some (Cast (Literal (pos 4294967296) U32) (Integer I32))) ∷ []) }) ∷ FunctionItem (record { attribute = Mangled; name = codes "run_static_initializers"; params = []; result = None; locals = []; body = stmts ([]) }) ∷ [] } ∷ []; entry = 0 }) ≡ Some (record { mod_number = 0; item_number = 0 })
unfolding known_table
above_u32 = refl

least_i64 : first_ill (record { modules = record { name = codes "a"; items = FunctionItem (record { attribute = Mangled; name = codes "main_0"; params = []; result = Some (Integer I32); locals = []; body = stmts (Return (Some (Cast (Literal (negsuc 9223372036854775807) I64) (Integer I32))) ∷ []) }) ∷ FunctionItem (record { attribute = Mangled; name = codes "run_static_initializers"; params = []; result = None; locals = []; body = stmts ([]) }) ∷ [] } ∷ []; entry = 0 }) ≡ None
unfolding known_table
least_i64 = refl

greatest_i64 : first_ill (record { modules = record { name = codes "a"; items = FunctionItem (record { attribute = Mangled; name = codes "main_0"; params = []; result = Some (Integer I32); locals = []; body = stmts (Return (Some (Cast (Literal (pos 9223372036854775807) I64) (Integer I32))) ∷ []) }) ∷ FunctionItem (record { attribute = Mangled; name = codes "run_static_initializers"; params = []; result = None; locals = []; body = stmts ([]) }) ∷ [] } ∷ []; entry = 0 }) ≡ None
unfolding known_table
greatest_i64 = refl

below_i64 : first_ill (record { modules = record { name = codes "a"; items = FunctionItem (record { attribute = Mangled; name = codes "main_0"; params = []; result = Some (Integer I32); locals = []; body = stmts (Return (Some (Cast (Literal (negsuc 9223372036854775808) I64) (Integer I32))) ∷ []) }) ∷ FunctionItem (record { attribute = Mangled; name = codes "run_static_initializers"; params = []; result = None; locals = []; body = stmts ([]) }) ∷ [] } ∷ []; entry = 0 }) ≡ Some (record { mod_number = 0; item_number = 0 })
unfolding known_table
below_i64 = refl

above_i64 : first_ill (record { modules = record { name = codes "a"; items = FunctionItem (record { attribute = Mangled; name = codes "main_0"; params = []; result = Some (Integer I32); locals = []; body = stmts (Return (Some (Cast (Literal (pos 9223372036854775808) I64) (Integer I32))) ∷ []) }) ∷ FunctionItem (record { attribute = Mangled; name = codes "run_static_initializers"; params = []; result = None; locals = []; body = stmts ([]) }) ∷ [] } ∷ []; entry = 0 }) ≡ Some (record { mod_number = 0; item_number = 0 })
unfolding known_table
above_i64 = refl

least_u64 : first_ill (record { modules = record { name = codes "a"; items = FunctionItem (record { attribute = Mangled; name = codes "main_0"; params = []; result = Some (Integer I32); locals = []; body = stmts (Return (Some (Cast (Literal (pos 0) U64) (Integer I32))) ∷ []) }) ∷ FunctionItem (record { attribute = Mangled; name = codes "run_static_initializers"; params = []; result = None; locals = []; body = stmts ([]) }) ∷ [] } ∷ []; entry = 0 }) ≡ None
unfolding known_table
least_u64 = refl

greatest_u64 : first_ill (record { modules = record { name = codes "a"; items = FunctionItem (record { attribute = Mangled; name = codes "main_0"; params = []; result = Some (Integer I32); locals = []; body = stmts (Return (Some (Cast (Literal (pos 18446744073709551615) U64) (Integer I32))) ∷ []) }) ∷ FunctionItem (record { attribute = Mangled; name = codes "run_static_initializers"; params = []; result = None; locals = []; body = stmts ([]) }) ∷ [] } ∷ []; entry = 0 }) ≡ None
unfolding known_table
greatest_u64 = refl

below_u64 : first_ill (record { modules = record { name = codes "a"; items = FunctionItem (record { attribute = Mangled; name = codes "main_0"; params = []; result = Some (Integer I32); locals = []; body = stmts (Return (Some (Cast (Literal (negsuc 0) U64) (Integer I32))) ∷ []) }) ∷ FunctionItem (record { attribute = Mangled; name = codes "run_static_initializers"; params = []; result = None; locals = []; body = stmts ([]) }) ∷ [] } ∷ []; entry = 0 }) ≡ Some (record { mod_number = 0; item_number = 0 })
unfolding known_table
below_u64 = refl

above_u64 : first_ill (record { modules = record { name = codes "a"; items = FunctionItem (record { attribute = Mangled; name = codes "main_0"; params = []; result = Some (Integer I32); locals = []; body = stmts (Return (Some (Cast (Literal (pos 18446744073709551616) U64) (Integer I32))) ∷ []) }) ∷ FunctionItem (record { attribute = Mangled; name = codes "run_static_initializers"; params = []; result = None; locals = []; body = stmts ([]) }) ∷ [] } ∷ []; entry = 0 }) ≡ Some (record { mod_number = 0; item_number = 0 })
unfolding known_table
above_u64 = refl

least_isize : first_ill (record { modules = record { name = codes "a"; items = FunctionItem (record { attribute = Mangled; name = codes "main_0"; params = []; result = Some (Integer I32); locals = []; body = stmts (Return (Some (Cast (Literal (negsuc 9223372036854775807) Isize) (Integer I32))) ∷ []) }) ∷ FunctionItem (record { attribute = Mangled; name = codes "run_static_initializers"; params = []; result = None; locals = []; body = stmts ([]) }) ∷ [] } ∷ []; entry = 0 }) ≡ None
unfolding known_table
least_isize = refl

greatest_isize : first_ill (record { modules = record { name = codes "a"; items = FunctionItem (record { attribute = Mangled; name = codes "main_0"; params = []; result = Some (Integer I32); locals = []; body = stmts (Return (Some (Cast (Literal (pos 9223372036854775807) Isize) (Integer I32))) ∷ []) }) ∷ FunctionItem (record { attribute = Mangled; name = codes "run_static_initializers"; params = []; result = None; locals = []; body = stmts ([]) }) ∷ [] } ∷ []; entry = 0 }) ≡ None
unfolding known_table
greatest_isize = refl

below_isize : first_ill (record { modules = record { name = codes "a"; items = FunctionItem (record { attribute = Mangled; name = codes "main_0"; params = []; result = Some (Integer I32); locals = []; body = stmts (Return (Some (Cast (Literal (negsuc 9223372036854775808) Isize) (Integer I32))) ∷ []) }) ∷ FunctionItem (record { attribute = Mangled; name = codes "run_static_initializers"; params = []; result = None; locals = []; body = stmts ([]) }) ∷ [] } ∷ []; entry = 0 }) ≡ Some (record { mod_number = 0; item_number = 0 })
unfolding known_table
below_isize = refl

above_isize : first_ill (record { modules = record { name = codes "a"; items = FunctionItem (record { attribute = Mangled; name = codes "main_0"; params = []; result = Some (Integer I32); locals = []; body = stmts (Return (Some (Cast (Literal (pos 9223372036854775808) Isize) (Integer I32))) ∷ []) }) ∷ FunctionItem (record { attribute = Mangled; name = codes "run_static_initializers"; params = []; result = None; locals = []; body = stmts ([]) }) ∷ [] } ∷ []; entry = 0 }) ≡ Some (record { mod_number = 0; item_number = 0 })
unfolding known_table
above_isize = refl

least_usize : first_ill (record { modules = record { name = codes "a"; items = FunctionItem (record { attribute = Mangled; name = codes "main_0"; params = []; result = Some (Integer I32); locals = []; body = stmts (Return (Some (Cast (Literal (pos 0) Usize) (Integer I32))) ∷ []) }) ∷ FunctionItem (record { attribute = Mangled; name = codes "run_static_initializers"; params = []; result = None; locals = []; body = stmts ([]) }) ∷ [] } ∷ []; entry = 0 }) ≡ None
unfolding known_table
least_usize = refl

greatest_usize : first_ill (record { modules = record { name = codes "a"; items = FunctionItem (record { attribute = Mangled; name = codes "main_0"; params = []; result = Some (Integer I32); locals = []; body = stmts (Return (Some (Cast (Literal (pos 18446744073709551615) Usize) (Integer I32))) ∷ []) }) ∷ FunctionItem (record { attribute = Mangled; name = codes "run_static_initializers"; params = []; result = None; locals = []; body = stmts ([]) }) ∷ [] } ∷ []; entry = 0 }) ≡ None
unfolding known_table
greatest_usize = refl

below_usize : first_ill (record { modules = record { name = codes "a"; items = FunctionItem (record { attribute = Mangled; name = codes "main_0"; params = []; result = Some (Integer I32); locals = []; body = stmts (Return (Some (Cast (Literal (negsuc 0) Usize) (Integer I32))) ∷ []) }) ∷ FunctionItem (record { attribute = Mangled; name = codes "run_static_initializers"; params = []; result = None; locals = []; body = stmts ([]) }) ∷ [] } ∷ []; entry = 0 }) ≡ Some (record { mod_number = 0; item_number = 0 })
unfolding known_table
below_usize = refl

above_usize : first_ill (record { modules = record { name = codes "a"; items = FunctionItem (record { attribute = Mangled; name = codes "main_0"; params = []; result = Some (Integer I32); locals = []; body = stmts (Return (Some (Cast (Literal (pos 18446744073709551616) Usize) (Integer I32))) ∷ []) }) ∷ FunctionItem (record { attribute = Mangled; name = codes "run_static_initializers"; params = []; result = None; locals = []; body = stmts ([]) }) ∷ [] } ∷ []; entry = 0 }) ≡ Some (record { mod_number = 0; item_number = 0 })
unfolding known_table
above_usize = refl

list_below : first_ill (record { modules = record { name = codes "a"; items = StaticItem (record { attribute = Mangled; name = codes "x"; ty = Array (Integer I8) 2; values = Some (pos 0 ∷ negsuc 128 ∷ []) }) ∷ FunctionItem (record { attribute = Mangled; name = codes "main_0"; params = []; result = Some (Integer I32); locals = []; body = stmts (Return (Some (Literal (pos 0) I32)) ∷ []) }) ∷ FunctionItem (record { attribute = Mangled; name = codes "run_static_initializers"; params = []; result = None; locals = []; body = stmts ([]) }) ∷ [] } ∷ []; entry = 0 }) ≡ Some (record { mod_number = 0; item_number = 0 })
unfolding known_table
list_below = refl

list_fits : first_ill (record { modules = record { name = codes "a"; items = StaticItem (record { attribute = Mangled; name = codes "x"; ty = Array (Integer I8) 2; values = Some (pos 127 ∷ negsuc 127 ∷ []) }) ∷ FunctionItem (record { attribute = Mangled; name = codes "main_0"; params = []; result = Some (Integer I32); locals = []; body = stmts (Return (Some (Literal (pos 0) I32)) ∷ []) }) ∷ FunctionItem (record { attribute = Mangled; name = codes "run_static_initializers"; params = []; result = None; locals = []; body = stmts ([]) }) ∷ [] } ∷ []; entry = 0 }) ≡ None
unfolding known_table
list_fits = refl
