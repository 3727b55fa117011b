-- Worked crates that are well typed, and ones in which one case of typing is broken: the first item that breaks it, which the check computes.
use Rattle.std.specs.Prelude.{◌≡◌, pos, true, false, [], ◌∷◌, Some, None, codes}
use Rattle.std.proofs.Common.{refl}
use Rattle.cr_world.specs.Known.{known_table}
use Rattle.rs_text.specs.declared.attribute.Attribute.TheVariants.{Mangled}
use Rattle.rs_text.specs.declared.integer.IntegerTy.TheVariants.{I8, I32, I64, U8, U32, U64, Isize, Usize}
use Rattle.rs_text.specs.declared.operator.Operator.TheVariants.{Add, Sub, BitAnd, Shl, Equal, Less}
use Rattle.rs_text.specs.declared.operator.Wrapping.TheVariants.{WrappingAdd}
use Rattle.rs_text.specs.Tree.{Integer, Boolean, Void, Pointer, Array, Code, Record, some_ty, Local, Static, Deref, Field, Literal, Truth, NoFunction, Read, Call as Calls, CallBy, Wrapped, Offset, OffsetFrom, IsNull, IsNone, NullPointer, SomeFunction, Transmute, Neg, Not, Cast, Binary, And, exprs, Assign, Eval, CopyBytes, If, Loop, Block, Break, Continue, Match, Return, stmts, LiteralArm, arms, tys, RecordItem, StaticItem, ExternItem, FunctionItem}
use Rattle.rs_mean.specs.Typing.{first_ill}

plain : first_ill (record { modules = record { name = codes "a"; items = FunctionItem (record { attribute = Mangled; name = codes "main_0"; params = []; result = Some (Integer I32); locals = []; body = stmts (Return (Some (Literal (pos 0) I32)) ∷ []) }) ∷ FunctionItem (record { attribute = Mangled; name = codes "run_static_initializers"; params = []; result = None; locals = []; body = stmts ([]) }) ∷ [] } ∷ []; entry = 0 }) ≡ None
unfolding known_table
plain = refl

-- ---- names

item_name_twice : first_ill (record { modules = record { name = codes "a"; items = StaticItem (record { attribute = Mangled; name = codes "x"; ty = Integer I32; values = None }) ∷ FunctionItem (record { attribute = Mangled; name = codes "x"; params = []; result = None; locals = []; body = stmts ([]) }) ∷ FunctionItem (record { attribute = Mangled; name = codes "main_0"; params = []; result = Some (Integer I32); locals = []; body = stmts (Return (Some (Literal (pos 0) I32)) ∷ []) }) ∷ FunctionItem (record { attribute = Mangled; name = codes "run_static_initializers"; params = []; result = None; locals = []; body = stmts ([]) }) ∷ [] } ∷ []; entry = 0 }) ≡ Some (record { mod_number = 0; item_number = 1 })
unfolding known_table
item_name_twice = refl

local_name_twice : first_ill (record { modules = record { name = codes "a"; items = FunctionItem (record { attribute = Mangled; name = codes "main_0"; params = []; result = Some (Integer I32); locals = record { name = codes "x"; ty = Integer I32 } ∷ record { name = codes "x"; ty = Integer I32 } ∷ []; body = stmts (Return (Some (Literal (pos 0) I32)) ∷ []) }) ∷ FunctionItem (record { attribute = Mangled; name = codes "run_static_initializers"; params = []; result = None; locals = []; body = stmts ([]) }) ∷ [] } ∷ []; entry = 0 }) ≡ Some (record { mod_number = 0; item_number = 0 })
unfolding known_table
local_name_twice = refl

local_named_as_item : first_ill (record { modules = record { name = codes "a"; items = StaticItem (record { attribute = Mangled; name = codes "x"; ty = Integer I32; values = None }) ∷ FunctionItem (record { attribute = Mangled; name = codes "main_0"; params = []; result = Some (Integer I32); locals = record { name = codes "x"; ty = Integer I32 } ∷ []; body = stmts (Return (Some (Literal (pos 0) I32)) ∷ []) }) ∷ FunctionItem (record { attribute = Mangled; name = codes "run_static_initializers"; params = []; result = None; locals = []; body = stmts ([]) }) ∷ [] } ∷ []; entry = 0 }) ≡ Some (record { mod_number = 0; item_number = 1 })
unfolding known_table
local_named_as_item = refl

field_name_twice : first_ill (record { modules = record { name = codes "a"; items = RecordItem (record { align = None; is_union = false; name = codes "s"; fields = record { name = codes "c"; ty = Integer I32 } ∷ record { name = codes "c"; ty = Integer I32 } ∷ [] }) ∷ FunctionItem (record { attribute = Mangled; name = codes "main_0"; params = []; result = Some (Integer I32); locals = []; body = stmts (Return (Some (Literal (pos 0) I32)) ∷ []) }) ∷ FunctionItem (record { attribute = Mangled; name = codes "run_static_initializers"; params = []; result = None; locals = []; body = stmts ([]) }) ∷ [] } ∷ []; entry = 0 }) ≡ Some (record { mod_number = 0; item_number = 0 })
unfolding known_table
field_name_twice = refl

no_local : first_ill (record { modules = record { name = codes "a"; items = FunctionItem (record { attribute = Mangled; name = codes "main_0"; params = []; result = Some (Integer I32); locals = []; body = stmts (Return (Some (Read (Local (codes "y")))) ∷ []) }) ∷ FunctionItem (record { attribute = Mangled; name = codes "run_static_initializers"; params = []; result = None; locals = []; body = stmts ([]) }) ∷ [] } ∷ []; entry = 0 }) ≡ Some (record { mod_number = 0; item_number = 0 })
unfolding known_table
no_local = refl

no_static : first_ill (record { modules = record { name = codes "a"; items = FunctionItem (record { attribute = Mangled; name = codes "main_0"; params = []; result = Some (Integer I32); locals = []; body = stmts (Return (Some (Read (Static (codes "a") (codes "y")))) ∷ []) }) ∷ FunctionItem (record { attribute = Mangled; name = codes "run_static_initializers"; params = []; result = None; locals = []; body = stmts ([]) }) ∷ [] } ∷ []; entry = 0 }) ≡ Some (record { mod_number = 0; item_number = 0 })
unfolding known_table
no_static = refl

no_function : first_ill (record { modules = record { name = codes "a"; items = FunctionItem (record { attribute = Mangled; name = codes "main_0"; params = []; result = Some (Integer I32); locals = []; body = stmts (Return (Some (Calls (codes "a") (codes "g") (exprs ([])))) ∷ []) }) ∷ FunctionItem (record { attribute = Mangled; name = codes "run_static_initializers"; params = []; result = None; locals = []; body = stmts ([]) }) ∷ [] } ∷ []; entry = 0 }) ≡ Some (record { mod_number = 0; item_number = 0 })
unfolding known_table
no_function = refl

no_module : first_ill (record { modules = record { name = codes "a"; items = StaticItem (record { attribute = Mangled; name = codes "x"; ty = Integer I32; values = None }) ∷ FunctionItem (record { attribute = Mangled; name = codes "main_0"; params = []; result = Some (Integer I32); locals = []; body = stmts (Return (Some (Read (Static (codes "b") (codes "x")))) ∷ []) }) ∷ FunctionItem (record { attribute = Mangled; name = codes "run_static_initializers"; params = []; result = None; locals = []; body = stmts ([]) }) ∷ [] } ∷ []; entry = 0 }) ≡ Some (record { mod_number = 0; item_number = 1 })
unfolding known_table
no_module = refl

-- ---- records, lengths and sizes

no_field : first_ill (record { modules = record { name = codes "a"; items = RecordItem (record { align = None; is_union = false; name = codes "s"; fields = [] }) ∷ FunctionItem (record { attribute = Mangled; name = codes "main_0"; params = []; result = Some (Integer I32); locals = []; body = stmts (Return (Some (Literal (pos 0) I32)) ∷ []) }) ∷ FunctionItem (record { attribute = Mangled; name = codes "run_static_initializers"; params = []; result = None; locals = []; body = stmts ([]) }) ∷ [] } ∷ []; entry = 0 }) ≡ Some (record { mod_number = 0; item_number = 0 })
unfolding known_table
no_field = refl

holds_itself : first_ill (record { modules = record { name = codes "a"; items = RecordItem (record { align = None; is_union = false; name = codes "s"; fields = record { name = codes "c"; ty = Record (codes "a") (codes "s") } ∷ [] }) ∷ FunctionItem (record { attribute = Mangled; name = codes "main_0"; params = []; result = Some (Integer I32); locals = []; body = stmts (Return (Some (Literal (pos 0) I32)) ∷ []) }) ∷ FunctionItem (record { attribute = Mangled; name = codes "run_static_initializers"; params = []; result = None; locals = []; body = stmts ([]) }) ∷ [] } ∷ []; entry = 0 }) ≡ Some (record { mod_number = 0; item_number = 0 })
unfolding known_table
holds_itself = refl

holds_later : first_ill (record { modules = record { name = codes "a"; items = RecordItem (record { align = None; is_union = false; name = codes "s"; fields = record { name = codes "c"; ty = Record (codes "a") (codes "t") } ∷ [] }) ∷ RecordItem (record { align = None; is_union = false; name = codes "t"; fields = record { name = codes "c"; ty = Integer I32 } ∷ [] }) ∷ FunctionItem (record { attribute = Mangled; name = codes "main_0"; params = []; result = Some (Integer I32); locals = []; body = stmts (Return (Some (Literal (pos 0) I32)) ∷ []) }) ∷ FunctionItem (record { attribute = Mangled; name = codes "run_static_initializers"; params = []; result = None; locals = []; body = stmts ([]) }) ∷ [] } ∷ []; entry = 0 }) ≡ Some (record { mod_number = 0; item_number = 0 })
unfolding known_table
holds_later = refl

points_to_later : first_ill (record { modules = record { name = codes "a"; items = RecordItem (record { align = None; is_union = false; name = codes "s"; fields = record { name = codes "c"; ty = Pointer (Record (codes "a") (codes "t")) } ∷ [] }) ∷ RecordItem (record { align = None; is_union = false; name = codes "t"; fields = record { name = codes "c"; ty = Integer I32 } ∷ [] }) ∷ FunctionItem (record { attribute = Mangled; name = codes "main_0"; params = []; result = Some (Integer I32); locals = []; body = stmts (Return (Some (Literal (pos 0) I32)) ∷ []) }) ∷ FunctionItem (record { attribute = Mangled; name = codes "run_static_initializers"; params = []; result = None; locals = []; body = stmts ([]) }) ∷ [] } ∷ []; entry = 0 }) ≡ None
unfolding known_table
points_to_later = refl

holds_earlier : first_ill (record { modules = record { name = codes "a"; items = RecordItem (record { align = None; is_union = false; name = codes "t"; fields = record { name = codes "c"; ty = Integer I32 } ∷ [] }) ∷ RecordItem (record { align = None; is_union = false; name = codes "s"; fields = record { name = codes "c"; ty = Record (codes "a") (codes "t") } ∷ [] }) ∷ FunctionItem (record { attribute = Mangled; name = codes "main_0"; params = []; result = Some (Integer I32); locals = []; body = stmts (Return (Some (Literal (pos 0) I32)) ∷ []) }) ∷ FunctionItem (record { attribute = Mangled; name = codes "run_static_initializers"; params = []; result = None; locals = []; body = stmts ([]) }) ∷ [] } ∷ []; entry = 0 }) ≡ None
unfolding known_table
holds_earlier = refl

no_record : first_ill (record { modules = record { name = codes "a"; items = StaticItem (record { attribute = Mangled; name = codes "x"; ty = Pointer (Record (codes "a") (codes "s")); values = None }) ∷ FunctionItem (record { attribute = Mangled; name = codes "main_0"; params = []; result = Some (Integer I32); locals = []; body = stmts (Return (Some (Literal (pos 0) I32)) ∷ []) }) ∷ FunctionItem (record { attribute = Mangled; name = codes "run_static_initializers"; params = []; result = None; locals = []; body = stmts ([]) }) ∷ [] } ∷ []; entry = 0 }) ≡ Some (record { mod_number = 0; item_number = 0 })
unfolding known_table
no_record = refl

length_of_none : first_ill (record { modules = record { name = codes "a"; items = StaticItem (record { attribute = Mangled; name = codes "x"; ty = Array (Integer I32) 0; values = None }) ∷ FunctionItem (record { attribute = Mangled; name = codes "main_0"; params = []; result = Some (Integer I32); locals = []; body = stmts (Return (Some (Literal (pos 0) I32)) ∷ []) }) ∷ FunctionItem (record { attribute = Mangled; name = codes "run_static_initializers"; params = []; result = None; locals = []; body = stmts ([]) }) ∷ [] } ∷ []; entry = 0 }) ≡ Some (record { mod_number = 0; item_number = 0 })
unfolding known_table
length_of_none = refl

largest : first_ill (record { modules = record { name = codes "a"; items = StaticItem (record { attribute = Mangled; name = codes "x"; ty = Array (Integer U8) 16777216; values = None }) ∷ FunctionItem (record { attribute = Mangled; name = codes "main_0"; params = []; result = Some (Integer I32); locals = []; body = stmts (Return (Some (Literal (pos 0) I32)) ∷ []) }) ∷ FunctionItem (record { attribute = Mangled; name = codes "run_static_initializers"; params = []; result = None; locals = []; body = stmts ([]) }) ∷ [] } ∷ []; entry = 0 }) ≡ None
unfolding known_table
largest = refl

too_large : first_ill (record { modules = record { name = codes "a"; items = StaticItem (record { attribute = Mangled; name = codes "x"; ty = Array (Integer U8) 16777217; values = None }) ∷ FunctionItem (record { attribute = Mangled; name = codes "main_0"; params = []; result = Some (Integer I32); locals = []; body = stmts (Return (Some (Literal (pos 0) I32)) ∷ []) }) ∷ FunctionItem (record { attribute = Mangled; name = codes "run_static_initializers"; params = []; result = None; locals = []; body = stmts ([]) }) ∷ [] } ∷ []; entry = 0 }) ≡ Some (record { mod_number = 0; item_number = 0 })
unfolding known_table
too_large = refl

too_large_pointed : first_ill (record { modules = record { name = codes "a"; items = StaticItem (record { attribute = Mangled; name = codes "x"; ty = Pointer (Array (Integer I32) 16777216); values = None }) ∷ FunctionItem (record { attribute = Mangled; name = codes "main_0"; params = []; result = Some (Integer I32); locals = []; body = stmts (Return (Some (Literal (pos 0) I32)) ∷ []) }) ∷ FunctionItem (record { attribute = Mangled; name = codes "run_static_initializers"; params = []; result = None; locals = []; body = stmts ([]) }) ∷ [] } ∷ []; entry = 0 }) ≡ Some (record { mod_number = 0; item_number = 0 })
unfolding known_table
too_large_pointed = refl

record_too_large : first_ill (record { modules = record { name = codes "a"; items = RecordItem (record { align = None; is_union = false; name = codes "s"; fields = record { name = codes "c"; ty = Array (Integer U8) 16777216 } ∷ record { name = codes "d"; ty = Integer U8 } ∷ [] }) ∷ FunctionItem (record { attribute = Mangled; name = codes "main_0"; params = []; result = Some (Integer I32); locals = []; body = stmts (Return (Some (Literal (pos 0) I32)) ∷ []) }) ∷ FunctionItem (record { attribute = Mangled; name = codes "run_static_initializers"; params = []; result = None; locals = []; body = stmts ([]) }) ∷ [] } ∷ []; entry = 0 }) ≡ Some (record { mod_number = 0; item_number = 0 })
unfolding known_table
record_too_large = refl

literal_of_list : first_ill (record { modules = record { name = codes "a"; items = StaticItem (record { attribute = Mangled; name = codes "x"; ty = Array (Integer I8) 1; values = Some (pos 128 ∷ []) }) ∷ FunctionItem (record { attribute = Mangled; name = codes "main_0"; params = []; result = Some (Integer I32); locals = []; body = stmts (Return (Some (Literal (pos 0) I32)) ∷ []) }) ∷ FunctionItem (record { attribute = Mangled; name = codes "run_static_initializers"; params = []; result = None; locals = []; body = stmts ([]) }) ∷ [] } ∷ []; entry = 0 }) ≡ Some (record { mod_number = 0; item_number = 0 })
unfolding known_table
literal_of_list = refl

-- ---- literals and operators

literal_in_range : first_ill (record { modules = record { name = codes "a"; items = FunctionItem (record { attribute = Mangled; name = codes "main_0"; params = []; result = Some (Integer I32); locals = []; body = stmts (Return (Some (Cast (Literal (pos 127) I8) (Integer I32))) ∷ []) }) ∷ FunctionItem (record { attribute = Mangled; name = codes "run_static_initializers"; params = []; result = None; locals = []; body = stmts ([]) }) ∷ [] } ∷ []; entry = 0 }) ≡ None
unfolding known_table
literal_in_range = refl

literal_too_large : first_ill (record { modules = record { name = codes "a"; items = FunctionItem (record { attribute = Mangled; name = codes "main_0"; params = []; result = Some (Integer I32); locals = []; body = stmts (Return (Some (Cast (Literal (pos 128) I8) (Integer I32))) ∷ []) }) ∷ FunctionItem (record { attribute = Mangled; name = codes "run_static_initializers"; params = []; result = None; locals = []; body = stmts ([]) }) ∷ [] } ∷ []; entry = 0 }) ≡ Some (record { mod_number = 0; item_number = 0 })
unfolding known_table
literal_too_large = refl

two_types : first_ill (record { modules = record { name = codes "a"; items = FunctionItem (record { attribute = Mangled; name = codes "main_0"; params = []; result = Some (Integer I32); locals = []; body = stmts (Return (Some (Binary (Literal (pos 1) I32) Add (Literal (pos 1) I64))) ∷ []) }) ∷ FunctionItem (record { attribute = Mangled; name = codes "run_static_initializers"; params = []; result = None; locals = []; body = stmts ([]) }) ∷ [] } ∷ []; entry = 0 }) ≡ Some (record { mod_number = 0; item_number = 0 })
unfolding known_table
two_types = refl

add_truths : first_ill (record { modules = record { name = codes "a"; items = FunctionItem (record { attribute = Mangled; name = codes "main_0"; params = []; result = Some (Integer I32); locals = []; body = stmts (Return (Some (Binary (Truth true) Add (Truth true))) ∷ []) }) ∷ FunctionItem (record { attribute = Mangled; name = codes "run_static_initializers"; params = []; result = None; locals = []; body = stmts ([]) }) ∷ [] } ∷ []; entry = 0 }) ≡ Some (record { mod_number = 0; item_number = 0 })
unfolding known_table
add_truths = refl

bits_of_truths : first_ill (record { modules = record { name = codes "a"; items = FunctionItem (record { attribute = Mangled; name = codes "main_0"; params = []; result = Some (Integer I32); locals = []; body = stmts (Return (Some (Cast (Binary (Truth true) BitAnd (Truth true)) (Integer I32))) ∷ []) }) ∷ FunctionItem (record { attribute = Mangled; name = codes "run_static_initializers"; params = []; result = None; locals = []; body = stmts ([]) }) ∷ [] } ∷ []; entry = 0 }) ≡ None
unfolding known_table
bits_of_truths = refl

shift_by_u32 : first_ill (record { modules = record { name = codes "a"; items = FunctionItem (record { attribute = Mangled; name = codes "main_0"; params = []; result = Some (Integer I32); locals = []; body = stmts (Return (Some (Binary (Literal (pos 1) I32) Shl (Literal (pos 1) U32))) ∷ []) }) ∷ FunctionItem (record { attribute = Mangled; name = codes "run_static_initializers"; params = []; result = None; locals = []; body = stmts ([]) }) ∷ [] } ∷ []; entry = 0 }) ≡ None
unfolding known_table
shift_by_u32 = refl

shift_by_i32 : first_ill (record { modules = record { name = codes "a"; items = FunctionItem (record { attribute = Mangled; name = codes "main_0"; params = []; result = Some (Integer I32); locals = []; body = stmts (Return (Some (Binary (Literal (pos 1) I32) Shl (Literal (pos 1) I32))) ∷ []) }) ∷ FunctionItem (record { attribute = Mangled; name = codes "run_static_initializers"; params = []; result = None; locals = []; body = stmts ([]) }) ∷ [] } ∷ []; entry = 0 }) ≡ Some (record { mod_number = 0; item_number = 0 })
unfolding known_table
shift_by_i32 = refl

equal_pointers : first_ill (record { modules = record { name = codes "a"; items = FunctionItem (record { attribute = Mangled; name = codes "main_0"; params = []; result = Some (Integer I32); locals = record { name = codes "p"; ty = Pointer (Integer I32) } ∷ []; body = stmts (Return (Some (Cast (Binary (Read (Local (codes "p"))) Equal (Read (Local (codes "p")))) (Integer I32))) ∷ []) }) ∷ FunctionItem (record { attribute = Mangled; name = codes "run_static_initializers"; params = []; result = None; locals = []; body = stmts ([]) }) ∷ [] } ∷ []; entry = 0 }) ≡ None
unfolding known_table
equal_pointers = refl

equal_of_two_types : first_ill (record { modules = record { name = codes "a"; items = FunctionItem (record { attribute = Mangled; name = codes "main_0"; params = []; result = Some (Integer I32); locals = record { name = codes "p"; ty = Pointer (Integer I32) } ∷ []; body = stmts (Return (Some (Cast (Binary (Read (Local (codes "p"))) Equal (Literal (pos 1) I32)) (Integer I32))) ∷ []) }) ∷ FunctionItem (record { attribute = Mangled; name = codes "run_static_initializers"; params = []; result = None; locals = []; body = stmts ([]) }) ∷ [] } ∷ []; entry = 0 }) ≡ Some (record { mod_number = 0; item_number = 0 })
unfolding known_table
equal_of_two_types = refl

less_truths : first_ill (record { modules = record { name = codes "a"; items = FunctionItem (record { attribute = Mangled; name = codes "main_0"; params = []; result = Some (Integer I32); locals = []; body = stmts (Return (Some (Cast (Binary (Truth true) Less (Truth true)) (Integer I32))) ∷ []) }) ∷ FunctionItem (record { attribute = Mangled; name = codes "run_static_initializers"; params = []; result = None; locals = []; body = stmts ([]) }) ∷ [] } ∷ []; entry = 0 }) ≡ Some (record { mod_number = 0; item_number = 0 })
unfolding known_table
less_truths = refl

less_pointers : first_ill (record { modules = record { name = codes "a"; items = FunctionItem (record { attribute = Mangled; name = codes "main_0"; params = []; result = Some (Integer I32); locals = record { name = codes "p"; ty = Pointer (Integer I32) } ∷ []; body = stmts (Return (Some (Cast (Binary (Read (Local (codes "p"))) Less (Read (Local (codes "p")))) (Integer I32))) ∷ []) }) ∷ FunctionItem (record { attribute = Mangled; name = codes "run_static_initializers"; params = []; result = None; locals = []; body = stmts ([]) }) ∷ [] } ∷ []; entry = 0 }) ≡ None
unfolding known_table
less_pointers = refl

and_numbers : first_ill (record { modules = record { name = codes "a"; items = FunctionItem (record { attribute = Mangled; name = codes "main_0"; params = []; result = Some (Integer I32); locals = []; body = stmts (Return (Some (Cast (And (Literal (pos 1) I32) (Truth true)) (Integer I32))) ∷ []) }) ∷ FunctionItem (record { attribute = Mangled; name = codes "run_static_initializers"; params = []; result = None; locals = []; body = stmts ([]) }) ∷ [] } ∷ []; entry = 0 }) ≡ Some (record { mod_number = 0; item_number = 0 })
unfolding known_table
and_numbers = refl

neg_unsigned : first_ill (record { modules = record { name = codes "a"; items = FunctionItem (record { attribute = Mangled; name = codes "main_0"; params = []; result = Some (Integer I32); locals = []; body = stmts (Return (Some (Cast (Neg (Cast (Literal (pos 1) I32) (Integer U32))) (Integer I32))) ∷ []) }) ∷ FunctionItem (record { attribute = Mangled; name = codes "run_static_initializers"; params = []; result = None; locals = []; body = stmts ([]) }) ∷ [] } ∷ []; entry = 0 }) ≡ Some (record { mod_number = 0; item_number = 0 })
unfolding known_table
neg_unsigned = refl

not_pointer : first_ill (record { modules = record { name = codes "a"; items = FunctionItem (record { attribute = Mangled; name = codes "main_0"; params = []; result = Some (Integer I32); locals = record { name = codes "p"; ty = Pointer (Integer I32) } ∷ []; body = stmts (Return (Some (Cast (Not (Read (Local (codes "p")))) (Integer I32))) ∷ []) }) ∷ FunctionItem (record { attribute = Mangled; name = codes "run_static_initializers"; params = []; result = None; locals = []; body = stmts ([]) }) ∷ [] } ∷ []; entry = 0 }) ≡ Some (record { mod_number = 0; item_number = 0 })
unfolding known_table
not_pointer = refl

wrapping_two_types : first_ill (record { modules = record { name = codes "a"; items = FunctionItem (record { attribute = Mangled; name = codes "main_0"; params = []; result = Some (Integer I32); locals = []; body = stmts (Return (Some (Wrapped (Literal (pos 1) I32) WrappingAdd (Literal (pos 1) U8))) ∷ []) }) ∷ FunctionItem (record { attribute = Mangled; name = codes "run_static_initializers"; params = []; result = None; locals = []; body = stmts ([]) }) ∷ [] } ∷ []; entry = 0 }) ≡ Some (record { mod_number = 0; item_number = 0 })
unfolding known_table
wrapping_two_types = refl

cast_pointer_to_number : first_ill (record { modules = record { name = codes "a"; items = FunctionItem (record { attribute = Mangled; name = codes "main_0"; params = []; result = Some (Integer I32); locals = record { name = codes "p"; ty = Pointer (Integer I32) } ∷ []; body = stmts (Return (Some (Cast (Read (Local (codes "p"))) (Integer I32))) ∷ []) }) ∷ FunctionItem (record { attribute = Mangled; name = codes "run_static_initializers"; params = []; result = None; locals = []; body = stmts ([]) }) ∷ [] } ∷ []; entry = 0 }) ≡ Some (record { mod_number = 0; item_number = 0 })
unfolding known_table
cast_pointer_to_number = refl

cast_number_to_truth : first_ill (record { modules = record { name = codes "a"; items = FunctionItem (record { attribute = Mangled; name = codes "main_0"; params = []; result = Some (Integer I32); locals = []; body = stmts (Return (Some (Cast (Cast (Literal (pos 1) I32) (Boolean)) (Integer I32))) ∷ []) }) ∷ FunctionItem (record { attribute = Mangled; name = codes "run_static_initializers"; params = []; result = None; locals = []; body = stmts ([]) }) ∷ [] } ∷ []; entry = 0 }) ≡ Some (record { mod_number = 0; item_number = 0 })
unfolding known_table
cast_number_to_truth = refl

cast_pointers : first_ill (record { modules = record { name = codes "a"; items = FunctionItem (record { attribute = Mangled; name = codes "main_0"; params = []; result = Some (Integer I32); locals = record { name = codes "p"; ty = Pointer (Integer I32) } ∷ []; body = stmts (Return (Some (Cast (IsNull (Cast (Read (Local (codes "p"))) (Pointer Void))) (Integer I32))) ∷ []) }) ∷ FunctionItem (record { attribute = Mangled; name = codes "run_static_initializers"; params = []; result = None; locals = []; body = stmts ([]) }) ∷ [] } ∷ []; entry = 0 }) ≡ None
unfolding known_table
cast_pointers = refl

offset_by_i32 : first_ill (record { modules = record { name = codes "a"; items = FunctionItem (record { attribute = Mangled; name = codes "main_0"; params = []; result = Some (Integer I32); locals = record { name = codes "p"; ty = Pointer (Integer I32) } ∷ []; body = stmts (Return (Some (Cast (IsNull (Offset (Read (Local (codes "p"))) (Literal (pos 1) I32))) (Integer I32))) ∷ []) }) ∷ FunctionItem (record { attribute = Mangled; name = codes "run_static_initializers"; params = []; result = None; locals = []; body = stmts ([]) }) ∷ [] } ∷ []; entry = 0 }) ≡ Some (record { mod_number = 0; item_number = 0 })
unfolding known_table
offset_by_i32 = refl

offset_of_void : first_ill (record { modules = record { name = codes "a"; items = FunctionItem (record { attribute = Mangled; name = codes "main_0"; params = []; result = Some (Integer I32); locals = record { name = codes "p"; ty = Pointer Void } ∷ []; body = stmts (Return (Some (Cast (IsNull (Offset (Read (Local (codes "p"))) (Literal (pos 1) Isize))) (Integer I32))) ∷ []) }) ∷ FunctionItem (record { attribute = Mangled; name = codes "run_static_initializers"; params = []; result = None; locals = []; body = stmts ([]) }) ∷ [] } ∷ []; entry = 0 }) ≡ Some (record { mod_number = 0; item_number = 0 })
unfolding known_table
offset_of_void = refl

apart_of_two_types : first_ill (record { modules = record { name = codes "a"; items = FunctionItem (record { attribute = Mangled; name = codes "main_0"; params = []; result = Some (Integer I32); locals = record { name = codes "p"; ty = Pointer (Integer I32) } ∷ record { name = codes "q"; ty = Pointer (Integer U8) } ∷ []; body = stmts (Return (Some (Cast (OffsetFrom (Read (Local (codes "p"))) (Read (Local (codes "q")))) (Integer I32))) ∷ []) }) ∷ FunctionItem (record { attribute = Mangled; name = codes "run_static_initializers"; params = []; result = None; locals = []; body = stmts ([]) }) ∷ [] } ∷ []; entry = 0 }) ≡ Some (record { mod_number = 0; item_number = 0 })
unfolding known_table
apart_of_two_types = refl

transmute_numbers : first_ill (record { modules = record { name = codes "a"; items = FunctionItem (record { attribute = Mangled; name = codes "main_0"; params = []; result = Some (Integer I32); locals = []; body = stmts (Return (Some (Transmute (Integer I32) (Integer I32) (Literal (pos 1) I32))) ∷ []) }) ∷ FunctionItem (record { attribute = Mangled; name = codes "run_static_initializers"; params = []; result = None; locals = []; body = stmts ([]) }) ∷ [] } ∷ []; entry = 0 }) ≡ Some (record { mod_number = 0; item_number = 0 })
unfolding known_table
transmute_numbers = refl

copy_of_numbers : first_ill (record { modules = record { name = codes "a"; items = FunctionItem (record { attribute = Mangled; name = codes "main_0"; params = []; result = Some (Integer I32); locals = record { name = codes "p"; ty = Pointer (Integer I32) } ∷ []; body = stmts (CopyBytes (Read (Local (codes "p"))) (Read (Local (codes "p"))) (Literal (pos 1) Usize) ∷ Return (Some (Literal (pos 0) I32)) ∷ []) }) ∷ FunctionItem (record { attribute = Mangled; name = codes "run_static_initializers"; params = []; result = None; locals = []; body = stmts ([]) }) ∷ [] } ∷ []; entry = 0 }) ≡ Some (record { mod_number = 0; item_number = 0 })
unfolding known_table
copy_of_numbers = refl

copy_by_u64 : first_ill (record { modules = record { name = codes "a"; items = FunctionItem (record { attribute = Mangled; name = codes "main_0"; params = []; result = Some (Integer I32); locals = record { name = codes "p"; ty = Pointer (Integer U8) } ∷ []; body = stmts (CopyBytes (Read (Local (codes "p"))) (Read (Local (codes "p"))) (Literal (pos 1) U64) ∷ Return (Some (Literal (pos 0) I32)) ∷ []) }) ∷ FunctionItem (record { attribute = Mangled; name = codes "run_static_initializers"; params = []; result = None; locals = []; body = stmts ([]) }) ∷ [] } ∷ []; entry = 0 }) ≡ Some (record { mod_number = 0; item_number = 0 })
unfolding known_table
copy_by_u64 = refl

-- ---- places

read_record : first_ill (record { modules = record { name = codes "a"; items = RecordItem (record { align = None; is_union = false; name = codes "s"; fields = record { name = codes "c"; ty = Integer I8 } ∷ record { name = codes "n"; ty = Integer I32 } ∷ [] }) ∷ FunctionItem (record { attribute = Mangled; name = codes "main_0"; params = []; result = Some (Integer I32); locals = record { name = codes "x"; ty = Record (codes "a") (codes "s") } ∷ []; body = stmts (Assign (Local (codes "x")) (Read (Local (codes "x"))) ∷ Return (Some (Literal (pos 0) I32)) ∷ []) }) ∷ FunctionItem (record { attribute = Mangled; name = codes "run_static_initializers"; params = []; result = None; locals = []; body = stmts ([]) }) ∷ [] } ∷ []; entry = 0 }) ≡ Some (record { mod_number = 0; item_number = 1 })
unfolding known_table
read_record = refl

deref_void : first_ill (record { modules = record { name = codes "a"; items = FunctionItem (record { attribute = Mangled; name = codes "main_0"; params = []; result = Some (Integer I32); locals = record { name = codes "p"; ty = Pointer Void } ∷ []; body = stmts (Return (Some (Read (Deref (Read (Local (codes "p")))))) ∷ []) }) ∷ FunctionItem (record { attribute = Mangled; name = codes "run_static_initializers"; params = []; result = None; locals = []; body = stmts ([]) }) ∷ [] } ∷ []; entry = 0 }) ≡ Some (record { mod_number = 0; item_number = 0 })
unfolding known_table
deref_void = refl

deref_number : first_ill (record { modules = record { name = codes "a"; items = FunctionItem (record { attribute = Mangled; name = codes "main_0"; params = []; result = Some (Integer I32); locals = []; body = stmts (Return (Some (Read (Deref (Literal (pos 1) I32)))) ∷ []) }) ∷ FunctionItem (record { attribute = Mangled; name = codes "run_static_initializers"; params = []; result = None; locals = []; body = stmts ([]) }) ∷ [] } ∷ []; entry = 0 }) ≡ Some (record { mod_number = 0; item_number = 0 })
unfolding known_table
deref_number = refl

no_such_field : first_ill (record { modules = record { name = codes "a"; items = RecordItem (record { align = None; is_union = false; name = codes "s"; fields = record { name = codes "c"; ty = Integer I8 } ∷ record { name = codes "n"; ty = Integer I32 } ∷ [] }) ∷ FunctionItem (record { attribute = Mangled; name = codes "main_0"; params = []; result = Some (Integer I32); locals = record { name = codes "x"; ty = Record (codes "a") (codes "s") } ∷ []; body = stmts (Return (Some (Read (Field (Local (codes "x")) (codes "z")))) ∷ []) }) ∷ FunctionItem (record { attribute = Mangled; name = codes "run_static_initializers"; params = []; result = None; locals = []; body = stmts ([]) }) ∷ [] } ∷ []; entry = 0 }) ≡ Some (record { mod_number = 0; item_number = 1 })
unfolding known_table
no_such_field = refl

a_field : first_ill (record { modules = record { name = codes "a"; items = RecordItem (record { align = None; is_union = false; name = codes "s"; fields = record { name = codes "c"; ty = Integer I8 } ∷ record { name = codes "n"; ty = Integer I32 } ∷ [] }) ∷ FunctionItem (record { attribute = Mangled; name = codes "main_0"; params = []; result = Some (Integer I32); locals = record { name = codes "x"; ty = Record (codes "a") (codes "s") } ∷ []; body = stmts (Return (Some (Read (Field (Local (codes "x")) (codes "n")))) ∷ []) }) ∷ FunctionItem (record { attribute = Mangled; name = codes "run_static_initializers"; params = []; result = None; locals = []; body = stmts ([]) }) ∷ [] } ∷ []; entry = 0 }) ≡ None
unfolding known_table
a_field = refl

store_of_another_type : first_ill (record { modules = record { name = codes "a"; items = FunctionItem (record { attribute = Mangled; name = codes "main_0"; params = []; result = Some (Integer I32); locals = record { name = codes "x"; ty = Integer I32 } ∷ []; body = stmts (Assign (Local (codes "x")) (Literal (pos 1) I64) ∷ Return (Some (Literal (pos 0) I32)) ∷ []) }) ∷ FunctionItem (record { attribute = Mangled; name = codes "run_static_initializers"; params = []; result = None; locals = []; body = stmts ([]) }) ∷ [] } ∷ []; entry = 0 }) ≡ Some (record { mod_number = 0; item_number = 0 })
unfolding known_table
store_of_another_type = refl

store_none : first_ill (record { modules = record { name = codes "a"; items = FunctionItem (record { attribute = Mangled; name = codes "add"; params = record { name = codes "a"; ty = Integer I32 } ∷ record { name = codes "b"; ty = Integer I32 } ∷ []; result = Some (Integer I32); locals = []; body = stmts (Return (Some (Binary (Read (Local (codes "a"))) Sub (Read (Local (codes "b"))))) ∷ []) }) ∷ FunctionItem (record { attribute = Mangled; name = codes "main_0"; params = []; result = Some (Integer I32); locals = record { name = codes "f"; ty = Code (tys (Integer I32 ∷ Integer I32 ∷ [])) (some_ty (Integer I32)) } ∷ []; body = stmts (Assign (Local (codes "f")) (NoFunction) ∷ Return (Some (Literal (pos 0) I32)) ∷ []) }) ∷ FunctionItem (record { attribute = Mangled; name = codes "run_static_initializers"; params = []; result = None; locals = []; body = stmts ([]) }) ∷ [] } ∷ []; entry = 0 }) ≡ None
unfolding known_table
store_none = refl

store_none_in_pointer : first_ill (record { modules = record { name = codes "a"; items = FunctionItem (record { attribute = Mangled; name = codes "main_0"; params = []; result = Some (Integer I32); locals = record { name = codes "p"; ty = Pointer (Integer I32) } ∷ []; body = stmts (Assign (Local (codes "p")) (NoFunction) ∷ Return (Some (Literal (pos 0) I32)) ∷ []) }) ∷ FunctionItem (record { attribute = Mangled; name = codes "run_static_initializers"; params = []; result = None; locals = []; body = stmts ([]) }) ∷ [] } ∷ []; entry = 0 }) ≡ Some (record { mod_number = 0; item_number = 0 })
unfolding known_table
store_none_in_pointer = refl

-- ---- calls

call : first_ill (record { modules = record { name = codes "a"; items = FunctionItem (record { attribute = Mangled; name = codes "add"; params = record { name = codes "a"; ty = Integer I32 } ∷ record { name = codes "b"; ty = Integer I32 } ∷ []; result = Some (Integer I32); locals = []; body = stmts (Return (Some (Binary (Read (Local (codes "a"))) Sub (Read (Local (codes "b"))))) ∷ []) }) ∷ FunctionItem (record { attribute = Mangled; name = codes "main_0"; params = []; result = Some (Integer I32); locals = []; body = stmts (Return (Some (Calls (codes "a") (codes "add") (exprs (Literal (pos 1) I32 ∷ Literal (pos 2) I32 ∷ [])))) ∷ []) }) ∷ FunctionItem (record { attribute = Mangled; name = codes "run_static_initializers"; params = []; result = None; locals = []; body = stmts ([]) }) ∷ [] } ∷ []; entry = 0 }) ≡ None
unfolding known_table
call = refl

call_too_few : first_ill (record { modules = record { name = codes "a"; items = FunctionItem (record { attribute = Mangled; name = codes "add"; params = record { name = codes "a"; ty = Integer I32 } ∷ record { name = codes "b"; ty = Integer I32 } ∷ []; result = Some (Integer I32); locals = []; body = stmts (Return (Some (Binary (Read (Local (codes "a"))) Sub (Read (Local (codes "b"))))) ∷ []) }) ∷ FunctionItem (record { attribute = Mangled; name = codes "main_0"; params = []; result = Some (Integer I32); locals = []; body = stmts (Return (Some (Calls (codes "a") (codes "add") (exprs (Literal (pos 1) I32 ∷ [])))) ∷ []) }) ∷ FunctionItem (record { attribute = Mangled; name = codes "run_static_initializers"; params = []; result = None; locals = []; body = stmts ([]) }) ∷ [] } ∷ []; entry = 0 }) ≡ Some (record { mod_number = 0; item_number = 1 })
unfolding known_table
call_too_few = refl

call_too_many : first_ill (record { modules = record { name = codes "a"; items = FunctionItem (record { attribute = Mangled; name = codes "add"; params = record { name = codes "a"; ty = Integer I32 } ∷ record { name = codes "b"; ty = Integer I32 } ∷ []; result = Some (Integer I32); locals = []; body = stmts (Return (Some (Binary (Read (Local (codes "a"))) Sub (Read (Local (codes "b"))))) ∷ []) }) ∷ FunctionItem (record { attribute = Mangled; name = codes "main_0"; params = []; result = Some (Integer I32); locals = []; body = stmts (Return (Some (Calls (codes "a") (codes "add") (exprs (Literal (pos 1) I32 ∷ Literal (pos 2) I32 ∷ Literal (pos 3) I32 ∷ [])))) ∷ []) }) ∷ FunctionItem (record { attribute = Mangled; name = codes "run_static_initializers"; params = []; result = None; locals = []; body = stmts ([]) }) ∷ [] } ∷ []; entry = 0 }) ≡ Some (record { mod_number = 0; item_number = 1 })
unfolding known_table
call_too_many = refl

call_of_another_type : first_ill (record { modules = record { name = codes "a"; items = FunctionItem (record { attribute = Mangled; name = codes "add"; params = record { name = codes "a"; ty = Integer I32 } ∷ record { name = codes "b"; ty = Integer I32 } ∷ []; result = Some (Integer I32); locals = []; body = stmts (Return (Some (Binary (Read (Local (codes "a"))) Sub (Read (Local (codes "b"))))) ∷ []) }) ∷ FunctionItem (record { attribute = Mangled; name = codes "main_0"; params = []; result = Some (Integer I32); locals = []; body = stmts (Return (Some (Calls (codes "a") (codes "add") (exprs (Literal (pos 1) I32 ∷ Literal (pos 2) I64 ∷ [])))) ∷ []) }) ∷ FunctionItem (record { attribute = Mangled; name = codes "run_static_initializers"; params = []; result = None; locals = []; body = stmts ([]) }) ∷ [] } ∷ []; entry = 0 }) ≡ Some (record { mod_number = 0; item_number = 1 })
unfolding known_table
call_of_another_type = refl

call_by_number : first_ill (record { modules = record { name = codes "a"; items = FunctionItem (record { attribute = Mangled; name = codes "main_0"; params = []; result = Some (Integer I32); locals = []; body = stmts (Eval (CallBy (Literal (pos 1) I32) (exprs [])) ∷ Return (Some (Literal (pos 0) I32)) ∷ []) }) ∷ FunctionItem (record { attribute = Mangled; name = codes "run_static_initializers"; params = []; result = None; locals = []; body = stmts ([]) }) ∷ [] } ∷ []; entry = 0 }) ≡ Some (record { mod_number = 0; item_number = 0 })
unfolding known_table
call_by_number = refl

function_of_another_type : first_ill (record { modules = record { name = codes "a"; items = FunctionItem (record { attribute = Mangled; name = codes "add"; params = record { name = codes "a"; ty = Integer I32 } ∷ record { name = codes "b"; ty = Integer I32 } ∷ []; result = Some (Integer I32); locals = []; body = stmts (Return (Some (Binary (Read (Local (codes "a"))) Sub (Read (Local (codes "b"))))) ∷ []) }) ∷ FunctionItem (record { attribute = Mangled; name = codes "main_0"; params = []; result = Some (Integer I32); locals = []; body = stmts (Return (Some (Cast (IsNone (SomeFunction (codes "a") (codes "add") (tys (Integer I32 ∷ [])) (some_ty (Integer I32)))) (Integer I32))) ∷ []) }) ∷ FunctionItem (record { attribute = Mangled; name = codes "run_static_initializers"; params = []; result = None; locals = []; body = stmts ([]) }) ∷ [] } ∷ []; entry = 0 }) ≡ Some (record { mod_number = 0; item_number = 1 })
unfolding known_table
function_of_another_type = refl

drops_number : first_ill (record { modules = record { name = codes "a"; items = FunctionItem (record { attribute = Mangled; name = codes "main_0"; params = []; result = Some (Integer I32); locals = []; body = stmts (Eval (Literal (pos 1) I32) ∷ Return (Some (Literal (pos 0) I32)) ∷ []) }) ∷ FunctionItem (record { attribute = Mangled; name = codes "run_static_initializers"; params = []; result = None; locals = []; body = stmts ([]) }) ∷ [] } ∷ []; entry = 0 }) ≡ Some (record { mod_number = 0; item_number = 0 })
unfolding known_table
drops_number = refl

trailing : first_ill (record { modules = record { name = codes "a"; items = ExternItem (record { link_name = None; name = codes "printf"; params = Pointer (Integer I8) ∷ []; variadic = true; result = Some (Integer I32) } ∷ []) ∷ FunctionItem (record { attribute = Mangled; name = codes "main_0"; params = []; result = Some (Integer I32); locals = []; body = stmts (Return (Some (Calls (codes "a") (codes "printf") (exprs (NullPointer (Integer I8) ∷ Literal (pos 1) I64 ∷ [])))) ∷ []) }) ∷ FunctionItem (record { attribute = Mangled; name = codes "run_static_initializers"; params = []; result = None; locals = []; body = stmts ([]) }) ∷ [] } ∷ []; entry = 0 }) ≡ None
unfolding known_table
trailing = refl

trailing_narrow : first_ill (record { modules = record { name = codes "a"; items = ExternItem (record { link_name = None; name = codes "printf"; params = Pointer (Integer I8) ∷ []; variadic = true; result = Some (Integer I32) } ∷ []) ∷ FunctionItem (record { attribute = Mangled; name = codes "main_0"; params = []; result = Some (Integer I32); locals = []; body = stmts (Return (Some (Calls (codes "a") (codes "printf") (exprs (NullPointer (Integer I8) ∷ Literal (pos 1) I8 ∷ [])))) ∷ []) }) ∷ FunctionItem (record { attribute = Mangled; name = codes "run_static_initializers"; params = []; result = None; locals = []; body = stmts ([]) }) ∷ [] } ∷ []; entry = 0 }) ≡ Some (record { mod_number = 0; item_number = 1 })
unfolding known_table
trailing_narrow = refl

record_parameter : first_ill (record { modules = record { name = codes "a"; items = RecordItem (record { align = None; is_union = false; name = codes "s"; fields = record { name = codes "c"; ty = Integer I8 } ∷ record { name = codes "n"; ty = Integer I32 } ∷ [] }) ∷ FunctionItem (record { attribute = Mangled; name = codes "g"; params = record { name = codes "x"; ty = Record (codes "a") (codes "s") } ∷ []; result = None; locals = []; body = stmts ([]) }) ∷ FunctionItem (record { attribute = Mangled; name = codes "main_0"; params = []; result = Some (Integer I32); locals = []; body = stmts (Return (Some (Literal (pos 0) I32)) ∷ []) }) ∷ FunctionItem (record { attribute = Mangled; name = codes "run_static_initializers"; params = []; result = None; locals = []; body = stmts ([]) }) ∷ [] } ∷ []; entry = 0 }) ≡ Some (record { mod_number = 0; item_number = 1 })
unfolding known_table
record_parameter = refl

array_result : first_ill (record { modules = record { name = codes "a"; items = FunctionItem (record { attribute = Mangled; name = codes "g"; params = []; result = Some (Array (Integer I32) 2); locals = []; body = stmts ([]) }) ∷ FunctionItem (record { attribute = Mangled; name = codes "main_0"; params = []; result = Some (Integer I32); locals = []; body = stmts (Return (Some (Literal (pos 0) I32)) ∷ []) }) ∷ FunctionItem (record { attribute = Mangled; name = codes "run_static_initializers"; params = []; result = None; locals = []; body = stmts ([]) }) ∷ [] } ∷ []; entry = 0 }) ≡ Some (record { mod_number = 0; item_number = 0 })
unfolding known_table
array_result = refl

extern_is_a_value : first_ill (record { modules = record { name = codes "a"; items = ExternItem (record { link_name = None; name = codes "printf"; params = Pointer (Integer I8) ∷ []; variadic = true; result = Some (Integer I32) } ∷ []) ∷ FunctionItem (record { attribute = Mangled; name = codes "main_0"; params = []; result = Some (Integer I32); locals = []; body = stmts (Eval (Calls (codes "a") (codes "g") (exprs ([]))) ∷ Return (Some (Literal (pos 0) I32)) ∷ []) }) ∷ FunctionItem (record { attribute = Mangled; name = codes "run_static_initializers"; params = []; result = None; locals = []; body = stmts ([]) }) ∷ [] } ∷ []; entry = 0 }) ≡ Some (record { mod_number = 0; item_number = 1 })
unfolding known_table
extern_is_a_value = refl

outer_is_no_value : first_ill (record { modules = record { name = codes "a"; items = ExternItem (record { link_name = None; name = codes "putchar"; params = Integer I32 ∷ []; variadic = false; result = Some (Integer I32) } ∷ []) ∷ FunctionItem (record { attribute = Mangled; name = codes "main_0"; params = []; result = Some (Integer I32); locals = []; body = stmts (Return (Some (Cast (IsNone (SomeFunction (codes "a") (codes "putchar") (tys (Integer I32 ∷ [])) (some_ty (Integer I32)))) (Integer I32))) ∷ []) }) ∷ FunctionItem (record { attribute = Mangled; name = codes "run_static_initializers"; params = []; result = None; locals = []; body = stmts ([]) }) ∷ [] } ∷ []; entry = 0 }) ≡ Some (record { mod_number = 0; item_number = 1 })
unfolding known_table
outer_is_no_value = refl

known : first_ill (record { modules = record { name = codes "a"; items = ExternItem (record { link_name = None; name = codes "malloc"; params = Integer U64 ∷ []; variadic = false; result = Some (Pointer (Integer I32)) } ∷ []) ∷ FunctionItem (record { attribute = Mangled; name = codes "main_0"; params = []; result = Some (Integer I32); locals = []; body = stmts (Return (Some (Literal (pos 0) I32)) ∷ []) }) ∷ FunctionItem (record { attribute = Mangled; name = codes "run_static_initializers"; params = []; result = None; locals = []; body = stmts ([]) }) ∷ [] } ∷ []; entry = 0 }) ≡ None
unfolding known_table
known = refl

known_of_another_type : first_ill (record { modules = record { name = codes "a"; items = ExternItem (record { link_name = None; name = codes "malloc"; params = Integer U32 ∷ []; variadic = false; result = Some (Pointer Void) } ∷ []) ∷ FunctionItem (record { attribute = Mangled; name = codes "main_0"; params = []; result = Some (Integer I32); locals = []; body = stmts (Return (Some (Literal (pos 0) I32)) ∷ []) }) ∷ FunctionItem (record { attribute = Mangled; name = codes "run_static_initializers"; params = []; result = None; locals = []; body = stmts ([]) }) ∷ [] } ∷ []; entry = 0 }) ≡ Some (record { mod_number = 0; item_number = 0 })
unfolding known_table
known_of_another_type = refl

known_variadic : first_ill (record { modules = record { name = codes "a"; items = ExternItem (record { link_name = None; name = codes "exit"; params = Integer I32 ∷ []; variadic = true; result = None } ∷ []) ∷ FunctionItem (record { attribute = Mangled; name = codes "main_0"; params = []; result = Some (Integer I32); locals = []; body = stmts (Return (Some (Literal (pos 0) I32)) ∷ []) }) ∷ FunctionItem (record { attribute = Mangled; name = codes "run_static_initializers"; params = []; result = None; locals = []; body = stmts ([]) }) ∷ [] } ∷ []; entry = 0 }) ≡ Some (record { mod_number = 0; item_number = 0 })
unfolding known_table
known_variadic = refl

opaque_pointer : first_ill (record { modules = record { name = codes "a"; items = ExternItem (record { link_name = None; name = codes "g"; params = Pointer (Integer I32) ∷ []; variadic = false; result = None } ∷ []) ∷ FunctionItem (record { attribute = Mangled; name = codes "main_0"; params = []; result = Some (Integer I32); locals = []; body = stmts (Return (Some (Literal (pos 0) I32)) ∷ []) }) ∷ FunctionItem (record { attribute = Mangled; name = codes "run_static_initializers"; params = []; result = None; locals = []; body = stmts ([]) }) ∷ [] } ∷ []; entry = 0 }) ≡ Some (record { mod_number = 0; item_number = 0 })
unfolding known_table
opaque_pointer = refl

opaque_result : first_ill (record { modules = record { name = codes "a"; items = ExternItem (record { link_name = None; name = codes "g"; params = []; variadic = false; result = Some (Pointer (Integer I8)) } ∷ []) ∷ FunctionItem (record { attribute = Mangled; name = codes "main_0"; params = []; result = Some (Integer I32); locals = []; body = stmts (Return (Some (Literal (pos 0) I32)) ∷ []) }) ∷ FunctionItem (record { attribute = Mangled; name = codes "run_static_initializers"; params = []; result = None; locals = []; body = stmts ([]) }) ∷ [] } ∷ []; entry = 0 }) ≡ Some (record { mod_number = 0; item_number = 0 })
unfolding known_table
opaque_result = refl

-- ---- statements

if_number : first_ill (record { modules = record { name = codes "a"; items = FunctionItem (record { attribute = Mangled; name = codes "main_0"; params = []; result = Some (Integer I32); locals = []; body = stmts (If (Literal (pos 1) I32) (stmts ([])) (stmts ([])) ∷ Return (Some (Literal (pos 0) I32)) ∷ []) }) ∷ FunctionItem (record { attribute = Mangled; name = codes "run_static_initializers"; params = []; result = None; locals = []; body = stmts ([]) }) ∷ [] } ∷ []; entry = 0 }) ≡ Some (record { mod_number = 0; item_number = 0 })
unfolding known_table
if_number = refl

break_to_none : first_ill (record { modules = record { name = codes "a"; items = FunctionItem (record { attribute = Mangled; name = codes "main_0"; params = []; result = Some (Integer I32); locals = []; body = stmts (Break (codes "l") ∷ Return (Some (Literal (pos 0) I32)) ∷ []) }) ∷ FunctionItem (record { attribute = Mangled; name = codes "run_static_initializers"; params = []; result = None; locals = []; body = stmts ([]) }) ∷ [] } ∷ []; entry = 0 }) ≡ Some (record { mod_number = 0; item_number = 0 })
unfolding known_table
break_to_none = refl

break_block : first_ill (record { modules = record { name = codes "a"; items = FunctionItem (record { attribute = Mangled; name = codes "main_0"; params = []; result = Some (Integer I32); locals = []; body = stmts (Block (codes "l") (stmts (Break (codes "l") ∷ [])) ∷ Return (Some (Literal (pos 0) I32)) ∷ []) }) ∷ FunctionItem (record { attribute = Mangled; name = codes "run_static_initializers"; params = []; result = None; locals = []; body = stmts ([]) }) ∷ [] } ∷ []; entry = 0 }) ≡ None
unfolding known_table
break_block = refl

continue_block : first_ill (record { modules = record { name = codes "a"; items = FunctionItem (record { attribute = Mangled; name = codes "main_0"; params = []; result = Some (Integer I32); locals = []; body = stmts (Block (codes "l") (stmts (Continue (codes "l") ∷ [])) ∷ Return (Some (Literal (pos 0) I32)) ∷ []) }) ∷ FunctionItem (record { attribute = Mangled; name = codes "run_static_initializers"; params = []; result = None; locals = []; body = stmts ([]) }) ∷ [] } ∷ []; entry = 0 }) ≡ Some (record { mod_number = 0; item_number = 0 })
unfolding known_table
continue_block = refl

continue_loop : first_ill (record { modules = record { name = codes "a"; items = FunctionItem (record { attribute = Mangled; name = codes "main_0"; params = []; result = Some (Integer I32); locals = []; body = stmts (Loop (Some (codes "l")) (stmts (Continue (codes "l") ∷ [])) ∷ Return (Some (Literal (pos 0) I32)) ∷ []) }) ∷ FunctionItem (record { attribute = Mangled; name = codes "run_static_initializers"; params = []; result = None; locals = []; body = stmts ([]) }) ∷ [] } ∷ []; entry = 0 }) ≡ None
unfolding known_table
continue_loop = refl

label_twice : first_ill (record { modules = record { name = codes "a"; items = FunctionItem (record { attribute = Mangled; name = codes "main_0"; params = []; result = Some (Integer I32); locals = []; body = stmts (Loop (Some (codes "l")) (stmts (Block (codes "l") (stmts ([])) ∷ [])) ∷ Return (Some (Literal (pos 0) I32)) ∷ []) }) ∷ FunctionItem (record { attribute = Mangled; name = codes "run_static_initializers"; params = []; result = None; locals = []; body = stmts ([]) }) ∷ [] } ∷ []; entry = 0 }) ≡ Some (record { mod_number = 0; item_number = 0 })
unfolding known_table
label_twice = refl

labels_side_by_side : first_ill (record { modules = record { name = codes "a"; items = FunctionItem (record { attribute = Mangled; name = codes "main_0"; params = []; result = Some (Integer I32); locals = []; body = stmts (Block (codes "l") (stmts ([])) ∷ Block (codes "l") (stmts ([])) ∷ Return (Some (Literal (pos 0) I32)) ∷ []) }) ∷ FunctionItem (record { attribute = Mangled; name = codes "run_static_initializers"; params = []; result = None; locals = []; body = stmts ([]) }) ∷ [] } ∷ []; entry = 0 }) ≡ None
unfolding known_table
labels_side_by_side = refl

match : first_ill (record { modules = record { name = codes "a"; items = FunctionItem (record { attribute = Mangled; name = codes "main_0"; params = []; result = Some (Integer I32); locals = []; body = stmts (Match (Literal (pos 1) I32) (arms (LiteralArm (pos 1) I32 (stmts []) ∷ LiteralArm (pos 2) I32 (stmts []) ∷ [])) (stmts []) ∷ Return (Some (Literal (pos 0) I32)) ∷ []) }) ∷ FunctionItem (record { attribute = Mangled; name = codes "run_static_initializers"; params = []; result = None; locals = []; body = stmts ([]) }) ∷ [] } ∷ []; entry = 0 }) ≡ None
unfolding known_table
match = refl

arm_twice : first_ill (record { modules = record { name = codes "a"; items = FunctionItem (record { attribute = Mangled; name = codes "main_0"; params = []; result = Some (Integer I32); locals = []; body = stmts (Match (Literal (pos 1) I32) (arms (LiteralArm (pos 1) I32 (stmts []) ∷ LiteralArm (pos 1) I32 (stmts []) ∷ [])) (stmts []) ∷ Return (Some (Literal (pos 0) I32)) ∷ []) }) ∷ FunctionItem (record { attribute = Mangled; name = codes "run_static_initializers"; params = []; result = None; locals = []; body = stmts ([]) }) ∷ [] } ∷ []; entry = 0 }) ≡ Some (record { mod_number = 0; item_number = 0 })
unfolding known_table
arm_twice = refl

arm_of_another_type : first_ill (record { modules = record { name = codes "a"; items = FunctionItem (record { attribute = Mangled; name = codes "main_0"; params = []; result = Some (Integer I32); locals = []; body = stmts (Match (Literal (pos 1) I32) (arms (LiteralArm (pos 1) I64 (stmts []) ∷ [])) (stmts []) ∷ Return (Some (Literal (pos 0) I32)) ∷ []) }) ∷ FunctionItem (record { attribute = Mangled; name = codes "run_static_initializers"; params = []; result = None; locals = []; body = stmts ([]) }) ∷ [] } ∷ []; entry = 0 }) ≡ Some (record { mod_number = 0; item_number = 0 })
unfolding known_table
arm_of_another_type = refl

match_truth : first_ill (record { modules = record { name = codes "a"; items = FunctionItem (record { attribute = Mangled; name = codes "main_0"; params = []; result = Some (Integer I32); locals = []; body = stmts (Match (Truth true) (arms ([])) (stmts []) ∷ Return (Some (Literal (pos 0) I32)) ∷ []) }) ∷ FunctionItem (record { attribute = Mangled; name = codes "run_static_initializers"; params = []; result = None; locals = []; body = stmts ([]) }) ∷ [] } ∷ []; entry = 0 }) ≡ Some (record { mod_number = 0; item_number = 0 })
unfolding known_table
match_truth = refl

return_of_another_type : first_ill (record { modules = record { name = codes "a"; items = FunctionItem (record { attribute = Mangled; name = codes "main_0"; params = []; result = Some (Integer I32); locals = []; body = stmts (Return (Some (Literal (pos 0) I64)) ∷ []) }) ∷ FunctionItem (record { attribute = Mangled; name = codes "run_static_initializers"; params = []; result = None; locals = []; body = stmts ([]) }) ∷ [] } ∷ []; entry = 0 }) ≡ Some (record { mod_number = 0; item_number = 0 })
unfolding known_table
return_of_another_type = refl

return_without_value : first_ill (record { modules = record { name = codes "a"; items = FunctionItem (record { attribute = Mangled; name = codes "main_0"; params = []; result = Some (Integer I32); locals = []; body = stmts (Return None ∷ []) }) ∷ FunctionItem (record { attribute = Mangled; name = codes "run_static_initializers"; params = []; result = None; locals = []; body = stmts ([]) }) ∷ [] } ∷ []; entry = 0 }) ≡ Some (record { mod_number = 0; item_number = 0 })
unfolding known_table
return_without_value = refl

ends_without_return : first_ill (record { modules = record { name = codes "a"; items = FunctionItem (record { attribute = Mangled; name = codes "main_0"; params = []; result = Some (Integer I32); locals = []; body = stmts (If (Truth true) (stmts (Return (Some (Literal (pos 0) I32)) ∷ [])) (stmts (Return (Some (Literal (pos 0) I32)) ∷ [])) ∷ []) }) ∷ FunctionItem (record { attribute = Mangled; name = codes "run_static_initializers"; params = []; result = None; locals = []; body = stmts ([]) }) ∷ [] } ∷ []; entry = 0 }) ≡ Some (record { mod_number = 0; item_number = 0 })
unfolding known_table
ends_without_return = refl

return_of_nothing : first_ill (record { modules = record { name = codes "a"; items = FunctionItem (record { attribute = Mangled; name = codes "g"; params = []; result = None; locals = []; body = stmts (Return (Some (Literal (pos 0) I32)) ∷ []) }) ∷ FunctionItem (record { attribute = Mangled; name = codes "main_0"; params = []; result = Some (Integer I32); locals = []; body = stmts (Return (Some (Literal (pos 0) I32)) ∷ []) }) ∷ FunctionItem (record { attribute = Mangled; name = codes "run_static_initializers"; params = []; result = None; locals = []; body = stmts ([]) }) ∷ [] } ∷ []; entry = 0 }) ≡ Some (record { mod_number = 0; item_number = 0 })
unfolding known_table
return_of_nothing = refl

-- ---- `main_0` and the initialiser

main_with_parameter : first_ill (record { modules = record { name = codes "a"; items = FunctionItem (record { attribute = Mangled; name = codes "main_0"; params = record { name = codes "a"; ty = Integer I32 } ∷ []; result = Some (Integer I32); locals = []; body = stmts (Return (Some (Literal (pos 0) I32)) ∷ []) }) ∷ FunctionItem (record { attribute = Mangled; name = codes "run_static_initializers"; params = []; result = None; locals = []; body = stmts ([]) }) ∷ [] } ∷ []; entry = 0 }) ≡ Some (record { mod_number = 0; item_number = 0 })
unfolding known_table
main_with_parameter = refl

main_of_another_result : first_ill (record { modules = record { name = codes "a"; items = FunctionItem (record { attribute = Mangled; name = codes "main_0"; params = []; result = Some (Integer I64); locals = []; body = stmts (Return (Some (Literal (pos 0) I64)) ∷ []) }) ∷ FunctionItem (record { attribute = Mangled; name = codes "run_static_initializers"; params = []; result = None; locals = []; body = stmts ([]) }) ∷ [] } ∷ []; entry = 0 }) ≡ Some (record { mod_number = 0; item_number = 0 })
unfolding known_table
main_of_another_result = refl
