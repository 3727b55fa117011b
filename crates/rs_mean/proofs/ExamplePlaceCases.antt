-- Worked crates for each case of the typing of casts, methods, places and calls, beside its bounds.
use Rattle.std.specs.Prelude.{◌≡◌, pos, true, false, [], ◌∷◌, Some, None, codes}
use Rattle.std.proofs.Common.{refl}
use Rattle.cr_world.specs.Known.{known_table}
use Rattle.rs_text.specs.declared.attribute.Attribute.TheVariants.{Mangled}
use Rattle.rs_text.specs.declared.integer.IntegerTy.TheVariants.{I8, I16, I32, I64, U8, U32, U64, Isize, Usize}
use Rattle.rs_text.specs.declared.operator.Operator.TheVariants.{Equal}
use Rattle.rs_text.specs.Tree.{Integer, Boolean, Void, Pointer, Array, Code, Record, no_ty, some_ty, Local, Deref, Field, Literal, Truth, NoFunction, Read, Call as Calls, CallBy, Offset, OffsetFrom, IsNull, IsNone, AddressOf, NullPointer, SomeFunction, Transmute, Cast, Binary, Choose, exprs, Assign, Eval, CopyBytes, Return, stmts, tys, RecordItem, ExternItem, FunctionItem}
use Rattle.rs_mean.specs.Typing.{first_ill}

-- ---- casts and methods

cast_truth : first_ill (record { modules = record { name = codes "a"; items = FunctionItem (record { attribute = Mangled; name = codes "main_0"; params = []; result = Some (Integer I32); locals = []; body = stmts (Return (Some (Cast (Truth true) (Integer I32))) ∷ []) }) ∷ FunctionItem (record { attribute = Mangled; name = codes "run_static_initializers"; params = []; result = None; locals = []; body = stmts ([]) }) ∷ [] } ∷ []; entry = 0 }) ≡ None
unfolding known_table
cast_truth = refl

cast_number_to_pointer : first_ill (record { modules = record { name = codes "a"; items = FunctionItem (record { attribute = Mangled; name = codes "main_0"; params = []; result = Some (Integer I32); locals = []; body = stmts (Return (Some (Cast (IsNull (Cast (Literal (pos 0) Usize) (Pointer (Integer I32)))) (Integer I32))) ∷ []) }) ∷ FunctionItem (record { attribute = Mangled; name = codes "run_static_initializers"; params = []; result = None; locals = []; body = stmts ([]) }) ∷ [] } ∷ []; entry = 0 }) ≡ Some (record { mod_number = 0; item_number = 0 })
unfolding known_table
cast_number_to_pointer = refl

cast_function_to_pointer : first_ill (record { modules = record { name = codes "a"; items = FunctionItem (record { attribute = Mangled; name = codes "main_0"; params = []; result = Some (Integer I32); locals = record { name = codes "f"; ty = Code (tys ([])) (no_ty) } ∷ []; body = stmts (Return (Some (Cast (IsNull (Cast (Read (Local (codes "f"))) (Pointer (Integer I32)))) (Integer I32))) ∷ []) }) ∷ FunctionItem (record { attribute = Mangled; name = codes "run_static_initializers"; params = []; result = None; locals = []; body = stmts ([]) }) ∷ [] } ∷ []; entry = 0 }) ≡ Some (record { mod_number = 0; item_number = 0 })
unfolding known_table
cast_function_to_pointer = refl

cast_pointer_to_function : first_ill (record { modules = record { name = codes "a"; items = FunctionItem (record { attribute = Mangled; name = codes "main_0"; params = []; result = Some (Integer I32); locals = record { name = codes "p"; ty = Pointer (Integer I32) } ∷ []; body = stmts (Return (Some (Cast (IsNone (Cast (Read (Local (codes "p"))) (Code (tys ([])) (no_ty)))) (Integer I32))) ∷ []) }) ∷ FunctionItem (record { attribute = Mangled; name = codes "run_static_initializers"; params = []; result = None; locals = []; body = stmts ([]) }) ∷ [] } ∷ []; entry = 0 }) ≡ Some (record { mod_number = 0; item_number = 0 })
unfolding known_table
cast_pointer_to_function = refl

cast_function_to_number : first_ill (record { modules = record { name = codes "a"; items = FunctionItem (record { attribute = Mangled; name = codes "main_0"; params = []; result = Some (Integer I32); locals = record { name = codes "f"; ty = Code (tys ([])) (no_ty) } ∷ []; body = stmts (Return (Some (Cast (Cast (Read (Local (codes "f"))) (Integer Usize)) (Integer I32))) ∷ []) }) ∷ FunctionItem (record { attribute = Mangled; name = codes "run_static_initializers"; params = []; result = None; locals = []; body = stmts ([]) }) ∷ [] } ∷ []; entry = 0 }) ≡ Some (record { mod_number = 0; item_number = 0 })
unfolding known_table
cast_function_to_number = refl

cast_none : first_ill (record { modules = record { name = codes "a"; items = FunctionItem (record { attribute = Mangled; name = codes "main_0"; params = []; result = Some (Integer I32); locals = []; body = stmts (Return (Some (Cast (IsNone (Cast (NoFunction) (Code (tys ([])) (no_ty)))) (Integer I32))) ∷ []) }) ∷ FunctionItem (record { attribute = Mangled; name = codes "run_static_initializers"; params = []; result = None; locals = []; body = stmts ([]) }) ∷ [] } ∷ []; entry = 0 }) ≡ Some (record { mod_number = 0; item_number = 0 })
unfolding known_table
cast_none = refl

cast_truth_to_truth : first_ill (record { modules = record { name = codes "a"; items = FunctionItem (record { attribute = Mangled; name = codes "main_0"; params = []; result = Some (Integer I32); locals = []; body = stmts (Return (Some (Cast (Cast (Truth true) (Boolean)) (Integer I32))) ∷ []) }) ∷ FunctionItem (record { attribute = Mangled; name = codes "run_static_initializers"; params = []; result = None; locals = []; body = stmts ([]) }) ∷ [] } ∷ []; entry = 0 }) ≡ Some (record { mod_number = 0; item_number = 0 })
unfolding known_table
cast_truth_to_truth = refl

offset_by_isize : first_ill (record { modules = record { name = codes "a"; items = FunctionItem (record { attribute = Mangled; name = codes "main_0"; params = []; result = Some (Integer I32); locals = record { name = codes "p"; ty = Pointer (Integer I32) } ∷ []; body = stmts (Return (Some (Cast (IsNull (Offset (Read (Local (codes "p"))) (Literal (pos 1) Isize))) (Integer I32))) ∷ []) }) ∷ FunctionItem (record { attribute = Mangled; name = codes "run_static_initializers"; params = []; result = None; locals = []; body = stmts ([]) }) ∷ [] } ∷ []; entry = 0 }) ≡ None
unfolding known_table
offset_by_isize = refl

offset_by_i64 : first_ill (record { modules = record { name = codes "a"; items = FunctionItem (record { attribute = Mangled; name = codes "main_0"; params = []; result = Some (Integer I32); locals = record { name = codes "p"; ty = Pointer (Integer I32) } ∷ []; body = stmts (Return (Some (Cast (IsNull (Offset (Read (Local (codes "p"))) (Literal (pos 1) I64))) (Integer I32))) ∷ []) }) ∷ FunctionItem (record { attribute = Mangled; name = codes "run_static_initializers"; params = []; result = None; locals = []; body = stmts ([]) }) ∷ [] } ∷ []; entry = 0 }) ≡ Some (record { mod_number = 0; item_number = 0 })
unfolding known_table
offset_by_i64 = refl

offset_of_number : first_ill (record { modules = record { name = codes "a"; items = FunctionItem (record { attribute = Mangled; name = codes "main_0"; params = []; result = Some (Integer I32); locals = []; body = stmts (Return (Some (Cast (IsNull (Offset (Literal (pos 1) I32) (Literal (pos 1) Isize))) (Integer I32))) ∷ []) }) ∷ FunctionItem (record { attribute = Mangled; name = codes "run_static_initializers"; params = []; result = None; locals = []; body = stmts ([]) }) ∷ [] } ∷ []; entry = 0 }) ≡ Some (record { mod_number = 0; item_number = 0 })
unfolding known_table
offset_of_number = refl

offset_of_record : first_ill (record { modules = record { name = codes "a"; items = RecordItem (record { align = None; is_union = false; name = codes "s"; fields = record { name = codes "c"; ty = Integer I8 } ∷ record { name = codes "n"; ty = Integer I32 } ∷ [] }) ∷ FunctionItem (record { attribute = Mangled; name = codes "main_0"; params = []; result = Some (Integer I32); locals = record { name = codes "p"; ty = Pointer (Record (codes "a") (codes "s")) } ∷ []; body = stmts (Return (Some (Cast (IsNull (Offset (Read (Local (codes "p"))) (Literal (pos 1) Isize))) (Integer I32))) ∷ []) }) ∷ FunctionItem (record { attribute = Mangled; name = codes "run_static_initializers"; params = []; result = None; locals = []; body = stmts ([]) }) ∷ [] } ∷ []; entry = 0 }) ≡ None
unfolding known_table
offset_of_record = refl

apart_gives_isize : first_ill (record { modules = record { name = codes "a"; items = FunctionItem (record { attribute = Mangled; name = codes "main_0"; params = []; result = Some (Integer I32); locals = record { name = codes "p"; ty = Pointer (Integer I32) } ∷ []; body = stmts (Return (Some (Cast (Binary (OffsetFrom (Read (Local (codes "p"))) (Read (Local (codes "p")))) Equal (Literal (pos 0) Isize)) (Integer I32))) ∷ []) }) ∷ FunctionItem (record { attribute = Mangled; name = codes "run_static_initializers"; params = []; result = None; locals = []; body = stmts ([]) }) ∷ [] } ∷ []; entry = 0 }) ≡ None
unfolding known_table
apart_gives_isize = refl

apart_gives_no_i64 : first_ill (record { modules = record { name = codes "a"; items = FunctionItem (record { attribute = Mangled; name = codes "main_0"; params = []; result = Some (Integer I32); locals = record { name = codes "p"; ty = Pointer (Integer I32) } ∷ []; body = stmts (Return (Some (Cast (Binary (OffsetFrom (Read (Local (codes "p"))) (Read (Local (codes "p")))) Equal (Literal (pos 0) I64)) (Integer I32))) ∷ []) }) ∷ FunctionItem (record { attribute = Mangled; name = codes "run_static_initializers"; params = []; result = None; locals = []; body = stmts ([]) }) ∷ [] } ∷ []; entry = 0 }) ≡ Some (record { mod_number = 0; item_number = 0 })
unfolding known_table
apart_gives_no_i64 = refl

apart_of_void : first_ill (record { modules = record { name = codes "a"; items = FunctionItem (record { attribute = Mangled; name = codes "main_0"; params = []; result = Some (Integer I32); locals = record { name = codes "p"; ty = Pointer (Void) } ∷ []; body = stmts (Return (Some (Cast (OffsetFrom (Read (Local (codes "p"))) (Read (Local (codes "p")))) (Integer I32))) ∷ []) }) ∷ FunctionItem (record { attribute = Mangled; name = codes "run_static_initializers"; params = []; result = None; locals = []; body = stmts ([]) }) ∷ [] } ∷ []; entry = 0 }) ≡ Some (record { mod_number = 0; item_number = 0 })
unfolding known_table
apart_of_void = refl

is_null_of_number : first_ill (record { modules = record { name = codes "a"; items = FunctionItem (record { attribute = Mangled; name = codes "main_0"; params = []; result = Some (Integer I32); locals = []; body = stmts (Return (Some (Cast (IsNull (Literal (pos 1) I32)) (Integer I32))) ∷ []) }) ∷ FunctionItem (record { attribute = Mangled; name = codes "run_static_initializers"; params = []; result = None; locals = []; body = stmts ([]) }) ∷ [] } ∷ []; entry = 0 }) ≡ Some (record { mod_number = 0; item_number = 0 })
unfolding known_table
is_null_of_number = refl

is_null_of_function : first_ill (record { modules = record { name = codes "a"; items = FunctionItem (record { attribute = Mangled; name = codes "main_0"; params = []; result = Some (Integer I32); locals = record { name = codes "f"; ty = Code (tys ([])) (no_ty) } ∷ []; body = stmts (Return (Some (Cast (IsNull (Read (Local (codes "f")))) (Integer I32))) ∷ []) }) ∷ FunctionItem (record { attribute = Mangled; name = codes "run_static_initializers"; params = []; result = None; locals = []; body = stmts ([]) }) ∷ [] } ∷ []; entry = 0 }) ≡ Some (record { mod_number = 0; item_number = 0 })
unfolding known_table
is_null_of_function = refl

is_none_of_pointer : first_ill (record { modules = record { name = codes "a"; items = FunctionItem (record { attribute = Mangled; name = codes "main_0"; params = []; result = Some (Integer I32); locals = record { name = codes "p"; ty = Pointer (Integer I32) } ∷ []; body = stmts (Return (Some (Cast (IsNone (Read (Local (codes "p")))) (Integer I32))) ∷ []) }) ∷ FunctionItem (record { attribute = Mangled; name = codes "run_static_initializers"; params = []; result = None; locals = []; body = stmts ([]) }) ∷ [] } ∷ []; entry = 0 }) ≡ Some (record { mod_number = 0; item_number = 0 })
unfolding known_table
is_none_of_pointer = refl

is_none_of_none : first_ill (record { modules = record { name = codes "a"; items = FunctionItem (record { attribute = Mangled; name = codes "main_0"; params = []; result = Some (Integer I32); locals = []; body = stmts (Return (Some (Cast (IsNone (NoFunction)) (Integer I32))) ∷ []) }) ∷ FunctionItem (record { attribute = Mangled; name = codes "run_static_initializers"; params = []; result = None; locals = []; body = stmts ([]) }) ∷ [] } ∷ []; entry = 0 }) ≡ Some (record { mod_number = 0; item_number = 0 })
unfolding known_table
is_none_of_none = refl

address_of_record : first_ill (record { modules = record { name = codes "a"; items = RecordItem (record { align = None; is_union = false; name = codes "s"; fields = record { name = codes "c"; ty = Integer I8 } ∷ record { name = codes "n"; ty = Integer I32 } ∷ [] }) ∷ FunctionItem (record { attribute = Mangled; name = codes "main_0"; params = []; result = Some (Integer I32); locals = record { name = codes "x"; ty = Record (codes "a") (codes "s") } ∷ []; body = stmts (Return (Some (Cast (IsNull (Cast (AddressOf (Local (codes "x"))) (Pointer (Integer U8)))) (Integer I32))) ∷ []) }) ∷ FunctionItem (record { attribute = Mangled; name = codes "run_static_initializers"; params = []; result = None; locals = []; body = stmts ([]) }) ∷ [] } ∷ []; entry = 0 }) ≡ None
unfolding known_table
address_of_record = refl

address_of_void : first_ill (record { modules = record { name = codes "a"; items = FunctionItem (record { attribute = Mangled; name = codes "main_0"; params = []; result = Some (Integer I32); locals = record { name = codes "p"; ty = Pointer (Void) } ∷ []; body = stmts (Return (Some (Cast (IsNull (AddressOf (Deref (Read (Local (codes "p")))))) (Integer I32))) ∷ []) }) ∷ FunctionItem (record { attribute = Mangled; name = codes "run_static_initializers"; params = []; result = None; locals = []; body = stmts ([]) }) ∷ [] } ∷ []; entry = 0 }) ≡ Some (record { mod_number = 0; item_number = 0 })
unfolding known_table
address_of_void = refl

transmute_functions : first_ill (record { modules = record { name = codes "a"; items = FunctionItem (record { attribute = Mangled; name = codes "main_0"; params = []; result = Some (Integer I32); locals = record { name = codes "f"; ty = Code (tys ([])) (no_ty) } ∷ []; body = stmts (Return (Some (Cast (IsNone (Transmute (Code (tys ([])) (no_ty)) (Code (tys (Integer I32 ∷ [])) (some_ty (Integer I32))) (Read (Local (codes "f"))))) (Integer I32))) ∷ []) }) ∷ FunctionItem (record { attribute = Mangled; name = codes "run_static_initializers"; params = []; result = None; locals = []; body = stmts ([]) }) ∷ [] } ∷ []; entry = 0 }) ≡ None
unfolding known_table
transmute_functions = refl

transmute_none : first_ill (record { modules = record { name = codes "a"; items = FunctionItem (record { attribute = Mangled; name = codes "main_0"; params = []; result = Some (Integer I32); locals = []; body = stmts (Return (Some (Cast (IsNone (Transmute (Code (tys ([])) (no_ty)) (Code (tys (Integer I32 ∷ [])) (some_ty (Integer I32))) (NoFunction))) (Integer I32))) ∷ []) }) ∷ FunctionItem (record { attribute = Mangled; name = codes "run_static_initializers"; params = []; result = None; locals = []; body = stmts ([]) }) ∷ [] } ∷ []; entry = 0 }) ≡ None
unfolding known_table
transmute_none = refl

transmute_of_another_type : first_ill (record { modules = record { name = codes "a"; items = FunctionItem (record { attribute = Mangled; name = codes "main_0"; params = []; result = Some (Integer I32); locals = record { name = codes "f"; ty = Code (tys ([])) (no_ty) } ∷ []; body = stmts (Return (Some (Cast (IsNone (Transmute (Code (tys (Integer I64 ∷ [])) (no_ty)) (Code (tys (Integer I32 ∷ [])) (some_ty (Integer I32))) (Read (Local (codes "f"))))) (Integer I32))) ∷ []) }) ∷ FunctionItem (record { attribute = Mangled; name = codes "run_static_initializers"; params = []; result = None; locals = []; body = stmts ([]) }) ∷ [] } ∷ []; entry = 0 }) ≡ Some (record { mod_number = 0; item_number = 0 })
unfolding known_table
transmute_of_another_type = refl

transmute_pointer : first_ill (record { modules = record { name = codes "a"; items = FunctionItem (record { attribute = Mangled; name = codes "main_0"; params = []; result = Some (Integer I32); locals = record { name = codes "p"; ty = Pointer (Integer I32) } ∷ []; body = stmts (Return (Some (Cast (IsNone (Transmute (Pointer (Integer I32)) (Code (tys ([])) (no_ty)) (Read (Local (codes "p"))))) (Integer I32))) ∷ []) }) ∷ FunctionItem (record { attribute = Mangled; name = codes "run_static_initializers"; params = []; result = None; locals = []; body = stmts ([]) }) ∷ [] } ∷ []; entry = 0 }) ≡ Some (record { mod_number = 0; item_number = 0 })
unfolding known_table
transmute_pointer = refl

transmute_to_pointer : first_ill (record { modules = record { name = codes "a"; items = FunctionItem (record { attribute = Mangled; name = codes "main_0"; params = []; result = Some (Integer I32); locals = record { name = codes "f"; ty = Code (tys ([])) (no_ty) } ∷ []; body = stmts (Return (Some (Cast (IsNull (Transmute (Code (tys ([])) (no_ty)) (Pointer (Integer I32)) (Read (Local (codes "f"))))) (Integer I32))) ∷ []) }) ∷ FunctionItem (record { attribute = Mangled; name = codes "run_static_initializers"; params = []; result = None; locals = []; body = stmts ([]) }) ∷ [] } ∷ []; entry = 0 }) ≡ Some (record { mod_number = 0; item_number = 0 })
unfolding known_table
transmute_to_pointer = refl

some : first_ill (record { modules = record { name = codes "a"; items = FunctionItem (record { attribute = Mangled; name = codes "f"; params = record { name = codes "a"; ty = Integer I32 } ∷ []; result = Some (Integer I32); locals = []; body = stmts (Return (Some (Literal (pos 0) I32)) ∷ []) }) ∷ FunctionItem (record { attribute = Mangled; name = codes "main_0"; params = []; result = Some (Integer I32); locals = []; body = stmts (Return (Some (Cast (IsNone (SomeFunction (codes "a") (codes "f") (tys (Integer I32 ∷ [])) (some_ty (Integer I32)))) (Integer I32))) ∷ []) }) ∷ FunctionItem (record { attribute = Mangled; name = codes "run_static_initializers"; params = []; result = None; locals = []; body = stmts ([]) }) ∷ [] } ∷ []; entry = 0 }) ≡ None
unfolding known_table
some = refl

some_of_another_result : first_ill (record { modules = record { name = codes "a"; items = FunctionItem (record { attribute = Mangled; name = codes "f"; params = record { name = codes "a"; ty = Integer I32 } ∷ []; result = Some (Integer I32); locals = []; body = stmts (Return (Some (Literal (pos 0) I32)) ∷ []) }) ∷ FunctionItem (record { attribute = Mangled; name = codes "main_0"; params = []; result = Some (Integer I32); locals = []; body = stmts (Return (Some (Cast (IsNone (SomeFunction (codes "a") (codes "f") (tys (Integer I32 ∷ [])) (some_ty (Integer I64)))) (Integer I32))) ∷ []) }) ∷ FunctionItem (record { attribute = Mangled; name = codes "run_static_initializers"; params = []; result = None; locals = []; body = stmts ([]) }) ∷ [] } ∷ []; entry = 0 }) ≡ Some (record { mod_number = 0; item_number = 1 })
unfolding known_table
some_of_another_result = refl

some_without_result : first_ill (record { modules = record { name = codes "a"; items = FunctionItem (record { attribute = Mangled; name = codes "f"; params = record { name = codes "a"; ty = Integer I32 } ∷ []; result = Some (Integer I32); locals = []; body = stmts (Return (Some (Literal (pos 0) I32)) ∷ []) }) ∷ FunctionItem (record { attribute = Mangled; name = codes "main_0"; params = []; result = Some (Integer I32); locals = []; body = stmts (Return (Some (Cast (IsNone (SomeFunction (codes "a") (codes "f") (tys (Integer I32 ∷ [])) (no_ty))) (Integer I32))) ∷ []) }) ∷ FunctionItem (record { attribute = Mangled; name = codes "run_static_initializers"; params = []; result = None; locals = []; body = stmts ([]) }) ∷ [] } ∷ []; entry = 0 }) ≡ Some (record { mod_number = 0; item_number = 1 })
unfolding known_table
some_without_result = refl

some_of_another_parameter : first_ill (record { modules = record { name = codes "a"; items = FunctionItem (record { attribute = Mangled; name = codes "f"; params = record { name = codes "a"; ty = Integer I32 } ∷ []; result = Some (Integer I32); locals = []; body = stmts (Return (Some (Literal (pos 0) I32)) ∷ []) }) ∷ FunctionItem (record { attribute = Mangled; name = codes "main_0"; params = []; result = Some (Integer I32); locals = []; body = stmts (Return (Some (Cast (IsNone (SomeFunction (codes "a") (codes "f") (tys (Integer U32 ∷ [])) (some_ty (Integer I32)))) (Integer I32))) ∷ []) }) ∷ FunctionItem (record { attribute = Mangled; name = codes "run_static_initializers"; params = []; result = None; locals = []; body = stmts ([]) }) ∷ [] } ∷ []; entry = 0 }) ≡ Some (record { mod_number = 0; item_number = 1 })
unfolding known_table
some_of_another_parameter = refl

some_of_no_function : first_ill (record { modules = record { name = codes "a"; items = FunctionItem (record { attribute = Mangled; name = codes "f"; params = record { name = codes "a"; ty = Integer I32 } ∷ []; result = Some (Integer I32); locals = []; body = stmts (Return (Some (Literal (pos 0) I32)) ∷ []) }) ∷ FunctionItem (record { attribute = Mangled; name = codes "main_0"; params = []; result = Some (Integer I32); locals = []; body = stmts (Return (Some (Cast (IsNone (SomeFunction (codes "a") (codes "g") (tys (Integer I32 ∷ [])) (some_ty (Integer I32)))) (Integer I32))) ∷ []) }) ∷ FunctionItem (record { attribute = Mangled; name = codes "run_static_initializers"; params = []; result = None; locals = []; body = stmts ([]) }) ∷ [] } ∷ []; entry = 0 }) ≡ Some (record { mod_number = 0; item_number = 1 })
unfolding known_table
some_of_no_function = refl

copy_of_bytes : first_ill (record { modules = record { name = codes "a"; items = FunctionItem (record { attribute = Mangled; name = codes "main_0"; params = []; result = Some (Integer I32); locals = record { name = codes "p"; ty = Pointer (Integer I32) } ∷ record { name = codes "q"; ty = Pointer (Integer U8) } ∷ []; body = stmts (CopyBytes (Read (Local (codes "q"))) (Read (Local (codes "q"))) (Literal (pos 1) Usize) ∷ Return (Some (Literal (pos 0) I32)) ∷ []) }) ∷ FunctionItem (record { attribute = Mangled; name = codes "run_static_initializers"; params = []; result = None; locals = []; body = stmts ([]) }) ∷ [] } ∷ []; entry = 0 }) ≡ None
unfolding known_table
copy_of_bytes = refl

copy_from_numbers : first_ill (record { modules = record { name = codes "a"; items = FunctionItem (record { attribute = Mangled; name = codes "main_0"; params = []; result = Some (Integer I32); locals = record { name = codes "p"; ty = Pointer (Integer I32) } ∷ record { name = codes "q"; ty = Pointer (Integer U8) } ∷ []; body = stmts (CopyBytes (Read (Local (codes "p"))) (Read (Local (codes "q"))) (Literal (pos 1) Usize) ∷ Return (Some (Literal (pos 0) I32)) ∷ []) }) ∷ FunctionItem (record { attribute = Mangled; name = codes "run_static_initializers"; params = []; result = None; locals = []; body = stmts ([]) }) ∷ [] } ∷ []; entry = 0 }) ≡ Some (record { mod_number = 0; item_number = 0 })
unfolding known_table
copy_from_numbers = refl

copy_to_numbers : first_ill (record { modules = record { name = codes "a"; items = FunctionItem (record { attribute = Mangled; name = codes "main_0"; params = []; result = Some (Integer I32); locals = record { name = codes "p"; ty = Pointer (Integer I32) } ∷ record { name = codes "q"; ty = Pointer (Integer U8) } ∷ []; body = stmts (CopyBytes (Read (Local (codes "q"))) (Read (Local (codes "p"))) (Literal (pos 1) Usize) ∷ Return (Some (Literal (pos 0) I32)) ∷ []) }) ∷ FunctionItem (record { attribute = Mangled; name = codes "run_static_initializers"; params = []; result = None; locals = []; body = stmts ([]) }) ∷ [] } ∷ []; entry = 0 }) ≡ Some (record { mod_number = 0; item_number = 0 })
unfolding known_table
copy_to_numbers = refl

copy_of_isize : first_ill (record { modules = record { name = codes "a"; items = FunctionItem (record { attribute = Mangled; name = codes "main_0"; params = []; result = Some (Integer I32); locals = record { name = codes "p"; ty = Pointer (Integer I32) } ∷ record { name = codes "q"; ty = Pointer (Integer U8) } ∷ []; body = stmts (CopyBytes (Read (Local (codes "q"))) (Read (Local (codes "q"))) (Literal (pos 1) Isize) ∷ Return (Some (Literal (pos 0) I32)) ∷ []) }) ∷ FunctionItem (record { attribute = Mangled; name = codes "run_static_initializers"; params = []; result = None; locals = []; body = stmts ([]) }) ∷ [] } ∷ []; entry = 0 }) ≡ Some (record { mod_number = 0; item_number = 0 })
unfolding known_table
copy_of_isize = refl

choose : first_ill (record { modules = record { name = codes "a"; items = FunctionItem (record { attribute = Mangled; name = codes "main_0"; params = []; result = Some (Integer I32); locals = []; body = stmts (Return (Some (Choose (Truth true) (Literal (pos 1) I32) (Literal (pos 2) I32))) ∷ []) }) ∷ FunctionItem (record { attribute = Mangled; name = codes "run_static_initializers"; params = []; result = None; locals = []; body = stmts ([]) }) ∷ [] } ∷ []; entry = 0 }) ≡ None
unfolding known_table
choose = refl

choose_two_types : first_ill (record { modules = record { name = codes "a"; items = FunctionItem (record { attribute = Mangled; name = codes "main_0"; params = []; result = Some (Integer I32); locals = []; body = stmts (Return (Some (Cast (Choose (Truth true) (Literal (pos 1) I32) (Literal (pos 2) I64)) (Integer I32))) ∷ []) }) ∷ FunctionItem (record { attribute = Mangled; name = codes "run_static_initializers"; params = []; result = None; locals = []; body = stmts ([]) }) ∷ [] } ∷ []; entry = 0 }) ≡ Some (record { mod_number = 0; item_number = 0 })
unfolding known_table
choose_two_types = refl

choose_by_number : first_ill (record { modules = record { name = codes "a"; items = FunctionItem (record { attribute = Mangled; name = codes "main_0"; params = []; result = Some (Integer I32); locals = []; body = stmts (Return (Some (Choose (Literal (pos 1) I32) (Literal (pos 1) I32) (Literal (pos 2) I32))) ∷ []) }) ∷ FunctionItem (record { attribute = Mangled; name = codes "run_static_initializers"; params = []; result = None; locals = []; body = stmts ([]) }) ∷ [] } ∷ []; entry = 0 }) ≡ Some (record { mod_number = 0; item_number = 0 })
unfolding known_table
choose_by_number = refl

choose_none_first : first_ill (record { modules = record { name = codes "a"; items = FunctionItem (record { attribute = Mangled; name = codes "main_0"; params = []; result = Some (Integer I32); locals = record { name = codes "f"; ty = Code (tys ([])) (no_ty) } ∷ []; body = stmts (Return (Some (Cast (IsNone (Choose (Truth true) (NoFunction) (Read (Local (codes "f"))))) (Integer I32))) ∷ []) }) ∷ FunctionItem (record { attribute = Mangled; name = codes "run_static_initializers"; params = []; result = None; locals = []; body = stmts ([]) }) ∷ [] } ∷ []; entry = 0 }) ≡ None
unfolding known_table
choose_none_first = refl

choose_none_second : first_ill (record { modules = record { name = codes "a"; items = FunctionItem (record { attribute = Mangled; name = codes "main_0"; params = []; result = Some (Integer I32); locals = record { name = codes "f"; ty = Code (tys ([])) (no_ty) } ∷ []; body = stmts (Return (Some (Cast (IsNone (Choose (Truth true) (Read (Local (codes "f"))) (NoFunction))) (Integer I32))) ∷ []) }) ∷ FunctionItem (record { attribute = Mangled; name = codes "run_static_initializers"; params = []; result = None; locals = []; body = stmts ([]) }) ∷ [] } ∷ []; entry = 0 }) ≡ None
unfolding known_table
choose_none_second = refl

choose_records : first_ill (record { modules = record { name = codes "a"; items = RecordItem (record { align = None; is_union = false; name = codes "s"; fields = record { name = codes "c"; ty = Integer I8 } ∷ record { name = codes "n"; ty = Integer I32 } ∷ [] }) ∷ FunctionItem (record { attribute = Mangled; name = codes "main_0"; params = []; result = Some (Integer I32); locals = []; body = stmts (Return (Some (Read (Field (Local (codes "x")) (codes "n")))) ∷ []) }) ∷ FunctionItem (record { attribute = Mangled; name = codes "run_static_initializers"; params = []; result = None; locals = []; body = stmts ([]) }) ∷ [] } ∷ []; entry = 0 }) ≡ Some (record { mod_number = 0; item_number = 1 })
unfolding known_table
choose_records = refl

choose_two_nones : first_ill (record { modules = record { name = codes "a"; items = FunctionItem (record { attribute = Mangled; name = codes "main_0"; params = []; result = Some (Integer I32); locals = record { name = codes "f"; ty = Code (tys ([])) (no_ty) } ∷ []; body = stmts (Assign (Local (codes "f")) (Choose (Truth true) (NoFunction) (NoFunction)) ∷ Return (Some (Literal (pos 0) I32)) ∷ []) }) ∷ FunctionItem (record { attribute = Mangled; name = codes "run_static_initializers"; params = []; result = None; locals = []; body = stmts ([]) }) ∷ [] } ∷ []; entry = 0 }) ≡ None
unfolding known_table
choose_two_nones = refl

-- ---- places

store_array : first_ill (record { modules = record { name = codes "a"; items = FunctionItem (record { attribute = Mangled; name = codes "main_0"; params = []; result = Some (Integer I32); locals = record { name = codes "x"; ty = Array (Integer I32) 2 } ∷ record { name = codes "y"; ty = Array (Integer I32) 2 } ∷ []; body = stmts (Assign (Local (codes "x")) (Read (Local (codes "y"))) ∷ Return (Some (Literal (pos 0) I32)) ∷ []) }) ∷ FunctionItem (record { attribute = Mangled; name = codes "run_static_initializers"; params = []; result = None; locals = []; body = stmts ([]) }) ∷ [] } ∷ []; entry = 0 }) ≡ Some (record { mod_number = 0; item_number = 0 })
unfolding known_table
store_array = refl

read_array : first_ill (record { modules = record { name = codes "a"; items = FunctionItem (record { attribute = Mangled; name = codes "main_0"; params = []; result = Some (Integer I32); locals = record { name = codes "x"; ty = Array (Integer I32) 2 } ∷ []; body = stmts (Return (Some (Read (Local (codes "x")))) ∷ []) }) ∷ FunctionItem (record { attribute = Mangled; name = codes "run_static_initializers"; params = []; result = None; locals = []; body = stmts ([]) }) ∷ [] } ∷ []; entry = 0 }) ≡ Some (record { mod_number = 0; item_number = 0 })
unfolding known_table
read_array = refl

store_through : first_ill (record { modules = record { name = codes "a"; items = FunctionItem (record { attribute = Mangled; name = codes "main_0"; params = []; result = Some (Integer I32); locals = record { name = codes "p"; ty = Pointer (Integer I32) } ∷ []; body = stmts (Assign (Deref (Read (Local (codes "p")))) (Literal (pos 1) I32) ∷ Return (Some (Literal (pos 0) I32)) ∷ []) }) ∷ FunctionItem (record { attribute = Mangled; name = codes "run_static_initializers"; params = []; result = None; locals = []; body = stmts ([]) }) ∷ [] } ∷ []; entry = 0 }) ≡ None
unfolding known_table
store_through = refl

store_through_void : first_ill (record { modules = record { name = codes "a"; items = FunctionItem (record { attribute = Mangled; name = codes "main_0"; params = []; result = Some (Integer I32); locals = record { name = codes "p"; ty = Pointer (Void) } ∷ []; body = stmts (Assign (Deref (Read (Local (codes "p")))) (Literal (pos 1) I32) ∷ Return (Some (Literal (pos 0) I32)) ∷ []) }) ∷ FunctionItem (record { attribute = Mangled; name = codes "run_static_initializers"; params = []; result = None; locals = []; body = stmts ([]) }) ∷ [] } ∷ []; entry = 0 }) ≡ Some (record { mod_number = 0; item_number = 0 })
unfolding known_table
store_through_void = refl

store_through_another_type : first_ill (record { modules = record { name = codes "a"; items = FunctionItem (record { attribute = Mangled; name = codes "main_0"; params = []; result = Some (Integer I32); locals = record { name = codes "p"; ty = Pointer (Integer I32) } ∷ []; body = stmts (Assign (Deref (Read (Local (codes "p")))) (Literal (pos 1) U32) ∷ Return (Some (Literal (pos 0) I32)) ∷ []) }) ∷ FunctionItem (record { attribute = Mangled; name = codes "run_static_initializers"; params = []; result = None; locals = []; body = stmts ([]) }) ∷ [] } ∷ []; entry = 0 }) ≡ Some (record { mod_number = 0; item_number = 0 })
unfolding known_table
store_through_another_type = refl

field_of_pointer : first_ill (record { modules = record { name = codes "a"; items = RecordItem (record { align = None; is_union = false; name = codes "s"; fields = record { name = codes "c"; ty = Integer I8 } ∷ record { name = codes "n"; ty = Integer I32 } ∷ [] }) ∷ FunctionItem (record { attribute = Mangled; name = codes "main_0"; params = []; result = Some (Integer I32); locals = record { name = codes "p"; ty = Pointer (Record (codes "a") (codes "s")) } ∷ []; body = stmts (Return (Some (Read (Field (Local (codes "p")) (codes "n")))) ∷ []) }) ∷ FunctionItem (record { attribute = Mangled; name = codes "run_static_initializers"; params = []; result = None; locals = []; body = stmts ([]) }) ∷ [] } ∷ []; entry = 0 }) ≡ Some (record { mod_number = 0; item_number = 1 })
unfolding known_table
field_of_pointer = refl

field_through : first_ill (record { modules = record { name = codes "a"; items = RecordItem (record { align = None; is_union = false; name = codes "s"; fields = record { name = codes "c"; ty = Integer I8 } ∷ record { name = codes "n"; ty = Integer I32 } ∷ [] }) ∷ FunctionItem (record { attribute = Mangled; name = codes "main_0"; params = []; result = Some (Integer I32); locals = record { name = codes "p"; ty = Pointer (Record (codes "a") (codes "s")) } ∷ []; body = stmts (Return (Some (Read (Field (Deref (Read (Local (codes "p")))) (codes "n")))) ∷ []) }) ∷ FunctionItem (record { attribute = Mangled; name = codes "run_static_initializers"; params = []; result = None; locals = []; body = stmts ([]) }) ∷ [] } ∷ []; entry = 0 }) ≡ None
unfolding known_table
field_through = refl

field_of_void : first_ill (record { modules = record { name = codes "a"; items = RecordItem (record { align = None; is_union = false; name = codes "s"; fields = record { name = codes "c"; ty = Integer I8 } ∷ record { name = codes "n"; ty = Integer I32 } ∷ [] }) ∷ FunctionItem (record { attribute = Mangled; name = codes "main_0"; params = []; result = Some (Integer I32); locals = record { name = codes "p"; ty = Pointer (Void) } ∷ []; body = stmts (Return (Some (Read (Field (Deref (Read (Local (codes "p")))) (codes "n")))) ∷ []) }) ∷ FunctionItem (record { attribute = Mangled; name = codes "run_static_initializers"; params = []; result = None; locals = []; body = stmts ([]) }) ∷ [] } ∷ []; entry = 0 }) ≡ Some (record { mod_number = 0; item_number = 1 })
unfolding known_table
field_of_void = refl

field_of_another_type : first_ill (record { modules = record { name = codes "a"; items = RecordItem (record { align = None; is_union = false; name = codes "s"; fields = record { name = codes "c"; ty = Integer I8 } ∷ record { name = codes "n"; ty = Integer I32 } ∷ [] }) ∷ FunctionItem (record { attribute = Mangled; name = codes "main_0"; params = []; result = Some (Integer I32); locals = record { name = codes "x"; ty = Record (codes "a") (codes "s") } ∷ []; body = stmts (Return (Some (Read (Field (Local (codes "x")) (codes "c")))) ∷ []) }) ∷ FunctionItem (record { attribute = Mangled; name = codes "run_static_initializers"; params = []; result = None; locals = []; body = stmts ([]) }) ∷ [] } ∷ []; entry = 0 }) ≡ Some (record { mod_number = 0; item_number = 1 })
unfolding known_table
field_of_another_type = refl

field_of_another_record : first_ill (record { modules = record { name = codes "a"; items = RecordItem (record { align = None; is_union = false; name = codes "s"; fields = record { name = codes "c"; ty = Integer I8 } ∷ record { name = codes "n"; ty = Integer I32 } ∷ [] }) ∷ RecordItem (record { align = None; is_union = false; name = codes "t"; fields = record { name = codes "z"; ty = Integer I32 } ∷ [] }) ∷ FunctionItem (record { attribute = Mangled; name = codes "main_0"; params = []; result = Some (Integer I32); locals = record { name = codes "x"; ty = Record (codes "a") (codes "s") } ∷ []; body = stmts (Return (Some (Read (Field (Local (codes "x")) (codes "z")))) ∷ []) }) ∷ FunctionItem (record { attribute = Mangled; name = codes "run_static_initializers"; params = []; result = None; locals = []; body = stmts ([]) }) ∷ [] } ∷ []; entry = 0 }) ≡ Some (record { mod_number = 0; item_number = 2 })
unfolding known_table
field_of_another_record = refl

field_of_field : first_ill (record { modules = record { name = codes "a"; items = RecordItem (record { align = None; is_union = false; name = codes "s"; fields = record { name = codes "c"; ty = Integer I8 } ∷ record { name = codes "n"; ty = Integer I32 } ∷ [] }) ∷ RecordItem (record { align = None; is_union = false; name = codes "o"; fields = record { name = codes "s"; ty = Record (codes "a") (codes "s") } ∷ [] }) ∷ FunctionItem (record { attribute = Mangled; name = codes "main_0"; params = []; result = Some (Integer I32); locals = record { name = codes "x"; ty = Record (codes "a") (codes "o") } ∷ []; body = stmts (Return (Some (Read (Field (Field (Local (codes "x")) (codes "s")) (codes "n")))) ∷ []) }) ∷ FunctionItem (record { attribute = Mangled; name = codes "run_static_initializers"; params = []; result = None; locals = []; body = stmts ([]) }) ∷ [] } ∷ []; entry = 0 }) ≡ None
unfolding known_table
field_of_field = refl

store_pointer_to_another_record : first_ill (record { modules = record { name = codes "a"; items = RecordItem (record { align = None; is_union = false; name = codes "s"; fields = record { name = codes "c"; ty = Integer I8 } ∷ record { name = codes "n"; ty = Integer I32 } ∷ [] }) ∷ RecordItem (record { align = None; is_union = false; name = codes "t"; fields = record { name = codes "c"; ty = Integer I8 } ∷ record { name = codes "n"; ty = Integer I32 } ∷ [] }) ∷ FunctionItem (record { attribute = Mangled; name = codes "main_0"; params = []; result = Some (Integer I32); locals = record { name = codes "p"; ty = Pointer (Record (codes "a") (codes "s")) } ∷ record { name = codes "q"; ty = Pointer (Record (codes "a") (codes "t")) } ∷ []; body = stmts (Assign (Local (codes "p")) (Read (Local (codes "q"))) ∷ Return (Some (Literal (pos 0) I32)) ∷ []) }) ∷ FunctionItem (record { attribute = Mangled; name = codes "run_static_initializers"; params = []; result = None; locals = []; body = stmts ([]) }) ∷ [] } ∷ []; entry = 0 }) ≡ Some (record { mod_number = 0; item_number = 2 })
unfolding known_table
store_pointer_to_another_record = refl

store_pointer_to_a_record : first_ill (record { modules = record { name = codes "a"; items = RecordItem (record { align = None; is_union = false; name = codes "s"; fields = record { name = codes "c"; ty = Integer I8 } ∷ record { name = codes "n"; ty = Integer I32 } ∷ [] }) ∷ RecordItem (record { align = None; is_union = false; name = codes "t"; fields = record { name = codes "c"; ty = Integer I8 } ∷ record { name = codes "n"; ty = Integer I32 } ∷ [] }) ∷ FunctionItem (record { attribute = Mangled; name = codes "main_0"; params = []; result = Some (Integer I32); locals = record { name = codes "p"; ty = Pointer (Record (codes "a") (codes "s")) } ∷ record { name = codes "q"; ty = Pointer (Record (codes "a") (codes "s")) } ∷ []; body = stmts (Assign (Local (codes "p")) (Read (Local (codes "q"))) ∷ Return (Some (Literal (pos 0) I32)) ∷ []) }) ∷ FunctionItem (record { attribute = Mangled; name = codes "run_static_initializers"; params = []; result = None; locals = []; body = stmts ([]) }) ∷ [] } ∷ []; entry = 0 }) ≡ None
unfolding known_table
store_pointer_to_a_record = refl

store_pointer_to_another_length : first_ill (record { modules = record { name = codes "a"; items = FunctionItem (record { attribute = Mangled; name = codes "main_0"; params = []; result = Some (Integer I32); locals = record { name = codes "p"; ty = Pointer (Array (Integer I32) 2) } ∷ record { name = codes "q"; ty = Pointer (Array (Integer I32) 3) } ∷ []; body = stmts (Assign (Local (codes "p")) (Read (Local (codes "q"))) ∷ Return (Some (Literal (pos 0) I32)) ∷ []) }) ∷ FunctionItem (record { attribute = Mangled; name = codes "run_static_initializers"; params = []; result = None; locals = []; body = stmts ([]) }) ∷ [] } ∷ []; entry = 0 }) ≡ Some (record { mod_number = 0; item_number = 0 })
unfolding known_table
store_pointer_to_another_length = refl

-- the length is of the type, so neither a longer array nor a shorter one is of it ("Array types")
store_pointer_to_a_shorter_array : first_ill (record { modules = record { name = codes "a"; items = FunctionItem (record { attribute = Mangled; name = codes "main_0"; params = []; result = Some (Integer I32); locals = record { name = codes "p"; ty = Pointer (Array (Integer I32) 3) } ∷ record { name = codes "q"; ty = Pointer (Array (Integer I32) 2) } ∷ []; body = stmts (Assign (Local (codes "p")) (Read (Local (codes "q"))) ∷ Return (Some (Literal (pos 0) I32)) ∷ []) }) ∷ FunctionItem (record { attribute = Mangled; name = codes "run_static_initializers"; params = []; result = None; locals = []; body = stmts ([]) }) ∷ [] } ∷ []; entry = 0 }) ≡ Some (record { mod_number = 0; item_number = 0 })
unfolding known_table
store_pointer_to_a_shorter_array = refl

store_pointer_to_an_array : first_ill (record { modules = record { name = codes "a"; items = FunctionItem (record { attribute = Mangled; name = codes "main_0"; params = []; result = Some (Integer I32); locals = record { name = codes "p"; ty = Pointer (Array (Integer I32) 2) } ∷ record { name = codes "q"; ty = Pointer (Array (Integer I32) 2) } ∷ []; body = stmts (Assign (Local (codes "p")) (Read (Local (codes "q"))) ∷ Return (Some (Literal (pos 0) I32)) ∷ []) }) ∷ FunctionItem (record { attribute = Mangled; name = codes "run_static_initializers"; params = []; result = None; locals = []; body = stmts ([]) }) ∷ [] } ∷ []; entry = 0 }) ≡ None
unfolding known_table
store_pointer_to_an_array = refl

store_pointer_to_other_elements : first_ill (record { modules = record { name = codes "a"; items = FunctionItem (record { attribute = Mangled; name = codes "main_0"; params = []; result = Some (Integer I32); locals = record { name = codes "p"; ty = Pointer (Array (Integer I32) 2) } ∷ record { name = codes "q"; ty = Pointer (Array (Integer U32) 2) } ∷ []; body = stmts (Assign (Local (codes "p")) (Read (Local (codes "q"))) ∷ Return (Some (Literal (pos 0) I32)) ∷ []) }) ∷ FunctionItem (record { attribute = Mangled; name = codes "run_static_initializers"; params = []; result = None; locals = []; body = stmts ([]) }) ∷ [] } ∷ []; entry = 0 }) ≡ Some (record { mod_number = 0; item_number = 0 })
unfolding known_table
store_pointer_to_other_elements = refl

store_pointer_to_void : first_ill (record { modules = record { name = codes "a"; items = FunctionItem (record { attribute = Mangled; name = codes "main_0"; params = []; result = Some (Integer I32); locals = record { name = codes "p"; ty = Pointer (Void) } ∷ record { name = codes "q"; ty = Pointer (Integer I32) } ∷ []; body = stmts (Assign (Local (codes "p")) (Read (Local (codes "q"))) ∷ Return (Some (Literal (pos 0) I32)) ∷ []) }) ∷ FunctionItem (record { attribute = Mangled; name = codes "run_static_initializers"; params = []; result = None; locals = []; body = stmts ([]) }) ∷ [] } ∷ []; entry = 0 }) ≡ Some (record { mod_number = 0; item_number = 0 })
unfolding known_table
store_pointer_to_void = refl

store_isize_in_i64 : first_ill (record { modules = record { name = codes "a"; items = FunctionItem (record { attribute = Mangled; name = codes "main_0"; params = []; result = Some (Integer I32); locals = record { name = codes "p"; ty = Integer I64 } ∷ record { name = codes "q"; ty = Integer Isize } ∷ []; body = stmts (Assign (Local (codes "p")) (Read (Local (codes "q"))) ∷ Return (Some (Literal (pos 0) I32)) ∷ []) }) ∷ FunctionItem (record { attribute = Mangled; name = codes "run_static_initializers"; params = []; result = None; locals = []; body = stmts ([]) }) ∷ [] } ∷ []; entry = 0 }) ≡ Some (record { mod_number = 0; item_number = 0 })
unfolding known_table
store_isize_in_i64 = refl

store_usize_in_u64 : first_ill (record { modules = record { name = codes "a"; items = FunctionItem (record { attribute = Mangled; name = codes "main_0"; params = []; result = Some (Integer I32); locals = record { name = codes "p"; ty = Integer U64 } ∷ record { name = codes "q"; ty = Integer Usize } ∷ []; body = stmts (Assign (Local (codes "p")) (Read (Local (codes "q"))) ∷ Return (Some (Literal (pos 0) I32)) ∷ []) }) ∷ FunctionItem (record { attribute = Mangled; name = codes "run_static_initializers"; params = []; result = None; locals = []; body = stmts ([]) }) ∷ [] } ∷ []; entry = 0 }) ≡ Some (record { mod_number = 0; item_number = 0 })
unfolding known_table
store_usize_in_u64 = refl

store_truth_in_number : first_ill (record { modules = record { name = codes "a"; items = FunctionItem (record { attribute = Mangled; name = codes "main_0"; params = []; result = Some (Integer I32); locals = record { name = codes "p"; ty = Integer U8 } ∷ record { name = codes "q"; ty = Boolean } ∷ []; body = stmts (Assign (Local (codes "p")) (Read (Local (codes "q"))) ∷ Return (Some (Literal (pos 0) I32)) ∷ []) }) ∷ FunctionItem (record { attribute = Mangled; name = codes "run_static_initializers"; params = []; result = None; locals = []; body = stmts ([]) }) ∷ [] } ∷ []; entry = 0 }) ≡ Some (record { mod_number = 0; item_number = 0 })
unfolding known_table
store_truth_in_number = refl

store_function_of_more : first_ill (record { modules = record { name = codes "a"; items = FunctionItem (record { attribute = Mangled; name = codes "main_0"; params = []; result = Some (Integer I32); locals = record { name = codes "p"; ty = Code (tys (Integer I32 ∷ [])) (no_ty) } ∷ record { name = codes "q"; ty = Code (tys (Integer I32 ∷ Integer I32 ∷ [])) (no_ty) } ∷ []; body = stmts (Assign (Local (codes "p")) (Read (Local (codes "q"))) ∷ Return (Some (Literal (pos 0) I32)) ∷ []) }) ∷ FunctionItem (record { attribute = Mangled; name = codes "run_static_initializers"; params = []; result = None; locals = []; body = stmts ([]) }) ∷ [] } ∷ []; entry = 0 }) ≡ Some (record { mod_number = 0; item_number = 0 })
unfolding known_table
store_function_of_more = refl

store_function_of_less : first_ill (record { modules = record { name = codes "a"; items = FunctionItem (record { attribute = Mangled; name = codes "main_0"; params = []; result = Some (Integer I32); locals = record { name = codes "p"; ty = Code (tys (Integer I32 ∷ Integer I32 ∷ [])) (no_ty) } ∷ record { name = codes "q"; ty = Code (tys (Integer I32 ∷ [])) (no_ty) } ∷ []; body = stmts (Assign (Local (codes "p")) (Read (Local (codes "q"))) ∷ Return (Some (Literal (pos 0) I32)) ∷ []) }) ∷ FunctionItem (record { attribute = Mangled; name = codes "run_static_initializers"; params = []; result = None; locals = []; body = stmts ([]) }) ∷ [] } ∷ []; entry = 0 }) ≡ Some (record { mod_number = 0; item_number = 0 })
unfolding known_table
store_function_of_less = refl

store_function_of_another_parameter : first_ill (record { modules = record { name = codes "a"; items = FunctionItem (record { attribute = Mangled; name = codes "main_0"; params = []; result = Some (Integer I32); locals = record { name = codes "p"; ty = Code (tys (Integer I32 ∷ [])) (no_ty) } ∷ record { name = codes "q"; ty = Code (tys (Integer U32 ∷ [])) (no_ty) } ∷ []; body = stmts (Assign (Local (codes "p")) (Read (Local (codes "q"))) ∷ Return (Some (Literal (pos 0) I32)) ∷ []) }) ∷ FunctionItem (record { attribute = Mangled; name = codes "run_static_initializers"; params = []; result = None; locals = []; body = stmts ([]) }) ∷ [] } ∷ []; entry = 0 }) ≡ Some (record { mod_number = 0; item_number = 0 })
unfolding known_table
store_function_of_another_parameter = refl

store_function_of_another_result : first_ill (record { modules = record { name = codes "a"; items = FunctionItem (record { attribute = Mangled; name = codes "main_0"; params = []; result = Some (Integer I32); locals = record { name = codes "p"; ty = Code (tys ([])) (some_ty (Integer I32)) } ∷ record { name = codes "q"; ty = Code (tys ([])) (some_ty (Integer U32)) } ∷ []; body = stmts (Assign (Local (codes "p")) (Read (Local (codes "q"))) ∷ Return (Some (Literal (pos 0) I32)) ∷ []) }) ∷ FunctionItem (record { attribute = Mangled; name = codes "run_static_initializers"; params = []; result = None; locals = []; body = stmts ([]) }) ∷ [] } ∷ []; entry = 0 }) ≡ Some (record { mod_number = 0; item_number = 0 })
unfolding known_table
store_function_of_another_result = refl

store_function_of_a_result : first_ill (record { modules = record { name = codes "a"; items = FunctionItem (record { attribute = Mangled; name = codes "main_0"; params = []; result = Some (Integer I32); locals = record { name = codes "p"; ty = Code (tys ([])) (no_ty) } ∷ record { name = codes "q"; ty = Code (tys ([])) (some_ty (Integer I32)) } ∷ []; body = stmts (Assign (Local (codes "p")) (Read (Local (codes "q"))) ∷ Return (Some (Literal (pos 0) I32)) ∷ []) }) ∷ FunctionItem (record { attribute = Mangled; name = codes "run_static_initializers"; params = []; result = None; locals = []; body = stmts ([]) }) ∷ [] } ∷ []; entry = 0 }) ≡ Some (record { mod_number = 0; item_number = 0 })
unfolding known_table
store_function_of_a_result = refl

store_function_without_result : first_ill (record { modules = record { name = codes "a"; items = FunctionItem (record { attribute = Mangled; name = codes "main_0"; params = []; result = Some (Integer I32); locals = record { name = codes "p"; ty = Code (tys ([])) (some_ty (Integer I32)) } ∷ record { name = codes "q"; ty = Code (tys ([])) (no_ty) } ∷ []; body = stmts (Assign (Local (codes "p")) (Read (Local (codes "q"))) ∷ Return (Some (Literal (pos 0) I32)) ∷ []) }) ∷ FunctionItem (record { attribute = Mangled; name = codes "run_static_initializers"; params = []; result = None; locals = []; body = stmts ([]) }) ∷ [] } ∷ []; entry = 0 }) ≡ Some (record { mod_number = 0; item_number = 0 })
unfolding known_table
store_function_without_result = refl

store_function : first_ill (record { modules = record { name = codes "a"; items = FunctionItem (record { attribute = Mangled; name = codes "main_0"; params = []; result = Some (Integer I32); locals = record { name = codes "p"; ty = Code (tys (Integer I32 ∷ [])) (some_ty (Integer I32)) } ∷ record { name = codes "q"; ty = Code (tys (Integer I32 ∷ [])) (some_ty (Integer I32)) } ∷ []; body = stmts (Assign (Local (codes "p")) (Read (Local (codes "q"))) ∷ Return (Some (Literal (pos 0) I32)) ∷ []) }) ∷ FunctionItem (record { attribute = Mangled; name = codes "run_static_initializers"; params = []; result = None; locals = []; body = stmts ([]) }) ∷ [] } ∷ []; entry = 0 }) ≡ None
unfolding known_table
store_function = refl

store_pointer_to_record_of_module : first_ill (record { modules = record { name = codes "a"; items = RecordItem (record { align = None; is_union = false; name = codes "s"; fields = record { name = codes "c"; ty = Integer I8 } ∷ record { name = codes "n"; ty = Integer I32 } ∷ [] }) ∷ FunctionItem (record { attribute = Mangled; name = codes "main_0"; params = []; result = Some (Integer I32); locals = record { name = codes "p"; ty = Pointer (Record (codes "a") (codes "s")) } ∷ record { name = codes "q"; ty = Pointer (Record (codes "b") (codes "s")) } ∷ []; body = stmts (Assign (Local (codes "p")) (Read (Local (codes "q"))) ∷ Return (Some (Literal (pos 0) I32)) ∷ []) }) ∷ FunctionItem (record { attribute = Mangled; name = codes "run_static_initializers"; params = []; result = None; locals = []; body = stmts ([]) }) ∷ [] } ∷ record { name = codes "b"; items = RecordItem (record { align = None; is_union = false; name = codes "s"; fields = record { name = codes "c"; ty = Integer I8 } ∷ record { name = codes "n"; ty = Integer I32 } ∷ [] }) ∷ FunctionItem (record { attribute = Mangled; name = codes "run_static_initializers"; params = []; result = None; locals = []; body = stmts ([]) }) ∷ [] } ∷ []; entry = 0 }) ≡ Some (record { mod_number = 0; item_number = 1 })
unfolding known_table
store_pointer_to_record_of_module = refl

-- ---- calls

call_by_pointer : first_ill (record { modules = record { name = codes "a"; items = FunctionItem (record { attribute = Mangled; name = codes "main_0"; params = []; result = Some (Integer I32); locals = record { name = codes "p"; ty = Pointer (Integer I32) } ∷ record { name = codes "f"; ty = Code (tys (Integer I32 ∷ Pointer (Integer I32) ∷ [])) (some_ty (Integer I64)) } ∷ []; body = stmts (Return (Some (Cast (Binary (CallBy (Read (Local (codes "f"))) (exprs (Literal (pos 1) I32 ∷ Read (Local (codes "p")) ∷ []))) Equal (Literal (pos 1) I64)) (Integer I32))) ∷ []) }) ∷ FunctionItem (record { attribute = Mangled; name = codes "run_static_initializers"; params = []; result = None; locals = []; body = stmts ([]) }) ∷ [] } ∷ []; entry = 0 }) ≡ None
unfolding known_table
call_by_pointer = refl

call_by_pointer_too_few : first_ill (record { modules = record { name = codes "a"; items = FunctionItem (record { attribute = Mangled; name = codes "main_0"; params = []; result = Some (Integer I32); locals = record { name = codes "p"; ty = Pointer (Integer I32) } ∷ record { name = codes "f"; ty = Code (tys (Integer I32 ∷ Pointer (Integer I32) ∷ [])) (some_ty (Integer I64)) } ∷ []; body = stmts (Return (Some (Cast (CallBy (Read (Local (codes "f"))) (exprs (Literal (pos 1) I32 ∷ []))) (Integer I32))) ∷ []) }) ∷ FunctionItem (record { attribute = Mangled; name = codes "run_static_initializers"; params = []; result = None; locals = []; body = stmts ([]) }) ∷ [] } ∷ []; entry = 0 }) ≡ Some (record { mod_number = 0; item_number = 0 })
unfolding known_table
call_by_pointer_too_few = refl

call_by_pointer_too_many : first_ill (record { modules = record { name = codes "a"; items = FunctionItem (record { attribute = Mangled; name = codes "main_0"; params = []; result = Some (Integer I32); locals = record { name = codes "p"; ty = Pointer (Integer I32) } ∷ record { name = codes "f"; ty = Code (tys (Integer I32 ∷ Pointer (Integer I32) ∷ [])) (some_ty (Integer I64)) } ∷ []; body = stmts (Return (Some (Cast (CallBy (Read (Local (codes "f"))) (exprs (Literal (pos 1) I32 ∷ Read (Local (codes "p")) ∷ Read (Local (codes "p")) ∷ []))) (Integer I32))) ∷ []) }) ∷ FunctionItem (record { attribute = Mangled; name = codes "run_static_initializers"; params = []; result = None; locals = []; body = stmts ([]) }) ∷ [] } ∷ []; entry = 0 }) ≡ Some (record { mod_number = 0; item_number = 0 })
unfolding known_table
call_by_pointer_too_many = refl

call_by_pointer_of_another_type : first_ill (record { modules = record { name = codes "a"; items = FunctionItem (record { attribute = Mangled; name = codes "main_0"; params = []; result = Some (Integer I32); locals = record { name = codes "p"; ty = Pointer (Integer I32) } ∷ record { name = codes "f"; ty = Code (tys (Integer I32 ∷ Pointer (Integer I32) ∷ [])) (some_ty (Integer I64)) } ∷ []; body = stmts (Return (Some (Cast (CallBy (Read (Local (codes "f"))) (exprs (Read (Local (codes "p")) ∷ Literal (pos 1) I32 ∷ []))) (Integer I32))) ∷ []) }) ∷ FunctionItem (record { attribute = Mangled; name = codes "run_static_initializers"; params = []; result = None; locals = []; body = stmts ([]) }) ∷ [] } ∷ []; entry = 0 }) ≡ Some (record { mod_number = 0; item_number = 0 })
unfolding known_table
call_by_pointer_of_another_type = refl

call_by_pointer_of_another_result : first_ill (record { modules = record { name = codes "a"; items = FunctionItem (record { attribute = Mangled; name = codes "main_0"; params = []; result = Some (Integer I32); locals = record { name = codes "p"; ty = Pointer (Integer I32) } ∷ record { name = codes "f"; ty = Code (tys (Integer I32 ∷ Pointer (Integer I32) ∷ [])) (some_ty (Integer I64)) } ∷ []; body = stmts (Return (Some (CallBy (Read (Local (codes "f"))) (exprs (Literal (pos 1) I32 ∷ Read (Local (codes "p")) ∷ [])))) ∷ []) }) ∷ FunctionItem (record { attribute = Mangled; name = codes "run_static_initializers"; params = []; result = None; locals = []; body = stmts ([]) }) ∷ [] } ∷ []; entry = 0 }) ≡ Some (record { mod_number = 0; item_number = 0 })
unfolding known_table
call_by_pointer_of_another_result = refl

call_by_none : first_ill (record { modules = record { name = codes "a"; items = FunctionItem (record { attribute = Mangled; name = codes "main_0"; params = []; result = Some (Integer I32); locals = []; body = stmts (Return (Some (CallBy (NoFunction) (exprs ([])))) ∷ []) }) ∷ FunctionItem (record { attribute = Mangled; name = codes "run_static_initializers"; params = []; result = None; locals = []; body = stmts ([]) }) ∷ [] } ∷ []; entry = 0 }) ≡ Some (record { mod_number = 0; item_number = 0 })
unfolding known_table
call_by_none = refl

call_without_result_used : first_ill (record { modules = record { name = codes "a"; items = FunctionItem (record { attribute = Mangled; name = codes "main_0"; params = []; result = Some (Integer I32); locals = record { name = codes "f"; ty = Code (tys ([])) (no_ty) } ∷ []; body = stmts (Return (Some (Cast (CallBy (Read (Local (codes "f"))) (exprs ([]))) (Integer I32))) ∷ []) }) ∷ FunctionItem (record { attribute = Mangled; name = codes "run_static_initializers"; params = []; result = None; locals = []; body = stmts ([]) }) ∷ [] } ∷ []; entry = 0 }) ≡ Some (record { mod_number = 0; item_number = 0 })
unfolding known_table
call_without_result_used = refl

function_without_result_used : first_ill (record { modules = record { name = codes "a"; items = FunctionItem (record { attribute = Mangled; name = codes "g"; params = []; result = None; locals = []; body = stmts ([]) }) ∷ FunctionItem (record { attribute = Mangled; name = codes "main_0"; params = []; result = Some (Integer I32); locals = []; body = stmts (Return (Some (Calls (codes "a") (codes "g") (exprs ([])))) ∷ []) }) ∷ FunctionItem (record { attribute = Mangled; name = codes "run_static_initializers"; params = []; result = None; locals = []; body = stmts ([]) }) ∷ [] } ∷ []; entry = 0 }) ≡ Some (record { mod_number = 0; item_number = 1 })
unfolding known_table
function_without_result_used = refl

call_by_pointer_dropped : first_ill (record { modules = record { name = codes "a"; items = FunctionItem (record { attribute = Mangled; name = codes "main_0"; params = []; result = Some (Integer I32); locals = record { name = codes "p"; ty = Pointer (Integer I32) } ∷ record { name = codes "f"; ty = Code (tys (Integer I32 ∷ Pointer (Integer I32) ∷ [])) (some_ty (Integer I64)) } ∷ []; body = stmts (Eval (CallBy (Read (Local (codes "f"))) (exprs (Literal (pos 1) I32 ∷ Read (Local (codes "p")) ∷ []))) ∷ Return (Some (Literal (pos 0) I32)) ∷ []) }) ∷ FunctionItem (record { attribute = Mangled; name = codes "run_static_initializers"; params = []; result = None; locals = []; body = stmts ([]) }) ∷ [] } ∷ []; entry = 0 }) ≡ None
unfolding known_table
call_by_pointer_dropped = refl

call_by_pointer_dropped_too_few : first_ill (record { modules = record { name = codes "a"; items = FunctionItem (record { attribute = Mangled; name = codes "main_0"; params = []; result = Some (Integer I32); locals = record { name = codes "p"; ty = Pointer (Integer I32) } ∷ record { name = codes "f"; ty = Code (tys (Integer I32 ∷ Pointer (Integer I32) ∷ [])) (some_ty (Integer I64)) } ∷ []; body = stmts (Eval (CallBy (Read (Local (codes "f"))) (exprs ([]))) ∷ Return (Some (Literal (pos 0) I32)) ∷ []) }) ∷ FunctionItem (record { attribute = Mangled; name = codes "run_static_initializers"; params = []; result = None; locals = []; body = stmts ([]) }) ∷ [] } ∷ []; entry = 0 }) ≡ Some (record { mod_number = 0; item_number = 0 })
unfolding known_table
call_by_pointer_dropped_too_few = refl

call_dropped : first_ill (record { modules = record { name = codes "a"; items = FunctionItem (record { attribute = Mangled; name = codes "sub"; params = record { name = codes "a"; ty = Integer I32 } ∷ record { name = codes "b"; ty = Pointer (Integer I32) } ∷ []; result = Some (Integer I64); locals = []; body = stmts (Return (Some (Literal (pos 0) I64)) ∷ []) }) ∷ FunctionItem (record { attribute = Mangled; name = codes "main_0"; params = []; result = Some (Integer I32); locals = record { name = codes "p"; ty = Pointer (Integer I32) } ∷ []; body = stmts (Eval (Calls (codes "a") (codes "sub") (exprs (Literal (pos 1) I32 ∷ Read (Local (codes "p")) ∷ []))) ∷ Return (Some (Literal (pos 0) I32)) ∷ []) }) ∷ FunctionItem (record { attribute = Mangled; name = codes "run_static_initializers"; params = []; result = None; locals = []; body = stmts ([]) }) ∷ [] } ∷ []; entry = 0 }) ≡ None
unfolding known_table
call_dropped = refl

call_dropped_of_another_type : first_ill (record { modules = record { name = codes "a"; items = FunctionItem (record { attribute = Mangled; name = codes "sub"; params = record { name = codes "a"; ty = Integer I32 } ∷ record { name = codes "b"; ty = Pointer (Integer I32) } ∷ []; result = Some (Integer I64); locals = []; body = stmts (Return (Some (Literal (pos 0) I64)) ∷ []) }) ∷ FunctionItem (record { attribute = Mangled; name = codes "main_0"; params = []; result = Some (Integer I32); locals = record { name = codes "p"; ty = Pointer (Integer I32) } ∷ []; body = stmts (Eval (Calls (codes "a") (codes "sub") (exprs (Read (Local (codes "p")) ∷ Literal (pos 1) I32 ∷ []))) ∷ Return (Some (Literal (pos 0) I32)) ∷ []) }) ∷ FunctionItem (record { attribute = Mangled; name = codes "run_static_initializers"; params = []; result = None; locals = []; body = stmts ([]) }) ∷ [] } ∷ []; entry = 0 }) ≡ Some (record { mod_number = 0; item_number = 1 })
unfolding known_table
call_dropped_of_another_type = refl

none_argument : first_ill (record { modules = record { name = codes "a"; items = FunctionItem (record { attribute = Mangled; name = codes "f"; params = record { name = codes "g"; ty = Code (tys ([])) (no_ty) } ∷ []; result = Some (Integer I32); locals = []; body = stmts (Return (Some (Literal (pos 0) I32)) ∷ []) }) ∷ FunctionItem (record { attribute = Mangled; name = codes "main_0"; params = []; result = Some (Integer I32); locals = []; body = stmts (Return (Some (Calls (codes "a") (codes "f") (exprs (NoFunction ∷ [])))) ∷ []) }) ∷ FunctionItem (record { attribute = Mangled; name = codes "run_static_initializers"; params = []; result = None; locals = []; body = stmts ([]) }) ∷ [] } ∷ []; entry = 0 }) ≡ None
unfolding known_table
none_argument = refl

trailing_i32 : first_ill (record { modules = record { name = codes "a"; items = ExternItem (record { link_name = None; name = codes "printf"; params = Pointer (Integer I8) ∷ []; variadic = true; result = Some (Integer I32) } ∷ []) ∷ FunctionItem (record { attribute = Mangled; name = codes "main_0"; params = []; result = Some (Integer I32); locals = []; body = stmts (Return (Some (Calls (codes "a") (codes "printf") (exprs (NullPointer (Integer I8) ∷ Literal (pos 1) I32 ∷ Literal (pos 1) I32 ∷ [])))) ∷ []) }) ∷ FunctionItem (record { attribute = Mangled; name = codes "run_static_initializers"; params = []; result = None; locals = []; body = stmts ([]) }) ∷ [] } ∷ []; entry = 0 }) ≡ None
unfolding known_table
trailing_i32 = refl

trailing_u32 : first_ill (record { modules = record { name = codes "a"; items = ExternItem (record { link_name = None; name = codes "printf"; params = Pointer (Integer I8) ∷ []; variadic = true; result = Some (Integer I32) } ∷ []) ∷ FunctionItem (record { attribute = Mangled; name = codes "main_0"; params = []; result = Some (Integer I32); locals = []; body = stmts (Return (Some (Calls (codes "a") (codes "printf") (exprs (NullPointer (Integer I8) ∷ Literal (pos 1) I32 ∷ Literal (pos 1) U32 ∷ [])))) ∷ []) }) ∷ FunctionItem (record { attribute = Mangled; name = codes "run_static_initializers"; params = []; result = None; locals = []; body = stmts ([]) }) ∷ [] } ∷ []; entry = 0 }) ≡ None
unfolding known_table
trailing_u32 = refl

trailing_i64 : first_ill (record { modules = record { name = codes "a"; items = ExternItem (record { link_name = None; name = codes "printf"; params = Pointer (Integer I8) ∷ []; variadic = true; result = Some (Integer I32) } ∷ []) ∷ FunctionItem (record { attribute = Mangled; name = codes "main_0"; params = []; result = Some (Integer I32); locals = []; body = stmts (Return (Some (Calls (codes "a") (codes "printf") (exprs (NullPointer (Integer I8) ∷ Literal (pos 1) I32 ∷ Literal (pos 1) I64 ∷ [])))) ∷ []) }) ∷ FunctionItem (record { attribute = Mangled; name = codes "run_static_initializers"; params = []; result = None; locals = []; body = stmts ([]) }) ∷ [] } ∷ []; entry = 0 }) ≡ None
unfolding known_table
trailing_i64 = refl

trailing_u64 : first_ill (record { modules = record { name = codes "a"; items = ExternItem (record { link_name = None; name = codes "printf"; params = Pointer (Integer I8) ∷ []; variadic = true; result = Some (Integer I32) } ∷ []) ∷ FunctionItem (record { attribute = Mangled; name = codes "main_0"; params = []; result = Some (Integer I32); locals = []; body = stmts (Return (Some (Calls (codes "a") (codes "printf") (exprs (NullPointer (Integer I8) ∷ Literal (pos 1) I32 ∷ Literal (pos 1) U64 ∷ [])))) ∷ []) }) ∷ FunctionItem (record { attribute = Mangled; name = codes "run_static_initializers"; params = []; result = None; locals = []; body = stmts ([]) }) ∷ [] } ∷ []; entry = 0 }) ≡ None
unfolding known_table
trailing_u64 = refl

trailing_text : first_ill (record { modules = record { name = codes "a"; items = ExternItem (record { link_name = None; name = codes "printf"; params = Pointer (Integer I8) ∷ []; variadic = true; result = Some (Integer I32) } ∷ []) ∷ FunctionItem (record { attribute = Mangled; name = codes "main_0"; params = []; result = Some (Integer I32); locals = []; body = stmts (Return (Some (Calls (codes "a") (codes "printf") (exprs (NullPointer (Integer I8) ∷ Literal (pos 1) I32 ∷ NullPointer (Integer I8) ∷ [])))) ∷ []) }) ∷ FunctionItem (record { attribute = Mangled; name = codes "run_static_initializers"; params = []; result = None; locals = []; body = stmts ([]) }) ∷ [] } ∷ []; entry = 0 }) ≡ None
unfolding known_table
trailing_text = refl

trailing_bytes : first_ill (record { modules = record { name = codes "a"; items = ExternItem (record { link_name = None; name = codes "printf"; params = Pointer (Integer I8) ∷ []; variadic = true; result = Some (Integer I32) } ∷ []) ∷ FunctionItem (record { attribute = Mangled; name = codes "main_0"; params = []; result = Some (Integer I32); locals = []; body = stmts (Return (Some (Calls (codes "a") (codes "printf") (exprs (NullPointer (Integer I8) ∷ Literal (pos 1) I32 ∷ NullPointer (Integer U8) ∷ [])))) ∷ []) }) ∷ FunctionItem (record { attribute = Mangled; name = codes "run_static_initializers"; params = []; result = None; locals = []; body = stmts ([]) }) ∷ [] } ∷ []; entry = 0 }) ≡ None
unfolding known_table
trailing_bytes = refl

no_trailing_u8 : first_ill (record { modules = record { name = codes "a"; items = ExternItem (record { link_name = None; name = codes "printf"; params = Pointer (Integer I8) ∷ []; variadic = true; result = Some (Integer I32) } ∷ []) ∷ FunctionItem (record { attribute = Mangled; name = codes "main_0"; params = []; result = Some (Integer I32); locals = []; body = stmts (Return (Some (Calls (codes "a") (codes "printf") (exprs (NullPointer (Integer I8) ∷ Literal (pos 1) I32 ∷ Literal (pos 1) U8 ∷ [])))) ∷ []) }) ∷ FunctionItem (record { attribute = Mangled; name = codes "run_static_initializers"; params = []; result = None; locals = []; body = stmts ([]) }) ∷ [] } ∷ []; entry = 0 }) ≡ Some (record { mod_number = 0; item_number = 1 })
unfolding known_table
no_trailing_u8 = refl

no_trailing_i16 : first_ill (record { modules = record { name = codes "a"; items = ExternItem (record { link_name = None; name = codes "printf"; params = Pointer (Integer I8) ∷ []; variadic = true; result = Some (Integer I32) } ∷ []) ∷ FunctionItem (record { attribute = Mangled; name = codes "main_0"; params = []; result = Some (Integer I32); locals = []; body = stmts (Return (Some (Calls (codes "a") (codes "printf") (exprs (NullPointer (Integer I8) ∷ Literal (pos 1) I32 ∷ Literal (pos 1) I16 ∷ [])))) ∷ []) }) ∷ FunctionItem (record { attribute = Mangled; name = codes "run_static_initializers"; params = []; result = None; locals = []; body = stmts ([]) }) ∷ [] } ∷ []; entry = 0 }) ≡ Some (record { mod_number = 0; item_number = 1 })
unfolding known_table
no_trailing_i16 = refl

no_trailing_isize : first_ill (record { modules = record { name = codes "a"; items = ExternItem (record { link_name = None; name = codes "printf"; params = Pointer (Integer I8) ∷ []; variadic = true; result = Some (Integer I32) } ∷ []) ∷ FunctionItem (record { attribute = Mangled; name = codes "main_0"; params = []; result = Some (Integer I32); locals = []; body = stmts (Return (Some (Calls (codes "a") (codes "printf") (exprs (NullPointer (Integer I8) ∷ Literal (pos 1) I32 ∷ Literal (pos 1) Isize ∷ [])))) ∷ []) }) ∷ FunctionItem (record { attribute = Mangled; name = codes "run_static_initializers"; params = []; result = None; locals = []; body = stmts ([]) }) ∷ [] } ∷ []; entry = 0 }) ≡ Some (record { mod_number = 0; item_number = 1 })
unfolding known_table
no_trailing_isize = refl

no_trailing_usize : first_ill (record { modules = record { name = codes "a"; items = ExternItem (record { link_name = None; name = codes "printf"; params = Pointer (Integer I8) ∷ []; variadic = true; result = Some (Integer I32) } ∷ []) ∷ FunctionItem (record { attribute = Mangled; name = codes "main_0"; params = []; result = Some (Integer I32); locals = []; body = stmts (Return (Some (Calls (codes "a") (codes "printf") (exprs (NullPointer (Integer I8) ∷ Literal (pos 1) I32 ∷ Literal (pos 1) Usize ∷ [])))) ∷ []) }) ∷ FunctionItem (record { attribute = Mangled; name = codes "run_static_initializers"; params = []; result = None; locals = []; body = stmts ([]) }) ∷ [] } ∷ []; entry = 0 }) ≡ Some (record { mod_number = 0; item_number = 1 })
unfolding known_table
no_trailing_usize = refl

no_trailing_truth : first_ill (record { modules = record { name = codes "a"; items = ExternItem (record { link_name = None; name = codes "printf"; params = Pointer (Integer I8) ∷ []; variadic = true; result = Some (Integer I32) } ∷ []) ∷ FunctionItem (record { attribute = Mangled; name = codes "main_0"; params = []; result = Some (Integer I32); locals = []; body = stmts (Return (Some (Calls (codes "a") (codes "printf") (exprs (NullPointer (Integer I8) ∷ Literal (pos 1) I32 ∷ Truth true ∷ [])))) ∷ []) }) ∷ FunctionItem (record { attribute = Mangled; name = codes "run_static_initializers"; params = []; result = None; locals = []; body = stmts ([]) }) ∷ [] } ∷ []; entry = 0 }) ≡ Some (record { mod_number = 0; item_number = 1 })
unfolding known_table
no_trailing_truth = refl

no_trailing_numbers : first_ill (record { modules = record { name = codes "a"; items = ExternItem (record { link_name = None; name = codes "printf"; params = Pointer (Integer I8) ∷ []; variadic = true; result = Some (Integer I32) } ∷ []) ∷ FunctionItem (record { attribute = Mangled; name = codes "main_0"; params = []; result = Some (Integer I32); locals = []; body = stmts (Return (Some (Calls (codes "a") (codes "printf") (exprs (NullPointer (Integer I8) ∷ Literal (pos 1) I32 ∷ NullPointer (Integer I32) ∷ [])))) ∷ []) }) ∷ FunctionItem (record { attribute = Mangled; name = codes "run_static_initializers"; params = []; result = None; locals = []; body = stmts ([]) }) ∷ [] } ∷ []; entry = 0 }) ≡ Some (record { mod_number = 0; item_number = 1 })
unfolding known_table
no_trailing_numbers = refl

no_trailing_void : first_ill (record { modules = record { name = codes "a"; items = ExternItem (record { link_name = None; name = codes "printf"; params = Pointer (Integer I8) ∷ []; variadic = true; result = Some (Integer I32) } ∷ []) ∷ FunctionItem (record { attribute = Mangled; name = codes "main_0"; params = []; result = Some (Integer I32); locals = []; body = stmts (Return (Some (Calls (codes "a") (codes "printf") (exprs (NullPointer (Integer I8) ∷ Literal (pos 1) I32 ∷ NullPointer (Void) ∷ [])))) ∷ []) }) ∷ FunctionItem (record { attribute = Mangled; name = codes "run_static_initializers"; params = []; result = None; locals = []; body = stmts ([]) }) ∷ [] } ∷ []; entry = 0 }) ≡ Some (record { mod_number = 0; item_number = 1 })
unfolding known_table
no_trailing_void = refl

no_trailing_none : first_ill (record { modules = record { name = codes "a"; items = ExternItem (record { link_name = None; name = codes "printf"; params = Pointer (Integer I8) ∷ []; variadic = true; result = Some (Integer I32) } ∷ []) ∷ FunctionItem (record { attribute = Mangled; name = codes "main_0"; params = []; result = Some (Integer I32); locals = []; body = stmts (Return (Some (Calls (codes "a") (codes "printf") (exprs (NullPointer (Integer I8) ∷ Literal (pos 1) I32 ∷ NoFunction ∷ [])))) ∷ []) }) ∷ FunctionItem (record { attribute = Mangled; name = codes "run_static_initializers"; params = []; result = None; locals = []; body = stmts ([]) }) ∷ [] } ∷ []; entry = 0 }) ≡ Some (record { mod_number = 0; item_number = 1 })
unfolding known_table
no_trailing_none = refl

trailing_without_first : first_ill (record { modules = record { name = codes "a"; items = ExternItem (record { link_name = None; name = codes "printf"; params = Pointer (Integer I8) ∷ []; variadic = true; result = Some (Integer I32) } ∷ []) ∷ FunctionItem (record { attribute = Mangled; name = codes "main_0"; params = []; result = Some (Integer I32); locals = []; body = stmts (Return (Some (Calls (codes "a") (codes "printf") (exprs ([])))) ∷ []) }) ∷ FunctionItem (record { attribute = Mangled; name = codes "run_static_initializers"; params = []; result = None; locals = []; body = stmts ([]) }) ∷ [] } ∷ []; entry = 0 }) ≡ Some (record { mod_number = 0; item_number = 1 })
unfolding known_table
trailing_without_first = refl

first_of_another_type : first_ill (record { modules = record { name = codes "a"; items = ExternItem (record { link_name = None; name = codes "printf"; params = Pointer (Integer I8) ∷ []; variadic = true; result = Some (Integer I32) } ∷ []) ∷ FunctionItem (record { attribute = Mangled; name = codes "main_0"; params = []; result = Some (Integer I32); locals = []; body = stmts (Return (Some (Calls (codes "a") (codes "printf") (exprs (NullPointer (Integer U8) ∷ [])))) ∷ []) }) ∷ FunctionItem (record { attribute = Mangled; name = codes "run_static_initializers"; params = []; result = None; locals = []; body = stmts ([]) }) ∷ [] } ∷ []; entry = 0 }) ≡ Some (record { mod_number = 0; item_number = 1 })
unfolding known_table
first_of_another_type = refl
