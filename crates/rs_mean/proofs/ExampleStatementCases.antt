-- Worked crates for each case of the typing of external functions, statements and `main_0`, beside its bounds.
use Rattle.std.specs.Prelude.{◌≡◌, pos, true, false, [], ◌∷◌, Some, None, codes}
use Rattle.std.proofs.Common.{refl}
use Rattle.cr_world.specs.Known.{known_table}
use Rattle.rs_text.specs.declared.attribute.Attribute.TheVariants.{Mangled}
use Rattle.rs_text.specs.declared.integer.IntegerTy.TheVariants.{I8, I32, I64, U8, U32, U64, Usize}
use Rattle.rs_text.specs.declared.operator.Operator.TheVariants.{Add}
use Rattle.rs_text.specs.Tree.{Integer, Boolean, Void, Pointer, Array, Code, Record, no_ty, Local, Literal, Truth, NoFunction, Read, Binary, Assign, If, Loop, Block, Break, Continue, Match, Return, stmts, LiteralArm, arms, tys, RecordItem, StaticItem, ExternItem, FunctionItem}
use Rattle.rs_mean.specs.Typing.{first_ill}

-- ---- external functions

known_malloc : first_ill (record { modules = record { name = codes "a"; items = ExternItem (record { link_name = None; name = codes "malloc"; params = Integer U64 ∷ []; variadic = false; result = Some (Pointer (Void)) } ∷ []) ∷ FunctionItem (record { attribute = Mangled; name = codes "main_0"; params = []; result = Some (Integer I32); locals = []; body = stmts (Return (Some (Literal (pos 0) I32)) ∷ []) }) ∷ FunctionItem (record { attribute = Mangled; name = codes "run_static_initializers"; params = []; result = None; locals = []; body = stmts ([]) }) ∷ [] } ∷ []; entry = 0 }) ≡ None
unfolding known_table
known_malloc = refl

known_malloc_more : first_ill (record { modules = record { name = codes "a"; items = ExternItem (record { link_name = None; name = codes "malloc"; params = Integer U64 ∷ Integer I32 ∷ []; variadic = false; result = Some (Pointer (Void)) } ∷ []) ∷ FunctionItem (record { attribute = Mangled; name = codes "main_0"; params = []; result = Some (Integer I32); locals = []; body = stmts (Return (Some (Literal (pos 0) I32)) ∷ []) }) ∷ FunctionItem (record { attribute = Mangled; name = codes "run_static_initializers"; params = []; result = None; locals = []; body = stmts ([]) }) ∷ [] } ∷ []; entry = 0 }) ≡ Some (record { mod_number = 0; item_number = 0 })
unfolding known_table
known_malloc_more = refl

known_malloc_less : first_ill (record { modules = record { name = codes "a"; items = ExternItem (record { link_name = None; name = codes "malloc"; params = []; variadic = false; result = Some (Pointer (Void)) } ∷ []) ∷ FunctionItem (record { attribute = Mangled; name = codes "main_0"; params = []; result = Some (Integer I32); locals = []; body = stmts (Return (Some (Literal (pos 0) I32)) ∷ []) }) ∷ FunctionItem (record { attribute = Mangled; name = codes "run_static_initializers"; params = []; result = None; locals = []; body = stmts ([]) }) ∷ [] } ∷ []; entry = 0 }) ≡ Some (record { mod_number = 0; item_number = 0 })
unfolding known_table
known_malloc_less = refl

known_malloc_result : first_ill (record { modules = record { name = codes "a"; items = ExternItem (record { link_name = None; name = codes "malloc"; params = Integer U64 ∷ []; variadic = false; result = None } ∷ []) ∷ FunctionItem (record { attribute = Mangled; name = codes "main_0"; params = []; result = Some (Integer I32); locals = []; body = stmts (Return (Some (Literal (pos 0) I32)) ∷ []) }) ∷ FunctionItem (record { attribute = Mangled; name = codes "run_static_initializers"; params = []; result = None; locals = []; body = stmts ([]) }) ∷ [] } ∷ []; entry = 0 }) ≡ Some (record { mod_number = 0; item_number = 0 })
unfolding known_table
known_malloc_result = refl

known_calloc : first_ill (record { modules = record { name = codes "a"; items = ExternItem (record { link_name = None; name = codes "calloc"; params = Integer U64 ∷ Integer U64 ∷ []; variadic = false; result = Some (Pointer (Void)) } ∷ []) ∷ FunctionItem (record { attribute = Mangled; name = codes "main_0"; params = []; result = Some (Integer I32); locals = []; body = stmts (Return (Some (Literal (pos 0) I32)) ∷ []) }) ∷ FunctionItem (record { attribute = Mangled; name = codes "run_static_initializers"; params = []; result = None; locals = []; body = stmts ([]) }) ∷ [] } ∷ []; entry = 0 }) ≡ None
unfolding known_table
known_calloc = refl

known_calloc_more : first_ill (record { modules = record { name = codes "a"; items = ExternItem (record { link_name = None; name = codes "calloc"; params = Integer U64 ∷ Integer U64 ∷ Integer I32 ∷ []; variadic = false; result = Some (Pointer (Void)) } ∷ []) ∷ FunctionItem (record { attribute = Mangled; name = codes "main_0"; params = []; result = Some (Integer I32); locals = []; body = stmts (Return (Some (Literal (pos 0) I32)) ∷ []) }) ∷ FunctionItem (record { attribute = Mangled; name = codes "run_static_initializers"; params = []; result = None; locals = []; body = stmts ([]) }) ∷ [] } ∷ []; entry = 0 }) ≡ Some (record { mod_number = 0; item_number = 0 })
unfolding known_table
known_calloc_more = refl

known_calloc_less : first_ill (record { modules = record { name = codes "a"; items = ExternItem (record { link_name = None; name = codes "calloc"; params = Integer U64 ∷ []; variadic = false; result = Some (Pointer (Void)) } ∷ []) ∷ FunctionItem (record { attribute = Mangled; name = codes "main_0"; params = []; result = Some (Integer I32); locals = []; body = stmts (Return (Some (Literal (pos 0) I32)) ∷ []) }) ∷ FunctionItem (record { attribute = Mangled; name = codes "run_static_initializers"; params = []; result = None; locals = []; body = stmts ([]) }) ∷ [] } ∷ []; entry = 0 }) ≡ Some (record { mod_number = 0; item_number = 0 })
unfolding known_table
known_calloc_less = refl

known_calloc_result : first_ill (record { modules = record { name = codes "a"; items = ExternItem (record { link_name = None; name = codes "calloc"; params = Integer U64 ∷ Integer U64 ∷ []; variadic = false; result = None } ∷ []) ∷ FunctionItem (record { attribute = Mangled; name = codes "main_0"; params = []; result = Some (Integer I32); locals = []; body = stmts (Return (Some (Literal (pos 0) I32)) ∷ []) }) ∷ FunctionItem (record { attribute = Mangled; name = codes "run_static_initializers"; params = []; result = None; locals = []; body = stmts ([]) }) ∷ [] } ∷ []; entry = 0 }) ≡ Some (record { mod_number = 0; item_number = 0 })
unfolding known_table
known_calloc_result = refl

known_free : first_ill (record { modules = record { name = codes "a"; items = ExternItem (record { link_name = None; name = codes "free"; params = Pointer (Void) ∷ []; variadic = false; result = None } ∷ []) ∷ FunctionItem (record { attribute = Mangled; name = codes "main_0"; params = []; result = Some (Integer I32); locals = []; body = stmts (Return (Some (Literal (pos 0) I32)) ∷ []) }) ∷ FunctionItem (record { attribute = Mangled; name = codes "run_static_initializers"; params = []; result = None; locals = []; body = stmts ([]) }) ∷ [] } ∷ []; entry = 0 }) ≡ None
unfolding known_table
known_free = refl

known_free_more : first_ill (record { modules = record { name = codes "a"; items = ExternItem (record { link_name = None; name = codes "free"; params = Pointer (Void) ∷ Integer I32 ∷ []; variadic = false; result = None } ∷ []) ∷ FunctionItem (record { attribute = Mangled; name = codes "main_0"; params = []; result = Some (Integer I32); locals = []; body = stmts (Return (Some (Literal (pos 0) I32)) ∷ []) }) ∷ FunctionItem (record { attribute = Mangled; name = codes "run_static_initializers"; params = []; result = None; locals = []; body = stmts ([]) }) ∷ [] } ∷ []; entry = 0 }) ≡ Some (record { mod_number = 0; item_number = 0 })
unfolding known_table
known_free_more = refl

known_free_less : first_ill (record { modules = record { name = codes "a"; items = ExternItem (record { link_name = None; name = codes "free"; params = []; variadic = false; result = None } ∷ []) ∷ FunctionItem (record { attribute = Mangled; name = codes "main_0"; params = []; result = Some (Integer I32); locals = []; body = stmts (Return (Some (Literal (pos 0) I32)) ∷ []) }) ∷ FunctionItem (record { attribute = Mangled; name = codes "run_static_initializers"; params = []; result = None; locals = []; body = stmts ([]) }) ∷ [] } ∷ []; entry = 0 }) ≡ Some (record { mod_number = 0; item_number = 0 })
unfolding known_table
known_free_less = refl

known_free_result : first_ill (record { modules = record { name = codes "a"; items = ExternItem (record { link_name = None; name = codes "free"; params = Pointer (Void) ∷ []; variadic = false; result = Some (Integer I32) } ∷ []) ∷ FunctionItem (record { attribute = Mangled; name = codes "main_0"; params = []; result = Some (Integer I32); locals = []; body = stmts (Return (Some (Literal (pos 0) I32)) ∷ []) }) ∷ FunctionItem (record { attribute = Mangled; name = codes "run_static_initializers"; params = []; result = None; locals = []; body = stmts ([]) }) ∷ [] } ∷ []; entry = 0 }) ≡ Some (record { mod_number = 0; item_number = 0 })
unfolding known_table
known_free_result = refl

known_memcpy : first_ill (record { modules = record { name = codes "a"; items = ExternItem (record { link_name = None; name = codes "memcpy"; params = Pointer (Void) ∷ Pointer (Void) ∷ Integer U64 ∷ []; variadic = false; result = Some (Pointer (Void)) } ∷ []) ∷ FunctionItem (record { attribute = Mangled; name = codes "main_0"; params = []; result = Some (Integer I32); locals = []; body = stmts (Return (Some (Literal (pos 0) I32)) ∷ []) }) ∷ FunctionItem (record { attribute = Mangled; name = codes "run_static_initializers"; params = []; result = None; locals = []; body = stmts ([]) }) ∷ [] } ∷ []; entry = 0 }) ≡ None
unfolding known_table
known_memcpy = refl

known_memcpy_more : first_ill (record { modules = record { name = codes "a"; items = ExternItem (record { link_name = None; name = codes "memcpy"; params = Pointer (Void) ∷ Pointer (Void) ∷ Integer U64 ∷ Integer I32 ∷ []; variadic = false; result = Some (Pointer (Void)) } ∷ []) ∷ FunctionItem (record { attribute = Mangled; name = codes "main_0"; params = []; result = Some (Integer I32); locals = []; body = stmts (Return (Some (Literal (pos 0) I32)) ∷ []) }) ∷ FunctionItem (record { attribute = Mangled; name = codes "run_static_initializers"; params = []; result = None; locals = []; body = stmts ([]) }) ∷ [] } ∷ []; entry = 0 }) ≡ Some (record { mod_number = 0; item_number = 0 })
unfolding known_table
known_memcpy_more = refl

known_memcpy_less : first_ill (record { modules = record { name = codes "a"; items = ExternItem (record { link_name = None; name = codes "memcpy"; params = Pointer (Void) ∷ Pointer (Void) ∷ []; variadic = false; result = Some (Pointer (Void)) } ∷ []) ∷ FunctionItem (record { attribute = Mangled; name = codes "main_0"; params = []; result = Some (Integer I32); locals = []; body = stmts (Return (Some (Literal (pos 0) I32)) ∷ []) }) ∷ FunctionItem (record { attribute = Mangled; name = codes "run_static_initializers"; params = []; result = None; locals = []; body = stmts ([]) }) ∷ [] } ∷ []; entry = 0 }) ≡ Some (record { mod_number = 0; item_number = 0 })
unfolding known_table
known_memcpy_less = refl

known_memcpy_result : first_ill (record { modules = record { name = codes "a"; items = ExternItem (record { link_name = None; name = codes "memcpy"; params = Pointer (Void) ∷ Pointer (Void) ∷ Integer U64 ∷ []; variadic = false; result = None } ∷ []) ∷ FunctionItem (record { attribute = Mangled; name = codes "main_0"; params = []; result = Some (Integer I32); locals = []; body = stmts (Return (Some (Literal (pos 0) I32)) ∷ []) }) ∷ FunctionItem (record { attribute = Mangled; name = codes "run_static_initializers"; params = []; result = None; locals = []; body = stmts ([]) }) ∷ [] } ∷ []; entry = 0 }) ≡ Some (record { mod_number = 0; item_number = 0 })
unfolding known_table
known_memcpy_result = refl

known_memmove : first_ill (record { modules = record { name = codes "a"; items = ExternItem (record { link_name = None; name = codes "memmove"; params = Pointer (Void) ∷ Pointer (Void) ∷ Integer U64 ∷ []; variadic = false; result = Some (Pointer (Void)) } ∷ []) ∷ FunctionItem (record { attribute = Mangled; name = codes "main_0"; params = []; result = Some (Integer I32); locals = []; body = stmts (Return (Some (Literal (pos 0) I32)) ∷ []) }) ∷ FunctionItem (record { attribute = Mangled; name = codes "run_static_initializers"; params = []; result = None; locals = []; body = stmts ([]) }) ∷ [] } ∷ []; entry = 0 }) ≡ None
unfolding known_table
known_memmove = refl

known_memmove_more : first_ill (record { modules = record { name = codes "a"; items = ExternItem (record { link_name = None; name = codes "memmove"; params = Pointer (Void) ∷ Pointer (Void) ∷ Integer U64 ∷ Integer I32 ∷ []; variadic = false; result = Some (Pointer (Void)) } ∷ []) ∷ FunctionItem (record { attribute = Mangled; name = codes "main_0"; params = []; result = Some (Integer I32); locals = []; body = stmts (Return (Some (Literal (pos 0) I32)) ∷ []) }) ∷ FunctionItem (record { attribute = Mangled; name = codes "run_static_initializers"; params = []; result = None; locals = []; body = stmts ([]) }) ∷ [] } ∷ []; entry = 0 }) ≡ Some (record { mod_number = 0; item_number = 0 })
unfolding known_table
known_memmove_more = refl

known_memmove_less : first_ill (record { modules = record { name = codes "a"; items = ExternItem (record { link_name = None; name = codes "memmove"; params = Pointer (Void) ∷ Pointer (Void) ∷ []; variadic = false; result = Some (Pointer (Void)) } ∷ []) ∷ FunctionItem (record { attribute = Mangled; name = codes "main_0"; params = []; result = Some (Integer I32); locals = []; body = stmts (Return (Some (Literal (pos 0) I32)) ∷ []) }) ∷ FunctionItem (record { attribute = Mangled; name = codes "run_static_initializers"; params = []; result = None; locals = []; body = stmts ([]) }) ∷ [] } ∷ []; entry = 0 }) ≡ Some (record { mod_number = 0; item_number = 0 })
unfolding known_table
known_memmove_less = refl

known_memmove_result : first_ill (record { modules = record { name = codes "a"; items = ExternItem (record { link_name = None; name = codes "memmove"; params = Pointer (Void) ∷ Pointer (Void) ∷ Integer U64 ∷ []; variadic = false; result = None } ∷ []) ∷ FunctionItem (record { attribute = Mangled; name = codes "main_0"; params = []; result = Some (Integer I32); locals = []; body = stmts (Return (Some (Literal (pos 0) I32)) ∷ []) }) ∷ FunctionItem (record { attribute = Mangled; name = codes "run_static_initializers"; params = []; result = None; locals = []; body = stmts ([]) }) ∷ [] } ∷ []; entry = 0 }) ≡ Some (record { mod_number = 0; item_number = 0 })
unfolding known_table
known_memmove_result = refl

known_memset : first_ill (record { modules = record { name = codes "a"; items = ExternItem (record { link_name = None; name = codes "memset"; params = Pointer (Void) ∷ Integer I32 ∷ Integer U64 ∷ []; variadic = false; result = Some (Pointer (Void)) } ∷ []) ∷ FunctionItem (record { attribute = Mangled; name = codes "main_0"; params = []; result = Some (Integer I32); locals = []; body = stmts (Return (Some (Literal (pos 0) I32)) ∷ []) }) ∷ FunctionItem (record { attribute = Mangled; name = codes "run_static_initializers"; params = []; result = None; locals = []; body = stmts ([]) }) ∷ [] } ∷ []; entry = 0 }) ≡ None
unfolding known_table
known_memset = refl

known_memset_more : first_ill (record { modules = record { name = codes "a"; items = ExternItem (record { link_name = None; name = codes "memset"; params = Pointer (Void) ∷ Integer I32 ∷ Integer U64 ∷ Integer I32 ∷ []; variadic = false; result = Some (Pointer (Void)) } ∷ []) ∷ FunctionItem (record { attribute = Mangled; name = codes "main_0"; params = []; result = Some (Integer I32); locals = []; body = stmts (Return (Some (Literal (pos 0) I32)) ∷ []) }) ∷ FunctionItem (record { attribute = Mangled; name = codes "run_static_initializers"; params = []; result = None; locals = []; body = stmts ([]) }) ∷ [] } ∷ []; entry = 0 }) ≡ Some (record { mod_number = 0; item_number = 0 })
unfolding known_table
known_memset_more = refl

known_memset_less : first_ill (record { modules = record { name = codes "a"; items = ExternItem (record { link_name = None; name = codes "memset"; params = Pointer (Void) ∷ Integer I32 ∷ []; variadic = false; result = Some (Pointer (Void)) } ∷ []) ∷ FunctionItem (record { attribute = Mangled; name = codes "main_0"; params = []; result = Some (Integer I32); locals = []; body = stmts (Return (Some (Literal (pos 0) I32)) ∷ []) }) ∷ FunctionItem (record { attribute = Mangled; name = codes "run_static_initializers"; params = []; result = None; locals = []; body = stmts ([]) }) ∷ [] } ∷ []; entry = 0 }) ≡ Some (record { mod_number = 0; item_number = 0 })
unfolding known_table
known_memset_less = refl

known_memset_result : first_ill (record { modules = record { name = codes "a"; items = ExternItem (record { link_name = None; name = codes "memset"; params = Pointer (Void) ∷ Integer I32 ∷ Integer U64 ∷ []; variadic = false; result = None } ∷ []) ∷ FunctionItem (record { attribute = Mangled; name = codes "main_0"; params = []; result = Some (Integer I32); locals = []; body = stmts (Return (Some (Literal (pos 0) I32)) ∷ []) }) ∷ FunctionItem (record { attribute = Mangled; name = codes "run_static_initializers"; params = []; result = None; locals = []; body = stmts ([]) }) ∷ [] } ∷ []; entry = 0 }) ≡ Some (record { mod_number = 0; item_number = 0 })
unfolding known_table
known_memset_result = refl

known_exit : first_ill (record { modules = record { name = codes "a"; items = ExternItem (record { link_name = None; name = codes "exit"; params = Integer I32 ∷ []; variadic = false; result = None } ∷ []) ∷ FunctionItem (record { attribute = Mangled; name = codes "main_0"; params = []; result = Some (Integer I32); locals = []; body = stmts (Return (Some (Literal (pos 0) I32)) ∷ []) }) ∷ FunctionItem (record { attribute = Mangled; name = codes "run_static_initializers"; params = []; result = None; locals = []; body = stmts ([]) }) ∷ [] } ∷ []; entry = 0 }) ≡ None
unfolding known_table
known_exit = refl

known_exit_more : first_ill (record { modules = record { name = codes "a"; items = ExternItem (record { link_name = None; name = codes "exit"; params = Integer I32 ∷ Integer I32 ∷ []; variadic = false; result = None } ∷ []) ∷ FunctionItem (record { attribute = Mangled; name = codes "main_0"; params = []; result = Some (Integer I32); locals = []; body = stmts (Return (Some (Literal (pos 0) I32)) ∷ []) }) ∷ FunctionItem (record { attribute = Mangled; name = codes "run_static_initializers"; params = []; result = None; locals = []; body = stmts ([]) }) ∷ [] } ∷ []; entry = 0 }) ≡ Some (record { mod_number = 0; item_number = 0 })
unfolding known_table
known_exit_more = refl

known_exit_less : first_ill (record { modules = record { name = codes "a"; items = ExternItem (record { link_name = None; name = codes "exit"; params = []; variadic = false; result = None } ∷ []) ∷ FunctionItem (record { attribute = Mangled; name = codes "main_0"; params = []; result = Some (Integer I32); locals = []; body = stmts (Return (Some (Literal (pos 0) I32)) ∷ []) }) ∷ FunctionItem (record { attribute = Mangled; name = codes "run_static_initializers"; params = []; result = None; locals = []; body = stmts ([]) }) ∷ [] } ∷ []; entry = 0 }) ≡ Some (record { mod_number = 0; item_number = 0 })
unfolding known_table
known_exit_less = refl

known_exit_result : first_ill (record { modules = record { name = codes "a"; items = ExternItem (record { link_name = None; name = codes "exit"; params = Integer I32 ∷ []; variadic = false; result = Some (Integer I32) } ∷ []) ∷ FunctionItem (record { attribute = Mangled; name = codes "main_0"; params = []; result = Some (Integer I32); locals = []; body = stmts (Return (Some (Literal (pos 0) I32)) ∷ []) }) ∷ FunctionItem (record { attribute = Mangled; name = codes "run_static_initializers"; params = []; result = None; locals = []; body = stmts ([]) }) ∷ [] } ∷ []; entry = 0 }) ≡ Some (record { mod_number = 0; item_number = 0 })
unfolding known_table
known_exit_result = refl

known_abort : first_ill (record { modules = record { name = codes "a"; items = ExternItem (record { link_name = None; name = codes "abort"; params = []; variadic = false; result = None } ∷ []) ∷ FunctionItem (record { attribute = Mangled; name = codes "main_0"; params = []; result = Some (Integer I32); locals = []; body = stmts (Return (Some (Literal (pos 0) I32)) ∷ []) }) ∷ FunctionItem (record { attribute = Mangled; name = codes "run_static_initializers"; params = []; result = None; locals = []; body = stmts ([]) }) ∷ [] } ∷ []; entry = 0 }) ≡ None
unfolding known_table
known_abort = refl

known_abort_more : first_ill (record { modules = record { name = codes "a"; items = ExternItem (record { link_name = None; name = codes "abort"; params = Integer I32 ∷ []; variadic = false; result = None } ∷ []) ∷ FunctionItem (record { attribute = Mangled; name = codes "main_0"; params = []; result = Some (Integer I32); locals = []; body = stmts (Return (Some (Literal (pos 0) I32)) ∷ []) }) ∷ FunctionItem (record { attribute = Mangled; name = codes "run_static_initializers"; params = []; result = None; locals = []; body = stmts ([]) }) ∷ [] } ∷ []; entry = 0 }) ≡ Some (record { mod_number = 0; item_number = 0 })
unfolding known_table
known_abort_more = refl

known_abort_result : first_ill (record { modules = record { name = codes "a"; items = ExternItem (record { link_name = None; name = codes "abort"; params = []; variadic = false; result = Some (Integer I32) } ∷ []) ∷ FunctionItem (record { attribute = Mangled; name = codes "main_0"; params = []; result = Some (Integer I32); locals = []; body = stmts (Return (Some (Literal (pos 0) I32)) ∷ []) }) ∷ FunctionItem (record { attribute = Mangled; name = codes "run_static_initializers"; params = []; result = None; locals = []; body = stmts ([]) }) ∷ [] } ∷ []; entry = 0 }) ≡ Some (record { mod_number = 0; item_number = 0 })
unfolding known_table
known_abort_result = refl

known_malloc_usize : first_ill (record { modules = record { name = codes "a"; items = ExternItem (record { link_name = None; name = codes "malloc"; params = Integer Usize ∷ []; variadic = false; result = Some (Pointer (Void)) } ∷ []) ∷ FunctionItem (record { attribute = Mangled; name = codes "main_0"; params = []; result = Some (Integer I32); locals = []; body = stmts (Return (Some (Literal (pos 0) I32)) ∷ []) }) ∷ FunctionItem (record { attribute = Mangled; name = codes "run_static_initializers"; params = []; result = None; locals = []; body = stmts ([]) }) ∷ [] } ∷ []; entry = 0 }) ≡ Some (record { mod_number = 0; item_number = 0 })
unfolding known_table
known_malloc_usize = refl

known_malloc_signed : first_ill (record { modules = record { name = codes "a"; items = ExternItem (record { link_name = None; name = codes "malloc"; params = Integer I64 ∷ []; variadic = false; result = Some (Pointer (Void)) } ∷ []) ∷ FunctionItem (record { attribute = Mangled; name = codes "main_0"; params = []; result = Some (Integer I32); locals = []; body = stmts (Return (Some (Literal (pos 0) I32)) ∷ []) }) ∷ FunctionItem (record { attribute = Mangled; name = codes "run_static_initializers"; params = []; result = None; locals = []; body = stmts ([]) }) ∷ [] } ∷ []; entry = 0 }) ≡ Some (record { mod_number = 0; item_number = 0 })
unfolding known_table
known_malloc_signed = refl

known_malloc_number : first_ill (record { modules = record { name = codes "a"; items = ExternItem (record { link_name = None; name = codes "malloc"; params = Integer U64 ∷ []; variadic = false; result = Some (Integer U64) } ∷ []) ∷ FunctionItem (record { attribute = Mangled; name = codes "main_0"; params = []; result = Some (Integer I32); locals = []; body = stmts (Return (Some (Literal (pos 0) I32)) ∷ []) }) ∷ FunctionItem (record { attribute = Mangled; name = codes "run_static_initializers"; params = []; result = None; locals = []; body = stmts ([]) }) ∷ [] } ∷ []; entry = 0 }) ≡ Some (record { mod_number = 0; item_number = 0 })
unfolding known_table
known_malloc_number = refl

known_free_number : first_ill (record { modules = record { name = codes "a"; items = ExternItem (record { link_name = None; name = codes "free"; params = Integer U64 ∷ []; variadic = false; result = None } ∷ []) ∷ FunctionItem (record { attribute = Mangled; name = codes "main_0"; params = []; result = Some (Integer I32); locals = []; body = stmts (Return (Some (Literal (pos 0) I32)) ∷ []) }) ∷ FunctionItem (record { attribute = Mangled; name = codes "run_static_initializers"; params = []; result = None; locals = []; body = stmts ([]) }) ∷ [] } ∷ []; entry = 0 }) ≡ Some (record { mod_number = 0; item_number = 0 })
unfolding known_table
known_free_number = refl

known_free_bytes : first_ill (record { modules = record { name = codes "a"; items = ExternItem (record { link_name = None; name = codes "free"; params = Pointer (Integer U8) ∷ []; variadic = false; result = None } ∷ []) ∷ FunctionItem (record { attribute = Mangled; name = codes "main_0"; params = []; result = Some (Integer I32); locals = []; body = stmts (Return (Some (Literal (pos 0) I32)) ∷ []) }) ∷ FunctionItem (record { attribute = Mangled; name = codes "run_static_initializers"; params = []; result = None; locals = []; body = stmts ([]) }) ∷ [] } ∷ []; entry = 0 }) ≡ None
unfolding known_table
known_free_bytes = refl

known_free_function : first_ill (record { modules = record { name = codes "a"; items = ExternItem (record { link_name = None; name = codes "free"; params = Code (tys ([])) (no_ty) ∷ []; variadic = false; result = None } ∷ []) ∷ FunctionItem (record { attribute = Mangled; name = codes "main_0"; params = []; result = Some (Integer I32); locals = []; body = stmts (Return (Some (Literal (pos 0) I32)) ∷ []) }) ∷ FunctionItem (record { attribute = Mangled; name = codes "run_static_initializers"; params = []; result = None; locals = []; body = stmts ([]) }) ∷ [] } ∷ []; entry = 0 }) ≡ Some (record { mod_number = 0; item_number = 0 })
unfolding known_table
known_free_function = refl

known_memcpy_number : first_ill (record { modules = record { name = codes "a"; items = ExternItem (record { link_name = None; name = codes "memcpy"; params = Pointer (Void) ∷ Integer U64 ∷ Integer U64 ∷ []; variadic = false; result = Some (Pointer (Void)) } ∷ []) ∷ FunctionItem (record { attribute = Mangled; name = codes "main_0"; params = []; result = Some (Integer I32); locals = []; body = stmts (Return (Some (Literal (pos 0) I32)) ∷ []) }) ∷ FunctionItem (record { attribute = Mangled; name = codes "run_static_initializers"; params = []; result = None; locals = []; body = stmts ([]) }) ∷ [] } ∷ []; entry = 0 }) ≡ Some (record { mod_number = 0; item_number = 0 })
unfolding known_table
known_memcpy_number = refl

known_memset_unsigned : first_ill (record { modules = record { name = codes "a"; items = ExternItem (record { link_name = None; name = codes "memset"; params = Pointer (Void) ∷ Integer U32 ∷ Integer U64 ∷ []; variadic = false; result = Some (Pointer (Void)) } ∷ []) ∷ FunctionItem (record { attribute = Mangled; name = codes "main_0"; params = []; result = Some (Integer I32); locals = []; body = stmts (Return (Some (Literal (pos 0) I32)) ∷ []) }) ∷ FunctionItem (record { attribute = Mangled; name = codes "run_static_initializers"; params = []; result = None; locals = []; body = stmts ([]) }) ∷ [] } ∷ []; entry = 0 }) ≡ Some (record { mod_number = 0; item_number = 0 })
unfolding known_table
known_memset_unsigned = refl

known_exit_unsigned : first_ill (record { modules = record { name = codes "a"; items = ExternItem (record { link_name = None; name = codes "exit"; params = Integer U32 ∷ []; variadic = false; result = None } ∷ []) ∷ FunctionItem (record { attribute = Mangled; name = codes "main_0"; params = []; result = Some (Integer I32); locals = []; body = stmts (Return (Some (Literal (pos 0) I32)) ∷ []) }) ∷ FunctionItem (record { attribute = Mangled; name = codes "run_static_initializers"; params = []; result = None; locals = []; body = stmts ([]) }) ∷ [] } ∷ []; entry = 0 }) ≡ Some (record { mod_number = 0; item_number = 0 })
unfolding known_table
known_exit_unsigned = refl

known_free_of_no_record : first_ill (record { modules = record { name = codes "a"; items = ExternItem (record { link_name = None; name = codes "free"; params = Pointer (Record (codes "a") (codes "s")) ∷ []; variadic = false; result = None } ∷ []) ∷ FunctionItem (record { attribute = Mangled; name = codes "main_0"; params = []; result = Some (Integer I32); locals = []; body = stmts (Return (Some (Literal (pos 0) I32)) ∷ []) }) ∷ FunctionItem (record { attribute = Mangled; name = codes "run_static_initializers"; params = []; result = None; locals = []; body = stmts ([]) }) ∷ [] } ∷ []; entry = 0 }) ≡ Some (record { mod_number = 0; item_number = 0 })
unfolding known_table
known_free_of_no_record = refl

known_by_symbol : first_ill (record { modules = record { name = codes "a"; items = ExternItem (record { link_name = Some (codes "exit"); name = codes "leave"; params = Integer I64 ∷ []; variadic = false; result = None } ∷ []) ∷ FunctionItem (record { attribute = Mangled; name = codes "main_0"; params = []; result = Some (Integer I32); locals = []; body = stmts (Return (Some (Literal (pos 0) I32)) ∷ []) }) ∷ FunctionItem (record { attribute = Mangled; name = codes "run_static_initializers"; params = []; result = None; locals = []; body = stmts ([]) }) ∷ [] } ∷ []; entry = 0 }) ≡ Some (record { mod_number = 0; item_number = 0 })
unfolding known_table
known_by_symbol = refl

named_as_known : first_ill (record { modules = record { name = codes "a"; items = ExternItem (record { link_name = Some (codes "leave"); name = codes "exit"; params = Integer I64 ∷ []; variadic = false; result = None } ∷ []) ∷ FunctionItem (record { attribute = Mangled; name = codes "main_0"; params = []; result = Some (Integer I32); locals = []; body = stmts (Return (Some (Literal (pos 0) I32)) ∷ []) }) ∷ FunctionItem (record { attribute = Mangled; name = codes "run_static_initializers"; params = []; result = None; locals = []; body = stmts ([]) }) ∷ [] } ∷ []; entry = 0 }) ≡ None
unfolding known_table
named_as_known = refl

opaque : first_ill (record { modules = record { name = codes "a"; items = ExternItem (record { link_name = None; name = codes "g"; params = Integer I8 ∷ Integer Usize ∷ Boolean ∷ Pointer (Integer I8) ∷ []; variadic = false; result = Some (Boolean) } ∷ []) ∷ FunctionItem (record { attribute = Mangled; name = codes "main_0"; params = []; result = Some (Integer I32); locals = []; body = stmts (Return (Some (Literal (pos 0) I32)) ∷ []) }) ∷ FunctionItem (record { attribute = Mangled; name = codes "run_static_initializers"; params = []; result = None; locals = []; body = stmts ([]) }) ∷ [] } ∷ []; entry = 0 }) ≡ None
unfolding known_table
opaque = refl

opaque_variadic : first_ill (record { modules = record { name = codes "a"; items = ExternItem (record { link_name = None; name = codes "g"; params = Integer I32 ∷ []; variadic = true; result = None } ∷ []) ∷ FunctionItem (record { attribute = Mangled; name = codes "main_0"; params = []; result = Some (Integer I32); locals = []; body = stmts (Return (Some (Literal (pos 0) I32)) ∷ []) }) ∷ FunctionItem (record { attribute = Mangled; name = codes "run_static_initializers"; params = []; result = None; locals = []; body = stmts ([]) }) ∷ [] } ∷ []; entry = 0 }) ≡ None
unfolding known_table
opaque_variadic = refl

opaque_bytes : first_ill (record { modules = record { name = codes "a"; items = ExternItem (record { link_name = None; name = codes "g"; params = Pointer (Integer U8) ∷ []; variadic = false; result = None } ∷ []) ∷ FunctionItem (record { attribute = Mangled; name = codes "main_0"; params = []; result = Some (Integer I32); locals = []; body = stmts (Return (Some (Literal (pos 0) I32)) ∷ []) }) ∷ FunctionItem (record { attribute = Mangled; name = codes "run_static_initializers"; params = []; result = None; locals = []; body = stmts ([]) }) ∷ [] } ∷ []; entry = 0 }) ≡ Some (record { mod_number = 0; item_number = 0 })
unfolding known_table
opaque_bytes = refl

opaque_void : first_ill (record { modules = record { name = codes "a"; items = ExternItem (record { link_name = None; name = codes "g"; params = Pointer (Void) ∷ []; variadic = false; result = None } ∷ []) ∷ FunctionItem (record { attribute = Mangled; name = codes "main_0"; params = []; result = Some (Integer I32); locals = []; body = stmts (Return (Some (Literal (pos 0) I32)) ∷ []) }) ∷ FunctionItem (record { attribute = Mangled; name = codes "run_static_initializers"; params = []; result = None; locals = []; body = stmts ([]) }) ∷ [] } ∷ []; entry = 0 }) ≡ Some (record { mod_number = 0; item_number = 0 })
unfolding known_table
opaque_void = refl

opaque_function : first_ill (record { modules = record { name = codes "a"; items = ExternItem (record { link_name = None; name = codes "g"; params = Code (tys ([])) (no_ty) ∷ []; variadic = false; result = None } ∷ []) ∷ FunctionItem (record { attribute = Mangled; name = codes "main_0"; params = []; result = Some (Integer I32); locals = []; body = stmts (Return (Some (Literal (pos 0) I32)) ∷ []) }) ∷ FunctionItem (record { attribute = Mangled; name = codes "run_static_initializers"; params = []; result = None; locals = []; body = stmts ([]) }) ∷ [] } ∷ []; entry = 0 }) ≡ Some (record { mod_number = 0; item_number = 0 })
unfolding known_table
opaque_function = refl

opaque_second : first_ill (record { modules = record { name = codes "a"; items = ExternItem (record { link_name = None; name = codes "g"; params = Integer I32 ∷ Pointer (Integer I32) ∷ []; variadic = false; result = None } ∷ []) ∷ FunctionItem (record { attribute = Mangled; name = codes "main_0"; params = []; result = Some (Integer I32); locals = []; body = stmts (Return (Some (Literal (pos 0) I32)) ∷ []) }) ∷ FunctionItem (record { attribute = Mangled; name = codes "run_static_initializers"; params = []; result = None; locals = []; body = stmts ([]) }) ∷ [] } ∷ []; entry = 0 }) ≡ Some (record { mod_number = 0; item_number = 0 })
unfolding known_table
opaque_second = refl

opaque_function_result : first_ill (record { modules = record { name = codes "a"; items = ExternItem (record { link_name = None; name = codes "g"; params = []; variadic = false; result = Some (Code (tys ([])) (no_ty)) } ∷ []) ∷ FunctionItem (record { attribute = Mangled; name = codes "main_0"; params = []; result = Some (Integer I32); locals = []; body = stmts (Return (Some (Literal (pos 0) I32)) ∷ []) }) ∷ FunctionItem (record { attribute = Mangled; name = codes "run_static_initializers"; params = []; result = None; locals = []; body = stmts ([]) }) ∷ [] } ∷ []; entry = 0 }) ≡ Some (record { mod_number = 0; item_number = 0 })
unfolding known_table
opaque_function_result = refl

second_outer : first_ill (record { modules = record { name = codes "a"; items = ExternItem (record { link_name = None; name = codes "g"; params = []; variadic = false; result = None } ∷ record { link_name = None; name = codes "h"; params = Pointer (Integer I32) ∷ []; variadic = false; result = None } ∷ []) ∷ FunctionItem (record { attribute = Mangled; name = codes "main_0"; params = []; result = Some (Integer I32); locals = []; body = stmts (Return (Some (Literal (pos 0) I32)) ∷ []) }) ∷ FunctionItem (record { attribute = Mangled; name = codes "run_static_initializers"; params = []; result = None; locals = []; body = stmts ([]) }) ∷ [] } ∷ []; entry = 0 }) ≡ Some (record { mod_number = 0; item_number = 0 })
unfolding known_table
second_outer = refl

-- ---- statements

in_if : first_ill (record { modules = record { name = codes "a"; items = FunctionItem (record { attribute = Mangled; name = codes "main_0"; params = []; result = Some (Integer I32); locals = record { name = codes "x"; ty = Integer I32 } ∷ []; body = stmts (If (Truth true) (stmts (Assign (Local (codes "x")) (Literal (pos 1) I64) ∷ [])) (stmts ([])) ∷ Return (Some (Literal (pos 0) I32)) ∷ []) }) ∷ FunctionItem (record { attribute = Mangled; name = codes "run_static_initializers"; params = []; result = None; locals = []; body = stmts ([]) }) ∷ [] } ∷ []; entry = 0 }) ≡ Some (record { mod_number = 0; item_number = 0 })
unfolding known_table
in_if = refl

in_else : first_ill (record { modules = record { name = codes "a"; items = FunctionItem (record { attribute = Mangled; name = codes "main_0"; params = []; result = Some (Integer I32); locals = record { name = codes "x"; ty = Integer I32 } ∷ []; body = stmts (If (Truth true) (stmts ([])) (stmts (Assign (Local (codes "x")) (Literal (pos 1) I64) ∷ [])) ∷ Return (Some (Literal (pos 0) I32)) ∷ []) }) ∷ FunctionItem (record { attribute = Mangled; name = codes "run_static_initializers"; params = []; result = None; locals = []; body = stmts ([]) }) ∷ [] } ∷ []; entry = 0 }) ≡ Some (record { mod_number = 0; item_number = 0 })
unfolding known_table
in_else = refl

in_loop : first_ill (record { modules = record { name = codes "a"; items = FunctionItem (record { attribute = Mangled; name = codes "main_0"; params = []; result = Some (Integer I32); locals = record { name = codes "x"; ty = Integer I32 } ∷ []; body = stmts (Loop (None) (stmts (Assign (Local (codes "x")) (Literal (pos 1) I64) ∷ [])) ∷ Return (Some (Literal (pos 0) I32)) ∷ []) }) ∷ FunctionItem (record { attribute = Mangled; name = codes "run_static_initializers"; params = []; result = None; locals = []; body = stmts ([]) }) ∷ [] } ∷ []; entry = 0 }) ≡ Some (record { mod_number = 0; item_number = 0 })
unfolding known_table
in_loop = refl

in_labelled_loop : first_ill (record { modules = record { name = codes "a"; items = FunctionItem (record { attribute = Mangled; name = codes "main_0"; params = []; result = Some (Integer I32); locals = record { name = codes "x"; ty = Integer I32 } ∷ []; body = stmts (Loop (Some (codes "l")) (stmts (Assign (Local (codes "x")) (Literal (pos 1) I64) ∷ [])) ∷ Return (Some (Literal (pos 0) I32)) ∷ []) }) ∷ FunctionItem (record { attribute = Mangled; name = codes "run_static_initializers"; params = []; result = None; locals = []; body = stmts ([]) }) ∷ [] } ∷ []; entry = 0 }) ≡ Some (record { mod_number = 0; item_number = 0 })
unfolding known_table
in_labelled_loop = refl

in_block : first_ill (record { modules = record { name = codes "a"; items = FunctionItem (record { attribute = Mangled; name = codes "main_0"; params = []; result = Some (Integer I32); locals = record { name = codes "x"; ty = Integer I32 } ∷ []; body = stmts (Block (codes "l") (stmts (Assign (Local (codes "x")) (Literal (pos 1) I64) ∷ [])) ∷ Return (Some (Literal (pos 0) I32)) ∷ []) }) ∷ FunctionItem (record { attribute = Mangled; name = codes "run_static_initializers"; params = []; result = None; locals = []; body = stmts ([]) }) ∷ [] } ∷ []; entry = 0 }) ≡ Some (record { mod_number = 0; item_number = 0 })
unfolding known_table
in_block = refl

in_arm : first_ill (record { modules = record { name = codes "a"; items = FunctionItem (record { attribute = Mangled; name = codes "main_0"; params = []; result = Some (Integer I32); locals = record { name = codes "x"; ty = Integer I32 } ∷ []; body = stmts (Match (Literal (pos 1) I32) (arms (LiteralArm (pos 1) I32 (stmts ([])) ∷ LiteralArm (pos 2) I32 (stmts (Assign (Local (codes "x")) (Literal (pos 1) I64) ∷ [])) ∷ [])) (stmts ([])) ∷ Return (Some (Literal (pos 0) I32)) ∷ []) }) ∷ FunctionItem (record { attribute = Mangled; name = codes "run_static_initializers"; params = []; result = None; locals = []; body = stmts ([]) }) ∷ [] } ∷ []; entry = 0 }) ≡ Some (record { mod_number = 0; item_number = 0 })
unfolding known_table
in_arm = refl

in_other_arm : first_ill (record { modules = record { name = codes "a"; items = FunctionItem (record { attribute = Mangled; name = codes "main_0"; params = []; result = Some (Integer I32); locals = record { name = codes "x"; ty = Integer I32 } ∷ []; body = stmts (Match (Literal (pos 1) I32) (arms (LiteralArm (pos 1) I32 (stmts ([])) ∷ [])) (stmts (Assign (Local (codes "x")) (Literal (pos 1) I64) ∷ [])) ∷ Return (Some (Literal (pos 0) I32)) ∷ []) }) ∷ FunctionItem (record { attribute = Mangled; name = codes "run_static_initializers"; params = []; result = None; locals = []; body = stmts ([]) }) ∷ [] } ∷ []; entry = 0 }) ≡ Some (record { mod_number = 0; item_number = 0 })
unfolding known_table
in_other_arm = refl

in_second : first_ill (record { modules = record { name = codes "a"; items = FunctionItem (record { attribute = Mangled; name = codes "main_0"; params = []; result = Some (Integer I32); locals = record { name = codes "x"; ty = Integer I32 } ∷ []; body = stmts (Assign (Local (codes "x")) (Literal (pos 1) I32) ∷ Assign (Local (codes "x")) (Literal (pos 1) I64) ∷ Return (Some (Literal (pos 0) I32)) ∷ []) }) ∷ FunctionItem (record { attribute = Mangled; name = codes "run_static_initializers"; params = []; result = None; locals = []; body = stmts ([]) }) ∷ [] } ∷ []; entry = 0 }) ≡ Some (record { mod_number = 0; item_number = 0 })
unfolding known_table
in_second = refl

in_value_of_match : first_ill (record { modules = record { name = codes "a"; items = FunctionItem (record { attribute = Mangled; name = codes "main_0"; params = []; result = Some (Integer I32); locals = []; body = stmts (Match (Binary (Literal (pos 1) I32) Add (Literal (pos 1) I64)) (arms ([])) (stmts ([])) ∷ Return (Some (Literal (pos 0) I32)) ∷ []) }) ∷ FunctionItem (record { attribute = Mangled; name = codes "run_static_initializers"; params = []; result = None; locals = []; body = stmts ([]) }) ∷ [] } ∷ []; entry = 0 }) ≡ Some (record { mod_number = 0; item_number = 0 })
unfolding known_table
in_value_of_match = refl

continue_through_block : first_ill (record { modules = record { name = codes "a"; items = FunctionItem (record { attribute = Mangled; name = codes "main_0"; params = []; result = Some (Integer I32); locals = []; body = stmts (Loop (Some (codes "l")) (stmts (Block (codes "b") (stmts (Loop (None) (stmts (If (Truth true) (stmts (Continue (codes "l") ∷ [])) (stmts (Break (codes "b") ∷ [])) ∷ [])) ∷ [])) ∷ Break (codes "l") ∷ [])) ∷ Return (Some (Literal (pos 0) I32)) ∷ []) }) ∷ FunctionItem (record { attribute = Mangled; name = codes "run_static_initializers"; params = []; result = None; locals = []; body = stmts ([]) }) ∷ [] } ∷ []; entry = 0 }) ≡ None
unfolding known_table
continue_through_block = refl

break_behind : first_ill (record { modules = record { name = codes "a"; items = FunctionItem (record { attribute = Mangled; name = codes "main_0"; params = []; result = Some (Integer I32); locals = []; body = stmts (Block (codes "l") (stmts ([])) ∷ Break (codes "l") ∷ Return (Some (Literal (pos 0) I32)) ∷ []) }) ∷ FunctionItem (record { attribute = Mangled; name = codes "run_static_initializers"; params = []; result = None; locals = []; body = stmts ([]) }) ∷ [] } ∷ []; entry = 0 }) ≡ Some (record { mod_number = 0; item_number = 0 })
unfolding known_table
break_behind = refl

continue_behind : first_ill (record { modules = record { name = codes "a"; items = FunctionItem (record { attribute = Mangled; name = codes "main_0"; params = []; result = Some (Integer I32); locals = []; body = stmts (Loop (Some (codes "l")) (stmts (Break (codes "l") ∷ [])) ∷ Continue (codes "l") ∷ Return (Some (Literal (pos 0) I32)) ∷ []) }) ∷ FunctionItem (record { attribute = Mangled; name = codes "run_static_initializers"; params = []; result = None; locals = []; body = stmts ([]) }) ∷ [] } ∷ []; entry = 0 }) ≡ Some (record { mod_number = 0; item_number = 0 })
unfolding known_table
continue_behind = refl

break_in_arm : first_ill (record { modules = record { name = codes "a"; items = FunctionItem (record { attribute = Mangled; name = codes "main_0"; params = []; result = Some (Integer I32); locals = []; body = stmts (Loop (Some (codes "l")) (stmts (Match (Literal (pos 1) I32) (arms (LiteralArm (pos 1) I32 (stmts (Break (codes "l") ∷ [])) ∷ [])) (stmts (Continue (codes "l") ∷ [])) ∷ [])) ∷ Return (Some (Literal (pos 0) I32)) ∷ []) }) ∷ FunctionItem (record { attribute = Mangled; name = codes "run_static_initializers"; params = []; result = None; locals = []; body = stmts ([]) }) ∷ [] } ∷ []; entry = 0 }) ≡ None
unfolding known_table
break_in_arm = refl

label_of_loops_twice : first_ill (record { modules = record { name = codes "a"; items = FunctionItem (record { attribute = Mangled; name = codes "main_0"; params = []; result = Some (Integer I32); locals = []; body = stmts (Loop (Some (codes "l")) (stmts (Loop (Some (codes "l")) (stmts (Break (codes "l") ∷ [])) ∷ [])) ∷ Return (Some (Literal (pos 0) I32)) ∷ []) }) ∷ FunctionItem (record { attribute = Mangled; name = codes "run_static_initializers"; params = []; result = None; locals = []; body = stmts ([]) }) ∷ [] } ∷ []; entry = 0 }) ≡ Some (record { mod_number = 0; item_number = 0 })
unfolding known_table
label_of_loops_twice = refl

label_twice_through : first_ill (record { modules = record { name = codes "a"; items = FunctionItem (record { attribute = Mangled; name = codes "main_0"; params = []; result = Some (Integer I32); locals = []; body = stmts (Block (codes "l") (stmts (Loop (None) (stmts (Block (codes "m") (stmts (Block (codes "l") (stmts ([])) ∷ [])) ∷ [])) ∷ [])) ∷ Return (Some (Literal (pos 0) I32)) ∷ []) }) ∷ FunctionItem (record { attribute = Mangled; name = codes "run_static_initializers"; params = []; result = None; locals = []; body = stmts ([]) }) ∷ [] } ∷ []; entry = 0 }) ≡ Some (record { mod_number = 0; item_number = 0 })
unfolding known_table
label_twice_through = refl

first_and_third_arm : first_ill (record { modules = record { name = codes "a"; items = FunctionItem (record { attribute = Mangled; name = codes "main_0"; params = []; result = Some (Integer I32); locals = []; body = stmts (Match (Literal (pos 1) I32) (arms (LiteralArm (pos 1) I32 (stmts ([])) ∷ LiteralArm (pos 2) I32 (stmts ([])) ∷ LiteralArm (pos 1) I32 (stmts ([])) ∷ [])) (stmts ([])) ∷ Return (Some (Literal (pos 0) I32)) ∷ []) }) ∷ FunctionItem (record { attribute = Mangled; name = codes "run_static_initializers"; params = []; result = None; locals = []; body = stmts ([]) }) ∷ [] } ∷ []; entry = 0 }) ≡ Some (record { mod_number = 0; item_number = 0 })
unfolding known_table
first_and_third_arm = refl

arm_too_large : first_ill (record { modules = record { name = codes "a"; items = FunctionItem (record { attribute = Mangled; name = codes "main_0"; params = []; result = Some (Integer I32); locals = []; body = stmts (Match (Literal (pos 1) U8) (arms (LiteralArm (pos 256) U8 (stmts ([])) ∷ [])) (stmts ([])) ∷ Return (Some (Literal (pos 0) I32)) ∷ []) }) ∷ FunctionItem (record { attribute = Mangled; name = codes "run_static_initializers"; params = []; result = None; locals = []; body = stmts ([]) }) ∷ [] } ∷ []; entry = 0 }) ≡ Some (record { mod_number = 0; item_number = 0 })
unfolding known_table
arm_too_large = refl

arms_of_u8 : first_ill (record { modules = record { name = codes "a"; items = FunctionItem (record { attribute = Mangled; name = codes "main_0"; params = []; result = Some (Integer I32); locals = []; body = stmts (Match (Literal (pos 1) U8) (arms (LiteralArm (pos 255) U8 (stmts ([])) ∷ LiteralArm (pos 0) U8 (stmts ([])) ∷ [])) (stmts ([])) ∷ Return (Some (Literal (pos 0) I32)) ∷ []) }) ∷ FunctionItem (record { attribute = Mangled; name = codes "run_static_initializers"; params = []; result = None; locals = []; body = stmts ([]) }) ∷ [] } ∷ []; entry = 0 }) ≡ None
unfolding known_table
arms_of_u8 = refl

second_arm_of_another_type : first_ill (record { modules = record { name = codes "a"; items = FunctionItem (record { attribute = Mangled; name = codes "main_0"; params = []; result = Some (Integer I32); locals = []; body = stmts (Match (Literal (pos 1) I32) (arms (LiteralArm (pos 1) I32 (stmts ([])) ∷ [])) (stmts ([])) ∷ Match (Literal (pos 1) U8) (arms (LiteralArm (pos 1) I32 (stmts ([])) ∷ [])) (stmts ([])) ∷ Return (Some (Literal (pos 0) I32)) ∷ []) }) ∷ FunctionItem (record { attribute = Mangled; name = codes "run_static_initializers"; params = []; result = None; locals = []; body = stmts ([]) }) ∷ [] } ∷ []; entry = 0 }) ≡ Some (record { mod_number = 0; item_number = 0 })
unfolding known_table
second_arm_of_another_type = refl

match_pointer : first_ill (record { modules = record { name = codes "a"; items = FunctionItem (record { attribute = Mangled; name = codes "main_0"; params = []; result = Some (Integer I32); locals = record { name = codes "p"; ty = Pointer (Integer I32) } ∷ []; body = stmts (Match (Read (Local (codes "p"))) (arms ([])) (stmts ([])) ∷ Return (Some (Literal (pos 0) I32)) ∷ []) }) ∷ FunctionItem (record { attribute = Mangled; name = codes "run_static_initializers"; params = []; result = None; locals = []; body = stmts ([]) }) ∷ [] } ∷ []; entry = 0 }) ≡ Some (record { mod_number = 0; item_number = 0 })
unfolding known_table
match_pointer = refl

if_pointer : first_ill (record { modules = record { name = codes "a"; items = FunctionItem (record { attribute = Mangled; name = codes "main_0"; params = []; result = Some (Integer I32); locals = record { name = codes "p"; ty = Pointer (Integer I32) } ∷ []; body = stmts (If (Read (Local (codes "p"))) (stmts ([])) (stmts ([])) ∷ Return (Some (Literal (pos 0) I32)) ∷ []) }) ∷ FunctionItem (record { attribute = Mangled; name = codes "run_static_initializers"; params = []; result = None; locals = []; body = stmts ([]) }) ∷ [] } ∷ []; entry = 0 }) ≡ Some (record { mod_number = 0; item_number = 0 })
unfolding known_table
if_pointer = refl

statement_behind_return : first_ill (record { modules = record { name = codes "a"; items = FunctionItem (record { attribute = Mangled; name = codes "main_0"; params = []; result = Some (Integer I32); locals = record { name = codes "x"; ty = Integer I32 } ∷ []; body = stmts (Return (Some (Literal (pos 0) I32)) ∷ Assign (Local (codes "x")) (Literal (pos 1) I32) ∷ []) }) ∷ FunctionItem (record { attribute = Mangled; name = codes "run_static_initializers"; params = []; result = None; locals = []; body = stmts ([]) }) ∷ [] } ∷ []; entry = 0 }) ≡ Some (record { mod_number = 0; item_number = 0 })
unfolding known_table
statement_behind_return = refl

ends_with_loop : first_ill (record { modules = record { name = codes "a"; items = FunctionItem (record { attribute = Mangled; name = codes "main_0"; params = []; result = Some (Integer I32); locals = []; body = stmts (Loop (None) (stmts (Return (Some (Literal (pos 0) I32)) ∷ [])) ∷ []) }) ∷ FunctionItem (record { attribute = Mangled; name = codes "run_static_initializers"; params = []; result = None; locals = []; body = stmts ([]) }) ∷ [] } ∷ []; entry = 0 }) ≡ Some (record { mod_number = 0; item_number = 0 })
unfolding known_table
ends_with_loop = refl

empty_with_result : first_ill (record { modules = record { name = codes "a"; items = FunctionItem (record { attribute = Mangled; name = codes "f"; params = []; result = Some (Integer I32); locals = []; body = stmts ([]) }) ∷ FunctionItem (record { attribute = Mangled; name = codes "main_0"; params = []; result = Some (Integer I32); locals = []; body = stmts (Return (Some (Literal (pos 0) I32)) ∷ []) }) ∷ FunctionItem (record { attribute = Mangled; name = codes "run_static_initializers"; params = []; result = None; locals = []; body = stmts ([]) }) ∷ [] } ∷ []; entry = 0 }) ≡ Some (record { mod_number = 0; item_number = 0 })
unfolding known_table
empty_with_result = refl

return_within : first_ill (record { modules = record { name = codes "a"; items = FunctionItem (record { attribute = Mangled; name = codes "f"; params = []; result = None; locals = []; body = stmts (If (Truth true) (stmts (Return None ∷ [])) (stmts ([])) ∷ Return None ∷ []) }) ∷ FunctionItem (record { attribute = Mangled; name = codes "main_0"; params = []; result = Some (Integer I32); locals = []; body = stmts (Return (Some (Literal (pos 0) I32)) ∷ []) }) ∷ FunctionItem (record { attribute = Mangled; name = codes "run_static_initializers"; params = []; result = None; locals = []; body = stmts ([]) }) ∷ [] } ∷ []; entry = 0 }) ≡ None
unfolding known_table
return_within = refl

return_within_of_another_type : first_ill (record { modules = record { name = codes "a"; items = FunctionItem (record { attribute = Mangled; name = codes "main_0"; params = []; result = Some (Integer I32); locals = []; body = stmts (If (Truth true) (stmts (Return (Some (Truth true)) ∷ [])) (stmts ([])) ∷ Return (Some (Literal (pos 0) I32)) ∷ []) }) ∷ FunctionItem (record { attribute = Mangled; name = codes "run_static_initializers"; params = []; result = None; locals = []; body = stmts ([]) }) ∷ [] } ∷ []; entry = 0 }) ≡ Some (record { mod_number = 0; item_number = 0 })
unfolding known_table
return_within_of_another_type = refl

return_none : first_ill (record { modules = record { name = codes "a"; items = FunctionItem (record { attribute = Mangled; name = codes "f"; params = []; result = Some (Code (tys ([])) (no_ty)); locals = []; body = stmts (Return (Some (NoFunction)) ∷ []) }) ∷ FunctionItem (record { attribute = Mangled; name = codes "main_0"; params = []; result = Some (Integer I32); locals = []; body = stmts (Return (Some (Literal (pos 0) I32)) ∷ []) }) ∷ FunctionItem (record { attribute = Mangled; name = codes "run_static_initializers"; params = []; result = None; locals = []; body = stmts ([]) }) ∷ [] } ∷ []; entry = 0 }) ≡ None
unfolding known_table
return_none = refl

return_none_as_pointer : first_ill (record { modules = record { name = codes "a"; items = FunctionItem (record { attribute = Mangled; name = codes "f"; params = []; result = Some (Pointer (Integer I32)); locals = []; body = stmts (Return (Some (NoFunction)) ∷ []) }) ∷ FunctionItem (record { attribute = Mangled; name = codes "main_0"; params = []; result = Some (Integer I32); locals = []; body = stmts (Return (Some (Literal (pos 0) I32)) ∷ []) }) ∷ FunctionItem (record { attribute = Mangled; name = codes "run_static_initializers"; params = []; result = None; locals = []; body = stmts ([]) }) ∷ [] } ∷ []; entry = 0 }) ≡ Some (record { mod_number = 0; item_number = 0 })
unfolding known_table
return_none_as_pointer = refl

-- ---- `main_0` and the initialiser

main_without_result : first_ill (record { modules = record { name = codes "a"; items = FunctionItem (record { attribute = Mangled; name = codes "main_0"; params = []; result = None; locals = []; body = stmts ([]) }) ∷ FunctionItem (record { attribute = Mangled; name = codes "run_static_initializers"; params = []; result = None; locals = []; body = stmts ([]) }) ∷ [] } ∷ []; entry = 0 }) ≡ Some (record { mod_number = 0; item_number = 0 })
unfolding known_table
main_without_result = refl

main_unsigned : first_ill (record { modules = record { name = codes "a"; items = FunctionItem (record { attribute = Mangled; name = codes "main_0"; params = []; result = Some (Integer U32); locals = []; body = stmts (Return (Some (Literal (pos 0) U32)) ∷ []) }) ∷ FunctionItem (record { attribute = Mangled; name = codes "run_static_initializers"; params = []; result = None; locals = []; body = stmts ([]) }) ∷ [] } ∷ []; entry = 0 }) ≡ Some (record { mod_number = 0; item_number = 0 })
unfolding known_table
main_unsigned = refl

initialiser_with_parameter : first_ill (record { modules = record { name = codes "a"; items = FunctionItem (record { attribute = Mangled; name = codes "main_0"; params = []; result = Some (Integer I32); locals = []; body = stmts (Return (Some (Literal (pos 0) I32)) ∷ []) }) ∷ FunctionItem (record { attribute = Mangled; name = codes "run_static_initializers"; params = record { name = codes "x"; ty = Integer I32 } ∷ []; result = None; locals = []; body = stmts ([]) }) ∷ [] } ∷ []; entry = 0 }) ≡ Some (record { mod_number = 0; item_number = 1 })
unfolding known_table
initialiser_with_parameter = refl

initialiser_with_result : first_ill (record { modules = record { name = codes "a"; items = FunctionItem (record { attribute = Mangled; name = codes "main_0"; params = []; result = Some (Integer I32); locals = []; body = stmts (Return (Some (Literal (pos 0) I32)) ∷ []) }) ∷ FunctionItem (record { attribute = Mangled; name = codes "run_static_initializers"; params = []; result = Some (Integer I32); locals = []; body = stmts (Return (Some (Literal (pos 0) I32)) ∷ []) }) ∷ [] } ∷ []; entry = 0 }) ≡ Some (record { mod_number = 0; item_number = 1 })
unfolding known_table
initialiser_with_result = refl

initialiser_of_another_module : first_ill (record { modules = record { name = codes "a"; items = FunctionItem (record { attribute = Mangled; name = codes "main_0"; params = []; result = Some (Integer I32); locals = []; body = stmts (Return (Some (Literal (pos 0) I32)) ∷ []) }) ∷ FunctionItem (record { attribute = Mangled; name = codes "run_static_initializers"; params = []; result = None; locals = []; body = stmts ([]) }) ∷ [] } ∷ record { name = codes "b"; items = FunctionItem (record { attribute = Mangled; name = codes "run_static_initializers"; params = record { name = codes "x"; ty = Integer I32 } ∷ []; result = None; locals = []; body = stmts ([]) }) ∷ [] } ∷ []; entry = 0 }) ≡ Some (record { mod_number = 1; item_number = 0 })
unfolding known_table
initialiser_of_another_module = refl

-- ---- behind the first of several

second_parameter_of_no_record : first_ill (record { modules = record { name = codes "a"; items = FunctionItem (record { attribute = Mangled; name = codes "f"; params = record { name = codes "a"; ty = Integer I32 } ∷ record { name = codes "p"; ty = Pointer (Record (codes "a") (codes "s")) } ∷ []; result = None; locals = []; body = stmts ([]) }) ∷ FunctionItem (record { attribute = Mangled; name = codes "main_0"; params = []; result = Some (Integer I32); locals = []; body = stmts (Return (Some (Literal (pos 0) I32)) ∷ []) }) ∷ FunctionItem (record { attribute = Mangled; name = codes "run_static_initializers"; params = []; result = None; locals = []; body = stmts ([]) }) ∷ [] } ∷ []; entry = 0 }) ≡ Some (record { mod_number = 0; item_number = 0 })
unfolding known_table
second_parameter_of_no_record = refl

second_parameter_is_record : first_ill (record { modules = record { name = codes "a"; items = RecordItem (record { align = None; is_union = false; name = codes "s"; fields = record { name = codes "c"; ty = Integer I8 } ∷ record { name = codes "n"; ty = Integer I32 } ∷ [] }) ∷ FunctionItem (record { attribute = Mangled; name = codes "main_0"; params = []; result = Some (Integer I32); locals = record { name = codes "f"; ty = Code (tys (Integer I32 ∷ Record (codes "a") (codes "s") ∷ [])) (no_ty) } ∷ []; body = stmts (Return (Some (Literal (pos 0) I32)) ∷ []) }) ∷ FunctionItem (record { attribute = Mangled; name = codes "run_static_initializers"; params = []; result = None; locals = []; body = stmts ([]) }) ∷ [] } ∷ []; entry = 0 }) ≡ Some (record { mod_number = 0; item_number = 1 })
unfolding known_table
second_parameter_is_record = refl

third_of_a_function_type : first_ill (record { modules = record { name = codes "a"; items = FunctionItem (record { attribute = Mangled; name = codes "main_0"; params = []; result = Some (Integer I32); locals = record { name = codes "f"; ty = Code (tys (Integer I32 ∷ Integer I32 ∷ Pointer (Record (codes "a") (codes "s")) ∷ [])) (no_ty) } ∷ []; body = stmts (Return (Some (Literal (pos 0) I32)) ∷ []) }) ∷ FunctionItem (record { attribute = Mangled; name = codes "run_static_initializers"; params = []; result = None; locals = []; body = stmts ([]) }) ∷ [] } ∷ []; entry = 0 }) ≡ Some (record { mod_number = 0; item_number = 0 })
unfolding known_table
third_of_a_function_type = refl

return_within_without_value : first_ill (record { modules = record { name = codes "a"; items = FunctionItem (record { attribute = Mangled; name = codes "main_0"; params = []; result = Some (Integer I32); locals = []; body = stmts (If (Truth true) (stmts (Return None ∷ [])) (stmts ([])) ∷ Return (Some (Literal (pos 0) I32)) ∷ []) }) ∷ FunctionItem (record { attribute = Mangled; name = codes "run_static_initializers"; params = []; result = None; locals = []; body = stmts ([]) }) ∷ [] } ∷ []; entry = 0 }) ≡ Some (record { mod_number = 0; item_number = 0 })
unfolding known_table
return_within_without_value = refl

-- ---- a record that is too large is at fault where it is made, not where it is used

static_of_large_record : first_ill (record { modules = record { name = codes "a"; items = StaticItem (record { attribute = Mangled; name = codes "x"; ty = Record (codes "b") (codes "s"); values = None }) ∷ FunctionItem (record { attribute = Mangled; name = codes "main_0"; params = []; result = Some (Integer I32); locals = []; body = stmts (Return (Some (Literal (pos 0) I32)) ∷ []) }) ∷ FunctionItem (record { attribute = Mangled; name = codes "run_static_initializers"; params = []; result = None; locals = []; body = stmts ([]) }) ∷ [] } ∷ record { name = codes "b"; items = RecordItem (record { align = None; is_union = false; name = codes "s"; fields = record { name = codes "c"; ty = Array (Integer U8) 16777216 } ∷ record { name = codes "d"; ty = Integer U8 } ∷ [] }) ∷ FunctionItem (record { attribute = Mangled; name = codes "run_static_initializers"; params = []; result = None; locals = []; body = stmts ([]) }) ∷ [] } ∷ []; entry = 0 }) ≡ Some (record { mod_number = 1; item_number = 0 })
unfolding known_table
static_of_large_record = refl

local_of_large_record : first_ill (record { modules = record { name = codes "a"; items = FunctionItem (record { attribute = Mangled; name = codes "main_0"; params = []; result = Some (Integer I32); locals = record { name = codes "x"; ty = Record (codes "b") (codes "s") } ∷ []; body = stmts (Return (Some (Literal (pos 0) I32)) ∷ []) }) ∷ FunctionItem (record { attribute = Mangled; name = codes "run_static_initializers"; params = []; result = None; locals = []; body = stmts ([]) }) ∷ [] } ∷ record { name = codes "b"; items = RecordItem (record { align = None; is_union = false; name = codes "s"; fields = record { name = codes "c"; ty = Array (Integer U8) 16777216 } ∷ record { name = codes "d"; ty = Integer U8 } ∷ [] }) ∷ FunctionItem (record { attribute = Mangled; name = codes "run_static_initializers"; params = []; result = None; locals = []; body = stmts ([]) }) ∷ [] } ∷ []; entry = 0 }) ≡ Some (record { mod_number = 1; item_number = 0 })
unfolding known_table
local_of_large_record = refl
