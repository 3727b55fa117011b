-- Worked crates for each case of the typing of operators, beside its bounds.
use Rattle.std.specs.Prelude.{◌≡◌, pos, true, false, [], ◌∷◌, Some, None, codes}
use Rattle.std.proofs.Common.{refl}
use Rattle.cr_world.specs.Known.{known_table}
use Rattle.rs_text.specs.declared.attribute.Attribute.TheVariants.{Mangled}
use Rattle.rs_text.specs.declared.integer.IntegerTy.TheVariants.{I8, I16, I32, I64, U8, U16, U32, U64, Isize, Usize}
use Rattle.rs_text.specs.declared.operator.Operator.TheVariants.{Add, Sub, Mul, Div, Rem, BitAnd, BitOr, BitXor, Shl, Shr, Equal, NotEqual, Less, LessEqual, Greater, GreaterEqual}
use Rattle.rs_text.specs.declared.operator.Wrapping.TheVariants.{WrappingAdd, WrappingSub, WrappingMul}
use Rattle.rs_text.specs.Tree.{Integer, Pointer, Code, no_ty, Local, Literal, Truth, NoFunction, Read, Wrapped, WrappingNeg, IsNull, Neg, Not, Cast, Binary, And, Or, Return, stmts, tys, FunctionItem}
use Rattle.rs_mean.specs.Typing.{first_ill}

-- ---- operators

add_isize : first_ill (record { modules = record { name = codes "a"; items = FunctionItem (record { attribute = Mangled; name = codes "main_0"; params = []; result = Some (Integer I32); locals = []; body = stmts (Return (Some (Cast (Binary (Literal (pos 1) Isize) Add (Literal (pos 1) Isize)) (Integer I32))) ∷ []) }) ∷ FunctionItem (record { attribute = Mangled; name = codes "run_static_initializers"; params = []; result = None; locals = []; body = stmts ([]) }) ∷ [] } ∷ []; entry = 0 }) ≡ None
unfolding known_table
add_isize = refl

add_truths : first_ill (record { modules = record { name = codes "a"; items = FunctionItem (record { attribute = Mangled; name = codes "main_0"; params = []; result = Some (Integer I32); locals = []; body = stmts (Return (Some (Cast (Binary (Truth true) Add (Truth true)) (Integer I32))) ∷ []) }) ∷ FunctionItem (record { attribute = Mangled; name = codes "run_static_initializers"; params = []; result = None; locals = []; body = stmts ([]) }) ∷ [] } ∷ []; entry = 0 }) ≡ Some (record { mod_number = 0; item_number = 0 })
unfolding known_table
add_truths = refl

add_pointers : first_ill (record { modules = record { name = codes "a"; items = FunctionItem (record { attribute = Mangled; name = codes "main_0"; params = []; result = Some (Integer I32); locals = record { name = codes "p"; ty = Pointer (Integer I32) } ∷ []; body = stmts (Return (Some (Cast (IsNull (Binary (Read (Local (codes "p"))) Add (Read (Local (codes "p"))))) (Integer I32))) ∷ []) }) ∷ FunctionItem (record { attribute = Mangled; name = codes "run_static_initializers"; params = []; result = None; locals = []; body = stmts ([]) }) ∷ [] } ∷ []; entry = 0 }) ≡ Some (record { mod_number = 0; item_number = 0 })
unfolding known_table
add_pointers = refl

add_two_widths : first_ill (record { modules = record { name = codes "a"; items = FunctionItem (record { attribute = Mangled; name = codes "main_0"; params = []; result = Some (Integer I32); locals = []; body = stmts (Return (Some (Cast (Binary (Literal (pos 1) I64) Add (Literal (pos 1) Isize)) (Integer I32))) ∷ []) }) ∷ FunctionItem (record { attribute = Mangled; name = codes "run_static_initializers"; params = []; result = None; locals = []; body = stmts ([]) }) ∷ [] } ∷ []; entry = 0 }) ≡ Some (record { mod_number = 0; item_number = 0 })
unfolding known_table
add_two_widths = refl

sub_isize : first_ill (record { modules = record { name = codes "a"; items = FunctionItem (record { attribute = Mangled; name = codes "main_0"; params = []; result = Some (Integer I32); locals = []; body = stmts (Return (Some (Cast (Binary (Literal (pos 1) Isize) Sub (Literal (pos 1) Isize)) (Integer I32))) ∷ []) }) ∷ FunctionItem (record { attribute = Mangled; name = codes "run_static_initializers"; params = []; result = None; locals = []; body = stmts ([]) }) ∷ [] } ∷ []; entry = 0 }) ≡ None
unfolding known_table
sub_isize = refl

sub_truths : first_ill (record { modules = record { name = codes "a"; items = FunctionItem (record { attribute = Mangled; name = codes "main_0"; params = []; result = Some (Integer I32); locals = []; body = stmts (Return (Some (Cast (Binary (Truth true) Sub (Truth true)) (Integer I32))) ∷ []) }) ∷ FunctionItem (record { attribute = Mangled; name = codes "run_static_initializers"; params = []; result = None; locals = []; body = stmts ([]) }) ∷ [] } ∷ []; entry = 0 }) ≡ Some (record { mod_number = 0; item_number = 0 })
unfolding known_table
sub_truths = refl

sub_pointers : first_ill (record { modules = record { name = codes "a"; items = FunctionItem (record { attribute = Mangled; name = codes "main_0"; params = []; result = Some (Integer I32); locals = record { name = codes "p"; ty = Pointer (Integer I32) } ∷ []; body = stmts (Return (Some (Cast (IsNull (Binary (Read (Local (codes "p"))) Sub (Read (Local (codes "p"))))) (Integer I32))) ∷ []) }) ∷ FunctionItem (record { attribute = Mangled; name = codes "run_static_initializers"; params = []; result = None; locals = []; body = stmts ([]) }) ∷ [] } ∷ []; entry = 0 }) ≡ Some (record { mod_number = 0; item_number = 0 })
unfolding known_table
sub_pointers = refl

sub_two_widths : first_ill (record { modules = record { name = codes "a"; items = FunctionItem (record { attribute = Mangled; name = codes "main_0"; params = []; result = Some (Integer I32); locals = []; body = stmts (Return (Some (Cast (Binary (Literal (pos 1) I64) Sub (Literal (pos 1) Isize)) (Integer I32))) ∷ []) }) ∷ FunctionItem (record { attribute = Mangled; name = codes "run_static_initializers"; params = []; result = None; locals = []; body = stmts ([]) }) ∷ [] } ∷ []; entry = 0 }) ≡ Some (record { mod_number = 0; item_number = 0 })
unfolding known_table
sub_two_widths = refl

mul_isize : first_ill (record { modules = record { name = codes "a"; items = FunctionItem (record { attribute = Mangled; name = codes "main_0"; params = []; result = Some (Integer I32); locals = []; body = stmts (Return (Some (Cast (Binary (Literal (pos 1) Isize) Mul (Literal (pos 1) Isize)) (Integer I32))) ∷ []) }) ∷ FunctionItem (record { attribute = Mangled; name = codes "run_static_initializers"; params = []; result = None; locals = []; body = stmts ([]) }) ∷ [] } ∷ []; entry = 0 }) ≡ None
unfolding known_table
mul_isize = refl

mul_truths : first_ill (record { modules = record { name = codes "a"; items = FunctionItem (record { attribute = Mangled; name = codes "main_0"; params = []; result = Some (Integer I32); locals = []; body = stmts (Return (Some (Cast (Binary (Truth true) Mul (Truth true)) (Integer I32))) ∷ []) }) ∷ FunctionItem (record { attribute = Mangled; name = codes "run_static_initializers"; params = []; result = None; locals = []; body = stmts ([]) }) ∷ [] } ∷ []; entry = 0 }) ≡ Some (record { mod_number = 0; item_number = 0 })
unfolding known_table
mul_truths = refl

mul_pointers : first_ill (record { modules = record { name = codes "a"; items = FunctionItem (record { attribute = Mangled; name = codes "main_0"; params = []; result = Some (Integer I32); locals = record { name = codes "p"; ty = Pointer (Integer I32) } ∷ []; body = stmts (Return (Some (Cast (IsNull (Binary (Read (Local (codes "p"))) Mul (Read (Local (codes "p"))))) (Integer I32))) ∷ []) }) ∷ FunctionItem (record { attribute = Mangled; name = codes "run_static_initializers"; params = []; result = None; locals = []; body = stmts ([]) }) ∷ [] } ∷ []; entry = 0 }) ≡ Some (record { mod_number = 0; item_number = 0 })
unfolding known_table
mul_pointers = refl

mul_two_widths : first_ill (record { modules = record { name = codes "a"; items = FunctionItem (record { attribute = Mangled; name = codes "main_0"; params = []; result = Some (Integer I32); locals = []; body = stmts (Return (Some (Cast (Binary (Literal (pos 1) I64) Mul (Literal (pos 1) Isize)) (Integer I32))) ∷ []) }) ∷ FunctionItem (record { attribute = Mangled; name = codes "run_static_initializers"; params = []; result = None; locals = []; body = stmts ([]) }) ∷ [] } ∷ []; entry = 0 }) ≡ Some (record { mod_number = 0; item_number = 0 })
unfolding known_table
mul_two_widths = refl

div_isize : first_ill (record { modules = record { name = codes "a"; items = FunctionItem (record { attribute = Mangled; name = codes "main_0"; params = []; result = Some (Integer I32); locals = []; body = stmts (Return (Some (Cast (Binary (Literal (pos 1) Isize) Div (Literal (pos 1) Isize)) (Integer I32))) ∷ []) }) ∷ FunctionItem (record { attribute = Mangled; name = codes "run_static_initializers"; params = []; result = None; locals = []; body = stmts ([]) }) ∷ [] } ∷ []; entry = 0 }) ≡ None
unfolding known_table
div_isize = refl

div_truths : first_ill (record { modules = record { name = codes "a"; items = FunctionItem (record { attribute = Mangled; name = codes "main_0"; params = []; result = Some (Integer I32); locals = []; body = stmts (Return (Some (Cast (Binary (Truth true) Div (Truth true)) (Integer I32))) ∷ []) }) ∷ FunctionItem (record { attribute = Mangled; name = codes "run_static_initializers"; params = []; result = None; locals = []; body = stmts ([]) }) ∷ [] } ∷ []; entry = 0 }) ≡ Some (record { mod_number = 0; item_number = 0 })
unfolding known_table
div_truths = refl

div_pointers : first_ill (record { modules = record { name = codes "a"; items = FunctionItem (record { attribute = Mangled; name = codes "main_0"; params = []; result = Some (Integer I32); locals = record { name = codes "p"; ty = Pointer (Integer I32) } ∷ []; body = stmts (Return (Some (Cast (IsNull (Binary (Read (Local (codes "p"))) Div (Read (Local (codes "p"))))) (Integer I32))) ∷ []) }) ∷ FunctionItem (record { attribute = Mangled; name = codes "run_static_initializers"; params = []; result = None; locals = []; body = stmts ([]) }) ∷ [] } ∷ []; entry = 0 }) ≡ Some (record { mod_number = 0; item_number = 0 })
unfolding known_table
div_pointers = refl

div_two_widths : first_ill (record { modules = record { name = codes "a"; items = FunctionItem (record { attribute = Mangled; name = codes "main_0"; params = []; result = Some (Integer I32); locals = []; body = stmts (Return (Some (Cast (Binary (Literal (pos 1) I64) Div (Literal (pos 1) Isize)) (Integer I32))) ∷ []) }) ∷ FunctionItem (record { attribute = Mangled; name = codes "run_static_initializers"; params = []; result = None; locals = []; body = stmts ([]) }) ∷ [] } ∷ []; entry = 0 }) ≡ Some (record { mod_number = 0; item_number = 0 })
unfolding known_table
div_two_widths = refl

rem_isize : first_ill (record { modules = record { name = codes "a"; items = FunctionItem (record { attribute = Mangled; name = codes "main_0"; params = []; result = Some (Integer I32); locals = []; body = stmts (Return (Some (Cast (Binary (Literal (pos 1) Isize) Rem (Literal (pos 1) Isize)) (Integer I32))) ∷ []) }) ∷ FunctionItem (record { attribute = Mangled; name = codes "run_static_initializers"; params = []; result = None; locals = []; body = stmts ([]) }) ∷ [] } ∷ []; entry = 0 }) ≡ None
unfolding known_table
rem_isize = refl

rem_truths : first_ill (record { modules = record { name = codes "a"; items = FunctionItem (record { attribute = Mangled; name = codes "main_0"; params = []; result = Some (Integer I32); locals = []; body = stmts (Return (Some (Cast (Binary (Truth true) Rem (Truth true)) (Integer I32))) ∷ []) }) ∷ FunctionItem (record { attribute = Mangled; name = codes "run_static_initializers"; params = []; result = None; locals = []; body = stmts ([]) }) ∷ [] } ∷ []; entry = 0 }) ≡ Some (record { mod_number = 0; item_number = 0 })
unfolding known_table
rem_truths = refl

rem_pointers : first_ill (record { modules = record { name = codes "a"; items = FunctionItem (record { attribute = Mangled; name = codes "main_0"; params = []; result = Some (Integer I32); locals = record { name = codes "p"; ty = Pointer (Integer I32) } ∷ []; body = stmts (Return (Some (Cast (IsNull (Binary (Read (Local (codes "p"))) Rem (Read (Local (codes "p"))))) (Integer I32))) ∷ []) }) ∷ FunctionItem (record { attribute = Mangled; name = codes "run_static_initializers"; params = []; result = None; locals = []; body = stmts ([]) }) ∷ [] } ∷ []; entry = 0 }) ≡ Some (record { mod_number = 0; item_number = 0 })
unfolding known_table
rem_pointers = refl

rem_two_widths : first_ill (record { modules = record { name = codes "a"; items = FunctionItem (record { attribute = Mangled; name = codes "main_0"; params = []; result = Some (Integer I32); locals = []; body = stmts (Return (Some (Cast (Binary (Literal (pos 1) I64) Rem (Literal (pos 1) Isize)) (Integer I32))) ∷ []) }) ∷ FunctionItem (record { attribute = Mangled; name = codes "run_static_initializers"; params = []; result = None; locals = []; body = stmts ([]) }) ∷ [] } ∷ []; entry = 0 }) ≡ Some (record { mod_number = 0; item_number = 0 })
unfolding known_table
rem_two_widths = refl

bitand_truths : first_ill (record { modules = record { name = codes "a"; items = FunctionItem (record { attribute = Mangled; name = codes "main_0"; params = []; result = Some (Integer I32); locals = []; body = stmts (Return (Some (Cast (Binary (Truth true) BitAnd (Truth false)) (Integer I32))) ∷ []) }) ∷ FunctionItem (record { attribute = Mangled; name = codes "run_static_initializers"; params = []; result = None; locals = []; body = stmts ([]) }) ∷ [] } ∷ []; entry = 0 }) ≡ None
unfolding known_table
bitand_truths = refl

bitand_numbers : first_ill (record { modules = record { name = codes "a"; items = FunctionItem (record { attribute = Mangled; name = codes "main_0"; params = []; result = Some (Integer I32); locals = []; body = stmts (Return (Some (Cast (Binary (Literal (pos 1) U8) BitAnd (Literal (pos 1) U8)) (Integer I32))) ∷ []) }) ∷ FunctionItem (record { attribute = Mangled; name = codes "run_static_initializers"; params = []; result = None; locals = []; body = stmts ([]) }) ∷ [] } ∷ []; entry = 0 }) ≡ None
unfolding known_table
bitand_numbers = refl

bitand_mixed : first_ill (record { modules = record { name = codes "a"; items = FunctionItem (record { attribute = Mangled; name = codes "main_0"; params = []; result = Some (Integer I32); locals = []; body = stmts (Return (Some (Cast (Binary (Literal (pos 1) I32) BitAnd (Truth true)) (Integer I32))) ∷ []) }) ∷ FunctionItem (record { attribute = Mangled; name = codes "run_static_initializers"; params = []; result = None; locals = []; body = stmts ([]) }) ∷ [] } ∷ []; entry = 0 }) ≡ Some (record { mod_number = 0; item_number = 0 })
unfolding known_table
bitand_mixed = refl

bitand_pointers : first_ill (record { modules = record { name = codes "a"; items = FunctionItem (record { attribute = Mangled; name = codes "main_0"; params = []; result = Some (Integer I32); locals = record { name = codes "p"; ty = Pointer (Integer I32) } ∷ []; body = stmts (Return (Some (Cast (IsNull (Binary (Read (Local (codes "p"))) BitAnd (Read (Local (codes "p"))))) (Integer I32))) ∷ []) }) ∷ FunctionItem (record { attribute = Mangled; name = codes "run_static_initializers"; params = []; result = None; locals = []; body = stmts ([]) }) ∷ [] } ∷ []; entry = 0 }) ≡ Some (record { mod_number = 0; item_number = 0 })
unfolding known_table
bitand_pointers = refl

bitor_truths : first_ill (record { modules = record { name = codes "a"; items = FunctionItem (record { attribute = Mangled; name = codes "main_0"; params = []; result = Some (Integer I32); locals = []; body = stmts (Return (Some (Cast (Binary (Truth true) BitOr (Truth false)) (Integer I32))) ∷ []) }) ∷ FunctionItem (record { attribute = Mangled; name = codes "run_static_initializers"; params = []; result = None; locals = []; body = stmts ([]) }) ∷ [] } ∷ []; entry = 0 }) ≡ None
unfolding known_table
bitor_truths = refl

bitor_numbers : first_ill (record { modules = record { name = codes "a"; items = FunctionItem (record { attribute = Mangled; name = codes "main_0"; params = []; result = Some (Integer I32); locals = []; body = stmts (Return (Some (Cast (Binary (Literal (pos 1) U8) BitOr (Literal (pos 1) U8)) (Integer I32))) ∷ []) }) ∷ FunctionItem (record { attribute = Mangled; name = codes "run_static_initializers"; params = []; result = None; locals = []; body = stmts ([]) }) ∷ [] } ∷ []; entry = 0 }) ≡ None
unfolding known_table
bitor_numbers = refl

bitor_mixed : first_ill (record { modules = record { name = codes "a"; items = FunctionItem (record { attribute = Mangled; name = codes "main_0"; params = []; result = Some (Integer I32); locals = []; body = stmts (Return (Some (Cast (Binary (Literal (pos 1) I32) BitOr (Truth true)) (Integer I32))) ∷ []) }) ∷ FunctionItem (record { attribute = Mangled; name = codes "run_static_initializers"; params = []; result = None; locals = []; body = stmts ([]) }) ∷ [] } ∷ []; entry = 0 }) ≡ Some (record { mod_number = 0; item_number = 0 })
unfolding known_table
bitor_mixed = refl

bitor_pointers : first_ill (record { modules = record { name = codes "a"; items = FunctionItem (record { attribute = Mangled; name = codes "main_0"; params = []; result = Some (Integer I32); locals = record { name = codes "p"; ty = Pointer (Integer I32) } ∷ []; body = stmts (Return (Some (Cast (IsNull (Binary (Read (Local (codes "p"))) BitOr (Read (Local (codes "p"))))) (Integer I32))) ∷ []) }) ∷ FunctionItem (record { attribute = Mangled; name = codes "run_static_initializers"; params = []; result = None; locals = []; body = stmts ([]) }) ∷ [] } ∷ []; entry = 0 }) ≡ Some (record { mod_number = 0; item_number = 0 })
unfolding known_table
bitor_pointers = refl

bitxor_truths : first_ill (record { modules = record { name = codes "a"; items = FunctionItem (record { attribute = Mangled; name = codes "main_0"; params = []; result = Some (Integer I32); locals = []; body = stmts (Return (Some (Cast (Binary (Truth true) BitXor (Truth false)) (Integer I32))) ∷ []) }) ∷ FunctionItem (record { attribute = Mangled; name = codes "run_static_initializers"; params = []; result = None; locals = []; body = stmts ([]) }) ∷ [] } ∷ []; entry = 0 }) ≡ None
unfolding known_table
bitxor_truths = refl

bitxor_numbers : first_ill (record { modules = record { name = codes "a"; items = FunctionItem (record { attribute = Mangled; name = codes "main_0"; params = []; result = Some (Integer I32); locals = []; body = stmts (Return (Some (Cast (Binary (Literal (pos 1) U8) BitXor (Literal (pos 1) U8)) (Integer I32))) ∷ []) }) ∷ FunctionItem (record { attribute = Mangled; name = codes "run_static_initializers"; params = []; result = None; locals = []; body = stmts ([]) }) ∷ [] } ∷ []; entry = 0 }) ≡ None
unfolding known_table
bitxor_numbers = refl

bitxor_mixed : first_ill (record { modules = record { name = codes "a"; items = FunctionItem (record { attribute = Mangled; name = codes "main_0"; params = []; result = Some (Integer I32); locals = []; body = stmts (Return (Some (Cast (Binary (Literal (pos 1) I32) BitXor (Truth true)) (Integer I32))) ∷ []) }) ∷ FunctionItem (record { attribute = Mangled; name = codes "run_static_initializers"; params = []; result = None; locals = []; body = stmts ([]) }) ∷ [] } ∷ []; entry = 0 }) ≡ Some (record { mod_number = 0; item_number = 0 })
unfolding known_table
bitxor_mixed = refl

bitxor_pointers : first_ill (record { modules = record { name = codes "a"; items = FunctionItem (record { attribute = Mangled; name = codes "main_0"; params = []; result = Some (Integer I32); locals = record { name = codes "p"; ty = Pointer (Integer I32) } ∷ []; body = stmts (Return (Some (Cast (IsNull (Binary (Read (Local (codes "p"))) BitXor (Read (Local (codes "p"))))) (Integer I32))) ∷ []) }) ∷ FunctionItem (record { attribute = Mangled; name = codes "run_static_initializers"; params = []; result = None; locals = []; body = stmts ([]) }) ∷ [] } ∷ []; entry = 0 }) ≡ Some (record { mod_number = 0; item_number = 0 })
unfolding known_table
bitxor_pointers = refl

shl_u64 : first_ill (record { modules = record { name = codes "a"; items = FunctionItem (record { attribute = Mangled; name = codes "main_0"; params = []; result = Some (Integer I32); locals = []; body = stmts (Return (Some (Cast (Binary (Literal (pos 1) U64) Shl (Literal (pos 1) U32)) (Integer I32))) ∷ []) }) ∷ FunctionItem (record { attribute = Mangled; name = codes "run_static_initializers"; params = []; result = None; locals = []; body = stmts ([]) }) ∷ [] } ∷ []; entry = 0 }) ≡ None
unfolding known_table
shl_u64 = refl

shl_truth : first_ill (record { modules = record { name = codes "a"; items = FunctionItem (record { attribute = Mangled; name = codes "main_0"; params = []; result = Some (Integer I32); locals = []; body = stmts (Return (Some (Cast (Binary (Truth true) Shl (Literal (pos 1) U32)) (Integer I32))) ∷ []) }) ∷ FunctionItem (record { attribute = Mangled; name = codes "run_static_initializers"; params = []; result = None; locals = []; body = stmts ([]) }) ∷ [] } ∷ []; entry = 0 }) ≡ Some (record { mod_number = 0; item_number = 0 })
unfolding known_table
shl_truth = refl

shl_by_u64 : first_ill (record { modules = record { name = codes "a"; items = FunctionItem (record { attribute = Mangled; name = codes "main_0"; params = []; result = Some (Integer I32); locals = []; body = stmts (Return (Some (Cast (Binary (Literal (pos 1) U64) Shl (Literal (pos 1) U64)) (Integer I32))) ∷ []) }) ∷ FunctionItem (record { attribute = Mangled; name = codes "run_static_initializers"; params = []; result = None; locals = []; body = stmts ([]) }) ∷ [] } ∷ []; entry = 0 }) ≡ Some (record { mod_number = 0; item_number = 0 })
unfolding known_table
shl_by_u64 = refl

shr_u64 : first_ill (record { modules = record { name = codes "a"; items = FunctionItem (record { attribute = Mangled; name = codes "main_0"; params = []; result = Some (Integer I32); locals = []; body = stmts (Return (Some (Cast (Binary (Literal (pos 1) U64) Shr (Literal (pos 1) U32)) (Integer I32))) ∷ []) }) ∷ FunctionItem (record { attribute = Mangled; name = codes "run_static_initializers"; params = []; result = None; locals = []; body = stmts ([]) }) ∷ [] } ∷ []; entry = 0 }) ≡ None
unfolding known_table
shr_u64 = refl

shr_truth : first_ill (record { modules = record { name = codes "a"; items = FunctionItem (record { attribute = Mangled; name = codes "main_0"; params = []; result = Some (Integer I32); locals = []; body = stmts (Return (Some (Cast (Binary (Truth true) Shr (Literal (pos 1) U32)) (Integer I32))) ∷ []) }) ∷ FunctionItem (record { attribute = Mangled; name = codes "run_static_initializers"; params = []; result = None; locals = []; body = stmts ([]) }) ∷ [] } ∷ []; entry = 0 }) ≡ Some (record { mod_number = 0; item_number = 0 })
unfolding known_table
shr_truth = refl

shr_by_u64 : first_ill (record { modules = record { name = codes "a"; items = FunctionItem (record { attribute = Mangled; name = codes "main_0"; params = []; result = Some (Integer I32); locals = []; body = stmts (Return (Some (Cast (Binary (Literal (pos 1) U64) Shr (Literal (pos 1) U64)) (Integer I32))) ∷ []) }) ∷ FunctionItem (record { attribute = Mangled; name = codes "run_static_initializers"; params = []; result = None; locals = []; body = stmts ([]) }) ∷ [] } ∷ []; entry = 0 }) ≡ Some (record { mod_number = 0; item_number = 0 })
unfolding known_table
shr_by_u64 = refl

equal_truths : first_ill (record { modules = record { name = codes "a"; items = FunctionItem (record { attribute = Mangled; name = codes "main_0"; params = []; result = Some (Integer I32); locals = []; body = stmts (Return (Some (Cast (Binary (Truth true) Equal (Truth false)) (Integer I32))) ∷ []) }) ∷ FunctionItem (record { attribute = Mangled; name = codes "run_static_initializers"; params = []; result = None; locals = []; body = stmts ([]) }) ∷ [] } ∷ []; entry = 0 }) ≡ None
unfolding known_table
equal_truths = refl

equal_numbers : first_ill (record { modules = record { name = codes "a"; items = FunctionItem (record { attribute = Mangled; name = codes "main_0"; params = []; result = Some (Integer I32); locals = []; body = stmts (Return (Some (Cast (Binary (Literal (pos 1) U8) Equal (Literal (pos 2) U8)) (Integer I32))) ∷ []) }) ∷ FunctionItem (record { attribute = Mangled; name = codes "run_static_initializers"; params = []; result = None; locals = []; body = stmts ([]) }) ∷ [] } ∷ []; entry = 0 }) ≡ None
unfolding known_table
equal_numbers = refl

equal_pointers : first_ill (record { modules = record { name = codes "a"; items = FunctionItem (record { attribute = Mangled; name = codes "main_0"; params = []; result = Some (Integer I32); locals = record { name = codes "p"; ty = Pointer (Integer I32) } ∷ []; body = stmts (Return (Some (Cast (Binary (Read (Local (codes "p"))) Equal (Read (Local (codes "p")))) (Integer I32))) ∷ []) }) ∷ FunctionItem (record { attribute = Mangled; name = codes "run_static_initializers"; params = []; result = None; locals = []; body = stmts ([]) }) ∷ [] } ∷ []; entry = 0 }) ≡ None
unfolding known_table
equal_pointers = refl

equal_functions : first_ill (record { modules = record { name = codes "a"; items = FunctionItem (record { attribute = Mangled; name = codes "main_0"; params = []; result = Some (Integer I32); locals = record { name = codes "f"; ty = Code (tys ([])) (no_ty) } ∷ []; body = stmts (Return (Some (Cast (Binary (Read (Local (codes "f"))) Equal (Read (Local (codes "f")))) (Integer I32))) ∷ []) }) ∷ FunctionItem (record { attribute = Mangled; name = codes "run_static_initializers"; params = []; result = None; locals = []; body = stmts ([]) }) ∷ [] } ∷ []; entry = 0 }) ≡ None
unfolding known_table
equal_functions = refl

equal_none : first_ill (record { modules = record { name = codes "a"; items = FunctionItem (record { attribute = Mangled; name = codes "main_0"; params = []; result = Some (Integer I32); locals = record { name = codes "f"; ty = Code (tys ([])) (no_ty) } ∷ []; body = stmts (Return (Some (Cast (Binary (NoFunction) Equal (Read (Local (codes "f")))) (Integer I32))) ∷ []) }) ∷ FunctionItem (record { attribute = Mangled; name = codes "run_static_initializers"; params = []; result = None; locals = []; body = stmts ([]) }) ∷ [] } ∷ []; entry = 0 }) ≡ None
unfolding known_table
equal_none = refl

equal_nones : first_ill (record { modules = record { name = codes "a"; items = FunctionItem (record { attribute = Mangled; name = codes "main_0"; params = []; result = Some (Integer I32); locals = []; body = stmts (Return (Some (Cast (Binary (NoFunction) Equal (NoFunction)) (Integer I32))) ∷ []) }) ∷ FunctionItem (record { attribute = Mangled; name = codes "run_static_initializers"; params = []; result = None; locals = []; body = stmts ([]) }) ∷ [] } ∷ []; entry = 0 }) ≡ Some (record { mod_number = 0; item_number = 0 })
unfolding known_table
equal_nones = refl

equal_two_pointers : first_ill (record { modules = record { name = codes "a"; items = FunctionItem (record { attribute = Mangled; name = codes "main_0"; params = []; result = Some (Integer I32); locals = record { name = codes "p"; ty = Pointer (Integer I32) } ∷ record { name = codes "q"; ty = Pointer (Integer U8) } ∷ []; body = stmts (Return (Some (Cast (Binary (Read (Local (codes "p"))) Equal (Read (Local (codes "q")))) (Integer I32))) ∷ []) }) ∷ FunctionItem (record { attribute = Mangled; name = codes "run_static_initializers"; params = []; result = None; locals = []; body = stmts ([]) }) ∷ [] } ∷ []; entry = 0 }) ≡ Some (record { mod_number = 0; item_number = 0 })
unfolding known_table
equal_two_pointers = refl

equal_none_and_pointer : first_ill (record { modules = record { name = codes "a"; items = FunctionItem (record { attribute = Mangled; name = codes "main_0"; params = []; result = Some (Integer I32); locals = record { name = codes "p"; ty = Pointer (Integer I32) } ∷ []; body = stmts (Return (Some (Cast (Binary (Read (Local (codes "p"))) Equal (NoFunction)) (Integer I32))) ∷ []) }) ∷ FunctionItem (record { attribute = Mangled; name = codes "run_static_initializers"; params = []; result = None; locals = []; body = stmts ([]) }) ∷ [] } ∷ []; entry = 0 }) ≡ Some (record { mod_number = 0; item_number = 0 })
unfolding known_table
equal_none_and_pointer = refl

notequal_truths : first_ill (record { modules = record { name = codes "a"; items = FunctionItem (record { attribute = Mangled; name = codes "main_0"; params = []; result = Some (Integer I32); locals = []; body = stmts (Return (Some (Cast (Binary (Truth true) NotEqual (Truth false)) (Integer I32))) ∷ []) }) ∷ FunctionItem (record { attribute = Mangled; name = codes "run_static_initializers"; params = []; result = None; locals = []; body = stmts ([]) }) ∷ [] } ∷ []; entry = 0 }) ≡ None
unfolding known_table
notequal_truths = refl

notequal_numbers : first_ill (record { modules = record { name = codes "a"; items = FunctionItem (record { attribute = Mangled; name = codes "main_0"; params = []; result = Some (Integer I32); locals = []; body = stmts (Return (Some (Cast (Binary (Literal (pos 1) U8) NotEqual (Literal (pos 2) U8)) (Integer I32))) ∷ []) }) ∷ FunctionItem (record { attribute = Mangled; name = codes "run_static_initializers"; params = []; result = None; locals = []; body = stmts ([]) }) ∷ [] } ∷ []; entry = 0 }) ≡ None
unfolding known_table
notequal_numbers = refl

notequal_pointers : first_ill (record { modules = record { name = codes "a"; items = FunctionItem (record { attribute = Mangled; name = codes "main_0"; params = []; result = Some (Integer I32); locals = record { name = codes "p"; ty = Pointer (Integer I32) } ∷ []; body = stmts (Return (Some (Cast (Binary (Read (Local (codes "p"))) NotEqual (Read (Local (codes "p")))) (Integer I32))) ∷ []) }) ∷ FunctionItem (record { attribute = Mangled; name = codes "run_static_initializers"; params = []; result = None; locals = []; body = stmts ([]) }) ∷ [] } ∷ []; entry = 0 }) ≡ None
unfolding known_table
notequal_pointers = refl

notequal_functions : first_ill (record { modules = record { name = codes "a"; items = FunctionItem (record { attribute = Mangled; name = codes "main_0"; params = []; result = Some (Integer I32); locals = record { name = codes "f"; ty = Code (tys ([])) (no_ty) } ∷ []; body = stmts (Return (Some (Cast (Binary (Read (Local (codes "f"))) NotEqual (Read (Local (codes "f")))) (Integer I32))) ∷ []) }) ∷ FunctionItem (record { attribute = Mangled; name = codes "run_static_initializers"; params = []; result = None; locals = []; body = stmts ([]) }) ∷ [] } ∷ []; entry = 0 }) ≡ None
unfolding known_table
notequal_functions = refl

notequal_none : first_ill (record { modules = record { name = codes "a"; items = FunctionItem (record { attribute = Mangled; name = codes "main_0"; params = []; result = Some (Integer I32); locals = record { name = codes "f"; ty = Code (tys ([])) (no_ty) } ∷ []; body = stmts (Return (Some (Cast (Binary (NoFunction) NotEqual (Read (Local (codes "f")))) (Integer I32))) ∷ []) }) ∷ FunctionItem (record { attribute = Mangled; name = codes "run_static_initializers"; params = []; result = None; locals = []; body = stmts ([]) }) ∷ [] } ∷ []; entry = 0 }) ≡ None
unfolding known_table
notequal_none = refl

notequal_nones : first_ill (record { modules = record { name = codes "a"; items = FunctionItem (record { attribute = Mangled; name = codes "main_0"; params = []; result = Some (Integer I32); locals = []; body = stmts (Return (Some (Cast (Binary (NoFunction) NotEqual (NoFunction)) (Integer I32))) ∷ []) }) ∷ FunctionItem (record { attribute = Mangled; name = codes "run_static_initializers"; params = []; result = None; locals = []; body = stmts ([]) }) ∷ [] } ∷ []; entry = 0 }) ≡ Some (record { mod_number = 0; item_number = 0 })
unfolding known_table
notequal_nones = refl

notequal_two_pointers : first_ill (record { modules = record { name = codes "a"; items = FunctionItem (record { attribute = Mangled; name = codes "main_0"; params = []; result = Some (Integer I32); locals = record { name = codes "p"; ty = Pointer (Integer I32) } ∷ record { name = codes "q"; ty = Pointer (Integer U8) } ∷ []; body = stmts (Return (Some (Cast (Binary (Read (Local (codes "p"))) NotEqual (Read (Local (codes "q")))) (Integer I32))) ∷ []) }) ∷ FunctionItem (record { attribute = Mangled; name = codes "run_static_initializers"; params = []; result = None; locals = []; body = stmts ([]) }) ∷ [] } ∷ []; entry = 0 }) ≡ Some (record { mod_number = 0; item_number = 0 })
unfolding known_table
notequal_two_pointers = refl

notequal_none_and_pointer : first_ill (record { modules = record { name = codes "a"; items = FunctionItem (record { attribute = Mangled; name = codes "main_0"; params = []; result = Some (Integer I32); locals = record { name = codes "p"; ty = Pointer (Integer I32) } ∷ []; body = stmts (Return (Some (Cast (Binary (Read (Local (codes "p"))) NotEqual (NoFunction)) (Integer I32))) ∷ []) }) ∷ FunctionItem (record { attribute = Mangled; name = codes "run_static_initializers"; params = []; result = None; locals = []; body = stmts ([]) }) ∷ [] } ∷ []; entry = 0 }) ≡ Some (record { mod_number = 0; item_number = 0 })
unfolding known_table
notequal_none_and_pointer = refl

less_numbers : first_ill (record { modules = record { name = codes "a"; items = FunctionItem (record { attribute = Mangled; name = codes "main_0"; params = []; result = Some (Integer I32); locals = []; body = stmts (Return (Some (Cast (Binary (Literal (pos 1) U8) Less (Literal (pos 2) U8)) (Integer I32))) ∷ []) }) ∷ FunctionItem (record { attribute = Mangled; name = codes "run_static_initializers"; params = []; result = None; locals = []; body = stmts ([]) }) ∷ [] } ∷ []; entry = 0 }) ≡ None
unfolding known_table
less_numbers = refl

less_pointers : first_ill (record { modules = record { name = codes "a"; items = FunctionItem (record { attribute = Mangled; name = codes "main_0"; params = []; result = Some (Integer I32); locals = record { name = codes "p"; ty = Pointer (Integer I32) } ∷ []; body = stmts (Return (Some (Cast (Binary (Read (Local (codes "p"))) Less (Read (Local (codes "p")))) (Integer I32))) ∷ []) }) ∷ FunctionItem (record { attribute = Mangled; name = codes "run_static_initializers"; params = []; result = None; locals = []; body = stmts ([]) }) ∷ [] } ∷ []; entry = 0 }) ≡ None
unfolding known_table
less_pointers = refl

less_truths : first_ill (record { modules = record { name = codes "a"; items = FunctionItem (record { attribute = Mangled; name = codes "main_0"; params = []; result = Some (Integer I32); locals = []; body = stmts (Return (Some (Cast (Binary (Truth true) Less (Truth false)) (Integer I32))) ∷ []) }) ∷ FunctionItem (record { attribute = Mangled; name = codes "run_static_initializers"; params = []; result = None; locals = []; body = stmts ([]) }) ∷ [] } ∷ []; entry = 0 }) ≡ Some (record { mod_number = 0; item_number = 0 })
unfolding known_table
less_truths = refl

less_functions : first_ill (record { modules = record { name = codes "a"; items = FunctionItem (record { attribute = Mangled; name = codes "main_0"; params = []; result = Some (Integer I32); locals = record { name = codes "f"; ty = Code (tys ([])) (no_ty) } ∷ []; body = stmts (Return (Some (Cast (Binary (Read (Local (codes "f"))) Less (Read (Local (codes "f")))) (Integer I32))) ∷ []) }) ∷ FunctionItem (record { attribute = Mangled; name = codes "run_static_initializers"; params = []; result = None; locals = []; body = stmts ([]) }) ∷ [] } ∷ []; entry = 0 }) ≡ Some (record { mod_number = 0; item_number = 0 })
unfolding known_table
less_functions = refl

less_two_types : first_ill (record { modules = record { name = codes "a"; items = FunctionItem (record { attribute = Mangled; name = codes "main_0"; params = []; result = Some (Integer I32); locals = []; body = stmts (Return (Some (Cast (Binary (Literal (pos 1) U8) Less (Literal (pos 1) I8)) (Integer I32))) ∷ []) }) ∷ FunctionItem (record { attribute = Mangled; name = codes "run_static_initializers"; params = []; result = None; locals = []; body = stmts ([]) }) ∷ [] } ∷ []; entry = 0 }) ≡ Some (record { mod_number = 0; item_number = 0 })
unfolding known_table
less_two_types = refl

lessequal_numbers : first_ill (record { modules = record { name = codes "a"; items = FunctionItem (record { attribute = Mangled; name = codes "main_0"; params = []; result = Some (Integer I32); locals = []; body = stmts (Return (Some (Cast (Binary (Literal (pos 1) U8) LessEqual (Literal (pos 2) U8)) (Integer I32))) ∷ []) }) ∷ FunctionItem (record { attribute = Mangled; name = codes "run_static_initializers"; params = []; result = None; locals = []; body = stmts ([]) }) ∷ [] } ∷ []; entry = 0 }) ≡ None
unfolding known_table
lessequal_numbers = refl

lessequal_pointers : first_ill (record { modules = record { name = codes "a"; items = FunctionItem (record { attribute = Mangled; name = codes "main_0"; params = []; result = Some (Integer I32); locals = record { name = codes "p"; ty = Pointer (Integer I32) } ∷ []; body = stmts (Return (Some (Cast (Binary (Read (Local (codes "p"))) LessEqual (Read (Local (codes "p")))) (Integer I32))) ∷ []) }) ∷ FunctionItem (record { attribute = Mangled; name = codes "run_static_initializers"; params = []; result = None; locals = []; body = stmts ([]) }) ∷ [] } ∷ []; entry = 0 }) ≡ None
unfolding known_table
lessequal_pointers = refl

lessequal_truths : first_ill (record { modules = record { name = codes "a"; items = FunctionItem (record { attribute = Mangled; name = codes "main_0"; params = []; result = Some (Integer I32); locals = []; body = stmts (Return (Some (Cast (Binary (Truth true) LessEqual (Truth false)) (Integer I32))) ∷ []) }) ∷ FunctionItem (record { attribute = Mangled; name = codes "run_static_initializers"; params = []; result = None; locals = []; body = stmts ([]) }) ∷ [] } ∷ []; entry = 0 }) ≡ Some (record { mod_number = 0; item_number = 0 })
unfolding known_table
lessequal_truths = refl

lessequal_functions : first_ill (record { modules = record { name = codes "a"; items = FunctionItem (record { attribute = Mangled; name = codes "main_0"; params = []; result = Some (Integer I32); locals = record { name = codes "f"; ty = Code (tys ([])) (no_ty) } ∷ []; body = stmts (Return (Some (Cast (Binary (Read (Local (codes "f"))) LessEqual (Read (Local (codes "f")))) (Integer I32))) ∷ []) }) ∷ FunctionItem (record { attribute = Mangled; name = codes "run_static_initializers"; params = []; result = None; locals = []; body = stmts ([]) }) ∷ [] } ∷ []; entry = 0 }) ≡ Some (record { mod_number = 0; item_number = 0 })
unfolding known_table
lessequal_functions = refl

lessequal_two_types : first_ill (record { modules = record { name = codes "a"; items = FunctionItem (record { attribute = Mangled; name = codes "main_0"; params = []; result = Some (Integer I32); locals = []; body = stmts (Return (Some (Cast (Binary (Literal (pos 1) U8) LessEqual (Literal (pos 1) I8)) (Integer I32))) ∷ []) }) ∷ FunctionItem (record { attribute = Mangled; name = codes "run_static_initializers"; params = []; result = None; locals = []; body = stmts ([]) }) ∷ [] } ∷ []; entry = 0 }) ≡ Some (record { mod_number = 0; item_number = 0 })
unfolding known_table
lessequal_two_types = refl

greater_numbers : first_ill (record { modules = record { name = codes "a"; items = FunctionItem (record { attribute = Mangled; name = codes "main_0"; params = []; result = Some (Integer I32); locals = []; body = stmts (Return (Some (Cast (Binary (Literal (pos 1) U8) Greater (Literal (pos 2) U8)) (Integer I32))) ∷ []) }) ∷ FunctionItem (record { attribute = Mangled; name = codes "run_static_initializers"; params = []; result = None; locals = []; body = stmts ([]) }) ∷ [] } ∷ []; entry = 0 }) ≡ None
unfolding known_table
greater_numbers = refl

greater_pointers : first_ill (record { modules = record { name = codes "a"; items = FunctionItem (record { attribute = Mangled; name = codes "main_0"; params = []; result = Some (Integer I32); locals = record { name = codes "p"; ty = Pointer (Integer I32) } ∷ []; body = stmts (Return (Some (Cast (Binary (Read (Local (codes "p"))) Greater (Read (Local (codes "p")))) (Integer I32))) ∷ []) }) ∷ FunctionItem (record { attribute = Mangled; name = codes "run_static_initializers"; params = []; result = None; locals = []; body = stmts ([]) }) ∷ [] } ∷ []; entry = 0 }) ≡ None
unfolding known_table
greater_pointers = refl

greater_truths : first_ill (record { modules = record { name = codes "a"; items = FunctionItem (record { attribute = Mangled; name = codes "main_0"; params = []; result = Some (Integer I32); locals = []; body = stmts (Return (Some (Cast (Binary (Truth true) Greater (Truth false)) (Integer I32))) ∷ []) }) ∷ FunctionItem (record { attribute = Mangled; name = codes "run_static_initializers"; params = []; result = None; locals = []; body = stmts ([]) }) ∷ [] } ∷ []; entry = 0 }) ≡ Some (record { mod_number = 0; item_number = 0 })
unfolding known_table
greater_truths = refl

greater_functions : first_ill (record { modules = record { name = codes "a"; items = FunctionItem (record { attribute = Mangled; name = codes "main_0"; params = []; result = Some (Integer I32); locals = record { name = codes "f"; ty = Code (tys ([])) (no_ty) } ∷ []; body = stmts (Return (Some (Cast (Binary (Read (Local (codes "f"))) Greater (Read (Local (codes "f")))) (Integer I32))) ∷ []) }) ∷ FunctionItem (record { attribute = Mangled; name = codes "run_static_initializers"; params = []; result = None; locals = []; body = stmts ([]) }) ∷ [] } ∷ []; entry = 0 }) ≡ Some (record { mod_number = 0; item_number = 0 })
unfolding known_table
greater_functions = refl

greater_two_types : first_ill (record { modules = record { name = codes "a"; items = FunctionItem (record { attribute = Mangled; name = codes "main_0"; params = []; result = Some (Integer I32); locals = []; body = stmts (Return (Some (Cast (Binary (Literal (pos 1) U8) Greater (Literal (pos 1) I8)) (Integer I32))) ∷ []) }) ∷ FunctionItem (record { attribute = Mangled; name = codes "run_static_initializers"; params = []; result = None; locals = []; body = stmts ([]) }) ∷ [] } ∷ []; entry = 0 }) ≡ Some (record { mod_number = 0; item_number = 0 })
unfolding known_table
greater_two_types = refl

greaterequal_numbers : first_ill (record { modules = record { name = codes "a"; items = FunctionItem (record { attribute = Mangled; name = codes "main_0"; params = []; result = Some (Integer I32); locals = []; body = stmts (Return (Some (Cast (Binary (Literal (pos 1) U8) GreaterEqual (Literal (pos 2) U8)) (Integer I32))) ∷ []) }) ∷ FunctionItem (record { attribute = Mangled; name = codes "run_static_initializers"; params = []; result = None; locals = []; body = stmts ([]) }) ∷ [] } ∷ []; entry = 0 }) ≡ None
unfolding known_table
greaterequal_numbers = refl

greaterequal_pointers : first_ill (record { modules = record { name = codes "a"; items = FunctionItem (record { attribute = Mangled; name = codes "main_0"; params = []; result = Some (Integer I32); locals = record { name = codes "p"; ty = Pointer (Integer I32) } ∷ []; body = stmts (Return (Some (Cast (Binary (Read (Local (codes "p"))) GreaterEqual (Read (Local (codes "p")))) (Integer I32))) ∷ []) }) ∷ FunctionItem (record { attribute = Mangled; name = codes "run_static_initializers"; params = []; result = None; locals = []; body = stmts ([]) }) ∷ [] } ∷ []; entry = 0 }) ≡ None
unfolding known_table
greaterequal_pointers = refl

greaterequal_truths : first_ill (record { modules = record { name = codes "a"; items = FunctionItem (record { attribute = Mangled; name = codes "main_0"; params = []; result = Some (Integer I32); locals = []; body = stmts (Return (Some (Cast (Binary (Truth true) GreaterEqual (Truth false)) (Integer I32))) ∷ []) }) ∷ FunctionItem (record { attribute = Mangled; name = codes "run_static_initializers"; params = []; result = None; locals = []; body = stmts ([]) }) ∷ [] } ∷ []; entry = 0 }) ≡ Some (record { mod_number = 0; item_number = 0 })
unfolding known_table
greaterequal_truths = refl

greaterequal_functions : first_ill (record { modules = record { name = codes "a"; items = FunctionItem (record { attribute = Mangled; name = codes "main_0"; params = []; result = Some (Integer I32); locals = record { name = codes "f"; ty = Code (tys ([])) (no_ty) } ∷ []; body = stmts (Return (Some (Cast (Binary (Read (Local (codes "f"))) GreaterEqual (Read (Local (codes "f")))) (Integer I32))) ∷ []) }) ∷ FunctionItem (record { attribute = Mangled; name = codes "run_static_initializers"; params = []; result = None; locals = []; body = stmts ([]) }) ∷ [] } ∷ []; entry = 0 }) ≡ Some (record { mod_number = 0; item_number = 0 })
unfolding known_table
greaterequal_functions = refl

greaterequal_two_types : first_ill (record { modules = record { name = codes "a"; items = FunctionItem (record { attribute = Mangled; name = codes "main_0"; params = []; result = Some (Integer I32); locals = []; body = stmts (Return (Some (Cast (Binary (Literal (pos 1) U8) GreaterEqual (Literal (pos 1) I8)) (Integer I32))) ∷ []) }) ∷ FunctionItem (record { attribute = Mangled; name = codes "run_static_initializers"; params = []; result = None; locals = []; body = stmts ([]) }) ∷ [] } ∷ []; entry = 0 }) ≡ Some (record { mod_number = 0; item_number = 0 })
unfolding known_table
greaterequal_two_types = refl

and_truths : first_ill (record { modules = record { name = codes "a"; items = FunctionItem (record { attribute = Mangled; name = codes "main_0"; params = []; result = Some (Integer I32); locals = []; body = stmts (Return (Some (Cast (And (Truth true) (Truth false)) (Integer I32))) ∷ []) }) ∷ FunctionItem (record { attribute = Mangled; name = codes "run_static_initializers"; params = []; result = None; locals = []; body = stmts ([]) }) ∷ [] } ∷ []; entry = 0 }) ≡ None
unfolding known_table
and_truths = refl

and_number_first : first_ill (record { modules = record { name = codes "a"; items = FunctionItem (record { attribute = Mangled; name = codes "main_0"; params = []; result = Some (Integer I32); locals = []; body = stmts (Return (Some (Cast (And (Literal (pos 1) I32) (Truth true)) (Integer I32))) ∷ []) }) ∷ FunctionItem (record { attribute = Mangled; name = codes "run_static_initializers"; params = []; result = None; locals = []; body = stmts ([]) }) ∷ [] } ∷ []; entry = 0 }) ≡ Some (record { mod_number = 0; item_number = 0 })
unfolding known_table
and_number_first = refl

and_number_second : first_ill (record { modules = record { name = codes "a"; items = FunctionItem (record { attribute = Mangled; name = codes "main_0"; params = []; result = Some (Integer I32); locals = []; body = stmts (Return (Some (Cast (And (Truth true) (Literal (pos 1) I32)) (Integer I32))) ∷ []) }) ∷ FunctionItem (record { attribute = Mangled; name = codes "run_static_initializers"; params = []; result = None; locals = []; body = stmts ([]) }) ∷ [] } ∷ []; entry = 0 }) ≡ Some (record { mod_number = 0; item_number = 0 })
unfolding known_table
and_number_second = refl

or_truths : first_ill (record { modules = record { name = codes "a"; items = FunctionItem (record { attribute = Mangled; name = codes "main_0"; params = []; result = Some (Integer I32); locals = []; body = stmts (Return (Some (Cast (Or (Truth true) (Truth false)) (Integer I32))) ∷ []) }) ∷ FunctionItem (record { attribute = Mangled; name = codes "run_static_initializers"; params = []; result = None; locals = []; body = stmts ([]) }) ∷ [] } ∷ []; entry = 0 }) ≡ None
unfolding known_table
or_truths = refl

or_number_first : first_ill (record { modules = record { name = codes "a"; items = FunctionItem (record { attribute = Mangled; name = codes "main_0"; params = []; result = Some (Integer I32); locals = []; body = stmts (Return (Some (Cast (Or (Literal (pos 1) I32) (Truth true)) (Integer I32))) ∷ []) }) ∷ FunctionItem (record { attribute = Mangled; name = codes "run_static_initializers"; params = []; result = None; locals = []; body = stmts ([]) }) ∷ [] } ∷ []; entry = 0 }) ≡ Some (record { mod_number = 0; item_number = 0 })
unfolding known_table
or_number_first = refl

or_number_second : first_ill (record { modules = record { name = codes "a"; items = FunctionItem (record { attribute = Mangled; name = codes "main_0"; params = []; result = Some (Integer I32); locals = []; body = stmts (Return (Some (Cast (Or (Truth true) (Literal (pos 1) I32)) (Integer I32))) ∷ []) }) ∷ FunctionItem (record { attribute = Mangled; name = codes "run_static_initializers"; params = []; result = None; locals = []; body = stmts ([]) }) ∷ [] } ∷ []; entry = 0 }) ≡ Some (record { mod_number = 0; item_number = 0 })
unfolding known_table
or_number_second = refl

neg_i8 : first_ill (record { modules = record { name = codes "a"; items = FunctionItem (record { attribute = Mangled; name = codes "main_0"; params = []; result = Some (Integer I32); locals = []; body = stmts (Return (Some (Cast (Neg (Cast (Literal (pos 1) I32) (Integer I8))) (Integer I32))) ∷ []) }) ∷ FunctionItem (record { attribute = Mangled; name = codes "run_static_initializers"; params = []; result = None; locals = []; body = stmts ([]) }) ∷ [] } ∷ []; entry = 0 }) ≡ None
unfolding known_table
neg_i8 = refl

neg_i16 : first_ill (record { modules = record { name = codes "a"; items = FunctionItem (record { attribute = Mangled; name = codes "main_0"; params = []; result = Some (Integer I32); locals = []; body = stmts (Return (Some (Cast (Neg (Cast (Literal (pos 1) I32) (Integer I16))) (Integer I32))) ∷ []) }) ∷ FunctionItem (record { attribute = Mangled; name = codes "run_static_initializers"; params = []; result = None; locals = []; body = stmts ([]) }) ∷ [] } ∷ []; entry = 0 }) ≡ None
unfolding known_table
neg_i16 = refl

neg_i64 : first_ill (record { modules = record { name = codes "a"; items = FunctionItem (record { attribute = Mangled; name = codes "main_0"; params = []; result = Some (Integer I32); locals = []; body = stmts (Return (Some (Cast (Neg (Cast (Literal (pos 1) I32) (Integer I64))) (Integer I32))) ∷ []) }) ∷ FunctionItem (record { attribute = Mangled; name = codes "run_static_initializers"; params = []; result = None; locals = []; body = stmts ([]) }) ∷ [] } ∷ []; entry = 0 }) ≡ None
unfolding known_table
neg_i64 = refl

neg_isize : first_ill (record { modules = record { name = codes "a"; items = FunctionItem (record { attribute = Mangled; name = codes "main_0"; params = []; result = Some (Integer I32); locals = []; body = stmts (Return (Some (Cast (Neg (Cast (Literal (pos 1) I32) (Integer Isize))) (Integer I32))) ∷ []) }) ∷ FunctionItem (record { attribute = Mangled; name = codes "run_static_initializers"; params = []; result = None; locals = []; body = stmts ([]) }) ∷ [] } ∷ []; entry = 0 }) ≡ None
unfolding known_table
neg_isize = refl

neg_u8 : first_ill (record { modules = record { name = codes "a"; items = FunctionItem (record { attribute = Mangled; name = codes "main_0"; params = []; result = Some (Integer I32); locals = []; body = stmts (Return (Some (Cast (Neg (Cast (Literal (pos 1) I32) (Integer U8))) (Integer I32))) ∷ []) }) ∷ FunctionItem (record { attribute = Mangled; name = codes "run_static_initializers"; params = []; result = None; locals = []; body = stmts ([]) }) ∷ [] } ∷ []; entry = 0 }) ≡ Some (record { mod_number = 0; item_number = 0 })
unfolding known_table
neg_u8 = refl

neg_u16 : first_ill (record { modules = record { name = codes "a"; items = FunctionItem (record { attribute = Mangled; name = codes "main_0"; params = []; result = Some (Integer I32); locals = []; body = stmts (Return (Some (Cast (Neg (Cast (Literal (pos 1) I32) (Integer U16))) (Integer I32))) ∷ []) }) ∷ FunctionItem (record { attribute = Mangled; name = codes "run_static_initializers"; params = []; result = None; locals = []; body = stmts ([]) }) ∷ [] } ∷ []; entry = 0 }) ≡ Some (record { mod_number = 0; item_number = 0 })
unfolding known_table
neg_u16 = refl

neg_u64 : first_ill (record { modules = record { name = codes "a"; items = FunctionItem (record { attribute = Mangled; name = codes "main_0"; params = []; result = Some (Integer I32); locals = []; body = stmts (Return (Some (Cast (Neg (Cast (Literal (pos 1) I32) (Integer U64))) (Integer I32))) ∷ []) }) ∷ FunctionItem (record { attribute = Mangled; name = codes "run_static_initializers"; params = []; result = None; locals = []; body = stmts ([]) }) ∷ [] } ∷ []; entry = 0 }) ≡ Some (record { mod_number = 0; item_number = 0 })
unfolding known_table
neg_u64 = refl

neg_usize : first_ill (record { modules = record { name = codes "a"; items = FunctionItem (record { attribute = Mangled; name = codes "main_0"; params = []; result = Some (Integer I32); locals = []; body = stmts (Return (Some (Cast (Neg (Cast (Literal (pos 1) I32) (Integer Usize))) (Integer I32))) ∷ []) }) ∷ FunctionItem (record { attribute = Mangled; name = codes "run_static_initializers"; params = []; result = None; locals = []; body = stmts ([]) }) ∷ [] } ∷ []; entry = 0 }) ≡ Some (record { mod_number = 0; item_number = 0 })
unfolding known_table
neg_usize = refl

neg_truth : first_ill (record { modules = record { name = codes "a"; items = FunctionItem (record { attribute = Mangled; name = codes "main_0"; params = []; result = Some (Integer I32); locals = []; body = stmts (Return (Some (Cast (Neg (Truth true)) (Integer I32))) ∷ []) }) ∷ FunctionItem (record { attribute = Mangled; name = codes "run_static_initializers"; params = []; result = None; locals = []; body = stmts ([]) }) ∷ [] } ∷ []; entry = 0 }) ≡ Some (record { mod_number = 0; item_number = 0 })
unfolding known_table
neg_truth = refl

not_unsigned : first_ill (record { modules = record { name = codes "a"; items = FunctionItem (record { attribute = Mangled; name = codes "main_0"; params = []; result = Some (Integer I32); locals = []; body = stmts (Return (Some (Cast (Not (Literal (pos 1) Usize)) (Integer I32))) ∷ []) }) ∷ FunctionItem (record { attribute = Mangled; name = codes "run_static_initializers"; params = []; result = None; locals = []; body = stmts ([]) }) ∷ [] } ∷ []; entry = 0 }) ≡ None
unfolding known_table
not_unsigned = refl

not_truth : first_ill (record { modules = record { name = codes "a"; items = FunctionItem (record { attribute = Mangled; name = codes "main_0"; params = []; result = Some (Integer I32); locals = []; body = stmts (Return (Some (Cast (Not (Truth true)) (Integer I32))) ∷ []) }) ∷ FunctionItem (record { attribute = Mangled; name = codes "run_static_initializers"; params = []; result = None; locals = []; body = stmts ([]) }) ∷ [] } ∷ []; entry = 0 }) ≡ None
unfolding known_table
not_truth = refl

not_function : first_ill (record { modules = record { name = codes "a"; items = FunctionItem (record { attribute = Mangled; name = codes "main_0"; params = []; result = Some (Integer I32); locals = record { name = codes "f"; ty = Code (tys ([])) (no_ty) } ∷ []; body = stmts (Return (Some (Cast (Not (Read (Local (codes "f")))) (Integer I32))) ∷ []) }) ∷ FunctionItem (record { attribute = Mangled; name = codes "run_static_initializers"; params = []; result = None; locals = []; body = stmts ([]) }) ∷ [] } ∷ []; entry = 0 }) ≡ Some (record { mod_number = 0; item_number = 0 })
unfolding known_table
not_function = refl

wrapping_add_usize : first_ill (record { modules = record { name = codes "a"; items = FunctionItem (record { attribute = Mangled; name = codes "main_0"; params = []; result = Some (Integer I32); locals = []; body = stmts (Return (Some (Cast (Wrapped (Literal (pos 1) Usize) WrappingAdd (Literal (pos 1) Usize)) (Integer I32))) ∷ []) }) ∷ FunctionItem (record { attribute = Mangled; name = codes "run_static_initializers"; params = []; result = None; locals = []; body = stmts ([]) }) ∷ [] } ∷ []; entry = 0 }) ≡ None
unfolding known_table
wrapping_add_usize = refl

wrapping_add_truths : first_ill (record { modules = record { name = codes "a"; items = FunctionItem (record { attribute = Mangled; name = codes "main_0"; params = []; result = Some (Integer I32); locals = []; body = stmts (Return (Some (Cast (Wrapped (Truth true) WrappingAdd (Truth true)) (Integer I32))) ∷ []) }) ∷ FunctionItem (record { attribute = Mangled; name = codes "run_static_initializers"; params = []; result = None; locals = []; body = stmts ([]) }) ∷ [] } ∷ []; entry = 0 }) ≡ Some (record { mod_number = 0; item_number = 0 })
unfolding known_table
wrapping_add_truths = refl

wrapping_add_two_types : first_ill (record { modules = record { name = codes "a"; items = FunctionItem (record { attribute = Mangled; name = codes "main_0"; params = []; result = Some (Integer I32); locals = []; body = stmts (Return (Some (Cast (Wrapped (Literal (pos 1) U32) WrappingAdd (Literal (pos 1) I32)) (Integer I32))) ∷ []) }) ∷ FunctionItem (record { attribute = Mangled; name = codes "run_static_initializers"; params = []; result = None; locals = []; body = stmts ([]) }) ∷ [] } ∷ []; entry = 0 }) ≡ Some (record { mod_number = 0; item_number = 0 })
unfolding known_table
wrapping_add_two_types = refl

wrapping_sub_usize : first_ill (record { modules = record { name = codes "a"; items = FunctionItem (record { attribute = Mangled; name = codes "main_0"; params = []; result = Some (Integer I32); locals = []; body = stmts (Return (Some (Cast (Wrapped (Literal (pos 1) Usize) WrappingSub (Literal (pos 1) Usize)) (Integer I32))) ∷ []) }) ∷ FunctionItem (record { attribute = Mangled; name = codes "run_static_initializers"; params = []; result = None; locals = []; body = stmts ([]) }) ∷ [] } ∷ []; entry = 0 }) ≡ None
unfolding known_table
wrapping_sub_usize = refl

wrapping_sub_truths : first_ill (record { modules = record { name = codes "a"; items = FunctionItem (record { attribute = Mangled; name = codes "main_0"; params = []; result = Some (Integer I32); locals = []; body = stmts (Return (Some (Cast (Wrapped (Truth true) WrappingSub (Truth true)) (Integer I32))) ∷ []) }) ∷ FunctionItem (record { attribute = Mangled; name = codes "run_static_initializers"; params = []; result = None; locals = []; body = stmts ([]) }) ∷ [] } ∷ []; entry = 0 }) ≡ Some (record { mod_number = 0; item_number = 0 })
unfolding known_table
wrapping_sub_truths = refl

wrapping_sub_two_types : first_ill (record { modules = record { name = codes "a"; items = FunctionItem (record { attribute = Mangled; name = codes "main_0"; params = []; result = Some (Integer I32); locals = []; body = stmts (Return (Some (Cast (Wrapped (Literal (pos 1) U32) WrappingSub (Literal (pos 1) I32)) (Integer I32))) ∷ []) }) ∷ FunctionItem (record { attribute = Mangled; name = codes "run_static_initializers"; params = []; result = None; locals = []; body = stmts ([]) }) ∷ [] } ∷ []; entry = 0 }) ≡ Some (record { mod_number = 0; item_number = 0 })
unfolding known_table
wrapping_sub_two_types = refl

wrapping_mul_usize : first_ill (record { modules = record { name = codes "a"; items = FunctionItem (record { attribute = Mangled; name = codes "main_0"; params = []; result = Some (Integer I32); locals = []; body = stmts (Return (Some (Cast (Wrapped (Literal (pos 1) Usize) WrappingMul (Literal (pos 1) Usize)) (Integer I32))) ∷ []) }) ∷ FunctionItem (record { attribute = Mangled; name = codes "run_static_initializers"; params = []; result = None; locals = []; body = stmts ([]) }) ∷ [] } ∷ []; entry = 0 }) ≡ None
unfolding known_table
wrapping_mul_usize = refl

wrapping_mul_truths : first_ill (record { modules = record { name = codes "a"; items = FunctionItem (record { attribute = Mangled; name = codes "main_0"; params = []; result = Some (Integer I32); locals = []; body = stmts (Return (Some (Cast (Wrapped (Truth true) WrappingMul (Truth true)) (Integer I32))) ∷ []) }) ∷ FunctionItem (record { attribute = Mangled; name = codes "run_static_initializers"; params = []; result = None; locals = []; body = stmts ([]) }) ∷ [] } ∷ []; entry = 0 }) ≡ Some (record { mod_number = 0; item_number = 0 })
unfolding known_table
wrapping_mul_truths = refl

wrapping_mul_two_types : first_ill (record { modules = record { name = codes "a"; items = FunctionItem (record { attribute = Mangled; name = codes "main_0"; params = []; result = Some (Integer I32); locals = []; body = stmts (Return (Some (Cast (Wrapped (Literal (pos 1) U32) WrappingMul (Literal (pos 1) I32)) (Integer I32))) ∷ []) }) ∷ FunctionItem (record { attribute = Mangled; name = codes "run_static_initializers"; params = []; result = None; locals = []; body = stmts ([]) }) ∷ [] } ∷ []; entry = 0 }) ≡ Some (record { mod_number = 0; item_number = 0 })
unfolding known_table
wrapping_mul_two_types = refl

wrapping_neg_unsigned : first_ill (record { modules = record { name = codes "a"; items = FunctionItem (record { attribute = Mangled; name = codes "main_0"; params = []; result = Some (Integer I32); locals = []; body = stmts (Return (Some (Cast (WrappingNeg (Literal (pos 1) U16)) (Integer I32))) ∷ []) }) ∷ FunctionItem (record { attribute = Mangled; name = codes "run_static_initializers"; params = []; result = None; locals = []; body = stmts ([]) }) ∷ [] } ∷ []; entry = 0 }) ≡ None
unfolding known_table
wrapping_neg_unsigned = refl

wrapping_neg_truth : first_ill (record { modules = record { name = codes "a"; items = FunctionItem (record { attribute = Mangled; name = codes "main_0"; params = []; result = Some (Integer I32); locals = []; body = stmts (Return (Some (Cast (WrappingNeg (Truth true)) (Integer I32))) ∷ []) }) ∷ FunctionItem (record { attribute = Mangled; name = codes "run_static_initializers"; params = []; result = None; locals = []; body = stmts ([]) }) ∷ [] } ∷ []; entry = 0 }) ≡ Some (record { mod_number = 0; item_number = 0 })
unfolding known_table
wrapping_neg_truth = refl
