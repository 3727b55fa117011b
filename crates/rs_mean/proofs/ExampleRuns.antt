-- Worked runs, which the check computes.
use Rattle.std.specs.Prelude.{◌≡◌, pos, negsuc, true, false, [], ◌∷◌, Some, None, codes}
use Rattle.std.proofs.Common.{refl}
use Rattle.cr_base.specs.declared.scalar.Scalar.TheVariants as scalar
use Rattle.cr_world.specs.Known.{known_table}
use Rattle.cr_world.specs.World.{trail_of, wrong, full, asks, astray}
use Rattle.ext_calls.specs.declared.call.Arg.TheVariants as arg
use Rattle.rs_text.specs.declared.attribute.Attribute.TheVariants.{Mangled}
use Rattle.rs_text.specs.declared.integer.IntegerTy.TheVariants.{I8, I16, I32, I64, U8, U32, U64, Isize, Usize}
use Rattle.rs_text.specs.declared.operator.Operator.TheVariants.{Add, Sub, Mul, Div, Rem, BitAnd, BitOr, BitXor, Shl, Shr, Equal, NotEqual, Less, LessEqual, Greater, GreaterEqual}
use Rattle.rs_text.specs.declared.operator.Wrapping.TheVariants.{WrappingAdd, WrappingSub, WrappingMul}
use Rattle.rs_text.specs.Tree.{Integer, Boolean, Void, Pointer, Array, Code, Record, some_ty, Local, Static, Deref, Field, Literal, Truth, NoFunction, Read, Call as Calls, CallBy, Wrapped, WrappingNeg, Offset, OffsetFrom, IsNull, IsNone, AddressOf, NullPointer, SomeFunction, Transmute, Neg, Not, Cast, Binary, And, Or, Choose, exprs, Assign, Eval, CopyBytes, If, Loop, Block, Break, Continue, Match, Return, stmts, LiteralArm, arms, tys, RecordItem, StaticItem, ExternItem, FunctionItem}
use Rattle.rs_mean.specs.declared.cause.Cause.TheVariants as cause
use Rattle.rs_mean.specs.Run.{going, ended, stopped, rs_run, rs_run_on}
use Rattle.rs_mean.specs.World.{pure, fails, ends, seq, takes_unit, local, tells, grants, begins, rounds}

-- a loop that calls: two units go to the calls of `main.rs`, then a turn, a call and a turn
loops_out : rs_run (record { modules = record { name = codes "a"; items = ExternItem (record { link_name = None; name = codes "putchar"; params = Integer I32 ∷ []; variadic = false; result = Some (Integer I32) } ∷ []) ∷ FunctionItem (record { attribute = Mangled; name = codes "main_0"; params = []; result = Some (Integer I32); locals = []; body = stmts (Loop (None) (stmts (Eval (Calls (codes "a") (codes "putchar") (exprs (Literal (pos 97) I32 ∷ []))) ∷ [])) ∷ Return (Some (Literal (pos 0) I32)) ∷ []) }) ∷ FunctionItem (record { attribute = Mangled; name = codes "run_static_initializers"; params = []; result = None; locals = []; body = stmts ([]) }) ∷ [] } ∷ []; entry = 0 }) (record { answers = [] }) 5 ≡ record { events = record { name = codes "putchar"; args = arg.Whole (scalar.Whole 32 true) (pos 97) ∷ [] } ∷ []; progress = going }
unfolding pure fails ends seq takes_unit local tells grants begins rounds known_table
loops_out = refl

-- with one unit less it stops before the second turn, with two less before the call
loops_out_before : rs_run (record { modules = record { name = codes "a"; items = ExternItem (record { link_name = None; name = codes "putchar"; params = Integer I32 ∷ []; variadic = false; result = Some (Integer I32) } ∷ []) ∷ FunctionItem (record { attribute = Mangled; name = codes "main_0"; params = []; result = Some (Integer I32); locals = []; body = stmts (Loop (None) (stmts (Eval (Calls (codes "a") (codes "putchar") (exprs (Literal (pos 97) I32 ∷ []))) ∷ [])) ∷ Return (Some (Literal (pos 0) I32)) ∷ []) }) ∷ FunctionItem (record { attribute = Mangled; name = codes "run_static_initializers"; params = []; result = None; locals = []; body = stmts ([]) }) ∷ [] } ∷ []; entry = 0 }) (record { answers = [] }) 3 ≡ record { events = []; progress = going }
unfolding pure fails ends seq takes_unit local tells grants begins rounds known_table
loops_out_before = refl

-- without a unit it doesn't begin
no_unit : rs_run (record { modules = record { name = codes "a"; items = ExternItem (record { link_name = None; name = codes "putchar"; params = Integer I32 ∷ []; variadic = false; result = Some (Integer I32) } ∷ []) ∷ FunctionItem (record { attribute = Mangled; name = codes "main_0"; params = []; result = Some (Integer I32); locals = []; body = stmts (Loop (None) (stmts (Eval (Calls (codes "a") (codes "putchar") (exprs (Literal (pos 97) I32 ∷ []))) ∷ [])) ∷ Return (Some (Literal (pos 0) I32)) ∷ []) }) ∷ FunctionItem (record { attribute = Mangled; name = codes "run_static_initializers"; params = []; result = None; locals = []; body = stmts ([]) }) ∷ [] } ∷ []; entry = 0 }) (record { answers = [] }) 0 ≡ record { events = []; progress = going }
unfolding pure fails ends seq takes_unit local tells grants begins rounds known_table
no_unit = refl

-- a sum that isn't a value of its type
overflows : rs_run (record { modules = record { name = codes "a"; items = FunctionItem (record { attribute = Mangled; name = codes "main_0"; params = []; result = Some (Integer I32); locals = []; body = stmts (Return (Some (Binary (Literal (pos 2147483647) I32) Add (Literal (pos 1) I32))) ∷ []) }) ∷ FunctionItem (record { attribute = Mangled; name = codes "run_static_initializers"; params = []; result = None; locals = []; body = stmts ([]) }) ∷ [] } ∷ []; entry = 0 }) (record { answers = [] }) 20 ≡ record { events = []; progress = stopped (wrong cause.Overflow) }
unfolding pure fails ends seq takes_unit local tells grants begins rounds known_table
overflows = refl

-- two calls take two units
units_enough : rs_run (record { modules = record { name = codes "a"; items = FunctionItem (record { attribute = Mangled; name = codes "main_0"; params = []; result = Some (Integer I32); locals = []; body = stmts (Return (Some (Literal (pos 7) I32)) ∷ []) }) ∷ FunctionItem (record { attribute = Mangled; name = codes "run_static_initializers"; params = []; result = None; locals = []; body = stmts ([]) }) ∷ [] } ∷ []; entry = 0 }) (record { answers = [] }) 2 ≡ record { events = []; progress = ended (pos 7) }
unfolding pure fails ends seq takes_unit local tells grants begins rounds known_table
units_enough = refl

-- and one isn't enough
units_short : rs_run (record { modules = record { name = codes "a"; items = FunctionItem (record { attribute = Mangled; name = codes "main_0"; params = []; result = Some (Integer I32); locals = []; body = stmts (Return (Some (Literal (pos 7) I32)) ∷ []) }) ∷ FunctionItem (record { attribute = Mangled; name = codes "run_static_initializers"; params = []; result = None; locals = []; body = stmts ([]) }) ∷ [] } ∷ []; entry = 0 }) (record { answers = [] }) 1 ≡ record { events = []; progress = going }
unfolding pure fails ends seq takes_unit local tells grants begins rounds known_table
units_short = refl

op_add_42 : rs_run (record { modules = record { name = codes "a"; items = FunctionItem (record { attribute = Mangled; name = codes "main_0"; params = []; result = Some (Integer I32); locals = []; body = stmts (Return (Some (Binary (Literal (pos 40) I32) Add (Literal (pos 2) I32))) ∷ []) }) ∷ FunctionItem (record { attribute = Mangled; name = codes "run_static_initializers"; params = []; result = None; locals = []; body = stmts ([]) }) ∷ [] } ∷ []; entry = 0 }) (record { answers = [] }) 20 ≡ record { events = []; progress = ended (pos 42) }
unfolding pure fails ends seq takes_unit local tells grants begins rounds known_table
op_add_42 = refl

op_sub_38 : rs_run (record { modules = record { name = codes "a"; items = FunctionItem (record { attribute = Mangled; name = codes "main_0"; params = []; result = Some (Integer I32); locals = []; body = stmts (Return (Some (Binary (Literal (pos 40) I32) Sub (Literal (pos 2) I32))) ∷ []) }) ∷ FunctionItem (record { attribute = Mangled; name = codes "run_static_initializers"; params = []; result = None; locals = []; body = stmts ([]) }) ∷ [] } ∷ []; entry = 0 }) (record { answers = [] }) 20 ≡ record { events = []; progress = ended (pos 38) }
unfolding pure fails ends seq takes_unit local tells grants begins rounds known_table
op_sub_38 = refl

op_mul_1542 : rs_run (record { modules = record { name = codes "a"; items = FunctionItem (record { attribute = Mangled; name = codes "main_0"; params = []; result = Some (Integer I32); locals = []; body = stmts (Return (Some (Binary (Literal (negsuc 5) I32) Mul (Literal (pos 7) I32))) ∷ []) }) ∷ FunctionItem (record { attribute = Mangled; name = codes "run_static_initializers"; params = []; result = None; locals = []; body = stmts ([]) }) ∷ [] } ∷ []; entry = 0 }) (record { answers = [] }) 20 ≡ record { events = []; progress = ended (negsuc 41) }
unfolding pure fails ends seq takes_unit local tells grants begins rounds known_table
op_mul_1542 = refl

op_div_1503 : rs_run (record { modules = record { name = codes "a"; items = FunctionItem (record { attribute = Mangled; name = codes "main_0"; params = []; result = Some (Integer I32); locals = []; body = stmts (Return (Some (Binary (Literal (negsuc 6) I32) Div (Literal (pos 2) I32))) ∷ []) }) ∷ FunctionItem (record { attribute = Mangled; name = codes "run_static_initializers"; params = []; result = None; locals = []; body = stmts ([]) }) ∷ [] } ∷ []; entry = 0 }) (record { answers = [] }) 20 ≡ record { events = []; progress = ended (negsuc 2) }
unfolding pure fails ends seq takes_unit local tells grants begins rounds known_table
op_div_1503 = refl

op_rem_1501 : rs_run (record { modules = record { name = codes "a"; items = FunctionItem (record { attribute = Mangled; name = codes "main_0"; params = []; result = Some (Integer I32); locals = []; body = stmts (Return (Some (Binary (Literal (negsuc 6) I32) Rem (Literal (pos 2) I32))) ∷ []) }) ∷ FunctionItem (record { attribute = Mangled; name = codes "run_static_initializers"; params = []; result = None; locals = []; body = stmts ([]) }) ∷ [] } ∷ []; entry = 0 }) (record { answers = [] }) 20 ≡ record { events = []; progress = ended (negsuc 0) }
unfolding pure fails ends seq takes_unit local tells grants begins rounds known_table
op_rem_1501 = refl

op_bitand_8 : rs_run (record { modules = record { name = codes "a"; items = FunctionItem (record { attribute = Mangled; name = codes "main_0"; params = []; result = Some (Integer I32); locals = []; body = stmts (Return (Some (Binary (Literal (pos 12) I32) BitAnd (Literal (pos 10) I32))) ∷ []) }) ∷ FunctionItem (record { attribute = Mangled; name = codes "run_static_initializers"; params = []; result = None; locals = []; body = stmts ([]) }) ∷ [] } ∷ []; entry = 0 }) (record { answers = [] }) 20 ≡ record { events = []; progress = ended (pos 8) }
unfolding pure fails ends seq takes_unit local tells grants begins rounds known_table
op_bitand_8 = refl

op_bitor_14 : rs_run (record { modules = record { name = codes "a"; items = FunctionItem (record { attribute = Mangled; name = codes "main_0"; params = []; result = Some (Integer I32); locals = []; body = stmts (Return (Some (Binary (Literal (pos 12) I32) BitOr (Literal (pos 10) I32))) ∷ []) }) ∷ FunctionItem (record { attribute = Mangled; name = codes "run_static_initializers"; params = []; result = None; locals = []; body = stmts ([]) }) ∷ [] } ∷ []; entry = 0 }) (record { answers = [] }) 20 ≡ record { events = []; progress = ended (pos 14) }
unfolding pure fails ends seq takes_unit local tells grants begins rounds known_table
op_bitor_14 = refl

op_bitxor_6 : rs_run (record { modules = record { name = codes "a"; items = FunctionItem (record { attribute = Mangled; name = codes "main_0"; params = []; result = Some (Integer I32); locals = []; body = stmts (Return (Some (Binary (Literal (pos 12) I32) BitXor (Literal (pos 10) I32))) ∷ []) }) ∷ FunctionItem (record { attribute = Mangled; name = codes "run_static_initializers"; params = []; result = None; locals = []; body = stmts ([]) }) ∷ [] } ∷ []; entry = 0 }) (record { answers = [] }) 20 ≡ record { events = []; progress = ended (pos 6) }
unfolding pure fails ends seq takes_unit local tells grants begins rounds known_table
op_bitxor_6 = refl

op_bitand_755 : rs_run (record { modules = record { name = codes "a"; items = FunctionItem (record { attribute = Mangled; name = codes "main_0"; params = []; result = Some (Integer I32); locals = []; body = stmts (Return (Some (Binary (Literal (negsuc 0) I32) BitAnd (Literal (pos 255) I32))) ∷ []) }) ∷ FunctionItem (record { attribute = Mangled; name = codes "run_static_initializers"; params = []; result = None; locals = []; body = stmts ([]) }) ∷ [] } ∷ []; entry = 0 }) (record { answers = [] }) 20 ≡ record { events = []; progress = ended (pos 255) }
unfolding pure fails ends seq takes_unit local tells grants begins rounds known_table
op_bitand_755 = refl

-- shifts take a `u32`; a negative number brings its sign in
shift_left : rs_run (record { modules = record { name = codes "a"; items = FunctionItem (record { attribute = Mangled; name = codes "main_0"; params = []; result = Some (Integer I32); locals = []; body = stmts (Return (Some (Binary (Literal (pos 3) I32) Shl (Literal (pos 4) U32))) ∷ []) }) ∷ FunctionItem (record { attribute = Mangled; name = codes "run_static_initializers"; params = []; result = None; locals = []; body = stmts ([]) }) ∷ [] } ∷ []; entry = 0 }) (record { answers = [] }) 20 ≡ record { events = []; progress = ended (pos 48) }
unfolding pure fails ends seq takes_unit local tells grants begins rounds known_table
shift_left = refl

shift_left_drops : rs_run (record { modules = record { name = codes "a"; items = FunctionItem (record { attribute = Mangled; name = codes "main_0"; params = []; result = Some (Integer I32); locals = []; body = stmts (Return (Some (Binary (Literal (pos 3) I32) Shl (Literal (pos 31) U32))) ∷ []) }) ∷ FunctionItem (record { attribute = Mangled; name = codes "run_static_initializers"; params = []; result = None; locals = []; body = stmts ([]) }) ∷ [] } ∷ []; entry = 0 }) (record { answers = [] }) 20 ≡ record { events = []; progress = ended (negsuc 2147483647) }
unfolding pure fails ends seq takes_unit local tells grants begins rounds known_table
shift_left_drops = refl

shift_right : rs_run (record { modules = record { name = codes "a"; items = FunctionItem (record { attribute = Mangled; name = codes "main_0"; params = []; result = Some (Integer I32); locals = []; body = stmts (Return (Some (Binary (Literal (negsuc 8) I32) Shr (Literal (pos 1) U32))) ∷ []) }) ∷ FunctionItem (record { attribute = Mangled; name = codes "run_static_initializers"; params = []; result = None; locals = []; body = stmts ([]) }) ∷ [] } ∷ []; entry = 0 }) (record { answers = [] }) 20 ≡ record { events = []; progress = ended (negsuc 4) }
unfolding pure fails ends seq takes_unit local tells grants begins rounds known_table
shift_right = refl

compare_equal : rs_run (record { modules = record { name = codes "a"; items = FunctionItem (record { attribute = Mangled; name = codes "main_0"; params = []; result = Some (Integer I32); locals = []; body = stmts (Return (Some (Cast (Binary (Literal (negsuc 0) I32) Equal (Literal (pos 1) I32)) (Integer I32))) ∷ []) }) ∷ FunctionItem (record { attribute = Mangled; name = codes "run_static_initializers"; params = []; result = None; locals = []; body = stmts ([]) }) ∷ [] } ∷ []; entry = 0 }) (record { answers = [] }) 20 ≡ record { events = []; progress = ended (pos 0) }
unfolding pure fails ends seq takes_unit local tells grants begins rounds known_table
compare_equal = refl

compare_notequal : rs_run (record { modules = record { name = codes "a"; items = FunctionItem (record { attribute = Mangled; name = codes "main_0"; params = []; result = Some (Integer I32); locals = []; body = stmts (Return (Some (Cast (Binary (Literal (negsuc 0) I32) NotEqual (Literal (pos 1) I32)) (Integer I32))) ∷ []) }) ∷ FunctionItem (record { attribute = Mangled; name = codes "run_static_initializers"; params = []; result = None; locals = []; body = stmts ([]) }) ∷ [] } ∷ []; entry = 0 }) (record { answers = [] }) 20 ≡ record { events = []; progress = ended (pos 1) }
unfolding pure fails ends seq takes_unit local tells grants begins rounds known_table
compare_notequal = refl

compare_less : rs_run (record { modules = record { name = codes "a"; items = FunctionItem (record { attribute = Mangled; name = codes "main_0"; params = []; result = Some (Integer I32); locals = []; body = stmts (Return (Some (Cast (Binary (Literal (negsuc 0) I32) Less (Literal (pos 1) I32)) (Integer I32))) ∷ []) }) ∷ FunctionItem (record { attribute = Mangled; name = codes "run_static_initializers"; params = []; result = None; locals = []; body = stmts ([]) }) ∷ [] } ∷ []; entry = 0 }) (record { answers = [] }) 20 ≡ record { events = []; progress = ended (pos 1) }
unfolding pure fails ends seq takes_unit local tells grants begins rounds known_table
compare_less = refl

compare_lessequal : rs_run (record { modules = record { name = codes "a"; items = FunctionItem (record { attribute = Mangled; name = codes "main_0"; params = []; result = Some (Integer I32); locals = []; body = stmts (Return (Some (Cast (Binary (Literal (negsuc 0) I32) LessEqual (Literal (pos 1) I32)) (Integer I32))) ∷ []) }) ∷ FunctionItem (record { attribute = Mangled; name = codes "run_static_initializers"; params = []; result = None; locals = []; body = stmts ([]) }) ∷ [] } ∷ []; entry = 0 }) (record { answers = [] }) 20 ≡ record { events = []; progress = ended (pos 1) }
unfolding pure fails ends seq takes_unit local tells grants begins rounds known_table
compare_lessequal = refl

compare_greater : rs_run (record { modules = record { name = codes "a"; items = FunctionItem (record { attribute = Mangled; name = codes "main_0"; params = []; result = Some (Integer I32); locals = []; body = stmts (Return (Some (Cast (Binary (Literal (negsuc 0) I32) Greater (Literal (pos 1) I32)) (Integer I32))) ∷ []) }) ∷ FunctionItem (record { attribute = Mangled; name = codes "run_static_initializers"; params = []; result = None; locals = []; body = stmts ([]) }) ∷ [] } ∷ []; entry = 0 }) (record { answers = [] }) 20 ≡ record { events = []; progress = ended (pos 0) }
unfolding pure fails ends seq takes_unit local tells grants begins rounds known_table
compare_greater = refl

compare_greaterequal : rs_run (record { modules = record { name = codes "a"; items = FunctionItem (record { attribute = Mangled; name = codes "main_0"; params = []; result = Some (Integer I32); locals = []; body = stmts (Return (Some (Cast (Binary (Literal (negsuc 0) I32) GreaterEqual (Literal (pos 1) I32)) (Integer I32))) ∷ []) }) ∷ FunctionItem (record { attribute = Mangled; name = codes "run_static_initializers"; params = []; result = None; locals = []; body = stmts ([]) }) ∷ [] } ∷ []; entry = 0 }) (record { answers = [] }) 20 ≡ record { events = []; progress = ended (pos 0) }
unfolding pure fails ends seq takes_unit local tells grants begins rounds known_table
compare_greaterequal = refl

-- unsigned numbers are compared as they are
compare_unsigned : rs_run (record { modules = record { name = codes "a"; items = FunctionItem (record { attribute = Mangled; name = codes "main_0"; params = []; result = Some (Integer I32); locals = []; body = stmts (Return (Some (Cast (Binary (Literal (pos 4294967295) U32) Less (Literal (pos 1) U32)) (Integer I32))) ∷ []) }) ∷ FunctionItem (record { attribute = Mangled; name = codes "run_static_initializers"; params = []; result = None; locals = []; body = stmts ([]) }) ∷ [] } ∷ []; entry = 0 }) (record { answers = [] }) 20 ≡ record { events = []; progress = ended (pos 0) }
unfolding pure fails ends seq takes_unit local tells grants begins rounds known_table
compare_unsigned = refl

-- `!` turns all bits
not_number : rs_run (record { modules = record { name = codes "a"; items = FunctionItem (record { attribute = Mangled; name = codes "main_0"; params = []; result = Some (Integer I32); locals = []; body = stmts (Return (Some (Not (Literal (pos 5) I32))) ∷ []) }) ∷ FunctionItem (record { attribute = Mangled; name = codes "run_static_initializers"; params = []; result = None; locals = []; body = stmts ([]) }) ∷ [] } ∷ []; entry = 0 }) (record { answers = [] }) 20 ≡ record { events = []; progress = ended (negsuc 5) }
unfolding pure fails ends seq takes_unit local tells grants begins rounds known_table
not_number = refl

not_unsigned : rs_run (record { modules = record { name = codes "a"; items = FunctionItem (record { attribute = Mangled; name = codes "main_0"; params = []; result = Some (Integer I32); locals = []; body = stmts (Return (Some (Cast (Not (Literal (pos 0) U8)) (Integer I32))) ∷ []) }) ∷ FunctionItem (record { attribute = Mangled; name = codes "run_static_initializers"; params = []; result = None; locals = []; body = stmts ([]) }) ∷ [] } ∷ []; entry = 0 }) (record { answers = [] }) 20 ≡ record { events = []; progress = ended (pos 255) }
unfolding pure fails ends seq takes_unit local tells grants begins rounds known_table
not_unsigned = refl

not_truth : rs_run (record { modules = record { name = codes "a"; items = FunctionItem (record { attribute = Mangled; name = codes "main_0"; params = []; result = Some (Integer I32); locals = []; body = stmts (Return (Some (Cast (Not (Truth true)) (Integer I32))) ∷ []) }) ∷ FunctionItem (record { attribute = Mangled; name = codes "run_static_initializers"; params = []; result = None; locals = []; body = stmts ([]) }) ∷ [] } ∷ []; entry = 0 }) (record { answers = [] }) 20 ≡ record { events = []; progress = ended (pos 0) }
unfolding pure fails ends seq takes_unit local tells grants begins rounds known_table
not_truth = refl

-- unary minus
neg : rs_run (record { modules = record { name = codes "a"; items = FunctionItem (record { attribute = Mangled; name = codes "main_0"; params = []; result = Some (Integer I32); locals = []; body = stmts (Return (Some (Neg (Cast (Literal (pos 5) I32) (Integer I32)))) ∷ []) }) ∷ FunctionItem (record { attribute = Mangled; name = codes "run_static_initializers"; params = []; result = None; locals = []; body = stmts ([]) }) ∷ [] } ∷ []; entry = 0 }) (record { answers = [] }) 20 ≡ record { events = []; progress = ended (negsuc 4) }
unfolding pure fails ends seq takes_unit local tells grants begins rounds known_table
neg = refl

-- operations modulo 2 to the width
wrapping_add : rs_run (record { modules = record { name = codes "a"; items = FunctionItem (record { attribute = Mangled; name = codes "main_0"; params = []; result = Some (Integer I32); locals = []; body = stmts (Return (Some (Wrapped (Literal (pos 2147483647) I32) WrappingAdd (Literal (pos 1) I32))) ∷ []) }) ∷ FunctionItem (record { attribute = Mangled; name = codes "run_static_initializers"; params = []; result = None; locals = []; body = stmts ([]) }) ∷ [] } ∷ []; entry = 0 }) (record { answers = [] }) 20 ≡ record { events = []; progress = ended (negsuc 2147483647) }
unfolding pure fails ends seq takes_unit local tells grants begins rounds known_table
wrapping_add = refl

wrapping_sub : rs_run (record { modules = record { name = codes "a"; items = FunctionItem (record { attribute = Mangled; name = codes "main_0"; params = []; result = Some (Integer I32); locals = []; body = stmts (Return (Some (Cast (Wrapped (Literal (pos 0) U8) WrappingSub (Literal (pos 1) U8)) (Integer I32))) ∷ []) }) ∷ FunctionItem (record { attribute = Mangled; name = codes "run_static_initializers"; params = []; result = None; locals = []; body = stmts ([]) }) ∷ [] } ∷ []; entry = 0 }) (record { answers = [] }) 20 ≡ record { events = []; progress = ended (pos 255) }
unfolding pure fails ends seq takes_unit local tells grants begins rounds known_table
wrapping_sub = refl

wrapping_mul : rs_run (record { modules = record { name = codes "a"; items = FunctionItem (record { attribute = Mangled; name = codes "main_0"; params = []; result = Some (Integer I32); locals = []; body = stmts (Return (Some (Cast (Wrapped (Literal (pos 200) U8) WrappingMul (Literal (pos 2) U8)) (Integer I32))) ∷ []) }) ∷ FunctionItem (record { attribute = Mangled; name = codes "run_static_initializers"; params = []; result = None; locals = []; body = stmts ([]) }) ∷ [] } ∷ []; entry = 0 }) (record { answers = [] }) 20 ≡ record { events = []; progress = ended (pos 144) }
unfolding pure fails ends seq takes_unit local tells grants begins rounds known_table
wrapping_mul = refl

wrapping_neg : rs_run (record { modules = record { name = codes "a"; items = FunctionItem (record { attribute = Mangled; name = codes "main_0"; params = []; result = Some (Integer I32); locals = []; body = stmts (Return (Some (WrappingNeg (Literal (negsuc 2147483647) I32))) ∷ []) }) ∷ FunctionItem (record { attribute = Mangled; name = codes "run_static_initializers"; params = []; result = None; locals = []; body = stmts ([]) }) ∷ [] } ∷ []; entry = 0 }) (record { answers = [] }) 20 ≡ record { events = []; progress = ended (negsuc 2147483647) }
unfolding pure fails ends seq takes_unit local tells grants begins rounds known_table
wrapping_neg = refl

-- `as` goes modulo 2 to the width, with the sign of the target
cast_narrow : rs_run (record { modules = record { name = codes "a"; items = FunctionItem (record { attribute = Mangled; name = codes "main_0"; params = []; result = Some (Integer I32); locals = []; body = stmts (Return (Some (Cast (Cast (Literal (pos 200) I32) (Integer I8)) (Integer I32))) ∷ []) }) ∷ FunctionItem (record { attribute = Mangled; name = codes "run_static_initializers"; params = []; result = None; locals = []; body = stmts ([]) }) ∷ [] } ∷ []; entry = 0 }) (record { answers = [] }) 20 ≡ record { events = []; progress = ended (negsuc 55) }
unfolding pure fails ends seq takes_unit local tells grants begins rounds known_table
cast_narrow = refl

cast_truth : rs_run (record { modules = record { name = codes "a"; items = FunctionItem (record { attribute = Mangled; name = codes "main_0"; params = []; result = Some (Integer I32); locals = []; body = stmts (Return (Some (Cast (Truth true) (Integer I32))) ∷ []) }) ∷ FunctionItem (record { attribute = Mangled; name = codes "run_static_initializers"; params = []; result = None; locals = []; body = stmts ([]) }) ∷ [] } ∷ []; entry = 0 }) (record { answers = [] }) 20 ≡ record { events = []; progress = ended (pos 1) }
unfolding pure fails ends seq takes_unit local tells grants begins rounds known_table
cast_truth = refl

-- `&` of truth values evaluates both
bits_of_truths : rs_run (record { modules = record { name = codes "a"; items = FunctionItem (record { attribute = Mangled; name = codes "main_0"; params = []; result = Some (Integer I32); locals = []; body = stmts (Return (Some (Cast (Binary (Truth true) BitXor (Truth true)) (Integer I32))) ∷ []) }) ∷ FunctionItem (record { attribute = Mangled; name = codes "run_static_initializers"; params = []; result = None; locals = []; body = stmts ([]) }) ∷ [] } ∷ []; entry = 0 }) (record { answers = [] }) 20 ≡ record { events = []; progress = ended (pos 0) }
unfolding pure fails ends seq takes_unit local tells grants begins rounds known_table
bits_of_truths = refl

-- `&&` and `||` leave out the second where the first decides
and_lazy : rs_run (record { modules = record { name = codes "a"; items = FunctionItem (record { attribute = Mangled; name = codes "main_0"; params = []; result = Some (Integer I32); locals = []; body = stmts (Return (Some (Cast (And (Truth false) (Binary (Binary (Literal (pos 1) I32) Div (Literal (pos 0) I32)) Equal (Literal (pos 0) I32))) (Integer I32))) ∷ []) }) ∷ FunctionItem (record { attribute = Mangled; name = codes "run_static_initializers"; params = []; result = None; locals = []; body = stmts ([]) }) ∷ [] } ∷ []; entry = 0 }) (record { answers = [] }) 20 ≡ record { events = []; progress = ended (pos 0) }
unfolding pure fails ends seq takes_unit local tells grants begins rounds known_table
and_lazy = refl

or_lazy : rs_run (record { modules = record { name = codes "a"; items = FunctionItem (record { attribute = Mangled; name = codes "main_0"; params = []; result = Some (Integer I32); locals = []; body = stmts (Return (Some (Cast (Or (Truth true) (Binary (Binary (Literal (pos 1) I32) Div (Literal (pos 0) I32)) Equal (Literal (pos 0) I32))) (Integer I32))) ∷ []) }) ∷ FunctionItem (record { attribute = Mangled; name = codes "run_static_initializers"; params = []; result = None; locals = []; body = stmts ([]) }) ∷ [] } ∷ []; entry = 0 }) (record { answers = [] }) 20 ≡ record { events = []; progress = ended (pos 1) }
unfolding pure fails ends seq takes_unit local tells grants begins rounds known_table
or_lazy = refl

and_both : rs_run (record { modules = record { name = codes "a"; items = FunctionItem (record { attribute = Mangled; name = codes "main_0"; params = []; result = Some (Integer I32); locals = []; body = stmts (Return (Some (Cast (And (Truth true) (Truth true)) (Integer I32))) ∷ []) }) ∷ FunctionItem (record { attribute = Mangled; name = codes "run_static_initializers"; params = []; result = None; locals = []; body = stmts ([]) }) ∷ [] } ∷ []; entry = 0 }) (record { answers = [] }) 20 ≡ record { events = []; progress = ended (pos 1) }
unfolding pure fails ends seq takes_unit local tells grants begins rounds known_table
and_both = refl

-- `if` evaluates one of its branches
choose : rs_run (record { modules = record { name = codes "a"; items = FunctionItem (record { attribute = Mangled; name = codes "main_0"; params = []; result = Some (Integer I32); locals = []; body = stmts (Return (Some (Choose (Binary (Literal (pos 1) I32) Less (Literal (pos 2) I32)) (Literal (pos 3) I32) (Binary (Literal (pos 1) I32) Div (Literal (pos 0) I32)))) ∷ []) }) ∷ FunctionItem (record { attribute = Mangled; name = codes "run_static_initializers"; params = []; result = None; locals = []; body = stmts ([]) }) ∷ [] } ∷ []; entry = 0 }) (record { answers = [] }) 20 ≡ record { events = []; progress = ended (pos 3) }
unfolding pure fails ends seq takes_unit local tells grants begins rounds known_table
choose = refl

-- a local begins as zero, and is what was stored
local_zero : rs_run (record { modules = record { name = codes "a"; items = FunctionItem (record { attribute = Mangled; name = codes "main_0"; params = []; result = Some (Integer I32); locals = record { name = codes "x"; ty = Integer I32 } ∷ []; body = stmts (Return (Some (Binary (Read (Local (codes "x"))) Add (Literal (pos 1) I32))) ∷ []) }) ∷ FunctionItem (record { attribute = Mangled; name = codes "run_static_initializers"; params = []; result = None; locals = []; body = stmts ([]) }) ∷ [] } ∷ []; entry = 0 }) (record { answers = [] }) 20 ≡ record { events = []; progress = ended (pos 1) }
unfolding pure fails ends seq takes_unit local tells grants begins rounds known_table
local_zero = refl

local_stored : rs_run (record { modules = record { name = codes "a"; items = FunctionItem (record { attribute = Mangled; name = codes "main_0"; params = []; result = Some (Integer I32); locals = record { name = codes "x"; ty = Integer I32 } ∷ []; body = stmts (Assign (Local (codes "x")) (Literal (pos 9) I32) ∷ Return (Some (Read (Local (codes "x")))) ∷ []) }) ∷ FunctionItem (record { attribute = Mangled; name = codes "run_static_initializers"; params = []; result = None; locals = []; body = stmts ([]) }) ∷ [] } ∷ []; entry = 0 }) (record { answers = [] }) 20 ≡ record { events = []; progress = ended (pos 9) }
unfolding pure fails ends seq takes_unit local tells grants begins rounds known_table
local_stored = refl

-- a static object begins as zero, or as its literals
static_zero : rs_run (record { modules = record { name = codes "a"; items = StaticItem (record { attribute = Mangled; name = codes "s"; ty = Integer I32; values = None }) ∷ FunctionItem (record { attribute = Mangled; name = codes "main_0"; params = []; result = Some (Integer I32); locals = []; body = stmts (Return (Some (Read (Static (codes "a") (codes "s")))) ∷ []) }) ∷ FunctionItem (record { attribute = Mangled; name = codes "run_static_initializers"; params = []; result = None; locals = []; body = stmts ([]) }) ∷ [] } ∷ []; entry = 0 }) (record { answers = [] }) 20 ≡ record { events = []; progress = ended (pos 0) }
unfolding pure fails ends seq takes_unit local tells grants begins rounds known_table
static_zero = refl

static_list : rs_run (record { modules = record { name = codes "a"; items = StaticItem (record { attribute = Mangled; name = codes "s"; ty = Array (Integer I8) 2; values = Some (pos 7 ∷ negsuc 1 ∷ []) }) ∷ FunctionItem (record { attribute = Mangled; name = codes "main_0"; params = []; result = Some (Integer I32); locals = []; body = stmts (Return (Some (Cast (Read (Deref (Offset (Cast (AddressOf (Static (codes "a") (codes "s"))) (Pointer (Integer I8))) (Literal (pos 1) Isize)))) (Integer I32))) ∷ []) }) ∷ FunctionItem (record { attribute = Mangled; name = codes "run_static_initializers"; params = []; result = None; locals = []; body = stmts ([]) }) ∷ [] } ∷ []; entry = 0 }) (record { answers = [] }) 20 ≡ record { events = []; progress = ended (negsuc 1) }
unfolding pure fails ends seq takes_unit local tells grants begins rounds known_table
static_list = refl

-- a pointer leads to its object, and a store through it changes that
through_pointer : rs_run (record { modules = record { name = codes "a"; items = FunctionItem (record { attribute = Mangled; name = codes "main_0"; params = []; result = Some (Integer I32); locals = record { name = codes "x"; ty = Integer I32 } ∷ record { name = codes "p"; ty = Pointer (Integer I32) } ∷ []; body = stmts (Assign (Local (codes "p")) (AddressOf (Local (codes "x"))) ∷ Assign (Deref (Read (Local (codes "p")))) (Literal (pos 5) I32) ∷ Return (Some (Read (Local (codes "x")))) ∷ []) }) ∷ FunctionItem (record { attribute = Mangled; name = codes "run_static_initializers"; params = []; result = None; locals = []; body = stmts ([]) }) ∷ [] } ∷ []; entry = 0 }) (record { answers = [] }) 20 ≡ record { events = []; progress = ended (pos 5) }
unfolding pure fails ends seq takes_unit local tells grants begins rounds known_table
through_pointer = refl

-- a field stands where the layout of C puts it
field : rs_run (record { modules = record { name = codes "a"; items = RecordItem (record { align = None; is_union = false; name = codes "s"; fields = record { name = codes "c"; ty = Integer I8 } ∷ record { name = codes "n"; ty = Integer I32 } ∷ [] }) ∷ FunctionItem (record { attribute = Mangled; name = codes "main_0"; params = []; result = Some (Integer I32); locals = record { name = codes "x"; ty = Record (codes "a") (codes "s") } ∷ record { name = codes "b"; ty = Integer I32 } ∷ []; body = stmts (Assign (Local (codes "b")) (Cast (OffsetFrom (Cast (AddressOf (Field (Local (codes "x")) (codes "n"))) (Pointer (Integer U8))) (Cast (AddressOf (Local (codes "x"))) (Pointer (Integer U8)))) (Integer I32)) ∷ Return (Some (Read (Local (codes "b")))) ∷ []) }) ∷ FunctionItem (record { attribute = Mangled; name = codes "run_static_initializers"; params = []; result = None; locals = []; body = stmts ([]) }) ∷ [] } ∷ []; entry = 0 }) (record { answers = [] }) 20 ≡ record { events = []; progress = ended (pos 4) }
unfolding pure fails ends seq takes_unit local tells grants begins rounds known_table
field = refl

field_stored : rs_run (record { modules = record { name = codes "a"; items = RecordItem (record { align = None; is_union = false; name = codes "s"; fields = record { name = codes "c"; ty = Integer I8 } ∷ record { name = codes "n"; ty = Integer I32 } ∷ [] }) ∷ FunctionItem (record { attribute = Mangled; name = codes "main_0"; params = []; result = Some (Integer I32); locals = record { name = codes "x"; ty = Record (codes "a") (codes "s") } ∷ []; body = stmts (Assign (Field (Local (codes "x")) (codes "n")) (Literal (pos 8) I32) ∷ Return (Some (Read (Field (Local (codes "x")) (codes "n")))) ∷ []) }) ∷ FunctionItem (record { attribute = Mangled; name = codes "run_static_initializers"; params = []; result = None; locals = []; body = stmts ([]) }) ∷ [] } ∷ []; entry = 0 }) (record { answers = [] }) 20 ≡ record { events = []; progress = ended (pos 8) }
unfolding pure fails ends seq takes_unit local tells grants begins rounds known_table
field_stored = refl

-- the fields of a union share their bytes; the lowest byte stands first
union : rs_run (record { modules = record { name = codes "a"; items = RecordItem (record { align = None; is_union = true; name = codes "u"; fields = record { name = codes "n"; ty = Integer I32 } ∷ record { name = codes "b"; ty = Integer U8 } ∷ [] }) ∷ FunctionItem (record { attribute = Mangled; name = codes "main_0"; params = []; result = Some (Integer I32); locals = record { name = codes "x"; ty = Record (codes "a") (codes "u") } ∷ []; body = stmts (Assign (Field (Local (codes "x")) (codes "n")) (Literal (pos 258) I32) ∷ Return (Some (Cast (Read (Field (Local (codes "x")) (codes "b"))) (Integer I32))) ∷ []) }) ∷ FunctionItem (record { attribute = Mangled; name = codes "run_static_initializers"; params = []; result = None; locals = []; body = stmts ([]) }) ∷ [] } ∷ []; entry = 0 }) (record { answers = [] }) 20 ≡ record { events = []; progress = ended (pos 2) }
unfolding pure fails ends seq takes_unit local tells grants begins rounds known_table
union = refl

-- elements stand side by side
element : rs_run (record { modules = record { name = codes "a"; items = FunctionItem (record { attribute = Mangled; name = codes "main_0"; params = []; result = Some (Integer I32); locals = record { name = codes "x"; ty = Array (Integer I32) 3 } ∷ []; body = stmts (Assign (Deref (Offset (Cast (AddressOf (Local (codes "x"))) (Pointer (Integer I32))) (Literal (pos 2) Isize))) (Literal (pos 6) I32) ∷ Return (Some (Read (Deref (Offset (Cast (AddressOf (Local (codes "x"))) (Pointer (Integer I32))) (Literal (pos 2) Isize))))) ∷ []) }) ∷ FunctionItem (record { attribute = Mangled; name = codes "run_static_initializers"; params = []; result = None; locals = []; body = stmts ([]) }) ∷ [] } ∷ []; entry = 0 }) (record { answers = [] }) 20 ≡ record { events = []; progress = ended (pos 6) }
unfolding pure fails ends seq takes_unit local tells grants begins rounds known_table
element = refl

-- `offset_from` counts elements
offset_from : rs_run (record { modules = record { name = codes "a"; items = FunctionItem (record { attribute = Mangled; name = codes "main_0"; params = []; result = Some (Integer I32); locals = record { name = codes "x"; ty = Array (Integer I32) 3 } ∷ []; body = stmts (Return (Some (Cast (OffsetFrom (Offset (Cast (AddressOf (Local (codes "x"))) (Pointer (Integer I32))) (Literal (pos 2) Isize)) (Cast (AddressOf (Local (codes "x"))) (Pointer (Integer I32)))) (Integer I32))) ∷ []) }) ∷ FunctionItem (record { attribute = Mangled; name = codes "run_static_initializers"; params = []; result = None; locals = []; body = stmts ([]) }) ∷ [] } ∷ []; entry = 0 }) (record { answers = [] }) 20 ≡ record { events = []; progress = ended (pos 2) }
unfolding pure fails ends seq takes_unit local tells grants begins rounds known_table
offset_from = refl

-- pointers into one object are ordered by their offsets
order_pointers : rs_run (record { modules = record { name = codes "a"; items = FunctionItem (record { attribute = Mangled; name = codes "main_0"; params = []; result = Some (Integer I32); locals = record { name = codes "x"; ty = Array (Integer I32) 3 } ∷ []; body = stmts (Return (Some (Cast (Binary (Cast (AddressOf (Local (codes "x"))) (Pointer (Integer I32))) Less (Offset (Cast (AddressOf (Local (codes "x"))) (Pointer (Integer I32))) (Literal (pos 3) Isize))) (Integer I32))) ∷ []) }) ∷ FunctionItem (record { attribute = Mangled; name = codes "run_static_initializers"; params = []; result = None; locals = []; body = stmts ([]) }) ∷ [] } ∷ []; entry = 0 }) (record { answers = [] }) 20 ≡ record { events = []; progress = ended (pos 1) }
unfolding pure fails ends seq takes_unit local tells grants begins rounds known_table
order_pointers = refl

-- pointers to two objects are told apart
differ : rs_run (record { modules = record { name = codes "a"; items = FunctionItem (record { attribute = Mangled; name = codes "main_0"; params = []; result = Some (Integer I32); locals = record { name = codes "x"; ty = Integer I32 } ∷ record { name = codes "y"; ty = Integer I32 } ∷ []; body = stmts (Return (Some (Cast (Binary (AddressOf (Local (codes "x"))) Equal (AddressOf (Local (codes "y")))) (Integer I32))) ∷ []) }) ∷ FunctionItem (record { attribute = Mangled; name = codes "run_static_initializers"; params = []; result = None; locals = []; body = stmts ([]) }) ∷ [] } ∷ []; entry = 0 }) (record { answers = [] }) 20 ≡ record { events = []; progress = ended (pos 0) }
unfolding pure fails ends seq takes_unit local tells grants begins rounds known_table
differ = refl

-- the null pointer
null : rs_run (record { modules = record { name = codes "a"; items = FunctionItem (record { attribute = Mangled; name = codes "main_0"; params = []; result = Some (Integer I32); locals = []; body = stmts (Return (Some (Cast (IsNull (NullPointer (Integer I32))) (Integer I32))) ∷ []) }) ∷ FunctionItem (record { attribute = Mangled; name = codes "run_static_initializers"; params = []; result = None; locals = []; body = stmts ([]) }) ∷ [] } ∷ []; entry = 0 }) (record { answers = [] }) 20 ≡ record { events = []; progress = ended (pos 1) }
unfolding pure fails ends seq takes_unit local tells grants begins rounds known_table
null = refl

not_null : rs_run (record { modules = record { name = codes "a"; items = FunctionItem (record { attribute = Mangled; name = codes "main_0"; params = []; result = Some (Integer I32); locals = record { name = codes "x"; ty = Integer I32 } ∷ []; body = stmts (Return (Some (Cast (IsNull (AddressOf (Local (codes "x")))) (Integer I32))) ∷ []) }) ∷ FunctionItem (record { attribute = Mangled; name = codes "run_static_initializers"; params = []; result = None; locals = []; body = stmts ([]) }) ∷ [] } ∷ []; entry = 0 }) (record { answers = [] }) 20 ≡ record { events = []; progress = ended (pos 0) }
unfolding pure fails ends seq takes_unit local tells grants begins rounds known_table
not_null = refl

-- bytes are copied, also over themselves
copies : rs_run (record { modules = record { name = codes "a"; items = FunctionItem (record { attribute = Mangled; name = codes "main_0"; params = []; result = Some (Integer I32); locals = record { name = codes "x"; ty = Integer I32 } ∷ record { name = codes "y"; ty = Integer I32 } ∷ []; body = stmts (Assign (Local (codes "x")) (Literal (pos 77) I32) ∷ CopyBytes (Cast (AddressOf (Local (codes "x"))) (Pointer (Integer U8))) (Cast (AddressOf (Local (codes "y"))) (Pointer (Integer U8))) (Literal (pos 4) Usize) ∷ Return (Some (Read (Local (codes "y")))) ∷ []) }) ∷ FunctionItem (record { attribute = Mangled; name = codes "run_static_initializers"; params = []; result = None; locals = []; body = stmts ([]) }) ∷ [] } ∷ []; entry = 0 }) (record { answers = [] }) 20 ≡ record { events = []; progress = ended (pos 77) }
unfolding pure fails ends seq takes_unit local tells grants begins rounds known_table
copies = refl

-- a copy of no bytes asks for nothing
copies_none : rs_run (record { modules = record { name = codes "a"; items = FunctionItem (record { attribute = Mangled; name = codes "main_0"; params = []; result = Some (Integer I32); locals = []; body = stmts (CopyBytes (NullPointer (Integer U8)) (NullPointer (Integer U8)) (Literal (pos 0) Usize) ∷ Return (Some (Literal (pos 1) I32)) ∷ []) }) ∷ FunctionItem (record { attribute = Mangled; name = codes "run_static_initializers"; params = []; result = None; locals = []; body = stmts ([]) }) ∷ [] } ∷ []; entry = 0 }) (record { answers = [] }) 20 ≡ record { events = []; progress = ended (pos 1) }
unfolding pure fails ends seq takes_unit local tells grants begins rounds known_table
copies_none = refl

-- arguments go to the parameters from the left
call : rs_run (record { modules = record { name = codes "a"; items = FunctionItem (record { attribute = Mangled; name = codes "add"; params = record { name = codes "a"; ty = Integer I32 } ∷ record { name = codes "b"; ty = Integer I32 } ∷ []; result = Some (Integer I32); locals = []; body = stmts (Return (Some (Binary (Read (Local (codes "a"))) Sub (Read (Local (codes "b"))))) ∷ []) }) ∷ FunctionItem (record { attribute = Mangled; name = codes "main_0"; params = []; result = Some (Integer I32); locals = []; body = stmts (Return (Some (Calls (codes "a") (codes "add") (exprs (Literal (pos 9) I32 ∷ Literal (pos 2) I32 ∷ [])))) ∷ []) }) ∷ FunctionItem (record { attribute = Mangled; name = codes "run_static_initializers"; params = []; result = None; locals = []; body = stmts ([]) }) ∷ [] } ∷ []; entry = 0 }) (record { answers = [] }) 20 ≡ record { events = []; progress = ended (pos 7) }
unfolding pure fails ends seq takes_unit local tells grants begins rounds known_table
call = refl

-- a call by a function pointer
call_by : rs_run (record { modules = record { name = codes "a"; items = FunctionItem (record { attribute = Mangled; name = codes "add"; params = record { name = codes "a"; ty = Integer I32 } ∷ record { name = codes "b"; ty = Integer I32 } ∷ []; result = Some (Integer I32); locals = []; body = stmts (Return (Some (Binary (Read (Local (codes "a"))) Sub (Read (Local (codes "b"))))) ∷ []) }) ∷ FunctionItem (record { attribute = Mangled; name = codes "main_0"; params = []; result = Some (Integer I32); locals = []; body = stmts (Return (Some (CallBy (SomeFunction (codes "a") (codes "add") (tys (Integer I32 ∷ Integer I32 ∷ [])) (some_ty (Integer I32))) (exprs (Literal (pos 9) I32 ∷ Literal (pos 3) I32 ∷ [])))) ∷ []) }) ∷ FunctionItem (record { attribute = Mangled; name = codes "run_static_initializers"; params = []; result = None; locals = []; body = stmts ([]) }) ∷ [] } ∷ []; entry = 0 }) (record { answers = [] }) 20 ≡ record { events = []; progress = ended (pos 6) }
unfolding pure fails ends seq takes_unit local tells grants begins rounds known_table
call_by = refl

is_none : rs_run (record { modules = record { name = codes "a"; items = FunctionItem (record { attribute = Mangled; name = codes "add"; params = record { name = codes "a"; ty = Integer I32 } ∷ record { name = codes "b"; ty = Integer I32 } ∷ []; result = Some (Integer I32); locals = []; body = stmts (Return (Some (Binary (Read (Local (codes "a"))) Sub (Read (Local (codes "b"))))) ∷ []) }) ∷ FunctionItem (record { attribute = Mangled; name = codes "main_0"; params = []; result = Some (Integer I32); locals = record { name = codes "f"; ty = Code (tys (Integer I32 ∷ Integer I32 ∷ [])) (some_ty (Integer I32)) } ∷ []; body = stmts (Assign (Local (codes "f")) (NoFunction) ∷ Return (Some (Cast (IsNone (Read (Local (codes "f")))) (Integer I32))) ∷ []) }) ∷ FunctionItem (record { attribute = Mangled; name = codes "run_static_initializers"; params = []; result = None; locals = []; body = stmts ([]) }) ∷ [] } ∷ []; entry = 0 }) (record { answers = [] }) 20 ≡ record { events = []; progress = ended (pos 1) }
unfolding pure fails ends seq takes_unit local tells grants begins rounds known_table
is_none = refl

-- a parameter is an object of its own
param_is_own : rs_run (record { modules = record { name = codes "a"; items = FunctionItem (record { attribute = Mangled; name = codes "set"; params = record { name = codes "a"; ty = Integer I32 } ∷ []; result = None; locals = []; body = stmts (Assign (Local (codes "a")) (Literal (pos 1) I32) ∷ []) }) ∷ FunctionItem (record { attribute = Mangled; name = codes "main_0"; params = []; result = Some (Integer I32); locals = record { name = codes "x"; ty = Integer I32 } ∷ []; body = stmts (Assign (Local (codes "x")) (Literal (pos 4) I32) ∷ Eval (Calls (codes "a") (codes "set") (exprs (Read (Local (codes "x")) ∷ []))) ∷ Return (Some (Read (Local (codes "x")))) ∷ []) }) ∷ FunctionItem (record { attribute = Mangled; name = codes "run_static_initializers"; params = []; result = None; locals = []; body = stmts ([]) }) ∷ [] } ∷ []; entry = 0 }) (record { answers = [] }) 20 ≡ record { events = []; progress = ended (pos 4) }
unfolding pure fails ends seq takes_unit local tells grants begins rounds known_table
param_is_own = refl

-- the value goes before the place
value_first : rs_run (record { modules = record { name = codes "a"; items = FunctionItem (record { attribute = Mangled; name = codes "same"; params = record { name = codes "q"; ty = Pointer (Integer I32) } ∷ []; result = Some (Pointer (Integer I32)); locals = []; body = stmts (Return (Some (Read (Local (codes "q")))) ∷ []) }) ∷ FunctionItem (record { attribute = Mangled; name = codes "main_0"; params = []; result = Some (Integer I32); locals = record { name = codes "x"; ty = Integer I32 } ∷ record { name = codes "p"; ty = Pointer (Integer I32) } ∷ []; body = stmts (Assign (Local (codes "p")) (AddressOf (Local (codes "x"))) ∷ Assign (Deref (Calls (codes "a") (codes "same") (exprs (Read (Local (codes "p")) ∷ [])))) (Choose (IsNull (Read (Local (codes "p")))) (Literal (pos 1) I32) (Literal (pos 3) I32)) ∷ Return (Some (Read (Local (codes "x")))) ∷ []) }) ∷ FunctionItem (record { attribute = Mangled; name = codes "run_static_initializers"; params = []; result = None; locals = []; body = stmts ([]) }) ∷ [] } ∷ []; entry = 0 }) (record { answers = [] }) 20 ≡ record { events = []; progress = ended (pos 3) }
unfolding pure fails ends seq takes_unit local tells grants begins rounds known_table
value_first = refl

-- `if` without `else`
if_false : rs_run (record { modules = record { name = codes "a"; items = FunctionItem (record { attribute = Mangled; name = codes "main_0"; params = []; result = Some (Integer I32); locals = record { name = codes "x"; ty = Integer I32 } ∷ []; body = stmts (If (Truth false) (stmts (Assign (Local (codes "x")) (Literal (pos 1) I32) ∷ [])) (stmts ([])) ∷ Return (Some (Read (Local (codes "x")))) ∷ []) }) ∷ FunctionItem (record { attribute = Mangled; name = codes "run_static_initializers"; params = []; result = None; locals = []; body = stmts ([]) }) ∷ [] } ∷ []; entry = 0 }) (record { answers = [] }) 20 ≡ record { events = []; progress = ended (pos 0) }
unfolding pure fails ends seq takes_unit local tells grants begins rounds known_table
if_false = refl

-- `break` leaves the loop of its label, through others
break_outer : rs_run (record { modules = record { name = codes "a"; items = FunctionItem (record { attribute = Mangled; name = codes "main_0"; params = []; result = Some (Integer I32); locals = record { name = codes "x"; ty = Integer I32 } ∷ []; body = stmts (Loop (Some (codes "l")) (stmts (Loop (Some (codes "m")) (stmts (Assign (Local (codes "x")) (Literal (pos 1) I32) ∷ Break (codes "l") ∷ [])) ∷ Assign (Local (codes "x")) (Literal (pos 2) I32) ∷ [])) ∷ Return (Some (Read (Local (codes "x")))) ∷ []) }) ∷ FunctionItem (record { attribute = Mangled; name = codes "run_static_initializers"; params = []; result = None; locals = []; body = stmts ([]) }) ∷ [] } ∷ []; entry = 0 }) (record { answers = [] }) 20 ≡ record { events = []; progress = ended (pos 1) }
unfolding pure fails ends seq takes_unit local tells grants begins rounds known_table
break_outer = refl

-- `continue` begins the next turn of the loop of its label
continue_outer : rs_run (record { modules = record { name = codes "a"; items = FunctionItem (record { attribute = Mangled; name = codes "main_0"; params = []; result = Some (Integer I32); locals = record { name = codes "x"; ty = Integer I32 } ∷ []; body = stmts (Loop (Some (codes "l")) (stmts (Assign (Local (codes "x")) (Binary (Read (Local (codes "x"))) Add (Literal (pos 1) I32)) ∷ If (Binary (Read (Local (codes "x"))) Equal (Literal (pos 3) I32)) (stmts (Break (codes "l") ∷ [])) (stmts ([])) ∷ Loop (Some (codes "m")) (stmts (Continue (codes "l") ∷ [])) ∷ [])) ∷ Return (Some (Read (Local (codes "x")))) ∷ []) }) ∷ FunctionItem (record { attribute = Mangled; name = codes "run_static_initializers"; params = []; result = None; locals = []; body = stmts ([]) }) ∷ [] } ∷ []; entry = 0 }) (record { answers = [] }) 20 ≡ record { events = []; progress = ended (pos 3) }
unfolding pure fails ends seq takes_unit local tells grants begins rounds known_table
continue_outer = refl

-- `break` leaves a block
break_block : rs_run (record { modules = record { name = codes "a"; items = FunctionItem (record { attribute = Mangled; name = codes "main_0"; params = []; result = Some (Integer I32); locals = record { name = codes "x"; ty = Integer I32 } ∷ []; body = stmts (Block (codes "b") (stmts (Break (codes "b") ∷ Assign (Local (codes "x")) (Literal (pos 1) I32) ∷ [])) ∷ Return (Some (Read (Local (codes "x")))) ∷ []) }) ∷ FunctionItem (record { attribute = Mangled; name = codes "run_static_initializers"; params = []; result = None; locals = []; body = stmts ([]) }) ∷ [] } ∷ []; entry = 0 }) (record { answers = [] }) 20 ≡ record { events = []; progress = ended (pos 0) }
unfolding pure fails ends seq takes_unit local tells grants begins rounds known_table
break_block = refl

-- `match` takes the first arm of the value, and no other
match_arm : rs_run (record { modules = record { name = codes "a"; items = FunctionItem (record { attribute = Mangled; name = codes "main_0"; params = []; result = Some (Integer I32); locals = record { name = codes "x"; ty = Integer I32 } ∷ []; body = stmts (Match (Literal (pos 2) I32) (arms (LiteralArm (pos 1) I32 (stmts (Assign (Local (codes "x")) (Literal (pos 10) I32) ∷ [])) ∷ LiteralArm (pos 2) I32 (stmts (Assign (Local (codes "x")) (Literal (pos 20) I32) ∷ [])) ∷ LiteralArm (pos 3) I32 (stmts (Assign (Local (codes "x")) (Literal (pos 30) I32) ∷ [])) ∷ [])) (stmts (Assign (Local (codes "x")) (Literal (pos 40) I32) ∷ [])) ∷ Return (Some (Read (Local (codes "x")))) ∷ []) }) ∷ FunctionItem (record { attribute = Mangled; name = codes "run_static_initializers"; params = []; result = None; locals = []; body = stmts ([]) }) ∷ [] } ∷ []; entry = 0 }) (record { answers = [] }) 20 ≡ record { events = []; progress = ended (pos 20) }
unfolding pure fails ends seq takes_unit local tells grants begins rounds known_table
match_arm = refl

-- or the arm `_`
match_other : rs_run (record { modules = record { name = codes "a"; items = FunctionItem (record { attribute = Mangled; name = codes "main_0"; params = []; result = Some (Integer I32); locals = record { name = codes "x"; ty = Integer I32 } ∷ []; body = stmts (Match (Literal (pos 9) I32) (arms (LiteralArm (pos 1) I32 (stmts (Assign (Local (codes "x")) (Literal (pos 10) I32) ∷ [])) ∷ [])) (stmts (Assign (Local (codes "x")) (Literal (pos 40) I32) ∷ [])) ∷ Return (Some (Read (Local (codes "x")))) ∷ []) }) ∷ FunctionItem (record { attribute = Mangled; name = codes "run_static_initializers"; params = []; result = None; locals = []; body = stmts ([]) }) ∷ [] } ∷ []; entry = 0 }) (record { answers = [] }) 20 ≡ record { events = []; progress = ended (pos 40) }
unfolding pure fails ends seq takes_unit local tells grants begins rounds known_table
match_other = refl

-- `return` leaves through loops
return_through : rs_run (record { modules = record { name = codes "a"; items = FunctionItem (record { attribute = Mangled; name = codes "main_0"; params = []; result = Some (Integer I32); locals = []; body = stmts (Loop (None) (stmts (Block (codes "b") (stmts (Return (Some (Literal (pos 5) I32)) ∷ [])) ∷ [])) ∷ Return (Some (Literal (pos 0) I32)) ∷ []) }) ∷ FunctionItem (record { attribute = Mangled; name = codes "run_static_initializers"; params = []; result = None; locals = []; body = stmts ([]) }) ∷ [] } ∷ []; entry = 0 }) (record { answers = [] }) 20 ≡ record { events = []; progress = ended (pos 5) }
unfolding pure fails ends seq takes_unit local tells grants begins rounds known_table
return_through = refl

cause_divisor : rs_run (record { modules = record { name = codes "a"; items = FunctionItem (record { attribute = Mangled; name = codes "main_0"; params = []; result = Some (Integer I32); locals = []; body = stmts (Return (Some (Binary (Literal (pos 1) I32) Div (Literal (pos 0) I32))) ∷ []) }) ∷ FunctionItem (record { attribute = Mangled; name = codes "run_static_initializers"; params = []; result = None; locals = []; body = stmts ([]) }) ∷ [] } ∷ []; entry = 0 }) (record { answers = [] }) 20 ≡ record { events = []; progress = stopped (wrong cause.Divisor) }
unfolding pure fails ends seq takes_unit local tells grants begins rounds known_table
cause_divisor = refl

cause_divisor_quotient : rs_run (record { modules = record { name = codes "a"; items = FunctionItem (record { attribute = Mangled; name = codes "main_0"; params = []; result = Some (Integer I32); locals = []; body = stmts (Return (Some (Binary (Literal (negsuc 2147483647) I32) Rem (Literal (negsuc 0) I32))) ∷ []) }) ∷ FunctionItem (record { attribute = Mangled; name = codes "run_static_initializers"; params = []; result = None; locals = []; body = stmts ([]) }) ∷ [] } ∷ []; entry = 0 }) (record { answers = [] }) 20 ≡ record { events = []; progress = stopped (wrong cause.Divisor) }
unfolding pure fails ends seq takes_unit local tells grants begins rounds known_table
cause_divisor_quotient = refl

cause_neg : rs_run (record { modules = record { name = codes "a"; items = FunctionItem (record { attribute = Mangled; name = codes "main_0"; params = []; result = Some (Integer I32); locals = []; body = stmts (Return (Some (Neg (Cast (Literal (negsuc 2147483647) I32) (Integer I32)))) ∷ []) }) ∷ FunctionItem (record { attribute = Mangled; name = codes "run_static_initializers"; params = []; result = None; locals = []; body = stmts ([]) }) ∷ [] } ∷ []; entry = 0 }) (record { answers = [] }) 20 ≡ record { events = []; progress = stopped (wrong cause.Overflow) }
unfolding pure fails ends seq takes_unit local tells grants begins rounds known_table
cause_neg = refl

cause_shift : rs_run (record { modules = record { name = codes "a"; items = FunctionItem (record { attribute = Mangled; name = codes "main_0"; params = []; result = Some (Integer I32); locals = []; body = stmts (Return (Some (Binary (Literal (pos 1) I32) Shl (Literal (pos 32) U32))) ∷ []) }) ∷ FunctionItem (record { attribute = Mangled; name = codes "run_static_initializers"; params = []; result = None; locals = []; body = stmts ([]) }) ∷ [] } ∷ []; entry = 0 }) (record { answers = [] }) 20 ≡ record { events = []; progress = stopped (wrong cause.Shift) }
unfolding pure fails ends seq takes_unit local tells grants begins rounds known_table
cause_shift = refl

-- a local has ended once its function returned
cause_dead : rs_run (record { modules = record { name = codes "a"; items = FunctionItem (record { attribute = Mangled; name = codes "gone"; params = []; result = Some (Pointer (Integer I32)); locals = record { name = codes "x"; ty = Integer I32 } ∷ []; body = stmts (Return (Some (AddressOf (Local (codes "x")))) ∷ []) }) ∷ FunctionItem (record { attribute = Mangled; name = codes "main_0"; params = []; result = Some (Integer I32); locals = []; body = stmts (Return (Some (Read (Deref (Calls (codes "a") (codes "gone") (exprs ([])))))) ∷ []) }) ∷ FunctionItem (record { attribute = Mangled; name = codes "run_static_initializers"; params = []; result = None; locals = []; body = stmts ([]) }) ∷ [] } ∷ []; entry = 0 }) (record { answers = [] }) 20 ≡ record { events = []; progress = stopped (wrong cause.Dead) }
unfolding pure fails ends seq takes_unit local tells grants begins rounds known_table
cause_dead = refl

cause_dead_offset : rs_run (record { modules = record { name = codes "a"; items = FunctionItem (record { attribute = Mangled; name = codes "gone"; params = []; result = Some (Pointer (Integer I32)); locals = record { name = codes "x"; ty = Integer I32 } ∷ []; body = stmts (Return (Some (AddressOf (Local (codes "x")))) ∷ []) }) ∷ FunctionItem (record { attribute = Mangled; name = codes "main_0"; params = []; result = Some (Integer I32); locals = []; body = stmts (Return (Some (Cast (IsNull (Offset (Calls (codes "a") (codes "gone") (exprs ([]))) (Literal (pos 0) Isize))) (Integer I32))) ∷ []) }) ∷ FunctionItem (record { attribute = Mangled; name = codes "run_static_initializers"; params = []; result = None; locals = []; body = stmts ([]) }) ∷ [] } ∷ []; entry = 0 }) (record { answers = [] }) 20 ≡ record { events = []; progress = stopped (wrong cause.Dead) }
unfolding pure fails ends seq takes_unit local tells grants begins rounds known_table
cause_dead_offset = refl

cause_outside_null : rs_run (record { modules = record { name = codes "a"; items = FunctionItem (record { attribute = Mangled; name = codes "main_0"; params = []; result = Some (Integer I32); locals = []; body = stmts (Return (Some (Read (Deref (NullPointer (Integer I32))))) ∷ []) }) ∷ FunctionItem (record { attribute = Mangled; name = codes "run_static_initializers"; params = []; result = None; locals = []; body = stmts ([]) }) ∷ [] } ∷ []; entry = 0 }) (record { answers = [] }) 20 ≡ record { events = []; progress = stopped (wrong cause.Outside) }
unfolding pure fails ends seq takes_unit local tells grants begins rounds known_table
cause_outside_null = refl

cause_outside : rs_run (record { modules = record { name = codes "a"; items = FunctionItem (record { attribute = Mangled; name = codes "main_0"; params = []; result = Some (Integer I32); locals = record { name = codes "x"; ty = Integer I32 } ∷ []; body = stmts (Return (Some (Read (Deref (Offset (AddressOf (Local (codes "x"))) (Literal (pos 1) Isize))))) ∷ []) }) ∷ FunctionItem (record { attribute = Mangled; name = codes "run_static_initializers"; params = []; result = None; locals = []; body = stmts ([]) }) ∷ [] } ∷ []; entry = 0 }) (record { answers = [] }) 20 ≡ record { events = []; progress = stopped (wrong cause.Outside) }
unfolding pure fails ends seq takes_unit local tells grants begins rounds known_table
cause_outside = refl

-- bytes of `malloc` are unset
cause_unset : rs_run (record { modules = record { name = codes "a"; items = ExternItem (record { link_name = None; name = codes "malloc"; params = Integer U64 ∷ []; variadic = false; result = Some (Pointer Void) } ∷ record { link_name = None; name = codes "free"; params = Pointer Void ∷ []; variadic = false; result = None } ∷ record { link_name = None; name = codes "memcpy"; params = Pointer Void ∷ Pointer Void ∷ Integer U64 ∷ []; variadic = false; result = Some (Pointer Void) } ∷ record { link_name = None; name = codes "calloc"; params = Integer U64 ∷ Integer U64 ∷ []; variadic = false; result = Some (Pointer Void) } ∷ record { link_name = None; name = codes "exit"; params = Integer I32 ∷ []; variadic = false; result = None } ∷ record { link_name = None; name = codes "abort"; params = []; variadic = false; result = None } ∷ record { link_name = None; name = codes "memset"; params = Pointer Void ∷ Integer I32 ∷ Integer U64 ∷ []; variadic = false; result = Some (Pointer Void) } ∷ []) ∷ FunctionItem (record { attribute = Mangled; name = codes "main_0"; params = []; result = Some (Integer I32); locals = []; body = stmts (Return (Some (Read (Deref (Cast (Calls (codes "a") (codes "malloc") (exprs (Literal (pos 4) U64 ∷ []))) (Pointer (Integer I32)))))) ∷ []) }) ∷ FunctionItem (record { attribute = Mangled; name = codes "run_static_initializers"; params = []; result = None; locals = []; body = stmts ([]) }) ∷ [] } ∷ []; entry = 0 }) (record { answers = pos 1 ∷ [] }) 20 ≡ record { events = []; progress = stopped (wrong cause.Unset) }
unfolding pure fails ends seq takes_unit local tells grants begins rounds known_table
cause_unset = refl

-- those of `calloc` are zero
calloc_zero : rs_run (record { modules = record { name = codes "a"; items = ExternItem (record { link_name = None; name = codes "malloc"; params = Integer U64 ∷ []; variadic = false; result = Some (Pointer Void) } ∷ record { link_name = None; name = codes "free"; params = Pointer Void ∷ []; variadic = false; result = None } ∷ record { link_name = None; name = codes "memcpy"; params = Pointer Void ∷ Pointer Void ∷ Integer U64 ∷ []; variadic = false; result = Some (Pointer Void) } ∷ record { link_name = None; name = codes "calloc"; params = Integer U64 ∷ Integer U64 ∷ []; variadic = false; result = Some (Pointer Void) } ∷ record { link_name = None; name = codes "exit"; params = Integer I32 ∷ []; variadic = false; result = None } ∷ record { link_name = None; name = codes "abort"; params = []; variadic = false; result = None } ∷ record { link_name = None; name = codes "memset"; params = Pointer Void ∷ Integer I32 ∷ Integer U64 ∷ []; variadic = false; result = Some (Pointer Void) } ∷ []) ∷ FunctionItem (record { attribute = Mangled; name = codes "main_0"; params = []; result = Some (Integer I32); locals = []; body = stmts (Return (Some (Read (Deref (Cast (Calls (codes "a") (codes "calloc") (exprs (Literal (pos 1) U64 ∷ Literal (pos 4) U64 ∷ []))) (Pointer (Integer I32)))))) ∷ []) }) ∷ FunctionItem (record { attribute = Mangled; name = codes "run_static_initializers"; params = []; result = None; locals = []; body = stmts ([]) }) ∷ [] } ∷ []; entry = 0 }) (record { answers = pos 1 ∷ [] }) 20 ≡ record { events = []; progress = ended (pos 0) }
unfolding pure fails ends seq takes_unit local tells grants begins rounds known_table
calloc_zero = refl

-- an answer of 0 is null, and so is more than any object has, which takes no answer
malloc_null : rs_run (record { modules = record { name = codes "a"; items = ExternItem (record { link_name = None; name = codes "malloc"; params = Integer U64 ∷ []; variadic = false; result = Some (Pointer Void) } ∷ record { link_name = None; name = codes "free"; params = Pointer Void ∷ []; variadic = false; result = None } ∷ record { link_name = None; name = codes "memcpy"; params = Pointer Void ∷ Pointer Void ∷ Integer U64 ∷ []; variadic = false; result = Some (Pointer Void) } ∷ record { link_name = None; name = codes "calloc"; params = Integer U64 ∷ Integer U64 ∷ []; variadic = false; result = Some (Pointer Void) } ∷ record { link_name = None; name = codes "exit"; params = Integer I32 ∷ []; variadic = false; result = None } ∷ record { link_name = None; name = codes "abort"; params = []; variadic = false; result = None } ∷ record { link_name = None; name = codes "memset"; params = Pointer Void ∷ Integer I32 ∷ Integer U64 ∷ []; variadic = false; result = Some (Pointer Void) } ∷ []) ∷ FunctionItem (record { attribute = Mangled; name = codes "main_0"; params = []; result = Some (Integer I32); locals = []; body = stmts (Return (Some (Cast (IsNull (Calls (codes "a") (codes "malloc") (exprs (Literal (pos 4) U64 ∷ [])))) (Integer I32))) ∷ []) }) ∷ FunctionItem (record { attribute = Mangled; name = codes "run_static_initializers"; params = []; result = None; locals = []; body = stmts ([]) }) ∷ [] } ∷ []; entry = 0 }) (record { answers = pos 0 ∷ [] }) 20 ≡ record { events = []; progress = ended (pos 1) }
unfolding pure fails ends seq takes_unit local tells grants begins rounds known_table
malloc_null = refl

malloc_large : rs_run (record { modules = record { name = codes "a"; items = ExternItem (record { link_name = None; name = codes "malloc"; params = Integer U64 ∷ []; variadic = false; result = Some (Pointer Void) } ∷ record { link_name = None; name = codes "free"; params = Pointer Void ∷ []; variadic = false; result = None } ∷ record { link_name = None; name = codes "memcpy"; params = Pointer Void ∷ Pointer Void ∷ Integer U64 ∷ []; variadic = false; result = Some (Pointer Void) } ∷ record { link_name = None; name = codes "calloc"; params = Integer U64 ∷ Integer U64 ∷ []; variadic = false; result = Some (Pointer Void) } ∷ record { link_name = None; name = codes "exit"; params = Integer I32 ∷ []; variadic = false; result = None } ∷ record { link_name = None; name = codes "abort"; params = []; variadic = false; result = None } ∷ record { link_name = None; name = codes "memset"; params = Pointer Void ∷ Integer I32 ∷ Integer U64 ∷ []; variadic = false; result = Some (Pointer Void) } ∷ []) ∷ FunctionItem (record { attribute = Mangled; name = codes "main_0"; params = []; result = Some (Integer I32); locals = []; body = stmts (Return (Some (Cast (IsNull (Calls (codes "a") (codes "malloc") (exprs (Literal (pos 16777217) U64 ∷ [])))) (Integer I32))) ∷ []) }) ∷ FunctionItem (record { attribute = Mangled; name = codes "run_static_initializers"; params = []; result = None; locals = []; body = stmts ([]) }) ∷ [] } ∷ []; entry = 0 }) (record { answers = pos 1 ∷ [] }) 20 ≡ record { events = []; progress = ended (pos 1) }
unfolding pure fails ends seq takes_unit local tells grants begins rounds known_table
malloc_large = refl

cause_bad_bool : rs_run (record { modules = record { name = codes "a"; items = FunctionItem (record { attribute = Mangled; name = codes "main_0"; params = []; result = Some (Integer I32); locals = record { name = codes "x"; ty = Integer U8 } ∷ []; body = stmts (Assign (Local (codes "x")) (Literal (pos 2) U8) ∷ Return (Some (Cast (Read (Deref (Cast (AddressOf (Local (codes "x"))) (Pointer Boolean)))) (Integer I32))) ∷ []) }) ∷ FunctionItem (record { attribute = Mangled; name = codes "run_static_initializers"; params = []; result = None; locals = []; body = stmts ([]) }) ∷ [] } ∷ []; entry = 0 }) (record { answers = [] }) 20 ≡ record { events = []; progress = stopped (wrong cause.BadBool) }
unfolding pure fails ends seq takes_unit local tells grants begins rounds known_table
cause_bad_bool = refl

-- bytes of a pointer aren't a number
cause_mixed : rs_run (record { modules = record { name = codes "a"; items = FunctionItem (record { attribute = Mangled; name = codes "main_0"; params = []; result = Some (Integer I32); locals = record { name = codes "x"; ty = Integer I32 } ∷ record { name = codes "p"; ty = Pointer (Integer I32) } ∷ []; body = stmts (Assign (Local (codes "p")) (AddressOf (Local (codes "x"))) ∷ Return (Some (Cast (Read (Deref (Cast (AddressOf (Local (codes "p"))) (Pointer (Integer U8))))) (Integer I32))) ∷ []) }) ∷ FunctionItem (record { attribute = Mangled; name = codes "run_static_initializers"; params = []; result = None; locals = []; body = stmts ([]) }) ∷ [] } ∷ []; entry = 0 }) (record { answers = [] }) 20 ≡ record { events = []; progress = stopped (wrong cause.MixedPointer) }
unfolding pure fails ends seq takes_unit local tells grants begins rounds known_table
cause_mixed = refl

cause_misaligned : rs_run (record { modules = record { name = codes "a"; items = FunctionItem (record { attribute = Mangled; name = codes "main_0"; params = []; result = Some (Integer I32); locals = record { name = codes "x"; ty = Integer I32 } ∷ []; body = stmts (Return (Some (Cast (Read (Deref (Cast (Offset (Cast (AddressOf (Local (codes "x"))) (Pointer (Integer U8))) (Literal (pos 1) Isize)) (Pointer (Integer I16))))) (Integer I32))) ∷ []) }) ∷ FunctionItem (record { attribute = Mangled; name = codes "run_static_initializers"; params = []; result = None; locals = []; body = stmts ([]) }) ∷ [] } ∷ []; entry = 0 }) (record { answers = [] }) 20 ≡ record { events = []; progress = stopped (wrong cause.Misaligned) }
unfolding pure fails ends seq takes_unit local tells grants begins rounds known_table
cause_misaligned = refl

cause_offset : rs_run (record { modules = record { name = codes "a"; items = FunctionItem (record { attribute = Mangled; name = codes "main_0"; params = []; result = Some (Integer I32); locals = record { name = codes "x"; ty = Integer I32 } ∷ []; body = stmts (Return (Some (Cast (IsNull (Offset (AddressOf (Local (codes "x"))) (Literal (pos 2) Isize))) (Integer I32))) ∷ []) }) ∷ FunctionItem (record { attribute = Mangled; name = codes "run_static_initializers"; params = []; result = None; locals = []; body = stmts ([]) }) ∷ [] } ∷ []; entry = 0 }) (record { answers = [] }) 20 ≡ record { events = []; progress = stopped (wrong cause.Offset) }
unfolding pure fails ends seq takes_unit local tells grants begins rounds known_table
cause_offset = refl

cause_offset_null : rs_run (record { modules = record { name = codes "a"; items = FunctionItem (record { attribute = Mangled; name = codes "main_0"; params = []; result = Some (Integer I32); locals = []; body = stmts (Return (Some (Cast (IsNull (Offset (NullPointer (Integer I32)) (Literal (pos 0) Isize))) (Integer I32))) ∷ []) }) ∷ FunctionItem (record { attribute = Mangled; name = codes "run_static_initializers"; params = []; result = None; locals = []; body = stmts ([]) }) ∷ [] } ∷ []; entry = 0 }) (record { answers = [] }) 20 ≡ record { events = []; progress = stopped (wrong cause.Offset) }
unfolding pure fails ends seq takes_unit local tells grants begins rounds known_table
cause_offset_null = refl

-- the address of a field of null
cause_offset_field : rs_run (record { modules = record { name = codes "a"; items = RecordItem (record { align = None; is_union = false; name = codes "s"; fields = record { name = codes "c"; ty = Integer I8 } ∷ record { name = codes "n"; ty = Integer I32 } ∷ [] }) ∷ FunctionItem (record { attribute = Mangled; name = codes "main_0"; params = []; result = Some (Integer I32); locals = []; body = stmts (Return (Some (Cast (IsNull (AddressOf (Field (Deref (NullPointer (Record (codes "a") (codes "s")))) (codes "n")))) (Integer I32))) ∷ []) }) ∷ FunctionItem (record { attribute = Mangled; name = codes "run_static_initializers"; params = []; result = None; locals = []; body = stmts ([]) }) ∷ [] } ∷ []; entry = 0 }) (record { answers = [] }) 20 ≡ record { events = []; progress = stopped (wrong cause.Offset) }
unfolding pure fails ends seq takes_unit local tells grants begins rounds known_table
cause_offset_field = refl

cause_apart : rs_run (record { modules = record { name = codes "a"; items = FunctionItem (record { attribute = Mangled; name = codes "main_0"; params = []; result = Some (Integer I32); locals = record { name = codes "x"; ty = Integer I32 } ∷ record { name = codes "y"; ty = Integer I32 } ∷ []; body = stmts (Return (Some (Cast (OffsetFrom (AddressOf (Local (codes "x"))) (AddressOf (Local (codes "y")))) (Integer I32))) ∷ []) }) ∷ FunctionItem (record { attribute = Mangled; name = codes "run_static_initializers"; params = []; result = None; locals = []; body = stmts ([]) }) ∷ [] } ∷ []; entry = 0 }) (record { answers = [] }) 20 ≡ record { events = []; progress = stopped (wrong cause.Apart) }
unfolding pure fails ends seq takes_unit local tells grants begins rounds known_table
cause_apart = refl

cause_apart_order : rs_run (record { modules = record { name = codes "a"; items = FunctionItem (record { attribute = Mangled; name = codes "main_0"; params = []; result = Some (Integer I32); locals = record { name = codes "x"; ty = Integer I32 } ∷ record { name = codes "y"; ty = Integer I32 } ∷ []; body = stmts (Return (Some (Cast (Binary (AddressOf (Local (codes "x"))) Less (AddressOf (Local (codes "y")))) (Integer I32))) ∷ []) }) ∷ FunctionItem (record { attribute = Mangled; name = codes "run_static_initializers"; params = []; result = None; locals = []; body = stmts ([]) }) ∷ [] } ∷ []; entry = 0 }) (record { answers = [] }) 20 ≡ record { events = []; progress = stopped (wrong cause.Apart) }
unfolding pure fails ends seq takes_unit local tells grants begins rounds known_table
cause_apart_order = refl

-- `unwrap` goes before the arguments
cause_none_call : rs_run (record { modules = record { name = codes "a"; items = FunctionItem (record { attribute = Mangled; name = codes "add"; params = record { name = codes "a"; ty = Integer I32 } ∷ record { name = codes "b"; ty = Integer I32 } ∷ []; result = Some (Integer I32); locals = []; body = stmts (Return (Some (Binary (Read (Local (codes "a"))) Sub (Read (Local (codes "b"))))) ∷ []) }) ∷ FunctionItem (record { attribute = Mangled; name = codes "main_0"; params = []; result = Some (Integer I32); locals = record { name = codes "f"; ty = Code (tys (Integer I32 ∷ Integer I32 ∷ [])) (some_ty (Integer I32)) } ∷ []; body = stmts (Assign (Local (codes "f")) (NoFunction) ∷ Return (Some (CallBy (Read (Local (codes "f"))) (exprs (Binary (Literal (pos 1) I32) Div (Literal (pos 0) I32) ∷ Literal (pos 1) I32 ∷ [])))) ∷ []) }) ∷ FunctionItem (record { attribute = Mangled; name = codes "run_static_initializers"; params = []; result = None; locals = []; body = stmts ([]) }) ∷ [] } ∷ []; entry = 0 }) (record { answers = [] }) 20 ≡ record { events = []; progress = stopped (wrong cause.NoneCall) }
unfolding pure fails ends seq takes_unit local tells grants begins rounds known_table
cause_none_call = refl

-- a function that is called by a pointer of other types
cause_wrong_call : rs_run (record { modules = record { name = codes "a"; items = FunctionItem (record { attribute = Mangled; name = codes "add"; params = record { name = codes "a"; ty = Integer I32 } ∷ record { name = codes "b"; ty = Integer I32 } ∷ []; result = Some (Integer I32); locals = []; body = stmts (Return (Some (Binary (Read (Local (codes "a"))) Sub (Read (Local (codes "b"))))) ∷ []) }) ∷ FunctionItem (record { attribute = Mangled; name = codes "main_0"; params = []; result = Some (Integer I32); locals = []; body = stmts (Return (Some (CallBy (Transmute (Code (tys (Integer I32 ∷ Integer I32 ∷ [])) (some_ty (Integer I32))) (Code (tys (Integer I32 ∷ [])) (some_ty (Integer I32))) (SomeFunction (codes "a") (codes "add") (tys (Integer I32 ∷ Integer I32 ∷ [])) (some_ty (Integer I32)))) (exprs (Literal (pos 9) I32 ∷ [])))) ∷ []) }) ∷ FunctionItem (record { attribute = Mangled; name = codes "run_static_initializers"; params = []; result = None; locals = []; body = stmts ([]) }) ∷ [] } ∷ []; entry = 0 }) (record { answers = [] }) 20 ≡ record { events = []; progress = stopped (wrong cause.WrongCall) }
unfolding pure fails ends seq takes_unit local tells grants begins rounds known_table
cause_wrong_call = refl

cause_bad_free : rs_run (record { modules = record { name = codes "a"; items = ExternItem (record { link_name = None; name = codes "malloc"; params = Integer U64 ∷ []; variadic = false; result = Some (Pointer Void) } ∷ record { link_name = None; name = codes "free"; params = Pointer Void ∷ []; variadic = false; result = None } ∷ record { link_name = None; name = codes "memcpy"; params = Pointer Void ∷ Pointer Void ∷ Integer U64 ∷ []; variadic = false; result = Some (Pointer Void) } ∷ record { link_name = None; name = codes "calloc"; params = Integer U64 ∷ Integer U64 ∷ []; variadic = false; result = Some (Pointer Void) } ∷ record { link_name = None; name = codes "exit"; params = Integer I32 ∷ []; variadic = false; result = None } ∷ record { link_name = None; name = codes "abort"; params = []; variadic = false; result = None } ∷ record { link_name = None; name = codes "memset"; params = Pointer Void ∷ Integer I32 ∷ Integer U64 ∷ []; variadic = false; result = Some (Pointer Void) } ∷ []) ∷ FunctionItem (record { attribute = Mangled; name = codes "main_0"; params = []; result = Some (Integer I32); locals = record { name = codes "x"; ty = Integer I32 } ∷ []; body = stmts (Eval (Calls (codes "a") (codes "free") (exprs (Cast (AddressOf (Local (codes "x"))) (Pointer Void) ∷ []))) ∷ Return (Some (Literal (pos 0) I32)) ∷ []) }) ∷ FunctionItem (record { attribute = Mangled; name = codes "run_static_initializers"; params = []; result = None; locals = []; body = stmts ([]) }) ∷ [] } ∷ []; entry = 0 }) (record { answers = [] }) 20 ≡ record { events = []; progress = stopped (wrong cause.BadFree) }
unfolding pure fails ends seq takes_unit local tells grants begins rounds known_table
cause_bad_free = refl

-- a second `free`
cause_free_twice : rs_run (record { modules = record { name = codes "a"; items = ExternItem (record { link_name = None; name = codes "malloc"; params = Integer U64 ∷ []; variadic = false; result = Some (Pointer Void) } ∷ record { link_name = None; name = codes "free"; params = Pointer Void ∷ []; variadic = false; result = None } ∷ record { link_name = None; name = codes "memcpy"; params = Pointer Void ∷ Pointer Void ∷ Integer U64 ∷ []; variadic = false; result = Some (Pointer Void) } ∷ record { link_name = None; name = codes "calloc"; params = Integer U64 ∷ Integer U64 ∷ []; variadic = false; result = Some (Pointer Void) } ∷ record { link_name = None; name = codes "exit"; params = Integer I32 ∷ []; variadic = false; result = None } ∷ record { link_name = None; name = codes "abort"; params = []; variadic = false; result = None } ∷ record { link_name = None; name = codes "memset"; params = Pointer Void ∷ Integer I32 ∷ Integer U64 ∷ []; variadic = false; result = Some (Pointer Void) } ∷ []) ∷ FunctionItem (record { attribute = Mangled; name = codes "main_0"; params = []; result = Some (Integer I32); locals = record { name = codes "p"; ty = Pointer Void } ∷ []; body = stmts (Assign (Local (codes "p")) (Calls (codes "a") (codes "malloc") (exprs (Literal (pos 4) U64 ∷ []))) ∷ Eval (Calls (codes "a") (codes "free") (exprs (Read (Local (codes "p")) ∷ []))) ∷ Eval (Calls (codes "a") (codes "free") (exprs (Read (Local (codes "p")) ∷ []))) ∷ Return (Some (Literal (pos 0) I32)) ∷ []) }) ∷ FunctionItem (record { attribute = Mangled; name = codes "run_static_initializers"; params = []; result = None; locals = []; body = stmts ([]) }) ∷ [] } ∷ []; entry = 0 }) (record { answers = pos 1 ∷ [] }) 20 ≡ record { events = []; progress = stopped (wrong cause.BadFree) }
unfolding pure fails ends seq takes_unit local tells grants begins rounds known_table
cause_free_twice = refl

-- `free` of null does nothing
free_null : rs_run (record { modules = record { name = codes "a"; items = ExternItem (record { link_name = None; name = codes "malloc"; params = Integer U64 ∷ []; variadic = false; result = Some (Pointer Void) } ∷ record { link_name = None; name = codes "free"; params = Pointer Void ∷ []; variadic = false; result = None } ∷ record { link_name = None; name = codes "memcpy"; params = Pointer Void ∷ Pointer Void ∷ Integer U64 ∷ []; variadic = false; result = Some (Pointer Void) } ∷ record { link_name = None; name = codes "calloc"; params = Integer U64 ∷ Integer U64 ∷ []; variadic = false; result = Some (Pointer Void) } ∷ record { link_name = None; name = codes "exit"; params = Integer I32 ∷ []; variadic = false; result = None } ∷ record { link_name = None; name = codes "abort"; params = []; variadic = false; result = None } ∷ record { link_name = None; name = codes "memset"; params = Pointer Void ∷ Integer I32 ∷ Integer U64 ∷ []; variadic = false; result = Some (Pointer Void) } ∷ []) ∷ FunctionItem (record { attribute = Mangled; name = codes "main_0"; params = []; result = Some (Integer I32); locals = []; body = stmts (Eval (Calls (codes "a") (codes "free") (exprs (NullPointer Void ∷ []))) ∷ Return (Some (Literal (pos 3) I32)) ∷ []) }) ∷ FunctionItem (record { attribute = Mangled; name = codes "run_static_initializers"; params = []; result = None; locals = []; body = stmts ([]) }) ∷ [] } ∷ []; entry = 0 }) (record { answers = [] }) 20 ≡ record { events = []; progress = ended (pos 3) }
unfolding pure fails ends seq takes_unit local tells grants begins rounds known_table
free_null = refl

cause_overlap : rs_run (record { modules = record { name = codes "a"; items = ExternItem (record { link_name = None; name = codes "malloc"; params = Integer U64 ∷ []; variadic = false; result = Some (Pointer Void) } ∷ record { link_name = None; name = codes "free"; params = Pointer Void ∷ []; variadic = false; result = None } ∷ record { link_name = None; name = codes "memcpy"; params = Pointer Void ∷ Pointer Void ∷ Integer U64 ∷ []; variadic = false; result = Some (Pointer Void) } ∷ record { link_name = None; name = codes "calloc"; params = Integer U64 ∷ Integer U64 ∷ []; variadic = false; result = Some (Pointer Void) } ∷ record { link_name = None; name = codes "exit"; params = Integer I32 ∷ []; variadic = false; result = None } ∷ record { link_name = None; name = codes "abort"; params = []; variadic = false; result = None } ∷ record { link_name = None; name = codes "memset"; params = Pointer Void ∷ Integer I32 ∷ Integer U64 ∷ []; variadic = false; result = Some (Pointer Void) } ∷ []) ∷ FunctionItem (record { attribute = Mangled; name = codes "main_0"; params = []; result = Some (Integer I32); locals = record { name = codes "x"; ty = Array (Integer U8) 4 } ∷ []; body = stmts (Eval (Calls (codes "a") (codes "memcpy") (exprs (Cast (AddressOf (Local (codes "x"))) (Pointer Void) ∷ Cast (Offset (Cast (AddressOf (Local (codes "x"))) (Pointer (Integer U8))) (Literal (pos 1) Isize)) (Pointer Void) ∷ Literal (pos 2) U64 ∷ []))) ∷ Return (Some (Literal (pos 0) I32)) ∷ []) }) ∷ FunctionItem (record { attribute = Mangled; name = codes "run_static_initializers"; params = []; result = None; locals = []; body = stmts ([]) }) ∷ [] } ∷ []; entry = 0 }) (record { answers = [] }) 20 ≡ record { events = []; progress = stopped (wrong cause.Overlap) }
unfolding pure fails ends seq takes_unit local tells grants begins rounds known_table
cause_overlap = refl

-- `memset` takes its number modulo 256
memset : rs_run (record { modules = record { name = codes "a"; items = ExternItem (record { link_name = None; name = codes "malloc"; params = Integer U64 ∷ []; variadic = false; result = Some (Pointer Void) } ∷ record { link_name = None; name = codes "free"; params = Pointer Void ∷ []; variadic = false; result = None } ∷ record { link_name = None; name = codes "memcpy"; params = Pointer Void ∷ Pointer Void ∷ Integer U64 ∷ []; variadic = false; result = Some (Pointer Void) } ∷ record { link_name = None; name = codes "calloc"; params = Integer U64 ∷ Integer U64 ∷ []; variadic = false; result = Some (Pointer Void) } ∷ record { link_name = None; name = codes "exit"; params = Integer I32 ∷ []; variadic = false; result = None } ∷ record { link_name = None; name = codes "abort"; params = []; variadic = false; result = None } ∷ record { link_name = None; name = codes "memset"; params = Pointer Void ∷ Integer I32 ∷ Integer U64 ∷ []; variadic = false; result = Some (Pointer Void) } ∷ []) ∷ FunctionItem (record { attribute = Mangled; name = codes "main_0"; params = []; result = Some (Integer I32); locals = record { name = codes "x"; ty = Integer I32 } ∷ []; body = stmts (Eval (Calls (codes "a") (codes "memset") (exprs (Cast (AddressOf (Local (codes "x"))) (Pointer Void) ∷ Literal (pos 257) I32 ∷ Literal (pos 4) U64 ∷ []))) ∷ Return (Some (Read (Local (codes "x")))) ∷ []) }) ∷ FunctionItem (record { attribute = Mangled; name = codes "run_static_initializers"; params = []; result = None; locals = []; body = stmts ([]) }) ∷ [] } ∷ []; entry = 0 }) (record { answers = [] }) 20 ≡ record { events = []; progress = ended (pos 16843009) }
unfolding pure fails ends seq takes_unit local tells grants begins rounds known_table
memset = refl

-- `exit` ends the program, and takes its unit
exits : rs_run (record { modules = record { name = codes "a"; items = ExternItem (record { link_name = None; name = codes "malloc"; params = Integer U64 ∷ []; variadic = false; result = Some (Pointer Void) } ∷ record { link_name = None; name = codes "free"; params = Pointer Void ∷ []; variadic = false; result = None } ∷ record { link_name = None; name = codes "memcpy"; params = Pointer Void ∷ Pointer Void ∷ Integer U64 ∷ []; variadic = false; result = Some (Pointer Void) } ∷ record { link_name = None; name = codes "calloc"; params = Integer U64 ∷ Integer U64 ∷ []; variadic = false; result = Some (Pointer Void) } ∷ record { link_name = None; name = codes "exit"; params = Integer I32 ∷ []; variadic = false; result = None } ∷ record { link_name = None; name = codes "abort"; params = []; variadic = false; result = None } ∷ record { link_name = None; name = codes "memset"; params = Pointer Void ∷ Integer I32 ∷ Integer U64 ∷ []; variadic = false; result = Some (Pointer Void) } ∷ []) ∷ FunctionItem (record { attribute = Mangled; name = codes "main_0"; params = []; result = Some (Integer I32); locals = []; body = stmts (Eval (Calls (codes "a") (codes "exit") (exprs (Literal (pos 12) I32 ∷ []))) ∷ Return (Some (Literal (pos 0) I32)) ∷ []) }) ∷ FunctionItem (record { attribute = Mangled; name = codes "run_static_initializers"; params = []; result = None; locals = []; body = stmts ([]) }) ∷ [] } ∷ []; entry = 0 }) (record { answers = [] }) 20 ≡ record { events = []; progress = ended (pos 12) }
unfolding pure fails ends seq takes_unit local tells grants begins rounds known_table
exits = refl

-- `abort` ends it with 134
aborts : rs_run (record { modules = record { name = codes "a"; items = ExternItem (record { link_name = None; name = codes "malloc"; params = Integer U64 ∷ []; variadic = false; result = Some (Pointer Void) } ∷ record { link_name = None; name = codes "free"; params = Pointer Void ∷ []; variadic = false; result = None } ∷ record { link_name = None; name = codes "memcpy"; params = Pointer Void ∷ Pointer Void ∷ Integer U64 ∷ []; variadic = false; result = Some (Pointer Void) } ∷ record { link_name = None; name = codes "calloc"; params = Integer U64 ∷ Integer U64 ∷ []; variadic = false; result = Some (Pointer Void) } ∷ record { link_name = None; name = codes "exit"; params = Integer I32 ∷ []; variadic = false; result = None } ∷ record { link_name = None; name = codes "abort"; params = []; variadic = false; result = None } ∷ record { link_name = None; name = codes "memset"; params = Pointer Void ∷ Integer I32 ∷ Integer U64 ∷ []; variadic = false; result = Some (Pointer Void) } ∷ []) ∷ FunctionItem (record { attribute = Mangled; name = codes "main_0"; params = []; result = Some (Integer I32); locals = []; body = stmts (Eval (Calls (codes "a") (codes "abort") (exprs ([]))) ∷ Return (Some (Literal (pos 0) I32)) ∷ []) }) ∷ FunctionItem (record { attribute = Mangled; name = codes "run_static_initializers"; params = []; result = None; locals = []; body = stmts ([]) }) ∷ [] } ∷ []; entry = 0 }) (record { answers = [] }) 20 ≡ record { events = []; progress = ended (pos 134) }
unfolding pure fails ends seq takes_unit local tells grants begins rounds known_table
aborts = refl

-- an event has numbers with their types and pointers as texts; the answer is converted to the result
event_args : rs_run (record { modules = record { name = codes "a"; items = StaticItem (record { attribute = Mangled; name = codes "t"; ty = Array (Integer I8) 3; values = Some (pos 104 ∷ pos 105 ∷ pos 0 ∷ []) }) ∷ ExternItem (record { link_name = None; name = codes "printf"; params = Pointer (Integer I8) ∷ []; variadic = true; result = Some (Integer I32) } ∷ record { link_name = None; name = codes "flag"; params = Boolean ∷ []; variadic = false; result = Some Boolean } ∷ []) ∷ FunctionItem (record { attribute = Mangled; name = codes "main_0"; params = []; result = Some (Integer I32); locals = []; body = stmts (Return (Some (Calls (codes "a") (codes "printf") (exprs (Cast (AddressOf (Static (codes "a") (codes "t"))) (Pointer (Integer I8)) ∷ Literal (pos 7) I64 ∷ [])))) ∷ []) }) ∷ FunctionItem (record { attribute = Mangled; name = codes "run_static_initializers"; params = []; result = None; locals = []; body = stmts ([]) }) ∷ [] } ∷ []; entry = 0 }) (record { answers = negsuc 0 ∷ [] }) 20 ≡ record { events = record { name = codes "printf"; args = arg.Text (codes "hi") ∷ arg.Whole (scalar.Whole 64 true) (pos 7) ∷ [] } ∷ []; progress = ended (negsuc 0) }
unfolding pure fails ends seq takes_unit local tells grants begins rounds known_table
event_args = refl

-- past the end of the answers it is 0
event_no_answer : rs_run (record { modules = record { name = codes "a"; items = StaticItem (record { attribute = Mangled; name = codes "t"; ty = Array (Integer I8) 3; values = Some (pos 104 ∷ pos 105 ∷ pos 0 ∷ []) }) ∷ ExternItem (record { link_name = None; name = codes "printf"; params = Pointer (Integer I8) ∷ []; variadic = true; result = Some (Integer I32) } ∷ record { link_name = None; name = codes "flag"; params = Boolean ∷ []; variadic = false; result = Some Boolean } ∷ []) ∷ FunctionItem (record { attribute = Mangled; name = codes "main_0"; params = []; result = Some (Integer I32); locals = []; body = stmts (Return (Some (Calls (codes "a") (codes "printf") (exprs (Cast (AddressOf (Static (codes "a") (codes "t"))) (Pointer (Integer I8)) ∷ [])))) ∷ []) }) ∷ FunctionItem (record { attribute = Mangled; name = codes "run_static_initializers"; params = []; result = None; locals = []; body = stmts ([]) }) ∷ [] } ∷ []; entry = 0 }) (record { answers = [] }) 20 ≡ record { events = record { name = codes "printf"; args = arg.Text (codes "hi") ∷ [] } ∷ []; progress = ended (pos 0) }
unfolding pure fails ends seq takes_unit local tells grants begins rounds known_table
event_no_answer = refl

-- the value is evaluated before the place
value_before_place : rs_run (record { modules = record { name = codes "a"; items = FunctionItem (record { attribute = Mangled; name = codes "main_0"; params = []; result = Some (Integer I32); locals = []; body = stmts (Assign (Deref (Read (Deref (NullPointer (Pointer (Integer I32)))))) (Binary (Literal (pos 1) I32) Div (Literal (pos 0) I32)) ∷ Return (Some (Literal (pos 0) I32)) ∷ []) }) ∷ FunctionItem (record { attribute = Mangled; name = codes "run_static_initializers"; params = []; result = None; locals = []; body = stmts ([]) }) ∷ [] } ∷ []; entry = 0 }) (record { answers = [] }) 20 ≡ record { events = []; progress = stopped (wrong cause.Divisor) }
unfolding pure fails ends seq takes_unit local tells grants begins rounds known_table
value_before_place = refl

event_truth : rs_run (record { modules = record { name = codes "a"; items = StaticItem (record { attribute = Mangled; name = codes "t"; ty = Array (Integer I8) 3; values = Some (pos 104 ∷ pos 105 ∷ pos 0 ∷ []) }) ∷ ExternItem (record { link_name = None; name = codes "printf"; params = Pointer (Integer I8) ∷ []; variadic = true; result = Some (Integer I32) } ∷ record { link_name = None; name = codes "flag"; params = Boolean ∷ []; variadic = false; result = Some Boolean } ∷ []) ∷ FunctionItem (record { attribute = Mangled; name = codes "main_0"; params = []; result = Some (Integer I32); locals = []; body = stmts (Return (Some (Cast (Calls (codes "a") (codes "flag") (exprs (Truth true ∷ []))) (Integer I32))) ∷ []) }) ∷ FunctionItem (record { attribute = Mangled; name = codes "run_static_initializers"; params = []; result = None; locals = []; body = stmts ([]) }) ∷ [] } ∷ []; entry = 0 }) (record { answers = pos 5 ∷ [] }) 20 ≡ record { events = record { name = codes "flag"; args = arg.Whole scalar.Truth (pos 1) ∷ [] } ∷ []; progress = ended (pos 1) }
unfolding pure fails ends seq takes_unit local tells grants begins rounds known_table
event_truth = refl

-- a text without a zero byte leaves its object
event_no_zero : rs_run (record { modules = record { name = codes "a"; items = StaticItem (record { attribute = Mangled; name = codes "t"; ty = Array (Integer I8) 2; values = Some (pos 104 ∷ pos 105 ∷ []) }) ∷ ExternItem (record { link_name = None; name = codes "printf"; params = Pointer (Integer I8) ∷ []; variadic = true; result = Some (Integer I32) } ∷ record { link_name = None; name = codes "flag"; params = Boolean ∷ []; variadic = false; result = Some Boolean } ∷ []) ∷ FunctionItem (record { attribute = Mangled; name = codes "main_0"; params = []; result = Some (Integer I32); locals = []; body = stmts (Return (Some (Calls (codes "a") (codes "printf") (exprs (Cast (AddressOf (Static (codes "a") (codes "t"))) (Pointer (Integer I8)) ∷ [])))) ∷ []) }) ∷ FunctionItem (record { attribute = Mangled; name = codes "run_static_initializers"; params = []; result = None; locals = []; body = stmts ([]) }) ∷ [] } ∷ []; entry = 0 }) (record { answers = [] }) 20 ≡ record { events = []; progress = stopped (wrong cause.Outside) }
unfolding pure fails ends seq takes_unit local tells grants begins rounds known_table
event_no_zero = refl

-- past the end of a trail a call has no answer
trail_ends : rs_run_on (trail_of None) (record { modules = record { name = codes "a"; items = StaticItem (record { attribute = Mangled; name = codes "t"; ty = Array (Integer I8) 3; values = Some (pos 104 ∷ pos 105 ∷ pos 0 ∷ []) }) ∷ ExternItem (record { link_name = None; name = codes "printf"; params = Pointer (Integer I8) ∷ []; variadic = true; result = Some (Integer I32) } ∷ record { link_name = None; name = codes "flag"; params = Boolean ∷ []; variadic = false; result = Some Boolean } ∷ []) ∷ FunctionItem (record { attribute = Mangled; name = codes "main_0"; params = []; result = Some (Integer I32); locals = []; body = stmts (Return (Some (Calls (codes "a") (codes "printf") (exprs (Cast (AddressOf (Static (codes "a") (codes "t"))) (Pointer (Integer I8)) ∷ [])))) ∷ []) }) ∷ FunctionItem (record { attribute = Mangled; name = codes "run_static_initializers"; params = []; result = None; locals = []; body = stmts ([]) }) ∷ [] } ∷ []; entry = 0 }) (record { answers = [] }) 20 ≡ record { events = []; progress = stopped (asks (record { name = codes "printf"; args = arg.Text (codes "hi") ∷ [] })) }
unfolding pure fails ends seq takes_unit local tells grants begins rounds known_table
trail_ends = refl

-- an object that goes past a store's limit
store_full : rs_run_on (trail_of (Some (record { bytes = 8; blocks = 9 }))) (record { modules = record { name = codes "a"; items = FunctionItem (record { attribute = Mangled; name = codes "main_0"; params = []; result = Some (Integer I32); locals = record { name = codes "x"; ty = Array (Integer I32) 4 } ∷ []; body = stmts (Return (Some (Literal (pos 0) I32)) ∷ []) }) ∷ FunctionItem (record { attribute = Mangled; name = codes "run_static_initializers"; params = []; result = None; locals = []; body = stmts ([]) }) ∷ [] } ∷ []; entry = 0 }) (record { answers = [] }) 20 ≡ record { events = []; progress = stopped (full 16 8) }
unfolding pure fails ends seq takes_unit local tells grants begins rounds known_table
store_full = refl

-- an answer to an allocation that isn't the store's
trail_astray : rs_run_on (trail_of None) (record { modules = record { name = codes "a"; items = ExternItem (record { link_name = None; name = codes "malloc"; params = Integer U64 ∷ []; variadic = false; result = Some (Pointer Void) } ∷ record { link_name = None; name = codes "free"; params = Pointer Void ∷ []; variadic = false; result = None } ∷ record { link_name = None; name = codes "memcpy"; params = Pointer Void ∷ Pointer Void ∷ Integer U64 ∷ []; variadic = false; result = Some (Pointer Void) } ∷ record { link_name = None; name = codes "calloc"; params = Integer U64 ∷ Integer U64 ∷ []; variadic = false; result = Some (Pointer Void) } ∷ record { link_name = None; name = codes "exit"; params = Integer I32 ∷ []; variadic = false; result = None } ∷ record { link_name = None; name = codes "abort"; params = []; variadic = false; result = None } ∷ record { link_name = None; name = codes "memset"; params = Pointer Void ∷ Integer I32 ∷ Integer U64 ∷ []; variadic = false; result = Some (Pointer Void) } ∷ []) ∷ FunctionItem (record { attribute = Mangled; name = codes "main_0"; params = []; result = Some (Integer I32); locals = []; body = stmts (Return (Some (Cast (IsNull (Calls (codes "a") (codes "malloc") (exprs (Literal (pos 4) U64 ∷ [])))) (Integer I32))) ∷ []) }) ∷ FunctionItem (record { attribute = Mangled; name = codes "run_static_initializers"; params = []; result = None; locals = []; body = stmts ([]) }) ∷ [] } ∷ []; entry = 0 }) (record { answers = pos 0 ∷ [] }) 20 ≡ record { events = []; progress = stopped astray }
unfolding pure fails ends seq takes_unit local tells grants begins rounds known_table
trail_astray = refl
