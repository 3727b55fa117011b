-- Worked runs of each form, at its bounds, which the check computes. Those that end, need no answer of their own and aren't wrong end as
-- the program of `rustc` does, but for `past_end_told`.
use Rattle.std.specs.Prelude.{◌≡◌, pos, negsuc, true, false, [], ◌∷◌, Some, None, codes}
use Rattle.std.proofs.Common.{refl}
use Rattle.cr_world.specs.Known.{known_table}
use Rattle.cr_world.specs.World.{wrong}
use Rattle.rs_text.specs.declared.attribute.Attribute.TheVariants.{Mangled}
use Rattle.rs_text.specs.declared.integer.IntegerTy.TheVariants.{I8, I16, I32, I64, U8, U16, U32, U64, Isize, Usize}
use Rattle.rs_text.specs.declared.operator.Operator.TheVariants.{Add, Sub, Mul, Div, Rem, BitAnd, BitOr, BitXor, Shl, Shr, Equal, NotEqual, Less, LessEqual, Greater, GreaterEqual}
use Rattle.rs_text.specs.declared.operator.Wrapping.TheVariants.{WrappingMul}
use Rattle.rs_text.specs.Tree.{Integer, Boolean, Pointer, Array, Code, Record, no_ty, Local, Static, Deref, Field, Literal, Truth, Read, Call as Calls, Wrapped, WrappingNeg, Offset, OffsetFrom, IsNull, IsNone, AddressOf, NullPointer, Neg, Cast, Binary, And, Or, Choose, exprs, Assign, Return, stmts, tys, RecordItem, StaticItem, FunctionItem}
use Rattle.rs_mean.specs.declared.cause.Cause.TheVariants as cause
use Rattle.rs_mean.specs.Run.{ended, stopped, rs_run}
use Rattle.rs_mean.specs.World.{pure, fails, ends, seq, takes_unit, local, tells, grants, begins, rounds}

-- each of `+ - *` gives a value of its type, signed or not
minus_overflows : rs_run (record { modules = record { name = codes "a"; items = FunctionItem (record { attribute = Mangled; name = codes "main_0"; params = []; result = Some (Integer I32); locals = []; body = stmts (Return (Some (Binary (Literal (negsuc 2147483647) I32) Sub (Literal (pos 1) I32))) ∷ []) }) ∷ FunctionItem (record { attribute = Mangled; name = codes "run_static_initializers"; params = []; result = None; locals = []; body = stmts ([]) }) ∷ [] } ∷ []; entry = 0 }) (record { answers = [] }) 30 ≡ record { events = []; progress = stopped (wrong cause.Overflow) }
unfolding pure fails ends seq takes_unit local tells grants begins rounds known_table
minus_overflows = refl

times_overflows : rs_run (record { modules = record { name = codes "a"; items = FunctionItem (record { attribute = Mangled; name = codes "main_0"; params = []; result = Some (Integer I32); locals = []; body = stmts (Return (Some (Binary (Literal (pos 65536) I32) Mul (Literal (pos 65536) I32))) ∷ []) }) ∷ FunctionItem (record { attribute = Mangled; name = codes "run_static_initializers"; params = []; result = None; locals = []; body = stmts ([]) }) ∷ [] } ∷ []; entry = 0 }) (record { answers = [] }) 30 ≡ record { events = []; progress = stopped (wrong cause.Overflow) }
unfolding pure fails ends seq takes_unit local tells grants begins rounds known_table
times_overflows = refl

plus_unsigned : rs_run (record { modules = record { name = codes "a"; items = FunctionItem (record { attribute = Mangled; name = codes "main_0"; params = []; result = Some (Integer I32); locals = []; body = stmts (Return (Some (Cast (Binary (Literal (pos 4294967295) U32) Add (Literal (pos 1) U32)) (Integer I32))) ∷ []) }) ∷ FunctionItem (record { attribute = Mangled; name = codes "run_static_initializers"; params = []; result = None; locals = []; body = stmts ([]) }) ∷ [] } ∷ []; entry = 0 }) (record { answers = [] }) 30 ≡ record { events = []; progress = stopped (wrong cause.Overflow) }
unfolding pure fails ends seq takes_unit local tells grants begins rounds known_table
plus_unsigned = refl

minus_unsigned : rs_run (record { modules = record { name = codes "a"; items = FunctionItem (record { attribute = Mangled; name = codes "main_0"; params = []; result = Some (Integer I32); locals = []; body = stmts (Return (Some (Cast (Binary (Literal (pos 0) U8) Sub (Literal (pos 1) U8)) (Integer I32))) ∷ []) }) ∷ FunctionItem (record { attribute = Mangled; name = codes "run_static_initializers"; params = []; result = None; locals = []; body = stmts ([]) }) ∷ [] } ∷ []; entry = 0 }) (record { answers = [] }) 30 ≡ record { events = []; progress = stopped (wrong cause.Overflow) }
unfolding pure fails ends seq takes_unit local tells grants begins rounds known_table
minus_unsigned = refl

neg_isize : rs_run (record { modules = record { name = codes "a"; items = FunctionItem (record { attribute = Mangled; name = codes "main_0"; params = []; result = Some (Integer I32); locals = []; body = stmts (Return (Some (Cast (Neg (Binary (Literal (negsuc 9223372036854775806) Isize) Sub (Literal (pos 1) Isize))) (Integer I32))) ∷ []) }) ∷ FunctionItem (record { attribute = Mangled; name = codes "run_static_initializers"; params = []; result = None; locals = []; body = stmts ([]) }) ∷ [] } ∷ []; entry = 0 }) (record { answers = [] }) 30 ≡ record { events = []; progress = stopped (wrong cause.Overflow) }
unfolding pure fails ends seq takes_unit local tells grants begins rounds known_table
neg_isize = refl

-- `/` and `%` by 0, and a quotient that isn't a value
quotient_of_least : rs_run (record { modules = record { name = codes "a"; items = FunctionItem (record { attribute = Mangled; name = codes "main_0"; params = []; result = Some (Integer I32); locals = []; body = stmts (Return (Some (Binary (Literal (negsuc 2147483647) I32) Div (Literal (negsuc 0) I32))) ∷ []) }) ∷ FunctionItem (record { attribute = Mangled; name = codes "run_static_initializers"; params = []; result = None; locals = []; body = stmts ([]) }) ∷ [] } ∷ []; entry = 0 }) (record { answers = [] }) 30 ≡ record { events = []; progress = stopped (wrong cause.Divisor) }
unfolding pure fails ends seq takes_unit local tells grants begins rounds known_table
quotient_of_least = refl

remainder_by_none : rs_run (record { modules = record { name = codes "a"; items = FunctionItem (record { attribute = Mangled; name = codes "main_0"; params = []; result = Some (Integer I32); locals = []; body = stmts (Return (Some (Binary (Literal (pos 1) I32) Rem (Literal (pos 0) I32))) ∷ []) }) ∷ FunctionItem (record { attribute = Mangled; name = codes "run_static_initializers"; params = []; result = None; locals = []; body = stmts ([]) }) ∷ [] } ∷ []; entry = 0 }) (record { answers = [] }) 30 ≡ record { events = []; progress = stopped (wrong cause.Divisor) }
unfolding pure fails ends seq takes_unit local tells grants begins rounds known_table
remainder_by_none = refl

-- they go towards zero, whatever the signs
quotient_towards_zero : rs_run (record { modules = record { name = codes "a"; items = FunctionItem (record { attribute = Mangled; name = codes "main_0"; params = []; result = Some (Integer I32); locals = []; body = stmts (Return (Some (Binary (Literal (pos 7) I32) Div (Literal (negsuc 1) I32))) ∷ []) }) ∷ FunctionItem (record { attribute = Mangled; name = codes "run_static_initializers"; params = []; result = None; locals = []; body = stmts ([]) }) ∷ [] } ∷ []; entry = 0 }) (record { answers = [] }) 30 ≡ record { events = []; progress = ended (negsuc 2) }
unfolding pure fails ends seq takes_unit local tells grants begins rounds known_table
quotient_towards_zero = refl

remainder_of_positive : rs_run (record { modules = record { name = codes "a"; items = FunctionItem (record { attribute = Mangled; name = codes "main_0"; params = []; result = Some (Integer I32); locals = []; body = stmts (Return (Some (Binary (Literal (pos 7) I32) Rem (Literal (negsuc 1) I32))) ∷ []) }) ∷ FunctionItem (record { attribute = Mangled; name = codes "run_static_initializers"; params = []; result = None; locals = []; body = stmts ([]) }) ∷ [] } ∷ []; entry = 0 }) (record { answers = [] }) 30 ≡ record { events = []; progress = ended (pos 1) }
unfolding pure fails ends seq takes_unit local tells grants begins rounds known_table
remainder_of_positive = refl

remainder_of_both : rs_run (record { modules = record { name = codes "a"; items = FunctionItem (record { attribute = Mangled; name = codes "main_0"; params = []; result = Some (Integer I32); locals = []; body = stmts (Return (Some (Binary (Literal (negsuc 6) I32) Rem (Literal (negsuc 1) I32))) ∷ []) }) ∷ FunctionItem (record { attribute = Mangled; name = codes "run_static_initializers"; params = []; result = None; locals = []; body = stmts ([]) }) ∷ [] } ∷ []; entry = 0 }) (record { answers = [] }) 30 ≡ record { events = []; progress = ended (negsuc 0) }
unfolding pure fails ends seq takes_unit local tells grants begins rounds known_table
remainder_of_both = refl

bits_or_negative : rs_run (record { modules = record { name = codes "a"; items = FunctionItem (record { attribute = Mangled; name = codes "main_0"; params = []; result = Some (Integer I32); locals = []; body = stmts (Return (Some (Binary (Literal (negsuc 7) I32) BitOr (Literal (pos 3) I32))) ∷ []) }) ∷ FunctionItem (record { attribute = Mangled; name = codes "run_static_initializers"; params = []; result = None; locals = []; body = stmts ([]) }) ∷ [] } ∷ []; entry = 0 }) (record { answers = [] }) 30 ≡ record { events = []; progress = ended (negsuc 4) }
unfolding pure fails ends seq takes_unit local tells grants begins rounds known_table
bits_or_negative = refl

bits_xor_negative : rs_run (record { modules = record { name = codes "a"; items = FunctionItem (record { attribute = Mangled; name = codes "main_0"; params = []; result = Some (Integer I32); locals = []; body = stmts (Return (Some (Binary (Literal (negsuc 0) I32) BitXor (Literal (pos 5) I32))) ∷ []) }) ∷ FunctionItem (record { attribute = Mangled; name = codes "run_static_initializers"; params = []; result = None; locals = []; body = stmts ([]) }) ∷ [] } ∷ []; entry = 0 }) (record { answers = [] }) 30 ≡ record { events = []; progress = ended (negsuc 5) }
unfolding pure fails ends seq takes_unit local tells grants begins rounds known_table
bits_xor_negative = refl

-- a shift has the width of what is shifted
shift_right_positive : rs_run (record { modules = record { name = codes "a"; items = FunctionItem (record { attribute = Mangled; name = codes "main_0"; params = []; result = Some (Integer I32); locals = []; body = stmts (Return (Some (Binary (Literal (pos 5) I32) Shr (Literal (pos 1) U32))) ∷ []) }) ∷ FunctionItem (record { attribute = Mangled; name = codes "run_static_initializers"; params = []; result = None; locals = []; body = stmts ([]) }) ∷ [] } ∷ []; entry = 0 }) (record { answers = [] }) 30 ≡ record { events = []; progress = ended (pos 2) }
unfolding pure fails ends seq takes_unit local tells grants begins rounds known_table
shift_right_positive = refl

shift_right_unsigned : rs_run (record { modules = record { name = codes "a"; items = FunctionItem (record { attribute = Mangled; name = codes "main_0"; params = []; result = Some (Integer I32); locals = []; body = stmts (Return (Some (Cast (Binary (Literal (pos 4294967295) U32) Shr (Literal (pos 28) U32)) (Integer I32))) ∷ []) }) ∷ FunctionItem (record { attribute = Mangled; name = codes "run_static_initializers"; params = []; result = None; locals = []; body = stmts ([]) }) ∷ [] } ∷ []; entry = 0 }) (record { answers = [] }) 30 ≡ record { events = []; progress = ended (pos 15) }
unfolding pure fails ends seq takes_unit local tells grants begins rounds known_table
shift_right_unsigned = refl

shift_left_narrow : rs_run (record { modules = record { name = codes "a"; items = FunctionItem (record { attribute = Mangled; name = codes "main_0"; params = []; result = Some (Integer I32); locals = []; body = stmts (Return (Some (Cast (Binary (Literal (pos 65) I8) Shl (Literal (pos 1) U32)) (Integer I32))) ∷ []) }) ∷ FunctionItem (record { attribute = Mangled; name = codes "run_static_initializers"; params = []; result = None; locals = []; body = stmts ([]) }) ∷ [] } ∷ []; entry = 0 }) (record { answers = [] }) 30 ≡ record { events = []; progress = ended (negsuc 125) }
unfolding pure fails ends seq takes_unit local tells grants begins rounds known_table
shift_left_narrow = refl

shift_most_i8 : rs_run (record { modules = record { name = codes "a"; items = FunctionItem (record { attribute = Mangled; name = codes "main_0"; params = []; result = Some (Integer I32); locals = []; body = stmts (Return (Some (Cast (Binary (Binary (Literal (pos 1) I8) Shl (Literal (pos 7) U32)) Equal (Literal (pos 0) I8)) (Integer I32))) ∷ []) }) ∷ FunctionItem (record { attribute = Mangled; name = codes "run_static_initializers"; params = []; result = None; locals = []; body = stmts ([]) }) ∷ [] } ∷ []; entry = 0 }) (record { answers = [] }) 30 ≡ record { events = []; progress = ended (pos 0) }
unfolding pure fails ends seq takes_unit local tells grants begins rounds known_table
shift_most_i8 = refl

shift_width_i8 : rs_run (record { modules = record { name = codes "a"; items = FunctionItem (record { attribute = Mangled; name = codes "main_0"; params = []; result = Some (Integer I32); locals = []; body = stmts (Return (Some (Cast (Binary (Literal (pos 1) I8) Shl (Literal (pos 8) U32)) (Integer I32))) ∷ []) }) ∷ FunctionItem (record { attribute = Mangled; name = codes "run_static_initializers"; params = []; result = None; locals = []; body = stmts ([]) }) ∷ [] } ∷ []; entry = 0 }) (record { answers = [] }) 30 ≡ record { events = []; progress = stopped (wrong cause.Shift) }
unfolding pure fails ends seq takes_unit local tells grants begins rounds known_table
shift_width_i8 = refl

shift_most_u8 : rs_run (record { modules = record { name = codes "a"; items = FunctionItem (record { attribute = Mangled; name = codes "main_0"; params = []; result = Some (Integer I32); locals = []; body = stmts (Return (Some (Cast (Binary (Binary (Literal (pos 1) U8) Shl (Literal (pos 7) U32)) Equal (Literal (pos 0) U8)) (Integer I32))) ∷ []) }) ∷ FunctionItem (record { attribute = Mangled; name = codes "run_static_initializers"; params = []; result = None; locals = []; body = stmts ([]) }) ∷ [] } ∷ []; entry = 0 }) (record { answers = [] }) 30 ≡ record { events = []; progress = ended (pos 0) }
unfolding pure fails ends seq takes_unit local tells grants begins rounds known_table
shift_most_u8 = refl

shift_width_u8 : rs_run (record { modules = record { name = codes "a"; items = FunctionItem (record { attribute = Mangled; name = codes "main_0"; params = []; result = Some (Integer I32); locals = []; body = stmts (Return (Some (Cast (Binary (Literal (pos 1) U8) Shl (Literal (pos 8) U32)) (Integer I32))) ∷ []) }) ∷ FunctionItem (record { attribute = Mangled; name = codes "run_static_initializers"; params = []; result = None; locals = []; body = stmts ([]) }) ∷ [] } ∷ []; entry = 0 }) (record { answers = [] }) 30 ≡ record { events = []; progress = stopped (wrong cause.Shift) }
unfolding pure fails ends seq takes_unit local tells grants begins rounds known_table
shift_width_u8 = refl

shift_most_i16 : rs_run (record { modules = record { name = codes "a"; items = FunctionItem (record { attribute = Mangled; name = codes "main_0"; params = []; result = Some (Integer I32); locals = []; body = stmts (Return (Some (Cast (Binary (Binary (Literal (pos 1) I16) Shl (Literal (pos 15) U32)) Equal (Literal (pos 0) I16)) (Integer I32))) ∷ []) }) ∷ FunctionItem (record { attribute = Mangled; name = codes "run_static_initializers"; params = []; result = None; locals = []; body = stmts ([]) }) ∷ [] } ∷ []; entry = 0 }) (record { answers = [] }) 30 ≡ record { events = []; progress = ended (pos 0) }
unfolding pure fails ends seq takes_unit local tells grants begins rounds known_table
shift_most_i16 = refl

shift_width_i16 : rs_run (record { modules = record { name = codes "a"; items = FunctionItem (record { attribute = Mangled; name = codes "main_0"; params = []; result = Some (Integer I32); locals = []; body = stmts (Return (Some (Cast (Binary (Literal (pos 1) I16) Shl (Literal (pos 16) U32)) (Integer I32))) ∷ []) }) ∷ FunctionItem (record { attribute = Mangled; name = codes "run_static_initializers"; params = []; result = None; locals = []; body = stmts ([]) }) ∷ [] } ∷ []; entry = 0 }) (record { answers = [] }) 30 ≡ record { events = []; progress = stopped (wrong cause.Shift) }
unfolding pure fails ends seq takes_unit local tells grants begins rounds known_table
shift_width_i16 = refl

shift_most_u16 : rs_run (record { modules = record { name = codes "a"; items = FunctionItem (record { attribute = Mangled; name = codes "main_0"; params = []; result = Some (Integer I32); locals = []; body = stmts (Return (Some (Cast (Binary (Binary (Literal (pos 1) U16) Shl (Literal (pos 15) U32)) Equal (Literal (pos 0) U16)) (Integer I32))) ∷ []) }) ∷ FunctionItem (record { attribute = Mangled; name = codes "run_static_initializers"; params = []; result = None; locals = []; body = stmts ([]) }) ∷ [] } ∷ []; entry = 0 }) (record { answers = [] }) 30 ≡ record { events = []; progress = ended (pos 0) }
unfolding pure fails ends seq takes_unit local tells grants begins rounds known_table
shift_most_u16 = refl

shift_width_u16 : rs_run (record { modules = record { name = codes "a"; items = FunctionItem (record { attribute = Mangled; name = codes "main_0"; params = []; result = Some (Integer I32); locals = []; body = stmts (Return (Some (Cast (Binary (Literal (pos 1) U16) Shl (Literal (pos 16) U32)) (Integer I32))) ∷ []) }) ∷ FunctionItem (record { attribute = Mangled; name = codes "run_static_initializers"; params = []; result = None; locals = []; body = stmts ([]) }) ∷ [] } ∷ []; entry = 0 }) (record { answers = [] }) 30 ≡ record { events = []; progress = stopped (wrong cause.Shift) }
unfolding pure fails ends seq takes_unit local tells grants begins rounds known_table
shift_width_u16 = refl

shift_most_u32 : rs_run (record { modules = record { name = codes "a"; items = FunctionItem (record { attribute = Mangled; name = codes "main_0"; params = []; result = Some (Integer I32); locals = []; body = stmts (Return (Some (Cast (Binary (Binary (Literal (pos 1) U32) Shl (Literal (pos 31) U32)) Equal (Literal (pos 0) U32)) (Integer I32))) ∷ []) }) ∷ FunctionItem (record { attribute = Mangled; name = codes "run_static_initializers"; params = []; result = None; locals = []; body = stmts ([]) }) ∷ [] } ∷ []; entry = 0 }) (record { answers = [] }) 30 ≡ record { events = []; progress = ended (pos 0) }
unfolding pure fails ends seq takes_unit local tells grants begins rounds known_table
shift_most_u32 = refl

shift_width_u32 : rs_run (record { modules = record { name = codes "a"; items = FunctionItem (record { attribute = Mangled; name = codes "main_0"; params = []; result = Some (Integer I32); locals = []; body = stmts (Return (Some (Cast (Binary (Literal (pos 1) U32) Shl (Literal (pos 32) U32)) (Integer I32))) ∷ []) }) ∷ FunctionItem (record { attribute = Mangled; name = codes "run_static_initializers"; params = []; result = None; locals = []; body = stmts ([]) }) ∷ [] } ∷ []; entry = 0 }) (record { answers = [] }) 30 ≡ record { events = []; progress = stopped (wrong cause.Shift) }
unfolding pure fails ends seq takes_unit local tells grants begins rounds known_table
shift_width_u32 = refl

shift_most_i64 : rs_run (record { modules = record { name = codes "a"; items = FunctionItem (record { attribute = Mangled; name = codes "main_0"; params = []; result = Some (Integer I32); locals = []; body = stmts (Return (Some (Cast (Binary (Binary (Literal (pos 1) I64) Shl (Literal (pos 63) U32)) Equal (Literal (pos 0) I64)) (Integer I32))) ∷ []) }) ∷ FunctionItem (record { attribute = Mangled; name = codes "run_static_initializers"; params = []; result = None; locals = []; body = stmts ([]) }) ∷ [] } ∷ []; entry = 0 }) (record { answers = [] }) 30 ≡ record { events = []; progress = ended (pos 0) }
unfolding pure fails ends seq takes_unit local tells grants begins rounds known_table
shift_most_i64 = refl

shift_width_i64 : rs_run (record { modules = record { name = codes "a"; items = FunctionItem (record { attribute = Mangled; name = codes "main_0"; params = []; result = Some (Integer I32); locals = []; body = stmts (Return (Some (Cast (Binary (Literal (pos 1) I64) Shl (Literal (pos 64) U32)) (Integer I32))) ∷ []) }) ∷ FunctionItem (record { attribute = Mangled; name = codes "run_static_initializers"; params = []; result = None; locals = []; body = stmts ([]) }) ∷ [] } ∷ []; entry = 0 }) (record { answers = [] }) 30 ≡ record { events = []; progress = stopped (wrong cause.Shift) }
unfolding pure fails ends seq takes_unit local tells grants begins rounds known_table
shift_width_i64 = refl

shift_most_u64 : rs_run (record { modules = record { name = codes "a"; items = FunctionItem (record { attribute = Mangled; name = codes "main_0"; params = []; result = Some (Integer I32); locals = []; body = stmts (Return (Some (Cast (Binary (Binary (Literal (pos 1) U64) Shl (Literal (pos 63) U32)) Equal (Literal (pos 0) U64)) (Integer I32))) ∷ []) }) ∷ FunctionItem (record { attribute = Mangled; name = codes "run_static_initializers"; params = []; result = None; locals = []; body = stmts ([]) }) ∷ [] } ∷ []; entry = 0 }) (record { answers = [] }) 30 ≡ record { events = []; progress = ended (pos 0) }
unfolding pure fails ends seq takes_unit local tells grants begins rounds known_table
shift_most_u64 = refl

shift_width_u64 : rs_run (record { modules = record { name = codes "a"; items = FunctionItem (record { attribute = Mangled; name = codes "main_0"; params = []; result = Some (Integer I32); locals = []; body = stmts (Return (Some (Cast (Binary (Literal (pos 1) U64) Shl (Literal (pos 64) U32)) (Integer I32))) ∷ []) }) ∷ FunctionItem (record { attribute = Mangled; name = codes "run_static_initializers"; params = []; result = None; locals = []; body = stmts ([]) }) ∷ [] } ∷ []; entry = 0 }) (record { answers = [] }) 30 ≡ record { events = []; progress = stopped (wrong cause.Shift) }
unfolding pure fails ends seq takes_unit local tells grants begins rounds known_table
shift_width_u64 = refl

shift_most_isize : rs_run (record { modules = record { name = codes "a"; items = FunctionItem (record { attribute = Mangled; name = codes "main_0"; params = []; result = Some (Integer I32); locals = []; body = stmts (Return (Some (Cast (Binary (Binary (Literal (pos 1) Isize) Shl (Literal (pos 63) U32)) Equal (Literal (pos 0) Isize)) (Integer I32))) ∷ []) }) ∷ FunctionItem (record { attribute = Mangled; name = codes "run_static_initializers"; params = []; result = None; locals = []; body = stmts ([]) }) ∷ [] } ∷ []; entry = 0 }) (record { answers = [] }) 30 ≡ record { events = []; progress = ended (pos 0) }
unfolding pure fails ends seq takes_unit local tells grants begins rounds known_table
shift_most_isize = refl

shift_width_isize : rs_run (record { modules = record { name = codes "a"; items = FunctionItem (record { attribute = Mangled; name = codes "main_0"; params = []; result = Some (Integer I32); locals = []; body = stmts (Return (Some (Cast (Binary (Literal (pos 1) Isize) Shl (Literal (pos 64) U32)) (Integer I32))) ∷ []) }) ∷ FunctionItem (record { attribute = Mangled; name = codes "run_static_initializers"; params = []; result = None; locals = []; body = stmts ([]) }) ∷ [] } ∷ []; entry = 0 }) (record { answers = [] }) 30 ≡ record { events = []; progress = stopped (wrong cause.Shift) }
unfolding pure fails ends seq takes_unit local tells grants begins rounds known_table
shift_width_isize = refl

shift_most_usize : rs_run (record { modules = record { name = codes "a"; items = FunctionItem (record { attribute = Mangled; name = codes "main_0"; params = []; result = Some (Integer I32); locals = []; body = stmts (Return (Some (Cast (Binary (Binary (Literal (pos 1) Usize) Shl (Literal (pos 63) U32)) Equal (Literal (pos 0) Usize)) (Integer I32))) ∷ []) }) ∷ FunctionItem (record { attribute = Mangled; name = codes "run_static_initializers"; params = []; result = None; locals = []; body = stmts ([]) }) ∷ [] } ∷ []; entry = 0 }) (record { answers = [] }) 30 ≡ record { events = []; progress = ended (pos 0) }
unfolding pure fails ends seq takes_unit local tells grants begins rounds known_table
shift_most_usize = refl

shift_width_usize : rs_run (record { modules = record { name = codes "a"; items = FunctionItem (record { attribute = Mangled; name = codes "main_0"; params = []; result = Some (Integer I32); locals = []; body = stmts (Return (Some (Cast (Binary (Literal (pos 1) Usize) Shl (Literal (pos 64) U32)) (Integer I32))) ∷ []) }) ∷ FunctionItem (record { attribute = Mangled; name = codes "run_static_initializers"; params = []; result = None; locals = []; body = stmts ([]) }) ∷ [] } ∷ []; entry = 0 }) (record { answers = [] }) 30 ≡ record { events = []; progress = stopped (wrong cause.Shift) }
unfolding pure fails ends seq takes_unit local tells grants begins rounds known_table
shift_width_usize = refl

shift_right_width : rs_run (record { modules = record { name = codes "a"; items = FunctionItem (record { attribute = Mangled; name = codes "main_0"; params = []; result = Some (Integer I32); locals = []; body = stmts (Return (Some (Binary (Literal (pos 1) I32) Shr (Literal (pos 32) U32))) ∷ []) }) ∷ FunctionItem (record { attribute = Mangled; name = codes "run_static_initializers"; params = []; result = None; locals = []; body = stmts ([]) }) ∷ [] } ∷ []; entry = 0 }) (record { answers = [] }) 30 ≡ record { events = []; progress = stopped (wrong cause.Shift) }
unfolding pure fails ends seq takes_unit local tells grants begins rounds known_table
shift_right_width = refl

-- a number and itself
same_equal : rs_run (record { modules = record { name = codes "a"; items = FunctionItem (record { attribute = Mangled; name = codes "main_0"; params = []; result = Some (Integer I32); locals = []; body = stmts (Return (Some (Cast (Binary (Literal (pos 4) I32) Equal (Literal (pos 4) I32)) (Integer I32))) ∷ []) }) ∷ FunctionItem (record { attribute = Mangled; name = codes "run_static_initializers"; params = []; result = None; locals = []; body = stmts ([]) }) ∷ [] } ∷ []; entry = 0 }) (record { answers = [] }) 30 ≡ record { events = []; progress = ended (pos 1) }
unfolding pure fails ends seq takes_unit local tells grants begins rounds known_table
same_equal = refl

same_notequal : rs_run (record { modules = record { name = codes "a"; items = FunctionItem (record { attribute = Mangled; name = codes "main_0"; params = []; result = Some (Integer I32); locals = []; body = stmts (Return (Some (Cast (Binary (Literal (pos 4) I32) NotEqual (Literal (pos 4) I32)) (Integer I32))) ∷ []) }) ∷ FunctionItem (record { attribute = Mangled; name = codes "run_static_initializers"; params = []; result = None; locals = []; body = stmts ([]) }) ∷ [] } ∷ []; entry = 0 }) (record { answers = [] }) 30 ≡ record { events = []; progress = ended (pos 0) }
unfolding pure fails ends seq takes_unit local tells grants begins rounds known_table
same_notequal = refl

same_less : rs_run (record { modules = record { name = codes "a"; items = FunctionItem (record { attribute = Mangled; name = codes "main_0"; params = []; result = Some (Integer I32); locals = []; body = stmts (Return (Some (Cast (Binary (Literal (pos 4) I32) Less (Literal (pos 4) I32)) (Integer I32))) ∷ []) }) ∷ FunctionItem (record { attribute = Mangled; name = codes "run_static_initializers"; params = []; result = None; locals = []; body = stmts ([]) }) ∷ [] } ∷ []; entry = 0 }) (record { answers = [] }) 30 ≡ record { events = []; progress = ended (pos 0) }
unfolding pure fails ends seq takes_unit local tells grants begins rounds known_table
same_less = refl

same_lessequal : rs_run (record { modules = record { name = codes "a"; items = FunctionItem (record { attribute = Mangled; name = codes "main_0"; params = []; result = Some (Integer I32); locals = []; body = stmts (Return (Some (Cast (Binary (Literal (pos 4) I32) LessEqual (Literal (pos 4) I32)) (Integer I32))) ∷ []) }) ∷ FunctionItem (record { attribute = Mangled; name = codes "run_static_initializers"; params = []; result = None; locals = []; body = stmts ([]) }) ∷ [] } ∷ []; entry = 0 }) (record { answers = [] }) 30 ≡ record { events = []; progress = ended (pos 1) }
unfolding pure fails ends seq takes_unit local tells grants begins rounds known_table
same_lessequal = refl

same_greater : rs_run (record { modules = record { name = codes "a"; items = FunctionItem (record { attribute = Mangled; name = codes "main_0"; params = []; result = Some (Integer I32); locals = []; body = stmts (Return (Some (Cast (Binary (Literal (pos 4) I32) Greater (Literal (pos 4) I32)) (Integer I32))) ∷ []) }) ∷ FunctionItem (record { attribute = Mangled; name = codes "run_static_initializers"; params = []; result = None; locals = []; body = stmts ([]) }) ∷ [] } ∷ []; entry = 0 }) (record { answers = [] }) 30 ≡ record { events = []; progress = ended (pos 0) }
unfolding pure fails ends seq takes_unit local tells grants begins rounds known_table
same_greater = refl

same_greaterequal : rs_run (record { modules = record { name = codes "a"; items = FunctionItem (record { attribute = Mangled; name = codes "main_0"; params = []; result = Some (Integer I32); locals = []; body = stmts (Return (Some (Cast (Binary (Literal (pos 4) I32) GreaterEqual (Literal (pos 4) I32)) (Integer I32))) ∷ []) }) ∷ FunctionItem (record { attribute = Mangled; name = codes "run_static_initializers"; params = []; result = None; locals = []; body = stmts ([]) }) ∷ [] } ∷ []; entry = 0 }) (record { answers = [] }) 30 ≡ record { events = []; progress = ended (pos 1) }
unfolding pure fails ends seq takes_unit local tells grants begins rounds known_table
same_greaterequal = refl

-- truth values
truths_bitor_10 : rs_run (record { modules = record { name = codes "a"; items = FunctionItem (record { attribute = Mangled; name = codes "main_0"; params = []; result = Some (Integer I32); locals = []; body = stmts (Return (Some (Cast (Binary (Truth true) BitOr (Truth false)) (Integer I32))) ∷ []) }) ∷ FunctionItem (record { attribute = Mangled; name = codes "run_static_initializers"; params = []; result = None; locals = []; body = stmts ([]) }) ∷ [] } ∷ []; entry = 0 }) (record { answers = [] }) 30 ≡ record { events = []; progress = ended (pos 1) }
unfolding pure fails ends seq takes_unit local tells grants begins rounds known_table
truths_bitor_10 = refl

truths_bitor_00 : rs_run (record { modules = record { name = codes "a"; items = FunctionItem (record { attribute = Mangled; name = codes "main_0"; params = []; result = Some (Integer I32); locals = []; body = stmts (Return (Some (Cast (Binary (Truth false) BitOr (Truth false)) (Integer I32))) ∷ []) }) ∷ FunctionItem (record { attribute = Mangled; name = codes "run_static_initializers"; params = []; result = None; locals = []; body = stmts ([]) }) ∷ [] } ∷ []; entry = 0 }) (record { answers = [] }) 30 ≡ record { events = []; progress = ended (pos 0) }
unfolding pure fails ends seq takes_unit local tells grants begins rounds known_table
truths_bitor_00 = refl

truths_bitand_10 : rs_run (record { modules = record { name = codes "a"; items = FunctionItem (record { attribute = Mangled; name = codes "main_0"; params = []; result = Some (Integer I32); locals = []; body = stmts (Return (Some (Cast (Binary (Truth true) BitAnd (Truth false)) (Integer I32))) ∷ []) }) ∷ FunctionItem (record { attribute = Mangled; name = codes "run_static_initializers"; params = []; result = None; locals = []; body = stmts ([]) }) ∷ [] } ∷ []; entry = 0 }) (record { answers = [] }) 30 ≡ record { events = []; progress = ended (pos 0) }
unfolding pure fails ends seq takes_unit local tells grants begins rounds known_table
truths_bitand_10 = refl

truths_bitand_11 : rs_run (record { modules = record { name = codes "a"; items = FunctionItem (record { attribute = Mangled; name = codes "main_0"; params = []; result = Some (Integer I32); locals = []; body = stmts (Return (Some (Cast (Binary (Truth true) BitAnd (Truth true)) (Integer I32))) ∷ []) }) ∷ FunctionItem (record { attribute = Mangled; name = codes "run_static_initializers"; params = []; result = None; locals = []; body = stmts ([]) }) ∷ [] } ∷ []; entry = 0 }) (record { answers = [] }) 30 ≡ record { events = []; progress = ended (pos 1) }
unfolding pure fails ends seq takes_unit local tells grants begins rounds known_table
truths_bitand_11 = refl

truths_bitxor_10 : rs_run (record { modules = record { name = codes "a"; items = FunctionItem (record { attribute = Mangled; name = codes "main_0"; params = []; result = Some (Integer I32); locals = []; body = stmts (Return (Some (Cast (Binary (Truth true) BitXor (Truth false)) (Integer I32))) ∷ []) }) ∷ FunctionItem (record { attribute = Mangled; name = codes "run_static_initializers"; params = []; result = None; locals = []; body = stmts ([]) }) ∷ [] } ∷ []; entry = 0 }) (record { answers = [] }) 30 ≡ record { events = []; progress = ended (pos 1) }
unfolding pure fails ends seq takes_unit local tells grants begins rounds known_table
truths_bitxor_10 = refl

truths_equal_10 : rs_run (record { modules = record { name = codes "a"; items = FunctionItem (record { attribute = Mangled; name = codes "main_0"; params = []; result = Some (Integer I32); locals = []; body = stmts (Return (Some (Cast (Binary (Truth true) Equal (Truth false)) (Integer I32))) ∷ []) }) ∷ FunctionItem (record { attribute = Mangled; name = codes "run_static_initializers"; params = []; result = None; locals = []; body = stmts ([]) }) ∷ [] } ∷ []; entry = 0 }) (record { answers = [] }) 30 ≡ record { events = []; progress = ended (pos 0) }
unfolding pure fails ends seq takes_unit local tells grants begins rounds known_table
truths_equal_10 = refl

truths_equal_00 : rs_run (record { modules = record { name = codes "a"; items = FunctionItem (record { attribute = Mangled; name = codes "main_0"; params = []; result = Some (Integer I32); locals = []; body = stmts (Return (Some (Cast (Binary (Truth false) Equal (Truth false)) (Integer I32))) ∷ []) }) ∷ FunctionItem (record { attribute = Mangled; name = codes "run_static_initializers"; params = []; result = None; locals = []; body = stmts ([]) }) ∷ [] } ∷ []; entry = 0 }) (record { answers = [] }) 30 ≡ record { events = []; progress = ended (pos 1) }
unfolding pure fails ends seq takes_unit local tells grants begins rounds known_table
truths_equal_00 = refl

truths_notequal_10 : rs_run (record { modules = record { name = codes "a"; items = FunctionItem (record { attribute = Mangled; name = codes "main_0"; params = []; result = Some (Integer I32); locals = []; body = stmts (Return (Some (Cast (Binary (Truth true) NotEqual (Truth false)) (Integer I32))) ∷ []) }) ∷ FunctionItem (record { attribute = Mangled; name = codes "run_static_initializers"; params = []; result = None; locals = []; body = stmts ([]) }) ∷ [] } ∷ []; entry = 0 }) (record { answers = [] }) 30 ≡ record { events = []; progress = ended (pos 1) }
unfolding pure fails ends seq takes_unit local tells grants begins rounds known_table
truths_notequal_10 = refl

wrapping_neg_unsigned : rs_run (record { modules = record { name = codes "a"; items = FunctionItem (record { attribute = Mangled; name = codes "main_0"; params = []; result = Some (Integer I32); locals = []; body = stmts (Return (Some (Cast (WrappingNeg (Literal (pos 5) U8)) (Integer I32))) ∷ []) }) ∷ FunctionItem (record { attribute = Mangled; name = codes "run_static_initializers"; params = []; result = None; locals = []; body = stmts ([]) }) ∷ [] } ∷ []; entry = 0 }) (record { answers = [] }) 30 ≡ record { events = []; progress = ended (pos 251) }
unfolding pure fails ends seq takes_unit local tells grants begins rounds known_table
wrapping_neg_unsigned = refl

wrapping_mul_signed : rs_run (record { modules = record { name = codes "a"; items = FunctionItem (record { attribute = Mangled; name = codes "main_0"; params = []; result = Some (Integer I32); locals = []; body = stmts (Return (Some (Wrapped (Literal (pos 65536) I32) WrappingMul (Literal (pos 65537) I32))) ∷ []) }) ∷ FunctionItem (record { attribute = Mangled; name = codes "run_static_initializers"; params = []; result = None; locals = []; body = stmts ([]) }) ∷ [] } ∷ []; entry = 0 }) (record { answers = [] }) 30 ≡ record { events = []; progress = ended (pos 65536) }
unfolding pure fails ends seq takes_unit local tells grants begins rounds known_table
wrapping_mul_signed = refl

-- `as` into each type
cast_200_i8 : rs_run (record { modules = record { name = codes "a"; items = FunctionItem (record { attribute = Mangled; name = codes "main_0"; params = []; result = Some (Integer I32); locals = []; body = stmts (Return (Some (Cast (Binary (Cast (Literal (pos 200) I32) (Integer I8)) Equal (Literal (negsuc 55) I8)) (Integer I32))) ∷ []) }) ∷ FunctionItem (record { attribute = Mangled; name = codes "run_static_initializers"; params = []; result = None; locals = []; body = stmts ([]) }) ∷ [] } ∷ []; entry = 0 }) (record { answers = [] }) 30 ≡ record { events = []; progress = ended (pos 1) }
unfolding pure fails ends seq takes_unit local tells grants begins rounds known_table
cast_200_i8 = refl

cast_minus_one_i8 : rs_run (record { modules = record { name = codes "a"; items = FunctionItem (record { attribute = Mangled; name = codes "main_0"; params = []; result = Some (Integer I32); locals = []; body = stmts (Return (Some (Cast (Binary (Cast (Literal (negsuc 0) I32) (Integer I8)) Equal (Literal (negsuc 0) I8)) (Integer I32))) ∷ []) }) ∷ FunctionItem (record { attribute = Mangled; name = codes "run_static_initializers"; params = []; result = None; locals = []; body = stmts ([]) }) ∷ [] } ∷ []; entry = 0 }) (record { answers = [] }) 30 ≡ record { events = []; progress = ended (pos 1) }
unfolding pure fails ends seq takes_unit local tells grants begins rounds known_table
cast_minus_one_i8 = refl

cast_200_i16 : rs_run (record { modules = record { name = codes "a"; items = FunctionItem (record { attribute = Mangled; name = codes "main_0"; params = []; result = Some (Integer I32); locals = []; body = stmts (Return (Some (Cast (Binary (Cast (Literal (pos 200) I32) (Integer I16)) Equal (Literal (pos 200) I16)) (Integer I32))) ∷ []) }) ∷ FunctionItem (record { attribute = Mangled; name = codes "run_static_initializers"; params = []; result = None; locals = []; body = stmts ([]) }) ∷ [] } ∷ []; entry = 0 }) (record { answers = [] }) 30 ≡ record { events = []; progress = ended (pos 1) }
unfolding pure fails ends seq takes_unit local tells grants begins rounds known_table
cast_200_i16 = refl

cast_minus_one_i16 : rs_run (record { modules = record { name = codes "a"; items = FunctionItem (record { attribute = Mangled; name = codes "main_0"; params = []; result = Some (Integer I32); locals = []; body = stmts (Return (Some (Cast (Binary (Cast (Literal (negsuc 0) I32) (Integer I16)) Equal (Literal (negsuc 0) I16)) (Integer I32))) ∷ []) }) ∷ FunctionItem (record { attribute = Mangled; name = codes "run_static_initializers"; params = []; result = None; locals = []; body = stmts ([]) }) ∷ [] } ∷ []; entry = 0 }) (record { answers = [] }) 30 ≡ record { events = []; progress = ended (pos 1) }
unfolding pure fails ends seq takes_unit local tells grants begins rounds known_table
cast_minus_one_i16 = refl

cast_200_i32 : rs_run (record { modules = record { name = codes "a"; items = FunctionItem (record { attribute = Mangled; name = codes "main_0"; params = []; result = Some (Integer I32); locals = []; body = stmts (Return (Some (Cast (Binary (Cast (Literal (pos 200) I32) (Integer I32)) Equal (Literal (pos 200) I32)) (Integer I32))) ∷ []) }) ∷ FunctionItem (record { attribute = Mangled; name = codes "run_static_initializers"; params = []; result = None; locals = []; body = stmts ([]) }) ∷ [] } ∷ []; entry = 0 }) (record { answers = [] }) 30 ≡ record { events = []; progress = ended (pos 1) }
unfolding pure fails ends seq takes_unit local tells grants begins rounds known_table
cast_200_i32 = refl

cast_minus_one_i32 : rs_run (record { modules = record { name = codes "a"; items = FunctionItem (record { attribute = Mangled; name = codes "main_0"; params = []; result = Some (Integer I32); locals = []; body = stmts (Return (Some (Cast (Binary (Cast (Literal (negsuc 0) I32) (Integer I32)) Equal (Literal (negsuc 0) I32)) (Integer I32))) ∷ []) }) ∷ FunctionItem (record { attribute = Mangled; name = codes "run_static_initializers"; params = []; result = None; locals = []; body = stmts ([]) }) ∷ [] } ∷ []; entry = 0 }) (record { answers = [] }) 30 ≡ record { events = []; progress = ended (pos 1) }
unfolding pure fails ends seq takes_unit local tells grants begins rounds known_table
cast_minus_one_i32 = refl

cast_200_i64 : rs_run (record { modules = record { name = codes "a"; items = FunctionItem (record { attribute = Mangled; name = codes "main_0"; params = []; result = Some (Integer I32); locals = []; body = stmts (Return (Some (Cast (Binary (Cast (Literal (pos 200) I32) (Integer I64)) Equal (Literal (pos 200) I64)) (Integer I32))) ∷ []) }) ∷ FunctionItem (record { attribute = Mangled; name = codes "run_static_initializers"; params = []; result = None; locals = []; body = stmts ([]) }) ∷ [] } ∷ []; entry = 0 }) (record { answers = [] }) 30 ≡ record { events = []; progress = ended (pos 1) }
unfolding pure fails ends seq takes_unit local tells grants begins rounds known_table
cast_200_i64 = refl

cast_minus_one_i64 : rs_run (record { modules = record { name = codes "a"; items = FunctionItem (record { attribute = Mangled; name = codes "main_0"; params = []; result = Some (Integer I32); locals = []; body = stmts (Return (Some (Cast (Binary (Cast (Literal (negsuc 0) I32) (Integer I64)) Equal (Literal (negsuc 0) I64)) (Integer I32))) ∷ []) }) ∷ FunctionItem (record { attribute = Mangled; name = codes "run_static_initializers"; params = []; result = None; locals = []; body = stmts ([]) }) ∷ [] } ∷ []; entry = 0 }) (record { answers = [] }) 30 ≡ record { events = []; progress = ended (pos 1) }
unfolding pure fails ends seq takes_unit local tells grants begins rounds known_table
cast_minus_one_i64 = refl

cast_200_u8 : rs_run (record { modules = record { name = codes "a"; items = FunctionItem (record { attribute = Mangled; name = codes "main_0"; params = []; result = Some (Integer I32); locals = []; body = stmts (Return (Some (Cast (Binary (Cast (Literal (pos 200) I32) (Integer U8)) Equal (Literal (pos 200) U8)) (Integer I32))) ∷ []) }) ∷ FunctionItem (record { attribute = Mangled; name = codes "run_static_initializers"; params = []; result = None; locals = []; body = stmts ([]) }) ∷ [] } ∷ []; entry = 0 }) (record { answers = [] }) 30 ≡ record { events = []; progress = ended (pos 1) }
unfolding pure fails ends seq takes_unit local tells grants begins rounds known_table
cast_200_u8 = refl

cast_minus_one_u8 : rs_run (record { modules = record { name = codes "a"; items = FunctionItem (record { attribute = Mangled; name = codes "main_0"; params = []; result = Some (Integer I32); locals = []; body = stmts (Return (Some (Cast (Binary (Cast (Literal (negsuc 0) I32) (Integer U8)) Equal (Literal (pos 255) U8)) (Integer I32))) ∷ []) }) ∷ FunctionItem (record { attribute = Mangled; name = codes "run_static_initializers"; params = []; result = None; locals = []; body = stmts ([]) }) ∷ [] } ∷ []; entry = 0 }) (record { answers = [] }) 30 ≡ record { events = []; progress = ended (pos 1) }
unfolding pure fails ends seq takes_unit local tells grants begins rounds known_table
cast_minus_one_u8 = refl

cast_200_u16 : rs_run (record { modules = record { name = codes "a"; items = FunctionItem (record { attribute = Mangled; name = codes "main_0"; params = []; result = Some (Integer I32); locals = []; body = stmts (Return (Some (Cast (Binary (Cast (Literal (pos 200) I32) (Integer U16)) Equal (Literal (pos 200) U16)) (Integer I32))) ∷ []) }) ∷ FunctionItem (record { attribute = Mangled; name = codes "run_static_initializers"; params = []; result = None; locals = []; body = stmts ([]) }) ∷ [] } ∷ []; entry = 0 }) (record { answers = [] }) 30 ≡ record { events = []; progress = ended (pos 1) }
unfolding pure fails ends seq takes_unit local tells grants begins rounds known_table
cast_200_u16 = refl

cast_minus_one_u16 : rs_run (record { modules = record { name = codes "a"; items = FunctionItem (record { attribute = Mangled; name = codes "main_0"; params = []; result = Some (Integer I32); locals = []; body = stmts (Return (Some (Cast (Binary (Cast (Literal (negsuc 0) I32) (Integer U16)) Equal (Literal (pos 65535) U16)) (Integer I32))) ∷ []) }) ∷ FunctionItem (record { attribute = Mangled; name = codes "run_static_initializers"; params = []; result = None; locals = []; body = stmts ([]) }) ∷ [] } ∷ []; entry = 0 }) (record { answers = [] }) 30 ≡ record { events = []; progress = ended (pos 1) }
unfolding pure fails ends seq takes_unit local tells grants begins rounds known_table
cast_minus_one_u16 = refl

cast_200_u32 : rs_run (record { modules = record { name = codes "a"; items = FunctionItem (record { attribute = Mangled; name = codes "main_0"; params = []; result = Some (Integer I32); locals = []; body = stmts (Return (Some (Cast (Binary (Cast (Literal (pos 200) I32) (Integer U32)) Equal (Literal (pos 200) U32)) (Integer I32))) ∷ []) }) ∷ FunctionItem (record { attribute = Mangled; name = codes "run_static_initializers"; params = []; result = None; locals = []; body = stmts ([]) }) ∷ [] } ∷ []; entry = 0 }) (record { answers = [] }) 30 ≡ record { events = []; progress = ended (pos 1) }
unfolding pure fails ends seq takes_unit local tells grants begins rounds known_table
cast_200_u32 = refl

cast_minus_one_u32 : rs_run (record { modules = record { name = codes "a"; items = FunctionItem (record { attribute = Mangled; name = codes "main_0"; params = []; result = Some (Integer I32); locals = []; body = stmts (Return (Some (Cast (Binary (Cast (Literal (negsuc 0) I32) (Integer U32)) Equal (Literal (pos 4294967295) U32)) (Integer I32))) ∷ []) }) ∷ FunctionItem (record { attribute = Mangled; name = codes "run_static_initializers"; params = []; result = None; locals = []; body = stmts ([]) }) ∷ [] } ∷ []; entry = 0 }) (record { answers = [] }) 30 ≡ record { events = []; progress = ended (pos 1) }
unfolding pure fails ends seq takes_unit local tells grants begins rounds known_table
cast_minus_one_u32 = refl

cast_200_u64 : rs_run (record { modules = record { name = codes "a"; items = FunctionItem (record { attribute = Mangled; name = codes "main_0"; params = []; result = Some (Integer I32); locals = []; body = stmts (Return (Some (Cast (Binary (Cast (Literal (pos 200) I32) (Integer U64)) Equal (Literal (pos 200) U64)) (Integer I32))) ∷ []) }) ∷ FunctionItem (record { attribute = Mangled; name = codes "run_static_initializers"; params = []; result = None; locals = []; body = stmts ([]) }) ∷ [] } ∷ []; entry = 0 }) (record { answers = [] }) 30 ≡ record { events = []; progress = ended (pos 1) }
unfolding pure fails ends seq takes_unit local tells grants begins rounds known_table
cast_200_u64 = refl

cast_minus_one_u64 : rs_run (record { modules = record { name = codes "a"; items = FunctionItem (record { attribute = Mangled; name = codes "main_0"; params = []; result = Some (Integer I32); locals = []; body = stmts (Return (Some (Cast (Binary (Cast (Literal (negsuc 0) I32) (Integer U64)) Equal (Literal (pos 18446744073709551615) U64)) (Integer I32))) ∷ []) }) ∷ FunctionItem (record { attribute = Mangled; name = codes "run_static_initializers"; params = []; result = None; locals = []; body = stmts ([]) }) ∷ [] } ∷ []; entry = 0 }) (record { answers = [] }) 30 ≡ record { events = []; progress = ended (pos 1) }
unfolding pure fails ends seq takes_unit local tells grants begins rounds known_table
cast_minus_one_u64 = refl

cast_200_isize : rs_run (record { modules = record { name = codes "a"; items = FunctionItem (record { attribute = Mangled; name = codes "main_0"; params = []; result = Some (Integer I32); locals = []; body = stmts (Return (Some (Cast (Binary (Cast (Literal (pos 200) I32) (Integer Isize)) Equal (Literal (pos 200) Isize)) (Integer I32))) ∷ []) }) ∷ FunctionItem (record { attribute = Mangled; name = codes "run_static_initializers"; params = []; result = None; locals = []; body = stmts ([]) }) ∷ [] } ∷ []; entry = 0 }) (record { answers = [] }) 30 ≡ record { events = []; progress = ended (pos 1) }
unfolding pure fails ends seq takes_unit local tells grants begins rounds known_table
cast_200_isize = refl

cast_minus_one_isize : rs_run (record { modules = record { name = codes "a"; items = FunctionItem (record { attribute = Mangled; name = codes "main_0"; params = []; result = Some (Integer I32); locals = []; body = stmts (Return (Some (Cast (Binary (Cast (Literal (negsuc 0) I32) (Integer Isize)) Equal (Literal (negsuc 0) Isize)) (Integer I32))) ∷ []) }) ∷ FunctionItem (record { attribute = Mangled; name = codes "run_static_initializers"; params = []; result = None; locals = []; body = stmts ([]) }) ∷ [] } ∷ []; entry = 0 }) (record { answers = [] }) 30 ≡ record { events = []; progress = ended (pos 1) }
unfolding pure fails ends seq takes_unit local tells grants begins rounds known_table
cast_minus_one_isize = refl

cast_200_usize : rs_run (record { modules = record { name = codes "a"; items = FunctionItem (record { attribute = Mangled; name = codes "main_0"; params = []; result = Some (Integer I32); locals = []; body = stmts (Return (Some (Cast (Binary (Cast (Literal (pos 200) I32) (Integer Usize)) Equal (Literal (pos 200) Usize)) (Integer I32))) ∷ []) }) ∷ FunctionItem (record { attribute = Mangled; name = codes "run_static_initializers"; params = []; result = None; locals = []; body = stmts ([]) }) ∷ [] } ∷ []; entry = 0 }) (record { answers = [] }) 30 ≡ record { events = []; progress = ended (pos 1) }
unfolding pure fails ends seq takes_unit local tells grants begins rounds known_table
cast_200_usize = refl

cast_minus_one_usize : rs_run (record { modules = record { name = codes "a"; items = FunctionItem (record { attribute = Mangled; name = codes "main_0"; params = []; result = Some (Integer I32); locals = []; body = stmts (Return (Some (Cast (Binary (Cast (Literal (negsuc 0) I32) (Integer Usize)) Equal (Literal (pos 18446744073709551615) Usize)) (Integer I32))) ∷ []) }) ∷ FunctionItem (record { attribute = Mangled; name = codes "run_static_initializers"; params = []; result = None; locals = []; body = stmts ([]) }) ∷ [] } ∷ []; entry = 0 }) (record { answers = [] }) 30 ≡ record { events = []; progress = ended (pos 1) }
unfolding pure fails ends seq takes_unit local tells grants begins rounds known_table
cast_minus_one_usize = refl

-- an unsigned number stays without a sign
cast_wider : rs_run (record { modules = record { name = codes "a"; items = FunctionItem (record { attribute = Mangled; name = codes "main_0"; params = []; result = Some (Integer I32); locals = []; body = stmts (Return (Some (Cast (Binary (Cast (Literal (pos 4294967295) U32) (Integer I64)) Equal (Literal (pos 4294967295) I64)) (Integer I32))) ∷ []) }) ∷ FunctionItem (record { attribute = Mangled; name = codes "run_static_initializers"; params = []; result = None; locals = []; body = stmts ([]) }) ∷ [] } ∷ []; entry = 0 }) (record { answers = [] }) 30 ≡ record { events = []; progress = ended (pos 1) }
unfolding pure fails ends seq takes_unit local tells grants begins rounds known_table
cast_wider = refl

cast_truth_wide : rs_run (record { modules = record { name = codes "a"; items = FunctionItem (record { attribute = Mangled; name = codes "main_0"; params = []; result = Some (Integer I32); locals = []; body = stmts (Return (Some (Cast (Binary (Cast (Truth true) (Integer U64)) Equal (Literal (pos 1) U64)) (Integer I32))) ∷ []) }) ∷ FunctionItem (record { attribute = Mangled; name = codes "run_static_initializers"; params = []; result = None; locals = []; body = stmts ([]) }) ∷ [] } ∷ []; entry = 0 }) (record { answers = [] }) 30 ≡ record { events = []; progress = ended (pos 1) }
unfolding pure fails ends seq takes_unit local tells grants begins rounds known_table
cast_truth_wide = refl

-- `&&`, `||` and `if` give the part that they choose
or_second : rs_run (record { modules = record { name = codes "a"; items = FunctionItem (record { attribute = Mangled; name = codes "main_0"; params = []; result = Some (Integer I32); locals = []; body = stmts (Return (Some (Cast (Or (Truth false) (Truth true)) (Integer I32))) ∷ []) }) ∷ FunctionItem (record { attribute = Mangled; name = codes "run_static_initializers"; params = []; result = None; locals = []; body = stmts ([]) }) ∷ [] } ∷ []; entry = 0 }) (record { answers = [] }) 30 ≡ record { events = []; progress = ended (pos 1) }
unfolding pure fails ends seq takes_unit local tells grants begins rounds known_table
or_second = refl

or_neither : rs_run (record { modules = record { name = codes "a"; items = FunctionItem (record { attribute = Mangled; name = codes "main_0"; params = []; result = Some (Integer I32); locals = []; body = stmts (Return (Some (Cast (Or (Truth false) (Truth false)) (Integer I32))) ∷ []) }) ∷ FunctionItem (record { attribute = Mangled; name = codes "run_static_initializers"; params = []; result = None; locals = []; body = stmts ([]) }) ∷ [] } ∷ []; entry = 0 }) (record { answers = [] }) 30 ≡ record { events = []; progress = ended (pos 0) }
unfolding pure fails ends seq takes_unit local tells grants begins rounds known_table
or_neither = refl

and_second : rs_run (record { modules = record { name = codes "a"; items = FunctionItem (record { attribute = Mangled; name = codes "main_0"; params = []; result = Some (Integer I32); locals = []; body = stmts (Return (Some (Cast (And (Truth true) (Truth false)) (Integer I32))) ∷ []) }) ∷ FunctionItem (record { attribute = Mangled; name = codes "run_static_initializers"; params = []; result = None; locals = []; body = stmts ([]) }) ∷ [] } ∷ []; entry = 0 }) (record { answers = [] }) 30 ≡ record { events = []; progress = ended (pos 0) }
unfolding pure fails ends seq takes_unit local tells grants begins rounds known_table
and_second = refl

choose_second : rs_run (record { modules = record { name = codes "a"; items = FunctionItem (record { attribute = Mangled; name = codes "main_0"; params = []; result = Some (Integer I32); locals = []; body = stmts (Return (Some (Choose (Truth false) (Binary (Literal (pos 1) I32) Div (Literal (pos 0) I32)) (Literal (pos 4) I32))) ∷ []) }) ∷ FunctionItem (record { attribute = Mangled; name = codes "run_static_initializers"; params = []; result = None; locals = []; body = stmts ([]) }) ∷ [] } ∷ []; entry = 0 }) (record { answers = [] }) 30 ≡ record { events = []; progress = ended (pos 4) }
unfolding pure fails ends seq takes_unit local tells grants begins rounds known_table
choose_second = refl

-- fields stand at multiples of their alignments, in their order
fields : rs_run (record { modules = record { name = codes "a"; items = RecordItem (record { align = None; is_union = false; name = codes "s"; fields = record { name = codes "c"; ty = Integer I8 } ∷ record { name = codes "b"; ty = Boolean } ∷ record { name = codes "h"; ty = Integer I16 } ∷ record { name = codes "p"; ty = Pointer (Integer I32) } ∷ record { name = codes "k"; ty = Integer U8 } ∷ record { name = codes "f"; ty = Code (tys (Integer I32 ∷ [])) (no_ty) } ∷ record { name = codes "a"; ty = Array (Integer I16) 3 } ∷ record { name = codes "n"; ty = Integer I64 } ∷ record { name = codes "z"; ty = Integer U8 } ∷ [] }) ∷ FunctionItem (record { attribute = Mangled; name = codes "main_0"; params = []; result = Some (Integer I32); locals = record { name = codes "x"; ty = Record (codes "a") (codes "s") } ∷ []; body = stmts (Return (Some (Cast (Binary (Binary (Binary (Binary (Literal (pos 1) Isize) Mul (OffsetFrom (Cast (AddressOf (Field (Local (codes "x")) (codes "b"))) (Pointer (Integer U8))) (Cast (AddressOf (Local (codes "x"))) (Pointer (Integer U8))))) Add (Binary (Literal (pos 100) Isize) Mul (OffsetFrom (Cast (AddressOf (Field (Local (codes "x")) (codes "h"))) (Pointer (Integer U8))) (Cast (AddressOf (Local (codes "x"))) (Pointer (Integer U8)))))) Add (Binary (Literal (pos 10000) Isize) Mul (OffsetFrom (Cast (AddressOf (Field (Local (codes "x")) (codes "p"))) (Pointer (Integer U8))) (Cast (AddressOf (Local (codes "x"))) (Pointer (Integer U8)))))) Add (Binary (Literal (pos 1000000) Isize) Mul (OffsetFrom (Cast (AddressOf (Field (Local (codes "x")) (codes "k"))) (Pointer (Integer U8))) (Cast (AddressOf (Local (codes "x"))) (Pointer (Integer U8)))))) (Integer I32))) ∷ []) }) ∷ FunctionItem (record { attribute = Mangled; name = codes "run_static_initializers"; params = []; result = None; locals = []; body = stmts ([]) }) ∷ [] } ∷ []; entry = 0 }) (record { answers = [] }) 30 ≡ record { events = []; progress = ended (pos 16080201) }
unfolding pure fails ends seq takes_unit local tells grants begins rounds known_table
fields = refl

fields_behind : rs_run (record { modules = record { name = codes "a"; items = RecordItem (record { align = None; is_union = false; name = codes "s"; fields = record { name = codes "c"; ty = Integer I8 } ∷ record { name = codes "b"; ty = Boolean } ∷ record { name = codes "h"; ty = Integer I16 } ∷ record { name = codes "p"; ty = Pointer (Integer I32) } ∷ record { name = codes "k"; ty = Integer U8 } ∷ record { name = codes "f"; ty = Code (tys (Integer I32 ∷ [])) (no_ty) } ∷ record { name = codes "a"; ty = Array (Integer I16) 3 } ∷ record { name = codes "n"; ty = Integer I64 } ∷ record { name = codes "z"; ty = Integer U8 } ∷ [] }) ∷ FunctionItem (record { attribute = Mangled; name = codes "main_0"; params = []; result = Some (Integer I32); locals = record { name = codes "x"; ty = Record (codes "a") (codes "s") } ∷ []; body = stmts (Return (Some (Cast (Binary (Binary (Binary (Binary (Literal (pos 1) Isize) Mul (OffsetFrom (Cast (AddressOf (Field (Local (codes "x")) (codes "f"))) (Pointer (Integer U8))) (Cast (AddressOf (Local (codes "x"))) (Pointer (Integer U8))))) Add (Binary (Literal (pos 100) Isize) Mul (OffsetFrom (Cast (AddressOf (Field (Local (codes "x")) (codes "a"))) (Pointer (Integer U8))) (Cast (AddressOf (Local (codes "x"))) (Pointer (Integer U8)))))) Add (Binary (Literal (pos 10000) Isize) Mul (OffsetFrom (Cast (AddressOf (Field (Local (codes "x")) (codes "n"))) (Pointer (Integer U8))) (Cast (AddressOf (Local (codes "x"))) (Pointer (Integer U8)))))) Add (Binary (Literal (pos 1000000) Isize) Mul (OffsetFrom (Cast (AddressOf (Field (Local (codes "x")) (codes "z"))) (Pointer (Integer U8))) (Cast (AddressOf (Local (codes "x"))) (Pointer (Integer U8)))))) (Integer I32))) ∷ []) }) ∷ FunctionItem (record { attribute = Mangled; name = codes "run_static_initializers"; params = []; result = None; locals = []; body = stmts ([]) }) ∷ [] } ∷ []; entry = 0 }) (record { answers = [] }) 30 ≡ record { events = []; progress = ended (pos 48403224) }
unfolding pure fails ends seq takes_unit local tells grants begins rounds known_table
fields_behind = refl

-- a size is a multiple of the alignment
size_rounded : rs_run (record { modules = record { name = codes "a"; items = RecordItem (record { align = None; is_union = false; name = codes "t"; fields = record { name = codes "n"; ty = Integer I32 } ∷ record { name = codes "c"; ty = Integer U8 } ∷ [] }) ∷ FunctionItem (record { attribute = Mangled; name = codes "main_0"; params = []; result = Some (Integer I32); locals = record { name = codes "q"; ty = Record (codes "a") (codes "t") } ∷ []; body = stmts (Return (Some (Cast (OffsetFrom (Cast (Offset (Cast (AddressOf (Local (codes "q"))) (Pointer (Record (codes "a") (codes "t")))) (Literal (pos 1) Isize)) (Pointer (Integer U8))) (Cast (Cast (AddressOf (Local (codes "q"))) (Pointer (Record (codes "a") (codes "t")))) (Pointer (Integer U8)))) (Integer I32))) ∷ []) }) ∷ FunctionItem (record { attribute = Mangled; name = codes "run_static_initializers"; params = []; result = None; locals = []; body = stmts ([]) }) ∷ [] } ∷ []; entry = 0 }) (record { answers = [] }) 30 ≡ record { events = []; progress = ended (pos 8) }
unfolding pure fails ends seq takes_unit local tells grants begins rounds known_table
size_rounded = refl

-- `align(N)` raises the alignment, and the size with it
size_aligned : rs_run (record { modules = record { name = codes "a"; items = RecordItem (record { align = Some 16; is_union = false; name = codes "t"; fields = record { name = codes "n"; ty = Integer I32 } ∷ record { name = codes "c"; ty = Integer U8 } ∷ [] }) ∷ FunctionItem (record { attribute = Mangled; name = codes "main_0"; params = []; result = Some (Integer I32); locals = record { name = codes "q"; ty = Record (codes "a") (codes "t") } ∷ []; body = stmts (Return (Some (Cast (OffsetFrom (Cast (Offset (Cast (AddressOf (Local (codes "q"))) (Pointer (Record (codes "a") (codes "t")))) (Literal (pos 1) Isize)) (Pointer (Integer U8))) (Cast (Cast (AddressOf (Local (codes "q"))) (Pointer (Record (codes "a") (codes "t")))) (Pointer (Integer U8)))) (Integer I32))) ∷ []) }) ∷ FunctionItem (record { attribute = Mangled; name = codes "run_static_initializers"; params = []; result = None; locals = []; body = stmts ([]) }) ∷ [] } ∷ []; entry = 0 }) (record { answers = [] }) 30 ≡ record { events = []; progress = ended (pos 16) }
unfolding pure fails ends seq takes_unit local tells grants begins rounds known_table
size_aligned = refl

-- but doesn't lower it
size_aligned_less : rs_run (record { modules = record { name = codes "a"; items = RecordItem (record { align = Some 1; is_union = false; name = codes "t"; fields = record { name = codes "n"; ty = Integer I32 } ∷ record { name = codes "c"; ty = Integer U8 } ∷ [] }) ∷ FunctionItem (record { attribute = Mangled; name = codes "main_0"; params = []; result = Some (Integer I32); locals = record { name = codes "q"; ty = Record (codes "a") (codes "t") } ∷ []; body = stmts (Return (Some (Cast (OffsetFrom (Cast (Offset (Cast (AddressOf (Local (codes "q"))) (Pointer (Record (codes "a") (codes "t")))) (Literal (pos 1) Isize)) (Pointer (Integer U8))) (Cast (Cast (AddressOf (Local (codes "q"))) (Pointer (Record (codes "a") (codes "t")))) (Pointer (Integer U8)))) (Integer I32))) ∷ []) }) ∷ FunctionItem (record { attribute = Mangled; name = codes "run_static_initializers"; params = []; result = None; locals = []; body = stmts ([]) }) ∷ [] } ∷ []; entry = 0 }) (record { answers = [] }) 30 ≡ record { events = []; progress = ended (pos 8) }
unfolding pure fails ends seq takes_unit local tells grants begins rounds known_table
size_aligned_less = refl

-- a union is as large as its largest field, rounded up
size_union : rs_run (record { modules = record { name = codes "a"; items = RecordItem (record { align = None; is_union = true; name = codes "u"; fields = record { name = codes "n"; ty = Integer I32 } ∷ record { name = codes "c"; ty = Array (Integer U8) 9 } ∷ [] }) ∷ FunctionItem (record { attribute = Mangled; name = codes "main_0"; params = []; result = Some (Integer I32); locals = record { name = codes "q"; ty = Record (codes "a") (codes "u") } ∷ []; body = stmts (Return (Some (Cast (OffsetFrom (Cast (Offset (Cast (AddressOf (Local (codes "q"))) (Pointer (Record (codes "a") (codes "u")))) (Literal (pos 1) Isize)) (Pointer (Integer U8))) (Cast (Cast (AddressOf (Local (codes "q"))) (Pointer (Record (codes "a") (codes "u")))) (Pointer (Integer U8)))) (Integer I32))) ∷ []) }) ∷ FunctionItem (record { attribute = Mangled; name = codes "run_static_initializers"; params = []; result = None; locals = []; body = stmts ([]) }) ∷ [] } ∷ []; entry = 0 }) (record { answers = [] }) 30 ≡ record { events = []; progress = ended (pos 12) }
unfolding pure fails ends seq takes_unit local tells grants begins rounds known_table
size_union = refl

union_second_at_none : rs_run (record { modules = record { name = codes "a"; items = RecordItem (record { align = None; is_union = true; name = codes "u"; fields = record { name = codes "c"; ty = Array (Integer U8) 9 } ∷ record { name = codes "n"; ty = Integer I32 } ∷ [] }) ∷ FunctionItem (record { attribute = Mangled; name = codes "main_0"; params = []; result = Some (Integer I32); locals = record { name = codes "q"; ty = Record (codes "a") (codes "u") } ∷ []; body = stmts (Return (Some (Cast (OffsetFrom (Cast (AddressOf (Field (Local (codes "q")) (codes "n"))) (Pointer (Integer U8))) (Cast (AddressOf (Local (codes "q"))) (Pointer (Integer U8)))) (Integer I32))) ∷ []) }) ∷ FunctionItem (record { attribute = Mangled; name = codes "run_static_initializers"; params = []; result = None; locals = []; body = stmts ([]) }) ∷ [] } ∷ []; entry = 0 }) (record { answers = [] }) 30 ≡ record { events = []; progress = ended (pos 0) }
unfolding pure fails ends seq takes_unit local tells grants begins rounds known_table
union_second_at_none = refl

-- a record inside another
field_of_field : rs_run (record { modules = record { name = codes "a"; items = RecordItem (record { align = None; is_union = false; name = codes "t"; fields = record { name = codes "h"; ty = Integer I16 } ∷ record { name = codes "n"; ty = Integer I32 } ∷ [] }) ∷ RecordItem (record { align = None; is_union = false; name = codes "o"; fields = record { name = codes "c"; ty = Integer U8 } ∷ record { name = codes "t"; ty = Record (codes "a") (codes "t") } ∷ record { name = codes "d"; ty = Integer U8 } ∷ [] }) ∷ FunctionItem (record { attribute = Mangled; name = codes "main_0"; params = []; result = Some (Integer I32); locals = record { name = codes "x"; ty = Record (codes "a") (codes "o") } ∷ []; body = stmts (Return (Some (Cast (Binary (Binary (Literal (pos 1) Isize) Mul (OffsetFrom (Cast (AddressOf (Field (Field (Local (codes "x")) (codes "t")) (codes "n"))) (Pointer (Integer U8))) (Cast (AddressOf (Local (codes "x"))) (Pointer (Integer U8))))) Add (Binary (Literal (pos 100) Isize) Mul (OffsetFrom (Cast (Offset (Cast (AddressOf (Local (codes "x"))) (Pointer (Record (codes "a") (codes "o")))) (Literal (pos 1) Isize)) (Pointer (Integer U8))) (Cast (Cast (AddressOf (Local (codes "x"))) (Pointer (Record (codes "a") (codes "o")))) (Pointer (Integer U8)))))) (Integer I32))) ∷ []) }) ∷ FunctionItem (record { attribute = Mangled; name = codes "run_static_initializers"; params = []; result = None; locals = []; body = stmts ([]) }) ∷ [] } ∷ []; entry = 0 }) (record { answers = [] }) 30 ≡ record { events = []; progress = ended (pos 1608) }
unfolding pure fails ends seq takes_unit local tells grants begins rounds known_table
field_of_field = refl

array_of_records : rs_run (record { modules = record { name = codes "a"; items = RecordItem (record { align = None; is_union = false; name = codes "t"; fields = record { name = codes "n"; ty = Integer I32 } ∷ record { name = codes "c"; ty = Integer U8 } ∷ [] }) ∷ FunctionItem (record { attribute = Mangled; name = codes "main_0"; params = []; result = Some (Integer I32); locals = record { name = codes "q"; ty = Array (Record (codes "a") (codes "t")) 3 } ∷ []; body = stmts (Return (Some (Cast (OffsetFrom (Cast (Offset (Cast (AddressOf (Local (codes "q"))) (Pointer (Array (Record (codes "a") (codes "t")) 3))) (Literal (pos 1) Isize)) (Pointer (Integer U8))) (Cast (Cast (AddressOf (Local (codes "q"))) (Pointer (Array (Record (codes "a") (codes "t")) 3))) (Pointer (Integer U8)))) (Integer I32))) ∷ []) }) ∷ FunctionItem (record { attribute = Mangled; name = codes "run_static_initializers"; params = []; result = None; locals = []; body = stmts ([]) }) ∷ [] } ∷ []; entry = 0 }) (record { answers = [] }) 30 ≡ record { events = []; progress = ended (pos 24) }
unfolding pure fails ends seq takes_unit local tells grants begins rounds known_table
array_of_records = refl

-- a field through a pointer
field_through_pointer : rs_run (record { modules = record { name = codes "a"; items = RecordItem (record { align = None; is_union = false; name = codes "t"; fields = record { name = codes "n"; ty = Integer I32 } ∷ record { name = codes "c"; ty = Integer U8 } ∷ [] }) ∷ FunctionItem (record { attribute = Mangled; name = codes "main_0"; params = []; result = Some (Integer I32); locals = record { name = codes "x"; ty = Record (codes "a") (codes "t") } ∷ record { name = codes "p"; ty = Pointer (Record (codes "a") (codes "t")) } ∷ []; body = stmts (Assign (Local (codes "p")) (AddressOf (Local (codes "x"))) ∷ Assign (Field (Deref (Read (Local (codes "p")))) (codes "n")) (Literal (pos 6) I32) ∷ Return (Some (Read (Field (Local (codes "x")) (codes "n")))) ∷ []) }) ∷ FunctionItem (record { attribute = Mangled; name = codes "run_static_initializers"; params = []; result = None; locals = []; body = stmts ([]) }) ∷ [] } ∷ []; entry = 0 }) (record { answers = [] }) 30 ≡ record { events = []; progress = ended (pos 6) }
unfolding pure fails ends seq takes_unit local tells grants begins rounds known_table
field_through_pointer = refl

-- the address of a field may be the end of the object
field_at_end : rs_run (record { modules = record { name = codes "a"; items = RecordItem (record { align = None; is_union = false; name = codes "t"; fields = record { name = codes "n"; ty = Integer I32 } ∷ record { name = codes "c"; ty = Integer U8 } ∷ [] }) ∷ FunctionItem (record { attribute = Mangled; name = codes "main_0"; params = []; result = Some (Integer I32); locals = record { name = codes "x"; ty = Record (codes "a") (codes "t") } ∷ []; body = stmts (Return (Some (Cast (IsNull (AddressOf (Field (Deref (Offset (AddressOf (Local (codes "x"))) (Literal (pos 1) Isize))) (codes "n")))) (Integer I32))) ∷ []) }) ∷ FunctionItem (record { attribute = Mangled; name = codes "run_static_initializers"; params = []; result = None; locals = []; body = stmts ([]) }) ∷ [] } ∷ []; entry = 0 }) (record { answers = [] }) 30 ≡ record { events = []; progress = ended (pos 0) }
unfolding pure fails ends seq takes_unit local tells grants begins rounds known_table
field_at_end = refl

-- but not behind it
field_behind_end : rs_run (record { modules = record { name = codes "a"; items = RecordItem (record { align = None; is_union = false; name = codes "t"; fields = record { name = codes "n"; ty = Integer I32 } ∷ record { name = codes "c"; ty = Integer U8 } ∷ [] }) ∷ FunctionItem (record { attribute = Mangled; name = codes "main_0"; params = []; result = Some (Integer I32); locals = record { name = codes "x"; ty = Record (codes "a") (codes "t") } ∷ []; body = stmts (Return (Some (Cast (IsNull (AddressOf (Field (Deref (Offset (AddressOf (Local (codes "x"))) (Literal (pos 1) Isize))) (codes "c")))) (Integer I32))) ∷ []) }) ∷ FunctionItem (record { attribute = Mangled; name = codes "run_static_initializers"; params = []; result = None; locals = []; body = stmts ([]) }) ∷ [] } ∷ []; entry = 0 }) (record { answers = [] }) 30 ≡ record { events = []; progress = stopped (wrong cause.Offset) }
unfolding pure fails ends seq takes_unit local tells grants begins rounds known_table
field_behind_end = refl

-- nor in a dead object
field_of_dead : rs_run (record { modules = record { name = codes "a"; items = RecordItem (record { align = None; is_union = false; name = codes "t"; fields = record { name = codes "n"; ty = Integer I32 } ∷ record { name = codes "c"; ty = Integer U8 } ∷ [] }) ∷ FunctionItem (record { attribute = Mangled; name = codes "gone"; params = []; result = Some (Pointer (Record (codes "a") (codes "t"))); locals = record { name = codes "x"; ty = Record (codes "a") (codes "t") } ∷ []; body = stmts (Return (Some (AddressOf (Local (codes "x")))) ∷ []) }) ∷ FunctionItem (record { attribute = Mangled; name = codes "main_0"; params = []; result = Some (Integer I32); locals = []; body = stmts (Return (Some (Cast (IsNull (AddressOf (Field (Deref (Calls (codes "a") (codes "gone") (exprs ([])))) (codes "n")))) (Integer I32))) ∷ []) }) ∷ FunctionItem (record { attribute = Mangled; name = codes "run_static_initializers"; params = []; result = None; locals = []; body = stmts ([]) }) ∷ [] } ∷ []; entry = 0 }) (record { answers = [] }) 30 ≡ record { events = []; progress = stopped (wrong cause.Dead) }
unfolding pure fails ends seq takes_unit local tells grants begins rounds known_table
field_of_dead = refl

-- the second static object, and one of another module
second_static : rs_run (record { modules = record { name = codes "a"; items = StaticItem (record { attribute = Mangled; name = codes "s"; ty = Integer I32; values = None }) ∷ StaticItem (record { attribute = Mangled; name = codes "t"; ty = Integer I32; values = None }) ∷ FunctionItem (record { attribute = Mangled; name = codes "main_0"; params = []; result = Some (Integer I32); locals = []; body = stmts (Assign (Static (codes "a") (codes "s")) (Literal (pos 4) I32) ∷ Assign (Static (codes "a") (codes "t")) (Literal (pos 9) I32) ∷ Return (Some (Binary (Read (Static (codes "a") (codes "t"))) Sub (Read (Static (codes "a") (codes "s"))))) ∷ []) }) ∷ FunctionItem (record { attribute = Mangled; name = codes "run_static_initializers"; params = []; result = None; locals = []; body = stmts ([]) }) ∷ [] } ∷ []; entry = 0 }) (record { answers = [] }) 30 ≡ record { events = []; progress = ended (pos 5) }
unfolding pure fails ends seq takes_unit local tells grants begins rounds known_table
second_static = refl

-- locals begin as null, `false` and `None`
locals_zero : rs_run (record { modules = record { name = codes "a"; items = FunctionItem (record { attribute = Mangled; name = codes "main_0"; params = []; result = Some (Integer I32); locals = record { name = codes "p"; ty = Pointer (Integer I32) } ∷ record { name = codes "f"; ty = Code (tys ([])) (no_ty) } ∷ record { name = codes "b"; ty = Boolean } ∷ []; body = stmts (Return (Some (Binary (Binary (Cast (IsNull (Read (Local (codes "p")))) (Integer I32)) Add (Cast (IsNone (Read (Local (codes "f")))) (Integer I32))) Add (Cast (Read (Local (codes "b"))) (Integer I32)))) ∷ []) }) ∷ FunctionItem (record { attribute = Mangled; name = codes "run_static_initializers"; params = []; result = None; locals = []; body = stmts ([]) }) ∷ [] } ∷ []; entry = 0 }) (record { answers = [] }) 30 ≡ record { events = []; progress = ended (pos 2) }
unfolding pure fails ends seq takes_unit local tells grants begins rounds known_table
locals_zero = refl

-- a store through null, past the end, out of place, into a dead object
store_null : rs_run (record { modules = record { name = codes "a"; items = FunctionItem (record { attribute = Mangled; name = codes "main_0"; params = []; result = Some (Integer I32); locals = []; body = stmts (Assign (Deref (NullPointer (Integer I32))) (Literal (pos 1) I32) ∷ Return (Some (Literal (pos 0) I32)) ∷ []) }) ∷ FunctionItem (record { attribute = Mangled; name = codes "run_static_initializers"; params = []; result = None; locals = []; body = stmts ([]) }) ∷ [] } ∷ []; entry = 0 }) (record { answers = [] }) 30 ≡ record { events = []; progress = stopped (wrong cause.Outside) }
unfolding pure fails ends seq takes_unit local tells grants begins rounds known_table
store_null = refl

store_outside : rs_run (record { modules = record { name = codes "a"; items = FunctionItem (record { attribute = Mangled; name = codes "main_0"; params = []; result = Some (Integer I32); locals = record { name = codes "x"; ty = Integer I32 } ∷ []; body = stmts (Assign (Deref (Offset (AddressOf (Local (codes "x"))) (Literal (pos 1) Isize))) (Literal (pos 1) I32) ∷ Return (Some (Literal (pos 0) I32)) ∷ []) }) ∷ FunctionItem (record { attribute = Mangled; name = codes "run_static_initializers"; params = []; result = None; locals = []; body = stmts ([]) }) ∷ [] } ∷ []; entry = 0 }) (record { answers = [] }) 30 ≡ record { events = []; progress = stopped (wrong cause.Outside) }
unfolding pure fails ends seq takes_unit local tells grants begins rounds known_table
store_outside = refl

store_misaligned : rs_run (record { modules = record { name = codes "a"; items = FunctionItem (record { attribute = Mangled; name = codes "main_0"; params = []; result = Some (Integer I32); locals = record { name = codes "x"; ty = Integer I32 } ∷ []; body = stmts (Assign (Deref (Cast (Offset (Cast (AddressOf (Local (codes "x"))) (Pointer (Integer U8))) (Literal (pos 1) Isize)) (Pointer (Integer I16)))) (Literal (pos 1) I16) ∷ Return (Some (Literal (pos 0) I32)) ∷ []) }) ∷ FunctionItem (record { attribute = Mangled; name = codes "run_static_initializers"; params = []; result = None; locals = []; body = stmts ([]) }) ∷ [] } ∷ []; entry = 0 }) (record { answers = [] }) 30 ≡ record { events = []; progress = stopped (wrong cause.Misaligned) }
unfolding pure fails ends seq takes_unit local tells grants begins rounds known_table
store_misaligned = refl

-- an object of a smaller alignment
store_less_aligned : rs_run (record { modules = record { name = codes "a"; items = FunctionItem (record { attribute = Mangled; name = codes "main_0"; params = []; result = Some (Integer I32); locals = record { name = codes "x"; ty = Array (Integer U8) 4 } ∷ []; body = stmts (Assign (Deref (Cast (AddressOf (Local (codes "x"))) (Pointer (Integer I32)))) (Literal (pos 1) I32) ∷ Return (Some (Literal (pos 0) I32)) ∷ []) }) ∷ FunctionItem (record { attribute = Mangled; name = codes "run_static_initializers"; params = []; result = None; locals = []; body = stmts ([]) }) ∷ [] } ∷ []; entry = 0 }) (record { answers = [] }) 30 ≡ record { events = []; progress = stopped (wrong cause.Misaligned) }
unfolding pure fails ends seq takes_unit local tells grants begins rounds known_table
store_less_aligned = refl

store_dead : rs_run (record { modules = record { name = codes "a"; items = FunctionItem (record { attribute = Mangled; name = codes "gone"; params = []; result = Some (Pointer (Integer I32)); locals = record { name = codes "x"; ty = Integer I32 } ∷ []; body = stmts (Return (Some (AddressOf (Local (codes "x")))) ∷ []) }) ∷ FunctionItem (record { attribute = Mangled; name = codes "main_0"; params = []; result = Some (Integer I32); locals = []; body = stmts (Assign (Deref (Calls (codes "a") (codes "gone") (exprs ([])))) (Literal (pos 1) I32) ∷ Return (Some (Literal (pos 0) I32)) ∷ []) }) ∷ FunctionItem (record { attribute = Mangled; name = codes "run_static_initializers"; params = []; result = None; locals = []; body = stmts ([]) }) ∷ [] } ∷ []; entry = 0 }) (record { answers = [] }) 30 ≡ record { events = []; progress = stopped (wrong cause.Dead) }
unfolding pure fails ends seq takes_unit local tells grants begins rounds known_table
store_dead = refl
