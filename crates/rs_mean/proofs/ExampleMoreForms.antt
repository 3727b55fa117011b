-- More worked runs of the forms of expressions and statements.
use Rattle.std.specs.Prelude.{◌≡◌, pos, negsuc, true, false, [], ◌∷◌, Some, None, codes}
use Rattle.std.proofs.Common.{refl}
use Rattle.cr_base.specs.declared.scalar.Scalar.TheVariants as scalar
use Rattle.cr_world.specs.Known.{known_table}
use Rattle.cr_world.specs.World.{wrong}
use Rattle.ext_calls.specs.declared.call.Arg.TheVariants as arg
use Rattle.rs_text.specs.declared.attribute.Attribute.TheVariants.{Mangled}
use Rattle.rs_text.specs.declared.integer.IntegerTy.TheVariants.{I8, I32, I64, U8, U32, U64, Isize, Usize}
use Rattle.rs_text.specs.declared.operator.Operator.TheVariants.{Add, Sub, Mul, Equal, NotEqual, Less, LessEqual, Greater, GreaterEqual}
use Rattle.rs_text.specs.declared.operator.Wrapping.TheVariants.{WrappingAdd, WrappingSub}
use Rattle.rs_text.specs.Tree.{Integer, Void, Pointer, Array, Code, Record, no_ty, some_ty, Local, Static, Deref, Literal, Truth, NoFunction, Read, Call as Calls, CallBy, Wrapped, Offset, OffsetFrom, IsNull, IsNone, AddressOf, NullPointer, SomeFunction, Transmute, Cast, Binary, And, Choose, exprs, Assign, Eval, CopyBytes, If, Loop, Block, Break, Continue, Match, Return, stmts, LiteralArm, arms, tys, RecordItem, StaticItem, ExternItem, FunctionItem}
use Rattle.rs_mean.specs.declared.cause.Cause.TheVariants as cause
use Rattle.rs_mean.specs.Run.{going, ended, stopped, rs_run}
use Rattle.rs_mean.specs.World.{pure, fails, ends, seq, takes_unit, local, tells, grants, begins, rounds}

-- a parameter has ended, too
param_dead : rs_run (record { modules = record { name = codes "a"; items = FunctionItem (record { attribute = Mangled; name = codes "gone"; params = record { name = codes "a"; ty = Integer I32 } ∷ []; result = Some (Pointer (Integer I32)); locals = []; body = stmts (Return (Some (AddressOf (Local (codes "a")))) ∷ []) }) ∷ FunctionItem (record { attribute = Mangled; name = codes "main_0"; params = []; result = Some (Integer I32); locals = []; body = stmts (Return (Some (Read (Deref (Calls (codes "a") (codes "gone") (exprs (Literal (pos 1) I32 ∷ [])))))) ∷ []) }) ∷ FunctionItem (record { attribute = Mangled; name = codes "run_static_initializers"; params = []; result = None; locals = []; body = stmts ([]) }) ∷ [] } ∷ []; entry = 0 }) (record { answers = [] }) 30 ≡ record { events = []; progress = stopped (wrong cause.Dead) }
unfolding pure fails ends seq takes_unit local tells grants begins rounds known_table
param_dead = refl

-- a pointer and itself
same_pointer_less : rs_run (record { modules = record { name = codes "a"; items = FunctionItem (record { attribute = Mangled; name = codes "main_0"; params = []; result = Some (Integer I32); locals = record { name = codes "x"; ty = Array (Integer I32) 3 } ∷ []; body = stmts (Return (Some (Cast (Binary (Offset (Cast (AddressOf (Local (codes "x"))) (Pointer (Integer I32))) (Literal (pos 1) Isize)) Less (Offset (Cast (AddressOf (Local (codes "x"))) (Pointer (Integer I32))) (Literal (pos 1) Isize))) (Integer I32))) ∷ []) }) ∷ FunctionItem (record { attribute = Mangled; name = codes "run_static_initializers"; params = []; result = None; locals = []; body = stmts ([]) }) ∷ [] } ∷ []; entry = 0 }) (record { answers = [] }) 30 ≡ record { events = []; progress = ended (pos 0) }
unfolding pure fails ends seq takes_unit local tells grants begins rounds known_table
same_pointer_less = refl

same_pointer_lessequal : rs_run (record { modules = record { name = codes "a"; items = FunctionItem (record { attribute = Mangled; name = codes "main_0"; params = []; result = Some (Integer I32); locals = record { name = codes "x"; ty = Array (Integer I32) 3 } ∷ []; body = stmts (Return (Some (Cast (Binary (Offset (Cast (AddressOf (Local (codes "x"))) (Pointer (Integer I32))) (Literal (pos 1) Isize)) LessEqual (Offset (Cast (AddressOf (Local (codes "x"))) (Pointer (Integer I32))) (Literal (pos 1) Isize))) (Integer I32))) ∷ []) }) ∷ FunctionItem (record { attribute = Mangled; name = codes "run_static_initializers"; params = []; result = None; locals = []; body = stmts ([]) }) ∷ [] } ∷ []; entry = 0 }) (record { answers = [] }) 30 ≡ record { events = []; progress = ended (pos 1) }
unfolding pure fails ends seq takes_unit local tells grants begins rounds known_table
same_pointer_lessequal = refl

same_pointer_greater : rs_run (record { modules = record { name = codes "a"; items = FunctionItem (record { attribute = Mangled; name = codes "main_0"; params = []; result = Some (Integer I32); locals = record { name = codes "x"; ty = Array (Integer I32) 3 } ∷ []; body = stmts (Return (Some (Cast (Binary (Offset (Cast (AddressOf (Local (codes "x"))) (Pointer (Integer I32))) (Literal (pos 1) Isize)) Greater (Offset (Cast (AddressOf (Local (codes "x"))) (Pointer (Integer I32))) (Literal (pos 1) Isize))) (Integer I32))) ∷ []) }) ∷ FunctionItem (record { attribute = Mangled; name = codes "run_static_initializers"; params = []; result = None; locals = []; body = stmts ([]) }) ∷ [] } ∷ []; entry = 0 }) (record { answers = [] }) 30 ≡ record { events = []; progress = ended (pos 0) }
unfolding pure fails ends seq takes_unit local tells grants begins rounds known_table
same_pointer_greater = refl

same_pointer_greaterequal : rs_run (record { modules = record { name = codes "a"; items = FunctionItem (record { attribute = Mangled; name = codes "main_0"; params = []; result = Some (Integer I32); locals = record { name = codes "x"; ty = Array (Integer I32) 3 } ∷ []; body = stmts (Return (Some (Cast (Binary (Offset (Cast (AddressOf (Local (codes "x"))) (Pointer (Integer I32))) (Literal (pos 1) Isize)) GreaterEqual (Offset (Cast (AddressOf (Local (codes "x"))) (Pointer (Integer I32))) (Literal (pos 1) Isize))) (Integer I32))) ∷ []) }) ∷ FunctionItem (record { attribute = Mangled; name = codes "run_static_initializers"; params = []; result = None; locals = []; body = stmts ([]) }) ∷ [] } ∷ []; entry = 0 }) (record { answers = [] }) 30 ≡ record { events = []; progress = ended (pos 1) }
unfolding pure fails ends seq takes_unit local tells grants begins rounds known_table
same_pointer_greaterequal = refl

same_pointer_equal : rs_run (record { modules = record { name = codes "a"; items = FunctionItem (record { attribute = Mangled; name = codes "main_0"; params = []; result = Some (Integer I32); locals = record { name = codes "x"; ty = Array (Integer I32) 3 } ∷ []; body = stmts (Return (Some (Cast (Binary (Offset (Cast (AddressOf (Local (codes "x"))) (Pointer (Integer I32))) (Literal (pos 1) Isize)) Equal (Offset (Cast (AddressOf (Local (codes "x"))) (Pointer (Integer I32))) (Literal (pos 1) Isize))) (Integer I32))) ∷ []) }) ∷ FunctionItem (record { attribute = Mangled; name = codes "run_static_initializers"; params = []; result = None; locals = []; body = stmts ([]) }) ∷ [] } ∷ []; entry = 0 }) (record { answers = [] }) 30 ≡ record { events = []; progress = ended (pos 1) }
unfolding pure fails ends seq takes_unit local tells grants begins rounds known_table
same_pointer_equal = refl

same_pointer_notequal : rs_run (record { modules = record { name = codes "a"; items = FunctionItem (record { attribute = Mangled; name = codes "main_0"; params = []; result = Some (Integer I32); locals = record { name = codes "x"; ty = Array (Integer I32) 3 } ∷ []; body = stmts (Return (Some (Cast (Binary (Offset (Cast (AddressOf (Local (codes "x"))) (Pointer (Integer I32))) (Literal (pos 1) Isize)) NotEqual (Offset (Cast (AddressOf (Local (codes "x"))) (Pointer (Integer I32))) (Literal (pos 1) Isize))) (Integer I32))) ∷ []) }) ∷ FunctionItem (record { attribute = Mangled; name = codes "run_static_initializers"; params = []; result = None; locals = []; body = stmts ([]) }) ∷ [] } ∷ []; entry = 0 }) (record { answers = [] }) 30 ≡ record { events = []; progress = ended (pos 0) }
unfolding pure fails ends seq takes_unit local tells grants begins rounds known_table
same_pointer_notequal = refl

-- one behind it
less_pointer_less : rs_run (record { modules = record { name = codes "a"; items = FunctionItem (record { attribute = Mangled; name = codes "main_0"; params = []; result = Some (Integer I32); locals = record { name = codes "x"; ty = Array (Integer I32) 3 } ∷ []; body = stmts (Return (Some (Cast (Binary (Offset (Cast (AddressOf (Local (codes "x"))) (Pointer (Integer I32))) (Literal (pos 1) Isize)) Less (Offset (Cast (AddressOf (Local (codes "x"))) (Pointer (Integer I32))) (Literal (pos 2) Isize))) (Integer I32))) ∷ []) }) ∷ FunctionItem (record { attribute = Mangled; name = codes "run_static_initializers"; params = []; result = None; locals = []; body = stmts ([]) }) ∷ [] } ∷ []; entry = 0 }) (record { answers = [] }) 30 ≡ record { events = []; progress = ended (pos 1) }
unfolding pure fails ends seq takes_unit local tells grants begins rounds known_table
less_pointer_less = refl

less_pointer_lessequal : rs_run (record { modules = record { name = codes "a"; items = FunctionItem (record { attribute = Mangled; name = codes "main_0"; params = []; result = Some (Integer I32); locals = record { name = codes "x"; ty = Array (Integer I32) 3 } ∷ []; body = stmts (Return (Some (Cast (Binary (Offset (Cast (AddressOf (Local (codes "x"))) (Pointer (Integer I32))) (Literal (pos 1) Isize)) LessEqual (Offset (Cast (AddressOf (Local (codes "x"))) (Pointer (Integer I32))) (Literal (pos 2) Isize))) (Integer I32))) ∷ []) }) ∷ FunctionItem (record { attribute = Mangled; name = codes "run_static_initializers"; params = []; result = None; locals = []; body = stmts ([]) }) ∷ [] } ∷ []; entry = 0 }) (record { answers = [] }) 30 ≡ record { events = []; progress = ended (pos 1) }
unfolding pure fails ends seq takes_unit local tells grants begins rounds known_table
less_pointer_lessequal = refl

less_pointer_greater : rs_run (record { modules = record { name = codes "a"; items = FunctionItem (record { attribute = Mangled; name = codes "main_0"; params = []; result = Some (Integer I32); locals = record { name = codes "x"; ty = Array (Integer I32) 3 } ∷ []; body = stmts (Return (Some (Cast (Binary (Offset (Cast (AddressOf (Local (codes "x"))) (Pointer (Integer I32))) (Literal (pos 1) Isize)) Greater (Offset (Cast (AddressOf (Local (codes "x"))) (Pointer (Integer I32))) (Literal (pos 2) Isize))) (Integer I32))) ∷ []) }) ∷ FunctionItem (record { attribute = Mangled; name = codes "run_static_initializers"; params = []; result = None; locals = []; body = stmts ([]) }) ∷ [] } ∷ []; entry = 0 }) (record { answers = [] }) 30 ≡ record { events = []; progress = ended (pos 0) }
unfolding pure fails ends seq takes_unit local tells grants begins rounds known_table
less_pointer_greater = refl

less_pointer_greaterequal : rs_run (record { modules = record { name = codes "a"; items = FunctionItem (record { attribute = Mangled; name = codes "main_0"; params = []; result = Some (Integer I32); locals = record { name = codes "x"; ty = Array (Integer I32) 3 } ∷ []; body = stmts (Return (Some (Cast (Binary (Offset (Cast (AddressOf (Local (codes "x"))) (Pointer (Integer I32))) (Literal (pos 1) Isize)) GreaterEqual (Offset (Cast (AddressOf (Local (codes "x"))) (Pointer (Integer I32))) (Literal (pos 2) Isize))) (Integer I32))) ∷ []) }) ∷ FunctionItem (record { attribute = Mangled; name = codes "run_static_initializers"; params = []; result = None; locals = []; body = stmts ([]) }) ∷ [] } ∷ []; entry = 0 }) (record { answers = [] }) 30 ≡ record { events = []; progress = ended (pos 0) }
unfolding pure fails ends seq takes_unit local tells grants begins rounds known_table
less_pointer_greaterequal = refl

less_pointer_equal : rs_run (record { modules = record { name = codes "a"; items = FunctionItem (record { attribute = Mangled; name = codes "main_0"; params = []; result = Some (Integer I32); locals = record { name = codes "x"; ty = Array (Integer I32) 3 } ∷ []; body = stmts (Return (Some (Cast (Binary (Offset (Cast (AddressOf (Local (codes "x"))) (Pointer (Integer I32))) (Literal (pos 1) Isize)) Equal (Offset (Cast (AddressOf (Local (codes "x"))) (Pointer (Integer I32))) (Literal (pos 2) Isize))) (Integer I32))) ∷ []) }) ∷ FunctionItem (record { attribute = Mangled; name = codes "run_static_initializers"; params = []; result = None; locals = []; body = stmts ([]) }) ∷ [] } ∷ []; entry = 0 }) (record { answers = [] }) 30 ≡ record { events = []; progress = ended (pos 0) }
unfolding pure fails ends seq takes_unit local tells grants begins rounds known_table
less_pointer_equal = refl

less_pointer_notequal : rs_run (record { modules = record { name = codes "a"; items = FunctionItem (record { attribute = Mangled; name = codes "main_0"; params = []; result = Some (Integer I32); locals = record { name = codes "x"; ty = Array (Integer I32) 3 } ∷ []; body = stmts (Return (Some (Cast (Binary (Offset (Cast (AddressOf (Local (codes "x"))) (Pointer (Integer I32))) (Literal (pos 1) Isize)) NotEqual (Offset (Cast (AddressOf (Local (codes "x"))) (Pointer (Integer I32))) (Literal (pos 2) Isize))) (Integer I32))) ∷ []) }) ∷ FunctionItem (record { attribute = Mangled; name = codes "run_static_initializers"; params = []; result = None; locals = []; body = stmts ([]) }) ∷ [] } ∷ []; entry = 0 }) (record { answers = [] }) 30 ≡ record { events = []; progress = ended (pos 1) }
unfolding pure fails ends seq takes_unit local tells grants begins rounds known_table
less_pointer_notequal = refl

-- null pointers are equal
null_equal : rs_run (record { modules = record { name = codes "a"; items = FunctionItem (record { attribute = Mangled; name = codes "main_0"; params = []; result = Some (Integer I32); locals = []; body = stmts (Return (Some (Cast (Binary (NullPointer (Integer I32)) Equal (NullPointer (Integer I32))) (Integer I32))) ∷ []) }) ∷ FunctionItem (record { attribute = Mangled; name = codes "run_static_initializers"; params = []; result = None; locals = []; body = stmts ([]) }) ∷ [] } ∷ []; entry = 0 }) (record { answers = [] }) 30 ≡ record { events = []; progress = ended (pos 1) }
unfolding pure fails ends seq takes_unit local tells grants begins rounds known_table
null_equal = refl

-- `==` is told of every two pointers, by their objects and offsets: also of one past an end, which a program of `rustc` may find
-- equal to the next object, and of a dead one
past_end_told : rs_run (record { modules = record { name = codes "a"; items = FunctionItem (record { attribute = Mangled; name = codes "main_0"; params = []; result = Some (Integer I32); locals = record { name = codes "x"; ty = Integer I32 } ∷ record { name = codes "y"; ty = Integer I32 } ∷ []; body = stmts (Return (Some (Cast (Binary (Offset (AddressOf (Local (codes "x"))) (Literal (pos 1) Isize)) Equal (AddressOf (Local (codes "y")))) (Integer I32))) ∷ []) }) ∷ FunctionItem (record { attribute = Mangled; name = codes "run_static_initializers"; params = []; result = None; locals = []; body = stmts ([]) }) ∷ [] } ∷ []; entry = 0 }) (record { answers = [] }) 30 ≡ record { events = []; progress = ended (pos 0) }
unfolding pure fails ends seq takes_unit local tells grants begins rounds known_table
past_end_told = refl

dead_told : rs_run (record { modules = record { name = codes "a"; items = FunctionItem (record { attribute = Mangled; name = codes "gone"; params = []; result = Some (Pointer (Integer I32)); locals = record { name = codes "x"; ty = Integer I32 } ∷ []; body = stmts (Return (Some (AddressOf (Local (codes "x")))) ∷ []) }) ∷ FunctionItem (record { attribute = Mangled; name = codes "main_0"; params = []; result = Some (Integer I32); locals = []; body = stmts (Return (Some (Cast (Binary (Calls (codes "a") (codes "gone") (exprs ([]))) Equal (NullPointer (Integer I32))) (Integer I32))) ∷ []) }) ∷ FunctionItem (record { attribute = Mangled; name = codes "run_static_initializers"; params = []; result = None; locals = []; body = stmts ([]) }) ∷ [] } ∷ []; entry = 0 }) (record { answers = [] }) 30 ≡ record { events = []; progress = ended (pos 0) }
unfolding pure fails ends seq takes_unit local tells grants begins rounds known_table
dead_told = refl

-- `offset` goes back, too
offset_back : rs_run (record { modules = record { name = codes "a"; items = FunctionItem (record { attribute = Mangled; name = codes "main_0"; params = []; result = Some (Integer I32); locals = record { name = codes "x"; ty = Array (Integer I32) 3 } ∷ []; body = stmts (Assign (Deref (Offset (Cast (AddressOf (Local (codes "x"))) (Pointer (Integer I32))) (Literal (pos 1) Isize))) (Literal (pos 8) I32) ∷ Return (Some (Read (Deref (Offset (Offset (Cast (AddressOf (Local (codes "x"))) (Pointer (Integer I32))) (Literal (pos 3) Isize)) (Literal (negsuc 1) Isize))))) ∷ []) }) ∷ FunctionItem (record { attribute = Mangled; name = codes "run_static_initializers"; params = []; result = None; locals = []; body = stmts ([]) }) ∷ [] } ∷ []; entry = 0 }) (record { answers = [] }) 30 ≡ record { events = []; progress = ended (pos 8) }
unfolding pure fails ends seq takes_unit local tells grants begins rounds known_table
offset_back = refl

offset_before : rs_run (record { modules = record { name = codes "a"; items = FunctionItem (record { attribute = Mangled; name = codes "main_0"; params = []; result = Some (Integer I32); locals = record { name = codes "x"; ty = Array (Integer I32) 3 } ∷ []; body = stmts (Return (Some (Cast (IsNull (Offset (Cast (AddressOf (Local (codes "x"))) (Pointer (Integer I32))) (Literal (negsuc 0) Isize))) (Integer I32))) ∷ []) }) ∷ FunctionItem (record { attribute = Mangled; name = codes "run_static_initializers"; params = []; result = None; locals = []; body = stmts ([]) }) ∷ [] } ∷ []; entry = 0 }) (record { answers = [] }) 30 ≡ record { events = []; progress = stopped (wrong cause.Offset) }
unfolding pure fails ends seq takes_unit local tells grants begins rounds known_table
offset_before = refl

-- `offset_from` has a sign
offset_from_back : rs_run (record { modules = record { name = codes "a"; items = FunctionItem (record { attribute = Mangled; name = codes "main_0"; params = []; result = Some (Integer I32); locals = record { name = codes "x"; ty = Array (Integer I32) 3 } ∷ []; body = stmts (Return (Some (Cast (OffsetFrom (Offset (Cast (AddressOf (Local (codes "x"))) (Pointer (Integer I32))) (Literal (pos 1) Isize)) (Offset (Cast (AddressOf (Local (codes "x"))) (Pointer (Integer I32))) (Literal (pos 3) Isize))) (Integer I32))) ∷ []) }) ∷ FunctionItem (record { attribute = Mangled; name = codes "run_static_initializers"; params = []; result = None; locals = []; body = stmts ([]) }) ∷ [] } ∷ []; entry = 0 }) (record { answers = [] }) 30 ≡ record { events = []; progress = ended (negsuc 1) }
unfolding pure fails ends seq takes_unit local tells grants begins rounds known_table
offset_from_back = refl

-- and wants whole elements
offset_from_part : rs_run (record { modules = record { name = codes "a"; items = FunctionItem (record { attribute = Mangled; name = codes "main_0"; params = []; result = Some (Integer I32); locals = record { name = codes "x"; ty = Array (Integer I32) 3 } ∷ []; body = stmts (Return (Some (Cast (OffsetFrom (Cast (Offset (Cast (Cast (AddressOf (Local (codes "x"))) (Pointer (Integer I32))) (Pointer (Integer U8))) (Literal (pos 2) Isize)) (Pointer (Integer I32))) (Cast (AddressOf (Local (codes "x"))) (Pointer (Integer I32)))) (Integer I32))) ∷ []) }) ∷ FunctionItem (record { attribute = Mangled; name = codes "run_static_initializers"; params = []; result = None; locals = []; body = stmts ([]) }) ∷ [] } ∷ []; entry = 0 }) (record { answers = [] }) 30 ≡ record { events = []; progress = stopped (wrong cause.Apart) }
unfolding pure fails ends seq takes_unit local tells grants begins rounds known_table
offset_from_part = refl

offset_from_null : rs_run (record { modules = record { name = codes "a"; items = FunctionItem (record { attribute = Mangled; name = codes "main_0"; params = []; result = Some (Integer I32); locals = record { name = codes "x"; ty = Array (Integer I32) 3 } ∷ []; body = stmts (Return (Some (Cast (OffsetFrom (Cast (AddressOf (Local (codes "x"))) (Pointer (Integer I32))) (NullPointer (Integer I32))) (Integer I32))) ∷ []) }) ∷ FunctionItem (record { attribute = Mangled; name = codes "run_static_initializers"; params = []; result = None; locals = []; body = stmts ([]) }) ∷ [] } ∷ []; entry = 0 }) (record { answers = [] }) 30 ≡ record { events = []; progress = stopped (wrong cause.Apart) }
unfolding pure fails ends seq takes_unit local tells grants begins rounds known_table
offset_from_null = refl

offset_from_dead : rs_run (record { modules = record { name = codes "a"; items = FunctionItem (record { attribute = Mangled; name = codes "gone"; params = []; result = Some (Pointer (Integer I32)); locals = record { name = codes "x"; ty = Integer I32 } ∷ []; body = stmts (Return (Some (AddressOf (Local (codes "x")))) ∷ []) }) ∷ FunctionItem (record { attribute = Mangled; name = codes "main_0"; params = []; result = Some (Integer I32); locals = []; body = stmts (Return (Some (Cast (OffsetFrom (Calls (codes "a") (codes "gone") (exprs ([]))) (NullPointer (Integer I32))) (Integer I32))) ∷ []) }) ∷ FunctionItem (record { attribute = Mangled; name = codes "run_static_initializers"; params = []; result = None; locals = []; body = stmts ([]) }) ∷ [] } ∷ []; entry = 0 }) (record { answers = [] }) 30 ≡ record { events = []; progress = stopped (wrong cause.Dead) }
unfolding pure fails ends seq takes_unit local tells grants begins rounds known_table
offset_from_dead = refl

order_dead : rs_run (record { modules = record { name = codes "a"; items = FunctionItem (record { attribute = Mangled; name = codes "gone"; params = []; result = Some (Pointer (Integer I32)); locals = record { name = codes "x"; ty = Integer I32 } ∷ []; body = stmts (Return (Some (AddressOf (Local (codes "x")))) ∷ []) }) ∷ FunctionItem (record { attribute = Mangled; name = codes "main_0"; params = []; result = Some (Integer I32); locals = []; body = stmts (Return (Some (Cast (Binary (Calls (codes "a") (codes "gone") (exprs ([]))) Less (NullPointer (Integer I32))) (Integer I32))) ∷ []) }) ∷ FunctionItem (record { attribute = Mangled; name = codes "run_static_initializers"; params = []; result = None; locals = []; body = stmts ([]) }) ∷ [] } ∷ []; entry = 0 }) (record { answers = [] }) 30 ≡ record { events = []; progress = stopped (wrong cause.Dead) }
unfolding pure fails ends seq takes_unit local tells grants begins rounds known_table
order_dead = refl

-- a copy that overlaps
copy_overlaps : rs_run (record { modules = record { name = codes "a"; items = FunctionItem (record { attribute = Mangled; name = codes "main_0"; params = []; result = Some (Integer I32); locals = record { name = codes "x"; ty = Array (Integer I32) 3 } ∷ []; body = stmts (Assign (Deref (Offset (Cast (AddressOf (Local (codes "x"))) (Pointer (Integer I32))) (Literal (pos 0) Isize))) (Literal (pos 1) I32) ∷ Assign (Deref (Offset (Cast (AddressOf (Local (codes "x"))) (Pointer (Integer I32))) (Literal (pos 1) Isize))) (Literal (pos 2) I32) ∷ Assign (Deref (Offset (Cast (AddressOf (Local (codes "x"))) (Pointer (Integer I32))) (Literal (pos 2) Isize))) (Literal (pos 3) I32) ∷ CopyBytes (Cast (Offset (Cast (AddressOf (Local (codes "x"))) (Pointer (Integer I32))) (Literal (pos 0) Isize)) (Pointer (Integer U8))) (Cast (Offset (Cast (AddressOf (Local (codes "x"))) (Pointer (Integer I32))) (Literal (pos 1) Isize)) (Pointer (Integer U8))) (Literal (pos 8) Usize) ∷ Return (Some (Binary (Binary (Read (Deref (Offset (Cast (AddressOf (Local (codes "x"))) (Pointer (Integer I32))) (Literal (pos 0) Isize)))) Mul (Literal (pos 100) I32)) Add (Binary (Binary (Read (Deref (Offset (Cast (AddressOf (Local (codes "x"))) (Pointer (Integer I32))) (Literal (pos 1) Isize)))) Mul (Literal (pos 10) I32)) Add (Read (Deref (Offset (Cast (AddressOf (Local (codes "x"))) (Pointer (Integer I32))) (Literal (pos 2) Isize))))))) ∷ []) }) ∷ FunctionItem (record { attribute = Mangled; name = codes "run_static_initializers"; params = []; result = None; locals = []; body = stmts ([]) }) ∷ [] } ∷ []; entry = 0 }) (record { answers = [] }) 30 ≡ record { events = []; progress = ended (pos 112) }
unfolding pure fails ends seq takes_unit local tells grants begins rounds known_table
copy_overlaps = refl

-- a pointer's bytes are copied
copy_pointer : rs_run (record { modules = record { name = codes "a"; items = FunctionItem (record { attribute = Mangled; name = codes "main_0"; params = []; result = Some (Integer I32); locals = record { name = codes "x"; ty = Integer I32 } ∷ record { name = codes "p"; ty = Pointer (Integer I32) } ∷ record { name = codes "q"; ty = Pointer (Integer I32) } ∷ []; body = stmts (Assign (Local (codes "x")) (Literal (pos 7) I32) ∷ Assign (Local (codes "p")) (AddressOf (Local (codes "x"))) ∷ CopyBytes (Cast (AddressOf (Local (codes "p"))) (Pointer (Integer U8))) (Cast (AddressOf (Local (codes "q"))) (Pointer (Integer U8))) (Literal (pos 8) Usize) ∷ Return (Some (Read (Deref (Read (Local (codes "q")))))) ∷ []) }) ∷ FunctionItem (record { attribute = Mangled; name = codes "run_static_initializers"; params = []; result = None; locals = []; body = stmts ([]) }) ∷ [] } ∷ []; entry = 0 }) (record { answers = [] }) 30 ≡ record { events = []; progress = ended (pos 7) }
unfolding pure fails ends seq takes_unit local tells grants begins rounds known_table
copy_pointer = refl

-- a copy from or to null, or past an end
copy_from_null : rs_run (record { modules = record { name = codes "a"; items = FunctionItem (record { attribute = Mangled; name = codes "main_0"; params = []; result = Some (Integer I32); locals = record { name = codes "x"; ty = Integer I32 } ∷ []; body = stmts (CopyBytes (NullPointer (Integer U8)) (Cast (AddressOf (Local (codes "x"))) (Pointer (Integer U8))) (Literal (pos 1) Usize) ∷ Return (Some (Literal (pos 0) I32)) ∷ []) }) ∷ FunctionItem (record { attribute = Mangled; name = codes "run_static_initializers"; params = []; result = None; locals = []; body = stmts ([]) }) ∷ [] } ∷ []; entry = 0 }) (record { answers = [] }) 30 ≡ record { events = []; progress = stopped (wrong cause.Outside) }
unfolding pure fails ends seq takes_unit local tells grants begins rounds known_table
copy_from_null = refl

copy_to_null : rs_run (record { modules = record { name = codes "a"; items = FunctionItem (record { attribute = Mangled; name = codes "main_0"; params = []; result = Some (Integer I32); locals = record { name = codes "x"; ty = Integer I32 } ∷ []; body = stmts (CopyBytes (Cast (AddressOf (Local (codes "x"))) (Pointer (Integer U8))) (NullPointer (Integer U8)) (Literal (pos 1) Usize) ∷ Return (Some (Literal (pos 0) I32)) ∷ []) }) ∷ FunctionItem (record { attribute = Mangled; name = codes "run_static_initializers"; params = []; result = None; locals = []; body = stmts ([]) }) ∷ [] } ∷ []; entry = 0 }) (record { answers = [] }) 30 ≡ record { events = []; progress = stopped (wrong cause.Outside) }
unfolding pure fails ends seq takes_unit local tells grants begins rounds known_table
copy_to_null = refl

copy_outside : rs_run (record { modules = record { name = codes "a"; items = FunctionItem (record { attribute = Mangled; name = codes "main_0"; params = []; result = Some (Integer I32); locals = record { name = codes "x"; ty = Integer I32 } ∷ record { name = codes "y"; ty = Integer I64 } ∷ []; body = stmts (CopyBytes (Cast (AddressOf (Local (codes "x"))) (Pointer (Integer U8))) (Cast (AddressOf (Local (codes "y"))) (Pointer (Integer U8))) (Literal (pos 5) Usize) ∷ Return (Some (Literal (pos 0) I32)) ∷ []) }) ∷ FunctionItem (record { attribute = Mangled; name = codes "run_static_initializers"; params = []; result = None; locals = []; body = stmts ([]) }) ∷ [] } ∷ []; entry = 0 }) (record { answers = [] }) 30 ≡ record { events = []; progress = stopped (wrong cause.Outside) }
unfolding pure fails ends seq takes_unit local tells grants begins rounds known_table
copy_outside = refl

copy_dead : rs_run (record { modules = record { name = codes "a"; items = FunctionItem (record { attribute = Mangled; name = codes "gone"; params = []; result = Some (Pointer (Integer I32)); locals = record { name = codes "x"; ty = Integer I32 } ∷ []; body = stmts (Return (Some (AddressOf (Local (codes "x")))) ∷ []) }) ∷ FunctionItem (record { attribute = Mangled; name = codes "main_0"; params = []; result = Some (Integer I32); locals = record { name = codes "x"; ty = Integer I32 } ∷ []; body = stmts (CopyBytes (Cast (Calls (codes "a") (codes "gone") (exprs ([]))) (Pointer (Integer U8))) (Cast (AddressOf (Local (codes "x"))) (Pointer (Integer U8))) (Literal (pos 1) Usize) ∷ Return (Some (Literal (pos 0) I32)) ∷ []) }) ∷ FunctionItem (record { attribute = Mangled; name = codes "run_static_initializers"; params = []; result = None; locals = []; body = stmts ([]) }) ∷ [] } ∷ []; entry = 0 }) (record { answers = [] }) 30 ≡ record { events = []; progress = stopped (wrong cause.Dead) }
unfolding pure fails ends seq takes_unit local tells grants begins rounds known_table
copy_dead = refl

-- a function that calls itself has parameters and locals of its own each time
recursion : rs_run (record { modules = record { name = codes "a"; items = FunctionItem (record { attribute = Mangled; name = codes "f"; params = record { name = codes "n"; ty = Integer I32 } ∷ []; result = Some (Integer I32); locals = record { name = codes "m"; ty = Integer I32 } ∷ []; body = stmts (If (Binary (Read (Local (codes "n"))) Equal (Literal (pos 0) I32)) (stmts (Return (Some (Literal (pos 1) I32)) ∷ [])) (stmts ([])) ∷ Assign (Local (codes "m")) (Calls (codes "a") (codes "f") (exprs (Binary (Read (Local (codes "n"))) Sub (Literal (pos 1) I32) ∷ []))) ∷ Return (Some (Binary (Read (Local (codes "n"))) Mul (Read (Local (codes "m"))))) ∷ []) }) ∷ FunctionItem (record { attribute = Mangled; name = codes "main_0"; params = []; result = Some (Integer I32); locals = []; body = stmts (Return (Some (Calls (codes "a") (codes "f") (exprs (Literal (pos 4) I32 ∷ [])))) ∷ []) }) ∷ FunctionItem (record { attribute = Mangled; name = codes "run_static_initializers"; params = []; result = None; locals = []; body = stmts ([]) }) ∷ [] } ∷ []; entry = 0 }) (record { answers = [] }) 30 ≡ record { events = []; progress = ended (pos 24) }
unfolding pure fails ends seq takes_unit local tells grants begins rounds known_table
recursion = refl

-- locals begin anew at each call
anew : rs_run (record { modules = record { name = codes "a"; items = FunctionItem (record { attribute = Mangled; name = codes "f"; params = []; result = Some (Integer I32); locals = record { name = codes "x"; ty = Integer I32 } ∷ record { name = codes "r"; ty = Integer I32 } ∷ []; body = stmts (Assign (Local (codes "r")) (Read (Local (codes "x"))) ∷ Assign (Local (codes "x")) (Literal (pos 5) I32) ∷ Return (Some (Read (Local (codes "r")))) ∷ []) }) ∷ FunctionItem (record { attribute = Mangled; name = codes "main_0"; params = []; result = Some (Integer I32); locals = []; body = stmts (Return (Some (Binary (Calls (codes "a") (codes "f") (exprs ([]))) Add (Calls (codes "a") (codes "f") (exprs ([]))))) ∷ []) }) ∷ FunctionItem (record { attribute = Mangled; name = codes "run_static_initializers"; params = []; result = None; locals = []; body = stmts ([]) }) ∷ [] } ∷ []; entry = 0 }) (record { answers = [] }) 30 ≡ record { events = []; progress = ended (pos 0) }
unfolding pure fails ends seq takes_unit local tells grants begins rounds known_table
anew = refl

-- `return;` leaves the rest
return_nothing : rs_run (record { modules = record { name = codes "a"; items = FunctionItem (record { attribute = Mangled; name = codes "f"; params = record { name = codes "p"; ty = Pointer (Integer I32) } ∷ []; result = None; locals = []; body = stmts (Assign (Deref (Read (Local (codes "p")))) (Literal (pos 1) I32) ∷ Return None ∷ Assign (Deref (Read (Local (codes "p")))) (Literal (pos 2) I32) ∷ []) }) ∷ FunctionItem (record { attribute = Mangled; name = codes "main_0"; params = []; result = Some (Integer I32); locals = record { name = codes "x"; ty = Integer I32 } ∷ []; body = stmts (Eval (Calls (codes "a") (codes "f") (exprs (AddressOf (Local (codes "x")) ∷ []))) ∷ Return (Some (Read (Local (codes "x")))) ∷ []) }) ∷ FunctionItem (record { attribute = Mangled; name = codes "run_static_initializers"; params = []; result = None; locals = []; body = stmts ([]) }) ∷ [] } ∷ []; entry = 0 }) (record { answers = [] }) 30 ≡ record { events = []; progress = ended (pos 1) }
unfolding pure fails ends seq takes_unit local tells grants begins rounds known_table
return_nothing = refl

-- a function pointer is kept, and is to the function that it names
second_function : rs_run (record { modules = record { name = codes "a"; items = FunctionItem (record { attribute = Mangled; name = codes "sub"; params = record { name = codes "a"; ty = Integer I32 } ∷ record { name = codes "b"; ty = Integer I32 } ∷ []; result = Some (Integer I32); locals = []; body = stmts (Return (Some (Binary (Read (Local (codes "a"))) Sub (Read (Local (codes "b"))))) ∷ []) }) ∷ FunctionItem (record { attribute = Mangled; name = codes "add"; params = record { name = codes "a"; ty = Integer I32 } ∷ record { name = codes "b"; ty = Integer I32 } ∷ []; result = Some (Integer I32); locals = []; body = stmts (Return (Some (Binary (Read (Local (codes "a"))) Add (Read (Local (codes "b"))))) ∷ []) }) ∷ FunctionItem (record { attribute = Mangled; name = codes "main_0"; params = []; result = Some (Integer I32); locals = record { name = codes "f"; ty = Code (tys (Integer I32 ∷ Integer I32 ∷ [])) (some_ty (Integer I32)) } ∷ []; body = stmts (Assign (Local (codes "f")) (SomeFunction (codes "a") (codes "add") (tys (Integer I32 ∷ Integer I32 ∷ [])) (some_ty (Integer I32))) ∷ Return (Some (CallBy (Read (Local (codes "f"))) (exprs (Literal (pos 9) I32 ∷ Literal (pos 3) I32 ∷ [])))) ∷ []) }) ∷ FunctionItem (record { attribute = Mangled; name = codes "run_static_initializers"; params = []; result = None; locals = []; body = stmts ([]) }) ∷ [] } ∷ []; entry = 0 }) (record { answers = [] }) 30 ≡ record { events = []; progress = ended (pos 12) }
unfolding pure fails ends seq takes_unit local tells grants begins rounds known_table
second_function = refl

functions_told : rs_run (record { modules = record { name = codes "a"; items = FunctionItem (record { attribute = Mangled; name = codes "sub"; params = record { name = codes "a"; ty = Integer I32 } ∷ record { name = codes "b"; ty = Integer I32 } ∷ []; result = Some (Integer I32); locals = []; body = stmts (Return (Some (Binary (Read (Local (codes "a"))) Sub (Read (Local (codes "b"))))) ∷ []) }) ∷ FunctionItem (record { attribute = Mangled; name = codes "main_0"; params = []; result = Some (Integer I32); locals = []; body = stmts (Return (Some (Cast (Binary (SomeFunction (codes "a") (codes "sub") (tys (Integer I32 ∷ Integer I32 ∷ [])) (some_ty (Integer I32))) Equal (NoFunction)) (Integer I32))) ∷ []) }) ∷ FunctionItem (record { attribute = Mangled; name = codes "run_static_initializers"; params = []; result = None; locals = []; body = stmts ([]) }) ∷ [] } ∷ []; entry = 0 }) (record { answers = [] }) 30 ≡ record { events = []; progress = ended (pos 0) }
unfolding pure fails ends seq takes_unit local tells grants begins rounds known_table
functions_told = refl

some_is_not_none : rs_run (record { modules = record { name = codes "a"; items = FunctionItem (record { attribute = Mangled; name = codes "sub"; params = record { name = codes "a"; ty = Integer I32 } ∷ record { name = codes "b"; ty = Integer I32 } ∷ []; result = Some (Integer I32); locals = []; body = stmts (Return (Some (Binary (Read (Local (codes "a"))) Sub (Read (Local (codes "b"))))) ∷ []) }) ∷ FunctionItem (record { attribute = Mangled; name = codes "main_0"; params = []; result = Some (Integer I32); locals = []; body = stmts (Return (Some (Cast (IsNone (SomeFunction (codes "a") (codes "sub") (tys (Integer I32 ∷ Integer I32 ∷ [])) (some_ty (Integer I32)))) (Integer I32))) ∷ []) }) ∷ FunctionItem (record { attribute = Mangled; name = codes "run_static_initializers"; params = []; result = None; locals = []; body = stmts ([]) }) ∷ [] } ∷ []; entry = 0 }) (record { answers = [] }) 30 ≡ record { events = []; progress = ended (pos 0) }
unfolding pure fails ends seq takes_unit local tells grants begins rounds known_table
some_is_not_none = refl

-- its bytes are no pointer to an object, nor a number
function_as_object : rs_run (record { modules = record { name = codes "a"; items = FunctionItem (record { attribute = Mangled; name = codes "sub"; params = record { name = codes "a"; ty = Integer I32 } ∷ record { name = codes "b"; ty = Integer I32 } ∷ []; result = Some (Integer I32); locals = []; body = stmts (Return (Some (Binary (Read (Local (codes "a"))) Sub (Read (Local (codes "b"))))) ∷ []) }) ∷ FunctionItem (record { attribute = Mangled; name = codes "main_0"; params = []; result = Some (Integer I32); locals = record { name = codes "f"; ty = Code (tys (Integer I32 ∷ Integer I32 ∷ [])) (some_ty (Integer I32)) } ∷ []; body = stmts (Assign (Local (codes "f")) (SomeFunction (codes "a") (codes "sub") (tys (Integer I32 ∷ Integer I32 ∷ [])) (some_ty (Integer I32))) ∷ Return (Some (Cast (IsNull (Read (Deref (Cast (AddressOf (Local (codes "f"))) (Pointer (Pointer (Integer I32))))))) (Integer I32))) ∷ []) }) ∷ FunctionItem (record { attribute = Mangled; name = codes "run_static_initializers"; params = []; result = None; locals = []; body = stmts ([]) }) ∷ [] } ∷ []; entry = 0 }) (record { answers = [] }) 30 ≡ record { events = []; progress = stopped (wrong cause.MixedPointer) }
unfolding pure fails ends seq takes_unit local tells grants begins rounds known_table
function_as_object = refl

-- a call by a pointer as a statement
call_by_dropped : rs_run (record { modules = record { name = codes "a"; items = FunctionItem (record { attribute = Mangled; name = codes "f"; params = record { name = codes "p"; ty = Pointer (Integer I32) } ∷ []; result = None; locals = []; body = stmts (Assign (Deref (Read (Local (codes "p")))) (Literal (pos 3) I32) ∷ []) }) ∷ FunctionItem (record { attribute = Mangled; name = codes "main_0"; params = []; result = Some (Integer I32); locals = record { name = codes "x"; ty = Integer I32 } ∷ []; body = stmts (Eval (CallBy (SomeFunction (codes "a") (codes "f") (tys (Pointer (Integer I32) ∷ [])) (no_ty)) (exprs (AddressOf (Local (codes "x")) ∷ []))) ∷ Return (Some (Read (Local (codes "x")))) ∷ []) }) ∷ FunctionItem (record { attribute = Mangled; name = codes "run_static_initializers"; params = []; result = None; locals = []; body = stmts ([]) }) ∷ [] } ∷ []; entry = 0 }) (record { answers = [] }) 30 ≡ record { events = []; progress = ended (pos 3) }
unfolding pure fails ends seq takes_unit local tells grants begins rounds known_table
call_by_dropped = refl

-- all `*mut` are one type in a call by pointer, and the result has the type of the pointer
call_by_alike : rs_run (record { modules = record { name = codes "a"; items = FunctionItem (record { attribute = Mangled; name = codes "f"; params = record { name = codes "p"; ty = Pointer (Integer I32) } ∷ []; result = Some (Pointer (Integer I32)); locals = []; body = stmts (Return (Some (Read (Local (codes "p")))) ∷ []) }) ∷ FunctionItem (record { attribute = Mangled; name = codes "main_0"; params = []; result = Some (Integer I32); locals = record { name = codes "x"; ty = Integer I32 } ∷ []; body = stmts (Assign (Local (codes "x")) (Literal (pos 258) I32) ∷ Return (Some (Cast (Read (Deref (CallBy (Transmute (Code (tys (Pointer (Integer I32) ∷ [])) (some_ty (Pointer (Integer I32)))) (Code (tys (Pointer (Integer U8) ∷ [])) (some_ty (Pointer (Integer U8)))) (SomeFunction (codes "a") (codes "f") (tys (Pointer (Integer I32) ∷ [])) (some_ty (Pointer (Integer I32))))) (exprs (Cast (AddressOf (Local (codes "x"))) (Pointer (Integer U8)) ∷ []))))) (Integer I32))) ∷ []) }) ∷ FunctionItem (record { attribute = Mangled; name = codes "run_static_initializers"; params = []; result = None; locals = []; body = stmts ([]) }) ∷ [] } ∷ []; entry = 0 }) (record { answers = [] }) 30 ≡ record { events = []; progress = ended (pos 2) }
unfolding pure fails ends seq takes_unit local tells grants begins rounds known_table
call_by_alike = refl

-- and so are all function pointers
call_by_alike_functions : rs_run (record { modules = record { name = codes "a"; items = FunctionItem (record { attribute = Mangled; name = codes "g"; params = record { name = codes "f"; ty = Code (tys ([])) (no_ty) } ∷ []; result = Some (Integer I32); locals = []; body = stmts (Return (Some (Cast (IsNone (Read (Local (codes "f")))) (Integer I32))) ∷ []) }) ∷ FunctionItem (record { attribute = Mangled; name = codes "main_0"; params = []; result = Some (Integer I32); locals = []; body = stmts (Return (Some (CallBy (Transmute (Code (tys (Code (tys ([])) (no_ty) ∷ [])) (some_ty (Integer I32))) (Code (tys (Code (tys (Integer I32 ∷ Integer I32 ∷ [])) (some_ty (Integer I32)) ∷ [])) (some_ty (Integer I32))) (SomeFunction (codes "a") (codes "g") (tys (Code (tys ([])) (no_ty) ∷ [])) (some_ty (Integer I32)))) (exprs (NoFunction ∷ [])))) ∷ []) }) ∷ FunctionItem (record { attribute = Mangled; name = codes "run_static_initializers"; params = []; result = None; locals = []; body = stmts ([]) }) ∷ [] } ∷ []; entry = 0 }) (record { answers = [] }) 30 ≡ record { events = []; progress = ended (pos 1) }
unfolding pure fails ends seq takes_unit local tells grants begins rounds known_table
call_by_alike_functions = refl

-- another type of a parameter or result, or another number
wrong_param : rs_run (record { modules = record { name = codes "a"; items = FunctionItem (record { attribute = Mangled; name = codes "f"; params = record { name = codes "a"; ty = Integer I32 } ∷ []; result = Some (Integer I32); locals = []; body = stmts (Return (Some (Read (Local (codes "a")))) ∷ []) }) ∷ FunctionItem (record { attribute = Mangled; name = codes "main_0"; params = []; result = Some (Integer I32); locals = []; body = stmts (Eval (CallBy (Transmute (Code (tys (Integer I32 ∷ [])) (some_ty (Integer I32))) (Code (tys (Integer I64 ∷ [])) (some_ty (Integer I32))) (SomeFunction (codes "a") (codes "f") (tys (Integer I32 ∷ [])) (some_ty (Integer I32)))) (exprs (Literal (pos 1) I64 ∷ []))) ∷ Return (Some (Literal (pos 0) I32)) ∷ []) }) ∷ FunctionItem (record { attribute = Mangled; name = codes "run_static_initializers"; params = []; result = None; locals = []; body = stmts ([]) }) ∷ [] } ∷ []; entry = 0 }) (record { answers = [] }) 30 ≡ record { events = []; progress = stopped (wrong cause.WrongCall) }
unfolding pure fails ends seq takes_unit local tells grants begins rounds known_table
wrong_param = refl

wrong_sign : rs_run (record { modules = record { name = codes "a"; items = FunctionItem (record { attribute = Mangled; name = codes "f"; params = record { name = codes "a"; ty = Integer I32 } ∷ []; result = Some (Integer I32); locals = []; body = stmts (Return (Some (Read (Local (codes "a")))) ∷ []) }) ∷ FunctionItem (record { attribute = Mangled; name = codes "main_0"; params = []; result = Some (Integer I32); locals = []; body = stmts (Eval (CallBy (Transmute (Code (tys (Integer I32 ∷ [])) (some_ty (Integer I32))) (Code (tys (Integer U32 ∷ [])) (some_ty (Integer I32))) (SomeFunction (codes "a") (codes "f") (tys (Integer I32 ∷ [])) (some_ty (Integer I32)))) (exprs (Literal (pos 1) U32 ∷ []))) ∷ Return (Some (Literal (pos 0) I32)) ∷ []) }) ∷ FunctionItem (record { attribute = Mangled; name = codes "run_static_initializers"; params = []; result = None; locals = []; body = stmts ([]) }) ∷ [] } ∷ []; entry = 0 }) (record { answers = [] }) 30 ≡ record { events = []; progress = stopped (wrong cause.WrongCall) }
unfolding pure fails ends seq takes_unit local tells grants begins rounds known_table
wrong_sign = refl

wrong_result : rs_run (record { modules = record { name = codes "a"; items = FunctionItem (record { attribute = Mangled; name = codes "f"; params = record { name = codes "a"; ty = Integer I32 } ∷ []; result = Some (Integer I32); locals = []; body = stmts (Return (Some (Read (Local (codes "a")))) ∷ []) }) ∷ FunctionItem (record { attribute = Mangled; name = codes "main_0"; params = []; result = Some (Integer I32); locals = []; body = stmts (Eval (CallBy (Transmute (Code (tys (Integer I32 ∷ [])) (some_ty (Integer I32))) (Code (tys (Integer I32 ∷ [])) (some_ty (Integer I64))) (SomeFunction (codes "a") (codes "f") (tys (Integer I32 ∷ [])) (some_ty (Integer I32)))) (exprs (Literal (pos 1) I32 ∷ []))) ∷ Return (Some (Literal (pos 0) I32)) ∷ []) }) ∷ FunctionItem (record { attribute = Mangled; name = codes "run_static_initializers"; params = []; result = None; locals = []; body = stmts ([]) }) ∷ [] } ∷ []; entry = 0 }) (record { answers = [] }) 30 ≡ record { events = []; progress = stopped (wrong cause.WrongCall) }
unfolding pure fails ends seq takes_unit local tells grants begins rounds known_table
wrong_result = refl

wrong_no_result : rs_run (record { modules = record { name = codes "a"; items = FunctionItem (record { attribute = Mangled; name = codes "f"; params = record { name = codes "a"; ty = Integer I32 } ∷ []; result = Some (Integer I32); locals = []; body = stmts (Return (Some (Read (Local (codes "a")))) ∷ []) }) ∷ FunctionItem (record { attribute = Mangled; name = codes "main_0"; params = []; result = Some (Integer I32); locals = []; body = stmts (Eval (CallBy (Transmute (Code (tys (Integer I32 ∷ [])) (some_ty (Integer I32))) (Code (tys (Integer I32 ∷ [])) (no_ty)) (SomeFunction (codes "a") (codes "f") (tys (Integer I32 ∷ [])) (some_ty (Integer I32)))) (exprs (Literal (pos 1) I32 ∷ []))) ∷ Return (Some (Literal (pos 0) I32)) ∷ []) }) ∷ FunctionItem (record { attribute = Mangled; name = codes "run_static_initializers"; params = []; result = None; locals = []; body = stmts ([]) }) ∷ [] } ∷ []; entry = 0 }) (record { answers = [] }) 30 ≡ record { events = []; progress = stopped (wrong cause.WrongCall) }
unfolding pure fails ends seq takes_unit local tells grants begins rounds known_table
wrong_no_result = refl

wrong_some_result : rs_run (record { modules = record { name = codes "a"; items = FunctionItem (record { attribute = Mangled; name = codes "f"; params = record { name = codes "a"; ty = Integer I32 } ∷ []; result = None; locals = []; body = stmts ([]) }) ∷ FunctionItem (record { attribute = Mangled; name = codes "main_0"; params = []; result = Some (Integer I32); locals = []; body = stmts (Eval (CallBy (Transmute (Code (tys (Integer I32 ∷ [])) (no_ty)) (Code (tys (Integer I32 ∷ [])) (some_ty (Integer I32))) (SomeFunction (codes "a") (codes "f") (tys (Integer I32 ∷ [])) (no_ty))) (exprs (Literal (pos 1) I32 ∷ []))) ∷ Return (Some (Literal (pos 0) I32)) ∷ []) }) ∷ FunctionItem (record { attribute = Mangled; name = codes "run_static_initializers"; params = []; result = None; locals = []; body = stmts ([]) }) ∷ [] } ∷ []; entry = 0 }) (record { answers = [] }) 30 ≡ record { events = []; progress = stopped (wrong cause.WrongCall) }
unfolding pure fails ends seq takes_unit local tells grants begins rounds known_table
wrong_some_result = refl

wrong_too_many : rs_run (record { modules = record { name = codes "a"; items = FunctionItem (record { attribute = Mangled; name = codes "f"; params = record { name = codes "a"; ty = Integer I32 } ∷ []; result = Some (Integer I32); locals = []; body = stmts (Return (Some (Read (Local (codes "a")))) ∷ []) }) ∷ FunctionItem (record { attribute = Mangled; name = codes "main_0"; params = []; result = Some (Integer I32); locals = []; body = stmts (Eval (CallBy (Transmute (Code (tys (Integer I32 ∷ [])) (some_ty (Integer I32))) (Code (tys (Integer I32 ∷ Integer I32 ∷ [])) (some_ty (Integer I32))) (SomeFunction (codes "a") (codes "f") (tys (Integer I32 ∷ [])) (some_ty (Integer I32)))) (exprs (Literal (pos 1) I32 ∷ Literal (pos 1) I32 ∷ []))) ∷ Return (Some (Literal (pos 0) I32)) ∷ []) }) ∷ FunctionItem (record { attribute = Mangled; name = codes "run_static_initializers"; params = []; result = None; locals = []; body = stmts ([]) }) ∷ [] } ∷ []; entry = 0 }) (record { answers = [] }) 30 ≡ record { events = []; progress = stopped (wrong cause.WrongCall) }
unfolding pure fails ends seq takes_unit local tells grants begins rounds known_table
wrong_too_many = refl

wrong_pointer : rs_run (record { modules = record { name = codes "a"; items = FunctionItem (record { attribute = Mangled; name = codes "f"; params = record { name = codes "a"; ty = Integer I64 } ∷ []; result = Some (Integer I32); locals = []; body = stmts (Return (Some (Literal (pos 0) I32)) ∷ []) }) ∷ FunctionItem (record { attribute = Mangled; name = codes "main_0"; params = []; result = Some (Integer I32); locals = []; body = stmts (Eval (CallBy (Transmute (Code (tys (Integer I64 ∷ [])) (some_ty (Integer I32))) (Code (tys (Pointer (Integer I32) ∷ [])) (some_ty (Integer I32))) (SomeFunction (codes "a") (codes "f") (tys (Integer I64 ∷ [])) (some_ty (Integer I32)))) (exprs (NullPointer (Integer I32) ∷ []))) ∷ Return (Some (Literal (pos 0) I32)) ∷ []) }) ∷ FunctionItem (record { attribute = Mangled; name = codes "run_static_initializers"; params = []; result = None; locals = []; body = stmts ([]) }) ∷ [] } ∷ []; entry = 0 }) (record { answers = [] }) 30 ≡ record { events = []; progress = stopped (wrong cause.WrongCall) }
unfolding pure fails ends seq takes_unit local tells grants begins rounds known_table
wrong_pointer = refl

-- operands and arguments go from the left
operands_in_order : rs_run (record { modules = record { name = codes "a"; items = ExternItem (record { link_name = None; name = codes "putchar"; params = Integer I32 ∷ []; variadic = false; result = Some (Integer I32) } ∷ []) ∷ FunctionItem (record { attribute = Mangled; name = codes "main_0"; params = []; result = Some (Integer I32); locals = []; body = stmts (Return (Some (Binary (Calls (codes "a") (codes "putchar") (exprs (Literal (pos 97) I32 ∷ []))) Sub (Calls (codes "a") (codes "putchar") (exprs (Literal (pos 98) I32 ∷ []))))) ∷ []) }) ∷ FunctionItem (record { attribute = Mangled; name = codes "run_static_initializers"; params = []; result = None; locals = []; body = stmts ([]) }) ∷ [] } ∷ []; entry = 0 }) (record { answers = pos 97 ∷ pos 98 ∷ [] }) 30 ≡ record { events = record { name = codes "putchar"; args = arg.Whole (scalar.Whole 32 true) (pos 97) ∷ [] } ∷ record { name = codes "putchar"; args = arg.Whole (scalar.Whole 32 true) (pos 98) ∷ [] } ∷ []; progress = ended (negsuc 0) }
unfolding pure fails ends seq takes_unit local tells grants begins rounds known_table
operands_in_order = refl

wrapped_in_order : rs_run (record { modules = record { name = codes "a"; items = ExternItem (record { link_name = None; name = codes "putchar"; params = Integer I32 ∷ []; variadic = false; result = Some (Integer I32) } ∷ []) ∷ FunctionItem (record { attribute = Mangled; name = codes "main_0"; params = []; result = Some (Integer I32); locals = []; body = stmts (Return (Some (Wrapped (Calls (codes "a") (codes "putchar") (exprs (Literal (pos 97) I32 ∷ []))) WrappingSub (Calls (codes "a") (codes "putchar") (exprs (Literal (pos 98) I32 ∷ []))))) ∷ []) }) ∷ FunctionItem (record { attribute = Mangled; name = codes "run_static_initializers"; params = []; result = None; locals = []; body = stmts ([]) }) ∷ [] } ∷ []; entry = 0 }) (record { answers = pos 97 ∷ pos 98 ∷ [] }) 30 ≡ record { events = record { name = codes "putchar"; args = arg.Whole (scalar.Whole 32 true) (pos 97) ∷ [] } ∷ record { name = codes "putchar"; args = arg.Whole (scalar.Whole 32 true) (pos 98) ∷ [] } ∷ []; progress = ended (negsuc 0) }
unfolding pure fails ends seq takes_unit local tells grants begins rounds known_table
wrapped_in_order = refl

arguments_in_order : rs_run (record { modules = record { name = codes "a"; items = ExternItem (record { link_name = None; name = codes "putchar"; params = Integer I32 ∷ []; variadic = false; result = Some (Integer I32) } ∷ []) ∷ FunctionItem (record { attribute = Mangled; name = codes "sub"; params = record { name = codes "a"; ty = Integer I32 } ∷ record { name = codes "b"; ty = Integer I32 } ∷ []; result = Some (Integer I32); locals = []; body = stmts (Return (Some (Binary (Read (Local (codes "a"))) Sub (Read (Local (codes "b"))))) ∷ []) }) ∷ FunctionItem (record { attribute = Mangled; name = codes "main_0"; params = []; result = Some (Integer I32); locals = []; body = stmts (Return (Some (Calls (codes "a") (codes "sub") (exprs (Calls (codes "a") (codes "putchar") (exprs (Literal (pos 97) I32 ∷ [])) ∷ Calls (codes "a") (codes "putchar") (exprs (Literal (pos 98) I32 ∷ [])) ∷ [])))) ∷ []) }) ∷ FunctionItem (record { attribute = Mangled; name = codes "run_static_initializers"; params = []; result = None; locals = []; body = stmts ([]) }) ∷ [] } ∷ []; entry = 0 }) (record { answers = pos 97 ∷ pos 98 ∷ [] }) 30 ≡ record { events = record { name = codes "putchar"; args = arg.Whole (scalar.Whole 32 true) (pos 97) ∷ [] } ∷ record { name = codes "putchar"; args = arg.Whole (scalar.Whole 32 true) (pos 98) ∷ [] } ∷ []; progress = ended (negsuc 0) }
unfolding pure fails ends seq takes_unit local tells grants begins rounds known_table
arguments_in_order = refl

arguments_by_pointer_in_order : rs_run (record { modules = record { name = codes "a"; items = ExternItem (record { link_name = None; name = codes "putchar"; params = Integer I32 ∷ []; variadic = false; result = Some (Integer I32) } ∷ []) ∷ FunctionItem (record { attribute = Mangled; name = codes "sub"; params = record { name = codes "a"; ty = Integer I32 } ∷ record { name = codes "b"; ty = Integer I32 } ∷ []; result = Some (Integer I32); locals = []; body = stmts (Return (Some (Binary (Read (Local (codes "a"))) Sub (Read (Local (codes "b"))))) ∷ []) }) ∷ FunctionItem (record { attribute = Mangled; name = codes "main_0"; params = []; result = Some (Integer I32); locals = []; body = stmts (Return (Some (CallBy (SomeFunction (codes "a") (codes "sub") (tys (Integer I32 ∷ Integer I32 ∷ [])) (some_ty (Integer I32))) (exprs (Calls (codes "a") (codes "putchar") (exprs (Literal (pos 97) I32 ∷ [])) ∷ Calls (codes "a") (codes "putchar") (exprs (Literal (pos 98) I32 ∷ [])) ∷ [])))) ∷ []) }) ∷ FunctionItem (record { attribute = Mangled; name = codes "run_static_initializers"; params = []; result = None; locals = []; body = stmts ([]) }) ∷ [] } ∷ []; entry = 0 }) (record { answers = pos 97 ∷ pos 98 ∷ [] }) 30 ≡ record { events = record { name = codes "putchar"; args = arg.Whole (scalar.Whole 32 true) (pos 97) ∷ [] } ∷ record { name = codes "putchar"; args = arg.Whole (scalar.Whole 32 true) (pos 98) ∷ [] } ∷ []; progress = ended (negsuc 0) }
unfolding pure fails ends seq takes_unit local tells grants begins rounds known_table
arguments_by_pointer_in_order = refl

value_then_place : rs_run (record { modules = record { name = codes "a"; items = ExternItem (record { link_name = None; name = codes "putchar"; params = Integer I32 ∷ []; variadic = false; result = Some (Integer I32) } ∷ []) ∷ FunctionItem (record { attribute = Mangled; name = codes "main_0"; params = []; result = Some (Integer I32); locals = record { name = codes "x"; ty = Array (Integer I32) 3 } ∷ []; body = stmts (Assign (Deref (Offset (Cast (AddressOf (Local (codes "x"))) (Pointer (Integer I32))) (Cast (Binary (Calls (codes "a") (codes "putchar") (exprs (Literal (pos 98) I32 ∷ []))) Sub (Literal (pos 97) I32)) (Integer Isize)))) (Calls (codes "a") (codes "putchar") (exprs (Literal (pos 97) I32 ∷ []))) ∷ Return (Some (Read (Deref (Offset (Cast (AddressOf (Local (codes "x"))) (Pointer (Integer I32))) (Literal (pos 1) Isize))))) ∷ []) }) ∷ FunctionItem (record { attribute = Mangled; name = codes "run_static_initializers"; params = []; result = None; locals = []; body = stmts ([]) }) ∷ [] } ∷ []; entry = 0 }) (record { answers = pos 97 ∷ pos 98 ∷ [] }) 30 ≡ record { events = record { name = codes "putchar"; args = arg.Whole (scalar.Whole 32 true) (pos 97) ∷ [] } ∷ record { name = codes "putchar"; args = arg.Whole (scalar.Whole 32 true) (pos 98) ∷ [] } ∷ []; progress = ended (pos 97) }
unfolding pure fails ends seq takes_unit local tells grants begins rounds known_table
value_then_place = refl

offset_in_order : rs_run (record { modules = record { name = codes "a"; items = ExternItem (record { link_name = None; name = codes "putchar"; params = Integer I32 ∷ []; variadic = false; result = Some (Integer I32) } ∷ []) ∷ FunctionItem (record { attribute = Mangled; name = codes "main_0"; params = []; result = Some (Integer I32); locals = record { name = codes "x"; ty = Array (Integer I32) 3 } ∷ []; body = stmts (Return (Some (Cast (IsNull (Offset (Choose (Binary (Calls (codes "a") (codes "putchar") (exprs (Literal (pos 97) I32 ∷ []))) Equal (Literal (pos 97) I32)) (Cast (Cast (AddressOf (Local (codes "x"))) (Pointer (Integer I32))) (Pointer (Integer U8))) (NullPointer (Integer U8))) (Cast (Binary (Calls (codes "a") (codes "putchar") (exprs (Literal (pos 98) I32 ∷ []))) Sub (Literal (pos 98) I32)) (Integer Isize)))) (Integer I32))) ∷ []) }) ∷ FunctionItem (record { attribute = Mangled; name = codes "run_static_initializers"; params = []; result = None; locals = []; body = stmts ([]) }) ∷ [] } ∷ []; entry = 0 }) (record { answers = pos 97 ∷ pos 98 ∷ [] }) 30 ≡ record { events = record { name = codes "putchar"; args = arg.Whole (scalar.Whole 32 true) (pos 97) ∷ [] } ∷ record { name = codes "putchar"; args = arg.Whole (scalar.Whole 32 true) (pos 98) ∷ [] } ∷ []; progress = ended (pos 0) }
unfolding pure fails ends seq takes_unit local tells grants begins rounds known_table
offset_in_order = refl

offset_from_in_order : rs_run (record { modules = record { name = codes "a"; items = ExternItem (record { link_name = None; name = codes "putchar"; params = Integer I32 ∷ []; variadic = false; result = Some (Integer I32) } ∷ []) ∷ FunctionItem (record { attribute = Mangled; name = codes "main_0"; params = []; result = Some (Integer I32); locals = record { name = codes "x"; ty = Array (Integer I32) 3 } ∷ []; body = stmts (Return (Some (Cast (OffsetFrom (Choose (Binary (Calls (codes "a") (codes "putchar") (exprs (Literal (pos 97) I32 ∷ []))) Equal (Literal (pos 97) I32)) (Cast (Cast (AddressOf (Local (codes "x"))) (Pointer (Integer I32))) (Pointer (Integer U8))) (NullPointer (Integer U8))) (Choose (Binary (Calls (codes "a") (codes "putchar") (exprs (Literal (pos 98) I32 ∷ []))) Equal (Literal (pos 98) I32)) (Cast (Cast (AddressOf (Local (codes "x"))) (Pointer (Integer I32))) (Pointer (Integer U8))) (NullPointer (Integer U8)))) (Integer I32))) ∷ []) }) ∷ FunctionItem (record { attribute = Mangled; name = codes "run_static_initializers"; params = []; result = None; locals = []; body = stmts ([]) }) ∷ [] } ∷ []; entry = 0 }) (record { answers = pos 97 ∷ pos 98 ∷ [] }) 30 ≡ record { events = record { name = codes "putchar"; args = arg.Whole (scalar.Whole 32 true) (pos 97) ∷ [] } ∷ record { name = codes "putchar"; args = arg.Whole (scalar.Whole 32 true) (pos 98) ∷ [] } ∷ []; progress = ended (pos 0) }
unfolding pure fails ends seq takes_unit local tells grants begins rounds known_table
offset_from_in_order = refl

copy_in_order : rs_run (record { modules = record { name = codes "a"; items = ExternItem (record { link_name = None; name = codes "putchar"; params = Integer I32 ∷ []; variadic = false; result = Some (Integer I32) } ∷ []) ∷ FunctionItem (record { attribute = Mangled; name = codes "main_0"; params = []; result = Some (Integer I32); locals = record { name = codes "x"; ty = Array (Integer I32) 3 } ∷ []; body = stmts (CopyBytes (Choose (Binary (Calls (codes "a") (codes "putchar") (exprs (Literal (pos 97) I32 ∷ []))) Equal (Literal (pos 97) I32)) (Cast (Cast (AddressOf (Local (codes "x"))) (Pointer (Integer I32))) (Pointer (Integer U8))) (NullPointer (Integer U8))) (Choose (Binary (Calls (codes "a") (codes "putchar") (exprs (Literal (pos 98) I32 ∷ []))) Equal (Literal (pos 98) I32)) (Cast (Cast (AddressOf (Local (codes "x"))) (Pointer (Integer I32))) (Pointer (Integer U8))) (NullPointer (Integer U8))) (Cast (Binary (Calls (codes "a") (codes "putchar") (exprs (Literal (pos 99) I32 ∷ []))) Sub (Literal (pos 98) I32)) (Integer Usize)) ∷ Return (Some (Literal (pos 0) I32)) ∷ []) }) ∷ FunctionItem (record { attribute = Mangled; name = codes "run_static_initializers"; params = []; result = None; locals = []; body = stmts ([]) }) ∷ [] } ∷ []; entry = 0 }) (record { answers = pos 97 ∷ pos 98 ∷ pos 99 ∷ [] }) 30 ≡ record { events = record { name = codes "putchar"; args = arg.Whole (scalar.Whole 32 true) (pos 97) ∷ [] } ∷ record { name = codes "putchar"; args = arg.Whole (scalar.Whole 32 true) (pos 98) ∷ [] } ∷ record { name = codes "putchar"; args = arg.Whole (scalar.Whole 32 true) (pos 99) ∷ [] } ∷ []; progress = ended (pos 0) }
unfolding pure fails ends seq takes_unit local tells grants begins rounds known_table
copy_in_order = refl

and_in_order : rs_run (record { modules = record { name = codes "a"; items = ExternItem (record { link_name = None; name = codes "putchar"; params = Integer I32 ∷ []; variadic = false; result = Some (Integer I32) } ∷ []) ∷ FunctionItem (record { attribute = Mangled; name = codes "main_0"; params = []; result = Some (Integer I32); locals = []; body = stmts (Return (Some (Cast (And (Binary (Calls (codes "a") (codes "putchar") (exprs (Literal (pos 97) I32 ∷ []))) Equal (Literal (pos 97) I32)) (Binary (Calls (codes "a") (codes "putchar") (exprs (Literal (pos 98) I32 ∷ []))) Equal (Literal (pos 0) I32))) (Integer I32))) ∷ []) }) ∷ FunctionItem (record { attribute = Mangled; name = codes "run_static_initializers"; params = []; result = None; locals = []; body = stmts ([]) }) ∷ [] } ∷ []; entry = 0 }) (record { answers = pos 97 ∷ pos 98 ∷ [] }) 30 ≡ record { events = record { name = codes "putchar"; args = arg.Whole (scalar.Whole 32 true) (pos 97) ∷ [] } ∷ record { name = codes "putchar"; args = arg.Whole (scalar.Whole 32 true) (pos 98) ∷ [] } ∷ []; progress = ended (pos 0) }
unfolding pure fails ends seq takes_unit local tells grants begins rounds known_table
and_in_order = refl

-- `else`
else_taken : rs_run (record { modules = record { name = codes "a"; items = FunctionItem (record { attribute = Mangled; name = codes "main_0"; params = []; result = Some (Integer I32); locals = record { name = codes "x"; ty = Integer I32 } ∷ []; body = stmts (If (Truth false) (stmts (Assign (Local (codes "x")) (Literal (pos 1) I32) ∷ [])) (stmts (Assign (Local (codes "x")) (Literal (pos 2) I32) ∷ [])) ∷ Return (Some (Read (Local (codes "x")))) ∷ []) }) ∷ FunctionItem (record { attribute = Mangled; name = codes "run_static_initializers"; params = []; result = None; locals = []; body = stmts ([]) }) ∷ [] } ∷ []; entry = 0 }) (record { answers = [] }) 30 ≡ record { events = []; progress = ended (pos 2) }
unfolding pure fails ends seq takes_unit local tells grants begins rounds known_table
else_taken = refl

-- `break` and `continue` go through blocks and through loops without a label
break_through : rs_run (record { modules = record { name = codes "a"; items = FunctionItem (record { attribute = Mangled; name = codes "main_0"; params = []; result = Some (Integer I32); locals = record { name = codes "x"; ty = Integer I32 } ∷ []; body = stmts (Block (codes "b") (stmts (Loop (None) (stmts (Block (codes "c") (stmts (Assign (Local (codes "x")) (Literal (pos 1) I32) ∷ Break (codes "b") ∷ [])) ∷ Assign (Local (codes "x")) (Literal (pos 2) I32) ∷ [])) ∷ Assign (Local (codes "x")) (Literal (pos 3) I32) ∷ [])) ∷ Return (Some (Read (Local (codes "x")))) ∷ []) }) ∷ FunctionItem (record { attribute = Mangled; name = codes "run_static_initializers"; params = []; result = None; locals = []; body = stmts ([]) }) ∷ [] } ∷ []; entry = 0 }) (record { answers = [] }) 30 ≡ record { events = []; progress = ended (pos 1) }
unfolding pure fails ends seq takes_unit local tells grants begins rounds known_table
break_through = refl

continue_through : rs_run (record { modules = record { name = codes "a"; items = FunctionItem (record { attribute = Mangled; name = codes "main_0"; params = []; result = Some (Integer I32); locals = record { name = codes "x"; ty = Integer I32 } ∷ []; body = stmts (Loop (Some (codes "l")) (stmts (Assign (Local (codes "x")) (Binary (Read (Local (codes "x"))) Add (Literal (pos 1) I32)) ∷ If (Binary (Read (Local (codes "x"))) Equal (Literal (pos 2) I32)) (stmts (Break (codes "l") ∷ [])) (stmts ([])) ∷ Block (codes "b") (stmts (Loop (None) (stmts (Continue (codes "l") ∷ [])) ∷ [])) ∷ Assign (Local (codes "x")) (Literal (pos 9) I32) ∷ Break (codes "l") ∷ [])) ∷ Return (Some (Read (Local (codes "x")))) ∷ []) }) ∷ FunctionItem (record { attribute = Mangled; name = codes "run_static_initializers"; params = []; result = None; locals = []; body = stmts ([]) }) ∷ [] } ∷ []; entry = 0 }) (record { answers = [] }) 30 ≡ record { events = []; progress = ended (pos 2) }
unfolding pure fails ends seq takes_unit local tells grants begins rounds known_table
continue_through = refl

-- `match` on other types, and inside a loop that it leaves
match_unsigned : rs_run (record { modules = record { name = codes "a"; items = FunctionItem (record { attribute = Mangled; name = codes "main_0"; params = []; result = Some (Integer I32); locals = record { name = codes "x"; ty = Integer I32 } ∷ []; body = stmts (Loop (Some (codes "l")) (stmts (Match (Literal (pos 200) U8) (arms (LiteralArm (pos 100) U8 (stmts (Assign (Local (codes "x")) (Literal (pos 1) I32) ∷ [])) ∷ LiteralArm (pos 200) U8 (stmts (Assign (Local (codes "x")) (Literal (pos 7) I32) ∷ Break (codes "l") ∷ [])) ∷ [])) (stmts (Assign (Local (codes "x")) (Literal (pos 2) I32) ∷ [])) ∷ Assign (Local (codes "x")) (Literal (pos 9) I32) ∷ [])) ∷ Return (Some (Read (Local (codes "x")))) ∷ []) }) ∷ FunctionItem (record { attribute = Mangled; name = codes "run_static_initializers"; params = []; result = None; locals = []; body = stmts ([]) }) ∷ [] } ∷ []; entry = 0 }) (record { answers = [] }) 30 ≡ record { events = []; progress = ended (pos 7) }
unfolding pure fails ends seq takes_unit local tells grants begins rounds known_table
match_unsigned = refl

match_negative : rs_run (record { modules = record { name = codes "a"; items = FunctionItem (record { attribute = Mangled; name = codes "main_0"; params = []; result = Some (Integer I32); locals = record { name = codes "x"; ty = Integer I32 } ∷ []; body = stmts (Match (Literal (negsuc 0) I32) (arms (LiteralArm (pos 1) I32 (stmts (Assign (Local (codes "x")) (Literal (pos 1) I32) ∷ [])) ∷ LiteralArm (negsuc 0) I32 (stmts (Assign (Local (codes "x")) (Literal (pos 3) I32) ∷ [])) ∷ [])) (stmts ([])) ∷ Return (Some (Read (Local (codes "x")))) ∷ []) }) ∷ FunctionItem (record { attribute = Mangled; name = codes "run_static_initializers"; params = []; result = None; locals = []; body = stmts ([]) }) ∷ [] } ∷ []; entry = 0 }) (record { answers = [] }) 30 ≡ record { events = []; progress = ended (pos 3) }
unfolding pure fails ends seq takes_unit local tells grants begins rounds known_table
match_negative = refl

match_nothing_else : rs_run (record { modules = record { name = codes "a"; items = FunctionItem (record { attribute = Mangled; name = codes "main_0"; params = []; result = Some (Integer I32); locals = record { name = codes "x"; ty = Integer I32 } ∷ []; body = stmts (Match (Literal (pos 5) I32) (arms (LiteralArm (pos 1) I32 (stmts (Assign (Local (codes "x")) (Literal (pos 1) I32) ∷ [])) ∷ [])) (stmts ([])) ∷ Return (Some (Read (Local (codes "x")))) ∷ []) }) ∷ FunctionItem (record { attribute = Mangled; name = codes "run_static_initializers"; params = []; result = None; locals = []; body = stmts ([]) }) ∷ [] } ∷ []; entry = 0 }) (record { answers = [] }) 30 ≡ record { events = []; progress = ended (pos 0) }
unfolding pure fails ends seq takes_unit local tells grants begins rounds known_table
match_nothing_else = refl

-- library forms take no unit: two are enough
library_forms : rs_run (record { modules = record { name = codes "a"; items = FunctionItem (record { attribute = Mangled; name = codes "main_0"; params = []; result = Some (Integer I32); locals = record { name = codes "x"; ty = Array (Integer I32) 3 } ∷ []; body = stmts (CopyBytes (Cast (Offset (Cast (AddressOf (Local (codes "x"))) (Pointer (Integer I32))) (Literal (pos 0) Isize)) (Pointer (Integer U8))) (Cast (Offset (Cast (AddressOf (Local (codes "x"))) (Pointer (Integer I32))) (Literal (pos 1) Isize)) (Pointer (Integer U8))) (Literal (pos 4) Usize) ∷ Return (Some (Cast (IsNull (Offset (Cast (Cast (AddressOf (Local (codes "x"))) (Pointer (Integer I32))) (Pointer (Integer U8))) (Cast (Wrapped (Literal (pos 1) I32) WrappingAdd (Literal (pos 0) I32)) (Integer Isize)))) (Integer I32))) ∷ []) }) ∷ FunctionItem (record { attribute = Mangled; name = codes "run_static_initializers"; params = []; result = None; locals = []; body = stmts ([]) }) ∷ [] } ∷ []; entry = 0 }) (record { answers = [] }) 2 ≡ record { events = []; progress = ended (pos 0) }
unfolding pure fails ends seq takes_unit local tells grants begins rounds known_table
library_forms = refl

-- a call by pointer takes one, and so does one of the crate
call_by_unit : rs_run (record { modules = record { name = codes "a"; items = FunctionItem (record { attribute = Mangled; name = codes "sub"; params = record { name = codes "a"; ty = Integer I32 } ∷ record { name = codes "b"; ty = Integer I32 } ∷ []; result = Some (Integer I32); locals = []; body = stmts (Return (Some (Binary (Read (Local (codes "a"))) Sub (Read (Local (codes "b"))))) ∷ []) }) ∷ FunctionItem (record { attribute = Mangled; name = codes "main_0"; params = []; result = Some (Integer I32); locals = []; body = stmts (Return (Some (CallBy (SomeFunction (codes "a") (codes "sub") (tys (Integer I32 ∷ Integer I32 ∷ [])) (some_ty (Integer I32))) (exprs (Literal (pos 9) I32 ∷ Literal (pos 3) I32 ∷ [])))) ∷ []) }) ∷ FunctionItem (record { attribute = Mangled; name = codes "run_static_initializers"; params = []; result = None; locals = []; body = stmts ([]) }) ∷ [] } ∷ []; entry = 0 }) (record { answers = [] }) 2 ≡ record { events = []; progress = going }
unfolding pure fails ends seq takes_unit local tells grants begins rounds known_table
call_by_unit = refl

call_by_units : rs_run (record { modules = record { name = codes "a"; items = FunctionItem (record { attribute = Mangled; name = codes "sub"; params = record { name = codes "a"; ty = Integer I32 } ∷ record { name = codes "b"; ty = Integer I32 } ∷ []; result = Some (Integer I32); locals = []; body = stmts (Return (Some (Binary (Read (Local (codes "a"))) Sub (Read (Local (codes "b"))))) ∷ []) }) ∷ FunctionItem (record { attribute = Mangled; name = codes "main_0"; params = []; result = Some (Integer I32); locals = []; body = stmts (Return (Some (CallBy (SomeFunction (codes "a") (codes "sub") (tys (Integer I32 ∷ Integer I32 ∷ [])) (some_ty (Integer I32))) (exprs (Literal (pos 9) I32 ∷ Literal (pos 3) I32 ∷ [])))) ∷ []) }) ∷ FunctionItem (record { attribute = Mangled; name = codes "run_static_initializers"; params = []; result = None; locals = []; body = stmts ([]) }) ∷ [] } ∷ []; entry = 0 }) (record { answers = [] }) 3 ≡ record { events = []; progress = ended (pos 6) }
unfolding pure fails ends seq takes_unit local tells grants begins rounds known_table
call_by_units = refl

call_unit : rs_run (record { modules = record { name = codes "a"; items = FunctionItem (record { attribute = Mangled; name = codes "sub"; params = record { name = codes "a"; ty = Integer I32 } ∷ record { name = codes "b"; ty = Integer I32 } ∷ []; result = Some (Integer I32); locals = []; body = stmts (Return (Some (Binary (Read (Local (codes "a"))) Sub (Read (Local (codes "b"))))) ∷ []) }) ∷ FunctionItem (record { attribute = Mangled; name = codes "main_0"; params = []; result = Some (Integer I32); locals = []; body = stmts (Return (Some (Calls (codes "a") (codes "sub") (exprs (Literal (pos 9) I32 ∷ Literal (pos 3) I32 ∷ [])))) ∷ []) }) ∷ FunctionItem (record { attribute = Mangled; name = codes "run_static_initializers"; params = []; result = None; locals = []; body = stmts ([]) }) ∷ [] } ∷ []; entry = 0 }) (record { answers = [] }) 2 ≡ record { events = []; progress = going }
unfolding pure fails ends seq takes_unit local tells grants begins rounds known_table
call_unit = refl

call_units : rs_run (record { modules = record { name = codes "a"; items = FunctionItem (record { attribute = Mangled; name = codes "sub"; params = record { name = codes "a"; ty = Integer I32 } ∷ record { name = codes "b"; ty = Integer I32 } ∷ []; result = Some (Integer I32); locals = []; body = stmts (Return (Some (Binary (Read (Local (codes "a"))) Sub (Read (Local (codes "b"))))) ∷ []) }) ∷ FunctionItem (record { attribute = Mangled; name = codes "main_0"; params = []; result = Some (Integer I32); locals = []; body = stmts (Return (Some (Calls (codes "a") (codes "sub") (exprs (Literal (pos 9) I32 ∷ Literal (pos 3) I32 ∷ [])))) ∷ []) }) ∷ FunctionItem (record { attribute = Mangled; name = codes "run_static_initializers"; params = []; result = None; locals = []; body = stmts ([]) }) ∷ [] } ∷ []; entry = 0 }) (record { answers = [] }) 3 ≡ record { events = []; progress = ended (pos 6) }
unfolding pure fails ends seq takes_unit local tells grants begins rounds known_table
call_units = refl

-- and `exit`
exit_unit : rs_run (record { modules = record { name = codes "a"; items = ExternItem (record { link_name = None; name = codes "exit"; params = Integer I32 ∷ []; variadic = false; result = None } ∷ []) ∷ FunctionItem (record { attribute = Mangled; name = codes "main_0"; params = []; result = Some (Integer I32); locals = []; body = stmts (Eval (Calls (codes "a") (codes "exit") (exprs (Literal (pos 3) I32 ∷ []))) ∷ Return (Some (Literal (pos 0) I32)) ∷ []) }) ∷ FunctionItem (record { attribute = Mangled; name = codes "run_static_initializers"; params = []; result = None; locals = []; body = stmts ([]) }) ∷ [] } ∷ []; entry = 0 }) (record { answers = [] }) 2 ≡ record { events = []; progress = going }
unfolding pure fails ends seq takes_unit local tells grants begins rounds known_table
exit_unit = refl

exit_units : rs_run (record { modules = record { name = codes "a"; items = ExternItem (record { link_name = None; name = codes "exit"; params = Integer I32 ∷ []; variadic = false; result = None } ∷ []) ∷ FunctionItem (record { attribute = Mangled; name = codes "main_0"; params = []; result = Some (Integer I32); locals = []; body = stmts (Eval (Calls (codes "a") (codes "exit") (exprs (Literal (pos 3) I32 ∷ []))) ∷ Return (Some (Literal (pos 0) I32)) ∷ []) }) ∷ FunctionItem (record { attribute = Mangled; name = codes "run_static_initializers"; params = []; result = None; locals = []; body = stmts ([]) }) ∷ [] } ∷ []; entry = 0 }) (record { answers = [] }) 3 ≡ record { events = []; progress = ended (pos 3) }
unfolding pure fails ends seq takes_unit local tells grants begins rounds known_table
exit_units = refl

-- an answer is dropped where there is no result; another is reduced to the type of the result
answers_converted : rs_run (record { modules = record { name = codes "a"; items = ExternItem (record { link_name = None; name = codes "tick"; params = []; variadic = false; result = None } ∷ record { link_name = None; name = codes "get"; params = []; variadic = false; result = Some (Integer U8) } ∷ record { link_name = None; name = codes "wide"; params = Integer U64 ∷ []; variadic = false; result = Some (Integer I64) } ∷ []) ∷ FunctionItem (record { attribute = Mangled; name = codes "main_0"; params = []; result = Some (Integer I32); locals = []; body = stmts (Eval (Calls (codes "a") (codes "tick") (exprs ([]))) ∷ Return (Some (Cast (Calls (codes "a") (codes "get") (exprs ([]))) (Integer I32))) ∷ []) }) ∷ FunctionItem (record { attribute = Mangled; name = codes "run_static_initializers"; params = []; result = None; locals = []; body = stmts ([]) }) ∷ [] } ∷ []; entry = 0 }) (record { answers = pos 7 ∷ pos 300 ∷ [] }) 30 ≡ record { events = record { name = codes "tick"; args = [] } ∷ record { name = codes "get"; args = [] } ∷ []; progress = ended (pos 44) }
unfolding pure fails ends seq takes_unit local tells grants begins rounds known_table
answers_converted = refl

event_wide : rs_run (record { modules = record { name = codes "a"; items = ExternItem (record { link_name = None; name = codes "tick"; params = []; variadic = false; result = None } ∷ record { link_name = None; name = codes "get"; params = []; variadic = false; result = Some (Integer U8) } ∷ record { link_name = None; name = codes "wide"; params = Integer U64 ∷ []; variadic = false; result = Some (Integer I64) } ∷ []) ∷ FunctionItem (record { attribute = Mangled; name = codes "main_0"; params = []; result = Some (Integer I32); locals = []; body = stmts (Return (Some (Cast (Binary (Calls (codes "a") (codes "wide") (exprs (Literal (pos 18446744073709551615) U64 ∷ []))) Equal (Literal (negsuc 0) I64)) (Integer I32))) ∷ []) }) ∷ FunctionItem (record { attribute = Mangled; name = codes "run_static_initializers"; params = []; result = None; locals = []; body = stmts ([]) }) ∷ [] } ∷ []; entry = 0 }) (record { answers = negsuc 0 ∷ [] }) 30 ≡ record { events = record { name = codes "wide"; args = arg.Whole (scalar.Whole 64 false) (pos 18446744073709551615) ∷ [] } ∷ []; progress = ended (pos 1) }
unfolding pure fails ends seq takes_unit local tells grants begins rounds known_table
event_wide = refl

-- an event has the symbol of the function
event_symbol : rs_run (record { modules = record { name = codes "a"; items = ExternItem (record { link_name = Some (codes "putchar"); name = codes "put"; params = Integer I32 ∷ []; variadic = false; result = Some (Integer I32) } ∷ []) ∷ FunctionItem (record { attribute = Mangled; name = codes "main_0"; params = []; result = Some (Integer I32); locals = []; body = stmts (Return (Some (Calls (codes "a") (codes "put") (exprs (Literal (pos 65) I32 ∷ [])))) ∷ []) }) ∷ FunctionItem (record { attribute = Mangled; name = codes "run_static_initializers"; params = []; result = None; locals = []; body = stmts ([]) }) ∷ [] } ∷ []; entry = 0 }) (record { answers = pos 65 ∷ [] }) 30 ≡ record { events = record { name = codes "putchar"; args = arg.Whole (scalar.Whole 32 true) (pos 65) ∷ [] } ∷ []; progress = ended (pos 65) }
unfolding pure fails ends seq takes_unit local tells grants begins rounds known_table
event_symbol = refl

-- that of a raw identifier is without `r#`
event_raw : rs_run (record { modules = record { name = codes "a"; items = ExternItem (record { link_name = None; name = codes "r#match"; params = Integer I32 ∷ []; variadic = false; result = Some (Integer I32) } ∷ []) ∷ FunctionItem (record { attribute = Mangled; name = codes "main_0"; params = []; result = Some (Integer I32); locals = []; body = stmts (Return (Some (Calls (codes "a") (codes "r#match") (exprs (Literal (pos 65) I32 ∷ [])))) ∷ []) }) ∷ FunctionItem (record { attribute = Mangled; name = codes "run_static_initializers"; params = []; result = None; locals = []; body = stmts ([]) }) ∷ [] } ∷ []; entry = 0 }) (record { answers = pos 65 ∷ [] }) 30 ≡ record { events = record { name = codes "match"; args = arg.Whole (scalar.Whole 32 true) (pos 65) ∷ [] } ∷ []; progress = ended (pos 65) }
unfolding pure fails ends seq takes_unit local tells grants begins rounds known_table
event_raw = refl

-- and by its symbol it is a known one
known_symbol : rs_run (record { modules = record { name = codes "a"; items = ExternItem (record { link_name = Some (codes "exit"); name = codes "leave"; params = Integer I32 ∷ []; variadic = false; result = None } ∷ []) ∷ FunctionItem (record { attribute = Mangled; name = codes "main_0"; params = []; result = Some (Integer I32); locals = []; body = stmts (Eval (Calls (codes "a") (codes "leave") (exprs (Literal (pos 9) I32 ∷ []))) ∷ Return (Some (Literal (pos 0) I32)) ∷ []) }) ∷ FunctionItem (record { attribute = Mangled; name = codes "run_static_initializers"; params = []; result = None; locals = []; body = stmts ([]) }) ∷ [] } ∷ []; entry = 0 }) (record { answers = [] }) 30 ≡ record { events = []; progress = ended (pos 9) }
unfolding pure fails ends seq takes_unit local tells grants begins rounds known_table
known_symbol = refl

-- texts behind the parameters, from where the pointer stands
event_texts : rs_run (record { modules = record { name = codes "a"; items = StaticItem (record { attribute = Mangled; name = codes "t"; ty = Array (Integer I8) 3; values = Some (pos 104 ∷ pos 105 ∷ pos 0 ∷ []) }) ∷ ExternItem (record { link_name = None; name = codes "printf"; params = Pointer (Integer I8) ∷ []; variadic = true; result = Some (Integer I32) } ∷ record { link_name = None; name = codes "malloc"; params = Integer U64 ∷ []; variadic = false; result = Some (Pointer (Void)) } ∷ []) ∷ FunctionItem (record { attribute = Mangled; name = codes "main_0"; params = []; result = Some (Integer I32); locals = []; body = stmts (Return (Some (Calls (codes "a") (codes "printf") (exprs (Cast (AddressOf (Static (codes "a") (codes "t"))) (Pointer (Integer I8)) ∷ Offset (Cast (AddressOf (Static (codes "a") (codes "t"))) (Pointer (Integer U8))) (Literal (pos 1) Isize) ∷ Literal (pos 3) U32 ∷ [])))) ∷ []) }) ∷ FunctionItem (record { attribute = Mangled; name = codes "run_static_initializers"; params = []; result = None; locals = []; body = stmts ([]) }) ∷ [] } ∷ []; entry = 0 }) (record { answers = pos 2 ∷ [] }) 30 ≡ record { events = record { name = codes "printf"; args = arg.Text (codes "hi") ∷ arg.Text (codes "i") ∷ arg.Whole (scalar.Whole 32 false) (pos 3) ∷ [] } ∷ []; progress = ended (pos 2) }
unfolding pure fails ends seq takes_unit local tells grants begins rounds known_table
event_texts = refl

-- a text at null, in a dead object, of unset bytes
event_null : rs_run (record { modules = record { name = codes "a"; items = StaticItem (record { attribute = Mangled; name = codes "t"; ty = Array (Integer I8) 3; values = Some (pos 104 ∷ pos 105 ∷ pos 0 ∷ []) }) ∷ ExternItem (record { link_name = None; name = codes "printf"; params = Pointer (Integer I8) ∷ []; variadic = true; result = Some (Integer I32) } ∷ record { link_name = None; name = codes "malloc"; params = Integer U64 ∷ []; variadic = false; result = Some (Pointer (Void)) } ∷ []) ∷ FunctionItem (record { attribute = Mangled; name = codes "main_0"; params = []; result = Some (Integer I32); locals = []; body = stmts (Return (Some (Calls (codes "a") (codes "printf") (exprs (NullPointer (Integer I8) ∷ [])))) ∷ []) }) ∷ FunctionItem (record { attribute = Mangled; name = codes "run_static_initializers"; params = []; result = None; locals = []; body = stmts ([]) }) ∷ [] } ∷ []; entry = 0 }) (record { answers = [] }) 30 ≡ record { events = []; progress = stopped (wrong cause.Outside) }
unfolding pure fails ends seq takes_unit local tells grants begins rounds known_table
event_null = refl

event_dead : rs_run (record { modules = record { name = codes "a"; items = StaticItem (record { attribute = Mangled; name = codes "t"; ty = Array (Integer I8) 3; values = Some (pos 104 ∷ pos 105 ∷ pos 0 ∷ []) }) ∷ ExternItem (record { link_name = None; name = codes "printf"; params = Pointer (Integer I8) ∷ []; variadic = true; result = Some (Integer I32) } ∷ record { link_name = None; name = codes "malloc"; params = Integer U64 ∷ []; variadic = false; result = Some (Pointer (Void)) } ∷ []) ∷ FunctionItem (record { attribute = Mangled; name = codes "gone"; params = []; result = Some (Pointer (Integer I32)); locals = record { name = codes "x"; ty = Integer I32 } ∷ []; body = stmts (Return (Some (AddressOf (Local (codes "x")))) ∷ []) }) ∷ FunctionItem (record { attribute = Mangled; name = codes "main_0"; params = []; result = Some (Integer I32); locals = []; body = stmts (Return (Some (Calls (codes "a") (codes "printf") (exprs (Cast (Calls (codes "a") (codes "gone") (exprs ([]))) (Pointer (Integer I8)) ∷ [])))) ∷ []) }) ∷ FunctionItem (record { attribute = Mangled; name = codes "run_static_initializers"; params = []; result = None; locals = []; body = stmts ([]) }) ∷ [] } ∷ []; entry = 0 }) (record { answers = [] }) 30 ≡ record { events = []; progress = stopped (wrong cause.Dead) }
unfolding pure fails ends seq takes_unit local tells grants begins rounds known_table
event_dead = refl

event_unset : rs_run (record { modules = record { name = codes "a"; items = StaticItem (record { attribute = Mangled; name = codes "t"; ty = Array (Integer I8) 3; values = Some (pos 104 ∷ pos 105 ∷ pos 0 ∷ []) }) ∷ ExternItem (record { link_name = None; name = codes "printf"; params = Pointer (Integer I8) ∷ []; variadic = true; result = Some (Integer I32) } ∷ record { link_name = None; name = codes "malloc"; params = Integer U64 ∷ []; variadic = false; result = Some (Pointer (Void)) } ∷ []) ∷ FunctionItem (record { attribute = Mangled; name = codes "main_0"; params = []; result = Some (Integer I32); locals = []; body = stmts (Return (Some (Calls (codes "a") (codes "printf") (exprs (Cast (Calls (codes "a") (codes "malloc") (exprs (Literal (pos 4) U64 ∷ []))) (Pointer (Integer I8)) ∷ [])))) ∷ []) }) ∷ FunctionItem (record { attribute = Mangled; name = codes "run_static_initializers"; params = []; result = None; locals = []; body = stmts ([]) }) ∷ [] } ∷ []; entry = 0 }) (record { answers = pos 1 ∷ [] }) 30 ≡ record { events = []; progress = stopped (wrong cause.Unset) }
unfolding pure fails ends seq takes_unit local tells grants begins rounds known_table
event_unset = refl

event_pointer : rs_run (record { modules = record { name = codes "a"; items = StaticItem (record { attribute = Mangled; name = codes "t"; ty = Array (Integer I8) 3; values = Some (pos 104 ∷ pos 105 ∷ pos 0 ∷ []) }) ∷ ExternItem (record { link_name = None; name = codes "printf"; params = Pointer (Integer I8) ∷ []; variadic = true; result = Some (Integer I32) } ∷ record { link_name = None; name = codes "malloc"; params = Integer U64 ∷ []; variadic = false; result = Some (Pointer (Void)) } ∷ []) ∷ FunctionItem (record { attribute = Mangled; name = codes "main_0"; params = []; result = Some (Integer I32); locals = record { name = codes "p"; ty = Pointer (Integer I32) } ∷ record { name = codes "x"; ty = Integer I32 } ∷ []; body = stmts (Assign (Local (codes "p")) (AddressOf (Local (codes "x"))) ∷ Return (Some (Calls (codes "a") (codes "printf") (exprs (Cast (AddressOf (Local (codes "p"))) (Pointer (Integer I8)) ∷ [])))) ∷ []) }) ∷ FunctionItem (record { attribute = Mangled; name = codes "run_static_initializers"; params = []; result = None; locals = []; body = stmts ([]) }) ∷ [] } ∷ []; entry = 0 }) (record { answers = [] }) 30 ≡ record { events = []; progress = stopped (wrong cause.MixedPointer) }
unfolding pure fails ends seq takes_unit local tells grants begins rounds known_table
event_pointer = refl

-- of several wrong arguments the first counts
event_first : rs_run (record { modules = record { name = codes "a"; items = StaticItem (record { attribute = Mangled; name = codes "t"; ty = Array (Integer I8) 3; values = Some (pos 104 ∷ pos 105 ∷ pos 0 ∷ []) }) ∷ ExternItem (record { link_name = None; name = codes "printf"; params = Pointer (Integer I8) ∷ []; variadic = true; result = Some (Integer I32) } ∷ record { link_name = None; name = codes "malloc"; params = Integer U64 ∷ []; variadic = false; result = Some (Pointer (Void)) } ∷ []) ∷ FunctionItem (record { attribute = Mangled; name = codes "gone"; params = []; result = Some (Pointer (Integer I32)); locals = record { name = codes "x"; ty = Integer I32 } ∷ []; body = stmts (Return (Some (AddressOf (Local (codes "x")))) ∷ []) }) ∷ FunctionItem (record { attribute = Mangled; name = codes "main_0"; params = []; result = Some (Integer I32); locals = []; body = stmts (Return (Some (Calls (codes "a") (codes "printf") (exprs (NullPointer (Integer I8) ∷ Cast (Calls (codes "a") (codes "gone") (exprs ([]))) (Pointer (Integer U8)) ∷ [])))) ∷ []) }) ∷ FunctionItem (record { attribute = Mangled; name = codes "run_static_initializers"; params = []; result = None; locals = []; body = stmts ([]) }) ∷ [] } ∷ []; entry = 0 }) (record { answers = [] }) 30 ≡ record { events = []; progress = stopped (wrong cause.Outside) }
unfolding pure fails ends seq takes_unit local tells grants begins rounds known_table
event_first = refl

-- the initialisers of the modules run in order, then `main_0` of the entry
modules : rs_run (record { modules = record { name = codes "a"; items = StaticItem (record { attribute = Mangled; name = codes "s"; ty = Integer I32; values = None }) ∷ ExternItem (record { link_name = None; name = codes "putchar"; params = Integer I32 ∷ []; variadic = false; result = Some (Integer I32) } ∷ []) ∷ FunctionItem (record { attribute = Mangled; name = codes "main_0"; params = []; result = Some (Integer I32); locals = []; body = stmts (Return (Some (Literal (pos 1) I32)) ∷ []) }) ∷ FunctionItem (record { attribute = Mangled; name = codes "run_static_initializers"; params = []; result = None; locals = []; body = stmts (Eval (Calls (codes "a") (codes "putchar") (exprs (Literal (pos 97) I32 ∷ []))) ∷ []) }) ∷ [] } ∷ record { name = codes "b"; items = StaticItem (record { attribute = Mangled; name = codes "s"; ty = Integer I32; values = None }) ∷ ExternItem (record { link_name = None; name = codes "putchar"; params = Integer I32 ∷ []; variadic = false; result = Some (Integer I32) } ∷ []) ∷ FunctionItem (record { attribute = Mangled; name = codes "main_0"; params = []; result = Some (Integer I32); locals = []; body = stmts (Return (Some (Binary (Read (Static (codes "b") (codes "s"))) Sub (Read (Static (codes "a") (codes "s"))))) ∷ []) }) ∷ FunctionItem (record { attribute = Mangled; name = codes "run_static_initializers"; params = []; result = None; locals = []; body = stmts (Eval (Calls (codes "b") (codes "putchar") (exprs (Literal (pos 98) I32 ∷ []))) ∷ Assign (Static (codes "b") (codes "s")) (Literal (pos 6) I32) ∷ []) }) ∷ [] } ∷ []; entry = 1 }) (record { answers = [] }) 30 ≡ record { events = record { name = codes "putchar"; args = arg.Whole (scalar.Whole 32 true) (pos 97) ∷ [] } ∷ record { name = codes "putchar"; args = arg.Whole (scalar.Whole 32 true) (pos 98) ∷ [] } ∷ []; progress = ended (pos 6) }
unfolding pure fails ends seq takes_unit local tells grants begins rounds known_table
modules = refl

-- each takes a unit
modules_unit : rs_run (record { modules = record { name = codes "a"; items = StaticItem (record { attribute = Mangled; name = codes "s"; ty = Integer I32; values = None }) ∷ ExternItem (record { link_name = None; name = codes "putchar"; params = Integer I32 ∷ []; variadic = false; result = Some (Integer I32) } ∷ []) ∷ FunctionItem (record { attribute = Mangled; name = codes "main_0"; params = []; result = Some (Integer I32); locals = []; body = stmts (Return (Some (Literal (pos 1) I32)) ∷ []) }) ∷ FunctionItem (record { attribute = Mangled; name = codes "run_static_initializers"; params = []; result = None; locals = []; body = stmts (Eval (Calls (codes "a") (codes "putchar") (exprs (Literal (pos 97) I32 ∷ []))) ∷ []) }) ∷ [] } ∷ record { name = codes "b"; items = StaticItem (record { attribute = Mangled; name = codes "s"; ty = Integer I32; values = None }) ∷ ExternItem (record { link_name = None; name = codes "putchar"; params = Integer I32 ∷ []; variadic = false; result = Some (Integer I32) } ∷ []) ∷ FunctionItem (record { attribute = Mangled; name = codes "main_0"; params = []; result = Some (Integer I32); locals = []; body = stmts (Return (Some (Binary (Read (Static (codes "b") (codes "s"))) Sub (Read (Static (codes "a") (codes "s"))))) ∷ []) }) ∷ FunctionItem (record { attribute = Mangled; name = codes "run_static_initializers"; params = []; result = None; locals = []; body = stmts (Eval (Calls (codes "b") (codes "putchar") (exprs (Literal (pos 98) I32 ∷ []))) ∷ Assign (Static (codes "b") (codes "s")) (Literal (pos 6) I32) ∷ []) }) ∷ [] } ∷ []; entry = 1 }) (record { answers = [] }) 4 ≡ record { events = record { name = codes "putchar"; args = arg.Whole (scalar.Whole 32 true) (pos 97) ∷ [] } ∷ record { name = codes "putchar"; args = arg.Whole (scalar.Whole 32 true) (pos 98) ∷ [] } ∷ []; progress = going }
unfolding pure fails ends seq takes_unit local tells grants begins rounds known_table
modules_unit = refl

-- a function pointer to one of another module
module_function : rs_run (record { modules = record { name = codes "a"; items = FunctionItem (record { attribute = Mangled; name = codes "f"; params = []; result = Some (Integer I32); locals = []; body = stmts (Return (Some (Literal (pos 1) I32)) ∷ []) }) ∷ FunctionItem (record { attribute = Mangled; name = codes "main_0"; params = []; result = Some (Integer I32); locals = []; body = stmts (Return (Some (CallBy (SomeFunction (codes "b") (codes "f") (tys ([])) (some_ty (Integer I32))) (exprs ([])))) ∷ []) }) ∷ FunctionItem (record { attribute = Mangled; name = codes "run_static_initializers"; params = []; result = None; locals = []; body = stmts ([]) }) ∷ [] } ∷ record { name = codes "b"; items = FunctionItem (record { attribute = Mangled; name = codes "f"; params = []; result = Some (Integer I32); locals = []; body = stmts (Return (Some (Literal (pos 2) I32)) ∷ []) }) ∷ FunctionItem (record { attribute = Mangled; name = codes "run_static_initializers"; params = []; result = None; locals = []; body = stmts ([]) }) ∷ [] } ∷ []; entry = 0 }) (record { answers = [] }) 30 ≡ record { events = []; progress = ended (pos 2) }
unfolding pure fails ends seq takes_unit local tells grants begins rounds known_table
module_function = refl

-- and a record
module_record : rs_run (record { modules = record { name = codes "a"; items = RecordItem (record { align = None; is_union = false; name = codes "s"; fields = record { name = codes "n"; ty = Integer I32 } ∷ [] }) ∷ FunctionItem (record { attribute = Mangled; name = codes "main_0"; params = []; result = Some (Integer I32); locals = record { name = codes "q"; ty = Record (codes "b") (codes "s") } ∷ []; body = stmts (Return (Some (Cast (OffsetFrom (Cast (Offset (Cast (AddressOf (Local (codes "q"))) (Pointer (Record (codes "b") (codes "s")))) (Literal (pos 1) Isize)) (Pointer (Integer U8))) (Cast (Cast (AddressOf (Local (codes "q"))) (Pointer (Record (codes "b") (codes "s")))) (Pointer (Integer U8)))) (Integer I32))) ∷ []) }) ∷ FunctionItem (record { attribute = Mangled; name = codes "run_static_initializers"; params = []; result = None; locals = []; body = stmts ([]) }) ∷ [] } ∷ record { name = codes "b"; items = RecordItem (record { align = None; is_union = false; name = codes "s"; fields = record { name = codes "n"; ty = Integer I64 } ∷ [] }) ∷ FunctionItem (record { attribute = Mangled; name = codes "run_static_initializers"; params = []; result = None; locals = []; body = stmts ([]) }) ∷ [] } ∷ []; entry = 0 }) (record { answers = [] }) 30 ≡ record { events = []; progress = ended (pos 8) }
unfolding pure fails ends seq takes_unit local tells grants begins rounds known_table
module_record = refl

functions_differ : rs_run (record { modules = record { name = codes "a"; items = FunctionItem (record { attribute = Mangled; name = codes "sub"; params = record { name = codes "a"; ty = Integer I32 } ∷ record { name = codes "b"; ty = Integer I32 } ∷ []; result = Some (Integer I32); locals = []; body = stmts (Return (Some (Binary (Read (Local (codes "a"))) Sub (Read (Local (codes "b"))))) ∷ []) }) ∷ FunctionItem (record { attribute = Mangled; name = codes "main_0"; params = []; result = Some (Integer I32); locals = []; body = stmts (Return (Some (Cast (Binary (SomeFunction (codes "a") (codes "sub") (tys (Integer I32 ∷ Integer I32 ∷ [])) (some_ty (Integer I32))) NotEqual (NoFunction)) (Integer I32))) ∷ []) }) ∷ FunctionItem (record { attribute = Mangled; name = codes "run_static_initializers"; params = []; result = None; locals = []; body = stmts ([]) }) ∷ [] } ∷ []; entry = 0 }) (record { answers = [] }) 30 ≡ record { events = []; progress = ended (pos 1) }
unfolding pure fails ends seq takes_unit local tells grants begins rounds known_table
functions_differ = refl

-- a call with another number of arguments or other types, which no well-typed crate has
called_too_few : rs_run (record { modules = record { name = codes "a"; items = FunctionItem (record { attribute = Mangled; name = codes "sub"; params = record { name = codes "a"; ty = Integer I32 } ∷ record { name = codes "b"; ty = Integer I32 } ∷ []; result = Some (Integer I32); locals = []; body = stmts (Return (Some (Binary (Read (Local (codes "a"))) Sub (Read (Local (codes "b"))))) ∷ []) }) ∷ FunctionItem (record { attribute = Mangled; name = codes "main_0"; params = []; result = Some (Integer I32); locals = []; body = stmts (Return (Some (Calls (codes "a") (codes "sub") (exprs (Literal (pos 1) I32 ∷ [])))) ∷ []) }) ∷ FunctionItem (record { attribute = Mangled; name = codes "run_static_initializers"; params = []; result = None; locals = []; body = stmts ([]) }) ∷ [] } ∷ []; entry = 0 }) (record { answers = [] }) 30 ≡ record { events = []; progress = stopped (wrong cause.WrongCall) }
unfolding pure fails ends seq takes_unit local tells grants begins rounds known_table
called_too_few = refl

called_too_many : rs_run (record { modules = record { name = codes "a"; items = FunctionItem (record { attribute = Mangled; name = codes "sub"; params = record { name = codes "a"; ty = Integer I32 } ∷ record { name = codes "b"; ty = Integer I32 } ∷ []; result = Some (Integer I32); locals = []; body = stmts (Return (Some (Binary (Read (Local (codes "a"))) Sub (Read (Local (codes "b"))))) ∷ []) }) ∷ FunctionItem (record { attribute = Mangled; name = codes "main_0"; params = []; result = Some (Integer I32); locals = []; body = stmts (Return (Some (Calls (codes "a") (codes "sub") (exprs (Literal (pos 1) I32 ∷ Literal (pos 2) I32 ∷ Literal (pos 3) I32 ∷ [])))) ∷ []) }) ∷ FunctionItem (record { attribute = Mangled; name = codes "run_static_initializers"; params = []; result = None; locals = []; body = stmts ([]) }) ∷ [] } ∷ []; entry = 0 }) (record { answers = [] }) 30 ≡ record { events = []; progress = stopped (wrong cause.WrongCall) }
unfolding pure fails ends seq takes_unit local tells grants begins rounds known_table
called_too_many = refl

called_of_another_type : rs_run (record { modules = record { name = codes "a"; items = FunctionItem (record { attribute = Mangled; name = codes "sub"; params = record { name = codes "a"; ty = Integer I32 } ∷ record { name = codes "b"; ty = Integer I32 } ∷ []; result = Some (Integer I32); locals = []; body = stmts (Return (Some (Binary (Read (Local (codes "a"))) Sub (Read (Local (codes "b"))))) ∷ []) }) ∷ FunctionItem (record { attribute = Mangled; name = codes "main_0"; params = []; result = Some (Integer I32); locals = []; body = stmts (Return (Some (Calls (codes "a") (codes "sub") (exprs (Literal (pos 1) I32 ∷ Literal (pos 2) I64 ∷ [])))) ∷ []) }) ∷ FunctionItem (record { attribute = Mangled; name = codes "run_static_initializers"; params = []; result = None; locals = []; body = stmts ([]) }) ∷ [] } ∷ []; entry = 0 }) (record { answers = [] }) 30 ≡ record { events = []; progress = stopped (wrong cause.WrongCall) }
unfolding pure fails ends seq takes_unit local tells grants begins rounds known_table
called_of_another_type = refl

-- a text is read behind the unit of its call
text_without_unit : rs_run (record { modules = record { name = codes "a"; items = StaticItem (record { attribute = Mangled; name = codes "t"; ty = Array (Integer I8) 3; values = Some (pos 104 ∷ pos 105 ∷ pos 0 ∷ []) }) ∷ ExternItem (record { link_name = None; name = codes "printf"; params = Pointer (Integer I8) ∷ []; variadic = true; result = Some (Integer I32) } ∷ record { link_name = None; name = codes "malloc"; params = Integer U64 ∷ []; variadic = false; result = Some (Pointer (Void)) } ∷ []) ∷ FunctionItem (record { attribute = Mangled; name = codes "main_0"; params = []; result = Some (Integer I32); locals = []; body = stmts (Return (Some (Calls (codes "a") (codes "printf") (exprs (NullPointer (Integer I8) ∷ [])))) ∷ []) }) ∷ FunctionItem (record { attribute = Mangled; name = codes "run_static_initializers"; params = []; result = None; locals = []; body = stmts ([]) }) ∷ [] } ∷ []; entry = 0 }) (record { answers = [] }) 2 ≡ record { events = []; progress = going }
unfolding pure fails ends seq takes_unit local tells grants begins rounds known_table
text_without_unit = refl

-- types of a call are compared before it
wrong_without_unit : rs_run (record { modules = record { name = codes "a"; items = FunctionItem (record { attribute = Mangled; name = codes "f"; params = record { name = codes "a"; ty = Integer I32 } ∷ []; result = Some (Integer I32); locals = []; body = stmts (Return (Some (Read (Local (codes "a")))) ∷ []) }) ∷ FunctionItem (record { attribute = Mangled; name = codes "main_0"; params = []; result = Some (Integer I32); locals = []; body = stmts (Return (Some (CallBy (Transmute (Code (tys (Integer I32 ∷ [])) (some_ty (Integer I32))) (Code (tys (Integer I64 ∷ [])) (some_ty (Integer I32))) (SomeFunction (codes "a") (codes "f") (tys (Integer I32 ∷ [])) (some_ty (Integer I32)))) (exprs (Literal (pos 1) I64 ∷ [])))) ∷ []) }) ∷ FunctionItem (record { attribute = Mangled; name = codes "run_static_initializers"; params = []; result = None; locals = []; body = stmts ([]) }) ∷ [] } ∷ []; entry = 0 }) (record { answers = [] }) 2 ≡ record { events = []; progress = stopped (wrong cause.WrongCall) }
unfolding pure fails ends seq takes_unit local tells grants begins rounds known_table
wrong_without_unit = refl
