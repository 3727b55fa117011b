-- A relation of two pieces that every way to make a piece keeps holds of what two frames make of each expression and statement, where it
-- holds of the bodies that they call. Each law is an instance.
use Rattle.std.proofs.Common.{ℕ, ◌+◌, ℤ, Bool, true, false, List, [], ◌∷◌, ◌++◌, Option, Some, None, Result, Ok, Err, slice_get}
use Rattle.cr_world.specs.Held.{Held}
use Rattle.cr_world.specs.Known.{KnownFunction, known_named, Effect, gives, gives_nothing, ends_program, wants_block, fails as effect_fails}
use Rattle.cr_base.specs.declared.layout.Laid.{Laid}
use Rattle.ext_calls.specs.declared.call.Call.{Call}
use Rattle.mem_bytes.specs.declared.value.Ptr.{Ptr}
use Rattle.mem_bytes.specs.declared.value.Value.{Value}
use Rattle.mem_bytes.specs.declared.value.Value.TheVariants.{Whole, Null, Object, Code as Function}
use Rattle.rs_text.specs.Tree.{Ty, Integer, Boolean, Void, Pointer, Array, Code, Record, Tys, OptionTy, Place, Local, Static, Deref, Field, Expr, Literal, Truth, NoFunction, Read, Call as CallTree, CallBy, Wrapped, WrappingNeg, Offset, OffsetFrom, IsNull, IsNone, AddressOf, NullPointer, SomeFunction, Transmute, Neg, Not, Cast, Binary, And, Or, Choose, Exprs, no_exprs, more_exprs, Stmt, Assign, Eval, CopyBytes, If, Loop, Block, Break, Continue, Match, Return, Stmts, no_stmts, more_stmts, LiteralArm, Arms, no_arms, more_arms, LocalTree, OuterTree, FunctionTree, ModuleTree, CrateTree}
use Rattle.rs_mean.specs.declared.cause.Cause.{Cause}
use Rattle.rs_mean.specs.declared.cause.Cause.TheVariants as cause
use Rattle.rs_mean.specs.Calls.{Spot, begins_laid, begin_params, begin_locals, store_literals, begin_statics, literals_of, accepts, takes_effect, outer_by, answer_as, outer_call}
use Rattle.rs_mean.specs.Layout.{FieldPlace, laid_of, field_at}
use Rattle.rs_mean.specs.Lookups.{Callee, outer, own, callee_at, signature_of, own_signature, function_number, Home, static_home, statics_of, OwnStatic, LocalBlock, local_home}
use Rattle.rs_mean.specs.Run.{Bodies, Frame, spot_of_home, spot_by_type, field_spot, field_by_type, call_found, called_as, call_pointed, Pointed, unwrapped_as, unwrapped_by_type, the_value, function_value, tests, run_place, run_expr, run_exprs, Flow, normal, breaks, continues, returned, goes_on, run_dropped, after_block, after_turn, then_on, is_arm, run_stmt, run_stmts, run_arms, run_function, run_initialisers, run_entry, exits_with, exits, run_main}
use Rattle.rs_mean.specs.Values.{Typed, test_of}
use Rattle.rs_mean.specs.World.{Run, pure, fails, ends, seq, takes_unit, either, Did, local, or_fails, tells, grants, begins, Round, rounds, cause_of_held}

-- ---- calls of external functions

module _
    (L : (A : Type 0) → Run A → Run A → Type 0)
    (on_pure : (A : Type 0) (value : A) → L A (pure value) (pure value))
    (on_fails : (A : Type 0) (why : Cause) → L A (fails why) (fails why))
    (on_ends : (A : Type 0) (status : ℤ) → L A (ends status) (ends status))
    (on_local : (A : Type 0) (step : Held → Result (Did A) Cause) → L A (local step) (local step))
    (on_tells : (call : Call) → L ℤ (tells call) (tells call))
    (on_grants : (is_zero : Bool) (size : ℕ) → L Value (grants is_zero size) (grants is_zero size))
    (on_seq : (A B : Type 0) (first other : Run A) (next more : A → Run B) → L A first other → ((value : A) → L B (next value) (more value)) → L B (seq first next) (seq other more))
  where
    on_effect : (result : Option Ty) (effect : Effect) → L (Option Typed) (takes_effect result effect) (takes_effect result effect)
    on_effect result (gives value held) = on_seq _ _ _ _ _ _ (on_local _ _) (λ _. on_pure _ _)
    on_effect result (gives_nothing held) = on_seq _ _ _ _ _ _ (on_local _ _) (λ _. on_pure _ _)
    on_effect result (ends_program status) = on_ends _ status
    on_effect result (wants_block is_zero size) = on_seq _ _ _ _ _ _ (on_grants is_zero size) (λ value. on_pure _ _)
    on_effect result (effect_fails why) = on_fails _ (cause_of_held why)

    on_answer : (result : Option Ty) (answer : ℤ) → L (Option Typed) (answer_as result answer) (answer_as result answer)
    on_answer None answer = on_pure _ None
    on_answer (Some (Integer ty)) answer = on_pure _ _
    on_answer (Some Boolean) answer = on_pure _ _
    on_answer (Some Void) answer = on_fails _ cause.WrongCall
    on_answer (Some (Pointer target)) answer = on_fails _ cause.WrongCall
    on_answer (Some (Array element size)) answer = on_fails _ cause.WrongCall
    on_answer (Some (Code params result)) answer = on_fails _ cause.WrongCall
    on_answer (Some (Record m x)) answer = on_fails _ cause.WrongCall

    on_outer_by : (known : Option KnownFunction) (fun : OuterTree) (args : List Typed) → L (Option Typed) (outer_by known fun args) (outer_by known fun args)
    on_outer_by (Some one) fun args = on_seq _ _ _ _ _ _ (on_local _ _) (λ held. on_effect fun.result _)
    on_outer_by None fun args = on_seq _ _ _ _ _ _ (on_local _ _) (λ call. on_seq _ _ _ _ _ _ (on_tells call) (λ answer. on_answer fun.result answer))

    pub outer_calls : (fun : OuterTree) (args : List Typed) → L (Option Typed) (outer_call fun args) (outer_call fun args)
    outer_calls fun args = on_outer_by (known_named _) fun args

-- ---- expressions, statements, functions

module _
    (L : (A : Type 0) → Run A → Run A → Type 0)
    (on_pure : (A : Type 0) (value : A) → L A (pure value) (pure value))
    (on_fails : (A : Type 0) (why : Cause) → L A (fails why) (fails why))
    (on_ends : (A : Type 0) (status : ℤ) → L A (ends status) (ends status))
    (on_local : (A : Type 0) (step : Held → Result (Did A) Cause) → L A (local step) (local step))
    (on_begins : (size align : ℕ) → L Ptr (begins size align) (begins size align))
    (on_outer : (fun : OuterTree) (args : List Typed) → L (Option Typed) (takes_unit (outer_call fun args)) (takes_unit (outer_call fun args)))
    (on_seq : (A B : Type 0) (first other : Run A) (next more : A → Run B) → L A first other → ((value : A) → L B (next value) (more value)) → L B (seq first next) (seq other more))
    (on_rounds : (S A : Type 0) (turn other : S → Run (Round S A)) → ((state : S) → L (Round S A) (turn state) (other state)) → (state : S) → L A (rounds turn state) (rounds other state))
  where
    -- called bodies are related behind the unit that a call takes
    abbrev pub Related : Bodies → Bodies → Type 0
    Related bodies later = (fun : FunctionTree) (args : List Typed) → L (Option Typed) (takes_unit (bodies fun args)) (takes_unit (later fun args))

    on_either : (A : Type 0) (test : Bool) (one other later others : Run A) → L A one later → L A other others → L A (either test one other) (either test later others)
    on_either A true one other later others h k = h
    on_either A false one other later others h k = k

    on_or_fails : (A : Type 0) (found : Result A Cause) → L A (or_fails found) (or_fails found)
    on_or_fails A (Ok value) = on_pure A value
    on_or_fails A (Err why) = on_fails A why

    -- ---- lives of objects

    on_laid : (laid : Option Laid) → L Ptr (begins_laid laid) (begins_laid laid)
    on_laid (Some laid) = on_begins laid.size laid.align
    on_laid None = on_fails Ptr cause.WrongCall

    on_params : (modules : List ModuleTree) (params : List LocalTree) (args : List Typed) → L (List LocalBlock) (begin_params modules params args) (begin_params modules params args)
    on_params modules [] args = on_pure _ []
    on_params modules (param ∷ params) [] = on_pure _ []
    on_params modules (param ∷ params) (arg ∷ args) =
        on_seq _ _ _ _ _ _ (on_laid (laid_of modules param.ty)) (λ at.
        on_seq _ _ _ _ _ _ (on_local _ _) (λ _.
        on_seq _ _ _ _ _ _ (on_params modules params args) (λ others. on_pure _ _)))

    on_locals : (modules : List ModuleTree) (locals : List LocalTree) → L (List LocalBlock) (begin_locals modules locals) (begin_locals modules locals)
    on_locals modules [] = on_pure _ []
    on_locals modules (one ∷ locals) =
        on_seq _ _ _ _ _ _ (on_laid (laid_of modules one.ty)) (λ at.
        on_seq _ _ _ _ _ _ (on_locals modules locals) (λ others. on_pure _ _))

    on_literals : (block byte : ℕ) (values : List ℤ) → L (Unit {0}) (store_literals block byte values) (store_literals block byte values)
    on_literals block byte [] = on_pure _ tt
    on_literals block byte (value ∷ values) = on_seq _ _ _ _ _ _ (on_local _ _) (λ _. on_literals block (byte + 1) values)

    on_statics : (modules : List ModuleTree) (objects : List OwnStatic) → L (Unit {0}) (begin_statics modules objects) (begin_statics modules objects)
    on_statics modules [] = on_pure _ tt
    on_statics modules (one ∷ others) =
        on_seq _ _ _ _ _ _ (on_laid (laid_of modules one.object.ty)) (λ at.
        on_seq _ _ _ _ _ _ (on_literals at.block 0 (literals_of one.object.values)) (λ _. on_statics modules others))

    -- ---- places

    on_home : (home : Option Home) → L Spot (spot_of_home home) (spot_of_home home)
    on_home None = on_fails _ cause.WrongCall
    on_home (Some home) = on_pure _ _

    on_pointer : (modules : List ModuleTree) (ty : Ty) (at : Value) → L Spot (spot_by_type modules ty at) (spot_by_type modules ty at)
    on_pointer modules (Pointer target) at = on_local _ _
    on_pointer modules (Integer ty) at = on_fails _ cause.WrongCall
    on_pointer modules Boolean at = on_fails _ cause.WrongCall
    on_pointer modules Void at = on_fails _ cause.WrongCall
    on_pointer modules (Array element size) at = on_fails _ cause.WrongCall
    on_pointer modules (Code params result) at = on_fails _ cause.WrongCall
    on_pointer modules (Record m x) at = on_fails _ cause.WrongCall

    on_field : (is_based : Bool) (at : Value) (field : Option FieldPlace) → L Spot (field_spot is_based at field) (field_spot is_based at field)
    on_field is_based at None = on_fails _ cause.WrongCall
    on_field is_based at (Some field) = on_local _ _

    on_field_type : (modules : List ModuleTree) (f : List ℕ) (is_based : Bool) (at : Value) (ty : Ty) →
        L Spot (field_by_type modules f is_based at ty) (field_by_type modules f is_based at ty)
    on_field_type modules f is_based at (Record m x) = on_field is_based at (field_at modules m x f)
    on_field_type modules f is_based at (Integer ty) = on_fails _ cause.WrongCall
    on_field_type modules f is_based at Boolean = on_fails _ cause.WrongCall
    on_field_type modules f is_based at Void = on_fails _ cause.WrongCall
    on_field_type modules f is_based at (Array element size) = on_fails _ cause.WrongCall
    on_field_type modules f is_based at (Code params result) = on_fails _ cause.WrongCall
    on_field_type modules f is_based at (Pointer target) = on_fails _ cause.WrongCall

    -- ---- calls

    module _ (bodies later : Bodies) (related : Related bodies later) where
      on_found : (args : List Typed) (callee : Option Callee) → L (Option Typed) (call_found bodies args callee) (call_found later args callee)
      on_found args None = on_fails _ cause.WrongCall
      on_found args (Some (own fun)) =
          on_either _ (accepts (signature_of (own fun)).params (signature_of (own fun)).variadic args) _ _ _ _ (related fun args) (on_fails _ cause.WrongCall)
      on_found args (Some (outer fun)) =
          on_either _ (accepts (signature_of (outer fun)).params (signature_of (outer fun)).variadic args) _ _ _ _
          (on_outer fun args) (on_fails _ cause.WrongCall)

      on_pointed : (params : Tys) (result : OptionTy) (args : List Typed) (fun : Option FunctionTree) →
          L (Option Typed) (call_pointed bodies params result args fun) (call_pointed later params result args fun)
      on_pointed params result args None = on_fails _ cause.WrongCall
      on_pointed params result args (Some fun) =
          on_either _ (called_as params result (own_signature fun)) _ _ _ _
          (on_seq _ _ _ _ _ _ (on_found args (Some (own fun))) (λ value. on_pure _ _)) (on_fails _ cause.WrongCall)

      on_unwrapped_as : (modules : List ModuleTree) (params : Tys) (result : OptionTy) (value : Value) →
          L Pointed (unwrapped_as modules params result value) (unwrapped_as modules params result value)
      on_unwrapped_as modules params result (Function number) = on_pure _ _
      on_unwrapped_as modules params result Null = on_fails _ cause.NoneCall
      on_unwrapped_as modules params result (Whole number) = on_fails _ cause.WrongCall
      on_unwrapped_as modules params result (Object at) = on_fails _ cause.WrongCall

      on_unwrapped : (modules : List ModuleTree) (ty : Ty) (value : Value) → L Pointed (unwrapped_by_type modules ty value) (unwrapped_by_type modules ty value)
      on_unwrapped modules (Code params result) value = on_unwrapped_as modules params result value
      on_unwrapped modules (Integer ty) value = on_fails _ cause.WrongCall
      on_unwrapped modules Boolean value = on_fails _ cause.WrongCall
      on_unwrapped modules Void value = on_fails _ cause.WrongCall
      on_unwrapped modules (Array element size) value = on_fails _ cause.WrongCall
      on_unwrapped modules (Pointer target) value = on_fails _ cause.WrongCall
      on_unwrapped modules (Record m x) value = on_fails _ cause.WrongCall

      on_value : (given : Option Typed) → L Typed (the_value given) (the_value given)
      on_value None = on_fails _ cause.WrongCall
      on_value (Some value) = on_pure _ value

      on_function : (params : Tys) (result : OptionTy) (number : Option ℕ) → L Typed (function_value params result number) (function_value params result number)
      on_function params result None = on_fails _ cause.WrongCall
      on_function params result (Some number) = on_pure _ _

      on_tests : (operand : Typed) → L Bool (tests operand) (tests operand)
      on_tests operand = on_or_fails Bool (test_of operand)

      -- ---- frames

      module _ (modules : List ModuleTree) (locals : List LocalBlock) where
        abbrev one : Frame
        one = record { modules = modules; locals = locals; bodies = bodies }

        abbrev two : Frame
        two = record { modules = modules; locals = locals; bodies = later }

        mutual
          pub on_place : (p : Place) → L Spot (run_place one p) (run_place two p)
          on_place (Local x) = on_home (local_home x locals)
          on_place (Static m x) = on_home (static_home modules m x)
          on_place (Deref e) = on_seq _ _ _ _ _ _ (on_expr e) (λ value. on_pointer modules value.ty value.value)
          on_place (Field p f) = on_seq _ _ _ _ _ _ (on_place p) (λ whole. on_field_type modules f whole.is_based whole.at whole.ty)

          pub on_expr : (e : Expr) → L Typed (run_expr one e) (run_expr two e)
          on_expr (Literal value ty) = on_pure _ _
          on_expr (Truth value) = on_pure _ _
          on_expr NoFunction = on_pure _ _
          on_expr (Read p) = on_seq _ _ _ _ _ _ (on_place p) (λ place. on_local _ _)
          on_expr (CallTree m x args) =
              on_seq _ _ _ _ _ _ (on_exprs args) (λ values. on_seq _ _ _ _ _ _ (on_found values (callee_at modules m x)) on_value)
          on_expr (CallBy e args) =
              on_seq _ _ _ _ _ _ (on_expr e) (λ pointer. on_seq _ _ _ _ _ _ (on_unwrapped modules pointer.ty pointer.value) (λ pointed.
              on_seq _ _ _ _ _ _ (on_exprs args) (λ values.
              on_seq _ _ _ _ _ _ (on_pointed pointed.params pointed.result values pointed.fun) on_value)))
          on_expr (Wrapped e op arg) = on_seq _ _ _ _ _ _ (on_expr e) (λ left. on_seq _ _ _ _ _ _ (on_expr arg) (λ right. on_or_fails _ _))
          on_expr (WrappingNeg e) = on_seq _ _ _ _ _ _ (on_expr e) (λ value. on_or_fails _ _)
          on_expr (Offset e arg) = on_seq _ _ _ _ _ _ (on_expr e) (λ left. on_seq _ _ _ _ _ _ (on_expr arg) (λ right. on_local _ _))
          on_expr (OffsetFrom e arg) = on_seq _ _ _ _ _ _ (on_expr e) (λ left. on_seq _ _ _ _ _ _ (on_expr arg) (λ right. on_local _ _))
          on_expr (IsNull e) = on_seq _ _ _ _ _ _ (on_expr e) (λ value. on_or_fails _ _)
          on_expr (IsNone e) = on_seq _ _ _ _ _ _ (on_expr e) (λ value. on_or_fails _ _)
          on_expr (AddressOf p) = on_seq _ _ _ _ _ _ (on_place p) (λ place. on_pure _ _)
          on_expr (NullPointer ty) = on_pure _ _
          on_expr (SomeFunction m x params result) = on_function params result (function_number modules m x)
          on_expr (Transmute from to e) = on_seq _ _ _ _ _ _ (on_expr e) (λ value. on_or_fails _ _)
          on_expr (Neg e) = on_seq _ _ _ _ _ _ (on_expr e) (λ value. on_or_fails _ _)
          on_expr (Not e) = on_seq _ _ _ _ _ _ (on_expr e) (λ value. on_or_fails _ _)
          on_expr (Cast e ty) = on_seq _ _ _ _ _ _ (on_expr e) (λ value. on_or_fails _ _)
          on_expr (Binary l op r) = on_seq _ _ _ _ _ _ (on_expr l) (λ left. on_seq _ _ _ _ _ _ (on_expr r) (λ right. on_local _ _))
          on_expr (And l r) =
              on_seq _ _ _ _ _ _ (on_expr l) (λ left. on_seq _ _ _ _ _ _ (on_tests left) (λ test. on_either _ test _ _ _ _ (on_expr r) (on_pure _ _)))
          on_expr (Or l r) =
              on_seq _ _ _ _ _ _ (on_expr l) (λ left. on_seq _ _ _ _ _ _ (on_tests left) (λ test. on_either _ test _ _ _ _ (on_pure _ _) (on_expr r)))
          on_expr (Choose condition if_true if_false) =
              on_seq _ _ _ _ _ _ (on_expr condition) (λ value. on_seq _ _ _ _ _ _ (on_tests value) (λ test.
              on_either _ test _ _ _ _ (on_expr if_true) (on_expr if_false)))

          pub on_exprs : (es : Exprs) → L (List Typed) (run_exprs one es) (run_exprs two es)
          on_exprs no_exprs = on_pure _ _
          on_exprs (more_exprs e es) = on_seq _ _ _ _ _ _ (on_expr e) (λ value. on_seq _ _ _ _ _ _ (on_exprs es) (λ values. on_pure _ _))

        -- ---- statements

        on_flow : (value : Flow) → L Flow (pure value) (pure value)
        on_flow value = on_pure _ value

        dropped : (A : Type 0) (run other : Run A) → L A run other → L Flow (seq run goes_on) (seq other goes_on)
        dropped A run other h = on_seq _ _ _ _ _ _ h (λ value. on_pure _ normal)

        on_dropped : (e : Expr) → L Flow (run_dropped one e) (run_dropped two e)
        on_dropped (CallTree m x args) = on_seq _ _ _ _ _ _ (on_exprs args) (λ values. dropped _ _ _ (on_found values (callee_at modules m x)))
        on_dropped (CallBy e args) =
            dropped _ _ _ (on_seq _ _ _ _ _ _ (on_expr e) (λ pointer. on_seq _ _ _ _ _ _ (on_unwrapped modules pointer.ty pointer.value) (λ pointed.
            on_seq _ _ _ _ _ _ (on_exprs args) (λ values. on_pointed pointed.params pointed.result values pointed.fun))))
        on_dropped (Literal value ty) = dropped _ _ _ (on_expr (Literal value ty))
        on_dropped (Truth value) = dropped _ _ _ (on_expr (Truth value))
        on_dropped NoFunction = dropped _ _ _ (on_expr NoFunction)
        on_dropped (Read p) = dropped _ _ _ (on_expr (Read p))
        on_dropped (Wrapped e op arg) = dropped _ _ _ (on_expr (Wrapped e op arg))
        on_dropped (WrappingNeg e) = dropped _ _ _ (on_expr (WrappingNeg e))
        on_dropped (Offset e arg) = dropped _ _ _ (on_expr (Offset e arg))
        on_dropped (OffsetFrom e arg) = dropped _ _ _ (on_expr (OffsetFrom e arg))
        on_dropped (IsNull e) = dropped _ _ _ (on_expr (IsNull e))
        on_dropped (IsNone e) = dropped _ _ _ (on_expr (IsNone e))
        on_dropped (AddressOf p) = dropped _ _ _ (on_expr (AddressOf p))
        on_dropped (NullPointer ty) = dropped _ _ _ (on_expr (NullPointer ty))
        on_dropped (SomeFunction m x params result) = dropped _ _ _ (on_expr (SomeFunction m x params result))
        on_dropped (Transmute from to e) = dropped _ _ _ (on_expr (Transmute from to e))
        on_dropped (Neg e) = dropped _ _ _ (on_expr (Neg e))
        on_dropped (Not e) = dropped _ _ _ (on_expr (Not e))
        on_dropped (Cast e ty) = dropped _ _ _ (on_expr (Cast e ty))
        on_dropped (Binary l op r) = dropped _ _ _ (on_expr (Binary l op r))
        on_dropped (And l r) = dropped _ _ _ (on_expr (And l r))
        on_dropped (Or l r) = dropped _ _ _ (on_expr (Or l r))
        on_dropped (Choose condition if_true if_false) = dropped _ _ _ (on_expr (Choose condition if_true if_false))

        on_block : (name : List ℕ) (flow : Flow) → L Flow (after_block name flow) (after_block name flow)
        on_block name normal = on_pure _ _
        on_block name (breaks label) = on_either _ _ _ _ _ _ (on_pure _ _) (on_pure _ _)
        on_block name (continues label) = on_pure _ _
        on_block name (returned value) = on_pure _ _

        on_turn : (name : Option (List ℕ)) (flow : Flow) → L (Round (Unit {0}) Flow) (after_turn name flow) (after_turn name flow)
        on_turn name normal = on_pure _ _
        on_turn name (breaks label) = on_either _ _ _ _ _ _ (on_pure _ _) (on_pure _ _)
        on_turn name (continues label) = on_either _ _ _ _ _ _ (on_pure _ _) (on_pure _ _)
        on_turn name (returned value) = on_pure _ _

        on_then : (rest other : Run Flow) → L Flow rest other → (flow : Flow) → L Flow (then_on rest flow) (then_on other flow)
        on_then rest other h normal = h
        on_then rest other h (breaks label) = on_pure _ _
        on_then rest other h (continues label) = on_pure _ _
        on_then rest other h (returned value) = on_pure _ _

        mutual
          pub on_stmt : (s : Stmt) → L Flow (run_stmt one s) (run_stmt two s)
          on_stmt (Assign p e) =
              on_seq _ _ _ _ _ _ (on_expr e) (λ stored. on_seq _ _ _ _ _ _ (on_place p) (λ place. dropped _ _ _ (on_local _ _)))
          on_stmt (Eval e) = on_dropped e
          on_stmt (CopyBytes source target count) =
              on_seq _ _ _ _ _ _ (on_expr source) (λ from. on_seq _ _ _ _ _ _ (on_expr target) (λ to.
              on_seq _ _ _ _ _ _ (on_expr count) (λ bytes. dropped _ _ _ (on_local _ _))))
          on_stmt (If condition if_true if_false) =
              on_seq _ _ _ _ _ _ (on_expr condition) (λ value. on_seq _ _ _ _ _ _ (on_tests value) (λ test.
              on_either _ test _ _ _ _ (on_stmts if_true) (on_stmts if_false)))
          on_stmt (Loop label body) = on_rounds _ _ _ _ (λ _. on_seq _ _ _ _ _ _ (on_stmts body) (on_turn label)) tt
          on_stmt (Block label body) = on_seq _ _ _ _ _ _ (on_stmts body) (on_block label)
          on_stmt (Break label) = on_pure _ _
          on_stmt (Continue label) = on_pure _ _
          on_stmt (Match e cases other) = on_seq _ _ _ _ _ _ (on_expr e) (λ value. on_arms value cases (run_stmts one other) (run_stmts two other) (on_stmts other))
          on_stmt (Return None) = on_pure _ _
          on_stmt (Return (Some e)) = on_seq _ _ _ _ _ _ (on_expr e) (λ value. on_pure _ _)

          pub on_stmts : (ss : Stmts) → L Flow (run_stmts one ss) (run_stmts two ss)
          on_stmts no_stmts = on_pure _ _
          on_stmts (more_stmts s ss) = on_seq _ _ _ _ _ _ (on_stmt s) (on_then (run_stmts one ss) (run_stmts two ss) (on_stmts ss))

          pub on_arms : (value : Typed) (cases : Arms) (other later_other : Run Flow) → L Flow other later_other →
              L Flow (run_arms one value cases other) (run_arms two value cases later_other)
          on_arms value no_arms other later_other h = h
          on_arms value (more_arms (LiteralArm number ty body) others) other later_other h =
              on_either _ (is_arm number value) _ _ _ _ (on_stmts body) (on_arms value others other later_other h)

    -- ---- functions and the program

    pub on_body : (modules : List ModuleTree) (bodies later : Bodies) → Related bodies later → (fun : FunctionTree) (args : List Typed) →
        L (Option Typed) (run_function modules bodies fun args) (run_function modules later fun args)
    on_body modules bodies later related fun args =
        on_seq _ _ _ _ _ _ (on_params modules fun.params args) (λ params.
        on_seq _ _ _ _ _ _ (on_locals modules fun.locals) (λ locals.
        on_seq _ _ _ _ _ _ (on_stmts bodies later related modules (params ++ locals) fun.body) (λ flow.
        on_seq _ _ _ _ _ _ (on_local _ _) (λ _. on_pure _ _))))

    on_initialisers : (bodies later : Bodies) → Related bodies later → (units : List ModuleTree) → L (Unit {0}) (run_initialisers bodies units) (run_initialisers later units)
    on_initialisers bodies later related [] = on_pure _ tt
    on_initialisers bodies later related (unit ∷ others) =
        on_seq _ _ _ _ _ _ (on_found bodies later related [] _) (λ _. on_initialisers bodies later related others)

    on_entry : (bodies later : Bodies) → Related bodies later → (unit : Option ModuleTree) → L (Option Typed) (run_entry bodies unit) (run_entry later unit)
    on_entry bodies later related None = on_fails _ cause.WrongCall
    on_entry bodies later related (Some unit) = on_found bodies later related [] _

    on_status : (value : Value) → L (Unit {0}) (exits_with value) (exits_with value)
    on_status (Whole status) = on_ends _ status
    on_status Null = on_fails _ cause.WrongCall
    on_status (Object at) = on_fails _ cause.WrongCall
    on_status (Function number) = on_fails _ cause.WrongCall

    on_exits : (given : Option Typed) → L (Unit {0}) (exits given) (exits given)
    on_exits None = on_fails _ cause.WrongCall
    on_exits (Some value) = on_status value.value

    pub on_main : (whole : CrateTree) (bodies later : Bodies) → Related bodies later → L (Unit {0}) (run_main whole bodies) (run_main whole later)
    on_main whole bodies later related =
        on_seq _ _ _ _ _ _ (on_statics whole.modules (statics_of whole.modules)) (λ _.
        on_seq _ _ _ _ _ _ (on_initialisers bodies later related whole.modules) (λ _.
        on_seq _ _ _ _ _ _ (on_entry bodies later related (slice_get whole.modules whole.entry)) on_exits))
