-- How statements run in which a call stands (the Rust Reference, "Call expressions" and "Expression statements").
use Rattle.std.proofs.Common.{◌≡◌, ℕ, Bool, true, false, if◌then◌else◌, List, [], ◌∷◌, Option, Some, None, Result, Ok, Err, refl, ap, ◌∙◌}
use Rattle.cr_runs.proofs.Rules.{bind_bind}
use Rattle.cr_runs.specs.Runs.{Ran, came, halted, bad, out, bind}
use Rattle.cr_world.specs.World.{World, Stop}
use Rattle.lift_does.proofs.Around.{Around, runs}
use Rattle.lift_does.proofs.Runs.{flow_behaves}
use Rattle.lift_forms.specs.Operators.{as_type}
use Rattle.lift_forms_laws.specs.Gives.{GivesAt}
use Rattle.mem_bytes.specs.declared.value.Value.TheVariants.{Code as Function}
use Rattle.rs_mean.specs.Calls.{store}
use Rattle.rs_mean.specs.Lookups.{Callee, own, own_signature, callee_at, function_with}
use Rattle.rs_mean.specs.Run.{Frame, Flow, normal, call_found, call_at, call_pointed, called_as, retyped, unwrapped, the_value, run_place, run_expr, run_exprs, run_dropped, run_call_by, goes_on, then_on}
use Rattle.rs_mean.specs.Scalars.{same_type}
use Rattle.rs_mean.specs.Values.{Typed, cast_of, transmuted}
use Rattle.rs_mean.specs.World.{Run, pure, seq, either, fails, or_fails}
use Rattle.rs_mean.specs.declared.cause.Cause.{Cause}
use Rattle.rs_mean.specs.declared.cause.Cause.TheVariants.{WrongCall}
use Rattle.rs_mean_frames.proofs.Behaving.{behaves_pure, behaves_fails, behaves_local, behaves_seq}
use Rattle.rs_mean_frames.proofs.Framed.{pieces_behave}
use Rattle.rs_mean_frames.specs.Behave.{Behaves}
use Rattle.rs_text.specs.Tree.{Ty, Integer, Boolean, Void, Pointer, Array, Code, Record, Place, Expr, Cast, Transmute, Call as CallTree, CallBy, Exprs, Tys, OptionTy, FunctionTree, Assign, Eval}

-- ---- a value in another type

-- what a cast makes of a value, or leaves of it
abbrev pub cast_if : Bool → Ty → Typed → Run Typed
cast_if true to value = pure value
cast_if false to value = or_fails (cast_of to value)

abbrev pub transmuted_if : Bool → Ty → Typed → Run Typed
transmuted_if true to value = pure value
transmuted_if false to value = or_fails (transmuted to value)

abbrev pub passes : (from to : Ty) → Typed → Run Typed
passes from (Integer which) value = cast_if (same_type from (Integer which)) (Integer which) value
passes from Boolean value = pure value
passes from Void value = pure value
passes from (Pointer target) value = cast_if (same_type from (Pointer target)) (Pointer target) value
passes from (Array element size) value = pure value
passes from (Code params result) value = transmuted_if (same_type from (Code params result)) (Code params result) value
passes from (Record m x) value = pure value

or_fails_behaves : (found : Result Typed Cause) → Behaves Typed (or_fails found)
or_fails_behaves (Ok value) = behaves_pure Typed value
or_fails_behaves (Err why) = behaves_fails Typed why

cast_behaves : (test : Bool) (to : Ty) (value : Typed) → Behaves Typed (cast_if test to value)
cast_behaves true to value = behaves_pure Typed value
cast_behaves false to value = or_fails_behaves (cast_of to value)

transmuted_behaves : (test : Bool) (to : Ty) (value : Typed) → Behaves Typed (transmuted_if test to value)
transmuted_behaves true to value = behaves_pure Typed value
transmuted_behaves false to value = or_fails_behaves (transmuted to value)

passes_behaves : (from to : Ty) (value : Typed) → Behaves Typed (passes from to value)
passes_behaves from (Integer which) value = cast_behaves (same_type from (Integer which)) (Integer which) value
passes_behaves from Boolean value = behaves_pure Typed value
passes_behaves from Void value = behaves_pure Typed value
passes_behaves from (Pointer target) value = cast_behaves (same_type from (Pointer target)) (Pointer target) value
passes_behaves from (Array element size) value = behaves_pure Typed value
passes_behaves from (Code params result) value = transmuted_behaves (same_type from (Code params result)) (Code params result) value
passes_behaves from (Record m x) value = behaves_pure Typed value

value_behaves : (given : Option Typed) → Behaves Typed (the_value given)
value_behaves None = behaves_fails Typed _
value_behaves (Some value) = behaves_pure Typed value

-- nothing behind a piece
bind_pure : {A : Type 0} (r : Ran (Stop Cause) World A) → r ≡ bind r pure
unfolding pure
bind_pure (came value world left) = refl
bind_pure (halted status world) = refl
bind_pure (bad why world) = refl
bind_pure (out world) = refl

module _ (frame : Frame) where
  cast_passes : (test : Bool) (to : Ty) (e : Expr) (world : World) (units : ℕ) → run_expr frame (if test then e else Cast e to) world units ≡ bind (run_expr frame e world units) (cast_if test to)
  unfolding seq
  cast_passes true to e world units = bind_pure (run_expr frame e world units)
  cast_passes false to e world units = refl

  transmute_passes : (test : Bool) (from to : Ty) (e : Expr) (world : World) (units : ℕ) → run_expr frame (if test then e else Transmute from to e) world units ≡ bind (run_expr frame e world units) (transmuted_if test to)
  unfolding seq
  transmute_passes true from to e world units = bind_pure (run_expr frame e world units)
  transmute_passes false from to e world units = refl

  -- an expression in another type, whatever else it does
  pub passes_runs : (from to : Ty) (e : Expr) (world : World) (units : ℕ) → run_expr frame (as_type from to e) world units ≡ bind (run_expr frame e world units) (passes from to)
  passes_runs from (Integer which) e world units = cast_passes (same_type from (Integer which)) (Integer which) e world units
  passes_runs from Boolean e world units = bind_pure (run_expr frame e world units)
  passes_runs from Void e world units = bind_pure (run_expr frame e world units)
  passes_runs from (Pointer target) e world units = cast_passes (same_type from (Pointer target)) (Pointer target) e world units
  passes_runs from (Array element size) e world units = bind_pure (run_expr frame e world units)
  passes_runs from (Code params result) e world units = transmute_passes (same_type from (Code params result)) from (Code params result) e world units
  passes_runs from (Record m x) e world units = bind_pure (run_expr frame e world units)

-- ---- calls

module _ (x : Around) where
  -- the result of a call goes to a place, in the type of that
  abbrev pub stored_behind : (from to : Ty) → Place → Option Typed → Run Flow
  stored_behind from to p given =
      seq (seq (the_value given) (passes from to)) (λ stored. seq (seq (run_place x.frame p) (λ place. seq (store place stored.value) goes_on)) (then_on (pure normal)))

  -- and where it is dropped nothing is left to do
  abbrev pub goes_on_behind : Option Typed → World → ℕ → Ran (Stop Cause) World Flow
  goes_on_behind given after left = came normal after left

  -- ---- a call, however it is written

  module _ (e : Expr) (world : World) (called : ℕ → Ran (Stop Cause) World (Option Typed)) where
    pub dropped_from : ((units : ℕ) → run_dropped x.frame e world units ≡ bind (called units) goes_on) → (units : ℕ) → runs x (Eval e ∷ []) world units ≡ bind (called units) goes_on_behind
    unfolding seq pure
    dropped_from comes units =
        ap (λ (r : Ran (Stop Cause) World Flow). bind r (then_on (pure normal))) (comes units) ∙ bind_bind (called units) goes_on (then_on (pure normal))

    pub stored_from : ((units : ℕ) → run_expr x.frame e world units ≡ bind (called units) the_value) → (from to : Ty) (p : Place) (units : ℕ) → runs x (Assign p (as_type from to e) ∷ []) world units ≡ bind (called units) (stored_behind from to p)
    unfolding seq pure
    stored_from comes from to p units =
        ap (λ (r : Ran (Stop Cause) World Typed). bind (bind r (λ stored. seq (run_place x.frame p) (λ place. seq (store place stored.value) goes_on))) (then_on (pure normal)))
        (passes_runs x.frame from to e world units ∙ ap (λ (r : Ran (Stop Cause) World Typed). bind r (passes from to)) (comes units))
        ∙ bind_bind (bind (bind (called units) the_value) (passes from to)) (λ stored. seq (run_place x.frame p) (λ place. seq (store place stored.value) goes_on)) (then_on (pure normal))
        ∙ ap (λ (r : Ran (Stop Cause) World Typed). bind r (λ stored. seq (seq (run_place x.frame p) (λ place. seq (store place stored.value) goes_on)) (then_on (pure normal))))
        (bind_bind (called units) the_value (passes from to))
        ∙ bind_bind (called units) (λ given. seq (the_value given) (passes from to)) (λ stored. seq (seq (run_place x.frame p) (λ place. seq (store place stored.value) goes_on)) (then_on (pure normal)))

  -- of what a path names, with arguments that are given at once
  module _ (m f : List ℕ) (args : Exprs) (values : List Typed) (callee : Callee) (world : World) (found : callee_at x.frame.modules m f ≡ Some callee) (comes : (units : ℕ) → run_exprs x.frame args world units ≡ came values world units) where
    abbrev called : ℕ → Ran (Stop Cause) World (Option Typed)
    called units = call_found x.frame.bodies values (Some callee) world units

    found_runs : {A : Type 0} (next : Option Typed → Run A) (units : ℕ) → bind (run_exprs x.frame args world units) (λ given. seq (call_at x.frame.modules x.frame.bodies m f given) next) ≡ bind (called units) next
    unfolding seq
    found_runs next units =
        ap (λ (r : Ran (Stop Cause) World (List Typed)). bind r (λ given. seq (call_at x.frame.modules x.frame.bodies m f given) next)) (comes units)
        ∙ ap (λ (one : Option Callee). bind (call_found x.frame.bodies values one world units) next) found

    call_runs : (units : ℕ) → run_expr x.frame (CallTree m f args) world units ≡ bind (called units) the_value
    unfolding seq
    call_runs units = found_runs the_value units

    drop_runs : (units : ℕ) → run_dropped x.frame (CallTree m f args) world units ≡ bind (called units) goes_on
    unfolding seq
    drop_runs units = found_runs goes_on units

    pub dropped_runs : (units : ℕ) → runs x (Eval (CallTree m f args) ∷ []) world units ≡ bind (called units) goes_on_behind
    dropped_runs = dropped_from (CallTree m f args) world called drop_runs

    pub stored_runs : (from to : Ty) (p : Place) (units : ℕ) → runs x (Assign p (as_type from to (CallTree m f args)) ∷ []) world units ≡ bind (called units) (stored_behind from to p)
    stored_runs = stored_from (CallTree m f args) world called call_runs

  -- of what a pointer points to
  module _ (e : Expr) (args : Exprs) (params : Tys) (result : OptionTy) (place : ℕ) (tree : FunctionTree) (values : List Typed) (world : World) (gives : GivesAt x.frame world e (Code params result) (Function place))
      (at_place : function_with x.frame.modules place ≡ Some tree) (comes : (units : ℕ) → run_exprs x.frame args world units ≡ came values world units) (fits : called_as params result (own_signature tree) ≡ true) where
    -- its result has the type of the pointer
    abbrev pub pointed_run : ℕ → Ran (Stop Cause) World (Option Typed)
    pointed_run units = bind (call_found x.frame.bodies values (Some (own tree)) world units) (λ given after left. came (retyped result given) after left)

    is_pointed : (units : ℕ) → call_pointed x.frame.bodies params result values (Some tree) world units ≡ pointed_run units
    unfolding seq pure
    is_pointed units = ap (λ (b : Bool). either b (seq (call_found x.frame.bodies values (Some (own tree))) (λ given. pure (retyped result given))) (fails WrongCall) world units) fits

    pointed_from : {A : Type 0} (next : Option Typed → Run A) (units : ℕ) →
        seq (run_expr x.frame e) (λ pointer. seq (unwrapped x.frame.modules pointer) (λ pointed. seq (run_exprs x.frame args) (λ given. seq (call_pointed x.frame.bodies pointed.params pointed.result given pointed.fun) next))) world units ≡ bind (pointed_run units) next
    unfolding seq pure
    pointed_from next units =
        ap (λ (r : Ran (Stop Cause) World Typed). bind r (λ pointer. seq (unwrapped x.frame.modules pointer) (λ pointed. seq (run_exprs x.frame args) (λ given. seq (call_pointed x.frame.bodies pointed.params pointed.result given pointed.fun) next)))) (gives.runs units)
        ∙ ap (λ (fun : Option FunctionTree). bind (run_exprs x.frame args world units) (λ given. seq (call_pointed x.frame.bodies params result given fun) next)) at_place
        ∙ ap (λ (r : Ran (Stop Cause) World (List Typed)). bind r (λ given. seq (call_pointed x.frame.bodies params result given (Some tree)) next)) (comes units)
        ∙ ap (λ (r : Ran (Stop Cause) World (Option Typed)). bind r next) (is_pointed units)

    call_by_runs : (units : ℕ) → run_expr x.frame (CallBy e args) world units ≡ bind (pointed_run units) the_value
    call_by_runs units = pointed_from the_value units

    runs_by : (units : ℕ) → run_call_by x.frame e args world units ≡ pointed_run units
    unfolding seq pure
    runs_by units =
        ap (λ (r : Ran (Stop Cause) World Typed). bind r (λ pointer. seq (unwrapped x.frame.modules pointer) (λ pointed. seq (run_exprs x.frame args) (λ given. call_pointed x.frame.bodies pointed.params pointed.result given pointed.fun)))) (gives.runs units)
        ∙ ap (λ (fun : Option FunctionTree). bind (run_exprs x.frame args world units) (λ given. call_pointed x.frame.bodies params result given fun)) at_place
        ∙ ap (λ (r : Ran (Stop Cause) World (List Typed)). bind r (λ given. call_pointed x.frame.bodies params result given (Some tree))) (comes units)
        ∙ is_pointed units

    drop_by_runs : (units : ℕ) → run_dropped x.frame (CallBy e args) world units ≡ bind (pointed_run units) goes_on
    unfolding seq
    drop_by_runs units = ap (λ (r : Ran (Stop Cause) World (Option Typed)). bind r goes_on) (runs_by units)

    pub dropped_by_runs : (units : ℕ) → runs x (Eval (CallBy e args) ∷ []) world units ≡ bind (pointed_run units) goes_on_behind
    dropped_by_runs = dropped_from (CallBy e args) world pointed_run drop_by_runs

    pub stored_by_runs : (from to : Ty) (p : Place) (units : ℕ) → runs x (Assign p (as_type from to (CallBy e args)) ∷ []) world units ≡ bind (pointed_run units) (stored_behind from to p)
    stored_by_runs = stored_from (CallBy e args) world pointed_run call_by_runs

  pub stored_behaves : (from to : Ty) (p : Place) (given : Option Typed) → Behaves Flow (stored_behind from to p given)
  stored_behaves from to p given =
      behaves_seq Typed Flow (seq (the_value given) (passes from to)) _ (behaves_seq Typed Typed (the_value given) (passes from to) (value_behaves given) (passes_behaves from to)) (λ stored.
      behaves_seq Flow Flow _ (then_on (pure normal))
      (behaves_seq _ Flow (run_place x.frame p) _ (pieces_behave.place x.frame x.bodies p) (λ place.
      behaves_seq (Unit {0}) Flow (store place stored.value) goes_on (behaves_local (Unit {0}) _) (λ _. behaves_pure Flow normal)))
      (flow_behaves x []))
