-- What the crate passes to an external function: each argument in the type of its parameter, and those that follow as they are (ISO C99, 6.5.2.2p6 and p7).
use Rattle.std.proofs.Common.{◌≡◌, ℕ, Bool, true, false, if◌then◌else◌, ◌&&◌, List, [], ◌∷◌, Some, Ok, refl, sym, subst, ◌∙◌}
use Rattle.cr_base.specs.declared.scalar.Scalar.{Scalar}
use Rattle.cr_runs.specs.Runs.{came}
use Rattle.cr_world.specs.World.{World, blocks_of}
use Rattle.cx_core.specs.Conversions.{scalar_of as c_scalar_of}
use Rattle.cx_core.specs.Trees.{CProgram, form_of_type, CExpr, CExprs, no_exprs, more_exprs, type_of}
use Rattle.cx_core.specs.Typing.{AreTyped}
use Rattle.cx_mean.specs.Calls.{is_missing, all_given}
use Rattle.cx_mean.specs.Operands.{CValue, COperand}
use Rattle.cx_mean.specs.State.{values_of_args}
use Rattle.cx_typed_work.proofs.Given.{value_given}
use Rattle.lift_calls.specs.Calls.{AreHanded}
use Rattle.lift_does.proofs.Arguments.{ArgsGiven}
use Rattle.lift_does.proofs.ArgumentsRun.{ParamFits, ArgumentRuns, argument_by, argument_runs, passed_as, all_there}
use Rattle.lift_does.proofs.Around.{Around}
use Rattle.lift_does.proofs.Nodes.{GivesUsed}
use Rattle.lift_does.proofs.RecordTypes.{scalar_no_record}
use Rattle.lift_does.specs.Outers.{TakesAll}
use Rattle.lift_exprs.specs.Calls.{Argument, argument_of, as_params, as_they_are}
use Rattle.lift_exprs.specs.Lifted.{lifted, lifted_args}
use Rattle.lift_exprs.specs.Names.{type_in}
use Rattle.lift_forms.proofs.SameTypes.{same_itself}
use Rattle.cx_typed_work.specs.Operands.{IsGiven}
use Rattle.lift_exprs.specs.Written.{address_of_given}
use Rattle.lift_forms.specs.Given.{Given}
use Rattle.lift_forms.specs.Operators.{as_type, given_value}
use Rattle.lift_forms_laws.proofs.Runs.{seq_is, pure_is}
use Rattle.lift_held.specs.Held.{is_record, operand_before, some_holds_call}
use Rattle.lift_stands.specs.Stands.{Images}
use Rattle.rs_mean.specs.Calls.{accepts}
use Rattle.rs_mean.specs.Run.{run_expr, run_exprs}
use Rattle.rs_mean.specs.Scalars.{scalar_of, same_type, alike}
use Rattle.rs_mean.specs.Values.{Typed, typed}
use Rattle.rs_mean.specs.World.{seq, pure}
use Rattle.rs_text.specs.Tree.{Ty, Integer, Boolean, Void, Pointer, Array, Code, Record, Tys, no_tys, more_tys, tys, Expr, Cast, Transmute, exprs}

-- a value in its own type is written as it is
itself : (from : Ty) (e other : Expr) (test : Bool) → test ≡ true → (if test then e else other) ≡ e
itself from e other true is = refl
itself from e other false is = cc (is)

as_itself : (from : Ty) (e : Expr) → as_type from from e ≡ e
as_itself (Integer which) e = itself (Integer which) e (Cast e (Integer which)) (same_type (Integer which) (Integer which)) (same_itself (Integer which))
as_itself Boolean e = refl
as_itself Void e = refl
as_itself (Pointer target) e = itself (Pointer target) e (Cast e (Pointer target)) (same_type (Pointer target) (Pointer target)) (same_itself (Pointer target))
as_itself (Array element size) e = refl
as_itself (Code params result) e = itself (Code params result) e (Transmute (Code params result) (Code params result) e) (same_type (Code params result) (Code params result)) (same_itself (Code params result))
as_itself (Record m y) e = refl

module _ (x : Around) where
  -- the parameters that there are fit the arguments in front
  abbrev pub FrontFits : CExprs → Tys → Type 0
  FrontFits args no_tys = Unit {0}
  FrontFits no_exprs (more_tys param params) = ⊥
  FrontFits (more_exprs first others) (more_tys param params) = ParamFits x (is_record (type_of first)) first param × FrontFits others params

  -- what is passed has the scalar of its argument
  abbrev pub HaveScalars : CExprs → List Typed → Type 0
  HaveScalars no_exprs values = Unit {0}
  HaveScalars (more_exprs first others) [] = ⊥
  HaveScalars (more_exprs first others) (one ∷ rest) = ((kind : Scalar) → c_scalar_of x.home.program.types (form_of_type (type_of first)) ≡ Some kind → scalar_of one.ty ≡ Some kind) × HaveScalars others rest

  pub record OuterRan (images : Images) (world : World) (args : CExprs) (list : List Argument) (params : List Ty) (variadic : Bool) (of_c : List CValue) : Type 0 where
    pub values : List Typed
    pub runs : (units : ℕ) → run_exprs x.frame (exprs (as_params (tys params) list)) world units ≡ came values world units
    pub handed : AreHanded images (blocks_of world) of_c values
    pub accepted : accepts params variadic values ≡ true
    pub scalars : HaveScalars args values

  param_scalar : (record_is : Bool) (first : CExpr) (param : Ty) → is_record (type_of first) ≡ record_is → ParamFits x record_is first param → (kind : Scalar) → c_scalar_of x.home.program.types (form_of_type (type_of first)) ≡ Some kind → scalar_of param ≡ Some kind
  param_scalar false first param is fits kind e = fits kind e
  param_scalar true first param is fits kind e = let clash : true ≡ false = sym is ∙ scalar_no_record x.home.program.types (type_of first) kind e in cc (clash)

  -- a type of its own
  abbrev own_by : Bool → CExpr → Ty
  own_by record_is first = if record_is then Pointer (type_in x.names (type_of first)) else type_in x.names (type_of first)

  own_fits : (record_is : Bool) (first : CExpr) → is_record (type_of first) ≡ record_is → ParamFits x record_is first (own_by record_is first)
  own_fits true first is = (type_in x.names (type_of first), refl)
  own_fits false first is = λ kind e. x.means.scalars (type_of first) kind (subst (λ (program : CProgram). c_scalar_of program.types (form_of_type (type_of first)) ≡ Some kind) x.means.program e)

  both_true : (a b : Bool) → a ≡ true → b ≡ true → (a && b) ≡ true
  both_true a b is too = rw (is) too

  -- one that is passed as it is
  trailing_runs : (record_is : Bool) (last : Images) (later : World) (first : CExpr) (given : Given) (of_c : CValue) → is_record (type_of first) ≡ record_is → IsGiven x.home.program first of_c → is_missing of_c ≡ false → GivesUsed x true last later first given of_c →
      ArgumentRuns x last later (own_by record_is first) (argument_by x record_is first given).passed of_c
  trailing_runs true last later first given of_c same is there gave =
      subst (λ (e : Expr). ArgumentRuns x last later (Pointer (type_in x.names (type_of first))) e of_c) (as_itself (Pointer (type_in x.names (type_of first))) (address_of_given given)) (argument_runs x true last later first given (own_by true first) of_c same (own_fits true first same) is there gave)
  trailing_runs false last later first given of_c same is there gave =
      subst (λ (e : Expr). ArgumentRuns x last later (type_in x.names (type_of first)) e of_c) (as_itself (type_in x.names (type_of first)) (given_value given)) (argument_runs x false last later first given (own_by false first) of_c same (own_fits false first same) is there gave)

  -- one argument, behind which others run
  more_run : (last : Images) (later : World) (passed : Expr) (param : Ty) (of_c : CValue) (rest : List Expr) (values : List Typed) → (front : ArgumentRuns x last later param passed of_c) → ((units : ℕ) → run_exprs x.frame (exprs rest) later units ≡ came values later units) →
      (units : ℕ) → run_exprs x.frame (exprs (passed ∷ rest)) later units ≡ came (typed param front.given ∷ values) later units
  more_run last later passed param of_c rest values front behind units =
      seq_is (run_expr x.frame passed) (λ value. seq (run_exprs x.frame (exprs rest)) (λ others. pure (value ∷ others))) later units (typed param front.given) (front.gives.runs units)
      ∙ seq_is (run_exprs x.frame (exprs rest)) (λ others. pure (typed param front.given ∷ others)) later units values (behind units)
      ∙ pure_is (typed param front.given ∷ values) later units

  pub outer_run : (last : Images) (later : World) (args : CExprs) (next : ℕ) (params : List Ty) (variadic : Bool) (operands all : List COperand) → AreTyped x.home args → FrontFits args (tys params) → TakesAll (tys params) variadic args → ArgsGiven x last later args next operands →
      all_given operands ≡ Ok all → OuterRan last later args (lifted_args x.names args next).list params variadic (values_of_args operands)
  outer_run last later no_exprs next [] variadic [] all typed_args fit takes given e = record { values = []; runs = λ units. pure_is [] later units; handed = tt; accepted = refl; scalars = tt }
  outer_run last later no_exprs next (param ∷ params) variadic operands all typed_args fit takes given e = absurd takes
  outer_run last later no_exprs next [] variadic (one ∷ rest) all typed_args fit takes given e = absurd given
  outer_run last later (more_exprs first others) next params variadic [] all typed_args fit takes given e = absurd given
  outer_run last later (more_exprs first others) next (param ∷ params) variadic (one ∷ rest) all typed_args fit takes given e =
      let written = lifted x.names (operand_before (some_holds_call others)) first next in
      let parts = all_there x one rest all e in
      let front = argument_runs x (is_record (type_of first)) last later first written.given param one.value refl fit.0 (value_given x.home first one.value typed_args.0 given.0.given) parts.there given.1 in
      let behind = outer_run last later others written.next params variadic rest parts.rest typed_args.1 fit.1 takes given.2 parts.rest_is in
      record {
        values = typed param front.given ∷ behind.values;
        runs = more_run last later (passed_as x (argument_of x.names first written.given) param) param one.value _ behind.values front behind.runs;
        handed = (front.handed, behind.handed);
        accepted = both_true (alike param param) _ front.passes behind.accepted;
        scalars = (param_scalar (is_record (type_of first)) first param refl fit.0, behind.scalars);
      }
  outer_run last later (more_exprs first others) next [] variadic (one ∷ rest) all typed_args fit takes given e =
      let written = lifted x.names (operand_before (some_holds_call others)) first next in
      let parts = all_there x one rest all e in
      let its = own_fits (is_record (type_of first)) first refl in
      let own = own_by (is_record (type_of first)) first in
      let front = trailing_runs (is_record (type_of first)) last later first written.given one.value refl (value_given x.home first one.value typed_args.0 given.0.given) parts.there given.1 in
      let behind = outer_run last later others written.next [] variadic rest parts.rest typed_args.1 tt (left_over others takes) given.2 parts.rest_is in
      record {
        values = typed own front.given ∷ behind.values;
        runs = more_run last later (argument_of x.names first written.given).passed own one.value (as_they_are (lifted_args x.names others written.next).list) behind.values front behind.runs;
        handed = (front.handed, behind.handed);
        accepted = takes;
        scalars = (param_scalar (is_record (type_of first)) first own refl its, behind.scalars);
      }
    where
      left_over : (left : CExprs) → variadic ≡ true → TakesAll no_tys variadic left
      left_over no_exprs is = tt
      left_over (more_exprs head tail) is = is
