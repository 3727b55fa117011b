-- What the crate passes for arguments that are given (ISO C99, 6.5.2.2p4; the Rust Reference, "Call expressions").
use Rattle.std.proofs.Common.{◌≡◌, inl, inr, ℕ, Bool, true, false, ◌&&◌, if◌then◌else◌, List, [], ◌∷◌, map, Some, Ok, Err, refl, sym, ap, subst, ◌∙◌}
use Rattle.cr_base.specs.declared.rule.URule.TheVariants.{U14}
use Rattle.cr_base.specs.declared.scalar.Scalar.{Scalar}
use Rattle.cr_runs.specs.Runs.{came}
use Rattle.cr_world.specs.World.{World, blocks_of}
use Rattle.cx_core.specs.Conversions.{scalar_of as c_scalar_of}
use Rattle.lift_does.proofs.RecordTypes.{scalar_no_record}
use Rattle.cx_core.specs.Trees.{CProgram, CTypes, CTy, ty, void, basic, enum_type, pointer, array, record_type, function, form_of_type, CExpr, CExprs, no_exprs, more_exprs, type_of}
use Rattle.cx_core.specs.Typing.{AreTyped}
use Rattle.cx_mean.specs.Calls.{is_missing, all_given}
use Rattle.cx_mean.specs.Operands.{breaks, CValue, scalar, cells, names, designates, designates_bits, missing, COperand}
use Rattle.cx_mean.specs.Settings.{scalar_in_type}
use Rattle.cx_mean.specs.State.{values_of_args}
use Rattle.cx_typed_work.proofs.Given.{value_given}
use Rattle.cx_typed_work.specs.Operands.{IsGiven, IsRecordForm}
use Rattle.lift_calls.specs.Calls.{IsHanded, AreHanded}
use Rattle.lift_calls.specs.Programs.{setting_in}
use Rattle.lift_does.proofs.Around.{Around}
use Rattle.lift_does.proofs.Arguments.{ArgsGiven}
use Rattle.lift_does.proofs.Nodes.{and_then_is, GivesUsed}
use Rattle.lift_does.proofs.Passed.{passed_gives}
use Rattle.lift_exprs.specs.Calls.{Argument, argument_of, as_params}
use Rattle.lift_exprs.specs.Lifted.{lifted, lifted_args}
use Rattle.lift_exprs.specs.Names.{type_in}
use Rattle.lift_exprs.specs.Written.{address_of_given}
use Rattle.lift_forms.specs.Given.{Given}
use Rattle.lift_forms.specs.Operators.{as_type, given_value}
use Rattle.lift_forms.proofs.SameTypes.{same_integer_itself}
use Rattle.lift_forms_laws.proofs.Operands.{as_type_gives, value_gives}
use Rattle.lift_forms_laws.proofs.Runs.{seq_is, pure_is}
use Rattle.lift_forms_laws.specs.Gives.{GivesAt}
use Rattle.lift_held.specs.Held.{is_record, operand_before, some_holds_call}
use Rattle.lift_stands.specs.Stands.{Images}
use Rattle.lift_stands_values.proofs.Ranges.{given_in_range}
use Rattle.mem_bytes.specs.declared.value.Value.{Value}
use Rattle.rs_mean.specs.Run.{run_expr, run_exprs}
use Rattle.rs_mean.specs.Calls.{accepts}
use Rattle.rs_mean.specs.Scalars.{scalar_of, alike}
use Rattle.rs_mean.specs.Values.{Typed, typed}
use Rattle.rs_mean.specs.World.{seq, pure}
use Rattle.rs_text.specs.Tree.{Ty, Integer, Boolean, Void, Pointer, Array, Code, Record, Tys, no_tys, more_tys, tys, Expr, exprs}

no_record_form : (type : CTy) → IsRecordForm (form_of_type type) → is_record type ≡ false → ⊥
no_record_form (ty (record_type number) is_const) is e = let clash : true ≡ false = e in cc (clash)
no_record_form (ty void is_const) is e = absurd is
no_record_form (ty (basic which) is_const) is e = absurd is
no_record_form (ty (enum_type number) is_const) is e = absurd is
no_record_form (ty (pointer to) is_const) is e = absurd is
no_record_form (ty (array element length) is_const) is e = absurd is
no_record_form (ty (function result params variadic) is_const) is e = absurd is

no_scalar_record : (types : CTypes) (type : CTy) (kind : Scalar) → c_scalar_of types (form_of_type type) ≡ Some kind → is_record type ≡ true → ⊥
no_scalar_record types type kind is e = let clash : true ≡ false = sym e ∙ scalar_no_record types type kind is in cc (clash)

-- a scalar type passes as itself
alike_itself : (ty : Ty) (kind : Scalar) → scalar_of ty ≡ Some kind → alike ty ty ≡ true
alike_itself (Integer which) kind e = same_integer_itself which
alike_itself Boolean kind e = refl
alike_itself (Pointer target) kind e = refl
alike_itself (Code params result) kind e = refl
alike_itself Void kind e = cc (e)
alike_itself (Array element size) kind e = cc (e)
alike_itself (Record m y) kind e = cc (e)

both_true : (one other : Bool) → one ≡ true → other ≡ true → (one && other) ≡ true
both_true one other is too = rw (is) too

module _ (x : Around) where
  -- a parameter has the scalar of its argument, or is a pointer to the structure or union
  abbrev pub ParamFits : Bool → CExpr → Ty → Type 0
  ParamFits true first param = (target : Ty) × (param ≡ Pointer target)
  ParamFits false first param = (kind : Scalar) → c_scalar_of x.home.program.types (form_of_type (type_of first)) ≡ Some kind → scalar_of param ≡ Some kind

  abbrev pub ParamsFit : CExprs → Tys → Type 0
  ParamsFit no_exprs no_tys = Unit {0}
  ParamsFit no_exprs (more_tys param params) = ⊥
  ParamsFit (more_exprs first others) no_tys = ⊥
  ParamsFit (more_exprs first others) (more_tys param params) = ParamFits (is_record (type_of first)) first param × ParamsFit others params

  -- ---- one argument

  pub record ArgumentRuns (images : Images) (world : World) (param : Ty) (e : Expr) (of_c : CValue) : Type 0 where
    pub given : Value
    pub gives : GivesAt x.frame world e param given
    pub handed : IsHanded images (blocks_of world) of_c given
    pub passes : alike param param ≡ true

  abbrev pub argument_by : Bool → CExpr → Given → Argument
  argument_by record_is first given =
      if record_is then record { ty = Pointer (type_in x.names (type_of first)); passed = address_of_given given }
      else record { ty = type_in x.names (type_of first); passed = given_value given }

  abbrev pub passed_as : Argument → Ty → Expr
  passed_as one param = as_type one.ty param one.passed

  pub argument_runs : (record_is : Bool) (last : Images) (later : World) (first : CExpr) (given : Given) (param : Ty) (of_c : CValue) → is_record (type_of first) ≡ record_is → ParamFits record_is first param → IsGiven x.home.program first of_c → is_missing of_c ≡ false →
      GivesUsed x true last later first given of_c → ArgumentRuns last later param (passed_as (argument_by record_is first given) param) of_c
  argument_runs false last later first given param (scalar one) no_record fits (inl is) there gave =
      let T = type_in x.names (type_of first) in
      let value = value_gives last x.frame later (record { ty = T; given = given }) one gave.stands in
      let kind_is : scalar_in_type (setting_in x.s) (type_of first) ≡ Some is.kind = subst (λ (program : CProgram). c_scalar_of program.types (form_of_type (type_of first)) ≡ Some is.kind) x.means.program is.kind_is in
      let range = given_in_range last is.kind one value.other value.below is.of_kind in
      record {
        given = value.other;
        gives = passed_gives last x.frame later T param is.kind (given_value given) value.other (x.means.scalars (type_of first) is.kind kind_is) (fits is.kind is.kind_is) range value.gives;
        handed = value.below;
        passes = alike_itself param is.kind (fits is.kind is.kind_is);
      }
  argument_runs true last later first given param (cells list from) of_record fits (inl is) there gave =
      let T = type_in x.names (type_of first) in
      record {
        given = gave.at;
        gives = subst (λ (t : Ty). GivesAt x.frame later (as_type (Pointer T) t (address_of_given given)) t gave.at) (sym fits.1)
            (as_type_gives last x.frame later (Pointer T) (Pointer fits.0) (address_of_given given) gave.at gave.gives refl);
        handed = (_, gave.holds);
        passes = subst (λ (t : Ty). alike t t ≡ true) (sym fits.1) refl;
      }
  argument_runs true last later first given param (scalar one) of_record fits (inl is) there gave = absurd (no_scalar_record x.home.program.types (type_of first) is.kind is.kind_is of_record)
  argument_runs false last later first given param (cells list from) no_record fits (inl is) there gave = absurd (no_record_form (type_of first) is.is_record no_record)
  argument_runs b last later first given param (scalar one) same fits (inr lacks) there gave = absurd lacks.1
  argument_runs b last later first given param (cells list from) same fits (inr lacks) there gave = absurd lacks.1
  argument_runs b last later first given param (names number) same fits (inl is) there gave = absurd is
  argument_runs b last later first given param (names number) same fits (inr lacks) there gave = absurd lacks.1
  argument_runs b last later first given param (designates to) same fits (inl is) there gave = absurd is
  argument_runs b last later first given param (designates to) same fits (inr lacks) there gave = absurd lacks.1
  argument_runs b last later first given param (designates_bits at bit width) same fits (inl is) there gave = absurd is
  argument_runs b last later first given param (designates_bits at bit width) same fits (inr lacks) there gave = absurd lacks.1
  argument_runs b last later first given param missing same fits is there gave = let clash : true ≡ false = there in cc (clash)

  -- ---- all of them

  pub record ArgsRun (images : Images) (world : World) (params : Tys) (list : List Argument) (of_c : List CValue) : Type 0 where
    pub values : List Typed
    pub runs : (units : ℕ) → run_exprs x.frame (exprs (as_params params list)) world units ≡ came values world units
    pub handed : AreHanded images (blocks_of world) of_c values
    pub types : tys (map (λ (one : Typed). one.ty) values) ≡ params
    pub accepted : accepts (map (λ (one : Typed). one.ty) values) false values ≡ true

  pub record AllThere (first : COperand) (others all : List COperand) : Type 0 where
    pub rest : List COperand
    pub rest_is : all_given others ≡ Ok rest
    pub there : is_missing first.value ≡ false

  pub all_there : (first : COperand) (others all : List COperand) → all_given (first ∷ others) ≡ Ok all → AllThere first others all
  all_there first others all e =
      let parts = and_then_is (all_given others) _ all e in
      record { rest = parts.0; rest_is = parts.1; there = by (is_missing first.value) parts.0 parts.2 }
    where
      by : (test : Bool) (rest : List COperand) → (if test then Err (breaks U14) else Ok (first ∷ rest)) ≡ Ok all → test ≡ false
      by true rest same = cc (same)
      by false rest same = refl

  -- where all have come, and none lacks a value, what is passed is handed
  pub args_run : (last : Images) (later : World) (args : CExprs) (next : ℕ) (params : Tys) (operands all : List COperand) → AreTyped x.home args → ParamsFit args params → ArgsGiven x last later args next operands → all_given operands ≡ Ok all →
      ArgsRun last later params (lifted_args x.names args next).list (values_of_args operands)
  args_run last later no_exprs next no_tys [] all typed_args fit given e = record { values = []; runs = λ units. pure_is [] later units; handed = tt; types = refl; accepted = refl }
  args_run last later no_exprs next (more_tys param params) operands all typed_args fit given e = absurd fit
  args_run last later (more_exprs first others) next no_tys operands all typed_args fit given e = absurd fit
  args_run last later no_exprs next no_tys (one ∷ rest) all typed_args fit given e = absurd given
  args_run last later (more_exprs first others) next (more_tys param params) [] all typed_args fit given e = absurd given
  args_run last later (more_exprs first others) next (more_tys param params) (one ∷ rest) all typed_args fit given e =
      let written = lifted x.names (operand_before (some_holds_call others)) first next in
      let parts = all_there one rest all e in
      let front = argument_runs (is_record (type_of first)) last later first written.given param one.value refl fit.0 (value_given x.home first one.value typed_args.0 given.0.given) parts.there given.1 in
      let behind = args_run last later others written.next params rest parts.rest typed_args.1 fit.1 given.2 parts.rest_is in
      let list = (lifted_args x.names others written.next).list in
      record {
        values = typed param front.given ∷ behind.values;
        runs = λ units.
            seq_is (run_expr x.frame (passed_as (argument_of x.names first written.given) param)) (λ value. seq (run_exprs x.frame (exprs (as_params params list))) (λ values. pure (value ∷ values))) later units (typed param front.given) (front.gives.runs units)
            ∙ seq_is (run_exprs x.frame (exprs (as_params params list))) (λ values. pure (typed param front.given ∷ values)) later units behind.values (behind.runs units)
            ∙ pure_is (typed param front.given ∷ behind.values) later units;
        handed = (front.handed, behind.handed);
        types = ap (more_tys param) behind.types;
        accepted = both_true (alike param param) _ front.passes behind.accepted;
      }
