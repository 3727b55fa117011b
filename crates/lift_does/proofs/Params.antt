-- The parameters of a function of the crate fit the arguments of a typed call (ISO C99, 6.2.7, 6.5.2.2p2 and 6.7.5.3p15).
use Rattle.std.proofs.Common.{◌≡◌, ℕ, Bool, true, false, Some, refl, sym, ap, subst, ◌∙◌}
use Rattle.std.proofs.lemmas.Bool.{and_parts}
use Rattle.cx_core.specs.Compatible.{AreCompatible, forms_agree, lists_agree, in_pairs}
use Rattle.cx_core.specs.Conversions.{scalar_of as c_scalar_of}
use Rattle.cx_core.specs.Trees.{CProgram, CTypes, CTy, CTyForm, ty, void, basic, enum_type, pointer, array, record_type, function, form_of_type, CTys, no_types, more_types, CExpr, CExprs, no_exprs, more_exprs, type_of}
use Rattle.cx_core.specs.Typing.{AreArguments}
use Rattle.cx_typed_work.proofs.AlikeValues.{alike_kind}
use Rattle.lift_does.proofs.ArgumentsRun.{ParamFits, ParamsFit}
use Rattle.lift_does.proofs.Around.{Around}
use Rattle.lift_held.specs.Held.{is_record}
use Rattle.rs_items.specs.Types.{passed, rust_type, rust_types}
use Rattle.rs_items.specs.Types.{is_record as is_passed, passed, rust_type, rust_types}
use Rattle.rs_mean.specs.Scalars.{scalar_of}

-- compatible types are both records, or neither is one
pub records_alike : (types : CTypes) (counts : ℕ → ℕ → Bool) (first second : CTyForm) (one other : Bool) → forms_agree types counts first second ≡ true → is_record (ty first one) ≡ is_passed (ty second other)
records_alike types counts void void one other e = refl
records_alike types counts (basic a) (basic b) one other e = refl
records_alike types counts (basic a) (enum_type b) one other e = refl
records_alike types counts (enum_type a) (basic b) one other e = refl
records_alike types counts (enum_type a) (enum_type b) one other e = refl
records_alike types counts (pointer a) (pointer b) one other e = refl
records_alike types counts (array a m) (array b n) one other e = refl
records_alike types counts (record_type a) (record_type b) one other e = refl
records_alike types counts (function a params more) (function b others rest) one other e = refl
records_alike types counts _ _ one other e = absurd cc

module _ (x : Around) where
  pub param_fits : (a b : CTy) (by : AreCompatible x.home.program.types a b) (f s : CTyForm) (const : Bool) (first : CExpr) (record_is : Bool) → is_record (type_of first) ≡ record_is → type_of first ≡ ty f false →
      forms_agree x.home.program.types (in_pairs by.pairs) f s ≡ true → ParamFits x record_is first (passed (is_passed (ty s const)) (rust_type x.names.types (ty s const)))
  param_fits a b by f s const first true is typed agrees =
      let passes : is_passed (ty s const) ≡ true = sym (records_alike x.home.program.types (in_pairs by.pairs) f s false const agrees) ∙ (ap is_record (sym typed) ∙ is) in
      (rust_type x.names.types (ty s const), ap (λ (b : Bool). passed b (rust_type x.names.types (ty s const))) passes)
  param_fits a b by f s const first false is typed agrees = λ kind kind_is.
      let passes : is_passed (ty s const) ≡ false = sym (records_alike x.home.program.types (in_pairs by.pairs) f s false const agrees) ∙ (ap is_record (sym typed) ∙ is) in
      let alike : c_scalar_of x.home.program.types f ≡ c_scalar_of x.home.program.types s = alike_kind x.home.program.types (ty f false) (ty s false) (record { pairs = by.pairs; good = by.good; meet = agrees }) in
      let of_param : c_scalar_of x.home.program.types s ≡ Some kind = sym alike ∙ (ap (λ (t : CTy). c_scalar_of x.home.program.types (form_of_type t)) (sym typed) ∙ kind_is) in
      subst (λ (b : Bool). scalar_of (passed b (rust_type x.names.types (ty s const))) ≡ Some kind) (sym passes)
      (x.means.scalars (ty s const) kind (subst (λ (program : CProgram). c_scalar_of program.types s ≡ Some kind) x.means.program of_param))

  pub params_fit : (a b : CTy) (by : AreCompatible x.home.program.types a b) (firsts seconds : CTys) (args : CExprs) → lists_agree x.home.program.types (in_pairs by.pairs) firsts seconds ≡ true →
      AreArguments x.home.program.types firsts false args → ParamsFit x args (rust_types x.names.types seconds)
  params_fit a b by no_types no_types no_exprs agree typed = tt
  params_fit a b by no_types no_types (more_exprs first others) agree typed = let clash : false ≡ true = typed.0 in cc (clash)
  params_fit a b by no_types (more_types second seconds) args agree typed = let clash : false ≡ true = agree in cc (clash)
  params_fit a b by (more_types (ty f is_const) firsts) no_types args agree typed = let clash : false ≡ true = agree in cc (clash)
  params_fit a b by (more_types (ty f is_const) firsts) (more_types (ty s const) seconds) no_exprs agree typed = absurd typed
  params_fit a b by (more_types (ty f is_const) firsts) (more_types (ty s const) seconds) (more_exprs first others) agree typed =
      let parts = and_parts (forms_agree x.home.program.types (in_pairs by.pairs) f s) (lists_agree x.home.program.types (in_pairs by.pairs) firsts seconds) agree in
      (param_fits a b by f s const first (is_record (type_of first)) refl typed.0 parts.0, params_fit a b by firsts seconds others parts.1 typed.1)
