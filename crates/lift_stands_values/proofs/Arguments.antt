-- Arguments of external functions.
use Rattle.std.proofs.Common.{◌≡◌, ℕ, true, false, List, [], ◌∷◌, map, Result, Ok, Err, refl, ap, ◌∙◌, subst}
use Rattle.cr_base.specs.declared.scalar.Scalar.{Scalar}
use Rattle.cr_base.specs.declared.scalar.Scalar.TheVariants.{Truth, Whole}
use Rattle.cr_world.specs.Held.{HeldFault}
use Rattle.cr_world.specs.Texts.{text_of}
use Rattle.cx_mean.specs.Calls.{number_argument, text_argument, argument_of, arguments, values_of}
use Rattle.cx_mean.specs.Operands.{CWhy, COperand, scalar, scalar_value}
use Rattle.cx_mean.specs.Settings.{CSetting, scalar_in_type}
use Rattle.cx_mean.specs.Values.{number_in}
use Rattle.ext_calls.specs.declared.call.Arg.{Arg}
use Rattle.ext_calls.specs.declared.call.Arg.TheVariants.{Whole as WholeArg, Text as TextArg}
use Rattle.lift_stands.specs.Stands.{Images, ValueBelow, StandsFor}
use Rattle.lift_stands.proofs.Forms.{number_below}
use Rattle.lift_stands_known.specs.Effects.{ValuesBelow}
use Rattle.lift_stands_known.proofs.Texts.{value_text}
use Rattle.lift_stands_values.specs.Given.{ArgumentsBelow}
use Rattle.lift_stands_values.proofs.Results.{scalar_ok, number_ok}
use Rattle.mem_bytes.specs.Access.{and_then}
use Rattle.mem_bytes.specs.Memory.{Blocks}
use Rattle.mem_bytes.specs.declared.value.Value.{Value}
use Rattle.mem_bytes.specs.declared.value.Value.TheVariants.{Whole as Number}
use Rattle.mem_bytes.proofs.Reached.{and_then_ok}
use Rattle.rs_mean.specs.Calls.{argued, as_text, argument_by, arguments_of, value_in}
use Rattle.rs_mean.specs.Scalars.{scalar_of}
use Rattle.rs_mean.specs.Values.{Typed}
use Rattle.rs_mean.specs.World.{or_cause, cause_of_held, then_try}
use Rattle.rs_text.specs.Tree.{Ty, Integer, Boolean, Void, Pointer, Array, Code as CodeTy, Record}
use Rattle.rs_text.specs.declared.integer.IntegerTy.TheVariants.{I8, I16, I32, I64, U8, U16, U32, U64, Isize, Usize}

module _ (images : Images) (memory others : Blocks) (stands : StandsFor images memory others) (value given : Value) (arg : Arg) (below : ValueBelow images value given) where
  number_argued : (kind : Scalar) → number_argument kind value ≡ Ok arg → argued kind given ≡ Ok arg
  number_argued kind e =
      let parts = and_then_ok (number_in value) (λ number. Ok (WholeArg kind number)) arg e in
      let is : value ≡ Number parts.0 = number_ok value parts.0 parts.1 in
      let there : given ≡ Number parts.0 = number_below images parts.0 given (subst (λ v. ValueBelow images v given) is below) in
      let same : WholeArg kind parts.0 ≡ arg = cc (parts.2) in
      ap (argued kind) there ∙ ap Ok same

  text_argued : (found : Result (List ℕ) HeldFault) → text_of memory value ≡ found → text_argument found ≡ Ok arg → as_text (or_cause cause_of_held (text_of others given)) ≡ Ok arg
  text_argued (Ok text) found e =
      let same : TextArg text ≡ arg = cc (e) in
      ap (λ r. as_text (or_cause cause_of_held r)) (value_text images memory others value given text stands below found) ∙ ap Ok same
  text_argued (Err fault) found e = cc

  argument_alike : (ty : Ty) → argument_of memory (scalar_of ty) value ≡ Ok arg → argument_by others ty given ≡ Ok arg
  argument_alike (Integer I8) e = number_argued (Whole 8 true) e
  argument_alike (Integer I16) e = number_argued (Whole 16 true) e
  argument_alike (Integer I32) e = number_argued (Whole 32 true) e
  argument_alike (Integer I64) e = number_argued (Whole 64 true) e
  argument_alike (Integer U8) e = number_argued (Whole 8 false) e
  argument_alike (Integer U16) e = number_argued (Whole 16 false) e
  argument_alike (Integer U32) e = number_argued (Whole 32 false) e
  argument_alike (Integer U64) e = number_argued (Whole 64 false) e
  argument_alike (Integer Isize) e = number_argued (Whole 64 true) e
  argument_alike (Integer Usize) e = number_argued (Whole 64 false) e
  argument_alike Boolean e = number_argued Truth e
  argument_alike (Pointer target) e = text_argued (text_of memory value) refl e
  argument_alike Void e = cc
  argument_alike (Array element size) e = cc
  argument_alike (CodeTy params result) e = cc
  argument_alike (Record m x) e = cc

pub arguments_seen : (setting : CSetting) (images : Images) (memory others : Blocks) (operands : List COperand) (given : List Typed) (args : List Arg) → StandsFor images memory others → ArgumentsBelow setting images operands given → arguments setting memory operands ≡ Ok args → arguments_of others given ≡ Ok args
arguments_seen setting images memory others [] [] args stands below e = cc
arguments_seen setting images memory others [] (first ∷ rest) args stands below e = absurd below
arguments_seen setting images memory others (operand ∷ operands) [] args stands below e = absurd below
arguments_seen setting images memory others (operand ∷ operands) (first ∷ rest) args stands below e =
    let kind = scalar_in_type setting operand.type in
    let next : Arg → Result (List Arg) CWhy = λ arg. and_then (arguments setting memory operands) (λ more. Ok (arg ∷ more)) in
    let value = and_then_ok (scalar_value operand.value) (λ one. and_then (argument_of memory kind one) next) args e in
    let arg = and_then_ok (argument_of memory kind value.0) next args value.2 in
    let others_seen = and_then_ok (arguments setting memory operands) (λ more. Ok (arg.0 ∷ more)) args arg.2 in
    let is : operand.value ≡ scalar value.0 = scalar_ok operand.value value.0 value.1 in
    let alike : argument_by others first.ty first.value ≡ Ok arg.0 = argument_alike images memory others stands value.0 first.value arg.0 (below.0.below value.0 is) first.ty (ap (λ k. argument_of memory k value.0) below.0.kind ∙ arg.1) in
    let rest_seen = arguments_seen setting images memory others operands rest others_seen.0 stands below.1 others_seen.1 in
    let same : arg.0 ∷ others_seen.0 ≡ args = cc (others_seen.2) in
    ap (λ r. then_try r (λ one. then_try (arguments_of others rest) (λ more. Ok (one ∷ more)))) alike
    ∙ ap (λ r. then_try r (λ more. Ok (arg.0 ∷ more))) rest_seen
    ∙ ap Ok same

pub values_given : (setting : CSetting) (images : Images) (operands : List COperand) (given : List Typed) (values : List Value) → ArgumentsBelow setting images operands given → values_of operands ≡ Ok values → ValuesBelow images values (map value_in given)
values_given setting images [] [] values below e =
    let same : [] ≡ values = cc in
    subst (λ (v : List Value). ValuesBelow images v []) same tt
values_given setting images [] (first ∷ rest) values below e = absurd below
values_given setting images (operand ∷ operands) [] values below e = absurd below
values_given setting images (operand ∷ operands) (first ∷ rest) values below e =
    let value = and_then_ok (scalar_value operand.value) (λ one. and_then (values_of operands) (λ more. Ok (one ∷ more))) values e in
    let more = and_then_ok (values_of operands) (λ more. Ok (value.0 ∷ more)) values value.2 in
    let is : operand.value ≡ scalar value.0 = scalar_ok operand.value value.0 value.1 in
    let same : value.0 ∷ more.0 ≡ values = cc (more.2) in
    subst (λ (v : List Value). ValuesBelow images v (map value_in (first ∷ rest))) same (below.0.below value.0 is, values_given setting images operands rest more.0 below.1 more.1)
