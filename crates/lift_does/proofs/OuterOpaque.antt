-- A call of a function whose effect isn't known is the same event in the crate, and has the same answer (ISO C99, 5.1.2.3p6; the Rust Reference, "External blocks").
use Rattle.std.proofs.Common.{◌≡◌, ℕ, ℤ, Bool, true, false, List, [], ◌∷◌, Option, Some, None, Result, Ok, Err, refl, sym, ap, subst, ◌∙◌}
use Rattle.cr_base.specs.Scalar.{converted}
use Rattle.cr_base.specs.declared.scalar.Scalar.{Scalar}
use Rattle.cr_base.specs.declared.scalar.Scalar.TheVariants as scalars
use Rattle.cr_runs.specs.Runs.{Ran, came, bind}
use Rattle.cr_world.specs.Texts.{text_of}
use Rattle.cr_world.specs.World.{World, Stop, Got, blocks_of, answered}
use Rattle.cx_mean.specs.Calls.{argument_of as c_argument_of, arguments, number_argument, text_argument}
use Rattle.cx_mean.specs.Operands.{CWhy, CValue, COperand, scalar_value}
use Rattle.cx_mean.specs.Settings.{CSetting, scalar_in_type}
use Rattle.cx_mean.specs.State.{values_of_args}
use Rattle.ext_calls.specs.declared.call.Arg.{Arg}
use Rattle.ext_calls.specs.declared.call.Arg.TheVariants.{Whole as WholeArg, Text as TextArg}
use Rattle.ext_calls.specs.declared.call.Call.{Call}
use Rattle.lift_calls.specs.Calls.{IsHanded, AreHanded}
use Rattle.lift_does.proofs.Nodes.{and_then_is}
use Rattle.lift_does.proofs.Operands.{scalar_is}
use Rattle.lift_does.proofs.Types.{IsNumberKind}
use Rattle.lift_forms_laws.proofs.Runs.{looks_is}
use Rattle.lift_stands.proofs.Forms.{number_below}
use Rattle.lift_stands.specs.Stands.{Images, ValueBelow, StandsFor}
use Rattle.lift_stands_known.proofs.Texts.{value_text}
use Rattle.mem_bytes.specs.Memory.{Blocks}
use Rattle.mem_bytes.specs.declared.value.Value.{Value}
use Rattle.mem_bytes.specs.declared.value.Value.TheVariants.{Whole, Null, Object, Code as Function}
use Rattle.rs_mean.specs.Calls.{argument_by, argued, as_text, arguments_of, event_in, answer_as, opaque_call}
use Rattle.rs_mean.specs.Lookups.{symbol_of}
use Rattle.rs_mean.specs.Scalars.{integer_scalar, scalar_of}
use Rattle.rs_mean.specs.Values.{Typed, typed}
use Rattle.rs_mean.specs.World.{pure, seq, tells, after_got, or_cause, cause_of_held, then_try}
use Rattle.rs_mean.specs.declared.cause.Cause.{Cause}
use Rattle.rs_text.specs.declared.integer.IntegerTy.TheVariants.{I8, I16, I32, I64, U8, U16, U32, U64, Isize, Usize}
use Rattle.rs_text.specs.Tree.{Ty, Integer, Boolean, Void, Pointer, Array, Code, Record, OuterTree}

-- ---- arguments

abbrev ok_arg : Arg → Result Arg CWhy
ok_arg one = Ok one

same_arg : (one other : Arg) → ok_arg one ≡ ok_arg other → one ≡ other
same_arg one other e = cc (e)

abbrev ok_cause : Arg → Result Arg Cause
ok_cause one = Ok one

abbrev ok_list : List Arg → Result (List Arg) CWhy
ok_list list = Ok list

abbrev ok_back : List Arg → Result (List Arg) Cause
ok_back list = Ok list

list_same : (one other : List Arg) → ok_list one ≡ ok_list other → one ≡ other
list_same one other e = cc (e)

-- a number
record IsNumber (kind : Scalar) (value : Value) (arg : Arg) : Type 0 where
  number : ℤ
  value_is : value ≡ Whole number
  arg_is : arg ≡ WholeArg kind number

number_of_arg : (kind : Scalar) (value : Value) (arg : Arg) → number_argument kind value ≡ Ok arg → IsNumber kind value arg
number_of_arg kind (Whole number) arg e = record { number = number; value_is = refl; arg_is = sym (same_arg (WholeArg kind number) arg e) }
number_of_arg kind Null arg e = cc (e)
number_of_arg kind (Object at) arg e = cc (e)
number_of_arg kind (Function number) arg e = cc (e)

text_found : (found : Result (List ℕ) _) (arg : Arg) → text_argument found ≡ Ok arg → (text : List ℕ) × (found ≡ Ok text) × (arg ≡ TextArg text)
text_found (Ok text) arg e = (text, refl, sym (same_arg (TextArg text) arg e))
text_found (Err why) arg e = cc (e)

integer_no : (which : _) (kind : Scalar) → scalar_of (Integer which) ≡ Some kind → ((w : ℕ) (s : Bool) → kind ≡ scalars.Whole w s → ⊥) → ⊥
integer_no I8 kind is never = let same : scalars.Whole 8 true ≡ kind = cc (is) in never 8 true (sym same)
integer_no I16 kind is never = let same : scalars.Whole 16 true ≡ kind = cc (is) in never 16 true (sym same)
integer_no I32 kind is never = let same : scalars.Whole 32 true ≡ kind = cc (is) in never 32 true (sym same)
integer_no I64 kind is never = let same : scalars.Whole 64 true ≡ kind = cc (is) in never 64 true (sym same)
integer_no U8 kind is never = let same : scalars.Whole 8 false ≡ kind = cc (is) in never 8 false (sym same)
integer_no U16 kind is never = let same : scalars.Whole 16 false ≡ kind = cc (is) in never 16 false (sym same)
integer_no U32 kind is never = let same : scalars.Whole 32 false ≡ kind = cc (is) in never 32 false (sym same)
integer_no U64 kind is never = let same : scalars.Whole 64 false ≡ kind = cc (is) in never 64 false (sym same)
integer_no Isize kind is never = let same : scalars.Whole 64 true ≡ kind = cc (is) in never 64 true (sym same)
integer_no Usize kind is never = let same : scalars.Whole 64 false ≡ kind = cc (is) in never 64 false (sym same)

-- all of them, each with the scalar of its type
abbrev pub HaveKinds : CSetting → List COperand → List Typed → Type 0
HaveKinds setting [] passed = Unit {0}
HaveKinds setting (first ∷ rest) [] = ⊥
HaveKinds setting (first ∷ rest) (one ∷ passed) = ((kind : Scalar) → scalar_in_type setting first.type ≡ Some kind → scalar_of one.ty ≡ Some kind) × HaveKinds setting rest passed

module _ (images : Images) (memory others : Blocks) (stands : StandsFor images memory others) where
  number_same : (kind : Scalar) (value given : Value) (arg : Arg) → number_argument kind value ≡ Ok arg → ValueBelow images value given → argued kind given ≡ Ok arg
  number_same kind value given arg e below =
      let is = number_of_arg kind value arg e in
      let same : given ≡ Whole is.number = number_below images is.number given (subst (λ (v : Value). ValueBelow images v given) is.value_is below) in
      ap (argued kind) same ∙ ap ok_cause (sym is.arg_is)

  argument_same : (kind : Scalar) (value given : Value) (ty : Ty) (arg : Arg) → c_argument_of memory (Some kind) value ≡ Ok arg → ValueBelow images value given → scalar_of ty ≡ Some kind → argument_by others ty given ≡ Ok arg
  argument_same (scalars.Whole width signed) value given (Integer which) arg e below is =
      let kind : integer_scalar which ≡ scalars.Whole width signed = cc (is) in
      ap (λ (k : Scalar). argued k given) kind ∙ number_same (scalars.Whole width signed) value given arg e below
  argument_same scalars.Truth value given Boolean arg e below is = number_same scalars.Truth value given arg e below
  argument_same scalars.Object value given (Pointer target) arg e below is =
      let text = text_found (text_of memory value) arg e in
      ap (λ (found : Result (List ℕ) _). as_text (or_cause cause_of_held found)) (value_text images memory others value given text.0 stands below text.1) ∙ ap ok_cause (sym text.2)
  argument_same scalars.Code value given ty arg e below is = cc (e)
  argument_same (scalars.Whole width signed) value given Boolean arg e below is = cc (is)
  argument_same (scalars.Whole width signed) value given (Pointer target) arg e below is = cc (is)
  argument_same scalars.Truth value given (Pointer target) arg e below is = cc (is)
  argument_same scalars.Object value given Boolean arg e below is = cc (is)
  argument_same scalars.Truth value given (Integer which) arg e below is = absurd (integer_no which scalars.Truth is (λ w s. λ same. cc (same)))
  argument_same scalars.Object value given (Integer which) arg e below is = absurd (integer_no which scalars.Object is (λ w s. λ same. cc (same)))
  argument_same scalars.Truth value given (Code params result) arg e below is = cc (is)
  argument_same scalars.Object value given (Code params result) arg e below is = cc (is)
  argument_same (scalars.Whole width signed) value given (Code params result) arg e below is = cc (is)
  argument_same kind value given Void arg e below is = cc (is)
  argument_same kind value given (Array element size) arg e below is = cc (is)
  argument_same kind value given (Record m y) arg e below is = cc (is)

  argument_by_kind : (found : Option Scalar) (value given : Value) (ty : Ty) (arg : Arg) → c_argument_of memory found value ≡ Ok arg → ValueBelow images value given → ((kind : Scalar) → found ≡ Some kind → scalar_of ty ≡ Some kind) → argument_by others ty given ≡ Ok arg
  argument_by_kind (Some kind) value given ty arg e below is = argument_same kind value given ty arg e below (is kind refl)
  argument_by_kind None value given ty arg e below is = cc (e)

  pub arguments_same : (setting : CSetting) (operands : List COperand) (args : List Arg) (passed : List Typed) → arguments setting memory operands ≡ Ok args → AreHanded images others (values_of_args operands) passed → HaveKinds setting operands passed → arguments_of others passed ≡ Ok args
  arguments_same setting [] args [] e handed kinds = let same : [] ≡ args = cc (e) in ap ok_back same
  arguments_same setting [] args (one ∷ passed) e handed kinds = absurd handed
  arguments_same setting (first ∷ rest) args [] e handed kinds = absurd handed
  arguments_same setting (first ∷ rest) args (one ∷ passed) e handed kinds =
      let value = and_then_is (scalar_value first.value) _ args e in
      let arg = and_then_is (c_argument_of memory (scalar_in_type setting first.type) value.0) _ args value.2 in
      let more = and_then_is (arguments setting memory rest) _ args arg.2 in
      let below : ValueBelow images value.0 one.value = subst (λ (v : CValue). IsHanded images others v one.value) (scalar_is first.value value.0 value.1) handed.0 in
      let here = argument_by_kind (scalar_in_type setting first.type) value.0 one.value one.ty arg.0 arg.1 below kinds.0 in
      let behind = arguments_same setting rest more.0 passed more.1 handed.1 kinds.1 in
      ap (λ (found : Result Arg Cause). then_try found (λ one_arg. then_try (arguments_of others passed) (λ left. Ok (one_arg ∷ left)))) here
      ∙ ap (λ (found : Result (List Arg) Cause). then_try found (λ left. Ok (arg.0 ∷ left))) behind
      ∙ ap ok_back (list_same (arg.0 ∷ more.0) args more.2)

-- ---- the call

-- the answer, in the type of the item
pub answer_comes : (from : Ty) (kind : Scalar) (answer : ℤ) (world : World) (left : ℕ) → scalar_of from ≡ Some kind → IsNumberKind kind → answer_as (Some from) answer world left ≡ came (Some (typed from (Whole (converted kind answer)))) world left
unfolding pure
answer_comes (Integer which) kind answer world left e is =
    let same : integer_scalar which ≡ kind = cc (e) in
    ap (λ (k : Scalar). came (Some (typed (Integer which) (Whole (converted k answer)))) world left) same
answer_comes Boolean kind answer world left e is =
    let same : scalars.Truth ≡ kind = cc (e) in
    ap (λ (k : Scalar). came (Some (typed Boolean (Whole (converted k answer)))) world left) same
answer_comes (Pointer target) kind answer world left e is = let same : scalars.Object ≡ kind = cc (e) in absurd (subst IsNumberKind (sym same) is)
answer_comes (Code params result) kind answer world left e is = let same : scalars.Code ≡ kind = cc (e) in absurd (subst IsNumberKind (sym same) is)
answer_comes Void kind answer world left e is = cc (e)
answer_comes (Array element size) kind answer world left e is = cc (e)
answer_comes (Record m y) kind answer world left e is = cc (e)

pub none_comes : (answer : ℤ) (world : World) (left : ℕ) → answer_as None answer world left ≡ came None world left
unfolding pure
none_comes answer world left = refl

-- the crate's call, up to the answer
pub opaque_comes : (fun : OuterTree) (passed : List Typed) (args : List Arg) (name : List ℕ) (world : World) (got : Got ℤ) (left : ℕ) → symbol_of fun ≡ name → arguments_of (blocks_of world) passed ≡ Ok args → answered {F = Cause} (record { name = name; args = args }) world ≡ Ok got →
    opaque_call fun passed world left ≡ answer_as fun.result got.value got.world left
unfolding seq tells
opaque_comes fun passed args name world got left named found answers =
    let call : Call = record { name = name; args = args } in
    let event : event_in (symbol_of fun) (arguments_of (blocks_of world) passed) ≡ Ok call = ap (λ (n : List ℕ). event_in n (arguments_of (blocks_of world) passed)) named ∙ ap (λ (r : Result (List Arg) Cause). event_in name r) found in
    ap (λ (r : Ran (Stop Cause) World Call). bind r (λ one. seq (tells one) (answer_as fun.result))) (looks_is (λ held. event_in (symbol_of fun) (arguments_of held.blocks passed)) world left call event)
    ∙ ap (λ (r : Result (Got ℤ) (Stop Cause)). bind (after_got left world r) (answer_as fun.result)) answers
