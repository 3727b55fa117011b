-- A typed expression gives an operand of its type, or comes to a step that C leaves undefined.
use Rattle.std.proofs.Common.{◌≡◌, ℤ, ◌≤ℤ◌, ◌<ℤ◌, int_le, int_lt, Bool, true, false, ◌&&◌, if◌then◌else◌, arith, List, [], ◌∷◌, Result, Ok, Err, refl}
use Rattle.std.proofs.lemmas.Int.{ints}
use Rattle.cr_base.specs.Scalar.{IsInRange, least, above, converted}
use Rattle.cr_base.specs.declared.rule.URule.{URule}
use Rattle.cr_base.specs.declared.rule.URule.TheVariants.{U1, U2}
use Rattle.cr_base.specs.declared.scalar.Scalar.TheVariants.{Whole}
use Rattle.straight_core.specs.declared.expr.Op1.{Op1}
use Rattle.straight_core.specs.declared.expr.Op2.{Op2}
use Rattle.straight_core.specs.Trees.{CTy, ty, int}
use Rattle.straight_mean.specs.Marks.{Marks, Range, bits_at, conflict, united, sequenced_after, any_overlap}
use Rattle.straight_mean.specs.Nodes.{Done, accessed, number_in, scalar_in, place_in, in_type, load_step, assign_step, unary_step, binary_step, convert_step, number_of_unary, number_of_binary}
use Rattle.straight_mean.specs.Operands.{scalar, designates, COperand, CWorld, rule_of}
use Rattle.straight_mean.specs.Sound.{IsInt, GivesInt, IsOperandOf, IsProper}
use Rattle.straight_mean.proofs.Ranges.{AllOk, loaded_is_int, wrapped_in_range}
use Rattle.mem_bytes.specs.Access.{and_then, value_at, after_put}
use Rattle.mem_bytes.specs.declared.fault.Fault.{Fault}
use Rattle.mem_bytes.specs.declared.fault.Fault.TheVariants.{Dead, Outside, Misaligned, Unset, BadBool, MixedPointer}
use Rattle.mem_bytes.specs.declared.value.Ptr.{Ptr}
use Rattle.mem_bytes.specs.declared.value.Value.TheVariants.{Whole as Number}

-- ---- rules

u1_proper : IsProper U1
u1_proper = record { no_bad_call = λ same. cc; no_missing_value = λ same. cc }

u2_proper : IsProper U2
u2_proper = record { no_bad_call = λ same. cc; no_missing_value = λ same. cc }

access_proper : (fault : Fault) → IsProper (rule_of fault)
access_proper Dead = record { no_bad_call = λ same. cc; no_missing_value = λ same. cc }
access_proper Outside = record { no_bad_call = λ same. cc; no_missing_value = λ same. cc }
access_proper Misaligned = record { no_bad_call = λ same. cc; no_missing_value = λ same. cc }
access_proper Unset = record { no_bad_call = λ same. cc; no_missing_value = λ same. cc }
access_proper BadBool = record { no_bad_call = λ same. cc; no_missing_value = λ same. cc }
access_proper MixedPointer = record { no_bad_call = λ same. cc; no_missing_value = λ same. cc }

-- ---- outcomes of parts of a step

-- what a part of a step gives has a property, or it breaks a proper rule
abbrev pub Proper : {A : Type 0} → (A → Type 0) → Result A URule → Type 0
Proper P (Ok value) = P value
Proper P (Err rule) = IsProper rule

-- no property
abbrev pub Any : {A : Type 0} → A → Type 0
Any value = Unit {0}

pub proper_and : {A B : Type 0} (P : A → Type 0) (Q : B → Type 0) (first : Result A URule) (next : A → Result B URule) →
    Proper P first → ((value : A) → P value → Proper Q (next value)) → Proper Q (and_then first next)
proper_and P Q (Ok value) next one all = all value one
proper_and P Q (Err rule) next one all = one

proper_if : {A : Type 0} (P : A → Type 0) (test : Bool) (first second : Result A URule) → Proper P first → Proper P second →
    Proper P (if test then first else second)
proper_if P true first second one other = one
proper_if P false first second one other = other

accessed_proper : {A : Type 0} (P : A → Type 0) (outcome : Result A Fault) → AllOk P outcome → Proper P (accessed outcome)
accessed_proper P (Ok value) all = all
accessed_proper P (Err fault) all = access_proper fault

any_ok : {A : Type 0} (outcome : Result A Fault) → AllOk Any outcome
any_ok (Ok value) = tt
any_ok (Err fault) = tt

pub united_proper : (marks : List Marks) → Proper Any (united marks)
united_proper [] = tt
united_proper (first ∷ others) =
    proper_and Any Any (united others) _ (united_proper others) (λ rest all. proper_if Any (conflict first rest) _ _ u1_proper tt)

sequenced_proper : (marks : Marks) (range : Range) → Proper Any (sequenced_after marks range)
sequenced_proper marks range = proper_if Any (any_overlap marks.still (range ∷ [])) _ _ u1_proper tt

abbrev pub InInt : ℤ → Type 0
InInt number = IsInRange (Whole 32 true) number

pub number_proper : (operand : COperand) → GivesInt operand.value → Proper InInt (number_in operand)
number_proper operand gives = rw (gives.is, gives.is_int.is) gives.is_int.in_range

scalar_proper : (operand : COperand) → GivesInt operand.value → Proper IsInt (scalar_in operand)
scalar_proper operand gives = rw gives.is gives.is_int

place_is : (operand : COperand) (at : Ptr) → operand.value ≡ designates at → Proper (λ found. found ≡ at) (place_in operand)
place_is operand at is = rw is refl

abbrev number_if : Bool → ℤ → Result ℤ URule
number_if test value = if test then Ok value else Err U2

in_range_if : (value : ℤ) (low high : Bool) → int_le (least (Whole 32 true)) value ≡ low → int_lt value (above (Whole 32 true)) ≡ high →
    Proper InInt (number_if (low && high) value)
in_range_if value true true low high =
    let from : least (Whole 32 true) ≤ℤ value = grind (arith, ints) in
    let below : value <ℤ above (Whole 32 true) = grind (arith, ints) in
    (from, below)
in_range_if value true false low high = u2_proper
in_range_if value false high low is = u2_proper

-- a number that `int` represents, or overflow
in_int : (value : ℤ) → Proper InInt (in_type (Whole 32 true) value)
in_int value = in_range_if value (int_le (least (Whole 32 true)) value) (int_lt value (above (Whole 32 true))) refl refl

-- ---- steps of nodes of type `int`

-- the step of a node of a type
abbrev pub Outcome : CTy → Result Done URule → Type 0
Outcome type outcome = Proper (λ (one : Done). IsOperandOf type one.operand) outcome

pub int_given : (number : ℤ) → InInt number → GivesInt (scalar (Number number))
int_given number in_range = record { value = Number number; is = refl; is_int = record { number = number; is = refl; in_range = in_range } }

abbrev is_operand : Bool → Done → Type 0
is_operand is_const one = IsOperandOf (ty int is_const) one.operand

pub load_sound : (is_const : Bool) (from : COperand) (at : Ptr) (world : CWorld) → from.value ≡ designates at → Outcome (ty int is_const) (load_step (ty int is_const) from world)
load_sound is_const from at world is =
    proper_and (λ found. found ≡ at) (is_operand is_const) (place_in from) _ (place_is from at is) (λ found same.
    proper_and Any (is_operand is_const) (sequenced_after from.marks (bits_at found (Whole 32 true))) _ (sequenced_proper from.marks (bits_at found (Whole 32 true))) (λ range all.
    proper_and IsInt (is_operand is_const) (accessed (value_at world.memory found (Whole 32 true))) _
    (accessed_proper IsInt (value_at world.memory found (Whole 32 true)) (loaded_is_int world.memory found)) (λ value is_int.
    record { type_is = refl; gives = record { value = value; is = refl; is_int = is_int } })))

pub assign_sound : (is_const : Bool) (target value : COperand) (at : Ptr) (world : CWorld) → target.value ≡ designates at → GivesInt value.value →
    Outcome (ty int is_const) (assign_step (ty int is_const) target value world)
assign_sound is_const target value at world is gives =
    proper_and Any (is_operand is_const) (united (target.marks ∷ value.marks ∷ [])) _ (united_proper (target.marks ∷ value.marks ∷ [])) (λ marks all.
    proper_and (λ found. found ≡ at) (is_operand is_const) (place_in target) _ (place_is target at is) (λ found same.
    proper_and IsInt (is_operand is_const) (scalar_in value) _ (scalar_proper value gives) (λ new is_int.
    proper_and Any (is_operand is_const) (sequenced_after marks (bits_at found (Whole 32 true))) _ (sequenced_proper marks (bits_at found (Whole 32 true))) (λ range some.
    proper_and Any (is_operand is_const) (accessed (after_put world.memory found (Whole 32 true) new)) _
    (accessed_proper Any (after_put world.memory found (Whole 32 true) new) (any_ok (after_put world.memory found (Whole 32 true) new))) (λ memory done.
    record { type_is = refl; gives = record { value = new; is = refl; is_int = is_int } })))))

pub unary_sound : (is_const : Bool) (op : Op1) (operand : COperand) (world : CWorld) → GivesInt operand.value →
    Outcome (ty int is_const) (unary_step op (ty int is_const) operand world)
unary_sound is_const op operand world gives =
    proper_and InInt (is_operand is_const) (number_in operand) _ (number_proper operand gives) (λ value in_range.
    proper_and InInt (is_operand is_const) (in_type (Whole 32 true) (number_of_unary op value)) _ (in_int (number_of_unary op value)) (λ result within.
    record { type_is = refl; gives = int_given result within }))

pub binary_sound : (is_const : Bool) (op : Op2) (left right : COperand) (world : CWorld) → GivesInt left.value → GivesInt right.value →
    Outcome (ty int is_const) (binary_step op (ty int is_const) left right world)
binary_sound is_const op left right world one other =
    proper_and Any (is_operand is_const) (united (left.marks ∷ right.marks ∷ [])) _ (united_proper (left.marks ∷ right.marks ∷ [])) (λ marks all.
    proper_and InInt (is_operand is_const) (number_in left) _ (number_proper left one) (λ first in_range.
    proper_and InInt (is_operand is_const) (number_in right) _ (number_proper right other) (λ second in_range.
    proper_and InInt (is_operand is_const) (in_type (Whole 32 true) (number_of_binary op first second)) _ (in_int (number_of_binary op first second)) (λ result within.
    record { type_is = refl; gives = int_given result within }))))

pub convert_sound : (is_const : Bool) (operand : COperand) (world : CWorld) → GivesInt operand.value →
    Outcome (ty int is_const) (convert_step (ty int is_const) operand world)
convert_sound is_const operand world gives =
    rw (gives.is, gives.is_int.is) (record {
      type_is = refl;
      gives = int_given (converted (Whole 32 true) gives.is_int.number) (wrapped_in_range gives.is_int.number);
    })
