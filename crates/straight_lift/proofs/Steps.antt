-- What a node's step does, the statement that is written for the node does too.
use Rattle.std.proofs.Common.{◌≡◌, ℤ, int_le, int_lt, Bool, true, false, ◌&&◌, if◌then◌else◌, [], ◌∷◌, Result, Ok, Err, refl, sym, ap, ◌∙◌}
use Rattle.cr_base.specs.Scalar.{least, above, converted}
use Rattle.cr_base.specs.declared.rule.URule.{URule}
use Rattle.cr_base.specs.declared.rule.URule.TheVariants.{U2}
use Rattle.straight_core.specs.declared.expr.Op1.{Op1}
use Rattle.straight_core.specs.declared.expr.Op2.{Op2}
use Rattle.straight_core.specs.Trees.{CTy, ty, int}
use Rattle.straight_mean.specs.Marks.{united, sequenced_after, bits_at, with_read, with_write}
use Rattle.straight_mean.specs.Nodes.{Done, done, accessed, number_in, scalar_in, place_in, in_type, load_step, assign_step, unary_step, binary_step, convert_step, number_of_unary, number_of_binary}
use Rattle.straight_mean.specs.Operands.{scalar, designates, COperand, CWorld}
use Rattle.straight_mean.specs.Sound.{IsOperandOf}
use Rattle.straight_mean.proofs.Sound.{Outcome}
use Rattle.straight_lift.specs.Agrees.{int_scalar}
use Rattle.mem_bytes.proofs.Reached.{and_then_ok}
use Rattle.mem_bytes.specs.Access.{value_at, after_put}
use Rattle.mem_bytes.specs.Memory.{Blocks}
use Rattle.mem_bytes.specs.declared.fault.Fault.{Fault}
use Rattle.mem_bytes.specs.declared.value.Ptr.{Ptr}
use Rattle.mem_bytes.specs.declared.value.Value.{Value}
use Rattle.mem_bytes.specs.declared.value.Value.TheVariants.{Whole as Number}
use Rattle.straight_rust_mean.specs.Scalars.{in_range}
use Rattle.straight_rust_tree.specs.Tree.{i32}

-- ---- what an outcome that is no fault shows

-- an access that is no fault
accessed_ok : {A : Type 0} (outcome : Result A Fault) (value : A) → accessed outcome ≡ Ok value → outcome ≡ Ok value
accessed_ok (Ok found) value e = ap Ok (cc)
accessed_ok (Err fault) value e = cc

-- a proper outcome that is no fault
pub outcome_ok : (type : CTy) (outcome : Result Done URule) (one : Done) → Outcome type outcome → outcome ≡ Ok one → IsOperandOf type one.operand
outcome_ok type (Ok found) one is e =
    let same : found ≡ one = cc in
    rw same at is
outcome_ok type (Err rule) one is e = absurd (cc)

-- a load that is no fault
pub record Loaded (at : Ptr) (world : CWorld) (one : Done) : Type 0 where
  pub value : Value
  pub found : value_at world.memory at int_scalar ≡ Ok value
  pub given : one.operand.value ≡ scalar value
  pub world_is : one.world ≡ world

pub load_ok : (is_const : Bool) (from : COperand) (at : Ptr) (world : CWorld) (one : Done) → from.value ≡ designates at →
    load_step (ty int is_const) from world ≡ Ok one → Loaded at world one
load_ok is_const from at world one designated e =
    let placed = and_then_ok (place_in from) _ one e in
    let place : placed.0 ≡ at = place_same from placed.0 at designated placed.1 in
    let checked = and_then_ok (sequenced_after from.marks (bits_at placed.0 int_scalar)) _ one placed.2 in
    let found = and_then_ok (accessed (value_at world.memory placed.0 int_scalar)) _ one checked.2 in
    let end : done (ty int is_const) (scalar found.0) (with_read checked.0 from.marks) world ≡ one = cc (found.2) in
    record {
      value = found.0;
      found = ap (λ (p : Ptr). value_at world.memory p int_scalar) (sym place) ∙ accessed_ok (value_at world.memory placed.0 int_scalar) found.0 found.1;
      given = ap (λ (d : Done). d.operand.value) (sym end);
      world_is = ap (λ (d : Done). d.world) (sym end);
    }
  where
    place_same : (from : COperand) (found at : Ptr) → from.value ≡ designates at → place_in from ≡ Ok found → found ≡ at
    place_same from found at designated e =
        let is : place_in from ≡ Ok at = rw designated refl in
        cc

-- a number that an operand gives
number_same : (operand : COperand) (n found : ℤ) → operand.value ≡ scalar (Number n) → number_in operand ≡ Ok found → found ≡ n
number_same operand n found given e =
    let is : number_in operand ≡ Ok n = rw given refl in
    cc

-- the result of an operator that is no overflow
abbrev checked : Bool → ℤ → Result ℤ URule
checked test value = if test then Ok value else Err U2

checked_ok : (test : Bool) (value found : ℤ) → checked test value ≡ Ok found → (test ≡ true) × (found ≡ value)
checked_ok true value found e = (refl, cc)
checked_ok false value found e = cc

-- it is one that an `i32` represents
in_type_ok : (value found : ℤ) → in_type int_scalar value ≡ Ok found → (in_range i32 value ≡ true) × (found ≡ value)
in_type_ok value found e = checked_ok (int_le (least int_scalar) value && int_lt value (above int_scalar)) value found e

-- an operator that is no fault
pub record Computed (result : ℤ) (world : CWorld) (one : Done) : Type 0 where
  pub fits : in_range i32 result ≡ true
  pub given : one.operand.value ≡ scalar (Number result)
  pub world_is : one.world ≡ world

pub unary_ok : (is_const : Bool) (op : Op1) (operand : COperand) (n : ℤ) (world : CWorld) (one : Done) → operand.value ≡ scalar (Number n) →
    unary_step op (ty int is_const) operand world ≡ Ok one → Computed (number_of_unary op n) world one
unary_ok is_const op operand n world one given e =
    let read_number = and_then_ok (number_in operand) _ one e in
    let same : read_number.0 ≡ n = number_same operand n read_number.0 given read_number.1 in
    let result = and_then_ok (in_type int_scalar (number_of_unary op read_number.0)) _ one read_number.2 in
    let fits = in_type_ok (number_of_unary op read_number.0) result.0 result.1 in
    let end : done (ty int is_const) (scalar (Number result.0)) operand.marks world ≡ one = cc (result.2) in
    let value : result.0 ≡ number_of_unary op n = fits.1 ∙ ap (λ (k : ℤ). number_of_unary op k) same in
    record {
      fits = ap (λ (k : ℤ). in_range i32 (number_of_unary op k)) (sym same) ∙ fits.0;
      given = ap (λ (d : Done). d.operand.value) (sym end) ∙ ap (λ (k : ℤ). scalar (Number k)) value;
      world_is = ap (λ (d : Done). d.world) (sym end);
    }

pub binary_ok : (is_const : Bool) (op : Op2) (left right : COperand) (n m : ℤ) (world : CWorld) (one : Done) → left.value ≡ scalar (Number n) → right.value ≡ scalar (Number m) →
    binary_step op (ty int is_const) left right world ≡ Ok one → Computed (number_of_binary op n m) world one
binary_ok is_const op left right n m world one given also e =
    let marks = and_then_ok (united (left.marks ∷ right.marks ∷ [])) _ one e in
    let first = and_then_ok (number_in left) _ one marks.2 in
    let one_is : first.0 ≡ n = number_same left n first.0 given first.1 in
    let second = and_then_ok (number_in right) _ one first.2 in
    let other_is : second.0 ≡ m = number_same right m second.0 also second.1 in
    let result = and_then_ok (in_type int_scalar (number_of_binary op first.0 second.0)) _ one second.2 in
    let fits = in_type_ok (number_of_binary op first.0 second.0) result.0 result.1 in
    let end : done (ty int is_const) (scalar (Number result.0)) marks.0 world ≡ one = cc (result.2) in
    let number : number_of_binary op first.0 second.0 ≡ number_of_binary op n m =
    ap (λ (k : ℤ). number_of_binary op k second.0) one_is ∙ ap (λ (k : ℤ). number_of_binary op n k) other_is in
    record {
      fits = ap (λ (k : ℤ). in_range i32 k) (sym number) ∙ fits.0;
      given = ap (λ (d : Done). d.operand.value) (sym end) ∙ ap (λ (k : ℤ). scalar (Number k)) (fits.1 ∙ number);
      world_is = ap (λ (d : Done). d.world) (sym end);
    }

-- an assignment that is no fault
pub record Assigned (at : Ptr) (n : ℤ) (world : CWorld) (one : Done) : Type 0 where
  pub memory : Blocks
  pub put : after_put world.memory at int_scalar (Number n) ≡ Ok memory
  pub given : one.operand.value ≡ scalar (Number n)
  pub world_is : one.world ≡ record world { memory = memory }

value_same : (operand : COperand) (n : ℤ) (found : Value) → operand.value ≡ scalar (Number n) → scalar_in operand ≡ Ok found → found ≡ Number n
value_same operand n found given e =
    let is : scalar_in operand ≡ Ok (Number n) = rw given refl in
    cc

place_found : (from : COperand) (found at : Ptr) → from.value ≡ designates at → place_in from ≡ Ok found → found ≡ at
place_found from found at designated e =
    let is : place_in from ≡ Ok at = rw designated refl in
    cc

pub assign_ok : (is_const : Bool) (target value : COperand) (at : Ptr) (n : ℤ) (world : CWorld) (one : Done) → target.value ≡ designates at → value.value ≡ scalar (Number n) →
    assign_step (ty int is_const) target value world ≡ Ok one → Assigned at n world one
assign_ok is_const target value at n world one designated given e =
    let marks = and_then_ok (united (target.marks ∷ value.marks ∷ [])) _ one e in
    let placed = and_then_ok (place_in target) _ one marks.2 in
    let place : placed.0 ≡ at = place_found target placed.0 at designated placed.1 in
    let new = and_then_ok (scalar_in value) _ one placed.2 in
    let number : new.0 ≡ Number n = value_same value n new.0 given new.1 in
    let checks = and_then_ok (sequenced_after marks.0 (bits_at placed.0 int_scalar)) _ one new.2 in
    let put = and_then_ok (accessed (after_put world.memory placed.0 int_scalar new.0)) _ one checks.2 in
    let end : done (ty int is_const) (scalar new.0) (with_write checks.0 marks.0) (record world { memory = put.0 }) ≡ one = cc (put.2) in
    record {
      memory = put.0;
      put = ap (λ (p : Ptr). after_put world.memory p int_scalar (Number n)) (sym place)
          ∙ (ap (λ (v : Value). after_put world.memory placed.0 int_scalar v) (sym number)
          ∙ accessed_ok (after_put world.memory placed.0 int_scalar new.0) put.0 put.1);
      given = ap (λ (d : Done). d.operand.value) (sym end) ∙ ap (λ (v : Value). scalar v) number;
      world_is = ap (λ (d : Done). d.world) (sym end);
    }

-- a conversion to `int` that is no fault
pub record Converted (n : ℤ) (world : CWorld) (one : Done) : Type 0 where
  pub given : one.operand.value ≡ scalar (Number (converted int_scalar n))
  pub world_is : one.world ≡ world

pub convert_ok : (is_const : Bool) (operand : COperand) (n : ℤ) (world : CWorld) (one : Done) → operand.value ≡ scalar (Number n) →
    convert_step (ty int is_const) operand world ≡ Ok one → Converted n world one
convert_ok is_const operand n world one given e =
    let is : convert_step (ty int is_const) operand world ≡ Ok (done (ty int is_const) (scalar (Number (converted int_scalar n))) operand.marks world) = rw given refl in
    let end : done (ty int is_const) (scalar (Number (converted int_scalar n))) operand.marks world ≡ one = cc in
    record {
      given = ap (λ (d : Done). d.operand.value) (sym end);
      world_is = ap (λ (d : Done). d.world) (sym end);
    }
