-- Operators with two operands.
use Rattle.std.proofs.Common.{◌≡◌, inl, ℕ, ◌≤◌, Bool, true, false, ◌&&◌, ◌||◌, not, if◌then◌else◌, List, [], ◌∷◌, ◌++◌, Option, Some, None, Result, Ok, refl, sym, subst, ◌∙◌}
use Rattle.std.proofs.lemmas.List.{append-nil}
use Rattle.cr_base.specs.declared.refusal.Place.{Place}
use Rattle.cr_runs.specs.Runs.{came, bind}
use Rattle.cr_world.specs.World.{World, blocks_of, with_memory}
use Rattle.cx_core.specs.declared.expr.Op2.{Op2}
use Rattle.cx_core.specs.Trees.{CTy, CExpr, expr, CForm, binary, type_of}
use Rattle.cx_core.specs.Typing.{IsTyped}
use Rattle.cx_mean.specs.Leftmost.{c_done, gives_operand}
use Rattle.cx_mean.specs.Marks.{Marks, any_overlap}
use Rattle.cx_mean.specs.Nodes.{CDone, node_done, typed_value}
use Rattle.cx_mean.specs.Operands.{CWhy, CValue, scalar, COperand, scalar_value}
use Rattle.cx_mean.specs.Quiet.{calls_nothing}
use Rattle.cx_mean.specs.Settings.{scalar_in_type}
use Rattle.cx_mean.specs.Values.{CTyped, binary_value, binary_of}
use Rattle.cx_typed_values.specs.Values.{IsNear}
use Rattle.cx_typed_work.specs.Operands.{IsScalarIn}
use Rattle.cx_typed_work.specs.Works.{IsTypedNode}
use Rattle.lift_calls.specs.Programs.{setting_in}
use Rattle.lift_does.proofs.Around.{Around, scope, At, DidOf, OweAs, value_in}
use Rattle.lift_does.proofs.Lasting.{lasts_less}
use Rattle.lift_does.proofs.Nodes.{and_then_is, reads_first, reads_second, PartOwes, GivesUsed, two_owes, two_last}
use Rattle.lift_does.proofs.Operands.{node_two, pure_step, scalar_is, where_used, scalar_in, standing, scalar_given, other_based}
use Rattle.lift_does.proofs.Reaching.{Knows, reached_then, later_then}
use Rattle.lift_does.proofs.Runs.{step_owes, end_owes, same_events}
use Rattle.lift_does.proofs.Sameness.{binary_same}
use Rattle.lift_does.proofs.Steady.{IsScoped, sizes_last}
use Rattle.lift_does.proofs.Types.{value_there}
use Rattle.lift_does.proofs.Unary.{form_fixed, ExprOwes, FormOwes}
use Rattle.lift_does.specs.Does.{is_fixed}
use Rattle.lift_does.specs.Gives.{GivesOperand}
use Rattle.lift_does.specs.Later.{AllOf, IsSameAt, Lasts}
use Rattle.lift_exprs.specs.Lifted.{lifted, operand_of}
use Rattle.lift_exprs.specs.Names.{type_in}
use Rattle.lift_exprs.specs.Written.{Written, in_turn}
use Rattle.lift_forms.specs.Given.{Given}
use Rattle.lift_forms.specs.Given as given_form
use Rattle.lift_forms.specs.LawsTyping.{binary_result}
use Rattle.lift_forms.specs.Operators.{Operand, value_of, elements_of, binary_form, binary_by, joined, computed, wrapping_of, operator_of, is_comparison, moves, moved, is_back, pointers_joined, minus}
use Rattle.lift_forms_laws.proofs.Pointers.{binary_stands}
use Rattle.lift_forms_laws.proofs.Runs.{pure_is}
use Rattle.lift_forms_laws.specs.LawsMeaning.{Elements}
use Rattle.lift_held.specs.Held.{is_steady, operand, operand_before, holds_call}
use Rattle.lift_held.specs.declared.asked.Asked.{Asked}
use Rattle.lift_stands.specs.Stands.{Images}
use Rattle.mem_bytes.specs.Memory.{Blocks}
use Rattle.mem_bytes.specs.declared.value.Value.{Value}
use Rattle.mem_bytes.specs.declared.value.Value.TheVariants.{Whole, Null, Object, Code as Function}
use Rattle.rs_mean.specs.Run.{normal}
use Rattle.rs_mean.specs.Scalars.{scalar_of, is_signed_integer}
use Rattle.rs_text.specs.declared.integer.IntegerTy.{IntegerTy}
use Rattle.rs_text.specs.declared.integer.IntegerTy.TheVariants.{I64, Isize}
use Rattle.rs_text.specs.declared.operator.Operator.{Operator}
use Rattle.rs_text.specs.declared.operator.Wrapping.{Wrapping}
use Rattle.rs_text.specs.Tree.{Ty, Integer, Boolean, Pointer, Code, Place as RustPlace, Expr, AddressOf, Binary, Wrapped, Offset, OffsetFrom, Cast, Stmt}

-- ---- an operator gives no address

computed_no : (found : Option Wrapping) (operator : Operator) (which : IntegerTy) (left right : Expr) (p : RustPlace) → given_form.value (computed found operator which left right) ≡ given_form.value (AddressOf p) → ⊥
computed_no None operator which left right p same = cc (same)
computed_no (Some wrapping) operator which left right p same = by (is_signed_integer which) same
  where
    by : (test : Bool) → given_form.value (if test then Binary left operator right else Wrapped left wrapping right) ≡ given_form.value (AddressOf p) → ⊥
    by true e = cc (e)
    by false e = cc (e)

joined_no : (op : Op2) (which : IntegerTy) (left right : Expr) (p : RustPlace) → joined op which left right ≡ given_form.value (AddressOf p) → ⊥
joined_no op which left right p same = by (is_comparison op) same
  where
    by : (test : Bool) → (if test then given_form.truth (Binary left (operator_of op) right) else given_form.value (computed (wrapping_of op) (operator_of op) which left right)) ≡ given_form.value (AddressOf p) → ⊥
    by true e = cc (e)
    by false e = computed_no (wrapping_of op) (operator_of op) which left right p e

moved_no : (op : Op2) (at elements : Expr) (p : RustPlace) → moved op at elements ≡ given_form.value (AddressOf p) → ⊥
moved_no op at elements p same = by (moves op) (is_back op) same
  where
    by : (test back : Bool) → (if test then given_form.value (Offset at (if back then minus Isize elements else elements)) else given_form.nothing) ≡ given_form.value (AddressOf p) → ⊥
    by true back e = cc (e)
    by false back e = cc (e)

pointers_no : (op : Op2) (left right : Expr) (p : RustPlace) → pointers_joined op left right ≡ given_form.value (AddressOf p) → ⊥
pointers_no op left right p same = by (is_back op) (is_comparison op) same
  where
    by : (back test : Bool) → (if back then given_form.value (Cast (OffsetFrom left right) (Integer I64)) else (if test then given_form.truth (Binary left (operator_of op) right) else given_form.nothing)) ≡ given_form.value (AddressOf p) → ⊥
    by true test e = cc (e)
    by false true e = cc (e)
    by false false e = cc (e)

pub binary_no : (op : Op2) (one other : Ty) (left right : Operand) (p : RustPlace) → binary_by op one other left right ≡ given_form.value (AddressOf p) → ⊥
binary_no op (Integer which) (Integer also) left right p same = joined_no op which _ _ p same
binary_no op (Pointer target) (Integer also) left right p same = moved_no op (value_of left) (elements_of right) p same
binary_no op (Integer which) (Pointer target) left right p same = moved_no op (value_of right) (elements_of left) p same
binary_no op (Pointer target) Boolean left right p same = moved_no op (value_of left) (elements_of right) p same
binary_no op Boolean (Pointer target) left right p same = moved_no op (value_of right) (elements_of left) p same
binary_no op (Pointer target) (Pointer also) left right p same = pointers_no op _ _ p same
binary_no op (Code params result) (Code given gives) left right p same = pointers_no op _ _ p same
binary_no op one other left right p same = cc (same)

-- ---- flags

abbrev pub before_fixed : CExpr → CExpr → Bool
before_fixed first second = is_fixed (operand_before (holds_call second)) first

pub quiet_before : (first second : CExpr) → before_fixed first second ≡ false → calls_nothing second ≡ true
quiet_before first second e = by (calls_nothing second) (is_steady first) e
  where
    by : (quiet steady : Bool) → (not quiet || steady) ≡ false → quiet ≡ true
    by true steady same = refl
    by false steady same = cc (same)

pub steady_before : (first second : CExpr) → is_steady first ≡ true → before_fixed first second ≡ true
steady_before first second e = by (calls_nothing second) (is_steady first) e
  where
    by : (quiet steady : Bool) → steady ≡ true → (not quiet || steady) ≡ true
    by true steady same = same
    by false steady same = refl

pub both_steady : (one other : Bool) → ((one && other) || false) ≡ true → (one ≡ true) × (other ≡ true)
both_steady true true e = (refl, refl)
both_steady true false e = cc (e)
both_steady false other e = cc (e)

pub near : (x : Around) (type : CTy) (value : Value) → IsScalarIn x.home.program type value → IsNear value
near x type (Object at) is = is.leads
near x type Null is = tt
near x type (Whole number) is = tt
near x type (Function number) is = tt

abbrev ok_typed : CTyped → Result CTyped CWhy
ok_typed one = Ok one

same_typed : (one other : CTyped) → ok_typed one ≡ ok_typed other → one ≡ other
same_typed one other e = cc (e)

abbrev ok_value : CValue → Result CValue CWhy
ok_value value = Ok value

same_ok : (one other : CValue) → ok_value one ≡ ok_value other → one ≡ other
same_ok one other e = cc (e)

module _ (x : Around) where
  -- ---- two operands, and no store

  pub record MakesTwo (used fixed : Bool) (e : CExpr) (given : Given) (first : CExpr) (of_first : Given) (second : CExpr) (of_second : Given) (one other : COperand) (c2 : World) (made : CDone) : Type 0 where
    pub blocks_are : made.blocks ≡ blocks_of c2
    pub apart : any_overlap one.marks.reads other.marks.writes ≡ false
    pub reads_one : (before after : Blocks) → AllOf (IsSameAt before after) made.marks.reads → AllOf (IsSameAt before after) one.marks.reads
    pub reads_other : (before after : Blocks) → AllOf (IsSameAt before after) made.marks.reads → AllOf (IsSameAt before after) other.marks.reads
    pub gives : (last : Images) (c_later later : World) → At x last c_later later → Lasts fixed made.marks.reads c2 c_later → GivesUsed x true last later first of_first one.value → GivesUsed x true last later second of_second other.value →
        GivesUsed x used last later e given made.value

  pub pure_two : (used fixed : Bool) (e : CExpr) (given : Given) (type : CTy) (place : Place) (form : CForm) (fixed_first : Bool) (first : CExpr) (one_written : Written) (fixed_second : Bool) (second : CExpr) (two_written : Written)
      (from : ℕ) (images : Images) (c0 w0 : World) → At x images c0 w0 → IsTypedNode x.home first → IsTypedNode x.home second → (fixed ≡ true → fixed_first ≡ true) → (fixed ≡ true → fixed_second ≡ true) →
      (fixed_first ≡ false → calls_nothing second ≡ true) → from ≤ one_written.next → one_written.next ≤ two_written.next → PartOwes x true fixed_first first one_written from images c0 w0 →
      ((later : Images) (c1 w1 : World) → At x later c1 w1 → PartOwes x true fixed_second second two_written one_written.next later c1 w1) →
      ((one other : COperand) (c1 c2 : World) (made : CDone) → Knows x first c0 one c1 → Knows x second c1 other c2 → node_done (setting_in x.s) type form (scope x) (blocks_of c2) (one ∷ other ∷ []) ≡ Ok made →
      MakesTwo used fixed e given first one_written.given second two_written.given one other c2 made) →
      OweAs x (DidOf x used fixed e (in_turn (record { first = one_written; second = two_written }) given) from images c0 w0)
      (λ k. bind (value_in x first c0 k) (λ one after more. bind (value_in x second after more) (λ other later. c_done place type later (node_done (setting_in x.s) type form (scope x) (blocks_of later) (one ∷ other ∷ [])))))
      (one_written.body ++ two_written.body) w0
  pure_two used fixed e given type place form fixed_first first one_written fixed_second second two_written from images c0 w0 at typed also less less_other quiet rises more owes others makes =
      let Good = DidOf x used fixed e (in_turn (record { first = one_written; second = two_written }) given) from images c0 w0 in
      subst (λ (list : List Stmt). OweAs x Good
      (λ k. bind (value_in x first c0 k) (λ one after more. bind (value_in x second after more) (λ other later. c_done place type later (node_done (setting_in x.s) type form (scope x) (blocks_of later) (one ∷ other ∷ []))))) list w0)
      (append-nil (one_written.body ++ two_written.body))
      (two_owes x Good (λ one other later. c_done place type later (node_done (setting_in x.s) type form (scope x) (blocks_of later) (one ∷ other ∷ []))) [] true fixed_first first one_written true fixed_second second two_written from images c0 w0
      at typed also owes others (λ one other mid last c1 w1 c2 w2 did.
      step_owes x Good place (node_done (setting_in x.s) type form (scope x) (blocks_of c2) (one ∷ other ∷ [])) (λ made after. gives_operand type made.value made.marks (with_memory made.blocks after)) [] c2 w2
      (same_events last c2 w2 did.second_did.reached.at.worlds) (λ made is.
      let makes_it = makes one other c1 c2 made did.first_did.knows_is did.second_did.knows_is is in
      let reached = reached_then x from one_written.next two_written.next images mid last c0 w0 c1 w1 c2 w2 rises more at did.first_did.reached did.second_did.reached in
      subst (λ (blocks : Blocks). OweAs x Good (came (record { type = type; value = made.value; marks = made.marks }) (with_memory blocks c2)) [] w2) (sym makes_it.blocks_are)
      (end_owes x Good (record { type = type; value = made.value; marks = made.marks }) [] c2 w2 w2 (λ units. pure_is normal w2 units)
      (record {
        flow_is = refl;
        later = last;
        own = reached.own;
        are_own = reached.are_own;
        keeps = reached.keeps;
        worlds = reached.at.worlds;
        gives = λ end c_later after is_later.
            makes_it.gives end c_later after is_later.here is_later.lasts
            (did.first_did.gives end c_later after
            (later_then x one_written.next two_written.next two_written.next mid last end fixed_first fixed one.marks.reads made.marks.reads c1 w1 c2 w2 c_later after did.first_did.reached.at did.second_did.reached
            (two_last x fixed_first second one.marks.reads c1 c2 other did.second_did.knows_is quiet makes_it.apart) more less (makes_it.reads_one (blocks_of c2) (blocks_of c_later)) is_later))
            (did.second_did.gives end c_later after
            (record {
              extends = is_later.extends;
              here = is_later.here;
              temporaries = is_later.temporaries;
              lasts = lasts_less fixed fixed_second made.marks.reads other.marks.reads c2 c_later less_other (makes_it.reads_other (blocks_of c2) (blocks_of c_later)) is_later.lasts;
            }));
      })))))

  -- ---- operators

  -- what the types of the crate are for those of an operator
  pub record BinaryThere (op : Op2) (type left right : CTy) : Type 0 where
    pub result : binary_result op (type_in x.names left) (type_in x.names right) ≡ Some (type_in x.names type)
    pub kind : scalar_in_type (setting_in x.s) type ≡ scalar_of (type_in x.names type)
    pub elements : Elements (setting_in x.s) x.frame op (type_in x.names left) (type_in x.names right) left right

  pub typed_value_is : (one : COperand) (made : CTyped) → typed_value one ≡ Ok made → (value : Value) × (one.value ≡ scalar value) × (made ≡ record { type = one.type; value = value })
  typed_value_is one made e =
      let parts = and_then_is (scalar_value one.value) _ made e in
      (parts.0, scalar_is one.value parts.0 parts.1, sym (same_typed (record { type = one.type; value = parts.0 }) made parts.2))

  pub binary_owes : (asked : Asked) (type : CTy) (at : Place) (op : Op2) (left right : CExpr) (from : ℕ) (images : Images) (c_world world : World) → At x images c_world world → IsTyped x.home (expr type at (binary op left right)) →
      BinaryThere op type (type_of left) (type_of right) → from ≤ (lifted x.names (operand_before (holds_call right)) left from).next →
      (lifted x.names (operand_before (holds_call right)) left from).next ≤ (lifted x.names operand right (lifted x.names (operand_before (holds_call right)) left from).next).next →
      ExprOwes x (operand_before (holds_call right)) left from images c_world world →
      ((later : Images) (c1 w1 : World) → At x later c1 w1 → ExprOwes x operand right (lifted x.names (operand_before (holds_call right)) left from).next later c1 w1) →
      FormOwes x asked type at (binary op left right) from images c_world world
  binary_owes asked type at op left right from images c_world world here typed there rises more owes others =
      let first = lifted x.names (operand_before (holds_call right)) left from in
      let second = lifted x.names operand right first.next in
      pure_two asked.used (form_fixed type (binary op left right)) (expr type at (binary op left right)) (binary_form op (operand_of x.names left first.given) (operand_of x.names right second.given)) type at (binary op left right)
      (before_fixed left right) left first (is_fixed operand right) right second from images c_world world here (inl typed.1.0) (inl typed.1.1)
      (λ fixed. steady_before left right (both_steady (is_steady left) (is_steady right) fixed).0) (λ fixed. (both_steady (is_steady left) (is_steady right) fixed).1) (quiet_before left right) rises more owes others
      (λ one other c1 c2 made knows_one knows_other e.
      let node = node_two (setting_in x.s) type (binary op left right) (scope x) (blocks_of c2) one other made e in
      let step = pure_step node.0 (blocks_of c2) _ made node.2 in
      let left_is = and_then_is (typed_value one) _ step.of_c step.is in
      let right_is = and_then_is (typed_value other) _ step.of_c left_is.2 in
      let result = and_then_is (binary_value (setting_in x.s) op type (blocks_of c2) left_is.0 right_is.0) _ step.of_c right_is.2 in
      let left_value = typed_value_is one left_is.0 left_is.1 in
      let right_value = typed_value_is other right_is.0 right_is.1 in
      let of_left = scalar_in x left one left_value.0 typed.1.0 knows_one.0.operand_is left_value.1 in
      let of_right = scalar_in x right other right_value.0 typed.1.1 knows_other.0.operand_is right_value.1 in
      let found : binary_of (setting_in x.s) op type (blocks_of c2) (type_of left) (type_of right) left_value.0 right_value.0 ≡ Ok result.0 =
      subst (λ (t : CTy). binary_of (setting_in x.s) op type (blocks_of c2) t (type_of right) left_value.0 right_value.0 ≡ Ok result.0) knows_one.0.operand_is.type_is
      (subst (λ (t : CTy). binary_of (setting_in x.s) op type (blocks_of c2) one.type t left_value.0 right_value.0 ≡ Ok result.0) knows_other.0.operand_is.type_is
      (subst (λ (t : CTyped). binary_value (setting_in x.s) op type (blocks_of c2) t (record { type = other.type; value = right_value.0 }) ≡ Ok result.0) left_value.2
      (subst (λ (t : CTyped). binary_value (setting_in x.s) op type (blocks_of c2) left_is.0 t ≡ Ok result.0) right_value.2 result.1))) in
      record {
        blocks_are = step.blocks_are;
        apart = node.1.apart;
        reads_one = λ before after all. reads_first one.marks other.marks (IsSameAt before after) (subst (λ (m : Marks). AllOf (IsSameAt before after) m.reads) (step.marks_are ∙ node.1.marks_are) all);
        reads_other = λ before after all. reads_second one.marks other.marks (IsSameAt before after) (subst (λ (m : Marks). AllOf (IsSameAt before after) m.reads) (step.marks_are ∙ node.1.marks_are) all);
        gives = λ last c_later later at_later lasts gave gave_other. where_used asked.used x last later (expr type at (binary op left right)) (binary_form op (operand_of x.names left first.given) (operand_of x.names right second.given)) made.value (λ _.
            subst (λ (v : CValue). GivesOperand x.s x.names last x.c_frame x.frame later (expr type at (binary op left right)) (binary_form op (operand_of x.names left first.given) (operand_of x.names right second.given)) v)
            (sym (step.value_is ∙ sym (same_ok (scalar result.0) step.of_c result.2)))
            (record {
              stands = binary_stands last x.frame later (blocks_of c_later) (standing x last c_later later at_later) (setting_in x.s) op type (type_of left) (type_of right) (operand_of x.names left first.given) (operand_of x.names right second.given)
                  (type_in x.names type) left_value.0 right_value.0 result.0
                  (scalar_given x last later left first.given one.value left_value.0 left_value.1 gave).stands (scalar_given x last later right second.given other.value right_value.0 right_value.1 gave_other).stands
                  (value_there x (type_of left) left_value.0 of_left) (value_there x (type_of right) right_value.0 of_right) (near x (type_of left) left_value.0 of_left) (near x (type_of right) right_value.0 of_right) there.result there.kind there.elements
                  (binary_same c2 c_later (setting_in x.s) op type (type_of left) (type_of right) left_value.0 right_value.0
                  (sizes_last x.home.program (form_fixed type (binary op left right)) made.marks.reads c2 c_later (scope x) left_value.0 knows_other.0.at.owned lasts
                  (λ fixed. subst (IsScoped (scope x)) left_value.1 (knows_one.2 (both_steady (is_steady left) (is_steady right) fixed).0)))
                  (sizes_last x.home.program (form_fixed type (binary op left right)) made.marks.reads c2 c_later (scope x) right_value.0 knows_other.0.at.owned lasts
                  (λ fixed. subst (IsScoped (scope x)) right_value.1 (knows_other.2 (both_steady (is_steady left) (is_steady right) fixed).1)))
                  ∙ found);
              based = other_based x later (binary_form op (operand_of x.names left first.given) (operand_of x.names right second.given)) (λ p same. binary_no op (type_in x.names (type_of left)) (type_in x.names (type_of right)) (operand_of x.names left first.given) (operand_of x.names right second.given) p same);
            }));
      })
