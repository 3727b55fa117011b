-- Conversions, and operators with one operand.
use Rattle.std.proofs.Common.{◌≡◌, inl, ℕ, ◌≤◌, Bool, true, false, ◌||◌, if◌then◌else◌, [], ◌∷◌, Some, None, Result, Ok, refl, sym, ap, subst, ◌∙◌}
use Rattle.cr_base.specs.declared.refusal.Place.{Place}
use Rattle.cr_base.specs.declared.scalar.Scalar.{Scalar}
use Rattle.cr_world.specs.World.{World, blocks_of}
use Rattle.cx_core.specs.declared.expr.Op1.{Op1}
use Rattle.cx_core.specs.declared.expr.Op1.TheVariants as op1
use Rattle.cx_core.specs.Trees.{CTy, form_of_type, CExpr, expr, CForm, unary, type_of}
use Rattle.cx_core.specs.Typing.{IsTyped, IsUnaryOf}
use Rattle.cr_base.specs.declared.scalar.Scalar.TheVariants as scalars
use Rattle.cx_core.specs.Conversions.{scalar_of as c_scalar_of}
use Rattle.cx_mean.specs.Marks.{Marks}
use Rattle.cx_typed_work.specs.Operands.{IsScalarIn}
use Rattle.lift_does.specs.Later.{AllOf, IsSameAt}
use Rattle.cx_mean.specs.Nodes.{CDone, node_done}
use Rattle.cx_mean.specs.Operands.{CWhy, CValue, scalar, COperand, scalar_value}
use Rattle.cx_mean.specs.Values.{unary_value}
use Rattle.lift_calls.specs.Programs.{setting_in}
use Rattle.lift_does.proofs.Around.{Around, scope, At}
use Rattle.lift_does.proofs.Lasting.{all_front}
use Rattle.lift_does.proofs.Nodes.{and_then_is, PartOwes, MakesOne, pure_one}
use Rattle.lift_does.proofs.Operands.{node_one, pure_step, scalar_is, or_false, where_used, scalar_in, standing, scalar_given, stands_based}
use Rattle.lift_does.proofs.Reaching.{Knows}
use Rattle.lift_does.proofs.Sameness.{unary_same}
use Rattle.lift_does.proofs.Steady.{IsScoped, sizes_last}
use Rattle.lift_does.proofs.Types.{kinds_agree, value_there, unary_there}
use Rattle.lift_does.specs.Does.{is_fixed}
use Rattle.lift_does.specs.Gives.{GivesScalar, GivesOperand}
use Rattle.lift_exprs.specs.Lifted.{lifted, lifted_form, holds_itself, operand_of}
use Rattle.lift_exprs.specs.Names.{type_in}
use Rattle.lift_forms.specs.Operators.{unary_form}
use Rattle.lift_forms.specs.LawsTyping.{unary_result}
use Rattle.lift_forms_laws.proofs.Unary.{unary_stands}
use Rattle.lift_held.specs.Held.{is_steady, is_steady_form, operand}
use Rattle.lift_held.specs.declared.asked.Asked.{Asked}
use Rattle.lift_stands.specs.Stands.{Images}
use Rattle.mem_bytes.specs.Access.{and_then}
use Rattle.mem_bytes.specs.declared.value.Value.{Value}
use Rattle.rs_mean.specs.Scalars.{is_scalar, is_integer}
use Rattle.rs_mean.specs.Typing.{is_pointer}
use Rattle.rs_text.specs.Tree.{Ty, Integer, Boolean, Void, Pointer, Array, Code, Record}
use Rattle.rs_text.specs.declared.integer.IntegerTy.TheVariants.{I32}

-- what is the same later whatever is stored, or holds its own value
abbrev pub form_fixed : CTy → CForm → Bool
form_fixed type form = is_steady_form form || holds_itself type form

abbrev pub ExprOwes : Around → Asked → CExpr → (from : ℕ) → Images → (c_world world : World) → Type 0
ExprOwes x asked e from images c_world world = PartOwes x asked.used (is_fixed asked e) e (lifted x.names asked e from) from images c_world world

abbrev pub FormOwes : Around → Asked → CTy → Place → CForm → (from : ℕ) → Images → (c_world world : World) → Type 0
FormOwes x asked type at form from images c_world world =
    PartOwes x asked.used (form_fixed type form) (expr type at form) (lifted_form x.names asked type form from) from images c_world world

-- operators on numbers
module _ (x : Around) where
  scalar_outcome : (value : CValue) (next : Value → Result CValue CWhy) (new : CValue) → and_then (scalar_value value) next ≡ Ok new → (one : Value) × (value ≡ scalar one) × (next one ≡ Ok new)
  scalar_outcome value next new e =
      let parts = and_then_is (scalar_value value) next new e in
      (parts.0, scalar_is value parts.0 parts.1, parts.2)

  abbrev one_of : CValue → Result CValue CWhy
  one_of value = Ok value

  ok_is : (one other : CValue) → one_of other ≡ one_of one → one ≡ other
  ok_is one other e = cc (e)

  integer_result : (ty of : Ty) → (if is_integer of then Some of else None) ≡ Some ty → is_pointer ty ≡ false
  integer_result ty (Integer which) e = let is : Integer which ≡ ty = cc (e) in subst (λ (t : Ty). is_pointer t ≡ false) is refl
  integer_result ty Boolean e = cc (e)
  integer_result ty (Pointer target) e = cc (e)
  integer_result ty (Code params result) e = cc (e)
  integer_result ty Void e = cc (e)
  integer_result ty (Array element size) e = cc (e)
  integer_result ty (Record m x) e = cc (e)

  number_type : (op : Op1) (ty of : Ty) → unary_result op of ≡ Some ty → is_pointer ty ≡ false
  number_type op1.Not ty of e = by (is_scalar of) e
    where
      by : (test : Bool) → (if test then Some (Integer I32) else None) ≡ Some ty → is_pointer ty ≡ false
      by true same = let is : Integer I32 ≡ ty = cc (same) in subst (λ (t : Ty). is_pointer t ≡ false) is refl
      by false same = cc (same)
  number_type op1.Plus ty of e = integer_result ty of e
  number_type op1.Minus ty of e = integer_result ty of e
  number_type op1.Complement ty of e = integer_result ty of e

  unary_kind : (op : Op1) (type of : CTy) (value : Value) → IsUnaryOf x.home.program.types op type of → IsScalarIn x.home.program of value → (kind : Scalar) × (c_scalar_of x.home.program.types (form_of_type type) ≡ Some kind)
  unary_kind op1.Not type of value is given = (scalars.Whole 32 true, ap (λ (t : CTy). c_scalar_of x.home.program.types (form_of_type t)) is.type_is)
  unary_kind op1.Plus type of value is given = (given.kind, subst (λ (t : CTy). c_scalar_of x.home.program.types (form_of_type t) ≡ Some given.kind) is.value_is given.kind_is)
  unary_kind op1.Minus type of value is given = (given.kind, subst (λ (t : CTy). c_scalar_of x.home.program.types (form_of_type t) ≡ Some given.kind) is.value_is given.kind_is)
  unary_kind op1.Complement type of value is given = (given.kind, subst (λ (t : CTy). c_scalar_of x.home.program.types (form_of_type t) ≡ Some given.kind) is.value_is given.kind_is)

  pub unary_owes : (asked : Asked) (type : CTy) (at : Place) (op : Op1) (value : CExpr) (from : ℕ) (images : Images) (c_world world : World) → At x images c_world world → IsTyped x.home (expr type at (unary op value)) →
      from ≤ (lifted x.names operand value from).next → ExprOwes x operand value from images c_world world → FormOwes x asked type at (unary op value) from images c_world world
  unary_owes asked type at op value from images c_world world here typed rises owes =
      pure_one x asked.used (form_fixed type (unary op value)) (expr type at (unary op value)) (unary_form op (operand_of x.names value (lifted x.names operand value from).given)) type at (unary op value)
      true (is_fixed operand value) value (lifted x.names operand value from) from images c_world world here (inl typed.1.0) (or_false (is_steady value)) rises owes (λ one c1 made knows e. makes one c1 made knows e)
    where
      made_scalar : (last : Images) (c_later later : World) (of_c new : Value) → At x last c_later later → IsScalarIn x.home.program (type_of value) of_c →
          GivesScalar last x.frame later (type_in x.names (type_of value)) (lifted x.names operand value from).given of_c → unary_value (setting_in x.s) op type (blocks_of c_later) of_c ≡ Ok new →
          GivesScalar last x.frame later (type_in x.names type) (unary_form op (operand_of x.names value (lifted x.names operand value from).given)) new
      made_scalar last c_later later of_c new there of gave e =
          let kind = unary_kind op type (type_of value) of_c typed.1.1 of in
          let stands = unary_stands last x.frame later (blocks_of c_later) (setting_in x.s) type op (operand_of x.names value (lifted x.names operand value from).given) (type_in x.names type) of_c new
          (standing x last c_later later there) gave.stands (value_there x (type_of value) of_c of) (unary_there x op type (type_of value) of_c typed.1.1 of) (kinds_agree x type kind.0 kind.1) e in
          record {
            stands = stands;
            based = stands_based x last later (type_in x.names type) (unary_form op (operand_of x.names value (lifted x.names operand value from).given)) new
                (number_type op (type_in x.names type) (type_in x.names (type_of value)) (unary_there x op type (type_of value) of_c typed.1.1 of)) stands;
          }

      makes : (one : COperand) (c1 : World) (made : CDone) → Knows x value c_world one c1 → node_done (setting_in x.s) type (unary op value) (scope x) (blocks_of c1) (one ∷ []) ≡ Ok made →
          MakesOne x asked.used (form_fixed type (unary op value)) (expr type at (unary op value)) (unary_form op (operand_of x.names value (lifted x.names operand value from).given)) true value (lifted x.names operand value from).given one c1 made
      makes one c1 made knows e =
          let node = node_one (setting_in x.s) type (unary op value) (scope x) (blocks_of c1) one made e in
          let step = pure_step node.0 (blocks_of c1) _ made node.2 in
          let given = scalar_outcome one.value _ step.of_c step.is in
          let result = and_then_is (unary_value (setting_in x.s) op type (blocks_of c1) given.0) _ step.of_c given.2 in
          let value_is : made.value ≡ scalar result.0 = step.value_is ∙ ok_is step.of_c (scalar result.0) result.2 in
          let of = scalar_in x value one given.0 typed.1.0 knows.0.operand_is given.1 in
          record {
            blocks_are = step.blocks_are;
            reads = λ before after all. all_front (IsSameAt before after) one.marks.reads [] (subst (λ (marks : Marks). AllOf (IsSameAt before after) marks.reads) (step.marks_are ∙ node.1) all);
            gives = λ last c_later later there lasts gave. where_used asked.used x last later (expr type at (unary op value)) _ made.value (λ _.
                subst (λ (v : CValue). GivesOperand x.s x.names last x.c_frame x.frame later (expr type at (unary op value)) (unary_form op (operand_of x.names value (lifted x.names operand value from).given)) v) (sym value_is)
                (made_scalar last c_later later given.0 result.0 there of
                (scalar_given x last later value (lifted x.names operand value from).given one.value given.0 given.1 gave)
                (unary_same c1 c_later (setting_in x.s) op type given.0
                (sizes_last x.home.program (form_fixed type (unary op value)) made.marks.reads c1 c_later (scope x) given.0 knows.0.at.owned lasts
                (λ fixed. subst (IsScoped (scope x)) given.1 (knows.2 (or_false (is_steady value) fixed))))
                ∙ result.1)));
          }
