-- Conversions (ISO C99, 6.3).
use Rattle.std.proofs.Common.{◌≡◌, inl, ℕ, ◌≤◌, Bool, true, false, not, if◌then◌else◌, [], Option, Some, None, Result, Ok, refl, sym, subst, ◌∙◌}
use Rattle.cr_base.specs.declared.refusal.Place.{Place}
use Rattle.cr_base.specs.declared.scalar.Scalar.{Scalar}
use Rattle.cr_world.specs.World.{World, blocks_of}
use Rattle.cx_core.specs.Conversions.{scalar_of as c_scalar_of}
use Rattle.cx_core.specs.Trees.{CTy, ty, CTyForm, void, basic, enum_type, pointer, array, record_type, function, form_of_type, CExpr, expr, convert, type_of, CProgram}
use Rattle.cx_core.specs.Typing.{IsTyped, IsConversion}
use Rattle.cx_mean.specs.Marks.{Marks}
use Rattle.cx_mean.specs.Operands.{CWhy, CValue, scalar, scalar_value}
use Rattle.cx_mean.specs.Settings.{CSetting, scalar_in_type}
use Rattle.cx_mean.specs.Values.{to_scalar, converted_scalar, converted_value}
use Rattle.cx_typed_work.specs.Operands.{IsScalarIn}
use Rattle.lift_calls.specs.Programs.{setting_in}
use Rattle.lift_does.proofs.Around.{Around, scope, At}
use Rattle.lift_does.proofs.Lasting.{all_front}
use Rattle.lift_does.proofs.Nodes.{and_then_is, PartOwes, pure_one}
use Rattle.lift_does.proofs.Operands.{node_one, pure_step, scalar_is, or_false, where_used, scalar_in, standing, scalar_given, stands_based, other_based}
use Rattle.lift_does.proofs.Sameness.{scalar_same}
use Rattle.lift_does.proofs.Steady.{IsScoped, sizes_last}
use Rattle.lift_does.proofs.Types.{kind_there, value_there, conversion_there}
use Rattle.lift_does.proofs.Unary.{form_fixed, ExprOwes, FormOwes}
use Rattle.lift_does.specs.Does.{is_fixed, IsAsked}
use Rattle.lift_does.specs.Gives.{GivesScalar, AddressesBased, GivesOperand}
use Rattle.lift_does.specs.Later.{AllOf, IsSameAt}
use Rattle.lift_exprs.specs.Lifted.{lifted, operand_of}
use Rattle.lift_exprs.specs.Names.{type_in}
use Rattle.lift_exprs.specs.Written.{Written, then_gives}
use Rattle.lift_forms.specs.Given.{Given}
use Rattle.lift_forms.specs.Given as given_form
use Rattle.lift_forms.specs.Operators.{Operand, given_value, value_of, converted}
use Rattle.lift_forms_laws.proofs.Conversions.{converted_by}
use Rattle.lift_forms_laws.specs.Gives.{GivenStands}
use Rattle.lift_held.specs.Held.{is_steady, operand, part_of, is_void}
use Rattle.lift_held.specs.declared.asked.Asked.{Asked}
use Rattle.lift_stands.specs.Stands.{Images}
use Rattle.mem_bytes.specs.Memory.{Blocks}
use Rattle.mem_bytes.specs.declared.value.Value.{Value}
use Rattle.rs_mean.specs.Scalars.{same_type}
use Rattle.rs_text.specs.Tree.{Ty, Integer, Boolean, Void, Pointer, Array, Code, Record, Expr, Cast}

-- what a conversion to a scalar type found
pub record IsConverted (setting : CSetting) (type : CTy) (blocks : Blocks) (given new : CValue) : Type 0 where
  pub kind : Scalar
  pub kind_is : scalar_in_type setting type ≡ Some kind
  pub one : Value
  pub given_is : given ≡ scalar one
  pub other : Value
  pub found : to_scalar kind blocks one ≡ Ok other
  pub new_is : new ≡ scalar other

abbrev ok_value : CValue → Result CValue CWhy
ok_value value = Ok value

same_ok : (one other : CValue) → ok_value one ≡ ok_value other → one ≡ other
same_ok one other e = cc (e)

converted_kind : (setting : CSetting) (type : CTy) (blocks : Blocks) (given new : CValue) (found : Option Scalar) → scalar_in_type setting type ≡ found → converted_scalar found blocks given ≡ Ok new → IsConverted setting type blocks given new
converted_kind setting type blocks given new None is e = cc (e)
converted_kind setting type blocks given new (Some kind) is e =
    let parts = and_then_is (scalar_value given) _ new e in
    let more = and_then_is (to_scalar kind blocks parts.0) _ new parts.2 in
    record { kind = kind; kind_is = is; one = parts.0; given_is = scalar_is given parts.0 parts.1; other = more.0; found = more.1; new_is = sym (same_ok (scalar more.0) new more.2) }

pub conversion_is : (setting : CSetting) (form : CTyForm) (is_const : Bool) (blocks : Blocks) (given new : CValue) → is_void (ty form is_const) ≡ false → converted_value setting (ty form is_const) blocks given ≡ Ok new →
    IsConverted setting (ty form is_const) blocks given new
conversion_is setting void is_const blocks given new plainly e = cc (plainly)
conversion_is setting (basic which) is_const blocks given new plainly e = converted_kind setting (ty (basic which) is_const) blocks given new (scalar_in_type setting (ty (basic which) is_const)) refl e
conversion_is setting (enum_type number) is_const blocks given new plainly e = converted_kind setting (ty (enum_type number) is_const) blocks given new (scalar_in_type setting (ty (enum_type number) is_const)) refl e
conversion_is setting (pointer to) is_const blocks given new plainly e = converted_kind setting (ty (pointer to) is_const) blocks given new (scalar_in_type setting (ty (pointer to) is_const)) refl e
conversion_is setting (array element length) is_const blocks given new plainly e = cc (e)
conversion_is setting (record_type number) is_const blocks given new plainly e = cc (e)
conversion_is setting (function result params variadic) is_const blocks given new plainly e = cc (e)

module _ (x : Around) where
  -- an address is given as what it is
  pub value_based : (world : World) (given : Given) → AddressesBased x.frame world given → AddressesBased x.frame world (given_form.value (given_value given))
  value_based world given_form.nothing based = other_based x world _ (λ p same. cc (same))
  value_based world (given_form.truth e) based = other_based x world _ (λ p same. cc (same))
  value_based world (given_form.value e) based = based
  value_based world (given_form.place p) based = other_based x world _ (λ q same. cc (same))

  pub cast_based : (world : World) (test : Bool) (e : Expr) (to : Ty) → AddressesBased x.frame world (given_form.value e) → AddressesBased x.frame world (given_form.value (if test then e else Cast e to))
  cast_based world true e to based = based
  cast_based world false e to based = other_based x world _ (λ p same. cc (same))

  converted_based : (images : Images) (world : World) (to : Ty) (of : Operand) (new : Value) → GivenStands images x.frame world to (converted to of) new → AddressesBased x.frame world of.given → AddressesBased x.frame world (converted to of)
  converted_based images world (Integer which) of new stands based = stands_based x images world (Integer which) (converted (Integer which) of) new refl stands
  converted_based images world Boolean of new stands based = stands_based x images world Boolean (converted Boolean of) new refl stands
  converted_based images world (Code params result) of new stands based = stands_based x images world (Code params result) (converted (Code params result) of) new refl stands
  converted_based images world (Pointer target) of new stands based = cast_based world (same_type of.ty (Pointer target)) (value_of of) (Pointer target) (value_based world of.given based)
  converted_based images world Void of new stands based = absurd stands
  converted_based images world (Array element size) of new stands based = absurd stands
  converted_based images world (Record m y) of new stands based = absurd stands

  kind_back : (type : CTy) (kind : Scalar) → scalar_in_type (setting_in x.s) type ≡ Some kind → c_scalar_of x.home.program.types (form_of_type type) ≡ Some kind
  kind_back type kind e = subst (λ (program : CProgram). c_scalar_of program.types (form_of_type type) ≡ Some kind) (sym x.means.program) e

  -- what a conversion makes of a scalar value
  pub converted_scalar_given : (images : Images) (c_world world : World) (type from : CTy) (kind : Scalar) (given : Given) (of_c new : Value) → At x images c_world world → IsConversion x.home.program.types from type →
      scalar_in_type (setting_in x.s) type ≡ Some kind → IsScalarIn x.home.program from of_c → GivesScalar images x.frame world (type_in x.names from) given of_c → to_scalar kind (blocks_of c_world) of_c ≡ Ok new →
      GivesScalar images x.frame world (type_in x.names type) (converted (type_in x.names type) (record { ty = type_in x.names from; given = given })) new
  converted_scalar_given images c_world world type from kind given of_c new at is kind_is of gave e =
      let back = kind_back type kind kind_is in
      let stands = converted_by images x.frame world (blocks_of c_world) (standing x images c_world world at) kind (record { ty = type_in x.names from; given = given }) (type_in x.names type) of_c new gave.stands
      (value_there x from of_c of) (conversion_there x from type kind of_c is back of) (kind_there x type kind back) e in
      record { stands = stands; based = converted_based images world (type_in x.names type) (record { ty = type_in x.names from; given = given }) new stands gave.based }

  abbrev convert_written : CTy → CExpr → Bool → ℕ → Written
  convert_written type value of_void from =
      then_gives (if of_void then given_form.nothing else converted (type_in x.names type) (operand_of x.names value (lifted x.names (part_of (not of_void)) value from).given)) (lifted x.names (part_of (not of_void)) value from)

  to_scalar_owes : (asked : Asked) (form : CTyForm) (is_const : Bool) (at : Place) (value : CExpr) (from : ℕ) (images : Images) (c_world world : World) → At x images c_world world → IsTyped x.home (expr (ty form is_const) at (convert value)) →
      is_void (ty form is_const) ≡ false → from ≤ (lifted x.names operand value from).next → ExprOwes x operand value from images c_world world →
      PartOwes x asked.used (form_fixed (ty form is_const) (convert value)) (expr (ty form is_const) at (convert value)) (convert_written (ty form is_const) value false from) from images c_world world
  to_scalar_owes asked form is_const at value from images c_world world here typed plainly rises owes =
      let type = ty form is_const in
      pure_one x asked.used (form_fixed type (convert value)) (expr type at (convert value)) (converted (type_in x.names type) (operand_of x.names value (lifted x.names operand value from).given)) type at (convert value)
      true (is_fixed operand value) value (lifted x.names operand value from) from images c_world world here (inl typed.1.0) (or_false (is_steady value)) rises owes (λ one c1 made knows e.
      let node = node_one (setting_in x.s) type (convert value) (scope x) (blocks_of c1) one made e in
      let step = pure_step node.0 (blocks_of c1) _ made node.2 in
      let is = conversion_is (setting_in x.s) form is_const (blocks_of c1) one.value step.of_c plainly step.is in
      let of = scalar_in x value one is.one typed.1.0 knows.0.operand_is is.given_is in
      record {
        blocks_are = step.blocks_are;
        reads = λ before after all. all_front (IsSameAt before after) one.marks.reads [] (subst (λ (marks : Marks). AllOf (IsSameAt before after) marks.reads) (step.marks_are ∙ node.1) all);
        gives = λ last c_later later there lasts gave. where_used asked.used x last later (expr type at (convert value)) (converted (type_in x.names type) (operand_of x.names value (lifted x.names operand value from).given)) made.value (λ _.
            subst (λ (v : CValue). GivesOperand x.s x.names last x.c_frame x.frame later (expr type at (convert value)) (converted (type_in x.names type) (operand_of x.names value (lifted x.names operand value from).given)) v)
            (sym (step.value_is ∙ is.new_is))
            (converted_scalar_given last c_later later type (type_of value) is.kind (lifted x.names operand value from).given is.one is.other there typed.1.1 is.kind_is of
            (scalar_given x last later value (lifted x.names operand value from).given one.value is.one is.given_is gave)
            (scalar_same c1 c_later is.kind is.one
            (sizes_last x.home.program (form_fixed type (convert value)) made.marks.reads c1 c_later (scope x) is.one knows.0.at.owned lasts (λ fixed. subst (IsScoped (scope x)) is.given_is (knows.2 (or_false (is_steady value) fixed))))
            ∙ is.found)));
      })

  -- to `void`: the value is dropped
  to_void_owes : (asked : Asked) (form : CTyForm) (is_const : Bool) (at : Place) (value : CExpr) (from : ℕ) (images : Images) (c_world world : World) → At x images c_world world → IsTyped x.home (expr (ty form is_const) at (convert value)) →
      (asked.used ≡ true → ⊥) → from ≤ (lifted x.names (part_of false) value from).next → ExprOwes x (part_of false) value from images c_world world →
      PartOwes x asked.used (form_fixed (ty form is_const) (convert value)) (expr (ty form is_const) at (convert value)) (convert_written (ty form is_const) value true from) from images c_world world
  to_void_owes asked form is_const at value from images c_world world here typed unused rises owes =
      let type = ty form is_const in
      pure_one x asked.used (form_fixed type (convert value)) (expr type at (convert value)) given_form.nothing type at (convert value)
      false (is_fixed (part_of false) value) value (lifted x.names (part_of false) value from) from images c_world world here (inl typed.1.0) (or_false (is_steady value)) rises owes (λ one c1 made knows e.
      let node = node_one (setting_in x.s) type (convert value) (scope x) (blocks_of c1) one made e in
      let step = pure_step node.0 (blocks_of c1) _ made node.2 in
      record {
        blocks_are = step.blocks_are;
        reads = λ before after all. all_front (IsSameAt before after) one.marks.reads [] (subst (λ (marks : Marks). AllOf (IsSameAt before after) marks.reads) (step.marks_are ∙ node.1) all);
        gives = λ last c_later later there lasts gave. where_used asked.used x last later (expr type at (convert value)) given_form.nothing made.value (λ is. absurd (unused is));
      })

  pub convert_owes : (asked : Asked) (form : CTyForm) (is_const : Bool) (at : Place) (value : CExpr) (from : ℕ) (images : Images) (c_world world : World) → At x images c_world world → IsTyped x.home (expr (ty form is_const) at (convert value)) →
      IsAsked asked (expr (ty form is_const) at (convert value)) → from ≤ (lifted x.names (part_of (not (is_void (ty form is_const)))) value from).next →
      ExprOwes x (part_of (not (is_void (ty form is_const)))) value from images c_world world → FormOwes x asked (ty form is_const) at (convert value) from images c_world world
  convert_owes asked form is_const at value from images c_world world here typed is rises owes = by (is_void (ty form is_const)) refl rises owes
    where
      by : (of_void : Bool) → is_void (ty form is_const) ≡ of_void → from ≤ (lifted x.names (part_of (not of_void)) value from).next → ExprOwes x (part_of (not of_void)) value from images c_world world →
          PartOwes x asked.used (form_fixed (ty form is_const) (convert value)) (expr (ty form is_const) at (convert value)) (convert_written (ty form is_const) value of_void from) from images c_world world
      by false plainly up part_owes = to_scalar_owes asked form is_const at value from images c_world world here typed plainly up part_owes
      by true void_is up part_owes = to_void_owes asked form is_const at value from images c_world world here typed (λ used. let clash : true ≡ false = sym void_is ∙ is.used used in cc (clash)) up part_owes
