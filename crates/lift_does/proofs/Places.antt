-- Lvalues and their addresses, and loads (ISO C99, 6.3.2.1, 6.5.3.2).
use Rattle.std.proofs.Common.{◌≡◌, ◌⊎◌, inl, inr, ℕ, ◌≤◌, Bool, true, false, [], Some, Result, Ok, refl, sym, ap, subst, ◌∙◌}
use Rattle.cr_base.specs.declared.refusal.Place.{Place}
use Rattle.cr_base.specs.declared.scalar.Scalar.{Scalar}
use Rattle.cr_base.specs.declared.scalar.Scalar.TheVariants as scalars
use Rattle.cr_world.specs.World.{World, blocks_of}
use Rattle.cx_core.specs.Conversions.{scalar_of_pointer}
use Rattle.cx_core.specs.Trees.{CTy, ty, void, basic, enum_type, pointer, array, record_type, function, form_of_type, CExpr, expr, deref, address, type_of}
use Rattle.cx_core.specs.Typing.{IsTyped, IsLvalue}
use Rattle.cx_core.specs.ValidTypes.{IsObjectForm}
use Rattle.cx_mean.specs.Marks.{Marks}
use Rattle.cx_mean.specs.Nodes.{pointed_to}
use Rattle.cx_mean.specs.Operands.{CWhy, CValue, scalar, designates, place_in, scalar_value}
use Rattle.lift_calls.specs.Programs.{setting_in}
use Rattle.lift_does.proofs.Around.{Around, scope, At}
use Rattle.lift_does.proofs.Conversions.{value_based, cast_based}
use Rattle.lift_does.proofs.Lasting.{all_front}
use Rattle.lift_does.proofs.Nodes.{and_then_is, pure_one}
use Rattle.lift_does.proofs.Operands.{node_one, pure_step, scalar_is, or_false, where_used, scalar_given, lvalue_given, other_based, points_at}
use Rattle.lift_does.proofs.Types.{pointer_of_kind}
use Rattle.lift_does.proofs.Unary.{form_fixed, ExprOwes, FormOwes}
use Rattle.lift_does.specs.Does.{is_fixed}
use Rattle.lift_does.specs.Gives.{GivesLvalue, GivesScalar, GivesOperand}
use Rattle.lift_does.specs.Later.{AllOf, IsSameAt}
use Rattle.lift_exprs.specs.Lifted.{lifted, deref_given, address_given}
use Rattle.lift_exprs.specs.Names.{Names, type_in, pointed_type}
use Rattle.lift_exprs.specs.Written.{place_of_given}
use Rattle.lift_forms.specs.Given.{Given, address_of}
use Rattle.lift_forms.specs.Given as given_form
use Rattle.lift_forms.specs.Operators.{given_value}
use Rattle.lift_forms_laws.proofs.Constants.{address_forms}
use Rattle.lift_forms_laws.proofs.Operands.{value_gives}
use Rattle.lift_forms_laws.proofs.Runs.{seq_is, looks_is}
use Rattle.lift_forms_laws.specs.Gives.{GivesAt, GivesPlace, GivenStands}
use Rattle.lift_held.specs.Held.{is_steady, operand}
use Rattle.lift_held.specs.declared.asked.Asked.{Asked}
use Rattle.lift_stands.proofs.Loads.{load_value}
use Rattle.lift_stands.specs.Stands.{Images, ValueBelow, PlaceBelow}
use Rattle.mem_bytes.specs.Access.{value_at}
use Rattle.mem_bytes.specs.Memory.{Blocks}
use Rattle.mem_bytes.specs.declared.value.Ptr.{Ptr}
use Rattle.mem_bytes.specs.declared.value.Value.{Value}
use Rattle.mem_bytes.specs.declared.value.Value.TheVariants.{Whole, Null, Object, Code as Function}
use Rattle.rs_mean.specs.Calls.{Spot, load as rust_load, loaded_as, with_type}
use Rattle.rs_mean.specs.Run.{is_base, run_place}
use Rattle.rs_mean.specs.Scalars.{scalar_of, same_type}
use Rattle.rs_mean.specs.Typing.{is_pointer}
use Rattle.rs_mean.specs.Values.{typed}
use Rattle.rs_text.specs.Tree.{Ty, Integer, Boolean, Void, Pointer, Array, Code, Record, Place as RustPlace, Read}

-- ---- types of pointers

pub pointer_type : (names_of : Names) (type : CTy) → IsObjectForm (form_of_type type) → type_in names_of (ty (pointer type) false) ≡ Pointer (type_in names_of type)
pointer_type names_of (ty (basic which) is_const) is = refl
pointer_type names_of (ty (enum_type number) is_const) is = refl
pointer_type names_of (ty (pointer to) is_const) is = refl
pointer_type names_of (ty (array element length) is_const) is = refl
pointer_type names_of (ty (record_type number) is_const) is = refl
pointer_type names_of (ty void is_const) is = absurd is
pointer_type names_of (ty (function result params variadic) is_const) is = absurd is

pub object_kind : (type : CTy) → IsObjectForm (form_of_type type) → scalar_of_pointer type ≡ scalars.Object
object_kind (ty (basic which) is_const) is = refl
object_kind (ty (enum_type number) is_const) is = refl
object_kind (ty (pointer to) is_const) is = refl
object_kind (ty (array element length) is_const) is = refl
object_kind (ty (record_type number) is_const) is = refl
object_kind (ty void is_const) is = absurd is
object_kind (ty (function result params variadic) is_const) is = absurd is

pub lvalue_object : (x : Around) (e : CExpr) → IsLvalue x.home e → IsObjectForm (form_of_type (type_of e))
lvalue_object x (expr type at form) is = is.1

pub pointed_is : (one : Ty) → is_pointer one ≡ true → one ≡ Pointer (pointed_type one)
pointed_is (Pointer target) is = refl
pointed_is (Integer which) is = cc (is)
pointed_is Boolean is = cc (is)
pointed_is Void is = cc (is)
pointed_is (Array element size) is = cc (is)
pointed_is (Code params result) is = cc (is)
pointed_is (Record m y) is = cc (is)

-- ---- values below

-- what stands for a pointer to an object is one
pub record IsPointerBelow (images : Images) (at : Ptr) (of : Value) : Type 0 where
  pub to : Ptr
  pub is : of ≡ Object to
  pub below : PlaceBelow images at to

pub pointer_below : (images : Images) (at : Ptr) (of : Value) → ValueBelow images (Object at) of → IsPointerBelow images at of
pointer_below images at of (ValueBelow.to_image one to below) = record { to = to; is = refl; below = below }

abbrev ok_value : CValue → Result CValue CWhy
ok_value value = Ok value

same_ok : (one other : CValue) → ok_value one ≡ ok_value other → one ≡ other
same_ok one other e = cc (e)

pointed_designates : (one : Value) (new : CValue) → pointed_to one ≡ Ok new → new ≡ designates one
pointed_designates (Object at) new e = sym (same_ok (designates (Object at)) new e)
pointed_designates Null new e = sym (same_ok (designates Null) new e)
pointed_designates (Whole number) new e = cc (e)
pointed_designates (Function number) new e = cc (e)

module _ (x : Around) where
  -- ---- what a pointer points to

  pointed_lvalue : (images : Images) (world : World) (type : CTy) (from : CExpr) (given : Given) (of_c : Value) → IsObjectForm (form_of_type type) → type_of from ≡ ty (pointer type) false →
      GivesScalar images x.frame world (type_in x.names (type_of from)) given of_c → GivesLvalue images x.frame world (type_in x.names type) (deref_given x.names from given) of_c
  pointed_lvalue images world type from given of_c is same gave =
      let below = value_gives images x.frame world (record { ty = type_in x.names (type_of from); given = given }) of_c gave.stands in
      let pointer_is : type_in x.names (type_of from) ≡ Pointer (type_in x.names type) = ap (type_in x.names) same ∙ pointer_type x.names type is in
      let points = points_at x images world (given_value given) (type_in x.names type) below.other (subst (λ (t : Ty). GivesAt x.frame world (given_value given) t below.other) pointer_is below.gives) (value_based x world given gave.based) in
      record {
        spot = points.spot;
        gives = points.gives;
        ty_is = points.ty_is;
        below = subst (ValueBelow images of_c) (sym points.at_is) below.below;
        based = points.based_is;
        address = points.address;
      }

  pub deref_owes : (asked : Asked) (type : CTy) (at : Place) (from : CExpr) (number : ℕ) (images : Images) (c_world world : World) → At x images c_world world → IsLvalue x.home (expr type at (deref from)) →
      number ≤ (lifted x.names operand from number).next → ExprOwes x operand from number images c_world world → FormOwes x asked type at (deref from) number images c_world world
  deref_owes asked type at from number images c_world world here typed rises owes =
      pure_one x asked.used (form_fixed type (deref from)) (expr type at (deref from)) (deref_given x.names from (lifted x.names operand from number).given) type at (deref from)
      true (is_fixed operand from) from (lifted x.names operand from number) number images c_world world here (inl typed.2.0) (or_false (is_steady from)) rises owes (λ one c1 made knows e.
      let node = node_one (setting_in x.s) type (deref from) (scope x) (blocks_of c1) one made e in
      let step = pure_step node.0 (blocks_of c1) _ made node.2 in
      let parts = and_then_is (scalar_value one.value) pointed_to step.of_c step.is in
      let given_is = scalar_is one.value parts.0 parts.1 in
      record {
        blocks_are = step.blocks_are;
        reads = λ before after all. all_front (IsSameAt before after) one.marks.reads [] (subst (λ (marks : Marks). AllOf (IsSameAt before after) marks.reads) (step.marks_are ∙ node.1) all);
        gives = λ last c_later later there lasts gave. where_used asked.used x last later (expr type at (deref from)) (deref_given x.names from (lifted x.names operand from number).given) made.value (λ _.
            subst (λ (v : CValue). GivesOperand x.s x.names last x.c_frame x.frame later (expr type at (deref from)) (deref_given x.names from (lifted x.names operand from number).given) v)
            (sym (step.value_is ∙ pointed_designates parts.0 step.of_c parts.2))
            (pointed_lvalue last later type from (lifted x.names operand from number).given parts.0 typed.1 typed.2.1.pointer_is
            (scalar_given x last later from (lifted x.names operand from number).given one.value parts.0 given_is gave)));
      })

  -- ---- addresses

  pub address_owes : (asked : Asked) (type : CTy) (at : Place) (of : CExpr) (number : ℕ) (images : Images) (c_world world : World) → At x images c_world world → IsTyped x.home (expr type at (address of)) →
      scalar_of (type_in x.names type) ≡ Some scalars.Object →
      number ≤ (lifted x.names operand of number).next → ExprOwes x operand of number images c_world world → FormOwes x asked type at (address of) number images c_world world
  address_owes asked type at of number images c_world world here typed kind_is rises owes =
      pure_one x asked.used (form_fixed type (address of)) (expr type at (address of)) (address_given x.names type of (lifted x.names operand of number).given) type at (address of)
      true (is_fixed operand of) of (lifted x.names operand of number) number images c_world world here (inr typed.1.0) (or_false (is_steady of)) rises owes (λ one c1 made knows e.
      let node = node_one (setting_in x.s) type (address of) (scope x) (blocks_of c1) one made e in
      let step = pure_step node.0 (blocks_of c1) _ made node.2 in
      let parts = and_then_is (place_in (scope x) one.value) _ step.of_c step.is in
      record {
        blocks_are = step.blocks_are;
        reads = λ before after all. all_front (IsSameAt before after) one.marks.reads [] (subst (λ (marks : Marks). AllOf (IsSameAt before after) marks.reads) (step.marks_are ∙ node.1) all);
        gives = λ last c_later later there lasts gave. where_used asked.used x last later (expr type at (address of)) (address_given x.names type of (lifted x.names operand of number).given) made.value (λ _.
            subst (λ (v : CValue). GivesOperand x.s x.names last x.c_frame x.frame later (expr type at (address of)) (address_given x.names type of (lifted x.names operand of number).given) v)
            (sym (step.value_is ∙ sym (same_ok (scalar parts.0) step.of_c parts.2)))
            (address_given_is last later parts.0 (lvalue_given x last later of (lifted x.names operand of number).given one.value parts.0 parts.1 gave)));
      })
    where
      address_given_is : (last : Images) (later : World) (to : Value) → GivesLvalue last x.frame later (type_in x.names (type_of of)) (lifted x.names operand of number).given to →
          GivesScalar last x.frame later (type_in x.names type) (address_given x.names type of (lifted x.names operand of number).given) to
      address_given_is last later to gave =
          let p = place_of_given (lifted x.names operand of number).given in
          record {
            stands = subst (λ (t : Ty). GivenStands last x.frame later t (address_given x.names type of (lifted x.names operand of number).given) to) (sym (pointed_is (type_in x.names type) (pointer_of_kind (type_in x.names type) kind_is)))
                (address_forms x.frame later last (type_in x.names (type_of of)) (pointed_type (type_in x.names type)) p gave.spot to gave.gives gave.ty_is gave.below);
            based = cast_based x later (same_type (Pointer (type_in x.names (type_of of))) (Pointer (pointed_type (type_in x.names type)))) (address_of p) (Pointer (pointed_type (type_in x.names type))) gave.address;
          }

  -- ---- loads

  -- what a scalar lvalue is based on is the place itself
  pub scalar_based : (blocks : Blocks) (one : Ty) (kind : Scalar) (at : Value) → scalar_of one ≡ Some kind → is_base x.frame.modules blocks one at ≡ true
  scalar_based blocks (Integer which) kind at e = refl
  scalar_based blocks Boolean kind at e = refl
  scalar_based blocks (Pointer target) kind at e = refl
  scalar_based blocks (Code params result) kind at e = refl
  scalar_based blocks Void kind at e = cc
  scalar_based blocks (Array element size) kind at e = cc
  scalar_based blocks (Record m y) kind at e = cc (e)

  pub load_comes : (world : World) (p : RustPlace) (spot : Spot) (one : Ty) (kind : Scalar) (to : Ptr) (other : Value) → GivesPlace x.frame world p spot → spot.ty ≡ one → spot.at ≡ Object to → spot.is_based ≡ true → scalar_of one ≡ Some kind →
      value_at (blocks_of world) to kind ≡ Ok other → GivesAt x.frame world (Read p) one other
  load_comes world p spot one kind to other gives ty_is at_is based_is kind_is found = record {
    runs = λ units. seq_is (run_place x.frame p) rust_load world units spot (gives.runs units)
        ∙ looks_is (λ held. with_type spot.ty (loaded_as held.blocks spot.is_based (scalar_of spot.ty) spot.at)) world units (typed one other) (loads spot.ty spot.at spot.is_based ty_is at_is based_is);
  }
    where
      loads : (t : Ty) (v : Value) (b : Bool) → t ≡ one → v ≡ Object to → b ≡ true → with_type t (loaded_as (blocks_of world) b (scalar_of t) v) ≡ Ok (typed one other)
      loads t v b same there based = rw (same, there, based, kind_is, found) refl

  either_true : (b c : Bool) → (b ≡ true) ⊎ (b ≡ c) → c ≡ true → b ≡ true
  either_true b c (inl is) other = is
  either_true b c (inr is) other = is ∙ other

  -- a scalar that C loads
  pub scalar_loaded_given : (images : Images) (c_world world : World) (one : Ty) (given : Given) (kind : Scalar) (at : Ptr) (of_c : Value) → At x images c_world world → scalar_of one ≡ Some kind → value_at (blocks_of c_world) at kind ≡ Ok of_c →
      GivesLvalue images x.frame world one given (Object at) → GivesScalar images x.frame world one (given_form.place (place_of_given given)) of_c
  scalar_loaded_given images c_world world one given kind at of_c here kind_is found gave =
      let pointer_is = pointer_below images at gave.spot.at gave.below in
      let loaded_is = load_value images (blocks_of c_world) (blocks_of world) at pointer_is.to kind of_c here.worlds.held.memories pointer_is.below found in
      record {
        stands = record {
          other = loaded_is.other;
          gives = load_comes world (place_of_given given) gave.spot one kind pointer_is.to loaded_is.other gave.gives gave.ty_is pointer_is.is
              (either_true gave.spot.is_based (is_base x.frame.modules (blocks_of world) one gave.spot.at) gave.based (scalar_based (blocks_of world) one kind gave.spot.at kind_is)) kind_is loaded_is.found;
          below = loaded_is.below;
        };
        based = other_based x world (given_form.place (place_of_given given)) (λ q same. cc (same));
      }
