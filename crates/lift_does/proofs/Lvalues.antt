-- An lvalue that is no bit-field is given as a place.
use Rattle.std.proofs.Common.{◌≡◌, ℕ, ◌==◌, Bool, true, false, not, refl, sym, ap, ◌∙◌, arith}
use Rattle.std.proofs.lemmas.Bool.Decides.{nat_tests}
use Rattle.cr_base.specs.declared.refusal.Place.{Place}
use Rattle.cx_core.specs.Trees.{CTy, CExpr, expr, CForm, whole, null, object, code, load, deref, member, address, convert, unary, binary, and, or, cond, assign, assign_by, step, call, call_by, comma, literal, type_of, form_of_type}
use Rattle.cx_core.specs.Typing.{CHome, IsLvalue, is_bit_field}
use Rattle.cx_core.specs.ValidTypes.{AreTypes, IsMemberOf}
use Rattle.cx_typed_work.proofs.Fields.{field_at, holder_is_record}
use Rattle.lift_does.proofs.Around.{Around}
use Rattle.lift_does.proofs.Asking.{held_test, place_kind_is}
use Rattle.lift_does.proofs.Members.{lvalue_is, given_is}
use Rattle.lift_exprs.specs.Lifted.{lifted, lifted_form}
use Rattle.lift_exprs.specs.Names.{type_in}
use Rattle.lift_exprs.specs.Objects.{object_at}
use Rattle.lift_exprs.specs.Written.{Written, NodeKind, a_place, kind_in, held_where}
use Rattle.lift_forms.specs.Given.{Given}
use Rattle.lift_forms.specs.Given as given_form
use Rattle.lift_held.specs.Held.{is_lvalue_form, whole_of}
use Rattle.lift_held.specs.declared.asked.Asked.{Asked}
use Rattle.rs_text.specs.Tree.{Place as RustPlace}

pub no_width : (width : ℕ) → not (width == 0) ≡ false → width ≡ 0
no_width width e = grind (arith, nat_tests)

pub some_width : (width : ℕ) → not (width == 0) ≡ true → width ≡ 0 → ⊥
some_width width is zero = let clash : true ≡ false = sym is ∙ ap (λ n. not (n == 0)) zero in cc (clash)

-- what holds a bit-field is no bit-field
pub holder_plain : (home : CHome) (type : CTy) (e : CExpr) (spot : _) → AreTypes home.program.types → IsLvalue home e → IsMemberOf home.program.types (type_of e) spot type → is_bit_field e ≡ false
holder_plain home type (expr own at (member of inner)) spot are lvalue is = by (not (inner.width == 0)) refl
  where
    by : (test : Bool) → not (inner.width == 0) ≡ test → test ≡ false
    by false e = refl
    by true e =
        let field = field_at home.program.types (type_of of) inner own are lvalue.2.1 (some_width inner.width e) in
        absurd (holder_is_record home.program.types (form_of_type own) is.index is.one field.field.kind is.member_is field.field.kind_is)
holder_plain home type (expr own at (object number)) spot are lvalue is = refl
holder_plain home type (expr own at (deref from)) spot are lvalue is = refl
holder_plain home type (expr own at (literal number puts)) spot are lvalue is = refl
holder_plain home type (expr own at (whole value)) spot are lvalue is = absurd lvalue.2
holder_plain home type (expr own at null) spot are lvalue is = absurd lvalue.2
holder_plain home type (expr own at (code number)) spot are lvalue is = absurd lvalue.2
holder_plain home type (expr own at (load from)) spot are lvalue is = absurd lvalue.2
holder_plain home type (expr own at (address of)) spot are lvalue is = absurd lvalue.2
holder_plain home type (expr own at (convert value)) spot are lvalue is = absurd lvalue.2
holder_plain home type (expr own at (unary op value)) spot are lvalue is = absurd lvalue.2
holder_plain home type (expr own at (binary op left right)) spot are lvalue is = absurd lvalue.2
holder_plain home type (expr own at (and left right)) spot are lvalue is = absurd lvalue.2
holder_plain home type (expr own at (or left right)) spot are lvalue is = absurd lvalue.2
holder_plain home type (expr own at (cond test first second)) spot are lvalue is = absurd lvalue.2
holder_plain home type (expr own at (assign target value)) spot are lvalue is = absurd lvalue.2
holder_plain home type (expr own at (assign_by op computes target value)) spot are lvalue is = absurd lvalue.2
holder_plain home type (expr own at (step up post on)) spot are lvalue is = absurd lvalue.2
holder_plain home type (expr own at (call callee args)) spot are lvalue is = absurd lvalue.2
holder_plain home type (expr own at (call_by callee args)) spot are lvalue is = absurd lvalue.2
holder_plain home type (expr own at (comma first second)) spot are lvalue is = absurd lvalue.2

module _ (x : Around) where
  pub form_place : (asked : Asked) (type : CTy) (at : Place) (form : CForm) (from : ℕ) → IsLvalue x.home (expr type at form) → is_bit_field (expr type at form) ≡ false →
      (p : RustPlace) × ((lifted_form x.names asked type form from).given ≡ given_form.place p)
  form_place asked type at (object number) from typed plainly = (object_at x.names type number, refl)
  form_place asked type at (deref of) from typed plainly = (_, refl)
  form_place asked type at (member of spot) from typed plainly = (_, given_is x type of spot (lifted x.names (whole_of spot) of from).given (no_width spot.width plainly) (lvalue_is x.home of typed.2.0))
  form_place asked type at (literal number puts) from typed plainly = (_, refl)
  form_place asked type at (whole value) from typed plainly = absurd typed.2
  form_place asked type at null from typed plainly = absurd typed.2
  form_place asked type at (code number) from typed plainly = absurd typed.2
  form_place asked type at (load of) from typed plainly = absurd typed.2
  form_place asked type at (address of) from typed plainly = absurd typed.2
  form_place asked type at (convert of) from typed plainly = absurd typed.2
  form_place asked type at (unary op of) from typed plainly = absurd typed.2
  form_place asked type at (binary op left right) from typed plainly = absurd typed.2
  form_place asked type at (and left right) from typed plainly = absurd typed.2
  form_place asked type at (or left right) from typed plainly = absurd typed.2
  form_place asked type at (cond test first second) from typed plainly = absurd typed.2
  form_place asked type at (assign target value) from typed plainly = absurd typed.2
  form_place asked type at (assign_by op computes target value) from typed plainly = absurd typed.2
  form_place asked type at (step up post on) from typed plainly = absurd typed.2
  form_place asked type at (call callee args) from typed plainly = absurd typed.2
  form_place asked type at (call_by callee args) from typed plainly = absurd typed.2
  form_place asked type at (comma first second) from typed plainly = absurd typed.2

  pub lvalue_kind_is : (type : CTy) (at : Place) (form : CForm) → is_lvalue_form form ≡ true → is_bit_field (expr type at form) ≡ false → kind_in x.names type form ≡ a_place (type_in x.names type)
  lvalue_kind_is type at form is plainly = rw (is) (place_kind_is x.names type at form plainly)

  held_place : (test : Bool) (kind : NodeKind) (ty : _) (written : Written) → kind ≡ a_place ty → (p : RustPlace) × (written.given ≡ given_form.place p) → (p : RustPlace) × ((held_where test x.names kind written).given ≡ given_form.place p)
  held_place false kind ty written kind_is found = found
  held_place true kind ty written kind_is found = (_, ap (λ (k : NodeKind). (held_where true x.names k written).given) kind_is)

  pub node_place : (asked : Asked) (e : CExpr) (from : ℕ) → IsLvalue x.home e → is_bit_field e ≡ false → (p : RustPlace) × ((lifted x.names asked e from).given ≡ given_form.place p)
  node_place asked (expr type at form) from typed plainly =
      held_place (held_test asked type form) (kind_in x.names type form) (type_in x.names type) (lifted_form x.names asked type form from)
      (lvalue_kind_is type at form (lvalue_is x.home (expr type at form) typed) plainly) (form_place asked type at form from typed plainly)
