-- The temporaries of typed expressions and statements have layouts (ISO C99, 6.5; the Rust Reference, "Type layout").
use Rattle.std.proofs.Common.{◌≡◌, ◌&&◌, ◌||◌, not, Bool, true, false, if◌then◌else◌, List, Option, Some, None, IsSome, refl, sym, ap, subst, ◌∙◌}
use Rattle.cr_base.specs.declared.layout.Laid.{Laid}
use Rattle.cx_core.specs.Layouts.{extent, layouts_of}
use Rattle.cx_core.specs.Trees.{CTy, ty, void, basic, enum_type, pointer, array, record_type, function, unqualified, CTypes, CProgram, CExpr, expr, CForm, whole, null, object, code, load, deref, member, address, convert, unary, binary, and, or, cond, assign, assign_by, step, call, call_by, comma, literal, type_of}
use Rattle.cx_core.specs.Typing.{CHome, IsTyped}
use Rattle.cx_core.specs.ValidTypes.{AreTypes, IsComplete}
use Rattle.lift_exprs.specs.Names.{Names, type_in}
use Rattle.lift_exprs.specs.Temporaries.{own_type}
use Rattle.lift_exprs.specs.Written.{held_type, kind_in, lvalue_kind, value_kind}
use Rattle.lift_held.specs.Held.{is_always_held, is_held_form, is_lvalue, is_lvalue_form, is_named_form, is_record, is_steady_form, is_taken, is_void}
use Rattle.lift_held.specs.declared.asked.Asked.{Asked}
use Rattle.rs_text.specs.Tree.{ModuleTree}
use Rattle.whole_means.proofs.ValueTypes.{value_complete}
use Rattle.whole_means.specs.Layouts.{AreLaid, IsLaid}

-- ---- what is held

complete_some : (types : CTypes) (type : CTy) → IsComplete types type → is_void type ≡ false
complete_some types (ty void is_const) is = absurd cc
complete_some types (ty (basic which) is_const) is = refl
complete_some types (ty (enum_type number) is_const) is = refl
complete_some types (ty (pointer to) is_const) is = refl
complete_some types (ty (array element length) is_const) is = refl
complete_some types (ty (record_type number) is_const) is = refl
complete_some types (ty (function result params variadic) is_const) is = refl

void_no_record : (type : CTy) → is_void type ≡ true → is_record type ≡ false
void_no_record (ty void is_const) is = refl
void_no_record (ty (basic which) is_const) is = refl
void_no_record (ty (enum_type number) is_const) is = refl
void_no_record (ty (pointer to) is_const) is = refl
void_no_record (ty (array element length) is_const) is = refl
void_no_record (ty (record_type number) is_const) is = absurd cc
void_no_record (ty (function result params variadic) is_const) is = refl

-- what gives a value is no lvalue
value_no_lvalue : (home : CHome) (e : CExpr) → IsTyped home e → is_lvalue e ≡ false
value_no_lvalue home (expr type place (whole value)) typed = refl
value_no_lvalue home (expr type place null) typed = refl
value_no_lvalue home (expr type place (object number)) typed = absurd typed.1
value_no_lvalue home (expr type place (code number)) typed = refl
value_no_lvalue home (expr type place (load from)) typed = refl
value_no_lvalue home (expr type place (deref from)) typed = absurd typed.1
value_no_lvalue home (expr type place (member of spot)) typed = value_no_lvalue home of typed.1.0
value_no_lvalue home (expr type place (address of)) typed = refl
value_no_lvalue home (expr type place (convert value)) typed = refl
value_no_lvalue home (expr type place (unary op value)) typed = refl
value_no_lvalue home (expr type place (binary op left right)) typed = refl
value_no_lvalue home (expr type place (and left right)) typed = refl
value_no_lvalue home (expr type place (or left right)) typed = refl
value_no_lvalue home (expr type place (cond test first second)) typed = refl
value_no_lvalue home (expr type place (assign target value)) typed = refl
value_no_lvalue home (expr type place (assign_by op computes target value)) typed = refl
value_no_lvalue home (expr type place (step up post on)) typed = refl
value_no_lvalue home (expr type place (call callee args)) typed = refl
value_no_lvalue home (expr type place (call_by callee args)) typed = refl
value_no_lvalue home (expr type place (comma first second)) typed = refl
value_no_lvalue home (expr type place (literal number puts)) typed = absurd typed.1

-- a node of type `void` isn't held for its kind
void_held_by_none : (home : CHome) (type : CTy) (place : _) (form : CForm) → AreTypes home.program.types → IsTyped home (expr type place form) → is_void type ≡ true → is_always_held type form ≡ false
void_held_by_none home type place (call callee args) are typed is = void_no_record type is
void_held_by_none home type place (call_by callee args) are typed is = void_no_record type is
void_held_by_none home type place (assign target value) are typed is =
    absurd (let some = complete_some home.program.types type (subst (IsComplete home.program.types) (sym typed.1.2.type_is) (plain home.program.types (type_of target) typed.1.2.modifiable.complete)) in let odd : true ≡ false = sym is ∙ some in cc)
  where
    plain : (types : CTypes) (t : CTy) → IsComplete types t → IsComplete types (unqualified t)
    plain types (ty f c) complete = complete
void_held_by_none home type place (assign_by op computes target value) are typed is =
    absurd (let some = complete_some home.program.types type (subst (IsComplete home.program.types) (sym typed.1.2.type_is) (plain home.program.types (type_of target) typed.1.2.modifiable.complete)) in let odd : true ≡ false = sym is ∙ some in cc)
  where
    plain : (types : CTypes) (t : CTy) → IsComplete types t → IsComplete types (unqualified t)
    plain types (ty f c) complete = complete
void_held_by_none home type place (step up post on) are typed is =
    absurd (let some = complete_some home.program.types type (subst (IsComplete home.program.types) (sym typed.1.1.type_is) (plain home.program.types (type_of on) typed.1.1.modifiable.complete)) in let odd : true ≡ false = sym is ∙ some in cc)
  where
    plain : (types : CTypes) (t : CTy) → IsComplete types t → IsComplete types (unqualified t)
    plain types (ty f c) complete = complete
void_held_by_none home type place (whole value) are typed is = refl
void_held_by_none home type place null are typed is = refl
void_held_by_none home type place (object number) are typed is = refl
void_held_by_none home type place (code number) are typed is = refl
void_held_by_none home type place (load from) are typed is = refl
void_held_by_none home type place (deref from) are typed is = refl
void_held_by_none home type place (member of spot) are typed is = refl
void_held_by_none home type place (address of) are typed is = refl
void_held_by_none home type place (convert value) are typed is = refl
void_held_by_none home type place (unary op value) are typed is = refl
void_held_by_none home type place (binary op left right) are typed is = refl
void_held_by_none home type place (and left right) are typed is = refl
void_held_by_none home type place (or left right) are typed is = refl
void_held_by_none home type place (cond test first second) are typed is = refl
void_held_by_none home type place (comma first second) are typed is = refl
void_held_by_none home type place (literal number puts) are typed is = refl

module _ (program : CProgram) (types : AreTypes program.types) (modules : List ModuleTree) (names : Names)
    (type_laid : (type : CTy) (laid : Laid) → extent (layouts_of program.types) type ≡ Some laid → IsLaid modules (type_in names type)) where
  complete_laid : (type : CTy) (found : Option Laid) → extent (layouts_of program.types) type ≡ found → IsSome found → IsLaid modules (type_in names type)
  complete_laid type None is some = absurd cc
  complete_laid type (Some laid) is some = type_laid type laid is

  -- the temporary of a value that is used only where its type isn't `void`
  pub own_laid : (home : CHome) (asked : Asked) (type : CTy) (place : _) (form : CForm) → home.program ≡ program → IsTyped home (expr type place form) → (asked.used ≡ true → is_void type ≡ false) →
      AreLaid modules (own_type (is_held_form asked type form) names type form)
  own_laid home asked type place form same typed used = by_void (is_void type) refl
    where
      no_lvalue : is_lvalue_form form ≡ false
      no_lvalue = value_no_lvalue home (expr type place form) typed

      kind_is : held_type (kind_in names type form) ≡ type_in names type
      kind_is = ap (λ (t : Bool). held_type (if t then lvalue_kind names type form else value_kind names type)) no_lvalue ∙ by_record (is_record type)
        where
          by_record : (t : Bool) → held_type (if t then Rattle.lift_exprs.specs.Written.a_record (type_in names type) (names.size_of type) else Rattle.lift_exprs.specs.Written.a_value (type_in names type)) ≡ type_in names type
          by_record true = refl
          by_record false = refl

      by_held : (t : Bool) → IsLaid modules (type_in names type) → AreLaid modules (own_type t names type form)
      by_held true laid = (subst (IsLaid modules) (sym kind_is) laid, tt)
      by_held false laid = tt

      unused : (t : Bool) → asked.used ≡ t → is_void type ≡ true → asked.used ≡ false
      unused true e is = absurd (let odd : true ≡ false = sym is ∙ used e in cc)
      unused false e is = e

      not_base : (b : Bool) → (b && (false && not (is_named_form form))) ≡ false
      not_base true = refl
      not_base false = refl

      by_void : (t : Bool) → is_void type ≡ t → AreLaid modules (own_type (is_held_form asked type form) names type form)
      by_void false is =
          by_held (is_held_form asked type form)
          (complete_laid type (extent (layouts_of program.types) type) refl (subst (λ (p : CProgram). IsComplete p.types type) same (value_complete home (expr type place form) (subst (λ (p : CProgram). AreTypes p.types) (sym same) types) typed is)))
      by_void true is =
          subst (λ (t : Bool). AreLaid modules (own_type t names type form))
          (sym (ap (λ (t : Bool). t || ((asked.used && (is_taken type form || (asked.pinned && not (is_steady_form form)))) || (asked.is_base && (is_lvalue_form form && not (is_named_form form)))))
          (void_held_by_none home type place form (subst (λ (p : CProgram). AreTypes p.types) (sym same) types) typed is)
          ∙ ap (λ (t : Bool). (t && (is_taken type form || (asked.pinned && not (is_steady_form form)))) || (asked.is_base && (is_lvalue_form form && not (is_named_form form)))) (unused asked.used refl is)
          ∙ ap (λ (t : Bool). asked.is_base && (t && not (is_named_form form))) no_lvalue ∙ not_base asked.is_base))
          tt
