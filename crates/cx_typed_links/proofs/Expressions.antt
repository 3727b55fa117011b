-- A typed expression of a unit, renumbered, is typed in the program (ISO C99, 6.5).
use Rattle.std.proofs.Common.{◌≡◌, ◌⊎◌, ℕ, ◌+◌, ◌*◌, false, List, Option, None, Some, option_map, refl, sym, ap, ◌∙◌, subst}
use Rattle.std.specs.Prelude.{IsSome, IfSome}
use Rattle.cx_core.specs.declared.expr.Op2.{Op2}
use Rattle.cx_core.specs.Trees.{CTy, ty, pointer, array, CExpr, expr, CForm, whole, null, object, code, load, deref, member, address, convert, unary, binary, and, or, cond, assign, assign_by, step, call, call_by, comma, literal, CExprs, no_exprs, more_exprs, CPut, put, CPuts, no_puts, more_puts, type_of, CProgram, CObject, CMention}
use Rattle.cx_core.specs.Conversions.{promoted}
use Rattle.cx_core.specs.Typing.{CHome, object_with, IsLoadOf, IsDerefOf, IsMemberValue, IsConversion, IsUnaryOf, IsBinaryOf, AreTested, IsChoice, IsAssignOf, IsComputedIn, IsStepOf, IsCallBy, IsPutOf, IsAddressOf, is_bit_field, width_of, IsAssignByOf, IsLiteralOf, IsLiteral, IsTyped, IsTypedForm, IsLvalue, IsLvalueForm, AreTyped, ArePuts, IsTypedPut, AreInOrder, AreTypedPuts}
use Rattle.cx_core.specs.ValidTypes.{IsTypeIn, IsMemberOf}
use Rattle.cx_renumber.specs.Numbers.{CNumbers, type_there, object_there, expr_there, value_there, exprs_there, put_there, puts_there}
use Rattle.cx_typed_links.proofs.Calls.{HaveTypesIn, call_by_there}
use Rattle.cx_typed_links.proofs.Constant.{modifiable_there}
use Rattle.cx_typed_links.proofs.Listed.{contains_there}
use Rattle.cx_typed_links.proofs.Operators.{either, constant_there, pointer_there, load_there, deref_there, member_value_there, put_of_there, conversion_there, unary_there, binary_there, tested_there, choice_there, assign_there, computed_of_there, step_there}
use Rattle.cx_typed_links.proofs.Parts.{is_member_there}
use Rattle.cx_typed_links.proofs.Types.{unqualified_there, of_object_there, type_in_there}
use Rattle.cx_typed_links.specs.Homes.{home_here, home_there, NamesHold}

module _ (numbers : CNumbers) where
  abbrev moved : CTy → CTy
  moved type = type_there numbers.before type

  abbrev goes : CExpr → CExpr
  goes of = expr_there numbers of

  -- what is said of the renumbered type of an expression is said of the type of the renumbered expression
  pub typed_as : (P : CTy → Type 0) (of : CExpr) → P (moved (type_of of)) → P (type_of (goes of))
  typed_as P (expr type place form) held = held

  pub typed_as_both : (P : CTy → CTy → Type 0) (left right : CExpr) → P (moved (type_of left)) (moved (type_of right)) → P (type_of (goes left)) (type_of (goes right))
  typed_as_both P (expr left left_place left_form) (expr right right_place right_form) held = held

  -- ---- what the form of an lvalue says

  pub bit_field_goes : (of : CExpr) → is_bit_field (goes of) ≡ is_bit_field of
  bit_field_goes (expr type place (whole value)) = refl
  bit_field_goes (expr type place null) = refl
  bit_field_goes (expr type place (object number)) = refl
  bit_field_goes (expr type place (code number)) = refl
  bit_field_goes (expr type place (load from)) = refl
  bit_field_goes (expr type place (deref from)) = refl
  bit_field_goes (expr type place (member of spot)) = refl
  bit_field_goes (expr type place (address of)) = refl
  bit_field_goes (expr type place (convert value)) = refl
  bit_field_goes (expr type place (unary op value)) = refl
  bit_field_goes (expr type place (binary op left right)) = refl
  bit_field_goes (expr type place (and left right)) = refl
  bit_field_goes (expr type place (or left right)) = refl
  bit_field_goes (expr type place (cond test first second)) = refl
  bit_field_goes (expr type place (assign target value)) = refl
  bit_field_goes (expr type place (assign_by op computes target value)) = refl
  bit_field_goes (expr type place (step up post on)) = refl
  bit_field_goes (expr type place (call callee args)) = refl
  bit_field_goes (expr type place (call_by callee args)) = refl
  bit_field_goes (expr type place (comma first second)) = refl
  bit_field_goes (expr type place (literal number puts)) = refl

  pub width_goes : (of : CExpr) → width_of (goes of) ≡ width_of of
  width_goes (expr type place (whole value)) = refl
  width_goes (expr type place null) = refl
  width_goes (expr type place (object number)) = refl
  width_goes (expr type place (code number)) = refl
  width_goes (expr type place (load from)) = refl
  width_goes (expr type place (deref from)) = refl
  width_goes (expr type place (member of spot)) = refl
  width_goes (expr type place (address of)) = refl
  width_goes (expr type place (convert value)) = refl
  width_goes (expr type place (unary op value)) = refl
  width_goes (expr type place (binary op left right)) = refl
  width_goes (expr type place (and left right)) = refl
  width_goes (expr type place (or left right)) = refl
  width_goes (expr type place (cond test first second)) = refl
  width_goes (expr type place (assign target value)) = refl
  width_goes (expr type place (assign_by op computes target value)) = refl
  width_goes (expr type place (step up post on)) = refl
  width_goes (expr type place (call callee args)) = refl
  width_goes (expr type place (call_by callee args)) = refl
  width_goes (expr type place (comma first second)) = refl
  width_goes (expr type place (literal number puts)) = refl

  pub in_order_goes : (from : ℕ) (puts : CPuts) → AreInOrder from puts → AreInOrder from (puts_there numbers puts)
  in_order_goes from no_puts held = held
  in_order_goes from (more_puts (put spot type value) others) held = (held.0, in_order_goes (8 * spot.byte + spot.bit) others held.1)

  -- ---- addresses

  abbrev IsFirst : CTy → CTy → Type 0
  IsFirst type (ty (array element length) is_const) = type ≡ ty (pointer element) false
  IsFirst type _ = ⊥

  first_goes : (type of : CTy) → IsFirst type of → IsFirst (moved type) (moved of)
  first_goes type (ty (array element length) is_const) held = ap moved held
  first_goes type (ty form is_const) held = absurd held

  address_goes : (type : CTy) (of : CExpr) → IsAddressOf type of → IsAddressOf (moved type) (goes of)
  address_goes type of held = record {
    no_bits = bit_field_goes of ∙ held.no_bits;
    type_is = typed_as (λ found. (moved type ≡ ty (pointer found) false) ⊎ IsFirst (moved type) found) of
        (either (λ is. ap moved is) (first_goes type (type_of of)) held.type_is);
  }

module _ (unit : ℕ) (numbers : CNumbers) (mentions : Option (List CMention)) (one program : CProgram) (holds : NamesHold unit numbers mentions one program) where
  abbrev known_in : CTy → Type 0
  known_in type = IsTypeIn one.types unit type

  module _ (scope : List ℕ) where
    abbrev here : CHome
    here = home_here unit numbers mentions one program scope

    abbrev there : CHome
    there = home_there unit numbers mentions one program scope

    type_known : (type : CTy) → known_in type → IsTypeIn program.types unit (moved numbers type)
    type_known type held = type_in_there numbers.before one.types program.types holds.types.inside unit type held

    pub typed_known : (of : CExpr) → IsTyped here of → known_in (type_of of)
    typed_known (expr type place form) held = held.0

    lvalue_known : (of : CExpr) → IsLvalue here of → known_in (type_of of)
    lvalue_known (expr type place form) held = held.0

    args_known : (args : CExprs) → AreTyped here args → HaveTypesIn one.types unit args
    args_known no_exprs held = tt
    args_known (more_exprs first others) held = (typed_known first held.0, args_known others held.1)

    -- ---- the object of a compound literal

    literal_by : (type : CTy) (number : ℕ) (found : Option CObject) → object_with number one.objects ≡ found → IsSome found → IfSome found (IsLiteralOf here type)
        → IsLiteral there (moved numbers type) (numbers.object_for number)
    literal_by type number None is some held = absurd cc
    literal_by type number (Some known) is some held =
        let held_there : IsLiteralOf there (moved numbers type) (object_there numbers known) = record {
          type_is = ap (moved numbers) held.type_is;
          unnamed = held.unnamed;
          no_text = held.no_text;
          block_object = (held.block_object.0, ap (option_map (puts_there numbers)) held.block_object.1);
          there = contains_there numbers.object_for scope known.object held.there;
        } in
        let found : object_with (numbers.object_for number) program.objects ≡ Some (object_there numbers known) =
        holds.own_objects number known is held.block_object.0 in
        subst (λ (other : Option CObject). IsSome other × IfSome other (IsLiteralOf there (moved numbers type))) (sym found) (refl, held_there)

    -- ---- assignments with an operator

    assign_by_goes : (op : Op2) (type computes : CTy) (target : CExpr) (value : CExpr) → known_in (type_of target) → known_in (type_of value)
        → IsAssignByOf one.types op type computes target (type_of value)
        → IsAssignByOf program.types op (moved numbers type) (moved numbers computes) (goes numbers target) (type_of (goes numbers value))
    assign_by_goes op type computes target value target_known value_known held =
        typed_as numbers (IsAssignByOf program.types op (moved numbers type) (moved numbers computes) (goes numbers target)) value
        (by_target target target_known held)
      where
        by_target : (target : CExpr) → known_in (type_of target) → IsAssignByOf one.types op type computes target (type_of value)
            → IsAssignByOf program.types op (moved numbers type) (moved numbers computes) (goes numbers target) (moved numbers (type_of value))
        by_target (expr of place form) of_known by = record {
          modifiable = modifiable_there numbers.before one.types program.types holds.types.inside of by.modifiable;
          type_is = ap (moved numbers) by.type_is ∙ unqualified_there numbers.before of;
          computed = subst (λ bits. IsComputedIn program.types op (moved numbers computes) (promoted program.types (moved numbers of) bits) (moved numbers (type_of value)))
              (sym (width_goes numbers (expr of place form)))
              (computed_of_there unit numbers.before one.types program.types holds.types op computes of (width_of (expr of place form)) (type_of value) of_known value_known by.computed);
        }

    mutual
      pub expr_goes : (of : CExpr) → IsTyped here of → IsTyped there (goes numbers of)
      expr_goes (expr type place form) held = (type_known type held.0, form_goes type form held.0 held.1)

      form_goes : (type : CTy) (form : CForm) → known_in type → IsTypedForm here type form → IsTypedForm there (moved numbers type) (value_there numbers form)
      form_goes type (whole value) known held = constant_there unit numbers.before one.types program.types holds.types type value known held
      form_goes type null known held = pointer_there unit numbers.before one.types program.types holds.types type held
      form_goes type (object number) known held = held
      form_goes type (code number) known held = holds.uses.codes scope number type known held
      form_goes type (load from) known held = (
        lvalue_goes from held.0,
        typed_as numbers (IsLoadOf program.types (moved numbers type)) from
            (load_there unit numbers.before one.types program.types holds.types type (type_of from) held.1),
      )
      form_goes type (deref from) known held = held
      form_goes type (member of spot) known held = (
        expr_goes of held.0,
        typed_as numbers (λ holder. IsMemberValue program.types holder spot (moved numbers type)) of
            (member_value_there unit numbers.before one.types program.types holds.types (type_of of) spot type held.1),
      )
      form_goes type (address of) known held = (lvalue_goes of held.0, address_goes numbers type of held.1)
      form_goes type (convert value) known held = (
        expr_goes value held.0,
        typed_as numbers (λ from. IsConversion program.types from (moved numbers type)) value
            (conversion_there unit numbers.before one.types program.types holds.types (type_of value) type (typed_known value held.0) held.1),
      )
      form_goes type (unary op value) known held = (
        expr_goes value held.0,
        typed_as numbers (IsUnaryOf program.types op (moved numbers type)) value
            (unary_there unit numbers.before one.types program.types holds.types op type (type_of value) (typed_known value held.0) held.1),
      )
      form_goes type (binary op left right) known held = (
        expr_goes left held.0,
        expr_goes right held.1,
        typed_as_both numbers (IsBinaryOf program.types op (moved numbers type)) left right
            (binary_there unit numbers.before one.types program.types holds.types type (type_of left) (type_of right)
            (typed_known left held.0) (typed_known right held.1) op held.2),
      )
      form_goes type (and left right) known held = (
        expr_goes left held.0,
        expr_goes right held.1,
        typed_as_both numbers (AreTested program.types (moved numbers type)) left right
            (tested_there unit numbers.before one.types program.types holds.types type (type_of left) (type_of right)
            (typed_known left held.0) (typed_known right held.1) held.2),
      )
      form_goes type (or left right) known held = (
        expr_goes left held.0,
        expr_goes right held.1,
        typed_as_both numbers (AreTested program.types (moved numbers type)) left right
            (tested_there unit numbers.before one.types program.types holds.types type (type_of left) (type_of right)
            (typed_known left held.0) (typed_known right held.1) held.2),
      )
      form_goes type (cond test first second) known held = (
        expr_goes test held.0,
        expr_goes first held.1,
        expr_goes second held.2,
        typed_as numbers (λ tested. IsChoice program.types (moved numbers type) tested (type_of (goes numbers first)) (type_of (goes numbers second))) test
            (typed_as_both numbers (IsChoice program.types (moved numbers type) (moved numbers (type_of test))) first second
            (choice_there unit numbers.before one.types program.types holds.types type (type_of test) (type_of first) (type_of second)
            (typed_known test held.0) held.3)),
      )
      form_goes type (assign target value) known held = (
        lvalue_goes target held.0,
        expr_goes value held.1,
        typed_as_both numbers (IsAssignOf program.types (moved numbers type)) target value
            (assign_there unit numbers.before one.types program.types holds.types type (type_of target) (type_of value) held.2),
      )
      form_goes type (assign_by op computes target value) known held = (
        lvalue_goes target held.0,
        expr_goes value held.1,
        assign_by_goes op type computes target value (lvalue_known target held.0) (typed_known value held.1) held.2,
      )
      form_goes type (step up post on) known held = (
        lvalue_goes on held.0,
        typed_as numbers (IsStepOf program.types (moved numbers type)) on
            (step_there unit numbers.before one.types program.types holds.types type (type_of on) known held.1),
      )
      form_goes type (call callee args) known held = (args_go args held.0, holds.uses.callees scope callee type args known held.0 held.1)
      form_goes type (call_by callee args) known held = (
        expr_goes callee held.0,
        args_go args held.1,
        typed_as numbers (IsCallBy program.types (moved numbers type) (exprs_there numbers args)) callee
            (call_by_there unit numbers one.types program.types holds.types type args (type_of callee) (args_known args held.1) held.2),
      )
      form_goes type (comma first second) known held = (
        expr_goes first held.0,
        expr_goes second held.1,
        typed_as numbers (λ found. moved numbers type ≡ found) second (ap (moved numbers) held.2),
      )
      form_goes type (literal number puts) known held = held

      pub lvalue_goes : (of : CExpr) → IsLvalue here of → IsLvalue there (goes numbers of)
      lvalue_goes (expr type place form) held =
          (type_known type held.0, of_object_there numbers.before type held.1, place_goes type form held.0 held.2)

      place_goes : (type : CTy) (form : CForm) → known_in type → IsLvalueForm here type form → IsLvalueForm there (moved numbers type) (value_there numbers form)
      place_goes type (object number) known held = holds.uses.objects scope type number known held
      place_goes type (deref from) known held = (
        expr_goes from held.0,
        typed_as numbers (IsDerefOf (moved numbers type)) from
            (deref_there unit numbers.before one.types program.types holds.types type (type_of from) held.1),
      )
      place_goes type (member of spot) known held = (
        lvalue_goes of held.0,
        typed_as numbers (λ holder. IsMemberOf program.types holder spot (moved numbers type)) of
            (is_member_there numbers.before one.types program.types holds.types.inside (type_of of) spot type held.1),
      )
      place_goes type (literal number puts) known held = (
        literal_by type number (object_with number one.objects) refl held.0.0 held.0.1,
        puts_go type puts held.1,
        in_order_goes numbers 0 puts held.2,
      )
      place_goes type form known held = absurd held

      pub args_go : (args : CExprs) → AreTyped here args → AreTyped there (exprs_there numbers args)
      args_go no_exprs held = held
      args_go (more_exprs first others) held = (expr_goes first held.0, args_go others held.1)

      pub puts_go : (holder : CTy) (puts : CPuts) → ArePuts here holder puts → ArePuts there (moved numbers holder) (puts_there numbers puts)
      puts_go holder no_puts held = held
      puts_go holder (more_puts first others) held = (put_goes holder first held.0, puts_go holder others held.1)

      put_goes : (holder : CTy) (one_put : CPut) → IsTypedPut here holder one_put → IsTypedPut there (moved numbers holder) (put_there numbers one_put)
      put_goes holder (put spot type value) held = (
        expr_goes value held.0,
        typed_as numbers (IsPutOf program.types (moved numbers holder) spot (moved numbers type)) value
            (put_of_there unit numbers.before one.types program.types holds.types holder spot type (type_of value) held.1),
      )

    pub typed_puts_go : (holder : CTy) (puts : CPuts) → AreTypedPuts here holder puts → AreTypedPuts there (moved numbers holder) (puts_there numbers puts)
    typed_puts_go holder puts held = (puts_go holder puts held.0, in_order_goes numbers 0 puts held.1)
