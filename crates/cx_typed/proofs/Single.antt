-- Nodes with one operand: operators, pointers that are followed, addresses and sizes (ISO C99, 6.5.3).
use Rattle.std.proofs.Common.{◌≡◌, ℕ, ◌==◌, Bool, true, false, ◌||◌, ◌&&◌, not, if◌then◌else◌, List, Option, None, Some, is_some, refl, sym, ap, ◌∙◌, subst, inl}
use Rattle.cr_base.specs.declared.refusal.Place.{Place as TextPlace}
use Rattle.cx_core.specs.declared.expr.Op1.{Op1}
use Rattle.cx_core.specs.declared.expr.Op1.TheVariants as op1
use Rattle.cx_core.specs.declared.ty.Basic.TheVariants.{Int}
use Rattle.cx_core.specs.Trees.{CTy, ty, void, basic, enum_type, pointer, array, record_type, function, CTypes, CExpr, expr, whole, null, object, code, load, deref, member, address, convert, unary, binary, and, or, cond, assign, assign_by, step, call, call_by, comma, literal, type_of}
use Rattle.cx_core.specs.Typing.{CHome, IsTyped, IsLvalue, AreTested, int_type, is_bit_field, width_of}
use Rattle.cx_rules.specs.declared.kinds.OperandKind.{OperandKind}
use Rattle.cx_rules.specs.declared.kinds.OperandKind.TheVariants.{Value, Place, Function, VoidPlace}
use Rattle.cx_rules.specs.Meanings.{unary_meaning, deref_meaning, deref_as, address_meaning, address_of_place, and_meaning, or_meaning, comma_meaning}
use Rattle.cx_rules.specs.Nodes.{unary_node, address_node, tests_node, comma_node}
use Rattle.cx_rules.specs.Operands.{COperand, value_type, holds_nothing, gives_nothing, promoted_type}
use Rattle.cx_rules.specs.Rules.{not_signable, has_address}
use Rattle.cx_rules.specs.Scope.{CScope}
use Rattle.cx_rules.specs.Types.{is_scalar, is_pointer, target_of}
use Rattle.cx_typed.proofs.Promoted.{neither, not_not, basic_value, promoted_type_is, promoted_there, scalar_there}
use Rattle.cx_typed.proofs.Growing.{type_stays}
use Rattle.cx_typed.proofs.Same.{both}
use Rattle.cx_typed.proofs.Values.{value_is, value_type_is}
use Rattle.cx_typed.specs.Growth.{Grows}
use Rattle.cx_typed.specs.Operands.{IsKnownType, IsValueType, IsPlaceType, IsPointerType, IsCodePointer, IsVoidPointer, IsOperandTypeBy, IsOperandType, IsTypedBy, IsTypedOperand}
use Rattle.cx_typed.specs.Unbroken.{IsUnbroken}

-- the value of the only operand of a node may be taken
pub one_holds : (types : CTypes) (on : COperand) (other : Bool) → (((gives_nothing on || false) || (holds_nothing types on || false)) || other) ≡ false → holds_nothing types on ≡ false
one_holds types on other is = (neither (neither (neither is).0).1).0

-- the values of both operands of a node may be taken
pub two_hold : (types : CTypes) (left right : COperand) (other : Bool)
    → (((gives_nothing left || (gives_nothing right || false)) || (holds_nothing types left || (holds_nothing types right || false))) || other) ≡ false
    → (holds_nothing types left ≡ false) × (holds_nothing types right ≡ false)
two_hold types left right other is = ((neither (neither (neither is).0).1).0, (neither (neither (neither (neither is).0).1).1).0)

pub no_less : (a : Bool) → (a || false) ≡ false → a ≡ false
no_less false is = refl
no_less true is = absurd cc

-- the operands of a node that may give nothing
pub passed_hold : (types : CTypes) (left right : COperand) → ((false || (holds_nothing types left || (holds_nothing types right || false))) || false) ≡ false
    → (holds_nothing types left ≡ false) × (holds_nothing types right ≡ false)
passed_hold types left right is =
    let held : (holds_nothing types left || (holds_nothing types right || false)) ≡ false = no_less (holds_nothing types left || (holds_nothing types right || false)) is in
    ((neither held).0, no_less (holds_nothing types right) (neither held).1)

bits_by : (width : Option ℕ) (reg : Bool) → not (reg || is_some width) ≡ true → is_some width ≡ false
bits_by None reg is = refl
bits_by (Some one) true is = absurd cc
bits_by (Some one) false is = absurd cc

width_by : (test : Bool) (width : ℕ) → is_some (if test then None else Some width) ≡ not test
width_by true width = refl
width_by false width = refl

-- an lvalue has a width just where it is a bit-field
pub width_is : (core : CExpr) → is_some (width_of core) ≡ is_bit_field core
width_is (expr type place (member of spot)) = width_by (spot.width == 0) spot.width
width_is (expr type place form) = refl

bits_of : (core : CExpr) (is_register : Bool) → not (is_register || is_some (width_of core)) ≡ true → is_bit_field core ≡ false
bits_of core is_register is = sym (width_is core) ∙ bits_by (width_of core) is_register is

module _ (opens : List ℕ) (scope : CScope) (types : CTypes) (at : TextPlace) where
  -- ---- what is known by the types

  module _ (unit : ℕ) where
    abbrev Known : COperand → Type 0
    Known operand = IsOperandType opens types unit operand

    signable : (op : Op1) (on : COperand) → Known on → not_signable types op (value_type on) ≡ false → Known (unary_meaning at types op on)
    signable op1.Plus on held is = promoted_type_is opens types unit on (not_not is)
    signable op1.Minus on held is = promoted_type_is opens types unit on (not_not is)
    signable op1.Complement on held is = promoted_type_is opens types unit on (not_not is)
    signable op1.Not on held is = basic_value opens types unit Int

    pub unary_known : (op : Op1) (on : COperand) → Known on → IsUnbroken scope types (unary_node op on) → Known (unary_meaning at types op on)
    unary_known op on held unbroken = signable op on held (neither unbroken.k10).1

    -- what a value of pointer type points to
    deref_known_by : (from : CExpr) (type : CTy) → type_of from ≡ type → IsValueType opens types unit type → is_pointer type ≡ true → Known (deref_as at from (target_of type))
    deref_known_by from (ty (pointer (ty void to_const)) is_const) e held is = record {
      known = subst (IsKnownType opens types unit) (sym e) held.known;
      target = subst IsVoidPointer (sym e) held.plain;
    }
    deref_known_by from (ty (pointer (ty (function result params variadic) to_const)) is_const) e held is = record {
      known = subst (IsKnownType opens types unit) (sym e) held.known;
      target = subst IsCodePointer (sym e) held.plain;
    }
    deref_known_by from (ty (pointer (ty (basic which) to_const)) is_const) e held is = record {
      known = record { type_in = held.known.type_in; settled = held.known.settled };
      object = tt;
      bits = λ bits. absurd cc;
      followed = e ∙ ap (ty (pointer (ty (basic which) to_const))) held.plain;
    }
    deref_known_by from (ty (pointer (ty (enum_type number) to_const)) is_const) e held is = record {
      known = record { type_in = held.known.type_in; settled = held.known.settled };
      object = tt;
      bits = λ bits. absurd cc;
      followed = e ∙ ap (ty (pointer (ty (enum_type number) to_const))) held.plain;
    }
    deref_known_by from (ty (pointer (ty (pointer to) to_const)) is_const) e held is = record {
      known = record { type_in = held.known.type_in; settled = held.known.settled };
      object = tt;
      bits = λ bits. absurd cc;
      followed = e ∙ ap (ty (pointer (ty (pointer to) to_const))) held.plain;
    }
    deref_known_by from (ty (pointer (ty (array element length) to_const)) is_const) e held is = record {
      known = record { type_in = held.known.type_in; settled = held.known.settled };
      object = tt;
      bits = λ bits. absurd cc;
      followed = e ∙ ap (ty (pointer (ty (array element length) to_const))) held.plain;
    }
    deref_known_by from (ty (pointer (ty (record_type number) to_const)) is_const) e held is = record {
      known = record { type_in = held.known.type_in; settled = held.known.settled };
      object = tt;
      bits = λ bits. absurd cc;
      followed = e ∙ ap (ty (pointer (ty (record_type number) to_const))) held.plain;
    }
    deref_known_by from (ty void is_const) e held is = absurd cc
    deref_known_by from (ty (basic which) is_const) e held is = absurd cc
    deref_known_by from (ty (enum_type number) is_const) e held is = absurd cc
    deref_known_by from (ty (array element length) is_const) e held is = absurd cc
    deref_known_by from (ty (record_type number) is_const) e held is = absurd cc
    deref_known_by from (ty (function result params variadic) is_const) e held is = absurd cc

    pub deref_known : (from : CExpr) → IsValueType opens types unit (type_of from) → is_pointer (type_of from) ≡ true → Known (deref_meaning at from)
    deref_known from held is = deref_known_by from (type_of from) refl held is

    -- the address of an lvalue
    pointer_value : (type : CTy) → IsKnownType opens types unit type → IsValueType opens types unit (ty (pointer type) false)
    pointer_value type known = record { known = record { type_in = known.type_in; settled = known.settled }; plain = refl; form = tt }

    place_address : (core : CExpr) → IsPlaceType opens types unit core → IsValueType opens types unit (type_of (address_of_place at core))
    place_address (expr type place (deref from)) held = subst (IsValueType opens types unit) (sym held.followed) (pointer_value type held.known)
    place_address (expr type place (whole value)) held = pointer_value type held.known
    place_address (expr type place null) held = pointer_value type held.known
    place_address (expr type place (object number)) held = pointer_value type held.known
    place_address (expr type place (code number)) held = pointer_value type held.known
    place_address (expr type place (load from)) held = pointer_value type held.known
    place_address (expr type place (member of spot)) held = pointer_value type held.known
    place_address (expr type place (address of)) held = pointer_value type held.known
    place_address (expr type place (convert value)) held = pointer_value type held.known
    place_address (expr type place (unary op value)) held = pointer_value type held.known
    place_address (expr type place (binary op left right)) held = pointer_value type held.known
    place_address (expr type place (and left right)) held = pointer_value type held.known
    place_address (expr type place (or left right)) held = pointer_value type held.known
    place_address (expr type place (cond test first second)) held = pointer_value type held.known
    place_address (expr type place (assign target value)) held = pointer_value type held.known
    place_address (expr type place (assign_by op computes target value)) held = pointer_value type held.known
    place_address (expr type place (step up post on)) held = pointer_value type held.known
    place_address (expr type place (call callee args)) held = pointer_value type held.known
    place_address (expr type place (call_by callee args)) held = pointer_value type held.known
    place_address (expr type place (comma first second)) held = pointer_value type held.known
    place_address (expr type place (literal number puts)) held = pointer_value type held.known

    code_value : (type : CTy) → IsPointerType opens types unit IsCodePointer type → IsValueType opens types unit type
    code_value (ty (pointer (ty (function result params variadic) to_const)) is_const) held = record { known = held.known; plain = held.target; form = tt }
    code_value type held = absurd held.target

    void_value : (type : CTy) → IsPointerType opens types unit IsVoidPointer type → IsValueType opens types unit type
    void_value (ty (pointer (ty void to_const)) is_const) held = record { known = held.known; plain = held.target; form = tt }
    void_value type held = absurd held.target

    address_known_by : (kind : OperandKind) (is_register : Bool) (core : CExpr) → IsOperandTypeBy kind opens types unit core
        → has_address (record { kind = kind; is_register = is_register; core = core }) ≡ true → Known (address_meaning at (record { kind = kind; is_register = is_register; core = core }))
    address_known_by Value is_register core held is = absurd cc
    address_known_by Place is_register core held is = place_address core held
    address_known_by Function is_register core held is = code_value (type_of core) held
    address_known_by VoidPlace is_register core held is = void_value (type_of core) held

    pub address_known : (of : COperand) → Known of → IsUnbroken scope types (address_node of) → Known (address_meaning at of)
    address_known of held unbroken = address_known_by of.kind of.is_register of.core held (not_not unbroken.k15)

    pub tests_known : (left right : COperand) → Known (and_meaning at left right)
    tests_known left right = basic_value opens types unit Int

    pub comma_known : (first second : COperand) → Known second → Known (comma_meaning at first second)
    comma_known first second held = value_type_is opens types unit second held

  -- ---- in a program

  module _ (home : CHome) (grows : Grows opens types home.program.types) where
    abbrev HeldAt : COperand → Type 0
    HeldAt operand = IsOperandType opens types home.unit operand

    unary_there : (op : Op1) (on : COperand) → HeldAt on → holds_nothing types on ≡ false → not_signable types op (value_type on) ≡ false → IsTypedOperand home on
        → IsTypedOperand home (unary_meaning at types op on)
    unary_there op1.Plus on held holds is typed =
        let made = promoted_there opens types home grows on held holds (not_not is) typed in
        let known = type_stays opens types home.program.types grows home.unit (promoted_type types on) (promoted_type_is opens types home.unit on (not_not is)).known.type_in in
        (known, (made.0.typed, record { promoted = made.1; value_is = made.0.type_is }))
    unary_there op1.Minus on held holds is typed =
        let made = promoted_there opens types home grows on held holds (not_not is) typed in
        let known = type_stays opens types home.program.types grows home.unit (promoted_type types on) (promoted_type_is opens types home.unit on (not_not is)).known.type_in in
        (known, (made.0.typed, record { promoted = made.1; value_is = made.0.type_is }))
    unary_there op1.Complement on held holds is typed =
        let made = promoted_there opens types home grows on held holds (not_not is) typed in
        let known = type_stays opens types home.program.types grows home.unit (promoted_type types on) (promoted_type_is opens types home.unit on (not_not is)).known.type_in in
        (known, (made.0.typed, record { promoted = made.1; value_is = made.0.type_is }))
    unary_there op1.Not on held holds is typed = (
      tt,
      (
        value_is opens types home grows on held holds typed,
        record {
          scalar = scalar_there opens types home grows (value_type on) (value_type_is opens types home.unit on held) (not_not is);
          type_is = refl;
        },
      ),
    )

    pub unary_typed : (op : Op1) (on : COperand) → HeldAt on → IsUnbroken scope types (unary_node op on) → IsTypedOperand home on
        → IsTypedOperand home (unary_meaning at types op on)
    unary_typed op on held unbroken typed = unary_there op on held (one_holds types on (not_signable types op (value_type on)) unbroken.k10) (neither unbroken.k10).1 typed

    -- what a value of pointer type points to
    deref_typed_by : (from : CExpr) (type : CTy) → type_of from ≡ type → IsValueType opens types home.unit type → is_pointer type ≡ true → IsTyped home from
        → IsTypedOperand home (deref_as at from (target_of type))
    deref_typed_by from (ty (pointer (ty void to_const)) is_const) e held is typed = typed
    deref_typed_by from (ty (pointer (ty (function result params variadic) to_const)) is_const) e held is typed = typed
    deref_typed_by from (ty (pointer (ty (basic which) to_const)) is_const) e held is typed =
        (tt, tt, (typed, record { object = tt; pointer_is = e ∙ ap (ty (pointer (ty (basic which) to_const))) held.plain }))
    deref_typed_by from (ty (pointer (ty (enum_type number) to_const)) is_const) e held is typed = (
      type_stays opens types home.program.types grows home.unit (ty (enum_type number) to_const) held.known.type_in,
      tt,
      (typed, record { object = tt; pointer_is = e ∙ ap (ty (pointer (ty (enum_type number) to_const))) held.plain }),
    )
    deref_typed_by from (ty (pointer (ty (pointer to) to_const)) is_const) e held is typed = (
      type_stays opens types home.program.types grows home.unit (ty (pointer to) to_const) held.known.type_in,
      tt,
      (typed, record { object = tt; pointer_is = e ∙ ap (ty (pointer (ty (pointer to) to_const))) held.plain }),
    )
    deref_typed_by from (ty (pointer (ty (array element length) to_const)) is_const) e held is typed = (
      type_stays opens types home.program.types grows home.unit (ty (array element length) to_const) held.known.type_in,
      tt,
      (typed, record { object = tt; pointer_is = e ∙ ap (ty (pointer (ty (array element length) to_const))) held.plain }),
    )
    deref_typed_by from (ty (pointer (ty (record_type number) to_const)) is_const) e held is typed = (
      type_stays opens types home.program.types grows home.unit (ty (record_type number) to_const) held.known.type_in,
      tt,
      (typed, record { object = tt; pointer_is = e ∙ ap (ty (pointer (ty (record_type number) to_const))) held.plain }),
    )
    deref_typed_by from (ty void is_const) e held is typed = absurd cc
    deref_typed_by from (ty (basic which) is_const) e held is typed = absurd cc
    deref_typed_by from (ty (enum_type number) is_const) e held is typed = absurd cc
    deref_typed_by from (ty (array element length) is_const) e held is typed = absurd cc
    deref_typed_by from (ty (record_type number) is_const) e held is typed = absurd cc
    deref_typed_by from (ty (function result params variadic) is_const) e held is typed = absurd cc

    pub deref_typed : (from : CExpr) → IsValueType opens types home.unit (type_of from) → is_pointer (type_of from) ≡ true → IsTyped home from
        → IsTypedOperand home (deref_meaning at from)
    deref_typed from held is typed = deref_typed_by from (type_of from) refl held is typed

    place_address_typed : (core : CExpr) → is_bit_field core ≡ false → IsLvalue home core → IsTyped home (address_of_place at core)
    place_address_typed (expr type place (deref from)) bits typed = typed.2.0
    place_address_typed (expr type place (object number)) bits typed = (typed.0, (typed, record { no_bits = bits; type_is = inl refl }))
    place_address_typed (expr type place (member of spot)) bits typed = (typed.0, (typed, record { no_bits = bits; type_is = inl refl }))
    place_address_typed (expr type place (literal number puts)) bits typed = (typed.0, (typed, record { no_bits = bits; type_is = inl refl }))
    place_address_typed (expr type place form) bits typed = absurd typed.2

    address_typed_by : (kind : OperandKind) (is_register : Bool) (core : CExpr)
        → has_address (record { kind = kind; is_register = is_register; core = core }) ≡ true → IsTypedBy kind home core
        → IsTypedOperand home (address_meaning at (record { kind = kind; is_register = is_register; core = core }))
    address_typed_by Value is_register core is typed = absurd cc
    address_typed_by Place is_register core is typed = place_address_typed core (bits_of core is_register is) typed
    address_typed_by Function is_register core is typed = typed
    address_typed_by VoidPlace is_register core is typed = typed

    pub address_typed : (of : COperand) → IsUnbroken scope types (address_node of) → IsTypedOperand home of → IsTypedOperand home (address_meaning at of)
    address_typed of unbroken typed = address_typed_by of.kind of.is_register of.core (not_not unbroken.k15) typed

    -- ---- `&&` and `||`

    pub tests_typed : (left right : COperand) → HeldAt left → HeldAt right → IsUnbroken scope types (tests_node left right) → IsTypedOperand home left → IsTypedOperand home right
        → IsTypedOperand home (and_meaning at left right) × IsTypedOperand home (or_meaning at left right)
    tests_typed left right first second unbroken one other =
        let holds = two_hold types left right (not (is_scalar types (value_type left) && is_scalar types (value_type right))) unbroken.k10 in
        let scalars = both (not_not (neither unbroken.k10).1) in
        let one_is = value_is opens types home grows left first holds.0 one in
        let other_is = value_is opens types home grows right second holds.1 other in
        let tested : AreTested home.program.types int_type (value_type left) (value_type right) = record {
          left_scalar = scalar_there opens types home grows (value_type left) (value_type_is opens types home.unit left first) scalars.0;
          right_scalar = scalar_there opens types home grows (value_type right) (value_type_is opens types home.unit right second) scalars.1;
          type_is = refl;
        } in
        ((tt, (one_is, other_is, tested)), (tt, (one_is, other_is, tested)))

    pub comma_typed : (first second : COperand) → HeldAt first → HeldAt second → IsUnbroken scope types (comma_node first second) → IsTypedOperand home first → IsTypedOperand home second
        → IsTypedOperand home (comma_meaning at first second)
    comma_typed first second one other unbroken one_typed other_typed =
        let holds = passed_hold types first second unbroken.k10 in (
          type_stays opens types home.program.types grows home.unit (value_type second) (value_type_is opens types home.unit second other).known.type_in,
          (value_is opens types home grows first one holds.0 one_typed, value_is opens types home grows second other holds.1 other_typed, refl),
        )
