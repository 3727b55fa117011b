-- The values of typed operands are typed (ISO C99, 6.3.2.1, 6.3.2.2).
use Rattle.std.proofs.Common.{◌≡◌, ℕ, Bool, true, false, ◌&&◌, not, List, Option, refl, sym, ap, ◌∙◌, inr}
use Rattle.cr_base.specs.declared.refusal.Place.{Place as TextPlace}
use Rattle.cx_core.specs.Conversions.{IsIntegerType}
use Rattle.cx_core.specs.Trees.{CTy, ty, CTyForm, void, basic, enum_type, pointer, array, record_type, function, unqualified, CTypes, CExpr, expr, CForm, type_of}
use Rattle.cx_core.specs.Typing.{CHome, IsTyped, IsLvalue, is_bit_field}
use Rattle.cx_core.specs.ValidTypes.{IsTypeIn, IsComplete}
use Rattle.cx_rules.specs.declared.kinds.OperandKind.{OperandKind}
use Rattle.cx_rules.specs.declared.kinds.OperandKind.TheVariants.{Value, Place, Function, VoidPlace}
use Rattle.cx_rules.specs.Operands.{COperand, value_by, value_of, value_of_place, value_type, holds_nothing}
use Rattle.cx_rules.specs.Types.{is_array, is_complete}
use Rattle.cx_typed.proofs.Growing.{complete_stays}
use Rattle.cx_typed.specs.Growth.{Grows}
use Rattle.cx_typed.specs.Operands.{IsKnownType, IsValueType, IsPlaceType, IsCodePointer, IsPointerType, IsOperandTypeBy, IsOperandType, IsTypedBy, IsTypedOperand}

-- the value of an lvalue can be taken (6.3.2.1p2)
abbrev place_holds_nothing : CTypes → CTy → Bool
place_holds_nothing types type = not (is_array type) && not (is_complete types type)

complete_by : (types : CTypes) (type : CTy) (complete : Bool) → is_complete types type ≡ complete → not complete ≡ false → IsComplete types type
complete_by types type true is held = is
complete_by types type false is held = absurd cc

no_bits_by : (types : CTypes) (element : CTy) (length : Option ℕ) (is_const : Bool) (core : CExpr) (bits : Bool) → is_bit_field core ≡ bits
    → (is_bit_field core ≡ true → IsIntegerType types (ty (array element length) is_const)) → is_bit_field core ≡ false
no_bits_by types element length is_const core false is held = is
no_bits_by types element length is_const core true is held = absurd (let h : false ≡ true = held is in cc)

module _ (opens : List ℕ) (types : CTypes) where
  -- ---- the types of values

  module _ (unit : ℕ) where
    -- the type without its qualifier
    known_plain : (form : CTyForm) (is_const : Bool) → IsKnownType opens types unit (ty form is_const) → IsKnownType opens types unit (ty form false)
    known_plain void is_const known = record { type_in = known.type_in; settled = known.settled }
    known_plain (basic which) is_const known = record { type_in = known.type_in; settled = known.settled }
    known_plain (enum_type number) is_const known = record { type_in = known.type_in; settled = known.settled }
    known_plain (pointer to) is_const known = record { type_in = known.type_in; settled = known.settled }
    known_plain (array element length) is_const known = record {
      type_in = (known.type_in.0, record { plain = refl; complete = known.type_in.1.complete; length = known.type_in.1.length });
      settled = known.settled;
    }
    known_plain (record_type number) is_const known = record { type_in = known.type_in; settled = known.settled }
    known_plain (function result params variadic) is_const known = record { type_in = known.type_in; settled = known.settled }

    pub unqualified_known : (type : CTy) → IsKnownType opens types unit type → IsKnownType opens types unit (unqualified type)
    unqualified_known (ty form is_const) known = known_plain form is_const known

    value_type_of_place : (type : CTy) (place : TextPlace) (form : CForm) → IsPlaceType opens types unit (expr type place form) → IsValueType opens types unit (type_of (value_of_place (expr type place form)))
    value_type_of_place (ty void is_const) place form held = absurd held.object
    value_type_of_place (ty (basic which) is_const) place form held = record { known = known_plain (basic which) is_const held.known; plain = refl; form = tt }
    value_type_of_place (ty (enum_type number) is_const) place form held = record { known = known_plain (enum_type number) is_const held.known; plain = refl; form = tt }
    value_type_of_place (ty (pointer to) is_const) place form held = record { known = known_plain (pointer to) is_const held.known; plain = refl; form = tt }
    value_type_of_place (ty (array element length) is_const) place form held = record {
      known = record { type_in = held.known.type_in.0; settled = held.known.settled };
      plain = refl;
      form = tt;
    }
    value_type_of_place (ty (record_type number) is_const) place form held = record { known = known_plain (record_type number) is_const held.known; plain = refl; form = tt }
    value_type_of_place (ty (function result params variadic) is_const) place form held = absurd held.object

    code_value : (type : CTy) → IsPointerType opens types unit IsCodePointer type → IsValueType opens types unit type
    code_value (ty (pointer (ty (function result params variadic) to_const)) is_const) held = record { known = held.known; plain = held.target; form = tt }
    code_value type held = absurd held.target

    pub value_type_by : (kind : OperandKind) (core : CExpr) → IsOperandTypeBy kind opens types unit core → IsValueType opens types unit (type_of (value_by kind core))
    value_type_by Value core held = held
    value_type_by Place (expr type place form) held = value_type_of_place type place form held
    value_type_by Function core held = code_value (type_of core) held
    value_type_by VoidPlace (expr type place form) held = record { known = record { type_in = tt; settled = tt }; plain = refl; form = tt }

    -- the type of the value of an operand
    pub value_type_is : (operand : COperand) → IsOperandType opens types unit operand → IsValueType opens types unit (value_type operand)
    value_type_is operand held = value_type_by operand.kind operand.core held

  -- ---- values in a program

  module _ (home : CHome) (grows : Grows opens types home.program.types) where
    abbrev at_home : CTy → Type 0
    at_home type = IsTypeIn home.program.types home.unit type

    loaded : (form : CTyForm) (is_const : Bool) → place_holds_nothing types (ty form is_const) ≡ false → is_array (ty form is_const) ≡ false
        → IsComplete home.program.types (ty form is_const)
    loaded form is_const holds no_array =
        complete_stays opens types home.program.types grows (ty form is_const)
        (complete_by types (ty form is_const) (is_complete types (ty form is_const)) refl (sym (ap (λ array. not array && not (is_complete types (ty form is_const))) no_array) ∙ holds))

    value_of_place_is : (type : CTy) (place : TextPlace) (form : CForm) → IsPlaceType opens types home.unit (expr type place form)
        → place_holds_nothing types type ≡ false → IsLvalue home (expr type place form) → IsTyped home (value_of_place (expr type place form))
    value_of_place_is (ty void is_const) place form held holds typed = absurd held.object
    value_of_place_is (ty (basic which) is_const) place form held holds typed =
        (tt, (typed, record { complete = loaded (basic which) is_const holds refl; no_array = tt; type_is = refl }))
    value_of_place_is (ty (enum_type number) is_const) place form held holds typed =
        (typed.0, (typed, record { complete = loaded (enum_type number) is_const holds refl; no_array = tt; type_is = refl }))
    value_of_place_is (ty (pointer to) is_const) place form held holds typed =
        (typed.0, (typed, record { complete = loaded (pointer to) is_const holds refl; no_array = tt; type_is = refl }))
    value_of_place_is (ty (array element length) is_const) place form held holds typed = (
      typed.0.0,
      (
        typed,
        record {
          no_bits = no_bits_by types element length is_const (expr (ty (array element length) is_const) place form) (is_bit_field (expr (ty (array element length) is_const) place form)) refl held.bits;
          type_is = inr refl;
        },
      ),
    )
    value_of_place_is (ty (record_type number) is_const) place form held holds typed =
        (typed.0, (typed, record { complete = loaded (record_type number) is_const holds refl; no_array = tt; type_is = refl }))
    value_of_place_is (ty (function result params variadic) is_const) place form held holds typed = absurd held.object

    value_by_is : (kind : OperandKind) (core : CExpr) (is_register : Bool) → IsOperandTypeBy kind opens types home.unit core
        → holds_nothing types (record { kind = kind; is_register = is_register; core = core }) ≡ false → IsTypedBy kind home core → IsTyped home (value_by kind core)
    value_by_is Value core is_register held holds typed = typed
    value_by_is Place (expr type place form) is_register held holds typed = value_of_place_is type place form held holds typed
    value_by_is Function core is_register held holds typed = typed
    value_by_is VoidPlace (expr type place form) is_register held holds typed = (tt, (typed, record { plain = refl; allowed = tt }))

    -- the value of an operand that may be taken is typed
    pub value_is : (operand : COperand) → IsOperandType opens types home.unit operand → holds_nothing types operand ≡ false → IsTypedOperand home operand
        → IsTyped home (value_of operand)
    value_is operand held holds typed = value_by_is operand.kind operand.core operand.is_register held holds typed
